-- The order of a transcript by the script's lives and cuts, of which nothing is presumed: each entry stands in its life
-- and step, no step goes unopened or uncounted, and a life that is cut before a step ends there.
use Rattle.std.specs.Prelude.{ℕ, List, [], ◌≡◌, ◌<◌, ◌⊎◌, Bool, true, false, IsTrue, IsFalse, IfSome, IsSomeAnd, length}
use Rattle.std.specs.List.{list_any}
use Rattle.dkg_infos.specs.declared.entry.Entry.{Entry}
use Rattle.dkg_infos.specs.declared.entry.Entry.TheVariants.{Opened, Cut, Step, Fault}
use Rattle.dkg_text.specs.declared.script.Life.{Life}
use Rattle.dkg_script.specs.Setting.{Setting, life_at}
use Rattle.dkg_script.specs.Progress.{Progress, AtEachEntry}

abbrev pub is_opened : Entry → Bool
is_opened (Opened life restored) = true
is_opened _ = false

-- the life in hand, of which P holds
abbrev pub InLife : Setting → Progress → (Life → Type 0) → Type 0
InLife s p P = IsSomeAnd (life_at s (length p.cuts)) P

-- the script lets the step in hand begin: it does not cut the life before it
abbrev pub LetsBegin : Progress → Life → Type 0
LetsBegin p life = IfSome life.cut (λ cut. cut.call ≡ 0 → p.step < cut.step)

-- the life's one opening, by its number
pub record IsOrderedOpening (s : Setting) (p : Progress) (life : ℕ) : Type 0 where
  pub in_life : InLife s p (λ its. (life ≡ length p.cuts) × LetsBegin p its)
  pub at_opening : p.step ≡ 0
  pub once : IsFalse (list_any is_opened p.written)

-- the end of the step in hand, and of an opening only where its entry is there
pub record IsOrderedStep (p : Progress) (step : ℕ) (life : Life) : Type 0 where
  pub in_hand : step ≡ p.step
  pub begins : LetsBegin p life
  pub has_opened : step ≡ 0 → IsTrue (list_any is_opened p.written)

-- the script's own cut, within the step in hand, or before it
pub record IsOrderedCut (p : Progress) (step call : ℕ) (life : Life) : Type 0 where
  pub in_hand : step ≡ p.step
  pub of_script : IsSomeAnd life.cut (λ cut. (cut.step ≡ step) × (cut.call ≡ call))
  pub before_step : call ≡ 0 → p.written ≡ []

-- Where an entry may stand after what was written before it. A fault stands at the very start, or in a life that begins.
abbrev pub IsInOrder : Setting → Progress → Entry → Type 0
IsInOrder s p (Opened life restored) = IsOrderedOpening s p life
IsInOrder s p (Step step) = InLife s p (IsOrderedStep p step)
IsInOrder s p (Cut step call) = InLife s p (IsOrderedCut p step call)
IsInOrder s p (Fault fault) = ((p.cuts ≡ []) × (p.step ≡ 0) × (p.written ≡ [])) ⊎ InLife s p (LetsBegin p)
IsInOrder s p other = InLife s p (LetsBegin p)

unfoldable pub InOrder : Setting → List Entry → Type 0
InOrder s out = AtEachEntry s (IsInOrder s) out
