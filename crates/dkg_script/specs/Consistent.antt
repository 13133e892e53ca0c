-- What is presumed of a script: one chain, one info for each epoch, no way back, no message from this node itself.
use Rattle.std.specs.Prelude.{ℕ, List, [], ◌∷◌, ◌≡◌, ◌<◌, ◌≤◌, ◌+◌, ◌⊎◌, Option, Some, None, IfSome, length}
use Rattle.std.specs.List.{AllByRecursion}
use Rattle.dkg_text.specs.declared.script.Cut.{Cut}
use Rattle.dkg_text.specs.declared.script.Event.{Event}
use Rattle.dkg_text.specs.declared.script.Event.TheVariants.{Peer}
use Rattle.dkg_text.specs.declared.script.Life.{Life}
use Rattle.dkg_script.specs.Setting.{Setting, CutAt, me}
use Rattle.dkg_script.specs.Blocks.{used, chain, chain_below, carried_infos, known_info}
use Rattle.dkg_script.specs.Position.{awaited_before, awaited_epoch_in}

-- no peer's message has this node's own key
abbrev pub IsFromAnother : ℕ → Event → Type 0
IsFromAnother me (Peer from bytes) = from ≡ me → ⊥
IsFromAnother me _ = Unit {0}

-- HOW LIVES MAY END: at their end or, where the script cuts them, there. Of a cut whose call may never come both can be.

-- the call of a cut may never come: the cut lies within a step, or behind the last event
abbrev pub MayMiss : Cut → (events : ℕ) → Type 0
MayMiss cut events = (0 < cut.call) ⊎ (events < cut.step)

abbrev pub MayEnd : (events : ℕ) → Option Cut → Option CutAt → Type 0
MayEnd events None end = end ≡ None
MayEnd events (Some cut) end = (end ≡ Some (record { step = cut.step; call = cut.call })) ⊎ (MayMiss cut events × (end ≡ None))

-- the first lives may have ended so
abbrev pub MayEndSo : List Life → List (Option CutAt) → Type 0
MayEndSo lives [] = Unit {0}
MayEndSo [] (end ∷ ends) = ⊥
MayEndSo (life ∷ lives) (end ∷ ends) = MayEnd (length life.events) life.cut end × MayEndSo lives ends

-- THE SCRIPT, where its first lives ended so
pub record IsConsistentScript (s : Setting) (cuts : List (Option CutAt)) : Type 0 where
  pub one_chain : AllByRecursion (λ b. chain s b.height ≡ Some b) (used s)
  pub linked : AllByRecursion (λ b. IfSome (chain_below s b.height) (λ below. b.parent ≡ below.digest)) (used s)
  pub one_info : AllByRecursion (λ info. known_info s info.epoch ≡ Some info) (carried_infos s)
  -- no life that began started more than one epoch below what was awaited before it
  pub never_back : (l : ℕ) → l < length s.script.lives → l ≤ length cuts → awaited_before s cuts l ≤ awaited_epoch_in s l 0 + 1
  pub others : AllByRecursion (λ life. AllByRecursion (IsFromAnother (me s)) life.events) s.script.lives
