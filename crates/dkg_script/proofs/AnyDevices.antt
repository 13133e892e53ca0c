-- The order of a transcript says nothing of the devices: where it stands for some, it stands for any.
use Rattle.std.proofs.Common.{ℕ, suc, List, [], ◌∷◌, ◌≡◌, refl, sym, subst, Option, Some, None, Bool, true, false, length}
use Rattle.std.specs.Prelude.{fold, cond, slice_get, IsSomeAnd}
use Rattle.dkg_infos.specs.declared.entry.Entry.{Entry}
use Rattle.dkg_infos.specs.declared.entry.Entry.TheVariants.{Opened, Recorded, Cut, Step}
use Rattle.dkg_text.specs.declared.script.Life.{Life}
use Rattle.dkg_infos.specs.declared.entry.Restored.{Restored}
use Rattle.dkg_text.specs.declared.script.Script.{Script}
use Rattle.dkg_journal.specs.Names.{Files}
use Rattle.dkg_secrets.specs.Secrets.{Secrets}
use Rattle.dkg_script.specs.Setting.{Setting, setting_of}
use Rattle.dkg_script.specs.Progress.{Progress, read, at_start, progress, is_last_step, with_life_ended}
use Rattle.dkg_script.specs.Order.{IsInOrder, InOrder, IsOrderedStep, IsOrderedCut}
use Rattle.dkg_script.specs.Promise.{RunsInOrder}

module _ (script : Script) (files files' : Files) (secrets secrets' : Secrets) where
  abbrev a : Setting
  a = setting_of script files secrets

  abbrev b : Setting
  b = setting_of script files' secrets'

  -- one progress with other dealings recorded
  read_like : (p : Progress) (other : List Restored) (entry : Entry) → (more : List Restored) × (read b (record p { recorded = other }) entry ≡ record (read a p entry) { recorded = more })
  read_like p other (Opened life restored) = (_, refl)
  read_like p other (Recorded x y z w) = (_, refl)
  read_like p other (Cut step call) = (other, refl)
  read_like p other (Step step) = (other, by_case (is_last_step a p))
    where
      by_case : (last : Bool) → cond last (with_life_ended (record p { recorded = other }) None) (record p { recorded = other; step = suc p.step; written = [] })
          ≡ record (cond last (with_life_ended p None) (record p { step = suc p.step; written = [] })) { recorded = other }
      by_case true = refl
      by_case false = refl
  read_like p other entry = (other, refl)

  fold_like : (out : List Entry) (p : Progress) (other : List Restored)
      → (more : List Restored) × (fold (read b) (record p { recorded = other }) out ≡ record (fold (read a) p out) { recorded = more })
  fold_like [] p other = (other, refl)
  fold_like (entry ∷ out) p other =
      let one = read_like p other entry
      in let rest = fold_like out (read a p entry) one.0
      in (rest.0, subst (λ q. fold (read b) q out ≡ record (fold (read a) (read a p entry) out) { recorded = rest.0 }) (sym one.1) rest.1)

  step_like : (p : Progress) (other : List Restored) (step : ℕ) (life : Option Life) → IsSomeAnd life (IsOrderedStep p step)
      → IsSomeAnd life (IsOrderedStep (record p { recorded = other }) step)
  step_like p other step None h = absurd h
  step_like p other step (Some life) h = record { in_hand = h.in_hand; begins = h.begins; has_opened = h.has_opened }

  cut_like : (p : Progress) (other : List Restored) (step call : ℕ) (life : Option Life) → IsSomeAnd life (IsOrderedCut p step call)
      → IsSomeAnd life (IsOrderedCut (record p { recorded = other }) step call)
  cut_like p other step call None h = absurd h
  cut_like p other step call (Some life) h = record { in_hand = h.in_hand; of_script = h.of_script; before_step = h.before_step }

  -- where an entry may stand doesn't depend on them
  in_order_like : (p : Progress) (other : List Restored) (entry : Entry) → IsInOrder a p entry → IsInOrder b (record p { recorded = other }) entry
  in_order_like p other (Opened life restored) h = record { in_life = h.in_life; at_opening = h.at_opening; once = h.once }
  in_order_like p other (Step step) h = step_like p other step (slice_get script.lives (length p.cuts)) h
  in_order_like p other (Cut step call) h = cut_like p other step call (slice_get script.lives (length p.cuts)) h
  in_order_like p other entry h = h

pub any_devices : (script : Script) (files : Files) (secrets : Secrets) (out : List Entry) → InOrder (setting_of script files secrets) out → RunsInOrder script out
unfolding progress InOrder
any_devices script files secrets out ordered files' secrets' before entry after e =
    let s = setting_of script files secrets
    in let other = setting_of script files' secrets'
    in let same = fold_like script files files' secrets secrets' before (at_start s) (at_start other).recorded
    in subst (λ q. IsInOrder other q entry) (sym same.1)
    (in_order_like script files files' secrets secrets' (progress s before) same.0 entry (ordered before entry after e))
