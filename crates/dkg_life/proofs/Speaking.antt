-- Courses that touch no device.
use Rattle.std.proofs.Common.{◌≡◌, List, [], ◌∷◌, ◌++◌, Option, None, refl, sym, ap, subst}
use Rattle.dkg_journal.specs.Burn.{Burn}
use Rattle.dkg_infos.specs.declared.entry.Entry.{Entry}
use Rattle.dkg_infos.specs.declared.fault.Fault.{Fault}
use Rattle.dkg_infos.specs.declared.fault.Fault.TheVariants.{NoMemory}
use Rattle.dkg_store.specs.Acts.{Cause, Ended, Held, Runs, World, went, broken, by_want}
use Rattle.dkg_store.proofs.Acts.{breaks_none}
use Rattle.dkg_core.specs.Courses.{Course, Say, Goes, Stops, on_devices}
use Rattle.dkg_life.specs.declared.stop.Stop.{Stop}
use Rattle.dkg_life.specs.declared.stop.Stop.TheVariants.{Fault as Faulted}
use Rattle.dkg_life.specs.Ends.{by_cause, by_stop, cause_in}
use Rattle.dkg_life.specs.Made.{Speaks}

abbrev world_of : List Entry → Held → Burn → World
world_of out h f = record { out = out; held = h; fuse = f }

module _ {Dir S : Type 0} (course : Course Dir Fault S) where
  -- it goes on, and says nothing
  pub goes_speaks : (end its : S) → course ≡ Goes its → end ≡ its → (out : List Entry) → Speaks course (went end) out out
  goes_speaks end its is same out = λ h f. subst (λ (x : Course Dir Fault S). Runs (on_devices x) (went end) (world_of out h f) (world_of out h f)) (sym is) (refl, same)

  -- it stops by a fault of its own
  pub stops_speaks : (its : Fault) → course ≡ Stops its → cause_in its ≡ None → (out : List Entry) → Speaks course (by_stop (Faulted its)) out out
  stops_speaks its is own out = λ h f.
      subst (λ (x : Course Dir Fault S). Runs (on_devices x) (by_stop (Faulted its)) (world_of out h f) (world_of out h f)) (sym is)
      (let P : Ended Fault S → Type 0 = λ how. Runs (on_devices {Dir = Dir} (Stops its)) how (world_of out h f) (world_of out h f) in
      subst (λ (q : Option Cause). P (by_cause q its)) (sym own) (refl, refl))

  -- it found no memory before its first line
  pub want_speaks : (out : List Entry) → Speaks course (broken by_want) out out
  want_speaks out = λ h f. breaks_none by_want tt (on_devices course) (world_of out h f)

  -- .. and so it ends by want of memory, with nothing said
  pub wants_speaks : (stop : Stop) → stop ≡ Faulted NoMemory → (out now : List Entry) → now ≡ out → Speaks course (by_stop stop) out now
  wants_speaks stop is out now same =
      subst (λ (l : List Entry). Speaks course (by_stop stop) out l) (sym same)
      (subst (λ (how : Ended Fault S). Speaks course how out out) (sym (ap (λ (its : Stop). by_stop {S = S} its) is)) (want_speaks out))

  -- it stops by a fault that it gives, or found no memory
  pub gives_speaks : (stop : Stop) (its : Fault) → stop ≡ Faulted its → course ≡ Stops its → cause_in its ≡ None → (out : List Entry) → Speaks course (by_stop stop) out out
  gives_speaks stop its ends is own out =
      subst (λ (how : Ended Fault S). Speaks course how out out) (sym (ap (λ (s : Stop). by_stop {S = S} s) ends)) (stops_speaks its is own out)

  -- it says one line, and goes on
  pub says_speaks : (line : Entry) (end its : S) → course ≡ Say line (Goes its) → end ≡ its → (out now : List Entry) → now ≡ out ++ line ∷ [] → Speaks course (went end) out now
  says_speaks line end its is same out now told = λ h f.
      subst (λ (x : Course Dir Fault S). Runs (on_devices x) (went end) (world_of out h f) (world_of now h f)) (sym is)
      (ap (λ (l : List Entry). world_of l h f) told, same)
