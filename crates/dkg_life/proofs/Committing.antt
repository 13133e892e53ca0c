-- A commit and a registration: what they leave known.
use Rattle.std.proofs.Common.{◌≡◌, List, [], Result, Ok, Err, refl, sym, subst, append-nil}
use Rattle.std.specs.Prelude.{IfErr, OnOk}
use Rattle.dkg_infos.specs.declared.entry.Entry.{Entry}
use Rattle.dkg_infos.specs.declared.fault.Fault.{Fault}
use Rattle.dkg_infos.specs.declared.fault.Fault.TheVariants.{NoMemory}
use Rattle.dkg_journal.specs.Names.{Files}
use Rattle.dkg_store.specs.Acts.{Ended, Moment, went}
use Rattle.dkg_core.specs.Courses.{Course, Goes, on_devices}
use Rattle.dkg_life.specs.declared.stop.Stop.{Stop}
use Rattle.dkg_life.specs.declared.stop.Stop.TheVariants.{Fault as Faulted}
use Rattle.dkg_life.specs.Ends.{IsCaused, IsOutside}
use Rattle.dkg_life.specs.Made.{MakesAt, Tells}

-- want of memory comes from outside, and blames nothing
pub of_memory : {T : Type 0} (disk secrets reached : Type 0) (r : Result T Stop) → IfErr r (λ stop. stop ≡ Faulted NoMemory) → IfErr r (λ stop. IsOutside stop × IsCaused stop disk secrets reached)
of_memory disk secrets reached (Ok x) is = tt
of_memory disk secrets reached (Err stop) is = let P : Stop → Type 0 = λ its. IsOutside its × IsCaused its disk secrets reached in subst P (sym is) (refl, tt)

-- what holds anyway
pub in_any : {T E A : Type 0} (r : Result T E) → A → OnOk r A
in_any (Ok x) a = a
in_any (Err e) a = tt

-- It goes on at once, and says nothing.
pub goes_told : (Dir : Type 0) {S : Type 0} (end : S) (out : List Entry) → Tells {Dir = Dir} {F = Fault} (Goes end) (went end) out out
goes_told Dir end out = record { lines = []; added = sym (append-nil out); by = (refl, refl) }

-- THE SAME COURSE

module _ {Dir S : Type 0} {course its : Course Dir Fault S} (same : its ≡ course) {how : Ended Fault S} where
  pub same_made : {files files_now : Files} {image now : Files → Type 0} {old new : Moment} → MakesAt (on_devices course) how files image files_now now old new → MakesAt (on_devices its) how files image files_now now old new
  same_made {files} {files_now} {image} {now} {old} {new} made = subst (λ (x : Course Dir Fault S). MakesAt (on_devices x) how files image files_now now old new) (sym same) made

  pub same_told : {out now : List Entry} → Tells course how out now → Tells its how out now
  same_told {out} {now} told = subst (λ (x : Course Dir Fault S). Tells x how out now) (sym same) told
