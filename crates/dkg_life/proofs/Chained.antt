-- One course behind another, over the devices and in what is said.
use Rattle.std.proofs.Common.{List, sym, subst}
use Rattle.dkg_journal.specs.Names.{Files}
use Rattle.dkg_infos.specs.declared.entry.Entry.{Entry}
use Rattle.dkg_infos.specs.declared.fault.Fault.{Fault}
use Rattle.dkg_store.specs.Acts.{Acts, Ended, Moment, went}
use Rattle.dkg_core.specs.Courses.{Course, bind, on_devices}
use Rattle.dkg_life.specs.declared.stop.Stop.{Stop}
use Rattle.dkg_life.specs.Ends.{by_stop}
use Rattle.dkg_life.specs.Made.{MakesAt, Tells}
use Rattle.dkg_core.specs.Said.{Said}
use Rattle.dkg_life.proofs.Burning.{makes_early, makes_next}
use Rattle.dkg_life.proofs.Said.{said_early, said_next}
use Rattle.dkg_life.proofs.Under.{on_bind}

module _ {Dir S T : Type 0} (course : Course Dir Fault S) (next : S → Course Dir Fault T) where
  pub then_makes : (end : S) (how : Ended Fault T) {files files_mid files_now : Files} {image between now : Files → Type 0} {old mid new : Moment}
      → MakesAt (on_devices course) (went end) files image files_mid between old mid → MakesAt (on_devices (next end)) how files_mid between files_now now mid new
      → MakesAt (on_devices (bind course next)) how files image files_now now old new
  then_makes end how {files} {files_mid} {files_now} {image} {between} {now} {old} {mid} {new} first second =
      subst (λ (x : Acts Fault T). MakesAt x how files image files_now now old new) (sym (on_bind course next)) (makes_next (λ s. on_devices (next s)) first second)

  pub early_makes : (stop : Stop) {files files_now : Files} {image now : Files → Type 0} {old new : Moment}
      → MakesAt (on_devices course) (by_stop stop) files image files_now now old new → MakesAt (on_devices (bind course next)) (by_stop stop) files image files_now now old new
  early_makes stop {files} {files_now} {image} {now} {old} {new} first =
      subst (λ (x : Acts Fault T). MakesAt x (by_stop stop) files image files_now now old new) (sym (on_bind course next)) (makes_early (λ s. on_devices (next s)) stop first)

  pub then_told : (end : S) (how : Ended Fault T) {out mid now : List Entry} → Tells course (went end) out mid → Tells (next end) how mid now → Tells (bind course next) how out now
  then_told end how {out} {mid} {now} first second =
      subst (λ (x : Acts Fault T). Said x how out now) (sym (on_bind course next)) (said_next (λ s. on_devices (next s)) first second)

  pub early_told : (stop : Stop) {out now : List Entry} → Tells course (by_stop stop) out now → Tells (bind course next) (by_stop stop) out now
  early_told stop {out} {now} first =
      subst (λ (x : Acts Fault T). Said x (by_stop stop) out now) (sym (on_bind course next)) (said_early (λ s. on_devices (next s)) stop first)
