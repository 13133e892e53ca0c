use Rattle.std.proofs.Common.{◌≡◌, IsTrue}
use Rattle.std.specs.FinMap as map
use Rattle.dkg_journal.specs.Journals.{IsOpen}
use Rattle.dkg_store.specs.Recorded.{AreChecked, at_epoch}
use Rattle.dkg_store_calls.proofs.playing.hear_all.Given as goal

abbrev pub invariant-loop-one : goal.invariant-loop-one
invariant-loop-one g l = record {
  me : l.player.me ≡ l.initial.player.me;
  round : l.player.round ≡ l.initial.player.round;
  mirrors : map.entries l.player.dealings ≡ at_epoch l.epoch l.store.dealings;
  passes : AreChecked (g.C.Ceremony.dealing_of l.initial.player.round l.initial.player.me) l.player.dealings;
  «open» : IsTrue g.D.Disk.tells → IsOpen l.store.journal (g.D.Disk.files l.devices.disk.now) (g.D.Disk.image l.devices.disk.now);
}
