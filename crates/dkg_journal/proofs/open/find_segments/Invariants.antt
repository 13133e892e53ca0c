use Rattle.std.proofs.Common.{◌≡◌, ◌≤◌, [], drop, IsTrue}
use Rattle.std.specs.FinMap.{entries, keys}
use Rattle.dkg_journal.specs.Disk.{IsUnchanged}
use Rattle.dkg_journal.proofs.Finding.{Along}
use Rattle.dkg_journal.proofs.open.find_segments.Given as goal

abbrev pub invariant-loop-name : goal.invariant-loop-name
invariant-loop-name g l = record {
  same : IsUnchanged g.D.Disk.files g.D.Disk.image l.initial.disk l.disk;
  later : g.D.Disk.faults l.initial.disk ≤ g.D.Disk.faults l.disk;
  later_wants : g.D.Disk.wants l.initial.disk ≤ g.D.Disk.wants l.disk;
  made : g.D.Disk.made l.initial.disk l.disk [];
  along : IsTrue g.D.Disk.tells → l.names ≡ keys (g.D.Disk.files l.initial.disk) → Along (entries (g.D.Disk.files l.initial.disk)) (drop l.name-index l.names) l.found.waiting.items l.found.places l.found.mending.items;
}
