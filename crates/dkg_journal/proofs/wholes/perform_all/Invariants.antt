use Rattle.std.proofs.Common.{◌≡◌, take, IsTrue, Ok}
use Rattle.dkg_journal.specs.Counts.{Caused}
use Rattle.dkg_journal.specs.Disk.{ImagesFollow}
use Rattle.dkg_journal.specs.Fuse.{RanAll}
use Rattle.dkg_journal.specs.Wholes.{Becomes, after_all}
use Rattle.dkg_journal.proofs.wholes.perform_all.Given as goal

abbrev pub invariant-loop-op : goal.invariant-loop-op
invariant-loop-op g l = record {
  files : IsTrue g.D.Disk.tells → g.D.Disk.files l.disk ≡ after_all (take l.op-index l.ops) (g.D.Disk.files l.initial.disk);
  done : IsTrue g.D.Disk.tells → ImagesFollow (Becomes (take l.op-index l.ops)) (g.D.Disk.image l.initial.disk) (g.D.Disk.image l.disk);
  all : RanAll g.D.Disk.made l.initial.disk l.disk l.initial.fuse l.fuse (take l.op-index l.ops);
  caused : Caused {T = Unit {0}} (IsTrue g.D.Disk.tells) g.D.Disk.files g.D.Disk.image g.D.Disk.faults g.D.Disk.wants (Ok tt) l.initial.disk l.disk l.initial.fuse l.fuse;
}
