use Rattle.std.proofs.Common.{◌≡◌, length, take, map}
use Rattle.dkg_journal.specs.Kept.{filled}
use Rattle.dkg_journal.proofs.file.fill_undone.Given as goal

abbrev pub invariant-loop-one : goal.invariant-loop-one
invariant-loop-one l = record {
  done : l.bytes.items ≡ filled l.byte (map (λ u. (u.place, u.old.items)) (take l.one-index l.undo)) l.fn.bytes.items;
  size : length l.bytes.items ≡ length l.fn.bytes.items;
}
