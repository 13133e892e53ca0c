use Rattle.std.proofs.Common.{◌≡◌, length, map}
use Rattle.dkg_journal.specs.Kept.{rolled, AreWithin}
use Rattle.dkg_journal.proofs.file.roll_back.Given as goal

abbrev pub invariant-loop-last : goal.invariant-loop-last
invariant-loop-last l = record {
  same : rolled l.from (map (λ u. (u.place, u.old.items)) l.undo.items) l.bytes.items ≡ rolled l.from (map (λ u. (u.place, u.old.items)) l.fn.undo.items) l.fn.bytes.items;
  within : AreWithin (map (λ u. (u.place, u.old.items)) l.undo.items) (length l.bytes.items);
}

abbrev pub decreases-loop-last : goal.decreases-loop-last
decreases-loop-last l = length l.undo.items
