use Rattle.std.proofs.Common.{◌≡◌, List, ℕ, length}
use Rattle.dkg_journal.specs.Records.{RecordsFront}
use Rattle.dkg_journal.specs.Segments.{parted}
use Rattle.dkg_journal.proofs.parting.part.Given as goal

abbrev pub invariant-loop-after : goal.invariant-loop-after
invariant-loop-after l = (bs : List (List ℕ)) × RecordsFront 8 bs l.place l.bytes l.rest × (l.segments ≡ parted bs)

abbrev pub decreases-loop-after : goal.decreases-loop-after
decreases-loop-after l = length l.rest
