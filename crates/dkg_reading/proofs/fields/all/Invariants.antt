use Rattle.std.proofs.Common.{◌≡◌, length}
use Rattle.dkg_reading.specs.Rows.{all_of}
use Rattle.dkg_reading.proofs.ReadOn.{before_more}
use Rattle.dkg_reading.proofs.fields.all.Given as goal

abbrev pub invariant-fields : goal.invariant-fields
invariant-fields g l = before_more l.values.items (all_of g.T.Field.of l.fields) ≡ all_of g.T.Field.of l.initial.fields

abbrev pub decreases-fields : goal.decreases-fields
decreases-fields g l = length l.fields
