use Rattle.std.proofs.Common.{◌≡◌, take}
use Rattle.std.specs.Prelude.{filter}
use Rattle.dkg_journal.specs.Opening.{is_unnamed, removes}
use Rattle.dkg_journal.proofs.open.unnamed.Given as goal

abbrev pub invariant-loop-name : goal.invariant-loop-name
invariant-loop-name l = l.ops.items ≡ removes (filter (is_unnamed l.segments) (take l.name-index l.names))
