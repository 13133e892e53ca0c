use Rattle.std.proofs.Common.{◌≡◌, ◌-◌, map}
use Rattle.std.specs.List.{range_with_len}
use Rattle.dkg_generator.specs.Made.{ack_from}
use Rattle.dkg_generator.proofs.plan.acks_of.Given as goal

abbrev pub invariant-loop-key : goal.invariant-loop-key
invariant-loop-key l = l.acks.items ≡ map (ack_from l.number l.info) (range_with_len 2 (l.key - 2))
