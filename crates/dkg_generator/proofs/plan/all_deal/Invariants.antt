use Rattle.std.proofs.Common.{◌≡◌, ◌-◌, map}
use Rattle.std.specs.List.{range_with_len}
use Rattle.dkg_generator.specs.Chain.{signed_of}
use Rattle.dkg_generator.specs.Made.{dealing_from}
use Rattle.dkg_generator.proofs.plan.all_deal.Given as goal

abbrev pub invariant-loop-key : goal.invariant-loop-key
invariant-loop-key l = record {
  dealings : l.dealings.items ≡ map (dealing_from l.number l.info) (range_with_len 2 (l.key - 2));
  logs : l.logs.items ≡ map (signed_of l.number l.info) (range_with_len 2 (l.key - 2));
}
