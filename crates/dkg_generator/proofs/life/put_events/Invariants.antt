use Rattle.std.proofs.Common.{◌≡◌, ◌-◌, ◌++◌}
use Rattle.std.specs.List.{flat_map, range_with_len}
use Rattle.dkg_generator.specs.Made.{events_at}
use Rattle.dkg_generator.proofs.life.put_events.Given as goal

abbrev pub invariant-loop-index : goal.invariant-loop-index
invariant-loop-index l = l.events ≡ l.initial.events ++ flat_map (events_at l.plan.dealings.items l.plan.acks.items l.epoch) (range_with_len l.from (l.index - l.from))
