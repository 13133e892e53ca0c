use Rattle.std.proofs.Common.{◌≡◌, ◌-◌}
use Rattle.dkg_values.specs.Lists.{keys_at}
use Rattle.dkg_values.specs.Grammar.{with_front}
use Rattle.dkg_values.proofs.counted.read_keys.Given as goal

abbrev pub invariant-loop : goal.invariant-loop
invariant-loop l = with_front l.keys.items (keys_at (l.count - l.counter) l.least l.input) ≡ keys_at l.count 0 l.fn.input
