use Rattle.std.proofs.Common.{◌≡◌, ◌-◌, length}
use Rattle.dkg_values.specs.Codec.{many_at}
use Rattle.dkg_values.specs.Grammar.{with_front}
use Rattle.dkg_values.proofs.counted.read_many.Given as goal

abbrev pub invariant-loop : goal.invariant-loop
invariant-loop g l = record { read : with_front l.made.items (many_at (g.T.Read.read_of l.cfg) (l.count - l.counter) l.input) ≡ many_at (g.T.Read.read_of l.cfg) l.count l.fn.input; made : length l.made.items ≡ l.counter }
