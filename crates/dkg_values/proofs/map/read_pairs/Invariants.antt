use Rattle.std.proofs.Common.{◌≡◌, take, drop}
use Rattle.dkg_values.specs.Rising.{keys_of}
use Rattle.dkg_values.specs.Lists.{pairs_at}
use Rattle.dkg_values.specs.Grammar.{with_front}
use Rattle.dkg_values.proofs.map.read_pairs.Given as goal

abbrev pub invariant-loop-key : goal.invariant-loop-key
invariant-loop-key g l = record {
  read : with_front l.pairs.items (pairs_at (g.V.Read.read_of l.cfg) (drop l.key-index l.keys) l.input) ≡ pairs_at (g.V.Read.read_of l.cfg) l.keys l.fn.input;
  made : keys_of l.pairs.items ≡ take l.key-index l.keys;
}
