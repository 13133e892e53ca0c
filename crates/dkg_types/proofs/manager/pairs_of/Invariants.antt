use Rattle.std.proofs.Common.{◌≡◌, ◌++◌, drop}
use Rattle.dkg_values.specs.Rising.{keys_of}
use Rattle.dkg_types.specs.Tracking.{addresses_of, first_without}
use Rattle.dkg_types.proofs.manager.pairs_of.Given as goal

abbrev pub invariant-loop-peer : goal.invariant-loop-peer
invariant-loop-peer l = record {
  keys : keys_of l.pairs.items ++ drop l.peer-index l.peers ≡ l.peers;
  of : l.pairs.items ++ addresses_of l.directory (drop l.peer-index l.peers) ≡ addresses_of l.directory l.peers;
  missing : first_without l.directory (drop l.peer-index l.peers) ≡ first_without l.directory l.peers;
}
