use Rattle.std.proofs.Common.{◌≡◌, ◌++◌, map, take}
use Rattle.dkg_generator.specs.Made.{peer_of}
use Rattle.dkg_generator.proofs.life.put_peers.Given as goal

abbrev pub invariant-loop-message : goal.invariant-loop-message
invariant-loop-message l = l.events ≡ l.initial.events ++ map peer_of (take l.message-index l.sent)
