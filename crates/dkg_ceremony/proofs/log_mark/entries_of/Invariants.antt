use Rattle.std.proofs.Common.{◌≡◌, map, take}
use Rattle.dkg_ceremony.specs.ValidLogs.{entry_for}
use Rattle.dkg_ceremony.proofs.log_mark.entries_of.Given as goal

abbrev pub invariant-loop-player : goal.invariant-loop-player
invariant-loop-player l = l.entries.items ≡ map (entry_for l.privates l.acks) (take l.player-index l.player-items)
