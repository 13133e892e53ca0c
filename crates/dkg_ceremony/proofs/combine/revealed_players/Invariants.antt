use Rattle.std.proofs.Common.{◌≡◌, take}
use Rattle.dkg_ceremony.specs.Outcomes.{revealed_from}
use Rattle.dkg_ceremony.proofs.combine.revealed_players.Given as goal

abbrev pub invariant-loop-index : goal.invariant-loop-index
invariant-loop-index l = l.revealed.items ≡ revealed_from l.logs l.selected 0 (take l.index l.keys)
