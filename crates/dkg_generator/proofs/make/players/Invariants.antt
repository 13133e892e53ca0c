use Rattle.std.proofs.Common.{◌≡◌, ◌-◌, map}
use Rattle.std.specs.List.{range_with_len}
use Rattle.dkg_generator.specs.Made.{players_of}
use Rattle.dkg_generator.proofs.make.players.Given as goal

abbrev pub invariant-loop-epoch : goal.invariant-loop-epoch
invariant-loop-epoch l = l.lines.items ≡ map players_of (range_with_len 2 (l.epoch - 2))
