use Rattle.std.proofs.Common.{length}
use Rattle.std.specs.Prelude.{codes}
use Rattle.dkg_reading.specs.Grammar.{players_line_at}
use Rattle.dkg_reading.specs.Lines.{begins, many_lines_at}
use Rattle.dkg_reading.proofs.ReadOn.{IsLeft}
use Rattle.dkg_reading.proofs.config_lines.read_players.Given as goal

abbrev pub invariant-players : goal.invariant-players
invariant-players l = record {
  at : IsLeft (begins (codes "players")) (players_line_at) l.players.items l.lines.rest.now (many_lines_at (begins (codes "players")) (players_line_at) l.initial.lines.rest.now);
}

abbrev pub decreases-players : goal.decreases-players
decreases-players l = length l.lines.rest.now
