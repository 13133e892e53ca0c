use Rattle.std.proofs.Common.{length}
use Rattle.std.specs.Prelude.{codes}
use Rattle.dkg_reading.specs.Grammar.{life_lines_at}
use Rattle.dkg_reading.specs.Lines.{begins, many_lines_at}
use Rattle.dkg_reading.proofs.ReadOn.{IsLeft}
use Rattle.dkg_reading.proofs.life_lines.read_lives.Given as goal

abbrev pub invariant-lives : goal.invariant-lives
invariant-lives l = record {
  at : IsLeft (begins (codes "life")) (λ _. life_lines_at l.known.addressed l.known.config.now l.known.blocks.now) l.lives.items l.lines.rest.now (many_lines_at (begins (codes "life")) (λ _. life_lines_at l.known.addressed l.known.config.now l.known.blocks.now) l.initial.lines.rest.now);
}

abbrev pub decreases-lives : goal.decreases-lives
decreases-lives l = length l.lines.rest.now
