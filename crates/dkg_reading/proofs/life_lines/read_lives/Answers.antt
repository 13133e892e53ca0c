use Rattle.std.proofs.Common.{◌∙◌, sym, ap, Ok}
use Rattle.std.specs.Prelude.{codes}
use Rattle.std.proofs.lemmas.Result.{err_from_is_err_and}
use Rattle.dkg_reading.specs.Grammar.{life_lines_at, lives_at}
use Rattle.dkg_reading.specs.Lines.{begins}
use Rattle.dkg_reading.proofs.ReadOn.{ends, more, refused}
use Rattle.dkg_reading.proofs.life_lines.read_lives.Goals as goal

pub lives-preserved : goal.lives-preserved
lives-preserved c =
    let reads = c.in_ok-life.ensures.reads in
    let at = more (begins (codes "life")) (λ _. life_lines_at c.args.known.now.addressed c.args.known.now.config.now c.args.known.now.blocks.now) c.lives.lives.items c.lives.lines.rest.now c.read_life.new.lines.rest.now c.in_ok-life.life _ c.lives.invariant.at (sym c.is_at.ensures ∙ c.lives-test.true) reads c.in_ok-life.ensures.on in
    record { at = rw c.in_ok-push.ensures.items at }

pub returns : goal.returns
unfolding lives_at
returns c =
    ends (begins (codes "life")) (λ _. life_lines_at c.args.known.now.addressed c.args.known.now.config.now c.args.known.now.blocks.now) c.lives.lives.items c.lives.lines.rest.now _ c.lives.invariant.at (sym c.is_at.ensures ∙ c.lives-test.false)
    ∙ ap (λ xs. Ok (xs, c.lives.lines.rest.now)) (sym c.new.ensures)

pub returns-in_err-life : goal.returns-in_err-life
unfolding lives_at
returns-in_err-life c =
    let p = err_from_is_err_and c.from_residual.result c.from_residual.ensures.1 in
    let fails = c.in_err-life.ensures.reads in
    let r = refused (begins (codes "life")) (λ _. life_lines_at c.args.known.now.addressed c.args.known.now.config.now c.args.known.now.blocks.now) c.lives.lives.items c.lives.lines.rest.now _ c.in_err-life.field-0.0 c.lives.invariant.at (sym c.is_at.ensures ∙ c.lives-test.true) fails in
    rw (p.1, p.2) r
