use Rattle.std.proofs.Common.{inl, refl}
use Rattle.std.proofs.lemmas.Result.{err_from_is_err_and}
use Rattle.dkg_core.specs.Setup as setup
use Rattle.dkg_life.specs.Ends.{ends_in}
use Rattle.dkg_life.specs.LiveOf.{live_of, with_scheme_of}
use Rattle.dkg_life.proofs.Burning.{speaks_makes}
use Rattle.dkg_life.proofs.Chained.{early_makes, early_told, then_makes, then_told}
use Rattle.dkg_life.proofs.Committing.{in_any, of_memory}
use Rattle.dkg_life.proofs.Said.{speaks_tells}
use Rattle.dkg_setup.proofs.Standings.{of_committed}
use Rattle.dkg_setup.proofs.setup.commit_and_register.Goals as goal

pub returns-in_err-commit-clause-acts : goal.returns-in_err-commit-clause-acts
returns-in_err-commit-clause-acts g c = λ disk secrets fixed beside mine.
    let p = err_from_is_err_and c.from_residual.result c.from_residual.ensures.1 in
    rw (p.1, p.2) (early_makes (setup.commits c.args.info.now c.args.secrets.now.seed c.args.secrets.now.share (live_of beside c.args.fence.now c.args.life.now)) (λ st. setup.registers fixed c.args.info.now c.args.secrets.now.share st)
    c.in_err-commit.field-0.0 (c.in_err-commit.ensures.acts disk secrets beside c.args.fence.now))

pub returns-in_err-commit-clause-tells : goal.returns-in_err-commit-clause-tells
returns-in_err-commit-clause-tells g c = λ any fixed beside mine.
    let p = err_from_is_err_and c.from_residual.result c.from_residual.ensures.1 in
    rw (p.1, p.2) (early_told (setup.commits c.args.info.now any c.args.secrets.now.share (live_of beside c.args.fence.now c.args.life.now)) (λ st. setup.registers fixed c.args.info.now c.args.secrets.now.share st)
    c.in_err-commit.field-0.0 (c.in_err-commit.ensures.tells any beside c.args.fence.now))

pub returns-clause-acts : goal.returns-clause-acts
returns-clause-acts g c = λ disk secrets fixed beside mine.
    let how = ends_in (live_of (with_scheme_of c.args.me c.args.info.now c.args.secrets.now.share beside) c.register.new.fence c.commit.new.life) c.register.result in
    then_makes (setup.commits c.args.info.now c.args.secrets.now.seed c.args.secrets.now.share (live_of beside c.args.fence.now c.args.life.now)) (λ st. setup.registers fixed c.args.info.now c.args.secrets.now.share st)
    (live_of beside c.args.fence.now c.commit.new.life) how (c.in_ok-commit.ensures.acts disk secrets beside c.args.fence.now)
    (speaks_makes (setup.registers fixed c.args.info.now c.args.secrets.now.share (live_of beside c.args.fence.now c.commit.new.life)) how _ _ (c.register.ensures.speaks fixed mine c.commit.new.life beside))

pub returns-clause-tells : goal.returns-clause-tells
returns-clause-tells g c = λ any fixed beside mine.
    let how = ends_in (live_of (with_scheme_of c.args.me c.args.info.now c.args.secrets.now.share beside) c.register.new.fence c.commit.new.life) c.register.result in
    then_told (setup.commits c.args.info.now any c.args.secrets.now.share (live_of beside c.args.fence.now c.args.life.now)) (λ st. setup.registers fixed c.args.info.now c.args.secrets.now.share st)
    (live_of beside c.args.fence.now c.commit.new.life) how (c.in_ok-commit.ensures.tells any beside c.args.fence.now)
    (speaks_tells (setup.registers fixed c.args.info.now c.args.secrets.now.share (live_of beside c.args.fence.now c.commit.new.life)) how (c.register.ensures.speaks fixed mine c.commit.new.life beside))

pub returns-clause-current : goal.returns-clause-current
returns-clause-current g c = in_any c.register.result c.in_ok-commit.ensures.current

pub returns-clause-causes : goal.returns-clause-causes
returns-clause-causes g c = of_memory _ _ _ c.register.result c.register.ensures.memory

pub returns-clause-halves : goal.returns-clause-halves
returns-clause-halves g c = in_any c.register.result c.in_ok-commit.ensures.halves

-- WHAT OUTLIVES A FAILURE

pub returns-in_err-commit-clause-unmarked : goal.returns-in_err-commit-clause-unmarked
returns-in_err-commit-clause-unmarked g c = let p = err_from_is_err_and c.from_residual.result c.from_residual.ensures.1 in rw p.1 refl

pub returns-in_err-commit-clause-untaken : goal.returns-in_err-commit-clause-untaken
returns-in_err-commit-clause-untaken g c = let p = err_from_is_err_and c.from_residual.result c.from_residual.ensures.1 in rw p.1 (λ told. inl refl)

pub returns-clause-unmarked : goal.returns-clause-unmarked
returns-clause-unmarked g c = c.register.ensures.unmarked

pub returns-clause-untaken : goal.returns-clause-untaken
returns-clause-untaken g c = of_committed _ _ _ c.register.result c.register.ensures.untaken c.in_ok-commit.ensures.current
