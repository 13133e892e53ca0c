use Rattle.std.proofs.Common.{refl}
use Rattle.std.proofs.lemmas.Result.{err_from_is_err_and}
use Rattle.std.specs.FinMap.{empty}
use Rattle.dkg_core.specs.Courses.{on_devices}
use Rattle.dkg_store.specs.Acts.{Held}
use Rattle.dkg_life.specs.Steps.{reads_seed}
use Rattle.dkg_life.proofs.Caused.{of_due}
use Rattle.dkg_life.proofs.Said.{nothing_held, pruning_of_due, said_none}
use Rattle.dkg_life.proofs.Shares.{one_at, read_fails, seed_given, seed_read}
use Rattle.dkg_setup.proofs.setup.secrets_with.Goals as goal

pub returns-in_err-seed-clause-acts : goal.returns-in_err-seed-clause-acts
returns-in_err-seed-clause-acts g c = λ disk secrets fixed word reads out.
    let p = err_from_is_err_and c.from_residual.result c.from_residual.ensures.1 in
    rw (p.1, p.2) (read_fails g.D.Disk.files g.D.Disk.image (on_devices (reads_seed fixed c.args.info.now)) _ _ c.in_err-seed.field-0.0 c.in_err-seed.ensures.due
    c.seed_for.ensures.disk c.seed_for.ensures.same c.seed_for.ensures.fuse)

pub returns-in_err-seed-clause-unread : goal.returns-in_err-seed-clause-unread
returns-in_err-seed-clause-unread g c =
    let p = err_from_is_err_and c.from_residual.result c.from_residual.ensures.1 in
    rw (p.1, p.2) (λ fixed out. said_none (on_devices (reads_seed fixed c.args.info.now)) c.in_err-seed.field-0.0 (pruning_of_due _ _ _ _ _ c.in_err-seed.field-0.0 c.in_err-seed.ensures.due) refl)

pub returns-in_err-seed-clause-causes : goal.returns-in_err-seed-clause-causes
returns-in_err-seed-clause-causes g c =
    let p = err_from_is_err_and c.from_residual.result c.from_residual.ensures.1 in
    rw (p.1, p.2) (of_due _ c.in_err-seed.field-0.0 c.in_err-seed.ensures.due (λ no. no) (λ rose. rose) (λ no. absurd no))

pub returns-in_err-seed-clause-moved : goal.returns-in_err-seed-clause-moved
returns-in_err-seed-clause-moved g c = c.seed_for.ensures.moved

pub returns-clause-moved : goal.returns-clause-moved
returns-clause-moved g c = c.seed_for.ensures.moved

pub returns-clause-acts : goal.returns-clause-acts
returns-clause-acts g c = λ disk secrets fixed word reads out.
    seed_read fixed c.args.info.now c.in_ok-seed.seed g.D.Disk.files g.D.Disk.image reads c.seed_for.ensures.disk c.seed_for.ensures.same c.seed_for.ensures.fuse
    (c.in_ok-seed.ensures.seed fixed word secrets)

pub returns-clause-read : goal.returns-clause-read
returns-clause-read g c =
    let kept = c.in_ok-seed.ensures.any in
    let h : Held = record { journaled = nothing_held.journaled; secrets = record { shares = empty; seeds = one_at c.args.info.now.epoch kept.0; privates = empty } } in
    (h, λ fixed word. seed_given fixed c.args.info.now c.in_ok-seed.seed kept.0 h refl (kept.1 fixed word))
