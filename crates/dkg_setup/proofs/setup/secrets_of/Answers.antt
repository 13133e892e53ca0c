use Rattle.std.proofs.Common.{arith, ◌∙◌, ap, refl, sym}
use Rattle.std.proofs.lemmas.Result.{err_from_is_err_and}
use Rattle.std.specs.FinMap.{empty, get}
use Rattle.dkg_core.specs.Courses.{on_devices}
use Rattle.dkg_core.specs.Setup as setup
use Rattle.dkg_secrets.specs.Secrets.{Secrets}
use Rattle.dkg_store.specs.Acts.{Held}
use Rattle.dkg_life.specs.Steps.{reads_secrets}
use Rattle.dkg_life.proofs.Caused.{of_due, rose_around}
use Rattle.dkg_life.proofs.Kept.{moved_then}
use Rattle.dkg_life.proofs.Said.{nothing_held, pruning_of_due, said_none}
use Rattle.dkg_life.proofs.Shares.{both_given, both_read, one_at, read_fails}
use Rattle.dkg_setup.proofs.setup.secrets_of.Goals as goal

pub returns-in_err-share-clause-acts : goal.returns-in_err-share-clause-acts
returns-in_err-share-clause-acts g c = λ disk secrets fixed mine word shares reads out.
    let p = err_from_is_err_and c.from_residual.result c.from_residual.ensures.1 in
    rw (p.1, p.2) (read_fails g.D.Disk.files g.D.Disk.image (on_devices (reads_secrets fixed c.args.info.now)) _ _ c.in_err-share.field-0.0 c.in_err-share.ensures.due
    c.recovered_share.ensures.disk c.recovered_share.ensures.same c.recovered_share.ensures.fuse)

pub returns-in_err-share-clause-unread : goal.returns-in_err-share-clause-unread
returns-in_err-share-clause-unread g c =
    let p = err_from_is_err_and c.from_residual.result c.from_residual.ensures.1 in
    rw (p.1, p.2) (λ fixed out. said_none (on_devices (reads_secrets fixed c.args.info.now)) c.in_err-share.field-0.0 (pruning_of_due _ _ _ _ _ c.in_err-share.field-0.0 c.in_err-share.ensures.due) refl)

pub returns-in_err-share-clause-causes : goal.returns-in_err-share-clause-causes
returns-in_err-share-clause-causes g c =
    let p = err_from_is_err_and c.from_residual.result c.from_residual.ensures.1 in
    rw (p.1, p.2) (of_due _ c.in_err-share.field-0.0 c.in_err-share.ensures.due (λ no. no) (λ rose. rose) (λ no. absurd no))

pub returns-in_err-seed-clause-acts : goal.returns-in_err-seed-clause-acts
returns-in_err-seed-clause-acts g c = λ disk secrets fixed mine word shares reads out.
    let p = err_from_is_err_and c.from_residual-in_err-seed.result c.from_residual-in_err-seed.ensures.1 in
    rw (p.1, p.2) (read_fails g.D.Disk.files g.D.Disk.image (on_devices (reads_secrets fixed c.args.info.now)) _ _ c.in_err-seed.field-0.0 c.in_err-seed.ensures.due
    (c.seed_for.ensures.disk ∙ c.recovered_share.ensures.disk) (c.seed_for.ensures.same ∙ c.recovered_share.ensures.same) (c.seed_for.ensures.fuse ∙ c.recovered_share.ensures.fuse))

pub returns-in_err-seed-clause-unread : goal.returns-in_err-seed-clause-unread
returns-in_err-seed-clause-unread g c =
    let p = err_from_is_err_and c.from_residual-in_err-seed.result c.from_residual-in_err-seed.ensures.1 in
    rw (p.1, p.2) (λ fixed out. said_none (on_devices (reads_secrets fixed c.args.info.now)) c.in_err-seed.field-0.0 (pruning_of_due _ _ _ _ _ c.in_err-seed.field-0.0 c.in_err-seed.ensures.due) refl)

pub returns-in_err-seed-clause-causes : goal.returns-in_err-seed-clause-causes
returns-in_err-seed-clause-causes g c =
    let p = err_from_is_err_and c.from_residual-in_err-seed.result c.from_residual-in_err-seed.ensures.1 in
    rw (p.1, p.2) (of_due _ c.in_err-seed.field-0.0 c.in_err-seed.ensures.due (λ no. no)
    (λ rose. rose_around _ _ _ _ c.recovered_share.ensures.moved.later_secrets c.seed_for.ensures.moved.later_secrets (omega arith) rose) (λ no. absurd no))

pub returns-in_err-seed-clause-moved : goal.returns-in_err-seed-clause-moved
returns-in_err-seed-clause-moved g c =
    moved_then g.D.Disk.tells g.D.Disk.made g.X.SecretStore.made g.D.Disk.faults g.X.SecretStore.faults g.met.D.Disk.made_more g.met.X.SecretStore.made_more _ _ _ c.recovered_share.ensures.moved c.seed_for.ensures.moved

pub returns-clause-moved : goal.returns-clause-moved
returns-clause-moved g c =
    moved_then g.D.Disk.tells g.D.Disk.made g.X.SecretStore.made g.D.Disk.faults g.X.SecretStore.faults g.met.D.Disk.made_more g.met.X.SecretStore.made_more _ _ _ c.recovered_share.ensures.moved c.seed_for.ensures.moved

pub returns-clause-acts : goal.returns-clause-acts
returns-clause-acts g c = λ disk secrets fixed mine word shares reads out.
    both_read fixed c.args.info.now c.in_ok-share.share c.in_ok-seed.seed g.D.Disk.files g.D.Disk.image reads
    (c.seed_for.ensures.disk ∙ c.recovered_share.ensures.disk) (c.seed_for.ensures.same ∙ c.recovered_share.ensures.same) (c.seed_for.ensures.fuse ∙ c.recovered_share.ensures.fuse)
    (c.in_ok-share.ensures.share secrets fixed mine shares)
    (ap (λ (s : Secrets). setup.seed_for fixed c.args.info.now.epoch (get s.seeds c.args.info.now.epoch)) (sym c.recovered_share.ensures.same) ∙ c.in_ok-seed.ensures.seed fixed word secrets)

pub returns-clause-read : goal.returns-clause-read
returns-clause-read g c =
    let a = c.in_ok-share.ensures.any in
    let b = c.in_ok-seed.ensures.any in
    let h : Held = record { journaled = nothing_held.journaled; secrets = record { shares = a.0; seeds = one_at c.args.info.now.epoch b.0; privates = empty } } in
    (h, λ fixed mine word shares. both_given fixed c.args.info.now c.in_ok-share.share c.in_ok-seed.seed a.0 b.0 h refl refl (a.1 fixed mine shares) (b.1 fixed word))
