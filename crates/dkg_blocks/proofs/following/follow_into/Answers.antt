use Rattle.std.proofs.Common.{◌≡◌, ◌+◌, ◌∷◌, [], ap, arith, sym, ◌∙◌}
use Rattle.std.proofs.lemmas.Result.{err_from_is_err_and}
use Rattle.std.specs.Int.NonZero.{non_zero_u64_get}
use Rattle.dkg_ceremony.specs.Schedule.{epoch_of}
use Rattle.dkg_store.proofs.Counts.{reached_behind}
use Rattle.dkg_core.specs.Sources.{Tip}
use Rattle.dkg_life.specs.declared.life.Life.{Life}
use Rattle.dkg_life.specs.LiveOf.{live_of, scheme_by, with_scheme_of}
use Rattle.dkg_blocks.proofs.Applying.{as_it_was, can_read, firm_on, in_word, secrets_told, set_up_behind, took_over_makes, took_over_told, uncommitted_makes, uncommitted_told, unread_makes, unread_told}
use Rattle.dkg_setup.proofs.OpeningCourses.{makes_as, tells_as}
use Rattle.dkg_life.proofs.Beside.{none_beside, then_beside, then_well, took_then}
use Rattle.dkg_blocks.proofs.Blaming.{result_caused_by}
use Rattle.dkg_life.proofs.Caused.{caused_around, rose_around}
use Rattle.dkg_life.proofs.Kept.{moved_then}
use Rattle.dkg_blocks.proofs.following.follow_into.Goals as goal

pub returns-in_err-secrets-clause-acts : goal.returns-in_err-secrets-clause-acts
returns-in_err-secrets-clause-acts g c = λ disk secrets fixed beside fresh of reads by.
    let p = err_from_is_err_and c.from_residual.result c.from_residual.ensures.1 in
    rw (p.1, p.2) (none_beside beside _ _ tt (unread_makes fixed c.args.block.now c.args.info.now (live_of beside c.args.fence.now c.args.life.now) c.in_err-secrets.field-0.0
    (c.in_err-secrets.ensures.acts disk secrets fixed of.of.me of.word_is by.shares reads c.args.out.now.entries)))

pub returns-in_err-secrets-clause-tells : goal.returns-in_err-secrets-clause-tells
returns-in_err-secrets-clause-tells g c = λ fixed beside fresh of reads by.
    let p = err_from_is_err_and c.from_residual.result c.from_residual.ensures.1 in
    rw (p.1, p.2) (none_beside beside _ _ tt (unread_told fixed c.args.block.now c.args.info.now (live_of beside c.args.fence.now c.args.life.now) c.in_err-secrets.field-0.0
    (c.in_err-secrets.ensures.unread fixed c.args.out.now.entries)))

pub returns-in_err-secrets-clause-causes : goal.returns-in_err-secrets-clause-causes
returns-in_err-secrets-clause-causes g c =
    let p = err_from_is_err_and c.from_residual.result c.from_residual.ensures.1 in
    rw (p.1, p.2) (caused_around g.D.Disk.tells (λ x. absurd x) (λ x. x) (λ x. x) c.in_err-secrets.field-0.0 c.in_err-secrets.ensures.causes.1)

pub returns-in_err-secrets-clause-moves : goal.returns-in_err-secrets-clause-moves
returns-in_err-secrets-clause-moves g c = record {
  word = ap (λ (l : Life g.row.Dir.Denot). l.word) c.secrets_of.ensures.life;
  moved = c.secrets_of.ensures.moved;
  fit = λ told fit. rw c.secrets_of.ensures.disk fit;
}

pub returns-in_err-commit_and_register-clause-acts : goal.returns-in_err-commit_and_register-clause-acts
returns-in_err-commit_and_register-clause-acts g c = λ disk secrets fixed beside fresh of reads by.
    let p = err_from_is_err_and c.from_residual-in_err-commit_and_register.result c.from_residual-in_err-commit_and_register.ensures.1 in
    rw (p.1, p.2) (none_beside beside _ _ tt (makes_as (as_it_was fixed c.args.block.now c.args.info.now beside c.args.fence.now c.args.life.now c.secrets_of.new.life c.secrets_of.ensures.life) _
    (uncommitted_makes fixed c.args.block.now c.args.info.now (live_of beside c.args.fence.now c.secrets_of.new.life) c.in_ok-secrets.secrets.share c.in_ok-secrets.secrets.seed
    (c.in_ok-secrets.ensures.acts disk secrets fixed of.of.me of.word_is by.shares reads c.args.out.now.entries) c.in_err-commit_and_register.field-0.0
    (c.in_err-commit_and_register.ensures.acts disk secrets fixed beside of.of.me))))

pub returns-in_err-commit_and_register-clause-tells : goal.returns-in_err-commit_and_register-clause-tells
returns-in_err-commit_and_register-clause-tells g c = λ fixed beside fresh of reads by.
    let p = err_from_is_err_and c.from_residual-in_err-commit_and_register.result c.from_residual-in_err-commit_and_register.ensures.1 in
    rw (p.1, p.2) (none_beside beside _ _ tt (tells_as (as_it_was fixed c.args.block.now c.args.info.now beside c.args.fence.now c.args.life.now c.secrets_of.new.life c.secrets_of.ensures.life) _
    (uncommitted_told fixed c.args.block.now c.args.info.now (live_of beside c.args.fence.now c.secrets_of.new.life) c.in_ok-secrets.secrets.share c.in_ok-secrets.secrets.seed
    (secrets_told fixed c.args.info.now c.in_ok-secrets.secrets.share c.in_ok-secrets.secrets.seed c.in_ok-secrets.ensures.read.0 reads (c.in_ok-secrets.ensures.read.1 fixed of.of.me of.word_is by.shares) c.args.out.now.entries)
    c.in_err-commit_and_register.field-0.0 (c.in_err-commit_and_register.ensures.tells c.in_ok-secrets.secrets.seed fixed beside of.of.me))))

pub returns-in_err-commit_and_register-clause-moves : goal.returns-in_err-commit_and_register-clause-moves
returns-in_err-commit_and_register-clause-moves g c = record {
  word =
      ap (λ (l : Life g.row.Dir.Denot). l.word) c.commit_and_register.ensures.rest ∙ ap (λ (l : Life g.row.Dir.Denot). l.word) c.secrets_of.ensures.life;
  moved =
      moved_then g.D.Disk.tells g.D.Disk.made g.X.SecretStore.made g.D.Disk.faults g.X.SecretStore.faults g.met.D.Disk.made_more g.met.X.SecretStore.made_more _ _ _ c.secrets_of.ensures.moved c.commit_and_register.ensures.moved;
  fit = λ told fit. rw (c.commit_and_register.ensures.disk, c.secrets_of.ensures.disk) fit;
}

pub returns-in_err-commit_and_register-clause-causes : goal.returns-in_err-commit_and_register-clause-causes
returns-in_err-commit_and_register-clause-causes g c =
    let p = err_from_is_err_and c.from_residual-in_err-commit_and_register.result c.from_residual-in_err-commit_and_register.ensures.1 in
    rw (p.1, p.2) (caused_around g.D.Disk.tells (λ x. absurd x) (λ x. rose_around _ _ _ _ c.secrets_of.ensures.moved.later_secrets c.commit_and_register.ensures.moved.later_secrets (omega arith) x)
    (λ x. reached_behind _ _ _ c.secrets_of.ensures.moved.counts x) c.in_err-commit_and_register.field-0.0 c.in_err-commit_and_register.ensures.causes.1)

pub set_up_committed-requires-clause-open : goal.set_up_committed-requires-clause-open
set_up_committed-requires-clause-open g c = λ told.
    firm_on g.D.Disk.files g.D.Disk.image c.args.devices.now.disk.now c.commit_and_register.new.devices.disk.now (c.commit_and_register.ensures.disk ∙ c.secrets_of.ensures.disk)
    c.args.life.now.store.journal c.commit_and_register.new.life.store.journal
    (ap (λ (l : Life g.row.Dir.Denot). l.store.journal) c.commit_and_register.ensures.rest ∙ ap (λ (l : Life g.row.Dir.Denot). l.store.journal) c.secrets_of.ensures.life) (c.requires.ready.firm told)

pub set_up_committed-requires-clause-awaited : goal.set_up_committed-requires-clause-awaited
set_up_committed-requires-clause-awaited g c = c.requires.next ∙ ap (λ (t : Tip). epoch_of (non_zero_u64_get c.args.terms.now.blocks_per_epoch) (t.height + 1)) (sym c.tip_of.ensures)

pub returns-clause-acts : goal.returns-clause-acts
returns-clause-acts g c = λ disk secrets fixed beside fresh of reads by.
    let share = c.in_ok-secrets.secrets.share in
    let word : c.commit_and_register.new.life.word ≡ c.args.life.now.word = ap (λ (l : Life g.row.Dir.Denot). l.word) c.commit_and_register.ensures.rest ∙ ap (λ (l : Life g.row.Dir.Denot). l.word) c.secrets_of.ensures.life in
    then_beside beside c.args.terms.now.me c.args.info.now share
    (λ more took. then_well c.set_up_committed.result (took_then g.R.Registrar.tells (g.R.Registrar.taken c.args.registrar.now) (g.R.Registrar.taken c.commit_and_register.new.registrar) (g.R.Registrar.taken c.set_up_committed.new.registrar)
    (scheme_by c.args.terms.now.me c.args.info.now share ∷ []) more c.in_ok-commit_and_register.ensures.taken) took)
    (λ now made. makes_as (as_it_was fixed c.args.block.now c.args.info.now beside c.args.fence.now c.args.life.now c.secrets_of.new.life c.secrets_of.ensures.life) _
    (took_over_makes fixed c.args.block.now c.args.info.now (live_of beside c.args.fence.now c.secrets_of.new.life) share c.in_ok-secrets.secrets.seed
    (c.in_ok-secrets.ensures.acts disk secrets fixed of.of.me of.word_is by.shares reads c.args.out.now.entries)
    (live_of (with_scheme_of c.args.terms.now.me c.args.info.now share beside) c.commit_and_register.new.fence c.commit_and_register.new.life) _
    (c.in_ok-commit_and_register.ensures.acts disk secrets fixed beside of.of.me)
    (makes_as (set_up_behind fixed c.args.block.now (with_scheme_of c.args.terms.now.me c.args.info.now share beside) c.commit_and_register.new.fence c.commit_and_register.new.life c.tip_of.result c.tip_of.ensures) _ made)))
    (c.set_up_committed.ensures.acts disk secrets fixed (with_scheme_of c.args.terms.now.me c.args.info.now share beside) fresh (in_word c.args.terms.now c.args.life.now.word c.commit_and_register.new.life.word fixed word of) reads by)

pub returns-clause-tells : goal.returns-clause-tells
returns-clause-tells g c = λ fixed beside fresh of reads by.
    let share = c.in_ok-secrets.secrets.share in
    let word : c.commit_and_register.new.life.word ≡ c.args.life.now.word = ap (λ (l : Life g.row.Dir.Denot). l.word) c.commit_and_register.ensures.rest ∙ ap (λ (l : Life g.row.Dir.Denot). l.word) c.secrets_of.ensures.life in
    then_beside beside c.args.terms.now.me c.args.info.now share
    (λ more took. then_well c.set_up_committed.result (took_then g.R.Registrar.tells (g.R.Registrar.taken c.args.registrar.now) (g.R.Registrar.taken c.commit_and_register.new.registrar) (g.R.Registrar.taken c.set_up_committed.new.registrar)
    (scheme_by c.args.terms.now.me c.args.info.now share ∷ []) more c.in_ok-commit_and_register.ensures.taken) took)
    (λ now told. tells_as (as_it_was fixed c.args.block.now c.args.info.now beside c.args.fence.now c.args.life.now c.secrets_of.new.life c.secrets_of.ensures.life) _
    (took_over_told fixed c.args.block.now c.args.info.now (live_of beside c.args.fence.now c.secrets_of.new.life) share c.in_ok-secrets.secrets.seed
    (secrets_told fixed c.args.info.now share c.in_ok-secrets.secrets.seed c.in_ok-secrets.ensures.read.0 reads (c.in_ok-secrets.ensures.read.1 fixed of.of.me of.word_is by.shares) c.args.out.now.entries)
    (live_of (with_scheme_of c.args.terms.now.me c.args.info.now share beside) c.commit_and_register.new.fence c.commit_and_register.new.life) _
    (c.in_ok-commit_and_register.ensures.tells c.in_ok-secrets.secrets.seed fixed beside of.of.me)
    (tells_as (set_up_behind fixed c.args.block.now (with_scheme_of c.args.terms.now.me c.args.info.now share beside) c.commit_and_register.new.fence c.commit_and_register.new.life c.tip_of.result c.tip_of.ensures) _ told)))
    (c.set_up_committed.ensures.tells.1 fixed (with_scheme_of c.args.terms.now.me c.args.info.now share beside) fresh (in_word c.args.terms.now c.args.life.now.word c.commit_and_register.new.life.word fixed word of)
    (can_read fixed c.set_up_committed.ensures.tells.0 reads) by)

pub returns-clause-moves : goal.returns-clause-moves
returns-clause-moves g c = record {
  word = c.set_up_committed.ensures.word ∙ ap (λ (l : Life g.row.Dir.Denot). l.word) c.commit_and_register.ensures.rest ∙ ap (λ (l : Life g.row.Dir.Denot). l.word) c.secrets_of.ensures.life;
  moved =
      moved_then g.D.Disk.tells g.D.Disk.made g.X.SecretStore.made g.D.Disk.faults g.X.SecretStore.faults g.met.D.Disk.made_more g.met.X.SecretStore.made_more _ _ _
      (moved_then g.D.Disk.tells g.D.Disk.made g.X.SecretStore.made g.D.Disk.faults g.X.SecretStore.faults g.met.D.Disk.made_more g.met.X.SecretStore.made_more _ _ _ c.secrets_of.ensures.moved c.commit_and_register.ensures.moved) c.set_up_committed.ensures.moved;
  fit = λ told fit.
      c.set_up_committed.ensures.fit told (rw (c.commit_and_register.ensures.disk, c.secrets_of.ensures.disk) fit);
}

pub returns-clause-causes : goal.returns-clause-causes
returns-clause-causes g c =
    let before = moved_then g.D.Disk.tells g.D.Disk.made g.X.SecretStore.made g.D.Disk.faults g.X.SecretStore.faults g.met.D.Disk.made_more g.met.X.SecretStore.made_more _ _ _ c.secrets_of.ensures.moved c.commit_and_register.ensures.moved in
    result_caused_by g.D.Disk.tells (λ x. rose_around _ _ _ _ before.later_disk c.set_up_committed.ensures.moved.later_disk (omega arith) x)
    (λ x. rose_around _ _ _ _ before.later_secrets c.set_up_committed.ensures.moved.later_secrets (omega arith) x)
    (λ x. reached_behind _ _ _ before.counts x) c.set_up_committed.result c.set_up_committed.ensures.causes

pub returns-clause-ready : goal.returns-clause-ready
returns-clause-ready g c = c.set_up_committed.ensures.ready

pub set_up_committed-requires-clause-me : goal.set_up_committed-requires-clause-me
set_up_committed-requires-clause-me g c = c.requires.me

pub set_up_committed-requires-clause-current : goal.set_up_committed-requires-clause-current
set_up_committed-requires-clause-current g c = c.in_ok-commit_and_register.ensures.current

pub returns-clause-current : goal.returns-clause-current
returns-clause-current g c = c.set_up_committed.ensures.current
