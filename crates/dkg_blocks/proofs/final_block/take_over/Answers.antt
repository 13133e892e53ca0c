use Rattle.std.proofs.Common.{◌≡◌, ◌∷◌, [], refl, ap, arith, ◌∙◌}
use Rattle.std.proofs.lemmas.Result.{err_from_is_err_and}
use Rattle.dkg_store.proofs.Counts.{reached_behind}
use Rattle.dkg_store.specs.Acts.{broken, by_want}
use Rattle.dkg_core.specs.Blocks as blocks
use Rattle.dkg_verifying.specs.InclusionOf.{artifact_of}
use Rattle.dkg_life.specs.LiveOf.{live_of, scheme_by, with_scheme_of}
use Rattle.dkg_life.specs.declared.life.Life.{Life}
use Rattle.dkg_blocks.proofs.Applying.{firm_on, in_word}
use Rattle.dkg_setup.proofs.OpeningCourses.{makes_as, tells_as}
use Rattle.dkg_life.proofs.Beside.{then_well, took_then}
use Rattle.dkg_blocks.proofs.Blaming.{result_caused_by}
use Rattle.dkg_life.proofs.Burning.{speaks_makes}
use Rattle.dkg_life.proofs.Caused.{caused_around, rose_around}
use Rattle.dkg_life.proofs.Kept.{moved_none, moved_then}
use Rattle.dkg_blocks.proofs.PassingOn.{seed_told, seed_unread_makes, seed_unread_told, taken_makes, taken_told, taken_with, then_with, untaken_makes, untaken_told}
use Rattle.dkg_life.proofs.Said.{speaks_tells}
use Rattle.dkg_life.proofs.Speaking.{want_speaks}
use Rattle.dkg_verifying.proofs.Telling.{ends_beside}
use Rattle.dkg_blocks.proofs.final_block.take_over.Goals as goal

-- NO MEMORY FOR THE SHARE

pub returns-in_err-share-clause-acts : goal.returns-in_err-share-clause-acts
returns-in_err-share-clause-acts g c = λ disk secrets fixed beside of reads by spells seen.
    let p = err_from_is_err_and c.from_residual.result c.from_residual.ensures.1 in
    let course = blocks.takes_over fixed c.args.block.now c.args.info.now (blocks.share_for fixed c.args.info.now (artifact_of c.args.artifact.now)) (live_of beside c.args.fence.now c.args.life.now) in
    rw (p.1, p.2) (ends_beside beside tt tt (speaks_makes course (broken by_want) _ _ (want_speaks course c.args.out.now.entries)))

pub returns-in_err-share-clause-tells : goal.returns-in_err-share-clause-tells
returns-in_err-share-clause-tells g c = λ fixed beside of reads by spells seen.
    let p = err_from_is_err_and c.from_residual.result c.from_residual.ensures.1 in
    let course = blocks.takes_over fixed c.args.block.now c.args.info.now (blocks.share_for fixed c.args.info.now (artifact_of c.args.artifact.now)) (live_of beside c.args.fence.now c.args.life.now) in
    rw (p.1, p.2) (ends_beside beside tt tt (speaks_tells course (broken by_want) (want_speaks course c.args.out.now.entries)))

pub returns-in_err-share-clause-moves : goal.returns-in_err-share-clause-moves
returns-in_err-share-clause-moves g c = record {
  word = refl;
  moved = moved_none g.D.Disk.tells g.D.Disk.made g.X.SecretStore.made g.D.Disk.faults g.X.SecretStore.faults g.met.D.Disk.made_none g.met.X.SecretStore.made_none c.args.devices.now;
  fit = λ told fit. fit;
}

-- NO SEED

pub returns-in_err-secrets-clause-acts : goal.returns-in_err-secrets-clause-acts
returns-in_err-secrets-clause-acts g c = λ disk secrets fixed beside of reads by spells seen.
    let p = err_from_is_err_and c.from_residual-in_err-secrets.result c.from_residual-in_err-secrets.ensures.1 in
    rw (p.1, p.2) (ends_beside beside tt tt (seed_unread_makes fixed c.args.block.now c.args.info.now of.of.reshare (blocks.share_for fixed c.args.info.now (artifact_of c.args.artifact.now)) (live_of beside c.args.fence.now c.args.life.now) c.in_err-secrets.field-0.0
    (c.in_err-secrets.ensures.acts disk secrets fixed of.word_is reads c.args.out.now.entries)))

pub returns-in_err-secrets-clause-tells : goal.returns-in_err-secrets-clause-tells
returns-in_err-secrets-clause-tells g c = λ fixed beside of reads by spells seen.
    let p = err_from_is_err_and c.from_residual-in_err-secrets.result c.from_residual-in_err-secrets.ensures.1 in
    rw (p.1, p.2) (ends_beside beside tt tt (seed_unread_told fixed c.args.block.now c.args.info.now of.of.reshare (blocks.share_for fixed c.args.info.now (artifact_of c.args.artifact.now)) (live_of beside c.args.fence.now c.args.life.now) c.in_err-secrets.field-0.0
    (c.in_err-secrets.ensures.unread fixed c.args.out.now.entries)))

pub returns-in_err-secrets-clause-moves : goal.returns-in_err-secrets-clause-moves
returns-in_err-secrets-clause-moves g c = record {
  word = ap (λ (l : Life g.row.Dir.Denot). l.word) c.secrets_with.ensures.life;
  moved = c.secrets_with.ensures.moved;
  fit = λ told fit. rw c.secrets_with.ensures.disk fit;
}

pub returns-in_err-secrets-clause-causes : goal.returns-in_err-secrets-clause-causes
returns-in_err-secrets-clause-causes g c =
    let p = err_from_is_err_and c.from_residual-in_err-secrets.result c.from_residual-in_err-secrets.ensures.1 in
    rw (p.1, p.2) (caused_around g.D.Disk.tells (λ x. absurd x) (λ x. x) (λ x. x) c.in_err-secrets.field-0.0 c.in_err-secrets.ensures.causes.1)

-- NOT COMMITTED, OR NOT REGISTERED

pub returns-in_err-commit_and_register-clause-acts : goal.returns-in_err-commit_and_register-clause-acts
returns-in_err-commit_and_register-clause-acts g c = λ disk secrets fixed beside of reads by spells seen.
    let p = err_from_is_err_and c.from_residual-in_err-commit_and_register.result c.from_residual-in_err-commit_and_register.ensures.1 in
    let share : c.in_ok-secrets.secrets.share ≡ blocks.share_for fixed c.args.info.now (artifact_of c.args.artifact.now) = c.in_ok-secrets.ensures.share ∙ c.in_ok-share.ensures fixed spells in
    rw (p.1, p.2) (ends_beside beside tt tt (makes_as (taken_with fixed c.args.block.now c.args.info.now (blocks.share_for fixed c.args.info.now (artifact_of c.args.artifact.now)) c.in_ok-secrets.secrets.share share beside c.args.fence.now c.args.life.now c.secrets_with.new.life c.secrets_with.ensures.life) _
    (untaken_makes fixed c.args.block.now c.args.info.now of.of.reshare c.in_ok-secrets.secrets.share (live_of beside c.args.fence.now c.secrets_with.new.life) c.in_ok-secrets.secrets.seed
    (c.in_ok-secrets.ensures.acts disk secrets fixed of.word_is reads c.args.out.now.entries) c.in_err-commit_and_register.field-0.0
    (c.in_err-commit_and_register.ensures.acts disk secrets fixed beside of.of.me))))

pub returns-in_err-commit_and_register-clause-tells : goal.returns-in_err-commit_and_register-clause-tells
returns-in_err-commit_and_register-clause-tells g c = λ fixed beside of reads by spells seen.
    let p = err_from_is_err_and c.from_residual-in_err-commit_and_register.result c.from_residual-in_err-commit_and_register.ensures.1 in
    let share : c.in_ok-secrets.secrets.share ≡ blocks.share_for fixed c.args.info.now (artifact_of c.args.artifact.now) = c.in_ok-secrets.ensures.share ∙ c.in_ok-share.ensures fixed spells in
    rw (p.1, p.2) (ends_beside beside tt tt (tells_as (taken_with fixed c.args.block.now c.args.info.now (blocks.share_for fixed c.args.info.now (artifact_of c.args.artifact.now)) c.in_ok-secrets.secrets.share share beside c.args.fence.now c.args.life.now c.secrets_with.new.life c.secrets_with.ensures.life) _
    (untaken_told fixed c.args.block.now c.args.info.now of.of.reshare c.in_ok-secrets.secrets.share (live_of beside c.args.fence.now c.secrets_with.new.life) c.in_ok-secrets.secrets.seed
    (seed_told fixed c.args.info.now c.in_ok-secrets.secrets.seed c.in_ok-secrets.ensures.read.0 reads (c.in_ok-secrets.ensures.read.1 fixed of.word_is) c.args.out.now.entries)
    c.in_err-commit_and_register.field-0.0 (c.in_err-commit_and_register.ensures.tells c.in_ok-secrets.secrets.seed fixed beside of.of.me))))

pub returns-in_err-commit_and_register-clause-moves : goal.returns-in_err-commit_and_register-clause-moves
returns-in_err-commit_and_register-clause-moves g c = record {
  word =
      ap (λ (l : Life g.row.Dir.Denot). l.word) c.commit_and_register.ensures.rest ∙ ap (λ (l : Life g.row.Dir.Denot). l.word) c.secrets_with.ensures.life;
  moved =
      moved_then g.D.Disk.tells g.D.Disk.made g.X.SecretStore.made g.D.Disk.faults g.X.SecretStore.faults g.met.D.Disk.made_more g.met.X.SecretStore.made_more _ _ _ c.secrets_with.ensures.moved c.commit_and_register.ensures.moved;
  fit = λ told fit. rw (c.commit_and_register.ensures.disk, c.secrets_with.ensures.disk) fit;
}

pub returns-in_err-commit_and_register-clause-causes : goal.returns-in_err-commit_and_register-clause-causes
returns-in_err-commit_and_register-clause-causes g c =
    let p = err_from_is_err_and c.from_residual-in_err-commit_and_register.result c.from_residual-in_err-commit_and_register.ensures.1 in
    rw (p.1, p.2) (caused_around g.D.Disk.tells (λ x. absurd x) (λ x. rose_around _ _ _ _ c.secrets_with.ensures.moved.later_secrets c.commit_and_register.ensures.moved.later_secrets (omega arith) x)
    (λ x. reached_behind _ _ _ c.secrets_with.ensures.moved.counts x) c.in_err-commit_and_register.field-0.0 c.in_err-commit_and_register.ensures.causes.1)

-- IT GOES ON

pub pass_on-requires-clause-open : goal.pass_on-requires-clause-open
pass_on-requires-clause-open g c = λ told.
    firm_on g.D.Disk.files g.D.Disk.image c.args.devices.now.disk.now c.commit_and_register.new.devices.disk.now (c.commit_and_register.ensures.disk ∙ c.secrets_with.ensures.disk)
    c.args.life.now.store.journal c.commit_and_register.new.life.store.journal
    (ap (λ (l : Life g.row.Dir.Denot). l.store.journal) c.commit_and_register.ensures.rest ∙ ap (λ (l : Life g.row.Dir.Denot). l.store.journal) c.secrets_with.ensures.life) (c.requires.ready.firm told)

pub pass_on-requires-clause-next : goal.pass_on-requires-clause-next
pass_on-requires-clause-next g c = c.requires.next

pub pass_on-requires-clause-current : goal.pass_on-requires-clause-current
pass_on-requires-clause-current g c = c.in_ok-commit_and_register.ensures.current

pub pass_on-requires-clause-idle : goal.pass_on-requires-clause-idle
pass_on-requires-clause-idle g c = c.requires.idle

pub pass_on-requires-clause-me : goal.pass_on-requires-clause-me
pass_on-requires-clause-me g c = c.requires.me

pub returns-clause-acts : goal.returns-clause-acts
returns-clause-acts g c = λ disk secrets fixed beside of reads by spells seen.
    let its = c.in_ok-secrets.secrets.share in
    let share : its ≡ blocks.share_for fixed c.args.info.now (artifact_of c.args.artifact.now) = c.in_ok-secrets.ensures.share ∙ c.in_ok-share.ensures fixed spells in
    let word : c.commit_and_register.new.life.word ≡ c.args.life.now.word = ap (λ (l : Life g.row.Dir.Denot). l.word) c.commit_and_register.ensures.rest ∙ ap (λ (l : Life g.row.Dir.Denot). l.word) c.secrets_with.ensures.life in
    then_with beside c.args.terms.now.me c.args.info.now its
    (λ more took. then_well c.pass_on.result (took_then g.R.Registrar.tells (g.R.Registrar.taken c.args.registrar.now) (g.R.Registrar.taken c.commit_and_register.new.registrar) (g.R.Registrar.taken c.pass_on.new.registrar)
    (scheme_by c.args.terms.now.me c.args.info.now its ∷ []) more c.in_ok-commit_and_register.ensures.taken) took)
    (λ now made. makes_as (taken_with fixed c.args.block.now c.args.info.now (blocks.share_for fixed c.args.info.now (artifact_of c.args.artifact.now)) its share beside c.args.fence.now c.args.life.now c.secrets_with.new.life c.secrets_with.ensures.life) _
    (taken_makes fixed c.args.block.now c.args.info.now of.of.reshare its (live_of beside c.args.fence.now c.secrets_with.new.life) c.in_ok-secrets.secrets.seed
    (c.in_ok-secrets.ensures.acts disk secrets fixed of.word_is reads c.args.out.now.entries)
    (live_of (with_scheme_of c.args.terms.now.me c.args.info.now its beside) c.commit_and_register.new.fence c.commit_and_register.new.life) _
    (c.in_ok-commit_and_register.ensures.acts disk secrets fixed beside of.of.me) made))
    (c.pass_on.ensures.acts disk secrets fixed (with_scheme_of c.args.terms.now.me c.args.info.now its beside) (in_word c.args.terms.now c.args.life.now.word c.commit_and_register.new.life.word fixed word of) reads by seen)

pub returns-clause-tells : goal.returns-clause-tells
returns-clause-tells g c = λ fixed beside of reads by spells seen.
    let its = c.in_ok-secrets.secrets.share in
    let share : its ≡ blocks.share_for fixed c.args.info.now (artifact_of c.args.artifact.now) = c.in_ok-secrets.ensures.share ∙ c.in_ok-share.ensures fixed spells in
    let word : c.commit_and_register.new.life.word ≡ c.args.life.now.word = ap (λ (l : Life g.row.Dir.Denot). l.word) c.commit_and_register.ensures.rest ∙ ap (λ (l : Life g.row.Dir.Denot). l.word) c.secrets_with.ensures.life in
    then_with beside c.args.terms.now.me c.args.info.now its
    (λ more took. then_well c.pass_on.result (took_then g.R.Registrar.tells (g.R.Registrar.taken c.args.registrar.now) (g.R.Registrar.taken c.commit_and_register.new.registrar) (g.R.Registrar.taken c.pass_on.new.registrar)
    (scheme_by c.args.terms.now.me c.args.info.now its ∷ []) more c.in_ok-commit_and_register.ensures.taken) took)
    (λ now told. tells_as (taken_with fixed c.args.block.now c.args.info.now (blocks.share_for fixed c.args.info.now (artifact_of c.args.artifact.now)) its share beside c.args.fence.now c.args.life.now c.secrets_with.new.life c.secrets_with.ensures.life) _
    (taken_told fixed c.args.block.now c.args.info.now of.of.reshare its (live_of beside c.args.fence.now c.secrets_with.new.life) c.in_ok-secrets.secrets.seed
    (seed_told fixed c.args.info.now c.in_ok-secrets.secrets.seed c.in_ok-secrets.ensures.read.0 reads (c.in_ok-secrets.ensures.read.1 fixed of.word_is) c.args.out.now.entries)
    (live_of (with_scheme_of c.args.terms.now.me c.args.info.now its beside) c.commit_and_register.new.fence c.commit_and_register.new.life) _
    (c.in_ok-commit_and_register.ensures.tells c.in_ok-secrets.secrets.seed fixed beside of.of.me) told))
    (c.pass_on.ensures.tells fixed (with_scheme_of c.args.terms.now.me c.args.info.now its beside) (in_word c.args.terms.now c.args.life.now.word c.commit_and_register.new.life.word fixed word of) reads by seen)

pub returns-clause-moves : goal.returns-clause-moves
returns-clause-moves g c = record {
  word = c.pass_on.ensures.moves.word ∙ ap (λ (l : Life g.row.Dir.Denot). l.word) c.commit_and_register.ensures.rest ∙ ap (λ (l : Life g.row.Dir.Denot). l.word) c.secrets_with.ensures.life;
  moved =
      moved_then g.D.Disk.tells g.D.Disk.made g.X.SecretStore.made g.D.Disk.faults g.X.SecretStore.faults g.met.D.Disk.made_more g.met.X.SecretStore.made_more _ _ _
      (moved_then g.D.Disk.tells g.D.Disk.made g.X.SecretStore.made g.D.Disk.faults g.X.SecretStore.faults g.met.D.Disk.made_more g.met.X.SecretStore.made_more _ _ _ c.secrets_with.ensures.moved c.commit_and_register.ensures.moved) c.pass_on.ensures.moves.moved;
  fit = λ told fit. c.pass_on.ensures.moves.fit told (rw (c.commit_and_register.ensures.disk, c.secrets_with.ensures.disk) fit);
}

pub returns-clause-causes : goal.returns-clause-causes
returns-clause-causes g c =
    let before = moved_then g.D.Disk.tells g.D.Disk.made g.X.SecretStore.made g.D.Disk.faults g.X.SecretStore.faults g.met.D.Disk.made_more g.met.X.SecretStore.made_more _ _ _ c.secrets_with.ensures.moved c.commit_and_register.ensures.moved in
    result_caused_by g.D.Disk.tells (λ x. rose_around _ _ _ _ before.later_disk c.pass_on.ensures.moves.moved.later_disk (omega arith) x)
    (λ x. rose_around _ _ _ _ before.later_secrets c.pass_on.ensures.moves.moved.later_secrets (omega arith) x)
    (λ x. reached_behind _ _ _ before.counts x) c.pass_on.result c.pass_on.ensures.causes

pub returns-clause-ready : goal.returns-clause-ready
returns-clause-ready g c = c.pass_on.ensures.ready

pub returns-clause-including : goal.returns-clause-including
returns-clause-including g c = c.pass_on.ensures.including
