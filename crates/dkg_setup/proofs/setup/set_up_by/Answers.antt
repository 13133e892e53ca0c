use Rattle.dkg_life.proofs.Committing.{in_any}
use Rattle.dkg_infos.specs.declared.info.EpochInfo.{EpochInfo}
use Rattle.std.specs.Prelude.{IsSome}
use Rattle.std.proofs.Common.{◌-◌, ◌∙◌, None, ap, arith, Option, subst, sym}
use Rattle.std.proofs.lemmas.Result.{err_from_is_err_and}
use Rattle.std.specs.Int.NonZero.{non_zero_u32_get}
use Rattle.dkg_store.proofs.Counts.{reached_behind}
use Rattle.dkg_core.specs.Setup as setup
use Rattle.dkg_life.specs.declared.life.Life.{Life}
use Rattle.dkg_life.specs.Ends.{by_stop, ends, ends_in}
use Rattle.dkg_life.specs.LiveOf.{live_of}
use Rattle.dkg_setup.specs.Standings.{standing_of}
use Rattle.dkg_life.specs.Steps.{refusal_of}
use Rattle.dkg_life.proofs.Beside.{beside_as, beside_kept, fresh_as, none_beside}
use Rattle.dkg_life.proofs.Burning.{speaks_makes, unless, unless_outside}
use Rattle.dkg_life.proofs.Caused.{caused_around, caused_by_around, of_result, rose_around}
use Rattle.dkg_setup.proofs.Drawing.{stands_on}
use Rattle.dkg_life.proofs.Kept.{above_committed, above_itself, above_pruned, above_same, gives_pruned, moved_none, moved_then}
use Rattle.dkg_setup.proofs.Placing.{drawn_up, steady_committed, steady_drawn, steady_pruned, steady_read, steady_rest, steady_then}
use Rattle.dkg_life.proofs.Said.{nothing_held, speaks_tells}
use Rattle.dkg_life.proofs.Seated.{on_ok}
use Rattle.dkg_setup.proofs.SettingUp.{commit_ended, commit_unsaid, draw_ended, draw_said, drawing, judge_failed, passed_over, prune_ended, prune_unsaid, secrets_ended, secrets_told, secrets_unsaid}
use Rattle.dkg_setup.proofs.setup.set_up_by.Goals as goal

pub returns-in_err-judge_info-clause-acts : goal.returns-in_err-judge_info-clause-acts
returns-in_err-judge_info-clause-acts g c = λ disk secrets fixed beside fresh inn reads ruled stands.
    let p = err_from_is_err_and c.from_residual.result c.from_residual.ensures.1 in
    rw (p.1, p.2) (none_beside beside _ _ tt (speaks_makes (setup.with_info fixed None (standing_of c.args.standing) c.args.info.now (live_of beside c.args.fence.now c.args.life.now)) (by_stop c.in_err-judge_info.field-0.0) _ _ (judge_failed fixed (standing_of c.args.standing) c.args.info.now (live_of beside c.args.fence.now c.args.life.now) (non_zero_u32_get c.args.terms.now.limit) inn.of.limit c.in_err-judge_info.field-0.0 c.in_err-judge_info.ensures.err c.args.out.now.entries)))

pub returns-in_err-secrets-clause-acts : goal.returns-in_err-secrets-clause-acts
returns-in_err-secrets-clause-acts g c = λ disk secrets fixed beside fresh inn reads ruled stands.
    let p = err_from_is_err_and c.from_residual-in_err-secrets.result c.from_residual-in_err-secrets.ensures.1 in
    rw (p.1, p.2) (none_beside beside _ _ tt (secrets_ended fixed (standing_of c.args.standing) c.args.info.now (live_of beside c.args.fence.now c.secrets_of.new.life) (setup.with_info fixed None (standing_of c.args.standing) c.args.info.now (live_of beside c.args.fence.now c.args.life.now)) (passed_over fixed (standing_of c.args.standing) c.args.info.now beside c.args.fence.now c.args.life.now c.secrets_of.new.life c.secrets_of.ensures.life (non_zero_u32_get c.args.terms.now.limit) inn.of.limit c.in_ok-judge_info.ensures.ok) c.in_err-secrets.field-0.0 (c.in_err-secrets.ensures.acts disk secrets fixed inn.of.me inn.word_is ruled.shares reads c.args.out.now.entries)))

pub returns-in_err-commit_new-clause-acts : goal.returns-in_err-commit_new-clause-acts
returns-in_err-commit_new-clause-acts g c = λ disk secrets fixed beside fresh inn reads ruled stands.
    let p = err_from_is_err_and c.from_residual-in_err-commit_new.result c.from_residual-in_err-commit_new.ensures.1 in
    rw (p.1, p.2) (beside_as (λ more took. tt) (λ now made. commit_ended fixed (standing_of c.args.standing) c.args.info.now (live_of beside c.args.fence.now c.secrets_of.new.life) (setup.with_info fixed None (standing_of c.args.standing) c.args.info.now (live_of beside c.args.fence.now c.args.life.now)) (passed_over fixed (standing_of c.args.standing) c.args.info.now beside c.args.fence.now c.args.life.now c.secrets_of.new.life c.secrets_of.ensures.life (non_zero_u32_get c.args.terms.now.limit) inn.of.limit c.in_ok-judge_info.ensures.ok) c.in_ok-secrets.secrets.share c.in_ok-secrets.secrets.seed (c.in_ok-secrets.ensures.acts disk secrets fixed inn.of.me inn.word_is ruled.shares reads c.args.out.now.entries) c.in_err-commit_new.field-0.0 made) (c.in_err-commit_new.ensures.acts disk secrets fixed beside inn.of.me))

pub returns-in_err-prune-clause-acts : goal.returns-in_err-prune-clause-acts
returns-in_err-prune-clause-acts g c = λ disk secrets fixed beside fresh inn reads ruled stands.
    let p = err_from_is_err_and c.from_residual-in_err-prune.result c.from_residual-in_err-prune.ensures.1 in
    rw (p.1, p.2) (beside_as (λ more took. tt) (λ now made. prune_ended fixed (standing_of c.args.standing) c.args.info.now (live_of beside c.args.fence.now c.secrets_of.new.life) (setup.with_info fixed None (standing_of c.args.standing) c.args.info.now (live_of beside c.args.fence.now c.args.life.now)) (passed_over fixed (standing_of c.args.standing) c.args.info.now beside c.args.fence.now c.args.life.now c.secrets_of.new.life c.secrets_of.ensures.life (non_zero_u32_get c.args.terms.now.limit) inn.of.limit c.in_ok-judge_info.ensures.ok) c.in_ok-secrets.secrets.share c.in_ok-secrets.secrets.seed (c.in_ok-secrets.ensures.acts disk secrets fixed inn.of.me inn.word_is ruled.shares reads c.args.out.now.entries) (live_of now c.commit_new.new.fence c.commit_new.new.life) made c.saturating_sub.result (c.saturating_sub.ensures ∙ ap (λ (l : Life g.row.Dir.Denot). l.epoch - 1) c.life.view_is) c.in_err-prune.field-0.0 (c.in_err-prune.ensures.acts disk secrets now c.commit_new.new.fence c.commit_new.new.out.entries)) (c.in_ok-commit_new.ensures.acts disk secrets fixed beside inn.of.me))

pub returns-clause-acts : goal.returns-clause-acts
returns-clause-acts g c = λ disk secrets fixed beside fresh inn reads ruled stands.
    beside_kept (λ more took. on_ok c.draw_up.result took) (λ now same made. draw_ended fixed (standing_of c.args.standing) c.args.info.now (live_of beside c.args.fence.now c.secrets_of.new.life) (setup.with_info fixed None (standing_of c.args.standing) c.args.info.now (live_of beside c.args.fence.now c.args.life.now)) (passed_over fixed (standing_of c.args.standing) c.args.info.now beside c.args.fence.now c.args.life.now c.secrets_of.new.life c.secrets_of.ensures.life (non_zero_u32_get c.args.terms.now.limit) inn.of.limit c.in_ok-judge_info.ensures.ok) c.in_ok-secrets.secrets.share c.in_ok-secrets.secrets.seed (c.in_ok-secrets.ensures.acts disk secrets fixed inn.of.me inn.word_is ruled.shares reads c.args.out.now.entries) (live_of now c.commit_new.new.fence c.commit_new.new.life) made c.saturating_sub.result (c.saturating_sub.ensures ∙ ap (λ (l : Life g.row.Dir.Denot). l.epoch - 1) c.life.view_is) (live_of now c.commit_new.new.fence c.prune.new.life) (ends_in (live_of now c.commit_new.new.fence c.draw_up.new.life) c.draw_up.result) (c.in_ok-prune.ensures.acts disk secrets now c.commit_new.new.fence c.commit_new.new.out.entries)
    (speaks_makes (drawing fixed (standing_of c.args.standing) c.args.info.now c.in_ok-secrets.secrets.share c.in_ok-secrets.secrets.seed (live_of now c.commit_new.new.fence c.prune.new.life)) (ends_in (live_of now c.commit_new.new.fence c.draw_up.new.life) c.draw_up.result) _ _ (c.draw_up.ensures.speaks fixed now c.commit_new.new.fence (fresh_as beside.inclusion now.inclusion same fresh) inn.of ruled (stands_on fixed (live_of beside c.args.fence.now c.args.life.now) (live_of now c.commit_new.new.fence c.prune.new.life) c.args.phase (ap (λ (l : Life g.row.Dir.Denot). l.tip) c.prune.ensures.rest ∙ ap (λ (l : Life g.row.Dir.Denot). l.tip) c.commit_new.ensures.rest ∙ ap (λ (l : Life g.row.Dir.Denot). l.tip) c.secrets_of.ensures.life) stands)))) (c.in_ok-commit_new.ensures.acts disk secrets fixed beside inn.of.me)

pub returns-in_err-judge_info-clause-tells : goal.returns-in_err-judge_info-clause-tells
returns-in_err-judge_info-clause-tells g c = (
  nothing_held,
  λ fixed beside fresh inn can ruled stands.
      let p = err_from_is_err_and c.from_residual.result c.from_residual.ensures.1 in
      rw (p.1, p.2) (none_beside beside _ _ tt (speaks_tells (setup.with_info fixed None (standing_of c.args.standing) c.args.info.now (live_of beside c.args.fence.now c.args.life.now)) (by_stop c.in_err-judge_info.field-0.0) (judge_failed fixed (standing_of c.args.standing) c.args.info.now (live_of beside c.args.fence.now c.args.life.now) (non_zero_u32_get c.args.terms.now.limit) inn.of.limit c.in_err-judge_info.field-0.0 c.in_err-judge_info.ensures.err c.args.out.now.entries))),
)

pub returns-in_err-secrets-clause-tells : goal.returns-in_err-secrets-clause-tells
returns-in_err-secrets-clause-tells g c = (
  nothing_held,
  λ fixed beside fresh inn can ruled stands.
      let p = err_from_is_err_and c.from_residual-in_err-secrets.result c.from_residual-in_err-secrets.ensures.1 in
      rw (p.1, p.2) (none_beside beside _ _ tt (secrets_unsaid fixed (standing_of c.args.standing) c.args.info.now (live_of beside c.args.fence.now c.secrets_of.new.life) (setup.with_info fixed None (standing_of c.args.standing) c.args.info.now (live_of beside c.args.fence.now c.args.life.now)) (passed_over fixed (standing_of c.args.standing) c.args.info.now beside c.args.fence.now c.args.life.now c.secrets_of.new.life c.secrets_of.ensures.life (non_zero_u32_get c.args.terms.now.limit) inn.of.limit c.in_ok-judge_info.ensures.ok) c.in_err-secrets.field-0.0 (c.in_err-secrets.ensures.unread fixed c.args.out.now.entries))),
)

pub returns-in_err-commit_new-clause-tells : goal.returns-in_err-commit_new-clause-tells
returns-in_err-commit_new-clause-tells g c = (
  (c.in_ok-secrets.ensures.read).0,
  λ fixed beside fresh inn can ruled stands.
      let p = err_from_is_err_and c.from_residual-in_err-commit_new.result c.from_residual-in_err-commit_new.ensures.1 in
      rw (p.1, p.2) (beside_as (λ more took. tt) (λ now said. commit_unsaid fixed (standing_of c.args.standing) c.args.info.now (live_of beside c.args.fence.now c.secrets_of.new.life) (setup.with_info fixed None (standing_of c.args.standing) c.args.info.now (live_of beside c.args.fence.now c.args.life.now)) (passed_over fixed (standing_of c.args.standing) c.args.info.now beside c.args.fence.now c.args.life.now c.secrets_of.new.life c.secrets_of.ensures.life (non_zero_u32_get c.args.terms.now.limit) inn.of.limit c.in_ok-judge_info.ensures.ok) c.in_ok-secrets.secrets.share c.in_ok-secrets.secrets.seed (secrets_told fixed c.args.info.now c.in_ok-secrets.secrets.share c.in_ok-secrets.secrets.seed (c.in_ok-secrets.ensures.read).0 ((c.in_ok-secrets.ensures.read).1 fixed inn.of.me inn.word_is ruled.shares) can c.args.out.now.entries) c.in_err-commit_new.field-0.0 said) (c.in_err-commit_new.ensures.tells c.in_ok-secrets.secrets.seed fixed beside inn.of.me)),
)

pub returns-in_err-prune-clause-tells : goal.returns-in_err-prune-clause-tells
returns-in_err-prune-clause-tells g c = (
  (c.in_ok-secrets.ensures.read).0,
  λ fixed beside fresh inn can ruled stands.
      let p = err_from_is_err_and c.from_residual-in_err-prune.result c.from_residual-in_err-prune.ensures.1 in
      rw (p.1, p.2) (beside_as (λ more took. tt) (λ now said. prune_unsaid fixed (standing_of c.args.standing) c.args.info.now (live_of beside c.args.fence.now c.secrets_of.new.life) (setup.with_info fixed None (standing_of c.args.standing) c.args.info.now (live_of beside c.args.fence.now c.args.life.now)) (passed_over fixed (standing_of c.args.standing) c.args.info.now beside c.args.fence.now c.args.life.now c.secrets_of.new.life c.secrets_of.ensures.life (non_zero_u32_get c.args.terms.now.limit) inn.of.limit c.in_ok-judge_info.ensures.ok) c.in_ok-secrets.secrets.share c.in_ok-secrets.secrets.seed (secrets_told fixed c.args.info.now c.in_ok-secrets.secrets.share c.in_ok-secrets.secrets.seed (c.in_ok-secrets.ensures.read).0 ((c.in_ok-secrets.ensures.read).1 fixed inn.of.me inn.word_is ruled.shares) can c.args.out.now.entries) (live_of now c.commit_new.new.fence c.commit_new.new.life) said c.saturating_sub.result (c.saturating_sub.ensures ∙ ap (λ (l : Life g.row.Dir.Denot). l.epoch - 1) c.life.view_is) c.in_err-prune.field-0.0 (c.in_err-prune.ensures.tells now c.commit_new.new.fence c.commit_new.new.out.entries)) (c.in_ok-commit_new.ensures.tells c.in_ok-secrets.secrets.seed fixed beside inn.of.me)),
)

pub returns-clause-tells : goal.returns-clause-tells
returns-clause-tells g c = (
  (c.in_ok-secrets.ensures.read).0,
  λ fixed beside fresh inn can ruled stands.
      beside_kept (λ more took. on_ok c.draw_up.result took) (λ now same said. draw_said fixed (standing_of c.args.standing) c.args.info.now (live_of beside c.args.fence.now c.secrets_of.new.life) (setup.with_info fixed None (standing_of c.args.standing) c.args.info.now (live_of beside c.args.fence.now c.args.life.now)) (passed_over fixed (standing_of c.args.standing) c.args.info.now beside c.args.fence.now c.args.life.now c.secrets_of.new.life c.secrets_of.ensures.life (non_zero_u32_get c.args.terms.now.limit) inn.of.limit c.in_ok-judge_info.ensures.ok) c.in_ok-secrets.secrets.share c.in_ok-secrets.secrets.seed (secrets_told fixed c.args.info.now c.in_ok-secrets.secrets.share c.in_ok-secrets.secrets.seed (c.in_ok-secrets.ensures.read).0 ((c.in_ok-secrets.ensures.read).1 fixed inn.of.me inn.word_is ruled.shares) can c.args.out.now.entries) (live_of now c.commit_new.new.fence c.commit_new.new.life) said c.saturating_sub.result (c.saturating_sub.ensures ∙ ap (λ (l : Life g.row.Dir.Denot). l.epoch - 1) c.life.view_is) (live_of now c.commit_new.new.fence c.prune.new.life) (ends_in (live_of now c.commit_new.new.fence c.draw_up.new.life) c.draw_up.result) (c.in_ok-prune.ensures.tells now c.commit_new.new.fence c.commit_new.new.out.entries)
      (speaks_tells (drawing fixed (standing_of c.args.standing) c.args.info.now c.in_ok-secrets.secrets.share c.in_ok-secrets.secrets.seed (live_of now c.commit_new.new.fence c.prune.new.life)) (ends_in (live_of now c.commit_new.new.fence c.draw_up.new.life) c.draw_up.result) (c.draw_up.ensures.speaks fixed now c.commit_new.new.fence (fresh_as beside.inclusion now.inclusion same fresh) inn.of ruled (stands_on fixed (live_of beside c.args.fence.now c.args.life.now) (live_of now c.commit_new.new.fence c.prune.new.life) c.args.phase (ap (λ (l : Life g.row.Dir.Denot). l.tip) c.prune.ensures.rest ∙ ap (λ (l : Life g.row.Dir.Denot). l.tip) c.commit_new.ensures.rest ∙ ap (λ (l : Life g.row.Dir.Denot). l.tip) c.secrets_of.ensures.life) stands)))) (c.in_ok-commit_new.ensures.tells c.in_ok-secrets.secrets.seed fixed beside inn.of.me),
)

pub returns-in_err-judge_info-clause-above : goal.returns-in_err-judge_info-clause-above
returns-in_err-judge_info-clause-above g c = λ told. above_itself (c.args.life.now.epoch - 1) _ _

pub returns-in_err-secrets-clause-above : goal.returns-in_err-secrets-clause-above
returns-in_err-secrets-clause-above g c = λ told. above_same (c.args.life.now.epoch - 1) g.D.Disk.image _ _ _ _ c.secrets_of.ensures.disk c.secrets_of.ensures.same

pub returns-in_err-commit_new-clause-above : goal.returns-in_err-commit_new-clause-above
returns-in_err-commit_new-clause-above g c = λ told.
    above_committed (c.args.life.now.epoch - 1) g.D.Disk.files g.D.Disk.image c.args.devices.now.disk.now c.secrets_of.new.devices.disk.now c.commit_new.new.devices.disk.now c.commit_new.new.devices.disk.now (g.X.SecretStore.held c.args.devices.now.secrets.now) (g.X.SecretStore.held c.secrets_of.new.devices.secrets.now) (g.X.SecretStore.held c.commit_new.new.devices.secrets.now) (g.X.SecretStore.held c.commit_new.new.devices.secrets.now)
    (c.requires.open told).lands c.secrets_of.ensures.disk c.secrets_of.ensures.same c.commit_new.ensures.whole

pub returns-in_err-prune-clause-above : goal.returns-in_err-prune-clause-above
returns-in_err-prune-clause-above g c = λ told.
    above_pruned (c.args.life.now.epoch - 1) g.D.Disk.files g.D.Disk.image c.args.devices.now.disk.now c.secrets_of.new.devices.disk.now c.commit_new.new.devices.disk.now c.prune.new.devices.disk.now (g.X.SecretStore.held c.args.devices.now.secrets.now) (g.X.SecretStore.held c.secrets_of.new.devices.secrets.now) (g.X.SecretStore.held c.commit_new.new.devices.secrets.now) (g.X.SecretStore.held c.prune.new.devices.secrets.now)
    (c.requires.open told).lands c.secrets_of.ensures.disk c.secrets_of.ensures.same c.commit_new.ensures.whole c.saturating_sub.result
    ((c.saturating_sub.ensures ∙ ap (λ (l : Life g.row.Dir.Denot). l.epoch - 1) c.life.view_is) ∙ ap (λ (l : Life g.row.Dir.Denot). l.epoch - 1) c.commit_new.ensures.rest ∙ ap (λ (l : Life g.row.Dir.Denot). l.epoch - 1) c.secrets_of.ensures.life) (c.prune.ensures.above told)

pub returns-clause-above : goal.returns-clause-above
returns-clause-above g c = λ told.
    above_pruned (c.args.life.now.epoch - 1) g.D.Disk.files g.D.Disk.image c.args.devices.now.disk.now c.secrets_of.new.devices.disk.now c.commit_new.new.devices.disk.now c.prune.new.devices.disk.now (g.X.SecretStore.held c.args.devices.now.secrets.now) (g.X.SecretStore.held c.secrets_of.new.devices.secrets.now) (g.X.SecretStore.held c.commit_new.new.devices.secrets.now) (g.X.SecretStore.held c.prune.new.devices.secrets.now)
    (c.requires.open told).lands c.secrets_of.ensures.disk c.secrets_of.ensures.same c.commit_new.ensures.whole c.saturating_sub.result
    ((c.saturating_sub.ensures ∙ ap (λ (l : Life g.row.Dir.Denot). l.epoch - 1) c.life.view_is) ∙ ap (λ (l : Life g.row.Dir.Denot). l.epoch - 1) c.commit_new.ensures.rest ∙ ap (λ (l : Life g.row.Dir.Denot). l.epoch - 1) c.secrets_of.ensures.life) (c.prune.ensures.above told)

pub returns-in_err-judge_info-clause-gives : goal.returns-in_err-judge_info-clause-gives
returns-in_err-judge_info-clause-gives g c = unless (ends (λ done. done) c.from_residual.result) _ (λ told held pairs gives. gives)

pub returns-in_err-secrets-clause-gives : goal.returns-in_err-secrets-clause-gives
returns-in_err-secrets-clause-gives g c =
    let p = err_from_is_err_and c.from_residual-in_err-secrets.result c.from_residual-in_err-secrets.ensures.1 in
    rw (p.1, p.2) (unless_outside _ c.in_err-secrets.field-0.0 _ c.in_err-secrets.ensures.causes.0)

pub returns-in_err-commit_new-clause-gives : goal.returns-in_err-commit_new-clause-gives
returns-in_err-commit_new-clause-gives g c =
    let p = err_from_is_err_and c.from_residual-in_err-commit_new.result c.from_residual-in_err-commit_new.ensures.1 in
    rw (p.1, p.2) (unless_outside _ c.in_err-commit_new.field-0.0 _ c.in_err-commit_new.ensures.causes.0)

pub returns-in_err-prune-clause-gives : goal.returns-in_err-prune-clause-gives
returns-in_err-prune-clause-gives g c =
    let p = err_from_is_err_and c.from_residual-in_err-prune.result c.from_residual-in_err-prune.ensures.1 in
    rw (p.1, p.2) (unless_outside _ c.in_err-prune.field-0.0 _ c.in_err-prune.ensures.causes.0)

pub returns-clause-gives : goal.returns-clause-gives
returns-clause-gives g c = unless (ends (λ done. done) c.draw_up.result) _ (λ told held.
    gives_pruned (c.args.life.now.epoch - 1) g.D.Disk.files g.D.Disk.image c.args.devices.now.disk.now c.secrets_of.new.devices.disk.now c.commit_new.new.devices.disk.now c.prune.new.devices.disk.now (g.X.SecretStore.held c.args.devices.now.secrets.now) (g.X.SecretStore.held c.secrets_of.new.devices.secrets.now) (g.X.SecretStore.held c.commit_new.new.devices.secrets.now) (g.X.SecretStore.held c.prune.new.devices.secrets.now)
    (c.requires.open told).lands c.secrets_of.ensures.disk c.secrets_of.ensures.same c.commit_new.ensures.disk (c.in_ok-commit_new.ensures.halves held) c.saturating_sub.result
    ((c.saturating_sub.ensures ∙ ap (λ (l : Life g.row.Dir.Denot). l.epoch - 1) c.life.view_is) ∙ ap (λ (l : Life g.row.Dir.Denot). l.epoch - 1) c.commit_new.ensures.rest ∙ ap (λ (l : Life g.row.Dir.Denot). l.epoch - 1) c.secrets_of.ensures.life) (c.in_ok-prune.ensures.gives told))

pub returns-in_err-judge_info-clause-moved : goal.returns-in_err-judge_info-clause-moved
returns-in_err-judge_info-clause-moved g c = moved_none g.D.Disk.tells g.D.Disk.made g.X.SecretStore.made g.D.Disk.faults g.X.SecretStore.faults g.met.D.Disk.made_none g.met.X.SecretStore.made_none c.args.devices.now

pub returns-in_err-commit_new-clause-moved : goal.returns-in_err-commit_new-clause-moved
returns-in_err-commit_new-clause-moved g c = moved_then g.D.Disk.tells g.D.Disk.made g.X.SecretStore.made g.D.Disk.faults g.X.SecretStore.faults g.met.D.Disk.made_more g.met.X.SecretStore.made_more _ _ _ c.secrets_of.ensures.moved c.commit_new.ensures.moved

pub returns-in_err-prune-clause-moved : goal.returns-in_err-prune-clause-moved
returns-in_err-prune-clause-moved g c = moved_then g.D.Disk.tells g.D.Disk.made g.X.SecretStore.made g.D.Disk.faults g.X.SecretStore.faults g.met.D.Disk.made_more g.met.X.SecretStore.made_more _ _ _ (moved_then g.D.Disk.tells g.D.Disk.made g.X.SecretStore.made g.D.Disk.faults g.X.SecretStore.faults g.met.D.Disk.made_more g.met.X.SecretStore.made_more _ _ _ c.secrets_of.ensures.moved c.commit_new.ensures.moved) c.prune.ensures.moved

pub returns-clause-moved : goal.returns-clause-moved
returns-clause-moved g c = moved_then g.D.Disk.tells g.D.Disk.made g.X.SecretStore.made g.D.Disk.faults g.X.SecretStore.faults g.met.D.Disk.made_more g.met.X.SecretStore.made_more _ _ _ (moved_then g.D.Disk.tells g.D.Disk.made g.X.SecretStore.made g.D.Disk.faults g.X.SecretStore.faults g.met.D.Disk.made_more g.met.X.SecretStore.made_more _ _ _ c.secrets_of.ensures.moved c.commit_new.ensures.moved) c.prune.ensures.moved

pub returns-in_err-secrets-clause-causes : goal.returns-in_err-secrets-clause-causes
returns-in_err-secrets-clause-causes g c =
    let p = err_from_is_err_and c.from_residual-in_err-secrets.result c.from_residual-in_err-secrets.ensures.1 in
    rw (p.1, p.2) (caused_around g.D.Disk.tells (λ x. absurd x) (λ x. x) (λ x. x) c.in_err-secrets.field-0.0 c.in_err-secrets.ensures.causes.1)

pub returns-in_err-commit_new-clause-causes : goal.returns-in_err-commit_new-clause-causes
returns-in_err-commit_new-clause-causes g c =
    let p = err_from_is_err_and c.from_residual-in_err-commit_new.result c.from_residual-in_err-commit_new.ensures.1 in
    rw (p.1, p.2) (caused_around g.D.Disk.tells (λ x. absurd x) (λ x. rose_around _ _ _ _ c.secrets_of.ensures.moved.later_secrets c.commit_new.ensures.moved.later_secrets (omega arith) x)
    (λ x. reached_behind _ _ _ c.secrets_of.ensures.moved.counts x) c.in_err-commit_new.field-0.0 c.in_err-commit_new.ensures.causes.1)

pub returns-in_err-prune-clause-causes : goal.returns-in_err-prune-clause-causes
returns-in_err-prune-clause-causes g c =
    let before = moved_then g.D.Disk.tells g.D.Disk.made g.X.SecretStore.made g.D.Disk.faults g.X.SecretStore.faults g.met.D.Disk.made_more g.met.X.SecretStore.made_more _ _ _ c.secrets_of.ensures.moved c.commit_new.ensures.moved in
    let p = err_from_is_err_and c.from_residual-in_err-prune.result c.from_residual-in_err-prune.ensures.1 in
    rw (p.1, p.2) (caused_by_around g.D.Disk.tells (λ x. rose_around _ _ _ _ before.later_disk c.prune.ensures.moved.later_disk (omega arith) x)
    (λ x. rose_around _ _ _ _ before.later_secrets c.prune.ensures.moved.later_secrets (omega arith) x)
    (λ x. reached_behind _ _ _ before.counts x) c.in_err-prune.field-0.0 c.in_err-prune.ensures.causes.1)

pub returns-clause-causes : goal.returns-clause-causes
returns-clause-causes g c = of_result g.D.Disk.tells _ _ _ c.draw_up.result c.draw_up.ensures.causes

pub returns-in_err-secrets-clause-rest : goal.returns-in_err-secrets-clause-rest
returns-in_err-secrets-clause-rest g c = steady_rest c.args.life.now c.secrets_of.new.life (steady_read c.args.life.now c.secrets_of.new.life c.secrets_of.ensures.life)

pub returns-in_err-commit_new-clause-rest : goal.returns-in_err-commit_new-clause-rest
returns-in_err-commit_new-clause-rest g c = steady_rest c.args.life.now c.commit_new.new.life (steady_then (steady_read c.args.life.now c.secrets_of.new.life c.secrets_of.ensures.life) (steady_committed c.secrets_of.new.life c.commit_new.new.life c.commit_new.ensures.rest))

pub returns-in_err-prune-clause-rest : goal.returns-in_err-prune-clause-rest
returns-in_err-prune-clause-rest g c = steady_rest c.args.life.now c.prune.new.life (steady_then (steady_then (steady_read c.args.life.now c.secrets_of.new.life c.secrets_of.ensures.life) (steady_committed c.secrets_of.new.life c.commit_new.new.life c.commit_new.ensures.rest)) (steady_pruned c.commit_new.new.life c.prune.new.life c.prune.ensures.rest))

pub returns-clause-rest : goal.returns-clause-rest
returns-clause-rest g c = steady_rest c.args.life.now c.draw_up.new.life (steady_then (steady_then (steady_then (steady_read c.args.life.now c.secrets_of.new.life c.secrets_of.ensures.life) (steady_committed c.secrets_of.new.life c.commit_new.new.life c.commit_new.ensures.rest)) (steady_pruned c.commit_new.new.life c.prune.new.life c.prune.ensures.rest)) (steady_drawn c.prune.new.life c.draw_up.new.life c.draw_up.ensures.rest))

pub returns-clause-done : goal.returns-clause-done
returns-clause-done g c =
    drawn_up g.D.Disk.tells g.D.Disk.files g.D.Disk.image g.C.Ceremony.ack_of g.C.Ceremony.deal_of g.C.Ceremony.check_ack_of c.args.terms.now.me (non_zero_u32_get c.args.terms.now.limit) c.args.phase c.prune.new.life c.draw_up.new.life c.prune.new.devices c.draw_up.ensures.rest c.in_ok-prune.ensures.open
    c.draw_up.result c.draw_up.ensures.sits

pub draw_up-requires-clause-valid : goal.draw_up-requires-clause-valid
draw_up-requires-clause-valid g c =
    ap (λ (l : Life g.row.Dir.Denot). refusal_of l.epoch (non_zero_u32_get c.args.terms.now.limit) c.args.info.now) c.prune.ensures.rest ∙ ap (λ (l : Life g.row.Dir.Denot). refusal_of l.epoch (non_zero_u32_get c.args.terms.now.limit) c.args.info.now) c.commit_new.ensures.rest ∙ ap (λ (l : Life g.row.Dir.Denot). refusal_of l.epoch (non_zero_u32_get c.args.terms.now.limit) c.args.info.now) c.secrets_of.ensures.life ∙ c.in_ok-judge_info.ensures.ok

pub prune-requires : goal.prune-requires
prune-requires g c = λ told. rw (c.commit_new.ensures.rest, c.secrets_of.ensures.life, c.commit_new.ensures.disk, c.secrets_of.ensures.disk) (c.requires.open told)

pub returns-clause-current : goal.returns-clause-current
returns-clause-current g c = in_any c.draw_up.result (subst (λ (o : Option (EpochInfo g.row.Dir.Denot)). IsSome o) (sym (ap (λ (l : Life g.row.Dir.Denot). l.store.current) c.draw_up.ensures.rest ∙ c.in_ok-prune.ensures.current))
    (c.in_ok-commit_new.ensures.current (λ was. subst (λ (o : Option (EpochInfo g.row.Dir.Denot)). IsSome o) (sym (ap (λ (l : Life g.row.Dir.Denot). l.store.current) c.secrets_of.ensures.life)) (c.requires.known was))))
