use Rattle.std.proofs.Common.{Err, Ok, Some, ap, refl, ◌∙◌}
use Rattle.std.proofs.lemmas.Result.{err_from_is_err_and}
use Rattle.dkg_infos.specs.declared.fault.Fault.TheVariants.{NoMemory as OutOfMemory}
use Rattle.dkg_infos.specs.declared.info.EpochInfo.{EpochInfo}
use Rattle.dkg_store.specs.Acts.{went}
use Rattle.dkg_core.specs.Courses.{on_devices}
use Rattle.dkg_core.specs.Setup as setup
use Rattle.dkg_store.specs.declared.call.StoreError.TheVariants.{NoMemory}
use Rattle.dkg_store.specs.declared.store.Store.{Store}
use Rattle.dkg_life.specs.declared.stop.Stop.TheVariants.{Fault as Faulted}
use Rattle.dkg_life.specs.LiveOf.{live_of}
use Rattle.dkg_life.proofs.Burning.{burns_counted}
use Rattle.dkg_life.proofs.Calls.{moved_called}
use Rattle.dkg_life.proofs.Caused.{of_due}
use Rattle.dkg_life.proofs.Kept.{moved_none, stays_whole}
use Rattle.dkg_life.proofs.Said.{pruning_of_due, said_none}
use Rattle.dkg_life.proofs.Setting.{commit_failed, commit_made, commit_said, committed_live}
use Rattle.dkg_store.proofs.Left.{due_of_devices}
use Rattle.dkg_setup.proofs.setup.commit.Goals as goal

pub returns-in_err-commit_epoch-clause-acts : goal.returns-in_err-commit_epoch-clause-acts
returns-in_err-commit_epoch-clause-acts g c = λ disk secrets beside fence.
    let p = err_from_is_err_and c.from_residual-in_err-commit_epoch.result c.from_residual-in_err-commit_epoch.ensures.1 in
    rw (p.1, p.2) (commit_failed c.args.info.now c.args.secrets.now.seed c.args.secrets.now.share (live_of beside fence c.args.life.now) c.in_ok-committed.committed c.in_ok-committed.ensures c.in_err-commit_epoch.field-0.0
    (due_of_devices c.in_err-commit_epoch.field-0.0 _ _ _ _ c.in_err-commit_epoch.ensures.due) (c.in_err-commit_epoch.ensures.acts disk secrets c.args.out.now.entries)
    c.commit_epoch.ensures.called.counts.call c.commit_epoch.ensures.called.counts.pick)

pub returns-in_err-commit_epoch-clause-tells : goal.returns-in_err-commit_epoch-clause-tells
returns-in_err-commit_epoch-clause-tells g c = λ any beside fence.
    let p = err_from_is_err_and c.from_residual-in_err-commit_epoch.result c.from_residual-in_err-commit_epoch.ensures.1 in
    rw (p.1, p.2) (said_none (on_devices (setup.commits c.args.info.now any c.args.secrets.now.share (live_of beside fence c.args.life.now))) c.in_err-commit_epoch.field-0.0
    (pruning_of_due _ _ _ _ _ c.in_err-commit_epoch.field-0.0 c.in_err-commit_epoch.ensures.due) refl)

pub returns-in_err-commit_epoch-clause-whole : goal.returns-in_err-commit_epoch-clause-whole
returns-in_err-commit_epoch-clause-whole g c = stays_whole g.D.Disk.image _ _ c.commit_epoch.ensures.disk _ _ c.commit_epoch.ensures.holds

pub returns-in_err-push-clause-tells : goal.returns-in_err-push-clause-tells
returns-in_err-push-clause-tells g c = λ any beside fence.
    let p = err_from_is_err_and c.from_residual-in_err-push.result c.from_residual-in_err-push.ensures.1 in
    rw (p.1, p.2) (said_none (on_devices (setup.commits c.args.info.now any c.args.secrets.now.share (live_of beside fence c.args.life.now))) NoMemory tt c.in_err-push.ensures.err)

pub returns-clause-tells : goal.returns-clause-tells
returns-clause-tells g c = λ any beside fence.
    let kept = c.in_ok-commit_epoch.ensures.kept in
    let current = ap (λ (s : Store g.row.Dir.Denot). s.current) kept ∙ ap (λ (i : EpochInfo g.row.Dir.Denot). Some i) c.in_ok-committed.ensures in
    commit_said c.args.info.now any c.args.secrets.now.share (live_of beside fence c.args.life.now) (live_of beside fence (record c.args.life.now { store = c.commit_epoch.new.self }))
    (committed_live c.args.info.now beside fence c.args.life.now c.commit_epoch.new.self current (ap (λ (s : Store g.row.Dir.Denot). s.dealings) kept) (ap (λ (s : Store g.row.Dir.Denot). s.acks) kept) (ap (λ (s : Store g.row.Dir.Denot). s.logs) kept))
    (Ok tt) c.in_ok-push.ensures.ok tt tt

pub returns-in_err-push-clause-whole : goal.returns-in_err-push-clause-whole
returns-in_err-push-clause-whole g c = stays_whole g.D.Disk.image _ _ c.commit_epoch.ensures.disk _ _ c.commit_epoch.ensures.holds

pub returns-clause-whole : goal.returns-clause-whole
returns-clause-whole g c = stays_whole g.D.Disk.image _ _ c.commit_epoch.ensures.disk _ _ c.commit_epoch.ensures.holds

pub returns-in_err-committed-clause-moved : goal.returns-in_err-committed-clause-moved
returns-in_err-committed-clause-moved g c = moved_none g.D.Disk.tells g.D.Disk.made g.X.SecretStore.made g.D.Disk.faults g.X.SecretStore.faults g.met.D.Disk.made_none g.met.X.SecretStore.made_none c.args.devices.now

pub returns-in_err-commit_epoch-clause-moved : goal.returns-in_err-commit_epoch-clause-moved
returns-in_err-commit_epoch-clause-moved g c =
    moved_called g.D.Disk.tells g.D.Disk.made g.X.SecretStore.made g.D.Disk.faults g.X.SecretStore.faults (λ told. tt) c.commit_epoch.ensures.called

pub returns-in_err-push-clause-moved : goal.returns-in_err-push-clause-moved
returns-in_err-push-clause-moved g c =
    moved_called g.D.Disk.tells g.D.Disk.made g.X.SecretStore.made g.D.Disk.faults g.X.SecretStore.faults (λ told. tt) c.commit_epoch.ensures.called

pub returns-clause-moved : goal.returns-clause-moved
returns-clause-moved g c =
    moved_called g.D.Disk.tells g.D.Disk.made g.X.SecretStore.made g.D.Disk.faults g.X.SecretStore.faults (λ told. tt) c.commit_epoch.ensures.called

pub returns-in_err-commit_epoch-clause-causes : goal.returns-in_err-commit_epoch-clause-causes
returns-in_err-commit_epoch-clause-causes g c =
    let p = err_from_is_err_and c.from_residual-in_err-commit_epoch.result c.from_residual-in_err-commit_epoch.ensures.1 in
    rw (p.1, p.2) (of_due _ c.in_err-commit_epoch.field-0.0 c.in_err-commit_epoch.ensures.due (λ no. no) (λ rose. rose) (λ cut. cut))

pub returns-in_err-push-clause-acts : goal.returns-in_err-push-clause-acts
returns-in_err-push-clause-acts g c = λ disk secrets beside fence.
    let p = err_from_is_err_and c.from_residual-in_err-push.result c.from_residual-in_err-push.ensures.1 in
    let made = rw c.in_ok-committed.ensures at (c.in_ok-commit_epoch.ensures.acts disk secrets c.args.out.now.entries) in
    rw (p.1, p.2) (commit_made c.args.info.now c.args.secrets.now.seed c.args.secrets.now.share (live_of beside fence c.args.life.now) _ refl (Err (Faulted OutOfMemory)) made
    (burns_counted (went tt) c.commit_epoch.ensures.called.counts c.in_ok-commit_epoch.ensures.called.not_cut) tt c.in_err-push.ensures.err refl)

pub returns-clause-acts : goal.returns-clause-acts
returns-clause-acts g c = λ disk secrets beside fence.
    let made = rw c.in_ok-committed.ensures at (c.in_ok-commit_epoch.ensures.acts disk secrets c.args.out.now.entries) in
    let kept = c.in_ok-commit_epoch.ensures.kept in
    let current = ap (λ (s : Store g.row.Dir.Denot). s.current) kept ∙ ap (λ (i : EpochInfo g.row.Dir.Denot). Some i) c.in_ok-committed.ensures in
    commit_made c.args.info.now c.args.secrets.now.seed c.args.secrets.now.share (live_of beside fence c.args.life.now) (live_of beside fence (record c.args.life.now { store = c.commit_epoch.new.self }))
    (committed_live c.args.info.now beside fence c.args.life.now c.commit_epoch.new.self current (ap (λ (s : Store g.row.Dir.Denot). s.dealings) kept) (ap (λ (s : Store g.row.Dir.Denot). s.acks) kept) (ap (λ (s : Store g.row.Dir.Denot). s.logs) kept))
    (Ok tt) made (burns_counted (went tt) c.commit_epoch.ensures.called.counts c.in_ok-commit_epoch.ensures.called.not_cut) c.in_ok-push.ensures.ok tt tt
