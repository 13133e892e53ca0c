use Rattle.std.proofs.Common.{refl}
use Rattle.std.proofs.lemmas.Result.{err_from_is_err_and}
use Rattle.dkg_store.specs.Acts.{went}
use Rattle.dkg_store.proofs.Left.{due_of_devices}
use Rattle.dkg_core.specs.Courses.{on_devices}
use Rattle.dkg_core.specs.Setup as setup
use Rattle.dkg_life.specs.Ends.{stop_of}
use Rattle.dkg_life.specs.LiveOf.{live_of}
use Rattle.dkg_life.proofs.Burning.{burns_counted}
use Rattle.dkg_life.proofs.Calls.{moved_called}
use Rattle.dkg_life.proofs.Caused.{caused_around, of_due}
use Rattle.dkg_setup.proofs.Giving.{pruned_gives}
use Rattle.dkg_life.proofs.Kept.{above_of}
use Rattle.dkg_life.proofs.Said.{pruning_of_due, said_none}
use Rattle.dkg_life.proofs.Setting.{prune_failed, prune_made, prune_said, pruned_live, pruned_records}
use Rattle.dkg_setup.proofs.setup.prune.Goals as goal

pub returns-in_err-prune-clause-acts : goal.returns-in_err-prune-clause-acts
returns-in_err-prune-clause-acts g c = λ disk secrets beside fence out.
    let p = err_from_is_err_and c.from_residual.result c.from_residual.ensures.1 in
    rw (p.1, p.2) (prune_failed c.args.min (live_of beside fence c.args.life.now) c.in_err-prune.field-0.0 (due_of_devices c.in_err-prune.field-0.0 _ _ _ _ c.in_err-prune.ensures.due)
    (c.in_err-prune.ensures.acts disk secrets out) c.prune.ensures.called.counts.call c.prune.ensures.called.counts.pick)

pub returns-in_err-prune-clause-tells : goal.returns-in_err-prune-clause-tells
returns-in_err-prune-clause-tells g c = λ beside fence out.
    let p = err_from_is_err_and c.from_residual.result c.from_residual.ensures.1 in
    rw (p.1, p.2) (said_none (on_devices (setup.prunes c.args.min (live_of beside fence c.args.life.now))) c.in_err-prune.field-0.0 (pruning_of_due _ _ _ _ _ c.in_err-prune.field-0.0 c.in_err-prune.ensures.due) refl)

pub returns-clause-tells : goal.returns-clause-tells
returns-clause-tells g c = λ beside fence out.
    let same = pruned_records c.args.min c.args.life.now.store c.prune.new.self c.in_ok-prune.ensures.kept.dealings c.in_ok-prune.ensures.kept.acks c.in_ok-prune.ensures.kept.logs in
    prune_said c.args.min (live_of beside fence c.args.life.now) (live_of beside fence (record c.args.life.now { store = c.prune.new.self }))
    (pruned_live c.args.min beside fence c.args.life.now c.prune.new.self same c.in_ok-prune.ensures.kept.current) out

pub returns-clause-acts : goal.returns-clause-acts
returns-clause-acts g c = λ disk secrets beside fence out.
    let same = pruned_records c.args.min c.args.life.now.store c.prune.new.self c.in_ok-prune.ensures.kept.dealings c.in_ok-prune.ensures.kept.acks c.in_ok-prune.ensures.kept.logs in
    prune_made c.args.min (live_of beside fence c.args.life.now) (live_of beside fence (record c.args.life.now { store = c.prune.new.self }))
    (pruned_live c.args.min beside fence c.args.life.now c.prune.new.self same c.in_ok-prune.ensures.kept.current) (c.in_ok-prune.ensures.acts disk secrets out)
    (burns_counted (went tt) c.prune.ensures.called.counts c.in_ok-prune.ensures.called.not_cut)

pub returns-in_err-prune-clause-above : goal.returns-in_err-prune-clause-above
returns-in_err-prune-clause-above g c = λ told. above_of c.args.min _ _ _ _ _ (c.requires told).lands (λ most. record { fit = (c.prune.ensures.shrinks told).fit most; plan = (c.prune.ensures.shrinks told).plan }) (c.prune.ensures.gives told).pairs

pub returns-clause-above : goal.returns-clause-above
returns-clause-above g c = λ told. above_of c.args.min _ _ _ _ _ (c.requires told).lands (λ most. record { fit = (c.prune.ensures.shrinks told).fit most; plan = (c.prune.ensures.shrinks told).plan }) (c.prune.ensures.gives told).pairs

pub returns-in_err-prune-clause-moved : goal.returns-in_err-prune-clause-moved
returns-in_err-prune-clause-moved g c =
    moved_called g.D.Disk.tells g.D.Disk.made g.X.SecretStore.made g.D.Disk.faults g.X.SecretStore.faults (λ told. told) c.prune.ensures.called

pub returns-clause-moved : goal.returns-clause-moved
returns-clause-moved g c =
    moved_called g.D.Disk.tells g.D.Disk.made g.X.SecretStore.made g.D.Disk.faults g.X.SecretStore.faults (λ told. told) c.prune.ensures.called

pub returns-in_err-prune-clause-causes : goal.returns-in_err-prune-clause-causes
returns-in_err-prune-clause-causes g c =
    let p = err_from_is_err_and c.from_residual.result c.from_residual.ensures.1 in
    rw (p.1, p.2) (let its = of_due _ c.in_err-prune.field-0.0 c.in_err-prune.ensures.due (λ at. at.0) (λ rose. rose) (λ at. at.0) in
    (its.0, caused_around g.D.Disk.tells (λ rose. rose) (λ rose. rose) (λ cut. cut) (stop_of c.in_err-prune.field-0.0) its.1))

pub returns-clause-gives : goal.returns-clause-gives
returns-clause-gives g c = λ told. pruned_gives c.args.min _ _ _ _ (c.in_ok-prune.ensures.shrinks told).left c.prune.ensures.crash

pub returns-clause-open : goal.returns-clause-open
returns-clause-open g c = λ told. record { open_on = c.in_ok-prune.ensures.open told; lands = (c.in_ok-prune.ensures.shrinks told).lands (c.requires told).lands }

pub returns-clause-current : goal.returns-clause-current
returns-clause-current g c = c.in_ok-prune.ensures.kept.current
