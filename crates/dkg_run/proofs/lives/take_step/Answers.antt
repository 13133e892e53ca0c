use Rattle.std.proofs.Common.{List, [], refl, sym, ap}
use Rattle.std.specs.Int.NonZero.{non_zero_u32_get}
use Rattle.std.proofs.lemmas.Result.{err_from_is_err_and}
use Rattle.dkg_infos.specs.declared.entry.Entry.{Entry}
use Rattle.dkg_infos.specs.declared.entry.Entry.TheVariants as entry
use Rattle.dkg_store.specs.Acts.{Stands}
use Rattle.dkg_store.proofs.Counts.{reached_cuts}
use Rattle.dkg_lives.specs.Given.{step_of}
use Rattle.dkg_lives.specs.Lives.{fuse_for}
use Rattle.dkg_lives.specs.Moving.{world_of}
use Rattle.dkg_lives.specs.Ways.{by_entries, trace}
use Rattle.dkg_run.proofs.Going.{went_moved, went_none, went_then}
use Rattle.dkg_run.proofs.Starting.{fit_over, step_blames_from}
use Rattle.dkg_around.proofs.Stepping.{step_wants}
use Rattle.dkg_run.proofs.Turns.{blocks_held, cut_lines, cut_over, cut_reached, event_here, node_lands, ready_over, ran_stopped, ran_told, ran_unheld, ran_untold, stopped_lines, told_lines, untold_lines}
use Rattle.dkg_run.proofs.lives.take_step.Goals as goal

-- WHERE IT ENDED BEFORE the node's step

pub returns-in_err-begin_step-clause-went : goal.returns-in_err-begin_step-clause-went
returns-in_err-begin_step-clause-went g c =
    went_none g.D.Disk.tells g.D.Disk.made g.X.SecretStore.made g.D.Disk.faults g.X.SecretStore.faults g.met.D.Disk.made_none g.met.X.SecretStore.made_none c.args.devices.now c.begin_step.new.devices
    c.begin_step.ensures.same.0 c.begin_step.ensures.same.1

pub returns-in_err-hold-clause-run : goal.returns-in_err-hold-clause-run
returns-in_err-hold-clause-run g c = λ disk secrets lived st here may view left image.
    let p = err_from_is_err_and c.from_residual-in_err-hold.result c.from_residual-in_err-hold.ensures.1 in
    let stands : Stands (g.D.Disk.files c.args.devices.now.disk.now) (g.D.Disk.image c.args.devices.now.disk.now) = record {
      lands = node_lands g.D.Disk.tells g.D.Disk.files g.D.Disk.image c.args.node.now c.args.devices.now c.requires.ready disk;
      itself = g.met.D.Disk.reads c.args.devices.now.disk.now disk;
    } in
    rw (p.1, p.2) (ran_unheld g.D.Disk.files g.D.Disk.image g.X.SecretStore.held c.args.devices.now c.begin_step.new.devices c.begin_step.ensures.same.0 c.begin_step.ensures.same.1 stands
    (entry.Step c.args.number) c.args.life.now.cut c.args.number c.in_ok-begin_step.ensures.lit (step_of lived c.args.number c.args.event.now st) c.args.out.now.entries _ left image)

pub returns-in_err-hold-clause-went : goal.returns-in_err-hold-clause-went
returns-in_err-hold-clause-went g c =
    went_none g.D.Disk.tells g.D.Disk.made g.X.SecretStore.made g.D.Disk.faults g.X.SecretStore.faults g.met.D.Disk.made_none g.met.X.SecretStore.made_none c.args.devices.now c.begin_step.new.devices
    c.begin_step.ensures.same.0 c.begin_step.ensures.same.1

-- THE STEP WENT, and its line found no memory

pub returns-in_err-push-clause-lines : goal.returns-in_err-push-clause-lines
returns-in_err-push-clause-lines g c = λ lived st picks here may view.
    let p = err_from_is_err_and c.from_residual-in_err-push.result c.from_residual-in_err-push.ensures.1 in
    let its = c.in_ok-step.ensures.tells lived c.args.number st here.of (blocks_held c.args.source.now c.hold.new.source _ c.hold.ensures.blocks here.blocks_are) may view in
    rw (p.1, p.2, c.in_err-push.ensures.err) (untold_lines (entry.Step c.args.number) c.args.life.now.cut c.args.number c.begin_step.new.devices.fuse c.in_ok-begin_step.ensures.lit (step_of lived c.args.number c.args.event.now st)
    _ c.args.out.now.entries c.step.new.out.entries picks its.0 its.2)

pub returns-in_err-push-clause-run : goal.returns-in_err-push-clause-run
returns-in_err-push-clause-run g c = λ disk secrets lived st here may view left image.
    let p = err_from_is_err_and c.from_residual-in_err-push.result c.from_residual-in_err-push.ensures.1 in
    let its = c.in_ok-step.ensures.acts disk secrets lived c.args.number st here.of (blocks_held c.args.source.now c.hold.new.source _ c.hold.ensures.blocks here.blocks_are) may view in
    let stands : Stands (g.D.Disk.files c.args.devices.now.disk.now) (g.D.Disk.image c.args.devices.now.disk.now) = record {
      lands = node_lands g.D.Disk.tells g.D.Disk.files g.D.Disk.image c.args.node.now c.args.devices.now c.requires.ready disk;
      itself = g.met.D.Disk.reads c.args.devices.now.disk.now disk;
    } in
    rw (p.1, p.2, c.in_err-push.ensures.err) (ran_untold g.D.Disk.files g.D.Disk.image g.X.SecretStore.held c.args.devices.now c.begin_step.new.devices c.begin_step.ensures.same.0 c.begin_step.ensures.same.1 stands
    (entry.Step c.args.number) c.args.life.now.cut c.args.number c.in_ok-begin_step.ensures.lit (step_of lived c.args.number c.args.event.now st) c.args.out.now.entries _
    c.step.new.devices c.step.new.out.entries left image its.0 its.2)

pub returns-in_err-push-clause-went : goal.returns-in_err-push-clause-went
returns-in_err-push-clause-went g c =
    went_then g.D.Disk.tells g.D.Disk.made g.X.SecretStore.made g.D.Disk.faults g.X.SecretStore.faults g.met.D.Disk.made_more g.met.X.SecretStore.made_more c.args.devices.now c.begin_step.new.devices c.step.new.devices [] []
    (went_none g.D.Disk.tells g.D.Disk.made g.X.SecretStore.made g.D.Disk.faults g.X.SecretStore.faults g.met.D.Disk.made_none g.met.X.SecretStore.made_none c.args.devices.now c.begin_step.new.devices
    c.begin_step.ensures.same.0 c.begin_step.ensures.same.1)
    (went_moved g.D.Disk.tells g.D.Disk.made g.X.SecretStore.made g.D.Disk.faults g.X.SecretStore.faults c.begin_step.new.devices c.step.new.devices c.step.ensures.moved)

-- .. or was told

pub returns-clause-lines : goal.returns-clause-lines
returns-clause-lines g c = λ lived st picks here may view.
    let its = c.in_ok-step.ensures.tells lived c.args.number st here.of (blocks_held c.args.source.now c.hold.new.source _ c.hold.ensures.blocks here.blocks_are) may view in
    told_lines (entry.Step c.args.number) c.args.life.now.cut c.args.number c.begin_step.new.devices.fuse c.in_ok-begin_step.ensures.lit (step_of lived c.args.number c.args.event.now st)
    _ c.args.out.now.entries c.step.new.out.entries picks its.0 its.2 _ (trace c.push.new.self.entries picks)
    (refl, its.1, ap (λ (l : List Entry). trace l picks) (sym c.in_ok-push.ensures.ok))

pub returns-clause-run : goal.returns-clause-run
returns-clause-run g c = λ disk secrets lived st here may view left image.
    let its = c.in_ok-step.ensures.acts disk secrets lived c.args.number st here.of (blocks_held c.args.source.now c.hold.new.source _ c.hold.ensures.blocks here.blocks_are) may view in
    let stands : Stands (g.D.Disk.files c.args.devices.now.disk.now) (g.D.Disk.image c.args.devices.now.disk.now) = record {
      lands = node_lands g.D.Disk.tells g.D.Disk.files g.D.Disk.image c.args.node.now c.args.devices.now c.requires.ready disk;
      itself = g.met.D.Disk.reads c.args.devices.now.disk.now disk;
    } in
    ran_told g.D.Disk.files g.D.Disk.image g.X.SecretStore.held c.args.devices.now c.begin_step.new.devices c.begin_step.ensures.same.0 c.begin_step.ensures.same.1 stands
    (entry.Step c.args.number) c.args.life.now.cut c.args.number c.in_ok-begin_step.ensures.lit (step_of lived c.args.number c.args.event.now st) c.args.out.now.entries _
    c.step.new.devices c.step.new.out.entries left image its.0 its.2 _ _ (refl, its.1, ap (λ (l : List Entry). world_of g.X.SecretStore.held c.step.new.devices l left) (sym c.in_ok-push.ensures.ok))

pub returns-clause-went : goal.returns-clause-went
returns-clause-went g c =
    went_then g.D.Disk.tells g.D.Disk.made g.X.SecretStore.made g.D.Disk.faults g.X.SecretStore.faults g.met.D.Disk.made_more g.met.X.SecretStore.made_more c.args.devices.now c.begin_step.new.devices c.step.new.devices [] []
    (went_none g.D.Disk.tells g.D.Disk.made g.X.SecretStore.made g.D.Disk.faults g.X.SecretStore.faults g.met.D.Disk.made_none g.met.X.SecretStore.made_none c.args.devices.now c.begin_step.new.devices
    c.begin_step.ensures.same.0 c.begin_step.ensures.same.1)
    (went_moved g.D.Disk.tells g.D.Disk.made g.X.SecretStore.made g.D.Disk.faults g.X.SecretStore.faults c.begin_step.new.devices c.step.new.devices c.step.ensures.moved)

-- THE STEP STOPPED

pub returns-in_err-step-clause-lines : goal.returns-in_err-step-clause-lines
returns-in_err-step-clause-lines g c = λ lived st picks here may view.
    let p = err_from_is_err_and c.from_residual-in_err-step.result c.from_residual-in_err-step.ensures.1 in
    let its = c.in_err-step.ensures.tells lived c.args.number st here.of (blocks_held c.args.source.now c.hold.new.source _ c.hold.ensures.blocks here.blocks_are) may view in
    rw (p.1, p.2) (stopped_lines (entry.Step c.args.number) c.args.life.now.cut c.args.number c.begin_step.new.devices.fuse c.in_ok-begin_step.ensures.lit (step_of lived c.args.number c.args.event.now st)
    _ c.args.out.now.entries c.step.new.out.entries picks c.in_err-step.field-0.0
    (λ is. reached_cuts _ _ c.step.ensures.moved.counts (cut_reached g.D.Disk.tells c.in_err-step.field-0.0 _ _ _ c.in_err-step.ensures.causes is)) its)

pub returns-in_err-step-clause-run : goal.returns-in_err-step-clause-run
returns-in_err-step-clause-run g c = λ disk secrets lived st here may view left image.
    let p = err_from_is_err_and c.from_residual-in_err-step.result c.from_residual-in_err-step.ensures.1 in
    let its = c.in_err-step.ensures.acts disk secrets lived c.args.number st here.of (blocks_held c.args.source.now c.hold.new.source _ c.hold.ensures.blocks here.blocks_are) may view in
    let stands : Stands (g.D.Disk.files c.args.devices.now.disk.now) (g.D.Disk.image c.args.devices.now.disk.now) = record {
      lands = node_lands g.D.Disk.tells g.D.Disk.files g.D.Disk.image c.args.node.now c.args.devices.now c.requires.ready disk;
      itself = g.met.D.Disk.reads c.args.devices.now.disk.now disk;
    } in
    rw (p.1, p.2) (ran_stopped g.D.Disk.files g.D.Disk.image g.X.SecretStore.held c.args.devices.now c.begin_step.new.devices c.begin_step.ensures.same.0 c.begin_step.ensures.same.1 stands
    (entry.Step c.args.number) c.args.life.now.cut c.args.number c.in_ok-begin_step.ensures.lit (step_of lived c.args.number c.args.event.now st) c.args.out.now.entries _
    c.step.new.devices c.step.new.out.entries left image c.in_err-step.field-0.0 its)

pub returns-in_err-step-clause-went : goal.returns-in_err-step-clause-went
returns-in_err-step-clause-went g c =
    went_then g.D.Disk.tells g.D.Disk.made g.X.SecretStore.made g.D.Disk.faults g.X.SecretStore.faults g.met.D.Disk.made_more g.met.X.SecretStore.made_more c.args.devices.now c.begin_step.new.devices c.step.new.devices [] []
    (went_none g.D.Disk.tells g.D.Disk.made g.X.SecretStore.made g.D.Disk.faults g.X.SecretStore.faults g.met.D.Disk.made_none g.met.X.SecretStore.made_none c.args.devices.now c.begin_step.new.devices
    c.begin_step.ensures.same.0 c.begin_step.ensures.same.1)
    (went_moved g.D.Disk.tells g.D.Disk.made g.X.SecretStore.made g.D.Disk.faults g.X.SecretStore.faults c.begin_step.new.devices c.step.new.devices c.step.ensures.moved)

-- WHAT THE STEP ASKS

pub step-requires-clause-here : goal.step-requires-clause-here
step-requires-clause-here g c =
    event_here (non_zero_u32_get (c.args.node.now).actor.terms.limit) c.args.source.now c.hold.new.source c.args.event.now c.hold.ensures.blocks c.in_ok-hold.ensures.numbers
    (c.requires.here c.begin_step.new.devices.fuse c.in_ok-begin_step.ensures.lit)

pub step-requires-clause-goes : goal.step-requires-clause-goes
step-requires-clause-goes g c = c.requires.goes c.begin_step.new.devices.fuse c.in_ok-begin_step.ensures.lit

-- THE LIFE IS CUT BEFORE IT

pub returns-in_err-begin_step-clause-lines : goal.returns-in_err-begin_step-clause-lines
returns-in_err-begin_step-clause-lines g c = λ lived st picks here may view.
    let p = err_from_is_err_and c.from_residual.result c.from_residual.ensures.1 in
    rw (p.1, p.2) (cut_lines (entry.Step c.args.number) c.args.life.now.cut c.args.number c.in_err-begin_step.ensures.ends.1 (step_of lived c.args.number c.args.event.now st) c.in_err-begin_step.field-0.0 c.in_err-begin_step.ensures.ends.0 _ c.args.out.now.entries picks)

pub returns-in_err-begin_step-clause-run : goal.returns-in_err-begin_step-clause-run
returns-in_err-begin_step-clause-run g c = λ disk secrets lived st here may view left image.
    let p = err_from_is_err_and c.from_residual.result c.from_residual.ensures.1 in
    let stands : Stands (g.D.Disk.files c.args.devices.now.disk.now) (g.D.Disk.image c.args.devices.now.disk.now) = record {
      lands = node_lands g.D.Disk.tells g.D.Disk.files g.D.Disk.image c.args.node.now c.args.devices.now c.requires.ready disk;
      itself = g.met.D.Disk.reads c.args.devices.now.disk.now disk;
    } in
    rw (p.1, p.2) (cut_over (entry.Step c.args.number) c.args.life.now.cut c.args.number c.in_err-begin_step.ensures.ends.1 (step_of lived c.args.number c.args.event.now st) c.in_err-begin_step.field-0.0 c.in_err-begin_step.ensures.ends.0
    g.D.Disk.files g.D.Disk.image g.X.SecretStore.held c.args.devices.now c.begin_step.new.devices c.in_err-begin_step.ensures.ends.2 stands _ c.args.out.now.entries left image)

pub returns-in_err-begin_step-clause-ready : goal.returns-in_err-begin_step-clause-ready
returns-in_err-begin_step-clause-ready g c = let p = err_from_is_err_and c.from_residual.result c.from_residual.ensures.1 in rw p.1 tt

pub returns-in_err-begin_step-clause-terms : goal.returns-in_err-begin_step-clause-terms
returns-in_err-begin_step-clause-terms g c = refl

pub returns-in_err-begin_step-clause-of : goal.returns-in_err-begin_step-clause-of
returns-in_err-begin_step-clause-of g c = λ lived of. of

pub returns-in_err-begin_step-clause-source : goal.returns-in_err-begin_step-clause-source
returns-in_err-begin_step-clause-source g c = let p = err_from_is_err_and c.from_residual.result c.from_residual.ensures.1 in (refl, refl, rw p.1 tt)

pub returns-in_err-begin_step-clause-causes : goal.returns-in_err-begin_step-clause-causes
returns-in_err-begin_step-clause-causes g c = let p = err_from_is_err_and c.from_residual.result c.from_residual.ensures.1 in rw (p.1, p.2, c.in_err-begin_step.ensures.ends.0) tt

pub returns-in_err-begin_step-clause-fit : goal.returns-in_err-begin_step-clause-fit
returns-in_err-begin_step-clause-fit g c = λ told. fit_over g.D.Disk.image c.args.devices.now.disk c.begin_step.new.devices.disk c.begin_step.ensures.same.0 (non_zero_u32_get (c.args.node.now).actor.terms.limit) (g.D.Disk.image c.begin_step.new.devices.disk.now) (λ fit. fit)

-- .. or memory wants for its block

pub returns-in_err-hold-clause-lines : goal.returns-in_err-hold-clause-lines
returns-in_err-hold-clause-lines g c = λ lived st picks here may view.
    let p = err_from_is_err_and c.from_residual-in_err-hold.result c.from_residual-in_err-hold.ensures.1 in
    rw (p.1, p.2) (step_wants by_entries (entry.Step c.args.number) (fuse_for c.args.life.now.cut c.args.number) (step_of lived c.args.number c.args.event.now st) (trace c.args.out.now.entries picks) _ c.begin_step.new.devices.fuse c.in_ok-begin_step.ensures.lit)

pub returns-in_err-hold-clause-ready : goal.returns-in_err-hold-clause-ready
returns-in_err-hold-clause-ready g c = let p = err_from_is_err_and c.from_residual-in_err-hold.result c.from_residual-in_err-hold.ensures.1 in rw p.1 tt

pub returns-in_err-hold-clause-terms : goal.returns-in_err-hold-clause-terms
returns-in_err-hold-clause-terms g c = refl

pub returns-in_err-hold-clause-of : goal.returns-in_err-hold-clause-of
returns-in_err-hold-clause-of g c = λ lived of. of

pub returns-in_err-hold-clause-source : goal.returns-in_err-hold-clause-source
returns-in_err-hold-clause-source g c = let p = err_from_is_err_and c.from_residual-in_err-hold.result c.from_residual-in_err-hold.ensures.1 in (c.hold.ensures.blocks, c.hold.ensures.anchor, rw p.1 tt)

pub returns-in_err-hold-clause-causes : goal.returns-in_err-hold-clause-causes
returns-in_err-hold-clause-causes g c = let p = err_from_is_err_and c.from_residual-in_err-hold.result c.from_residual-in_err-hold.ensures.1 in rw (p.1, p.2) tt

pub returns-in_err-hold-clause-fit : goal.returns-in_err-hold-clause-fit
returns-in_err-hold-clause-fit g c = λ told. fit_over g.D.Disk.image c.args.devices.now.disk c.begin_step.new.devices.disk c.begin_step.ensures.same.0 (non_zero_u32_get (c.args.node.now).actor.terms.limit) (g.D.Disk.image c.begin_step.new.devices.disk.now) (λ fit. fit)

-- WHAT ELSE is handed on from the node's step

pub returns-in_err-step-clause-ready : goal.returns-in_err-step-clause-ready
returns-in_err-step-clause-ready g c = let p = err_from_is_err_and c.from_residual-in_err-step.result c.from_residual-in_err-step.ensures.1 in rw p.1 tt

pub returns-in_err-step-clause-terms : goal.returns-in_err-step-clause-terms
returns-in_err-step-clause-terms g c = c.step.ensures.terms

pub returns-in_err-step-clause-of : goal.returns-in_err-step-clause-of
returns-in_err-step-clause-of g c = c.step.ensures.of

pub returns-in_err-step-clause-source : goal.returns-in_err-step-clause-source
returns-in_err-step-clause-source g c = let p = err_from_is_err_and c.from_residual-in_err-step.result c.from_residual-in_err-step.ensures.1 in (c.hold.ensures.blocks, c.hold.ensures.anchor, rw p.1 tt)

pub returns-in_err-step-clause-fit : goal.returns-in_err-step-clause-fit
returns-in_err-step-clause-fit g c = λ told. fit_over g.D.Disk.image c.args.devices.now.disk c.begin_step.new.devices.disk c.begin_step.ensures.same.0 (non_zero_u32_get (c.args.node.now).actor.terms.limit) (g.D.Disk.image c.step.new.devices.disk.now) (c.step.ensures.fit told)

pub returns-in_err-push-clause-ready : goal.returns-in_err-push-clause-ready
returns-in_err-push-clause-ready g c = let p = err_from_is_err_and c.from_residual-in_err-push.result c.from_residual-in_err-push.ensures.1 in rw p.1 tt

pub returns-in_err-push-clause-terms : goal.returns-in_err-push-clause-terms
returns-in_err-push-clause-terms g c = c.step.ensures.terms

pub returns-in_err-push-clause-of : goal.returns-in_err-push-clause-of
returns-in_err-push-clause-of g c = c.step.ensures.of

pub returns-in_err-push-clause-source : goal.returns-in_err-push-clause-source
returns-in_err-push-clause-source g c = let p = err_from_is_err_and c.from_residual-in_err-push.result c.from_residual-in_err-push.ensures.1 in (c.hold.ensures.blocks, c.hold.ensures.anchor, rw p.1 tt)

pub returns-in_err-push-clause-fit : goal.returns-in_err-push-clause-fit
returns-in_err-push-clause-fit g c = λ told. fit_over g.D.Disk.image c.args.devices.now.disk c.begin_step.new.devices.disk c.begin_step.ensures.same.0 (non_zero_u32_get (c.args.node.now).actor.terms.limit) (g.D.Disk.image c.step.new.devices.disk.now) (c.step.ensures.fit told)

pub returns-in_err-step-clause-causes : goal.returns-in_err-step-clause-causes
returns-in_err-step-clause-causes g c = let p = err_from_is_err_and c.from_residual-in_err-step.result c.from_residual-in_err-step.ensures.1 in
    rw (p.1, p.2) (step_blames_from g.D.Disk.tells g.D.Disk.made g.X.SecretStore.made g.D.Disk.faults g.X.SecretStore.faults c.args.devices.now c.begin_step.new.devices c.step.new.devices (went_none g.D.Disk.tells g.D.Disk.made g.X.SecretStore.made g.D.Disk.faults g.X.SecretStore.faults g.met.D.Disk.made_none g.met.X.SecretStore.made_none c.args.devices.now c.begin_step.new.devices c.begin_step.ensures.same.0 c.begin_step.ensures.same.1) (went_moved g.D.Disk.tells g.D.Disk.made g.X.SecretStore.made g.D.Disk.faults g.X.SecretStore.faults c.begin_step.new.devices c.step.new.devices c.step.ensures.moved) c.in_err-step.field-0.0 _ c.in_err-step.ensures.causes)

pub returns-in_err-push-clause-causes : goal.returns-in_err-push-clause-causes
returns-in_err-push-clause-causes g c = let p = err_from_is_err_and c.from_residual-in_err-push.result c.from_residual-in_err-push.ensures.1 in rw (p.1, p.2) tt

pub returns-clause-ready : goal.returns-clause-ready
returns-clause-ready g c = c.in_ok-step.ensures.ready

pub returns-clause-terms : goal.returns-clause-terms
returns-clause-terms g c = c.step.ensures.terms

pub returns-clause-of : goal.returns-clause-of
returns-clause-of g c = c.step.ensures.of

pub returns-clause-source : goal.returns-clause-source
returns-clause-source g c = (c.hold.ensures.blocks, c.hold.ensures.anchor, c.in_ok-hold.ensures.numbers)

pub returns-clause-causes : goal.returns-clause-causes
returns-clause-causes g c = tt

pub returns-clause-fit : goal.returns-clause-fit
returns-clause-fit g c = λ told. fit_over g.D.Disk.image c.args.devices.now.disk c.begin_step.new.devices.disk c.begin_step.ensures.same.0 (non_zero_u32_get (c.args.node.now).actor.terms.limit) (g.D.Disk.image c.step.new.devices.disk.now) (c.step.ensures.fit told)

pub step-requires-clause-ready : goal.step-requires-clause-ready
step-requires-clause-ready g c = ready_over g.D.Disk.tells g.D.Disk.files g.D.Disk.image c.args.node.now c.args.devices.now c.begin_step.new.devices c.begin_step.ensures.same.0 c.requires.ready
