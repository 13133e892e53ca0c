use Rattle.std.proofs.Common.{◌≡◌, ◌≤◌, ◌+◌, [], ◌∙◌, arith, length, Result, Ok, Err, Some, refl, subst, sym}
use Rattle.std.specs.Prelude.{slice_get}
use Rattle.std.proofs.lemmas.Result.{err_from_is_err_and}
use Rattle.std.specs.Int.NonZero.{non_zero_u32_get}
use Rattle.dkg_journal.specs.Names.{Files}
use Rattle.dkg_life.specs.declared.stop.Stop.{Stop}
use Rattle.dkg_infos.specs.declared.entry.Entry.TheVariants as entry
use Rattle.dkg_lives.specs.Given.{step_of}
use Rattle.dkg_lives.specs.Lives.{Steps, TakesAll, fuse_for}
use Rattle.dkg_lives.specs.Moving.{world_of}
use Rattle.dkg_node.specs.Nodes.{IsView}
use Rattle.dkg_lives.specs.Ways.{by_entries, by_worlds, trace}
use Rattle.dkg_run.proofs.Going.{went_none, went_then}
use Rattle.dkg_lives.proofs.LivesStand.{lines_lead, worlds_lead}
use Rattle.dkg_run.proofs.StepsOn.{IsHere, goes_in, here_first, may_step, step_here, steps_here, taken_event}
use Rattle.dkg_run.proofs.Starting.{step_blames_from}
use Rattle.dkg_around.proofs.Stepping.{takes_end, takes_first, takes_next, takes_stop}
use Rattle.dkg_run.proofs.Turns.{blocks_same, fit_on, node_lands, not_done, steps_of, stops_with}
use Rattle.dkg_run.proofs.lives.take_steps.Goals as goal

pub loop-i-init : goal.loop-i-init
loop-i-init g c = record {
  ready = c.requires.ready;
  terms = refl;
  of = λ lived of. of;
  blocks = refl;
  went = went_none g.D.Disk.tells g.D.Disk.made g.X.SecretStore.made g.D.Disk.faults g.X.SecretStore.faults g.met.D.Disk.made_none g.met.X.SecretStore.made_none _ _ refl refl;
  fit = λ told fit. fit;
  lines = λ lived st picks over here view at. record { now = st; so = here_first lived c.args.node.now st c.args.life.now here.life_is c.requires.begun.0 c.requires.begun.1 view at; on = takes_first by_entries lived c.args.life.now.events st (trace c.args.out.now.entries picks) };
  run = λ disk secrets lived st over here view at. record { now = st; so = here_first lived c.args.node.now st c.args.life.now here.life_is c.requires.begun.0 c.requires.begun.1 view at; on = takes_first by_worlds lived c.args.life.now.events st (world_of g.X.SecretStore.held c.args.devices.now c.args.out.now.entries (g.D.Disk.files c.args.devices.now.disk.now)) };
}

-- A STEP

pub take_step-requires-clause-here : goal.take_step-requires-clause-here
take_step-requires-clause-here g c = λ f lit.
    let at_event : slice_get c.args.life.now.events c.loop-i.i ≡ Some c.at.result = c.at.ensures in
    let its = c.requires.here in
    let taken = c.loop-i.invariant.lines its.g its.st [] its.here its.of its.view its.at in
    taken_event its.g its.here c.loop-i.i c.at.result c.args.life.now its.of.life_is at_event c.loop-i.node taken.now taken.so its.bytes c.loop-i.source.blocks.now
    (blocks_same c.args.source.now c.loop-i.source c.loop-i.invariant.blocks ∙ its.of.blocks_are)
    (non_zero_u32_get c.loop-i.node.actor.terms.limit) ((c.loop-i.invariant.of its.g its.of.of).of (c.loop-i.i + 1)).limit

pub take_step-requires-clause-goes : goal.take_step-requires-clause-goes
take_step-requires-clause-goes g c = λ f lit.
    let at_event : slice_get c.args.life.now.events c.loop-i.i ≡ Some c.at.result = c.at.ensures in
    let its = c.requires.here in
    let taken = c.loop-i.invariant.lines its.g its.st [] its.here its.of its.view its.at in
    goes_in its.g its.here c.loop-i.i c.at.result c.args.life.now its.of.life_is at_event c.loop-i.node taken.now taken.so (c.loop-i.invariant.of its.g its.of.of)

pub returns-in_err-take_step-clause-lines : goal.returns-in_err-take_step-clause-lines
returns-in_err-take_step-clause-lines g c = λ lived st picks over here view at.
    let p = err_from_is_err_and c.from_residual.result c.from_residual.ensures.1 in
    let at_event : slice_get c.args.life.now.events c.loop-i.i ≡ Some c.at.result = c.at.ensures in
    let taken = c.loop-i.invariant.lines lived st picks over here view at in
    let its : Steps by_entries (entry.Step (c.loop-i.i + 1)) (fuse_for c.args.life.now.cut (c.loop-i.i + 1)) (step_of lived (c.loop-i.i + 1) c.at.result taken.now) (trace c.loop-i.out.entries picks)
    (Err c.in_err-take_step.field-0.0) (trace c.take_step.new.out.entries picks) (λ end t. (◌≡◌ {A = Result (Unit {0}) Stop} (Err c.in_err-take_step.field-0.0) (Ok tt)) × IsView c.take_step.new.node end × (t ≡ trace c.take_step.new.out.entries picks)) =
    c.in_err-take_step.ensures.lines lived taken.now picks (step_here lived c.args.node.now c.loop-i.node c.args.source.now.blocks.now c.loop-i.source.blocks.now c.args.life.now c.loop-i.invariant.of (blocks_same c.args.source.now c.loop-i.source c.loop-i.invariant.blocks) here) (may_step lived over c.loop-i.i c.at.result c.args.life.now here.life_is at_event c.loop-i.node taken.now taken.so) taken.so.view in
    rw (p.1, p.2) (takes_stop by_entries lived c.args.life.now.events st (trace c.args.out.now.entries picks) c.loop-i.i c.at.result at_event taken.now (trace c.loop-i.out.entries picks) taken.on c.in_err-take_step.field-0.0 (trace c.take_step.new.out.entries picks) (λ end t. Unit {0})
    (stops_with by_entries _ _ _ _ _ _ _ _ (λ end t so. not_done so.0) (steps_of by_entries lived c.args.life.now here.life_is (entry.Step (c.loop-i.i + 1)) (c.loop-i.i + 1) (step_of lived (c.loop-i.i + 1) c.at.result taken.now) (trace c.loop-i.out.entries picks) (Err c.in_err-take_step.field-0.0) (trace c.take_step.new.out.entries picks)
    (λ end t. (◌≡◌ {A = Result (Unit {0}) Stop} (Err c.in_err-take_step.field-0.0) (Ok tt)) × IsView c.take_step.new.node end × (t ≡ trace c.take_step.new.out.entries picks)) its)))

pub returns-in_err-take_step-clause-run : goal.returns-in_err-take_step-clause-run
returns-in_err-take_step-clause-run g c = λ disk secrets lived st over here view at left image.
    let p = err_from_is_err_and c.from_residual.result c.from_residual.ensures.1 in
    let at_event : slice_get c.args.life.now.events c.loop-i.i ≡ Some c.at.result = c.at.ensures in
    let taken = c.loop-i.invariant.run disk secrets lived st over here view at in
    let its : Steps by_worlds (entry.Step (c.loop-i.i + 1)) (fuse_for c.args.life.now.cut (c.loop-i.i + 1)) (step_of lived (c.loop-i.i + 1) c.at.result taken.now) (world_of g.X.SecretStore.held c.loop-i.devices c.loop-i.out.entries (g.D.Disk.files c.loop-i.devices.disk.now))
    (Err c.in_err-take_step.field-0.0) (world_of g.X.SecretStore.held c.take_step.new.devices c.take_step.new.out.entries left) (λ end w. (◌≡◌ {A = Result (Unit {0}) Stop} (Err c.in_err-take_step.field-0.0) (Ok tt)) × IsView c.take_step.new.node end × (w ≡ world_of g.X.SecretStore.held c.take_step.new.devices c.take_step.new.out.entries left)) =
    c.in_err-take_step.ensures.run disk secrets lived taken.now (step_here lived c.args.node.now c.loop-i.node c.args.source.now.blocks.now c.loop-i.source.blocks.now c.args.life.now c.loop-i.invariant.of (blocks_same c.args.source.now c.loop-i.source c.loop-i.invariant.blocks) here) (may_step lived over c.loop-i.i c.at.result c.args.life.now here.life_is at_event c.loop-i.node taken.now taken.so) taken.so.view left image in
    rw (p.1, p.2) (takes_stop by_worlds lived c.args.life.now.events st (world_of g.X.SecretStore.held c.args.devices.now c.args.out.now.entries (g.D.Disk.files c.args.devices.now.disk.now)) c.loop-i.i c.at.result at_event taken.now (world_of g.X.SecretStore.held c.loop-i.devices c.loop-i.out.entries (g.D.Disk.files c.loop-i.devices.disk.now)) taken.on c.in_err-take_step.field-0.0 (world_of g.X.SecretStore.held c.take_step.new.devices c.take_step.new.out.entries left)
    (λ end w. Unit {0})
    (stops_with by_worlds _ _ _ _ _ _ _ _ (λ end w so. not_done so.0) (steps_of by_worlds lived c.args.life.now here.life_is (entry.Step (c.loop-i.i + 1)) (c.loop-i.i + 1) (step_of lived (c.loop-i.i + 1) c.at.result taken.now) (world_of g.X.SecretStore.held c.loop-i.devices c.loop-i.out.entries (g.D.Disk.files c.loop-i.devices.disk.now)) (Err c.in_err-take_step.field-0.0) (world_of g.X.SecretStore.held c.take_step.new.devices c.take_step.new.out.entries left)
    (λ end w. (◌≡◌ {A = Result (Unit {0}) Stop} (Err c.in_err-take_step.field-0.0) (Ok tt)) × IsView c.take_step.new.node end × (w ≡ world_of g.X.SecretStore.held c.take_step.new.devices c.take_step.new.out.entries left)) its)))

pub returns-in_err-take_step-clause-went : goal.returns-in_err-take_step-clause-went
returns-in_err-take_step-clause-went g c = went_then g.D.Disk.tells g.D.Disk.made g.X.SecretStore.made g.D.Disk.faults g.X.SecretStore.faults g.met.D.Disk.made_more g.met.X.SecretStore.made_more c.args.devices.now c.loop-i.devices c.take_step.new.devices [] [] c.loop-i.invariant.went c.take_step.ensures.went

pub loop-i-preserved : goal.loop-i-preserved
loop-i-preserved g c =
    let at_event : slice_get c.args.life.now.events c.loop-i.i ≡ Some c.at.result = c.at.ensures in
    record {
      ready = c.in_ok-take_step.ensures.ready;
      terms = c.take_step.ensures.terms ∙ c.loop-i.invariant.terms;
      of = λ lived of. c.take_step.ensures.of lived (c.loop-i.invariant.of lived of);
      blocks = c.take_step.ensures.source.0 ∙ c.loop-i.invariant.blocks;
      went = went_then g.D.Disk.tells g.D.Disk.made g.X.SecretStore.made g.D.Disk.faults g.X.SecretStore.faults g.met.D.Disk.made_more g.met.X.SecretStore.made_more c.args.devices.now c.loop-i.devices c.take_step.new.devices [] [] c.loop-i.invariant.went c.take_step.ensures.went;
      fit = λ told fit. fit_on c.args.node.now c.loop-i.node c.loop-i.invariant.terms _ _ (c.take_step.ensures.fit told) (c.loop-i.invariant.fit told fit);
      lines = λ lived st picks over here view at.
          let taken = c.loop-i.invariant.lines lived st picks over here view at in
          let its = c.in_ok-take_step.ensures.lines lived taken.now picks (step_here lived c.args.node.now c.loop-i.node c.args.source.now.blocks.now c.loop-i.source.blocks.now c.args.life.now c.loop-i.invariant.of (blocks_same c.args.source.now c.loop-i.source c.loop-i.invariant.blocks) here) (may_step lived over c.loop-i.i c.at.result c.args.life.now here.life_is at_event c.loop-i.node taken.now taken.so) taken.so.view in
          takes_next by_entries lived c.args.life.now.events st (trace c.args.out.now.entries picks) c.loop-i.i c.at.result at_event taken.now (trace c.loop-i.out.entries picks) taken.on (trace c.take_step.new.out.entries picks) (IsHere lived c.take_step.new.node (c.loop-i.i + 1))
          (steps_of by_entries lived c.args.life.now here.life_is _ _ _ _ _ _ _
          (steps_here lived over c.loop-i.i c.at.result c.args.life.now here.life_is at_event c.loop-i.node taken.now taken.so by_entries lines_lead (entry.Step (c.loop-i.i + 1)) c.take_step.new.node (trace c.loop-i.out.entries picks) (trace c.take_step.new.out.entries picks) its));
      run = λ disk secrets lived st over here view at.
          let taken = c.loop-i.invariant.run disk secrets lived st over here view at in
          let its = c.in_ok-take_step.ensures.run disk secrets lived taken.now (step_here lived c.args.node.now c.loop-i.node c.args.source.now.blocks.now c.loop-i.source.blocks.now c.args.life.now c.loop-i.invariant.of (blocks_same c.args.source.now c.loop-i.source c.loop-i.invariant.blocks) here) (may_step lived over c.loop-i.i c.at.result c.args.life.now here.life_is at_event c.loop-i.node taken.now taken.so) taken.so.view (g.D.Disk.files c.take_step.new.devices.disk.now) (g.met.D.Disk.reads c.take_step.new.devices.disk.now disk) in
          takes_next by_worlds lived c.args.life.now.events st (world_of g.X.SecretStore.held c.args.devices.now c.args.out.now.entries (g.D.Disk.files c.args.devices.now.disk.now)) c.loop-i.i c.at.result at_event taken.now (world_of g.X.SecretStore.held c.loop-i.devices c.loop-i.out.entries (g.D.Disk.files c.loop-i.devices.disk.now)) taken.on
          (world_of g.X.SecretStore.held c.take_step.new.devices c.take_step.new.out.entries (g.D.Disk.files c.take_step.new.devices.disk.now)) (IsHere lived c.take_step.new.node (c.loop-i.i + 1))
          (steps_of by_worlds lived c.args.life.now here.life_is _ _ _ _ _ _ _
          (steps_here lived over c.loop-i.i c.at.result c.args.life.now here.life_is at_event c.loop-i.node taken.now taken.so by_worlds worlds_lead (entry.Step (c.loop-i.i + 1)) c.take_step.new.node (world_of g.X.SecretStore.held c.loop-i.devices c.loop-i.out.entries (g.D.Disk.files c.loop-i.devices.disk.now)) (world_of g.X.SecretStore.held c.take_step.new.devices c.take_step.new.out.entries (g.D.Disk.files c.take_step.new.devices.disk.now)) its));
    }

-- ALL WERE TAKEN

pub returns-clause-lines : goal.returns-clause-lines
returns-clause-lines g c = λ lived st picks over here view at.
    let all : length c.args.life.now.events ≤ c.loop-i.i = omega (arith, c.len-i-end.ensures, c.loop-i-test.false) in
    let taken = c.loop-i.invariant.lines lived st picks over here view at in
    takes_end by_entries lived c.args.life.now.events st (trace c.args.out.now.entries picks) c.loop-i.i taken.now (trace c.loop-i.out.entries picks) all taken.on

pub returns-clause-run : goal.returns-clause-run
returns-clause-run g c = λ disk secrets lived st over here view at left image.
    let all : length c.args.life.now.events ≤ c.loop-i.i = omega (arith, c.len-i-end.ensures, c.loop-i-test.false) in
    let taken = c.loop-i.invariant.run disk secrets lived st over here view at in
    let same : left ≡ g.D.Disk.files c.loop-i.devices.disk.now = (node_lands g.D.Disk.tells g.D.Disk.files g.D.Disk.image c.loop-i.node c.loop-i.devices c.loop-i.invariant.ready disk).only left image in
    subst (λ (f : Files). TakesAll by_worlds lived 1 c.args.life.now.events st (world_of g.X.SecretStore.held c.args.devices.now c.args.out.now.entries (g.D.Disk.files c.args.devices.now.disk.now)) (Ok tt) (world_of g.X.SecretStore.held c.loop-i.devices c.loop-i.out.entries f)) (sym same)
    (takes_end by_worlds lived c.args.life.now.events st (world_of g.X.SecretStore.held c.args.devices.now c.args.out.now.entries (g.D.Disk.files c.args.devices.now.disk.now)) c.loop-i.i taken.now (world_of g.X.SecretStore.held c.loop-i.devices c.loop-i.out.entries (g.D.Disk.files c.loop-i.devices.disk.now)) all taken.on)

-- WHAT ELSE is handed on

pub take_step-requires-clause-ready : goal.take_step-requires-clause-ready
take_step-requires-clause-ready g c = c.loop-i.invariant.ready

pub returns-in_err-take_step-clause-firm : goal.returns-in_err-take_step-clause-firm
returns-in_err-take_step-clause-firm g c = let p = err_from_is_err_and c.from_residual.result c.from_residual.ensures.1 in rw p.1 tt

pub returns-in_err-take_step-clause-causes : goal.returns-in_err-take_step-clause-causes
returns-in_err-take_step-clause-causes g c = let p = err_from_is_err_and c.from_residual.result c.from_residual.ensures.1 in
    rw (p.1, p.2) (step_blames_from g.D.Disk.tells g.D.Disk.made g.X.SecretStore.made g.D.Disk.faults g.X.SecretStore.faults c.args.devices.now c.loop-i.devices c.take_step.new.devices c.loop-i.invariant.went c.take_step.ensures.went c.in_err-take_step.field-0.0 _ c.in_err-take_step.ensures.causes)

pub returns-in_err-take_step-clause-fit : goal.returns-in_err-take_step-clause-fit
returns-in_err-take_step-clause-fit g c = λ told fit. fit_on c.args.node.now c.loop-i.node c.loop-i.invariant.terms _ _ (c.take_step.ensures.fit told) (c.loop-i.invariant.fit told fit)

pub returns-clause-firm : goal.returns-clause-firm
returns-clause-firm g c = λ told. node_lands g.D.Disk.tells g.D.Disk.files g.D.Disk.image c.loop-i.node c.loop-i.devices c.loop-i.invariant.ready told

pub returns-clause-went : goal.returns-clause-went
returns-clause-went g c = c.loop-i.invariant.went

pub returns-clause-causes : goal.returns-clause-causes
returns-clause-causes g c = tt

pub returns-clause-fit : goal.returns-clause-fit
returns-clause-fit g c = c.loop-i.invariant.fit
