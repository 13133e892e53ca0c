use Rattle.std.proofs.Common.{[], refl, ◌∙◌}
use Rattle.std.proofs.lemmas.Result.{err_from_is_err_and}
use Rattle.dkg_store.proofs.Counts.{reached_cuts}
use Rattle.dkg_life.specs.Planless.{seen_planless}
use Rattle.dkg_lives.specs.Given.{Lived, at_step, limits_of, lived}
use Rattle.dkg_lives.specs.Moving.{Went}
use Rattle.dkg_run.proofs.Opened.{at_first, cut_behind, cut_ran, or_then, stopped_ran, unsourced_ran, went_ran}
use Rattle.dkg_lives.proofs.Checked.{life_in_form}
use Rattle.dkg_run.proofs.Going.{went_moved, went_none, went_then}
use Rattle.dkg_run.proofs.RecordsFound.{opening_finds, steps_find}
use Rattle.dkg_run.proofs.Starting.{blames_from, cut_first, fit_over, fit_then, found_cause, has_opened, lines_over, opening_blames, stopped_first, to_open, unsourced_first, went_first}
use Rattle.dkg_run.proofs.lives.live.Goals as goal

-- OVER THE LINES

pub returns-in_err-begin_step-clause-lines : goal.returns-in_err-begin_step-clause-lines
returns-in_err-begin_step-clause-lines g c =
    let p = err_from_is_err_and c.from_residual.result c.from_residual.ensures.1 in
    rw (p.1, p.2) (cut_first c.args.script.now c.args.number c.args.life.now (g.D.Disk.files c.args.devices.now.disk.now) c.args.out.now.entries c.in_err-begin_step.ensures.ends.1 c.in_err-begin_step.field-0.0 c.in_err-begin_step.ensures.ends.0)

pub returns-in_err-source-clause-lines : goal.returns-in_err-source-clause-lines
returns-in_err-source-clause-lines g c =
    let p = err_from_is_err_and c.from_residual-in_err-source.result c.from_residual-in_err-source.ensures.1 in
    rw (p.1, p.2) (unsourced_first c.args.script.now c.args.number c.args.life.now (g.D.Disk.files c.args.devices.now.disk.now) c.args.out.now.entries c.begin_step.new.devices.fuse c.in_ok-begin_step.ensures.lit)

pub returns-in_err-node-clause-lines : goal.returns-in_err-node-clause-lines
returns-in_err-node-clause-lines g c =
    let p = err_from_is_err_and c.from_residual-in_err-node.result c.from_residual-in_err-node.ensures.1 in
    rw (p.1, p.2) (lines_over g.D.Disk.files c.args.devices.now.disk c.begin_step.new.devices.disk c.begin_step.ensures.same.0 c.args.script.now c.args.number c.args.life.now c.args.out.now.entries _ _
    (stopped_first c.args.script.now c.args.number c.args.life.now (g.D.Disk.files c.begin_step.new.devices.disk.now) c.args.out.now.entries c.begin_step.new.devices.fuse c.in_ok-begin_step.ensures.lit
    _ c.open.new.out.entries c.in_err-node.field-0.0
    (λ is. reached_cuts _ _ c.open.ensures.moved.counts (cut_behind (limits_of c.args.script.now).limit g.D.Disk.tells (g.D.Disk.files c.open.new.devices.disk.now) c.in_err-node.field-0.0 _ _ _ c.in_err-node.ensures.causes is)) c.in_err-node.ensures.tells))

pub returns-clause-lines : goal.returns-clause-lines
returns-clause-lines g c =
    lines_over g.D.Disk.files c.args.devices.now.disk c.begin_step.new.devices.disk c.begin_step.ensures.same.0 c.args.script.now c.args.number c.args.life.now c.args.out.now.entries _ _
    (went_first c.args.script.now c.args.number c.args.life.now (g.D.Disk.files c.begin_step.new.devices.disk.now) c.args.out.now.entries c.begin_step.new.devices.fuse c.in_ok-begin_step.ensures.lit
    _ c.open.new.out.entries c.in_ok-node.node c.in_ok-node.ensures.tells c.requires.form c.requires.checked c.requires.here.0 c.in_ok-node.ensures.of
    c.in_ok-source.source.blocks.now (c.in_ok-source.ensures.blocks ∙ c.requires.here.1) c.open.new.devices c.go_on.new.devices c.go_on.result c.go_on.new.out.entries c.go_on.ensures.lines)

-- THE NODE'S OPENING

pub open-requires : goal.open-requires
open-requires g c = record {
  here = to_open c.args.script.now c.args.number c.args.life.now c.in_ok-source.source c.requires.form c.requires.checked c.requires.here.0 (c.in_ok-source.ensures.blocks ∙ c.requires.here.1)
      c.in_ok-source.ensures.anchor c.in_ok-source.ensures.numbers;
}

-- THE STEPS are those of a life that was opened

pub go_on-requires-clause-here : goal.go_on-requires-clause-here
go_on-requires-clause-here g c =
    has_opened c.args.script.now c.args.number c.args.life.now (g.D.Disk.files c.begin_step.new.devices.disk.now) c.args.out.now.entries c.begin_step.new.devices.fuse c.in_ok-begin_step.ensures.lit
    _ c.open.new.out.entries c.in_ok-node.node c.in_ok-node.ensures.tells c.requires.form c.requires.checked c.requires.here.0 c.in_ok-node.ensures.of
    c.in_ok-source.source.blocks.now (c.in_ok-source.ensures.blocks ∙ c.requires.here.1) c.requires.bytes

pub go_on-requires-clause-begun : goal.go_on-requires-clause-begun
go_on-requires-clause-begun g c = (c.begin_step.new.devices.fuse, c.in_ok-begin_step.ensures.lit)

-- WHAT THE DEVICES MADE

pub returns-in_err-begin_step-clause-went : goal.returns-in_err-begin_step-clause-went
returns-in_err-begin_step-clause-went g c =
    went_none g.D.Disk.tells g.D.Disk.made g.X.SecretStore.made g.D.Disk.faults g.X.SecretStore.faults g.met.D.Disk.made_none g.met.X.SecretStore.made_none c.args.devices.now c.begin_step.new.devices
    c.begin_step.ensures.same.0 c.begin_step.ensures.same.1

pub returns-in_err-source-clause-went : goal.returns-in_err-source-clause-went
returns-in_err-source-clause-went g c =
    went_none g.D.Disk.tells g.D.Disk.made g.X.SecretStore.made g.D.Disk.faults g.X.SecretStore.faults g.met.D.Disk.made_none g.met.X.SecretStore.made_none c.args.devices.now c.begin_step.new.devices
    c.begin_step.ensures.same.0 c.begin_step.ensures.same.1

pub returns-in_err-node-clause-went : goal.returns-in_err-node-clause-went
returns-in_err-node-clause-went g c =
    went_then g.D.Disk.tells g.D.Disk.made g.X.SecretStore.made g.D.Disk.faults g.X.SecretStore.faults g.met.D.Disk.made_more g.met.X.SecretStore.made_more c.args.devices.now c.begin_step.new.devices c.open.new.devices [] []
    (went_none g.D.Disk.tells g.D.Disk.made g.X.SecretStore.made g.D.Disk.faults g.X.SecretStore.faults g.met.D.Disk.made_none g.met.X.SecretStore.made_none c.args.devices.now c.begin_step.new.devices
    c.begin_step.ensures.same.0 c.begin_step.ensures.same.1)
    (went_moved g.D.Disk.tells g.D.Disk.made g.X.SecretStore.made g.D.Disk.faults g.X.SecretStore.faults c.begin_step.new.devices c.open.new.devices c.open.ensures.moved)

pub returns-clause-went : goal.returns-clause-went
returns-clause-went g c =
    let opened : Went g.D.Disk.tells g.D.Disk.made g.X.SecretStore.made g.D.Disk.faults g.X.SecretStore.faults c.args.devices.now c.open.new.devices [] =
    went_then g.D.Disk.tells g.D.Disk.made g.X.SecretStore.made g.D.Disk.faults g.X.SecretStore.faults g.met.D.Disk.made_more g.met.X.SecretStore.made_more c.args.devices.now c.begin_step.new.devices c.open.new.devices [] []
    (went_none g.D.Disk.tells g.D.Disk.made g.X.SecretStore.made g.D.Disk.faults g.X.SecretStore.faults g.met.D.Disk.made_none g.met.X.SecretStore.made_none c.args.devices.now c.begin_step.new.devices
    c.begin_step.ensures.same.0 c.begin_step.ensures.same.1)
    (went_moved g.D.Disk.tells g.D.Disk.made g.X.SecretStore.made g.D.Disk.faults g.X.SecretStore.faults c.begin_step.new.devices c.open.new.devices c.open.ensures.moved) in
    went_then g.D.Disk.tells g.D.Disk.made g.X.SecretStore.made g.D.Disk.faults g.X.SecretStore.faults g.met.D.Disk.made_more g.met.X.SecretStore.made_more c.args.devices.now c.open.new.devices c.go_on.new.devices [] []
    opened c.go_on.ensures.went

pub returns-clause-causes : goal.returns-clause-causes
returns-clause-causes g c =
    let opened : Went g.D.Disk.tells g.D.Disk.made g.X.SecretStore.made g.D.Disk.faults g.X.SecretStore.faults c.args.devices.now c.open.new.devices [] =
    went_then g.D.Disk.tells g.D.Disk.made g.X.SecretStore.made g.D.Disk.faults g.X.SecretStore.faults g.met.D.Disk.made_more g.met.X.SecretStore.made_more c.args.devices.now c.begin_step.new.devices c.open.new.devices [] []
    (went_none g.D.Disk.tells g.D.Disk.made g.X.SecretStore.made g.D.Disk.faults g.X.SecretStore.faults g.met.D.Disk.made_none g.met.X.SecretStore.made_none c.args.devices.now c.begin_step.new.devices
    c.begin_step.ensures.same.0 c.begin_step.ensures.same.1)
    (went_moved g.D.Disk.tells g.D.Disk.made g.X.SecretStore.made g.D.Disk.faults g.X.SecretStore.faults c.begin_step.new.devices c.open.new.devices c.open.ensures.moved) in
    blames_from g.D.Disk.tells g.D.Disk.made g.X.SecretStore.made g.D.Disk.faults g.X.SecretStore.faults c.args.devices.now c.open.new.devices c.go_on.new.devices opened c.go_on.ensures.went c.go_on.result c.go_on.ensures.causes

-- FITTING

pub returns-in_err-node-clause-fit : goal.returns-in_err-node-clause-fit
returns-in_err-node-clause-fit g c = λ told. fit_over g.D.Disk.image c.args.devices.now.disk c.begin_step.new.devices.disk c.begin_step.ensures.same.0 (limits_of c.args.script.now).limit _ ((c.open.ensures.loose told).fit (limits_of c.args.script.now).limit)

pub returns-clause-fit : goal.returns-clause-fit
returns-clause-fit g c = λ told. fit_over g.D.Disk.image c.args.devices.now.disk c.begin_step.new.devices.disk c.begin_step.ensures.same.0 (limits_of c.args.script.now).limit _
    (fit_then c.args.script.now c.args.number c.args.life.now c.in_ok-node.node c.in_ok-node.ensures.of (g.D.Disk.files c.args.devices.now.disk.now) _ _ _ ((c.open.ensures.loose told).fit (limits_of c.args.script.now).limit) (c.go_on.ensures.fit told))

-- OVER BOTH DEVICES

pub returns-in_err-source-clause-run : goal.returns-in_err-source-clause-run
returns-in_err-source-clause-run g c = λ disk secrets stands left image.
    let p = err_from_is_err_and c.from_residual-in_err-source.result c.from_residual-in_err-source.ensures.1 in
    rw (p.1, p.2) (unsourced_ran g.D.Disk.files g.D.Disk.image g.X.SecretStore.held c.args.devices.now c.begin_step.new.devices c.begin_step.ensures.same.0 c.begin_step.ensures.same.1 stands c.args.script.now c.args.number c.args.life.now c.in_ok-begin_step.ensures.lit c.args.out.now.entries left image)

pub returns-in_err-node-clause-run : goal.returns-in_err-node-clause-run
returns-in_err-node-clause-run g c = λ disk secrets stands left image.
    let p = err_from_is_err_and c.from_residual-in_err-node.result c.from_residual-in_err-node.ensures.1 in
    let read = c.in_err-node.ensures.tells in
    rw (p.1, p.2) (stopped_ran g.D.Disk.files g.D.Disk.image g.X.SecretStore.held c.args.devices.now c.begin_step.new.devices c.begin_step.ensures.same.0 c.begin_step.ensures.same.1 stands c.args.script.now c.args.number c.args.life.now c.in_ok-begin_step.ensures.lit c.args.out.now.entries c.open.new.devices c.open.new.out.entries left image
    c.in_err-node.field-0.0
    (c.in_err-node.ensures.acts disk secrets) (at_step (lived c.args.script.now c.args.number c.args.life.now (λ h. read.seen) (g.D.Disk.files c.begin_step.new.devices.disk.now)) 0) read.so (c.in_err-node.ensures.readable disk).untold (c.in_err-node.ensures.readable disk).shut)

pub returns-clause-run : goal.returns-clause-run
returns-clause-run g c = λ disk secrets stands left image.
    let its = c.in_ok-node.ensures.acts disk secrets (c.in_ok-node.ensures.readable disk).ok in
    let bare : Lived = lived c.args.script.now c.args.number c.args.life.now seen_planless (g.D.Disk.files c.args.devices.now.disk.now) in
    went_ran g.D.Disk.files g.D.Disk.image g.X.SecretStore.held c.args.devices.now c.begin_step.new.devices c.begin_step.ensures.same.0 c.begin_step.ensures.same.1 stands c.args.script.now c.args.number c.args.life.now c.in_ok-begin_step.ensures.lit c.args.out.now.entries c.open.new.devices c.open.new.out.entries (g.D.Disk.files c.open.new.devices.disk.now) (g.met.D.Disk.reads c.open.new.devices.disk.now disk)
    its.0 its.2 c.go_on.result c.go_on.new.devices c.go_on.new.out.entries left image
    (or_then c.go_on.ensures.run (λ takes. takes disk secrets bare its.0
    (life_in_form c.args.script.now c.args.number c.args.life.now seen_planless (g.D.Disk.files c.args.devices.now.disk.now) c.requires.form c.requires.checked c.requires.here.0 (λ h. refl))
    (record { of = c.in_ok-node.ensures.of bare refl refl (λ h. refl); blocks_are = c.in_ok-source.ensures.blocks ∙ c.requires.here.1; life_is = refl }) its.1
    (at_first g.D.Disk.files g.D.Disk.image g.X.SecretStore.held c.args.devices.now c.begin_step.new.devices c.begin_step.ensures.same.0 c.begin_step.ensures.same.1 stands c.args.script.now c.args.number c.args.life.now c.in_ok-begin_step.ensures.lit c.args.out.now.entries c.open.new.devices c.open.new.out.entries (g.D.Disk.files c.open.new.devices.disk.now) (g.met.D.Disk.reads c.open.new.devices.disk.now disk)
    its.0 its.2 c.requires.form c.requires.checked c.requires.here.0)
    left image))

-- A CORRUPT RECORD that the stop names

pub returns-in_err-begin_step-clause-found : goal.returns-in_err-begin_step-clause-found
returns-in_err-begin_step-clause-found g c = let p = err_from_is_err_and c.from_residual.result c.from_residual.ensures.1 in rw (p.1, p.2, c.in_err-begin_step.ensures.ends.0) (λ told. tt)

pub returns-in_err-source-clause-found : goal.returns-in_err-source-clause-found
returns-in_err-source-clause-found g c = let p = err_from_is_err_and c.from_residual-in_err-source.result c.from_residual-in_err-source.ensures.1 in rw (p.1, p.2) (λ told. record { so = tt })

pub returns-in_err-node-clause-found : goal.returns-in_err-node-clause-found
returns-in_err-node-clause-found g c = let p = err_from_is_err_and c.from_residual-in_err-node.result c.from_residual-in_err-node.ensures.1 in
    rw (p.1, p.2) (opening_finds (limits_of c.args.script.now).limit g.D.Disk.tells (g.D.Disk.files c.open.new.devices.disk.now) c.in_err-node.field-0.0 _ _ _ c.in_err-node.ensures.causes)

pub returns-clause-found : goal.returns-clause-found
returns-clause-found g c =
    steps_find g.D.Disk.tells g.D.Disk.faults g.X.SecretStore.faults c.open.new.devices c.go_on.new.devices (limits_of c.args.script.now).limit (g.D.Disk.files c.go_on.new.devices.disk.now) c.go_on.result c.go_on.ensures.causes

-- BLAME, before the steps

pub returns-in_err-begin_step-clause-causes : goal.returns-in_err-begin_step-clause-causes
returns-in_err-begin_step-clause-causes g c = let p = err_from_is_err_and c.from_residual.result c.from_residual.ensures.1 in rw (p.1, p.2, c.in_err-begin_step.ensures.ends.0) tt

pub returns-in_err-source-clause-causes : goal.returns-in_err-source-clause-causes
returns-in_err-source-clause-causes g c = let p = err_from_is_err_and c.from_residual-in_err-source.result c.from_residual-in_err-source.ensures.1 in rw (p.1, p.2) tt

pub returns-in_err-node-clause-causes : goal.returns-in_err-node-clause-causes
returns-in_err-node-clause-causes g c = let p = err_from_is_err_and c.from_residual-in_err-node.result c.from_residual-in_err-node.ensures.1 in
    rw (p.1, p.2) (opening_blames g.D.Disk.faults g.X.SecretStore.faults c.args.devices.now c.begin_step.new.devices c.open.new.devices c.begin_step.ensures.same.0 c.begin_step.ensures.same.1 c.in_err-node.field-0.0
    (found_cause (limits_of c.args.script.now).limit g.D.Disk.tells (g.D.Disk.files c.open.new.devices.disk.now) c.in_err-node.field-0.0 _ _ _ c.in_err-node.ensures.causes))

-- WHAT ELSE is handed on

pub returns-in_err-begin_step-clause-firm : goal.returns-in_err-begin_step-clause-firm
returns-in_err-begin_step-clause-firm g c = let p = err_from_is_err_and c.from_residual.result c.from_residual.ensures.1 in rw p.1 tt

pub returns-in_err-source-clause-firm : goal.returns-in_err-source-clause-firm
returns-in_err-source-clause-firm g c = let p = err_from_is_err_and c.from_residual-in_err-source.result c.from_residual-in_err-source.ensures.1 in rw p.1 tt

pub returns-in_err-node-clause-firm : goal.returns-in_err-node-clause-firm
returns-in_err-node-clause-firm g c = let p = err_from_is_err_and c.from_residual-in_err-node.result c.from_residual-in_err-node.ensures.1 in rw p.1 tt

pub returns-clause-firm : goal.returns-clause-firm
returns-clause-firm g c = c.go_on.ensures.firm

pub returns-in_err-begin_step-clause-fit : goal.returns-in_err-begin_step-clause-fit
returns-in_err-begin_step-clause-fit g c = λ told. fit_over g.D.Disk.image c.args.devices.now.disk c.begin_step.new.devices.disk c.begin_step.ensures.same.0 (limits_of c.args.script.now).limit (g.D.Disk.image c.begin_step.new.devices.disk.now) (λ fit. fit)

pub returns-in_err-source-clause-fit : goal.returns-in_err-source-clause-fit
returns-in_err-source-clause-fit g c = λ told. fit_over g.D.Disk.image c.args.devices.now.disk c.begin_step.new.devices.disk c.begin_step.ensures.same.0 (limits_of c.args.script.now).limit (g.D.Disk.image c.begin_step.new.devices.disk.now) (λ fit. fit)

pub returns-in_err-begin_step-clause-run : goal.returns-in_err-begin_step-clause-run
returns-in_err-begin_step-clause-run g c = λ disk secrets stands left image.
    let p = err_from_is_err_and c.from_residual.result c.from_residual.ensures.1 in
    rw (p.1, p.2) (cut_ran g.D.Disk.files g.D.Disk.image g.X.SecretStore.held c.args.devices.now c.begin_step.new.devices c.begin_step.ensures.same.0 c.begin_step.ensures.same.1 c.in_err-begin_step.ensures.ends.2 stands c.args.script.now c.args.number c.args.life.now c.in_err-begin_step.ensures.ends.1 c.in_err-begin_step.field-0.0 c.in_err-begin_step.ensures.ends.0 c.args.out.now.entries left image)

pub go_on-requires-clause-ready : goal.go_on-requires-clause-ready
go_on-requires-clause-ready g c = c.in_ok-node.ensures.ready
