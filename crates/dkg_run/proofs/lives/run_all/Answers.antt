use Rattle.std.proofs.Common.{◌≡◌, ◌≤◌, [], ◌++◌, ◌∙◌, arith, length, Some, Ok, ap, inl, inr, refl, subst, sym}
use Rattle.std.specs.Int.NonZero.{non_zero_u64_get}
use Rattle.std.specs.Prelude.{slice_get}
use Rattle.std.proofs.lemmas.Result.{err_from_is_err_and}
use Rattle.dkg_journal.specs.Names.{Files}
use Rattle.dkg_store.specs.Acts.{World}
use Rattle.dkg_lives.specs.Given.{limits_of}
use Rattle.dkg_lives.specs.Lives.{AnyFiles, LivesFrom}
use Rattle.dkg_lives.specs.Moving.{world_of}
use Rattle.dkg_lives.specs.Ways.{by_entries, by_worlds, trace}
use Rattle.dkg_lives.proofs.Checked.{config_caused}
use Rattle.dkg_run.proofs.Going.{went_none, went_then}
use Rattle.dkg_run.proofs.Lasting.{blames_behind}
use Rattle.dkg_lives.proofs.Living.{item_here}
use Rattle.dkg_run.proofs.RecordsFound.{config_finds}
use Rattle.dkg_run.proofs.Running.{lives_end, lives_first, lives_next, lives_stop}
use Rattle.dkg_run.proofs.lives.run_all.Goals as goal

-- THE CONFIGURATION is refused before the first life

pub returns-in_err-check_config-clause-lines : goal.returns-in_err-check_config-clause-lines
returns-in_err-check_config-clause-lines g c = let p = err_from_is_err_and c.from_residual.result c.from_residual.ensures.1 in
    rw (p.1, p.2) ([], went_none _ _ _ _ _ g.met.D.Disk.made_none g.met.X.SecretStore.made_none _ _ refl refl, inl (_, c.in_err-check_config.ensures.refused, refl, refl))

pub returns-in_err-check_config-clause-run : goal.returns-in_err-check_config-clause-run
returns-in_err-check_config-clause-run g c = let p = err_from_is_err_and c.from_residual.result c.from_residual.ensures.1 in
    rw (p.1, p.2) (λ disk secrets stands image left. inl (
      _,
      c.in_err-check_config.ensures.refused,
      refl,
      ap (λ (files : Files). world_of g.X.SecretStore.held c.args.devices.now c.args.out.now.entries files) (stands.lands.only image left),
    ))

pub returns-in_err-check_config-clause-causes : goal.returns-in_err-check_config-clause-causes
returns-in_err-check_config-clause-causes g c = let p = err_from_is_err_and c.from_residual.result c.from_residual.ensures.1 in
    rw (p.1, p.2) (config_caused c.args.script.now.config.mode c.args.script.now.config.max_mode.0 (non_zero_u64_get c.args.script.now.config.blocks_per_epoch) _ c.in_err-check_config.ensures.refused _ _)

pub returns-in_err-check_config-clause-fit : goal.returns-in_err-check_config-clause-fit
returns-in_err-check_config-clause-fit g c = λ told fit. fit

-- .. or memory wants there

pub returns-in_err-blocks-clause-lines : goal.returns-in_err-blocks-clause-lines
returns-in_err-blocks-clause-lines g c = let p = err_from_is_err_and c.from_residual-in_err-blocks.result c.from_residual-in_err-blocks.ensures.1 in
    rw (p.1, p.2) ([], went_none _ _ _ _ _ g.met.D.Disk.made_none g.met.X.SecretStore.made_none _ _ refl refl, inr (c.in_ok-check_config.ensures.accepted, inl (refl, refl)))

pub returns-in_err-blocks-clause-run : goal.returns-in_err-blocks-clause-run
returns-in_err-blocks-clause-run g c = let p = err_from_is_err_and c.from_residual-in_err-blocks.result c.from_residual-in_err-blocks.ensures.1 in
    rw (p.1, p.2) (λ disk secrets stands image left. inr (
      c.in_ok-check_config.ensures.accepted,
      inl (
        refl,
        ap (λ (files : Files). world_of g.X.SecretStore.held c.args.devices.now c.args.out.now.entries files) (stands.lands.only image left),
      ),
    ))

pub returns-in_err-blocks-clause-fit : goal.returns-in_err-blocks-clause-fit
returns-in_err-blocks-clause-fit g c = λ told fit. fit

pub loop-i-init : goal.loop-i-init
loop-i-init g c = record {
  lines = ([], went_none _ _ _ _ _ g.met.D.Disk.made_none g.met.X.SecretStore.made_none _ _ refl refl, lives_first by_entries c.args.script.now AnyFiles _ _);
  run = λ disk secrets stands. lives_first by_worlds c.args.script.now _ _ _;
  stands = λ told stands. stands;
  fit = λ told fit. fit;
}

-- A LIFE

pub run_life-requires-clause-here : goal.run_life-requires-clause-here
run_life-requires-clause-here g c =
    let life_is : slice_get c.args.script.now.lives c.loop-i.i ≡ Some c.life-item.result = rw (← c.as_slice-life-items.ensures) (item_here _ _ _ c.loop-i-test.true c.life-item.is) in
    (life_is, c.deref.ensures.value ∙ c.in_ok-blocks.ensures.blocks)

pub returns-in_err-run_life-clause-lines : goal.returns-in_err-run_life-clause-lines
returns-in_err-run_life-clause-lines g c =
    let p = err_from_is_err_and c.from_residual-in_err-run_life.result c.from_residual-in_err-run_life.ensures.1 in
    let life_is : slice_get c.args.script.now.lives c.loop-i.i ≡ Some c.life-item.result = rw (← c.as_slice-life-items.ensures) (item_here _ _ _ c.loop-i-test.true c.life-item.is) in
    let so_far = c.loop-i.invariant.lines in
    let its = c.in_err-run_life.ensures.lines in
    rw (p.1, p.2) (
      so_far.0 ++ its.0,
      went_then g.D.Disk.tells g.D.Disk.made g.X.SecretStore.made g.D.Disk.faults g.X.SecretStore.faults g.met.D.Disk.made_more g.met.X.SecretStore.made_more _ _ _ so_far.0 its.0 so_far.1 its.1,
      inr (c.in_ok-check_config.ensures.accepted, inr (lives_stop by_entries c.args.script.now AnyFiles c.args.script.now.lives (trace c.args.out.now.entries []) c.loop-i.i AnyFiles c.life-item.result life_is (trace c.loop-i.out.entries so_far.0) so_far.2 _ _ (its.2 so_far.0))),
    )

pub returns-in_err-run_life-clause-run : goal.returns-in_err-run_life-clause-run
returns-in_err-run_life-clause-run g c =
    let p = err_from_is_err_and c.from_residual-in_err-run_life.result c.from_residual-in_err-run_life.ensures.1 in
    let life_is : slice_get c.args.script.now.lives c.loop-i.i ≡ Some c.life-item.result = rw (← c.as_slice-life-items.ensures) (item_here _ _ _ c.loop-i-test.true c.life-item.is) in
    let old : World = world_of g.X.SecretStore.held c.args.devices.now c.args.out.now.entries (g.D.Disk.files c.args.devices.now.disk.now) in
    let here : World = world_of g.X.SecretStore.held c.loop-i.devices c.loop-i.out.entries (g.D.Disk.files c.loop-i.devices.disk.now) in
    rw (p.1, p.2) (λ disk secrets stands image left.
    inr (
      c.in_ok-check_config.ensures.accepted,
      inr (lives_stop by_worlds c.args.script.now (λ files. files ≡ g.D.Disk.files c.args.devices.now.disk.now) c.args.script.now.lives old c.loop-i.i (λ files. files ≡ g.D.Disk.files c.loop-i.devices.disk.now)
          c.life-item.result life_is here (c.loop-i.invariant.run disk secrets stands) _ _ (c.in_err-run_life.ensures.run disk secrets (c.loop-i.invariant.stands disk stands) image left)),
    ))

pub loop-i-preserved : goal.loop-i-preserved
loop-i-preserved g c =
    let life_is : slice_get c.args.script.now.lives c.loop-i.i ≡ Some c.life-item.result = rw (← c.as_slice-life-items.ensures) (item_here _ _ _ c.loop-i-test.true c.life-item.is) in
    let so_far = c.loop-i.invariant.lines in
    let its = c.in_ok-run_life.ensures.lines in
    let old : World = world_of g.X.SecretStore.held c.args.devices.now c.args.out.now.entries (g.D.Disk.files c.args.devices.now.disk.now) in
    let here : World = world_of g.X.SecretStore.held c.loop-i.devices c.loop-i.out.entries (g.D.Disk.files c.loop-i.devices.disk.now) in
    let files_now : Files = g.D.Disk.files c.run_life.new.devices.disk.now in
    let now : World = world_of g.X.SecretStore.held c.run_life.new.devices c.run_life.new.out.entries files_now in
    record {
      lines = (
        so_far.0 ++ its.0,
        went_then g.D.Disk.tells g.D.Disk.made g.X.SecretStore.made g.D.Disk.faults g.X.SecretStore.faults g.met.D.Disk.made_more g.met.X.SecretStore.made_more _ _ _ so_far.0 its.0 so_far.1 its.1,
        lives_next by_entries c.args.script.now AnyFiles c.args.script.now.lives (trace c.args.out.now.entries []) c.loop-i.i AnyFiles c.life-item.result life_is (trace c.loop-i.out.entries so_far.0) so_far.2
            (trace c.run_life.new.out.entries (so_far.0 ++ its.0)) AnyFiles (its.2 so_far.0),
      );
      run = λ disk secrets stands.
          lives_next by_worlds c.args.script.now (λ files. files ≡ g.D.Disk.files c.args.devices.now.disk.now) c.args.script.now.lives old c.loop-i.i (λ files. files ≡ g.D.Disk.files c.loop-i.devices.disk.now)
          c.life-item.result life_is here (c.loop-i.invariant.run disk secrets stands) now (λ files. files ≡ files_now)
          (c.in_ok-run_life.ensures.run disk secrets (c.loop-i.invariant.stands disk stands) files_now (g.met.D.Disk.reads c.run_life.new.devices.disk.now disk));
      stands = λ told stands. c.in_ok-run_life.ensures.stands told;
      fit = λ told fit. c.run_life.ensures.fit told (c.loop-i.invariant.fit told fit);
    }

-- ALL WERE RUN

pub returns-clause-lines : goal.returns-clause-lines
returns-clause-lines g c =
    let so_far = c.loop-i.invariant.lines in
    let all : length c.args.script.now.lives ≤ c.loop-i.i = rw (← c.as_slice-life-items.ensures) (omega (arith, c.loop-i-test.false)) in (
      so_far.0,
      so_far.1,
      inr (c.in_ok-check_config.ensures.accepted, inr (lives_end by_entries c.args.script.now AnyFiles c.args.script.now.lives (trace c.args.out.now.entries []) c.loop-i.i AnyFiles (trace c.loop-i.out.entries so_far.0) all so_far.2)),
    )

pub returns-clause-run : goal.returns-clause-run
returns-clause-run g c = λ disk secrets stands image left.
    let old : World = world_of g.X.SecretStore.held c.args.devices.now c.args.out.now.entries (g.D.Disk.files c.args.devices.now.disk.now) in
    let here : World = world_of g.X.SecretStore.held c.loop-i.devices c.loop-i.out.entries (g.D.Disk.files c.loop-i.devices.disk.now) in
    let all : length c.args.script.now.lives ≤ c.loop-i.i = rw (← c.as_slice-life-items.ensures) (omega (arith, c.loop-i-test.false)) in
    let same : image ≡ g.D.Disk.files c.loop-i.devices.disk.now = (c.loop-i.invariant.stands disk stands).lands.only image left in
    inr (
      c.in_ok-check_config.ensures.accepted,
      inr (subst (λ (files : Files). LivesFrom by_worlds c.args.script.now (λ its. its ≡ g.D.Disk.files c.args.devices.now.disk.now) 0 c.args.script.now.lives old (Ok tt) (world_of g.X.SecretStore.held c.loop-i.devices c.loop-i.out.entries files))
          (sym same)
          (lives_end by_worlds c.args.script.now (λ its. its ≡ g.D.Disk.files c.args.devices.now.disk.now) c.args.script.now.lives old c.loop-i.i (λ its. its ≡ g.D.Disk.files c.loop-i.devices.disk.now) here all (c.loop-i.invariant.run disk secrets stands))),
    )

-- A CORRUPT RECORD that the fault names

pub returns-in_err-check_config-clause-found : goal.returns-in_err-check_config-clause-found
returns-in_err-check_config-clause-found g c = let p = err_from_is_err_and c.from_residual.result c.from_residual.ensures.1 in
    rw (p.1, p.2) (λ told. config_finds c.args.script.now.config.mode c.args.script.now.config.max_mode.0 (non_zero_u64_get c.args.script.now.config.blocks_per_epoch) _ c.in_err-check_config.ensures.refused (limits_of c.args.script.now).limit _)

pub returns-in_err-blocks-clause-found : goal.returns-in_err-blocks-clause-found
returns-in_err-blocks-clause-found g c = let p = err_from_is_err_and c.from_residual-in_err-blocks.result c.from_residual-in_err-blocks.ensures.1 in rw (p.1, p.2) (λ told. record { so = tt })

pub returns-in_err-run_life-clause-found : goal.returns-in_err-run_life-clause-found
returns-in_err-run_life-clause-found g c = let p = err_from_is_err_and c.from_residual-in_err-run_life.result c.from_residual-in_err-run_life.ensures.1 in rw (p.1, p.2) c.in_err-run_life.ensures.found

pub returns-clause-found : goal.returns-clause-found
returns-clause-found g c = tt

-- WHAT ELSE is handed on

pub returns-in_err-check_config-clause-stands : goal.returns-in_err-check_config-clause-stands
returns-in_err-check_config-clause-stands g c = let p = err_from_is_err_and c.from_residual.result c.from_residual.ensures.1 in rw p.1 tt

pub returns-in_err-blocks-clause-stands : goal.returns-in_err-blocks-clause-stands
returns-in_err-blocks-clause-stands g c = let p = err_from_is_err_and c.from_residual-in_err-blocks.result c.from_residual-in_err-blocks.ensures.1 in rw p.1 tt

pub returns-in_err-run_life-clause-stands : goal.returns-in_err-run_life-clause-stands
returns-in_err-run_life-clause-stands g c = let p = err_from_is_err_and c.from_residual-in_err-run_life.result c.from_residual-in_err-run_life.ensures.1 in rw p.1 tt

pub returns-clause-stands : goal.returns-clause-stands
returns-clause-stands g c = c.loop-i.invariant.stands

pub returns-in_err-blocks-clause-causes : goal.returns-in_err-blocks-clause-causes
returns-in_err-blocks-clause-causes g c = let p = err_from_is_err_and c.from_residual-in_err-blocks.result c.from_residual-in_err-blocks.ensures.1 in rw (p.1, p.2) tt

pub returns-in_err-run_life-clause-causes : goal.returns-in_err-run_life-clause-causes
returns-in_err-run_life-clause-causes g c = let p = err_from_is_err_and c.from_residual-in_err-run_life.result c.from_residual-in_err-run_life.ensures.1 in
    let so_far = c.loop-i.invariant.lines in
    let its = c.in_err-run_life.ensures.lines in
    rw (p.1, p.2) (blames_behind g.D.Disk.tells g.D.Disk.made g.X.SecretStore.made g.D.Disk.faults g.X.SecretStore.faults c.args.devices.now c.loop-i.devices c.run_life.new.devices so_far.0 its.0 so_far.1 its.1 _ c.in_err-run_life.ensures.causes)

pub returns-clause-causes : goal.returns-clause-causes
returns-clause-causes g c = tt

pub returns-in_err-run_life-clause-fit : goal.returns-in_err-run_life-clause-fit
returns-in_err-run_life-clause-fit g c = λ told fit. c.run_life.ensures.fit told (c.loop-i.invariant.fit told fit)

pub returns-clause-fit : goal.returns-clause-fit
returns-clause-fit g c = c.loop-i.invariant.fit

pub run_life-requires-clause-form : goal.run_life-requires-clause-form
run_life-requires-clause-form g c = c.requires.form

pub run_life-requires-clause-checked : goal.run_life-requires-clause-checked
run_life-requires-clause-checked g c = c.in_ok-check_config.ensures.accepted

pub run_life-requires-clause-bytes : goal.run_life-requires-clause-bytes
run_life-requires-clause-bytes g c = c.in_ok-blocks.ensures.bytes

-- WHETHER LIVES BEGAN

pub returns-in_err-check_config-clause-begun : goal.returns-in_err-check_config-clause-begun
returns-in_err-check_config-clause-begun g c = let p = err_from_is_err_and c.from_residual.result c.from_residual.ensures.1 in
    rw (p.1, p.2) (inr (record { why = inr (_, c.in_err-check_config.ensures.refused, refl); same = (refl, refl) }))

pub returns-in_err-blocks-clause-begun : goal.returns-in_err-blocks-clause-begun
returns-in_err-blocks-clause-begun g c = let p = err_from_is_err_and c.from_residual-in_err-blocks.result c.from_residual-in_err-blocks.ensures.1 in rw (p.1, p.2) (inr (record { why = inl refl; same = (refl, refl) }))

pub returns-in_err-run_life-clause-begun : goal.returns-in_err-run_life-clause-begun
returns-in_err-run_life-clause-begun g c = inl (c.in_ok-check_config.ensures.accepted, c.in_ok-blocks.ensures.bytes)

pub returns-clause-begun : goal.returns-clause-begun
returns-clause-begun g c = inl (c.in_ok-check_config.ensures.accepted, c.in_ok-blocks.ensures.bytes)
