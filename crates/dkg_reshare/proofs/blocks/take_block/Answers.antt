use Rattle.std.proofs.Common.{◌≡◌, refl, Result, Ok, true, false, ap, arith, subst, sym, ◌∙◌}
use Rattle.std.specs.Prelude.{IfErr}
use Rattle.std.proofs.lemmas.Grind.{common_steps}
use Rattle.std.proofs.lemmas.Result.{err_from_is_err_and}
use Rattle.std.specs.Int.NonZero.{non_zero_u64_get}
use Rattle.dkg_ceremony.specs.Schedule.{bounds_at}
use Rattle.dkg_infos.specs.declared.fault.Fault.{Fault}
use Rattle.dkg_infos.specs.declared.fault.Fault.TheVariants.{HeightRange, OutOfWindow}
use Rattle.dkg_store.specs.Acts.{went}
use Rattle.dkg_core.specs.Blocks as blocks
use Rattle.dkg_life.specs.declared.stop.Stop.TheVariants.{Fault as Faulted}
use Rattle.dkg_life.specs.declared.tip.Judged.{Judged}
use Rattle.dkg_life.specs.Ends.{IsCaused, by_stop, ends_in}
use Rattle.dkg_life.specs.LiveOf.{live_of}
use Rattle.dkg_life.specs.Steps.{AreBoundsAt}
use Rattle.dkg_setup.proofs.OpeningCourses.{makes_as, tells_as}
use Rattle.dkg_life.proofs.Beside.{none_with, took_none, with_as}
use Rattle.dkg_life.proofs.Burning.{speaks_makes}
use Rattle.dkg_life.proofs.Caused.{caused_around}
use Rattle.dkg_life.proofs.Kept.{moved_none}
use Rattle.dkg_life.proofs.Said.{speaks_tells}
use Rattle.dkg_setup.proofs.Ranges.{lies_at}
use Rattle.dkg_reshare.proofs.Taking.{is_applied, judged_off, no_range, no_window, refusal_caused, taken_again, taken_new}
use Rattle.dkg_reshare.proofs.blocks.take_block.Goals as goal

pub apply-requires-clause-bounds : goal.apply-requires-clause-bounds
apply-requires-clause-bounds g c =
    let n = non_zero_u64_get c.args.terms.now.blocks_per_epoch in
    let value = rw c.new.ensures at c.in-Some.ensures.value in
    subst (AreBoundsAt n c.in-Some.bounds) c.height-height.ensures (lies_at n c.height-height.result c.in-Some.bounds value)

pub apply-requires-clause-taken : goal.apply-requires-clause-taken
apply-requires-clause-taken g c =
    let n = non_zero_u64_get c.args.terms.now.blocks_per_epoch in
    let value = rw c.new.ensures at c.in-Some.ensures.value in
    let yes : c.looks_at.result ≡ true = grind (arith, common_steps) in
    is_applied n c.height-height.result c.args.life.now c.args.block.now c.in-Some.bounds (lies_at n c.height-height.result c.in-Some.bounds value) c.height-height.ensures
    (sym c.looks_at.ensures ∙ yes) (sym c.in_ok-judge.ensures ∙ ap (λ (x : Judged). Ok x) c.in-New.is)

pub returns-in_default-clause-acts : goal.returns-in_default-clause-acts
returns-in_default-clause-acts g c = λ disk secrets provided fixed beside of reads by provides seen.
    none_with beside _ _ _ beside.inclusion tt tt (speaks_makes (blocks.delivers fixed c.args.block.now (live_of beside c.args.fence.now c.args.life.now)) (by_stop (Faulted HeightRange)) _ _ (no_range fixed c.args.block.now beside c.args.fence.now c.args.life.now c.new.result (of.of.blocks ∙ sym c.new.ensures) c.height-height.result (bounds_at c.new.result c.height-height.result)
    c.height-height.ensures c.in_default.ensures.value c.args.out.now.entries))

pub returns-in_default-clause-tells : goal.returns-in_default-clause-tells
returns-in_default-clause-tells g c = λ provided fixed beside of reads by provides seen.
    none_with beside _ _ _ beside.inclusion tt tt (speaks_tells (blocks.delivers fixed c.args.block.now (live_of beside c.args.fence.now c.args.life.now)) (by_stop (Faulted HeightRange)) (no_range fixed c.args.block.now beside c.args.fence.now c.args.life.now c.new.result (of.of.blocks ∙ sym c.new.ensures) c.height-height.result (bounds_at c.new.result c.height-height.result)
    c.height-height.ensures c.in_default.ensures.value c.args.out.now.entries))

pub returns-in_default-clause-moves : goal.returns-in_default-clause-moves
returns-in_default-clause-moves g c = record {
  word = refl;
  moved = moved_none g.D.Disk.tells g.D.Disk.made g.X.SecretStore.made g.D.Disk.faults g.X.SecretStore.faults g.met.D.Disk.made_none g.met.X.SecretStore.made_none c.args.devices.now;
  fit = λ told fit. fit;
}

pub returns-then-not-looks_at-clause-acts : goal.returns-then-not-looks_at-clause-acts
returns-then-not-looks_at-clause-acts g c = λ disk secrets provided fixed beside of reads by provides seen.
    let n = non_zero_u64_get c.args.terms.now.blocks_per_epoch in
    let value = rw c.new.ensures at c.in-Some.ensures.value in
    let out_of : c.looks_at.result ≡ false = grind (arith, common_steps) in
    none_with beside _ _ _ beside.inclusion tt tt (speaks_makes (blocks.delivers fixed c.args.block.now (live_of beside c.args.fence.now c.args.life.now)) (by_stop (Faulted (OutOfWindow c.height-height.result))) _ _ (no_window fixed c.args.block.now beside c.args.fence.now c.args.life.now n of.of.blocks c.height-height.result c.in-Some.bounds
    c.height-height.ensures (lies_at n c.height-height.result c.in-Some.bounds value) (sym c.looks_at.ensures ∙ out_of) c.args.out.now.entries))

pub returns-then-not-looks_at-clause-tells : goal.returns-then-not-looks_at-clause-tells
returns-then-not-looks_at-clause-tells g c = λ provided fixed beside of reads by provides seen.
    let n = non_zero_u64_get c.args.terms.now.blocks_per_epoch in
    let value = rw c.new.ensures at c.in-Some.ensures.value in
    let out_of : c.looks_at.result ≡ false = grind (arith, common_steps) in
    none_with beside _ _ _ beside.inclusion tt tt (speaks_tells (blocks.delivers fixed c.args.block.now (live_of beside c.args.fence.now c.args.life.now)) (by_stop (Faulted (OutOfWindow c.height-height.result))) (no_window fixed c.args.block.now beside c.args.fence.now c.args.life.now n of.of.blocks c.height-height.result c.in-Some.bounds
    c.height-height.ensures (lies_at n c.height-height.result c.in-Some.bounds value) (sym c.looks_at.ensures ∙ out_of) c.args.out.now.entries))

pub returns-then-not-looks_at-clause-moves : goal.returns-then-not-looks_at-clause-moves
returns-then-not-looks_at-clause-moves g c = record {
  word = refl;
  moved = moved_none g.D.Disk.tells g.D.Disk.made g.X.SecretStore.made g.D.Disk.faults g.X.SecretStore.faults g.met.D.Disk.made_none g.met.X.SecretStore.made_none c.args.devices.now;
  fit = λ told fit. fit;
}

pub returns-in_err-judge-clause-acts : goal.returns-in_err-judge-clause-acts
returns-in_err-judge-clause-acts g c = λ disk secrets provided fixed beside of reads by provides seen.
    let p = err_from_is_err_and c.from_residual.result c.from_residual.ensures.1 in
    let n = non_zero_u64_get c.args.terms.now.blocks_per_epoch in
    let value = rw c.new.ensures at c.in-Some.ensures.value in
    let yes : c.looks_at.result ≡ true = grind (arith, common_steps) in
    rw (p.1, p.2) (none_with beside _ _ _ beside.inclusion tt tt (speaks_makes (blocks.delivers fixed c.args.block.now (live_of beside c.args.fence.now c.args.life.now)) (by_stop (Faulted c.in_err-judge.field-0.0)) _ _ (judged_off fixed c.args.block.now beside c.args.fence.now c.args.life.now n of.of.blocks c.height-height.result c.in-Some.bounds
    c.height-height.ensures (lies_at n c.height-height.result c.in-Some.bounds value) (sym c.looks_at.ensures ∙ yes) c.in_err-judge.field-0.0 (sym c.in_err-judge.ensures) c.args.out.now.entries)))

pub returns-in_err-judge-clause-tells : goal.returns-in_err-judge-clause-tells
returns-in_err-judge-clause-tells g c = λ provided fixed beside of reads by provides seen.
    let p = err_from_is_err_and c.from_residual.result c.from_residual.ensures.1 in
    let n = non_zero_u64_get c.args.terms.now.blocks_per_epoch in
    let value = rw c.new.ensures at c.in-Some.ensures.value in
    let yes : c.looks_at.result ≡ true = grind (arith, common_steps) in
    rw (p.1, p.2) (none_with beside _ _ _ beside.inclusion tt tt (speaks_tells (blocks.delivers fixed c.args.block.now (live_of beside c.args.fence.now c.args.life.now)) (by_stop (Faulted c.in_err-judge.field-0.0)) (judged_off fixed c.args.block.now beside c.args.fence.now c.args.life.now n of.of.blocks c.height-height.result c.in-Some.bounds
    c.height-height.ensures (lies_at n c.height-height.result c.in-Some.bounds value) (sym c.looks_at.ensures ∙ yes) c.in_err-judge.field-0.0 (sym c.in_err-judge.ensures) c.args.out.now.entries)))

pub returns-in_err-judge-clause-moves : goal.returns-in_err-judge-clause-moves
returns-in_err-judge-clause-moves g c = record {
  word = refl;
  moved = moved_none g.D.Disk.tells g.D.Disk.made g.X.SecretStore.made g.D.Disk.faults g.X.SecretStore.faults g.met.D.Disk.made_none g.met.X.SecretStore.made_none c.args.devices.now;
  fit = λ told fit. fit;
}

pub returns-in_err-judge-clause-causes : goal.returns-in_err-judge-clause-causes
returns-in_err-judge-clause-causes g c =
    let p = err_from_is_err_and c.from_residual.result c.from_residual.ensures.1 in
    let P : Result Judged Fault → Type 0 = λ r. IfErr r (λ e. IsCaused (Faulted e) ⊥ ⊥ ⊥) in
    rw (p.1, p.2) (caused_around g.D.Disk.tells (λ x. absurd x) (λ x. absurd x) (λ x. absurd x) (Faulted c.in_err-judge.field-0.0)
    (subst P (sym c.in_err-judge.ensures) (refusal_caused c.args.life.now.tip c.args.block.now.height c.args.block.now.digest c.args.block.now.parent)))

pub returns-in-Again-clause-acts : goal.returns-in-Again-clause-acts
returns-in-Again-clause-acts g c = λ disk secrets provided fixed beside of reads by provides seen.
    let n = non_zero_u64_get c.args.terms.now.blocks_per_epoch in
    let value = rw c.new.ensures at c.in-Some.ensures.value in
    let yes : c.looks_at.result ≡ true = grind (arith, common_steps) in
    none_with beside _ _ _ beside.inclusion seen (took_none g.R.Registrar.tells (g.R.Registrar.taken c.args.registrar.now)) (speaks_makes (blocks.delivers fixed c.args.block.now (live_of beside c.args.fence.now c.args.life.now)) (went (live_of beside c.args.fence.now c.args.life.now)) _ _ (taken_again fixed c.args.block.now beside c.args.fence.now c.args.life.now n of.of.blocks c.height-height.result
    c.in-Some.bounds c.height-height.ensures (lies_at n c.height-height.result c.in-Some.bounds value) (sym c.looks_at.ensures ∙ yes)
    (sym c.in_ok-judge.ensures ∙ ap (λ (x : Judged). Ok x) c.in-Again.is) c.args.out.now.entries))

pub returns-in-Again-clause-tells : goal.returns-in-Again-clause-tells
returns-in-Again-clause-tells g c = λ provided fixed beside of reads by provides seen.
    let n = non_zero_u64_get c.args.terms.now.blocks_per_epoch in
    let value = rw c.new.ensures at c.in-Some.ensures.value in
    let yes : c.looks_at.result ≡ true = grind (arith, common_steps) in
    none_with beside _ _ _ beside.inclusion seen (took_none g.R.Registrar.tells (g.R.Registrar.taken c.args.registrar.now)) (speaks_tells (blocks.delivers fixed c.args.block.now (live_of beside c.args.fence.now c.args.life.now)) (went (live_of beside c.args.fence.now c.args.life.now)) (taken_again fixed c.args.block.now beside c.args.fence.now c.args.life.now n of.of.blocks c.height-height.result
    c.in-Some.bounds c.height-height.ensures (lies_at n c.height-height.result c.in-Some.bounds value) (sym c.looks_at.ensures ∙ yes)
    (sym c.in_ok-judge.ensures ∙ ap (λ (x : Judged). Ok x) c.in-Again.is) c.args.out.now.entries))

pub returns-in-Again-clause-moves : goal.returns-in-Again-clause-moves
returns-in-Again-clause-moves g c = record {
  word = refl;
  moved = moved_none g.D.Disk.tells g.D.Disk.made g.X.SecretStore.made g.D.Disk.faults g.X.SecretStore.faults g.met.D.Disk.made_none g.met.X.SecretStore.made_none c.args.devices.now;
  fit = λ told fit. fit;
}

pub returns-in-New-clause-acts : goal.returns-in-New-clause-acts
returns-in-New-clause-acts g c = λ disk secrets provided fixed beside of reads by provides seen.
    let n = non_zero_u64_get c.args.terms.now.blocks_per_epoch in
    let value = rw c.new.ensures at c.in-Some.ensures.value in
    let yes : c.looks_at.result ≡ true = grind (arith, common_steps) in
    let is = taken_new fixed c.args.block.now beside c.args.fence.now c.args.life.now n of.of.blocks c.height-height.result c.in-Some.bounds c.height-height.ensures
    (lies_at n c.height-height.result c.in-Some.bounds value) (sym c.looks_at.ensures ∙ yes) (sym c.in_ok-judge.ensures ∙ ap (λ (x : Judged). Ok x) c.in-New.is) in
    with_as beside beside.inclusion (λ more took. took) (λ now made. makes_as is (ends_in (live_of now c.apply.new.fence c.apply.new.life) c.apply.result) made) (λ i its. its) (c.apply.ensures.acts disk secrets provided fixed beside of reads by provides seen)

pub returns-in-New-clause-tells : goal.returns-in-New-clause-tells
returns-in-New-clause-tells g c = λ provided fixed beside of reads by provides seen.
    let n = non_zero_u64_get c.args.terms.now.blocks_per_epoch in
    let value = rw c.new.ensures at c.in-Some.ensures.value in
    let yes : c.looks_at.result ≡ true = grind (arith, common_steps) in
    let is = taken_new fixed c.args.block.now beside c.args.fence.now c.args.life.now n of.of.blocks c.height-height.result c.in-Some.bounds c.height-height.ensures
    (lies_at n c.height-height.result c.in-Some.bounds value) (sym c.looks_at.ensures ∙ yes) (sym c.in_ok-judge.ensures ∙ ap (λ (x : Judged). Ok x) c.in-New.is) in
    with_as beside beside.inclusion (λ more took. took) (λ now told. tells_as is (ends_in (live_of now c.apply.new.fence c.apply.new.life) c.apply.result) told) (λ i its. its) (c.apply.ensures.tells provided fixed beside of reads by provides seen)

pub apply-requires-clause-me : goal.apply-requires-clause-me
apply-requires-clause-me g c = c.requires.me

pub apply-requires-clause-ready : goal.apply-requires-clause-ready
apply-requires-clause-ready g c = c.requires.ready

pub returns-in-New-clause-ready : goal.returns-in-New-clause-ready
returns-in-New-clause-ready g c = c.apply.ensures.ready

pub returns-in-New-clause-moves : goal.returns-in-New-clause-moves
returns-in-New-clause-moves g c = c.apply.ensures.moves

pub returns-in-New-clause-causes : goal.returns-in-New-clause-causes
returns-in-New-clause-causes g c = c.apply.ensures.causes

pub returns-in-Again-clause-ready : goal.returns-in-Again-clause-ready
returns-in-Again-clause-ready g c = c.requires.ready

pub returns-in_default-clause-causes : goal.returns-in_default-clause-causes
returns-in_default-clause-causes g c = tt

pub returns-then-not-looks_at-clause-causes : goal.returns-then-not-looks_at-clause-causes
returns-then-not-looks_at-clause-causes g c = tt

pub apply-requires-clause-within : goal.apply-requires-clause-within
apply-requires-clause-within g c = c.requires.within

pub apply-requires-clause-including : goal.apply-requires-clause-including
apply-requires-clause-including g c = c.requires.including.ready

pub returns-in-New-clause-including : goal.returns-in-New-clause-including
returns-in-New-clause-including g c = c.apply.ensures.including

pub returns-in-New-clause-provider : goal.returns-in-New-clause-provider
returns-in-New-clause-provider g c = c.apply.ensures.provider

pub returns-in-Again-clause-including : goal.returns-in-Again-clause-including
returns-in-Again-clause-including g c = c.requires.including

pub returns-in-Again-clause-provider : goal.returns-in-Again-clause-provider
returns-in-Again-clause-provider g c = λ provided. (λ epoch. refl, λ epoch peers. refl)

pub returns-in_default-clause-provider : goal.returns-in_default-clause-provider
returns-in_default-clause-provider g c = λ provided. (λ epoch. refl, λ epoch peers. refl)

pub returns-then-not-looks_at-clause-provider : goal.returns-then-not-looks_at-clause-provider
returns-then-not-looks_at-clause-provider g c = λ provided. (λ epoch. refl, λ epoch peers. refl)

pub returns-in_err-judge-clause-provider : goal.returns-in_err-judge-clause-provider
returns-in_err-judge-clause-provider g c = λ provided. (λ epoch. refl, λ epoch peers. refl)
