use Rattle.std.proofs.Common.{◌≡◌, ℕ, true, false, ap, refl, sym, ◌∙◌, arith}
use Rattle.std.specs.Prelude.{◌==◌}
use Rattle.std.proofs.lemmas.Bool.Decides.{nat_tests}
use Rattle.std.proofs.lemmas.Grind.{common_steps}
use Rattle.std.proofs.lemmas.Result.{err_from_is_err_and}
use Rattle.std.specs.Int.NonZero.{non_zero_u64_get}
use Rattle.dkg_ceremony.specs.Schedule.{epoch_of, last}
use Rattle.dkg_ceremony.specs.declared.epocher.Bounds.{Bounds}
use Rattle.dkg_store.specs.Acts.{by_want}
use Rattle.dkg_store.specs.declared.call.StoreError.TheVariants.{NoMemory as Wanting}
use Rattle.dkg_life.specs.declared.life.Stage.{Stage}
use Rattle.dkg_life.specs.declared.life.Stage.TheVariants.{Including, Following}
use Rattle.dkg_life.specs.LiveOf.{live_of}
use Rattle.dkg_setup.proofs.OpeningCourses.{makes_as, tells_as}
use Rattle.dkg_life.proofs.Beside.{none_with, took_nothing, with_as}
use Rattle.dkg_blocks.proofs.Blaming.{result_caused}
use Rattle.dkg_life.proofs.Burning.{makes_none}
use Rattle.dkg_blocks.proofs.Applied.{is_final, its_round, not_final}
use Rattle.dkg_verifying.proofs.Included.{back_idle, back_ready, seen_back}
use Rattle.dkg_life.proofs.Kept.{moved_none}
use Rattle.dkg_life.proofs.Said.{said_none}
use Rattle.dkg_life.proofs.Seated.{on_ok}
use Rattle.dkg_blocks.proofs.Standing.{next_inside}
use Rattle.dkg_reshare.proofs.blocks.apply_included.Goals as goal

pub returns-in_err-put_back-clause-acts : goal.returns-in_err-put_back-clause-acts
returns-in_err-put_back-clause-acts g c = λ disk secrets provided fixed beside of reads by provides seen.
    let p = err_from_is_err_and c.from_residual.result c.from_residual.ensures.1 in
    rw (p.1, p.2) (none_with beside _ _ _ beside.inclusion tt tt (makes_none _ _ _ _ by_want tt refl))

pub returns-in_err-put_back-clause-tells : goal.returns-in_err-put_back-clause-tells
returns-in_err-put_back-clause-tells g c = λ provided fixed beside of reads by provides seen.
    let p = err_from_is_err_and c.from_residual.result c.from_residual.ensures.1 in
    rw (p.1, p.2) (none_with beside _ _ _ beside.inclusion tt tt (said_none _ Wanting tt refl))

pub returns-in_err-put_back-clause-moves : goal.returns-in_err-put_back-clause-moves
returns-in_err-put_back-clause-moves g c = record {
  word = refl;
  moved = moved_none g.D.Disk.tells g.D.Disk.made g.X.SecretStore.made g.D.Disk.faults g.X.SecretStore.faults g.met.D.Disk.made_none g.met.X.SecretStore.made_none c.args.devices.now;
  fit = λ told fit. fit;
}

pub returns-in_err-put_back-clause-provider : goal.returns-in_err-put_back-clause-provider
returns-in_err-put_back-clause-provider g c = λ provided. (λ epoch. refl, λ epoch peers. refl)

pub returns-then-eq-clause-acts : goal.returns-then-eq-clause-acts
returns-then-eq-clause-acts g c = λ disk secrets provided fixed beside of reads by provides seen.
    let is : (c.args.block.now.height == c.args.bounds.now.last) ≡ true = grind (arith, nat_tests, common_steps) in
    let has = its_round c.args.life.now.round (c.requires.ready.placed.joins (λ follows. let h : ◌≡◌ {A = Stage} Including Following = sym c.requires.includes ∙ follows in cc)) in
    with_as beside beside.inclusion (λ more took. took) (λ now made. makes_as (is_final fixed c.args.block.now (non_zero_u64_get c.args.terms.now.blocks_per_epoch) of.of.blocks of.of.reshare c.args.bounds.now c.requires.bounds (live_of beside c.args.fence.now c.args.life.now) has.0 has.1 is) _ made) (λ i its. its)
    (c.take_final_block.ensures.acts disk secrets provided fixed has.0 beside of reads by provides has.1 (seen_back c.args.inclusion.now beside.inclusion seen c.put_back.new.self c.in_ok-put_back.ensures.ok))

pub returns-then-eq-clause-tells : goal.returns-then-eq-clause-tells
returns-then-eq-clause-tells g c = λ provided fixed beside of reads by provides seen.
    let is : (c.args.block.now.height == c.args.bounds.now.last) ≡ true = grind (arith, nat_tests, common_steps) in
    let has = its_round c.args.life.now.round (c.requires.ready.placed.joins (λ follows. let h : ◌≡◌ {A = Stage} Including Following = sym c.requires.includes ∙ follows in cc)) in
    with_as beside beside.inclusion (λ more took. took) (λ now told. tells_as (is_final fixed c.args.block.now (non_zero_u64_get c.args.terms.now.blocks_per_epoch) of.of.blocks of.of.reshare c.args.bounds.now c.requires.bounds (live_of beside c.args.fence.now c.args.life.now) has.0 has.1 is) _ told) (λ i its. its)
    (c.take_final_block.ensures.tells provided fixed has.0 beside of reads by provides has.1 (seen_back c.args.inclusion.now beside.inclusion seen c.put_back.new.self c.in_ok-put_back.ensures.ok))

pub returns-then-eq-clause-ready : goal.returns-then-eq-clause-ready
returns-then-eq-clause-ready g c = c.take_final_block.ensures.ready

pub returns-then-eq-clause-including : goal.returns-then-eq-clause-including
returns-then-eq-clause-including g c = c.take_final_block.ensures.including

pub returns-then-eq-clause-moves : goal.returns-then-eq-clause-moves
returns-then-eq-clause-moves g c = c.take_final_block.ensures.moves

pub returns-then-eq-clause-provider : goal.returns-then-eq-clause-provider
returns-then-eq-clause-provider g c = c.take_final_block.ensures.provider

pub returns-then-eq-clause-causes : goal.returns-then-eq-clause-causes
returns-then-eq-clause-causes g c = c.take_final_block.ensures.causes

pub take_final_block-requires-clause-me : goal.take_final_block-requires-clause-me
take_final_block-requires-clause-me g c = c.requires.me

pub take_final_block-requires-clause-ready : goal.take_final_block-requires-clause-ready
take_final_block-requires-clause-ready g c = c.requires.ready

pub take_final_block-requires-clause-including : goal.take_final_block-requires-clause-including
take_final_block-requires-clause-including g c = back_ready g.C.Ceremony.check_log_of g.C.Ceremony.dealing_of g.C.Ceremony.finish_of (non_zero_u64_get c.args.terms.now.blocks_per_epoch) c.args.life.now c.args.inclusion.now c.requires.including c.put_back.new.self c.in_ok-put_back.ensures.ok

pub take_final_block-requires-clause-last : goal.take_final_block-requires-clause-last
take_final_block-requires-clause-last g c = record { includes = c.requires.includes; are = c.requires.bounds; last = grind (arith, nat_tests, common_steps) }

pub take_final_block-requires-clause-idle : goal.take_final_block-requires-clause-idle
take_final_block-requires-clause-idle g c = back_idle c.args.inclusion.now c.put_back.new.self c.in_ok-put_back.ensures.ok

pub include-requires-clause-ready : goal.include-requires-clause-ready
include-requires-clause-ready g c = c.requires.ready

pub include-requires-clause-including : goal.include-requires-clause-including
include-requires-clause-including g c = back_ready g.C.Ceremony.check_log_of g.C.Ceremony.dealing_of g.C.Ceremony.finish_of (non_zero_u64_get c.args.terms.now.blocks_per_epoch) c.args.life.now c.args.inclusion.now c.requires.including c.put_back.new.self c.in_ok-put_back.ensures.ok

pub include-requires-clause-includes : goal.include-requires-clause-includes
include-requires-clause-includes g c = c.requires.includes

pub include-requires-clause-next : goal.include-requires-clause-next
include-requires-clause-next g c = c.requires.next

pub include-requires-clause-within : goal.include-requires-clause-within
include-requires-clause-within g c = c.requires.within

pub include-requires-clause-idle : goal.include-requires-clause-idle
include-requires-clause-idle g c = back_idle c.args.inclusion.now c.put_back.new.self c.in_ok-put_back.ensures.ok

pub include-requires-clause-inside : goal.include-requires-clause-inside
include-requires-clause-inside g c =
    let apart : c.args.block.now.height ≡ c.args.bounds.now.last → ⊥ = λ same. let is : (c.args.block.now.height == c.args.bounds.now.last) ≡ false = grind (arith, nat_tests, common_steps) in grind (arith, nat_tests, is, same) in
    let at : epoch_of (non_zero_u64_get c.args.terms.now.blocks_per_epoch) c.args.block.now.height ≡ c.args.life.now.epoch =
    ap (λ (h : ℕ). epoch_of (non_zero_u64_get c.args.terms.now.blocks_per_epoch) h) c.requires.next ∙ sym (c.requires.ready.placed.epoch_is (λ follows. let h : ◌≡◌ {A = Stage} Including Following = sym c.requires.includes ∙ follows in cc)) in
    next_inside (non_zero_u64_get c.args.terms.now.blocks_per_epoch) c.args.life.now.epoch c.args.block.now.height c.args.terms.now.long at
    (λ same. apart (same ∙ ap (λ (e : ℕ). last (non_zero_u64_get c.args.terms.now.blocks_per_epoch) e) (sym at) ∙ sym (ap (λ (b : Bounds). b.last) c.requires.bounds.are)))

pub returns-clause-acts : goal.returns-clause-acts
returns-clause-acts g c = λ disk secrets provided fixed beside of reads by provides seen.
    let is : (c.args.block.now.height == c.args.bounds.now.last) ≡ false = grind (arith, nat_tests, common_steps) in
    let has = its_round c.args.life.now.round (c.requires.ready.placed.joins (λ follows. let h : ◌≡◌ {A = Stage} Including Following = sym c.requires.includes ∙ follows in cc)) in
    with_as beside beside.inclusion (λ more none. on_ok c.include.result (took_nothing g.R.Registrar.tells (g.R.Registrar.taken c.args.registrar.now) more none)) (λ now made. makes_as (not_final fixed c.args.block.now (non_zero_u64_get c.args.terms.now.blocks_per_epoch) of.of.blocks of.of.reshare c.args.bounds.now c.requires.bounds (live_of beside c.args.fence.now c.args.life.now) has.0 has.1 is) _ made) (λ i its. its)
    (c.include.ensures.acts disk secrets provided fixed has.0 beside c.args.fence.now of.of reads by provides has.1 (seen_back c.args.inclusion.now beside.inclusion seen c.put_back.new.self c.in_ok-put_back.ensures.ok))

pub returns-clause-tells : goal.returns-clause-tells
returns-clause-tells g c = λ provided fixed beside of reads by provides seen.
    let is : (c.args.block.now.height == c.args.bounds.now.last) ≡ false = grind (arith, nat_tests, common_steps) in
    let has = its_round c.args.life.now.round (c.requires.ready.placed.joins (λ follows. let h : ◌≡◌ {A = Stage} Including Following = sym c.requires.includes ∙ follows in cc)) in
    with_as beside beside.inclusion (λ more none. on_ok c.include.result (took_nothing g.R.Registrar.tells (g.R.Registrar.taken c.args.registrar.now) more none)) (λ now told. tells_as (not_final fixed c.args.block.now (non_zero_u64_get c.args.terms.now.blocks_per_epoch) of.of.blocks of.of.reshare c.args.bounds.now c.requires.bounds (live_of beside c.args.fence.now c.args.life.now) has.0 has.1 is) _ told) (λ i its. its)
    (c.include.ensures.tells provided fixed has.0 beside c.args.fence.now of.of reads by provides has.1 (seen_back c.args.inclusion.now beside.inclusion seen c.put_back.new.self c.in_ok-put_back.ensures.ok))

pub returns-clause-causes : goal.returns-clause-causes
returns-clause-causes g c = result_caused g.D.Disk.tells (λ x. x) (λ x. x) (λ x. x) c.include.result c.include.ensures.causes

pub returns-clause-ready : goal.returns-clause-ready
returns-clause-ready g c = c.include.ensures.ready

pub returns-clause-including : goal.returns-clause-including
returns-clause-including g c = c.include.ensures.including

pub returns-clause-moves : goal.returns-clause-moves
returns-clause-moves g c = c.include.ensures.moves

pub returns-clause-provider : goal.returns-clause-provider
returns-clause-provider g c = c.include.ensures.provider
