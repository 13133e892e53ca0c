use Rattle.std.proofs.Common.{◌≡◌, Some, true, false, arith, sym, refl, ◌∙◌}
use Rattle.std.specs.Prelude.{◌==◌, OnOk}
use Rattle.std.proofs.lemmas.Bool.Decides.{nat_tests}
use Rattle.std.proofs.lemmas.Grind.{common_steps}
use Rattle.std.proofs.lemmas.Result.{err_from_is_err_and}
use Rattle.std.specs.Int.NonZero.{non_zero_u64_get}
use Rattle.dkg_store.specs.Acts.{went}
use Rattle.dkg_core.specs.Blocks as blocks
use Rattle.dkg_core.specs.Live.{with_tip}
use Rattle.dkg_life.specs.declared.stop.Stop.TheVariants.{Fault as Faulted}
use Rattle.dkg_life.specs.Ends.{by_stop, ends_in}
use Rattle.dkg_verifying.specs.InclusionOf.{IsSeen}
use Rattle.dkg_life.specs.LiveOf.{live_of}
use Rattle.dkg_life.specs.declared.life.Stage.{Stage}
use Rattle.dkg_life.specs.declared.life.Stage.TheVariants.{Including, Following}
use Rattle.dkg_blocks.proofs.Applying.{at_its_last, before_last, carried_caused, carried_next, follows_anew, not_carried, tipped}
use Rattle.dkg_setup.proofs.OpeningCourses.{makes_as, tells_as}
use Rattle.dkg_life.proofs.Beside.{emptied, emptied_fresh, none_with, then_well, took_none, with_in}
use Rattle.dkg_life.proofs.Burning.{speaks_makes}
use Rattle.dkg_life.proofs.Caused.{caused_around}
use Rattle.dkg_life.proofs.Committing.{in_any}
use Rattle.dkg_verifying.proofs.Included.{anew_settled, apart_settled, seen_anew}
use Rattle.dkg_life.proofs.Kept.{moved_none}
use Rattle.dkg_blocks.proofs.Readying.{ready_following}
use Rattle.dkg_life.proofs.Said.{speaks_tells}
use Rattle.dkg_life.proofs.Speaking.{goes_speaks}
use Rattle.dkg_blocks.proofs.Standing.{behind_last, epoch_below}
use Rattle.dkg_blocks.proofs.following.follow_block.Goals as goal

pub returns-then-ne-clause-acts : goal.returns-then-ne-clause-acts
returns-then-ne-clause-acts g c = λ disk secrets fixed beside of reads by seen.
    let is : (c.args.block.now.height == c.args.bounds.now.last) ≡ false = grind (arith, nat_tests, common_steps) in
    none_with beside _ _ _ beside.inclusion seen (took_none g.R.Registrar.tells (g.R.Registrar.taken c.args.registrar.now)) (speaks_makes (blocks.follows_at fixed c.args.block.now (live_of beside c.args.fence.now c.args.life.now)) (went (live_of beside c.args.fence.now (record c.args.life.now { tip = Some c.tip_of.result }))) _ _ (goes_speaks (blocks.follows_at fixed c.args.block.now (live_of beside c.args.fence.now c.args.life.now)) (live_of beside c.args.fence.now (record c.args.life.now { tip = Some c.tip_of.result })) (with_tip c.args.block.now (live_of beside c.args.fence.now c.args.life.now)) (before_last fixed c.args.block.now (live_of beside c.args.fence.now c.args.life.now) (non_zero_u64_get c.args.terms.now.blocks_per_epoch) of.of.blocks of.of.reshare c.args.bounds.now c.requires.bounds is) (tipped c.args.block.now beside c.args.fence.now c.args.life.now c.tip_of.result c.tip_of.ensures) c.args.out.now.entries))

pub returns-then-ne-clause-tells : goal.returns-then-ne-clause-tells
returns-then-ne-clause-tells g c = λ fixed beside of reads by seen.
    let is : (c.args.block.now.height == c.args.bounds.now.last) ≡ false = grind (arith, nat_tests, common_steps) in
    none_with beside _ _ _ beside.inclusion seen (took_none g.R.Registrar.tells (g.R.Registrar.taken c.args.registrar.now)) (speaks_tells (blocks.follows_at fixed c.args.block.now (live_of beside c.args.fence.now c.args.life.now)) (went (live_of beside c.args.fence.now (record c.args.life.now { tip = Some c.tip_of.result }))) (goes_speaks (blocks.follows_at fixed c.args.block.now (live_of beside c.args.fence.now c.args.life.now)) (live_of beside c.args.fence.now (record c.args.life.now { tip = Some c.tip_of.result })) (with_tip c.args.block.now (live_of beside c.args.fence.now c.args.life.now)) (before_last fixed c.args.block.now (live_of beside c.args.fence.now c.args.life.now) (non_zero_u64_get c.args.terms.now.blocks_per_epoch) of.of.blocks of.of.reshare c.args.bounds.now c.requires.bounds is) (tipped c.args.block.now beside c.args.fence.now c.args.life.now c.tip_of.result c.tip_of.ensures) c.args.out.now.entries))

pub returns-then-ne-clause-ready : goal.returns-then-ne-clause-ready
returns-then-ne-clause-ready g c =
    ready_following g.D.Disk.tells g.D.Disk.files g.D.Disk.image g.C.Ceremony.ack_of g.C.Ceremony.deal_of g.C.Ceremony.check_ack_of c.args.terms.now c.args.devices.now c.args.life.now c.requires.following c.requires.ready 0 c.tip_of.result

pub returns-then-ne-clause-moves : goal.returns-then-ne-clause-moves
returns-then-ne-clause-moves g c = record {
  word = refl;
  moved = moved_none g.D.Disk.tells g.D.Disk.made g.X.SecretStore.made g.D.Disk.faults g.X.SecretStore.faults g.met.D.Disk.made_none g.met.X.SecretStore.made_none c.args.devices.now;
  fit = λ told fit. fit;
}

pub carried_info-requires : goal.carried_info-requires
carried_info-requires g c = record { below = epoch_below (non_zero_u64_get c.args.terms.now.blocks_per_epoch) c.args.block.now.height c.args.bounds.now c.args.terms.now.long c.requires.bounds }

pub returns-in_err-info-clause-acts : goal.returns-in_err-info-clause-acts
returns-in_err-info-clause-acts g c = λ disk secrets fixed beside of reads by seen.
    let p = err_from_is_err_and c.from_residual.result c.from_residual.ensures.1 in
    let is : (c.args.block.now.height == c.args.bounds.now.last) ≡ true = grind (arith, nat_tests, common_steps) in
    rw (p.1, p.2) (none_with beside _ _ _ beside.inclusion tt tt (speaks_makes (blocks.follows_at fixed c.args.block.now (live_of beside c.args.fence.now c.args.life.now)) (by_stop (Faulted c.in_err-info.field-0.0)) _ _ (not_carried fixed c.args.block.now (live_of beside c.args.fence.now c.args.life.now) (non_zero_u64_get c.args.terms.now.blocks_per_epoch) of.of.blocks of.of.reshare c.args.bounds.now c.requires.bounds is c.in_err-info.field-0.0 c.in_err-info.ensures.err c.args.out.now.entries)))

pub returns-in_err-info-clause-tells : goal.returns-in_err-info-clause-tells
returns-in_err-info-clause-tells g c = λ fixed beside of reads by seen.
    let p = err_from_is_err_and c.from_residual.result c.from_residual.ensures.1 in
    let is : (c.args.block.now.height == c.args.bounds.now.last) ≡ true = grind (arith, nat_tests, common_steps) in
    rw (p.1, p.2) (none_with beside _ _ _ beside.inclusion tt tt (speaks_tells (blocks.follows_at fixed c.args.block.now (live_of beside c.args.fence.now c.args.life.now)) (by_stop (Faulted c.in_err-info.field-0.0)) (not_carried fixed c.args.block.now (live_of beside c.args.fence.now c.args.life.now) (non_zero_u64_get c.args.terms.now.blocks_per_epoch) of.of.blocks of.of.reshare c.args.bounds.now c.requires.bounds is c.in_err-info.field-0.0 c.in_err-info.ensures.err c.args.out.now.entries)))

pub returns-in_err-info-clause-moves : goal.returns-in_err-info-clause-moves
returns-in_err-info-clause-moves g c = record {
  word = refl;
  moved = moved_none g.D.Disk.tells g.D.Disk.made g.X.SecretStore.made g.D.Disk.faults g.X.SecretStore.faults g.met.D.Disk.made_none g.met.X.SecretStore.made_none c.args.devices.now;
  fit = λ told fit. fit;
}

pub returns-in_err-info-clause-causes : goal.returns-in_err-info-clause-causes
returns-in_err-info-clause-causes g c =
    let p = err_from_is_err_and c.from_residual.result c.from_residual.ensures.1 in
    rw (p.1, p.2) (caused_around g.D.Disk.tells (λ x. absurd x) (λ x. absurd x) (λ x. absurd x) (Faulted c.in_err-info.field-0.0)
    (carried_caused c.args.block.now c.args.bounds.now.epoch c.in_err-info.field-0.0 c.in_err-info.ensures.err))

pub follow_into-requires-clause-next : goal.follow_into-requires-clause-next
follow_into-requires-clause-next g c =
    let at : c.args.block.now.height ≡ c.args.bounds.now.last = grind (arith, nat_tests, common_steps) in
    carried_next c.args.block.now c.args.bounds.now.epoch c.in_ok-info.info.now c.in_ok-info.ensures.ok ∙ sym (behind_last (non_zero_u64_get c.args.terms.now.blocks_per_epoch) c.args.block.now.height c.args.bounds.now c.args.terms.now.long c.requires.bounds at)

pub returns-clause-acts : goal.returns-clause-acts
returns-clause-acts g c = λ disk secrets fixed beside of reads by seen.
    let is : (c.args.block.now.height == c.args.bounds.now.last) ≡ true = grind (arith, nat_tests, common_steps) in
    with_in beside (emptied beside.inclusion) (λ more took. took) (λ now made. makes_as (at_its_last fixed c.args.block.now (live_of beside c.args.fence.now c.args.life.now) (non_zero_u64_get c.args.terms.now.blocks_per_epoch) of.of.blocks of.of.reshare c.args.bounds.now c.requires.bounds is c.in_ok-info.info.now c.in_ok-info.ensures.ok ∙ follows_anew fixed c.args.block.now c.in_ok-info.info.now beside c.args.fence.now c.args.life.now) (ends_in (live_of now c.follow_into.new.fence c.follow_into.new.life) c.follow_into.result) made) (λ i. OnOk c.follow_into.result (IsSeen c.renew.new.self i)) (in_any c.follow_into.result (seen_anew c.args.inclusion.now beside.inclusion seen c.renew.new.self c.renew.ensures))
    (c.follow_into.ensures.acts disk secrets fixed (record beside { inclusion = emptied beside.inclusion }) (emptied_fresh beside.inclusion) of reads by)

pub returns-clause-tells : goal.returns-clause-tells
returns-clause-tells g c = λ fixed beside of reads by seen.
    let is : (c.args.block.now.height == c.args.bounds.now.last) ≡ true = grind (arith, nat_tests, common_steps) in
    with_in beside (emptied beside.inclusion) (λ more took. took) (λ now told. tells_as (at_its_last fixed c.args.block.now (live_of beside c.args.fence.now c.args.life.now) (non_zero_u64_get c.args.terms.now.blocks_per_epoch) of.of.blocks of.of.reshare c.args.bounds.now c.requires.bounds is c.in_ok-info.info.now c.in_ok-info.ensures.ok ∙ follows_anew fixed c.args.block.now c.in_ok-info.info.now beside c.args.fence.now c.args.life.now) (ends_in (live_of now c.follow_into.new.fence c.follow_into.new.life) c.follow_into.result) told) (λ i. OnOk c.follow_into.result (IsSeen c.renew.new.self i)) (in_any c.follow_into.result (seen_anew c.args.inclusion.now beside.inclusion seen c.renew.new.self c.renew.ensures))
    (c.follow_into.ensures.tells fixed (record beside { inclusion = emptied beside.inclusion }) (emptied_fresh beside.inclusion) of reads by)

pub follow_into-requires-clause-me : goal.follow_into-requires-clause-me
follow_into-requires-clause-me g c = c.requires.me

pub follow_into-requires-clause-ready : goal.follow_into-requires-clause-ready
follow_into-requires-clause-ready g c = c.requires.ready

pub returns-clause-ready : goal.returns-clause-ready
returns-clause-ready g c = c.follow_into.ensures.ready

pub returns-clause-moves : goal.returns-clause-moves
returns-clause-moves g c = c.follow_into.ensures.moves

pub returns-clause-causes : goal.returns-clause-causes
returns-clause-causes g c = c.follow_into.ensures.causes

pub returns-then-ne-clause-including : goal.returns-then-ne-clause-including
returns-then-ne-clause-including g c =
    apart_settled g.C.Ceremony.check_log_of g.C.Ceremony.dealing_of g.C.Ceremony.finish_of (non_zero_u64_get c.args.terms.now.blocks_per_epoch) c.args.life.now (record c.args.life.now { tip = Some c.tip_of.result }) c.args.inclusion.now c.requires.including
    (λ includes. let h : ◌≡◌ {A = Stage} Including Following = sym includes ∙ c.requires.following in cc) refl (λ some. some)

pub returns-clause-including : goal.returns-clause-including
returns-clause-including g c =
    then_well c.follow_into.result (λ some. anew_settled g.C.Ceremony.check_log_of g.C.Ceremony.dealing_of g.C.Ceremony.finish_of (non_zero_u64_get c.args.terms.now.blocks_per_epoch) c.follow_into.new.life c.args.inclusion.now c.renew.new.self c.renew.ensures (λ apart. some)) c.follow_into.ensures.current
