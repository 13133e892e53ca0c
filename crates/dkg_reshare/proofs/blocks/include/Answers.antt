use Rattle.std.proofs.Common.{Option, Some, ap, refl, sym, subst, ◌∙◌}
use Rattle.std.specs.Prelude.{IsSome, option_and_then}
use Rattle.std.specs.Int.NonZero.{non_zero_u32_get, non_zero_u64_get}
use Rattle.std.proofs.lemmas.Result.{err_from_is_err_and}
use Rattle.dkg_types.specs.PayloadCodes.{its_log}
use Rattle.dkg_infos.specs.declared.info.EpochInfo.{EpochInfo}
use Rattle.dkg_core.specs.Blocks as blocks
use Rattle.dkg_core.specs.Sources.{Tip}
use Rattle.dkg_life.specs.declared.life.Life.{Life}
use Rattle.dkg_life.specs.Ends.{ends_in}
use Rattle.dkg_life.specs.LiveOf.{awaited_of, live_of}
use Rattle.dkg_setup.proofs.OpeningCourses.{makes_as, tells_as}
use Rattle.dkg_life.proofs.Beside.{none_with, with_as}
use Rattle.dkg_life.proofs.Blamed.{blamed_behind}
use Rattle.dkg_blocks.proofs.Applied.{behind_log, log_behind, still_served, unserved_seen, unserving_at}
use Rattle.dkg_verifying.proofs.Included.{moved_ready, ready_as}
use Rattle.dkg_life.proofs.Kept.{moved_then}
use Rattle.dkg_blocks.proofs.Readying.{ready_at}
use Rattle.dkg_blocks.proofs.Standing.{placed_included}
use Rattle.dkg_life.proofs.Chained.{early_makes, early_told, then_makes, then_told}
use Rattle.dkg_reshare.proofs.blocks.include.Goals as goal

pub observe-requires : goal.observe-requires
observe-requires g c = record { ready = c.requires.ready }

-- WHAT ITS LOG COMES TO

pub returns-in_err-observe-clause-acts : goal.returns-in_err-observe-clause-acts
returns-in_err-observe-clause-acts g c = λ disk secrets provided fixed round beside fence of reads by provides has seen.
    let p = err_from_is_err_and c.from_residual.result c.from_residual.ensures.1 in
    rw (p.1, p.2) (none_with beside _ _ _ beside.inclusion tt refl (early_makes (blocks.observes fixed round c.args.block.now (live_of beside fence c.args.life.now) (option_and_then its_log c.args.block.now.payload)) (behind_log fixed c.args.block.now) c.in_err-observe.field-0.0
    (c.in_err-observe.ensures.acts disk secrets fixed round beside fence c.args.out.now.entries of.me provides.check_log has)))

pub returns-in_err-observe-clause-tells : goal.returns-in_err-observe-clause-tells
returns-in_err-observe-clause-tells g c = λ provided fixed round beside fence of reads by provides has seen.
    let p = err_from_is_err_and c.from_residual.result c.from_residual.ensures.1 in
    rw (p.1, p.2) (none_with beside _ _ _ beside.inclusion tt refl (early_told (blocks.observes fixed round c.args.block.now (live_of beside fence c.args.life.now) (option_and_then its_log c.args.block.now.payload)) (behind_log fixed c.args.block.now) c.in_err-observe.field-0.0
    (c.in_err-observe.ensures.tells fixed round beside fence c.args.out.now.entries of.me provides.check_log has)))

pub returns-in_err-observe-clause-causes : goal.returns-in_err-observe-clause-causes
returns-in_err-observe-clause-causes g c =
    let p = err_from_is_err_and c.from_residual.result c.from_residual.ensures.1 in
    rw (p.1, p.2) c.in_err-observe.ensures.causes

pub returns-in_err-observe-clause-moves : goal.returns-in_err-observe-clause-moves
returns-in_err-observe-clause-moves g c = record {
  word = ap (λ (l : Life g.row.Dir.Denot). l.word) c.observe.ensures.rest;
  moved = c.observe.ensures.moved;
  fit = λ told fit. c.observe.ensures.fit told (non_zero_u32_get c.args.terms.now.limit) c.requires.within fit;
}

pub returns-in_err-observe-clause-provider : goal.returns-in_err-observe-clause-provider
returns-in_err-observe-clause-provider g c = λ provided. (λ epoch. refl, λ epoch peers. refl)

-- WHAT WAITS IS READ

pub advance-requires-clause-ready : goal.advance-requires-clause-ready
advance-requires-clause-ready g c =
    let old = c.observe.new.life in
    ready_at g.D.Disk.tells g.D.Disk.files g.D.Disk.image g.C.Ceremony.ack_of g.C.Ceremony.deal_of g.C.Ceremony.check_ack_of c.args.terms.now c.observe.new.devices old c.in_ok-observe.ensures.ready c.tip_of.result
    (placed_included (non_zero_u64_get c.args.terms.now.blocks_per_epoch) old c.in_ok-observe.ensures.ready.placed (ap (λ (l : Life g.row.Dir.Denot). l.stage) c.observe.ensures.rest ∙ c.requires.includes) c.args.block.now.height
    (c.requires.next ∙ sym (ap (λ (l : Life g.row.Dir.Denot). awaited_of l) c.observe.ensures.rest)) (c.requires.inside ∙ sym (ap (λ (l : Life g.row.Dir.Denot). l.epoch) c.observe.ensures.rest))
    c.tip_of.result (ap (λ (t : Tip). t.height) c.tip_of.ensures))

pub advance-requires-clause-including : goal.advance-requires-clause-including
advance-requires-clause-including g c =
    let new = record c.observe.new.life { tip = Some c.tip_of.result } in
    ready_as g.C.Ceremony.check_log_of g.C.Ceremony.dealing_of g.C.Ceremony.finish_of (non_zero_u64_get c.args.terms.now.blocks_per_epoch) new (record c.args.inclusion.now { served = still_served c.height.result c.args.inclusion.now.served }) c.unserve.new.inclusion c.unserve.ensures
    (moved_ready g.C.Ceremony.check_log_of g.C.Ceremony.dealing_of g.C.Ceremony.finish_of (non_zero_u64_get c.args.terms.now.blocks_per_epoch) c.args.life.now new c.args.inclusion.now c.requires.including c.requires.includes c.requires.idle (still_served c.height.result c.args.inclusion.now.served)
    (ap (λ (l : Life g.row.Dir.Denot). l.stage) c.observe.ensures.rest) (ap (λ (l : Life g.row.Dir.Denot). l.round) c.observe.ensures.rest)
    (λ some. subst (λ (o : Option (EpochInfo g.row.Dir.Denot)). IsSome o) (sym (ap (λ (l : Life g.row.Dir.Denot). l.store.current) c.observe.ensures.rest)) some))

pub returns-clause-acts : goal.returns-clause-acts
returns-clause-acts g c = λ disk secrets provided fixed round beside fence of reads by provides has seen.
    with_as beside (unserving_at c.args.block.now.height beside).inclusion (λ more none. none)
    (λ now made. then_makes (blocks.observes fixed round c.args.block.now (live_of beside fence c.args.life.now) (option_and_then its_log c.args.block.now.payload)) (behind_log fixed c.args.block.now) (live_of beside fence c.observe.new.life) (ends_in (live_of now fence c.advance.new.life) c.advance.result)
    (c.in_ok-observe.ensures.acts disk secrets fixed round beside fence c.args.out.now.entries of.me provides.check_log has)
    (makes_as (log_behind fixed c.args.block.now beside fence c.observe.new.life c.tip_of.result c.tip_of.ensures) _ made))
    (λ its is. is)
    (c.advance.ensures.acts disk secrets provided fixed (unserving_at c.args.block.now.height beside) fence of reads by provides
    (unserved_seen c.args.inclusion.now c.unserve.new.inclusion beside.inclusion c.height.result c.args.block.now.height c.height.ensures c.unserve.ensures seen))

pub returns-clause-tells : goal.returns-clause-tells
returns-clause-tells g c = λ provided fixed round beside fence of reads by provides has seen.
    with_as beside (unserving_at c.args.block.now.height beside).inclusion (λ more none. none)
    (λ now told. then_told (blocks.observes fixed round c.args.block.now (live_of beside fence c.args.life.now) (option_and_then its_log c.args.block.now.payload)) (behind_log fixed c.args.block.now) (live_of beside fence c.observe.new.life) (ends_in (live_of now fence c.advance.new.life) c.advance.result)
    (c.in_ok-observe.ensures.tells fixed round beside fence c.args.out.now.entries of.me provides.check_log has)
    (tells_as (log_behind fixed c.args.block.now beside fence c.observe.new.life c.tip_of.result c.tip_of.ensures) _ told))
    (λ its is. is)
    (c.advance.ensures.tells provided fixed (unserving_at c.args.block.now.height beside) fence of reads by provides
    (unserved_seen c.args.inclusion.now c.unserve.new.inclusion beside.inclusion c.height.result c.args.block.now.height c.height.ensures c.unserve.ensures seen))

pub returns-clause-ready : goal.returns-clause-ready
returns-clause-ready g c = c.advance.ensures.ready

pub returns-clause-including : goal.returns-clause-including
returns-clause-including g c = c.advance.ensures.including

pub returns-clause-moves : goal.returns-clause-moves
returns-clause-moves g c = record {
  word = ap (λ (l : Life g.row.Dir.Denot). l.word) c.advance.ensures.stays.same ∙ ap (λ (l : Life g.row.Dir.Denot). l.word) c.observe.ensures.rest;
  moved = moved_then g.D.Disk.tells g.D.Disk.made g.X.SecretStore.made g.D.Disk.faults g.X.SecretStore.faults g.met.D.Disk.made_more g.met.X.SecretStore.made_more _ _ _ c.observe.ensures.moved c.advance.ensures.moved;
  fit = λ told fit. rw c.advance.ensures.stays.disk (c.observe.ensures.fit told (non_zero_u32_get c.args.terms.now.limit) c.requires.within fit);
}

pub returns-clause-provider : goal.returns-clause-provider
returns-clause-provider g c = c.advance.ensures.stays.provider

pub returns-clause-causes : goal.returns-clause-causes
returns-clause-causes g c = blamed_behind g.D.Disk.tells g.D.Disk.made g.X.SecretStore.made g.D.Disk.faults g.X.SecretStore.faults _ _ _ c.observe.ensures.moved c.advance.ensures.moved c.advance.result c.advance.ensures.causes
