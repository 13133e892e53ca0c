use Rattle.dkg_infos.specs.declared.info.EpochInfo.{EpochInfo}
use Rattle.std.specs.Prelude.{IsSome}
use Rattle.std.proofs.Common.{None, ap, refl, sym, ◌∙◌, Option, subst}
use Rattle.std.specs.Int.NonZero.{non_zero_u32_get, non_zero_u64_get}
use Rattle.std.proofs.lemmas.Result.{err_from_is_err_and}
use Rattle.dkg_infos.specs.declared.fault.Fault.TheVariants.{HeightRange}
use Rattle.dkg_core.specs.Setup as setup
use Rattle.dkg_life.specs.declared.life.Life.{Life}
use Rattle.dkg_life.specs.declared.stop.Stop.TheVariants.{Fault as Faulted}
use Rattle.dkg_life.specs.Ends.{by_stop, ends_in}
use Rattle.dkg_life.specs.LiveOf.{live_of}
use Rattle.dkg_setup.proofs.OpeningCourses.{makes_as, tells_as}
use Rattle.dkg_life.proofs.Beside.{beside_as, none_beside}
use Rattle.dkg_life.proofs.Burning.{speaks_makes}
use Rattle.dkg_life.proofs.Kept.{moved_none}
use Rattle.dkg_setup.proofs.Placing.{by_committed, past_range, set_up_ready, stands_there, then_ok}
use Rattle.dkg_life.proofs.Said.{nothing_held, speaks_tells}
use Rattle.dkg_life.proofs.Speaking.{stops_speaks}
use Rattle.dkg_setup.proofs.setup.set_up_committed.Goals as goal

pub returns-in_err-bounds-clause-acts : goal.returns-in_err-bounds-clause-acts
returns-in_err-bounds-clause-acts g c = λ disk secrets fixed beside fresh lent reads ruled.
    let p = err_from_is_err_and c.from_residual.result c.from_residual.ensures.1 in
    rw (p.1, p.2) (rw c.in_err-bounds.ensures.err.0 (none_beside beside _ _ tt (speaks_makes (setup.setup fixed None (live_of beside c.args.fence.now c.args.life.now)) (by_stop (Faulted HeightRange)) _ _ (stops_speaks (setup.setup fixed None (live_of beside c.args.fence.now c.args.life.now)) HeightRange (past_range fixed (non_zero_u64_get c.args.terms.now.blocks_per_epoch) lent.of.blocks beside fresh c.args.fence.now c.args.life.now c.in_err-bounds.ensures.err.1) refl c.args.out.now.entries))))

pub returns-in_err-bounds-clause-tells : goal.returns-in_err-bounds-clause-tells
returns-in_err-bounds-clause-tells g c = (
  nothing_held,
  λ fixed beside fresh lent can ruled.
      let p = err_from_is_err_and c.from_residual.result c.from_residual.ensures.1 in
      rw (p.1, p.2) (rw c.in_err-bounds.ensures.err.0 (none_beside beside _ _ tt (speaks_tells (setup.setup fixed None (live_of beside c.args.fence.now c.args.life.now)) (by_stop (Faulted HeightRange)) (stops_speaks (setup.setup fixed None (live_of beside c.args.fence.now c.args.life.now)) HeightRange (past_range fixed (non_zero_u64_get c.args.terms.now.blocks_per_epoch) lent.of.blocks beside fresh c.args.fence.now c.args.life.now c.in_err-bounds.ensures.err.1) refl c.args.out.now.entries)))),
)

pub returns-in_err-bounds-clause-moved : goal.returns-in_err-bounds-clause-moved
returns-in_err-bounds-clause-moved g c = moved_none g.D.Disk.tells g.D.Disk.made g.X.SecretStore.made g.D.Disk.faults g.X.SecretStore.faults g.met.D.Disk.made_none g.met.X.SecretStore.made_none c.args.devices.now

pub returns-clause-acts : goal.returns-clause-acts
returns-clause-acts g c = λ disk secrets fixed beside fresh lent reads ruled.
    beside_as (λ more took. took) (λ now made. makes_as (by_committed fixed (non_zero_u64_get c.args.terms.now.blocks_per_epoch) lent.of.blocks beside fresh c.args.fence.now c.args.life.now c.in_ok-bounds.bounds c.in_ok-bounds.ensures.lies c.begin_awaited.new.life c.in_ok-bounds.ensures.begun c.args.info.now c.requires.current c.requires.awaited) (ends_in (live_of now c.set_up_by.new.fence c.set_up_by.new.life) c.set_up_by.result) made) (c.set_up_by.ensures.acts disk secrets fixed beside fresh (record { of = lent.of; word_is = lent.word_is ∙ ap (λ (l : Life g.row.Dir.Denot). l.word) (sym c.in_ok-bounds.ensures.begun) }) reads ruled (stands_there fixed (non_zero_u64_get c.args.terms.now.blocks_per_epoch) lent.of.blocks beside fresh c.args.fence.now c.args.life.now c.in_ok-bounds.bounds c.in_ok-bounds.ensures.lies c.begin_awaited.new.life c.in_ok-bounds.ensures.begun))

pub returns-clause-tells : goal.returns-clause-tells
returns-clause-tells g c = (
  c.set_up_by.ensures.tells.0,
  λ fixed beside fresh lent can ruled.
      beside_as (λ more took. took) (λ now said. tells_as (by_committed fixed (non_zero_u64_get c.args.terms.now.blocks_per_epoch) lent.of.blocks beside fresh c.args.fence.now c.args.life.now c.in_ok-bounds.bounds c.in_ok-bounds.ensures.lies c.begin_awaited.new.life c.in_ok-bounds.ensures.begun c.args.info.now c.requires.current c.requires.awaited) (ends_in (live_of now c.set_up_by.new.fence c.set_up_by.new.life) c.set_up_by.result) said) (c.set_up_by.ensures.tells.1 fixed beside fresh (record { of = lent.of; word_is = lent.word_is ∙ ap (λ (l : Life g.row.Dir.Denot). l.word) (sym c.in_ok-bounds.ensures.begun) }) can ruled (stands_there fixed (non_zero_u64_get c.args.terms.now.blocks_per_epoch) lent.of.blocks beside fresh c.args.fence.now c.args.life.now c.in_ok-bounds.bounds c.in_ok-bounds.ensures.lies c.begin_awaited.new.life c.in_ok-bounds.ensures.begun)),
)

pub returns-clause-ready : goal.returns-clause-ready
returns-clause-ready g c = then_ok c.set_up_by.result (set_up_ready g.D.Disk.tells g.D.Disk.files g.D.Disk.image g.C.Ceremony.ack_of g.C.Ceremony.deal_of g.C.Ceremony.check_ack_of c.args.terms.now c.args.life.now c.begin_awaited.new.life c.in_ok-bounds.bounds c.in_ok-bounds.ensures.lies c.in_ok-bounds.ensures.begun c.set_up_by.new.life c.set_up_by.ensures.rest c.set_up_by.new.devices) c.set_up_by.ensures.done

pub returns-clause-word : goal.returns-clause-word
returns-clause-word g c = ap (λ (l : Life g.row.Dir.Denot). l.word) c.set_up_by.ensures.rest ∙ ap (λ (l : Life g.row.Dir.Denot). l.word) c.in_ok-bounds.ensures.begun

pub returns-clause-fit : goal.returns-clause-fit
returns-clause-fit g c = λ told. (c.set_up_by.ensures.above told).fit (non_zero_u32_get c.args.terms.now.limit)

pub set_up_by-requires-clause-known : goal.set_up_by-requires-clause-known
set_up_by-requires-clause-known g c = λ was. subst (λ (o : Option (EpochInfo g.row.Dir.Denot)). IsSome o) (sym (ap (λ (l : Life g.row.Dir.Denot). l.store.current) c.in_ok-bounds.ensures.begun ∙ c.requires.current)) refl

pub returns-clause-current : goal.returns-clause-current
returns-clause-current g c = c.set_up_by.ensures.current
