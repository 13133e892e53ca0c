use Rattle.dkg_life.proofs.Committing.{in_any}
use Rattle.dkg_setup.specs.declared.setup.Standing.TheVariants.{Uncommitted, WasCommitted}
use Rattle.dkg_setup.specs.declared.setup.Standing.{Standing}
use Rattle.std.proofs.Common.{◌-◌, ℕ, None, ap, refl, subst, sym, ◌∙◌, ◌≡◌}
use Rattle.std.specs.Prelude.{IsTrue}
use Rattle.std.specs.Option.{option_copied}
use Rattle.std.specs.Int.NonZero.{non_zero_u64_get}
use Rattle.std.proofs.lemmas.Result.{err_from_is_err_and}
use Rattle.dkg_infos.specs.declared.fault.Fault.TheVariants.{HeightRange, MissingEpochInfo}
use Rattle.dkg_store.specs.Acts.{Stands, held_in}
use Rattle.dkg_store.specs.declared.store.Store.{Store}
use Rattle.dkg_core.specs.Agreeing.{AreAgreed}
use Rattle.dkg_core.specs.Courses.{Stops}
use Rattle.dkg_core.specs.Setup as setup
use Rattle.dkg_life.specs.declared.life.Life.{Life}
use Rattle.dkg_life.specs.declared.stop.Stop.TheVariants.{Fault as Faulted}
use Rattle.dkg_life.specs.Ends.{by_stop, ends, ends_in}
use Rattle.dkg_life.specs.LiveOf.{Beside, live_of, nothing_beside, records_of}
use Rattle.dkg_life.specs.Made.{UnlessBroken}
use Rattle.dkg_life.specs.Moved.{StaysAbove, StaysFrom}
use Rattle.dkg_setup.proofs.OpeningCourses.{makes_as, tells_as}
use Rattle.dkg_life.proofs.Beside.{beside_as, none_beside, nothing_fresh, took_none, then_well}
use Rattle.dkg_life.proofs.Burning.{speaks_makes, unless}
use Rattle.dkg_life.proofs.Caused.{of_result}
use Rattle.dkg_life.proofs.Kept.{above_itself, moved_none}
use Rattle.dkg_setup.proofs.Openings.{setup_agrees}
use Rattle.dkg_setup.proofs.Placing.{any_fixed, any_lent, any_reads, any_ruled, any_ruled_by, any_rules, bare_block, by_block, epoch_there, first_is, followed, following_ready, ok_given, past_range, set_up_ready, stands_there, then_ok}
use Rattle.dkg_life.proofs.Said.{nothing_held, speaks_tells}
use Rattle.dkg_life.proofs.Seated.{on_ok}
use Rattle.dkg_life.proofs.Speaking.{stops_speaks}
use Rattle.dkg_setup.proofs.setup.set_up.Goals as goal

pub returns-in_err-bounds-clause-acts : goal.returns-in_err-bounds-clause-acts
returns-in_err-bounds-clause-acts g c = λ disk secrets fixed beside fresh lent reads ruled.
    let p = err_from_is_err_and c.from_residual.result c.from_residual.ensures.1 in
    rw (p.1, p.2) (rw c.in_err-bounds.ensures.err.0 (none_beside beside _ _ tt (speaks_makes (setup.setup fixed None (live_of beside c.args.fence.now c.args.life.now)) (by_stop (Faulted HeightRange)) _ _ (stops_speaks (setup.setup fixed None (live_of beside c.args.fence.now c.args.life.now)) HeightRange (past_range fixed (non_zero_u64_get c.args.terms.now.blocks_per_epoch) lent.of.blocks beside fresh c.args.fence.now c.args.life.now c.in_err-bounds.ensures.err.1) refl c.args.out.now.entries))))

pub returns-in_err-bounds-clause-tells : goal.returns-in_err-bounds-clause-tells
returns-in_err-bounds-clause-tells g c = (
  nothing_held,
  λ fixed beside fresh lent can ruled.
      let p = err_from_is_err_and c.from_residual.result c.from_residual.ensures.1 in
      rw (p.1, p.2) (rw c.in_err-bounds.ensures.err.0 (none_beside beside _ _ tt (speaks_tells (setup.setup fixed None (live_of beside c.args.fence.now c.args.life.now)) (by_stop (Faulted HeightRange)) (stops_speaks (setup.setup fixed None (live_of beside c.args.fence.now c.args.life.now)) HeightRange (past_range fixed (non_zero_u64_get c.args.terms.now.blocks_per_epoch) lent.of.blocks beside fresh c.args.fence.now c.args.life.now c.in_err-bounds.ensures.err.1) refl c.args.out.now.entries)))),
)

pub returns-in_err-bounds-clause-moved : goal.returns-in_err-bounds-clause-moved
returns-in_err-bounds-clause-moved g c = moved_none g.D.Disk.tells g.D.Disk.made g.X.SecretStore.made g.D.Disk.faults g.X.SecretStore.faults g.met.D.Disk.made_none g.met.X.SecretStore.made_none c.args.devices.now

pub returns-in_err-bounds-clause-above : goal.returns-in_err-bounds-clause-above
returns-in_err-bounds-clause-above g c = λ told. above_itself _ _ _

pub returns-in_err-bounds-clause-gives : goal.returns-in_err-bounds-clause-gives
returns-in_err-bounds-clause-gives g c =
    let p = err_from_is_err_and c.from_residual.result c.from_residual.ensures.1 in
    rw (p.1, p.2) (unless (by_stop c.in_err-bounds.field-0.0) _ (λ disk secrets pairs gives. gives))

pub returns-in_default-clause-acts : goal.returns-in_default-clause-acts
returns-in_default-clause-acts g c = λ disk secrets fixed beside fresh lent reads ruled.
    none_beside beside _ _ (on_ok c.follow.result (took_none g.R.Registrar.tells (g.R.Registrar.taken c.args.registrar.now))) (makes_as (followed fixed (non_zero_u64_get c.args.terms.now.blocks_per_epoch) lent.of.blocks beside fresh c.args.fence.now c.args.life.now c.in_ok-bounds.bounds c.in_ok-bounds.ensures.lies c.begin_awaited.new.life c.in_ok-bounds.ensures.begun c.requires.uncommitted (g.B.BlockSource.answers c.args.source.now) lent.lent c.boundary_of.result (c.boundary_of.ensures (non_zero_u64_get c.args.terms.now.blocks_per_epoch) (first_is (non_zero_u64_get c.args.terms.now.blocks_per_epoch) _ c.in_ok-bounds.bounds c.in_ok-bounds.ensures.lies)) (option_copied c.block.result) c.block.ensures (ap option_copied c.in_default.is)) (ends_in (live_of beside c.args.fence.now c.begin_awaited.new.life) c.follow.result) (speaks_makes (setup.follows fixed (live_of beside c.args.fence.now c.begin_awaited.new.life)) (ends_in (live_of beside c.args.fence.now c.begin_awaited.new.life) c.follow.result) _ _ (c.follow.ensures.speaks fixed beside c.args.fence.now (stands_there fixed (non_zero_u64_get c.args.terms.now.blocks_per_epoch) lent.of.blocks beside fresh c.args.fence.now c.args.life.now c.in_ok-bounds.bounds c.in_ok-bounds.ensures.lies c.begin_awaited.new.life c.in_ok-bounds.ensures.begun))))

pub returns-in_default-clause-tells : goal.returns-in_default-clause-tells
returns-in_default-clause-tells g c = (
  nothing_held,
  λ fixed beside fresh lent can ruled.
      none_beside beside _ _ (on_ok c.follow.result (took_none g.R.Registrar.tells (g.R.Registrar.taken c.args.registrar.now))) (tells_as (followed fixed (non_zero_u64_get c.args.terms.now.blocks_per_epoch) lent.of.blocks beside fresh c.args.fence.now c.args.life.now c.in_ok-bounds.bounds c.in_ok-bounds.ensures.lies c.begin_awaited.new.life c.in_ok-bounds.ensures.begun c.requires.uncommitted (g.B.BlockSource.answers c.args.source.now) lent.lent c.boundary_of.result (c.boundary_of.ensures (non_zero_u64_get c.args.terms.now.blocks_per_epoch) (first_is (non_zero_u64_get c.args.terms.now.blocks_per_epoch) _ c.in_ok-bounds.bounds c.in_ok-bounds.ensures.lies)) (option_copied c.block.result) c.block.ensures (ap option_copied c.in_default.is)) (ends_in (live_of beside c.args.fence.now c.begin_awaited.new.life) c.follow.result) (speaks_tells (setup.follows fixed (live_of beside c.args.fence.now c.begin_awaited.new.life)) (ends_in (live_of beside c.args.fence.now c.begin_awaited.new.life) c.follow.result) (c.follow.ensures.speaks fixed beside c.args.fence.now (stands_there fixed (non_zero_u64_get c.args.terms.now.blocks_per_epoch) lent.of.blocks beside fresh c.args.fence.now c.args.life.now c.in_ok-bounds.bounds c.in_ok-bounds.ensures.lies c.begin_awaited.new.life c.in_ok-bounds.ensures.begun)))),
)

pub returns-in_default-clause-moved : goal.returns-in_default-clause-moved
returns-in_default-clause-moved g c = moved_none g.D.Disk.tells g.D.Disk.made g.X.SecretStore.made g.D.Disk.faults g.X.SecretStore.faults g.met.D.Disk.made_none g.met.X.SecretStore.made_none c.args.devices.now

pub returns-in_default-clause-above : goal.returns-in_default-clause-above
returns-in_default-clause-above g c = λ told. above_itself _ _ _

pub returns-in_default-clause-gives : goal.returns-in_default-clause-gives
returns-in_default-clause-gives g c = unless (ends (λ (done : Unit {0}). done) c.follow.result) _ (λ disk secrets pairs gives. gives)

pub returns-in_default-clause-ready : goal.returns-in_default-clause-ready
returns-in_default-clause-ready g c = on_ok c.follow.result (following_ready g.D.Disk.tells g.D.Disk.files g.D.Disk.image g.C.Ceremony.ack_of g.C.Ceremony.deal_of g.C.Ceremony.check_ack_of c.args.terms.now c.args.life.now c.begin_awaited.new.life c.in_ok-bounds.bounds c.in_ok-bounds.ensures.lies c.in_ok-bounds.ensures.begun c.args.devices.now c.requires.open)

pub returns-in_default-clause-causes : goal.returns-in_default-clause-causes
returns-in_default-clause-causes g c = of_result g.D.Disk.tells _ _ _ c.follow.result c.follow.ensures.causes

pub returns-in_default-clause-agrees : goal.returns-in_default-clause-agrees
returns-in_default-clause-agrees g c =
    on_ok c.follow.result (λ disk secrets stands agreed.
    subst (λ (s : Store g.row.Dir.Denot). AreAgreed (records_of s) (held_in (g.D.Disk.files c.args.devices.now.disk.now) (g.X.SecretStore.held c.args.devices.now.secrets.now))) (sym (ap (λ (l : Life g.row.Dir.Denot). l.store) c.in_ok-bounds.ensures.begun)) agreed)

pub returns-in_default-epoch_info-clause-acts : goal.returns-in_default-epoch_info-clause-acts
returns-in_default-epoch_info-clause-acts g c = λ disk secrets fixed beside fresh lent reads ruled.
    none_beside beside _ _ tt (speaks_makes (setup.setup fixed None (live_of beside c.args.fence.now c.args.life.now)) (by_stop (Faulted (MissingEpochInfo c.height.result))) _ _ (stops_speaks (setup.setup fixed None (live_of beside c.args.fence.now c.args.life.now)) (MissingEpochInfo c.height.result) (bare_block fixed (non_zero_u64_get c.args.terms.now.blocks_per_epoch) lent.of.blocks beside fresh c.args.fence.now c.args.life.now c.in_ok-bounds.bounds c.in_ok-bounds.ensures.lies c.begin_awaited.new.life c.in_ok-bounds.ensures.begun c.requires.uncommitted (g.B.BlockSource.answers c.args.source.now) lent.lent c.boundary_of.result (c.boundary_of.ensures (non_zero_u64_get c.args.terms.now.blocks_per_epoch) (first_is (non_zero_u64_get c.args.terms.now.blocks_per_epoch) _ c.in_ok-bounds.bounds c.in_ok-bounds.ensures.lies)) (option_copied c.block.result) c.block.ensures c.in-Some.block.now (ap option_copied c.in-Some.is) (sym c.epoch_info.ensures ∙ ap option_copied c.in_default-epoch_info.is) ∙ ap (λ (h : ℕ). Stops (MissingEpochInfo h)) (sym c.height.ensures)) refl c.args.out.now.entries))

pub returns-in_default-epoch_info-clause-tells : goal.returns-in_default-epoch_info-clause-tells
returns-in_default-epoch_info-clause-tells g c = (
  nothing_held,
  λ fixed beside fresh lent can ruled.
      none_beside beside _ _ tt (speaks_tells (setup.setup fixed None (live_of beside c.args.fence.now c.args.life.now)) (by_stop (Faulted (MissingEpochInfo c.height.result))) (stops_speaks (setup.setup fixed None (live_of beside c.args.fence.now c.args.life.now)) (MissingEpochInfo c.height.result) (bare_block fixed (non_zero_u64_get c.args.terms.now.blocks_per_epoch) lent.of.blocks beside fresh c.args.fence.now c.args.life.now c.in_ok-bounds.bounds c.in_ok-bounds.ensures.lies c.begin_awaited.new.life c.in_ok-bounds.ensures.begun c.requires.uncommitted (g.B.BlockSource.answers c.args.source.now) lent.lent c.boundary_of.result (c.boundary_of.ensures (non_zero_u64_get c.args.terms.now.blocks_per_epoch) (first_is (non_zero_u64_get c.args.terms.now.blocks_per_epoch) _ c.in_ok-bounds.bounds c.in_ok-bounds.ensures.lies)) (option_copied c.block.result) c.block.ensures c.in-Some.block.now (ap option_copied c.in-Some.is) (sym c.epoch_info.ensures ∙ ap option_copied c.in_default-epoch_info.is) ∙ ap (λ (h : ℕ). Stops (MissingEpochInfo h)) (sym c.height.ensures)) refl c.args.out.now.entries)),
)

pub returns-in_default-epoch_info-clause-moved : goal.returns-in_default-epoch_info-clause-moved
returns-in_default-epoch_info-clause-moved g c = moved_none g.D.Disk.tells g.D.Disk.made g.X.SecretStore.made g.D.Disk.faults g.X.SecretStore.faults g.met.D.Disk.made_none g.met.X.SecretStore.made_none c.args.devices.now

pub returns-in_default-epoch_info-clause-above : goal.returns-in_default-epoch_info-clause-above
returns-in_default-epoch_info-clause-above g c = λ told. above_itself _ _ _

pub returns-in_default-epoch_info-clause-gives : goal.returns-in_default-epoch_info-clause-gives
returns-in_default-epoch_info-clause-gives g c = λ disk secrets pairs gives. gives

pub returns-clause-acts : goal.returns-clause-acts
returns-clause-acts g c = λ disk secrets fixed beside fresh lent reads ruled.
    beside_as (λ more took. took) (λ now made. makes_as (by_block fixed (non_zero_u64_get c.args.terms.now.blocks_per_epoch) lent.of.blocks beside fresh c.args.fence.now c.args.life.now c.in_ok-bounds.bounds c.in_ok-bounds.ensures.lies c.begin_awaited.new.life c.in_ok-bounds.ensures.begun c.requires.uncommitted (g.B.BlockSource.answers c.args.source.now) lent.lent c.boundary_of.result (c.boundary_of.ensures (non_zero_u64_get c.args.terms.now.blocks_per_epoch) (first_is (non_zero_u64_get c.args.terms.now.blocks_per_epoch) _ c.in_ok-bounds.bounds c.in_ok-bounds.ensures.lies)) (option_copied c.block.result) c.block.ensures c.in-Some.block.now (ap option_copied c.in-Some.is) c.in-Some-epoch_info.info.now (sym c.epoch_info.ensures ∙ ap option_copied c.in-Some-epoch_info.is)) (ends_in (live_of now c.set_up_by.new.fence c.set_up_by.new.life) c.set_up_by.result) made) (c.set_up_by.ensures.acts disk secrets fixed beside fresh (record { of = lent.of; word_is = lent.word_is ∙ ap (λ (l : Life g.row.Dir.Denot). l.word) (sym c.in_ok-bounds.ensures.begun) }) reads ruled (stands_there fixed (non_zero_u64_get c.args.terms.now.blocks_per_epoch) lent.of.blocks beside fresh c.args.fence.now c.args.life.now c.in_ok-bounds.bounds c.in_ok-bounds.ensures.lies c.begin_awaited.new.life c.in_ok-bounds.ensures.begun))

pub returns-clause-tells : goal.returns-clause-tells
returns-clause-tells g c = (
  c.set_up_by.ensures.tells.0,
  λ fixed beside fresh lent can ruled.
      beside_as (λ more took. took) (λ now said. tells_as (by_block fixed (non_zero_u64_get c.args.terms.now.blocks_per_epoch) lent.of.blocks beside fresh c.args.fence.now c.args.life.now c.in_ok-bounds.bounds c.in_ok-bounds.ensures.lies c.begin_awaited.new.life c.in_ok-bounds.ensures.begun c.requires.uncommitted (g.B.BlockSource.answers c.args.source.now) lent.lent c.boundary_of.result (c.boundary_of.ensures (non_zero_u64_get c.args.terms.now.blocks_per_epoch) (first_is (non_zero_u64_get c.args.terms.now.blocks_per_epoch) _ c.in_ok-bounds.bounds c.in_ok-bounds.ensures.lies)) (option_copied c.block.result) c.block.ensures c.in-Some.block.now (ap option_copied c.in-Some.is) c.in-Some-epoch_info.info.now (sym c.epoch_info.ensures ∙ ap option_copied c.in-Some-epoch_info.is)) (ends_in (live_of now c.set_up_by.new.fence c.set_up_by.new.life) c.set_up_by.result) said) (c.set_up_by.ensures.tells.1 fixed beside fresh (record { of = lent.of; word_is = lent.word_is ∙ ap (λ (l : Life g.row.Dir.Denot). l.word) (sym c.in_ok-bounds.ensures.begun) }) can ruled (stands_there fixed (non_zero_u64_get c.args.terms.now.blocks_per_epoch) lent.of.blocks beside fresh c.args.fence.now c.args.life.now c.in_ok-bounds.bounds c.in_ok-bounds.ensures.lies c.begin_awaited.new.life c.in_ok-bounds.ensures.begun)),
)

pub returns-clause-ready : goal.returns-clause-ready
returns-clause-ready g c = then_ok c.set_up_by.result (set_up_ready g.D.Disk.tells g.D.Disk.files g.D.Disk.image g.C.Ceremony.ack_of g.C.Ceremony.deal_of g.C.Ceremony.check_ack_of c.args.terms.now c.args.life.now c.begin_awaited.new.life c.in_ok-bounds.bounds c.in_ok-bounds.ensures.lies c.in_ok-bounds.ensures.begun c.set_up_by.new.life c.set_up_by.ensures.rest c.set_up_by.new.devices) c.set_up_by.ensures.done

pub returns-clause-word : goal.returns-clause-word
returns-clause-word g c = ap (λ (l : Life g.row.Dir.Denot). l.word) c.set_up_by.ensures.rest ∙ ap (λ (l : Life g.row.Dir.Denot). l.word) c.in_ok-bounds.ensures.begun

pub returns-clause-above : goal.returns-clause-above
returns-clause-above g c = λ told. subst (λ (min : ℕ). StaysAbove min (g.D.Disk.image c.args.devices.now.disk.now) (g.D.Disk.image c.set_up_by.new.devices.disk.now) (g.X.SecretStore.held c.args.devices.now.secrets.now) (g.X.SecretStore.held c.set_up_by.new.devices.secrets.now)) (ap (λ (e : ℕ). e - 1) (epoch_there (non_zero_u64_get c.args.terms.now.blocks_per_epoch) c.args.life.now c.begin_awaited.new.life c.in_ok-bounds.bounds c.in_ok-bounds.ensures.lies c.in_ok-bounds.ensures.begun)) (c.set_up_by.ensures.above told)

pub returns-clause-gives : goal.returns-clause-gives
returns-clause-gives g c = subst (λ (min : ℕ). UnlessBroken (ends (λ (done : Unit {0}). done) c.set_up_by.result) (IsTrue g.D.Disk.tells → IsTrue g.X.SecretStore.tells → StaysFrom min (g.D.Disk.image c.args.devices.now.disk.now) (g.D.Disk.image c.set_up_by.new.devices.disk.now) (g.X.SecretStore.held c.args.devices.now.secrets.now) (g.X.SecretStore.held c.set_up_by.new.devices.secrets.now))) (ap (λ (e : ℕ). e - 1) (epoch_there (non_zero_u64_get c.args.terms.now.blocks_per_epoch) c.args.life.now c.begin_awaited.new.life c.in_ok-bounds.bounds c.in_ok-bounds.ensures.lies c.in_ok-bounds.ensures.begun)) c.set_up_by.ensures.gives

pub returns-clause-agrees : goal.returns-clause-agrees
returns-clause-agrees g c =
    let fixed = any_fixed c.args.terms.now (g.B.BlockSource.answers c.args.source.now) c.args.life.now.word (any_rules g.C.Ceremony.round_of g.C.Ceremony.deal_of g.C.Ceremony.dealing_of g.C.Ceremony.ack_of g.C.Ceremony.check_ack_of g.C.Ceremony.sign_log_of g.C.Ceremony.bears_ack_of g.C.Ceremony.share_public_of g.C.Ceremony.partial_public_of) c.in-Some-epoch_info.info.now.directory in
    let lent = any_lent c.args.terms.now (g.B.BlockSource.answers c.args.source.now) c.args.life.now.word (any_rules g.C.Ceremony.round_of g.C.Ceremony.deal_of g.C.Ceremony.dealing_of g.C.Ceremony.ack_of g.C.Ceremony.check_ack_of g.C.Ceremony.sign_log_of g.C.Ceremony.bears_ack_of g.C.Ceremony.share_public_of g.C.Ceremony.partial_public_of) c.in-Some-epoch_info.info.now.directory in
    let beside : Beside g.row.Dir.Denot = nothing_beside in
    let fresh = nothing_fresh {Dir = g.row.Dir.Denot} in
    ok_given (Stands (g.D.Disk.files c.args.devices.now.disk.now) (g.D.Disk.image c.args.devices.now.disk.now) → AreAgreed (records_of c.args.life.now.store) (held_in (g.D.Disk.files c.args.devices.now.disk.now) (g.X.SecretStore.held c.args.devices.now.secrets.now))
    → AreAgreed (records_of c.set_up_by.new.life.store) (held_in (g.D.Disk.files c.set_up_by.new.devices.disk.now) (g.X.SecretStore.held c.set_up_by.new.devices.secrets.now))) c.set_up_by.result (λ disk secrets.
    let ends = c.set_up_by.ensures.acts disk secrets fixed beside fresh (record { of = lent.of; word_is = lent.word_is ∙ ap (λ (l : Life g.row.Dir.Denot). l.word) (sym c.in_ok-bounds.ensures.begun) }) (any_reads c.args.terms.now (g.B.BlockSource.answers c.args.source.now) c.args.life.now.word (any_rules g.C.Ceremony.round_of g.C.Ceremony.deal_of g.C.Ceremony.dealing_of g.C.Ceremony.ack_of g.C.Ceremony.check_ack_of g.C.Ceremony.sign_log_of g.C.Ceremony.bears_ack_of g.C.Ceremony.share_public_of g.C.Ceremony.partial_public_of) c.in-Some-epoch_info.info.now.directory) (any_ruled_by c.args.terms.now (g.B.BlockSource.answers c.args.source.now) c.args.life.now.word (any_rules g.C.Ceremony.round_of g.C.Ceremony.deal_of g.C.Ceremony.dealing_of g.C.Ceremony.ack_of g.C.Ceremony.check_ack_of g.C.Ceremony.sign_log_of g.C.Ceremony.bears_ack_of g.C.Ceremony.share_public_of g.C.Ceremony.partial_public_of) c.in-Some-epoch_info.info.now.directory (any_ruled g.C.Ceremony.round_of g.C.Ceremony.deal_of g.C.Ceremony.dealing_of g.C.Ceremony.ack_of g.C.Ceremony.check_ack_of g.C.Ceremony.sign_log_of g.C.Ceremony.bears_ack_of g.C.Ceremony.share_public_of g.C.Ceremony.partial_public_of)) (stands_there fixed (non_zero_u64_get c.args.terms.now.blocks_per_epoch) lent.of.blocks beside fresh c.args.fence.now c.args.life.now c.in_ok-bounds.bounds c.in_ok-bounds.ensures.lies c.begin_awaited.new.life c.in_ok-bounds.ensures.begun) in
    let now = ends.now in
    setup_agrees fixed (live_of beside c.args.fence.now c.args.life.now) (live_of now c.set_up_by.new.fence c.set_up_by.new.life) c.set_up_by.result (makes_as (by_block fixed (non_zero_u64_get c.args.terms.now.blocks_per_epoch) lent.of.blocks beside fresh c.args.fence.now c.args.life.now c.in_ok-bounds.bounds c.in_ok-bounds.ensures.lies c.begin_awaited.new.life c.in_ok-bounds.ensures.begun c.requires.uncommitted (g.B.BlockSource.answers c.args.source.now) lent.lent c.boundary_of.result (c.boundary_of.ensures (non_zero_u64_get c.args.terms.now.blocks_per_epoch) (first_is (non_zero_u64_get c.args.terms.now.blocks_per_epoch) _ c.in_ok-bounds.bounds c.in_ok-bounds.ensures.lies)) (option_copied c.block.result) c.block.ensures c.in-Some.block.now (ap option_copied c.in-Some.is) c.in-Some-epoch_info.info.now (sym c.epoch_info.ensures ∙ ap option_copied c.in-Some-epoch_info.is)) (ends_in (live_of now c.set_up_by.new.fence c.set_up_by.new.life) c.set_up_by.result) ends.holds) (g.met.D.Disk.reads c.set_up_by.new.devices.disk.now disk))

pub set_up_by-requires-clause-known : goal.set_up_by-requires-clause-known
set_up_by-requires-clause-known g c = λ was. absurd (let h : ◌≡◌ {A = Standing} Uncommitted WasCommitted = was in cc)

pub returns-in_default-clause-current : goal.returns-in_default-clause-current
returns-in_default-clause-current g c = in_any c.follow.result (λ apart. absurd (apart (ap (λ (l : Life g.row.Dir.Denot). l.stage) c.in_ok-bounds.ensures.begun)))

pub returns-clause-current : goal.returns-clause-current
returns-clause-current g c = then_well c.set_up_by.result (λ is apart. is) c.set_up_by.ensures.current
