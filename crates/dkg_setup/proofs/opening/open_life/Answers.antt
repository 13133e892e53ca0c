use Rattle.std.proofs.Common.{◌-◌, ℕ, length, ap, arith, refl, subst, sym}
use Rattle.std.specs.Prelude.{IsTrue}
use Rattle.std.proofs.lemmas.Result.{err_from_is_err_and}
use Rattle.std.specs.Int.NonZero.{non_zero_u32_get}
use Rattle.dkg_journal.specs.Opening.{open_calls}
use Rattle.dkg_store.specs.Acts.{held_in, went}
use Rattle.dkg_store.specs.declared.store.Store.{Store}
use Rattle.dkg_core.specs.Agreeing.{AreAgreed}
use Rattle.dkg_core.specs.Live.{Records}
use Rattle.dkg_life.specs.declared.life.Life.{Life}
use Rattle.dkg_life.specs.Ends.{by_stop}
use Rattle.dkg_life.specs.Given.{reading}
use Rattle.dkg_life.specs.LiveOf.{live_of, nothing_beside, records_of}
use Rattle.dkg_life.specs.Moved.{StaysAbove}
use Rattle.dkg_life.specs.Opened.{IsInGrammar, epoch_above, epoch_at}
use Rattle.dkg_life.specs.Planless.{seen_planless}
use Rattle.dkg_life.proofs.Caused.{rose_around}
use Rattle.dkg_store.proofs.Counts.{reached_behind}
use Rattle.dkg_life.proofs.Kept.{above_then, moved_then}
use Rattle.dkg_life.proofs.Beside.{beside_as, none_beside, nothing_fresh}
use Rattle.dkg_setup.proofs.Openings.{can_read, found_around, lent_to, given_behind, given_stopped, given_untold, opening_failed, opening_made, opening_told, opening_untold, reading_lent, store_agrees, was_readable, with_secrets}
use Rattle.dkg_setup.proofs.opening.open_life.Goals as goal

pub returns-in_err-store-clause-readable : goal.returns-in_err-store-clause-readable
returns-in_err-store-clause-readable g c = λ told.
    let p = err_from_is_err_and c.from_residual.result c.from_residual.ensures.1 in
    let its = c.in_err-store.ensures.readable told in rw (p.1, p.2) (record { ok = tt; untold = its.untold; shut = its.shut })

pub returns-in_err-store-clause-acts : goal.returns-in_err-store-clause-acts
returns-in_err-store-clause-acts g c = λ disk secrets fixed opening by fresh.
    let p = err_from_is_err_and c.from_residual.result c.from_residual.ensures.1 in
    rw (p.1, p.2) (none_beside nothing_beside _ _ tt (opening_failed fixed opening.bare opening.lent.of.unplanned seen_planless opening.reads c.args.number (length (open_calls (g.D.Disk.files c.args.devices.now.disk.now))) opening.life_is opening.calls_are c.in_err-store.field-0.0 (c.in_err-store.ensures.acts disk secrets (subst (λ (n : ℕ). IsInGrammar n (g.D.Disk.files c.args.devices.now.disk.now)) opening.lent.of.limit opening.grammar))))

pub returns-in_err-store-clause-tells : goal.returns-in_err-store-clause-tells
returns-in_err-store-clause-tells g c = λ fixed lent life is_bare by fresh.
    let p = err_from_is_err_and c.from_residual.result c.from_residual.ensures.1 in
    let read = c.in_err-store.ensures.tells fixed.opening_calls in
    rw (p.1, p.2) (record {
      seen = read.seen;
      unplanned = read.unplanned;
      listed = read.listed;
      given = given_untold Records (Life g.row.Dir.Denot) c.in_err-store.field-0.0 (IsTrue g.D.Disk.tells) (IsTrue g.X.SecretStore.tells) (epoch_at (g.B.BlockSource.answers c.args.source.now) c.args.terms.now - 1) read.seen.dealings (g.D.Disk.image c.open_store.new.devices.disk.now) (g.X.SecretStore.held c.open_store.new.devices.secrets.now) read.given;
      so = none_beside nothing_beside _ _ tt (opening_untold (reading read.seen fixed) (record { reshare = is_bare.reshare; bare = is_bare.bare }) (λ h. read.unplanned) (λ h. read.seen) refl c.args.number fixed.opening_calls life refl c.in_err-store.field-0.0 read.so);
    })

pub returns-in_err-store-clause-causes : goal.returns-in_err-store-clause-causes
returns-in_err-store-clause-causes g c =
    let p = err_from_is_err_and c.from_residual.result c.from_residual.ensures.1 in
    rw (p.1, p.2) c.in_err-store.ensures.causes

pub returns-in_err-store-clause-above : goal.returns-in_err-store-clause-above
returns-in_err-store-clause-above g c = λ told.
    c.open_store.ensures.above told (epoch_at (g.B.BlockSource.answers c.args.source.now) c.args.terms.now - 1)

pub returns-in_err-set_up-clause-readable : goal.returns-in_err-set_up-clause-readable
returns-in_err-set_up-clause-readable g c = λ told.
    was_readable (c.in_ok-store.ensures.readable told).ok _

pub returns-in_err-set_up-clause-acts : goal.returns-in_err-set_up-clause-acts
returns-in_err-set_up-clause-acts g c = λ disk secrets fixed opening by fresh.
    let p = err_from_is_err_and c.from_residual-in_err-set_up.result c.from_residual-in_err-set_up.ensures.1 in
    rw (p.1, p.2) (beside_as (λ more took. took) (λ now made. opening_made fixed opening.bare opening.lent.of.unplanned seen_planless opening.reads c.args.number (length (open_calls (g.D.Disk.files c.args.devices.now.disk.now))) opening.life_is opening.calls_are (g.B.BlockSource.answers c.args.source.now) opening.lent.lent c.args.fence.now fresh c.args.word c.in_ok-store.store c.in_ok-store.ensures.current c.begin-life.result c.begin-life.ensures (by_stop c.in_err-set_up.field-0.0) (c.in_ok-store.ensures.acts disk secrets (subst (λ (n : ℕ). IsInGrammar n (g.D.Disk.files c.args.devices.now.disk.now)) opening.lent.of.limit opening.grammar)) made) (c.in_err-set_up.ensures.acts disk secrets fixed nothing_beside nothing_fresh (lent_to c.args.terms.now (g.B.BlockSource.answers c.args.source.now) c.args.word c.begin-life.result.word fixed (ap (λ (l : Life g.row.Dir.Denot). l.word) c.begin-life.ensures) opening.lent) opening.reads by))

pub returns-in_err-set_up-clause-tells : goal.returns-in_err-set_up-clause-tells
returns-in_err-set_up-clause-tells g c = λ fixed lent life is_bare by fresh.
    let p = err_from_is_err_and c.from_residual-in_err-set_up.result c.from_residual-in_err-set_up.ensures.1 in
    let read = c.in_ok-store.ensures.tells fixed.opening_calls in
    rw (p.1, p.2) (record {
      seen = with_secrets read.seen c.in_err-set_up.ensures.tells.0;
      unplanned = read.unplanned;
      listed = read.listed;
      given = given_stopped (IsTrue g.D.Disk.tells) (IsTrue g.X.SecretStore.tells) _ (epoch_at (g.B.BlockSource.answers c.args.source.now) c.args.terms.now - 1) (ap (λ (l : Life g.row.Dir.Denot). epoch_above c.args.terms.now l.tip - 1) c.begin-life.ensures) read.seen.dealings (g.D.Disk.files c.open_store.new.devices.disk.now) (g.D.Disk.image c.open_store.new.devices.disk.now) (g.D.Disk.image c.set_up.new.devices.disk.now) (g.X.SecretStore.held c.open_store.new.devices.secrets.now) (g.X.SecretStore.held c.set_up.new.devices.secrets.now) (λ told. g.met.D.Disk.reads c.open_store.new.devices.disk.now told) read.given (Unit {0}) (Life g.row.Dir.Denot) c.in_err-set_up.field-0.0 c.in_err-set_up.ensures.gives;
      so = beside_as (λ more took. took) (λ now told. opening_told (reading (with_secrets read.seen c.in_err-set_up.ensures.tells.0) fixed) (record { reshare = is_bare.reshare; bare = is_bare.bare }) (λ h. read.unplanned) (λ h. with_secrets read.seen c.in_err-set_up.ensures.tells.0) refl c.args.number fixed.opening_calls life refl (g.B.BlockSource.answers c.args.source.now) lent.lent c.args.fence.now fresh c.args.word c.in_ok-store.store c.in_ok-store.ensures.current c.begin-life.result c.begin-life.ensures (by_stop c.in_err-set_up.field-0.0) read.so told)
          (c.in_err-set_up.ensures.tells.1 (reading (with_secrets read.seen c.in_err-set_up.ensures.tells.0) fixed) nothing_beside nothing_fresh (reading_lent c.args.terms.now (g.B.BlockSource.answers c.args.source.now) c.args.word c.begin-life.result.word fixed (with_secrets read.seen c.in_err-set_up.ensures.tells.0) (ap (λ (l : Life g.row.Dir.Denot). l.word) c.begin-life.ensures) read.unplanned lent) (can_read read.seen c.in_err-set_up.ensures.tells.0 fixed) by);
    })

pub returns-in_err-set_up-clause-moved : goal.returns-in_err-set_up-clause-moved
returns-in_err-set_up-clause-moved g c =
    moved_then g.D.Disk.tells g.D.Disk.made g.X.SecretStore.made g.D.Disk.faults g.X.SecretStore.faults g.met.D.Disk.made_more g.met.X.SecretStore.made_more c.args.devices.now c.open_store.new.devices c.set_up.new.devices c.open_store.ensures.moved c.set_up.ensures.moved

pub returns-in_err-set_up-clause-above : goal.returns-in_err-set_up-clause-above
returns-in_err-set_up-clause-above g c = λ told.
    above_then (epoch_at (g.B.BlockSource.answers c.args.source.now) c.args.terms.now - 1) (c.open_store.ensures.above told (epoch_at (g.B.BlockSource.answers c.args.source.now) c.args.terms.now - 1)) (subst (λ (min : ℕ). StaysAbove min (g.D.Disk.image c.open_store.new.devices.disk.now) (g.D.Disk.image c.set_up.new.devices.disk.now) (g.X.SecretStore.held c.open_store.new.devices.secrets.now) (g.X.SecretStore.held c.set_up.new.devices.secrets.now)) (ap (λ (l : Life g.row.Dir.Denot). epoch_above c.args.terms.now l.tip - 1) c.begin-life.ensures) (c.set_up.ensures.above told))

pub returns-clause-readable : goal.returns-clause-readable
returns-clause-readable g c = λ told.
    was_readable (c.in_ok-store.ensures.readable told).ok _

pub returns-clause-acts : goal.returns-clause-acts
returns-clause-acts g c = λ disk secrets fixed opening by fresh.
    (beside_as (λ more took. took) (λ now made. opening_made fixed opening.bare opening.lent.of.unplanned seen_planless opening.reads c.args.number (length (open_calls (g.D.Disk.files c.args.devices.now.disk.now))) opening.life_is opening.calls_are (g.B.BlockSource.answers c.args.source.now) opening.lent.lent c.args.fence.now fresh c.args.word c.in_ok-store.store c.in_ok-store.ensures.current c.begin-life.result c.begin-life.ensures (went (live_of now c.set_up.new.fence c.set_up.new.life)) (c.in_ok-store.ensures.acts disk secrets (subst (λ (n : ℕ). IsInGrammar n (g.D.Disk.files c.args.devices.now.disk.now)) opening.lent.of.limit opening.grammar)) made) (c.in_ok-set_up.ensures.acts disk secrets fixed nothing_beside nothing_fresh (lent_to c.args.terms.now (g.B.BlockSource.answers c.args.source.now) c.args.word c.begin-life.result.word fixed (ap (λ (l : Life g.row.Dir.Denot). l.word) c.begin-life.ensures) opening.lent) opening.reads by))

pub returns-clause-tells : goal.returns-clause-tells
returns-clause-tells g c = λ fixed lent life is_bare by fresh.
    let read = c.in_ok-store.ensures.tells fixed.opening_calls in
    (record {
      seen = with_secrets read.seen c.in_ok-set_up.ensures.tells.0;
      unplanned = read.unplanned;
      listed = read.listed;
      given = given_behind (IsTrue g.D.Disk.tells) (IsTrue g.X.SecretStore.tells) _ (epoch_at (g.B.BlockSource.answers c.args.source.now) c.args.terms.now - 1) (ap (λ (l : Life g.row.Dir.Denot). epoch_above c.args.terms.now l.tip - 1) c.begin-life.ensures) read.seen.dealings (g.D.Disk.files c.open_store.new.devices.disk.now) (g.D.Disk.image c.open_store.new.devices.disk.now) (g.D.Disk.image c.set_up.new.devices.disk.now) (g.X.SecretStore.held c.open_store.new.devices.secrets.now) (g.X.SecretStore.held c.set_up.new.devices.secrets.now) (λ told. g.met.D.Disk.reads c.open_store.new.devices.disk.now told) read.given c.in_ok-set_up.ensures.gives;
      so = beside_as (λ more took. took) (λ now told. opening_told (reading (with_secrets read.seen c.in_ok-set_up.ensures.tells.0) fixed) (record { reshare = is_bare.reshare; bare = is_bare.bare }) (λ h. read.unplanned) (λ h. with_secrets read.seen c.in_ok-set_up.ensures.tells.0) refl c.args.number fixed.opening_calls life refl (g.B.BlockSource.answers c.args.source.now) lent.lent c.args.fence.now fresh c.args.word c.in_ok-store.store c.in_ok-store.ensures.current c.begin-life.result c.begin-life.ensures (went (live_of now c.set_up.new.fence c.set_up.new.life)) read.so told)
          (c.in_ok-set_up.ensures.tells.1 (reading (with_secrets read.seen c.in_ok-set_up.ensures.tells.0) fixed) nothing_beside nothing_fresh (reading_lent c.args.terms.now (g.B.BlockSource.answers c.args.source.now) c.args.word c.begin-life.result.word fixed (with_secrets read.seen c.in_ok-set_up.ensures.tells.0) (ap (λ (l : Life g.row.Dir.Denot). l.word) c.begin-life.ensures) read.unplanned lent) (can_read read.seen c.in_ok-set_up.ensures.tells.0 fixed) by);
    })

pub returns-clause-moved : goal.returns-clause-moved
returns-clause-moved g c =
    moved_then g.D.Disk.tells g.D.Disk.made g.X.SecretStore.made g.D.Disk.faults g.X.SecretStore.faults g.met.D.Disk.made_more g.met.X.SecretStore.made_more c.args.devices.now c.open_store.new.devices c.set_up.new.devices c.open_store.ensures.moved c.set_up.ensures.moved

pub returns-clause-above : goal.returns-clause-above
returns-clause-above g c = λ told.
    above_then (epoch_at (g.B.BlockSource.answers c.args.source.now) c.args.terms.now - 1) (c.open_store.ensures.above told (epoch_at (g.B.BlockSource.answers c.args.source.now) c.args.terms.now - 1)) (subst (λ (min : ℕ). StaysAbove min (g.D.Disk.image c.open_store.new.devices.disk.now) (g.D.Disk.image c.set_up.new.devices.disk.now) (g.X.SecretStore.held c.open_store.new.devices.secrets.now) (g.X.SecretStore.held c.set_up.new.devices.secrets.now)) (ap (λ (l : Life g.row.Dir.Denot). epoch_above c.args.terms.now l.tip - 1) c.begin-life.ensures) (c.set_up.ensures.above told))

pub returns-in_err-set_up-clause-causes : goal.returns-in_err-set_up-clause-causes
returns-in_err-set_up-clause-causes g c =
    let p = err_from_is_err_and c.from_residual-in_err-set_up.result c.from_residual-in_err-set_up.ensures.1 in
    rw (p.1, p.2) (found_around (non_zero_u32_get c.args.terms.now.limit) g.D.Disk.tells _
    (rose_around _ _ _ _ c.open_store.ensures.moved.later_disk c.set_up.ensures.moved.later_disk (omega arith))
    (rose_around _ _ _ _ c.open_store.ensures.moved.later_secrets c.set_up.ensures.moved.later_secrets (omega arith))
    (reached_behind _ _ _ c.open_store.ensures.moved.counts)
    c.in_err-set_up.field-0.0 c.in_err-set_up.ensures.causes)

pub returns-clause-ready : goal.returns-clause-ready
returns-clause-ready g c =
    c.in_ok-set_up.ensures.ready

pub returns-clause-live : goal.returns-clause-live
returns-clause-live g c = λ disk secrets sound.
    let made = c.in_ok-store.ensures.acts disk secrets (c.in_ok-store.ensures.readable disk).ok in
    c.in_ok-set_up.ensures.agrees disk secrets (made.made.stands sound.stands)
    (subst (λ (s : Store g.row.Dir.Denot). AreAgreed (records_of s) (held_in (g.D.Disk.files c.open_store.new.devices.disk.now) (g.X.SecretStore.held c.open_store.new.devices.secrets.now))) (sym (ap (λ (l : Life g.row.Dir.Denot). l.store) c.begin-life.ensures))
    (store_agrees g.row.Dir.Denot c.args.number (length (open_calls (g.D.Disk.files c.args.devices.now.disk.now))) (records_of c.in_ok-store.store) made (g.met.D.Disk.reads c.open_store.new.devices.disk.now disk) sound.stands sound.whole))

pub returns-clause-current : goal.returns-clause-current
returns-clause-current g c = c.in_ok-set_up.ensures.current
