use Rattle.std.proofs.Common.{List, [], ◌∷◌, ◌++◌, length, None, Ok, Err, ap, refl, ◌∙◌}
use Rattle.std.specs.Prelude.{IsTrue}
use Rattle.std.proofs.lemmas.Result.{err_from_is_err_and}
use Rattle.std.specs.Int.NonZero.{non_zero_u32_get}
use Rattle.dkg_journal.specs.Opening.{open_calls}
use Rattle.dkg_infos.specs.declared.entry.Entry.TheVariants.{Opened}
use Rattle.dkg_infos.specs.declared.entry.Restored.{Restored}
use Rattle.dkg_infos.specs.declared.fault.Fault.TheVariants as fault
use Rattle.dkg_life.specs.declared.stop.Stop.TheVariants.{Fault as Faulted}
use Rattle.dkg_core.specs.Seen.{Seen}
use Rattle.dkg_life.specs.Given.{AreGivenFrom}
use Rattle.dkg_setup.proofs.Giving.{opened_above}
use Rattle.dkg_setup.proofs.Openings.{given_back, opened_told, opening_found, opens_by_devices, seen_of, store_failed, store_opened, store_unlisted, store_untold, was_readable}
use Rattle.dkg_life.proofs.Calls.{moved_called}
use Rattle.dkg_life.proofs.Said.{pruning_of_due}
use Rattle.dkg_setup.proofs.opening.open_store.Goals as goal

pub returns-in_err-store-clause-readable : goal.returns-in_err-store-clause-readable
returns-in_err-store-clause-readable g c = λ told.
    let p = err_from_is_err_and c.from_residual.result c.from_residual.ensures.1 in
    rw (p.1, p.2) (record { ok = tt; untold = λ no. refl; shut = λ no. record { images = (c.init.ensures.rereads told).images; same = c.init.ensures.same } })

pub returns-in_err-store-clause-acts : goal.returns-in_err-store-clause-acts
returns-in_err-store-clause-acts g c = λ disk secrets grammar.
    let p = err_from_is_err_and c.from_residual.result c.from_residual.ensures.1 in
    let kind = opens_by_devices (non_zero_u32_get c.args.limit) (g.D.Disk.files c.args.devices.now.disk.now) grammar _ _ _ _ _ c.in_err-store.field-0.0 c.in_err-store.ensures.due (λ name place at. (at disk).0) in
    rw (p.1, p.2) (store_failed g.row.Dir.Denot c.args.life (length (open_calls (g.D.Disk.files c.args.devices.now.disk.now))) c.init.ensures.called.counts c.in_err-store.field-0.0 kind (c.in_err-store.ensures.acts disk secrets grammar.whole None grammar.events c.args.out.now.entries))

pub returns-in_err-store-clause-tells : goal.returns-in_err-store-clause-tells
returns-in_err-store-clause-tells g c = λ calls.
    let p = err_from_is_err_and c.from_residual.result c.from_residual.ensures.1 in
    rw (p.1, p.2) (store_untold g.row.Dir.Denot c.args.life calls c.in_err-store.field-0.0 (pruning_of_due _ _ _ _ _ c.in_err-store.field-0.0 c.in_err-store.ensures.due) c.args.out.now.entries _)

pub returns-in_err-store-clause-causes : goal.returns-in_err-store-clause-causes
returns-in_err-store-clause-causes g c =
    let p = err_from_is_err_and c.from_residual.result c.from_residual.ensures.1 in
    rw (p.1, p.2) (opening_found (non_zero_u32_get c.args.limit) g.D.Disk.tells _ _ _ _ _ _ _ _ c.in_err-store.field-0.0 c.in_err-store.ensures.due (λ name place at told. (at told).1) (λ at. at.0) (λ at. at.0))

pub returns-in_err-store-clause-moved : goal.returns-in_err-store-clause-moved
returns-in_err-store-clause-moved g c =
    moved_called g.D.Disk.tells g.D.Disk.made g.X.SecretStore.made g.D.Disk.faults g.X.SecretStore.faults (λ told. told) c.init.ensures.called

pub returns-in_err-store-clause-above : goal.returns-in_err-store-clause-above
returns-in_err-store-clause-above g c = λ told min.
    opened_above min _ _ _ _ c.init.ensures.same (c.init.ensures.rereads told).fit (c.init.ensures.rereads told).images

pub returns-in_err-restored-clause-moved : goal.returns-in_err-restored-clause-moved
returns-in_err-restored-clause-moved g c =
    moved_called g.D.Disk.tells g.D.Disk.made g.X.SecretStore.made g.D.Disk.faults g.X.SecretStore.faults (λ told. told) c.init.ensures.called

pub returns-in_err-restored-clause-above : goal.returns-in_err-restored-clause-above
returns-in_err-restored-clause-above g c = λ told min.
    opened_above min _ _ _ _ c.init.ensures.same (c.init.ensures.rereads told).fit (c.init.ensures.rereads told).images

pub returns-in_err-push-clause-moved : goal.returns-in_err-push-clause-moved
returns-in_err-push-clause-moved g c =
    moved_called g.D.Disk.tells g.D.Disk.made g.X.SecretStore.made g.D.Disk.faults g.X.SecretStore.faults (λ told. told) c.init.ensures.called

pub returns-in_err-push-clause-above : goal.returns-in_err-push-clause-above
returns-in_err-push-clause-above g c = λ told min.
    opened_above min _ _ _ _ c.init.ensures.same (c.init.ensures.rereads told).fit (c.init.ensures.rereads told).images

pub returns-clause-moved : goal.returns-clause-moved
returns-clause-moved g c =
    moved_called g.D.Disk.tells g.D.Disk.made g.X.SecretStore.made g.D.Disk.faults g.X.SecretStore.faults (λ told. told) c.init.ensures.called

pub returns-clause-above : goal.returns-clause-above
returns-clause-above g c = λ told min.
    opened_above min _ _ _ _ c.init.ensures.same (c.init.ensures.rereads told).fit (c.init.ensures.rereads told).images

pub returns-in_err-restored-clause-readable : goal.returns-in_err-restored-clause-readable
returns-in_err-restored-clause-readable g c = λ told.
    let sound = c.in_ok-store.ensures.restores.sound told in was_readable (record { whole = sound.0; events = sound.1 }) _

pub returns-in_err-restored-clause-acts : goal.returns-in_err-restored-clause-acts
returns-in_err-restored-clause-acts g c = λ disk secrets grammar.
    let p = err_from_is_err_and c.from_residual-in_err-restored.result c.from_residual-in_err-restored.ensures.1 in
    rw (p.1, p.2) (store_opened g.row.Dir.Denot c.args.life (length (open_calls (g.D.Disk.files c.args.devices.now.disk.now))) c.init.ensures.called.counts (c.in_ok-store.store.dealings, c.in_ok-store.store.acks, c.in_ok-store.store.logs) (c.in_ok-store.ensures.acts disk secrets grammar.whole None grammar.events c.args.out.now.entries) c.in_ok-store.ensures.called.not_cut (Err (Faulted fault.NoMemory)) tt refl refl)

pub returns-in_err-restored-clause-tells : goal.returns-in_err-restored-clause-tells
returns-in_err-restored-clause-tells g c = λ calls.
    let p = err_from_is_err_and c.from_residual-in_err-restored.result c.from_residual-in_err-restored.ensures.1 in
    rw (p.1, p.2) (store_unlisted g.row.Dir.Denot c.args.life calls c.args.out.now.entries _ refl (λ (s : Seen). IsTrue g.D.Disk.tells → IsTrue g.X.SecretStore.tells → AreGivenFrom 0 s.dealings (g.D.Disk.image c.init.new.devices.disk.now) (g.X.SecretStore.held c.init.new.devices.secrets.now)))

pub returns-in_err-push-clause-readable : goal.returns-in_err-push-clause-readable
returns-in_err-push-clause-readable g c = λ told.
    let sound = c.in_ok-store.ensures.restores.sound told in was_readable (record { whole = sound.0; events = sound.1 }) _

pub returns-in_err-push-clause-acts : goal.returns-in_err-push-clause-acts
returns-in_err-push-clause-acts g c = λ disk secrets grammar.
    let p = err_from_is_err_and c.from_residual-in_err-push.result c.from_residual-in_err-push.ensures.1 in
    rw (p.1, p.2) (store_opened g.row.Dir.Denot c.args.life (length (open_calls (g.D.Disk.files c.args.devices.now.disk.now))) c.init.ensures.called.counts (c.in_ok-store.store.dealings, c.in_ok-store.store.acks, c.in_ok-store.store.logs) (c.in_ok-store.ensures.acts disk secrets grammar.whole None grammar.events c.args.out.now.entries) c.in_ok-store.ensures.called.not_cut (Err (Faulted fault.NoMemory)) tt c.in_err-push.ensures.err refl)

pub returns-in_err-push-clause-tells : goal.returns-in_err-push-clause-tells
returns-in_err-push-clause-tells g c = λ calls.
    let p = err_from_is_err_and c.from_residual-in_err-push.result c.from_residual-in_err-push.ensures.1 in
    rw (p.1, p.2) (store_unlisted g.row.Dir.Denot c.args.life calls c.args.out.now.entries _ c.in_err-push.ensures.err (λ (s : Seen). IsTrue g.D.Disk.tells → IsTrue g.X.SecretStore.tells → AreGivenFrom 0 s.dealings (g.D.Disk.image c.init.new.devices.disk.now) (g.X.SecretStore.held c.init.new.devices.secrets.now)))

pub returns-clause-readable : goal.returns-clause-readable
returns-clause-readable g c = λ told.
    let sound = c.in_ok-store.ensures.restores.sound told in was_readable (record { whole = sound.0; events = sound.1 }) _

pub returns-clause-acts : goal.returns-clause-acts
returns-clause-acts g c = λ disk secrets grammar.
    let line = c.in_ok-push.ensures.ok ∙ ap (λ (l : List Restored). c.args.out.now.entries ++ Opened c.args.life l ∷ []) (c.in_ok-restored.ensures ∙ c.restored.ensures ∙ c.in_ok-store.ensures.restores.listed) in
    store_opened g.row.Dir.Denot c.args.life (length (open_calls (g.D.Disk.files c.args.devices.now.disk.now))) c.init.ensures.called.counts (c.in_ok-store.store.dealings, c.in_ok-store.store.acks, c.in_ok-store.store.logs) (c.in_ok-store.ensures.acts disk secrets grammar.whole None grammar.events c.args.out.now.entries) c.in_ok-store.ensures.called.not_cut (Ok tt) line tt tt

pub returns-clause-tells : goal.returns-clause-tells
returns-clause-tells g c = λ calls.
    let line = c.in_ok-push.ensures.ok ∙ ap (λ (l : List Restored). c.args.out.now.entries ++ Opened c.args.life l ∷ []) (c.in_ok-restored.ensures ∙ c.restored.ensures ∙ c.in_ok-store.ensures.restores.listed) in
    record {
      seen = seen_of c.in_ok-store.store;
      unplanned = refl;
      listed = (c.in_ok-store.store.dealings, refl);
      given = λ disk secrets. given_back c.in_ok-store.store _ _ _ _ (c.in_ok-store.ensures.restores.dealings disk secrets) (c.in_ok-store.ensures.restores.settled disk) c.init.ensures.same;
      so = opened_told c.in_ok-store.store c.args.life calls line;
    }

pub returns-clause-open : goal.returns-clause-open
returns-clause-open g c = λ told.
    record { open_on = c.in_ok-store.ensures.restores.opened told; lands = c.in_ok-store.ensures.restores.lands told }
