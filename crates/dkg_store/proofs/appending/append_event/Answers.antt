use Rattle.std.proofs.Common.{ℕ, Err, None, map, inl, inr, ⊎_elim, arith, refl, sym, subst, ap, ◌∙◌}
use Rattle.std.specs.Prelude.{⊤}
use Rattle.std.specs.FinMap as maps
use Rattle.std.proofs.lemmas.Result.{err_from_is_err_and}
use Rattle.dkg_journal.specs.Journals.{append_calls}
use Rattle.dkg_journal.specs.declared.call.JournalError.{JournalError}
use Rattle.dkg_store.specs.Both.{on_disk}
use Rattle.dkg_store.specs.Errors.{IsOfDevices, store_error_of}
use Rattle.dkg_store.specs.declared.call.StoreError.{StoreError}
use Rattle.dkg_store.proofs.OpeningActs.{journal_devices}
use Rattle.dkg_store.specs.Noted.{Notes}
use Rattle.dkg_store.specs.Acts.{EndsBy}
use Rattle.dkg_store.specs.Calls.{cause_of}
use Rattle.dkg_store.proofs.Acting.{alone_torn, alone_done, alone_alike, breaks_off}
use Rattle.dkg_store.proofs.Both.{disk_all, disk_ran}
use Rattle.dkg_journal.proofs.Fuses.{cut_reached, ok_unreached}
use Rattle.dkg_store.proofs.Counts.{counts_fused}
use Rattle.dkg_store.proofs.Left.{called_alike, called_unmade, due_append, extends_alike, extends_unmade}
use Rattle.dkg_store.proofs.Making.{journal_end}
use Rattle.dkg_secrets.proofs.Map.{remove_insert, keys_total, exact_keys}
use Rattle.dkg_store.proofs.Others.{others_of, not_added}
use Rattle.dkg_store.proofs.Fit.{may_add_fit}
use Rattle.dkg_journal.proofs.Journals.{added_there}
use Rattle.dkg_store.proofs.Named.{append_names, made_name}
use Rattle.dkg_store.proofs.appending.append_event.Goals as goal

pub returns-in_err-insert-clause-images : goal.returns-in_err-insert-clause-images
returns-in_err-insert-clause-images g c = λ told. not_added _ _

pub returns-in-Err-clause-kept : goal.returns-in-Err-clause-kept
returns-in-Err-clause-kept g c =
    c.remove.ensures ∙ ap (λ (m : Notes g.row.V.Denot). maps.remove m (c.args.epoch, c.args.key)) c.in_ok-insert.ensures.done
    ∙ remove_insert keys_total exact_keys c.args.notes.now (c.args.epoch, c.args.key) c.args.value c.requires.new

pub returns-in-Err-clause-acts : goal.returns-in-Err-clause-acts
returns-in-Err-clause-acts g c = λ told out.
    let of_devices : IsOfDevices (store_error_of c.in-Err.error) = journal_devices c.in-Err.error
    (λ name place is. c.in-Err.ensures.not_corrupt name place (ap (λ (e : JournalError). Err e) is))
    (λ is. let long = c.in-Err.ensures.too_long.0 (ap (λ (e : JournalError). Err e) is) in omega (arith, long, c.requires.short)) in
    alone_alike c.epoch.view_is refl
    (alone_torn (_, c.args.body.now) tt (cause_of c.of_journal.result)
    (breaks_off c.of_journal.result (subst IsOfDevices (sym c.of_journal.ensures) of_devices)) (λ stands. (c.append.ensures.does told).tried stands.lands)
    (subst (λ (e : StoreError). EndsBy (cause_of e) c.args.devices.now.fuse c.append.new.fuse) (sym c.of_journal.ensures) (journal_end _ c.in-Err.error refl c.in-Err.ensures.caused.fused)))

pub returns-clause-acts : goal.returns-clause-acts
returns-clause-acts g c = λ told out.
    alone_alike c.epoch.view_is refl
    (alone_done (_, c.args.body.now) tt refl (λ stands. (c.in_default.ensures.does told).done stands.lands) (g.met.D.Disk.reads _ told))

pub returns-in_err-insert-clause-kept : goal.returns-in_err-insert-clause-kept
returns-in_err-insert-clause-kept g c =
    let p = err_from_is_err_and c.from_residual.result c.from_residual.ensures.1 in
    rw p.1 c.in_err-insert.ensures.kept

pub returns-in_err-insert-clause-extends : goal.returns-in_err-insert-clause-extends
returns-in_err-insert-clause-extends g c told =
    let p = err_from_is_err_and c.from_residual.result c.from_residual.ensures.1 in
    rw p.1 (extends_unmade None tt _ _ _ _)

pub returns-in_err-insert-clause-called : goal.returns-in_err-insert-clause-called
returns-in_err-insert-clause-called g c =
    let p = err_from_is_err_and c.from_residual.result c.from_residual.ensures.1 in
    rw p.1 (called_unmade ⊤ g.D.Disk.made g.X.SecretStore.made g.D.Disk.faults g.X.SecretStore.faults g.met.D.Disk.made_none g.met.X.SecretStore.made_none None tt _ c.args.devices.now)

pub returns-in_err-insert-clause-due : goal.returns-in_err-insert-clause-due
returns-in_err-insert-clause-due g c =
    let p = err_from_is_err_and c.from_residual.result c.from_residual.ensures.1 in
    rw (p.1, p.2) (inl (c.in_err-insert.ensures.kept, refl, refl))

pub returns-in-Err-clause-extends : goal.returns-in-Err-clause-extends
returns-in-Err-clause-extends g c told =
    extends_alike c.epoch.view_is refl (record {
      fit = λ limit is fit. may_add_fit limit _ _ _ is (c.append.ensures.grows told).may (c.append.ensures.sound told) fit;
      others = others_of _ _ _ (c.append.ensures.grows told).may;
      names = λ lands. append_names _ _ _ _ _ _ (g.met.D.Disk.reads _ told) ((c.append.ensures.does told).tried lands);
      named = tt;
      lands = tt;
    })

pub returns-in-Err-clause-called : goal.returns-in-Err-clause-called
returns-in-Err-clause-called g c =
    called_alike (ap (λ (n : ℕ). map on_disk (append_calls c.args.journal.now (n, c.args.body.now))) c.epoch.view_is) (record {
      same_disk = refl;
      same_secrets = refl;
      later_disk = c.append.ensures.caused.counts.later;
      later_secrets = omega arith;
      counts = counts_fused _ _ _ _ _ c.append.ensures.caused.fused;
      ran = λ known. disk_ran g.D.Disk.made g.X.SecretStore.made _ _ _ _ _ _ (g.met.X.SecretStore.made_none _) c.append.ensures.calls.ran;
      all = λ known. tt;
      not_cut = tt;
    })

pub returns-in-Err-clause-due : goal.returns-in-Err-clause-due
returns-in-Err-clause-due g c =
    let of_devices : IsOfDevices (store_error_of c.in-Err.error) = journal_devices c.in-Err.error
    (λ name place is. c.in-Err.ensures.not_corrupt name place (ap (λ (e : JournalError). Err e) is))
    (λ is. let long = c.in-Err.ensures.too_long.0 (ap (λ (e : JournalError). Err e) is) in omega (arith, long, c.requires.short)) in
    rw c.of_journal.ensures (due_append c.in-Err.error _ _ _ _ of_devices (λ is. c.in-Err.ensures.caused.counts.disk is) (λ is. (cut_reached _ _ _ _ _ c.in-Err.ensures.caused.fused is, λ told. c.in-Err.ensures.caused.lands is told))
    (λ is. ⊎_elim (λ same. inl (returns-in-Err-clause-kept g c, same.0, λ i. record c.args.devices.now { disk = record c.args.devices.now.disk { now = same.1 i }; fuse = same.2 i })) (λ rose. inr rose) (c.in-Err.ensures.memory is)))

pub returns-clause-extends : goal.returns-clause-extends
returns-clause-extends g c told =
    extends_alike c.epoch.view_is refl (record {
      fit = λ limit is fit. may_add_fit limit _ _ _ is (c.append.ensures.grows told).may (c.append.ensures.sound told) fit;
      others = others_of _ _ _ (c.append.ensures.grows told).may;
      names = λ lands. append_names _ _ _ _ _ _ (g.met.D.Disk.reads _ told) ((c.append.ensures.does told).tried lands);
      named = made_name _ _ _ (added_there c.append.new.self _ _ _ _ (c.in_default.ensures.open told) (c.in_default.ensures.grows told).added) (c.in_default.ensures.grows told).added;
      lands = λ lands. ((c.in_default.ensures.does told).done lands).settled;
    })

pub returns-clause-called : goal.returns-clause-called
returns-clause-called g c =
    called_alike (ap (λ (n : ℕ). map on_disk (append_calls c.args.journal.now (n, c.args.body.now))) c.epoch.view_is) (record {
      same_disk = refl;
      same_secrets = refl;
      later_disk = c.append.ensures.caused.counts.later;
      later_secrets = omega arith;
      counts = counts_fused _ _ _ _ _ c.append.ensures.caused.fused;
      ran = λ known. disk_ran g.D.Disk.made g.X.SecretStore.made _ _ _ _ _ _ (g.met.X.SecretStore.made_none _) c.append.ensures.calls.ran;
      all = λ known. disk_all g.D.Disk.made g.X.SecretStore.made _ _ _ _ _ _ (g.met.X.SecretStore.made_none _) c.in_default.ensures.calls.all;
      not_cut = (ok_unreached _ _ _ _ _ c.in_default.ensures.caused.fused);
    })
