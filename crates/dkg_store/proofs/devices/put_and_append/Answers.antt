use Rattle.std.proofs.Common.{None, inl, inr, arith, [], ◌∷◌, map, refl, sym, subst}
use Rattle.dkg_store.specs.Errors.{IsOfDevices}
use Rattle.std.proofs.lemmas.Result.{err_from_is_err_and}
use Rattle.dkg_store.specs.Acts.{EndsBy}
use Rattle.dkg_store.specs.Calls.{cause_of}
use Rattle.dkg_store.specs.declared.call.StoreError.{StoreError}
use Rattle.dkg_store.proofs.Acting.{append_torn, both_done, breaks_off, ended_broken, of_journal_too, put_torn}
use Rattle.dkg_store.proofs.Making.{journal_end}
use Rattle.dkg_journal.specs.Journals.{append_calls}
use Rattle.dkg_journal.proofs.Steps.{then_all, then_ran, ran_all, ran_first}
use Rattle.dkg_store.specs.Both.{MadeBoth, on_disk, on_secrets}
use Rattle.dkg_store.proofs.Both.{both_more, disk_all, disk_ran, secret_one}
use Rattle.dkg_store.proofs.Others.{not_added, others_of}
use Rattle.dkg_store.proofs.Fit.{may_add_fit}
use Rattle.dkg_journal.proofs.Journals.{added_there}
use Rattle.dkg_store.proofs.Named.{append_names, made_name}
use Rattle.dkg_journal.proofs.Fuses.{cut_reached, ok_unreached}
use Rattle.dkg_store.proofs.Counts.{counts_burned, counts_fused, counts_then, reached_behind, uncut_then}
use Rattle.dkg_store.proofs.Left.{due_around, due_journal, due_of_devices, extends_unmade}
use Rattle.dkg_store.proofs.devices.put_and_append.Goals as goal

pub returns-in_err-perform_secret-clause-images : goal.returns-in_err-perform_secret-clause-images
returns-in_err-perform_secret-clause-images g c told = not_added (c.args.section, c.args.body.now) _

pub returns-in_err-perform_secret-clause-acts : goal.returns-in_err-perform_secret-clause-acts
returns-in_err-perform_secret-clause-acts g c = λ told_disk told_secrets out.
    let p = err_from_is_err_and c.from_residual.result c.from_residual.ensures.1 in
    put_torn c.args.put.now (c.args.section, c.args.body.now) tt (cause_of p.0)
    (ended_broken (λ u. u) c.from_residual.result p.0 p.1 (subst IsOfDevices (sym p.2) (due_of_devices c.in_err-perform_secret.field-0.0 _ _ _ _ c.in_err-perform_secret.ensures.due)))
    c.perform_secret.ensures.crash c.perform_secret.ensures.counted (subst (λ (e : StoreError). EndsBy (cause_of e) c.args.devices.now.fuse c.perform_secret.new.fuse) (sym p.2) c.in_err-perform_secret.ensures.ends)

pub returns-in-Err-clause-acts : goal.returns-in-Err-clause-acts
returns-in-Err-clause-acts g c = λ told_disk told_secrets out.
    append_torn c.args.put.now (c.args.section, c.args.body.now) tt (cause_of c.of_journal.result)
    (breaks_off c.of_journal.result (subst IsOfDevices (sym c.of_journal.ensures) (of_journal_too c.in-Err.error c.in-Err.ensures.error_kinds)))
    (c.in_ok-perform_secret.ensures.done told_secrets) c.perform_secret.ensures.counted (λ stands. (c.append_ready.ensures.does told_disk).tried stands.lands)
    (subst (λ (e : StoreError). EndsBy (cause_of e) c.perform_secret.new.fuse c.append_ready.new.fuse) (sym c.of_journal.ensures) (journal_end _ c.in-Err.error refl c.in-Err.ensures.caused.fused))

pub returns-in-Ok-clause-acts : goal.returns-in-Ok-clause-acts
returns-in-Ok-clause-acts g c = λ told_disk told_secrets out.
    both_done c.args.put.now (c.args.section, c.args.body.now) tt refl (c.in_ok-perform_secret.ensures.done told_secrets) c.perform_secret.ensures.counted
    (λ stands. (c.in-Ok.ensures.does told_disk).done stands.lands) (g.met.D.Disk.reads _ told_disk)

pub returns-in_err-perform_secret-clause-called : goal.returns-in_err-perform_secret-clause-called
returns-in_err-perform_secret-clause-called g c =
    let p = err_from_is_err_and c.from_residual.result c.from_residual.ensures.1 in
    rw p.1 (record {
      same_disk = refl;
      same_secrets = refl;
      later_disk = omega arith;
      later_secrets = c.perform_secret.ensures.later;
      counts = counts_burned (c.args.put.now ∷ []) _ _ c.perform_secret.ensures.counted;
      ran = λ known. ran_first _ _ _ _ _ (on_secrets c.args.put.now ∷ []) (map on_disk (append_calls c.args.journal.now (c.args.section, c.args.body.now)))
          (secret_one g.D.Disk.made g.X.SecretStore.made _ _ _ _ _ c.args.put.now (g.met.D.Disk.made_none _) c.perform_secret.ensures.calls c.perform_secret.ensures.counted);
      all = λ known. tt;
      not_cut = tt;
    })

pub returns-in_err-perform_secret-clause-due : goal.returns-in_err-perform_secret-clause-due
returns-in_err-perform_secret-clause-due g c =
    let p = err_from_is_err_and c.from_residual.result c.from_residual.ensures.1 in
    rw (p.1, p.2) (due_around c.in_err-perform_secret.field-0.0 c.in_err-perform_secret.ensures.due (λ name place none. none) (λ none. absurd none) (λ rose. (rose, refl)) (λ cut. (cut, λ told lands. lands))
    (λ want. record { so = inr want.0 }))

pub returns-in_err-perform_secret-clause-extends : goal.returns-in_err-perform_secret-clause-extends
returns-in_err-perform_secret-clause-extends g c told =
    let p = err_from_is_err_and c.from_residual.result c.from_residual.ensures.1 in
    rw p.1 (extends_unmade None tt c.args.section c.args.body.now _ _)

pub returns-in-Err-clause-called : goal.returns-in-Err-clause-called
returns-in-Err-clause-called g c = record {
  same_disk = refl;
  same_secrets = refl;
  later_disk = c.append_ready.ensures.caused.counts.later;
  later_secrets = c.perform_secret.ensures.later;
  counts = counts_then _ _ _ (counts_burned (c.args.put.now ∷ []) _ _ c.perform_secret.ensures.counted) (counts_fused _ _ _ _ _ c.append_ready.ensures.caused.fused);
  ran = λ known.
      then_ran (MadeBoth g.D.Disk.made g.X.SecretStore.made) (both_more _ _ g.met.D.Disk.made_more g.met.X.SecretStore.made_more) _ _ _ _ _ _ (on_secrets c.args.put.now ∷ []) _
      (secret_one g.D.Disk.made g.X.SecretStore.made _ _ _ _ _ c.args.put.now (g.met.D.Disk.made_none _) c.perform_secret.ensures.calls c.perform_secret.ensures.counted)
      (disk_ran g.D.Disk.made g.X.SecretStore.made _ _ _ _ _ _ (g.met.X.SecretStore.made_none _) c.append_ready.ensures.calls.ran);
  all = λ known. tt;
  not_cut = tt;
}

pub returns-in-Err-clause-due : goal.returns-in-Err-clause-due
returns-in-Err-clause-due g c =
    rw c.of_journal.ensures (due_journal c.in-Err.error _ _ _ _ c.in-Err.ensures.error_kinds (λ is. c.in-Err.ensures.caused.counts.disk is)
    (λ is. (reached_behind _ _ _ (counts_burned (c.args.put.now ∷ []) _ _ c.perform_secret.ensures.counted) (cut_reached _ _ _ _ _ c.in-Err.ensures.caused.fused is), λ told lands. c.in-Err.ensures.caused.lands is told))
    (λ is. record { so = inl (c.in-Err.ensures.wanted is) }))

pub returns-in-Err-clause-extends : goal.returns-in-Err-clause-extends
returns-in-Err-clause-extends g c told = record {
  fit = λ limit is fit. may_add_fit limit _ _ _ is (c.append_ready.ensures.grows told).may (c.append_ready.ensures.sound told) fit;
  others = others_of (c.args.section, c.args.body.now) _ _ (c.append_ready.ensures.grows told).may;
  names = λ lands. append_names _ _ _ _ _ _ (g.met.D.Disk.reads _ told) ((c.append_ready.ensures.does told).tried lands);
  named = tt;
  lands = tt;
}

pub returns-in-Ok-clause-called : goal.returns-in-Ok-clause-called
returns-in-Ok-clause-called g c =
    let all =
    then_all (MadeBoth g.D.Disk.made g.X.SecretStore.made) (both_more _ _ g.met.D.Disk.made_more g.met.X.SecretStore.made_more) _ _ _ _ _ _ (on_secrets c.args.put.now ∷ []) _
    (secret_one g.D.Disk.made g.X.SecretStore.made _ _ _ _ _ c.args.put.now (g.met.D.Disk.made_none _) c.perform_secret.ensures.calls c.perform_secret.ensures.counted)
    (disk_all g.D.Disk.made g.X.SecretStore.made _ _ _ _ _ _ (g.met.X.SecretStore.made_none _) c.in-Ok.ensures.calls.all) in
    let put = counts_burned (c.args.put.now ∷ []) _ _ c.perform_secret.ensures.counted in
    let append = counts_fused _ _ _ _ _ c.append_ready.ensures.caused.fused in
    record {
      same_disk = refl;
      same_secrets = refl;
      later_disk = c.append_ready.ensures.caused.counts.later;
      later_secrets = c.perform_secret.ensures.later;
      counts = counts_then _ _ _ put append;
      ran = λ known. ran_all _ _ _ _ _ _ all;
      all = λ known. all;
      not_cut = uncut_then _ _ _ append c.in_ok-perform_secret.ensures.not_cut (ok_unreached _ _ _ _ _ c.in-Ok.ensures.caused.fused);
    }

pub returns-in-Ok-clause-extends : goal.returns-in-Ok-clause-extends
returns-in-Ok-clause-extends g c told = record {
  fit = λ limit is fit. may_add_fit limit _ _ _ is (c.append_ready.ensures.grows told).may (c.append_ready.ensures.sound told) fit;
  others = others_of (c.args.section, c.args.body.now) _ _ (c.append_ready.ensures.grows told).may;
  names = λ lands. append_names _ _ _ _ _ _ (g.met.D.Disk.reads _ told) ((c.append_ready.ensures.does told).tried lands);
  named = made_name _ _ _ (added_there c.append_ready.new.self _ _ _ _ (c.in-Ok.ensures.open told) (c.in-Ok.ensures.grows told).added) (c.in-Ok.ensures.grows told).added;
  lands = λ lands. ((c.in-Ok.ensures.does told).done lands).settled;
}
