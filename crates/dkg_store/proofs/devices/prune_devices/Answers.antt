use Rattle.std.proofs.Common.{inl, inr, ⊎_elim, arith, ℕ, [], ◌∷◌, map, refl, sym, subst}
use Rattle.std.specs.FinMap.{keys}
use Rattle.std.proofs.lemmas.Result.{err_from_is_err_and}
use Rattle.dkg_journal.specs.Fuse.{Ran, RanAll}
use Rattle.dkg_journal.specs.Pruning.{prune_calls}
use Rattle.dkg_journal.proofs.Steps.{then_all, ran_all, ran_more}
use Rattle.dkg_store.specs.Both.{MadeBoth, on_disk, on_secrets}
use Rattle.dkg_store.specs.Errors.{IsOfDevices, store_error_of}
use Rattle.dkg_store.specs.Noted.{acks_in, logs_in, noted_ack, noted_log}
use Rattle.dkg_secrets.specs.declared.secrets.SecretOp.TheVariants.{Prune}
use Rattle.dkg_store.specs.Acts.{EndsBy}
use Rattle.dkg_store.specs.Calls.{cause_of}
use Rattle.dkg_store.specs.declared.call.StoreError.{StoreError}
use Rattle.dkg_store.proofs.Acting.{breaks_off, ended_broken, of_journal_too}
use Rattle.dkg_store.proofs.Making.{journal_end}
use Rattle.dkg_store.proofs.Both.{both_more, disk_all, disk_ran, secret_one}
use Rattle.dkg_store.proofs.Halves.{prune_halves}
use Rattle.dkg_store.proofs.Pruned.{same_left, same_may, same_tried, same_finished, may_leave_holds, left_holds, holds_pruned, gives_pruned, gives_may_leave, gives_left, acks_from, logs_from, may_others, left_others, journal_torn, secrets_torn, both_pruned}
use Rattle.dkg_store.proofs.Fit.{may_leave_fit}
use Rattle.dkg_store.proofs.Named.{prune_names}
use Rattle.dkg_journal.proofs.Fuses.{cut_reached, ok_unreached}
use Rattle.dkg_store.proofs.Counts.{counts_burned, counts_fused, counts_then, reached_behind, uncut_then}
use Rattle.dkg_store.proofs.Left.{due_around, due_journal, due_of_devices}
use Rattle.dkg_store.proofs.devices.prune_devices.Goals as goal

-- THE JOURNAL'S PRUNE WAS ENDED WITHIN

pub returns-in-Err-clause-acts : goal.returns-in-Err-clause-acts
returns-in-Err-clause-acts g c = λ told told_secrets out.
    let of_devices : IsOfDevices (store_error_of c.in-Err.error) = of_journal_too c.in-Err.error c.in-Err.ensures.error_kinds in
    journal_torn c.args.min (cause_of c.of_journal.result) (breaks_off c.of_journal.result (subst IsOfDevices (sym c.of_journal.ensures) of_devices))
    (λ stands. same_tried c.min.view_is ((c.prune.ensures.does told).tried stands.lands))
    (subst (λ (e : StoreError). EndsBy (cause_of e) c.args.devices.now.fuse c.prune.new.fuse) (sym c.of_journal.ensures) (journal_end _ c.in-Err.error refl c.in-Err.ensures.caused.fused))

-- THE SECRETS' PRUNE WAS

pub returns-in_err-perform_secret-clause-acts : goal.returns-in_err-perform_secret-clause-acts
returns-in_err-perform_secret-clause-acts g c = λ told told_secrets out.
    let p = err_from_is_err_and c.from_residual.result c.from_residual.ensures.1 in
    secrets_torn c.args.min (cause_of p.0)
    (ended_broken (λ u. u) c.from_residual.result p.0 p.1 (subst IsOfDevices (sym p.2) (due_of_devices c.in_err-perform_secret.field-0.0 _ _ _ _ c.in_err-perform_secret.ensures.due)))
    (λ stands. same_finished c.min.view_is ((c.in_default.ensures.does told).done stands.lands)) (g.met.D.Disk.reads _ told) c.perform_secret.ensures.crash c.perform_secret.ensures.counted
    (subst (λ (e : StoreError). EndsBy (cause_of e) c.prune.new.fuse c.perform_secret.new.fuse) (sym p.2) c.in_err-perform_secret.ensures.ends)

-- BOTH ARE DONE

pub returns-clause-acts : goal.returns-clause-acts
returns-clause-acts g c = λ told told_secrets out.
    both_pruned c.args.min refl
    (λ stands. same_finished c.min.view_is ((c.in_default.ensures.does told).done stands.lands)) (g.met.D.Disk.reads _ told) (c.in_ok-perform_secret.ensures.done told_secrets) c.perform_secret.ensures.counted

-- THE CALLS

pub returns-in-Err-clause-gives : goal.returns-in-Err-clause-gives
returns-in-Err-clause-gives g c told =
    record {
      pairs = λ pairs holds. may_leave_holds c.args.min _ pairs _ _ (same_may c.min.view_is (c.prune.ensures.thins told).may) holds;
      acks = λ acks gives. gives_may_leave noted_ack acks_from c.args.min acks _ _ (same_may c.min.view_is (c.prune.ensures.thins told).may) gives;
      logs = λ logs gives. gives_may_leave noted_log logs_from c.args.min logs _ _ (same_may c.min.view_is (c.prune.ensures.thins told).may) gives;
      all_pairs = tt;
      all_acks = tt;
      all_logs = tt;
    }

pub returns-in-Err-clause-shrinks : goal.returns-in-Err-clause-shrinks
returns-in-Err-clause-shrinks g c told =
    record {
      fit = λ limit fit. may_leave_fit limit _ _ _ (c.prune.ensures.thins told).may (c.prune.ensures.sound told) fit;
      plan = may_others _ _ _ (c.prune.ensures.thins told).may;
      names = prune_names c.args.min _ _ (same_may c.min.view_is (c.prune.ensures.thins told).may);
      left = tt;
      lands = tt;
    }

pub returns-in_err-perform_secret-clause-gives : goal.returns-in_err-perform_secret-clause-gives
returns-in_err-perform_secret-clause-gives g c told =
    let p = err_from_is_err_and c.from_residual.result c.from_residual.ensures.1 in
    rw p.1 (record {
      pairs = λ pairs holds. holds_pruned c.args.min pairs _ _ (left_holds c.args.min _ _ (λ k above. prune_halves c.args.min _ _ k c.perform_secret.ensures.crash above) pairs _ _ (same_left c.min.view_is (c.in_default.ensures.thins told).left) holds);
      acks = λ acks gives. gives_pruned acks_in c.args.min acks _ (gives_left noted_ack c.args.min (acks_from c.args.min) acks _ _ (same_left c.min.view_is (c.in_default.ensures.thins told).left) gives);
      logs = λ logs gives. gives_pruned logs_in c.args.min logs _ (gives_left noted_log c.args.min (logs_from c.args.min) logs _ _ (same_left c.min.view_is (c.in_default.ensures.thins told).left) gives);
      all_pairs = tt;
      all_acks = tt;
      all_logs = tt;
    })

pub returns-in_err-perform_secret-clause-shrinks : goal.returns-in_err-perform_secret-clause-shrinks
returns-in_err-perform_secret-clause-shrinks g c told =
    let p = err_from_is_err_and c.from_residual.result c.from_residual.ensures.1 in
    rw p.1 (record {
      fit = λ limit fit. may_leave_fit limit _ _ _ (c.prune.ensures.thins told).may (c.prune.ensures.sound told) fit;
      plan = left_others _ _ _ (c.in_default.ensures.thins told).left;
      names = prune_names c.args.min _ _ (same_may c.min.view_is (c.prune.ensures.thins told).may);
      left = tt;
      lands = tt;
    })

pub returns-clause-gives : goal.returns-clause-gives
returns-clause-gives g c told =
    record {
      pairs = λ pairs holds. holds_pruned c.args.min pairs _ _ (left_holds c.args.min _ _ (λ k above. prune_halves c.args.min _ _ k c.perform_secret.ensures.crash above) pairs _ _ (same_left c.min.view_is (c.in_default.ensures.thins told).left) holds);
      acks = λ acks gives. gives_pruned acks_in c.args.min acks _ (gives_left noted_ack c.args.min (acks_from c.args.min) acks _ _ (same_left c.min.view_is (c.in_default.ensures.thins told).left) gives);
      logs = λ logs gives. gives_pruned logs_in c.args.min logs _ (gives_left noted_log c.args.min (logs_from c.args.min) logs _ _ (same_left c.min.view_is (c.in_default.ensures.thins told).left) gives);
      all_pairs = λ pairs holds. left_holds c.args.min _ _ (λ k above. prune_halves c.args.min _ _ k c.perform_secret.ensures.crash above) pairs _ _ (same_left c.min.view_is (c.in_default.ensures.thins told).left) holds;
      all_acks = λ acks gives. gives_left noted_ack c.args.min (acks_from c.args.min) acks _ _ (same_left c.min.view_is (c.in_default.ensures.thins told).left) gives;
      all_logs = λ logs gives. gives_left noted_log c.args.min (logs_from c.args.min) logs _ _ (same_left c.min.view_is (c.in_default.ensures.thins told).left) gives;
    }

pub returns-clause-shrinks : goal.returns-clause-shrinks
returns-clause-shrinks g c told =
    record {
      fit = λ limit fit. may_leave_fit limit _ _ _ (c.prune.ensures.thins told).may (c.prune.ensures.sound told) fit;
      plan = left_others _ _ _ (c.in_default.ensures.thins told).left;
      names = prune_names c.args.min _ _ (same_may c.min.view_is (c.prune.ensures.thins told).may);
      left = same_left c.min.view_is (c.in_default.ensures.thins told).left;
      lands = λ lands. ((c.in_default.ensures.does told).done lands).settled;
    }

pub returns-in-Err-clause-called : goal.returns-in-Err-clause-called
returns-in-Err-clause-called g c =
    record {
      same_disk = refl;
      same_secrets = refl;
      later_disk = c.prune.ensures.caused.counts.later;
      later_secrets = omega arith;
      counts = counts_fused _ _ _ _ _ c.prune.ensures.caused.fused;
      ran = λ told. ran_more _ _ _ _ _ (map on_disk (prune_calls c.args.min (keys (g.D.Disk.files c.args.devices.now.disk.now)))) (on_secrets (Prune c.args.min) ∷ [])
          (disk_ran g.D.Disk.made g.X.SecretStore.made _ _ _ _ _ _ (g.met.X.SecretStore.made_none _)
          (subst (λ (n : ℕ). Ran g.D.Disk.made c.args.devices.now.disk.now c.prune.new.disk c.args.devices.now.fuse c.prune.new.fuse (prune_calls n (keys (g.D.Disk.files c.args.devices.now.disk.now)))) c.min.view_is (c.prune.ensures.calls told).ran));
      all = λ told. tt;
      not_cut = tt;
    }

pub returns-in_err-perform_secret-clause-called : goal.returns-in_err-perform_secret-clause-called
returns-in_err-perform_secret-clause-called g c =
    let p = err_from_is_err_and c.from_residual.result c.from_residual.ensures.1 in
    rw p.1 (record {
      same_disk = refl;
      same_secrets = refl;
      later_disk = c.prune.ensures.caused.counts.later;
      later_secrets = c.perform_secret.ensures.later;
      counts = counts_then _ _ _ (counts_fused _ _ _ _ _ c.prune.ensures.caused.fused) (counts_burned (Prune c.args.min ∷ []) _ _ c.perform_secret.ensures.counted);
      ran = λ told. ran_all _ _ _ _ _ _ (
          then_all (MadeBoth g.D.Disk.made g.X.SecretStore.made) (both_more _ _ g.met.D.Disk.made_more g.met.X.SecretStore.made_more) _ _ _ _ _ _ (map on_disk (prune_calls c.args.min (keys (g.D.Disk.files c.args.devices.now.disk.now)))) (on_secrets (Prune c.args.min) ∷ [])
          (disk_all g.D.Disk.made g.X.SecretStore.made _ _ _ _ _ _ (g.met.X.SecretStore.made_none _)
          (subst (λ (n : ℕ). RanAll g.D.Disk.made c.args.devices.now.disk.now c.prune.new.disk c.args.devices.now.fuse c.prune.new.fuse (prune_calls n (keys (g.D.Disk.files c.args.devices.now.disk.now)))) c.min.view_is (c.in_default.ensures.calls told).all))
          (secret_one g.D.Disk.made g.X.SecretStore.made _ _ _ _ _ (Prune c.args.min) (g.met.D.Disk.made_none _) c.perform_secret.ensures.calls c.perform_secret.ensures.counted));
      all = λ told. tt;
      not_cut = tt;
    })

pub returns-clause-called : goal.returns-clause-called
returns-clause-called g c =
    record {
      same_disk = refl;
      same_secrets = refl;
      later_disk = c.prune.ensures.caused.counts.later;
      later_secrets = c.perform_secret.ensures.later;
      counts = counts_then _ _ _ (counts_fused _ _ _ _ _ c.prune.ensures.caused.fused) (counts_burned (Prune c.args.min ∷ []) _ _ c.perform_secret.ensures.counted);
      ran = λ told. ran_all _ _ _ _ _ _ (then_all (MadeBoth g.D.Disk.made g.X.SecretStore.made) (both_more _ _ g.met.D.Disk.made_more g.met.X.SecretStore.made_more) _ _ _ _ _ _ (map on_disk (prune_calls c.args.min (keys (g.D.Disk.files c.args.devices.now.disk.now)))) (on_secrets (Prune c.args.min) ∷ [])
          (disk_all g.D.Disk.made g.X.SecretStore.made _ _ _ _ _ _ (g.met.X.SecretStore.made_none _)
          (subst (λ (n : ℕ). RanAll g.D.Disk.made c.args.devices.now.disk.now c.prune.new.disk c.args.devices.now.fuse c.prune.new.fuse (prune_calls n (keys (g.D.Disk.files c.args.devices.now.disk.now)))) c.min.view_is (c.in_default.ensures.calls told).all))
          (secret_one g.D.Disk.made g.X.SecretStore.made _ _ _ _ _ (Prune c.args.min) (g.met.D.Disk.made_none _) c.perform_secret.ensures.calls c.perform_secret.ensures.counted));
      all = λ told. then_all (MadeBoth g.D.Disk.made g.X.SecretStore.made) (both_more _ _ g.met.D.Disk.made_more g.met.X.SecretStore.made_more) _ _ _ _ _ _ (map on_disk (prune_calls c.args.min (keys (g.D.Disk.files c.args.devices.now.disk.now)))) (on_secrets (Prune c.args.min) ∷ [])
          (disk_all g.D.Disk.made g.X.SecretStore.made _ _ _ _ _ _ (g.met.X.SecretStore.made_none _)
          (subst (λ (n : ℕ). RanAll g.D.Disk.made c.args.devices.now.disk.now c.prune.new.disk c.args.devices.now.fuse c.prune.new.fuse (prune_calls n (keys (g.D.Disk.files c.args.devices.now.disk.now)))) c.min.view_is (c.in_default.ensures.calls told).all))
          (secret_one g.D.Disk.made g.X.SecretStore.made _ _ _ _ _ (Prune c.args.min) (g.met.D.Disk.made_none _) c.perform_secret.ensures.calls c.perform_secret.ensures.counted);
      not_cut = uncut_then _ _ _ (counts_burned (Prune c.args.min ∷ []) _ _ c.perform_secret.ensures.counted) (ok_unreached _ _ _ _ _ c.in_default.ensures.caused.fused) c.in_ok-perform_secret.ensures.not_cut;
    }

pub returns-in-Err-clause-due : goal.returns-in-Err-clause-due
returns-in-Err-clause-due g c =
    rw c.of_journal.ensures (due_journal c.in-Err.error _ _ _ _ c.in-Err.ensures.error_kinds (λ is. (c.in-Err.ensures.caused.counts.disk is, refl))
    (λ is. (cut_reached _ _ _ _ _ c.in-Err.ensures.caused.fused is, λ told lands. c.in-Err.ensures.caused.lands is told))
    (λ is. record { so = ⊎_elim (λ same. inl (same.0, same.1, same.2, refl, same.3)) (λ rose. inr (record { so = inl rose })) (c.in-Err.ensures.memory is) }))

pub returns-in_err-perform_secret-clause-due : goal.returns-in_err-perform_secret-clause-due
returns-in_err-perform_secret-clause-due g c =
    let p = err_from_is_err_and c.from_residual.result c.from_residual.ensures.1 in
    rw (p.1, p.2) (due_around c.in_err-perform_secret.field-0.0 c.in_err-perform_secret.ensures.due (λ name place none. none) (λ none. absurd none) (λ rose. rose)
    (λ cut. (reached_behind _ _ _ (counts_fused _ _ _ _ _ c.prune.ensures.caused.fused) cut, λ told lands. ((c.in_default.ensures.does told).done lands).settled)) (λ want. record { so = inr (record { so = inr want.0 }) }))
