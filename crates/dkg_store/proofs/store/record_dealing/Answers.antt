use Rattle.std.proofs.Common.{◌≡◌, None, inl, inr, refl, sym, subst, ap, ◌∙◌}
use Rattle.std.specs.Prelude.{⊤, IsTrue}
use Rattle.std.proofs.lemmas.Result.{err_from_is_err_and}
use Rattle.std.specs.FinMap as map
use Rattle.dkg_store.specs.Pairs.{Pairs}
use Rattle.dkg_store.specs.Acts.{broken, by_want}
use Rattle.dkg_store.specs.Calls.{cause_of, ended}
use Rattle.dkg_store.specs.Errors.{IsOfDevices}
use Rattle.dkg_store.specs.declared.call.StoreError.{StoreError}
use Rattle.dkg_store.proofs.Acts.{made_none}
use Rattle.dkg_store.proofs.Acting.{ended_broken, made_alike}
use Rattle.dkg_store.proofs.Left.{called_alike, calls_alike, called_unmade, due_around, extends_alike, extends_unmade, gives_put, gives_recorded, gives_unmade}
use Rattle.dkg_secrets.proofs.Map.{remove_insert, keys_total, exact_keys}
use Rattle.dkg_store.proofs.store.record_dealing.Goals as goal

pub returns-in-Err-clause-kept : goal.returns-in-Err-clause-kept
returns-in-Err-clause-kept g c =
    c.remove-in-Err.ensures ∙ ap (λ (m : Pairs). map.remove m (c.args.epoch, c.args.dealer)) c.in_ok-insert.ensures.done
    ∙ remove_insert keys_total exact_keys c.args.dealings.now (c.args.epoch, c.args.dealer) (c.args.public, c.args.private) c.requires.new

pub returns-in-Err-clause-acts : goal.returns-in-Err-clause-acts
returns-in-Err-clause-acts g c = λ told_disk told_secrets out.
    made_alike c.requires.ready.puts c.epoch.view_is (c.deref-2.ensures.value ∙ c.requires.ready.body) (c.in-Err.ensures.acts told_disk told_secrets out)

pub returns-clause-acts : goal.returns-clause-acts
returns-clause-acts g c = λ told_disk told_secrets out.
    made_alike c.requires.ready.puts c.epoch.view_is (c.deref-2.ensures.value ∙ c.requires.ready.body) (c.in_default-put_and_append.ensures.acts told_disk told_secrets out)

pub returns-in_default-clause-kept : goal.returns-in_default-clause-kept
returns-in_default-clause-kept g c =
    c.remove.ensures ∙ ap (λ (m : Pairs). map.remove m (c.args.epoch, c.args.dealer)) c.in_ok-insert.ensures.done
    ∙ remove_insert keys_total exact_keys c.args.dealings.now (c.args.epoch, c.args.dealer) (c.args.public, c.args.private) c.requires.new

pub returns-in_err-insert-clause-acts : goal.returns-in_err-insert-clause-acts
returns-in_err-insert-clause-acts g c = λ told_disk told_secrets out.
    let p = err_from_is_err_and c.from_residual.result c.from_residual.ensures.1 in
    made_none _ _ _ _ by_want tt (subst (λ (e : StoreError). ended c.from_residual.result ≡ broken (cause_of e)) p.2 (ended_broken (λ (u : Unit {0}). u) c.from_residual.result p.0 p.1 (subst IsOfDevices (sym p.2) tt)))

pub returns-in_err-insert-clause-kept : goal.returns-in_err-insert-clause-kept
returns-in_err-insert-clause-kept g c =
    let p = err_from_is_err_and c.from_residual.result c.from_residual.ensures.1 in
    rw p.1 c.in_err-insert.ensures.kept

pub returns-in_err-insert-clause-gives : goal.returns-in_err-insert-clause-gives
returns-in_err-insert-clause-gives g c told =
    let p = err_from_is_err_and c.from_residual.result c.from_residual.ensures.1 in
    rw p.1 (gives_unmade _ None tt _ _ _ _)

pub returns-in_err-insert-clause-extends : goal.returns-in_err-insert-clause-extends
returns-in_err-insert-clause-extends g c told =
    let p = err_from_is_err_and c.from_residual.result c.from_residual.ensures.1 in
    rw p.1 (extends_unmade None tt _ _ _ _)

pub returns-in_err-insert-clause-called : goal.returns-in_err-insert-clause-called
returns-in_err-insert-clause-called g c =
    let p = err_from_is_err_and c.from_residual.result c.from_residual.ensures.1 in
    rw p.1 (called_unmade ⊤ g.D.Disk.made g.X.SecretStore.made g.D.Disk.faults g.X.SecretStore.faults g.met.D.Disk.made_none g.met.X.SecretStore.made_none None tt _ c.args.devices.now)

pub returns-in_err-insert-clause-due : goal.returns-in_err-insert-clause-due
returns-in_err-insert-clause-due g c =
    let p = err_from_is_err_and c.from_residual.result c.from_residual.ensures.1 in
    rw (p.1, p.2) (record { so = inl (c.in_err-insert.ensures.kept, refl, refl) })

pub returns-in_default-clause-gives : goal.returns-in_default-clause-gives
returns-in_default-clause-gives g c told = gives_unmade _ None tt _ _ _ _

pub returns-in_default-clause-extends : goal.returns-in_default-clause-extends
returns-in_default-clause-extends g c told = extends_unmade None tt _ _ _ _

pub returns-in_default-clause-called : goal.returns-in_default-clause-called
returns-in_default-clause-called g c =
    called_unmade ⊤ g.D.Disk.made g.X.SecretStore.made g.D.Disk.faults g.X.SecretStore.faults g.met.D.Disk.made_none g.met.X.SecretStore.made_none None tt _ c.args.devices.now

pub returns-in_default-clause-due : goal.returns-in_default-clause-due
returns-in_default-clause-due g c = record { so = inl (returns-in_default-clause-kept g c, c.in_default.ensures.kept, refl) }

pub returns-in-Err-clause-gives : goal.returns-in-Err-clause-gives
returns-in-Err-clause-gives g c told =
    gives_put (IsTrue g.X.SecretStore.tells) c.args.epoch c.args.dealer c.args.private c.args.public c.requires.ready.fits c.args.dealings.now c.requires.new c.requires.ready.puts c.epoch.view_is (c.deref-2.ensures.value ∙ c.requires.ready.body) _ _ _ _ (c.put_and_append.ensures.images told) (c.put_and_append.ensures.steps told)

pub returns-in-Err-clause-extends : goal.returns-in-Err-clause-extends
returns-in-Err-clause-extends g c told = extends_alike c.epoch.view_is (c.deref-2.ensures.value ∙ c.requires.ready.body) (c.in-Err.ensures.extends told)

pub returns-in-Err-clause-called : goal.returns-in-Err-clause-called
returns-in-Err-clause-called g c =
    called_alike (calls_alike c.args.journal.now c.ready.new.self c.requires.ready.puts c.epoch.view_is (c.deref-2.ensures.value ∙ c.requires.ready.body) c.ready.ensures.places) c.in-Err.ensures.called

pub returns-in-Err-clause-due : goal.returns-in-Err-clause-due
returns-in-Err-clause-due g c = due_around c.in-Err.error c.in-Err.ensures.due (λ name place none. none) (λ rose. rose) (λ rose. rose) (λ cut. cut) (λ want. record { so = inr want })

pub returns-clause-gives : goal.returns-clause-gives
returns-clause-gives g c told =
    gives_recorded (IsTrue g.X.SecretStore.tells) c.args.epoch c.args.dealer c.args.private c.args.public c.requires.ready.fits c.args.dealings.now c.requires.new c.requires.ready.puts c.epoch.view_is (c.deref-2.ensures.value ∙ c.requires.ready.body) _ _ _ _ (c.put_and_append.ensures.images told) (c.put_and_append.ensures.steps told) c.in_default-put_and_append.ensures.done (c.in_default-put_and_append.ensures.added told)

pub returns-clause-extends : goal.returns-clause-extends
returns-clause-extends g c told = extends_alike c.epoch.view_is (c.deref-2.ensures.value ∙ c.requires.ready.body) (c.in_default-put_and_append.ensures.extends told)

pub returns-clause-called : goal.returns-clause-called
returns-clause-called g c =
    called_alike (calls_alike c.args.journal.now c.ready.new.self c.requires.ready.puts c.epoch.view_is (c.deref-2.ensures.value ∙ c.requires.ready.body) c.ready.ensures.places) c.in_default-put_and_append.ensures.called
