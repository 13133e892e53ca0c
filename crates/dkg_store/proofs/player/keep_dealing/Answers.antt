use Rattle.std.proofs.Common.{◌≡◌, List, ℕ, ap, ◌∙◌, inl, inr, ⊎_elim, Err, Option, Some, None, Result, Ok, OnOk, is_ok, Bool, true, false, is_some, sym, subst, ◌++◌, ◌∷◌, [], refl}
use Rattle.std.specs.Prelude.{⊤, not}
use Rattle.std.specs.Ordering.{nat_cmp}
use Rattle.std.specs.FinMap as map
use Rattle.std.specs.Cmp.{nat_cmp_total}
use Rattle.std.proofs.lemmas.Result.{err_from_is_err_and}
use Rattle.dkg_infos.specs.declared.entry.Entry.TheVariants.{Recorded}
use Rattle.dkg_store.specs.Acts.{Say, Goes, broken, by_want}
use Rattle.dkg_store.specs.Calls.{cause_of}
use Rattle.dkg_store.specs.declared.call.StoreError.{StoreError}
use Rattle.dkg_store.specs.Errors.{IsOfDevices}
use Rattle.dkg_store.proofs.Acts.{made_next, made_none, made_say}
use Rattle.dkg_store.proofs.Acting.{then_broken, ended_broken, breaks_off}
use Rattle.dkg_store.proofs.Answering.{recorded_new}
use Rattle.dkg_store.proofs.Left.{called_as, called_unmade, due_around, due_of_devices, due_want, extends_as, extends_unmade, gives_as, gives_unmade}
use Rattle.dkg_secrets.proofs.Map.{remove_insert}
use Rattle.dkg_store.proofs.Own.{took_back}
use Rattle.dkg_store.proofs.player.keep_dealing.Goals as goal

pub returns-in_err-new-clause-acts : goal.returns-in_err-new-clause-acts
returns-in_err-new-clause-acts g c = λ told_disk told_secrets.
    let p = err_from_is_err_and c.from_residual.result c.from_residual.ensures.1 in
    made_none _ _ _ _ by_want tt (ended_broken (λ u. u) c.from_residual.result p.0 p.1 (subst IsOfDevices (sym (p.2 ∙ c.in_err-new.ensures.memory)) tt) ∙ ap (λ (e : StoreError). broken (cause_of e)) (p.2 ∙ c.in_err-new.ensures.memory))

pub returns-in-Err-clause-acts : goal.returns-in-Err-clause-acts
returns-in-Err-clause-acts g c = λ told_disk told_secrets.
    then_broken (λ (b : Bool). Say (Recorded c.args.epoch c.args.dealer c.args.told c.args.private) (Goes tt)) c.in-Err.error (due_of_devices c.in-Err.error _ _ _ _ c.in-Err.ensures.due) (breaks_off c.in-Err.error (due_of_devices c.in-Err.error _ _ _ _ c.in-Err.ensures.due))
    (recorded_new (map.contains_key c.args.store.now.dealings (c.args.epoch, c.args.dealer)) c.args.epoch c.args.dealer c.args.public c.args.private (ap is_some c.requires.new.1)
    (c.in-Err.ensures.acts told_disk told_secrets c.args.out.now.entries))

when_ok : {T E P : Type 0} (r : Result T E) → is_ok r ≡ true → OnOk r P → P
when_ok (Ok x) e p = p
when_ok (Err x) e p = absurd (let h : ◌≡◌ {A = Bool} false true = e in cc)

pub returns-in-Ok-clause-acts : goal.returns-in-Ok-clause-acts
returns-in-Ok-clause-acts g c = λ told_disk told_secrets.
    let said : c.push-pushed.new.self.entries ≡ c.args.out.now.entries ++ Recorded c.args.epoch c.args.dealer c.args.told c.args.private ∷ [] = when_ok c.push-pushed.result (sym c.if-prove.ensures.value) c.push-pushed.ensures.ok in
    made_next (λ (b : Bool). Say (Recorded c.args.epoch c.args.dealer c.args.told c.args.private) (Goes tt))
    (recorded_new (map.contains_key c.args.store.now.dealings (c.args.epoch, c.args.dealer)) c.args.epoch c.args.dealer c.args.public c.args.private (ap is_some c.requires.new.1)
    (c.in-Ok.ensures.acts told_disk told_secrets c.args.out.now.entries))
    (made_say _ _ _ tt _ _ _ _ said)

pub returns-in_err-new-clause-keeps : goal.returns-in_err-new-clause-keeps
returns-in_err-new-clause-keeps g c =
    let p = err_from_is_err_and c.from_residual.result c.from_residual.ensures.1 in
    rw p.1 (record { acks = c.in_err-new.ensures.no_ack; dealings = c.in_err-new.ensures.no_dealing; pairs = refl; rest = record { acks = refl; logs = refl; restored = refl; current = refl }; says = refl; fits = tt })

pub returns-in_err-new-clause-gives : goal.returns-in_err-new-clause-gives
returns-in_err-new-clause-gives g c told =
    let p = err_from_is_err_and c.from_residual.result c.from_residual.ensures.1 in
    rw p.1 (gives_unmade _ None tt _ _ _ _)

pub returns-in_err-new-clause-extends : goal.returns-in_err-new-clause-extends
returns-in_err-new-clause-extends g c told =
    let p = err_from_is_err_and c.from_residual.result c.from_residual.ensures.1 in
    rw p.1 (extends_unmade None tt _ _ _ _)

pub returns-in_err-new-clause-called : goal.returns-in_err-new-clause-called
returns-in_err-new-clause-called g c =
    let p = err_from_is_err_and c.from_residual.result c.from_residual.ensures.1 in
    rw p.1 (called_unmade ⊤ g.D.Disk.made g.X.SecretStore.made g.D.Disk.faults g.X.SecretStore.faults g.met.D.Disk.made_none g.met.X.SecretStore.made_none None tt _ c.args.devices.now)

pub returns-in_err-new-clause-due : goal.returns-in_err-new-clause-due
returns-in_err-new-clause-due g c =
    let p = err_from_is_err_and c.from_residual.result c.from_residual.ensures.1 in
    rw (p.1, p.2) (due_want c.in_err-new.field-0.0 _ _ _ _ _ c.in_err-new.ensures.memory (record { so = inl (c.in_err-new.ensures.no_ack, c.in_err-new.ensures.no_dealing, refl, refl) }))

pub returns-in-Err-clause-keeps : goal.returns-in-Err-clause-keeps
returns-in-Err-clause-keeps g c = record {
  acks =
      c.forget_both.ensures.ack ∙ ap (λ (m : map.FinMap nat_cmp (List ℕ)). map.remove m c.args.dealer) c.in_ok-new.ensures.ack
      ∙ remove_insert nat_cmp_total map.nat_cmp-IsAntisymmetric c.args.acks.now c.args.dealer c.args.ack c.requires.new.0;
  dealings = took_back c.args.dealings.now _ _ c.args.dealer (c.args.public, c.args.private) c.in_ok-new.new c.in_ok-new.ensures.new c.in_ok-new.ensures.dealing c.forget_both.ensures.dealing;
  pairs = c.in-Err.ensures.kept.pairs;
  rest = c.in-Err.ensures.kept.rest;
  says = refl;
  fits = tt;
}

pub returns-in-Err-clause-gives : goal.returns-in-Err-clause-gives
returns-in-Err-clause-gives g c told =
    (c.in-Err.ensures.gives told)

pub returns-in-Err-clause-extends : goal.returns-in-Err-clause-extends
returns-in-Err-clause-extends g c told =
    (c.in-Err.ensures.extends told)

pub returns-in-Err-clause-called : goal.returns-in-Err-clause-called
returns-in-Err-clause-called g c =
    c.in-Err.ensures.called

pub returns-in-Err-clause-due : goal.returns-in-Err-clause-due
returns-in-Err-clause-due g c =
    due_around c.in-Err.error c.in-Err.ensures.due (λ name place none. none) (λ rose. rose) (λ rose. rose) (λ cut. cut)
    (λ want. record { so = ⊎_elim (λ same. inl ((returns-in-Err-clause-keeps g c).acks, (returns-in-Err-clause-keeps g c).dealings, same.0, same.1)) (λ wanted. inr wanted) want.so })

pub returns-in-Ok-clause-keeps : goal.returns-in-Ok-clause-keeps
returns-in-Ok-clause-keeps g c =
    let is_new : c.in-Ok.field-0 ≡ true = c.in-Ok.ensures.known ∙ ap (λ (o : Option (List ℕ × ℕ)). not (is_some o)) c.requires.new.1 in
    let kept = rw is_new at c.in-Ok.ensures.kept in
    record {
      acks = c.in_ok-new.ensures.ack;
      dealings = c.in_ok-new.ensures.dealing;
      pairs = kept.pairs;
      rest = kept.rest;
      says = when_ok c.push-pushed.result (sym c.if-prove.ensures.value) c.push-pushed.ensures.ok;
      fits = c.in_ok-new.ensures.fits;
    }

pub returns-in-Ok-clause-gives : goal.returns-in-Ok-clause-gives
returns-in-Ok-clause-gives g c told =
    let is_new : c.in-Ok.field-0 ≡ true = c.in-Ok.ensures.known ∙ ap (λ (o : Option (List ℕ × ℕ)). not (is_some o)) c.requires.new.1 in
    gives_as (ap (λ (b : Bool). Some b) is_new) (c.in-Ok.ensures.gives told)

pub returns-in-Ok-clause-extends : goal.returns-in-Ok-clause-extends
returns-in-Ok-clause-extends g c told =
    let is_new : c.in-Ok.field-0 ≡ true = c.in-Ok.ensures.known ∙ ap (λ (o : Option (List ℕ × ℕ)). not (is_some o)) c.requires.new.1 in
    extends_as (ap (λ (b : Bool). Some b) is_new) (c.in-Ok.ensures.extends told)

pub returns-in-Ok-clause-called : goal.returns-in-Ok-clause-called
returns-in-Ok-clause-called g c =
    let is_new : c.in-Ok.field-0 ≡ true = c.in-Ok.ensures.known ∙ ap (λ (o : Option (List ℕ × ℕ)). not (is_some o)) c.requires.new.1 in
    called_as (ap (λ (b : Bool). Some b) is_new) c.in-Ok.ensures.called
