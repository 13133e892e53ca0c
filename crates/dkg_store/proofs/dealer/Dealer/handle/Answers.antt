use Rattle.std.proofs.Common.{inl, inr, ⊎_elim, Bool, true, false, Some, None, is_some, refl, sym, ap, subst, ◌∙◌}
use Rattle.std.specs.Prelude.{◌||◌, ⊤, not}
use Rattle.std.specs.Cmp.{nat_cmp_total}
use Rattle.std.specs.FinMap as map
use Rattle.std.proofs.lemmas.Result.{err_from_is_err_and}
use Rattle.dkg_store.specs.Dealer.{AckMap, IsDealerOf, ack_outcome_of}
use Rattle.dkg_store.specs.Events.{event_spelling}
use Rattle.dkg_store.specs.Noted.{noted_ack, noted_log}
use Rattle.dkg_store.specs.declared.event.Event.TheVariants as events
use Rattle.dkg_store.proofs.Acking.{ack_kept_as, acking_done, acking_broken, check_answers, check_due, ok_alone, outcome_there, store_alone}
use Rattle.dkg_store.proofs.Acting.{breaks_off}
use Rattle.dkg_store.proofs.Appended.{is_none}
use Rattle.dkg_store.proofs.Dealing.{counts_one}
use Rattle.dkg_store.proofs.Handling.{made_new, made_old}
use Rattle.dkg_store.proofs.Left.{called_as, called_unmade, due_around, due_of_devices, due_want, extends_as, extends_unmade, note_as, note_unmade, unmade_as}
use Rattle.dkg_secrets.proofs.Map.{remove_insert}
use Rattle.dkg_store.proofs.dealer.Dealer.handle.Goals as goal

pub returns-in-Ok-true-clause-dealer : goal.returns-in-Ok-true-clause-dealer
returns-in-Ok-true-clause-dealer g c = λ is.
    subst (λ (m : AckMap). IsDealerOf g.C.Ceremony.deal_of g.C.Ceremony.check_ack_of (record c.args.self.now { acks = m })) (sym c.in_ok-keep_ack.ensures.done)
    (counts_one g.C.Ceremony.deal_of g.C.Ceremony.check_ack_of c.args.self.now c.args.player c.args.ack c.in_ok-check.ensures.passed is)

pub returns-in-Ok-false-clause-dealer : goal.returns-in-Ok-false-clause-dealer
returns-in-Ok-false-clause-dealer g c = λ is.
    subst (λ (m : AckMap). IsDealerOf g.C.Ceremony.deal_of g.C.Ceremony.check_ack_of (record c.args.self.now { acks = m })) (sym c.in_ok-keep_ack.ensures.done)
    (counts_one g.C.Ceremony.deal_of g.C.Ceremony.check_ack_of c.args.self.now c.args.player c.args.ack c.in_ok-check.ensures.passed is)

pub returns-in-Ok-true-clause-acts : goal.returns-in-Ok-true-clause-acts
returns-in-Ok-true-clause-acts g c = λ told out.
    acking_done (g.C.Ceremony.check_ack_of c.args.self.now.round c.args.self.now.me c.args.self.now.public c.args.player c.args.ack) (is_some (map.get c.args.self.now.acks c.args.player)) (map.contains_key c.args.store.now.acks (c.args.epoch, c.args.player)) (c.args.epoch, event_spelling (events.Ack c.args.player c.args.ack))
    c.in_ok-check.ensures.passed (ap is_some (sym c.kept_ack.ensures) ∙ sym c.is_some.ensures ∙ c.if-is_some.false) c.in-Ok-true.field-0 true c.in-Ok-true.field-0-test (c.in-Ok-true.ensures.acts told out)

pub returns-in-Ok-false-clause-acts : goal.returns-in-Ok-false-clause-acts
returns-in-Ok-false-clause-acts g c = λ told out.
    acking_done (g.C.Ceremony.check_ack_of c.args.self.now.round c.args.self.now.me c.args.self.now.public c.args.player c.args.ack) (is_some (map.get c.args.self.now.acks c.args.player)) (map.contains_key c.args.store.now.acks (c.args.epoch, c.args.player)) (c.args.epoch, event_spelling (events.Ack c.args.player c.args.ack))
    c.in_ok-check.ensures.passed (ap is_some (sym c.kept_ack.ensures) ∙ sym c.is_some.ensures ∙ c.if-is_some.false) c.in-Ok-false.field-0 false c.in-Ok-false.field-0-test (c.in-Ok-false.ensures.acts told out)

pub returns-in-Err-clause-handled : goal.returns-in-Err-clause-handled
returns-in-Err-clause-handled g c = record {
  answers = tt;
  rest = refl;
  counted =
      c.forget_ack.ensures ∙ ap (λ (m : AckMap). map.remove m c.args.player) c.in_ok-keep_ack.ensures.done
      ∙ remove_insert nat_cmp_total map.nat_cmp-IsAntisymmetric c.args.self.now.acks c.args.player c.args.ack
      (is_none (map.get c.args.self.now.acks c.args.player) (ap is_some (sym c.kept_ack.ensures) ∙ sym c.is_some.ensures ∙ c.if-is_some.false));
  recorded = c.in-Err.ensures.kept;
  untouched = λ e is. absurd (store_alone c.in-Err.error e is);
}

pub returns-in-Err-clause-dealer : goal.returns-in-Err-clause-dealer
returns-in-Err-clause-dealer g c = λ is.
    subst (λ (m : AckMap). IsDealerOf g.C.Ceremony.deal_of g.C.Ceremony.check_ack_of (record c.args.self.now { acks = m })) (sym (returns-in-Err-clause-handled g c).counted) is

pub returns-in-Err-clause-acts : goal.returns-in-Err-clause-acts
returns-in-Err-clause-acts g c = λ told out.
    acking_broken (g.C.Ceremony.check_ack_of c.args.self.now.round c.args.self.now.me c.args.self.now.public c.args.player c.args.ack) (is_some (map.get c.args.self.now.acks c.args.player)) (map.contains_key c.args.store.now.acks (c.args.epoch, c.args.player)) (c.args.epoch, event_spelling (events.Ack c.args.player c.args.ack))
    c.in_ok-check.ensures.passed (ap is_some (sym c.kept_ack.ensures) ∙ sym c.is_some.ensures ∙ c.if-is_some.false) c.in-Err.error (due_of_devices c.in-Err.error _ _ _ _ c.in-Err.ensures.due) (breaks_off c.in-Err.error (due_of_devices c.in-Err.error _ _ _ _ c.in-Err.ensures.due)) (c.in-Err.ensures.acts told out)

pub returns-in-Err-clause-due : goal.returns-in-Err-clause-due
returns-in-Err-clause-due g c =
    due_around c.in-Err.error c.in-Err.ensures.due (λ name place none. none) (λ rose. rose) (λ none. none) (λ cut. cut)
    (λ want. ⊎_elim (λ same. inl (ap (λ (m : AckMap). record c.args.self.now { acks = m }) (returns-in-Err-clause-handled g c).counted, same.0, same.1)) (λ rose. inr rose) want)

pub returns-in-Err-clause-gives : goal.returns-in-Err-clause-gives
returns-in-Err-clause-gives g c told = c.in-Err.ensures.gives told

pub returns-in-Err-clause-extends : goal.returns-in-Err-clause-extends
returns-in-Err-clause-extends g c told = c.in-Err.ensures.extends told

pub returns-in-Err-clause-called : goal.returns-in-Err-clause-called
returns-in-Err-clause-called g c = c.in-Err.ensures.called

pub returns-in_err-check-clause-handled : goal.returns-in_err-check-clause-handled
returns-in_err-check-clause-handled g c =
    let p = err_from_is_err_and c.from_residual.result c.from_residual.ensures.1 in
    rw (p.1, p.2) (record { answers = check_answers c.in_err-check.field-0.0 (g.C.Ceremony.check_ack_of c.args.self.now.round c.args.self.now.me c.args.self.now.public c.args.player c.args.ack) _ c.in_err-check.ensures.refused c.in_err-check.ensures.not_want; rest = refl; counted = refl; recorded = record { acks = refl; logs = refl; dealings = refl; restored = refl; current = refl }; untouched = λ e is. (refl, refl, refl) })

pub returns-in_err-check-clause-gives : goal.returns-in_err-check-clause-gives
returns-in_err-check-clause-gives g c told =
    let p = err_from_is_err_and c.from_residual.result c.from_residual.ensures.1 in
    rw p.1 (note_unmade noted_ack noted_log None tt _ _ _ _)

pub returns-in_err-check-clause-extends : goal.returns-in_err-check-clause-extends
returns-in_err-check-clause-extends g c told =
    let p = err_from_is_err_and c.from_residual.result c.from_residual.ensures.1 in
    rw p.1 (extends_unmade None tt _ _ _ _)

pub returns-in_err-check-clause-called : goal.returns-in_err-check-clause-called
returns-in_err-check-clause-called g c =
    let p = err_from_is_err_and c.from_residual.result c.from_residual.ensures.1 in
    rw p.1 (called_unmade ⊤ g.D.Disk.made g.X.SecretStore.made g.D.Disk.faults g.X.SecretStore.faults g.met.D.Disk.made_none g.met.X.SecretStore.made_none None tt _ c.args.devices.now)

pub returns-in_err-check-clause-due : goal.returns-in_err-check-clause-due
returns-in_err-check-clause-due g c =
    let p = err_from_is_err_and c.from_residual.result c.from_residual.ensures.1 in
    rw (p.1, p.2) (check_due c.in_err-check.field-0.0 _ _ _ _ c.in_err-check.ensures.memory (inl (refl, refl, refl)))

pub returns-in_err-keep_ack-clause-handled : goal.returns-in_err-keep_ack-clause-handled
returns-in_err-keep_ack-clause-handled g c =
    let p = err_from_is_err_and c.from_residual-in_err-keep_ack.result c.from_residual-in_err-keep_ack.ensures.1 in
    rw (p.1, p.2) (record { answers = tt; rest = refl; counted = c.in_err-keep_ack.ensures.kept; recorded = record { acks = refl; logs = refl; dealings = refl; restored = refl; current = refl }; untouched = λ e is. absurd (store_alone c.in_err-keep_ack.field-0.0 e is) })

pub returns-in_err-keep_ack-clause-gives : goal.returns-in_err-keep_ack-clause-gives
returns-in_err-keep_ack-clause-gives g c told =
    let p = err_from_is_err_and c.from_residual-in_err-keep_ack.result c.from_residual-in_err-keep_ack.ensures.1 in
    rw p.1 (note_unmade noted_ack noted_log None tt _ _ _ _)

pub returns-in_err-keep_ack-clause-extends : goal.returns-in_err-keep_ack-clause-extends
returns-in_err-keep_ack-clause-extends g c told =
    let p = err_from_is_err_and c.from_residual-in_err-keep_ack.result c.from_residual-in_err-keep_ack.ensures.1 in
    rw p.1 (extends_unmade None tt _ _ _ _)

pub returns-in_err-keep_ack-clause-called : goal.returns-in_err-keep_ack-clause-called
returns-in_err-keep_ack-clause-called g c =
    let p = err_from_is_err_and c.from_residual-in_err-keep_ack.result c.from_residual-in_err-keep_ack.ensures.1 in
    rw p.1 (called_unmade ⊤ g.D.Disk.made g.X.SecretStore.made g.D.Disk.faults g.X.SecretStore.faults g.met.D.Disk.made_none g.met.X.SecretStore.made_none None tt _ c.args.devices.now)

pub returns-in_err-keep_ack-clause-due : goal.returns-in_err-keep_ack-clause-due
returns-in_err-keep_ack-clause-due g c =
    let p = err_from_is_err_and c.from_residual-in_err-keep_ack.result c.from_residual-in_err-keep_ack.ensures.1 in
    rw (p.1, p.2) (due_want c.in_err-keep_ack.field-0.0 _ _ _ _ _ c.in_err-keep_ack.ensures.memory (inl ((λ i. record c.args.self.now { acks = c.in_err-keep_ack.ensures.kept i }), refl, refl)))

pub returns-then-is_some-clause-handled : goal.returns-then-is_some-clause-handled
returns-then-is_some-clause-handled g c = record {
  answers = (c.in_ok-check.ensures.passed, ap (λ (b : Bool). ack_outcome_of b (map.contains_key c.args.store.now.acks (c.args.epoch, c.args.player))) (sym (ap is_some (sym c.kept_ack.ensures) ∙ sym c.is_some.ensures ∙ c.if-is_some.true)));
  rest = refl;
  counted = made_old _ _ _ (ap not (ap is_some (sym c.kept_ack.ensures) ∙ sym c.is_some.ensures ∙ c.if-is_some.true));
  recorded = record { acks = made_old _ _ _ (ap (λ (b : Bool). not (b || (map.contains_key c.args.store.now.acks (c.args.epoch, c.args.player)))) (ap is_some (sym c.kept_ack.ensures) ∙ sym c.is_some.ensures ∙ c.if-is_some.true)); logs = refl; dealings = refl; restored = refl; current = refl };
  untouched = λ e is. (refl, refl, refl);
}

pub returns-then-is_some-clause-gives : goal.returns-then-is_some-clause-gives
returns-then-is_some-clause-gives g c told = note_unmade noted_ack noted_log _ (unmade_as _ (ap (λ (b : Bool). not (b || (map.contains_key c.args.store.now.acks (c.args.epoch, c.args.player)))) (ap is_some (sym c.kept_ack.ensures) ∙ sym c.is_some.ensures ∙ c.if-is_some.true))) _ _ _ _

pub returns-then-is_some-clause-extends : goal.returns-then-is_some-clause-extends
returns-then-is_some-clause-extends g c told = extends_unmade _ (unmade_as _ (ap (λ (b : Bool). not (b || (map.contains_key c.args.store.now.acks (c.args.epoch, c.args.player)))) (ap is_some (sym c.kept_ack.ensures) ∙ sym c.is_some.ensures ∙ c.if-is_some.true))) _ _ _ _

pub returns-then-is_some-clause-called : goal.returns-then-is_some-clause-called
returns-then-is_some-clause-called g c = called_unmade ⊤ g.D.Disk.made g.X.SecretStore.made g.D.Disk.faults g.X.SecretStore.faults g.met.D.Disk.made_none g.met.X.SecretStore.made_none _ (unmade_as _ (ap (λ (b : Bool). not (b || (map.contains_key c.args.store.now.acks (c.args.epoch, c.args.player)))) (ap is_some (sym c.kept_ack.ensures) ∙ sym c.is_some.ensures ∙ c.if-is_some.true))) _ c.args.devices.now

pub returns-in-Ok-true-clause-handled : goal.returns-in-Ok-true-clause-handled
returns-in-Ok-true-clause-handled g c = record {
  answers = (c.in_ok-check.ensures.passed, outcome_there _ _ c.in-Ok-true.field-0 true c.in-Ok-true.ensures.known (ap is_some (sym c.kept_ack.ensures) ∙ sym c.is_some.ensures ∙ c.if-is_some.false) c.in-Ok-true.field-0-test);
  rest = refl;
  counted = c.in_ok-keep_ack.ensures.done ∙ made_new _ _ _ (ap not (ap is_some (sym c.kept_ack.ensures) ∙ sym c.is_some.ensures ∙ c.if-is_some.false));
  recorded = ack_kept_as (ap (λ (b : Bool). Some b) (c.in-Ok-true.ensures.known ∙ ap (λ (b : Bool). not (b || (map.contains_key c.args.store.now.acks (c.args.epoch, c.args.player)))) (sym (ap is_some (sym c.kept_ack.ensures) ∙ sym c.is_some.ensures ∙ c.if-is_some.false)))) c.in-Ok-true.ensures.kept;
  untouched = λ e is. absurd (ok_alone _ e is);
}

pub returns-in-Ok-true-clause-gives : goal.returns-in-Ok-true-clause-gives
returns-in-Ok-true-clause-gives g c told = note_as noted_ack noted_log (ap (λ (b : Bool). Some b) (c.in-Ok-true.ensures.known ∙ ap (λ (b : Bool). not (b || (map.contains_key c.args.store.now.acks (c.args.epoch, c.args.player)))) (sym (ap is_some (sym c.kept_ack.ensures) ∙ sym c.is_some.ensures ∙ c.if-is_some.false)))) (c.in-Ok-true.ensures.gives told)

pub returns-in-Ok-true-clause-extends : goal.returns-in-Ok-true-clause-extends
returns-in-Ok-true-clause-extends g c told = extends_as (ap (λ (b : Bool). Some b) (c.in-Ok-true.ensures.known ∙ ap (λ (b : Bool). not (b || (map.contains_key c.args.store.now.acks (c.args.epoch, c.args.player)))) (sym (ap is_some (sym c.kept_ack.ensures) ∙ sym c.is_some.ensures ∙ c.if-is_some.false)))) (c.in-Ok-true.ensures.extends told)

pub returns-in-Ok-true-clause-called : goal.returns-in-Ok-true-clause-called
returns-in-Ok-true-clause-called g c = called_as (ap (λ (b : Bool). Some b) (c.in-Ok-true.ensures.known ∙ ap (λ (b : Bool). not (b || (map.contains_key c.args.store.now.acks (c.args.epoch, c.args.player)))) (sym (ap is_some (sym c.kept_ack.ensures) ∙ sym c.is_some.ensures ∙ c.if-is_some.false)))) c.in-Ok-true.ensures.called

pub returns-in-Ok-false-clause-handled : goal.returns-in-Ok-false-clause-handled
returns-in-Ok-false-clause-handled g c = record {
  answers = (c.in_ok-check.ensures.passed, outcome_there _ _ c.in-Ok-false.field-0 false c.in-Ok-false.ensures.known (ap is_some (sym c.kept_ack.ensures) ∙ sym c.is_some.ensures ∙ c.if-is_some.false) c.in-Ok-false.field-0-test);
  rest = refl;
  counted = c.in_ok-keep_ack.ensures.done ∙ made_new _ _ _ (ap not (ap is_some (sym c.kept_ack.ensures) ∙ sym c.is_some.ensures ∙ c.if-is_some.false));
  recorded = ack_kept_as (ap (λ (b : Bool). Some b) (c.in-Ok-false.ensures.known ∙ ap (λ (b : Bool). not (b || (map.contains_key c.args.store.now.acks (c.args.epoch, c.args.player)))) (sym (ap is_some (sym c.kept_ack.ensures) ∙ sym c.is_some.ensures ∙ c.if-is_some.false)))) c.in-Ok-false.ensures.kept;
  untouched = λ e is. absurd (ok_alone _ e is);
}

pub returns-in-Ok-false-clause-gives : goal.returns-in-Ok-false-clause-gives
returns-in-Ok-false-clause-gives g c told = note_as noted_ack noted_log (ap (λ (b : Bool). Some b) (c.in-Ok-false.ensures.known ∙ ap (λ (b : Bool). not (b || (map.contains_key c.args.store.now.acks (c.args.epoch, c.args.player)))) (sym (ap is_some (sym c.kept_ack.ensures) ∙ sym c.is_some.ensures ∙ c.if-is_some.false)))) (c.in-Ok-false.ensures.gives told)

pub returns-in-Ok-false-clause-extends : goal.returns-in-Ok-false-clause-extends
returns-in-Ok-false-clause-extends g c told = extends_as (ap (λ (b : Bool). Some b) (c.in-Ok-false.ensures.known ∙ ap (λ (b : Bool). not (b || (map.contains_key c.args.store.now.acks (c.args.epoch, c.args.player)))) (sym (ap is_some (sym c.kept_ack.ensures) ∙ sym c.is_some.ensures ∙ c.if-is_some.false)))) (c.in-Ok-false.ensures.extends told)

pub returns-in-Ok-false-clause-called : goal.returns-in-Ok-false-clause-called
returns-in-Ok-false-clause-called g c = called_as (ap (λ (b : Bool). Some b) (c.in-Ok-false.ensures.known ∙ ap (λ (b : Bool). not (b || (map.contains_key c.args.store.now.acks (c.args.epoch, c.args.player)))) (sym (ap is_some (sym c.kept_ack.ensures) ∙ sym c.is_some.ensures ∙ c.if-is_some.false)))) c.in-Ok-false.ensures.called
