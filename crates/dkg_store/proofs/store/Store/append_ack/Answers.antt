use Rattle.std.proofs.Common.{Some, None, Bool, false, ℕ, List, map, inl, inr, ⊎_elim, refl, sym, ap, subst, ◌∙◌}
use Rattle.std.specs.Prelude.{⊤}
use Rattle.std.proofs.lemmas.Result.{err_from_is_err_and}
use Rattle.dkg_journal.specs.Journals.{append_calls}
use Rattle.dkg_store.specs.Both.{on_disk}
use Rattle.dkg_store.specs.declared.event.Event.TheVariants as events
use Rattle.dkg_store.specs.Errors.{IsOfDevices}
use Rattle.dkg_store.specs.Noted.{noted_ack, noted_log}
use Rattle.dkg_store.specs.Pairs.{recorded_dealing}
use Rattle.dkg_store.specs.Acts.{broken}
use Rattle.dkg_store.specs.Calls.{cause_of}
use Rattle.dkg_store.specs.declared.call.StoreError.{StoreError}
use Rattle.dkg_store.proofs.Acting.{ended_broken}
use Rattle.dkg_store.proofs.Appended.{unknown, none_there, noting_broken, noting_done}
use Rattle.dkg_store.proofs.Left.{called_alike, called_unmade, due_around, due_of_devices, extends_alike, extends_unmade, note_done, note_put, note_unmade}
use Rattle.dkg_store.proofs.Noted.{says_ack, says_log}
use Rattle.dkg_store.proofs.Silent.{says_dealing}
use Rattle.dkg_store.proofs.store.Store.append_ack.Goals as goal

pub returns-in_err-append_event-clause-acts : goal.returns-in_err-append_event-clause-acts
returns-in_err-append_event-clause-acts g c = λ told out.
    let fresh = unknown c.args.self.now.acks (c.args.epoch, c.args.player) c.get.result c.is_some.result c.get.ensures c.is_some.ensures c.if-is_some.false in
    let p = err_from_is_err_and c.from_residual-in_err-append_event.result c.from_residual-in_err-append_event.ensures.1 in
    noting_broken fresh (c.deref.ensures.value ∙ c.in_ok-body.ensures) c.in_err-append_event.field-0.0 (due_of_devices c.in_err-append_event.field-0.0 _ _ _ _ c.in_err-append_event.ensures.due)
    (ended_broken (λ (b : Bool). b) c.from_residual-in_err-append_event.result p.0 p.1 (subst IsOfDevices (sym p.2) (due_of_devices c.in_err-append_event.field-0.0 _ _ _ _ c.in_err-append_event.ensures.due)) ∙ ap (λ (e : StoreError). broken (cause_of e)) p.2)
    (c.in_err-append_event.ensures.acts told out)

pub returns-clause-acts : goal.returns-clause-acts
returns-clause-acts g c = λ told out.
    let fresh = unknown c.args.self.now.acks (c.args.epoch, c.args.player) c.get.result c.is_some.result c.get.ensures c.is_some.ensures c.if-is_some.false in
    noting_done fresh (c.deref.ensures.value ∙ c.in_ok-body.ensures) (c.in_ok-append_event.ensures.acts told out)

pub returns-then-is_some-clause-kept : goal.returns-then-is_some-clause-kept
returns-then-is_some-clause-kept g c = record { acks = refl; logs = refl; dealings = refl; restored = refl; current = refl }

pub returns-then-is_some-clause-gives : goal.returns-then-is_some-clause-gives
returns-then-is_some-clause-gives g c told = note_unmade noted_ack noted_log (Some false) tt _ _ _ _

pub returns-then-is_some-clause-extends : goal.returns-then-is_some-clause-extends
returns-then-is_some-clause-extends g c told = extends_unmade (Some false) tt _ _ _ _

pub returns-then-is_some-clause-called : goal.returns-then-is_some-clause-called
returns-then-is_some-clause-called g c = called_unmade ⊤ g.D.Disk.made g.X.SecretStore.made g.D.Disk.faults g.X.SecretStore.faults g.met.D.Disk.made_none g.met.X.SecretStore.made_none (Some false) tt _ c.args.devices.now

pub returns-in_err-body-clause-kept : goal.returns-in_err-body-clause-kept
returns-in_err-body-clause-kept g c =
    let p = err_from_is_err_and c.from_residual.result c.from_residual.ensures.1 in
    rw p.1 (record { acks = refl; logs = refl; dealings = refl; restored = refl; current = refl })

pub returns-in_err-body-clause-gives : goal.returns-in_err-body-clause-gives
returns-in_err-body-clause-gives g c told =
    let p = err_from_is_err_and c.from_residual.result c.from_residual.ensures.1 in
    rw p.1 (note_unmade noted_ack noted_log None tt _ _ _ _)

pub returns-in_err-body-clause-extends : goal.returns-in_err-body-clause-extends
returns-in_err-body-clause-extends g c told =
    let p = err_from_is_err_and c.from_residual.result c.from_residual.ensures.1 in
    rw p.1 (extends_unmade None tt _ _ _ _)

pub returns-in_err-body-clause-called : goal.returns-in_err-body-clause-called
returns-in_err-body-clause-called g c =
    let p = err_from_is_err_and c.from_residual.result c.from_residual.ensures.1 in
    rw p.1 (called_unmade ⊤ g.D.Disk.made g.X.SecretStore.made g.D.Disk.faults g.X.SecretStore.faults g.met.D.Disk.made_none g.met.X.SecretStore.made_none None tt _ c.args.devices.now)

pub returns-in_err-body-clause-due : goal.returns-in_err-body-clause-due
returns-in_err-body-clause-due g c =
    let p = err_from_is_err_and c.from_residual.result c.from_residual.ensures.1 in
    rw (p.1, p.2) (inl (refl, refl))

pub returns-in_err-append_event-clause-kept : goal.returns-in_err-append_event-clause-kept
returns-in_err-append_event-clause-kept g c =
    let p = err_from_is_err_and c.from_residual-in_err-append_event.result c.from_residual-in_err-append_event.ensures.1 in
    rw p.1 (record { acks = c.in_err-append_event.ensures.kept; logs = refl; dealings = refl; restored = refl; current = refl })

pub returns-in_err-append_event-clause-gives : goal.returns-in_err-append_event-clause-gives
returns-in_err-append_event-clause-gives g c told =
    let p = err_from_is_err_and c.from_residual-in_err-append_event.result c.from_residual-in_err-append_event.ensures.1 in
    let fresh = unknown c.args.self.now.acks (c.args.epoch, c.args.player) c.get.result c.is_some.result c.get.ensures c.is_some.ensures c.if-is_some.false in
    rw p.1 (note_put noted_ack noted_log c.args.self.now.acks (c.args.epoch, c.args.player) c.args.ack (c.args.epoch, c.deref.result.now) (none_there c.args.self.now.acks (c.args.epoch, c.args.player) fresh)
    (ap (λ (b : List ℕ). noted_ack (c.args.epoch, b)) (c.deref.ensures.value ∙ c.in_ok-body.ensures) ∙ says_ack c.args.epoch (events.Ack c.args.player c.args.ack) c.ack_fits.ensures) (ap (λ (b : List ℕ). noted_log (c.args.epoch, b)) (c.deref.ensures.value ∙ c.in_ok-body.ensures) ∙ says_log c.args.epoch (events.Ack c.args.player c.args.ack) c.ack_fits.ensures) (ap (λ (b : List ℕ). recorded_dealing (c.args.epoch, b)) (c.deref.ensures.value ∙ c.in_ok-body.ensures) ∙ says_dealing c.args.epoch (events.Ack c.args.player c.args.ack) c.ack_fits.ensures) _ _ (ap (λ (s : _). g.X.SecretStore.held s) c.append_event.ensures.secrets) _ _ (c.append_event.ensures.images told))

pub returns-in_err-append_event-clause-extends : goal.returns-in_err-append_event-clause-extends
returns-in_err-append_event-clause-extends g c told =
    let p = err_from_is_err_and c.from_residual-in_err-append_event.result c.from_residual-in_err-append_event.ensures.1 in
    rw p.1 (extends_alike refl (c.deref.ensures.value ∙ c.in_ok-body.ensures) (c.in_err-append_event.ensures.extends told))

pub returns-in_err-append_event-clause-called : goal.returns-in_err-append_event-clause-called
returns-in_err-append_event-clause-called g c =
    let p = err_from_is_err_and c.from_residual-in_err-append_event.result c.from_residual-in_err-append_event.ensures.1 in
    rw p.1 (called_alike (ap (λ (b : List ℕ). map on_disk (append_calls c.args.self.now.journal (c.args.epoch, b))) (c.deref.ensures.value ∙ c.in_ok-body.ensures)) c.in_err-append_event.ensures.called)

pub returns-in_err-append_event-clause-due : goal.returns-in_err-append_event-clause-due
returns-in_err-append_event-clause-due g c =
    let p = err_from_is_err_and c.from_residual-in_err-append_event.result c.from_residual-in_err-append_event.ensures.1 in
    rw (p.1, p.2) (due_around c.in_err-append_event.field-0.0 c.in_err-append_event.ensures.due (λ name place none. none) (λ rose. rose) (λ none. none) (λ cut. cut)
    (λ want. ⊎_elim (λ same. inl ((λ i. record c.args.self.now { journal = same.1 i; acks = same.0 i }), same.2)) (λ rose. inr rose) want))

pub returns-clause-kept : goal.returns-clause-kept
returns-clause-kept g c = record { acks = c.in_ok-append_event.ensures.kept; logs = refl; dealings = refl; restored = refl; current = refl }

pub returns-clause-gives : goal.returns-clause-gives
returns-clause-gives g c told =
    let fresh = unknown c.args.self.now.acks (c.args.epoch, c.args.player) c.get.result c.is_some.result c.get.ensures c.is_some.ensures c.if-is_some.false in
    note_done noted_ack noted_log c.args.self.now.acks (c.args.epoch, c.args.player) c.args.ack (c.args.epoch, c.deref.result.now) (none_there c.args.self.now.acks (c.args.epoch, c.args.player) fresh)
    (ap (λ (b : List ℕ). noted_ack (c.args.epoch, b)) (c.deref.ensures.value ∙ c.in_ok-body.ensures) ∙ says_ack c.args.epoch (events.Ack c.args.player c.args.ack) c.ack_fits.ensures) (ap (λ (b : List ℕ). noted_log (c.args.epoch, b)) (c.deref.ensures.value ∙ c.in_ok-body.ensures) ∙ says_log c.args.epoch (events.Ack c.args.player c.args.ack) c.ack_fits.ensures) (ap (λ (b : List ℕ). recorded_dealing (c.args.epoch, b)) (c.deref.ensures.value ∙ c.in_ok-body.ensures) ∙ says_dealing c.args.epoch (events.Ack c.args.player c.args.ack) c.ack_fits.ensures) _ _ (ap (λ (s : _). g.X.SecretStore.held s) c.append_event.ensures.secrets) _ _ (c.append_event.ensures.images told) (c.in_ok-append_event.ensures.added told)

pub returns-clause-extends : goal.returns-clause-extends
returns-clause-extends g c told = extends_alike refl (c.deref.ensures.value ∙ c.in_ok-body.ensures) (c.in_ok-append_event.ensures.extends told)

pub returns-clause-called : goal.returns-clause-called
returns-clause-called g c = called_alike (ap (λ (b : List ℕ). map on_disk (append_calls c.args.self.now.journal (c.args.epoch, b))) (c.deref.ensures.value ∙ c.in_ok-body.ensures)) c.in_ok-append_event.ensures.called
