use Rattle.std.proofs.Common.{◌≡◌, ap, sym, ◌∙◌, List, [], ℕ, arith, Some, Err}
use Rattle.std.proofs.lemmas.Result.{err_from_is_err_and}
use Rattle.std.proofs.lemmas.List.{at_drop_all}
use Rattle.dkg_values.specs.declared.name.Name.{Name}
use Rattle.dkg_store.specs.Events.{no_event_at}
use Rattle.dkg_store.specs.declared.call.StoreError.{StoreError}
use Rattle.dkg_store.specs.declared.call.StoreError.TheVariants.{Corrupt, Secrets as OfSecrets}
use Rattle.dkg_secrets.specs.Secrets.{Secrets}
use Rattle.dkg_store.specs.Pairs.{Pairs, with_dealing, recorded_dealing}
use Rattle.dkg_journal.specs.Views.{view}
use Rattle.dkg_store.proofs.Corrupt.{same_error}
use Rattle.dkg_store.specs.Noted.{Notes, with_note, noted_ack, noted_log}
use Rattle.dkg_store.specs.declared.recorded_log.RecordedLog.{RecordedLog}
use Rattle.dkg_store.proofs.Replayed.{one_more, one_note}
use Rattle.dkg_store.proofs.Recorded.{begins, event_passes, event_stops}
use Rattle.dkg_store.proofs.restoring.restore.Goals as goal

pub returns-in_err-restore_one-clause-calls : goal.returns-in_err-restore_one-clause-calls
returns-in_err-restore_one-clause-calls g c = g.met.X.SecretStore.made_more _ _ _ [] [] c.loop-entry.invariant.calls c.restore_one.ensures.calls

pub loop-entry-preserved : goal.loop-entry-preserved
loop-entry-preserved g c = record {
  given = λ told.
      c.in_ok-restore_one.ensures.given told
      ∙ ap (λ (s : Secrets). with_dealing s c.loop-entry.recorded.dealings (recorded_dealing (view c.entry-item.result))) c.loop-entry.invariant.same
      ∙ ap (λ (m : Pairs). with_dealing (g.X.SecretStore.held c.args.secrets.now) m (recorded_dealing (view c.entry-item.result))) (c.loop-entry.invariant.given told)
      ∙ sym (one_more c.args.entries.now c.loop-entry.entry-index c.entry-item.result (g.X.SecretStore.held c.args.secrets.now) c.loop-entry-test.true c.entry-item.is);
  acks = c.in_ok-restore_one.ensures.acks
      ∙ ap (λ (m : Notes (List ℕ)). with_note m (noted_ack (view c.entry-item.result))) c.loop-entry.invariant.acks
      ∙ sym (one_note noted_ack c.args.entries.now c.loop-entry.entry-index c.entry-item.result c.loop-entry-test.true c.entry-item.is);
  logs = c.in_ok-restore_one.ensures.logs
      ∙ ap (λ (m : Notes RecordedLog). with_note m (noted_log (view c.entry-item.result))) c.loop-entry.invariant.logs
      ∙ sym (one_note noted_log c.args.entries.now c.loop-entry.entry-index c.entry-item.result c.loop-entry-test.true c.entry-item.is);
  same = c.restore_one.ensures.same ∙ c.loop-entry.invariant.same;
  later = omega (arith, c.loop-entry.invariant.later, c.restore_one.ensures.later);
  events = sym (event_passes c.args.limit c.args.entries.now c.loop-entry.entry-index c.entry-item.result c.loop-entry-test.true c.entry-item.is c.in_ok-restore_one.ensures.event) ∙ c.loop-entry.invariant.events;
  first = λ some. begins c.args.limit c.args.entries.now c.loop-entry.entry-index c.entry-item.result c.loop-entry-test.true c.entry-item.is c.loop-entry.invariant.first c.in_ok-restore_one.ensures.event;
  calls = g.met.X.SecretStore.made_more _ _ _ [] [] c.loop-entry.invariant.calls c.restore_one.ensures.calls;
}

pub returns-in_err-restore_one-clause-half : goal.returns-in_err-restore_one-clause-half
returns-in_err-restore_one-clause-half g c = λ is.
    let p = err_from_is_err_and c.from_residual.result c.from_residual.ensures.1 in
    let here : c.in_err-restore_one.field-0.0 ≡ OfSecrets = sym p.2 ∙ same_error c.from_residual.result _ _ p.1 is in
    begins c.args.limit c.args.entries.now c.loop-entry.entry-index c.entry-item.result c.loop-entry-test.true c.entry-item.is c.loop-entry.invariant.first (c.in_err-restore_one.ensures.half (ap (λ (e : StoreError). Err e) here))

pub returns-in_err-restore_one-clause-corrupt : goal.returns-in_err-restore_one-clause-corrupt
returns-in_err-restore_one-clause-corrupt g c = λ name place is.
    let p = err_from_is_err_and c.from_residual.result c.from_residual.ensures.1 in
    let here : c.in_err-restore_one.field-0.0 ≡ Corrupt name place = sym p.2 ∙ same_error c.from_residual.result _ _ p.1 is in
    let d = c.in_err-restore_one.ensures.corrupt name place (ap (λ (e : StoreError). Err e) here) in
    sym c.loop-entry.invariant.events
    ∙ event_stops c.args.limit c.args.entries.now c.loop-entry.entry-index c.entry-item.result c.loop-entry-test.true c.entry-item.is d.2
    ∙ ap (λ (n : Name × ℕ). Some n) (sym (pair_same d.0 d.1))
  where
    pair_same : {a b : Name} {m n : ℕ} → a ≡ b → m ≡ n → ◌≡◌ {A = Name × ℕ} (a, m) (b, n)
    pair_same p q = cc

pub returns-clause-events : goal.returns-clause-events
returns-clause-events g c =
    sym c.loop-entry.invariant.events ∙ at_drop_all (no_event_at c.args.limit) c.args.entries.now c.loop-entry.entry-index c.loop-entry-test.false
