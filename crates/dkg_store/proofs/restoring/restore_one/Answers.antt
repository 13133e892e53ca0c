use Rattle.std.proofs.Common.{◌≡◌, List, ℕ, Option, OnOk, IsTrue, sym, ap, subst, ◌∙◌}
use Rattle.dkg_store.specs.declared.recorded_log.RecordedLog.{RecordedLog}
use Rattle.dkg_values.specs.Codec.{whole}
use Rattle.dkg_journal.specs.Views.{view}
use Rattle.dkg_store.specs.Events.{event_at}
use Rattle.dkg_store.specs.Noted.{Note, with_note}
use Rattle.dkg_store.specs.Pairs.{Dealing, with_dealing}
use Rattle.dkg_store.proofs.Replayed.{is_dealing, is_ack, is_log}
use Rattle.dkg_store.proofs.restoring.restore_one.Goals as goal

pub returns-in-Ok-clause-given : goal.returns-in-Ok-clause-given
returns-in-Ok-clause-given g c =
    subst (λ (o : Option Dealing). OnOk c.restore_event.result (IsTrue g.X.SecretStore.tells → c.restore_event.new.recorded.dealings ≡ with_dealing (g.X.SecretStore.held c.args.secrets.now) c.args.recorded.now.dealings o))
    (sym (is_dealing c.args.limit (view c.args.entry.now) c.in-Ok.event c.ranges.limit.fits (ap (λ (b : List ℕ). whole (event_at c.args.limit b)) (sym c.as_slice.ensures) ∙ c.in-Ok.ensures))) c.restore_event.ensures.given

pub returns-in-Ok-clause-acks : goal.returns-in-Ok-clause-acks
returns-in-Ok-clause-acks g c =
    subst (λ (o : Option (Note (List ℕ))). OnOk c.restore_event.result (c.restore_event.new.recorded.acks ≡ with_note c.args.recorded.now.acks o))
    (sym (is_ack c.args.limit (view c.args.entry.now) c.in-Ok.event c.ranges.limit.fits (ap (λ (b : List ℕ). whole (event_at c.args.limit b)) (sym c.as_slice.ensures) ∙ c.in-Ok.ensures))) c.restore_event.ensures.acks

pub returns-in-Ok-clause-logs : goal.returns-in-Ok-clause-logs
returns-in-Ok-clause-logs g c =
    subst (λ (o : Option (Note RecordedLog)). OnOk c.restore_event.result (c.restore_event.new.recorded.logs ≡ with_note c.args.recorded.now.logs o))
    (sym (is_log c.args.limit (view c.args.entry.now) c.in-Ok.event c.ranges.limit.fits (ap (λ (b : List ℕ). whole (event_at c.args.limit b)) (sym c.as_slice.ensures) ∙ c.in-Ok.ensures))) c.restore_event.ensures.logs
