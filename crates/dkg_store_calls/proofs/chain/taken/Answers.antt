use Rattle.std.proofs.Common.{◌≡◌, ℕ, Bool, false, List, Option, Result, Err, sym, ap, ◌∙◌}
use Rattle.std.proofs.lemmas.Result.{err_from_is_err_and}
use Rattle.std.specs.FinMap as map
use Rattle.std.specs.FinMap.{FinMap}
use Rattle.dkg_secrets.specs.Keys.{key_cmp}
use Rattle.std.specs.Option.{is_some}
use Rattle.dkg_journal.specs.Records.{SectionEntry}
use Rattle.dkg_store.specs.Acts.{Acts, Goes, bind}
use Rattle.dkg_store.specs.Calls.{sharing, recording, noting, pruning}
use Rattle.dkg_store.specs.Chain.{taken_by}
use Rattle.dkg_store.specs.Events.{event_spelling}
use Rattle.dkg_store.specs.declared.event.Event.TheVariants as events
use Rattle.dkg_store.specs.declared.call.StoreError.{StoreError}
use Rattle.dkg_store.proofs.Acts.{made_next}
use Rattle.dkg_store.proofs.Chained.{ends_early, not_had, as_known}
use Rattle.dkg_store_calls.proofs.chain.taken.Goals as goal

pub returns-in_err-share-clause-acts : goal.returns-in_err-share-clause-acts
returns-in_err-share-clause-acts g c = λ disk secrets out.
    let p = err_from_is_err_and c.from_residual.result c.from_residual.ensures.1 in
    let dealing = recording (map.contains_key c.args.store.now.dealings (c.args.epoch, c.args.dealer)) c.args.epoch c.args.dealer c.args.public c.args.private in
    let known = map.contains_key c.args.store.now.acks (c.args.epoch, c.args.dealer) in
    let e : SectionEntry = (c.args.epoch, event_spelling (events.Ack c.args.dealer c.args.ack)) in
    rw (p.1, p.2) (ends_early {acts = sharing c.args.epoch} (λ (had : Option ℕ). taken_by (is_some had) dealing known e c.args.epoch) _ (c.in_err-share.ensures.acts disk secrets out))

pub returns-in_err-new-clause-acts : goal.returns-in_err-new-clause-acts
returns-in_err-new-clause-acts g c = λ disk secrets out.
    let p = err_from_is_err_and c.from_residual-in_err-new.result c.from_residual-in_err-new.ensures.1 in
    let dealing = recording (map.contains_key c.share.new.self.dealings (c.args.epoch, c.args.dealer)) c.args.epoch c.args.dealer c.args.public c.args.private in
    let known = map.contains_key c.share.new.self.acks (c.args.epoch, c.args.dealer) in
    let e : SectionEntry = (c.args.epoch, event_spelling (events.Ack c.args.dealer c.args.ack)) in
    rw (p.1, p.2, ← c.share.ensures.store) (made_next {acts = sharing c.args.epoch} (λ (had : Option ℕ). taken_by (is_some had) dealing known e c.args.epoch) (c.in_ok-share.ensures.acts disk secrets out)
    (not_had dealing known e c.args.epoch _ (sym c.is_some.ensures ∙ c.if-is_some.false)
    (ends_early {acts = dealing} (λ (new : Bool). bind (noting known e) (λ (noted : Bool). bind (pruning c.args.epoch) (λ gone. Goes new))) _ (c.in_err-new.ensures.acts disk secrets out))))

pub returns-clause-acts : goal.returns-clause-acts
returns-clause-acts g c = λ disk secrets out.
    let dealing = recording (map.contains_key c.share.new.self.dealings (c.args.epoch, c.args.dealer)) c.args.epoch c.args.dealer c.args.public c.args.private in
    let known = map.contains_key c.share.new.self.acks (c.args.epoch, c.args.dealer) in
    let e : SectionEntry = (c.args.epoch, event_spelling (events.Ack c.args.dealer c.args.ack)) in
    rw (← c.share.ensures.store) (made_next {acts = sharing c.args.epoch} (λ (had : Option ℕ). taken_by (is_some had) dealing known e c.args.epoch) (c.in_ok-share.ensures.acts disk secrets out)
    (not_had dealing known e c.args.epoch _ (sym c.is_some.ensures ∙ c.if-is_some.false)
    (made_next {acts = dealing} (λ (new : Bool). bind (noting known e) (λ (noted : Bool). bind (pruning c.args.epoch) (λ gone. Goes new))) (c.in_ok-new.ensures.acts disk secrets out)
    (as_known (λ (noted : Bool). bind (pruning c.args.epoch) (λ gone. Goes c.in_ok-new.new)) known (map.contains_key c.append_dealing.new.self.acks (c.args.epoch, c.args.dealer)) e
    (ap (λ (m : FinMap key_cmp (List ℕ)). map.contains_key m (c.args.epoch, c.args.dealer)) (sym c.in_ok-new.ensures.kept.rest.acks))
    (c.noted_and_pruned.ensures.acts disk secrets out)))))
