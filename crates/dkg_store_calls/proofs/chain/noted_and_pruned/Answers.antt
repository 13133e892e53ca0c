use Rattle.std.proofs.Common.{Bool, refl}
use Rattle.std.proofs.lemmas.Result.{err_from_is_err_and}
use Rattle.std.specs.FinMap as map
use Rattle.dkg_journal.specs.Records.{SectionEntry}
use Rattle.dkg_store.specs.Acts.{Goes, bind}
use Rattle.dkg_store.specs.Calls.{noting, pruning}
use Rattle.dkg_store.specs.Events.{event_spelling}
use Rattle.dkg_store.specs.declared.event.Event.TheVariants as events
use Rattle.dkg_store.proofs.Acts.{made_next, made_nothing}
use Rattle.dkg_store.proofs.Chained.{ends_early}
use Rattle.dkg_store_calls.proofs.chain.noted_and_pruned.Goals as goal

pub returns-in_err-append_ack-clause-acts : goal.returns-in_err-append_ack-clause-acts
returns-in_err-append_ack-clause-acts g c = λ disk secrets out.
    let p = err_from_is_err_and c.from_residual.result c.from_residual.ensures.1 in
    let e : SectionEntry = (c.args.epoch, event_spelling (events.Ack c.args.dealer c.args.ack)) in
    rw (p.1, p.2) (ends_early {acts = noting (map.contains_key c.args.store.now.acks (c.args.epoch, c.args.dealer)) e} (λ (noted : Bool). bind (pruning c.args.epoch) (λ gone. Goes c.args.new)) _ (c.in_err-append_ack.ensures.acts disk out))

pub returns-in_err-prune-clause-acts : goal.returns-in_err-prune-clause-acts
returns-in_err-prune-clause-acts g c = λ disk secrets out.
    let p = err_from_is_err_and c.from_residual-in_err-prune.result c.from_residual-in_err-prune.ensures.1 in
    let e : SectionEntry = (c.args.epoch, event_spelling (events.Ack c.args.dealer c.args.ack)) in
    rw (p.1, p.2) (made_next {acts = noting (map.contains_key c.args.store.now.acks (c.args.epoch, c.args.dealer)) e} (λ (noted : Bool). bind (pruning c.args.epoch) (λ gone. Goes c.args.new)) (c.in_ok-append_ack.ensures.acts disk out)
    (ends_early {acts = pruning c.args.epoch} (λ gone. Goes c.args.new) _ (c.in_err-prune.ensures.acts disk secrets out)))

pub returns-clause-acts : goal.returns-clause-acts
returns-clause-acts g c = λ disk secrets out.
    let e : SectionEntry = (c.args.epoch, event_spelling (events.Ack c.args.dealer c.args.ack)) in
    made_next {acts = noting (map.contains_key c.args.store.now.acks (c.args.epoch, c.args.dealer)) e} (λ (noted : Bool). bind (pruning c.args.epoch) (λ gone. Goes c.args.new)) (c.in_ok-append_ack.ensures.acts disk out)
    (made_next {acts = pruning c.args.epoch} (λ gone. Goes c.args.new) (c.in_ok-prune.ensures.acts disk secrets out) (made_nothing _ _ _ refl))
