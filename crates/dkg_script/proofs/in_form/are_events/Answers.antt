use Rattle.std.proofs.Common.{◌≡◌, ◌&&◌, ◌∙◌, ◌+◌, Bool, false, true, ℕ, List, Some, add-one, ap, drop, length, sym}
use Rattle.std.specs.Prelude.{slice_get}
use Rattle.dkg_text.specs.declared.script.Event.{Event}
use Rattle.dkg_script.specs.InForm.{are_events, is_event_in_form}
use Rattle.dkg_script.proofs.FromIndex.{from_index}
use Rattle.dkg_script.proofs.in_form.are_events.Goals as goal

judged_from : (blocks : ℕ) (events : List Event) (index : ℕ) (event : Event) → slice_get events index ≡ Some event
    → are_events blocks (drop index events) ≡ (is_event_in_form blocks event && are_events blocks (drop (index + 1) events))
judged_from blocks events index event is =
    ap (are_events blocks) (from_index events index event is) ∙ ap (λ (n : ℕ). is_event_in_form blocks event && are_events blocks (drop n events)) (sym (add-one index))

pub returns-then-not-is_event : goal.returns-then-not-is_event
returns-then-not-is_event c =
    let blocks = length c.args.blocks.now in
    let here = judged_from blocks c.args.events.now c.loop-i.i c.at.result c.at.ensures in
    let judged : is_event_in_form blocks c.at.result ≡ false = sym c.is_event.ensures ∙ c.if-not-is_event.true in
    sym (sym c.loop-i.invariant ∙ here ∙ ap (λ (b : Bool). b && are_events blocks (drop (c.loop-i.i + 1) c.args.events.now)) judged)

pub loop-i-preserved : goal.loop-i-preserved
loop-i-preserved c =
    let blocks = length c.args.blocks.now in
    let here = judged_from blocks c.args.events.now c.loop-i.i c.at.result c.at.ensures in
    let judged : is_event_in_form blocks c.at.result ≡ true = sym c.is_event.ensures ∙ c.if-not-is_event.false in
    sym (ap (λ (b : Bool). b && are_events blocks (drop (c.loop-i.i + 1) c.args.events.now)) judged) ∙ sym here ∙ c.loop-i.invariant
