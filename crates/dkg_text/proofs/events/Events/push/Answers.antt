use Rattle.std.proofs.Common.{◌≡◌, ◌∙◌, ◌++◌, ◌∷◌, [], List, ap, length, map, rules, subst, sym}
use Rattle.std.specs.Prelude.{All}
use Rattle.dkg_text.specs.declared.events.Slot.{Slot}
use Rattle.dkg_text.specs.declared.script.Event.{Event}
use Rattle.dkg_text.specs.Kept.{LiesIn, event_in}
use Rattle.dkg_text.proofs.Kept.{all_lie_pushed, always_on_err, events_grown, events_pushed}
use Rattle.dkg_text.proofs.events.Events.push.Goals as goal

pub returns-in_err-slot-clause-same : goal.returns-in_err-slot-clause-same
returns-in_err-slot-clause-same c =
    let f = c.self.inside in
    always_on_err _ (events_grown f.bytes.items c.kept.new.bytes.items f.numbers.items c.kept.new.numbers.items c.kept.ensures.bytes c.kept.ensures.numbers f.slots.items c.self.invariant ∙ c.self.view_is)

pub returns-in_err-push-clause-same : goal.returns-in_err-push-clause-same
returns-in_err-push-clause-same c =
    let f = c.self.inside in
    let same : c.push.new.self.items ≡ f.slots.items = search rules in
    always_on_err _ (ap (map (event_in c.kept.new.bytes.items c.kept.new.numbers.items)) same
    ∙ events_grown f.bytes.items c.kept.new.bytes.items f.numbers.items c.kept.new.numbers.items c.kept.ensures.bytes c.kept.ensures.numbers f.slots.items c.self.invariant
    ∙ c.self.view_is)

pub invariant_of-self-2 : goal.invariant_of-self-2
invariant_of-self-2 c =
    let f = c.self.inside in
    subst (λ (slots : List Slot). All (LiesIn (length c.kept.new.bytes.items) (length c.kept.new.numbers.items)) slots) (sym c.in_ok-push.ensures.items)
    (all_lie_pushed f.bytes.items c.kept.new.bytes.items f.numbers.items c.kept.new.numbers.items c.kept.ensures.bytes c.kept.ensures.numbers f.slots.items c.in_ok-slot.slot c.self.invariant c.in_ok-slot.ensures.within)

pub returns-clause-added : goal.returns-clause-added
returns-clause-added c =
    let f = c.self.inside in
    ap (map (event_in c.kept.new.bytes.items c.kept.new.numbers.items)) c.in_ok-push.ensures.items
    ∙ events_pushed f.bytes.items c.kept.new.bytes.items f.numbers.items c.kept.new.numbers.items c.kept.ensures.bytes c.kept.ensures.numbers f.slots.items c.in_ok-slot.slot c.args.event.now c.self.invariant c.in_ok-slot.ensures.value
    ∙ ap (λ (es : List Event). es ++ c.args.event.now ∷ []) c.self.view_is
