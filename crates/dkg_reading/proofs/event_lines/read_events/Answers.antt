use Rattle.std.proofs.Common.{◌∙◌, ◌<◌, ◌||◌, sym, ap, subst, Bool, Option, length, arith}
use Rattle.std.specs.Prelude.{IfSome}
use Rattle.std.proofs.lemmas.Result.{err_from_is_err_and}
use Rattle.dkg_text.specs.declared.script.Event.{Event}
use Rattle.dkg_reading.specs.Asked.{asks}
use Rattle.dkg_reading.specs.Grammar.{is_eventful, event_line_at, event_lines_at}
use Rattle.dkg_reading.proofs.Numbered.{asked_more}
use Rattle.dkg_reading.proofs.ReadOn.{ends_if, kept_if, more_if, refused_if}
use Rattle.dkg_reading.proofs.event_lines.read_events.Goals as goal

pub events-preserved : goal.events-preserved
events-preserved c =
    let done = c.events.events in
    let event = c.in-Some.event in
    let inv = c.events.invariant in
    let text = c.events.lines.rest.now in
    let rest = c.read_event_after.new.lines.rest.now in
    let at = more_if is_eventful (event_line_at c.args.around.blocks c.args.around.probe) done text rest c.in_ok-event.field-0 event _ inv.at c.in-Some.is (c.in_ok-event.ensures.reads done inv.asked) c.in_ok-event.ensures.on in
    let shorter : length rest < length text = subst (λ (o : Option Event). IfSome o (λ _. length rest < length text)) c.in-Some.is c.in_ok-event.ensures.on in
    record {
      at = rw c.in_ok-keep.ensures.events at;
      asked = rw c.in_ok-keep.ensures.events (λ request. c.in_ok-keep.ensures.asked request ∙ (ap (λ (b : Bool). asks request event || b) (inv.asked request) ∙ sym (asked_more done event request)));
      on = (let on = inv.on in omega (arith, on, shorter));
    }

pub returns-clause-reads : goal.returns-clause-reads
unfolding event_lines_at
returns-clause-reads c =
    let done = c.events.events in
    let inv = c.events.invariant in
    let rest = c.read_event_after.new.lines.rest.now in
    ends_if is_eventful (event_line_at c.args.around.blocks c.args.around.probe) done c.events.lines.rest.now rest c.in_ok-event.field-0 _ inv.at c.in_default.is (c.in_ok-event.ensures.reads done inv.asked)

pub returns-in_err-event-clause-reads : goal.returns-in_err-event-clause-reads
unfolding event_lines_at
returns-in_err-event-clause-reads c =
    let p = err_from_is_err_and c.from_residual.result c.from_residual.ensures.1 in
    let done = c.events.events in
    let inv = c.events.invariant in
    let r = refused_if is_eventful (event_line_at c.args.around.blocks c.args.around.probe) done c.events.lines.rest.now c.read_event_after.new.lines.rest.now _ c.in_err-event.field-0.0 inv.at (c.in_err-event.ensures.reads done inv.asked) in
    rw (p.1, p.2) r

pub returns-clause-on : goal.returns-clause-on
returns-clause-on c =
    let done = c.events.events in
    let inv = c.events.invariant in
    let text = c.events.lines.rest.now in
    let rest = c.read_event_after.new.lines.rest.now in
    let kept = kept_if is_eventful (event_line_at c.args.around.blocks c.args.around.probe done) text rest c.in_ok-event.field-0 c.in_default.is (c.in_ok-event.ensures.reads done inv.asked) in
    let on = inv.on in
    omega (arith, on, ap length kept)
