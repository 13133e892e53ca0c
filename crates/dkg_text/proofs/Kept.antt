-- Slots keep their events while bytes and numbers are added behind the others.
use Rattle.std.proofs.Common.{◌≡◌, ℕ, ◌+◌, ◌-◌, ◌≤◌, List, [], ◌∷◌, ◌++◌, Some, Result, Ok, Err, length, map, take, drop, refl, sym, ap, subst, ◌∙◌, arith, append_assoc, length-drop}
use Rattle.std.specs.Prelude.{All, OnErr, slice_get}
use Rattle.std.specs.List.{flat_map}
use Rattle.std.proofs.lemmas.Grind.{flat_map-append}
use Rattle.std.proofs.lemmas.List.{append-nil, take_more, take-append-drop, take-append-le, drop-append-le, length-take, map-append}
use Rattle.std.proofs.lemmas.List.Elements.{All-head, All-tail, All-weaker, All-push}
use Rattle.std.proofs.lemmas.Option.{get_or_from_slice_get, slice_get_within}
use Rattle.dkg_text.specs.declared.events.Slot.{Slot}
use Rattle.dkg_text.specs.declared.events.Slot.TheVariants as slot
use Rattle.dkg_text.specs.declared.events.Span.{Span}
use Rattle.dkg_text.specs.declared.script.Event.{Event}
use Rattle.dkg_text.specs.declared.script.Event.TheVariants as event
use Rattle.dkg_text.specs.Kept.{IsGrown, IsSpanWithin, LiesIn, event_in, span_in}

pub always_on_err : {T E P : Type 0} (r : Result T E) → P → OnErr r P
always_on_err (Ok x) is = tt
always_on_err (Err e) is = is

grown_length : {A : Type 0} (old new : List A) → IsGrown old new → length old ≤ length new
grown_length old new is = omega (arith, ap length is, length-take (length old) new)

-- the items of a span stay
span_grown : {A : Type 0} (old new : List A) (span : Span) → IsGrown old new → IsSpanWithin (length old) span → span_in new span ≡ span_in old span
span_grown old new span is within =
    let rest = drop (length old) new in
    let parts : old ++ rest ≡ new = ap (λ xs. xs ++ rest) (sym is) ∙ take-append-drop (length old) new in
    let n = span.end - span.start in
    subst (λ xs. span_in xs span ≡ span_in old span) parts
    (ap (λ xs. take n xs) (drop-append-le span.start old rest (omega (arith, within.0, within.1)))
    ∙ take-append-le n (drop span.start old) rest (omega (arith, within.0, within.1, length-drop span.start old)))

module _ (old_bytes bytes old_numbers numbers : List ℕ) (more_bytes : IsGrown old_bytes bytes) (more_numbers : IsGrown old_numbers numbers) where
  event_grown : (s : Slot) → LiesIn (length old_bytes) (length old_numbers) s → event_in bytes numbers s ≡ event_in old_bytes old_numbers s
  event_grown (slot.Peer from at) lies = ap (event.Peer from) (span_grown old_bytes bytes at more_bytes lies)
  event_grown (slot.Prepare at) lies = ap event.Prepare (span_grown old_numbers numbers at more_numbers lies)
  event_grown (slot.Propose at) lies = ap event.Propose (span_grown old_numbers numbers at more_numbers lies)
  event_grown (slot.Verify at) lies = ap event.Verify (span_grown old_numbers numbers at more_numbers lies)
  event_grown (slot.Reply from at) lies = ap (event.Reply from) (span_grown old_bytes bytes at more_bytes lies)
  event_grown _ lies = refl

  -- the events that were kept are as they were
  pub events_grown : (slots : List Slot) → All (LiesIn (length old_bytes) (length old_numbers)) slots → map (event_in bytes numbers) slots ≡ map (event_in old_bytes old_numbers) slots
  events_grown [] lie = refl
  events_grown (s ∷ slots) lie =
      let first = event_grown s (All-head (LiesIn (length old_bytes) (length old_numbers)) s slots lie) in
      let others = events_grown slots (All-tail (LiesIn (length old_bytes) (length old_numbers)) s slots lie) in
      ap (λ (e : Event). e ∷ map (event_in bytes numbers) slots) first ∙ ap (λ (es : List Event). event_in old_bytes old_numbers s ∷ es) others

  lies_grown : (s : Slot) → LiesIn (length old_bytes) (length old_numbers) s → LiesIn (length bytes) (length numbers) s
  lies_grown (slot.Peer from at) lies = (lies.0, omega (arith, lies.1, grown_length old_bytes bytes more_bytes))
  lies_grown (slot.Prepare at) lies = (lies.0, omega (arith, lies.1, grown_length old_numbers numbers more_numbers))
  lies_grown (slot.Propose at) lies = (lies.0, omega (arith, lies.1, grown_length old_numbers numbers more_numbers))
  lies_grown (slot.Verify at) lies = (lies.0, omega (arith, lies.1, grown_length old_numbers numbers more_numbers))
  lies_grown (slot.Reply from at) lies = (lies.0, omega (arith, lies.1, grown_length old_bytes bytes more_bytes))
  lies_grown _ lies = tt

  all_lie_grown : (slots : List Slot) → All (LiesIn (length old_bytes) (length old_numbers)) slots → All (LiesIn (length bytes) (length numbers)) slots
  all_lie_grown slots lie = All-weaker (LiesIn (length old_bytes) (length old_numbers)) (LiesIn (length bytes) (length numbers)) lies_grown slots lie

  -- and one that was added is behind them
  pub events_pushed : (slots : List Slot) (s : Slot) (e : Event) → All (LiesIn (length old_bytes) (length old_numbers)) slots → event_in bytes numbers s ≡ e
      → map (event_in bytes numbers) (slots ++ s ∷ []) ≡ map (event_in old_bytes old_numbers) slots ++ e ∷ []
  events_pushed slots s e lie is =
      map-append (event_in bytes numbers) slots (s ∷ [])
      ∙ (ap (λ (es : List Event). es ++ map (event_in bytes numbers) (s ∷ [])) (events_grown slots lie)
      ∙ ap (λ (e : Event). map (event_in old_bytes old_numbers) slots ++ e ∷ []) is)

  pub all_lie_pushed : (slots : List Slot) (s : Slot) → All (LiesIn (length old_bytes) (length old_numbers)) slots → LiesIn (length bytes) (length numbers) s
      → All (LiesIn (length bytes) (length numbers)) (slots ++ s ∷ [])
  all_lie_pushed slots s lie lies = All-push (LiesIn (length bytes) (length numbers)) slots s (all_lie_grown slots lie) lies

-- ONE EVENT MORE

pub taken_more : (es : List Event) (i : ℕ) (e : Event) → slice_get es i ≡ Some e → take (i + 1) es ≡ take i es ++ e ∷ []
taken_more es i e at = take_more es i e (slice_get_within es i e at) ∙ ap (λ (x : Event). take i es ++ x ∷ []) (get_or_from_slice_get es i e e at)

pub text_more : (f : Event → List ℕ) (before now after : List ℕ) (es : List Event) (i : ℕ) (e : Event) → slice_get es i ≡ Some e → now ≡ before ++ flat_map f (take i es) → after ≡ now ++ f e
    → after ≡ before ++ flat_map f (take (i + 1) es)
text_more f before now after es i e at so_far is =
    let one : flat_map f (take (i + 1) es) ≡ flat_map f (take i es) ++ f e =
    ap (flat_map f) (taken_more es i e at) ∙ (flat_map-append f (take i es) (e ∷ []) ∙ ap (λ (t : List ℕ). flat_map f (take i es) ++ t) (append-nil (f e))) in
    is ∙ (ap (λ (t : List ℕ). t ++ f e) so_far ∙ (append_assoc before (flat_map f (take i es)) (f e) ∙ ap (λ (t : List ℕ). before ++ t) (sym one)))
