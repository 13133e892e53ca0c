-- How a life's events are kept: each as a slot, and what events say at length one after another.
use Rattle.std.specs.Prelude.{◌≡◌, ℕ, ◌≤◌, List, length, slice_range, take}
use Rattle.dkg_text.specs.declared.events.Slot.{Slot}
use Rattle.dkg_text.specs.declared.events.Slot.TheVariants as slot
use Rattle.dkg_text.specs.declared.events.Span.{Span}
use Rattle.dkg_text.specs.declared.script.Event.{Event}
use Rattle.dkg_text.specs.declared.script.Event.TheVariants as event

abbrev pub span_in : {A : Type 0} → List A → Span → List A
span_in items span = slice_range items span.start span.end

abbrev pub IsSpanWithin : (size : ℕ) → Span → Type 0
IsSpanWithin size span = (span.start ≤ span.end) × (span.end ≤ size)

-- the event of a slot, over all bytes and numbers
abbrev pub event_in : (bytes numbers : List ℕ) → Slot → Event
event_in bytes numbers (slot.Peer from at) = event.Peer from (span_in bytes at)
event_in bytes numbers (slot.Final block) = event.Final block
event_in bytes numbers (slot.Next request height) = event.Next request height
event_in bytes numbers (slot.Release height) = event.Release height
event_in bytes numbers (slot.Info request) = event.Info request
event_in bytes numbers (slot.Feed request block) = event.Feed request block
event_in bytes numbers (slot.Over request) = event.Over request
event_in bytes numbers (slot.Cancel request) = event.Cancel request
event_in bytes numbers slot.Work = event.Work
event_in bytes numbers (slot.Prepare at) = event.Prepare (span_in numbers at)
event_in bytes numbers (slot.Propose at) = event.Propose (span_in numbers at)
event_in bytes numbers (slot.Verify at) = event.Verify (span_in numbers at)
event_in bytes numbers (slot.Later from epoch) = event.Later from epoch
event_in bytes numbers slot.Subscribe = event.Subscribe
event_in bytes numbers slot.Unsubscribe = event.Unsubscribe
event_in bytes numbers slot.Attach = event.Attach
event_in bytes numbers (slot.Reply from at) = event.Reply from (span_in bytes at)
event_in bytes numbers slot.Retry = event.Retry

-- its span lies within so many bytes or numbers
abbrev pub LiesIn : (bytes numbers : ℕ) → Slot → Type 0
LiesIn bytes numbers (slot.Peer from at) = IsSpanWithin bytes at
LiesIn bytes numbers (slot.Prepare at) = IsSpanWithin numbers at
LiesIn bytes numbers (slot.Propose at) = IsSpanWithin numbers at
LiesIn bytes numbers (slot.Verify at) = IsSpanWithin numbers at
LiesIn bytes numbers (slot.Reply from at) = IsSpanWithin bytes at
LiesIn bytes numbers _ = Unit {0}

-- the first items are the old ones
abbrev pub IsGrown : {A : Type 0} → (old new : List A) → Type 0
IsGrown old new = take (length old) new ≡ old
