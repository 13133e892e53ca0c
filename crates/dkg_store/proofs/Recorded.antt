-- Dealings restored, listed and checked one by one.
use Rattle.std.proofs.Common.{◌≡◌, ℕ, zero, suc, ◌+◌, ◌<◌, true, false, List, [], ◌∷◌, drop, length, get_or, Option, Some, None, refl, sym, ap, ◌∙◌, arith, cond}
use Rattle.std.proofs.lemmas.List.{drop_more}
use Rattle.dkg_journal.specs.declared.opening.JournalEntry.{JournalEntry}
use Rattle.dkg_journal.specs.Views.{views}
use Rattle.dkg_store.specs.Corrupt.{AreEvents, BeginsWithEvent}
use Rattle.dkg_values.specs.declared.name.Name.{Name}
use Rattle.dkg_values.specs.declared.name.Name.TheVariants.{Segment}
use Rattle.dkg_store.specs.Events.{is_event_body, no_event_at}

-- from an index on
pub more_events : (limit : ℕ) (es : List JournalEntry) (i : ℕ) (e : JournalEntry) → i < length es → e ≡ get_or es i e → no_event_at limit (drop i es) ≡ cond (is_event_body limit e.body) (no_event_at limit (drop (i + 1) es)) (Some (Segment e.section, e.place))
more_events limit es i e below is =
    ap (no_event_at limit) (drop_more es i e below ∙ ap (λ (x : JournalEntry). x ∷ drop (i + 1) es) (sym is))

pub event_passes : (limit : ℕ) (es : List JournalEntry) (i : ℕ) (e : JournalEntry) → i < length es → e ≡ get_or es i e → is_event_body limit e.body ≡ true → no_event_at limit (drop i es) ≡ no_event_at limit (drop (i + 1) es)
event_passes limit es i e below is event = more_events limit es i e below is ∙ ap (λ b. cond b (no_event_at limit (drop (i + 1) es)) (Some (Segment e.section, e.place))) event

pub event_stops : (limit : ℕ) (es : List JournalEntry) (i : ℕ) (e : JournalEntry) → i < length es → e ≡ get_or es i e → is_event_body limit e.body ≡ false → no_event_at limit (drop i es) ≡ Some (Segment e.section, e.place)
event_stops limit es i e below is event = more_events limit es i e below is ∙ ap (λ b. cond b (no_event_at limit (drop (i + 1) es)) (Some (Segment e.section, e.place))) event

-- the first of them is the one at this index, or it was passed
pub begins : (limit : ℕ) (es : List JournalEntry) (i : ℕ) (e : JournalEntry) → i < length es → e ≡ get_or es i e → (0 < i → BeginsWithEvent limit (views es)) → is_event_body limit e.body ≡ true → BeginsWithEvent limit (views es)
begins limit [] i e below is passed event = absurd (omega (arith, below))
begins limit (x ∷ es) zero e below is passed event = ap (λ (y : JournalEntry). is_event_body limit y.body) (sym is) ∙ event
begins limit (x ∷ es) (suc i) e below is passed event = passed (omega arith)

all_or : (limit : ℕ) (e : JournalEntry) (es : List JournalEntry) → no_event_at limit (e ∷ es) ≡ None → (is_event_body limit e.body ≡ true) × (no_event_at limit es ≡ None)
all_or limit e es none = elim (is_event_body limit e.body) as (λ b. cond b (no_event_at limit es) (Some (Segment e.section, e.place)) ≡ None → (b ≡ true) × (no_event_at limit es ≡ None)) [
  | true ↦ λ rest. (refl, rest)
  | false ↦ λ some. absurd (let h : ◌≡◌ {A = Option (Name × ℕ)} (Some (Segment e.section, e.place)) None = some in cc)
] none

-- where no body fails to be an event, all are
pub all_events : (limit : ℕ) (es : List JournalEntry) → no_event_at limit es ≡ None → AreEvents limit (views es)
all_events limit [] none = tt
all_events limit (e ∷ es) none = let both = all_or limit e es none in (both.0, all_events limit es both.1)
