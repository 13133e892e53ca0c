-- Dealings restored entry by entry.
use Rattle.std.proofs.Common.{◌≡◌, ℕ, ◌+◌, ◌<◌, ◌^◌, arith, Ok, Option, List, [], ◌∷◌, ◌++◌, map, take, length, get_or, sym, ap, ◌∙◌}
use Rattle.std.proofs.lemmas.List.{take_more, map-append}
use Rattle.std.proofs.lemmas.List.Sums.{fold_push}
use Rattle.std.specs.FinMap.{empty}
use Rattle.dkg_journal.specs.Records.{SectionEntry}
use Rattle.dkg_secrets.specs.Secrets.{Secrets}
use Rattle.dkg_values.specs.Codec.{whole}
use Rattle.dkg_store.specs.Events.{event_at, no_limit}
use Rattle.dkg_store.specs.Noted.{Note, with_note, noted, noted_ack, noted_log, ack_in_event, log_in_event}
use Rattle.dkg_store.specs.declared.event.Event.{Event}
use Rattle.dkg_store.specs.Pairs.{with_dealing, dealing_in_event, recorded_dealing, recovered}
use Rattle.dkg_store.proofs.Events.{wider}
use Rattle.dkg_journal.specs.Views.{view}
use Rattle.dkg_journal.specs.declared.opening.JournalEntry.{JournalEntry}

-- what an entry stands for that was read as an event
pub is_dealing : (limit : ℕ) (e : SectionEntry) (event : Event) → limit < 2 ^ 32 → whole (event_at limit e.1) ≡ Ok event → recorded_dealing e ≡ dealing_in_event e.0 (Ok event)
is_dealing limit e event fits is = ap (dealing_in_event e.0) (wider limit no_limit (omega arith) e.1 event is)

pub is_ack : (limit : ℕ) (e : SectionEntry) (event : Event) → limit < 2 ^ 32 → whole (event_at limit e.1) ≡ Ok event → noted_ack e ≡ ack_in_event e.0 (Ok event)
is_ack limit e event fits is = ap (ack_in_event e.0) (wider limit no_limit (omega arith) e.1 event is)

pub is_log : (limit : ℕ) (e : SectionEntry) (event : Event) → limit < 2 ^ 32 → whole (event_at limit e.1) ≡ Ok event → noted_log e ≡ log_in_event e.0 (Ok event)
is_log limit e event fits is = ap (log_in_event e.0) (wider limit no_limit (omega arith) e.1 event is)

pub one_more : (xs : List JournalEntry) (i : ℕ) (x : JournalEntry) (s : Secrets) → i < length xs → x ≡ get_or xs i x
    → recovered (map view (take (i + 1) xs)) s ≡ with_dealing s (recovered (map view (take i xs)) s) (recorded_dealing (view x))
one_more xs i x s below is =
    ap (λ (l : List JournalEntry). recovered (map view l) s) (take_more xs i x below ∙ ap (λ (y : JournalEntry). take i xs ++ y ∷ []) (sym is))
    ∙ ap (λ (l : List SectionEntry). recovered l s) (map-append view (take i xs) (x ∷ []))
    ∙ fold_push (λ m e. with_dealing s m (recorded_dealing e)) empty (map view (take i xs)) (view x)

pub one_note : {V : Type 0} (note_of : SectionEntry → Option (Note V)) (xs : List JournalEntry) (i : ℕ) (x : JournalEntry) → i < length xs → x ≡ get_or xs i x
    → noted note_of (map view (take (i + 1) xs)) ≡ with_note (noted note_of (map view (take i xs))) (note_of (view x))
one_note note_of xs i x below is =
    ap (λ (l : List JournalEntry). noted note_of (map view l)) (take_more xs i x below ∙ ap (λ (y : JournalEntry). take i xs ++ y ∷ []) (sym is))
    ∙ ap (λ (l : List SectionEntry). noted note_of l) (map-append view (take i xs) (x ∷ []))
    ∙ fold_push (λ m e. with_note m (note_of e)) empty (map view (take i xs)) (view x)
