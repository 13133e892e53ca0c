-- The events of a journal in bytes: a kind, and what that kind has.
use Rattle.std.proofs.Common.{◌≡◌, ℕ, zero, suc, ◌^◌, ◌-◌, ◌<◌, List, [], ◌∷◌, ◌++◌, Err, Bool, is_ok, Option, Some, None, refl}
use Rattle.std.specs.Prelude.{if◌then◌else◌}
use Rattle.std.specs.Int.{w32, to_be_bytes}
use Rattle.dkg_values.specs.declared.codec.CodecError.TheVariants.{InvalidEnum}
use Rattle.dkg_values.specs.Bytes.{bytes_at, bytes_grammar, HasTag, tagged, tagged_at, tagged_grammar}
use Rattle.dkg_values.specs.Codec.{Reading, IsGrammar, number_at, whole}
use Rattle.dkg_values.specs.Uint.{uint, uint_at}
use Rattle.dkg_values.specs.UintGrammar.{u64_grammar}
use Rattle.dkg_values.specs.Joined.{beside_at, beside_grammar, BothFit, both_spelled, seen_at}
use Rattle.dkg_values.specs.Lists.{public_at, public_spelling, PublicFits}
use Rattle.dkg_values.specs.ListGrammar.{be32_grammar, public_grammar}
use Rattle.dkg_ceremony.specs.LogEntries.{IsMark}
use Rattle.dkg_ceremony.specs.Logs.{log_at, log_spelling, LogFits, log_grammar}
use Rattle.dkg_ceremony.specs.Variants.{MadeOf, variant_grammar, none_grammar}
use Rattle.dkg_ceremony.specs.declared.dealer_log.DealerLog.{DealerLog}
use Rattle.dkg_journal.specs.declared.opening.JournalEntry.{JournalEntry}
use Rattle.dkg_values.specs.declared.name.Name.{Name}
use Rattle.dkg_values.specs.declared.name.Name.TheVariants.{Segment}
use Rattle.dkg_store.specs.declared.event.Event.{Event}
use Rattle.dkg_store.specs.declared.event.Event.TheVariants.{Dealing, Ack, Log, LogAt}

abbrev pub event_tag : Event → ℕ
event_tag (Dealing dealer public) = 0
event_tag (Ack player ack) = 1
event_tag (Log dealer log) = 2
event_tag (LogAt dealer height log) = 3

abbrev pub event_body : Event → List ℕ
event_body (Dealing dealer public) = to_be_bytes w32 dealer ++ public_spelling public
event_body (Ack player ack) = to_be_bytes w32 player ++ ack
event_body (Log dealer log) = to_be_bytes w32 dealer ++ log_spelling log
event_body (LogAt dealer height log) = to_be_bytes w32 dealer ++ (uint height ++ log_spelling log)

abbrev pub event_spelling : Event → List ℕ
event_spelling = tagged event_tag event_body

abbrev pub IsKey : ℕ → Type 0
IsKey n = n < 2 ^ 32

-- a key, and behind it what is within the limit
abbrev pub DealingFits : ℕ → ℕ × List ℕ → Type 0
DealingFits most = BothFit IsKey (PublicFits most)

abbrev pub AckFits : ℕ × List ℕ → Type 0
AckFits = BothFit IsKey IsMark

abbrev pub KeyedLogFits : ℕ → ℕ × DealerLog → Type 0
KeyedLogFits most = BothFit IsKey (LogFits most)

abbrev pub IsHeight : ℕ → Type 0
IsHeight n = n < 2 ^ 64

-- a key, and behind it a height and what is within the limit
abbrev pub PlacedLogFits : ℕ → ℕ × (ℕ × DealerLog) → Type 0
PlacedLogFits most = BothFit IsKey (BothFit IsHeight (LogFits most))

abbrev pub EventFits : ℕ → Event → Type 0
EventFits most (Dealing dealer public) = DealingFits most (dealer, public)
EventFits most (Ack player ack) = AckFits (player, ack)
EventFits most (Log dealer log) = KeyedLogFits most (dealer, log)
EventFits most (LogAt dealer height log) = PlacedLogFits most (dealer, (height, log))

abbrev pub dealing_event : ℕ × List ℕ → Event
dealing_event p = Dealing p.0 p.1

abbrev pub ack_event : ℕ × List ℕ → Event
ack_event p = Ack p.0 p.1

abbrev pub log_event : ℕ × DealerLog → Event
log_event p = Log p.0 p.1

abbrev pub log_at_event : ℕ × (ℕ × DealerLog) → Event
log_at_event p = LogAt p.0 p.1.0 p.1.1

-- a height, and behind it a log
abbrev pub placed_log_at : ℕ → List ℕ → Reading (ℕ × DealerLog)
placed_log_at most = beside_at (uint_at (2 ^ 64 - 1)) (log_at most)

-- what follows a kind, with public halves of at most so many elements and logs of at most so many entries
unfoldable pub event_after : ℕ → ℕ → List ℕ → Reading Event
event_after most zero = seen_at dealing_event (beside_at (number_at w32) (public_at most))
event_after most (suc zero) = seen_at ack_event (beside_at (number_at w32) (bytes_at 8))
event_after most (suc (suc zero)) = seen_at log_event (beside_at (number_at w32) (log_at most))
event_after most (suc (suc (suc zero))) = seen_at log_at_event (beside_at (number_at w32) (placed_log_at most))
event_after most (suc (suc (suc (suc kind)))) = λ _. Err (InvalidEnum (suc (suc (suc (suc kind)))))

abbrev pub event_at : ℕ → List ℕ → Reading Event
event_at most = tagged_at (event_after most)

is_dealing : (most : ℕ) (e : Event) → EventFits most e → event_tag e ≡ 0 → MadeOf (DealingFits most) dealing_event e
is_dealing most (Dealing dealer public) fit e = record { of = (dealer, public); fit = fit; is = refl }
is_dealing most (Ack player ack) fit e = absurd cc
is_dealing most (Log dealer log) fit e = absurd cc
is_dealing most (LogAt dealer height log) fit e = absurd cc

is_ack : (most : ℕ) (e : Event) → EventFits most e → event_tag e ≡ 1 → MadeOf AckFits ack_event e
is_ack most (Dealing dealer public) fit e = absurd cc
is_ack most (Ack player ack) fit e = record { of = (player, ack); fit = fit; is = refl }
is_ack most (Log dealer log) fit e = absurd cc
is_ack most (LogAt dealer height log) fit e = absurd cc

is_log : (most : ℕ) (e : Event) → EventFits most e → event_tag e ≡ 2 → MadeOf (KeyedLogFits most) log_event e
is_log most (Dealing dealer public) fit e = absurd cc
is_log most (Ack player ack) fit e = absurd cc
is_log most (Log dealer log) fit e = record { of = (dealer, log); fit = fit; is = refl }
is_log most (LogAt dealer height log) fit e = absurd cc

is_log_at : (most : ℕ) (e : Event) → EventFits most e → event_tag e ≡ 3 → MadeOf (PlacedLogFits most) log_at_event e
is_log_at most (Dealing dealer public) fit e = absurd cc
is_log_at most (Ack player ack) fit e = absurd cc
is_log_at most (Log dealer log) fit e = absurd cc
is_log_at most (LogAt dealer height log) fit e = record { of = (dealer, (height, log)); fit = fit; is = refl }

no_other : (kind : ℕ) (e : Event) → event_tag e ≡ suc (suc (suc (suc kind))) → ⊥
no_other kind (Dealing dealer public) e = cc
no_other kind (Ack player ack) e = cc
no_other kind (Log dealer log) e = cc
no_other kind (LogAt dealer height log) e = cc

after_grammar : (most tag : ℕ) → IsGrammar (HasTag (EventFits most) event_tag tag) event_body (event_after most tag)
unfolding event_after
after_grammar most zero =
    let halves = beside_grammar IsKey (to_be_bytes w32) (number_at w32) (PublicFits most) public_spelling (public_at most) be32_grammar (public_grammar most) in
    variant_grammar (DealingFits most) (both_spelled (to_be_bytes w32) public_spelling) (beside_at (number_at w32) (public_at most)) dealing_event (EventFits most) event_tag event_body 0 halves
    (record { there = λ a fit. fit; tag_is = λ a. refl; body_is = λ a. refl; back = is_dealing most })
after_grammar most (suc zero) =
    let marked = beside_grammar IsKey (to_be_bytes w32) (number_at w32) IsMark (λ (bytes : List ℕ). bytes) (bytes_at 8) be32_grammar (bytes_grammar 8) in
    variant_grammar AckFits (both_spelled (to_be_bytes w32) (λ (bytes : List ℕ). bytes)) (beside_at (number_at w32) (bytes_at 8)) ack_event (EventFits most) event_tag event_body 1 marked
    (record { there = λ a fit. fit; tag_is = λ a. refl; body_is = λ a. refl; back = is_ack most })
after_grammar most (suc (suc zero)) =
    let logged = beside_grammar IsKey (to_be_bytes w32) (number_at w32) (LogFits most) log_spelling (log_at most) be32_grammar (log_grammar most) in
    variant_grammar (KeyedLogFits most) (both_spelled (to_be_bytes w32) log_spelling) (beside_at (number_at w32) (log_at most)) log_event (EventFits most) event_tag event_body 2 logged
    (record { there = λ a fit. fit; tag_is = λ a. refl; body_is = λ a. refl; back = is_log most })
after_grammar most (suc (suc (suc zero))) =
    let at = both_spelled uint log_spelling in
    let placed = beside_grammar IsHeight uint (uint_at (2 ^ 64 - 1)) (LogFits most) log_spelling (log_at most) u64_grammar (log_grammar most) in
    let logged = beside_grammar IsKey (to_be_bytes w32) (number_at w32) (BothFit IsHeight (LogFits most)) at (placed_log_at most) be32_grammar placed in
    variant_grammar (PlacedLogFits most) (both_spelled (to_be_bytes w32) at) (beside_at (number_at w32) (placed_log_at most)) log_at_event (EventFits most) event_tag event_body 3 logged
    (record { there = λ a fit. fit; tag_is = λ a. refl; body_is = λ a. refl; back = is_log_at most })
after_grammar most (suc (suc (suc (suc kind)))) = none_grammar (EventFits most) event_tag event_body (suc (suc (suc (suc kind)))) (InvalidEnum (suc (suc (suc (suc kind))))) (no_other kind)

pub event_grammar : (most : ℕ) → IsGrammar (EventFits most) event_spelling (event_at most)
event_grammar most = tagged_grammar (EventFits most) event_tag event_body (event_after most) (after_grammar most)

-- no public half and no log has more elements or entries
abbrev pub no_limit : ℕ
no_limit = 2 ^ 32 - 1

-- what a record can hold as an event
abbrev pub IsEvent : Event → Type 0
IsEvent event = EventFits no_limit event

-- all of the bytes are one event within the limit
abbrev pub is_event_body : ℕ → List ℕ → Bool
is_event_body limit body = is_ok (whole (event_at limit body))

-- the file and the place of the first of these records whose body is no event
abbrev pub no_event_at : ℕ → List JournalEntry → Option (Name × ℕ)
no_event_at limit [] = None
no_event_at limit (e ∷ es) = if is_event_body limit e.body then no_event_at limit es else Some (Segment e.section, e.place)
