-- Which of a dealer's logs are valid, whose acknowledgements they bear, and how they are signed.
use Rattle.std.specs.Prelude.{ℕ, ◌+◌, ◌==◌, ◌&&◌, ◌||◌, nat_le, Bool, true, false, List, [], ◌∷◌, ◌++◌, length, map, Option, Some, None, option_and_then, is_some, is_ok}
use Rattle.std.specs.List.{slice_get, count_by}
use Rattle.std.specs.Option.{option_map_or}
use Rattle.std.specs.Str.{bytes_eq}
use Rattle.dkg_values.specs.Rising.{lookup, index_of}
use Rattle.dkg_ceremony.specs.declared.sign.Domain.TheVariants as domains
use Rattle.dkg_ceremony.specs.declared.round.RoundParts.{RoundParts as Round}
use Rattle.dkg_ceremony.specs.declared.log_entry.LogEntry.{LogEntry}
use Rattle.dkg_ceremony.specs.declared.log_entry.LogEntry.TheVariants.{Ack, Reveal}
use Rattle.dkg_ceremony.specs.declared.dealer_log.DealerLog.{DealerLog}
use Rattle.dkg_ceremony.specs.declared.signed_log.SignedDealerLog.{SignedDealerLog}
use Rattle.dkg_ceremony.specs.Acks.{ack_content, check_ack_of}
use Rattle.dkg_ceremony.specs.Dealings.{reshares}
use Rattle.dkg_ceremony.specs.Logs.{log_spelling}
use Rattle.dkg_ceremony.specs.Marks.{mark_of}
use Rattle.dkg_ceremony.specs.Polynomials.{value_at}
use Rattle.dkg_ceremony.specs.Rounds.{round_bytes}
use Rattle.dkg_ceremony.specs.Thresholds.{quorum_of, max_faults_of}

-- ---- validity

abbrev pub is_reveal : LogEntry → Bool
is_reveal (Ack ack) = false
is_reveal (Reveal private) = true

-- whether an entry is its player's acknowledgement of the content, or the player's private half
abbrev pub entry_passes : (content : List ℕ) → List ℕ → (index player : ℕ) → LogEntry → Bool
entry_passes content public index player (Ack ack) = bytes_eq (mark_of player domains.Ack content) ack
entry_passes content public index player (Reveal private) = private == value_at public (index + 1)

-- whether each entry passes, one for each player, the first of whom stands at the index
abbrev pub entries_pass : (content : List ℕ) → List ℕ → (index : ℕ) → List ℕ → List LogEntry → Bool
entries_pass content public index [] [] = true
entries_pass content public index [] (entry ∷ entries) = false
entries_pass content public index (player ∷ players) [] = false
entries_pass content public index (player ∷ players) (entry ∷ entries) = entry_passes content public index player entry && entries_pass content public (index + 1) players entries

-- Whether a dealer's log may be a part of the outcome.
unfoldable pub is_valid : Round → (dealer : ℕ) → DealerLog → Bool
is_valid round dealer log =
    (length log.public == quorum_of (length round.players)) && reshares round.previous dealer log.public && (length log.entries == length round.players) && nat_le (count_by is_reveal log.entries) (max_faults_of (length round.players))
    && entries_pass (ack_content round dealer log.public) log.public 0 round.players log.entries

-- ---- acknowledgements in logs

abbrev pub ack_in : LogEntry → Option (List ℕ)
ack_in (Ack ack) = Some ack
ack_in (Reveal private) = None

-- what stands at a player's index
abbrev pub entry_of : List ℕ → ℕ → DealerLog → Option LogEntry
entry_of players player log = option_and_then (slice_get log.entries) (index_of player players)

-- what stands at a player's index, where it is an acknowledgement
abbrev pub ack_at : List ℕ → ℕ → DealerLog → Option (List ℕ)
ack_at players player log = option_and_then ack_in (entry_of players player log)

-- whether a dealer's log holds a valid acknowledgement of the player
unfoldable pub bears_ack_of : Round → (dealer : ℕ) → DealerLog → (player : ℕ) → Bool
bears_ack_of round dealer log player = option_map_or (λ ack. is_ok (check_ack_of round dealer log.public player ack)) (ack_at round.players player log) false

-- ---- signatures

-- what a log's mark is on
unfoldable pub log_content : Round → DealerLog → List ℕ
log_content round log = round_bytes round ++ log_spelling log

unfoldable pub check_log_of : Round → SignedDealerLog → Bool
check_log_of round signed = is_some (index_of signed.dealer round.dealers) && bytes_eq (mark_of signed.dealer domains.Log (log_content round signed.log)) signed.mark

-- whether there is something to write for a player
abbrev pub has_entry : List (ℕ × ℕ) → List (ℕ × List ℕ) → ℕ → Bool
has_entry privates acks player = is_some (lookup player acks) || is_some (lookup player privates)

abbrev pub reveal_of : Option ℕ → LogEntry
reveal_of None = Reveal 0
reveal_of (Some private) = Reveal private

-- a player's acknowledgement where there is one, or else its private half
abbrev pub entry_from : Option (List ℕ) → Option ℕ → LogEntry
entry_from None private = reveal_of private
entry_from (Some ack) private = Ack ack

abbrev pub entry_for : List (ℕ × ℕ) → List (ℕ × List ℕ) → ℕ → LogEntry
entry_for privates acks player = entry_from (lookup player acks) (lookup player privates)

abbrev pub log_for : List ℕ → List ℕ → List (ℕ × ℕ) → List (ℕ × List ℕ) → DealerLog
log_for players public privates acks = record { public = public; entries = map (entry_for privates acks) players }

unfoldable pub sign_log_of : (signer : ℕ) → Round → List ℕ → List (ℕ × ℕ) → List (ℕ × List ℕ) → SignedDealerLog
sign_log_of signer round public privates acks =
    let log = log_for round.players public privates acks in
    record { dealer = signer; log = log; mark = mark_of signer domains.Log (log_content round log) }
