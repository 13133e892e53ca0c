-- The outcome of a round: which logs it is made of, and how.
use Rattle.std.specs.Prelude.{ℕ, ◌+◌, ◌==◌, nat_lt, Bool, true, false, List, [], ◌∷◌, length, map, take, Option, Some, None, option_and_then, if◌then◌else◌}
use Rattle.std.specs.List.{filter, list_any, slice_get, zip}
use Rattle.std.specs.Option.{option_map_or}
use Rattle.std.specs.Result.{result_ok}
use Rattle.dkg_values.specs.Rising.{lookup, set_of}
use Rattle.dkg_ceremony.specs.declared.sign.Domain.TheVariants as domains
use Rattle.dkg_ceremony.specs.declared.round.RoundParts.{RoundParts as Round}
use Rattle.dkg_ceremony.specs.declared.output.Output.{Output}
use Rattle.dkg_ceremony.specs.declared.sharing.Sharing.{Sharing}
use Rattle.dkg_ceremony.specs.declared.dealer_log.DealerLog.{DealerLog}
use Rattle.dkg_ceremony.specs.Marks.{mark_of}
use Rattle.dkg_ceremony.specs.Outputs.{OutputParts, output_from}
use Rattle.dkg_ceremony.specs.PolynomialLaws.{weighted_sum}
use Rattle.dkg_ceremony.specs.Rounds.{round_bytes}
use Rattle.dkg_ceremony.specs.Thresholds.{quorum_of}
use Rattle.dkg_ceremony.specs.ValidLogs.{is_reveal, is_valid}
use Rattle.dkg_ceremony.specs.Weights.{weights_of}

abbrev pub LogMap : Type 0
LogMap = List (ℕ × DealerLog)

-- ---- which logs

abbrev pub has_valid : Round → LogMap → (dealer : ℕ) → Bool
has_valid round logs dealer = option_map_or (is_valid round dealer) (lookup dealer logs) false

-- the first so many, where there are that many
abbrev pub first_many : ℕ → List ℕ → Option (List ℕ)
first_many count dealers = if nat_lt (length dealers) count then None else Some (take count dealers)

-- The dealers whose logs the outcome is made of: the first quorum of those with valid logs.
unfoldable pub selected_of : Round → LogMap → Option (List ℕ)
selected_of round logs = first_many (quorum_of (length round.dealers)) (filter (has_valid round logs) round.dealers)

-- ---- what is made of them

abbrev pub public_in : LogMap → (dealer : ℕ) → List ℕ
public_in logs dealer = option_map_or (λ log. log.public) (lookup dealer logs) []

-- the weighted sum of the selected public halves
unfoldable pub sum_of : Round → LogMap → List ℕ → List ℕ
sum_of round logs selected = weighted_sum (quorum_of (length round.players)) (zip (weights_of round.previous selected) (map (public_in logs) selected))

abbrev pub reveals_at : LogMap → (index dealer : ℕ) → Bool
reveals_at logs index dealer = option_map_or (λ log. option_map_or is_reveal (slice_get log.entries index) false) (lookup dealer logs) false

-- the players that a selected log reveals, of those the first of whom stands at the index
abbrev pub revealed_from : LogMap → List ℕ → (index : ℕ) → List ℕ → List ℕ
revealed_from logs selected index [] = []
revealed_from logs selected index (player ∷ players) = if list_any (reveals_at logs index) selected then player ∷ revealed_from logs selected (index + 1) players else revealed_from logs selected (index + 1) players

unfoldable pub revealed_of : Round → LogMap → List ℕ → List ℕ
revealed_of round logs selected = set_of (revealed_from logs selected 0 round.players)

-- whether two polynomials begin with one coefficient
abbrev pub begin_alike : List ℕ → List ℕ → Bool
begin_alike (x ∷ xs) (y ∷ ys) = x == y
begin_alike _ _ = false

-- whether the key stays what it was
abbrev pub keeps_key : Option Output → List ℕ → Bool
keeps_key None poly = true
keeps_key (Some o) poly = begin_alike poly o.sharing.poly

unfoldable pub round_summary : Round → List ℕ
round_summary round = mark_of 0 domains.Round (round_bytes round)

abbrev pub sharing_for : Round → List ℕ → Sharing
sharing_for round poly = record { mode = round.mode; total = length round.players; poly = poly }

abbrev pub outcome_parts : Round → List ℕ → List ℕ → OutputParts
outcome_parts round poly revealed = (round_summary round, (sharing_for round poly, (round.dealers, (round.players, revealed))))

-- the output of these parts, where they make one
unfoldable pub output_with : Round → List ℕ → List ℕ → Option Output
output_with round poly revealed = result_ok (output_from (outcome_parts round poly revealed))

-- the output of a polynomial, where it keeps the key
abbrev pub output_for : Round → List ℕ → List ℕ → Option Output
output_for round poly revealed = if keeps_key round.previous poly then output_with round poly revealed else None

-- what the selected logs make together
unfoldable pub combined_of : Round → LogMap → List ℕ → Option Output
combined_of round logs selected = output_for round (sum_of round logs selected) (revealed_of round logs selected)

-- The outcome of a round and the logs of its dealers, or none.
unfoldable pub outcome_of : Round → LogMap → Option Output
outcome_of round logs = option_and_then (combined_of round logs) (selected_of round logs)
