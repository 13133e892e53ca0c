-- What a player takes from a round: the outcome, and its share.
use Rattle.std.specs.Prelude.{◌≡◌, ℕ, ◌+◌, ◌*◌, ◌%◌, ◌&&◌, not, Bool, true, false, Contains, IsSomeAnd, List, [], ◌∷◌, map, Option, Some, None, option_and_then, option_map, unwrap_or, is_some, Result, Ok, Err, if◌then◌else◌}
use Rattle.std.specs.List.{zip}
use Rattle.std.specs.Option.{option_map_or}
use Rattle.std.specs.Str.{bytes_eq}
use Rattle.dkg_values.specs.Rising.{lookup}
use Rattle.dkg_ceremony.specs.declared.round.RoundParts.{RoundParts as Round}
use Rattle.dkg_ceremony.specs.declared.output.Output.{Output}
use Rattle.dkg_ceremony.specs.declared.log_entry.LogEntry.{LogEntry}
use Rattle.dkg_ceremony.specs.declared.log_entry.LogEntry.TheVariants.{Ack, Reveal}
use Rattle.dkg_ceremony.specs.declared.dealer_log.DealerLog.{DealerLog}
use Rattle.dkg_ceremony.specs.declared.finish.FinishError.{FinishError}
use Rattle.dkg_ceremony.specs.declared.finish.FinishError.TheVariants.{MissingDealing, NoMemory}
use Rattle.dkg_ceremony.specs.Outcomes.{LogMap, selected_of, combined_of}
use Rattle.dkg_ceremony.specs.Polynomials.{prime}
use Rattle.dkg_ceremony.specs.ValidLogs.{bears_ack_of, entry_of}
use Rattle.dkg_ceremony.specs.Weights.{weights_of}

-- both halves of a dealing, by their dealer
abbrev pub DealingMap : Type 0
DealingMap = List (ℕ × (List ℕ × ℕ))

-- the private half of a dealing that has this public half
abbrev pub private_with : List ℕ → List ℕ × ℕ → Option ℕ
private_with public dealing = if bytes_eq dealing.0 public then Some dealing.1 else None

-- what an entry of a log reveals, or else what was dealt with the log's public half
abbrev pub private_from : List ℕ → Option (List ℕ × ℕ) → LogEntry → Option ℕ
private_from public dealing (Ack ack) = option_and_then (private_with public) dealing
private_from public dealing (Reveal private) = Some private

abbrev pub private_by : List ℕ → (me : ℕ) → Option (List ℕ × ℕ) → DealerLog → Option ℕ
private_by players me dealing log = option_and_then (private_from log.public dealing) (entry_of players me log)

-- a player's private half of what a dealer dealt, where it is known
abbrev pub private_in : List ℕ → (me : ℕ) → DealingMap → LogMap → (dealer : ℕ) → Option ℕ
private_in players me dealings logs dealer = option_and_then (private_by players me (lookup dealer dealings)) (lookup dealer logs)

-- whether a dealing has this public half
abbrev pub has_public : List ℕ → Option (List ℕ × ℕ) → Bool
has_public public None = false
has_public public (Some dealing) = bytes_eq dealing.0 public

-- whether a dealer's log bears the player's acknowledgement, and the player has no dealing with the log's public half
abbrev pub lacks_by : (bears : (dealer : ℕ) → DealerLog → Bool) → DealingMap → LogMap → (dealer : ℕ) → Bool
lacks_by bears dealings logs dealer = option_map_or (λ log. bears dealer log && not (has_public log.public (lookup dealer dealings))) (lookup dealer logs) false

unfoldable pub lacks_dealing : Round → (me : ℕ) → DealingMap → LogMap → (dealer : ℕ) → Bool
lacks_dealing round me dealings logs dealer = lacks_by (λ dealer log. bears_ack_of round dealer log me) dealings logs dealer

-- A dealing is missing: that of a selected dealer, whose log lacks it.
pub record IsMissing (bears : (dealer : ℕ) → DealerLog → Bool) (dealings : DealingMap) (logs : LogMap) (selected : Option (List ℕ)) (e : FinishError) : Type 0 where
  pub dealer : ℕ
  pub is : e ≡ MissingDealing dealer
  pub chosen : IsSomeAnd selected (λ dealers. Contains dealers dealer)
  pub lacks : lacks_by bears dealings logs dealer ≡ true

-- the first dealer that passes a test
abbrev pub first_that : (ℕ → Bool) → List ℕ → Option ℕ
first_that test [] = None
first_that test (dealer ∷ dealers) = if test dealer then Some dealer else first_that test dealers

-- the first dealer whose private half isn't known
abbrev pub first_missing : (ℕ → Option ℕ) → List ℕ → Option ℕ
first_missing private dealers = first_that (λ dealer. not (is_some (private dealer))) dealers

abbrev pub known_privates : (ℕ → Option ℕ) → List ℕ → List ℕ
known_privates private dealers = map (λ dealer. unwrap_or (private dealer) 0) dealers

-- a weighted sum modulo the prime
abbrev pub weighted_total : List (ℕ × ℕ) → ℕ
weighted_total [] = 0
weighted_total (p ∷ ps) = ((p.0 * p.1) % prime + weighted_total ps) % prime

-- the same sum over the private halves as the output is over the public ones
unfoldable pub share_of : Round → List ℕ → (ℕ → Option ℕ) → ℕ
share_of round selected private = weighted_total (zip (weights_of round.previous selected) (known_privates private selected))

abbrev pub finish_where : Option ℕ → Option Output → ℕ → Result (Option (Output × ℕ)) FinishError
finish_where (Some dealer) output share = Err (MissingDealing dealer)
finish_where None output share = Ok (option_map (λ o. (o, share)) output)

unfoldable pub finish_with : Round → (me : ℕ) → DealingMap → LogMap → List ℕ → Result (Option (Output × ℕ)) FinishError
finish_with round me dealings logs selected =
    finish_where (first_that (lacks_dealing round me dealings logs) selected) (combined_of round logs selected) (share_of round selected (private_in round.players me dealings logs))

abbrev pub finish_from : Round → (me : ℕ) → DealingMap → LogMap → Option (List ℕ) → Result (Option (Output × ℕ)) FinishError
finish_from round me dealings logs None = Ok None
finish_from round me dealings logs (Some selected) = finish_with round me dealings logs selected

-- The outcome of a round and a player's share of it, or none; or which dealing is missing.
unfoldable pub finish_of : Round → (me : ℕ) → DealingMap → LogMap → Result (Option (Output × ℕ)) FinishError
finish_of round me dealings logs = finish_from round me dealings logs (selected_of round logs)

-- What a call answered is the answer, unless memory ran out.
abbrev pub AnswersFinish : Result (Option (Output × ℕ)) FinishError → Result (Option (Output × ℕ)) FinishError → Type 0
AnswersFinish answer (Ok found) = answer ≡ Ok found
AnswersFinish answer (Err NoMemory) = Unit {0}
AnswersFinish answer (Err e) = answer ≡ Err e

-- which dealing is missing, where that is what is answered
abbrev pub TellsMissingDealing : Option ℕ → FinishError → Type 0
TellsMissingDealing missing (MissingDealing dealer) = missing ≡ Some dealer
TellsMissingDealing missing NoMemory = Unit {0}
