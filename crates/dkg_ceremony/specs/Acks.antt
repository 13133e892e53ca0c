-- Acknowledgements, and what their check answers.
use Rattle.std.specs.Prelude.{◌≡◌, ℕ, not, List, ◌++◌, is_some, Result, Ok, Err, if◌then◌else◌}
use Rattle.std.specs.Int.{w32, to_be_bytes}
use Rattle.std.specs.Str.{bytes_eq}
use Rattle.dkg_ceremony.specs.declared.sign.Domain.TheVariants as domains
use Rattle.dkg_ceremony.specs.declared.round.RoundParts.{RoundParts as Round}
use Rattle.dkg_ceremony.specs.declared.ceremony.AckError.{AckError}
use Rattle.dkg_ceremony.specs.declared.ceremony.AckError.TheVariants.{UnexpectedPlayer, InvalidAck, NoMemory}
use Rattle.dkg_values.specs.Lists.{public_spelling}
use Rattle.dkg_values.specs.Rising.{index_of}
use Rattle.dkg_ceremony.specs.Marks.{mark_of}
use Rattle.dkg_ceremony.specs.Rounds.{round_bytes}

-- what an acknowledgement is a mark on
unfoldable pub ack_content : Round → (dealer : ℕ) → List ℕ → List ℕ
ack_content round dealer public = round_bytes round ++ to_be_bytes w32 dealer ++ public_spelling public

abbrev pub ack_of : (me : ℕ) → Round → (dealer : ℕ) → List ℕ → List ℕ
ack_of me round dealer public = mark_of me domains.Ack (ack_content round dealer public)

-- What a check answered is its answer, unless memory ran out.
abbrev pub AnswersAckCheck : Result (Unit {0}) AckError → Result (Unit {0}) AckError → Type 0
AnswersAckCheck answer (Ok u) = answer ≡ Ok tt
AnswersAckCheck answer (Err NoMemory) = Unit {0}
AnswersAckCheck answer (Err e) = answer ≡ Err e

-- what the check of an acknowledgement answers
unfoldable pub check_ack_of : Round → (dealer : ℕ) → List ℕ → (player : ℕ) → List ℕ → Result (Unit {0}) AckError
check_ack_of round dealer public player ack =
    if not (is_some (index_of player round.players)) then Err UnexpectedPlayer
    else if not (bytes_eq (ack_of player round dealer public) ack) then Err InvalidAck
    else Ok tt
