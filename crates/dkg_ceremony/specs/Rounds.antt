-- Rounds: which may be held, and their bytes.
use Rattle.std.specs.Prelude.{ℕ, ◌==◌, ◌||◌, not, nat_lt, List, [], ◌∷◌, ◌++◌, length, Option, Some, None, Result, Ok, Err, Bool, true, false, if◌then◌else◌, ◌≡◌}
use Rattle.dkg_ceremony.specs.declared.round.RoundParts.{RoundParts as Round}
use Rattle.dkg_ceremony.specs.declared.round.RoundError.{RoundError}
use Rattle.dkg_ceremony.specs.declared.round.RoundError.TheVariants.{NoDealers, NoPlayers, TooMany, DealersNotPrevious, NoMemory}
use Rattle.dkg_ceremony.specs.declared.output.Output.{Output}
use Rattle.dkg_ceremony.specs.declared.mode.Mode.{Mode}
use Rattle.dkg_ceremony.specs.declared.mode.Reveal.{Reveal}
use Rattle.dkg_values.specs.Uint.{uint}
use Rattle.dkg_values.specs.Lists.{set_spelling}
use Rattle.dkg_ceremony.specs.Modes.{mode_byte, reveal_byte}
use Rattle.dkg_ceremony.specs.Outputs.{output_bytes}
use Rattle.dkg_ceremony.specs.Agreement.{all_in}

abbrev pub previous_bytes : Option Output → List ℕ
previous_bytes None = 0 ∷ []
previous_bytes (Some o) = 1 ∷ output_bytes o

unfoldable pub round_bytes : Round → List ℕ
round_bytes r = uint (length r.namespace) ++ r.namespace ++ uint r.number ++ previous_bytes r.previous ++ mode_byte r.mode ∷ reveal_byte r.reveal ∷ [] ++ set_spelling r.dealers ++ set_spelling r.players

-- the most points that differ and are not zero
abbrev pub most_points : ℕ
most_points = 65520

abbrev pub has_too_many : Option Output → Bool
has_too_many None = false
has_too_many (Some o) = nat_lt most_points (length o.players)

-- whether each dealer held a share before
abbrev pub are_previous : List ℕ → Option Output → Bool
are_previous dealers None = true
are_previous dealers (Some o) = all_in dealers o.players

-- the round of these parts, or why there is none
unfoldable pub round_of : List ℕ → ℕ → Option Output → Mode → Reveal → List ℕ → List ℕ → Result Round RoundError
round_of namespace number previous mode reveal dealers players =
    if length dealers == 0 then Err NoDealers
    else if length players == 0 then Err NoPlayers
    else if nat_lt most_points (length dealers) || nat_lt most_points (length players) || has_too_many previous then Err TooMany
    else if not (are_previous dealers previous) then Err DealersNotPrevious
    else Ok (record { namespace = namespace; number = number; previous = previous; mode = mode; reveal = reveal; dealers = dealers; players = players })

-- What a call answered is the answer, unless memory ran out.
abbrev pub AnswersRound : Result Round RoundError → Result Round RoundError → Type 0
AnswersRound answer (Ok round) = answer ≡ Ok round
AnswersRound answer (Err NoMemory) = Unit {0}
AnswersRound answer (Err e) = answer ≡ Err e
