-- Whether participants may take part in a round.
use Rattle.std.specs.Prelude.{ℕ, ◌==◌, nat_lt, Bool, true, ◌&&◌, List, [], ◌∷◌, length, Option, Some, None, is_some, Result, Ok, Err, if◌then◌else◌}
use Rattle.std.specs.Str.{bytes_eq}
use Rattle.dkg_ceremony.specs.declared.output.Output.{Output}
use Rattle.dkg_infos.specs.declared.participants.Participants.{Participants}
use Rattle.dkg_infos.specs.declared.participants.ParticipantsError.{ParticipantsError}
use Rattle.dkg_infos.specs.declared.participants.ParticipantsError.TheVariants.{EmptyDealers, EmptyPlayers, TooManyParticipants, InitialReshareDealers, UnknownReshareDealer}
use Rattle.dkg_values.specs.Rising.{index_of}

-- whether each key of some is one of the others
abbrev pub are_among : List ℕ → List ℕ → Bool
are_among [] keys = true
are_among (x ∷ xs) keys = is_some (index_of x keys) && are_among xs keys

abbrev pub limited : ℕ → ℕ → Result (Unit {0}) ParticipantsError
limited count max = if nat_lt max count then Err (TooManyParticipants count max) else Ok tt

-- whether dealers may reshare what a previous output shared: in round zero they are its players, later some of them
abbrev pub reshare_validation : List ℕ → List ℕ → ℕ → Result (Unit {0}) ParticipantsError
reshare_validation dealers previous round =
    if round == 0 then (if bytes_eq dealers previous then Ok tt else Err InitialReshareDealers)
    else if are_among dealers previous then Ok tt
    else Err UnknownReshareDealer

abbrev pub previous_validation : List ℕ → Option Output → ℕ → Result (Unit {0}) ParticipantsError
previous_validation dealers None round = Ok tt
previous_validation dealers (Some output) round = reshare_validation dealers output.players round

-- the first reason against these participants under a limit, with a previous output and the round's number
unfoldable pub validation : Participants → ℕ → Option Output → ℕ → Result (Unit {0}) ParticipantsError
validation p max previous round =
    if length p.dealers == 0 then Err EmptyDealers
    else if length p.players == 0 then Err EmptyPlayers
    else if nat_lt max (length p.dealers) then Err (TooManyParticipants (length p.dealers) max)
    else if nat_lt max (length p.players) then Err (TooManyParticipants (length p.players) max)
    else if nat_lt max (length p.next_players) then Err (TooManyParticipants (length p.next_players) max)
    else previous_validation p.dealers previous round
