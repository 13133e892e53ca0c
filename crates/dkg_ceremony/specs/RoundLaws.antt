-- A round that is drawn up has the parts that it was asked for.
use Rattle.std.specs.Prelude.{◌≡◌, ℕ, Bool, true, false, ◌==◌, ◌||◌, not, nat_lt, List, length, Option, Ok, Err, IfOk, IfErr, refl}
use Rattle.std.proofs.Common.{cond}
use Rattle.dkg_ceremony.specs.declared.round.RoundParts.{RoundParts as Round}
use Rattle.dkg_ceremony.specs.declared.round.RoundError.{RoundError}
use Rattle.dkg_ceremony.specs.declared.round.RoundError.TheVariants.{NoDealers, NoPlayers, TooMany, DealersNotPrevious, NoMemory}
use Rattle.dkg_ceremony.specs.declared.output.Output.{Output}
use Rattle.dkg_ceremony.specs.declared.mode.Mode.{Mode}
use Rattle.dkg_ceremony.specs.declared.mode.Reveal.{Reveal}
use Rattle.dkg_ceremony.specs.Rounds.{most_points, has_too_many, are_previous, round_of}

-- after four tests
past_four : (a b c d : Bool) (first second third fourth : RoundError) (round : Round) → IfOk (cond a (Err first) (cond b (Err second) (cond c (Err third) (cond d (Err fourth) (Ok round))))) (λ r. r ≡ round)
past_four true b c d first second third fourth round = tt
past_four false true c d first second third fourth round = tt
past_four false false true d first second third fourth round = tt
past_four false false false true first second third fourth round = tt
past_four false false false false first second third fourth round = refl

no_want : (a b c d : Bool) (round : Round) → IfErr (cond a (Err NoDealers) (cond b (Err NoPlayers) (cond c (Err TooMany) (cond d (Err DealersNotPrevious) (Ok round))))) (λ e. e ≡ NoMemory → ⊥)
no_want true b c d round = λ is. cc
no_want false true c d round = λ is. cc
no_want false false true d round = λ is. cc
no_want false false false true round = λ is. cc
no_want false false false false round = tt

-- A round that isn't drawn up has a cause of its own: the answer is never want of memory.
pub rounds_have_causes : (namespace : List ℕ) (number : ℕ) (previous : Option Output) (mode : Mode) (reveal : Reveal) (dealers players : List ℕ)
    → IfErr (round_of namespace number previous mode reveal dealers players) (λ e. e ≡ NoMemory → ⊥)
unfolding round_of
rounds_have_causes namespace number previous mode reveal dealers players =
    no_want (length dealers == 0) (length players == 0) (nat_lt most_points (length dealers) || nat_lt most_points (length players) || has_too_many previous) (not (are_previous dealers previous))
    (record { namespace = namespace; number = number; previous = previous; mode = mode; reveal = reveal; dealers = dealers; players = players })

pub round_has : (namespace : List ℕ) (number : ℕ) (previous : Option Output) (mode : Mode) (reveal : Reveal) (dealers players : List ℕ)
    → IfOk (round_of namespace number previous mode reveal dealers players) (λ round. round ≡ record { namespace = namespace; number = number; previous = previous; mode = mode; reveal = reveal; dealers = dealers; players = players })
unfolding round_of
round_has namespace number previous mode reveal dealers players =
    past_four (length dealers == 0) (length players == 0) (nat_lt most_points (length dealers) || nat_lt most_points (length players) || has_too_many previous) (not (are_previous dealers previous)) NoDealers NoPlayers TooMany DealersNotPrevious
    (record { namespace = namespace; number = number; previous = previous; mode = mode; reveal = reveal; dealers = dealers; players = players })
