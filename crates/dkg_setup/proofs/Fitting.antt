-- An info whose participants are some, and no more of each kind than a limit, is valid: its dealers are its own output's players.
use Rattle.std.proofs.Common.{◌≡◌, ℕ, suc, ◌==◌, nat_lt, Bool, true, false, List, [], ◌∷◌, length, Some, Result, Ok, Err, refl, arith}
use Rattle.std.specs.Prelude.{Contains, if◌then◌else◌}
use Rattle.std.specs.Str.{bytes_eq}
use Rattle.std.proofs.lemmas.Slice.Eq.{bytes_eq-Decides}
use Rattle.dkg_values.specs.IndexLaws.{index_of-Contains}
use Rattle.dkg_infos.specs.declared.info.EpochInfo.{EpochInfo}
use Rattle.dkg_infos.specs.Validation.{are_among, reshare_validation, validation}
use Rattle.dkg_infos.specs.declared.participants.ParticipantsError.{ParticipantsError}
use Rattle.dkg_infos.specs.declared.participants.ParticipantsError.TheVariants.{InitialReshareDealers, UnknownReshareDealer}
use Rattle.dkg_core.specs.Setup as setup

among_them : (xs keys : List ℕ) → ((x : ℕ) → Contains xs x → Contains keys x) → are_among xs keys ≡ true
among_them [] keys all = refl
among_them (x ∷ xs) keys all = rw (index_of-Contains x keys (all x (0, omega arith, refl))) (among_them xs keys (λ y c. all y (suc c.0, omega (arith, c.1), c.2)))

-- what is asked of dealers that are the players before, in round zero and later
abbrev asked : List ℕ → Bool → Result (Unit {0}) ParticipantsError
asked players first =
    if first then (if bytes_eq players players then Ok tt else Err InitialReshareDealers)
    else if are_among players players then Ok tt
    else Err UnknownReshareDealer

either_way : (players : List ℕ) (first : Bool) → asked players first ≡ Ok tt
either_way players true = rw ((bytes_eq-Decides players players).1 refl) refl
either_way players false = rw (among_them players players (λ x c. c)) refl

same_players : (players : List ℕ) (round : ℕ) → reshare_validation players players round ≡ Ok tt
same_players players round = either_way players (round == 0)

pub within_passes : {Dir : Type 0} (limit : ℕ) (info : EpochInfo Dir) → (length info.output.players == 0) ≡ false → (length info.players == 0) ≡ false
    → nat_lt limit (length info.output.players) ≡ false → nat_lt limit (length info.players) ≡ false → nat_lt limit (length info.next_players) ≡ false
    → validation (setup.participants_of info) limit (Some info.output) info.epoch ≡ Ok tt
unfolding validation
within_passes limit info dealers players few_dealers few_players few_next = rw (dealers, players, few_dealers, few_players, few_next) (same_players info.output.players info.epoch)
