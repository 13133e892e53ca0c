-- The parts of the relation's courses that the functions here are, one by one.
use Rattle.std.specs.Prelude.{◌≡◌, ◌⊎◌, ◌+◌, ◌<◌, ◌^◌, ◌==◌, ⊤, nat_le, ℕ, Bool, true, false, List, length, map, Option, Some, None, option_map, option_and_then, Result, Ok, Err, if◌then◌else◌}
use Rattle.dkg_ceremony.specs.declared.phase.Phase.{Phase}
use Rattle.dkg_ceremony.specs.declared.phase.Phase.TheVariants as phase
use Rattle.dkg_ceremony.specs.declared.round.RoundParts.{RoundParts as Round}
use Rattle.dkg_ceremony.specs.declared.round.RoundError.{RoundError}
use Rattle.dkg_ceremony.specs.declared.epocher.Bounds.{Bounds}
use Rattle.dkg_ceremony.specs.Schedule.{bounds_at, epoch_of, last}
use Rattle.dkg_ceremony.specs.Thresholds.{max_faults_of}
use Rattle.std.specs.Option.{option_map_or}
use Rattle.dkg_types.specs.Blocks.{Block}
use Rattle.dkg_types.specs.BlockCodes.{info_of}
use Rattle.dkg_infos.specs.declared.fault.Fault.{Fault}
use Rattle.dkg_infos.specs.declared.fault.Fault.TheVariants.{NoMemory, InvalidParticipants, MissingEpochInfo, WrongEpoch, LocalState}
use Rattle.dkg_infos.specs.declared.fault.LocalCause.TheVariants.{ShareRefused, StoredDealing}
use Rattle.dkg_infos.specs.declared.fault.ParticipantsCause.TheVariants.{Refused, Round as NoRound}
use Rattle.dkg_infos.specs.declared.info.EpochInfo.{EpochInfo}
use Rattle.dkg_infos.specs.declared.participants.ParticipantsError.{ParticipantsError}
use Rattle.dkg_ceremony.specs.declared.ceremony.DealingError.{DealingError}
use Rattle.dkg_infos.specs.Validation.{validation}
use Rattle.dkg_infos.specs.declared.entry.Entry.{Entry}
use Rattle.dkg_infos.specs.declared.entry.Entry.TheVariants.{Ack, Blocked}
use Rattle.dkg_values.specs.Rising.{lookup}
use Rattle.dkg_core.specs.Courses.{Course, Goes, Stops}
use Rattle.dkg_core.specs.Fixed.{Fixed}
use Rattle.dkg_core.specs.Live.{Live, awaited_height, phase_of}
use Rattle.dkg_core.specs.Live as live
use Rattle.dkg_core.specs.Setup.{looks, recovered_share, seed_for, makes_player, takes_part}
use Rattle.dkg_core.specs.Setup as setup
use Rattle.dkg_core.specs.Dealing.{why_dealing}
use Rattle.dkg_life.specs.declared.stop.Stop.{Stop}
use Rattle.dkg_life.specs.declared.stop.Stop.TheVariants.{Fault as Faulted}
use Rattle.dkg_life.specs.declared.life.Stage.{Stage}
use Rattle.dkg_life.specs.declared.life.Stage.TheVariants as stage
use Rattle.dkg_life.specs.LiveOf.{dealer_of, seat_of}
use Rattle.dkg_store.specs.Dealer.{unsent}
use Rattle.dkg_store.specs.declared.dealer.Dealer.{Dealer}
use Rattle.dkg_store.specs.declared.player.Player.{Player}

-- the share and the seed of an info's epoch, as they are read at once
abbrev pub reads_secrets : {Dir : Type 0} → Fixed Dir → EpochInfo Dir → Course Dir Fault (Option ℕ × List ℕ)
reads_secrets c info = looks c (λ s. Goes (recovered_share c s info, seed_for c info.epoch (lookup info.epoch s.seeds)))

-- .. the seed alone
abbrev pub reads_seed : {Dir : Type 0} → Fixed Dir → EpochInfo Dir → Course Dir Fault (List ℕ)
reads_seed c info = looks c (λ s. Goes (seed_for c info.epoch (lookup info.epoch s.seeds)))

-- why a round was not drawn up
abbrev pub no_round : Result Round RoundError → Option Fault
no_round (Ok round) = None
no_round (Err e) = Some (InvalidParticipants (NoRound e))

-- why an info is refused: it is another epoch's, or its participants are
abbrev pub refused_by : Result (Unit {0}) ParticipantsError → Option Fault
refused_by (Ok passed) = None
refused_by (Err e) = Some (InvalidParticipants (Refused e))

abbrev pub refusal_of : {Dir : Type 0} → (epoch limit : ℕ) → EpochInfo Dir → Option Fault
refusal_of epoch limit info =
    if info.epoch == epoch then refused_by (validation (setup.participants_of info) limit (Some info.output) info.epoch) else Some (WrongEpoch epoch info.epoch)

-- want of memory, or this fault
abbrev pub IsFaultOrWant : Option Fault → Stop → Type 0
IsFaultOrWant None stop = stop ≡ Faulted NoMemory
IsFaultOrWant (Some its) stop = (stop ≡ Faulted NoMemory) ⊎ (stop ≡ Faulted its)

-- How making a player went on: with a seat, by a fault, or it found no memory.
abbrev pub MakesPlayer : {Dir : Type 0} → Fixed Dir → Round → Phase → Option live.Dealer → Live Dir → Result (Option Player) Stop → Type 0
MakesPlayer c round phase dealer st (Ok player) = makes_player c round phase dealer st ≡ takes_part c round phase dealer (seat_of player) st
MakesPlayer c round phase dealer st (Err stop) = (stop ≡ Faulted NoMemory)
    ⊎ ((refused : ℕ) × (stop ≡ Faulted (LocalState (StoredDealing round.number refused))) × (setup.refused_in c round st ≡ Some refused)
    × (makes_player c round phase dealer st ≡ setup.sits_down c round phase dealer (Some refused) st))

-- How making a dealer went on: with one or without, by a refused share, or it found no memory.
abbrev pub MakesDealer : {Dir : Type 0} → Fixed Dir → Round → Phase → (share : Option ℕ) → (seed : List ℕ) → Live Dir → Result (Option Dealer) Stop → Type 0
MakesDealer c round phase share seed st (Ok dealer) = setup.in_round c phase share seed st (Ok round) ≡ makes_player c round phase (option_map dealer_of dealer) st
MakesDealer c round phase share seed st (Err stop) = (stop ≡ Faulted NoMemory)
    ⊎ ((stop ≡ Faulted (LocalState (ShareRefused round.number))) × (setup.in_round c phase share seed st (Ok round) ≡ Stops (LocalState (ShareRefused round.number))))

-- a dealer that so many of the players have acknowledged that those who lack are no more than may fail
abbrev pub with_quorum : (players : ℕ) → Option Dealer → Option Dealer
with_quorum players dealer =
    option_and_then (λ d. if nat_le (length (unsent d.acks d.privates d.round.players)) (max_faults_of players) then Some d else None) dealer

-- a dealer that may still make a log that counts, among so many players
abbrev pub kept_for : Phase → (players : ℕ) → Option Dealer → Option Dealer
kept_for phase.Early players dealer = dealer
kept_for phase.Midpoint players dealer = with_quorum players dealer
kept_for phase.Late players dealer = with_quorum players dealer

-- The life stands in this phase.
abbrev pub StandsIn : {Dir : Type 0} → Fixed Dir → Live Dir → Phase → Type 0
StandsIn c st phase = phase ≡ phase_of c (awaited_height st)

-- the line that answers a dealing
abbrev pub told_by : (epoch dealer : ℕ) → Result (List ℕ) DealingError → Entry
told_by epoch dealer (Ok ack) = Ack epoch dealer ack
told_by epoch dealer (Err e) = Blocked dealer (why_dealing e)

-- the stage in which a phase begins
abbrev pub stage_begun_in : Phase → Stage
stage_begun_in phase.Early = stage.Dealing
stage_begun_in phase.Midpoint = stage.Including
stage_begun_in phase.Late = stage.Including

abbrev pub is_dealing : Stage → Bool
is_dealing stage.Dealing = true
is_dealing stage.Including = false
is_dealing stage.Following = false

-- These are the bounds of the epoch in which a height lies, and it ends within 64 bits.
pub record AreBoundsAt (n : ℕ) (bounds : Bounds) (height : ℕ) : Type 0 where
  pub are : bounds ≡ bounds_at n height
  pub in_range : last n (epoch_of n height) < 2 ^ 64

-- A dealer keeps its dealing; acknowledgements may have come in.
abbrev pub SameHalves : Option Dealer → Option Dealer → Type 0
SameHalves None None = ⊤
SameHalves (Some old) (Some new) = new ≡ record old { acks = new.acks }
SameHalves None (Some new) = ⊥
SameHalves (Some old) None = ⊥

-- players with their private halves, as they are sent: with the public half
abbrev pub with_public : List ℕ → List (ℕ × ℕ) → List (ℕ × List ℕ × ℕ)
with_public public unsent = map (λ one. (one.0, public, one.1)) unsent

-- the private halves of such a list
abbrev pub private_halves_of : List (ℕ × List ℕ × ℕ) → List (ℕ × ℕ)
private_halves_of unsent = map (λ one. (one.0, one.2)) unsent

-- what an epoch's last block carries: the info of the next epoch, or why it is refused
abbrev pub carried_in : {Dir : Type 0} → (epoch : ℕ) → Block Dir → Result (EpochInfo Dir) Fault
carried_in epoch b =
    option_map_or (λ info. if info.epoch == epoch + 1 then Ok info else Err (WrongEpoch (epoch + 1) info.epoch)) (info_of b.payload) (Err (MissingEpochInfo b.height))
