-- The chain of a generated script: the keys 1 to 7, five epochs, and one of them whose ceremony fails.
use Rattle.std.specs.Prelude.{ℕ, zero, suc, ◌+◌, ◌%◌, ◌==◌, List, [], ◌∷◌, ◌++◌, map, replicate, Option, Some, None, Result, Ok, Err, if◌then◌else◌, refl}
use Rattle.std.specs.Int.{w32, w64, to_be_bytes}
use Rattle.std.specs.List.{range_with_len}
use Rattle.sha2.specs.Sha256.{sha256}
use Rattle.dkg_values.specs.Rising.{map_of}
use Rattle.dkg_ceremony.specs.declared.deal.DealError.{DealError}
use Rattle.dkg_ceremony.specs.declared.dealer_log.DealerLog.{DealerLog}
use Rattle.dkg_ceremony.specs.declared.mode.Mode.TheVariants.{NonZeroCounter}
use Rattle.dkg_ceremony.specs.declared.mode.Reveal.TheVariants.{V1}
use Rattle.dkg_ceremony.specs.declared.output.Output.{Output}
use Rattle.dkg_ceremony.specs.declared.round.RoundParts.{RoundParts as Round}
use Rattle.dkg_ceremony.specs.declared.signed_log.SignedDealerLog.{SignedDealerLog}
use Rattle.dkg_ceremony.specs.Acks.{ack_of}
use Rattle.dkg_ceremony.specs.AgreementTest.{agreed}
use Rattle.dkg_ceremony.specs.Deals.{coefficient_of, deal_of}
use Rattle.dkg_ceremony.specs.Outcomes.{LogMap, outcome_of}
use Rattle.dkg_ceremony.specs.PartialPublics.{partial_public_of}
use Rattle.dkg_ceremony.specs.ValidLogs.{sign_log_of}
use Rattle.dkg_infos.specs.declared.directory.Unit as directory
use Rattle.dkg_infos.specs.declared.info.EpochInfo.{EpochInfo}
use Rattle.dkg_infos.specs.declared.outcome.EpochOutcome.TheVariants.{Success}
use Rattle.dkg_infos.specs.NextInfos.{Provided, next_info}

-- WHO

-- this node
abbrev pub this_node : ℕ
this_node = 1

abbrev pub everybody : List ℕ
everybody = range_with_len 1 7

-- who deals to this node and acknowledges its dealings
abbrev pub others : List ℕ
others = range_with_len 2 6

-- how many epochs there are
abbrev pub epochs : ℕ
epochs = 5

-- the epoch whose ceremony fails
abbrev pub failed : (number : ℕ) → ℕ
failed number = number % epochs

-- THE FIRST INFO

-- its coefficients are drawn as a dealer draws them
unfoldable pub genesis_poly : (number : ℕ) → List ℕ
genesis_poly number = map (coefficient_of (to_be_bytes w64 number ++ 1 ∷ [])) (range_with_len 0 5)

unfoldable pub genesis_output : (number : ℕ) → Output
unfolding genesis_poly
genesis_output number = record {
  summary = replicate 8 0;
  sharing = record { mode = NonZeroCounter; total = 7; poly = genesis_poly number };
  dealers = everybody;
  players = everybody;
  revealed = [];
  agree = agreed 7 (genesis_poly number) everybody [] refl;
}

unfoldable pub genesis : (number : ℕ) → EpochInfo directory.Unit
genesis number = record { outcome = Success; epoch = 0; output = genesis_output number; players = everybody; next_players = everybody; directory = record {} }

-- AN EPOCH'S CEREMONY

-- all deal to all, after the info's output
abbrev pub round_after : EpochInfo directory.Unit → Round
round_after info = record { namespace = []; number = info.epoch; previous = Some info.output; mode = NonZeroCounter; reveal = V1; dealers = everybody; players = everybody }

-- what another dealer draws its coefficients from
unfoldable pub dealer_seed : (number key epoch : ℕ) → List ℕ
dealer_seed number key epoch = sha256 (to_be_bytes w64 number ++ to_be_bytes w32 key ++ to_be_bytes w64 epoch)

-- a public half, and each player's private half
abbrev pub Halves : Type 0
Halves = List ℕ × List (ℕ × ℕ)

-- what was dealt; each dealer here has its share, so that nothing is refused
abbrev pub dealt : Result Halves DealError → Halves
dealt (Ok halves) = halves
dealt (Err e) = ([], [])

-- what a key deals with its share of the info's output
unfoldable pub halves_of : EpochInfo directory.Unit → (key : ℕ) → (seed : List ℕ) → Halves
halves_of info key seed = dealt (deal_of (round_after info) key (partial_public_of info.output key) seed)

abbrev pub dealing_made : (number : ℕ) → EpochInfo directory.Unit → (key : ℕ) → Halves
dealing_made number info key = halves_of info key (dealer_seed number key info.epoch)

-- each player's acknowledgement
unfoldable pub acks_of : Round → (dealer : ℕ) → List ℕ → List (ℕ × List ℕ)
acks_of round dealer public = map (λ player. (player, ack_of player round dealer public)) everybody

abbrev pub log_by : Round → (dealer : ℕ) → Halves → SignedDealerLog
log_by round dealer halves = sign_log_of dealer round halves.0 halves.1 (acks_of round dealer halves.0)

-- a dealer's log holds every player's acknowledgement
unfoldable pub signed_of : (number : ℕ) → EpochInfo directory.Unit → (key : ℕ) → SignedDealerLog
signed_of number info key = log_by (round_after info) key (dealing_made number info key)

-- THE CHAIN

-- how many logs an epoch's blocks carry: too few for an outcome in the epoch that fails
abbrev pub logs_included : (number epoch : ℕ) → ℕ
logs_included number epoch = if epoch == failed number then 2 else 6

unfoldable pub logs_made : (number : ℕ) → EpochInfo directory.Unit → List SignedDealerLog
logs_made number info = map (signed_of number info) (range_with_len 2 (logs_included number info.epoch))

abbrev pub dealer_and_log : SignedDealerLog → ℕ × DealerLog
dealer_and_log signed = (signed.dealer, signed.log)

abbrev pub by_dealer : List SignedDealerLog → LogMap
by_dealer logs = map_of (map dealer_and_log logs)

-- whoever is asked says that all take part
abbrev pub provided : Provided directory.Unit
provided = record { participants = λ epoch. everybody; directory = λ epoch peers. record {} }

-- the info after an epoch's info, by the logs that the epoch's blocks carry
unfoldable pub info_made_after : (number : ℕ) → EpochInfo directory.Unit → EpochInfo directory.Unit
info_made_after number info = next_info outcome_of provided info (round_after info) (by_dealer (logs_made number info))

-- the info of an epoch
unfoldable pub made_info_at : (number epoch : ℕ) → EpochInfo directory.Unit
made_info_at number zero = genesis number
made_info_at number (suc epoch) = info_made_after number (made_info_at number epoch)
