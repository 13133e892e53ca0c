-- Logs of a path and next infos, tried on a round of one player.
use Rattle.std.proofs.Common.{ℕ, ◌+◌, List, [], ◌∷◌, ◌≡◌, Option, Some, None, refl}
use Rattle.sha2.specs.Sha256.{first_words, schedule, rounds, compress, hash_after, digest_bytes, sha256}
use Rattle.dkg_values.specs.Uint.{groups}
use Rattle.dkg_ceremony.specs.declared.dealer_log.DealerLog.{DealerLog}
use Rattle.dkg_ceremony.specs.declared.log_entry.LogEntry.TheVariants.{Ack, Reveal}
use Rattle.dkg_ceremony.specs.declared.mode.Mode.TheVariants.{NonZeroCounter}
use Rattle.dkg_ceremony.specs.declared.mode.Reveal.TheVariants.{V1}
use Rattle.dkg_ceremony.specs.declared.output.Output.{Output}
use Rattle.dkg_ceremony.specs.declared.round.RoundParts.{RoundParts as Round}
use Rattle.dkg_ceremony.specs.declared.signed_log.SignedDealerLog.{SignedDealerLog}
use Rattle.dkg_ceremony.specs.Acks.{ack_content, ack_of, check_ack_of}
use Rattle.dkg_ceremony.specs.Marks.{mark_of}
use Rattle.dkg_ceremony.specs.Outcomes.{LogMap, outcome_of, selected_of, sum_of, revealed_of, combined_of, output_with, round_summary}
use Rattle.dkg_ceremony.specs.Polynomials.{value_at}
use Rattle.dkg_ceremony.specs.Rounds.{round_bytes}
use Rattle.dkg_ceremony.specs.ValidLogs.{check_log_of, is_valid, log_content, sign_log_of}
use Rattle.dkg_types.specs.Blocks.{Block}
use Rattle.dkg_infos.specs.declared.directory.Unit as directory
use Rattle.dkg_infos.specs.declared.info.EpochInfo.{EpochInfo}
use Rattle.dkg_infos.specs.declared.outcome.EpochOutcome.TheVariants.{Success, Failure}
use Rattle.dkg_types.specs.declared.payload.Payload.TheVariants.{DealerLog as carries}
use Rattle.dkg_types.specs.BlockCodes.{genesis_context, zero_digest}
use Rattle.dkg_infos.specs.NextInfos.{Provided, next_info, oneshot_info}
use Rattle.dkg_types.specs.Paths.{logs_from, logs_of_path}

-- LOGS OF A PATH: dealers 1 and 2 deal to player 1 in epoch 0 of 8 blocks, whose midpoint is 4 and whose last height is 7

abbrev round : Round
round = record { namespace = []; number = 0; previous = None; mode = NonZeroCounter; reveal = V1; dealers = 1 ∷ 2 ∷ []; players = 1 ∷ [] }

-- a dealer's log of a constant, which it reveals to the player
abbrev signed : (dealer constant : ℕ) → SignedDealerLog
signed dealer constant = sign_log_of dealer round (constant ∷ []) ((1, constant) ∷ []) []

abbrev revealing : ℕ → DealerLog
revealing constant = record { public = constant ∷ []; entries = Reveal constant ∷ [] }

abbrev with_mark_of : (dealer : ℕ) → SignedDealerLog → SignedDealerLog
with_mark_of dealer s = record { dealer = dealer; log = s.log; mark = s.mark }

abbrev block : (height : ℕ) → SignedDealerLog → Block directory.Unit
block height s = record { context = genesis_context 0; parent = zero_digest; height = height; payload = Some (carries s); digest = zero_digest }

-- too early, marked by another, the first of dealer 2, its second, and too late
abbrev path : List (Block directory.Unit)
path = block 3 (signed 2 5) ∷ block 4 (with_mark_of 2 (signed 1 6)) ∷ block 5 (signed 2 7) ∷ block 6 (signed 2 8) ∷ block 7 (signed 1 9) ∷ []

pub first_counts : logs_of_path check_log_of 4 7 round path ≡ (2, revealing 7) ∷ []
unfolding logs_from check_log_of log_content sign_log_of mark_of round_bytes groups first_words schedule rounds compress hash_after digest_bytes sha256
first_counts = refl

-- NEXT INFOS: player 1 deals to itself in epoch 0, key 2 plays next, and the provider has one key an epoch, the epoch's successor

abbrev alone : Round
alone = record { namespace = []; number = 0; previous = None; mode = NonZeroCounter; reveal = V1; dealers = 1 ∷ []; players = 1 ∷ [] }

-- the log of the constant 5, which the player acknowledges
abbrev acknowledged : LogMap
acknowledged = (1, record { public = 5 ∷ []; entries = Ack (ack_of 1 alone 1 (5 ∷ [])) ∷ [] }) ∷ []

abbrev provided : Provided directory.Unit
provided = record { participants = λ epoch. (epoch + 1) ∷ []; directory = λ epoch peers. record {} }

abbrev info : Output → EpochInfo directory.Unit
info output = record { outcome = Success; epoch = 0; output = output; players = 1 ∷ []; next_players = 2 ∷ []; directory = record {} }

pub carried_forward : (output : Output) → next_info outcome_of provided (info output) alone [] ≡ record { outcome = Failure; epoch = 1; output = output; players = 2 ∷ []; next_players = 3 ∷ []; directory = record {} }
unfolding next_info outcome_of selected_of
carried_forward output = refl

-- what an info says after a ceremony whose key is 5
pub record Succeeds (i : EpochInfo directory.Unit) : Type 0 where
  pub outcome : i.outcome ≡ Success
  pub epoch : i.epoch ≡ 1
  pub poly : i.output.sharing.poly ≡ 5 ∷ []
  pub players : i.players ≡ 2 ∷ []
  pub next_players : i.next_players ≡ 3 ∷ []

pub has_succeeded : (output : Output) → Succeeds (next_info outcome_of provided (info output) alone acknowledged)
unfolding next_info outcome_of selected_of combined_of sum_of revealed_of output_with round_summary is_valid check_ack_of ack_content round_bytes mark_of value_at groups first_words schedule rounds compress hash_after digest_bytes sha256
has_succeeded output = record { outcome = refl; epoch = refl; poly = refl; players = refl; next_players = refl }

abbrev nothing : Option (EpochInfo directory.Unit)
nothing = None

pub nothing_once : oneshot_info outcome_of (λ peers. record {}) (1 ∷ []) alone [] ≡ nothing
unfolding oneshot_info outcome_of selected_of
nothing_once = refl
