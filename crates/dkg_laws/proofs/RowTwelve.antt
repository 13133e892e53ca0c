-- The worked row of two epochs, its second life, and the life that a cut within the prune leaves.
use Rattle.std.proofs.Common.{◌≡◌, ℕ, List, [], ◌∷◌, ◌++◌, ◌+◌, Option, None, refl}
use Rattle.sha2.specs.Sha256.{first_words, schedule, rounds, compress, hash_after, digest_bytes, sha256}
use Rattle.dkg_values.specs.Bytes.{byte_at}
use Rattle.dkg_values.specs.Codec.{many_at}
use Rattle.dkg_values.specs.Uint.{groups, groups_at}
use Rattle.dkg_ceremony.specs.Acks.{ack_content}
use Rattle.dkg_ceremony.specs.Dealings.{dealing_of}
use Rattle.dkg_ceremony.specs.Finishes.{finish_of}
use Rattle.dkg_ceremony.specs.Marks.{mark_of}
use Rattle.dkg_ceremony.specs.Outcomes.{selected_of, outcome_of}
use Rattle.dkg_ceremony.specs.Polynomials.{value_at}
use Rattle.dkg_ceremony.specs.Rounds.{round_of, round_bytes}
use Rattle.dkg_store.specs.Events.{event_after}
use Rattle.dkg_types.specs.MessageCodes.{message_after}
use Rattle.dkg_infos.specs.Validation.{validation}
use Rattle.dkg_ceremony.specs.declared.phase.Phase.TheVariants.{Midpoint}
use Rattle.dkg_infos.specs.declared.entry.Entry.TheVariants.{Opened, Committed, Registered, Setup, Entered, Acked}
use Rattle.dkg_infos.specs.declared.entry.Part.TheVariants.{Player}
use Rattle.dkg_infos.specs.declared.entry.Restored.{Restored}
use Rattle.dkg_infos.specs.declared.entry.Role.TheVariants.{Member}
use Rattle.dkg_types.specs.Blocks.{Block}
use Rattle.dkg_store.specs.Acts.{OnDisk, Changes, Held}
use Rattle.dkg_journal.specs.Operations.{Bars, Opens, Prunes}
use Rattle.dkg_secrets.specs.declared.secrets.SecretOp.TheVariants.{PutSeed, Prune}
use Rattle.dkg_ceremony.specs.Deals.{fresh_seed}
use Rattle.dkg_core.specs.Live.{Live, Peer, Event, Reshare, Delivers, NodeStop}
use Rattle.dkg_core.specs.Node.{node_step}
use Rattle.dkg_laws.proofs.Mirror.{Outcome, nothing, held_within}
use Rattle.dkg_laws.proofs.Lives.{Life, at_step, end_after, plays, plays_over}
use Rattle.dkg_laws.proofs.Worked.{Dir, life_of, above, genesis, plain, carrying, opens, records, set_up, of_setup, says, dealt, ack_of_dealt, ack_of_next}

abbrev pub second : Block Dir
second = carrying 1 1 (0 ∷ [])

abbrev pub third : Block Dir
third = plain 2 (1 ∷ [])

abbrev pub fourth : Block Dir
fourth = carrying 3 2 (2 ∷ [])

abbrev pub events : List (Event Dir)
events = Reshare (Peer 2 dealt) ∷ Delivers genesis ∷ Delivers second ∷ Reshare (Peer 2 dealt) ∷ Delivers third ∷ []

abbrev pub first_life : Life Dir
first_life = life_of 2 0 (genesis ∷ [])

-- the last block of an epoch: commit, registration, prune, setup and entry, and then its acknowledgement
abbrev pub passes : (epoch height calls min : ℕ) → Outcome NodeStop
passes epoch height calls min = record {
  lines = set_up epoch ++ Acked height ∷ [];
  operations = Changes (PutSeed epoch (fresh_seed 9 epoch)) ∷ OnDisk (Prunes min) ∷ Changes (Prune min) ∷ [];
  calls = 2 + calls;
  fault = None;
}

pub twelve : plays first_life (events ++ Delivers fourth ∷ [])
    ≡ opens ∷ records 0 6 ack_of_dealt ∷ says (Acked 0 ∷ []) ∷ passes 1 1 0 0 ∷ records 1 6 ack_of_next ∷ says (Acked 2 ∷ []) ∷ passes 2 3 1 1 ∷ []
unfolding validation round_of dealing_of value_at message_after event_after byte_at many_at groups_at groups ack_content mark_of round_bytes first_words schedule rounds compress hash_after digest_bytes sha256 finish_of selected_of outcome_of fresh_seed
twelve = refl

abbrev pub left : Option (Live Dir × Held)
left = end_after nothing first_life events

abbrev pub restored : List Restored
restored = record { epoch = 1; dealer = 2; public = 15 ∷ 7 ∷ 1 ∷ []; private = 23 } ∷ []

abbrev pub later_life : (height : ℕ) → List (Block Dir) → Life Dir
later_life height held = above height (height ∷ []) (life_of 2 1 held)

-- what the devices hold behind the first operations of its last step
abbrev pub within_last : (operations : ℕ) → Held
within_last n = held_within n (node_step (at_step first_life (genesis ∷ second ∷ third ∷ fourth ∷ [])) (Delivers fourth)) left

-- the second life stands at the last block of epoch 1
pub reopened : plays_over (within_last 3) (later_life 3 (fourth ∷ [])) []
    ≡ record { lines = Opened 1 restored ∷ set_up 2; operations = OnDisk Bars ∷ OnDisk (Opens 0) ∷ of_setup 2 1; calls = 3; fault = None } ∷ []
unfolding validation round_of dealing_of value_at message_after event_after byte_at many_at groups_at groups ack_content mark_of round_bytes first_words schedule rounds compress hash_after digest_bytes sha256 finish_of selected_of outcome_of fresh_seed
reopened = refl

-- cut within the secret prune (which is undone here), it stands one block lower and takes part in epoch 1 again
pub after_cut : plays_over (within_last 2) (later_life 2 (second ∷ third ∷ [])) []
    ≡ record {
      lines = Opened 1 restored ∷ Committed 1 None ∷ Registered 1 Member ∷ Setup 1 Midpoint Player ∷ Entered 1 ∷ [];
      operations = OnDisk Bars ∷ OnDisk (Opens 0) ∷ of_setup 1 0;
      calls = 3;
      fault = None;
    } ∷ []
unfolding validation round_of dealing_of value_at message_after event_after byte_at many_at groups_at groups ack_content mark_of round_bytes first_words schedule rounds compress hash_after digest_bytes sha256 finish_of selected_of outcome_of fresh_seed
after_cut = refl
