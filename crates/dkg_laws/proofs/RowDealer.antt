-- A node that holds a share: it offers its dealing, signs its log once, and serves it.
use Rattle.std.proofs.Common.{◌≡◌, ℕ, List, [], ◌∷◌, Some, None, refl}
use Rattle.sha2.specs.Sha256.{first_words, schedule, rounds, compress, hash_after, digest_bytes, sha256}
use Rattle.dkg_values.specs.Bytes.{byte_at}
use Rattle.dkg_values.specs.Codec.{many_at}
use Rattle.dkg_values.specs.Uint.{groups, groups_at}
use Rattle.dkg_ceremony.specs.declared.mode.Mode.TheVariants.{NonZeroCounter}
use Rattle.dkg_ceremony.specs.declared.mode.Reveal.TheVariants.{V1}
use Rattle.dkg_ceremony.specs.declared.phase.Phase.TheVariants.{Early}
use Rattle.dkg_ceremony.specs.declared.round.RoundParts.{RoundParts as Round}
use Rattle.dkg_ceremony.specs.declared.signed_log.SignedDealerLog.{SignedDealerLog}
use Rattle.dkg_ceremony.specs.Acks.{ack_content, ack_of, check_ack_of}
use Rattle.dkg_ceremony.specs.Deals.{deal_of, coefficient_of, dealt_poly, fresh_seed}
use Rattle.dkg_ceremony.specs.Marks.{mark_of}
use Rattle.dkg_ceremony.specs.Polynomials.{value_at}
use Rattle.dkg_ceremony.specs.Rounds.{round_of, round_bytes}
use Rattle.dkg_ceremony.specs.ValidLogs.{check_log_of, log_content, sign_log_of}
use Rattle.dkg_infos.specs.declared.entry.Entry.TheVariants.{Opened, Committed, Registered, Setup, Entered, Recorded, Offer, Acked, Log}
use Rattle.dkg_infos.specs.declared.entry.Part.TheVariants.{Both}
use Rattle.dkg_infos.specs.declared.entry.Role.TheVariants.{Signer}
use Rattle.dkg_types.specs.declared.payload.Payload.TheVariants as payloads
use Rattle.dkg_types.specs.PayloadCodes.{payload_spelling}
use Rattle.dkg_infos.specs.Units.{unit_spelling}
use Rattle.dkg_infos.specs.Validation.{validation}
use Rattle.dkg_store.specs.Acts.{Held, OnDisk, Changes}
use Rattle.dkg_journal.specs.Operations.{Bars, Opens, Appends}
use Rattle.dkg_store.specs.Events.{event_spelling}
use Rattle.dkg_store.specs.declared.event.Event.TheVariants as events
use Rattle.dkg_secrets.specs.declared.secrets.SecretOp.TheVariants.{PutShare, PutDealing}
use Rattle.dkg_core.specs.Live.{Reshare, Delivers, NextLog, ReleaseLog, NodeStop}
use Rattle.dkg_laws.proofs.Mirror.{Outcome, holding, secret}
use Rattle.dkg_laws.proofs.Lives.{Life, plays_over}
use Rattle.dkg_laws.proofs.Worked.{Dir, life_of, above, genesis, plain, block, output, keys, of_setup, says}

-- the share of epoch 0 is stored, and the tip stands at height 2
abbrev pub holding_share : Held
holding_share = holding (secret 0 (10 ∷ 8 ∷ []) ∷ []) []

abbrev pub over_two : Life Dir
over_two = above 2 (2 ∷ []) (life_of 8 0 (genesis ∷ []))

abbrev pub round : Round
round = record { namespace = []; number = 0; previous = Some output; mode = NonZeroCounter; reveal = V1; dealers = keys; players = keys }

-- its own dealing, the acknowledgement of itself, and its log, in which the others are revealed
abbrev pub public : List ℕ
public = dealt_poly (Some 8) (fresh_seed 9 0) 3

abbrev pub private_of : ℕ → ℕ
private_of player = value_at public player

abbrev pub own_ack : List ℕ
own_ack = ack_of 1 round 1 public

abbrev pub privates : List (ℕ × ℕ)
privates = (1, private_of 1) ∷ (2, private_of 2) ∷ (3, private_of 3) ∷ (4, private_of 4) ∷ []

abbrev pub own_log : SignedDealerLog
own_log = sign_log_of 1 round public privates ((1, own_ack) ∷ [])

abbrev pub payload : List ℕ
payload = payload_spelling {Dir = Dir} unit_spelling (payloads.DealerLog own_log)

abbrev pub opens_with_share : Outcome NodeStop
opens_with_share = record {
  lines = Opened 0 [] ∷ Committed 0 (Some 8) ∷ Registered 0 Signer ∷ Setup 0 Early Both ∷ Entered 0 ∷ [];
  operations = OnDisk Bars ∷ OnDisk (Opens 0) ∷ Changes (PutShare 0 8) ∷ of_setup 0 0;
  calls = 4;
  fault = None;
}

-- the block before the midpoint: it records and acknowledges its own dealing, and offers the others theirs
abbrev pub offers : Outcome NodeStop
offers = record {
  lines = Recorded 0 1 public (private_of 1) ∷ Offer 0 2 public (private_of 2) ∷ Offer 0 3 public (private_of 3) ∷ Offer 0 4 public (private_of 4) ∷ Acked 3 ∷ [];
  operations = Changes (PutDealing 0 1 (private_of 1)) ∷ OnDisk (Appends (0, event_spelling (events.Dealing 1 public))) ∷ OnDisk (Appends (0, event_spelling (events.Ack 1 own_ack))) ∷ [];
  calls = 10;
  fault = None;
}

-- its log in the next block is recorded, and offered no more
abbrev pub observes : Outcome NodeStop
observes = record {
  lines = Acked 4 ∷ [];
  operations = OnDisk (Appends (0, event_spelling (events.LogAt 1 4 own_log.log))) ∷ [];
  calls = 4;
  fault = None;
}

pub deals : plays_over holding_share over_two (Delivers (plain 3 (2 ∷ [])) ∷ Reshare (NextLog 7 4) ∷ Reshare (NextLog 8 5) ∷ Reshare (ReleaseLog 4) ∷ Reshare (NextLog 9 5)
    ∷ Delivers (block 4 (3 ∷ []) (Some (payloads.DealerLog own_log))) ∷ Reshare (NextLog 10 6) ∷ [])
    ≡ opens_with_share ∷ offers ∷ says (Log 7 (Some payload) ∷ []) ∷ says (Log 8 None ∷ []) ∷ says [] ∷ says (Log 9 (Some payload) ∷ []) ∷ observes ∷ says (Log 10 None ∷ []) ∷ []
unfolding validation round_of value_at byte_at many_at groups_at groups ack_content check_ack_of mark_of round_bytes first_words schedule rounds compress hash_after digest_bytes sha256 deal_of coefficient_of fresh_seed sign_log_of log_content check_log_of
deals = refl
