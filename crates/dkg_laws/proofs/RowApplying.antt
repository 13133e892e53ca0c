-- Worked rows of the application and of the probe.
use Rattle.std.proofs.Common.{◌≡◌, ℕ, List, [], ◌∷◌, Option, Some, None, refl}
use Rattle.std.specs.Prelude.{replicate}
use Rattle.sha2.specs.Sha256.{first_words, schedule, rounds, compress, hash_after, digest_bytes, sha256}
use Rattle.dkg_values.specs.Bytes.{byte_at}
use Rattle.dkg_values.specs.Codec.{many_at}
use Rattle.dkg_values.specs.Uint.{groups, groups_at}
use Rattle.dkg_ceremony.specs.Marks.{mark_of}
use Rattle.dkg_ceremony.specs.Rounds.{round_of}
use Rattle.dkg_infos.specs.declared.entry.BlockedWhy.TheVariants as why
use Rattle.dkg_infos.specs.declared.entry.AnswerLine.TheVariants.{Unavailable}
use Rattle.dkg_infos.specs.declared.entry.Entry.{Entry}
use Rattle.dkg_infos.specs.declared.entry.Entry.TheVariants.{Answer, Prepared, Proposed, Verdict, Blocked, Sent, Artifact}
use Rattle.dkg_infos.specs.declared.entry.PreparedLine.TheVariants.{Wait}
use Rattle.dkg_infos.specs.declared.entry.Verdict.TheVariants.{Reject, Unresolved}
use Rattle.dkg_infos.specs.declared.entry.Why.TheVariants as causes
use Rattle.dkg_types.specs.declared.finalization.Finalization.{Finalization}
use Rattle.dkg_types.specs.declared.payload.Payload.TheVariants as payloads
use Rattle.dkg_types.specs.FinalizationCodes.{certificate_of, is_certified, finalization_spelling}
use Rattle.dkg_types.specs.PayloadCodes.{payload_spelling, info_payload}
use Rattle.dkg_infos.specs.Units.{unit_spelling}
use Rattle.dkg_infos.specs.Validation.{validation}
use Rattle.dkg_probe.specs.Wire.{tag_after}
use Rattle.dkg_core.specs.Live.{Event, Prepare, Propose, Verify, Subscribe, Retry, PeerReply}
use Rattle.dkg_core.specs.Desk.{block_spelled}
use Rattle.dkg_laws.proofs.Lives.{Life, plays}
use Rattle.dkg_laws.proofs.Worked.{Dir, life_of, configured, genesis, plain, block, info, keys, says, last_of}

-- THE APPLICATION, 8 blocks an epoch

abbrev pub member : Life Dir
member = life_of 8 0 (genesis ∷ [])

-- on a parent at height 2 a block without payload is proposed
pub proposes : last_of (plays member (Propose (plain 2 (1 ∷ []) ∷ []) ∷ [])) ≡ says (Proposed (Some (block_spelled (configured 8 0) (plain 3 (2 ∷ [])))) ∷ [])
unfolding validation round_of
proposes = refl

pub proposes_nothing : last_of (plays member (Propose [] ∷ [])) ≡ says (Proposed None ∷ [])
unfolding validation round_of
proposes_nothing = refl

-- a log at height 3 is misplaced
pub rejects : last_of (plays member (Verify (block 3 (2 ∷ []) (Some (payloads.DealerLog (record { dealer = 2; log = record { public = []; entries = [] }; mark = [] }))) ∷ []) ∷ []))
    ≡ says (Verdict Reject ∷ [])
unfolding validation round_of
rejects = refl

-- the final height, while the life follows
pub unresolved : last_of (plays (life_of 8 0 []) (Verify (plain 7 (6 ∷ []) ∷ []) ∷ [])) ≡ says (Answer 18446744073709551615 (Unavailable causes.Following) ∷ Verdict Unresolved ∷ [])
unfolding validation round_of
unresolved = refl

pub waits : last_of (plays member (Prepare (plain 6 (5 ∷ []) ∷ []) ∷ [])) ≡ says (Prepared Wait ∷ [])
unfolding validation round_of
waits = refl

-- THE PROBE: dealers 1 to 4

abbrev pub probing : (least : ℕ) → (floor : Option ℕ) → Life Dir
probing least floor = record (life_of 8 0 (genesis ∷ [])) {
  given = record (configured 8 0) {
    probed = record {
      snapshot = Some (record { epoch = least; participants = record { dealers = keys; players = keys; next_players = keys }; directory = record {}; floor = floor; genesis = info 0 });
      certifies = is_certified 0;
    };
  };
}

abbrev pub certified : (epoch view : ℕ) → Finalization
certified epoch view = record { epoch = epoch; view = view; parent_view = 0; payload = replicate 32 epoch; certificate = certificate_of 0 epoch view 0 (replicate 32 epoch) }

abbrev pub latest : (from epoch : ℕ) → Event Dir
latest from epoch = PeerReply from (5 ∷ finalization_spelling (certified epoch 0))

abbrev pub to_all_dealers : List Entry
to_all_dealers = Sent (Some 1) (4 ∷ []) ∷ Sent (Some 2) (4 ∷ []) ∷ Sent (Some 3) (4 ∷ []) ∷ Sent (Some 4) (4 ∷ []) ∷ []

abbrev pub after_opening : {A : Type 0} → List A → List A
after_opening [] = []
after_opening (a ∷ as') = as'

-- replies of epochs 1 and 2 select that of epoch 2; one below the least epoch is ignored, and a stranger's blocks it
pub selects : after_opening (plays (probing 1 None) (Subscribe ∷ latest 3 1 ∷ latest 1 0 ∷ latest 9 2 ∷ latest 2 2 ∷ []))
    ≡ says to_all_dealers ∷ says [] ∷ says [] ∷ says (Blocked 9 why.Member ∷ []) ∷ says (Sent None (0 ∷ 2 ∷ []) ∷ []) ∷ []
unfolding validation round_of tag_after groups groups_at many_at byte_at mark_of first_words schedule rounds compress hash_after digest_bytes sha256
selects = refl

-- a retry asks the dealers again, and the reply before it counts no more
pub retries : after_opening (plays (probing 1 None) (Subscribe ∷ latest 3 1 ∷ Retry ∷ latest 2 2 ∷ [])) ≡ says to_all_dealers ∷ says [] ∷ says to_all_dealers ∷ says [] ∷ []
unfolding validation round_of tag_after groups groups_at many_at byte_at mark_of first_words schedule rounds compress hash_after digest_bytes sha256
retries = refl

-- a floor of epoch 0 resolves with genesis
pub resolves : last_of (plays (probing 0 None) (Subscribe ∷ latest 3 0 ∷ latest 2 0 ∷ []))
    ≡ says (Artifact (payload_spelling unit_spelling (info_payload (info 0))) (finalization_spelling (certified 0 0)) ∷ [])
unfolding validation round_of tag_after groups groups_at many_at byte_at mark_of first_words schedule rounds compress hash_after digest_bytes sha256
resolves = refl
