-- Steps that the relation refuses.
use Rattle.std.proofs.Common.{◌≡◌, ℕ, List, [], ◌∷◌, Option, Some, None, refl, sym, ap, ◌∙◌}
use Rattle.sha2.specs.Sha256.{first_words, schedule, rounds, compress, hash_after, digest_bytes, sha256}
use Rattle.dkg_values.specs.Bytes.{byte_at}
use Rattle.dkg_values.specs.Codec.{many_at}
use Rattle.dkg_values.specs.Uint.{groups, groups_at}
use Rattle.dkg_ceremony.specs.Acks.{ack_content}
use Rattle.dkg_ceremony.specs.Dealings.{dealing_of}
use Rattle.dkg_ceremony.specs.Marks.{mark_of}
use Rattle.dkg_ceremony.specs.Polynomials.{value_at}
use Rattle.dkg_ceremony.specs.Rounds.{round_of, round_bytes}
use Rattle.dkg_types.specs.MessageCodes.{message_after}
use Rattle.dkg_infos.specs.Validation.{validation}
use Rattle.dkg_infos.specs.declared.entry.Entry.TheVariants.{Recorded, Ack, Offer}
use Rattle.dkg_store.specs.Acts.{Held, OnDisk, Changes}
use Rattle.dkg_core.specs.Courses.{Deed, SaidEntry, DidOperation, deeds_of}
use Rattle.dkg_journal.specs.Operations.{Appends}
use Rattle.dkg_secrets.specs.declared.secrets.SecretOp.TheVariants.{PutDealing, Prune}
use Rattle.dkg_core.specs.Fixed.{Fixed}
use Rattle.dkg_core.specs.Live.{Live, Mailed, Peer, Finalized}
use Rattle.dkg_core.specs.Core.{opening, step, Core, StepReply, State, IsReplyOf}
use Rattle.dkg_laws.proofs.Mirror.{played, nothing}
use Rattle.dkg_laws.proofs.Lives.{at_step}
use Rattle.dkg_laws.proofs.Worked.{Dir, life_of, above, genesis, carrying, dealt, ack_of_dealt, body}

-- row 1's node as it opened
abbrev pub member : Fixed Dir
member = at_step (life_of 8 0 (genesis ∷ [])) []

abbrev pub OfState : Option (Live Dir × Held) → (State (Live Dir) → Type 0) → Type 0
OfState None P = ⊥
OfState (Some p) P = P (record { live = p.0; held = p.1 })

abbrev pub AsItOpened : (State (Live Dir) → Type 0) → Type 0
AsItOpened P = OfState (played (opening member) nothing).end P

-- what it does with dealer 2's dealing
pub right : AsItOpened (λ old. deeds_of (step member (Mailed (Peer 2 dealt)) old.live) old.held
    ≡ DidOperation (Changes (PutDealing 0 2 23)) ∷ DidOperation (OnDisk (Appends (0, body))) ∷ SaidEntry (Recorded 0 2 (15 ∷ 7 ∷ 1 ∷ []) 23) ∷ SaidEntry (Ack 0 2 ack_of_dealt) ∷ [])
unfolding validation round_of dealing_of value_at message_after byte_at many_at groups_at groups ack_content mark_of round_bytes first_words schedule rounds compress hash_after digest_bytes sha256
right = refl

-- An acknowledgement before its record is refused,
pub no_early_ack : AsItOpened (λ old. (new : State (Live Dir))
    → Core member old (Mailed (Peer 2 dealt)) (DidOperation (Changes (PutDealing 0 2 23)) ∷ SaidEntry (Ack 0 2 ack_of_dealt) ∷ DidOperation (OnDisk (Appends (0, body))) ∷ SaidEntry (Recorded 0 2 (15 ∷ 7 ∷ 1 ∷ []) 23) ∷ []) new → ⊥)
unfolding validation round_of dealing_of value_at message_after byte_at many_at groups_at groups ack_content mark_of round_bytes first_words schedule rounds compress hash_after digest_bytes sha256
no_early_ack = λ new core. differs core.deeds
  where
    differs : ◌≡◌ {A = List (Deed Dir)} (DidOperation (Changes (PutDealing 0 2 23)) ∷ SaidEntry (Ack 0 2 ack_of_dealt) ∷ DidOperation (OnDisk (Appends (0, body))) ∷ SaidEntry (Recorded 0 2 (15 ∷ 7 ∷ 1 ∷ []) 23) ∷ [])
        (DidOperation (Changes (PutDealing 0 2 23)) ∷ DidOperation (OnDisk (Appends (0, body))) ∷ SaidEntry (Recorded 0 2 (15 ∷ 7 ∷ 1 ∷ []) 23) ∷ SaidEntry (Ack 0 2 ack_of_dealt) ∷ []) → ⊥
    differs e = cc

-- .. and so is one without a record,
pub no_bare_ack : AsItOpened (λ old. (new : State (Live Dir)) → Core member old (Mailed (Peer 2 dealt)) (SaidEntry (Ack 0 2 ack_of_dealt) ∷ []) new → ⊥)
unfolding validation round_of dealing_of value_at message_after byte_at many_at groups_at groups ack_content mark_of round_bytes first_words schedule rounds compress hash_after digest_bytes sha256
no_bare_ack = λ new core. differs core.deeds
  where
    differs : ◌≡◌ {A = List (Deed Dir)} (SaidEntry (Ack 0 2 ack_of_dealt) ∷ [])
        (DidOperation (Changes (PutDealing 0 2 23)) ∷ DidOperation (OnDisk (Appends (0, body))) ∷ SaidEntry (Recorded 0 2 (15 ∷ 7 ∷ 1 ∷ []) 23) ∷ SaidEntry (Ack 0 2 ack_of_dealt) ∷ []) → ⊥
    differs e = cc

-- .. and the record before the private half.
pub no_early_record : AsItOpened (λ old. (new : State (Live Dir))
    → Core member old (Mailed (Peer 2 dealt)) (DidOperation (OnDisk (Appends (0, body))) ∷ DidOperation (Changes (PutDealing 0 2 23)) ∷ SaidEntry (Recorded 0 2 (15 ∷ 7 ∷ 1 ∷ []) 23) ∷ SaidEntry (Ack 0 2 ack_of_dealt) ∷ []) new → ⊥)
unfolding validation round_of dealing_of value_at message_after byte_at many_at groups_at groups ack_content mark_of round_bytes first_words schedule rounds compress hash_after digest_bytes sha256
no_early_record = λ new core. differs core.deeds
  where
    differs : ◌≡◌ {A = List (Deed Dir)} (DidOperation (OnDisk (Appends (0, body))) ∷ DidOperation (Changes (PutDealing 0 2 23)) ∷ SaidEntry (Recorded 0 2 (15 ∷ 7 ∷ 1 ∷ []) 23) ∷ SaidEntry (Ack 0 2 ack_of_dealt) ∷ [])
        (DidOperation (Changes (PutDealing 0 2 23)) ∷ DidOperation (OnDisk (Appends (0, body))) ∷ SaidEntry (Recorded 0 2 (15 ∷ 7 ∷ 1 ∷ []) 23) ∷ SaidEntry (Ack 0 2 ack_of_dealt) ∷ []) → ⊥
    differs e = cc

-- A node without a share offers nothing.
pub no_offer : AsItOpened (λ old. (new : State (Live Dir)) (player : ℕ) (public : List ℕ) (private : ℕ) (more : StepReply Dir)
    → Core member old (Finalized genesis) (SaidEntry (Offer 0 player public private) ∷ more) new → ⊥)
unfolding validation round_of
no_offer = λ new player public private more core. differs player public private more core.deeds
  where
    differs : (player : ℕ) (public : List ℕ) (private : ℕ) (more : StepReply Dir) → ◌≡◌ {A = List (Deed Dir)} (SaidEntry (Offer 0 player public private) ∷ more) [] → ⊥
    differs player public private more e = cc

-- An opening in epoch 1 that prunes below 1 is refused.
abbrev pub later : Fixed Dir
later = at_step (above 1 (1 ∷ []) (life_of 2 1 (carrying 1 1 (0 ∷ []) ∷ []))) []

-- the minimum of the first prune of secrets
abbrev pub minimum_in : List (Deed Dir) → Option ℕ
minimum_in [] = None
minimum_in (DidOperation (Changes (Prune min)) ∷ deeds) = Some min
minimum_in (deed ∷ deeds) = minimum_in deeds

pub minimum_is : minimum_in (deeds_of (opening later) nothing) ≡ Some 0
unfolding validation round_of
minimum_is = refl

pub no_prune_below_it : (reply : StepReply Dir) (new : State (Live Dir)) → minimum_in reply ≡ Some 1 → IsReplyOf (opening later) nothing reply new → ⊥
no_prune_below_it reply new prunes is = differs (sym prunes ∙ ap minimum_in is.deeds ∙ minimum_is)
  where
    differs : ◌≡◌ {A = Option ℕ} (Some 1) (Some 0) → ⊥
    differs e = cc
