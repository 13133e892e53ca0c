-- Worked rows of one epoch: a dealing, the same again, others, messages that are refused, and a node without its boundary block.
use Rattle.std.proofs.Common.{◌≡◌, ℕ, List, [], ◌∷◌, None, refl}
use Rattle.sha2.specs.Sha256.{first_words, schedule, rounds, compress, hash_after, digest_bytes, sha256}
use Rattle.dkg_values.specs.Bytes.{byte_at}
use Rattle.dkg_values.specs.Codec.{many_at}
use Rattle.dkg_values.specs.Uint.{groups, groups_at}
use Rattle.dkg_ceremony.specs.Acks.{ack_content}
use Rattle.dkg_ceremony.specs.Dealings.{dealing_of}
use Rattle.dkg_ceremony.specs.Marks.{mark_of}
use Rattle.dkg_ceremony.specs.Polynomials.{value_at}
use Rattle.dkg_ceremony.specs.Rounds.{round_of, round_bytes}
use Rattle.dkg_types.specs.MessageCodes.{message_after}
use Rattle.dkg_infos.specs.Validation.{validation}
use Rattle.dkg_ceremony.specs.declared.phase.Phase.TheVariants.{Early}
use Rattle.dkg_infos.specs.declared.entry.BlockedWhy.TheVariants as why
use Rattle.dkg_infos.specs.declared.entry.Entry.TheVariants.{Opened, Setup, Ack, Blocked, Halted, Hint, Acked, Log, Answer}
use Rattle.dkg_infos.specs.declared.entry.AnswerLine.TheVariants.{Unavailable}
use Rattle.dkg_infos.specs.declared.entry.Why.TheVariants.{Following}
use Rattle.dkg_infos.specs.declared.entry.Part.TheVariants.{Follow}
use Rattle.dkg_infos.specs.declared.fault.Fault.TheVariants.{OutOfWindow}
use Rattle.dkg_store.specs.Acts.{OnDisk}
use Rattle.dkg_journal.specs.Operations.{Bars, Opens}
use Rattle.dkg_core.specs.Live.{Peer, Event, Reshare, Later, Delivers, NextLog, EpochInfoOf}
use Rattle.dkg_laws.proofs.Lives.{plays}
use Rattle.dkg_laws.proofs.Worked.{Dir, life_of, genesis, plain, opens, records, says, stops, dealt, dealt_again, ack_of_dealt}

abbrev pub after_opening : {A : Type 0} → List A → List A
after_opening [] = []
after_opening (a ∷ as') = as'

abbrev pub from : ℕ → List ℕ → Event Dir
from peer bytes = Reshare (Peer peer bytes)

pub one : plays (life_of 8 0 (genesis ∷ [])) (from 2 dealt ∷ []) ≡ opens ∷ records 0 6 ack_of_dealt ∷ []
unfolding validation round_of dealing_of value_at message_after byte_at many_at groups_at groups ack_content mark_of round_bytes first_words schedule rounds compress hash_after digest_bytes sha256
one = refl

-- the same again, and another dealing: the recorded one's acknowledgement
pub three : plays (life_of 8 0 (genesis ∷ [])) (from 2 dealt ∷ from 2 dealt ∷ from 2 dealt_again ∷ [])
    ≡ opens ∷ records 0 6 ack_of_dealt ∷ says (Ack 0 2 ack_of_dealt ∷ []) ∷ says (Ack 0 2 ack_of_dealt ∷ []) ∷ []
unfolding validation round_of dealing_of value_at message_after byte_at many_at groups_at groups ack_content mark_of round_bytes first_words schedule rounds compress hash_after digest_bytes sha256
three = refl

-- another player's value, strangers, and shapes that are refused
pub five : plays (life_of 8 0 (genesis ∷ []))
    (from 2 (0 ∷ 3 ∷ 0 ∷ 15 ∷ 0 ∷ 7 ∷ 0 ∷ 1 ∷ 0 ∷ 45 ∷ []) ∷ from 9 dealt ∷ from 2 (0 ∷ 2 ∷ 0 ∷ 15 ∷ 0 ∷ 7 ∷ 0 ∷ 22 ∷ [])
    ∷ from 2 (0 ∷ 3 ∷ 0 ∷ 16 ∷ 0 ∷ 7 ∷ 0 ∷ 1 ∷ 0 ∷ 24 ∷ []) ∷ from 2 (1 ∷ ack_of_dealt) ∷ from 2 (255 ∷ []) ∷ [])
    ≡ opens ∷ says (Blocked 2 why.Share ∷ []) ∷ says (Blocked 9 why.Dealer ∷ []) ∷ says (Blocked 2 why.Degree ∷ [])
    ∷ says (Blocked 2 why.Commitment ∷ []) ∷ says (Blocked 2 why.Nondealer ∷ []) ∷ says (Blocked 2 why.Decode ∷ []) ∷ []
unfolding validation round_of dealing_of value_at message_after byte_at many_at groups_at groups ack_content mark_of round_bytes first_words schedule rounds compress hash_after digest_bytes sha256
five = refl

-- without its boundary block the node follows and hears nothing
pub twenty_two : plays (life_of 8 0 []) (from 2 dealt ∷ [])
    ≡ record { lines = Opened 0 [] ∷ Setup 0 Early Follow ∷ Halted ∷ []; operations = OnDisk Bars ∷ OnDisk (Opens 0) ∷ []; calls = 1; fault = None } ∷ says [] ∷ []
unfolding validation round_of
twenty_two = refl

-- traffic of a later epoch, and of the entered one
pub twenty_three : plays (life_of 8 0 (genesis ∷ [])) (Later 3 1 ∷ Later 3 0 ∷ []) ≡ opens ∷ says (Hint 7 3 ∷ []) ∷ says [] ∷ []
unfolding validation round_of
twenty_three = refl

-- a life without a position takes any block of the awaited window first
pub thirteen : plays (life_of 8 0 (genesis ∷ [])) (Delivers (plain 3 (2 ∷ [])) ∷ []) ≡ opens ∷ says (Acked 3 ∷ []) ∷ []
unfolding validation round_of
thirteen = refl

pub thirteen_later : plays (life_of 8 0 (genesis ∷ [])) (Delivers (plain 4 (3 ∷ [])) ∷ []) ≡ opens ∷ stops (OutOfWindow 4) ∷ []
unfolding validation round_of
thirteen_later = refl

-- after the block before the midpoint no message is read
pub ten : plays (life_of 2 0 (genesis ∷ [])) (Delivers genesis ∷ from 2 dealt ∷ []) ≡ opens ∷ says (Acked 0 ∷ []) ∷ says [] ∷ []
unfolding validation round_of
ten = refl

-- a node that follows serves no log and no info, and one that halted acknowledges no block
pub follows : after_opening (plays (life_of 8 0 []) (Reshare (NextLog 7 4) ∷ Reshare (EpochInfoOf 1) ∷ Delivers genesis ∷ []))
    ≡ says (Log 7 None ∷ []) ∷ says (Answer 1 (Unavailable Following) ∷ []) ∷ says [] ∷ []
unfolding validation round_of
follows = refl
