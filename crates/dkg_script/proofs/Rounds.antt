-- The rounds of worked scripts, computed from the bytes of their blocks.
use Rattle.std.proofs.Common.{◌≡◌, ℕ, List, [], ◌∷◌, Some, None, refl, Ok, false}
use Rattle.dkg_ceremony.specs.declared.mode.Mode.TheVariants.{NonZeroCounter}
use Rattle.dkg_ceremony.specs.declared.mode.Reveal.TheVariants.{V1}
use Rattle.dkg_ceremony.specs.declared.output.Output.{Output}
use Rattle.dkg_ceremony.specs.declared.round.RoundParts.{RoundParts as Round}
use Rattle.dkg_ceremony.specs.AgreementTest.{agreed}
use Rattle.dkg_ceremony.specs.Acks.{ack_of, ack_content}
use Rattle.dkg_ceremony.specs.Dealings.{dealing_of}
use Rattle.dkg_ceremony.specs.Marks.{mark_of}
use Rattle.dkg_ceremony.specs.Modes.{mode_at}
use Rattle.dkg_ceremony.specs.Polynomials.{value_at}
use Rattle.dkg_ceremony.specs.Rounds.{round_of, round_bytes}
use Rattle.dkg_infos.specs.declared.outcome.EpochOutcome.TheVariants.{Success, Failure}
use Rattle.dkg_infos.specs.InfoCodes.{info_output_at, parts_at}
use Rattle.dkg_infos.specs.OutcomeCodes.{outcome_after}
use Rattle.dkg_types.specs.PayloadCodes.{payload_info_at, payload_after}
use Rattle.dkg_values.specs.Bytes.{byte_at}
use Rattle.dkg_values.specs.Codec.{many_at}
use Rattle.dkg_values.specs.Lists.{keys_at}
use Rattle.dkg_values.specs.Uint.{groups, groups_at}
use Rattle.sha2.specs.Sha256.{first_words, schedule, rounds, compress, hash_after, digest_bytes, sha256}
use Rattle.dkg_types.specs.MessageCodes.{message_after}
use Rattle.dkg_script.specs.Readings.{Info, Limits, info_in, dealing_in}
use Rattle.dkg_script.proofs.Worked.{payload, dealt, dealt_again, ack_of_dealt, ack_of_again, ack_of_next}

abbrev pub keys : List ℕ
keys = 1 ∷ 2 ∷ 3 ∷ 4 ∷ []

abbrev pub held : Output
held = record {
  summary = 0 ∷ 0 ∷ 0 ∷ 0 ∷ 0 ∷ 0 ∷ 0 ∷ 0 ∷ [];
  sharing = record { mode = NonZeroCounter; total = 4; poly = 5 ∷ 1 ∷ 2 ∷ [] };
  dealers = keys;
  players = keys;
  revealed = [];
  agree = agreed 4 (5 ∷ 1 ∷ 2 ∷ []) keys [] refl;
}

abbrev pub limits : Limits
limits = record { limit = 4; version = 0; addressed = false }

-- the infos of epoch 0, and of later epochs that carry its output on
abbrev pub first_info : Info
first_info = record { outcome = Success; epoch = 0; output = held; players = keys; next_players = keys; directory = [] }

abbrev pub carried : ℕ → Info
carried epoch = record { outcome = Failure; epoch = epoch; output = held; players = keys; next_players = keys; directory = [] }

pub first_is_read : info_in limits (payload 0 0) ≡ Some first_info
unfolding info_in payload_after payload_info_at parts_at info_output_at outcome_after mode_at byte_at many_at keys_at groups_at
first_is_read = refl

-- the rounds of these epochs
abbrev pub round : ℕ → Round
round epoch = record { namespace = []; number = epoch; previous = Some held; mode = NonZeroCounter; reveal = V1; dealers = keys; players = keys }

pub draws : round_of [] 0 (Some held) NonZeroCounter V1 keys keys ≡ Ok (round 0)
unfolding round_of
draws = refl

pub accepts : dealing_of (round 0) 1 2 (15 ∷ 7 ∷ 1 ∷ []) 23 ≡ Ok tt
unfolding dealing_of value_at
accepts = refl

pub acknowledges : ack_of 1 (round 0) 2 (15 ∷ 7 ∷ 1 ∷ []) ≡ ack_of_dealt
unfolding ack_content mark_of round_bytes groups first_words schedule rounds compress hash_after digest_bytes sha256
acknowledges = refl

pub accepts_again : dealing_of (round 0) 1 2 (15 ∷ 9 ∷ 1 ∷ []) 25 ≡ Ok tt
unfolding dealing_of value_at
accepts_again = refl

pub acknowledges_again : ack_of 1 (round 0) 2 (15 ∷ 9 ∷ 1 ∷ []) ≡ ack_of_again
unfolding ack_content mark_of round_bytes groups first_words schedule rounds compress hash_after digest_bytes sha256
acknowledges_again = refl

pub accepts_next : dealing_of (round 1) 1 2 (15 ∷ 7 ∷ 1 ∷ []) 23 ≡ Ok tt
unfolding dealing_of value_at
accepts_next = refl

pub acknowledges_next : ack_of 1 (round 1) 2 (15 ∷ 7 ∷ 1 ∷ []) ≡ ack_of_next
unfolding ack_content mark_of round_bytes groups first_words schedule rounds compress hash_after digest_bytes sha256
acknowledges_next = refl

-- what messages bring
pub brings_seven : dealing_in limits dealt ≡ Some (record { public = 15 ∷ 7 ∷ 1 ∷ []; private = 23 })
unfolding dealing_in message_after byte_at many_at groups_at
brings_seven = refl

pub brings_nine : dealing_in limits dealt_again ≡ Some (record { public = 15 ∷ 9 ∷ 1 ∷ []; private = 25 })
unfolding dealing_in message_after byte_at many_at groups_at
brings_nine = refl

-- .. another player's value, and no dealing
pub brings_another's : dealing_in limits (0 ∷ 3 ∷ 0 ∷ 15 ∷ 0 ∷ 7 ∷ 0 ∷ 1 ∷ 0 ∷ 45 ∷ []) ≡ Some (record { public = 15 ∷ 7 ∷ 1 ∷ []; private = 45 })
unfolding dealing_in message_after byte_at many_at groups_at
brings_another's = refl

pub brings_none : dealing_in limits (255 ∷ []) ≡ None
unfolding dealing_in message_after byte_at many_at groups_at
brings_none = refl
