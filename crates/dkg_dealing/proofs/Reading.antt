-- A peer's message that is read.
use Rattle.std.proofs.Common.{◌≡◌, ℕ, List, Option, Some, None, Result, Ok, Err, refl, ap}
use Rattle.std.specs.Prelude.{option_map, if◌then◌else◌}
use Rattle.std.specs.Option.{option_map_or}
use Rattle.std.specs.Result.{result_ok}
use Rattle.dkg_values.specs.Codec.{whole}
use Rattle.dkg_values.specs.declared.codec.CodecError.{CodecError}
use Rattle.dkg_ceremony.specs.declared.round.RoundParts.{RoundParts as Round}
use Rattle.dkg_fence.specs.Readiness.{Readiness}
use Rattle.dkg_types.specs.MessageCodes.{message_at}
use Rattle.dkg_infos.specs.declared.fault.Fault.{Fault}
use Rattle.dkg_types.specs.declared.message.Message.{Message as Channel}
use Rattle.dkg_core.specs.Courses.{Course, Goes}
use Rattle.dkg_core.specs.Dealing as dealing
use Rattle.dkg_core.specs.Fixed.{Fixed}
use Rattle.dkg_core.specs.Live.{Live}
use Rattle.dkg_life.specs.declared.life.Life.{Life}
use Rattle.dkg_life.specs.declared.life.Stage.{Stage}
use Rattle.dkg_life.specs.declared.life.Stage.TheVariants.{Dealing, Including, Following}
use Rattle.dkg_life.specs.Heard.{round_dealt}
use Rattle.dkg_life.specs.LiveOf.{Beside, live_of, stage_of}
use Rattle.dkg_life.specs.Steps.{is_dealing}
use Rattle.dkg_life.proofs.Seated.{same_some}

module _ {Dir : Type 0} (c : Fixed Dir) (from : ℕ) (bytes : List ℕ) (beside : Beside Dir) (fence : Readiness) (life : Life Dir) where
  abbrev st : Live Dir
  st = live_of beside fence life

  -- the round in which it is read
  pub record Reads (course : Course Dir Fault (Live Dir)) : Type 0 where
    pub round : Round
    pub has : life.round ≡ Some round
    pub is : course ≡ dealing.reads c round from st (whole (message_at c.limit bytes))

  reads_in : (s : Stage) (o : Option Round) (epoch : ℕ) → (if is_dealing s then option_map (λ r. r.number) o else None) ≡ Some epoch → life.round ≡ o
      → Reads (dealing.hears_peer_in c from bytes st (stage_of s))
  reads_in Dealing None epoch dealt has = absurd cc
  reads_in Dealing (Some round) epoch dealt has = record {
    round = round;
    has = has;
    is = ap (λ (o : Option Round). option_map_or (λ r. dealing.reads c r from st (whole (message_at c.limit bytes))) o (Goes st)) has;
  }
  reads_in Including o epoch dealt has = absurd cc
  reads_in Following o epoch dealt has = absurd cc

  pub reads_it : (epoch : ℕ) → round_dealt life ≡ Some epoch → Reads (dealing.hears_peer c from bytes st)
  reads_it epoch dealt = reads_in life.stage life.round epoch dealt refl

  pub reads_message : (round : Round) (r : Result Channel CodecError) (message : Channel) → result_ok r ≡ Some message → dealing.reads c round from st r ≡ dealing.reads c round from st (Ok message)
  reads_message round (Ok read) message is = ap (λ (m : Channel). dealing.reads c round from st (Ok m)) (same_some read message is)
  reads_message round (Err e) message is = absurd cc
