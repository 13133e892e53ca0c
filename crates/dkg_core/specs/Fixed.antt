-- What a step is given: the configuration, what the ceremony's calls mean, what the provider says, what the life was given (none of which changes
-- in a life), and the source that the step is lent.
use Rattle.std.specs.Prelude.{ℕ, Bool, List, Option, Result, is_some}
use Rattle.dkg_values.specs.Codec.{Reading}
use Rattle.dkg_values.specs.Rising.{index_of}
use Rattle.dkg_ceremony.specs.declared.mode.Mode.{Mode}
use Rattle.dkg_ceremony.specs.declared.mode.Reveal.{Reveal}
use Rattle.dkg_ceremony.specs.declared.round.RoundParts.{RoundParts as Round}
use Rattle.dkg_ceremony.specs.declared.round.RoundError.{RoundError}
use Rattle.dkg_ceremony.specs.declared.output.Output.{Output}
use Rattle.dkg_ceremony.specs.declared.ceremony.DealingError.{DealingError}
use Rattle.dkg_ceremony.specs.declared.ceremony.AckError.{AckError}
use Rattle.dkg_ceremony.specs.declared.deal.DealError.{DealError}
use Rattle.dkg_ceremony.specs.declared.finish.FinishError.{FinishError}
use Rattle.dkg_ceremony.specs.declared.dealer_log.DealerLog.{DealerLog}
use Rattle.dkg_ceremony.specs.declared.signed_log.SignedDealerLog.{SignedDealerLog}
use Rattle.dkg_ceremony.specs.Outcomes as outcomes
use Rattle.dkg_ceremony.specs.Outcomes.{LogMap}
use Rattle.dkg_ceremony.specs.Finishes as finishes
use Rattle.dkg_ceremony.specs.Finishes.{DealingMap}
use Rattle.dkg_ceremony.specs.Rounds as rounds
use Rattle.dkg_ceremony.specs.Deals as deals
use Rattle.dkg_ceremony.specs.Dealings as dealings
use Rattle.dkg_ceremony.specs.Acks as acks
use Rattle.dkg_ceremony.specs.ValidLogs as logs
use Rattle.dkg_ceremony.specs.PartialPublics as publics
use Rattle.dkg_types.specs.Blocks.{Block}
use Rattle.dkg_types.specs.declared.finalization.Finalization.{Finalization}
use Rattle.dkg_infos.specs.declared.info.EpochInfo.{EpochInfo}
use Rattle.dkg_infos.specs.declared.participants.Participants.{Participants}
use Rattle.dkg_types.specs.declared.payload.Payload.{Payload}
use Rattle.dkg_infos.specs.declared.participants.TrackedPeers.{TrackedPeers}
use Rattle.dkg_infos.specs.NextInfos.{Provided}
use Rattle.dkg_store.specs.Acts.{Held}
use Rattle.dkg_core.specs.Seen.{Seen}
use Rattle.dkg_core.specs.Sources.{SourceAnswers, Tip, position}

-- What the calls of a ceremony answer: its ghost members, as plain functions.
pub record Rules : Type 0 where
  pub round_of : List ℕ → ℕ → Option Output → Mode → Reveal → List ℕ → List ℕ → Result Round RoundError
  pub deal_of : Round → (signer : ℕ) → Option ℕ → List ℕ → Result (List ℕ × List (ℕ × ℕ)) DealError
  pub dealing_of : Round → (me dealer : ℕ) → List ℕ → ℕ → Result (Unit {0}) DealingError
  pub ack_of : (me : ℕ) → Round → (dealer : ℕ) → List ℕ → List ℕ
  pub check_ack_of : Round → (dealer : ℕ) → List ℕ → (player : ℕ) → List ℕ → Result (Unit {0}) AckError
  pub sign_log_of : (signer : ℕ) → Round → List ℕ → List (ℕ × ℕ) → List (ℕ × List ℕ) → SignedDealerLog
  pub check_log_of : Round → SignedDealerLog → Bool
  pub bears_ack_of : Round → (dealer : ℕ) → DealerLog → (player : ℕ) → Bool
  pub outcome_of : Round → LogMap → Option Output
  pub finish_of : Round → (me : ℕ) → DealingMap → LogMap → Result (Option (Output × ℕ)) FinishError
  pub share_public_of : ℕ → ℕ
  pub partial_public_of : Output → (player : ℕ) → Option ℕ

-- The stand-in's.
abbrev pub stand_in : Rules
stand_in = record {
  round_of = rounds.round_of;
  deal_of = deals.deal_of;
  dealing_of = dealings.dealing_of;
  ack_of = acks.ack_of;
  check_ack_of = acks.check_ack_of;
  sign_log_of = logs.sign_log_of;
  check_log_of = logs.check_log_of;
  bears_ack_of = logs.bears_ack_of;
  outcome_of = outcomes.outcome_of;
  finish_of = finishes.finish_of;
  share_public_of = publics.share_public_of;
  partial_public_of = publics.partial_public_of;
}

-- How a type of directories is spelled, read and judged, and which of some peers a directory lacks first.
pub record Directories (Dir : Type 0) : Type 0 where
  pub spelling : Dir → List ℕ
  pub read : (peers : List ℕ) → List ℕ → Reading Dir
  pub matches : Dir → (peers : List ℕ) → Bool
  pub lacking : Dir → TrackedPeers → Option ℕ

-- what a state sync starts from: an epoch's info, and the finalization of a block of that epoch
pub record Material (Dir : Type 0) : Type 0 where
  pub info : EpochInfo Dir
  pub floor : Finalization

-- the participants of a ceremony that is held once
pub record OneShot (Dir : Type 0) : Type 0 where
  pub participants : List ℕ
  pub directory : Dir

-- the inner application: the block that it builds on a parent with a payload, and whether it accepts an ancestry
pub record Inner (Dir : Type 0) : Type 0 where
  pub prepared : Block Dir → Option (Payload Dir) → Option (Block Dir)
  pub proposed : Block Dir → Option (Payload Dir) → Option (Block Dir)
  pub accepts : List (Block Dir) → Bool

-- where the probe begins: a checkpoint's epoch, its participants and their directory, the epoch of a configured floor, and genesis
pub record Snapshot (Dir : Type 0) : Type 0 where
  pub epoch : ℕ
  pub participants : Participants
  pub directory : Dir
  pub floor : Option ℕ
  pub genesis : EpochInfo Dir

-- the probe's own: its snapshot, where there is a probe, and whether a finalization is certified
pub record Probed (Dir : Type 0) : Type 0 where
  pub snapshot : Option (Snapshot Dir)
  pub certifies : Finalization → Bool

pub record Fixed (Dir : Type 0) : Type 0 where
  -- the configuration: the limit is that of participants, and the version that of sharing modes
  pub me : ℕ
  pub blocks_per_epoch : ℕ
  pub limit : ℕ
  pub version : ℕ
  pub mode : Mode
  pub reveal : Reveal
  pub namespace : List ℕ
  pub oneshot : Option (OneShot Dir)
  -- what its parts mean
  pub rules : Rules
  pub directories : Directories Dir
  pub provided : Provided Dir
  pub seen : Held → Seen
  pub inner : Inner Dir
  pub probed : Probed Dir
  -- the life: its number, its random word, provided material, and the changing calls of its journal's opening
  pub life : ℕ
  pub word : ℕ
  pub material : Option (Material Dir)
  pub opening_calls : ℕ
  -- lent anew to each step; a block that is delivered is in it by then
  pub source : SourceAnswers Dir

-- the same life's next step, with the source that it is lent
abbrev pub lending : {Dir : Type 0} → SourceAnswers Dir → Fixed Dir → Fixed Dir
lending source c = record c { source = source }

-- the position that the source tells
abbrev pub start : {Dir : Type 0} → Fixed Dir → Option Tip
start c = position c.source.anchor

-- whether a key is in a set
abbrev pub has : List ℕ → ℕ → Bool
has set key = is_some (index_of key set)
