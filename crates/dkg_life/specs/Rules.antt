-- A ceremony's calls as the relation's rules, and the part of them that a function uses.
use Rattle.std.specs.Prelude.{◌≡◌, ℕ, Bool, List, Option, Result}
use Rattle.dkg_ceremony.specs.declared.ceremony.AckError.{AckError}
use Rattle.dkg_ceremony.specs.declared.ceremony.DealingError.{DealingError}
use Rattle.dkg_ceremony.specs.declared.deal.DealError.{DealError}
use Rattle.dkg_ceremony.specs.declared.dealer_log.DealerLog.{DealerLog}
use Rattle.dkg_ceremony.specs.declared.mode.Mode.{Mode}
use Rattle.dkg_ceremony.specs.declared.mode.Reveal.{Reveal}
use Rattle.dkg_ceremony.specs.declared.output.Output.{Output}
use Rattle.dkg_ceremony.specs.declared.round.RoundParts.{RoundParts as Round}
use Rattle.dkg_ceremony.specs.declared.round.RoundError.{RoundError}
use Rattle.dkg_ceremony.specs.declared.signed_log.SignedDealerLog.{SignedDealerLog}
use Rattle.dkg_ceremony.specs.declared.finish.FinishError.{FinishError}
use Rattle.dkg_ceremony.specs.Finishes.{DealingMap}
use Rattle.dkg_ceremony.specs.Outcomes.{LogMap}
use Rattle.dkg_core.specs.Fixed.{Fixed, Rules}

abbrev pub RoundOf : Type 0
RoundOf = List ℕ → ℕ → Option Output → Mode → Reveal → List ℕ → List ℕ → Result Round RoundError

abbrev pub DealingOf : Type 0
DealingOf = Round → (me dealer : ℕ) → List ℕ → ℕ → Result (Unit {0}) DealingError

abbrev pub AckOf : Type 0
AckOf = (me : ℕ) → Round → (dealer : ℕ) → List ℕ → List ℕ

abbrev pub BearsAckOf : Type 0
BearsAckOf = Round → (dealer : ℕ) → DealerLog → (player : ℕ) → Bool

abbrev pub SharePublicOf : Type 0
SharePublicOf = ℕ → ℕ

abbrev pub PartialPublicOf : Type 0
PartialPublicOf = Output → (player : ℕ) → Option ℕ

abbrev pub DealOf : Type 0
DealOf = Round → (signer : ℕ) → Option ℕ → List ℕ → Result (List ℕ × List (ℕ × ℕ)) DealError

abbrev pub CheckAckOf : Type 0
CheckAckOf = Round → (dealer : ℕ) → List ℕ → (player : ℕ) → List ℕ → Result (Unit {0}) AckError

abbrev pub SignLogOf : Type 0
SignLogOf = (signer : ℕ) → Round → List ℕ → List (ℕ × ℕ) → List (ℕ × List ℕ) → SignedDealerLog

-- A dealing is checked and acknowledged, and an acknowledgement checked, by these.
pub record AnswersBy (dealing_of : DealingOf) (ack_of : AckOf) (check_ack_of : CheckAckOf) (rules : Rules) : Type 0 where
  pub dealing : rules.dealing_of ≡ dealing_of
  pub ack : rules.ack_of ≡ ack_of
  pub check_ack : rules.check_ack_of ≡ check_ack_of

-- A round is drawn up, and a player made, by these.
pub record SeatsBy (round_of : RoundOf) (dealing_of : DealingOf) (bears_ack_of : BearsAckOf) (rules : Rules) : Type 0 where
  pub round : rules.round_of ≡ round_of
  pub dealing : rules.dealing_of ≡ dealing_of
  pub bears : rules.bears_ack_of ≡ bears_ack_of

-- A dealer is made, and its log signed, by these.
pub record DealsBy (deal_of : DealOf) (check_ack_of : CheckAckOf) (sign_log_of : SignLogOf) (rules : Rules) : Type 0 where
  pub deal : rules.deal_of ≡ deal_of
  pub check_ack : rules.check_ack_of ≡ check_ack_of
  pub sign_log : rules.sign_log_of ≡ sign_log_of

-- A share is known by these.
pub record SharesBy (share_public_of : SharePublicOf) (partial_public_of : PartialPublicOf) (rules : Rules) : Type 0 where
  pub share_public : rules.share_public_of ≡ share_public_of
  pub partial_public : rules.partial_public_of ≡ partial_public_of

-- What the actor uses of a ceremony.
pub record IsRuledBy (round_of : RoundOf) (deal_of : DealOf) (dealing_of : DealingOf) (ack_of : AckOf) (check_ack_of : CheckAckOf) (sign_log_of : SignLogOf)
    (bears_ack_of : BearsAckOf) (share_public_of : SharePublicOf) (partial_public_of : PartialPublicOf) (rules : Rules) : Type 0 where
  pub answers : AnswersBy dealing_of ack_of check_ack_of rules
  pub seats : SeatsBy round_of dealing_of bears_ack_of rules
  pub deals : DealsBy deal_of check_ack_of sign_log_of rules
  pub shares : SharesBy share_public_of partial_public_of rules

abbrev pub CheckLogOf : Type 0
CheckLogOf = Round → SignedDealerLog → Bool

abbrev pub OutcomeOf : Type 0
OutcomeOf = Round → LogMap → Option Output

abbrev pub FinishOf : Type 0
FinishOf = Round → (me : ℕ) → DealingMap → LogMap → Result (Option (Output × ℕ)) FinishError

-- Logs are checked, and their outcome found, by these; and the provider and its directories are these.
pub record IncludesBy {Dir : Type 0} (check_log_of : CheckLogOf) (outcome_of : OutcomeOf) (finish_of : FinishOf) (participants : ℕ → List ℕ) (directory : ℕ → List ℕ → Dir)
    (spelling : Dir → List ℕ) (matches : Dir → List ℕ → Bool) (c : Fixed Dir) : Type 0 where
  pub check_log : c.rules.check_log_of ≡ check_log_of
  pub outcome : c.rules.outcome_of ≡ outcome_of
  pub finish : c.rules.finish_of ≡ finish_of
  pub participants_are : (epoch : ℕ) → c.provided.participants epoch ≡ participants epoch
  pub directory_is : (epoch : ℕ) (peers : List ℕ) → c.provided.directory epoch peers ≡ directory epoch peers
  pub spelling_is : c.directories.spelling ≡ spelling
  pub matches_are : c.directories.matches ≡ matches

-- A provider says still what it said.
abbrev pub SameProvided : {Dir : Type 0} → (old new : ℕ → List ℕ) → (before now : ℕ → List ℕ → Dir) → Type 0
SameProvided old new before now = ((epoch : ℕ) → new epoch ≡ old epoch) × ((epoch : ℕ) (peers : List ℕ) → now epoch peers ≡ before epoch peers)
