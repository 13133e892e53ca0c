-- An actor's state behind a call.
use Rattle.std.proofs.Common.{◌≡◌, Bool, Result, Ok, Err, refl}
use Rattle.dkg_journal.specs.Names.{Files}
use Rattle.dkg_store.specs.declared.devices.Devices.{Devices}
use Rattle.dkg_life.specs.declared.config.Terms.{Terms}
use Rattle.dkg_life.specs.Rules.{AckOf, CheckAckOf, DealOf}
use Rattle.dkg_reshare.specs.declared.actor.State.{State}
use Rattle.dkg_reshare.specs.declared.actor.State.TheVariants.{New, Living, Failed as HadFailed}
use Rattle.dkg_verifying.specs.declared.inclusion.Inclusion.{Inclusion}
use Rattle.dkg_life.specs.declared.life.Life.{Life}
use Rattle.dkg_life.specs.declared.stop.Stop.{Stop}
use Rattle.dkg_life.specs.Ready.{IsReadyLife}
use Rattle.dkg_reshare.specs.Actors.{EndsAt, HasFailed, IfIncluding, IsOpenedOn, IsNew}

module _ {C Dir Signer Cfg : Type 0} where
  abbrev Apart : State C Dir Signer Cfg → Type 0
  Apart state = (life : Life Dir) (its : Inclusion C Dir Signer Cfg) → state ≡ Living life its → ⊥

  pub not_living : (state : State C Dir Signer Cfg) → Apart state → (P : Life Dir → Inclusion C Dir Signer Cfg → Type 0) → IfIncluding state P
  not_living New apart P = tt
  not_living (Living life its) apart P = absurd (apart life its refl)
  not_living HadFailed apart P = tt

  pub has_failed : (state : State C Dir Signer Cfg) → (IsNew state → ⊥) → Apart state → HasFailed state
  has_failed New old apart = absurd (old tt)
  has_failed (Living life its) old apart = absurd (apart life its refl)
  has_failed HadFailed old apart = tt

  pub failed_ends : (state : State C Dir Signer Cfg) (stop : Stop) (P : Life Dir → Type 0) → HasFailed state → EndsAt state (Err stop) P
  failed_ends New stop P is = is
  failed_ends (Living life its) stop P is = is
  failed_ends HadFailed stop P is = is

-- What a call says of its end is what the next one asks for.
pub stands_again : {C Dir Signer Cfg D X : Type 0} (tells : Bool) (files : D → Files) (image : D → Files → Type 0) (ack_of : AckOf) (deal_of : DealOf) (check_ack_of : CheckAckOf) (terms : Terms)
    (state : State C Dir Signer Cfg) (devices : Devices D X) (result : Result (Unit {0}) Stop)
    → EndsAt state result (λ life. IsReadyLife tells files image ack_of deal_of check_ack_of terms life devices) → IsOpenedOn tells files image ack_of deal_of check_ack_of terms state devices
stands_again tells files image ack_of deal_of check_ack_of terms New devices (Ok done) ends = absurd ends
stands_again tells files image ack_of deal_of check_ack_of terms (Living life its) devices (Ok done) ends = record { opened = λ new. new; ready = ends }
stands_again tells files image ack_of deal_of check_ack_of terms HadFailed devices (Ok done) ends = absurd ends
stands_again tells files image ack_of deal_of check_ack_of terms New devices (Err stop) ends = absurd ends
stands_again tells files image ack_of deal_of check_ack_of terms (Living life its) devices (Err stop) ends = absurd ends
stands_again tells files image ack_of deal_of check_ack_of terms HadFailed devices (Err stop) ends = record { opened = λ new. new; ready = tt }
