-- Why a step stopped.
use Rattle.std.proofs.Common.{◌≡◌, Bool, Ok, Err, subst}
use Rattle.std.specs.Prelude.{IsErrOf}
use Rattle.dkg_life.specs.declared.stop.Stop.{Stop}
use Rattle.dkg_life.specs.declared.stop.Stop.TheVariants.{Cut, Failed, Fault as Faulted}
use Rattle.dkg_reshare.specs.declared.actor.State.{State}
use Rattle.dkg_reshare.specs.declared.actor.State.TheVariants.{Living}
use Rattle.dkg_verifying.specs.declared.inclusion.Inclusion.{Inclusion}
use Rattle.dkg_life.specs.declared.life.Life.{Life}
use Rattle.dkg_reshare.specs.Actors.{HasFailed, IfIncluding}
use Rattle.dkg_life.specs.Ends.{IsCausedBy, IsCausedInStep}

module _ (tells : Bool) (disk secrets reached : Type 0) where
  pub caused_in_step : (stop : Stop) → IsCausedBy tells stop disk secrets reached → IsCausedInStep tells stop disk secrets reached
  caused_in_step (Faulted its) is = is
  caused_in_step Cut is = is
  caused_in_step Failed is = tt

  -- a call that was made did not stop for a call before
  pub not_failed : (stop : Stop) → IsCausedBy tells stop disk secrets reached → stop ≡ Failed → ⊥
  not_failed stop is failed = subst (λ (its : Stop). IsCausedBy tells its disk secrets reached) failed is

pub no_error : {T : Type 0} (x : T) (e : Stop) → IsErrOf (Ok x) e → ⊥
no_error x e is = cc

pub same_error : (T : Type 0) (s e : Stop) → IsErrOf {T = T} (Err s) e → s ≡ e
same_error T s e is = cc

module _ {C Dir Signer Cfg : Type 0} (state : State C Dir Signer Cfg) (life : Life Dir) (its : Inclusion C Dir Signer Cfg) (is : state ≡ Living life its) where
  pub lives_on : HasFailed state → ⊥
  lives_on failed = subst (λ (s : State C Dir Signer Cfg). HasFailed s) is failed

  pub of_living : (P : Life Dir → Inclusion C Dir Signer Cfg → Type 0) → IfIncluding state P → P life its
  of_living P so = subst (λ (s : State C Dir Signer Cfg). IfIncluding s P) is so
