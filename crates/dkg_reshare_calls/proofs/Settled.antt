-- An actor's inclusion behind a call, and what a block without a payload carries.
use Rattle.std.proofs.Common.{◌≡◌, ℕ, None, Result, Ok, Err, OnOk}
use Rattle.dkg_types.specs.Blocks.{Block}
use Rattle.dkg_reshare.specs.declared.actor.State.{State}
use Rattle.dkg_reshare.specs.declared.actor.State.TheVariants.{New, Living, Failed}
use Rattle.dkg_verifying.specs.declared.inclusion.Inclusion.{Inclusion}
use Rattle.dkg_life.specs.declared.life.Life.{Life}
use Rattle.dkg_life.specs.declared.stop.Stop.{Stop}
use Rattle.dkg_reshare.specs.Actors.{EndsAt, IfIncluding}
use Rattle.dkg_blocks.specs.CarriedLogs.{CarriesWithin}

module _ {C Dir Signer Cfg : Type 0} where
  -- It is so again, or the actor has failed.
  pub again : (state : State C Dir Signer Cfg) (result : Result (Unit {0}) Stop) (P : Life Dir → Type 0) (Q : Life Dir → Inclusion C Dir Signer Cfg → Type 0)
      → EndsAt state result P → OnOk result (IfIncluding state Q) → IfIncluding state Q
  again New result P Q ends so = tt
  again (Living life its) (Ok done) P Q ends so = so
  again (Living life its) (Err stop) P Q ends so = absurd ends
  again Failed result P Q ends so = tt

  pub first_of : (state : State C Dir Signer Cfg) (P Q : Life Dir → Inclusion C Dir Signer Cfg → Type 0) → IfIncluding state (λ life its. P life its × Q life its) → IfIncluding state P
  first_of New P Q so = tt
  first_of (Living life its) P Q so = so.0
  first_of Failed P Q so = tt

pub carries_none : {Dir : Type 0} (limit : ℕ) (b : Block Dir) → b.payload ≡ None → CarriesWithin limit b
carries_none limit b none = rw none tt
