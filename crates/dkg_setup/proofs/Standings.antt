-- A commit in a setup whose info was committed before, or was not.
use Rattle.std.proofs.Common.{◌≡◌, ◌⊎◌, inl, inr, ℕ, List, Option, Result, Ok, Err, ap}
use Rattle.std.specs.Prelude.{OnErr}
use Rattle.dkg_infos.specs.declared.info.EpochInfo.{EpochInfo}
use Rattle.dkg_core.specs.Courses.{Goes, bind}
use Rattle.dkg_core.specs.Fixed.{Fixed}
use Rattle.dkg_core.specs.Live.{Live}
use Rattle.dkg_core.specs.Setup as setup
use Rattle.dkg_setup.specs.declared.setup.Standing.{Standing}
use Rattle.dkg_setup.specs.declared.setup.Standing.TheVariants.{Uncommitted, WasCommitted}
use Rattle.dkg_setup.specs.Standings.{standing_of}

module _ {Dir : Type 0} (c : Fixed Dir) (info : EpochInfo Dir) (seed : List ℕ) (share : Option ℕ) (st : Live Dir) (its : Standing) where
  -- an info that was committed before
  pub kept_by : its ≡ WasCommitted → setup.commits_new (standing_of its) c info seed share st ≡ Goes st
  kept_by is = ap (λ (s : Standing). setup.commits_new (standing_of s) c info seed share st) is

  -- .. and one that wasn't
  pub committed_by : its ≡ Uncommitted → setup.commits_new (standing_of its) c info seed share st ≡ bind (setup.commits info seed share st) (λ st. setup.registers c info share st)
  committed_by is = ap (λ (s : Standing). setup.commits_new (standing_of s) c info seed share st) is

-- What was taken, if anything was, is of an info that is committed by then.
also : {A B C : Type 0} → A ⊎ B → C → A ⊎ (B × C)
also (inl a) c = inl a
also (inr b) c = inr (b, c)

pub of_committed : {T E C : Type 0} (Told A B : Type 0) (r : Result T E) → OnErr r (Told → A ⊎ B) → C → OnErr r (Told → A ⊎ (B × C))
of_committed Told A B (Ok x) taken is = tt
of_committed Told A B (Err e) taken is = λ told. also (taken told) is
