-- How an info is judged, and the course of a setup by it.
use Rattle.std.proofs.Common.{◌≡◌, ℕ, Bool, true, false, List, Option, Some, None, Result, Ok, Err, refl, ap}
use Rattle.std.specs.Prelude.{◌==◌, if◌then◌else◌}
use Rattle.dkg_infos.specs.Validation.{validation}
use Rattle.dkg_infos.specs.declared.fault.Fault.{Fault}
use Rattle.dkg_infos.specs.declared.fault.Fault.TheVariants.{WrongEpoch}
use Rattle.dkg_infos.specs.declared.info.EpochInfo.{EpochInfo}
use Rattle.dkg_infos.specs.declared.participants.ParticipantsError.{ParticipantsError}
use Rattle.dkg_core.specs.Courses.{Course, Stops, bind}
use Rattle.dkg_core.specs.Fixed.{Fixed}
use Rattle.dkg_core.specs.Live.{Live}
use Rattle.dkg_core.specs.Setup as setup
use Rattle.dkg_life.specs.Steps.{reads_secrets, refusal_of, refused_by}
use Rattle.dkg_life.proofs.Seated.{same_some}

module _ {Dir : Type 0} (c : Fixed Dir) (standing : setup.Standing) (info : EpochInfo Dir) (st : Live Dir) where
  -- the setup behind the share and the seed
  abbrev pub behind_secrets : Option ℕ × List ℕ → Course Dir Fault (Live Dir)
  behind_secrets both = setup.with_share_and_seed c None standing info both.0 both.1 st

  -- The share and the seed are read, and the rest follows.
  pub judged_as : setup.info_judged c None standing info st (Ok tt) ≡ bind (reads_secrets c info) behind_secrets
  judged_as = refl

  abbrev its_validation : Result (Unit {0}) ParticipantsError
  its_validation = validation (setup.participants_of info) c.limit (Some info.output) info.epoch

  abbrev refusal_in : Bool → Result (Unit {0}) ParticipantsError → Option Fault
  refusal_in same valid = if same then refused_by valid else Some (WrongEpoch st.participation.epoch info.epoch)

  abbrev course_in : Bool → Result (Unit {0}) ParticipantsError → Course Dir Fault (Live Dir)
  course_in same valid = if same then setup.info_judged c None standing info st valid else Stops (WrongEpoch st.participation.epoch info.epoch)

  passed_in : (same : Bool) (valid : Result (Unit {0}) ParticipantsError) → refusal_in same valid ≡ None → course_in same valid ≡ setup.info_judged c None standing info st (Ok tt)
  passed_in true (Ok passed) none = refl
  passed_in true (Err e) none = absurd cc
  passed_in false valid none = absurd cc

  refused_in : (same : Bool) (valid : Result (Unit {0}) ParticipantsError) (its : Fault) → refusal_in same valid ≡ Some its → course_in same valid ≡ Stops its
  refused_in true (Ok passed) its is = absurd cc
  refused_in true (Err e) its is = ap (λ (f : Fault). Stops f) (same_some _ _ is)
  refused_in false valid its is = ap (λ (f : Fault). Stops f) (same_some _ _ is)

  pub passed : refusal_of st.participation.epoch c.limit info ≡ None → setup.with_info c None standing info st ≡ setup.info_judged c None standing info st (Ok tt)
  passed none = passed_in (info.epoch == st.participation.epoch) its_validation none

  pub refused : (its : Fault) → refusal_of st.participation.epoch c.limit info ≡ Some its → setup.with_info c None standing info st ≡ Stops its
  refused its is = refused_in (info.epoch == st.participation.epoch) its_validation its is
