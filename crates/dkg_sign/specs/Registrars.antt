-- Where a registrar's desk stands beside its disk, and how a registration went.
use Rattle.std.specs.Prelude.{◌≡◌, ◌≢◌, ◌⊎◌, ℕ, Bool, true, false, List, [], ◌∷◌, ◌++◌, Option, None, Some, Result, Ok, Err, IsErrAnd, IsTrue}
use Rattle.dkg_journal.specs.Names.{Files}
use Rattle.dkg_journal.specs.Burn.{Burn}
use Rattle.dkg_journal.specs.DeviceCall.{DeviceCall}
use Rattle.dkg_journal.specs.Disk.{Rose}
use Rattle.dkg_journal.specs.Fuse.{Ran}
use Rattle.dkg_journal.specs.declared.disk.Op.{Op}
use Rattle.dkg_journal.specs.declared.disk.Op.TheVariants.{Barrier}
use Rattle.dkg_types.specs.declared.scheme.SchemeInfo.{SchemeInfo}
use Rattle.dkg_sign.specs.Desks.{Desk}
use Rattle.dkg_sign.specs.Recorded.{IsAsLeft, recorded}
use Rattle.dkg_sign.specs.Registers.{EndsByVerdict, IsOfDeskOpening, JudgesRegistration, AnswersOpening, is_recorded_below}
use Rattle.dkg_sign.specs.declared.error.DeskError.{DeskError}
use Rattle.dkg_sign.specs.declared.error.DeskError.TheVariants.{Replaced, Conflict, Foreign, Disk, Corrupt, Cut, NoMemory}

-- The disk is as the desk's last call left it, where the desk needs not be opened again.
pub record IsAsLeftOrShut (reopen : Bool) (desk : Desk) (files : Files) (image : Files → Type 0) : Type 0 where
  pub stands : reopen ≡ false → IsAsLeft desk files image

-- whether a desk that answered so must be opened again
abbrev pub is_broken : Result (Unit {0}) DeskError → Bool
is_broken (Ok done) = false
is_broken (Err Disk) = true
is_broken (Err Cut) = true
is_broken (Err NoMemory) = false
is_broken (Err (Corrupt place)) = false
is_broken (Err (Replaced asked current)) = false
is_broken (Err (Conflict epoch)) = false
is_broken (Err (Foreign epoch)) = false

-- The desk could not be opened again over a record that reads so, and is as it was.
pub record DeskStaysShut (tells : Bool) (reading : Result (Option ℕ) DeskError) (reopen reopen' : Bool) (old new : Desk)
    (answer : Result (Unit {0}) DeskError) : Type 0 where
  pub had_to : reopen ≡ true
  pub has_to : reopen' ≡ true
  pub same : new ≡ old
  pub why : IsErrAnd answer IsOfDeskOpening
  pub exact : IsTrue tells → IsErrAnd answer (λ e. AnswersOpening reading (Err e))

-- The desk was asked, or the one that was opened again in its place over a record that reads so, and answered so.
pub record Asked (tells : Bool) (reading : Result (Option ℕ) DeskError) (reopen : Bool) (old new : Desk)
    (epoch : ℕ) (info : SchemeInfo) (answer : Result (Unit {0}) DeskError) : Type 0 where
  pub desk : Desk
  pub first : reopen ≡ false → desk ≡ old
  pub again : reopen ≡ true → (desk.me ≡ old.me) × (desk.held ≡ None)
  pub reads : IsTrue tells → reopen ≡ true → reading ≡ Ok desk.current
  pub verdict : Result Bool DeskError
  pub judged : JudgesRegistration desk epoch info verdict
  pub ended : EndsByVerdict verdict (is_recorded_below desk.current epoch) epoch info desk new answer

-- the list of refusals behind an answer
abbrev pub refusals_listed : Result (Unit {0}) DeskError → List DeskError → List DeskError
refusals_listed (Ok done) refused = refused
refusals_listed (Err why) refused = refused ++ why ∷ []

-- A registration that was not answered by want of memory: what the desk answered, and that a refusal is listed.
pub record Attempted (tells : Bool) (reading : Result (Option ℕ) DeskError) (reopen reopen' : Bool) (old new : Desk)
    (epoch : ℕ) (info : SchemeInfo) (refused refused' : List DeskError) (faults faults' : ℕ) : Type 0 where
  pub answer : Result (Unit {0}) DeskError
  pub went : DeskStaysShut tells reading reopen reopen' old new answer ⊎ (Asked tells reading reopen old new epoch info answer × (reopen' ≡ is_broken answer))
  pub list : refused' ≡ refusals_listed answer refused
  pub not_memory : answer ≢ Err NoMemory
  -- no fuse cuts a registrar's calls
  pub not_cut : answer ≢ Err Cut
  pub disk : answer ≡ Err Disk → Rose faults faults'

-- Want of memory leaves all as it was, but that a desk that had to be opened again may have been.
pub record Wanted (tells : Bool) (reading : Result (Option ℕ) DeskError) (reopen reopen' : Bool) (old new : Desk) : Type 0 where
  pub desk : ((reopen' ≡ reopen) × (new ≡ old))
      ⊎ ((reopen ≡ true) × (reopen' ≡ false) × (new.me ≡ old.me) × (new.held ≡ None) × (IsTrue tells → reading ≡ Ok new.current))

-- the record as it was, or with this epoch
abbrev pub PutsAtMost : (epoch : ℕ) → Files → Files → Type 0
PutsAtMost epoch old new = (recorded new ≡ recorded old) ⊎ (recorded new ≡ Ok (Some epoch))

-- the calls that open a desk again, where that has to be
abbrev pub opening_calls : (reopen : Bool) → List Op
opening_calls true = Barrier ∷ []
opening_calls false = []

-- The first of these calls were made, and no others, and none of them was cut.
pub record RanUncut {D O : Type 0} (made : D → D → List (DeviceCall O) → Type 0) (old new : D) (calls : List O) : Type 0 where
  pub before : Burn
  pub now : Burn
  pub never : before.call ≡ 0
  pub ran : Ran made old new before now calls
