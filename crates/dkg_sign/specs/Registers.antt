-- What opening a desk and registering an epoch's material come to.
use Rattle.std.specs.Prelude.{◌≡◌, ◌≢◌, ◌⊎◌, ℕ, nat_lt, Bool, true, false, Option, Some, None, Result, Ok, Err}
use Rattle.dkg_values.specs.Uint.{uint}
use Rattle.dkg_values.specs.declared.name.Name.TheVariants.{Plan}
use Rattle.dkg_journal.specs.Names.{Files}
use Rattle.dkg_journal.specs.declared.disk.Op.{Op}
use Rattle.dkg_journal.specs.declared.disk.Op.TheVariants.{Install}
use Rattle.dkg_types.specs.declared.scheme.SchemeInfo.{SchemeInfo}
use Rattle.dkg_sign.specs.Desks.{Desk, replaced_by, material_of}
use Rattle.dkg_sign.specs.Materials.{is_own}
use Rattle.dkg_sign.specs.declared.error.DeskError.{DeskError}
use Rattle.dkg_sign.specs.declared.error.DeskError.TheVariants.{Replaced, Foreign, Conflict, Disk, Corrupt, Cut, NoMemory}

-- What reading the record answers, where it reads so.
abbrev pub AnswersRecord : Result (Option ℕ) DeskError → Result (Option ℕ) DeskError → Type 0
AnswersRecord reading (Ok current) = reading ≡ Ok current
AnswersRecord reading (Err (Corrupt place)) = reading ≡ Err (Corrupt place)
AnswersRecord reading (Err NoMemory) = Unit {0}
AnswersRecord reading (Err Disk) = ⊥
AnswersRecord reading (Err Cut) = ⊥
AnswersRecord reading (Err (Replaced asked current)) = ⊥
AnswersRecord reading (Err (Conflict epoch)) = ⊥
AnswersRecord reading (Err (Foreign epoch)) = ⊥

-- What opening answers, over a record that reads so.
abbrev pub AnswersOpening : Result (Option ℕ) DeskError → Result Desk DeskError → Type 0
AnswersOpening reading (Ok desk) = reading ≡ Ok desk.current
AnswersOpening reading (Err (Corrupt place)) = reading ≡ Err (Corrupt place)
AnswersOpening reading (Err e) = Unit {0}

-- the errors that an opening may give
abbrev pub IsOfDeskOpening : DeskError → Type 0
IsOfDeskOpening Disk = Unit {0}
IsOfDeskOpening Cut = Unit {0}
IsOfDeskOpening NoMemory = Unit {0}
IsOfDeskOpening (Corrupt place) = Unit {0}
IsOfDeskOpening (Replaced asked current) = ⊥
IsOfDeskOpening (Conflict epoch) = ⊥
IsOfDeskOpening (Foreign epoch) = ⊥

-- the errors that a put of the record may give
abbrev pub IsOfPut : DeskError → Type 0
IsOfPut Disk = Unit {0}
IsOfPut Cut = Unit {0}
IsOfPut NoMemory = Unit {0}
IsOfPut (Corrupt place) = ⊥
IsOfPut (Replaced asked current) = ⊥
IsOfPut (Conflict epoch) = ⊥
IsOfPut (Foreign epoch) = ⊥

-- the answers behind which the disk stands beside the desk as before: all but a failed or a cut call of it
abbrev pub IsDiskKept : Result (Unit {0}) DeskError → Type 0
IsDiskKept (Ok done) = Unit {0}
IsDiskKept (Err Disk) = ⊥
IsDiskKept (Err Cut) = ⊥
IsDiskKept (Err NoMemory) = Unit {0}
IsDiskKept (Err (Corrupt place)) = Unit {0}
IsDiskKept (Err (Replaced asked current)) = Unit {0}
IsDiskKept (Err (Conflict epoch)) = Unit {0}
IsDiskKept (Err (Foreign epoch)) = Unit {0}

-- The verdict of a registration's tests, in their order: why it is refused, or whether the material is to be taken. The same material again is not.
abbrev pub RegistrationVerdict : Option ℕ → Bool → Option SchemeInfo → (epoch : ℕ) → SchemeInfo → Result Bool DeskError → Type 0
RegistrationVerdict (Some current) own held epoch info verdict = verdict ≡ Err (Replaced epoch current)
RegistrationVerdict None false held epoch info verdict = verdict ≡ Err (Foreign epoch)
RegistrationVerdict None true None epoch info verdict = verdict ≡ Ok true
RegistrationVerdict None true (Some other) epoch info verdict = ((verdict ≡ Ok false) × (other ≡ info)) ⊎ ((verdict ≡ Err (Conflict epoch)) × (other ≢ info))

abbrev pub JudgesRegistration : Desk → (epoch : ℕ) → SchemeInfo → Result Bool DeskError → Type 0
JudgesRegistration desk epoch info verdict = RegistrationVerdict (replaced_by desk.current epoch) (is_own desk.me info) (material_of desk epoch) epoch info verdict

-- whether the record has a lower epoch, or none
abbrev pub is_recorded_below : Option ℕ → (epoch : ℕ) → Bool
is_recorded_below None epoch = true
is_recorded_below (Some current) epoch = nat_lt current epoch

-- the desk with the material in place of what it held
abbrev pub with_material : Desk → (epoch : ℕ) → SchemeInfo → Desk
with_material desk epoch info = record { me = desk.me; current = Some epoch; held = Some info }

-- What a registration with this verdict answers, and the desk behind it. `higher` says whether the epoch goes into the record first.
abbrev pub EndsByVerdict : Result Bool DeskError → (higher : Bool) → (epoch : ℕ) → SchemeInfo → Desk → Desk → Result (Unit {0}) DeskError → Type 0
EndsByVerdict (Err e) higher epoch info old new result = (result ≡ Err e) × (new ≡ old)
EndsByVerdict (Ok false) higher epoch info old new result = (result ≡ Ok tt) × (new ≡ old)
EndsByVerdict (Ok true) higher epoch info old new (Ok done) = new ≡ with_material old epoch info
EndsByVerdict (Ok true) true epoch info old new (Err e) = IsOfPut e × (new ≡ old)
EndsByVerdict (Ok true) false epoch info old new (Err e) = ⊥

-- whether a registration with this verdict reaches the disk
abbrev pub reaches : Result Bool DeskError → (higher : Bool) → Bool
reaches (Ok true) higher = higher
reaches (Ok false) higher = false
reaches (Err e) higher = false

-- A registration, as it went: the tests, the answer and the desk behind it, and that nothing is done on the disk where it is not reached.
pub record Registers {D F : Type 0} (old new : Desk) (epoch : ℕ) (info : SchemeInfo) (result : Result (Unit {0}) DeskError)
    (disk disk' : D) (fuse fuse' : F) : Type 0 where
  pub verdict : Result Bool DeskError
  pub judged : JudgesRegistration old epoch info verdict
  pub ended : EndsByVerdict verdict (is_recorded_below old.current epoch) epoch info old new result
  pub untouched : reaches verdict (is_recorded_below old.current epoch) ≡ false → (disk' ≡ disk) × (fuse' ≡ fuse)

-- an image as it was
abbrev pub SameFiles : Files → Files → Type 0
SameFiles old new = new ≡ old

-- the call that puts an epoch into the record
abbrev pub put_call : (epoch : ℕ) → Op
put_call epoch = Install Plan (uint epoch)
