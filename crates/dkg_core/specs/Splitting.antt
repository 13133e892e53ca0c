-- Courses one behind another, and a course under other names for its faults: how the whole ended by how its parts did.
use Rattle.std.specs.Prelude.{◌≡◌, ◌⊎◌, List}
use Rattle.dkg_infos.specs.declared.entry.Entry.{Entry}
use Rattle.dkg_store.specs.Acts.{World, Ended, went, stopped, broken}
use Rattle.dkg_core.specs.Courses.{Course, bind, under, on_devices, EndsSo}
use Rattle.dkg_core.specs.Said.{Said}

-- the same end, with another name for its fault
abbrev pub fault_named : {F G S : Type 0} → (F → G) → Ended F S → Ended G S
fault_named name (went end) = went end
fault_named name (stopped fault) = stopped (name fault)
fault_named name (broken cause) = broken cause

-- The first of two courses ended so, which ended both.
abbrev pub IsEarly : {F S T : Type 0} → Ended F S → Ended F T → Type 0
IsEarly (stopped fault) (stopped its) = fault ≡ its
IsEarly (broken cause) (broken its) = cause ≡ its
IsEarly early ended = ⊥

-- A RUN of one course behind another: all of the first was run and then the second ended so, or the first ended early.
abbrev pub RunsSplit : (Dir F S T : Type 0) → Type 0
RunsSplit Dir F S T = (course : Course Dir F S) (next : S → Course Dir F T) (ended : Ended F T) (w new : World) → EndsSo (bind course next) ended w new
    → ((end : S) × (mid : World) × EndsSo course (went end) w mid × EndsSo (next end) ended mid new) ⊎ ((early : Ended F S) × IsEarly early ended × EndsSo course early w new)

-- .. and of its lines, whatever the devices tell
abbrev pub SaidSplit : (Dir F S T : Type 0) → Type 0
SaidSplit Dir F S T = (course : Course Dir F S) (next : S → Course Dir F T) (ended : Ended F T) (old new : List Entry) → Said (on_devices (bind course next)) ended old new
    → ((end : S) × (mid : List Entry) × Said (on_devices course) (went end) old mid × Said (on_devices (next end)) ended mid new)
    ⊎ ((early : Ended F S) × IsEarly early ended × Said (on_devices course) early old new)

-- A RUN UNDER OTHER NAMES is one of the course.
abbrev pub RunsUnder : (Dir F G S : Type 0) → Type 0
RunsUnder Dir F G S = (name : F → G) (course : Course Dir F S) (ended : Ended G S) (w new : World) → EndsSo (under name course) ended w new
    → (its : Ended F S) × (ended ≡ fault_named name its) × EndsSo course its w new

abbrev pub SaidUnder : (Dir F G S : Type 0) → Type 0
SaidUnder Dir F G S = (name : F → G) (course : Course Dir F S) (ended : Ended G S) (old new : List Entry) → Said (on_devices (under name course)) ended old new
    → (its : Ended F S) × (ended ≡ fault_named name its) × Said (on_devices course) its old new
