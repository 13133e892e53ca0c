-- What a step does, in its order: entries that it says, operations on the devices, calls of what is outside of the node, and how it ends.
use Rattle.std.specs.Prelude.{ℕ, List, [], ◌∷◌, Option, Some, None}
use Rattle.dkg_infos.specs.declared.entry.Entry.{Entry}
use Rattle.dkg_types.specs.declared.finalization.Finalization.{Finalization}
use Rattle.dkg_infos.specs.declared.participants.TrackedPeers.{TrackedPeers}
use Rattle.dkg_types.specs.declared.scheme.SchemeInfo.{SchemeInfo}
use Rattle.dkg_store.specs.Acts as acts_of
use Rattle.dkg_store.specs.Acts.{Acts, Operation, Held, World, Along, Completes, Ended, Runs, held_after}

-- CALLS OUTSIDE

-- where an epoch's engine starts: at a boundary block, or at a finalization
pub data Floor : Type 0 where
  Genesis : (digest : List ℕ) → Floor
  Certified : Finalization → Floor

-- A set of peers is tracked with its directory, an epoch's engine starts or stops, and the fence is marked. Activates: the probe tracks its snapshot's peers.
pub data Outer (Dir : Type 0) : Type 0 where
  Tracks : (epoch : ℕ) → TrackedPeers → (directory : Dir) → Outer Dir
  StartsEngine : (epoch : ℕ) → Floor → SchemeInfo → Outer Dir
  StopsEngine : (epoch : ℕ) → Outer Dir
  Marks : (epoch : ℕ) → Outer Dir
  Activates : (epoch : ℕ) → TrackedPeers → (directory : Dir) → Outer Dir

-- COURSES: a store's acts, and calls outside among them

pub data Course (Dir F S : Type 0) : Type 0 where
  Say : Entry → Course Dir F S → Course Dir F S
  Do : Operation → Course Dir F S → Course Dir F S
  CallOutside : Outer Dir → Course Dir F S → Course Dir F S
  -- the devices are read, which changes nothing
  Ask : (Held → Course Dir F S) → Course Dir F S
  Goes : S → Course Dir F S
  -- it ends by a fault of its own
  Stops : F → Course Dir F S

-- this course, and from what it ends in another
abbrev pub bind : {Dir F S T : Type 0} → Course Dir F S → (S → Course Dir F T) → Course Dir F T
bind (Say line course) next = Say line (bind course next)
bind (Do op course) next = Do op (bind course next)
bind (CallOutside outer course) next = CallOutside outer (bind course next)
bind (Ask f) next = Ask (λ h. bind (f h) next)
bind (Goes end) next = next end
bind (Stops fault) next = Stops fault

-- the same course, with other names for its faults
abbrev pub under : {Dir F G S : Type 0} → (F → G) → Course Dir F S → Course Dir G S
under name (Say line course) = Say line (under name course)
under name (Do op course) = Do op (under name course)
under name (CallOutside outer course) = CallOutside outer (under name course)
under name (Ask f) = Ask (λ h. under name (f h))
under name (Goes end) = Goes end
under name (Stops fault) = Stops (name fault)

-- what it is over the devices and the transcript alone
abbrev pub on_devices : {Dir F S : Type 0} → Course Dir F S → Acts F S
on_devices (Say line course) = acts_of.Say line (on_devices course)
on_devices (Do op course) = acts_of.Do op (on_devices course)
on_devices (CallOutside outer course) = on_devices course
on_devices (Ask f) = acts_of.Ask (λ h. on_devices (f h))
on_devices (Goes end) = acts_of.Goes end
on_devices (Stops fault) = acts_of.Stops fault

-- P before and after each act, and of whatever an operation leaves that is ended within it
abbrev pub Throughout : {Dir F S : Type 0} → (World → Type 0) → Course Dir F S → World → Type 0
Throughout P course w = Along P (on_devices course) w

-- All of it was run.
abbrev pub Finishes : {Dir F S : Type 0} → Course Dir F S → S → World → World → Type 0
Finishes course end w new = Completes (on_devices course) end w new

-- .. or it ended so
abbrev pub EndsSo : {Dir F S : Type 0} → Course Dir F S → Ended F S → World → World → Type 0
EndsSo course ended w new = Runs (on_devices course) ended w new

-- DEEDS

-- what a course does one after another
pub data Deed (Dir : Type 0) : Type 0 where
  SaidEntry : Entry → Deed Dir
  DidOperation : Operation → Deed Dir
  CalledOutside : Outer Dir → Deed Dir

-- .. over what the devices hold
abbrev pub deeds_of : {Dir F S : Type 0} → Course Dir F S → Held → List (Deed Dir)
deeds_of (Say line course) h = SaidEntry line ∷ deeds_of course h
deeds_of (Do op course) h = DidOperation op ∷ deeds_of course (held_after op h)
deeds_of (CallOutside outer course) h = CalledOutside outer ∷ deeds_of course h
deeds_of (Ask f) h = deeds_of (f h) h
deeds_of (Goes end) h = []
deeds_of (Stops fault) h = []

-- what it ends in, and what the devices hold then
abbrev pub end_of : {Dir F S : Type 0} → Course Dir F S → Held → Option (S × Held)
end_of (Say line course) h = end_of course h
end_of (Do op course) h = end_of course (held_after op h)
end_of (CallOutside outer course) h = end_of course h
end_of (Ask f) h = end_of (f h) h
end_of (Goes end) h = Some (end, h)
end_of (Stops fault) h = None

-- the fault that it stops by
abbrev pub fault_of : {Dir F S : Type 0} → Course Dir F S → Held → Option F
fault_of (Say line course) h = fault_of course h
fault_of (Do op course) h = fault_of course (held_after op h)
fault_of (CallOutside outer course) h = fault_of course h
fault_of (Ask f) h = fault_of (f h) h
fault_of (Goes end) h = None
fault_of (Stops fault) h = Some fault
