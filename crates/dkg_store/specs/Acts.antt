-- What a call does, as acts in their order: entries that it says, operations that it does on the devices, reads that it asks for, and how it ends.
use Rattle.std.specs.Prelude.{◌≡◌, ◌⊎◌, ◌≤◌, ℕ, ◌∷◌, [], ◌++◌, List, Option}
use Rattle.dkg_journal.specs.Burn.{Burn}
use Rattle.dkg_journal.specs.Fuse.{burnt, Reached}
use Rattle.dkg_journal.specs.Names.{Files}
use Rattle.dkg_journal.specs.Disk.{Lands}
use Rattle.dkg_journal.specs.Records.{SectionEntry}
use Rattle.dkg_journal.specs.Operations as of_journal
use Rattle.dkg_journal.specs.Operations.{InPart}
use Rattle.dkg_journal.specs.Operations.{Journaled, journaled}
use Rattle.dkg_infos.specs.declared.entry.Entry.{Entry}
use Rattle.dkg_secrets.specs.Secrets.{Secrets, Tries}
use Rattle.dkg_secrets.specs.Secrets as of_secrets
use Rattle.dkg_secrets.specs.declared.secrets.SecretOp.{SecretOp}
use Rattle.dkg_store.specs.declared.devices.Devices.{Devices}

-- What both devices hold: what the disk's files stand for (the journal's entries, the plan's bytes, the names), and the secrets.
pub record Held : Type 0 where
  pub journaled : Journaled
  pub secrets : Secrets

abbrev pub held_in : Files → Secrets → Held
held_in files s = record { journaled = journaled files; secrets = s }

-- the entries of the journal
abbrev pub notes : Held → List SectionEntry
notes h = h.journaled.entries

abbrev pub plan : Held → Option (List ℕ)
plan h = h.journaled.plan

-- An operation is one of the disk, or a changing call of the secret store.
pub data Operation : Type 0 where
  OnDisk : of_journal.JournalOperation → Operation
  Changes : SecretOp → Operation

-- its changing calls, which follow from what is held (an opening of the journal has their number with it)
abbrev pub device_calls : Operation → Held → ℕ
device_calls (OnDisk op) h = of_journal.changing_calls op h.journaled
device_calls (Changes op) h = 1

-- what an operation leaves that is done
abbrev pub held_after : Operation → Held → Held
held_after (OnDisk op) h = record { journaled = of_journal.after_operation op h.journaled; secrets = h.secrets }
held_after (Changes op) h = record { journaled = h.journaled; secrets = of_secrets.after op h.secrets }

-- .. and one of the disk that was ended within: what was before it, or behind it; a prune up to a lower minimum; an append or an
-- opening with names alone changed
abbrev pub IsDiskLeft : of_journal.JournalOperation → Journaled → Journaled → Type 0
IsDiskLeft op j new = (new ≡ j) ⊎ ((new ≡ of_journal.after_operation op j) ⊎ InPart op j new)

abbrev pub IsTorn : Operation → Held → Held → Type 0
IsTorn (OnDisk op) h new = (new.secrets ≡ h.secrets) × IsDiskLeft op h.journaled new.journaled
IsTorn (Changes op) h new = (new.journaled ≡ h.journaled) × Tries op h.secrets new.secrets

pub data Acts (F S : Type 0) : Type 0 where
  Say : Entry → Acts F S → Acts F S
  Do : Operation → Acts F S → Acts F S
  -- the devices are read, which changes nothing
  Ask : (Held → Acts F S) → Acts F S
  Goes : S → Acts F S
  -- it ends by a fault of its own
  Stops : F → Acts F S

-- these acts, and from what they end in others
abbrev pub bind : {F S T : Type 0} → Acts F S → (S → Acts F T) → Acts F T
bind (Say line acts) next = Say line (bind acts next)
bind (Do op acts) next = Do op (bind acts next)
bind (Ask f) next = Ask (λ h. bind (f h) next)
bind (Goes end) next = next end
bind (Stops fault) next = Stops fault

-- the same acts, with other names for their faults
abbrev pub under : {F G S : Type 0} → (F → G) → Acts F S → Acts G S
under name (Say line acts) = Say line (under name acts)
under name (Do op acts) = Do op (under name acts)
under name (Ask f) = Ask (λ h. under name (f h))
under name (Goes end) = Goes end
under name (Stops fault) = Stops (name fault)

-- what is seen of acts: the transcript, what the devices hold, and the calls that were counted
pub record World : Type 0 where
  pub out : List Entry
  pub held : Held
  pub fuse : Burn

abbrev pub says : World → Entry → World
says w line = record w { out = w.out ++ line ∷ [] }

abbrev pub does : World → Operation → World
does w op = record w { held = held_after op w.held; fuse = burnt (device_calls op w.held) w.fuse }

abbrev pub world : List Entry → Journaled → Secrets → Burn → World
world out j s fuse = record { out = out; held = record { journaled = j; secrets = s }; fuse = fuse }

-- What ends acts from outside: the cut of a call, the failure of a device, or want of memory.
pub data Cause : Type 0 where
  by_cut : Cause
  by_disk : Cause
  by_secrets : Cause
  by_want : Cause

-- What the fuse says then. A cut is where its call lies within the operation in hand, and where a device failed that call was not
-- reached; nor was it where memory was wanting, but where the cut itself found none.
abbrev pub EndsBy : Cause → Burn → Burn → Type 0
EndsBy by_cut before now = Reached before now
EndsBy by_disk before now = Reached before now → ⊥
EndsBy by_secrets before now = Reached before now → ⊥
EndsBy by_want before now = Unit {0}

-- between two operations nothing is cut
abbrev pub IsBetween : Cause → Type 0
IsBetween by_cut = ⊥
IsBetween by_disk = Unit {0}
IsBetween by_secrets = Unit {0}
IsBetween by_want = Unit {0}

-- within an operation
pub record Tears (cause : Cause) (op : Operation) (w new : World) : Type 0 where
  pub same : new.out ≡ w.out
  pub torn : IsTorn op w.held new.held
  pub calls : ℕ
  pub most : calls ≤ device_calls op w.held
  pub fuse : new.fuse ≡ burnt calls w.fuse
  pub ends : EndsBy cause w.fuse new.fuse

-- All were run.
abbrev pub Completes : {F S : Type 0} → Acts F S → S → World → World → Type 0
Completes (Say line acts) end w new = Completes acts end (says w line) new
Completes (Do op acts) end w new = Completes acts end (does w op) new
Completes (Ask f) end w new = Completes (f w.held) end w new
Completes (Goes its) end w new = (new ≡ w) × (end ≡ its)
Completes (Stops fault) end w new = ⊥

-- All were run, up to the fault.
abbrev pub Faults : {F S : Type 0} → Acts F S → F → World → World → Type 0
Faults (Say line acts) fault w new = Faults acts fault (says w line) new
Faults (Do op acts) fault w new = Faults acts fault (does w op) new
Faults (Ask f) fault w new = Faults (f w.held) fault w new
Faults (Goes end) fault w new = ⊥
Faults (Stops its) fault w new = (new ≡ w) × (fault ≡ its)

-- The first of them were run, and perhaps a part of the operation after these.
abbrev pub Breaks : {F S : Type 0} → Cause → Acts F S → World → World → Type 0
Breaks cause (Say line acts) w new = (IsBetween cause × (new ≡ w)) ⊎ Breaks cause acts (says w line) new
Breaks cause (Do op acts) w new = Tears cause op w new ⊎ Breaks cause acts (does w op) new
Breaks cause (Ask f) w new = Breaks cause (f w.held) w new
Breaks cause (Goes end) w new = IsBetween cause × (new ≡ w)
Breaks cause (Stops fault) w new = IsBetween cause × (new ≡ w)

-- How acts ended: in this, by a fault of their own, or anywhere, from outside.
pub data Ended (F S : Type 0) : Type 0 where
  went : S → Ended F S
  stopped : F → Ended F S
  broken : Cause → Ended F S

abbrev pub Runs : {F S : Type 0} → Acts F S → Ended F S → World → World → Type 0
Runs acts (went end) w new = Completes acts end w new
Runs acts (stopped fault) w new = Faults acts fault w new
Runs acts (broken cause) w new = Breaks cause acts w new

abbrev pub IfWent : {F S : Type 0} → Ended F S → Type 0 → Type 0
IfWent (went end) P = P
IfWent (stopped fault) P = Unit {0}
IfWent (broken cause) P = Unit {0}

-- nothing is loose: a crash leaves what a read gives
pub record Stands (files : Files) (image : Files → Type 0) : Type 0 where
  pub lands : Lands files image
  pub itself : image files

-- the transcript, the secrets and the calls that were counted, at one moment
pub record Moment : Type 0 where
  pub out : List Entry
  pub secrets : Secrets
  pub fuse : Burn

abbrev pub moment : List Entry → Secrets → Burn → Moment
moment out s fuse = record { out = out; secrets = s; fuse = fuse }

abbrev pub at : Moment → Files → World
at m files = record { out = m.out; held = held_in files m.secrets; fuse = m.fuse }

-- The acts were run, whichever image is left of a disk of which nothing was loose. Where they went to their end nothing is loose again.
pub record MadeAt {F S : Type 0} (acts : Acts F S) (ended : Ended F S) (files : Files) (image : Files → Type 0) (files_now : Files) (next : Files → Type 0) (old new : Moment) : Type 0 where
  pub made : Stands files image → (c : Files) → next c → Runs acts ended (at old files) (at new c)
  pub stands : IfWent ended (Stands files image → Stands files_now next)

-- A loop's invariant: to run the rest from here is to run the whole from the start.
pub record RunsRest {F S : Type 0} (whole rest : Acts F S) (files : Files) (image : Files → Type 0) (files_here : Files) (here : Files → Type 0) (old mid : Moment) : Type 0 where
  pub stood : Stands files image → Stands files_here here
  pub on : Stands files image → (ended : Ended F S) (new : World) → Runs rest ended (at mid files_here) new → Runs whole ended (at old files) new

-- P before and after each act, and of whatever an operation leaves that is ended within it
abbrev pub Along : {F S : Type 0} → (World → Type 0) → Acts F S → World → Type 0
Along P (Say line acts) w = P w × Along P acts (says w line)
Along P (Do op acts) w = ((cause : Cause) (new : World) → Tears cause op w new → P new) × Along P acts (does w op)
Along P (Ask f) w = Along P (f w.held) w
Along P (Goes end) w = P w
Along P (Stops fault) w = P w

-- The same of devices: the transcript was `out`, and is `now`.
abbrev pub MadeOn : {D X F S : Type 0} → (D → Files) → (D → Files → Type 0) → (X → Secrets) → Acts F S → Ended F S → Devices D X → Devices D X → (out now : List Entry) → Type 0
MadeOn files image held acts ended old new out now =
    MadeAt acts ended (files old.disk.now) (image old.disk.now) (files new.disk.now) (image new.disk.now) (moment out (held old.secrets.now) old.fuse) (moment now (held new.secrets.now) new.fuse)
