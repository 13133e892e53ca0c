-- A course that was made by a call.
use Rattle.std.specs.Prelude.{◌≡◌, List}
use Rattle.dkg_journal.specs.Burn.{Burn}
use Rattle.dkg_journal.specs.Fuse.{Reached}
use Rattle.dkg_journal.specs.Names.{Files}
use Rattle.dkg_infos.specs.declared.entry.Entry.{Entry}
use Rattle.dkg_store.specs.Acts.{Acts, Ended, Held, MadeAt, Moment, Runs, broken, moment, stopped, went}
use Rattle.dkg_secrets.specs.Secrets.{Secrets}
use Rattle.dkg_store.specs.declared.devices.Devices.{Devices}
use Rattle.dkg_core.specs.Courses.{Course, on_devices}
use Rattle.dkg_core.specs.Said.{Said}

-- It went to its end, or stopped by itself.
abbrev pub UnlessBroken : {F S : Type 0} → Ended F S → Type 0 → Type 0
UnlessBroken (went end) P = P
UnlessBroken (stopped fault) P = P
UnlessBroken (broken cause) P = Unit {0}

-- The fuse cuts the same call, with the same pick; and that call was not among those of acts that weren't broken off.
pub record Burns {F S : Type 0} (ended : Ended F S) (before now : Burn) : Type 0 where
  pub call : now.call ≡ before.call
  pub pick : now.pick ≡ before.pick
  pub uncut : UnlessBroken ended (Reached before now → ⊥)

-- Acts were made over both devices, whichever image is left, and the fuse burnt with them.
pub record MakesAt {F S : Type 0} (acts : Acts F S) (ended : Ended F S) (files : Files) (image : Files → Type 0) (files_now : Files) (next : Files → Type 0) (old new : Moment) : Type 0 where
  pub made : MadeAt acts ended files image files_now next old new
  pub burns : Burns ended old.fuse new.fuse

-- The same of devices: the transcript was `out`, and is `now`.
abbrev pub MakesOn : {D X F S : Type 0} → (D → Files) → (D → Files → Type 0) → (X → Secrets) → Acts F S → Ended F S → Devices D X → Devices D X → (out now : List Entry) → Type 0
MakesOn files image held acts ended old new out now =
    MakesAt acts ended (files old.disk.now) (image old.disk.now) (files new.disk.now) (image new.disk.now)
    (moment out (held old.secrets.now) old.fuse) (moment now (held new.secrets.now) new.fuse)

-- .. a course
abbrev pub Makes : {Dir D X F S : Type 0} → (D → Files) → (D → Files → Type 0) → (X → Secrets) → Course Dir F S → Ended F S → Devices D X → Devices D X → (out now : List Entry) → Type 0
Makes files image held course ended old new out now = MakesOn files image held (on_devices course) ended old new out now

-- its lines, whatever the devices tell
abbrev pub Tells : {Dir F S : Type 0} → Course Dir F S → Ended F S → (out now : List Entry) → Type 0
Tells course ended out now = Said (on_devices course) ended out now

-- a course that touches no device: it runs over whatever they hold, and changes nothing of it
abbrev pub Speaks : {Dir F S : Type 0} → Course Dir F S → Ended F S → (out now : List Entry) → Type 0
Speaks course ended out now = (h : Held) (f : Burn)
    → Runs (on_devices course) ended (record { out = out; held = h; fuse = f }) (record { out = now; held = h; fuse = f })
