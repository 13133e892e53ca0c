-- Ways in which a course may have gone: over all that the devices hold, and over the entries alone.
use Rattle.std.specs.Prelude.{ℕ, ◌<◌, ◌≡◌, ◌++◌, ◌∷◌, [], List, None}
use Rattle.dkg_journal.specs.Burn.{Burn}
use Rattle.dkg_journal.specs.Names.{Files}
use Rattle.dkg_infos.specs.declared.directory.Unit as directory
use Rattle.dkg_infos.specs.declared.entry.Entry.{Entry}
use Rattle.dkg_store.specs.Acts.{Cause, Ended, Held, World, by_cut, broken, notes, plan, says}
use Rattle.dkg_journal.specs.Operations.{journaled}
use Rattle.dkg_core.specs.Courses.{Course, EndsSo, on_devices}
use Rattle.dkg_core.specs.Live.{Live, NodeStop}
use Rattle.dkg_core.specs.Said.{Said}
use Rattle.dkg_core.specs.Seen.{Seen}
use Rattle.dkg_life.specs.Made.{Burns}
use Rattle.dkg_life.specs.Planless.{seen_planless}
use Rattle.dkg_life.specs.declared.stop.Stop.{Stop}
use Rattle.dkg_lives.specs.Ended.{by_node_stop}

-- A WAY: how a course may have gone with a fuse, how an entry is added, how both devices stop with a pick, what the reads of a life may give,
-- which files a life begins with, and how an opening goes whose journal isn't in its grammar.
pub record Way (W : Type 0) : Type 1 where
  pub goes : Course directory.Unit NodeStop (Live directory.Unit) → Ended NodeStop (Live directory.Unit) → Burn → W → W → Type 0
  pub says : W → Entry → W
  pub stops : W → (pick : ℕ) → W
  pub reads : (Held → Seen) → Type 0
  pub begins : Files → W → Type 0
  pub refuses : Stop → W → W → Type 0

-- The journal's entries, its plan and the secrets are as they were. (Its files' names may be others.)
pub record StaysHeld (old new : Held) : Type 0 where
  pub entries : notes new ≡ notes old
  pub plan : plan new ≡ plan old
  pub secrets : new.secrets ≡ old.secrets

-- It was broken off from outside.
pub record IsBroken (stop : Stop) : Type 0 where
  pub cause : Cause
  pub by : by_node_stop {S = Live directory.Unit} stop ≡ broken cause

-- over worlds: where the devices tell, and each life began with nothing loose
abbrev pub by_worlds : Way World
by_worlds = record {
  goes = λ course ended f w new. EndsSo course ended (record w { fuse = f }) new × Burns ended f new.fuse;
  says = says;
  stops = λ w pick. w;
  reads = λ seen. seen ≡ seen_planless;
  begins = λ files w. journaled files ≡ w.held.journaled;
  refuses = λ stop w new. IsBroken stop × (new.out ≡ w.out) × StaysHeld w.held new.held;
}

-- something was read, but no plan
pub record ReadsSomething (seen : Held → Seen) : Type 0 where
  pub read : Seen
  pub each : seen ≡ (λ h. read)
  pub unplanned : read.plan ≡ None

-- a transcript, and the picks with which both devices have stopped
pub record Trace : Type 0 where
  pub out : List Entry
  pub picks : List ℕ

abbrev pub trace : List Entry → (picks : List ℕ) → Trace
trace out picks = record { out = out; picks = picks }

-- over entries alone, of any devices: a cut is the fuse's
abbrev pub by_entries : Way Trace
by_entries = record {
  goes = λ course ended f t now. Said (on_devices course) ended t.out now.out × (now.picks ≡ t.picks) × (ended ≡ broken by_cut → 0 < f.call);
  says = λ t line. record t { out = t.out ++ line ∷ [] };
  stops = λ t pick. record t { picks = t.picks ++ pick ∷ [] };
  reads = ReadsSomething;
  begins = λ files t. Unit {0};
  refuses = λ stop t now. ⊥;
}
