-- An opening's parts.
use Rattle.std.specs.Prelude.{◌≡◌, ◌+◌, ℕ, List, Option, None, OnOk, Result, length, map}
use Rattle.std.specs.Option.{option_map_or}
use Rattle.std.specs.Int.NonZero.{non_zero_u64_get}
use Rattle.dkg_ceremony.specs.Schedule.{epoch_of}
use Rattle.dkg_journal.specs.Disk.{ImagesFollow}
use Rattle.dkg_journal.specs.Names.{Files}
use Rattle.dkg_journal.specs.Opening.{first_break, open_calls}
use Rattle.dkg_journal.specs.Operations.{Bars, Opens}
use Rattle.dkg_journal.specs.Steps.{Keeps}
use Rattle.dkg_store.specs.Acts.{OnDisk, Held}
use Rattle.dkg_core.specs.Seen.{Seen}
use Rattle.dkg_store.specs.Corrupt.{IsAlien}
use Rattle.dkg_store.specs.Recorded.{restored_of}
use Rattle.dkg_secrets.specs.Secrets.{Secrets}
use Rattle.dkg_infos.specs.declared.entry.Entry.{Entry}
use Rattle.dkg_infos.specs.declared.entry.Entry.TheVariants.{Opened}
use Rattle.dkg_infos.specs.declared.fault.Fault.{Fault}
use Rattle.dkg_core.specs.Courses.{Course, Say, Do, Ask, Goes}
use Rattle.dkg_core.specs.Fixed.{Fixed}
use Rattle.dkg_core.specs.Live.{Records}
use Rattle.dkg_core.specs.Sources.{SourceAnswers, Tip, startup}
use Rattle.dkg_life.specs.declared.config.Terms.{Terms}
use Rattle.dkg_life.specs.declared.stop.Stop.{Stop}
use Rattle.dkg_life.specs.Given.{IsLent, ReadsPlanless}
use Rattle.dkg_life.specs.Planless.{IsBareOpening}

-- Every record is whole, and every body an event within the limit. (Where one isn't, the journal is not opened: `corrupt` says which.)
pub record IsInGrammar (limit : ℕ) (files : Files) : Type 0 where
  pub whole : first_break files ≡ None
  pub events : IsAlien limit files None

-- the barrier, the journal's opening, and the line with what was restored
abbrev pub opens_store : {Dir : Type 0} → (seen : Held → Seen) → (life calls : ℕ) → Course Dir Fault Records
opens_store seen life calls =
    Do (OnDisk Bars) (Do (OnDisk (Opens calls)) (Ask (λ h. Say (Opened life (map restored_of (seen h).dealings))
    (Goes (record { dealings = (seen h).dealings; acks = (seen h).acks; logs = (seen h).logs })))))

-- where a life starts that is lent this source
abbrev pub startup_of : {Dir : Type 0} → SourceAnswers Dir → Option Tip
startup_of source = startup source.anchor None

-- the epoch that is awaited above a position
abbrev pub epoch_above : Terms → Option Tip → ℕ
epoch_above terms tip = epoch_of (non_zero_u64_get terms.blocks_per_epoch) (option_map_or (λ t. t.height + 1) tip 0)

-- .. where such a life starts
abbrev pub epoch_at : {Dir : Type 0} → SourceAnswers Dir → Terms → ℕ
epoch_at source terms = epoch_above terms (startup_of source)

-- A Fixed of an opening without material, over files in their grammar, whose opening makes as many mending calls as the Fixed says.
pub record IsOpeningOf {Dir : Type 0} (terms : Terms) (source : SourceAnswers Dir) (life word : ℕ) (files : Files) (c : Fixed Dir) : Type 0 where
  pub lent : IsLent terms source word c
  pub bare : IsBareOpening c
  pub reads : ReadsPlanless c
  pub life_is : c.life ≡ life
  pub calls_are : c.opening_calls ≡ length (open_calls files)
  pub grammar : IsInGrammar c.limit files

-- Each image keeps the entries and the plan of one from before, and the secrets are as they were.
pub record StaysShut (image next : Files → Type 0) (held held_now : Secrets) : Type 0 where
  pub images : ImagesFollow Keeps image next
  pub same : held_now ≡ held

-- A journal that is not in its grammar is not opened: nothing is told then, and all stays.
pub record OpensReadable {T : Type 0} (Readable : Type 0) (result : Result T Stop) (out now : List Entry) (image next : Files → Type 0) (held held_now : Secrets) : Type 0 where
  pub ok : OnOk result Readable
  pub untold : (Readable → ⊥) → now ≡ out
  pub shut : (Readable → ⊥) → StaysShut image next held held_now
