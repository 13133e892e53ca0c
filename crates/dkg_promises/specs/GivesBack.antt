-- A call gives back its own premises.
use Rattle.std.specs.Prelude.{ℕ, List, ◌≡◌, ◌<◌, ◌^◌, Option, Some, Ok, Result, IfErr, OnOk, ⊤}
use Rattle.std.specs.FinMap.{get}
use Rattle.std.specs.Int.NonZero.{non_zero_u32_get}
use Rattle.dkg_values.specs.declared.name.Name.TheVariants.{Plan}
use Rattle.dkg_ceremony.specs.Dealings.{dealing_of}
use Rattle.dkg_ceremony.specs.Deals.{deal_of}
use Rattle.dkg_ceremony.specs.PartialPublics.{partial_public_of, share_public_of}
use Rattle.dkg_ceremony.specs.declared.round.RoundParts.{RoundParts as Round}
use Rattle.dkg_journal.specs.Disk.{Lands}
use Rattle.dkg_journal.specs.Names.{Files}
use Rattle.dkg_journal.specs.Records.{entries}
use Rattle.dkg_store.specs.Corrupt.{AreFit}
use Rattle.dkg_store.specs.Pairs.{IsWhole, Pairs}
use Rattle.dkg_secrets.specs.Secrets.{Secrets}
use Rattle.dkg_infos.specs.declared.entry.Entry.{Entry}
use Rattle.dkg_infos.specs.declared.fault.Fault.{Fault}
use Rattle.dkg_infos.specs.declared.fault.Fault.TheVariants.{Corrupt}
use Rattle.dkg_text.specs.declared.script.Script.{Script}
use Rattle.dkg_script.specs.AsCut.{setting_as_cut}
use Rattle.dkg_script.specs.Blocks.{known_info, round_at}
use Rattle.dkg_script.specs.Consistent.{IsConsistentScript}
use Rattle.dkg_script.specs.Promise.{cuts_in}
use Rattle.dkg_script.specs.Readings.{Info}
use Rattle.dkg_script.specs.Setting.{CutAt, Setting, me, recovered_from, setting_of}
use Rattle.dkg_promises.specs.Over.{DevicesStanding}

-- a fault that names no corrupt record
abbrev pub NamesNoRecord : Fault → Type 0
NamesNoRecord (Corrupt name place) = ⊥
NamesNoRecord _ = ⊤

-- the limit under which the script's node reads
abbrev pub limit_in : Script → ℕ
limit_in script = non_zero_u32_get script.config.limit

-- Each dealing among these of an epoch whose round the script has passes that round's check.
abbrev pub PassesAll : Setting → Pairs → Type 0
PassesAll s pairs = (key : ℕ × ℕ) (pair : List ℕ × ℕ) (round : Round) → key.1 < 2 ^ 32 → get pairs key ≡ Some pair → round_at s key.0 ≡ Some round → dealing_of round (me s) key.1 pair.0 pair.1 ≡ Ok tt

-- Each dealing among these of this node itself, of such an epoch, is what the seed that these secrets hold deals with some share.
abbrev pub OwnDealt : Setting → Pairs → Secrets → Type 0
OwnDealt s pairs held = (key : ℕ × ℕ) (pair : List ℕ × ℕ) → key.1 ≡ me s → get pairs key ≡ Some pair → (round : Round) → round_at s key.0 ≡ Some round
    → (seed : List ℕ) × (share : ℕ) × (privates : List (ℕ × ℕ)) × (get held.seeds key.0 ≡ Some seed) × (deal_of round (me s) (Some share) seed ≡ Ok (pair.0, privates))

-- Devices of this content are whole, and give dealings back that pass.
abbrev pub GivesPassing : Setting → Files → Secrets → Type 0
GivesPassing s files held = IsWhole (entries files) held × PassesAll s (recovered_from files held)

-- Each share that these secrets hold of an epoch whose info the script has is this node's in what that info carries on.
abbrev pub SharesFitInfos : Setting → Secrets → Type 0
SharesFitInfos s held = (epoch share : ℕ) (info : Info) → get held.shares epoch ≡ Some share → known_info s epoch ≡ Some info → partial_public_of info.output (me s) ≡ Some (share_public_of share)

-- WHAT THE DEVICES HOLD of the epochs whose infos and rounds the script has: it is whole, the dealings pass, of those this node's own are what the stored seeds deal, and the shares are this node's.
pub record HoldsValid (s : Setting) (files : Files) (held : Secrets) : Type 0 where
  pub passing : GivesPassing s files held
  pub own : OwnDealt s (recovered_from files held) held
  pub shares : SharesFitInfos s held

-- .. where it holds of what a read gives before, it does of whatever a crash leaves now
abbrev pub StaysValid : Setting → (before now : DevicesStanding) → Type 0
StaysValid s before now = Lands before.files before.image → HoldsValid s before.files before.held → (c : Files) → now.image c → HoldsValid s c now.held

pub record GivesBack (script : Script) (result : Result (Unit {0}) Fault) (before now : DevicesStanding) (added : List Entry) : Type 0 where
  -- each record that a crash leaves is whole and an event within the limit, and then no fault names a corrupt one
  pub fit : AreFit (limit_in script) before.image → AreFit (limit_in script) now.image
  pub unblamed : IfErr result (λ fault. AreFit (limit_in script) before.image → NamesNoRecord fault)
  -- at Ok nothing is loose, where nothing was
  pub firm : OnOk result (Lands before.files before.image → Lands now.files now.image)
  -- no plan where none was
  pub plan : Lands before.files before.image → (c : Files) → now.image c → get c Plan ≡ get before.files Plan
  -- where each recorded dealing had its private half, each has it now, whatever the script carries and whatever a crash leaves
  pub whole : Lands before.files before.image → IsWhole (entries before.files) before.held → (c : Files) → now.image c → IsWhole (entries c) now.held
  -- whatever a crash leaves of a run of a consistent script is whole and agrees with the script, where it did. (The script is judged as it was cut.)
  pub valid : (let s = setting_as_cut script before.files before.held added in IsConsistentScript s (cuts_in s added) → StaysValid s before now)
  -- .. and so it is of the script itself, where that is consistent (however its first lives may have ended)
  pub valid_uncut : (let s = setting_of script before.files before.held in (ends : List (Option CutAt)) → IsConsistentScript s ends → StaysValid s before now)
