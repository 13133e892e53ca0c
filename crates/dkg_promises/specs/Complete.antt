-- When a run comes to its end: a valid script over valid devices, of which none fails.
use Rattle.std.specs.Prelude.{List, Option}
use Rattle.std.specs.Int.NonZero.{non_zero_u32_get}
use Rattle.dkg_journal.specs.Names.{Files}
use Rattle.dkg_store.specs.Corrupt.{AreFit}
use Rattle.dkg_infos.specs.declared.entry.Entry.{Entry}
use Rattle.dkg_text.specs.declared.script.Script.{Script}
use Rattle.dkg_script.specs.AsCut.{as_cut, setting_as_cut}
use Rattle.dkg_script.specs.Consistent.{MayEndSo}
use Rattle.dkg_script.specs.Promise.{AreHonestStores, IsBuilt, cuts_in}
use Rattle.dkg_script.specs.Setting.{CutAt, Setting, setting_of}
use Rattle.dkg_lives.specs.Epochs.{IsChecked}
use Rattle.dkg_promises.specs.Over.{DevicesAround, DevicesStanding}
use Rattle.dkg_script.specs.Valid.{AgreesWith, IsValidScript}

-- The devices handed in are whole, with nothing loose. Their records are events within the script's limit, and what they hold agrees with the script.
pub record AreValidDevices (s : Setting) (image : Files → Type 0) : Type 0 where
  pub stores : AreHonestStores s image
  pub fit : AreFit (non_zero_u32_get s.script.config.limit) image
  pub agree : AgreesWith s s.files s.secrets

-- a valid script, of what is built, whose configuration is not refused and whose first lives ended so, over valid devices
pub record IsValidRun (s : Setting) (image : Files → Type 0) (ends : List (Option CutAt)) : Type 0 where
  pub built : IsBuilt s
  pub checked : IsChecked s.script
  pub script : IsValidScript s ends
  pub devices : AreValidDevices s image

-- .. of a script as it was cut, by these entries
abbrev pub IsValidAsCut : Script → List Entry → DevicesStanding → Type 0
IsValidAsCut script entries before = let s = setting_as_cut script before.files before.held entries in IsValidRun s before.image (cuts_in s entries)

-- .. and of a script as it is cut, however that may be
abbrev pub IsValidAnyhow : Script → DevicesStanding → Type 0
IsValidAnyhow script before =
    (ends : List (Option CutAt)) → MayEndSo script.lives ends → IsValidRun (setting_of (as_cut ends script) before.files before.held) before.image ends

-- It is valid in this sense, the devices tell, and no count of theirs rose.
pub record IsSoundRun (o : DevicesAround) (Valid : DevicesStanding → Type 0) : Type 0 where
  pub tells : o.tells
  pub valid : Valid o.before
  pub no_disk_rose : o.disk_rose → ⊥
  pub no_secrets_rose : o.secrets_rose → ⊥
