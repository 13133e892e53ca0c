-- What the devices of a program that begins with nothing are, for any script.
use Rattle.std.specs.Prelude.{◌≡◌, None}
use Rattle.std.specs.FinMap.{empty, get}
use Rattle.dkg_values.specs.declared.name.Name.{Name}
use Rattle.dkg_journal.specs.Names.{Files}
use Rattle.dkg_secrets.specs.Secrets.{Secrets}
use Rattle.dkg_text.specs.declared.script.Script.{Script}
use Rattle.dkg_script.specs.Promise.{AreHonestStores}
use Rattle.dkg_script.specs.Setting.{setting_of}
use Rattle.dkg_promises.specs.Complete.{AreValidDevices}

-- There is no file, so no plan, and no secret. So the premises on devices hold, whatever the script: they are whole with nothing loose, and valid.
pub record AreFresh (files : Files) (image : Files → Type 0) (held : Secrets) : Type 0 where
  pub no_file : (name : Name) → get files name ≡ None
  pub no_secret : held ≡ record { shares = empty; seeds = empty; privates = empty }
  pub honest : (script : Script) → AreHonestStores (setting_of script files held) image
  pub valid : (script : Script) → AreValidDevices (setting_of script files held) image
