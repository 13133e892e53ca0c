-- The promise of the dealings, of a run of a script over many epochs, judged against the script as it was cut.
use Rattle.std.proofs.Common.{◌≡◌, ◌++◌, List}
use Rattle.std.specs.Prelude.{Result}
use Rattle.dkg_journal.specs.Names.{Files}
use Rattle.dkg_secrets.specs.Secrets.{Secrets}
use Rattle.dkg_infos.specs.declared.entry.Entry.{Entry}
use Rattle.dkg_infos.specs.declared.fault.Fault.{Fault}
use Rattle.dkg_text.specs.declared.script.Script.{Script}
use Rattle.dkg_store.specs.Acts.{Stands, at, moment}
use Rattle.dkg_script.specs.AsCut.{as_cut, setting_as_cut}
use Rattle.dkg_script.specs.Inclusion.{IsFormOfInclusion}
use Rattle.dkg_script.specs.Kept.{Kept}
use Rattle.dkg_script.specs.Progress.{progress}
use Rattle.dkg_script.specs.Promise.{InACase, IsComplete, IsHonestRun, RunsAll, cuts_in}
use Rattle.dkg_script.specs.Setting.{setting_of}
use Rattle.dkg_lives.specs.Lives.{RunsOver, never}
use Rattle.dkg_promises.proofs.CutLives.{worlds_cut}
use Rattle.dkg_promises.proofs.Keeping.{IsBuiltSetting, answered_of, built_as_cut, kept_of}

module _ (script : Script) (files : Files) (image : Files → Type 0) (secrets : Secrets) (now : Files → Type 0) (secrets_now : Secrets) (answered : Result (Unit {0}) Fault) (old new added : List Entry) (is : new ≡ old ++ added)
    (runs : Stands files image → (c : Files) → now c → RunsOver script answered files (at (moment old secrets never) files) (λ f. at (moment new secrets_now f) c)) (itself : image files) (left : Files) (is_left : now left)
    (built : IsBuiltSetting (setting_of script files secrets)) (form : IsFormOfInclusion (as_cut (progress (setting_of script files secrets) added).cuts script)) where
  abbrev cut_script : Script
  cut_script = as_cut (progress (setting_of script files secrets) added).cuts script

  built_so : IsBuiltSetting (setting_of cut_script files secrets)
  built_so = built_as_cut script files secrets (progress (setting_of script files secrets) added).cuts form built

  runs_so : Stands files image → (c : Files) → now c → RunsOver cut_script answered files (at (moment old secrets never) files) (λ f. at (moment new secrets_now f) c)
  runs_so stands c there = worlds_cut script files secrets answered old new added is secrets_now c (runs stands c there)

  -- Whatever ends the run: the transcript and the devices keep each recorded dealing.
  pub keeps_dealings : (let s = setting_as_cut script files secrets added in IsHonestRun s image (cuts_in s added) → InACase s (cuts_in s added) (λ case. Kept case added now secrets_now))
  keeps_dealings honest = kept_of cut_script files image secrets now secrets_now answered old new added is runs_so itself left is_left built_so honest

  -- On success: every life was run, and each dealing that was due was acknowledged.
  pub answers_dealings : RunsAll cut_script added → (let s = setting_as_cut script files secrets added in IsHonestRun s image (cuts_in s added) → IsComplete s added)
  answers_dealings all honest = answered_of cut_script files image secrets now secrets_now answered old new added is runs_so itself left is_left built_so honest all
