-- A run whose lives were begun, of a script whose configuration is not refused and whose payloads are bytes: what follows of its worlds for the entries that it adds.
use Rattle.std.proofs.Common.{◌≡◌, ◌++◌, List, Option, None, Result, refl}
use Rattle.std.specs.FinMap.{get}
use Rattle.dkg_values.specs.declared.name.Name.TheVariants.{Plan}
use Rattle.dkg_journal.specs.Disk.{Lands}
use Rattle.dkg_journal.specs.Names.{Files}
use Rattle.dkg_journal.specs.Records.{entries}
use Rattle.dkg_secrets.specs.Secrets.{Secrets}
use Rattle.dkg_store.specs.Acts.{Stands, at, moment}
use Rattle.dkg_store.specs.Pairs.{IsWhole}
use Rattle.dkg_infos.specs.declared.entry.Entry.{Entry}
use Rattle.dkg_infos.specs.declared.fault.Fault.{Fault}
use Rattle.dkg_text.specs.declared.script.Script.{Script}
use Rattle.dkg_script.specs.AsCut.{as_cut, setting_as_cut}
use Rattle.dkg_script.specs.Consistent.{IsConsistentScript}
use Rattle.dkg_script.specs.Inclusion.{IsFormOfInclusion}
use Rattle.dkg_script.specs.Progress.{progress}
use Rattle.dkg_script.specs.Order.{InOrder}
use Rattle.dkg_script.specs.Promise.{AnswersDealings, KeepsDealings, RunsAll, cuts_in}
use Rattle.dkg_script.specs.SameOffers.{OffersTheSame}
use Rattle.dkg_script.specs.Setting.{CutAt, Setting, setting_of}
use Rattle.dkg_script.proofs.InclusionAsCut.{inclusion_as_cut}
use Rattle.dkg_promises.specs.Answers.{AnswersThePath}
use Rattle.dkg_lives.specs.Epochs.{IsChecked}
use Rattle.dkg_lives.specs.Given.{AreBytes}
use Rattle.dkg_promises.specs.GivesBack.{StaysValid}
use Rattle.dkg_lives.specs.Lives.{RunsOver, never}
use Rattle.dkg_promises.specs.Over.{DevicesAround}
use Rattle.dkg_promises.specs.Promised.{DoesRun}
use Rattle.dkg_promises.specs.SharesStand.{CommitsExactly, CommitsFit}
use Rattle.dkg_lives.proofs.Checked.{anchor_above, long_epochs, supported_mode}
use Rattle.dkg_promises.proofs.CommitsFitting.{commits_fit}
use Rattle.dkg_promises.proofs.CutLives.{worlds_cut}
use Rattle.dkg_promises.proofs.Dealings.{answers_dealings, keeps_dealings}
use Rattle.dkg_along.proofs.EachLife.{worlds_over}
use Rattle.dkg_along.proofs.GivingLives.{run_keeps_plan}
use Rattle.dkg_promises.proofs.GivingValid.{stays_valid}
use Rattle.dkg_promises.proofs.GivingWhole.{stays_whole}
use Rattle.dkg_promises.proofs.Keeping.{IsBuiltSetting, IsGivenSetting}
use Rattle.dkg_promises.proofs.OfferingSame.{offers_the_same}
use Rattle.dkg_promises.proofs.ExactRun.{exactly_of}
use Rattle.dkg_promises.proofs.PathsRun.{paths_of}
use Rattle.dkg_lives.proofs.PlanlessReads.{planless_records, planless_secrets}

pub built_setting : (script : Script) (files : Files) (secrets : Secrets) → IsFormOfInclusion script → IsChecked script → AreBytes script.blocks → get files Plan ≡ None → IsBuiltSetting (setting_of script files secrets)
built_setting script files secrets form checked bytes no_plan = record {
  form = form;
  anchored = λ l life is. anchor_above script.blocks life.anchor (form.lives l life is).anchor;
  supported = supported_mode script checked;
  long = long_epochs script checked;
  no_plan = no_plan;
  bytes = bytes;
  heights = form.placed;
}

given_setting : (script : Script) (files : Files) (secrets : Secrets) → IsFormOfInclusion script → IsChecked script → AreBytes script.blocks → IsGivenSetting (setting_of script files secrets)
given_setting script files secrets form checked bytes = record {
  form = form;
  anchored = λ l life is. anchor_above script.blocks life.anchor (form.lives l life is).anchor;
  supported = supported_mode script checked;
  long = long_epochs script checked;
  bytes = bytes;
  heights = form.placed;
}

stands : {files : Files} {image : Files → Type 0} → image files → Lands files image → Stands files image
stands here lands = record { lands = lands; itself = here }

module _ (script : Script) (form : IsFormOfInclusion script) (checked : IsChecked script) (bytes : AreBytes script.blocks) (o : DevicesAround) (disk_of : o.tells → o.disk_tells) (answered : Result (Unit {0}) Fault) (old new added : List Entry)
    (is : new ≡ old ++ added) (runs : DoesRun script o old answered new) (itself : o.disk_tells → o.before.image o.before.files) (left : o.disk_tells → o.now.image o.now.files) where
  -- the script as these entries say that it was cut
  abbrev pub cut_script : Script
  cut_script = as_cut (progress (setting_of script o.before.files o.before.held) added).cuts script

  abbrev pub its_setting : Setting
  its_setting = setting_as_cut script o.before.files o.before.held added

  abbrev pub ends : List (Option CutAt)
  ends = cuts_in its_setting added

  pub cut_form : IsFormOfInclusion cut_script
  cut_form = inclusion_as_cut (progress (setting_of script o.before.files o.before.held) added).cuts script form

  pub cut_runs : o.tells → Stands o.before.files o.before.image → (c : Files) → o.now.image c
      → RunsOver cut_script answered o.before.files (at (moment old o.before.held never) o.before.files) (λ f. at (moment new o.now.held f) c)
  cut_runs told here c there = worlds_cut script o.before.files o.before.held answered old new added is o.now.held c (runs told here c there)

  -- DEALINGS

  pub begun_keeps : o.tells → KeepsDealings script o.before.files o.before.held o.before.image o.now.image o.now.held added
  begun_keeps told built honest =
      keeps_dealings script o.before.files o.before.image o.before.held o.now.image o.now.held answered old new added is (runs told) (itself (disk_of told)) o.now.files (left (disk_of told))
      (built_setting script o.before.files o.before.held form checked bytes built.no_plan) cut_form honest

  pub begun_answers : RunsAll cut_script added → o.tells → AnswersDealings script o.before.files o.before.held o.before.image added
  begun_answers all told built honest =
      answers_dealings script o.before.files o.before.image o.before.held o.now.image o.now.held answered old new added is (runs told) (itself (disk_of told)) o.now.files (left (disk_of told))
      (built_setting script o.before.files o.before.held form checked bytes built.no_plan) cut_form all honest

  -- OFFERS

  pub begun_offers : o.tells → Stands o.before.files o.before.image → OffersTheSame script o.before.files o.before.held added
  begun_offers told here =
      offers_the_same script o.before.files o.before.held added (λ l life seen files life_is reads. (worlds_over cut_script cut_form checked l life seen files life_is reads, planless_secrets seen reads))
      answered old new o.now.held o.now.files is (cut_runs told here o.now.files (left (disk_of told)))

  -- ANSWERS

  pub begun_paths : InOrder its_setting added → o.tells → Stands o.before.files o.before.image → AnswersThePath script o.before.files o.before.held added
  begun_paths ordered told here of_form history devices =
      paths_of its_setting (given_setting cut_script o.before.files o.before.held cut_form checked bytes) refl devices answered old new added o.now.held is history ordered o.now.files (cut_runs told here o.now.files (left (disk_of told)))

  -- SHARES

  pub begun_commits : o.tells → Stands o.before.files o.before.image → CommitsFit script o.before.files o.before.held added
  begun_commits told here =
      commits_fit script o.before.files o.before.held added (worlds_over cut_script cut_form checked) planless_secrets answered old new o.now.held o.now.files is (cut_runs told here o.now.files (left (disk_of told)))

  pub begun_exactly : InOrder its_setting added → o.tells → Stands o.before.files o.before.image → CommitsExactly script o.before.files o.before.held added
  begun_exactly ordered told here of_form history devices fit =
      exactly_of its_setting (given_setting cut_script o.before.files o.before.held cut_form checked bytes) refl devices fit planless_secrets answered old new added o.now.held is history ordered o.now.files
      (cut_runs told here o.now.files (left (disk_of told)))

  -- WHAT IS GIVEN BACK

  pub begun_plans : o.tells → Lands o.before.files o.before.image → (c : Files) → o.now.image c → get c Plan ≡ get o.before.files Plan
  begun_plans told lands c there =
      let its = runs told (stands (itself (disk_of told)) lands) c there in run_keeps_plan script (worlds_over script form checked) (λ files. files ≡ o.before.files) _ _ answered its.so

  pub begun_valid : o.tells → IsConsistentScript its_setting ends → StaysValid its_setting o.before o.now
  begun_valid told consistent =
      stays_valid its_setting ends cut_form consistent (worlds_over cut_script cut_form checked) planless_records planless_secrets bytes cut_form.placed answered o.before o.now old new (itself (disk_of told)) (cut_runs told)

  pub begun_whole : o.tells → Lands o.before.files o.before.image → IsWhole (entries o.before.files) o.before.held → (c : Files) → o.now.image c → IsWhole (entries c) o.now.held
  begun_whole told = stays_whole script (worlds_over script form checked) planless_records bytes form.placed answered o.before o.now old new (itself (disk_of told)) (runs told)

  -- .. of the script itself
  pub begun_valid_uncut : o.tells → (let t = setting_of script o.before.files o.before.held in (cuts : List (Option CutAt)) → IsConsistentScript t cuts → StaysValid t o.before o.now)
  begun_valid_uncut told cuts consistent =
      stays_valid (setting_of script o.before.files o.before.held) cuts form consistent (worlds_over script form checked) planless_records planless_secrets bytes form.placed answered o.before o.now old new (itself (disk_of told)) (runs told)
