-- What running a script promises, and on what premises.
use Rattle.std.specs.Prelude.{ℕ, List, ◌∷◌, ◌++◌, ◌≡◌, Option, None, length}
use Rattle.std.specs.FinMap.{get}
use Rattle.dkg_values.specs.declared.name.Name.TheVariants.{Plan}
use Rattle.dkg_journal.specs.Disk.{Lands}
use Rattle.dkg_journal.specs.Names.{Files}
use Rattle.dkg_journal.specs.Records.{entries}
use Rattle.dkg_store.specs.Pairs.{IsWhole}
use Rattle.dkg_secrets.specs.Secrets.{Secrets}
use Rattle.dkg_infos.specs.declared.entry.Entry.{Entry}
use Rattle.dkg_infos.specs.declared.entry.Entry.TheVariants.{Step}
use Rattle.dkg_text.specs.declared.script.Script.{Script}
use Rattle.dkg_script.specs.Readings.{SyncMaterial}
use Rattle.dkg_script.specs.Inclusion.{IsFormOfInclusion}
use Rattle.dkg_script.specs.Setting.{Setting, CutAt, setting_of}
use Rattle.dkg_script.specs.Position.{IsPlanHistory}
use Rattle.dkg_script.specs.Progress.{progress}
use Rattle.dkg_script.specs.AsCut.{setting_as_cut}
use Rattle.dkg_script.specs.Consistent.{IsConsistentScript}
use Rattle.dkg_script.specs.Due.{IsDueNow, WroteAck}
use Rattle.dkg_script.specs.Order.{InOrder}
use Rattle.dkg_script.specs.Kept.{Kept}
use Rattle.dkg_script.specs.OwnMarks.{OwnMarks}

-- THE CASES OF THE PLAN

abbrev pub with_plans : Setting → List (Option SyncMaterial) → Setting
with_plans s plans = record s { plans = plans }

abbrev pub cuts_in : Setting → List Entry → List (Option CutAt)
cuts_in s out = (progress s out).cuts

-- P in each case of what the plan may have held as the lives up to the one in hand opened
abbrev pub InEachCase : Setting → List (Option CutAt) → (Setting → Type 0) → Type 0
InEachCase s cuts P = (plans : List (Option SyncMaterial)) → IsPlanHistory (with_plans s plans) cuts → P (with_plans s plans)

-- P in the case that it was
abbrev pub InACase : Setting → List (Option CutAt) → (Setting → Type 0) → Type 0
InACase s cuts P = (plans : List (Option SyncMaterial)) × IsPlanHistory (with_plans s plans) cuts × P (with_plans s plans)

-- PREMISES

-- The devices handed in are whole, with nothing loose: a crash as the call begins leaves what a read gives.
pub record AreHonestStores (s : Setting) (image : Files → Type 0) : Type 0 where
  pub whole : IsWhole (entries s.files) s.secrets
  pub nothing_loose : Lands s.files image

-- What is built so far: the form of script that is read, and no plan.
pub record IsBuilt (s : Setting) : Type 0 where
  pub form : IsFormOfInclusion s.script
  pub no_plan : get s.files Plan ≡ None

-- The premise of the whole promise, of the stores and of the script, whose first lives ended so.
pub record IsHonestRun (s : Setting) (image : Files → Type 0) (ends : List (Option CutAt)) : Type 0 where
  pub stores : AreHonestStores s image
  pub source : InEachCase s ends (λ case. IsConsistentScript case ends)

-- COMPLETENESS

-- Where no log up to here bears an acknowledgement that this node never gave, an acknowledgement that is owed at the end
-- of the step in hand was written in it.
abbrev pub IsAnswered : Setting → (before : List Entry) → Type 0
IsAnswered s before =
    OwnMarks s before → InEachCase s (cuts_in s before) (λ case. IsDueNow case (progress s before)) → WroteAck (progress s before).written

-- every life was run to its cut or its end, and each completed step is so answered
pub record IsComplete (s : Setting) (out : List Entry) : Type 0 where
  pub all_run : length (cuts_in s out) ≡ length s.script.lives
  pub answered : (before after : List Entry) (step : ℕ) → out ≡ before ++ Step step ∷ after → IsAnswered s before

-- THE CLAUSES OF `run_lives`, over the entries that it adds

-- P of what was added to a list
abbrev pub Adds : List Entry → List Entry → (List Entry → Type 0) → Type 0
Adds old new P = (added : List Entry) × (new ≡ old ++ added) × P added

-- Whatever ends the run, and whatever the script and the devices are: the transcript is in order. (Of the devices it
-- says nothing, so that it stands for any.)
abbrev pub RunsInOrder : Script → List Entry → Type 0
RunsInOrder script out = (files : Files) (secrets : Secrets) → InOrder (setting_of script files secrets) out

-- On success, too: every life was run.
abbrev pub RunsAll : Script → List Entry → Type 0
RunsAll script out = (files : Files) (secrets : Secrets) → length (cuts_in (setting_of script files secrets) out) ≡ length script.lives

-- (The last two judge a transcript against the script as it was cut: what lies behind a cut within a step never came. That a transcript tells such a cut
-- only where the script has it is its order, `RunsInOrder`.)

-- Whatever ends the run: the transcript and the devices keep each recorded dealing. (`files` and `secrets` are what the devices held before, `image` and
-- `now` what a crash may leave of the disk before and after, and `secrets_now` what the secret store holds after.)
abbrev pub KeepsDealings : Script → Files → Secrets → (image now : Files → Type 0) → Secrets → List Entry → Type 0
KeepsDealings script files secrets image now secrets_now out =
    let s = setting_as_cut script files secrets out in
    IsBuilt s → IsHonestRun s image (cuts_in s out) → InACase s (cuts_in s out) (λ case. Kept case out now secrets_now)

-- On success: every life was run, and each dealing that was due was acknowledged.
abbrev pub AnswersDealings : Script → Files → Secrets → (image : Files → Type 0) → List Entry → Type 0
AnswersDealings script files secrets image out =
    let s = setting_as_cut script files secrets out in IsBuilt s → IsHonestRun s image (cuts_in s out) → IsComplete s out
