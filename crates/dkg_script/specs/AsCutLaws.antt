-- What a script as it was cut keeps of the script.
use Rattle.std.specs.Prelude.{List, ◌++◌, ◌≡◌, Option}
use Rattle.dkg_journal.specs.Names.{Files}
use Rattle.dkg_secrets.specs.Secrets.{Secrets}
use Rattle.dkg_infos.specs.declared.entry.Entry.{Entry}
use Rattle.dkg_text.specs.declared.script.Script.{Script}
use Rattle.dkg_script.specs.Setting.{Setting, CutAt, setting_of}
use Rattle.dkg_script.specs.Epochs.{IsFormOfEpochs}
use Rattle.dkg_script.specs.Inclusion.{IsFormOfInclusion}
use Rattle.dkg_script.specs.Progress.{progress}
use Rattle.dkg_script.specs.Order.{InOrder}
use Rattle.dkg_script.specs.Consistent.{MayEndSo}
use Rattle.dkg_script.specs.Promise.{IsBuilt, IsHonestRun, cuts_in}
use Rattle.dkg_script.specs.Valid.{IsValidScript}
use Rattle.dkg_script.specs.AsCut.{as_cut, setting_as_cut, with_cuts}

-- A transcript in order comes as far over the script as it was cut, and so does each front of it: a step that was completed lies before the cut.
abbrev pub ComesAsFar : Type 0
ComesAsFar = (s : Setting) (front rest : List Entry) → InOrder s (front ++ rest)
    → progress (with_cuts (progress s (front ++ rest)).cuts s) front ≡ progress s front

-- .. and it is in order there.
abbrev pub StaysInOrderAsCut : Type 0
StaysInOrderAsCut = (s : Setting) (out : List Entry) → InOrder s out → InOrder (with_cuts (progress s out).cuts s) out

-- Of the form of epochs stays a script however its lives were cut.
abbrev pub StaysOfEpochs : Type 0
StaysOfEpochs = (ends : List (Option CutAt)) (script : Script) → IsFormOfEpochs script → IsFormOfEpochs (as_cut ends script)

-- .. and of the form of inclusion.
abbrev pub StaysOfInclusion : Type 0
StaysOfInclusion = (ends : List (Option CutAt)) (script : Script) → IsFormOfInclusion script → IsFormOfInclusion (as_cut ends script)

-- WHAT IS PRESUMED of a script is asked of it as it was cut, with the ends that the transcript has. It holds there where it holds of the script wherever
-- its cuts fall, or of the script as it is cut, however that may be.

abbrev pub HonestAnyhow : {D : Type 0} → (D → Files → Type 0) → Type 0
HonestAnyhow {D} image = (script : Script) (files : Files) (secrets : Secrets) (out : List Entry) (disk : D) → IsBuilt (setting_of script files secrets)
    → ((ends : List (Option CutAt)) → MayEndSo script.lives ends → IsHonestRun (setting_of script files secrets) (image disk) ends)
    → InOrder (setting_of script files secrets) out
    → (let s = setting_as_cut script files secrets out in IsHonestRun s (image disk) (cuts_in s out))

abbrev pub ValidAnyhow : Type 0
ValidAnyhow = (script : Script) (files : Files) (secrets : Secrets) (out : List Entry) → IsBuilt (setting_of script files secrets)
    → ((ends : List (Option CutAt)) → MayEndSo script.lives ends → IsValidScript (setting_of script files secrets) ends)
    → InOrder (setting_of script files secrets) out
    → (let s = setting_as_cut script files secrets out in IsValidScript s (cuts_in s out))

abbrev pub ValidAsCut : Type 0
ValidAsCut = (script : Script) (files : Files) (secrets : Secrets) (out : List Entry)
    → ((ends : List (Option CutAt)) → MayEndSo script.lives ends → IsValidScript (setting_of (as_cut ends script) files secrets) ends)
    → InOrder (setting_of script files secrets) out
    → (let s = setting_as_cut script files secrets out in IsValidScript s (cuts_in s out))
