-- A second call stands under what the first left.
use Rattle.std.specs.Prelude.{◌≡◌, ◌<◌, ◌+◌, ◌++◌, ◌∷◌, ℕ, List, Option, None, Some, Result, length}
use Rattle.std.specs.FinMap.{get}
use Rattle.dkg_values.specs.declared.name.Name.TheVariants.{Plan}
use Rattle.dkg_ceremony.specs.declared.round.RoundParts.{RoundParts as Round}
use Rattle.dkg_journal.specs.Disk.{Lands}
use Rattle.dkg_journal.specs.Names.{Files}
use Rattle.dkg_secrets.specs.Secrets.{Secrets}
use Rattle.dkg_store.specs.Corrupt.{AreFit}
use Rattle.dkg_infos.specs.declared.entry.Entry.{Entry}
use Rattle.dkg_infos.specs.declared.entry.Entry.TheVariants.{Ack}
use Rattle.dkg_infos.specs.declared.fault.Fault.{Fault}
use Rattle.dkg_text.specs.declared.script.Script.{Script}
use Rattle.dkg_script.specs.AsCut.{as_cut, setting_as_cut}
use Rattle.dkg_script.specs.Blocks.{round_at}
use Rattle.dkg_script.specs.Consistent.{IsConsistentScript}
use Rattle.dkg_script.specs.Position.{begun}
use Rattle.dkg_script.specs.Progress.{progress}
use Rattle.dkg_script.specs.Promise.{AreHonestStores, InEachCase, IsBuilt, IsHonestRun, KeepsDealings, cuts_in}
use Rattle.dkg_script.specs.Setting.{CutAt, Setting, me, setting_of}
use Rattle.dkg_promises.specs.Complete.{AreValidDevices}
use Rattle.dkg_promises.specs.GivesBack.{GivesBack, HoldsValid, limit_in}
use Rattle.dkg_promises.specs.Over.{standing}

-- Whatever is run next, these devices are whole with nothing loose, and have no plan; their records are events within the limit, where they were before; and they are valid for the script as
-- it was cut (s), where they were, and for the script itself and however it is cut next, where they were for it and it is consistent.
pub record StandsAgain (script : Script) (s : Setting) (before image : Files → Type 0) (files : Files) (held : Secrets) : Type 0 where
  pub honest : (other : Script) → AreHonestStores (setting_of other files held) image
  pub fit : AreFit (limit_in s.script) before → AreFit (limit_in s.script) image
  pub holds : HoldsValid s s.files s.secrets → HoldsValid s files held
  pub valid : AreValidDevices s before → AreValidDevices (setting_of s.script files held) image
  pub valid_uncut : (ends : List (Option CutAt)) → IsConsistentScript (setting_of script s.files s.secrets) ends
      → AreValidDevices (setting_of script s.files s.secrets) before → AreValidDevices (setting_of script files held) image
  pub valid_anyhow : (ends : List (Option CutAt)) → IsConsistentScript (setting_of script s.files s.secrets) ends
      → AreValidDevices (setting_of script s.files s.secrets) before → (cuts : List (Option CutAt)) → AreValidDevices (setting_of (as_cut cuts script) files held) image
  pub no_plan : get files Plan ≡ None

-- a call over honest stores, of a script that is built
abbrev pub IsHonestCall : Setting → (image : Files → Type 0) → List Entry → Type 0
IsHonestCall s image added = IsBuilt s × IsHonestRun s image (cuts_in s added)

-- what holds of the devices of one disk before a call and behind it
abbrev pub GaveBack : {D : Type 0} → (D → Files) → (D → Files → Type 0) → Script → Result (Unit {0}) Fault → (old new : D) → (held held_now : Secrets) → List Entry → Type 0
GaveBack files image script result old new held held_now added =
    GivesBack script result (standing (files old) (image old) held) (standing (files new) (image new) held_now) added
    × KeepsDealings script (files old) held (image old) (image new) held_now added

-- BEHIND A CALL over honest stores, whatever ended it, each disk with nothing loose that reads as one of what a crash then leaves stands under the same premises: at Ok the disk
-- itself, and behind want of memory or a fault one that was stopped, or made firm.
abbrev pub RunsAgain : {D : Type 0} → (D → Files) → (D → Files → Type 0) → Type 0
RunsAgain {D} files image = (script : Script) (result : Result (Unit {0}) Fault) (old new next : D) (held held_now : Secrets) (added : List Entry)
    → IsHonestCall (setting_as_cut script (files old) held added) (image old) added → GaveBack files image script result old new held held_now added
    → image new (files next) → Lands (files next) (image next)
    → StandsAgain script (setting_as_cut script (files old) held added) (image old) (image next) (files next) held_now

-- TWO CALLS over the same devices

-- a call over honest stores, of a script that is built, and what it keeps
abbrev pub KeptBy : {D : Type 0} → (D → Files) → (D → Files → Type 0) → Script → (old new : D) → (held held_now : Secrets) → List Entry → Type 0
KeptBy files image script old new held held_now added =
    IsHonestCall (setting_as_cut script (files old) held added) (image old) added × KeepsDealings script (files old) held (image old) (image new) held_now added

-- The two are of one node, and where both make a round of this epoch, it is the same.
pub record IsSameNode (s t : Setting) (epoch : ℕ) : Type 0 where
  pub me : me t ≡ me s
  pub rounds : (one other : Round) → round_at s epoch ≡ Some one → round_at t epoch ≡ Some other → one ≡ other

-- by the end of these entries setup of an epoch two above has not begun
abbrev pub IsCurrent : Setting → List Entry → (epoch : ℕ) → Type 0
IsCurrent s added epoch = InEachCase s (cuts_in s added) (λ case. begun case (cuts_in s added) (length (cuts_in s added)) (progress s added).step < epoch + 2)

-- THE SECOND CALL ACKNOWLEDGES AS THE FIRST DID, if it begins with an image that the first left (at Ok with the disk itself, else with one that was stopped) and with its secrets:
-- no dealer gets two different acknowledgements of one epoch, until setup of an epoch two above has begun.
abbrev pub AcknowledgesAsBefore : {D : Type 0} → (D → Files) → (D → Files → Type 0) → Type 0
AcknowledgesAsBefore {D} files image = (one two : Script) (old new next later : D) (held held_now held_later : Secrets) (added more : List Entry)
    → KeptBy files image one old new held held_now added → image new (files next) → KeptBy files image two next later held_now held_later more
    → (before after first rest : List Entry) (epoch dealer : ℕ) (ack other : List ℕ)
    → IsSameNode (setting_as_cut one (files old) held added) (setting_as_cut two (files next) held_now more) epoch → IsCurrent (setting_as_cut one (files old) held added) added epoch
    → added ≡ before ++ Ack epoch dealer ack ∷ after → more ≡ first ++ Ack epoch dealer other ∷ rest
    → ack ≡ other
