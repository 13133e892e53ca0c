-- What running the lives of a script promises, whatever ends it.
use Rattle.std.specs.Prelude.{[], ◌++◌, ◌≡◌, ℕ, IfErr, List, OnOk, Result}
use Rattle.dkg_journal.specs.Names.{Files}
use Rattle.dkg_store.specs.Acts.{Stands, at, moment}
use Rattle.dkg_infos.specs.declared.entry.Entry.{Entry}
use Rattle.dkg_infos.specs.declared.fault.Fault.{Fault}
use Rattle.dkg_infos.specs.declared.fault.Fault.TheVariants.{NoMemory}
use Rattle.dkg_text.specs.declared.script.Script.{Script}
use Rattle.dkg_script.specs.AsCut.{setting_as_cut}
use Rattle.dkg_script.specs.SameOffers.{OffersTheSame}
use Rattle.dkg_script.specs.Promise.{AnswersDealings, KeepsDealings, RunsAll, RunsInOrder, cuts_in}
use Rattle.dkg_promises.specs.Answers.{AnswersSo, AnswersThePath}
use Rattle.dkg_promises.specs.Complete.{IsSoundRun, IsValidAsCut}
use Rattle.dkg_lives.specs.Blamed.{BlamesSo}
use Rattle.dkg_script.specs.Ends.{EndsScript}
use Rattle.dkg_lives.specs.Epochs.{IsChecked, refused_config}
use Rattle.dkg_promises.specs.Found.{EachFault, IsFoundRecord, ShowsCause}
use Rattle.dkg_promises.specs.GivesBack.{GivesBack, limit_in}
use Rattle.dkg_promises.specs.Leaves.{LeavesSo}
use Rattle.dkg_lives.specs.Lives.{AnyFiles, RunsOver, RunsSo, never}
use Rattle.dkg_promises.specs.Over.{DevicesAround}
use Rattle.dkg_promises.specs.Refusals.{BlamesOnlySkips}
use Rattle.dkg_promises.specs.SharesStand.{CommitsEach, CommitsExactly, CommitsFit}
use Rattle.dkg_lives.specs.Ways.{by_entries, trace}

-- THE ENTRIES are those of a node run of the script, whatever the devices tell: a step that is ended early gives a front of its entries. Each life's end
-- stopped both devices, each with its pick. (`out` and `new` are the transcript before and behind.)
pub record SaysRun (script : Script) (o : DevicesAround) (out : List Entry) (result : Result (Unit {0}) Fault) (new : List Entry) : Type 0 where
  pub picks : List ℕ
  pub stopped : o.disk_tells → o.stopped picks
  pub run : RunsSo by_entries script AnyFiles (trace out []) result (trace new picks)

-- THE NODE RAN over devices that tell and of which nothing was loose, whatever image a crash leaves now: each life from what the one before left, and cut
-- exactly where its step makes so many calls.
abbrev pub DoesRun : Script → DevicesAround → (out : List Entry) → Result (Unit {0}) Fault → (new : List Entry) → Type 0
DoesRun script o out result new = o.tells → Stands o.before.files o.before.image → (c : Files) → o.now.image c
    → RunsOver script result o.before.files (at (moment out o.before.held never) o.before.files) (λ f. at (moment new o.now.held f) c)

-- WHAT FOLLOWS for the entries that are added
pub record Promised (script : Script) (o : DevicesAround) (result : Result (Unit {0}) Fault) (added : List Entry) : Type 0 where
  -- Whatever ends the run, the entries are in order, and at Ok every life was run.
  pub in_order : RunsInOrder script added
  pub all : OnOk result (RunsAll script added)
  -- A fault is the last of them, the only one, and one that can be told; a device's is told where its count rose, and a configuration that is refused before all lives.
  pub ends : EndsScript (refused_config script) result added o.disk_rose o.secrets_rose
  -- Whatever the devices tell, each fault has its cause in the step in hand, by the script or by the node's own state, and no completed step has one by the script.
  pub blamed : IsChecked script → BlamesSo script added
  -- A corrupt record that a fault names is found on the devices as the call leaves them, and so are the dealings that it blames.
  pub corrupt : o.disk_tells → EachFault (IsFoundRecord (limit_in script) o.now.files) added
  pub found : o.tells → Stands o.before.files o.before.image → EachFault (ShowsCause script o.now.files o.now.held) added
  -- From here on the script is judged as it was cut, but where the devices need not tell. In a consistent one no block is refused but one that skips a height, or that lies outside the window.
  pub skips : IfErr result (λ fault. o.tells → (let s = setting_as_cut script o.before.files o.before.held added in BlamesOnlySkips s o.before.image (cuts_in s added) fault))
  -- The transcript and the devices keep each recorded dealing; and at Ok each dealing that was due was acknowledged.
  pub kept : o.tells → KeepsDealings script o.before.files o.before.held o.before.image o.now.image o.now.held added
  pub answered : OnOk result (o.tells → AnswersDealings script o.before.files o.before.held o.before.image added)
  -- To a player of an epoch one half alone is offered.
  pub offers : o.tells → Stands o.before.files o.before.image → OffersTheSame script o.before.files o.before.held added
  -- Whatever the devices tell, each answer of a final block's request is of one that was asked and isn't cancelled: what follows the logs that were asked for, or why there is none.
  pub answers : AnswersSo script added
  -- .. and a completed step of a life that takes part, past its epoch's midpoint, leaves no request open unless a verification runs or the oldest one that is open still needs blocks.
  pub leaves : LeavesSo script added
  -- Where the past is whole, the logs of an available answer are those of one linked path of blocks.
  pub paths : o.tells → Stands o.before.files o.before.image → AnswersThePath script o.before.files o.before.held added
  -- Whatever the devices tell, an epoch is committed in a step by which a life comes into it, and in each such step that is completed.
  pub commits : CommitsEach script added
  -- Each share that is committed is this node's in the output that its epoch's info carries.
  pub shares : o.tells → Stands o.before.files o.before.image → CommitsFit script o.before.files o.before.held added
  -- .. and, where the past is whole, it stands exactly: behind an epoch that a life takes part in there is one just where the ceremony succeeded and the node played, or failed and the node held one.
  pub exactly : o.tells → Stands o.before.files o.before.image → CommitsExactly script o.before.files o.before.held added
  -- A valid script over valid devices, of which no count rises, is run to its end, unless memory runs out.
  pub complete : IfErr result (λ fault. IsSoundRun o (IsValidAsCut script added) → fault ≡ NoMemory)
  -- A second call stands under what this one leaves.
  pub gives_back : o.tells → GivesBack script result o.before o.now added

-- ALL OF IT, for whoever hands it on
pub record RunsLives (script : Script) (o : DevicesAround) (out : List Entry) (result : Result (Unit {0}) Fault) (added : List Entry) : Type 0 where
  pub lines : SaysRun script o out result (out ++ added)
  pub run : DoesRun script o out result (out ++ added)
  pub promise : Promised script o result added
