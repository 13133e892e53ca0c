-- FITTING SHARES: each share that is committed is this node's in the output that its epoch's info carries; and behind an epoch that the node takes part in it stands exactly where it can.
use Rattle.std.specs.Prelude.{ℕ, zero, suc, ◌≡◌, ◌+◌, ◌-◌, ◌<◌, ◌≤◌, ◌⊎◌, ◌↔◌, ◌++◌, ◌∷◌, Bool, true, false, Contains, List, Option, Some, IsSome, IsSomeAnd, IsFalse, length, slice_get}
use Rattle.std.specs.FinMap.{get}
use Rattle.std.specs.List.{list_any}
use Rattle.dkg_ceremony.specs.PartialPublics.{partial_public_of, share_public_of}
use Rattle.dkg_ceremony.specs.declared.phase.Phase.{Phase}
use Rattle.dkg_journal.specs.Names.{Files}
use Rattle.dkg_journal.specs.Records.{entries}
use Rattle.dkg_secrets.specs.Secrets.{Secrets}
use Rattle.dkg_store.specs.Pairs.{IsWhole}
use Rattle.dkg_infos.specs.Units.{unit_spelling}
use Rattle.dkg_infos.specs.declared.entry.Entry.{Entry}
use Rattle.dkg_infos.specs.declared.entry.Entry.TheVariants.{Committed, Opened, Setup, Step}
use Rattle.dkg_infos.specs.declared.entry.Part.{Part}
use Rattle.dkg_infos.specs.declared.entry.Part.TheVariants.{Player, Both}
use Rattle.dkg_infos.specs.declared.outcome.EpochOutcome.{EpochOutcome}
use Rattle.dkg_infos.specs.declared.outcome.EpochOutcome.TheVariants.{Success, Failure}
use Rattle.dkg_text.specs.declared.script.Event.TheVariants.{Final}
use Rattle.dkg_text.specs.declared.script.Life.{Life}
use Rattle.dkg_text.specs.declared.script.Script.{Script}
use Rattle.dkg_script.specs.AsCut.{setting_as_cut}
use Rattle.dkg_script.specs.Blocks.{ScriptBlock, numbered_block, known_info}
use Rattle.dkg_script.specs.Consistent.{IsConsistentScript}
use Rattle.dkg_script.specs.History.{AreChainLogs, CarriesNext, MissesNone}
use Rattle.dkg_script.specs.Inclusion.{IsFormOfInclusion}
use Rattle.dkg_script.specs.OwnMarks.{OwnMarks}
use Rattle.dkg_script.specs.Position.{awaited_epoch, awaited_height_after, cut_of, event_of_step, life_follows, lacks_boundary}
use Rattle.dkg_script.specs.Progress.{AtEachEntry, Progress, progress}
use Rattle.dkg_script.specs.Schedule.{first, last}
use Rattle.dkg_script.specs.Setting.{CutAt, Setting, blocks_per_epoch, life_at, me}
use Rattle.dkg_script.specs.Views.{seen_provided}
use Rattle.dkg_lives.specs.Given.{provided_by}
use Rattle.dkg_promises.specs.GivesBack.{SharesFitInfos}

-- IT FITS

-- the script has the epoch's info, and this is the node's share of the output that this carries on
abbrev pub FitsCarried : Setting → (epoch share : ℕ) → Type 0
FitsCarried s epoch share = IsSomeAnd (known_info s epoch) (λ info. partial_public_of info.output (me s) ≡ Some (share_public_of share))

-- THE CLAUSE `shares` of the promise: over devices whose shares fit, of a consistent script (judged as it was cut)
abbrev pub CommitsFit : Script → Files → Secrets → List Entry → Type 0
CommitsFit script files held out = let s = setting_as_cut script files held out in
    IsFormOfInclusion s.script → IsConsistentScript s (progress s out).cuts → SharesFitInfos s s.secrets → (epoch share : ℕ) → Contains out (Committed epoch (Some share)) → FitsCarried s epoch share

-- JUST THE EPOCHS THAT A LIFE COMES INTO ARE COMMITTED

-- a life's step, behind its first events, delivers the last block of the epoch below, and that isn't behind the life yet
pub record Enters (s : Setting) (l : ℕ) (life : Life) (events epoch : ℕ) : Type 0 where
  pub number : ℕ
  pub event : slice_get life.events events ≡ Some (Final number)
  pub block : ScriptBlock
  pub block_is : numbered_block s number ≡ Some block
  pub ends_below : block.height + 1 ≡ first (blocks_per_epoch s) epoch
  pub awaited : awaited_height_after s l life events ≤ block.height

-- the steps by which a life comes into an epoch, and may store a share of it: an opening that awaits it and has the block that begins it, and the step that enters it
abbrev pub ComesInto : Setting → (l : ℕ) → Life → (step epoch : ℕ) → Type 0
ComesInto s l life zero epoch = (awaited_epoch s l life 0 ≡ epoch) × (lacks_boundary s l life ≡ false)
ComesInto s l life (suc events) epoch = Enters s l life events epoch

-- a step that was completed has told so, and no other step tells so
abbrev pub TellsCommit : Setting → Progress → Entry → Type 0
TellsCommit s p (Step step) =
    IsSomeAnd (life_at s (length p.cuts)) (λ life. (epoch : ℕ) → ComesInto s (length p.cuts) life p.step epoch → (share : Option ℕ) × Contains p.written (Committed epoch share))
TellsCommit s p (Committed epoch share) = IsSomeAnd (life_at s (length p.cuts)) (λ life. ComesInto s (length p.cuts) life p.step epoch)
TellsCommit s p _ = Unit {0}

-- THE CLAUSE `commits` of the promise: whatever the devices tell, an epoch is committed in a step by which the life comes into it, whether it takes part there or follows; and in each such step that is completed.
-- (Of the devices it says nothing, so that it stands for any.)
abbrev pub CommitsEach : Script → List Entry → Type 0
CommitsEach script out = (files : Files) (held : Secrets) → (let s = setting_as_cut script files held out in AtEachEntry s (TellsCommit s) out)

-- IT STANDS EXACTLY, where a life behind an epoch that it takes part in commits the next

-- a line behind which an earlier setup is no more the last of its life
abbrev pub is_set_up : Entry → Bool
is_set_up (Opened life restored) = true
is_set_up (Setup epoch phase part) = true
is_set_up _ = false

-- the last setup of the life in hand: it is of this epoch, with this part
pub record WasSetUp (before : List Entry) (epoch : ℕ) (part : Part) : Type 0 where
  pub front : List Entry
  pub phase : Phase
  pub rest : List Entry
  pub is : before ≡ front ++ Setup epoch phase part ∷ rest
  pub last : IsFalse (list_any is_set_up rest)

abbrev pub PartPlays : Part → Type 0
PartPlays Player = Unit {0}
PartPlays Both = Unit {0}
PartPlays _ = ⊥

-- this node holds a share of the epoch: it was handed in, or committed by then
abbrev pub HeldShare : Setting → (before : List Entry) → (epoch : ℕ) → Type 0
HeldShare s before epoch = IsSome (get s.secrets.shares epoch) ⊎ ((share : ℕ) × Contains before (Committed epoch (Some share)))

-- An earlier life was cut within the opening or the step by which it came to the epoch: it may have stored a share of the epoch that no line tells.
pub record WasCutInto (s : Setting) (cuts : List (Option CutAt)) (epoch : ℕ) : Type 0 where
  pub l : ℕ
  pub earlier : l < length cuts
  pub life : Life
  pub life_is : life_at s l ≡ Some life
  pub at : CutAt
  pub at_is : cut_of cuts l ≡ Some at
  pub within : 0 < at.call
  pub stores : ComesInto s l life at.step epoch

-- By the outcome that the next info tells: behind a success there is a share where the node played, if its marks are known; and behind a failure where it held one.
abbrev pub StandsBy : Setting → (before : List Entry) → (epoch : ℕ) → Part → (share : Option ℕ) → (marks : Type 0) → EpochOutcome → Type 0
StandsBy s before epoch part share marks Success = marks → (IsSome share ↔ PartPlays part)
StandsBy s before epoch part share marks Failure = (HeldShare s before epoch → IsSome share) × (IsSome share → HeldShare s before epoch ⊎ WasCutInto s (progress s before).cuts epoch)

-- The life in hand set the epoch up. There is a share only where its last block is honest; and where it is, the share stands so.
abbrev pub StandsSo : Setting → (before : List Entry) → (epoch : ℕ) → (share : Option ℕ) → (honest marks : Type 0) → EpochOutcome → Type 0
StandsSo s before epoch share honest marks outcome =
    (part : Part) × WasSetUp before epoch part × (IsSome share → honest) × (honest → StandsBy s before epoch part share marks outcome)

-- the step in hand delivers the last block of an epoch that its life awaits and doesn't follow
pub record EndsEpoch (s : Setting) (p : Progress) (epoch : ℕ) : Type 0 where
  pub life : Life
  pub life_is : life_at s (length p.cuts) ≡ Some life
  pub number : ℕ
  pub event : event_of_step life p.step ≡ Some (Final number)
  pub delivers : IsSomeAnd (numbered_block s number) (λ b. b.height ≡ last (blocks_per_epoch s) epoch)
  pub awaited : awaited_epoch s (length p.cuts) life (p.step - 1) ≡ epoch
  pub takes_part : life_follows s (length p.cuts) life epoch ≡ false

-- that block carries what the chain's logs of the epoch make
abbrev pub EndsHonestly : (s : Setting) (p : Progress) (epoch : ℕ) → EndsEpoch s p epoch → Type 0
EndsHonestly s p epoch ends_it = IsSomeAnd (numbered_block s ends_it.number) (CarriesNext s (seen_provided unit_spelling (provided_by s.script)))

-- THE PREMISE of the script's past: it is consistent, the logs that were handed in are the chain's, and no block of an epoch's logs was missed. (That is a whole history, whatever blocks have one digest.)
pub record IsWholePast (s : Setting) (ends : List (Option CutAt)) : Type 0 where
  pub consistent : IsConsistentScript s ends
  pub logs : AreChainLogs s
  pub missed : MissesNone s ends

-- THE CLAUSE `exactly` of the promise: over whole devices whose shares fit, of a script with a whole past, each line that commits the epoch behind one that the life takes part in has a share just there, and
-- none where that epoch's last block carries another info than its chain's logs make. Behind a success that is so where no log up to it bears an acknowledgement that this node never gave.
abbrev pub CommitsExactly : Script → Files → Secrets → List Entry → Type 0
CommitsExactly script files held out = let s = setting_as_cut script files held out in
    IsFormOfInclusion s.script → IsWholePast s (progress s out).cuts → IsWhole (entries s.files) s.secrets → SharesFitInfos s s.secrets
    → (before after : List Entry) (epoch : ℕ) (share : Option ℕ) → out ≡ before ++ Committed (epoch + 1) share ∷ after → (ends_it : EndsEpoch s (progress s before) epoch)
    → IsSomeAnd (known_info s (epoch + 1)) (λ info. StandsSo s before epoch share (EndsHonestly s (progress s before) epoch ends_it) (OwnMarks s before) info.outcome)
