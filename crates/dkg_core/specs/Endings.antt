-- The words in which it is told how openings and steps end: where a course comes to, what an opening begins with, and what a step leaves of the tip.
use Rattle.std.specs.Prelude.{◌≡◌, ◌||◌, ℕ, true, false, not, nat_le, Option, Some, None, IsSomeAnd, Result, if◌then◌else◌}
use Rattle.std.specs.Option.{option_map_or}
use Rattle.dkg_ceremony.specs.declared.phase.Phase.{Phase}
use Rattle.dkg_ceremony.specs.declared.phase.Phase.TheVariants.{Early, Midpoint, Late}
use Rattle.dkg_ceremony.specs.declared.round.RoundParts.{RoundParts as Round}
use Rattle.dkg_ceremony.specs.Schedule.{epoch_of, boundary}
use Rattle.dkg_types.specs.Blocks.{Block}
use Rattle.dkg_types.specs.BlockCodes.{info_of}
use Rattle.dkg_infos.specs.declared.info.EpochInfo.{EpochInfo}
use Rattle.dkg_infos.specs.declared.participants.ParticipantsError.{ParticipantsError}
use Rattle.dkg_infos.specs.Validation.{validation}
use Rattle.dkg_store.specs.Acts.{Held, Ended, went, stopped, broken}
use Rattle.dkg_core.specs.Courses.{Course, Say, Do, CallOutside, Ask, Goes, Stops}
use Rattle.dkg_core.specs.Sources.{Tip}
use Rattle.dkg_core.specs.Fixed.{Fixed, has}
use Rattle.dkg_core.specs.Live.{Live, Orchestrator, Stage, Deals, Includes, Seat, Plays, Watches, Message, Mailed, Finalized, records_of_epoch, with_orchestrator}
use Rattle.dkg_core.specs.Logs.{logs_of}
use Rattle.dkg_core.specs.Setup.{is_lost, participants_of}
use Rattle.dkg_core.specs.Entering.{HalfAnswer, AcknowledgesBlock, Withholds}
use Rattle.dkg_core.specs.Laws.{start_of}

-- WHERE A COURSE COMES TO: each fault that it may stop by, and each end that it may go to, whatever is read

abbrev pub ComesTo : {Dir F S : Type 0} → (stops : F → Type 0) → (goes : S → Type 0) → Course Dir F S → Type 0
ComesTo stops goes (Say line course) = ComesTo stops goes course
ComesTo stops goes (Do op course) = ComesTo stops goes course
ComesTo stops goes (CallOutside outer course) = ComesTo stops goes course
ComesTo stops goes (Ask f) = (h : Held) → ComesTo stops goes (f h)
ComesTo stops goes (Goes end) = goes end
ComesTo stops goes (Stops fault) = stops fault

-- .. and where it came to
abbrev pub CameTo : {F S : Type 0} → (stops : F → Type 0) → (goes : S → Type 0) → Ended F S → Type 0
CameTo stops goes (went end) = goes end
CameTo stops goes (stopped fault) = stops fault
CameTo stops goes (broken cause) = Unit {0}

-- AN EPOCH

-- the stage that a phase begins with
abbrev pub stage_in : Phase → Stage
stage_in Early = Deals
stage_in Midpoint = Includes
stage_in Late = Includes

-- AN OPENING

-- the awaited epoch
abbrev pub first_epoch : {Dir : Type 0} → Fixed Dir → ℕ
first_epoch c = epoch_of c.blocks_per_epoch (start_of c)

-- its boundary block
abbrev pub first_block : {Dir : Type 0} → Fixed Dir → Option (Block Dir)
first_block c = c.source.block (boundary c.blocks_per_epoch (first_epoch c))

abbrev pub validity : {Dir : Type 0} → Fixed Dir → EpochInfo Dir → Result (Unit {0}) ParticipantsError
validity c info = validation (participants_of info) c.limit (Some info.output) info.epoch

-- P of the info that the boundary block carries
abbrev pub OnInfo : {Dir : Type 0} → Fixed Dir → (EpochInfo Dir → Type 0) → Type 0
OnInfo {Dir} c P = IsSomeAnd (first_block c) (λ b. IsSomeAnd (info_of b.payload) P)

-- whether this node plays
abbrev pub seat_in : {Dir : Type 0} → Fixed Dir → Round → Live Dir → Seat
seat_in c round st = if not (has round.players c.me) || is_lost c round (records_of_epoch round.number st.records.dealings) (logs_of st round.number) then Watches else Plays

-- the orchestrator behind an opening: it halted without the boundary block, and else has entered the awaited epoch
abbrev pub HasEntered : {Dir : Type 0} → Fixed Dir → Orchestrator Dir → Option (Block Dir) → Type 0
HasEntered c o None = o.halted ≡ true
HasEntered c o (Some b) = (o.entered ≡ Some (first_epoch c)) × (o.halted ≡ false)

-- .. which waits for nothing, its fence is as open as it was, and nothing else was changed
pub record IsEntered {Dir : Type 0} (c : Fixed Dir) (st end : Live Dir) : Type 0 where
  pub entered : HasEntered c end.orchestrator (first_block c)
  pub unawaited : end.orchestrator.waiting ≡ None
  pub unclosed : end.orchestrator.fence.closed ≡ st.orchestrator.fence.closed
  pub same : end ≡ with_orchestrator end.orchestrator st

-- A STEP

-- the tip behind a message that is not refused: a block at or below it does nothing
abbrev pub tip_behind : {Dir : Type 0} → Message Dir → Option Tip → Option Tip
tip_behind (Finalized b) tip = if option_map_or (λ t. nat_le b.height t.height) tip false then tip else Some (record { height = b.height; digest = b.digest })
tip_behind (Mailed mail) tip = tip

-- which half-answer an epoch's engine gives to a block below its last
abbrev pub answer_in : Option ℕ → HalfAnswer
answer_in None = Withholds
answer_in (Some epoch) = AcknowledgesBlock
