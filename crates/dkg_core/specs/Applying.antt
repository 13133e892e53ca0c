-- The application: what it asks its desk, and what it prepares, proposes and verifies by any desk's answers.
use Rattle.std.specs.Prelude.{ℕ, Bool, true, false, not, List, [], ◌∷◌, ◌+◌, ◌^◌, ◌&&◌, nat_lt, Option, Some, None, is_none, if◌then◌else◌}
use Rattle.std.specs.Str.{bytes_eq}
use Rattle.dkg_types.specs.Blocks.{Block}
use Rattle.dkg_infos.specs.declared.entry.Verdict.{Verdict}
use Rattle.dkg_infos.specs.declared.entry.Verdict.TheVariants.{Accept, Reject, Unresolved}
use Rattle.dkg_types.specs.declared.payload.Payload.{Payload}
use Rattle.dkg_types.specs.declared.payload.Payload.TheVariants.{DealerLog, EpochInfo}
use Rattle.dkg_core.specs.Fixed.{Fixed}
use Rattle.dkg_core.specs.Live.{is_last_height, phase_of}
use Rattle.dkg_core.specs.Setup.{is_past_range}
use Rattle.dkg_core.specs.Blocks.{is_early}
use Rattle.dkg_core.specs.Including.{payload_bytes}

-- HEIGHTS

abbrev pub is_final_height : {Dir : Type 0} → Fixed Dir → (height : ℕ) → Bool
is_final_height c height = not (is_past_range c height) && is_last_height c height

abbrev pub is_from_midpoint : {Dir : Type 0} → Fixed Dir → (height : ℕ) → Bool
is_from_midpoint c height = not (is_past_range c height) && not (is_early (phase_of c height))

-- the parent: a block at the greatest height counts as none
abbrev pub parent_in : {Dir : Type 0} → List (Block Dir) → Option (Block Dir)
parent_in [] = None
parent_in (b ∷ bs) = if nat_lt (b.height + 1) (2 ^ 64) then Some b else None

-- THE DESK, as the application sees it

-- the own log for a height, or the info that follows an ancestry
pub data Question (Dir : Type 0) : Type 0 where
  AsksNothing : Question Dir
  AsksLog : (height : ℕ) → Question Dir
  AsksInfo : List (Block Dir) → Question Dir

pub data Answer (Dir : Type 0) : Type 0 where
  Nothing : Answer Dir
  OfLog : Option (Payload Dir) → Answer Dir
  Available : Option (Payload Dir) → Answer Dir
  Unavailable : Answer Dir

-- PREPARE: at the final height, and where a log is due, the application waits; the log is released at once.

pub data Handoff (Dir : Type 0) : Type 0 where
  Wait : Handoff Dir
  Ready : Option (Block Dir) → Handoff Dir

abbrev pub prepare_asks : {Dir : Type 0} → Fixed Dir → Option (Block Dir) → Question Dir
prepare_asks c None = AsksNothing
prepare_asks c (Some parent) =
    if is_final_height c (parent.height + 1) then AsksNothing
    else if is_from_midpoint c (parent.height + 1) then AsksLog (parent.height + 1)
    else AsksNothing

abbrev pub handed : {Dir : Type 0} → Fixed Dir → Option (Block Dir) → Answer Dir → Handoff Dir
handed c None answer = Wait
handed c (Some parent) (OfLog (Some payload)) = Wait
handed c (Some parent) answer = if is_final_height c (parent.height + 1) then Wait else Ready (c.inner.prepared parent None)

-- PROPOSE: a log of which no block is made is released.

abbrev pub propose_asks : {Dir : Type 0} → Fixed Dir → List (Block Dir) → Option (Block Dir) → Question Dir
propose_asks c ancestry None = AsksNothing
propose_asks c ancestry (Some parent) =
    if is_final_height c (parent.height + 1) then AsksInfo ancestry
    else if is_from_midpoint c (parent.height + 1) then AsksLog (parent.height + 1)
    else AsksNothing

abbrev pub proposal : {Dir : Type 0} → Fixed Dir → Option (Block Dir) → Answer Dir → Option (Block Dir)
proposal c None answer = None
proposal c (Some parent) Nothing = c.inner.proposed parent None
proposal c (Some parent) (OfLog payload) = c.inner.proposed parent payload
proposal c (Some parent) (Available payload) = c.inner.proposed parent payload
proposal c (Some parent) Unavailable = None

-- RELEASES: the log that was got goes back where no block carries it.
abbrev pub is_released : {Dir : Type 0} → Answer Dir → (made : Option (Block Dir)) → Bool
is_released (OfLog (Some payload)) made = is_none made
is_released answer made = false

-- VERIFY

abbrev pub verify_asks : {Dir : Type 0} → Fixed Dir → List (Block Dir) → Question Dir
verify_asks c [] = AsksNothing
verify_asks c (b ∷ bs) = if is_final_height c b.height then AsksInfo (b ∷ bs) else AsksNothing

abbrev pub same_payload : {Dir : Type 0} → Fixed Dir → Option (Payload Dir) → Option (Payload Dir) → Bool
same_payload c None None = true
same_payload c (Some a) (Some b) = bytes_eq (payload_bytes c a) (payload_bytes c b)
same_payload c a b = false

-- Before the final height no info is carried, and before the midpoint no log.
abbrev pub is_misplaced : {Dir : Type 0} → Fixed Dir → (height : ℕ) → Option (Payload Dir) → Bool
is_misplaced c height None = false
is_misplaced c height (Some (EpochInfo info)) = true
is_misplaced c height (Some (DealerLog log)) = not (is_from_midpoint c height)

abbrev pub inner_verdict : {Dir : Type 0} → Fixed Dir → List (Block Dir) → Verdict
inner_verdict c ancestry = if c.inner.accepts ancestry then Accept else Reject

abbrev pub verdict_by : {Dir : Type 0} → Fixed Dir → List (Block Dir) → Option (Payload Dir) → (height : ℕ) → Answer Dir → Verdict
verdict_by c ancestry payload height Unavailable = Unresolved
verdict_by c ancestry payload height (Available expected) = if same_payload c expected payload then inner_verdict c ancestry else Reject
verdict_by c ancestry payload height answer = if is_misplaced c height payload then Reject else inner_verdict c ancestry

abbrev pub verdict : {Dir : Type 0} → Fixed Dir → List (Block Dir) → Answer Dir → Verdict
verdict c [] answer = inner_verdict c []
verdict c (b ∷ bs) answer = verdict_by c (b ∷ bs) b.payload b.height answer
