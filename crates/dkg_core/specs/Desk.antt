-- The script's desk, and the application's events over it.
use Rattle.std.specs.Prelude.{ℕ, zero, suc, Bool, false, List, [], ◌∷◌, ◌+◌, ◌-◌, ◌^◌, ◌==◌, ◌&&◌, ◌||◌, length, Option, Some, None, is_some, option_map, if◌then◌else◌}
use Rattle.std.specs.Option.{option_map_or}
use Rattle.std.specs.List.{list_any}
use Rattle.dkg_values.specs.Rising.{lookup}
use Rattle.dkg_types.specs.Blocks.{Block}
use Rattle.dkg_types.specs.BlockCodes.{block_bytes}
use Rattle.dkg_infos.specs.declared.entry.Entry.TheVariants.{Prepared, Proposed, Verdict}
use Rattle.dkg_infos.specs.declared.entry.PreparedLine.{PreparedLine}
use Rattle.dkg_infos.specs.declared.entry.PreparedLine.TheVariants as prepared
use Rattle.dkg_infos.specs.declared.entry.Why.TheVariants as causes
use Rattle.dkg_infos.specs.declared.fault.Fault.{Fault}
use Rattle.dkg_core.specs.Courses.{Course, Say, Goes, bind}
use Rattle.dkg_core.specs.Fixed.{Fixed}
use Rattle.dkg_core.specs.Live.{Live, RequestAnswer, GaveLog, GaveInfo}
use Rattle.dkg_core.specs.Including.{serves_log, releases, asks_request, feeds_request, ends_request, cancels, works, answers_none}
use Rattle.dkg_core.specs.Applying.{Question, AsksNothing, AsksLog, AsksInfo, Answer, Nothing, OfLog, Available, Unavailable, Handoff, Wait, Ready, parent_in, prepare_asks, handed, propose_asks, proposal, is_released, verify_asks, verdict}

-- THE NUMBER OF A REQUEST: the greatest that no request of the life had

-- the greatest number from n down that isn't among these
abbrev pub unused : (most n : ℕ) → List ℕ → ℕ
unused zero n used = n
unused (suc most) n used = if list_any (λ u. u == n) used then unused most (n - 1) used else n

abbrev pub desk_number : {Dir : Type 0} → Live Dir → ℕ
desk_number st = unused (length st.inclusion.used) (2 ^ 64 - 1) st.inclusion.used

-- WHAT A REQUEST WAS TOLD

abbrev pub log_told : {Dir : Type 0} → Option (RequestAnswer Dir) → Answer Dir
log_told (Some (GaveLog payload)) = OfLog payload
log_told other = OfLog None

abbrev pub info_told : {Dir : Type 0} → Option (RequestAnswer Dir) → Answer Dir
info_told (Some (GaveInfo payload)) = Available payload
info_told other = Unavailable

abbrev pub told_to : {Dir : Type 0} → (request : ℕ) → Live Dir → Option (RequestAnswer Dir)
told_to request st = lookup request st.inclusion.told

-- how an event goes on with the desk's answer
abbrev pub OnAnswer : Type 0 → Type 0
OnAnswer Dir = Answer Dir → Live Dir → Course Dir Fault (Live Dir)

-- The desk asks for the own log.
abbrev pub asks_log : {Dir : Type 0} → Fixed Dir → (height : ℕ) → OnAnswer Dir → Live Dir → Course Dir Fault (Live Dir)
asks_log c height next st =
    let request = desk_number st in
    bind (serves_log c request height st) (λ st. next (log_told (told_to request st)) st)

abbrev pub is_open : {Dir : Type 0} → (request : ℕ) → Live Dir → Bool
is_open request st = list_any (λ r. r.number == request) st.inclusion.queue || option_map_or (λ n. n == request) st.inclusion.waiter false

abbrev pub feeds_all : {Dir : Type 0} → Fixed Dir → (request : ℕ) → List (Block Dir) → Live Dir → Course Dir Fault (Live Dir)
feeds_all c request [] st = ends_request c request st
feeds_all c request (b ∷ bs) st = bind (feeds_request c request b st) (λ st. feeds_all c request bs st)

-- It works until the answer, at most so often.
abbrev pub works_for : {Dir : Type 0} → Fixed Dir → (request most : ℕ) → Live Dir → Course Dir Fault (Live Dir)
works_for c request zero st = Goes st
works_for c request (suc most) st =
    if is_open request st && is_some st.inclusion.running then bind (works c None st) (λ st. works_for c request most st) else Goes st

-- What still waits then is withdrawn.
abbrev pub withdraws : {Dir : Type 0} → Fixed Dir → (request : ℕ) → Live Dir → Course Dir Fault (Live Dir)
withdraws c request st = if is_open request st then bind (cancels c request st) (λ st. answers_none request causes.Held st) else Goes st

-- The desk asks for the info that follows an ancestry.
abbrev pub asks_info : {Dir : Type 0} → Fixed Dir → List (Block Dir) → OnAnswer Dir → Live Dir → Course Dir Fault (Live Dir)
asks_info c ancestry next st =
    let request = desk_number st in
    bind (asks_request c request st) (λ st. bind (feeds_all c request ancestry st) (λ st.
    bind (works_for c request (length st.inclusion.queue + 2) st) (λ st. bind (withdraws c request st) (λ st. next (info_told (told_to request st)) st))))

abbrev pub asks_desk : {Dir : Type 0} → Fixed Dir → Question Dir → OnAnswer Dir → Live Dir → Course Dir Fault (Live Dir)
asks_desk c AsksNothing next st = next Nothing st
asks_desk c (AsksLog height) next st = asks_log c height next st
asks_desk c (AsksInfo ancestry) next st = asks_info c ancestry next st

-- THE APPLICATION'S EVENTS

abbrev pub block_spelled : {Dir : Type 0} → Fixed Dir → Block Dir → List ℕ
block_spelled c b = block_bytes c.directories.spelling b.context b.parent b.height b.payload

abbrev pub prepared_line : {Dir : Type 0} → Fixed Dir → Handoff Dir → PreparedLine
prepared_line c Wait = prepared.Wait
prepared_line c (Ready made) = prepared.Ready (option_map (block_spelled c) made)

-- the height that a block on this parent has
abbrev pub height_on : {Dir : Type 0} → Option (Block Dir) → ℕ
height_on parent = option_map_or (λ b. b.height + 1) parent 0

abbrev pub released_if : {Dir : Type 0} → Bool → (height : ℕ) → Live Dir → Live Dir
released_if is_released height st = if is_released then releases height st else st

abbrev pub prepares : {Dir : Type 0} → Fixed Dir → List (Block Dir) → Live Dir → Course Dir Fault (Live Dir)
prepares c ancestry st =
    let parent = parent_in ancestry in
    asks_desk c (prepare_asks c parent)
    (λ answer st. Say (Prepared (prepared_line c (handed c parent answer))) (Goes (released_if (is_released answer None) (height_on parent) st))) st

abbrev pub proposes : {Dir : Type 0} → Fixed Dir → List (Block Dir) → Live Dir → Course Dir Fault (Live Dir)
proposes c ancestry st =
    let parent = parent_in ancestry in
    asks_desk c (propose_asks c ancestry parent)
    (λ answer st. let made = proposal c parent answer in Say (Proposed (option_map (block_spelled c) made)) (Goes (released_if (is_released answer made) (height_on parent) st))) st

abbrev pub verifies_ancestry : {Dir : Type 0} → Fixed Dir → List (Block Dir) → Live Dir → Course Dir Fault (Live Dir)
verifies_ancestry c ancestry st = asks_desk c (verify_asks c ancestry) (λ answer st. Say (Verdict (verdict c ancestry answer)) (Goes st)) st
