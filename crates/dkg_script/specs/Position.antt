-- Where a life stands after its first events, and what its node waits for.
use Rattle.std.specs.Prelude.{ℕ, zero, suc, Bool, false, not, List, ◌-◌, ◌<◌, ◌≡◌, ◌⊎◌, ◌==◌, ◌&&◌, ◌||◌, nat_lt, max, Option, Some, None, option_map, option_and_then, is_some, is_none, slice_get, length, fold, filter_map, take, find, if◌then◌else◌, IfSome, IsSome, ◌++◌}
use Rattle.std.specs.FinMap.{get}
use Rattle.std.specs.Option.{option_map_or, option_or, option_flatten}
use Rattle.std.specs.List.{list_any, list_all}
use Rattle.std.specs.Str.{bytes_eq}
use Rattle.dkg_values.specs.Rising.{has_key, keys_of}
use Rattle.dkg_text.specs.declared.script.Anchor.{Anchor}
use Rattle.dkg_text.specs.declared.script.Anchor.TheVariants.{Processed, Absent}
use Rattle.dkg_text.specs.declared.script.Event.{Event}
use Rattle.dkg_text.specs.declared.script.Life.{Life}
use Rattle.dkg_script.specs.Schedule.{epoch_of, boundary, midpoint, last}
use Rattle.dkg_script.specs.Readings.{SyncMaterial}
use Rattle.dkg_script.specs.Setting.{Setting, CutAt, blocks_per_epoch, is_oneshot, life_at, found}
use Rattle.dkg_script.specs.Blocks.{ScriptBlock, numbered_block, used, delivered_number, events_come_to, held_at_opening, provided_material, handed_in}

-- STEPS. The opening is step 0, and event number j, from 1, is step j.

-- the event of a step
abbrev pub event_of_step : Life → ℕ → Option Event
event_of_step life zero = None
event_of_step life (suc j) = slice_get life.events j

-- How many events a life took, by where it was cut. A step cut at call 0 did not begin.
abbrev pub events_taken : Life → Option CutAt → ℕ
events_taken life None = length life.events
events_taken life (Some cut) = if cut.call == 0 then cut.step - 1 else cut.step

abbrev pub cut_of : List (Option CutAt) → ℕ → Option CutAt
cut_of cuts l = option_flatten (slice_get cuts l)

-- the blocks delivered by the first n events, without those from a step on before which the script cuts the life
abbrev pub delivered : Setting → Life → ℕ → List ScriptBlock
delivered s life n = filter_map (numbered_block s) (filter_map delivered_number (take n (events_come_to life.cut life.events)))

-- START MATERIAL

-- the height above the position that the source tells: 0 where it tells none
abbrev pub height_after_anchor : Setting → Option Anchor → ℕ
height_after_anchor s None = 0
height_after_anchor s (Some (Processed number)) = option_map_or (λ b. suc b.height) (numbered_block s number) 0
height_after_anchor s (Some (Absent number)) = option_map_or (λ b. b.height) (numbered_block s number) 0

-- the source is in an epoch past the floor's already: the material is deleted
abbrev pub is_sync_outdated : Setting → Life → SyncMaterial → Bool
is_sync_outdated s life m = nat_lt m.epoch (epoch_of (blocks_per_epoch s) (height_after_anchor s life.anchor))

abbrev pub unless_outdated : Setting → Life → Option SyncMaterial → Option SyncMaterial
unless_outdated s life None = None
unless_outdated s life (Some m) = if is_sync_outdated s life m then None else Some m

-- the material that the life starts from: what it provides, else what it finds
abbrev pub material : Setting → ℕ → Life → Option SyncMaterial
material s l life = if is_oneshot s then None else unless_outdated s life (option_or (provided_material s life) (found s l))

-- What the plan holds after the life. One whose opening is cut may also leave what it found, or what it provides.
abbrev pub IsLeft : Setting → ℕ → Life → Option CutAt → Option SyncMaterial → Type 0
IsLeft s l life cut new =
    (new ≡ (if is_oneshot s then found s l else material s l life))
    ⊎ ((option_map (λ c. c.step) cut ≡ Some 0) × ((new ≡ found s l) ⊎ (IsSome (provided_material s life) × (new ≡ provided_material s life))))

-- what the next life finds is what this one leaves
abbrev pub IsNextFound : Setting → List (Option CutAt) → ℕ → Type 0
IsNextFound s cuts l = IfSome (life_at s l) (λ life. IsLeft s l life (cut_of cuts l) (found s (suc l)))

-- The setting's case of what the plan held, as the lives up to the one in hand opened, is one that can be.
pub record IsPlanHistory (s : Setting) (cuts : List (Option CutAt)) : Type 0 where
  pub first : found s 0 ≡ handed_in s
  pub next : (l : ℕ) → l < length cuts → IsNextFound s cuts l

-- POSITION. The position is one below the awaited height, and there is none where that is 0.

-- the block of a material's floor: among those that the life holds, else among all
abbrev pub floor_block : Setting → Life → SyncMaterial → Option ScriptBlock
floor_block s life m = find (λ b. bytes_eq b.digest m.floor) (held_at_opening s life ++ used s)

abbrev pub height_of_floor : Setting → Life → Option SyncMaterial → ℕ
height_of_floor s life m = option_map_or (λ b. b.height) (option_and_then (floor_block s life) m) 0

abbrev pub first_height : Setting → ℕ → Life → ℕ
first_height s l life = max (height_after_anchor s life.anchor) (height_of_floor s life (material s l life))

-- the height that is awaited after the first n events
unfoldable pub awaited_height_after : Setting → ℕ → Life → ℕ → ℕ
awaited_height_after s l life n = fold (λ height b. max height (suc b.height)) (first_height s l life) (delivered s life n)

abbrev pub awaited_epoch : Setting → ℕ → Life → ℕ → ℕ
awaited_epoch s l life n = epoch_of (blocks_per_epoch s) (awaited_height_after s l life n)

-- the same of a life by its number
abbrev pub awaited_epoch_in : Setting → ℕ → ℕ → ℕ
awaited_epoch_in s l n = option_map_or (λ life. awaited_epoch s l life n) (life_at s l) 0

-- EPOCHS BEGUN

abbrev pub greatest_below : (ℕ → ℕ) → ℕ → ℕ
greatest_below f zero = 0
greatest_below f (suc n) = max (greatest_below f n) (f n)

-- the last epoch that a life awaited, which is its greatest
abbrev pub last_awaited : Setting → List (Option CutAt) → ℕ → ℕ
last_awaited s cuts l = option_map_or (λ life. awaited_epoch s l life (events_taken life (cut_of cuts l))) (life_at s l) 0

-- the greatest epoch awaited in the lives before
abbrev pub awaited_before : Setting → List (Option CutAt) → ℕ → ℕ
awaited_before s cuts l = greatest_below (last_awaited s cuts) l

-- the greatest epoch whose setup may have begun in the lives before, and up to a step of a life
abbrev pub begun_before : Setting → List (Option CutAt) → ℕ → ℕ
begun_before s cuts l = if is_oneshot s then 0 else awaited_before s cuts l

abbrev pub begun : Setting → List (Option CutAt) → ℕ → ℕ → ℕ
begun s cuts l j = if is_oneshot s then 0 else max (awaited_before s cuts l) (awaited_epoch_in s l j)

-- FOLLOWING

abbrev pub lacks_boundary : Setting → ℕ → Life → Bool
lacks_boundary s l life =
    not (list_any (λ b. b.height == boundary (blocks_per_epoch s) (awaited_epoch s l life 0)) (held_at_opening s life))

abbrev pub starts_blind : Setting → ℕ → Life → Bool
starts_blind s l life = is_none (material s l life) && lacks_boundary s l life

-- the material's floor lies late in its epoch
abbrev pub starts_late : Setting → ℕ → Life → Bool
starts_late s l life =
    option_map_or (λ b. nat_lt (midpoint (blocks_per_epoch s) (epoch_of (blocks_per_epoch s) b.height)) b.height)
    (option_and_then (floor_block s life) (material s l life)) false

-- a life without a position, whose first block comes from this epoch
abbrev pub enters_blind_at : Setting → ℕ → Life → ℕ → Bool
enters_blind_at s l life epoch =
    (first_height s l life == 0)
    && option_map_or (λ b. epoch_of (blocks_per_epoch s) b.height == epoch) (slice_get (delivered s life (length life.events)) 0) false

-- the life takes no part in the epoch
abbrev pub life_follows : Setting → ℕ → Life → ℕ → Bool
life_follows s l life epoch =
    not (is_oneshot s)
    && (((epoch == awaited_epoch s l life 0) && (starts_late s l life || starts_blind s l life))
    || (starts_blind s l life && enters_blind_at s l life epoch))

-- FINISHED (one-shot mode alone)

abbrev pub any_below : (ℕ → Bool) → ℕ → Bool
any_below p zero = false
any_below p (suc n) = any_below p n || p n

abbrev pub saw_last : Setting → List (Option CutAt) → ℕ → Bool
saw_last s cuts l =
    option_map_or (λ life. list_any (λ b. b.height == last (blocks_per_epoch s) 0) (delivered s life (events_taken life (cut_of cuts l))))
    (life_at s l) false

-- the directory lacks an address of a participant
abbrev pub lacks_address : Setting → Bool
lacks_address s =
    s.script.addressed
    && option_map_or (λ participants. not (list_all (λ k. has_key k (keys_of s.script.config.addresses)) participants)) s.script.config.oneshot false

abbrev pub is_oneshot_finished : Setting → List (Option CutAt) → ℕ → Life → Bool
is_oneshot_finished s cuts l life =
    is_oneshot s
    && (nat_lt (last (blocks_per_epoch s) 0) (first_height s l life) || is_some (get s.secrets.shares 0)
    || any_below (saw_last s cuts) l || lacks_address s)
