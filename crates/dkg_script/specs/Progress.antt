-- How far a run has come by what its transcript says: the life and the step in hand, and the dealings recorded.
use Rattle.std.specs.Prelude.{ℕ, suc, Bool, List, [], ◌∷◌, ◌++◌, ◌-◌, ◌≡◌, ◌==◌, ◌&&◌, Option, Some, None, Ok, find, length, fold, if◌then◌else◌, is_some, IsSomeAnd, false}
use Rattle.std.specs.Option.{option_map_or}
use Rattle.dkg_ceremony.specs.Dealings.{dealing_of}
use Rattle.dkg_store.specs.Recorded.{restored_list}
use Rattle.dkg_infos.specs.declared.entry.Entry.{Entry}
use Rattle.dkg_infos.specs.declared.entry.Entry.TheVariants.{Opened, Recorded, Cut, Step}
use Rattle.dkg_infos.specs.declared.entry.Restored.{Restored}
use Rattle.dkg_text.specs.declared.script.Event.{Event}
use Rattle.dkg_text.specs.declared.script.Event.TheVariants.{Peer, Final}
use Rattle.dkg_text.specs.declared.script.Life.{Life}
use Rattle.dkg_script.specs.Readings.{dealing_in}
use Rattle.dkg_script.specs.Setting.{Setting, CutAt, me, limits, life_at, recovered_from}
use Rattle.dkg_script.specs.Blocks.{round_at}
use Rattle.dkg_script.specs.Position.{awaited_epoch, event_of_step}

pub record Progress : Type 0 where
  -- of each life that has ended, where it was cut; so the life in hand has the number of these
  pub cuts : List (Option CutAt)
  -- the step in hand, and what it has written
  pub step : ℕ
  pub written : List Entry
  -- the dealings recorded so far, the first of each epoch and dealer
  pub recorded : List Restored
  -- the life that opened last
  pub opened : Option ℕ

abbrev pub has_pair_key : ℕ → ℕ → Restored → Bool
has_pair_key epoch dealer pair = (pair.epoch == epoch) && (pair.dealer == dealer)

-- the dealing of a dealer in an epoch
abbrev pub pair_of : List Restored → ℕ → ℕ → Option Restored
pair_of pairs epoch dealer = find (has_pair_key epoch dealer) pairs

-- the first dealing of a key stays
abbrev pub with_restored : List Restored → Restored → List Restored
with_restored pairs pair = if is_some (pair_of pairs pair.epoch pair.dealer) then pairs else pairs ++ pair ∷ []

abbrev pub is_last_step : Setting → Progress → Bool
is_last_step s p = option_map_or (λ life. p.step == length life.events) (life_at s (length p.cuts)) false

abbrev pub with_written : Progress → Entry → Progress
with_written p entry = record p { written = p.written ++ entry ∷ [] }

abbrev pub with_life_ended : Progress → Option CutAt → Progress
with_life_ended p cut = record p { cuts = p.cuts ++ cut ∷ []; step = 0; written = [] }

-- the progress after one more entry
abbrev pub read : Setting → Progress → Entry → Progress
read s p (Opened life restored) =
    record (with_written p (Opened life restored)) { recorded = fold with_restored p.recorded restored; opened = Some (length p.cuts) }
read s p (Recorded epoch dealer public private) =
    record (with_written p (Recorded epoch dealer public private)) {
      recorded = with_restored p.recorded (record { epoch = epoch; dealer = dealer; public = public; private = private });
    }
read s p (Cut step call) = with_life_ended p (Some (record { step = step; call = call }))
read s p (Step step) = if is_last_step s p then with_life_ended p None else record p { step = suc p.step; written = [] }
read s p other = with_written p other

-- before the first entry: the dealings that the devices handed in give back
abbrev pub at_start : Setting → Progress
at_start s = record { cuts = []; step = 0; written = []; recorded = restored_list (recovered_from s.files s.secrets); opened = None }

unfoldable pub progress : Setting → List Entry → Progress
progress s out = fold (read s) (at_start s) out

-- P of each entry, over the progress before it
abbrev pub AtEachEntry : Setting → (Progress → Entry → Type 0) → List Entry → Type 0
AtEachEntry s P out =
    (before : List Entry) (entry : Entry) (after : List Entry) → out ≡ before ++ entry ∷ after → P (progress s before) entry

-- The checks of its epoch's round accept the dealing.
abbrev pub IsValid : Setting → Restored → Type 0
IsValid s pair =
    IsSomeAnd (round_at s pair.epoch) (λ round. dealing_of round (me s) pair.dealer pair.public pair.private ≡ Ok tt)

-- The event brings the dealing: a message of its dealer, or a block at which this node deals.
abbrev pub Brings : Setting → Event → Restored → Type 0
Brings s (Peer from bytes) pair =
    (from ≡ pair.dealer) × (dealing_in (limits s) bytes ≡ Some (record { public = pair.public; private = pair.private }))
Brings s (Final number) pair = pair.dealer ≡ me s
Brings s _ pair = ⊥

-- A step of a life accounts for a dealing that is new.
pub record IsBrought (s : Setting) (l : ℕ) (life : Life) (j : ℕ) (pair : Restored) : Type 0 where
  pub epoch : pair.epoch ≡ awaited_epoch s l life (j - 1)
  pub event : IsSomeAnd (event_of_step life j) (λ event. Brings s event pair)
  pub valid : IsValid s pair
