-- The rule of the lock, and what each step tells.
-- Word 0 counts the tickets that were drawn, word 1 the turns that were passed on. Slot 0 has the node, unless the pass whose turn it is has it.
use Rattle.std.specs.Prelude.{◌≡◌, ◌≢◌, ◌⊎◌, ℕ, ◌+◌, ◌-◌, ◌/◌, ◌==◌, ◌<◌, ◌≤◌, ◌^◌, ◌||◌, max, true, false, List, [], ◌∷◌, ◌++◌, length, Option, Some, None, MatchBool}
use mathlib.Core.Option.{some}
use mathlib.Core.Option as maybe
use lib.ListN.{get_elem?}
use Rattle.atomic_table.specs.Seated.{TableId}
use Rattle.atomic_table.specs.Table.{State, Me, Step}
use Rattle.dkg_turn.specs.declared.turn.HistoryEntry.{HistoryEntry}
use Rattle.dkg_turn.specs.declared.view.Node.{Node}
use Rattle.dkg_turn.specs.declared.view.View.{View}
use Rattle.dkg_turn.specs.declared.view.Stage.{Stage}
use Rattle.dkg_turn.specs.declared.view.Stage.TheVariants.{Idle, Waits, Holds}
use Rattle.dkg_turn.specs.History.{contains_number, calls_of, HasSeen, HasNoneAbove, IsStamped, longer, IsRunOfTurns, RunOf}
use Rattle.dkg_turn.specs.Known.{Known, AreDrawn}

-- the ticket is drawn, and its turn is not passed on
abbrev pub HasTicket : Stage → ℕ → Type 0
HasTicket Idle t = ⊥
HasTicket (Waits u) t = u ≡ t
HasTicket (Holds u) t = u ≡ t

abbrev pub ticket_in : Stage → ℕ
ticket_in Idle = 0
ticket_in (Waits t) = t
ticket_in (Holds t) = t

abbrev pub tickets_in : Stage → ℕ
tickets_in Idle = 0
tickets_in (Waits t) = 1
tickets_in (Holds t) = 1

abbrev pub head_of : List ℕ → ℕ
head_of [] = 0
head_of (n ∷ ns) = n

abbrev pub tail_of : List ℕ → List ℕ
tail_of [] = []
tail_of (n ∷ ns) = ns

module _ {C R : Type 0} where
  -- one call of these callers at most, with this ticket
  abbrev pub AddsOne : ℕ → List ℕ → List (HistoryEntry C R) → Type 0
  AddsOne ticket numbers ext = (ext ≡ []) ⊎ ((e : HistoryEntry C R) × (ext ≡ e ∷ []) × (contains_number numbers e.caller ≡ true) × (e.ticket ≡ ticket))

  -- the same for some of the pass's numbers
  abbrev pub PartOf : List ℕ → List ℕ → List (HistoryEntry C R) → List (HistoryEntry C R) → Type 0
  PartOf numbers few seen log = ((n : ℕ) → contains_number few n ≡ true → contains_number numbers n ≡ true) × HasSeen few seen log

  abbrev pub InTurn : ℕ → ℕ → List (HistoryEntry C R) → List (HistoryEntry C R) → Stage → Type 0
  InTurn tickets serving log seen Idle = Unit {0}
  InTurn tickets serving log seen (Waits t) = (serving ≤ t) × (t < tickets)
  InTurn tickets serving log seen (Holds t) = (serving ≡ t) × (t < tickets) × (seen ≡ log)

module _ {T C R : Type 0} where
  -- the pass that makes the first calls
  abbrev pub first_view : T → View T C R
  first_view start = record { start = Some start; stage = Idle; numbers = 0 ∷ []; seen = []; next = 0; drew = 0; parts = 2 ^ 64; exhausted = false; also = []; also_of = []; ours = []; ours_of = [] }

  -- no ticket is left
  abbrev pub spent : View T C R → View T C R
  spent v = record { start = v.start; stage = v.stage; numbers = v.numbers; seen = v.seen; next = v.next; drew = v.drew; parts = v.parts; exhausted = true; also = v.also; also_of = v.also_of; ours = v.ours; ours_of = v.ours_of }

  abbrev pub drawn : ℕ → View T C R → View T C R
  drawn t v = record { start = v.start; stage = Waits t; numbers = v.numbers; seen = v.seen; next = v.next; drew = v.drew + 1; parts = v.parts; exhausted = v.exhausted; also = v.also; also_of = v.also_of; ours = v.ours; ours_of = v.ours_of }

  abbrev pub with_numbers : List ℕ → View T C R → View T C R
  with_numbers ns v = record { start = v.start; stage = v.stage; numbers = ns; seen = v.seen; next = v.next; drew = v.drew; parts = v.parts; exhausted = v.exhausted; also = v.also; also_of = v.also_of; ours = v.ours; ours_of = v.ours_of }

  -- the node is out of its slot, with this history
  abbrev pub holding : ℕ → List (HistoryEntry C R) → View T C R → View T C R
  holding t log v = record { start = v.start; stage = Holds t; numbers = v.numbers; seen = log; next = v.next; drew = v.drew; parts = v.parts; exhausted = v.exhausted; also = []; also_of = []; ours = []; ours_of = [] }

  -- the node is back in its slot, with this history, and the turn of this ticket passed on
  abbrev pub rested : ℕ → List (HistoryEntry C R) → View T C R → View T C R
  rested t log v = record { start = v.start; stage = Idle; numbers = v.numbers; seen = log; next = t + 1; drew = v.drew; parts = v.parts; exhausted = v.exhausted; also = []; also_of = []; ours = []; ours_of = [] }

  -- what the rule says of each view
  pub record ViewFits (start : T) (tickets serving : ℕ) (log : List (HistoryEntry C R)) (v : View T C R) : Type 0 where
    pub starts : 0 < v.parts → v.start ≡ Some start
    pub begins : HasSeen v.numbers v.seen log
    pub turn : InTurn tickets serving log v.seen v.stage
    pub named : (n : ℕ) → contains_number v.numbers n ≡ true → n ≤ serving
    pub nothing : v.parts ≡ 0 → (v.drew ≡ 0) × (v.numbers ≡ [])
    pub told : v.exhausted ≡ true → tickets + 1 ≡ 2 ^ 64
    pub passed : v.next ≤ serving
    pub theirs : PartOf v.numbers v.also_of v.also log
    pub ours : PartOf v.numbers v.ours_of v.ours log

  -- what a pass keeps where it is cut in two, and what the new pass has
  abbrev pub kept_part : List ℕ → View T C R → View T C R
  kept_part ns v = record { start = v.start; stage = Idle; numbers = ns; seen = v.seen; next = v.next; drew = v.drew; parts = v.parts - v.parts / 2; exhausted = v.exhausted; also = []; also_of = []; ours = []; ours_of = [] }

  abbrev pub given_part : ℕ → View T C R → View T C R
  given_part n v = record { start = v.start; stage = Idle; numbers = n ∷ []; seen = v.seen; next = v.next; drew = 0; parts = v.parts / 2; exhausted = v.exhausted; also = []; also_of = []; ours = []; ours_of = [] }

  abbrev pub both_views : View T C R → View T C R → View T C R
  both_views v w = record { start = v.start; stage = Idle; numbers = v.numbers ++ w.numbers; seen = longer v.seen w.seen; next = max v.next w.next; drew = v.drew + w.drew; parts = v.parts + w.parts; exhausted = v.exhausted || w.exhausted; also = w.seen; also_of = w.numbers; ours = v.seen; ours_of = v.numbers }

  abbrev pub nobody : View T C R
  nobody = record { start = None; stage = Idle; numbers = []; seen = []; next = 0; drew = 0; parts = 0; exhausted = false; also = []; also_of = []; ours = []; ours_of = [] }

  abbrev pub tickets_of : List (View T C R) → ℕ
  tickets_of [] = 0
  tickets_of (v ∷ vs) = v.drew + tickets_of vs

  abbrev pub parts_of : List (View T C R) → ℕ
  parts_of [] = 0
  parts_of (v ∷ vs) = v.parts + parts_of vs

  -- how many passes have a ticket
  abbrev pub holders_of : List (View T C R) → ℕ
  holders_of [] = 0
  holders_of (v ∷ vs) = tickets_in v.stage + holders_of vs

  -- two passes have no ticket and no number in common
  abbrev pub Apart : List (View T C R) → Type 0
  Apart views =
      (i j : ℕ) (v w : View T C R) → get_elem? views i ≡ some v → get_elem? views j ≡ some w → i ≢ j
      → ((t : ℕ) → HasTicket v.stage t → ¬ (HasTicket w.stage t)) × ((n : ℕ) → contains_number v.numbers n ≡ true → ¬ (contains_number w.numbers n ≡ true))

  -- the pass whose turn it is has the slot
  abbrev pub IsOut : ℕ → List (maybe.Option (Option (Node T C R))) → List (View T C R) → Type 0
  IsOut serving homes views = (homes ≡ maybe.none ∷ []) × ((i : ℕ) × (v : View T C R) × (get_elem? views i ≡ some v) × (v.stage ≡ Holds serving))

  module _ (turns : T → C → R → T → Type 0) where
    -- the slot has the node
    abbrev pub AtHome : T → List (HistoryEntry C R) → List (maybe.Option (Option (Node T C R))) → Type 0
    AtHome start log homes = (node : Node T C R) × (homes ≡ some (Some node) ∷ []) × (node.history.items ≡ log) × IsRunOfTurns turns start log node.value

    -- The rule: there is one history, in the order of tickets, and the node has it with the value that it leads to.
    -- The tickets are the sum of those that the passes drew, those not passed on are as many as the passes that have one, and each call was made under a number that one pass has
    pub record KeepsLockRule (start : T) (s : State (Option (Node T C R)) (View T C R)) : Type 0 where
      pub tickets : ℕ
      pub serving : ℕ
      pub log : List (HistoryEntry C R)
      pub words : s.words ≡ tickets ∷ serving ∷ []
      pub narrow : tickets < 2 ^ 64
      pub below : serving ≤ tickets
      pub drawn_by_all : tickets_of s.views ≡ tickets
      pub held_by_all : serving + holders_of s.views ≡ tickets
      pub parts_of_all : parts_of s.views ≡ 2 ^ 64
      pub stamped : IsStamped 0 serving log
      pub node : AtHome start log s.homes ⊎ IsOut serving s.homes s.views
      pub each : (i : ℕ) (v : View T C R) → get_elem? s.views i ≡ some v → ViewFits start tickets serving log v
      pub apart : Apart s.views
      pub kept_by_one : (n : ℕ) → calls_of (n ∷ []) log ≢ [] → (i : ℕ) × (v : View T C R) × (get_elem? s.views i ≡ some v) × (contains_number v.numbers n ≡ true)

  -- a look at the ticket word
  abbrev pub looked : Step (Option (Node T C R)) → Me (Option (Node T C R)) (View T C R) → ℕ → Me (Option (Node T C R)) (View T C R) → Type 0
  looked st m r m' = MatchBool (r == 18446744073709551615) (m' ≡ (spent m.0, m.1)) (m' ≡ m) × (m.0.exhausted ≡ true → r + 1 ≡ 2 ^ 64) × AreDrawn r m.0.drew m.0.parts

  -- what the joined pass had seen begins what this one has, and where one was told that no ticket is left, all were drawn
  abbrev pub settled_join : Step (Option (Node T C R)) → Me (Option (Node T C R)) (View T C R) → ℕ → Me (Option (Node T C R)) (View T C R) → Type 0
  settled_join st m r m' = (m' ≡ m) × (length m.0.also ≤ length m.0.seen → HasSeen m.0.also_of m.0.also m.0.seen) × (length m.0.ours ≤ length m.0.seen → HasSeen m.0.ours_of m.0.ours m.0.seen) × (m.0.exhausted ≡ true → AreDrawn (2 ^ 64 - 1) m.0.drew m.0.parts)

  -- the ticket was drawn where the word was the number seen
  abbrev pub drew_one : Step (Option (Node T C R)) → Me (Option (Node T C R)) (View T C R) → ℕ → Me (Option (Node T C R)) (View T C R) → Type 0
  drew_one st m r m' = MatchBool (r == st.first) ((m' ≡ (drawn st.first m.0, m.1)) × (m.0.parts ≡ 2 ^ 64 → m.0.drew ≡ st.first)) (m' ≡ m)

  module _ (turns : T → C → R → T → Type 0) where
    -- the node as the pass finds it as its turn comes: its history begins with all that the pass had seen, and has no other call of the pass
    pub record TookNode (t : ℕ) (v : View T C R) (node : Node T C R) (w : View T C R) : Type 0 where
      pub now : w ≡ holding t node.history.items v
      pub begins : HasSeen v.numbers v.seen node.history.items
      pub run : RunOf turns v.start node.history.items node.value
      pub stamped : IsStamped 0 t node.history.items
      pub above : HasNoneAbove t node.history.items
      pub later : v.next ≤ t
      pub whole : v.parts ≡ 2 ^ 64 → calls_of v.numbers node.history.items ≡ node.history.items

    -- a look at the serving word: where it is the own ticket, the slot is taken
    abbrev pub came : Step (Option (Node T C R)) → Me (Option (Node T C R)) (View T C R) → ℕ → Me (Option (Node T C R)) (View T C R) → Type 0
    came st m r m' = MatchBool (r == ticket_in m.0.stage)
        ((node : Node T C R) × (m'.1 ≡ (0, Some node) ∷ []) × TookNode (ticket_in m.0.stage) m.0 node m'.0)
        (m' ≡ m)

  abbrev pub history_in : Option (Node T C R) → List (HistoryEntry C R)
  history_in (Some node) = node.history.items
  history_in None = []

  abbrev pub held_history : List (ℕ × Option (Node T C R)) → List (HistoryEntry C R)
  held_history [] = []
  held_history (x ∷ xs) = history_in x.1

  -- the turn was passed on, and the slot given back
  abbrev pub passed_on : Step (Option (Node T C R)) → Me (Option (Node T C R)) (View T C R) → ℕ → Me (Option (Node T C R)) (View T C R) → Type 0
  passed_on st m r m' = m' ≡ (rested (ticket_in m.0.stage) (held_history m.1) m.0, [])

  -- the same, and the pass has one more number, which is new
  abbrev pub passed_named : Step (Option (Node T C R)) → Me (Option (Node T C R)) (View T C R) → ℕ → Me (Option (Node T C R)) (View T C R) → Type 0
  passed_named st m r m' = let n = ticket_in m.0.stage + 1 in (m' ≡ (with_numbers (n ∷ m.0.numbers) (rested (ticket_in m.0.stage) (held_history m.1) m.0), [])) × ¬ (contains_number m.0.numbers n ≡ true)

  -- the node may go back into the slot: its history is what was taken, with one call of the pass at most
  pub record MayGive (turns : T → C → R → T → Type 0) (v : View T C R) (node : Node T C R) : Type 0 where
    pub ticket : ℕ
    pub stage : v.stage ≡ Holds ticket
    pub some_part : 0 < v.parts
    pub ext : List (HistoryEntry C R)
    pub grown : node.history.items ≡ v.seen ++ ext
    pub adds : AddsOne ticket v.numbers ext
    pub run : RunOf turns v.start node.history.items node.value

  -- the pass has one number more, which is new
  abbrev pub IsNewlyNamed : View T C R → Type 0
  IsNewlyNamed v = (n : ℕ) × (ns : List ℕ) × (v.numbers ≡ n ∷ ns) × ¬ (contains_number ns n ≡ true)

  abbrev pub after_naming : View T C R → List (HistoryEntry C R) → View T C R
  after_naming v log = with_numbers ((ticket_in v.stage + 1) ∷ v.numbers) (rested (ticket_in v.stage) log v)

  -- what contracts see of a pass with this number and this view
  abbrev pub known_of : TableId → ℕ → View T C R → Known T C R
  known_of lock number v = record { lock = lock; start = v.start; number = number; numbers = v.numbers; seen = v.seen; next = v.next; drew = v.drew; parts = v.parts; exhausted = v.exhausted }
