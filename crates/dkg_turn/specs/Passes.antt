-- What the calls of a pass tell.
use Rattle.std.specs.Prelude.{◌≡◌, ◌↔◌, IsNone, ℕ, ◌+◌, ◌-◌, ◌/◌, ◌<◌, ◌≤◌, ◌^◌, ◌||◌, max, true, false, List, [], ◌∷◌, ◌++◌, Option, Some, None}
use Rattle.dkg_turn.specs.declared.turn.HistoryEntry.{HistoryEntry}
use Rattle.dkg_turn.specs.History.{contains_number, calls_of, HasSeen, HasNoneAbove, IsStamped, longer, IsRunOfTurns}
use Rattle.dkg_turn.specs.Known.{Lock, Known, AreDrawn}
use Rattle.dkg_turn.specs.Stops.{HasStopped}

module _ {T C R : Type 0} where
  -- a pass of this lock
  abbrev pub IsPassOf : Lock T → Known T C R → Type 0
  IsPassOf lock v = (v.lock ≡ lock.id) × (v.start ≡ Some lock.start)

  -- the pass that a new lock comes with
  abbrev pub first_pass : Lock T → Known T C R
  first_pass l = record { lock = l.id; start = Some l.start; number = 0; numbers = 0 ∷ []; seen = []; next = 0; drew = 0; parts = 2 ^ 64; exhausted = false }

  -- after a stay with this ticket, which left this history
  abbrev pub after_stay : ℕ → List (HistoryEntry C R) → Known T C R → Known T C R
  after_stay ticket log v = record { lock = v.lock; start = v.start; number = v.number; numbers = v.numbers; seen = log; next = ticket + 1; drew = v.drew + 1; parts = v.parts; exhausted = v.exhausted }

  -- no ticket was left
  abbrev pub told_exhausted : Known T C R → Known T C R
  told_exhausted v = record { lock = v.lock; start = v.start; number = v.number; numbers = v.numbers; seen = v.seen; next = v.next; drew = v.drew; parts = v.parts; exhausted = true }

  -- what a pass keeps as it is split, and what the new one has, which is named by the ticket of that stay
  abbrev pub kept_by_split : ℕ → List (HistoryEntry C R) → Known T C R → Known T C R
  kept_by_split ticket log v = record { lock = v.lock; start = v.start; number = v.number; numbers = v.numbers; seen = log; next = ticket + 1; drew = v.drew + 1; parts = v.parts - v.parts / 2; exhausted = v.exhausted }

  abbrev pub given_by_split : ℕ → List (HistoryEntry C R) → Known T C R → Known T C R
  given_by_split ticket log v = record { lock = v.lock; start = v.start; number = ticket + 1; numbers = (ticket + 1) ∷ []; seen = log; next = ticket + 1; drew = 0; parts = v.parts / 2; exhausted = v.exhausted }

  -- a pass that another was joined to
  abbrev pub joined : Known T C R → Known T C R → Known T C R
  joined v w = record { lock = v.lock; start = v.start; number = v.number; numbers = v.numbers ++ w.numbers; seen = longer v.seen w.seen; next = max v.next w.next; drew = v.drew + w.drew; parts = v.parts + w.parts; exhausted = v.exhausted || w.exhausted }

  module _ (turns : T → C → R → T → Type 0) (start : T) where
    -- What a pass finds as its turn comes with this ticket
    pub record Finds (ticket : ℕ) (v : Known T C R) (log : List (HistoryEntry C R)) (value : T) : Type 0 where
      -- the history begins with all that the pass had seen, and has no other call of the pass
      pub begins : HasSeen v.numbers v.seen log
      -- the value and each reply are what turns give from the value that the lock began with
      pub run : IsRunOfTurns turns start log value
      -- entries stand in the order of their tickets, which are below this one
      pub stamped : IsStamped 0 ticket log
      -- no entry is of a number above this ticket, so a pass that is numbered by it has no call yet
      pub above : HasNoneAbove ticket log
      -- this stay is later than all that the pass knew of
      pub later : v.next ≤ ticket
      -- fewer than 2 ^ 64 - 1 tickets were drawn before, and the pass was not told otherwise
      pub left : ticket + 1 < 2 ^ 64
      pub not_told : v.exhausted ≡ false
      -- a pass with all parts drew all tickets, and made all calls
      pub whole : v.parts ≡ 2 ^ 64 → (v.drew ≡ ticket) × (calls_of v.numbers log ≡ log)

    -- the turn came, and left no entry
    pub record Looked (v w : Known T C R) : Type 0 where
      pub ticket : ℕ
      pub log : List (HistoryEntry C R)
      pub value : T
      pub found : Finds ticket v log value
      pub after : w ≡ after_stay ticket log v

    -- the turn came, and left one entry, which is this call with this reply
    pub record CalledInTurn (same : R → R → Type 0) (call : C) (reply : R) (v w : Known T C R) : Type 0 where
      pub ticket : ℕ
      pub log : List (HistoryEntry C R)
      pub before : T
      pub after : T
      pub entry : HistoryEntry C R
      pub found : Finds ticket v log before
      pub caller : entry.caller ≡ v.number
      pub call_is : entry.call ≡ call
      pub stamp : entry.ticket ≡ ticket
      pub kept : turns before call entry.reply after
      pub given : turns before call reply after
      pub alike : same entry.reply reply
      pub now : w ≡ after_stay ticket (log ++ entry ∷ []) v
      -- of the pass's own calls the history has those from before, and this one
      pub own : calls_of v.numbers w.seen ≡ calls_of v.numbers v.seen ++ entry ∷ []
      pub run : IsRunOfTurns turns start w.seen after
      pub stamped : IsStamped 0 w.next w.seen

    -- the turn came, left no entry, and named a new pass
    pub record SplitOff (v w p : Known T C R) : Type 0 where
      pub ticket : ℕ
      pub log : List (HistoryEntry C R)
      pub value : T
      pub found : Finds ticket v log value
      pub kept : w ≡ kept_by_split ticket log v
      pub given : p ≡ given_by_split ticket log v
      -- the number is new to the pass; the rule of the lock keeps that no other pass has it
      pub fresh : ¬ (contains_number v.numbers p.number ≡ true)

    -- the turn came, and the value there has this answer for the number
    pub record LooksAt (told : T → ℕ → Option R) (same : R → R → Type 0) (number : ℕ) (reply : R) (v w : Known T C R) : Type 0 where
      pub ticket : ℕ
      pub log : List (HistoryEntry C R)
      pub value : T
      pub found : Finds ticket v log value
      pub after : w ≡ after_stay ticket log v
      pub kept : R
      pub told_is : told value number ≡ Some kept
      pub alike : same kept reply

    -- the turn came, and the value there has no answer for the number
    pub record ReadsNone (told : T → ℕ → Option R) (number : ℕ) (v w : Known T C R) : Type 0 where
      pub ticket : ℕ
      pub log : List (HistoryEntry C R)
      pub value : T
      pub found : Finds ticket v log value
      pub after : w ≡ after_stay ticket log v
      pub told_is : told value number ≡ None

    -- the pass takes the value and the whole history with it
    pub record PassEnds (v : Known T C R) (log : List (HistoryEntry C R)) (value : T) : Type 0 where
      pub ticket : ℕ
      pub found : Finds ticket v log value

  module _ {M A : Type 0} (turns : T → C → R → T → Type 0) (start : T) where
    -- a message was posted as a call, and the answer in its reply meets the relation of core, message and answer after that turn
    pub record Posted (same : R → R → Type 0) (told : T → ℕ → Option R) (call : C) (answered : R → Option A) (stopped : T → C → R → T → Type 0) (meets : T → M → A → Type 0) (message : M) (answer : Option A) (v w : Known T C R) : Type 0 where
      pub reply : R
      pub called : CalledInTurn turns start same call reply v w
      pub answer_is : answer ≡ answered reply
      -- no answer comes exactly where that turn ended by a stop
      pub stop : IsNone answer ↔ stopped called.before call reply called.after
      pub ended : IsNone answer → HasStopped turns stopped told answered called.after
      pub met : (a : A) → answer ≡ Some a → meets called.after message a

  -- no ticket is left: 2 ^ 64 - 1 were drawn, by this pass and by others
  pub record IsExhausted (v w : Known T C R) : Type 0 where
    pub after : w ≡ told_exhausted v
    pub drawn : AreDrawn (2 ^ 64 - 1) v.drew v.parts
