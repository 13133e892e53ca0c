-- What a course adds to a transcript: the entries of its deeds.
use Rattle.std.specs.Prelude.{◌≡◌, ℕ, List, [], ◌∷◌, ◌++◌, Some}
use Rattle.std.specs.List.{AllByRecursion}
use Rattle.dkg_infos.specs.declared.entry.Entry.{Entry}
use Rattle.dkg_infos.specs.declared.entry.Entry.TheVariants.{Opened}
use Rattle.dkg_infos.specs.declared.fault.Fault.{Fault}
use Rattle.dkg_store.specs.Acts.{Acts, Held, World, Ended, went, stopped, broken, Runs}
use Rattle.dkg_core.specs.Courses.{Course, on_devices, EndsSo, Deed, SaidEntry, DidOperation, CalledOutside, deeds_of, end_of, fault_of}
use Rattle.dkg_core.specs.Said.{Said}
use Rattle.dkg_core.specs.Laws.{Law, Holds, IsQuiet}
use Rattle.dkg_core.specs.Fixed.{Fixed}
use Rattle.dkg_core.specs.Live.{Live, Message}
use Rattle.dkg_core.specs.Core.{opening, step}

-- the same moment behind another transcript
abbrev pub with_out : List Entry → World → World
with_out out w = record w { out = out }

-- A RUN FROM ANOTHER TRANSCRIPT says the same entries, does the same and ends the same: no act reads what was said.
abbrev pub TranscriptsMove : Type 0 → Type 0 → Type 0
TranscriptsMove F S = (acts : Acts F S) (ended : Ended F S) (w new : World) (other : List Entry) → Runs acts ended w new
    → (added : List Entry) × (new.out ≡ w.out ++ added) × Runs acts ended (with_out other w) (with_out (other ++ added) new)

-- DEEDS AND THEIR ENTRIES

abbrev pub deed_entries : {Dir : Type 0} → List (Deed Dir) → List Entry
deed_entries [] = []
deed_entries (SaidEntry line ∷ deeds) = line ∷ deed_entries deeds
deed_entries (DidOperation op ∷ deeds) = deed_entries deeds
deed_entries (CalledOutside outer ∷ deeds) = deed_entries deeds

-- How it ended by itself: with all its entries, in its end, or by its fault.
abbrev pub IsOwnEnd : {Dir F S : Type 0} → Course Dir F S → Ended F S → (held now : Held) → (rest : List Entry) → Type 0
IsOwnEnd course (went end) held now rest = (rest ≡ []) × (end_of course held ≡ Some (end, now))
IsOwnEnd course (stopped fault) held now rest = (rest ≡ []) × (fault_of course held ≡ Some fault)
IsOwnEnd course (broken cause) held now rest = Unit {0}

-- The first of the entries of a course's deeds were added, and all of them where nothing broke it off.
pub record AddsDeeds {Dir F S : Type 0} (course : Course Dir F S) (ended : Ended F S) (w new : World) : Type 0 where
  pub added : List Entry
  pub rest : List Entry
  pub out : new.out ≡ w.out ++ added
  pub of_deeds : deed_entries (deeds_of course w.held) ≡ added ++ rest
  pub own_end : IsOwnEnd course ended w.held new.held rest

-- A RUN OF A COURSE adds the entries of its deeds, in their order.
abbrev pub RunsAddDeeds : (Dir F S : Type 0) → Type 0
RunsAddDeeds Dir F S = (course : Course Dir F S) (ended : Ended F S) (w new : World) → EndsSo course ended w new → AddsDeeds course ended w new

-- LAWS AND ENTRIES

-- Deeds, one after another, each of which the law has behind those before it.
abbrev pub Obeys : {Dir S : Type 0} → Law Dir S → (past deeds : List (Deed Dir)) → Type 0
Obeys law past [] = Unit {0}
Obeys law past (SaidEntry line ∷ deeds) = law.line past line × Obeys law (SaidEntry line ∷ past) deeds
Obeys law past (DidOperation op ∷ deeds) = law.operation past op × Obeys law (DidOperation op ∷ past) deeds
Obeys law past (CalledOutside outer ∷ deeds) = Obeys law (CalledOutside outer ∷ past) deeds

-- all of them, the newest first
abbrev pub deeds_behind : {Dir : Type 0} → (past deeds : List (Deed Dir)) → List (Deed Dir)
deeds_behind past [] = past
deeds_behind past (deed ∷ deeds) = deeds_behind (deed ∷ past) deeds

abbrev pub IfWentTo : {F S : Type 0} → Ended F S → (S → Type 0) → Type 0
IfWentTo (went end) P = P end
IfWentTo (stopped fault) P = Unit {0}
IfWentTo (broken cause) P = Unit {0}

-- What was added are the entries of such deeds, and the law has the end behind them.
pub record LinesFront {Dir F S : Type 0} (law : Law Dir S) (past : List (Deed Dir)) (ended : Ended F S) (old new : List Entry) : Type 0 where
  pub deeds : List (Deed Dir)
  pub obeys : Obeys law past deeds
  pub added : new ≡ old ++ deed_entries deeds
  pub end : IfWentTo ended (law.end (deeds_behind past deeds))

-- ENTRIES THAT A COURSE SAYS keep its laws, whatever the devices tell.
abbrev pub LinesObey : (Dir F S : Type 0) → Type 1
LinesObey Dir F S = (law : Law Dir S) (past : List (Deed Dir)) (course : Course Dir F S) (ended : Ended F S) (old new : List Entry)
    → Holds law past course → Said (on_devices course) ended old new → LinesFront law past ended old new

-- QUIET ENTRIES

-- A STEP says entries of the node's own alone: it neither opens, counts, cuts nor faults.
abbrev pub StepsAreQuiet : Type 0 → Type 0
StepsAreQuiet Dir = (c : Fixed Dir) (st : Live Dir) (message : Message Dir) (ended : Ended Fault (Live Dir)) (old new : List Entry)
    → Said (on_devices (step c message st)) ended old new → (added : List Entry) × (new ≡ old ++ added) × AllByRecursion IsQuiet added

-- The entry of a life's opening stands first, and entries of the node's own behind it; only what was broken off may have said nothing.
abbrev pub BeginsOpened : {F S : Type 0} → (life : ℕ) → List Entry → Ended F S → Type 0
BeginsOpened life (Opened its restored ∷ lines) ended = (its ≡ life) × AllByRecursion IsQuiet lines
BeginsOpened life [] (broken cause) = Unit {0}
BeginsOpened life lines ended = ⊥

-- SO DOES AN OPENING, behind its first entry.
abbrev pub OpeningsAreQuiet : Type 0 → Type 0
OpeningsAreQuiet Dir = (c : Fixed Dir) (ended : Ended Fault (Live Dir)) (old new : List Entry)
    → Said (on_devices (opening c)) ended old new → (added : List Entry) × (new ≡ old ++ added) × BeginsOpened c.life added ended
