-- What the calls of the journal and of the one-key record make of what a disk's files stand for.
use Rattle.std.specs.Prelude.{◌≡◌, ◌⊎◌, ◌≤◌, ℕ, List, [], ◌∷◌, fold, filter, length, if◌then◌else◌, Bool, true, false, not, Option, Some, None, Result, OnOk}
use Rattle.std.specs.List.{list_any}
use Rattle.std.specs.Ordering.{eq_by_cmp}
use Rattle.std.specs.FinMap.{get, keys}
use Rattle.std.specs.FinMap.Entries.{by_order}
use Rattle.dkg_journal.specs.Names.{Files, name_cmp}
use Rattle.dkg_journal.specs.Disk.{Lands}
use Rattle.dkg_journal.specs.Burn.{Burn}
use Rattle.dkg_journal.specs.Fuse.{burnt, SpentUpTo}
use Rattle.dkg_journal.specs.Records.{SectionEntry, entries, placed, from_section}
use Rattle.dkg_journal.specs.Pruning.{is_below}
use Rattle.dkg_values.specs.declared.name.Name.{Name}
use Rattle.dkg_values.specs.declared.name.Name.TheVariants.{Plan, Flat, Segment}

-- the journal's entries, the plan's bytes, and the names that are there, rising
pub record Journaled : Type 0 where
  pub entries : List SectionEntry
  pub plan : Option (List ℕ)
  pub names : List Name

-- what files stand for
abbrev pub journaled : Files → Journaled
journaled files = record { entries = entries files; plan = get files Plan; names = keys files }

-- An opening has its number of calls with it. That of the others follows from what is held.
pub data JournalOperation : Type 0 where
  Bars : JournalOperation
  Opens : (calls : ℕ) → JournalOperation
  Appends : SectionEntry → JournalOperation
  Prunes : (min : ℕ) → JournalOperation
  PutsPlan : List ℕ → JournalOperation
  ClearsPlan : JournalOperation

abbrev pub has_name : Name → List Name → Bool
has_name name names = list_any (eq_by_cmp name_cmp name) names

-- rising names with one more
abbrev pub with_name : Name → List Name → List Name
with_name name [] = name ∷ []
with_name name (n ∷ ns) = by_order (name_cmp name n) (name ∷ n ∷ ns) (n ∷ ns) (n ∷ with_name name ns)

abbrev pub without_name : Name → List Name → List Name
without_name name names = filter (λ n. not (eq_by_cmp name_cmp name n)) names

abbrev pub is_plan : Name → Bool
is_plan Plan = true
is_plan _ = false

-- with a segment for the section of each entry
abbrev pub with_segments : List SectionEntry → List Name → List Name
with_segments es names = fold (λ ns e. with_name (Segment e.0) ns) names es

-- After an opening there is no flat file: its entries stand in segments, and no other segment is there.
abbrev pub opened_names : List SectionEntry → List Name → List Name
opened_names es names = if has_name Flat names then with_segments es (filter is_plan names) else names

-- what an operation makes of it
abbrev pub after_operation : JournalOperation → Journaled → Journaled
after_operation Bars j = j
after_operation (Opens calls) j = record { entries = j.entries; plan = j.plan; names = opened_names j.entries j.names }
after_operation (Appends e) j = record { entries = placed j.entries e; plan = j.plan; names = with_name (Segment e.0) j.names }
after_operation (Prunes min) j = record { entries = from_section min j.entries; plan = j.plan; names = filter (λ n. not (is_below min n)) j.names }
after_operation (PutsPlan bytes) j = record { entries = j.entries; plan = Some bytes; names = with_name Plan j.names }
after_operation ClearsPlan j = record { entries = j.entries; plan = None; names = without_name Plan j.names }

-- how many changing calls it makes
abbrev pub changing_calls : JournalOperation → Journaled → ℕ
changing_calls Bars j = 1
changing_calls (Opens calls) j = calls
changing_calls (Appends e) j = if has_name (Segment e.0) j.names then 4 else 5
changing_calls (Prunes min) j = length (filter (is_below min) j.names)
changing_calls (PutsPlan bytes) j = 1
changing_calls ClearsPlan j = 1

-- What a crash inside it may leave besides before and after: an append may have made its file alone, an opening may have changed names
-- alone, and a prune may have come up to a lower minimum.
abbrev pub InPart : JournalOperation → Journaled → Journaled → Type 0
InPart (Appends e) j new = new ≡ record { entries = j.entries; plan = j.plan; names = with_name (Segment e.0) j.names }
InPart (Opens calls) j new = (new.entries ≡ j.entries) × (new.plan ≡ j.plan)
InPart (Prunes min) j new = (least : ℕ) × (least ≤ min) × (new ≡ after_operation (Prunes least) j)
InPart Bars j new = ⊥
InPart (PutsPlan bytes) j new = ⊥
InPart ClearsPlan j new = ⊥

-- from before it, from after it, or in part
abbrev pub TriesOperation : JournalOperation → Files → Files → Type 0
TriesOperation op old c = (journaled c ≡ journaled old) ⊎ ((journaled c ≡ after_operation op (journaled old)) ⊎ InPart op (journaled old) (journaled c))

-- An operation on a disk of which nothing was loose, wherever it ended: whatever a crash now leaves, and the calls that were counted.
pub record Tried (op : JournalOperation) (old : Files) (image : Files → Type 0) (before now : Burn) : Type 0 where
  pub each : (c : Files) → image c → TriesOperation op old c
  pub spent : SpentUpTo (changing_calls op (journaled old)) before now

-- .. It is done, and nothing is loose.
pub record FinishedOperation (op : JournalOperation) (old new : Files) (image : Files → Type 0) (before now : Burn) : Type 0 where
  pub after : journaled new ≡ after_operation op (journaled old)
  pub settled : Lands new image
  pub spent : now ≡ burnt (changing_calls op (journaled old)) before

abbrev pub TriedOn : {D : Type 0} → (D → Files) → (D → Files → Type 0) → JournalOperation → D → D → Burn → Burn → Type 0
TriedOn files image op old new before now = Lands (files old) (image old) → Tried op (files old) (image new) before now

abbrev pub FinishedOn : {D : Type 0} → (D → Files) → (D → Files → Type 0) → JournalOperation → D → D → Burn → Burn → Type 0
FinishedOn files image op old new before now = Lands (files old) (image old) → FinishedOperation op (files old) (files new) (image new) before now

-- A call that does an operation: it is tried at every exit, and finished at Ok.
pub record Does {D T E : Type 0} (files : D → Files) (image : D → Files → Type 0) (op : JournalOperation) (result : Result T E) (old new : D) (before now : Burn) : Type 0 where
  pub tried : TriedOn files image op old new before now
  pub done : OnOk result (FinishedOn files image op old new before now)
