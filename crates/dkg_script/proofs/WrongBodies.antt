-- Transcripts that wrong nodes would write for the script of one dealing, and devices that they would leave: each breaks the
-- promise.
use Rattle.std.proofs.Common.{ℕ, ◌<◌, List, [], ◌∷◌, ◌++◌, ◌≡◌, ◌≢◌, refl, Option, Some, None, lit<, lit≤, inl, true, false, arith, ap, subst, sym, ◌∙◌}
use Rattle.std.specs.Prelude.{Contains, is_some, take, fold, length, Ok, Err}
use Rattle.std.specs.FinMap.{get, empty, get-empty, get-from_entries, get-insert}
use Rattle.std.specs.List.{AllByRecursion}
use Rattle.std.specs.Ordering.{eq_by_cmp}
use Rattle.std.proofs.lemmas.Bool.Decides.{nat_tests}
use Rattle.dkg_ceremony.specs.Acks.{ack_of}
use Rattle.dkg_values.specs.Bytes.{byte_at}
use Rattle.dkg_values.specs.Codec.{many_at}
use Rattle.dkg_values.specs.Uint.{groups_at}
use Rattle.dkg_values.specs.declared.name.Name.{Name}
use Rattle.dkg_values.specs.declared.name.Name.TheVariants.{Plan, Flat, Segment}
use Rattle.dkg_journal.specs.Kept as file
use Rattle.dkg_journal.specs.Names.{Files, name_cmp}
use Rattle.dkg_journal.specs.Records.{entries, read32, read64}
use Rattle.dkg_journal.specs.Records as journal
use Rattle.dkg_journal.specs.Table.{Rows, RowsImage, MatchFile, file_at}
use Rattle.dkg_journal.proofs.Steps.{names_total}
use Rattle.dkg_journal.proofs.AtOnce.{get_other}
use Rattle.dkg_store.specs.Events.{event_after}
use Rattle.dkg_secrets.specs.Keys.{key_cmp}
use Rattle.dkg_store.specs.Pairs.{IsWhole, recovered}
use Rattle.dkg_store.specs.Recorded.{restored_list}
use Rattle.dkg_secrets.specs.Secrets.{Secrets}
use Rattle.dkg_secrets.proofs.Map.{keys_total}
use Rattle.dkg_infos.specs.declared.entry.Entry.{Entry}
use Rattle.dkg_infos.specs.declared.entry.Entry.TheVariants.{Opened, Ack, Step, Fault}
use Rattle.dkg_infos.specs.declared.entry.Restored.{Restored}
use Rattle.dkg_infos.specs.declared.fault.Fault.TheVariants.{Disk, FloorBlockMissing, NoMemory}
use Rattle.dkg_text.specs.declared.script.Event.TheVariants.{Peer}
use Rattle.dkg_script.specs.Readings.{SyncMaterial}
use Rattle.dkg_script.specs.Setting.{recovered_from}
use Rattle.dkg_script.specs.Position.{IsPlanHistory, awaited_height_after}
use Rattle.dkg_script.specs.Progress.{Progress, read}
use Rattle.dkg_script.specs.Due.{IsDueNow, WroteAck}
use Rattle.dkg_script.specs.Ends.{EndsRun}
use Rattle.dkg_script.specs.Kept.{Kept, IsSound, IsDurable, Gives}
use Rattle.dkg_script.specs.Order.{InOrder, IsInOrder}
use Rattle.dkg_script.specs.OwnMarks.{OwnMarks, IsKnownAt, IsKnownInEntry}
use Rattle.dkg_script.specs.Promise.{with_plans, InEachCase, IsComplete}
use Rattle.dkg_script.proofs.OneDealing.{second_life, two, pair, recorded, out_one, out_two}
use Rattle.dkg_script.proofs.Rounds.{round, accepts, acknowledges, brings_seven}
use Rattle.dkg_script.proofs.Trials.{opening, from_start, progress_is, round_zero, round_zero_in, nothing_handed_in}
use Rattle.dkg_script.proofs.Worked.{setting, dealt, ack_of_dealt, files_of, secrets_of, flat, OnlyThese, nothing_there, nothing_listed, entries_are, flat_in, start, body}

pub true_not_false : true ≡ false → ⊥
true_not_false e = cc

false_not_true : false ≡ true → ⊥
false_not_true e = cc

none_not_some : {X : Type 0} (x : X) → None ≡ Some x → ⊥
none_not_some x e = cc

-- what is kept at an entry, over the progress that the entries before it make
at_entry : (out : List Entry) (image : Files → Type 0) (secrets : Secrets) → Kept (setting two) out image secrets
    → (before : List Entry) (entry : Entry) (after : List Entry) → out ≡ before ++ entry ∷ after
    → IsSound (setting two) (fold (read (setting two)) start before) entry
at_entry out image secrets kept before entry after e = subst (λ p. IsSound (setting two) p entry) (progress_is two before) (kept.each before entry after e)

-- ANOTHER ACKNOWLEDGEMENT than that of the dealing recorded
abbrev pub acked : List ℕ → List Entry
acked ack = Opened 0 [] ∷ opening ++ recorded ∷ Ack 0 2 ack ∷ Step 1 ∷ []

pub other_ack_is_not_kept : (ack : List ℕ) → ack ≢ ack_of_dealt → (image : Files → Type 0) (secrets : Secrets) → Kept (setting two) (acked ack) image secrets → ⊥
other_ack_is_not_kept ack other image secrets kept =
    let sound = at_entry (acked ack) image secrets kept (Opened 0 [] ∷ opening ++ recorded ∷ []) (Ack 0 2 ack) (Step 1 ∷ []) refl in
    let is : ack ≡ ack_of 1 (round 0) 2 (15 ∷ 7 ∷ 1 ∷ []) = rw (round_zero 8 (lit< tt) (Peer 2 dealt ∷ []) None (second_life ∷ [])) at sound.of_recorded.1 in
    other (is ∙ acknowledges)

-- .. so a constant one, the same for every dealing
first_of : List ℕ → ℕ
first_of [] = 0
first_of (x ∷ xs) = x

zero_is_other : 0 ∷ 0 ∷ 0 ∷ 0 ∷ 0 ∷ 0 ∷ 0 ∷ 0 ∷ [] ≢ ack_of_dealt
unfolding first_of
zero_is_other e = let h : ◌≡◌ {A = ℕ} 0 19 = ap first_of e in omega arith

pub constant_is_not_kept : (image : Files → Type 0) (secrets : Secrets) → Kept (setting two) (acked (0 ∷ 0 ∷ 0 ∷ 0 ∷ 0 ∷ 0 ∷ 0 ∷ 0 ∷ [])) image secrets → ⊥
constant_is_not_kept image secrets kept = other_ack_is_not_kept (0 ∷ 0 ∷ 0 ∷ 0 ∷ 0 ∷ 0 ∷ 0 ∷ 0 ∷ []) zero_is_other image secrets kept

-- ACKNOWLEDGES EARLY: without a record
pub unrecorded_is_not_kept : (image : Files → Type 0) (secrets : Secrets) → Kept (setting two) (Opened 0 [] ∷ opening ++ Ack 0 2 ack_of_dealt ∷ []) image secrets → ⊥
unrecorded_is_not_kept image secrets kept =
    (at_entry (Opened 0 [] ∷ opening ++ Ack 0 2 ack_of_dealt ∷ []) image secrets kept (Opened 0 [] ∷ opening) (Ack 0 2 ack_of_dealt) [] refl).of_recorded

-- .. before the gate is open: the run ends there, and the journal's record counts for nothing
abbrev pub early : List Entry
early = Opened 0 [] ∷ opening ++ recorded ∷ Ack 0 2 ack_of_dealt ∷ []

-- what the devices have to give back after these entries
gives_back : (out : List Entry) (image : Files → Type 0) (secrets : Secrets) → Kept (setting two) out image secrets
    → IsDurable (setting two) (fold (read (setting two)) start out) image secrets
gives_back out image secrets kept = subst (λ p. IsDurable (setting two) p image secrets) (progress_is two out) kept.durable

none_given : (c : Files) (secrets : Secrets) → entries c ≡ [] → Gives (recovered_from c secrets) pair → ⊥
none_given c secrets none given =
    none_not_some (15 ∷ 7 ∷ 1 ∷ [], 23) (sym (get-empty key_cmp (0, 2)) ∙ ap (λ (es : List journal.SectionEntry). get (recovered es secrets) (0, 2)) (sym none) ∙ given)

closed : entries (files_of (Some (flat 0 0 7))) ≡ []
unfolding read32 read64
closed = entries_are (flat 0 0 7)

pub closed_gate_is_not_kept : Kept (setting two) early (OnlyThese (files_of (Some (flat 0 0 7)))) (secrets_of (((0, 2), 23) ∷ [])) → ⊥
unfolding awaited_height_after
closed_gate_is_not_kept kept =
    none_given (files_of (Some (flat 0 0 7))) (secrets_of (((0, 2), 23) ∷ [])) closed
    (((gives_back early (OnlyThese (files_of (Some (flat 0 0 7)))) (secrets_of (((0, 2), 23) ∷ [])) kept).gives (files_of (Some (flat 0 0 7))) refl).0 (lit< tt))

-- .. with the public half written first: the record is without its private half
opened_file : entries (files_of (Some (flat 1 0 7))) ≡ (0, body 7) ∷ []
unfolding read32 read64
opened_file = entries_are (flat 1 0 7)

no_half : IsWhole (entries (files_of (Some (flat 1 0 7)))) (secrets_of []) → ⊥
unfolding many_at groups_at byte_at event_after
no_half whole =
    let half : is_some (get (secrets_of []).privates (0, 2)) ≡ true = (subst (λ (es : List journal.SectionEntry). IsWhole es (secrets_of [])) opened_file whole).0 in
    false_not_true (ap is_some (sym (get-from_entries keys_total [] (0, 2))) ∙ half)

pub public_first_is_not_kept : (out : List Entry) → Kept (setting two) out (OnlyThese (files_of (Some (flat 1 0 7)))) (secrets_of []) → ⊥
public_first_is_not_kept out kept = no_half (kept.durable.whole (files_of (Some (flat 1 0 7))) refl)

-- SYNCS NOTHING: a read gives the record, and a crash may leave the new journal's one closed gate
abbrev pub unsynced : Rows
unsynced = (Flat, record { bytes = flat 1 0 7; synced = 1; undo = (0, 0 ∷ []) ∷ [] }) ∷ []

only_zero : (i : ℕ) → i < 1 → file.IsUntouched ((0, 0 ∷ []) ∷ []) i → ⊥
only_zero i below outside = grind arith

old_file : file.FileImage (record { bytes = flat 1 0 7; synced = 1; undo = (0, 0 ∷ []) ∷ [] }) (0 ∷ [])
old_file = record {
  no_shorter = lit≤ tt;
  same_length = λ same. absurd (let h : ◌≡◌ {A = ℕ} 26 1 = same in omega arith);
  agrees = λ i below outside. absurd (only_zero i below outside);
}

not_flat : (section : ℕ) → Segment section ≢ Flat
not_flat section e = cc

apart : (section : ℕ) → eq_by_cmp name_cmp (Segment section) Flat ≡ false
apart section = grind (arith, nat_tests)

is_old : (q : Name) → MatchFile (file_at q unsynced) (get (files_of (Some (0 ∷ []))) q)
is_old Plan = subst (λ (o : Option (List ℕ)). MatchFile None o) (sym (get-insert names_total empty Flat (0 ∷ []) Plan ∙ get-empty name_cmp Plan)) tt
is_old Flat = subst (λ (o : Option (List ℕ)). MatchFile (file_at Flat unsynced) o) (sym (flat_in (0 ∷ []))) old_file
is_old (Segment section) = rw (apart section) (subst (λ (o : Option (List ℕ)). MatchFile None o) (sym (get_other empty Flat (0 ∷ []) (Segment section) (not_flat section) ∙ get-empty name_cmp (Segment section))) tt)

nothing_in_it : entries (files_of (Some (0 ∷ []))) ≡ []
unfolding read32 read64
nothing_in_it = entries_are (0 ∷ [])

pub unsynced_is_not_kept : (secrets : Secrets) → Kept (setting two) out_one (RowsImage unsynced) secrets → ⊥
unfolding awaited_height_after
unsynced_is_not_kept secrets kept =
    none_given (files_of (Some (0 ∷ []))) secrets nothing_in_it
    (((gives_back out_one (RowsImage unsynced) secrets kept).gives (files_of (Some (0 ∷ []))) (record { each = is_old })).0 (lit< tt))

-- KEEPS DEALINGS IN MEMORY ALONE: the disk holds nothing
pub in_memory_is_not_kept : (secrets : Secrets) → Kept (setting two) out_two (OnlyThese (files_of None)) secrets → ⊥
unfolding awaited_height_after
in_memory_is_not_kept secrets kept =
    none_given (files_of None) secrets nothing_there
    (((gives_back out_two (OnlyThese (files_of None)) secrets kept).gives (files_of None) refl).0 (lit< tt))

-- .. and a first opening that lists what the devices don't hold
some_not_none : (xs : List Restored) → pair ∷ xs ≡ [] → ⊥
some_not_none xs e = cc

pub invented_is_not_kept : (image : Files → Type 0) (secrets : Secrets) → Kept (setting two) (Opened 0 (pair ∷ []) ∷ []) image secrets → ⊥
invented_is_not_kept image secrets kept =
    some_not_none [] (at_entry (Opened 0 (pair ∷ []) ∷ []) image secrets kept [] (Opened 0 (pair ∷ [])) [] refl ∙ nothing_listed (secrets_of []))

-- PRUNES AT AN OPENING: the second life lists nothing
abbrev pub pruned : List Entry
pruned = out_one ++ Opened 1 [] ∷ []

none_contained : (x : Restored) → Contains [] x → ⊥
none_contained x (k, below, is) = omega arith

pub pruned_is_not_kept : (image : Files → Type 0) (secrets : Secrets) → Kept (setting two) pruned image secrets → ⊥
unfolding awaited_height_after
pruned_is_not_kept image secrets kept =
    none_contained pair ((at_entry pruned image secrets kept out_one (Opened 1 []) [] refl).lists.0 (lit< tt))

-- SKIPS AN OPENING: the second life writes no Opened entry
pub unopened_is_not_in_order : InOrder (setting two) (out_one ++ opening) → ⊥
unfolding InOrder
unopened_is_not_in_order ordered =
    false_not_true ((subst (λ p. IsInOrder (setting two) p (Step 0)) (progress_is two (out_one ++ take 4 opening)) (ordered (out_one ++ take 4 opening) (Step 0) [] refl)).has_opened refl)

-- NEVER ACKNOWLEDGES: a completed step owed an acknowledgement
abbrev pub silent : List Entry
silent = Opened 0 [] ∷ opening ++ Step 1 ∷ Opened 1 [] ∷ opening

abbrev in_step_one : Progress
in_step_one = record { cuts = []; step = 1; written = []; recorded = []; opened = Some 0 }

due_with : (plans : List (Option SyncMaterial)) → IsPlanHistory (with_plans (setting two) plans) [] → IsDueNow (with_plans (setting two) plans) in_step_one
unfolding awaited_height_after
due_with [] history = record {
  unfinished = refl;
  takes_part = refl;
  oneshot = λ is. refl;
  early = lit< tt;
  dealing = rw (round_zero_in 8 (lit< tt) (Peer 2 dealt ∷ []) None (second_life ∷ []) [], brings_seven) (record { player = refl; dealer = refl; valid = inl accepts });
}
due_with (None ∷ plans) history = record {
  unfinished = refl;
  takes_part = refl;
  oneshot = λ is. refl;
  early = lit< tt;
  dealing = rw (round_zero_in 8 (lit< tt) (Peer 2 dealt ∷ []) None (second_life ∷ []) (None ∷ plans), brings_seven) (record { player = refl; dealer = refl; valid = inl accepts });
}
due_with (Some m ∷ plans) history = absurd (not_found (history.first ∙ nothing_handed_in two))
  where
    not_found : Some m ≡ None → ⊥
    not_found e = cc

no_log : OwnMarks (setting two) (Opened 0 [] ∷ opening)
no_log = record {
  delivered = from_start two (IsKnownAt (setting two)) (Opened 0 [] ∷ opening) (tt, (tt, (tt, (tt, (tt, (tt, tt))))));
  handed_in = subst (λ (es : List journal.SectionEntry). AllByRecursion (IsKnownInEntry (setting two) (restored_list (recovered_from (files_of None) (secrets_of [])))) es) (sym nothing_there) tt;
}

pub silent_is_not_complete : IsComplete (setting two) silent → ⊥
silent_is_not_complete complete =
    false_not_true (subst (λ p. InEachCase (setting two) p.cuts (λ case. IsDueNow case p) → WroteAck p.written) (progress_is two (Opened 0 [] ∷ opening))
    (complete.answered (Opened 0 [] ∷ opening) (Opened 1 [] ∷ opening) 1 refl no_log) due_with)

-- STOPS EARLY: the second life is left out
one_not_two : ◌≡◌ {A = ℕ} 1 2 → ⊥
one_not_two e = omega arith

pub stopped_is_not_complete : IsComplete (setting two) out_one → ⊥
stopped_is_not_complete complete = one_not_two (sym (ap (λ (p : Progress). length p.cuts) (progress_is two out_one)) ∙ complete.all_run)

-- TELLS A FAULT and answers success
pub fault_is_no_success : EndsRun (Ok tt) (opening ++ Fault Disk ∷ []) (Unit {0}) (Unit {0}) → ⊥
fault_is_no_success ends = true_not_false ends

-- A FAULT that no run of lives can meet
pub invented_fault_is_no_end : EndsRun (Err FloorBlockMissing) (opening ++ Fault FloorBlockMissing ∷ []) (Unit {0}) (Unit {0}) → ⊥
invented_fault_is_no_end ends = ends.1

-- and want of memory that is told
pub want_is_not_told : EndsRun (Err NoMemory) (opening ++ Fault NoMemory ∷ []) (Unit {0}) (Unit {0}) → ⊥
want_is_not_told ends = true_not_false ends
