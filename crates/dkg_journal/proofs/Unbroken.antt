-- No call of a journal makes a record that is not whole.
use Rattle.std.proofs.Common.{◌≡◌, ◌≢◌, inl, inr, ⊎_elim, ℕ, suc, ◌+◌, Bool, true, false, cond, List, [], ◌∷◌, ◌++◌, length, Option, Some, None, refl, sym, ◌∙◌, ap, subst, arith}
use Rattle.std.specs.Prelude.{T, ◌&&◌}
use Rattle.std.specs.Ordering.{eq_by_cmp, nat_cmp, is_eq, is_lt}
use Rattle.std.specs.FinMap as map_of
use Rattle.std.specs.FinMap.{get, get-entries, entries_sorted, find}
use Rattle.std.specs.FinMap.Entries.{is_sorted, below_all}
use Rattle.std.proofs.lemmas.Bool.{cases_eq}
use Rattle.std.proofs.lemmas.Bool.Decides.{nat_tests}
use Rattle.std.proofs.lemmas.Option.{same_Some, none-some}
use Rattle.dkg_journal.specs.Names.{Files, name_cmp, name_number}
use Rattle.dkg_journal.specs.Disk.{Torn, Inside, ImagesFollow, IsUnchanged, SameElse}
use Rattle.dkg_journal.specs.Opening.{AreUnbroken, first_break, broken_with, broken_rows, first_place}
use Rattle.dkg_journal.specs.Places.{Places, place_at}
use Rattle.dkg_journal.specs.Records.{IsShut, Staged, broken_at}
use Rattle.dkg_journal.specs.Segments.{segment_rows}
use Rattle.dkg_journal.specs.Steps.{IsOpenAt, IsSegmentAt, SegmentAt, Into}
use Rattle.dkg_journal.specs.declared.disk.Op.TheVariants.{Install}
use Rattle.dkg_values.specs.declared.name.Name.{Name}
use Rattle.dkg_values.specs.declared.name.Name.TheVariants.{Plan, Flat, Segment}
use Rattle.dkg_journal.proofs.Append.{IsParted, flat_apart, segments_apart}
use Rattle.dkg_journal.proofs.Shut.{torn_behind, torn_gate}
use Rattle.dkg_journal.proofs.Reading.{shut_whole, whole_unbroken}
use Rattle.dkg_journal.proofs.Rising.{below_none, both_are, both_true}

-- records and a gate that isn't open
pub shut_unbroken : (bs : List (List ℕ)) (place : ℕ) (x : List ℕ) → IsShut 0 bs place x → broken_at 0 x ≡ None
shut_unbroken bs place x shut = whole_unbroken 0 bs place x (shut_whole 0 bs place x shut)

first_none : (name : Name) (o : Option ℕ) (later : Option (Name × ℕ)) → first_place name o later ≡ None → (o ≡ None) × (later ≡ None)
first_none name None later is = (refl, is)
first_none name (Some place) later is = absurd (none-some (name, place) (sym is))

first_later : (name : Name) (o : Option ℕ) (later : Option (Name × ℕ)) → o ≡ None → first_place name o later ≡ later
first_later name o later is = ap (λ (x : Option ℕ). first_place name x later) is

at_segment : (s t : ℕ) (v : List ℕ) (rows : List (Name × List ℕ)) → s ≡ t → find name_cmp (Segment s) ((Segment t, v) ∷ rows) ≡ Some v
at_segment s t v rows is = ap (λ (b : Bool). cond b (Some v) (find name_cmp (Segment s) rows)) (same s t is)
  where
    same : (s t : ℕ) → s ≡ t → is_eq (nat_cmp (suc (suc s)) (suc (suc t))) ≡ true
    same s t is = grind (arith, nat_tests)

behind_segment : (s t : ℕ) (v : List ℕ) (rows : List (Name × List ℕ)) → s ≢ t → find name_cmp (Segment s) ((Segment t, v) ∷ rows) ≡ find name_cmp (Segment s) rows
behind_segment s t v rows ne = ap (λ (b : Bool). cond b (Some v) (find name_cmp (Segment s) rows)) (apart s t ne)
  where
    apart : (s t : ℕ) → s ≢ t → is_eq (nat_cmp (suc (suc s)) (suc (suc t))) ≡ false
    apart s t ne = grind (arith, nat_tests)

behind_plan : (s : ℕ) (v : List ℕ) (rows : List (Name × List ℕ)) → find name_cmp (Segment s) ((Plan, v) ∷ rows) ≡ find name_cmp (Segment s) rows
behind_plan s v rows = ap (λ (b : Bool). cond b (Some v) (find name_cmp (Segment s) rows)) (apart s)
  where
    apart : (s : ℕ) → is_eq (nat_cmp (suc (suc s)) 0) ≡ false
    apart s = grind (arith, nat_tests)

behind_flat : (s : ℕ) (v : List ℕ) (rows : List (Name × List ℕ)) → find name_cmp (Segment s) ((Flat, v) ∷ rows) ≡ find name_cmp (Segment s) rows
behind_flat s v rows = ap (λ (b : Bool). cond b (Some v) (find name_cmp (Segment s) rows)) (apart s)
  where
    apart : (s : ℕ) → is_eq (nat_cmp (suc (suc s)) 1) ≡ false
    apart s = grind (arith, nat_tests)

-- the files of segments by section
pub rows_find : (s : ℕ) (rows : List (Name × List ℕ)) → find nat_cmp s (segment_rows rows) ≡ find name_cmp (Segment s) rows
rows_find s [] = refl
rows_find s ((Plan, v) ∷ rows) = rows_find s rows ∙ sym (behind_plan s v rows)
rows_find s ((Flat, v) ∷ rows) = rows_find s rows ∙ sym (behind_flat s v rows)
rows_find s ((Segment t, v) ∷ rows) =
    ap (λ (b : Bool). cond b (Some v) (find nat_cmp s (segment_rows rows))) (same s t)
    ∙ ap (λ (o : Option (List ℕ)). cond (is_eq (nat_cmp (suc (suc s)) (suc (suc t)))) (Some v) o) (rows_find s rows)
  where
    same : (s t : ℕ) → is_eq (nat_cmp s t) ≡ is_eq (nat_cmp (suc (suc s)) (suc (suc t)))
    same s t = grind (arith, nat_tests)

-- each segment is whole where none is broken
rows_whole : (rows : List (ℕ × List ℕ)) → broken_rows rows ≡ None → (s : ℕ) (x : List ℕ) → find nat_cmp s rows ≡ Some x → broken_at 0 x ≡ None
rows_whole [] none s x is = absurd (none-some x is)
rows_whole (r ∷ rows) none s x is =
    let parts = first_none (Segment r.0) (broken_at 0 r.1) (broken_rows rows) none in
    elim (eq_by_cmp nat_cmp s r.0) as (λ (b : Bool). cond b (Some r.1) (find nat_cmp s rows) ≡ Some x → broken_at 0 x ≡ None) [
      | true ↦ λ here. ap (broken_at 0) (sym (same_Some r.1 x here)) ∙ parts.0
      | false ↦ λ later. rows_whole rows parts.1 s x later
    ] is

-- .. and none is broken where each is whole
pub rows_unbroken : (rows : List (ℕ × List ℕ)) → T (is_sorted nat_cmp rows) → ((s : ℕ) (x : List ℕ) → find nat_cmp s rows ≡ Some x → broken_at 0 x ≡ None) → broken_rows rows ≡ None
rows_unbroken [] sorted each = refl
rows_unbroken (r ∷ rows) sorted each =
    let parts = both_true (below_all nat_cmp r.0 rows) (is_sorted nat_cmp rows) sorted in
    first_later (Segment r.0) (broken_at 0 r.1) (broken_rows rows) (each r.0 r.1 (ap (λ (b : Bool). cond b (Some r.1) (find nat_cmp r.0 rows)) (itself r.0)))
    ∙ rows_unbroken rows parts.1 (λ s x later. each s x (ap (λ (b : Bool). cond b (Some r.1) (find nat_cmp s rows)) (apart s x later parts.0) ∙ later))
  where
    itself : (n : ℕ) → is_eq (nat_cmp n n) ≡ true
    itself n = grind (arith, nat_tests)

    apart : (s : ℕ) (x : List ℕ) → find nat_cmp s rows ≡ Some x → below_all nat_cmp r.0 rows ≡ true → eq_by_cmp nat_cmp s r.0 ≡ false
    apart s x later below = elim (cases_eq s r.0) [
      | inl is ↦ absurd (none-some x (sym (ap (λ (n : ℕ). find nat_cmp n rows) is ∙ below_none (λ (n : ℕ). n) r.0 rows below) ∙ later))
      | inr ne ↦ differ s r.0 ne
    ]
      where
        differ : (a b : ℕ) → a ≢ b → is_eq (nat_cmp a b) ≡ false
        differ a b ne = grind (arith, nat_tests)

rows_sorted : (rows : List (Name × List ℕ)) → T (is_sorted name_cmp rows) → T (is_sorted nat_cmp (segment_rows rows))
rows_sorted [] sorted = tt
rows_sorted ((Plan, v) ∷ rows) sorted = rows_sorted rows (both_true (below_all name_cmp Plan rows) (is_sorted name_cmp rows) sorted).1
rows_sorted ((Flat, v) ∷ rows) sorted = rows_sorted rows (both_true (below_all name_cmp Flat rows) (is_sorted name_cmp rows) sorted).1
rows_sorted ((Segment s, v) ∷ rows) sorted =
    let parts = both_true (below_all name_cmp (Segment s) rows) (is_sorted name_cmp rows) sorted in
    both (below_all nat_cmp s (segment_rows rows)) (is_sorted nat_cmp (segment_rows rows)) (below s rows parts.0) (rows_sorted rows parts.1)
  where
    both : (a b : Bool) → a ≡ true → T b → T (a && b)
    both a b is h = subst (λ (x : Bool). T (x && b)) (sym is) h

    below : (s : ℕ) (rows : List (Name × List ℕ)) → below_all name_cmp (Segment s) rows ≡ true → below_all nat_cmp s (segment_rows rows) ≡ true
    below s [] is = refl
    below s ((Plan, v) ∷ rows) is = below s rows (both_are (is_lt (nat_cmp (suc (suc s)) 0)) (below_all name_cmp (Segment s) rows) is).1
    below s ((Flat, v) ∷ rows) is = below s rows (both_are (is_lt (nat_cmp (suc (suc s)) 1)) (below_all name_cmp (Segment s) rows) is).1
    below s ((Segment t, v) ∷ rows) is =
        let parts = both_are (is_lt (nat_cmp (suc (suc s)) (suc (suc t)))) (below_all name_cmp (Segment s) rows) is in
        λ i. lower s t parts.0 i && below s rows parts.1 i
      where
        lower : (s t : ℕ) → is_lt (nat_cmp (suc (suc s)) (suc (suc t))) ≡ true → is_lt (nat_cmp s t) ≡ true
        lower s t is = grind (arith, nat_tests)

pub file_rows_sorted : (f : Files) → T (is_sorted nat_cmp (segment_rows (map_of.entries f)))
file_rows_sorted f = rows_sorted (map_of.entries f) (entries_sorted f)

module _ (f : Files) (none : get f Flat ≡ None) where
  is_rows : first_break f ≡ broken_rows (segment_rows (map_of.entries f))
  is_rows = ap (λ (o : Option (List ℕ)). broken_with o f) none

  found : (s : ℕ) → find nat_cmp s (segment_rows (map_of.entries f)) ≡ get f (Segment s)
  found s = rows_find s (map_of.entries f) ∙ sym (get-entries f (Segment s))

  pub whole_at : first_break f ≡ None → (s : ℕ) (x : List ℕ) → get f (Segment s) ≡ Some x → broken_at 0 x ≡ None
  whole_at unbroken s x is = rows_whole (segment_rows (map_of.entries f)) (sym is_rows ∙ unbroken) s x (found s ∙ is)

  pub unbroken_by : ((s : ℕ) (x : List ℕ) → get f (Segment s) ≡ Some x → broken_at 0 x ≡ None) → first_break f ≡ None
  unbroken_by each = is_rows ∙ rows_unbroken (segment_rows (map_of.entries f)) (file_rows_sorted f) (λ s x is. each s x (sym (found s) ∙ is))

-- one segment is another
pub unbroken_change : (section : ℕ) (d c : Files) → get d Flat ≡ None → SameElse (Segment section) d c → first_break d ≡ None → ((x : List ℕ) → get c (Segment section) ≡ Some x → broken_at 0 x ≡ None) → first_break c ≡ None
unbroken_change section d c no_flat others unbroken whole = unbroken_by c (others Flat (flat_apart section) ∙ no_flat) (λ s x is. elim (cases_eq s section) [
  | inl at ↦ whole x (ap (λ (n : ℕ). get c (Segment n)) (sym at) ∙ is)
  | inr ne ↦ whole_at d no_flat unbroken s x (sym (others (Segment s) (segments_apart s section ne)) ∙ is)
])

segment_unbroken : (place : Option ℕ) (file : Option (List ℕ)) (x : List ℕ) → IsSegmentAt place file → file ≡ Some x → broken_at 0 x ≡ None
segment_unbroken None file x at is = absurd (none-some x (sym at ∙ is))
segment_unbroken (Some p) file x at is = shut_unbroken at.0 p x (subst (IsShut 0 at.0 p) (same_Some at.1 x (sym at.2 ∙ is)) at.3)

-- what an open journal stands on
pub open_unbroken_images : (places : Places) (files : Files) (image : Files → Type 0) → IsOpenAt places files image → AreUnbroken image
open_unbroken_images places files image at = record {
  each = λ c now. unbroken_by c (at.only c now Flat flat_plan ∙ at.no_flat) (λ s x is. segment_unbroken (place_at places s) (get files (Segment s)) x (at.each s) (sym (at.only c now (Segment s) (segment_plan s)) ∙ is));
}
  where
    flat_plan : Flat ≢ Plan
    flat_plan e = absurd (omega (arith, ap name_number e))

    segment_plan : (s : ℕ) → Segment s ≢ Plan
    segment_plan s e = absurd (omega (arith, ap name_number e))

pub unchanged_unbroken : {D : Type 0} (files : D → Files) (image : D → Files → Type 0) (a b : D) → IsUnchanged files image a b → AreUnbroken (image a) → AreUnbroken (image b)
unchanged_unbroken files image a b same sound = record { each = λ c now. sound.each c (same.same_images c now) }

-- the install of a new segment
pub made_unbroken : (section : ℕ) (image next : Files → Type 0) → IsParted image → AreUnbroken image → ImagesFollow (Inside (Install (Segment section) (0 ∷ []))) image next → AreUnbroken next
made_unbroken section image next parted sound step = record {
  each = λ c now.
      let from = step.each c now in
      unbroken_change section from.0 c (parted from.0 from.1) from.2.0 (sound.each from.0 from.1) (λ x is. ⊎_elim
      (λ (same : get c (Segment section) ≡ get from.0 (Segment section)). whole_at from.0 (parted from.0 from.1) (sound.each from.0 from.1) section x (sym same ∙ is))
      (λ (new : get c (Segment section) ≡ Some (0 ∷ [])). ap (broken_at 0) (same_Some x (0 ∷ []) (sym is ∙ new)))
      from.2.1);
}

-- the write behind the closed gate
pub behind_unbroken : (section place n : ℕ) (files : Files) (image next : Files → Type 0) (at : SegmentAt section place files image) → IsParted image → AreUnbroken image → ImagesFollow (Into (Segment section) (Torn (place + 1) n at.bytes)) image next → AreUnbroken next
behind_unbroken section place n files image next at parted sound step = record {
  each = λ c now.
      let from = step.each c now in
      let file = from.2.1 in
      unbroken_change section from.0 c (parted from.0 from.1) from.2.0 (sound.each from.0 from.1) (λ x is.
      ap (broken_at 0) (same_Some x file.bytes (sym is ∙ file.there)) ∙ shut_unbroken at.bs place file.bytes (torn_behind 0 at.bs place n at.bytes file.bytes at.shut file.so));
}

-- .. and of the gate
pub gate_unbroken : (section : ℕ) (bs : List (List ℕ)) (body y : List ℕ) (place : ℕ) (image next : Files → Type 0) → Staged 0 bs body place y → IsParted image → AreUnbroken image → ImagesFollow (Into (Segment section) (Torn place 1 y)) image next → AreUnbroken next
gate_unbroken section bs body y place image next staged parted sound step = record {
  each = λ c now.
      let from = step.each c now in
      let file = from.2.1 in
      unbroken_change section from.0 c (parted from.0 from.1) from.2.0 (sound.each from.0 from.1) (λ x is.
      ap (broken_at 0) (same_Some x file.bytes (sym is ∙ file.there)) ∙ ⊎_elim
      (λ (f : IsShut 0 bs place file.bytes). shut_unbroken bs place file.bytes f)
      (λ (f : IsShut 0 (bs ++ body ∷ []) (place + 5 + length body) file.bytes). shut_unbroken (bs ++ body ∷ []) (place + 5 + length body) file.bytes f)
      (torn_gate 0 bs body place y file.bytes staged file.so));
}
