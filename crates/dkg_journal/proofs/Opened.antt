-- What the calls of an opening make of a disk's files.
use Rattle.std.proofs.Common.{◌≡◌, ◌≢◌, ◌⊎◌, inl, inr, ⊎_elim, ℕ, ◌<◌, ◌≤◌, Bool, true, false, cond, List, [], ◌∷◌, ◌++◌, length, Option, Some, None, is_some, refl, sym, ◌∙◌, ap, subst, arith}
use Rattle.std.specs.Prelude.{T, ◌||◌, filter, not}
use Rattle.std.specs.List.{list_any}
use Rattle.std.specs.Ordering.{eq_by_cmp, nat_cmp, is_eq}
use Rattle.std.specs.FinMap as map_of
use Rattle.std.specs.FinMap.{get, find, keys, insert, remove, get-entries, entries_sorted, contains_key-keys, get-from_entries}
use Rattle.std.specs.FinMap.Entries.{is_sorted, below_all}
use Rattle.std.specs.Cmp.{nat_cmp_total}
use Rattle.std.proofs.lemmas.Bool.{cases_eq}
use Rattle.std.proofs.lemmas.Bool.Decides.{nat_tests}
use Rattle.std.proofs.lemmas.List.{nil_from_length}
use Rattle.std.proofs.lemmas.Option.{same_Some, none-some}
use Rattle.dkg_values.specs.declared.name.Name.{Name}
use Rattle.dkg_values.specs.declared.name.Name.TheVariants.{Plan, Flat, Segment}
use Rattle.dkg_journal.specs.Names.{Files, name_cmp, name_number}
use Rattle.dkg_journal.specs.Disk.{ImagesFollow, IsUnchanged, Lands, files_after}
use Rattle.dkg_journal.specs.Records.{Whole, IsShut, broken_at, left_over, entries, entries_with, in_sections}
use Rattle.dkg_journal.specs.Places.{Places, place_at}
use Rattle.dkg_journal.specs.Found.{EndsAtPlace, FindsSegments, IsWholeFlat}
use Rattle.dkg_journal.specs.Opening.{AreUnbroken, first_break, broken_with, mend_at, mend_of, mends, open_calls, open_calls_with, removes, is_unnamed}
use Rattle.dkg_journal.specs.Segments.{Segments, parted, segment_rows, segments, segments_with}
use Rattle.dkg_journal.specs.Steps.{IsOpenAt, IsSegmentAt, Keeps}
use Rattle.dkg_journal.specs.Gated.{OpensAlike}
use Rattle.dkg_journal.specs.Operations.{Opens, TriesOperation, after_operation, journaled, opened_names}
use Rattle.dkg_journal.specs.Wholes.{Amid, AreOfWhole, after_all}
use Rattle.dkg_journal.specs.declared.opening.JournalEntry.{JournalEntry}
use Rattle.dkg_journal.specs.declared.disk.Op.{Op}
use Rattle.dkg_journal.specs.declared.disk.Op.TheVariants.{Install, Remove, WriteAt, Sync, Barrier}
use Rattle.dkg_journal.proofs.Amid.{after_both, amid_all, amid_split, whole_both}
use Rattle.dkg_journal.proofs.Append.{bodies_shut, flat_apart, segments_apart, flat_plan}
use Rattle.dkg_journal.proofs.AtOnce.{get_other, get_gone, gone_here}
use Rattle.dkg_journal.proofs.Order.{unique}
use Rattle.dkg_journal.proofs.Parted.{IsPart, of_one, parted_at, part_whole, flat_section, flat_above}
use Rattle.dkg_journal.proofs.Reading.{mended_shut, gated_shut, whole_bodies, whole_rest, whole_unbroken, rest_size}
use Rattle.dkg_journal.proofs.Rising.{below_none, both_true}
use Rattle.dkg_journal.proofs.Sections.{bodies_at, same_entries, entries_section, entries_above, with_section}
use Rattle.dkg_journal.proofs.SameFiles.{same_name, name_apart}
use Rattle.dkg_journal.proofs.Standing.{stands_for}
use Rattle.dkg_journal.proofs.Steps.{get_here}
use Rattle.dkg_journal.proofs.Unbroken.{unbroken_by, shut_unbroken, rows_find}

-- CALLS AT OTHER NAMES

abbrev IsElsewhere : Name → Op → Type 0
IsElsewhere q (Install name bytes) = q ≢ name
IsElsewhere q (Remove name) = q ≢ name
IsElsewhere q (WriteAt name place bytes) = ⊥
IsElsewhere q (Sync name) = ⊥
IsElsewhere q Barrier = ⊥

abbrev AreElsewhere : Name → List Op → Type 0
AreElsewhere q [] = Unit {0}
AreElsewhere q (op ∷ ops) = IsElsewhere q op × AreElsewhere q ops

one_else : (q : Name) (op : Op) (f : Files) → IsElsewhere q op → get (files_after op f) q ≡ get f q
one_else q (Install name bytes) f ne = get_other f name bytes q ne
one_else q (Remove name) f ne = get_gone f name q ne
one_else q (WriteAt name place bytes) f ne = absurd ne
one_else q (Sync name) f ne = absurd ne
one_else q Barrier f ne = absurd ne

all_else : (q : Name) (ops : List Op) (f : Files) → AreElsewhere q ops → get (after_all ops f) q ≡ get f q
all_else q [] f ne = refl
all_else q (op ∷ ops) f ne = all_else q ops (files_after op f) ne.1 ∙ one_else q op f ne.0

amid_else : (q : Name) (ops : List Op) (f c : Files) → AreElsewhere q ops → Amid ops f c → get c q ≡ get f q
amid_else q [] f c ne is = ap (λ (d : Files). get d q) is
amid_else q (op ∷ ops) f c ne amid = ⊎_elim
    (λ (is : c ≡ f). ap (λ (d : Files). get d q) is)
    (λ later. amid_else q ops (files_after op f) c ne.1 later ∙ one_else q op f ne.0)
    amid

else_both : (q : Name) (xs ys : List Op) → AreElsewhere q xs → AreElsewhere q ys → AreElsewhere q (xs ++ ys)
else_both q [] ys a b = b
else_both q (x ∷ xs) ys a b = (a.0, else_both q xs ys a.1 b)

-- MENDS

abbrev IsNoSegment : Name → Type 0
IsNoSegment q = (s : ℕ) → q ≢ Segment s

plan_no_segment : IsNoSegment Plan
plan_no_segment s e = absurd (omega (arith, ap name_number e))

mend_else : (q : Name) → IsNoSegment q → (rows : List (ℕ × List ℕ)) → AreElsewhere q (mends rows)
mend_else q not_one [] = tt
mend_else q not_one (r ∷ rows) = else_both q (mend_of r) (mends rows) (by_rest (left_over 0 (length r.1) r.1)) (mend_else q not_one rows)
  where
    by_rest : (rest : List ℕ) → AreElsewhere q (mend_at r.0 r.1 rest)
    by_rest [] = (not_one r.0, tt)
    by_rest (gate ∷ rest) = tt

mend_whole : (rows : List (ℕ × List ℕ)) → AreOfWhole (mends rows)
mend_whole [] = tt
mend_whole (r ∷ rows) = whole_both (mend_of r) (mends rows) (by_rest (left_over 0 (length r.1) r.1)) (mend_whole rows)
  where
    by_rest : (rest : List ℕ) → AreOfWhole (mend_at r.0 r.1 rest)
    by_rest [] = (tt, tt)
    by_rest (gate ∷ rest) = tt

abbrev picked : List ℕ → Option (List ℕ) → Option (List ℕ) → Option (List ℕ)
picked [] new old = new
picked (gate ∷ rest) new old = old

-- what a mend makes of a segment
abbrev mended_over : Option (List ℕ) → Option (List ℕ) → Option (List ℕ)
mended_over None old = old
mended_over (Some x) old = picked (left_over 0 (length x) x) (Some (x ++ 0 ∷ [])) old

itself : (n : ℕ) → is_eq (nat_cmp n n) ≡ true
itself n = grind (arith, nat_tests)

differ : (a b : ℕ) → a ≢ b → is_eq (nat_cmp a b) ≡ false
differ a b ne = grind (arith, nat_tests)

find_head : (s : ℕ) (r : ℕ × List ℕ) (rows : List (ℕ × List ℕ)) → s ≡ r.0 → find nat_cmp s (r ∷ rows) ≡ Some r.1
find_head s r rows is = ap (λ (b : Bool). cond b (Some r.1) (find nat_cmp s rows)) (ap (λ (n : ℕ). is_eq (nat_cmp s n)) (sym is) ∙ itself s)

find_tail : (s : ℕ) (r : ℕ × List ℕ) (rows : List (ℕ × List ℕ)) → s ≢ r.0 → find nat_cmp s (r ∷ rows) ≡ find nat_cmp s rows
find_tail s r rows ne = ap (λ (b : Bool). cond b (Some r.1) (find nat_cmp s rows)) (differ s r.0 ne)

one_mend : (section : ℕ) (x rest : List ℕ) (h : Files) → get (after_all (mend_at section x rest) h) (Segment section) ≡ picked rest (Some (x ++ 0 ∷ [])) (get h (Segment section))
one_mend section x [] h = get_here h (Segment section) (x ++ 0 ∷ [])
one_mend section x (gate ∷ rest) h = refl

other_mend : (s section : ℕ) (x rest : List ℕ) (h : Files) → s ≢ section → get (after_all (mend_at section x rest) h) (Segment s) ≡ get h (Segment s)
other_mend s section x [] h ne = get_other h (Segment section) (x ++ 0 ∷ []) (Segment s) (segments_apart s section ne)
other_mend s section x (gate ∷ rest) h ne = refl

mended_at : (rows : List (ℕ × List ℕ)) → T (is_sorted nat_cmp rows) → (h : Files) (s : ℕ) → get (after_all (mends rows) h) (Segment s) ≡ mended_over (find nat_cmp s rows) (get h (Segment s))
mended_at [] sorted h s = refl
mended_at (r ∷ rows) sorted h s =
    let parts = both_true (below_all nat_cmp r.0 rows) (is_sorted nat_cmp rows) sorted in
    let next = after_all (mend_of r) h in
    ap (λ (f : Files). get f (Segment s)) (after_both (mend_of r) (mends rows) h)
    ∙ mended_at rows parts.1 next s
    ∙ elim (cases_eq s r.0) [
      | inl is ↦
          let gone : find nat_cmp s rows ≡ None = ap (λ (n : ℕ). find nat_cmp n rows) is ∙ below_none (λ (n : ℕ). n) r.0 rows parts.0 in
          ap (λ (o : Option (List ℕ)). mended_over o (get next (Segment s))) gone
          ∙ ap (λ (n : ℕ). get next (Segment n)) is ∙ one_mend r.0 r.1 (left_over 0 (length r.1) r.1) h ∙ ap (λ (n : ℕ). mended_over (Some r.1) (get h (Segment n))) (sym is)
          ∙ ap (λ (o : Option (List ℕ)). mended_over o (get h (Segment s))) (sym (find_head s r rows is))
      | inr ne ↦
          ap (λ (o : Option (List ℕ)). mended_over (find nat_cmp s rows) o) (other_mend s r.0 r.1 (left_over 0 (length r.1) r.1) h ne)
          ∙ ap (λ (o : Option (List ℕ)). mended_over o (get h (Segment s))) (sym (find_tail s r rows ne))
    ]

abbrev MayMend : ℕ → List (ℕ × List ℕ) → Files → Files → Type 0
MayMend s rows h c = (get c (Segment s) ≡ get h (Segment s)) ⊎ (get c (Segment s) ≡ mended_over (find nat_cmp s rows) (get h (Segment s)))

mend_step : (r : ℕ × List ℕ) (rows : List (ℕ × List ℕ)) (h c : Files) (s : ℕ) → below_all nat_cmp r.0 rows ≡ true → ((f : Files) → Amid (mends rows) f c → MayMend s rows f c)
    → (rest : List ℕ) → left_over 0 (length r.1) r.1 ≡ rest → Amid (mend_at r.0 r.1 rest ++ mends rows) h c → MayMend s (r ∷ rows) h c
mend_step r rows h c s below ih [] is amid = ⊎_elim
    (λ (same : c ≡ h). inl (ap (λ (d : Files). get d (Segment s)) same))
    (λ later. elim (cases_eq s r.0) [
      | inl at ↦
          let gone : find nat_cmp s rows ≡ None = ap (λ (n : ℕ). find nat_cmp n rows) at ∙ below_none (λ (n : ℕ). n) r.0 rows below in
          let next = insert h (Segment r.0) (r.1 ++ 0 ∷ []) in
          let here : get c (Segment s) ≡ get next (Segment s) = ⊎_elim (λ (e : get c (Segment s) ≡ get next (Segment s)). e) (λ (e : get c (Segment s) ≡ mended_over (find nat_cmp s rows) (get next (Segment s))). e ∙ ap (λ (o : Option (List ℕ)). mended_over o (get next (Segment s))) gone) (ih next later) in
          inr (here ∙ ap (λ (n : ℕ). get next (Segment n)) at ∙ get_here h (Segment r.0) (r.1 ++ 0 ∷ []) ∙ sym (ap (λ (l : List ℕ). picked l (Some (r.1 ++ 0 ∷ [])) (get h (Segment s))) is) ∙ ap (λ (o : Option (List ℕ)). mended_over o (get h (Segment s))) (sym (find_head s r rows at)))
      | inr ne ↦
          let next = insert h (Segment r.0) (r.1 ++ 0 ∷ []) in
          let same : get next (Segment s) ≡ get h (Segment s) = get_other h (Segment r.0) (r.1 ++ 0 ∷ []) (Segment s) (segments_apart s r.0 ne) in
          ⊎_elim
          (λ (e : get c (Segment s) ≡ get next (Segment s)). inl (e ∙ same))
          (λ (e : get c (Segment s) ≡ mended_over (find nat_cmp s rows) (get next (Segment s))). inr (e ∙ (λ i. mended_over (sym (find_tail s r rows ne) i) (same i))))
          (ih next later)
    ])
    amid
mend_step r rows h c s below ih (gate ∷ rest) is amid = elim (cases_eq s r.0) [
  | inl at ↦
      let gone : find nat_cmp s rows ≡ None = ap (λ (n : ℕ). find nat_cmp n rows) at ∙ below_none (λ (n : ℕ). n) r.0 rows below in
      ⊎_elim
      (λ (e : get c (Segment s) ≡ get h (Segment s)). inl e)
      (λ (e : get c (Segment s) ≡ mended_over (find nat_cmp s rows) (get h (Segment s))). inl (e ∙ ap (λ (o : Option (List ℕ)). mended_over o (get h (Segment s))) gone))
      (ih h amid)
  | inr ne ↦ ⊎_elim
      (λ (e : get c (Segment s) ≡ get h (Segment s)). inl e)
      (λ (e : get c (Segment s) ≡ mended_over (find nat_cmp s rows) (get h (Segment s))). inr (e ∙ ap (λ (o : Option (List ℕ)). mended_over o (get h (Segment s))) (sym (find_tail s r rows ne))))
      (ih h amid)
]

-- .. or what was there, where the calls were stopped
amid_mends : (rows : List (ℕ × List ℕ)) → T (is_sorted nat_cmp rows) → (c : Files) (s : ℕ) (h : Files) → Amid (mends rows) h c → MayMend s rows h c
amid_mends [] sorted c s h is = inl (ap (λ (d : Files). get d (Segment s)) is)
amid_mends (r ∷ rows) sorted c s h amid =
    let parts = both_true (below_all nat_cmp r.0 rows) (is_sorted nat_cmp rows) sorted in
    mend_step r rows h c s parts.0 (λ f later. amid_mends rows parts.1 c s f later) (left_over 0 (length r.1) r.1) refl amid

-- a mended segment
module _ (bs : List (List ℕ)) (place : ℕ) (x : List ℕ) (whole : Whole 0 bs place x) where
  pub mended_shut_at : (old : Option (List ℕ)) → (place < length x → old ≡ Some x) → IsSegmentAt (Some place) (mended_over (Some x) old)
  mended_shut_at old same = by_rest (left_over 0 (length x) x) (whole_rest 0 bs place x whole)
    where
      by_rest : (rest : List ℕ) → rest ≡ whole.rest → IsSegmentAt (Some place) (picked rest (Some (x ++ 0 ∷ [])) old)
      by_rest [] is = (bs, x ++ 0 ∷ [], refl, mended_shut 0 bs place x whole (omega (arith, rest_size 0 bs place x whole, ap length is)))
      by_rest (gate ∷ rest) is = let low : place < length x = omega (arith, rest_size 0 bs place x whole, ap length is) in (bs, x, same low, gated_shut 0 bs place x whole low)

-- nothing stands behind records up to a file's end
no_rest : (bs : List (List ℕ)) (x : List ℕ) → Whole 0 bs (length x) x → left_over 0 (length x) x ≡ []
no_rest bs x whole = whole_rest 0 bs (length x) x whole ∙ nil_from_length whole.rest (omega (arith, rest_size 0 bs (length x) x whole))

-- WITHOUT A FLAT FILE

module _ (f : Files) (none : get f Flat ≡ None) where
  calls_none : open_calls f ≡ mends (map_of.entries (segments f))
  calls_none = ap (λ (o : Option (List ℕ)). open_calls_with o f) none

  found : (s : ℕ) → find nat_cmp s (map_of.entries (segments f)) ≡ get (segments f) s
  found s = sym (get-entries (segments f) s)

  pub these : (s : ℕ) → get (segments f) s ≡ get f (Segment s)
  these s = ap (λ (m : Segments). get m s) (ap (λ (o : Option (List ℕ)). segments_with o f) none) ∙ get-from_entries nat_cmp_total (segment_rows (map_of.entries f)) s ∙ rows_find s (map_of.entries f) ∙ sym (get-entries f (Segment s))

  module _ (places : Places) (ends : (s : ℕ) → EndsAtPlace (place_at places s) (get (segments f) s)) where
    -- each segment, before or after
    seg_shut : (s : ℕ) (file : Option (List ℕ)) (place : Option ℕ) → EndsAtPlace place file → (old : Option (List ℕ)) → old ≡ file → IsSegmentAt place (mended_over file old)
    seg_shut s file None ends old same = subst (λ (o : Option (List ℕ)). mended_over o old ≡ None) (sym ends) (same ∙ ends)
    seg_shut s file (Some p) ends old same = subst (λ (o : Option (List ℕ)). IsSegmentAt (Some p) (mended_over o old)) (sym ends.2) (mended_shut_at ends.0 p ends.1 ends.3 old (λ low. same ∙ ends.2))

    pub opened_none : (s : ℕ) → IsSegmentAt (place_at places s) (get (after_all (open_calls f) f) (Segment s))
    opened_none s = subst (λ (l : List Op). IsSegmentAt (place_at places s) (get (after_all l f) (Segment s))) (sym calls_none)
        (subst (λ (o : Option (List ℕ)). IsSegmentAt (place_at places s) o) (sym (mended_at (map_of.entries (segments f)) (entries_sorted (segments f)) f s ∙ ap (λ (o : Option (List ℕ)). mended_over o (get f (Segment s))) (found s)))
        (seg_shut s (get (segments f) s) (place_at places s) (ends s) (get f (Segment s)) (sym (these s))))

    pub flat_none : get (after_all (open_calls f) f) Flat ≡ None
    flat_none = ap (λ (l : List Op). get (after_all l f) Flat) calls_none ∙ all_else Flat (mends (map_of.entries (segments f))) f (mend_else Flat flat_apart (map_of.entries (segments f))) ∙ none

    -- what a stop leaves
    module _ (c : Files) (amid : Amid (open_calls f) f c) where
      amid_none : Amid (mends (map_of.entries (segments f))) f c
      amid_none = subst (λ (l : List Op). Amid l f c) calls_none amid

      flat_still : get c Flat ≡ None
      flat_still = amid_else Flat (mends (map_of.entries (segments f))) f c (mend_else Flat flat_apart (map_of.entries (segments f))) amid_none ∙ none

      plan_still : get c Plan ≡ get f Plan
      plan_still = amid_else Plan (mends (map_of.entries (segments f))) f c (mend_else Plan plan_no_segment (map_of.entries (segments f))) amid_none

      seg_case : (s : ℕ) (place : Option ℕ) (file : Option (List ℕ)) → EndsAtPlace place file → file ≡ get f (Segment s) → (get c (Segment s) ≡ get f (Segment s)) ⊎ (get c (Segment s) ≡ mended_over file (get f (Segment s)))
          → (bodies_at (get c (Segment s)) ≡ bodies_at (get f (Segment s))) × ((x : List ℕ) → get c (Segment s) ≡ Some x → broken_at 0 x ≡ None)
      seg_case s None file ends same may =
          let gone : get c (Segment s) ≡ None = ⊎_elim (λ (e : get c (Segment s) ≡ get f (Segment s)). e ∙ sym same ∙ ends) (λ (e : get c (Segment s) ≡ mended_over file (get f (Segment s))). e ∙ ap (λ (o : Option (List ℕ)). mended_over o (get f (Segment s))) ends ∙ sym same ∙ ends) may in
          (ap bodies_at (gone ∙ sym ends ∙ same), λ x is. absurd (none-some x (sym gone ∙ is)))
      seg_case s (Some p) file ends same may =
          let bs = ends.0 in
          let x = ends.1 in
          let whole = ends.3 in
          let was : get f (Segment s) ≡ Some x = sym same ∙ ends.2 in
          let before : bodies_at (get f (Segment s)) ≡ bs = ap bodies_at was ∙ whole_bodies 0 bs p x whole in
          ⊎_elim
          (λ (e : get c (Segment s) ≡ get f (Segment s)). (ap bodies_at e, λ y is. ap (broken_at 0) (same_Some y x (sym is ∙ e ∙ was)) ∙ whole_unbroken 0 bs p x whole))
          (λ (e : get c (Segment s) ≡ mended_over file (get f (Segment s))).
          let at = mended_shut_at bs p x whole (get f (Segment s)) (λ low. was) in
          let now : get c (Segment s) ≡ Some at.1 = e ∙ ap (λ (o : Option (List ℕ)). mended_over o (get f (Segment s))) ends.2 ∙ at.2 in
          (bodies_shut at.0 p at.1 _ now at.3 ∙ same_shut at.0 at.1 at.2 at.3 ∙ sym before, λ y is. ap (broken_at 0) (same_Some y at.1 (sym is ∙ now)) ∙ shut_unbroken at.0 p at.1 at.3))
          may
        where
          same_shut : (bs' : List (List ℕ)) (y : List ℕ) → mended_over (Some ends.1) (get f (Segment s)) ≡ Some y → IsShut 0 bs' p y → bs' ≡ ends.0
          same_shut bs' y is shut = sym (bodies_shut bs' p y (mended_over (Some ends.1) (get f (Segment s))) is shut) ∙ by_rest (left_over 0 (length ends.1) ends.1) (whole_rest 0 ends.0 p ends.1 ends.3)
            where
              by_rest : (rest : List ℕ) → rest ≡ ends.3.rest → bodies_at (picked rest (Some (ends.1 ++ 0 ∷ [])) (get f (Segment s))) ≡ ends.0
              by_rest [] is = bodies_shut ends.0 p (ends.1 ++ 0 ∷ []) _ refl (mended_shut 0 ends.0 p ends.1 ends.3 (omega (arith, rest_size 0 ends.0 p ends.1 ends.3, ap length is)))
              by_rest (gate ∷ rest) is = ap bodies_at (sym same ∙ ends.2) ∙ whole_bodies 0 ends.0 p ends.1 ends.3

      seg_each : (s : ℕ) → (bodies_at (get c (Segment s)) ≡ bodies_at (get f (Segment s))) × ((x : List ℕ) → get c (Segment s) ≡ Some x → broken_at 0 x ≡ None)
      seg_each s = seg_case s (place_at places s) (get (segments f) s) (ends s) (these s)
          (⊎_elim (λ e. inl e) (λ e. inr (e ∙ ap (λ (o : Option (List ℕ)). mended_over o (get f (Segment s))) (found s))) (amid_mends (map_of.entries (segments f)) (entries_sorted (segments f)) c s f amid_none))

      pub keeps_none : Keeps f c
      keeps_none = record { plan = plan_still; same = same_entries c f flat_still none (λ s. (seg_each s).0) }

      pub unbroken_none : first_break c ≡ None
      unbroken_none = unbroken_by c flat_still (λ s x is. (seg_each s).1 x is)

-- OVER A FLAT FILE

abbrev all_remove : List Name → List Op
all_remove names = removes names

remove_else : (q : Name) → IsNoSegment q → (m : Segments) (names : List Name) → AreElsewhere q (removes (filter (is_unnamed m) names))
remove_else q not_one m [] = tt
remove_else q not_one m (Plan ∷ names) = remove_else q not_one m names
remove_else q not_one m (Flat ∷ names) = remove_else q not_one m names
remove_else q not_one m (Segment s ∷ names) = elim (is_unnamed m (Segment s)) as (λ (b : Bool). AreElsewhere q (removes (cond b (Segment s ∷ filter (is_unnamed m) names) (filter (is_unnamed m) names)))) [
  | true ↦ (not_one s, remove_else q not_one m names)
  | false ↦ remove_else q not_one m names
]

remove_whole : (names : List Name) → AreOfWhole (removes names)
remove_whole [] = tt
remove_whole (n ∷ names) = (tt, remove_whole names)

none_stays : (q : Name) (names : List Name) (h : Files) → get h q ≡ None → get (after_all (removes names) h) q ≡ None
none_stays q [] h none = none
none_stays q (n ∷ names) h none = none_stays q names (remove h n) (elim (same_name q n) [
  | inl is ↦ ap (λ (x : Name). get (remove h n) x) is ∙ gone_here h n
  | inr ne ↦ get_gone h n q ne ∙ none
])

-- a name that is among them
removed : (p : Name → Bool) (q : Name) → p q ≡ true → (names : List Name) (h : Files) → list_any (eq_by_cmp name_cmp q) names ≡ true → get (after_all (removes (filter p names)) h) q ≡ None
removed p q passing [] h is = absurd (let e : ◌≡◌ {A = Bool} false true = is in cc)
removed p q passing (n ∷ names) h is = elim (same_name q n) [
  | inl same ↦
      let passes : p n ≡ true = ap p (sym same) ∙ passing in
      ap (λ (b : Bool). get (after_all (removes (cond b (n ∷ filter p names) (filter p names))) h) q) passes
      ∙ none_stays q (filter p names) (remove h n) (ap (λ (x : Name). get (remove h n) x) same ∙ gone_here h n)
  | inr ne ↦
      let later : list_any (eq_by_cmp name_cmp q) names ≡ true = sym (ap (λ (b : Bool). b || list_any (eq_by_cmp name_cmp q) names) (name_apart q n ne)) ∙ is in
      elim (p n) as (λ (b : Bool). get (after_all (removes (cond b (n ∷ filter p names) (filter p names))) h) q ≡ None) [
        | true ↦ removed p q passing names (remove h n) later
        | false ↦ removed p q passing names h later
      ]
]

module _ (f : Files) (file : List ℕ) (there : get f Flat ≡ Some file) (flat_whole : first_break f ≡ None) (bs : List (List ℕ)) (flat_place : ℕ) (whole : Whole 8 bs flat_place file) where
  are : segments f ≡ parted bs
  are = ap (λ (o : Option (List ℕ)). segments_with o f) there ∙ ap parted (whole_bodies 8 bs flat_place file whole)

  abbrev first : List Op
  first = removes (filter (is_unnamed (segments f)) (keys f))

  abbrev second : List Op
  second = mends (map_of.entries (segments f))

  calls_some : open_calls f ≡ first ++ (second ++ Remove Flat ∷ [])
  calls_some = ap (λ (o : Option (List ℕ)). open_calls_with o f) there

  abbrev mid : Files
  mid = after_all second (after_all first f)

  abbrev last : Files
  last = remove mid Flat

  is_last : after_all (open_calls f) f ≡ last
  is_last = ap (λ (l : List Op). after_all l f) calls_some ∙ after_both first (second ++ Remove Flat ∷ []) f ∙ after_both second (Remove Flat ∷ []) (after_all first f)

  flat_mid : get mid Flat ≡ Some file
  flat_mid = all_else Flat second (after_all first f) (mend_else Flat flat_apart (map_of.entries (segments f))) ∙ all_else Flat first f (remove_else Flat flat_apart (segments f) (keys f)) ∙ there

  plan_last : get last Plan ≡ get f Plan
  plan_last = get_gone mid Flat Plan (λ e. flat_plan (sym e)) ∙ all_else Plan second (after_all first f) (mend_else Plan plan_no_segment (map_of.entries (segments f))) ∙ all_else Plan first f (remove_else Plan plan_no_segment (segments f) (keys f))

  pub flat_last : get last Flat ≡ None
  flat_last = gone_here mid Flat

  mid_segment : (s : ℕ) → get mid (Segment s) ≡ mended_over (get (segments f) s) (get (after_all first f) (Segment s))
  mid_segment s = mended_at (map_of.entries (segments f)) (entries_sorted (segments f)) (after_all first f) s ∙ ap (λ (o : Option (List ℕ)). mended_over o (get (after_all first f) (Segment s))) (sym (get-entries (segments f) s))

  last_segment : (s : ℕ) → get last (Segment s) ≡ get mid (Segment s)
  last_segment s = get_gone mid Flat (Segment s) (λ e. flat_apart s (sym e))

  -- a segment that isn't named is gone
  unnamed_gone : (s : ℕ) → get (segments f) s ≡ None → get (after_all first f) (Segment s) ≡ None
  unnamed_gone s none =
      let passing : is_unnamed (segments f) (Segment s) ≡ true = ap (λ (o : Option (List ℕ)). not (is_some o)) none in
      by_there (get f (Segment s)) refl passing
    where
      by_there : (o : Option (List ℕ)) → get f (Segment s) ≡ o → is_unnamed (segments f) (Segment s) ≡ true → get (after_all first f) (Segment s) ≡ None
      by_there None is passing = none_stays (Segment s) (filter (is_unnamed (segments f)) (keys f)) f is
      by_there (Some x) is passing = removed (is_unnamed (segments f)) (Segment s) passing (keys f) f (sym (contains_key-keys f (Segment s)) ∙ ap is_some is)

  pub seg_last : (s : ℕ) (place : Option ℕ) (o : Option (List ℕ)) → get (segments f) s ≡ o → EndsAtPlace place o → IsSegmentAt place (get last (Segment s)) × (bodies_at (get last (Segment s)) ≡ of_one s bs)
  seg_last s place None is ends =
      let gone : get last (Segment s) ≡ None = last_segment s ∙ mid_segment s ∙ ap (λ (o : Option (List ℕ)). mended_over o (get (after_all first f) (Segment s))) is ∙ unnamed_gone s is in
      let part : of_one s bs ≡ [] = subst (λ (o : Option (List ℕ)). IsPart (of_one s bs) o) (sym (ap (λ (m : Segments). get m s) are) ∙ is) (parted_at s bs) in
      (by_place place ends gone, ap bodies_at gone ∙ sym part)
    where
      by_place : (place : Option ℕ) → EndsAtPlace place None → get last (Segment s) ≡ None → IsSegmentAt place (get last (Segment s))
      by_place None ends gone = gone
      by_place (Some p) ends gone = absurd (none-some ends.1 ends.2)
  seg_last s place (Some x) is ends =
      let entire = part_whole s bs x whole.front.short (sym (ap (λ (m : Segments). get m s) are) ∙ is) in
      let long : length x ≤ length x = omega arith in
      let shut = mended_shut 0 (of_one s bs) (length x) x entire long in
      let left : left_over 0 (length x) x ≡ [] = no_rest (of_one s bs) x entire in
      let over : mended_over (Some x) (get (after_all first f) (Segment s)) ≡ Some (x ++ 0 ∷ []) = ap (λ (l : List ℕ). picked l (Some (x ++ 0 ∷ [])) (get (after_all first f) (Segment s))) left in
      let now : get last (Segment s) ≡ Some (x ++ 0 ∷ []) = last_segment s ∙ mid_segment s ∙ ap (λ (o : Option (List ℕ)). mended_over o (get (after_all first f) (Segment s))) is ∙ over in
      (by_place place ends now shut, bodies_shut (of_one s bs) (length x) (x ++ 0 ∷ []) _ now shut)
    where
      by_place : (place : Option ℕ) → EndsAtPlace place (Some x) → get last (Segment s) ≡ Some (x ++ 0 ∷ []) → IsShut 0 (of_one s bs) (length x) (x ++ 0 ∷ []) → IsSegmentAt place (get last (Segment s))
      by_place None ends now shut = absurd (none-some x (sym ends))
      by_place (Some p) ends now shut =
          let same : x ≡ ends.1 = same_Some x ends.1 ends.2 in
          let here : Whole 0 ends.0 p x = subst (Whole 0 ends.0 p) (sym same) ends.3 in
          let rests : here.rest ≡ [] = sym (whole_rest 0 ends.0 p x here) ∙ no_rest (of_one s bs) x (part_whole s bs x whole.front.short (sym (ap (λ (m : Segments). get m s) are) ∙ is)) in
          let ended : p ≡ length x = omega (arith, rest_size 0 ends.0 p x here, ap length rests) in
          (of_one s bs, x ++ 0 ∷ [], now, subst (λ (n : ℕ). IsShut 0 (of_one s bs) n (x ++ 0 ∷ [])) (sym ended) shut)

  -- the entries are the same
  entries_last : entries last ≡ entries f
  entries_last =
      let was : entries f ≡ in_sections bs = ap (λ (o : Option (List ℕ)). entries_with o f) there ∙ ap in_sections (whole_bodies 8 bs flat_place file whole) in
      unique (entries last) (in_sections bs) 0 0 (entries_above last flat_last) (flat_above bs) (λ s. entries_section last flat_last s ∙ ap (with_section s) (at_last s) ∙ sym (flat_section s bs)) ∙ sym was
    where
      at_last : (s : ℕ) → bodies_at (get last (Segment s)) ≡ of_one s bs
      at_last s = by_there (get (segments f) s) refl
        where
          by_there : (o : Option (List ℕ)) → get (segments f) s ≡ o → bodies_at (get last (Segment s)) ≡ of_one s bs
          by_there None is = (seg_last s None None is refl).1
          by_there (Some x) is = (seg_last s (Some (length x)) (Some x) is (of_one s bs, x, refl, part_whole s bs x whole.front.short (sym (ap (λ (m : Segments). get m s) are) ∙ is))).1

  -- what a stop leaves
  module _ (c : Files) (amid : Amid (open_calls f) f c) where
    early : get c Flat ≡ Some file → get c Plan ≡ get f Plan → Keeps f c × (first_break c ≡ None)
    early flat plan = (
      record { plan = plan; same = ap (λ (o : Option (List ℕ)). entries_with o c) flat ∙ sym (ap (λ (o : Option (List ℕ)). entries_with o f) there) },
      ap (λ (o : Option (List ℕ)). broken_with o c) flat ∙ sym (ap (λ (o : Option (List ℕ)). broken_with o f) there) ∙ flat_whole,
    )

    at_end : c ≡ last → Keeps f c × (first_break c ≡ None)
    at_end is = (
      record { plan = ap (λ (d : Files). get d Plan) is ∙ plan_last; same = ap entries is ∙ entries_last },
      ap first_break is ∙ unbroken_by last flat_last (λ s x here. by_there s x (get (segments f) s) refl here),
    )
      where
        by_there : (s : ℕ) (x : List ℕ) (o : Option (List ℕ)) → get (segments f) s ≡ o → get last (Segment s) ≡ Some x → broken_at 0 x ≡ None
        by_there s x None is here = absurd (none-some x (sym ((seg_last s None None is refl).0) ∙ here))
        by_there s x (Some y) is here =
            let at = (seg_last s (Some (length y)) (Some y) is (of_one s bs, y, refl, part_whole s bs y whole.front.short (sym (ap (λ (m : Segments). get m s) are) ∙ is))).0 in
            ap (broken_at 0) (same_Some x at.1 (sym here ∙ at.2)) ∙ shut_unbroken at.0 (length y) at.1 at.3

    pub keeps_some : Keeps f c × (first_break c ≡ None)
    keeps_some = ⊎_elim
        (λ a. early (amid_else Flat first f c (remove_else Flat flat_apart (segments f) (keys f)) a ∙ there) (amid_else Plan first f c (remove_else Plan plan_no_segment (segments f) (keys f)) a))
        (λ later. ⊎_elim
        (λ b. early (amid_else Flat second (after_all first f) c (mend_else Flat flat_apart (map_of.entries (segments f))) b ∙ all_else Flat first f (remove_else Flat flat_apart (segments f) (keys f)) ∙ there)
        (amid_else Plan second (after_all first f) c (mend_else Plan plan_no_segment (map_of.entries (segments f))) b ∙ all_else Plan first f (remove_else Plan plan_no_segment (segments f) (keys f))))
        (λ end. ⊎_elim
        (λ (is : c ≡ mid). early (ap (λ (d : Files). get d Flat) is ∙ flat_mid) (ap (λ (d : Files). get d Plan) is ∙ all_else Plan second (after_all first f) (mend_else Plan plan_no_segment (map_of.entries (segments f))) ∙ all_else Plan first f (remove_else Plan plan_no_segment (segments f) (keys f))))
        (λ (is : c ≡ last). at_end is)
        end)
        (amid_split second (Remove Flat ∷ []) (after_all first f) c later))
        (amid_split first (second ++ Remove Flat ∷ []) f c (subst (λ (l : List Op). Amid l f c) calls_some amid))

  module _ (places : Places) (ends : (s : ℕ) → EndsAtPlace (place_at places s) (get (segments f) s)) where
    pub opened_some : (s : ℕ) → IsSegmentAt (place_at places s) (get (after_all (open_calls f) f) (Segment s))
    opened_some s = subst (λ (d : Files). IsSegmentAt (place_at places s) (get d (Segment s))) (sym is_last) (seg_last s (place_at places s) (get (segments f) s) refl (ends s)).0

  pub flat_gone : get (after_all (open_calls f) f) Flat ≡ None
  flat_gone = ap (λ (d : Files). get d Flat) is_last ∙ flat_last

-- all calls of an opening put or take away whole files
pub open_whole : (f : Files) → AreOfWhole (open_calls f)
open_whole f = by_flat (get f Flat)
  where
    by_flat : (o : Option (List ℕ)) → AreOfWhole (open_calls_with o f)
    by_flat None = mend_whole (map_of.entries (segments f))
    by_flat (Some file) = whole_both (removes (filter (is_unnamed (segments f)) (keys f))) (mends (map_of.entries (segments f)) ++ Remove Flat ∷ []) (remove_whole (filter (is_unnamed (segments f)) (keys f))) (whole_both (mends (map_of.entries (segments f))) (Remove Flat ∷ []) (mend_whole (map_of.entries (segments f))) (tt, tt))

-- WHAT WAS FOUND

module _ (f : Files) (waiting : List JournalEntry) (places : Places) (calls : List Op) (finds : FindsSegments f waiting places calls) where
  -- wherever the calls are stopped
  pub finds_keeps : (c : Files) → Amid calls f c → Keeps f c × (first_break c ≡ None)
  finds_keeps c amid = by_flat (get f Flat) refl finds.flat (subst (λ (l : List Op). Amid l f c) finds.made amid)
    where
      by_flat : (o : Option (List ℕ)) → get f Flat ≡ o → IsWholeFlat o → Amid (open_calls f) f c → Keeps f c × (first_break c ≡ None)
      by_flat None is flat amid = (keeps_none f is places finds.ends c amid, unbroken_none f is places finds.ends c amid)
      by_flat (Some file) is flat amid = keeps_some f file is finds.unbroken flat.0 flat.1 flat.2 c amid

  -- .. and when all are done
  pub finds_open : (g : Files) (next : Files → Type 0) → g ≡ after_all calls f → Lands g next → IsOpenAt places g next
  finds_open g next is lands = by_flat (get f Flat) refl finds.flat
    where
      done : g ≡ after_all (open_calls f) f
      done = is ∙ ap (λ (l : List Op). after_all l f) finds.made

      by_flat : (o : Option (List ℕ)) → get f Flat ≡ o → IsWholeFlat o → IsOpenAt places g next
      by_flat None at flat = record {
        no_flat = ap (λ (d : Files). get d Flat) done ∙ flat_none f at places finds.ends;
        each = λ s. subst (λ (d : Files). IsSegmentAt (place_at places s) (get d (Segment s))) (sym done) (opened_none f at places finds.ends s);
        only = λ c now q ne. ap (λ (d : Files). get d q) (lands.only c now);
      }
      by_flat (Some file) at flat = record {
        no_flat = ap (λ (d : Files). get d Flat) done ∙ flat_gone f file at finds.unbroken flat.0 flat.1 flat.2;
        each = λ s. subst (λ (d : Files). IsSegmentAt (place_at places s) (get d (Segment s))) (sym done) (opened_some f file at finds.unbroken flat.0 flat.1 flat.2 places finds.ends s);
        only = λ c now q ne. ap (λ (d : Files). get d q) (lands.only c now);
      }

  pub finds_whole : AreOfWhole calls
  finds_whole = subst AreOfWhole (sym finds.made) (open_whole f)

  module _ (image next : Files → Type 0) (lands : Lands f image) where
    -- where nothing was loose
    amid_here : ImagesFollow (Amid calls) image next → (c : Files) → next c → Amid calls f c
    amid_here step c now = let from = step.each c now in subst (λ (d : Files). Amid calls d c) (lands.only from.0 from.1) from.2

    pub follows_keeps : ImagesFollow (Amid calls) image next → ImagesFollow Keeps image next
    follows_keeps step = record { each = λ c now. let from = step.each c now in (from.0, from.1, subst (λ (d : Files). Keeps d c) (sym (lands.only from.0 from.1)) (finds_keeps c (amid_here step c now)).0) }

    pub follows_unbroken : ImagesFollow (Amid calls) image next → AreUnbroken next
    follows_unbroken step = record { each = λ c now. (finds_keeps c (amid_here step c now)).1 }

    pub follows_tries : (n : ℕ) → ImagesFollow (Amid calls) image next → (c : Files) → next c → TriesOperation (Opens n) f c
    follows_tries n step c now = let keeps = (finds_keeps c (amid_here step c now)).0 in inr (inr (keeps.same, keeps.plan))

  pub finds_alike : (g : Files) → g ≡ after_all calls f → OpensAlike f g
  finds_alike g is = let kept = finds_keeps g (amid_all calls f g is) in record { same_broken = kept.1 ∙ sym finds.unbroken; same_entries = kept.0.same }

  -- what the files stand for
  pub opened_standing : (g : Files) → g ≡ after_all calls f → keys (after_all calls f) ≡ opened_names (entries f) (keys f) → (n : ℕ) → journaled g ≡ after_operation (Opens n) (journaled f)
  opened_standing g is names n = let kept = (finds_keeps g (amid_all calls f g is)).0 in stands_for g (after_operation (Opens n) (journaled f)) kept.same kept.plan (ap (λ (m : Files). keys m) is ∙ names)

pub unchanged_keeps : {D : Type 0} (files : D → Files) (image : D → Files → Type 0) (a b : D) → IsUnchanged files image a b → ImagesFollow Keeps (image a) (image b)
unchanged_keeps files image a b same = record { each = λ c now. (c, same.same_images c now, record { plan = refl; same = refl }) }
