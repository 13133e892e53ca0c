-- The entries of segments, with the places of their gates.
use Rattle.std.proofs.Common.{◌≡◌, ◌⊎◌, inl, inr, ⊎_elim, ℕ, suc, ◌+◌, ◌==◌, Bool, true, false, cond, List, [], ◌∷◌, ◌++◌, map, length, drop, Option, Some, None, refl, sym, ◌∙◌, ap, subst, arith}
use Rattle.std.specs.Prelude.{T, ◌&&◌, flat_map}
use Rattle.std.specs.Ordering.{nat_cmp, is_lt}
use Rattle.std.specs.FinMap as map_of
use Rattle.std.specs.FinMap.{get, find, get-entries, entries_sorted}
use Rattle.std.specs.FinMap.Entries.{is_sorted, below_all}
use Rattle.std.proofs.lemmas.Bool.Decides.{nat_tests}
use Rattle.dkg_values.specs.declared.name.Name.{Name}
use Rattle.dkg_values.specs.declared.name.Name.TheVariants.{Plan, Flat, Segment}
use Rattle.dkg_journal.specs.Names.{Files, name_cmp}
use Rattle.dkg_journal.specs.Found.{FindsSegments, IsWholeFlat, gated_row}
use Rattle.dkg_journal.specs.Gated.{gated, gated_behind, gated_entries, gated_from, gated_of}
use Rattle.dkg_journal.specs.Places.{Places}
use Rattle.dkg_journal.specs.Records.{SectionEntry, Whole, bodies, entries, entries_with, in_sections, segment_entries}
use Rattle.dkg_journal.specs.Segments.{Segments, parted, segment_rows, segments, segments_with}
use Rattle.dkg_journal.specs.Views.{view, views}
use Rattle.dkg_journal.specs.declared.disk.Op.{Op}
use Rattle.dkg_journal.specs.declared.opening.JournalEntry.{JournalEntry}
use Rattle.dkg_journal.proofs.Finding.{are_parted, rows_entries}
use Rattle.dkg_journal.proofs.Order.{of_section, Above, unique}
use Rattle.dkg_journal.proofs.Parted.{IsPart, of_one, parted_at, part_whole, flat_section, flat_above}
use Rattle.dkg_journal.proofs.Reading.{whole_bodies}
use Rattle.dkg_journal.proofs.Rising.{both_are, both_true}
use Rattle.dkg_journal.proofs.Sections.{bodies_at, in_rows, low_all, rows_above, with_section}
use Rattle.dkg_journal.proofs.Unbroken.{rows_find}

-- the entries of one segment
abbrev pub row_entries : ℕ × List ℕ → List SectionEntry
row_entries row = with_section row.0 (bodies 0 (length row.1) row.1)

-- THE PLACES OF GATES

same_number : (n : ℕ) → (n == n) ≡ true
same_number n = grind (arith, nat_tests)

above_number : (n s : ℕ) → is_lt (nat_cmp n s) ≡ true → (s == n) ≡ false
above_number n s is = grind (arith, nat_tests)

abbrev total : List (List ℕ) → ℕ
total [] = 0
total (b ∷ bs) = (5 + length b) + total bs

gated_run : (section place : ℕ) (bs : List (List ℕ)) (rest : List SectionEntry) → gated_behind section place (with_section section bs ++ rest) ≡ gated_from section place bs ++ gated_behind section (place + total bs) rest
gated_run section place [] rest = ap (λ (n : ℕ). gated_behind section n rest) (omega arith)
gated_run section place (b ∷ bs) rest =
    ap (λ (t : Bool). (section, cond t place 0 ∷ b) ∷ gated_behind section (cond t place 0 + (5 + length b)) (with_section section bs ++ rest)) (same_number section)
    ∙ ap (λ (l : List SectionEntry). (section, place ∷ b) ∷ l) (gated_run section (place + (5 + length b)) bs rest
    ∙ ap (λ (n : ℕ). gated_from section (place + (5 + length b)) bs ++ gated_behind section n rest) (omega arith))

-- no section of these is the one before, or that one goes on at its beginning
abbrev IsFresh : ℕ → ℕ → List (ℕ × List ℕ) → Type 0
IsFresh section place rows = (place ≡ 0) ⊎ (below_all nat_cmp section rows ≡ true)

fresh_at : (n q s : ℕ) (x : List ℕ) (rows : List (ℕ × List ℕ)) → IsFresh n q ((s, x) ∷ rows) → cond (s == n) q 0 ≡ 0
fresh_at n q s x rows fresh = ⊎_elim
    (λ (zero : q ≡ 0). elim (s == n) as (λ (b : Bool). cond b q 0 ≡ 0) [ true ↦ zero | false ↦ refl ])
    (λ (below : below_all nat_cmp n ((s, x) ∷ rows) ≡ true). ap (λ (b : Bool). cond b q 0) (above_number n s (both_are (is_lt (nat_cmp n s)) (below_all nat_cmp n rows) below).0))
    fresh

fresh_tail : (n q s : ℕ) (x : List ℕ) (rows : List (ℕ × List ℕ)) → IsFresh n q ((s, x) ∷ rows) → IsFresh n q rows
fresh_tail n q s x rows fresh = ⊎_elim (λ zero. inl zero) (λ (below : below_all nat_cmp n ((s, x) ∷ rows) ≡ true). inr (both_are (is_lt (nat_cmp n s)) (below_all nat_cmp n rows) below).1) fresh

row_step : (n q s : ℕ) (x : List ℕ) (rows : List (ℕ × List ℕ)) → below_all nat_cmp s rows ≡ true → IsFresh n q ((s, x) ∷ rows) → ((m p : ℕ) → IsFresh m p rows → gated_behind m p (flat_map row_entries rows) ≡ flat_map gated_row rows)
    → (bs : List (List ℕ)) → gated_behind n q (with_section s bs ++ flat_map row_entries rows) ≡ gated_from s 0 bs ++ flat_map gated_row rows
row_step n q s x rows below fresh ih [] = ih n q (fresh_tail n q s x rows fresh)
row_step n q s x rows below fresh ih (b ∷ bs) =
    ap (λ (at : ℕ). (s, at ∷ b) ∷ gated_behind s (at + (5 + length b)) (with_section s bs ++ flat_map row_entries rows)) (fresh_at n q s x rows fresh)
    ∙ ap (λ (l : List SectionEntry). (s, 0 ∷ b) ∷ l) (gated_run s (0 + (5 + length b)) bs (flat_map row_entries rows)
    ∙ ap (λ (l : List SectionEntry). gated_from s (0 + (5 + length b)) bs ++ l) (ih s (0 + (5 + length b) + total bs) (inr below)))

gated_rows : (rows : List (ℕ × List ℕ)) → T (is_sorted nat_cmp rows) → (n q : ℕ) → IsFresh n q rows → gated_behind n q (flat_map row_entries rows) ≡ flat_map gated_row rows
gated_rows [] sorted n q fresh = refl
gated_rows ((s, x) ∷ rows) sorted n q fresh =
    let parts = both_true (below_all nat_cmp s rows) (is_sorted nat_cmp rows) sorted in
    row_step n q s x rows parts.0 fresh (λ m p f. gated_rows rows parts.1 m p f) (bodies 0 (length x) x)

-- THE ENTRIES

-- segments by their names
abbrev lifted : List (ℕ × List ℕ) → List (Name × List ℕ)
lifted rows = map (λ r. (Segment r.0, r.1)) rows

lifted_entries : (rows : List (ℕ × List ℕ)) → flat_map segment_entries (lifted rows) ≡ flat_map row_entries rows
lifted_entries [] = refl
lifted_entries (r ∷ rows) = ap (λ (l : List SectionEntry). row_entries r ++ l) (lifted_entries rows)

lifted_below : (s : ℕ) (rows : List (ℕ × List ℕ)) → below_all nat_cmp s rows ≡ true → below_all name_cmp (Segment s) (lifted rows) ≡ true
lifted_below s [] is = refl
lifted_below s (r ∷ rows) is =
    let parts = both_are (is_lt (nat_cmp s r.0)) (below_all nat_cmp s rows) is in
    λ i. higher s r.0 parts.0 i && lifted_below s rows parts.1 i
  where
    higher : (a b : ℕ) → is_lt (nat_cmp a b) ≡ true → is_lt (nat_cmp (suc (suc a)) (suc (suc b))) ≡ true
    higher a b is = grind (arith, nat_tests)

lifted_sorted : (rows : List (ℕ × List ℕ)) → T (is_sorted nat_cmp rows) → T (is_sorted name_cmp (lifted rows))
lifted_sorted [] sorted = tt
lifted_sorted (r ∷ rows) sorted =
    let parts = both_true (below_all nat_cmp r.0 rows) (is_sorted nat_cmp rows) sorted in
    both (below_all name_cmp (Segment r.0) (lifted rows)) (is_sorted name_cmp (lifted rows)) (lifted_below r.0 rows parts.0) (lifted_sorted rows parts.1)
  where
    both : (a b : Bool) → a ≡ true → T b → T (a && b)
    both a b is h = subst (λ (x : Bool). T (x && b)) (sym is) h

lifted_rows : (rows : List (ℕ × List ℕ)) → segment_rows (lifted rows) ≡ rows
lifted_rows [] = refl
lifted_rows (r ∷ rows) = ap (λ (l : List (ℕ × List ℕ)). r ∷ l) (lifted_rows rows)

rows_section : (rows : List (ℕ × List ℕ)) → T (is_sorted nat_cmp rows) → (section : ℕ) → of_section section (flat_map row_entries rows) ≡ with_section section (bodies_at (find nat_cmp section rows))
rows_section rows sorted section =
    ap (of_section section) (sym (lifted_entries rows)) ∙ in_rows section (lifted rows) (lifted_sorted rows sorted)
    ∙ ap (λ (o : Option (List ℕ)). with_section section (bodies_at o)) (sym (rows_find section (lifted rows)) ∙ ap (find nat_cmp section) (lifted_rows rows))

rows_rise : (rows : List (ℕ × List ℕ)) → T (is_sorted nat_cmp rows) → Above 0 (flat_map row_entries rows)
rows_rise rows sorted = subst (Above 0) (lifted_entries rows) (rows_above 0 (lifted rows) (lifted_sorted rows sorted) (low_all (lifted rows)))

file_entries : (rows : List (Name × List ℕ)) → flat_map segment_entries rows ≡ flat_map row_entries (segment_rows rows)
file_entries [] = refl
file_entries ((Plan, v) ∷ rows) = file_entries rows
file_entries ((Flat, v) ∷ rows) = file_entries rows
file_entries ((Segment s, v) ∷ rows) = ap (λ (l : List SectionEntry). with_section s (bodies 0 (length v) v) ++ l) (file_entries rows)

-- the entries are those of the segments
pub segments_entries : (f : Files) (flat : IsWholeFlat (get f Flat)) → entries f ≡ flat_map row_entries (map_of.entries (segments f))
segments_entries f flat = by_flat (get f Flat) refl flat
  where
    by_flat : (o : Option (List ℕ)) → get f Flat ≡ o → IsWholeFlat o → entries f ≡ flat_map row_entries (map_of.entries (segments f))
    by_flat None is whole =
        ap (λ (o : Option (List ℕ)). entries_with o f) is ∙ file_entries (map_of.entries f)
        ∙ ap (flat_map row_entries) (sym (rows_entries f)) ∙ ap (λ (o : Option (List ℕ)). flat_map row_entries (map_of.entries (segments_with o f))) (sym is)
    by_flat (Some file) is whole =
        let bs = whole.0 in
        let was : entries f ≡ in_sections bs = ap (λ (o : Option (List ℕ)). entries_with o f) is ∙ ap in_sections (whole_bodies 8 bs whole.1 file whole.2) in
        was ∙ unique (in_sections bs) (flat_map row_entries (map_of.entries (parted bs))) 0 0 (flat_above bs) (rows_rise (map_of.entries (parted bs)) (entries_sorted (parted bs))) (λ s.
        flat_section s bs ∙ ap (with_section s) (sym (at s)) ∙ sym (rows_section (map_of.entries (parted bs)) (entries_sorted (parted bs)) s ∙ ap (λ (o : Option (List ℕ)). with_section s (bodies_at o)) (sym (get-entries (parted bs) s))))
        ∙ ap (λ (m : Segments). flat_map row_entries (map_of.entries m)) (sym (are_parted f file is bs whole.1 whole.2))
      where
        at : (s : ℕ) → bodies_at (get (parted whole.0) s) ≡ of_one s whole.0
        at s = by_there (get (parted whole.0) s) refl
          where
            by_there : (o : Option (List ℕ)) → get (parted whole.0) s ≡ o → bodies_at (get (parted whole.0) s) ≡ of_one s whole.0
            by_there None none = ap bodies_at none ∙ sym (subst (λ (o : Option (List ℕ)). IsPart (of_one s whole.0) o) none (parted_at s whole.0))
            by_there (Some x) there = ap bodies_at there ∙ whole_bodies 0 (of_one s whole.0) (length x) x (part_whole s whole.0 x whole.2.front.short there)

-- an entry without the place of its gate
abbrev ungated : SectionEntry → SectionEntry
ungated e = (e.0, drop 1 e.1)

ungated_behind : (n q : ℕ) (es : List SectionEntry) → map ungated (gated_behind n q es) ≡ es
ungated_behind n q [] = refl
ungated_behind n q (e ∷ es) = ap (λ (l : List SectionEntry). e ∷ l) (ungated_behind e.0 (cond (e.0 == n) q 0 + (5 + length e.1)) es)

ungated_views : (es : List JournalEntry) → views es ≡ map ungated (map gated es)
ungated_views [] = refl
ungated_views (e ∷ es) = ap (λ (l : List SectionEntry). view e ∷ l) (ungated_views es)

-- WHAT A CALLER MAY READ OFF: entries with the places of their gates are entries
pub gated_listed : (waiting : List JournalEntry) (f : Files) → map gated waiting ≡ gated_entries f → views waiting ≡ entries f
gated_listed waiting f are = ungated_views waiting ∙ ap (map ungated) are ∙ ungated_behind 0 0 (entries f)

module _ (f : Files) (waiting : List JournalEntry) (places : Places) (calls : List Op) (finds : FindsSegments f waiting places calls) where
  pub finds_gated : map gated waiting ≡ gated_entries f
  finds_gated = finds.listed ∙ sym (ap gated_of (segments_entries f finds.flat) ∙ gated_rows (map_of.entries (segments f)) (entries_sorted (segments f)) 0 0 (inl refl))

-- the entries of one section of a flat file
pub flat_entries_section : (f : Files) (file : List ℕ) → get f Flat ≡ Some file → (bs : List (List ℕ)) (place : ℕ) → Whole 8 bs place file → (s : ℕ) → of_section s (entries f) ≡ with_section s (of_one s bs)
flat_entries_section f file there bs place whole s = ap (of_section s) (ap (λ (o : Option (List ℕ)). entries_with o f) there ∙ ap in_sections (whole_bodies 8 bs place file whole)) ∙ flat_section s bs
