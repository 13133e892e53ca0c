-- The entries of files without a flat one, section by section.
use Rattle.std.proofs.Common.{◌≡◌, ◌≢◌, inl, inr, ℕ, suc, ◌<◌, ◌≤◌, ◌==◌, Bool, true, false, cond, nat_le, List, [], ◌∷◌, ◌++◌, map, length, Option, Some, None, refl, sym, ◌∙◌, ap, subst, arith}
use Rattle.std.specs.Prelude.{flat_map, T, ◌&&◌}
use Rattle.std.specs.Ordering.{eq_by_cmp, nat_cmp, is_eq, is_lt}
use Rattle.std.specs.Cmp.{nat_cmp_total}
use Rattle.std.specs.FinMap as map_of
use Rattle.std.specs.FinMap.{get, find, get-entries, entries_sorted}
use Rattle.std.specs.FinMap.Entries.{is_sorted, below_all}
use Rattle.std.proofs.lemmas.Bool.{cases_eq}
use Rattle.std.proofs.lemmas.Bool.Decides.{nat_tests}
use Rattle.std.proofs.lemmas.Cmp.{tied_itself}
use Rattle.std.proofs.lemmas.List.{append-nil}
use Rattle.dkg_values.specs.declared.name.Name.{Name}
use Rattle.dkg_values.specs.declared.name.Name.TheVariants.{Plan, Flat, Segment}
use Rattle.dkg_journal.specs.Names.{Files, name_cmp}
use Rattle.dkg_journal.specs.Records.{SectionEntry, bodies, entries, entries_with, segment_entries, placed, from_section}
use Rattle.dkg_journal.proofs.Order.{of_section, Above, unique, of_both, placed_above, placed_section, same_section, other_section}

-- the bodies of a file
abbrev pub bodies_at : Option (List ℕ) → List (List ℕ)
bodies_at None = []
bodies_at (Some file) = bodies 0 (length file) file

abbrev pub with_section : ℕ → List (List ℕ) → List SectionEntry
with_section section bs = map (λ body. (section, body)) bs

both_true : (a b : Bool) → T (a && b) → (a ≡ true) × T b
both_true true b h = (refl, h)
both_true false b h = absurd h

less_number : (a b : ℕ) → is_lt (nat_cmp a b) ≡ true → a < b
less_number a b h = grind (arith, nat_tests)

apart_number : (a b : ℕ) → a < b → is_eq (nat_cmp a b) ≡ false
apart_number a b h = grind (arith, nat_tests)

-- the entries of one section are those of its file, and of no other
own : (section : ℕ) (bs : List (List ℕ)) → of_section section (with_section section bs) ≡ with_section section bs
own section [] = refl
own section (b ∷ bs) = ap (λ (t : Bool). cond t ((section, b) ∷ of_section section (with_section section bs)) (of_section section (with_section section bs))) (same_section section) ∙ ap (λ (l : List SectionEntry). (section, b) ∷ l) (own section bs)

others : (section other : ℕ) (bs : List (List ℕ)) → other ≢ section → of_section section (with_section other bs) ≡ []
others section other [] ne = refl
others section other (b ∷ bs) ne = ap (λ (t : Bool). cond t ((other, b) ∷ of_section section (with_section other bs)) (of_section section (with_section other bs))) (other_section other section ne) ∙ others section other bs ne

no_plan : (section : ℕ) → is_eq (nat_cmp (suc (suc section)) 0) ≡ false
no_plan section = grind (arith, nat_tests)

no_flat : (section : ℕ) → is_eq (nat_cmp (suc (suc section)) 1) ≡ false
no_flat section = grind (arith, nat_tests)

abbrev pub rows_entries : List (Name × List ℕ) → List SectionEntry
rows_entries rows = flat_map segment_entries rows

-- no entry of a section whose file isn't there
missing : (section : ℕ) (rows : List (Name × List ℕ)) → T (below_all name_cmp (Segment section) rows) → of_section section (rows_entries rows) ≡ []
missing section [] below = refl
missing section ((Plan, v) ∷ rows) below = missing section rows (both_true _ _ below).1
missing section ((Flat, v) ∷ rows) below = missing section rows (both_true _ _ below).1
missing section ((Segment s, v) ∷ rows) below =
    let parts = both_true (is_lt (nat_cmp (suc (suc section)) (suc (suc s)))) (below_all name_cmp (Segment section) rows) below in
    let ne : s ≢ section = λ e. absurd (omega (arith, e, less_number (suc (suc section)) (suc (suc s)) parts.0)) in
    of_both section (with_section s (bodies 0 (length v) v)) (rows_entries rows) ∙ ap (λ (l : List SectionEntry). l ++ of_section section (rows_entries rows)) (others section s (bodies 0 (length v) v) ne) ∙ missing section rows parts.1

pub in_rows : (section : ℕ) (rows : List (Name × List ℕ)) → T (is_sorted name_cmp rows) → of_section section (rows_entries rows) ≡ with_section section (bodies_at (find name_cmp (Segment section) rows))
in_rows section [] sorted = refl
in_rows section ((Plan, v) ∷ rows) sorted = in_rows section rows (both_true _ _ sorted).1 ∙ sym (ap (λ (t : Bool). with_section section (bodies_at (cond t (Some v) (find name_cmp (Segment section) rows)))) (no_plan section))
in_rows section ((Flat, v) ∷ rows) sorted = in_rows section rows (both_true _ _ sorted).1 ∙ sym (ap (λ (t : Bool). with_section section (bodies_at (cond t (Some v) (find name_cmp (Segment section) rows)))) (no_flat section))
in_rows section ((Segment s, v) ∷ rows) sorted =
    let bs = bodies 0 (length v) v in
    elim (cases_eq section s) [
      | inl is ↦
          let here : eq_by_cmp name_cmp (Segment section) (Segment s) ≡ true = ap (λ (n : ℕ). is_eq (nat_cmp (suc (suc section)) (suc (suc n)))) (sym is) ∙ ap is_eq (tied_itself nat_cmp_total (suc (suc section))) in
          let below : T (below_all name_cmp (Segment section) rows) = subst (λ (n : ℕ). T (below_all name_cmp (Segment n) rows)) (sym is) (fst_true _ _ sorted) in
          of_both section (with_section s bs) (rows_entries rows)
          ∙ (λ i. of_section section (with_section (sym is i) bs) ++ missing section rows below i)
          ∙ append-nil (of_section section (with_section section bs)) ∙ own section bs
          ∙ sym (ap (λ (t : Bool). with_section section (bodies_at (cond t (Some v) (find name_cmp (Segment section) rows)))) here)
      | inr ne ↦
          of_both section (with_section s bs) (rows_entries rows)
          ∙ ap (λ (l : List SectionEntry). l ++ of_section section (rows_entries rows)) (others section s bs (λ e. ne (sym e)))
          ∙ in_rows section rows (both_true _ _ sorted).1
          ∙ sym (ap (λ (t : Bool). with_section section (bodies_at (cond t (Some v) (find name_cmp (Segment section) rows)))) (apart section s ne))
    ]
  where
    fst_true : (a b : Bool) → T (a && b) → T a
    fst_true true b h = tt
    fst_true false b h = absurd h

    apart : (a b : ℕ) → a ≢ b → is_eq (nat_cmp (suc (suc a)) (suc (suc b))) ≡ false
    apart a b ne = grind (arith, nat_tests)

-- sections rise
section_above : (section n : ℕ) (bs : List (List ℕ)) (es : List SectionEntry) → n ≤ section → Above section es → Above n (with_section section bs ++ es)
section_above section n [] es low above = lower es above
  where
    lower : (es : List SectionEntry) → Above section es → Above n es
    lower [] above = tt
    lower (e ∷ es) above = (omega (arith, low, above.0), above.1)
section_above section n (b ∷ bs) es low above = (low, section_above section section bs es (omega arith) above)

abbrev pub Low : ℕ → List (Name × List ℕ) → Type 0
Low n [] = Unit {0}
Low n ((Segment s, v) ∷ rows) = (n ≤ s) × Low n rows
Low n ((Plan, v) ∷ rows) = Low n rows
Low n ((Flat, v) ∷ rows) = Low n rows

low_from : (n : ℕ) (rows : List (Name × List ℕ)) → T (below_all name_cmp (Segment n) rows) → Low n rows
low_from n [] below = tt
low_from n ((Plan, v) ∷ rows) below = low_from n rows (both_true _ _ below).1
low_from n ((Flat, v) ∷ rows) below = low_from n rows (both_true _ _ below).1
low_from n ((Segment s, v) ∷ rows) below = let parts = both_true (is_lt (nat_cmp (suc (suc n)) (suc (suc s)))) (below_all name_cmp (Segment n) rows) below in (omega (arith, less_number (suc (suc n)) (suc (suc s)) parts.0), low_from n rows parts.1)

pub low_all : (rows : List (Name × List ℕ)) → Low 0 rows
low_all [] = tt
low_all ((Plan, v) ∷ rows) = low_all rows
low_all ((Flat, v) ∷ rows) = low_all rows
low_all ((Segment s, v) ∷ rows) = (omega arith, low_all rows)

true_T : (a : Bool) → a ≡ true → T a
true_T a is = subst T (sym is) tt

pub rows_above : (n : ℕ) (rows : List (Name × List ℕ)) → T (is_sorted name_cmp rows) → Low n rows → Above n (rows_entries rows)
rows_above n [] sorted low = tt
rows_above n ((Plan, v) ∷ rows) sorted low = rows_above n rows (both_true _ _ sorted).1 low
rows_above n ((Flat, v) ∷ rows) sorted low = rows_above n rows (both_true _ _ sorted).1 low
rows_above n ((Segment s, v) ∷ rows) sorted low =
    let parts = both_true (below_all name_cmp (Segment s) rows) (is_sorted name_cmp rows) sorted in
    section_above s n (bodies 0 (length v) v) (rows_entries rows) low.0 (rows_above s rows parts.1 (low_from s rows (true_T (below_all name_cmp (Segment s) rows) parts.0)))

-- THE ENTRIES BY SECTION

module _ (f : Files) (none : get f Flat ≡ None) where
  is_rows : entries f ≡ rows_entries (map_of.entries f)
  is_rows = ap (λ (o : Option (List ℕ)). entries_with o f) none

  pub entries_section : (section : ℕ) → of_section section (entries f) ≡ with_section section (bodies_at (get f (Segment section)))
  entries_section section =
      ap (of_section section) is_rows ∙ in_rows section (map_of.entries f) (entries_sorted f)
      ∙ ap (λ (o : Option (List ℕ)). with_section section (bodies_at o)) (sym (get-entries f (Segment section)))

  pub entries_above : Above 0 (entries f)
  entries_above = subst (Above 0) (sym is_rows) (rows_above 0 (map_of.entries f) (entries_sorted f) (low_all (map_of.entries f)))

-- files with the same records in each segment have the same entries
pub same_entries : (c d : Files) → get c Flat ≡ None → get d Flat ≡ None → ((section : ℕ) → bodies_at (get c (Segment section)) ≡ bodies_at (get d (Segment section))) → entries c ≡ entries d
same_entries c d no_c no_d same = unique (entries c) (entries d) 0 0 (entries_above c no_c) (entries_above d no_d) (λ s. entries_section c no_c s ∙ ap (with_section s) (same s) ∙ sym (entries_section d no_d s))

with_push : (section : ℕ) (bs : List (List ℕ)) (b : List ℕ) → with_section section (bs ++ b ∷ []) ≡ with_section section bs ++ (section, b) ∷ []
with_push section [] b = refl
with_push section (x ∷ bs) b = ap (λ (l : List SectionEntry). (section, x) ∷ l) (with_push section bs b)

one_of : (section : ℕ) (b : List ℕ) → of_section section ((section, b) ∷ []) ≡ (section, b) ∷ []
one_of section b = own section (b ∷ [])

none_else : (section other : ℕ) (b : List ℕ) → other ≢ section → of_section section ((other, b) ∷ []) ≡ []
none_else section other b ne = others section other (b ∷ []) ne

-- one record more in one segment
pub one_entry_more : (c d : Files) (section : ℕ) (body : List ℕ) → get c Flat ≡ None → get d Flat ≡ None → bodies_at (get c (Segment section)) ≡ bodies_at (get d (Segment section)) ++ body ∷ []
    → ((s : ℕ) → s ≢ section → bodies_at (get c (Segment s)) ≡ bodies_at (get d (Segment s))) → entries c ≡ placed (entries d) (section, body)
one_entry_more c d section body no_c no_d more same =
    unique (entries c) (placed (entries d) (section, body)) 0 0 (entries_above c no_c) (placed_above (entries d) (section, body) 0 (entries_above d no_d) (omega arith)) (λ s.
    let right : of_section s (placed (entries d) (section, body)) ≡ of_section s (entries d) ++ of_section s ((section, body) ∷ []) = placed_section s (entries d) (section, body) 0 (entries_above d no_d) ∙ of_both s (entries d) ((section, body) ∷ []) in
    elim (cases_eq s section) [
      | inl is ↦
          let last : of_section s ((section, body) ∷ []) ≡ (s, body) ∷ [] = ap (λ (n : ℕ). of_section s ((n, body) ∷ [])) (sym is) ∙ one_of s body in
          let grown : bodies_at (get c (Segment s)) ≡ bodies_at (get d (Segment s)) ++ body ∷ [] = subst (λ (n : ℕ). bodies_at (get c (Segment n)) ≡ bodies_at (get d (Segment n)) ++ body ∷ []) (sym is) more in
          entries_section c no_c s ∙ ap (with_section s) grown ∙ with_push s (bodies_at (get d (Segment s))) body
          ∙ sym (right ∙ (λ i. entries_section d no_d s i ++ last i))
      | inr ne ↦
          entries_section c no_c s ∙ ap (with_section s) (same s ne) ∙ sym (entries_section d no_d s)
          ∙ sym (right ∙ ap (λ (l : List SectionEntry). of_section s (entries d) ++ l) (none_else s section body (λ e. ne (sym e))) ∙ append-nil (of_section s (entries d)))
    ])

-- sections below a minimum are gone
from_of : (min section : ℕ) (es : List SectionEntry) → of_section section (from_section min es) ≡ cond (nat_le min section) (of_section section es) []
from_of min section [] = elim (nat_le min section) as (λ (b : Bool). ◌≡◌ {A = List SectionEntry} [] (cond b [] [])) [ true ↦ refl | false ↦ refl ]
from_of min section (e ∷ es) = elim (cases_eq e.0 section) [
  | inl is ↦
      let here : (l : List SectionEntry) → of_section section (e ∷ l) ≡ e ∷ of_section section l = λ l. ap (λ (b : Bool). cond b (e ∷ of_section section l) (of_section section l)) (ap (λ (n : ℕ). n == section) is ∙ same_section section) in
      let same : nat_le min e.0 ≡ nat_le min section = ap (nat_le min) is in
      ap (λ (b : Bool). of_section section (cond b (e ∷ from_section min es) (from_section min es))) same
      ∙ elim (nat_le min section) as (λ (b : Bool). of_section section (from_section min es) ≡ cond b (of_section section es) [] → of_section section (cond b (e ∷ from_section min es) (from_section min es)) ≡ cond b (e ∷ of_section section es) []) [
        | true ↦ λ rest. here (from_section min es) ∙ ap (λ (l : List SectionEntry). e ∷ l) rest
        | false ↦ λ rest. rest
      ] (from_of min section es)
      ∙ ap (λ (l : List SectionEntry). cond (nat_le min section) l []) (sym (here es))
  | inr ne ↦
      let skip : (l : List SectionEntry) → of_section section (e ∷ l) ≡ of_section section l = λ l. ap (λ (b : Bool). cond b (e ∷ of_section section l) (of_section section l)) (other_section e.0 section ne) in
      elim (nat_le min e.0) as (λ (b : Bool). of_section section (cond b (e ∷ from_section min es) (from_section min es)) ≡ of_section section (from_section min es)) [ true ↦ skip (from_section min es) | false ↦ refl ]
      ∙ from_of min section es ∙ ap (λ (l : List SectionEntry). cond (nat_le min section) l []) (sym (skip es))
]

from_above : (min n : ℕ) (es : List SectionEntry) → Above n es → Above n (from_section min es)
from_above min n [] above = tt
from_above min n (e ∷ es) above = elim (nat_le min e.0) as (λ (b : Bool). Above n (cond b (e ∷ from_section min es) (from_section min es))) [
  | true ↦ (above.0, from_above min e.0 es above.1)
  | false ↦ lower e.0 n (from_section min es) above.0 (from_above min e.0 es above.1)
]
  where
    lower : (m n : ℕ) (es : List SectionEntry) → n ≤ m → Above m es → Above n es
    lower m n [] low above = tt
    lower m n (e ∷ es) low above = (omega (arith, low, above.0), above.1)

pub entries_from : (min : ℕ) (c d : Files) → get c Flat ≡ None → get d Flat ≡ None → ((section : ℕ) → section < min → get c (Segment section) ≡ None)
    → ((section : ℕ) → min ≤ section → get c (Segment section) ≡ get d (Segment section)) → entries c ≡ from_section min (entries d)
entries_from min c d no_c no_d gone same = unique (entries c) (from_section min (entries d)) 0 0 (entries_above c no_c) (from_above min 0 (entries d) (entries_above d no_d)) (λ s.
    entries_section c no_c s ∙ by_case s (nat_le min s) refl ∙ sym (from_of min s (entries d)))
  where
    by_case : (s : ℕ) (b : Bool) → nat_le min s ≡ b → with_section s (bodies_at (get c (Segment s))) ≡ cond (nat_le min s) (of_section s (entries d)) []
    by_case s true is = ap (λ (o : Option (List ℕ)). with_section s (bodies_at o)) (same s (up s is)) ∙ sym (entries_section d no_d s) ∙ ap (λ (b : Bool). cond b (of_section s (entries d)) []) (sym is)
      where
        up : (s : ℕ) → nat_le min s ≡ true → min ≤ s
        up s is = grind (arith, nat_tests)
    by_case s false is = ap (λ (o : Option (List ℕ)). with_section s (bodies_at o)) (gone s (down s is)) ∙ ap (λ (b : Bool). cond b (of_section s (entries d)) []) (sym is)
      where
        down : (s : ℕ) → nat_le min s ≡ false → s < min
        down s is = grind (arith, nat_tests)
