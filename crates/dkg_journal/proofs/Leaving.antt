-- What a prune leaves.
use Rattle.std.proofs.Common.{◌≡◌, ◌≢◌, inl, inr, ⊎_elim, ℕ, zero, suc, ◌+◌, ◌<◌, ◌≤◌, ◌==◌, nat_le, nat_lt, Bool, true, false, cond, List, [], ◌∷◌, map, length, Option, Some, None, Result, Ok, Err, OnOk, is_some, refl, sym, ◌∙◌, ap, subst, arith}
use Rattle.std.specs.Prelude.{T, ◌&&◌, ◌||◌, filter, flat_map}
use Rattle.std.specs.List.{list_any}
use Rattle.std.specs.Ordering.{eq_by_cmp, nat_cmp, is_eq, is_lt}
use Rattle.std.specs.FinMap as map_of
use Rattle.std.specs.FinMap.{get, find, keys, remove, retain_keys, get-entries, get-retain_keys, entries_sorted, nat_cmp-IsAntisymmetric}
use Rattle.std.specs.FinMap.Entries.{is_sorted, below_all}
use Rattle.std.proofs.lemmas.Bool.{cases_eq, cases_lt}
use Rattle.std.proofs.lemmas.Bool.Decides.{nat_tests}
use Rattle.std.proofs.lemmas.List.{length-map}
use Rattle.std.proofs.lemmas.Option.{none-some}
use Rattle.dkg_values.specs.declared.name.Name.{Name}
use Rattle.dkg_values.specs.declared.name.Name.TheVariants.{Plan, Flat, Segment}
use Rattle.dkg_journal.specs.Burn.{Burn}
use Rattle.dkg_journal.specs.DeviceCall.{DeviceCall}
use Rattle.dkg_journal.specs.Names.{Files}
use Rattle.dkg_journal.specs.Disk.{ImagesFollow, Lands}
use Rattle.dkg_journal.specs.Fuse.{Ran, RanAll}
use Rattle.dkg_journal.specs.Opening.{AreUnbroken, removes}
use Rattle.dkg_journal.specs.Operations.{Prunes, Tried, FinishedOperation, after_operation, changing_calls, journaled}
use Rattle.dkg_journal.specs.Places.{Places, flat_place, place_at, remove_of, removes_below}
use Rattle.dkg_journal.specs.Pruning.{LeavesAbove, MayLeave, Thins, is_below, prune_calls}
use Rattle.dkg_journal.specs.Segments.{segment_rows}
use Rattle.dkg_journal.specs.Steps.{IsOpenAt, IsSegmentAt}
use Rattle.dkg_journal.specs.Wholes.{Amid, AreOfWhole, Becomes, after_all}
use Rattle.dkg_journal.specs.declared.disk.Op.{Op}
use Rattle.dkg_journal.specs.declared.disk.Op.TheVariants.{Remove}
use Rattle.dkg_journal.proofs.Amid.{becomes_lands}
use Rattle.dkg_journal.proofs.Append.{flat_plan, segment_plan, segments_apart}
use Rattle.dkg_journal.proofs.AtOnce.{get_gone, gone_here}
use Rattle.dkg_journal.proofs.Fuses.{all_burnt, ran_spent}
use Rattle.dkg_journal.proofs.Journals.{leaves_names}
use Rattle.dkg_journal.proofs.OpenNames.{at_some}
use Rattle.dkg_journal.proofs.Rising.{both_are, both_true}
use Rattle.dkg_journal.proofs.Sections.{entries_from}
use Rattle.dkg_journal.proofs.Standing.{stands_for}
use Rattle.dkg_journal.proofs.Unbroken.{file_rows_sorted, open_unbroken_images, rows_find, unbroken_by, whole_at}

-- THE CALLS

-- the removes of so many sections from one on that pass a test
abbrev removes_from : ℕ → ℕ → (ℕ → Bool) → List Op
removes_from lo zero test = []
removes_from lo (suc n) test = cond (test lo) (Remove (Segment lo) ∷ removes_from (suc lo) n test) (removes_from (suc lo) n test)

same_calls : (n lo : ℕ) (p q : ℕ → Bool) → ((t : ℕ) → lo ≤ t → p t ≡ q t) → removes_from lo n p ≡ removes_from lo n q
same_calls zero lo p q same = refl
same_calls (suc n) lo p q same = λ i. cond (same lo (omega arith) i) (Remove (Segment lo) ∷ same_calls n (suc lo) p q (λ t low. same t (omega (arith, low))) i) (same_calls n (suc lo) p q (λ t low. same t (omega (arith, low))) i)

abbrev rm : List ℕ → List Op
rm ks = map (λ k. Remove (Segment k)) ks

-- numbers that rise from one on
abbrev Rises : ℕ → List ℕ → Type 0
Rises lo [] = Unit {0}
Rises lo (k ∷ ks) = (lo ≤ k) × Rises (suc k) ks

abbrev is_in : ℕ → List ℕ → Bool
is_in t ks = list_any (λ k. k == t) ks

lower : (a b : ℕ) (ks : List ℕ) → a ≤ b → Rises b ks → Rises a ks
lower a b [] low rises = tt
lower a b (k ∷ ks) low rises = (omega (arith, low, rises.0), rises.1)

is_less : (a b : ℕ) → a < b → nat_lt a b ≡ true
is_less a b low = grind (arith, nat_tests)

not_less : (a b : ℕ) → b ≤ a → nat_lt a b ≡ false
not_less a b high = grind (arith, nat_tests)

is_same : (a b : ℕ) → a ≡ b → (a == b) ≡ true
is_same a b same = grind (arith, nat_tests)

is_other : (a b : ℕ) → a ≢ b → (a == b) ≡ false
is_other a b ne = grind (arith, nat_tests)

none_low : (m lo : ℕ) (ks : List ℕ) → m ≤ lo → Rises lo ks → filter (λ k. nat_lt k m) ks ≡ []
none_low m lo [] low rises = refl
none_low m lo (k ∷ ks) low rises = ap (λ (b : Bool). cond b (k ∷ filter (λ (j : ℕ). nat_lt j m) ks) (filter (λ (j : ℕ). nat_lt j m) ks)) (not_less k m (omega (arith, low, rises.0))) ∙ none_low m (suc k) ks (omega (arith, low, rises.0)) rises.1

not_in : (t m : ℕ) (ks : List ℕ) → t < m → Rises m ks → is_in t ks ≡ false
not_in t m [] low rises = refl
not_in t m (k ∷ ks) low rises = ap (λ (b : Bool). b || is_in t ks) (is_other k t (λ e. absurd (omega (arith, e, low, rises.0)))) ∙ not_in t (suc k) ks (omega (arith, low, rises.0)) rises.1

no_calls : (n lo : ℕ) → removes_from lo n (λ t. false) ≡ []
no_calls zero lo = refl
no_calls (suc n) lo = no_calls n (suc lo)

counted_calls : (n lo : ℕ) (ks : List ℕ) → Rises lo ks → rm (filter (λ k. nat_lt k (lo + n)) ks) ≡ removes_from lo n (λ t. is_in t ks)
counted_calls zero lo ks rises = ap rm (none_low (lo + 0) lo ks (omega arith) rises)
counted_calls (suc n) lo [] rises = sym (no_calls (suc n) lo)
counted_calls (suc n) lo (k ∷ ks) rises = elim (cases_eq k lo) [
  | inl is ↦
      let low : nat_lt k (lo + suc n) ≡ true = is_less k (lo + suc n) (omega (arith, is)) in
      let up : Rises (suc lo) ks = subst (λ (m : ℕ). Rises (suc m) ks) is rises.1 in
      ap (λ (b : Bool). rm (cond b (k ∷ filter (λ (j : ℕ). nat_lt j (lo + suc n)) ks) (filter (λ (j : ℕ). nat_lt j (lo + suc n)) ks))) low
      ∙ ap (λ (l : List Op). Remove (Segment k) ∷ l) (ap (λ (m : ℕ). rm (filter (λ (j : ℕ). nat_lt j m) ks)) (omega arith) ∙ counted_calls n (suc lo) ks up ∙ same_calls n (suc lo) (λ t. is_in t ks) (λ t. is_in t (k ∷ ks)) (λ t above. sym (ap (λ (b : Bool). b || is_in t ks) (is_other k t (λ e. absurd (omega (arith, e, is, above)))))))
      ∙ ap (λ (m : ℕ). Remove (Segment m) ∷ removes_from (suc lo) n (λ t. is_in t (k ∷ ks))) is
      ∙ sym (ap (λ (b : Bool). cond b (Remove (Segment lo) ∷ removes_from (suc lo) n (λ t. is_in t (k ∷ ks))) (removes_from (suc lo) n (λ t. is_in t (k ∷ ks)))) (ap (λ (b : Bool). b || is_in lo ks) (is_same k lo is)))
  | inr ne ↦
      let high : suc lo ≤ k = omega (arith, rises.0, ne) in
      let out : is_in lo (k ∷ ks) ≡ false = ap (λ (b : Bool). b || is_in lo ks) (is_other k lo ne) ∙ not_in lo (suc k) ks (omega (arith, high)) rises.1 in
      ap (λ (m : ℕ). rm (filter (λ (j : ℕ). nat_lt j m) (k ∷ ks))) (omega arith) ∙ counted_calls n (suc lo) (k ∷ ks) (high, rises.1)
      ∙ sym (ap (λ (b : Bool). cond b (Remove (Segment lo) ∷ removes_from (suc lo) n (λ t. is_in t (k ∷ ks))) (removes_from (suc lo) n (λ t. is_in t (k ∷ ks)))) out)
]

counted_all : (n : ℕ) (ks : List ℕ) → Rises 0 ks → rm (filter (λ k. nat_lt k n) ks) ≡ removes_from 0 n (λ t. is_in t ks)
counted_all n ks rises = ap (λ (m : ℕ). rm (filter (λ (k : ℕ). nat_lt k m) ks)) (omega arith) ∙ counted_calls n 0 ks rises

-- keys in their order
module _ {X : Type 0} where
  abbrev firsts : List (ℕ × X) → List ℕ
  firsts rows = map (λ r. r.0) rows

  abbrev FromOn : ℕ → List (ℕ × X) → Type 0
  FromOn lo [] = Unit {0}
  FromOn lo (r ∷ rows) = (lo ≤ r.0) × FromOn lo rows

  from_below : (s : ℕ) (rows : List (ℕ × X)) → below_all nat_cmp s rows ≡ true → FromOn (suc s) rows
  from_below s [] is = tt
  from_below s (r ∷ rows) is = let parts = both_are (is_lt (nat_cmp s r.0)) (below_all nat_cmp s rows) is in (less s r.0 parts.0, from_below s rows parts.1)
    where
      less : (a b : ℕ) → is_lt (nat_cmp a b) ≡ true → suc a ≤ b
      less a b is = grind (arith, nat_tests)

  from_zero : (rows : List (ℕ × X)) → FromOn 0 rows
  from_zero [] = tt
  from_zero (r ∷ rows) = (omega arith, from_zero rows)

  firsts_rise : (lo : ℕ) (rows : List (ℕ × X)) → T (is_sorted nat_cmp rows) → FromOn lo rows → Rises lo (firsts rows)
  firsts_rise lo [] sorted from = tt
  firsts_rise lo (r ∷ rows) sorted from = let parts = both_true (below_all nat_cmp r.0 rows) (is_sorted nat_cmp rows) sorted in (from.0, firsts_rise (suc r.0) rows parts.1 (from_below r.0 rows parts.0))

  firsts_in : (t : ℕ) (rows : List (ℕ × X)) → is_in t (firsts rows) ≡ is_some (find nat_cmp t rows)
  firsts_in t [] = refl
  firsts_in t (r ∷ rows) =
      ap (λ (b : Bool). b || is_in t (firsts rows)) (turned t r.0)
      ∙ elim (eq_by_cmp nat_cmp t r.0) as (λ (b : Bool). (b || is_in t (firsts rows)) ≡ is_some (cond b (Some r.1) (find nat_cmp t rows))) [ true ↦ refl | false ↦ firsts_in t rows ]
    where
      turned : (a b : ℕ) → (b == a) ≡ is_eq (nat_cmp a b)
      turned a b = grind (arith, nat_tests)

-- of places those that are there
abbrev there_of : List (ℕ × Option ℕ) → List (ℕ × ℕ)
there_of [] = []
there_of ((s, None) ∷ rows) = there_of rows
there_of ((s, Some p) ∷ rows) = (s, p) ∷ there_of rows

there_below : (s : ℕ) (rows : List (ℕ × Option ℕ)) → below_all nat_cmp s rows ≡ true → below_all nat_cmp s (there_of rows) ≡ true
there_below s [] is = refl
there_below s ((t, None) ∷ rows) is = there_below s rows (both_are (is_lt (nat_cmp s t)) (below_all nat_cmp s rows) is).1
there_below s ((t, Some p) ∷ rows) is = let parts = both_are (is_lt (nat_cmp s t)) (below_all nat_cmp s rows) is in λ i. parts.0 i && there_below s rows parts.1 i

there_sorted : (rows : List (ℕ × Option ℕ)) → T (is_sorted nat_cmp rows) → T (is_sorted nat_cmp (there_of rows))
there_sorted [] sorted = tt
there_sorted ((t, None) ∷ rows) sorted = there_sorted rows (both_true (below_all nat_cmp t rows) (is_sorted nat_cmp rows) sorted).1
there_sorted ((t, Some p) ∷ rows) sorted =
    let parts = both_true (below_all nat_cmp t rows) (is_sorted nat_cmp rows) sorted in
    both (below_all nat_cmp t (there_of rows)) (is_sorted nat_cmp (there_of rows)) (there_below t rows parts.0) (there_sorted rows parts.1)
  where
    both : (a b : Bool) → a ≡ true → T b → T (a && b)
    both a b is h = subst (λ (x : Bool). T (x && b)) (sym is) h

itself : (n : ℕ) → is_eq (nat_cmp n n) ≡ true
itself n = grind (arith, nat_tests)

differ : (a b : ℕ) → a ≢ b → is_eq (nat_cmp a b) ≡ false
differ a b ne = grind (arith, nat_tests)

there_find : (t : ℕ) (rows : List (ℕ × Option ℕ)) → T (is_sorted nat_cmp rows) → is_some (find nat_cmp t (there_of rows)) ≡ is_some (flat_place (find nat_cmp t rows))
there_find t [] sorted = refl
there_find t ((s, Some p) ∷ rows) sorted = elim (eq_by_cmp nat_cmp t s) as (λ (b : Bool). is_some (cond b (Some p) (find nat_cmp t (there_of rows))) ≡ is_some (flat_place (cond b (Some (Some p)) (find nat_cmp t rows)))) [
  | true ↦ refl
  | false ↦ there_find t rows (both_true (below_all nat_cmp s rows) (is_sorted nat_cmp rows) sorted).1
]
there_find t ((s, None) ∷ rows) sorted =
    let parts = both_true (below_all nat_cmp s rows) (is_sorted nat_cmp rows) sorted in
    elim (cases_eq t s) [
      | inl is ↦
          let out : is_some (find nat_cmp t (there_of rows)) ≡ false = sym (firsts_in t (there_of rows)) ∙ not_in t (suc s) (firsts (there_of rows)) (omega (arith, is)) (firsts_rise (suc s) (there_of rows) (there_sorted rows parts.1) (from_below s (there_of rows) (there_below s rows parts.0))) in
          out ∙ sym (ap (λ (b : Bool). is_some (flat_place (cond b (Some None) (find nat_cmp t rows)))) (ap (λ (n : ℕ). is_eq (nat_cmp t n)) (sym is) ∙ itself t))
      | inr ne ↦ there_find t rows parts.1 ∙ sym (ap (λ (b : Bool). is_some (flat_place (cond b (Some None) (find nat_cmp t rows)))) (differ t s ne))
    ]

places_calls : (min : ℕ) (rows : List (ℕ × Option ℕ)) → flat_map remove_of (filter (λ e. nat_lt e.0 min) rows) ≡ rm (filter (λ k. nat_lt k min) (firsts (there_of rows)))
places_calls min [] = refl
places_calls min ((s, None) ∷ rows) = elim (nat_lt s min) as (λ (b : Bool). flat_map remove_of (cond b ((s, None) ∷ filter (λ (e : ℕ × Option ℕ). nat_lt e.0 min) rows) (filter (λ (e : ℕ × Option ℕ). nat_lt e.0 min) rows)) ≡ rm (filter (λ (k : ℕ). nat_lt k min) (firsts (there_of rows)))) [
  | true ↦ places_calls min rows
  | false ↦ places_calls min rows
]
places_calls min ((s, Some p) ∷ rows) = elim (nat_lt s min) as (λ (b : Bool). flat_map remove_of (cond b ((s, Some p) ∷ filter (λ (e : ℕ × Option ℕ). nat_lt e.0 min) rows) (filter (λ (e : ℕ × Option ℕ). nat_lt e.0 min) rows)) ≡ rm (cond b (s ∷ filter (λ (k : ℕ). nat_lt k min) (firsts (there_of rows))) (filter (λ (k : ℕ). nat_lt k min) (firsts (there_of rows))))) [
  | true ↦ ap (λ (l : List Op). Remove (Segment s) ∷ l) (places_calls min rows)
  | false ↦ places_calls min rows
]

names_calls : (min : ℕ) (rows : List (Name × List ℕ)) → removes (filter (is_below min) (map (λ e. e.0) rows)) ≡ rm (filter (λ k. nat_lt k min) (firsts (segment_rows rows)))
names_calls min [] = refl
names_calls min ((Plan, v) ∷ rows) = names_calls min rows
names_calls min ((Flat, v) ∷ rows) = names_calls min rows
names_calls min ((Segment s, v) ∷ rows) = elim (nat_lt s min) as (λ (b : Bool). removes (cond b (Segment s ∷ filter (is_below min) (map (λ (e : Name × List ℕ). e.0) rows)) (filter (is_below min) (map (λ (e : Name × List ℕ). e.0) rows))) ≡ rm (cond b (s ∷ filter (λ (k : ℕ). nat_lt k min) (firsts (segment_rows rows))) (filter (λ (k : ℕ). nat_lt k min) (firsts (segment_rows rows))))) [
  | true ↦ ap (λ (l : List Op). Remove (Segment s) ∷ l) (names_calls min rows)
  | false ↦ names_calls min rows
]

-- the calls of a prune by the files that are there
pub file_calls : (min : ℕ) (f : Files) → prune_calls min (keys f) ≡ removes_from 0 min (λ t. is_some (get f (Segment t)))
file_calls min f =
    names_calls min (map_of.entries f) ∙ counted_all min (firsts (segment_rows (map_of.entries f))) (firsts_rise 0 (segment_rows (map_of.entries f)) (file_rows_sorted f) (from_zero (segment_rows (map_of.entries f))))
    ∙ same_calls min 0 _ _ (λ t low. firsts_in t (segment_rows (map_of.entries f)) ∙ ap is_some (rows_find t (map_of.entries f) ∙ sym (get-entries f (Segment t))))

-- .. and by the places that are known
pub place_calls : (min : ℕ) (places : Places) (f : Files) (image : Files → Type 0) → IsOpenAt places f image → removes_below min places ≡ prune_calls min (keys f)
place_calls min places f image at =
    let rows = map_of.entries places in
    places_calls min rows ∙ counted_all min (firsts (there_of rows)) (firsts_rise 0 (there_of rows) (there_sorted rows (entries_sorted places)) (from_zero (there_of rows)))
    ∙ same_calls min 0 _ _ (λ t low. firsts_in t (there_of rows) ∙ there_find t rows (entries_sorted places) ∙ ap (λ (o : Option (Option ℕ)). is_some (flat_place o)) (sym (get-entries places t)) ∙ sym (at_some (place_at places t) (get f (Segment t)) (at.each t)))
    ∙ sym (file_calls min f)

-- WHAT THEY LEAVE

-- sections below this one are gone, and the rest is the same
pub record Gone (least : ℕ) (old c : Files) : Type 0 where
  pub others : (q : Name) → is_below least q ≡ false → get c q ≡ get old q
  pub gone : (section : ℕ) → section < least → get c (Segment section) ≡ None

below_more : (lo : ℕ) (q : Name) → is_below (suc lo) q ≡ false → is_below lo q ≡ false
below_more lo Plan is = refl
below_more lo Flat is = refl
below_more lo (Segment s) is = grind (arith, nat_tests)

not_that : (lo : ℕ) (q : Name) → is_below (suc lo) q ≡ false → q ≢ Segment lo
not_that lo q is e = absurd (let h : ◌≡◌ {A = Bool} true false = sym (is_less lo (suc lo) (omega arith)) ∙ ap (λ (n : Name). is_below (suc lo) n) (sym e) ∙ is in cc)

gone_more : (lo : ℕ) (old d : Files) → Gone lo old d → Gone (suc lo) old (remove d (Segment lo))
gone_more lo old d g = record {
  others = λ q is. get_gone d (Segment lo) q (not_that lo q is) ∙ g.others q (below_more lo q is);
  gone = λ s low. elim (cases_eq s lo) [
    | inl is ↦ ap (λ (n : ℕ). get (remove d (Segment lo)) (Segment n)) is ∙ gone_here d (Segment lo)
    | inr ne ↦ get_gone d (Segment lo) (Segment s) (segments_apart s lo ne) ∙ g.gone s (omega (arith, low, ne))
  ];
}

gone_none : (lo : ℕ) (old d : Files) → Gone lo old d → get old (Segment lo) ≡ None → Gone (suc lo) old d
gone_none lo old d g none = record {
  others = λ q is. g.others q (below_more lo q is);
  gone = λ s low. elim (cases_eq s lo) [
    | inl is ↦ ap (λ (n : ℕ). get d (Segment n)) is ∙ g.others (Segment lo) (not_less lo lo (omega arith)) ∙ none
    | inr ne ↦ g.gone s (omega (arith, low, ne))
  ];
}

pub absent : (o : Option (List ℕ)) → is_some o ≡ false → o ≡ None
absent None is = refl
absent (Some x) is = absurd (let h : ◌≡◌ {A = Bool} true false = is in cc)

abbrev GoneUpTo : ℕ → Files → Files → Type 0
GoneUpTo most old c = (least : ℕ) × (least ≤ most) × Gone least old c

up_to : (a b : ℕ) (old c : Files) → a ≡ b → GoneUpTo a old c → GoneUpTo b old c
up_to a b old c same g = (g.0, omega (arith, same, g.1), g.2)

amid_gone : (n lo : ℕ) (old d c : Files) (test : ℕ → Bool) → ((t : ℕ) → test t ≡ is_some (get old (Segment t))) → Gone lo old d → Amid (removes_from lo n test) d c → GoneUpTo (lo + n) old c
amid_gone zero lo old d c test are g is = (lo, omega arith, subst (λ (f : Files). Gone lo old f) (sym is) g)
amid_gone (suc n) lo old d c test are g amid = by_test (test lo) refl amid (λ f more later. up_to (suc lo + n) (lo + suc n) old c (omega arith) (amid_gone n (suc lo) old f c test are more later))
  where
    by_test : (b : Bool) → test lo ≡ b → Amid (cond b (Remove (Segment lo) ∷ removes_from (suc lo) n test) (removes_from (suc lo) n test)) d c → ((f : Files) → Gone (suc lo) old f → Amid (removes_from (suc lo) n test) f c → GoneUpTo (lo + suc n) old c) → GoneUpTo (lo + suc n) old c
    by_test true is amid ih = ⊎_elim (λ (same : c ≡ d). (lo, omega arith, subst (λ (f : Files). Gone lo old f) (sym same) g)) (λ later. ih (remove d (Segment lo)) (gone_more lo old d g) later) amid
    by_test false is amid ih = ih d (gone_none lo old d g (absent (get old (Segment lo)) (sym (are lo) ∙ is))) amid

all_gone : (n lo : ℕ) (old d : Files) (test : ℕ → Bool) → ((t : ℕ) → test t ≡ is_some (get old (Segment t))) → Gone lo old d → Gone (lo + n) old (after_all (removes_from lo n test) d)
all_gone zero lo old d test are g = subst (λ (m : ℕ). Gone m old d) (omega arith) g
all_gone (suc n) lo old d test are g = by_test (test lo) refl (λ f more. subst (λ (m : ℕ). Gone m old (after_all (removes_from (suc lo) n test) f)) (omega arith) (all_gone n (suc lo) old f test are more))
  where
    by_test : (b : Bool) → test lo ≡ b → ((f : Files) → Gone (suc lo) old f → Gone (lo + suc n) old (after_all (removes_from (suc lo) n test) f)) → Gone (lo + suc n) old (after_all (cond b (Remove (Segment lo) ∷ removes_from (suc lo) n test) (removes_from (suc lo) n test)) d)
    by_test true is ih = ih (remove d (Segment lo)) (gone_more lo old d g)
    by_test false is ih = ih d (gone_none lo old d g (absent (get old (Segment lo)) (sym (are lo) ∙ is)))

gone_start : (old : Files) → Gone 0 old old
gone_start old = record { others = λ q is. refl; gone = λ s low. absurd (omega (arith, low)) }

gone_leaves : (least : ℕ) (old c : Files) → get old Flat ≡ None → Gone least old c → LeavesAbove least old c
gone_leaves least old c no_flat g = record {
  others = g.others;
  gone = g.gone;
  left = entries_from least c old (g.others Flat refl ∙ no_flat) no_flat g.gone (λ s high. g.others (Segment s) (not_less s least high));
}

pub remove_whole : (names : List Name) → AreOfWhole (removes names)
remove_whole [] = tt
remove_whole (n ∷ names) = (tt, remove_whole names)

-- A PRUNE

module _ (min : ℕ) (places : Places) (files : Files) (image : Files → Type 0) (at : IsOpenAt places files image) where
  same_test : (d : Files) → image d → (t : ℕ) → is_some (get files (Segment t)) ≡ is_some (get d (Segment t))
  same_test d now t = ap is_some (sym (at.only d now (Segment t) (segment_plan t)))

  no_flat : (d : Files) → image d → get d Flat ≡ None
  no_flat d now = at.only d now Flat flat_plan ∙ at.no_flat

  may : (d c : Files) → image d → Amid (prune_calls min (keys files)) d c → MayLeave min d c
  may d c now amid =
      let g = amid_gone min 0 d d c (λ t. is_some (get files (Segment t))) (same_test d now) (gone_start d) (subst (λ (l : List Op). Amid l d c) (file_calls min files) amid) in
      record { least = g.0; low = omega (arith, g.1); leaves = gone_leaves g.0 d c (no_flat d now) g.2 }

  pub may_none : ImagesFollow (MayLeave min) image image
  may_none = record { each = λ c now. (c, now, record { least = 0; low = omega arith; leaves = gone_leaves 0 c c (no_flat c now) (gone_start c) }) }

  zero_and : 0 + min ≡ min
  zero_and = omega arith

  does : (d c : Files) → image d → c ≡ after_all (prune_calls min (keys files)) d → LeavesAbove min d c
  does d c now is =
      let g = subst (λ (m : ℕ). Gone m d (after_all (removes_from 0 min (λ t. is_some (get files (Segment t)))) d)) zero_and (all_gone min 0 d d (λ t. is_some (get files (Segment t))) (same_test d now) (gone_start d)) in
      gone_leaves min d c (no_flat d now) (subst (λ (f : Files). Gone min d f) (sym (is ∙ ap (λ (l : List Op). after_all l d) (file_calls min files))) g)

  module _ (next : Files → Type 0) where
    pub prune_may : ImagesFollow (Amid (prune_calls min (keys files))) image next → ImagesFollow (MayLeave min) image next
    prune_may step = record { each = λ c now. let from = step.each c now in (from.0, from.1, may from.0 c from.1 from.2) }

    pub prune_leaves : ImagesFollow (Becomes (prune_calls min (keys files))) image next → ImagesFollow (LeavesAbove min) image next
    prune_leaves step = record { each = λ c now. let from = step.each c now in (from.0, from.1, does from.0 c from.1 from.2) }

    pub prune_unbroken : ImagesFollow (Amid (prune_calls min (keys files))) image next → AreUnbroken next
    prune_unbroken step = record {
      each = λ c now.
          let from = step.each c now in
          let left = may from.0 c from.1 from.2 in
          let sound = (open_unbroken_images places files image at).each from.0 from.1 in
          unbroken_by c (left.leaves.others Flat refl ∙ no_flat from.0 from.1) (λ s x is. elim (cases_lt s left.least) [
            | inl low ↦ absurd (none-some x (sym (left.leaves.gone s low) ∙ is))
            | inr high ↦ whole_at from.0 (no_flat from.0 from.1) sound s x (sym (left.leaves.others (Segment s) (not_less s left.least high)) ∙ is)
          ]);
    }

    -- the journal is open behind it
    pub prune_open : (new : Files) (places' : Places) → ImagesFollow (Becomes (prune_calls min (keys files))) image next → next new → places' ≡ retain_keys places (nat_le min) → IsOpenAt places' new next
    prune_open new places' step now pruned =
        let back = step.each new now in
        let left = does back.0 new back.1 back.2 in
        let rest : (q : Name) → q ≢ Plan → is_below min q ≡ false → get new q ≡ get files q = λ q ne is. left.others q is ∙ at.only back.0 back.1 q ne in
        record {
          no_flat = left.others Flat refl ∙ no_flat back.0 back.1;
          each = λ s.
              let there : place_at places' s ≡ flat_place (cond (nat_le min s) (get places s) None) = ap (λ (m : Places). flat_place (get m s)) pruned ∙ ap flat_place (get-retain_keys places (nat_le min) s (λ x tied. ap (nat_le min) (sym (nat_cmp-IsAntisymmetric s x tied)))) in
              subst (λ (o : Option ℕ). IsSegmentAt o (get new (Segment s))) (sym there) (elim (cases_lt s min) [
                | inl low ↦ subst (λ (b : Bool). IsSegmentAt (flat_place (cond b (get places s) None)) (get new (Segment s))) (sym (is_low s low)) (left.gone s low)
                | inr high ↦ subst (λ (b : Bool). IsSegmentAt (flat_place (cond b (get places s) None)) (get new (Segment s))) (sym (is_high s high)) (subst (λ (o : Option (List ℕ)). IsSegmentAt (place_at places s) o) (sym (rest (Segment s) (segment_plan s) (not_less s min high))) (at.each s))
              ]);
          only = λ c here q ne.
              let from = step.each c here in
              let leaves = does from.0 c from.1 from.2 in
              by_below c q (is_below min q) refl leaves.gone left.gone (λ is. leaves.others q is ∙ at.only from.0 from.1 q ne ∙ sym (rest q ne is));
        }
      where
        is_low : (s : ℕ) → s < min → nat_le min s ≡ false
        is_low s low = grind (arith, nat_tests)

        is_high : (s : ℕ) → min ≤ s → nat_le min s ≡ true
        is_high s high = grind (arith, nat_tests)

        by_name : (c : Files) (q : Name) → is_below min q ≡ true → ((s : ℕ) → s < min → get c (Segment s) ≡ None) → ((s : ℕ) → s < min → get new (Segment s) ≡ None) → get c q ≡ get new q
        by_name c Plan is a b = absurd (let h : ◌≡◌ {A = Bool} false true = is in cc)
        by_name c Flat is a b = absurd (let h : ◌≡◌ {A = Bool} false true = is in cc)
        by_name c (Segment s) is a b = a s (under s is) ∙ sym (b s (under s is))
          where
            under : (s : ℕ) → nat_lt s min ≡ true → s < min
            under s is = grind (arith, nat_tests)

        by_below : (c : Files) (q : Name) (b : Bool) → is_below min q ≡ b → ((s : ℕ) → s < min → get c (Segment s) ≡ None) → ((s : ℕ) → s < min → get new (Segment s) ≡ None) → (is_below min q ≡ false → get c q ≡ get new q) → get c q ≡ get new q
        by_below c q true is a b same = by_name c q is a b
        by_below c q false is a b same = same is

    module _ (lands : Lands files image) where
      -- what the files stand for then
      standing : (least : ℕ) (c : Files) → LeavesAbove least files c → journaled c ≡ after_operation (Prunes least) (journaled files)
      standing least c left = stands_for c (after_operation (Prunes least) (journaled files)) left.left (left.others Plan refl) (leaves_names least files c left)

      size : length (prune_calls min (keys files)) ≡ changing_calls (Prunes min) (journaled files)
      size = length-map (filter (is_below min) (keys files)) (λ name. Remove name)

      pub prune_tried : {D : Type 0} (made : D → D → List (DeviceCall Op) → Type 0) (a b : D) (f h : Burn) → ImagesFollow (Amid (prune_calls min (keys files))) image next → Ran made a b f h (prune_calls min (keys files)) → Tried (Prunes min) files next f h
      prune_tried made a b f h step ran = record {
        each = λ c now.
            let from = step.each c now in
            let left : MayLeave min files c = subst (λ (d : Files). MayLeave min d c) (lands.only from.0 from.1) (may from.0 c from.1 from.2) in
            inr (inr (left.least, left.low, standing left.least c left.leaves));
        spent = ran_spent made a b f h (prune_calls min (keys files)) (changing_calls (Prunes min) (journaled files)) size ran;
      }

      pub prune_finished : {D : Type 0} (made : D → D → List (DeviceCall Op) → Type 0) (a b : D) (f h : Burn) (new : Files) → image files → ImagesFollow (Becomes (prune_calls min (keys files))) image next → new ≡ after_all (prune_calls min (keys files)) files → RanAll made a b f h (prune_calls min (keys files)) → FinishedOperation (Prunes min) files new next f h
      prune_finished made a b f h new here step is all = record {
        after = standing min new (does files new here is);
        settled = becomes_lands (prune_calls min (keys files)) files new image next lands step is;
        spent = all_burnt made a b f h (prune_calls min (keys files)) (changing_calls (Prunes min) (journaled files)) size all;
      }

-- a prune that came to its end, and one that did not
pub thins_ok : {T E : Type 0} (min : ℕ) (x : T) (a b : Files → Type 0) → ImagesFollow (MayLeave min) a b → ImagesFollow (LeavesAbove min) a b → Thins {E = E} min (Ok x) a b
thins_ok min x a b may left = record { may = may; left = left }

pub thins_err : {T E : Type 0} (min : ℕ) (r : Result T E) (x : E) (a b : Files → Type 0) → r ≡ Err x → ImagesFollow (MayLeave min) a b → Thins min r a b
thins_err {T = T} {E = E} min r x a b is may = record { may = may; left = subst (λ (q : Result T E). OnOk q (ImagesFollow (LeavesAbove min) a b)) (sym is) tt }
