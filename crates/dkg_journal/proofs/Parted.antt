-- The segments that a flat file is parted into.
use Rattle.std.proofs.Common.{◌≡◌, ℕ, ◌<◌, ◌==◌, Bool, true, false, cond, List, [], ◌∷◌, ◌++◌, map, fold, length, drop, Option, Some, None, refl, sym, ◌∙◌, ap, subst, arith, append_assoc, length-append}
use Rattle.std.specs.Ordering.{nat_cmp, is_eq}
use Rattle.std.specs.Cmp.{nat_cmp_total}
use Rattle.std.specs.FinMap.{get, insert, get-insert, get-empty, empty}
use Rattle.std.proofs.lemmas.Bool.Decides.{nat_tests}
use Rattle.std.proofs.lemmas.List.{append-nil, length-drop}
use Rattle.std.proofs.lemmas.List.Sums.{fold_push}
use Rattle.dkg_journal.specs.Records.{Whole, AreBodies, entry_in_body, in_sections, read64, record_of, spelled}
use Rattle.dkg_journal.specs.Segments.{Segments, piece, parted, with_record}
use Rattle.dkg_journal.proofs.Bytes.{spelled-push}
use Rattle.dkg_journal.proofs.Order.{of_section, fold_section, fold_above, Above}
use Rattle.dkg_journal.proofs.Sections.{with_section}

-- one record more
pub part_more : (bs : List (List ℕ)) (m m' : Segments) (body content : List ℕ) (section : ℕ) → m ≡ parted bs → section ≡ read64 body → content ≡ drop 8 body → m' ≡ insert m section (piece (get m section) ++ record_of content) → m' ≡ parted (bs ++ body ∷ [])
part_more bs m m' body content section was at rest is =
    is ∙ (λ i. insert (was i) (at i) (piece (get (was i) (at i)) ++ record_of (rest i))) ∙ sym (fold_push with_record empty bs body)

-- the bodies of one section
abbrev pub of_one : ℕ → List (List ℕ) → List (List ℕ)
of_one section [] = []
of_one section (b ∷ bs) = cond (read64 b == section) (drop 8 b ∷ of_one section bs) (of_one section bs)

push_one : (section : ℕ) (bs : List (List ℕ)) (b : List ℕ) → of_one section (bs ++ b ∷ []) ≡ of_one section bs ++ cond (read64 b == section) (drop 8 b ∷ []) []
push_one section [] b = elim (read64 b == section) as (λ (t : Bool). cond t (drop 8 b ∷ []) [] ≡ cond t (drop 8 b ∷ []) []) [ true ↦ refl | false ↦ refl ]
push_one section (x ∷ bs) b = elim (read64 x == section) as (λ (t : Bool). cond t (drop 8 x ∷ of_one section (bs ++ b ∷ [])) (of_one section (bs ++ b ∷ [])) ≡ cond t (drop 8 x ∷ of_one section bs) (of_one section bs) ++ cond (read64 b == section) (drop 8 b ∷ []) []) [
  | true ↦ ap (λ (l : List (List ℕ)). drop 8 x ∷ l) (push_one section bs b)
  | false ↦ push_one section bs b
]

-- a segment is there where it has a record, and it has just those of its section
abbrev pub IsPart : List (List ℕ) → Option (List ℕ) → Type 0
IsPart bs None = bs ≡ []
IsPart bs (Some file) = (file ≡ spelled bs) × (0 < length bs)

part_push : (bs : List (List ℕ)) (b : List ℕ) (o : Option (List ℕ)) → IsPart bs o → IsPart (bs ++ b ∷ []) (Some (piece o ++ record_of b))
part_push bs b None is = (sym (ap (λ (l : List (List ℕ)). spelled (l ++ b ∷ [])) is ∙ append-nil (record_of b)), omega (arith, length-append bs (b ∷ [])))
part_push bs b (Some file) is = (ap (λ (l : List ℕ). l ++ record_of b) is.0 ∙ sym (spelled-push bs b), omega (arith, length-append bs (b ∷ [])))

same_keys : (a b : ℕ) → is_eq (nat_cmp b a) ≡ (a == b)
same_keys a b = grind (arith, nat_tests)

equal_test : (a b : ℕ) → (a == b) ≡ true → a ≡ b
equal_test a b is = grind (arith, nat_tests)

module _ (section : ℕ) where
  fold_part : (rest front : List (List ℕ)) (m : Segments) → IsPart (of_one section front) (get m section) → IsPart (of_one section (front ++ rest)) (get (fold with_record m rest) section)
  fold_part [] front m is = subst (λ (l : List (List ℕ)). IsPart (of_one section l) (get m section)) (sym (append-nil front)) is
  fold_part (b ∷ rest) front m is =
      let next = with_record m b in
      let at : get next section ≡ cond (read64 b == section) (Some (piece (get m (read64 b)) ++ record_of (drop 8 b))) (get m section) =
      get-insert nat_cmp_total m (read64 b) (piece (get m (read64 b)) ++ record_of (drop 8 b)) section
      ∙ ap (λ (t : Bool). cond t (Some (piece (get m (read64 b)) ++ record_of (drop 8 b))) (get m section)) (same_keys (read64 b) section) in
      let step : IsPart (of_one section (front ++ b ∷ [])) (get next section) =
      subst (λ (l : List (List ℕ)). IsPart l (get next section)) (sym (push_one section front b))
      (subst (λ (o : Option (List ℕ)). IsPart (of_one section front ++ cond (read64 b == section) (drop 8 b ∷ []) []) o) (sym at) (by_test (read64 b == section) refl)) in
      subst (λ (l : List (List ℕ)). IsPart (of_one section l) (get (fold with_record next rest) section)) (append_assoc front (b ∷ []) rest) (fold_part rest (front ++ b ∷ []) next step)
    where
      by_test : (t : Bool) → (read64 b == section) ≡ t → IsPart (of_one section front ++ cond t (drop 8 b ∷ []) []) (cond t (Some (piece (get m (read64 b)) ++ record_of (drop 8 b))) (get m section))
      by_test true same = subst (λ (n : ℕ). IsPart (of_one section front ++ drop 8 b ∷ []) (Some (piece (get m n) ++ record_of (drop 8 b)))) (sym (equal_test (read64 b) section same)) (part_push (of_one section front) (drop 8 b) (get m section) is)
      by_test false same = subst (λ (l : List (List ℕ)). IsPart l (get m section)) (sym (append-nil (of_one section front))) is

  pub parted_at : (bs : List (List ℕ)) → IsPart (of_one section bs) (get (parted bs) section)
  parted_at bs = fold_part bs [] empty (subst (λ (o : Option (List ℕ)). IsPart [] o) (sym (get-empty nat_cmp section)) refl)

  pub one_short : (bs : List (List ℕ)) → AreBodies 8 bs → AreBodies 0 (of_one section bs)
  one_short [] short = tt
  one_short (b ∷ bs) short = elim (read64 b == section) as (λ (t : Bool). AreBodies 0 (cond t (drop 8 b ∷ of_one section bs) (of_one section bs))) [
    | true ↦ ((omega arith, omega (arith, length-drop 8 b, short.0.1)), one_short bs short.1)
    | false ↦ one_short bs short.1
  ]

  -- .. and so it is whole
  pub part_whole : (bs : List (List ℕ)) (file : List ℕ) → AreBodies 8 bs → get (parted bs) section ≡ Some file → Whole 0 (of_one section bs) (length file) file
  part_whole bs file short there =
      let is : file ≡ spelled (of_one section bs) = (subst (λ (o : Option (List ℕ)). IsPart (of_one section bs) o) there (parted_at bs)).0 in
      record {
        rest = [];
        front = record { split = is ∙ sym (append-nil (spelled (of_one section bs))); size = sym (ap length is); short = one_short bs short };
        ends = tt;
      }

  -- the entries of one section of a flat file
  section_bodies : (bs : List (List ℕ)) → of_section section (map entry_in_body bs) ≡ with_section section (of_one section bs)
  section_bodies [] = refl
  section_bodies (b ∷ bs) = elim (read64 b == section) as (λ (t : Bool). (read64 b == section) ≡ t → cond t (entry_in_body b ∷ of_section section (map entry_in_body bs)) (of_section section (map entry_in_body bs)) ≡ with_section section (cond t (drop 8 b ∷ of_one section bs) (of_one section bs))) [
    | true ↦ λ same. λ i. (equal_test (read64 b) section same i, drop 8 b) ∷ section_bodies bs i
    | false ↦ λ same. section_bodies bs
  ] refl

  pub flat_section : (bs : List (List ℕ)) → of_section section (in_sections bs) ≡ with_section section (of_one section bs)
  flat_section bs = fold_section section (map entry_in_body bs) [] tt ∙ section_bodies bs

pub flat_above : (bs : List (List ℕ)) → Above 0 (in_sections bs)
flat_above bs = fold_above (map entry_in_body bs) [] tt
