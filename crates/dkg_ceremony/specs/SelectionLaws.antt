-- How dealers with valid logs are selected, and what is known of these.
use Rattle.std.proofs.Common.{◌≡◌, ℕ, zero, suc, ◌<◌, ◌≤◌, ◌++◌, Bool, true, false, ltb, List, [], ◌∷◌, length, get_or, take, drop, Option, Some, None, inl, inr, refl, sym, ap, subst, ◌∙◌, arith}
use Rattle.std.specs.List.{AllByRecursion, filter}
use Rattle.std.specs.Option.{option_map_or}
use Rattle.std.proofs.Math.Seq.{take-append_seam}
use Rattle.std.proofs.lemmas.Bool.{and_parts, eqb-true, lt-ltb, le-ltb, cases_Bool}
use Rattle.std.proofs.lemmas.List.{take_all, take-append-drop, length-take}
use Rattle.std.proofs.lemmas.List.Elements.{filter-append}
use Rattle.dkg_values.specs.Rising.{lookup}
use Rattle.dkg_ceremony.specs.declared.round.RoundParts.{RoundParts as Round}
use Rattle.dkg_ceremony.specs.declared.dealer_log.DealerLog.{DealerLog}
use Rattle.dkg_ceremony.specs.Thresholds.{quorum_of}
use Rattle.dkg_ceremony.specs.ValidLogs.{is_valid}
use Rattle.dkg_ceremony.specs.Outcomes.{LogMap, has_valid, first_many, selected_of, public_in}

-- ---- the loop that selects

-- those found so far are the first ones
found_first : (f : ℕ → Bool) (dealers : List ℕ) (i : ℕ) → take (length (filter f (take i dealers))) (filter f dealers) ≡ filter f (take i dealers)
found_first f dealers i =
    let parts : filter f dealers ≡ filter f (take i dealers) ++ filter f (drop i dealers) = ap (filter f) (sym (take-append-drop i dealers)) ∙ filter-append f (take i dealers) (drop i dealers) in
    ap (λ (xs : List ℕ). take (length (filter f (take i dealers))) xs) parts ∙ take-append_seam (filter f (take i dealers)) (filter f (drop i dealers))

found_few : (f : ℕ → Bool) (dealers : List ℕ) (i : ℕ) → length (filter f (take i dealers)) ≤ length (filter f dealers)
found_few f dealers i = omega (arith, ap length (found_first f dealers i), length-take (length (filter f (take i dealers))) (filter f dealers))

pub found_enough : (f : ℕ → Bool) (dealers found : List ℕ) (i count : ℕ) → found ≡ filter f (take i dealers) → length found ≡ count → first_many count (filter f dealers) ≡ Some found
found_enough f dealers found i count is enough =
    let n : length (filter f (take i dealers)) ≡ count = ap length (sym is) ∙ enough in
    let many : ltb (length (filter f dealers)) count ≡ false = le-ltb _ _ (omega (arith, n, found_few f dealers i)) in
    let first : take count (filter f dealers) ≡ found = ap (λ (k : ℕ). take k (filter f dealers)) (sym n) ∙ found_first f dealers i ∙ sym is in
    rw many (ap (λ (xs : List ℕ). Some xs) first)

pub found_all : (f : ℕ → Bool) (dealers found : List ℕ) (i count : ℕ) → found ≡ filter f (take i dealers) → length dealers ≤ i → length found ≤ count → count ≤ length found → first_many count (filter f dealers) ≡ Some found
found_all f dealers found i count is le few many = found_enough f dealers found i count is (omega arith)

pub found_too_few : (f : ℕ → Bool) (dealers found : List ℕ) (i count : ℕ) → found ≡ filter f (take i dealers) → length dealers ≤ i → length found < count → first_many count (filter f dealers) ≡ None
found_too_few f dealers found i count is le below =
    let all : found ≡ filter f dealers = is ∙ ap (filter f) (take_all i dealers le) in
    let few : ltb (length (filter f dealers)) count ≡ true = lt-ltb _ _ (omega (arith, below, ap length all)) in
    rw few refl

-- ---- what is known of the selected

all_filtered : (f : ℕ → Bool) (xs : List ℕ) → AllByRecursion (λ x. f x ≡ true) (filter f xs)
all_filtered f [] = tt
all_filtered f (x ∷ xs) =
    elim (cases_Bool (f x)) [
      | inl e ↦ rw e (e, all_filtered f xs)
      | inr e ↦ rw e (all_filtered f xs)
    ]

all_taken : (P : ℕ → Type 0) (n : ℕ) (xs : List ℕ) → AllByRecursion P xs → AllByRecursion P (take n xs)
all_taken P zero xs h = tt
all_taken P (suc n) [] h = tt
all_taken P (suc n) (x ∷ xs) h = (h.0, all_taken P n xs h.1)

first_all : (P : ℕ → Type 0) (count : ℕ) (xs found : List ℕ) → AllByRecursion P xs → first_many count xs ≡ Some found → AllByRecursion P found
first_all P count xs found h e =
    elim (cases_Bool (ltb (length xs) count)) [
      | inl few ↦ absurd (let n = rw few at e in cc)
      | inr many ↦
          let s : Some (take count xs) ≡ Some found = rw many at e in
          let same : take count xs ≡ found = cc in
          subst (AllByRecursion P) same (all_taken P count xs h)
    ]

abbrev pub AreValid : Round → LogMap → List ℕ → Type 0
AreValid round logs selected = AllByRecursion (λ d. has_valid round logs d ≡ true) selected

pub selected_valid : (round : Round) (logs : LogMap) (selected : List ℕ) → selected_of round logs ≡ Some selected → AreValid round logs selected
unfolding selected_of
selected_valid round logs selected e = first_all (λ d. has_valid round logs d ≡ true) (quorum_of (length round.dealers)) (filter (has_valid round logs) round.dealers) selected (all_filtered (has_valid round logs) round.dealers) e

-- a dealer's log, which is valid
pub record HasLog (round : Round) (logs : LogMap) (dealer : ℕ) : Type 0 where
  pub log : DealerLog
  pub is : lookup dealer logs ≡ Some log
  pub valid : is_valid round dealer log ≡ true

log_of : (round : Round) (dealer : ℕ) (found : Option DealerLog) → option_map_or (is_valid round dealer) found false ≡ true → (log : DealerLog) × (found ≡ Some log) × (is_valid round dealer log ≡ true)
log_of round dealer None e = absurd cc
log_of round dealer (Some log) e = (log, refl, e)

pub has_log : (round : Round) (logs : LogMap) (dealer : ℕ) → has_valid round logs dealer ≡ true → HasLog round logs dealer
has_log round logs dealer e = let l = log_of round dealer (lookup dealer logs) e in record { log = l.0; is = l.1; valid = l.2 }

valid_length : (round : Round) (dealer : ℕ) (log : DealerLog) → is_valid round dealer log ≡ true → length log.public ≡ quorum_of (length round.players)
unfolding is_valid
valid_length round dealer log e = eqb-true _ _ (and_parts _ _ (and_parts _ _ (and_parts _ _ (and_parts _ _ e).0).0).0).0

pub public_length : (round : Round) (logs : LogMap) (dealer : ℕ) → has_valid round logs dealer ≡ true → length (public_in logs dealer) ≡ quorum_of (length round.players)
public_length round logs dealer e =
    let h = has_log round logs dealer e in
    ap (λ (found : Option DealerLog). length (option_map_or (λ (log : DealerLog). log.public) found [])) h.is ∙ valid_length round dealer h.log h.valid

pub publics_long : (round : Round) (logs : LogMap) (selected : List ℕ) → AreValid round logs selected → (i d : ℕ) → i < length selected → length (public_in logs (get_or selected i d)) ≡ quorum_of (length round.players)
publics_long round logs [] h i d lt = absurd (omega arith)
publics_long round logs (x ∷ xs) h zero d lt = public_length round logs x h.0
publics_long round logs (x ∷ xs) h (suc i) d lt = publics_long round logs xs h.1 i d (omega arith)
