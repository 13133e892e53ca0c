-- Which used blocks make a chain: those by height of which no neighbours are apart, and those of block lines in turn.
use Rattle.std.proofs.Common.{◌≡◌, ℕ, zero, suc, ◌+◌, ◌-◌, ◌<◌, ◌≤◌, ◌==◌, ◌&&◌, ◌⊎◌, Bool, true, false, not, List, [], ◌∷◌, map, length, get_or, filter, Option, Some, None, refl, sym, ap, subst, inl, inr, ◌∙◌, arith, eqb-true, eq-eqb, ne_eqb, add-zero, eq-or-lt_of_le}
use Rattle.std.specs.Prelude.{All, Contains, IsPermutation, MatchOption, if◌then◌else◌}
use Rattle.std.specs.List.Sorted.{IsNonDecreasingBy}
use Rattle.std.specs.Option.{option_map_or}
use Rattle.std.specs.Str.{bytes_eq}
use Rattle.std.proofs.lemmas.Bool.{cases_lt, false≢true}
use Rattle.std.proofs.lemmas.List.{get_or_default}
use Rattle.std.proofs.lemmas.List.Elements.{All-contains, All-contains_itself, All-filter}
use Rattle.std.proofs.lemmas.List.Sorted.{All-permutation, Contains-permutation, IsPermutation-sym}
use Rattle.std.proofs.lemmas.Option.{slice_get-get_or}
use Rattle.std.proofs.lemmas.Slice.Eq.{bytes_eq-Decides}
use Rattle.dkg_words.specs.declared.chain.Block.{Block}
use Rattle.dkg_words.specs.declared.chain.Pair.{Pair}
use Rattle.dkg_words.specs.declared.chain.Why.{Why}
use Rattle.dkg_words.specs.declared.chain.Why.TheVariants.{Twice, Loose}
use Rattle.dkg_words.specs.Chain.{FindsApart, IsPairAmong, MakeChain, are_same, block_lines, block_numbered, blocks_from, is_child, line_from, lives_in, mark_by, marked_blocks, parent_number, used_of, why_apart}
use Rattle.dkg_words.specs.Lines.{over_lines}
use Rattle.dkg_words.specs.Turns.{AreFirstApart, AreInTurn, AreTurned, NoneApartBelow}
use Rattle.dkg_words.proofs.BlockLines.{IsFromText, all_from_text}
use Rattle.dkg_words.proofs.Marks.{same_at, same_length, unmarked, unmarked_blocks}

-- TWO BLOCKS

abbrev why_by : (t s u c : Bool) → Option Why
why_by t s u c = if t then (if s then None else Some Twice) else (if u && not c then Some Loose else None)

none_if : (t s u c : Bool) → (t ≡ true → s ≡ true) → (u ≡ true → c ≡ true) → why_by t s u c ≡ None
none_if true true u c same child = refl
none_if true false u c same child = absurd (false≢true (same refl))
none_if false s true true same child = refl
none_if false s true false same child = absurd (false≢true (child refl))
none_if false s false c same child = refl

same_if_none : (t s u c : Bool) → why_by t s u c ≡ None → t ≡ true → s ≡ true
same_if_none true true u c is e = refl
same_if_none true false u c is e = cc is
same_if_none false s u c is e = cc e

child_if_none : (t s u c : Bool) → why_by t s u c ≡ None → t ≡ false → u ≡ true → c ≡ true
child_if_none true s u c is e f = cc e
child_if_none false s true true is e f = refl
child_if_none false s true false is e f = cc is
child_if_none false s false c is e f = cc f

module _ (text : List ℕ) (blocks : List Block) where
  abbrev line_of : Block → List ℕ
  line_of b = line_from text b.place

  pub why_none : (one other : Block) → (one.height ≡ other.height → line_of one ≡ line_of other) → (one.height + 1 ≡ other.height → is_child text blocks other one ≡ true)
      → why_apart text blocks one other ≡ None
  why_none one other same child =
      none_if (one.height == other.height) (are_same text one other) (other.height - one.height == 1) (is_child text blocks other one)
      (λ t. (bytes_eq-Decides (line_of one) (line_of other)).1 (same (eqb-true one.height other.height t)))
      (λ u. let one_above : other.height - one.height ≡ 1 = eqb-true (other.height - one.height) 1 u in child (omega arith))

  same_from_none : (one other : Block) → why_apart text blocks one other ≡ None → one.height ≡ other.height → line_of one ≡ line_of other
  same_from_none one other is heights =
      (bytes_eq-Decides (line_of one) (line_of other)).0
      (same_if_none (one.height == other.height) (are_same text one other) (other.height - one.height == 1) (is_child text blocks other one) is (eq-eqb one.height other.height heights))

  child_from_none : (one other : Block) → why_apart text blocks one other ≡ None → one.height + 1 ≡ other.height → is_child text blocks other one ≡ true
  child_from_none one other is heights =
      let one_above : other.height - one.height ≡ 1 = omega arith in
      child_if_none (one.height == other.height) (are_same text one other) (other.height - one.height == 1) (is_child text blocks other one) is
      (ne_eqb one.height other.height (λ e. omega (arith, e, heights))) (eq-eqb (other.height - one.height) 1 one_above)

  abbrev child_by : (parent : Option ℕ) (line : List ℕ) → Bool
  child_by parent line = option_map_or (λ its. bytes_eq (line_of its) line) (block_numbered blocks parent) false

  -- BLOCKS BY HEIGHT

  -- of which no neighbours below the n-th are apart
  module _ (xs : List Block) (d : Block) (n : ℕ) (within : n ≤ length xs) (adjacent : NoneApartBelow text blocks xs n) (rising : IsNonDecreasingBy (λ b. b.height) xs)
      (all : All (IsFromText text) xs) where
    abbrev nth : ℕ → Block
    nth k = get_or xs k d

    up : (i j : ℕ) → i ≤ j → j < length xs → (nth i).height ≤ (nth j).height
    up i j le below = rising i j d le below

    inside : (j : ℕ) → j < n → j < length xs
    inside j below = omega (arith, below, within)

    next_same : (k j : ℕ) → j ≡ k + 1 → j < n → (nth k).height ≡ (nth j).height → line_of (nth k) ≡ line_of (nth j)
    next_same k j is below heights =
        subst (λ (m : ℕ). m < n → (nth k).height ≡ (nth m).height → line_of (nth k) ≡ line_of (nth m)) (sym is)
        (λ b h. same_from_none (nth k) (nth (k + 1)) (adjacent k d b) h) below heights

    next_child : (k j : ℕ) → j ≡ k + 1 → j < n → (nth k).height + 1 ≡ (nth j).height → is_child text blocks (nth j) (nth k) ≡ true
    next_child k j is below heights =
        subst (λ (m : ℕ). m < n → (nth k).height + 1 ≡ (nth m).height → is_child text blocks (nth m) (nth k) ≡ true) (sym is)
        (λ b h. child_from_none (nth k) (nth (k + 1)) (adjacent k d b) h) below heights

    same_by : (m i j : ℕ) → j ≡ i + m → j < n → (nth i).height ≡ (nth j).height → line_of (nth i) ≡ line_of (nth j)
    same_by zero i j is below heights = let e : i ≡ j = omega arith in ap (λ (k : ℕ). line_of (nth k)) e
    same_by (suc m) i j is below heights =
        let one : (nth i).height ≤ (nth (i + m)).height = up i (i + m) (omega arith) (inside (i + m) (omega arith)) in
        let on : (nth (i + m)).height ≤ (nth j).height = up (i + m) j (omega arith) (inside j below) in
        let first : line_of (nth i) ≡ line_of (nth (i + m)) = same_by m i (i + m) refl (omega arith) (omega arith) in
        first ∙ next_same (i + m) j (omega arith) below (omega arith)

    same_within : (i j : ℕ) → i ≤ j → j < n → (nth i).height ≡ (nth j).height → line_of (nth i) ≡ line_of (nth j)
    same_within i j le below heights = same_by (j - i) i j (omega arith) below heights

    child_of_next : (i k j : ℕ) → i ≤ k → j ≡ k + 1 → j < n → (nth i).height ≡ (nth k).height → (nth i).height + 1 ≡ (nth j).height → is_child text blocks (nth j) (nth i) ≡ true
    child_of_next i k j le is below same heights =
        let lines : line_of (nth i) ≡ line_of (nth k) = same_within i k le (omega arith) same in
        ap (child_by (nth j).parent) lines ∙ next_child k j is below (omega arith)

    child_of_same : (i k j : ℕ) → j ≡ k + 1 → j < n → (nth k).height ≡ (nth j).height → is_child text blocks (nth k) (nth i) ≡ true → is_child text blocks (nth j) (nth i) ≡ true
    child_of_same i k j is below same child =
        let lines : line_of (nth k) ≡ line_of (nth j) = next_same k j is below same in
        let parents : (nth j).parent ≡ (nth k).parent = all j d (inside j below) ∙ (ap parent_number (sym lines) ∙ sym (all k d (inside k (omega arith)))) in
        ap (λ (p : Option ℕ). child_by p (line_of (nth i))) parents ∙ child

    child_at : (m i j : ℕ) → j ≡ i + m → j < n → (nth i).height + 1 ≡ (nth j).height → is_child text blocks (nth j) (nth i) ≡ true
    child_at zero i j is below heights =
        let e : i ≡ j = omega arith in let same : (nth i).height ≡ (nth j).height = ap (λ (k : ℕ). (nth k).height) e in absurd (omega arith)
    child_at (suc m) i j is below heights =
        let one : (nth i).height ≤ (nth (i + m)).height = up i (i + m) (omega arith) (inside (i + m) (omega arith)) in
        let on : (nth (i + m)).height ≤ (nth j).height = up (i + m) j (omega arith) (inside j below) in
        by_case (eq-or-lt_of_le one) on (λ h. child_at m i (i + m) refl (omega arith) h)
      where
        by_case : ((nth i).height ≡ (nth (i + m)).height) ⊎ ((nth i).height < (nth (i + m)).height) → (nth (i + m)).height ≤ (nth j).height
            → ((nth i).height + 1 ≡ (nth (i + m)).height → is_child text blocks (nth (i + m)) (nth i) ≡ true) → is_child text blocks (nth j) (nth i) ≡ true
        by_case (inl same) on more = child_of_next i (i + m) j (omega arith) (omega arith) below same heights
        by_case (inr less) on more =
            let same : (nth (i + m)).height ≡ (nth j).height = omega arith in child_of_same i (i + m) j (omega arith) below same (more (omega arith))

    none_at : (i j : ℕ) → i < n → j < n → why_apart text blocks (nth i) (nth j) ≡ None
    none_at i j first second = why_none (nth i) (nth j) (by_case (cases_lt i j)) (λ h. by_height (cases_lt i j) h)
      where
        by_case : (i < j) ⊎ (j ≤ i) → (nth i).height ≡ (nth j).height → line_of (nth i) ≡ line_of (nth j)
        by_case (inl less) h = same_within i j (omega arith) second h
        by_case (inr le) h = sym (same_within j i le first (sym h))

        by_height : (i < j) ⊎ (j ≤ i) → (nth i).height + 1 ≡ (nth j).height → is_child text blocks (nth j) (nth i) ≡ true
        by_height (inl less) h = child_at (j - i) i j (omega arith) second h
        by_height (inr le) h = let down : (nth j).height ≤ (nth i).height = up j i le (inside i first) in absurd (omega arith)

    -- none is of which the second stands lower than the n-th
    none_lower : (i j : ℕ) → n < length xs → i < length xs → j < length xs → (nth j).height < (nth n).height → why_apart text blocks (nth i) (nth j) ≡ None
    none_lower i j more first second lower = by_place (cases_lt i n) (cases_lt j n)
      where
        by_place : (i < n) ⊎ (n ≤ i) → (j < n) ⊎ (n ≤ j) → why_apart text blocks (nth i) (nth j) ≡ None
        by_place _ (inr over) = let high : (nth n).height ≤ (nth j).height = up n j over second in absurd (omega arith)
        by_place (inl one) (inl other) = none_at i j one other
        by_place (inr over) (inl other) =
            let high : (nth n).height ≤ (nth i).height = up n i over first in
            why_none (nth i) (nth j) (λ h. absurd (omega (arith, h, high, lower))) (λ h. absurd (omega (arith, h, high, lower)))

  chain_by_height : (xs : List Block) → NoneApartBelow text blocks xs (length xs) → IsNonDecreasingBy (λ b. b.height) xs → All (IsFromText text) xs → MakeChain text blocks xs
  chain_by_height xs adjacent rising all = λ one other in_one in_other.
      let at_one : get_or xs in_one.0 one ≡ one = in_one.2 in
      let at_other : get_or xs in_other.0 one ≡ other = get_or_default xs in_other.0 one other in_other.1 ∙ in_other.2 in
      let none = none_at xs one (length xs) (omega arith) adjacent rising all in_one.0 in_other.0 in_one.1 in_other.1 in
      subst (λ (b : Block). why_apart text blocks one b ≡ None) at_other (subst (λ (b : Block). why_apart text blocks b (get_or xs in_other.0 one) ≡ None) at_one none)

  lowest_by_height : (xs : List Block) (p : Pair) → AreFirstApart text blocks xs p → IsNonDecreasingBy (λ b. b.height) xs → All (IsFromText text) xs
      → (one other : Block) → Contains xs one → Contains xs other → other.height < p.other.height → why_apart text blocks one other ≡ None
  lowest_by_height xs p first rising all = λ one other in_one in_other lower.
      let at_one : get_or xs in_one.0 one ≡ one = in_one.2 in
      let at_other : get_or xs in_other.0 one ≡ other = get_or_default xs in_other.0 one other in_other.1 ∙ in_other.2 in
      let at_index : get_or xs first.index one ≡ p.other = get_or_default xs first.index one p.other first.inside ∙ sym first.other in
      let less : (get_or xs in_other.0 one).height < (get_or xs first.index one).height =
      omega (arith, lower, ap (λ (b : Block). b.height) at_other, ap (λ (b : Block). b.height) at_index) in
      let none = none_lower xs one first.index (omega (arith, first.inside)) first.before rising all in_one.0 in_other.0 first.inside in_one.1 in_other.1 less in
      subst (λ (b : Block). why_apart text blocks one b ≡ None) at_other (subst (λ (b : Block). why_apart text blocks b (get_or xs in_other.0 one) ≡ None) at_one none)

-- WHAT IS FOUND

pub found_apart : (text : List ℕ) (blocks used xs : List Block) (pair : Option Pair) → IsPermutation used xs → IsNonDecreasingBy (λ b. b.height) xs → All (IsFromText text) used
    → MatchOption pair (NoneApartBelow text blocks xs (length xs)) (λ p. AreFirstApart text blocks xs p) → FindsApart text blocks used pair
found_apart text blocks used xs None moved rising all adjacent =
    let chain = chain_by_height text blocks xs adjacent rising (All-permutation (IsFromText text) used xs moved all) in
    λ one other in_one in_other. chain one other (Contains-permutation used xs one moved in_one) (Contains-permutation used xs other moved in_other)
found_apart text blocks used xs (Some p) moved rising all first =
    let back = IsPermutation-sym used xs moved in
    let lowest = lowest_by_height text blocks xs p first rising (All-permutation (IsFromText text) used xs moved all) in
    record {
      one = Contains-permutation xs used p.one back (first.index - 1, omega (arith, first.inside), sym first.one);
      other = Contains-permutation xs used p.other back (first.index, first.inside, sym first.other);
      why = first.why;
      lowest = λ one other in_one in_other lower. lowest one other (Contains-permutation used xs one moved in_one) (Contains-permutation used xs other moved in_other) lower;
    }

-- the blocks of block lines stand in the text, marked or not
used_from_text : (text : List ℕ) (most place : ℕ) → All (IsFromText text) (used_of (marked_blocks text (block_lines text most place)))
used_from_text text most place =
    let bs = block_lines text most place in let ms = marked_blocks text bs in let same = unmarked_blocks text bs in
    All-filter (λ b. b.used) (IsFromText text) ms
    (λ k d below. subst (IsFromText text) (sym (same_at ms bs same k d below)) (all_from_text text most place k d (omega (arith, below, same_length ms bs same))))

pub found_among : (text : List ℕ) (most place : ℕ) (xs : List Block) (pair : Option Pair) → IsPermutation (used_of (marked_blocks text (block_lines text most place))) xs
    → IsNonDecreasingBy (λ b. b.height) xs
    → MatchOption pair (NoneApartBelow text (marked_blocks text (block_lines text most place)) xs (length xs))
    (λ p. AreFirstApart text (marked_blocks text (block_lines text most place)) xs p)
    → IsPairAmong text (block_lines text most place) pair
found_among text most place xs pair moved rising finds =
    let ms = marked_blocks text (block_lines text most place) in found_apart text ms (used_of ms) xs pair moved rising (used_from_text text most place) finds

-- .. as the code has them
pub found_with : (text : List ℕ) (most place : ℕ) (lives : List ℕ) (blocks marked one two used three : List Block) (pair : Option Pair) → blocks ≡ block_lines text most place → lives ≡ lives_in text
    → marked ≡ over_lines mark_by blocks [] lives → one ≡ marked → two ≡ marked → three ≡ used → IsPermutation (used_of one) used → IsNonDecreasingBy (λ b. b.height) used
    → MatchOption pair (NoneApartBelow text two three (length three)) (λ p. AreFirstApart text two three p) → IsPairAmong text (block_lines text most place) pair
found_with text most place lives blocks marked one two used three pair are are_lives are_marked is_one is_two is_three moved rising finds =
    let ms = marked_blocks text (block_lines text most place) in
    let same : marked ≡ ms =
    are_marked ∙ (ap (λ (l : List ℕ). over_lines mark_by blocks [] l) are_lives ∙ ap (λ (bs : List Block). over_lines mark_by bs [] (lives_in text)) are) in
    let permuted : IsPermutation (used_of ms) used = subst (λ (bs : List Block). IsPermutation (used_of bs) used) (is_one ∙ same) moved in
    let in_used : MatchOption pair (NoneApartBelow text two used (length used)) (λ p. AreFirstApart text two used p) =
    subst (λ (us : List Block). MatchOption pair (NoneApartBelow text two us (length us)) (λ p. AreFirstApart text two us p)) is_three finds in
    found_among text most place used pair permuted rising
    (subst (λ (bs : List Block). MatchOption pair (NoneApartBelow text bs used (length used)) (λ p. AreFirstApart text bs used p)) (is_two ∙ same) in_used)

-- IN TURN

turned_at : (h p : ℕ) (bs : List Block) → AreTurned h p bs → (k : ℕ) (d : Block) → k < length bs → ((get_or bs k d).height ≡ h + k) × ((get_or bs k d).parent ≡ Some (p + k))
turned_at h p [] turned k d below = absurd (omega (arith, below))
turned_at h p (b ∷ bs) turned zero d below = (turned.0 ∙ sym (add-zero h), turned.1 ∙ ap Some (sym (add-zero p)))
turned_at h p (b ∷ bs) turned (suc k) d below =
    let more = turned_at (h + 1) (p + 1) bs turned.2 k d (omega (arith, below)) in
    let height : h + 1 + k ≡ h + suc k = omega arith in
    let parent : p + 1 + k ≡ p + suc k = omega arith in
    (more.0 ∙ height, more.1 ∙ ap Some parent)

height_at : (bs : List Block) → AreInTurn bs → (k : ℕ) (d : Block) → k < length bs → (get_or bs k d).height ≡ (get_or bs 0 d).height + k
height_at [] turned k d below = absurd (omega (arith, below))
height_at (b ∷ bs) turned zero d below = sym (add-zero b.height)
height_at (b ∷ bs) turned (suc k) d below =
    let more = (turned_at (b.height + 1) 0 bs turned k d (omega (arith, below))).0 in let same : b.height + 1 + k ≡ b.height + suc k = omega arith in more ∙ same

parent_at : (bs : List Block) → AreInTurn bs → (k : ℕ) (d : Block) → suc k < length bs → (get_or bs (suc k) d).parent ≡ Some k
parent_at [] turned k d below = absurd (omega (arith, below))
parent_at (b ∷ bs) turned k d below =
    let more = (turned_at (b.height + 1) 0 bs turned k d (omega (arith, below))).1 in let same : 0 + k ≡ k = omega arith in more ∙ ap Some same

-- what is in a part is in the whole
in_filter : (p : Block → Bool) (xs : List Block) (x : Block) → Contains (filter p xs) x → Contains xs x
in_filter p xs x is = All-contains (Contains xs) (filter p xs) x (All-filter p (Contains xs) xs (All-contains_itself xs)) is

module _ (text : List ℕ) (bs ms : List Block) (same : map unmarked ms ≡ map unmarked bs) (turned : AreInTurn bs) (d : Block) where
  abbrev mth : ℕ → Block
  mth k = get_or ms k d

  in_bs : (k : ℕ) → k < length ms → k < length bs
  in_bs k below = let long = same_length ms bs same in omega (arith, below, long)

  marked_height : (k : ℕ) → k < length ms → (mth k).height ≡ (get_or bs 0 d).height + k
  marked_height k below = ap (λ (b : Block). b.height) (same_at ms bs same k d below) ∙ height_at bs turned k d (in_bs k below)

  marked_parent : (k : ℕ) → suc k < length ms → (mth (suc k)).parent ≡ Some k
  marked_parent k below = ap (λ (b : Block). b.parent) (same_at ms bs same (suc k) d below) ∙ parent_at bs turned k d (in_bs (suc k) below)

  child_in_turn : (i j : ℕ) → j ≡ suc i → i < length ms → j < length ms → is_child text ms (mth j) (mth i) ≡ true
  child_in_turn i j is first second =
      let parent : (mth j).parent ≡ Some i = subst (λ (n : ℕ). n < length ms → (mth n).parent ≡ Some i) (sym is) (marked_parent i) second in
      let found : block_numbered ms (mth j).parent ≡ Some (mth i) = ap (block_numbered ms) parent ∙ slice_get-get_or ms i d first in
      ap (λ (o : Option Block). option_map_or (λ its. are_same text its (mth i)) o false) found ∙ (bytes_eq-Decides (line_from text (mth i).place) (line_from text (mth i).place)).1 refl

  none_in_turn : (i j : ℕ) → i < length ms → j < length ms → why_apart text ms (mth i) (mth j) ≡ None
  none_in_turn i j first second =
      let one = marked_height i first in let other = marked_height j second in
      why_none text ms (mth i) (mth j) (λ h. let e : i ≡ j = omega (arith, h, one, other) in ap (λ (k : ℕ). line_from text (mth k).place) e)
      (λ h. let e : j ≡ suc i = omega (arith, h, one, other) in child_in_turn i j e first second)

pub chain_in_turn : (text : List ℕ) (bs : List Block) → AreInTurn bs → IsPairAmong text bs None
chain_in_turn text bs turned = λ one other in_one in_other.
    let ms = marked_blocks text bs in
    let first = in_filter (λ b. b.used) ms one in_one in let second = in_filter (λ b. b.used) ms other in_other in
    let at_one : get_or ms first.0 one ≡ one = first.2 in
    let at_other : get_or ms second.0 one ≡ other = get_or_default ms second.0 one other second.1 ∙ second.2 in
    let none = none_in_turn text bs ms (unmarked_blocks text bs) turned one first.0 second.0 first.1 second.1 in
    subst (λ (b : Block). why_apart text ms one b ≡ None) at_other (subst (λ (b : Block). why_apart text ms b (get_or ms second.0 one) ≡ None) at_one none)

pub no_chain : (text : List ℕ) → IsPairAmong text [] None
no_chain text = chain_in_turn text [] tt

pub no_blocks : (text : List ℕ) (place : Option ℕ) → place ≡ None → IsPairAmong text (blocks_from text place) None
no_blocks text place none = subst (λ (o : Option ℕ). IsPairAmong text (blocks_from text o) None) (sym none) (no_chain text)
