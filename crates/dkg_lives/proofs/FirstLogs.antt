-- The first logs of dealers, by what the heights of a chain bring: those that are recorded, and those that a part of the chain brings.
use Rattle.std.proofs.Common.{◌≡◌, ◌⊎◌, inl, inr, ◌<◌, ◌≤◌, ◌+◌, ◌==◌, ℕ, zero, suc, Bool, true, false, [], ◌++◌, Option, Some, None, arith, refl, sym, ◌∙◌, ap, subst, nat_le}
use Rattle.std.specs.Prelude.{option_to_list, IsSome, if◌then◌else◌}
use Rattle.std.proofs.lemmas.Bool.{cases_lt}
use Rattle.std.proofs.lemmas.Bool.Decides.{nat_tests}
use Rattle.dkg_values.specs.Rising.{lookup}
use Rattle.dkg_ceremony.specs.Outcomes.{LogMap}
use Rattle.dkg_ceremony.specs.declared.dealer_log.DealerLog.{DealerLog}

some_is : {A : Type 0} {x y : A} → ◌≡◌ {A = Option A} (Some x) (Some y) → x ≡ y
some_is e = cc

none_some : {A : Type 0} {x : A} → ◌≡◌ {A = Option A} None (Some x) → ⊥
none_some e = cc

-- what is recorded of a dealer, where that is reached
abbrev pub reached_in : {Noted : Type 0} → (Noted → DealerLog) → (Noted → Bool) → Option Noted → Option DealerLog
reached_in log_of is_reached None = None
reached_in log_of is_reached (Some noted) = if is_reached noted then Some (log_of noted) else None

-- what each height brings that counts: a log with its dealer, if it brings one
module _ (brings : ℕ → Option (ℕ × DealerLog)) where
  -- None of the dealer comes from here on below this height.
  abbrev pub NoneIn : (dealer low height : ℕ) → Type 0
  NoneIn dealer low height = (at : ℕ) (other : DealerLog) → low ≤ at → at < height → brings at ≡ Some (dealer, other) → ⊥

  -- THE FIRST LOG of a dealer
  pub record IsFirst (dealer height : ℕ) (log : DealerLog) : Type 0 where
    pub here : brings height ≡ Some (dealer, log)
    pub first : NoneIn dealer 0 height

  abbrev Finds : (dealer below : ℕ) → Type 0
  Finds dealer below = (height : ℕ) × (log : DealerLog) × (height < below) × IsFirst dealer height log

  searched : (dealer below : ℕ) → Finds dealer below ⊎ NoneIn dealer 0 below
  searched dealer zero = inr (λ at other low high is. absurd (omega (arith, high)))
  searched dealer (suc n) = elim (searched dealer n) [
    | inl found ↦ inl (found.0, found.1, (let high = found.2 in omega (arith, high)), found.3)
    | inr none ↦ at_last none (brings n) refl
  ]
    where
      same_number : (x y : ℕ) → (x == y) ≡ true → x ≡ y
      same_number x y e = grind (arith, nat_tests)

      other_number : (x : ℕ) → (x == x) ≡ false → ⊥
      other_number x e = grind (arith, nat_tests)

      last_or : (at : ℕ) → at < suc n → (at < n) ⊎ (at ≡ n)
      last_or at high = elim (cases_lt at n) [
        | inl below ↦ inl below
        | inr above ↦ inr (omega (arith, high, above))
      ]

      at_last : NoneIn dealer 0 n → (o : Option (ℕ × DealerLog)) → brings n ≡ o → Finds dealer (suc n) ⊎ NoneIn dealer 0 (suc n)
      at_last none None is = inr (λ at other low high found. elim (last_or at high) [
        | inl below ↦ none at other low below found
        | inr same ↦ none_some (sym is ∙ ap brings (sym same) ∙ found)
      ])
      at_last none (Some (who, log)) is = by_test (who == dealer) refl
        where
          by_test : (t : Bool) → (who == dealer) ≡ t → Finds dealer (suc n) ⊎ NoneIn dealer 0 (suc n)
          by_test true same = inl (n, log, omega arith, record { here = is ∙ ap (λ (d : ℕ). Some (d, log)) (same_number who dealer same); first = none })
          by_test false apart = inr (λ at other low high found. elim (last_or at high) [
            | inl below ↦ none at other low below found
            | inr same ↦ other_number dealer (subst (λ (d : ℕ). (d == dealer) ≡ false) (ap (λ (p : ℕ × DealerLog). p.0) (some_is (sym is ∙ ap brings (sym same) ∙ found))) apart)
          ])

  -- where one comes, a first one does
  pub first_of : (dealer height : ℕ) (log : DealerLog) → brings height ≡ Some (dealer, log) → Finds dealer (suc height)
  first_of dealer height log is = elim (searched dealer (suc height)) [
    | inl found ↦ found
    | inr none ↦ absurd (none height log (omega arith) (omega arith) is)
  ]

  pub one_first : (dealer height other : ℕ) (log its : DealerLog) → IsFirst dealer height log → IsFirst dealer other its → (height ≡ other) × (log ≡ its)
  one_first dealer height other log its one two = let same = same_height in (same, ap (λ (p : ℕ × DealerLog). p.1) (some_is (sym one.here ∙ ap brings same ∙ two.here)))
    where
      same_height : height ≡ other
      same_height = elim (cases_lt height other) [
        | inl below ↦ absurd (two.first height log (omega arith) below one.here)
        | inr least ↦ elim (cases_lt other height) [
          | inl above ↦ absurd (one.first other its (omega arith) above two.here)
          | inr most ↦ omega (arith, least, most)
        ]
      ]

  -- A PART OF THE CHAIN: what so many heights from one on bring
  abbrev pub brought_from : (low count : ℕ) → LogMap
  brought_from low zero = []
  brought_from low (suc count) = option_to_list (brings low) ++ brought_from (low + 1) count

  -- what is found there is the first from there on
  abbrev IsFoundIn : (dealer low count : ℕ) → Type 0
  IsFoundIn dealer low count =
      ((lookup dealer (brought_from low count) ≡ None) × NoneIn dealer low (low + count))
      ⊎ ((height : ℕ) × (log : DealerLog) × (lookup dealer (brought_from low count) ≡ Some log) × (low ≤ height) × (height < low + count) × (brings height ≡ Some (dealer, log)) × NoneIn dealer low height)

  -- .. where its first height brings this
  abbrev IsFoundBy : (dealer low count : ℕ) → Option (ℕ × DealerLog) → Type 0
  IsFoundBy dealer low count o =
      ((lookup dealer (option_to_list o ++ brought_from (low + 1) count) ≡ None) × NoneIn dealer low (low + suc count))
      ⊎ ((height : ℕ) × (log : DealerLog) × (lookup dealer (option_to_list o ++ brought_from (low + 1) count) ≡ Some log) × (low ≤ height) × (height < low + suc count) × (brings height ≡ Some (dealer, log)) × NoneIn dealer low height)

  found_in : (dealer low count : ℕ) → IsFoundIn dealer low count
  found_in dealer low zero = inl (refl, λ at other above high is. absurd (omega (arith, above, high)))
  found_in dealer low (suc count) = by_here (brings low) refl (found_in dealer (low + 1) count)
    where
      same_number : (x y : ℕ) → (x == y) ≡ true → x ≡ y
      same_number x y e = grind (arith, nat_tests)

      not_same : (x : ℕ) → (x == x) ≡ false → ⊥
      not_same x e = grind (arith, nat_tests)

      here_or : (at : ℕ) → low ≤ at → (at ≡ low) ⊎ (low + 1 ≤ at)
      here_or at above = elim (cases_lt low at) [
        | inl more ↦ inr (omega (arith, more))
        | inr least ↦ inl (omega (arith, above, least))
      ]

      -- where this height brings none of the dealer
      behind : (o : Option (ℕ × DealerLog)) → ((other : DealerLog) → brings low ≡ Some (dealer, other) → ⊥)
          → lookup dealer (option_to_list o ++ brought_from (low + 1) count) ≡ lookup dealer (brought_from (low + 1) count) → IsFoundIn dealer (low + 1) count → IsFoundBy dealer low count o
      behind o none same (inl nothing) = inl (
        same ∙ nothing.0,
        λ at other above high is. elim (here_or at above) [
          | inl here ↦ none other (ap brings (sym here) ∙ is)
          | inr up ↦ nothing.1 at other up (omega (arith, high)) is
        ],
      )
      behind o none same (inr (height, log, found, above, below, is, first)) = inr (
        height,
        log,
        same ∙ found,
        omega (arith, above),
        omega (arith, below),
        is,
        λ at other up high there. elim (here_or at up) [
          | inl here ↦ none other (ap brings (sym here) ∙ there)
          | inr more ↦ first at other more high there
        ],
      )

      by_here : (o : Option (ℕ × DealerLog)) → brings low ≡ o → IsFoundIn dealer (low + 1) count → IsFoundIn dealer low (suc count)
      by_here o is rest = subst (IsFoundBy dealer low count) (sym is) (by_item o is rest)
        where
          by_item : (o : Option (ℕ × DealerLog)) → brings low ≡ o → IsFoundIn dealer (low + 1) count → IsFoundBy dealer low count o
          by_item None is rest = behind None (λ other there. none_some (sym is ∙ there)) refl rest
          by_item (Some (who, log)) is rest = by_test (who == dealer) refl
            where
              by_test : (t : Bool) → (who == dealer) ≡ t → IsFoundBy dealer low count (Some (who, log))
              by_test true same = inr (
                low,
                log,
                ap (λ (t : Bool). if t then Some log else lookup dealer (brought_from (low + 1) count)) same,
                omega arith,
                omega arith,
                is ∙ ap (λ (d : ℕ). Some (d, log)) (same_number who dealer same),
                λ at other above high there. absurd (omega (arith, above, high)),
              )
              by_test false apart =
                  behind (Some (who, log)) (λ other there. not_same dealer (subst (λ (d : ℕ). (d == dealer) ≡ false) (ap (λ (p : ℕ × DealerLog). p.0) (some_is (sym is ∙ there))) apart))
                  (ap (λ (t : Bool). if t then Some log else lookup dealer (brought_from (low + 1) count)) apart) rest

  -- Nothing counts below this height.
  abbrev pub NoneBelow : ℕ → Type 0
  NoneBelow low = (at : ℕ) (p : ℕ × DealerLog) → at < low → brings at ≡ Some p → ⊥

  -- WHAT IS RECORDED: of each dealer its first log at most, and of each dealer whose first log stands at or below the tip that one. So what is recorded and reached is what the part of the chain up to
  -- the tip brings, where nothing below that part counts.
  module _ {Noted : Type 0} (log_of : Noted → DealerLog) (recorded : ℕ → Option Noted) (tip : ℕ) (is_reached : Noted → Bool) where
    pub record AreFirst : Type 0 where
      pub sound : (dealer : ℕ) (noted : Noted) → recorded dealer ≡ Some noted → (height : ℕ) × IsFirst dealer height (log_of noted) × (is_reached noted ≡ nat_le height tip)
      pub all : (dealer height : ℕ) (log : DealerLog) → IsFirst dealer height log → height ≤ tip → IsSome (recorded dealer)

    pub recorded_brought : AreFirst → (low count : ℕ) → NoneBelow low → low + count ≡ tip + 1 → (dealer : ℕ) → reached_in log_of is_reached (recorded dealer) ≡ lookup dealer (brought_from low count)
    recorded_brought are low count none ends dealer = by_found (found_in dealer low count) (recorded dealer) refl
      where
        reached : (height : ℕ) → nat_le height tip ≡ true → height ≤ tip
        reached height e = grind (arith, nat_tests)

        not_reached : (height : ℕ) → nat_le height tip ≡ false → tip < height
        not_reached height e = grind (arith, nat_tests)

        is_le : (height : ℕ) → height ≤ tip → nat_le height tip ≡ true
        is_le height low = grind (arith, nat_tests)

        nothing_found : NoneIn dealer low (low + count) → (height : ℕ) (log : DealerLog) → IsFirst dealer height log → height ≤ tip → ⊥
        nothing_found nothing height log first under = by_order (cases_lt height low)
          where
            by_order : (height < low) ⊎ (low ≤ height) → ⊥
            by_order (inl below) = none height (dealer, log) below first.here
            by_order (inr above) = nothing height log above (omega (arith, under, ends)) first.here

        by_found : IsFoundIn dealer low count → (o : Option Noted) → recorded dealer ≡ o → reached_in log_of is_reached o ≡ lookup dealer (brought_from low count)
        by_found (inl (nothing, all)) None is = sym nothing
        by_found (inl (nothing, all)) (Some noted) is =
            unreached (are.sound dealer noted is) ∙ sym nothing
          where
            unreached : (height : ℕ) × IsFirst dealer height (log_of noted) × (is_reached noted ≡ nat_le height tip) → reached_in log_of is_reached (Some noted) ≡ None
            unreached its = by_height (nat_le its.0 tip) refl
              where
                by_height : (u : Bool) → nat_le its.0 tip ≡ u → reached_in log_of is_reached (Some noted) ≡ None
                by_height true e = absurd (nothing_found all its.0 (log_of noted) its.1 (reached its.0 e))
                by_height false e = ap (λ (x : Bool). if x then Some (log_of noted) else None) (its.2 ∙ e)
        by_found (inr (height, log, found, above, below, here, first)) o is = by_noted o is
          where
            is_first : IsFirst dealer height log
            is_first = record {
              here = here;
              first = λ at other up high there. by_order at other high there (cases_lt at low);
            }
              where
                by_order : (at : ℕ) (other : DealerLog) → at < height → brings at ≡ Some (dealer, other) → (at < low) ⊎ (low ≤ at) → ⊥
                by_order at other high there (inl under) = none at (dealer, other) under there
                by_order at other high there (inr over) = first at other over high there

            by_noted : (o : Option Noted) → recorded dealer ≡ o → reached_in log_of is_reached o ≡ lookup dealer (brought_from low count)
            by_noted None is = absurd (let no : false ≡ true = subst (λ (o : Option Noted). IsSome o) is (are.all dealer height log is_first (omega (arith, below, ends))) in cc)
            by_noted (Some noted) is =
                let its = are.sound dealer noted is in
                let one = one_first dealer its.0 height (log_of noted) log its.1 is_first in
                ap (λ (x : Bool). if x then Some (log_of noted) else None) (its.2 ∙ is_le its.0 (let same = one.0 in omega (arith, same, below, ends))) ∙ ap (λ (l : DealerLog). Some l) one.1 ∙ sym found
