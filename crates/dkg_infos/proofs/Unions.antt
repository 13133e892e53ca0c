-- The union of a set with itself.
use Rattle.std.proofs.Common.{◌≡◌, ℕ, ◌++◌, ◌∙◌, List, ⊎_elim, subst}
use Rattle.std.specs.Prelude.{Contains, IfOk, Result, Ok, Err}
use Rattle.std.specs.List.Sorted.{IsStrictlyIncreasing}
use Rattle.std.proofs.lemmas.List.Elements.{Contains-append_cases, Contains-append_left}
use Rattle.dkg_values.specs.Rising.{set_of}
use Rattle.dkg_values.specs.RisingLaws.{set_of-only}

once : (xs : List ℕ) → IsStrictlyIncreasing xs → xs ≡ set_of (xs ++ xs)
once xs up = set_of-only xs (xs ++ xs) (record {
  rising = up;
  has = λ x c. ⊎_elim (λ l. l) (λ r. r) (Contains-append_cases xs xs x c);
  only = λ x c. Contains-append_left xs xs x c;
})

-- two sets that are the same
once_both : (one other : List ℕ) → IsStrictlyIncreasing one → one ≡ other → one ≡ set_of (one ++ other)
once_both one other up same = subst (λ (ys : List ℕ). one ≡ set_of (one ++ ys)) same (once one up)

-- .. of which the first is copied
pub copied : {E : Type 0} (one other : List ℕ) (made : Result (List ℕ) E) → IsStrictlyIncreasing one → one ≡ other → IfOk made (λ set. set ≡ one) → IfOk made (λ set. set ≡ set_of (one ++ other))
copied one other (Ok set) up same is = is ∙ once_both one other up same
copied one other (Err e) up same is = tt
