-- How many the parts of an output are, which agree.
use Rattle.std.proofs.Common.{ℕ, ◌≤◌, List, [], ◌∷◌, length, inl, inr, sym, subst, arith}
use Rattle.std.specs.Prelude.{IsTrue, Contains, is_some}
use Rattle.std.proofs.lemmas.Bool.{and_parts}
use Rattle.dkg_values.specs.Among.{first_or_later, few_among}
use Rattle.dkg_values.specs.IndexLaws.{Contains-index_of}
use Rattle.dkg_values.specs.Rising.{IsSet, index_of}
use Rattle.dkg_ceremony.specs.Agreement.{all_in, PartsAgree}

-- those that are all in others are each contained
contained : (xs ys : List ℕ) → IsTrue (all_in xs ys) → (x : ℕ) → Contains xs x → Contains ys x
contained [] ys h x (k, lt, is) = absurd (omega arith)
contained (z ∷ zs) ys h x c =
    let p = and_parts (is_some (index_of z ys)) (all_in zs ys) h in
    elim (first_or_later z zs x c) [
      | inl e ↦ subst (λ (w : ℕ). Contains ys w) (sym e) (Contains-index_of z ys p.0)
      | inr later ↦ contained zs ys p.1 x later
    ]

-- how many parts there are that agree
pub record AreFew (poly players revealed : List ℕ) : Type 0 where
  pub some : 1 ≤ length poly
  pub poly_few : length poly ≤ length players
  pub revealed_few : length revealed ≤ length players

pub are_few : (total : ℕ) (poly players revealed : List ℕ) → PartsAgree total poly players revealed → IsSet players → IsSet revealed → AreFew poly players revealed
are_few total poly players revealed agree keys known = record {
  some = omega (arith, agree.total_is, agree.some, agree.degree);
  poly_few = omega (arith, agree.total_is, agree.degree);
  revealed_few = few_among revealed players known.rising keys.rising (contained revealed players agree.among);
}
