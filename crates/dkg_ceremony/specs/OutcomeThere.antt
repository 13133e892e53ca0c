-- Where the key stays, the selected logs make an output.
use Rattle.std.proofs.Common.{◌≡◌, ℕ, suc, ◌+◌, ◌<◌, true, false, cond, ltb, eqb, List, [], ◌∷◌, length, is_some, refl, arith}
use Rattle.std.specs.Prelude.{Contains}
use Rattle.std.specs.List.{list_any}
use Rattle.std.proofs.lemmas.Bool.{and_from, and_parts}
use Rattle.dkg_values.specs.IndexLaws.{index_of-Contains}
use Rattle.dkg_values.specs.Rising.{index_of, with_key, set_of}
use Rattle.dkg_ceremony.specs.declared.round.RoundParts.{RoundParts as Round}
use Rattle.dkg_ceremony.specs.Agreement.{all_in, PartsAgree}
use Rattle.dkg_ceremony.specs.Thresholds.{quorum_of}
use Rattle.dkg_ceremony.specs.Outcomes.{LogMap, reveals_at, revealed_from, revealed_of}

all_with : (x : ℕ) (xs keys : List ℕ) → is_some (index_of x keys) ≡ true → all_in xs keys ≡ true → all_in (with_key x xs) keys ≡ true
all_with x [] keys e h = and_from _ _ e refl
all_with x (y ∷ ys) keys e h =
    let p = and_parts (is_some (index_of y keys)) (all_in ys keys) h in
    elim (ltb x y) as (λ b. all_in (cond b (x ∷ y ∷ ys) (cond (eqb x y) (y ∷ ys) (y ∷ with_key x ys))) keys ≡ true) [
      | true ↦ and_from _ _ e h
      | false ↦ elim (eqb x y) as (λ b. all_in (cond b (y ∷ ys) (y ∷ with_key x ys)) keys ≡ true) [ true ↦ h | false ↦ and_from _ _ p.0 (all_with x ys keys e p.1) ]
    ]

all_of_set : (xs keys : List ℕ) → all_in xs keys ≡ true → all_in (set_of xs) keys ≡ true
all_of_set [] keys h = refl
all_of_set (x ∷ xs) keys h = let p = and_parts (is_some (index_of x keys)) (all_in xs keys) h in all_with x (set_of xs) keys p.0 (all_of_set xs keys p.1)

all_revealed : (logs : LogMap) (selected : List ℕ) (index : ℕ) (players keys : List ℕ) → all_in players keys ≡ true → all_in (revealed_from logs selected index players) keys ≡ true
all_revealed logs selected index [] keys h = refl
all_revealed logs selected index (p ∷ ps) keys h =
    let parts = and_parts (is_some (index_of p keys)) (all_in ps keys) h in
    let rest = all_revealed logs selected (index + 1) ps keys parts.1 in
    elim (list_any (reveals_at logs index) selected) as (λ b. all_in (cond b (p ∷ revealed_from logs selected (index + 1) ps) (revealed_from logs selected (index + 1) ps)) keys ≡ true) [ true ↦ and_from _ _ parts.0 rest | false ↦ rest ]

all_among : (some keys : List ℕ) → ((x : ℕ) → Contains some x → Contains keys x) → all_in some keys ≡ true
all_among [] keys h = refl
all_among (x ∷ xs) keys h = and_from _ _ (index_of-Contains x keys (h x (0, omega arith, refl))) (all_among xs keys (λ y c. h y (suc c.0, omega (arith, c.1), c.2)))

-- the parts of an outcome agree
pub outcome_agrees : (round : Round) (logs : LogMap) (selected poly : List ℕ) → 0 < length round.players → length poly ≡ quorum_of (length round.players) → PartsAgree (length round.players) poly round.players (revealed_of round logs selected)
unfolding revealed_of
outcome_agrees round logs selected poly some long = record {
  total_is = refl;
  some = some;
  degree = long;
  among = all_of_set (revealed_from logs selected 0 round.players) round.players (all_revealed logs selected 0 round.players round.players (all_among round.players round.players (λ x c. c)));
}
