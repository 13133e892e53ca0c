-- The players whose halves a dealer still offers.
use Rattle.std.proofs.Common.{◌≡◌, inl, inr, ℕ, List, [], ◌∷◌, Bool, true, false, Option, Some, None, refl, ◌∙◌, ap, arith}
use Rattle.std.specs.Prelude.{◌==◌, if◌then◌else◌}
use Rattle.std.specs.List.{AllByRecursion}
use Rattle.std.proofs.lemmas.Bool.Decides.{nat_tests}
use Rattle.dkg_values.specs.Rising.{lookup}
use Rattle.dkg_store.specs.Dealer.{with_unsent}
use Rattle.dkg_core.specs.Setup.{unsent_of}
use Rattle.dkg_core.specs.Laws.{IsAmong}

pub all_as : {A : Type 0} (P Q : A → Type 0) → ((a : A) → P a → Q a) → (xs : List A) → AllByRecursion P xs → AllByRecursion Q xs
all_as P Q as_other [] all = tt
all_as P Q as_other (x ∷ xs) all = (as_other x all.0, all_as P Q as_other xs all.1)

some_is : {A : Type 0} (a b : A) → ◌≡◌ {A = Option A} (Some a) (Some b) → a ≡ b
some_is a b e = cc

none_apart : {A : Type 0} (a : A) → ◌≡◌ {A = Option A} None (Some a) → ⊥
none_apart a e = cc

-- what a key is found with stands among the pairs
pub found_among : {V : Type 0} (key : ℕ) (value : V) (pairs : List (ℕ × V)) → lookup key pairs ≡ Some value → IsAmong (key, value) pairs
found_among key value [] is = absurd (none_apart value is)
found_among {V} key value (p ∷ ps) is = either (p.0 == key) refl is (λ found. found_among key value ps found)
  where
    same : (n m : ℕ) → (n == m) ≡ true → n ≡ m
    same n m e = grind (arith, nat_tests)

    either : (t : Bool) → (p.0 == key) ≡ t → (if t then Some p.1 else lookup key ps) ≡ Some value → (lookup key ps ≡ Some value → IsAmong (key, value) ps) → IsAmong (key, value) (p ∷ ps)
    either true e found rest = inl (ap (λ (k : ℕ). (k, p.1)) (same p.0 key e) ∙ ap (λ (v : V). (key, v)) (some_is p.1 value found))
    either false e found rest = inr (rest found)

-- A player whose half is offered hasn't acknowledged, is one of these, and has that half.
pub record IsUnsent (acks : List (ℕ × List ℕ)) (privates : List (ℕ × ℕ)) (players : List ℕ) (p : ℕ × ℕ) : Type 0 where
  pub lacks : lookup p.0 acks ≡ None
  pub has : lookup p.0 privates ≡ Some p.1
  pub plays : IsAmong p.0 players

pub are_unsent : (acks : List (ℕ × List ℕ)) (privates : List (ℕ × ℕ)) (players : List ℕ) → AllByRecursion (IsUnsent acks privates players) (unsent_of acks privates players)
are_unsent acks privates [] = tt
are_unsent acks privates (player ∷ players) =
    either (lookup player acks) (lookup player privates) refl refl
    (all_as (IsUnsent acks privates players) (IsUnsent acks privates (player ∷ players)) (λ p is. record { lacks = is.lacks; has = is.has; plays = inr is.plays }) (unsent_of acks privates players)
    (are_unsent acks privates players))
  where
    either : (ack : Option (List ℕ)) (private : Option ℕ) → lookup player acks ≡ ack → lookup player privates ≡ private
        → AllByRecursion (IsUnsent acks privates (player ∷ players)) (unsent_of acks privates players)
        → AllByRecursion (IsUnsent acks privates (player ∷ players)) (with_unsent player ack private (unsent_of acks privates players))
    either (Some ack) private is has rest = rest
    either None None is has rest = rest
    either None (Some private) is has rest = (record { lacks = is; has = has; plays = inl refl }, rest)
