-- Numbers of blocks, and of requests, by their tests.
use Rattle.std.proofs.Common.{◌≡◌, ℕ, ◌<◌, ◌==◌, Bool, true, false, ◌||◌, List, [], ◌∷◌, ◌++◌, Option, Some, is_some, cond, refl, sym, ◌∙◌, arith, nat_lt}
use Rattle.std.specs.Prelude.{All, IsTrue, ◌↔◌, ⊤}
use Rattle.std.specs.List.{list_any}
use Rattle.std.specs.Ordering.{is_eq, nat_cmp}
use Rattle.std.proofs.lemmas.Bool.{and_parts, lt-ltb, ltb-true}
use Rattle.std.proofs.lemmas.Bool.Decides.{nat_tests}
use Rattle.std.proofs.lemmas.List.Elements.{All-cons, All-head, All-nil, All-tail}
use Rattle.std.proofs.lemmas.List.Folds.{list_any-append}
use Rattle.dkg_text.specs.declared.script.Event.{Event}
use Rattle.dkg_reading.specs.Asked.{asks, is_asked}
use Rattle.dkg_reading.specs.Grammar.{are_blocks}

are_all : (blocks : ℕ) (ns : List ℕ) → are_blocks blocks ns ≡ true → All (λ n. n < blocks) ns
are_all blocks [] is = All-nil (λ n. n < blocks)
are_all blocks (n ∷ ns) is =
    let parts = and_parts (nat_lt n blocks) (are_blocks blocks ns) is in
    All-cons (λ n. n < blocks) n ns (ltb-true n blocks parts.0) (are_all blocks ns parts.1)

all_are : (blocks : ℕ) (ns : List ℕ) → All (λ n. n < blocks) ns → are_blocks blocks ns ≡ true
all_are blocks [] all = refl
all_are blocks (n ∷ ns) all =
    let below : n < blocks = All-head (λ n. n < blocks) n ns all in
    rw (lt-ltb n blocks below, all_are blocks ns (All-tail (λ n. n < blocks) n ns all)) refl

pub blocks_value : (b : Bool) (blocks : ℕ) (ns : List ℕ) → (IsTrue b ↔ All (λ n. n < blocks) ns) → b ≡ are_blocks blocks ns
blocks_value true blocks ns is = sym (all_are blocks ns (is.0 refl))
blocks_value false blocks ns is = by_case (are_blocks blocks ns) refl
  where
    by_case : (b : Bool) → are_blocks blocks ns ≡ b → false ≡ b
    by_case true each = is.1 (are_all blocks ns each)
    by_case false other = refl

same_test : (k q : ℕ) → is_eq (nat_cmp q k) ≡ (k == q)
same_test k q = grind (arith, nat_tests)

pub added : (k q : ℕ) (o : Option ⊤) → is_some (cond (is_eq (nat_cmp q k)) (Some tt) o) ≡ (k == q || is_some o)
added k q o = rw (same_test k q) (by_case (k == q))
  where
    by_case : (b : Bool) → is_some (cond b (Some tt) o) ≡ (b || is_some o)
    by_case true = refl
    by_case false = refl

-- one event more
pub asked_more : (done : List Event) (event : Event) (request : ℕ) → is_asked (done ++ event ∷ []) request ≡ (asks request event || is_asked done request)
asked_more done event request = list_any-append (asks request) done (event ∷ []) ∙ by_case (list_any (asks request) done) (asks request event)
  where
    by_case : (a b : Bool) → (a || (b || false)) ≡ (b || a)
    by_case true true = refl
    by_case true false = refl
    by_case false true = refl
    by_case false false = refl
