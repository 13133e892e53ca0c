-- What is found at a number in entries that are joined, and after a value was put at one.
use Rattle.std.proofs.Common.{◌≡◌, ◌≢◌, ℕ, zero, suc, ◌<◌, Bool, true, false, cond, List, [], ◌∷◌, ◌++◌, length, get_or, set, Option, Some, None, refl, sym, ap, ◌∙◌, arith, nat_cmp, is_eq, ne_eqb, eqb-true}
use Rattle.std.specs.BTreeMap.{is_at}
use Rattle.std.specs.Cmp.{unsigned_tied}
use Rattle.std.specs.FinMap.{find}
use Rattle.std.specs.FinMap.Entries.{find-append}
use Rattle.std.specs.Map.{keys_of, lookup}
use Rattle.std.specs.Option.{option_or}
use Rattle.std.specs.Ordering.{eq_by_cmp}
use Rattle.std.proofs.lemmas.Cmp.{nat_cmp_total, tied_itself, eq_by_cmp_equiv}

-- ---- tests of numbers

abbrev pub same : ℕ → ℕ → Bool
same q n = eq_by_cmp nat_cmp q n

itself : (n : ℕ) → same n n ≡ true
itself n = ap is_eq (tied_itself nat_cmp_total n)

apart : (q n : ℕ) → q ≢ n → same q n ≡ false
apart q n differ = unsigned_tied q n ∙ ne_eqb q n differ

told : (q n : ℕ) → same q n ≡ true → q ≡ n
told q n e = eqb-true q n (sym (unsigned_tied q n) ∙ e)

-- ---- a choice by a test

repeated : {A : Type 0} (b : Bool) (x y z : A) → cond b x z ≡ cond b x (cond b y z)
repeated true x y z = refl
repeated false x y z = refl

swapped : {A : Type 0} (a b : Bool) (x y z : A) → (a ≡ true → b ≡ true → ⊥) → cond a x (cond b y z) ≡ cond b y (cond a x z)
swapped true true x y z not_both = absurd (not_both refl refl)
swapped true false x y z not_both = refl
swapped false b x y z not_both = refl

or_first : {A : Type 0} (b : Bool) (x : A) (o p : Option A) → option_or (cond b (Some x) o) p ≡ cond b (Some x) (option_or o p)
or_first true x o p = refl
or_first false x o p = refl

or_second : {A : Type 0} (b : Bool) (x : A) (o p : Option A) → (b ≡ true → o ≡ None) → option_or o (cond b (Some x) p) ≡ cond b (Some x) (option_or o p)
or_second {A} true x o p none = ap (λ (r : Option A). option_or r (Some x)) (none refl)
or_second {A} false x o p none = refl

module _ {X : Type 0} where
  -- ---- entries that are joined, as those of a tree

  pub find_joined : (es fs : List (ℕ × X)) (q : ℕ) → find nat_cmp q (es ++ fs) ≡ option_or (find nat_cmp q es) (find nat_cmp q fs)
  find_joined [] fs q = refl
  find_joined (e ∷ es) fs q = ap (cond (same q e.0) (Some e.1)) (find_joined es fs q) ∙ sym (or_first (same q e.0) e.1 (find nat_cmp q es) (find nat_cmp q fs))

  pub find_lookup : (es : List (ℕ × X)) (q : ℕ) → find nat_cmp q es ≡ lookup (is_at (nat_cmp q)) es
  find_lookup [] q = refl
  find_lookup (e ∷ es) q = ap (cond (same q e.0) (Some e.1)) (find_lookup es q)

  -- ---- at an index

  pub find_at : (es : List (ℕ × X)) (k n : ℕ) (item : ℕ × X) → k < length es → get_or (keys_of es) k 0 ≡ n → ((j : ℕ) → j < k → get_or (keys_of es) j 0 ≢ n) → item ≡ get_or es k item
      → find nat_cmp n es ≡ Some item.1
  find_at [] k n item within has before is = absurd (omega arith)
  find_at (e ∷ es) zero n item within has before is =
      ap (λ (b : Bool). cond b (Some e.1) (find nat_cmp n es)) (ap (same n) has ∙ itself n) ∙ ap (λ (f : ℕ × X). Some f.1) (sym is)
  find_at (e ∷ es) (suc k) n item within has before is =
      ap (λ (b : Bool). cond b (Some e.1) (find nat_cmp n es)) (apart n e.0 (λ is_first. before 0 (omega arith) (sym is_first)))
      ∙ find_at es k n item (omega arith) has (λ j less. before (suc j) (omega arith)) is

  pub find_nowhere : (es : List (ℕ × X)) (n : ℕ) → ((j : ℕ) → j < length es → get_or (keys_of es) j 0 ≢ n) → find nat_cmp n es ≡ None
  find_nowhere [] n none = refl
  find_nowhere (e ∷ es) n none =
      ap (λ (b : Bool). cond b (Some e.1) (find nat_cmp n es)) (apart n e.0 (λ is_first. none 0 (omega arith) (sym is_first)))
      ∙ find_nowhere es n (λ j less. none (suc j) (omega arith))

  -- ---- a value that was put at a number

  -- what is found afterwards
  abbrev pub Puts : List (ℕ × X) → List (ℕ × X) → ℕ → X → Type 0
  Puts old new n v = (q : ℕ) → find nat_cmp q new ≡ cond (same q n) (Some v) (find nat_cmp q old)

  -- in place of the one that stood there
  pub puts_at : (es : List (ℕ × X)) (k n : ℕ) (v : X) → k < length es → get_or (keys_of es) k 0 ≡ n → ((j : ℕ) → j < k → get_or (keys_of es) j 0 ≢ n) → Puts es (set es k (n, v)) n v
  puts_at [] k n v within has before q = absurd (omega arith)
  puts_at (e ∷ es) zero n v within has before q =
      repeated (same q n) (Some v) (Some e.1) (find nat_cmp q es)
      ∙ ap (λ (m : ℕ). cond (same q n) (Some v) (cond (same q m) (Some e.1) (find nat_cmp q es))) (sym has)
  puts_at (e ∷ es) (suc k) n v within has before q =
      ap (cond (same q e.0) (Some e.1)) (puts_at es k n v (omega arith) has (λ j less. before (suc j) (omega arith)) q)
      ∙ swapped (same q e.0) (same q n) (Some e.1) (Some v) (find nat_cmp q es) (λ s t. before 0 (omega arith) (sym (told q e.0 s) ∙ told q n t))

  -- behind all, at a new number
  pub puts_behind : (es : List (ℕ × X)) (n : ℕ) (v : X) → find nat_cmp n es ≡ None → Puts es (es ++ (n, v) ∷ []) n v
  puts_behind es n v none q = find-append nat_cmp nat_cmp_total es n v q none

  -- into a tree
  pub puts_tree : (ts us : List (ℕ × X)) (n : ℕ) (v : X) → ((q : ℕ) → lookup (is_at (nat_cmp q)) us ≡ cond (is_at (nat_cmp n) q) (Some v) (lookup (is_at (nat_cmp q)) ts)) → Puts ts us n v
  puts_tree ts us n v updates q =
      find_lookup us q ∙ updates q
      ∙ ap (λ (b : Bool). cond b (Some v) (lookup (is_at (nat_cmp q)) ts)) ((eq_by_cmp_equiv nat_cmp_total).symm n q)
      ∙ ap (cond (same q n) (Some v)) (sym (find_lookup ts q))

  -- into the first of two joined lists, and into the second, where the first has nothing at the number
  pub puts_first : (es fs ts : List (ℕ × X)) (n : ℕ) (v : X) → Puts es fs n v → Puts (es ++ ts) (fs ++ ts) n v
  puts_first es fs ts n v puts q =
      find_joined fs ts q
      ∙ ap (λ (o : Option X). option_or o (find nat_cmp q ts)) (puts q)
      ∙ or_first (same q n) v (find nat_cmp q es) (find nat_cmp q ts)
      ∙ ap (cond (same q n) (Some v)) (sym (find_joined es ts q))

  pub puts_second : (es ts us : List (ℕ × X)) (n : ℕ) (v : X) → find nat_cmp n es ≡ None → Puts ts us n v → Puts (es ++ ts) (es ++ us) n v
  puts_second es ts us n v none puts q =
      find_joined es us q
      ∙ ap (option_or (find nat_cmp q es)) (puts q)
      ∙ or_second (same q n) v (find nat_cmp q es) (find nat_cmp q ts) (λ t. ap (λ (m : ℕ). find nat_cmp m es) (told q n t) ∙ none)
      ∙ ap (cond (same q n) (Some v)) (sym (find_joined es ts q))
