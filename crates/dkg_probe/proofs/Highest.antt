-- The floor that is chosen is the highest reply, and of equally high ones that of the least key.
use Rattle.std.proofs.Common.{◌≡◌, ◌⊎◌, inl, inr, ℕ, ◌<◌, Bool, true, false, cond, nat_lt, ◌==◌, ◌&&◌, ◌||◌, [], ◌∷◌, fold, Option, Some, None, IfSome, if◌then◌else◌, refl, sym, ap, subst, ◌∙◌, arith}
use Rattle.std.proofs.lemmas.Bool.Decides.{nat_tests}
use Rattle.std.specs.BTreeMap.{is_at}
use Rattle.std.specs.Map.{keys_of, values_of}
use Rattle.std.specs.List.{AllByRecursion}
use Rattle.std.specs.List.Sorted.{IsStrictlySortedBy}
use Rattle.std.specs.Ordering.{nat_cmp}
use Rattle.std.specs.declared.cmp.Ordering.TheVariants.{Less}
use Rattle.dkg_types.specs.declared.finalization.Finalization.{Finalization}
use Rattle.dkg_probe.specs.Sampling.{Replies, reply_at, is_higher, better, highest, IsHighest}

-- ---- by epoch, then by view

irrefl : (f : Finalization) → is_higher f f ≡ false
irrefl f = numbers f.epoch f.view
  where
    numbers : (e v : ℕ) → (nat_lt e e || ((e == e) && nat_lt v v)) ≡ false
    numbers e v = grind (arith, nat_tests)

asym : (f g : Finalization) → is_higher f g ≡ true → is_higher g f ≡ false
asym f g h = numbers f.epoch f.view g.epoch g.view h
  where
    numbers : (e v d w : ℕ) → (nat_lt d e || ((e == d) && nat_lt w v)) ≡ true → (nat_lt e d || ((d == e) && nat_lt v w)) ≡ false
    numbers e v d w h = grind (arith, nat_tests)

trans : (f g b : Finalization) → is_higher f g ≡ true → is_higher g b ≡ true → is_higher f b ≡ true
trans f g b h i = numbers f.epoch f.view g.epoch g.view b.epoch b.view h i
  where
    numbers : (e v d w c u : ℕ) → (nat_lt d e || ((e == d) && nat_lt w v)) ≡ true → (nat_lt c d || ((d == c) && nat_lt u w)) ≡ true → (nat_lt c e || ((e == c) && nat_lt u v)) ≡ true
    numbers e v d w c u h i = grind (arith, nat_tests)

-- what is higher than one is higher than what isn't higher than that one
past : (f g b : Finalization) → is_higher g b ≡ false → is_higher f b ≡ true → is_higher f g ≡ true
past f g b h i = numbers f.epoch f.view g.epoch g.view b.epoch b.view h i
  where
    numbers : (e v d w c u : ℕ) → (nat_lt c d || ((d == c) && nat_lt u w)) ≡ false → (nat_lt c e || ((e == c) && nat_lt u v)) ≡ true → (nat_lt d e || ((e == d) && nat_lt w v)) ≡ true
    numbers e v d w c u h i = grind (arith, nat_tests)

-- ---- replies whose keys rise

abbrev After : ℕ → Replies → Type 0
After k [] = Unit {0}
After k (e ∷ es) = (k < e.0) × After e.0 es

below : (k y : ℕ) → nat_cmp k y ≡ Less → k < y
below k y e = grind (arith, nat_tests)

after_of : (k : ℕ) (es : Replies) → AllByRecursion (λ y. nat_cmp k y ≡ Less) (keys_of es) → IsStrictlySortedBy nat_cmp (keys_of es) → After k es
unfolding IsStrictlySortedBy
after_of k [] all sorted = tt
after_of k (e ∷ es) all sorted = (below k e.0 all.0, after_of e.0 es sorted.0 sorted.1)

tie : (k : ℕ) → is_at (nat_cmp k) k ≡ true
tie k = grind (arith, nat_tests)

at_key : (q k : ℕ) → is_at (nat_cmp q) k ≡ true → q ≡ k
at_key q k h = grind (arith, nat_tests)

apart : (p k : ℕ) → k < p → is_at (nat_cmp p) k ≡ false
apart p k lt = grind (arith, nat_tests)

-- a reply is the first one or one of the others
reply_cases : (e : ℕ × Finalization) (es : Replies) (q : ℕ) (g : Finalization) → reply_at q (e ∷ es) ≡ Some g → ((q ≡ e.0) × (e.1 ≡ g)) ⊎ (reply_at q es ≡ Some g)
reply_cases e es q g is = tested (is_at (nat_cmp q) e.0) refl is
  where
    tested : (t : Bool) → is_at (nat_cmp q) e.0 ≡ t → cond t (Some e.1) (reply_at q es) ≡ Some g → ((q ≡ e.0) × (e.1 ≡ g)) ⊎ (reply_at q es ≡ Some g)
    tested true h s = inl (at_key q e.0 h, cc)
    tested false h s = inr s

found_after : (k : ℕ) (es : Replies) → After k es → (q : ℕ) (g : Finalization) → reply_at q es ≡ Some g → k < q
found_after k [] after q g is = absurd cc
found_after k (e ∷ es) after q g is =
    elim (reply_cases e es q g is) [
      | inl h ↦ omega (arith, after.0, h.0)
      | inr later ↦ omega (arith, after.0, found_after e.0 es after.1 q g later)
    ]

abbrev NoneAbove : Finalization → Replies → Type 0
NoneAbove f es = (q : ℕ) (g : Finalization) → reply_at q es ≡ Some g → is_higher g f ≡ false

highest_here : (e : ℕ × Finalization) (es : Replies) → After e.0 es → NoneAbove e.1 es → IsHighest (e ∷ es) e.1
highest_here e es after none = record {
  peer = e.0;
  held = ap (λ (t : Bool). cond t (Some e.1) (reply_at e.0 es)) (tie e.0);
  above = λ q g is. elim (reply_cases e es q g is) [ inl h ↦ subst (λ (x : Finalization). is_higher x e.1 ≡ false) h.1 (irrefl e.1) | inr later ↦ none q g later ];
  least = λ q g is no. elim (reply_cases e es q g is) [ inl h ↦ omega (arith, h.0) | inr later ↦ omega (arith, found_after e.0 es after q g later) ];
}

highest_later : (e : ℕ × Finalization) (es : Replies) (f : Finalization) → After e.0 es → is_higher f e.1 ≡ true → IsHighest es f → IsHighest (e ∷ es) f
highest_later e es f after over is =
    let past_it : e.0 < is.peer = found_after e.0 es after is.peer f is.held in
    let other : is_at (nat_cmp is.peer) e.0 ≡ false = apart is.peer e.0 past_it in
    record {
      peer = is.peer;
      held = ap (λ (t : Bool). cond t (Some e.1) (reply_at is.peer es)) other ∙ is.held;
      above = λ q g at. elim (reply_cases e es q g at) [ inl h ↦ subst (λ (x : Finalization). is_higher x f ≡ false) h.1 (asym f e.1 over) | inr later ↦ is.above q g later ];
      least = λ q g at no. elim (reply_cases e es q g at) [
        | inl h ↦ let twice : is_higher f e.1 ≡ false = subst (λ (x : Finalization). is_higher f x ≡ false) (sym h.1) no in absurd (let e : ◌≡◌ {A = Bool} true false = sym over ∙ twice in cc)
        | inr later ↦ is.least q g later no
      ];
    }

abbrev Outcome : Finalization → Replies → Finalization → Type 0
Outcome b es f = ((f ≡ b) × NoneAbove b es) ⊎ ((is_higher f b ≡ true) × IsHighest es f)

tested : (b : Finalization) (e : ℕ × Finalization) (es : Replies) (f : Finalization) → After e.0 es → ((d : Finalization) → fold better (Some d) (values_of es) ≡ Some f → Outcome d es f) → (t : Bool) → is_higher e.1 b ≡ t
    → fold better (if t then Some e.1 else Some b) (values_of es) ≡ Some f → Outcome b (e ∷ es) f
tested b e es f after more true h s = elim (more e.1 s) [
  | inl x ↦ inr (subst (λ (y : Finalization). is_higher y b ≡ true) (sym x.0) h, subst (λ (y : Finalization). IsHighest (e ∷ es) y) (sym x.0) (highest_here e es after x.1))
  | inr x ↦ inr (trans f e.1 b x.0 h, highest_later e es f after x.0 x.1)
]
tested b e es f after more false h s = elim (more b s) [
  | inl x ↦ inl (x.0, λ q g at. elim (reply_cases e es q g at) [ inl y ↦ subst (λ (z : Finalization). is_higher z b ≡ false) y.1 h | inr later ↦ x.1 q g later ])
  | inr x ↦ inr (x.0, highest_later e es f after (past f e.1 b h x.0) x.1)
]

-- the best so far stays, or a later reply is higher
run : (b : Finalization) (es : Replies) (k : ℕ) (f : Finalization) → After k es → fold better (Some b) (values_of es) ≡ Some f → Outcome b es f
run b [] k f after is = inl (cc, λ q g at. absurd cc)
run b (e ∷ es) k f after is = tested b e es f after.1 (λ d s. run d es e.0 f after.1 s) (is_higher e.1 b) refl is

pub highest_is : (replies : Replies) (f : Finalization) → IsStrictlySortedBy nat_cmp (keys_of replies) → highest replies ≡ Some f → IsHighest replies f
unfolding IsStrictlySortedBy
highest_is [] f sorted is = absurd cc
highest_is (e ∷ es) f sorted is =
    let after = after_of e.0 es sorted.0 sorted.1 in
    elim (run e.1 es e.0 f after is) [
      | inl x ↦ subst (λ (y : Finalization). IsHighest (e ∷ es) y) (sym x.0) (highest_here e es after x.1)
      | inr x ↦ highest_later e es f after x.0 x.1
    ]

pub highest_if : (replies : Replies) (found : Option Finalization) → IsStrictlySortedBy nat_cmp (keys_of replies) → found ≡ highest replies → IfSome found (IsHighest replies)
highest_if replies None sorted is = tt
highest_if replies (Some f) sorted is = highest_is replies f sorted (sym is)
