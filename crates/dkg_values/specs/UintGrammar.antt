-- A number of least length is read as it was written, and written as it was read.
use Rattle.std.proofs.Common.{◌≡◌, ℕ, zero, suc, ◌+◌, ◌-◌, ◌*◌, ◌/◌, ◌%◌, ◌^◌, ◌<◌, ◌≤◌, true, cond, ltb, leb, ◌&&◌, List, [], ◌∷◌, ◌++◌, length, Ok, Err, inl, inr, refl, sym, ap, subst, ◌∙◌, arith}
use Rattle.std.proofs.lemmas.Nat.{pow-add}
use Rattle.std.proofs.lemmas.Bool.{lt-ltb, le-ltb, ltb-true, ltb-false, cases_lt, le-leb}
use Rattle.std.proofs.lemmas.Bool.Decides.{nat_tests}
use Rattle.dkg_values.specs.declared.codec.CodecError.TheVariants.{InvalidVarint}
use Rattle.dkg_values.specs.Codec.{Reading, ◌>>=◌, IsBytes, IsGrammar}
use Rattle.dkg_values.specs.Uint.{IsMost, groups, groups_at, uint, uint_at}
use Rattle.dkg_values.specs.Uints.{most_step, below_most, most32, most64}
use Rattle.dkg_values.specs.Grammar.{bind_ok, chosen, guard_ok, ok_is}

IsBytes-tail : (b : ℕ) (bytes : List ℕ) → IsBytes (b ∷ bytes) → IsBytes bytes
IsBytes-tail b bytes h i = h (suc i)

-- what a number that was read is
record Read (least most n : ℕ) (bytes rest : List ℕ) : Type 0 where
  above : least ≤ n
  below : n ≤ most
  is : (more : ℕ) → n < 128 * 128 ^ more → bytes ≡ groups more n ++ rest

one_group : (n more : ℕ) → n < 128 → groups more n ≡ n ∷ []
unfolding groups
one_group n zero lt = refl
one_group n (suc more) lt = rw (lt-ltb n 128 lt)

many_groups : (n more : ℕ) (tail bytes : List ℕ) → 128 ≤ n → n < 128 * 128 ^ more → ((m : ℕ) → n / 128 < 128 * 128 ^ m → bytes ≡ groups m (n / 128) ++ tail) → (n % 128 + 128) ∷ bytes ≡ groups more n ++ tail
unfolding groups
many_groups n zero tail bytes le lt h = absurd (omega arith)
many_groups n (suc more) tail bytes le lt h =
    let power : 128 ^ suc more ≡ 128 * 128 ^ more = omega (arith, pow-add 128 1 more) in
    rw (le-ltb n 128 le) (ap (λ (x : List ℕ). (n % 128 + 128) ∷ x) (h more (omega (arith, power))))

within : (least b most : ℕ) → (leb least b && leb b most) ≡ true → (least ≤ b) × (b ≤ most)
within least b most e = grind (arith, nat_tests)

last_group : (least most b n : ℕ) (bs rest : List ℕ) → b < 128 → cond {A = Reading ℕ} (leb least b && leb b most) (Ok (b, bs)) (Err InvalidVarint) ≡ Ok (n, rest) → Read least most n (b ∷ bs) rest
last_group least most b n bs rest lt e =
    let g = guard_ok (leb least b && leb b most) InvalidVarint (b, bs) (n, rest) e in
    let w = within least b most g.0 in
    let made : Read least most b (b ∷ bs) bs = record { above = w.0; below = w.1; is = λ more _. rw (one_group b more lt) refl } in
    subst (λ (x : ℕ × List ℕ). Read least most x.0 (b ∷ bs) x.1) g.1 made

more_group : (least most b n high : ℕ) (bs rest : List ℕ) → least < 128 → IsMost most → 128 ≤ most → 128 ≤ b → b < 256 → Read 1 (most / 128) high bs rest → b - 128 + 128 * high ≡ n → Read least most n (b ∷ bs) rest
more_group least most b n high bs rest small m long le lt h is =
    let low : n % 128 + 128 ≡ b = omega (arith, h.above, is) in
    let up : n / 128 ≡ high = omega (arith, h.above, is) in
    record {
      above = omega (arith, h.above, is);
      below = omega (arith, below_most most high (b - 128) m long h.below (omega arith));
      is = λ more fits. subst (λ (x : ℕ). x ∷ bs ≡ groups more n ++ rest) low (many_groups n more rest bs (omega (arith, h.above, is)) fits (subst (λ (k : ℕ). (j : ℕ) → k < 128 * 128 ^ j → bs ≡ groups j k ++ rest) (sym up) h.is));
    }

groups_found : (bytes : List ℕ) (least most n : ℕ) (rest : List ℕ) → least < 128 → IsMost most → IsBytes bytes → groups_at least most bytes ≡ Ok (n, rest) → Read least most n bytes rest
unfolding groups_at
groups_found [] least most n rest small m are e = absurd cc
groups_found (b ∷ bs) least most n rest small m are e =
    let low : Reading ℕ = cond {A = Reading ℕ} (leb least b && leb b most) (Ok (b, bs)) (Err InvalidVarint) in
    let next : Reading ℕ = groups_at 1 (most / 128) bs >>= λ high. Ok (b - 128 + 128 * high.0, high.1) in
    let all : Reading ℕ = Ok (n, rest) in
    elim (chosen (ltb b 128) low (cond {A = Reading ℕ} (ltb most 128) (Err InvalidVarint) next) all e) [
      | inl last ↦ last_group least most b n bs rest (ltb-true b 128 last.0) last.1
      | inr more ↦
          let g = chosen (ltb most 128) (Err InvalidVarint) next all more.1 in
          elim g [
            | inl none ↦ absurd (let x = none.1 in cc)
            | inr some ↦
                let long : 128 ≤ most = ltb-false most 128 some.0 in
                let x = bind_ok (groups_at 1 (most / 128) bs) (λ high. Ok (b - 128 + 128 * high.0, high.1)) (n, rest) some.1 in
                let h = groups_found bs 1 (most / 128) x.0.0 x.0.1 (omega arith) (most_step most m long).next (IsBytes-tail b bs are) x.1 in
                let o = ok_is (b - 128 + 128 * x.0.0, x.0.1) (n, rest) x.2 in
                let first : Read 1 (most / 128) x.0.0 bs rest = subst (λ (r : List ℕ). Read 1 (most / 128) x.0.0 bs r) (ap (λ (p : ℕ × List ℕ). p.1) o) h in
                more_group least most b n x.0.0 bs rest small m long (ltb-false b 128 more.0) (are 0) first (ap (λ (p : ℕ × List ℕ). p.0) o)
          ]
    ]

is_within : (least b most : ℕ) → least ≤ b → b ≤ most → (leb least b && leb b most) ≡ true
is_within least b most p q = rw (le-leb least b p, le-leb b most q) refl

last_again : (least most n : ℕ) (rest : List ℕ) → least ≤ n → n ≤ most → n < 128 → groups_at least most (n ∷ rest) ≡ Ok (n, rest)
unfolding groups_at
last_again least most n rest ge le lt = rw (lt-ltb n 128 lt, is_within least n most ge le) refl

more_again : (least most b high : ℕ) (bs rest : List ℕ) → 128 ≤ b → 128 ≤ most → groups_at 1 (most / 128) bs ≡ Ok (high, rest) → groups_at least most (b ∷ bs) ≡ Ok (b - 128 + 128 * high, rest)
unfolding groups_at
more_again least most b high bs rest le long h = rw (le-ltb b 128 le, le-ltb most 128 long, h) refl

groups_again : (more least most n : ℕ) (rest : List ℕ) → least ≤ n → n ≤ most → IsMost most → n < 128 * 128 ^ more → groups_at least most (groups more n ++ rest) ≡ Ok (n, rest)
unfolding groups
groups_again zero least most n rest ge le m lt = last_again least most n rest ge le (omega arith)
groups_again (suc more) least most n rest ge le m lt =
    elim (cases_lt n 128) [
      | inl short ↦ rw (lt-ltb n 128 short) (last_again least most n rest ge le short)
      | inr long ↦
          let power : 128 ^ suc more ≡ 128 * 128 ^ more = omega (arith, pow-add 128 1 more) in
          let s = most_step most m (omega arith) in
          let h = groups_again more 1 (most / 128) (n / 128) rest (omega arith) (omega (arith, s.last)) s.next (omega (arith, power)) in
          let whole : n % 128 + 128 - 128 + 128 * (n / 128) ≡ n = omega arith in
          let e = more_again least most (n % 128 + 128) (n / 128) (groups more (n / 128) ++ rest) rest (omega arith) (omega arith) h in
          rw (le-ltb n 128 long) (e ∙ ap (λ (k : ℕ). Ok (k, rest)) whole)
    ]

pub uint_grammar : (most : ℕ) → IsMost most → most < 2 ^ 64 → IsGrammar (λ n. n ≤ most) uint (uint_at most)
uint_grammar most m small = record {
  found = λ bytes n rest are e. let r = groups_found bytes 0 most n rest (omega arith) m are e in (r.below, r.is 9 (omega (arith, r.below)));
  again = λ n rest fits. groups_again 9 0 most n rest (omega arith) fits m (omega arith);
}

pub length-groups : (more n : ℕ) → length (groups more n) ≤ more + 1
unfolding groups
length-groups zero n = omega arith
length-groups (suc more) n =
    elim (cases_lt n 128) [
      | inl short ↦ rw (lt-ltb n 128 short) (omega arith)
      | inr long ↦ rw (le-ltb n 128 long) (omega (arith, length-groups more (n / 128)))
    ]

pub uint_short : (n : ℕ) → length (uint n) ≤ 10
uint_short n = length-groups 9 n

length-groups_below : (few more n : ℕ) → n < 128 * 128 ^ few → length (groups more n) ≤ few + 1
unfolding groups
length-groups_below few zero n lt = omega arith
length-groups_below zero (suc more) n lt = rw (lt-ltb n 128 (omega arith)) (omega arith)
length-groups_below (suc few) (suc more) n lt =
    let power : 128 ^ suc few ≡ 128 * 128 ^ few = omega (arith, pow-add 128 1 few) in
    elim (cases_lt n 128) [
      | inl short ↦ rw (lt-ltb n 128 short) (omega arith)
      | inr long ↦ rw (le-ltb n 128 long) (omega (arith, length-groups_below few more (n / 128) (omega (arith, power))))
    ]

-- five groups hold any number below 2 ^ 32
pub uint_narrow : (n : ℕ) → n < 2 ^ 32 → length (uint n) ≤ 5
uint_narrow n lt = length-groups_below 4 9 n (omega arith)

pub u64_grammar : IsGrammar (λ n. n < 2 ^ 64) uint (uint_at (2 ^ 64 - 1))
u64_grammar =
    let law = uint_grammar (2 ^ 64 - 1) most64 (omega arith) in
    record { found = λ bytes n rest are e. let f = law.found bytes n rest are e in (omega (arith, f.0), f.1); again = λ n rest lt. law.again n rest (omega arith) }

pub u32_grammar : IsGrammar (λ n. n < 2 ^ 32) uint (uint_at (2 ^ 32 - 1))
u32_grammar =
    let law = uint_grammar (2 ^ 32 - 1) most32 (omega arith) in
    record { found = λ bytes n rest are e. let f = law.found bytes n rest are e in (omega (arith, f.0), f.1); again = λ n rest lt. law.again n rest (omega arith) }
