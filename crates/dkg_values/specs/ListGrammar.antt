-- The laws of numbers, keys, sets, and things one after another.
use Rattle.std.proofs.Common.{◌≡◌, ℕ, zero, suc, ◌+◌, ◌-◌, ◌*◌, ◌^◌, ◌<◌, ◌≤◌, Bool, true, false, cond, eqb, ltb, leb, ◌&&◌, List, [], ◌∷◌, ◌++◌, length, get_or, take, drop, Ok, Err, inl, inr, refl, sym, ap, subst, ◌∙◌, append_assoc, arith, add-one, length-append}
use Rattle.std.specs.List.{flat_map, AllByRecursion}
use Rattle.std.specs.List.Sorted.{IsStrictlyIncreasing}
use Rattle.std.specs.Int.{Width, w16, w32, byte_len, from_be_bytes, to_be_bytes}
use Rattle.std.proofs.lemmas.Bool.{eqb-true, eq-eqb, ltb-true, ltb-false, le-ltb, lt-ltb, le-leb, cases_lt}
use Rattle.std.proofs.lemmas.Bool.Decides.{nat_tests}
use Rattle.std.proofs.lemmas.List.{take_at, drop_at, take-append-drop, length-take, length-map, get_or-take, get_or_past}
use Rattle.std.proofs.lemmas.List.Concat.{flat_map-cons}
use Rattle.std.proofs.lemmas.Nat.{be_bytes_2, be_bytes_4, from_be_bytes-to_be_bytes_2, from_be_bytes-to_be_bytes_4}
use Rattle.dkg_values.specs.declared.codec.CodecError.{CodecError}
use Rattle.dkg_values.specs.declared.codec.CodecError.TheVariants.{EndOfBuffer, InvalidLength, Invalid}
use Rattle.dkg_values.specs.declared.codec.What.TheVariants as what
use Rattle.dkg_values.specs.Codec.{Reading, ◌>>=◌, IsBytes, IsGrammar, number_at, many_at}
use Rattle.dkg_values.specs.Uint.{uint, uint_at}
use Rattle.dkg_values.specs.Lists.{count_at, keys_at, keys_spelling, set_at, set_spelling, RiseFrom, SetFits, element_at, PublicFits, public_spelling, public_at, MapFits, map_spelling, map_at, values_of, pairs_at}
use Rattle.dkg_values.specs.Rising.{keys_of}
use Rattle.dkg_values.specs.Grammar.{bind_ok, chosen, guard_ok, ok_is}
use Rattle.dkg_values.specs.Uints.{most32}
use Rattle.dkg_values.specs.UintGrammar.{uint_grammar}

IsBytes-rest : (text rest bytes : List ℕ) → bytes ≡ text ++ rest → IsBytes bytes → IsBytes rest
IsBytes-rest [] rest bytes is h = subst IsBytes is h
IsBytes-rest (b ∷ text) rest bytes is h = IsBytes-rest text rest (text ++ rest) refl (λ i. subst IsBytes is h (suc i))

IsBytes-take : (n : ℕ) (bytes : List ℕ) → IsBytes bytes → IsBytes (take n bytes)
IsBytes-take n bytes h i =
    elim (cases_lt i n) [
      | inl lt ↦ rw (get_or-take n bytes i 0 lt) (h i)
      | inr le ↦ rw (get_or_past (take n bytes) i 0 (omega (arith, length-take n bytes))) (omega arith)
    ]

-- what was taken from the front
pub record Took {A : Type 0} (fits : A → Type 0) (spelling : A → List ℕ) (bytes : List ℕ) (v : A) (rest : List ℕ) : Type 0 where
  pub fit : fits v
  pub parts : bytes ≡ spelling v ++ rest
  pub left : IsBytes rest

pub took : {A : Type 0} (fits : A → Type 0) (spelling : A → List ℕ) (read : List ℕ → Reading A) → IsGrammar fits spelling read → (bytes : List ℕ) (v : A) (rest : List ℕ) → IsBytes bytes → read bytes ≡ Ok (v, rest) → Took fits spelling bytes v rest
took fits spelling read law bytes v rest are e =
    let f = law.found bytes v rest are e in
    record { fit = f.0; parts = f.1; left = IsBytes-rest (spelling v) rest bytes f.1 are }

-- a guard that let pass: the fault comes first
pub guard_past : {A : Type 0} (b : Bool) (d : CodecError) (x y : A) → cond b (Err d) (Ok x) ≡ Ok y → (b ≡ false) × (x ≡ y)
guard_past true d x y e = absurd cc
guard_past false d x y e = (refl, cc)

-- ---- numbers of fixed width

record IsWide (w : Width) (limit : ℕ) : Type 0 where
  len : (n : ℕ) → length (to_be_bytes w n) ≡ byte_len w
  back : (bytes : List ℕ) → length bytes ≡ byte_len w → IsBytes bytes → to_be_bytes w (from_be_bytes w bytes) ≡ bytes
  again : (n : ℕ) → n < limit → from_be_bytes w (to_be_bytes w n) ≡ n
  below : (bytes : List ℕ) → IsBytes bytes → from_be_bytes w bytes < limit

wide16 : IsWide w16 (2 ^ 16)
wide16 = record {
  len = λ n. refl;
  back = λ bytes len fits. be_bytes_2 bytes _ len fits refl;
  again = λ n lt. from_be_bytes-to_be_bytes_2 n lt;
  below = λ bytes fits. omega (arith, fits 0, fits 1);
}

wide32 : IsWide w32 (2 ^ 32)
wide32 = record {
  len = λ n. refl;
  back = λ bytes len fits. be_bytes_4 bytes _ len fits refl;
  again = λ n lt. from_be_bytes-to_be_bytes_4 n lt;
  below = λ bytes fits. omega (arith, fits 0, fits 1, fits 2, fits 3);
}

number_grammar : (w : Width) (limit : ℕ) → IsWide w limit → IsGrammar (λ n. n < limit) (to_be_bytes w) (number_at w)
number_grammar w limit wide = record {
  found = λ bytes n rest are e.
      let g = guard_past (ltb (length bytes) (byte_len w)) EndOfBuffer (from_be_bytes w (take (byte_len w) bytes), drop (byte_len w) bytes) (n, rest) e in
      let long : byte_len w ≤ length bytes = ltb-false _ _ g.0 in
      let n-is : from_be_bytes w (take (byte_len w) bytes) ≡ n = ap (λ (p : ℕ × List ℕ). p.0) g.1 in
      let rest-is : drop (byte_len w) bytes ≡ rest = ap (λ (p : ℕ × List ℕ). p.1) g.1 in
      let front : to_be_bytes w n ≡ take (byte_len w) bytes = rw (← n-is) (wide.back (take (byte_len w) bytes) (omega (arith, length-take (byte_len w) bytes)) (IsBytes-take (byte_len w) bytes are)) in
      (rw (← n-is) (wide.below (take (byte_len w) bytes) (IsBytes-take (byte_len w) bytes are)), rw (front, ← rest-is) (sym (take-append-drop (byte_len w) bytes)));
  again = λ n rest lt.
      let long : ltb (length (to_be_bytes w n ++ rest)) (byte_len w) ≡ false = le-ltb _ _ (omega (arith, length-append (to_be_bytes w n) rest, wide.len n)) in
      rw (long, take_at (to_be_bytes w n) rest (byte_len w) (wide.len n), drop_at (to_be_bytes w n) rest (byte_len w) (wide.len n), wide.again n lt) refl;
}

pub be16_grammar : IsGrammar (λ n. n < 2 ^ 16) (to_be_bytes w16) (number_at w16)
be16_grammar = number_grammar w16 (2 ^ 16) wide16

pub be32_grammar : IsGrammar (λ n. n < 2 ^ 32) (to_be_bytes w32) (number_at w32)
be32_grammar = number_grammar w32 (2 ^ 32) wide32

-- ---- elements

pub element_grammar : IsGrammar (λ n. n < 65521) (to_be_bytes w16) element_at
element_grammar = record {
  found = λ bytes n rest are e.
      let b = bind_ok (number_at w16 bytes) (λ n. cond {A = Reading ℕ} (ltb n.0 65521) (Ok n) (Err (Invalid what.Element))) (n, rest) e in
      let g = guard_ok (ltb b.0.0 65521) (Invalid what.Element) b.0 (n, rest) b.2 in
      let t = took (λ n. n < 2 ^ 16) (to_be_bytes w16) (number_at w16) be16_grammar bytes b.0.0 b.0.1 are b.1 in
      let made : (b.0.0 < 65521) × (bytes ≡ to_be_bytes w16 b.0.0 ++ b.0.1) = (ltb-true b.0.0 65521 g.0, t.parts) in
      subst (λ (x : ℕ × List ℕ). (x.0 < 65521) × (bytes ≡ to_be_bytes w16 x.0 ++ x.1)) g.1 made;
  again = λ n rest lt. rw (be16_grammar.again n rest (omega arith), lt-ltb n 65521 lt) refl;
}

-- ---- counts

pub record Counted (least most n : ℕ) (bytes rest : List ℕ) : Type 0 where
  pub above : least ≤ n
  pub below : n ≤ most
  pub small : n < 2 ^ 32
  pub parts : bytes ≡ uint n ++ rest
  pub left : IsBytes rest

within : (least b most : ℕ) → (leb least b && leb b most) ≡ true → (least ≤ b) × (b ≤ most)
within least b most e = grind (arith, nat_tests)

is_within : (least b most : ℕ) → least ≤ b → b ≤ most → (leb least b && leb b most) ≡ true
is_within least b most p q = rw (le-leb least b p, le-leb b most q) refl

pub count_found : (least most : ℕ) (bytes : List ℕ) (n : ℕ) (rest : List ℕ) → IsBytes bytes → count_at least most bytes ≡ Ok (n, rest) → Counted least most n bytes rest
count_found least most bytes n rest are e =
    let b = bind_ok (uint_at (2 ^ 32 - 1) bytes) (λ n. cond {A = Reading ℕ} (leb least n.0 && leb n.0 most) (Ok n) (Err (InvalidLength n.0 most))) (n, rest) e in
    let g = guard_ok (leb least b.0.0 && leb b.0.0 most) (InvalidLength b.0.0 most) b.0 (n, rest) b.2 in
    let w = within least b.0.0 most g.0 in
    let t = took (λ n. n ≤ 2 ^ 32 - 1) uint (uint_at (2 ^ 32 - 1)) (uint_grammar (2 ^ 32 - 1) most32 (omega arith)) bytes b.0.0 b.0.1 are b.1 in
    let made : Counted least most b.0.0 bytes b.0.1 = record { above = w.0; below = w.1; small = omega (arith, t.fit); parts = t.parts; left = t.left } in
    subst (λ (x : ℕ × List ℕ). Counted least most x.0 bytes x.1) g.1 made

pub count_again : (least most n : ℕ) (rest : List ℕ) → least ≤ n → n ≤ most → n < 2 ^ 32 → count_at least most (uint n ++ rest) ≡ Ok (n, rest)
count_again least most n rest ge le lt = rw ((uint_grammar (2 ^ 32 - 1) most32 (omega arith)).again n rest (omega arith), is_within least n most ge le) refl

-- ---- keys that rise

pub record KeysTook (n least : ℕ) (keys bytes rest : List ℕ) : Type 0 where
  pub count : length keys ≡ n
  pub rising : RiseFrom least keys
  pub parts : bytes ≡ keys_spelling keys ++ rest
  pub left : IsBytes rest

keys_first : (n least key : ℕ) (keys bytes mid rest : List ℕ) → bytes ≡ to_be_bytes w32 key ++ mid → key < 2 ^ 32 → least ≤ key → KeysTook n (key + 1) keys mid rest → KeysTook (suc n) least (key ∷ keys) bytes rest
keys_first n least key keys bytes mid rest is small le t = record {
  count = ap suc t.count;
  rising = (le, small, t.rising);
  parts = is ∙ ap (λ (x : List ℕ). to_be_bytes w32 key ++ x) t.parts ∙ sym (append_assoc (to_be_bytes w32 key) (keys_spelling keys) rest) ∙ ap (λ (x : List ℕ). x ++ rest) (sym (flat_map-cons (to_be_bytes w32) key keys));
  left = t.left;
}

pub keys_found : (n least : ℕ) (bytes keys rest : List ℕ) → IsBytes bytes → keys_at n least bytes ≡ Ok (keys, rest) → KeysTook n least keys bytes rest
unfolding keys_at
keys_found zero least bytes keys rest are e =
    let none : List ℕ = [] in
    let made : KeysTook 0 least none bytes bytes = record { count = refl; rising = tt; parts = refl; left = are } in
    subst (λ (x : List ℕ × List ℕ). KeysTook 0 least x.0 bytes x.1) (ok_is (none, bytes) (keys, rest) e) made
keys_found (suc n) least bytes keys rest are e =
    let next : ℕ × List ℕ → Reading (List ℕ) = λ key. keys_at n (key.0 + 1) key.1 >>= λ keys. Ok (key.0 ∷ keys.0, keys.1) in
    let b = bind_ok (number_at w32 bytes) (λ key. cond {A = Reading (List ℕ)} (ltb key.0 least) (Err (Invalid what.Set)) (next key)) (keys, rest) e in
    let all : Reading (List ℕ) = Ok (keys, rest) in
    let t = took (λ n. n < 2 ^ 32) (to_be_bytes w32) (number_at w32) be32_grammar bytes b.0.0 b.0.1 are b.1 in
    elim (chosen (ltb b.0.0 least) (Err (Invalid what.Set)) (next b.0) all b.2) [
      | inl none ↦ absurd (let x = none.1 in cc)
      | inr some ↦
          let r = bind_ok (keys_at n (b.0.0 + 1) b.0.1) (λ keys. Ok (b.0.0 ∷ keys.0, keys.1)) (keys, rest) some.1 in
          let h = keys_found n (b.0.0 + 1) b.0.1 r.0.0 r.0.1 t.left r.1 in
          let made = keys_first n least b.0.0 r.0.0 bytes b.0.1 r.0.1 t.parts t.fit (ltb-false b.0.0 least some.0) h in
          subst (λ (x : List ℕ × List ℕ). KeysTook (suc n) least x.0 bytes x.1) (ok_is (b.0.0 ∷ r.0.0, r.0.1) (keys, rest) r.2) made
    ]

pub keys_again : (keys : List ℕ) (least : ℕ) (rest : List ℕ) → RiseFrom least keys → keys_at (length keys) least (keys_spelling keys ++ rest) ≡ Ok (keys, rest)
unfolding keys_at
keys_again [] least rest h = refl
keys_again (key ∷ keys) least rest h =
    let regrouped : keys_spelling (key ∷ keys) ++ rest ≡ to_be_bytes w32 key ++ (keys_spelling keys ++ rest) = ap (λ (x : List ℕ). x ++ rest) (flat_map-cons (to_be_bytes w32) key keys) ∙ append_assoc (to_be_bytes w32 key) (keys_spelling keys) rest in
    ap (keys_at (suc (length keys)) least) regrouped ∙ rw (be32_grammar.again key (keys_spelling keys ++ rest) h.1, le-ltb key least h.0, keys_again keys (key + 1) rest h.2) refl

-- what keys that were read are, whatever the bytes
pub record Ordered (n least : ℕ) (keys : List ℕ) : Type 0 where
  pub count : length keys ≡ n
  pub rising : IsStrictlyIncreasing keys
  pub first : (i : ℕ) → i < length keys → least ≤ get_or keys i 0

ordered_cons : (n least key : ℕ) (keys : List ℕ) → least ≤ key → Ordered n (key + 1) keys → Ordered (suc n) least (key ∷ keys)
ordered_cons n least key keys le o = record {
  count = ap suc o.count;
  rising = λ k. elim k as (λ k. k + 1 < suc (length keys) → get_or (key ∷ keys) k 0 < get_or (key ∷ keys) (k + 1) 0) [
    | zero ↦ λ lt. omega (arith, o.first 0 (omega arith))
    | suc j ↦ λ lt. simp add-one (simp add-one at (o.rising j (omega arith)))
  ];
  first = λ i. elim i as (λ i. i < suc (length keys) → least ≤ get_or (key ∷ keys) i 0) [
    | zero ↦ λ lt. le
    | suc j ↦ λ lt. omega (arith, o.first j (omega arith))
  ];
}

pub keys_ordered : (n least : ℕ) (bytes keys rest : List ℕ) → keys_at n least bytes ≡ Ok (keys, rest) → Ordered n least keys
unfolding keys_at
keys_ordered zero least bytes keys rest e =
    let none : List ℕ = [] in
    let made : Ordered 0 least none = record { count = refl; rising = λ k lt. absurd (omega arith); first = λ i lt. absurd (omega arith) } in
    subst (λ (x : List ℕ × List ℕ). Ordered 0 least x.0) (ok_is (none, bytes) (keys, rest) e) made
keys_ordered (suc n) least bytes keys rest e =
    let next : ℕ × List ℕ → Reading (List ℕ) = λ key. keys_at n (key.0 + 1) key.1 >>= λ keys. Ok (key.0 ∷ keys.0, keys.1) in
    let b = bind_ok (number_at w32 bytes) (λ key. cond {A = Reading (List ℕ)} (ltb key.0 least) (Err (Invalid what.Set)) (next key)) (keys, rest) e in
    let all : Reading (List ℕ) = Ok (keys, rest) in
    elim (chosen (ltb b.0.0 least) (Err (Invalid what.Set)) (next b.0) all b.2) [
      | inl none ↦ absurd (let x = none.1 in cc)
      | inr some ↦
          let r = bind_ok (keys_at n (b.0.0 + 1) b.0.1) (λ keys. Ok (b.0.0 ∷ keys.0, keys.1)) (keys, rest) some.1 in
          let made = ordered_cons n least b.0.0 r.0.0 (ltb-false b.0.0 least some.0) (keys_ordered n (b.0.0 + 1) b.0.1 r.0.0 r.0.1 r.1) in
          subst (λ (x : List ℕ × List ℕ). Ordered (suc n) least x.0) (ok_is (b.0.0 ∷ r.0.0, r.0.1) (keys, rest) r.2) made
    ]

pub set_grammar : (most : ℕ) → IsGrammar (SetFits most) set_spelling (set_at most)
set_grammar most = record {
  found = λ bytes keys rest are e.
      let b = bind_ok (count_at 0 most bytes) (λ n. keys_at n.0 0 n.1) (keys, rest) e in
      let c = count_found 0 most bytes b.0.0 b.0.1 are b.1 in
      let k = keys_found b.0.0 0 b.0.1 keys rest c.left b.2 in (
        record { in_bound = omega (arith, k.count, c.below); small = omega (arith, k.count, c.small); rising = k.rising },
        c.parts ∙ ap (λ (x : List ℕ). uint b.0.0 ++ x) k.parts ∙ sym (append_assoc (uint b.0.0) (keys_spelling keys) rest) ∙ ap (λ (n : ℕ). (uint n ++ keys_spelling keys) ++ rest) (sym k.count),
      );
  again = λ keys rest fits.
      ap (set_at most) (append_assoc (uint (length keys)) (keys_spelling keys) rest) ∙ rw (count_again 0 most (length keys) (keys_spelling keys ++ rest) (omega arith) fits.in_bound fits.small, keys_again keys 0 rest fits.rising) refl;
}

-- ---- things one after another

pub record ManyTook {A : Type 0} (fits : A → Type 0) (spelling : A → List ℕ) (n : ℕ) (things : List A) (bytes rest : List ℕ) : Type 0 where
  pub count : length things ≡ n
  pub fit : AllByRecursion fits things
  pub parts : bytes ≡ flat_map spelling things ++ rest
  pub left : IsBytes rest

pub many_found : {A : Type 0} (fits : A → Type 0) (spelling : A → List ℕ) (read : List ℕ → Reading A) → IsGrammar fits spelling read → (n : ℕ) (bytes : List ℕ) (things : List A) (rest : List ℕ) → IsBytes bytes → many_at read n bytes ≡ Ok (things, rest)
    → ManyTook fits spelling n things bytes rest
unfolding many_at
many_found {A} fits spelling read law zero bytes things rest are e =
    let none : List A = [] in
    let made : ManyTook fits spelling 0 none bytes bytes = record { count = refl; fit = tt; parts = refl; left = are } in
    subst (λ (x : List A × List ℕ). ManyTook fits spelling 0 x.0 bytes x.1) (ok_is (none, bytes) (things, rest) e) made
many_found {A} fits spelling read law (suc n) bytes things rest are e =
    let b = bind_ok (read bytes) (λ first. many_at read n first.1 >>= λ others. Ok (first.0 ∷ others.0, others.1)) (things, rest) e in
    let r = bind_ok (many_at read n b.0.1) (λ others. Ok (b.0.0 ∷ others.0, others.1)) (things, rest) b.2 in
    let t = took fits spelling read law bytes b.0.0 b.0.1 are b.1 in
    let h = many_found fits spelling read law n b.0.1 r.0.0 r.0.1 t.left r.1 in
    let made : ManyTook fits spelling (suc n) (b.0.0 ∷ r.0.0) bytes r.0.1 = record {
      count = ap suc h.count;
      fit = (t.fit, h.fit);
      parts = rw flat_map-cons (t.parts ∙ ap (λ (x : List ℕ). spelling b.0.0 ++ x) h.parts ∙ sym (append_assoc (spelling b.0.0) (flat_map spelling r.0.0) r.0.1));
      left = h.left;
    } in
    subst (λ (x : List A × List ℕ). ManyTook fits spelling (suc n) x.0 bytes x.1) (ok_is (b.0.0 ∷ r.0.0, r.0.1) (things, rest) r.2) made

pub many_again : {A : Type 0} (fits : A → Type 0) (spelling : A → List ℕ) (read : List ℕ → Reading A) → IsGrammar fits spelling read → (things : List A) (rest : List ℕ) → AllByRecursion fits things → many_at read (length things) (flat_map spelling things ++ rest) ≡ Ok (things, rest)
unfolding many_at
many_again fits spelling read law [] rest h = refl
many_again fits spelling read law (one ∷ others) rest h =
    let regrouped : flat_map spelling (one ∷ others) ++ rest ≡ spelling one ++ (flat_map spelling others ++ rest) = ap (λ (x : List ℕ). x ++ rest) (flat_map-cons spelling one others) ∙ append_assoc (spelling one) (flat_map spelling others) rest in
    ap (many_at read (suc (length others))) regrouped ∙ rw (law.again one (flat_map spelling others ++ rest) h.0, many_again fits spelling read law others rest h.1) refl

pub length-keys_spelling : (keys : List ℕ) → length (keys_spelling keys) ≡ 4 * length keys
length-keys_spelling [] = refl
length-keys_spelling (key ∷ keys) = omega (arith, length-keys_spelling keys, ap length (flat_map-cons (to_be_bytes w32) key keys), length-append (to_be_bytes w32 key) (keys_spelling keys))

pub set_size : (keys : List ℕ) (count rest : ℕ) → count ≡ length (uint (length keys)) → rest ≡ length keys → count + 4 * rest ≡ length (set_spelling keys)
set_size keys count rest c r = omega (arith, c, r, length-keys_spelling keys, length-append (uint (length keys)) (keys_spelling keys))

-- ---- elements, at least one

pub public_grammar : (most : ℕ) → IsGrammar (PublicFits most) public_spelling (public_at most)
public_grammar most = record {
  found = λ bytes xs rest are e.
      let b = bind_ok (count_at 1 most bytes) (λ n. many_at element_at n.0 n.1) (xs, rest) e in
      let c = count_found 1 most bytes b.0.0 b.0.1 are b.1 in
      let k = many_found (λ n. n < 65521) (to_be_bytes w16) element_at element_grammar b.0.0 b.0.1 xs rest c.left b.2 in (
        record { some = omega (arith, k.count, c.above); in_bound = omega (arith, k.count, c.below); small = omega (arith, k.count, c.small); elements = k.fit },
        c.parts ∙ ap (λ (x : List ℕ). uint b.0.0 ++ x) k.parts ∙ sym (append_assoc (uint b.0.0) (flat_map (to_be_bytes w16) xs) rest) ∙ ap (λ (n : ℕ). (uint n ++ flat_map (to_be_bytes w16) xs) ++ rest) (sym k.count),
      );
  again = λ xs rest fits.
      ap (public_at most) (append_assoc (uint (length xs)) (flat_map (to_be_bytes w16) xs) rest)
      ∙ rw (count_again 1 most (length xs) (flat_map (to_be_bytes w16) xs ++ rest) fits.some fits.in_bound fits.small, many_again (λ n. n < 65521) (to_be_bytes w16) element_at element_grammar xs rest fits.elements) refl;
}

-- ---- maps

pub record PairsTook {V : Type 0} (fits : V → Type 0) (spelling : V → List ℕ) (keys : List ℕ) (pairs : List (ℕ × V)) (bytes rest : List ℕ) : Type 0 where
  pub keys_are : keys_of pairs ≡ keys
  pub fit : AllByRecursion fits (values_of pairs)
  pub parts : bytes ≡ flat_map spelling (values_of pairs) ++ rest

pub pairs_found : {V : Type 0} (fits : V → Type 0) (spelling : V → List ℕ) (read : List ℕ → Reading V) → IsGrammar fits spelling read → (keys bytes : List ℕ) (pairs : List (ℕ × V)) (rest : List ℕ) → IsBytes bytes → pairs_at read keys bytes ≡ Ok (pairs, rest)
    → PairsTook fits spelling keys pairs bytes rest
unfolding pairs_at
pairs_found {V} fits spelling read law [] bytes pairs rest are e =
    let none : List (ℕ × V) = [] in
    let made : PairsTook fits spelling [] none bytes bytes = record { keys_are = refl; fit = tt; parts = refl } in
    subst (λ (x : List (ℕ × V) × List ℕ). PairsTook fits spelling [] x.0 bytes x.1) (ok_is (none, bytes) (pairs, rest) e) made
pairs_found {V} fits spelling read law (key ∷ keys) bytes pairs rest are e =
    let b = bind_ok (read bytes) (λ value. pairs_at read keys value.1 >>= λ pairs. Ok ((key, value.0) ∷ pairs.0, pairs.1)) (pairs, rest) e in
    let r = bind_ok (pairs_at read keys b.0.1) (λ pairs. Ok ((key, b.0.0) ∷ pairs.0, pairs.1)) (pairs, rest) b.2 in
    let t = took fits spelling read law bytes b.0.0 b.0.1 are b.1 in
    let h = pairs_found fits spelling read law keys b.0.1 r.0.0 r.0.1 t.left r.1 in
    let made : PairsTook fits spelling (key ∷ keys) ((key, b.0.0) ∷ r.0.0) bytes r.0.1 = record {
      keys_are = ap (λ (x : List ℕ). key ∷ x) h.keys_are;
      fit = (t.fit, h.fit);
      parts = rw flat_map-cons (t.parts ∙ ap (λ (x : List ℕ). spelling b.0.0 ++ x) h.parts ∙ sym (append_assoc (spelling b.0.0) (flat_map spelling (values_of r.0.0)) r.0.1));
    } in
    subst (λ (x : List (ℕ × V) × List ℕ). PairsTook fits spelling (key ∷ keys) x.0 bytes x.1) (ok_is ((key, b.0.0) ∷ r.0.0, r.0.1) (pairs, rest) r.2) made

pub pairs_again : {V : Type 0} (fits : V → Type 0) (spelling : V → List ℕ) (read : List ℕ → Reading V) → IsGrammar fits spelling read → (pairs : List (ℕ × V)) (rest : List ℕ) → AllByRecursion fits (values_of pairs)
    → pairs_at read (keys_of pairs) (flat_map spelling (values_of pairs) ++ rest) ≡ Ok (pairs, rest)
unfolding pairs_at
pairs_again fits spelling read law [] rest h = refl
pairs_again {V} fits spelling read law (p ∷ ps) rest h =
    let regrouped : flat_map spelling (p.1 ∷ values_of ps) ++ rest ≡ spelling p.1 ++ (flat_map spelling (values_of ps) ++ rest) = ap (λ (x : List ℕ). x ++ rest) (flat_map-cons spelling p.1 (values_of ps)) ∙ append_assoc (spelling p.1) (flat_map spelling (values_of ps)) rest in
    ap (pairs_at read (p.0 ∷ keys_of ps)) regrouped ∙ rw (law.again p.1 (flat_map spelling (values_of ps) ++ rest) h.0, pairs_again fits spelling read law ps rest h.1) refl

joined : (bytes r1 r2 r3 rest values keys : List ℕ) (n m : ℕ) {least most : ℕ} → Counted least most n bytes r1 → KeysTook n 0 keys r1 r2 → r2 ≡ uint m ++ r3 → r3 ≡ values ++ rest
    → bytes ≡ uint (length keys) ++ (keys_spelling keys ++ (uint m ++ (values ++ rest)))
joined bytes r1 r2 r3 rest values keys n m c k second third =
    c.parts ∙ ap (λ (m : ℕ). uint m ++ r1) (sym k.count) ∙ ap (λ (x : List ℕ). uint (length keys) ++ x) (k.parts ∙ ap (λ (x : List ℕ). keys_spelling keys ++ x) (second ∙ ap (λ (x : List ℕ). uint m ++ x) third))

map_made : {V : Type 0} (fits : V → Type 0) (spelling : V → List ℕ) (least most n m : ℕ) (keys : List ℕ) (pairs : List (ℕ × V)) (bytes r1 r2 r3 rest : List ℕ) → Counted least most n bytes r1 → KeysTook n 0 keys r1 r2
    → r2 ≡ uint m ++ r3 → m ≡ length keys → PairsTook fits spelling keys pairs r3 rest → MapFits fits least most pairs × (bytes ≡ map_spelling spelling pairs ++ rest)
map_made {V} fits spelling least most n m keys pairs bytes r1 r2 r3 rest c k second same p =
    let long : length keys ≡ length pairs = omega (arith, ap length p.keys_are, length-map pairs (λ (p : ℕ × V). p.0)) in
    let count : m ≡ length pairs = same ∙ long in
    let whole = joined bytes r1 r2 r3 rest (flat_map spelling (values_of pairs)) keys n m c k second p.parts in (
      record {
        many = omega (arith, long, c.above, k.count);
        in_bound = omega (arith, long, c.below, k.count);
        small = omega (arith, long, c.small, k.count);
        rising = subst (RiseFrom 0) (sym p.keys_are) k.rising;
        values = p.fit;
      },
      rw (p.keys_are, ← count) (simp append_assoc whole),
    )

pub map_grammar : {V : Type 0} (fits : V → Type 0) (spelling : V → List ℕ) (read : List ℕ → Reading V) → IsGrammar fits spelling read → (least most : ℕ) → IsGrammar (MapFits fits least most) (map_spelling spelling) (map_at read least most)
map_grammar {V} fits spelling read law least most = record {
  found = λ bytes pairs rest are e.
      let second : List ℕ → ℕ × List ℕ → Reading (List (ℕ × V)) = λ keys m. cond {A = Reading (List (ℕ × V))} (eqb m.0 (length keys)) (pairs_at read keys m.1) (Err (InvalidLength m.0 (length keys))) in
      let all : Reading (List (ℕ × V)) = Ok (pairs, rest) in
      let b = bind_ok (count_at least most bytes) (λ n. keys_at n.0 0 n.1 >>= λ keys. uint_at (2 ^ 32 - 1) keys.1 >>= λ m. second keys.0 m) (pairs, rest) e in
      let k = bind_ok (keys_at b.0.0 0 b.0.1) (λ keys. uint_at (2 ^ 32 - 1) keys.1 >>= λ m. second keys.0 m) (pairs, rest) b.2 in
      let m = bind_ok (uint_at (2 ^ 32 - 1) k.0.1) (λ m. second k.0.0 m) (pairs, rest) k.2 in
      let c = count_found least most bytes b.0.0 b.0.1 are b.1 in
      let kt = keys_found b.0.0 0 b.0.1 k.0.0 k.0.1 c.left k.1 in
      let mt = took (λ n. n ≤ 2 ^ 32 - 1) uint (uint_at (2 ^ 32 - 1)) (uint_grammar (2 ^ 32 - 1) most32 (omega arith)) k.0.1 m.0.0 m.0.1 kt.left m.1 in
      elim (chosen (eqb m.0.0 (length k.0.0)) (pairs_at read k.0.0 m.0.1) (Err (InvalidLength m.0.0 (length k.0.0))) all m.2) [
        | inr none ↦ absurd (let x = none.1 in cc)
        | inl some ↦
            map_made fits spelling least most b.0.0 m.0.0 k.0.0 pairs bytes b.0.1 k.0.1 m.0.1 rest c kt mt.parts (eqb-true _ _ some.0) (pairs_found fits spelling read law k.0.0 m.0.1 pairs rest mt.left some.1)
      ];
  again = λ pairs rest fit.
      let keys = keys_of pairs in
      let values = flat_map spelling (values_of pairs) in
      let lk : length pairs ≡ length keys = sym (length-map pairs (λ (p : ℕ × V). p.0)) in
      let spelled : map_spelling spelling pairs ++ rest ≡ uint (length keys) ++ (keys_spelling keys ++ (uint (length pairs) ++ (values ++ rest))) = simp append_assoc in
      ap (map_at read least most) spelled ∙ rw (
        count_again least most (length keys) (keys_spelling keys ++ (uint (length pairs) ++ (values ++ rest))) (omega (arith, lk, fit.many)) (omega (arith, lk, fit.in_bound)) (omega (arith, lk, fit.small)),
        keys_again keys 0 (uint (length pairs) ++ (values ++ rest)) fit.rising,
        (uint_grammar (2 ^ 32 - 1) most32 (omega arith)).again (length pairs) (values ++ rest) (omega (arith, fit.small)),
        eq-eqb (length pairs) (length keys) lk,
        pairs_again fits spelling read law pairs rest fit.values,
      ) refl;
}

length-elements : (xs : List ℕ) → length (flat_map (to_be_bytes w16) xs) ≡ 2 * length xs
length-elements [] = refl
length-elements (x ∷ xs) = omega (arith, length-elements xs, ap length (flat_map-cons (to_be_bytes w16) x xs), length-append (to_be_bytes w16 x) (flat_map (to_be_bytes w16) xs))

pub public_size : (xs : List ℕ) (count rest : ℕ) → count ≡ length (uint (length xs)) → rest ≡ length xs → count + 2 * rest ≡ length (public_spelling xs)
public_size xs count rest c r = omega (arith, c, r, length-elements xs, length-append (uint (length xs)) (flat_map (to_be_bytes w16) xs))
