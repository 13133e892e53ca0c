-- Bytes as they stand: one, or a fixed number of them, and values that a first byte tells apart.
use Rattle.std.proofs.Common.{◌≡◌, ℕ, ◌<◌, ◌≤◌, false, ltb, List, [], ◌∷◌, ◌++◌, length, take, drop, Ok, Err, refl, sym, ap, subst, ◌∙◌, arith, length-append}
use Rattle.std.proofs.lemmas.Bool.{ltb-false, le-ltb}
use Rattle.std.proofs.lemmas.List.{take_at, drop_at, take-append-drop, length-take}
use Rattle.std.specs.Prelude.{nat_lt, if◌then◌else◌}
use Rattle.dkg_values.specs.declared.codec.CodecError.TheVariants.{EndOfBuffer}
use Rattle.dkg_values.specs.Codec.{Reading, ◌>>=◌, IsBytes, IsGrammar}
use Rattle.dkg_values.specs.Grammar.{bind_ok, ok_is}
use Rattle.dkg_values.specs.ListGrammar.{guard_past, took}

-- so many bytes
abbrev pub bytes_at : ℕ → List ℕ → Reading (List ℕ)
bytes_at n bytes = if nat_lt (length bytes) n then Err EndOfBuffer else Ok (take n bytes, drop n bytes)

pub bytes_grammar : (n : ℕ) → IsGrammar (λ bs. length bs ≡ n) (λ bs. bs) (bytes_at n)
bytes_grammar n = record {
  found = λ bytes v rest are e.
      let g = guard_past (ltb (length bytes) n) EndOfBuffer (take n bytes, drop n bytes) (v, rest) e in
      let v-is : take n bytes ≡ v = ap (λ (p : List ℕ × List ℕ). p.0) g.1 in
      let rest-is : drop n bytes ≡ rest = ap (λ (p : List ℕ × List ℕ). p.1) g.1 in
      let long : n ≤ length bytes = ltb-false _ _ g.0 in
      (rw (← v-is) (omega (arith, length-take n bytes)), rw (← v-is, ← rest-is) (sym (take-append-drop n bytes)));
  again = λ v rest is.
      let long : ltb (length (v ++ rest)) n ≡ false = le-ltb _ _ (omega (arith, length-append v rest)) in
      rw (long, take_at v rest n is, drop_at v rest n is) refl;
}

-- one byte
unfoldable pub byte_at : List ℕ → Reading ℕ
byte_at [] = Err EndOfBuffer
byte_at (b ∷ rest) = Ok (b, rest)

byte_found : (bytes : List ℕ) (v : ℕ) (rest : List ℕ) → IsBytes bytes → byte_at bytes ≡ Ok (v, rest) → (v < 256) × (bytes ≡ v ∷ rest)
unfolding byte_at
byte_found [] v rest are e = absurd cc
byte_found (b ∷ bs) v rest are e = subst (λ (x : ℕ × List ℕ). (x.0 < 256) × (b ∷ bs ≡ x.0 ∷ x.1)) (ok_is (b, bs) (v, rest) e) (are 0, refl)

pub byte_again : (v : ℕ) (rest : List ℕ) → byte_at (v ∷ rest) ≡ Ok (v, rest)
unfolding byte_at
byte_again v rest = refl

pub byte_grammar : IsGrammar (λ b. b < 256) (λ b. b ∷ []) byte_at
byte_grammar = record { found = λ bytes v rest are e. byte_found bytes v rest are e; again = λ v rest fit. byte_again v rest }

-- ---- what follows depends on a first byte

abbrev pub tagged_at : {A : Type 0} → (ℕ → List ℕ → Reading A) → List ℕ → Reading A
tagged_at branch bytes = byte_at bytes >>= λ tag. branch tag.0 tag.1

abbrev pub tagged : {A : Type 0} → (A → ℕ) → (A → List ℕ) → A → List ℕ
tagged tag_of body a = tag_of a ∷ body a

-- what fits and has this tag
pub record HasTag {A : Type 0} (fits : A → Type 0) (tag_of : A → ℕ) (tag : ℕ) (a : A) : Type 0 where
  pub fit : fits a
  pub has : tag_of a ≡ tag

pub tagged_grammar : {A : Type 0} (fits : A → Type 0) (tag_of : A → ℕ) (body : A → List ℕ) (branch : ℕ → List ℕ → Reading A)
    → ((tag : ℕ) → IsGrammar (HasTag fits tag_of tag) body (branch tag)) → IsGrammar fits (tagged tag_of body) (tagged_at branch)
tagged_grammar {A} fits tag_of body branch law = record {
  found = λ bytes a rest are e.
      let b = bind_ok (byte_at bytes) (λ tag. branch tag.0 tag.1) (a, rest) e in
      let t = took (λ b. b < 256) (λ b. b ∷ []) byte_at byte_grammar bytes b.0.0 b.0.1 are b.1 in
      let f = (law b.0.0).found b.0.1 a rest t.left b.2 in
      let whole : bytes ≡ b.0.0 ∷ (body a ++ rest) = t.parts ∙ ap (λ (x : List ℕ). b.0.0 ∷ x) f.1 in
      (f.0.fit, whole ∙ ap (λ (x : ℕ). x ∷ (body a ++ rest)) (sym f.0.has));
  again = λ a rest fit. rw (byte_again (tag_of a) (body a ++ rest)) ((law (tag_of a)).again a rest (record { fit = fit; has = refl }));
}
