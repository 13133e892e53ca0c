-- Grammars of enums: a first byte tells which variant follows.
use Rattle.std.proofs.Common.{◌≡◌, ℕ, List, [], ◌++◌, Ok, Err, refl, sym, ap, subst, ◌∙◌}
use Rattle.dkg_values.specs.declared.codec.CodecError.{CodecError}
use Rattle.dkg_values.specs.Bytes.{HasTag}
use Rattle.dkg_values.specs.Codec.{Reading, IsGrammar}
use Rattle.dkg_values.specs.Grammar.{bind_ok, ok_is}
use Rattle.dkg_values.specs.Joined.{seen_at}

abbrev pub nothing_at : List ℕ → Reading (Unit {0})
nothing_at bytes = Ok (tt, bytes)

abbrev pub Always : {A : Type 0} → A → Type 0
Always a = Unit {0}

abbrev pub no_bytes : {A : Type 0} → A → List ℕ
no_bytes a = []

pub nothing_grammar : IsGrammar (Always {A = Unit {0}}) (no_bytes {A = Unit {0}}) nothing_at
nothing_grammar = record {
  found = λ bytes v rest are e. (tt, ap (λ (x : Unit {0} × List ℕ). x.1) (ok_is (tt, bytes) (v, rest) e));
  again = λ v rest fit. refl;
}

-- a value of this variant, and what it is made of
pub record MadeOf {A B : Type 0} (fits : A → Type 0) (make : A → B) (b : B) : Type 0 where
  pub of : A
  pub fit : fits of
  pub is : make of ≡ b

-- how a variant is made of what follows its tag
pub record IsVariant {A B : Type 0} (fits : A → Type 0) (spelling : A → List ℕ) (make : A → B) (new_fits : B → Type 0) (tag_of : B → ℕ) (body : B → List ℕ) (tag : ℕ) : Type 0 where
  pub there : (a : A) → fits a → new_fits (make a)
  pub tag_is : (a : A) → tag_of (make a) ≡ tag
  pub body_is : (a : A) → spelling a ≡ body (make a)
  pub back : (b : B) → new_fits b → tag_of b ≡ tag → MadeOf fits make b

pub variant_grammar : {A B : Type 0} (fits : A → Type 0) (spelling : A → List ℕ) (read : List ℕ → Reading A) (make : A → B) (new_fits : B → Type 0) (tag_of : B → ℕ) (body : B → List ℕ) (tag : ℕ)
    → IsGrammar fits spelling read → IsVariant fits spelling make new_fits tag_of body tag → IsGrammar (HasTag new_fits tag_of tag) body (seen_at make read)
variant_grammar {A} {B} fits spelling read make new_fits tag_of body tag law v = record {
  found = λ bytes b rest are e.
      let a = bind_ok (read bytes) (λ a. Ok (make a.0, a.1)) (b, rest) e in
      let f = law.found bytes a.0.0 a.0.1 are a.1 in
      let o = ok_is (make a.0.0, a.0.1) (b, rest) a.2 in
      let made : HasTag new_fits tag_of tag (make a.0.0) × (bytes ≡ body (make a.0.0) ++ a.0.1) = (record { fit = v.there a.0.0 f.0; has = v.tag_is a.0.0 }, f.1 ∙ ap (λ (x : List ℕ). x ++ a.0.1) (v.body_is a.0.0)) in
      subst (λ (x : B × List ℕ). HasTag new_fits tag_of tag x.0 × (bytes ≡ body x.0 ++ x.1)) o made;
  again = λ b rest h.
      let m = v.back b h.fit h.has in
      let s : body b ≡ spelling m.of = ap body (sym m.is) ∙ sym (v.body_is m.of) in
      ap (λ (x : List ℕ). seen_at make read (x ++ rest)) s ∙ rw (law.again m.of rest m.fit) (ap (λ (x : B). Ok (x, rest)) m.is);
}

-- a tag that no value has
pub none_grammar : {B : Type 0} (new_fits : B → Type 0) (tag_of : B → ℕ) (body : B → List ℕ) (tag : ℕ) (fault : CodecError) → ((b : B) → tag_of b ≡ tag → ⊥) → IsGrammar (HasTag new_fits tag_of tag) body (λ _. Err fault)
none_grammar {B} new_fits tag_of body tag fault never = record {
  found = λ bytes b rest are e. absurd cc;
  again = λ b rest h. absurd (never b h.has);
}

-- the same under another shape, where not each value of that shape is read
pub made_grammar : {A B : Type 0} (fits : A → Type 0) (spelling : A → List ℕ) (read : List ℕ → Reading A) (make : A → B) (new_fits : B → Type 0) (new_spelling : B → List ℕ)
    → IsGrammar fits spelling read → ((a : A) → fits a → new_fits (make a)) → ((a : A) → spelling a ≡ new_spelling (make a)) → ((b : B) → new_fits b → MadeOf fits make b) → IsGrammar new_fits new_spelling (seen_at make read)
made_grammar {A} {B} fits spelling read make new_fits new_spelling law there same back = record {
  found = λ bytes b rest are e.
      let a = bind_ok (read bytes) (λ a. Ok (make a.0, a.1)) (b, rest) e in
      let f = law.found bytes a.0.0 a.0.1 are a.1 in
      let o = ok_is (make a.0.0, a.0.1) (b, rest) a.2 in
      let made : new_fits (make a.0.0) × (bytes ≡ new_spelling (make a.0.0) ++ a.0.1) = (there a.0.0 f.0, f.1 ∙ ap (λ (x : List ℕ). x ++ a.0.1) (same a.0.0)) in
      subst (λ (x : B × List ℕ). new_fits x.0 × (bytes ≡ new_spelling x.0 ++ x.1)) o made;
  again = λ b rest h.
      let m = back b h in
      let s : new_spelling b ≡ spelling m.of = ap new_spelling (sym m.is) ∙ sym (same m.of) in
      ap (λ (x : List ℕ). seen_at make read (x ++ rest)) s ∙ rw (law.again m.of rest m.fit) (ap (λ (x : B). Ok (x, rest)) m.is);
}
