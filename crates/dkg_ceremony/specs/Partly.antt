-- Grammars of things that are made of others where these pass.
use Rattle.std.proofs.Common.{◌≡◌, List, ◌++◌, Result, Ok, refl, sym, ap, subst, ◌∙◌}
use Rattle.dkg_values.specs.declared.codec.CodecError.{CodecError}
use Rattle.dkg_values.specs.Codec.{Reading, ◌>>=◌, IsGrammar}
use Rattle.dkg_values.specs.Grammar.{bind_ok, ok_is}
use Rattle.std.specs.Prelude.{ℕ}

-- what is made of a thing that is read, or the fault of making it
abbrev pub partly_at : {A B : Type 0} → (A → Result B CodecError) → (List ℕ → Reading A) → List ℕ → Reading B
partly_at make read bytes = read bytes >>= λ a. make a.0 >>= λ b. Ok (b, a.1)

pub partly_grammar : {A B : Type 0} (fits : A → Type 0) (spelling : A → List ℕ) (read : List ℕ → Reading A) (make : A → Result B CodecError) (back : B → A) (new_spelling : B → List ℕ)
    → IsGrammar fits spelling read → ((a : A) (b : B) → make a ≡ Ok b → back b ≡ a) → ((b : B) → make (back b) ≡ Ok b) → ((b : B) → spelling (back b) ≡ new_spelling b) → IsGrammar (λ b. fits (back b)) new_spelling (partly_at make read)
partly_grammar {A} {B} fits spelling read make back new_spelling law there again_ same = record {
  found = λ bytes b rest are e.
      let a = bind_ok (read bytes) (λ a. make a.0 >>= λ b. Ok (b, a.1)) (b, rest) e in
      let m = bind_ok (make a.0.0) (λ b. Ok (b, a.0.1)) (b, rest) a.2 in
      let f = law.found bytes a.0.0 a.0.1 are a.1 in
      let o = ok_is (m.0, a.0.1) (b, rest) m.2 in
      let is : back m.0 ≡ a.0.0 = there a.0.0 m.0 m.1 in
      let s : spelling a.0.0 ≡ new_spelling m.0 = ap spelling (sym is) ∙ same m.0 in
      let made : fits (back m.0) × (bytes ≡ new_spelling m.0 ++ a.0.1) = (subst fits (sym is) f.0, f.1 ∙ ap (λ (x : List ℕ). x ++ a.0.1) s) in
      subst (λ (x : B × List ℕ). fits (back x.0) × (bytes ≡ new_spelling x.0 ++ x.1)) o made;
  again = λ b rest fit.
      ap (λ (x : List ℕ). partly_at make read (x ++ rest)) (sym (same b)) ∙ rw (law.again (back b) rest fit, again_ b) refl;
}
