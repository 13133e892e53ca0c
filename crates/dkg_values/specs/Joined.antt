-- Grammars made of grammars: one thing and then another, and a thing that must pass a test.
use Rattle.std.proofs.Common.{◌≡◌, ℕ, Bool, true, cond, List, ◌++◌, Ok, Err, refl, sym, ap, subst, ◌∙◌, append_assoc}
use Rattle.dkg_values.specs.declared.codec.CodecError.{CodecError}
use Rattle.dkg_values.specs.Codec.{Reading, ◌>>=◌, IsGrammar}
use Rattle.dkg_values.specs.Grammar.{bind_ok, guard_ok, ok_is}
use Rattle.dkg_values.specs.ListGrammar.{took}

-- one thing, and then another whose grammar may depend on it, made into a whole
abbrev pub then_at : {A B C : Type 0} → (List ℕ → Reading A) → (A → List ℕ → Reading B) → (A → B → C) → List ℕ → Reading C
then_at read next make bytes = read bytes >>= λ a. next a.0 a.1 >>= λ b. Ok (make a.0 b.0, b.1)

-- a thing that passes a test
abbrev pub checked_at : {A : Type 0} → (List ℕ → Reading A) → (A → Bool) → CodecError → List ℕ → Reading A
checked_at read test fault bytes = read bytes >>= λ a. cond (test a.0) (Ok a) (Err fault)

-- how a whole is made of its parts
pub record IsMadeOfParts {A B C : Type 0} (make : A → B → C) (first : C → A) (second : C → B) : Type 0 where
  pub first_is : (a : A) (b : B) → first (make a b) ≡ a
  pub second_is : (a : A) (b : B) → second (make a b) ≡ b
  pub whole_is : (c : C) → make (first c) (second c) ≡ c

pub record Both {A B C : Type 0} (fits : A → Type 0) (next_fits : A → B → Type 0) (first : C → A) (second : C → B) (c : C) : Type 0 where
  pub one : fits (first c)
  pub other : next_fits (first c) (second c)

-- one text and then another, grouped anew
joined : (bytes one mid other rest : List ℕ) → bytes ≡ one ++ mid → mid ≡ other ++ rest → bytes ≡ (one ++ other) ++ rest
joined bytes one mid other rest is then =
    let whole : bytes ≡ one ++ (other ++ rest) = rw (is, then) refl in
    rw append_assoc whole

made_fit : {A B C : Type 0} (fits : A → Type 0) (spelling : A → List ℕ) (next_fits : A → B → Type 0) (next_spelling : B → List ℕ) (make : A → B → C) (first : C → A) (second : C → B) → IsMadeOfParts make first second → (a : A) (b : B) (bytes rest : List ℕ)
    → fits a → next_fits a b → bytes ≡ (spelling a ++ next_spelling b) ++ rest → Both fits next_fits first second (make a b) × (bytes ≡ (spelling (first (make a b)) ++ next_spelling (second (make a b))) ++ rest)
made_fit {A} {B} {C} fits spelling next_fits next_spelling make first second made a b bytes rest fit next_fit parts =
    let fit_is : fits (first (make a b)) = rw (made.first_is a b) fit in
    let next_is : next_fits (first (make a b)) (second (make a b)) = rw (made.first_is a b, made.second_is a b) next_fit in
    let parts_are : bytes ≡ (spelling (first (make a b)) ++ next_spelling (second (make a b))) ++ rest = rw (made.first_is a b, made.second_is a b) parts in
    (record { one = fit_is; other = next_is }, parts_are)

pub then_grammar : {A B C : Type 0} (fits : A → Type 0) (spelling : A → List ℕ) (read : List ℕ → Reading A) (next_fits : A → B → Type 0) (next_spelling : B → List ℕ) (next : A → List ℕ → Reading B) (make : A → B → C) (first : C → A) (second : C → B)
    → IsGrammar fits spelling read → ((a : A) → IsGrammar (next_fits a) next_spelling (next a)) → IsMadeOfParts make first second
    → IsGrammar (Both fits next_fits first second) (λ c. spelling (first c) ++ next_spelling (second c)) (then_at read next make)
then_grammar {A} {B} {C} fits spelling read next_fits next_spelling next make first second law next_law made = record {
  found = λ bytes c rest are e.
      let a = bind_ok (read bytes) (λ a. next a.0 a.1 >>= λ b. Ok (make a.0 b.0, b.1)) (c, rest) e in
      let b = bind_ok (next a.0.0 a.0.1) (λ b. Ok (make a.0.0 b.0, b.1)) (c, rest) a.2 in
      let t = took fits spelling read law bytes a.0.0 a.0.1 are a.1 in
      let u = took (next_fits a.0.0) next_spelling (next a.0.0) (next_law a.0.0) a.0.1 b.0.0 b.0.1 t.left b.1 in
      let o = ok_is (make a.0.0 b.0.0, b.0.1) (c, rest) b.2 in
      let parts = joined bytes (spelling a.0.0) a.0.1 (next_spelling b.0.0) b.0.1 t.parts u.parts in
      subst (λ (x : C × List ℕ). Both fits next_fits first second x.0 × (bytes ≡ (spelling (first x.0) ++ next_spelling (second x.0)) ++ x.1)) o (made_fit fits spelling next_fits next_spelling make first second made a.0.0 b.0.0 bytes b.0.1 t.fit u.fit parts);
  again = λ c rest fit.
      ap (then_at read next make) (append_assoc (spelling (first c)) (next_spelling (second c)) rest)
      ∙ rw (law.again (first c) (next_spelling (second c) ++ rest) fit.one, (next_law (first c)).again (second c) rest fit.other) (ap (λ (x : C). Ok (x, rest)) (made.whole_is c));
}

pub record Passes {A : Type 0} (fits : A → Type 0) (test : A → Bool) (a : A) : Type 0 where
  pub fit : fits a
  pub passes : test a ≡ true

pub checked_grammar : {A : Type 0} (fits : A → Type 0) (spelling : A → List ℕ) (read : List ℕ → Reading A) (test : A → Bool) (fault : CodecError) → IsGrammar fits spelling read → IsGrammar (Passes fits test) spelling (checked_at read test fault)
checked_grammar {A} fits spelling read test fault law = record {
  found = λ bytes a rest are e.
      let b = bind_ok (read bytes) (λ a. cond {A = Reading A} (test a.0) (Ok a) (Err fault)) (a, rest) e in
      let g = guard_ok (test b.0.0) fault b.0 (a, rest) b.2 in
      let f = law.found bytes b.0.0 b.0.1 are b.1 in
      let made : Passes fits test b.0.0 × (bytes ≡ spelling b.0.0 ++ b.0.1) = (record { fit = f.0; passes = g.0 }, f.1) in
      subst (λ (x : A × List ℕ). Passes fits test x.0 × (bytes ≡ spelling x.0 ++ x.1)) g.1 made;
  again = λ a rest fit. rw (law.again a rest fit.fit, fit.passes) refl;
}

-- ---- two things beside each other

abbrev pub pair : {A B : Type 0} → A → B → A × B
pair a b = (a, b)

abbrev pub one_of : {A B : Type 0} → A × B → A
one_of p = p.0

abbrev pub other_of : {A B : Type 0} → A × B → B
other_of p = p.1

abbrev pub beside_at : {A B : Type 0} → (List ℕ → Reading A) → (List ℕ → Reading B) → List ℕ → Reading (A × B)
beside_at {A} {B} read next = then_at read (λ _. next) (pair {A = A} {B = B})

abbrev pub BothFit : {A B : Type 0} → (A → Type 0) → (B → Type 0) → A × B → Type 0
BothFit {A} {B} fits next_fits = Both fits (λ _. next_fits) (one_of {A = A} {B = B}) (other_of {A = A} {B = B})

abbrev pub both_spelled : {A B : Type 0} → (A → List ℕ) → (B → List ℕ) → A × B → List ℕ
both_spelled spelling next_spelling p = spelling p.0 ++ next_spelling p.1

pub beside_grammar : {A B : Type 0} (fits : A → Type 0) (spelling : A → List ℕ) (read : List ℕ → Reading A) (next_fits : B → Type 0) (next_spelling : B → List ℕ) (next : List ℕ → Reading B)
    → IsGrammar fits spelling read → IsGrammar next_fits next_spelling next → IsGrammar (BothFit fits next_fits) (both_spelled spelling next_spelling) (beside_at read next)
beside_grammar {A} {B} fits spelling read next_fits next_spelling next law next_law =
    then_grammar fits spelling read (λ _. next_fits) next_spelling (λ _. next) (pair {A = A} {B = B}) (one_of {A = A} {B = B}) (other_of {A = A} {B = B}) law (λ _. next_law)
    (record { first_is = λ a b. refl; second_is = λ a b. refl; whole_is = λ c. refl })

-- ---- the same under another shape: a record for nested pairs, and its spelling grouped otherwise

abbrev pub seen_at : {A B : Type 0} → (A → B) → (List ℕ → Reading A) → List ℕ → Reading B
seen_at make read bytes = read bytes >>= λ a. Ok (make a.0, a.1)

pub seen_grammar : {A B : Type 0} (fits : A → Type 0) (spelling : A → List ℕ) (read : List ℕ → Reading A) (make : A → B) (back : B → A) (new_spelling : B → List ℕ)
    → IsGrammar fits spelling read → ((a : A) → back (make a) ≡ a) → ((b : B) → make (back b) ≡ b) → ((b : B) → spelling (back b) ≡ new_spelling b) → IsGrammar (λ b. fits (back b)) new_spelling (seen_at make read)
seen_grammar {A} {B} fits spelling read make back new_spelling law there again_ same = record {
  found = λ bytes b rest are e.
      let a = bind_ok (read bytes) (λ a. Ok (make a.0, a.1)) (b, rest) e in
      let f = law.found bytes a.0.0 a.0.1 are a.1 in
      let o = ok_is (make a.0.0, a.0.1) (b, rest) a.2 in
      let s : spelling a.0.0 ≡ new_spelling (make a.0.0) = ap spelling (sym (there a.0.0)) ∙ same (make a.0.0) in
      let made : fits (back (make a.0.0)) × (bytes ≡ new_spelling (make a.0.0) ++ a.0.1) = (subst fits (sym (there a.0.0)) f.0, f.1 ∙ ap (λ (x : List ℕ). x ++ a.0.1) s) in
      subst (λ (x : B × List ℕ). fits (back x.0) × (bytes ≡ new_spelling x.0 ++ x.1)) o made;
  again = λ b rest fit.
      ap (λ (x : List ℕ). seen_at make read (x ++ rest)) (sym (same b)) ∙ rw (law.again (back b) rest fit) (ap (λ (x : B). Ok (x, rest)) (again_ b));
}
