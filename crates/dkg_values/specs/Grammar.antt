-- Laws of grammars: what is read as a whole, one thing after another, and a list of things.
use Rattle.std.proofs.Common.{◌≡◌, ℕ, suc, ◌+◌, ◌-◌, ◌<◌, ◌≤◌, Bool, true, false, cond, List, [], ◌∷◌, ◌++◌, Result, Ok, Err, ◌⊎◌, inl, inr, refl, sym, ap, subst, ◌∙◌, append_assoc, arith}
use Rattle.std.specs.Prelude.{IfOk}
use Rattle.std.proofs.lemmas.List.{append-nil}
use Rattle.dkg_values.specs.declared.codec.CodecError.{CodecError}
use Rattle.dkg_values.specs.declared.codec.CodecError.TheVariants as errors
use Rattle.dkg_values.specs.Codec.{Reading, ◌>>=◌, Fails, whole, Decodes, IsBytes, IsGrammar, many_at}

abbrev done : {A : Type 0} → A → Result A CodecError
done x = Ok x

pub ok_is : {A : Type 0} (x y : A) → done x ≡ done y → x ≡ y
ok_is x y e = cc

-- the value of a step that did not fail
pub bind_ok : {A B : Type 0} (r : Result A CodecError) (f : A → Result B CodecError) (y : B) → (r >>= f) ≡ Ok y → (x : A) × (r ≡ Ok x) × (f x ≡ Ok y)
bind_ok (Ok x) f y e = (x, refl, e)
bind_ok (Err d) f y e = absurd cc

-- which way a test went
pub chosen : {A : Type 0} (b : Bool) (x y z : A) → cond b x y ≡ z → ((b ≡ true) × (x ≡ z)) ⊎ ((b ≡ false) × (y ≡ z))
chosen true x y z e = inl (refl, e)
chosen false x y z e = inr (refl, e)

-- a test that passed
pub guard_ok : {A : Type 0} (b : Bool) (d : CodecError) (x y : A) → cond b (Ok x) (Err d) ≡ Ok y → (b ≡ true) × (x ≡ y)
guard_ok true d x y e = (refl, cc)
guard_ok false d x y e = absurd cc

whole_ok : {A : Type 0} (reading : Reading A) (v : A) → whole reading ≡ Ok v → reading ≡ Ok (v, [])
whole_ok (Ok (w, [])) v e = ap (λ (x : _). Ok (x, [])) (ok_is w v e)
whole_ok (Ok (w, b ∷ bs)) v e = absurd cc
whole_ok (Err f) v e = absurd cc

pub decoded_found : {A : Type 0} (fits : A → Type 0) (spelling : A → List ℕ) (read : List ℕ → Reading A) (law : IsGrammar fits spelling read) (bytes : List ℕ) → IsBytes bytes → (r : Result A CodecError)
    → Decodes (whole (read bytes)) r → IfOk r (λ v. fits v × (bytes ≡ spelling v))
decoded_found fits spelling read law bytes are (Ok v) e =
    let f = law.found bytes v [] are (whole_ok (read bytes) v e) in
    (f.0, f.1 ∙ append-nil (spelling v))
decoded_found fits spelling read law bytes are (Err f) e = tt

pub decoded_only : {A : Type 0} (fits : A → Type 0) (spelling : A → List ℕ) (read : List ℕ → Reading A) (law : IsGrammar fits spelling read) (bytes : List ℕ) (r : Result A CodecError)
    → Decodes (whole (read bytes)) r → (v : A) → fits v → bytes ≡ spelling v → Decodes (Ok v) r
decoded_only {A} fits spelling read law bytes r e v ok is =
    let P : Result A CodecError → Type 0 = λ w. Decodes w r in
    let one : whole (read bytes) ≡ Ok v = ap (λ (b : List ℕ). whole (read b)) (is ∙ sym (append-nil (spelling v))) ∙ ap whole (law.again v [] ok) in
    subst P one e

-- what was read before, and what is still read
abbrev pub with_front : {A : Type 0} → List A → Reading (List A) → Reading (List A)
with_front front reading = reading >>= λ x. Ok (front ++ x.0, x.1)

pub regroup : {A : Type 0} (front : List A) (one : A) (reading : Reading (List A)) → with_front front (reading >>= λ x. Ok (one ∷ x.0, x.1)) ≡ with_front (front ++ one ∷ []) reading
regroup front one (Ok x) = ap (λ (xs : List _). Ok (xs, x.1)) (simp append_assoc)
regroup front one (Err f) = refl

pub many_goes_on : {A : Type 0} (read : List ℕ → Reading A) (front : List A) (count i : ℕ) (bytes : List ℕ) (one : A) (after : List ℕ) (total : Reading (List A)) → i < count → read bytes ≡ Ok (one, after)
    → with_front front (many_at read (count - i) bytes) ≡ total → with_front (front ++ one ∷ []) (many_at read (count - (i + 1)) after) ≡ total
unfolding many_at
many_goes_on {A} read front count i bytes one after total lt h so_far =
    let k : count - i ≡ suc (count - (i + 1)) = omega arith in
    let step : with_front front (many_at read (count - i) bytes) ≡ with_front (front ++ one ∷ []) (many_at read (count - (i + 1)) after) = rw (k, h) (regroup front one (many_at read (count - (i + 1)) after)) in
    sym step ∙ so_far

pub fails_with : {A B : Type 0} (e : CodecError) (reading : Reading A) (total : Reading B) → Fails e reading → ((f : CodecError) → reading ≡ Err f → total ≡ Err f) → Fails e total
fails_with errors.NoMemory reading total h k = tt
fails_with errors.EndOfBuffer reading total h k = k _ h
fails_with errors.InvalidVarint reading total h k = k _ h
fails_with (errors.InvalidLength a b) reading total h k = k _ h
fails_with (errors.InvalidEnum a) reading total h k = k _ h
fails_with (errors.Invalid a) reading total h k = k _ h
fails_with errors.ExtraData reading total h k = k _ h

pub many_ends : {A : Type 0} (read : List ℕ → Reading A) (e : CodecError) (front : List A) (count i : ℕ) (bytes : List ℕ) (total : Reading (List A)) → i < count → Fails e (read bytes)
    → with_front front (many_at read (count - i) bytes) ≡ total → Fails e total
unfolding many_at
many_ends {A} read e front count i bytes total lt h so_far =
    let k : count - i ≡ suc (count - (i + 1)) = omega arith in
    fails_with e (read bytes) total h (λ f is. sym so_far ∙ rw (k, is) refl)

pub many_done : {A : Type 0} (read : List ℕ → Reading A) (front : List A) (count i : ℕ) (bytes : List ℕ) (total : Reading (List A)) → count ≤ i → with_front front (many_at read (count - i) bytes) ≡ total → total ≡ Ok (front, bytes)
unfolding many_at
many_done {A} read front count i bytes total le so_far =
    let k : count - i ≡ 0 = omega arith in
    let one : with_front front (many_at read (count - i) bytes) ≡ Ok (front, bytes) = rw k (ap (λ (xs : List A). Ok (xs, bytes)) (append-nil front)) in
    sym so_far ∙ one
