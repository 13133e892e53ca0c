-- What reading from the front of a list of bytes gives: the value and the bytes after it, or the first fault.
use Rattle.std.specs.Prelude.{◌≡◌, ℕ, zero, suc, ◌<◌, length, take, drop, nat_lt, if◌then◌else◌, List, [], ◌∷◌, ◌++◌, Result, Ok, Err, slice_index}
use Rattle.std.specs.Int.{Width, byte_len, from_be_bytes}
use Rattle.dkg_values.specs.declared.codec.CodecError.{CodecError}
use Rattle.dkg_values.specs.declared.codec.CodecError.TheVariants.{NoMemory, ExtraData, EndOfBuffer}

abbrev pub Reading : Type 0 → Type 0
Reading A = Result (A × List ℕ) CodecError

infixl 10 ◌>>=◌
abbrev pub ◌>>=◌ : {A B : Type 0} → Result A CodecError → (A → Result B CodecError) → Result B CodecError
(Ok x) >>= f = f x
(Err e) >>= f = Err e

-- The fault that a call answered is the one that reading gives, unless memory ran out.
abbrev pub Fails : {B : Type 0} → CodecError → Result B CodecError → Type 0
Fails NoMemory reading = Unit {0}
Fails e reading = reading ≡ Err e

-- What a call answered and left is what reading gives, unless memory ran out.
abbrev pub Reads : {A : Type 0} → Reading A → Result A CodecError → List ℕ → Type 0
Reads reading (Ok v) left = reading ≡ Ok (v, left)
Reads reading (Err e) left = Fails e reading

-- All of the bytes: some that are left over are a fault.
abbrev pub whole : {A : Type 0} → Reading A → Result A CodecError
whole (Ok (v, [])) = Ok v
whole (Ok (v, b ∷ bs)) = Err ExtraData
whole (Err e) = Err e

abbrev pub Decodes : {A : Type 0} → Result A CodecError → Result A CodecError → Type 0
Decodes reading (Ok v) = reading ≡ Ok v
Decodes reading (Err e) = Fails e reading

-- the same, for what a call answered seen by view
abbrev pub ReadsBy : {X A : Type 0} → (X → A) → Reading A → Result X CodecError → List ℕ → Type 0
ReadsBy view reading (Ok x) left = reading ≡ Ok (view x, left)
ReadsBy view reading (Err e) left = Fails e reading

-- a number of fixed width, the high byte first
abbrev pub number_at : Width → List ℕ → Reading ℕ
number_at w bytes = if nat_lt (length bytes) (byte_len w) then Err EndOfBuffer else Ok (from_be_bytes w (take (byte_len w) bytes), drop (byte_len w) bytes)

-- things one after another
unfoldable pub many_at : {A : Type 0} → (List ℕ → Reading A) → ℕ → List ℕ → Reading (List A)
many_at read zero bytes = Ok ([], bytes)
many_at read (suc n) bytes = read bytes >>= λ first. many_at read n first.1 >>= λ others. Ok (first.0 ∷ others.0, others.1)

abbrev pub IsBytes : List ℕ → Type 0
IsBytes bytes = (i : ℕ) → slice_index bytes i < 256

-- One grammar: each value that fits has one spelling, what is read is spelled so, and what is spelled so is
-- read, with the bytes after it left.
pub record IsGrammar {A : Type 0} (fits : A → Type 0) (spelling : A → List ℕ) (read : List ℕ → Reading A) : Type 0 where
  pub found : (bytes : List ℕ) (v : A) (rest : List ℕ) → IsBytes bytes → read bytes ≡ Ok (v, rest) → fits v × (bytes ≡ spelling v ++ rest)
  pub again : (v : A) (rest : List ℕ) → fits v → read (spelling v ++ rest) ≡ Ok (v, rest)

-- what was there stands in front
abbrev pub StandsInFront : List ℕ → List ℕ → Type 0
StandsInFront old new = (more : List ℕ) × (new ≡ old ++ more)
