-- Numbers in base 128, the low group first, of least length.
use Rattle.std.specs.Prelude.{◌≡◌, ℕ, zero, suc, ◌+◌, ◌-◌, ◌*◌, ◌/◌, ◌%◌, ◌^◌, nat_lt, nat_le, ◌&&◌, List, [], ◌∷◌, Ok, Err, if◌then◌else◌}
use Rattle.dkg_values.specs.declared.codec.CodecError.TheVariants.{EndOfBuffer, InvalidVarint}
use Rattle.dkg_values.specs.Codec.{Reading, ◌>>=◌}

-- at most this many groups before the last
unfoldable pub groups : ℕ → ℕ → List ℕ
groups zero n = n ∷ []
groups (suc more) n = if nat_lt n 128 then n ∷ [] else (n % 128 + 128) ∷ groups more (n / 128)

-- ten groups hold any number below 2 ^ 64
abbrev pub uint : ℕ → List ℕ
uint n = groups 9 n

-- a number whose binary digits are all ones
pub record IsMost (most : ℕ) : Type 0 where
  pub bits : ℕ
  pub is : most + 1 ≡ 2 ^ bits

-- A number up to `most` whose last group is at least `least`.
unfoldable pub groups_at : ℕ → ℕ → List ℕ → Reading ℕ
groups_at least most [] = Err EndOfBuffer
groups_at least most (b ∷ bs) =
    if nat_lt b 128
    then if nat_le least b && nat_le b most then Ok (b, bs) else Err InvalidVarint
    else if nat_lt most 128 then Err InvalidVarint
    else (groups_at 1 (most / 128) bs >>= λ high. Ok (b - 128 + 128 * high.0, high.1))

abbrev pub uint_at : ℕ → List ℕ → Reading ℕ
uint_at most bytes = groups_at 0 most bytes
