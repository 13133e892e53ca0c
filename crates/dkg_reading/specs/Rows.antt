-- The fields of a line, and what they spell one after another.
use Rattle.std.proofs.Common.{Bor}
use Rattle.std.specs.Prelude.{◌≡◌, ℕ, Bool, true, false, zero, suc, ◌^◌, ◌==◌, ◌&&◌, nat_lt, if◌then◌else◌, List, [], ◌∷◌, length, Option, Some, None, codes, decimal}
use Rattle.std.specs.Result.{result_ok}
use Rattle.std.specs.Str.{bytes_eq}
use Rattle.std.specs.Str.Parse.{digits_value}
use Rattle.hex.specs.Hex.{decode_of}
use Rattle.dkg_ceremony.specs.declared.mode.Mode.{Mode}
use Rattle.dkg_ceremony.specs.declared.mode.Mode.TheVariants.{NonZeroCounter, RootsOfUnity}
use Rattle.dkg_ceremony.specs.declared.mode.ModeVersion.{ModeVersion}
use Rattle.dkg_types.specs.declared.addresses.Address.{Address}
use Rattle.dkg_types.specs.declared.addresses.Address.TheVariants.{Symmetric, Asymmetric}
use Rattle.dkg_types.specs.declared.addresses.Socket.{Socket}
use Rattle.dkg_values.specs.Rising.{rises}
use Rattle.dkg_text.specs.Fields.{hex_text}

infixl 10 ◌>>=◌
abbrev pub ◌>>=◌ : {A B : Type 0} → Option A → (A → Option B) → Option B
(Some x) >>= f = f x
None >>= f = None

-- THE FIELDS OF A LINE

-- the parts before and after the first such byte
unfoldable pub cut_at_byte : (at : ℕ) → List ℕ → Option (List ℕ × List ℕ)
cut_at_byte at [] = None
cut_at_byte at (b ∷ bs) = if b == at then Some ([], bs) else (cut_at_byte at bs >>= λ parts. Some (b ∷ parts.0, parts.1))

-- a byte before the first field
abbrev pub byte_before : ℕ → List (List ℕ) → List (List ℕ)
byte_before b [] = (b ∷ []) ∷ []
byte_before b (field ∷ fields) = (b ∷ field) ∷ fields

-- what stands between spaces
unfoldable pub fields_in : List ℕ → List (List ℕ)
fields_in [] = [] ∷ []
fields_in (b ∷ bs) = if b == 32 then [] ∷ fields_in bs else byte_before b (fields_in bs)

-- WHAT A FIELD SPELLS

-- the number below 2^64 whose decimal digits the text is
unfoldable pub decimal_of : List ℕ → Option ℕ
decimal_of text = let n = digits_value 10 text in if bytes_eq text (decimal n) && nat_lt n (2 ^ 64) then Some n else None

-- such a number below a limit
unfoldable pub number_below : (limit : ℕ) → List ℕ → Option ℕ
number_below limit text = decimal_of text >>= λ n. if nat_lt n limit then Some n else None

-- the bytes whose pairs of digits the text is, or none where it is a dash
unfoldable pub bytes_of : List ℕ → Option (List ℕ)
bytes_of text =
    if bytes_eq text (codes "-") then Some [] else (result_ok (decode_of text) >>= λ bytes. if bytes_eq text (hex_text bytes) then Some bytes else None)

-- a dash for nothing
unfoldable pub dash_or : {A : Type 0} → (List ℕ → Option A) → List ℕ → Option (Option A)
dash_or of text = if bytes_eq text (codes "-") then Some None else (of text >>= λ x. Some (Some x))

abbrev pub mode_from : ℕ → Option Mode
mode_from zero = Some NonZeroCounter
mode_from (suc zero) = Some RootsOfUnity
mode_from _ = None

unfoldable pub mode_of : List ℕ → Option Mode
mode_of text = decimal_of text >>= mode_from

unfoldable pub version_of : List ℕ → Option ModeVersion
version_of text = number_below 2 text >>= λ n. Some (record { 0 = n })

-- ROWS: what the first fields spell, and the fields behind them

abbrev pub Row : Type 0 → Type 0
Row A = List (List ℕ) → Option (A × List (List ℕ))

abbrev pub TookFields : {A : Type 0} → Option (A × List (List ℕ)) → Option A → List (List ℕ) → Type 0
TookFields row (Some x) left = row ≡ Some (x, left)
TookFields row None left = row ≡ None

unfoldable pub field : {A : Type 0} → (List ℕ → Option A) → Row A
field of [] = None
field of (text ∷ fields) = of text >>= λ x. Some (x, fields)

abbrev pub no_fields : Row Unit
no_fields fields = Some (tt, fields)

-- one row and then another
abbrev pub beside : {A B : Type 0} → Row A → Row B → Row (A × B)
beside one other fields = one fields >>= λ x. other x.1 >>= λ y. Some ((x.0, y.0), y.1)

abbrev pub two : {A B : Type 0} → (List ℕ → Option A) → (List ℕ → Option B) → Row (A × B)
two one other = beside (field one) (field other)

abbrev pub three : {A B C : Type 0} → (List ℕ → Option A) → (List ℕ → Option B) → (List ℕ → Option C) → Row (A × B × C)
three first second third fields = beside (field first) (two second third) fields >>= λ x. Some ((x.0.0, x.0.1.0, x.0.1.1), x.1)

abbrev pub four : {A B C D : Type 0} → (List ℕ → Option A) → (List ℕ → Option B) → (List ℕ → Option C) → (List ℕ → Option D) → Row (A × B × C × D)
four first second third fourth fields = beside (field first) (beside (field second) (two third fourth)) fields >>= λ x. Some ((x.0.0, x.0.1.0, x.0.1.1.0, x.0.1.1.1), x.1)

-- each of the fields
unfoldable pub all_of : {A : Type 0} → (List ℕ → Option A) → List (List ℕ) → Option (List A)
all_of of [] = Some []
all_of of (text ∷ fields) = of text >>= λ x. all_of of fields >>= λ xs. Some (x ∷ xs)

abbrev pub all : {A : Type 0} → (List ℕ → Option A) → Row (List A)
all of fields = all_of of fields >>= λ xs. Some (xs, [])

-- keys that rise: a set, which has fewer than 2^32 of them
abbrev pub as_set : List ℕ → Option (List ℕ)
as_set keys = if nat_lt (length keys) (2 ^ 32) && rises keys then Some keys else None

unfoldable pub set_row : Row (List ℕ)
set_row fields = all_of (number_below (2 ^ 32)) fields >>= λ keys. as_set keys >>= λ set. Some (set, [])

unfoldable pub socket_row : Row Socket
socket_row fields = two (number_below (2 ^ 32)) (number_below (2 ^ 16)) fields >>= λ s. Some (record { ip = s.0.0; port = s.0.1 }, s.1)

-- one socket, or two of them
abbrev pub second_socket : Socket → Row Address
second_socket ingress [] = Some (Symmetric ingress, [])
second_socket ingress (text ∷ fields) = socket_row (text ∷ fields) >>= λ egress. Some (Asymmetric ingress egress.0, egress.1)

unfoldable pub address_row : Row Address
address_row fields = socket_row fields >>= λ ingress. second_socket ingress.0 ingress.1

-- no field is left
abbrev pub whole_row : {A : Type 0} → Option (A × List (List ℕ)) → Option A
whole_row None = None
whole_row (Some (x, [])) = Some x
whole_row (Some (x, field ∷ fields)) = None

-- what is left of a line, behind whose last field there is nothing
abbrev pub fields_left : Option (Bor (List ℕ)) → List (List ℕ)
fields_left None = []
fields_left (Some text) = fields_in text.now

abbrev pub is_over_of : List (List ℕ) → Bool
is_over_of [] = true
is_over_of (field ∷ fields) = false
