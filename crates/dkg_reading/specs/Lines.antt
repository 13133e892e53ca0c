-- The lines of a text, one after another, each ended by a line feed.
use Rattle.std.specs.Prelude.{◌≡◌, ℕ, zero, suc, Bool, true, false, if◌then◌else◌, List, [], ◌∷◌, ◌++◌, length, Option, Some, None, Result, Ok, Err}
use Rattle.std.specs.Option.{option_map_or}
use Rattle.std.specs.Str.{bytes_eq}
use Rattle.dkg_reading.specs.declared.stop.Stop.{Stop}
use Rattle.dkg_reading.specs.declared.stop.Stop.TheVariants.{Line, NoMemory}
use Rattle.dkg_reading.specs.Rows.{Row, cut_at_byte, fields_in, whole_row, ◌>>=◌}

-- what the front of a text spells, and the text behind it; or how long the text is from the line on that is not allowed
abbrev pub TextReading : Type 0 → Type 0
TextReading A = Result (A × List ℕ) ℕ

infixl 10 ◌>=>◌
abbrev pub ◌>=>◌ : {A B : Type 0} → Result A ℕ → (A → Result B ℕ) → Result B ℕ
(Ok x) >=> f = f x
(Err left) >=> f = Err left

-- what a call answered is what the text spells; want of memory tells nothing
abbrev pub FailsText : {A : Type 0} → Stop → Result A ℕ → Type 0
FailsText (Line left) reading = reading ≡ Err left
FailsText NoMemory reading = Unit {0}

-- what a call answered and left
abbrev pub ReadsText : {A : Type 0} → TextReading A → Result A Stop → List ℕ → Type 0
ReadsText reading (Ok x) left = reading ≡ Ok (x, left)
ReadsText reading (Err stop) left = FailsText stop reading

-- the same where nothing is left
abbrev pub ReadsAll : {A : Type 0} → Result A ℕ → Result A Stop → Type 0
ReadsAll reading (Ok x) = reading ≡ Ok x
ReadsAll reading (Err stop) = FailsText stop reading

-- what a call answered and left that reads on where the text goes on so, and else reads nothing
abbrev pub ReadsIf : {A : Type 0} → (goes_on : List ℕ → Bool) → (read : List ℕ → TextReading A) → (text : List ℕ) → Result (Option A) Stop → (left : List ℕ) → Type 0
ReadsIf goes_on read text (Ok (Some x)) left = (goes_on text ≡ true) × (read text ≡ Ok (x, left))
ReadsIf goes_on read text (Ok None) left = (goes_on text ≡ false) × (left ≡ text)
ReadsIf goes_on read text (Err stop) left = (goes_on text ≡ true) × FailsText stop (read text)

-- the same, for what a call answered seen by view
abbrev pub ReadsTextBy : {X A : Type 0} → (X → A) → TextReading A → Result X Stop → List ℕ → Type 0
ReadsTextBy view reading (Ok x) left = reading ≡ Ok (view x, left)
ReadsTextBy view reading (Err stop) left = FailsText stop reading

-- LINES

-- a line's name, its other fields, and the text behind the line
abbrev pub LineFront : Type 0
LineFront = List ℕ × (List (List ℕ) × List ℕ)

abbrev pub named : List (List ℕ) → (behind : List ℕ) → Option LineFront
named [] behind = None
named (name ∷ fields) behind = Some (name, (fields, behind))

unfoldable pub front_of : List ℕ → Option LineFront
front_of text = cut_at_byte 10 text >>= λ parts. named (fields_in parts.0) parts.1

-- whether the line in front has this name
unfoldable pub begins : (name text : List ℕ) → Bool
begins name text = option_map_or (λ line. bytes_eq line.0 name) (front_of text) false

-- the line in front is not allowed
abbrev pub allowed : {A : Type 0} → List ℕ → Option A → Result A ℕ
allowed text (Some x) = Ok x
allowed text None = Err (length text)

-- what the fields of a line spell, all of them
abbrev pub row_of : {A : Type 0} → (name : List ℕ) → Row A → LineFront → Option (A × List ℕ)
row_of name row line = if bytes_eq line.0 name then (whole_row (row line.1.0) >>= λ x. Some (x, line.1.1)) else None

-- what the fields of a line make by a table: a row has a line's name, and what its fields make
abbrev pub by_name : {A : Type 0} → (table : List (List ℕ × (List (List ℕ) → Option A))) → (name : List ℕ) (fields : List (List ℕ)) → Option A
by_name [] name fields = None
by_name (row ∷ rows) name fields = if bytes_eq name row.0 then row.1 fields else by_name rows name fields

-- a line of this name and these fields
unfoldable pub line_at : {A : Type 0} → (name : List ℕ) → Row A → List ℕ → TextReading A
line_at name row text = allowed text (front_of text >>= row_of name row)

-- what was read makes something, or its line is not allowed
abbrev pub checked_line : {A B : Type 0} → List ℕ → (A → Option B) → TextReading A → TextReading B
checked_line text fits (Ok (x, behind)) = allowed text (fits x >>= λ y. Some (y, behind))
checked_line text fits (Err left) = Err left

abbrev pub checked_line_at : {A B : Type 0} → (name : List ℕ) → Row A → (A → Option B) → List ℕ → TextReading B
checked_line_at name row fits text = checked_line text fits (line_at name row text)

abbrev pub some_read : {A : Type 0} → TextReading A → TextReading (Option A)
some_read reading = reading >=> λ x. Ok (Some x.0, x.1)

-- a line that may be missing
abbrev pub maybe_at : {A : Type 0} → (name : List ℕ) → (List ℕ → TextReading A) → List ℕ → TextReading (Option A)
maybe_at name read text = if begins name text then some_read (read text) else Ok (None, text)

-- things after those that are done, so long as the text goes on with them, so many at most (a text has no more lines than bytes)
unfoldable pub many_from : {A : Type 0} → (goes_on : List ℕ → Bool) → (read : List A → List ℕ → TextReading A) → (most : ℕ) → (done : List A) → List ℕ → TextReading (List A)
many_from goes_on read zero done text = Ok (done, text)
many_from goes_on read (suc most) done text =
    if goes_on text then (read done text >=> λ x. many_from goes_on read most (done ++ x.0 ∷ []) x.1) else Ok (done, text)

abbrev pub many_lines_at : {A : Type 0} → (goes_on : List ℕ → Bool) → (read : List A → List ℕ → TextReading A) → List ℕ → TextReading (List A)
many_lines_at goes_on read text = many_from goes_on read (suc (length text)) [] text
