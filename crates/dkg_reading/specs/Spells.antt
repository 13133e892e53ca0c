-- One spelling for each value: of a field, of a row of fields, and of the lines that stand in front of a text.
use Rattle.std.specs.Prelude.{◌≡◌, ℕ, List, [], ◌∷◌, ◌++◌, Option, Some, Ok}
use Rattle.std.specs.List.{flat_map, AllByRecursion}
use Rattle.dkg_text.specs.Fields.{word_field}
use Rattle.dkg_reading.specs.Lines.{TextReading}
use Rattle.dkg_reading.specs.Rows.{Row}

-- neither a space nor a line feed
abbrev pub IsInField : ℕ → Type 0
IsInField b = (b ≡ 32 → ⊥) × (b ≡ 10 → ⊥)

abbrev pub IsFieldText : List ℕ → Type 0
IsFieldText [] = Unit {0}
IsFieldText (b ∷ bs) = IsInField b × IsFieldText bs

abbrev pub AreFieldTexts : List (List ℕ) → Type 0
AreFieldTexts fields = AllByRecursion IsFieldText fields

-- Each value that fits has one text, what is read has that text, and what has that text is read.
pub record IsField {A : Type 0} (fits : A → Type 0) (text : A → List ℕ) (of : List ℕ → Option A) : Type 0 where
  pub found : (field : List ℕ) (v : A) → of field ≡ Some v → fits v × (field ≡ text v)
  pub again : (v : A) → fits v → of (text v) ≡ Some v
  pub plain : (v : A) → fits v → IsFieldText (text v)

-- fields each behind a space
abbrev pub spaced : List (List ℕ) → List ℕ
spaced fields = flat_map word_field fields

-- fields that spell a value, with whatever follows
pub record IsSpelt {A : Type 0} (row : Row A) (text : List ℕ) (x : A) : Type 0 where
  pub fields : List (List ℕ)
  pub plain : AreFieldTexts fields
  pub text_is : spaced fields ≡ text
  pub reads : (rest : List (List ℕ)) → row (fields ++ rest) ≡ Some (x, rest)

pub record IsRow {A : Type 0} (fits : A → Type 0) (text : A → List ℕ) (row : Row A) : Type 0 where
  pub found : (fields : List (List ℕ)) (x : A) (rest : List (List ℕ)) → row fields ≡ Some (x, rest) → fits x × (spaced fields ≡ text x ++ spaced rest)
  pub again : (x : A) → fits x → IsSpelt row (text x) x

-- fields that spell a value, with nothing behind them
pub record IsSpeltLast {A : Type 0} (row : Row A) (text : List ℕ) (x : A) : Type 0 where
  pub fields : List (List ℕ)
  pub plain : AreFieldTexts fields
  pub text_is : spaced fields ≡ text
  pub reads : row fields ≡ Some (x, [])

pub record IsLastRow {A : Type 0} (fits : A → Type 0) (text : A → List ℕ) (row : Row A) : Type 0 where
  pub found : (fields : List (List ℕ)) (x : A) (rest : List (List ℕ)) → row fields ≡ Some (x, rest) → fits x × (spaced fields ≡ text x ++ spaced rest)
  pub again : (x : A) → fits x → IsSpeltLast row (text x) x

-- Lines of a value in front of a text.
pub record IsLine {A : Type 0} (fits : A → Type 0) (line : A → List ℕ) (read : List ℕ → TextReading A) : Type 0 where
  pub found : (text : List ℕ) (x : A) (rest : List ℕ) → read text ≡ Ok (x, rest) → fits x × (text ≡ line x ++ rest)
  pub again : (x : A) (rest : List ℕ) → fits x → read (line x ++ rest) ≡ Ok (x, rest)

-- things each of which fits after those before it
abbrev pub FitAfter : {A : Type 0} → (List A → A → Type 0) → (done more : List A) → Type 0
FitAfter fits done [] = Unit {0}
FitAfter fits done (x ∷ xs) = fits done x × FitAfter fits (done ++ x ∷ []) xs
