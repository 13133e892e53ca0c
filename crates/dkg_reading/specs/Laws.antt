-- The text of a script, the script of a text, and the place at which a text stops being one.
use Rattle.std.specs.Prelude.{◌≡◌, ◌≤◌, ◌⊎◌, ◌==◌, ℕ, Bool, List, [], ◌∷◌, ◌++◌, length, take, drop, Some, None, Result, Err, if◌then◌else◌}
use Rattle.dkg_reading.specs.declared.error.ScriptError.{ScriptError}
use Rattle.dkg_reading.specs.declared.error.ScriptError.TheVariants.{Bad}
use Rattle.dkg_text.specs.declared.script.Script.{Script}
use Rattle.dkg_reading.specs.Allowed.{IsScript}
use Rattle.dkg_reading.specs.Grammar.{script_of, script_or_place}
use Rattle.dkg_text.specs.Writing.{text_of}

-- a script that a text may spell is spelled by its text
abbrev pub IsReadAgain : Type 0
IsReadAgain = (script : Script) → IsScript script → script_of script.addressed (text_of script) ≡ Some script

-- whatever a text spells has that text, and is a script that a text may spell
abbrev pub IsWrittenAgain : Type 0
IsWrittenAgain = (addressed : Bool) (text : List ℕ) (script : Script) → script_of addressed text ≡ Some script → IsScript script × (script.addressed ≡ addressed) × (text ≡ text_of script)

-- THE PLACE

-- the line in front, with its line feed where it has one
abbrev pub first_line : List ℕ → List ℕ
first_line [] = []
first_line (b ∷ bs) = if b == 10 then b ∷ [] else b ∷ first_line bs

-- the text of some script begins so
pub record Begins (addressed : Bool) (front : List ℕ) : Type 0 where
  pub script : Script
  pub allowed : IsScript script
  pub directories : script.addressed ≡ addressed
  pub rest : List ℕ
  pub text : text_of script ≡ front ++ rest

-- a line that is ended, and with which some script's text goes on
abbrev pub IsAllowed : (addressed : Bool) (before line : List ℕ) → Type 0
IsAllowed addressed before line = ((body : List ℕ) × (line ≡ body ++ 10 ∷ [])) × Begins addressed (before ++ line)

-- The bytes are no script: some script's text begins with the lines before the place, and at the place a line begins, or would, with
-- which no script's text goes on after them.
pub record IsPlace (addressed : Bool) (bytes : List ℕ) (place : ℕ) : Type 0 where
  pub within : place ≤ length bytes
  pub at_line : (place ≡ 0) ⊎ ((lines : List ℕ) × (take place bytes ≡ lines ++ 10 ∷ []))
  pub begun : Begins addressed (take place bytes)
  pub refused : IsAllowed addressed (take place bytes) (first_line (drop place bytes)) → ⊥
  pub missing : script_of addressed bytes ≡ None

-- what a reading answered tells such a place
abbrev pub TellsPlace : (addressed : Bool) (bytes : List ℕ) → Result Script ScriptError → Type 0
TellsPlace addressed bytes (Err (Bad place)) = IsPlace addressed bytes place
TellsPlace addressed bytes _ = Unit {0}

abbrev pub IsPlaceFound : Type 0
IsPlaceFound = (addressed : Bool) (bytes : List ℕ) (place : ℕ) → script_or_place addressed bytes ≡ Err place → IsPlace addressed bytes place
