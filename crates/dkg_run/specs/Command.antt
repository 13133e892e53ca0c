-- What the words of a command ask for, and how a status is told: its text is written, and the command answers it.
use Rattle.std.specs.Prelude.{ℕ, List, [], ◌∷◌, ◌≡◌, ◌<◌, ◌^◌, ◌++◌, ◌⊎◌, codes, decimal, length}
use Rattle.dkg_outside.specs.Outside.{HoldsFront}
use Rattle.dkg_outside.specs.declared.status.Status.{Status}
use Rattle.dkg_outside.specs.declared.status.Status.TheVariants.{WriteFault, NoMemory}

-- the words ask for the lives of the script that the source gives
abbrev pub IsRunOfSource : (words : List (List ℕ)) → Type 0
IsRunOfSource words = words ≡ codes "run" ∷ []

-- .. for the text of the made script of this number
pub record IsMake (number : ℕ) (words : List (List ℕ)) : Type 0 where
  pub below : number < 2 ^ 64
  pub words_are : words ≡ codes "make" ∷ decimal number ∷ codes "script" ∷ []

-- .. or for that script to be run
pub record IsRunOfMade (number : ℕ) (words : List (List ℕ)) : Type 0 where
  pub below : number < 2 ^ 64
  pub words_are : words ≡ codes "make" ∷ decimal number ∷ []

-- The status is answered, and all its text was written; or a write failed, and a front of it was; or there was no memory for the
-- text, and nothing was. (`old` and `new` are what the sink held and holds, where it tells.)
abbrev pub IsTold : (status result : Status) (text : List ℕ) (Tells : Type 0) (old new : List ℕ) → Type 0
IsTold status result text Tells old new =
    ((result ≡ status) × (Tells → new ≡ old ++ text))
    ⊎ (((result ≡ WriteFault) × (0 < length text) × (Tells → HoldsFront text old new)) ⊎ ((result ≡ NoMemory) × (Tells → new ≡ old)))
