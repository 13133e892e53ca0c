-- What the parts of an output agree on.
use Rattle.std.specs.Prelude.{◌≡◌, ℕ, ◌<◌, ◌==◌, ◌&&◌, not, Bool, true, IsTrue, List, [], ◌∷◌, length, is_some}
use Rattle.dkg_values.specs.Rising.{index_of}
use Rattle.dkg_ceremony.specs.Thresholds.{quorum_of}

-- whether each of these is one of the keys
abbrev pub all_in : List ℕ → List ℕ → Bool
all_in [] keys = true
all_in (x ∷ xs) keys = is_some (index_of x keys) && all_in xs keys

abbrev pub parts_agree : ℕ → List ℕ → List ℕ → List ℕ → Bool
parts_agree total poly players revealed = (total == length players) && not (length players == 0) && (length poly == quorum_of total) && all_in revealed players

pub record PartsAgree (total : ℕ) (poly players revealed : List ℕ) : Type 0 where
  pub total_is : total ≡ length players
  pub some : 0 < length players
  pub degree : length poly ≡ quorum_of total
  pub among : IsTrue (all_in revealed players)
