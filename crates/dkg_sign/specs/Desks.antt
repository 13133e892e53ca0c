-- A desk: whose it is, the greatest epoch that was registered, and the material that is held of it.
use Rattle.std.specs.Prelude.{◌≡◌, ℕ, ◌==◌, nat_lt, true, Option, Some, None, if◌then◌else◌}
use Rattle.dkg_types.specs.declared.scheme.SchemeInfo.{SchemeInfo}
use Rattle.dkg_sign.specs.Materials.{is_own}

pub record Desk : Type 0 where
  pub me : ℕ
  pub current : Option ℕ
  pub held : Option SchemeInfo

-- the later epoch that was registered, if there is one
abbrev pub replaced_by : Option ℕ → (epoch : ℕ) → Option ℕ
replaced_by None epoch = None
replaced_by (Some current) epoch = if nat_lt epoch current then Some current else None

-- what is held of an epoch, where this is the current one
abbrev pub held_of_current : Option ℕ → Option SchemeInfo → (epoch : ℕ) → Option SchemeInfo
held_of_current None held epoch = None
held_of_current (Some current) held epoch = if current == epoch then held else None

abbrev pub material_of : Desk → (epoch : ℕ) → Option SchemeInfo
material_of desk epoch = held_of_current desk.current desk.held epoch

-- Material is held of a current epoch alone, and is the desk's own.
abbrev pub HoldsOwn : (me : ℕ) → Option ℕ → Option SchemeInfo → Type 0
HoldsOwn me current None = Unit {0}
HoldsOwn me None (Some info) = ⊥
HoldsOwn me (Some current) (Some info) = is_own me info ≡ true
