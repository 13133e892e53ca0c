-- The outputs of one chain, and when two materials share one key.
use Rattle.std.specs.Prelude.{◌≡◌, ◌⊎◌, ℕ, List, [], ◌∷◌, Some}
use Rattle.dkg_ceremony.specs.declared.output.Output.{Output}
use Rattle.dkg_ceremony.specs.declared.round.RoundParts.{RoundParts as Round}
use Rattle.dkg_ceremony.specs.declared.sharing.Sharing.{Sharing}
use Rattle.dkg_ceremony.specs.Outcomes.{LogMap, outcome_of}
use Rattle.dkg_types.specs.declared.scheme.SchemeInfo.{SchemeInfo}
use Rattle.dkg_sign.specs.Desks.{Desk, material_of}
use Rattle.dkg_sign.specs.Materials.{scheme_key, sharing_of}

-- The output of the next epoch: the same after a failed round, or else the outcome of a round that deals this one again.
abbrev pub IsNextOutput : Output → Output → Type 0
IsNextOutput before o = (o ≡ before) ⊎ ((round : Round) × (logs : LogMap) × (round.previous ≡ Some before) × (outcome_of round logs ≡ Some o))

-- outputs of one epoch after the other
abbrev pub IsChain : Output → List Output → Type 0
IsChain first [] = Unit {0}
IsChain first (o ∷ os) = IsNextOutput first o × IsChain o os

-- two desks hold material of one key
pub record ShareOneKey (one : Desk) (epoch : ℕ) (other : Desk) (later : ℕ) : Type 0 where
  pub info : SchemeInfo
  pub info' : SchemeInfo
  pub held : material_of one epoch ≡ Some info
  pub held' : material_of other later ≡ Some info'
  pub same : scheme_key (sharing_of info).poly ≡ scheme_key (sharing_of info').poly

-- a desk holds material of this sharing
abbrev pub HoldsOf : Desk → (epoch : ℕ) → Sharing → Type 0
HoldsOf desk epoch sharing = (info : SchemeInfo) × (material_of desk epoch ≡ Some info) × (sharing_of info ≡ sharing)
