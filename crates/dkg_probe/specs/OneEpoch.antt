-- Of the artifacts that are told: info and floor are of one epoch, and what is told is known.
use Rattle.std.specs.Prelude.{◌≡◌, ℕ, List, ◌++◌, Option, Some, None}
use Rattle.std.specs.List.{AllByRecursion}
use Rattle.dkg_types.specs.FinalizationCodes.{finalization_spelling}
use Rattle.dkg_types.specs.PayloadCodes.{payload_spelling, info_payload}
use Rattle.dkg_infos.specs.declared.entry.Entry.{Entry}
use Rattle.dkg_infos.specs.declared.entry.Entry.TheVariants.{Artifact}
use Rattle.dkg_types.specs.declared.finalization.Finalization.{Finalization}
use Rattle.dkg_infos.specs.declared.info.EpochInfo.{EpochInfo}
use Rattle.dkg_probe.specs.declared.artifact.Artifact.{Artifact as Known}

-- an info and a finalization of one epoch, which are spelled so
pub record IsOfOneEpoch {Dir : Type 0} (spelling : Dir → List ℕ) (info floor : List ℕ) : Type 0 where
  pub of : EpochInfo Dir
  pub at : Finalization
  pub info_is : info ≡ payload_spelling spelling (info_payload of)
  pub floor_is : floor ≡ finalization_spelling at
  pub same : of.epoch ≡ at.epoch

-- of an entry that tells an artifact
abbrev pub OfOneEpoch : {Dir : Type 0} → (Dir → List ℕ) → Entry → Type 0
OfOneEpoch spelling (Artifact info floor) = IsOfOneEpoch spelling info floor
OfOneEpoch spelling line = Unit {0}

-- of an entry that tells an artifact: it is the one that is known
abbrev pub TellsKnown : {Dir : Type 0} → (Dir → List ℕ) → Option (Known Dir) → Entry → Type 0
TellsKnown spelling None (Artifact info floor) = ⊥
TellsKnown spelling (Some known) (Artifact info floor) = (info ≡ payload_spelling spelling (info_payload known.info)) × (floor ≡ finalization_spelling known.floor)
TellsKnown spelling known line = Unit {0}

-- what was said since is of P
abbrev pub SaidSince : (Entry → Type 0) → List Entry → List Entry → Type 0
SaidSince P out new = (more : List Entry) × (new ≡ out ++ more) × AllByRecursion P more
