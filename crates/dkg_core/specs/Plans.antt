-- Start material: how it stands in the plan, and what an opening makes of it.
use Rattle.std.specs.Prelude.{ℕ, Bool, false, List, ◌++◌, ◌+◌, ◌==◌, nat_lt, Option, Some, None, is_ok, Result, Ok, Err, if◌then◌else◌}
use Rattle.std.specs.Option.{option_map_or}
use Rattle.dkg_values.specs.Codec.{Reading, whole}
use Rattle.dkg_values.specs.Joined.{beside_at, seen_at}
use Rattle.dkg_values.specs.declared.codec.CodecError.{CodecError}
use Rattle.dkg_values.specs.declared.name.Name.TheVariants as names
use Rattle.dkg_ceremony.specs.Schedule.{epoch_of}
use Rattle.dkg_types.specs.Blocks.{Block}
use Rattle.dkg_infos.specs.declared.fault.Fault.{Fault}
use Rattle.dkg_infos.specs.declared.fault.Fault.TheVariants.{Corrupt, HeightRange, StateSyncEpochs, StateSyncMaterial, FloorBlockMissing}
use Rattle.dkg_types.specs.declared.finalization.Finalization.{Finalization}
use Rattle.dkg_infos.specs.declared.info.EpochInfo.{EpochInfo}
use Rattle.dkg_types.specs.FinalizationCodes.{finalization_spelling, finalization_at}
use Rattle.dkg_infos.specs.InfoCodes.{info_spelling, info_at}
use Rattle.dkg_store.specs.Acts.{OnDisk}
use Rattle.dkg_journal.specs.Operations.{PutsPlan, ClearsPlan}
use Rattle.dkg_core.specs.Courses.{Course, Do, Stops, bind}
use Rattle.dkg_core.specs.Fixed.{Fixed, Material, start}
use Rattle.dkg_core.specs.Sources.{startup}
use Rattle.dkg_core.specs.Live.{Live}
use Rattle.dkg_core.specs.Setup.{looks, is_past_range, recovered_share, registers, setup}

abbrev pub material_bytes : {Dir : Type 0} → Fixed Dir → Material Dir → List ℕ
material_bytes c m = info_spelling c.directories.spelling m.info ++ finalization_spelling m.floor

abbrev pub material_from : {Dir : Type 0} → EpochInfo Dir × Finalization → Material Dir
material_from p = record { info = p.0; floor = p.1 }

-- material under the limits
abbrev pub material_at : {Dir : Type 0} → Fixed Dir → List ℕ → Reading (Material Dir)
material_at c = seen_at material_from (beside_at (info_at c.directories.read c.directories.matches c.limit c.version) finalization_at)

-- how an opening goes on, with the material or without one
abbrev pub OnMaterial : Type 0 → Type 0
OnMaterial Dir = Option (Material Dir) → Course Dir Fault (Live Dir)

-- Material names one epoch.
abbrev pub of_one_epoch : {Dir : Type 0} → Material Dir → Course Dir Fault (Live Dir) → Course Dir Fault (Live Dir)
of_one_epoch m acts = if m.info.epoch == m.floor.epoch then acts else Stops (StateSyncEpochs m.info.epoch m.floor.epoch)

abbrev pub stored : {Dir : Type 0} → OnMaterial Dir → Result (Material Dir) CodecError → Course Dir Fault (Live Dir)
stored next (Err e) = Stops (Corrupt names.Plan 0)
stored next (Ok m) = of_one_epoch m (next (Some m))

abbrev pub reads_plan : {Dir : Type 0} → Fixed Dir → Option (List ℕ) → OnMaterial Dir → Course Dir Fault (Live Dir)
reads_plan c (Some bytes) next = stored next (whole (material_at c bytes))
reads_plan c None next = next None

-- What is provided is judged before any call for it, and replaces what is stored; else the stored material is read.
abbrev pub finds_material : {Dir : Type 0} → Fixed Dir → Option (Material Dir) → OnMaterial Dir → Course Dir Fault (Live Dir)
finds_material c (Some m) next =
    of_one_epoch m (if is_ok (whole (material_at c (material_bytes c m))) then Do (OnDisk (PutsPlan (material_bytes c m))) (next (Some m)) else Stops StateSyncMaterial)
finds_material c None next = looks c (λ s. reads_plan c s.plan next)

-- The source is past the material's epoch already.
abbrev pub is_outdated : {Dir : Type 0} → Fixed Dir → Material Dir → Bool
is_outdated c m = option_map_or (λ t. nat_lt m.floor.epoch (epoch_of c.blocks_per_epoch (t.height + 1))) (start c) false

-- Outdated material is deleted.
abbrev pub resolves_plan : {Dir : Type 0} → Fixed Dir → OnMaterial Dir → OnMaterial Dir
resolves_plan c next None = next None
resolves_plan c next (Some m) = if is_outdated c m then Do (OnDisk ClearsPlan) (next None) else next (Some m)

-- The height above the position that the source tells has to be in range.
abbrev pub stays_in_range : {Dir S : Type 0} → Fixed Dir → Course Dir Fault S → Course Dir Fault S
stays_in_range c course = if option_map_or (λ t. is_past_range c (t.height + 1)) (start c) false then Stops HeightRange else course

abbrev pub starts_at : {Dir : Type 0} → Fixed Dir → Material Dir → Option (Block Dir) → Live Dir → Course Dir Fault (Live Dir)
starts_at c m None st = Stops FloorBlockMissing
starts_at c m (Some floor) st = setup c (Some (m.info, floor.height)) (record st { tip = startup c.source.anchor (Some floor) })

-- Kept material is registered first; then its floor's block gives the tip.
abbrev pub starts_from : {Dir : Type 0} → Fixed Dir → Live Dir → OnMaterial Dir
starts_from c st None = setup c None (record st { tip = startup c.source.anchor None })
starts_from c st (Some m) =
    looks c (λ s. bind (registers c m.info (recovered_share c s m.info) st) (λ st. starts_at c m (c.source.by_digest m.floor.payload) st))

-- An opening in reshare mode, behind the store's.
abbrev pub opens_resharing : {Dir : Type 0} → Fixed Dir → Live Dir → Course Dir Fault (Live Dir)
opens_resharing c st = finds_material c c.material (λ found. stays_in_range c (resolves_plan c (starts_from c st) found))
