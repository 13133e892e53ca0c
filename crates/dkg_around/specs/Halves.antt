-- The parts of the orchestrator's opening that functions here are, one by one.
use Rattle.std.specs.Prelude.{ℕ, ◌≡◌, ◌==◌, true, false, Result, Ok, Err, if◌then◌else◌}
use Rattle.std.specs.Option.{option_map_or}
use Rattle.dkg_ceremony.specs.Schedule.{first}
use Rattle.dkg_ceremony.specs.declared.epocher.Bounds.{Bounds}
use Rattle.dkg_types.specs.Blocks.{Block}
use Rattle.dkg_types.specs.BlockCodes.{info_of}
use Rattle.dkg_infos.specs.declared.directory.Unit as directory
use Rattle.dkg_infos.specs.declared.fault.Fault.{Fault}
use Rattle.dkg_infos.specs.declared.fault.Fault.TheVariants.{HeightRange, MissingEpochInfo, WrongEpoch}
use Rattle.dkg_core.specs.Fixed.{Fixed}
use Rattle.dkg_core.specs.Laws.{start_of}
use Rattle.dkg_core.specs.Setup.{is_past_range}
use Rattle.dkg_core.specs.Endings.{first_epoch}

-- The bounds of the epoch in which the life starts.
pub record AreStart (c : Fixed directory.Unit) (bounds : Bounds) : Type 0 where
  pub in_range : is_past_range c (start_of c) ≡ false
  pub epoch_is : bounds.epoch ≡ first_epoch c
  pub first_is : bounds.first ≡ first c.blocks_per_epoch bounds.epoch

-- .. or that epoch is past the range.
abbrev pub IsStartOf : Fixed directory.Unit → Result Bounds Fault → Type 0
IsStartOf c (Ok bounds) = AreStart c bounds
IsStartOf c (Err fault) = (fault ≡ HeightRange) × (is_past_range c (start_of c) ≡ true)

-- what is wrong with a block that is to carry this epoch's info
abbrev pub beginning_of : Block directory.Unit → (epoch : ℕ) → Result (Unit {0}) Fault
beginning_of b epoch = option_map_or (λ info. if info.epoch == epoch then Ok tt else Err (WrongEpoch epoch info.epoch)) (info_of b.payload) (Err (MissingEpochInfo b.height))
