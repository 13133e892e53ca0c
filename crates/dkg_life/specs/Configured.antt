-- What a configuration is refused for.
use Rattle.std.specs.Prelude.{ℕ, ◌==◌, not, Option, Some, None, if◌then◌else◌}
use Rattle.dkg_ceremony.specs.Modes.{supports_of}
use Rattle.dkg_ceremony.specs.declared.mode.Mode.{Mode}
use Rattle.dkg_infos.specs.declared.fault.Fault.{Fault}
use Rattle.dkg_infos.specs.declared.fault.Fault.TheVariants.{InvalidConfig}
use Rattle.dkg_infos.specs.declared.fault.ConfigCause.TheVariants.{Mode as ModeCause, OneBlock}

-- .. in reshare mode
abbrev pub config_fault : Mode → (version blocks : ℕ) → Option Fault
config_fault mode version blocks =
    if not (supports_of version mode) then Some (InvalidConfig ModeCause) else if blocks == 1 then Some (InvalidConfig OneBlock) else None
