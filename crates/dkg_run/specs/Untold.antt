-- A line that found no memory.
use Rattle.std.specs.Prelude.{◌≡◌, List, Result, Err}
use Rattle.dkg_infos.specs.declared.entry.Entry.{Entry}
use Rattle.dkg_infos.specs.declared.fault.Fault.TheVariants.{NoMemory}
use Rattle.dkg_life.specs.declared.stop.Stop.{Stop}
use Rattle.dkg_life.specs.declared.stop.Stop.TheVariants.{Fault as FaultOf}
use Rattle.dkg_store.specs.declared.devices.Devices.{Devices}

-- It is answered for want of memory, and nothing was told or done.
pub record IsUntold {D X : Type 0} (result : Result (Unit {0}) Stop) (old new : Devices D X) (out now : List Entry) : Type 0 where
  pub want : result ≡ Err (FaultOf NoMemory)
  pub same : new ≡ old
  pub untold : now ≡ out
