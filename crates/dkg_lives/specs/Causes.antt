-- What a fault that ends a life blames.
use Rattle.std.specs.Prelude.{⊤}
use Rattle.dkg_infos.specs.declared.fault.Fault.{Fault}
use Rattle.dkg_infos.specs.declared.fault.Fault.TheVariants as fault
use Rattle.dkg_life.specs.declared.stop.Stop.{Stop}
use Rattle.dkg_life.specs.declared.stop.Stop.TheVariants.{Cut, Failed, Fault as FaultOf}

-- A device is blamed only where its count rose. (Each count's rise is handed in as a fact.)
abbrev pub HasDeviceCause : Fault → (disk_rose secrets_rose : Type 0) → Type 0
HasDeviceCause fault.Disk disk_rose secrets_rose = disk_rose
HasDeviceCause fault.Secrets disk_rose secrets_rose = secrets_rose
HasDeviceCause its disk_rose secrets_rose = ⊤

-- .. of a stop: no life ends by a call that failed before
abbrev pub StopHasCause : Stop → (disk_rose secrets_rose : Type 0) → Type 0
StopHasCause (FaultOf its) disk_rose secrets_rose = HasDeviceCause its disk_rose secrets_rose
StopHasCause Cut disk_rose secrets_rose = ⊤
StopHasCause Failed disk_rose secrets_rose = ⊥

-- P of a fault that stopped it
abbrev pub IfFault : Stop → (Fault → Type 0) → Type 0
IfFault (FaultOf its) P = P its
IfFault Cut P = ⊤
IfFault Failed P = ⊤
