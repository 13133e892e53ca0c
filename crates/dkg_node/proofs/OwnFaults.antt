-- A fault that doesn't come from outside is a course's own.
use Rattle.std.proofs.Common.{◌≡◌, ◌⊎◌, inl, inr, refl}
use Rattle.dkg_infos.specs.declared.fault.Fault.{Fault}
use Rattle.dkg_infos.specs.declared.fault.Fault.TheVariants as fault
use Rattle.dkg_store.specs.Acts.{stopped}
use Rattle.dkg_core.specs.Live.{Faulted}
use Rattle.dkg_core.specs.Splitting.{fault_named}
use Rattle.dkg_life.specs.Ends.{by_fault}

-- of a device, a corrupt record, or want of memory: what ends a step from outside
abbrev pub IsOutside : Fault → Type 0
IsOutside fault.NoMemory = Unit {0}
IsOutside fault.Disk = Unit {0}
IsOutside fault.Secrets = Unit {0}
IsOutside (fault.Corrupt name place) = Unit {0}
IsOutside its = ⊥

pub own_or_outside : {S : Type 0} (its : Fault) → IsOutside its ⊎ (fault_named {S = S} Faulted (by_fault its) ≡ stopped (Faulted its))
own_or_outside fault.NoMemory = inl tt
own_or_outside fault.Disk = inl tt
own_or_outside fault.Secrets = inl tt
own_or_outside (fault.Corrupt name place) = inl tt
own_or_outside its = inr refl
