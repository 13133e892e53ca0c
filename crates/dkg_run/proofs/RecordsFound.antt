-- A corrupt record that a fault names stands on the devices as the call leaves them: an opening finds it there, and behind an opening none is named.
use Rattle.std.proofs.Common.{◌≡◌, ◌⊎◌, inl, inr, ℕ, Bool, true, false, Option, Some, None, Result, Ok, Err, sym, subst}
use Rattle.std.specs.Prelude.{◌==◌, not, IfErr, IsTrue, if◌then◌else◌}
use Rattle.dkg_ceremony.specs.Modes.{supports_of}
use Rattle.dkg_ceremony.specs.declared.mode.Mode.{Mode}
use Rattle.dkg_journal.specs.Names.{Files}
use Rattle.dkg_infos.specs.declared.fault.Fault.{Fault}
use Rattle.dkg_infos.specs.declared.fault.Fault.TheVariants.{Corrupt, InvalidConfig, NoMemory}
use Rattle.dkg_infos.specs.declared.fault.ConfigCause.TheVariants.{Mode as ModeCause, OneBlock}
use Rattle.dkg_store.specs.declared.devices.Devices.{Devices}
use Rattle.dkg_life.specs.Ready.{IsFoundAt}
use Rattle.dkg_life.specs.Configured.{config_fault}
use Rattle.dkg_life.specs.Ends.{IsCausedBy}
use Rattle.dkg_life.specs.declared.stop.Stop.{Stop}
use Rattle.dkg_life.specs.declared.stop.Stop.TheVariants.{Cut, Failed, Fault as FaultOf}
use Rattle.dkg_lives.specs.Causes.{IfFault}
use Rattle.dkg_promises.specs.Found.{IsFoundRecord}
use Rattle.dkg_lives.specs.Moving.{StepBlames}

-- AN OPENING

pub opening_finds : (limit : ℕ) (tells : Bool) (files : Files) (stop : Stop) (P Q R : Type 0) → IsFoundAt limit tells files stop P Q R → IsTrue tells → IfFault stop (IsFoundRecord limit files)
opening_finds limit tells files Cut P Q R is told = tt
opening_finds limit tells files Failed P Q R is told = tt
opening_finds limit tells files (FaultOf its) P Q R is told = by_fault its is
  where
    by_fault : (its : Fault) → IsFoundAt limit tells files (FaultOf its) P Q R → IsFoundRecord limit files its
    by_fault (Corrupt name place) is = record { so = is told }
    by_fault its is = record { so = tt }

-- A STEP

step_finds : (limit : ℕ) (tells : Bool) (files : Files) (stop : Stop) (P Q R : Type 0) → IsCausedBy tells stop P Q R → IsTrue tells → IfFault stop (IsFoundRecord limit files)
step_finds limit tells files Cut P Q R is told = tt
step_finds limit tells files Failed P Q R is told = tt
step_finds limit tells files (FaultOf its) P Q R is told = by_fault its is
  where
    by_fault : (its : Fault) → IsCausedBy tells (FaultOf its) P Q R → IsFoundRecord limit files its
    by_fault (Corrupt name place) is = absurd (is told)
    by_fault its is = record { so = tt }

module _ {D X : Type 0} where
  pub steps_find : (tells : Bool) (disk_faults : D → ℕ) (secret_faults : X → ℕ) (old new : Devices D X) (limit : ℕ) (files : Files) (how : Result (Unit {0}) Stop) → IfErr how (StepBlames tells disk_faults secret_faults old new)
      → IfErr how (λ stop. IsTrue tells → IfFault stop (IsFoundRecord limit files))
  steps_find tells disk_faults secret_faults old new limit files (Ok done) is = tt
  steps_find tells disk_faults secret_faults old new limit files (Err stop) is = step_finds limit tells files stop _ _ _ is

  -- A LIFE, whose end leaves the devices as they were where a fault ended it

  pub life_finds : (files : D → Files) (limit : ℕ) (tells : Bool) (mid new : Devices D X) (how : Result (Unit {0}) Stop) (result : Result (Unit {0}) Fault)
      → IfErr how (λ stop. IsTrue tells → IfFault stop (IsFoundRecord limit (files mid.disk.now)))
      → IfErr result (λ fault. (how ≡ Err (FaultOf fault)) ⊎ (fault ≡ NoMemory))
      → ((fault : Fault) → how ≡ Err (FaultOf fault) → new ≡ mid)
      → IfErr result (λ fault. IsTrue tells → IsFoundRecord limit (files new.disk.now) fault)
  life_finds files limit tells mid new how (Ok done) found faulted same = tt
  life_finds files limit tells mid new how (Err its) found (inl is) same = λ told.
      subst (λ (d : Devices D X). IsFoundRecord limit (files d.disk.now) its) (sym (same its is))
      (subst (λ (r : Result (Unit {0}) Stop). IfErr r (λ stop. IsTrue tells → IfFault stop (IsFoundRecord limit (files mid.disk.now)))) is found told)
  life_finds files limit tells mid new how (Err its) found (inr is) same = λ told. subst (IsFoundRecord limit (files new.disk.now)) (sym is) (record { so = tt })

-- A REFUSED CONFIGURATION names no record

pub config_finds : (mode : Mode) (version blocks : ℕ) (its : Fault) → config_fault mode version blocks ≡ Some its → (limit : ℕ) (files : Files) → IsFoundRecord limit files its
config_finds mode version blocks its is limit files = by_test (supports_of version mode) (blocks == 1) is
  where
    the_fault : {x y : Fault} → Some x ≡ Some y → x ≡ y
    the_fault e = cc

    by_test : (t u : Bool) → (if not t then Some (InvalidConfig ModeCause) else if u then Some (InvalidConfig OneBlock) else None) ≡ Some its → IsFoundRecord limit files its
    by_test false u is = subst (IsFoundRecord limit files) (the_fault is) (record { so = tt })
    by_test true true is = subst (IsFoundRecord limit files) (the_fault is) (record { so = tt })
    by_test true false is = absurd (let wrong : ◌≡◌ {A = Option Fault} None (Some its) = is in cc)
