-- What the result of a call blames, it blames of the calls around it.
use Rattle.std.proofs.Common.{◌≡◌, Bool, Result, Ok, Err, sym, subst}
use Rattle.std.specs.Prelude.{IfErr}
use Rattle.dkg_infos.specs.declared.fault.Fault.TheVariants.{NoMemory}
use Rattle.dkg_life.specs.declared.stop.Stop.{Stop}
use Rattle.dkg_life.specs.declared.stop.Stop.TheVariants.{Fault as Faulted}
use Rattle.dkg_life.specs.Ends.{IsCaused, IsCausedBy}
use Rattle.dkg_life.proofs.Caused.{caused_around, caused_by_around}

module _ {T : Type 0} (tells : Bool) {disk secrets reached disk_around secrets_around reached_around : Type 0}
    (of_disk : disk → disk_around) (of_secrets : secrets → secrets_around) (of_reached : reached → reached_around)
  where
    pub result_caused : (r : Result T Stop) → IfErr r (λ stop. IsCaused stop disk secrets reached) → IfErr r (λ stop. IsCausedBy tells stop disk_around secrets_around reached_around)
    result_caused (Ok x) is = tt
    result_caused (Err stop) is = caused_around tells of_disk of_secrets of_reached stop is

    pub result_caused_by : (r : Result T Stop) → IfErr r (λ stop. IsCausedBy tells stop disk secrets reached) → IfErr r (λ stop. IsCausedBy tells stop disk_around secrets_around reached_around)
    result_caused_by (Ok x) is = tt
    result_caused_by (Err stop) is = caused_by_around tells of_disk of_secrets of_reached stop is

-- want of memory blames none
pub want_caused : {T : Type 0} (disk secrets reached : Type 0) (r : Result T Stop) → IfErr r (λ stop. stop ≡ Faulted NoMemory) → IfErr r (λ stop. IsCaused stop disk secrets reached)
want_caused disk secrets reached (Ok x) is = tt
want_caused disk secrets reached (Err stop) is = subst (λ (s : Stop). IsCaused s disk secrets reached) (sym is) tt
