-- The steps of a life, and lives, by what their calls answered.
use Rattle.std.proofs.Common.{◌≡◌, ◌⊎◌, ◌<◌, ◌≤◌, ◌+◌, ◌^◌, [], ◌∷◌, ℕ, zero, suc, Bool, true, false, List, Option, Some, None, inl, inr, get_or, length, refl, sym, ◌∙◌, ap, subst, arith}
use Rattle.std.specs.Prelude.{⊤, nat_lt, slice_get}
use Rattle.std.proofs.lemmas.Bool.Decides.{nat_tests}
use Rattle.std.specs.List.{AllByRecursion}
use Rattle.std.proofs.lemmas.Option.{slice_get-get_or}
use Rattle.dkg_journal.specs.Disk.{Rose}
use Rattle.dkg_infos.specs.declared.fault.Fault.TheVariants as fault
use Rattle.dkg_store.specs.declared.devices.Devices.{Devices}
use Rattle.dkg_life.specs.Ends.{IsCausedBy}
use Rattle.dkg_life.specs.declared.stop.Stop.{Stop}
use Rattle.dkg_life.specs.declared.stop.Stop.TheVariants.{Cut, Failed, Fault as FaultOf}
use Rattle.dkg_lives.specs.Causes.{StopHasCause}
use Rattle.dkg_lives.specs.Moving.{StepBlames}

-- the item that a loop is at
pub item_here : {A : Type 0} (xs : List A) (i : ℕ) (x : A) → i < length xs → x ≡ get_or xs i x → slice_get xs i ≡ Some x
item_here {A} xs i x below is = slice_get-get_or xs i x below ∙ ap (λ (y : A). Some y) (sym is)

-- .. of which all items have something
pub holds_at : {A : Type 0} (P : A → Type 0) (xs : List A) (i : ℕ) (x : A) → AllByRecursion P xs → slice_get xs i ≡ Some x → P x
holds_at {A} P [] i x all is = absurd (let wrong : ◌≡◌ {A = Option A} None (Some x) = is in cc)
holds_at {A} P (y ∷ ys) zero x all is = subst P (the_item is) all.0
  where
    the_item : {a b : A} → Some a ≡ Some b → a ≡ b
    the_item e = cc
holds_at P (y ∷ ys) (suc i) x all is = holds_at P ys i x all.1 is

-- COUNTS

-- a count that rose in a call rose in all that is around it
pub rose_around : (a b c d : ℕ) → a ≤ b → b ≤ c → c ≤ d → Rose b c → Rose a d
rose_around a b c d ab bc cd rose = rises (2 ^ 64) a b c d ab bc cd rose
  where
    rises : (most a b c d : ℕ) → a ≤ b → b ≤ c → c ≤ d → (b < c) ⊎ (b + 1 ≡ most) → (a < d) ⊎ (a + 1 ≡ most)
    rises most a b c d ab bc cd (inl less) = inl (omega (arith, ab, less, cd))
    rises most a b c d ab bc cd (inr full) = by_order (nat_lt a b) refl
      where
        by_order : (t : Bool) → nat_lt a b ≡ t → (a < d) ⊎ (a + 1 ≡ most)
        by_order true e = inl (grind (arith, nat_tests))
        by_order false e = inr (grind (arith, nat_tests))

-- .. so that what a step's stop blames in a part of a call, it blames in all of it
stop_caused_around : (tells : Bool) (stop : Stop) (P Q R S U : Type 0) → (P → R) → (Q → S) → IsCausedBy tells stop P Q U → IsCausedBy tells stop R S ⊤
stop_caused_around tells Cut P Q R S U disk secrets is = tt
stop_caused_around tells Failed P Q R S U disk secrets is = absurd is
stop_caused_around tells (FaultOf fault.Disk) P Q R S U disk secrets is = disk is
stop_caused_around tells (FaultOf fault.Secrets) P Q R S U disk secrets is = secrets is
stop_caused_around tells (FaultOf (fault.Corrupt name place)) P Q R S U disk secrets is = is
stop_caused_around tells (FaultOf its) P Q R S U disk secrets is = tt

module _ {D X : Type 0} (tells : Bool) (disk_faults : D → ℕ) (secret_faults : X → ℕ) where
  pub step_blames_around : (old before after new : Devices D X) → disk_faults old.disk.now ≤ disk_faults before.disk.now → secret_faults old.secrets.now ≤ secret_faults before.secrets.now
      → disk_faults before.disk.now ≤ disk_faults after.disk.now → secret_faults before.secrets.now ≤ secret_faults after.secrets.now
      → disk_faults after.disk.now ≤ disk_faults new.disk.now → secret_faults after.secrets.now ≤ secret_faults new.secrets.now
      → (stop : Stop) (U : Type 0) → IsCausedBy tells stop (Rose (disk_faults before.disk.now) (disk_faults after.disk.now)) (Rose (secret_faults before.secrets.now) (secret_faults after.secrets.now)) U
      → StepBlames tells disk_faults secret_faults old new stop
  step_blames_around old before after new d1 s1 d2 s2 d3 s3 stop U is = stop_caused_around tells stop
      (Rose (disk_faults before.disk.now) (disk_faults after.disk.now)) (Rose (secret_faults before.secrets.now) (secret_faults after.secrets.now))
      (Rose (disk_faults old.disk.now) (disk_faults new.disk.now)) (Rose (secret_faults old.secrets.now) (secret_faults new.secrets.now)) U
      (rose_around (disk_faults old.disk.now) (disk_faults before.disk.now) (disk_faults after.disk.now) (disk_faults new.disk.now) d1 d2 d3)
      (rose_around (secret_faults old.secrets.now) (secret_faults before.secrets.now) (secret_faults after.secrets.now) (secret_faults new.secrets.now) s1 s2 s3) is

-- a step's causes are a life's
pub step_stop_cause : (tells : Bool) (stop : Stop) (P Q U : Type 0) → IsCausedBy tells stop P Q U → StopHasCause stop P Q
step_stop_cause tells Cut P Q U is = tt
step_stop_cause tells Failed P Q U is = is
step_stop_cause tells (FaultOf fault.Disk) P Q U is = is
step_stop_cause tells (FaultOf fault.Secrets) P Q U is = is
step_stop_cause tells (FaultOf its) P Q U is = tt
