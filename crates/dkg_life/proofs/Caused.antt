-- What a stop blames of a call, it blames of the calls around it.
use Rattle.std.proofs.Common.{◌≡◌, ◌⊎◌, inl, inr, ℕ, ◌<◌, ◌≤◌, ◌+◌, ◌^◌, nat_lt, arith, Bool, true, false, Result, Ok, Err, refl, sym, subst}
use Rattle.std.specs.Prelude.{IfErr}
use Rattle.dkg_ceremony.specs.declared.round.RoundParts.{RoundParts as Round}
use Rattle.dkg_ceremony.specs.declared.round.RoundError.{RoundError}
use Rattle.dkg_store.specs.Called.{ErrorIsDue}
use Rattle.dkg_store.specs.Errors.{IsOfPlaying}
use Rattle.dkg_store.specs.declared.call.StoreError.{StoreError}
use Rattle.dkg_store.specs.declared.call.StoreError.TheVariants.{Disk, Secrets as SecretsFailed, Corrupt, LocalState, StateSyncEpochs, StateSyncMaterial, Cut as StoreCut, NoMemory}
use Rattle.std.proofs.lemmas.Bool.Decides.{nat_tests}
use Rattle.dkg_journal.specs.Disk.{Rose}
use Rattle.dkg_infos.specs.declared.fault.Fault.TheVariants as fault
use Rattle.dkg_life.specs.declared.stop.Stop.{Stop}
use Rattle.dkg_life.specs.declared.stop.Stop.TheVariants.{Fault as Faulted, Cut, Failed}
use Rattle.dkg_life.specs.Ends.{IsCaused, IsCausedBy, IsOutside, stop_of}
use Rattle.dkg_life.specs.Steps.{IsFaultOrWant, no_round}

rises : (most a b c d : ℕ) → a ≤ b → b ≤ c → c ≤ d → (b < c) ⊎ (b + 1 ≡ most) → (a < d) ⊎ (a + 1 ≡ most)
rises most a b c d ab bc cd (inl less) = inl (omega (arith, ab, less, cd))
rises most a b c d ab bc cd (inr full) = by_order (nat_lt a b) refl
  where
    by_order : (t : Bool) → nat_lt a b ≡ t → (a < d) ⊎ (a + 1 ≡ most)
    by_order true e = inl (grind (arith, nat_tests))
    by_order false e = inr (grind (arith, nat_tests))

-- a count that rose in a call rose in all that is around it
pub rose_around : (a b c d : ℕ) → a ≤ b → b ≤ c → c ≤ d → Rose b c → Rose a d
rose_around a b c d ab bc cd rose = rises (2 ^ 64) a b c d ab bc cd rose

module _ (tells : Bool) {disk secrets reached disk_around secrets_around reached_around : Type 0}
    (of_disk : disk → disk_around) (of_secrets : secrets → secrets_around) (of_reached : reached → reached_around)
  where
    pub caused_around : (stop : Stop) → IsCaused stop disk secrets reached → IsCausedBy tells stop disk_around secrets_around reached_around
    caused_around (Faulted fault.NoMemory) is = tt
    caused_around (Faulted fault.Disk) is = of_disk is
    caused_around (Faulted fault.Secrets) is = of_secrets is
    caused_around (Faulted (fault.Corrupt x y)) is = absurd is
    caused_around (Faulted (fault.InvalidConfig x)) is = tt
    caused_around (Faulted (fault.StateSyncEpochs x y)) is = tt
    caused_around (Faulted fault.StateSyncMaterial) is = tt
    caused_around (Faulted (fault.ConflictingBlock x)) is = tt
    caused_around (Faulted (fault.DetachedBlock x)) is = tt
    caused_around (Faulted (fault.SkippedHeight x y)) is = tt
    caused_around (Faulted (fault.OutOfWindow x)) is = tt
    caused_around (Faulted fault.HeightRange) is = tt
    caused_around (Faulted (fault.MissingEpochInfo x)) is = tt
    caused_around (Faulted (fault.WrongEpoch x y)) is = tt
    caused_around (Faulted (fault.InvalidParticipants x)) is = tt
    caused_around (Faulted (fault.DirectoryMismatch x)) is = tt
    caused_around (Faulted (fault.LocalState x)) is = tt
    caused_around (Faulted fault.FinalBlockMissing) is = tt
    caused_around (Faulted fault.FloorBlockMissing) is = tt
    caused_around Cut is = of_reached is
    caused_around Failed is = absurd is

    pub caused_by_around : (stop : Stop) → IsCausedBy tells stop disk secrets reached → IsCausedBy tells stop disk_around secrets_around reached_around
    caused_by_around (Faulted fault.NoMemory) is = tt
    caused_by_around (Faulted fault.Disk) is = of_disk is
    caused_by_around (Faulted fault.Secrets) is = of_secrets is
    caused_by_around (Faulted (fault.Corrupt x y)) is = is
    caused_by_around (Faulted (fault.InvalidConfig x)) is = tt
    caused_by_around (Faulted (fault.StateSyncEpochs x y)) is = tt
    caused_by_around (Faulted fault.StateSyncMaterial) is = tt
    caused_by_around (Faulted (fault.ConflictingBlock x)) is = tt
    caused_by_around (Faulted (fault.DetachedBlock x)) is = tt
    caused_by_around (Faulted (fault.SkippedHeight x y)) is = tt
    caused_by_around (Faulted (fault.OutOfWindow x)) is = tt
    caused_by_around (Faulted fault.HeightRange) is = tt
    caused_by_around (Faulted (fault.MissingEpochInfo x)) is = tt
    caused_by_around (Faulted (fault.WrongEpoch x y)) is = tt
    caused_by_around (Faulted (fault.InvalidParticipants x)) is = tt
    caused_by_around (Faulted (fault.DirectoryMismatch x)) is = tt
    caused_by_around (Faulted (fault.LocalState x)) is = tt
    caused_by_around (Faulted fault.FinalBlockMissing) is = tt
    caused_by_around (Faulted fault.FloorBlockMissing) is = tt
    caused_by_around Cut is = of_reached is
    caused_by_around Failed is = absurd is

-- Such a result blames none of them.
pub of_result : {T : Type 0} (tells : Bool) (disk secrets reached : Type 0) (r : Result T Stop) → IfErr r (λ stop. IsCaused stop ⊥ ⊥ ⊥) → IfErr r (λ stop. IsCausedBy tells stop disk secrets reached)
of_result tells disk secrets reached (Ok x) is = tt
of_result tells disk secrets reached (Err stop) is = caused_around tells (λ x. absurd x) (λ x. absurd x) (λ x. absurd x) stop is

wants : (stop : Stop) → stop ≡ Faulted fault.NoMemory → IsCaused stop ⊥ ⊥ ⊥
wants stop is = let R : Stop → Type 0 = λ s. IsCaused s ⊥ ⊥ ⊥ in subst R (sym is) tt

-- want of memory comes from outside
pub of_want : (stop : Stop) → stop ≡ Faulted fault.NoMemory → IsOutside stop
of_want stop is = subst IsOutside (sym is) refl

-- Neither does a round that wasn't drawn up, nor a player that wasn't made.
pub of_round : (r : Result Round RoundError) (stop : Stop) → IsFaultOrWant (no_round r) stop → IsCaused stop ⊥ ⊥ ⊥
of_round (Ok round) stop want = wants stop want
of_round (Err e) stop (inl want) = wants stop want
of_round (Err e) stop (inr ends) = let R : Stop → Type 0 = λ s. IsCaused s ⊥ ⊥ ⊥ in subst R (sym ends) tt

pub of_playing : (e : StoreError) → IsOfPlaying e → IsCaused (stop_of e) ⊥ ⊥ ⊥
of_playing Disk is = absurd is
of_playing SecretsFailed is = absurd is
of_playing (Corrupt name place) is = absurd is
of_playing (LocalState cause) is = tt
of_playing (StateSyncEpochs info floor) is = absurd is
of_playing StateSyncMaterial is = absurd is
of_playing StoreCut is = absurd is
of_playing NoMemory is = tt

-- WHAT A STORE'S ERROR BLAMES, and that it comes from outside
pub of_due : {disk secrets cut disk_rose secrets_rose reached : Type 0} (want : Type 0) (e : StoreError) → ErrorIsDue e disk secrets cut want → (disk → disk_rose) → (secrets → secrets_rose) → (cut → reached)
    → IsOutside (stop_of e) × IsCaused (stop_of e) disk_rose secrets_rose reached
of_due want Disk due d s c = (refl, d due)
of_due want SecretsFailed due d s c = (refl, s due)
of_due want (Corrupt name place) due d s c = absurd due
of_due want (LocalState cause) due d s c = absurd due
of_due want (StateSyncEpochs info floor) due d s c = absurd due
of_due want StateSyncMaterial due d s c = absurd due
of_due want StoreCut due d s c = (tt, c due)
of_due want NoMemory due d s c = (refl, tt)
