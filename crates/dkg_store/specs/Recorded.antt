-- What an opening restored, and the dealings of one epoch.
use Rattle.std.specs.Prelude.{◌≡◌, ℕ, ◌^◌, ◌&&◌, ◌==◌, nat_lt, nat_le, Bool, false, List, [], ◌∷◌, map, Option, Some, None, IfSome, Result, Ok, Err, filter, if◌then◌else◌}
use Rattle.std.specs.Ordering.{nat_cmp}
use Rattle.std.specs.FinMap as map_of
use Rattle.dkg_ceremony.specs.declared.dealer_log.DealerLog.{DealerLog}
use Rattle.dkg_infos.specs.declared.entry.Restored.{Restored}
use Rattle.dkg_secrets.specs.Keys.{key_cmp}
use Rattle.dkg_store.specs.Pairs.{Pairs}
use Rattle.dkg_store.specs.declared.recorded_log.RecordedLog.{RecordedLog}

abbrev pub Pair : Type 0
Pair = (ℕ × ℕ) × (List ℕ × ℕ)

abbrev pub restored_of : Pair → Restored
restored_of p = record { epoch = p.0.0; dealer = p.0.1; public = p.1.0; private = p.1.1 }

-- the dealings by epoch and dealer, rising
abbrev pub restored_list : Pairs → List Restored
restored_list pairs = map restored_of (map_of.entries pairs)

-- the dealings of an epoch by dealer, rising (a dealer is below 2^32)
abbrev pub of_epoch : ℕ → Pairs → List Pair
of_epoch epoch pairs = filter (λ p. (p.0.0 == epoch) && nat_lt p.0.1 (2 ^ 32)) (map_of.entries pairs)

-- .. and whatever else is recorded by epoch and key
abbrev pub at_epoch : {V : Type 0} → ℕ → map_of.FinMap key_cmp V → List (ℕ × V)
at_epoch epoch m = map (λ p. (p.0.1, p.1)) (filter (λ p. (p.0.0 == epoch) && nat_lt p.0.1 (2 ^ 32)) (map_of.entries m))

-- what is recorded without a height stands at this one
abbrev pub height_or : ℕ → Option ℕ → ℕ
height_or midpoint None = midpoint
height_or midpoint (Some height) = height

-- a recorded log counts where its height is at most the tip's, and none does without a tip
abbrev pub is_reached : (midpoint : ℕ) → Option ℕ → RecordedLog → Bool
is_reached midpoint None r = false
is_reached midpoint (Some tip) r = nat_le (height_or midpoint r.height) tip

-- recorded logs by dealer, without their heights
abbrev pub bare_logs : List (ℕ × RecordedLog) → List (ℕ × DealerLog)
bare_logs rs = map (λ p. (p.0, p.1.log)) rs

-- .. those that are reached
abbrev pub reached_logs : (midpoint : ℕ) → Option ℕ → List (ℕ × RecordedLog) → List (ℕ × DealerLog)
reached_logs midpoint tip rs = bare_logs (filter (λ p. is_reached midpoint tip p.1) rs)

abbrev pub refused_or : {E : Type 0} → Result (Unit {0}) E → ℕ → Option ℕ → Option ℕ
refused_or (Ok u) dealer later = later
refused_or (Err e) dealer later = Some dealer

-- the first dealer whose dealing the check refuses
abbrev pub first_refused : {E : Type 0} → (ℕ → List ℕ → ℕ → Result (Unit {0}) E) → List Pair → Option ℕ
first_refused check [] = None
first_refused check (p ∷ ps) = refused_or (check p.0.1 p.1.0 p.1.1) p.0.1 (first_refused check ps)

-- Each dealing passes the check.
pub record AreChecked {E : Type 0} (check : ℕ → List ℕ → ℕ → Result (Unit {0}) E) (dealings : map_of.FinMap nat_cmp (List ℕ × ℕ)) : Type 0 where
  pub each : (dealer : ℕ) → IfSome (map_of.get dealings dealer) (λ d. check dealer d.0 d.1 ≡ Ok tt)

-- a key's first value stays
abbrev pub with_first : {V : Type 0} → map_of.FinMap nat_cmp V → (key : ℕ) → V → map_of.FinMap nat_cmp V
with_first m key value = if map_of.contains_key m key then m else map_of.insert m key value
