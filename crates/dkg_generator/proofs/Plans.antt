-- What an epoch's logs and dealings are, and how many.
use Rattle.std.proofs.Common.{◌≡◌, ℕ, ◌+◌, ◌<◌, ◌≤◌, ◌==◌, Bool, true, false, List, length, take, refl, sym, ap, ◌∙◌, inl, inr, arith, map}
use Rattle.std.specs.Prelude.{if◌then◌else◌}
use Rattle.std.specs.List.{range_with_len}
use Rattle.std.proofs.lemmas.Bool.{cases_Bool}
use Rattle.std.proofs.lemmas.List.FromFn.{length-map-range_with_len, take-map-range_with_len}
use Rattle.dkg_ceremony.specs.declared.signed_log.SignedDealerLog.{SignedDealerLog}
use Rattle.dkg_generator.specs.Chain.{failed, logs_included, logs_made, others, signed_of}
use Rattle.dkg_generator.specs.Made.{MessageFrom, Shown, dealing_from, dealings_of}

two_or_six : (b : Bool) → (if b then 2 else 6) ≤ 6
two_or_six true = omega arith
two_or_six false = omega arith

pub included_most : (number epoch : ℕ) → logs_included number epoch ≤ 6
included_most number epoch = two_or_six (epoch == failed number)

pub all_logs : (number : ℕ) (shown : Shown) (logs : List SignedDealerLog) → logs ≡ map (signed_of number shown) others → length logs ≡ 6
all_logs number shown logs is = ap length is ∙ length-map-range_with_len (signed_of number shown) 2 6

-- an epoch's blocks carry the first of all logs
pub first_logs : (number : ℕ) (shown : Shown) (logs : List SignedDealerLog) → logs ≡ map (signed_of number shown) others → take (logs_included number shown.epoch) logs ≡ logs_made number shown
unfolding logs_made
first_logs number shown logs is = ap (take (logs_included number shown.epoch)) is ∙ take-map-range_with_len (signed_of number shown) 2 6 (logs_included number shown.epoch) (included_most number shown.epoch)

pub some_dealings : (number : ℕ) (shown : Shown) (dealings : List MessageFrom) → dealings ≡ dealings_of number shown → length dealings ≡ 6
unfolding dealings_of
some_dealings number shown dealings is = ap length is ∙ length-map-range_with_len (dealing_from number shown) 2 6
