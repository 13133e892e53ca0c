-- How cases are counted.
use Rattle.std.specs.Prelude.{ℕ, ◌+◌, ◌-◌, ◌^◌, ◌==◌, ◌&&◌, min, not, Bool, true, false}
use Rattle.dkg_cases.specs.declared.counts.Count.{Count}

-- a sum of counts (at its last value a count stays there)
abbrev pub counts_sum : ℕ → ℕ → ℕ
counts_sum count more = min (count + more) (2 ^ 64 - 1)

abbrev pub no_case : Count
no_case = record { cases = 0; differ = 0 }

-- with a case more, which agrees or differs
abbrev pub with_case : Count → (agrees : Bool) → Count
with_case count true = record { cases = counts_sum count.cases 1; differ = count.differ }
with_case count false = record { cases = counts_sum count.cases 1; differ = counts_sum count.differ 1 }

-- with the cases of another count
abbrev pub with_cases : Count → Count → Count
with_cases count other = record { cases = counts_sum count.cases other.cases; differ = counts_sum count.differ other.differ }

-- whether there are cases, and none differs
abbrev pub all_agree : Count → Bool
all_agree count = not (count.cases == 0) && (count.differ == 0)
