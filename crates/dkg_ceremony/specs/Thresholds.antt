-- How many of some participants may fail, and how many are enough.
use Rattle.std.specs.Prelude.{ℕ, ◌-◌, ◌/◌}

abbrev pub max_faults_of : ℕ → ℕ
max_faults_of n = (n - 1) / 3

abbrev pub quorum_of : ℕ → ℕ
quorum_of n = n - max_faults_of n
