-- The logs that a scan has found.
use Rattle.std.specs.Prelude.{ℕ, Option}
use Rattle.std.specs.Option.{option_map_or}
use Rattle.dkg_values.specs.Rising.{with_pair}
use Rattle.dkg_ceremony.specs.declared.dealer_log.DealerLog.{DealerLog}
use Rattle.dkg_ceremony.specs.Outcomes.{LogMap}

-- A log takes the place of a higher one of its dealer.
abbrev pub with_log : Option (ℕ × DealerLog) → LogMap → LogMap
with_log log found = option_map_or (λ p. with_pair p found) log found
