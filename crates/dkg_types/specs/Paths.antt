-- The dealers' logs that a path of blocks carries. Which of them pass is a ceremony's `check_log_of`.
use Rattle.std.specs.Prelude.{ℕ, Bool, ◌&&◌, nat_le, nat_lt, is_some, List, map, filter_map, Option, option_and_then, option_map}
use Rattle.std.specs.List.{filter}
use Rattle.dkg_values.specs.Rising.{map_of, index_of}
use Rattle.dkg_ceremony.specs.declared.round.RoundParts.{RoundParts as Round}
use Rattle.dkg_ceremony.specs.declared.signed_log.SignedDealerLog.{SignedDealerLog}
use Rattle.dkg_ceremony.specs.Outcomes.{LogMap}
use Rattle.dkg_types.specs.Blocks.{Block}
use Rattle.dkg_types.specs.PayloadCodes.{its_log}

-- Whether a log at a height counts in a round: its height is from the epoch's midpoint on and below the epoch's last, its dealer is one
-- of the round's, and the check of logs accepts it.
abbrev pub log_counts : (check_log_of : Round → SignedDealerLog → Bool) → (midpoint last : ℕ) → Round → ℕ × SignedDealerLog → Bool
log_counts check_log_of midpoint last round p = nat_le midpoint p.0 && nat_lt p.0 last && is_some (index_of p.1.dealer round.dealers) && check_log_of round p.1

-- of each dealer the first log that counts, of some at their heights
unfoldable pub logs_from : (check_log_of : Round → SignedDealerLog → Bool) → (midpoint last : ℕ) → Round → List (ℕ × SignedDealerLog) → LogMap
logs_from check_log_of midpoint last round placed = map_of (map (λ p. (p.1.dealer, p.1.log)) (filter (log_counts check_log_of midpoint last round) placed))

-- the log that a block carries, at the block's height
abbrev pub log_of_block : {Dir : Type 0} → Block Dir → Option (ℕ × SignedDealerLog)
log_of_block b = option_map (λ s. (b.height, s)) (option_and_then its_log b.payload)

-- Of each dealer of an epoch's round the first log that counts, of blocks whose heights rise.
abbrev pub logs_of_path : {Dir : Type 0} → (check_log_of : Round → SignedDealerLog → Bool) → (midpoint last : ℕ) → Round → List (Block Dir) → LogMap
logs_of_path check_log_of midpoint last round path = logs_from check_log_of midpoint last round (filter_map log_of_block path)
