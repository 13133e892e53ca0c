-- Before an epoch's last block what is recorded of it, and reached by the tip, are the chain's logs.
use Rattle.std.proofs.Common.{◌≡◌, ◌<◌, ◌≤◌, ◌+◌, ◌^◌, ℕ, zero, suc, Bool, true, false, List, [], ◌∷◌, ◌++◌, Option, Some, None, arith, refl, sym, ◌∙◌, ap, map, filter_map}
use Rattle.std.specs.Prelude.{◌-◌, filter, option_map, option_to_list, if◌then◌else◌}
use Rattle.dkg_values.specs.Rising.{Rises, keys_of, map_of}
use Rattle.dkg_values.specs.RisingLaws.{map_of-lookup, map_of-rises, rises_from, rises_less, same_lookups}
use Rattle.dkg_ceremony.specs.Outcomes.{LogMap}
use Rattle.dkg_ceremony.specs.Schedule.{last, midpoint}
use Rattle.dkg_ceremony.specs.ValidLogs.{check_log_of}
use Rattle.dkg_ceremony.specs.declared.dealer_log.DealerLog.{DealerLog}
use Rattle.dkg_ceremony.specs.declared.round.RoundParts.{RoundParts as Round}
use Rattle.dkg_ceremony.specs.declared.signed_log.SignedDealerLog.{SignedDealerLog}
use Rattle.dkg_store.specs.Recorded.{at_epoch, bare_logs, is_reached, reached_logs}
use Rattle.dkg_store.specs.declared.recorded_log.RecordedLog.{RecordedLog}
use Rattle.dkg_store.proofs.Epochs.{rising}
use Rattle.dkg_types.specs.Paths.{log_counts, logs_from}
use Rattle.dkg_infos.specs.declared.directory.Unit as directory
use Rattle.dkg_script.specs.Blocks.{ScriptBlock, chain}
use Rattle.dkg_script.specs.History.{chain_from, chain_logs}
use Rattle.dkg_script.specs.Setting.{Setting, blocks_per_epoch}
use Rattle.dkg_script.specs.Views.{log_with_height}
use Rattle.dkg_core.specs.Fixed.{Fixed}
use Rattle.dkg_core.specs.Live.{Live, records_of_epoch}
use Rattle.dkg_core.specs.Logs.{canonical}
use Rattle.dkg_core.specs.Sources.{Tip}
use Rattle.dkg_lives.proofs.ChainLogs.{brings_of, counted_at, none_below, recorded_found}
use Rattle.dkg_lives.proofs.FirstLogs.{brought_from}
use Rattle.dkg_promises.proofs.ReadLogs.{IsRecordedTo}

-- what passes a test rises as all do
passing_rises : (test : RecordedLog → Bool) (rs : List (ℕ × RecordedLog)) (least : ℕ) → Rises least (keys_of rs) → Rises least (keys_of (bare_logs (filter (λ p. test p.1) rs)))
passing_rises test [] least rises = tt
passing_rises test (r ∷ rs) least rises = by_test (passing_rises test rs (r.0 + 1) rises.1) (test r.1)
  where
    low : least ≤ r.0 + 1
    low = let its : least ≤ r.0 = rises.0 in omega (arith, its)

    by_test : Rises (r.0 + 1) (keys_of (bare_logs (filter (λ p. test p.1) rs))) → (t : Bool) → Rises least (keys_of (bare_logs (if t then r ∷ filter (λ p. test p.1) rs else filter (λ p. test p.1) rs)))
    by_test rest true = (rises.0, rest)
    by_test rest false = rises_less least (r.0 + 1) (keys_of (bare_logs (filter (λ p. test p.1) rs))) low rest

module _ (s : Setting) (epoch : ℕ) (round : Round) (placed : (height : ℕ) (b : ScriptBlock) → chain s height ≡ Some b → b.height ≡ height) where
  abbrev middle : ℕ
  middle = midpoint (blocks_per_epoch s) epoch

  abbrev ends : ℕ
  ends = last (blocks_per_epoch s) epoch

  -- the logs that count of some at their heights, each with its dealer
  abbrev counting : List (ℕ × SignedDealerLog) → LogMap
  counting ps = map (λ p. (p.1.dealer, p.1.log)) (filter (log_counts check_log_of middle ends round) ps)

  chain_brought : (height count : ℕ) → counting (filter_map log_with_height (chain_from s height count)) ≡ brought_from (brings_of s epoch round) height count
  chain_brought height zero = refl
  chain_brought height (suc count) = by_block (chain s height) refl (chain_brought (height + 1) count)
    where
      rest : LogMap
      rest = brought_from (brings_of s epoch round) (height + 1) count

      upper : List ScriptBlock
      upper = chain_from s (height + 1) count

      by_signed : (b : ScriptBlock) (o : Option SignedDealerLog) → b.log ≡ o → b.height ≡ height → counting (filter_map log_with_height upper) ≡ rest
          → counting (filter_map log_with_height (b ∷ upper)) ≡ option_to_list (counted_at s epoch round height o) ++ rest
      by_signed b None is at more = rw is more
      by_signed b (Some signed) is at more = by_test (log_counts check_log_of middle ends round (height, signed)) refl
        where
          by_test : (t : Bool) → log_counts check_log_of middle ends round (height, signed) ≡ t → counting (filter_map log_with_height (b ∷ upper)) ≡ option_to_list (counted_at s epoch round height (Some signed)) ++ rest
          by_test true counted = rw (is, at, counted) (ap (λ (l : LogMap). (signed.dealer, signed.log) ∷ l) more)
          by_test false counted = rw (is, at, counted) more

      by_block : (o : Option ScriptBlock) → chain s height ≡ o → counting (filter_map log_with_height upper) ≡ rest
          → counting (filter_map log_with_height (chain_from s height (suc count))) ≡ brought_from (brings_of s epoch round) height (suc count)
      by_block None is more = rw is more
      by_block (Some b) is more = rw is (by_signed b b.log refl (placed height b is) more)

  chain_map : chain_logs s round epoch ≡ map_of (brought_from (brings_of s epoch round) middle (ends - middle))
  unfolding logs_from
  chain_map = ap map_of (chain_brought middle (ends - middle))

  -- THE LOGS THAT COUNT of a life whose tip is the last block's parent
  module _ (c : Fixed directory.Unit) (x : Live directory.Unit) (recorded : IsRecordedTo s epoch round x) (t : Tip) (tip : x.tip ≡ Some t) (upto : t.height + 1 ≡ ends) (low : middle ≤ ends)
      (keys : (height dealer : ℕ) (log : DealerLog) → brings_of s epoch round height ≡ Some (dealer, log) → dealer < 2 ^ 32) where
    reached : reached_logs middle (Some t.height) (at_epoch epoch recorded.m) ≡ chain_logs s round epoch
    reached =
        same_lookups 0 0 (reached_logs middle (Some t.height) (at_epoch epoch recorded.m)) (map_of (brought_from (brings_of s epoch round) middle (ends - middle)))
        (passing_rises (is_reached middle (Some t.height)) (at_epoch epoch recorded.m) 0 (rises_from (keys_of (at_epoch epoch recorded.m)) (rising epoch recorded.m)))
        (map_of-rises (brought_from (brings_of s epoch round) middle (ends - middle)))
        (λ k. recorded_found s epoch round recorded.m t.height (recorded.first t tip) keys middle (ends - middle) (none_below s epoch round) (sum middle ends (t.height + 1) low upto) k
        ∙ sym (map_of-lookup k (brought_from (brings_of s epoch round) middle (ends - middle))))
        ∙ sym chain_map
      where
        sum : (a b d : ℕ) → a ≤ b → d ≡ b → a + (b - a) ≡ d
        sum a b d under same = omega (arith, under, same)

    pub canonical_chain : c.blocks_per_epoch ≡ blocks_per_epoch s → x.participation.epoch ≡ epoch → canonical c x ≡ chain_logs s round epoch
    canonical_chain blocks_are epoch_is =
        ap (λ (n : ℕ). reached_logs (midpoint n x.participation.epoch) (option_map (λ t. t.height) x.tip) (records_of_epoch x.participation.epoch x.records.logs)) blocks_are
        ∙ ap (λ (e : ℕ). reached_logs (midpoint (blocks_per_epoch s) e) (option_map (λ t. t.height) x.tip) (records_of_epoch e x.records.logs)) epoch_is
        ∙ ap (λ (o : Option Tip). reached_logs middle (option_map (λ t. t.height) o) (records_of_epoch epoch x.records.logs)) tip
        ∙ ap (λ (rs : List ((ℕ × ℕ) × RecordedLog)). reached_logs middle (Some t.height) (records_of_epoch epoch rs)) recorded.memory
        ∙ reached
