-- The logs that are recorded of an epoch and reached by a tip, filled in by those that are found above it, are the logs of the path: the chain's blocks up to the tip, and those above.
use Rattle.std.proofs.Common.{◌≡◌, ◌<◌, ◌≤◌, ◌+◌, ◌^◌, ◌==◌, ◌&&◌, ◌⊎◌, inl, inr, ℕ, zero, suc, Bool, true, false, nat_le, List, [], ◌∷◌, ◌++◌, Option, Some, None, arith, refl, sym, ◌∙◌, ap, length, map}
use Rattle.std.specs.Prelude.{filter, nat_lt, is_some, option_and_then, option_to_list, if◌then◌else◌}
use Rattle.std.specs.FinMap.{entries, get}
use Rattle.std.proofs.lemmas.Bool.Decides.{nat_tests}
use Rattle.std.proofs.lemmas.Bool.{cases_lt}
use Rattle.dkg_values.specs.Rising.{Rises, keys_of, lookup, index_of}
use Rattle.dkg_values.specs.RisingLaws.{rises_from}
use Rattle.dkg_ceremony.specs.Outcomes.{LogMap}
use Rattle.dkg_ceremony.specs.Schedule.{last, midpoint}
use Rattle.dkg_ceremony.specs.ValidLogs.{check_log_of}
use Rattle.dkg_ceremony.specs.declared.dealer_log.DealerLog.{DealerLog}
use Rattle.dkg_ceremony.specs.declared.round.RoundParts.{RoundParts as Round}
use Rattle.dkg_ceremony.specs.declared.signed_log.SignedDealerLog.{SignedDealerLog}
use Rattle.dkg_store.specs.Noted.{Notes}
use Rattle.dkg_store.specs.Recorded.{at_epoch, bare_logs, is_reached, reached_logs}
use Rattle.dkg_store.specs.declared.recorded_log.RecordedLog.{RecordedLog}
use Rattle.dkg_store.proofs.Epochs.{rising}
use Rattle.dkg_store.proofs.Own.{lookup_at}
use Rattle.dkg_types.specs.Blocks as made
use Rattle.dkg_types.specs.Paths.{log_counts, logs_of_path}
use Rattle.dkg_infos.specs.Units.{unit_spelling}
use Rattle.dkg_infos.specs.declared.directory.Unit as directory
use Rattle.dkg_script.specs.Blocks.{ScriptBlock, chain}
use Rattle.dkg_script.specs.Setting.{Setting, blocks_per_epoch}
use Rattle.dkg_script.specs.Views.{seen_block}
use Rattle.dkg_core.specs.Logs.{filled_by}
use Rattle.dkg_lives.proofs.FirstLogs.{AreFirst, NoneBelow, brought_from, reached_in, recorded_brought}
use Rattle.dkg_lives.proofs.PathLogs.{brought, path_filled}

abbrev U : Type 0
U = directory.Unit

none_some : {A : Type 0} {x : A} → ◌≡◌ {A = Option A} None (Some x) → ⊥
none_some e = cc

-- WHAT IS FOUND among recorded logs that are reached

module _ (test : RecordedLog → Bool) where
  abbrev passing : List (ℕ × RecordedLog) → LogMap
  passing rs = bare_logs (filter (λ p. test p.1) rs)

  none_there : (k least : ℕ) (rs : List (ℕ × RecordedLog)) → k < least → Rises least (keys_of rs) → lookup k (passing rs) ≡ None
  none_there k least [] low rises = refl
  none_there k least (r ∷ rs) low rises = by_test (test r.1) (none_there k (r.0 + 1) rs (omega (arith, low, rises.0)) rises.1)
    where
      apart : (x : ℕ) → k < least → least ≤ x → (x == k) ≡ false
      apart x low high = grind (arith, nat_tests)

      by_test : (t : Bool) → lookup k (passing rs) ≡ None → lookup k (bare_logs (if t then r ∷ filter (λ p. test p.1) rs else filter (λ p. test p.1) rs)) ≡ None
      by_test true rest = ap (λ (t : Bool). if t then Some (r.1).log else lookup k (passing rs)) (apart r.0 low rises.0) ∙ rest
      by_test false rest = rest

  -- each key stands once
  passing_found : (k least : ℕ) (rs : List (ℕ × RecordedLog)) → Rises least (keys_of rs) → lookup k (passing rs) ≡ reached_in (λ (n : RecordedLog). n.log) test (lookup k rs)
  passing_found k least [] rises = refl
  passing_found k least (r ∷ rs) rises = by_key (r.0 == k) refl (test r.1) refl (passing_found k (r.0 + 1) rs rises.1)
    where
      same_low : (x : ℕ) → (x == k) ≡ true → k < x + 1
      same_low x e = grind (arith, nat_tests)

      chosen : (t : Bool) → test r.1 ≡ t → lookup k (bare_logs (if test r.1 then r ∷ filter (λ p. test p.1) rs else filter (λ p. test p.1) rs))
          ≡ lookup k (bare_logs (if t then r ∷ filter (λ p. test p.1) rs else filter (λ p. test p.1) rs))
      chosen t is = ap (λ (t : Bool). lookup k (bare_logs (if t then r ∷ filter (λ p. test p.1) rs else filter (λ p. test p.1) rs))) is

      found : (same : Bool) → (r.0 == k) ≡ same → reached_in (λ (n : RecordedLog). n.log) test (if r.0 == k then Some r.1 else lookup k rs) ≡ reached_in (λ (n : RecordedLog). n.log) test (if same then Some r.1 else lookup k rs)
      found same is = ap (λ (t : Bool). reached_in (λ (n : RecordedLog). n.log) test (if t then Some r.1 else lookup k rs)) is

      by_key : (same : Bool) → (r.0 == k) ≡ same → (t : Bool) → test r.1 ≡ t → lookup k (passing rs) ≡ reached_in (λ (n : RecordedLog). n.log) test (lookup k rs)
          → lookup k (bare_logs (if test r.1 then r ∷ filter (λ p. test p.1) rs else filter (λ p. test p.1) rs)) ≡ reached_in (λ (n : RecordedLog). n.log) test (if r.0 == k then Some r.1 else lookup k rs)
      by_key true is true passes rest = chosen true passes ∙ ap (λ (t : Bool). if t then Some (r.1).log else lookup k (passing rs)) is ∙ sym (found true is ∙ ap (λ (t : Bool). if t then Some (r.1).log else None) passes)
      by_key true is false fails rest = chosen false fails ∙ none_there k (r.0 + 1) rs (same_low r.0 is) rises.1 ∙ sym (found true is ∙ ap (λ (t : Bool). if t then Some (r.1).log else None) fails)
      by_key false is true passes rest = chosen true passes ∙ ap (λ (t : Bool). if t then Some (r.1).log else lookup k (passing rs)) is ∙ rest ∙ sym (found false is)
      by_key false is false fails rest = chosen false fails ∙ rest ∙ sym (found false is)

-- no key beyond 32 bits
none_beyond : (k epoch : ℕ) (es : List ((ℕ × ℕ) × RecordedLog)) → 2 ^ 32 ≤ k → lookup k (map (λ p. (p.0.1, p.1)) (filter (λ p. (p.0.0 == epoch) && nat_lt p.0.1 (2 ^ 32)) es)) ≡ None
none_beyond k epoch [] large = refl
none_beyond k epoch (e ∷ es) large = by_test ((e.0.0 == epoch) && nat_lt e.0.1 (2 ^ 32)) refl (none_beyond k epoch es large)
  where
    apart : (x : ℕ) (t : Bool) → (t && nat_lt x (2 ^ 32)) ≡ true → (x == k) ≡ false
    apart x t e = grind (arith, nat_tests)

    by_test : (t : Bool) → ((e.0.0 == epoch) && nat_lt e.0.1 (2 ^ 32)) ≡ t → lookup k (map (λ p. (p.0.1, p.1)) (filter (λ p. (p.0.0 == epoch) && nat_lt p.0.1 (2 ^ 32)) es)) ≡ None
        → lookup k (map (λ p. (p.0.1, p.1)) (if t then e ∷ filter (λ p. (p.0.0 == epoch) && nat_lt p.0.1 (2 ^ 32)) es else filter (λ p. (p.0.0 == epoch) && nat_lt p.0.1 (2 ^ 32)) es)) ≡ None
    by_test true is rest = ap (λ (t : Bool). if t then Some e.1 else lookup k (map (λ p. (p.0.1, p.1)) (filter (λ p. (p.0.0 == epoch) && nat_lt p.0.1 (2 ^ 32)) es))) (apart e.0.1 (e.0.0 == epoch) is) ∙ rest
    by_test false is rest = rest

none_brought : (brings : ℕ → Option (ℕ × DealerLog)) → ((height dealer : ℕ) (log : DealerLog) → brings height ≡ Some (dealer, log) → dealer < 2 ^ 32) → (k : ℕ) → 2 ^ 32 ≤ k → (low count : ℕ) → lookup k (brought_from brings low count) ≡ None
none_brought brings keys k large low zero = refl
none_brought brings keys k large low (suc count) = by_item (brings low) refl (none_brought brings keys k large (low + 1) count)
  where
    apart : (x : ℕ) → x < 2 ^ 32 → (x == k) ≡ false
    apart x small = grind (arith, nat_tests)

    by_item : (o : Option (ℕ × DealerLog)) → brings low ≡ o → lookup k (brought_from brings (low + 1) count) ≡ None → lookup k (option_to_list o ++ brought_from brings (low + 1) count) ≡ None
    by_item None is rest = rest
    by_item (Some p) is rest = ap (λ (t : Bool). if t then Some p.1 else lookup k (brought_from brings (low + 1) count)) (apart p.0 (keys low p.0 p.1 is)) ∙ rest

-- THE CHAIN

module _ (s : Setting) (epoch : ℕ) (round : Round) where
  abbrev middle : ℕ
  middle = midpoint (blocks_per_epoch s) epoch

  abbrev ends : ℕ
  ends = last (blocks_per_epoch s) epoch

  -- the log that a block at a height brings, if it counts in the round
  abbrev pub counted_at : (height : ℕ) → Option SignedDealerLog → Option (ℕ × DealerLog)
  counted_at height None = None
  counted_at height (Some signed) = if log_counts check_log_of middle ends round (height, signed) then Some (signed.dealer, signed.log) else None

  abbrev pub brings_of : (height : ℕ) → Option (ℕ × DealerLog)
  brings_of height = option_and_then (λ b. counted_at height b.log) (chain s height)

  -- these are the chain's blocks from this height on
  abbrev pub AreChainFrom : (height : ℕ) → List (made.Block U) → Type 0
  AreChainFrom height [] = Unit {0}
  AreChainFrom height (b ∷ bs) = (b.height ≡ height) × (chain s height ≡ Some (seen_block unit_spelling b)) × AreChainFrom (height + 1) bs

  -- .. which bring what the chain brings there
  brought_chain : (height : ℕ) (bs : List (made.Block U)) → AreChainFrom height bs → brought check_log_of middle ends round bs ≡ brought_from brings_of height (length bs)
  brought_chain height [] are = refl
  brought_chain height (b ∷ bs) are = by_log (seen_block unit_spelling b).log refl (brought_chain (height + 1) bs are.2)
    where
      here : brings_of height ≡ counted_at height (seen_block unit_spelling b).log
      here = ap (option_and_then (λ (x : ScriptBlock). counted_at height x.log)) are.1

      by_log : (o : Option SignedDealerLog) → (seen_block unit_spelling b).log ≡ o → brought check_log_of middle ends round bs ≡ brought_from brings_of (height + 1) (length bs)
          → brought check_log_of middle ends round (b ∷ bs) ≡ option_to_list (brings_of height) ++ brought_from brings_of (height + 1) (length bs)
      by_log None is rest = rw (here, is) rest
      by_log (Some signed) is rest = by_test (log_counts check_log_of middle ends round (height, signed)) refl
        where
          by_test : (t : Bool) → log_counts check_log_of middle ends round (height, signed) ≡ t → brought check_log_of middle ends round (b ∷ bs) ≡ option_to_list (brings_of height) ++ brought_from brings_of (height + 1) (length bs)
          by_test true counted = rw (here, is, are.0, counted) (ap (λ (l : LogMap). (signed.dealer, signed.log) ∷ l) rest)
          by_test false counted = rw (here, is, are.0, counted) rest

  -- nothing counts below the midpoint
  pub none_below : NoneBelow brings_of middle
  none_below at p low is = by_block (chain s at) is
    where
      under : (x : ℕ) → x < middle → nat_le middle x ≡ false
      under x low = grind (arith, nat_tests)

      by_signed : (o : Option SignedDealerLog) → counted_at at o ≡ Some p → ⊥
      by_signed None is = none_some is
      by_signed (Some signed) is =
          none_some (sym (ap (λ (t : Bool). if t && nat_lt at ends && is_some (index_of signed.dealer round.dealers) && check_log_of round signed then Some (signed.dealer, signed.log) else None) (under at low)) ∙ is)

      by_block : (o : Option ScriptBlock) → option_and_then (λ b. counted_at at b.log) o ≡ Some p → ⊥
      by_block None is = none_some is
      by_block (Some b) is = by_signed b.log is

  -- THE LOGS OF A PATH. What is recorded are first logs, all of them up to the tip; dealers are keys of 32 bits.
  module _ (m : Notes RecordedLog) (tip : ℕ) (are : AreFirst brings_of (λ (n : RecordedLog). n.log) (λ d. get m (epoch, d)) tip (is_reached middle (Some tip)))
      (keys : (height dealer : ℕ) (log : DealerLog) → brings_of height ≡ Some (dealer, log) → dealer < 2 ^ 32) where
    pub recorded_found : (low count : ℕ) → NoneBelow brings_of low → low + count ≡ tip + 1 → (k : ℕ) → lookup k (reached_logs middle (Some tip) (at_epoch epoch m)) ≡ lookup k (brought_from brings_of low count)
    recorded_found low count none upto k = passing_found (is_reached middle (Some tip)) k 0 (at_epoch epoch m) (rises_from (keys_of (at_epoch epoch m)) (rising epoch m)) ∙ by_size (cases_lt k (2 ^ 32))
      where
        by_size : (k < 2 ^ 32) ⊎ (2 ^ 32 ≤ k) → reached_in (λ (n : RecordedLog). n.log) (is_reached middle (Some tip)) (lookup k (at_epoch epoch m)) ≡ lookup k (brought_from brings_of low count)
        by_size (inl small) =
            ap (reached_in (λ (n : RecordedLog). n.log) (is_reached middle (Some tip))) (lookup_at epoch k m small) ∙ recorded_brought brings_of (λ (n : RecordedLog). n.log) (λ d. get m (epoch, d)) tip (is_reached middle (Some tip)) are low count none upto k
        by_size (inr large) = ap (reached_in (λ (n : RecordedLog). n.log) (is_reached middle (Some tip))) (none_beyond k epoch (entries m) large) ∙ sym (none_brought brings_of keys k large low count)

    pub recorded_path : (lower upper : List (made.Block U)) (low : ℕ) → AreChainFrom low lower → low + length lower ≡ tip + 1 → NoneBelow brings_of low
        → filled_by (reached_logs middle (Some tip) (at_epoch epoch m)) (logs_of_path check_log_of middle ends round upper) ≡ logs_of_path check_log_of middle ends round (lower ++ upper)
    recorded_path lower upper low chained upto none =
        path_filled check_log_of middle ends round (reached_logs middle (Some tip) (at_epoch epoch m)) lower upper
        (λ k. recorded_found low (length lower) none upto k ∙ ap (lookup k) (sym (brought_chain low lower chained)))
