-- The logs that a request was answered by, where what was recorded is what the chain brings up to the tip: those of a path, the chain's blocks from the midpoint on and above them what the request was fed.
use Rattle.std.proofs.Common.{◌≡◌, ◌⊎◌, inl, inr, ℕ, zero, suc, ◌+◌, ◌-◌, ◌<◌, ◌≤◌, ◌^◌, ◌==◌, ◌&&◌, Bool, true, false, nat_le, List, [], ◌∷◌, ◌++◌, Option, Some, None, arith, refl, sym, ◌∙◌, ap, subst, length, map, filter_map, add-one, append_assoc, length-append}
use Rattle.std.specs.Prelude.{filter, is_some, nat_lt, option_and_then, option_map, reverse, slice_get, IfSome, IsSomeAnd, if◌then◌else◌}
use Rattle.std.specs.FinMap.{get}
use Rattle.std.specs.List.{AllByRecursion, cons_option}
use Rattle.std.proofs.lemmas.Bool.Decides.{nat_tests}
use Rattle.std.proofs.lemmas.Bool.{cases_lt}
use Rattle.std.proofs.lemmas.List.{reverse-append}
use Rattle.dkg_values.specs.Rising.{map_of, index_of}
use Rattle.dkg_ceremony.specs.Outcomes.{LogMap}
use Rattle.dkg_ceremony.specs.Schedule.{last, midpoint}
use Rattle.dkg_ceremony.specs.ValidLogs.{check_log_of}
use Rattle.dkg_ceremony.specs.declared.dealer_log.DealerLog.{DealerLog}
use Rattle.dkg_ceremony.specs.declared.round.RoundParts.{RoundParts as Round}
use Rattle.dkg_ceremony.specs.declared.signed_log.SignedDealerLog.{SignedDealerLog}
use Rattle.dkg_store.specs.Noted.{Notes}
use Rattle.dkg_store.specs.Recorded.{at_epoch, bare_logs, is_reached, reached_logs}
use Rattle.dkg_store.specs.declared.recorded_log.RecordedLog.{RecordedLog}
use Rattle.dkg_types.specs.Blocks as made
use Rattle.dkg_types.specs.Paths.{log_counts, log_of_block, logs_from, logs_of_path}
use Rattle.dkg_types.specs.PayloadCodes.{its_log}
use Rattle.dkg_infos.specs.declared.directory.Unit as directory
use Rattle.dkg_artifact.specs.Ancestries.{BeginsBelow, CompletesPath, IsLinked}
use Rattle.dkg_artifact.specs.Scans.{above, is_above_tip}
use Rattle.dkg_artifact.specs.declared.scan.Tip as scan
use Rattle.dkg_text.specs.declared.script.Life.{Life}
use Rattle.dkg_script.specs.Blocks.{ScriptBlock, chain, chain_below}
use Rattle.dkg_script.specs.Consistent.{IsConsistentScript}
use Rattle.dkg_script.specs.History.{IsOneDigest}
use Rattle.dkg_script.specs.Inclusion.{IsFormOfInclusion}
use Rattle.dkg_script.specs.Setting.{CutAt, Setting, blocks_per_epoch}
use Rattle.dkg_core.specs.Logs.{filled_by}
use Rattle.dkg_core.specs.Sources.{Tip}
use Rattle.dkg_promises.specs.Answers.{IsOfChain}
use Rattle.dkg_lives.specs.Asks.{WereAsked, bounds_in, fed_in}
use Rattle.dkg_lives.specs.Blamed.{per_epoch, tip_in}
use Rattle.dkg_lives.specs.Given.{AreBytes, blocks_in, numbered}
use Rattle.dkg_along.proofs.ChainBlocks.{HasBlockAt}
use Rattle.dkg_lives.proofs.ChainLogs.{AreChainFrom, brings_of, none_below, recorded_path}
use Rattle.dkg_along.proofs.Chaining.{IsOnChain}
use Rattle.dkg_lives.proofs.FirstLogs.{AreFirst, NoneBelow}
use Rattle.dkg_promises.proofs.OfferedHalves.{all_of}
use Rattle.dkg_promises.proofs.ReadLogs.{IsByPath}
use Rattle.dkg_along.proofs.SeenBlocks.{seen, seen_at}
use Rattle.dkg_along.proofs.Used.{all_back, all_front, in_chain}

abbrev U : Type 0
U = directory.Unit

some_is : {A : Type 0} {x y : A} → ◌≡◌ {A = Option A} (Some x) (Some y) → x ≡ y
some_is e = cc

bools_apart : (t : Bool) → t ≡ true → t ≡ false → ⊥
bools_apart t one two = let wrong : ◌≡◌ {A = Bool} true false = sym one ∙ two in cc

-- LISTS

item_behind : {A : Type 0} (xs : List A) (x : A) → slice_get (xs ++ x ∷ []) (length xs) ≡ Some x
item_behind [] x = refl
item_behind (y ∷ xs) x = item_behind xs x

last_there : {A : Type 0} (xs : List A) (x : A) → slice_get (xs ++ x ∷ []) (length (xs ++ x ∷ []) - 1) ≡ Some x
last_there xs x = ap (slice_get (xs ++ x ∷ [])) (one_less (length (xs ++ x ∷ [])) (length xs) (length-append xs (x ∷ []))) ∙ item_behind xs x
  where
    one_less : (a b : ℕ) → a ≡ b + 1 → a - 1 ≡ b
    one_less a b same = omega (arith, same)

first_there : {A : Type 0} (xs ys : List A) (x : A) → slice_get xs 0 ≡ Some x → slice_get (xs ++ ys) 0 ≡ Some x
first_there {A} [] ys x is = absurd (let wrong : ◌≡◌ {A = Option A} None (Some x) = is in cc)
first_there (y ∷ xs) ys x is = is

-- the highest block of a path, and those below it
pub record HasTop (end : ℕ) (b : made.Block U) (path : List (made.Block U)) : Type 0 where
  pub front : List (made.Block U)
  pub top : made.Block U
  pub parts : b ∷ path ≡ front ++ top ∷ []
  pub begins : BeginsBelow end (b ∷ path) → (top.height ≡ end) ⊎ (top.height + 1 ≡ end)

top_of : (end : ℕ) (b : made.Block U) (path : List (made.Block U)) → HasTop end b path
top_of end b [] = record { front = []; top = b; parts = refl; begins = λ begins. begins }
top_of end b (c ∷ path) =
    let rest = top_of end c path in record { front = b ∷ rest.front; top = rest.top; parts = ap (λ (xs : List (made.Block U)). b ∷ xs) rest.parts; begins = λ begins. rest.begins begins }

-- BLOCKS THAT DON'T COUNT

module _ (middle end : ℕ) (round : Round) where
  abbrev dealt : ℕ × SignedDealerLog → ℕ × DealerLog
  dealt p = (p.1.dealer, p.1.log)

  abbrev pairs : List (ℕ × SignedDealerLog) → LogMap
  pairs ps = map dealt (filter (log_counts check_log_of middle end round) ps)

  one_more : (o : Option (ℕ × SignedDealerLog)) (xs ys : List (ℕ × SignedDealerLog)) → pairs xs ≡ pairs ys → pairs (cons_option o xs) ≡ pairs (cons_option o ys)
  one_more None xs ys same = same
  one_more (Some p) xs ys same = by_test (log_counts check_log_of middle end round p)
    where
      by_test : (t : Bool) → map dealt (if t then p ∷ filter (log_counts check_log_of middle end round) xs else filter (log_counts check_log_of middle end round) xs)
          ≡ map dealt (if t then p ∷ filter (log_counts check_log_of middle end round) ys else filter (log_counts check_log_of middle end round) ys)
      by_test true = ap (λ (logs : LogMap). (p.1.dealer, p.1.log) ∷ logs) same
      by_test false = same

  none_more : (o : Option (ℕ × SignedDealerLog)) (xs : List (ℕ × SignedDealerLog)) → IfSome o (λ p. log_counts check_log_of middle end round p ≡ false) → pairs (cons_option o xs) ≡ pairs xs
  none_more None xs none = refl
  none_more (Some p) xs none =
      ap (λ (t : Bool). map dealt (if t then p ∷ filter (log_counts check_log_of middle end round) xs else filter (log_counts check_log_of middle end round) xs)) none

  early : (b : made.Block U) → b.height < middle → IfSome (log_of_block b) (λ p. log_counts check_log_of middle end round p ≡ false)
  early b low = by_log (option_and_then its_log b.payload)
    where
      under : (x : ℕ) → x < middle → nat_le middle x ≡ false
      under x low = grind (arith, nat_tests)

      by_log : (o : Option SignedDealerLog) → IfSome (option_map (λ s. (b.height, s)) o) (λ p. log_counts check_log_of middle end round p ≡ false)
      by_log None = tt
      by_log (Some signed) = ap (λ (t : Bool). t && nat_lt b.height end && is_some (index_of signed.dealer round.dealers) && check_log_of round signed) (under b.height low)

  kept_pairs : (keep : made.Block U → Bool) → ((b : made.Block U) → keep b ≡ false → b.height < middle) → (path : List (made.Block U)) → pairs (filter_map log_of_block (filter keep path)) ≡ pairs (filter_map log_of_block path)
  kept_pairs keep low [] = refl
  kept_pairs keep low (b ∷ path) = by_test (keep b) refl (kept_pairs keep low path)
    where
      by_test : (t : Bool) → keep b ≡ t → pairs (filter_map log_of_block (filter keep path)) ≡ pairs (filter_map log_of_block path)
          → pairs (filter_map log_of_block (if t then b ∷ filter keep path else filter keep path)) ≡ pairs (filter_map log_of_block (b ∷ path))
      by_test true is rest = one_more (log_of_block b) (filter_map log_of_block (filter keep path)) (filter_map log_of_block path) rest
      by_test false is rest = rest ∙ sym (none_more (log_of_block b) (filter_map log_of_block path) (early b (low b is)))

  -- Without blocks below the midpoint a path has the same logs.
  path_kept : (keep : made.Block U → Bool) → ((b : made.Block U) → keep b ≡ false → b.height < middle) → (path : List (made.Block U))
      → logs_of_path check_log_of middle end round (filter keep path) ≡ logs_of_path check_log_of middle end round path
  unfolding logs_from
  path_kept keep low path = ap map_of (kept_pairs keep low path)

-- A PATH ABOVE A TIP

above_test : (t h : ℕ) → t < h → nat_lt t h ≡ true
above_test t h low = grind (arith, nat_tests)

-- a linked path whose lowest block is above the tip
all_above : (t : scan.Tip) (b : made.Block U) (path : List (made.Block U)) → IsLinked (b ∷ path) → t.height < b.height → above (Some t) (b ∷ path) ≡ b ∷ path
all_above t b [] linked low = ap (λ (u : Bool). if u then b ∷ [] else []) (above_test t.height b.height low)
all_above t b (c ∷ path) linked low =
    ap (λ (u : Bool). if u then b ∷ above (Some t) (c ∷ path) else above (Some t) (c ∷ path)) (above_test t.height b.height low)
    ∙ ap (λ (xs : List (made.Block U)). b ∷ xs) (all_above t c path linked.2 (higher b.height c.height t.height linked.0 low))
  where
    higher : (x y t : ℕ) → y ≡ x + 1 → t < x → t < y
    higher x y t one two = omega (arith, one, two)

-- .. and one whose lowest block is the tip's
rest_above : (t : scan.Tip) (b : made.Block U) (path : List (made.Block U)) → IsLinked (b ∷ path) → b.height ≡ t.height → above (Some t) (b ∷ path) ≡ path
rest_above t b path linked same = ap (λ (u : Bool). if u then b ∷ above (Some t) path else above (Some t) path) (not_above t.height b.height same) ∙ by_path path linked
  where
    not_above : (t h : ℕ) → h ≡ t → nat_lt t h ≡ false
    not_above t h same = grind (arith, nat_tests)

    higher : (x y t : ℕ) → y ≡ x + 1 → x ≡ t → t < y
    higher x y t one two = omega (arith, one, two)

    by_path : (path : List (made.Block U)) → IsLinked (b ∷ path) → above (Some t) path ≡ path
    by_path [] linked = refl
    by_path (c ∷ path) linked = all_above t c path linked.2 (higher b.height c.height t.height linked.0 same)

-- WHAT IS RECORDED up to the tip of a step, of an epoch and its round: by dealer what the chain brings
pub record IsRecordedBy (s : Setting) (life : Life) (epoch read : ℕ) (round : Round) (recorded : LogMap) : Type 0 where
  pub m : Notes RecordedLog
  pub is : recorded ≡ reached_logs (midpoint (blocks_per_epoch s) epoch) (option_map (λ t. t.height) (tip_in s.script life read)) (at_epoch epoch m)
  pub first : (t : Tip) → tip_in s.script life read ≡ Some t
      → AreFirst (brings_of s epoch round) (λ (n : RecordedLog). n.log) (λ d. get m (epoch, d)) t.height (is_reached (midpoint (blocks_per_epoch s) epoch) (Some t.height))

-- without a tip nothing is reached
none_reached : (rs : List (ℕ × RecordedLog)) → bare_logs (filter (λ p. false) rs) ≡ []
none_reached [] = refl
none_reached (r ∷ rs) = none_reached rs

-- THE CHAIN

module _ (s : Setting) (ends : List (Option CutAt)) (consistent : IsConsistentScript s ends) (form : IsFormOfInclusion s.script) (bytes : AreBytes s.script.blocks) (epoch : ℕ) (round : Round) where
  abbrev middle : ℕ
  middle = midpoint (blocks_per_epoch s) epoch

  abbrev end : ℕ
  end = last (blocks_per_epoch s) epoch

  abbrev IsChain : ℕ → List (made.Block U) → Type 0
  IsChain low bs = AreChainFrom s epoch round low bs

  -- so many of its blocks
  pub record AreListed (low count : ℕ) : Type 0 where
    pub list : List (made.Block U)
    pub are : IsChain low list
    pub long : length list ≡ count

  listed : (low count : ℕ) → ((height : ℕ) → low ≤ height → height < low + count → HasBlockAt s height) → AreListed low count
  listed low zero has = record { list = []; are = tt; long = refl }
  listed low (suc count) has =
      let here : HasBlockAt s low = has low (itself low) (more low count) in
      let rest = listed (low + 1) count (λ height up below. has height (lower low height up) (higher low count height below)) in
      record { list = here.block ∷ rest.list; are = (here.height_is, here.chained, rest.are); long = ap suc rest.long }
    where
      itself : (a : ℕ) → a ≤ a
      itself a = omega arith

      more : (a c : ℕ) → a < a + suc c
      more a c = omega arith

      lower : (a h : ℕ) → a + 1 ≤ h → a ≤ h
      lower a h up = omega (arith, up)

      higher : (a c h : ℕ) → h < a + 1 + c → h < a + suc c
      higher a c h below = omega (arith, below)

  -- each is the chain's
  chain_each : (low : ℕ) (bs : List (made.Block U)) → IsChain low bs → AllByRecursion (λ b. IsOfChain s b.height b) bs
  chain_each low [] are = tt
  chain_each low (b ∷ bs) are = (ap (chain s) are.0 ∙ are.1, chain_each (low + 1) bs are.2)

  chain_more : (low : ℕ) (bs : List (made.Block U)) (b : made.Block U) → IsChain low bs → b.height ≡ low + length bs → chain s b.height ≡ Some (seen b) → IsChain low (bs ++ b ∷ [])
  chain_more low [] b are height there = (height ∙ none low, ap (chain s) (sym (height ∙ none low)) ∙ there, tt)
    where
      none : (a : ℕ) → a + 0 ≡ a
      none a = omega arith
  chain_more low (c ∷ bs) b are height there = (are.0, are.1, chain_more (low + 1) bs b are.2 (height ∙ shift low (length bs)) there)
    where
      shift : (a c : ℕ) → a + suc c ≡ a + 1 + c
      shift a c = omega arith

  -- what a block is linked to
  abbrev IsOnIt : (height : ℕ) (parent : List ℕ) → Type 0
  IsOnIt height parent = IfSome (chain_below s height) (λ below. parent ≡ below.digest)

  on_block : (low height : ℕ) (parent : List ℕ) (b : made.Block U) → height ≡ low + 1 → chain s low ≡ Some (seen b) → IsOnIt height parent → parent ≡ b.digest
  on_block low height parent b next there on =
      subst (λ (o : Option ScriptBlock). IfSome o (λ below. parent ≡ below.digest)) there (subst (λ (h : ℕ). IsOnIt h parent) (next ∙ add-one low) on)

  chain_links : (height : ℕ) (b : made.Block U) → chain s height ≡ Some (seen b) → IsOnIt b.height b.parent
  chain_links height b there = (in_chain s (λ (c : ScriptBlock). IfSome (chain_below s c.height) (λ below. c.parent ≡ below.digest)) height (seen b) consistent.linked there).0

  -- a linked path over the chain's blocks
  linked_over : (low : ℕ) (bs : List (made.Block U)) → IsChain low bs → (b : made.Block U) (path : List (made.Block U)) → IsLinked (b ∷ path) → b.height ≡ low + length bs → IsOnIt b.height b.parent → IsLinked (bs ++ b ∷ path)
  linked_over low [] are b path linked height on = linked
  linked_over low (c ∷ []) are b path linked height on =
      (height ∙ one low ∙ ap (λ (h : ℕ). h + 1) (sym are.0), on_block low b.height b.parent c (height ∙ one low) are.1 on, linked)
    where
      one : (a : ℕ) → a + suc 0 ≡ a + 1
      one a = omega arith
  linked_over low (c ∷ (d ∷ bs)) are b path linked height on = (
    are.2.0 ∙ ap (λ (h : ℕ). h + 1) (sym are.0),
    on_block low d.height d.parent c are.2.0 are.1 (chain_links (low + 1) d are.2.1),
    linked_over (low + 1) (d ∷ bs) are.2 b path linked (height ∙ shift low (length bs)) on,
  )
    where
      shift : (a c : ℕ) → a + suc (suc c) ≡ a + 1 + suc c
      shift a c = omega arith

  -- BLOCKS OF NUMBERS are the script's
  all_numbered : (numbers : List ℕ) → AllByRecursion (λ b. (number : ℕ) × (slice_get (blocks_in s.script) number ≡ Some b)) (numbered (blocks_in s.script) numbers)
  all_numbered [] = tt
  all_numbered (number ∷ numbers) = by_block (slice_get (blocks_in s.script) number) refl (all_numbered numbers)
    where
      by_block : (o : Option (made.Block U)) → slice_get (blocks_in s.script) number ≡ o → AllByRecursion (λ b. (number : ℕ) × (slice_get (blocks_in s.script) number ≡ Some b)) (numbered (blocks_in s.script) numbers)
          → AllByRecursion (λ b. (number : ℕ) × (slice_get (blocks_in s.script) number ≡ Some b)) (cons_option o (numbered (blocks_in s.script) numbers))
      by_block None is rest = rest
      by_block (Some b) is rest = ((number, is), rest)

  -- THE PATH

  module _ (one_digest : IsOneDigest s) (life : Life) (request read : ℕ) (recorded logs : LogMap) (asked : WereAsked s.script life epoch request read round recorded logs) (known : IsRecordedBy s life epoch read round recorded)
      (ends_at : (bounds_in s.script epoch).last ≡ end) (begins_at : (bounds_in s.script epoch).midpoint ≡ middle)
      (chained : IfSome (tip_in s.script life read) (IsOnChain s)) (has : (t : Tip) → tip_in s.script life read ≡ Some t → (height : ℕ) → middle ≤ height → height ≤ t.height → HasBlockAt s height)
      (keys : (height dealer : ℕ) (log : DealerLog) → brings_of s epoch round height ≡ Some (dealer, log) → dealer < 2 ^ 32) where
    abbrev path : List (made.Block U)
    path = (asked.read).path

    abbrev lowest : made.Block U
    lowest = (asked.read).lowest

    abbrev scanned : Option Tip → Option scan.Tip
    scanned tip = option_map (λ t. record { height = t.height; digest = t.digest }) tip

    linked : IsLinked (lowest ∷ path)
    linked = (asked.read).completes.linked

    -- the lowest block is one of the script's
    lowest_there : (number : ℕ) × (slice_get (blocks_in s.script) number ≡ Some lowest)
    lowest_there =
        (all_back Numbered (reverse path) (lowest ∷ [])
        (subst (AllByRecursion Numbered) (reverse-append (lowest ∷ []) path)
        (all_front Numbered (reverse (lowest ∷ path)) (asked.read).rest (subst (AllByRecursion Numbered) (asked.read).fed (all_numbered _))))).0
      where
        Numbered : made.Block U → Type 0
        Numbered b = (number : ℕ) × (slice_get (blocks_in s.script) number ≡ Some b)

    -- found above this tip
    found_is : (o : Option Tip) → tip_in s.script life read ≡ o → asked.found ≡ logs_of_path check_log_of middle end round (above (scanned o) (lowest ∷ path))
    found_is o is = (asked.read).logs ∙ ap (λ (o : Option Tip). logs_of_path check_log_of middle end round (above (scanned o) (lowest ∷ path))) is

    completes_at : (o : Option Tip) → tip_in s.script life read ≡ o → CompletesPath (bounds_in s.script epoch) (scanned o) path lowest
    completes_at o is = subst (λ (o : Option Tip). CompletesPath (bounds_in s.script epoch) (scanned o) path lowest) is (asked.read).completes

    recorded_is : (o : Option Tip) → tip_in s.script life read ≡ o → recorded ≡ reached_logs middle (option_map (λ t. t.height) o) (at_epoch epoch known.m)
    recorded_is o is = known.is ∙ ap (λ (o : Option Tip). reached_logs middle (option_map (λ t. t.height) o) (at_epoch epoch known.m)) is

    -- a path whose lower part is of the chain
    of_parts : (lower : List (made.Block U)) (low : ℕ) → IsChain low lower → IsLinked (lower ++ lowest ∷ path) → IsSomeAnd (slice_get (lower ++ lowest ∷ path) 0) (λ b. b.height ≤ middle)
        → logs ≡ logs_of_path check_log_of middle end round (lower ++ lowest ∷ path) → IsByPath s life epoch request read round logs
    of_parts lower low are whole bottom made_of = record {
      path = lower ++ lowest ∷ path;
      path_is = record {
        lower = lower;
        upper = lowest ∷ path;
        rest = (asked.read).rest;
        parts = refl;
        fed_first = (asked.read).fed;
        below = λ b among. all_of (λ (b : made.Block U). IsOfChain s b.height b) lower b (chain_each low lower are) among;
        linked = whole;
        bottom = bottom;
        top = subst (λ (o : Option (made.Block U)). IsSomeAnd o Top) (sym first_fed) (last_one, subst (λ (e : ℕ). (top.height ≡ e) ⊎ (top.height + 1 ≡ e)) ends_at (its.begins (asked.read).completes.begins));
      };
      logs_are = made_of;
    }
      where
        its : HasTop (bounds_in s.script epoch).last lowest path
        its = top_of (bounds_in s.script epoch).last lowest path

        top : made.Block U
        top = its.top

        Top : made.Block U → Type 0
        Top b = (slice_get (lower ++ lowest ∷ path) (length (lower ++ lowest ∷ path) - 1) ≡ Some b) × ((b.height ≡ end) ⊎ (b.height + 1 ≡ end))

        first_fed : slice_get (fed_in s.script life request read) 0 ≡ Some top
        first_fed = ap (λ (bs : List (made.Block U)). slice_get bs 0) ((asked.read).fed ∙ ap (λ (bs : List (made.Block U)). reverse bs ++ (asked.read).rest) its.parts)
            ∙ ap (λ (bs : List (made.Block U)). slice_get (bs ++ (asked.read).rest) 0) (reverse-append its.front (top ∷ []))

        last_one : slice_get (lower ++ lowest ∷ path) (length (lower ++ lowest ∷ path) - 1) ≡ Some top
        last_one = subst (λ (bs : List (made.Block U)). slice_get bs (length bs - 1) ≡ Some top) (append_assoc lower its.front (top ∷ []) ∙ ap (λ (bs : List (made.Block U)). lower ++ bs) (sym its.parts)) (last_there (lower ++ its.front) top)

    -- nothing is recorded up to the tip
    no_lower : lowest.height ≤ middle → logs ≡ logs_of_path check_log_of middle end round (lowest ∷ path) → IsByPath s life epoch request read round logs
    no_lower low made_of = of_parts [] 0 tt linked low made_of

    -- the chain goes on from the midpoint up to the lowest block that was read
    over_chain : (count : ℕ) → middle + count ≡ lowest.height → ((height : ℕ) → middle ≤ height → height < middle + count → HasBlockAt s height) → IsOnIt lowest.height lowest.parent
        → ((lower : List (made.Block U)) → IsChain middle lower → length lower ≡ count → logs ≡ logs_of_path check_log_of middle end round (lower ++ lowest ∷ path)) → IsByPath s life epoch request read round logs
    over_chain count upto blocks on made_of =
        let all = listed middle count blocks in
        of_parts all.list middle all.are (linked_over middle all.list all.are lowest path linked (sym upto ∙ ap (λ (c : ℕ). middle + c) (sym all.long)) on) (at_bottom count upto all.list all.are all.long) (made_of all.list all.are all.long)
      where
        low_one : (m h c : ℕ) → m + c ≡ h → 0 ≡ c → h ≤ m
        low_one m h c upto none = omega (arith, upto, none)

        itself : (h m : ℕ) → h ≡ m → h ≤ m
        itself h m same = omega (arith, same)

        at_bottom : (count : ℕ) → middle + count ≡ lowest.height → (lower : List (made.Block U)) → IsChain middle lower → length lower ≡ count → IsSomeAnd (slice_get (lower ++ lowest ∷ path) 0) (λ b. b.height ≤ middle)
        at_bottom count upto [] are long = low_one middle lowest.height count upto long
        at_bottom count upto (b ∷ bs) are long = itself b.height middle are.0

    module _ (t : Tip) (is : tip_in s.script life read ≡ Some t) where
      abbrev its_tip : scan.Tip
      its_tip = record { height = t.height; digest = t.digest }

      on_tip : IsOnChain s t
      on_tip = subst (λ (o : Option Tip). IfSome o (IsOnChain s)) is chained

      -- what is recorded makes the logs of a path
      filled : (lower upper : List (made.Block U)) (low : ℕ) → IsChain low lower → low + length lower ≡ t.height + 1 → NoneBelow (brings_of s epoch round) low → asked.found ≡ logs_of_path check_log_of middle end round upper
          → logs ≡ logs_of_path check_log_of middle end round (lower ++ upper)
      filled lower upper low are upto none found =
          asked.filled ∙ ap (λ (l : LogMap). filled_by l asked.found) (recorded_is (Some t) is) ∙ ap (filled_by (reached_logs middle (Some t.height) (at_epoch epoch known.m))) found
          ∙ recorded_path s epoch round known.m t.height (known.first t is) keys lower upper low are upto none

      -- the tip lies below the midpoint
      early_tip : t.height < middle → IsByPath s life epoch request read round logs
      early_tip low =
          no_lower bound
          (filled [] (lowest ∷ path) (t.height + 1) tt (none (t.height + 1)) (λ at p under. none_below s epoch round at p (up at under))
          (found_is (Some t) is ∙ path_kept middle end round (is_above_tip (Some its_tip)) dropped (lowest ∷ path)))
        where
          none : (a : ℕ) → a + 0 ≡ a
          none a = omega arith

          less : (a b m : ℕ) → a < b + 1 → b < m → a < m
          less a b m one two = omega (arith, one, two)

          up : (at : ℕ) → at < t.height + 1 → at < middle
          up at under = less at t.height middle under low

          tested : nat_lt t.height middle ≡ true
          tested = above_test t.height middle low

          bound : lowest.height ≤ middle
          bound = subst (λ (m : ℕ). lowest.height ≤ m) (ap (λ (m : ℕ). if nat_lt t.height m then m else t.height + 1) begins_at ∙ ap (λ (u : Bool). if u then middle else t.height + 1) tested) (completes_at (Some t) is).low

          dropped : (b : made.Block U) → nat_lt t.height b.height ≡ false → b.height < middle
          dropped b test = up b.height (at_most t.height b.height test)
            where
              at_most : (x y : ℕ) → nat_lt x y ≡ false → y < x + 1
              at_most x y test = grind (arith, nat_tests)

      -- it lies there or above
      module _ (late : middle ≤ t.height) where
        tested : nat_lt t.height middle ≡ false
        tested = not_less t.height middle late
          where
            not_less : (x y : ℕ) → y ≤ x → nat_lt x y ≡ false
            not_less x y le = grind (arith, nat_tests)

        lowest_is : (if nat_lt t.height (bounds_in s.script epoch).midpoint then (bounds_in s.script epoch).midpoint else t.height + 1) ≡ t.height + 1
        lowest_is = ap (λ (m : ℕ). if nat_lt t.height m then m else t.height + 1) begins_at ∙ ap (λ (u : Bool). if u then middle else t.height + 1) tested

        bound : lowest.height ≤ t.height + 1
        bound = subst (λ (m : ℕ). lowest.height ≤ m) lowest_is (completes_at (Some t) is).low

        -- the tip's digest is that of the lowest link
        link : t.digest ≡ (if nat_lt lowest.height (t.height + 1) then lowest.digest else lowest.parent)
        link =
            subst (λ (u : Bool). IfSome (if u then Some t.digest else None) (λ digest. digest ≡ (if nat_lt lowest.height (t.height + 1) then lowest.digest else lowest.parent))) (same_one (t.height + 1))
            (subst (λ (m : ℕ). IfSome (if t.height + 1 == m then Some t.digest else None) (λ digest. digest ≡ (if nat_lt lowest.height m then lowest.digest else lowest.parent))) lowest_is (completes_at (Some t) is).on_tip)
          where
            same_one : (a : ℕ) → (a == a) ≡ true
            same_one a = grind (arith, nat_tests)

        -- the lowest block that was read is the tip's successor
        over_tip : nat_lt lowest.height (t.height + 1) ≡ false → IsByPath s life epoch request read round logs
        over_tip test =
            over_chain (t.height + 1 - middle) (upto middle t.height lowest.height late next) (λ height up below. has t is height up (under middle t.height height late below)) on
            (λ lower are long. filled lower (lowest ∷ path) middle are (ap (λ (c : ℕ). middle + c) long ∙ whole middle t.height late) (none_below s epoch round)
            (found_is (Some t) is ∙ ap (logs_of_path check_log_of middle end round) (all_above its_tip lowest path linked (more t.height lowest.height next))))
          where
            exactly : (x y : ℕ) → x ≤ y → nat_lt x y ≡ false → x ≡ y
            exactly x y le test = let ge : y ≤ x = not_less x y test in omega (arith, le, ge)
              where
                not_less : (x y : ℕ) → nat_lt x y ≡ false → y ≤ x
                not_less x y test = grind (arith, nat_tests)

            next : lowest.height ≡ t.height + 1
            next = exactly lowest.height (t.height + 1) bound test

            upto : (m t l : ℕ) → m ≤ t → l ≡ t + 1 → m + (t + 1 - m) ≡ l
            upto m t l late next = omega (arith, late, next)

            whole : (m t : ℕ) → m ≤ t → m + (t + 1 - m) ≡ t + 1
            whole m t late = omega (arith, late)

            under : (m t h : ℕ) → m ≤ t → h < m + (t + 1 - m) → h ≤ t
            under m t h late below = omega (arith, late, below)

            more : (t l : ℕ) → l ≡ t + 1 → t < l
            more t l next = omega (arith, next)

            parent : t.digest ≡ lowest.parent
            parent = link ∙ ap (λ (u : Bool). if u then lowest.digest else lowest.parent) test

            on : IsOnIt lowest.height lowest.parent
            on = subst (λ (h : ℕ). IsOnIt h lowest.parent) (sym (next ∙ add-one t.height)) (by_block (chain s t.height) on_tip.here)
              where
                by_block : (o : Option ScriptBlock) → IfSome o (λ b. b.digest ≡ t.digest) → IfSome o (λ below. lowest.parent ≡ below.digest)
                by_block None same = tt
                by_block (Some b) same = sym (same ∙ parent)

        -- it is the tip's block
        at_tip : nat_lt lowest.height (t.height + 1) ≡ true → IsByPath s life epoch request read round logs
        at_tip test =
            over_chain (t.height - middle) (upto middle t.height lowest.height late height_is) (λ height up below. has t is height up (under middle t.height height late below)) (chain_links t.height lowest there)
            (λ lower are long.
            filled (lower ++ lowest ∷ []) path middle (chain_more middle lower lowest are (height_is ∙ sym (whole middle t.height late) ∙ ap (λ (c : ℕ). middle + c) (sym long)) (ap (chain s) height_is ∙ there))
            (ap (λ (c : ℕ). middle + c) (length-append lower (lowest ∷ [])) ∙ ap (λ (c : ℕ). middle + (c + 1)) long ∙ whole_one middle t.height late) (none_below s epoch round)
            (found_is (Some t) is ∙ ap (logs_of_path check_log_of middle end round) (rest_above its_tip lowest path linked height_is))
            ∙ ap (logs_of_path check_log_of middle end round) (append_assoc lower (lowest ∷ []) path))
          where
            upto : (m t l : ℕ) → m ≤ t → l ≡ t → m + (t - m) ≡ l
            upto m t l late next = omega (arith, late, next)

            whole : (m t : ℕ) → m ≤ t → m + (t - m) ≡ t
            whole m t late = omega (arith, late)

            whole_one : (m t : ℕ) → m ≤ t → m + (t - m + 1) ≡ t + 1
            whole_one m t late = omega (arith, late)

            under : (m t h : ℕ) → m ≤ t → h < m + (t - m) → h ≤ t
            under m t h late below = omega (arith, late, below)

            same_digest : t.digest ≡ lowest.digest
            same_digest = link ∙ ap (λ (u : Bool). if u then lowest.digest else lowest.parent) test

            its_block : HasBlockAt s t.height
            its_block = has t is t.height late (itself t.height)
              where
                itself : (a : ℕ) → a ≤ a
                itself a = omega arith

            tip_digest : (its_block.block).digest ≡ t.digest
            tip_digest = subst (λ (o : Option ScriptBlock). IfSome o (λ b. b.digest ≡ t.digest)) its_block.chained on_tip.here

            same : seen its_block.block ≡ seen lowest
            same = one_digest its_block.number lowest_there.0 (seen its_block.block) (seen lowest) (seen_at s form bytes its_block.number its_block.block its_block.there) (seen_at s form bytes lowest_there.0 lowest lowest_there.1) (tip_digest ∙ same_digest)

            there : chain s t.height ≡ Some (seen lowest)
            there = its_block.chained ∙ ap (λ (b : ScriptBlock). Some b) same

            height_is : lowest.height ≡ t.height
            height_is = sym (ap (λ (b : ScriptBlock). b.height) same) ∙ its_block.height_is

        late_tip : IsByPath s life epoch request read round logs
        late_tip = by_test (nat_lt lowest.height (t.height + 1)) refl
          where
            by_test : (u : Bool) → nat_lt lowest.height (t.height + 1) ≡ u → IsByPath s life epoch request read round logs
            by_test true test = at_tip test
            by_test false test = over_tip test

      with_tip : IsByPath s life epoch request read round logs
      with_tip = by_order (cases_lt t.height middle)
        where
          by_order : (t.height < middle) ⊎ (middle ≤ t.height) → IsByPath s life epoch request read round logs
          by_order (inl low) = early_tip low
          by_order (inr late) = late_tip late

    -- without a tip nothing is recorded up to it
    without_tip : tip_in s.script life read ≡ None → IsByPath s life epoch request read round logs
    without_tip none =
        no_lower (subst (λ (m : ℕ). lowest.height ≤ m) begins_at (completes_at None none).low)
        (asked.filled ∙ ap (λ (l : LogMap). filled_by l asked.found) (recorded_is None none ∙ none_reached (at_epoch epoch known.m)) ∙ found_is None none
        ∙ path_kept middle end round (is_above_tip None) (λ b test. absurd (bools_apart true refl test)) (lowest ∷ path))

    -- THE LAW: by a path
    pub by_path : IsByPath s life epoch request read round logs
    by_path = by_tip (tip_in s.script life read) refl
      where
        by_tip : (o : Option Tip) → tip_in s.script life read ≡ o → IsByPath s life epoch request read round logs
        by_tip None none = without_tip none
        by_tip (Some t) is = with_tip t is

-- What was fed later stands behind it.
pub by_path_later : (s : Setting) (life : Life) (epoch request read j : ℕ) (round : Round) (logs : LogMap) (more : List (made.Block U)) → fed_in s.script life request j ≡ fed_in s.script life request read ++ more
    → IsByPath s life epoch request read round logs → IsByPath s life epoch request j round logs
by_path_later s life epoch request read j round logs more grown its = record {
  path = its.path;
  path_is = record {
    lower = (its.path_is).lower;
    upper = (its.path_is).upper;
    rest = (its.path_is).rest ++ more;
    parts = (its.path_is).parts;
    fed_first = grown ∙ ap (λ (bs : List (made.Block U)). bs ++ more) (its.path_is).fed_first ∙ append_assoc (reverse (its.path_is).upper) (its.path_is).rest more;
    below = (its.path_is).below;
    linked = (its.path_is).linked;
    bottom = (its.path_is).bottom;
    top = by_first (slice_get (fed_in s.script life request read) 0) refl (its.path_is).top;
  };
  logs_are = its.logs_are;
}
  where
    Top : made.Block U → Type 0
    Top b = (slice_get its.path (length its.path - 1) ≡ Some b) × ((b.height ≡ last (per_epoch s.script) epoch) ⊎ (b.height + 1 ≡ last (per_epoch s.script) epoch))

    by_first : (o : Option (made.Block U)) → slice_get (fed_in s.script life request read) 0 ≡ o → IsSomeAnd o Top → IsSomeAnd (slice_get (fed_in s.script life request j) 0) Top
    by_first None none top = absurd top
    by_first (Some b) is top = subst (λ (o : Option (made.Block U)). IsSomeAnd o Top) (sym (ap (λ (bs : List (made.Block U)). slice_get bs 0) grown ∙ first_there (fed_in s.script life request read) more b is)) top
