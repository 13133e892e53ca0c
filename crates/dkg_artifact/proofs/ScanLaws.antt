-- The logs of a path with one block more.
use Rattle.std.proofs.Common.{◌≡◌, ℕ, ◌+◌, ◌<◌, ◌≤◌, Bool, true, false, cond, ◌&&◌, List, [], ◌∷◌, Option, Some, None, is_some, inl, inr, refl, sym, ◌∙◌, arith}
use Rattle.std.specs.Prelude.{nat_le, map, filter_map, option_and_then, option_map}
use Rattle.std.specs.List.{filter, cons_option}
use Rattle.std.specs.Option.{option_map_or}
use Rattle.std.proofs.lemmas.Bool.{lt-ltb, le-ltb, cases_lt}
use Rattle.std.proofs.lemmas.Bool.Decides.{nat_tests}
use Rattle.dkg_values.specs.Rising.{map_of, index_of, with_pair}
use Rattle.dkg_ceremony.specs.declared.round.RoundParts.{RoundParts as Round}
use Rattle.dkg_ceremony.specs.declared.signed_log.SignedDealerLog.{SignedDealerLog}
use Rattle.dkg_ceremony.specs.Outcomes.{LogMap}
use Rattle.dkg_types.specs.Blocks.{Block}
use Rattle.dkg_types.specs.Paths.{log_counts, logs_from, logs_of_path, log_of_block}
use Rattle.dkg_types.specs.PayloadCodes.{its_log}
use Rattle.dkg_artifact.specs.declared.scan.Tip.{Tip}
use Rattle.dkg_artifact.specs.Found.{with_log}
use Rattle.dkg_artifact.specs.Scans.{Check, lowest, is_counted, counted_log, added, is_above_tip, above}

-- THE LAST NEEDED HEIGHT

middle_first : (middle : ℕ) (tip : Option Tip) → middle ≤ lowest middle tip
middle_first middle None = omega arith
middle_first middle (Some t) = elim (cases_lt t.height middle) [ inl lt ↦ rw (lt-ltb t.height middle lt) (omega arith) | inr ge ↦ rw (le-ltb t.height middle ge) (omega arith) ]

tip_first : (middle : ℕ) (t : Tip) → t.height < lowest middle (Some t)
tip_first middle t = elim (cases_lt t.height middle) [ inl lt ↦ rw (lt-ltb t.height middle lt) lt | inr ge ↦ rw (le-ltb t.height middle ge) (omega arith) ]

module _ {Dir : Type 0} where
  needed_above : (middle : ℕ) (tip : Option Tip) (b : Block Dir) → lowest middle tip ≤ b.height → is_above_tip tip b ≡ true
  needed_above middle None b le = refl
  needed_above middle (Some t) b le = lt-ltb t.height b.height (omega (arith, tip_first middle t))

  -- a block above the tip that isn't needed is below the midpoint
  unneeded : (middle : ℕ) (tip : Option Tip) (b : Block Dir) → b.height < lowest middle tip → is_above_tip tip b ≡ true → b.height < middle
  unneeded middle None b lt is = lt
  unneeded middle (Some t) b lt is = elim (cases_lt t.height middle) [
    | inl early ↦ let e : lowest middle (Some t) ≡ middle = rw (lt-ltb t.height middle early) refl in omega arith
    | inr late ↦
        let e : lowest middle (Some t) ≡ t.height + 1 = rw (le-ltb t.height middle late) refl in
        let above_tip : t.height < b.height = grind (arith, nat_tests) in
        absurd (omega arith)
  ]

-- ONE BLOCK MORE OF A PATH

module _ (check : Check) (middle last : ℕ) (round : Round) where
  from_more : (p : ℕ × SignedDealerLog) (placed : List (ℕ × SignedDealerLog))
      → logs_from check middle last round (p ∷ placed) ≡ cond (log_counts check middle last round p) (with_pair (p.1.dealer, p.1.log) (logs_from check middle last round placed)) (logs_from check middle last round placed)
  unfolding logs_from
  from_more p placed =
      let rest = filter (log_counts check middle last round) placed in
      let pairs : List (ℕ × SignedDealerLog) → LogMap = λ l. map_of (map (λ (p : ℕ × SignedDealerLog). (p.1.dealer, p.1.log)) l) in
      elim (log_counts check middle last round p) as (λ b. pairs (cond b (p ∷ rest) rest) ≡ cond b (with_pair (p.1.dealer, p.1.log) (pairs rest)) (pairs rest)) [ true ↦ refl | false ↦ refl ]

  -- nothing is found on no path
  pub from_none : logs_from check middle last round [] ≡ []
  unfolding logs_from
  from_none = refl

  early : (p : ℕ × SignedDealerLog) → p.0 < middle → log_counts check middle last round p ≡ false
  early p lt = let e : nat_le middle p.0 ≡ false = grind (arith, nat_tests) in rw e refl

  late : (p : ℕ × SignedDealerLog) → last ≤ p.0 → log_counts check middle last round p ≡ false
  late p ge =
      rw (le-ltb p.0 last ge) (elim (nat_le middle p.0) as (λ (b : Bool). (b && false && is_some (index_of p.1.dealer round.dealers) && check round p.1) ≡ false) [ true ↦ refl | false ↦ refl ])

  within : (p : ℕ × SignedDealerLog) → middle ≤ p.0 → p.0 < last → log_counts check middle last round p ≡ is_counted check round p.1
  within p ge lt = let e : nat_le middle p.0 ≡ true = grind (arith, nat_tests) in rw (e, lt-ltb p.0 last lt) refl

  -- what a log at a block's height adds to the logs found above
  adds : (height : ℕ) → Option SignedDealerLog → LogMap → LogMap
  adds height log found = option_map_or (λ s. cond (log_counts check middle last round (height, s)) (with_pair (s.dealer, s.log) found) found) log found

  adds_none : (height : ℕ) (log : Option SignedDealerLog) (found : LogMap) → ((s : SignedDealerLog) → log_counts check middle last round (height, s) ≡ false) → adds height log found ≡ found
  unfolding adds
  adds_none height None found none = refl
  adds_none height (Some s) found none = rw (none s) refl

  adds_log : (height : ℕ) (log : Option SignedDealerLog) (found : LogMap) → middle ≤ height → height < last → adds height log found ≡ with_log (counted_log check round log) found
  unfolding adds
  adds_log height None found ge lt = refl
  adds_log height (Some s) found ge lt = rw (within (height, s) ge lt) (elim (is_counted check round s) as (λ (b : Bool). cond b (with_pair (s.dealer, s.log) found) found ≡ with_log (cond b (Some (s.dealer, s.log)) None) found) [ true ↦ refl | false ↦ refl ])

  module _ {Dir : Type 0} where
    path_more : (b : Block Dir) (path : List (Block Dir)) → logs_of_path check middle last round (b ∷ path) ≡ adds b.height (option_and_then its_log b.payload) (logs_of_path check middle last round path)
    unfolding adds
    path_more b path = elim (option_and_then its_log b.payload) as (λ o. logs_from check middle last round (cons_option (option_map (λ s. (b.height, s)) o) (filter_map log_of_block path)) ≡ adds b.height o (logs_of_path check middle last round path)) [
      | None ↦ refl
      | Some s ↦ from_more (b.height, s) (filter_map log_of_block path)
    ]

    -- a block that adds nothing
    same_path : (tip : Option Tip) (b : Block Dir) (path : List (Block Dir)) → (is_above_tip tip b ≡ true → (s : SignedDealerLog) → log_counts check middle last round (b.height, s) ≡ false)
        → logs_of_path check middle last round (above tip (b ∷ path)) ≡ logs_of_path check middle last round (above tip path)
    same_path tip b path none = elim (is_above_tip tip b) as (λ (v : Bool). is_above_tip tip b ≡ v → logs_of_path check middle last round (cond v (b ∷ above tip path) (above tip path)) ≡ logs_of_path check middle last round (above tip path)) [
      | true ↦ λ is. path_more b (above tip path) ∙ adds_none b.height (option_and_then its_log b.payload) (logs_of_path check middle last round (above tip path)) (none is)
      | false ↦ λ is. refl
    ] refl

    -- the epoch's final block
    pub final_path : (tip : Option Tip) (b : Block Dir) (path : List (Block Dir)) → b.height ≡ last → logs_of_path check middle last round (above tip (b ∷ path)) ≡ logs_of_path check middle last round (above tip path)
    final_path tip b path e = same_path tip b path (λ is s. late (b.height, s) (omega arith))

    -- a block below it
    pub lower_path : (tip : Option Tip) (b : Block Dir) (path : List (Block Dir)) → b.height < last
        → with_log (added check round (lowest middle tip) b) (logs_of_path check middle last round (above tip path)) ≡ logs_of_path check middle last round (above tip (b ∷ path))
    lower_path tip b path lt = elim (cases_lt b.height (lowest middle tip)) [
      | inl low ↦ rw (lt-ltb b.height (lowest middle tip) low) (sym (same_path tip b path (λ is s. early (b.height, s) (unneeded middle tip b low is))))
      | inr needed ↦
          rw (le-ltb b.height (lowest middle tip) needed, needed_above middle tip b needed)
          (sym (path_more b (above tip path) ∙ adds_log b.height (option_and_then its_log b.payload) (logs_of_path check middle last round (above tip path)) (omega (arith, middle_first middle tip)) lt))
    ]
