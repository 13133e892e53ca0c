-- The logs of a path: those that are found above a tip, filled in where the blocks up to the tip carry none of the dealer.
use Rattle.std.proofs.Common.{◌≡◌, ℕ, Bool, true, false, cond, eqb, List, [], ◌∷◌, ◌++◌, Option, Some, refl, sym, ◌∙◌, ap, map, filter_map}
use Rattle.std.specs.Prelude.{filter}
use Rattle.std.specs.Option.{option_or}
use Rattle.std.proofs.lemmas.List.Elements.{filter_map-append}
use Rattle.dkg_values.specs.Rising.{lookup, map_of, with_pair}
use Rattle.dkg_values.specs.RisingLaws.{map_of-lookup, map_of-rises, same_lookups}
use Rattle.dkg_ceremony.specs.Outcomes.{LogMap}
use Rattle.dkg_ceremony.specs.declared.dealer_log.DealerLog.{DealerLog}
use Rattle.dkg_ceremony.specs.declared.round.RoundParts.{RoundParts as Round}
use Rattle.dkg_ceremony.specs.declared.signed_log.SignedDealerLog.{SignedDealerLog}
use Rattle.dkg_types.specs.Blocks.{Block}
use Rattle.dkg_types.specs.Paths.{log_counts, log_of_block, logs_from, logs_of_path}
use Rattle.dkg_core.specs.Logs.{filled_by}

-- WHAT IS FOUND IN LISTS

lookup_append : {V : Type 0} (k : ℕ) (xs ys : List (ℕ × V)) → lookup k (xs ++ ys) ≡ option_or (lookup k xs) (lookup k ys)
lookup_append k [] ys = refl
lookup_append {V} k (x ∷ xs) ys = ap (λ (o : Option V). cond (eqb x.0 k) (Some x.1) o) (lookup_append k xs ys) ∙ by_test (eqb x.0 k)
  where
    by_test : (t : Bool) → cond t (Some x.1) (option_or (lookup k xs) (lookup k ys)) ≡ option_or (cond t (Some x.1) (lookup k xs)) (lookup k ys)
    by_test true = refl
    by_test false = refl

-- the maps of lists in which the same is found are one
one_map : {V : Type 0} (xs ys : List (ℕ × V)) → ((k : ℕ) → lookup k xs ≡ lookup k ys) → map_of xs ≡ map_of ys
one_map xs ys same = same_lookups 0 0 (map_of xs) (map_of ys) (map_of-rises xs) (map_of-rises ys) (λ k. map_of-lookup k xs ∙ same k ∙ sym (map_of-lookup k ys))

filled_map : (logs others : LogMap) → filled_by logs (map_of others) ≡ map_of (logs ++ others)
filled_map [] others = refl
filled_map (log ∷ logs) others = ap (with_pair log) (filled_map logs others)

filter_append : {A : Type 0} (test : A → Bool) (xs ys : List A) → filter test (xs ++ ys) ≡ filter test xs ++ filter test ys
filter_append test [] ys = refl
filter_append {A} test (x ∷ xs) ys = by_test (test x) (filter_append test xs ys)
  where
    by_test : (t : Bool) → filter test (xs ++ ys) ≡ filter test xs ++ filter test ys → cond t (x ∷ filter test (xs ++ ys)) (filter test (xs ++ ys)) ≡ cond t (x ∷ filter test xs) (filter test xs) ++ filter test ys
    by_test true rest = ap (λ (l : List A). x ∷ l) rest
    by_test false rest = rest

map_append : {A B : Type 0} (f : A → B) (xs ys : List A) → map f (xs ++ ys) ≡ map f xs ++ map f ys
map_append f [] ys = refl
map_append {A} {B} f (x ∷ xs) ys = ap (λ (l : List B). f x ∷ l) (map_append f xs ys)

-- A PATH

module _ {Dir : Type 0} (check_log_of : Round → SignedDealerLog → Bool) (midpoint last : ℕ) (round : Round) where
  -- the logs that count, each with its dealer, as the blocks bring them
  abbrev pub brought : List (Block Dir) → LogMap
  brought path = map (λ p. (p.1.dealer, p.1.log)) (filter (log_counts check_log_of midpoint last round) (filter_map log_of_block path))

  pub brought_append : (lower upper : List (Block Dir)) → brought (lower ++ upper) ≡ brought lower ++ brought upper
  brought_append lower upper =
      ap (λ (ps : List (ℕ × SignedDealerLog)). map (λ (p : ℕ × SignedDealerLog). (p.1.dealer, p.1.log)) (filter (log_counts check_log_of midpoint last round) ps)) (filter_map-append log_of_block lower upper)
      ∙ ap (map (λ (p : ℕ × SignedDealerLog). (p.1.dealer, p.1.log))) (filter_append (log_counts check_log_of midpoint last round) (filter_map log_of_block lower) (filter_map log_of_block upper))
      ∙ map_append (λ (p : ℕ × SignedDealerLog). (p.1.dealer, p.1.log)) (filter (log_counts check_log_of midpoint last round) (filter_map log_of_block lower))
      (filter (log_counts check_log_of midpoint last round) (filter_map log_of_block upper))

  -- Where what is recorded are the first logs of the dealers in the lower blocks, the logs that are filled in make those of the whole path.
  pub path_filled : (recorded : LogMap) (lower upper : List (Block Dir)) → ((k : ℕ) → lookup k recorded ≡ lookup k (brought lower))
      → filled_by recorded (logs_of_path check_log_of midpoint last round upper) ≡ logs_of_path check_log_of midpoint last round (lower ++ upper)
  unfolding logs_from
  path_filled recorded lower upper same =
      filled_map recorded (brought upper)
      ∙ one_map (recorded ++ brought upper) (brought (lower ++ upper))
      (λ k. lookup_append k recorded (brought upper) ∙ ap (λ (o : Option DealerLog). option_or o (lookup k (brought upper))) (same k)
      ∙ sym (lookup_append k (brought lower) (brought upper)) ∙ ap (lookup k) (sym (brought_append lower upper)))
