-- What a scan answers is what the relation reads.
use Rattle.std.proofs.Common.{◌≡◌, ℕ, Bool, true, false, List, [], ◌∷◌, ◌++◌, Option, Some, None, Result, Ok, Err, refl, sym, ◌∙◌, ap, subst}
use Rattle.std.specs.Prelude.{◌+◌, ◌-◌, ◌==◌, ◌&&◌, nat_lt, not, is_none, IfOk, IsSome, option_map, option_and_then, if◌then◌else◌}
use Rattle.std.specs.Option.{option_map_or}
use Rattle.std.specs.Str.{bytes_eq}
use Rattle.std.proofs.lemmas.Slice.Eq.{bytes_eq-Decides}
use Rattle.dkg_values.specs.Rising.{map_of, with_pair}
use Rattle.dkg_ceremony.specs.declared.epocher.Bounds.{Bounds}
use Rattle.dkg_ceremony.specs.declared.round.RoundParts.{RoundParts as Round}
use Rattle.dkg_ceremony.specs.declared.signed_log.SignedDealerLog.{SignedDealerLog}
use Rattle.dkg_ceremony.specs.Outcomes.{LogMap}
use Rattle.dkg_ceremony.specs.Schedule.{midpoint, last}
use Rattle.dkg_types.specs.Blocks.{Block}
use Rattle.dkg_types.specs.PayloadCodes.{its_log}
use Rattle.dkg_infos.specs.declared.entry.Why.{Why}
use Rattle.dkg_infos.specs.declared.entry.Why.TheVariants.{Short, WrongHeight, Unlinked, Detached}
use Rattle.dkg_artifact.specs.Found.{with_log}
use Rattle.dkg_artifact.specs.Scans as scans
use Rattle.dkg_artifact.specs.Scans.{Check, counted_log, feeds, first_answer, starts}
use Rattle.dkg_artifact.specs.Seen.{Next, Scan}
use Rattle.dkg_artifact.specs.declared.scan.Fed as declared
use Rattle.dkg_artifact.specs.declared.scan.Fed.TheVariants as answer
use Rattle.dkg_artifact.specs.declared.scan.Tip.{Tip}
use Rattle.dkg_core.specs.Fixed.{Fixed, has}
use Rattle.dkg_core.specs.Including as including
use Rattle.dkg_core.specs.Including.{Fed, Need, Found, Lacks}
use Rattle.dkg_core.specs.Live.{Live}
use Rattle.dkg_core.specs.Logs.{filled_by, is_accepted}
use Rattle.dkg_core.specs.Sources as placed
use Rattle.dkg_verifying.specs.Including.{fed_of}
use Rattle.dkg_verifying.specs.InclusionOf.{tip_of}
use Rattle.dkg_verifying.specs.Scanned.{IsFed, fed_all}

-- BLOCKS, ONE BEHIND ANOTHER

module _ {Dir : Type 0} (check : Check) where
  -- Once it has answered, it takes no more.
  pub fed_done : (s : Scan) (its : declared.Fed) (bs : List (Block Dir)) → (its ≡ answer.Need → ⊥) → fed_all check s its bs ≡ (its, s)
  fed_done s its [] done = refl
  fed_done s answer.Need (b ∷ bs) done = absurd (done refl)
  fed_done s (answer.Logs found) (b ∷ bs) done = refl
  fed_done s (answer.Unavailable why) (b ∷ bs) done = refl

  -- one block more
  pub fed_more : (s now : Scan) (its : declared.Fed) (bs : List (Block Dir)) (b : Block Dir) → fed_all check s its bs ≡ (answer.Need, now) → fed_all check s its (bs ++ b ∷ []) ≡ feeds check now b
  fed_more s now answer.Need [] b is = ap (λ (p : declared.Fed × Scan). feeds check p.1 b) is
  fed_more s now (answer.Logs found) [] b is = let e : answer.Logs found ≡ answer.Need = ap (λ (p : declared.Fed × Scan). p.0) is in absurd cc
  fed_more s now (answer.Unavailable why) [] b is = let e : answer.Unavailable why ≡ answer.Need = ap (λ (p : declared.Fed × Scan). p.0) is in absurd cc
  fed_more s now answer.Need (x ∷ bs) b is = fed_more (feeds check s x).1 now (feeds check s x).0 bs b is
  fed_more s now (answer.Logs found) (x ∷ bs) b is = let e : answer.Logs found ≡ answer.Need = ap (λ (p : declared.Fed × Scan). p.0) is in absurd cc
  fed_more s now (answer.Unavailable why) (x ∷ bs) b is = let e : answer.Unavailable why ≡ answer.Need = ap (λ (p : declared.Fed × Scan). p.0) is in absurd cc

  -- what was answered before the last of them
  pub fed_then : (s now : Scan) (its end : declared.Fed) (bs more : List (Block Dir)) → (end ≡ answer.Need → ⊥) → fed_all check s its bs ≡ (end, now) → fed_all check s its (bs ++ more) ≡ (end, now)
  fed_then s now answer.Need end [] more done is = let e : end ≡ answer.Need = sym (ap (λ (p : declared.Fed × Scan). p.0) is) in absurd (done e)
  fed_then s now (answer.Logs found) end [] more done is = fed_done s (answer.Logs found) more (λ e. cc) ∙ is
  fed_then s now (answer.Unavailable why) end [] more done is = fed_done s (answer.Unavailable why) more (λ e. cc) ∙ is
  fed_then s now answer.Need end (b ∷ bs) more done is = fed_then (feeds check s b).1 now (feeds check s b).0 end bs more done is
  fed_then s now (answer.Logs found) end (b ∷ bs) more done is = is
  fed_then s now (answer.Unavailable why) end (b ∷ bs) more done is = is

  -- WHAT ONE BLOCK IS

  module _ (s : Scan) (n : Next) (b : Block Dir) where
    abbrev its_answer : declared.Fed × Scan
    its_answer = scans.answers_block check s b (scans.stand_of s n b)

    pub feeds_is : s.next ≡ Some n → feeds check s b ≡ its_answer
    feeds_is has = ap (λ (o : Option Next). option_map_or (λ n. scans.answers_block check s b (scans.stand_of s n b)) o (answer.Unavailable Short, s)) has

    pub at_final : scans.is_final s n b ≡ true → its_answer ≡ (answer.Need, scans.passes s b s.found)
    at_final is = rw is refl

    module _ (is_final : scans.is_final s n b ≡ false) where
      pub at_wrong : not (b.height == n.height) ≡ true → its_answer ≡ (answer.Unavailable (WrongHeight n.height b.height), scans.closes s)
      at_wrong is = rw (is_final, is) refl

      module _ (wrong : not (b.height == n.height) ≡ false) where
        pub at_unlinked : scans.names_another n.digest b.digest ≡ true → its_answer ≡ (answer.Unavailable (Unlinked b.height), scans.closes s)
        at_unlinked is = rw (is_final, wrong, is) refl

        module _ (unlinked : scans.names_another n.digest b.digest ≡ false) where
          pub at_higher : nat_lt s.down_to b.height ≡ true → its_answer ≡ (answer.Need, scans.passes s b (scans.with_lower check s b))
          at_higher is = rw (is_final, wrong, unlinked, is) refl

          module _ (higher : nat_lt s.down_to b.height ≡ false) where
            pub at_detached : scans.names_another s.below (scans.link_of s.down_to b) ≡ true → its_answer ≡ (answer.Unavailable (Detached b.height), scans.closes s)
            at_detached is = rw (is_final, wrong, unlinked, higher, is) refl

            pub at_lowest : scans.names_another s.below (scans.link_of s.down_to b) ≡ false → its_answer ≡ (answer.Logs (scans.with_lower check s b), scans.closes s)
            at_lowest is = rw (is_final, wrong, unlinked, higher, is) refl

  -- A scan that needs more awaits a block.
  module _ (s : Scan) (b : Block Dir) where
    answered_so : (n : Next) (final wrong unlinked higher detached : Bool) → scans.is_final s n b ≡ final → not (b.height == n.height) ≡ wrong → scans.names_another n.digest b.digest ≡ unlinked → nat_lt s.down_to b.height ≡ higher
        → scans.names_another s.below (scans.link_of s.down_to b) ≡ detached → (P : declared.Fed × Scan → Type 0) → ((now : Scan) → IsSome now.next → P (answer.Need, now)) → ((why : Why) (now : Scan) → P (answer.Unavailable why, now))
        → ((found : LogMap) (now : Scan) → P (answer.Logs found, now)) → P (its_answer s n b)
    answered_so n true wrong unlinked higher detached f w u h d P needs lacks found = subst P (sym (at_final s n b f)) (needs (scans.passes s b s.found) refl)
    answered_so n false true unlinked higher detached f w u h d P needs lacks found = subst P (sym (at_wrong s n b f w)) (lacks (WrongHeight n.height b.height) (scans.closes s))
    answered_so n false false true higher detached f w u h d P needs lacks found = subst P (sym (at_unlinked s n b f w u)) (lacks (Unlinked b.height) (scans.closes s))
    answered_so n false false false true detached f w u h d P needs lacks found = subst P (sym (at_higher s n b f w u h)) (needs (scans.passes s b (scans.with_lower check s b)) refl)
    answered_so n false false false false true f w u h d P needs lacks found = subst P (sym (at_detached s n b f w u h d)) (lacks (Detached b.height) (scans.closes s))
    answered_so n false false false false false f w u h d P needs lacks found = subst P (sym (at_lowest s n b f w u h d)) (found (scans.with_lower check s b) (scans.closes s))

    by_next : (next : Option Next) → s.next ≡ next → IsSome next → (P : declared.Fed × Scan → Type 0) → ((now : Scan) → IsSome now.next → P (answer.Need, now)) → ((why : Why) (now : Scan) → P (answer.Unavailable why, now))
        → ((found : LogMap) (now : Scan) → P (answer.Logs found, now)) → P (feeds check s b)
    by_next None is some P needs lacks found = absurd (let e : false ≡ true = some in cc)
    by_next (Some n) is some P needs lacks found =
        subst P (sym (feeds_is s n b is))
        (answered_so n (scans.is_final s n b) (not (b.height == n.height)) (scans.names_another n.digest b.digest) (nat_lt s.down_to b.height) (scans.names_another s.below (scans.link_of s.down_to b)) refl refl refl refl refl P needs lacks found)

    pub feeds_awaits : IsSome s.next → (feeds check s b).0 ≡ answer.Need → IsSome (feeds check s b).1.next
    feeds_awaits awaits =
        by_next s.next refl awaits (λ (p : declared.Fed × Scan). p.0 ≡ answer.Need → IsSome p.1.next) (λ now some is. some) (λ why now is. absurd (let e : answer.Unavailable why ≡ answer.Need = is in cc))
        (λ found now is. absurd (let e : answer.Logs found ≡ answer.Need = is in cc))

-- THE RELATION'S TESTS

same_either : (a b : List ℕ) → bytes_eq a b ≡ bytes_eq b a
same_either a b = by_test (bytes_eq a b) (bytes_eq b a) (λ e. (bytes_eq-Decides b a).1 (sym ((bytes_eq-Decides a b).0 e))) (λ e. (bytes_eq-Decides a b).1 (sym ((bytes_eq-Decides b a).0 e)))
  where
    by_test : (x y : Bool) → (x ≡ true → y ≡ true) → (y ≡ true → x ≡ true) → x ≡ y
    by_test true y one other = sym (one refl)
    by_test false true one other = other refl
    by_test false false one other = refl

-- how a scan ends, where its ancestry has ended
abbrev pub closed_by : (ended : Bool) → declared.Fed → Fed
closed_by ended answer.Need = if ended then Lacks Short else Need
closed_by ended (answer.Logs found) = Found found
closed_by ended (answer.Unavailable why) = Lacks why

pub open_is : (fed : declared.Fed) → closed_by false fed ≡ fed_of fed
open_is answer.Need = refl
open_is (answer.Logs found) = refl
open_is (answer.Unavailable why) = refl

module _ {Dir : Type 0} (c : Fixed Dir) (round : Round) (st : Live Dir) where
  abbrev tip : Option Tip
  tip = option_map tip_of st.tip

  abbrev middle : ℕ
  middle = midpoint c.blocks_per_epoch st.participation.epoch

  lowest_is : (t : Option placed.Tip) → scans.lowest middle (option_map tip_of t) ≡ option_map_or (λ t. if nat_lt t.height middle then middle else t.height + 1) t middle
  lowest_is None = refl
  lowest_is (Some t) = refl

  -- where the relation stands behind a block, as a scan
  abbrev at_scan : (above : Option (Block Dir)) → LogMap → Scan
  at_scan above found = record {
    round = round;
    last = including.final_height c st;
    down_to = scans.lowest middle tip;
    below = scans.tip_below middle tip;
    next = Some (record { height = including.next_height c st above; digest = option_map (λ (b : Block Dir). b.parent) above });
    found = found;
  }

  link_is : (b : Block Dir) → scans.link_of (scans.lowest middle tip) b ≡ including.request_link_of c st b
  link_is b = ap (λ (l : ℕ). if nat_lt b.height l then b.digest else b.parent) (lowest_is st.tip)

  detached_by : (t : Option placed.Tip) (link : List ℕ)
      → scans.names_another (scans.tip_below middle (option_map tip_of t)) link
      ≡ option_map_or (λ t. (t.height + 1 == scans.lowest middle (option_map tip_of (Some t))) && not (bytes_eq t.digest link)) t false
  detached_by None link = refl
  detached_by (Some t) link = by_test (t.height + 1 == scans.lowest middle (Some (tip_of t)))
    where
      by_test : (b : Bool) → scans.names_another (if b then Some t.digest else None) link ≡ (b && not (bytes_eq t.digest link))
      by_test true = refl
      by_test false = refl

  detached_at : (t : Option placed.Tip) (link : List ℕ)
      → option_map_or (λ t. (t.height + 1 == scans.lowest middle (option_map tip_of (Some t))) && not (bytes_eq t.digest link)) t false
      ≡ option_map_or (λ u. (u.height + 1 == option_map_or (λ t. if nat_lt t.height middle then middle else t.height + 1) t middle) && not (bytes_eq u.digest link)) t false
  detached_at None link = refl
  detached_at (Some t) link = refl

  detached_is : (b : Block Dir) → scans.names_another (scans.tip_below middle tip) (scans.link_of (scans.lowest middle tip) b) ≡ including.is_detached c st b
  detached_is b = ap (scans.names_another (scans.tip_below middle tip)) (link_is b) ∙ detached_by st.tip (including.request_link_of c st b) ∙ detached_at st.tip (including.request_link_of c st b)

  counts_by : (log : SignedDealerLog) (b : Bool) (found : LogMap) → with_log (if b then Some (log.dealer, log.log) else None) found ≡ (if b then with_pair (log.dealer, log.log) found else found)
  counts_by log true found = refl
  counts_by log false found = refl

  module _ (check : Check) (checks : c.rules.check_log_of ≡ check) where
    counts_is : (o : Option SignedDealerLog) (found : LogMap)
        → with_log (counted_log check round o) found ≡ option_map_or (λ log. if is_accepted c round log then with_pair (log.dealer, log.log) found else found) o found
    counts_is None found = refl
    counts_is (Some log) found =
        counts_by log (scans.is_counted check round log) found
        ∙ (λ i. if (has round.dealers log.dealer && sym checks i round log) then with_pair (log.dealer, log.log) found else found)

    lower_by : (b : Block Dir) (low : Bool) (found : LogMap)
        → with_log (if low then None else counted_log check round (option_and_then its_log b.payload)) found
        ≡ (if low then found else option_map_or (λ log. if is_accepted c round log then with_pair (log.dealer, log.log) found else found) (option_and_then its_log b.payload) found)
    lower_by b true found = refl
    lower_by b false found = counts_is (option_and_then its_log b.payload) found

    lower_is : (above : Option (Block Dir)) (b : Block Dir) (found : LogMap) → scans.with_lower check (at_scan above found) b ≡ including.with_lower_log c round st b found
    lower_is above b found =
        lower_by b (nat_lt b.height (scans.lowest middle tip)) found
        ∙ ap (λ (l : ℕ). if nat_lt b.height l then found else option_map_or (λ log. if is_accepted c round log then with_pair (log.dealer, log.log) found else found) (option_and_then its_log b.payload) found) (lowest_is st.tip)

    -- ONE BLOCK

    unlinked_is : (above : Option (Block Dir)) (b : Block Dir) → scans.names_another (option_map (λ (b : Block Dir). b.parent) above) b.digest ≡ including.is_unlinked above b
    unlinked_is None b = refl
    unlinked_is (Some a) b = ap not (same_either a.parent b.digest)

    final_is : (above : Option (Block Dir)) (b : Block Dir) → (is_none (option_map (λ (b : Block Dir). b.parent) above) && (b.height == including.final_height c st)) ≡ including.is_final_read c st above b
    final_is None b = refl
    final_is (Some a) b = refl

    -- ALL OF THEM

    abbrev rest_by : (final wrong unlinked higher detached : Bool) → Option (Block Dir) → LogMap → Block Dir → List (Block Dir) → (ended : Bool) → Fed
    rest_by final wrong unlinked higher detached above found b bs ended =
        if final then including.scan c round st (Some b) found bs ended
        else if wrong then Lacks (WrongHeight (including.next_height c st above) b.height)
        else if unlinked then Lacks (Unlinked b.height)
        else if higher then including.scan c round st (Some b) (including.with_lower_log c round st b found) bs ended
        else if detached then Lacks (Detached b.height)
        else Found (including.with_lower_log c round st b found)

    refused_is : (s : Scan) (why : Why) (bs : List (Block Dir)) (ended : Bool) → closed_by ended (fed_all check s (answer.Unavailable why) bs).0 ≡ Lacks why
    refused_is s why bs ended = ap (λ (p : declared.Fed × Scan). closed_by ended p.0) (fed_done check s (answer.Unavailable why) bs (λ e. cc))

    found_is : (s : Scan) (logs : LogMap) (bs : List (Block Dir)) (ended : Bool) → closed_by ended (fed_all check s (answer.Logs logs) bs).0 ≡ Found logs
    found_is s logs bs ended = ap (λ (p : declared.Fed × Scan). closed_by ended p.0) (fed_done check s (answer.Logs logs) bs (λ e. cc))

    module _ (ended : Bool) (above : Option (Block Dir)) (found : LogMap) (b : Block Dir) (bs : List (Block Dir))
        (below : (a : Option (Block Dir)) (l : LogMap) → including.scan c round st a l bs ended ≡ closed_by ended (fed_all check (at_scan a l) answer.Need bs).0)
      where
        abbrev next : Next
        next = record { height = including.next_height c st above; digest = option_map (λ (b : Block Dir). b.parent) above }

        abbrev ends_as : declared.Fed × Scan → Fed
        ends_as p = closed_by ended (fed_all check p.1 p.0 bs).0

        abbrev here : declared.Fed × Scan
        here = its_answer check (at_scan above found) next b

        higher_is : including.scan c round st (Some b) (including.with_lower_log c round st b found) bs ended ≡ ends_as (answer.Need, scans.passes (at_scan above found) b (scans.with_lower check (at_scan above found) b))
        higher_is = below (Some b) (including.with_lower_log c round st b found)
            ∙ ap (λ (l : LogMap). closed_by ended (fed_all check (at_scan (Some b) l) answer.Need bs).0) (sym (lower_is above b found))

        lowest_found : Found (including.with_lower_log c round st b found) ≡ ends_as (answer.Logs (scans.with_lower check (at_scan above found) b), scans.closes (at_scan above found))
        lowest_found = ap Found (sym (lower_is above b found)) ∙ sym (found_is (scans.closes (at_scan above found)) (scans.with_lower check (at_scan above found) b) bs ended)

        by_tests : (final wrong unlinked higher detached : Bool) → including.is_final_read c st above b ≡ final → not (b.height == including.next_height c st above) ≡ wrong → including.is_unlinked above b ≡ unlinked
            → nat_lt (including.lowest_needed c st) b.height ≡ higher → including.is_detached c st b ≡ detached → rest_by final wrong unlinked higher detached above found b bs ended ≡ ends_as here
        by_tests true wrong unlinked higher detached f w u h d =
            below (Some b) found ∙ ap (λ (p : declared.Fed × Scan). ends_as p) (sym (at_final check (at_scan above found) next b (final_is above b ∙ f)))
        by_tests false true unlinked higher detached f w u h d =
            sym (refused_is (scans.closes (at_scan above found)) (WrongHeight (including.next_height c st above) b.height) bs ended)
            ∙ ap (λ (p : declared.Fed × Scan). ends_as p) (sym (at_wrong check (at_scan above found) next b (final_is above b ∙ f) w))
        by_tests false false true higher detached f w u h d =
            sym (refused_is (scans.closes (at_scan above found)) (Unlinked b.height) bs ended)
            ∙ ap (λ (p : declared.Fed × Scan). ends_as p) (sym (at_unlinked check (at_scan above found) next b (final_is above b ∙ f) w (unlinked_is above b ∙ u)))
        by_tests false false false true detached f w u h d =
            higher_is
            ∙ ap (λ (p : declared.Fed × Scan). ends_as p)
            (sym (at_higher check (at_scan above found) next b (final_is above b ∙ f) w (unlinked_is above b ∙ u) (ap (λ (l : ℕ). nat_lt l b.height) (lowest_is st.tip) ∙ h)))
        by_tests false false false false true f w u h d =
            sym (refused_is (scans.closes (at_scan above found)) (Detached b.height) bs ended)
            ∙ ap (λ (p : declared.Fed × Scan). ends_as p)
            (sym (at_detached check (at_scan above found) next b (final_is above b ∙ f) w (unlinked_is above b ∙ u) (ap (λ (l : ℕ). nat_lt l b.height) (lowest_is st.tip) ∙ h) (detached_is b ∙ d)))
        by_tests false false false false false f w u h d =
            lowest_found
            ∙ ap (λ (p : declared.Fed × Scan). ends_as p)
            (sym (at_lowest check (at_scan above found) next b (final_is above b ∙ f) w (unlinked_is above b ∙ u) (ap (λ (l : ℕ). nat_lt l b.height) (lowest_is st.tip) ∙ h) (detached_is b ∙ d)))

    pub scan_is : (ended : Bool) (above : Option (Block Dir)) (found : LogMap) (bs : List (Block Dir))
        → including.scan c round st above found bs ended ≡ closed_by ended (fed_all check (at_scan above found) answer.Need bs).0
    scan_is ended above found [] = refl
    scan_is ended above found (b ∷ bs) =
        by_tests ended above found b bs (λ a l. scan_is ended a l bs) (including.is_final_read c st above b) (not (b.height == including.next_height c st above)) (including.is_unlinked above b)
        (nat_lt (including.lowest_needed c st) b.height) (including.is_detached c st b) refl refl refl refl refl

    -- A REQUEST, from the start of its ancestry

    module _ (bounds : Bounds) (last_is : bounds.last ≡ including.final_height c st) (middle_is : bounds.midpoint ≡ middle) (number : ℕ) (blocks : List (Block Dir)) where
      abbrev over : (last middle : ℕ) → declared.Fed
      over last middle = (fed_all check
          (record { round = round; last = last; down_to = scans.lowest middle tip; below = scans.tip_below middle tip; next = scans.first_next last; found = [] })
          (first_answer last) blocks).0

      pub read_is : (ended : Bool) → including.read_of c round st (record { number = number; blocks = blocks; ended = ended }) ≡ closed_by ended (fed_all check (starts round bounds tip) (first_answer bounds.last) blocks).0
      read_is ended = by_test (including.final_height c st == 0) ∙ (λ i. closed_by ended (over (sym last_is i) (sym middle_is i)))
        where
          by_test : (none : Bool)
              → (if none then Found [] else including.scan c round st None [] blocks ended)
              ≡ closed_by ended (fed_all check
              (record (at_scan None []) { next = (if none then None else Some (record { height = including.final_height c st - 1; digest = None })) })
              (if none then answer.Logs [] else answer.Need) blocks).0
          by_test true = sym (found_is (record (at_scan None []) { next = None }) [] blocks ended)
          by_test false = scan_is ended None [] blocks

      module _ (s : Scan) (fed : fed_all check (starts round bounds tip) (first_answer bounds.last) blocks ≡ (answer.Need, s)) where
        -- It needs more while its ancestry goes on,
        pub read_on : including.read_of c round st (record { number = number; blocks = blocks; ended = false }) ≡ Need
        read_on = read_is false ∙ ap (λ (p : declared.Fed × Scan). closed_by false p.0) fed

        -- .. and lacks what it needs at the end.
        pub read_short : including.read_of c round st (record { number = number; blocks = blocks; ended = true }) ≡ Lacks Short
        read_short = read_is true ∙ ap (λ (p : declared.Fed × Scan). closed_by true p.0) fed

    -- .. and with one block more
    pub read_more : (bounds : Bounds) → bounds.last ≡ including.final_height c st → bounds.midpoint ≡ middle → (number : ℕ) (blocks : List (Block Dir)) (b : Block Dir) (s : Scan)
        → fed_all check (starts round bounds tip) (first_answer bounds.last) blocks ≡ (answer.Need, s)
        → including.read_of c round st (record { number = number; blocks = blocks ++ b ∷ []; ended = false }) ≡ fed_of (feeds check s b).0
    read_more bounds last_is middle_is number blocks b s fed =
        read_is bounds last_is middle_is number (blocks ++ b ∷ []) false
        ∙ ap (λ (p : declared.Fed × Scan). closed_by false p.0) (fed_more check (starts round bounds tip) s (first_answer bounds.last) blocks b fed)
        ∙ open_is (feeds check s b).0

-- A scan that was fed one block more, and needs another, stands behind that block.
pub fed_behind : {Dir : Type 0} (check : Check) (round : Round) (bounds : Bounds) (tip : Option Tip) (blocks : List (Block Dir)) (b : Block Dir) (s now : Scan) → IsFed check round bounds tip blocks s
    → feeds check s b ≡ (answer.Need, now) → IsSome now.next → IsFed check round bounds tip (blocks ++ b ∷ []) now
fed_behind check round bounds tip blocks b s now is fed awaits = record { fed = fed_more check (starts round bounds tip) s (first_answer bounds.last) blocks b is.fed ∙ fed; awaits = awaits }

-- WHAT WAS ANSWERED

pub needs_is : (x : declared.Fed) → including.is_need (fed_of x) ≡ true → x ≡ answer.Need
needs_is answer.Need is = refl
needs_is (answer.Logs found) is = absurd (let e : false ≡ true = is in cc)
needs_is (answer.Unavailable why) is = absurd (let e : false ≡ true = is in cc)

pub not_need : (x : declared.Fed) → including.is_need (fed_of x) ≡ false → x ≡ answer.Need → ⊥
not_need x none is = let e : true ≡ false = sym (ap (λ (f : declared.Fed). including.is_need (fed_of f)) is) ∙ none in cc

pub is_answered : (x : declared.Fed) → (x ≡ answer.Need → ⊥) → including.is_need (fed_of x) ≡ false
is_answered answer.Need apart = absurd (apart refl)
is_answered (answer.Logs found) apart = refl
is_answered (answer.Unavailable why) apart = refl

-- FOUND LOGS FILL IN

pub filled_is : (logs others : LogMap) → map_of others ≡ others → map_of (logs ++ others) ≡ filled_by logs others
filled_is [] others is = is
filled_is (p ∷ logs) others is = ap (λ (l : LogMap). with_pair p l) (filled_is logs others is)

pub if_ok : {A E : Type 0} {P Q : A → Type 0} (r : Result A E) → ((x : A) → P x → Q x) → IfOk r P → IfOk r Q
if_ok (Ok x) so is = so x is
if_ok (Err e) so is = tt

-- It stays as it was answered, unless it needs more and its ancestry has ended.
pub open_by : (ended : Bool) (x : declared.Fed) → (true ≡ including.is_need (fed_of x) → ended ≡ false) → closed_by ended x ≡ fed_of x
open_by ended answer.Need on = ap (λ (b : Bool). if b then Lacks Short else Need) (on refl)
open_by ended (answer.Logs found) on = refl
open_by ended (answer.Unavailable why) on = refl
