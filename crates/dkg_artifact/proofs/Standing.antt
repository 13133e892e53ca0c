-- What a scan's answers say of an ancestry.
use Rattle.std.proofs.Common.{◌≡◌, ◌≢◌, ℕ, ◌-◌, ◌<◌, ◌≤◌, Bool, true, false, cond, eqb, ◌&&◌, not, List, [], ◌∷◌, Option, Some, None, Result, Ok, Err, is_none, inl, inr, refl, sym, ap, subst, ◌∙◌, arith}
use Rattle.std.specs.Prelude.{nat_lt, ◌==◌, IfSome, IfOk}
use Rattle.std.specs.Option.{option_map_or}
use Rattle.std.specs.Str.{bytes_eq}
use Rattle.std.proofs.lemmas.Bool.{eqb-true}
use Rattle.std.proofs.lemmas.Bool.Decides.{nat_tests}
use Rattle.std.proofs.lemmas.Slice.Eq.{bytes_eq-Decides}
use Rattle.dkg_values.specs.declared.memory.NoMemory.{NoMemory}
use Rattle.dkg_ceremony.specs.declared.epocher.Bounds.{Bounds}
use Rattle.dkg_ceremony.specs.declared.round.RoundParts.{RoundParts as Round}
use Rattle.dkg_ceremony.specs.Outcomes.{LogMap}
use Rattle.dkg_types.specs.Blocks.{Block}
use Rattle.dkg_types.specs.Paths.{logs_of_path}
use Rattle.dkg_infos.specs.declared.entry.Why.{Why}
use Rattle.dkg_infos.specs.declared.entry.Why.TheVariants.{Short, WrongHeight, Unlinked, Detached, Following, Terminal, Finished, Held}
use Rattle.dkg_artifact.specs.declared.scan.Fed.{Fed}
use Rattle.dkg_artifact.specs.declared.scan.Fed.TheVariants.{Need, Logs, Unavailable}
use Rattle.dkg_artifact.specs.Seen.{Next, Scan}
use Rattle.dkg_artifact.specs.declared.scan.Stand.{Stand}
use Rattle.dkg_artifact.specs.declared.scan.Stand.TheVariants.{Final, Between, Lowest, Refused}
use Rattle.dkg_artifact.specs.declared.scan.Tip.{Tip}
use Rattle.dkg_artifact.specs.Found.{with_log}
use Rattle.dkg_artifact.specs.Scans.{Check, lowest, tip_below, first_next, is_final, names_another, link_of, stand_of, added, with_lower, answers_block, feeds, above}
use Rattle.dkg_artifact.specs.Ancestries.{IsLinked, BeginsBelow, IsUnderWay, awaited, named_on_path, IsNamed, StandsAtPath, IsNextOnPath, CompletesPath, IsLogs, SaysOfBlock, Says, SaysOfPath}
use Rattle.dkg_artifact.proofs.ScanLaws.{from_none, lower_path, final_path}

-- WHAT A TEST SAYS

either : (P : Stand → Type 0) (b : Bool) (x y : Stand) → (b ≡ true → P x) → (b ≡ false → P y) → P (cond b x y)
either P true x y f g = f refl
either P false x y f g = g refl

first : (a b : Bool) → (a && b) ≡ true → a ≡ true
first true b e = refl
first false b e = absurd (cc)

second : (a b : Bool) → (a && b) ≡ true → b ≡ true
second true b e = e
second false b e = absurd (cc)

was_true : (b : Bool) → not b ≡ false → b ≡ true
was_true true e = refl
was_true false e = absurd (cc)

is_nothing : {A : Type 0} (o : Option A) → is_none o ≡ true → o ≡ None
is_nothing None e = refl
is_nothing (Some a) e = absurd (cc)

is_the_same : (named_on_path : Option (List ℕ)) (digest : List ℕ) → names_another named_on_path digest ≡ false → IfSome named_on_path (λ d. d ≡ digest)
is_the_same None digest e = tt
is_the_same (Some d) digest e = (bytes_eq-Decides d digest).0 (was_true (bytes_eq d digest) e)

is_another : (named_on_path : Option (List ℕ)) (digest : List ℕ) → names_another named_on_path digest ≡ true → IfSome named_on_path (λ d. d ≡ digest) → ⊥
is_another None digest e same = absurd (cc)
is_another (Some d) digest e same = let equal : bytes_eq d digest ≡ true = (bytes_eq-Decides d digest).1 same in absurd (cc)

-- WHERE A BLOCK STANDS

-- why a block is refused, by the scan's own tests
abbrev Refused_as : {Dir : Type 0} → Scan → Next → Block Dir → Why → Type 0
Refused_as s n b (WrongHeight wanted got) = (wanted ≡ n.height) × (got ≡ b.height) × (got ≢ wanted) × (n.digest ≡ None → b.height ≢ s.last)
Refused_as s n b (Unlinked height) = (height ≡ b.height) × (b.height ≡ n.height) × (names_another n.digest b.digest ≡ true)
Refused_as s n b (Detached height) = (height ≡ b.height) × (b.height ≡ n.height) × (names_another n.digest b.digest ≡ false) × (b.height ≤ s.down_to) × (names_another s.below (link_of s.down_to b) ≡ true)
Refused_as s n b Short = ⊥
Refused_as s n b Following = ⊥
Refused_as s n b Terminal = ⊥
Refused_as s n b Finished = ⊥
Refused_as s n b Held = ⊥

abbrev Stood : {Dir : Type 0} → Scan → Next → Block Dir → Stand → Type 0
Stood s n b Final = (n.digest ≡ None) × (b.height ≡ s.last)
Stood s n b Between = (b.height ≡ n.height) × (names_another n.digest b.digest ≡ false) × (s.down_to < b.height)
Stood s n b Lowest = (b.height ≡ n.height) × (names_another n.digest b.digest ≡ false) × (b.height ≤ s.down_to) × (names_another s.below (link_of s.down_to b) ≡ false)
Stood s n b (Refused why) = Refused_as s n b why

other_height : (a b : ℕ) → not (a == b) ≡ true → a ≢ b
other_height a b e same = let equal : eqb a b ≡ true = grind (arith, nat_tests) in absurd (cc)

other_last : (none final : Bool) → (none && final) ≡ false → none ≡ true → final ≡ false
other_last true final e is = e
other_last false final e is = absurd (cc)

stood : {Dir : Type 0} (s : Scan) (n : Next) (b : Block Dir) → Stood s n b (stand_of s n b)
stood s n b =
    let lowest_or = cond (names_another s.below (link_of s.down_to b)) (Refused (Detached b.height)) Lowest in
    let between_or = cond (nat_lt s.down_to b.height) Between lowest_or in
    let linked_or = cond (names_another n.digest b.digest) (Refused (Unlinked b.height)) between_or in
    let at_or = cond (not (b.height == n.height)) (Refused (WrongHeight n.height b.height)) linked_or in
    let P : Stand → Type 0 = Stood s n b in
    either P (is_final s n b) Final at_or (λ e. (is_nothing n.digest (first (is_none n.digest) (b.height == s.last) e), eqb-true b.height s.last (second (is_none n.digest) (b.height == s.last) e))) (λ not_final.
    either P (not (b.height == n.height)) (Refused (WrongHeight n.height b.height)) linked_or (λ other. (
      refl,
      refl,
      other_height b.height n.height other,
      λ nothing same.
          let none : is_none n.digest ≡ true = ap is_none nothing in
          let unequal : eqb b.height s.last ≡ false = other_last (is_none n.digest) (b.height == s.last) not_final none in
          let equal : eqb b.height s.last ≡ true = grind (arith, nat_tests) in
          absurd (cc),
    )) (λ e.
    let same : b.height ≡ n.height = eqb-true b.height n.height (was_true (b.height == n.height) e) in
    either P (names_another n.digest b.digest) (Refused (Unlinked b.height)) between_or (λ other. (refl, same, other)) (λ linked.
    either P (nat_lt s.down_to b.height) Between lowest_or (λ higher. (same, linked, grind (arith, nat_tests))) (λ not_higher.
    let low : b.height ≤ s.down_to = grind (arith, nat_tests) in
    either P (names_another s.below (link_of s.down_to b)) (Refused (Detached b.height)) Lowest (λ off. (refl, same, linked, low, off)) (λ on. (same, linked, low, on))))))

-- ONE BLOCK MORE

module _ {Dir : Type 0} (bounds : Bounds) (tip : Option Tip) (some : 0 < bounds.last) where
  no_path : (path : List (Block Dir)) → named_on_path path ≡ None → path ≡ []
  no_path [] e = refl
  no_path (c ∷ path) e = absurd (cc)

  -- no block of a path is above the final one
  under_final : (c : Block Dir) (path : List (Block Dir)) → IsLinked (c ∷ path) → BeginsBelow bounds.last (c ∷ path) → c.height ≤ bounds.last
  under_final c [] linked begins = elim begins [ inl e ↦ omega arith | inr e ↦ omega arith ]
  under_final c (d ∷ path) linked begins = let above = under_final d path linked.2 begins in let step = linked.0 in omega arith

  awaited_below : (path : List (Block Dir)) → IsLinked path → BeginsBelow bounds.last path → awaited bounds.last path < bounds.last
  awaited_below [] linked begins = omega (arith, some)
  awaited_below (c ∷ path) linked begins = let le = under_final c path linked begins in omega (arith, some)

  links : (b : Block Dir) (path : List (Block Dir)) → IsUnderWay bounds tip path → IsNextOnPath bounds.last path b → IsLinked (b ∷ path)
  links b [] under next = tt
  links b (c ∷ path) under next =
      let at : b.height ≡ c.height - 1 = next.0 in
      let more : 0 < c.height = elim under.higher.0 [ inl lt ↦ omega arith | inr e ↦ omega (arith, some) ] in
      (omega arith, next.1, under.linked)

  begins_at : (b : Block Dir) (path : List (Block Dir)) → IsUnderWay bounds tip path → IsNextOnPath bounds.last path b → BeginsBelow bounds.last (b ∷ path)
  begins_at b [] under next = inr (let at : b.height ≡ bounds.last - 1 = next.0 in omega (arith, some))
  begins_at b (c ∷ path) under next = under.begins

  final_way : (b : Block Dir) (path : List (Block Dir)) → named_on_path path ≡ None → b.height ≡ bounds.last → IsUnderWay bounds tip (b ∷ path)
  final_way b [] none at = record { linked = tt; begins = inl at; higher = (inr at, tt) }
  final_way b (c ∷ path) none at = absurd (cc)

  between_way : (b : Block Dir) (path : List (Block Dir)) → IsUnderWay bounds tip path → IsNextOnPath bounds.last path b → lowest bounds.midpoint tip < b.height → IsUnderWay bounds tip (b ∷ path)
  between_way b path under next higher = record { linked = links b path under next; begins = begins_at b path under next; higher = (inl higher, under.higher) }

module _ {Dir : Type 0} (check : Check) (round : Round) (bounds : Bounds) (tip : Option Tip) where
  pub begun : (s : Scan) → s.round ≡ round → s.last ≡ bounds.last → s.down_to ≡ lowest bounds.midpoint tip → s.below ≡ tip_below bounds.midpoint tip → s.next ≡ first_next bounds.last → s.found ≡ [] → 0 < bounds.last
      → StandsAtPath {Dir = Dir} check round bounds tip [] s
  begun s its_round its_last its_lowest its_below its_first empty some = record {
    under_way = record { linked = tt; begins = tt; higher = tt };
    some = some;
    its_round = its_round;
    its_last = its_last;
    its_lowest = its_lowest;
    its_below = its_below;
    its_next = let more : eqb bounds.last 0 ≡ false = grind (arith, nat_tests) in its_first ∙ ap (λ (none : Bool). cond none None (Some (record { height = bounds.last - 1; digest = None }))) more;
    its_logs = empty ∙ sym (from_none check bounds.midpoint bounds.last round);
  }

  module _ (path : List (Block Dir)) (s : Scan) (b : Block Dir) (known : StandsAtPath check round bounds tip path s) where
    abbrev next : Next
    next = record { height = awaited bounds.last path; digest = named_on_path path }

    lower_logs : b.height < bounds.last → with_lower check s b ≡ logs_of_path check bounds.midpoint bounds.last round (above tip (b ∷ path))
    lower_logs lt =
        ap (λ (r : Round). with_log (added check r s.down_to b) s.found) known.its_round
        ∙ ap (λ (d : ℕ). with_log (added check round d b) s.found) known.its_lowest
        ∙ ap (λ (f : LogMap). with_log (added check round (lowest bounds.midpoint tip) b) f) known.its_logs
        ∙ lower_path check bounds.midpoint bounds.last round tip b path lt

    below_final : b.height ≡ awaited bounds.last path → b.height < bounds.last
    below_final at = let lt = awaited_below bounds tip known.some path known.under_way.linked known.under_way.begins in omega arith

    is_next : b.height ≡ awaited bounds.last path → names_another (named_on_path path) b.digest ≡ false → IsNextOnPath bounds.last path b
    is_next at linked = (at, is_the_same (named_on_path path) b.digest linked)

    -- whether a digest is another than the tip's, where one is asked
    tip_test : (v : Bool) → names_another s.below (link_of s.down_to b) ≡ v → names_another (tip_below bounds.midpoint tip) (link_of (lowest bounds.midpoint tip) b) ≡ v
    tip_test v e =
        sym (ap (λ (d : Option (List ℕ)). names_another d (link_of s.down_to b)) known.its_below ∙ ap (λ (d : ℕ). names_another (tip_below bounds.midpoint tip) (link_of d b)) known.its_lowest) ∙ e

    says_of : (stand : Stand) → Stood s next b stand → Says check round bounds tip path b (answers_block check s b stand).0 (answers_block check s b stand).1
    says_of Final at =
        let height : b.height ≡ bounds.last = at.1 ∙ known.its_last in
        let way = final_way bounds tip known.some b path at.0 height in
        record {
          answers = way;
          goes_on = λ _. record {
            under_way = way;
            some = known.some;
            its_round = known.its_round;
            its_last = known.its_last;
            its_lowest = known.its_lowest;
            its_below = known.its_below;
            its_next = refl;
            its_logs = known.its_logs ∙ sym (final_path check bounds.midpoint bounds.last round tip b path height);
          };
        }
    says_of Between at =
        let way = between_way bounds tip known.some b path known.under_way (is_next at.0 at.1) (subst (λ (d : ℕ). d < b.height) known.its_lowest at.2) in
        record {
          answers = way;
          goes_on = λ _. record {
            under_way = way;
            some = known.some;
            its_round = known.its_round;
            its_last = known.its_last;
            its_lowest = known.its_lowest;
            its_below = known.its_below;
            its_next = refl;
            its_logs = lower_logs (below_final at.0);
          };
        }
    says_of Lowest at =
        let awaits = is_next at.0 at.1 in
        record {
          answers = (
            record {
              linked = links bounds tip known.some b path known.under_way awaits;
              begins = begins_at bounds tip known.some b path known.under_way awaits;
              below_final = below_final at.0;
              low = subst (λ (d : ℕ). b.height ≤ d) known.its_lowest at.2;
              on_tip = is_the_same (tip_below bounds.midpoint tip) (link_of (lowest bounds.midpoint tip) b) (tip_test false at.3);
            },
            lower_logs (below_final at.0),
          );
          goes_on = λ e. absurd (cc);
        }
    says_of (Refused (WrongHeight wanted got)) at = record { answers = (at.0, at.1, at.2, λ none e. at.3 (ap named_on_path none) (sym at.1 ∙ e ∙ sym known.its_last)); goes_on = λ e. absurd (cc) }
    says_of (Refused (Unlinked height)) at = record { answers = (at.0, at.0 ∙ at.1, is_another (named_on_path path) b.digest at.2); goes_on = λ e. absurd (cc) }
    says_of (Refused (Detached height)) at = record {
      answers = (
        at.0,
        is_next at.1 at.2,
        subst (λ (d : ℕ). height ≤ d) known.its_lowest (subst (λ (h : ℕ). h ≤ s.down_to) (sym at.0) at.3),
        is_another (tip_below bounds.midpoint tip) (link_of (lowest bounds.midpoint tip) b) (tip_test true at.4),
      );
      goes_on = λ e. absurd (cc);
    }
    says_of (Refused Short) at = absurd at
    says_of (Refused Following) at = absurd at
    says_of (Refused Terminal) at = absurd at
    says_of (Refused Finished) at = absurd at
    says_of (Refused Held) at = absurd at

    pub feed_says : Says check round bounds tip path b (feeds check s b).0 (feeds check s b).1
    feed_says =
        let fed : feeds check s b ≡ answers_block check s b (stand_of s next b) = ap (λ (o : Option Next). option_map_or (λ m. answers_block check s b (stand_of s m b)) o (Unavailable Short, s)) known.its_next in
        subst (λ (p : Fed × Scan). Says check round bounds tip path b p.0 p.1) (sym fed) (says_of (stand_of s next b) (stood s next b))

pub says_of_path : {Dir : Type 0} (check : Check) (s : Scan) (b : Block Dir) (result : Result Fed NoMemory) (after : Scan) → IfOk result (λ fed. (fed, after) ≡ feeds check s b)
    → IfOk result (λ fed. SaysOfPath check s b fed after)
says_of_path check s b (Ok fed) after e = λ round bounds tip path known. subst (λ (p : Fed × Scan). Says check round bounds tip path b p.0 p.1) (sym e) (feed_says check round bounds tip path s b known)
says_of_path check s b (Err none) after e = tt

-- EACH ANSWER EXCLUDES THE OTHERS

module _ {Dir : Type 0} (bounds : Bounds) (tip : Option Tip) (some : 0 < bounds.last) where
  -- a block behind a path is the awaited one, where it is linked and isn't the final block
  at_awaited : (b : Block Dir) (path : List (Block Dir)) → IsLinked (b ∷ path) → BeginsBelow bounds.last (b ∷ path) → (path ≡ [] → b.height ≢ bounds.last) → b.height ≡ awaited bounds.last path
  at_awaited b [] linked begins lower = elim begins [ inl e ↦ absurd (lower refl e) | inr e ↦ omega arith ]
  at_awaited b (c ∷ path) linked begins lower = let step = linked.0 in omega arith

  is_named : (b : Block Dir) (path : List (Block Dir)) → IsLinked (b ∷ path) → IsNamed b path
  is_named b [] linked = tt
  is_named b (c ∷ path) linked = linked.1

  -- a block that is needed and isn't the last such one
  leads_on : (b : Block Dir) (path : List (Block Dir)) → IsUnderWay bounds tip path → IsUnderWay bounds tip (b ∷ path) → b.height ≡ awaited bounds.last path → b.height ≤ lowest bounds.midpoint tip → ⊥
  leads_on b path under way at low = elim way.higher.0 [
    | inl higher ↦ absurd (omega arith)
    | inr final ↦ let below = awaited_below bounds tip some path under.linked under.begins in absurd (omega arith)
  ]

  pub need_alone : (check : Check) (round : Round) (path : List (Block Dir)) (b : Block Dir) (answer : Fed) → IsUnderWay bounds tip path → SaysOfBlock check round bounds tip path b answer → IsUnderWay bounds tip (b ∷ path) → answer ≡ Need
  need_alone check round path b Need under said way = refl
  need_alone check round path b (Logs logs) under said way = elim way.higher.0 [
    | inl higher ↦ let low = said.0.low in absurd (omega arith)
    | inr final ↦ let below = said.0.below_final in absurd (omega arith)
  ]
  need_alone check round path b (Unavailable (WrongHeight wanted got)) under said way =
      absurd (said.2 (said.1 ∙ at_awaited b path way.linked way.begins (λ none e. said.3 none (said.1 ∙ e)) ∙ sym said.0))
  need_alone check round path b (Unavailable (Unlinked height)) under said way = absurd (said.2 (is_named b path way.linked))
  need_alone check round path b (Unavailable (Detached height)) under said way = absurd (leads_on b path under way said.1.0 (subst (λ (h : ℕ). h ≤ lowest bounds.midpoint tip) said.0 said.2))
  need_alone check round path b (Unavailable Short) under said way = absurd said
  need_alone check round path b (Unavailable Following) under said way = absurd said
  need_alone check round path b (Unavailable Terminal) under said way = absurd said
  need_alone check round path b (Unavailable Finished) under said way = absurd said
  need_alone check round path b (Unavailable Held) under said way = absurd said

  pub logs_alone : (check : Check) (round : Round) (path : List (Block Dir)) (b : Block Dir) (answer : Fed) → IsUnderWay bounds tip path → SaysOfBlock check round bounds tip path b answer → CompletesPath bounds tip path b → IsLogs answer
  logs_alone check round path b Need under said done = elim said.higher.0 [
    | inl higher ↦ let low = done.low in absurd (omega arith)
    | inr final ↦ let below = done.below_final in absurd (omega arith)
  ]
  logs_alone check round path b (Logs logs) under said done = tt
  logs_alone check round path b (Unavailable (WrongHeight wanted got)) under said done =
      absurd (said.2 (said.1 ∙ at_awaited b path done.linked done.begins (λ none e. let below = done.below_final in omega arith) ∙ sym said.0))
  logs_alone check round path b (Unavailable (Unlinked height)) under said done = absurd (said.2 (is_named b path done.linked))
  logs_alone check round path b (Unavailable (Detached height)) under said done = absurd (said.3 done.on_tip)
  logs_alone check round path b (Unavailable Short) under said done = absurd said
  logs_alone check round path b (Unavailable Following) under said done = absurd said
  logs_alone check round path b (Unavailable Terminal) under said done = absurd said
  logs_alone check round path b (Unavailable Finished) under said done = absurd said
  logs_alone check round path b (Unavailable Held) under said done = absurd said
