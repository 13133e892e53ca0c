-- How a step of a life moves its tip, its stage and its epoch; and which blocks are of the form.
use Rattle.std.proofs.Common.{◌≡◌, ◌<◌, ◌≤◌, ◌⊎◌, inl, inr, ℕ, Bool, true, false, nat_le, List, Option, Some, None, refl, sym, ◌∙◌, ap, subst, arith}
use Rattle.std.specs.Prelude.{◌+◌, ◌==◌, ◌&&◌, filter, nat_lt, not, is_some, if◌then◌else◌}
use Rattle.std.specs.Option.{option_map_or}
use Rattle.std.specs.Str.{bytes_eq}
use Rattle.std.proofs.lemmas.Bool.Decides.{nat_tests}
use Rattle.dkg_values.specs.Rising.{lookup}
use Rattle.dkg_ceremony.specs.declared.phase.Phase.{Phase}
use Rattle.dkg_ceremony.specs.declared.phase.Phase.TheVariants.{Early, Midpoint, Late}
use Rattle.dkg_ceremony.specs.declared.round.RoundParts.{RoundParts as Round}
use Rattle.dkg_ceremony.specs.Schedule.{epoch_of, midpoint, last as last_height}
use Rattle.dkg_types.specs.Blocks.{Block}
use Rattle.dkg_infos.specs.declared.fault.Fault.{Fault}
use Rattle.dkg_infos.specs.declared.fault.Fault.TheVariants.{HeightRange, ConflictingBlock, DetachedBlock, SkippedHeight, OutOfWindow}
use Rattle.dkg_store.specs.Acts.{Held}
use Rattle.dkg_core.specs.Sources.{Tip}
use Rattle.dkg_core.specs.Fixed.{Fixed}
use Rattle.dkg_core.specs.Live.{Live, Dealer, Stage, Deals, Includes, Follows, Ends, Mail, Message, Mailed, Peer, Finalized, NextLog, ReleaseLog, EpochInfoOf, Feed, Over, Cancel, Work, awaited_height, phase_of, is_last_height, recorded_at, with_inclusion, with_queue, with_tip}
use Rattle.dkg_core.specs.Setup.{begins_inclusion, is_past_range}
use Rattle.dkg_core.specs.Blocks.{is_early, is_in_window, is_in_window_in}
use Rattle.dkg_core.specs.Dealing.{counts, with_ack}
use Rattle.dkg_core.specs.Endings.{stage_in, tip_behind}
use Rattle.dkg_core.specs.Asked.{OfShares}
use Rattle.dkg_core.specs.Forms.{IsForm, IsLiveIn, Judged, Refusal, Passed, Applied, judged_block, judged_over_tip}
use Rattle.dkg_core.specs.Including.{is_served_at}
use Rattle.dkg_core.specs.Stepping.{IsHeardBy, dealt_behind, given_itself, with_taken}
use Rattle.dkg_core.specs.Through.{IsAppliedThrough, IsBlockThrough, IsEndThrough, IsFollowedThrough, IsIncludedThrough, IsLiveThrough, IsNextThrough, IsPassedOn, IsReadFrom, IsStillThrough, PassesNothingOn, asked_by, included, unasked, waits_for}
use Rattle.dkg_core.proofs.Heights.{below_middle}
use Rattle.dkg_core.proofs.Applied.{deals_below}
use Rattle.dkg_laws.proofs.StillThrough.{next_lives_stay_through}

-- APART

deals_apart : ◌≡◌ {A = Stage} Deals Follows → ⊥
deals_apart e = cc

includes_apart : ◌≡◌ {A = Stage} Includes Follows → ⊥
includes_apart e = cc

ends_apart : ◌≡◌ {A = Stage} Ends Follows → ⊥
ends_apart e = cc

refusal_apart : (fault : Fault) → ◌≡◌ {A = Judged} (Refusal fault) Applied → ⊥
refusal_apart fault e = cc

refusal_passed : (fault : Fault) → ◌≡◌ {A = Judged} (Refusal fault) Passed → ⊥
refusal_passed fault e = cc

passed_apart : ◌≡◌ {A = Judged} Passed Applied → ⊥
passed_apart e = cc

applied_passed : ◌≡◌ {A = Judged} Applied Passed → ⊥
applied_passed e = cc

bools_apart : (t : Bool) → t ≡ true → t ≡ false → ⊥
bools_apart t e f = let wrong : true ≡ false = sym e ∙ f in cc

first_of : (a b : Bool) → (a && b) ≡ true → a ≡ true
first_of true b e = refl
first_of false b e = absurd (bools_apart false e refl)

same_number : (n m : ℕ) → (n == m) ≡ true → n ≡ m
same_number n m e = grind (arith, nat_tests)

-- A STAGE of a round

pub takes_part : (phase : Phase) → stage_in phase ≡ Follows → ⊥
takes_part Early e = deals_apart e
takes_part Midpoint e = includes_apart e
takes_part Late e = includes_apart e

no_end : (phase : Phase) → stage_in phase ≡ Ends → ⊥
no_end Early e = cc
no_end Midpoint e = cc
no_end Late e = cc

-- A LIFE

module _ {Dir : Type 0} (c : Fixed Dir) where
  -- one with a round takes part
  pub with_round : (st : Live Dir) (round : Round) → IsLiveIn c st → st.participation.round ≡ Some round → st.participation.stage ≡ Follows → ⊥
  with_round st round live is e = takes_part (phase_of c (awaited_height st)) (sym (live.in_round round is) ∙ e)

  -- .. and one that takes part has a round
  pub has_round : (st : Live Dir) → IsLiveIn c st → (st.participation.stage ≡ Follows → ⊥) → (round : Round) × (st.participation.round ≡ Some round)
  has_round st live apart = by_round st.participation.round refl
    where
      by_round : (o : Option Round) → st.participation.round ≡ o → (round : Round) × (st.participation.round ≡ Some round)
      by_round None none = absurd (apart (live.without none).0)
      by_round (Some round) is = (round, is)

  not_ended : (st : Live Dir) → IsLiveIn c st → st.participation.stage ≡ Ends → ⊥
  not_ended st live e = by_round st.participation.round refl
    where
      by_round : (o : Option Round) → st.participation.round ≡ o → ⊥
      by_round None none = ends_apart (sym e ∙ (live.without none).0)
      by_round (Some round) is = no_end (phase_of c (awaited_height st)) (sym (live.in_round round is) ∙ e)

  -- two of the same round follow alike
  follows_alike : (st end : Live Dir) → IsLiveIn c st → IsLiveIn c end → end.participation.round ≡ st.participation.round → st.participation.stage ≡ Follows → end.participation.stage ≡ Follows
  follows_alike st end live next same follows = by_round st.participation.round refl
    where
      by_round : (o : Option Round) → st.participation.round ≡ o → end.participation.stage ≡ Follows
      by_round None none = (next.without (same ∙ none)).0
      by_round (Some round) is = absurd (with_round st round live is follows)

-- A DELIVERED BLOCK, as it is judged

module _ {Dir : Type 0} (c : Fixed Dir) (b : Block Dir) (st : Live Dir) where
  tests_applied : (conflicts skips detached low : Bool) (one two three : Fault)
      → (if conflicts then Refusal one else if skips then Refusal two else if detached then Refusal three else if low then Passed else Applied) ≡ Applied → (skips ≡ false) × (low ≡ false)
  tests_applied true skips detached low one two three e = absurd (refusal_apart one e)
  tests_applied false true detached low one two three e = absurd (refusal_apart two e)
  tests_applied false false true low one two three e = absurd (refusal_apart three e)
  tests_applied false false false true one two three e = absurd (passed_apart e)
  tests_applied false false false false one two three e = (refl, refl)

  tests_passed : (conflicts skips detached low : Bool) (one two three : Fault)
      → (if conflicts then Refusal one else if skips then Refusal two else if detached then Refusal three else if low then Passed else Applied) ≡ Passed → low ≡ true
  tests_passed true skips detached low one two three e = absurd (refusal_passed one e)
  tests_passed false true detached low one two three e = absurd (refusal_passed two e)
  tests_passed false false true low one two three e = absurd (refusal_passed three e)
  tests_passed false false false true one two three e = refl
  tests_passed false false false false one two three e = absurd (applied_passed e)

  past_test : (t : Bool) (fault : Fault) (j its : Judged) → (its ≡ Refusal fault → ⊥) → (if t then Refusal fault else j) ≡ its → j ≡ its
  past_test true fault j its apart e = absurd (apart (sym e))
  past_test false fault j its apart e = e

  in_window : (t : Bool) → (if t then Applied else Refusal (OutOfWindow b.height)) ≡ Applied → t ≡ true
  in_window true e = refl
  in_window false e = absurd (refusal_apart (OutOfWindow b.height) e)

  never_passed : (t : Bool) → (if t then Applied else Refusal (OutOfWindow b.height)) ≡ Passed → ⊥
  never_passed true e = applied_passed e
  never_passed false e = refusal_passed (OutOfWindow b.height) e

  -- an applied block is the awaited one over a tip, and else one of the life's window
  pub record IsApplied : Type 0 where
    pub over : (t : Tip) → st.tip ≡ Some t → b.height ≡ t.height + 1
    pub anew : st.tip ≡ None → is_in_window c b st ≡ true

  pub applied_so : judged_block c b st ≡ Applied → IsApplied
  applied_so e = record { over = λ t is. by_tip t (subst (λ (o : Option Tip). judged_over_tip c b st o ≡ Applied) is judged); anew = λ none. in_window (is_in_window c b st) (subst (λ (o : Option Tip). judged_over_tip c b st o ≡ Applied) none judged) }
    where
      judged : judged_over_tip c b st st.tip ≡ Applied
      judged = past_test (is_past_range c b.height) HeightRange (judged_over_tip c b st st.tip) Applied (λ wrong. refusal_apart HeightRange (sym wrong)) e

      next : (h k : ℕ) → nat_lt (k + 1) h ≡ false → nat_le h k ≡ false → h ≡ k + 1
      next h k skips low = grind (arith, nat_tests)

      by_tip : (t : Tip) → judged_over_tip c b st (Some t) ≡ Applied → b.height ≡ t.height + 1
      by_tip t over =
          let tests = tests_applied ((b.height == t.height) && not (bytes_eq b.digest t.digest)) (nat_lt (t.height + 1) b.height) ((b.height == t.height + 1) && not (bytes_eq b.parent t.digest)) (nat_le b.height t.height)
          (ConflictingBlock b.height) (SkippedHeight (t.height + 1) b.height) (DetachedBlock b.height) over in
          next b.height t.height tests.0 tests.1

  -- one that is passed over stands at the tip or below it
  pub passed_so : judged_block c b st ≡ Passed → (t : Tip) × (st.tip ≡ Some t) × (nat_le b.height t.height ≡ true)
  passed_so e = by_tip st.tip refl (past_test (is_past_range c b.height) HeightRange (judged_over_tip c b st st.tip) Passed (λ wrong. refusal_passed HeightRange (sym wrong)) e)
    where
      by_tip : (o : Option Tip) → st.tip ≡ o → judged_over_tip c b st o ≡ Passed → (t : Tip) × (st.tip ≡ Some t) × (nat_le b.height t.height ≡ true)
      by_tip None is over = absurd (never_passed (is_in_window c b st) over)
      by_tip (Some t) is over = (
        t,
        is,
        tests_passed ((b.height == t.height) && not (bytes_eq b.digest t.digest)) (nat_lt (t.height + 1) b.height) ((b.height == t.height + 1) && not (bytes_eq b.parent t.digest)) (nat_le b.height t.height)
            (ConflictingBlock b.height) (SkippedHeight (t.height + 1) b.height) (DetachedBlock b.height) over,
      )

  -- an applied block stands at the awaited height, or above it where none was processed
  pub applied_high : judged_block c b st ≡ Applied → awaited_height st ≤ b.height
  applied_high e = by_tip st.tip refl
    where
      by_tip : (o : Option Tip) → st.tip ≡ o → option_map_or (λ t. t.height + 1) o 0 ≤ b.height
      by_tip None none = omega arith
      by_tip (Some t) is = let at : b.height ≡ t.height + 1 = (applied_so e).over t is in omega (arith, at)

  -- .. and in the epoch of the awaited height, unless the life follows
  pub applied_here : IsLiveIn c st → IsApplied → (st.participation.stage ≡ Follows → ⊥) → epoch_of c.blocks_per_epoch b.height ≡ epoch_of c.blocks_per_epoch (awaited_height st)
  applied_here live its apart = by_tip st.tip refl
    where
      in_stage : (stage : Stage) → st.participation.stage ≡ stage → is_in_window_in c b st stage ≡ true → epoch_of c.blocks_per_epoch b.height ≡ st.participation.epoch
      in_stage Deals is window = same_number (epoch_of c.blocks_per_epoch b.height) st.participation.epoch (first_of (epoch_of c.blocks_per_epoch b.height == st.participation.epoch) (is_early (phase_of c b.height)) window)
      in_stage Includes is window = same_number (epoch_of c.blocks_per_epoch b.height) st.participation.epoch (first_of (epoch_of c.blocks_per_epoch b.height == st.participation.epoch) (not (is_early (phase_of c b.height))) window)
      in_stage Follows is window = absurd (apart is)
      in_stage Ends is window = absurd (not_ended c st live is)

      by_tip : (o : Option Tip) → st.tip ≡ o → epoch_of c.blocks_per_epoch b.height ≡ epoch_of c.blocks_per_epoch (awaited_height st)
      by_tip None none = in_stage st.participation.stage refl (its.anew none) ∙ live.awaits apart
      by_tip (Some t) is = ap (epoch_of c.blocks_per_epoch) (its.over t is ∙ sym (ap (λ (o : Option Tip). option_map_or (λ t. t.height + 1) o 0) is))

-- THE TIP behind a step

module _ {Dir : Type 0} (c : Fixed Dir) (st : Live Dir) where
  tip_taken : (epoch : ℕ) (d : Dealer) (player : ℕ) (ack : List ℕ) → (with_taken epoch d player ack st).tip ≡ st.tip
  tip_taken epoch d player ack = by_tests (is_some (lookup player d.acks)) (is_some (recorded_at st.records.acks epoch player))
    where
      by_tests : (one two : Bool) → (if one then st else if two then counts d player ack st else counts d player ack (with_ack epoch player ack st)).tip ≡ st.tip
      by_tests true two = refl
      by_tests false true = refl
      by_tests false false = refl

  heard_tip : (from : ℕ) (end : Live Dir) → IsHeardBy c st from end → end.tip ≡ st.tip
  heard_tip from end (inl same) = ap (λ (x : Live Dir). x.tip) same
  heard_tip from end (inr (inl its)) = ap (λ (x : Live Dir). x.tip) its.is
  heard_tip from end (inr (inr its)) = ap (λ (x : Live Dir). x.tip) its.is ∙ tip_taken (its.round).number its.dealer from its.ack

  module _ (b : Block Dir) where
    abbrev its : Tip
    its = record { height = b.height; digest = b.digest }

    pub applied_tip : judged_block c b st ≡ Applied → tip_behind (Finalized b) st.tip ≡ Some its
    applied_tip e = by_tip st.tip refl
      where
        later : (h k : ℕ) → h ≡ k + 1 → nat_le h k ≡ false
        later h k is = grind (arith, nat_tests)

        by_tip : (o : Option Tip) → st.tip ≡ o → (if option_map_or (λ t. nat_le b.height t.height) o false then o else Some its) ≡ Some its
        by_tip None none = refl
        by_tip (Some t) is = ap (λ (low : Bool). if low then Some t else Some its) (later b.height t.height ((applied_so c b st e).over t is))

    passed_tip : judged_block c b st ≡ Passed → tip_behind (Finalized b) st.tip ≡ st.tip
    passed_tip e =
        let so = passed_so c b st e in
        subst (λ (o : Option Tip). (if option_map_or (λ t. nat_le b.height t.height) o false then o else Some its) ≡ o) (sym so.1)
        (ap (λ (low : Bool). if low then Some so.0 else Some its) so.2)

    dealt_tip : (x : Live Dir) → (dealt_behind c b x).tip ≡ Some its
    dealt_tip x = by_test (b.height + 1 == midpoint c.blocks_per_epoch x.participation.epoch)
      where
        by_test : (t : Bool) → (if t then begins_inclusion c (with_tip b x) else with_tip b x).tip ≡ Some its
        by_test true = refl
        by_test false = refl

  -- what is told of requests leaves it
  asked_tip : (its : Mail Dir) → (asked_by its st).tip ≡ st.tip
  asked_tip (Peer from bytes) = refl
  asked_tip (NextLog request height) = refl
  asked_tip (ReleaseLog height) = by_test (is_served_at height st)
    where
      by_test : (t : Bool) → (if t then with_inclusion (record st.inclusion { served = None }) st else st).tip ≡ st.tip
      by_test true = refl
      by_test false = refl
  asked_tip (EpochInfoOf request) = refl
  asked_tip (Feed request block) = refl
  asked_tip (Over request) = refl
  asked_tip (Cancel request) = by_test (waits_for request st)
    where
      by_test : (t : Bool) → (if t then with_inclusion (record st.inclusion { waiter = None }) st else with_queue (filter (λ r. not (r.number == request)) st.inclusion.queue) st).tip ≡ st.tip
      by_test true = refl
      by_test false = refl
  asked_tip (Work handed) = refl

  read_tip : (mid end : Live Dir) → IsReadFrom c mid end → end.tip ≡ mid.tip
  read_tip mid end read = ap (λ (x : Live Dir). x.tip) read.same

  -- it is the block that was applied, and else as it was
  pub next_tip : (stored : OfShares) (message : Message Dir) (devices : Option Held) (end : Live Dir) (left : Option Held) → IsNextThrough c stored st message devices end left → end.tip ≡ tip_behind message st.tip
  next_tip stored (Mailed (Peer from bytes)) devices end left next = heard_tip from end next.is
  next_tip stored (Mailed (NextLog request height)) devices end left next = read_tip (asked_by (NextLog request height) st) end next.is.0 ∙ asked_tip (NextLog request height)
  next_tip stored (Mailed (ReleaseLog height)) devices end left next = read_tip (asked_by (ReleaseLog height) st) end next.is.0 ∙ asked_tip (ReleaseLog height)
  next_tip stored (Mailed (EpochInfoOf request)) devices end left next = read_tip (asked_by (EpochInfoOf request) st) end next.is.0 ∙ asked_tip (EpochInfoOf request)
  next_tip stored (Mailed (Feed request block)) devices end left next = read_tip (asked_by (Feed request block) st) end next.is.0 ∙ asked_tip (Feed request block)
  next_tip stored (Mailed (Over request)) devices end left next = read_tip (asked_by (Over request) st) end next.is.0 ∙ asked_tip (Over request)
  next_tip stored (Mailed (Cancel request)) devices end left next = read_tip (asked_by (Cancel request) st) end next.is.0 ∙ asked_tip (Cancel request)
  next_tip stored (Mailed (Work handed)) devices end left next = read_tip (asked_by (Work handed) st) end next.is.0 ∙ asked_tip (Work handed)
  next_tip stored (Finalized b) devices end left next = by_judged (judged_block c b st) refl next.is
    where
      passed_on : judged_block c b st ≡ Applied → IsPassedOn c stored b st devices end left → end.tip ≡ tip_behind (Finalized b) st.tip
      passed_on e taken = (taken.seated).tip ∙ sym (applied_tip b e)

      follows_on : judged_block c b st ≡ Applied → (last : Bool) → IsFollowedThrough c stored b st devices last end left → end.tip ≡ tip_behind (Finalized b) st.tip
      follows_on e true taken = passed_on e taken
      follows_on e false same = ap (λ (x : Live Dir). x.tip) same ∙ sym (applied_tip b e)

      includes_on : judged_block c b st ≡ Applied → (last : Bool) → IsIncludedThrough c stored b st devices last end left → end.tip ≡ tip_behind (Finalized b) st.tip
      includes_on e true taken = passed_on e taken
      includes_on e false its = read_tip (included c its.0 b st) end its.2 ∙ sym (applied_tip b e)

      by_stage : judged_block c b st ≡ Applied → (stage : Stage) → IsAppliedThrough c stored b st devices stage end left → end.tip ≡ tip_behind (Finalized b) st.tip
      by_stage e Deals dealt = read_tip (dealt_behind c b (given_itself c st)) end dealt ∙ dealt_tip b (given_itself c st) ∙ sym (applied_tip b e)
      by_stage e Follows followed = follows_on e (is_last_height c b.height) followed
      by_stage e Includes its = includes_on e (is_last_height c b.height) its
      by_stage e Ends none = absurd none

      by_judged : (j : Judged) → judged_block c b st ≡ j → IsBlockThrough c stored b st devices j end left → end.tip ≡ tip_behind (Finalized b) st.tip
      by_judged (Refusal fault) e none = absurd none
      by_judged Passed e same = ap (λ (x : Live Dir). x.tip) same.0 ∙ sym (passed_tip b e)
      by_judged Applied e applied = by_stage e st.participation.stage applied

-- STAGE AND EPOCH behind a step

-- an epoch's last block that a life takes: the life takes part in the next epoch from there on
pub record TakesOver {Dir : Type 0} (c : Fixed Dir) (stored : OfShares) (st : Live Dir) (message : Message Dir) (devices : Option Held) (end : Live Dir) (left : Option Held) : Type 0 where
  pub block : Block Dir
  pub is : message ≡ Finalized block
  pub applied : judged_block c block st ≡ Applied
  pub last : is_last_height c block.height ≡ true
  pub stage : (st.participation.stage ≡ Follows) ⊎ (st.participation.stage ≡ Includes)
  pub taken : IsPassedOn c stored block st devices end left

-- any other: the life follows on, or takes part in the same epoch
pub record GoesOn {Dir : Type 0} (c : Fixed Dir) (st : Live Dir) (message : Message Dir) (end : Live Dir) : Type 0 where
  pub nothing : PassesNothingOn c st message
  pub same : IsStillThrough st end
  pub following : st.participation.stage ≡ Follows → end.participation.stage ≡ Follows
  pub parts : end.participation.stage ≡ Follows → st.participation.stage ≡ Follows

module _ {Dir : Type 0} (c : Fixed Dir) (stored : OfShares) (st : Live Dir) (message : Message Dir) (devices : Option Held) (end : Live Dir) (left : Option Held) (form : IsForm c)
    (live : IsLiveThrough c stored st) (next : IsNextThrough c stored st message devices end left) where
  abbrev Either : Type 0
  Either = GoesOn c st message end ⊎ TakesOver c stored st message devices end left

  goes_on : PassesNothingOn c st message → GoesOn c st message end
  goes_on nothing =
      let same = next_lives_stay_through c stored st message devices end left nothing next in
      record {
        nothing = nothing;
        same = same;
        following = follows_alike c (unasked st) (unasked end) live.stands (next.live).stands same.round;
        parts = follows_alike c (unasked end) (unasked st) (next.live).stands live.stands (sym same.round);
      }

  by_block : (b : Block Dir) → message ≡ Finalized b → Either
  by_block b is = by_judged (judged_block c b st) refl
    where
      nothing : (judged_block c b st ≡ Applied → is_last_height c b.height ≡ true → ⊥) → Either
      nothing none = inl (goes_on (subst (PassesNothingOn c st) (sym is) none))

      the_end : IsBlockThrough c stored b st devices (judged_block c b st) end left
      the_end = subst (λ (m : Message Dir). IsEndThrough c stored st m devices end left) is next.is

      applied_end : judged_block c b st ≡ Applied → (stage : Stage) → st.participation.stage ≡ stage → IsAppliedThrough c stored b st devices stage end left
      applied_end applied stage at =
          subst (λ (stage : Stage). IsAppliedThrough c stored b st devices stage end left) at (subst (λ (j : Judged). IsBlockThrough c stored b st devices j end left) applied the_end)

      -- a life that deals takes no last block
      deals_none : judged_block c b st ≡ Applied → st.participation.stage ≡ Deals → is_last_height c b.height ≡ true → ⊥
      deals_none applied deals last =
          let located = deals_below c b st live.stands applied deals in
          below_it b.height (below_middle c.blocks_per_epoch (epoch_of c.blocks_per_epoch b.height) b.height form.counted located.1) (same_number b.height (last_of b.height) last)
        where
          last_of : ℕ → ℕ
          last_of height = last_height c.blocks_per_epoch (epoch_of c.blocks_per_epoch height)

          below_it : (height : ℕ) → height < last_height c.blocks_per_epoch (epoch_of c.blocks_per_epoch b.height) → height ≡ last_height c.blocks_per_epoch (epoch_of c.blocks_per_epoch b.height) → ⊥
          below_it height low same = omega (arith, low, same)

      by_stage : judged_block c b st ≡ Applied → (stage : Stage) → st.participation.stage ≡ stage → (last : Bool) → is_last_height c b.height ≡ last → Either
      by_stage applied Follows at true last = inr (record {
        block = b;
        is = is;
        applied = applied;
        last = last;
        stage = inl at;
        taken = subst (λ (t : Bool). IsFollowedThrough c stored b st devices t end left) last (applied_end applied Follows at);
      })
      by_stage applied Includes at true last = inr (record {
        block = b;
        is = is;
        applied = applied;
        last = last;
        stage = inr at;
        taken = subst (λ (t : Bool). IsIncludedThrough c stored b st devices t end left) last (applied_end applied Includes at);
      })
      by_stage applied Deals at true last = absurd (deals_none applied at last)
      by_stage applied Ends at true last = absurd (not_ended c (unasked st) live.stands at)
      by_stage applied stage at false last = nothing (λ _ wrong. bools_apart (is_last_height c b.height) wrong last)

      by_judged : (j : Judged) → judged_block c b st ≡ j → Either
      by_judged (Refusal fault) e = nothing (λ applied _. refusal_apart fault (sym e ∙ applied))
      by_judged Passed e = nothing (λ applied _. passed_apart (sym e ∙ applied))
      by_judged Applied e = by_stage e st.participation.stage refl (is_last_height c b.height) refl

  pub next_so : GoesOn c st message end ⊎ TakesOver c stored st message devices end left
  next_so = by_message message refl
    where
      by_message : (m : Message Dir) → message ≡ m → Either
      by_message (Mailed mail) is = inl (goes_on (subst (PassesNothingOn c st) (sym is) tt))
      by_message (Finalized b) is = by_block b is

  -- behind a take-over it takes part
  pub parts_behind : TakesOver c stored st message devices end left → end.participation.stage ≡ Follows → ⊥
  parts_behind over = with_round c (unasked end) ((over.taken).seated).round (next.live).stands ((over.taken).seated).in_round
