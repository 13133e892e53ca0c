-- Where a block that is applied lies.
use Rattle.std.proofs.Common.{◌≡◌, ◌≤◌, ◌<◌, ◌⊎◌, inl, inr, ℕ, Bool, true, false, nat_le, Option, Some, None, refl, sym, ◌∙◌, ap, subst, arith}
use Rattle.std.specs.Prelude.{◌+◌, ◌==◌, ◌&&◌, nat_lt, if◌then◌else◌, not}
use Rattle.std.specs.Option.{option_map_or}
use Rattle.std.specs.Str.{bytes_eq}
use Rattle.std.proofs.lemmas.Bool.Decides.{nat_tests}
use Rattle.dkg_ceremony.specs.declared.phase.Phase.{Phase}
use Rattle.dkg_ceremony.specs.declared.phase.Phase.TheVariants.{Early, Midpoint, Late}
use Rattle.dkg_ceremony.specs.declared.round.RoundParts.{RoundParts as Round}
use Rattle.dkg_ceremony.specs.Schedule.{epoch_of, midpoint, phase_at}
use Rattle.dkg_types.specs.Blocks.{Block}
use Rattle.dkg_infos.specs.declared.fault.Fault.{Fault}
use Rattle.dkg_infos.specs.declared.fault.Fault.TheVariants.{HeightRange, ConflictingBlock, DetachedBlock, SkippedHeight, OutOfWindow}
use Rattle.dkg_store.specs.Acts.{Held}
use Rattle.dkg_core.specs.Courses.{Course, Goes, Stops}
use Rattle.dkg_core.specs.Sources.{Tip}
use Rattle.dkg_core.specs.Fixed.{Fixed}
use Rattle.dkg_core.specs.Live.{Live, Stage, Deals, Includes, Follows, Ends, awaited_height, phase_of}
use Rattle.dkg_core.specs.Setup as s
use Rattle.dkg_core.specs.Blocks as b
use Rattle.dkg_core.specs.Endings.{stage_in}
use Rattle.dkg_core.specs.Forms.{IsLiveIn, Judged, Refusal, Passed, Applied, judged_over_tip, judged_block, ComesOver}
use Rattle.dkg_core.specs.Through.{unasked}
use Rattle.dkg_core.proofs.Setups.{over_if}

is_child : (height tip : ℕ) → nat_lt (tip + 1) height ≡ false → nat_le height tip ≡ false → tip + 1 ≡ height
is_child height tip e f = grind (arith, nat_tests)

-- IN THE WINDOW OF THE AWAITED EPOCH, or next over the tip

module _ {Dir : Type 0} (c : Fixed Dir) (block : Block Dir) (st : Live Dir) where
  -- an applied block is one or the other
  next_of : (conflicts skips detached low : Bool) (one two three : Fault)
      → (if conflicts then Refusal one else if skips then Refusal two else if detached then Refusal three else if low then Passed else Applied) ≡ Applied → (skips ≡ false) × (low ≡ false)
  next_of true skips detached low one two three e = absurd (let no : ◌≡◌ {A = Judged} (Refusal one) Applied = e in cc)
  next_of false true detached low one two three e = absurd (let no : ◌≡◌ {A = Judged} (Refusal two) Applied = e in cc)
  next_of false false true low one two three e = absurd (let no : ◌≡◌ {A = Judged} (Refusal three) Applied = e in cc)
  next_of false false false true one two three e = absurd (let no : ◌≡◌ {A = Judged} Passed Applied = e in cc)
  next_of false false false false one two three e = (refl, refl)

  applied_over : (tip : Option Tip) → st.tip ≡ tip → judged_over_tip c block st tip ≡ Applied → (b.is_in_window c block st ≡ true) ⊎ (awaited_height st ≡ block.height)
  applied_over None is e = inl (either (b.is_in_window c block st) e)
    where
      either : (t : Bool) → (if t then Applied else Refusal (OutOfWindow block.height)) ≡ Applied → t ≡ true
      either true e = refl
      either false e = absurd (let no : ◌≡◌ {A = Judged} (Refusal (OutOfWindow block.height)) Applied = e in cc)
  applied_over (Some t) is e =
      let tests = next_of ((block.height == t.height) && not (bytes_eq block.digest t.digest)) (nat_lt (t.height + 1) block.height) ((block.height == t.height + 1) && not (bytes_eq block.parent t.digest))
      (nat_le block.height t.height) (ConflictingBlock block.height) (SkippedHeight (t.height + 1) block.height) (DetachedBlock block.height) e in
      inr (ap (λ (o : Option Tip). option_map_or (λ t. t.height + 1) o 0) is ∙ is_child block.height t.height tests.0 tests.1)

  applied_where : (past : Bool) → (if past then Refusal HeightRange else judged_over_tip c block st st.tip) ≡ Applied → (b.is_in_window c block st ≡ true) ⊎ (awaited_height st ≡ block.height)
  applied_where true e = absurd (let no : ◌≡◌ {A = Judged} (Refusal HeightRange) Applied = e in cc)
  applied_where false e = applied_over st.tip refl e

  pub window_or_next : judged_block c block st ≡ Applied → (b.is_in_window c block st ≡ true) ⊎ (awaited_height st ≡ block.height)
  window_or_next accepted = applied_where (s.is_past_range c block.height) accepted

-- HOW IT IS JUDGED

-- A delivered block is refused, does nothing, or is applied; a life that hasn't ended looks at it. So whatever holds of a course by its tests holds of the block's.
module _ {Dir : Type 0} (c : Fixed Dir) (block : Block Dir) (st : Live Dir) (C : Course Dir Fault (Live Dir) → Type 0)
    (if_so : (t : Bool) (x y : Course Dir Fault (Live Dir)) → (t ≡ true → C x) → (t ≡ false → C y) → C (if t then x else y))
    (refused : (fault : Fault) → judged_block c block st ≡ Refusal fault → C (Stops fault)) (passed : judged_block c block st ≡ Passed → C (Goes st))
    (applied : judged_block c block st ≡ Applied → C (b.applies c block st)) (ended : st.participation.stage ≡ Ends → C (Goes st)) where
  over_tip : (tip : Option Tip) → st.tip ≡ tip → judged_block c block st ≡ judged_over_tip c block st tip → C (b.over_tip_in c block st tip)
  over_tip None is_tip r =
      if_so (b.is_in_window c block st) (b.applies c block st) (Stops (OutOfWindow block.height))
      (λ e. applied (r ∙ ap (λ (t : Bool). if t then Applied else Refusal (OutOfWindow block.height)) e))
      (λ e. refused (OutOfWindow block.height) (r ∙ ap (λ (t : Bool). if t then Applied else Refusal (OutOfWindow block.height)) e))
  over_tip (Some t) is_tip r =
      let conflicts = (block.height == t.height) && not (bytes_eq block.digest t.digest) in
      let skips = nat_lt (t.height + 1) block.height in
      let detached = (block.height == t.height + 1) && not (bytes_eq block.parent t.digest) in
      let low = nat_le block.height t.height in
      let third : Judged = if low then Passed else Applied in
      let second : Judged = if detached then Refusal (DetachedBlock block.height) else third in
      let first : Judged = if skips then Refusal (SkippedHeight (t.height + 1) block.height) else second in
      let old_or_new : Course Dir Fault (Live Dir) = if low then Goes st else b.applies c block st in
      let child : Course Dir Fault (Live Dir) = if detached then Stops (DetachedBlock block.height) else old_or_new in
      let next : Course Dir Fault (Live Dir) = if skips then Stops (SkippedHeight (t.height + 1) block.height) else child in
      if_so conflicts (Stops (ConflictingBlock block.height)) next
      (λ e. refused (ConflictingBlock block.height) (r ∙ ap (λ (x : Bool). if x then Refusal (ConflictingBlock block.height) else first) e))
      (λ e. let r1 = r ∙ ap (λ (x : Bool). if x then Refusal (ConflictingBlock block.height) else first) e in
      if_so skips (Stops (SkippedHeight (t.height + 1) block.height)) child
      (λ e1. refused (SkippedHeight (t.height + 1) block.height) (r1 ∙ ap (λ (x : Bool). if x then Refusal (SkippedHeight (t.height + 1) block.height) else second) e1))
      (λ e1. let r2 = r1 ∙ ap (λ (x : Bool). if x then Refusal (SkippedHeight (t.height + 1) block.height) else second) e1 in
      if_so detached (Stops (DetachedBlock block.height)) old_or_new
      (λ e2. refused (DetachedBlock block.height) (r2 ∙ ap (λ (x : Bool). if x then Refusal (DetachedBlock block.height) else third) e2))
      (λ e2. let r3 = r2 ∙ ap (λ (x : Bool). if x then Refusal (DetachedBlock block.height) else third) e2 in
      if_so low (Goes st) (b.applies c block st)
      (λ e3. passed (r3 ∙ ap (λ (x : Bool). if x then Passed else Applied) e3))
      (λ e3. applied (r3 ∙ ap (λ (x : Bool). if x then Passed else Applied) e3)))))

  in_reach : C (if s.is_past_range c block.height then Stops HeightRange else b.over_tip c block st)
  in_reach =
      if_so (s.is_past_range c block.height) (Stops HeightRange) (b.over_tip c block st)
      (λ e. refused HeightRange (ap (λ (x : Bool). if x then Refusal HeightRange else judged_over_tip c block st st.tip) e))
      (λ e. over_tip st.tip refl (ap (λ (x : Bool). if x then Refusal HeightRange else judged_over_tip c block st st.tip) e))

  by_stage : (stage : Stage) → st.participation.stage ≡ stage → C (b.delivers_in c block st stage)
  by_stage Deals is = in_reach
  by_stage Includes is = in_reach
  by_stage Follows is = in_reach
  by_stage Ends is = ended is

  pub judged_is : C (b.delivers c block st)
  judged_is = by_stage st.participation.stage refl

-- .. where it comes to
pub judged_comes : {Dir : Type 0} (c : Fixed Dir) (block : Block Dir) (st : Live Dir) (devices : Option Held) (stops : Fault → Type 0) (goes : Live Dir → Option Held → Type 0)
    → ((fault : Fault) → judged_block c block st ≡ Refusal fault → stops fault) → (judged_block c block st ≡ Passed → goes st devices)
    → (judged_block c block st ≡ Applied → ComesOver stops goes (b.applies c block st) devices) → (st.participation.stage ≡ Ends → ⊥) → ComesOver stops goes (b.delivers c block st) devices
judged_comes c block st devices stops goes refused passed applied not_ended =
    judged_is c block st (λ course. ComesOver stops goes course devices) (λ t x y one other. over_if stops goes devices t x y one other) refused passed applied (λ is. absurd (not_ended is))

-- PHASES

both_of : (a t : Bool) → (a && t) ≡ true → (a ≡ true) × (t ≡ true)
both_of true t e = (refl, e)
both_of false t e = absurd (let no : ◌≡◌ {A = Bool} false true = e in cc)

not_so : (t : Bool) → not t ≡ true → t ≡ false
not_so true e = absurd (let no : ◌≡◌ {A = Bool} false true = e in cc)
not_so false e = refl

same_number : (n m : ℕ) → (n == m) ≡ true → n ≡ m
same_number n m e = grind (arith, nat_tests)

below : (n m : ℕ) → nat_lt n m ≡ true → n < m
below n m e = grind (arith, nat_tests)

not_below : (n m : ℕ) → nat_lt n m ≡ false → m ≤ n
not_below n m e = grind (arith, nat_tests)

early_test : (middle height : ℕ) → b.is_early (phase_at middle height) ≡ nat_lt height middle
early_test middle height = either (nat_lt height middle) (height == middle)
  where
    either : (low at : Bool) → b.is_early (if low then Early else (if at then Midpoint else Late)) ≡ low
    either true at = refl
    either false true = refl
    either false false = refl

early_deals : (phase : Phase) → Deals ≡ stage_in phase → b.is_early phase ≡ true
early_deals Early e = refl
early_deals Midpoint e = absurd (let no : ◌≡◌ {A = Stage} Deals Includes = e in cc)
early_deals Late e = absurd (let no : ◌≡◌ {A = Stage} Deals Includes = e in cc)

late_includes : (phase : Phase) → Includes ≡ stage_in phase → b.is_early phase ≡ false
late_includes Early e = absurd (let no : ◌≡◌ {A = Stage} Includes Deals = e in cc)
late_includes Midpoint e = refl
late_includes Late e = refl

deals_apart : ◌≡◌ {A = Stage} Deals Follows → ⊥
deals_apart e = cc

includes_apart : ◌≡◌ {A = Stage} Includes Follows → ⊥
includes_apart e = cc

-- IN ITS EPOCH, on the side of the midpoint that the stage takes

module _ {Dir : Type 0} (c : Fixed Dir) (block : Block Dir) (st : Live Dir) (stands : IsLiveIn c (unasked st)) (accepted : judged_block c block st ≡ Applied) where
  abbrev here : Type 0
  here = st.participation.epoch ≡ epoch_of c.blocks_per_epoch block.height

  abbrev middle : ℕ
  middle = midpoint c.blocks_per_epoch (epoch_of c.blocks_per_epoch block.height)

  next_here : (stage : Stage) → st.participation.stage ≡ stage → (stage ≡ Follows → ⊥) → awaited_height st ≡ block.height → here × (stage ≡ stage_in (phase_of c block.height))
  next_here stage is apart next = (stands.awaits takes_part ∙ ap (epoch_of c.blocks_per_epoch) next, by_round st.participation.round refl)
    where
      takes_part : st.participation.stage ≡ Follows → ⊥
      takes_part follows = apart (sym is ∙ follows)

      by_round : (found : Option Round) → st.participation.round ≡ found → stage ≡ stage_in (phase_of c block.height)
      by_round None none = absurd (takes_part (stands.without none).0)
      by_round (Some round) at = sym is ∙ stands.in_round round at ∙ ap (λ (height : ℕ). stage_in (phase_of c height)) next

  pub deals_below : st.participation.stage ≡ Deals → here × (block.height < middle)
  deals_below is = either (window_or_next c block st accepted)
    where
      low : b.is_early (phase_of c block.height) ≡ true → block.height < middle
      low e = below block.height middle (sym (early_test middle block.height) ∙ e)

      either : (b.is_in_window c block st ≡ true) ⊎ (awaited_height st ≡ block.height) → here × (block.height < middle)
      either (inl e) =
          let both = both_of (epoch_of c.blocks_per_epoch block.height == st.participation.epoch) (b.is_early (phase_of c block.height)) (subst (λ (x : Stage). b.is_in_window_in c block st x ≡ true) is e) in
          (sym (same_number (epoch_of c.blocks_per_epoch block.height) st.participation.epoch both.0), low both.1)
      either (inr next) = let its = next_here Deals is deals_apart next in (its.0, low (early_deals (phase_of c block.height) its.1))

  pub includes_above : st.participation.stage ≡ Includes → here × (middle ≤ block.height)
  includes_above is = either (window_or_next c block st accepted)
    where
      high : b.is_early (phase_of c block.height) ≡ false → middle ≤ block.height
      high e = not_below block.height middle (sym (early_test middle block.height) ∙ e)

      either : (b.is_in_window c block st ≡ true) ⊎ (awaited_height st ≡ block.height) → here × (middle ≤ block.height)
      either (inl e) =
          let both = both_of (epoch_of c.blocks_per_epoch block.height == st.participation.epoch) (not (b.is_early (phase_of c block.height))) (subst (λ (x : Stage). b.is_in_window_in c block st x ≡ true) is e) in
          (sym (same_number (epoch_of c.blocks_per_epoch block.height) st.participation.epoch both.0), high (not_so (b.is_early (phase_of c block.height)) both.1))
      either (inr next) = let its = next_here Includes is includes_apart next in (its.0, high (late_includes (phase_of c block.height) its.1))
