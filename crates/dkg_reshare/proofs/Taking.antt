-- A delivered block: how it is judged is what the relation says.
use Rattle.std.proofs.Common.{◌≡◌, ℕ, ◌+◌, ◌^◌, nat_lt, nat_le, Bool, true, false, Option, Some, None, Result, Ok, Err, refl, sym, ◌∙◌, ap, subst}
use Rattle.std.specs.Prelude.{IfErr, List, ◌==◌, ◌&&◌, ◌||◌, is_some, not, if◌then◌else◌}
use Rattle.std.specs.Str.{bytes_eq}
use Rattle.dkg_ceremony.specs.Schedule.{epoch_of, last, midpoint, phase_at, in_range as in_bounds}
use Rattle.dkg_ceremony.specs.declared.epocher.Bounds.{Bounds}
use Rattle.dkg_ceremony.specs.declared.phase.Phase.TheVariants.{Early, Midpoint, Late}
use Rattle.std.specs.Prelude.{nat_eq}
use Rattle.dkg_infos.specs.declared.entry.Entry.{Entry}
use Rattle.dkg_store.specs.Acts.{went}
use Rattle.dkg_fence.specs.Readiness.{Readiness}
use Rattle.dkg_types.specs.Blocks.{Block}
use Rattle.dkg_infos.specs.declared.fault.Fault.{Fault}
use Rattle.dkg_infos.specs.declared.fault.Fault.TheVariants.{ConflictingBlock, DetachedBlock, HeightRange, OutOfWindow, SkippedHeight}
use Rattle.dkg_core.specs.Blocks as blocks
use Rattle.dkg_core.specs.Courses.{Course, Goes, Stops}
use Rattle.dkg_core.specs.Fixed.{Fixed}
use Rattle.dkg_core.specs.Live.{Live}
use Rattle.dkg_core.specs.Setup.{is_past_range}
use Rattle.dkg_core.specs.Sources.{Tip}
use Rattle.dkg_life.specs.declared.life.Life.{Life}
use Rattle.dkg_life.specs.declared.life.Stage.{Stage}
use Rattle.dkg_life.specs.declared.life.Stage.TheVariants.{Dealing, Including, Following}
use Rattle.dkg_life.specs.declared.tip.Judged.{Judged}
use Rattle.dkg_life.specs.declared.tip.Judged.TheVariants.{New, Again}
use Rattle.dkg_life.specs.declared.stop.Stop.TheVariants.{Fault as Faulted}
use Rattle.dkg_blocks.specs.Applied.{IsApplied, is_early_in, is_in_window_by}
use Rattle.dkg_life.specs.Ends.{IsCaused, by_stop, cause_in}
use Rattle.dkg_life.specs.Judged.{judged, judged_over}
use Rattle.dkg_life.specs.LiveOf.{Beside, live_of, stage_of}
use Rattle.dkg_life.specs.Made.{Speaks}
use Rattle.dkg_life.specs.Steps.{AreBoundsAt}
use Rattle.dkg_setup.proofs.Ranges.{is_past, not_past, range_over}
use Rattle.dkg_life.proofs.Speaking.{goes_speaks, stops_speaks}

module _ {Dir : Type 0} (c : Fixed Dir) (b : Block Dir) where
  -- OVER A TIP

  module _ (st : Live Dir) where
    abbrev by_judged : Course Dir Fault (Live Dir) → Result Judged Fault → Course Dir Fault (Live Dir)
    by_judged next (Err e) = Stops e
    by_judged next (Ok Again) = Goes st
    by_judged next (Ok New) = next

    nested : (p q r s : Bool) (e f g : Fault) (next : Course Dir Fault (Live Dir))
        → (if p then Stops e else if q then Stops f else if r then Stops g else if s then Goes st else next)
        ≡ by_judged next (if p then Err e else if q then Err f else if r then Err g else if s then Ok Again else Ok New)
    nested true q r s e f g next = refl
    nested false true r s e f g next = refl
    nested false false true s e f g next = refl
    nested false false false true e f g next = refl
    nested false false false false e f g next = refl

    over_is : (t : Tip) → blocks.over_tip_in c b st (Some t) ≡ by_judged (blocks.applies c b st) (judged_over t b.height b.digest b.parent)
    unfolding judged_over
    over_is t =
        nested ((b.height == t.height) && not (bytes_eq b.digest t.digest)) (nat_lt (t.height + 1) b.height) ((b.height == t.height + 1) && not (bytes_eq b.parent t.digest)) (nat_le b.height t.height)
        (ConflictingBlock b.height) (SkippedHeight (t.height + 1) b.height) (DetachedBlock b.height) (blocks.applies c b st)

    judged_is : (tip : Option Tip) (r : Result Judged Fault) → judged tip b.height b.digest b.parent ≡ r → (tip ≡ None → blocks.is_in_window c b st ≡ true)
        → blocks.over_tip_in c b st tip ≡ by_judged (blocks.applies c b st) r
    unfolding judged
    judged_is None r is window = ap (λ (w : Bool). if w then blocks.applies c b st else Stops (OutOfWindow b.height)) (window refl) ∙ ap (by_judged (blocks.applies c b st)) is
    judged_is (Some t) r is window = over_is t ∙ ap (by_judged (blocks.applies c b st)) is

    outside : (tip : Option Tip) → tip ≡ None → blocks.is_in_window c b st ≡ false → blocks.over_tip_in c b st tip ≡ Stops (OutOfWindow b.height)
    outside tip none out = ap (blocks.over_tip_in c b st) none ∙ ap (λ (w : Bool). if w then blocks.applies c b st else Stops (OutOfWindow b.height)) out

    past_range : (s : Stage) → is_past_range c b.height ≡ true → blocks.delivers_in c b st (stage_of s) ≡ Stops HeightRange
    past_range Dealing e = ap (λ (p : Bool). if p then Stops HeightRange else blocks.over_tip c b st) e
    past_range Including e = ap (λ (p : Bool). if p then Stops HeightRange else blocks.over_tip c b st) e
    past_range Following e = ap (λ (p : Bool). if p then Stops HeightRange else blocks.over_tip c b st) e

    in_range : (s : Stage) → is_past_range c b.height ≡ false → blocks.delivers_in c b st (stage_of s) ≡ blocks.over_tip c b st
    in_range Dealing e = ap (λ (p : Bool). if p then Stops HeightRange else blocks.over_tip c b st) e
    in_range Including e = ap (λ (p : Bool). if p then Stops HeightRange else blocks.over_tip c b st) e
    in_range Following e = ap (λ (p : Bool). if p then Stops HeightRange else blocks.over_tip c b st) e

-- THE WINDOW

late_phase : (p : Bool) → blocks.is_early (if p then Midpoint else Late) ≡ false
late_phase true = refl
late_phase false = refl

early_is : (middle height : ℕ) → blocks.is_early (phase_at middle height) ≡ nat_lt height middle
early_is middle height = by_test (nat_lt height middle)
  where
    by_test : (p : Bool) → blocks.is_early (if p then Early else (if nat_eq height middle then Midpoint else Late)) ≡ p
    by_test true = refl
    by_test false = late_phase (nat_eq height middle)

-- of a life without a tip
abbrev pub window_of : {Dir : Type 0} → (n : ℕ) → Life Dir → Block Dir → Bool
window_of n life b = is_in_window_by life.stage (epoch_of n b.height == life.epoch) (is_early_in n b.height)

module _ {Dir : Type 0} (c : Fixed Dir) (b : Block Dir) (beside : Beside Dir) (fence : Readiness) (old : Life Dir) (n : ℕ) (same : c.blocks_per_epoch ≡ n) where
  window_in : (s : Stage) → blocks.is_in_window_in c b (live_of beside fence old) (stage_of s) ≡ is_in_window_by s (epoch_of n b.height == old.epoch) (is_early_in n b.height)
  window_in Dealing =
      ap (λ (m : ℕ). (epoch_of m b.height == old.epoch) && blocks.is_early (phase_at (midpoint m (epoch_of m b.height)) b.height)) same
      ∙ ap (λ (p : Bool). (epoch_of n b.height == old.epoch) && p) (early_is (midpoint n (epoch_of n b.height)) b.height)
  window_in Including =
      ap (λ (m : ℕ). (epoch_of m b.height == old.epoch) && not (blocks.is_early (phase_at (midpoint m (epoch_of m b.height)) b.height))) same
      ∙ ap (λ (p : Bool). (epoch_of n b.height == old.epoch) && not p) (early_is (midpoint n (epoch_of n b.height)) b.height)
  window_in Following = refl

  window_is : blocks.is_in_window c b (live_of beside fence old) ≡ window_of n old b
  window_is = window_in old.stage

-- by the bounds of its epoch
bounded : {Dir : Type 0} (n height : ℕ) (life : Life Dir) (b : Block Dir) (bounds : Bounds) → AreBoundsAt n bounds height → height ≡ b.height
    → is_in_window_by life.stage (bounds.epoch == life.epoch) (blocks.is_early bounds.phase) ≡ window_of n life b
bounded n height life b bounds are at =
    ap (λ (x : Bounds). is_in_window_by life.stage (x.epoch == life.epoch) (blocks.is_early x.phase)) are.are
    ∙ ap (λ (h : ℕ). is_in_window_by life.stage (epoch_of n h == life.epoch) (blocks.is_early (phase_at (midpoint n (epoch_of n h)) h))) at
    ∙ ap (λ (p : Bool). is_in_window_by life.stage (epoch_of n b.height == life.epoch) p) (early_is (midpoint n (epoch_of n b.height)) b.height)

looked : (o : Option Tip) (w : Bool) → (is_some o || w) ≡ true → o ≡ None → w ≡ true
looked None w is none = is
looked (Some t) w is none = absurd cc

unlooked : (o : Option Tip) (w : Bool) → (is_some o || w) ≡ false → (o ≡ None) × (w ≡ false)
unlooked None w is = (refl, is)
unlooked (Some t) w is = absurd cc

-- what is looked at is applied where it is new
pub is_applied : {Dir : Type 0} (n height : ℕ) (life : Life Dir) (b : Block Dir) (bounds : Bounds) → AreBoundsAt n bounds height → height ≡ b.height
    → (is_some life.tip || is_in_window_by life.stage (bounds.epoch == life.epoch) (blocks.is_early bounds.phase)) ≡ true → judged life.tip b.height b.digest b.parent ≡ Ok New → IsApplied n life b
is_applied n height life b bounds are at looks is = record {
  is_new = is;
  in_window = looked life.tip (window_of n life b) (ap (λ (w : Bool). is_some life.tip || w) (sym (bounded n height life b bounds are at)) ∙ looks);
}

-- WHY IT IS REFUSED

judged_cause : (tip : Option Tip) (height : ℕ) (digest parent : List ℕ) → IfErr (judged tip height digest parent) (λ e. cause_in e ≡ None)
unfolding judged judged_over
judged_cause None height digest parent = tt
judged_cause (Some t) height digest parent =
    by_tests ((height == t.height) && not (bytes_eq digest t.digest)) (nat_lt (t.height + 1) height) ((height == t.height + 1) && not (bytes_eq parent t.digest)) (nat_le height t.height)
  where
    by_tests : (p q r s : Bool) → IfErr (if p then Err (ConflictingBlock height) else if q then Err (SkippedHeight (t.height + 1) height) else if r then Err (DetachedBlock height) else if s then Ok Again else Ok New) (λ e. cause_in e ≡ None)
    by_tests true q r s = refl
    by_tests false true r s = refl
    by_tests false false true s = refl
    by_tests false false false true = tt
    by_tests false false false false = tt

pub refusal_caused : (tip : Option Tip) (height : ℕ) (digest parent : List ℕ) → IfErr (judged tip height digest parent) (λ e. IsCaused (Faulted e) ⊥ ⊥ ⊥)
unfolding judged judged_over
refusal_caused None height digest parent = tt
refusal_caused (Some t) height digest parent =
    by_tests ((height == t.height) && not (bytes_eq digest t.digest)) (nat_lt (t.height + 1) height) ((height == t.height + 1) && not (bytes_eq parent t.digest)) (nat_le height t.height)
  where
    by_tests : (p q r s : Bool) → IfErr (if p then Err (ConflictingBlock height) else if q then Err (SkippedHeight (t.height + 1) height) else if r then Err (DetachedBlock height) else if s then Ok Again else Ok New) (λ e. IsCaused (Faulted e) ⊥ ⊥ ⊥)
    by_tests true q r s = tt
    by_tests false true r s = tt
    by_tests false false true s = tt
    by_tests false false false true = tt
    by_tests false false false false = tt

-- A DELIVERED BLOCK

module _ {Dir : Type 0} (c : Fixed Dir) (b : Block Dir) (beside : Beside Dir) (fence : Readiness) (old : Life Dir) (n : ℕ) (same : c.blocks_per_epoch ≡ n) where
  abbrev st : Live Dir
  st = live_of beside fence old

  abbrev course : Course Dir Fault (Live Dir)
  course = blocks.delivers c b st

  pub no_range : (height : ℕ) (x : Bounds) → height ≡ b.height → None ≡ in_bounds n (epoch_of n height) x → (out : List Entry) → Speaks course (by_stop (Faulted HeightRange)) out out
  no_range height x at none out =
      let past : nat_le (2 ^ 64) (last n (epoch_of n b.height)) ≡ true = subst (λ (h : ℕ). nat_le (2 ^ 64) (last n (epoch_of n h)) ≡ true) at (is_past n height (range_over n height x none)) in
      stops_speaks course HeightRange (past_range c b st old.stage (ap (λ (m : ℕ). nat_le (2 ^ 64) (last m (epoch_of m b.height))) same ∙ past)) refl out

  module _ (height : ℕ) (y : Bounds) (at : height ≡ b.height) (are : AreBoundsAt n y height) where
    over : course ≡ blocks.over_tip_in c b st old.tip
    over =
        let within : nat_le (2 ^ 64) (last n (epoch_of n b.height)) ≡ false = subst (λ (h : ℕ). nat_le (2 ^ 64) (last n (epoch_of n h)) ≡ false) at (not_past n height are.in_range) in
        in_range c b st old.stage (ap (λ (m : ℕ). nat_le (2 ^ 64) (last m (epoch_of m b.height))) same ∙ within)

    abbrev looks : Bool
    looks = is_some old.tip || is_in_window_by old.stage (y.epoch == old.epoch) (blocks.is_early y.phase)

    looks_is : looks ≡ (is_some old.tip || blocks.is_in_window c b st)
    looks_is = ap (λ (w : Bool). is_some old.tip || w) (bounded n height old b y are at ∙ sym (window_is c b beside fence old n same))

    pub no_window : looks ≡ false → (out : List Entry) → Speaks course (by_stop (Faulted (OutOfWindow height))) out out
    no_window not_in out =
        let why = unlooked old.tip (blocks.is_in_window c b st) (sym looks_is ∙ not_in) in
        stops_speaks course (OutOfWindow height) (over ∙ outside c b st old.tip why.0 why.1 ∙ ap (λ (h : ℕ). Stops (OutOfWindow h)) (sym at)) refl out

    module _ (is_in : looks ≡ true) where
      window : old.tip ≡ None → blocks.is_in_window c b st ≡ true
      window = looked old.tip (blocks.is_in_window c b st) (sym looks_is ∙ is_in)

      pub judged_off : (e : Fault) → judged old.tip b.height b.digest b.parent ≡ Err e → (out : List Entry) → Speaks course (by_stop (Faulted e)) out out
      judged_off e is out =
          stops_speaks course e (over ∙ judged_is c b st old.tip (Err e) is window)
          (let P : Result Judged Fault → Type 0 = λ r. IfErr r (λ its. cause_in its ≡ None) in subst P is (judged_cause old.tip b.height b.digest b.parent)) out

      pub taken_again : judged old.tip b.height b.digest b.parent ≡ Ok Again → (out : List Entry) → Speaks course (went st) out out
      taken_again is out = goes_speaks course st st (over ∙ judged_is c b st old.tip (Ok Again) is window) refl out

      -- a new one is applied
      pub taken_new : judged old.tip b.height b.digest b.parent ≡ Ok New → course ≡ blocks.applies c b st
      taken_new is = over ∙ judged_is c b st old.tip (Ok New) is window
