-- Where a life stands, and where the blocks lie that it applies.
use Rattle.std.proofs.Common.{◌≡◌, ℕ, ◌+◌, ◌*◌, ◌/◌, ◌-◌, ◌<◌, ◌≤◌, ◌^◌, nat_lt, nat_le, Bool, true, false, Option, Some, None, Ok, Err, refl, sym, ◌∙◌, ap, subst, arith}
use Rattle.std.specs.Prelude.{IsSome, IsSomeAnd, List, ◌==◌, ◌&&◌, not, if◌then◌else◌}
use Rattle.std.specs.Option.{option_map_or}
use Rattle.std.specs.Str.{bytes_eq}
use Rattle.std.proofs.lemmas.Bool.Decides.{nat_tests}
use Rattle.std.proofs.Math.Nat.{div-mul-le_self, mul-le-mul_left}
use Rattle.std.proofs.lemmas.Nat.{le-div, div_below}
use Rattle.dkg_ceremony.specs.Schedule.{epoch_of, last, midpoint}
use Rattle.dkg_ceremony.specs.declared.epocher.Bounds.{Bounds}
use Rattle.dkg_types.specs.Blocks.{Block}
use Rattle.dkg_infos.specs.declared.fault.Fault.{Fault}
use Rattle.dkg_infos.specs.declared.fault.Fault.TheVariants.{ConflictingBlock, DetachedBlock, SkippedHeight}
use Rattle.dkg_core.specs.Sources.{Tip}
use Rattle.dkg_life.specs.declared.life.Life.{Life}
use Rattle.dkg_life.specs.declared.life.Stage.{Stage}
use Rattle.dkg_life.specs.declared.life.Stage.TheVariants.{Dealing, Including, Following}
use Rattle.dkg_life.specs.declared.tip.Judged.TheVariants.{New, Again}
use Rattle.dkg_blocks.specs.Applied.{IsApplied, is_early_in, is_in_window_by}
use Rattle.dkg_life.specs.Judged.{judged, judged_over}
use Rattle.dkg_life.specs.LiveOf.{IsPlaced, awaited_of}
use Rattle.dkg_life.specs.Steps.{AreBoundsAt}

-- EPOCHS

pub same_epoch : (n e height : ℕ) → 0 < n → e * n ≤ height → height < e * n + n → height / n ≡ e
same_epoch n e height some from to =
    let up = le-div e height n some from in
    let down = div_below height n (e + 1) some (omega (arith, to)) in
    omega (arith, up, down)

-- the next height below a midpoint's lies in the same epoch
pub next_in : (n e height : ℕ) → 2 ≤ n → epoch_of n height ≡ e → height < midpoint n e → epoch_of n (height + 1) ≡ e
next_in n e height long at early =
    let from : e * n ≤ height = subst (λ (x : ℕ). x * n ≤ height) at (div-mul-le_self height n) in
    same_epoch n e (height + 1) (omega (arith, long)) (omega (arith, from)) (omega (arith, early, long))

-- .. and that above any but the last one
pub next_inside : (n e height : ℕ) → 2 ≤ n → epoch_of n height ≡ e → (height ≡ last n e → ⊥) → epoch_of n (height + 1) ≡ e
next_inside n e height long at apart = by_order (nat_lt height (e * n + n)) refl
  where
    from : e * n ≤ height
    from = subst (λ (x : ℕ). x * n ≤ height) at (div-mul-le_self height n)

    by_order : (b : Bool) → nat_lt height (e * n + n) ≡ b → epoch_of n (height + 1) ≡ e
    by_order true is =
        let below : height < e * n + n = grind (arith, nat_tests, is) in
        same_epoch n e (height + 1) (omega (arith, long)) (omega (arith, from)) (omega (arith, below, apart, long))
    by_order false is =
        let above : e * n + n ≤ height = grind (arith, nat_tests, is) in
        let more : e + 1 ≤ epoch_of n height = le-div (e + 1) height n (omega (arith, long)) (omega (arith, above)) in
        absurd (omega (arith, more, at))

-- .. and that behind a last one lies in the next
pub next_behind : (n e height : ℕ) → 2 ≤ n → height ≡ last n e → epoch_of n (height + 1) ≡ e + 1
next_behind n e height long at = same_epoch n (e + 1) (height + 1) (omega (arith, long)) (omega (arith, at, long)) (omega (arith, at, long))

-- an epoch within 64 bits has another one behind it
pub one_more : (n e : ℕ) → 2 ≤ n → last n e < 2 ^ 64 → e + 1 < 2 ^ 64
one_more n e long within = let twice : e * 2 ≤ e * n = mul-le-mul_left e long in omega (arith, within, long, twice)

-- BOUNDS

module _ (n height : ℕ) (bounds : Bounds) (long : 2 ≤ n) (at : AreBoundsAt n bounds height) where
  epoch_at : bounds.epoch ≡ epoch_of n height
  epoch_at = ap (λ (x : Bounds). x.epoch) at.are

  -- there is an epoch behind it
  pub epoch_below : bounds.epoch + 1 < 2 ^ 64
  epoch_below = subst (λ (e : ℕ). e + 1 < 2 ^ 64) (sym epoch_at) (one_more n (epoch_of n height) long at.in_range)

  -- .. in which the height above its last one lies
  pub behind_last : height ≡ bounds.last → epoch_of n (height + 1) ≡ bounds.epoch + 1
  behind_last last = next_behind n (epoch_of n height) height long (last ∙ ap (λ (x : Bounds). x.last) at.are) ∙ ap (λ (e : ℕ). e + 1) (sym epoch_at)

-- HOW A BLOCK IS JUDGED

is_new : (p q r s : Bool) (e f g : Fault) → (if p then Err e else if q then Err f else if r then Err g else if s then Ok Again else Ok New) ≡ Ok New → (q ≡ false) × (s ≡ false)
is_new true q r s e f g is = absurd cc
is_new false true r s e f g is = absurd cc
is_new false false true s e f g is = absurd cc
is_new false false false true e f g is = absurd cc
is_new false false false false e f g is = (refl, refl)

pub new_height : (t : Tip) (height : ℕ) (digest parent : List ℕ) → judged_over t height digest parent ≡ Ok New → height ≡ t.height + 1
unfolding judged_over
new_height t height digest parent is =
    let tests : (nat_lt (t.height + 1) height ≡ false) × (nat_le height t.height ≡ false) =
    is_new ((height == t.height) && not (bytes_eq digest t.digest)) (nat_lt (t.height + 1) height) ((height == t.height + 1) && not (bytes_eq parent t.digest)) (nat_le height t.height)
    (ConflictingBlock height) (SkippedHeight (t.height + 1) height) (DetachedBlock height) is in
    let low : nat_lt (t.height + 1) height ≡ false = tests.0 in
    let high : nat_le height t.height ≡ false = tests.1 in
    grind (arith, nat_tests, low, high)

-- A block in the window of a life that takes part is of its epoch.
of_epoch : (s : Stage) (p q : Bool) → (s ≡ Following → ⊥) → is_in_window_by s p q ≡ true → p ≡ true
of_epoch Dealing true q part is = refl
of_epoch Dealing false q part is = absurd cc
of_epoch Including true q part is = refl
of_epoch Including false q part is = absurd cc
of_epoch Following p q part is = absurd (part refl)

-- A BLOCK THAT IS APPLIED

module _ {Dir : Type 0} (n : ℕ) (old : Life Dir) (placed : IsPlaced n old) (b : Block Dir) where
  epoch_by : (tip : Option Tip) → (old.stage ≡ Following → ⊥) → old.epoch ≡ epoch_of n (option_map_or (λ t. t.height + 1) tip 0) → judged tip b.height b.digest b.parent ≡ Ok New
      → (tip ≡ None → is_in_window_by old.stage (epoch_of n b.height == old.epoch) (is_early_in n b.height) ≡ true) → epoch_of n b.height ≡ old.epoch
  unfolding judged
  epoch_by None part epoch is window = let same : (epoch_of n b.height == old.epoch) ≡ true = of_epoch old.stage (epoch_of n b.height == old.epoch) (is_early_in n b.height) part (window refl) in grind (arith, nat_tests, same)
  epoch_by (Some t) part epoch is window = ap (epoch_of n) (new_height t b.height b.digest b.parent is) ∙ sym epoch

  module _ (its : IsApplied n old b) where
    -- it is of the life's epoch, unless that follows
    pub its_epoch : (old.stage ≡ Following → ⊥) → epoch_of n b.height ≡ old.epoch
    its_epoch part = epoch_by old.tip part (placed.epoch_is part) its.is_new its.in_window

    deals_early : (s : Stage) (p q : Bool) → s ≡ Dealing → is_in_window_by s p q ≡ true → q ≡ true
    deals_early Dealing true q at is = is
    deals_early Dealing false q at is = absurd cc
    deals_early Including p q at is = absurd (let h : ◌≡◌ {A = Stage} Including Dealing = at in cc)
    deals_early Following p q at is = absurd (let h : ◌≡◌ {A = Stage} Following Dealing = at in cc)

    early_by : (tip : Option Tip) → old.stage ≡ Dealing → epoch_of n b.height ≡ old.epoch → old.midpoint ≡ midpoint n old.epoch → option_map_or (λ t. t.height + 1) tip 0 < old.midpoint
        → judged tip b.height b.digest b.parent ≡ Ok New → (tip ≡ None → is_in_window_by old.stage (epoch_of n b.height == old.epoch) (is_early_in n b.height) ≡ true) → b.height < old.midpoint
    unfolding judged
    early_by None deals epoch middle low is window =
        let early : nat_lt b.height (midpoint n (epoch_of n b.height)) ≡ true = deals_early old.stage (epoch_of n b.height == old.epoch) (is_early_in n b.height) deals (window refl) in
        let below : b.height < midpoint n (epoch_of n b.height) = grind (arith, nat_tests, early) in
        subst (λ (m : ℕ). b.height < m) (ap (midpoint n) epoch ∙ sym middle) below
    early_by (Some t) deals epoch middle low is window = subst (λ (h : ℕ). h < old.midpoint) (sym (new_height t b.height b.digest b.parent is)) low

    -- it is below the midpoint while the life deals
    pub is_early : old.stage ≡ Dealing → b.height < old.midpoint
    is_early deals =
        let part : old.stage ≡ Following → ⊥ = λ follows. let h : ◌≡◌ {A = Stage} Dealing Following = sym deals ∙ follows in cc in
        early_by old.tip deals (its_epoch part) (placed.midpoint_is part) (placed.early deals) its.is_new its.in_window

    next_by : (tip : Option Tip) → IsSomeAnd tip (λ t. old.midpoint ≤ t.height + 1) → judged tip b.height b.digest b.parent ≡ Ok New → b.height ≡ option_map_or (λ t. t.height + 1) tip 0
    unfolding judged
    next_by None past is = absurd past
    next_by (Some t) past is = new_height t b.height b.digest b.parent is

    -- and it is the awaited one while the life includes
    pub is_next : old.stage ≡ Including → b.height ≡ awaited_of old
    is_next includes = next_by old.tip (placed.ended includes) its.is_new

-- WHERE A LIFE STANDS THEN

module _ {Dir : Type 0} (n : ℕ) (height : ℕ) (digest : List ℕ) where
  -- behind an early block of its epoch
  pub placed_behind : 2 ≤ n → (new : Life Dir) → new.tip ≡ Some (record { height = height; digest = digest }) → epoch_of n height ≡ new.epoch → new.midpoint ≡ midpoint n new.epoch → last n new.epoch < 2 ^ 64 → IsSome new.round → height < new.midpoint
      → (new.stage ≡ Dealing → height + 1 < new.midpoint) → (new.stage ≡ Including → new.midpoint ≤ height + 1) → IsPlaced n new
  placed_behind long new tip epoch middle range joins low early ended = record {
    epoch_is = λ part. sym (next_in n new.epoch height long epoch (subst (λ (m : ℕ). height < m) middle low)) ∙ sym (ap (λ (o : Option Tip). epoch_of n (option_map_or (λ t. t.height + 1) o 0)) tip);
    midpoint_is = λ part. middle;
    in_range = λ part. range;
    joins = λ part. joins;
    early = λ deals. subst (λ (o : Option Tip). option_map_or (λ t. t.height + 1) o 0 < new.midpoint) (sym tip) (early deals);
    ended = λ including. subst (λ (o : Option Tip). IsSomeAnd o (λ t. new.midpoint ≤ t.height + 1)) (sym tip) (ended including);
  }

  -- .. and while it follows, anywhere
  pub placed_following : (new : Life Dir) → new.stage ≡ Following → IsPlaced n new
  placed_following new follows = record {
    epoch_is = λ part. absurd (part follows);
    midpoint_is = λ part. absurd (part follows);
    in_range = λ part. absurd (part follows);
    joins = λ part. absurd (part follows);
    early = λ deals. absurd (let h : ◌≡◌ {A = Stage} Dealing Following = sym deals ∙ follows in cc);
    ended = λ including. absurd (let h : ◌≡◌ {A = Stage} Including Following = sym including ∙ follows in cc);
  }

-- while it includes, behind a block of its epoch that isn't the last
pub placed_included : {Dir : Type 0} (n : ℕ) (old : Life Dir) → IsPlaced n old → old.stage ≡ Including → (height : ℕ) → height ≡ awaited_of old → epoch_of n (height + 1) ≡ old.epoch → (tip : Tip) → tip.height ≡ height
    → IsPlaced n (record old { tip = Some tip })
placed_included n old placed includes height next epoch tip at = record {
  epoch_is = λ part. sym epoch ∙ ap (λ (h : ℕ). epoch_of n (h + 1)) (sym at);
  midpoint_is = placed.midpoint_is;
  in_range = placed.in_range;
  joins = placed.joins;
  early = λ deals. absurd (let h : ◌≡◌ {A = Stage} Including Dealing = sym includes ∙ deals in cc);
  ended = λ still. above old.tip (placed.ended includes) next;
}
  where
    above : (o : Option Tip) → IsSomeAnd o (λ t. old.midpoint ≤ t.height + 1) → height ≡ option_map_or (λ t. t.height + 1) o 0 → old.midpoint ≤ tip.height + 1
    above None past is = absurd past
    above (Some t) past is = omega (arith, past, is, at)

-- what a test of heights says
pub height_is : (a b : ℕ) → (a == b) ≡ true → a ≡ b
height_is a b is = grind (arith, nat_tests, is)
