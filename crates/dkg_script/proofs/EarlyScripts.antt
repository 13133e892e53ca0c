-- Scripts within the first epoch: no life leaves epoch 0 or awaits a block above its midpoint.
use Rattle.std.proofs.Common.{◌≡◌, ℕ, zero, suc, ◌+◌, ◌<◌, ◌≤◌, ◌/◌, List, [], ◌∷◌, Option, Some, None, Bool, true, false, cond, refl, ap, subst, ◌∙◌, arith, length, take, lit<}
use Rattle.std.specs.Prelude.{filter_map, fold, max, slice_get, option_and_then, unwrap_or, ◌-◌, ◌==◌, IfSome, IsSomeAnd}
use Rattle.std.specs.List.{AllByRecursion, cons_option}
use Rattle.std.specs.Option.{option_map_or, option_or}
use Rattle.std.proofs.Math.Nat.{div-eq_of_lt, div-lt_self, div-zero}
use Rattle.dkg_text.specs.declared.script.Anchor.{Anchor}
use Rattle.dkg_text.specs.declared.script.Anchor.TheVariants.{Processed, Absent}
use Rattle.dkg_text.specs.declared.script.BlockLine.{BlockLine}
use Rattle.dkg_text.specs.declared.script.Cut.{Cut}
use Rattle.dkg_text.specs.declared.script.Event.{Event}
use Rattle.dkg_text.specs.declared.script.Event.TheVariants.{Peer, Final}
use Rattle.dkg_text.specs.declared.script.Life.{Life}
use Rattle.dkg_script.proofs.Early.{IsAnchorBelow, IsNumberBelow, IsEventBelow, IsEarlyScript, IsLifeBelow, midpoint_of}
use Rattle.dkg_script.specs.Promise.{IsBuilt}
use Rattle.dkg_script.specs.Readings.{SyncMaterial, material_in}
use Rattle.dkg_script.specs.Setting.{Setting, CutAt, limits, blocks_per_epoch, is_oneshot, life_at, found}
use Rattle.dkg_script.specs.Blocks.{ScriptBlock, numbered_block, delivered_number, events_come_to, provided_material}
use Rattle.dkg_script.specs.Position.{IsPlanHistory, awaited_height_after, awaited_epoch, awaited_before, awaited_epoch_in, begun, delivered, first_height, last_awaited, greatest_below, material, unless_outdated, height_after_anchor, height_of_floor, cut_of, events_taken}
use Rattle.dkg_script.proofs.LineBlocks.{of_line}
use Rattle.dkg_script.proofs.Plain.{IsPlain, finds_none}

-- WHAT IS DELIVERED lies below the midpoint

all_taken : {A : Type 0} (P : A → Type 0) (n : ℕ) (xs : List A) → AllByRecursion P xs → AllByRecursion P (take n xs)
all_taken P zero [] all = tt
all_taken P (suc n) [] all = tt
all_taken P zero (x ∷ xs) all = tt
all_taken P (suc n) (x ∷ xs) all = (all.0, all_taken P n xs all.1)

-- .. also of those that the life comes to
pub all_come_to : (P : Event → Type 0) (cut : Option Cut) (events : List Event) → AllByRecursion P events → AllByRecursion P (events_come_to cut events)
all_come_to P None events all = all
all_come_to P (Some cut) events all = by_call (cut.call == 0)
  where
    by_call : (b : Bool) → AllByRecursion P (cond b (take (cut.step - 1) events) events)
    by_call true = all_taken P (cut.step - 1) events all
    by_call false = all

module _ (s : Setting) where
  abbrev middle : ℕ
  middle = midpoint_of s.script

  -- the block of a number whose line lies below the midpoint
  pub early_block : (number : ℕ) → IsNumberBelow (midpoint_of s.script) s.script.blocks number → IsSomeAnd (numbered_block s number) (λ b. b.height < midpoint_of s.script)
  early_block number early = by_line (slice_get s.script.blocks number) refl early
    where
      by_line : (o : Option BlockLine) → slice_get s.script.blocks number ≡ o → IsSomeAnd o (λ line. line.height < middle) → IsSomeAnd (numbered_block s number) (λ b. b.height < middle)
      by_line None is early = absurd early
      by_line (Some line) is early = rw (of_line s number line is) early

  deliver_early : (events : List Event) → AllByRecursion (IsEventBelow (midpoint_of s.script) s.script.blocks) events
      → AllByRecursion (λ b. b.height < midpoint_of s.script) (filter_map (numbered_block s) (filter_map delivered_number events))
  deliver_early [] within = tt
  deliver_early (Peer from bytes ∷ events) within = deliver_early events within.1
  deliver_early (Final number ∷ events) within = by_block (numbered_block s number) (early_block number within.0) (deliver_early events within.1)
    where
      by_block : (o : Option ScriptBlock) → IsSomeAnd o (λ b. b.height < middle) → AllByRecursion (λ b. b.height < middle) (filter_map (numbered_block s) (filter_map delivered_number events))
          → AllByRecursion (λ b. b.height < middle) (cons_option o (filter_map (numbered_block s) (filter_map delivered_number events)))
      by_block None early rest = absurd early
      by_block (Some b) early rest = (early, rest)
  deliver_early (event ∷ events) within = absurd within.0

pub no_material : (s : Setting) (l : ℕ) (life : Life) → life.sync ≡ None → found s l ≡ None → material s l life ≡ None
no_material s l life no_sync none = by_mode (is_oneshot s)
  where
    by_mode : (oneshot : Bool) → cond oneshot None (unless_outdated s life (option_or (provided_material s life) (found s l))) ≡ None
    by_mode true = refl
    by_mode false = rw (no_sync, none) refl

-- A POSITION WITHIN THE FIRST EPOCH is one from which a block below the midpoint is awaited

module _ (s : Setting) where
  abbrev m : ℕ
  m = midpoint_of s.script

  after_anchor : (anchor : Option Anchor) → IfSome anchor (IsAnchorBelow m s.script.blocks) → height_after_anchor s anchor ≤ m
  after_anchor None within = omega arith
  after_anchor (Some (Processed number)) within = by_line (slice_get s.script.blocks number) refl within
    where
      by_line : (o : Option BlockLine) → slice_get s.script.blocks number ≡ o → IsSomeAnd o (λ line. line.height + 1 < m) → option_map_or (λ b. suc b.height) (numbered_block s number) 0 ≤ m
      by_line None is early = absurd early
      by_line (Some line) is early = rw (of_line s number line is) (omega (arith, early))
  after_anchor (Some (Absent number)) within = by_line (slice_get s.script.blocks number) refl within
    where
      by_line : (o : Option BlockLine) → slice_get s.script.blocks number ≡ o → IsSomeAnd o (λ line. (0 < line.height) × (line.height < m)) → option_map_or (λ b. b.height) (numbered_block s number) 0 ≤ m
      by_line None is early = absurd early
      by_line (Some line) is early = rw (of_line s number line is) (omega (arith, early.1))

  pub start_is : (l : ℕ) (life : Life) → life.sync ≡ None → found s l ≡ None → first_height s l life ≡ height_after_anchor s life.anchor
  start_is l life no_sync none =
      let plain = ap (λ (x : Option SyncMaterial). max (height_after_anchor s life.anchor) (height_of_floor s life x)) (no_material s l life no_sync none) in
      plain ∙ no_more (height_after_anchor s life.anchor)
    where
      no_more : (n : ℕ) → max n 0 ≡ n
      no_more n = omega arith

  starts_early : (l : ℕ) (life : Life) → IsLifeBelow m s.script.blocks life → found s l ≡ None → first_height s l life ≤ m
  starts_early l life within none = rw (start_is l life within.no_sync none) (after_anchor life.anchor within.anchor)

  stays_early : (bs : List ScriptBlock) (n : ℕ) → n ≤ m → AllByRecursion (λ b. b.height < m) bs → fold (λ height b. max height (suc b.height)) n bs ≤ m
  stays_early [] n low early = low
  stays_early (b ∷ bs) n low early = stays_early bs (max n (suc b.height)) (below early.0) early.1
    where
      below : b.height < m → max n (suc b.height) ≤ m
      below its = omega arith

  deliver_first : (n : ℕ) (life : Life) → IsLifeBelow m s.script.blocks life → AllByRecursion (λ b. b.height < m) (delivered s life n)
  deliver_first n life within = deliver_early s (take n (events_come_to life.cut life.events))
      (all_taken (IsEventBelow m s.script.blocks) n (events_come_to life.cut life.events) (all_come_to (IsEventBelow m s.script.blocks) life.cut life.events within.events))

  -- the midpoint at the most is awaited
  pub awaits_early : (l : ℕ) (life : Life) (n : ℕ) → IsLifeBelow (midpoint_of s.script) s.script.blocks life → found s l ≡ None → awaited_height_after s l life n ≤ midpoint_of s.script
  unfolding awaited_height_after
  awaits_early l life n within none = stays_early (delivered s life n) (first_height s l life) (starts_early l life within none) (deliver_first n life within)

-- .. so epoch 0
no_part : (k n : ℕ) → k ≤ n / 2 → k / n ≡ 0
no_part k zero low = div-zero k
no_part k (suc n) low = let half : suc n / 2 < suc n = div-lt_self {n = suc n} {k = 2} (omega arith) (lit< tt) in div-eq_of_lt (omega (arith, half, low))

pub awaits_epoch_zero : (s : Setting) (l : ℕ) (life : Life) (n : ℕ) → IsLifeBelow (midpoint_of s.script) s.script.blocks life → found s l ≡ None → awaited_epoch s l life n ≡ 0
awaits_epoch_zero s l life n within none = no_part (awaited_height_after s l life n) (blocks_per_epoch s) (awaits_early s l life n within none)

-- WHAT IS BUILT has no start material, so no life finds any

no_syncs : (lives : List Life) → ((l : ℕ) (life : Life) → slice_get lives l ≡ Some life → life.sync ≡ None) → AllByRecursion (λ life. life.sync ≡ None) lives
no_syncs [] none = tt
no_syncs (life ∷ lives) none = (none zero life refl, no_syncs lives (λ l other is. none (suc l) other is))

pub plain_of : (s : Setting) → IsBuilt s → IsPlain s
plain_of s built = record {
  no_record = ap (λ o. option_and_then (material_in (limits s)) o) built.no_plan;
  no_sync = no_syncs s.script.lives (λ l life is. (built.form.lives l life is).no_sync);
}

none_there : {X : Type 0} (x : X) → None ≡ Some x → ⊥
none_there x e = cc

its_form : (P : Life → Type 0) (lives : List Life) (l : ℕ) (life : Life) → AllByRecursion P lives → slice_get lives l ≡ Some life → (l < length lives) × P life
its_form P [] l life within is = absurd (none_there life is)
its_form P (first ∷ lives) zero life within is = (omega arith, subst P (same first life is) within.0)
  where
    same : (first life : Life) → Some first ≡ Some life → first ≡ life
    same first life e = ap (λ (o : Option Life). unwrap_or o first) e
its_form P (first ∷ lives) (suc l) life within is = let rest = its_form P lives l life within.1 is in (let below : l < length lives = rest.0 in omega arith, rest.1)

-- .. and a script within the first epoch never leaves epoch 0
module _ (s : Setting) (cuts : List (Option CutAt)) (within : IsEarlyScript s.script) (plain : IsPlain s) (history : IsPlanHistory s cuts) where
  pub early_life : (l : ℕ) (life : Life) → l ≤ length cuts → life_at s l ≡ Some life → IsLifeBelow (midpoint_of s.script) s.script.blocks life × (found s l ≡ None)
  early_life l life begun is =
      let form = its_form (IsLifeBelow (midpoint_of s.script) s.script.blocks) s.script.lives l life within.lives is in
      (form.1, finds_none s cuts plain history l begun form.0)

  last_zero : (l : ℕ) → l ≤ length cuts → last_awaited s cuts l ≡ 0
  last_zero l begun = by_life (life_at s l) refl
    where
      by_life : (o : Option Life) → life_at s l ≡ o → option_map_or (λ life. awaited_epoch s l life (events_taken life (cut_of cuts l))) o 0 ≡ 0
      by_life None is = refl
      by_life (Some life) is = let t = early_life l life begun is in awaits_epoch_zero s l life (events_taken life (cut_of cuts l)) t.0 t.1

  before_zero : (l : ℕ) → l ≤ length cuts → awaited_before s cuts l ≡ 0
  before_zero zero begun = refl
  before_zero (suc l) begun =
      let rest : greatest_below (last_awaited s cuts) l ≡ 0 = before_zero l (omega arith) in
      let its : last_awaited s cuts l ≡ 0 = last_zero l (omega arith) in omega arith

  -- so no life starts below what was awaited
  pub never_back : (l : ℕ) → l ≤ length cuts → awaited_before s cuts l ≤ awaited_epoch_in s l 0 + 1
  never_back l begun = let none : awaited_before s cuts l ≡ 0 = before_zero l begun in omega arith
