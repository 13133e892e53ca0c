-- The height that a life awaits from step to step, as its state has it and as the script says.
use Rattle.std.proofs.Common.{◌≡◌, ℕ, zero, suc, ◌+◌, ◌-◌, ◌<◌, ◌≤◌, ◌==◌, List, [], ◌∷◌, ◌++◌, Option, Some, None, Bool, true, false, cond, arith, refl, sym, ap, subst, ◌∙◌, take, filter_map}
use Rattle.std.specs.Prelude.{fold, max, nat_le, slice_get, IfSome, IsSomeAnd, if◌then◌else◌}
use Rattle.std.specs.List.{cons_option}
use Rattle.std.specs.Option.{option_map_or}
use Rattle.std.proofs.lemmas.Bool.Decides.{nat_tests}
use Rattle.std.proofs.lemmas.List.Elements.{filter_map-append}
use Rattle.std.proofs.lemmas.List.Sums.{fold-append}
use Rattle.dkg_journal.specs.Burn.{Burn}
use Rattle.dkg_types.specs.Blocks as made
use Rattle.dkg_infos.specs.declared.directory.Unit as directory
use Rattle.dkg_text.specs.declared.script.BlockLine.{BlockLine}
use Rattle.dkg_text.specs.declared.script.Cut.{Cut}
use Rattle.dkg_text.specs.declared.script.Event.{Event}
use Rattle.dkg_text.specs.declared.script.Event.TheVariants.{Peer, Final}
use Rattle.dkg_text.specs.declared.script.Life.{Life}
use Rattle.dkg_script.specs.Blocks.{ScriptBlock, numbered_block, block_of, blocks, delivered_number, events_come_to}
use Rattle.dkg_script.specs.Position.{awaited_height_after, delivered, first_height}
use Rattle.dkg_script.specs.Setting.{Setting}
use Rattle.dkg_script.proofs.LineBlocks.{of_line}
use Rattle.dkg_core.specs.Live.{Finalized}
use Rattle.dkg_core.specs.Sources.{Tip}
use Rattle.dkg_core.specs.Endings.{tip_behind}
use Rattle.dkg_lives.specs.Given.{blocks_in}
use Rattle.dkg_lives.specs.Lives.{fuse_for, fuse_within, never}
use Rattle.dkg_lives.proofs.LineHeights.{made_at}

none_there : {A : Type 0} (x : A) → ◌≡◌ {A = Option A} None (Some x) → ⊥
none_there x e = cc

same_there : {A : Type 0} (x y : A) → ◌≡◌ {A = Option A} (Some x) (Some y) → x ≡ y
same_there x y e = cc

-- THE EVENTS THAT THE LIFE COMES TO

pub one_more : {A : Type 0} (xs : List A) (i : ℕ) (x : A) → slice_get xs i ≡ Some x → take (suc i) xs ≡ take i xs ++ x ∷ []
one_more [] i x is = absurd (none_there x is)
one_more {A} (y ∷ xs) zero x is = ap (λ (z : A). z ∷ []) (same_there y x is)
one_more {A} (y ∷ xs) (suc i) x is = ap (λ (zs : List A). y ∷ zs) (one_more xs i x is)

still_there : {A : Type 0} (xs : List A) (n i : ℕ) → i < n → slice_get (take n xs) i ≡ slice_get xs i
still_there [] zero i below = absurd (omega arith)
still_there [] (suc n) i below = refl
still_there (x ∷ xs) zero i below = absurd (omega arith)
still_there (x ∷ xs) (suc n) zero below = refl
still_there (x ∷ xs) (suc n) (suc i) below = still_there xs n i (omega arith)

-- the life isn't cut before this step
abbrev pub IsReached : Option Cut → ℕ → Type 0
IsReached its j = IfSome its (λ cut. cut.call ≡ 0 → j < cut.step)

-- .. nor before an earlier one
abbrev pub IsBefore : Option Cut → ℕ → Type 0
IsBefore its j = IfSome its (λ cut. cut.call ≡ 0 → j ≤ cut.step)

none_lit : (t : Bool) (x f : Burn) → t ≡ true → cond t None (Some x) ≡ Some f → ⊥
none_lit true x f test is = none_there f is
none_lit false x f test is = absurd (let wrong : ◌≡◌ {A = Bool} false true = test in cc)

-- a step that has a fuse is reached
pub reached_lit : (its : Option Cut) (j : ℕ) (f : Burn) → fuse_for its j ≡ Some f → IsBefore its j → IsReached its j
reached_lit None j f lit before = tt
reached_lit (Some cut) j f lit before = λ none. by_step none (cut.step == j) refl lit
  where
    by_step : cut.call ≡ 0 → (t : Bool) → (cut.step == j) ≡ t → cond t (fuse_within cut) (Some never) ≡ Some f → j < cut.step
    by_step none true test lit = absurd (none_lit (cut.call == 0) (record { call = cut.call; pick = cut.pick; spent = 0 }) f (is_zero cut.call none) lit)
      where
        is_zero : (n : ℕ) → n ≡ 0 → (n == 0) ≡ true
        is_zero n e = grind (arith, nat_tests)
    by_step none false test lit = below cut.step j (before none) test
      where
        below : (a b : ℕ) → b ≤ a → (a == b) ≡ false → b < a
        below a b low apart = grind (arith, nat_tests)

pub before_next : (its : Option Cut) (j : ℕ) → IsReached its j → IsBefore its (j + 1)
before_next None j reached = tt
before_next (Some cut) j reached = λ none. let low : j < cut.step = reached none in omega (arith, low)

pub before_all : (its : Option Cut) → IsBefore its 0
before_all None = tt
before_all (Some cut) = λ none. omega arith

pub comes_to : (its : Option Cut) (events : List Event) (i : ℕ) → IsReached its (suc i) → slice_get (events_come_to its events) i ≡ slice_get events i
comes_to None events i reached = refl
comes_to (Some cut) events i reached = by_call (cut.call == 0) refl
  where
    is_zero : (n : ℕ) → (n == 0) ≡ true → n ≡ 0
    is_zero n e = grind (arith, nat_tests)

    by_call : (t : Bool) → (cut.call == 0) ≡ t → slice_get (cond t (take (cut.step - 1) events) events) i ≡ slice_get events i
    by_call false test = refl
    by_call true test =
        let below : suc i < cut.step = reached (is_zero cut.call test) in
        still_there events (cut.step - 1) i (omega (arith, below))

module _ (s : Setting) (l : ℕ) (life : Life) (i : ℕ) (one : Event) (event_is : slice_get life.events i ≡ Some one) (reached : IsReached life.cut (suc i)) where
  abbrev events : List Event
  events = events_come_to life.cut life.events

  pub delivered_more : delivered s life (suc i) ≡ delivered s life i ++ filter_map (numbered_block s) (filter_map delivered_number (one ∷ []))
  delivered_more =
      ap (λ (es : List Event). filter_map (numbered_block s) (filter_map delivered_number es)) (one_more events i one (comes_to life.cut life.events i reached ∙ event_is))
      ∙ ap (λ (ns : List ℕ). filter_map (numbered_block s) ns) (filter_map-append delivered_number (take i events) (one ∷ []))
      ∙ filter_map-append (numbered_block s) (filter_map delivered_number (take i events)) (filter_map delivered_number (one ∷ []))

  height_more : awaited_height_after s l life (suc i) ≡ fold (λ height b. max height (suc b.height)) (awaited_height_after s l life i) (filter_map (numbered_block s) (filter_map delivered_number (one ∷ [])))
  unfolding awaited_height_after
  height_more = ap (λ (bs : List ScriptBlock). fold (λ height b. max height (suc b.height)) (first_height s l life) bs) delivered_more
      ∙ fold-append (λ height b. max height (suc b.height)) (first_height s l life) (delivered s life i) (filter_map (numbered_block s) (filter_map delivered_number (one ∷ [])))

-- what is awaited behind an event that delivers nothing, as a message, and behind a block
pub event_behind : (s : Setting) (l : ℕ) (life : Life) (i : ℕ) (one : Event) → slice_get life.events i ≡ Some one → IsReached life.cut (suc i) → delivered_number one ≡ None
    → awaited_height_after s l life (suc i) ≡ awaited_height_after s l life i
event_behind s l life i one is reached none =
    height_more s l life i one is reached
    ∙ ap (λ (o : Option ℕ). fold (λ height b. max height (suc b.height)) (awaited_height_after s l life i) (filter_map (numbered_block s) (cons_option o []))) none

pub message_behind : (s : Setting) (l : ℕ) (life : Life) (i from : ℕ) (bytes : List ℕ) → slice_get life.events i ≡ Some (Peer from bytes) → IsReached life.cut (suc i) → awaited_height_after s l life (suc i) ≡ awaited_height_after s l life i
message_behind s l life i from bytes is reached = height_more s l life i (Peer from bytes) is reached

pub block_behind : (s : Setting) (l : ℕ) (life : Life) (i number : ℕ) (b : ScriptBlock) → slice_get life.events i ≡ Some (Final number) → IsReached life.cut (suc i) → numbered_block s number ≡ Some b
    → awaited_height_after s l life (suc i) ≡ max (awaited_height_after s l life i) (b.height + 1)
block_behind s l life i number b is reached there = height_more s l life i (Final number) is reached ∙ (rw there (rest (awaited_height_after s l life i) b.height))
  where
    rest : (h k : ℕ) → max h (suc k) ≡ max h (k + 1)
    rest h k = omega arith

-- THE BLOCKS, by their heights

pub record HasHeight (s : Setting) (number : ℕ) (its : made.Block directory.Unit) : Type 0 where
  pub b : ScriptBlock
  pub there : numbered_block s number ≡ Some b
  pub same : its.height ≡ b.height

pub has_height : (s : Setting) (number : ℕ) (its : made.Block directory.Unit) (line : BlockLine) → slice_get s.script.blocks number ≡ Some line → slice_get (blocks_in s.script) number ≡ Some its → HasHeight s number its
has_height s number its line line_is is =
    let of = made_at s.script number (λ (h : ℕ). h ≡ line.height) (subst (λ (o : Option BlockLine). IsSomeAnd o (λ l. l.height ≡ line.height)) (sym line_is) refl) in
    let same : of.block ≡ its = same_there of.block its (sym of.is ∙ is) in
    record { b = block_of s (take number (blocks s)) line; there = of_line s number line line_is; same = subst (λ (b : made.Block directory.Unit). b.height ≡ line.height) same of.so }

-- A TIP, and what is awaited behind it

abbrev pub awaited : Option Tip → ℕ
awaited tip = option_map_or (λ t. t.height + 1) tip 0

tip_awaits : (tip : Option Tip) (its : made.Block directory.Unit) (height : ℕ) → its.height ≡ height → awaited (tip_behind (Finalized its) tip) ≡ max (awaited tip) (height + 1)
tip_awaits None its height same = rw same (only height)
  where
    only : (h : ℕ) → h + 1 ≡ max 0 (h + 1)
    only h = omega arith
tip_awaits (Some tip) its height same = by_order (nat_le its.height tip.height) refl
  where
    low : (h k m : ℕ) → h ≡ m → nat_le h k ≡ true → k + 1 ≡ max (k + 1) (m + 1)
    low h k m same test = let less : h ≤ k = grind (arith, nat_tests) in omega (arith, less, same)

    high : (h k m : ℕ) → h ≡ m → nat_le h k ≡ false → h + 1 ≡ max (k + 1) (m + 1)
    high h k m same test = let more : k < h = grind (arith, nat_tests) in omega (arith, more, same)

    by_order : (t : Bool) → nat_le its.height tip.height ≡ t → awaited (if t then Some tip else Some (record { height = its.height; digest = its.digest })) ≡ max (tip.height + 1) (height + 1)
    by_order true test = low its.height tip.height height same test
    by_order false test = high its.height tip.height height same test

-- a block that was taken
pub block_awaits : (s : Setting) (l : ℕ) (life : Life) (i number : ℕ) (its : made.Block directory.Unit) (tip : Option Tip) → HasHeight s number its → slice_get life.events i ≡ Some (Final number) → IsReached life.cut (suc i)
    → awaited tip ≡ awaited_height_after s l life i → awaited (tip_behind (Finalized its) tip) ≡ awaited_height_after s l life (suc i)
block_awaits s l life i number its tip has is reached height =
    tip_awaits tip its (has.b).height has.same ∙ ap (λ (n : ℕ). max n ((has.b).height + 1)) height ∙ sym (block_behind s l life i number has.b is reached has.there)
