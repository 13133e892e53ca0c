-- The chain's blocks up to the tip of a life that takes part in an epoch: each height from the epoch's midpoint on has one, since the life was delivered it, or an earlier one was.
use Rattle.std.proofs.Common.{◌≡◌, ◌⊎◌, inl, inr, ℕ, zero, suc, ◌+◌, ◌*◌, ◌/◌, ◌<◌, ◌≤◌, ◌==◌, ◌&&◌, ◌||◌, Bool, true, false, not, max, List, [], ◌∷◌, Option, Some, None, arith, refl, sym, ◌∙◌, ap, subst, length}
use Rattle.std.specs.Prelude.{nat_lt, slice_get, IfSome, if◌then◌else◌}
use Rattle.std.specs.Option.{option_flatten}
use Rattle.std.specs.Str.{bytes_eq}
use Rattle.std.proofs.lemmas.Bool.{cases_lt}
use Rattle.std.proofs.lemmas.Bool.Decides.{nat_tests}
use Rattle.dkg_ceremony.specs.Schedule.{epoch_of, midpoint}
use Rattle.dkg_types.specs.Blocks as made
use Rattle.dkg_infos.specs.declared.directory.Unit as directory
use Rattle.dkg_infos.specs.declared.fault.Fault.{Fault}
use Rattle.dkg_infos.specs.declared.fault.Fault.TheVariants.{ConflictingBlock, DetachedBlock, HeightRange, OutOfWindow, SkippedHeight}
use Rattle.dkg_text.specs.declared.script.Cut.{Cut}
use Rattle.dkg_text.specs.declared.script.Event.{Event}
use Rattle.dkg_text.specs.declared.script.Event.TheVariants as event
use Rattle.dkg_text.specs.declared.script.Life.{Life}
use Rattle.dkg_text.specs.declared.script.Script.{Script}
use Rattle.dkg_script.specs.Blocks.{ScriptBlock, numbered_block, chain, delivered_number}
use Rattle.dkg_script.specs.Consistent.{IsConsistentScript, MayEnd, MayEndSo}
use Rattle.dkg_script.specs.Epochs.{alone}
use Rattle.dkg_script.specs.History.{MissesNone, WasCompleted, WasSeen}
use Rattle.dkg_script.specs.Inclusion.{IsEventIn, IsFormOfInclusion}
use Rattle.dkg_script.specs.Position.{awaited_epoch, awaited_height_after, cut_of, enters_blind_at, event_of_step, life_follows, starts_blind, starts_late}
use Rattle.dkg_script.specs.Setting.{CutAt, Setting, blocks_per_epoch, found, is_oneshot, life_at}
use Rattle.dkg_core.specs.Sources.{Tip}
use Rattle.dkg_core.proofs.Heights.{epoch_is, epoch_to}
use Rattle.dkg_lives.specs.Blamed.{is_beyond, is_first_taken, refusal_by, refusal_in, refusal_over, tip_in}
use Rattle.dkg_lives.specs.Epochs.{IsAnchorAbove}
use Rattle.dkg_lives.specs.Given.{AreBytes, blocks_in}
use Rattle.dkg_along.proofs.Alone.{follows_alike}
use Rattle.dkg_lives.proofs.Awaiting.{IsReached, awaited, block_behind, comes_to, event_behind}
use Rattle.dkg_along.proofs.Chaining.{Tips, delivered}
use Rattle.dkg_lives.proofs.Delivered.{enters_here, epochs_rise, from_first}
use Rattle.dkg_lives.proofs.Former.{IsMadeOf, made_of}
use Rattle.dkg_along.proofs.SeenBlocks.{made_at, seen, seen_at}
use Rattle.dkg_lives.proofs.Started.{not_late}
use Rattle.dkg_along.proofs.Used.{of_delivered}

-- The chain's block at a height is one of the node's.
pub record HasBlockAt (s : Setting) (height : ℕ) : Type 0 where
  pub number : ℕ
  pub block : made.Block directory.Unit
  pub there : slice_get (blocks_in s.script) number ≡ Some block
  pub height_is : block.height ≡ height
  pub chained : chain s height ≡ Some (seen block)

-- HEIGHTS of an epoch

-- what lies from an epoch's midpoint on and right below one of its heights is of the epoch
below_one : (n e h x : ℕ) → 1 ≤ n → midpoint n e ≤ h → h ≤ x → epoch_of n (x + 1) ≡ e → epoch_of n x ≡ e
below_one n e h x some late low above = epoch_is n e x (from (e * n) (n / 2) h x late low) (to (e * n) n x (subst (λ (k : ℕ). x + 1 < k * n + n) above (epoch_to n (x + 1) some)))
  where
    from : (m k h x : ℕ) → m + k ≤ h → h ≤ x → m ≤ x
    from m k h x one two = omega (arith, one, two)

    to : (m n x : ℕ) → x + 1 < m + n → x < m + n
    to m n x low = omega (arith, low)

-- a height from the midpoint on is of no epoch below
late_epoch : (n e h : ℕ) → 1 ≤ n → midpoint n e ≤ h → e ≤ epoch_of n h
late_epoch n e h some late = subst (λ (k : ℕ). k ≤ epoch_of n h) (epoch_is n e (e * n) (itself (e * n)) (more (e * n) n some)) (epochs_rise n (e * n) h some (from (e * n) (n / 2) h late))
  where
    itself : (m : ℕ) → m ≤ m
    itself m = omega arith

    more : (m n : ℕ) → 1 ≤ n → m < m + n
    more m n some = omega (arith, some)

    from : (m k h : ℕ) → m + k ≤ h → m ≤ h
    from m k h low = omega (arith, low)

-- WHICH BLOCKS ARE ALLOWED

the_rest : (t : Bool) (f : Fault) (o : Option Fault) → (if t then Some f else o) ≡ None → o ≡ None
the_rest true f o is = absurd (let wrong : ◌≡◌ {A = Option Fault} (Some f) None = is in cc)
the_rest false f o is = is

the_test : (t : Bool) (f : Fault) → ◌≡◌ {A = Option Fault} (if t then None else Some f) None → t ≡ true
the_test true f is = refl
the_test false f is = absurd (let wrong : ◌≡◌ {A = Option Fault} (Some f) None = is in cc)

no_test : (t : Bool) (f : Fault) (o : Option Fault) → (if t then Some f else o) ≡ None → t ≡ false
no_test true f o is = absurd (let wrong : ◌≡◌ {A = Option Fault} (Some f) None = is in cc)
no_test false f o is = refl

-- a first block is one that may be taken first
pub first_taken : (script : Script) (l : ℕ) (life : Life) (j : ℕ) (b : made.Block directory.Unit) → refusal_in script l life j b ≡ None → tip_in script life j ≡ None → is_first_taken script l life b ≡ true
first_taken script l life j b allowed none =
    the_test (is_first_taken script l life b) (OutOfWindow b.height)
    (subst (λ (o : Option Tip). refusal_by script l life b o ≡ None) none (the_rest (is_beyond script b.height) HeightRange (refusal_by script l life b (tip_in script life j)) allowed))

no_skip : (t : Tip) (b : made.Block directory.Unit) → refusal_over t b ≡ None → b.height ≤ t.height + 1
no_skip t b is =
    least b.height (t.height + 1)
    (no_test (nat_lt (t.height + 1) b.height) (SkippedHeight (t.height + 1) b.height) (if (b.height == t.height + 1) && not (bytes_eq b.parent t.digest) then Some (DetachedBlock b.height) else None)
    (the_rest ((b.height == t.height) && not (bytes_eq b.digest t.digest)) (ConflictingBlock b.height)
    (if nat_lt (t.height + 1) b.height then Some (SkippedHeight (t.height + 1) b.height) else if (b.height == t.height + 1) && not (bytes_eq b.parent t.digest) then Some (DetachedBlock b.height) else None) is))
  where
    least : (h k : ℕ) → nat_lt k h ≡ false → h ≤ k
    least h k test = grind (arith, nat_tests)

-- a life that follows an epoch without a late start enters where it comes first
enters_so : (one first late blind enters at : Bool) → (not one && ((first && (late || blind)) || (blind && enters))) ≡ true → late ≡ false → (not one && ((at && (late || blind)) || (blind && true))) ≡ true
enters_so one first true blind enters at is early = absurd (let wrong : ◌≡◌ {A = Bool} true false = early in cc)
enters_so true first false blind enters at is early = absurd (let wrong : ◌≡◌ {A = Bool} false true = is in cc)
enters_so false true false false enters at is early = absurd (let wrong : ◌≡◌ {A = Bool} false true = is in cc)
enters_so false false false false enters at is early = absurd (let wrong : ◌≡◌ {A = Bool} false true = is in cc)
enters_so false first false true enters true is early = refl
enters_so false first false true enters false is early = refl

module _ (s : Setting) (ends : List (Option CutAt)) (consistent : IsConsistentScript s ends) (form : IsFormOfInclusion s.script) (bytes : AreBytes s.script.blocks) where
  abbrev n : ℕ
  n = blocks_per_epoch s

  module _ (some : 1 ≤ n) (l : ℕ) (life : Life) (life_is : life_at s l ≡ Some life) (anchored : IfSome life.anchor (IsAnchorAbove s.script.blocks)) (no_sync : life.sync ≡ None) (none_found : found s l ≡ None) where
    abbrev start : ℕ
    start = awaited_height_after s l life 0

    -- a block that comes is the chain's
    pub on_chain : (i number : ℕ) (its : made.Block directory.Unit) → slice_get life.events i ≡ Some (event.Final number) → IsReached life.cut (suc i) → slice_get (blocks_in s.script) number ≡ Some its → chain s its.height ≡ Some (seen its)
    on_chain i number its is reached there =
        let came = delivered s ends consistent form bytes l life life_is anchored no_sync none_found i number its is reached there in
        let same : (came.0).b ≡ seen its = the_same (sym (came.0).there ∙ seen_at s form bytes number its there) in
        subst (λ (b : ScriptBlock). chain s b.height ≡ Some b) same came.1
      where
        the_same : {x y : ScriptBlock} → ◌≡◌ {A = Option ScriptBlock} (Some x) (Some y) → x ≡ y
        the_same e = cc

    -- UP TO A HEIGHT that is awaited, from the start on
    abbrev ChainUp : ℕ → Type 0
    ChainUp high = life_follows s l life (epoch_of n high) ≡ false → (height : ℕ) → midpoint n (epoch_of n high) ≤ height → start ≤ height → height < high → HasBlockAt s height

    chain_up : (high : ℕ) → HasBlockAt s high → ChainUp high → ChainUp (high + 1)
    chain_up high here was part height late begun below = by_order (cases_lt height high)
      where
        under : (h k : ℕ) → h < k + 1 → h ≤ k
        under h k low = omega (arith, low)

        same : epoch_of n high ≡ epoch_of n (high + 1)
        same = below_one n (epoch_of n (high + 1)) height high some late (under height high below) refl

        by_order : (height < high) ⊎ (high ≤ height) → HasBlockAt s height
        by_order (inl low) = was (ap (life_follows s l life) same ∙ part) height (subst (λ (e : ℕ). midpoint n e ≤ height) (sym same) late) begun low
        by_order (inr at) = let is : high ≡ height = omega (arith, at, below) in subst (HasBlockAt s) is here

    -- a first block that isn't followed lies below the midpoint
    chain_first : (high : ℕ) → enters_blind_at s l life (epoch_of n high) ≡ true → (life_follows (alone s.script) l life 0 || ((epoch_of n high == 0) && nat_lt high (midpoint n (epoch_of n high)))) ≡ true → ChainUp (high + 1)
    chain_first high enters taken part height late begun below = absurd (either (life_follows (alone s.script) l life 0) refl)
      where
        under : (h k : ℕ) → h < k + 1 → h ≤ k
        under h k low = omega (arith, low)

        same : epoch_of n high ≡ epoch_of n (high + 1)
        same = below_one n (epoch_of n (high + 1)) height high some late (under height high below) refl

        early : (one two : Bool) → (one && two) ≡ true → two ≡ true
        early true two is = is
        early false two is = absurd (let wrong : ◌≡◌ {A = Bool} false true = is in cc)

        low_one : (h k m : ℕ) → nat_lt k m ≡ true → m ≤ h → h ≤ k → ⊥
        low_one h k m test late low = let less : k < m = grind (arith, nat_tests) in omega (arith, less, late, low)

        two_bools : (t : Bool) → t ≡ true → t ≡ false → ⊥
        two_bools t one two = let wrong : ◌≡◌ {A = Bool} true false = sym one ∙ two in cc

        followed : life_follows s l life 0 ≡ true → life_follows s l life (epoch_of n high) ≡ true
        followed is =
            ap (λ (t : Bool). not (is_oneshot s) && (((epoch_of n high == awaited_epoch s l life 0) && (starts_late s l life || starts_blind s l life)) || (starts_blind s l life && t))) enters
            ∙ enters_so (is_oneshot s) (0 == awaited_epoch s l life 0) (starts_late s l life) (starts_blind s l life) (enters_blind_at s l life 0) (epoch_of n high == awaited_epoch s l life 0) is (not_late s l life no_sync none_found)

        either : (t : Bool) → life_follows (alone s.script) l life 0 ≡ t → ⊥
        either true is = two_bools (life_follows s l life (epoch_of n high)) (followed (follows_alike s l life no_sync none_found 0 ∙ is)) (ap (life_follows s l life) same ∙ part)
        either false is =
            low_one height high (midpoint n (epoch_of n high))
            (early (epoch_of n high == 0) (nat_lt high (midpoint n (epoch_of n high))) (subst (λ (t : Bool). (t || ((epoch_of n high == 0) && nat_lt high (midpoint n (epoch_of n high)))) ≡ true) is taken))
            (subst (λ (e : ℕ). midpoint n e ≤ height) (sym same) late) (under height high below)

    -- BEHIND ITS FIRST EVENTS
    abbrev pub ChainTo : (j : ℕ) → Type 0
    ChainTo j = ChainUp (awaited_height_after s l life j)

    pub chain_begins : ChainTo 0
    chain_begins part height late begun below = absurd (omega (arith, begun, below))

    abbrev Stands : ℕ → Type 0
    Stands j = Tips s ends consistent form bytes l life life_is anchored no_sync none_found j

    -- .. and one more, if its block isn't refused
    pub chain_next : (i : ℕ) (e : Event) → slice_get life.events i ≡ Some e → IsReached life.cut (suc i) → IsEventIn s.script.blocks e → Stands i
        → ((number : ℕ) (b : made.Block directory.Unit) → e ≡ event.Final number → slice_get (blocks_in s.script) number ≡ Some b → refusal_in s.script l life i b ≡ None) → ChainTo i → ChainTo (suc i)
    chain_next i e is reached of_form tips allowed was = by_event e refl of_form
      where
        still : delivered_number e ≡ None → ChainTo (suc i)
        still none = subst ChainUp (sym (event_behind s l life i e is reached none)) was

        of_block : (number : ℕ) → e ≡ event.Final number → IsMadeOf s.script number → ChainTo (suc i)
        of_block number of made_it = subst ChainUp (sym behind) (by_order (cases_lt its.height (awaited_height_after s l life i)))
          where
            its : made.Block directory.Unit
            its = made_it.block

            comes : slice_get life.events i ≡ Some (event.Final number)
            comes = is ∙ ap (λ (x : Event). Some x) of

            there : numbered_block s number ≡ Some (seen its)
            there = seen_at s form bytes number its made_it.is

            behind : awaited_height_after s l life (suc i) ≡ max (awaited_height_after s l life i) (its.height + 1)
            behind = block_behind s l life i number (seen its) comes reached there

            here : HasBlockAt s its.height
            here = record { number = number; block = its; there = made_it.is; height_is = refl; chained = on_chain i number its comes reached made_it.is }

            unrefused : refusal_by s.script l life its (tip_in s.script life i) ≡ None
            unrefused = the_rest (is_beyond s.script its.height) HeightRange (refusal_by s.script l life its (tip_in s.script life i)) (allowed number its of made_it.is)

            higher : (a x : ℕ) → a ≤ x → x + 1 ≡ max a (x + 1)
            higher a x low = omega (arith, low)

            lower : (a x : ℕ) → x < a → a ≡ max a (x + 1)
            lower a x low = omega (arith, low)

            new : awaited_height_after s l life i ≤ its.height → (o : Option Tip) → tip_in s.script life i ≡ o → ChainUp (its.height + 1)
            new above None none =
                let first : awaited_height_after s l life i ≡ 0 = sym tips.height ∙ ap awaited none in
                chain_first its.height (enters_here s l life some i number (seen its) comes reached there first)
                (first_taken s.script l life i its (allowed number its of made_it.is) none)
            new above (Some t) at =
                let next : t.height + 1 ≡ awaited_height_after s l life i = sym (ap awaited at) ∙ tips.height in
                let same : awaited_height_after s l life i ≡ its.height =
                equal (awaited_height_after s l life i) its.height t.height next above (no_skip t its (subst (λ (o : Option Tip). refusal_by s.script l life its o ≡ None) at unrefused)) in
                chain_up its.height here (subst ChainUp same was)
              where
                equal : (a x t : ℕ) → t + 1 ≡ a → a ≤ x → x ≤ t + 1 → a ≡ x
                equal a x t one two three = omega (arith, one, two, three)

            by_order : (its.height < awaited_height_after s l life i) ⊎ (awaited_height_after s l life i ≤ its.height) → ChainUp (max (awaited_height_after s l life i) (its.height + 1))
            by_order (inl low) = subst ChainUp (lower (awaited_height_after s l life i) its.height low) was
            by_order (inr above) = subst ChainUp (higher (awaited_height_after s l life i) its.height above) (new above (tip_in s.script life i) refl)

        by_event : (x : Event) → e ≡ x → IsEventIn s.script.blocks x → ChainTo (suc i)
        by_event (event.Final number) of of_form = of_block number of (made_of s.script number of_form)
        by_event (event.Peer from its) of of_form = still (ap delivered_number of)
        by_event (event.Next request height) of of_form = still (ap delivered_number of)
        by_event (event.Release height) of of_form = still (ap delivered_number of)
        by_event (event.Info request) of of_form = still (ap delivered_number of)
        by_event (event.Feed request number) of of_form = still (ap delivered_number of)
        by_event (event.Over request) of of_form = still (ap delivered_number of)
        by_event (event.Cancel request) of of_form = still (ap delivered_number of)
        by_event event.Work of of_form = still (ap delivered_number of)
        by_event other of of_form = absurd of_form

  -- WHAT AN EARLIER LIFE WAS DELIVERED

  end_at : (lives : List Life) (ends : List (Option CutAt)) (k : ℕ) (life : Life) → MayEndSo lives ends → slice_get lives k ≡ Some life → k < length ends → MayEnd (length life.events) life.cut (option_flatten (slice_get ends k))
  end_at [] [] k life may is low = absurd (omega (arith, low))
  end_at (x ∷ lives) [] k life may is low = absurd (omega (arith, low))
  end_at [] (end ∷ ends) k life may is low = absurd may
  end_at (x ∷ lives) (end ∷ ends) zero life may is low = subst (λ (y : Life). MayEnd (length y.events) y.cut end) (the_same is) may.0
    where
      the_same : {x y : Life} → ◌≡◌ {A = Option Life} (Some x) (Some y) → x ≡ y
      the_same e = cc
  end_at (x ∷ lives) (end ∷ ends) (suc k) life may is low = end_at lives ends k life may.1 is (omega (arith, low))

  below_length : {A : Type 0} (xs : List A) (i : ℕ) (x : A) → slice_get xs i ≡ Some x → suc i ≤ length xs
  below_length {A} [] i x is = absurd (let wrong : ◌≡◌ {A = Option A} None (Some x) = is in cc)
  below_length (y ∷ xs) zero x is = omega arith
  below_length (y ∷ xs) (suc i) x is = let more = below_length xs i x is in omega (arith, more)

  -- an event of a completed step is one that the life comes to
  was_reached : (k step : ℕ) (life : Life) → MayEndSo s.script.lives ends → life_at s k ≡ Some life → k < length ends → WasCompleted ends k step → step ≤ length life.events → IsReached life.cut step
  was_reached k step life may is low completed within = by_cut life.cut refl (end_at s.script.lives ends k life may is low)
    where
      by_cut : (o : Option Cut) → life.cut ≡ o → MayEnd (length life.events) o (cut_of ends k) → IsReached o step
      by_cut None none end = tt
      by_cut (Some cut) there (inl cut_is) = λ none. subst (λ (o : Option CutAt). IfSome o (λ at. step < at.step)) cut_is completed
      by_cut (Some cut) there (inr (inl some, is)) = λ none. absurd (omega (arith, some, none))
      by_cut (Some cut) there (inr (inr past, is)) = λ none. omega (arith, within, past)

  pub seen_on_chain : (l epoch height : ℕ) → MayEndSo s.script.lives ends → l ≤ length ends → WasSeen s ends l epoch height → HasBlockAt s height
  seen_on_chain l epoch height may begun was = by_step was.step was.event was.completed
    where
      low : was.before < length ends
      low = less was.before l (length ends) was.earlier begun
        where
          less : (a b c : ℕ) → a < b → b ≤ c → a < c
          less a b c one two = omega (arith, one, two)

      by_step : (step : ℕ) → event_of_step was.life step ≡ Some (event.Final was.number) → WasCompleted ends was.before step → HasBlockAt s height
      by_step zero is completed = absurd (let wrong : ◌≡◌ {A = Option Event} None (Some (event.Final was.number)) = is in cc)
      by_step (suc k) is completed =
          let reached : IsReached (was.life).cut (suc k) = was_reached was.before (suc k) was.life may was.life_is low completed (below_length (was.life).events k (event.Final was.number) is) in
          let used : chain s (was.block).height ≡ Some was.block =
          subst (λ (o : Option ScriptBlock). IfSome o (λ c. chain s c.height ≡ Some c)) was.block_is
          (of_delivered s was.before was.life (λ c. chain s c.height ≡ Some c) was.life_is consistent.one_chain k was.number (comes_to (was.life).cut (was.life).events k reached ∙ is)) in
          let its = made_at s form bytes was.number was.block was.block_is in
          record {
            number = was.number;
            block = its.0;
            there = its.1;
            height_is = ap (λ (b : ScriptBlock). b.height) its.2 ∙ was.height_is;
            chained = ap (chain s) (sym was.height_is) ∙ used ∙ ap (λ (b : ScriptBlock). Some b) (sym its.2);
          }

  -- UP TO THE TIP, of a life that takes part in the epoch that it awaits
  pub chain_to_tip : (some : 1 ≤ n) (l : ℕ) (life : Life) (life_is : life_at s l ≡ Some life) (anchored : IfSome life.anchor (IsAnchorAbove s.script.blocks)) (no_sync : life.sync ≡ None) (none_found : found s l ≡ None)
      → MayEndSo s.script.lives ends → l ≤ length ends → MissesNone s ends → (j : ℕ) → ChainTo some l life life_is anchored no_sync none_found j → Tips s ends consistent form bytes l life life_is anchored no_sync none_found j
      → life_follows s l life (awaited_epoch s l life j) ≡ false → (t : Tip) → tip_in s.script life j ≡ Some t → (height : ℕ) → midpoint n (awaited_epoch s l life j) ≤ height → height ≤ t.height → HasBlockAt s height
  chain_to_tip some l life life_is anchored no_sync none_found may begun misses j chained tips part t at height late low = by_order (cases_lt height (awaited_height_after s l life 0))
    where
      tip_is : t.height + 1 ≡ awaited_height_after s l life j
      tip_is = sym (ap awaited at) ∙ tips.height

      below : (h t a : ℕ) → h ≤ t → t + 1 ≡ a → h < a
      below h t a one two = omega (arith, one, two)

      by_order : (height < awaited_height_after s l life 0) ⊎ (awaited_height_after s l life 0 ≤ height) → HasBlockAt s height
      by_order (inr above) = chained part height late above (below height t.height (awaited_height_after s l life j) low tip_is)
      by_order (inl under) =
          let same : awaited_epoch s l life j ≡ awaited_epoch s l life 0 =
          equal (awaited_epoch s l life j) (epoch_of n height) (awaited_epoch s l life 0) (late_epoch n (awaited_epoch s l life j) height some late)
          (epochs_rise n height (awaited_height_after s l life 0) some (up height (awaited_height_after s l life 0) under)) (from_first s l life some j) in
          seen_on_chain l (awaited_epoch s l life 0) height may begun
          (misses l height life life_is (ap (life_follows s l life) (sym same) ∙ part) (subst (λ (e : ℕ). midpoint n e ≤ height) same late) under)
        where
          equal : (a b c : ℕ) → a ≤ b → b ≤ c → c ≤ a → a ≡ c
          equal a b c one two three = omega (arith, one, two, three)

          up : (a b : ℕ) → a < b → a ≤ b
          up a b low = omega (arith, low)
