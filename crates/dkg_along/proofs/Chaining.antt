-- In a consistent script over many epochs the tip of a life is one of the chain; so a block is refused only for its height, or for its window.
use Rattle.std.proofs.Common.{◌≡◌, ◌⊎◌, inl, inr, ℕ, zero, suc, ◌+◌, ◌-◌, ◌<◌, ◌==◌, ◌&&◌, ◌∷◌, [], Bool, true, false, not, List, Option, Some, None, arith, refl, sym, ◌∙◌, ap, subst, take}
use Rattle.std.specs.Prelude.{fold, nat_le, nat_lt, option_map, slice_get, IfSome, IsSome, IsSomeAnd, if◌then◌else◌}
use Rattle.dkg_text.specs.declared.script.Cut.{Cut}
use Rattle.std.specs.List.{AllByRecursion}
use Rattle.std.specs.Option.{option_map_or}
use Rattle.std.specs.Str.{bytes_eq}
use Rattle.std.proofs.lemmas.Bool.Decides.{nat_tests}
use Rattle.std.proofs.lemmas.List.Sums.{fold-append}
use Rattle.std.proofs.lemmas.Slice.Eq.{bytes_eq-Decides}
use Rattle.dkg_types.specs.Blocks as made
use Rattle.dkg_infos.specs.declared.directory.Unit as directory
use Rattle.dkg_infos.specs.declared.fault.Fault.{Fault}
use Rattle.dkg_infos.specs.declared.fault.Fault.TheVariants.{ConflictingBlock, DetachedBlock, HeightRange, OutOfWindow, SkippedHeight}
use Rattle.dkg_text.specs.declared.script.Anchor.{Anchor}
use Rattle.dkg_text.specs.declared.script.Anchor.TheVariants.{Processed, Absent}
use Rattle.dkg_text.specs.declared.script.BlockLine.{BlockLine}
use Rattle.dkg_text.specs.declared.script.Event.{Event}
use Rattle.dkg_text.specs.declared.script.Event.TheVariants as event
use Rattle.dkg_text.specs.declared.script.Life.{Life}
use Rattle.dkg_script.specs.Blocks.{ScriptBlock, numbered_block, chain, chain_below, delivered_number}
use Rattle.dkg_script.specs.Consistent.{IsConsistentScript}
use Rattle.dkg_script.specs.Inclusion.{IsEventIn, IsFormOfInclusion}
use Rattle.dkg_script.specs.Position.{awaited_height_after}
use Rattle.dkg_script.specs.Setting.{CutAt, Setting, found, life_at}
use Rattle.dkg_core.specs.Live.{Finalized}
use Rattle.dkg_core.specs.Sources.{Tip, position}
use Rattle.dkg_core.specs.Endings.{tip_behind}
use Rattle.dkg_lives.specs.Blamed.{is_beyond, is_first_taken, refusal_by, refusal_in, refusal_over, tip_in, tip_over}
use Rattle.dkg_lives.specs.Epochs.{IsAnchorAbove}
use Rattle.dkg_lives.specs.Given.{AreBytes, anchor_of_line, anchor_in, blocks_in}
use Rattle.dkg_lives.proofs.Awaiting.{IsReached, awaited, block_awaits, comes_to, event_behind, one_more}
use Rattle.dkg_lives.proofs.BlocksMade.{IsOf, each_is}
use Rattle.dkg_lives.proofs.Former.{height_at}
use Rattle.dkg_lives.proofs.Living.{holds_at}
use Rattle.dkg_lives.proofs.Started.{at_anchor, starts_at_anchor}
use Rattle.dkg_lives.proofs.Delivered.{starts}
use Rattle.dkg_along.proofs.Used.{in_chain, of_anchor, of_delivered}

not_there : {A : Type 0} (x : A) → ◌≡◌ {A = Option A} None (Some x) → ⊥
not_there x e = cc

some_is : {A : Type 0} {x y : A} → ◌≡◌ {A = Option A} (Some x) (Some y) → x ≡ y
some_is e = cc

-- A TIP on the chain

pub record IsOnChain (s : Setting) (tip : Tip) : Type 0 where
  pub here : IfSome (chain s tip.height) (λ b. b.digest ≡ tip.digest)
  pub above : IfSome (chain s (suc tip.height)) (λ b. b.parent ≡ tip.digest)

abbrev at_block : ScriptBlock → Tip
at_block b = record { height = b.height; digest = b.digest }

-- A BLOCK OF THE CHAIN is refused by a tip of it only for its height

same_digest : (one other : List ℕ) → one ≡ other → not (bytes_eq one other) ≡ false
same_digest one other same = let equal : bytes_eq one other ≡ true = (bytes_eq-Decides one other).1 same in rw equal refl

both_tests : (a b : Bool) → (a && b) ≡ true → b ≡ false → ⊥
both_tests true b both not_b = let h : true ≡ false = sym both ∙ not_b in cc
both_tests false b both not_b = let h : ◌≡◌ {A = Bool} false true = both in cc

first_test : (a b : Bool) → (a && b) ≡ true → a ≡ true
first_test true b both = refl
first_test false b both = both

same_number : (a b : ℕ) → (a == b) ≡ true → a ≡ b
same_number a b test = grind (arith, nat_tests)

next : (n : ℕ) → n + 1 ≡ suc n
next n = omega arith

module _ (s : Setting) (tip : Tip) (its : made.Block directory.Unit) (b : ScriptBlock) (same : IsOf b its) (on_chain : IsOnChain s tip) (there : chain s b.height ≡ Some b) where
  no_conflict : ((its.height == tip.height) && not (bytes_eq its.digest tip.digest)) ≡ true → ⊥
  no_conflict test =
      let at : b.height ≡ tip.height = sym same.height ∙ same_number its.height tip.height (first_test (its.height == tip.height) (not (bytes_eq its.digest tip.digest)) test) in
      let here : chain s tip.height ≡ Some b = subst (λ (n : ℕ). chain s n ≡ Some b) at there in
      let digest : b.digest ≡ tip.digest = subst (λ (o : Option ScriptBlock). IfSome o (λ c. c.digest ≡ tip.digest)) here on_chain.here in
      both_tests (its.height == tip.height) (not (bytes_eq its.digest tip.digest)) test (same_digest its.digest tip.digest (same.digest ∙ digest))

  no_detached : ((its.height == tip.height + 1) && not (bytes_eq its.parent tip.digest)) ≡ true → ⊥
  no_detached test =
      let at : b.height ≡ tip.height + 1 = sym same.height ∙ same_number its.height (tip.height + 1) (first_test (its.height == tip.height + 1) (not (bytes_eq its.parent tip.digest)) test) in
      let here : chain s (suc tip.height) ≡ Some b = subst (λ (n : ℕ). chain s n ≡ Some b) (at ∙ next tip.height) there in
      let parent : b.parent ≡ tip.digest = subst (λ (o : Option ScriptBlock). IfSome o (λ c. c.parent ≡ tip.digest)) here on_chain.above in
      both_tests (its.height == tip.height + 1) (not (bytes_eq its.parent tip.digest)) test (same_digest its.parent tip.digest (same.parent ∙ parent))

  -- The law: of the tests of a block of the chain, that of its height alone can fail.
  pub only_skips : (own : Fault) → refusal_over tip its ≡ Some own → (own ≡ SkippedHeight (tip.height + 1) its.height) × (tip.height + 1 < its.height)
  only_skips own is = by_conflict ((its.height == tip.height) && not (bytes_eq its.digest tip.digest)) refl is
    where
      Skips : Type 0
      Skips = (own ≡ SkippedHeight (tip.height + 1) its.height) × (tip.height + 1 < its.height)

      less : (n m : ℕ) → nat_lt n m ≡ true → n < m
      less n m test = grind (arith, nat_tests)

      by_detached : (t : Bool) → ((its.height == tip.height + 1) && not (bytes_eq its.parent tip.digest)) ≡ t → ◌≡◌ {A = Option Fault} (if t then Some (DetachedBlock its.height) else None) (Some own) → Skips
      by_detached true test is = absurd (no_detached test)
      by_detached false test is = absurd (not_there own is)

      by_skipped : (t : Bool) → nat_lt (tip.height + 1) its.height ≡ t
          → ◌≡◌ {A = Option Fault} (if t then Some (SkippedHeight (tip.height + 1) its.height) else if (its.height == tip.height + 1) && not (bytes_eq its.parent tip.digest) then Some (DetachedBlock its.height) else None) (Some own) → Skips
      by_skipped true test is = (sym (some_is is), less (tip.height + 1) its.height test)
      by_skipped false test is = by_detached ((its.height == tip.height + 1) && not (bytes_eq its.parent tip.digest)) refl is

      by_conflict : (t : Bool) → ((its.height == tip.height) && not (bytes_eq its.digest tip.digest)) ≡ t
          → ◌≡◌ {A = Option Fault} (if t then Some (ConflictingBlock its.height) else if nat_lt (tip.height + 1) its.height then Some (SkippedHeight (tip.height + 1) its.height)
          else if (its.height == tip.height + 1) && not (bytes_eq its.parent tip.digest) then Some (DetachedBlock its.height) else None) (Some own) → Skips
      by_conflict true test is = absurd (no_conflict test)
      by_conflict false test is = by_skipped (nat_lt (tip.height + 1) its.height) refl is

-- what holds of the tip, and of one at a block, holds of the tip behind the block
tip_is : (tip : Option Tip) (its : made.Block directory.Unit) (b : ScriptBlock) (P : Option Tip → Type 0) → IsOf b its → P tip → P (Some (at_block b)) → P (tip_behind (Finalized its) tip)
tip_is tip its b P same old new = by_order (option_map_or (λ t. nat_le its.height t.height) tip false)
  where
    by_order : (t : Bool) → P (if t then tip else Some (record { height = its.height; digest = its.digest }))
    by_order true = old
    by_order false = rw (same.height, same.digest) new

-- ON THE CHAIN

abbrev Links : Setting → ScriptBlock → Type 0
Links s b = IfSome (chain_below s b.height) (λ below. b.parent ≡ below.digest)

module _ (s : Setting) (ends : List (Option CutAt)) (consistent : IsConsistentScript s ends) where
  -- a tip at a block that is used
  chained_at : (b : ScriptBlock) → chain s b.height ≡ Some b → IsOnChain s (at_block b)
  chained_at b there = record { here = rw there refl; above = by_above (chain s (suc b.height)) refl }
    where
      by_above : (o : Option ScriptBlock) → chain s (suc b.height) ≡ o → IfSome o (λ c. c.parent ≡ b.digest)
      by_above None is = tt
      by_above (Some c) is =
          let links : Links s c × (c.height ≡ suc b.height) = in_chain s (Links s) (suc b.height) c consistent.linked is in
          let below : IfSome (chain s b.height) (λ below. c.parent ≡ below.digest) = rw links.1 at links.0 in
          rw there at below

  -- .. and one below it
  chained_below : (b : ScriptBlock) (k : ℕ) → b.height ≡ suc k → chain s b.height ≡ Some b → Links s b → IsOnChain s (record { height = k; digest = b.parent })
  chained_below b k height there links = record {
    here = by_below (chain s k) (rw height at links);
    above = let above : chain s (suc k) ≡ Some b = subst (λ (n : ℕ). chain s n ≡ Some b) height there in rw above refl;
  }
    where
      by_below : (o : Option ScriptBlock) → IfSome o (λ below. b.parent ≡ below.digest) → IfSome o (λ below. below.digest ≡ b.parent)
      by_below None links = tt
      by_below (Some below) links = sym links

  -- as the node holds it
  at_made : (b : ScriptBlock) (its : made.Block directory.Unit) → IsOf b its → IsOnChain s (at_block b) → IsOnChain s (record { height = its.height; digest = its.digest })
  at_made b its same on = subst (λ (h : ℕ). IsOnChain s (record { height = h; digest = its.digest })) (sym same.height) (subst (λ (d : List ℕ). IsOnChain s (record { height = b.height; digest = d })) (sym same.digest) on)

  below_made : (b : ScriptBlock) (its : made.Block directory.Unit) → IsOf b its → IsOnChain s (record { height = b.height - 1; digest = b.parent }) → IsOnChain s (record { height = its.height - 1; digest = its.parent })
  below_made b its same on = subst (λ (h : ℕ). IsOnChain s (record { height = h - 1; digest = its.parent })) (sym same.height) (subst (λ (d : List ℕ). IsOnChain s (record { height = b.height - 1; digest = d })) (sym same.parent) on)

  module _ (form : IsFormOfInclusion s.script) (bytes : AreBytes s.script.blocks) (l : ℕ) (life : Life) (life_is : life_at s l ≡ Some life) (anchored : IfSome life.anchor (IsAnchorAbove s.script.blocks)) where
    -- a block as the node holds it is one of the script's
    pub record HasBlock (number : ℕ) (its : made.Block directory.Unit) : Type 0 where
      pub b : ScriptBlock
      pub there : numbered_block s number ≡ Some b
      pub same : IsOf b its

    pub has_block : (number : ℕ) (its : made.Block directory.Unit) → slice_get (blocks_in s.script) number ≡ Some its → HasBlock number its
    has_block number its is = by_block (numbered_block s number) refl (subst (λ (o : Option (made.Block directory.Unit)). IfSome o (λ k. IsSomeAnd (numbered_block s number) (λ b. IsOf b k))) is (each_is s form.blocks bytes number))
      where
        by_block : (o : Option ScriptBlock) → numbered_block s number ≡ o → IsSomeAnd o (λ b. IsOf b its) → HasBlock number its
        by_block None there same = absurd same
        by_block (Some b) there same = record { b = b; there = there; same = same }

    abbrev Chained : Option Tip → Type 0
    Chained tip = IfSome tip (IsOnChain s)

    -- AN OPENING stands at its anchor
    starts_chained : Chained (position (anchor_in (blocks_in s.script) life.anchor))
    starts_chained = by_anchor life.anchor refl anchored
      where
        processed : (number : ℕ) → life.anchor ≡ Some (Processed number) → (o : Option (made.Block directory.Unit)) → slice_get (blocks_in s.script) number ≡ o → Chained (position (option_map (anchor_of_line (Processed number)) o))
        processed number anchor_is None is = tt
        processed number anchor_is (Some its) is =
            let has = has_block number its is in
            let used : chain s (has.b).height ≡ Some has.b = subst (λ (o : Option ScriptBlock). IfSome o (λ c. chain s c.height ≡ Some c)) has.there (of_anchor s l life (λ c. chain s c.height ≡ Some c) life_is consistent.one_chain (Processed number) anchor_is) in
            at_made has.b its has.same (chained_at has.b used)

        absent : (number : ℕ) → life.anchor ≡ Some (Absent number) → IfSome (slice_get s.script.blocks number) (λ line. 0 < line.height) → (o : Option (made.Block directory.Unit)) → slice_get (blocks_in s.script) number ≡ o
            → Chained (position (option_map (anchor_of_line (Absent number)) o))
        absent number anchor_is above None is = tt
        absent number anchor_is above (Some its) is =
            let has = has_block number its is in
            let used : chain s (has.b).height ≡ Some has.b = subst (λ (o : Option ScriptBlock). IfSome o (λ c. chain s c.height ≡ Some c)) has.there (of_anchor s l life (λ c. chain s c.height ≡ Some c) life_is consistent.one_chain (Absent number) anchor_is) in
            let links : Links s has.b = subst (λ (o : Option ScriptBlock). IfSome o (Links s)) has.there (of_anchor s l life (Links s) life_is consistent.linked (Absent number) anchor_is) in
            below_made has.b its has.same (by_height has.b (has.b).height refl (subst (λ (n : ℕ). 0 < n) (has.same).height positive) used links)
          where
            positive : 0 < its.height
            positive = by_line (slice_get s.script.blocks number) above (height_at s.script number)
              where
                the_height : {x y : ℕ} → Some x ≡ Some y → x ≡ y
                the_height e = cc

                by_line : (o : Option BlockLine) → IfSome o (λ line. 0 < line.height)
                    → option_map (λ (b : made.Block directory.Unit). b.height) (slice_get (blocks_in s.script) number) ≡ option_map (λ (line : BlockLine). line.height) o → 0 < its.height
                by_line None above heights = absurd (not_there its.height (sym heights ∙ ap (option_map (λ (b : made.Block directory.Unit). b.height)) is))
                by_line (Some line) above heights = subst (λ (n : ℕ). 0 < n) (sym (the_height (sym (ap (option_map (λ (b : made.Block directory.Unit). b.height)) is) ∙ heights))) above

            by_height : (b : ScriptBlock) (k : ℕ) → b.height ≡ k → 0 < b.height → chain s b.height ≡ Some b → Links s b → IsOnChain s (record { height = b.height - 1; digest = b.parent })
            by_height b zero height some used links = absurd (omega (arith, some, height))
            by_height b (suc k) height some used links =
                let same : b.height - 1 ≡ k = omega (arith, height) in
                subst (λ (n : ℕ). IsOnChain s (record { height = n; digest = b.parent })) (sym same) (chained_below b k height used links)

        by_anchor : (at : Option Anchor) → life.anchor ≡ at → IfSome at (IsAnchorAbove s.script.blocks) → Chained (position (anchor_in (blocks_in s.script) at))
        by_anchor None anchor_is above = tt
        by_anchor (Some (Processed number)) anchor_is above = processed number anchor_is (slice_get (blocks_in s.script) number) refl
        by_anchor (Some (Absent number)) anchor_is above = absent number anchor_is above (slice_get (blocks_in s.script) number) refl

    module _ (no_sync : life.sync ≡ None) (none_found : found s l ≡ None) where
      -- where it stands behind its first j events
      pub record Tips (j : ℕ) : Type 0 where
        pub chained : Chained (tip_in s.script life j)
        pub height : awaited (tip_in s.script life j) ≡ awaited_height_after s l life j

      first_tip : tip_in s.script life 0 ≡ position (anchor_in (blocks_in s.script) life.anchor)
      first_tip = by_events life.events
        where
          by_events : (events : List Event) → fold (tip_over (blocks_in s.script)) (position (anchor_in (blocks_in s.script) life.anchor)) (take 0 events) ≡ position (anchor_in (blocks_in s.script) life.anchor)
          by_events [] = refl
          by_events (e ∷ events) = refl

      -- a block that comes is one of the chain
      pub delivered : (i number : ℕ) (its : made.Block directory.Unit) → slice_get life.events i ≡ Some (event.Final number) → IsReached life.cut (suc i) → slice_get (blocks_in s.script) number ≡ Some its
          → (has : HasBlock number its) × (chain s (has.b).height ≡ Some has.b)
      delivered i number its is reached there =
          let has = has_block number its there in
          (has, subst (λ (o : Option ScriptBlock). IfSome o (λ c. chain s c.height ≡ Some c)) has.there (of_delivered s l life (λ c. chain s c.height ≡ Some c) life_is consistent.one_chain i number (comes_to life.cut life.events i reached ∙ is)))

      tip_next : (i : ℕ) (e : Event) → slice_get life.events i ≡ Some e → tip_in s.script life (suc i) ≡ tip_over (blocks_in s.script) (tip_in s.script life i) e
      tip_next i e is = ap (λ (es : List Event). fold (tip_over (blocks_in s.script)) (position (anchor_in (blocks_in s.script) life.anchor)) es) (one_more life.events i e is)
          ∙ fold-append (tip_over (blocks_in s.script)) (position (anchor_in (blocks_in s.script) life.anchor)) (take i life.events) (e ∷ [])

      -- behind an event that delivers nothing
      still : (i : ℕ) (e : Event) → slice_get life.events i ≡ Some e → IsReached life.cut (suc i) → tip_over (blocks_in s.script) (tip_in s.script life i) e ≡ tip_in s.script life i
          → delivered_number e ≡ None → Tips i → Tips (suc i)
      still i e is reached same none tips = record {
        chained = subst Chained (sym (tip_next i e is ∙ same)) tips.chained;
        height = ap awaited (tip_next i e is ∙ same) ∙ tips.height ∙ sym (event_behind s l life i e is reached none);
      }

      by_event : (i : ℕ) (e : Event) → slice_get life.events i ≡ Some e → IsReached life.cut (suc i) → IsEventIn s.script.blocks e → Tips i → Tips (suc i)
      by_event i (event.Final number) is reached of_form tips = by_block (slice_get (blocks_in s.script) number) refl
        where
          by_block : (o : Option (made.Block directory.Unit)) → slice_get (blocks_in s.script) number ≡ o → Tips (suc i)
          by_block None none = absurd (by_line (slice_get s.script.blocks number) (height_at s.script number) of_form)
            where
              by_line : (o : Option BlockLine) → option_map (λ (b : made.Block directory.Unit). b.height) (slice_get (blocks_in s.script) number) ≡ option_map (λ (line : BlockLine). line.height) o → IsSome o → ⊥
              by_line None heights some = let wrong : false ≡ true = some in cc
              by_line (Some line) heights some = not_there line.height (sym (ap (option_map (λ (b : made.Block directory.Unit). b.height)) none) ∙ heights)
          by_block (Some its) there =
              let has = delivered i number its is reached there in
              let at : tip_in s.script life (suc i) ≡ tip_behind (Finalized its) (tip_in s.script life i)
              = tip_next i (event.Final number) is ∙ ap (λ (o : Option (made.Block directory.Unit)). option_map_or (λ b. tip_behind (Finalized b) (tip_in s.script life i)) o (tip_in s.script life i)) there in
              record {
                chained = subst Chained (sym at) (tip_is (tip_in s.script life i) its (has.0).b Chained (has.0).same tips.chained (chained_at (has.0).b has.1));
                height = ap awaited at ∙ block_awaits s l life i number its (tip_in s.script life i) (record { b = (has.0).b; there = (has.0).there; same = ((has.0).same).height }) is reached tips.height;
              }
      by_event i (event.Peer from bytes) is reached of_form tips = still i (event.Peer from bytes) is reached refl refl tips
      by_event i (event.Next request height) is reached of_form tips = still i (event.Next request height) is reached refl refl tips
      by_event i (event.Release height) is reached of_form tips = still i (event.Release height) is reached refl refl tips
      by_event i (event.Info request) is reached of_form tips = still i (event.Info request) is reached refl refl tips
      by_event i (event.Feed request number) is reached of_form tips = still i (event.Feed request number) is reached refl refl tips
      by_event i (event.Over request) is reached of_form tips = still i (event.Over request) is reached refl refl tips
      by_event i (event.Cancel request) is reached of_form tips = still i (event.Cancel request) is reached refl refl tips
      by_event i event.Work is reached of_form tips = still i event.Work is reached refl refl tips
      by_event i other is reached of_form tips = absurd of_form

      pub tips_so : (events_in : AllByRecursion (IsEventIn s.script.blocks) life.events) (j : ℕ) → IsReached life.cut j → ((i : ℕ) → i < j → (e : Event) × (slice_get life.events i ≡ Some e)) → Tips j
      tips_so events_in zero reached all = record {
        chained = subst Chained (sym first_tip) starts_chained;
        height = ap awaited first_tip ∙ at_anchor s life.anchor anchored ∙ sym (starts_at_anchor s l life no_sync none_found) ∙ sym (starts s l life);
      }
      tips_so events_in (suc i) reached all =
          let last = all i (omega arith) in
          by_event i last.0 last.1 reached (holds_at (IsEventIn s.script.blocks) life.events i last.0 events_in last.1) (tips_so events_in i (earlier life.cut reached) (λ k low. all k (omega (arith, low))))
        where
          earlier : (its : Option Cut) → IsReached its (suc i) → IsReached its i
          earlier None reached = tt
          earlier (Some cut) reached = λ none. let more : suc i < cut.step = reached none in omega (arith, more)

      -- WHY A BLOCK IS REFUSED: for its range, for its height, or for its window
      pub record IsSkipped (j : ℕ) (its : made.Block directory.Unit) (own : Fault) : Type 0 where
        pub fault_is : own ≡ SkippedHeight (awaited_height_after s l life j) its.height
        pub above : awaited_height_after s l life j < its.height
        pub some : 0 < awaited_height_after s l life j

      pub record IsOutside (j : ℕ) (its : made.Block directory.Unit) (own : Fault) : Type 0 where
        pub fault_is : own ≡ OutOfWindow its.height
        pub first : awaited_height_after s l life j ≡ 0
        pub untaken : is_first_taken s.script l life its ≡ false

      pub refused_so : (j number : ℕ) (its : made.Block directory.Unit) → slice_get life.events j ≡ Some (event.Final number) → IsReached life.cut (suc j) → slice_get (blocks_in s.script) number ≡ Some its → Tips j
          → (own : Fault) → refusal_in s.script l life j its ≡ Some own → ((own ≡ HeightRange) × (is_beyond s.script its.height ≡ true)) ⊎ (IsSkipped j its own ⊎ IsOutside j its own)
      refused_so j number its is reached there tips own refused = by_range (is_beyond s.script its.height) refl refused
        where
          positive : (h : ℕ) → 0 < h + 1
          positive h = omega arith

          the_block : (has : HasBlock number its) × (chain s (has.b).height ≡ Some has.b)
          the_block = delivered j number its is reached there

          by_tip : (o : Option Tip) → tip_in s.script life j ≡ o → Chained o → refusal_by s.script l life its o ≡ Some own → IsSkipped j its own ⊎ IsOutside j its own
          by_tip None none chained refused = by_window (is_first_taken s.script l life its) refl refused
            where
              by_window : (t : Bool) → is_first_taken s.script l life its ≡ t → (if t then None else Some (OutOfWindow its.height)) ≡ Some own → IsSkipped j its own ⊎ IsOutside j its own
              by_window true taken e = absurd (not_there own e)
              by_window false taken e = inr (record { fault_is = sym (some_is e); first = sym tips.height ∙ ap awaited none; untaken = taken })
          by_tip (Some t) at chained refused =
              let its_own = only_skips s t its ((the_block.0).b) (the_block.0).same chained the_block.1 own refused in
              let height : t.height + 1 ≡ awaited_height_after s l life j = sym (ap awaited at) ∙ tips.height in
              inl (record { fault_is = its_own.0 ∙ ap (λ (h : ℕ). SkippedHeight h its.height) height; above = subst (λ (h : ℕ). h < its.height) height its_own.1; some = subst (λ (h : ℕ). 0 < h) height (positive t.height) })

          by_range : (t : Bool) → is_beyond s.script its.height ≡ t → (if t then Some HeightRange else refusal_by s.script l life its (tip_in s.script life j)) ≡ Some own
              → ((own ≡ HeightRange) × (is_beyond s.script its.height ≡ true)) ⊎ (IsSkipped j its own ⊎ IsOutside j its own)
          by_range true beyond e = inl (sym (some_is e), beyond)
          by_range false beyond e = inr (by_tip (tip_in s.script life j) refl tips.chained e)
