-- An epoch's last block passes an active half on: the next epoch is within range, the fence is ready for it, and its scheme is registered.
use Rattle.std.proofs.Common.{◌≡◌, ◌≤◌, ◌⊎◌, inl, inr, ℕ, Bool, true, false, nat_le, Option, Some, None, refl, sym, ◌∙◌, ap, subst, arith}
use Rattle.std.specs.Prelude.{◌+◌, ◌<◌, ◌==◌, IsSome, max, if◌then◌else◌}
use Rattle.std.specs.Option.{option_map_or}
use Rattle.std.proofs.Math.Nat.{le-max_right}
use Rattle.std.proofs.lemmas.Bool.Decides.{nat_tests}
use Rattle.dkg_values.specs.Rising.{lookup}
use Rattle.dkg_ceremony.specs.Schedule.{epoch_of, last}
use Rattle.dkg_fence.specs.Fence.{raised, unreached}
use Rattle.dkg_fence.specs.Readiness.{Readiness}
use Rattle.dkg_types.specs.Blocks.{Block}
use Rattle.dkg_infos.specs.declared.directory.Unit as directory
use Rattle.dkg_store.specs.Acts.{Held}
use Rattle.dkg_core.specs.Asked.{OfShares}
use Rattle.dkg_core.specs.Entering.{is_ready}
use Rattle.dkg_core.specs.Fixed.{Fixed}
use Rattle.dkg_core.specs.Forms.{Applied, Judged, Passed, Refusal, judged_block, registered_with}
use Rattle.dkg_core.specs.Live.{Deals, Ends, Finalized, Follows, Includes, Live, Orchestrator, Stage, awaited_height, is_last_height}
use Rattle.dkg_laws.specs.NodeThrough.{IsActiveThrough}
use Rattle.dkg_core.specs.Setup.{is_past_range, scheme_for}
use Rattle.dkg_core.specs.Sources.{Tip}
use Rattle.dkg_core.specs.Through.{IsAppliedThrough, IsBlockThrough, IsFormThrough, IsIncludedThrough, IsLiveThrough, IsNextThrough, IsPassedOn}
use Rattle.dkg_core.proofs.Applied.{deals_below, includes_above}
use Rattle.dkg_core.proofs.Heights.{below_middle, below_tip}
use Rattle.dkg_lives.proofs.NextLives.{passed_so}

apart_bools : (t : Bool) → t ≡ true → t ≡ false → ⊥
apart_bools t e f = let wrong : true ≡ false = sym e ∙ f in cc

never_below : (m n : ℕ) → m < n → m ≡ n → ⊥
never_below m n low same = omega (arith, low, same)

equal_number : (n m : ℕ) → n ≡ m → (n == m) ≡ true
equal_number n m e = grind (arith, nat_tests)

-- what marks an epoch makes the fence ready for it
ready_marked : (r : Option ℕ) (e n : ℕ) → e ≡ n → is_ready (raised e r) n ≡ true
ready_marked None e n same = at_least e n same
  where
    at_least : (n m : ℕ) → n ≡ m → nat_le m n ≡ true
    at_least n m same = grind (arith, nat_tests, same)
ready_marked (Some g) e n same = at_least n (max g e) (subst (λ (x : ℕ). x ≤ max g e) same (le-max_right g e))
  where
    at_least : (n m : ℕ) → n ≤ m → nat_le n m ≡ true
    at_least n m low = grind (arith, nat_tests, low)

module _ (c : Fixed directory.Unit) (stored : OfShares) (b : Block directory.Unit) (st end : Live directory.Unit) (devices left : Option Held) (form : IsFormThrough c) (live : IsLiveThrough c stored st)
    (active : IsActiveThrough st) (next : IsNextThrough c stored st (Finalized b) devices end left) (epoch : ℕ) (going : st.orchestrator.halted ≡ false) (entered : st.orchestrator.entered ≡ Some epoch)
    (at_last : b.height ≡ last c.blocks_per_epoch epoch) where
  abbrev Passes : Type 0
  Passes =
      (is_past_range c (b.height + 1) ≡ false) × (is_ready end.orchestrator.fence.ready (epoch + 1) ≡ true) × IsSome (lookup (epoch + 1) end.orchestrator.schemes)

  -- the epoch is the awaited one, in which the life takes part
  at : (st.participation.epoch ≡ epoch) × (st.participation.stage ≡ Follows → ⊥)
  at = either active.active.entered
    where
      the_same : {x y : ℕ} → Some x ≡ Some y → x ≡ y
      the_same e = cc

      either : (st.orchestrator.halted ≡ true) ⊎ ((st.orchestrator.entered ≡ Some st.participation.epoch) × (st.participation.stage ≡ Follows → ⊥)) → (st.participation.epoch ≡ epoch) × (st.participation.stage ≡ Follows → ⊥)
      either (inl halted) = absurd (apart_bools st.orchestrator.halted halted going)
      either (inr its) = (the_same (sym its.0 ∙ entered), its.1)

  -- no block below the epoch's last is meant
  never : b.height < last c.blocks_per_epoch st.participation.epoch → ⊥
  never low = never_below b.height (last c.blocks_per_epoch st.participation.epoch) low (at_last ∙ ap (last c.blocks_per_epoch) (sym at.0))

  of_passed : judged_block c b st ≡ Passed → ⊥
  of_passed is =
      let so = passed_so c b st is in
      never (below_tip c.blocks_per_epoch st.participation.epoch (so.0).height b.height form.form.counted
      (sym (live.stands.awaits at.1 ∙ ap (λ (o : Option Tip). epoch_of c.blocks_per_epoch (option_map_or (λ t. t.height + 1) o 0)) so.1)) (at_most b.height (so.0).height so.2))
    where
      at_most : (n m : ℕ) → nat_le n m ≡ true → n ≤ m
      at_most n m e = grind (arith, nat_tests)

  module _ (accepted : judged_block c b st ≡ Applied) where
    of_deals : st.participation.stage ≡ Deals → ⊥
    of_deals is =
        let located = deals_below c b st live.stands accepted is in
        never (subst (λ (e : ℕ). b.height < last c.blocks_per_epoch e) (sym located.0) (below_middle c.blocks_per_epoch (epoch_of c.blocks_per_epoch b.height) b.height form.form.counted located.1))

    module _ (is : st.participation.stage ≡ Includes) where
      here : epoch ≡ epoch_of c.blocks_per_epoch b.height
      here = sym at.0 ∙ (includes_above c b st live.stands accepted is).0

      is_last : is_last_height c b.height ≡ true
      is_last = equal_number b.height (last c.blocks_per_epoch (epoch_of c.blocks_per_epoch b.height)) (at_last ∙ ap (last c.blocks_per_epoch) here)

      -- the fence that an epoch marks, by whether it is closed
      abbrev marked_in : (epoch : ℕ) → Bool → Readiness
      marked_in epoch t =
          if t then st.orchestrator.fence
          else record { ready = raised epoch st.orchestrator.fence.ready; closed = st.orchestrator.fence.closed; awaited = unreached epoch st.orchestrator.fence.awaited }

      of_passing : IsPassedOn c stored b st devices end left → Passes
      of_passing its = (its.in_range, ready, there)
        where
          orchestrator : end.orchestrator ≡ registered_with c its.on.info its.on.share st.orchestrator
          orchestrator = its.seated.orchestrator

          of_next : its.on.info.epoch ≡ epoch + 1
          of_next = its.on.of_next ∙ ap (λ (e : ℕ). e + 1) (sym here)

          ready : is_ready end.orchestrator.fence.ready (epoch + 1) ≡ true
          ready = ap (λ (o : Orchestrator directory.Unit). is_ready o.fence.ready (epoch + 1)) orchestrator ∙ either st.orchestrator.fence.closed active.unclosed
            where
              either : (t : Bool) → t ≡ false → is_ready (marked_in its.on.info.epoch t).ready (epoch + 1) ≡ true
              either true e = absurd (apart_bools true refl e)
              either false e = ready_marked st.orchestrator.fence.ready its.on.info.epoch (epoch + 1) of_next

          there : IsSome (lookup (epoch + 1) end.orchestrator.schemes)
          there =
              subst (λ (o : Orchestrator directory.Unit). IsSome (lookup (epoch + 1) o.schemes)) (sym orchestrator)
              (subst (λ (t : Bool). IsSome (if t then Some (scheme_for c its.on.info its.on.share) else lookup (epoch + 1) st.orchestrator.schemes)) (sym (equal_number its.on.info.epoch (epoch + 1) of_next)) refl)

      of_included : (t : Bool) → is_last_height c b.height ≡ t → IsIncludedThrough c stored b st devices t end left → Passes
      of_included true e its = of_passing its
      of_included false e its = absurd (apart_bools (is_last_height c b.height) is_last e)

    applied : (stage : Stage) → st.participation.stage ≡ stage → IsAppliedThrough c stored b st devices stage end left → Passes
    applied Deals is its = absurd (of_deals is)
    applied Includes is its = of_included is (is_last_height c b.height) refl its
    applied Follows is its = absurd (at.1 is)
    applied Ends is its = absurd its

  by_judged : (j : Judged) → judged_block c b st ≡ j → IsBlockThrough c stored b st devices j end left → Passes
  by_judged (Refusal refused) is its = absurd its
  by_judged Passed is its = absurd (of_passed is)
  by_judged Applied is its = applied is st.participation.stage refl its

  pub may_pass : Passes
  may_pass = by_judged (judged_block c b st) refl next.is
