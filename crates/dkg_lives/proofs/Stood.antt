-- Where a life of a script that goes over many epochs stands: behind its opening, and behind each step of the form.
use Rattle.std.proofs.Common.{◌≡◌, ◌⊎◌, inl, inr, ℕ, suc, ◌+◌, ◌-◌, ◌*◌, ◌<◌, ◌≤◌, ◌==◌, ◌&&◌, ◌||◌, Option, Some, None, Bool, true, false, arith, refl, sym, ap, subst, ◌∙◌}
use Rattle.std.specs.Prelude.{max, nat_lt, not, is_some, slice_get, IsSomeAnd}
use Rattle.std.proofs.lemmas.Bool.Decides.{nat_tests}
use Rattle.dkg_ceremony.specs.Schedule.{epoch_of, last}
use Rattle.dkg_types.specs.Blocks as made
use Rattle.dkg_types.specs.BlockCodes.{info_of}
use Rattle.dkg_infos.specs.declared.directory.Unit as directory
use Rattle.dkg_infos.specs.declared.info.EpochInfo.{EpochInfo}
use Rattle.dkg_text.specs.declared.script.Event.{Event}
use Rattle.dkg_text.specs.declared.script.Event.TheVariants.{Final}
use Rattle.dkg_script.specs.Epochs.{alone}
use Rattle.dkg_script.specs.Position.{awaited_epoch, enters_blind_at, life_follows, lacks_boundary, starts_blind, starts_late}
use Rattle.dkg_script.specs.Setting.{Setting, blocks_per_epoch, is_oneshot}
use Rattle.dkg_store.specs.Acts.{Held}
use Rattle.dkg_core.specs.Forms.{IsNodeBegun, IsSeated, IsSetUpIn, Judged, Refusal, Passed, Applied, judged_block, share_read, seed_read, started}
use Rattle.dkg_core.specs.Live as core
use Rattle.dkg_core.specs.Live.{Finalized, Follows, Live, Message, Mailed, is_last_height, with_orchestrator}
use Rattle.dkg_core.specs.Seen.{Seen}
use Rattle.dkg_core.specs.Setup.{Uncommitted}
use Rattle.dkg_core.specs.Sources.{Tip, startup}
use Rattle.dkg_laws.specs.NodeThrough.{IsNodeThrough}
use Rattle.dkg_core.specs.Through.{IsBlockThrough, IsEndThrough, IsLiveThrough, IsNextThrough, PassesNothingOn}
use Rattle.dkg_core.specs.Endings.{first_block, tip_behind}
use Rattle.dkg_core.proofs.Heights.{epoch_from, epoch_is, epoch_to, next_last}
use Rattle.dkg_lives.specs.Epochs.{IsLifeInForm, StandsInScript, any_shares, awaited_by, epoch_by}
use Rattle.dkg_lives.specs.Given.{Lived, at_step}
use Rattle.dkg_lives.proofs.Awaiting.{HasHeight, IsReached, awaited, block_awaits, block_behind, event_behind, has_height}
use Rattle.dkg_lives.proofs.Delivered.{enters_here, enters_not, epochs_rise, first_not, starts}
use Rattle.dkg_lives.proofs.Former.{BringsBlock, BringsMail, IsMadeOf, IsMessage, brings_so, form_at, life_in}
use Rattle.dkg_lives.proofs.NextLives.{GoesOn, TakesOver, applied_high, applied_so, applied_tip, next_so, next_tip, parts_behind, with_round}
use Rattle.dkg_lives.proofs.Started.{awaits_at_first, blind_is, first_block_is, first_epoch_is, not_late}

-- OVER NUMBERS

-- the height above one that isn't its epoch's last lies in the same epoch
not_last : (n h : ℕ) → 1 ≤ n → (h == last n (epoch_of n h)) ≡ false → epoch_of n (h + 1) ≡ epoch_of n h
not_last n h some apart = epoch_is n (epoch_of n h) (h + 1) (above (epoch_of n h * n) h (epoch_from n h)) (below (epoch_of n h * n) n h (epoch_to n h some) (other h (epoch_of n h * n + n - 1) apart))
  where
    above : (m h : ℕ) → m ≤ h → m ≤ h + 1
    above m h low = omega (arith, low)

    other : (a b : ℕ) → (a == b) ≡ false → a ≡ b → ⊥
    other a b test same = absurd (let yes : (a == b) ≡ true = grind (arith, nat_tests) in let wrong : true ≡ false = sym yes ∙ test in cc)

    below : (m n h : ℕ) → h < m + n → (h ≡ m + n - 1 → ⊥) → h + 1 < m + n
    below m n h less apart = by_order (nat_lt (h + 1) (m + n)) refl
      where
        by_order : (t : Bool) → nat_lt (h + 1) (m + n) ≡ t → h + 1 < m + n
        by_order true test = grind (arith, nat_tests)
        by_order false test = absurd (apart (let more : m + n ≤ h + 1 = grind (arith, nat_tests) in omega (arith, more, less)))

bools_apart : (t : Bool) → t ≡ true → t ≡ false → ⊥
bools_apart t e f = let wrong : true ≡ false = sym e ∙ f in cc

the_block : {A : Type 0} {x y : made.Block A} → ◌≡◌ {A = Message A} (Finalized x) (Finalized y) → x ≡ y
the_block e = cc

module _ (g : Lived) (here : IsLifeInForm g) where
  abbrev s : Setting
  s = alone g.script

  abbrev n : ℕ
  n = blocks_per_epoch s

  some : 1 ≤ n
  some = one n here.long
    where
      one : (n : ℕ) → 2 ≤ n → 1 ≤ n
      one n long = omega (arith, long)

  -- WHICH EPOCHS IT FOLLOWS

  abbrev blind : Bool
  blind = starts_blind s g.number g.life

  abbrev is_first : ℕ → Bool
  is_first e = e == awaited_epoch s g.number g.life 0

  -- that in which it starts without the block that begins it, and without a position that of the first block
  follows_is : (e : ℕ) → life_follows s g.number g.life e ≡ (blind && (is_first e || enters_blind_at s g.number g.life e))
  follows_is e = plainly (is_oneshot s) (is_first e) (starts_late s g.number g.life) blind (enters_blind_at s g.number g.life e) reshares (not_late s g.number g.life (life_in g here).no_sync refl)
    where
      reshares : is_oneshot s ≡ false
      reshares = ap is_some here.form.reshares

      plainly : (oneshot first late sees enters : Bool) → oneshot ≡ false → late ≡ false → (not oneshot && ((first && (late || sees)) || (sees && enters))) ≡ (sees && (first || enters))
      plainly true first late sees enters a b = absurd (bools_apart true refl a)
      plainly false first true sees enters a b = absurd (bools_apart true refl b)
      plainly false true false true enters a b = refl
      plainly false false false true enters a b = refl
      plainly false true false false enters a b = refl
      plainly false false false false enters a b = refl

  is_blind : (e : ℕ) → life_follows s g.number g.life e ≡ true → blind ≡ true
  is_blind e is = first_of blind (is_first e || enters_blind_at s g.number g.life e) (sym (follows_is e) ∙ is)
    where
      first_of : (a b : Bool) → (a && b) ≡ true → a ≡ true
      first_of true b e = refl
      first_of false b e = absurd (bools_apart false e refl)

  follows_first : (e : ℕ) → blind ≡ true → e ≡ awaited_epoch s g.number g.life 0 → life_follows s g.number g.life e ≡ true
  follows_first e sees same = follows_is e ∙ both blind (is_first e) (enters_blind_at s g.number g.life e) sees (itself e (awaited_epoch s g.number g.life 0) same)
    where
      itself : (a b : ℕ) → a ≡ b → (a == b) ≡ true
      itself a b is = grind (arith, nat_tests)

      both : (a b c : Bool) → a ≡ true → b ≡ true → (a && (b || c)) ≡ true
      both a b c x y = rw (x, y) refl

  follows_entered : (e : ℕ) → blind ≡ true → enters_blind_at s g.number g.life e ≡ true → life_follows s g.number g.life e ≡ true
  follows_entered e sees enters = follows_is e ∙ both blind (is_first e) (enters_blind_at s g.number g.life e) sees enters
    where
      both : (a b c : Bool) → a ≡ true → c ≡ true → (a && (b || c)) ≡ true
      both a true c x y = rw x refl
      both a false c x y = rw (x, y) refl

  sees_all : (e : ℕ) → blind ≡ false → life_follows s g.number g.life e ≡ false
  sees_all e sees = follows_is e ∙ ap (λ (t : Bool). t && (is_first e || enters_blind_at s g.number g.life e)) sees

  follows_no_other : (e : ℕ) → is_first e ≡ false → enters_blind_at s g.number g.life e ≡ false → life_follows s g.number g.life e ≡ false
  follows_no_other e first enters = follows_is e ∙ neither blind (is_first e) (enters_blind_at s g.number g.life e) first enters
    where
      neither : (a b c : Bool) → b ≡ false → c ≡ false → (a && (b || c)) ≡ false
      neither true b c x y = rw (x, y) refl
      neither false b c x y = refl

  -- AN OPENING

  module _ (seen : Seen) (k : Held) (st : Live directory.Unit) (begun : IsNodeBegun (at_step g 0) seen k st) where
    same_participation : st.participation ≡ (begun.before).participation
    same_participation = ap (λ (x : Live directory.Unit). x.participation) (begun.entered).same

    begun_tip : st.tip ≡ startup (at_step g 0).source.anchor None
    begun_tip = ap (λ (x : Live directory.Unit). x.tip) (begun.entered).same ∙ (begun.opened).tip

    begun_awaits : core.awaited_height st ≡ awaited_by g 0
    unfolding at_step
    begun_awaits = ap awaited begun_tip ∙ awaits_at_first g here ∙ sym (starts s g.number g.life)

    epoch_awaited : epoch_of (at_step g 0).blocks_per_epoch (core.awaited_height st) ≡ epoch_by g 0
    unfolding at_step
    epoch_awaited = ap (epoch_of n) begun_awaits

    unfollowed : (b : made.Block directory.Unit) → IsSetUpIn (at_step g 0) seen k begun.before (Some b) → st.participation.stage ≡ Follows → ⊥
    unfollowed b set_up = by_info (info_of b.payload) set_up
      where
        by_info : (o : Option (EpochInfo directory.Unit)) → IsSomeAnd o (λ info. IsSeated (at_step g 0) Uncommitted info (share_read (at_step g 0) info k) (seed_read (at_step g 0) info k) (started (at_step g 0) seen) begun.before)
            → st.participation.stage ≡ Follows → ⊥
        by_info None none = absurd none
        by_info (Some info) seated = with_round (at_step g 0) st seated.round begun.live (ap (λ p. p.round) same_participation ∙ seated.in_round)

    by_first : (o : Option (made.Block directory.Unit)) → first_block (at_step g 0) ≡ o → IsSetUpIn (at_step g 0) seen k begun.before o → StandsInScript g 0 st
    by_first None is set_up =
        let follows_it : st.participation.stage ≡ Follows = (begun.live.without (ap (λ p. p.round) same_participation ∙ set_up.0)).0 in
        let first : st.participation.epoch ≡ epoch_by g 0 = ap (λ p. p.epoch) same_participation ∙ set_up.1 ∙ first_epoch_is g here 0 in
        record {
          awaits = begun_awaits;
          blind = λ stage. follows_first (epoch_by g 0) (blind_is s g.number g.life (life_in g here).no_sync refl ∙ lacks (lacks_boundary s g.number g.life) (sym (first_block_is g here) ∙ ap is_some is)) refl;
          parts = λ apart. absurd (apart follows_it);
          epoch = λ apart. absurd (apart follows_it);
          within = no_more st.participation.epoch (epoch_by g 0) first;
        }
      where
        lacks : (t : Bool) → not t ≡ false → t ≡ true
        lacks true e = refl
        lacks false e = absurd (bools_apart true refl e)

        no_more : (a b : ℕ) → a ≡ b → a ≤ b
        no_more a b same = omega (arith, same)
    by_first (Some b) is set_up =
        let apart : st.participation.stage ≡ Follows → ⊥ = unfollowed b set_up in
        let epoch : st.participation.epoch ≡ epoch_by g 0 = begun.live.awaits apart ∙ epoch_awaited in
        record {
          awaits = begun_awaits;
          blind = λ stage. absurd (apart stage);
          parts = λ _. sees_all (epoch_by g 0) (blind_is s g.number g.life (life_in g here).no_sync refl ∙ has (lacks_boundary s g.number g.life) (sym (first_block_is g here) ∙ ap is_some is));
          epoch = λ _. epoch;
          within = no_more st.participation.epoch (epoch_by g 0) epoch;
        }
      where
        has : (t : Bool) → not t ≡ true → t ≡ false
        has true e = absurd (bools_apart false e refl)
        has false e = refl

        no_more : (a b : ℕ) → a ≡ b → a ≤ b
        no_more a b same = omega (arith, same)

    pub begun_stands : StandsInScript g 0 st
    begun_stands = by_first (first_block (at_step g 0)) refl (begun.opened).set_up

  -- A STEP

  module _ (i : ℕ) (its : Event) (is : slice_get g.life.events i ≡ Some its) (reached : IsReached g.life.cut (suc i)) (m : IsMessage g its) (st : Live directory.Unit) (live : IsLiveThrough (at_step g (suc i)) any_shares st) (stands : StandsInScript g i st) where
    stage_epoch : epoch_of (at_step g (suc i)).blocks_per_epoch (core.awaited_height st) ≡ epoch_by g i
    unfolding at_step
    stage_epoch = ap (epoch_of n) stands.awaits

    -- what it brings is of the form
    module _ (number : ℕ) (made_it : IsMadeOf g.script number) where
      the_height : HasHeight s number made_it.block
      the_height = has_height s number made_it.block made_it.line made_it.line_is made_it.is

    -- WHERE IT STANDS BEHIND IT
    module _ (devices : Option Held) (end : Live directory.Unit) (left : Option Held) (next : IsNextThrough (at_step g (suc i)) any_shares st m.message devices end left) where
      tip_is : end.tip ≡ tip_behind m.message st.tip
      tip_is = next_tip (at_step g (suc i)) st any_shares m.message devices end left next

      end_awaits : core.awaited_height end ≡ awaited_by g (suc i)
      end_awaits = ap awaited tip_is ∙ by_brought (brings_so g its m.message m.brings)
        where
          by_brought : BringsBlock g its m.message ⊎ BringsMail its m.message → awaited (tip_behind m.message st.tip) ≡ awaited_by g (suc i)
          by_brought (inr mail) =
              ap (λ (x : Message directory.Unit). awaited (tip_behind x st.tip)) mail.1 ∙ stands.awaits ∙ sym (event_behind s g.number g.life i its is reached mail.2)
          by_brought (inl b) =
              ap (λ (x : Message directory.Unit). awaited (tip_behind x st.tip)) b.3
              ∙ block_awaits s g.number g.life i b.0 (b.1).block st.tip (the_height b.0 b.1) (is ∙ ap (λ (e : Event). Some e) b.2) reached stands.awaits

      end_epoch : epoch_of (at_step g (suc i)).blocks_per_epoch (core.awaited_height end) ≡ epoch_by g (suc i)
      unfolding at_step
      end_epoch = ap (epoch_of n) end_awaits

      rising : awaited_by g i ≤ awaited_by g (suc i)
      rising = by_brought (brings_so g its m.message m.brings)
        where
          same_or : (a b : ℕ) → b ≡ a → a ≤ b
          same_or a b e = omega (arith, e)

          at_most : (a b k : ℕ) → b ≡ max a (k + 1) → a ≤ b
          at_most a b k e = omega (arith, e)

          by_brought : BringsBlock g its m.message ⊎ BringsMail its m.message → awaited_by g i ≤ awaited_by g (suc i)
          by_brought (inr mail) = same_or (awaited_by g i) (awaited_by g (suc i)) (event_behind s g.number g.life i its is reached mail.2)
          by_brought (inl b) =
              let its_height = the_height b.0 b.1 in
              at_most (awaited_by g i) (awaited_by g (suc i)) (its_height.b).height
              (block_behind s g.number g.life i b.0 its_height.b (is ∙ ap (λ (e : Event). Some e) b.2) reached its_height.there)

      later : epoch_by g i ≤ epoch_by g (suc i)
      later = epochs_rise n (awaited_by g i) (awaited_by g (suc i)) some rising

      -- an applied block's height is behind the step
      module _ (number : ℕ) (made_it : IsMadeOf g.script number) (at : slice_get g.life.events i ≡ Some (Final number)) (message_is : m.message ≡ Finalized made_it.block) (applied : judged_block (at_step g (suc i)) made_it.block st ≡ Applied) where
        abbrev height : ℕ
        height = (the_height number made_it).b.height

        behind : awaited_by g (suc i) ≡ height + 1
        behind = sym end_awaits ∙ ap awaited (tip_is ∙ ap (λ (x : Message directory.Unit). tip_behind x st.tip) message_is ∙ applied_tip (at_step g (suc i)) st made_it.block applied) ∙ ap (λ (h : ℕ). h + 1) (the_height number made_it).same

        reaches : awaited_by g i ≤ height
        reaches = upto (core.awaited_height st) (awaited_by g i) made_it.block.height height stands.awaits (the_height number made_it).same (applied_high (at_step g (suc i)) made_it.block st applied)
          where
            upto : (a b c d : ℕ) → a ≡ b → c ≡ d → a ≤ c → b ≤ d
            upto a b c d one two low = omega (arith, one, two, low)

        -- A LAST BLOCK that is taken: the epoch behind isn't followed
        module _ (ends : is_last_height (at_step g (suc i)) made_it.block.height ≡ true) where
          next_epoch : epoch_by g (suc i) ≡ epoch_of n height + 1
          unfolding at_step
          next_epoch = ap (epoch_of n) behind ∙ next_last n height some (subst (λ (h : ℕ). (h == last n (epoch_of n h)) ≡ true) (the_height number made_it).same ends)

          above : epoch_of n height < epoch_by g (suc i)
          above = more (epoch_of n height) (epoch_by g (suc i)) next_epoch
            where
              more : (a b : ℕ) → b ≡ a + 1 → a < b
              more a b e = omega (arith, e)

          unfollowed_then : life_follows s g.number g.life (epoch_by g (suc i)) ≡ false
          unfollowed_then = follows_no_other (epoch_by g (suc i))
              (first_not s g.number g.life some i number (the_height number made_it).b at reached (the_height number made_it).there (epoch_by g (suc i)) reaches above)
              (enters_not s g.number g.life some i number (the_height number made_it).b at reached (the_height number made_it).there (epoch_by g (suc i)) (suc_height (awaited_by g (suc i)) height behind) above)
            where
              suc_height : (a b : ℕ) → a ≡ b + 1 → a ≡ suc b
              suc_height a b e = omega (arith, e)

        -- ANY OTHER BLOCK that is taken while it follows
        module _ (goes : is_last_height (at_step g (suc i)) made_it.block.height ≡ false) (stage : st.participation.stage ≡ Follows) where
          same_epoch : epoch_by g (suc i) ≡ epoch_of n height
          unfolding at_step
          same_epoch = ap (epoch_of n) behind ∙ not_last n height some (subst (λ (h : ℕ). (h == last n (epoch_of n h)) ≡ false) (the_height number made_it).same goes)

          followed_then : life_follows s g.number g.life (epoch_by g (suc i)) ≡ true
          followed_then = by_tip st.tip refl
            where
              by_tip : (o : Option Tip) → st.tip ≡ o → life_follows s g.number g.life (epoch_by g (suc i)) ≡ true
              by_tip (Some t) tip =
                  let over : made_it.block.height ≡ t.height + 1 = (applied_so (at_step g (suc i)) made_it.block st applied).over t tip in
                  let at_tip : awaited_by g i ≡ height = sym stands.awaits ∙ ap awaited tip ∙ sym over ∙ (the_height number made_it).same in
                  ap (life_follows s g.number g.life) (same_epoch ∙ sym (ap (epoch_of n) at_tip)) ∙ stands.blind stage
              by_tip None tip =
                  ap (life_follows s g.number g.life) same_epoch
                  ∙ follows_entered (epoch_of n height) (is_blind (epoch_by g i) (stands.blind stage))
                  (enters_here s g.number g.life some i number (the_height number made_it).b at reached (the_height number made_it).there (sym stands.awaits ∙ ap awaited tip))

      -- the life goes on
      module _ (goes : GoesOn (at_step g (suc i)) st m.message end) where
        parted : (end.participation.stage ≡ Follows → ⊥) → epoch_by g (suc i) ≡ epoch_by g i
        parted apart = sym end_epoch ∙ sym ((next.live).stands.awaits apart) ∙ (goes.same).epoch ∙ stands.epoch (λ life_follows. apart (goes.following life_follows))

        followed_on : end.participation.stage ≡ Follows → life_follows s g.number g.life (epoch_by g (suc i)) ≡ true
        followed_on stage = by_brought (brings_so g its m.message m.brings)
          where
            before : st.participation.stage ≡ Follows
            before = goes.parts stage

            unmoved : end.tip ≡ st.tip → life_follows s g.number g.life (epoch_by g (suc i)) ≡ true
            unmoved same = ap (λ (h : ℕ). life_follows s g.number g.life (epoch_of n h)) (sym end_awaits ∙ ap awaited same ∙ stands.awaits) ∙ stands.blind before

            by_brought : BringsBlock g its m.message ⊎ BringsMail its m.message → life_follows s g.number g.life (epoch_by g (suc i)) ≡ true
            by_brought (inr mail) = unmoved (tip_is ∙ ap (λ (x : Message directory.Unit). tip_behind x st.tip) mail.1)
            by_brought (inl b) = by_judged (judged_block (at_step g (suc i)) (b.1).block st) refl
              where
                the_end : IsBlockThrough (at_step g (suc i)) any_shares (b.1).block st devices (judged_block (at_step g (suc i)) (b.1).block st) end left
                the_end = subst (λ (x : Message directory.Unit). IsEndThrough (at_step g (suc i)) any_shares st x devices end left) b.3 next.is

                by_last : (applied : judged_block (at_step g (suc i)) (b.1).block st ≡ Applied) (t : Bool) → is_last_height (at_step g (suc i)) (b.1).block.height ≡ t → life_follows s g.number g.life (epoch_by g (suc i)) ≡ true
                by_last applied true ends = absurd (subst (λ (x : Message directory.Unit). PassesNothingOn (at_step g (suc i)) st x) b.3 goes.nothing applied ends)
                by_last applied false ends = followed_then b.0 b.1 (is ∙ ap (λ (e : Event). Some e) b.2) b.3 applied ends before

                by_judged : (j : Judged) → judged_block (at_step g (suc i)) (b.1).block st ≡ j → life_follows s g.number g.life (epoch_by g (suc i)) ≡ true
                by_judged (Refusal fault) e = absurd (subst (λ (j : Judged). IsBlockThrough (at_step g (suc i)) any_shares (b.1).block st devices j end left) e the_end)
                by_judged Passed e =
                    unmoved (ap (λ (x : Live directory.Unit). x.tip) (subst (λ (j : Judged). IsBlockThrough (at_step g (suc i)) any_shares (b.1).block st devices j end left) e the_end).0)
                by_judged Applied e = by_last e (is_last_height (at_step g (suc i)) (b.1).block.height) refl

        on_stands : StandsInScript g (suc i) end
        on_stands = record {
          awaits = end_awaits;
          blind = followed_on;
          parts = λ apart. ap (life_follows s g.number g.life) (parted apart) ∙ stands.parts (λ life_follows. apart (goes.following life_follows));
          epoch = λ apart. (next.live).stands.awaits apart ∙ end_epoch;
          within = upto end.participation.epoch st.participation.epoch (epoch_by g i) (epoch_by g (suc i)) (goes.same).epoch stands.within later;
        }
          where
            upto : (a b x y : ℕ) → a ≡ b → b ≤ x → x ≤ y → a ≤ y
            upto a b x y one two three = omega (arith, one, two, three)

      -- it takes the next epoch over
      module _ (over : TakesOver (at_step g (suc i)) any_shares st m.message devices end left) where
        apart : end.participation.stage ≡ Follows → ⊥
        apart = parts_behind (at_step g (suc i)) any_shares st m.message devices end left (form_at g here (suc i)) live next over

        unfollowed_over : life_follows s g.number g.life (epoch_by g (suc i)) ≡ false
        unfollowed_over = by_brought (brings_so g its m.message m.brings)
          where
            by_brought : BringsBlock g its m.message ⊎ BringsMail its m.message → life_follows s g.number g.life (epoch_by g (suc i)) ≡ false
            by_brought (inr mail) = absurd (let wrong : ◌≡◌ {A = Message directory.Unit} (Mailed mail.0) (Finalized over.block) = sym mail.1 ∙ over.is in cc)
            by_brought (inl b) =
                let block_is : over.block ≡ (b.1).block = the_block (sym over.is ∙ b.3) in
                unfollowed_then b.0 b.1 (is ∙ ap (λ (e : Event). Some e) b.2) b.3 (subst (λ (x : made.Block directory.Unit). judged_block (at_step g (suc i)) x st ≡ Applied) block_is over.applied)
                (subst (λ (x : made.Block directory.Unit). is_last_height (at_step g (suc i)) x.height ≡ true) block_is over.last)

        over_stands : StandsInScript g (suc i) end
        over_stands =
            let epoch : end.participation.epoch ≡ epoch_by g (suc i) = (next.live).stands.awaits apart ∙ end_epoch in
            record {
              awaits = end_awaits;
              blind = λ stage. absurd (apart stage);
              parts = λ _. unfollowed_over;
              epoch = λ _. epoch;
              within = no_more end.participation.epoch (epoch_by g (suc i)) epoch;
            }
          where
            no_more : (a b : ℕ) → a ≡ b → a ≤ b
            no_more a b same = omega (arith, same)

      half_stands : StandsInScript g (suc i) end
      half_stands = either (next_so (at_step g (suc i)) any_shares st m.message devices end left (form_at g here (suc i)) live next)
        where
          either : GoesOn (at_step g (suc i)) st m.message end ⊎ TakesOver (at_step g (suc i)) any_shares st m.message devices end left → StandsInScript g (suc i) end
          either (inl goes) = on_stands goes
          either (inr over) = over_stands over

    -- .. and behind the orchestrator's half
    module _ (devices : Option Held) (end : Live directory.Unit) (left : Option Held) (node : IsNodeThrough (at_step g (suc i)) any_shares st m.message devices end left) where
      pub step_stands : StandsInScript g (suc i) end
      step_stands = subst (λ (x : Live directory.Unit). StandsInScript g (suc i) x) (sym node.same) beside
        where
          mid : StandsInScript g (suc i) node.mid
          mid = half_stands devices node.mid left node.next

          beside : StandsInScript g (suc i) (with_orchestrator end.orchestrator node.mid)
          beside = record { awaits = mid.awaits; blind = mid.blind; parts = mid.parts; epoch = mid.epoch; within = mid.within }
