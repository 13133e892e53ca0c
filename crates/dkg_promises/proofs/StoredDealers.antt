-- The dealer of a life over many epochs deals from the seed that is stored at its epoch and from the share that its round carries on: behind an opening and behind each step, over devices that tell.
use Rattle.std.proofs.Common.{◌≡◌, ◌⊎◌, inl, inr, Bool, true, false, ℕ, ◌==◌, ◌-◌, cond, nat_le, List, Option, Some, None, Result, Ok, Err, refl, sym, ◌∙◌, ap, subst, arith}
use Rattle.std.specs.Prelude.{◌&&◌, ◌||◌, IfOk, IfSome, IsSomeAnd, is_some, is_none, if◌then◌else◌, option_map}
use Rattle.std.specs.Option.{option_map_or, option_or}
use Rattle.std.specs.FinMap.{FinMap, get, get-retain_keys, nat_cmp-IsAntisymmetric, retain_keys}
use Rattle.std.specs.Ordering.{nat_cmp}
use Rattle.std.proofs.lemmas.Bool.Decides.{nat_tests}
use Rattle.std.specs.Cmp.{nat_cmp_total}
use Rattle.dkg_values.specs.Rising.{lookup}
use Rattle.dkg_ceremony.specs.Deals.{deal_of}
use Rattle.dkg_ceremony.specs.RoundLaws as rounds
use Rattle.dkg_ceremony.specs.Rounds.{round_of}
use Rattle.dkg_ceremony.specs.declared.deal.DealError.{DealError}
use Rattle.dkg_ceremony.specs.declared.output.Output.{Output}
use Rattle.dkg_ceremony.specs.declared.phase.Phase.{Phase}
use Rattle.dkg_ceremony.specs.declared.phase.Phase.TheVariants.{Early, Midpoint, Late}
use Rattle.dkg_ceremony.specs.declared.round.RoundParts.{RoundParts as Round}
use Rattle.dkg_types.specs.BlockCodes.{info_of}
use Rattle.dkg_types.specs.Blocks.{Block}
use Rattle.dkg_infos.specs.declared.info.EpochInfo.{EpochInfo}
use Rattle.dkg_infos.specs.declared.outcome.EpochOutcome.{EpochOutcome}
use Rattle.dkg_infos.specs.declared.outcome.EpochOutcome.TheVariants.{Success, Failure}
use Rattle.dkg_secrets.proofs.Map.{get_here}
use Rattle.dkg_store.specs.Acts.{Held}
use Rattle.dkg_core.specs.Fixed.{Fixed, Rules, has, stand_in}
use Rattle.dkg_core.specs.Asked.{OfShares}
use Rattle.dkg_core.specs.Forms.{IsForm, IsNodeBegun, IsSeated, IsSetUpIn, LeavesHeld, StoresBoth, committed_by, dealer_by, seed_read, set_up_by, share_read, signed_in, started}
use Rattle.dkg_core.specs.Live.{Live, Dealer, Message, awaited_height, phase_of}
use Rattle.dkg_core.specs.Logs.{logs_of}
use Rattle.dkg_core.specs.Seen.{Seen}
use Rattle.dkg_core.specs.Setup.{Standing, Uncommitted, WasCommitted, carried_share, dealer_for, dealer_from, fitting, has_quorum, may_deal, seed_for, share_below, signed}
use Rattle.dkg_core.specs.Stepping.{next_epoch, taken_over}
use Rattle.dkg_core.specs.Through.{IsLiveThrough, IsNextThrough, held_with, unasked}
use Rattle.dkg_core.specs.Storing.{ReadsSecrets}
use Rattle.dkg_core.specs.Endings.{first_block, first_epoch}
use Rattle.dkg_core.proofs.Setups.{setups_store}
use Rattle.dkg_core.proofs.Storing.{looked_up}
use Rattle.dkg_promises.specs.Found.{IsCarriedShare}
use Rattle.dkg_lives.proofs.DealersStay.{WasDealer, next_dealt}
use Rattle.dkg_lives.proofs.NextLives.{GoesOn, TakesOver, next_so}
use Rattle.dkg_promises.proofs.Sharing.{fits_dealt}

some_is : {A : Type 0} {x y : A} → ◌≡◌ {A = Option A} (Some x) (Some y) → x ≡ y
some_is e = cc

none_some : {A : Type 0} {x : A} → ◌≡◌ {A = Option A} None (Some x) → ⊥
none_some e = cc

of_answer : {T E : Type 0} (P : T → Type 0) (r : Result T E) (t : T) → IfOk r P → r ≡ Ok t → P t
of_answer P (Ok x) t so is = subst P (let same : x ≡ t = cc in same) so
of_answer {T} {E} P (Err e) t so is = absurd (let no : ◌≡◌ {A = Result T E} (Err e) (Ok t) = is in cc)

-- This dealer deals in the life's round from a seed that is stored at the round's epoch, and from this node's share of the output that the round carries on.
pub record IsStoredDealer {Dir : Type 0} (me : ℕ) (st : Live Dir) (d : Dealer) (h : Held) : Type 0 where
  pub round : Round
  pub of_epoch : st.participation.round ≡ Some round
  pub share : ℕ
  pub seed : List ℕ
  pub dealt : deal_of round me (Some share) seed ≡ Ok (d.public, d.privates)
  pub fits : IsCarriedShare me round share
  pub seed_is : get h.secrets.seeds round.number ≡ Some seed

abbrev pub DealsStored : {Dir : Type 0} → (me : ℕ) → Live Dir → Held → Type 0
DealsStored me st h = (d : Dealer) → st.participation.dealer ≡ Some d → IsStoredDealer me st d h

-- the same participation over devices that keep both
pub stored_on : {Dir : Type 0} (me : ℕ) (st end : Live Dir) (was d : Dealer) (h k : Held) → end.participation.round ≡ st.participation.round → d.public ≡ was.public → d.privates ≡ was.privates
    → ((round : Round) → st.participation.round ≡ Some round → (seed : List ℕ) → get h.secrets.seeds round.number ≡ Some seed → get k.secrets.seeds round.number ≡ Some seed)
    → IsStoredDealer me st was h → IsStoredDealer me end d k
stored_on me st end was d h k same public privates seeds its = record {
  round = its.round;
  of_epoch = same ∙ its.of_epoch;
  share = its.share;
  seed = its.seed;
  dealt = its.dealt ∙ ap (λ (x : List ℕ). Ok (x, was.privates)) (sym public) ∙ ap (λ (x : List (ℕ × ℕ)). Ok (d.public, x)) (sym privates);
  fits = its.fits;
  seed_is = seeds its.round its.of_epoch its.seed its.seed_is;
}

-- what is held at an epoch stays behind a prune below the one before
pruned_stays : {V : Type 0} (m : FinMap nat_cmp V) (epoch : ℕ) → get (retain_keys m (nat_le (epoch - 1))) epoch ≡ get m epoch
pruned_stays m epoch =
    get-retain_keys m (nat_le (epoch - 1)) epoch (λ x tied. ap (nat_le (epoch - 1)) (sym (nat_cmp-IsAntisymmetric epoch x tied))) ∙ ap (λ (t : Bool). cond t (get m epoch) None) (from_before epoch)
  where
    from_before : (n : ℕ) → nat_le (n - 1) n ≡ true
    from_before n = grind (arith, nat_tests)

-- what fits is this node's share of the output
fitted : {Dir : Type 0} (c : Fixed Dir) (info : EpochInfo Dir) (o : Option ℕ) (its : ℕ) → fitting c info o ≡ Some its → c.rules.partial_public_of info.output c.me ≡ Some (c.rules.share_public_of its)
fitted c info None its is = absurd (none_some is)
fitted c info (Some x) its is = by_public (c.rules.partial_public_of info.output c.me) is
  where
    by_test : (p : ℕ) (t : Bool) → (p == c.rules.share_public_of x) ≡ t → (if t then Some x else None) ≡ Some its → ◌≡◌ {A = Option ℕ} (Some p) (Some (c.rules.share_public_of its))
    by_test p true same is = ap (λ (n : ℕ). Some n) (number p (c.rules.share_public_of x) same ∙ ap c.rules.share_public_of (some_is is))
      where
        number : (a b : ℕ) → (a == b) ≡ true → a ≡ b
        number a b e = grind (arith, nat_tests)
    by_test p false same is = absurd (none_some is)

    by_public : (o : Option ℕ) → (if option_map_or (λ p. p == c.rules.share_public_of x) o false then Some x else None) ≡ Some its → o ≡ Some (c.rules.share_public_of its)
    by_public None is = absurd (none_some is)
    by_public (Some p) is = by_test p (p == c.rules.share_public_of x) refl is

module _ {Dir : Type 0} (c : Fixed Dir) (rules_are : c.rules ≡ stand_in) where
  -- A SETUP

  module _ (standing : Standing) (info : EpochInfo Dir) (share : Option ℕ) (seed : List ℕ) (st end : Live Dir) (seated : IsSeated c standing info share seed st end) where
    abbrev round : Round
    round = seated.round

    round_is : round ≡ record { namespace = c.namespace; number = st.participation.epoch; previous = Some info.output; mode = c.mode; reveal = c.reveal; dealers = info.output.players; players = info.players }
    round_is =
        of_answer (λ (r : Round). r ≡ record { namespace = c.namespace; number = st.participation.epoch; previous = Some info.output; mode = c.mode; reveal = c.reveal; dealers = info.output.players; players = info.players })
        (round_of c.namespace st.participation.epoch (Some info.output) c.mode c.reveal info.output.players info.players) round
        (rounds.round_has c.namespace st.participation.epoch (Some info.output) c.mode c.reveal info.output.players info.players)
        (sym (ap (λ (r : Rules). r.round_of c.namespace st.participation.epoch (Some info.output) c.mode c.reveal info.output.players info.players) rules_are) ∙ seated.drawn)

    number_is : round.number ≡ info.epoch
    number_is = ap (λ (r : Round). r.number) round_is ∙ sym seated.of_epoch

    previous_is : round.previous ≡ Some info.output
    previous_is = ap (λ (r : Round). r.previous) round_is

    lacks_share : (m x : Bool) → (m && false && x) ≡ true → ⊥
    lacks_share true x e = let wrong : false ≡ true = e in cc
    lacks_share false x e = let wrong : false ≡ true = e in cc

    -- a dealer has a share
    has_share : may_deal c round share end ≡ true → (its : ℕ) × (share ≡ Some its)
    has_share may = by_share share refl may
      where
        by_share : (o : Option ℕ) → share ≡ o → may_deal c round o end ≡ true → (its : ℕ) × (share ≡ Some its)
        by_share None is may =
            absurd (lacks_share (has round.dealers c.me) (is_none (lookup c.me (logs_of end round.number)))
            (subst (λ (o : Option Output). (has round.dealers c.me && (is_some {T = ℕ} None || is_none o) && is_none (lookup c.me (logs_of end round.number))) ≡ true) previous_is may))
        by_share (Some its) is may = (its, is)

    module _ (d : Dealer) (dealt : List ℕ × List (ℕ × ℕ)) where
      abbrev Halves : Dealer → Type 0
      Halves x = (x.public ≡ dealt.0) × (x.privates ≡ dealt.1)

      its_own : (x : Dealer) → dealer_from c round end dealt ≡ x → Halves x
      its_own x is = (ap (λ (y : Dealer). y.public) (sym is), ap (λ (y : Dealer). y.privates) (sym is))

      its_log : (o : Option Dealer) → ((x : Dealer) → o ≡ Some x → Halves x) → option_map (signed c round) o ≡ Some d → Halves d
      its_log None all is = absurd (none_some is)
      its_log (Some x) all is = let its = all x refl in (ap (λ (y : Dealer). y.public) (sym (some_is is)) ∙ its.0, ap (λ (y : Dealer). y.privates) (sym (some_is is)) ∙ its.1)

      by_quorum : (t : Bool) (x : Dealer) → (if t then Some (dealer_from c round end dealt) else None) ≡ Some x → Halves x
      by_quorum true x is = its_own x (some_is is)
      by_quorum false x is = absurd (none_some is)

      by_phase : (phase : Phase) → signed_in c round phase (dealer_for phase round (dealer_from c round end dealt)) ≡ Some d → Halves d
      by_phase Early is = its_own d (some_is is)
      by_phase Midpoint is = its_log (dealer_for Midpoint round (dealer_from c round end dealt)) (by_quorum (has_quorum round (dealer_from c round end dealt))) is
      by_phase Late is = its_log (dealer_for Late round (dealer_from c round end dealt)) (by_quorum (has_quorum round (dealer_from c round end dealt))) is

    pub seated_stored : (h : Held) → get h.secrets.seeds info.epoch ≡ Some seed → DealsStored c.me end h
    seated_stored h seed_there d there = by_may (may_deal c round share end) refl (sym seated.dealer ∙ there)
      where
        phase : Phase
        phase = phase_of c (awaited_height end)

        with_share : (its : ℕ) (halves : List ℕ × List (ℕ × ℕ)) → share ≡ Some its → c.rules.deal_of round c.me share seed ≡ Ok halves → (d.public ≡ halves.0) × (d.privates ≡ halves.1) → IsStoredDealer c.me end d h
        with_share its halves is deals same =
            let deals_it : deal_of round c.me (Some its) seed ≡ Ok (d.public, d.privates)
            = ap (λ (o : Option ℕ). deal_of round c.me o seed) (sym is) ∙ sym (ap (λ (r : Rules). r.deal_of round c.me share seed) rules_are) ∙ deals ∙ ap (λ (x : List ℕ). Ok (x, halves.1)) (sym same.0) ∙ ap (λ (x : List (ℕ × ℕ)). Ok (d.public, x)) (sym same.1) in
            record {
              round = round;
              of_epoch = seated.in_round;
              share = its;
              seed = seed;
              dealt = deals_it;
              fits = fits_dealt round c.me its seed (d.public, d.privates) info.output previous_is deals_it;
              seed_is = ap (get h.secrets.seeds) number_is ∙ seed_there;
            }

        by_deal : may_deal c round share end ≡ true → (r : Result (List ℕ × List (ℕ × ℕ)) DealError) → c.rules.deal_of round c.me share seed ≡ r → dealer_by c round phase end r ≡ Some d → IsStoredDealer c.me end d h
        by_deal may (Err e) deals is = absurd (none_some is)
        by_deal may (Ok halves) deals is = let its = has_share may in with_share its.0 halves its.1 deals (by_phase d halves phase is)

        by_may : (t : Bool) → may_deal c round share end ≡ t → (if t then dealer_by c round phase end (c.rules.deal_of round c.me share seed) else None) ≡ Some d → IsStoredDealer c.me end d h
        by_may false may is = absurd (none_some is)
        by_may true may is = by_deal may (c.rules.deal_of round c.me share seed) refl is

  -- AN OPENING

  module _ (read : Seen) (k now : Held) (st : Live Dir) (begun : IsNodeBegun c read k st) (left : LeavesHeld c k now (first_block c)) where
    abbrev before : Live Dir
    before = begun.before

    by_info : (o : Option (EpochInfo Dir)) → IsSomeAnd o (λ info. IsSeated c Uncommitted info (share_read c info k) (seed_read c info k) (started c read) before)
        → IsSomeAnd o (λ info. now ≡ set_up_by Uncommitted (first_epoch c) info (share_read c info k) (seed_read c info k) k) → DealsStored c.me before now
    by_info None none left = absurd none
    by_info (Some info) seated left =
        let both : StoresBoth info.epoch (share_read c info k) (seed_read c info k) now = (subst (λ (h : Held). StoresBoth info.epoch (share_read c info k) (seed_read c info k) h) (sym left)
        (subst (λ (e : ℕ). StoresBoth e (share_read c info k) (seed_read c info k) (set_up_by Uncommitted (first_epoch c) info (share_read c info k) (seed_read c info k) k)) (sym seated.of_epoch)
        (setups_store (first_epoch c) info (share_read c info k) (seed_read c info k) k seated.of_epoch))) in
        seated_stored Uncommitted info (share_read c info k) (seed_read c info k) (started c read) before seated now both.seed_is

    by_block : (o : Option (Block Dir)) → IsSetUpIn c read k before o → LeavesHeld c k now o → DealsStored c.me before now
    by_block None set_up left = λ d there. absurd (none_some (sym (((begun.opened).live).without set_up.0).1 ∙ there))
    by_block (Some b) set_up left = by_info (info_of b.payload) set_up left

    pub begun_stored : DealsStored c.me st now
    begun_stored d there =
        let same : st.participation ≡ before.participation = ap (λ (x : Live Dir). x.participation) (begun.entered).same in
        stored_on c.me before st d d now now (ap (λ p. p.round) same) refl refl (λ round of seed is. is)
        (by_block (first_block c) (begun.opened).set_up left d (sym (ap (λ p. p.dealer) same) ∙ there))

  -- what a commit leaves is read again
  module _ (reads : ReadsSecrets c.seen) (info : EpochInfo Dir) where
    found_seed : (h : Held) → lookup info.epoch (c.seen h).seeds ≡ get h.secrets.seeds info.epoch
    found_seed h = ap (lookup info.epoch) (reads.seeds h) ∙ looked_up info.epoch h.secrets.seeds

    found_share : (h : Held) → lookup info.epoch (c.seen h).shares ≡ get h.secrets.shares info.epoch
    found_share h = ap (lookup info.epoch) (reads.shares h) ∙ looked_up info.epoch h.secrets.shares

    pub seed_again : (h : Held) (seed : List ℕ) (share : Option ℕ) → seed_read c info (committed_by Uncommitted info share seed h) ≡ seed
    seed_again h seed None =
        let now = committed_by Uncommitted info None seed h in
        ap (seed_for c info.epoch) (found_seed now ∙ get_here nat_cmp_total nat_cmp-IsAntisymmetric h.secrets.seeds info.epoch seed)
    seed_again h seed (Some share) =
        let now = committed_by Uncommitted info (Some share) seed h in
        ap (seed_for c info.epoch) (found_seed now ∙ get_here nat_cmp_total nat_cmp-IsAntisymmetric h.secrets.seeds info.epoch seed)

    -- the share that is read is the committed one, else the stored one, else it fits
    abbrev pub ReadSo : (h : Held) (share : Option ℕ) (its : ℕ) → Type 0
    ReadSo h share its = (share ≡ Some its) ⊎ ((share ≡ None) × ((get h.secrets.shares info.epoch ≡ Some its) ⊎ (c.rules.partial_public_of info.output c.me ≡ Some (c.rules.share_public_of its))))

    carried_fits : (k : Held) (outcome : EpochOutcome) (its : ℕ) → carried_share c (c.seen k) info outcome ≡ Some its → c.rules.partial_public_of info.output c.me ≡ Some (c.rules.share_public_of its)
    carried_fits k Success its is = absurd (none_some is)
    carried_fits k Failure its is = fitted c info (share_below (c.seen k).shares info.epoch) its is

    pub share_again : (h : Held) (seed : List ℕ) (share : Option ℕ) (its : ℕ) → share_read c info (committed_by Uncommitted info share seed h) ≡ Some its → ReadSo h share its
    share_again h seed (Some share) its is =
        let now = committed_by Uncommitted info (Some share) seed h in
        inl (sym (ap (λ (found : Option ℕ). option_or found (carried_share c (c.seen now) info info.outcome)) (found_share now ∙ get_here nat_cmp_total nat_cmp-IsAntisymmetric h.secrets.shares info.epoch share)) ∙ is)
    share_again h seed None its is = inr (refl, by_stored (get h.secrets.shares info.epoch) refl)
      where
        now : Held
        now = committed_by Uncommitted info None seed h

        read : (o : Option ℕ) → get h.secrets.shares info.epoch ≡ o → option_or o (carried_share c (c.seen now) info info.outcome) ≡ Some its
        read o there = sym (ap (λ (found : Option ℕ). option_or found (carried_share c (c.seen now) info info.outcome)) (found_share now ∙ there)) ∙ is

        by_stored : (o : Option ℕ) → get h.secrets.shares info.epoch ≡ o → (get h.secrets.shares info.epoch ≡ Some its) ⊎ (c.rules.partial_public_of info.output c.me ≡ Some (c.rules.share_public_of its))
        by_stored None there = inr (carried_fits now info.outcome its (read None there))
        by_stored (Some x) there = inl (there ∙ read (Some x) there)

    -- behind the setup of such a commit: the seed that was read is stored, and the share that was read is, or it fits
    module _ (e : ℕ) (of_epoch : info.epoch ≡ e) (share : Option ℕ) (h now : Held) (is : now ≡ set_up_by Uncommitted e info share (seed_read c info h) h) where
      abbrev behind : Held
      behind = committed_by Uncommitted info share (seed_read c info h) h

      both : StoresBoth info.epoch share (seed_read c info h) now
      both =
          subst (λ (x : Held). StoresBoth info.epoch share (seed_read c info h) x) (sym is)
          (subst (λ (n : ℕ). StoresBoth n share (seed_read c info h) (set_up_by Uncommitted e info share (seed_read c info h) h)) (sym of_epoch) (setups_store e info share (seed_read c info h) h of_epoch))

      pub seed_stored : get now.secrets.seeds info.epoch ≡ Some (seed_read c info behind)
      seed_stored = both.seed_is ∙ ap (λ (x : List ℕ). Some x) (sym (seed_again h (seed_read c info h) share))

      abbrev pub StoredSo : ℕ → Type 0
      StoredSo its = (get now.secrets.shares info.epoch ≡ Some its) ⊎ (c.rules.partial_public_of info.output c.me ≡ Some (c.rules.share_public_of its))

      -- where no share is committed, that of the epoch stays
      unmoved : (share : Option ℕ) → now ≡ set_up_by Uncommitted e info share (seed_read c info h) h → share ≡ None → get now.secrets.shares info.epoch ≡ get h.secrets.shares info.epoch
      unmoved (Some its) is none = absurd (none_some (sym none))
      unmoved None is none = ap (λ (x : Held). get x.secrets.shares info.epoch) is
          ∙ subst (λ (n : ℕ). get (retain_keys h.secrets.shares (nat_le (n - 1))) info.epoch ≡ get h.secrets.shares info.epoch) of_epoch (pruned_stays h.secrets.shares info.epoch)

      by_read : (its : ℕ) → ReadSo h share its → StoredSo its
      by_read its (inl committed) = inl (subst (λ (o : Option ℕ). IfSome o (λ x. get now.secrets.shares info.epoch ≡ Some x)) committed both.share_is)
      by_read its (inr (none, inl there)) = inl (unmoved share is none ∙ there)
      by_read its (inr (none, inr fits)) = inr fits

      pub share_stored : (its : ℕ) → share_read c info behind ≡ Some its → StoredSo its
      share_stored its read = by_read its (share_again h (seed_read c info h) share its read)

  -- A STEP, over devices that held h and hold now
  module _ (reads : ReadsSecrets c.seen) (stored : OfShares) (form : IsForm c) (st : Live Dir) (message : Message Dir) (h now : Held) (end : Live Dir) (live : IsLiveThrough c stored st)
      (next : IsNextThrough c stored st message (Some h) end (Some now)) (deals : DealsStored c.me st h)
      (seeds : (round : Round) → end.participation.round ≡ Some round → (seed : List ℕ) → get h.secrets.seeds round.number ≡ Some seed → get now.secrets.seeds round.number ≡ Some seed) where
    goes_stored : GoesOn c st message end → DealsStored c.me end now
    goes_stored goes d there =
        let its : WasDealer st d = next_dealt c stored st message (Some h) end (Some now) goes.nothing next d there in
        stored_on c.me st end its.was d h now (goes.same).round its.public its.privates (λ round of seed is. seeds round ((goes.same).round ∙ of) seed is)
        (deals its.was its.there)

    over_stored : TakesOver c stored st message (Some h) end (Some now) → DealsStored c.me end now
    over_stored over d there = stored_on c.me (unasked end) end d d now now refl refl refl (λ round of seed is. is)
        (seated_stored WasCommitted info (share_read c info k) (seed_read c info k) (unasked (taken_over c b info share st)) (unasked end) seated now seed_there d there)
      where
        b : Block Dir
        b = over.block

        info : EpochInfo Dir
        info = (over.taken).on.info

        share : Option ℕ
        share = (over.taken).on.share

        k : Held
        k = (over.taken).on.k

        seated : IsSeated c WasCommitted info (share_read c info k) (seed_read c info k) (unasked (taken_over c b info share st)) (unasked end)
        seated = (over.taken).seated

        k_is : k ≡ held_with c info share h
        k_is = (over.taken).on.between

        now_is : now ≡ set_up_by WasCommitted (next_epoch c b) info (share_read c info k) (seed_read c info k) (held_with c info share h)
        now_is = some_is (over.taken).leaves

        stands : now ≡ set_up_by Uncommitted (next_epoch c b) info share (seed_read c info h) h
        stands = now_is

        seed_there : get now.secrets.seeds info.epoch ≡ Some (seed_read c info k)
        seed_there = seed_stored reads info (next_epoch c b) (over.taken).on.of_next share h now stands ∙ ap (λ (x : Held). Some (seed_read c info x)) (sym k_is)

    pub step_stored : DealsStored c.me end now
    step_stored = either (next_so c stored st message (Some h) end (Some now) form live next)
      where
        either : GoesOn c st message end ⊎ TakesOver c stored st message (Some h) end (Some now) → DealsStored c.me end now
        either (inl goes) = goes_stored goes
        either (inr over) = over_stored over
