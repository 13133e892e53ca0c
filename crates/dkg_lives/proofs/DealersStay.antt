-- What a dealer deals stays the same over a step that passes no epoch on: acknowledgements come in, its log is signed, and offered no more once it is observed.
use Rattle.std.proofs.Common.{◌≡◌, inl, inr, Bool, true, false, ℕ, List, Option, Some, None, Result, Ok, Err, refl, sym, ◌∙◌, ap, subst}
use Rattle.std.specs.Prelude.{◌+◌, ◌==◌, if◌then◌else◌, is_some, option_and_then, option_map}
use Rattle.std.specs.Option.{option_map_or}
use Rattle.dkg_values.specs.Rising.{lookup}
use Rattle.dkg_ceremony.specs.declared.ceremony.AckError.{AckError}
use Rattle.dkg_ceremony.specs.declared.round.RoundParts.{RoundParts as Round}
use Rattle.dkg_ceremony.specs.Schedule.{midpoint}
use Rattle.dkg_ceremony.specs.declared.signed_log.SignedDealerLog.{SignedDealerLog}
use Rattle.dkg_types.specs.PayloadCodes.{its_log}
use Rattle.dkg_types.specs.Blocks.{Block}
use Rattle.dkg_store.specs.Acts.{Held}
use Rattle.dkg_core.specs.Dealing.{counts, with_ack}
use Rattle.dkg_core.specs.Fixed.{Fixed}
use Rattle.dkg_core.specs.Forms.{Judged, Refusal, Passed, Applied, judged_block}
use Rattle.dkg_core.specs.Live.{Live, Dealer, Seat, Plays, Watches, Stage, Deals, Includes, Follows, Ends, Mail, Message, Mailed, Peer, Finalized, NextLog, ReleaseLog, EpochInfoOf, Feed, Over, Cancel, Work, is_last_height, recorded_at, with_participation, with_tip}
use Rattle.dkg_core.specs.Setup.{begins_inclusion, signed}
use Rattle.dkg_core.specs.Asked.{OfShares}
use Rattle.dkg_core.specs.Blocks.{unoffered, with_log_at, without_own_log}
use Rattle.dkg_core.specs.Logs.{is_accepted}
use Rattle.dkg_core.specs.Through.{IsAppliedThrough, IsBlockThrough, IsFollowedThrough, IsIncludedThrough, IsNextThrough, IsReadFrom, PassesNothingOn, asked_by, observed, observed_log}
use Rattle.dkg_core.specs.Through.{included as included_over}
use Rattle.dkg_core.proofs.Mailing.{asked_beside}
use Rattle.dkg_core.specs.Stepping.{IsHeardBy, dealt_behind, given_in, given_itself, own_given, own_half, with_own_ack, with_own_dealing, with_taken}

some_is : {A : Type 0} {x y : A} → ◌≡◌ {A = Option A} (Some x) (Some y) → x ≡ y
some_is e = cc

none_some : {A : Type 0} {x : A} → ◌≡◌ {A = Option A} None (Some x) → ⊥
none_some e = cc

-- the dealer of before, with the same halves
pub record WasDealer {Dir : Type 0} (st : Live Dir) (d : Dealer) : Type 0 where
  pub was : Dealer
  pub there : st.participation.dealer ≡ Some was
  pub public : d.public ≡ was.public
  pub privates : d.privates ≡ was.privates

abbrev pub StaysDealt : {Dir : Type 0} → (st end : Live Dir) → Type 0
StaysDealt st end = (d : Dealer) → end.participation.dealer ≡ Some d → WasDealer st d

module _ {Dir : Type 0} where
  -- the same dealer
  same : (st end : Live Dir) → end.participation.dealer ≡ st.participation.dealer → StaysDealt st end
  same st end is d there = record { was = d; there = sym is ∙ there; public = refl; privates = refl }

  -- one of these halves
  with_halves : (st : Live Dir) (was next d : Dealer) → st.participation.dealer ≡ Some was → next.public ≡ was.public → next.privates ≡ was.privates → ◌≡◌ {A = Option Dealer} (Some next) (Some d) → WasDealer st d
  with_halves st was next d there public privates is = record {
    was = was;
    there = there;
    public = ap (λ (x : Dealer). x.public) (sym (some_is is)) ∙ public;
    privates = ap (λ (x : Dealer). x.privates) (sym (some_is is)) ∙ privates;
  }

  both : (st mid end : Live Dir) → StaysDealt st mid → StaysDealt mid end → StaysDealt st end
  both st mid end one two d there =
      let second : WasDealer mid d = two d there in
      let first : WasDealer st second.was = one second.was second.there in
      record { was = first.was; there = first.there; public = second.public ∙ first.public; privates = second.privates ∙ first.privates }

  -- ACKNOWLEDGEMENTS

  taken : (epoch : ℕ) (its : Dealer) (player : ℕ) (ack : List ℕ) (st : Live Dir) → st.participation.dealer ≡ Some its → StaysDealt st (with_taken epoch its player ack st)
  taken epoch its player ack st is = by_tests (is_some (lookup player its.acks)) (is_some (recorded_at st.records.acks epoch player))
    where
      by_tests : (one two : Bool) → StaysDealt st (if one then st else if two then counts its player ack st else counts its player ack (with_ack epoch player ack st))
      by_tests true two d there = same st st refl d there
      by_tests false true d there = with_halves st its _ d is refl refl there
      by_tests false false d there = with_halves st its _ d is refl refl there

  heard : (c : Fixed Dir) (from : ℕ) (st end : Live Dir) → IsHeardBy c st from end → StaysDealt st end
  heard c from st end (inl is) = same st end (ap (λ (x : Live Dir). x.participation.dealer) is)
  heard c from st end (inr (inl its)) = same st end (ap (λ (x : Live Dir). x.participation.dealer) its.is)
  heard c from st end (inr (inr its)) = subst (λ (x : Live Dir). StaysDealt st x) (sym its.is) (taken (its.round).number its.dealer from its.ack st its.of_dealer)

  module _ (c : Fixed Dir) where
    -- ITS OWN DEALING

    own_dealing : (round : Round) (public : List ℕ) (private : ℕ) (st : Live Dir) (found : Option (List ℕ × ℕ)) → StaysDealt st (with_own_dealing c round public private st found)
    own_dealing round public private st None = same st (with_own_dealing c round public private st None) refl
    own_dealing round public private st (Some kept) = same st st refl

    dealer_there : (round : Round) (public : List ℕ) (private : ℕ) (st : Live Dir) (found : Option (List ℕ × ℕ)) → (with_own_dealing c round public private st found).participation.dealer ≡ st.participation.dealer
    dealer_there round public private st None = refl
    dealer_there round public private st (Some kept) = refl

    own_ack : (round : Round) (its : Dealer) (st : Live Dir) (check : Result (Unit {0}) AckError) → st.participation.dealer ≡ Some its → StaysDealt st (with_own_ack c round its st check)
    own_ack round its st (Err e) is = same st st refl
    own_ack round its st (Ok passed) is = taken round.number its c.me (c.rules.ack_of c.me round c.me its.public) st is

    own : (round : Round) (its : Dealer) (private : ℕ) (st : Live Dir) → st.participation.dealer ≡ Some its → StaysDealt st (own_given c round its private st)
    own round its private st is =
        let found : Option (List ℕ × ℕ) = recorded_at st.records.dealings round.number c.me in
        let mid : Live Dir = with_own_dealing c round its.public private st found in
        both st mid (own_given c round its private st) (own_dealing round its.public private st found)
        (own_ack round its mid (c.rules.check_ack_of round c.me its.public c.me (c.rules.ack_of c.me round c.me its.public)) (dealer_there round its.public private st found ∙ is))

    given : (round : Round) (its : Dealer) (st : Live Dir) (seat : Seat) (half : Option ℕ) → st.participation.dealer ≡ Some its → StaysDealt st (given_in c round its st seat half)
    given round its st Plays (Some private) is = own round its private st is
    given round its st Plays None is = same st st refl
    given round its st Watches half is = same st st refl

    itself : (st : Live Dir) → StaysDealt st (given_itself c st)
    itself st = by_round st.participation.round
      where
        by_dealer : (round : Round) (o : Option Dealer) → st.participation.dealer ≡ o → StaysDealt st (option_map_or (λ its. given_in c round its st st.participation.seat (own_half c round its)) o st)
        by_dealer round None is = same st st refl
        by_dealer round (Some its) is = given round its st st.participation.seat (own_half c round its) is

        by_round : (o : Option Round) → StaysDealt st (option_map_or (λ round. option_map_or (λ its. given_in c round its st st.participation.seat (own_half c round its)) st.participation.dealer st) o st)
        by_round None = same st st refl
        by_round (Some round) = by_dealer round st.participation.dealer refl

    -- ITS LOG

    included : (st : Live Dir) → StaysDealt st (begins_inclusion c st)
    included st d there = by_round st.participation.round there
      where
        by_dealer : (round : Round) (o : Option Dealer) → st.participation.dealer ≡ o → option_map (signed c round) o ≡ Some d → WasDealer st d
        by_dealer round None is there = absurd (none_some there)
        by_dealer round (Some its) is there = with_halves st its (signed c round its) d is refl refl there

        by_round : (o : Option Round) → option_and_then (λ round. option_map (signed c round) st.participation.dealer) o ≡ Some d → WasDealer st d
        by_round None there = absurd (none_some there)
        by_round (Some round) there = by_dealer round st.participation.dealer refl there

    dealt : (b : Block Dir) (st : Live Dir) → StaysDealt st (dealt_behind c b st)
    dealt b st = by_test (b.height + 1 == midpoint c.blocks_per_epoch st.participation.epoch)
      where
        by_test : (t : Bool) → StaysDealt st (if t then begins_inclusion c (with_tip b st) else with_tip b st)
        by_test true = both st (with_tip b st) (begins_inclusion c (with_tip b st)) (same st (with_tip b st) refl) (included (with_tip b st))
        by_test false = same st (with_tip b st) refl

    -- A LOG that is looked at: the own one is offered no more

    offered_no_more : (st end : Live Dir) → end.participation.dealer ≡ option_map unoffered st.participation.dealer → StaysDealt st end
    offered_no_more st end is d there = by_dealer st.participation.dealer refl (sym is ∙ there)
      where
        by_dealer : (o : Option Dealer) → st.participation.dealer ≡ o → option_map unoffered o ≡ Some d → WasDealer st d
        by_dealer None none there = absurd (none_some there)
        by_dealer (Some its) is there = with_halves st its (unoffered its) d is refl refl there

    no_more : (dealer : ℕ) (st : Live Dir) → StaysDealt st (without_own_log c dealer st)
    no_more dealer st = by_test (dealer == c.me)
      where
        by_test : (own : Bool) → StaysDealt st (if own then with_participation (record st.participation { dealer = option_map unoffered st.participation.dealer }) st else st)
        by_test true = offered_no_more st (with_participation (record st.participation { dealer = option_map unoffered st.participation.dealer }) st) refl
        by_test false = same st st refl

    looked_at : (round : Round) (b : Block Dir) (st : Live Dir) → StaysDealt st (observed c round b st)
    looked_at round b st = by_log (option_and_then its_log b.payload)
      where
        by_log : (o : Option SignedDealerLog) → StaysDealt st (observed_log c round b st o)
        by_log None = same st st refl
        by_log (Some log) = by_tests (is_accepted c round log) (is_some (recorded_at st.records.logs round.number log.dealer))
          where
            with_it : Live Dir
            with_it = with_log_at round.number log.dealer b.height log.log st

            by_tests : (accepted kept : Bool) → StaysDealt st (if accepted then without_own_log c log.dealer (if kept then st else with_log_at round.number log.dealer b.height log.log st) else st)
            by_tests false kept = same st st refl
            by_tests true true = no_more log.dealer st
            by_tests true false = both st with_it (without_own_log c log.dealer with_it) (same st with_it refl) (no_more log.dealer with_it)

    -- A BLOCK by which no epoch is passed on

    read_on : (st mid end : Live Dir) → StaysDealt st mid → IsReadFrom c mid end → StaysDealt st end
    read_on st mid end stays read = both st mid end stays (same mid end (ap (λ (x : Live Dir). x.participation.dealer) read.same))

    module _ (stored : OfShares) (b : Block Dir) (st : Live Dir) (devices : Option Held) (end : Live Dir) (left : Option Held) where
      followed : (last : Bool) → (last ≡ true → ⊥) → IsFollowedThrough c stored b st devices last end left → StaysDealt st end
      followed true apart is = absurd (apart refl)
      followed false apart is = same st end (ap (λ (x : Live Dir). x.participation.dealer) is)

      including : (last : Bool) → (last ≡ true → ⊥) → IsIncludedThrough c stored b st devices last end left → StaysDealt st end
      including true apart is = absurd (apart refl)
      including false apart is =
          read_on st (included_over c is.0 b st) end
          (both st (observed c is.0 b st) (included_over c is.0 b st) (looked_at is.0 b st) (same (observed c is.0 b st) (included_over c is.0 b st) refl)) is.2

      applied : (stage : Stage) → (is_last_height c b.height ≡ true → ⊥) → IsAppliedThrough c stored b st devices stage end left → StaysDealt st end
      applied Deals apart is =
          read_on st (dealt_behind c b (given_itself c st)) end (both st (given_itself c st) (dealt_behind c b (given_itself c st)) (itself st) (dealt b (given_itself c st))) is
      applied Follows apart is = followed (is_last_height c b.height) apart is
      applied Includes apart is = including (is_last_height c b.height) apart is
      applied Ends apart is = absurd is

      block : (j : Judged) → (j ≡ Applied → is_last_height c b.height ≡ true → ⊥) → IsBlockThrough c stored b st devices j end left → StaysDealt st end
      block (Refusal fault) apart is = absurd is
      block Passed apart is = same st end (ap (λ (x : Live Dir). x.participation.dealer) is.0)
      block Applied apart is = applied st.participation.stage (apart refl) is

    -- MAIL but a peer's leaves it
    mailed : (its : Mail Dir) (st end : Live Dir) → IsReadFrom c (asked_by its st) end → StaysDealt st end
    mailed its st end read = read_on st (asked_by its st) end (same st (asked_by its st) (ap (λ (x : Live Dir). x.participation.dealer) (asked_beside st its))) read

    -- ANY STEP by which no epoch is passed on
    pub next_dealt : (stored : OfShares) (st : Live Dir) (message : Message Dir) (devices : Option Held) (end : Live Dir) (left : Option Held) → PassesNothingOn c st message
        → IsNextThrough c stored st message devices end left → StaysDealt st end
    next_dealt stored st (Finalized b) devices end left nothing next = block stored b st devices end left (judged_block c b st) nothing next.is
    next_dealt stored st (Mailed (Peer from bytes)) devices end left nothing next = heard c from st end next.is
    next_dealt stored st (Mailed (NextLog request height)) devices end left nothing next = mailed (NextLog request height) st end next.is.0
    next_dealt stored st (Mailed (ReleaseLog height)) devices end left nothing next = mailed (ReleaseLog height) st end next.is.0
    next_dealt stored st (Mailed (EpochInfoOf request)) devices end left nothing next = mailed (EpochInfoOf request) st end next.is.0
    next_dealt stored st (Mailed (Feed request block)) devices end left nothing next = mailed (Feed request block) st end next.is.0
    next_dealt stored st (Mailed (Over request)) devices end left nothing next = mailed (Over request) st end next.is.0
    next_dealt stored st (Mailed (Cancel request)) devices end left nothing next = mailed (Cancel request) st end next.is.0
    next_dealt stored st (Mailed (Work result)) devices end left nothing next = mailed (Work result) st end next.is.0
