-- A dealer that the store makes is the relation's, and what is made of it is the same.
use Rattle.std.proofs.Common.{◌≡◌, inl, inr, ℕ, ◌<◌, ◌^◌, ◌==◌, nat_le, Bool, true, false, List, [], ◌∷◌, filter, length, Option, Some, None, is_some, is_none, Ok, Err, refl, sym, ◌∙◌, ap, subst}
use Rattle.std.specs.Prelude.{◌&&◌, ◌||◌, ◌⊎◌, not, is_ok, IfSome, option_map, option_and_then, if◌then◌else◌}
use Rattle.std.specs.FinMap as maps
use Rattle.std.specs.FinMap.{contains_key, get}
use Rattle.dkg_values.specs.Rising.{lookup}
use Rattle.dkg_ceremony.specs.Thresholds.{max_faults_of}
use Rattle.dkg_ceremony.specs.declared.deal.DealError.TheVariants.{ShareRefused as DealRefused}
use Rattle.dkg_ceremony.specs.declared.phase.Phase.{Phase}
use Rattle.dkg_ceremony.specs.declared.phase.Phase.TheVariants.{Early, Midpoint, Late}
use Rattle.dkg_ceremony.specs.declared.round.RoundParts.{RoundParts as Round}
use Rattle.dkg_ceremony.specs.declared.signed_log.SignedDealerLog.{SignedDealerLog}
use Rattle.dkg_fence.specs.Readiness.{Readiness}
use Rattle.dkg_infos.specs.declared.fault.Fault.{Fault}
use Rattle.dkg_infos.specs.declared.fault.LocalCause.TheVariants.{ShareRefused}
use Rattle.dkg_store.specs.Dealer.{AckMap, IsDealerOf, held_acks, passing_acks, unsent, with_held, with_unsent}
use Rattle.dkg_store.specs.Errors.{IsOfDealing}
use Rattle.dkg_store.specs.Noted.{Notes}
use Rattle.dkg_store.specs.Recorded.{at_epoch, bare_logs}
use Rattle.dkg_store.specs.declared.call.StoreError.{StoreError}
use Rattle.dkg_store.specs.declared.call.StoreError.TheVariants.{Disk, Secrets as SecretsFailed, Corrupt, LocalState, StateSyncEpochs, StateSyncMaterial, Cut, NoMemory}
use Rattle.dkg_store.specs.declared.dealer.Dealer.{Dealer}
use Rattle.dkg_store.specs.declared.recorded_log.RecordedLog.{RecordedLog}
use Rattle.dkg_store.specs.declared.store.Store.{Store}
use Rattle.dkg_store.proofs.Own.{lookup_at}
use Rattle.dkg_core.specs.Courses.{Course}
use Rattle.dkg_core.specs.Fixed.{Fixed, has}
use Rattle.dkg_core.specs.Live.{Live, records_of_epoch}
use Rattle.dkg_core.specs.Live as live
use Rattle.dkg_core.specs.Setup as setup
use Rattle.dkg_core.proofs.Storing.{looked_up}
use Rattle.dkg_life.specs.declared.life.Life.{Life}
use Rattle.dkg_life.specs.declared.life.Stage.TheVariants.{Including}
use Rattle.dkg_life.specs.Ends.{IsCaused, stop_of}
use Rattle.dkg_life.specs.LiveOf.{Beside, DealsFor, DealsIn, IsToSign, dealer_of, live_of, records_of}
use Rattle.dkg_life.specs.Rules.{CheckAckOf, DealOf, DealsBy, SignLogOf}
use Rattle.dkg_life.specs.Steps.{MakesDealer, kept_for, stage_begun_in, with_quorum}

-- OVER A MAP

-- whom the relation waits for
pub unsent_is : (acks : AckMap) (privates : List (ℕ × ℕ)) (players : List ℕ) → setup.unsent_of (maps.entries acks) privates players ≡ unsent acks privates players
unsent_is acks privates [] = refl
unsent_is acks privates (player ∷ players) = λ i. with_unsent player (looked_up player acks i) (lookup player privates) (unsent_is acks privates players i)

-- .. and what it signs over
pub held_is : (acks : AckMap) (players : List ℕ) → setup.acks_in_order (maps.entries acks) players ≡ held_acks acks players
held_is acks [] = refl
held_is acks (player ∷ players) = λ i. with_held player (looked_up player acks i) (held_is acks players i)

none_bare : (key : ℕ) (logs : List (ℕ × RecordedLog)) → is_none (lookup key (bare_logs logs)) ≡ is_none (lookup key logs)
none_bare key [] = refl
none_bare key (r ∷ rs) = elim (r.0 == key) as (λ b. is_none (if b then Some r.1.log else lookup key (bare_logs rs)) ≡ is_none (if b then Some r.1 else lookup key rs)) [
  | true ↦ refl
  | false ↦ none_bare key rs
]

none_not_some : {A : Type 0} (o : Option A) → is_none o ≡ not (is_some o)
none_not_some None = refl
none_not_some (Some x) = refl

-- whether a log is recorded
pub recorded_is : (epoch key : ℕ) (logs : Notes RecordedLog) → key < 2 ^ 32 → is_none (lookup key (bare_logs (at_epoch epoch logs))) ≡ not (contains_key logs (epoch, key))
recorded_is epoch key logs below =
    none_bare key (at_epoch epoch logs)
    ∙ ap (λ (o : Option RecordedLog). is_none o) (lookup_at epoch key logs below)
    ∙ none_not_some (get logs (epoch, key))

-- WHO IS KEPT

kept_by : (b : Bool) (d : Dealer) → (if b then Some (dealer_of d) else None) ≡ option_map dealer_of (if b then Some d else None)
kept_by true d = refl
kept_by false d = refl

quorum_of : (d : Dealer) → (if setup.has_quorum d.round (dealer_of d) then Some (dealer_of d) else None) ≡ option_map dealer_of (with_quorum (length d.round.players) (Some d))
quorum_of d =
    ap (λ (s : List (ℕ × ℕ)). if nat_le (length s) (max_faults_of (length d.round.players)) then Some (dealer_of d) else None) (unsent_is d.acks d.privates d.round.players)
    ∙ kept_by (nat_le (length (unsent d.acks d.privates d.round.players)) (max_faults_of (length d.round.players))) d

pub kept_is : (phase : Phase) (d : Dealer) → setup.dealer_for phase d.round (dealer_of d) ≡ option_map dealer_of (kept_for phase (length d.round.players) (Some d))
kept_is Early d = refl
kept_is Midpoint d = quorum_of d
kept_is Late d = quorum_of d

pub kept_none : (phase : Phase) (players : ℕ) → kept_for phase players None ≡ None
kept_none Early players = refl
kept_none Midpoint players = refl
kept_none Late players = refl

pub kept_all : (P : Dealer → Type 0) (phase : Phase) (players : ℕ) (dealer : Option Dealer) → IfSome dealer P → IfSome (kept_for phase players dealer) P
kept_all P phase players None all = subst (λ (o : Option Dealer). IfSome o P) (sym (kept_none phase players)) tt
kept_all P Early players (Some d) all = all
kept_all P Midpoint players (Some d) all = elim (nat_le (length (unsent d.acks d.privates d.round.players)) (max_faults_of players)) as (λ b. IfSome (if b then Some d else None) P) [
  | true ↦ all
  | false ↦ tt
]
kept_all P Late players (Some d) all = elim (nat_le (length (unsent d.acks d.privates d.round.players)) (max_faults_of players)) as (λ b. IfSome (if b then Some d else None) P) [
  | true ↦ all
  | false ↦ tt
]

-- HOW ONE IS MADE

module _ {Dir : Type 0} (c : Fixed Dir) (round : Round) (phase : Phase) (share : Option ℕ) (seed : List ℕ) (st : Live Dir) (store : Store Dir) (me : ℕ)
    (deal_of : DealOf) (check_ack_of : CheckAckOf) (sign_log_of : SignLogOf)
    (small : me < 2 ^ 32) (records : st.records ≡ records_of store) (mine : c.me ≡ me) (deals : DealsBy deal_of check_ack_of sign_log_of c.rules)
  where
    abbrev made_with : Bool → Course Dir Fault (Live Dir)
    made_with may = if may then setup.dealt_by c round phase st (c.rules.deal_of round c.me share seed) else setup.makes_player c round phase None st

    may_is : (deals_here logged : Bool) → (has round.dealers me && (is_some share || is_none round.previous)) ≡ deals_here → contains_key store.logs (round.number, me) ≡ logged
        → setup.may_deal c round share st ≡ (deals_here && not logged)
    may_is deals_here logged here there =
        (λ i. has round.dealers (mine i) && (is_some share || is_none round.previous) && is_none (lookup (mine i) (bare_logs (records_of_epoch round.number (records i).logs))))
        ∙ (λ i. here i && recorded_is round.number me store.logs small i)
        ∙ ap (λ (b : Bool). deals_here && not b) there

    dealt_is : c.rules.deal_of round c.me share seed ≡ deal_of round me share seed
    dealt_is = λ i. deals.deal i round (mine i) share seed

    -- None may deal here.
    pub no_dealer : (has round.dealers me && (is_some share || is_none round.previous)) ≡ false → MakesDealer c round phase share seed st (Ok None)
    no_dealer here = ap made_with (may_is false (contains_key store.logs (round.number, me)) here refl)

    -- .. or its log is recorded
    pub logged_dealer : (players : ℕ) → (has round.dealers me && (is_some share || is_none round.previous)) ≡ true → contains_key store.logs (round.number, me) ≡ true
        → MakesDealer c round phase share seed st (Ok (kept_for phase players None))
    logged_dealer players here there =
        subst (λ (o : Option Dealer). MakesDealer c round phase share seed st (Ok o)) (sym (kept_none phase players)) (ap made_with (may_is true true here there))

    from_is : (d : Dealer) → maps.entries d.acks ≡ passing_acks (check_ack_of round me d.public) (at_epoch round.number store.acks) → d.finalized ≡ None
        → setup.dealer_from c round st (d.public, d.privates) ≡ dealer_of d
    from_is d acks unsigned =
        let passes : setup.passing_check c round d.public (records_of_epoch round.number st.records.acks) ≡ maps.entries d.acks =
        (λ i. filter (λ (a : ℕ × List ℕ). is_ok (deals.check_ack i round (mine i) d.public a.0 a.1)) (records_of_epoch round.number (records i).acks)) ∙ sym acks in
        λ i. record { public = d.public; privates = d.privates; acks = passes i; log = sym unsigned i }

    pub one_dealer : (players : ℕ) (d : Dealer) → (has round.dealers me && (is_some share || is_none round.previous)) ≡ true → contains_key store.logs (round.number, me) ≡ false
        → players ≡ length round.players → d.round ≡ round → deal_of round me share seed ≡ Ok (d.public, d.privates)
        → maps.entries d.acks ≡ passing_acks (check_ack_of round me d.public) (at_epoch round.number store.acks) → d.finalized ≡ None
        → MakesDealer c round phase share seed st (Ok (kept_for phase players (Some d)))
    one_dealer players d here there counted round_is dealt acks unsigned =
        ap made_with (may_is true false here there)
        ∙ ap (setup.dealt_by c round phase st) (dealt_is ∙ dealt)
        ∙ ap (λ (o : Option live.Dealer). setup.makes_player c round phase o st)
        (ap (setup.dealer_for phase round) (from_is d acks unsigned)
        ∙ ap (λ (r : Round). setup.dealer_for phase r (dealer_of d)) (sym round_is)
        ∙ kept_is phase d
        ∙ ap (λ (n : ℕ). option_map dealer_of (kept_for phase n (Some d))) (ap (λ (r : Round). length r.players) round_is ∙ sym counted))

    at_none : {A : Type 0} (o : Option A) (b : Bool) → o ≡ None → is_some o ≡ not b → b ≡ true
    at_none None true none some = refl
    at_none None false none some = absurd (let h : ◌≡◌ {A = Bool} false true = some in cc)
    at_none (Some x) b none some = absurd (let h : ◌≡◌ {A = Option _} (Some x) None = none in cc)

    at_one : (b : Bool) → true ≡ not b → b ≡ false
    at_one true e = absurd (let h : ◌≡◌ {A = Bool} true false = e in cc)
    at_one false e = refl

    -- what the store answers
    pub makes_dealer : (players : ℕ) (made : Option Dealer) → (has round.dealers me && (is_some share || is_none round.previous)) ≡ true → players ≡ length round.players
        → is_some made ≡ not (contains_key store.logs (round.number, me)) → IfSome made (λ d. d.round ≡ round)
        → IfSome made (λ d. deal_of round me share seed ≡ Ok (d.public, d.privates))
        → IfSome made (λ d. maps.entries d.acks ≡ passing_acks (check_ack_of round me d.public) (at_epoch round.number store.acks))
        → IfSome made (λ d. d.finalized ≡ None)
        → MakesDealer c round phase share seed st (Ok (kept_for phase players made))
    makes_dealer players None here counted some round_is dealt acks unsigned = logged_dealer players here (at_none {A = Dealer} None _ refl some)
    makes_dealer players (Some d) here counted some round_is dealt acks unsigned = one_dealer players d here (at_one _ some) counted round_is dealt acks unsigned

    pub deals_stop : (e : StoreError) → (has round.dealers me && (is_some share || is_none round.previous)) ≡ true
        → (e ≡ NoMemory) ⊎ ((e ≡ LocalState (ShareRefused round.number)) × (deal_of round me share seed ≡ Err DealRefused) × (contains_key store.logs (round.number, me) ≡ false))
        → MakesDealer c round phase share seed st (Err (stop_of e))
    deals_stop e here (inl none) = inl (ap (λ (x : StoreError). stop_of x) none)
    deals_stop e here (inr a) = inr (ap (λ (x : StoreError). stop_of x) a.0, ap made_with (may_is true false here a.2) ∙ ap (setup.dealt_by c round phase st) (dealt_is ∙ a.1))

    -- The store was asked of the round's epoch.
    pub makes_dealer_at : (n : ℕ) → n ≡ round.number → (players : ℕ) (made : Option Dealer) → (has round.dealers me && (is_some share || is_none round.previous)) ≡ true → players ≡ length round.players
        → is_some made ≡ not (contains_key store.logs (n, me)) → IfSome made (λ d. d.round ≡ round)
        → IfSome made (λ d. deal_of round me share seed ≡ Ok (d.public, d.privates))
        → IfSome made (λ d. maps.entries d.acks ≡ passing_acks (check_ack_of round me d.public) (at_epoch n store.acks))
        → IfSome made (λ d. d.finalized ≡ None)
        → MakesDealer c round phase share seed st (Ok (kept_for phase players made))
    makes_dealer_at n at players made here counted some round_is dealt acks unsigned =
        makes_dealer players made here counted (some ∙ ap (λ (m : ℕ). not (contains_key store.logs (m, me))) at) round_is dealt
        (subst (λ (m : ℕ). IfSome made (λ d. maps.entries d.acks ≡ passing_acks (check_ack_of round me d.public) (at_epoch m store.acks))) at acks) unsigned

    pub deals_stop_at : (n : ℕ) → n ≡ round.number → (e : StoreError) → (has round.dealers me && (is_some share || is_none round.previous)) ≡ true
        → (e ≡ NoMemory) ⊎ ((e ≡ LocalState (ShareRefused n)) × (deal_of round me share seed ≡ Err DealRefused) × (contains_key store.logs (n, me) ≡ false))
        → MakesDealer c round phase share seed st (Err (stop_of e))
    deals_stop_at n at e here refused =
        deals_stop e here (subst (λ (m : ℕ). (e ≡ NoMemory) ⊎ ((e ≡ LocalState (ShareRefused m)) × (deal_of round me share seed ≡ Err DealRefused) × (contains_key store.logs (m, me) ≡ false))) at refused)

-- whose it is
pub deals_for : (deal_of : DealOf) (check_ack_of : CheckAckOf) (me : ℕ) (round : Round) (made : Option Dealer)
    → IfSome made (λ d. d.me ≡ me) → IfSome made (λ d. d.round ≡ round) → IfSome made (λ d. IsDealerOf deal_of check_ack_of d) → IfSome made (λ d. d.is_open ≡ true) → IfSome made (λ d. d.finalized ≡ None)
    → IfSome made (λ d. DealsFor deal_of check_ack_of me round d × (d.is_open ≡ true) × (d.finalized ≡ None))
deals_for deal_of check_ack_of me round None me_is round_is is opened unsigned = tt
deals_for deal_of check_ack_of me round (Some d) me_is round_is is opened unsigned = (record { me_is = me_is; round_is = round_is; is = is }, opened, unsigned)

pub of_dealing : (e : StoreError) → IsOfDealing e → IsCaused (stop_of e) ⊥ ⊥ ⊥
of_dealing Disk is = absurd is
of_dealing SecretsFailed is = absurd is
of_dealing (Corrupt name place) is = absurd is
of_dealing (LocalState cause) is = tt
of_dealing (StateSyncEpochs info floor) is = absurd is
of_dealing StateSyncMaterial is = absurd is
of_dealing Cut is = absurd is
of_dealing NoMemory is = tt

-- ITS LOG

module _ {Dir : Type 0} (c : Fixed Dir) (beside : Beside Dir) (unserved : beside.inclusion.served ≡ None) (fence : Readiness) (life : Life Dir) where
  -- Inclusion begins without a dealer.
  pub begun_bare : life.dealer ≡ None → live_of beside fence (record life { stage = Including }) ≡ setup.begins_inclusion c (live_of beside fence life)
  begun_bare none = λ i. record (live_of beside fence life) {
    participation = record (live_of beside fence life).participation { stage = live.Includes; dealer = no_log life.round i };
    inclusion = record beside.inclusion { served = unserved i };
  }
    where
      no_one : (o : Option Round) → None ≡ option_and_then (λ round. option_map (setup.signed c round) None) o
      no_one None = refl
      no_one (Some round) = refl

      no_log : (o : Option Round) → option_map dealer_of life.dealer ≡ option_and_then (λ round. option_map (setup.signed c round) (option_map dealer_of life.dealer)) o
      no_log o = ap (λ (d : Option Dealer). option_map dealer_of d) none ∙ no_one o ∙ ap (λ (d : Option Dealer). option_and_then (λ round. option_map (setup.signed c round) (option_map dealer_of d)) o) (sym none)

  -- .. or with one, which signs
  module _ (sign_log_of : SignLogOf) (signs : c.rules.sign_log_of ≡ sign_log_of) (dealer now : Dealer) (has_it : life.dealer ≡ Some dealer)
      (round : Round) (has_round : life.round ≡ Some round) (round_is : dealer.round ≡ round) (me_is : dealer.me ≡ c.me)
      (log : now.finalized ≡ Some (sign_log_of dealer.me dealer.round dealer.public dealer.privates (held_acks dealer.acks dealer.round.players)))
      (public : now.public ≡ dealer.public) (privates : now.privates ≡ dealer.privates) (acks : now.acks ≡ dealer.acks)
    where
      log_is : now.finalized ≡ Some (c.rules.sign_log_of c.me round dealer.public dealer.privates (setup.acks_in_order (maps.entries dealer.acks) round.players))
      log_is =
          log
          ∙ (λ i. Some (sym signs i (me_is i) (round_is i) dealer.public dealer.privates (sym (held_is dealer.acks (round_is i).players) i)))

      signed_is : dealer_of now ≡ setup.signed c round (dealer_of dealer)
      signed_is = λ i. record { public = public i; privates = privates i; acks = maps.entries (acks i); log = log_is i }

      pub begun_signed : live_of beside fence (record life { dealer = Some now; stage = Including }) ≡ setup.begins_inclusion c (live_of beside fence life)
      begun_signed = λ i. record (live_of beside fence life) {
        participation = record (live_of beside fence life).participation { stage = live.Includes; dealer = one_log i };
        inclusion = record beside.inclusion { served = unserved i };
      }
        where
          one_log : ◌≡◌ {A = Option live.Dealer} (Some (dealer_of now)) (option_and_then (λ r. option_map (setup.signed c r) (option_map dealer_of life.dealer)) life.round)
          one_log = ap (λ (d : live.Dealer). Some d) signed_is ∙ (λ i. option_and_then (λ r. option_map (setup.signed c r) (option_map dealer_of (sym has_it i))) (sym has_round i))

-- on the first call
pub signs_it : (first : Bool) (now log old : Option SignedDealerLog) → now ≡ (if first then log else old) → first ≡ true → now ≡ log
signs_it first now log old is here = is ∙ ap (λ (b : Bool). if b then log else old) here

-- BETWEEN TWO PARTS OF A SETUP

abbrev pub MadeFor : DealOf → CheckAckOf → (me : ℕ) → Round → Dealer → Type 0
MadeFor deal_of check_ack_of me round d = DealsFor deal_of check_ack_of me round d × (d.is_open ≡ true) × (d.finalized ≡ None)

module _ (deal_of : DealOf) (check_ack_of : CheckAckOf) (me key : ℕ) (same : me ≡ key) (round : Round) where
  -- one that was made is to sign, under this key
  pub to_sign : (has_it : Option Round) → has_it ≡ Some round → (made : Option Dealer) → IfSome made (MadeFor deal_of check_ack_of me round) → IfSome made (IsToSign deal_of check_ack_of key has_it)
  to_sign has_it is None all = tt
  to_sign has_it is (Some d) all = record {
    round = round;
    has_it = is;
    deals = subst (λ (k : ℕ). DealsFor deal_of check_ack_of k round d) same all.0;
    is_open = all.1;
  }

  pub not_signed : (made : Option Dealer) → IfSome made (MadeFor deal_of check_ack_of me round) → IfSome made (λ d. d.finalized ≡ None)
  not_signed None all = tt
  not_signed (Some d) all = all.2

-- What is to sign deals, while its log is not made.
pub still_dealing : {Dir : Type 0} (deal_of : DealOf) (check_ack_of : CheckAckOf) (me : ℕ) (life : Life Dir) (dealer : Option Dealer) → IfSome dealer (IsToSign deal_of check_ack_of me life.round)
    → IfSome dealer (λ d. d.finalized ≡ None) → IfSome dealer (DealsIn deal_of check_ack_of me life)
still_dealing deal_of check_ack_of me life None signs unsigned = tt
still_dealing deal_of check_ack_of me life (Some d) signs unsigned = record {
  round = signs.round;
  has = signs.has_it;
  deals = signs.deals;
  is_open = λ dealing. signs.is_open;
  unsigned = λ dealing. unsigned;
}

-- THE STAGE OF A PHASE

-- An epoch that doesn't begin early begins with inclusion.
pub begins_later : {Dir : Type 0} (c : Fixed Dir) (phase : Phase) (st : Live Dir) → (phase ≡ Midpoint) ⊎ (phase ≡ Late) → setup.begins_inclusion c st ≡ setup.in_stage c phase st
begins_later c phase st (inl is) = ap (λ (p : Phase). setup.in_stage c p st) (sym is)
begins_later c phase st (inr is) = ap (λ (p : Phase). setup.in_stage c p st) (sym is)

pub later_stage : (phase : Phase) → (phase ≡ Midpoint) ⊎ (phase ≡ Late) → Including ≡ stage_begun_in phase
later_stage phase (inl is) = ap (λ (p : Phase). stage_begun_in p) (sym is)
later_stage phase (inr is) = ap (λ (p : Phase). stage_begun_in p) (sym is)
