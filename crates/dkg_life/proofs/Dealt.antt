-- A life's dealer, and all that holds of a life, between two calls.
use Rattle.std.proofs.Common.{◌≡◌, ℕ, Bool, List, Option, Some, None, Result, Ok, Err, refl, sym, ◌∙◌, ap, subst}
use Rattle.std.specs.Prelude.{IfSome, IsSomeAnd, IsTrue, OnOk, option_map, if◌then◌else◌}
use Rattle.dkg_ceremony.specs.declared.round.RoundParts.{RoundParts as Round}
use Rattle.dkg_journal.specs.Names.{Files}
use Rattle.dkg_store.specs.Dealer.{IsDealerOf}
use Rattle.dkg_store.specs.Pairs.{Pairs}
use Rattle.dkg_store.specs.Player.{IsPlayerOf}
use Rattle.dkg_store.specs.Rest.{KeepsAck}
use Rattle.dkg_store.specs.declared.dealer.Dealer.{Dealer}
use Rattle.dkg_store.specs.declared.devices.Devices.{Devices}
use Rattle.dkg_store.specs.declared.player.Player.{Player}
use Rattle.dkg_store.specs.declared.store.Store.{Store}
use Rattle.dkg_life.specs.declared.config.Terms.{Terms}
use Rattle.dkg_life.specs.declared.life.Life.{Life}
use Rattle.dkg_life.specs.declared.life.Stage.{Stage}
use Rattle.dkg_life.specs.declared.life.Stage.TheVariants.{Dealing, Including, Following}
use Rattle.dkg_life.specs.Ready.{IsReadyLife}
use Rattle.dkg_life.specs.Heard.{round_dealt}
use Rattle.dkg_life.specs.LiveOf.{DealsIn, IsDealing, PlayerSits, Sits, SitsIn}
use Rattle.dkg_life.specs.Moved.{IsFirm}
use Rattle.dkg_life.specs.Rules.{AckOf, CheckAckOf, DealOf}
use Rattle.dkg_life.specs.Steps.{SameHalves, is_dealing}
use Rattle.dkg_life.proofs.Seated.{same_some}

-- at Ok
pub ok_so : {T E F P : Type 0} (r : Result T E) → (F → P) → OnOk r F → OnOk r P
ok_so (Ok x) so f = so f
ok_so (Err e) so f = tt

-- WHILE A ROUND IS DEALT

dealing_in : (s : Stage) (o : Option Round) (epoch : ℕ) → (if is_dealing s then option_map (λ r. r.number) o else None) ≡ Some epoch → s ≡ Dealing
dealing_in Dealing o epoch dealt = refl
dealing_in Including o epoch dealt = absurd cc
dealing_in Following o epoch dealt = absurd cc

pub while_dealing : {Dir : Type 0} (life : Life Dir) (epoch : ℕ) → round_dealt life ≡ Some epoch → life.stage ≡ Dealing
while_dealing life epoch dealt = dealing_in life.stage life.round epoch dealt

pub is_dealt : {Dir : Type 0} (life : Life Dir) (round : Round) → life.stage ≡ Dealing → life.round ≡ Some round → round_dealt life ≡ Some round.number
is_dealt life round stage has =
    ap (λ (s : Stage). if is_dealing s then option_map (λ (r : Round). r.number) life.round else None) stage
    ∙ ap (λ (q : Option Round). option_map (λ (r : Round). r.number) q) has

-- .. its number is that epoch
pub dealt_number : {Dir : Type 0} (life : Life Dir) (epoch : ℕ) (round : Round) → round_dealt life ≡ Some epoch → life.round ≡ Some round → round.number ≡ epoch
dealt_number life epoch round dealt has =
    same_some round.number epoch
    (sym (ap (λ (q : Option Round). option_map (λ (r : Round). r.number) q) has)
    ∙ ap (λ (s : Stage). if is_dealing s then option_map (λ (r : Round). r.number) life.round else None) (sym (while_dealing life epoch dealt)) ∙ dealt)

module _ {Dir : Type 0} (deal_of : DealOf) (check_ack_of : CheckAckOf) (me : ℕ) (life : Life Dir) (dealer : Dealer) (deals : DealsIn deal_of check_ack_of me life dealer) where
  pub deals_round : (round : Round) → life.round ≡ Some round → round ≡ dealer.round
  deals_round round has = same_some round deals.round (sym has ∙ deals.has) ∙ sym deals.deals.round_is

  pub deals_number : (epoch : ℕ) → round_dealt life ≡ Some epoch → dealer.round.number ≡ epoch
  deals_number epoch dealt = ap (λ (r : Round). r.number) deals.deals.round_is ∙ dealt_number life epoch deals.round dealt deals.has

  -- acknowledgements came in
  pub deals_on : (store : Store Dir) (player : Option Player) (now : Dealer) → now ≡ record dealer { acks = now.acks } → (IsDealerOf deal_of check_ack_of dealer → IsDealerOf deal_of check_ack_of now)
      → DealsIn deal_of check_ack_of me (record life { store = store; dealer = Some now; player = player }) now
  deals_on store player now same more = record {
    round = deals.round;
    has = deals.has;
    deals = record {
      me_is = ap (λ (d : Dealer). d.me) same ∙ deals.deals.me_is;
      round_is = ap (λ (d : Dealer). d.round) same ∙ deals.deals.round_is;
      is = more deals.deals.is;
    };
    is_open = λ s. ap (λ (d : Dealer). d.is_open) same ∙ deals.is_open s;
    unsigned = λ s. ap (λ (d : Dealer). d.finalized) same ∙ deals.unsigned s;
  }

-- the same dealer beside another store and player
pub dealing_on : {Dir : Type 0} (deal_of : DealOf) (check_ack_of : CheckAckOf) (me : ℕ) (life : Life Dir) (store : Store Dir) (player : Option Player) → IsDealing deal_of check_ack_of me life
    → IsDealing deal_of check_ack_of me (record life { store = store; player = player })
dealing_on {Dir} deal_of check_ack_of me life store player dealing = by_dealer life.dealer dealing
  where
    by_dealer : (o : Option Dealer) → IfSome o (DealsIn deal_of check_ack_of me life) → IfSome o (DealsIn deal_of check_ack_of me (record life { store = store; player = player }))
    by_dealer None is = tt
    by_dealer (Some d) is = record { round = is.round; has = is.has; deals = is.deals; is_open = is.is_open; unsigned = is.unsigned }

-- the same player beside another dealer, and a store with the same dealings
pub seated_beside : {Dir : Type 0} (ack_of : AckOf) (me : ℕ) (life : Life Dir) (store : Store Dir) (dealer : Option Dealer) → store.dealings ≡ life.store.dealings → PlayerSits ack_of me life
    → PlayerSits ack_of me (record life { store = store; dealer = dealer })
seated_beside {Dir} ack_of me life store dealer same seated = by_player life.player seated
  where
    by_player : (o : Option Player) → IfSome o (Sits ack_of me life) → IfSome o (Sits ack_of me (record life { store = store; dealer = dealer }))
    by_player None is = tt
    by_player (Some player) is = record {
      round = is.round;
      has = is.has;
      sits = record {
        me_is = is.sits.me_is;
        round_is = is.sits.round_is;
        plays = is.sits.plays;
        kept = subst (λ (pairs : Pairs). IsPlayerOf ack_of me is.round player.acks pairs is.round.number) (sym same) is.sits.kept;
      };
    }

-- ALL THAT HOLDS OF A LIFE

module _ {Dir D X : Type 0} (tells : Bool) (files : D → Files) (image : D → Files → Type 0) (ack_of : AckOf) (deal_of : DealOf) (check_ack_of : CheckAckOf) (terms : Terms) (life : Life Dir)
    (devices : Devices D X) (ready : IsReadyLife tells files image ack_of deal_of check_ack_of terms life devices) (next : Devices D X)
  where
    -- an acknowledgement was handed to the dealer
    pub ready_acked : (dealer now : Dealer) (store : Store Dir) → life.dealer ≡ Some dealer → now ≡ record dealer { acks = now.acks } → (IsDealerOf deal_of check_ack_of dealer → IsDealerOf deal_of check_ack_of now)
        → store.dealings ≡ life.store.dealings → (IsTrue tells → IsFirm store.journal (files next.disk.now) (image next.disk.now))
        → IsReadyLife tells files image ack_of deal_of check_ack_of terms (record life { store = store; dealer = Some now }) next
    ready_acked dealer now store has same more pairs firm = record {
      seated = seated_beside ack_of terms.me life store (Some now) pairs ready.seated;
      dealing = deals_on deal_of check_ack_of terms.me life dealer deals store life.player now same more;
      placed = record {
        epoch_is = ready.placed.epoch_is;
        midpoint_is = ready.placed.midpoint_is;
        in_range = ready.placed.in_range;
        joins = ready.placed.joins;
        early = ready.placed.early;
        ended = ready.placed.ended;
      };
      within = ready.within;
      firm = firm;
    }
      where
        deals : DealsIn deal_of check_ack_of terms.me life dealer
        deals = let P : Option Dealer → Type 0 = λ o. IfSome o (DealsIn deal_of check_ack_of terms.me life) in subst P has ready.dealing

    -- a dealing was handed to the player
    pub ready_heard : (its : ℕ) (player now : Player) (store : Store Dir) → life.player ≡ Some player → terms.me ≡ its → SitsIn ack_of its store player.round now
        → (IsTrue tells → IsFirm store.journal (files next.disk.now) (image next.disk.now))
        → IsReadyLife tells files image ack_of deal_of check_ack_of terms (record life { store = store; player = Some now }) next
    ready_heard its player now store has mine sitting firm = record {
      seated = record {
        round = sits.round;
        has = sits.has;
        sits = subst (λ (r : Round). SitsIn ack_of terms.me store r now) sits.sits.round_is (subst (λ (k : ℕ). SitsIn ack_of k store player.round now) (sym mine) sitting);
      };
      dealing = dealing_on deal_of check_ack_of terms.me life store (Some now) ready.dealing;
      placed = record {
        epoch_is = ready.placed.epoch_is;
        midpoint_is = ready.placed.midpoint_is;
        in_range = ready.placed.in_range;
        joins = ready.placed.joins;
        early = ready.placed.early;
        ended = ready.placed.ended;
      };
      within = ready.within;
      firm = firm;
    }
      where
        sits : Sits ack_of terms.me life player
        sits = let P : Option Player → Type 0 = λ o. IfSome o (Sits ack_of terms.me life) in subst P has ready.seated

    -- nothing but a line was told
    pub ready_still : next ≡ devices → IsReadyLife tells files image ack_of deal_of check_ack_of terms life next
    ready_still same = subst (λ (d : Devices D X). IsReadyLife tells files image ack_of deal_of check_ack_of terms life d) (sym same) ready

-- what a store keeps that an acknowledgement is recorded in
pub ack_store : {Dir : Type 0} {ends : Option Bool} {key : ℕ × ℕ} {ack : List ℕ} {old new : Store Dir} → KeepsAck ends key ack old new → new ≡ record old { journal = new.journal; acks = new.acks }
ack_store {new = new} kept = λ i. record new { logs = kept.logs i; dealings = kept.dealings i; restored = kept.restored i; current = kept.current i }

-- THE SAME HALVES

pub halves_same : (o : Option Dealer) → SameHalves o o
halves_same None = tt
halves_same (Some d) = refl

pub halves_some : (o : Option Dealer) (x y : Dealer) → o ≡ Some x → y ≡ record x { acks = y.acks } → SameHalves o (Some y)
halves_some o x y is same = let P : Option Dealer → Type 0 = λ q. SameHalves q (Some y) in subst P (sym is) same

pub halves_then : (a b c : Option Dealer) → SameHalves a b → SameHalves b c → SameHalves a c
halves_then None None None p q = tt
halves_then None None (Some z) p q = absurd q
halves_then None (Some y) c p q = absurd p
halves_then (Some x) None c p q = absurd p
halves_then (Some x) (Some y) None p q = absurd q
halves_then (Some x) (Some y) (Some z) p q = q ∙ (λ i. record (p i) { acks = z.acks })

pub same_public : (a b : Option Dealer) (x y : Dealer) → SameHalves a b → a ≡ Some x → b ≡ Some y → y.public ≡ x.public
same_public a b x y same is_a is_b =
    let P : Option Dealer → Type 0 = λ o. SameHalves o b in
    let Q : Option Dealer → Type 0 = λ o. SameHalves (Some x) o in
    ap (λ (d : Dealer). d.public) (subst Q is_b (subst P is_a same))

-- what is said of the halves alone
pub halves_on : (P : List ℕ → List (ℕ × ℕ) → Type 0) (a b : Option Dealer) → SameHalves a b → IsSomeAnd a (λ d. P d.public d.privates) → IsSomeAnd b (λ d. P d.public d.privates)
halves_on P None None same is = is
halves_on P None (Some y) same is = absurd same
halves_on P (Some x) None same is = absurd same
halves_on P (Some x) (Some y) same is = subst (λ (d : Dealer). P d.public d.privates) (sym same) is

pub some_dealer : (P : Dealer → Type 0) (o : Option Dealer) → IsSomeAnd o P → (d : Dealer) × (o ≡ Some d) × P d
some_dealer P None is = absurd is
some_dealer P (Some d) is = (d, refl, is)

-- A LIFE WHOSE STORE AND PARTS ALONE MOVED

module _ {Dir : Type 0} (old new : Life Dir) (rest : new ≡ record old { store = new.store; dealer = new.dealer; player = new.player }) where
  pub round_on : new.round ≡ old.round
  round_on = ap (λ (l : Life Dir). l.round) rest

  pub dealt_on : (epoch : ℕ) → round_dealt old ≡ Some epoch → round_dealt new ≡ Some epoch
  dealt_on epoch dealt = ap (λ (l : Life Dir). round_dealt l) rest ∙ dealt

pub rest_then : {Dir : Type 0} (a b c : Life Dir) → b ≡ record a { store = b.store; dealer = b.dealer; player = b.player } → c ≡ record b { store = c.store; dealer = c.dealer; player = c.player }
    → c ≡ record a { store = c.store; dealer = c.dealer; player = c.player }
rest_then a b c first second = second ∙ (λ i. record (first i) { store = c.store; dealer = c.dealer; player = c.player })
