-- A life whose tip moved, and which may have begun inclusion, is ready still.
use Rattle.std.proofs.Common.{◌≡◌, ℕ, ◌+◌, ◌<◌, ◌^◌, Bool, true, false, Option, Some, None, Result, Ok, Err, refl, sym, ◌∙◌, ap, subst, arith}
use Rattle.std.specs.Prelude.{IfSome, IsSome, OnOk, ◌==◌}
use Rattle.std.specs.Int.NonZero.{non_zero_u32_get, non_zero_u64_get}
use Rattle.std.proofs.lemmas.Bool.Decides.{nat_tests}
use Rattle.dkg_ceremony.specs.Schedule.{epoch_of, last, midpoint}
use Rattle.dkg_ceremony.specs.declared.round.RoundParts.{RoundParts as Round}
use Rattle.dkg_journal.specs.Names.{Files}
use Rattle.dkg_types.specs.Blocks.{Block}
use Rattle.dkg_store.specs.declared.dealer.Dealer.{Dealer}
use Rattle.dkg_store.specs.declared.devices.Devices.{Devices}
use Rattle.dkg_store.specs.declared.player.Player.{Player}
use Rattle.dkg_store.specs.declared.store.Store.{Store}
use Rattle.dkg_core.specs.Sources.{Tip}
use Rattle.dkg_life.specs.declared.config.Terms.{Terms}
use Rattle.dkg_life.specs.declared.life.Life.{Life}
use Rattle.dkg_life.specs.declared.life.Stage.{Stage}
use Rattle.dkg_life.specs.declared.life.Stage.TheVariants.{Dealing, Including, Following}
use Rattle.dkg_life.specs.declared.stop.Stop.{Stop}
use Rattle.dkg_life.specs.Ready.{IsReadyLife}
use Rattle.dkg_life.specs.LiveOf.{DealsIn, IsDealing, IsPlaced, PlayerSits, IsToSign, IsRoundWithin, Sits, SitsIn}
use Rattle.dkg_life.specs.Moved.{IsFirm}
use Rattle.dkg_life.specs.Rules.{AckOf, CheckAckOf, DealOf}
use Rattle.dkg_blocks.proofs.Applying.{tip_at}
use Rattle.dkg_blocks.proofs.Standing.{height_is, placed_behind, placed_following}

-- ITS PARTS

module _ {Dir : Type 0} (old new : Life Dir) where
  pub seated_with : (ack_of : AckOf) (me : ℕ) → new.round ≡ old.round → new.store ≡ old.store → new.player ≡ old.player → PlayerSits ack_of me old → PlayerSits ack_of me new
  seated_with ack_of me round store player seated = subst (λ (o : Option Player). IfSome o (Sits ack_of me new)) (sym player) (in_seat old.player seated)
    where
      in_seat : (o : Option Player) → IfSome o (Sits ack_of me old) → IfSome o (Sits ack_of me new)
      in_seat None is = tt
      in_seat (Some its) is = record { round = is.round; has = round ∙ is.has; sits = subst (λ (s : Store Dir). SitsIn ack_of me s is.round its) (sym store) is.sits }

  pub dealing_with : (deal_of : DealOf) (check_ack_of : CheckAckOf) (me : ℕ) → new.round ≡ old.round → new.dealer ≡ old.dealer → new.stage ≡ old.stage → IsDealing deal_of check_ack_of me old → IsDealing deal_of check_ack_of me new
  dealing_with deal_of check_ack_of me round dealer stage dealing = subst (λ (o : Option Dealer). IfSome o (DealsIn deal_of check_ack_of me new)) (sym dealer) (in_hand old.dealer dealing)
    where
      in_hand : (o : Option Dealer) → IfSome o (DealsIn deal_of check_ack_of me old) → IfSome o (DealsIn deal_of check_ack_of me new)
      in_hand None is = tt
      in_hand (Some its) is = record { round = is.round; has = round ∙ is.has; deals = is.deals; is_open = λ at. is.is_open (sym stage ∙ at); unsigned = λ at. is.unsigned (sym stage ∙ at) }

-- A life that deals is to sign, if it has a dealer.
pub to_sign : {Dir : Type 0} (deal_of : DealOf) (check_ack_of : CheckAckOf) (me its : ℕ) → me ≡ its → (life : Life Dir) → life.stage ≡ Dealing → IsDealing deal_of check_ack_of me life
    → IfSome life.dealer (IsToSign deal_of check_ack_of its life.round)
to_sign {Dir} deal_of check_ack_of me its mine life stage dealing = subst (λ (k : ℕ). IfSome life.dealer (IsToSign deal_of check_ack_of k life.round)) mine (in_hand life.dealer dealing)
  where
    in_hand : (o : Option Dealer) → IfSome o (DealsIn deal_of check_ack_of me life) → IfSome o (IsToSign deal_of check_ack_of me life.round)
    in_hand None is = tt
    in_hand (Some dealer) is = record { round = is.round; has_it = is.has; deals = is.deals; is_open = is.is_open stage }

-- it deals up to its epoch's midpoint
pub middle_at : {Dir : Type 0} (n : ℕ) (life : Life Dir) → life.stage ≡ Dealing → IsPlaced n life → life.midpoint ≡ midpoint n life.epoch
middle_at n life stage placed = placed.midpoint_is (λ follows. absurd (let h : ◌≡◌ {A = Stage} Dealing Following = sym stage ∙ follows in cc))

-- .. which lies within 64 bits
pub range_at : {Dir : Type 0} (n : ℕ) (life : Life Dir) → life.stage ≡ Dealing → IsPlaced n life → last n life.epoch < 2 ^ 64
range_at n life stage placed = placed.in_range (λ follows. absurd (let h : ◌≡◌ {A = Stage} Dealing Following = sym stage ∙ follows in cc))

-- .. and has its round
pub joins_at : {Dir : Type 0} (n : ℕ) (life : Life Dir) → life.stage ≡ Dealing → IsPlaced n life → IsSome life.round
joins_at n life stage placed = placed.joins (λ follows. absurd (let h : ◌≡◌ {A = Stage} Dealing Following = sym stage ∙ follows in cc))

-- where the life and the disk are as they were
pub ready_still : {Dir D X : Type 0} (tells : Bool) (files : D → Files) (image : D → Files → Type 0) (ack_of : AckOf) (deal_of : DealOf) (check_ack_of : CheckAckOf) (terms : Terms) (life now : Life Dir) → now ≡ life
    → (old new : Devices D X) → new.disk.now ≡ old.disk.now → IsReadyLife tells files image ack_of deal_of check_ack_of terms life old → IsReadyLife tells files image ack_of deal_of check_ack_of terms now new
ready_still {Dir} {D} {X} tells files image ack_of deal_of check_ack_of terms life now same old new disk ready =
    subst (λ (l : Life Dir). IsReadyLife tells files image ack_of deal_of check_ack_of terms l new) (sym same) (record {
      seated = ready.seated;
      dealing = ready.dealing;
      placed = ready.placed;
      within = ready.within;
      firm = λ told. subst (λ (d : D). IsFirm life.store.journal (files d) (image d)) (sym disk) (ready.firm told);
    })

-- ALL OF IT

module _ {Dir D X : Type 0} (tells : Bool) (files : D → Files) (image : D → Files → Type 0) (ack_of : AckOf) (deal_of : DealOf) (check_ack_of : CheckAckOf) (terms : Terms) (devices : Devices D X) where
  -- its tip moved
  pub ready_at : (old : Life Dir) → IsReadyLife tells files image ack_of deal_of check_ack_of terms old devices → (tip : Tip) → IsPlaced (non_zero_u64_get terms.blocks_per_epoch) (record old { tip = Some tip })
      → IsReadyLife tells files image ack_of deal_of check_ack_of terms (record old { tip = Some tip }) devices
  ready_at old ready tip placed = record {
    seated = seated_with old (record old { tip = Some tip }) ack_of terms.me refl refl refl ready.seated;
    dealing = dealing_with old (record old { tip = Some tip }) deal_of check_ack_of terms.me refl refl refl ready.dealing;
    placed = placed;
    within = ready.within;
    firm = ready.firm;
  }

  -- .. of a life that follows
  pub ready_following : (old : Life Dir) → old.stage ≡ Following → IsReadyLife tells files image ack_of deal_of check_ack_of terms old devices → (height : ℕ) (tip : Tip)
      → IsReadyLife tells files image ack_of deal_of check_ack_of terms (record old { tip = Some tip }) devices
  ready_following old follows ready height tip = ready_at old ready tip (placed_following (non_zero_u64_get terms.blocks_per_epoch) height tip.digest (record old { tip = Some tip }) follows)

  -- .. of one that deals, behind an early block
  module _ (b : Block Dir) (old : Life Dir) (stage : old.stage ≡ Dealing) (ready : IsReadyLife tells files image ack_of deal_of check_ack_of terms old devices)
      (at : epoch_of (non_zero_u64_get terms.blocks_per_epoch) b.height ≡ old.epoch) (early : b.height < old.midpoint) (tip : Tip) (tip_is : tip ≡ tip_at b)
    where
      abbrev n : ℕ
      n = non_zero_u64_get terms.blocks_per_epoch

      middle_is : old.midpoint ≡ midpoint n old.epoch
      middle_is = middle_at n old stage ready.placed

      abbrev LiesWithin : ℕ → Type 0
      LiesWithin e = last n e < 2 ^ 64

      range_is : LiesWithin old.epoch
      range_is = range_at n old stage ready.placed

      joins_is : IsSome old.round
      joins_is = joins_at n old stage ready.placed

      pub ready_dealing : (b.height + 1 == old.midpoint) ≡ false → IsReadyLife tells files image ack_of deal_of check_ack_of terms (record old { tip = Some tip }) devices
      ready_dealing apart = ready_at old ready tip
          (placed_behind n b.height b.digest terms.long (record old { tip = Some tip }) (ap (λ (t : Tip). Some t) tip_is) at middle_is range_is joins_is early
          (λ dealing. grind (arith, nat_tests, early, apart)) (λ including. absurd (let h : ◌≡◌ {A = Stage} Dealing Including = sym stage ∙ including in cc)))

      -- and one that begins inclusion then
      pub ready_including : (b.height + 1 == old.midpoint) ≡ true → (its : ℕ) → terms.me ≡ its → (new : Life Dir) → new ≡ record old { tip = Some tip; stage = new.stage; dealer = new.dealer }
          → (r : Result (Unit {0}) Stop) → OnOk r (new.stage ≡ Including) → OnOk r (IsDealing deal_of check_ack_of its new) → OnOk r (IsReadyLife tells files image ack_of deal_of check_ack_of terms new devices)
      ready_including last its mine new rest (Err stop) is dealing = tt
      ready_including last its mine new rest (Ok done) is dealing =
          let epoch : new.epoch ≡ old.epoch = ap (λ (l : Life Dir). l.epoch) rest in
          let middle : new.midpoint ≡ old.midpoint = ap (λ (l : Life Dir). l.midpoint) rest in
          let end : b.height + 1 ≡ old.midpoint = height_is (b.height + 1) old.midpoint last in
          record {
            seated = seated_with old new ack_of terms.me (ap (λ (l : Life Dir). l.round) rest) (ap (λ (l : Life Dir). l.store) rest) (ap (λ (l : Life Dir). l.player) rest) ready.seated;
            dealing = subst (λ (k : ℕ). IsDealing deal_of check_ack_of k new) (sym mine) dealing;
            placed = placed_behind n b.height b.digest terms.long new (ap (λ (l : Life Dir). l.tip) rest ∙ ap (λ (t : Tip). Some t) tip_is) (at ∙ sym epoch) (middle ∙ middle_is ∙ ap (midpoint n) (sym epoch)) (subst LiesWithin (sym epoch) range_is) (subst (λ (o : Option Round). IsSome o) (sym (ap (λ (l : Life Dir). l.round) rest)) joins_is)
                (subst (λ (m : ℕ). b.height < m) (sym middle) early) (λ deals. absurd (let at : new.stage ≡ Including = is in let h : ◌≡◌ {A = Stage} Including Dealing = sym at ∙ deals in cc)) (λ including. omega (arith, end, middle));
            within = subst (λ (o : Option Round). IsRoundWithin (non_zero_u32_get terms.limit) o) (sym (ap (λ (l : Life Dir). l.round) rest)) ready.within;
            firm = λ told. subst (λ (s : Store Dir). IsFirm s.journal (files devices.disk.now) (image devices.disk.now)) (sym (ap (λ (l : Life Dir). l.store) rest)) (ready.firm told);
          }
