-- How a player is made: what a store answers is what the relation says.
use Rattle.std.proofs.Common.{◌≡◌, inl, inr, ℕ, Bool, true, false, List, Option, Some, None, Err, refl, sym, ◌∙◌, ap, subst, Contains, Ok}
use Rattle.std.specs.Ordering.{nat_cmp}
use Rattle.std.specs.FinMap.{FinMap, empty, get-empty}
use Rattle.std.specs.Prelude.{◌⊎◌, ◌||◌, not, is_some, IfSome, if◌then◌else◌}
use Rattle.dkg_ceremony.specs.declared.phase.Phase.{Phase}
use Rattle.dkg_ceremony.specs.declared.round.RoundParts.{RoundParts as Round}
use Rattle.dkg_infos.specs.declared.fault.Fault.{Fault}
use Rattle.dkg_infos.specs.declared.fault.LocalCause.TheVariants.{StoredDealing}
use Rattle.dkg_store.specs.Player.{IsPlayerOf, has_orphan}
use Rattle.dkg_store.specs.Recorded as of_store
use Rattle.dkg_store.specs.Recorded.{at_epoch, bare_logs, first_refused}
use Rattle.dkg_store.specs.declared.call.StoreError.{StoreError}
use Rattle.dkg_store.specs.declared.call.StoreError.TheVariants.{LocalState, NoMemory}
use Rattle.dkg_store.specs.declared.player.Player.{Player}
use Rattle.dkg_store.specs.declared.store.Store.{Store}
use Rattle.dkg_core.specs.Courses.{Course}
use Rattle.dkg_core.specs.Fixed.{Fixed, has}
use Rattle.dkg_core.specs.Live.{Live, Plays, Watches, records_of_epoch}
use Rattle.dkg_core.specs.Live as live
use Rattle.dkg_core.specs.Logs.{logs_of}
use Rattle.dkg_core.specs.Setup as setup
use Rattle.dkg_life.specs.Ends.{stop_of}
use Rattle.dkg_life.specs.LiveOf.{SitsIn, records_of}
use Rattle.dkg_life.specs.Rules.{AckOf, BearsAckOf, DealingOf}
use Rattle.dkg_life.specs.Steps.{MakesPlayer}

at_none : (b : Bool) → false ≡ not b → b ≡ true
at_none true e = refl
at_none false e = absurd (let h : false ≡ true = e in cc)

at_one : (b : Bool) → true ≡ not b → b ≡ false
at_one true e = absurd (let h : true ≡ false = e in cc)
at_one false e = refl

module _ {Dir : Type 0} (c : Fixed Dir) (round : Round) (phase : Phase) (dealer : Option live.Dealer) (st : Live Dir) (store : Store Dir) (me : ℕ) (bears_ack_of : BearsAckOf) (dealing_of : DealingOf)
    (records : st.records ≡ records_of store) (mine : c.me ≡ me) (bears : c.rules.bears_ack_of ≡ bears_ack_of) (checks : c.rules.dealing_of ≡ dealing_of)
  where
    -- the store's tests
    abbrev orphan : Bool
    orphan = has_orphan (λ dealer log. bears_ack_of round dealer log me) (at_epoch round.number store.dealings) (bare_logs (at_epoch round.number store.logs))

    abbrev refusal : Option ℕ
    refusal = first_refused (dealing_of round me) (of_store.of_epoch round.number store.dealings)

    -- are the relation's
    lost_is : setup.is_lost c round (records_of_epoch round.number st.records.dealings) (logs_of st round.number) ≡ orphan
    lost_is = λ i. has_orphan (λ dealer log. bears i round dealer log (mine i)) (records_of_epoch round.number (records i).dealings) (bare_logs (records_of_epoch round.number (records i).logs))

    refused_is : setup.refused_in c round st ≡ refusal
    refused_is = λ i. first_refused (λ d. checks i round (mine i) d) (setup.pairs_of (record st { records = records i }) round.number)

    abbrev part_in : Bool → Option ℕ → Course Dir Fault (Live Dir)
    part_in watches refused = if watches then setup.takes_part c round phase dealer Watches st else setup.sits_down c round phase dealer refused st

    makes_is : (h l : Bool) (r : Option ℕ) → has round.players me ≡ h → orphan ≡ l → refusal ≡ r → setup.makes_player c round phase dealer st ≡ part_in (not h || l) r
    makes_is h l r plays lost refused =
        let hp : has round.players c.me ≡ h = ap (has round.players) mine ∙ plays in
        let lp : setup.is_lost c round (records_of_epoch round.number st.records.dealings) (logs_of st round.number) ≡ l = lost_is ∙ lost in
        let rp : setup.refused_in c round st ≡ r = refused_is ∙ refused in
        λ i. part_in (not (hp i) || lp i) (rp i)

    pub no_player : has round.players me ≡ false → setup.makes_player c round phase dealer st ≡ setup.takes_part c round phase dealer Watches st
    no_player plays = makes_is false orphan refusal plays refl refl

    pub orphaned : has round.players me ≡ true → orphan ≡ true → setup.makes_player c round phase dealer st ≡ setup.takes_part c round phase dealer Watches st
    orphaned plays lost = makes_is true true refusal plays lost refl

    pub made : has round.players me ≡ true → orphan ≡ false → refusal ≡ None → setup.makes_player c round phase dealer st ≡ setup.takes_part c round phase dealer Plays st
    made plays lost refused = makes_is true false None plays lost refused

    pub refused : (by : ℕ) → has round.players me ≡ true → orphan ≡ false → refusal ≡ Some by
        → setup.makes_player c round phase dealer st ≡ setup.sits_down c round phase dealer (Some by) st
    refused by plays lost is = makes_is true false (Some by) plays lost is

    -- what the store answers
    pub makes_seat : (player : Option Player) → has round.players me ≡ true → is_some player ≡ not orphan → IfSome player (λ p. refusal ≡ None)
        → MakesPlayer c round phase dealer st (Ok player)
    makes_seat None plays some passes = orphaned plays (at_none orphan some)
    makes_seat (Some player) plays some passes = made plays (at_one orphan some) passes

    pub makes_stop : (e : StoreError) → has round.players me ≡ true
        → (e ≡ NoMemory) ⊎ ((by : ℕ) × (e ≡ LocalState (StoredDealing round.number by)) × (refusal ≡ Some by) × (orphan ≡ false))
        → MakesPlayer c round phase dealer st (Err (stop_of e))
    makes_stop e plays (inl none) = inl (ap (λ (x : StoreError). stop_of x) none)
    makes_stop e plays (inr a) = inr (a.0, ap (λ (x : StoreError). stop_of x) a.1, refused_is ∙ a.2, refused a.0 plays a.3 a.2)

    -- the store's tests of an epoch
    abbrev orphan_at : ℕ → Bool
    orphan_at n = has_orphan (λ dealer log. bears_ack_of round dealer log me) (at_epoch n store.dealings) (bare_logs (at_epoch n store.logs))

    abbrev refusal_at : ℕ → Option ℕ
    refusal_at n = first_refused (dealing_of round me) (of_store.of_epoch n store.dealings)

    -- The store was asked of the round's epoch.
    pub makes_seat_at : (n : ℕ) → n ≡ round.number → (player : Option Player) → has round.players me ≡ true → is_some player ≡ not (orphan_at n) → IfSome player (λ p. refusal_at n ≡ None)
        → MakesPlayer c round phase dealer st (Ok player)
    makes_seat_at n at player plays some passes =
        makes_seat player plays (some ∙ ap (λ (m : ℕ). not (orphan_at m)) at) (subst (λ (m : ℕ). IfSome player (λ p. refusal_at m ≡ None)) at passes)

    pub makes_stop_at : (n : ℕ) → n ≡ round.number → (e : StoreError) → has round.players me ≡ true
        → (e ≡ NoMemory) ⊎ ((by : ℕ) × (e ≡ LocalState (StoredDealing n by)) × (refusal_at n ≡ Some by) × (orphan_at n ≡ false))
        → MakesPlayer c round phase dealer st (Err (stop_of e))
    makes_stop_at n at e plays stored =
        makes_stop e plays (subst (λ (m : ℕ). (e ≡ NoMemory) ⊎ ((by : ℕ) × (e ≡ LocalState (StoredDealing m by)) × (refusal_at m ≡ Some by) × (orphan_at m ≡ false))) at stored)

-- A player that was just made sits in its round: it keeps no acknowledgement yet.
pub sits_new : {Dir : Type 0} (ack_of : AckOf) (me : ℕ) (store : Store Dir) (round : Round) → Contains round.players me → (player : Option Player)
    → IfSome player (λ p. p.me ≡ me) → IfSome player (λ p. p.round ≡ round) → IfSome player (λ p. p.acks ≡ empty) → IfSome player (SitsIn ack_of me store round)
sits_new ack_of me store round plays None me_is round_is none = tt
sits_new ack_of me store round plays (Some player) me_is round_is none = record {
  me_is = me_is;
  round_is = round_is;
  plays = plays;
  kept = subst (λ (acks : FinMap nat_cmp (List ℕ)). IsPlayerOf ack_of me round acks store.dealings round.number) (sym none) (record { kept = λ dealer ack has. absurd (let h : ◌≡◌ {A = Option (List ℕ)} None (Some ack) = sym (get-empty nat_cmp dealer) ∙ has in cc) });
}
