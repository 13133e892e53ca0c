-- An acknowledgement that a script says is due is due by the node's course, in a life of any epoch.
use Rattle.std.proofs.Common.{◌≡◌, ◌⊎◌, inl, inr, ℕ, ◌-◌, ◌<◌, List, Option, Some, None, Bool, true, false, refl, sym, ap, subst, ◌∙◌, length}
use Rattle.std.specs.Prelude.{IsSome, IsSomeAnd, Result, Ok, Err, option_and_then}
use Rattle.std.specs.FinMap.{get, get-entries}
use Rattle.std.specs.FinMap as maps
use Rattle.std.specs.Result.{result_ok}
use Rattle.dkg_values.specs.Codec.{whole}
use Rattle.dkg_values.specs.Rising.{has_key}
use Rattle.dkg_values.specs.declared.codec.CodecError.{CodecError}
use Rattle.dkg_ceremony.specs.Dealings.{dealing_of}
use Rattle.dkg_ceremony.specs.declared.round.RoundParts.{RoundParts as Round}
use Rattle.dkg_types.specs.MessageCodes.{message_at}
use Rattle.dkg_infos.specs.declared.entry.Restored.{Restored}
use Rattle.dkg_types.specs.declared.message.Message.{Message}
use Rattle.dkg_types.specs.declared.message.Message.TheVariants.{Dealer as ADealing, Ack as AnAck}
use Rattle.dkg_text.specs.declared.script.Event.{Event}
use Rattle.dkg_text.specs.declared.script.Event.TheVariants.{Peer}
use Rattle.dkg_text.specs.declared.script.Life.{Life}
use Rattle.dkg_store.specs.Acts.{Held}
use Rattle.dkg_script.specs.Due.{IsDueDealing, IsDueEvent, IsDueIn}
use Rattle.dkg_script.specs.Due as script
use Rattle.dkg_script.specs.Position.{awaited_epoch, awaited_height_after, event_of_step, life_follows}
use Rattle.dkg_script.specs.Kept.{Gives}
use Rattle.dkg_script.specs.Progress.{Progress, pair_of}
use Rattle.dkg_script.specs.Readings.{BothHalves, Limits, dealing_in, halves_in}
use Rattle.dkg_script.specs.Schedule.{midpoint}
use Rattle.dkg_script.specs.Setting.{Setting, blocks_per_epoch, life_at, limits, me}
use Rattle.dkg_core.specs.Fixed.{Fixed}
use Rattle.dkg_core.specs.Heard.{recovered_in}
use Rattle.dkg_core.specs.Laws.{IsDue}
use Rattle.dkg_core.specs.Live.{Live, Deals, Plays, recorded_at}
use Rattle.dkg_lives.proofs.Currently.{found_current}
use Rattle.dkg_lives.proofs.Heard.{Carries}

not_there : {A : Type 0} (x : A) → ◌≡◌ {A = Option A} None (Some x) → ⊥
not_there x e = cc

some_is : {A : Type 0} (x y : A) → ◌≡◌ {A = Option A} (Some x) (Some y) → x ≡ y
some_is x y e = cc

-- what is read as a dealing is a message that is one
dealing_back : (limits : Limits) (bytes : List ℕ) (d : BothHalves) → dealing_in limits bytes ≡ Some d → whole (message_at limits.limit bytes) ≡ Ok (ADealing d.public d.private)
unfolding dealing_in
dealing_back limits bytes d is = by_read (whole (message_at limits.limit bytes)) refl is
  where
    by_read : (r : Result Message CodecError) → whole (message_at limits.limit bytes) ≡ r → option_and_then halves_in (result_ok r) ≡ Some d → whole (message_at limits.limit bytes) ≡ Ok (ADealing d.public d.private)
    by_read (Ok (ADealing public private)) reads is =
        let its : BothHalves = record { public = public; private = private } in
        reads ∙ ap (λ (x : BothHalves). Ok (ADealing x.public x.private)) (some_is its d is)
    by_read (Ok (AnAck ack)) reads is = absurd (not_there d is)
    by_read (Err e) reads is = absurd (not_there d is)

-- nothing is due at an event that brings no dealing
pub no_event_due : (s : Setting) (q : Progress) (life : Life) (j : ℕ) (its : Event) → life_at s (length q.cuts) ≡ Some life → q.step ≡ j → event_of_step life j ≡ Some its
    → ((epoch : ℕ) → IsDueEvent s q epoch its → ⊥) → script.IsDueNow s q → ⊥
no_event_due s q life j its life_is step is none due =
    let of_life : IsDueIn s q life = rw life_is at due in
    let event : IsSomeAnd (event_of_step life q.step) (IsDueEvent s q (awaited_epoch s (length q.cuts) life (q.step - 1))) = of_life.dealing in
    none (awaited_epoch s (length q.cuts) life (q.step - 1))
    (subst (λ (e : Option Event). IsSomeAnd e (IsDueEvent s q (awaited_epoch s (length q.cuts) life (q.step - 1)))) (ap (event_of_step life) step ∙ is) event)

-- nor at an opening
pub no_opening_due : (s : Setting) (q : Progress) → q.step ≡ 0 → script.IsDueNow s q → ⊥
no_opening_due s q step due = by_life (life_at s (length q.cuts)) due
  where
    by_life : (o : Option Life) → IsSomeAnd o (IsDueIn s q) → ⊥
    by_life None due = due
    by_life (Some life) due =
        subst (λ (n : ℕ). IsSomeAnd (event_of_step life n) (IsDueEvent s q (awaited_epoch s (length q.cuts) life (q.step - 1)))) step due.dealing

-- A MESSAGE, of a life in this round
module _ {Dir : Type 0} (c : Fixed Dir) (begun e : ℕ) (st : Live Dir) (h : Held) (s : Setting) (p q : Progress) (life : Life) (l j from : ℕ) (bytes : List ℕ) (carries : Carries c begun e st h s p) (awaits : e ≡ awaited_epoch s l life (j - 1))
    (life_is : life_at s l ≡ Some life) (lives : length q.cuts ≡ l) (step : q.step ≡ j) (event_is : event_of_step life j ≡ Some (Peer from bytes)) (same : q.recorded ≡ p.recorded)
    (deals : awaited_height_after s l life (j - 1) < midpoint (blocks_per_epoch s) e → (round : Round) → st.participation.round ≡ Some round → st.participation.stage ≡ Deals)
    (in_round : (life_follows s l life e ≡ false) → (round : Round) × (st.participation.round ≡ Some round))
    (plays : (round : Round) → st.participation.round ≡ Some round → has_key (me s) round.players ≡ true → st.participation.seat ≡ Plays) where
  epoch_is : awaited_epoch s l life (j - 1) ≡ e
  epoch_is = sym awaits

  valid_back : (round : Round) (public : List ℕ) (private : ℕ) → dealing_of round (me s) from public private ≡ Ok tt → c.rules.dealing_of round c.me from public private ≡ Ok tt
  valid_back round public private is = rw (carries.knows.rules_are, carries.knows.me_is) is

  module _ (due : script.IsDueNow s q) where
    of_life : IsDueIn s q life
    of_life = rw (lives, life_is) at due

    early : awaited_height_after s l life (j - 1) < midpoint (blocks_per_epoch s) e
    early = subst (λ (n : ℕ). awaited_height_after s l life (j - 1) < midpoint (blocks_per_epoch s) n) epoch_is (rw (lives, step) at of_life.early)

    takes_part : life_follows s l life e ≡ false
    takes_part = subst (λ (n : ℕ). life_follows s l life n ≡ false) epoch_is (rw (lives, step) at of_life.takes_part)

    event : IsDueEvent s q e (Peer from bytes)
    event = subst (λ (o : Option Event). IsSomeAnd o (IsDueEvent s q e)) (ap (event_of_step life) step ∙ event_is)
        (subst (λ (n : ℕ). IsSomeAnd (event_of_step life q.step) (IsDueEvent s q n)) (ap (λ (n : ℕ). awaited_epoch s n life (q.step - 1)) lives ∙ ap (λ (n : ℕ). awaited_epoch s l life (n - 1)) step ∙ epoch_is) of_life.dealing)

    abbrev round : Round
    round = (in_round takes_part).0

    of_epoch : st.participation.round ≡ Some round
    of_epoch = (in_round takes_part).1

    of_round : IsSomeAnd (dealing_in (limits s) bytes) (IsDueDealing s q e from round)
    of_round = subst (λ (o : Option Round). IsSomeAnd o (λ round. IsSomeAnd (dealing_in (limits s) bytes) (IsDueDealing s q e from round))) (carries.in_round round of_epoch).0 event

    -- what is recorded in memory is what the devices give back
    recorded_is : recorded_at st.records.dealings round.number from ≡ get (recovered_in h) (e, from)
    recorded_is =
        ap (λ (rs : List ((ℕ × ℕ) × (List ℕ × ℕ))). recorded_at rs round.number from) carries.agreed.dealings
        ∙ ap (λ (n : ℕ). recorded_at (maps.entries (recovered_in h)) n from) (carries.in_round round of_epoch).1 ∙ sym (get-entries (recovered_in h) (e, from))

    there : (o : Option Restored) → pair_of p.recorded e from ≡ o → IsSome o → IsSome (recorded_at st.records.dealings round.number from)
    there None is some = absurd (let wrong : ◌≡◌ {A = Bool} false true = some in cc)
    there (Some x) is some =
        let found = found_current begun (Gives (recovered_in h)) p.recorded e from x carries.are.given is carries.current in
        let got : get (recovered_in h) (e, from) ≡ Some (x.public, x.private) = rw (← found.1, ← found.2) found.0 in
        rw (recorded_is ∙ got) refl

    fits : (d : BothHalves) → IsDueDealing s q e from round d → IsSome (recorded_at st.records.dealings round.number from) ⊎ (c.rules.dealing_of round c.me from d.public d.private ≡ Ok tt)
    fits d its = elim its.valid [
      | inl ok ↦ inr (valid_back round d.public d.private ok)
      | inr some ↦ inl (there (pair_of p.recorded e from) refl (subst (λ (rs : List Restored). IsSome (pair_of rs e from)) same some))
    ]

    by_dealing : (o : Option BothHalves) → dealing_in (limits s) bytes ≡ o → IsSomeAnd o (IsDueDealing s q e from round) → IsDue c st from bytes
    by_dealing None is its = absurd its
    by_dealing (Some d) is its = record {
      deals = deals early round of_epoch;
      round = round;
      of_epoch = of_epoch;
      plays = plays round of_epoch its.player;
      public = d.public;
      private = d.private;
      brings = subst (λ (n : ℕ). whole (message_at n bytes) ≡ Ok (ADealing d.public d.private)) carries.knows.limit_is (dealing_back (limits s) bytes d is);
      fits = fits d its;
    }

    pub owed : IsDue c st from bytes
    owed = by_dealing (dealing_in (limits s) bytes) refl of_round
