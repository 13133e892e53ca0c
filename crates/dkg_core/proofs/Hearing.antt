-- What a peer's message records and acknowledges.
use Rattle.std.proofs.Common.{◌≡◌, inl, inr, ℕ, List, [], Option, Some, None, refl}
use Rattle.std.specs.Prelude.{if◌then◌else◌, Result, Ok, Err, is_some}
use Rattle.dkg_values.specs.Codec.{whole}
use Rattle.dkg_values.specs.Rising.{lookup}
use Rattle.dkg_values.specs.declared.codec.CodecError.{CodecError}
use Rattle.dkg_ceremony.specs.declared.ceremony.AckError.{AckError}
use Rattle.dkg_ceremony.specs.declared.ceremony.DealingError.{DealingError}
use Rattle.dkg_ceremony.specs.declared.round.RoundParts.{RoundParts as Round}
use Rattle.dkg_types.specs.declared.message.Message.{Message as Channel}
use Rattle.dkg_types.specs.declared.message.Message.TheVariants.{Dealer as ADealing, Ack as AnAck}
use Rattle.dkg_types.specs.MessageCodes.{message_at}
use Rattle.dkg_core.specs.Courses.{Goes}
use Rattle.dkg_store.specs.declared.event.Event.TheVariants as events
use Rattle.dkg_core.specs.Fixed.{Fixed}
use Rattle.dkg_core.specs.Live.{Live, Dealer, Seat, Plays, Watches, Stage, Deals, Includes, Follows, Ends, recorded_at}
use Rattle.dkg_core.specs.Dealing.{reads, hears_peer_in, seats_dealing_in, hears_dealing_in, hears_ack, checked_dealing, checked_ack, takes_ack, appends, counts, with_ack}
use Rattle.dkg_core.specs.Laws.{Holds, IsAccepted, peer_law, PeersAreHeard}
use Rattle.dkg_core.proofs.Holding.{holds_if, holds_option}

module _ {Dir : Type 0} (c : Fixed Dir) (st : Live Dir) (from : ℕ) (round : Round) (in_round : st.participation.round ≡ Some round) where
  checked : (public : List ℕ) (private : ℕ) (check : Result (Unit {0}) DealingError) → c.rules.dealing_of round c.me from public private ≡ check
      → recorded_at st.records.dealings round.number from ≡ None → Holds (peer_law c st from) [] (checked_dealing c round from public private st check)
  checked public private (Err e) is new = (tt, tt)
  checked public private (Ok passed) is new =
      let accepted : IsAccepted c st round.number from public private = record { round = round; of_epoch = in_round; of_round = refl; new = new; valid = is } in
      ((refl, refl, (public, accepted)), (tt, ((refl, accepted, refl), ((refl, record { round = round; of_epoch = in_round; of_round = refl; pair = (public, private); is = refl; of = inr (accepted, (refl, refl)) }), tt))))

  of_recorded : (public : List ℕ) (private : ℕ) (kept : Option (List ℕ × ℕ)) → recorded_at st.records.dealings round.number from ≡ kept
      → Holds (peer_law c st from) [] (hears_dealing_in c round from public private st kept)
  of_recorded public private (Some kept) is = ((refl, record { round = round; of_epoch = in_round; of_round = refl; pair = kept; is = refl; of = inl (refl, is) }), tt)
  of_recorded public private None new = checked public private (c.rules.dealing_of round c.me from public private) refl new

  a_dealing : (public : List ℕ) (private : ℕ) (seat : Seat) → Holds (peer_law c st from) [] (seats_dealing_in c round from public private st seat)
  a_dealing public private Plays = of_recorded public private (recorded_at st.records.dealings round.number from) refl
  a_dealing public private Watches = (tt, tt)

  an_ack_taken : (d : Dealer) (ack : List ℕ) → Holds (peer_law c st from) [] (takes_ack round.number d from ack st)
  an_ack_taken d ack =
      holds_if (peer_law c st from) [] (is_some (lookup from d.acks)) (Goes st)
      (if is_some (recorded_at st.records.acks round.number from) then Goes (counts d from ack st)
      else appends round.number (events.Ack from ack) (Goes (counts d from ack (with_ack round.number from ack st))))
      (λ e. tt) (λ e. holds_if (peer_law c st from) [] (is_some (recorded_at st.records.acks round.number from)) (Goes (counts d from ack st))
      (appends round.number (events.Ack from ack) (Goes (counts d from ack (with_ack round.number from ack st)))) (λ e. tt) (λ e. (tt, tt)))

  an_ack_checked : (d : Dealer) (ack : List ℕ) (check : Result (Unit {0}) AckError) → Holds (peer_law c st from) [] (checked_ack round d from ack st check)
  an_ack_checked d ack (Err e) = (tt, tt)
  an_ack_checked d ack (Ok passed) = an_ack_taken d ack

  an_ack : (dealer : Option Dealer) (ack : List ℕ) → Holds (peer_law c st from) [] (hears_ack c round dealer from ack st)
  an_ack None ack = (tt, tt)
  an_ack (Some d) ack = an_ack_checked d ack (c.rules.check_ack_of round c.me d.public from ack)

  a_message : (message : Result Channel CodecError) → Holds (peer_law c st from) [] (reads c round from st message)
  a_message (Err e) = (tt, tt)
  a_message (Ok (ADealing public private)) = a_dealing public private st.participation.seat
  a_message (Ok (AnAck ack)) = an_ack st.participation.dealer ack

in_stage : {Dir : Type 0} (c : Fixed Dir) (st : Live Dir) (from : ℕ) (bytes : List ℕ) (stage : Stage) → Holds (peer_law c st from) [] (hears_peer_in c from bytes st stage)
in_stage c st from bytes Deals =
    holds_option (peer_law c st from) [] st.participation.round (λ round. reads c round from st (whole (message_at c.limit bytes))) (Goes st)
    (λ round is. a_message c st from round is (whole (message_at c.limit bytes))) (λ e. tt)
in_stage c st from bytes Includes = tt
in_stage c st from bytes Follows = tt
in_stage c st from bytes Ends = tt

pub heard : {Dir : Type 0} → PeersAreHeard Dir
heard c st from bytes = in_stage c st from bytes st.participation.stage
