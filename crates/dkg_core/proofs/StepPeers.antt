-- What a peer's message leaves of a life.
use Rattle.std.proofs.Common.{◌≡◌, inl, inr, ℕ, List, Option, Some, None, refl, sym, subst}
use Rattle.std.specs.Prelude.{Result, Ok, Err}
use Rattle.std.specs.Option.{option_map_or}
use Rattle.dkg_values.specs.Codec.{whole as all_of}
use Rattle.dkg_values.specs.declared.codec.CodecError.{CodecError}
use Rattle.dkg_ceremony.specs.declared.ceremony.AckError.{AckError}
use Rattle.dkg_ceremony.specs.declared.ceremony.DealingError.{DealingError}
use Rattle.dkg_ceremony.specs.declared.round.RoundParts.{RoundParts as Round}
use Rattle.dkg_infos.specs.declared.fault.Fault.{Fault}
use Rattle.dkg_types.specs.declared.message.Message.{Message as Channel}
use Rattle.dkg_types.specs.declared.message.Message.TheVariants.{Dealer as ADealing, Ack as AnAck}
use Rattle.dkg_types.specs.MessageCodes.{message_at}
use Rattle.dkg_core.specs.Courses.{Goes}
use Rattle.dkg_core.specs.Fixed.{Fixed}
use Rattle.dkg_core.specs.Live.{Live, Dealer, Seat, Plays, Watches, Stage, Deals, Includes, Follows, Ends, Mailed, Peer, recorded_at}
use Rattle.dkg_core.specs.Dealing as d
use Rattle.dkg_core.specs.Core.{step}
use Rattle.dkg_core.specs.Endings.{ComesTo}
use Rattle.dkg_core.specs.Forms.{IsLiveIn}
use Rattle.dkg_core.specs.Stepping.{IsHeardBy, with_taken}
use Rattle.dkg_core.proofs.Counting.{comes_as, recorded_live, taken_live, takes_ack}

module _ {Dir : Type 0} (c : Fixed Dir) (st : Live Dir) (from : ℕ) (bytes : List ℕ) where
  abbrev pub Never : Fault → Type 0
  Never fault = ⊥

  abbrev pub Heard : Live Dir → Type 0
  Heard end = IsHeardBy c st from end

  same : Heard st
  same = inl refl

  module _ (round : Round) (of_epoch : st.participation.round ≡ Some round) where
    checked : (public : List ℕ) (private : ℕ) (check : Result (Unit {0}) DealingError) → recorded_at st.records.dealings round.number from ≡ None → c.rules.dealing_of round c.me from public private ≡ check
        → ComesTo Never Heard (d.checked_dealing c round from public private st check)
    checked public private (Err e) new is = same
    checked public private (Ok passed) new is = inr (inl (record {
      round = round;
      of_epoch = of_epoch;
      public = public;
      private = private;
      accepted = record { round = round; of_epoch = of_epoch; of_round = refl; new = new; valid = is };
      is = refl;
    }))

    of_recorded : (public : List ℕ) (private : ℕ) (found : Option (List ℕ × ℕ)) → recorded_at st.records.dealings round.number from ≡ found
        → ComesTo Never Heard (d.hears_dealing_in c round from public private st found)
    of_recorded public private (Some kept) is = same
    of_recorded public private None is = checked public private (c.rules.dealing_of round c.me from public private) is refl

    a_dealing : (public : List ℕ) (private : ℕ) (seat : Seat) → ComesTo Never Heard (d.seats_dealing_in c round from public private st seat)
    a_dealing public private Plays = of_recorded public private (recorded_at st.records.dealings round.number from) refl
    a_dealing public private Watches = same

    ack_checked : (dealer : Dealer) (ack : List ℕ) (check : Result (Unit {0}) AckError) → st.participation.dealer ≡ Some dealer → c.rules.check_ack_of round c.me dealer.public from ack ≡ check
        → ComesTo Never Heard (d.checked_ack round dealer from ack st check)
    ack_checked dealer ack (Err e) of_dealer is = same
    ack_checked dealer ack (Ok passed) of_dealer is =
        comes_as Never Never (λ end. end ≡ with_taken round.number dealer from ack st) Heard (d.takes_ack round.number dealer from ack st) (λ fault never. never)
        (λ end at. inr (inr (record { round = round; of_epoch = of_epoch; dealer = dealer; of_dealer = of_dealer; ack = ack; passes = is; is = at })))
        (takes_ack Never round.number dealer from ack st)

    an_ack : (found : Option Dealer) (ack : List ℕ) → st.participation.dealer ≡ found → ComesTo Never Heard (d.hears_ack c round found from ack st)
    an_ack None ack is = same
    an_ack (Some dealer) ack is = ack_checked dealer ack (c.rules.check_ack_of round c.me dealer.public from ack) is refl

    reads : (read : Result Channel CodecError) → ComesTo Never Heard (d.reads c round from st read)
    reads (Err e) = same
    reads (Ok (ADealing public private)) = a_dealing public private st.participation.seat
    reads (Ok (AnAck ack)) = an_ack st.participation.dealer ack refl

  in_a_round : (found : Option Round) → st.participation.round ≡ found → ComesTo Never Heard (option_map_or (λ round. d.reads c round from st (all_of (message_at c.limit bytes))) found (Goes st))
  in_a_round None is = same
  in_a_round (Some round) is = reads round is (all_of (message_at c.limit bytes))

  pub hears : (stage : Stage) → ComesTo Never Heard (d.hears_peer_in c from bytes st stage)
  hears Deals = in_a_round st.participation.round refl
  hears Includes = same
  hears Follows = same
  hears Ends = same

  pub peers_come : ComesTo Never Heard (step c (Mailed (Peer from bytes)) st)
  peers_come = hears st.participation.stage

-- .. which is of the form again
pub heard_live : {Dir : Type 0} (c : Fixed Dir) (st : Live Dir) (from : ℕ) (end : Live Dir) → IsLiveIn c st → IsHeardBy c st from end → IsLiveIn c end
heard_live c st from end live (inl same) = subst (IsLiveIn c) (sym same) live
heard_live c st from end live (inr (inl heard)) =
    subst (IsLiveIn c) (sym heard.is) (recorded_live c st (d.with_dealing_of heard.round.number from heard.public heard.private st).records live)
heard_live c st from end live (inr (inr heard)) =
    subst (IsLiveIn c) (sym heard.is) (taken_live c heard.round heard.dealer from heard.ack heard.passes heard.round.number st heard.of_epoch heard.of_dealer live)
