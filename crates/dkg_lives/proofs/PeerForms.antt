-- What a peer's message comes to: it is passed over or its sender is blocked, an acknowledgement goes to this node's dealer, a recorded dealing is acknowledged again, or a new one
-- is kept and acknowledged.
use Rattle.std.proofs.Common.{◌≡◌, ◌⊎◌, inl, inr, ℕ, Bool, true, false, List, Option, Some, None, refl, sym, ◌∙◌, subst}
use Rattle.std.specs.Prelude.{IsSome, Result, Ok, Err}
use Rattle.std.specs.Option.{option_map_or}
use Rattle.dkg_values.specs.Codec.{whole}
use Rattle.dkg_values.specs.declared.codec.CodecError.{CodecError}
use Rattle.dkg_ceremony.specs.declared.ceremony.DealingError.{DealingError}
use Rattle.dkg_ceremony.specs.declared.round.RoundParts.{RoundParts as Round}
use Rattle.dkg_infos.specs.declared.entry.BlockedWhy.{BlockedWhy}
use Rattle.dkg_infos.specs.declared.entry.BlockedWhy.TheVariants as why
use Rattle.dkg_infos.specs.declared.fault.Fault.{Fault}
use Rattle.dkg_types.specs.declared.message.Message.{Message as Channel}
use Rattle.dkg_types.specs.declared.message.Message.TheVariants.{Dealer as ADealing, Ack as AnAck}
use Rattle.dkg_types.specs.MessageCodes.{message_at}
use Rattle.dkg_core.specs.Courses.{Course, Goes, bind}
use Rattle.dkg_core.specs.Fixed.{Fixed}
use Rattle.dkg_core.specs.Live.{Live, Dealer, Seat, Plays, Watches, Stage, Deals, Includes, Follows, Ends, Mailed, Peer, recorded_at}
use Rattle.dkg_core.specs.Dealing.{acknowledges, blocks_sender, checked_dealing, hears_ack, hears_dealing_in, hears_peer_in, keeps, reads, seats_dealing_in, why_dealing}
use Rattle.dkg_core.specs.Core.{step}
use Rattle.dkg_core.specs.Laws.{IsDue}

-- The message brings a dealing, to a life that deals and plays in this round.
pub record BringsDealing {Dir : Type 0} (c : Fixed Dir) (st : Live Dir) (bytes : List ℕ) (round : Round) (public : List ℕ) (private : ℕ) : Type 0 where
  pub deals : st.participation.stage ≡ Deals
  pub of_epoch : st.participation.round ≡ Some round
  pub plays : st.participation.seat ≡ Plays
  pub brings : whole (message_at c.limit bytes) ≡ Ok (ADealing public private)

abbrev pub IsUndue : {Dir : Type 0} → Fixed Dir → Live Dir → (from : ℕ) → List ℕ → Type 0
IsUndue c st from bytes = IsDue c st from bytes → ⊥

some_apart : {A : Type 0} (a : A) → ◌≡◌ {A = Option A} None (Some a) → ⊥
some_apart a e = cc

some_is : {A : Type 0} (a b : A) → ◌≡◌ {A = Option A} (Some a) (Some b) → a ≡ b
some_is a b e = cc

plays_apart : ◌≡◌ {A = Seat} Watches Plays → ⊥
plays_apart e = cc

includes_apart : ◌≡◌ {A = Stage} Includes Deals → ⊥
includes_apart e = cc

follows_apart : ◌≡◌ {A = Stage} Follows Deals → ⊥
follows_apart e = cc

ends_apart : ◌≡◌ {A = Stage} Ends Deals → ⊥
ends_apart e = cc

error_apart : {E A : Type 0} (e : E) (a : A) → ◌≡◌ {A = Result A E} (Err e) (Ok a) → ⊥
error_apart e a is = cc

ack_apart : {E : Type 0} (ack public : List ℕ) (private : ℕ) → ◌≡◌ {A = Result Channel E} (Ok (AnAck ack)) (Ok (ADealing public private)) → ⊥
ack_apart ack public private is = cc

same_public : {E : Type 0} (a b : List ℕ) (x y : ℕ) → ◌≡◌ {A = Result Channel E} (Ok (ADealing a x)) (Ok (ADealing b y)) → a ≡ b
same_public a b x y is = cc

same_private : {E : Type 0} (a b : List ℕ) (x y : ℕ) → ◌≡◌ {A = Result Channel E} (Ok (ADealing a x)) (Ok (ADealing b y)) → x ≡ y
same_private a b x y is = cc

none_some : {A : Type 0} (o : Option A) → o ≡ None → IsSome o → ⊥
none_some None none some = let h : ◌≡◌ {A = Bool} false true = some in cc
none_some (Some a) none some = some_apart a (sym none)

module _ {Dir : Type 0} (c : Fixed Dir) (st : Live Dir) (from : ℕ) (bytes : List ℕ) (P : Course Dir Fault (Live Dir) → Type 0)
    (passed : IsUndue c st from bytes → P (Goes st))
    (blocked : (reason : BlockedWhy) → IsUndue c st from bytes → P (blocks_sender from reason st))
    (acked : (round : Round) (dealer : Dealer) (ack : List ℕ) → st.participation.round ≡ Some round → whole (message_at c.limit bytes) ≡ Ok (AnAck ack) → IsUndue c st from bytes
    → P (hears_ack c round (Some dealer) from ack st))
    (again : (round : Round) (public : List ℕ) (private : ℕ) (kept : List ℕ × ℕ) → BringsDealing c st bytes round public private → recorded_at st.records.dealings round.number from ≡ Some kept
    → P (acknowledges c round from kept.0 st))
    (new : (round : Round) (public : List ℕ) (private : ℕ) → BringsDealing c st bytes round public private → recorded_at st.records.dealings round.number from ≡ None
    → c.rules.dealing_of round c.me from public private ≡ Ok tt → P (bind (keeps round.number from public private st) (λ st. acknowledges c round from public st))) where
  module _ (round : Round) (deals : st.participation.stage ≡ Deals) (in_round : st.participation.round ≡ Some round) where
    module _ (public : List ℕ) (private : ℕ) (brings : whole (message_at c.limit bytes) ≡ Ok (ADealing public private)) where
      refused : (e : DealingError) → recorded_at st.records.dealings round.number from ≡ None → c.rules.dealing_of round c.me from public private ≡ Err e → IsUndue c st from bytes
      refused e none check due = elim fits [ inl some ↦ none_some (recorded_at st.records.dealings round.number from) none some | inr ok ↦ error_apart e tt (sym check ∙ ok) ]
        where
          same : due.round ≡ round
          same = some_is due.round round (sym due.of_epoch ∙ in_round)

          its : whole (message_at c.limit bytes) ≡ Ok (ADealing due.public due.private)
          its = due.brings

          fits : IsSome (recorded_at st.records.dealings round.number from) ⊎ (c.rules.dealing_of round c.me from public private ≡ Ok tt)
          fits = subst (λ (r : Round). IsSome (recorded_at st.records.dealings r.number from) ⊎ (c.rules.dealing_of r c.me from public private ≡ Ok tt)) same
              (subst (λ (a : List ℕ). IsSome (recorded_at st.records.dealings due.round.number from) ⊎ (c.rules.dealing_of due.round c.me from a private ≡ Ok tt))
              (same_public due.public public due.private private (sym due.brings ∙ brings))
              (subst (λ (x : ℕ). IsSome (recorded_at st.records.dealings due.round.number from) ⊎ (c.rules.dealing_of due.round c.me from due.public x ≡ Ok tt))
              (same_private due.public public due.private private (sym due.brings ∙ brings)) due.fits))

      checked : st.participation.seat ≡ Plays → (check : Result (Unit {0}) DealingError) → recorded_at st.records.dealings round.number from ≡ None → c.rules.dealing_of round c.me from public private ≡ check
          → P (checked_dealing c round from public private st check)
      checked plays (Err e) none check = blocked (why_dealing e) (refused e none check)
      checked plays (Ok u) none check = new round public private (record { deals = deals; of_epoch = in_round; plays = plays; brings = brings }) none check

      of_recorded : st.participation.seat ≡ Plays → (found : Option (List ℕ × ℕ)) → recorded_at st.records.dealings round.number from ≡ found → P (hears_dealing_in c round from public private st found)
      of_recorded plays (Some kept) is = again round public private kept (record { deals = deals; of_epoch = in_round; plays = plays; brings = brings }) is
      of_recorded plays None is = checked plays (c.rules.dealing_of round c.me from public private) is refl

      a_dealing : (seat : Seat) → st.participation.seat ≡ seat → P (seats_dealing_in c round from public private st seat)
      a_dealing Plays is = of_recorded is (recorded_at st.records.dealings round.number from) refl
      a_dealing Watches is = blocked why.Nonplayer (λ due. plays_apart (sym is ∙ due.plays))

    an_ack : (ack : List ℕ) → whole (message_at c.limit bytes) ≡ Ok (AnAck ack) → (o : Option Dealer) → P (hears_ack c round o from ack st)
    an_ack ack is None = blocked why.Nondealer (λ due. ack_apart ack due.public due.private (sym is ∙ due.brings))
    an_ack ack is (Some dealer) = acked round dealer ack in_round is (λ due. ack_apart ack due.public due.private (sym is ∙ due.brings))

    a_message : (message : Result Channel CodecError) → whole (message_at c.limit bytes) ≡ message → P (reads c round from st message)
    a_message (Err e) is = blocked why.Decode (λ due. error_apart e (ADealing due.public due.private) (sym is ∙ due.brings))
    a_message (Ok (ADealing public private)) is = a_dealing public private is st.participation.seat refl
    a_message (Ok (AnAck ack)) is = an_ack ack is st.participation.dealer

  in_a_round : st.participation.stage ≡ Deals → (o : Option Round) → st.participation.round ≡ o → P (option_map_or (λ round. reads c round from st (whole (message_at c.limit bytes))) o (Goes st))
  in_a_round deals None is = passed (λ due. some_apart due.round (sym is ∙ due.of_epoch))
  in_a_round deals (Some round) is = a_message round deals is (whole (message_at c.limit bytes)) refl

  in_stage : (stage : Stage) → st.participation.stage ≡ stage → P (hears_peer_in c from bytes st stage)
  in_stage Deals is = in_a_round is st.participation.round refl
  in_stage Includes is = passed (λ due. includes_apart (sym is ∙ due.deals))
  in_stage Follows is = passed (λ due. follows_apart (sym is ∙ due.deals))
  in_stage Ends is = passed (λ due. ends_apart (sym is ∙ due.deals))

  pub by_form : P (step c (Mailed (Peer from bytes)) st)
  by_form = in_stage st.participation.stage refl
