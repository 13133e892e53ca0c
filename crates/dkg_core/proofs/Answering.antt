-- A message that is due is acknowledged.
use Rattle.std.proofs.Common.{◌≡◌, ◌⊎◌, inl, inr, ℕ, List, [], ◌∷◌, Bool, true, false, Option, Some, None, IsSome, refl, sym, subst}
use Rattle.std.specs.Prelude.{Result, Ok}
use Rattle.std.specs.Option.{option_map_or}
use Rattle.dkg_values.specs.Codec.{whole}
use Rattle.dkg_values.specs.declared.codec.CodecError.{CodecError}
use Rattle.dkg_ceremony.specs.declared.ceremony.DealingError.{DealingError}
use Rattle.dkg_ceremony.specs.declared.round.RoundParts.{RoundParts as Round}
use Rattle.dkg_infos.specs.declared.fault.Fault.{Fault}
use Rattle.dkg_types.specs.declared.message.Message.{Message as Channel}
use Rattle.dkg_types.specs.declared.message.Message.TheVariants.{Dealer as ADealing}
use Rattle.dkg_types.specs.MessageCodes.{message_at}
use Rattle.dkg_store.specs.Acts.{Held}
use Rattle.dkg_core.specs.Courses.{Course, Goes, deeds_of}
use Rattle.dkg_core.specs.Fixed.{Fixed}
use Rattle.dkg_core.specs.Live.{Live, Seat, Plays, Stage, recorded_at}
use Rattle.dkg_core.specs.Dealing.{reads, hears_peer_in, seats_dealing_in, hears_dealing_in, checked_dealing}
use Rattle.dkg_core.specs.Laws.{EndsInAck, DuesAreAnswered}

module _ {Dir : Type 0} (c : Fixed Dir) (st : Live Dir) (from : ℕ) (round : Round) (h : Held) where
  abbrev Ends : Course Dir Fault (Live Dir) → Type 0
  Ends acts = EndsInAck round.number from (deeds_of acts h)

  kept_now : (public : List ℕ) (private : ℕ) → Ends (checked_dealing c round from public private st (Ok tt))
  kept_now public private = (_ ∷ _ ∷ _ ∷ [], c.rules.ack_of c.me round from public, refl)

  either : (public : List ℕ) (private : ℕ) (kept : Option (List ℕ × ℕ)) → IsSome kept ⊎ (c.rules.dealing_of round c.me from public private ≡ Ok tt)
      → Ends (hears_dealing_in c round from public private st kept)
  either public private (Some kept) fits = ([], c.rules.ack_of c.me round from kept.0, refl)
  either public private None (inl some) = absurd (let e : ◌≡◌ {A = Bool} false true = some in cc)
  either public private None (inr valid) = subst (λ (check : Result (Unit {0}) DealingError). Ends (checked_dealing c round from public private st check)) (sym valid) (kept_now public private)

  a_dealing : (public : List ℕ) (private : ℕ) → st.participation.seat ≡ Plays → IsSome (recorded_at st.records.dealings round.number from) ⊎ (c.rules.dealing_of round c.me from public private ≡ Ok tt)
      → Ends (reads c round from st (Ok (ADealing public private)))
  a_dealing public private plays fits =
      subst (λ (seat : Seat). Ends (seats_dealing_in c round from public private st seat)) (sym plays) (either public private (recorded_at st.records.dealings round.number from) fits)

pub answered : {Dir : Type 0} → DuesAreAnswered Dir
answered c st from bytes due h =
    subst (λ (stage : Stage). Ends c st from due.round h (hears_peer_in c from bytes st stage)) (sym due.deals)
    (subst (λ (o : Option Round). Ends c st from due.round h (option_map_or (λ round. reads c round from st (whole (message_at c.limit bytes))) o (Goes st))) (sym due.of_epoch)
    (subst (λ (m : Result Channel CodecError). Ends c st from due.round h (reads c due.round from st m)) (sym due.brings) (a_dealing c st from due.round h due.public due.private due.plays due.fits)))
