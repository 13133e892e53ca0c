-- What a life has recorded of dealings behind its own one: what it had, and that.
use Rattle.std.proofs.Common.{◌≡◌, ◌⊎◌, inl, inr, ℕ, ◌==◌, Bool, true, false, List, [], ◌∷◌, Option, Some, None, refl, sym, ◌∙◌, ap, subst}
use Rattle.std.specs.Prelude.{is_some, Result, Ok, Err, if◌then◌else◌}
use Rattle.std.specs.FinMap as maps
use Rattle.std.specs.FinMap.{entries-insert, get, put}
use Rattle.std.specs.List.{AllByRecursion}
use Rattle.std.specs.Option.{option_map_or}
use Rattle.std.proofs.lemmas.Bool.{eqb-true}
use Rattle.dkg_values.specs.Rising.{lookup}
use Rattle.dkg_ceremony.specs.declared.ceremony.AckError.{AckError}
use Rattle.dkg_ceremony.specs.declared.round.RoundParts.{RoundParts as Round}
use Rattle.dkg_secrets.specs.Keys.{key_cmp}
use Rattle.dkg_secrets.proofs.Map.{keys_total}
use Rattle.dkg_store.specs.Pairs.{Pairs}
use Rattle.dkg_core.specs.Dealing.{counts, with_ack}
use Rattle.dkg_core.specs.Fixed.{Fixed}
use Rattle.dkg_core.specs.Live.{Dealer, Live, Plays, Seat, Watches, recorded_at}
use Rattle.dkg_core.specs.Setup.{unsent_of_round}
use Rattle.dkg_core.specs.Stepping.{given_in, given_itself, own_half, with_own_ack, with_own_dealing}
use Rattle.dkg_core.proofs.Unsent.{are_unsent}
use Rattle.dkg_lives.proofs.NoOthers.{IsOwnDealt, fine_of, inserted}

none_some : {A : Type 0} {x : A} → ◌≡◌ {A = Option A} None (Some x) → ⊥
none_some e = cc

some_is : {A : Type 0} {x y : A} → ◌≡◌ {A = Option A} (Some x) (Some y) → x ≡ y
some_is e = cc

of_key : (P : ℕ → Type 0) (key : ℕ) (ps : List (ℕ × ℕ)) (x : ℕ) → AllByRecursion (λ (p : ℕ × ℕ). p.0 ≡ key → P p.1) ps → lookup key ps ≡ Some x → P x
of_key P key [] x all is = absurd (none_some is)
of_key P key (p ∷ ps) x all is = by_test (p.0 == key) refl is (of_key P key ps x all.1)
  where
    by_test : (t : Bool) → (p.0 == key) ≡ t → (if t then Some p.1 else lookup key ps) ≡ Some x → (lookup key ps ≡ Some x → P x) → P x
    by_test true e its rest = subst P (some_is its) (all.0 (eqb-true p.0 key e))
    by_test false e its rest = rest its

module _ {Dir : Type 0} (c : Fixed Dir) (st : Live Dir) (pairs : Pairs) (same : st.records.dealings ≡ maps.entries pairs) where
  -- These dealings are recorded, and none else but what it deals to itself.
  pub record IsGiven (end : Live Dir) : Type 0 where
    pub now : Pairs
    pub recorded : end.records.dealings ≡ maps.entries now
    pub each : (key : ℕ × ℕ) (pair : List ℕ × ℕ) → get now key ≡ Some pair → (get pairs key ≡ Some pair) ⊎ IsOwnDealt c st key pair

  as_it_was : IsGiven st
  as_it_was = record { now = pairs; recorded = same; each = λ key pair got. inl got }

  module _ (round : Round) (of_epoch : st.participation.round ≡ Some round) (dealer : Dealer) (of_dealer : st.participation.dealer ≡ Some dealer) where
    abbrev ack : List ℕ
    ack = c.rules.ack_of c.me round c.me dealer.public

    acked : (now : Live Dir) (answer : Result (Unit {0}) AckError) → (with_own_ack c round dealer now answer).records.dealings ≡ now.records.dealings
    acked now (Err e) = refl
    acked now (Ok passed) = by_tests (is_some (lookup c.me dealer.acks)) (is_some (recorded_at now.records.acks round.number c.me))
      where
        by_tests : (one two : Bool) → (if one then now else if two then counts dealer c.me ack now else counts dealer c.me ack (with_ack round.number c.me ack now)).records.dealings ≡ now.records.dealings
        by_tests true two = refl
        by_tests false true = refl
        by_tests false false = refl

    own : (private : ℕ) → own_half c round dealer ≡ Some private → IsOwnDealt c st (round.number, c.me) (dealer.public, private)
    own private half =
        of_key (λ x. IsOwnDealt c st (round.number, c.me) (dealer.public, x)) c.me (unsent_of_round round dealer) private
        (fine_of c st round dealer of_epoch of_dealer (unsent_of_round round dealer) (are_unsent dealer.acks dealer.privates round.players)) half

    by_record : (private : ℕ) → own_half c round dealer ≡ Some private → (found : Option (List ℕ × ℕ)) (answer : Result (Unit {0}) AckError)
        → IsGiven (with_own_ack c round dealer (with_own_dealing c round dealer.public private st found) answer)
    by_record private half (Some kept) answer = record { now = pairs; recorded = acked st answer ∙ same; each = λ key pair got. inl got }
    by_record private half None answer = record {
      now = maps.insert pairs (round.number, c.me) (dealer.public, private);
      recorded = acked (with_own_dealing c round dealer.public private st None) answer
          ∙ ap (put key_cmp (round.number, c.me) (dealer.public, private)) same ∙ sym (entries-insert keys_total pairs (round.number, c.me) (dealer.public, private));
      each = λ key pair got. elim (inserted pairs (round.number, c.me) (dealer.public, private) key pair got) [
        | inl is ↦ inr (as_one key pair (sym is.0) is.1)
        | inr was ↦ inl was
      ];
    }
      where
        as_one : (key : ℕ × ℕ) (pair : List ℕ × ℕ) → (round.number, c.me) ≡ key → (dealer.public, private) ≡ pair → IsOwnDealt c st key pair
        as_one key pair at is = subst (λ (k : ℕ × ℕ). IsOwnDealt c st k pair) at (subst (λ (p : List ℕ × ℕ). IsOwnDealt c st (round.number, c.me) p) is (own private half))

    by_seat : (seat : Seat) (half : Option ℕ) → own_half c round dealer ≡ half → IsGiven (given_in c round dealer st seat half)
    by_seat Plays (Some private) is =
        by_record private is (recorded_at st.records.dealings round.number c.me) (c.rules.check_ack_of round c.me dealer.public c.me ack)
    by_seat Plays None is = as_it_was
    by_seat Watches half is = as_it_was

  pub given : IsGiven (given_itself c st)
  given = by_round st.participation.round refl
    where
      by_dealer : (round : Round) → st.participation.round ≡ Some round → (o : Option Dealer) → st.participation.dealer ≡ o
          → IsGiven (option_map_or (λ dealer. given_in c round dealer st st.participation.seat (own_half c round dealer)) o st)
      by_dealer round of_epoch None is = as_it_was
      by_dealer round of_epoch (Some dealer) is = by_seat round of_epoch dealer is st.participation.seat (own_half c round dealer) refl

      by_round : (o : Option Round) → st.participation.round ≡ o
          → IsGiven (option_map_or (λ round. option_map_or (λ dealer. given_in c round dealer st st.participation.seat (own_half c round dealer)) st.participation.dealer st) o st)
      by_round None is = as_it_was
      by_round (Some round) is = by_dealer round is st.participation.dealer refl
