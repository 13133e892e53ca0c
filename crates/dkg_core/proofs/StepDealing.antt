-- What a block leaves of a life that deals: its own dealing is given to itself, and the block before the midpoint begins inclusion.
use Rattle.std.proofs.Common.{◌≡◌, ◌≤◌, ◌<◌, ◌⊎◌, inl, inr, ℕ, Bool, true, false, cond, List, [], ◌∷◌, Option, Some, None, IsSome, refl, sym, ◌∙◌, ap, subst, arith}
use Rattle.std.specs.Prelude.{◌+◌, ◌==◌, nat_lt, length, if◌then◌else◌, is_some, Result, Ok, Err, option_and_then, option_map}
use Rattle.std.specs.Option.{option_map_or}
use Rattle.std.specs.Ordering.{is_eq}
use Rattle.std.specs.Str.{bytes_eq}
use Rattle.std.specs.FinMap.{find, put}
use Rattle.std.specs.FinMap.Entries.{find-put}
use Rattle.std.proofs.lemmas.Bool.Decides.{nat_tests}
use Rattle.std.proofs.lemmas.Cmp.{tied_itself}
use Rattle.std.proofs.lemmas.Slice.Eq.{bytes_eq-Decides}
use Rattle.dkg_values.specs.Rising.{lookup, with_pair}
use Rattle.dkg_ceremony.specs.declared.ceremony.AckError.{AckError}
use Rattle.dkg_ceremony.specs.declared.phase.Phase.TheVariants.{Early, Midpoint, Late}
use Rattle.dkg_ceremony.specs.declared.round.RoundParts.{RoundParts as Round}
use Rattle.dkg_ceremony.specs.Schedule.{epoch_of, midpoint, phase_at}
use Rattle.dkg_types.specs.Blocks.{Block}
use Rattle.dkg_infos.specs.declared.entry.Entry.TheVariants.{Offer}
use Rattle.dkg_infos.specs.declared.fault.Fault.{Fault}
use Rattle.dkg_infos.specs.declared.fault.Fault.TheVariants.{LocalState}
use Rattle.dkg_infos.specs.declared.fault.LocalCause.TheVariants.{OwnDealing}
use Rattle.dkg_secrets.specs.Keys.{key_cmp}
use Rattle.dkg_secrets.proofs.Map.{keys_total}
use Rattle.dkg_store.specs.declared.event.Event.TheVariants as events
use Rattle.dkg_core.specs.Courses.{Course, Say, Goes, Stops, bind}
use Rattle.dkg_core.specs.Fixed.{Fixed}
use Rattle.dkg_core.specs.Live.{Live, Records, Dealer, Inclusion, Request, Seat, Plays, Watches, Stage, Deals, Includes, Follows, recorded_at, phase_of, with_tip}
use Rattle.dkg_core.specs.Setup as s
use Rattle.dkg_core.specs.Dealing as d
use Rattle.dkg_core.specs.Including as i
use Rattle.dkg_core.specs.Blocks as b
use Rattle.dkg_core.specs.Endings.{ComesTo, stage_in}
use Rattle.dkg_core.specs.Forms.{IsForm, IsMine, IsLiveIn}
use Rattle.dkg_core.specs.Stepping.{with_taken, own_half, with_own_dealing, with_own_ack, given_in, given_itself, NoOwnDiffers, IsDealingStop, dealt_behind, IsSameLife}
use Rattle.dkg_core.proofs.Counting.{some_is, comes_if, comes_as, found_pair, recorded_live, taken_live, takes_ack}
use Rattle.dkg_core.proofs.Heights.{next_below}
use Rattle.dkg_core.proofs.Splitting.{comes_behind}

none_apart : {A : Type 0} (a : A) → ◌≡◌ {A = Option A} None (Some a) → ⊥
none_apart a e = cc

same_number : (n m : ℕ) → (n == m) ≡ true → n ≡ m
same_number n m e = grind (arith, nat_tests)

other_number : (n m : ℕ) → (n == m) ≡ false → n ≡ m → ⊥
other_number n m e is = grind (arith, nat_tests)

-- a dealing that was recorded is found
found_here : (records : List ((ℕ × ℕ) × (List ℕ × ℕ))) (key : ℕ × ℕ) (pair : List ℕ × ℕ) → find key_cmp key (put key_cmp key pair records) ≡ Some pair
found_here records key pair =
    find-put key_cmp keys_total key key pair records
    ∙ ap (λ (t : Bool). cond t (Some pair) (find key_cmp key records)) (ap is_eq (tied_itself keys_total key))

differs_from : (kept dealt : List ℕ) → bytes_eq kept dealt ≡ false → kept ≡ dealt → ⊥
differs_from kept dealt other is = let equal : bytes_eq kept dealt ≡ true = (bytes_eq-Decides kept dealt).1 is in cc

same_as : (kept dealt : List ℕ) → bytes_eq kept dealt ≡ true → kept ≡ dealt
same_as kept dealt equal = (bytes_eq-Decides kept dealt).0 equal

-- ITS OWN DEALING

-- a dealing of this node that is recorded where it is still to be offered is what its dealer deals
abbrev IsOwnAlike : {Dir : Type 0} → Fixed Dir → Live Dir → Round → Dealer → Type 0
IsOwnAlike c st round dealer =
    (kept : List ℕ × ℕ) → IsSome (own_half c round dealer) → st.participation.seat ≡ Plays → recorded_at st.records.dealings round.number c.me ≡ Some kept → kept.0 ≡ dealer.public

none_differs : {Dir : Type 0} (c : Fixed Dir) (st : Live Dir) (round : Round) (dealer : Dealer) → st.participation.round ≡ Some round → st.participation.dealer ≡ Some dealer → IsOwnAlike c st round dealer
    → NoOwnDiffers c st
none_differs c st round dealer of_epoch of_dealer alike epoch kept dealt other =
    let by_round : IsOwnAlike c st other.round dealer = subst (λ (r : Round). IsOwnAlike c st r dealer) (some_is round other.round (sym of_epoch ∙ other.of_epoch)) alike in
    let by_dealer : IsOwnAlike c st other.round other.dealer = subst (IsOwnAlike c st other.round) (some_is dealer other.dealer (sym of_dealer ∙ other.of_dealer)) by_round in
    other.differs (by_dealer (kept, other.private) other.unsent other.plays other.recorded ∙ sym other.is_dealt)

module _ {Dir : Type 0} (c : Fixed Dir) (st : Live Dir) (round : Round) (of_epoch : st.participation.round ≡ Some round) (dealer : Dealer) (of_dealer : st.participation.dealer ≡ Some dealer) where
  abbrev Stop : Fault → Type 0
  Stop fault = IsDealingStop c st fault

  abbrev own : List ℕ
  own = c.rules.ack_of c.me round c.me dealer.public

  abbrev check : Result (Unit {0}) AckError
  check = c.rules.check_ack_of round c.me dealer.public c.me own

  abbrev To : Live Dir → Live Dir → Type 0
  To at end = end ≡ at

  -- its own acknowledgement, in a life with this dealer
  acked : (now : Live Dir) (answer : Result (Unit {0}) AckError) → ComesTo Stop (To (with_own_ack c round dealer now answer)) (d.checked_ack round dealer c.me own now answer)
  acked now (Err e) = refl
  acked now (Ok passed) = takes_ack Stop round.number dealer c.me own now

  own_ack : (now : Live Dir) → now.participation.dealer ≡ Some dealer → ComesTo Stop (To (with_own_ack c round dealer now check)) (d.own_ack c round dealer.public now)
  own_ack now has =
      subst (λ (o : Option Dealer). ComesTo Stop (To (with_own_ack c round dealer now check))
      (option_map_or (λ its. d.checked_ack round its c.me own now (c.rules.check_ack_of round c.me its.public c.me own)) o (Goes now))) (sym has) (acked now check)

  -- .. and once more
  abbrev Again : Live Dir → Type 0
  Again at = ComesTo Stop (To at) (d.own_ack c round dealer.public at)

  by_answer : (at : Live Dir) (its : Dealer) (answer : Result (Unit {0}) AckError) → c.rules.check_ack_of round c.me its.public c.me own ≡ answer → ComesTo Stop (To at) (d.checked_ack round its c.me own at answer)
      → at.participation.dealer ≡ Some its → Again at
  by_answer at its answer is comes has =
      subst (λ (o : Option Dealer). ComesTo Stop (To at) (option_map_or (λ its. d.checked_ack round its c.me own at (c.rules.check_ack_of round c.me its.public c.me own)) o (Goes at))) (sym has)
      (subst (λ (x : Result (Unit {0}) AckError). ComesTo Stop (To at) (d.checked_ack round its c.me own at x)) (sym is) comes)

  -- one that counts isn't taken again
  counted_again : (at : Live Dir) (its : Dealer) → is_some (lookup c.me its.acks) ≡ true → ComesTo Stop (To at) (d.takes_ack round.number its c.me own at)
  counted_again at its known =
      comes_if Stop (To at) (is_some (lookup c.me its.acks)) (Goes at)
      (if is_some (recorded_at at.records.acks round.number c.me) then Goes (d.counts its c.me own at)
      else d.appends round.number (events.Ack c.me own) (Goes (d.counts its c.me own (d.with_ack round.number c.me own at))))
      (λ e. refl) (λ e. absurd (let no : ◌≡◌ {A = Bool} true false = sym known ∙ e in cc))

  again : (now : Live Dir) (answer : Result (Unit {0}) AckError) → now.participation.dealer ≡ Some dealer → check ≡ answer → Again (with_own_ack c round dealer now answer)
  again now (Err e) has is = by_answer now dealer (Err e) is refl has
  again now (Ok passed) has is = either (is_some (lookup c.me dealer.acks)) (is_some (recorded_at now.records.acks round.number c.me)) refl
    where
      behind : (at : Live Dir) → Again (d.counts dealer c.me own at)
      behind at =
          let its : Dealer = record dealer { acks = with_pair (c.me, own) dealer.acks } in
          by_answer (d.counts dealer c.me own at) its (Ok passed) is
          (counted_again (d.counts dealer c.me own at) its (ap is_some (found_pair c.me own dealer.acks))) refl

      either : (known kept : Bool) → is_some (lookup c.me dealer.acks) ≡ known
          → Again (if known then now else if kept then d.counts dealer c.me own now else d.counts dealer c.me own (d.with_ack round.number c.me own now))
      either true kept e = by_answer now dealer (Ok passed) is (counted_again now dealer e) has
      either false true e = behind now
      either false false e = behind (d.with_ack round.number c.me own now)

  acked_dealings : (now : Live Dir) (answer : Result (Unit {0}) AckError) → (with_own_ack c round dealer now answer).records.dealings ≡ now.records.dealings
  acked_dealings now (Err e) = refl
  acked_dealings now (Ok passed) = either (is_some (lookup c.me dealer.acks)) (is_some (recorded_at now.records.acks round.number c.me))
    where
      either : (known kept : Bool) → (if known then now else if kept then d.counts dealer c.me own now else d.counts dealer c.me own (d.with_ack round.number c.me own now)).records.dealings ≡ now.records.dealings
      either true kept = refl
      either false true = refl
      either false false = refl

  -- A life whose own dealing was given: it is recorded, and its acknowledgement taken.
  record IsGiven (at : Live Dir) : Type 0 where
    kept : List ℕ × ℕ
    recorded : recorded_at at.records.dealings round.number c.me ≡ Some kept
    same : kept.0 ≡ dealer.public
    once : Again at

  abbrev Settled : Live Dir → Type 0
  Settled at = (at.participation.seat ≡ Watches) ⊎ IsGiven at

  -- .. gives nothing more
  gives_no_more : (at : Live Dir) (private : ℕ) → IsGiven at → (found : Option (List ℕ × ℕ)) → recorded_at at.records.dealings round.number c.me ≡ found
      → ComesTo Stop (To at) (d.deals_to_itself_in c round dealer.public private at found)
  gives_no_more at private given None is = absurd (none_apart given.kept (sym is ∙ given.recorded))
  gives_no_more at private given (Some kept) is =
      comes_if Stop (To at) (bytes_eq kept.0 dealer.public) (d.own_ack c round dealer.public at) (Stops (LocalState (OwnDealing round.number kept.0 dealer.public)))
      (λ e. given.once)
      (λ e. absurd (differs_from kept.0 dealer.public e (ap (λ (p : List ℕ × ℕ). p.0) (some_is kept given.kept (sym is ∙ given.recorded)) ∙ given.same)))

  seated_again : (at : Live Dir) (private : ℕ) (seat : Seat) → at.participation.seat ≡ seat → Settled at → ComesTo Stop (To at) (d.offers_to_itself_in c round dealer.public private at seat)
  seated_again at private Watches is settled = refl
  seated_again at private Plays is (inl watches) = absurd (let no : ◌≡◌ {A = Seat} Plays Watches = sym is ∙ watches in cc)
  seated_again at private Plays is (inr given) = gives_no_more at private given (recorded_at at.records.dealings round.number c.me) refl

  offers_again : (at : Live Dir) → Settled at → (ps : List (ℕ × ℕ)) → ComesTo Stop (To at) (d.offers c round dealer.public ps at)
  offers_again at settled [] = refl
  offers_again at settled (p ∷ ps) =
      comes_if Stop (To at) (p.0 == c.me) (bind (d.offers_to_itself c round dealer.public p.1 at) (λ now. d.offers c round dealer.public ps now))
      (Say (Offer round.number p.0 dealer.public p.1) (d.offers c round dealer.public ps at))
      (λ e. comes_behind Stop (To at) (To at) (d.offers_to_itself c round dealer.public p.1 at) (λ now. d.offers c round dealer.public ps now) (seated_again at p.1 at.participation.seat refl settled)
      (λ now is. subst (λ (x : Live Dir). ComesTo Stop (To at) (d.offers c round dealer.public ps x)) (sym is) (offers_again at settled ps)))
      (λ e. offers_again at settled ps)

  -- GIVING IT

  module _ (unsent : IsSome (own_half c round dealer)) (plays : st.participation.seat ≡ Plays) (private : ℕ) where
    abbrev given_by : Option (List ℕ × ℕ) → Live Dir
    given_by found = with_own_ack c round dealer (with_own_dealing c round dealer.public private st found) check

    abbrev IsThere : Option (List ℕ × ℕ) → Live Dir → Type 0
    IsThere found end = (end ≡ given_by found) × IsGiven end × IsOwnAlike c st round dealer

    settled_by : (now : Live Dir) (kept : List ℕ × ℕ) → now.participation.dealer ≡ Some dealer → recorded_at now.records.dealings round.number c.me ≡ Some kept → kept.0 ≡ dealer.public
        → IsGiven (with_own_ack c round dealer now check)
    settled_by now kept has recorded same = record {
      kept = kept;
      recorded = ap (λ (ds : List ((ℕ × ℕ) × (List ℕ × ℕ))). recorded_at ds round.number c.me) (acked_dealings now check) ∙ recorded;
      same = same;
      once = again now check has refl;
    }

    gives : (found : Option (List ℕ × ℕ)) → recorded_at st.records.dealings round.number c.me ≡ found → ComesTo Stop (IsThere found) (d.deals_to_itself_in c round dealer.public private st found)
    gives (Some kept) is =
        comes_if Stop (IsThere (Some kept)) (bytes_eq kept.0 dealer.public) (d.own_ack c round dealer.public st) (Stops (LocalState (OwnDealing round.number kept.0 dealer.public)))
        (λ e. comes_as Stop Stop (To (given_by (Some kept))) (IsThere (Some kept)) (d.own_ack c round dealer.public st) (λ fault stop. stop)
        (λ end at. (
          at,
          subst IsGiven (sym at) (settled_by st kept of_dealer is (same_as kept.0 dealer.public e)),
          λ other unsent plays recorded. ap (λ (p : List ℕ × ℕ). p.0) (some_is other kept (sym recorded ∙ is)) ∙ same_as kept.0 dealer.public e,
        )) (own_ack st of_dealer))
        (λ e. record {
          round = round;
          of_epoch = of_epoch;
          of_round = refl;
          plays = plays;
          dealer = dealer;
          of_dealer = of_dealer;
          is_dealt = refl;
          unsent = unsent;
          private = kept.1;
          recorded = is;
          differs = differs_from kept.0 dealer.public e;
        })
    gives None is =
        let now : Live Dir = d.with_dealing_of round.number c.me dealer.public private st in
        comes_as Stop Stop (To (given_by None)) (IsThere None) (d.own_ack c round dealer.public now) (λ fault stop. stop)
        (λ end at. (
          at,
          subst IsGiven (sym at) (settled_by now (dealer.public, private) of_dealer (found_here st.records.dealings (round.number, c.me) (dealer.public, private)) refl),
          λ other unsent plays recorded. absurd (none_apart other (sym is ∙ recorded)),
        )) (own_ack now of_dealer)

  abbrev Left : (seat : Seat) → Option ℕ → Live Dir → Type 0
  Left seat half end = (end ≡ given_in c round dealer st seat half) × Settled end × IsOwnAlike c st round dealer

  to_itself : (seat : Seat) (private : ℕ) → st.participation.seat ≡ seat → IsSome (own_half c round dealer) → ComesTo Stop (Left seat (Some private)) (d.offers_to_itself_in c round dealer.public private st seat)
  to_itself Watches private is unsent = (refl, inl is, λ other unsent plays recorded. absurd (let no : ◌≡◌ {A = Seat} Plays Watches = sym plays ∙ is in cc))
  to_itself Plays private is unsent =
      let found = recorded_at st.records.dealings round.number c.me in
      comes_as Stop Stop (IsThere unsent is private found) (Left Plays (Some private)) (d.deals_to_itself_in c round dealer.public private st found) (λ fault stop. stop)
      (λ end there. (there.0, inr there.1, there.2)) (gives unsent is private found refl)

  nothing_given : (seat : Seat) → st ≡ given_in c round dealer st seat None
  nothing_given Plays = refl
  nothing_given Watches = refl

  abbrev Offered : Option ℕ → Live Dir → Type 0
  Offered half end = (end ≡ given_in c round dealer st st.participation.seat half) × IsOwnAlike c st round dealer

  offers : (ps : List (ℕ × ℕ)) → lookup c.me ps ≡ own_half c round dealer → ComesTo Stop (Offered (lookup c.me ps)) (d.offers c round dealer.public ps st)
  offers [] half = (nothing_given st.participation.seat, λ other unsent plays recorded. absurd (let no : ◌≡◌ {A = Bool} false true = subst IsSome (sym half) unsent in cc))
  offers (p ∷ ps) half = either (p.0 == c.me) refl half (offers ps)
    where
      has_half : (private : ℕ) (o : Option ℕ) → Some private ≡ o → IsSome o
      has_half private o is = subst IsSome is refl

      either : (t : Bool) → (p.0 == c.me) ≡ t → (if t then Some p.1 else lookup c.me ps) ≡ own_half c round dealer
          → (lookup c.me ps ≡ own_half c round dealer → ComesTo Stop (Offered (lookup c.me ps)) (d.offers c round dealer.public ps st)) → ComesTo Stop (Offered (if t then Some p.1 else lookup c.me ps))
          (if t then bind (d.offers_to_itself c round dealer.public p.1 st) (λ now. d.offers c round dealer.public ps now) else Say (Offer round.number p.0 dealer.public p.1) (d.offers c round dealer.public ps st))
      either true e its more =
          comes_behind Stop (Left st.participation.seat (Some p.1)) (Offered (Some p.1)) (d.offers_to_itself c round dealer.public p.1 st)
          (λ now. d.offers c round dealer.public ps now) (to_itself st.participation.seat p.1 refl (has_half p.1 (own_half c round dealer) its))
          (λ now left. comes_as Stop Stop (To now) (Offered (Some p.1)) (d.offers c round dealer.public ps now) (λ fault stop. stop) (λ end at. (at ∙ left.0, left.2)) (offers_again now left.1 ps))
      either false e its more = more its

-- WHATEVER THE LIFE HAS

module _ {Dir : Type 0} (c : Fixed Dir) (st : Live Dir) where
  abbrev given_of : Option Round → Option Dealer → Live Dir
  given_of found its = option_map_or (λ round. option_map_or (λ dealer. given_in c round dealer st st.participation.seat (own_half c round dealer)) its st) found st

  deals_by : (found : Option Round) (its : Option Dealer) → st.participation.round ≡ found → st.participation.dealer ≡ its
      → ComesTo (IsDealingStop c st) (λ end. (end ≡ given_of found its) × NoOwnDiffers c st) (option_map_or (λ round. option_map_or (λ dealer. d.offers c round dealer.public (s.unsent_of_round round dealer) st) its (Goes st)) found (Goes st))
  deals_by None its of_epoch of_dealer = (refl, λ epoch kept dealt other. none_apart other.round (sym of_epoch ∙ other.of_epoch))
  deals_by (Some round) None of_epoch of_dealer = (refl, λ epoch kept dealt other. none_apart other.dealer (sym of_dealer ∙ other.of_dealer))
  deals_by (Some round) (Some dealer) of_epoch of_dealer =
      comes_as (IsDealingStop c st) (IsDealingStop c st) (Offered c st round of_epoch dealer of_dealer (own_half c round dealer)) (λ end. (end ≡ given_of (Some round) (Some dealer)) × NoOwnDiffers c st)
      (d.offers c round dealer.public (s.unsent_of_round round dealer) st) (λ fault stop. stop) (λ end its. (its.0, none_differs c st round dealer of_epoch of_dealer its.1))
      (offers c st round of_epoch dealer of_dealer (s.unsent_of_round round dealer) refl)

  -- What it leaves is given to itself, and none that is recorded of it is another.
  pub deals_alike : ComesTo (IsDealingStop c st) (λ end. (end ≡ given_itself c st) × NoOwnDiffers c st) (d.deals c st)
  deals_alike = deals_by st.participation.round st.participation.dealer refl refl

  pub deals : ComesTo (IsDealingStop c st) (λ end. end ≡ given_itself c st) (d.deals c st)
  deals = comes_as (IsDealingStop c st) (IsDealingStop c st) (λ end. (end ≡ given_itself c st) × NoOwnDiffers c st) (λ end. end ≡ given_itself c st) (d.deals c st) (λ fault stop. stop) (λ end its. its.0) deals_alike

  -- Nothing changes but what is recorded of dealings and acknowledgements, and the dealer: this life goes on so.
  pub record IsSameBut (end : Live Dir) : Type 0 where
    pub same : IsSameLife st end
    pub stage : end.participation.stage ≡ st.participation.stage
    pub inclusion : end.inclusion ≡ st.inclusion
    pub tip : end.tip ≡ st.tip

  pub unchanged : IsSameBut st
  unchanged = record { same = record { epoch = refl; round = refl; seat = refl; current = refl; logs = refl; orchestrator = refl; probe = refl }; stage = refl; inclusion = refl; tip = refl }

  -- a life with such a dealer and such records
  made_same : (its : Option Dealer) (records : Records) → records.logs ≡ st.records.logs → IsSameBut (record st { participation = record st.participation { dealer = its }; records = records })
  made_same its records logs = record { same = record { epoch = refl; round = refl; seat = refl; current = refl; logs = logs; orchestrator = refl; probe = refl }; stage = refl; inclusion = refl; tip = refl }

  pub taken_same : (epoch : ℕ) (dealer : Dealer) (player : ℕ) (ack : List ℕ) (records : Records) → records.logs ≡ st.records.logs → IsSameBut (with_taken epoch dealer player ack (record st { records = records }))
  taken_same epoch dealer player ack records logs = either (is_some (lookup player dealer.acks)) (is_some (recorded_at records.acks epoch player))
    where
      either : (known kept : Bool)
          → IsSameBut (if known then record st { records = records } else if kept then d.counts dealer player ack (record st { records = records }) else d.counts dealer player ack (d.with_ack epoch player ack (record st { records = records })))
      either true kept = made_same st.participation.dealer records logs
      either false true = made_same (Some (record dealer { acks = with_pair (player, ack) dealer.acks })) records logs
      either false false = made_same (Some (record dealer { acks = with_pair (player, ack) dealer.acks })) (d.with_ack epoch player ack (record st { records = records })).records logs

  by_check : (round : Round) (dealer : Dealer) (records : Records) → records.logs ≡ st.records.logs → (answer : Result (Unit {0}) AckError) → IsSameBut (with_own_ack c round dealer (record st { records = records }) answer)
  by_check round dealer records logs (Err e) = made_same st.participation.dealer records logs
  by_check round dealer records logs (Ok passed) = taken_same round.number dealer c.me (c.rules.ack_of c.me round c.me dealer.public) records logs

  by_record : (round : Round) (dealer : Dealer) (private : ℕ) (found : Option (List ℕ × ℕ))
      → IsSameBut (with_own_ack c round dealer (with_own_dealing c round dealer.public private st found) (c.rules.check_ack_of round c.me dealer.public c.me (c.rules.ack_of c.me round c.me dealer.public)))
  by_record round dealer private (Some kept) = by_check round dealer st.records refl (c.rules.check_ack_of round c.me dealer.public c.me (c.rules.ack_of c.me round c.me dealer.public))
  by_record round dealer private None =
      by_check round dealer (d.with_dealing_of round.number c.me dealer.public private st).records refl (c.rules.check_ack_of round c.me dealer.public c.me (c.rules.ack_of c.me round c.me dealer.public))

  by_seat : (round : Round) (dealer : Dealer) (seat : Seat) (half : Option ℕ) → IsSameBut (given_in c round dealer st seat half)
  by_seat round dealer Plays (Some private) = by_record round dealer private (recorded_at st.records.dealings round.number c.me)
  by_seat round dealer Plays None = unchanged
  by_seat round dealer Watches half = unchanged

  same_of : (found : Option Round) (its : Option Dealer) → IsSameBut (given_of found its)
  same_of None its = unchanged
  same_of (Some round) None = unchanged
  same_of (Some round) (Some dealer) = by_seat round dealer st.participation.seat (own_half c round dealer)

  pub given_same : IsSameBut (given_itself c st)
  given_same = same_of st.participation.round st.participation.dealer

  -- .. and it is of the form
  module _ (live : IsLiveIn c st) where
    module _ (round : Round) (of_epoch : st.participation.round ≡ Some round) (dealer : Dealer) (of_dealer : st.participation.dealer ≡ Some dealer) where
      abbrev ack : List ℕ
      ack = c.rules.ack_of c.me round c.me dealer.public

      live_by_check : (records : Records) (answer : Result (Unit {0}) AckError) → c.rules.check_ack_of round c.me dealer.public c.me ack ≡ answer
          → IsLiveIn c (with_own_ack c round dealer (record st { records = records }) answer)
      live_by_check records (Err e) is = recorded_live c st records live
      live_by_check records (Ok passed) is = taken_live c round dealer c.me ack is round.number (record st { records = records }) of_epoch of_dealer (recorded_live c st records live)

      live_by_record : (private : ℕ) (found : Option (List ℕ × ℕ)) → IsLiveIn c (with_own_ack c round dealer (with_own_dealing c round dealer.public private st found) (c.rules.check_ack_of round c.me dealer.public c.me ack))
      live_by_record private (Some kept) = live_by_check st.records (c.rules.check_ack_of round c.me dealer.public c.me ack) refl
      live_by_record private None = live_by_check (d.with_dealing_of round.number c.me dealer.public private st).records (c.rules.check_ack_of round c.me dealer.public c.me ack) refl

      live_by_seat : (seat : Seat) (half : Option ℕ) → IsLiveIn c (given_in c round dealer st seat half)
      live_by_seat Plays (Some private) = live_by_record private (recorded_at st.records.dealings round.number c.me)
      live_by_seat Plays None = live
      live_by_seat Watches half = live

    live_of : (found : Option Round) (its : Option Dealer) → st.participation.round ≡ found → st.participation.dealer ≡ its → IsLiveIn c (given_of found its)
    live_of None its of_epoch of_dealer = live
    live_of (Some round) None of_epoch of_dealer = live
    live_of (Some round) (Some dealer) of_epoch of_dealer = live_by_seat round of_epoch dealer of_dealer st.participation.seat (own_half c round dealer)

    pub given_live : IsLiveIn c (given_itself c st)
    given_live = live_of st.participation.round st.participation.dealer refl refl

-- STAGES

stage_early : (middle height : ℕ) → height < middle → stage_in (phase_at middle height) ≡ Deals
stage_early middle height low =
    let is : nat_lt height middle ≡ true = grind (arith, nat_tests, low) in
    ap (λ (t : Bool). stage_in (if t then Early else (if height == middle then Midpoint else Late))) is

pub stage_later : (middle height : ℕ) → middle ≤ height → stage_in (phase_at middle height) ≡ Includes
stage_later middle height high =
    let is : nat_lt height middle ≡ false = grind (arith, nat_tests, high) in
    ap (λ (t : Bool). stage_in (if t then Early else (if height == middle then Midpoint else Late))) is ∙ either (height == middle)
  where
    either : (t : Bool) → stage_in (if t then Midpoint else Late) ≡ Includes
    either true = refl
    either false = refl

strictly : (k m : ℕ) → k < m → (k + 1 == m) ≡ false → k + 1 < m
strictly k m low e = grind (arith, nat_tests, low)

reached : (k m : ℕ) → (k + 1 == m) ≡ true → m ≤ k + 1
reached k m e = grind (arith, nat_tests)

deals_apart : ◌≡◌ {A = Stage} Deals Follows → ⊥
deals_apart e = cc

includes_apart : ◌≡◌ {A = Stage} Includes Deals → ⊥
includes_apart e = cc

-- A BLOCK OF THE AWAITED EPOCH, below its midpoint

module _ {Dir : Type 0} (c : Fixed Dir) (form : IsForm c) (block : Block Dir) where
  module _ (at : Live Dir) (live : IsLiveIn c at) (deals : at.participation.stage ≡ Deals) (here : at.participation.epoch ≡ epoch_of c.blocks_per_epoch block.height)
      (low : block.height < midpoint c.blocks_per_epoch (epoch_of c.blocks_per_epoch block.height)) where
    next : epoch_of c.blocks_per_epoch (block.height + 1) ≡ at.participation.epoch
    next = next_below c.blocks_per_epoch (epoch_of c.blocks_per_epoch block.height) block.height form.counted refl low ∙ sym here

    under : block.height < midpoint c.blocks_per_epoch at.participation.epoch
    under = subst (λ (epoch : ℕ). block.height < midpoint c.blocks_per_epoch epoch) (sym here) low

    -- the phase of the next height
    phase : stage_in (phase_of c (block.height + 1)) ≡ stage_in (phase_at (midpoint c.blocks_per_epoch at.participation.epoch) (block.height + 1))
    phase = ap (λ (epoch : ℕ). stage_in (phase_at (midpoint c.blocks_per_epoch epoch) (block.height + 1))) next

    not_without : at.participation.round ≡ None → ⊥
    not_without none = deals_apart (sym deals ∙ (live.without none).0)

    pub goes_on : (block.height + 1 == midpoint c.blocks_per_epoch at.participation.epoch) ≡ false → IsLiveIn c (with_tip block at)
    goes_on e = record {
      awaits = λ apart. sym next;
      in_round = λ round is. deals ∙ sym (phase ∙ stage_early (midpoint c.blocks_per_epoch at.participation.epoch) (block.height + 1) (strictly block.height (midpoint c.blocks_per_epoch at.participation.epoch) under e));
      without = live.without;
      mine = live.mine;
      numbered = live.numbered;
      idle = live.idle;
    }

    -- the dealer's log is signed
    signed_mine : (found : Option Round) (its : Option Dealer) → at.participation.round ≡ found → at.participation.dealer ≡ its → (dealer : Dealer)
        → option_and_then (λ round. option_map (s.signed c round) its) found ≡ Some dealer → (round : Round) × (at.participation.round ≡ Some round) × IsMine c round Includes dealer
    signed_mine None its of_epoch of_dealer dealer e = absurd (none_apart dealer e)
    signed_mine (Some round) None of_epoch of_dealer dealer e = absurd (none_apart dealer e)
    signed_mine (Some round) (Some before) of_epoch of_dealer dealer e =
        let had = live.mine before of_dealer in
        let mine : IsMine c round at.participation.stage before = subst (λ (r : Round). IsMine c r at.participation.stage before) (some_is had.0 round (sym had.1 ∙ of_epoch)) had.2 in
        subst (λ (x : Dealer). (r : Round) × (at.participation.round ≡ Some r) × IsMine c r Includes x) (some_is (s.signed c round before) dealer e) (
          round,
          of_epoch,
          record { member = mine.member; share = mine.share; seed = mine.seed; dealt = mine.dealt; passed = mine.passed; unsigned = λ deals. absurd (includes_apart deals) },
        )

    pub begins : (block.height + 1 == midpoint c.blocks_per_epoch at.participation.epoch) ≡ true → IsLiveIn c (s.begins_inclusion c (with_tip block at))
    begins e = record {
      awaits = λ apart. sym next;
      in_round = λ round is. sym (phase ∙ stage_later (midpoint c.blocks_per_epoch at.participation.epoch) (block.height + 1) (reached block.height (midpoint c.blocks_per_epoch at.participation.epoch) e));
      without = λ none. absurd (not_without none);
      mine = λ dealer is. signed_mine at.participation.round at.participation.dealer refl refl dealer is;
      numbered = live.numbered;
      idle = ap (λ (x : Inclusion Dir). record x { served = None }) live.idle;
    }

    abbrev Behind : Live Dir → Type 0
    Behind end = IsLiveIn c end × (end ≡ dealt_behind c block at)

    -- what was queued is read: nothing
    unread : i.advanced c (s.begins_inclusion c (with_tip block at)) ≡ Goes (s.begins_inclusion c (with_tip block at))
    unread = ap (λ (queue : List (Request Dir)). i.advances c (length queue) (s.begins_inclusion c (with_tip block at))) (ap (λ (x : Inclusion Dir). x.queue) live.idle)

    ends : (stops : Fault → Type 0)
        → ComesTo stops Behind (if block.height + 1 == midpoint c.blocks_per_epoch at.participation.epoch then i.advanced c (s.begins_inclusion c (with_tip block at)) else Goes (with_tip block at))
    ends stops = either (block.height + 1 == midpoint c.blocks_per_epoch at.participation.epoch) refl
      where
        either : (t : Bool) → (block.height + 1 == midpoint c.blocks_per_epoch at.participation.epoch) ≡ t
            → ComesTo stops (λ end. IsLiveIn c end × (end ≡ (if t then s.begins_inclusion c (with_tip block at) else with_tip block at))) (if t then i.advanced c (s.begins_inclusion c (with_tip block at)) else Goes (with_tip block at))
        either true e =
            subst (λ (course : Course Dir Fault (Live Dir)). ComesTo stops (λ end. IsLiveIn c end × (end ≡ s.begins_inclusion c (with_tip block at))) course) (sym unread) (begins e, refl)
        either false e = (goes_on e, refl)

  pub dealing_comes : (st : Live Dir) → IsLiveIn c st → st.participation.stage ≡ Deals → st.participation.epoch ≡ epoch_of c.blocks_per_epoch block.height
      → block.height < midpoint c.blocks_per_epoch (epoch_of c.blocks_per_epoch block.height)
      → ComesTo (IsDealingStop c st) (λ end. IsLiveIn c end × (end ≡ dealt_behind c block (given_itself c st)) × NoOwnDiffers c st) (b.deals_at c block st)
  dealing_comes st live is here low =
      let mid = given_itself c st in
      let same = given_same c st in
      let next : Live Dir → Course Dir Fault (Live Dir) = λ now. if block.height + 1 == midpoint c.blocks_per_epoch now.participation.epoch then i.advanced c (s.begins_inclusion c (with_tip block now)) else Goes (with_tip block now) in
      let Behind_it : Live Dir → Type 0 = λ end. IsLiveIn c end × (end ≡ dealt_behind c block mid) in
      let Behind_so : Live Dir → Type 0 = λ end. IsLiveIn c end × (end ≡ dealt_behind c block mid) × NoOwnDiffers c st in
      comes_behind (IsDealingStop c st) (λ end. (end ≡ mid) × NoOwnDiffers c st) Behind_so (d.deals c st) next (deals_alike c st)
      (λ now at. subst (λ (x : Live Dir). ComesTo (IsDealingStop c st) Behind_so (next x)) (sym at.0)
      (comes_as (IsDealingStop c st) (IsDealingStop c st) Behind_it Behind_so (next mid) (λ fault stop. stop) (λ end its. (its.0, its.1, at.1))
      (ends mid (given_live c st live) (same.stage ∙ is) (same.same.epoch ∙ here) low (IsDealingStop c st))))
