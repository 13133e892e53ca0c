-- A dealer's own dealing: its player's acts, and then its dealer's, are the relation's.
use Rattle.std.proofs.Common.{◌≡◌, ◌≤◌, ℕ, Bool, true, false, List, length, Option, Some, None, Result, Ok, Err, refl, sym, ◌∙◌, ap, subst, ◌⊎◌, inl, inr, arith}
use Rattle.std.specs.Prelude.{Contains, IfOk, IfSome, IsSomeAnd, option_map, if◌then◌else◌}
use Rattle.std.specs.Int.NonZero.{non_zero_u32_get}
use Rattle.std.specs.FinMap.{get, get-entries}
use Rattle.std.specs.Option.{option_map_or}
use Rattle.std.specs.Str.{bytes_eq}
use Rattle.std.proofs.lemmas.Slice.Eq.{bytes_eq-Decides}
use Rattle.dkg_values.specs.Rising.{lookup}
use Rattle.dkg_ceremony.specs.declared.ceremony.DealingError.{DealingError}
use Rattle.dkg_ceremony.specs.declared.deal.DealError.{DealError}
use Rattle.dkg_ceremony.specs.declared.round.RoundParts.{RoundParts as Round}
use Rattle.dkg_fence.specs.Readiness.{Readiness}
use Rattle.dkg_journal.specs.Names.{Files}
use Rattle.dkg_infos.specs.declared.entry.Entry.{Entry}
use Rattle.dkg_infos.specs.declared.fault.Fault.{Fault}
use Rattle.dkg_infos.specs.declared.fault.Fault.TheVariants.{LocalState, NoMemory}
use Rattle.dkg_infos.specs.declared.fault.LocalCause.TheVariants.{OwnDealing}
use Rattle.dkg_store.specs.Acts as acts_of
use Rattle.dkg_store.specs.Acts.{Acts, Ended, Moment, went}
use Rattle.dkg_store.specs.Dealer.{IsDealerOf}
use Rattle.dkg_store.specs.Rest.{SameRest}
use Rattle.dkg_store.specs.declared.dealer.Dealer.{Dealer}
use Rattle.dkg_store.specs.declared.player.Player.{Player}
use Rattle.dkg_store.specs.declared.store.Store.{Store}
use Rattle.dkg_core.specs.Courses as courses
use Rattle.dkg_core.specs.Courses.{Course, on_devices}
use Rattle.dkg_core.specs.Dealing as dealing
use Rattle.dkg_core.specs.Fixed.{Fixed}
use Rattle.dkg_core.specs.Live as live
use Rattle.dkg_core.specs.Live.{Live, recorded_at}
use Rattle.dkg_core.specs.Said.{Said, SaysAll}
use Rattle.dkg_life.specs.declared.config.Terms.{Terms}
use Rattle.dkg_life.specs.declared.life.Life.{Life}
use Rattle.dkg_life.specs.declared.stop.Stop.{Stop}
use Rattle.dkg_life.specs.declared.stop.Stop.TheVariants.{Fault as Faulted}
use Rattle.dkg_life.specs.Ends.{IsCaused, by_stop}
use Rattle.dkg_life.specs.Given.{IsOf}
use Rattle.dkg_life.specs.Heard.{player_answers, pairs_after, round_dealt}
use Rattle.dkg_life.specs.LiveOf.{Beside, DealsIn, IsDealing, PlayerSits, IsRoundWithin, Sits, SitsAt, dealer_of, live_of, seat_of}
use Rattle.dkg_life.specs.Made.{MakesAt, Speaks}
use Rattle.dkg_life.specs.Rules.{AckOf, AnswersBy, CheckAckOf, DealOf, DealingOf}
use Rattle.dkg_life.proofs.Burning.{makes_early, makes_next}
use Rattle.dkg_life.proofs.Dealt.{deals_round, dealt_number}
use Rattle.dkg_dealing.proofs.Hearing.{heard, heard_live}
use Rattle.dkg_life.proofs.Said.{said_early, said_next}
use Rattle.dkg_life.proofs.Seated.{at_some, round_is, same_some, sits_at}
use Rattle.dkg_life.proofs.Speaking.{gives_speaks, wants_speaks}

-- WHAT A DEALER DEALS

module _ (deal_of : DealOf) (check_ack_of : CheckAckOf) (dealer : Dealer) (is : IsDealerOf deal_of check_ack_of dealer) where
  -- It passes its player's check, ..
  pub own_passes : (dealing_of : DealingOf)
      → ((round : Round) (signer : ℕ) (share : Option ℕ) (seed : List ℕ) → Contains round.dealers signer
      → IfOk (deal_of round signer share seed) (λ dealt. (me : ℕ) → Contains round.players me → IsSomeAnd (lookup me dealt.1) (λ private. dealing_of round me signer dealt.0 private ≡ Ok tt)))
      → (player private : ℕ) → Contains dealer.round.players player → lookup player dealer.privates ≡ Some private
      → dealing_of dealer.round player dealer.me dealer.public private ≡ Ok tt
  own_passes dealing_of pass player private plays half =
      let all : IfOk (deal_of dealer.round dealer.me is.share is.seed) (λ dealt. (me : ℕ) → Contains dealer.round.players me → IsSomeAnd (lookup me dealt.1) (λ p. dealing_of dealer.round me dealer.me dealt.0 p ≡ Ok tt))
      = pass dealer.round dealer.me is.share is.seed is.among in
      let P : Result (List ℕ × List (ℕ × ℕ)) DealError → Type 0
      = λ r. IfOk r (λ dealt. (me : ℕ) → Contains dealer.round.players me → IsSomeAnd (lookup me dealt.1) (λ p. dealing_of dealer.round me dealer.me dealt.0 p ≡ Ok tt)) in
      let its : IsSomeAnd (lookup player dealer.privates) (λ p. dealing_of dealer.round player dealer.me dealer.public p ≡ Ok tt) = (subst P is.dealt all) player plays in
      let Q : Option ℕ → Type 0 = λ o. IsSomeAnd o (λ p. dealing_of dealer.round player dealer.me dealer.public p ≡ Ok tt) in
      subst Q half its

  -- .. and is no longer than the round has players.
  pub own_short : ((round : Round) (signer : ℕ) (share : Option ℕ) (seed : List ℕ)
      → IfOk (deal_of round signer share seed) (λ dealt. (n : ℕ) → 1 ≤ n → length round.players ≤ n → length dealt.0 ≤ n))
      → (n : ℕ) → 1 ≤ n → length dealer.round.players ≤ n → length dealer.public ≤ n
  own_short short n some within =
      let P : Result (List ℕ × List (ℕ × ℕ)) DealError → Type 0 = λ r. IfOk r (λ dealt. (k : ℕ) → 1 ≤ k → length dealer.round.players ≤ k → length dealt.0 ≤ k) in
      (subst P is.dealt (short dealer.round dealer.me is.share is.seed)) n some within

-- ANOTHER ONE IS RECORDED

pub same_bytes : (kept dealt : List ℕ) → kept ≡ dealt → bytes_eq kept dealt ≡ true
same_bytes kept dealt is = (bytes_eq-Decides kept dealt).1 is

other_bytes : (kept dealt : List ℕ) → (kept ≡ dealt → ⊥) → bytes_eq kept dealt ≡ false
other_bytes kept dealt differs = by_test (bytes_eq kept dealt) refl
  where
    by_test : (b : Bool) → bytes_eq kept dealt ≡ b → b ≡ false
    by_test true is = absurd (differs ((bytes_eq-Decides kept dealt).0 is))
    by_test false is = refl

module _ {Dir : Type 0} (c : Fixed Dir) (round : Round) (public : List ℕ) (private : ℕ) (st : Live Dir) where
  pub own_stops : (kept : List ℕ × ℕ) → (kept.0 ≡ public → ⊥)
      → dealing.deals_to_itself_in c round public private st (Some kept) ≡ courses.Stops (LocalState (OwnDealing round.number kept.0 public))
  own_stops kept differs =
      ap (λ (b : Bool). if b then dealing.own_ack c round public st else courses.Stops (LocalState (OwnDealing round.number kept.0 public))) (other_bytes kept.0 public differs)

-- THE PLAYER AND THEN THE DEALER

module _ {Dir : Type 0} (c : Fixed Dir) (round : Round) (public : List ℕ) (private : ℕ) (st : Live Dir) where
  abbrev next_of : Option (List ℕ × ℕ) → Result (Unit {0}) DealingError → Result (List ℕ) DealingError → Acts Fault (Live Dir)
  next_of known check answer = on_devices (dealing.own_ack c round public (heard c round c.me public private st known check))

  own_as : (known : Option (List ℕ × ℕ)) (check : Result (Unit {0}) DealingError) → IfSome known (λ kept. kept.0 ≡ public) → check ≡ Ok tt
      → on_devices (dealing.deals_to_itself_in c round public private st known)
      ≡ acts_of.bind (player_answers (λ r me d p q. check) c.rules.ack_of c.me round known round.number c.me public private) (next_of known check)
  own_as (Some kept) check same passed =
      ap (λ (b : Bool). on_devices (if b then dealing.own_ack c round public st else courses.Stops (LocalState (OwnDealing round.number kept.0 public)))) (same_bytes kept.0 public same)
  own_as None (Ok passed) same is = refl
  own_as None (Err e) same is = absurd cc

-- what the player answered is the acknowledgement of this dealing
pub own_answer : (dealing_of : DealingOf) (ack_of : AckOf) (me : ℕ) (round : Round) (known : Option (List ℕ × ℕ)) (epoch from : ℕ) (public : List ℕ) (private : ℕ) (answer : Result (List ℕ) DealingError) {out now : List Entry}
    → Said (player_answers dealing_of ack_of me round known epoch from public private) (went answer) out now
    → IfSome known (λ kept. kept.0 ≡ public) → dealing_of round me from public private ≡ Ok tt → answer ≡ Ok (ack_of me round from public)
own_answer dealing_of ack_of me round known epoch from public private answer said same passed = by_known known (dealing_of round me from public private) same passed said.lines said.by
  where
    by_known : (k : Option (List ℕ × ℕ)) (check : Result (Unit {0}) DealingError) → IfSome k (λ kept. kept.0 ≡ public) → check ≡ Ok tt → (lines : List Entry)
        → SaysAll (player_answers (λ r me d p q. check) ack_of me round k epoch from public private) answer lines → answer ≡ Ok (ack_of me round from public)
    by_known (Some kept) check is ok lines says = says.1 ∙ ap (λ (p : List ℕ). Ok (ack_of me round from p)) is
    by_known None (Ok done) is ok lines says = says.2.1
    by_known None (Err e) is ok lines says = absurd cc

module _ {Dir : Type 0} (c : Fixed Dir) (round : Round) (public : List ℕ) (private : ℕ) (beside : Beside Dir) (fence : Readiness) (old : Life Dir)
    (dealing_of : DealingOf) (ack_of : AckOf) (check_ack_of : CheckAckOf) (player : Player) (dealer : Dealer) (me epoch : ℕ)
    (d : c.rules.dealing_of ≡ dealing_of) (a : c.rules.ack_of ≡ ack_of) (k : c.rules.check_ack_of ≡ check_ack_of)
    (its_me : c.me ≡ me) (m : player.me ≡ me) (r : round ≡ player.round) (n : dealer.me ≡ me) (s : round ≡ dealer.round) (e : round.number ≡ epoch)
    (plays : old.player ≡ Some player) (deals : old.dealer ≡ Some dealer)
    (same : IfSome (get old.store.dealings (epoch, me)) (λ kept. kept.0 ≡ public)) (passed : dealing_of player.round player.me me public private ≡ Ok tt)
  where
    abbrev st : Live Dir
    st = live_of beside fence old

    abbrev known : Option (List ℕ × ℕ)
    known = get old.store.dealings (epoch, me)

    abbrev its : Acts Fault (Result (List ℕ) DealingError)
    its = player_answers dealing_of ack_of player.me player.round known epoch me public private

    is_known : recorded_at st.records.dealings round.number c.me ≡ known
    is_known = sym (get-entries old.store.dealings (round.number, c.me)) ∙ (λ i. get old.store.dealings (e i, its_me i))

    abbrev check : Result (Unit {0}) DealingError
    check = c.rules.dealing_of round c.me c.me public private

    is_check : check ≡ dealing_of player.round player.me me public private
    is_check = λ i. d i (r i) ((its_me ∙ sym m) i) (its_me i) public private

    abbrev now : Live Dir
    now = heard c round c.me public private st known check

    abbrev course : Course Dir Fault (Live Dir)
    course = dealing.offers_to_itself c round public private st

    course_is : on_devices course ≡ acts_of.bind its (λ x. on_devices (dealing.own_ack c round public now))
    course_is =
        ap (λ (o : Option Player). on_devices (dealing.offers_to_itself_in c round public private st (seat_of o))) plays
        ∙ ap (λ (o : Option (List ℕ × ℕ)). on_devices (dealing.deals_to_itself_in c round public private st o)) is_known
        ∙ own_as c round public private st known check same (is_check ∙ passed)
        ∙ (λ i. acts_of.bind (player_answers (λ r me d p q. is_check i) (a i) ((its_me ∙ sym m) i) (r i) known (e i) (its_me i) public private) (λ x. on_devices (dealing.own_ack c round public now)))

    -- what it has in memory once its player took it, ..
    module _ (store : Store Dir) (sitting : Player) (rest : SameRest old.store store)
        (pairs : store.dealings ≡ pairs_after known (dealing_of player.round player.me me public private) (epoch, me) (public, private) old.store.dealings)
      where
        abbrev mid : Life Dir
        mid = record old { store = store; player = Some sitting }

        mid_is : live_of beside fence mid ≡ now
        mid_is =
            heard_live c round c.me public private beside fence old mid refl rest (ap seat_of (sym plays)) known check
            (pairs ∙ (λ i. pairs_after known (sym is_check i) (sym e i, sym its_me i) (public, private) old.store.dealings))

        -- .. and what its dealer is handed
        abbrev ack : List ℕ
        ack = ack_of player.me player.round me public

        abbrev handed : Course Dir Fault (Live Dir)
        handed = dealing.checked_ack dealer.round (dealer_of dealer) me ack (live_of beside fence mid) (check_ack_of dealer.round dealer.me dealer.public me ack)

        abbrev by_dealer : live.Dealer → Course Dir Fault (Live Dir)
        by_dealer x = dealing.checked_ack round x c.me (c.rules.ack_of c.me round c.me public) (live_of beside fence mid) (c.rules.check_ack_of round c.me x.public c.me (c.rules.ack_of c.me round c.me public))

        own_is : dealing.own_ack c round public now ≡ handed
        own_is =
            ap (λ (x : Live Dir). dealing.own_ack c round public x) (sym mid_is)
            ∙ ap (λ (o : Option Dealer). option_map_or by_dealer (option_map dealer_of o) (courses.Goes (live_of beside fence mid))) deals
            ∙ (λ i. dealing.checked_ack (s i) (dealer_of dealer) (its_me i) (a i ((its_me ∙ sym m) i) (r i) (its_me i) public) (live_of beside fence mid)
            (k i (s i) ((its_me ∙ sym n) i) dealer.public (its_me i) (a i ((its_me ∙ sym m) i) (r i) (its_me i) public)))

        pub owned_made : (answer : Result (List ℕ) DealingError) (how : Ended Fault (Live Dir)) {files files_mid files_now : Files} {image between next : Files → Type 0} {old_moment mid_moment new_moment : Moment}
            → MakesAt its (went answer) files image files_mid between old_moment mid_moment
            → MakesAt (on_devices handed) how files_mid between files_now next mid_moment new_moment
            → MakesAt (on_devices course) how files image files_now next old_moment new_moment
        owned_made answer how {files} {files_mid} {files_now} {image} {between} {next} {old_moment} {mid_moment} {new_moment} first second =
            subst (λ (x : Acts Fault (Live Dir)). MakesAt x how files image files_now next old_moment new_moment) (sym course_is)
            (makes_next (λ x. on_devices (dealing.own_ack c round public now)) first
            (subst (λ (x : Course Dir Fault (Live Dir)). MakesAt (on_devices x) how files_mid between files_now next mid_moment new_moment) (sym own_is) second))

        pub owned_said : (answer : Result (List ℕ) DealingError) (how : Ended Fault (Live Dir)) {out middle told : List Entry} → Said its (went answer) out middle → Said (on_devices handed) how middle told
            → Said (on_devices course) how out told
        owned_said answer how {out} {middle} {told} first second =
            subst (λ (x : Acts Fault (Live Dir)). Said x how out told) (sym course_is)
            (said_next (λ x. on_devices (dealing.own_ack c round public now)) first
            (subst (λ (x : Course Dir Fault (Live Dir)). Said (on_devices x) how middle told) (sym own_is) second))

    -- its player failed
    pub owned_stopped : (stop : Stop) {files files_now : Files} {image next : Files → Type 0} {old_moment new_moment : Moment}
        → MakesAt its (by_stop stop) files image files_now next old_moment new_moment → MakesAt (on_devices course) (by_stop stop) files image files_now next old_moment new_moment
    owned_stopped stop {files} {files_now} {image} {next} {old_moment} {new_moment} first =
        subst (λ (x : Acts Fault (Live Dir)). MakesAt x (by_stop stop) files image files_now next old_moment new_moment) (sym course_is)
        (makes_early (λ x. on_devices (dealing.own_ack c round public now)) stop first)

    pub owned_unsaid : (stop : Stop) {out told : List Entry} → Said its (by_stop stop) out told → Said (on_devices course) (by_stop stop) out told
    owned_unsaid stop {out} {told} first =
        subst (λ (x : Acts Fault (Live Dir)). Said x (by_stop stop) out told) (sym course_is) (said_early (λ x. on_devices (dealing.own_ack c round public now)) stop first)

-- ANOTHER ONE WAS FOUND

-- It stops by that, or found no memory.
pub owned_refused : {Dir : Type 0} (c : Fixed Dir) (round : Round) (public : List ℕ) (private : ℕ) (beside : Beside Dir) (fence : Readiness) (old : Life Dir) (player : Player) (me epoch : ℕ)
    → c.me ≡ me → round.number ≡ epoch → old.player ≡ Some player → (kept : List ℕ × ℕ) → get old.store.dealings (epoch, me) ≡ Some kept → (kept.0 ≡ public → ⊥)
    → (stop : Stop) → stop ≡ Faulted (LocalState (OwnDealing epoch kept.0 public)) → (out : List Entry)
    → Speaks (dealing.offers_to_itself c round public private (live_of beside fence old)) (by_stop stop) out out
owned_refused {Dir} c round public private beside fence old player me epoch mine number plays kept found differs stop is out =
    gives_speaks (dealing.offers_to_itself c round public private (live_of beside fence old)) stop (LocalState (OwnDealing round.number kept.0 public))
    (is ∙ ap (λ (x : ℕ). Faulted (LocalState (OwnDealing x kept.0 public))) (sym number))
    (ap (λ (o : Option Player). dealing.offers_to_itself_in c round public private (live_of beside fence old) (seat_of o)) plays
    ∙ ap (λ (o : Option (List ℕ × ℕ)). dealing.deals_to_itself_in c round public private (live_of beside fence old) o)
    (sym (get-entries old.store.dealings (round.number, c.me)) ∙ (λ i. get old.store.dealings (number i, mine i)) ∙ found)
    ∙ own_stops c round public private (live_of beside fence old) kept differs)
    refl out

-- .. whichever it is
abbrev pub Refuses : (found : Option (List ℕ × ℕ)) (epoch : ℕ) (public : List ℕ) → Stop → Type 0
Refuses found epoch public stop = (stop ≡ Faulted NoMemory) ⊎ IsSomeAnd found (λ kept. (kept.0 ≡ public → ⊥) × (stop ≡ Faulted (LocalState (OwnDealing epoch kept.0 public))))

pub refused_speaks : {Dir : Type 0} (c : Fixed Dir) (round : Round) (public : List ℕ) (private : ℕ) (beside : Beside Dir) (fence : Readiness) (old : Life Dir) (player : Player) (me epoch : ℕ)
    → c.me ≡ me → round.number ≡ epoch → old.player ≡ Some player → (stop : Stop) → Refuses (get old.store.dealings (epoch, me)) epoch public stop → (out : List Entry)
    → Speaks (dealing.offers_to_itself c round public private (live_of beside fence old)) (by_stop stop) out out
refused_speaks {Dir} c round public private beside fence old player me epoch mine number plays stop (inl want) out =
    wants_speaks (dealing.offers_to_itself c round public private (live_of beside fence old)) stop want out out refl
refused_speaks {Dir} c round public private beside fence old player me epoch mine number plays stop (inr is) out = by_found (get old.store.dealings (epoch, me)) refl is
  where
    by_found : (found : Option (List ℕ × ℕ)) → get old.store.dealings (epoch, me) ≡ found → IsSomeAnd found (λ kept. (kept.0 ≡ public → ⊥) × (stop ≡ Faulted (LocalState (OwnDealing epoch kept.0 public))))
        → Speaks (dealing.offers_to_itself c round public private (live_of beside fence old)) (by_stop stop) out out
    by_found None has its = absurd its
    by_found (Some kept) has its = owned_refused c round public private beside fence old player me epoch mine number plays kept has its.0 stop its.1 out

pub refused_blames : (found : Option (List ℕ × ℕ)) (epoch : ℕ) (public : List ℕ) (stop : Stop) → Refuses found epoch public stop → (disk_rose secrets_rose reached : Type 0) → IsCaused stop disk_rose secrets_rose reached
refused_blames found epoch public stop (inl want) disk_rose secrets_rose reached = let R : Stop → Type 0 = λ s. IsCaused s disk_rose secrets_rose reached in subst R (sym want) tt
refused_blames None epoch public stop (inr is) disk_rose secrets_rose reached = absurd is
refused_blames (Some kept) epoch public stop (inr is) disk_rose secrets_rose reached = let R : Stop → Type 0 = λ s. IsCaused s disk_rose secrets_rose reached in subst R (sym is.1) tt

-- A LIFE'S

pub no_dealer : {A : Type 0} (P : A → Type 0) (o : Option A) → o ≡ None → IsSomeAnd o P → ⊥
no_dealer {A} P o is h = let Q : Option A → Type 0 = λ q. IsSomeAnd q P in subst Q is h

pub at_some_and : {A : Type 0} (P : A → Type 0) (o : Option A) (x : A) → o ≡ Some x → IsSomeAnd o P → P x
at_some_and {A} P o x is h = let Q : Option A → Type 0 = λ q. IsSomeAnd q P in subst Q is h

-- within the limit
pub own_within : {Dir : Type 0} (deal_of : DealOf) (check_ack_of : CheckAckOf) (me : ℕ) (life : Life Dir) (dealer : Dealer) → DealsIn deal_of check_ack_of me life dealer
    → ((round : Round) (signer : ℕ) (share : Option ℕ) (seed : List ℕ)
    → IfOk (deal_of round signer share seed) (λ dealt. (n : ℕ) → 1 ≤ n → length round.players ≤ n → length dealt.0 ≤ n))
    → (limit : ℕ) → 1 ≤ limit → IsRoundWithin limit life.round → length dealer.public ≤ limit
own_within deal_of check_ack_of me life dealer deals short limit some within =
    own_short deal_of check_ack_of dealer deals.deals.is short limit some
    (subst (λ (r : Round). length r.players ≤ limit) (sym deals.deals.round_is) (at_some (λ (r : Round). length r.players ≤ limit) life.round deals.round deals.has within))

module _ {Dir : Type 0} (dealing_of : DealingOf) (ack_of : AckOf) (deal_of : DealOf) (check_ack_of : CheckAckOf) (its : ℕ) (terms : Terms) (old : Life Dir) (dealer : Dealer) (player : Player)
    (epoch : ℕ) (public : List ℕ) (private : ℕ) (deals : old.dealer ≡ Some dealer) (plays : old.player ≡ Some player) (seated : PlayerSits ack_of terms.me old) (offers : IsDealing deal_of check_ack_of terms.me old)
    (mine : terms.me ≡ its) (dealt : round_dealt old ≡ Some epoch) (half : IsSomeAnd old.dealer (λ d. (d.public ≡ public) × (lookup terms.me d.privates ≡ Some private)))
    (pass : (round : Round) (signer : ℕ) (share : Option ℕ) (seed : List ℕ) → Contains round.dealers signer
    → IfOk (deal_of round signer share seed) (λ dealt. (me : ℕ) → Contains round.players me → IsSomeAnd (lookup me dealt.1) (λ private. dealing_of round me signer dealt.0 private ≡ Ok tt)))
  where
    sits : Sits ack_of terms.me old player
    sits = at_some (Sits ack_of terms.me old) old.player player plays seated

    deal : DealsIn deal_of check_ack_of terms.me old dealer
    deal = at_some (DealsIn deal_of check_ack_of terms.me old) old.dealer dealer deals offers

    pub own_seat : SitsAt ack_of its epoch old.store player
    own_seat = sits_at ack_of terms.me its old player sits mine epoch dealt

    halves : (dealer.public ≡ public) × (lookup terms.me dealer.privates ≡ Some private)
    halves = at_some_and (λ (d : Dealer). (d.public ≡ public) × (lookup terms.me d.privates ≡ Some private)) old.dealer dealer deals half

    same_round : dealer.round ≡ player.round
    same_round = deal.deals.round_is ∙ same_some deal.round sits.round (sym deal.has ∙ sits.has) ∙ sym sits.sits.round_is

    -- .. and within it here
    pub own_few : ((round : Round) (signer : ℕ) (share : Option ℕ) (seed : List ℕ)
        → IfOk (deal_of round signer share seed) (λ dealt. (n : ℕ) → 1 ≤ n → length round.players ≤ n → length dealt.0 ≤ n))
        → IsRoundWithin (non_zero_u32_get terms.limit) old.round → length public ≤ non_zero_u32_get terms.limit
    own_few short within =
        subst (λ (p : List ℕ). length p ≤ non_zero_u32_get terms.limit) halves.0
        (own_within deal_of check_ack_of terms.me old dealer deal short (non_zero_u32_get terms.limit) (omega (arith, terms.limit.ok)) within)

    own_check : dealing_of player.round player.me terms.me public private ≡ Ok tt
    own_check =
        (λ i. dealing_of (sym same_round i) (sits.sits.me_is i) (sym deal.deals.me_is i) (sym halves.0 i) private)
        ∙ own_passes deal_of check_ack_of dealer deal.deals.is dealing_of pass terms.me private
        (subst (λ (r : Round). Contains r.players terms.me) (sits_round) sits.sits.plays) halves.1
      where
        sits_round : sits.round ≡ dealer.round
        sits_round = sym sits.sits.round_is ∙ sym same_round

    abbrev recorded : Option (List ℕ × ℕ)
    recorded = get old.store.dealings (epoch, terms.me)

    abbrev its_acts : Acts Fault (Result (List ℕ) DealingError)
    its_acts = player_answers dealing_of ack_of player.me player.round recorded epoch terms.me public private

    module _ (same : IfSome recorded (λ kept. kept.0 ≡ public)) where
      -- a refusal is none of its answers
      pub own_unrefused : (e : DealingError) {out now : List Entry} → Said its_acts (went (Err e)) out now → ⊥
      own_unrefused e said =
          let no : ◌≡◌ {A = Result (List ℕ) DealingError} (Err e) (Ok (ack_of player.me player.round terms.me public)) =
          own_answer dealing_of ack_of player.me player.round recorded epoch terms.me public private (Err e) said same own_check in cc

      own_given : (given : List ℕ) {out now : List Entry} → Said its_acts (went (Ok given)) out now → ack_of player.me player.round terms.me public ≡ given
      own_given given said =
          let is : ◌≡◌ {A = Result (List ℕ) DealingError} (Ok given) (Ok (ack_of player.me player.round terms.me public)) =
          own_answer dealing_of ack_of player.me player.round recorded epoch terms.me public private (Ok given) said same own_check in cc

      module _ (c : Fixed Dir) (round : Round) (beside : Beside Dir) (fence : Readiness) (of : IsOf terms c) (by : AnswersBy dealing_of ack_of check_ack_of c.rules) (has : old.round ≡ Some round) where
        abbrev offered : Course Dir Fault (Live Dir)
        offered = dealing.offers_to_itself c round public private (live_of beside fence old)

        module _ (store : Store Dir) (now : Player) (rest : SameRest old.store store)
            (pairs : store.dealings ≡ pairs_after recorded (dealing_of player.round player.me terms.me public private) (epoch, terms.me) (public, private) old.store.dealings)
            (given : List ℕ) {out mid : List Entry} (said : Said its_acts (went (Ok given)) out mid)
          where
            abbrev between_of : Life Dir
            between_of = record old { store = store; player = Some now }

            abbrev handed_of : List ℕ → Course Dir Fault (Live Dir)
            handed_of ack = dealing.checked_ack dealer.round (dealer_of dealer) terms.me ack (live_of beside fence between_of) (check_ack_of dealer.round dealer.me dealer.public terms.me ack)

            pub given_made : (how : Ended Fault (Live Dir)) {files files_mid files_now : Files} {image between next : Files → Type 0} {old_moment mid_moment new_moment : Moment}
                → MakesAt its_acts (went (Ok given)) files image files_mid between old_moment mid_moment
                → MakesAt (on_devices (handed_of given)) how files_mid between files_now next mid_moment new_moment
                → MakesAt (on_devices offered) how files image files_now next old_moment new_moment
            given_made how {files} {files_mid} {files_now} {image} {between} {next} {old_moment} {mid_moment} {new_moment} first second =
                owned_made c round public private beside fence old dealing_of ack_of check_ack_of player dealer terms.me epoch by.dealing by.ack by.check_ack of.me sits.sits.me_is (round_is ack_of terms.me its old player sits mine round has)
                deal.deals.me_is (deals_round deal_of check_ack_of terms.me old dealer deal round has) (dealt_number old epoch round dealt has) plays deals same own_check
                store now rest pairs (Ok given) how first
                (subst (λ (x : List ℕ). MakesAt (on_devices (handed_of x)) how files_mid between files_now next mid_moment new_moment) (sym (own_given given said)) second)

            pub given_said : (how : Ended Fault (Live Dir)) {told : List Entry} → Said (on_devices (handed_of given)) how mid told → Said (on_devices offered) how out told
            given_said how {told} second =
                owned_said c round public private beside fence old dealing_of ack_of check_ack_of player dealer terms.me epoch by.dealing by.ack by.check_ack of.me sits.sits.me_is (round_is ack_of terms.me its old player sits mine round has)
                deal.deals.me_is (deals_round deal_of check_ack_of terms.me old dealer deal round has) (dealt_number old epoch round dealt has) plays deals same own_check
                store now rest pairs (Ok given) how said
                (subst (λ (x : List ℕ). Said (on_devices (handed_of x)) how mid told) (sym (own_given given said)) second)

        pub ungiven_made : (stop : Stop) {files files_now : Files} {image next : Files → Type 0} {old_moment new_moment : Moment}
            → MakesAt its_acts (by_stop stop) files image files_now next old_moment new_moment → MakesAt (on_devices offered) (by_stop stop) files image files_now next old_moment new_moment
        ungiven_made stop first =
            owned_stopped c round public private beside fence old dealing_of ack_of check_ack_of player dealer terms.me epoch by.dealing by.ack by.check_ack of.me sits.sits.me_is (round_is ack_of terms.me its old player sits mine round has)
            deal.deals.me_is (deals_round deal_of check_ack_of terms.me old dealer deal round has) (dealt_number old epoch round dealt has) plays deals same own_check stop first

        pub ungiven_said : (stop : Stop) {out told : List Entry} → Said its_acts (by_stop stop) out told → Said (on_devices offered) (by_stop stop) out told
        ungiven_said stop first =
            owned_unsaid c round public private beside fence old dealing_of ack_of check_ack_of player dealer terms.me epoch by.dealing by.ack by.check_ack of.me sits.sits.me_is (round_is ack_of terms.me its old player sits mine round has)
            deal.deals.me_is (deals_round deal_of check_ack_of terms.me old dealer deal round has) (dealt_number old epoch round dealt has) plays deals same own_check stop first
