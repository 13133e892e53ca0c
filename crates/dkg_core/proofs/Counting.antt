-- What an acknowledgement that is taken leaves of a life of the form.
use Rattle.std.proofs.Common.{◌≡◌, ℕ, List, [], ◌∷◌, Bool, true, false, Option, Some, None, refl, sym, ◌∙◌, ap, subst, arith}
use Rattle.std.specs.Prelude.{◌==◌, nat_lt, if◌then◌else◌, is_some, Ok}
use Rattle.std.specs.List.{AllByRecursion}
use Rattle.std.proofs.lemmas.Bool.Decides.{nat_tests}
use Rattle.dkg_values.specs.Rising.{lookup, with_pair}
use Rattle.dkg_ceremony.specs.declared.round.RoundParts.{RoundParts as Round}
use Rattle.dkg_infos.specs.declared.fault.Fault.{Fault}
use Rattle.dkg_store.specs.declared.event.Event.TheVariants as events
use Rattle.dkg_core.specs.Courses.{Course, Say, Do, CallOutside, Ask, Goes, Stops}
use Rattle.dkg_core.specs.Fixed.{Fixed}
use Rattle.dkg_core.specs.Live.{Live, Records, Dealer, Stage, recorded_at}
use Rattle.dkg_core.specs.Dealing as d
use Rattle.dkg_core.specs.Endings.{ComesTo}
use Rattle.dkg_core.specs.Forms.{IsMine, IsLiveIn}
use Rattle.dkg_core.specs.Stepping.{with_taken}

none_apart : {A : Type 0} (a : A) → ◌≡◌ {A = Option A} None (Some a) → ⊥
none_apart a e = cc

pub some_is : {A : Type 0} (a b : A) → ◌≡◌ {A = Option A} (Some a) (Some b) → a ≡ b
some_is a b e = cc

-- WHERE A COURSE COMES TO

module _ {Dir F S : Type 0} (stops : F → Type 0) (goes : S → Type 0) where
  pub comes_if : (t : Bool) (x y : Course Dir F S) → (t ≡ true → ComesTo stops goes x) → (t ≡ false → ComesTo stops goes y) → ComesTo stops goes (if t then x else y)
  comes_if true x y one other = one refl
  comes_if false x y one other = other refl

-- to more
pub comes_as : {Dir F S : Type 0} (stops others : F → Type 0) (goes ends : S → Type 0) (course : Course Dir F S) → ((fault : F) → stops fault → others fault) → ((end : S) → goes end → ends end)
    → ComesTo stops goes course → ComesTo others ends course
comes_as stops others goes ends (Say line course) more most comes = comes_as stops others goes ends course more most comes
comes_as stops others goes ends (Do op course) more most comes = comes_as stops others goes ends course more most comes
comes_as stops others goes ends (CallOutside outer course) more most comes = comes_as stops others goes ends course more most comes
comes_as stops others goes ends (Ask f) more most comes = λ h. comes_as stops others goes ends (f h) more most (comes h)
comes_as stops others goes ends (Goes end) more most comes = most end comes
comes_as stops others goes ends (Stops fault) more most comes = more fault comes

-- A MAP BY KEY

not_self : (n m : ℕ) → (n == m) ≡ false → (m == n) ≡ true → ⊥
not_self n m e f = grind (arith, nat_tests)

itself : (n : ℕ) → (n == n) ≡ true
itself n = grind (arith, nat_tests)

-- a pair that was put is found
pub found_pair : {V : Type 0} (key : ℕ) (value : V) (pairs : List (ℕ × V)) → lookup key (with_pair (key, value) pairs) ≡ Some value
found_pair {V} key value [] = ap (λ (t : Bool). if t then Some value else None) (itself key)
found_pair {V} key value (q ∷ qs) = either (nat_lt key q.0) (key == q.0) refl (found_pair key value qs)
  where
    here : (more : List (ℕ × V)) → lookup key ((key, value) ∷ more) ≡ Some value
    here more = ap (λ (t : Bool). if t then Some value else lookup key more) (itself key)

    behind : (t : Bool) → (q.0 == key) ≡ t → (key == q.0) ≡ false → lookup key (with_pair (key, value) qs) ≡ Some value → (if t then Some q.1 else lookup key (with_pair (key, value) qs)) ≡ Some value
    behind true e other rest = absurd (not_self key q.0 other e)
    behind false e other rest = rest

    either : (low same : Bool) → (key == q.0) ≡ same → lookup key (with_pair (key, value) qs) ≡ Some value
        → lookup key (if low then (key, value) ∷ q ∷ qs else if same then (key, value) ∷ qs else q ∷ with_pair (key, value) qs) ≡ Some value
    either true same e rest = here (q ∷ qs)
    either false true e rest = here qs
    either false false e rest = behind (q.0 == key) refl e rest

-- .. and what holds of all of them holds with it
pub all_pair : {V : Type 0} (P : ℕ × V → Type 0) (p : ℕ × V) (pairs : List (ℕ × V)) → P p → AllByRecursion P pairs → AllByRecursion P (with_pair p pairs)
all_pair P p [] new all = (new, tt)
all_pair {V} P p (q ∷ qs) new all = either (nat_lt p.0 q.0) (p.0 == q.0) (all_pair P p qs new all.1)
  where
    either : (low same : Bool) → AllByRecursion P (with_pair p qs) → AllByRecursion P (if low then p ∷ q ∷ qs else if same then p ∷ qs else q ∷ with_pair p qs)
    either true same rest = (new, all)
    either false true rest = (new, all.1)
    either false false rest = (all.0, rest)

-- A LIFE

module _ {Dir : Type 0} (c : Fixed Dir) where
  -- other records make no other life of the form
  pub recorded_live : (st : Live Dir) (records : Records) → IsLiveIn c st → IsLiveIn c (record st { records = records })
  recorded_live st records live = record { awaits = live.awaits; in_round = live.in_round; without = live.without; mine = live.mine; numbered = live.numbered; idle = live.idle }

  module _ (round : Round) (dealer : Dealer) (player : ℕ) (ack : List ℕ) (passes : c.rules.check_ack_of round c.me dealer.public player ack ≡ Ok tt) where
    abbrev counted : Dealer
    counted = record dealer { acks = with_pair (player, ack) dealer.acks }

    counted_mine : (stage : Stage) → IsMine c round stage dealer → IsMine c round stage counted
    counted_mine stage mine = record {
      member = mine.member;
      share = mine.share;
      seed = mine.seed;
      dealt = mine.dealt;
      passed = all_pair (λ (a : ℕ × List ℕ). c.rules.check_ack_of round c.me dealer.public a.0 a.1 ≡ Ok tt) (player, ack) dealer.acks passes mine.passed;
      unsigned = mine.unsigned;
    }

    counted_live : (st : Live Dir) → st.participation.round ≡ Some round → st.participation.dealer ≡ Some dealer → IsLiveIn c st → IsLiveIn c (d.counts dealer player ack st)
    counted_live st of_epoch of_dealer live = record {
      awaits = live.awaits;
      in_round = live.in_round;
      without = λ none. absurd (none_apart round (sym none ∙ of_epoch));
      mine = λ other e. subst (λ (x : Dealer). (r : Round) × (st.participation.round ≡ Some r) × IsMine c r st.participation.stage x) (some_is counted other e) (round, of_epoch, counted_mine st.participation.stage before);
      numbered = live.numbered;
      idle = live.idle;
    }
      where
        before : IsMine c round st.participation.stage dealer
        before = let mine = live.mine dealer of_dealer in
            subst (λ (r : Round). IsMine c r st.participation.stage dealer) (some_is mine.0 round (sym mine.1 ∙ of_epoch)) mine.2

    pub taken_live : (epoch : ℕ) (st : Live Dir) → st.participation.round ≡ Some round → st.participation.dealer ≡ Some dealer → IsLiveIn c st → IsLiveIn c (with_taken epoch dealer player ack st)
    taken_live epoch st of_epoch of_dealer live = either (is_some (lookup player dealer.acks)) (is_some (recorded_at st.records.acks epoch player))
      where
        either : (known kept : Bool) → IsLiveIn c (if known then st else if kept then d.counts dealer player ack st else d.counts dealer player ack (d.with_ack epoch player ack st))
        either true kept = live
        either false true = counted_live st of_epoch of_dealer live
        either false false = counted_live (d.with_ack epoch player ack st) of_epoch of_dealer (recorded_live st (d.with_ack epoch player ack st).records live)

-- .. to which the course comes
pub takes_ack : {Dir : Type 0} (stops : Fault → Type 0) (epoch : ℕ) (dealer : Dealer) (player : ℕ) (ack : List ℕ) (st : Live Dir)
    → ComesTo stops (λ end. end ≡ with_taken epoch dealer player ack st) (d.takes_ack epoch dealer player ack st)
takes_ack {Dir} stops epoch dealer player ack st =
    either (d.counts dealer player ack (d.with_ack epoch player ack st)) (is_some (lookup player dealer.acks)) (is_some (recorded_at st.records.acks epoch player))
  where
    either : (new : Live Dir) (known kept : Bool)
        → ComesTo {Dir = Dir} stops (λ end. end ≡ (if known then st else if kept then d.counts dealer player ack st else new))
        (if known then Goes st else if kept then Goes (d.counts dealer player ack st) else d.appends epoch (events.Ack player ack) (Goes new))
    either new true kept = refl
    either new false true = refl
    either new false false = refl
