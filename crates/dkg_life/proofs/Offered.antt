-- Offers to some players, one behind another.
use Rattle.std.proofs.Common.{◌≡◌, ◌++◌, ◌∷◌, [], ℕ, Bool, true, false, List, Option, Some, None, refl, sym, ◌∙◌, ap, subst, append_assoc, append-nil, length, arith}
use Rattle.std.specs.Prelude.{◌==◌, IsSomeAnd, map, option_map, if◌then◌else◌}
use Rattle.std.specs.Option.{option_map_or}
use Rattle.std.specs.FinMap as maps
use Rattle.std.specs.List.{AllByRecursion}
use Rattle.std.proofs.lemmas.Bool.Decides.{nat_tests}
use Rattle.std.specs.FinMap.{get}
use Rattle.dkg_values.specs.Rising.{lookup}
use Rattle.dkg_ceremony.specs.declared.round.RoundParts.{RoundParts as Round}
use Rattle.dkg_fence.specs.Readiness.{Readiness}
use Rattle.dkg_journal.specs.Names.{Files}
use Rattle.dkg_infos.specs.declared.entry.Entry.{Entry}
use Rattle.dkg_infos.specs.declared.entry.Entry.TheVariants.{Offer}
use Rattle.dkg_infos.specs.declared.fault.Fault.{Fault}
use Rattle.dkg_store.specs.Acts.{Ended, Moment, went}
use Rattle.dkg_store.specs.Dealer.{AckMap, to_send, unsent, with_unsent}
use Rattle.dkg_store.specs.declared.dealer.Dealer.{Dealer}
use Rattle.dkg_store.specs.declared.player.Player.{Player}
use Rattle.dkg_core.specs.Courses.{Course, Say, Do, CallOutside, Ask, Goes, Stops, bind, on_devices}
use Rattle.dkg_core.specs.Dealing as dealing
use Rattle.dkg_core.specs.Fixed.{Fixed}
use Rattle.dkg_core.specs.Live as live
use Rattle.dkg_core.specs.Live.{Live}
use Rattle.dkg_core.specs.Setup as setup
use Rattle.dkg_life.specs.declared.life.Life.{Life}
use Rattle.dkg_life.specs.declared.stop.Stop.{Stop}
use Rattle.dkg_life.specs.Ends.{by_stop}
use Rattle.dkg_life.specs.LiveOf.{Beside, dealer_of, live_of, seat_of}
use Rattle.dkg_life.specs.Made.{MakesAt, Tells}
use Rattle.dkg_life.specs.Steps.{SameHalves, private_halves_of, with_public}
use Rattle.dkg_life.proofs.Burning.{makes_nothing}
use Rattle.dkg_life.proofs.Chained.{early_makes, early_told, then_makes, then_told}
use Rattle.dkg_life.proofs.Dealers.{unsent_is}
use Rattle.dkg_life.proofs.Dealt.{halves_on, same_public, some_dealer}

-- COURSES

-- nothing behind a course
pub bind_goes : {Dir F S : Type 0} (course : Course Dir F S) → bind course (λ s. Goes s) ≡ course
bind_goes (Say line course) = ap (λ x. Say line x) (bind_goes course)
bind_goes (Do op course) = ap (λ x. Do op x) (bind_goes course)
bind_goes (CallOutside outer course) = ap (λ x. CallOutside outer x) (bind_goes course)
bind_goes (Ask f) = λ i. Ask (λ h. bind_goes (f h) i)
bind_goes (Goes end) = refl
bind_goes (Stops fault) = refl

-- three of them
pub bind_again : {Dir F S T U : Type 0} (course : Course Dir F S) (f : S → Course Dir F T) (g : T → Course Dir F U) → bind (bind course f) g ≡ bind course (λ s. bind (f s) g)
bind_again (Say line course) f g = ap (λ x. Say line x) (bind_again course f g)
bind_again (Do op course) f g = ap (λ x. Do op x) (bind_again course f g)
bind_again (CallOutside outer course) f g = ap (λ x. CallOutside outer x) (bind_again course f g)
bind_again (Ask h) f g = λ i. Ask (λ held. bind_again (h held) f g i)
bind_again (Goes end) f g = refl
bind_again (Stops fault) f g = refl

pub bind_alike : {Dir F S T : Type 0} (course : Course Dir F S) (f g : S → Course Dir F T) → ((s : S) → f s ≡ g s) → bind course f ≡ bind course g
bind_alike course f g same = λ i. bind course (λ s. same s i)

-- OFFERS

is_it : (a b : ℕ) → a ≡ b → (a == b) ≡ true
is_it a b is = grind (arith, nat_tests)

module _ {Dir : Type 0} (c : Fixed Dir) (round : Round) (public : List ℕ) where
  abbrev offers : List (ℕ × ℕ) → Live Dir → Course Dir Fault (Live Dir)
  offers halves st = dealing.offers c round public halves st

  abbrev turn : Bool → ℕ × ℕ → List (ℕ × ℕ) → Live Dir → Course Dir Fault (Live Dir)
  turn own p halves st =
      if own then bind (dealing.offers_to_itself c round public p.1 st) (λ st. offers halves st)
      else Say (Offer round.number p.0 public p.1) (offers halves st)

  split_turn : (own : Bool) (p : ℕ × ℕ) (xs ys : List (ℕ × ℕ)) → ((st : Live Dir) → offers (xs ++ ys) st ≡ bind (offers xs st) (λ s. offers ys s)) → (st : Live Dir)
      → turn own p (xs ++ ys) st ≡ bind (turn own p xs st) (λ s. offers ys s)
  split_turn true p xs ys more st =
      bind_alike (dealing.offers_to_itself c round public p.1 st) (λ s. offers (xs ++ ys) s) (λ s. bind (offers xs s) (λ t. offers ys t)) more
      ∙ sym (bind_again (dealing.offers_to_itself c round public p.1 st) (λ s. offers xs s) (λ s. offers ys s))
  split_turn false p xs ys more st = ap (λ (x : Course Dir Fault (Live Dir)). Say (Offer round.number p.0 public p.1) x) (more st)

  -- some players, and then others
  pub offers_split : (xs ys : List (ℕ × ℕ)) (st : Live Dir) → offers (xs ++ ys) st ≡ bind (offers xs st) (λ s. offers ys s)
  offers_split [] ys st = refl
  offers_split (p ∷ xs) ys st = split_turn (p.0 == c.me) p xs ys (offers_split xs ys) st

  -- ONE PLAYER

  pub offers_own : (player private : ℕ) → player ≡ c.me → (st : Live Dir) → offers ((player, private) ∷ []) st ≡ dealing.offers_to_itself c round public private st
  offers_own player private mine st =
      ap (λ (b : Bool). turn b (player, private) [] st) (is_it player c.me mine) ∙ bind_goes (dealing.offers_to_itself c round public private st)

  module _ (player private : ℕ) (mine : player ≡ c.me) (st : Live Dir) (how : Ended Fault (Live Dir)) where
    pub own_made : {files files_now : Files} {image next : Files → Type 0} {old new : Moment} → MakesAt (on_devices (dealing.offers_to_itself c round public private st)) how files image files_now next old new
        → MakesAt (on_devices (offers ((player, private) ∷ []) st)) how files image files_now next old new
    own_made {files} {files_now} {image} {next} {old} {new} made =
        subst (λ (x : Course Dir Fault (Live Dir)). MakesAt (on_devices x) how files image files_now next old new) (sym (offers_own player private mine st)) made

    pub own_told : {out now : List Entry} → Tells (dealing.offers_to_itself c round public private st) how out now → Tells (offers ((player, private) ∷ []) st) how out now
    own_told {out} {now} told = subst (λ (x : Course Dir Fault (Live Dir)). Tells x how out now) (sym (offers_own player private mine st)) told

  -- SOME, AND ONE MORE

  module _ (done : List (ℕ × ℕ)) (one : ℕ × ℕ) (start mid : Live Dir) (given : List ℕ) (same : given ≡ public) where
    abbrev one_more : Course Dir Fault (Live Dir)
    one_more = dealing.offers c round given (one ∷ []) mid

    more_is : one_more ≡ offers (one ∷ []) mid
    more_is = ap (λ (p : List ℕ). dealing.offers c round p (one ∷ []) mid) same

    pub more_makes : (how : Ended Fault (Live Dir)) {files files_mid files_now : Files} {image between next : Files → Type 0} {old middle new : Moment}
        → MakesAt (on_devices (offers done start)) (went mid) files image files_mid between old middle → MakesAt (on_devices one_more) how files_mid between files_now next middle new
        → MakesAt (on_devices (offers (done ++ one ∷ []) start)) how files image files_now next old new
    more_makes how {files} {files_mid} {files_now} {image} {between} {next} {old} {middle} {new} first second =
        subst (λ (x : Course Dir Fault (Live Dir)). MakesAt (on_devices x) how files image files_now next old new) (sym (offers_split done (one ∷ []) start))
        (then_makes (offers done start) (λ s. offers (one ∷ []) s) mid how first
        (subst (λ (x : Course Dir Fault (Live Dir)). MakesAt (on_devices x) how files_mid between files_now next middle new) more_is second))

    pub more_told : (how : Ended Fault (Live Dir)) {out middle now : List Entry} → Tells (offers done start) (went mid) out middle → Tells one_more how middle now
        → Tells (offers (done ++ one ∷ []) start) how out now
    more_told how {out} {middle} {now} first second =
        subst (λ (x : Course Dir Fault (Live Dir)). Tells x how out now) (sym (offers_split done (one ∷ []) start))
        (then_told (offers done start) (λ s. offers (one ∷ []) s) mid how first (subst (λ (x : Course Dir Fault (Live Dir)). Tells x how middle now) more_is second))

    -- .. which ended all of it
    module _ (rest all : List (ℕ × ℕ)) (are : done ++ one ∷ rest ≡ all) where
      whole : offers all start ≡ bind (offers (done ++ one ∷ []) start) (λ s. offers rest s)
      whole =
          ap (λ (l : List (ℕ × ℕ)). offers l start) (sym are ∙ sym (append_assoc done (one ∷ []) rest))
          ∙ offers_split (done ++ one ∷ []) rest start

      pub end_makes : (stop : Stop) {files files_mid files_now : Files} {image between next : Files → Type 0} {old middle new : Moment}
          → MakesAt (on_devices (offers done start)) (went mid) files image files_mid between old middle → MakesAt (on_devices one_more) (by_stop stop) files_mid between files_now next middle new
          → MakesAt (on_devices (offers all start)) (by_stop stop) files image files_now next old new
      end_makes stop {files} {files_mid} {files_now} {image} {between} {next} {old} {middle} {new} first second =
          subst (λ (x : Course Dir Fault (Live Dir)). MakesAt (on_devices x) (by_stop stop) files image files_now next old new) (sym whole)
          (early_makes (offers (done ++ one ∷ []) start) (λ s. offers rest s) stop (more_makes (by_stop stop) first second))

      pub end_told : (stop : Stop) {out middle now : List Entry} → Tells (offers done start) (went mid) out middle → Tells one_more (by_stop stop) middle now
          → Tells (offers all start) (by_stop stop) out now
      end_told stop {out} {middle} {now} first second =
          subst (λ (x : Course Dir Fault (Live Dir)). Tells x (by_stop stop) out now) (sym whole)
          (early_told (offers (done ++ one ∷ []) start) (λ s. offers rest s) stop (more_told (by_stop stop) first second))

-- WHAT IS OFFERED

-- with the public half, and without it again
pub halves_back : (public : List ℕ) (halves : List (ℕ × ℕ)) → private_halves_of (with_public public halves) ≡ halves
halves_back public [] = refl
halves_back public (p ∷ ps) = ap (λ (l : List (ℕ × ℕ)). p ∷ l) (halves_back public ps)

-- each is this dealer's half
abbrev pub IsHalf : (public : List ℕ) (privates : List (ℕ × ℕ)) → ℕ × List ℕ × ℕ → Type 0
IsHalf public privates one = (one.1 ≡ public) × (lookup one.0 privates ≡ Some one.2)

one_half : (public : List ℕ) (privates : List (ℕ × ℕ)) (player : ℕ) (ack : Option (List ℕ)) (private : Option ℕ) (later : List (ℕ × ℕ)) → lookup player privates ≡ private
    → AllByRecursion (IsHalf public privates) (with_public public later) → AllByRecursion (IsHalf public privates) (with_public public (with_unsent player ack private later))
one_half public privates player (Some ack) private later is all = all
one_half public privates player None None later is all = all
one_half public privates player None (Some private) later is all = ((refl, is), all)

pub unsent_halves : (public : List ℕ) (privates : List (ℕ × ℕ)) (acks : AckMap) (players : List ℕ) → AllByRecursion (IsHalf public privates) (with_public public (unsent acks privates players))
unsent_halves public privates acks [] = tt
unsent_halves public privates acks (player ∷ players) =
    one_half public privates player (get acks player) (lookup player privates) (unsent acks privates players) refl (unsent_halves public privates acks players)

-- as the dealer's iterator gives it
abbrev pub flat : List (ℕ × (List ℕ × ℕ)) → List (ℕ × List ℕ × ℕ)
flat sent = map (λ p. (p.0, p.1.0, p.1.1)) sent

pub flat_sent : (public : List ℕ) (halves : List (ℕ × ℕ)) → flat (to_send public halves) ≡ with_public public halves
flat_sent public [] = refl
flat_sent public (p ∷ ps) = ap (λ (l : List (ℕ × List ℕ × ℕ)). (p.0, public, p.1) ∷ l) (flat_sent public ps)

pub halves_more : (done : List (ℕ × List ℕ × ℕ)) (one : ℕ × List ℕ × ℕ) → private_halves_of (done ++ one ∷ []) ≡ private_halves_of done ++ (one.0, one.2) ∷ []
halves_more [] one = refl
halves_more (d ∷ ds) one = ap (λ (l : List (ℕ × ℕ)). (d.0, d.2) ∷ l) (halves_more ds one)

pub halves_split : (done rest : List (ℕ × List ℕ × ℕ)) (one : ℕ × List ℕ × ℕ) → private_halves_of (done ++ one ∷ rest) ≡ private_halves_of done ++ (one.0, one.2) ∷ private_halves_of rest
halves_split [] rest one = refl
halves_split (d ∷ ds) rest one = ap (λ (l : List (ℕ × ℕ)). (d.0, d.2) ∷ l) (halves_split ds rest one)

pub first_half : (its : Option Dealer) (player : ℕ) (public : List ℕ) (private : ℕ) (rest : List (ℕ × List ℕ × ℕ))
    → IsSomeAnd its (λ d. AllByRecursion (IsHalf d.public d.privates) ((player, public, private) ∷ rest)) → IsSomeAnd its (λ d. (d.public ≡ public) × (lookup player d.privates ≡ Some private))
first_half None player public private rest all = all
first_half (Some d) player public private rest all = (sym all.0.0, all.0.1)

pub halves_at : (its : Option Dealer) (left more : List (ℕ × List ℕ × ℕ)) → left ≡ more → IsSomeAnd its (λ d. AllByRecursion (IsHalf d.public d.privates) left) → IsSomeAnd its (λ d. AllByRecursion (IsHalf d.public d.privates) more)
halves_at its left more is all = subst (λ (l : List (ℕ × List ℕ × ℕ)). IsSomeAnd its (λ d. AllByRecursion (IsHalf d.public d.privates) l)) is all

pub nothing_left : (l : List (ℕ × List ℕ × ℕ)) → length l ≡ 0 → l ≡ []
nothing_left [] is = refl
nothing_left (one ∷ rest) is = absurd (omega arith)

pub halves_next : (its now : Option Dealer) (player : ℕ) (public : List ℕ) (private : ℕ) (rest : List (ℕ × List ℕ × ℕ)) → SameHalves its now
    → IsSomeAnd its (λ d. AllByRecursion (IsHalf d.public d.privates) ((player, public, private) ∷ rest)) → IsSomeAnd now (λ d. AllByRecursion (IsHalf d.public d.privates) rest)
halves_next its now player public private rest same all =
    halves_on (λ p ps. AllByRecursion (IsHalf p ps) rest) its now same (behind its all)
  where
    behind : (o : Option Dealer) → IsSomeAnd o (λ d. AllByRecursion (IsHalf d.public d.privates) ((player, public, private) ∷ rest)) → IsSomeAnd o (λ d. AllByRecursion (IsHalf d.public d.privates) rest)
    behind None is = is
    behind (Some d) is = is.1

-- A TURN OF A LIFE

module _ {Dir : Type 0} (c : Fixed Dir) (round : Round) (dealer : Dealer) (beside : Beside Dir) (fence : Readiness) (start here : Life Dir) (done : List (ℕ × List ℕ × ℕ)) (player : ℕ) (public : List ℕ) (private : ℕ)
    (rest : List (ℕ × List ℕ × ℕ)) (deals : start.dealer ≡ Some dealer) (stays : SameHalves start.dealer here.dealer)
    (halves : IsSomeAnd here.dealer (λ d. AllByRecursion (IsHalf d.public d.privates) ((player, public, private) ∷ rest)))
  where
    same : public ≡ dealer.public
    same =
        let its = some_dealer (λ (d : Dealer). AllByRecursion (IsHalf d.public d.privates) ((player, public, private) ∷ rest)) here.dealer halves in
        its.2.0.0 ∙ same_public start.dealer here.dealer dealer its.0 stays deals its.1

    abbrev before : Course Dir Fault (Live Dir)
    before = dealing.offers c round dealer.public (private_halves_of done) (live_of beside fence start)

    abbrev turn_of : Course Dir Fault (Live Dir)
    turn_of = dealing.offers c round public ((player, private) ∷ []) (live_of beside fence here)

    pub turn_made : (how : Ended Fault (Live Dir)) {files files_mid files_now : Files} {image between next : Files → Type 0} {old middle new : Moment}
        → MakesAt (on_devices before) (went (live_of beside fence here)) files image files_mid between old middle → MakesAt (on_devices turn_of) how files_mid between files_now next middle new
        → MakesAt (on_devices (dealing.offers c round dealer.public (private_halves_of (done ++ (player, public, private) ∷ [])) (live_of beside fence start))) how files image files_now next old new
    turn_made how {files} {files_mid} {files_now} {image} {between} {next} {old} {middle} {new} first second =
        subst (λ (l : List (ℕ × ℕ)). MakesAt (on_devices (dealing.offers c round dealer.public l (live_of beside fence start))) how files image files_now next old new) (sym (halves_more done (player, public, private)))
        (more_makes c round dealer.public (private_halves_of done) (player, private) (live_of beside fence start) (live_of beside fence here) public same how first second)

    pub turn_said : (how : Ended Fault (Live Dir)) {out middle now : List Entry} → Tells before (went (live_of beside fence here)) out middle → Tells turn_of how middle now
        → Tells (dealing.offers c round dealer.public (private_halves_of (done ++ (player, public, private) ∷ [])) (live_of beside fence start)) how out now
    turn_said how {out} {middle} {now} first second =
        subst (λ (l : List (ℕ × ℕ)). Tells (dealing.offers c round dealer.public l (live_of beside fence start)) how out now) (sym (halves_more done (player, public, private)))
        (more_told c round dealer.public (private_halves_of done) (player, private) (live_of beside fence start) (live_of beside fence here) public same how first second)

    module _ (all : List (ℕ × List ℕ × ℕ)) (are : done ++ (player, public, private) ∷ rest ≡ all) where
      are_halves : private_halves_of done ++ (player, private) ∷ private_halves_of rest ≡ private_halves_of all
      are_halves = sym (halves_split done rest (player, public, private)) ∙ ap (λ (l : List (ℕ × List ℕ × ℕ)). private_halves_of l) are

      pub turn_broken : (stop : Stop) {files files_mid files_now : Files} {image between next : Files → Type 0} {old middle new : Moment}
          → MakesAt (on_devices before) (went (live_of beside fence here)) files image files_mid between old middle → MakesAt (on_devices turn_of) (by_stop stop) files_mid between files_now next middle new
          → MakesAt (on_devices (dealing.offers c round dealer.public (private_halves_of all) (live_of beside fence start))) (by_stop stop) files image files_now next old new
      turn_broken stop first second =
          end_makes c round dealer.public (private_halves_of done) (player, private) (live_of beside fence start) (live_of beside fence here) public same (private_halves_of rest) (private_halves_of all) are_halves stop first second

      pub turn_unsaid : (stop : Stop) {out middle now : List Entry} → Tells before (went (live_of beside fence here)) out middle → Tells turn_of (by_stop stop) middle now
          → Tells (dealing.offers c round dealer.public (private_halves_of all) (live_of beside fence start)) (by_stop stop) out now
      turn_unsaid stop first second =
          end_told c round dealer.public (private_halves_of done) (player, private) (live_of beside fence start) (live_of beside fence here) public same (private_halves_of rest) (private_halves_of all) are_halves stop first second

-- all turns
module _ {Dir : Type 0} (c : Fixed Dir) (round : Round) (public : List ℕ) (st : Live Dir) (done all : List (ℕ × List ℕ × ℕ)) (same : done ≡ all) (how : Ended Fault (Live Dir)) where
  pub all_made : {files files_now : Files} {image next : Files → Type 0} {old new : Moment} → MakesAt (on_devices (dealing.offers c round public (private_halves_of done) st)) how files image files_now next old new
      → MakesAt (on_devices (dealing.offers c round public (private_halves_of all) st)) how files image files_now next old new
  all_made {files} {files_now} {image} {next} {old} {new} made = subst (λ (l : List (ℕ × List ℕ × ℕ)). MakesAt (on_devices (dealing.offers c round public (private_halves_of l) st)) how files image files_now next old new) same made

  pub all_told : {out now : List Entry} → Tells (dealing.offers c round public (private_halves_of done) st) how out now → Tells (dealing.offers c round public (private_halves_of all) st) how out now
  all_told {out} {now} told = subst (λ (l : List (ℕ × List ℕ × ℕ)). Tells (dealing.offers c round public (private_halves_of l) st) how out now) same told

-- WHERE THIS NODE DEALS

pub some_and : {A : Type 0} (P : A → Type 0) (o : Option A) (x : A) → o ≡ Some x → P x → IsSomeAnd o P
some_and {A} P o x is p = let Q : Option A → Type 0 = λ q. IsSomeAnd q P in subst Q (sym is) p

module _ {Dir : Type 0} (c : Fixed Dir) (beside : Beside Dir) (fence : Readiness) (life : Life Dir) where
  abbrev st : Live Dir
  st = live_of beside fence life

  abbrev by_parts : Option Round → Option live.Dealer → Course Dir Fault (Live Dir)
  by_parts found its = option_map_or (λ round. option_map_or (λ d. dealing.offers c round d.public (setup.unsent_of_round round d) st) its (Goes st)) found (Goes st)

  pub deals_unknown : life.round ≡ None → dealing.deals c st ≡ Goes st
  deals_unknown none = ap (λ (o : Option Round). by_parts o (option_map dealer_of life.dealer)) none

  -- a life that only watches gives itself nothing
  pub watches_itself : (round : Round) (public : List ℕ) (private : ℕ) → life.player ≡ None → dealing.offers_to_itself c round public private st ≡ Goes st
  watches_itself round public private none = ap (λ (p : Option Player). dealing.offers_to_itself_in c round public private st (seat_of p)) none

  pub deals_without : life.dealer ≡ None → dealing.deals c st ≡ Goes st
  deals_without none = ap (λ (o : Option Dealer). by_parts life.round (option_map dealer_of o)) none ∙ either life.round
    where
      either : (o : Option Round) → by_parts o None ≡ Goes st
      either None = refl
      either (Some round) = refl

  module _ (round : Round) (dealer : Dealer) (has : life.round ≡ Some round) (deals : life.dealer ≡ Some dealer) (same : round ≡ dealer.round) (sent : List (ℕ × List ℕ × ℕ))
      (is : sent ≡ with_public dealer.public (unsent dealer.acks dealer.privates dealer.round.players))
    where
      deals_as : dealing.deals c st ≡ dealing.offers c round dealer.public (private_halves_of sent) st
      deals_as =
          ap (λ (o : Option Round). by_parts o (option_map dealer_of life.dealer)) has
          ∙ ap (λ (o : Option Dealer). by_parts (Some round) (option_map dealer_of o)) deals
          ∙ ap (λ (l : List (ℕ × ℕ)). dealing.offers c round dealer.public l st)
          (ap (λ (r : Round). setup.unsent_of (maps.entries dealer.acks) dealer.privates r.players) same
          ∙ unsent_is dealer.acks dealer.privates dealer.round.players
          ∙ sym (halves_back dealer.public (unsent dealer.acks dealer.privates dealer.round.players))
          ∙ ap (λ (l : List (ℕ × List ℕ × ℕ)). private_halves_of l) (sym is))

      pub deals_made : (how : Ended Fault (Live Dir)) {files files_now : Files} {image next : Files → Type 0} {old new : Moment}
          → MakesAt (on_devices (dealing.offers c round dealer.public (private_halves_of sent) st)) how files image files_now next old new → MakesAt (on_devices (dealing.deals c st)) how files image files_now next old new
      deals_made how {files} {files_now} {image} {next} {old} {new} made = subst (λ (x : Course Dir Fault (Live Dir)). MakesAt (on_devices x) how files image files_now next old new) (sym deals_as) made

      pub deals_told : (how : Ended Fault (Live Dir)) {out now : List Entry} → Tells (dealing.offers c round dealer.public (private_halves_of sent) st) how out now → Tells (dealing.deals c st) how out now
      deals_told how {out} {now} told = subst (λ (x : Course Dir Fault (Live Dir)). Tells x how out now) (sym deals_as) told

pub sent_halves : {Dir : Type 0} (life : Life Dir) (dealer : Dealer) → life.dealer ≡ Some dealer → (sent : List (ℕ × List ℕ × ℕ)) → sent ≡ with_public dealer.public (unsent dealer.acks dealer.privates dealer.round.players)
    → IsSomeAnd life.dealer (λ d. AllByRecursion (IsHalf d.public d.privates) sent)
sent_halves life dealer deals sent is =
    some_and (λ (d : Dealer). AllByRecursion (IsHalf d.public d.privates) sent) life.dealer dealer deals
    (subst (λ (l : List (ℕ × List ℕ × ℕ)). AllByRecursion (IsHalf dealer.public dealer.privates) l) (sym is) (unsent_halves dealer.public dealer.privates dealer.acks dealer.round.players))

-- it says nothing, and goes on
module _ {Dir : Type 0} (course : Course Dir Fault (Live Dir)) (st : Live Dir) (is : course ≡ Goes st) where
  pub passes_made : (files : Files) (image : Files → Type 0) (m : Moment) → MakesAt (on_devices course) (went st) files image files image m m
  passes_made files image m = subst (λ (x : Course Dir Fault (Live Dir)). MakesAt (on_devices x) (went st) files image files image m m) (sym is) (makes_nothing files image m refl)

  pub passes_told : (out : List Entry) → Tells course (went st) out out
  passes_told out = subst (λ (x : Course Dir Fault (Live Dir)). Tells x (went st) out out) (sym is) (record { lines = []; added = sym (append-nil out); by = (refl, refl) })
