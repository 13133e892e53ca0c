-- What a player's handling of a dealing comes to.
use Rattle.std.proofs.Common.{◌≡◌, ◌<◌, ◌^◌, inl, inr, ℕ, Bool, true, false, List, [], ◌∷◌, ◌++◌, Option, Some, None, is_some, IsSome, Result, Ok, Err, refl, sym, ap, subst, ◌∙◌}
use Rattle.std.specs.Prelude.{not, IsTrue, IfOk, IfSome, OnOk, OnErr, if◌then◌else◌}
use Rattle.std.specs.Ordering.{nat_cmp}
use Rattle.std.specs.FinMap as map
use Rattle.std.specs.FinMap.{FinMap, get, insert}
use Rattle.dkg_ceremony.specs.declared.ceremony.DealingError.{DealingError}
use Rattle.dkg_ceremony.specs.declared.round.RoundParts.{RoundParts as Round}
use Rattle.dkg_infos.specs.declared.entry.Entry.{Entry}
use Rattle.dkg_infos.specs.declared.entry.Entry.TheVariants.{Recorded}
use Rattle.dkg_store.specs.Called.{if_made, made_in}
use Rattle.dkg_journal.specs.Names.{Files}
use Rattle.dkg_store.specs.Pairs.{HoldsDealings, HoldsEither, Pairs}
use Rattle.dkg_secrets.specs.Secrets.{Secrets}
use Rattle.dkg_store.specs.Player.{Acknowledges, AnswersDealing, Handles, IsPlayerOf, MayKeep, Untouched, answer_to, handled_in, is_new, with_answer}
use Rattle.dkg_store.specs.Recorded.{AreChecked, at_epoch, first_refused, of_epoch, with_first}
use Rattle.dkg_store.specs.declared.call.StoreError.{StoreError}
use Rattle.dkg_store.specs.declared.player.DealingHandleError.{DealingHandleError}
use Rattle.dkg_store.specs.declared.player.DealingHandleError.TheVariants.{Refused, Store as OfStore}
use Rattle.dkg_store.specs.declared.player.Player.{Player}
use Rattle.dkg_store.specs.declared.store.Store.{Store}
use Rattle.dkg_store.proofs.Own.{first_checked, new_kept}
use Rattle.dkg_store.proofs.Passing.{one_more_passes}
use Rattle.dkg_store.proofs.Playing.{dealt, known, new, not_none, one_more, stored}

-- IS THE DEALING NEW

pub new_here : (kept : Option (List ℕ)) (recorded : Option (List ℕ × ℕ)) → kept ≡ None → recorded ≡ None → is_new kept recorded ≡ true
new_here kept recorded none unknown = ap (λ (o : Option (List ℕ)). is_new o recorded) none ∙ ap (λ (o : Option (List ℕ × ℕ)). is_new None o) unknown

pub kept_here : (kept : Option (List ℕ)) (recorded : Option (List ℕ × ℕ)) (ack : List ℕ) → kept ≡ Some ack → is_new kept recorded ≡ false
kept_here kept recorded ack is = ap (λ (o : Option (List ℕ)). is_new o recorded) is

either_none : (kept : Option (List ℕ)) (pair : List ℕ × ℕ) → is_new kept (Some pair) ≡ false
either_none None pair = refl
either_none (Some ack) pair = refl

pub recorded_here : (kept : Option (List ℕ)) (recorded : Option (List ℕ × ℕ)) (pair : List ℕ × ℕ) → recorded ≡ Some pair → is_new kept recorded ≡ false
recorded_here kept recorded pair is = ap (is_new kept) is ∙ either_none kept pair

-- WHAT IT ANSWERS

module _ (ack_of : List ℕ → List ℕ) (check : Result (Unit {0}) DealingError) (public : List ℕ) where
  pub refused_answer : (kept : Option (List ℕ)) (recorded : Option (List ℕ × ℕ)) (e : DealingError) → kept ≡ None → recorded ≡ None → check ≡ Err e → answer_to ack_of kept recorded check public ≡ Err e
  refused_answer kept recorded e none unknown refused =
      ap (λ (o : Option (List ℕ)). answer_to ack_of o recorded check public) none
      ∙ ap (λ (o : Option (List ℕ × ℕ)). answer_to ack_of None o check public) unknown
      ∙ ap (λ (r : Result (Unit {0}) DealingError). answer_to ack_of None None r public) refused

  pub accepted_answer : (kept : Option (List ℕ)) (recorded : Option (List ℕ × ℕ)) (ack : List ℕ) → kept ≡ None → recorded ≡ None → check ≡ Ok tt → ack ≡ ack_of public → answer_to ack_of kept recorded check public ≡ Ok ack
  accepted_answer kept recorded ack none unknown passed is =
      ap (λ (o : Option (List ℕ)). answer_to ack_of o recorded check public) none
      ∙ ap (λ (o : Option (List ℕ × ℕ)). answer_to ack_of None o check public) unknown
      ∙ ap (λ (r : Result (Unit {0}) DealingError). answer_to ack_of None None r public) passed
      ∙ ap (λ (a : List ℕ). Ok a) (sym is)

  pub kept_answer : (kept : Option (List ℕ)) (recorded : Option (List ℕ × ℕ)) (ack : List ℕ) → kept ≡ Some ack → answer_to ack_of kept recorded check public ≡ Ok ack
  kept_answer kept recorded ack is = ap (λ (o : Option (List ℕ)). answer_to ack_of o recorded check public) is

  pub recorded_answer : (kept : Option (List ℕ)) (recorded : Option (List ℕ × ℕ)) (pair : List ℕ × ℕ) (ack : List ℕ) → kept ≡ None → recorded ≡ Some pair → ack ≡ ack_of pair.0 → answer_to ack_of kept recorded check public ≡ Ok ack
  recorded_answer kept recorded pair ack none there is =
      ap (λ (o : Option (List ℕ)). answer_to ack_of o recorded check public) none
      ∙ ap (λ (o : Option (List ℕ × ℕ)). answer_to ack_of None o check public) there
      ∙ ap (λ (a : List ℕ). Ok a) (sym is)

-- A refusal is of a dealing that is not recorded, and that the check refused.
pub answer_refused : (ack_of : List ℕ → List ℕ) (kept : Option (List ℕ)) (recorded : Option (List ℕ × ℕ)) (check : Result (Unit {0}) DealingError) (public : List ℕ) (e : DealingError)
    → answer_to ack_of kept recorded check public ≡ Err e → (recorded ≡ None) × (check ≡ Err e)
answer_refused ack_of (Some ack) recorded check public e is = absurd (let h : ◌≡◌ {A = Result (List ℕ) DealingError} (Ok ack) (Err e) = is in cc)
answer_refused ack_of None (Some pair) check public e is = absurd (let h : ◌≡◌ {A = Result (List ℕ) DealingError} (Ok (ack_of pair.0)) (Err e) = is in cc)
answer_refused ack_of None None (Ok passed) public e is = absurd (let h : ◌≡◌ {A = Result (List ℕ) DealingError} (Ok (ack_of public)) (Err e) = is in cc)
answer_refused ack_of None None (Err x) public e is = (refl, let h : ◌≡◌ {A = Result (List ℕ) DealingError} (Err x) (Err e) = is in cc)

-- its answer is a dealer's first, or is kept already
pub first_answer : (acks : FinMap nat_cmp (List ℕ)) (dealer : ℕ) (ack : List ℕ) → get acks dealer ≡ None → insert acks dealer ack ≡ with_answer {E = DealingHandleError} acks dealer (Ok ack)
first_answer acks dealer ack none = sym (ap (λ (o : Option (List ℕ)). if is_some o then acks else insert acks dealer ack) none)

pub same_answer : (acks : FinMap nat_cmp (List ℕ)) (dealer : ℕ) (ack : List ℕ) → get acks dealer ≡ Some ack → acks ≡ with_answer {E = DealingHandleError} acks dealer (Ok ack)
same_answer acks dealer ack is = sym (ap (λ (o : Option (List ℕ)). if is_some o then acks else insert acks dealer ack) is)

-- what is new where the dealing was new, and what was where it wasn't
pub made_new : {M : Type 0} (b : Bool) (more old : M) → b ≡ true → more ≡ if_made (Some b) more old
made_new b more old is = ap (λ (x : Bool). if_made (Some x) more old) (sym is)

pub made_old : {M : Type 0} (b : Bool) (more old : M) → b ≡ false → old ≡ if_made (Some b) more old
made_old b more old is = ap (λ (x : Bool). if_made (Some x) more old) (sym is)

pub unfit : (b : Bool) (P : Type 0) → b ≡ false → IsTrue b → P
unfit b P is true_is = absurd (let h : ◌≡◌ {A = Bool} b true = true_is in cc)

-- an error of the store is no refusal
pub of_store_alone : {A : Type 0} (s : StoreError) (e : DealingError) → ◌≡◌ {A = Result A DealingHandleError} (Err (OfStore s)) (Err (Refused e)) → ⊥
of_store_alone s e is = cc

pub went_alone : (ack : List ℕ) (e : DealingError) → ◌≡◌ {A = Result (List ℕ) DealingHandleError} (Ok ack) (Err (Refused e)) → ⊥
went_alone ack e is = cc

-- the line that is told
pub told_so : (epoch dealer : ℕ) {public told : List ℕ} (private : ℕ) {out out_too : List Entry} → out ≡ out_too → told ≡ public → (out ++ Recorded epoch dealer told private ∷ []) ≡ (out_too ++ Recorded epoch dealer public private ∷ [])
told_so epoch dealer private a b = λ i. a i ++ Recorded epoch dealer (b i) private ∷ []

pub passed_not_refused : (check : Result (Unit {0}) DealingError) (e : DealingError) → check ≡ Ok tt → check ≡ Err e → ⊥
passed_not_refused check e passed refused = let h : ◌≡◌ {A = Result (Unit {0}) DealingError} (Ok tt) (Err e) = sym passed ∙ refused in cc

-- WHAT A CALLER MAY READ OFF

new_unknown : (kept : Option (List ℕ)) (recorded : Option (List ℕ × ℕ)) → is_new kept recorded ≡ true → (kept ≡ None) × (recorded ≡ None)
new_unknown None None is = (refl, refl)
new_unknown None (Some pair) is = absurd (let h : ◌≡◌ {A = Bool} false true = is in cc)
new_unknown (Some ack) recorded is = absurd (let h : ◌≡◌ {A = Bool} false true = is in cc)

some_is : (a b : Bool) → ◌≡◌ {A = Option Bool} (Some a) (Some b) → a ≡ b
some_is a b is = cc

-- it was new where it is recorded, ..
pub recorded_new : (kept : Option (List ℕ)) (recorded : Option (List ℕ × ℕ)) (r : Result (List ℕ) DealingHandleError) → made_in (is_new kept recorded) r ≡ Some true → (kept ≡ None) × (recorded ≡ None)
recorded_new kept recorded (Ok ack) is = new_unknown kept recorded (some_is _ _ is)
recorded_new kept recorded (Err e) is = absurd (let h : ◌≡◌ {A = Option Bool} None (Some true) = is in cc)

passed_by : (ack_of : List ℕ → List ℕ) (check : Result (Unit {0}) DealingError) (public ack : List ℕ) → answer_to ack_of None None check public ≡ Ok ack → check ≡ Ok tt
passed_by ack_of (Ok tt) public ack is = refl
passed_by ack_of (Err e) public ack is = absurd (let h : ◌≡◌ {A = Result (List ℕ) DealingError} (Err e) (Ok ack) = is in cc)

-- .. and passed the check
pub recorded_passes : (ack_of : List ℕ → List ℕ) (check : Result (Unit {0}) DealingError) (public : List ℕ) (kept : Option (List ℕ)) (recorded : Option (List ℕ × ℕ)) (r : Result (List ℕ) DealingHandleError) → made_in (is_new kept recorded) r ≡ Some true
    → AnswersDealing r (answer_to ack_of kept recorded check public) → check ≡ Ok tt
recorded_passes ack_of check public kept recorded (Ok ack) is answers =
    let new = new_unknown kept recorded (some_is _ _ is) in
    passed_by ack_of check public ack
    (sym (ap (λ (o : Option (List ℕ)). answer_to ack_of o recorded check public) new.0 ∙ ap (λ (o : Option (List ℕ × ℕ)). answer_to ack_of None o check public) new.1) ∙ answers)
recorded_passes ack_of check public kept recorded (Err e) is answers = absurd (let h : ◌≡◌ {A = Option Bool} None (Some true) = is in cc)

mirrors_by : (ends : Option Bool) (epoch dealer : ℕ) (pair : List ℕ × ℕ) (own own_now : FinMap nat_cmp (List ℕ × ℕ)) (pairs pairs_now : Pairs) → own_now ≡ if_made ends (with_first own dealer pair) own → pairs_now ≡ if_made ends (insert pairs (epoch, dealer) pair) pairs
    → IfSome ends (λ made. IsTrue made → dealer < 2 ^ 32) → (ends ≡ Some true → get pairs (epoch, dealer) ≡ None) → map.entries own ≡ at_epoch epoch pairs → map.entries own_now ≡ at_epoch epoch pairs_now
mirrors_by None epoch dealer pair own own_now pairs pairs_now d p fits new e = ap (λ (m : FinMap nat_cmp (List ℕ × ℕ)). map.entries m) d ∙ e ∙ sym (ap (λ (m : Pairs). at_epoch epoch m) p)
mirrors_by (Some false) epoch dealer pair own own_now pairs pairs_now d p fits new e = ap (λ (m : FinMap nat_cmp (List ℕ × ℕ)). map.entries m) d ∙ e ∙ sym (ap (λ (m : Pairs). at_epoch epoch m) p)
mirrors_by (Some true) epoch dealer pair own own_now pairs pairs_now d p fits new e =
    ap (λ (m : FinMap nat_cmp (List ℕ × ℕ)). map.entries m) d ∙ new_kept epoch pairs own dealer pair (fits refl) (new refl) e ∙ sym (ap (λ (m : Pairs). at_epoch epoch m) p)

checked_by : {E : Type 0} (check : ℕ → List ℕ → ℕ → Result (Unit {0}) E) (ends : Option Bool) (dealer : ℕ) (pair : List ℕ × ℕ) (own own_now : FinMap nat_cmp (List ℕ × ℕ)) → own_now ≡ if_made ends (with_first own dealer pair) own
    → (ends ≡ Some true → check dealer pair.0 pair.1 ≡ Ok tt) → AreChecked check own → AreChecked check own_now
checked_by check None dealer pair own own_now d passes all = subst (λ (m : FinMap nat_cmp (List ℕ × ℕ)). AreChecked check m) (sym d) all
checked_by check (Some false) dealer pair own own_now d passes all = subst (λ (m : FinMap nat_cmp (List ℕ × ℕ)). AreChecked check m) (sym d) all
checked_by check (Some true) dealer pair own own_now d passes all = subst (λ (m : FinMap nat_cmp (List ℕ × ℕ)). AreChecked check m) (sym d) (first_checked check own dealer pair (passes refl) all)

passes_by : {E : Type 0} (check : ℕ → List ℕ → ℕ → Result (Unit {0}) E) (ends : Option Bool) (epoch dealer : ℕ) (pair : List ℕ × ℕ) (pairs pairs_now : Pairs) → pairs_now ≡ if_made ends (insert pairs (epoch, dealer) pair) pairs
    → (ends ≡ Some true → check dealer pair.0 pair.1 ≡ Ok tt) → first_refused check (of_epoch epoch pairs) ≡ None → first_refused check (of_epoch epoch pairs_now) ≡ None
passes_by check None epoch dealer pair pairs pairs_now p passes none = ap (λ (m : Pairs). first_refused check (of_epoch epoch m)) p ∙ none
passes_by check (Some false) epoch dealer pair pairs pairs_now p passes none = ap (λ (m : Pairs). first_refused check (of_epoch epoch m)) p ∙ none
passes_by check (Some true) epoch dealer pair pairs pairs_now p passes none =
    ap (λ (m : Pairs). first_refused check (of_epoch epoch m)) p ∙ one_more_passes check epoch (epoch, dealer) pair pairs (passes refl) none

-- Under IsPlayerOf whom the player has answered is recorded.
same_new : (kept : Option (List ℕ)) (recorded : Option (List ℕ × ℕ)) → ((ack : List ℕ) → kept ≡ Some ack → IsSome recorded) → is_new kept recorded ≡ not (is_some recorded)
same_new None recorded all = refl
same_new (Some ack) (Some pair) all = refl
same_new (Some ack) None all = absurd (not_none {A = List ℕ × ℕ} None (all ack refl) refl)

if_not : {M : Type 0} (known : Bool) (more old : M) → if_made (Some (not known)) more old ≡ (if known then old else more)
if_not true more old = refl
if_not false more old = refl

ok_is : (a b : List ℕ) → ◌≡◌ {A = Result (List ℕ) DealingError} (Ok a) (Ok b) → a ≡ b
ok_is a b is = cc

new_answer : (ack_of : List ℕ → List ℕ) (check : Result (Unit {0}) DealingError) (public ack : List ℕ) → answer_to ack_of None None check public ≡ Ok ack → ack ≡ ack_of public
new_answer ack_of (Ok tt) public ack is = sym (ok_is (ack_of public) ack is)
new_answer ack_of (Err e) public ack is = absurd (let h : ◌≡◌ {A = Result (List ℕ) DealingError} (Err e) (Ok ack) = is in cc)

module _ (ack_of : ℕ → Round → ℕ → List ℕ → List ℕ) (me : ℕ) (round : Round) (epoch dealer : ℕ) (pair : List ℕ × ℕ) (acks : FinMap nat_cmp (List ℕ)) (pairs pairs_now : Pairs) (check : Result (Unit {0}) DealingError) (ack : List ℕ)
    (is : IsPlayerOf ack_of me round acks pairs epoch)
  where
    abbrev Recorded_so : Option (List ℕ) → Option (List ℕ × ℕ) → Type 0
    Recorded_so kept recorded = pairs_now ≡ if_made (Some (is_new kept recorded)) (insert pairs (epoch, dealer) pair) pairs

    over : {m : Pairs} → pairs_now ≡ m → Acknowledges ack_of me round m epoch dealer ack → Acknowledges ack_of me round pairs_now epoch dealer ack
    over same its = subst (λ (n : Pairs). Acknowledges ack_of me round n epoch dealer ack) (sym same) its

    answer_by : (kept : Option (List ℕ)) (recorded : Option (List ℕ × ℕ)) → get acks dealer ≡ kept → get pairs (epoch, dealer) ≡ recorded → answer_to (ack_of me round dealer) kept recorded check pair.0 ≡ Ok ack → Recorded_so kept recorded
        → Acknowledges ack_of me round pairs_now epoch dealer ack
    answer_by (Some a) recorded here there answer so = over so (subst (λ (b : List ℕ). Acknowledges ack_of me round pairs epoch dealer b) (ok_is a ack answer) (is.kept dealer a here))
    answer_by None (Some kept) here there answer so = over so (stored ack_of me round pairs epoch dealer kept ack there (sym (ok_is (ack_of me round dealer kept.0) ack answer)))
    answer_by None None here there answer so = over so (new ack_of me round pairs epoch dealer pair ack (new_answer (ack_of me round dealer) check pair.0 ack answer))

    abbrev Kept_so : FinMap nat_cmp (List ℕ) → Option (List ℕ) → Type 0
    Kept_so acks_now kept = acks_now ≡ (if is_some kept then acks else insert acks dealer ack)

    player_by : (acks_now : FinMap nat_cmp (List ℕ)) (kept : Option (List ℕ)) (recorded : Option (List ℕ × ℕ)) → get acks dealer ≡ kept → get pairs (epoch, dealer) ≡ recorded → answer_to (ack_of me round dealer) kept recorded check pair.0 ≡ Ok ack
        → Recorded_so kept recorded → Kept_so acks_now kept → IsPlayerOf ack_of me round acks_now pairs_now epoch
    player_by acks_now (Some a) recorded here there answer so kept =
        subst (λ (m : FinMap nat_cmp (List ℕ)). IsPlayerOf ack_of me round m pairs_now epoch) (sym kept) (subst (λ (m : Pairs). IsPlayerOf ack_of me round acks m epoch) (sym so) is)
    player_by acks_now None (Some its) here there answer so kept =
        subst (λ (m : FinMap nat_cmp (List ℕ)). IsPlayerOf ack_of me round m pairs_now epoch) (sym kept) (subst (λ (m : Pairs). IsPlayerOf ack_of me round (insert acks dealer ack) m epoch) (sym so)
        (one_more ack_of me round pairs epoch dealer its acks ack is (stored ack_of me round pairs epoch dealer its ack there (sym (ok_is (ack_of me round dealer its.0) ack answer)))))
    player_by acks_now None None here there answer so kept =
        subst (λ (m : FinMap nat_cmp (List ℕ)). IsPlayerOf ack_of me round m pairs_now epoch) (sym kept) (subst (λ (m : Pairs). IsPlayerOf ack_of me round (insert acks dealer ack) m epoch) (sym so)
        (one_more ack_of me round (insert pairs (epoch, dealer) pair) epoch dealer pair acks ack (dealt ack_of me round pairs epoch dealer pair acks there is)
        (new ack_of me round pairs epoch dealer pair ack (new_answer (ack_of me round dealer) check pair.0 ack answer))))

module _ {Dir : Type 0} (ack_of : ℕ → Round → ℕ → List ℕ → List ℕ) (check_of : Round → ℕ → ℕ → List ℕ → ℕ → Result (Unit {0}) DealingError) (player now : Player) (old new : Store Dir) (out out_now : List Entry) (epoch dealer : ℕ) (public : List ℕ) (private : ℕ)
    (result : Result (List ℕ) DealingHandleError)
    (its : Handles (handled_in player.acks old.dealings epoch dealer result) result (answer_to (ack_of player.me player.round dealer) (get player.acks dealer) (get old.dealings (epoch, dealer)) (check_of player.round player.me dealer public private) public)
    epoch dealer public private player now old new out out_now)
  where
    passes : handled_in player.acks old.dealings epoch dealer result ≡ Some true → check_of player.round player.me dealer public private ≡ Ok tt
    passes is = recorded_passes (ack_of player.me player.round dealer) (check_of player.round player.me dealer public private) public (get player.acks dealer) (get old.dealings (epoch, dealer)) result is its.answers

    -- Where the player's own dealings were those that are recorded of the epoch, they still are; and they pass the check, where they did.
    pub handled_mirrors : map.entries player.dealings ≡ at_epoch epoch old.dealings → map.entries now.dealings ≡ at_epoch epoch new.dealings
    handled_mirrors e =
        mirrors_by (handled_in player.acks old.dealings epoch dealer result) epoch dealer (public, private) player.dealings now.dealings old.dealings new.dealings its.dealings its.pairs its.fits
        (λ is. (recorded_new (get player.acks dealer) (get old.dealings (epoch, dealer)) result is).1) e

    pub handled_checked : AreChecked (check_of player.round player.me) player.dealings → AreChecked (check_of player.round player.me) now.dealings
    handled_checked all = checked_by (check_of player.round player.me) (handled_in player.acks old.dealings epoch dealer result) dealer (public, private) player.dealings now.dealings its.dealings passes all

    -- Of the epoch's recorded dealings none is refused, where none was before.
    pub handled_passes : first_refused (check_of player.round player.me) (of_epoch epoch old.dealings) ≡ None → first_refused (check_of player.round player.me) (of_epoch epoch new.dealings) ≡ None
    handled_passes none = passes_by (check_of player.round player.me) (handled_in player.acks old.dealings epoch dealer result) epoch dealer (public, private) old.dealings new.dealings its.pairs passes none

    answered_by : (r : Result (List ℕ) DealingHandleError) → AnswersDealing r (answer_to (ack_of player.me player.round dealer) (get player.acks dealer) (get old.dealings (epoch, dealer)) (check_of player.round player.me dealer public private) public)
        → new.dealings ≡ if_made (handled_in player.acks old.dealings epoch dealer r) (insert old.dealings (epoch, dealer) (public, private)) old.dealings
        → IsPlayerOf ack_of player.me player.round player.acks old.dealings epoch → IfOk r (λ ack. Acknowledges ack_of player.me player.round new.dealings epoch dealer ack)
    answered_by (Ok ack) answers pairs is =
        answer_by ack_of player.me player.round epoch dealer (public, private) player.acks old.dealings new.dealings (check_of player.round player.me dealer public private) ack is (get player.acks dealer) (get old.dealings (epoch, dealer)) refl refl answers pairs
    answered_by (Err e) answers pairs is = tt

    -- The acknowledgement is that of the dealing that is recorded, ..
    pub handled_answer : IsPlayerOf ack_of player.me player.round player.acks old.dealings epoch → IfOk result (λ ack. Acknowledges ack_of player.me player.round new.dealings epoch dealer ack)
    handled_answer is = answered_by result its.answers its.pairs is

    played_by : (r : Result (List ℕ) DealingHandleError) → AnswersDealing r (answer_to (ack_of player.me player.round dealer) (get player.acks dealer) (get old.dealings (epoch, dealer)) (check_of player.round player.me dealer public private) public)
        → new.dealings ≡ if_made (handled_in player.acks old.dealings epoch dealer r) (insert old.dealings (epoch, dealer) (public, private)) old.dealings → now.acks ≡ with_answer player.acks dealer r
        → IsPlayerOf ack_of player.me player.round player.acks old.dealings epoch → IsPlayerOf ack_of player.me player.round now.acks new.dealings epoch
    played_by (Ok ack) answers pairs acks is =
        player_by ack_of player.me player.round epoch dealer (public, private) player.acks old.dealings new.dealings (check_of player.round player.me dealer public private) ack is now.acks (get player.acks dealer) (get old.dealings (epoch, dealer)) refl refl answers pairs acks
    played_by (Err e) answers pairs acks is =
        subst (λ (m : FinMap nat_cmp (List ℕ)). IsPlayerOf ack_of player.me player.round m new.dealings epoch) (sym acks) (subst (λ (m : Pairs). IsPlayerOf ack_of player.me player.round player.acks m epoch) (sym pairs) is)

    -- .. and so is each that the player keeps.
    pub handled_player : IsPlayerOf ack_of player.me player.round player.acks old.dealings epoch → IsPlayerOf ack_of now.me now.round now.acks new.dealings epoch
    handled_player is =
        subst (λ (n : ℕ). IsPlayerOf ack_of n now.round now.acks new.dealings epoch) (sym its.me)
        (subst (λ (r : Round). IsPlayerOf ack_of player.me r now.acks new.dealings epoch) (sym its.round) (played_by result its.answers its.pairs its.acks is))

    new_by : IsPlayerOf ack_of player.me player.round player.acks old.dealings epoch → is_new (get player.acks dealer) (get old.dealings (epoch, dealer)) ≡ not (is_some (get old.dealings (epoch, dealer)))
    new_by is = same_new (get player.acks dealer) (get old.dealings (epoch, dealer)) (λ ack here. known ack_of player.me player.round player.acks old.dealings epoch dealer ack is here)

    by_ok : {M : Type 0} (r : Result (List ℕ) DealingHandleError) (m more was : M) → m ≡ if_made (handled_in player.acks old.dealings epoch dealer r) more was → IsPlayerOf ack_of player.me player.round player.acks old.dealings epoch
        → OnOk r (m ≡ (if is_some (get old.dealings (epoch, dealer)) then was else more))
    by_ok {M} (Ok ack) m more was so is = so ∙ ap (λ (b : Bool). if_made (Some b) more was) (new_by is) ∙ if_not (is_some (get old.dealings (epoch, dealer))) more was
    by_ok (Err e) m more was so is = tt

    -- At Ok a dealing is recorded and told exactly where its dealer's was not recorded, and then it passed the check.
    pub handled_pairs : IsPlayerOf ack_of player.me player.round player.acks old.dealings epoch
        → OnOk result (new.dealings ≡ (if is_some (get old.dealings (epoch, dealer)) then old.dealings else insert old.dealings (epoch, dealer) (public, private)))
    handled_pairs is = by_ok result new.dealings (insert old.dealings (epoch, dealer) (public, private)) old.dealings its.pairs is

    pub handled_told : IsPlayerOf ack_of player.me player.round player.acks old.dealings epoch
        → OnOk result (out_now ≡ (if is_some (get old.dealings (epoch, dealer)) then out else out ++ Recorded epoch dealer public private ∷ []))
    handled_told is = by_ok result out_now (out ++ Recorded epoch dealer public private ∷ []) out its.says is

    passed_ok : (r : Result (List ℕ) DealingHandleError) → AnswersDealing r (answer_to (ack_of player.me player.round dealer) (get player.acks dealer) (get old.dealings (epoch, dealer)) (check_of player.round player.me dealer public private) public)
        → IsPlayerOf ack_of player.me player.round player.acks old.dealings epoch → get old.dealings (epoch, dealer) ≡ None → OnOk r (check_of player.round player.me dealer public private ≡ Ok tt)
    passed_ok (Ok ack) answers is none =
        recorded_passes (ack_of player.me player.round dealer) (check_of player.round player.me dealer public private) public (get player.acks dealer) (get old.dealings (epoch, dealer)) (Ok ack)
        (ap (λ (b : Bool). Some b) (new_by is ∙ ap (λ (o : Option (List ℕ × ℕ)). not (is_some o)) none)) answers
    passed_ok (Err e) answers is none = tt

    pub handled_passed : IsPlayerOf ack_of player.me player.round player.acks old.dealings epoch → get old.dealings (epoch, dealer) ≡ None → OnOk result (check_of player.round player.me dealer public private ≡ Ok tt)
    handled_passed is none = passed_ok result its.answers is none

    told_err : {M : Type 0} (r : Result (List ℕ) DealingHandleError) (m more was : M) → m ≡ if_made (handled_in player.acks old.dealings epoch dealer r) more was → OnErr r (m ≡ was)
    told_err (Ok ack) m more was so = tt
    told_err (Err e) m more was so = so

    -- At an error nothing of it is recorded, told or kept.
    pub handled_untold : OnErr result (out_now ≡ out)
    handled_untold = told_err result out_now (out ++ Recorded epoch dealer public private ∷ []) out its.says

    pub handled_no_pair : OnErr result (new.dealings ≡ old.dealings)
    handled_no_pair = told_err result new.dealings (insert old.dealings (epoch, dealer) (public, private)) old.dealings its.pairs

    pub handled_no_own : OnErr result (now.dealings ≡ player.dealings)
    handled_no_own = told_err result now.dealings (with_first player.dealings dealer (public, private)) player.dealings its.dealings

-- What a dealing that came in leaves: the dealings from before; or, where it is new and passed the check, these or those with it.
pub handled_may_keep : {same_player same_rest : Type 0} (kept : Option (List ℕ)) (check : Result (Unit {0}) DealingError) (result : Result (List ℕ) DealingHandleError) (pairs : Pairs) (key : ℕ × ℕ) (pair : List ℕ × ℕ) (next : Files → Type 0) (now : Secrets)
    → Untouched kept (get pairs key) check result same_player same_rest → (same_rest → HoldsDealings pairs next now) → HoldsEither pairs (insert pairs key pair) next now → MayKeep check pairs key pair next now
handled_may_keep {same_player} {same_rest} kept check result pairs key pair next now untouched still either = by_recorded (get pairs key) refl
  where
    by_check : (r : Result (Unit {0}) DealingError) → check ≡ r → get pairs key ≡ None → MayKeep check pairs key pair next now
    by_check (Ok tt) passed none = record { so = inr (passed, none, either) }
    by_check (Err e) refused none = record { so = inl (still (untouched.unchecked e refused)) }

    by_recorded : (o : Option (List ℕ × ℕ)) → get pairs key ≡ o → MayKeep check pairs key pair next now
    by_recorded None none = by_check check refl none
    by_recorded (Some its) there = record { so = inl (still (untouched.known (subst IsSome (sym there) refl))) }
