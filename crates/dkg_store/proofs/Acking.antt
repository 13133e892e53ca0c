-- An acknowledgement that a dealer handles, as acts.
use Rattle.std.proofs.Common.{◌≡◌, ℕ, List, Option, Bool, true, false, not, Result, Ok, Err, if◌then◌else◌, refl, sym, ap, subst, ◌∙◌}
use Rattle.dkg_ceremony.specs.declared.ceremony.AckError.{AckError}
use Rattle.dkg_ceremony.specs.declared.ceremony.AckError.TheVariants as acks
use Rattle.dkg_journal.specs.Names.{Files}
use Rattle.dkg_journal.specs.Records.{SectionEntry}
use Rattle.dkg_store.specs.Acts.{Acts, Goes, bind, by_want, Ended, went, broken, Moment, MadeAt}
use Rattle.dkg_store.specs.Calls.{acking, acked, noting, by_error, cause_of}
use Rattle.dkg_store.specs.Errors.{IsOfDevices}
use Rattle.dkg_store.specs.declared.call.StoreError.{StoreError}
use Rattle.dkg_store.specs.declared.call.StoreError.TheVariants.{NoMemory}
use Rattle.dkg_store.specs.declared.dealer.AckHandleError.{AckHandleError}
use Rattle.dkg_store.specs.declared.dealer.AckHandleError.TheVariants.{Refused, Store as OfStore}
use Rattle.dkg_store.specs.declared.dealer.AckOutcome.{AckOutcome}
use Rattle.dkg_store.specs.declared.dealer.AckOutcome.TheVariants.{Recorded, Duplicate}
use Rattle.dkg_store.proofs.Acts.{made_next, made_none, made_nothing}
use Rattle.dkg_store.specs.Dealer.{AnswersAck, IsDueAs, ack_outcome_of}
use Rattle.dkg_store.specs.Rest.{KeepsAck}
use Rattle.dkg_store.specs.declared.store.Store.{Store}
use Rattle.dkg_store.proofs.Acting.{then_broken}
use Rattle.dkg_store.proofs.Left.{due_want}

abbrev pub outcome : Bool → AckOutcome
outcome new = if new then Recorded else Duplicate

abbrev told : Bool → Acts StoreError (Result AckOutcome AckError)
told new = Goes (Ok (outcome new))

-- what a dealer does where the check passes and none came in: it records, and tells what came of it
as_noting : (recorded : Bool) (e : SectionEntry) → bind (noting recorded e) told ≡ acking (Ok tt) false recorded e
as_noting true e = refl
as_noting false e = refl

module _ (check : Result (Unit {0}) AckError) (counted recorded : Bool) (e : SectionEntry) (passed : check ≡ Ok tt) (first : counted ≡ false) where
  same : bind (noting recorded e) told ≡ acking check counted recorded e
  same =
      as_noting recorded e
      ∙ ap (λ (c : Bool). acking (Ok tt) c recorded e) (sym first)
      ∙ ap (λ (r : Result (Unit {0}) AckError). acking r counted recorded e) (sym passed)

  -- it is recorded, or was before
  pub acking_done : {files files_now : Files} {image next : Files → Type 0} {old new : Moment} (fresh is : Bool) → fresh ≡ is → MadeAt (noting recorded e) (went fresh) files image files_now next old new
      → MadeAt (acking check counted recorded e) (went (Ok (outcome is))) files image files_now next old new
  acking_done {files} {files_now} {image} {next} {old} {new} fresh is which made =
      subst (λ (acts : Acts StoreError (Result AckOutcome AckError)). MadeAt acts (went (Ok (outcome is))) files image files_now next old new) same
      (made_next told (subst (λ (b : Bool). MadeAt (noting recorded e) (went b) files image files_now next old new) which made) (made_nothing _ _ _ refl))

  -- .. or the append was broken off
  pub acking_broken : {files files_now : Files} {image next : Files → Type 0} {old new : Moment} {how : Ended StoreError (Result AckOutcome AckError)} (error : StoreError) → IsOfDevices error → how ≡ broken (cause_of error) → MadeAt (noting recorded e) (by_error error) files image files_now next old new
      → MadeAt (acking check counted recorded e) how files image files_now next old new
  acking_broken {files} {files_now} {image} {next} {old} {new} {how} error of_devices is made =
      subst (λ (acts : Acts StoreError (Result AckOutcome AckError)). MadeAt acts how files image files_now next old new) same
      (then_broken told error of_devices is made)

-- a refusal, and an acknowledgement of a player whose came in before
pub acking_refused : (check : Result (Unit {0}) AckError) (counted recorded : Bool) (e : SectionEntry) (error : AckError) (files : Files) (image : Files → Type 0) (m : Moment) → check ≡ Err error → MadeAt (acking check counted recorded e) (went (Err error)) files image files image m m
acking_refused check counted recorded e error files image m refused =
    subst (λ (r : Result (Unit {0}) AckError). MadeAt (acking r counted recorded e) (went (Err error)) files image files image m m) (sym refused) (made_nothing files image m refl)

pub acking_again : (check : Result (Unit {0}) AckError) (counted recorded : Bool) (e : SectionEntry) (files : Files) (image : Files → Type 0) (m : Moment) → check ≡ Ok tt → counted ≡ true → MadeAt (acking check counted recorded e) (went (Ok Duplicate)) files image files image m m
acking_again check counted recorded e files image m passed before =
    subst (λ (r : Result (Unit {0}) AckError). MadeAt (acking r counted recorded e) (went (Ok Duplicate)) files image files image m m) (sym passed)
    (subst (λ (b : Bool). MadeAt (acking (Ok tt) b recorded e) (went (Ok Duplicate)) files image files image m m) (sym before) (made_nothing files image m refl))

-- the check was refused, or it wanted memory
pub acking_unchecked : (check : Result (Unit {0}) AckError) (counted recorded : Bool) (entry : SectionEntry) (files : Files) (image : Files → Type 0) (m : Moment) (r : Result AckOutcome AckHandleError) (e : AckHandleError) → r ≡ Err e
    → ((a : AckError) → e ≡ Refused a → check ≡ Err a) → ((s : StoreError) → e ≡ OfStore s → s ≡ NoMemory) → MadeAt (acking check counted recorded entry) (acked r) files image files image m m
acking_unchecked check counted recorded entry files image m r (Refused a) is refused wanted =
    subst (λ (x : Result AckOutcome AckHandleError). MadeAt (acking check counted recorded entry) (acked x) files image files image m m) (sym is) (acking_refused check counted recorded entry a files image m (refused a refl))
acking_unchecked check counted recorded entry files image m r (OfStore s) is refused wanted =
    made_none files image (acking check counted recorded entry) m by_want tt (ap acked is ∙ ap by_error (wanted s refl))

pub same_store : (e f : StoreError) → ◌≡◌ {A = Result AckOutcome AckHandleError} (Err (OfStore e)) (Err (OfStore f)) → e ≡ f
same_store e f is = cc

-- WHAT A DEALER ANSWERS, and what an error of it is due to

pub store_alone : (e : StoreError) (a : AckError) → ◌≡◌ {A = Result AckOutcome AckHandleError} (Err (OfStore e)) (Err (Refused a)) → ⊥
store_alone e a is = cc

pub ok_alone : (outcome : AckOutcome) (a : AckError) → ◌≡◌ {A = Result AckOutcome AckHandleError} (Ok outcome) (Err (Refused a)) → ⊥
ok_alone outcome a is = cc

pub check_answers : (e : AckHandleError) (check : Result (Unit {0}) AckError) (its : AckOutcome) → ((a : AckError) → ◌≡◌ {A = Result (Unit {0}) AckHandleError} (Err e) (Err (Refused a)) → check ≡ Err a)
    → (◌≡◌ {A = Result (Unit {0}) AckHandleError} (Err e) (Err (Refused acks.NoMemory)) → ⊥) → AnswersAck (Err e) check its
check_answers (Refused a) check its refused no_want = (refused a refl, λ is. no_want (ap (λ (x : AckError). Err (Refused x)) is))
check_answers (OfStore s) check its refused no_want = tt

pub check_due : (e : AckHandleError) (disk secrets cut want : Type 0) → ((s : StoreError) → ◌≡◌ {A = Result (Unit {0}) AckHandleError} (Err e) (Err (OfStore s)) → s ≡ NoMemory) → want → IsDueAs e disk secrets cut want
check_due (Refused a) disk secrets cut want memory w = tt
check_due (OfStore s) disk secrets cut want memory w = due_want s _ _ _ _ _ (memory s refl) w

outcome_new : (recorded : Bool) → outcome (not recorded) ≡ ack_outcome_of false recorded
outcome_new true = refl
outcome_new false = refl

pub outcome_there : (counted recorded new is : Bool) → new ≡ not recorded → counted ≡ false → new ≡ is → outcome is ≡ ack_outcome_of counted recorded
outcome_there counted recorded new is known first which =
    ap outcome (sym which ∙ known) ∙ outcome_new recorded ∙ ap (λ (b : Bool). ack_outcome_of b recorded) (sym first)

pub ack_kept_as : {Dir : Type 0} {ends ends_too : Option Bool} {key : ℕ × ℕ} {ack : List ℕ} {old new : Store Dir} → ends ≡ ends_too → KeepsAck ends key ack old new → KeepsAck ends_too key ack old new
ack_kept_as {key = key} {ack = ack} {old = old} {new = new} is keeps = subst (λ (o : Option Bool). KeepsAck o key ack old new) is keeps
