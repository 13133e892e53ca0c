-- What a player answers, as acts.
use Rattle.std.proofs.Common.{◌≡◌, ℕ, List, Option, Some, Bool, true, false, Result, Ok, Err, sym, ◌∙◌, ap, subst}
use Rattle.dkg_ceremony.specs.declared.ceremony.DealingError.{DealingError}
use Rattle.dkg_journal.specs.Names.{Files}
use Rattle.dkg_store.specs.Acts.{Ended, Goes, broken, went, Moment, MadeAt}
use Rattle.dkg_store.specs.Calls.{put_and_appended, recording, keeping, accepting, answering, answered, by_error, cause_of}
use Rattle.dkg_store.specs.Errors.{IsOfDevices}
use Rattle.dkg_store.specs.Events.{event_spelling}
use Rattle.dkg_store.specs.declared.event.Event.TheVariants as events
use Rattle.dkg_store.specs.declared.call.StoreError.{StoreError}
use Rattle.dkg_store.specs.declared.player.DealingHandleError.{DealingHandleError}
use Rattle.dkg_store.specs.declared.player.DealingHandleError.TheVariants.{Store as OfStore}
use Rattle.dkg_secrets.specs.declared.secrets.SecretOp.TheVariants.{PutDealing}
use Rattle.dkg_store.proofs.Acts.{made_nothing}
use Rattle.dkg_store.proofs.Acting.{breaks_off, then_broken}

-- a dealing that was not recorded
pub recorded_new : (known : Bool) (epoch dealer : ℕ) (public : List ℕ) (private : ℕ) {how : Ended StoreError Bool} {files files_now : Files} {image next : Files → Type 0} {old new : Moment} → known ≡ false
    → MadeAt (recording known epoch dealer public private) how files image files_now next old new → MadeAt (put_and_appended (PutDealing epoch dealer private) (epoch, event_spelling (events.Dealing dealer public)) true) how files image files_now next old new
recorded_new known epoch dealer public private {how} {files} {files_now} {image} {next} {old} {new} is made =
    subst (λ (k : Bool). MadeAt (recording k epoch dealer public private) how files image files_now next old new) is made

-- .. and one that was
pub answered_known : (ack_of : List ℕ → List ℕ) (o : Option (List ℕ × ℕ)) (pair : List ℕ × ℕ) (check : Result (Unit {0}) DealingError) (epoch dealer : ℕ) (public : List ℕ) (private : ℕ) (ack : List ℕ) {files : Files} {image : Files → Type 0} {m : Moment}
    → o ≡ Some pair → ack ≡ ack_of pair.0 → MadeAt (answering ack_of o check epoch dealer public private) (went (Ok ack)) files image files image m m
answered_known ack_of o pair check epoch dealer public private ack {files} {image} {m} known is =
    subst (λ (k : Option (List ℕ × ℕ)). MadeAt (answering ack_of k check epoch dealer public private) (went (Ok ack)) files image files image m m) (sym known)
    (made_nothing files image m (ap (λ (a : List ℕ). Ok a) is))

-- a store's error that breaks acts off, as a player answers it
pub answered_broken : {A : Type 0} (r : Result A DealingHandleError) (e : DealingHandleError) (of_store : StoreError) → r ≡ Err e → e ≡ OfStore of_store → IsOfDevices of_store → answered r ≡ broken (cause_of of_store)
answered_broken r e of_store is means of_devices = ap answered is ∙ ap (λ (x : DealingHandleError). answered (Err x)) means ∙ breaks_off of_store of_devices

-- .. in recording a new dealing
pub accepting_broken : (check : Result (Unit {0}) DealingError) (epoch dealer : ℕ) (public told : List ℕ) (private : ℕ) (ack : List ℕ) (e : StoreError) {how : Ended StoreError (Result (List ℕ) DealingError)} {files files_now : Files} {image next : Files → Type 0} {old new : Moment}
    → IsOfDevices e → check ≡ Ok tt → told ≡ public → how ≡ broken (cause_of e) → MadeAt (keeping {S = Unit {0}} epoch dealer public told private tt) (by_error e) files image files_now next old new
    → MadeAt (accepting check epoch dealer public private ack) how files image files_now next old new
accepting_broken check epoch dealer public told private ack e {how} {files} {files_now} {image} {next} {old} {new} of_devices passed same is made =
    subst (λ (r : Result (Unit {0}) DealingError). MadeAt (accepting r epoch dealer public private ack) how files image files_now next old new) (sym passed)
    (then_broken (λ (u : Unit {0}). Goes (Ok ack)) e of_devices is
    (subst (λ (t : List ℕ). MadeAt (keeping {S = Unit {0}} epoch dealer public t private tt) (by_error e) files image files_now next old new) same made))
