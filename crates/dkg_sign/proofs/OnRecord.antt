-- What a put of the record and a barrier leave of an epoch that is recorded. Nothing else here speaks of the journal's operations.
use Rattle.std.proofs.Common.{◌≡◌, ◌⊎◌, inl, inr, ℕ, ◌<◌, ◌^◌, ◌-◌, List, [], Some, Result, Ok, Err, refl, sym, ◌∙◌, ap}
use Rattle.std.proofs.lemmas.List.{append-nil}
use Rattle.std.proofs.lemmas.Result.{err_from_is_err_and}
use Rattle.std.specs.FinMap.{get}
use Rattle.std.specs.Prelude.{IsErrAnd}
use Rattle.dkg_values.specs.Codec.{whole}
use Rattle.dkg_values.specs.Uint.{uint, uint_at}
use Rattle.dkg_values.specs.UintGrammar.{u64_grammar}
use Rattle.dkg_values.specs.declared.name.Name.TheVariants.{Plan}
use Rattle.dkg_journal.specs.Burn.{Burn}
use Rattle.dkg_journal.specs.Disk.{ImagesFollow, Inside, IsUnchanged, Lands}
use Rattle.dkg_journal.specs.Names.{Files}
use Rattle.dkg_journal.specs.Operations.{Journaled, PutsPlan, Tried, FinishedOperation}
use Rattle.dkg_sign.specs.Recorded.{recorded, epoch_in, epoch_read}
use Rattle.dkg_journal.specs.declared.call.JournalError.{JournalError}
use Rattle.dkg_journal.specs.declared.call.JournalError.TheVariants as of_journal
use Rattle.dkg_journal.specs.declared.disk.Op.TheVariants.{Barrier}
use Rattle.dkg_sign.specs.Errors.{desk_error_of}
use Rattle.dkg_sign.specs.Registers.{SameFiles}
use Rattle.dkg_sign.specs.declared.error.DeskError.{DeskError}
use Rattle.dkg_sign.specs.declared.error.DeskError.TheVariants.{NoMemory}

-- an epoch as it is spelled is read again
spelled : (epoch : ℕ) → epoch < 2 ^ 64 → whole (uint_at (2 ^ 64 - 1) (uint epoch)) ≡ Ok epoch
spelled epoch small = ap (λ (b : List ℕ). whole (uint_at (2 ^ 64 - 1) b)) (sym (append-nil (uint epoch))) ∙ ap whole (u64_grammar.again epoch [] small)

-- a record of an epoch
pub record_says : (epoch : ℕ) (c : Files) → epoch < 2 ^ 64 → get c Plan ≡ Some (uint epoch) → recorded c ≡ Ok (Some epoch)
record_says epoch c small is = ap epoch_in is ∙ ap epoch_read (spelled epoch small)

-- the record that was not touched
pub record_same : (old c : Files) → get c Plan ≡ get old Plan → recorded c ≡ recorded old
record_same old c same = ap epoch_in same

-- a put that ended
pub put_done : (epoch : ℕ) (bytes : List ℕ) (old new : Files) (image : Files → Type 0) (f g : Burn) → epoch < 2 ^ 64 → bytes ≡ uint epoch → FinishedOperation (PutsPlan bytes) old new image f g → (recorded new ≡ Ok (Some epoch)) × Lands new image
put_done epoch bytes old new image f g small spelled_so finished =
    (record_says epoch new small (ap (λ (j : Journaled). j.plan) finished.after ∙ ap (λ (b : List ℕ). Some b) spelled_so), finished.settled)

-- a put wherever it ended
pub put_tried : (epoch : ℕ) (bytes : List ℕ) (old : Files) (image : Files → Type 0) (f g : Burn) → epoch < 2 ^ 64 → bytes ≡ uint epoch → Tried (PutsPlan bytes) old image f g
    → (c : Files) → image c → (recorded c ≡ recorded old) ⊎ (recorded c ≡ Ok (Some epoch))
put_tried epoch bytes old image f g small spelled_so tried c now =
    elim (tried.each c now) [
      | inl before ↦ inl (record_same old c (ap (λ (j : Journaled). j.plan) before))
      | inr (inl after) ↦ inr (record_says epoch c small (ap (λ (j : Journaled). j.plan) after ∙ ap (λ (b : List ℕ). Some b) spelled_so))
      | inr (inr part) ↦ absurd part
    ]

-- a barrier, and a call behind it that changed nothing
pub barrier_same : {D : Type 0} (files : D → Files) (image : D → Files → Type 0) (a b c : D) → ImagesFollow (Inside Barrier) (image a) (image b) → IsUnchanged files image b c → ImagesFollow SameFiles (image a) (image c)
barrier_same files image a b c barrier same = record { each = λ x now. barrier.each x (same.same_images x now) }

want_is : (e : JournalError) → desk_error_of e ≡ NoMemory → e ≡ of_journal.NoMemory
want_is of_journal.Disk is = absurd cc
want_is (of_journal.Corrupt name place) is = absurd cc
want_is of_journal.TooLong is = absurd cc
want_is of_journal.Cut is = absurd cc
want_is of_journal.NoMemory is = refl

-- the journal wanted memory where the desk tells so
pub want_passed : {T : Type 0} (e : JournalError) (r : Result T DeskError) → IsErrAnd r (λ f. f ≡ desk_error_of e) → r ≡ Err NoMemory → ◌≡◌ {A = Result (Unit {0}) JournalError} (Err e) (Err of_journal.NoMemory)
want_passed {T} e r p is =
    let q = err_from_is_err_and r p in
    let same : ◌≡◌ {A = Result T DeskError} (Err q.0) (Err NoMemory) = sym q.1 ∙ is in
    let one : q.0 ≡ NoMemory = cc in
    ap (λ (f : JournalError). Err f) (want_is e (sym q.2 ∙ one))
