-- Operations of the devices as acts: done, or ended within by a cause.
use Rattle.std.proofs.Common.{◌≡◌, ◌⊎◌, List, Result, Err, IsErrOf, refl, sym, ◌∙◌, ap, subst, inl, inr, arith}
use Rattle.dkg_journal.specs.Burn.{Burn}
use Rattle.dkg_journal.specs.Fuse.{Fused, Reached, spent_once}
use Rattle.dkg_journal.specs.Names.{Files}
use Rattle.dkg_journal.specs.Operations as of_journal
use Rattle.dkg_journal.specs.Operations.{FinishedOperation, Tried}
use Rattle.dkg_journal.specs.Operations.{Journaled, journaled}
use Rattle.dkg_infos.specs.declared.entry.Entry.{Entry}
use Rattle.dkg_store.specs.Acts.{Acts, Do, Goes, World, world, Runs, Cause, EndsBy, Ended, went, broken, Stands, MadeAt, moment, Held, Operation, OnDisk, Changes}
use Rattle.dkg_journal.specs.Disk.{Did, ImagesFollow, Inside}
use Rattle.dkg_journal.specs.declared.call.JournalError.{JournalError}
use Rattle.dkg_journal.specs.declared.call.JournalError.TheVariants as journal
use Rattle.dkg_journal.specs.declared.disk.Op.TheVariants.{Barrier}
use Rattle.dkg_store.specs.Calls.{cause_of}
use Rattle.dkg_store.specs.Errors.{IsOfSecrets, store_error_of}
use Rattle.dkg_store.specs.declared.call.StoreError.{StoreError}
use Rattle.dkg_store.specs.declared.call.StoreError.TheVariants.{Disk, Secrets as OfSecrets, Corrupt, LocalState, StateSyncEpochs, StateSyncMaterial, Cut, NoMemory}
use Rattle.dkg_secrets.specs.Secrets.{Secrets, Tries, after}
use Rattle.dkg_secrets.specs.declared.secrets.SecretOp.{SecretOp}

-- one operation alone
abbrev pub one : {F S : Type 0} → Operation → S → Acts F S
one op end = Do op (Goes end)

same_world : {out : List Entry} {h k : Held} {f g : Burn} → h ≡ k → f ≡ g → ◌≡◌ {A = World} (record { out = out; held = h; fuse = f }) (record { out = out; held = k; fuse = g })
same_world {out} a b = λ i. record { out = out; held = a i; fuse = b i }

module _ {F S : Type 0} {files files_now : Files} {image next : Files → Type 0} {out : List Entry} {s : Secrets} {before now : Burn} (op : of_journal.JournalOperation) (end : S) where
  pub disk_torn : {how : Ended F S} (cause : Cause) → how ≡ broken cause → (Stands files image → Tried op files next before now) → EndsBy cause before now
      → MadeAt (one (OnDisk op) end) how files image files_now next (moment out s before) (moment out s now)
  disk_torn cause is tried ends = subst (λ (x : Ended F S). MadeAt (one (OnDisk op) end) x files image files_now next (moment out s before) (moment out s now)) (sym is) (record {
    made = λ stands c here. let its = tried stands in inl (record {
      same = refl;
      torn = (refl, its.each c here);
      calls = its.spent.calls;
      most = its.spent.in_bound;
      fuse = its.spent.is;
      ends = ends;
    });
    stands = tt;
  })

  pub disk_done : {how : Ended F S} → how ≡ went end → (Stands files image → FinishedOperation op files files_now next before now) → next files_now
      → MadeAt (one (OnDisk op) end) how files image files_now next (moment out s before) (moment out s now)
  disk_done is finished itself = subst (λ (x : Ended F S). MadeAt (one (OnDisk op) end) x files image files_now next (moment out s before) (moment out s now)) (sym is) (record {
    made = λ stands c here. let its = finished stands in
        (same_world (ap (λ (j : Journaled). record { journaled = j; secrets = s }) (ap journaled (its.settled.only c here) ∙ its.after)) its.spent, refl);
    stands = λ stands. record { lands = (finished stands).settled; itself = itself };
  })

module _ {F S : Type 0} {files : Files} {image : Files → Type 0} {out : List Entry} {s now : Secrets} {before : Burn} (op : SecretOp) (end : S) where
  pub secret_torn : {how : Ended F S} {fuse : Burn} (cause : Cause) → how ≡ broken cause → Tries op s now → fuse ≡ spent_once before → EndsBy cause before fuse
      → MadeAt (one (Changes op) end) how files image files image (moment out s before) (moment out now fuse)
  secret_torn {how} {fuse} cause is tries once ends = subst (λ (x : Ended F S). MadeAt (one (Changes op) end) x files image files image (moment out s before) (moment out now fuse)) (sym is) (record {
    made = λ stands c here. inl (record {
      same = refl;
      torn = (ap journaled (stands.lands.only c here), tries);
      calls = 1;
      most = omega arith;
      fuse = once;
      ends = ends;
    });
    stands = tt;
  })

  pub secret_done : {how : Ended F S} {fuse : Burn} → how ≡ went end → now ≡ after op s → fuse ≡ spent_once before
      → MadeAt (one (Changes op) end) how files image files image (moment out s before) (moment out now fuse)
  secret_done {how} {fuse} is done once = subst (λ (x : Ended F S). MadeAt (one (Changes op) end) x files image files image (moment out s before) (moment out now fuse)) (sym is) (record {
    made = λ stands c here. (same_world (λ i. record { journaled = journaled (stands.lands.only c here i); secrets = done i }) once, refl);
    stands = λ stands. stands;
  })

-- A barrier, of a disk of which nothing is loose.
module _ {files : Files} {next : Files → Type 0} {before now : Burn} (once : now ≡ spent_once before) where
  pub bar_tried : {image : Files → Type 0} → ImagesFollow (Inside Barrier) image next → Stands files image → Tried of_journal.Bars files next before now
  bar_tried follows stands = record {
    each = λ c here. let from = follows.each c here in inl (ap journaled (from.2 ∙ stands.lands.only from.0 from.1));
    spent = record { calls = 1; in_bound = omega arith; is = once };
  }

  pub bar_finished : {files_now : Files} → Did Barrier files files_now next → FinishedOperation of_journal.Bars files files_now next before now
  bar_finished did = record {
    after = ap journaled did.reads;
    settled = record { only = λ c here. did.durable c here ∙ sym did.reads };
    spent = once;
  }

-- HOW THE FUSE SAYS WHAT ENDED A CALL

module _ {T : Type 0} {before now : Burn} where
  -- a call of the secret store
  pub secrets_end : (r : Result T StoreError) (e : StoreError) → r ≡ Err e → IsOfSecrets e → (IsErrOf r Cut → Reached before now) → (Reached before now → IsErrOf r Cut ⊎ IsErrOf r NoMemory) → EndsBy (cause_of e) before now
  secrets_end r OfSecrets is kinds cut reached = λ there. elim (reached there) [
    | inl other ↦ absurd (let h : ◌≡◌ {A = Result T StoreError} (Err OfSecrets) (Err Cut) = sym is ∙ other in cc)
    | inr other ↦ absurd (let h : ◌≡◌ {A = Result T StoreError} (Err OfSecrets) (Err NoMemory) = sym is ∙ other in cc)
  ]
  secrets_end r Cut is kinds cut reached = cut is
  secrets_end r NoMemory is kinds cut reached = tt
  secrets_end r Disk is kinds cut reached = absurd kinds
  secrets_end r (Corrupt name place) is kinds cut reached = absurd kinds
  secrets_end r (LocalState cause) is kinds cut reached = absurd kinds
  secrets_end r (StateSyncEpochs info floor) is kinds cut reached = absurd kinds
  secrets_end r StateSyncMaterial is kinds cut reached = absurd kinds

  -- .. of the disk
  pub journal_end : (r : Result T JournalError) (e : JournalError) → r ≡ Err e → Fused journal.Cut journal.NoMemory r before now → EndsBy (cause_of (store_error_of e)) before now
  journal_end r journal.Disk is fused = λ there. elim (fused.reached there) [
    | inl other ↦ absurd (let h : ◌≡◌ {A = Result T JournalError} (Err journal.Disk) (Err journal.Cut) = sym is ∙ other in cc)
    | inr other ↦ absurd (let h : ◌≡◌ {A = Result T JournalError} (Err journal.Disk) (Err journal.NoMemory) = sym is ∙ other in cc)
  ]
  journal_end r journal.Cut is fused = let there = fused.cut_there is in let same = fused.call in let first = there.0 in let last = there.1 in record { not_yet = omega (arith, first, same); by_now = omega (arith, last, same) }
  journal_end r journal.NoMemory is fused = tt
  journal_end r (journal.Corrupt name place) is fused = tt
  journal_end r journal.TooLong is fused = tt

-- ACTS ON SECRETS ALONE

module _ {F S : Type 0} (out : List Entry) (j : Journaled) (s : Secrets) (f : Burn) where
  -- the first call was ended within
  pub run_first : (op : SecretOp) (acts : Acts F S) (how : Ended F S) (now : Secrets) (g : Burn) (cause : Cause) → how ≡ broken cause → Tries op s now → g ≡ spent_once f → EndsBy cause f g
      → Runs (Do (Changes op) acts) how (world out j s f) (world out j now g)
  run_first op acts how now g cause is tries once ends = subst (λ (x : Ended F S). Runs (Do (Changes op) acts) x (world out j s f) (world out j now g)) (sym is)
      (inl (record { same = refl; torn = (refl, tries); calls = 1; most = omega arith; fuse = once; ends = ends }))

  -- the first is done, and the second was
  pub run_second : (op next : SecretOp) (end : S) (how : Ended F S) (mid now : Secrets) (g h : Burn) (cause : Cause) → how ≡ broken cause → mid ≡ after op s → g ≡ spent_once f → Tries next mid now → h ≡ spent_once g → EndsBy cause g h
      → Runs (Do (Changes op) (one (Changes next) end)) how (world out j s f) (world out j now h)
  run_second op next end how mid now g h cause is put once tries twice ends = subst (λ (x : Ended F S). Runs (Do (Changes op) (one (Changes next) end)) x (world out j s f) (world out j now h)) (sym is)
      (inr (inl (record {
        same = refl;
        torn = (refl, subst (λ (x : Secrets). Tries next x now) put tries);
        calls = 1;
        most = omega arith;
        fuse = twice ∙ ap spent_once once;
        ends = subst (λ (x : Burn). EndsBy cause x h) once ends;
      })))
