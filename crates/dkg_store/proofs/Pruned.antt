-- What a prune leaves: of the journal, and then of the secrets.
use Rattle.std.proofs.Common.{◌≡◌, inl, inr, ℕ, ◌≤◌, arith, cond, Bool, nat_le, List, [], ◌∷◌, fold, Option, Some, None, IsSome, Result, Ok, Err, refl, sym, ◌∙◌, ap, subst}
use Rattle.std.specs.FinMap.{get, empty, retain_keys}
use Rattle.dkg_values.specs.Codec.{whole}
use Rattle.dkg_values.specs.declared.codec.CodecError.{CodecError}
use Rattle.dkg_journal.specs.Burn.{Burn}
use Rattle.dkg_journal.specs.Fuse.{spent_once}
use Rattle.dkg_journal.specs.Names.{Files}
use Rattle.dkg_journal.specs.Disk.{ImagesFollow}
use Rattle.dkg_journal.specs.Operations.{Tried, FinishedOperation, Prunes as PrunesJournal}
use Rattle.dkg_journal.specs.Pruning.{LeavesAbove, MayLeave}
use Rattle.dkg_journal.specs.Records.{SectionEntry, entries, from_section}
use Rattle.dkg_infos.specs.declared.entry.Entry.{Entry}
use Rattle.dkg_values.specs.declared.name.Name.TheVariants.{Plan}
use Rattle.dkg_store.specs.Acts.{Acts, Changes, Cause, EndsBy, Ended, broken, went, moment, MadeAt, Stands}
use Rattle.dkg_store.specs.Calls.{pruning}
use Rattle.dkg_store.specs.Events.{event_at, no_limit}
use Rattle.dkg_store.specs.declared.event.Event.{Event}
use Rattle.dkg_store.specs.declared.event.Event.TheVariants as events
use Rattle.dkg_store.specs.Noted.{GivesPruned, Note, Notes, with_note, noted, noted_ack, noted_log, ack_in_event, log_in_event, ImagesGive, ImagesGiveEither}
use Rattle.dkg_store.specs.Named.{SamePlan}
use Rattle.dkg_secrets.specs.Secrets.{Secrets, Tries}
use Rattle.dkg_secrets.specs.Secrets as of_secrets
use Rattle.dkg_store.specs.Pairs.{Pairs, Dealing, dealing_in_event, recorded_dealing, with_half, with_dealing, recovered, HasHalf, IsWhole, HoldsDealings, HoldsEither, HoldsPruned}
use Rattle.dkg_journal.specs.declared.call.JournalError.{JournalError}
use Rattle.dkg_journal.specs.declared.call.JournalError.TheVariants as of_journal
use Rattle.dkg_store.specs.Errors.{IsOfPruning, IsOfSecrets, store_error_of}
use Rattle.dkg_store.specs.declared.call.StoreError.{StoreError}
use Rattle.dkg_store.specs.declared.call.StoreError.TheVariants.{Disk, Secrets as OfSecrets, Corrupt, LocalState, StateSyncEpochs, StateSyncMaterial, Cut, NoMemory}
use Rattle.dkg_secrets.specs.declared.secrets.SecretOp.TheVariants.{Prune}
use Rattle.dkg_store.proofs.Acting.{first_broken}
use Rattle.dkg_store.proofs.Acts.{made_next}
use Rattle.dkg_store.proofs.Making.{one, disk_done, disk_torn, secret_done, secret_torn}
use Rattle.dkg_secrets.proofs.Map.{below_or}
use Rattle.dkg_store.proofs.Noted.{IsUnder, noted_from}

-- THE SECTION OF A RECORD IS ITS EPOCH

ack_under : (epoch : ℕ) (r : Result Event CodecError) → IsUnder noted_ack epoch (ack_in_event epoch r)
ack_under epoch (Ok (events.Dealing dealer public)) = tt
ack_under epoch (Ok (events.Ack player ack)) = refl
ack_under epoch (Ok (events.Log dealer log)) = tt
ack_under epoch (Ok (events.LogAt dealer height log)) = tt
ack_under epoch (Err e) = tt

log_under : (epoch : ℕ) (r : Result Event CodecError) → IsUnder noted_log epoch (log_in_event epoch r)
log_under epoch (Ok (events.Dealing dealer public)) = tt
log_under epoch (Ok (events.Ack player ack)) = tt
log_under epoch (Ok (events.Log dealer log)) = refl
log_under epoch (Ok (events.LogAt dealer height log)) = refl
log_under epoch (Err e) = tt

abbrev IsOf : ℕ → Option Dealing → Type 0
IsOf section None = Unit {0}
IsOf section (Some d) = d.key.0 ≡ section

dealing_under : (epoch : ℕ) (r : Result Event CodecError) → IsOf epoch (dealing_in_event epoch r)
dealing_under epoch (Ok (events.Dealing dealer public)) = refl
dealing_under epoch (Ok (events.Ack player ack)) = tt
dealing_under epoch (Ok (events.Log dealer log)) = tt
dealing_under epoch (Ok (events.LogAt dealer height log)) = tt
dealing_under epoch (Err e) = tt

pub acks_from : (min : ℕ) (es : List SectionEntry) → noted noted_ack (from_section min es) ≡ retain_keys (noted noted_ack es) (λ k. nat_le min k.0)
acks_from min es = noted_from noted_ack min (λ e. ack_under e.0 (whole (event_at no_limit e.1))) es

pub logs_from : (min : ℕ) (es : List SectionEntry) → noted noted_log (from_section min es) ≡ retain_keys (noted noted_log es) (λ k. nat_le min k.0)
logs_from min es = noted_from noted_log min (λ e. log_under e.0 (whole (event_at no_limit e.1))) es

-- ACKNOWLEDGEMENTS AND LOGS

module _ {V : Type 0} (note_of : SectionEntry → Option (Note V)) (min : ℕ) (from : (es : List SectionEntry) → noted note_of (from_section min es) ≡ retain_keys (noted note_of es) (λ k. nat_le min k.0)) where
  abbrev above : Notes V → Notes V
  above m = retain_keys m (λ k. nat_le min k.0)

  left_of : (m : Notes V) (d es : List SectionEntry) → noted note_of d ≡ m → es ≡ from_section min d → noted note_of es ≡ above m
  left_of m d es was is = ap (noted note_of) is ∙ from d ∙ ap (λ (n : Notes V). above n) was

  pub gives_left : (m : Notes V) (image next : Files → Type 0) → ImagesFollow (LeavesAbove min) image next → ImagesGive (noted note_of) m image → ImagesGive (noted note_of) (above m) next
  gives_left m image next follows gives = record {
    each = λ c here. let d = follows.each c here in left_of m (entries d.0) (entries c) (gives.each d.0 d.1) d.2.left;
  }

module _ {V : Type 0} (note_of : SectionEntry → Option (Note V)) (from : (min : ℕ) (es : List SectionEntry) → noted note_of (from_section min es) ≡ retain_keys (noted note_of es) (λ k. nat_le min k.0)) where
  pub gives_may_leave : (min : ℕ) (m : Notes V) (image next : Files → Type 0) → ImagesFollow (MayLeave min) image next → ImagesGive (noted note_of) m image → GivesPruned (noted note_of) min m next
  gives_may_leave min m image next follows gives = record {
    each = λ c here.
        let d = follows.each c here in
        (d.2.least, d.2.low, ap (noted note_of) d.2.leaves.left ∙ from d.2.least (entries d.0) ∙ ap (λ (n : Notes V). retain_keys n (λ k. nat_le d.2.least k.0)) (gives.each d.0 d.1));
  }

-- DEALINGS

abbrev with_private : Dealing → Option ℕ → Option (Note (List ℕ × ℕ))
with_private d None = None
with_private d (Some private) = Some (d.key, (d.public, private))

abbrev paired : Secrets → Option Dealing → Option (Note (List ℕ × ℕ))
paired s None = None
paired s (Some d) = with_private d (get s.privates d.key)

abbrev noted_pair : Secrets → SectionEntry → Option (Note (List ℕ × ℕ))
noted_pair s e = paired s (recorded_dealing e)

half_same : (m : Pairs) (d : Dealing) (h : Option ℕ) → with_half m d h ≡ with_note m (with_private d h)
half_same m d None = refl
half_same m d (Some private) = refl

step_same : (s : Secrets) (m : Pairs) (o : Option Dealing) → with_dealing s m o ≡ with_note m (paired s o)
step_same s m None = refl
step_same s m (Some d) = half_same m d (get s.privates d.key)

fold_noted : (s : Secrets) (es : List SectionEntry) (m : Pairs) → fold (λ n e. with_dealing s n (recorded_dealing e)) m es ≡ fold (λ n e. with_note n (noted_pair s e)) m es
fold_noted s [] m = refl
fold_noted s (e ∷ es) m = ap (λ (n : Pairs). fold (λ x y. with_dealing s x (recorded_dealing y)) n es) (step_same s m (recorded_dealing e)) ∙ fold_noted s es (with_note m (noted_pair s e))

-- dealings are what records say with the private halves
pub recovered_noted : (es : List SectionEntry) (s : Secrets) → recovered es s ≡ noted (noted_pair s) es
recovered_noted es s = fold_noted s es empty

private_under : (s : Secrets) (section : ℕ) (d : Dealing) (h : Option ℕ) → d.key.0 ≡ section → IsUnder (noted_pair s) section (with_private d h)
private_under s section d None is = tt
private_under s section d (Some private) is = is

pair_under : (s : Secrets) (section : ℕ) (o : Option Dealing) → IsOf section o → IsUnder (noted_pair s) section (paired s o)
pair_under s section None is = tt
pair_under s section (Some d) is = private_under s section d (get s.privates d.key) is

pub recovered_from : (min : ℕ) (es : List SectionEntry) (s : Secrets) → recovered (from_section min es) s ≡ retain_keys (recovered es s) (λ k. nat_le min k.0)
recovered_from min es s =
    recovered_noted (from_section min es) s
    ∙ noted_from (noted_pair s) min (λ e. pair_under s e.0 (recorded_dealing e) (dealing_under e.0 (whole (event_at no_limit e.1)))) es
    ∙ ap (λ (m : Pairs). retain_keys m (λ k. nat_le min k.0)) (sym (recovered_noted es s))

module _ (min : ℕ) (s t : Secrets) (halves : (k : ℕ × ℕ) → min ≤ k.0 → get t.privates k ≡ get s.privates k) where
  half_above : (section : ℕ) (o : Option Dealing) → IsOf section o → min ≤ section → HasHalf s o → HasHalf t o
  half_above section None is above has = tt
  half_above section (Some d) is above has = subst IsSome (sym (halves d.key (subst (λ (n : ℕ). min ≤ n) (sym is) above))) has

  whole_from : (es : List SectionEntry) → IsWhole es s → IsWhole (from_section min es) t
  whole_from [] whole = tt
  whole_from (e ∷ es) all = elim (below_or min e.0) [
    | inl below ↦ subst (λ (b : Bool). IsWhole (cond b (e ∷ from_section min es) (from_section min es)) t) (sym below.1) (whole_from es all.1)
    | inr above ↦ subst (λ (b : Bool). IsWhole (cond b (e ∷ from_section min es) (from_section min es)) t) (sym above.1)
        (half_above e.0 (recorded_dealing e) (dealing_under e.0 (whole (event_at no_limit e.1))) above.0 all.0, whole_from es all.1)
  ]

  step_above : (section : ℕ) (m : Pairs) (o : Option Dealing) → IsOf section o → min ≤ section → with_dealing t m o ≡ with_dealing s m o
  step_above section m None is above = refl
  step_above section m (Some d) is above = ap (with_half m d) (halves d.key (subst (λ (n : ℕ). min ≤ n) (sym is) above))

  fold_above : (es : List SectionEntry) (m : Pairs) → fold (λ n e. with_dealing t n (recorded_dealing e)) m (from_section min es) ≡ fold (λ n e. with_dealing s n (recorded_dealing e)) m (from_section min es)
  fold_above [] m = refl
  fold_above (e ∷ es) m = elim (below_or min e.0) [
    | inl below ↦ subst (λ (b : Bool). fold (λ n x. with_dealing t n (recorded_dealing x)) m (cond b (e ∷ from_section min es) (from_section min es)) ≡ fold (λ n x. with_dealing s n (recorded_dealing x)) m (cond b (e ∷ from_section min es) (from_section min es))) (sym below.1) (fold_above es m)
    | inr above ↦ subst (λ (b : Bool). fold (λ n x. with_dealing t n (recorded_dealing x)) m (cond b (e ∷ from_section min es) (from_section min es)) ≡ fold (λ n x. with_dealing s n (recorded_dealing x)) m (cond b (e ∷ from_section min es) (from_section min es))) (sym above.1)
        (ap (λ (n : Pairs). fold (λ x y. with_dealing t x (recorded_dealing y)) n (from_section min es)) (step_above e.0 m (recorded_dealing e) (dealing_under e.0 (whole (event_at no_limit e.1))) above.0) ∙ fold_above es (with_dealing s m (recorded_dealing e)))
  ]

  -- The journal is pruned, and the secrets at or above the minimum are there.
  pub left_holds : (pairs : Pairs) (image next : Files → Type 0) → ImagesFollow (LeavesAbove min) image next → HoldsDealings pairs image s → HoldsDealings (retain_keys pairs (λ k. nat_le min k.0)) next t
  left_holds pairs image next follows holds = record {
    whole = λ c here. let d = follows.each c here in subst (λ (es : List SectionEntry). IsWhole es t) (sym d.2.left) (whole_from (entries d.0) (holds.whole d.0 d.1));
    gives = λ c here. let d = follows.each c here in
        ap (λ (es : List SectionEntry). recovered es t) d.2.left
        ∙ fold_above (entries d.0) empty
        ∙ recovered_from min (entries d.0) s
        ∙ ap (λ (m : Pairs). retain_keys m (λ k. nat_le min k.0)) (holds.gives d.0 d.1);
  }

-- The journal's prune was ended within, and the secrets are as they were.
pub may_leave_holds : (min : ℕ) (s : Secrets) (pairs : Pairs) (image next : Files → Type 0) → ImagesFollow (MayLeave min) image next → HoldsDealings pairs image s → HoldsPruned min pairs next s
may_leave_holds min s pairs image next follows holds = record {
  whole = λ c here. let d = follows.each c here in subst (λ (es : List SectionEntry). IsWhole es s) (sym d.2.leaves.left) (whole_from d.2.least s s (λ k above. refl) (entries d.0) (holds.whole d.0 d.1));
  gives = λ c here.
      let d = follows.each c here in
      (d.2.least, d.2.low, ap (λ (es : List SectionEntry). recovered es s) d.2.leaves.left ∙ recovered_from d.2.least (entries d.0) s ∙ ap (λ (m : Pairs). retain_keys m (λ k. nat_le d.2.least k.0)) (holds.gives d.0 d.1));
}

-- those at or above the minimum itself
pub holds_pruned : (min : ℕ) (pairs : Pairs) (image : Files → Type 0) (held : Secrets) → HoldsDealings (retain_keys pairs (λ k. nat_le min k.0)) image held → HoldsPruned min pairs image held
holds_pruned min pairs image held holds = record { whole = holds.whole; gives = λ c here. (min, omega arith, holds.gives c here) }

pub gives_pruned : {V : Type 0} (given : List SectionEntry → Notes V) (min : ℕ) (m : Notes V) (image : Files → Type 0) → ImagesGive given (retain_keys m (λ k. nat_le min k.0)) image → GivesPruned given min m image
gives_pruned given min m image gives = record { each = λ c here. (min, omega arith, gives.each c here) }

-- those at or above a minimum, or all of them
pub one_of_either : (pairs more : Pairs) (image : Files → Type 0) (held : Secrets) → HoldsDealings more image held → HoldsEither pairs more image held
one_of_either pairs more image held holds = record { whole = holds.whole; gives = λ c here. inr (holds.gives c here) }

-- AS ACTS

abbrev secrets_then : ℕ → Unit {0} → Acts StoreError (Unit {0})
secrets_then min u = one (Changes (Prune min)) tt

module _ (min : ℕ) {files files_now : Files} {image next : Files → Type 0} {out : List Entry} {s : Secrets} {f g : Burn} where
  -- the journal's prune was ended within
  pub journal_torn : {how : Ended StoreError (Unit {0})} (cause : Cause) → how ≡ broken cause → (Stands files image → Tried (PrunesJournal min) files next f g) → EndsBy cause f g
      → MadeAt (pruning min) how files image files_now next (moment out s f) (moment out s g)
  journal_torn cause is tried ends = first_broken (secrets_then min) is (disk_torn (PrunesJournal min) tt cause refl tried ends)

  -- the journal is pruned, and the secrets' prune was ended within
  pub secrets_torn : {now : Secrets} {h : Burn} {how : Ended StoreError (Unit {0})} (cause : Cause) → how ≡ broken cause → (Stands files image → FinishedOperation (PrunesJournal min) files files_now next f g) → next files_now → Tries (Prune min) s now → h ≡ spent_once g → EndsBy cause g h
      → MadeAt (pruning min) how files image files_now next (moment out s f) (moment out now h)
  secrets_torn cause is finished itself tries once ends = made_next (secrets_then min) (disk_done (PrunesJournal min) tt refl finished itself) (secret_torn (Prune min) tt cause is tries once ends)

  -- both are pruned
  pub both_pruned : {now : Secrets} {h : Burn} {how : Ended StoreError (Unit {0})} → how ≡ went tt → (Stands files image → FinishedOperation (PrunesJournal min) files files_now next f g) → next files_now → now ≡ of_secrets.after (Prune min) s → h ≡ spent_once g
      → MadeAt (pruning min) how files image files_now next (moment out s f) (moment out now h)
  both_pruned is finished itself done once = made_next (secrets_then min) (disk_done (PrunesJournal min) tt refl finished itself) (secret_done (Prune min) tt is done once)

-- THE SAME MINIMUM

module _ {m n : ℕ} {image next : Files → Type 0} (same : m ≡ n) where
  pub same_left : ImagesFollow (LeavesAbove m) image next → ImagesFollow (LeavesAbove n) image next
  same_left follows = subst (λ (k : ℕ). ImagesFollow (LeavesAbove k) image next) same follows

  pub same_may : ImagesFollow (MayLeave m) image next → ImagesFollow (MayLeave n) image next
  same_may follows = subst (λ (k : ℕ). ImagesFollow (MayLeave k) image next) same follows

pub same_tried : {m n : ℕ} {files : Files} {next : Files → Type 0} {f g : Burn} → m ≡ n → Tried (PrunesJournal m) files next f g → Tried (PrunesJournal n) files next f g
same_tried {files = files} {next = next} {f = f} {g = g} same tried = subst (λ (k : ℕ). Tried (PrunesJournal k) files next f g) same tried

pub same_finished : {m n : ℕ} {files files_now : Files} {next : Files → Type 0} {f g : Burn} → m ≡ n → FinishedOperation (PrunesJournal m) files files_now next f g → FinishedOperation (PrunesJournal n) files files_now next f g
same_finished {files = files} {files_now = files_now} {next = next} {f = f} {g = g} same done = subst (λ (k : ℕ). FinishedOperation (PrunesJournal k) files files_now next f g) same done

-- the plan is as it was
pub may_others : (min : ℕ) (image next : Files → Type 0) → ImagesFollow (MayLeave min) image next → ImagesFollow SamePlan image next
may_others min image next follows = record { each = λ c here. let from = follows.each c here in (from.0, from.1, from.2.leaves.others Plan refl) }

pub left_others : (min : ℕ) (image next : Files → Type 0) → ImagesFollow (LeavesAbove min) image next → ImagesFollow SamePlan image next
left_others min image next follows = record { each = λ c here. let from = follows.each c here in (from.0, from.1, from.2.others Plan refl) }

-- those at or above the minimum
pub gives_one : {M : Type 0} (given : List SectionEntry → M) (one other : M) (image : Files → Type 0) → ImagesGive given other image → ImagesGiveEither given one other image
gives_one given one other image gives = record { each = λ c here. inr (gives.each c here) }

-- WHICH ERRORS

pub of_pruning : (e : JournalError) → IsOfPruning (store_error_of e)
of_pruning of_journal.Disk = tt
of_pruning of_journal.Cut = tt
of_pruning of_journal.NoMemory = tt
of_pruning (of_journal.Corrupt name place) = tt
of_pruning of_journal.TooLong = tt

pub secrets_pruning : (e : StoreError) → IsOfSecrets e → IsOfPruning e
secrets_pruning OfSecrets is = tt
secrets_pruning Cut is = tt
secrets_pruning NoMemory is = tt
secrets_pruning Disk is = absurd is
secrets_pruning (Corrupt name place) is = absurd is
secrets_pruning (LocalState cause) is = absurd is
secrets_pruning (StateSyncEpochs info floor) is = absurd is
secrets_pruning StateSyncMaterial is = absurd is

nothing_torn : (min : ℕ) (s : Secrets) → Tries (Prune min) s s
nothing_torn min s = record { so = record { shares = λ epoch. inl refl; seeds = λ epoch. inl refl; privates = λ k. inl refl } }

pub untouched : (min : ℕ) (s t : Secrets) → t ≡ s → Tries (Prune min) s t
untouched min s t same = subst (λ (x : Secrets). Tries (Prune min) s x) (sym same) (nothing_torn min s)
