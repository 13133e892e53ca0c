-- There is one place for which a store is not opened, and one answer.
use Rattle.std.proofs.Common.{◌≡◌, ◌⊎◌, inl, inr, ℕ, List, [], ◌∷◌, map, Option, Some, None, Result, Err, sym, ◌∙◌, refl, ap, subst}
use Rattle.std.specs.Prelude.{MatchResult}
use Rattle.dkg_values.specs.declared.name.Name.{Name}
use Rattle.dkg_journal.specs.Names.{Files}
use Rattle.dkg_journal.specs.Gated.{OpensAlike, gated, gated_entries, gated_of}
use Rattle.dkg_journal.specs.Opening.{first_break}
use Rattle.dkg_journal.specs.Records.{SectionEntry}
use Rattle.dkg_journal.specs.declared.opening.JournalEntry.{JournalEntry}
use Rattle.dkg_journal.specs.Burn.{Burn}
use Rattle.dkg_journal.specs.Records.{entries}
use Rattle.dkg_infos.specs.declared.entry.Entry.{Entry}
use Rattle.dkg_store.specs.Acts.{Cause, by_secrets, by_want, Ended, broken as broken_by, went, moment, held_in, MadeAt}
use Rattle.dkg_store.specs.Calls.{by_error, given_back, store_reading}
use Rattle.dkg_store.specs.Corrupt.{AreEvents, IsAlien, IsCorruptAt}
use Rattle.dkg_store.specs.Noted.{Notes}
use Rattle.dkg_store.specs.Pairs.{Pairs}
use Rattle.dkg_secrets.specs.Secrets.{Secrets}
use Rattle.dkg_store.specs.declared.recorded_log.RecordedLog.{RecordedLog}
use Rattle.dkg_journal.specs.declared.call.JournalError.{JournalError}
use Rattle.dkg_journal.specs.declared.call.JournalError.TheVariants as of_journal
use Rattle.dkg_store.specs.Errors.{IsOfDevices, IsOfOpening, IsOfRestoring, store_error_of}
use Rattle.dkg_store.specs.Events.{no_event_at}
use Rattle.dkg_store.specs.declared.call.StoreError.{StoreError}
use Rattle.dkg_store.specs.declared.call.StoreError.TheVariants.{Disk, Secrets as OfSecrets, Corrupt, LocalState, StateSyncEpochs, StateSyncMaterial, Cut, NoMemory}
use Rattle.dkg_store.proofs.Acts.{made_none_held, made_read}
use Rattle.dkg_store.proofs.OpeningActs.{alien_stops, no_place}

-- the entry again, from what is seen of it with its place
abbrev ungated : SectionEntry → JournalEntry
ungated (section, []) = record { section = section; place = 0; body = [] }
ungated (section, place ∷ body) = record { section = section; place = place; body = body }

ungated_all : (es : List JournalEntry) → map ungated (map gated es) ≡ es
ungated_all [] = refl
ungated_all (e ∷ es) = ap (λ (l : List JournalEntry). e ∷ l) (ungated_all es)

one_reading : (xs ys : List JournalEntry) → map gated xs ≡ map gated ys → xs ≡ ys
one_reading xs ys same = sym (ungated_all xs) ∙ ap (map ungated) same ∙ ungated_all ys

some_is : {A : Type 0} (p q : A) (o : Option A) → o ≡ Some p → o ≡ Some q → p ≡ q
some_is {A} p q o one other = let h : ◌≡◌ {A = Option A} (Some p) (Some q) = sym one ∙ other in cc

module _ (limit : ℕ) (files : Files) where
  pub one_place : (p q : Name × ℕ) → IsCorruptAt limit files p.0 p.1 → IsCorruptAt limit files q.0 q.1 → p ≡ q
  one_place p q one other = elim one.so [
    | inl torn ↦ elim other.so [
      | inl torn_too ↦ some_is p q (first_break files) torn torn_too
      | inr whole ↦ absurd (no_place (first_break files) p torn whole.0)
    ]
    | inr whole ↦ elim other.so [
      | inl torn ↦ absurd (no_place (first_break files) q torn whole.0)
      | inr whole_too ↦ some_is p q (no_event_at limit whole.1.read) whole.1.first (ap (no_event_at limit) (one_reading whole.1.read whole_too.1.read (whole.1.are ∙ sym whole_too.1.are)) ∙ whole_too.1.first)
    ]
  ]

  -- the first of these entries that is no event
  pub corrupt_at : (es : List JournalEntry) (name : Name) (place : ℕ) → first_break files ≡ None → map gated es ≡ gated_entries files → no_event_at limit es ≡ Some (name, place) → IsCorruptAt limit files name place
  corrupt_at es name place whole are first = record { so = inr (whole, record { read = es; are = are; first = first }) }

  -- where all are events, there is none
  pub none_corrupt : (es : List JournalEntry) (name : Name) (place : ℕ) → first_break files ≡ None → map gated es ≡ gated_entries files → no_event_at limit es ≡ None → IsCorruptAt limit files name place → ⊥
  none_corrupt es name place whole are none at = elim at.so [
    | inl torn ↦ no_place (first_break files) (name, place) torn whole
    | inr other ↦ no_place (no_event_at limit other.1.read) (name, place) other.1.first (ap (no_event_at limit) (one_reading other.1.read es (other.1.are ∙ sym are)) ∙ none)
  ]

  -- an error of opening is Corrupt there, or of a device
  answer : (e : StoreError) → IsOfOpening e → ((name : Name) (place : ℕ) → e ≡ Corrupt name place → IsCorruptAt limit files name place) → (name : Name) (place : ℕ) → IsCorruptAt limit files name place → (e ≡ Corrupt name place) ⊎ IsOfDevices e
  answer Disk kinds told name place at = inr tt
  answer OfSecrets kinds told name place at = inr tt
  answer Cut kinds told name place at = inr tt
  answer NoMemory kinds told name place at = inr tt
  answer (Corrupt its q) kinds told name place at = let same = one_place (its, q) (name, place) (told its q refl) at in inl (λ i. Corrupt (same i).0 (same i).1)
  answer (LocalState cause) kinds told name place at = absurd kinds
  answer (StateSyncEpochs info floor) kinds told name place at = absurd kinds
  answer StateSyncMaterial kinds told name place at = absurd kinds

  pub answered : {T : Type 0} (r : Result T StoreError) (e : StoreError) → r ≡ Err e → IsOfOpening e → ((name : Name) (place : ℕ) → e ≡ Corrupt name place → IsCorruptAt limit files name place) → (name : Name) (place : ℕ) → IsCorruptAt limit files name place
      → MatchResult r (λ x. ⊥) (λ x. (x ≡ Corrupt name place) ⊎ IsOfDevices x)
  answered {T} r e is kinds told name place at = subst (λ (x : Result T StoreError). MatchResult x (λ y. ⊥) (λ y. (y ≡ Corrupt name place) ⊎ IsOfDevices y)) (sym is) (answer e kinds told name place at)

pub same_error : {T : Type 0} (r : Result T StoreError) (e f : StoreError) → r ≡ Err e → r ≡ Err f → e ≡ f
same_error {T} r e f is other = let h : ◌≡◌ {A = Result T StoreError} (Err e) (Err f) = sym is ∙ other in cc

-- what was found of the journal is told under the same name and place
pub journal_corrupt : (e : JournalError) (name : Name) (place : ℕ) → (e ≡ of_journal.TooLong → ⊥) → store_error_of e ≡ Corrupt name place → e ≡ of_journal.Corrupt name place
journal_corrupt of_journal.Disk name place short is = absurd (let h : ◌≡◌ {A = StoreError} Disk (Corrupt name place) = is in cc)
journal_corrupt of_journal.Cut name place short is = absurd (let h : ◌≡◌ {A = StoreError} Cut (Corrupt name place) = is in cc)
journal_corrupt of_journal.NoMemory name place short is = absurd (let h : ◌≡◌ {A = StoreError} NoMemory (Corrupt name place) = is in cc)
journal_corrupt of_journal.TooLong name place short is = absurd (short refl)
journal_corrupt (of_journal.Corrupt its at) name place short is = let h : ◌≡◌ {A = StoreError} (Corrupt its at) (Corrupt name place) = is in cc

-- what another opening finds is the same
pub corrupt_alike : (limit : ℕ) (name : Name) (place : ℕ) (old new : Files) → OpensAlike old new → IsCorruptAt limit old name place → IsCorruptAt limit new name place
corrupt_alike limit name place old new alike at = elim at.so [
  | inl torn ↦ record { so = inl (alike.same_broken ∙ torn) }
  | inr whole ↦ record { so = inr (alike.same_broken ∙ whole.0, record { read = whole.1.read; are = whole.1.are ∙ sym (ap gated_of alike.same_entries); first = whole.1.first }) }
]

-- HOW READING AN OPEN JOURNAL ENDS

abbrev Given : Type 0
Given = Pairs × Notes (List ℕ) × Notes RecordedLog

-- An error: at the first body that is no event, or before it.
pub read_ends : (limit : ℕ) (files : Files) (alien : Option (Name × ℕ)) (e : StoreError) → IsOfRestoring e → ((name : Name) (place : ℕ) → e ≡ Corrupt name place → IsCorruptAt limit files name place)
    → (AreEvents limit (entries files) → (name : Name) (place : ℕ) → e ≡ Corrupt name place → ⊥) → IsAlien limit files alien
    → {fs : Files} {image : Files → Type 0} {how : Ended StoreError Given} {out : List Entry} {s now : Secrets} {f : Burn} → how ≡ by_error e → now ≡ s → MadeAt (store_reading alien) how fs image fs image (moment out s f) (moment out now f)
read_ends limit files alien OfSecrets kinds told none is ends same = made_none_held _ _ (store_reading alien) by_secrets tt same ends
read_ends limit files alien NoMemory kinds told none is ends same = made_none_held _ _ (store_reading alien) by_want tt same ends
read_ends limit files None (Corrupt name place) kinds told none is ends same = absurd (none is name place refl)
read_ends limit files (Some at) (Corrupt name place) kinds told none is ends same =
    let here = told name place refl in
    alien_stops (Some at) name place _ _ (ap (λ (p : Name × ℕ). Some p) (one_place limit files at (name, place) is here)) ends same
read_ends limit files alien Disk kinds told none is ends same = absurd kinds
read_ends limit files alien Cut kinds told none is ends same = absurd kinds
read_ends limit files alien (LocalState cause) kinds told none is ends same = absurd kinds
read_ends limit files alien (StateSyncEpochs info floor) kinds told none is ends same = absurd kinds
read_ends limit files alien StateSyncMaterial kinds told none is ends same = absurd kinds

-- .. or all of it
pub read_all : {alien : Option (Name × ℕ)} → alien ≡ None → {fs : Files} {image : Files → Type 0} {end : Given} {out : List Entry} {s now : Secrets} {f : Burn} → now ≡ s → end ≡ given_back (held_in fs s)
    → MadeAt (store_reading alien) (went end) fs image fs image (moment out s f) (moment out now f)
read_all is {fs} {image} {end} {out} {s} {now} {f} same given =
    subst (λ (a : Option (Name × ℕ)). MadeAt (store_reading a) (went end) fs image fs image (moment out s f) (moment out now f)) (sym is) (made_read fs image given_back same given)

abbrev pub ended_by : Cause → Ended StoreError Given
ended_by cause = broken_by cause
