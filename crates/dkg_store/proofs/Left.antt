-- What a call left and had, read off what its parts left and had.
use Rattle.std.proofs.Common.{◌≡◌, ◌≤◌, ◌⊎◌, inl, inr, ℕ, Bool, true, false, List, [], ◌∷◌, map, Option, Some, None, Result, Err, arith, refl, sym, ap, subst, ◌∙◌}
use Rattle.std.specs.Prelude.{◌<◌, ◌+◌, ◌^◌, nat_lt, IfSome, if◌then◌else◌}
use Rattle.std.specs.FinMap.{get, insert}
use Rattle.std.proofs.lemmas.Bool.Decides.{nat_tests}
use Rattle.std.proofs.lemmas.List.{map-append}
use Rattle.dkg_journal.specs.Burn.{Burn}
use Rattle.dkg_journal.specs.DeviceCall.{DeviceCall}
use Rattle.dkg_journal.specs.Errors.{IsOfDevice}
use Rattle.dkg_journal.specs.Disk.{ImagesFollow, Rose}
use Rattle.dkg_journal.specs.Fuse.{Ran, RanAll, Reached}
use Rattle.dkg_journal.specs.Records.{SectionEntry, entries}
use Rattle.dkg_journal.specs.Steps.{AddsEntry, IsOpenAt, Keeps, MayAdd}
use Rattle.dkg_journal.specs.Names.{Files}
use Rattle.dkg_journal.specs.declared.call.JournalError.{JournalError}
use Rattle.dkg_journal.specs.declared.call.JournalError.TheVariants as of_journal
use Rattle.dkg_journal.specs.declared.disk.Op.{Op}
use Rattle.dkg_values.specs.declared.name.Name.{Name}
use Rattle.dkg_journal.specs.Journals.{IsOpen, append_calls}
use Rattle.dkg_journal.specs.Places.{place_at}
use Rattle.dkg_journal.specs.Steps.{append_calls_at}
use Rattle.dkg_journal.specs.declared.journal.Journal.{Journal}
use Rattle.dkg_store.specs.Both.{EitherOp, MadeBoth, on_disk, on_secrets, put_then_append}
use Rattle.dkg_store.specs.Called.{Called, ErrorIsDue, ErrorIsDueWith}
use Rattle.dkg_store.specs.Counts.{CountsOn}
use Rattle.dkg_store.specs.Errors.{IsOfDevices, IsOfOpening, IsOfRestoring, store_error_of}
use Rattle.dkg_store.specs.Left.{Extends, GivesDealing, GivesNote}
use Rattle.dkg_store.specs.Events.{IsEvent, event_spelling}
use Rattle.dkg_store.specs.declared.event.Event.TheVariants as events
use Rattle.dkg_store.specs.Noted.{Note, Notes, noted}
use Rattle.dkg_store.specs.Pairs.{HoldsDealings, HoldsEither, IsWhole, Pairs, PutsFirst, recorded_dealing, recovered}
use Rattle.dkg_secrets.specs.Secrets.{Secrets, after}
use Rattle.dkg_secrets.specs.declared.secrets.SecretOp.TheVariants.{PutDealing}
use Rattle.dkg_store.specs.declared.call.StoreError.{StoreError}
use Rattle.dkg_store.specs.declared.call.StoreError.TheVariants.{Disk, Secrets as OfSecrets, Corrupt, LocalState, StateSyncEpochs, StateSyncMaterial, Cut, NoMemory}
use Rattle.dkg_store.specs.declared.devices.Devices.{Devices}
use Rattle.dkg_secrets.specs.declared.secrets.SecretOp.{SecretOp}
use Rattle.dkg_store.proofs.Both.{all_of_secrets, burned-map, burned_alike, disk_calls-map, none_of_disk, none_ran, secret_calls-map}
use Rattle.dkg_store.proofs.Counts.{counts_burned, counts_same}
use Rattle.dkg_store.proofs.Named.{may_same, same_names}
use Rattle.dkg_store.proofs.Noted.{dealing_notes, gives_added, gives_either, gives_still}
use Rattle.dkg_store.proofs.Pairs.{done_holds, puts_hold}
use Rattle.dkg_store.proofs.Silent.{silent_holds}

-- WHERE NOTHING WAS CALLED, and so no change was made

abbrev pub IsUnmade : Option Bool → Type 0
IsUnmade None = Unit {0}
IsUnmade (Some false) = Unit {0}
IsUnmade (Some true) = ⊥

pub extends_unmade : (ends : Option Bool) → IsUnmade ends → (section : ℕ) (body : List ℕ) (files : Files) (image : Files → Type 0) → Extends ends section body files files image image
extends_unmade None is section body files image = record {
  fit = λ limit event fit. fit;
  others = record { each = λ c here. (c, here, λ q apart. refl) };
  names = λ lands. may_same section image;
  named = tt;
  lands = tt;
}
extends_unmade (Some false) is section body files image = record {
  fit = λ limit event fit. fit;
  others = record { each = λ c here. (c, here, λ q apart. refl) };
  names = λ lands. may_same section image;
  named = same_names section image;
  lands = λ lands. lands;
}
extends_unmade (Some true) is section body files image = absurd is

either_still : (pairs more : Pairs) (image : Files → Type 0) (held : Secrets) → HoldsDealings pairs image held → HoldsEither pairs more image held
either_still pairs more image held holds = record { whole = holds.whole; gives = λ c here. inl (holds.gives c here) }

pub gives_unmade : (tell : Type 0) (ends : Option Bool) → IsUnmade ends → (pairs more : Pairs) (image : Files → Type 0) (held : Secrets) → GivesDealing tell ends pairs more image image held held
gives_unmade tell None is pairs more image held = record {
  notes = record { each = λ c here. (c, here, record { acks = refl; logs = refl }) };
  either = λ told. either_still pairs more image held;
  done = λ told. tt;
}
gives_unmade tell (Some false) is pairs more image held = record {
  notes = record { each = λ c here. (c, here, record { acks = refl; logs = refl }) };
  either = λ told. either_still pairs more image held;
  done = λ told holds. holds;
}
gives_unmade tell (Some true) is pairs more image held = absurd is

module _ {D X : Type 0} (known : Type 0) (disk : D → D → List (DeviceCall Op) → Type 0) (secrets : X → X → List (DeviceCall SecretOp) → Type 0) (disk_faults : D → ℕ) (secret_faults : X → ℕ) where
  pub called_unmade : ((a : D) → disk a a []) → ((a : X) → secrets a a []) → (ends : Option Bool) → IsUnmade ends → (calls : List EitherOp) (devices : Devices D X) → Called known disk secrets disk_faults secret_faults ends calls devices devices
  called_unmade no_disk no_secrets None is calls devices = record {
    same_disk = refl;
    same_secrets = refl;
    later_disk = omega arith;
    later_secrets = omega arith;
    counts = record { call = refl; pick = refl; later = omega arith };
    ran = λ told. none_ran disk secrets devices.disk.now devices.secrets.now devices.fuse calls (no_disk devices.disk.now) (no_secrets devices.secrets.now);
    all = λ told. tt;
    not_cut = tt;
  }
  called_unmade no_disk no_secrets (Some false) is calls devices = record {
    same_disk = refl;
    same_secrets = refl;
    later_disk = omega arith;
    later_secrets = omega arith;
    counts = record { call = refl; pick = refl; later = omega arith };
    ran = λ told. none_ran disk secrets devices.disk.now devices.secrets.now devices.fuse calls (no_disk devices.disk.now) (no_secrets devices.secrets.now);
    all = λ told. record { each = record { on_the_disk = no_disk devices.disk.now; on_the_secrets = no_secrets devices.secrets.now }; fuse = refl };
    not_cut = λ reached. let a = reached.not_yet in let b = reached.by_now in omega (arith, a, b);
  }
  called_unmade no_disk no_secrets (Some true) is calls devices = absurd is

-- WHAT AN ERROR IS DUE TO

pub due_of_devices : (e : StoreError) (disk secrets cut want : Type 0) → ErrorIsDue e disk secrets cut want → IsOfDevices e
due_of_devices Disk disk secrets cut want due = tt
due_of_devices OfSecrets disk secrets cut want due = tt
due_of_devices Cut disk secrets cut want due = tt
due_of_devices NoMemory disk secrets cut want due = tt
due_of_devices (Corrupt name place) disk secrets cut want due = absurd due
due_of_devices (LocalState cause) disk secrets cut want due = absurd due
due_of_devices (StateSyncEpochs info floor) disk secrets cut want due = absurd due
due_of_devices StateSyncMaterial disk secrets cut want due = absurd due

-- .. in a call around it
pub due_around : (e : StoreError) {record_at record_too : Name → ℕ → Type 0} {disk secrets cut want disk_too secrets_too cut_too want_too : Type 0} → ErrorIsDueWith record_at e disk secrets cut want
    → ((name : Name) (place : ℕ) → record_at name place → record_too name place) → (disk → disk_too) → (secrets → secrets_too) → (cut → cut_too) → (want → want_too) → ErrorIsDueWith record_too e disk_too secrets_too cut_too want_too
due_around Disk due r d s c w = d due
due_around OfSecrets due r d s c w = s due
due_around Cut due r d s c w = c due
due_around NoMemory due r d s c w = w due
due_around (Corrupt name place) due r d s c w = r name place due
due_around (LocalState cause) due r d s c w = due
due_around (StateSyncEpochs info floor) due r d s c w = due
due_around StateSyncMaterial due r d s c w = due

-- want of memory alone
pub due_want : (e : StoreError) (record_at : Name → ℕ → Type 0) (disk secrets cut want : Type 0) → e ≡ NoMemory → want → ErrorIsDueWith record_at e disk secrets cut want
due_want e record_at disk secrets cut want is w = subst (λ (x : StoreError). ErrorIsDueWith record_at x disk secrets cut want) (sym is) w

pub due_error : (e : StoreError) (disk secrets cut want : Type 0) → IsOfDevices e → (e ≡ Disk → disk) → (e ≡ OfSecrets → secrets) → (e ≡ Cut → cut) → (e ≡ NoMemory → want) → ErrorIsDue e disk secrets cut want
due_error Disk disk secrets cut want is d s c w = d refl
due_error OfSecrets disk secrets cut want is d s c w = s refl
due_error Cut disk secrets cut want is d s c w = c refl
due_error NoMemory disk secrets cut want is d s c w = w refl
due_error (Corrupt name place) disk secrets cut want is d s c w = is
due_error (LocalState cause) disk secrets cut want is d s c w = is
due_error (StateSyncEpochs info floor) disk secrets cut want is d s c w = is
due_error StateSyncMaterial disk secrets cut want is d s c w = is

-- .. of the journal
pub due_journal : {T : Type 0} (e : JournalError) (disk secrets cut want : Type 0) → IsOfDevice e → (◌≡◌ {A = Result T JournalError} (Err e) (Err of_journal.Disk) → disk) → (◌≡◌ {A = Result T JournalError} (Err e) (Err of_journal.Cut) → cut)
    → (◌≡◌ {A = Result T JournalError} (Err e) (Err of_journal.NoMemory) → want) → ErrorIsDue (store_error_of e) disk secrets cut want
due_journal of_journal.Disk disk secrets cut want is d c w = d refl
due_journal of_journal.Cut disk secrets cut want is d c w = c refl
due_journal of_journal.NoMemory disk secrets cut want is d c w = w refl
due_journal (of_journal.Corrupt name place) disk secrets cut want is d c w = absurd is
due_journal of_journal.TooLong disk secrets cut want is d c w = absurd is

-- THE SAME, of a call that was given the same

pub same_entry : {section section_too : ℕ} {body body_too : List ℕ} → section ≡ section_too → body ≡ body_too → ◌≡◌ {A = SectionEntry} (section, body) (section_too, body_too)
same_entry a b = λ i. (a i, b i)

pub extends_alike : {ends : Option Bool} {section section_too : ℕ} {body body_too : List ℕ} {files files_now : Files} {image next : Files → Type 0} → section ≡ section_too → body ≡ body_too → Extends ends section body files files_now image next
    → Extends ends section_too body_too files files_now image next
extends_alike {ends} {files = files} {files_now = files_now} {image = image} {next = next} a b extends = subst (λ (e : SectionEntry). Extends ends e.0 e.1 files files_now image next) (same_entry a b) extends

pub called_alike : {D X : Type 0} {known : Type 0} {disk : D → D → List (DeviceCall Op) → Type 0} {secrets : X → X → List (DeviceCall SecretOp) → Type 0} {disk_faults : D → ℕ} {secret_faults : X → ℕ} {ends : Option Bool} {calls calls_too : List EitherOp} {old new : Devices D X}
    → calls ≡ calls_too → Called known disk secrets disk_faults secret_faults ends calls old new → Called known disk secrets disk_faults secret_faults ends calls_too old new
called_alike {known = known} {disk = disk} {secrets = secrets} {disk_faults = disk_faults} {secret_faults = secret_faults} {ends = ends} {old = old} {new = new} same called =
    subst (λ (l : List EitherOp). Called known disk secrets disk_faults secret_faults ends l old new) same called

-- The calls of an append are those of a journal in which each section's file ends at the same place.
same_calls : (e : SectionEntry) (journal ready : Journal) → ((s : ℕ) → place_at ready.places s ≡ place_at journal.places s) → append_calls ready e ≡ append_calls journal e
same_calls e journal ready places = ap (λ (place : Option ℕ). append_calls_at place e) (places e.0)

pub calls_alike : {op op_too : SecretOp} {section section_too : ℕ} {body body_too : List ℕ} (journal ready : Journal) → op ≡ op_too → section ≡ section_too → body ≡ body_too → ((s : ℕ) → place_at ready.places s ≡ place_at journal.places s)
    → put_then_append op ready (section, body) ≡ put_then_append op_too journal (section_too, body_too)
calls_alike {op} {section = section} {body = body} journal ready puts a b places =
    ap (λ (l : List Op). on_secrets op ∷ map on_disk l) (same_calls (section, body) journal ready places)
    ∙ (λ i. put_then_append (puts i) journal (a i, b i))

-- THE RECORDING OF A DEALING

module _ (tell : Type 0) (epoch dealer private : ℕ) (public : List ℕ) (fits : IsEvent (events.Dealing dealer public)) (pairs : Pairs) (unknown : get pairs (epoch, dealer) ≡ None) {op : SecretOp} {section : ℕ} {body : List ℕ}
    (puts : op ≡ PutDealing epoch dealer private) (at : section ≡ epoch) (spells : body ≡ event_spelling (events.Dealing dealer public)) (held now : Secrets) (image next : Files → Type 0)
    (may : ImagesFollow (MayAdd (section, body)) image next) (steps : tell → PutsFirst op (section, body) image next held now)
  where
    steps_so : tell → PutsFirst (PutDealing epoch dealer private) (epoch, event_spelling (events.Dealing dealer public)) image next held now
    steps_so told =
        subst (λ (o : SecretOp). PutsFirst o (epoch, event_spelling (events.Dealing dealer public)) image next held now) puts
        (subst (λ (e : SectionEntry). PutsFirst op e image next held now) (same_entry at spells) (steps told))

    -- it was stopped
    pub gives_put : GivesDealing tell None pairs (insert pairs (epoch, dealer) (public, private)) image next held now
    gives_put = record {
      notes = dealing_notes section epoch dealer body public image next at spells fits may;
      either = λ told holds. puts_hold epoch dealer private public fits pairs unknown held now image next holds (steps_so told);
      done = λ told. tt;
    }

    -- .. or it is done
    pub gives_recorded : (tell → now ≡ after op held) → ImagesFollow (AddsEntry (section, body)) image next → GivesDealing tell (Some true) pairs (insert pairs (epoch, dealer) (public, private)) image next held now
    gives_recorded done adds = record {
      notes = gives_put.notes;
      either = gives_put.either;
      done = λ told holds.
          done_holds epoch dealer private public fits pairs unknown held now image next holds (done told ∙ ap (λ (o : SecretOp). after o held) puts)
          (subst (λ (e : SectionEntry). ImagesFollow (AddsEntry e) image next) (same_entry at spells) adds);
    }

-- WHERE IT ENDED SO

pub extends_as : {ends ends_too : Option Bool} {section : ℕ} {body : List ℕ} {files files_now : Files} {image next : Files → Type 0} → ends ≡ ends_too → Extends ends section body files files_now image next → Extends ends_too section body files files_now image next
extends_as {section = section} {body = body} {files = files} {files_now = files_now} {image = image} {next = next} is extends = subst (λ (o : Option Bool). Extends o section body files files_now image next) is extends

pub gives_as : {tell : Type 0} {ends ends_too : Option Bool} {pairs more : Pairs} {image next : Files → Type 0} {held now : Secrets} → ends ≡ ends_too → GivesDealing tell ends pairs more image next held now → GivesDealing tell ends_too pairs more image next held now
gives_as {tell} {pairs = pairs} {more = more} {image = image} {next = next} {held = held} {now = now} is gives = subst (λ (o : Option Bool). GivesDealing tell o pairs more image next held now) is gives

pub called_as : {D X : Type 0} {known : Type 0} {disk : D → D → List (DeviceCall Op) → Type 0} {secrets : X → X → List (DeviceCall SecretOp) → Type 0} {disk_faults : D → ℕ} {secret_faults : X → ℕ} {ends ends_too : Option Bool} {calls : List EitherOp} {old new : Devices D X}
    → ends ≡ ends_too → Called known disk secrets disk_faults secret_faults ends calls old new → Called known disk secrets disk_faults secret_faults ends_too calls old new
called_as {known = known} {disk = disk} {secrets = secrets} {disk_faults = disk_faults} {secret_faults = secret_faults} {calls = calls} {old = old} {new = new} is called =
    subst (λ (o : Option Bool). Called known disk secrets disk_faults secret_faults o calls old new) is called

pub unmade_as : (b : Bool) → b ≡ false → IsUnmade (Some b)
unmade_as b is = subst (λ (x : Bool). IsUnmade (Some x)) (sym is) tt

-- .. of an append whose error is a device's, a cut's or want of memory
pub due_append : {T : Type 0} (e : JournalError) (disk secrets cut want : Type 0) → IsOfDevices (store_error_of e) → (◌≡◌ {A = Result T JournalError} (Err e) (Err of_journal.Disk) → disk) → (◌≡◌ {A = Result T JournalError} (Err e) (Err of_journal.Cut) → cut)
    → (◌≡◌ {A = Result T JournalError} (Err e) (Err of_journal.NoMemory) → want) → ErrorIsDue (store_error_of e) disk secrets cut want
due_append of_journal.Disk disk secrets cut want is d c w = d refl
due_append of_journal.Cut disk secrets cut want is d c w = c refl
due_append of_journal.NoMemory disk secrets cut want is d c w = w refl
due_append (of_journal.Corrupt name place) disk secrets cut want is d c w = absurd is
due_append of_journal.TooLong disk secrets cut want is d c w = absurd is

-- THE RECORDING OF A NOTE

module _ {V W : Type 0} (note_of : SectionEntry → Option (Note V)) (other_of : SectionEntry → Option (Note W)) where
  pub note_as : {ends ends_too : Option Bool} {m more : Notes V} {image next : Files → Type 0} {held now : Secrets} → ends ≡ ends_too → GivesNote (noted note_of) (noted other_of) ends m more image next held now
      → GivesNote (noted note_of) (noted other_of) ends_too m more image next held now
  note_as {m = m} {more = more} {image = image} {next = next} {held = held} {now = now} is gives = subst (λ (o : Option Bool). GivesNote (noted note_of) (noted other_of) o m more image next held now) is gives

  pub note_unmade : (ends : Option Bool) → IsUnmade ends → (m more : Notes V) (image : Files → Type 0) (held : Secrets) → GivesNote (noted note_of) (noted other_of) ends m more image image held held
  note_unmade None is m more image held = record {
    either = λ gives. record { each = λ c here. inl (gives.each c here) };
    done = tt;
    others = λ n gives. gives;
    holds = λ pairs holds. holds;
  }
  note_unmade (Some false) is m more image held = record {
    either = λ gives. record { each = λ c here. inl (gives.each c here) };
    done = λ gives. gives;
    others = λ n gives. gives;
    holds = λ pairs holds. holds;
  }
  note_unmade (Some true) is m more image held = absurd is

  module _ (m : Notes V) (k : ℕ × ℕ) (v : V) (e : SectionEntry) (unknown : get m k ≡ None) (says : note_of e ≡ Some (k, v)) (not_other : other_of e ≡ None) (no_dealing : recorded_dealing e ≡ None) (held now : Secrets) (same : now ≡ held) (image next : Files → Type 0)
      (may : ImagesFollow (MayAdd e) image next)
    where
      holds_still : (pairs : Pairs) → HoldsDealings pairs image held → HoldsDealings pairs next now
      holds_still pairs holds = subst (λ (s : Secrets). HoldsDealings pairs next s) (sym same) (silent_holds held e no_dealing pairs image next may holds)

      -- it was stopped
      pub note_put : GivesNote (noted note_of) (noted other_of) None m (insert m k v) image next held now
      note_put = record {
        either = λ gives. gives_either note_of m k v e image next says unknown may gives;
        done = tt;
        others = λ n gives. gives_still other_of n e image next not_other may gives;
        holds = holds_still;
      }

      -- .. or it is done
      pub note_done : ImagesFollow (AddsEntry e) image next → GivesNote (noted note_of) (noted other_of) (Some true) m (insert m k v) image next held now
      note_done adds = record {
        either = note_put.either;
        done = λ gives. gives_added note_of m k v e image next says unknown adds gives;
        others = note_put.others;
        holds = holds_still;
      }

-- READS, and calls of the secrets alone

module _ {D X : Type 0} (known : Type 0) (disk : D → D → List (DeviceCall Op) → Type 0) (secrets : X → X → List (DeviceCall SecretOp) → Type 0) (disk_faults : D → ℕ) (secret_faults : X → ℕ) (no_disk : (a : D) → disk a a []) where
  none_on : (old new : D) → new ≡ old → disk old new []
  none_on old new same = subst (λ (d : D). disk old d []) (sym same) (no_disk old)

  no_less : (count : D → ℕ) (old new : D) → new ≡ old → count old ≤ count new
  no_less count old new same = let is = ap count same in omega (arith, is)

  pub called_read : (ends : Option Bool) → IsUnmade ends → (calls : List EitherOp) (old new : Devices D X) → new.disk.now ≡ old.disk.now → new.disk.ghost_name ≡ old.disk.ghost_name → new.secrets.ghost_name ≡ old.secrets.ghost_name
      → secrets old.secrets.now new.secrets.now [] → new.fuse ≡ old.fuse → secret_faults old.secrets.now ≤ secret_faults new.secrets.now → Called known disk secrets disk_faults secret_faults ends calls old new
  called_read ends is calls old new same loan loan_too none still later = record {
    same_disk = loan;
    same_secrets = loan_too;
    later_disk = no_less disk_faults old.disk.now new.disk.now same;
    later_secrets = later;
    counts = counts_same old.fuse new.fuse still;
    ran = λ told. record { first = []; rest = calls; whole = refl; all = nothing };
    all = λ told. all_of ends is;
    not_cut = uncut ends is;
  }
    where
      nothing : RanAll (MadeBoth disk secrets) (old.disk.now, old.secrets.now) (new.disk.now, new.secrets.now) old.fuse new.fuse []
      nothing = record { each = record { on_the_disk = none_on old.disk.now new.disk.now same; on_the_secrets = none }; fuse = still }

      all_of : (o : Option Bool) → IsUnmade o → IfSome o (λ made. RanAll (MadeBoth disk secrets) (old.disk.now, old.secrets.now) (new.disk.now, new.secrets.now) old.fuse new.fuse (if made then calls else []))
      all_of None is = tt
      all_of (Some false) is = nothing
      all_of (Some true) is = absurd is

      unreached : Reached old.fuse new.fuse → ⊥
      unreached reached =
          let a = reached.not_yet in
          let b = reached.by_now in
          let one = ap (λ (f : Burn). f.spent) still in
          omega (arith, a, b, one)

      uncut : (o : Option Bool) → IsUnmade o → IfSome o (λ made. Reached old.fuse new.fuse → ⊥)
      uncut None is = tt
      uncut (Some false) is = unreached
      uncut (Some true) is = absurd is

  -- calls of the secrets, as both devices had them
  secrets_all : (a b : D) (x y : X) (f g : Burn) (calls : List SecretOp) → b ≡ a → RanAll secrets x y f g calls → RanAll (MadeBoth disk secrets) (a, x) (b, y) f g (map on_secrets calls)
  secrets_all a b x y f g calls same all = record {
    each = record {
      on_the_disk = subst (λ (l : List (DeviceCall Op)). disk a b l) (sym (none_of_disk calls f)) (none_on a b same);
      on_the_secrets = subst (λ (l : List (DeviceCall SecretOp)). secrets x y l) (sym (all_of_secrets calls f)) all.each;
    };
    fuse = all.fuse ∙ sym (burned_alike calls f);
  }

  secrets_ran : (a b : D) (x y : X) (f g : Burn) (calls : List SecretOp) → b ≡ a → Ran secrets x y f g calls → Ran (MadeBoth disk secrets) (a, x) (b, y) f g (map on_secrets calls)
  secrets_ran a b x y f g calls same ran = record {
    first = map on_secrets ran.first;
    rest = map on_secrets ran.rest;
    whole = ap (map on_secrets) ran.whole ∙ map-append on_secrets ran.first ran.rest;
    all = secrets_all a b x y f g ran.first same ran.all;
  }

  pub called_secrets : (ends : Option Bool) (calls : List SecretOp) (old new : Devices D X) → new.disk.now ≡ old.disk.now → new.disk.ghost_name ≡ old.disk.ghost_name → new.secrets.ghost_name ≡ old.secrets.ghost_name
      → secret_faults old.secrets.now ≤ secret_faults new.secrets.now → Ran secrets old.secrets.now new.secrets.now old.fuse new.fuse calls
      → IfSome ends (λ made. RanAll secrets old.secrets.now new.secrets.now old.fuse new.fuse (if made then calls else [])) → IfSome ends (λ made. Reached old.fuse new.fuse → ⊥)
      → Called known disk secrets disk_faults secret_faults ends (map on_secrets calls) old new
  called_secrets ends calls old new same loan loan_too later ran all uncut = record {
    same_disk = loan;
    same_secrets = loan_too;
    later_disk = no_less disk_faults old.disk.now new.disk.now same;
    later_secrets = later;
    counts = counts_burned ran.first old.fuse new.fuse ran.all.fuse;
    ran = λ told. secrets_ran old.disk.now new.disk.now old.secrets.now new.secrets.now old.fuse new.fuse calls same ran;
    all = λ told. all_of ends all;
    not_cut = uncut;
  }
    where
      all_of : (o : Option Bool) → IfSome o (λ made. RanAll secrets old.secrets.now new.secrets.now old.fuse new.fuse (if made then calls else []))
          → IfSome o (λ made. RanAll (MadeBoth disk secrets) (old.disk.now, old.secrets.now) (new.disk.now, new.secrets.now) old.fuse new.fuse (if made then map on_secrets calls else []))
      all_of None its = tt
      all_of (Some false) its = secrets_all old.disk.now new.disk.now old.secrets.now new.secrets.now old.fuse new.fuse [] same its
      all_of (Some true) its = secrets_all old.disk.now new.disk.now old.secrets.now new.secrets.now old.fuse new.fuse calls same its

-- a count that rose later on
rises : (most a b c : ℕ) → a ≤ b → (b < c) ⊎ (b + 1 ≡ most) → b ≤ c → (a < c) ⊎ (a + 1 ≡ most)
rises most a b c ab (inl less) bc = inl (omega (arith, ab, less))
rises most a b c ab (inr full) bc = by_order (nat_lt a b) refl
  where
    by_order : (t : Bool) → nat_lt a b ≡ t → (a < c) ⊎ (a + 1 ≡ most)
    by_order true e = inl (grind (arith, nat_tests))
    by_order false e = inr (grind (arith, nat_tests))

pub later_rose : (a b c : ℕ) → a ≤ b → b ≤ c → Rose b c → Rose a c
later_rose a b c ab bc rose = rises (2 ^ 64) a b c ab rose bc

-- devices that were read alone give back what they did
pub holds_read : {D : Type 0} (image : D → Files → Type 0) (old new : D) (held now : Secrets) → new ≡ old → now ≡ held → (pairs : Pairs) → HoldsDealings pairs (image old) held → HoldsDealings pairs (image new) now
holds_read {D} image old new held now same same_too pairs holds =
    subst (λ (d : D). HoldsDealings pairs (image d) now) (sym same) (subst (λ (s : Secrets). HoldsDealings pairs (image old) s) (sym same_too) holds)

-- OPENINGS

pub due_opening : {T : Type 0} (e : JournalError) (record_at : Name → ℕ → Type 0) (disk secrets cut want : Type 0) → (◌≡◌ {A = Result T JournalError} (Err e) (Err of_journal.TooLong) → ⊥)
    → ((name : Name) (place : ℕ) → ◌≡◌ {A = Result T JournalError} (Err e) (Err (of_journal.Corrupt name place)) → record_at name place) → (◌≡◌ {A = Result T JournalError} (Err e) (Err of_journal.Disk) → disk)
    → (◌≡◌ {A = Result T JournalError} (Err e) (Err of_journal.Cut) → cut) → (◌≡◌ {A = Result T JournalError} (Err e) (Err of_journal.NoMemory) → want) → ErrorIsDueWith record_at (store_error_of e) disk secrets cut want
due_opening of_journal.Disk record_at disk secrets cut want short r d c w = d refl
due_opening of_journal.Cut record_at disk secrets cut want short r d c w = c refl
due_opening of_journal.NoMemory record_at disk secrets cut want short r d c w = w refl
due_opening (of_journal.Corrupt name place) record_at disk secrets cut want short r d c w = r name place refl
due_opening of_journal.TooLong record_at disk secrets cut want short r d c w = absurd (short refl)

pub due_restoring : (e : StoreError) (record_at : Name → ℕ → Type 0) (disk secrets cut want : Type 0) → IsOfRestoring e → ((name : Name) (place : ℕ) → e ≡ Corrupt name place → record_at name place) → (e ≡ OfSecrets → secrets) → want
    → ErrorIsDueWith record_at e disk secrets cut want
due_restoring OfSecrets record_at disk secrets cut want is r s w = s refl
due_restoring NoMemory record_at disk secrets cut want is r s w = w
due_restoring (Corrupt name place) record_at disk secrets cut want is r s w = r name place refl
due_restoring Disk record_at disk secrets cut want is r s w = absurd is
due_restoring Cut record_at disk secrets cut want is r s w = absurd is
due_restoring (LocalState cause) record_at disk secrets cut want is r s w = absurd is
due_restoring (StateSyncEpochs info floor) record_at disk secrets cut want is r s w = absurd is
due_restoring StateSyncMaterial record_at disk secrets cut want is r s w = absurd is

-- it comes of a device, a cut or want of memory, where no record is blamed
pub due_sound : (e : StoreError) (record_at : Name → ℕ → Type 0) (disk secrets cut want : Type 0) → ((name : Name) (place : ℕ) → record_at name place → ⊥) → ErrorIsDueWith record_at e disk secrets cut want → IsOfDevices e
due_sound Disk record_at disk secrets cut want none due = tt
due_sound OfSecrets record_at disk secrets cut want none due = tt
due_sound Cut record_at disk secrets cut want none due = tt
due_sound NoMemory record_at disk secrets cut want none due = tt
due_sound (Corrupt name place) record_at disk secrets cut want none due = absurd (none name place due)
due_sound (LocalState cause) record_at disk secrets cut want none due = absurd due
due_sound (StateSyncEpochs info floor) record_at disk secrets cut want none due = absurd due
due_sound StateSyncMaterial record_at disk secrets cut want none due = absurd due

pub due_kinds : (e : StoreError) (record_at : Name → ℕ → Type 0) (disk secrets cut want : Type 0) → ErrorIsDueWith record_at e disk secrets cut want → IsOfOpening e
due_kinds Disk record_at disk secrets cut want due = tt
due_kinds OfSecrets record_at disk secrets cut want due = tt
due_kinds Cut record_at disk secrets cut want due = tt
due_kinds NoMemory record_at disk secrets cut want due = tt
due_kinds (Corrupt name place) record_at disk secrets cut want due = tt
due_kinds (LocalState cause) record_at disk secrets cut want due = absurd due
due_kinds (StateSyncEpochs info floor) record_at disk secrets cut want due = absurd due
due_kinds StateSyncMaterial record_at disk secrets cut want due = absurd due

pub due_record : (e : StoreError) (record_at : Name → ℕ → Type 0) (disk secrets cut want : Type 0) (name : Name) (place : ℕ) → e ≡ Corrupt name place → ErrorIsDueWith record_at e disk secrets cut want → record_at name place
due_record e record_at disk secrets cut want name place is due = subst (λ (x : StoreError). ErrorIsDueWith record_at x disk secrets cut want) is due

pub is_open_there : (journal read : Journal) (files : Files) (image : Files → Type 0) → IsOpen journal files image → read.places ≡ journal.places → IsOpen read files image
is_open_there journal read files image opened same = subst (λ (places : _). IsOpenAt places files image) (sym same) opened

pub kept_holds : (pairs : Pairs) (image next : Files → Type 0) (held now : Secrets) → ImagesFollow Keeps image next → now ≡ held → HoldsDealings pairs image held → HoldsDealings pairs next now
kept_holds pairs image next held now keeps same holds = subst (λ (s : Secrets). HoldsDealings pairs next s) (sym same) (record {
  whole = λ c here. let from = keeps.each c here in subst (λ (es : List SectionEntry). IsWhole es held) (sym from.2.same) (holds.whole from.0 from.1);
  gives = λ c here. let from = keeps.each c here in ap (λ (es : List SectionEntry). recovered es held) from.2.same ∙ holds.gives from.0 from.1;
})

pub restored_holds : (pairs : Pairs) (files : Files) (next : Files → Type 0) (held now : Secrets) → ((c : Files) → next c → entries c ≡ entries files) → now ≡ held → pairs ≡ recovered (entries files) held → IsWhole (entries files) held → HoldsDealings pairs next now
restored_holds pairs files next held now settled same is whole = subst (λ (s : Secrets). HoldsDealings pairs next s) (sym same) (record {
  whole = λ c here. subst (λ (es : List SectionEntry). IsWhole es held) (sym (settled c here)) whole;
  gives = λ c here. ap (λ (es : List SectionEntry). recovered es held) (settled c here) ∙ sym is;
})

-- calls of the disk alone
module _ {D X : Type 0} (known : Type 0) (disk : D → D → List (DeviceCall Op) → Type 0) (secrets : X → X → List (DeviceCall SecretOp) → Type 0) (disk_faults : D → ℕ) (secret_faults : X → ℕ) where
  disk_too : (a b : D) (x y : X) (f g : Burn) (calls : List Op) → secrets x y [] → RanAll disk a b f g calls → RanAll (MadeBoth disk secrets) (a, x) (b, y) f g (map on_disk calls)
  disk_too a b x y f g calls none all = record {
    each = record {
      on_the_disk = subst (λ (l : List (DeviceCall Op)). disk a b l) (sym (disk_calls-map calls f)) all.each;
      on_the_secrets = subst (λ (l : List (DeviceCall SecretOp)). secrets x y l) (sym (secret_calls-map calls f)) none;
    };
    fuse = all.fuse ∙ sym (burned-map calls f);
  }

  pub called_disk : (ends : Option Bool) (calls : List Op) (old new : Devices D X) → new.disk.ghost_name ≡ old.disk.ghost_name → new.secrets.ghost_name ≡ old.secrets.ghost_name
      → disk_faults old.disk.now ≤ disk_faults new.disk.now → secret_faults old.secrets.now ≤ secret_faults new.secrets.now → secrets old.secrets.now new.secrets.now [] → CountsOn old.fuse new.fuse
      → (known → Ran disk old.disk.now new.disk.now old.fuse new.fuse calls) → (known → IfSome ends (λ made. RanAll disk old.disk.now new.disk.now old.fuse new.fuse (if made then calls else [])))
      → IfSome ends (λ made. Reached old.fuse new.fuse → ⊥) → Called known disk secrets disk_faults secret_faults ends (map on_disk calls) old new
  called_disk ends calls old new loan loan_too later later_too none counts ran all uncut = record {
    same_disk = loan;
    same_secrets = loan_too;
    later_disk = later;
    later_secrets = later_too;
    counts = counts;
    ran = λ told. let its = ran told in record {
      first = map on_disk its.first;
      rest = map on_disk its.rest;
      whole = ap (map on_disk) its.whole ∙ map-append on_disk its.first its.rest;
      all = disk_too old.disk.now new.disk.now old.secrets.now new.secrets.now old.fuse new.fuse its.first none its.all;
    };
    all = λ told. all_of ends (all told);
    not_cut = uncut;
  }
    where
      all_of : (o : Option Bool) → IfSome o (λ made. RanAll disk old.disk.now new.disk.now old.fuse new.fuse (if made then calls else []))
          → IfSome o (λ made. RanAll (MadeBoth disk secrets) (old.disk.now, old.secrets.now) (new.disk.now, new.secrets.now) old.fuse new.fuse (if made then map on_disk calls else []))
      all_of None its = tt
      all_of (Some false) its = disk_too old.disk.now new.disk.now old.secrets.now new.secrets.now old.fuse new.fuse [] none its
      all_of (Some true) its = disk_too old.disk.now new.disk.now old.secrets.now new.secrets.now old.fuse new.fuse calls none its
