-- What a call leaves of the disk, and what both devices give back behind it, wherever it was stopped.
use Rattle.std.specs.Prelude.{◌≡◌, ℕ, nat_le, Bool, true, List, map, Option, None, IfSome, if◌then◌else◌}
use Rattle.std.specs.FinMap.{retain_keys}
use Rattle.dkg_values.specs.declared.name.Name.TheVariants.{Segment}
use Rattle.dkg_journal.specs.Disk.{ImagesFollow, Lands, SameElse}
use Rattle.dkg_journal.specs.Gated.{OpensAlike, gated_entries}
use Rattle.dkg_journal.specs.Gated.{gated as the_gate}
use Rattle.dkg_journal.specs.Journals.{IsOpen}
use Rattle.dkg_journal.specs.Names.{Files}
use Rattle.dkg_journal.specs.Opening.{first_break}
use Rattle.dkg_journal.specs.Pruning.{LeavesAbove}
use Rattle.dkg_journal.specs.Records.{SectionEntry, entries}
use Rattle.dkg_journal.specs.Steps.{Keeps}
use Rattle.dkg_journal.specs.Views.{views}
use Rattle.dkg_journal.specs.declared.journal.Journal.{Journal}
use Rattle.dkg_store.specs.Corrupt.{AreEvents, AreFit}
use Rattle.dkg_store.specs.Events.{is_event_body}
use Rattle.dkg_store.specs.Named.{Named, MayBeNamed, NamesOpened, NamesPruned, SamePlan}
use Rattle.dkg_store.specs.Noted.{ImagesGive, ImagesGiveEither, GivesPruned, Notes, SameNotes, acks_in, logs_in}
use Rattle.dkg_store.specs.Pairs.{Pairs, HoldsDealings, HoldsEither, HoldsPruned, IsWhole, recovered}
use Rattle.dkg_store.specs.Recorded.{restored_list}
use Rattle.dkg_secrets.specs.Secrets.{Secrets}
use Rattle.dkg_store.specs.declared.recorded_log.RecordedLog.{RecordedLog}
use Rattle.dkg_store.specs.declared.store.Store.{Store}

-- An append leaves this of the disk.
pub record Extends (ends : Option Bool) (section : ℕ) (body : List ℕ) (files files_now : Files) (image next : Files → Type 0) : Type 0 where
  -- each record that a crash leaves is whole and an event within a limit, where that was so and this is one
  pub fit : (limit : ℕ) → is_event_body limit body ≡ true → AreFit limit image → AreFit limit next
  -- every file but the journal's is as it was
  pub others : ImagesFollow (SameElse (Segment section)) image next
  -- Where nothing was loose, each image has the names from before, or the journal's own with them.
  pub names : Lands files image → ImagesFollow (MayBeNamed section) image next
  -- Where it ended, the journal's own is among them if it made a record; and nothing is loose, if nothing was.
  pub named : IfSome ends (λ made. ImagesFollow (Named made section) image next)
  pub lands : IfSome ends (λ made. Lands files image → Lands files_now next)

-- Behind the recording of a dealing: what the devices gave back, with the new one or without; and exactly with it where it was recorded.
pub record GivesDealing (tell : Type 0) (ends : Option Bool) (pairs more : Pairs) (image next : Files → Type 0) (held held_now : Secrets) : Type 0 where
  pub notes : ImagesFollow SameNotes image next
  pub either : tell → HoldsDealings pairs image held → HoldsEither pairs more next held_now
  pub done : tell → IfSome ends (λ made. HoldsDealings pairs image held → HoldsDealings (if made then more else pairs) next held_now)

-- .. of a note: what is given of its kind, with it or without; what is given of the other kind; and the dealings
pub record GivesNote {M N : Type 0} (given : List SectionEntry → M) (other : List SectionEntry → N) (ends : Option Bool) (notes more : M) (image next : Files → Type 0) (held held_now : Secrets) : Type 0 where
  pub either : ImagesGive given notes image → ImagesGiveEither given notes more next
  pub done : IfSome ends (λ made. ImagesGive given notes image → ImagesGive given (if made then more else notes) next)
  pub others : (n : N) → ImagesGive other n image → ImagesGive other n next
  pub holds : (pairs : Pairs) → HoldsDealings pairs image held → HoldsDealings pairs next held_now

-- A prune leaves this of the disk.
pub record Shrinks (min : ℕ) (ends : Option Bool) (files files_now : Files) (image next : Files → Type 0) : Type 0 where
  pub fit : (limit : ℕ) → AreFit limit image → AreFit limit next
  pub plan : ImagesFollow SamePlan image next
  pub names : ImagesFollow (NamesPruned min) image next
  pub left : IfSome ends (λ made. ImagesFollow (LeavesAbove min) image next)
  pub lands : IfSome ends (λ made. Lands files image → Lands files_now next)

-- Behind it: what the devices gave back at or above a minimum, at or below this one; and exactly at or above this where it ended.
pub record GivesAbove (min : ℕ) (ends : Option Bool) (image next : Files → Type 0) (held held_now : Secrets) : Type 0 where
  pub pairs : (pairs : Pairs) → HoldsDealings pairs image held → HoldsPruned min pairs next held_now
  pub acks : (acks : Notes (List ℕ)) → ImagesGive acks_in acks image → GivesPruned acks_in min acks next
  pub logs : (logs : Notes RecordedLog) → ImagesGive logs_in logs image → GivesPruned logs_in min logs next
  pub all_pairs : IfSome ends (λ made. (pairs : Pairs) → HoldsDealings pairs image held → HoldsDealings (retain_keys pairs (λ key. nat_le min key.0)) next held_now)
  pub all_acks : IfSome ends (λ made. (acks : Notes (List ℕ)) → ImagesGive acks_in acks image → ImagesGive acks_in (retain_keys acks (λ key. nat_le min key.0)) next)
  pub all_logs : IfSome ends (λ made. (logs : Notes RecordedLog) → ImagesGive logs_in logs image → ImagesGive logs_in (retain_keys logs (λ key. nat_le min key.0)) next)

-- An opening of the journal found this, and nothing of the disk is loose behind it.
pub record OpensOver (journal : Journal) (files files_now : Files) (next : Files → Type 0) : Type 0 where
  pub opened : IsOpen journal files_now next
  pub listed : views journal.waiting.items ≡ entries files
  pub gated : map the_gate journal.waiting.items ≡ gated_entries files
  pub settled : (c : Files) → next c → entries c ≡ entries files
  pub whole : first_break files ≡ None
  -- another opening finds the same
  pub alike : OpensAlike files files_now
  pub names : (c : Files) → next c → NamesOpened files c
  pub lands : Lands files_now next

-- .. and one of the store restored this
pub record Restores {Dir : Type 0} (disk_tells secrets_tell : Type 0) (limit : ℕ) (store : Store Dir) (files files_now : Files) (next : Files → Type 0) (held held_now : Secrets) : Type 0 where
  pub current : store.current ≡ None
  pub listed : store.restored.items ≡ restored_list store.dealings
  pub opened : disk_tells → IsOpen store.journal files_now next
  pub dealings : disk_tells → secrets_tell → store.dealings ≡ recovered (entries files) held
  pub acks : disk_tells → store.acks ≡ acks_in (entries files)
  pub logs : disk_tells → store.logs ≡ logs_in (entries files)
  -- A crash leaves just that.
  pub holds : disk_tells → secrets_tell → IsWhole (entries files) held → HoldsDealings store.dealings next held_now
  pub gives_acks : disk_tells → ImagesGive acks_in store.acks next
  pub gives_logs : disk_tells → ImagesGive logs_in store.logs next
  pub settled : disk_tells → (c : Files) → next c → entries c ≡ entries files
  pub names : disk_tells → (c : Files) → next c → NamesOpened files c
  pub lands : disk_tells → Lands files_now next
  pub sound : disk_tells → (first_break files ≡ None) × AreEvents limit (entries files)

-- Wherever an opening was stopped: no entry is lost, each record is whole and an event within a limit where that was so, and the same dealings are
-- given back.
pub record Rereads (image next : Files → Type 0) (held held_now : Secrets) : Type 0 where
  pub images : ImagesFollow Keeps image next
  pub fit : (limit : ℕ) → AreFit limit image → AreFit limit next
  pub holds : (pairs : Pairs) → HoldsDealings pairs image held → HoldsDealings pairs next held_now
