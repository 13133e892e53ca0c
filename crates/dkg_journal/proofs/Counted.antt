-- The counts and causes of calls one behind the other.
use Rattle.std.proofs.Common.{ℕ, ◌≤◌, Result, Ok, IsErrOf, arith}
use Rattle.dkg_journal.specs.Burn.{Burn}
use Rattle.dkg_journal.specs.Counts.{Caused, Counts}
use Rattle.dkg_journal.specs.Disk.{Rose}
use Rattle.dkg_journal.specs.Names.{Files}
use Rattle.dkg_journal.specs.declared.call.JournalError.{JournalError}
use Rattle.dkg_journal.specs.declared.call.JournalError.TheVariants.{Disk, Cut, NoMemory}
use Rattle.dkg_journal.proofs.Fuses.{fused_none, fused_then}

pub rose_after : (a b c : ℕ) → a ≤ b → b ≤ c → Rose b c → Rose a c
rose_after a b c low high rose = grind (arith, low, high, rose)

-- no call was made
pub counts_none : {D T : Type 0} (faults wants : D → ℕ) (r : Result T JournalError) (a : D) → (IsErrOf r Disk → ⊥) → Counts faults wants r a a
counts_none faults wants r a not = record { later = omega arith; later_wants = omega arith; disk = λ is. absurd (not is) }

-- calls that ended well, and calls behind them
pub counts_then : {D S T : Type 0} (faults wants : D → ℕ) (x : S) (r : Result T JournalError) (a b c : D) → Counts faults wants (Ok x) a b → Counts faults wants r b c → Counts faults wants r a c
counts_then faults wants x r a b c first second = record {
  later = omega (arith, first.later, second.later);
  later_wants = omega (arith, first.later_wants, second.later_wants);
  disk = λ is. rose_after (faults a) (faults b) (faults c) first.later second.later (second.disk is);
}

module _ {D T : Type 0} (Tells : Type 0) (files : D → Files) (image : D → Files → Type 0) (faults wants : D → ℕ) where
  pub caused_none : (r : Result T JournalError) (a : D) (f : Burn) → (IsErrOf r Disk → ⊥) → (IsErrOf r Cut → ⊥) → Caused Tells files image faults wants r a a f f
  caused_none r a f not not_cut = record {
    counts = counts_none faults wants r a not;
    fused = fused_none Cut NoMemory r f not_cut;
    lands = λ is. absurd (not_cut is);
  }

  pub caused_then : {S : Type 0} (x : S) (r : Result T JournalError) (a b c : D) (f g h : Burn) → Caused Tells files image faults wants (Ok x) a b f g → Caused Tells files image faults wants r b c g h → Caused Tells files image faults wants r a c f h
  caused_then x r a b c f g h first second = record {
    counts = counts_then faults wants x r a b c first.counts second.counts;
    fused = fused_then Cut NoMemory x r f g h first.fused second.fused;
    lands = second.lands;
  }
