-- What the entries of a log keep: all that their spelling asks, but the limit on how many.
use Rattle.std.proofs.Common.{ℕ, zero, suc, ◌+◌, ◌<◌, ◌≤◌, ◌^◌, List, [], ◌∷◌, length, get_or, take, subst, add-one, arith}
use Rattle.std.specs.List.{AllByRecursion}
use Rattle.std.proofs.lemmas.List.{take_all}
use Rattle.dkg_ceremony.specs.declared.log_entry.LogEntry.{LogEntry}
use Rattle.dkg_ceremony.specs.LogEntries.{EntryFits, EntriesFit}

pub record AreEntries (entries : List LogEntry) : Type 0 where
  pub in_bound : length entries < 2 ^ 32
  pub each : AllByRecursion EntryFits entries

pub entries_fit : (most : ℕ) (entries : List LogEntry) → AreEntries entries → length entries ≤ most → EntriesFit most entries
entries_fit most entries kept le = record { in_bound = le; small = kept.in_bound; each = kept.each }

fit_step : (entries : List LogEntry) (i : ℕ) (d : LogEntry) → i < length entries → AllByRecursion EntryFits (take i entries) → EntryFits (get_or entries i d) → AllByRecursion EntryFits (take (suc i) entries)
fit_step [] i d lt all one = absurd (omega arith)
fit_step (e ∷ es) zero d lt all one = (one, tt)
fit_step (e ∷ es) (suc i) d lt all one = (all.0, fit_step es i d (omega arith) all.1 one)

-- one entry more
pub fit_more : (entries : List LogEntry) (i : ℕ) (d : LogEntry) → i < length entries → AllByRecursion EntryFits (take i entries) → EntryFits (get_or entries i d) → AllByRecursion EntryFits (take (i + 1) entries)
fit_more entries i d lt all one = rw add-one (fit_step entries i d lt all one)

-- all entries
pub fit_all : (entries : List LogEntry) (i : ℕ) → length entries ≤ i → AllByRecursion EntryFits (take i entries) → AllByRecursion EntryFits entries
fit_all entries i le all = subst (AllByRecursion EntryFits) (take_all i entries le) all
