-- How the entries of a log are gone through.
use Rattle.std.proofs.Common.{◌≡◌, ℕ, zero, suc, ◌+◌, ◌<◌, ◌&&◌, List, [], ◌∷◌, length, get_or, drop, refl, add-one, arith}
use Rattle.dkg_ceremony.specs.declared.log_entry.LogEntry.{LogEntry}
use Rattle.dkg_ceremony.specs.ValidLogs.{entry_passes, entries_pass}

entries_turn : (content public : List ℕ) (index : ℕ) (players : List ℕ) (entries : List LogEntry) (i d : ℕ) (e : LogEntry) → i < length players → i < length entries
    → entries_pass content public index (drop i players) (drop i entries) ≡ (entry_passes content public index (get_or players i d) (get_or entries i e) && entries_pass content public (index + 1) (drop (suc i) players) (drop (suc i) entries))
entries_turn content public index [] entries i d e lt few = absurd (omega arith)
entries_turn content public index (player ∷ players) [] i d e lt few = absurd (omega arith)
entries_turn content public index (player ∷ players) (entry ∷ entries) zero d e lt few = refl
entries_turn content public index (player ∷ players) (entry ∷ entries) (suc i) d e lt few = entries_turn content public index players entries i d e (omega arith) (omega arith)

pub entries_more : (content public : List ℕ) (players : List ℕ) (entries : List LogEntry) (i d : ℕ) (e : LogEntry) → i < length players → i < length entries
    → entries_pass content public i (drop i players) (drop i entries) ≡ (entry_passes content public i (get_or players i d) (get_or entries i e) && entries_pass content public (i + 1) (drop (i + 1) players) (drop (i + 1) entries))
entries_more content public players entries i d e lt few = simp add-one (simp add-one at (entries_turn content public i players entries i d e lt few))
