-- A file in memory: its bytes, what the last sync left, and what a crash may leave of it.
use Rattle.std.specs.Prelude.{◌≡◌, ◌⊎◌, ◌<◌, ◌≤◌, ◌++◌, ◌||◌, ◌&&◌, ℕ, zero, suc, ◌+◌, ◌-◌, ◌/◌, ◌%◌, min, max, nat_le, nat_lt, if◌then◌else◌, Bool, List, [], ◌∷◌, length, take, drop, get_or, replicate, fold}
use Rattle.std.specs.List.{list_any}
use Rattle.dkg_journal.specs.Disk.{written}

-- bytes that a write put others in place of, and their place
abbrev pub Undone : Type 0
Undone = ℕ × List ℕ

-- the bytes, how many there were at the last sync, and what the writes since have put others in place of, oldest first
pub record KeptBytes : Type 0 where
  pub bytes : List ℕ
  pub synced : ℕ
  pub undo : List Undone

-- nothing of it is loose
abbrev pub settled : List ℕ → KeptBytes
settled bytes = record { bytes = bytes; synced = length bytes; undo = [] }

-- after a write
abbrev pub wrote : ℕ → List ℕ → KeptBytes → KeptBytes
wrote place bytes f = record {
  bytes = written place bytes f.bytes;
  synced = f.synced;
  undo = f.undo ++ (place, take (length bytes) (drop place f.bytes)) ∷ [];
}

-- these bytes put back from a place on
abbrev pub restored : ℕ → Undone → List ℕ → List ℕ
restored from u bytes = let skip = min (from - u.0) (length u.1) in written (u.0 + skip) (drop skip u.1) bytes

-- all of them put back from a place on, the newest first
abbrev pub rolled : ℕ → List Undone → List ℕ → List ℕ
rolled from [] bytes = bytes
rolled from (u ∷ us) bytes = restored from u (rolled from us bytes)

-- what was written below a place is kept, and the rest is as last synced
abbrev pub kept_to : ℕ → KeptBytes → List ℕ
kept_to from f = take (max f.synced (min from (length f.bytes))) (rolled from f.undo f.bytes)

-- one byte in all the places of these
abbrev pub filled : ℕ → List Undone → List ℕ → List ℕ
filled byte us bytes = fold (λ acc u. written u.0 (replicate (length u.1) byte) acc) bytes us

-- .. and from the old end on
abbrev pub filled_all : ℕ → KeptBytes → List ℕ
filled_all byte f = written f.synced (replicate (length f.bytes - f.synced) byte) (filled byte f.undo f.bytes)

abbrev pub AreWithin : List Undone → ℕ → Type 0
AreWithin [] n = Unit {0}
AreWithin (u ∷ us) n = (u.0 + length u.1 ≤ n) × AreWithin us n

-- no write since the last sync has touched this place
abbrev pub IsUntouched : List Undone → ℕ → Type 0
IsUntouched [] i = Unit {0}
IsUntouched (u ∷ us) i = ((i < u.0) ⊎ (u.0 + length u.1 ≤ i)) × IsUntouched us i

-- what a crash may leave
pub record FileImage (f : KeptBytes) (c : List ℕ) : Type 0 where
  pub no_shorter : min f.synced (length f.bytes) ≤ length c
  pub same_length : length f.bytes ≡ f.synced → length c ≡ f.synced
  pub agrees : (i : ℕ) → i < f.synced → IsUntouched f.undo i → get_or c i 0 ≡ get_or f.bytes i 0

-- whether a write since the last sync has touched a place
abbrev pub touched : List Undone → ℕ → Bool
touched us i = list_any (λ u. nat_le u.0 i && nat_lt i (u.0 + length u.1)) us

-- .. or it lies behind the old end: a crash may leave any byte there
abbrev pub loose_by : ℕ → (ℕ → Bool) → ℕ → Bool
loose_by synced test i = nat_le synced i || test i

abbrev pub is_loose : KeptBytes → ℕ → Bool
is_loose f = loose_by f.synced (touched f.undo)

-- how many places below one pass a test
abbrev pub count_below : (ℕ → Bool) → ℕ → ℕ
count_below test zero = 0
count_below test (suc n) = count_below test n + (if test n then 1 else 0)

-- A place below which the first q of the places that pass are, or all of them, and what is then left of q.
pub record IsBehind (test : ℕ → Bool) (len q place left : ℕ) : Type 0 where
  pub within : place ≤ len
  pub counts : count_below test place ≡ min q (count_below test len)
  pub rest : left ≡ q - count_below test len

-- the first q loose bytes as written, and the others as last synced
pub record KeepsFirst (q : ℕ) (f : KeptBytes) (bytes : List ℕ) : Type 0 where
  pub place : ℕ
  pub left : ℕ
  pub behind : IsBehind (is_loose f) (length f.bytes) q place left
  pub is : bytes ≡ kept_to place f

-- What a crash leaves by its pick r + 4 q, where so many loose bytes of this file may still be kept.
pub record Picked (pick count : ℕ) (f : KeptBytes) (bytes : List ℕ) : Type 0 where
  pub as_written : pick % 4 ≡ 0 → bytes ≡ f.bytes
  pub as_synced : pick % 4 ≡ 1 → bytes ≡ kept_to 0 f
  pub first : pick % 4 ≡ 2 → KeepsFirst count f bytes
  pub one_byte : pick % 4 ≡ 3 → bytes ≡ filled_all (pick / 4 % 256) f

-- how many may then be kept of the files behind it
pub record LeftOver (pick count : ℕ) (f : KeptBytes) (left : ℕ) : Type 0 where
  pub counted : pick % 4 ≡ 2 → left ≡ count - count_below (is_loose f) (length f.bytes)
  pub same : pick % 4 < 2 → left ≡ count
  pub same_too : pick % 4 ≡ 3 → left ≡ count
