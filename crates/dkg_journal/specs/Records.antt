-- What the bytes of a journal's file stand for.
use Rattle.std.specs.Prelude.{◌≡◌, ◌≢◌, ℕ, zero, suc, ◌+◌, ◌-◌, ◌<◌, ◌≤◌, ◌^◌, ◌==◌, ◌&&◌, nat_le, nat_lt, List, [], ◌∷◌, ◌++◌, map, filter, fold, flat_map, length, take, drop, if◌then◌else◌, Bool, false, Option, Some, None}
use Rattle.std.specs.Int.{w32, w64, to_be_bytes, from_be_bytes}
use Rattle.std.specs.List.{AllByRecursion}
use Rattle.std.specs.FinMap as map_of
use Rattle.dkg_journal.specs.Names.{Files}
use Rattle.dkg_values.specs.declared.name.Name.{Name}
use Rattle.dkg_values.specs.declared.name.Name.TheVariants.{Flat, Segment}

-- numbers in four and in eight bytes, the highest first
unfoldable pub number32 : ℕ → List ℕ
number32 n = to_be_bytes w32 n

unfoldable pub number64 : ℕ → List ℕ
number64 n = to_be_bytes w64 n

unfoldable pub read32 : List ℕ → ℕ
read32 bytes = from_be_bytes w32 (take 4 bytes)

unfoldable pub read64 : List ℕ → ℕ
read64 bytes = from_be_bytes w64 (take 8 bytes)

-- What stands behind an open gate is a whole record: its body has at least so many bytes, and the file holds all of them.
abbrev pub is_whole : ℕ → List ℕ → Bool
is_whole least rest = nat_le least (read32 rest) && nat_le (4 + read32 rest) (length rest)

-- the bodies of the whole records in front, of which there are at most n
abbrev pub bodies : ℕ → ℕ → List ℕ → List (List ℕ)
bodies least zero bytes = []
bodies least (suc n) [] = []
bodies least (suc n) (gate ∷ rest) = if (gate == 1) && is_whole least rest then take (read32 rest) (drop 4 rest) ∷ bodies least n (drop (4 + read32 rest) rest) else []

-- what stands behind those records
abbrev pub left_over : ℕ → ℕ → List ℕ → List ℕ
left_over least zero bytes = bytes
left_over least (suc n) [] = []
left_over least (suc n) (gate ∷ rest) = if (gate == 1) && is_whole least rest then left_over least n (drop (4 + read32 rest) rest) else gate ∷ rest

-- a section and a body
abbrev pub SectionEntry : Type 0
SectionEntry = ℕ × List ℕ

abbrev pub entry_in_body : List ℕ → SectionEntry
entry_in_body body = (read64 body, drop 8 body)

-- behind the entries of its section and of those below
abbrev pub placed : List SectionEntry → SectionEntry → List SectionEntry
placed [] e = e ∷ []
placed (x ∷ xs) e = if nat_lt e.0 x.0 then e ∷ x ∷ xs else x ∷ placed xs e

-- sections rising, each in its order
abbrev pub in_order : List SectionEntry → List SectionEntry
in_order es = fold placed [] es

-- the entries of sections at or above a minimum
abbrev pub from_section : ℕ → List SectionEntry → List SectionEntry
from_section min es = filter (λ e. nat_le min e.0) es

abbrev pub in_sections : List (List ℕ) → List SectionEntry
in_sections bs = in_order (map entry_in_body bs)

-- The entries of the flat file, sections rising. There a body begins with the eight bytes of its section.
abbrev pub flat_entries : List ℕ → List SectionEntry
flat_entries file = in_sections (bodies 8 (length file) file)

abbrev pub segment_entries : Name × List ℕ → List SectionEntry
segment_entries (Segment section, file) = map (λ body. (section, body)) (bodies 0 (length file) file)
segment_entries (_, file) = []

abbrev pub entries_with : Option (List ℕ) → Files → List SectionEntry
entries_with (Some file) f = flat_entries file
entries_with None f = flat_map segment_entries (map_of.entries f)

-- what the files of a journal stand for
abbrev pub entries : Files → List SectionEntry
entries f = entries_with (map_of.get f Flat) f

-- an open gate, the body's length, and the body
abbrev pub record_of : List ℕ → List ℕ
record_of body = 1 ∷ (number32 (length body) ++ body)

abbrev pub spelled : List (List ℕ) → List ℕ
spelled [] = []
spelled (b ∷ bs) = record_of b ++ spelled bs

-- a body that a record may have: of so many bytes at least
abbrev pub IsBody : ℕ → List ℕ → Type 0
IsBody least b = (least ≤ length b) × (length b < 2 ^ 32)

abbrev pub AreBodies : ℕ → List (List ℕ) → Type 0
AreBodies least bs = AllByRecursion (IsBody least) bs

-- Records of these bodies, and at this place a gate that isn't open. Anything may stand behind it.
pub record IsShut (least : ℕ) (bs : List (List ℕ)) (place : ℕ) (file : List ℕ) : Type 0 where
  pub gate : ℕ
  pub junk : List ℕ
  pub is : file ≡ spelled bs ++ gate ∷ junk
  pub shut : gate ≢ 1
  pub size : length (spelled bs) ≡ place
  pub short : AreBodies least bs

-- what is written behind the closed gate: a record but for its gate, and the next gate
abbrev pub behind_gate : List ℕ → List ℕ
behind_gate body = (number32 (length body) ++ body) ++ 0 ∷ []

-- the same file with one more record, whose gate isn't open
pub record Staged (least : ℕ) (bs : List (List ℕ)) (body : List ℕ) (place : ℕ) (file : List ℕ) : Type 0 where
  pub gate : ℕ
  pub junk : List ℕ
  pub is : file ≡ spelled bs ++ gate ∷ ((number32 (length body) ++ body) ++ 0 ∷ junk)
  pub shut : gate ≢ 1
  pub size : length (spelled bs) ≡ place
  pub short : AreBodies least bs
  pub short_body : IsBody least body

-- no whole record stands in front
abbrev pub HasNoWholeRecord : ℕ → List ℕ → Type 0
HasNoWholeRecord least [] = Unit {0}
HasNoWholeRecord least (gate ∷ rest) = ((gate == 1) && is_whole least rest) ≡ false

-- no open gate stands in front
abbrev pub HasNoOpenGate : List ℕ → Type 0
HasNoOpenGate [] = Unit {0}
HasNoOpenGate (gate ∷ rest) = gate ≢ 1

-- the bytes are records of these bodies up to this place, and a rest
pub record RecordsFront (least : ℕ) (bs : List (List ℕ)) (place : ℕ) (bytes rest : List ℕ) : Type 0 where
  pub split : bytes ≡ spelled bs ++ rest
  pub size : length (spelled bs) ≡ place
  pub short : AreBodies least bs

-- records of these bodies up to this place, where no open gate stands
pub record Whole (least : ℕ) (bs : List (List ℕ)) (place : ℕ) (bytes : List ℕ) : Type 0 where
  pub rest : List ℕ
  pub front : RecordsFront least bs place bytes rest
  pub ends : HasNoOpenGate rest

-- the place of an open gate, where one stands in front of these last bytes of n
abbrev pub open_gate : ℕ → List ℕ → Option ℕ
open_gate n [] = None
open_gate n (gate ∷ rest) = if gate == 1 then Some (n - suc (length rest)) else None

-- the place of the first record of a file that isn't whole
abbrev pub broken_at : ℕ → List ℕ → Option ℕ
broken_at least file = open_gate (length file) (left_over least (length file) file)
