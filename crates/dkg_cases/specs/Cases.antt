-- The cases of a file: a head line `case NAME STATUS SCRIPT TRANSCRIPT`, then a script and a transcript.
use Rattle.std.specs.Prelude.{ℕ, ◌^◌, nat_le, if◌then◌else◌, List, take, drop, length, Option, Some, None, codes}
use Rattle.std.specs.Str.{bytes_eq}
use Rattle.dkg_reading.specs.Rows.{cut_at_byte, decimal_of, number_below, ◌>>=◌}

-- WHAT A HEAD LINE SAYS: the name, the status, and how many bytes the script and the transcript have

abbrev pub CaseHead : Type 0
CaseHead = List ℕ × ℕ × ℕ × ℕ

-- a status below 256, and two numbers, parted by single spaces
abbrev pub numbers_behind : (name fields : List ℕ) → Option CaseHead
numbers_behind name fields =
    cut_at_byte 32 fields >>= λ first. cut_at_byte 32 first.1 >>= λ second.
    number_below (2 ^ 8) first.0 >>= λ status. decimal_of second.0 >>= λ script. decimal_of second.1 >>= λ transcript.
    Some (name, status, script, transcript)

-- a name up to the next space, and the numbers behind it
abbrev pub named_numbers : (fields : List ℕ) → Option CaseHead
named_numbers fields = cut_at_byte 32 fields >>= λ parts. numbers_behind parts.0 parts.1

abbrev pub head_line : (line : List ℕ) → Option CaseHead
head_line line = cut_at_byte 32 line >>= λ parts. if bytes_eq parts.0 (codes "case") then named_numbers parts.1 else None

-- THE CASE

-- so many bytes at the front, and those behind them
abbrev pub parted_at : (count : ℕ) → List ℕ → Option (List ℕ × List ℕ)
parted_at count bytes = if nat_le count (length bytes) then Some (take count bytes, drop count bytes) else None

-- a case, and what stands behind it
pub record FrontCase : Type 0 where
  pub name : List ℕ
  pub status : ℕ
  pub script : List ℕ
  pub transcript : List ℕ
  pub rest : List ℕ

abbrev pub case_made : (name : List ℕ) (status : ℕ) (script transcript rest : List ℕ) → FrontCase
case_made name status script transcript rest = record { name = name; status = status; script = script; transcript = transcript; rest = rest }

abbrev pub texts_behind : CaseHead → (bytes : List ℕ) → Option FrontCase
texts_behind head bytes =
    parted_at head.2 bytes >>= λ script. parted_at head.3 script.1 >>= λ transcript.
    Some (case_made head.0 head.1 script.0 transcript.0 transcript.1)

-- the case at the front of a file's bytes, where a whole one stands there
abbrev pub case_at : (bytes : List ℕ) → Option FrontCase
case_at bytes = cut_at_byte 10 bytes >>= λ parts. head_line parts.0 >>= λ head. texts_behind head parts.1
