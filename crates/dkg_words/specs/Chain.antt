-- The warning of blocks that a script's lives use and that make no chain.
use Rattle.std.specs.Prelude.{ℕ, zero, suc, ◌≡◌, ◌+◌, ◌-◌, ◌^◌, ◌<◌, ◌==◌, ◌&&◌, ◌||◌, nat_eq, min, not, Bool, true, false, if◌then◌else◌, List, [], ◌∷◌, ◌++◌, length, drop, filter, slice_get, Contains, Option, Some, None, codes, decimal}
use Rattle.std.specs.List.{starts_with}
use Rattle.std.specs.Option.{option_map_or}
use Rattle.std.specs.Str.{bytes_eq}
use Rattle.dkg_reading.specs.Rows.{decimal_of, fields_in}
use Rattle.dkg_words.specs.declared.chain.Block.{Block}
use Rattle.dkg_words.specs.declared.chain.Pair.{Pair}
use Rattle.dkg_words.specs.declared.chain.Why.{Why}
use Rattle.dkg_words.specs.declared.chain.Why.TheVariants.{Twice, Loose}
use Rattle.dkg_words.specs.Before.{counted_up}
use Rattle.dkg_words.specs.Lines.{behind_byte, first_number, line_number, name_in, number_or_zero, over_lines, until}
use Rattle.dkg_words.specs.Own.{place_behind_first}

-- THE BLOCK LINES

abbrev pub number_behind : Option (List ℕ) → Option ℕ
number_behind (Some fields) = decimal_of (until 32 fields)
number_behind None = None

abbrev pub parent_behind : Option (List ℕ) → Option ℕ
parent_behind (Some fields) = number_behind (behind_byte 32 fields)
parent_behind None = None

-- the number behind that of a block line's height, if one stands there
abbrev pub parent_number : (line : List ℕ) → Option ℕ
parent_number line = parent_behind (behind_byte 32 line)

-- the block of a line that begins at a place
abbrev pub line_block : (place : ℕ) (line : List ℕ) → Block
line_block place line = record { place = place; height = first_number line; parent = parent_number line; used = false }

abbrev pub is_block_line : List ℕ → Bool
is_block_line line = starts_with nat_eq line (codes "block ")

abbrev pub ended_block_line : (line : List ℕ) → (behind : Option (List ℕ)) → Option (List ℕ)
ended_block_line line (Some behind) = if is_block_line line then Some line else None
ended_block_line line None = None

-- the line from a place on, and that line where it is a block line that is ended
abbrev pub line_from : (text : List ℕ) (place : ℕ) → List ℕ
line_from text place = until 10 (drop place text)

abbrev pub block_line_from : (text : List ℕ) (place : ℕ) → Option (List ℕ)
block_line_from text place = ended_block_line (line_from text place) (behind_byte 10 (drop place text))

-- where the line behind one begins
abbrev pub place_behind : (place : ℕ) (line : List ℕ) → ℕ
place_behind place line = counted_up (min (place + length line) (2 ^ 64 - 1))

-- the blocks of the block lines from a place on, one line behind another, of so many lines at most
unfoldable pub block_lines : (text : List ℕ) → (most place : ℕ) → List Block
block_lines text zero place = []
block_lines text (suc most) place =
    option_map_or (λ line. line_block place line ∷ block_lines text most (place_behind place line)) (block_line_from text place) []

abbrev pub blocks_from : (text : List ℕ) → Option ℕ → List Block
blocks_from text (Some place) = block_lines text (length text) place
blocks_from text None = []

-- those of the first block line of a text and of the block lines behind it
abbrev pub text_blocks : (text : List ℕ) → List Block
text_blocks text = blocks_from text (place_behind_first text (codes "\nblock "))

-- WHICH ARE USED

-- the block of a number is used
abbrev pub mark_at : List Block → ℕ → List Block
mark_at [] number = []
mark_at (b ∷ bs) zero = record b { used = true } ∷ bs
mark_at (b ∷ bs) (suc number) = b ∷ mark_at bs number

abbrev pub mark_all : List Block → (fields : List (List ℕ)) → List Block
mark_all blocks [] = blocks
mark_all blocks (field ∷ fields) = mark_all (mark_at blocks (number_or_zero field)) fields

abbrev pub mark_behind : List Block → (fields : Option (List ℕ)) → List Block
mark_behind blocks (Some fields) = mark_all blocks (fields_in fields)
mark_behind blocks None = blocks

-- whether a line of a life names blocks that the life uses
abbrev pub is_using : (name : List ℕ) → Bool
is_using name = bytes_eq name (codes "final") || bytes_eq name (codes "held") || bytes_eq name (codes "processed") || bytes_eq name (codes "absent")

abbrev pub mark_by : List Block → (line : List ℕ) → List Block
mark_by blocks line = if is_using (name_in line) then mark_behind blocks (behind_byte 32 line) else blocks

abbrev pub text_from : (text : List ℕ) → Option ℕ → List ℕ
text_from text (Some place) = drop place text
text_from text None = []

-- a script's lives
abbrev pub lives_in : (text : List ℕ) → List ℕ
lives_in text = text_from text (place_behind_first text (codes "\nlife "))

-- the blocks, with those marked that a line of a life names, and these alone
abbrev pub marked_blocks : (text : List ℕ) → List Block → List Block
marked_blocks text blocks = over_lines mark_by blocks [] (lives_in text)

abbrev pub used_of : List Block → List Block
used_of blocks = filter (λ b. b.used) blocks

-- WHICH MAKE NO CHAIN

-- lines that say the same are one block
abbrev pub are_same : (text : List ℕ) → (one other : Block) → Bool
are_same text one other = bytes_eq (line_from text one.place) (line_from text other.place)

abbrev pub block_numbered : List Block → Option ℕ → Option Block
block_numbered blocks (Some number) = slice_get blocks number
block_numbered blocks None = None

-- whether a block's parent is that one
abbrev pub is_child : (text : List ℕ) → List Block → (block parent : Block) → Bool
is_child text blocks block parent = option_map_or (λ its. are_same text its parent) (block_numbered blocks block.parent) false

-- why no one chain has two blocks: they have one height, or the second stands at the height above the first and has another parent
abbrev pub why_apart : (text : List ℕ) → List Block → (one other : Block) → Option Why
why_apart text blocks one other =
    if one.height == other.height then (if are_same text one other then None else Some Twice)
    else (if (other.height - one.height == 1) && not (is_child text blocks other one) then Some Loose else None)

-- no two of the used ones are so
abbrev pub MakeChain : (text : List ℕ) → (blocks used : List Block) → Type 0
MakeChain text blocks used = (one other : Block) → Contains used one → Contains used other → why_apart text blocks one other ≡ None

-- Two of the used ones are, and no two of them of which the second stands lower.
pub record IsApartPair (text : List ℕ) (blocks used : List Block) (pair : Pair) : Type 0 where
  pub one : Contains used pair.one
  pub other : Contains used pair.other
  pub why : why_apart text blocks pair.one pair.other ≡ Some pair.why
  pub lowest : (one other : Block) → Contains used one → Contains used other → other.height < pair.other.height → why_apart text blocks one other ≡ None

abbrev pub FindsApart : (text : List ℕ) → (blocks used : List Block) → Option Pair → Type 0
FindsApart text blocks used (Some pair) = IsApartPair text blocks used pair
FindsApart text blocks used None = MakeChain text blocks used

-- two used blocks of a script that no one chain has, where there are such
abbrev pub IsPairAmong : (text : List ℕ) → (blocks : List Block) → Option Pair → Type 0
IsPairAmong text blocks pair = FindsApart text (marked_blocks text blocks) (used_of (marked_blocks text blocks)) pair

-- WHAT IS SAID

-- what stands before the height of the second block
abbrev pub why_front : Why → List ℕ
why_front Twice = codes ": two blocks of height "
why_front Loose = codes ": the used block of height "

-- what stands behind it
abbrev pub why_back : Why → List ℕ
why_back Twice = codes " are used: the promise doesn't cover this run\n"
why_back Loose = codes " has another parent than the used block below it: the promise doesn't cover this run\n"

abbrev pub lines_told : (text : List ℕ) → Pair → List ℕ
lines_told text pair =
    codes "warning: lines " ++ decimal (line_number text pair.one.place) ++ codes " and " ++ decimal (line_number text pair.other.place)

abbrev pub pair_told : (text : List ℕ) → Pair → List ℕ
pair_told text pair = lines_told text pair ++ why_front pair.why ++ decimal pair.other.height ++ why_back pair.why

abbrev pub chain_told : (text : List ℕ) → Option Pair → List ℕ
chain_told text (Some pair) = pair_told text pair
chain_told text None = []

-- nothing just where the used blocks make a chain, and else what is said of two that no one chain has
pub record IsChainWarning (text line : List ℕ) : Type 0 where
  pub pair : Option Pair
  pub found : IsPairAmong text (text_blocks text) pair
  pub parts : line ≡ chain_told text pair
