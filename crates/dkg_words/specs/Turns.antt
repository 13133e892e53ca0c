-- Block lines in turn, each at the height above the one before, which is its parent; and the first two neighbours among blocks that no one chain has.
use Rattle.std.specs.Prelude.{ℕ, ◌≡◌, ◌+◌, ◌-◌, ◌<◌, List, [], ◌∷◌, ◌++◌, length, get_or, Some, None, codes, decimal}
use Rattle.std.specs.List.{AllAdjacentBelow}
use Rattle.dkg_words.specs.declared.chain.Block.{Block}
use Rattle.dkg_words.specs.declared.chain.Front.{Front}
use Rattle.dkg_words.specs.declared.chain.Pair.{Pair}
use Rattle.dkg_words.specs.Chain.{why_apart}

-- blocks whose heights and whose parents' numbers go up by one, from such a height and such a number
abbrev pub AreTurned : (height parent : ℕ) → List Block → Type 0
AreTurned height parent [] = Unit {0}
AreTurned height parent (b ∷ bs) = (b.height ≡ height) × (b.parent ≡ Some parent) × AreTurned (height + 1) (parent + 1) bs

abbrev pub AreInTurn : List Block → Type 0
AreInTurn [] = Unit {0}
AreInTurn (b ∷ bs) = AreTurned (b.height + 1) 0 bs

-- how the line of a block of such a height and parent begins
abbrev pub front_words : (height parent : ℕ) → List ℕ
front_words height parent = codes "block " ++ (decimal height ++ (32 ∷ (decimal parent ++ 32 ∷ [])))

-- those words, and where the last digits of both numbers stand
pub record AreFrontWords (height parent : ℕ) (words : List ℕ) (height_end parent_end : ℕ) : Type 0 where
  pub words_are : words ≡ front_words height parent
  pub height_ends : height_end + 1 ≡ length (codes "block " ++ decimal height)
  pub parent_ends : parent_end + 1 ≡ length (codes "block " ++ (decimal height ++ (32 ∷ decimal parent)))

pub record IsLineFront (height parent : ℕ) (front : Front) : Type 0 where
  pub height_is : front.height ≡ height
  pub parent_is : front.parent ≡ parent
  pub words_are : AreFrontWords height parent front.words.items front.height_end front.parent_end

-- a number between a space and other bytes, counted on: it has as many digits
pub record IsCountedOn (a b : List ℕ) (n : ℕ) (words : List ℕ) : Type 0 where
  pub words_are : words ≡ a ++ 32 ∷ (decimal (n + 1) ++ b)
  pub digits : length (decimal (n + 1)) ≡ length (decimal n)

-- no two neighbours before the one of such an index are apart
abbrev pub NoneApartBelow : (text : List ℕ) → (blocks used : List Block) → (index : ℕ) → Type 0
NoneApartBelow text blocks used index = AllAdjacentBelow (λ one other. why_apart text blocks one other ≡ None) used index

-- the first two neighbours that are
pub record AreFirstApart (text : List ℕ) (blocks used : List Block) (pair : Pair) : Type 0 where
  pub index : ℕ
  pub some : 0 < index
  pub inside : index < length used
  pub before : NoneApartBelow text blocks used index
  pub one : pair.one ≡ get_or used (index - 1) pair.one
  pub other : pair.other ≡ get_or used index pair.other
  pub why : why_apart text blocks pair.one pair.other ≡ Some pair.why
