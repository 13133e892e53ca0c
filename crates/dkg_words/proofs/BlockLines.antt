-- The blocks of block lines, one line on, and behind the last one.
use Rattle.std.proofs.Common.{◌≡◌, ℕ, zero, suc, ◌+◌, ◌-◌, ◌<◌, ◌≤◌, Bool, true, false, List, [], ◌∷◌, ◌++◌, length, drop, Option, Some, None, Result, Ok, Err, refl, sym, ap, subst, ◌∙◌, append_assoc, append-nil, arith}
use Rattle.std.specs.Prelude.{All, IfOk, IsTrue, if◌then◌else◌}
use Rattle.std.specs.Option.{option_map_or}
use Rattle.std.proofs.lemmas.List.Elements.{All-cons, All-nil}
use Rattle.dkg_words.specs.declared.chain.Block.{Block}
use Rattle.dkg_words.specs.declared.chain.Front.{Front}
use Rattle.dkg_words.specs.Chain.{block_line_from, block_lines, ended_block_line, is_block_line, line_block, line_from, parent_number, place_behind}
use Rattle.dkg_words.specs.Lines.{behind_byte, first_number}
use Rattle.dkg_words.specs.Turns.{AreInTurn, AreTurned, IsLineFront}

-- the first block of what a line begins, and those behind it
abbrev begun : (text : List ℕ) (most place : ℕ) → Option (List ℕ) → List Block
begun text most place o = option_map_or (λ line. line_block place line ∷ block_lines text most (place_behind place line)) o []

pub block_lines_none : (text : List ℕ) (most place : ℕ) → block_line_from text place ≡ None → block_lines text most place ≡ []
unfolding block_lines
block_lines_none text zero place is = refl
block_lines_none text (suc most) place is = ap (begun text most place) is

block_lines_some : (text : List ℕ) (most place : ℕ) (line : List ℕ) → block_line_from text place ≡ Some line
    → block_lines text (suc most) place ≡ line_block place line ∷ block_lines text most (place_behind place line)
unfolding block_lines
block_lines_some text most place line is = ap (begun text most place) is

pub block_lines_over : (text : List ℕ) (n i place : ℕ) → n ≤ i → block_lines text (n - i) place ≡ []
unfolding block_lines
block_lines_over text n i place past = let none : n - i ≡ 0 = omega arith in ap (λ (m : ℕ). block_lines text m place) none

-- where a loop is at its line i
pub block_lines_on : (text : List ℕ) (n i place : ℕ) (line : List ℕ) → i < n → block_line_from text place ≡ Some line
    → block_lines text (n - i) place ≡ line_block place line ∷ block_lines text (n - (i + 1)) (place_behind place line)
block_lines_on text n i place line below is =
    let more : suc (n - (i + 1)) ≡ n - i = omega arith in
    subst (λ (m : ℕ). block_lines text m place ≡ line_block place line ∷ block_lines text (n - (i + 1)) (place_behind place line)) more (block_lines_some text (n - (i + 1)) place line is)

-- .. and its block is put behind those before
pub block_lines_pushed : (text : List ℕ) (n i place next : ℕ) (line : List ℕ) (b : Block) (before after whole : List Block) → i < n → block_line_from text place ≡ Some line
    → b ≡ line_block place line → after ≡ before ++ b ∷ [] → next ≡ place_behind place line → before ++ block_lines text (n - i) place ≡ whole
    → after ++ block_lines text (n - (i + 1)) next ≡ whole
block_lines_pushed text n i place next line b before after whole below is block pushed behind all =
    let more = block_lines text (n - (i + 1)) (place_behind place line) in
    let on : block_lines text (n - i) place ≡ line_block place line ∷ more = block_lines_on text n i place line below is in
    ap (λ (q : ℕ). after ++ block_lines text (n - (i + 1)) q) behind
    ∙ (ap (λ (l : List Block). l ++ more) pushed
    ∙ (append_assoc before (b ∷ []) more
    ∙ (ap (λ (c : Block). before ++ c ∷ more) block ∙ (ap (λ (l : List Block). before ++ l) (sym on) ∙ all))))

-- .. and none is left
pub block_lines_done : (before rest whole : List Block) → rest ≡ [] → before ++ rest ≡ whole → before ≡ whole
block_lines_done before rest whole none all = sym (append-nil before) ∙ (ap (λ (l : List Block). before ++ l) (sym none) ∙ all)

-- WHAT STANDS IN TURN

pub turned_on : (text : List ℕ) (n i place h p : ℕ) (line : List ℕ) → i < n → block_line_from text place ≡ Some line → first_number line ≡ h → parent_number line ≡ Some p
    → AreTurned (h + 1) (p + 1) (block_lines text (n - (i + 1)) (place_behind place line)) → AreTurned h p (block_lines text (n - i) place)
turned_on text n i place h p line below is height parent more = subst (AreTurned h p) (sym (block_lines_on text n i place line below is)) (height, parent, more)

pub turned_none : (text : List ℕ) (most place h p : ℕ) → block_line_from text place ≡ None → AreTurned h p (block_lines text most place)
turned_none text most place h p is = subst (AreTurned h p) (sym (block_lines_none text most place is)) tt

pub turned_over : (text : List ℕ) (n i place h p : ℕ) → n ≤ i → AreTurned h p (block_lines text (n - i) place)
turned_over text n i place h p past = subst (AreTurned h p) (sym (block_lines_over text n i place past)) tt

pub in_turn_none : (text : List ℕ) (most place : ℕ) → block_line_from text place ≡ None → AreInTurn (block_lines text most place)
in_turn_none text most place is = subst AreInTurn (sym (block_lines_none text most place is)) tt

pub in_turn_some : (text : List ℕ) (n place : ℕ) (line : List ℕ) → block_line_from text place ≡ Some line
    → AreTurned (first_number line + 1) 0 (block_lines text (n - 1) (place_behind place line)) → AreInTurn (block_lines text n place)
unfolding block_lines
in_turn_some text zero place line is turned = tt
in_turn_some text (suc m) place line is turned =
    let same : suc m - 1 ≡ m = omega arith in
    let more : AreTurned (first_number line + 1) 0 (block_lines text m (place_behind place line)) =
    subst (λ (k : ℕ). AreTurned (first_number line + 1) 0 (block_lines text k (place_behind place line))) same turned in
    subst AreInTurn (sym (block_lines_some text m place line is)) more

pub in_turn_result : {E : Type 0} (text : List ℕ) (place next height : ℕ) (line : List ℕ) (front : Front) (r : Result Bool E) → block_line_from text place ≡ Some line
    → height ≡ first_number line + 1 → IsLineFront height 0 front → next ≡ place_behind place line
    → IfOk r (λ are. IsTrue are → AreTurned front.height front.parent (block_lines text (length text - 1) next)) → IfOk r (λ are. IsTrue are → AreInTurn (block_lines text (length text) place))
in_turn_result text place next height line front (Ok are) is high begins behind turned = λ yes.
    let one : AreTurned front.height front.parent (block_lines text (length text - 1) (place_behind place line)) =
    subst (λ (q : ℕ). AreTurned front.height front.parent (block_lines text (length text - 1) q)) behind (turned yes) in
    let two : AreTurned front.height 0 (block_lines text (length text - 1) (place_behind place line)) =
    subst (λ (p : ℕ). AreTurned front.height p (block_lines text (length text - 1) (place_behind place line))) begins.parent_is one in
    in_turn_some text (length text) place line is (subst (λ (h : ℕ). AreTurned h 0 (block_lines text (length text - 1) (place_behind place line))) (begins.height_is ∙ high) two)
in_turn_result text place next height line front (Err e) is high begins behind turned = tt

-- WHERE THEY STAND

-- a block's parent is the one that its line names
abbrev pub IsFromText : (text : List ℕ) → Block → Type 0
IsFromText text b = b.parent ≡ parent_number (line_from text b.place)

line_kept : (t : Bool) (l line : List ℕ) → (if t then Some l else None) ≡ Some line → l ≡ line
line_kept true l line is = cc is
line_kept false l line is = cc is

ended_kept : (l : List ℕ) (b : Option (List ℕ)) (line : List ℕ) → ended_block_line l b ≡ Some line → l ≡ line
ended_kept l None line is = cc is
ended_kept l (Some rest) line is = line_kept (is_block_line l) l line is

block_line_is : (text : List ℕ) (place : ℕ) (line : List ℕ) → block_line_from text place ≡ Some line → line_from text place ≡ line
block_line_is text place line is = ended_kept (line_from text place) (behind_byte 10 (drop place text)) line is

begun_from_text : (text : List ℕ) (most place : ℕ) → ((later : ℕ) → All (IsFromText text) (block_lines text most later)) → (o : Option (List ℕ)) → block_line_from text place ≡ o
    → All (IsFromText text) (begun text most place o)
begun_from_text text most place more None is = All-nil (IsFromText text)
begun_from_text text most place more (Some line) is =
    All-cons (IsFromText text) (line_block place line) (block_lines text most (place_behind place line)) (ap parent_number (sym (block_line_is text place line is)))
    (more (place_behind place line))

pub all_from_text : (text : List ℕ) (most place : ℕ) → All (IsFromText text) (block_lines text most place)
unfolding block_lines
all_from_text text zero place = All-nil (IsFromText text)
all_from_text text (suc most) place = begun_from_text text most place (λ (later : ℕ). all_from_text text most later) (block_line_from text place) refl
