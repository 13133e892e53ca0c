-- What goes over the lines of a text, one line on, and behind the last one.
use Rattle.std.proofs.Common.{◌≡◌, ℕ, ◌==◌, Bool, true, false, List, [], ◌∷◌, ◌++◌, Some, None, refl, ap, ◌∙◌, append_assoc, append-nil}
use Rattle.std.specs.Prelude.{if◌then◌else◌}
use Rattle.dkg_words.specs.Lines.{behind_byte, over_lines, until}

module _ {A : Type 0} (after : A → List ℕ → A) where
  one_byte : (state : A) (line : List ℕ) (b : ℕ) (bs rest : List ℕ) (t : Bool)
      → ((line : List ℕ) → behind_byte 10 bs ≡ Some rest → over_lines after state line bs ≡ over_lines after (after state (line ++ until 10 bs)) [] rest)
      → (if t then Some bs else behind_byte 10 bs) ≡ Some rest
      → (if t then over_lines after (after state line) [] bs else over_lines after state (line ++ b ∷ []) bs)
      ≡ over_lines after (after state (line ++ (if t then [] else b ∷ until 10 bs))) [] rest
  one_byte state line b bs rest true more is =
      let same : bs ≡ rest = cc is in
      rw (append-nil line, same) refl
  one_byte state line b bs rest false more is = more (line ++ b ∷ []) is ∙ ap (λ l. over_lines after (after state l) [] rest) (append_assoc line (b ∷ []) (until 10 bs))

  pub over_line : (state : A) (line text rest : List ℕ) → behind_byte 10 text ≡ Some rest → over_lines after state line text ≡ over_lines after (after state (line ++ until 10 text)) [] rest
  unfolding over_lines
  over_line state line [] rest is = cc is
  over_line state line (b ∷ bs) rest is = one_byte state line b bs rest (b == 10) (λ l e. over_line state l bs rest e) is

  last_byte : (state : A) (line : List ℕ) (b : ℕ) (bs : List ℕ) (t : Bool)
      → ((line : List ℕ) → behind_byte 10 bs ≡ None → over_lines after state line bs ≡ state)
      → (if t then Some bs else behind_byte 10 bs) ≡ None
      → (if t then over_lines after (after state line) [] bs else over_lines after state (line ++ b ∷ []) bs) ≡ state
  last_byte state line b bs true more is = cc is
  last_byte state line b bs false more is = more (line ++ b ∷ []) is

  pub over_rest : (state : A) (line text : List ℕ) → behind_byte 10 text ≡ None → over_lines after state line text ≡ state
  unfolding over_lines
  over_rest state line [] is = refl
  over_rest state line (b ∷ bs) is = last_byte state line b bs (b == 10) (λ l e. over_rest state l bs e) is
