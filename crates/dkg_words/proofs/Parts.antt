-- What stands before and behind the first of some byte.
use Rattle.std.proofs.Common.{◌≡◌, ℕ, ◌<◌, List, [], ◌∷◌, ◌++◌, length, Option, Some, None, Bor, refl, arith, length-append}
use Rattle.std.specs.Prelude.{All, IfSome, MatchOption}
use Rattle.std.proofs.lemmas.Bool.{eq-eqb, ne_eqb}
use Rattle.std.proofs.lemmas.List.Elements.{All-head, All-tail}
use Rattle.dkg_text.specs.Fields.{IsCutAt}
use Rattle.dkg_words.specs.Lines.{behind_byte, until}

abbrev NotAt : ℕ → List ℕ → Type 0
NotAt at text = All (λ b. b ≡ at → ⊥) text

until_first : (at : ℕ) (before after : List ℕ) → NotAt at before → until at (before ++ at ∷ after) ≡ before
until_first at [] after all = rw (eq-eqb at at refl) refl
until_first at (b ∷ bs) after all =
    let other = ne_eqb b at (All-head (λ b. b ≡ at → ⊥) b bs all) in
    let rest = until_first at bs after (All-tail (λ b. b ≡ at → ⊥) b bs all) in
    rw (other, rest) refl

behind_first : (at : ℕ) (before after : List ℕ) → NotAt at before → behind_byte at (before ++ at ∷ after) ≡ Some after
behind_first at [] after all = rw (eq-eqb at at refl) refl
behind_first at (b ∷ bs) after all =
    let other = ne_eqb b at (All-head (λ b. b ≡ at → ⊥) b bs all) in
    let rest = behind_first at bs after (All-tail (λ b. b ≡ at → ⊥) b bs all) in
    rw (other, rest) refl

until_all : (at : ℕ) (text : List ℕ) → NotAt at text → until at text ≡ text
until_all at [] all = refl
until_all at (b ∷ bs) all =
    let other = ne_eqb b at (All-head (λ b. b ≡ at → ⊥) b bs all) in
    let rest = until_all at bs (All-tail (λ b. b ≡ at → ⊥) b bs all) in
    rw (other, rest) refl

behind_none : (at : ℕ) (text : List ℕ) → NotAt at text → behind_byte at text ≡ None
behind_none at [] all = refl
behind_none at (b ∷ bs) all =
    let other = ne_eqb b at (All-head (λ b. b ≡ at → ⊥) b bs all) in
    let rest = behind_none at bs (All-tail (λ b. b ≡ at → ⊥) b bs all) in
    rw (other, rest) refl

abbrev IsParted : ℕ → List ℕ → Option (Bor (List ℕ) × Bor (List ℕ)) → Type 0
IsParted at text r = MatchOption r (NotAt at text) (λ parts. IsCutAt at text parts.0.now parts.1.now)

pub parts_are : (at : ℕ) (text : List ℕ) (r : Option (Bor (List ℕ) × Bor (List ℕ))) → IsParted at text r
    → MatchOption r ((until at text ≡ text) × (behind_byte at text ≡ None)) (λ parts. (until at text ≡ parts.0.now) × (behind_byte at text ≡ Some parts.1.now))
parts_are at text None all = (until_all at text all, behind_none at text all)
parts_are at text (Some parts) is = rw is.whole (until_first at parts.0.now parts.1.now is.first, behind_first at parts.0.now parts.1.now is.first)

pub parts_shorter : (at : ℕ) (text : List ℕ) (r : Option (Bor (List ℕ) × Bor (List ℕ))) → IsParted at text r → IfSome r (λ parts. length parts.1.now < length text)
parts_shorter at text None all = tt
parts_shorter at text (Some parts) is = rw is.whole (let long = length-append parts.0.now (at ∷ parts.1.now) in omega (arith, long))
