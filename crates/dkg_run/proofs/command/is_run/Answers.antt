use Rattle.std.proofs.Common.{◌≡◌, ℕ, List, [], ◌∷◌, length, get_or, map, sym, ap, arith}
use Rattle.std.specs.Prelude.{string_bytes}
use Rattle.dkg_run.proofs.command.is_run.Goals as goal

one_of : {X Y : Type 0} (f : X → Y) (xs : List X) (x : X) → length xs ≡ 1 → x ≡ get_or xs 0 x → map f xs ≡ f x ∷ []
one_of f [] x one is = absurd (omega arith)
one_of f (y ∷ []) x one is = ap (λ (z : _). f z ∷ []) (sym is)
one_of f (y ∷ z ∷ zs) x one is = absurd (omega arith)

pub returns-in-len1 : goal.returns-in-len1
returns-in-len1 c =
    let one : length c.args.words.now ≡ 1 = omega arith in
    rw (one_of string_bytes c.args.words.now c.word-item.result one c.word-item.is, ← c.as_str.ensures.value) (λ yes. ap (λ (w : List ℕ). w ∷ []) (c.is_run_word.ensures.0 yes), λ same. c.is_run_word.ensures.1 (cc))
