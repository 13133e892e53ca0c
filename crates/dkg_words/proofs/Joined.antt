-- Three texts, one behind the other.
use Rattle.std.proofs.Common.{◌≡◌, ℕ, List, ◌++◌, Result, Ok, Err, ap, ◌∙◌, append_assoc}
use Rattle.std.specs.Prelude.{OnOk}

pub three : {V E : Type 0} (r : Result V E) (o a b c x y z : List ℕ) → a ≡ o ++ x → b ≡ a ++ y → OnOk r (c ≡ b ++ z) → OnOk r (c ≡ o ++ (x ++ (y ++ z)))
three (Ok v) o a b c x y z one two is =
    is ∙ (ap (λ (t : List ℕ). t ++ z) (two ∙ ap (λ (t : List ℕ). t ++ y) one) ∙ (append_assoc (o ++ x) y z ∙ append_assoc o x (y ++ z)))
three (Err e) o a b c x y z one two is = tt
