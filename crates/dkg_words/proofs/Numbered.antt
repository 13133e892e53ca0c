-- What was written of a number between words is what is said of an equal one.
use Rattle.std.proofs.Common.{◌≡◌, ℕ, List, ◌++◌, Result, Ok, Err, sym, ap, ◌∙◌}
use Rattle.std.specs.Prelude.{OnOk}
use Rattle.dkg_words.specs.Message.{around, around_two}

pub around_same : {V E : Type 0} (r : Result V E) (n o f k : List ℕ) (x p : ℕ) (words : List ℕ) → x ≡ p → words ≡ around f p k → OnOk r (n ≡ o ++ around f x k) → OnOk r (n ≡ o ++ words)
around_same (Ok v) n o f k x p words one are is = is ∙ ap (λ (l : List ℕ). o ++ l) (ap (λ (z : ℕ). around f z k) one ∙ sym are)
around_same (Err e) n o f k x p words one are is = tt

pub around_two_same : {V E : Type 0} (r : Result V E) (n o f b k : List ℕ) (x y p q : ℕ) (words : List ℕ) → x ≡ p → y ≡ q → words ≡ around_two f p b q k
    → OnOk r (n ≡ o ++ around_two f x b y k) → OnOk r (n ≡ o ++ words)
around_two_same (Ok v) n o f b k x y p q words one other are is =
    is ∙ ap (λ (l : List ℕ). o ++ l) (ap (λ (z : ℕ). around_two f z b y k) one ∙ (ap (λ (z : ℕ). around_two f p b z k) other ∙ sym are))
around_two_same (Err e) n o f b k x y p q words one other are is = tt
