use Rattle.std.proofs.Common.{◌≡◌, ℕ, ◌+◌, List, ◌∷◌, ◌++◌, length}
use Rattle.dkg_words.proofs.Counting.{AreBack}
use Rattle.dkg_words.proofs.chain.is_counted_on.Given as goal

abbrev pub invariant-loop-back : goal.invariant-loop-back
invariant-loop-back l = record {
  len : length l.words.items ≡ length l.initial.words.items;
  back : (a b ds : List ℕ) → l.initial.words.items ≡ a ++ 32 ∷ (ds ++ b) → l.last + 1 ≡ length (a ++ 32 ∷ ds) → AreBack a b ds l.back l.words.items;
}
