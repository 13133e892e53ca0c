-- The words that ask for a made script, or for its run, ask for one alone.
use Rattle.std.proofs.Common.{◌≡◌, ◌<◌, ◌^◌, ◌∙◌, ℕ, List, [], Some, get_or, decimal, sym, ap}
use Rattle.dkg_reading.specs.Rows.{decimal_of}
use Rattle.dkg_reading.proofs.FieldLaws.{number_law}
use Rattle.dkg_run.specs.Command.{IsMake, IsRunOfMade}

by_text : (n m : ℕ) → n < 2 ^ 64 → m < 2 ^ 64 → decimal n ≡ decimal m → n ≡ m
by_text n m low below text =
    let both : Some n ≡ Some m = sym ((number_law).again n low) ∙ (ap decimal_of text ∙ (number_law).again m below) in
    cc

pub same_number : (words : List (List ℕ)) (n m : ℕ) → IsMake n words → IsMake m words → n ≡ m
same_number words n m one other =
    by_text n m one.below other.below (ap (λ (l : List (List ℕ)). get_or l 1 []) (sym one.words_are ∙ other.words_are))

pub same_run : (words : List (List ℕ)) (n m : ℕ) → IsRunOfMade n words → IsRunOfMade m words → n ≡ m
same_run words n m one other = by_text n m one.below other.below (ap (λ (l : List (List ℕ)). get_or l 1 []) (sym one.words_are ∙ other.words_are))
