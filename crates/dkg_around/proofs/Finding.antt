-- The first of the blocks of some numbers that passes a test.
use Rattle.std.proofs.Common.{◌≡◌, ℕ, suc, ◌+◌, ◌<◌, ◌≤◌, Bool, true, false, List, Option, Some, add-one, arith, drop, get_or, length, sym, ◌∙◌, ap}
use Rattle.std.specs.Prelude.{find, nat_lt, slice_get, if◌then◌else◌}
use Rattle.std.specs.List.{cons_option}
use Rattle.std.proofs.lemmas.Bool.Decides.{nat_tests}
use Rattle.std.proofs.lemmas.Option.{slice_get-get_or, slice_get_past}
use Rattle.dkg_types.specs.Blocks.{Block}
use Rattle.dkg_infos.specs.declared.directory.Unit as directory
use Rattle.dkg_lives.specs.Given.{numbered}
use Rattle.dkg_lives.proofs.Living.{item_here}
use Rattle.dkg_around.proofs.Stepping.{drop_item}

module _ (blocks : List (Block directory.Unit)) (numbers : List ℕ) (p : Block directory.Unit → Bool) (i : ℕ) where
  abbrev number : ℕ
  number = get_or numbers i 0

  -- those from here on
  abbrev from : ℕ → Option (Block directory.Unit)
  from k = find p (numbered blocks (drop k numbers))

  rest_is : i < length numbers → from i ≡ find p (cons_option (slice_get blocks number) (numbered blocks (drop (suc i) numbers)))
  rest_is below = ap (λ (ns : List ℕ). find p (numbered blocks ns)) (drop_item numbers i number (slice_get-get_or numbers i 0 below))

  block_is : (b : Block directory.Unit) → true ≡ nat_lt number (length blocks) → b ≡ get_or blocks number b → slice_get blocks number ≡ Some b
  block_is b test is = item_here blocks number b (within number (length blocks) test) is
    where
      within : (n m : ℕ) → true ≡ nat_lt n m → n < m
      within n m test = let its : nat_lt n m ≡ true = sym test in grind (arith, nat_tests)

  pub found_here : (b : Block directory.Unit) → i < length numbers → true ≡ nat_lt number (length blocks) → b ≡ get_or blocks number b → p b ≡ true → from i ≡ Some b
  found_here b below test is passes = rest_is below ∙ ap (λ (o : Option (Block directory.Unit)). find p (cons_option o (numbered blocks (drop (suc i) numbers)))) (block_is b test is)
      ∙ ap (λ (t : Bool). if t then Some b else from (suc i)) passes

  pub not_here : (b : Block directory.Unit) → i < length numbers → true ≡ nat_lt number (length blocks) → b ≡ get_or blocks number b → p b ≡ false → from (i + 1) ≡ from i
  not_here b below test is fails = ap from (add-one i) ∙ sym (rest_is below ∙ ap (λ (o : Option (Block directory.Unit)). find p (cons_option o (numbered blocks (drop (suc i) numbers)))) (block_is b test is)
      ∙ ap (λ (t : Bool). if t then Some b else from (suc i)) fails)

  pub none_here : i < length numbers → false ≡ nat_lt number (length blocks) → from (i + 1) ≡ from i
  none_here below test = ap from (add-one i) ∙ sym (rest_is below
      ∙ ap (λ (o : Option (Block directory.Unit)). find p (cons_option o (numbered blocks (drop (suc i) numbers)))) (slice_get_past blocks number (past number (length blocks) test)))
    where
      past : (n m : ℕ) → false ≡ nat_lt n m → m ≤ n
      past n m test = let its : nat_lt n m ≡ false = sym test in grind (arith, nat_tests)
