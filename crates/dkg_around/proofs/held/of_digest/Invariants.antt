-- None of the blocks so far is found.
use Rattle.std.proofs.Common.{◌≡◌, drop}
use Rattle.std.specs.Prelude.{find}
use Rattle.std.specs.Str.{bytes_eq}
use Rattle.dkg_lives.specs.Given.{numbered}
use Rattle.dkg_around.proofs.held.of_digest.Given as goal

abbrev pub invariant-loop-number : goal.invariant-loop-number
invariant-loop-number l =
    find (λ b. bytes_eq b.digest l.fn.digest) (numbered l.fn.blocks (drop l.number-index l.fn.numbers)) ≡ find (λ b. bytes_eq b.digest l.fn.digest) (numbered l.fn.blocks l.fn.numbers)
