-- None of the blocks so far is found.
use Rattle.std.proofs.Common.{◌≡◌, drop}
use Rattle.std.specs.Prelude.{◌==◌, find}
use Rattle.dkg_lives.specs.Given.{numbered}
use Rattle.dkg_around.proofs.held.at_height.Given as goal

abbrev pub invariant-loop-number : goal.invariant-loop-number
invariant-loop-number l =
    find (λ b. b.height == l.fn.height) (numbered l.fn.blocks (drop l.number-index l.fn.numbers)) ≡ find (λ b. b.height == l.fn.height) (numbered l.fn.blocks l.fn.numbers)
