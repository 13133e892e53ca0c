use Rattle.std.proofs.Common.{◌≡◌, ◌+◌, ◌-◌, ◌^◌, ◌<◌, length}
use Rattle.dkg_words.specs.Chain.{block_lines}
use Rattle.dkg_words.specs.Turns.{AreTurned, IsLineFront}
use Rattle.dkg_words.proofs.chain.go_on_in_turn.Given as goal

abbrev pub invariant-loop-done : goal.invariant-loop-done
invariant-loop-done l = record {
  fits : l.front.height < 2 ^ 64;
  front : IsLineFront l.front.height l.front.parent l.front;
  counted : l.front.parent + 1 ≡ l.done;
  so_far : AreTurned l.front.height l.front.parent (block_lines l.text (length l.text - l.done) l.at)
      → AreTurned l.initial.front.height l.initial.front.parent (block_lines l.text (length l.text - 1) l.initial.at);
}
