use Rattle.std.proofs.Common.{◌≡◌, ◌-◌, ◌++◌, length}
use Rattle.dkg_words.specs.Chain.{block_lines}
use Rattle.dkg_words.proofs.chain.block_lines.Given as goal

abbrev pub invariant-loop-done : goal.invariant-loop-done
invariant-loop-done l = l.blocks.items ++ block_lines l.text (length l.text - l.done) l.at ≡ block_lines l.text (length l.text) l.initial.at
