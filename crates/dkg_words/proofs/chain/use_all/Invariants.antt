use Rattle.std.proofs.Common.{◌≡◌, [], length}
use Rattle.dkg_words.specs.Chain.{mark_by}
use Rattle.dkg_words.specs.Lines.{over_lines}
use Rattle.dkg_words.proofs.chain.use_all.Given as goal

abbrev pub invariant-loop-line : goal.invariant-loop-line
invariant-loop-line l = over_lines mark_by l.initial.blocks.items [] l.initial.rest ≡ over_lines mark_by l.blocks.items [] l.rest

abbrev pub decreases-loop-line : goal.decreases-loop-line
decreases-loop-line l = length l.rest
