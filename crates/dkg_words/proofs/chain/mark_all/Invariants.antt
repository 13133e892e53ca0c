use Rattle.std.proofs.Common.{◌≡◌}
use Rattle.dkg_reading.specs.Rows.{fields_left}
use Rattle.dkg_words.specs.Chain.{mark_all}
use Rattle.dkg_words.proofs.Marks.{left_of}
use Rattle.dkg_words.proofs.chain.mark_all.Given as goal

abbrev pub invariant-loop-rest : goal.invariant-loop-rest
invariant-loop-rest l = mark_all l.initial.blocks.items (fields_left l.initial.rest) ≡ mark_all l.blocks.items (fields_left l.rest)

abbrev pub decreases-loop-rest : goal.decreases-loop-rest
decreases-loop-rest l = left_of l.rest
