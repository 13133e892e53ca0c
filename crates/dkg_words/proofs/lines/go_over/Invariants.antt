use Rattle.std.proofs.Common.{◌≡◌, [], length}
use Rattle.dkg_words.specs.Lines.{over_lines}
use Rattle.dkg_words.proofs.lines.go_over.Given as goal

abbrev pub invariant-loop-line : goal.invariant-loop-line
invariant-loop-line g l = over_lines g.W.Walk.after l.initial.walker [] l.initial.text ≡ over_lines g.W.Walk.after l.walker [] l.rest

abbrev pub decreases-loop-line : goal.decreases-loop-line
decreases-loop-line g l = length l.rest
