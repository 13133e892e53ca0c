use Rattle.std.proofs.Common.{◌≡◌, take}
use Rattle.dkg_text.specs.Printing.{lines_of}
use Rattle.dkg_text.proofs.print.print_of.Given as goal

abbrev pub invariant-loop-entry : goal.invariant-loop-entry
invariant-loop-entry l = l.text ≡ lines_of (take l.entry-index l.out)
