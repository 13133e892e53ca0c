use Rattle.std.proofs.Common.{◌≡◌, take}
use Rattle.dkg_text.specs.Summary.{tally}
use Rattle.dkg_text.proofs.tallies.tally.Given as goal

abbrev pub invariant-loop-entry : goal.invariant-loop-entry
invariant-loop-entry l = l.sum ≡ tally l.item (take l.entry-index l.entries)
