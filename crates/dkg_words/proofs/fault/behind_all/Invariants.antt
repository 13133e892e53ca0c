use Rattle.std.proofs.Common.{◌≡◌, drop}
use Rattle.dkg_words.specs.Fault.{behind_entries, behind_more}
use Rattle.dkg_words.proofs.fault.behind_all.Given as goal

abbrev pub invariant-loop-entry : goal.invariant-loop-entry
invariant-loop-entry l = behind_entries l.entries ≡ behind_more l.step (drop l.entry-index l.entries)
