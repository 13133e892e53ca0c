use Rattle.std.proofs.Common.{◌≡◌, drop}
use Rattle.dkg_ceremony.specs.ValidLogs.{entries_pass}
use Rattle.dkg_ceremony.proofs.valid_log.are_entries.Given as goal

abbrev pub invariant-loop-index : goal.invariant-loop-index
invariant-loop-index l = entries_pass l.content l.public l.index (drop l.index l.keys) (drop l.index l.entries) ≡ entries_pass l.content l.public 0 l.keys l.entries
