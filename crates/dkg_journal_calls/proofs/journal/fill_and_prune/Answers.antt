use Rattle.dkg_journal.proofs.OnRows.{bare_lands}
use Rattle.dkg_journal_calls.proofs.journal.fill_and_prune.Goals as goal

pub append-requires : goal.append-requires
append-requires c = λ tells. c.in_ok-journal.ensures.open tells (bare_lands _ c.requires)
