use Rattle.dkg_journal.proofs.OnRows.{listed_names}
use Rattle.dkg_journal.proofs.sure.SureDiskDisk.list.Goals as goal

pub returns-in-Ok-clause-names : goal.returns-in-Ok-clause-names
returns-in-Ok-clause-names c = λ tells. listed_names _ _ c.names.ensures.sorted c.in-Ok.ensures.names
