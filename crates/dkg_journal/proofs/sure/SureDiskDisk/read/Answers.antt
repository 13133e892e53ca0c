use Rattle.std.proofs.Common.{sym, ◌∙◌}
use Rattle.dkg_journal.specs.Table.{get_contents}
use Rattle.dkg_journal.proofs.sure.SureDiskDisk.read.Goals as goal

pub returns-in-Ok-clause-bytes : goal.returns-in-Ok-clause-bytes
returns-in-Ok-clause-bytes c = λ tells. c.in-Ok.ensures ∙ sym (get_contents c.args.self.now.files c.args.name)
