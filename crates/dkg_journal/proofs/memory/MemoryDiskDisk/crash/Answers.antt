use Rattle.std.proofs.Common.{◌∙◌}
use Rattle.dkg_journal.specs.Table.{get_contents}
use Rattle.dkg_journal.proofs.Synced.{crashed_synced}
use Rattle.dkg_journal.proofs.memory.MemoryDiskDisk.crash.Goals as goal

pub returns-clause-synced : goal.returns-clause-synced
returns-clause-synced c = λ one name. get_contents _ name ∙ crashed_synced c.args.pick _ _ _ _ one c.crash.ensures.picked.each name
