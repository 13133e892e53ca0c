use Rattle.dkg_journal.proofs.OnRows.{unmade}
use Rattle.dkg_journal.proofs.memory.MemoryDiskDisk.read.Goals as goal

pub returns-then-fails-clause-calls : goal.returns-then-fails-clause-calls
returns-then-fails-clause-calls c = unmade c.args.self.now.disk c.fails.new.self.disk c.fails.ensures.disk
