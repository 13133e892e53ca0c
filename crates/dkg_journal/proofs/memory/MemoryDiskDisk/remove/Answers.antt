use Rattle.dkg_journal.specs.declared.disk.Op.TheVariants.{Remove}
use Rattle.dkg_journal.proofs.OnRows.{failed_inside, failed_made}
use Rattle.dkg_journal.proofs.memory.MemoryDiskDisk.remove.Goals as goal

pub returns-then-fails-clause-crash : goal.returns-then-fails-clause-crash
returns-then-fails-clause-crash c = failed_inside (Remove c.args.name) c.args.self.now.disk c.fails.new.self.disk c.count_change.new.self c.fails.ensures.disk c.count_change.ensures.files

pub returns-then-fails-clause-calls : goal.returns-then-fails-clause-calls
returns-then-fails-clause-calls c = failed_made (Remove c.args.name) c.args.self.now.disk c.fails.new.self.disk c.count_change.new.self c.fails.ensures.disk c.count_change.ensures.files c.count_change.ensures.changes
