use Rattle.dkg_journal.specs.declared.disk.Op.TheVariants.{WriteAt}
use Rattle.dkg_journal.proofs.OnRows.{failed_inside, failed_made}
use Rattle.dkg_journal.proofs.memory.MemoryDiskDisk.write_at.Goals as goal

pub returns-then-fails-clause-crash : goal.returns-then-fails-clause-crash
returns-then-fails-clause-crash c = failed_inside (WriteAt c.args.name c.args.place c.args.bytes.now) c.args.self.now.disk c.fails.new.self.disk c.count_change.new.self c.fails.ensures.disk c.count_change.ensures.files

pub returns-then-fails-clause-calls : goal.returns-then-fails-clause-calls
returns-then-fails-clause-calls c = failed_made (WriteAt c.args.name c.args.place c.args.bytes.now) c.args.self.now.disk c.fails.new.self.disk c.count_change.new.self c.fails.ensures.disk c.count_change.ensures.files c.count_change.ensures.changes
