use Rattle.dkg_journal.specs.Made.{made_one}
use Rattle.dkg_journal.specs.declared.disk.Op.TheVariants.{Sync}
use Rattle.dkg_journal.proofs.OnRows.{sync_inside, did_sync, sync_contents}
use Rattle.dkg_journal.proofs.sure.SureDiskDisk.sync.Goals as goal

pub returns-clause-done : goal.returns-clause-done
returns-clause-done c = λ tells. did_sync c.args.name _ _ c.settle.ensures

pub returns-clause-failed : goal.returns-clause-failed
returns-clause-failed c = sync_contents c.args.name _ _ c.settle.ensures

pub returns-clause-crash : goal.returns-clause-crash
returns-clause-crash c = sync_inside c.args.name _ _ c.settle.ensures

pub returns-clause-calls : goal.returns-clause-calls
returns-clause-calls c = made_one (Sync c.args.name) _ _ _ _ c.one_more-self.ensures.counted (sync_inside c.args.name _ _ c.settle.ensures)
