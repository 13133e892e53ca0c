use Rattle.dkg_journal.specs.Made.{made_one}
use Rattle.dkg_journal.specs.declared.disk.Op.TheVariants.{Remove}
use Rattle.dkg_journal.proofs.OnRows.{remove_inside, did_remove}
use Rattle.dkg_journal.proofs.sure.SureDiskDisk.remove.Goals as goal

pub returns-clause-done : goal.returns-clause-done
returns-clause-done c = λ tells. did_remove c.args.name _ _ c.remove.ensures

pub returns-clause-crash : goal.returns-clause-crash
returns-clause-crash c = remove_inside c.args.name _ _ c.remove.ensures

pub returns-clause-calls : goal.returns-clause-calls
returns-clause-calls c = made_one (Remove c.args.name) _ _ _ _ c.one_more-self.ensures.counted (remove_inside c.args.name _ _ c.remove.ensures)
