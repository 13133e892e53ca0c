use Rattle.dkg_journal.specs.Made.{made_one}
use Rattle.dkg_journal.specs.declared.disk.Op.TheVariants.{Barrier}
use Rattle.dkg_journal.proofs.OnRows.{barrier_inside, did_barrier, barrier_contents}
use Rattle.dkg_journal.proofs.sure.SureDiskDisk.barrier.Goals as goal

pub returns-clause-done : goal.returns-clause-done
returns-clause-done c = λ tells. did_barrier _ _ c.settle_all.ensures

pub returns-clause-failed : goal.returns-clause-failed
returns-clause-failed c = barrier_contents _ _ c.settle_all.ensures

pub returns-clause-crash : goal.returns-clause-crash
returns-clause-crash c = barrier_inside _ _ c.settle_all.ensures

pub returns-clause-calls : goal.returns-clause-calls
returns-clause-calls c = made_one Barrier _ _ _ _ c.one_more-self.ensures.counted (barrier_inside _ _ c.settle_all.ensures)
