use Rattle.dkg_journal.proofs.OnResult.{on_ok}
use Rattle.dkg_journal.proofs.OnPlan.{clear_others, tried_clear, finished_clear}
use Rattle.dkg_journal.proofs.record.Record.clear.Goals as goal

pub returns-clause-others : goal.returns-clause-others
returns-clause-others g c = clear_others _ _ c.perform_own.ensures.crash

pub returns-clause-tried : goal.returns-clause-tried
returns-clause-tried g c = λ lands. tried_clear g.D.Disk.made _ _ _ _ _ _ _ lands c.perform_own.ensures.crash c.perform_own.ensures.all

pub returns-clause-done : goal.returns-clause-done
returns-clause-done g c = on_ok c.perform_own.result (λ did tells lands. finished_clear g.D.Disk.made _ _ _ _ _ _ _ _ lands c.perform_own.ensures.crash (did tells) (g.met.D.Disk.reads _ tells) c.perform_own.ensures.all) c.perform_own.ensures.done
