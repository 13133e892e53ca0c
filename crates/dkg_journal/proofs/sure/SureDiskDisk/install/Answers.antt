use Rattle.dkg_journal.specs.Made.{made_one}
use Rattle.dkg_journal.specs.declared.disk.Op.TheVariants.{Install}
use Rattle.dkg_journal.proofs.OnRows.{same_inside, install_inside, did_install}
use Rattle.dkg_journal.proofs.sure.SureDiskDisk.install.Goals as goal

pub returns-in-Ok-clause-done : goal.returns-in-Ok-clause-done
returns-in-Ok-clause-done c = λ tells. did_install c.args.name c.args.bytes.now _ _ c.in-Ok.ensures.done

pub returns-in-Ok-clause-crash : goal.returns-in-Ok-clause-crash
returns-in-Ok-clause-crash c = install_inside c.args.name c.args.bytes.now _ _ c.in-Ok.ensures.done

pub returns-in-Ok-clause-calls : goal.returns-in-Ok-clause-calls
returns-in-Ok-clause-calls c = made_one (Install c.args.name c.args.bytes.now) _ _ _ _ c.one_more-self.ensures.counted (install_inside c.args.name c.args.bytes.now _ _ c.in-Ok.ensures.done)

pub returns-in-Err-clause-crash : goal.returns-in-Err-clause-crash
returns-in-Err-clause-crash c = same_inside (Install c.args.name c.args.bytes.now) _ _ c.in-Err.ensures.kept

pub returns-in-Err-clause-calls : goal.returns-in-Err-clause-calls
returns-in-Err-clause-calls c = made_one (Install c.args.name c.args.bytes.now) _ _ _ _ c.one_more-self.ensures.counted (same_inside (Install c.args.name c.args.bytes.now) _ _ c.in-Err.ensures.kept)
