use Rattle.std.proofs.Common.{refl}
use Rattle.dkg_journal.specs.Made.{made_crash}
use Rattle.dkg_journal.proofs.OnRows.{landed, landed_image}
use Rattle.dkg_journal.proofs.sure.SureDiskDisk.crash.Goals as goal

pub returns-clause-lands : goal.returns-clause-lands
returns-clause-lands c = landed _ _ c.crash.ensures.lands

pub returns-clause-crash : goal.returns-clause-crash
returns-clause-crash c = λ f image. landed_image _ _ c.crash.ensures.lands f image

pub returns-clause-calls : goal.returns-clause-calls
returns-clause-calls c = made_crash c.args.pick _ _ _ _ refl (λ f image. landed_image _ _ c.crash.ensures.lands f image) c.crash.ensures.picked
