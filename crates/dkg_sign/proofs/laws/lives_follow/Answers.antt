use Rattle.dkg_sign.proofs.Deeds.{keeps_fewer, keeps_with, nothing_done}
use Rattle.dkg_sign.proofs.laws.lives_follow.Goals as goal

pub returns-clause-first : goal.returns-clause-first
returns-clause-first g c = λ disk. nothing_done (g.D.Disk.image disk)

pub returns-clause-signed : goal.returns-clause-signed
returns-clause-signed g c = λ deed deeds current disk keeps more. keeps_with deed deeds current (g.D.Disk.image disk) keeps more

pub returns-clause-crash : goal.returns-clause-crash
returns-clause-crash g c = λ deeds old new fewer keeps. keeps_fewer deeds (g.D.Disk.image old) (g.D.Disk.image new) fewer keeps
