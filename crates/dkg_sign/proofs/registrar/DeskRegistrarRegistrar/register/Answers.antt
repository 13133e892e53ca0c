use Rattle.dkg_sign.proofs.Fuses.{uncut_none}
use Rattle.dkg_sign.proofs.Registering.{none_puts}
use Rattle.dkg_sign.proofs.registrar.DeskRegistrarRegistrar.register.Goals as goal

pub returns-in_err-reserve-clause-calls : goal.returns-in_err-reserve-clause-calls
returns-in_err-reserve-clause-calls g c = uncut_none g.D.Disk.made c.args.self.now.disk _ (g.met.D.Disk.made_none c.args.self.now.disk)

pub returns-in_err-reserve-clause-tried : goal.returns-in_err-reserve-clause-tried
returns-in_err-reserve-clause-tried g c = λ tells ready. none_puts c.args.epoch (g.D.Disk.image c.args.self.now.disk)
