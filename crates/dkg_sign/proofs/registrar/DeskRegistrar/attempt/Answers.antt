use Rattle.std.proofs.Common.{ap}
use Rattle.dkg_journal.specs.Burn.{Burn}
use Rattle.dkg_sign.proofs.Fuses.{uncut_then}
use Rattle.dkg_sign.proofs.Registering.{asked_puts, shut_puts}
use Rattle.dkg_sign.proofs.registrar.DeskRegistrar.attempt.Goals as goal

pub returns-in_err-ready-clause-tried : goal.returns-in_err-ready-clause-tried
returns-in_err-ready-clause-tried g c = λ tells ready. shut_puts c.args.epoch _ _ c.ready.ensures.same

pub returns-clause-calls : goal.returns-clause-calls
returns-clause-calls g c =
    uncut_then g.D.Disk.made g.met.D.Disk.made_more _ _ _ _ _ _ _ _ (ap (λ (f : Burn). f.call) c.never-fuse.ensures) c.ready.ensures.calls c.register.ensures.calls

pub returns-clause-tried : goal.returns-clause-tried
returns-clause-tried g c = λ tells ready.
    let stands = (c.ready.ensures.stands tells ready).stands c.in_ok-ready.ensures.open in
    asked_puts c.args.epoch c.ready.new.self.desk (g.D.Disk.files c.ready.new.self.disk) _ _ _ c.ready.ensures.same (g.met.D.Disk.reads c.ready.new.self.disk tells) stands (c.register.ensures.tried stands)
