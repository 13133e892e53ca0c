use Rattle.std.proofs.Common.{◌≡◌, Err, List, ℕ, refl, subst, sym, ap}
use Rattle.dkg_life.specs.declared.stop.Stop.TheVariants.{Fault as FaultOf}
use Rattle.dkg_lives.specs.Moving.{Went}
use Rattle.dkg_lives.specs.Stopped.{picks_at_end}
use Rattle.dkg_run.proofs.Going.{went_none}
use Rattle.dkg_run.proofs.lives.end_life.Goals as goal

-- a fault leaves the devices as they are
pub returns-in-Err-Fault-default-clause-went : goal.returns-in-Err-Fault-default-clause-went
returns-in-Err-Fault-default-clause-went g c =
    let is : c.args.how ≡ Err (FaultOf c.in-Err-Fault-default.fault) = search in
    subst (λ (picks : List ℕ). Went g.D.Disk.tells g.D.Disk.made g.X.SecretStore.made g.D.Disk.faults g.X.SecretStore.faults c.args.devices.now c.args.devices.now picks)
    (sym (ap (picks_at_end c.args.life.now) is))
    (went_none g.D.Disk.tells g.D.Disk.made g.X.SecretStore.made g.D.Disk.faults g.X.SecretStore.faults g.met.D.Disk.made_none g.met.X.SecretStore.made_none _ _ refl refl)
