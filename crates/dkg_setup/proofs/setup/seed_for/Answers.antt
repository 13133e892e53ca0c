use Rattle.dkg_life.proofs.Calls.{moved_called}
use Rattle.dkg_setup.proofs.setup.seed_for.Goals as goal

pub returns-in_err-seed-clause-moved : goal.returns-in_err-seed-clause-moved
returns-in_err-seed-clause-moved g c =
    moved_called g.D.Disk.tells g.D.Disk.made g.X.SecretStore.made g.D.Disk.faults g.X.SecretStore.faults (λ told. tt) c.seed.ensures.called

pub returns-in-Some-clause-moved : goal.returns-in-Some-clause-moved
returns-in-Some-clause-moved g c =
    moved_called g.D.Disk.tells g.D.Disk.made g.X.SecretStore.made g.D.Disk.faults g.X.SecretStore.faults (λ told. tt) c.seed.ensures.called

pub returns-in-None-clause-moved : goal.returns-in-None-clause-moved
returns-in-None-clause-moved g c =
    moved_called g.D.Disk.tells g.D.Disk.made g.X.SecretStore.made g.D.Disk.faults g.X.SecretStore.faults (λ told. tt) c.seed.ensures.called
