use Rattle.std.proofs.Common.{Some, None, false, [], refl}
use Rattle.std.specs.Prelude.{⊤}
use Rattle.dkg_store.proofs.Left.{called_read}
use Rattle.dkg_store.proofs.store.Store.share_below.Goals as goal

pub returns-in-Ok-clause-called : goal.returns-in-Ok-clause-called
returns-in-Ok-clause-called g c =
    called_read ⊤ g.D.Disk.made g.X.SecretStore.made g.D.Disk.faults g.X.SecretStore.faults g.met.D.Disk.made_none (Some false) tt [] c.args.devices.now _ refl refl refl c.get_share_below.ensures.calls refl
    c.get_share_below.ensures.cause.later

pub returns-in-Err-Failed-clause-called : goal.returns-in-Err-Failed-clause-called
returns-in-Err-Failed-clause-called g c =
    called_read ⊤ g.D.Disk.made g.X.SecretStore.made g.D.Disk.faults g.X.SecretStore.faults g.met.D.Disk.made_none None tt [] c.args.devices.now _ refl refl refl c.get_share_below.ensures.calls refl
    c.get_share_below.ensures.cause.later

pub returns-in-Err-NoMemory-clause-called : goal.returns-in-Err-NoMemory-clause-called
returns-in-Err-NoMemory-clause-called g c =
    called_read ⊤ g.D.Disk.made g.X.SecretStore.made g.D.Disk.faults g.X.SecretStore.faults g.met.D.Disk.made_none None tt [] c.args.devices.now _ refl refl refl c.get_share_below.ensures.calls refl
    c.get_share_below.ensures.cause.later
