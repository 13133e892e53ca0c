use Rattle.std.proofs.Common.{◌≡◌, [], ap, inl, Ok, Err, rules}
use Rattle.dkg_script.specs.Promise.{Adds}
use Rattle.dkg_store.specs.declared.devices.Devices.{Devices}
use Rattle.dkg_lives.specs.Causes.{HasDeviceCause}
use Rattle.dkg_lives.specs.Epochs.{IsChecked}
use Rattle.dkg_promises.specs.Found.{IsFoundRecord}
use Rattle.dkg_lives.specs.Given.{AreBytes}
use Rattle.dkg_promises.specs.GivesBack.{limit_in}
use Rattle.dkg_lives.specs.Lives.{AnyFiles}
use Rattle.dkg_promises.specs.Over.{DevicesAround, over}
use Rattle.dkg_promises.specs.Promised.{DoesRun, Promised, SaysRun}
use Rattle.dkg_lives.specs.Ways.{by_entries, by_worlds}
use Rattle.dkg_run.proofs.Behind.{over_as, runs_over}
use Rattle.dkg_promises.proofs.Promising.{known_told, promised}
use Rattle.dkg_run.proofs.Running.{runs_faulted, runs_well, tells_over}
use Rattle.dkg_promises.proofs.Unbegun.{Unmoved, began_told, began_well, unmoved}
use Rattle.dkg_run.proofs.lives.run_lives.Goals as goal

-- EVERY LIFE WAS RUN

pub returns-in-Ok-clause-lines : goal.returns-in-Ok-clause-lines
returns-in-Ok-clause-lines g c =
    let its = c.in-Ok.ensures.lines in
    over_as g.D.Disk.tells g.D.Disk.files g.D.Disk.image g.D.Disk.faults g.D.Disk.made g.X.SecretStore.tells g.X.SecretStore.held g.X.SecretStore.faults g.X.SecretStore.made
    (λ o. SaysRun c.args.script.now o c.args.out.now.entries (Ok tt) c.run_all.new.out.entries)
    (c.args.disk.now, c.args.secrets.now) c.run_all.new.devices.disk.now _ c.run_all.new.devices.secrets.now _ (search rules) (search rules)
    (record { picks = its.0; stopped = (its.1).stopped; run = runs_well by_entries c.args.script.now AnyFiles _ _ its.2 })

pub returns-in-Ok-clause-run : goal.returns-in-Ok-clause-run
returns-in-Ok-clause-run g c =
    over_as g.D.Disk.tells g.D.Disk.files g.D.Disk.image g.D.Disk.faults g.D.Disk.made g.X.SecretStore.tells g.X.SecretStore.held g.X.SecretStore.faults g.X.SecretStore.made
    (λ o. DoesRun c.args.script.now o c.args.out.now.entries (Ok tt) c.run_all.new.out.entries)
    (c.args.disk.now, c.args.secrets.now) c.run_all.new.devices.disk.now _ c.run_all.new.devices.secrets.now _ (search rules) (search rules)
    (λ told stands image left. runs_over c.args.script.now (Ok tt) (g.D.Disk.files c.args.disk.now) image c.args.out.now.entries c.run_all.new.out.entries (g.X.SecretStore.held c.args.secrets.now)
    (g.X.SecretStore.held c.run_all.new.devices.secrets.now) c.never.result c.run_all.new.devices.fuse c.never.ensures
    (runs_well by_worlds c.args.script.now (λ its. its ≡ g.D.Disk.files c.args.disk.now) _ _ (c.in-Ok.ensures.run told.0 told.1 stands image left)))

pub returns-in-Ok-clause-promise : goal.returns-in-Ok-clause-promise
returns-in-Ok-clause-promise g c =
    let its = c.in-Ok.ensures.lines in
    let o : DevicesAround = over g.D.Disk.tells g.D.Disk.files g.D.Disk.image g.D.Disk.faults g.D.Disk.made g.X.SecretStore.tells g.X.SecretStore.held g.X.SecretStore.faults g.X.SecretStore.made (c.args.disk.now, c.args.secrets.now) (c.run_all.new.devices.disk.now, c.run_all.new.devices.secrets.now) in
    over_as g.D.Disk.tells g.D.Disk.files g.D.Disk.image g.D.Disk.faults g.D.Disk.made g.X.SecretStore.tells g.X.SecretStore.held g.X.SecretStore.faults g.X.SecretStore.made
    (λ o. Adds c.args.out.now.entries c.run_all.new.out.entries (Promised c.args.script.now o (Ok tt)))
    (c.args.disk.now, c.args.secrets.now) c.run_all.new.devices.disk.now _ c.run_all.new.devices.secrets.now _ (search rules) (search rules)
    (promised c.args.script.now c.requires.form o (λ told. told.0) c.args.out.now.entries c.run_all.new.out.entries its.0 (Ok tt)
    (runs_well by_entries c.args.script.now AnyFiles _ _ its.2)
    (λ told stands image left. runs_over c.args.script.now (Ok tt) (g.D.Disk.files c.args.disk.now) image c.args.out.now.entries c.run_all.new.out.entries (g.X.SecretStore.held c.args.secrets.now)
    (g.X.SecretStore.held c.run_all.new.devices.secrets.now) c.never.result c.run_all.new.devices.fuse c.never.ensures
    (runs_well by_worlds c.args.script.now (λ its. its ≡ g.D.Disk.files c.args.disk.now) _ _ (c.in-Ok.ensures.run told.0 told.1 stands image left)))
    (λ disk. g.met.D.Disk.reads c.args.disk.now disk) (λ disk. g.met.D.Disk.reads c.run_all.new.devices.disk.now disk)
    tt
    tt
    c.run_all.ensures.fit
    c.in-Ok.ensures.stands
    (inl (began_well c.args.script.now (IsChecked c.args.script.now × AreBytes c.args.script.now.blocks) _ c.in-Ok.ensures.begun)))

-- A FAULT ENDED THE RUN

pub returns-in-Err-clause-lines : goal.returns-in-Err-clause-lines
returns-in-Err-clause-lines g c =
    let its = c.in-Err.ensures.lines in
    over_as g.D.Disk.tells g.D.Disk.files g.D.Disk.image g.D.Disk.faults g.D.Disk.made g.X.SecretStore.tells g.X.SecretStore.held g.X.SecretStore.faults g.X.SecretStore.made
    (λ o. SaysRun c.args.script.now o c.args.out.now.entries (Err c.tell.result) c.tell.new.out.entries)
    (c.args.disk.now, c.args.secrets.now) c.run_all.new.devices.disk.now _ c.run_all.new.devices.secrets.now _ (search rules) (search rules)
    (record { picks = its.0; stopped = (its.1).stopped; run = runs_faulted by_entries c.args.script.now AnyFiles _ _ _ c.in-Err.fault c.tell.result its.2 (c.tell.ensures its.0) })

pub returns-in-Err-clause-run : goal.returns-in-Err-clause-run
returns-in-Err-clause-run g c =
    over_as g.D.Disk.tells g.D.Disk.files g.D.Disk.image g.D.Disk.faults g.D.Disk.made g.X.SecretStore.tells g.X.SecretStore.held g.X.SecretStore.faults g.X.SecretStore.made
    (λ o. DoesRun c.args.script.now o c.args.out.now.entries (Err c.tell.result) c.tell.new.out.entries)
    (c.args.disk.now, c.args.secrets.now) c.run_all.new.devices.disk.now _ c.run_all.new.devices.secrets.now _ (search rules) (search rules)
    (λ told stands image left. runs_over c.args.script.now (Err c.tell.result) (g.D.Disk.files c.args.disk.now) image c.args.out.now.entries c.tell.new.out.entries (g.X.SecretStore.held c.args.secrets.now)
    (g.X.SecretStore.held c.run_all.new.devices.secrets.now) c.never.result c.run_all.new.devices.fuse c.never.ensures
    (runs_faulted by_worlds c.args.script.now (λ its. its ≡ g.D.Disk.files c.args.disk.now) _ _ _ c.in-Err.fault c.tell.result (c.in-Err.ensures.run told.0 told.1 stands image left)
    (tells_over c.in-Err.fault c.tell.result c.run_all.new.out.entries c.tell.new.out.entries [] (g.X.SecretStore.held c.run_all.new.devices.secrets.now) c.run_all.new.devices.fuse image (c.tell.ensures []))))

pub returns-in-Err-clause-promise : goal.returns-in-Err-clause-promise
returns-in-Err-clause-promise g c =
    let its = c.in-Err.ensures.lines in
    let o : DevicesAround = over g.D.Disk.tells g.D.Disk.files g.D.Disk.image g.D.Disk.faults g.D.Disk.made g.X.SecretStore.tells g.X.SecretStore.held g.X.SecretStore.faults g.X.SecretStore.made (c.args.disk.now, c.args.secrets.now) (c.run_all.new.devices.disk.now, c.run_all.new.devices.secrets.now) in
    over_as g.D.Disk.tells g.D.Disk.files g.D.Disk.image g.D.Disk.faults g.D.Disk.made g.X.SecretStore.tells g.X.SecretStore.held g.X.SecretStore.faults g.X.SecretStore.made
    (λ o. Adds c.args.out.now.entries c.tell.new.out.entries (Promised c.args.script.now o (Err c.tell.result)))
    (c.args.disk.now, c.args.secrets.now) c.run_all.new.devices.disk.now _ c.run_all.new.devices.secrets.now _ (search rules) (search rules)
    (promised c.args.script.now c.requires.form o (λ told. told.0) c.args.out.now.entries c.tell.new.out.entries its.0 (Err c.tell.result)
    (runs_faulted by_entries c.args.script.now AnyFiles _ _ _ c.in-Err.fault c.tell.result its.2 (c.tell.ensures its.0))
    (λ told stands image left. runs_over c.args.script.now (Err c.tell.result) (g.D.Disk.files c.args.disk.now) image c.args.out.now.entries c.tell.new.out.entries (g.X.SecretStore.held c.args.secrets.now)
    (g.X.SecretStore.held c.run_all.new.devices.secrets.now) c.never.result c.run_all.new.devices.fuse c.never.ensures
    (runs_faulted by_worlds c.args.script.now (λ its. its ≡ g.D.Disk.files c.args.disk.now) _ _ _ c.in-Err.fault c.tell.result (c.in-Err.ensures.run told.0 told.1 stands image left)
    (tells_over c.in-Err.fault c.tell.result c.run_all.new.out.entries c.tell.new.out.entries [] (g.X.SecretStore.held c.run_all.new.devices.secrets.now) c.run_all.new.devices.fuse image (c.tell.ensures []))))
    (λ disk. g.met.D.Disk.reads c.args.disk.now disk) (λ disk. g.met.D.Disk.reads c.run_all.new.devices.disk.now disk)
    (known_told (λ f. HasDeviceCause f o.disk_rose o.secrets_rose) c.in-Err.fault c.tell.result c.run_all.new.out.entries c.tell.new.out.entries [] tt (c.tell.ensures []) c.in-Err.ensures.causes)
    (λ disk. known_told (IsFoundRecord (limit_in c.args.script.now) o.now.files) c.in-Err.fault c.tell.result c.run_all.new.out.entries c.tell.new.out.entries [] (record { so = tt }) (c.tell.ensures []) (c.in-Err.ensures.found disk))
    c.run_all.ensures.fit
    tt
    (began_told c.args.script.now c.in-Err.fault c.tell.result c.args.out.now.entries c.run_all.new.out.entries c.tell.new.out.entries [] (IsChecked c.args.script.now × AreBytes c.args.script.now.blocks) _ (Unmoved o)
    (λ same. unmoved g.D.Disk.tells g.D.Disk.files g.D.Disk.image g.D.Disk.faults g.D.Disk.made g.X.SecretStore.tells g.X.SecretStore.held g.X.SecretStore.faults g.X.SecretStore.made c.args.disk.now c.run_all.new.devices.disk.now
    c.args.secrets.now c.run_all.new.devices.secrets.now (ap (λ (d : Devices _ _). d.disk.now) same) (ap (λ (d : Devices _ _). d.secrets.now) same))
    (c.tell.ensures []) c.in-Err.ensures.begun))
