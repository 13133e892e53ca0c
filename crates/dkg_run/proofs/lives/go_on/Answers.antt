use Rattle.std.proofs.Common.{◌++◌, ◌∷◌, [], List, inl, inr, refl, subst}
use Rattle.std.proofs.lemmas.Result.{err_from_is_err_and}
use Rattle.dkg_infos.specs.declared.entry.Entry.{Entry}
use Rattle.dkg_lives.specs.Lives.{TakesAll}
use Rattle.dkg_lives.specs.Moving.{world_of}
use Rattle.dkg_lives.specs.Ways.{by_entries, by_worlds, trace}
use Rattle.dkg_run.proofs.Going.{went_none}
use Rattle.dkg_run.proofs.lives.go_on.Goals as goal

pub returns-in_err-push-clause-lines : goal.returns-in_err-push-clause-lines
returns-in_err-push-clause-lines g c =
    let p = err_from_is_err_and c.from_residual.result c.from_residual.ensures.1 in
    rw (p.1, p.2) (inl (record { want = refl; same = refl; untold = c.in_err-push.ensures.err }))

pub returns-in_err-push-clause-run : goal.returns-in_err-push-clause-run
returns-in_err-push-clause-run g c =
    let p = err_from_is_err_and c.from_residual.result c.from_residual.ensures.1 in
    rw (p.1, p.2) (inl (record { want = refl; same = refl; untold = c.in_err-push.ensures.err }))

pub returns-in_err-push-clause-went : goal.returns-in_err-push-clause-went
returns-in_err-push-clause-went g c =
    went_none g.D.Disk.tells g.D.Disk.made g.X.SecretStore.made g.D.Disk.faults g.X.SecretStore.faults g.met.D.Disk.made_none g.met.X.SecretStore.made_none c.args.devices.now c.args.devices.now refl refl

pub returns-clause-lines : goal.returns-clause-lines
returns-clause-lines g c = inr (λ lived st picks over here view at.
    subst (λ (l : List Entry). TakesAll by_entries lived 1 c.args.life.now.events st (trace l picks) c.take_steps.result (trace c.take_steps.new.out.entries picks))
    c.in_ok-push.ensures.ok (c.take_steps.ensures.lines lived st picks over here view at))

pub returns-clause-run : goal.returns-clause-run
returns-clause-run g c = inr (λ disk secrets lived st over here view at files image.
    subst (λ (l : List Entry). TakesAll by_worlds lived 1 c.args.life.now.events st (world_of g.X.SecretStore.held c.args.devices.now l (g.D.Disk.files c.args.devices.now.disk.now))
    c.take_steps.result (world_of g.X.SecretStore.held c.take_steps.new.devices c.take_steps.new.out.entries files))
    c.in_ok-push.ensures.ok (c.take_steps.ensures.run disk secrets lived st over here view at files image))
