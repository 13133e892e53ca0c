use Rattle.std.proofs.Common.{ap, refl}
use Rattle.dkg_life.specs.declared.life.Life.{Life}
use Rattle.dkg_life.specs.declared.stop.Stop.TheVariants.{Failed}
use Rattle.dkg_life.specs.Ready.{IsReadyLife}
use Rattle.dkg_life.proofs.Beside.{took_nothing, with_as}
use Rattle.dkg_life.proofs.Caused.{caused_around}
use Rattle.dkg_reshare.proofs.Ending.{failed_ends, has_failed, not_living}
use Rattle.dkg_life.proofs.Kept.{moved_none}
use Rattle.dkg_reshare.proofs.Stopping.{caused_in_step, lives_on, no_error, not_failed, of_living, same_error}
use Rattle.dkg_reshare.proofs.actor.Actor.work.Goals as goal

pub returns-in_default-clause-including : goal.returns-in_default-clause-including
returns-in_default-clause-including g c = tt

pub returns-in_default-clause-acts : goal.returns-in_default-clause-acts
returns-in_default-clause-acts g c = λ disk secrets provided fixed beside. not_living c.args.self.now.state c.in_default.not-Living _

pub returns-in_default-clause-tells : goal.returns-in_default-clause-tells
returns-in_default-clause-tells g c = λ provided fixed beside. not_living c.args.self.now.state c.in_default.not-Living _

pub returns-in_default-clause-ends : goal.returns-in_default-clause-ends
returns-in_default-clause-ends g c = failed_ends c.args.self.now.state Failed (λ (life : Life g.row.Dir.Denot). IsReadyLife g.D.Disk.tells g.D.Disk.files g.D.Disk.image g.C.Ceremony.ack_of g.C.Ceremony.deal_of g.C.Ceremony.check_ack_of c.args.self.now.terms life c.args.devices.now)
    (has_failed c.args.self.now.state c.requires.at.opened c.in_default.not-Living)

pub returns-in_default-clause-fails : goal.returns-in_default-clause-fails
returns-in_default-clause-fails g c = record {
  stopped = λ is. (refl, (refl, refl, refl, refl));
  only = λ is. has_failed c.args.self.now.state c.requires.at.opened c.in_default.not-Living;
}

pub returns-in_default-clause-moved : goal.returns-in_default-clause-moved
returns-in_default-clause-moved g c = moved_none g.D.Disk.tells g.D.Disk.made g.X.SecretStore.made g.D.Disk.faults g.X.SecretStore.faults g.met.D.Disk.made_none g.met.X.SecretStore.made_none c.args.devices.now

pub returns-in_default-clause-stays : goal.returns-in_default-clause-stays
returns-in_default-clause-stays g c = record {
  word = not_living c.args.self.now.state c.in_default.not-Living _;
  rest = (refl, refl, refl, refl);
  provider = λ provided. (λ epoch. refl, λ epoch peers. refl);
}

pub returns-in_default-clause-causes : goal.returns-in_default-clause-causes
returns-in_default-clause-causes g c = tt

pub returns-in_default-clause-fit : goal.returns-in_default-clause-fit
returns-in_default-clause-fit g c = λ told fit. fit

pub work-requires-clause-ready : goal.work-requires-clause-ready
work-requires-clause-ready g c = of_living c.args.self.now.state c.in-Living.life c.in-Living.inclusion c.in-Living.is _ c.requires.at.ready

pub work-requires-clause-including : goal.work-requires-clause-including
work-requires-clause-including g c = of_living c.args.self.now.state c.in-Living.life c.in-Living.inclusion c.in-Living.is _ c.requires.including

pub returns-in_default-clause-lends : goal.returns-in_default-clause-lends
returns-in_default-clause-lends g c = (refl, refl)

pub returns-in-Ok-clause-lends : goal.returns-in-Ok-clause-lends
returns-in-Ok-clause-lends g c = (refl, refl)

pub returns-in-Err-clause-lends : goal.returns-in-Err-clause-lends
returns-in-Err-clause-lends g c = (c.fail.ensures.registrar, refl)

pub returns-in-Ok-clause-including : goal.returns-in-Ok-clause-including
returns-in-Ok-clause-including g c = c.in-Ok.ensures.including

pub returns-in-Ok-clause-acts : goal.returns-in-Ok-clause-acts
returns-in-Ok-clause-acts g c = λ disk secrets provided fixed beside. rw c.in-Living.is (λ of reads by provides seen. with_as beside beside.inclusion (λ more none. took_nothing g.R.Registrar.tells (g.R.Registrar.taken c.args.self.now.registrar) more none) (λ now made. made) (λ i its. its)
    (c.in-Ok.ensures.acts disk secrets provided fixed beside c.args._fence.now of.of reads by provides seen))

pub returns-in-Ok-clause-tells : goal.returns-in-Ok-clause-tells
returns-in-Ok-clause-tells g c = λ provided fixed beside. rw c.in-Living.is (λ of reads by provides seen. with_as beside beside.inclusion (λ more none. took_nothing g.R.Registrar.tells (g.R.Registrar.taken c.args.self.now.registrar) more none) (λ now made. made) (λ i its. its)
    (c.in-Ok.ensures.tells provided fixed beside c.args._fence.now of.of reads by provides seen))

pub returns-in-Ok-clause-ends : goal.returns-in-Ok-clause-ends
returns-in-Ok-clause-ends g c = c.in-Ok.ensures.ready

pub returns-in-Ok-clause-stays : goal.returns-in-Ok-clause-stays
returns-in-Ok-clause-stays g c = record {
  word = rw c.in-Living.is (ap (λ (l : Life g.row.Dir.Denot). l.word) c.work.ensures.stays.same);
  rest = (refl, refl, refl, refl);
  provider = c.work.ensures.stays.provider;
}

pub returns-in-Ok-clause-fails : goal.returns-in-Ok-clause-fails
returns-in-Ok-clause-fails g c = record {
  stopped = λ is. absurd (lives_on c.args.self.now.state _ _ c.in-Living.is is);
  only = λ is. absurd (no_error tt Failed is);
}

pub returns-in-Ok-clause-moved : goal.returns-in-Ok-clause-moved
returns-in-Ok-clause-moved g c = c.work.ensures.moved

pub returns-in-Ok-clause-causes : goal.returns-in-Ok-clause-causes
returns-in-Ok-clause-causes g c = tt

pub returns-in-Ok-clause-fit : goal.returns-in-Ok-clause-fit
returns-in-Ok-clause-fit g c = λ told fit. rw c.work.ensures.stays.disk fit

pub returns-in-Err-clause-including : goal.returns-in-Err-clause-including
returns-in-Err-clause-including g c = tt

pub returns-in-Err-clause-acts : goal.returns-in-Err-clause-acts
returns-in-Err-clause-acts g c = λ disk secrets provided fixed beside. rw c.in-Living.is (λ of reads by provides seen. with_as beside beside.inclusion (λ more none. tt) (λ now made. made) (λ i its. its)
    (c.in-Err.ensures.acts disk secrets provided fixed beside c.args._fence.now of.of reads by provides seen))

pub returns-in-Err-clause-tells : goal.returns-in-Err-clause-tells
returns-in-Err-clause-tells g c = λ provided fixed beside. rw c.in-Living.is (λ of reads by provides seen. with_as beside beside.inclusion (λ more none. tt) (λ now made. made) (λ i its. its)
    (c.in-Err.ensures.tells provided fixed beside c.args._fence.now of.of reads by provides seen))

pub returns-in-Err-clause-ends : goal.returns-in-Err-clause-ends
returns-in-Err-clause-ends g c = rw c.fail.ensures.failed tt

pub returns-in-Err-clause-stays : goal.returns-in-Err-clause-stays
returns-in-Err-clause-stays g c = record {
  word = rw (c.in-Living.is, c.fail.ensures.failed) tt;
  rest = c.fail.ensures.rest;
  provider = rw c.fail.ensures.provider c.work.ensures.stays.provider;
}

pub returns-in-Err-clause-fails : goal.returns-in-Err-clause-fails
returns-in-Err-clause-fails g c = record {
  stopped = λ is. absurd (lives_on c.args.self.now.state _ _ c.in-Living.is is);
  only = λ is. absurd (not_failed g.D.Disk.tells _ _ _ c.in-Err.why (caused_around g.D.Disk.tells (λ x. x) (λ x. x) (λ x. x) c.in-Err.why c.in-Err.ensures.causes) (same_error (Unit {0}) c.in-Err.why Failed is));
}

pub returns-in-Err-clause-moved : goal.returns-in-Err-clause-moved
returns-in-Err-clause-moved g c = c.work.ensures.moved

pub returns-in-Err-clause-causes : goal.returns-in-Err-clause-causes
returns-in-Err-clause-causes g c = caused_in_step g.D.Disk.tells _ _ _ c.in-Err.why (caused_around g.D.Disk.tells (λ x. x) (λ x. x) (λ x. x) c.in-Err.why c.in-Err.ensures.causes)

pub returns-in-Err-clause-fit : goal.returns-in-Err-clause-fit
returns-in-Err-clause-fit g c = λ told fit. rw c.work.ensures.stays.disk fit
