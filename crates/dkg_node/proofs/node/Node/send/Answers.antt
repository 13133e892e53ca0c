use Rattle.std.proofs.Common.{refl}
use Rattle.dkg_ceremony.specs.Acks as acks
use Rattle.dkg_ceremony.specs.Deals as deals
use Rattle.dkg_infos.specs.declared.directory.Unit as directory
use Rattle.dkg_life.specs.Ready.{IsReadyLife}
use Rattle.dkg_life.specs.declared.life.Life as reshare
use Rattle.dkg_node.proofs.Noding.{at_includes, mail_within, not_failed, of_again, ready_on, sends, sends_said}
use Rattle.dkg_node.proofs.node.Node.send.Goals as goal

pub step-requires-clause-at : goal.step-requires-clause-at
step-requires-clause-at g c = c.requires.ready.at

pub step-requires-clause-within : goal.step-requires-clause-within
step-requires-clause-within g c = mail_within _ c.args.message c.requires.mail

pub step-requires-clause-including : goal.step-requires-clause-including
step-requires-clause-including g c = c.requires.ready.including

pub returns-clause-ready : goal.returns-clause-ready
returns-clause-ready g c = ready_on g.D.Disk.tells g.D.Disk.files g.D.Disk.image c.args.self.now (record c.args.self.now { actor = c.step.new.self; fence = c.step.new.fence }) c.args.devices.now c.step.new.devices c.requires.ready c.step.ensures.stays.rest.3 refl refl
    c.step.result c.step.ensures.ends c.step.ensures.including

pub returns-clause-terms : goal.returns-clause-terms
returns-clause-terms g c = c.step.ensures.stays.rest.3

pub returns-clause-of : goal.returns-clause-of
returns-clause-of g c = of_again c.args.self.now (record c.args.self.now { actor = c.step.new.self; fence = c.step.new.fence }) c.requires.ready.living c.step.ensures.stays.rest.3 c.step.ensures.stays.word (c.step.ensures.stays.provider refl).0

pub returns-clause-acts : goal.returns-clause-acts
returns-clause-acts g c = λ disk secrets lived number st of may view.
    sends c.args.self.now (record c.args.self.now { actor = c.step.new.self; fence = c.step.new.fence }) lived number st view of may refl _ (at_includes lived c.args.self.now of number) _ c.step.result c.args.message c.requires.mail
    (λ (life : reshare.Life directory.Unit). IsReadyLife g.D.Disk.tells g.D.Disk.files g.D.Disk.image acks.ack_of deals.deal_of acks.check_ack_of (c.step.new.self).terms life c.step.new.devices) c.step.ensures.ends
    _ _ _ _ _ _ (c.step.ensures.acts disk secrets refl _ view.beside)

pub returns-clause-tells : goal.returns-clause-tells
returns-clause-tells g c = λ lived number st of may view.
    sends_said c.args.self.now (record c.args.self.now { actor = c.step.new.self; fence = c.step.new.fence }) lived number st view of may refl _ (at_includes lived c.args.self.now of number) _ c.step.result c.args.message c.requires.mail
    (λ (life : reshare.Life directory.Unit). IsReadyLife g.D.Disk.tells g.D.Disk.files g.D.Disk.image acks.ack_of deals.deal_of acks.check_ack_of (c.step.new.self).terms life c.step.new.devices) c.step.ensures.ends
    _ _ (c.step.ensures.tells refl _ view.beside)

pub returns-clause-moved : goal.returns-clause-moved
returns-clause-moved g c = c.step.ensures.moved

pub returns-clause-causes : goal.returns-clause-causes
returns-clause-causes g c = not_failed c.args.self.now c.requires.ready.living c.step.result _ c.step.ensures.fails g.D.Disk.tells _ _ _ c.step.ensures.causes

pub returns-clause-fit : goal.returns-clause-fit
returns-clause-fit g c = c.step.ensures.fit
