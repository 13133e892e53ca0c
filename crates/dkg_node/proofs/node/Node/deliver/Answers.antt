use Rattle.std.proofs.Common.{Err, refl, sym}
use Rattle.std.proofs.lemmas.Result.{err_from_is_err_and}
use Rattle.dkg_ceremony.specs.Acks as acks
use Rattle.dkg_ceremony.specs.Deals as deals
use Rattle.dkg_infos.specs.declared.directory.Unit as directory
use Rattle.dkg_life.specs.Ready.{IsReadyLife}
use Rattle.dkg_life.specs.declared.life.Life as reshare
use Rattle.dkg_lives.specs.Given.{at_step}
use Rattle.dkg_node.proofs.Noding.{at_includes, half_length, half_settled, halves_on, may_pass_behind, not_failed, of_again, ready_behind, refuses, refuses_said, takes, takes_said}
use Rattle.dkg_node.proofs.node.Node.deliver.Goals as goal

pub deliver-requires-clause-at : goal.deliver-requires-clause-at
deliver-requires-clause-at g c = c.requires.ready.at

pub deliver-requires-clause-within : goal.deliver-requires-clause-within
deliver-requires-clause-within g c = c.requires.within

pub deliver-requires-clause-including : goal.deliver-requires-clause-including
deliver-requires-clause-including g c = c.requires.ready.including

-- IT ENDED in the reshare half

pub returns-in_err-deliver-clause-ready : goal.returns-in_err-deliver-clause-ready
returns-in_err-deliver-clause-ready g c = let p = err_from_is_err_and c.from_residual.result c.from_residual.ensures.1 in rw p.1 tt

pub returns-in_err-deliver-clause-terms : goal.returns-in_err-deliver-clause-terms
returns-in_err-deliver-clause-terms g c = c.in_err-deliver.ensures.stays.rest.3

pub returns-in_err-deliver-clause-of : goal.returns-in_err-deliver-clause-of
returns-in_err-deliver-clause-of g c = of_again c.args.self.now (record c.args.self.now { actor = c.deliver.new.self; fence = c.deliver.new.fence }) c.requires.ready.living c.in_err-deliver.ensures.stays.rest.3 c.in_err-deliver.ensures.stays.word (c.in_err-deliver.ensures.stays.provider refl).0

pub returns-in_err-deliver-clause-acts : goal.returns-in_err-deliver-clause-acts
returns-in_err-deliver-clause-acts g c = λ disk secrets lived number st of may view.
    let p = err_from_is_err_and c.from_residual.result c.from_residual.ensures.1 in
    rw (p.1, p.2) (refuses c.args.self.now (record c.args.self.now { actor = c.deliver.new.self; fence = c.deliver.new.fence }) lived number st view of may c.args.block.now c.deliver.new.fence _ (at_includes lived c.args.self.now of number) _ _ _ _ _ _ _ _ c.in_err-deliver.field-0.0
    (λ (life : reshare.Life directory.Unit). IsReadyLife g.D.Disk.tells g.D.Disk.files g.D.Disk.image acks.ack_of deals.deal_of acks.check_ack_of (c.deliver.new.self).terms life c.deliver.new.devices) c.in_err-deliver.ensures.ends
    (c.in_err-deliver.ensures.acts disk secrets refl _ view.beside))

pub returns-in_err-deliver-clause-tells : goal.returns-in_err-deliver-clause-tells
returns-in_err-deliver-clause-tells g c = λ lived number st of may view.
    let p = err_from_is_err_and c.from_residual.result c.from_residual.ensures.1 in
    rw (p.1, p.2) (refuses_said c.args.self.now (record c.args.self.now { actor = c.deliver.new.self; fence = c.deliver.new.fence }) lived number st view of may c.args.block.now c.deliver.new.fence _ (at_includes lived c.args.self.now of number) _ _ _ _ c.in_err-deliver.field-0.0
    (λ (life : reshare.Life directory.Unit). IsReadyLife g.D.Disk.tells g.D.Disk.files g.D.Disk.image acks.ack_of deals.deal_of acks.check_ack_of (c.deliver.new.self).terms life c.deliver.new.devices) c.in_err-deliver.ensures.ends
    (c.in_err-deliver.ensures.tells refl _ view.beside))

pub returns-in_err-deliver-clause-moved : goal.returns-in_err-deliver-clause-moved
returns-in_err-deliver-clause-moved g c = c.in_err-deliver.ensures.moved

pub returns-in_err-deliver-clause-causes : goal.returns-in_err-deliver-clause-causes
returns-in_err-deliver-clause-causes g c =
    let p = err_from_is_err_and c.from_residual.result c.from_residual.ensures.1 in
    rw (p.1, p.2) (not_failed c.args.self.now c.requires.ready.living (Err c.in_err-deliver.field-0.0) _ c.in_err-deliver.ensures.fails g.D.Disk.tells _ _ _ c.in_err-deliver.ensures.causes)

pub returns-in_err-deliver-clause-fit : goal.returns-in_err-deliver-clause-fit
returns-in_err-deliver-clause-fit g c = c.in_err-deliver.ensures.fit

-- .. OR IT WENT, and so the other half may pass on

pub deliver-requires-2 : goal.deliver-requires-2
deliver-requires-2 g c =
    let its = c.requires.goes in
    record {
      range = may_pass_behind c.args.self.now (record c.args.self.now { actor = c.deliver.new.self; fence = c.deliver.new.fence }) its.g its.number its.st its.view its.of its.may c.args.block.now c.deliver.new.fence _ (at_includes its.g c.args.self.now its.of its.number) _ _ _
          (λ (life : reshare.Life directory.Unit). IsReadyLife g.D.Disk.tells g.D.Disk.files g.D.Disk.image acks.ack_of deals.deal_of acks.check_ack_of (c.deliver.new.self).terms life c.deliver.new.devices) c.in_ok-deliver.ensures.ends _ (c.in_ok-deliver.ensures.tells refl _ (its.view).beside) _
          (half_length g.D.Disk.tells g.D.Disk.files g.D.Disk.image c.args.self.now c.args.devices.now c.requires.ready its.g its.of its.number)
          (half_settled g.D.Disk.tells g.D.Disk.files g.D.Disk.image c.args.self.now c.args.devices.now c.requires.ready);
    }

pub returns-clause-ready : goal.returns-clause-ready
returns-clause-ready g c =
    ready_behind g.D.Disk.tells g.D.Disk.files g.D.Disk.image c.args.self.now (record c.args.self.now { actor = c.deliver.new.self; fence = c.deliver-2.new.fence; half = c.deliver-2.new.self }) c.args.devices.now c.deliver.new.devices c.requires.ready c.in_ok-deliver.ensures.stays.rest.3 refl
    c.in_ok-deliver.ensures.ends c.in_ok-deliver.ensures.including c.deliver-2.result c.deliver-2.ensures.settled

pub returns-clause-terms : goal.returns-clause-terms
returns-clause-terms g c = c.in_ok-deliver.ensures.stays.rest.3

pub returns-clause-of : goal.returns-clause-of
returns-clause-of g c = of_again c.args.self.now (record c.args.self.now { actor = c.deliver.new.self; fence = c.deliver-2.new.fence; half = c.deliver-2.new.self }) c.requires.ready.living c.in_ok-deliver.ensures.stays.rest.3 c.in_ok-deliver.ensures.stays.word (c.in_ok-deliver.ensures.stays.provider refl).0

pub returns-clause-acts : goal.returns-clause-acts
returns-clause-acts g c = λ disk secrets lived number st of may view.
    takes c.args.self.now (record c.args.self.now { actor = c.deliver.new.self; fence = c.deliver-2.new.fence; half = c.deliver-2.new.self }) lived number st view of may c.args.block.now c.deliver.new.fence _ (at_includes lived c.args.self.now of number) _
    (λ (life : reshare.Life directory.Unit). IsReadyLife g.D.Disk.tells g.D.Disk.files g.D.Disk.image acks.ack_of deals.deal_of acks.check_ack_of (c.deliver.new.self).terms life c.deliver.new.devices) c.in_ok-deliver.ensures.ends c.deliver-2.result _ _ _ _ _ _ _ _ _
    (c.in_ok-deliver.ensures.acts disk secrets refl _ view.beside)
    (λ end. c.deliver-2.ensures.speaks (at_step lived number) end (sym (half_length g.D.Disk.tells g.D.Disk.files g.D.Disk.image c.args.self.now c.args.devices.now c.requires.ready lived of number)))

pub returns-clause-tells : goal.returns-clause-tells
returns-clause-tells g c = λ lived number st of may view.
    takes_said c.args.self.now (record c.args.self.now { actor = c.deliver.new.self; fence = c.deliver-2.new.fence; half = c.deliver-2.new.self }) lived number st view of may c.args.block.now c.deliver.new.fence _ (at_includes lived c.args.self.now of number) _
    (λ (life : reshare.Life directory.Unit). IsReadyLife g.D.Disk.tells g.D.Disk.files g.D.Disk.image acks.ack_of deals.deal_of acks.check_ack_of (c.deliver.new.self).terms life c.deliver.new.devices) c.in_ok-deliver.ensures.ends c.deliver-2.result _ _ _
    (c.in_ok-deliver.ensures.tells refl _ view.beside)
    (λ end. c.deliver-2.ensures.speaks (at_step lived number) end (sym (half_length g.D.Disk.tells g.D.Disk.files g.D.Disk.image c.args.self.now c.args.devices.now c.requires.ready lived of number)))

pub returns-clause-moved : goal.returns-clause-moved
returns-clause-moved g c = c.in_ok-deliver.ensures.moved

pub returns-clause-causes : goal.returns-clause-causes
returns-clause-causes g c = halves_on g.D.Disk.tells c.deliver-2.result _ _ _ c.deliver-2.ensures.causes

pub returns-clause-fit : goal.returns-clause-fit
returns-clause-fit g c = c.in_ok-deliver.ensures.fit
