use Rattle.std.proofs.Common.{List, ◌++◌, ap, subst, ◌∙◌, arith}
use Rattle.dkg_text.specs.declared.script.Event.{Event}
use Rattle.dkg_generator.specs.Made.{Shown, events_with, life_with}
use Rattle.dkg_generator.specs.Making.{IsPlan}
use Rattle.dkg_generator.proofs.Epochs.{blocks_further, info_further, life_is, lives_further, plan_events, rest_further}
use Rattle.dkg_generator.proofs.Holders.{epoch_is, holders}
use Rattle.dkg_generator.proofs.Plans.{some_dealings}
use Rattle.dkg_generator.proofs.make.add_epoch.Goals as goal

pub plan_of-requires-clause-holders : goal.plan_of-requires-clause-holders
plan_of-requires-clause-holders c = ap (λ (shown : Shown). shown.output.players) c.requires.stands.info ∙ holders c.args.number c.args.epoch

pub plan_of-requires-clause-epoch : goal.plan_of-requires-clause-epoch
plan_of-requires-clause-epoch c =
    let its = ap (λ (shown : Shown). shown.epoch) c.requires.stands.info ∙ epoch_is c.args.number c.args.epoch in
    let lt = c.requires.epoch in
    omega (arith, its, lt)

pub put_events-requires-clause-some : goal.put_events-requires-clause-some
put_events-requires-clause-some c =
    let dealings = c.in_ok-plan.plan.dealings in
    omega (arith, some_dealings c.args.number c.args.making.info dealings.items c.in_ok-plan.ensures.dealings, dealings.ok.0)

pub put_events-requires-2-clause-some : goal.put_events-requires-2-clause-some
put_events-requires-2-clause-some c =
    let dealings = c.in_ok-plan.plan.dealings in
    omega (arith, some_dealings c.args.number c.args.making.info dealings.items c.in_ok-plan.ensures.dealings, dealings.ok.0)

pub returns : goal.returns
returns c =
    let number = c.args.number in
    let epoch = c.args.epoch in
    let making = c.args.making in
    let stands = c.requires.stands in
    let plan = c.in_ok-plan.plan in
    let is = subst (λ (shown : Shown). IsPlan number shown plan) stands.info c.in_ok-plan.ensures in
    let begun = events_with plan.dealings.items plan.acks.items epoch 0 16 in
    let rest = events_with plan.dealings.items plan.acks.items epoch 16 48 in
    let life =
    c.in_ok-life.ensures
    ∙ ap (life_with number epoch) c.in_ok-put_events.ensures
    ∙ life_is number epoch making.events begun c.requires.epoch stands.events (plan_events number epoch 0 16 plan is) in
    record {
      info = is.info ∙ info_further number epoch;
      blocks = c.in_ok-put_blocks.ensures ∙ blocks_further number epoch plan making.blocks.items is stands.blocks;
      lives = c.in_ok-push.ensures.items ∙ lives_further number epoch making.lives.items c.in_ok-life.field-0 stands.lives life;
      events =
          c.in_ok-put_events-2.ensures
          ∙ ap (λ (events : List Event). events ++ rest) c.new-events.ensures
          ∙ plan_events number epoch 16 48 plan is
          ∙ rest_further number epoch;
    }
