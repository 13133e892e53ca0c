use Rattle.std.proofs.Common.{◌≡◌, ◌∙◌, arith}
use Rattle.dkg_generator.specs.Chain.{made_info_at}
use Rattle.dkg_generator.proofs.Epochs.{script_is}
use Rattle.dkg_generator.proofs.make.make_script.Goals as goal

pub loop-epoch-init : goal.loop-epoch-init
unfolding made_info_at
loop-epoch-init c = record { info = c.in_ok-genesis.ensures; blocks = c.new.ensures.items; lives = c.new-2.ensures.items; events = c.new-3.ensures }

pub returns : goal.returns
returns c =
    let all : c.loop-epoch.epoch ≡ 5 = omega arith in
    script_is c.args.number c.loop-epoch.epoch c.loop-epoch.making c.in_ok-life.field-0 c.in_ok-config.field-0 c.new-4.result c.new-5.result all c.loop-epoch.invariant c.in_ok-config.ensures c.new-4.ensures c.in_ok-life.ensures
    (c.new-5.ensures ∙ c.in_ok-push.ensures.items)
