use Rattle.std.proofs.Common.{Err, sym, ◌∙◌}
use Rattle.std.proofs.lemmas.Result.{err_from_is_err_and}
use Rattle.dkg_around.specs.Orchestrator.{with_orchestrator_half}
use Rattle.dkg_around.proofs.Halves.{acks_said, acks_wanted, is_going, stops_so}
use Rattle.dkg_around.proofs.half.Half.deliver.Goals as goal

pub returns-in_err-go_on-clause-speaks : goal.returns-in_err-go_on-clause-speaks
returns-in_err-go_on-clause-speaks c = λ fixed st blocks has fence may.
    let p = err_from_is_err_and c.from_residual.result c.from_residual.ensures.1 in
    let is = sym c.active.ensures ∙ c.in-Some.is in
    let going = is_going fixed c.args.block.now st c.args.self.now has c.in-Some.epoch is in
    rw (p.1, p.2) (stops_so fixed c.args.block.now st c.args.self.now has c.in-Some.epoch is c.in_err-go_on.field-0.0 c.args.out.now.entries c.go_on.new.out.entries
    (c.in_err-go_on.ensures.speaks fixed st blocks has (may c.in-Some.epoch going.0 going.1)))

pub returns-in_err-push-clause-speaks : goal.returns-in_err-push-clause-speaks
returns-in_err-push-clause-speaks c = λ fixed st blocks has fence may.
    let p = err_from_is_err_and c.from_residual-in_err-push.result c.from_residual-in_err-push.ensures.1 in
    let is = sym c.active.ensures ∙ c.in-Some.is in
    let going = is_going fixed c.args.block.now st c.args.self.now has c.in-Some.epoch is in
    rw (p.1, p.2) (acks_wanted fixed c.args.block.now st c.args.self.now has c.in-Some.epoch is (with_orchestrator_half c.go_on.new.self c.go_on.new.fence st) c.args.out.now.entries c.go_on.new.out.entries
    (c.in_ok-go_on.ensures.speaks fixed st blocks has (may c.in-Some.epoch going.0 going.1)) c.push.new.self.entries c.in_err-push.ensures.err)

pub returns-clause-speaks : goal.returns-clause-speaks
returns-clause-speaks c = λ fixed st blocks has fence may.
    let is = sym c.active.ensures ∙ c.in-Some.is in
    let going = is_going fixed c.args.block.now st c.args.self.now has c.in-Some.epoch is in
    acks_said fixed c.args.block.now st c.args.self.now has c.in-Some.epoch is (with_orchestrator_half c.go_on.new.self c.go_on.new.fence st) c.args.out.now.entries c.go_on.new.out.entries
    (c.in_ok-go_on.ensures.speaks fixed st blocks has (may c.in-Some.epoch going.0 going.1)) c.height.result c.height.ensures c.push.new.self.entries c.in_ok-push.ensures.ok
