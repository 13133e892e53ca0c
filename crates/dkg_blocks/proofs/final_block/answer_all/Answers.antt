use Rattle.std.proofs.Common.{◌≡◌, rules, refl}
use Rattle.std.proofs.lemmas.Result.{err_from_is_err_and}
use Rattle.dkg_blocks.proofs.Answering.{all_left, none_behind, none_more, one_less, with_its}
use Rattle.dkg_verifying.proofs.Telling.{ends_beside}
use Rattle.dkg_blocks.proofs.final_block.answer_all.Goals as goal

pub loop-request-init : goal.loop-request-init
loop-request-init g c = record { hand = c.requires; left = λ beside fence life seen. all_left beside fence life c.args.inclusion.now c.requires seen c.args.out.now.entries }

pub loop-request-preserved : goal.loop-request-preserved
loop-request-preserved g c = record {
  hand = c.loop-request.invariant.hand;
  left = λ beside fence life seen.
      let left = c.loop-request.invariant.left beside fence life seen in
      let number : c.request.inside.number ≡ c.in-Some.request.number = search rules in
      one_less beside fence life c.loop-request.inclusion c.args.out.now.entries c.loop-request.out.entries left c.loop-request.invariant.hand c.in-Some.request c.pop.new.self c.in-Some.ensures.first c.request.inside.number number _
      (λ i. record c.loop-request.inclusion { requests = c.pop.new.self; told = c.in_ok-answer_none.ensures.told i }) _ (c.in_ok-answer_none.ensures.speaks (with_its beside fence life left.now));
}

pub returns-in_err-answer_none-clause-speaks : goal.returns-in_err-answer_none-clause-speaks
returns-in_err-answer_none-clause-speaks g c = λ beside fence life seen.
    let p = err_from_is_err_and c.from_residual.result c.from_residual.ensures.1 in
    let left = c.loop-request.invariant.left beside fence life seen in
    let number : c.request.inside.number ≡ c.in-Some.request.number = search rules in
    rw (p.1, p.2) (ends_beside beside tt refl (none_more beside fence life c.loop-request.inclusion c.args.out.now.entries c.loop-request.out.entries left c.loop-request.invariant.hand c.in-Some.request c.pop.new.self c.in-Some.ensures.first c.request.inside.number number
    c.in_err-answer_none.field-0.0 c.in_err-answer_none.ensures.memory _ (c.in_err-answer_none.ensures.speaks (with_its beside fence life left.now))))

pub returns-clause-speaks : goal.returns-clause-speaks
returns-clause-speaks g c = λ beside fence life seen.
    none_behind beside fence life c.loop-request.inclusion _ c.args.out.now.entries c.loop-request.out.entries (c.loop-request.invariant.left beside fence life seen) c.in_default.ensures.none.0
    (λ i. record c.loop-request.inclusion { requests = c.in_default.ensures.none.1 i })
