use Rattle.std.proofs.Common.{◌≡◌, Some, ap, refl, sym, ◌∙◌, is_some, true, false, arith}
use Rattle.std.specs.Prelude.{if◌then◌else◌}
use Rattle.std.proofs.lemmas.Grind.{common_steps}
use Rattle.std.proofs.lemmas.Result.{err_from_is_err_and}
use Rattle.dkg_verifying.proofs.Telling.{ends_beside, served_speaks, unserved_speaks, unspoken}
use Rattle.dkg_blocks.proofs.logs.serve.Goals as goal

-- NOTHING WAS SAID

pub returns-in_err-payload-clause-speaks : goal.returns-in_err-payload-clause-speaks
returns-in_err-payload-clause-speaks g c = λ fixed beside fence spells seen.
    let p = err_from_is_err_and c.from_residual.result c.from_residual.ensures.1 in
    rw (p.1, p.2) (ends_beside beside tt refl (unspoken fixed g.Dir.Spelled.spelling spells c.args.request c.args.height beside fence c.args.life.now c.args.inclusion.now seen _ refl c.args.out.now.entries c.args.out.now.entries refl))

pub returns-in_err-line-clause-speaks : goal.returns-in_err-line-clause-speaks
returns-in_err-line-clause-speaks g c = λ fixed beside fence spells seen.
    let p = err_from_is_err_and c.from_residual-in_err-line.result c.from_residual-in_err-line.ensures.1 in
    rw (p.1, p.2) (ends_beside beside tt refl (unspoken fixed g.Dir.Spelled.spelling spells c.args.request c.args.height beside fence c.args.life.now c.args.inclusion.now seen _ refl c.args.out.now.entries c.args.out.now.entries refl))

pub returns-in_err-push-clause-speaks : goal.returns-in_err-push-clause-speaks
returns-in_err-push-clause-speaks g c = λ fixed beside fence spells seen.
    let p = err_from_is_err_and c.from_residual-in_err-push.result c.from_residual-in_err-push.ensures.1 in
    rw (p.1, p.2) (ends_beside beside tt refl (unspoken fixed g.Dir.Spelled.spelling spells c.args.request c.args.height beside fence c.args.life.now c.args.inclusion.now seen _ refl c.args.out.now.entries _ c.in_err-push.ensures.err))

-- THE LINE WAS

pub returns-in_err-told_log-clause-speaks : goal.returns-in_err-told_log-clause-speaks
returns-in_err-told_log-clause-speaks g c = λ fixed beside fence spells seen.
    let p = err_from_is_err_and c.from_residual-in_err-told_log.result c.from_residual-in_err-told_log.ensures.1 in
    rw (p.1, p.2) (ends_beside beside tt refl (unserved_speaks fixed g.Dir.Spelled.spelling spells c.args.request c.args.height beside fence c.args.life.now c.args.inclusion.now seen
    c.in_ok-payload.payload (c.in_ok-payload.ensures.made beside fence seen) c.in_ok-line.line c.in_ok-line.ensures.ok c.args.out.now.entries _ c.in_ok-push.ensures.ok _ refl))

pub returns-then-not-serves-clause-speaks : goal.returns-then-not-serves-clause-speaks
returns-then-not-serves-clause-speaks g c = λ fixed beside fence spells seen.
    let none : is_some c.in_ok-payload.payload ≡ false = grind (arith, common_steps) in
    served_speaks fixed g.Dir.Spelled.spelling spells c.args.request c.args.height beside fence c.args.life.now c.args.inclusion.now seen
    c.in_ok-payload.payload (c.in_ok-payload.ensures.made beside fence seen) c.in_ok-line.line c.in_ok-line.ensures.ok c.args.out.now.entries _ c.in_ok-push.ensures.ok _
    (λ i. record c.args.inclusion.now { served = (if (sym none) i then Some c.args.height else c.args.inclusion.now.served); told = c.in_ok-told_log.ensures.done i })

pub returns-clause-speaks : goal.returns-clause-speaks
returns-clause-speaks g c = λ fixed beside fence spells seen.
    let some : is_some c.in_ok-payload.payload ≡ true = grind (arith, common_steps) in
    served_speaks fixed g.Dir.Spelled.spelling spells c.args.request c.args.height beside fence c.args.life.now c.args.inclusion.now seen
    c.in_ok-payload.payload (c.in_ok-payload.ensures.made beside fence seen) c.in_ok-line.line c.in_ok-line.ensures.ok c.args.out.now.entries _ c.in_ok-push.ensures.ok _
    (λ i. record c.args.inclusion.now { served = (if (sym some) i then Some c.args.height else c.args.inclusion.now.served); told = c.in_ok-told_log.ensures.done i })

-- OUTSIDE OF INCLUSION none is served

pub returns-clause-unserved : goal.returns-clause-unserved
returns-clause-unserved g c = λ apart.
    let some : is_some c.in_ok-payload.payload ≡ true = grind (arith, common_steps) in
    absurd (let h : false ≡ true = ap (λ o. is_some o) (sym (c.in_ok-payload.ensures.includes apart)) ∙ some in cc)
