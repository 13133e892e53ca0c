use Rattle.std.proofs.Common.{◌≡◌, is_some, refl, sym, ◌∙◌, true, false, arith}
use Rattle.std.proofs.lemmas.Grind.{common_steps}
use Rattle.dkg_verifying.specs.Concluded.{sees_verified}
use Rattle.dkg_life.specs.LiveOf.{live_of}
use Rattle.dkg_blocks.proofs.Concluding.{sees_kept, sees_none}
use Rattle.dkg_life.proofs.Speaking.{goes_speaks}
use Rattle.dkg_verifying.proofs.Telling.{ends_beside}
use Rattle.dkg_blocks.proofs.final_block.see_verified.Goals as goal

pub returns-then-is_some-clause-ready : goal.returns-then-is_some-clause-ready
returns-then-is_some-clause-ready g c =
    let some : is_some c.ready.result ≡ true = grind (arith, common_steps) in
    c.ready.ensures.exactly.0 some

pub returns-then-is_some-clause-speaks : goal.returns-then-is_some-clause-speaks
returns-then-is_some-clause-speaks g c = λ fixed round beside fence mine by middle has seen.
    let some : is_some c.ready.result ≡ true = grind (arith, common_steps) in
    let st = live_of beside fence c.args.life.now in
    ends_beside beside seen refl (λ out. goes_speaks (sees_verified fixed round c.args.logs.now st) st st (sees_kept fixed round c.args.logs.now st c.args.inclusion.now.verification.kept seen.retained (c.ready.ensures.exactly.0 some)) refl out)

pub returns-clause-speaks : goal.returns-clause-speaks
returns-clause-speaks g c = λ fixed round beside fence mine by middle has seen.
    let none : is_some c.ready.result ≡ false = grind (arith, common_steps) in
    let st = live_of beside fence c.args.life.now in
    let same = sees_none fixed round c.args.logs.now st c.args.inclusion.now.verification.kept seen.retained (λ kept. absurd (let h : false ≡ true = sym none ∙ c.ready.ensures.exactly.1 kept in cc)) in
    rw same (c.verify_now.ensures.speaks fixed round beside fence mine by middle has seen)
