use Rattle.std.proofs.Common.{◌≡◌, sym, ◌∙◌, true, false, arith}
use Rattle.std.proofs.lemmas.Grind.{common_steps}
use Rattle.dkg_verifying.proofs.Telling.{back_seen, unserved_outside}
use Rattle.dkg_blocks.proofs.logs.release.Goals as goal

pub returns-then-not-is_served_at-clause-released : goal.returns-then-not-is_served_at-clause-released
returns-then-not-is_served_at-clause-released g c = λ beside fence seen.
    let no : c.is_served_at.result ≡ false = grind (arith, common_steps) in
    back_seen c.args.height beside fence c.args.life.now c.args.inclusion.now seen false (sym (c.is_served_at.ensures beside fence seen.served) ∙ no)

pub returns-clause-released : goal.returns-clause-released
returns-clause-released g c = λ beside fence seen.
    let yes : c.is_served_at.result ≡ true = grind (arith, common_steps) in
    back_seen c.args.height beside fence c.args.life.now c.args.inclusion.now seen true (sym (c.is_served_at.ensures beside fence seen.served) ∙ yes)

pub returns-clause-unserved : goal.returns-clause-unserved
returns-clause-unserved g c = λ apart.
    let yes : c.is_served_at.result ≡ true = grind (arith, common_steps) in
    absurd (let h : true ≡ false = sym yes ∙ unserved_outside c.args.height c.args.life.now c.args.inclusion.now.served c.is_served_at.result c.is_served_at.ensures apart in cc)
