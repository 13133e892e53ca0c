use Rattle.std.proofs.Common.{◌≡◌, ◌*◌, refl, arith}
use Rattle.dkg_ceremony.specs.Polynomials.{power}
use Rattle.dkg_ceremony.proofs.evaluate.powers_of.Goals as goal

pub returns-clause-powers : goal.returns-clause-powers
unfolding power
returns-clause-powers c =
    let first : 1 * c.args.point ≡ c.args.point = omega arith in
    rw first refl
