use Rattle.std.proofs.Common.{◌≡◌, ◌*◌, ◌%◌, refl, arith}
use Rattle.dkg_ceremony.specs.Polynomials.{power}
use Rattle.dkg_ceremony.proofs.many.power_of.Goals as goal

pub returns-clause-power : goal.returns-clause-power
unfolding power
returns-clause-power c =
    let x = c.args.point in
    let once : 1 * x ≡ x = omega arith in
    let first : x % 65521 ≡ power x 1 = rw once refl in
    let second = c.product-second.ensures.power x 1 1 first first in
    let fourth = c.product-fourth.ensures.power x 2 2 second second in
    let fifth = c.product-fifth.ensures.power x 4 1 fourth first in
    let tenth = c.product-tenth.ensures.power x 5 5 fifth fifth in
    let fifteenth = c.product-fifteenth.ensures.power x 10 5 tenth fifth in
    let thirtieth = c.product-thirtieth.ensures.power x 15 15 fifteenth fifteenth in
    let sixtieth = c.product-sixtieth.ensures.power x 30 30 thirtieth thirtieth in
    let half = c.product-half.ensures.power x 60 60 sixtieth sixtieth in
    c.product.ensures.power x 120 120 half half
