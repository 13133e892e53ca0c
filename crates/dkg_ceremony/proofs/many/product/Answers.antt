use Rattle.dkg_ceremony.specs.PolynomialLaws.{power_sum}
use Rattle.dkg_ceremony.proofs.many.product.Goals as goal

pub returns-clause-power : goal.returns-clause-power
returns-clause-power c = λ x a b is_one is_other. rw (is_one, is_other) (power_sum x a b)
