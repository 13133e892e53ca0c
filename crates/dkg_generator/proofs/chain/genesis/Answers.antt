use Rattle.std.proofs.Common.{refl}
use Rattle.dkg_generator.proofs.Firsts.{agrees, first_info}
use Rattle.dkg_generator.proofs.chain.genesis.Goals as goal

pub invariant_of-result : goal.invariant_of-result
invariant_of-result c = record { agree = agrees c.args.number c.in_ok-poly.poly c.in_ok-everybody-2.field-0 c.in_ok-from_any.field-0 c.in_ok-poly.ensures c.in_ok-everybody-2.ensures c.in_ok-from_any.ensures.exact }

pub returns : goal.returns
returns c =
    first_info c.args.number _ c.in_ok-poly.poly c.in_ok-everybody-3.field-0 c.in_ok-everybody-4.field-0 refl refl c.in_ok-poly.ensures c.in_ok-everybody.ensures c.in_ok-everybody-2.ensures c.in_ok-from_any.ensures.exact
    c.in_ok-everybody-3.ensures c.in_ok-everybody-4.ensures
