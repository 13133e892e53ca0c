use Rattle.std.proofs.Common.{◌<◌, arith, refl, sym}
use Rattle.std.specs.Int.NonZero.{non_zero_u64_get}
use Rattle.dkg_setup.proofs.Ranges.{far_over, lies_at, range_over}
use Rattle.dkg_setup.proofs.setup.begin_awaited.Goals as goal

pub returns-in_default-clause-err : goal.returns-in_default-clause-err
returns-in_default-clause-err g c =
    let n = non_zero_u64_get c.args.terms.now.blocks_per_epoch in
    let long = c.args.terms.now.long in
    let some : 0 < n = omega (arith, long) in
    (refl, far_over n _ some c.in_default.ensures.none)

pub returns-in_default-containing-clause-err : goal.returns-in_default-containing-clause-err
returns-in_default-containing-clause-err g c =
    let n = non_zero_u64_get c.args.terms.now.blocks_per_epoch in
    let none = rw c.new.ensures at c.in_default-containing.ensures.value in
    (refl, rw (sym c.in-Some.ensures.some) (range_over n c.in-Some.height _ none))

pub returns-clause-lies : goal.returns-clause-lies
returns-clause-lies g c =
    let n = non_zero_u64_get c.args.terms.now.blocks_per_epoch in
    let found = rw c.new.ensures at c.in-Some-containing.ensures.value in
    rw (sym c.in-Some.ensures.some) (lies_at n c.in-Some.height c.in-Some-containing.bounds found)
