use Rattle.std.proofs.Common.{◌≡◌, ℕ, ◌+◌, ◌*◌, ◌-◌, ◌/◌, ◌≤◌, length, drop, sym, ap, ◌∙◌, arith}
use Rattle.std.proofs.lemmas.List.{length-replicate}
use Rattle.dkg_ceremony.specs.Polynomials.{value_at}
use Rattle.dkg_ceremony.specs.PolynomialLaws.{remainder_none, remainder_taken}
use Rattle.dkg_ceremony.proofs.many.remainder_of.Goals as goal

pub loop-row-init : goal.loop-row-init
loop-row-init c =
    let elements = c.args.elements.now in
    let start = (length elements / 240 + 1) * 240 in
    let past : length elements ≤ start = omega arith in
    record {
      long = rw c.in_ok-remainder.ensures (length-replicate {A = ℕ} 240 0);
      within = omega arith;
      is = λ x is. rw c.in_ok-remainder.ensures (remainder_none elements x start 240 past);
    }

pub loop-row-preserved : goal.loop-row-preserved
loop-row-preserved c =
    let row = c.loop-row.row in
    let more : (row - 1) * 240 + 240 ≡ row * 240 = omega (arith, c.loop-row-test.true) in
    record {
      long = c.take_row.ensures.long;
      within = omega (arith, c.loop-row.invariant.within);
      is = λ x is. remainder_taken c.args.elements.now c.loop-row.remainder.items c.take_row.new.remainder.items ((row - 1) * 240) c.args.power x 240
          c.loop-row.invariant.long c.take_row.ensures.long is c.take_row.ensures.each
          (c.loop-row.invariant.is x is ∙ ap (λ (k : ℕ). value_at (drop k c.args.elements.now) x) (sym more));
    }
