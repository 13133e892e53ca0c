use Rattle.std.proofs.Common.{ℕ, sym, ◌∙◌, ap}
use Rattle.std.specs.Prelude.{◌==◌}
use Rattle.dkg_around.proofs.Finding.{found_here, none_here, not_here}
use Rattle.dkg_around.proofs.held.at_height.Goals as goal
use Rattle.dkg_around.proofs.held.at_height.Goals.{in-Some+else-eq, in_default}

pub returns-then-eq : goal.returns-then-eq
returns-then-eq c =
    let its = c.in-Some.ensures.lookup in
    sym (found_here c.args.blocks.now c.args.numbers.now (λ b. b.height == c.args.height) c.loop-number.number-index c.in-Some.block.now c.loop-number-test.true its.0 its.1
    (ap (λ (h : ℕ). h == c.args.height) (sym c.height.ensures) ∙ sym c.if-eq.ensures)) ∙ c.loop-number.invariant

pub loop-number-preserved : goal.loop-number-preserved
loop-number-preserved c = elim c.match-get.branch [
  | in-Some+else-eq w ↦
      let its = w.in-Some.ensures.lookup in
      not_here c.args.blocks.now c.args.numbers.now (λ b. b.height == c.args.height) c.loop-number.number-index w.in-Some.block.now c.loop-number-test.true its.0 its.1
      (ap (λ (h : ℕ). h == c.args.height) (sym w.height.ensures) ∙ sym w.if-eq.ensures) ∙ c.loop-number.invariant
  | in_default w ↦
      let its = w.in_default.ensures.lookup in
      none_here c.args.blocks.now c.args.numbers.now (λ b. b.height == c.args.height) c.loop-number.number-index c.loop-number-test.true its.0 ∙ c.loop-number.invariant
]
