use Rattle.std.proofs.Common.{◌≡◌, ◌≢◌, ◌<◌, length, get_or, arith, get_or-set_other, get_or-set_same, below_more}
use Rattle.std.proofs.lemmas.Grind.{get_or_default_zero}
use Rattle.dkg_ceremony.specs.PolynomialLaws.{poly_sum, poly_times}
use Rattle.dkg_ceremony.specs.SumLaws.{term_at, term_added}
use Rattle.dkg_ceremony.proofs.combine.add_times.Goals as goal

pub loop-i-preserved : goal.loop-i-preserved
loop-i-preserved c =
    let i = c.loop-i.i in
    let lt : i < length c.loop-i.sum = omega arith in
    let few : i < length c.args.public.now = omega arith in
    let term = term_at c.args.weight c.args.public.now c.args.sum.now i c.index-public-i.result 0 few c.requires in
    let left = c.loop-i.invariant.left i (omega arith) in
    let here = get_or_default_zero c.loop-i.sum i c.index-sum-i.result lt in
    let made : c.element_of.result ≡ get_or (poly_sum (poly_times c.args.weight c.args.public.now) c.args.sum.now) i 0 = cc in
    record {
      done = below_more _ _ (λ k h. let ne : k ≢ i = omega arith in rw get_or-set_other (c.loop-i.invariant.done k h)) (rw get_or-set_same made);
      left = λ k h. let ne : k ≢ i = omega arith in rw get_or-set_other (c.loop-i.invariant.left k (omega arith));
    }

pub returns : goal.returns
returns c = term_added c.args.weight c.args.public.now c.args.sum.now c.loop-i.sum c.loop-i.i c.requires (omega arith) (omega arith) c.loop-i.invariant.done
