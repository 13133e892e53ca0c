use Rattle.std.proofs.Common.{◌-◌, arith, sym, ◌∙◌}
use Rattle.std.proofs.lemmas.List.{get_or_default}
use Rattle.dkg_words.proofs.chain.pair_in.Goals as goal

pub returns-in-Some : goal.returns-in-Some
returns-in-Some c =
    let l = c.loop-index in
    record {
      index = l.index;
      some = omega (arith, l.auto.index);
      inside = c.loop-index-test.true;
      before = l.invariant;
      one = get_or_default c.args.used.now (l.index - 1) _ _ (omega (arith, c.loop-index-test.true));
      other = get_or_default c.args.used.now l.index _ _ c.loop-index-test.true;
      why = sym c.why_of.ensures ∙ c.in-Some.is;
    }
