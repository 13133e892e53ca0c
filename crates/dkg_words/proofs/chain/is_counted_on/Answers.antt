use Rattle.std.proofs.Common.{◌-◌, decimal, refl, sym, ◌∙◌, arith, length-set}
use Rattle.std.proofs.lemmas.List.{get_or_default}
use Rattle.dkg_words.proofs.Counting.{counted_now, nine_on}
use Rattle.dkg_words.proofs.chain.is_counted_on.Goals as goal

pub returns-then-digit-ne57-clause-counted : goal.returns-then-digit-ne57-clause-counted
returns-then-digit-ne57-clause-counted c = λ a b n small is ends yes.
    let l = c.loop-back in
    counted_now a b (decimal n) l.words.items c.args.last l.back ends (l.invariant.back a b (decimal n) is ends) n small refl c.index-digit.result.now c.index-digit.ensures
    (omega (arith, c.loop-back-test.true, l.invariant.len, c.requires)) c.if-digit-ne57.true c.if-digit-lt48.false c.if-digit-gt57.false

pub loop-back-preserved : goal.loop-back-preserved
loop-back-preserved c =
    let l = c.loop-back in
    record {
      len = length-set l.words.items (c.args.last - l.back) 48 ∙ l.invariant.len;
      back = λ a b ds is ends.
          let inside = get_or_default l.words.items (c.args.last - l.back) 0 c.index-digit.result.now (omega (arith, c.loop-back-test.true, l.invariant.len, c.requires)) in
          nine_on a b ds l.words.items c.args.last l.back ends (l.invariant.back a b ds is ends) (inside ∙ (sym c.index-digit.ensures ∙ c.if-digit-ne57.false));
    }
