use Rattle.std.proofs.Common.{[], ◌∷◌, ◌++◌, ◌+◌, decimal}
use Rattle.std.specs.Prelude.{codes}
use Rattle.dkg_words.proofs.Fronts.{both_counted, second_ends, second_words}
use Rattle.dkg_words.proofs.chain.are_counted_on.Goals as goal

pub returns : goal.returns
returns c = λ h p height parent are yes.
    let first = c.is_counted_on.ensures.counted (codes "block") (32 ∷ (decimal p ++ 32 ∷ [])) h height are.words_are are.height_ends c.if-not-is_counted_on.false in
    let words = second_words h p c.is_counted_on.new.words.items first.words_are in
    let ends = second_ends h p c.args.parent_end first.digits are.parent_ends in
    let second = c.is_counted_on-2.ensures.counted (codes "block " ++ decimal (h + 1)) (32 ∷ []) p parent words ends yes in
    both_counted h p c.args.words.now.items c.is_counted_on.new.words.items c.is_counted_on-2.new.words.items c.args.height_end c.args.parent_end are first second
