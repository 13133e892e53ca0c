use Rattle.std.proofs.Common.{length}
use Rattle.dkg_words.specs.Chain.{block_lines}
use Rattle.dkg_words.proofs.Chains.{chain_in_turn, found_with}
use Rattle.dkg_words.proofs.chain.pair_from.Goals as goal

pub returns-then-branch : goal.returns-then-branch
returns-then-branch c = chain_in_turn c.args.text.now (block_lines c.args.text.now (length c.args.text.now) c.args.place) (c.in_ok-are_in_turn.ensures c.if-branch.true)

pub returns : goal.returns
returns c =
    let text = c.args.text.now in
    found_with text (length text) c.args.place c.lives.result.now c.in_ok-blocks.blocks.items c.use_all.new.blocks.items c.deref.result.now c.deref-2.result.now c.in_ok-used.used.items
    c.deref-3.result.now c.pair_in.result c.in_ok-blocks.ensures c.lives.ensures c.use_all.ensures c.deref.ensures.value c.deref-2.ensures.value c.deref-3.ensures.value
    c.in_ok-used.ensures.permutation c.in_ok-used.ensures.rising c.pair_in.ensures
