use Rattle.std.proofs.Common.{◌≡◌, take}
use Rattle.dkg_words.specs.Chain.{used_of}
use Rattle.dkg_words.proofs.chain.kept.Given as goal

abbrev pub invariant-loop-block : goal.invariant-loop-block
invariant-loop-block l = l.kept.items ≡ used_of (take l.block-index l.blocks)
