-- The blocks so far, and those of the lines that are left, are all; and so are the lines whose payloads are known to be bytes.
use Rattle.std.proofs.Common.{◌≡◌, [], drop, fold}
use Rattle.dkg_lives.specs.Given.{AreBytes, with_block}
use Rattle.dkg_around.proofs.blocks.blocks_of.Given as goal

abbrev pub invariant-loop-line : goal.invariant-loop-line
invariant-loop-line l = record {
  blocks : fold (with_block l.fn.script.config) l.blocks.items (drop l.line-index l.fn.script.blocks) ≡ fold (with_block l.fn.script.config) [] l.fn.script.blocks;
  bytes : AreBytes (drop l.line-index l.fn.script.blocks) → AreBytes l.fn.script.blocks;
}
