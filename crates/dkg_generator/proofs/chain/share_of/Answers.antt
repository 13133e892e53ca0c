use Rattle.std.proofs.Common.{sym, ◌∙◌}
use Rattle.dkg_generator.proofs.Deals.{has_share}
use Rattle.dkg_generator.proofs.chain.share_of.Goals as goal

pub unreachable-requires : goal.unreachable-requires
unreachable-requires c = has_share c.args.output.now c.args.key c.requires.holders c.requires.holder (sym c.partial_public.ensures ∙ c.in-None.is)
