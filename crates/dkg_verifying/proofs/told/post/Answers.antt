use Rattle.std.proofs.Common.{◌∙◌, ap, not}
use Rattle.dkg_verifying.proofs.Posted.{posted_kept}
use Rattle.dkg_verifying.proofs.told.post.Goals as goal

pub returns-else-is_none-clause-done : goal.returns-else-is_none-clause-done
returns-else-is_none-clause-done g c = posted_kept c.args.told.now c.args.request c.get.result c.get.ensures (c.is_none.ensures ∙ ap not c.if-is_none.false)
