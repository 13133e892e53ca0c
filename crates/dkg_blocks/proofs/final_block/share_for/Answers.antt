use Rattle.dkg_verifying.specs.InclusionOf.{artifact_of}
use Rattle.dkg_blocks.proofs.Alike.{none_derived}
use Rattle.dkg_blocks.proofs.final_block.share_for.Goals as goal

pub returns-in_default : goal.returns-in_default
returns-in_default g c = λ fixed spells. none_derived fixed c.args.info.now (artifact_of c.args.artifact.now) c.in_default.is
