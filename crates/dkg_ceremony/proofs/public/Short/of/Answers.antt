use Rattle.dkg_ceremony.specs.ShortRows.{six}
use Rattle.dkg_ceremony.proofs.public.Short.of.Goals as goal

pub returns : goal.returns
returns c = cc (six c.args.elements.now c.requires)
