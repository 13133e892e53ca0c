use Rattle.std.proofs.Common.{refl}
use Rattle.dkg_ceremony.specs.Outcomes.{output_with}
use Rattle.dkg_ceremony.specs.OutcomeLaws.{output_made}
use Rattle.dkg_ceremony.proofs.combine.output_of.Goals as goal

pub returns : goal.returns
unfolding output_with
returns c = output_made c.args.round.now c.args.poly c.args.revealed _ c.summarize.ensures (let total = c.len.ensures in let parts = c.parts-2.ensures in cc) (let copied = c.in_ok-copy.ensures in let parts = c.parts-3.ensures in cc) (let copied = c.in_ok-copy-2.ensures in let parts = c.parts-4.ensures in cc) refl
