use Rattle.std.proofs.lemmas.Slice.Eq.{bytes_eq-Decides}
use Rattle.dkg_ceremony.specs.FinishLaws.{same_tests}
use Rattle.dkg_ceremony.proofs.finish.is_same.Goals as goal

pub returns : goal.returns
returns c = same_tests _ _ _ c.same.ensures (bytes_eq-Decides c.args.one.now c.args.other.now)
