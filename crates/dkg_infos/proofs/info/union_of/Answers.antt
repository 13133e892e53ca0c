use Rattle.dkg_infos.proofs.Unions.{copied}
use Rattle.dkg_infos.proofs.info.union_of.Goals as goal

pub returns-then-same : goal.returns-then-same
returns-then-same c = copied c.args.one.now c.args.other.now c.copy.result c.as_slice-keys.ensures.kept.rising (c.same.ensures.0 c.if-same.true) c.copy.ensures
