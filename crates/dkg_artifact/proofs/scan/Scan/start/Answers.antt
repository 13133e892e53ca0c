use Rattle.std.proofs.Common.{refl}
use Rattle.dkg_artifact.proofs.Standing.{begun}
use Rattle.dkg_artifact.proofs.scan.Scan.start.Goals as goal

pub returns-clause-begins : goal.returns-clause-begins
returns-clause-begins g c = begun g.C.Ceremony.check_log_of c.args.round.now c.args.bounds c.args.tip _ c.in_ok-copy.ensures refl c.lowest_height-down_to.ensures c.digest_below.ensures c.first_of.ensures c.new.ensures
