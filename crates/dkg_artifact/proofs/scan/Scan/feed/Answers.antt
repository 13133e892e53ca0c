use Rattle.dkg_artifact.proofs.Standing.{says_of_path}
use Rattle.dkg_artifact.proofs.scan.Scan.feed.Goals as goal

pub returns-clause-says : goal.returns-clause-says
returns-clause-says g c = says_of_path g.C.Ceremony.check_log_of c.args.self.now c.args.block.now c.answer.result c.answer.new.self c.answer.ensures.ok
