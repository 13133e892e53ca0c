use Rattle.dkg_probe.proofs.Rereading.{are_replies}
use Rattle.dkg_probe.proofs.laws.responses_are_as_spelled.Goals as goal

pub returns : goal.returns
returns c = are_replies
