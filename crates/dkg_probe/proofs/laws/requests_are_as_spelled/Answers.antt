use Rattle.dkg_probe.proofs.Rereading.{are_requests}
use Rattle.dkg_probe.proofs.laws.requests_are_as_spelled.Goals as goal

pub returns : goal.returns
returns c = are_requests
