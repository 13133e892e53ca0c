use Rattle.dkg_laws.proofs.RecordingLogs.{node_steps_record_logs as law}
use Rattle.dkg_laws.proofs.node_steps_record_logs.Goals as goal

pub returns : goal.returns
returns g c = law
