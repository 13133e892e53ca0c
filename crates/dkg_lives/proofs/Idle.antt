-- What is asked of a node beside its peers' messages and blocks touches no device, and brings nothing that is recorded.
use Rattle.std.proofs.Common.{◌≡◌}
use Rattle.dkg_infos.specs.declared.fault.Fault.{Fault}
use Rattle.dkg_infos.specs.declared.directory.Unit as directory
use Rattle.dkg_store.specs.Acts.{Ended, World, broken, stopped, went}
use Rattle.dkg_core.specs.Agreeing.{BringsRecords}
use Rattle.dkg_core.specs.Behind.{event_of}
use Rattle.dkg_core.specs.Courses.{EndsSo, Goes}
use Rattle.dkg_core.specs.Fixed.{Fixed}
use Rattle.dkg_core.specs.Laws.{IsOther}
use Rattle.dkg_core.specs.Live.{Cancel, EpochInfoOf, Feed, Live, Mail, NextLog, NodeStop, Over, Peer, ReleaseLog, Mailed, Work}
use Rattle.dkg_core.specs.Node.{node_step}
use Rattle.dkg_laws.specs.NodeThrough.{IsActiveThrough}
use Rattle.dkg_laws.proofs.Idle.{mails_are_idle}

module _ (c : Fixed directory.Unit) (mail : Mail directory.Unit) (other : IsOther {Dir = directory.Unit} (Mailed mail)) where
  pub idle_held : (st : Live directory.Unit) (ended : Ended NodeStop (Live directory.Unit)) (w new : World) → IsActiveThrough st → EndsSo (node_step c (event_of (Mailed mail)) st) ended w new → new.held ≡ w.held
  idle_held st ended w new active run = (mails_are_idle c mail st ended w new other active.active.unawaited run).held

pub idle_brings : (c : Fixed directory.Unit) (mail : Mail directory.Unit) → IsOther {Dir = directory.Unit} (Mailed mail) → BringsRecords c (Mailed mail)
idle_brings c (Peer from bytes) other = absurd other
idle_brings c (NextLog request height) other = tt
idle_brings c (ReleaseLog height) other = tt
idle_brings c (EpochInfoOf request) other = tt
idle_brings c (Feed request block) other = tt
idle_brings c (Over request) other = tt
idle_brings c (Cancel request) other = tt
idle_brings c (Work handed) other = tt

-- a course that does nothing
pub goes_nothing : (st : Live directory.Unit) (ended : Ended Fault (Live directory.Unit)) (w new : World) → EndsSo {Dir = directory.Unit} {F = Fault} (Goes st) ended w new → new ≡ w
goes_nothing st (went end) w new run = run.0
goes_nothing st (stopped its) w new run = absurd run
goes_nothing st (broken cause) w new run = run.1
