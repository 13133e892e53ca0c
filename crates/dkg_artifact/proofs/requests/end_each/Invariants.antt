use Rattle.std.proofs.Common.{◌≡◌, map}
use Rattle.std.specs.BTreeMap.{values}
use Rattle.dkg_artifact.specs.Requested.{ended_for}
use Rattle.dkg_artifact.specs.Ranks.{AreKnown}
use Rattle.dkg_artifact.proofs.Waiting.{changed_from, to_go}
use Rattle.dkg_artifact.proofs.requests.end_each.Given as goal

abbrev pub invariant-loop-next : goal.invariant-loop-next
invariant-loop-next g l = record {
  left : changed_from l.next (ended_for l.number) l.waiting.entries ≡ map (ended_for l.number) (values l.initial.waiting);
  known : AreKnown l.numbers l.waiting;
}

abbrev pub decreases-loop-next : goal.decreases-loop-next
decreases-loop-next g l = to_go l.next
