use Rattle.std.proofs.Common.{◌≡◌, map}
use Rattle.std.specs.BTreeMap.{values}
use Rattle.dkg_artifact.specs.Requested.{fed_for}
use Rattle.dkg_artifact.specs.Ranks.{AreKnown}
use Rattle.dkg_artifact.proofs.Waiting.{changed_from, to_go}
use Rattle.dkg_artifact.proofs.requests.feed_each.Given as goal

abbrev pub invariant-loop-next : goal.invariant-loop-next
invariant-loop-next g l = record {
  left : changed_from l.next (fed_for l.number l.block) l.waiting.entries ≡ map (fed_for l.number l.block) (values l.initial.waiting);
  known : AreKnown l.numbers l.waiting;
  same : map (λ r. r.number) (values l.waiting) ≡ map (λ r. r.number) (values l.initial.waiting);
}

abbrev pub decreases-loop-next : goal.decreases-loop-next
decreases-loop-next g l = to_go l.next
