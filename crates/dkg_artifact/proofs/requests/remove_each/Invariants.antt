use Rattle.std.proofs.Common.{◌≡◌, filter}
use Rattle.std.specs.BTreeMap.{values}
use Rattle.std.specs.BTreeSet.{btree_set_len}
use Rattle.dkg_artifact.specs.Requested.{is_other}
use Rattle.dkg_artifact.specs.Ranks.{AreKnown}
use Rattle.dkg_artifact.proofs.requests.remove_each.Given as goal

abbrev pub invariant-loop-rank : goal.invariant-loop-rank
invariant-loop-rank g l = record {
  left : filter (is_other l.number) (values l.waiting) ≡ filter (is_other l.number) (values l.initial.waiting);
  known : AreKnown l.numbers l.waiting;
}

abbrev pub decreases-loop-rank : goal.decreases-loop-rank
decreases-loop-rank g l = btree_set_len l.numbers
