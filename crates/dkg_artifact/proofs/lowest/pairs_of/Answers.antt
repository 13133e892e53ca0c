use Rattle.std.proofs.lemmas.Map.Keys.{IsStrictlyIncreasing-from_sorted}
use Rattle.dkg_values.specs.Rising.{keys_of}
use Rattle.dkg_artifact.proofs.lowest.pairs_of.Goals as goal

pub returns-clause-rising : goal.returns-clause-rising
returns-clause-rising c = IsStrictlyIncreasing-from_sorted (keys_of c.args.logs.entries) c.into_iter-dealer-iterator.ensures.into_iter_gives.5
