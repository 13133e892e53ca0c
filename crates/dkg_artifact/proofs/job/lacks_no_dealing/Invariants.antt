use Rattle.std.proofs.Common.{◌≡◌, false, take}
use Rattle.std.specs.List.{AllByRecursion}
use Rattle.dkg_artifact.specs.Lacking.{lacks}
use Rattle.dkg_artifact.proofs.job.lacks_no_dealing.Given as goal

abbrev pub invariant-loop-dealer : goal.invariant-loop-dealer
invariant-loop-dealer g l =
    AllByRecursion (λ p. lacks g.C.Ceremony.bears_ack_of l.round l.player.me l.player.dealings p.0 p.1 ≡ false) (take l.dealer-index l.dealer-items)
