use Rattle.std.proofs.Common.{◌≡◌, take}
use Rattle.dkg_artifact.specs.Scans.{IsAwaiting}
use Rattle.dkg_artifact.specs.declared.scan.Fed.TheVariants.{Need}
use Rattle.dkg_verifying.specs.Scanned.{fed_all}
use Rattle.dkg_inclusion.proofs.scanning.feed_all.Given as goal

abbrev pub invariant-loop-block : goal.invariant-loop-block
invariant-loop-block g l = record {
  fed : fed_all g.C.Ceremony.check_log_of l.initial.scan l.initial.fed (take l.block-index l.block-items) ≡ (l.fed, l.scan);
  awaits : l.fed ≡ Need → IsAwaiting l.scan;
}
