use Rattle.std.proofs.Common.{◌≡◌, None, length}
use Rattle.dkg_fence.specs.Readiness.{Readiness}
use Rattle.dkg_life.specs.declared.life.Life.{Life}
use Rattle.dkg_verifying.specs.InclusionOf.{IsSeen}
use Rattle.dkg_life.specs.LiveOf.{Beside}
use Rattle.dkg_blocks.proofs.Answering.{IsLeft}
use Rattle.dkg_blocks.proofs.final_block.answer_all.Given as goal

abbrev pub invariant-loop-request : goal.invariant-loop-request
invariant-loop-request g l = record {
  hand : l.inclusion.hand ≡ None;
  left : (beside : Beside g.row.Dir.Denot) (fence : Readiness) (life : Life g.row.Dir.Denot) → IsSeen l.initial.inclusion beside.inclusion → IsLeft beside fence life l.inclusion l.initial.out.entries l.out.entries;
}

abbrev pub decreases-loop-request : goal.decreases-loop-request
decreases-loop-request g l = length l.inclusion.requests
