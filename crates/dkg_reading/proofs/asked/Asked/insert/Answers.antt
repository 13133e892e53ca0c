use Rattle.std.proofs.Common.{◌∙◌, ap, is_some, Option}
use Rattle.std.specs.Prelude.{⊤}
use Rattle.std.specs.Cmp.{nat_cmp_total}
use Rattle.std.specs.FinMap.{FinMap, get, get-insert}
use Rattle.std.specs.Ordering.{nat_cmp}
use Rattle.dkg_reading.proofs.Numbered.{added}
use Rattle.dkg_reading.proofs.asked.Asked.insert.Goals as goal

pub returns : goal.returns
returns c = λ request.
    ap (λ (m : FinMap nat_cmp ⊤). is_some (get m request)) c.in_ok-insert.ensures.done
    ∙ ap (λ (o : Option ⊤). is_some o) (get-insert nat_cmp_total _ c.args.number tt request)
    ∙ added c.args.number request _
