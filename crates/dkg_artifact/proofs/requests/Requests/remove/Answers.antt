use Rattle.std.proofs.Common.{◌∙◌, List, ap, filter, reverse}
use Rattle.std.specs.BTreeMap.{values}
use Rattle.dkg_artifact.specs.Requested.{WaitingRequest, is_other}
use Rattle.dkg_artifact.proofs.Waiting.{reverse_filter}
use Rattle.dkg_artifact.proofs.requests.Requests.remove.Goals as goal

pub returns : goal.returns
returns g c =
    ap reverse c.remove_each.ensures.values
    ∙ reverse_filter (is_other c.args.number) (values c.self.inside.waiting)
    ∙ ap (λ (l : List (WaitingRequest g.row.Dir.Denot)). filter (is_other c.args.number) l) c.self.view_is
