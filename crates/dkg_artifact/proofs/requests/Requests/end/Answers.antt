use Rattle.std.proofs.Common.{◌∙◌, List, ap, map, reverse}
use Rattle.std.specs.BTreeMap.{values}
use Rattle.dkg_artifact.specs.Requested.{WaitingRequest, ended_for}
use Rattle.dkg_artifact.proofs.Waiting.{reverse_map}
use Rattle.dkg_artifact.proofs.requests.Requests.end.Goals as goal

pub returns : goal.returns
returns g c =
    ap reverse c.end_each.ensures.values
    ∙ reverse_map (ended_for c.args.number) (values c.self.inside.waiting)
    ∙ ap (λ (l : List (WaitingRequest g.row.Dir.Denot)). map (ended_for c.args.number) l) c.self.view_is
