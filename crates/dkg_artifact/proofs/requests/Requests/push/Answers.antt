use Rattle.std.proofs.Common.{◌∙◌, ◌++◌, ◌∷◌, [], List, ap, reverse}
use Rattle.std.specs.BTreeMap.{values}
use Rattle.std.specs.Map.{values_of}
use Rattle.dkg_artifact.specs.Requested.{WaitingRequest}
use Rattle.dkg_artifact.proofs.Waiting.{free_below, on_ok_as, reverse_cons, values_below}
use Rattle.dkg_artifact.proofs.requests.Requests.push.Goals as goal

pub put-requires-clause-free : goal.put-requires-clause-free
put-requires-clause-free g c = free_below c.self.inside.waiting.entries c.in_ok-rank.rank c.in_ok-rank.ensures

pub returns-clause-ok : goal.returns-clause-ok
returns-clause-ok g c = on_ok_as c.put.result (λ is.
    ap reverse (ap values_of is ∙ values_below c.self.inside.waiting.entries c.in_ok-rank.rank c.args.request c.in_ok-rank.ensures)
    ∙ reverse_cons c.args.request (values c.self.inside.waiting)
    ∙ ap (λ (l : List (WaitingRequest g.row.Dir.Denot)). l ++ c.args.request ∷ []) c.self.view_is) c.put.ensures.ok
