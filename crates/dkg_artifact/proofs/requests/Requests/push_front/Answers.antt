use Rattle.std.proofs.Common.{◌∙◌, ◌∷◌, [], List, ap, reverse}
use Rattle.std.specs.BTreeMap.{values}
use Rattle.std.specs.Map.{values_of}
use Rattle.std.proofs.lemmas.List.{reverse-append}
use Rattle.dkg_artifact.specs.Requested.{WaitingRequest}
use Rattle.dkg_artifact.proofs.Waiting.{free_above, on_ok_as, values_above}
use Rattle.dkg_artifact.proofs.requests.Requests.push_front.Goals as goal

pub put-requires-clause-free : goal.put-requires-clause-free
put-requires-clause-free g c = free_above c.self.inside.waiting.entries c.in_ok-rank.rank c.in_ok-rank.ensures

pub returns-clause-ok : goal.returns-clause-ok
returns-clause-ok g c = on_ok_as c.put.result (λ is.
    ap reverse (ap values_of is ∙ values_above c.self.inside.waiting.entries c.in_ok-rank.rank c.args.request c.in_ok-rank.ensures)
    ∙ reverse-append (values c.self.inside.waiting) (c.args.request ∷ [])
    ∙ ap (λ (l : List (WaitingRequest g.row.Dir.Denot)). c.args.request ∷ l) c.self.view_is) c.put.ensures.ok
