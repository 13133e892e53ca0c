use Rattle.std.proofs.Common.{◌∙◌, ◌==◌, ap, sym}
use Rattle.dkg_artifact.specs.Requested.{WaitingRequest}
use Rattle.dkg_artifact.specs.Ranks.{is_of}
use Rattle.dkg_artifact.proofs.Waiting.{known_taken, same_self}
use Rattle.dkg_artifact.proofs.requests.Requests.pop.Goals as goal

pub invariant_of-self-2 : goal.invariant_of-self-2
invariant_of-self-2 g c =
    let number = c.request.inside.number in
    let of_number = ap (is_of number) c.in_ok-rank.ensures.value ∙ ap (λ (r : WaitingRequest g.row.Dir.Denot). r.number == number) (sym c.request.view_is) ∙ same_self number in
    known_taken c.self.inside.numbers c.self.inside.waiting c.self.invariant c.remove.new.self c.pop_last.new.self number c.in_ok-rank.rank of_number c.remove.ensures.updates.0
    c.in_ok-rank.ensures.updates.0 c.pop_last.ensures.ordered
