use Rattle.std.proofs.Common.{ap}
use Rattle.dkg_artifact.specs.Requested.{WaitingRequest}
use Rattle.dkg_artifact.proofs.Waiting.{known_put, known_undone}
use Rattle.dkg_artifact.proofs.requests.put.Goals as goal

pub returns-in-Ok-clause-known : goal.returns-in-Ok-clause-known
returns-in-Ok-clause-known g c =
    known_put c.args.numbers.now c.args.waiting.now c.requires.known c.insert.new.self c.insert-2.new.self c.request.inside.number c.args.rank c.args.request
    (ap (λ (r : WaitingRequest g.row.Dir.Denot). r.number) c.request.view_is) c.requires.free c.in_ok-insert.ensures.updates.0 c.in-Ok.ensures.updates.0 c.insert-2.ensures.ordered

pub returns-clause-known : goal.returns-clause-known
returns-clause-known g c =
    known_undone c.args.numbers.now c.args.waiting.now c.requires.known c.insert.new.self c.remove.new.self c.insert-2.new.self c.request.inside.number c.args.rank c.requires.free
    c.in_ok-insert.ensures.updates.0 c.remove.ensures.updates.0 c.in-Err.ensures.err
