use Rattle.std.proofs.Common.{refl, sym}
use Rattle.std.proofs.lemmas.Result.{err_from_is_err_and}
use Rattle.dkg_store.specs.Acts.{by_want}
use Rattle.dkg_life.proofs.Burning.{makes_none}
use Rattle.dkg_life.proofs.Kept.{moved_none}
use Rattle.dkg_node.proofs.Noding.{unsaid}
use Rattle.dkg_node.proofs.node.Node.hear.Goals as goal

pub returns-in_err-bytes-clause-ready : goal.returns-in_err-bytes-clause-ready
returns-in_err-bytes-clause-ready g c = let p = err_from_is_err_and c.from_residual.result c.from_residual.ensures.1 in rw p.1 tt

pub returns-in_err-bytes-clause-terms : goal.returns-in_err-bytes-clause-terms
returns-in_err-bytes-clause-terms g c = refl

pub returns-in_err-bytes-clause-of : goal.returns-in_err-bytes-clause-of
returns-in_err-bytes-clause-of g c = λ lived of. of

pub returns-in_err-bytes-clause-acts : goal.returns-in_err-bytes-clause-acts
returns-in_err-bytes-clause-acts g c = λ disk secrets lived number st of may view.
    let p = err_from_is_err_and c.from_residual.result c.from_residual.ensures.1 in
    rw (p.1, p.2) (makes_none _ _ _ _ by_want tt refl)

pub returns-in_err-bytes-clause-tells : goal.returns-in_err-bytes-clause-tells
returns-in_err-bytes-clause-tells g c = λ lived number st of may view.
    let p = err_from_is_err_and c.from_residual.result c.from_residual.ensures.1 in
    rw (p.1, p.2) (unsaid _ by_want c.args.out.now.entries)

pub returns-in_err-bytes-clause-moved : goal.returns-in_err-bytes-clause-moved
returns-in_err-bytes-clause-moved g c = moved_none g.D.Disk.tells g.D.Disk.made g.X.SecretStore.made g.D.Disk.faults g.X.SecretStore.faults g.met.D.Disk.made_none g.met.X.SecretStore.made_none c.args.devices.now

pub returns-in_err-bytes-clause-causes : goal.returns-in_err-bytes-clause-causes
returns-in_err-bytes-clause-causes g c = let p = err_from_is_err_and c.from_residual.result c.from_residual.ensures.1 in rw (p.1, p.2) tt

pub returns-in_err-bytes-clause-fit : goal.returns-in_err-bytes-clause-fit
returns-in_err-bytes-clause-fit g c = λ told fit. fit

pub send-requires-clause-mail : goal.send-requires-clause-mail
send-requires-clause-mail g c = tt

pub send-requires-clause-ready : goal.send-requires-clause-ready
send-requires-clause-ready g c = c.requires.ready

pub send-requires-clause-goes : goal.send-requires-clause-goes
send-requires-clause-goes g c = c.requires.goes

pub returns-clause-ready : goal.returns-clause-ready
returns-clause-ready g c = c.send.ensures.ready

pub returns-clause-terms : goal.returns-clause-terms
returns-clause-terms g c = c.send.ensures.terms

pub returns-clause-of : goal.returns-clause-of
returns-clause-of g c = c.send.ensures.of

pub returns-clause-acts : goal.returns-clause-acts
returns-clause-acts g c = rw (sym c.in_ok-bytes.ensures) c.send.ensures.acts

pub returns-clause-tells : goal.returns-clause-tells
returns-clause-tells g c = rw (sym c.in_ok-bytes.ensures) c.send.ensures.tells

pub returns-clause-moved : goal.returns-clause-moved
returns-clause-moved g c = c.send.ensures.moved

pub returns-clause-causes : goal.returns-clause-causes
returns-clause-causes g c = c.send.ensures.causes

pub returns-clause-fit : goal.returns-clause-fit
returns-clause-fit g c = c.send.ensures.fit
