use Rattle.std.proofs.lemmas.Result.{err_from_is_err_and}
use Rattle.dkg_probe.specs.Probing.{activates, tracked_of}
use Rattle.dkg_probe.proofs.Asking.{begin_stops, begin_tracks, tracks_all}
use Rattle.dkg_probe.proofs.Terms.{given}
use Rattle.dkg_probe.proofs.discovery.begin.Goals as goal

pub returns-in_err-activate-clause-acts : goal.returns-in_err-activate-clause-acts
returns-in_err-activate-clause-acts g c =
    let p = err_from_is_err_and c.from_residual.result c.from_residual.ensures.1 in
    rw (p.1, p.2) (begin_stops (given g.S.Scheme.verifies g.Dir.Spelled.spelling g.Dir.Read.read_of g.Dir.Directory.config_of g.Dir.Directory.matches_of c.args.terms.now) (g.M.Manager.lacks c.args.terms.now.bootstrap.directory (tracked_of c.args.terms.now.bootstrap.participants)) c.args.state.now c.args.state.now c.in_err-activate.field-0.0 c.args.out.now.entries c.in_err-activate.ensures.missing)

pub returns-in_err-ask_dealers-clause-tracked : goal.returns-in_err-ask_dealers-clause-tracked
returns-in_err-ask_dealers-clause-tracked g c = λ tells.
    let terms = given g.S.Scheme.verifies g.Dir.Spelled.spelling g.Dir.Read.read_of g.Dir.Directory.config_of g.Dir.Directory.matches_of c.args.terms.now in
    let lack = g.M.Manager.lacks c.args.terms.now.bootstrap.directory (tracked_of c.args.terms.now.bootstrap.participants) in
    tracks_all (activates terms lack c.args.state.now) c.from_residual-in_err-ask_dealers.result (g.M.Provider.sets c.args.manager.now) (g.M.Provider.sets c.activate.new.manager)
    (begin_tracks terms lack c.args.state.now (g.M.Provider.sets c.args.manager.now) (g.M.Provider.sets c.activate.new.manager) c.in_ok-activate.ensures.missing (c.in_ok-activate.ensures.ok tells))

pub returns-clause-tracked : goal.returns-clause-tracked
returns-clause-tracked g c = λ tells.
    begin_tracks (given g.S.Scheme.verifies g.Dir.Spelled.spelling g.Dir.Read.read_of g.Dir.Directory.config_of g.Dir.Directory.matches_of c.args.terms.now) (g.M.Manager.lacks c.args.terms.now.bootstrap.directory (tracked_of c.args.terms.now.bootstrap.participants)) c.args.state.now (g.M.Provider.sets c.args.manager.now) (g.M.Provider.sets c.activate.new.manager) c.in_ok-activate.ensures.missing (c.in_ok-activate.ensures.ok tells)
