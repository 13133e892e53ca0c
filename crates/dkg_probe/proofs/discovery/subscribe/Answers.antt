use Rattle.std.proofs.Common.{◌≡◌, ◌+◌, sym, ◌∙◌, rules}
use Rattle.dkg_probe.specs.Probing.{tracked_of}
use Rattle.dkg_probe.proofs.Asking.{subscribe_tracks}
use Rattle.dkg_probe.proofs.Terms.{given}
use Rattle.dkg_probe.proofs.discovery.subscribe.Goals as goal

pub returns-then-first-clause-tracked : goal.returns-then-first-clause-tracked
returns-then-first-clause-tracked g c = λ tells.
    let more : c.in-Some.subscribers ≡ c.args.state.now.subscribers + 1 = search rules in
    subscribe_tracks (given g.S.Scheme.verifies g.Dir.Spelled.spelling g.Dir.Read.read_of g.Dir.Directory.config_of g.Dir.Directory.matches_of c.args.terms.now) (g.M.Manager.lacks c.args.terms.now.bootstrap.directory (tracked_of c.args.terms.now.bootstrap.participants)) c.args.state.now c.in-Some.subscribers (g.M.Provider.sets c.args.manager.now) (g.M.Provider.sets c.begin.new.manager) c.begin.result
    (sym c.looks_no_more.ensures ∙ c.if-looks_no_more.false) (sym c.nobody_asked-first.ensures ∙ c.if-first.true) more (c.begin.ensures.tracked tells)
