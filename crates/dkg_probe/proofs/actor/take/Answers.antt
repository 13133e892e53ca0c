use Rattle.dkg_probe.specs.Probing.{tracked_of}
use Rattle.dkg_probe.proofs.Saying.{peer_tracks, retry_tracks}
use Rattle.dkg_probe.proofs.Terms.{given}
use Rattle.dkg_probe.proofs.actor.take.Goals as goal

pub returns-in_ok-hear-in-Peer-clause-tracked : goal.returns-in_ok-hear-in-Peer-clause-tracked
returns-in_ok-hear-in-Peer-clause-tracked g c = λ tells n.
    peer_tracks (given g.S.Scheme.verifies g.Dir.Spelled.spelling g.Dir.Read.read_of g.Dir.Directory.config_of g.Dir.Directory.matches_of c.args.terms.now) (g.M.Manager.lacks c.args.terms.now.bootstrap.directory (tracked_of c.args.terms.now.bootstrap.participants)) (g.B.Blocks.source c.args.source.now) c.args.event c.in-Peer.from c.in-Peer.bytes c.args.state.now (g.M.Provider.sets c.args.manager.now) c.in-Peer.is n

pub returns-in_ok-retry-in-Retry-clause-tracked : goal.returns-in_ok-retry-in-Retry-clause-tracked
returns-in_ok-retry-in-Retry-clause-tracked g c = λ tells n.
    retry_tracks (given g.S.Scheme.verifies g.Dir.Spelled.spelling g.Dir.Read.read_of g.Dir.Directory.config_of g.Dir.Directory.matches_of c.args.terms.now) (g.M.Manager.lacks c.args.terms.now.bootstrap.directory (tracked_of c.args.terms.now.bootstrap.participants)) (g.B.Blocks.source c.args.source.now) c.args.event c.args.state.now (g.M.Provider.sets c.args.manager.now) c.in-Retry.is n
