use Rattle.std.proofs.Common.{Ok, Err}
use Rattle.dkg_probe.specs.Acts.{went}
use Rattle.dkg_probe.specs.Probing.{takes, tracked_of, probe_ended_by}
use Rattle.dkg_probe.proofs.Knowing.{told_is_known, none_is_told}
use Rattle.dkg_probe.proofs.Saying.{one_epoch_since}
use Rattle.dkg_probe.proofs.Served.{served_since}
use Rattle.dkg_probe.proofs.Soundness.{step_sound, step_keeps}
use Rattle.dkg_probe.proofs.Stepping.{goes_run, stops_run, step_tracks}
use Rattle.dkg_probe.proofs.Terms.{given}
use Rattle.dkg_probe.proofs.actor.Actor.step.Goals as goal

pub returns-in-Err-clause-acts : goal.returns-in-Err-clause-acts
returns-in-Err-clause-acts g c = λ there.
    let terms = given g.S.Scheme.verifies g.Dir.Spelled.spelling g.Dir.Read.read_of g.Dir.Directory.config_of g.Dir.Directory.matches_of c.args.self.now.terms in
    let lack = g.M.Manager.lacks c.args.self.now.terms.bootstrap.directory (tracked_of c.args.self.now.terms.bootstrap.participants) in
    stops_run (takes terms lack (g.B.Blocks.source c.args.source.now) c.args.event c.args.self.now.state) c.take.new.state c.take.new.state c.in-Err.stop c.args.out.now.entries c.take.new.out.entries c.in-Err.ensures.acts

pub returns-in-Err-clause-tracked : goal.returns-in-Err-clause-tracked
returns-in-Err-clause-tracked g c = λ tells there.
    let terms = given g.S.Scheme.verifies g.Dir.Spelled.spelling g.Dir.Read.read_of g.Dir.Directory.config_of g.Dir.Directory.matches_of c.args.self.now.terms in
    let lack = g.M.Manager.lacks c.args.self.now.terms.bootstrap.directory (tracked_of c.args.self.now.terms.bootstrap.participants) in
    step_tracks (takes terms lack (g.B.Blocks.source c.args.source.now) c.args.event c.args.self.now.state) (Err c.in-Err.stop) (g.M.Provider.sets c.args.self.now.manager) (g.M.Provider.sets c.take.new.manager) (c.in-Err.ensures.tracked tells)

pub returns-in-Err-clause-artifact : goal.returns-in-Err-clause-artifact
returns-in-Err-clause-artifact g c =
    let terms = given g.S.Scheme.verifies g.Dir.Spelled.spelling g.Dir.Read.read_of g.Dir.Directory.config_of g.Dir.Directory.matches_of c.args.self.now.terms in
    let lack = g.M.Manager.lacks c.args.self.now.terms.bootstrap.directory (tracked_of c.args.self.now.terms.bootstrap.participants) in
    none_is_told terms lack (g.B.Blocks.source c.args.source.now) c.args.event c.args.self.now.state c.take.new.state c.in-Err.stop c.take.new.state.known c.args.out.now.entries c.take.new.out.entries c.in-Err.ensures.acts

pub returns-in-Err-clause-one_epoch : goal.returns-in-Err-clause-one_epoch
returns-in-Err-clause-one_epoch g c = λ genesis.
    let terms = given g.S.Scheme.verifies g.Dir.Spelled.spelling g.Dir.Read.read_of g.Dir.Directory.config_of g.Dir.Directory.matches_of c.args.self.now.terms in
    let lack = g.M.Manager.lacks c.args.self.now.terms.bootstrap.directory (tracked_of c.args.self.now.terms.bootstrap.participants) in
    one_epoch_since terms lack (g.B.Blocks.source c.args.source.now) c.args.event c.args.self.now.state (probe_ended_by c.take.new.state (Err c.in-Err.stop)) c.args.out.now.entries c.take.new.out.entries genesis c.in-Err.ensures.acts

pub returns-in-Ok-clause-acts : goal.returns-in-Ok-clause-acts
returns-in-Ok-clause-acts g c = λ there.
    let terms = given g.S.Scheme.verifies g.Dir.Spelled.spelling g.Dir.Read.read_of g.Dir.Directory.config_of g.Dir.Directory.matches_of c.args.self.now.terms in
    let lack = g.M.Manager.lacks c.args.self.now.terms.bootstrap.directory (tracked_of c.args.self.now.terms.bootstrap.participants) in
    goes_run (takes terms lack (g.B.Blocks.source c.args.source.now) c.args.event c.args.self.now.state) c.take.new.state c.turn_to_service.new.state c.args.out.now.entries c.take.new.out.entries c.turn_to_service.ensures.serves c.in-Ok.ensures.acts

pub returns-in-Ok-clause-tracked : goal.returns-in-Ok-clause-tracked
returns-in-Ok-clause-tracked g c = λ tells there.
    let terms = given g.S.Scheme.verifies g.Dir.Spelled.spelling g.Dir.Read.read_of g.Dir.Directory.config_of g.Dir.Directory.matches_of c.args.self.now.terms in
    let lack = g.M.Manager.lacks c.args.self.now.terms.bootstrap.directory (tracked_of c.args.self.now.terms.bootstrap.participants) in
    step_tracks (takes terms lack (g.B.Blocks.source c.args.source.now) c.args.event c.args.self.now.state) (Ok tt) (g.M.Provider.sets c.args.self.now.manager) (g.M.Provider.sets c.take.new.manager) (c.in-Ok.ensures.tracked tells)

pub returns-in-Ok-clause-artifact : goal.returns-in-Ok-clause-artifact
returns-in-Ok-clause-artifact g c =
    let terms = given g.S.Scheme.verifies g.Dir.Spelled.spelling g.Dir.Read.read_of g.Dir.Directory.config_of g.Dir.Directory.matches_of c.args.self.now.terms in
    let lack = g.M.Manager.lacks c.args.self.now.terms.bootstrap.directory (tracked_of c.args.self.now.terms.bootstrap.participants) in
    told_is_known terms lack (g.B.Blocks.source c.args.source.now) c.args.event c.args.self.now.state c.take.new.state c.turn_to_service.new.state c.args.out.now.entries c.take.new.out.entries c.turn_to_service.ensures.serves c.in-Ok.ensures.acts

pub returns-in-Ok-clause-one_epoch : goal.returns-in-Ok-clause-one_epoch
returns-in-Ok-clause-one_epoch g c = λ genesis.
    let terms = given g.S.Scheme.verifies g.Dir.Spelled.spelling g.Dir.Read.read_of g.Dir.Directory.config_of g.Dir.Directory.matches_of c.args.self.now.terms in
    let lack = g.M.Manager.lacks c.args.self.now.terms.bootstrap.directory (tracked_of c.args.self.now.terms.bootstrap.participants) in
    one_epoch_since terms lack (g.B.Blocks.source c.args.source.now) c.args.event c.args.self.now.state (went c.take.new.state) c.args.out.now.entries c.take.new.out.entries genesis c.in-Ok.ensures.acts

pub returns-in-Ok-clause-sound : goal.returns-in-Ok-clause-sound
returns-in-Ok-clause-sound g c = λ sound.
    let terms = given g.S.Scheme.verifies g.Dir.Spelled.spelling g.Dir.Read.read_of g.Dir.Directory.config_of g.Dir.Directory.matches_of c.args.self.now.terms in
    let lack = g.M.Manager.lacks c.args.self.now.terms.bootstrap.directory (tracked_of c.args.self.now.terms.bootstrap.participants) in
    (step_sound terms lack (g.B.Blocks.source c.args.source.now) c.args.event c.args.self.now.state c.take.new.state c.turn_to_service.new.state c.args.out.now.entries c.take.new.out.entries sound c.turn_to_service.ensures.serves c.in-Ok.ensures.acts, step_keeps terms lack (g.B.Blocks.source c.args.source.now) c.args.event c.args.self.now.state c.take.new.state c.turn_to_service.new.state c.args.out.now.entries c.take.new.out.entries sound c.turn_to_service.ensures.serves c.in-Ok.ensures.acts)

pub returns-in-Ok-clause-held : goal.returns-in-Ok-clause-held
returns-in-Ok-clause-held g c = λ on.
    let terms = given g.S.Scheme.verifies g.Dir.Spelled.spelling g.Dir.Read.read_of g.Dir.Directory.config_of g.Dir.Directory.matches_of c.args.self.now.terms in
    let lack = g.M.Manager.lacks c.args.self.now.terms.bootstrap.directory (tracked_of c.args.self.now.terms.bootstrap.participants) in
    served_since terms (g.B.Blocks.source c.args.source.now) lack c.args.event c.args.self.now.state (went c.take.new.state) c.args.out.now.entries c.take.new.out.entries on c.in-Ok.ensures.acts

pub returns-in-Err-clause-held : goal.returns-in-Err-clause-held
returns-in-Err-clause-held g c = λ on.
    let terms = given g.S.Scheme.verifies g.Dir.Spelled.spelling g.Dir.Read.read_of g.Dir.Directory.config_of g.Dir.Directory.matches_of c.args.self.now.terms in
    let lack = g.M.Manager.lacks c.args.self.now.terms.bootstrap.directory (tracked_of c.args.self.now.terms.bootstrap.participants) in
    served_since terms (g.B.Blocks.source c.args.source.now) lack c.args.event c.args.self.now.state (probe_ended_by c.take.new.state (Err c.in-Err.stop)) c.args.out.now.entries c.take.new.out.entries on c.in-Err.ensures.acts
