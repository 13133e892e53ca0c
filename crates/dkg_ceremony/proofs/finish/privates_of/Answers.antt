use Rattle.std.proofs.Common.{◌∙◌, sym}
use Rattle.dkg_ceremony.specs.Finishes.{private_in}
use Rattle.dkg_ceremony.specs.FinishLaws.{missing_here, known_here, known_more}
use Rattle.dkg_ceremony.proofs.finish.privates_of.Goals as goal

pub returns-in-None-clause-missing : goal.returns-in-None-clause-missing
returns-in-None-clause-missing c =
    sym c.loop-dealer.invariant.known
    ∙ missing_here (private_in c.args.players.now c.args.me c.args.dealings.now c.args.logs.now) c.args.selected.now c.loop-dealer.dealer-index c.dealer-item.result c.loop-dealer-test.true c.dealer-item.is (sym c.in-None.ensures)

pub loop-dealer-preserved : goal.loop-dealer-preserved
loop-dealer-preserved c =
    let private = private_in c.args.players.now c.args.me c.args.dealings.now c.args.logs.now in
    let known = known_here private c.args.selected.now c.loop-dealer.dealer-index c.dealer-item.result c.in-Some.private c.loop-dealer-test.true c.dealer-item.is (sym c.in-Some.ensures) in
    let more = known_more private c.args.selected.now c.loop-dealer.dealer-index c.dealer-item.result c.in-Some.private c.loop-dealer-test.true c.dealer-item.is (sym c.in-Some.ensures) in
    record {
      known = sym known ∙ c.loop-dealer.invariant.known;
      is = cc (more, c.in_ok-push-in-Some.ensures.items, c.loop-dealer.invariant.is);
    }
