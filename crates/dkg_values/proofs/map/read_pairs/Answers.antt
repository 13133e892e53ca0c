use Rattle.std.proofs.Common.{arith}
use Rattle.std.proofs.lemmas.Grind.{common_steps}
use Rattle.std.proofs.lemmas.Result.{err_from_is_err_and}
use Rattle.dkg_values.specs.Lists.{pairs_at}
use Rattle.dkg_values.proofs.PairsRead.{pairs_goes_on, pairs_ends, pairs_done}
use Rattle.dkg_values.proofs.map.read_pairs.Goals as goal

pub returns-in_err-value-clause-exact : goal.returns-in_err-value-clause-exact
returns-in_err-value-clause-exact g c =
    let p = err_from_is_err_and c.from_residual.result c.from_residual.ensures.1 in
    let read = g.V.Read.read_of c.args.cfg.now in
    rw (p.1, p.2) (pairs_ends read c.in_err-value.field-0.0 c.loop-key.pairs.items c.args.keys.now c.loop-key.key-index c.key-item.result c.loop-key.input (pairs_at read c.args.keys.now c.args.input.now) c.loop-key-test.true c.key-item.is c.in_err-value.ensures c.loop-key.invariant.read)

pub loop-key-preserved : goal.loop-key-preserved
loop-key-preserved g c =
    let read = g.V.Read.read_of c.args.cfg.now in
    record {
      read = rw c.in_ok-push.ensures.items (pairs_goes_on read c.loop-key.pairs.items c.args.keys.now c.loop-key.key-index c.key-item.result c.loop-key.input c.in_ok-value.value c.read_cfg.new.input (pairs_at read c.args.keys.now c.args.input.now) c.loop-key-test.true c.key-item.is c.in_ok-value.ensures c.loop-key.invariant.read);
      made = grind (arith, common_steps);
    }

pub returns-clause-exact : goal.returns-clause-exact
returns-clause-exact g c =
    let read = g.V.Read.read_of c.args.cfg.now in
    pairs_done read c.loop-key.pairs.items c.args.keys.now c.loop-key.key-index c.loop-key.input (pairs_at read c.args.keys.now c.args.input.now) c.loop-key-test.false c.loop-key.invariant.read
