use Rattle.std.proofs.Common.{arith}
use Rattle.std.proofs.lemmas.Result.{err_from_is_err_and}
use Rattle.dkg_values.specs.Lists.{keys_at}
use Rattle.dkg_values.proofs.KeysRead.{keys_goes_on, keys_ends, keys_refuses, keys_done}
use Rattle.dkg_values.specs.ListGrammar.{keys_ordered}
use Rattle.dkg_values.proofs.counted.read_keys.Goals as goal

pub returns-in_err-key-clause-exact : goal.returns-in_err-key-clause-exact
returns-in_err-key-clause-exact c =
    let p = err_from_is_err_and c.from_residual-in_err-key.result c.from_residual-in_err-key.ensures.1 in
    rw (p.1, p.2) (keys_ends c.in_err-key.field-0.0 c.loop.keys.items c.args.count c.loop.counter c.loop.least c.loop.input (keys_at c.args.count 0 c.args.input.now) c.loop-test.true c.in_err-key.ensures.exact c.loop.invariant)

pub returns-then-from-least-clause-exact : goal.returns-then-from-least-clause-exact
returns-then-from-least-clause-exact c = keys_refuses c.loop.keys.items c.args.count c.loop.counter c.loop.least c.loop.input c.in_ok-key.key c.read_be32.new.input (keys_at c.args.count 0 c.args.input.now) c.loop-test.true c.in_ok-key.ensures.exact (omega arith) c.loop.invariant

pub loop-preserved : goal.loop-preserved
loop-preserved c =
    rw (c.in_ok-push.ensures.items, c.from-least.ensures) (keys_goes_on c.loop.keys.items c.args.count c.loop.counter c.loop.least c.loop.input c.in_ok-key.key c.read_be32.new.input (keys_at c.args.count 0 c.args.input.now) c.loop-test.true c.in_ok-key.ensures.exact (omega (arith, c.from.ensures)) c.loop.invariant)

pub returns-clause-exact : goal.returns-clause-exact
returns-clause-exact c = keys_done c.loop.keys.items c.args.count c.loop.counter c.loop.least c.loop.input (keys_at c.args.count 0 c.args.input.now) c.loop-test.false c.loop.invariant

pub returns-clause-rising : goal.returns-clause-rising
returns-clause-rising c =
    let o = keys_ordered c.args.count 0 c.args.input.now c.loop.keys.items c.loop.input (returns-clause-exact c) in
    (o.count, o.rising)
