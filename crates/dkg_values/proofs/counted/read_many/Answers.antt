use Rattle.std.proofs.Common.{arith}
use Rattle.std.proofs.lemmas.Grind.{common_steps}
use Rattle.std.proofs.lemmas.Result.{err_from_is_err_and}
use Rattle.dkg_values.specs.Codec.{many_at}
use Rattle.dkg_values.specs.Grammar.{many_goes_on, many_ends, many_done}
use Rattle.dkg_values.proofs.counted.read_many.Goals as goal

pub returns-in_err-one-clause-exact : goal.returns-in_err-one-clause-exact
returns-in_err-one-clause-exact g c =
    let p = err_from_is_err_and c.from_residual-in_err-one.result c.from_residual-in_err-one.ensures.1 in
    let read = g.T.Read.read_of c.args.cfg.now in
    rw (p.1, p.2) (many_ends read c.in_err-one.field-0.0 c.loop.made.items c.args.count c.loop.counter c.loop.input (many_at read c.args.count c.args.input.now) c.loop-test.true c.in_err-one.ensures c.loop.invariant.read)

pub loop-preserved : goal.loop-preserved
loop-preserved g c =
    let read = g.T.Read.read_of c.args.cfg.now in
    record { made = grind (arith, common_steps); read = rw c.in_ok-push.ensures.items (many_goes_on read c.loop.made.items c.args.count c.loop.counter c.loop.input c.in_ok-one.one c.read_cfg.new.input (many_at read c.args.count c.args.input.now) c.loop-test.true c.in_ok-one.ensures c.loop.invariant.read) }

pub returns-clause-exact : goal.returns-clause-exact
returns-clause-exact g c =
    let read = g.T.Read.read_of c.args.cfg.now in
    many_done read c.loop.made.items c.args.count c.loop.counter c.loop.input (many_at read c.args.count c.args.input.now) c.loop-test.false c.loop.invariant.read
