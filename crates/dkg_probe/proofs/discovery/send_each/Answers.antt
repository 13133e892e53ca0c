use Rattle.std.proofs.Common.{refl}
use Rattle.dkg_probe.proofs.Asking.{asked_front, on_err}
use Rattle.dkg_probe.proofs.discovery.send_each.Goals as goal

pub returns-in_err-bytes-clause-err : goal.returns-in_err-bytes-clause-err
returns-in_err-bytes-clause-err g c =
    on_err _ c.from_residual.result (asked_front c.args.out.now.entries c.loop-dealer.out.entries c.loop-dealer.out.entries c.args.dealers.now c.loop-dealer.dealer-index c.loop-dealer-test.true refl c.loop-dealer.invariant)

pub returns-in_err-send-clause-err : goal.returns-in_err-send-clause-err
returns-in_err-send-clause-err g c =
    on_err _ c.from_residual-in_err-send.result (asked_front c.args.out.now.entries c.send.new.out.entries c.loop-dealer.out.entries c.args.dealers.now c.loop-dealer.dealer-index c.loop-dealer-test.true c.in_err-send.ensures.err c.loop-dealer.invariant)
