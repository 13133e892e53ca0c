use Rattle.dkg_ceremony.specs.OutputGrammar.{output_read}
use Rattle.dkg_ceremony.proofs.output.OutputRead.read_cfg.Goals as goal

pub returns : goal.returns
returns c =
    output_read c.args.cfg.now.0 c.args.cfg.now.1.0 c.args.input.now c.read_cfg.new.input c.read_cfg-2.new.input c.read_cfg-3.new.input c.read_cfg-4.new.input c.read_cfg-5.new.input c.in_ok-summary.summary c.in_ok-sharing.sharing
    c.in_ok-dealers.dealers c.in_ok-players.players c.in_ok-revealed.revealed c.in_ok-summary.ensures.exact c.in_ok-sharing.ensures c.in_ok-dealers.ensures c.in_ok-players.ensures c.in_ok-revealed.ensures _
