use Rattle.dkg_text.proofs.Hex.{written_more}
use Rattle.dkg_text.proofs.text.put_digits.Goals as goal

pub loop-byte-preserved : goal.loop-byte-preserved
loop-byte-preserved c =
    written_more c.args.written.now.items c.args.bytes.now c.loop-byte.written.items _ c.loop-byte.byte-index c.loop-byte-test.true c.loop-byte.invariant c.in_ok-put_pair.ensures
