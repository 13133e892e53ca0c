use Rattle.dkg_text.specs.Writing.{event_line}
use Rattle.dkg_text.proofs.Kept.{text_more}
use Rattle.dkg_text.proofs.write.put_events.Goals as goal

pub loop-i-preserved : goal.loop-i-preserved
loop-i-preserved c =
    text_more event_line c.args.text.now c.loop-i.text c.put_event_line.new.text c.args.events.now c.loop-i.i c.at.result c.at.ensures c.loop-i.invariant c.in_ok-put_event_line.ensures
