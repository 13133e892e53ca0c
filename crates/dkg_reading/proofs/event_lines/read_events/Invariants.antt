use Rattle.std.proofs.Common.{◌≤◌, length}
use Rattle.dkg_reading.specs.Grammar.{is_eventful, event_line_at}
use Rattle.dkg_reading.specs.Lines.{many_lines_at}
use Rattle.dkg_reading.proofs.ReadOn.{IsLeft}
use Rattle.dkg_reading.specs.Asked.{AreAsked}
use Rattle.dkg_reading.proofs.event_lines.read_events.Given as goal

abbrev pub invariant-events : goal.invariant-events
invariant-events l = record {
  at : IsLeft (is_eventful) (event_line_at l.around.blocks l.around.probe) l.events l.lines.rest.now (many_lines_at (is_eventful) (event_line_at l.around.blocks l.around.probe) l.initial.lines.rest.now);
  asked : AreAsked l.events l.asked.numbers;
  on : length l.lines.rest.now ≤ length l.initial.lines.rest.now;
}

abbrev pub decreases-events : goal.decreases-events
decreases-events l = length l.lines.rest.now
