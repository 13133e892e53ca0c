use Rattle.std.proofs.Common.{◌≡◌, drop, length}
use Rattle.dkg_script.specs.InForm.{are_events}
use Rattle.dkg_script.proofs.in_form.are_events.Given as goal

abbrev pub invariant-loop-i : goal.invariant-loop-i
invariant-loop-i l = are_events (length l.blocks) (drop l.i l.events) ≡ are_events (length l.blocks) l.events
