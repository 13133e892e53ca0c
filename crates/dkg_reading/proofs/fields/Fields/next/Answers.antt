use Rattle.std.proofs.Common.{sym, ap, ◌∙◌}
use Rattle.dkg_reading.specs.Rows.{fields_left}
use Rattle.dkg_reading.proofs.Split.{at_space, no_space}
use Rattle.dkg_reading.proofs.fields.Fields.next.Goals as goal

pub returns-in-Some : goal.returns-in-Some
returns-in-Some c = sym c.self.view_is ∙ (ap fields_left c.in_ok-text.was ∙ at_space c.in_ok-text.text.now c.in-Some.field.now c.in-Some.rest.now c.in-Some.ensures.value)

pub returns-in-None : goal.returns-in-None
returns-in-None c = sym c.self.view_is ∙ (ap fields_left c.in_ok-text.was ∙ no_space c.in_ok-text.text.now c.in-None.ensures.value)
