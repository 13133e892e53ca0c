use Rattle.std.proofs.Common.{ap, ◌∙◌}
use Rattle.dkg_reading.specs.Rows.{is_over_of}
use Rattle.dkg_reading.proofs.Split.{over}
use Rattle.dkg_reading.proofs.fields.Fields.is_over.Goals as goal

pub returns : goal.returns
returns c = over c.self.inside.rest c.is_none.result c.is_none.ensures ∙ ap is_over_of c.self.view_is
