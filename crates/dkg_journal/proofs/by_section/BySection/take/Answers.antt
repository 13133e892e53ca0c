use Rattle.std.proofs.Common.{ap, sym, ◌∙◌}
use Rattle.std.specs.FinMap as map
use Rattle.std.specs.Ordering.{nat_cmp}
use Rattle.std.specs.Cmp.{nat_cmp_total}
use Rattle.dkg_journal.proofs.Map.{view_remove, view_get}
use Rattle.dkg_journal.proofs.by_section.BySection.take.Goals as goal

pub returns-clause-value : goal.returns-clause-value
returns-clause-value g c = c.remove.ensures.value ∙ sym (view_get nat_cmp_total map.nat_cmp-IsAntisymmetric c.args.self.now c.self.inside.values.entries c.args.section c.self.view_is)

pub returns-clause-gone : goal.returns-clause-gone
returns-clause-gone g c =
    view_remove nat_cmp_total map.nat_cmp-IsAntisymmetric c.self.inside.values.entries c.remove.new.self.entries c.args.section c.remove.ensures.updates.0
    ∙ ap (λ (m : map.FinMap nat_cmp g.row.V.Denot). map.remove m c.args.section) c.self.view_is
