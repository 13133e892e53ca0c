use Rattle.std.proofs.Common.{sym, ap, ◌∙◌}
use Rattle.std.specs.FinMap as map
use Rattle.std.specs.Ordering.{nat_cmp}
use Rattle.std.specs.Cmp.{nat_cmp_total}
use Rattle.dkg_journal.proofs.Map.{view_entries}
use Rattle.dkg_journal.proofs.by_section.BySection.iter.Goals as goal

pub returns : goal.returns
returns g c =
    c.iter.ensures.rest
    ∙ sym (ap (λ (m : map.FinMap nat_cmp g.row.V.Denot). map.entries m) (sym c.self.view_is) ∙ view_entries nat_cmp_total map.nat_cmp-IsAntisymmetric c.self.inside.values.entries c.iter.ensures.ordered)
