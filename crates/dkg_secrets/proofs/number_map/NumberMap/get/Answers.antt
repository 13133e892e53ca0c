use Rattle.std.proofs.Common.{ap, sym, ◌∙◌}
use Rattle.std.specs.FinMap as map
use Rattle.std.specs.Ordering.{nat_cmp}
use Rattle.std.specs.Cmp.{nat_cmp_total}
use Rattle.dkg_secrets.proofs.Map.{get_view}
use Rattle.dkg_secrets.proofs.number_map.NumberMap.get.Goals as goal

pub returns : goal.returns
returns g c = c.get.ensures.value ∙ sym (ap (λ (m : map.FinMap nat_cmp g.row.V.Denot). map.get m c.args.key) (sym c.self.view_is) ∙ get_view nat_cmp_total map.nat_cmp-IsAntisymmetric c.self.inside.values.entries c.args.key)
