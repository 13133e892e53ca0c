use Rattle.std.proofs.Common.{ℕ, nat_lt, List, sym, ap, ◌∙◌}
use Rattle.std.specs.Prelude.{filter}
use Rattle.std.specs.FinMap as map
use Rattle.std.specs.Cmp.{nat_cmp_total}
use Rattle.std.specs.Ordering.{nat_cmp}
use Rattle.dkg_secrets.proofs.Map.{view_entries}
use Rattle.dkg_secrets.proofs.Ranges.{filter_alike, number_below}
use Rattle.dkg_secrets.proofs.number_map.NumberMap.below.Goals as goal

pub returns : goal.returns
returns g c =
    c.range.ensures.between tt
    ∙ filter_alike _ _ (λ e. number_below c.args.min e.0) c.self.inside.values.entries
    ∙ ap (λ (es : List (ℕ × g.row.V.Denot)). filter (λ e. nat_lt e.0 c.args.min) es)
    (sym (ap (λ (m : map.FinMap nat_cmp g.row.V.Denot). map.entries m) (sym c.self.view_is) ∙ view_entries nat_cmp_total map.nat_cmp-IsAntisymmetric c.self.inside.values.entries c.range.ensures.ordered))
