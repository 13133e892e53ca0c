use Rattle.std.proofs.Common.{ℕ, nat_lt, List, sym, ap, ◌∙◌}
use Rattle.std.specs.Prelude.{filter}
use Rattle.std.specs.FinMap as map
use Rattle.dkg_secrets.specs.Keys.{key_cmp}
use Rattle.dkg_secrets.proofs.Map.{view_entries, keys_total, exact_keys}
use Rattle.dkg_secrets.proofs.Ranges.{filter_alike, pair_below}
use Rattle.dkg_secrets.proofs.pair_map.PairMap.below.Goals as goal

pub returns : goal.returns
returns g c =
    c.range.ensures.between tt
    ∙ filter_alike _ _ (λ e. pair_below c.args.min e.0) c.self.inside.values.entries
    ∙ ap (λ (es : List ((ℕ × ℕ) × g.row.V.Denot)). filter (λ e. nat_lt e.0.0 c.args.min) es)
    (sym (ap (λ (m : map.FinMap key_cmp g.row.V.Denot). map.entries m) (sym c.self.view_is) ∙ view_entries keys_total exact_keys c.self.inside.values.entries c.range.ensures.ordered))
