use Rattle.std.proofs.Common.{sym, ap, ◌∙◌}
use Rattle.std.specs.FinMap as map
use Rattle.dkg_secrets.specs.Keys.{key_cmp}
use Rattle.dkg_secrets.proofs.Map.{view_entries, keys_total, exact_keys}
use Rattle.dkg_secrets.proofs.pair_map.PairMap.iter.Goals as goal

pub returns : goal.returns
returns g c =
    c.iter.ensures.rest
    ∙ sym (ap (λ (m : map.FinMap key_cmp g.row.V.Denot). map.entries m) (sym c.self.view_is) ∙ view_entries keys_total exact_keys c.self.inside.values.entries c.iter.ensures.ordered)
