use Rattle.std.proofs.Common.{ap, sym, ◌∙◌}
use Rattle.std.specs.FinMap as map
use Rattle.dkg_secrets.specs.Keys.{key_cmp}
use Rattle.dkg_secrets.proofs.Map.{get_view, keys_total, exact_keys}
use Rattle.dkg_secrets.proofs.pair_map.PairMap.get_at.Goals as goal

pub returns : goal.returns
returns g c = c.get.ensures.value ∙ sym (ap (λ (m : map.FinMap key_cmp g.row.V.Denot). map.get m (c.args.epoch, c.args.dealer)) (sym c.self.view_is) ∙ get_view keys_total exact_keys c.self.inside.values.entries (c.args.epoch, c.args.dealer))
