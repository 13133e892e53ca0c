use Rattle.std.proofs.Common.{ap, ◌∙◌}
use Rattle.std.specs.FinMap as map
use Rattle.dkg_secrets.specs.Keys.{key_cmp}
use Rattle.dkg_secrets.proofs.Map.{view_remove, keys_total, exact_keys}
use Rattle.dkg_secrets.proofs.pair_map.PairMap.remove_at.Goals as goal

pub returns : goal.returns
returns g c =
    view_remove keys_total exact_keys c.self.inside.values.entries c.remove.new.self.entries (c.args.epoch, c.args.dealer) c.remove.ensures.updates.0
    ∙ ap (λ (m : map.FinMap key_cmp g.row.V.Denot). map.remove m (c.args.epoch, c.args.dealer)) c.self.view_is
