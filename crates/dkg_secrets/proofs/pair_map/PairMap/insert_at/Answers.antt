use Rattle.std.proofs.Common.{ap, ◌∙◌}
use Rattle.std.specs.FinMap as map
use Rattle.dkg_secrets.specs.Keys.{key_cmp}
use Rattle.dkg_secrets.proofs.Map.{view_insert, keys_total, exact_keys}
use Rattle.dkg_secrets.proofs.pair_map.PairMap.insert_at.Goals as goal

pub returns-clause-done : goal.returns-clause-done
returns-clause-done g c =
    view_insert keys_total exact_keys c.self.inside.values.entries c.insert.new.self.entries (c.args.epoch, c.args.dealer) c.args.value c.in_ok-insert.ensures.updates.0
    ∙ ap (λ (m : map.FinMap key_cmp g.row.V.Denot). map.insert m (c.args.epoch, c.args.dealer) c.args.value) c.self.view_is
