use Rattle.std.proofs.Common.{ap, ◌∙◌}
use Rattle.std.specs.FinMap as map
use Rattle.std.specs.Ordering.{nat_cmp}
use Rattle.std.specs.Cmp.{nat_cmp_total}
use Rattle.dkg_secrets.proofs.Map.{view_remove}
use Rattle.dkg_store.proofs.key_map.KeyMap.remove_at.Goals as goal

pub returns : goal.returns
returns g c =
    view_remove nat_cmp_total map.nat_cmp-IsAntisymmetric c.self.inside.values.entries c.remove.new.self.entries c.args.key c.remove.ensures.updates.0
    ∙ ap (λ (m : map.FinMap nat_cmp g.row.V.Denot). map.remove m c.args.key) c.self.view_is
