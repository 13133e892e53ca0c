use Rattle.std.proofs.Common.{ap, ◌∙◌}
use Rattle.std.specs.FinMap as map
use Rattle.std.specs.Ordering.{nat_cmp}
use Rattle.std.specs.Cmp.{nat_cmp_total}
use Rattle.dkg_secrets.proofs.Map.{view_insert}
use Rattle.dkg_store.proofs.key_map.KeyMap.insert_at.Goals as goal

pub returns-clause-done : goal.returns-clause-done
returns-clause-done g c =
    view_insert nat_cmp_total map.nat_cmp-IsAntisymmetric c.self.inside.values.entries c.insert.new.self.entries c.args.key c.args.value c.in_ok-insert.ensures.updates.0
    ∙ ap (λ (m : map.FinMap nat_cmp g.row.V.Denot). map.insert m c.args.key c.args.value) c.self.view_is
