use Rattle.std.proofs.Common.{ap, ◌∙◌, rules}
use Rattle.std.specs.FinMap as map
use Rattle.std.specs.Ordering.{nat_cmp}
use Rattle.std.specs.Cmp.{nat_cmp_total}
use Rattle.dkg_journal.proofs.Map.{view_get, view_insert}
use Rattle.dkg_journal.proofs.by_section.BySection.insert.Goals as goal

pub returns-clause-done : goal.returns-clause-done
returns-clause-done g c =
    view_insert nat_cmp_total map.nat_cmp-IsAntisymmetric c.self.inside.values.entries c.insert.new.self.entries c.args.section c.args.value c.in_ok-insert.ensures.updates.0
    ∙ ap (λ (m : map.FinMap nat_cmp g.row.V.Denot). map.insert m c.args.section c.args.value) c.self.view_is

pub returns-in_err-insert-clause-absent : goal.returns-in_err-insert-clause-absent
returns-in_err-insert-clause-absent g c = let absent = view_get nat_cmp_total map.nat_cmp-IsAntisymmetric c.args.self.now c.self.inside.values.entries c.args.section c.self.view_is ∙ c.in_err-insert.ensures.absent in search (rules, absent)
