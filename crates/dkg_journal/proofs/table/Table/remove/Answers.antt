use Rattle.std.proofs.Common.{None, subst}
use Rattle.dkg_journal.specs.Table.{Rows, IsUpdate}
use Rattle.dkg_journal.proofs.Rows.{tree_update}
use Rattle.dkg_journal.proofs.table.Table.remove.Goals as goal

pub returns : goal.returns
returns c =
    subst (λ (l : Rows). IsUpdate c.args.name None l c.remove.new.self.entries) c.self.view_is
    (tree_update c.args.name None c.self.inside.held.entries c.remove.new.self.entries c.remove.ensures.updates.0)
