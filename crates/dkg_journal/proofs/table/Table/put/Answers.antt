use Rattle.std.proofs.Common.{Some, subst}
use Rattle.dkg_journal.specs.Table.{Rows, IsUpdate}
use Rattle.dkg_journal.proofs.Rows.{tree_update}
use Rattle.dkg_journal.proofs.table.Table.put.Goals as goal

pub returns-clause-done : goal.returns-clause-done
returns-clause-done c =
    subst (λ (l : Rows). IsUpdate c.args.name (Some c.args.file) l c.insert.new.self.entries) c.self.view_is
    (tree_update c.args.name (Some c.args.file) c.self.inside.held.entries c.insert.new.self.entries c.in_ok-insert.ensures.updates.0)
