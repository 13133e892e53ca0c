use Rattle.std.proofs.Common.{sym, ◌∙◌, ap}
use Rattle.dkg_journal.specs.Table.{Rows, file_at}
use Rattle.dkg_journal.proofs.Rows.{tree_file}
use Rattle.dkg_journal.proofs.table.Table.get.Goals as goal

pub returns : goal.returns
returns c = c.get.ensures.value ∙ sym (tree_file c.args.name c.self.inside.held.entries) ∙ ap (λ (l : Rows). file_at c.args.name l) c.self.view_is
