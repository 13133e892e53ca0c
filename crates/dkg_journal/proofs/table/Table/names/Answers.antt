use Rattle.std.proofs.Common.{subst}
use Rattle.std.specs.Prelude.{IsTrue}
use Rattle.std.specs.FinMap.Entries.{is_sorted}
use Rattle.dkg_journal.specs.Names.{name_cmp}
use Rattle.dkg_journal.specs.Table.{Rows}
use Rattle.dkg_journal.proofs.Rows.{rising}
use Rattle.dkg_journal.proofs.table.Table.names.Goals as goal

pub returns-in_err-names-clause-sorted : goal.returns-in_err-names-clause-sorted
returns-in_err-names-clause-sorted c = subst (λ (l : Rows). IsTrue (is_sorted name_cmp l)) c.self.view_is (rising c.self.inside.held.entries c.len.ensures.ordered)

pub returns-in_err-push-clause-sorted : goal.returns-in_err-push-clause-sorted
returns-in_err-push-clause-sorted c = subst (λ (l : Rows). IsTrue (is_sorted name_cmp l)) c.self.view_is (rising c.self.inside.held.entries c.len.ensures.ordered)

pub returns-clause-sorted : goal.returns-clause-sorted
returns-clause-sorted c = subst (λ (l : Rows). IsTrue (is_sorted name_cmp l)) c.self.view_is (rising c.self.inside.held.entries c.len.ensures.ordered)
