use Rattle.std.proofs.Common.{ℕ, List, sym, ◌∙◌, ap, subst}
use Rattle.dkg_journal.specs.Disk.{Allowed}
use Rattle.dkg_journal.specs.Table.{contents}
use Rattle.dkg_journal.specs.declared.disk.Op.{Op}
use Rattle.dkg_journal.specs.declared.disk.Op.TheVariants.{WriteAt, Install}
use Rattle.dkg_journal.proofs.OnRows.{there_rows, same_inside, none_inside, as_op, write_inside, install_inside, remove_inside}
use Rattle.dkg_journal.proofs.table.Table.begin.Goals as goal

pub write-requires : goal.write-requires
write-requires c =
    let allowed = subst (λ (op : Op). Allowed (contents c.args.self.now) op) c.in-WriteAt.is c.requires in
    there_rows c.args.self.now c.in-WriteAt.name c.in-WriteAt.place allowed

pub returns-in_err-write-in-WriteAt-clause-inside : goal.returns-in_err-write-in-WriteAt-clause-inside
returns-in_err-write-in-WriteAt-clause-inside c = same_inside c.args.op.now _ _ c.in_err-write-in-WriteAt.ensures.kept

pub returns-in_err-install-in-Install-clause-inside : goal.returns-in_err-install-in-Install-clause-inside
returns-in_err-install-in-Install-clause-inside c = same_inside c.args.op.now _ _ c.in_err-install-in-Install.ensures.kept

pub returns-in_ok-write-in-WriteAt-clause-inside : goal.returns-in_ok-write-in-WriteAt-clause-inside
returns-in_ok-write-in-WriteAt-clause-inside c =
    let allowed = subst (λ (op : Op). Allowed (contents c.args.self.now) op) c.in-WriteAt.is c.requires in
    let there = there_rows c.args.self.now c.in-WriteAt.name c.in-WriteAt.place allowed in
    let done = c.in_ok-write-in-WriteAt.ensures.done there.0 there.1 in
    as_op _ c.args.op.now _ _ (c.in-WriteAt.is ∙ ap (λ (b : List ℕ). WriteAt c.in-WriteAt.name c.in-WriteAt.place b) (sym c.as_slice.ensures)) (write_inside c.in-WriteAt.name c.in-WriteAt.place c.as_slice.result.now there.0 _ _ there.1 there.2 done.0 done.1)

pub returns-in_ok-install-in-Install-clause-inside : goal.returns-in_ok-install-in-Install-clause-inside
returns-in_ok-install-in-Install-clause-inside c =
    as_op _ c.args.op.now _ _ (c.in-Install.is ∙ ap (λ (b : List ℕ). Install c.in-Install.name b) (sym c.as_slice-then-pick-eq0.ensures)) (install_inside c.in-Install.name c.as_slice-then-pick-eq0.result.now _ _ c.in_ok-install-in-Install.ensures.done)

pub returns-else-pick-eq0-clause-inside : goal.returns-else-pick-eq0-clause-inside
returns-else-pick-eq0-clause-inside c = none_inside c.args.op.now _

pub returns-then-pick-eq0-2-clause-inside : goal.returns-then-pick-eq0-2-clause-inside
returns-then-pick-eq0-2-clause-inside c = as_op _ c.args.op.now _ _ c.in-Remove.is (remove_inside c.in-Remove.name _ _ c.remove.ensures)

pub returns-else-pick-eq0-2-clause-inside : goal.returns-else-pick-eq0-2-clause-inside
returns-else-pick-eq0-2-clause-inside c = none_inside c.args.op.now _

pub returns-in-Sync-clause-inside : goal.returns-in-Sync-clause-inside
returns-in-Sync-clause-inside c = none_inside c.args.op.now _

pub returns-in-Sync-2-clause-inside : goal.returns-in-Sync-2-clause-inside
returns-in-Sync-2-clause-inside c = none_inside c.args.op.now _
