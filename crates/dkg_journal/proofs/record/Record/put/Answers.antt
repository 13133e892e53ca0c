use Rattle.std.proofs.Common.{List, [], ◌∷◌, ℕ, ◌∙◌, subst}
use Rattle.std.specs.Prelude.{OnOk, IsTrue}
use Rattle.dkg_journal.specs.Disk.{Lands}
use Rattle.dkg_journal.specs.Fuse.{HasRun}
use Rattle.dkg_journal.specs.declared.disk.Op.TheVariants.{Install}
use Rattle.dkg_values.specs.declared.name.Name.TheVariants.{Plan}
use Rattle.dkg_journal.specs.Operations.{PutsPlan, Tried, FinishedOperation}
use Rattle.dkg_journal.proofs.OnResult.{on_ok}
use Rattle.dkg_journal.proofs.OnPlan.{put_others, tried_put, finished_put}
use Rattle.dkg_journal.proofs.Steps.{run_each}
use Rattle.dkg_journal.proofs.record.Record.put.Goals as goal

pub returns-clause-others : goal.returns-clause-others
returns-clause-others g c = put_others _ _ _ c.perform_own.ensures.crash

pub returns-clause-tried : goal.returns-clause-tried
returns-clause-tried g c =
    subst (λ (x : List ℕ). Lands (g.D.Disk.files c.args.disk.now) (g.D.Disk.image c.args.disk.now) → Tried (PutsPlan x) (g.D.Disk.files c.args.disk.now) (g.D.Disk.image c.perform_own.new.disk) c.args.fuse.now c.perform_own.new.fuse) (c.new.ensures ∙ c.in_ok-from_slice.ensures.items)
    (λ lands. tried_put g.D.Disk.made _ _ _ _ _ _ _ _ lands c.perform_own.ensures.crash c.perform_own.ensures.all)

pub returns-clause-done : goal.returns-clause-done
returns-clause-done g c =
    subst (λ (x : List ℕ). OnOk c.perform_own.result (IsTrue g.D.Disk.tells → Lands (g.D.Disk.files c.args.disk.now) (g.D.Disk.image c.args.disk.now) → FinishedOperation (PutsPlan x) (g.D.Disk.files c.args.disk.now) (g.D.Disk.files c.perform_own.new.disk) (g.D.Disk.image c.perform_own.new.disk) c.args.fuse.now c.perform_own.new.fuse)) (c.new.ensures ∙ c.in_ok-from_slice.ensures.items)
    (on_ok c.perform_own.result (λ did tells lands. finished_put g.D.Disk.made _ _ _ _ _ _ _ _ _ lands c.perform_own.ensures.crash (did tells) (g.met.D.Disk.reads _ tells) c.perform_own.ensures.all) c.perform_own.ensures.done)

pub returns-clause-calls : goal.returns-clause-calls
returns-clause-calls g c =
    subst (λ (x : List ℕ). HasRun g.D.Disk.made c.perform_own.result c.args.disk.now c.perform_own.new.disk c.args.fuse.now c.perform_own.new.fuse (Install Plan x ∷ [])) (c.new.ensures ∙ c.in_ok-from_slice.ensures.items)
    (run_each g.D.Disk.made c.perform_own.result _ _ _ _ _ c.perform_own.ensures.all)
