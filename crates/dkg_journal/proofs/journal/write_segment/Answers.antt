use Rattle.std.proofs.Common.{[], ◌∷◌, subst}
use Rattle.std.proofs.lemmas.Result.{err_from_is_err_and}
use Rattle.dkg_journal.specs.Disk.{ImagesFollow, Inside, Did}
use Rattle.dkg_journal.specs.declared.disk.Op.{Op}
use Rattle.dkg_journal.specs.declared.disk.Op.TheVariants.{Sync}
use Rattle.dkg_values.specs.declared.name.Name.TheVariants.{Segment}
use Rattle.dkg_journal.proofs.Steps.{torn_into, synced_into, firm_write, then_all, ran_first, run_err, run_ok}
use Rattle.dkg_journal.proofs.journal.write_segment.Goals as goal

pub returns-in_err-perform-clause-images : goal.returns-in_err-perform-clause-images
returns-in_err-perform-clause-images g c = λ x bytes place is firm.
    torn_into (Segment c.args.section) x bytes place _ _ _ firm (subst (λ (op : Op). ImagesFollow (Inside op) (g.D.Disk.image c.args.disk.now) (g.D.Disk.image c.perform.new.disk)) is c.perform.ensures.crash)

pub returns-in_err-perform-2-clause-images : goal.returns-in_err-perform-2-clause-images
returns-in_err-perform-2-clause-images g c = λ x bytes place is firm.
    let torn = torn_into (Segment c.args.section) x bytes place _ _ _ firm (subst (λ (op : Op). ImagesFollow (Inside op) (g.D.Disk.image c.args.disk.now) (g.D.Disk.image c.perform.new.disk)) is c.perform.ensures.crash) in
    synced_into (Segment c.args.section) _ _ _ _ torn c.perform-2.ensures.crash

pub returns-clause-images : goal.returns-clause-images
returns-clause-images g c = λ x bytes place is firm.
    let torn = torn_into (Segment c.args.section) x bytes place _ _ _ firm (subst (λ (op : Op). ImagesFollow (Inside op) (g.D.Disk.image c.args.disk.now) (g.D.Disk.image c.perform.new.disk)) is c.perform.ensures.crash) in
    synced_into (Segment c.args.section) _ _ _ _ torn c.perform-2.ensures.crash

pub returns-clause-done : goal.returns-clause-done
returns-clause-done g c = λ tells x bytes place is firm.
    firm_write (Segment c.args.section) x bytes place _ _ _ _ _ _ firm (subst (λ (op : Op). Did op (g.D.Disk.files c.args.disk.now) (g.D.Disk.files c.perform.new.disk) (g.D.Disk.image c.perform.new.disk)) is (c.in_ok-perform.ensures.done tells)) (c.in_ok-perform-2.ensures.done tells)

pub returns-clause-calls : goal.returns-clause-calls
returns-clause-calls g c = run_ok g.D.Disk.made _ _ _ _ _ _ (
    then_all g.D.Disk.made g.met.D.Disk.made_more _ _ _ _ _ _ (c.args.write.now ∷ []) (Sync (Segment c.args.section) ∷ []) (record { each = c.perform.ensures.calls; fuse = c.perform.ensures.counted }) (record { each = c.perform-2.ensures.calls; fuse = c.perform-2.ensures.counted })
    )

pub returns-in_err-perform-2-clause-calls : goal.returns-in_err-perform-2-clause-calls
returns-in_err-perform-2-clause-calls g c =
    let p = err_from_is_err_and c.from_residual-in_err-perform-2.result c.from_residual-in_err-perform-2.ensures.1 in
    run_err g.D.Disk.made c.from_residual-in_err-perform-2.result _ _ _ _ _ p.0 p.1 (ran_first g.D.Disk.made _ _ _ _ (c.args.write.now ∷ Sync (Segment c.args.section) ∷ []) [] (
    then_all g.D.Disk.made g.met.D.Disk.made_more _ _ _ _ _ _ (c.args.write.now ∷ []) (Sync (Segment c.args.section) ∷ []) (record { each = c.perform.ensures.calls; fuse = c.perform.ensures.counted }) (record { each = c.perform-2.ensures.calls; fuse = c.perform-2.ensures.counted })
    ))

pub returns-in_err-perform-clause-calls : goal.returns-in_err-perform-clause-calls
returns-in_err-perform-clause-calls g c =
    let p = err_from_is_err_and c.from_residual.result c.from_residual.ensures.1 in
    run_err g.D.Disk.made c.from_residual.result _ _ _ _ _ p.0 p.1 (ran_first g.D.Disk.made _ _ _ _ (c.args.write.now ∷ []) (Sync (Segment c.args.section) ∷ []) (record { each = c.perform.ensures.calls; fuse = c.perform.ensures.counted }))
