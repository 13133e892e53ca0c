use Rattle.std.proofs.Common.{inl, inr, Option, subst}
use Rattle.dkg_journal.specs.Made.{made_cut}
use Rattle.dkg_journal.specs.Table.{CrashedBy}
use Rattle.dkg_values.specs.declared.name.Name.{Name}
use Rattle.dkg_journal.proofs.OnRows.{landed, cut_inside}
use Rattle.dkg_journal.proofs.sure.SureDiskDisk.cut.Goals as goal

pub returns-in-Ok-clause-cut : goal.returns-in-Ok-clause-cut
returns-in-Ok-clause-cut c = landed _ _ c.crash.ensures.lands

pub returns-in-Ok-clause-crash : goal.returns-in-Ok-clause-crash
returns-in-Ok-clause-crash c = cut_inside c.args.op.now _ _ _ c.begin.ensures.inside c.crash.ensures.lands

pub returns-in-Ok-clause-calls : goal.returns-in-Ok-clause-calls
returns-in-Ok-clause-calls c = made_cut c.args.op.now c.args.pick _ _ _ _ c.one_more-self.ensures.counted (cut_inside c.args.op.now _ _ _ c.begin.ensures.inside c.crash.ensures.lands) (inl (record { between = c.begin.new.self; begun = c.in-Ok.ensures.begun; crashed = subst (λ (but : Option Name). CrashedBy c.args.pick but c.begin.new.self c.crash.new.self) c.spared.ensures c.crash.ensures.picked }))

pub returns-in-Err-clause-calls : goal.returns-in-Err-clause-calls
returns-in-Err-clause-calls c = made_cut c.args.op.now c.args.pick _ _ _ _ c.one_more-self.ensures.counted c.begin.ensures.inside (inr c.in-Err.ensures.kept)
