use Rattle.std.proofs.Common.{[], ◌∷◌}
use Rattle.dkg_journal.specs.Fuse.{calls_in}
use Rattle.dkg_journal.specs.declared.disk.Op.TheVariants.{Barrier}
use Rattle.dkg_sign.proofs.OnRecord.{barrier_same}
use Rattle.dkg_sign.proofs.desk.SigningDesk.open.Goals as goal

pub returns-in_err-bytes-clause-same : goal.returns-in_err-bytes-clause-same
returns-in_err-bytes-clause-same g c = barrier_same g.D.Disk.files g.D.Disk.image _ _ _ c.perform.ensures.crash c.get.ensures.same

pub returns-in_err-bytes-clause-calls : goal.returns-in_err-bytes-clause-calls
returns-in_err-bytes-clause-calls g c = record { each = g.met.D.Disk.made_more _ _ _ (calls_in c.args.fuse.now (Barrier ∷ [])) [] c.perform.ensures.calls c.get.ensures.calls; fuse = c.perform.ensures.counted }

pub returns-in_err-current-clause-same : goal.returns-in_err-current-clause-same
returns-in_err-current-clause-same g c = barrier_same g.D.Disk.files g.D.Disk.image _ _ _ c.perform.ensures.crash c.get.ensures.same

pub returns-in_err-current-clause-calls : goal.returns-in_err-current-clause-calls
returns-in_err-current-clause-calls g c = record { each = g.met.D.Disk.made_more _ _ _ (calls_in c.args.fuse.now (Barrier ∷ [])) [] c.perform.ensures.calls c.get.ensures.calls; fuse = c.perform.ensures.counted }

pub returns-clause-same : goal.returns-clause-same
returns-clause-same g c = barrier_same g.D.Disk.files g.D.Disk.image _ _ _ c.perform.ensures.crash c.get.ensures.same

pub returns-clause-calls : goal.returns-clause-calls
returns-clause-calls g c = record { each = g.met.D.Disk.made_more _ _ _ (calls_in c.args.fuse.now (Barrier ∷ [])) [] c.perform.ensures.calls c.get.ensures.calls; fuse = c.perform.ensures.counted }
