use Rattle.std.proofs.lemmas.Result.{err_from_is_err_and}
use Rattle.dkg_journal.proofs.Append.{grows_err, same_may_add}
use Rattle.dkg_journal.proofs.Unbroken.{open_unbroken_images}
use Rattle.dkg_journal.proofs.journal.Journal.append.Goals as goal

pub returns-in_err-calls-clause-grows : goal.returns-in_err-calls-clause-grows
returns-in_err-calls-clause-grows g c =
    let p = err_from_is_err_and c.from_residual.result c.from_residual.ensures.1 in
    λ tells. grows_err (c.args.section, c.args.body.now) c.from_residual.result p.0 _ _ p.1 (same_may_add _ _)

pub returns-in_err-calls-clause-sound : goal.returns-in_err-calls-clause-sound
returns-in_err-calls-clause-sound g c = λ tells. open_unbroken_images c.args.self.now.places (g.D.Disk.files c.args.disk.now) (g.D.Disk.image c.args.disk.now) (c.requires tells)
