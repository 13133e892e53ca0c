use Rattle.std.proofs.Common.{◌+◌, length, ap}
use Rattle.dkg_journal.proofs.Append.{opened_more, start_is}
use Rattle.dkg_journal.proofs.Unbroken.{open_unbroken_images}
use Rattle.dkg_journal.proofs.journal.Journal.append_ready.Goals as goal

pub returns-in_err-append_prepared-clause-sound : goal.returns-in_err-append_prepared-clause-sound
returns-in_err-append_prepared-clause-sound g c = λ tells. c.append_prepared.ensures.sound tells (open_unbroken_images c.args.self.now.places _ _ (c.requires.open tells))

pub returns-clause-sound : goal.returns-clause-sound
returns-clause-sound g c = λ tells. c.append_prepared.ensures.sound tells (open_unbroken_images c.args.self.now.places _ _ (c.requires.open tells))

pub returns-clause-open : goal.returns-clause-open
returns-clause-open g c = λ tells.
    opened_more c.args.self.now.places _ c.args.section _ _ c.args.body.now _ _ _ _ (c.requires.open tells) (c.in_ok-append_prepared.ensures.open tells) (c.in_ok-append_prepared.ensures.grows tells).added (g.met.D.Disk.reads _ tells)
    (ap (λ n. n + 5 + length c.args.body.now) (start_is c.place_of-place.result c.unwrap_or.result c.unwrap_or.ensures)) c.set.ensures
