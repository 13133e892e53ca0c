use Rattle.std.proofs.Common.{◌∙◌, ap}
use Rattle.dkg_journal.specs.Operations.{after_operation, Appends}
use Rattle.dkg_journal_calls.proofs.appends.append_two.Goals as goal

pub returns-clause-both : goal.returns-clause-both
returns-clause-both g c = λ tells.
    let one = (c.in_ok-append.ensures.does tells).done (c.requires.settled tells) in
    ((c.in_ok-append-2.ensures.does tells).done one.settled).after ∙ ap (after_operation (Appends (c.args.section, c.args.second.now))) one.after

pub returns-clause-settled : goal.returns-clause-settled
returns-clause-settled g c = λ tells. ((c.in_ok-append-2.ensures.does tells).done ((c.in_ok-append.ensures.does tells).done (c.requires.settled tells)).settled).settled
