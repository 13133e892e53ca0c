use Rattle.std.proofs.Common.{◌∙◌, ap, false, inl, inr, length, refl, sym}
use Rattle.dkg_reading.specs.Grammar.{script_of}
use Rattle.dkg_run.proofs.Asked.{same_number, same_run}
use Rattle.dkg_run.proofs.Reported.{blamed, device_rose, done_or_memory, from_index, is_silent, not_more, status_told}
use Rattle.dkg_run.proofs.command.run_command.Goals as goal

pub returns-clause-run : goal.returns-clause-run
returns-clause-run g c is =
    let its = c.run-status.ensures.ends in
    let new_ones = c.entries_from-2.ensures ∙ from_index _ _ its.0 _ (ap length c.entries-before.ensures) its.1 in
    record { entries = its.0; added = its.1; ended = c.run-status.result; runs = its.2; told = rw new_ones at c.report-2.ensures.told }

pub returns-clause-silent : goal.returns-clause-silent
returns-clause-silent g c is =
    let its = c.run-status.ensures.ends in
    let new_ones = c.entries_from-2.ensures ∙ from_index _ _ its.0 _ (ap length c.entries-before.ensures) its.1 in
    c.report-2.ensures.none (rw new_ones (is_silent _ _ _ its.0 _ _ _ _ _ _ is c.report-2.ensures.told its.2))

pub returns-in-Some-clause-make : goal.returns-in-Some-clause-make
returns-in-Some-clause-make g c n make =
    let same = same_number _ n c.in-Some.number make (rw c.in-Some.is at c.made_number.ensures.some) in
    rw same (c.make.ensures.told, refl, refl, refl, refl)

pub returns-in-Some-clause-blamed : goal.returns-in-Some-clause-blamed
returns-in-Some-clause-blamed g c = blamed _ _ _ _ _ _ _ _ _ _ c.make.ensures.told (λ e. absurd (cc)) (λ e. absurd (cc)) c.make.ensures.write_fault (λ e. absurd (cc))

pub returns-in-Some-run_number-clause-sums : goal.returns-in-Some-run_number-clause-sums
returns-in-Some-run_number-clause-sums g c n asked =
    let same = same_run _ n c.in-Some-run_number.number asked (rw c.in-Some-run_number.is at c.run_number.ensures.some) in
    let its = c.run_made-ended.ensures.ends in
    let new_ones = c.entries_from.ensures ∙ from_index _ _ its.0 _ (ap length c.entries-before.ensures) its.1 in
    rw same (refl, record { entries = its.0; added = its.1; ended = c.run_made-ended.result; runs = its.2; told = rw new_ones at c.sum_up.ensures.told })

pub returns-in-Some-run_number-clause-only_usage : goal.returns-in-Some-run_number-clause-only_usage
returns-in-Some-run_number-clause-only_usage g c is =
    let told = status_told _ _ _ _ _ _ _ is (λ e. cc) (λ e. cc) c.sum_up.ensures.told in
    absurd (rw told at c.run_made-ended.ensures.ends.2)

pub returns-in-Some-run_number-clause-silent : goal.returns-in-Some-run_number-clause-silent
returns-in-Some-run_number-clause-silent g c (inl is) = absurd (c.run_made-ended.ensures.read.0 (status_told _ _ _ _ _ _ _ is (λ e. cc) (λ e. cc) c.sum_up.ensures.told))
returns-in-Some-run_number-clause-silent g c (inr is) = absurd (c.run_made-ended.ensures.read.1 (status_told _ _ _ _ _ _ _ is (λ e. cc) (λ e. cc) c.sum_up.ensures.told))

pub returns-in-Some-run_number-clause-blamed : goal.returns-in-Some-run_number-clause-blamed
returns-in-Some-run_number-clause-blamed g c =
    let its = c.run_made-ended.ensures.ends in
    blamed _ _ _ _ _ _ _ _ _ _ c.sum_up.ensures.told (λ e. absurd (c.run_made-ended.ensures.read.0 e)) (λ is. device_rose _ _ _ its.0 _ is its.2)
    (c.sum_up.ensures.write_fault (λ same. rw same at its.2)) (λ e. absurd (c.run_made-ended.ensures.read.1 e))

pub returns-clause-only_usage : goal.returns-clause-only_usage
returns-clause-only_usage g c is =
    let told = status_told _ _ _ _ _ _ _ is (λ e. cc) (λ e. cc) c.report-2.ensures.told in
    absurd (rw told at c.run-status.ensures.ends.2)

pub returns-clause-blamed : goal.returns-clause-blamed
returns-clause-blamed g c =
    let its = c.run-status.ensures.ends in
    blamed _ _ _ _ _ _ _ _ _ _ c.report-2.ensures.told c.run-status.ensures.read_fault (λ is. device_rose _ _ _ its.0 _ is its.2)
    (c.report-2.ensures.write_fault (λ same. rw same at its.2)) c.run-status.ensures.too_long

pub returns-clause-in_bound : goal.returns-clause-in_bound
returns-clause-in_bound g c = c.run-status.ensures.in_bound

pub returns-clause-complete : goal.returns-clause-complete
returns-clause-complete g c is tells script spelled built short sound no_read no_write =
    let its = c.run-status.ensures.ends in
    done_or_memory _ _ _ its.0 script (λ bytes gave. ap (script_of false) (sym (gave.all tells).all) ∙ spelled) built sound c.run-status.result c.report-2.result _ _ _ _ its.2 c.report-2.ensures.told
    (λ e. no_read (c.run-status.ensures.read_fault (status_told _ _ _ _ _ _ _ e (λ d. cc) (λ d. cc) c.report-2.ensures.told)))
    (λ e. not_more _ _ _ (c.run-status.ensures.too_long (status_told _ _ _ _ _ _ _ e (λ d. cc) (λ d. cc) c.report-2.ensures.told) tells) short)
    (λ e. no_write (c.report-2.ensures.write_fault (λ same. rw same at its.2) e))
