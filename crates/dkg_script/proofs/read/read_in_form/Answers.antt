use Rattle.std.proofs.Common.{◌∙◌, sym}
use Rattle.std.proofs.lemmas.Result.{err_from_is_err_and}
use Rattle.dkg_script.proofs.Formed.{form_told, has_passed}
use Rattle.dkg_script.proofs.OfText.{is_of_text}
use Rattle.dkg_script.proofs.ToldPlaces.{told_as_read}
use Rattle.dkg_script.proofs.read.read_in_form.Goals as goal

pub returns-else-branch-clause-reads : goal.returns-else-branch-clause-reads
returns-else-branch-clause-reads c = (c.in_ok-script.script, c.in_ok-script.ensures.reads, sym c.in_ok-is_in_form.ensures.exact ∙ c.if-branch.false)

pub returns-then-branch-clause-form : goal.returns-then-branch-clause-form
returns-then-branch-clause-form c =
    let script = c.in_ok-script.script in
    let passed = has_passed script (sym c.in_ok-is_in_form.ensures.exact ∙ c.if-branch.true) in
    let of_text = is_of_text c.args.addressed c.args.bytes.now script c.in_ok-script.ensures.reads passed.plain passed.reshares in
    form_told script c.in_ok-is_in_form.field-0 c.if-branch.true c.in_ok-is_in_form.ensures.form of_text

pub returns-in_err-script-clause-place : goal.returns-in_err-script-clause-place
returns-in_err-script-clause-place c =
    let p = err_from_is_err_and c.from_residual.result c.from_residual.ensures.1 in
    rw (p.1, p.2) (told_as_read c.args.addressed c.args.bytes.now c.in_err-script.field-0.0 c.in_err-script.ensures.place)
