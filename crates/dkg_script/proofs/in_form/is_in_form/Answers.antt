use Rattle.dkg_script.proofs.Formed.{told_form, told_other}
use Rattle.dkg_script.proofs.in_form.is_in_form.Goals as goal

pub returns-clause-form : goal.returns-clause-form
returns-clause-form c = told_form c.args.script.now c.passes.result c.passes.ensures.exact c.passes.ensures.short

pub returns-clause-refused : goal.returns-clause-refused
returns-clause-refused c = told_other c.args.script.now c.passes.result c.passes.ensures.exact
