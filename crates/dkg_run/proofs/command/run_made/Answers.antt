use Rattle.dkg_text.specs.Writing.{text_of}
use Rattle.dkg_generator.specs.Made.{made_script}
use Rattle.dkg_run.proofs.command.run_made.Goals as goal

pub returns-clause-ends : goal.returns-clause-ends
returns-clause-ends g c = c.run_read.ensures.ends (text_of (made_script c.args.number)) c.made_in_form-read.ensures.reads
