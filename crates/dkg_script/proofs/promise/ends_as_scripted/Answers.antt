use Rattle.dkg_script.proofs.ScriptedCuts.{ends_as_scripted as law}
use Rattle.dkg_script.proofs.promise.ends_as_scripted.Goals as goal

pub returns : goal.returns
returns c = law
