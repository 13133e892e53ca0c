use Rattle.dkg_script.proofs.EachEntry.{own_marks_stand_before as law}
use Rattle.dkg_script.proofs.promise.own_marks_stand_before.Goals as goal

pub returns : goal.returns
returns c = law
