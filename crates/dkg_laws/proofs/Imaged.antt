-- Memory agrees behind a step, whichever image is left.
use Rattle.dkg_store.specs.Acts.{at}
use Rattle.dkg_laws.specs.Imaged.{StaysAgreed}
use Rattle.dkg_core.proofs.Agreeing.{steps_agree}

pub stays_agreed : {Dir : Type 0} → StaysAgreed Dir
stays_agreed c st end message files files_now image next old new agreed can stands made d left = steps_agree c st end message (at old files) (at new d) agreed can (made.made stands d left)
