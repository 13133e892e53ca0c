use Rattle.dkg_generator.specs.Making.{IsMaking}
use Rattle.dkg_generator.proofs.make.make_script.Given as goal

abbrev pub invariant-loop-epoch : goal.invariant-loop-epoch
invariant-loop-epoch l = IsMaking l.number l.epoch l.making
