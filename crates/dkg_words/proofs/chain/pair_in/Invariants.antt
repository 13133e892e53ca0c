use Rattle.dkg_words.specs.Turns.{NoneApartBelow}
use Rattle.dkg_words.proofs.chain.pair_in.Given as goal

abbrev pub invariant-loop-index : goal.invariant-loop-index
invariant-loop-index l = NoneApartBelow l.text l.blocks l.used l.index
