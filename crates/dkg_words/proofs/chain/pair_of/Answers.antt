use Rattle.std.proofs.Common.{sym}
use Rattle.std.specs.Prelude.{codes}
use Rattle.dkg_words.specs.Own.{place_behind_first}
use Rattle.dkg_words.proofs.Chains.{no_blocks}
use Rattle.dkg_words.proofs.chain.pair_of.Goals as goal

pub returns-in-None : goal.returns-in-None
returns-in-None c = no_blocks c.args.text.now (place_behind_first c.args.text.now (codes "\nblock ")) (sym c.in-None.ensures)
