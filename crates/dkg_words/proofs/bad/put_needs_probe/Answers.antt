use Rattle.std.specs.Prelude.{codes}
use Rattle.dkg_words.proofs.Joined.{three}
use Rattle.dkg_words.proofs.bad.put_needs_probe.Goals as goal

pub returns : goal.returns
returns c = three c.put-3.result c.args.out.now.items _ _ _ (codes " (") c.args.word.now (codes " needs a probe line)") c.in_ok-put.ensures c.in_ok-put-2.ensures c.put-3.ensures
