use Rattle.std.specs.Prelude.{decimal}
use Rattle.dkg_words.proofs.Joined.{three}
use Rattle.dkg_words.proofs.message.put_around.Goals as goal

pub returns : goal.returns
returns c = three c.put-2.result c.args.out.now.items _ _ _ c.args.front.now (decimal c.args.number) c.args.back.now c.in_ok-put.ensures c.in_ok-put_number.ensures c.put-2.ensures
