use Rattle.std.specs.Prelude.{decimal}
use Rattle.dkg_words.specs.Message.{around}
use Rattle.dkg_words.proofs.Joined.{three}
use Rattle.dkg_words.proofs.message.put_around_two.Goals as goal

pub returns : goal.returns
returns c =
    three c.put_around.result c.args.out.now.items _ _ _ c.args.front.now (decimal c.args.one) (around c.args.between.now c.args.other c.args.back.now) c.in_ok-put.ensures
    c.in_ok-put_number.ensures c.put_around.ensures
