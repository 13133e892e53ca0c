use Rattle.std.proofs.Common.{ap}
use Rattle.std.specs.Prelude.{codes}
use Rattle.dkg_words.specs.Message.{participants_words}
use Rattle.dkg_words.proofs.Numbered.{around_two_same}
use Rattle.dkg_words.proofs.message.put_participants.Goals as goal

pub returns-in-ProviderAbove : goal.returns-in-ProviderAbove
returns-in-ProviderAbove c =
    around_two_same c.put_around_two.result c.put_around_two.new.out.items c.args.out.now.items (codes "the provider's set has ") (codes " keys, where ") (codes " is the limit")
    c.from.result c.from-in-ProviderAbove.result c.in-ProviderAbove.actual c.in-ProviderAbove.max (participants_words c.args.cause) (cc) (cc) (ap participants_words c.in-ProviderAbove.is)
    c.put_around_two.ensures
