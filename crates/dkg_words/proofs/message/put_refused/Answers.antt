use Rattle.std.proofs.Common.{[], ap}
use Rattle.std.specs.Prelude.{codes}
use Rattle.dkg_words.specs.Message.{refused_words}
use Rattle.dkg_words.proofs.Numbered.{around_two_same}
use Rattle.dkg_words.proofs.message.put_refused.Goals as goal

pub returns-in-TooManyParticipants : goal.returns-in-TooManyParticipants
returns-in-TooManyParticipants c =
    around_two_same c.put_around_two.result c.put_around_two.new.out.items c.args.out.now.items [] (codes " participants of one kind, where ") (codes " is the limit") c.from.result
    c.from-in-TooManyParticipants.result c.in-TooManyParticipants.actual c.in-TooManyParticipants.max (refused_words c.args.refused) (cc) (cc) (ap refused_words c.in-TooManyParticipants.is)
    c.put_around_two.ensures
