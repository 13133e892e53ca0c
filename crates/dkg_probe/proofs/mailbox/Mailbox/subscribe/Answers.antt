use Rattle.dkg_probe.specs.declared.event.Event.TheVariants.{Subscribe}
use Rattle.dkg_probe.proofs.Subscribing.{subscribed}
use Rattle.dkg_probe.proofs.mailbox.Mailbox.subscribe.Goals as goal

pub returns-in-Some-clause-posted : goal.returns-in-Some-clause-posted
returns-in-Some-clause-posted g c =
    subscribed g.T.Turn.turns c.args.self.now.lock.now.start g.T.Turn.same g.T.Turn.told (g.T.Carries.posted Subscribe) g.T.Carries.answered g.T.Carries.stopped g.T.Carries.meets g.T.HasProbe.known (g.met.T.HasProbe g.world.𝓛 g.world.𝓜 g.world.𝓡 ((λ s x. x), (λ x. x), (λ x. x), λ x. x)).owes c.in_ok-post.field-0 c.in-Some.answer
    c.args.pass.now c.post.new.self c.in-Some.is c.in_ok-post.ensures.posted
