use Rattle.dkg_turn.proofs.Calling.{posts}
use Rattle.dkg_turn.proofs.pass.Pass.post.Goals as goal

pub returns-clause-posted : goal.returns-clause-posted
returns-clause-posted g c =
    let laws = g.met.T.Carries g.world.𝓛 g.world.𝓜 g.world.𝓡 ((λ s x. x), (λ x. x), (λ x. x), λ x. x) in
    posts g.T.Turn.turns c.args.lock.now.start g.T.Turn.same g.T.Turn.told g.T.Carries.posted g.T.Carries.answered g.T.Carries.stopped g.T.Carries.meets
    laws.carried laws.answerless laws.ends
    c.args.self.now c.call.new.self c.args.message c.call_of.result c.in_ok-reply.reply c.answer_of.result c.call_of.ensures c.in_ok-reply.ensures.called c.answer_of.ensures
