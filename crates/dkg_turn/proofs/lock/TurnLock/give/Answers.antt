use Rattle.std.proofs.Common.{rules, ap, sym, subst}
use Rattle.dkg_turn.specs.Rules.{MayGive}
use Rattle.dkg_turn.proofs.Keeps.{passes_as}
use Rattle.dkg_turn.proofs.lock.TurnLock.give.Goals as goal

pub fetch_add-served-requires : goal.fetch_add-served-requires
fetch_add-served-requires g c = (search rules, search rules, passes_as _ _ _ _ _ c.args.node (search rules) (subst (λ v. MayGive g.T.Turn.turns v c.args.node) (sym (ap (λ m. m.0) c.exchange-out.ensures.3)) c.requires.fit))
