use Rattle.std.proofs.Common.{arith, rules, ap, length}
use Rattle.std.proofs.lemmas.List.Sorted.{answers_always}
use Rattle.dkg_values.proofs.PairSearches.{pair_found, pair_missed}
use Rattle.dkg_values.proofs.map.Map.get.Goals as goal

pub returns-in-Ok : goal.returns-in-Ok
returns-in-Ok g c =
    let keys = answers_always _ _ _ (λ f a r next called. search rules) in
    let found = rw c.deref.ensures.value at (c.binary_search_by_key.ensures.position (λ p. p.0) keys) in
    rw (← c.self.view_is) (pair_found c.self.inside.pairs.items c.args.key c.in-Ok.i c.binary_search_by_key.result c.index.result.now c.self.invariant.rising c.in-Ok.is found (omega (arith, c.in-Ok.ensures.bound, ap length c.deref.ensures.value)) c.index.ensures)

pub returns-in-Err : goal.returns-in-Err
returns-in-Err g c =
    let keys = answers_always _ _ _ (λ f a r next called. search rules) in
    let found = rw c.deref.ensures.value at (c.binary_search_by_key.ensures.position (λ p. p.0) keys) in
    rw (← c.self.view_is) (pair_missed c.self.inside.pairs.items c.args.key c.in-Err.field-0 c.binary_search_by_key.result c.self.invariant.rising c.in-Err.is found)
