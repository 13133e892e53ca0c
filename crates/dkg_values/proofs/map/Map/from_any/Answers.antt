use Rattle.std.proofs.Common.{arith, rules}
use Rattle.std.proofs.lemmas.Fn.{dedup_same}
use Rattle.std.proofs.lemmas.List.Sorted.{answers_always}
use Rattle.dkg_values.proofs.FirstPairs.{firsts, one_key, key_of, Firsts}
use Rattle.dkg_values.proofs.map.Map.from_any.Goals as goal

made : (g : _) (c : goal.After-known g) → Firsts c.args.pairs.items c.dedup_by_key.new.self.items
made g c =
    let kept = dedup_same _ one_key _ (λ x y b f' x' y' k. search rules) _ _ c.dedup_by_key.ensures.filtered in
    let keys = answers_always _ _ _ (λ f a r next called. search rules) in
    firsts c.args.pairs.items c.sort_by_key.new.self.items c.dedup_by_key.new.self.items c.sort_by_key.ensures.permutation (c.sort_by_key.ensures.stable key_of keys) (c.in_ok-sort_by_key.ensures.sorted key_of keys) kept

pub invariant_of-result : goal.invariant_of-result
invariant_of-result g c = record { rising = (made g c).rising; in_bound = omega (arith, c.dedup_by_key.ensures.bound, c.sort_by_key.ensures.len, c.requires); small = λ i. rw (← c.deref.ensures.value) (c.known.ensures i) }

pub returns-clause-exact : goal.returns-clause-exact
returns-clause-exact g c = (made g c).is

pub returns-clause-first : goal.returns-clause-first
returns-clause-first g c = (made g c).found
