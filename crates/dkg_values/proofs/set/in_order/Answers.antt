use Rattle.std.proofs.Common.{◌≤◌, vec_len, arith}
use Rattle.std.proofs.lemmas.List.Filters.{dedup_is}
use Rattle.std.proofs.lemmas.List.Kept.{Contains-dedup_nat, Contains-from_dedup}
use Rattle.std.proofs.lemmas.List.Sorted.{Contains-permutation, IsPermutation-sym, length_permutation}
use Rattle.std.proofs.lemmas.Map.Keys.{IsStrictlyIncreasing-dedup}
use Rattle.dkg_values.specs.RisingLaws.{set_of-only}
use Rattle.dkg_values.proofs.set.in_order.Goals as goal

pub invariant_of-result : goal.invariant_of-result
invariant_of-result c =
    let is = dedup_is _ _ _ c.dedup.ensures.filtered in
    let moved = length_permutation _ _ c.sort_unstable.ensures.permutation in
    let bound : vec_len c.dedup.new.self ≤ vec_len c.sort_unstable.new.self = c.dedup.ensures.bound in
    record { rising = rw is (IsStrictlyIncreasing-dedup _ c.sort_unstable.ensures.sorted); in_bound = omega (arith, moved, bound, c.requires); small = λ i. rw (← c.deref.ensures.value) (c.known.ensures i) }

pub returns-clause-members : goal.returns-clause-members
returns-clause-members c =
    let is = dedup_is _ _ _ c.dedup.ensures.filtered in
    let moved = c.sort_unstable.ensures.permutation in
    record {
      rising = rw is (IsStrictlyIncreasing-dedup _ c.sort_unstable.ensures.sorted);
      has = λ x h. rw is (Contains-dedup_nat _ x (Contains-permutation _ _ x moved h));
      only = λ x h. Contains-permutation _ _ x (IsPermutation-sym _ _ moved) (Contains-from_dedup _ _ x (rw is at h));
    }

pub returns-clause-exact : goal.returns-clause-exact
returns-clause-exact c = set_of-only _ _ (returns-clause-members c)
