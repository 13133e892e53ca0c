use Rattle.std.proofs.Common.{rules, ◌≡◌, ◌++◌, ℕ, List, ap, sym, subst, ◌∙◌}
use Rattle.std.specs.FinMap as map
use Rattle.std.specs.Ordering.{nat_cmp}
use Rattle.std.specs.Cmp.{nat_cmp_total}
use Rattle.std.specs.List.Sorted.{IsStrictlyIncreasing}
use Rattle.std.proofs.lemmas.Map.Keys.{IsStrictlyIncreasing-from_sorted}
use Rattle.dkg_values.specs.Rising.{keys_of}
use Rattle.dkg_secrets.proofs.Map.{view_entries}
use Rattle.dkg_store.proofs.key_map.KeyMap.into_map.Goals as goal

pub loop-key-init : goal.loop-key-init
loop-key-init g c =
    ap (λ (l : List (ℕ × g.row.V.Denot)). l ++ c.into_iter-key-iterator.result) c.new-pairs.ensures.items ∙ c.into_iter-key-iterator.ensures.into_iter_gives.0
    ∙ sym (ap (λ (m : map.FinMap nat_cmp g.row.V.Denot). map.entries m) (sym c.self.view_is) ∙ view_entries nat_cmp_total map.nat_cmp-IsAntisymmetric c.self.inside.values.entries c.into_iter-key-iterator.ensures.into_iter_gives.5)

pub in_order-requires : goal.in_order-requires
in_order-requires g c =
    let all : c.loop-key.pairs.items ≡ map.entries c.args.self = search rules in
    let whole : c.loop-key.pairs.items ≡ c.self.inside.values.entries = all ∙ ap (λ (m : map.FinMap nat_cmp g.row.V.Denot). map.entries m) (sym c.self.view_is) ∙ view_entries nat_cmp_total map.nat_cmp-IsAntisymmetric c.self.inside.values.entries c.into_iter-key-iterator.ensures.into_iter_gives.5 in
    subst (λ (l : List (ℕ × g.row.V.Denot)). IsStrictlyIncreasing (keys_of l)) (sym whole) (IsStrictlyIncreasing-from_sorted (keys_of c.self.inside.values.entries) c.into_iter-key-iterator.ensures.into_iter_gives.5)
