use Rattle.std.proofs.Common.{◌≡◌, Bool, true, false, IsSome, subst, sym, refl, ◌∙◌}
use Rattle.dkg_secrets.proofs.Map.{view_get, none_below, none_there, pair_orders, keys_total, exact_keys}
use Rattle.dkg_secrets.proofs.pair_map.PairMap.first_below.Goals as goal

pub returns-in-Some-clause-some : goal.returns-in-Some-clause-some
returns-in-Some-clause-some g c = (
  c.if-key-min.true,
  subst IsSome (sym (view_get keys_total exact_keys c.args.self.now c.self.inside.values.entries c.in-Some.key.now c.self.view_is ∙ c.in-Some.ensures.value)) refl,
)

pub returns-in_default-clause-none : goal.returns-in_default-clause-none
returns-in_default-clause-none g c =
    none_below keys_total exact_keys (λ k. k.0) pair_orders c.args.self.now c.self.inside.values.entries c.in-Some.key.now c.args.min c.self.view_is c.if-key-min.false c.in-Some.ensures.least

pub returns-in_default-2-clause-none : goal.returns-in_default-2-clause-none
returns-in_default-2-clause-none g c = λ q below.
    none_there keys_total exact_keys c.args.self.now c.self.inside.values.entries c.self.view_is
    (λ full. let some : IsSome c.first_key_value.result = c.first_key_value.ensures.variant.1 full in let h : ◌≡◌ {A = Bool} false true = subst IsSome c.in_default.is some in cc) q
