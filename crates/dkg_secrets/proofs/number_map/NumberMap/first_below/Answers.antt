use Rattle.std.proofs.Common.{◌≡◌, Bool, true, false, IsSome, subst, sym, refl, ◌∙◌}
use Rattle.std.specs.FinMap as map
use Rattle.std.specs.Cmp.{nat_cmp_total}
use Rattle.dkg_secrets.proofs.Map.{view_get, none_below, none_there, number_orders}
use Rattle.dkg_secrets.proofs.number_map.NumberMap.first_below.Goals as goal

pub returns-in-Some-clause-some : goal.returns-in-Some-clause-some
returns-in-Some-clause-some g c = (
  c.if-key-min.true,
  subst IsSome (sym (view_get nat_cmp_total map.nat_cmp-IsAntisymmetric c.args.self.now c.self.inside.values.entries c.in-Some.key.now c.self.view_is ∙ c.in-Some.ensures.value)) refl,
)

pub returns-in_default-clause-none : goal.returns-in_default-clause-none
returns-in_default-clause-none g c =
    none_below nat_cmp_total map.nat_cmp-IsAntisymmetric (λ k. k) number_orders c.args.self.now c.self.inside.values.entries c.in-Some.key.now c.args.min c.self.view_is c.if-key-min.false c.in-Some.ensures.least

pub returns-in_default-2-clause-none : goal.returns-in_default-2-clause-none
returns-in_default-2-clause-none g c = λ q below.
    none_there nat_cmp_total map.nat_cmp-IsAntisymmetric c.args.self.now c.self.inside.values.entries c.self.view_is
    (λ full. let some : IsSome c.first_key_value.result = c.first_key_value.ensures.variant.1 full in let h : ◌≡◌ {A = Bool} false true = subst IsSome c.in_default.is some in cc) q
