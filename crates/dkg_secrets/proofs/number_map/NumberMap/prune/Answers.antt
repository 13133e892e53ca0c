use Rattle.std.proofs.Common.{subst, sym}
use Rattle.std.specs.Ordering.{nat_cmp}
use Rattle.dkg_secrets.specs.Keys.{StaysOrGoes}
use Rattle.std.specs.FinMap as map
use Rattle.std.specs.Cmp.{nat_cmp_total}
use Rattle.dkg_secrets.proofs.Map.{gone_at, all_gone, one_less}
use Rattle.dkg_secrets.proofs.number_map.NumberMap.prune.Goals as goal

pub loop-key-smaller : goal.loop-key-smaller
loop-key-smaller g c = one_less nat_cmp_total map.nat_cmp-IsAntisymmetric c.loop-key.self c.remove.new.self c.in-Some.key c.in-Some.ensures.some.1 c.remove.ensures

pub loop-key-preserved : goal.loop-key-preserved
loop-key-preserved g c = λ q.
    subst (λ (m : map.FinMap nat_cmp g.row.V.Denot). StaysOrGoes c.args.min q (map.get c.args.self.now q) (map.get m q)) (sym c.remove.ensures)
    (gone_at nat_cmp_total map.nat_cmp-IsAntisymmetric (λ k. k) c.args.min c.args.self.now c.loop-key.self c.in-Some.key c.in-Some.ensures.some.0 c.loop-key.invariant q)

pub returns : goal.returns
returns g c = all_gone nat_cmp_total map.nat_cmp-IsAntisymmetric (λ k. k) c.args.min c.args.self.now c.loop-key.self c.loop-key.invariant c.in_default.ensures.none
