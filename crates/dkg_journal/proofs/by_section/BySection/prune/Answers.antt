use Rattle.std.proofs.Common.{subst, sym}
use Rattle.std.specs.Ordering.{nat_cmp}
use Rattle.dkg_journal.proofs.Map.{StaysOrGoes}
use Rattle.std.specs.FinMap as map
use Rattle.std.specs.Cmp.{nat_cmp_total}
use Rattle.dkg_journal.proofs.Map.{gone_at, all_gone, one_less}
use Rattle.dkg_journal.proofs.by_section.BySection.prune.Goals as goal

pub loop-section-smaller : goal.loop-section-smaller
loop-section-smaller g c = one_less nat_cmp_total map.nat_cmp-IsAntisymmetric c.loop-section.self c.remove.new.self c.in-Some.section c.in-Some.ensures.some.1 c.remove.ensures

pub loop-section-preserved : goal.loop-section-preserved
loop-section-preserved g c = λ q.
    subst (λ (m : map.FinMap nat_cmp g.row.V.Denot). StaysOrGoes c.args.min q (map.get c.args.self.now q) (map.get m q)) (sym c.remove.ensures)
    (gone_at nat_cmp_total map.nat_cmp-IsAntisymmetric (λ k. k) c.args.min c.args.self.now c.loop-section.self c.in-Some.section c.in-Some.ensures.some.0 c.loop-section.invariant q)

pub returns : goal.returns
returns g c = all_gone nat_cmp_total map.nat_cmp-IsAntisymmetric (λ k. k) c.args.min c.args.self.now c.loop-section.self c.loop-section.invariant c.in_default.ensures.none
