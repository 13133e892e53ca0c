use Rattle.std.proofs.Common.{subst, sym}
use Rattle.dkg_secrets.specs.Keys.{key_cmp}
use Rattle.dkg_secrets.specs.Keys.{StaysOrGoes}
use Rattle.std.specs.FinMap as map
use Rattle.dkg_secrets.proofs.Map.{gone_at, all_gone, one_less, keys_total, exact_keys}
use Rattle.dkg_secrets.proofs.pair_map.PairMap.prune.Goals as goal

pub loop-key-smaller : goal.loop-key-smaller
loop-key-smaller g c = one_less keys_total exact_keys c.loop-key.self c.remove_at.new.self c.in-Some.key c.in-Some.ensures.some.1 c.remove_at.ensures

pub loop-key-preserved : goal.loop-key-preserved
loop-key-preserved g c = λ q.
    subst (λ (m : map.FinMap key_cmp g.row.V.Denot). StaysOrGoes c.args.min q.0 (map.get c.args.self.now q) (map.get m q)) (sym c.remove_at.ensures)
    (gone_at keys_total exact_keys (λ k. k.0) c.args.min c.args.self.now c.loop-key.self c.in-Some.key c.in-Some.ensures.some.0 c.loop-key.invariant q)

pub returns : goal.returns
returns g c = all_gone keys_total exact_keys (λ k. k.0) c.args.min c.args.self.now c.loop-key.self c.loop-key.invariant c.in_default.ensures.none
