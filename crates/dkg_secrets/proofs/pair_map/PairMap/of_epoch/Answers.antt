use Rattle.std.proofs.Common.{ℕ, ◌^◌, ◌-◌, ◌==◌, nat_lt, List, refl, sym, ap, ◌∙◌}
use Rattle.std.specs.Prelude.{◌&&◌, filter}
use Rattle.std.specs.FinMap as map
use Rattle.std.specs.BTreeMap.Range.{range_contains}
use Rattle.std.specs.Range.{range_inclusive_end}
use Rattle.std.specs.declared.ops.Bound.TheVariants.{Included}
use Rattle.dkg_secrets.specs.Keys.{key_cmp}
use Rattle.dkg_secrets.proofs.Map.{view_entries, keys_total, exact_keys}
use Rattle.dkg_secrets.proofs.Ranges.{filter_alike, in_epoch_below}
use Rattle.dkg_secrets.proofs.pair_map.PairMap.of_epoch.Goals as goal

pub returns : goal.returns
returns g c =
    c.range.ensures.between c.new.ensures.exhausted
    ∙ ap (λ (b : ℕ × ℕ). filter (λ (e : (ℕ × ℕ) × g.row.V.Denot). range_contains key_cmp (Included b) (Included (range_inclusive_end c.new.result)) e.0) c.self.inside.values.entries) c.new.ensures.start
    ∙ ap (λ (b : ℕ × ℕ). filter (λ (e : (ℕ × ℕ) × g.row.V.Denot). range_contains key_cmp (Included (c.args.epoch, 0)) (Included b) e.0) c.self.inside.values.entries) c.new.ensures.end
    ∙ filter_alike _ _ (λ e. in_epoch_below (2 ^ 32 - 1) (2 ^ 32) c.args.epoch e.0 refl) c.self.inside.values.entries
    ∙ ap (λ (es : List ((ℕ × ℕ) × g.row.V.Denot)). filter (λ e. (e.0.0 == c.args.epoch) && nat_lt e.0.1 (2 ^ 32)) es)
    (sym (ap (λ (m : map.FinMap key_cmp g.row.V.Denot). map.entries m) (sym c.self.view_is) ∙ view_entries keys_total exact_keys c.self.inside.values.entries c.range.ensures.ordered))
