use Rattle.std.proofs.Common.{◌≡◌, ◌++◌, ◌∷◌, ℕ, List, map, sym, ap, subst, ◌∙◌}
use Rattle.std.specs.FinMap as map_of
use Rattle.std.specs.Ordering.{nat_cmp}
use Rattle.dkg_store.specs.Recorded.{at_epoch}
use Rattle.dkg_store.proofs.Own.{next_entry, none_yet}
use Rattle.dkg_store.proofs.store.copy_of_epoch.Goals as goal

pub loop-key-init : goal.loop-key-init
loop-key-init g c =
    ap (λ (m : map_of.FinMap nat_cmp g.row.V.Denot). map_of.entries m ++ map (λ p. (p.0.1, p.1)) c.into_iter-key-iterator.result) c.new-kept.ensures
    ∙ ap (λ (l : List (ℕ × g.row.V.Denot)). l ++ map (λ p. (p.0.1, p.1)) c.into_iter-key-iterator.result) none_yet
    ∙ ap (λ (l : List ((ℕ × ℕ) × g.row.V.Denot)). map (λ p. (p.0.1, p.1)) l) (c.into_iter-key-iterator.ensures.into_iter_gives ∙ c.of_epoch-key-items.ensures)
    ∙ ap (λ (n : ℕ). at_epoch n c.args.values.now) c.epoch.view_is

pub loop-key-preserved : goal.loop-key-preserved
loop-key-preserved g c =
    let rest : List (ℕ × g.row.V.Denot) = map (λ p. (p.0.1, p.1)) c.next.new.self in
    let e : map_of.entries c.loop-key.kept ++ (c.in-Some.field-0-0.now.1, c.in-Some.value.now) ∷ rest ≡ at_epoch c.args.epoch c.args.values.now =
    sym (ap (λ (l : List ((ℕ × ℕ) × g.row.V.Denot)). map_of.entries c.loop-key.kept ++ map (λ p. (p.0.1, p.1)) l) c.in-Some.ensures.steps) ∙ c.loop-key.invariant in
    subst (λ (m : map_of.FinMap nat_cmp g.row.V.Denot). map_of.entries m ++ rest ≡ at_epoch c.args.epoch c.args.values.now) (sym c.in_ok-insert.ensures.done)
    (subst (λ (v : g.row.V.Denot). map_of.entries (map_of.insert c.loop-key.kept c.in-Some.field-0-0.now.1 v) ++ rest ≡ at_epoch c.args.epoch c.args.values.now) (sym c.in_ok-copy.ensures)
    (next_entry c.args.epoch c.args.values.now c.loop-key.kept c.in-Some.field-0-0.now.1 c.in-Some.value.now rest e))
