use Rattle.std.proofs.Common.{◌≡◌, ℕ, Bool, List, length, map, ◌∙◌, ap, subst, arith}
use Rattle.dkg_journal.specs.Kept.{KeptBytes, loose_by, touched, is_loose, IsBehind, KeepsFirst}
use Rattle.dkg_journal.specs.declared.file.Span.{Span}
use Rattle.dkg_journal.proofs.Counting.{by_spans}
use Rattle.dkg_journal.proofs.Undone.{undone}
use Rattle.dkg_journal.proofs.file.File.crash_first.Goals as goal

pub returns-clause-first : goal.returns-clause-first
returns-clause-first c =
    let f : KeptBytes = record { bytes = c.self.inside.bytes.items; synced = c.self.inside.synced; undo = map undone c.self.inside.undo.items } in
    let same : (i : ℕ) → by_spans c.deref.result.now i ≡ touched (map undone c.self.inside.undo.items) i = λ i. ap (λ (l : List Span). by_spans l i) c.deref.ensures.value ∙ c.sort_spans.ensures.same i ∙ c.self.invariant.2 i in
    let size : c.len.result ≡ length c.self.inside.bytes.items = omega (arith, c.len.ensures, c.self.inside.bytes.ok.0) in
    let behind : IsBehind (is_loose f) (length f.bytes) c.args.count c.place_behind-place.result.0 c.place_behind-place.result.1 =
    subst (λ (n : ℕ). IsBehind (is_loose f) n c.args.count c.place_behind-place.result.0 c.place_behind-place.result.1) size
    (subst (λ (t : ℕ → Bool). IsBehind (loose_by c.self.inside.synced t) c.len.result c.args.count c.place_behind-place.result.0 c.place_behind-place.result.1) (λ k i. same i k) c.place_behind-place.ensures) in
    subst (λ (k : KeptBytes). KeepsFirst c.args.count k c.crash_to.new.self.bytes) c.self.view_is (record {
      place = c.place_behind-place.result.0;
      left = c.place_behind-place.result.1;
      behind = behind;
      is = ap (λ (k : KeptBytes). k.bytes) c.crash_to.ensures.settled;
    })
