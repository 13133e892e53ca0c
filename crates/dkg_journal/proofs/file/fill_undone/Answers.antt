use Rattle.std.proofs.Common.{◌≡◌, length, ◌∙◌, ap, arith, rules, ℕ, replicate}
use Rattle.std.proofs.lemmas.List.{length-replicate}
use Rattle.dkg_journal.specs.Disk.{written}
use Rattle.dkg_journal.proofs.Loose.{length-written}
use Rattle.dkg_journal.proofs.Undone.{item_within, filled_more}
use Rattle.dkg_journal.proofs.file.fill_undone.Goals as goal

pub fill-requires : goal.fill-requires
fill-requires c =
    let fits = item_within _ _ c.loop-one.one-index c.one-item.result c.one-item.is c.requires c.loop-one-test.true in
    omega (arith, fits, c.len.ensures, c.loop-one.invariant.size)

pub loop-one-preserved : goal.loop-one-preserved
loop-one-preserved c =
    let fits = item_within _ _ c.loop-one.one-index c.one-item.result c.one-item.is c.requires c.loop-one-test.true in
    let many : c.len.result ≡ length c.one-item.result.old.items = search rules in
    let next = c.fill.ensures ∙ ap (λ (n : ℕ). written c.one-item.result.place (replicate n c.args.byte) c.loop-one.bytes.items) many in
    record {
      done = filled_more c.args.byte c.args.undo.now c.loop-one.one-index c.one-item.result _ _ _ c.one-item.is c.loop-one-test.true c.loop-one.invariant.done next;
      size = ap length next ∙ length-written c.one-item.result.place (replicate (length c.one-item.result.old.items) c.args.byte) c.loop-one.bytes.items (omega (arith, fits, length-replicate (length c.one-item.result.old.items) c.args.byte, c.loop-one.invariant.size)) ∙ c.loop-one.invariant.size;
    }
