use Rattle.std.proofs.Common.{◌∙◌, sym, ap, subst, List, Ok, Err}
use Rattle.std.specs.Prelude.{codes}
use Rattle.std.proofs.lemmas.Result.{err_from_is_err_and}
use Rattle.dkg_text.specs.declared.script.BlockLine.{BlockLine}
use Rattle.dkg_reading.specs.Grammar.{block_line_at, blocks_at}
use Rattle.dkg_reading.specs.Lines.{ReadsIf, begins}
use Rattle.dkg_reading.proofs.ReadOn.{ends_if, more_if, refused_if}
use Rattle.dkg_reading.proofs.block_lines.read_blocks.Goals as goal

pub more-preserved : goal.more-preserved
more-preserved c =
    let read = block_line_at c.args.addressed c.args.config.now in
    let text = c.more.lines.rest.now in
    let rest = c.read_block_after.new.lines.rest.now in
    let reads = subst (λ (d : List BlockLine). ReadsIf (begins (codes "block")) (read d) text (Ok c.in_ok-block.field-0) rest) c.deref.ensures.value c.in_ok-block.ensures.reads in
    record { at = rw c.in_ok-push.ensures.items (more_if (begins (codes "block")) read c.more.blocks.items text rest c.in_ok-block.field-0 c.in-Some.block _ c.more.invariant.at c.in-Some.is reads c.in_ok-block.ensures.on) }

pub returns : goal.returns
unfolding blocks_at
returns c =
    let read = block_line_at c.args.addressed c.args.config.now in
    let text = c.more.lines.rest.now in
    let rest = c.read_block_after.new.lines.rest.now in
    let reads = subst (λ (d : List BlockLine). ReadsIf (begins (codes "block")) (read d) text (Ok c.in_ok-block.field-0) rest) c.deref.ensures.value c.in_ok-block.ensures.reads in
    ends_if (begins (codes "block")) read c.more.blocks.items text rest c.in_ok-block.field-0 _ c.more.invariant.at c.in_default.is reads ∙ ap (λ xs. Ok (xs, rest)) (sym c.new.ensures)

pub returns-in_err-block : goal.returns-in_err-block
unfolding blocks_at
returns-in_err-block c =
    let p = err_from_is_err_and c.from_residual.result c.from_residual.ensures.1 in
    let read = block_line_at c.args.addressed c.args.config.now in
    let text = c.more.lines.rest.now in
    let rest = c.read_block_after.new.lines.rest.now in
    let reads = subst (λ (d : List BlockLine). ReadsIf (begins (codes "block")) (read d) text (Err c.in_err-block.field-0.0) rest) c.deref.ensures.value c.in_err-block.ensures.reads in
    let r = refused_if (begins (codes "block")) read c.more.blocks.items text rest _ c.in_err-block.field-0.0 c.more.invariant.at reads in
    rw (p.1, p.2) r
