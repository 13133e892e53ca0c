use Rattle.std.proofs.Common.{length}
use Rattle.std.specs.Prelude.{is_some}
use Rattle.std.proofs.lemmas.Result.{err_from_is_err_and}
use Rattle.dkg_reading.proofs.Begun.{sync_refused}
use Rattle.dkg_reading.proofs.life_lines.read_sync.Goals as goal

pub returns-in_err-info-clause-reads : goal.returns-in_err-info-clause-reads
returns-in_err-info-clause-reads c =
    let p = err_from_is_err_and c.from_residual.result c.from_residual.ensures.1 in
    let known = c.args.known.now in
    let r = sync_refused known.addressed (is_some known.config.now.oneshot) (length known.blocks.now) c.args.lines.now.rest.now c.in_err-info.field-0.0 c.in_err-info.ensures.reads.0 c.in_err-info.ensures.reads.1 in
    rw (p.1, p.2) r
