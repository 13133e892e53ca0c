use Rattle.std.proofs.Common.{◌+◌, Some, ap, refl, sym, ◌∙◌}
use Rattle.std.specs.Int.NonZero.{non_zero_u64_get}
use Rattle.std.proofs.lemmas.Result.{err_from_is_err_and}
use Rattle.dkg_ceremony.specs.Schedule.{epoch_of}
use Rattle.dkg_core.specs.Blocks as blocks
use Rattle.dkg_core.specs.Sources.{Tip}
use Rattle.dkg_life.specs.Ends.{by_stop}
use Rattle.dkg_life.specs.LiveOf.{live_of}
use Rattle.dkg_store.specs.Acts.{went}
use Rattle.dkg_blocks.proofs.Applying.{can_read}
use Rattle.dkg_setup.proofs.OpeningCourses.{makes_as, tells_as}
use Rattle.dkg_life.proofs.Beside.{emptied, emptied_fresh, then_well, with_as, with_in, with_then}
use Rattle.dkg_life.proofs.Burning.{speaks_makes}
use Rattle.dkg_life.proofs.Chained.{early_makes, early_told, then_makes, then_told}
use Rattle.dkg_life.proofs.Committing.{in_any}
use Rattle.dkg_verifying.proofs.Included.{anew_settled, seen_anew}
use Rattle.dkg_life.proofs.Kept.{moved_none}
use Rattle.dkg_blocks.proofs.PassingOn.{passes_as, sets_up, sets_up_anew}
use Rattle.dkg_life.proofs.Said.{speaks_tells}
use Rattle.dkg_blocks.proofs.final_block.pass_on.Goals as goal

pub set_up_committed-requires-clause-open : goal.set_up_committed-requires-clause-open
set_up_committed-requires-clause-open g c = c.requires.open

pub set_up_committed-requires-clause-awaited : goal.set_up_committed-requires-clause-awaited
set_up_committed-requires-clause-awaited g c = c.requires.next ∙ ap (λ (t : Tip). epoch_of (non_zero_u64_get c.args.terms.now.blocks_per_epoch) (t.height + 1)) (sym c.tip_of.ensures)

pub set_up_committed-requires-clause-me : goal.set_up_committed-requires-clause-me
set_up_committed-requires-clause-me g c = c.requires.me

pub set_up_committed-requires-clause-current : goal.set_up_committed-requires-clause-current
set_up_committed-requires-clause-current g c = c.requires.current

-- NOT ALL WAS ANSWERED

pub returns-in_err-answer_all-clause-acts : goal.returns-in_err-answer_all-clause-acts
returns-in_err-answer_all-clause-acts g c = λ disk secrets fixed beside of reads by seen.
    let p = err_from_is_err_and c.from_residual.result c.from_residual.ensures.1 in
    let life = record c.args.life.now { tip = Some c.tip_of.result } in
    let course = blocks.answers_all beside.inclusion.queue (live_of beside c.args.fence.now life) in
    let stop = c.in_err-answer_all.field-0.0 in
    rw (p.1, p.2) (with_as beside beside.inclusion (λ more took. tt) (λ now speaks.
    makes_as (passes_as fixed c.args.block.now c.args.info.now of.of.reshare beside c.args.fence.now c.args.life.now c.tip_of.result c.tip_of.ensures) _
    (early_makes course (sets_up fixed c.args.block.now c.args.info.now of.of.reshare) stop (speaks_makes course (by_stop stop) _ _ speaks))) (λ i known. tt)
    (c.in_err-answer_all.ensures.speaks beside c.args.fence.now life seen))

pub returns-in_err-answer_all-clause-tells : goal.returns-in_err-answer_all-clause-tells
returns-in_err-answer_all-clause-tells g c = λ fixed beside of reads by seen.
    let p = err_from_is_err_and c.from_residual.result c.from_residual.ensures.1 in
    let life = record c.args.life.now { tip = Some c.tip_of.result } in
    let course = blocks.answers_all beside.inclusion.queue (live_of beside c.args.fence.now life) in
    let stop = c.in_err-answer_all.field-0.0 in
    rw (p.1, p.2) (with_as beside beside.inclusion (λ more took. tt) (λ now speaks.
    tells_as (passes_as fixed c.args.block.now c.args.info.now of.of.reshare beside c.args.fence.now c.args.life.now c.tip_of.result c.tip_of.ensures) _
    (early_told course (sets_up fixed c.args.block.now c.args.info.now of.of.reshare) stop (speaks_tells course (by_stop stop) speaks))) (λ i known. tt)
    (c.in_err-answer_all.ensures.speaks beside c.args.fence.now life seen))

pub returns-in_err-answer_all-clause-moves : goal.returns-in_err-answer_all-clause-moves
returns-in_err-answer_all-clause-moves g c = record {
  word = refl;
  moved = moved_none g.D.Disk.tells g.D.Disk.made g.X.SecretStore.made g.D.Disk.faults g.X.SecretStore.faults g.met.D.Disk.made_none g.met.X.SecretStore.made_none c.args.devices.now;
  fit = λ told fit. fit;
}

pub returns-in_err-answer_all-clause-causes : goal.returns-in_err-answer_all-clause-causes
returns-in_err-answer_all-clause-causes g c =
    let p = err_from_is_err_and c.from_residual.result c.from_residual.ensures.1 in
    rw (p.1, p.2) (rw c.in_err-answer_all.ensures.memory tt)

-- IT GOES ON

pub returns-clause-acts : goal.returns-clause-acts
returns-clause-acts g c = λ disk secrets fixed beside of reads by seen.
    let life = record c.args.life.now { tip = Some c.tip_of.result } in
    let course = blocks.answers_all beside.inclusion.queue (live_of beside c.args.fence.now life) in
    with_then beside (c.in_ok-answer_all.ensures.speaks beside c.args.fence.now life seen) (λ now known speaks.
    with_in now (emptied now.inclusion) (λ more took. took) (λ end made.
    makes_as (passes_as fixed c.args.block.now c.args.info.now of.of.reshare beside c.args.fence.now c.args.life.now c.tip_of.result c.tip_of.ensures) _
    (then_makes course (sets_up fixed c.args.block.now c.args.info.now of.of.reshare) (live_of now c.args.fence.now life) _ (speaks_makes course (went (live_of now c.args.fence.now life)) _ _ speaks)
    (makes_as (sets_up_anew fixed c.args.block.now c.args.info.now of.of.reshare now c.args.fence.now life) _ made)))
    _ (in_any c.set_up_committed.result (seen_anew c.answer_all.new.inclusion now.inclusion known c.renew.new.self c.renew.ensures))
    (c.set_up_committed.ensures.acts disk secrets fixed (record now { inclusion = emptied now.inclusion }) (emptied_fresh now.inclusion) (record { of = of.of; word_is = of.word_is }) reads by))

pub returns-clause-tells : goal.returns-clause-tells
returns-clause-tells g c = λ fixed beside of reads by seen.
    let life = record c.args.life.now { tip = Some c.tip_of.result } in
    let course = blocks.answers_all beside.inclusion.queue (live_of beside c.args.fence.now life) in
    with_then beside (c.in_ok-answer_all.ensures.speaks beside c.args.fence.now life seen) (λ now known speaks.
    with_in now (emptied now.inclusion) (λ more took. took) (λ end told.
    tells_as (passes_as fixed c.args.block.now c.args.info.now of.of.reshare beside c.args.fence.now c.args.life.now c.tip_of.result c.tip_of.ensures) _
    (then_told course (sets_up fixed c.args.block.now c.args.info.now of.of.reshare) (live_of now c.args.fence.now life) _ (speaks_tells course (went (live_of now c.args.fence.now life)) speaks)
    (tells_as (sets_up_anew fixed c.args.block.now c.args.info.now of.of.reshare now c.args.fence.now life) _ told)))
    _ (in_any c.set_up_committed.result (seen_anew c.answer_all.new.inclusion now.inclusion known c.renew.new.self c.renew.ensures))
    (c.set_up_committed.ensures.tells.1 fixed (record now { inclusion = emptied now.inclusion }) (emptied_fresh now.inclusion) (record { of = of.of; word_is = of.word_is })
    (can_read fixed c.set_up_committed.ensures.tells.0 reads) by))

pub returns-clause-including : goal.returns-clause-including
returns-clause-including g c =
    then_well c.set_up_committed.result (λ some. anew_settled g.C.Ceremony.check_log_of g.C.Ceremony.dealing_of g.C.Ceremony.finish_of (non_zero_u64_get c.args.terms.now.blocks_per_epoch) c.set_up_committed.new.life
    c.answer_all.new.inclusion c.renew.new.self c.renew.ensures (λ apart. some)) c.set_up_committed.ensures.current

pub returns-clause-ready : goal.returns-clause-ready
returns-clause-ready g c = c.set_up_committed.ensures.ready

pub returns-clause-moves : goal.returns-clause-moves
returns-clause-moves g c = record {
  word = c.set_up_committed.ensures.word;
  moved = c.set_up_committed.ensures.moved;
  fit = c.set_up_committed.ensures.fit;
}

pub returns-clause-causes : goal.returns-clause-causes
returns-clause-causes g c = c.set_up_committed.ensures.causes
