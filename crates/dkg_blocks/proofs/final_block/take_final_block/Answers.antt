use Rattle.std.proofs.Common.{ap, arith, sym, ◌∙◌}
use Rattle.std.specs.Int.NonZero.{non_zero_u64_get}
use Rattle.std.proofs.lemmas.Result.{err_from_is_err_and}
use Rattle.dkg_store.proofs.Counts.{reached_behind}
use Rattle.dkg_core.specs.Blocks as blocks
use Rattle.dkg_life.specs.declared.life.Life.{Life}
use Rattle.dkg_life.specs.declared.stop.Stop.TheVariants.{Fault as Faulted}
use Rattle.dkg_life.specs.Ends.{by_stop, ends_in}
use Rattle.dkg_verifying.specs.Including.{derives_final}
use Rattle.dkg_verifying.specs.InclusionOf.{artifact_of}
use Rattle.dkg_life.specs.LiveOf.{live_of}
use Rattle.dkg_blocks.proofs.Applying.{carried_caused, carried_next, in_word, own_cause}
use Rattle.dkg_setup.proofs.OpeningCourses.{makes_as, tells_as}
use Rattle.dkg_life.proofs.Beside.{with_as, with_then}
use Rattle.dkg_blocks.proofs.Blaming.{result_caused_by}
use Rattle.dkg_life.proofs.Burning.{speaks_makes}
use Rattle.dkg_life.proofs.Caused.{caused_around, rose_around}
use Rattle.dkg_blocks.proofs.Applied.{concluded_ill, concluded_well}
use Rattle.dkg_verifying.proofs.Deriving.{final_block_is}
use Rattle.dkg_life.proofs.Kept.{moved_then}
use Rattle.dkg_blocks.proofs.Readying.{ready_still}
use Rattle.dkg_life.proofs.Said.{speaks_tells}
use Rattle.dkg_life.proofs.Speaking.{stops_speaks}
use Rattle.dkg_blocks.proofs.Standing.{behind_last, epoch_below}
use Rattle.dkg_life.proofs.Chained.{early_makes, early_told, then_makes, then_told}
use Rattle.dkg_blocks.proofs.final_block.take_final_block.Goals as goal

-- NO ARTIFACT

pub returns-in_err-artifact-clause-acts : goal.returns-in_err-artifact-clause-acts
returns-in_err-artifact-clause-acts g c = λ disk secrets provided fixed round beside of reads by provides has seen.
    let p = err_from_is_err_and c.from_residual.result c.from_residual.ensures.1 in
    rw (p.1, p.2) (with_as beside beside.inclusion (λ more none. tt)
    (λ now made. makes_as (final_block_is fixed of.of.reshare round c.args.block.now (live_of beside c.args.fence.now c.args.life.now)) _ (early_makes (derives_final fixed round (live_of beside c.args.fence.now c.args.life.now)) (λ it. blocks.concludes fixed c.args.block.now it.0 it.1) c.in_err-artifact.field-0.0 made)) (λ its is. tt)
    (c.in_err-artifact.ensures.acts disk secrets provided fixed round beside c.args.fence.now of.of reads by provides has seen))

pub returns-in_err-artifact-clause-tells : goal.returns-in_err-artifact-clause-tells
returns-in_err-artifact-clause-tells g c = λ provided fixed round beside of reads by provides has seen.
    let p = err_from_is_err_and c.from_residual.result c.from_residual.ensures.1 in
    rw (p.1, p.2) (with_as beside beside.inclusion (λ more none. tt)
    (λ now told. tells_as (final_block_is fixed of.of.reshare round c.args.block.now (live_of beside c.args.fence.now c.args.life.now)) _ (early_told (derives_final fixed round (live_of beside c.args.fence.now c.args.life.now)) (λ it. blocks.concludes fixed c.args.block.now it.0 it.1) c.in_err-artifact.field-0.0 told)) (λ its is. tt)
    (c.in_err-artifact.ensures.tells provided fixed round beside c.args.fence.now of.of reads by provides has seen))

pub returns-in_err-artifact-clause-causes : goal.returns-in_err-artifact-clause-causes
returns-in_err-artifact-clause-causes g c =
    let p = err_from_is_err_and c.from_residual.result c.from_residual.ensures.1 in
    rw (p.1, p.2) (caused_around g.D.Disk.tells (λ x. x) (λ x. x) (λ x. x) c.in_err-artifact.field-0.0 c.in_err-artifact.ensures.causes)

pub returns-in_err-artifact-clause-moves : goal.returns-in_err-artifact-clause-moves
returns-in_err-artifact-clause-moves g c = record {
  word = ap (λ (l : Life g.row.Dir.Denot). l.word) c.derive.ensures.stays.same;
  moved = c.derive.ensures.moved;
  fit = λ told fit. rw c.derive.ensures.stays.disk fit;
}

pub returns-in_err-artifact-clause-provider : goal.returns-in_err-artifact-clause-provider
returns-in_err-artifact-clause-provider g c = c.derive.ensures.stays.provider

-- NO INFO

pub carried_info-requires : goal.carried_info-requires
carried_info-requires g c = record { below = epoch_below (non_zero_u64_get c.args.terms.now.blocks_per_epoch) c.args.block.now.height c.args.bounds.now c.args.terms.now.long c.requires.last.are }

pub returns-in_err-info-clause-acts : goal.returns-in_err-info-clause-acts
returns-in_err-info-clause-acts g c = λ disk secrets provided fixed round beside of reads by provides has seen.
    let p = err_from_is_err_and c.from_residual-in_err-info.result c.from_residual-in_err-info.ensures.1 in
    rw (p.1, p.2) (with_as beside beside.inclusion (λ more none. tt)
    (λ now made. makes_as (final_block_is fixed of.of.reshare round c.args.block.now (live_of beside c.args.fence.now c.args.life.now)) _ (then_makes (derives_final fixed round (live_of beside c.args.fence.now c.args.life.now)) (λ it. blocks.concludes fixed c.args.block.now it.0 it.1) (artifact_of c.in_ok-artifact.artifact, live_of now c.args.fence.now c.derive.new.life) (by_stop (Faulted c.in_err-info.field-0.0)) made
    (speaks_makes (blocks.concludes fixed c.args.block.now (artifact_of c.in_ok-artifact.artifact) (live_of now c.args.fence.now c.derive.new.life)) (by_stop (Faulted c.in_err-info.field-0.0)) _ _ (stops_speaks (blocks.concludes fixed c.args.block.now (artifact_of c.in_ok-artifact.artifact) (live_of now c.args.fence.now c.derive.new.life)) c.in_err-info.field-0.0
    (concluded_ill fixed c.args.block.now (non_zero_u64_get c.args.terms.now.blocks_per_epoch) of.of.blocks of.of.reshare c.args.bounds.now c.requires.last.are (artifact_of c.in_ok-artifact.artifact) (live_of now c.args.fence.now c.derive.new.life) c.in_err-info.field-0.0 c.in_err-info.ensures.err)
    (own_cause c.args.block.now c.args.bounds.now.epoch c.in_err-info.field-0.0 c.in_err-info.ensures.err) c.derive.new.out.entries))))
    (λ its is. tt)
    (c.in_ok-artifact.ensures.acts disk secrets provided fixed round beside c.args.fence.now of.of reads by provides has seen))

pub returns-in_err-info-clause-tells : goal.returns-in_err-info-clause-tells
returns-in_err-info-clause-tells g c = λ provided fixed round beside of reads by provides has seen.
    let p = err_from_is_err_and c.from_residual-in_err-info.result c.from_residual-in_err-info.ensures.1 in
    rw (p.1, p.2) (with_as beside beside.inclusion (λ more none. tt)
    (λ now told. tells_as (final_block_is fixed of.of.reshare round c.args.block.now (live_of beside c.args.fence.now c.args.life.now)) _ (then_told (derives_final fixed round (live_of beside c.args.fence.now c.args.life.now)) (λ it. blocks.concludes fixed c.args.block.now it.0 it.1) (artifact_of c.in_ok-artifact.artifact, live_of now c.args.fence.now c.derive.new.life) (by_stop (Faulted c.in_err-info.field-0.0)) told
    (speaks_tells (blocks.concludes fixed c.args.block.now (artifact_of c.in_ok-artifact.artifact) (live_of now c.args.fence.now c.derive.new.life)) (by_stop (Faulted c.in_err-info.field-0.0)) (stops_speaks (blocks.concludes fixed c.args.block.now (artifact_of c.in_ok-artifact.artifact) (live_of now c.args.fence.now c.derive.new.life)) c.in_err-info.field-0.0
    (concluded_ill fixed c.args.block.now (non_zero_u64_get c.args.terms.now.blocks_per_epoch) of.of.blocks of.of.reshare c.args.bounds.now c.requires.last.are (artifact_of c.in_ok-artifact.artifact) (live_of now c.args.fence.now c.derive.new.life) c.in_err-info.field-0.0 c.in_err-info.ensures.err)
    (own_cause c.args.block.now c.args.bounds.now.epoch c.in_err-info.field-0.0 c.in_err-info.ensures.err) c.derive.new.out.entries))))
    (λ its is. tt)
    (c.in_ok-artifact.ensures.tells provided fixed round beside c.args.fence.now of.of reads by provides has seen))

pub returns-in_err-info-clause-causes : goal.returns-in_err-info-clause-causes
returns-in_err-info-clause-causes g c =
    let p = err_from_is_err_and c.from_residual-in_err-info.result c.from_residual-in_err-info.ensures.1 in
    rw (p.1, p.2) (caused_around g.D.Disk.tells (λ x. absurd x) (λ x. absurd x) (λ x. absurd x) (Faulted c.in_err-info.field-0.0)
    (carried_caused c.args.block.now c.args.bounds.now.epoch c.in_err-info.field-0.0 c.in_err-info.ensures.err))

pub returns-in_err-info-clause-moves : goal.returns-in_err-info-clause-moves
returns-in_err-info-clause-moves g c = record {
  word = ap (λ (l : Life g.row.Dir.Denot). l.word) c.derive.ensures.stays.same;
  moved = c.derive.ensures.moved;
  fit = λ told fit. rw c.derive.ensures.stays.disk fit;
}

pub returns-in_err-info-clause-provider : goal.returns-in_err-info-clause-provider
returns-in_err-info-clause-provider g c = c.derive.ensures.stays.provider

-- INTO THE NEXT EPOCH

pub derive-requires-clause-ready : goal.derive-requires-clause-ready
derive-requires-clause-ready g c = c.requires.ready

pub derive-requires-clause-including : goal.derive-requires-clause-including
derive-requires-clause-including g c = c.requires.including

pub derive-requires-clause-includes : goal.derive-requires-clause-includes
derive-requires-clause-includes g c = c.requires.last.includes

pub take_over-requires-clause-next : goal.take_over-requires-clause-next
take_over-requires-clause-next g c =
    carried_next c.args.block.now c.args.bounds.now.epoch c.in_ok-info.info.now c.in_ok-info.ensures.ok ∙ sym (behind_last (non_zero_u64_get c.args.terms.now.blocks_per_epoch) c.args.block.now.height c.args.bounds.now c.args.terms.now.long c.requires.last.are c.requires.last.last)

pub take_over-requires-clause-idle : goal.take_over-requires-clause-idle
take_over-requires-clause-idle g c = c.derive.ensures.hand ∙ c.requires.idle

pub take_over-requires-clause-me : goal.take_over-requires-clause-me
take_over-requires-clause-me g c = c.requires.me

pub take_over-requires-clause-ready : goal.take_over-requires-clause-ready
take_over-requires-clause-ready g c = ready_still g.D.Disk.tells g.D.Disk.files g.D.Disk.image g.C.Ceremony.ack_of g.C.Ceremony.deal_of g.C.Ceremony.check_ack_of c.args.terms.now c.args.life.now c.derive.new.life c.derive.ensures.stays.same c.args.devices.now c.derive.new.devices c.derive.ensures.stays.disk c.requires.ready

pub take_over-requires-clause-including : goal.take_over-requires-clause-including
take_over-requires-clause-including g c = c.in_ok-artifact.ensures.including

pub returns-clause-acts : goal.returns-clause-acts
returns-clause-acts g c = λ disk secrets provided fixed round beside of reads by provides has seen.
    with_then beside (c.in_ok-artifact.ensures.acts disk secrets provided fixed round beside c.args.fence.now of.of reads by provides has seen) (λ now its made.
    with_as now now.inclusion (λ more took. took)
    (λ last taken. makes_as (final_block_is fixed of.of.reshare round c.args.block.now (live_of beside c.args.fence.now c.args.life.now)) _ (then_makes (derives_final fixed round (live_of beside c.args.fence.now c.args.life.now)) (λ it. blocks.concludes fixed c.args.block.now it.0 it.1) (artifact_of c.in_ok-artifact.artifact, live_of now c.args.fence.now c.derive.new.life) (ends_in (live_of last c.take_over.new.fence c.take_over.new.life) c.take_over.result) made
    (makes_as (concluded_well fixed c.args.block.now (non_zero_u64_get c.args.terms.now.blocks_per_epoch) of.of.blocks of.of.reshare c.args.bounds.now c.requires.last.are (artifact_of c.in_ok-artifact.artifact) (live_of now c.args.fence.now c.derive.new.life) c.in_ok-info.info.now c.in_ok-info.ensures.ok) _ taken)))
    (λ i is. is)
    (c.take_over.ensures.acts disk secrets fixed now (in_word c.args.terms.now c.args.life.now.word c.derive.new.life.word fixed (ap (λ (l : Life g.row.Dir.Denot). l.word) c.derive.ensures.stays.same) of) reads by provides.spelling_is its))

pub returns-clause-tells : goal.returns-clause-tells
returns-clause-tells g c = λ provided fixed round beside of reads by provides has seen.
    with_then beside (c.in_ok-artifact.ensures.tells provided fixed round beside c.args.fence.now of.of reads by provides has seen) (λ now its told.
    with_as now now.inclusion (λ more took. took)
    (λ last taken. tells_as (final_block_is fixed of.of.reshare round c.args.block.now (live_of beside c.args.fence.now c.args.life.now)) _ (then_told (derives_final fixed round (live_of beside c.args.fence.now c.args.life.now)) (λ it. blocks.concludes fixed c.args.block.now it.0 it.1) (artifact_of c.in_ok-artifact.artifact, live_of now c.args.fence.now c.derive.new.life) (ends_in (live_of last c.take_over.new.fence c.take_over.new.life) c.take_over.result) told
    (tells_as (concluded_well fixed c.args.block.now (non_zero_u64_get c.args.terms.now.blocks_per_epoch) of.of.blocks of.of.reshare c.args.bounds.now c.requires.last.are (artifact_of c.in_ok-artifact.artifact) (live_of now c.args.fence.now c.derive.new.life) c.in_ok-info.info.now c.in_ok-info.ensures.ok) _ taken)))
    (λ i is. is)
    (c.take_over.ensures.tells fixed now (in_word c.args.terms.now c.args.life.now.word c.derive.new.life.word fixed (ap (λ (l : Life g.row.Dir.Denot). l.word) c.derive.ensures.stays.same) of) reads by provides.spelling_is its))

pub returns-clause-ready : goal.returns-clause-ready
returns-clause-ready g c = c.take_over.ensures.ready

pub returns-clause-including : goal.returns-clause-including
returns-clause-including g c = c.take_over.ensures.including

pub returns-clause-moves : goal.returns-clause-moves
returns-clause-moves g c = record {
  word = c.take_over.ensures.moves.word ∙ ap (λ (l : Life g.row.Dir.Denot). l.word) c.derive.ensures.stays.same;
  moved = moved_then g.D.Disk.tells g.D.Disk.made g.X.SecretStore.made g.D.Disk.faults g.X.SecretStore.faults g.met.D.Disk.made_more g.met.X.SecretStore.made_more _ _ _ c.derive.ensures.moved c.take_over.ensures.moves.moved;
  fit = λ told fit. c.take_over.ensures.moves.fit told (rw c.derive.ensures.stays.disk fit);
}

pub returns-clause-provider : goal.returns-clause-provider
returns-clause-provider g c = c.derive.ensures.stays.provider

pub returns-clause-causes : goal.returns-clause-causes
returns-clause-causes g c =
    result_caused_by g.D.Disk.tells (λ x. rose_around _ _ _ _ c.derive.ensures.moved.later_disk c.take_over.ensures.moves.moved.later_disk (omega arith) x)
    (λ x. rose_around _ _ _ _ c.derive.ensures.moved.later_secrets c.take_over.ensures.moves.moved.later_secrets (omega arith) x)
    (λ x. reached_behind _ _ _ c.derive.ensures.moved.counts x) c.take_over.result c.take_over.ensures.causes
