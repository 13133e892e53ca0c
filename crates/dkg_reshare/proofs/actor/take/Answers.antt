use Rattle.std.proofs.Common.{Option, ap, refl, subst, sym}
use Rattle.std.specs.Prelude.{IsSome}
use Rattle.std.specs.Int.NonZero.{non_zero_u64_get}
use Rattle.dkg_infos.specs.declared.info.EpochInfo.{EpochInfo}
use Rattle.dkg_store.specs.Acts.{went}
use Rattle.dkg_core.specs.Courses.{Goes}
use Rattle.dkg_core.specs.Including as including
use Rattle.dkg_life.specs.declared.life.Life.{Life}
use Rattle.dkg_life.specs.Ends.{ends_in}
use Rattle.dkg_life.specs.LiveOf.{live_of}
use Rattle.dkg_life.proofs.Beside.{none_with, took_none, took_nothing, with_as}
use Rattle.dkg_blocks.proofs.Blaming.{result_caused, want_caused}
use Rattle.dkg_life.proofs.Burning.{speaks_makes}
use Rattle.dkg_verifying.proofs.Included.{released_live, released_settled, served_settled, stays_settled}
use Rattle.dkg_life.proofs.Kept.{moved_none}
use Rattle.dkg_dealing.proofs.Read.{heard_bytes, heard_told}
use Rattle.dkg_life.proofs.Said.{speaks_tells}
use Rattle.dkg_life.proofs.Seated.{on_ok}
use Rattle.dkg_life.proofs.Speaking.{goes_speaks}
use Rattle.dkg_reshare.proofs.actor.take.Goals as goal

pub returns-in-Peer-clause-acts : goal.returns-in-Peer-clause-acts
returns-in-Peer-clause-acts g c = λ disk secrets provided fixed beside of reads by provides seen.
    rw c.in-Peer.is (none_with beside _ _ _ beside.inclusion (on_ok c.hear_peer.result seen) (on_ok c.hear_peer.result (took_none g.R.Registrar.tells (g.R.Registrar.taken c.args.registrar.now)))
    (heard_bytes fixed c.in-Peer.from c.as_slice.result.now c.in-Peer.bytes (live_of beside c.args.fence.now c.args.life.now) c.as_slice.ensures
    (c.hear_peer.ensures.acts disk secrets fixed beside c.args.fence.now of.of by.answers)))

pub returns-in-Peer-clause-tells : goal.returns-in-Peer-clause-tells
returns-in-Peer-clause-tells g c = λ provided fixed beside of reads by provides seen.
    rw c.in-Peer.is (none_with beside _ _ _ beside.inclusion (on_ok c.hear_peer.result seen) (on_ok c.hear_peer.result (took_none g.R.Registrar.tells (g.R.Registrar.taken c.args.registrar.now)))
    (heard_told fixed c.in-Peer.from c.as_slice.result.now c.in-Peer.bytes (live_of beside c.args.fence.now c.args.life.now) c.as_slice.ensures
    (c.hear_peer.ensures.tells fixed beside c.args.fence.now of.of by.answers)))

pub returns-in-Peer-clause-causes : goal.returns-in-Peer-clause-causes
returns-in-Peer-clause-causes g c = result_caused g.D.Disk.tells (λ x. x) (λ x. x) (λ x. x) c.hear_peer.result c.hear_peer.ensures.causes

pub returns-in-Peer-clause-including : goal.returns-in-Peer-clause-including
returns-in-Peer-clause-including g c =
    on_ok c.hear_peer.result (stays_settled g.C.Ceremony.check_log_of g.C.Ceremony.dealing_of g.C.Ceremony.finish_of (non_zero_u64_get c.args.terms.now.blocks_per_epoch) c.args.life.now c.hear_peer.new.life c.args.inclusion.now c.requires.including.ready
    (ap (λ (l : Life g.row.Dir.Denot). l.stage) c.hear_peer.ensures.rest) (ap (λ (l : Life g.row.Dir.Denot). l.round) c.hear_peer.ensures.rest) (ap (λ (l : Life g.row.Dir.Denot). l.tip) c.hear_peer.ensures.rest)
    (λ some. subst (λ (o : Option (EpochInfo g.row.Dir.Denot)). IsSome o) (sym c.hear_peer.ensures.current) some) c.requires.including)

pub returns-in-Peer-clause-provider : goal.returns-in-Peer-clause-provider
returns-in-Peer-clause-provider g c = λ provided. (λ epoch. refl, λ epoch peers. refl)

pub returns-in-Peer-clause-ready : goal.returns-in-Peer-clause-ready
returns-in-Peer-clause-ready g c = c.hear_peer.ensures.ready

pub returns-in-Peer-clause-moves : goal.returns-in-Peer-clause-moves
returns-in-Peer-clause-moves g c = record {
  word = c.hear_peer.ensures.word;
  moved = c.hear_peer.ensures.moved;
  fit = c.hear_peer.ensures.fit;
}

pub hear_peer-requires-clause-me : goal.hear_peer-requires-clause-me
hear_peer-requires-clause-me g c = c.requires.me

pub hear_peer-requires-clause-ready : goal.hear_peer-requires-clause-ready
hear_peer-requires-clause-ready g c = c.requires.ready

pub take_block-requires-clause-me : goal.take_block-requires-clause-me
take_block-requires-clause-me g c = c.requires.me

pub take_block-requires-clause-ready : goal.take_block-requires-clause-ready
take_block-requires-clause-ready g c = c.requires.ready

pub take_block-requires-clause-including : goal.take_block-requires-clause-including
take_block-requires-clause-including g c = c.requires.including

pub take_block-requires-clause-within : goal.take_block-requires-clause-within
take_block-requires-clause-within g c = let within = rw c.in-Finalized.is at c.requires.within in within

pub returns-in-Finalized-clause-acts : goal.returns-in-Finalized-clause-acts
returns-in-Finalized-clause-acts g c = λ disk secrets provided fixed beside of reads by provides seen.
    rw c.in-Finalized.is (c.take_block.ensures.acts disk secrets provided fixed beside of reads by provides seen)

pub returns-in-Finalized-clause-tells : goal.returns-in-Finalized-clause-tells
returns-in-Finalized-clause-tells g c = λ provided fixed beside of reads by provides seen.
    rw c.in-Finalized.is (c.take_block.ensures.tells provided fixed beside of reads by provides seen)

pub returns-in-Finalized-clause-ready : goal.returns-in-Finalized-clause-ready
returns-in-Finalized-clause-ready g c = c.take_block.ensures.ready

pub returns-in-Finalized-clause-including : goal.returns-in-Finalized-clause-including
returns-in-Finalized-clause-including g c = c.take_block.ensures.including

pub returns-in-Finalized-clause-moves : goal.returns-in-Finalized-clause-moves
returns-in-Finalized-clause-moves g c = c.take_block.ensures.moves

pub returns-in-Finalized-clause-provider : goal.returns-in-Finalized-clause-provider
returns-in-Finalized-clause-provider g c = c.take_block.ensures.provider

pub returns-in-Finalized-clause-causes : goal.returns-in-Finalized-clause-causes
returns-in-Finalized-clause-causes g c = c.take_block.ensures.causes

pub returns-in-NextLog-clause-acts : goal.returns-in-NextLog-clause-acts
returns-in-NextLog-clause-acts g c = λ disk secrets provided fixed beside of reads by provides seen.
    rw c.in-NextLog.is (with_as beside beside.inclusion (λ more none. on_ok c.serve.result (took_nothing g.R.Registrar.tells (g.R.Registrar.taken c.args.registrar.now) more none))
    (λ now spoken. speaks_makes (including.serves_log fixed c.in-NextLog.request c.in-NextLog.height (live_of beside c.args.fence.now c.args.life.now)) (ends_in (live_of now c.args.fence.now c.args.life.now) c.serve.result) _ _ spoken) (λ i its. its)
    (c.serve.ensures.speaks fixed beside c.args.fence.now provides.spelling_is seen))

pub returns-in-NextLog-clause-tells : goal.returns-in-NextLog-clause-tells
returns-in-NextLog-clause-tells g c = λ provided fixed beside of reads by provides seen.
    rw c.in-NextLog.is (with_as beside beside.inclusion (λ more none. on_ok c.serve.result (took_nothing g.R.Registrar.tells (g.R.Registrar.taken c.args.registrar.now) more none))
    (λ now spoken. speaks_tells (including.serves_log fixed c.in-NextLog.request c.in-NextLog.height (live_of beside c.args.fence.now c.args.life.now)) (ends_in (live_of now c.args.fence.now c.args.life.now) c.serve.result) spoken) (λ i its. its)
    (c.serve.ensures.speaks fixed beside c.args.fence.now provides.spelling_is seen))

pub returns-in-NextLog-clause-causes : goal.returns-in-NextLog-clause-causes
returns-in-NextLog-clause-causes g c = result_caused g.D.Disk.tells (λ x. x) (λ x. x) (λ x. x) c.serve.result (want_caused _ _ _ c.serve.result c.serve.ensures.memory)

pub returns-in-NextLog-clause-ready : goal.returns-in-NextLog-clause-ready
returns-in-NextLog-clause-ready g c = on_ok c.serve.result c.requires.ready

pub returns-in-NextLog-clause-including : goal.returns-in-NextLog-clause-including
returns-in-NextLog-clause-including g c =
    on_ok c.serve.result (served_settled g.C.Ceremony.check_log_of g.C.Ceremony.dealing_of g.C.Ceremony.finish_of (non_zero_u64_get c.args.terms.now.blocks_per_epoch) c.args.life.now c.args.inclusion.now c.requires.including.ready c.serve.new.inclusion c.serve.ensures.rest c.serve.ensures.unserved c.requires.including)

pub returns-in-NextLog-clause-moves : goal.returns-in-NextLog-clause-moves
returns-in-NextLog-clause-moves g c = record {
  word = refl;
  moved = moved_none g.D.Disk.tells g.D.Disk.made g.X.SecretStore.made g.D.Disk.faults g.X.SecretStore.faults g.met.D.Disk.made_none g.met.X.SecretStore.made_none c.args.devices.now;
  fit = λ told fit. fit;
}

pub returns-in-NextLog-clause-provider : goal.returns-in-NextLog-clause-provider
returns-in-NextLog-clause-provider g c = λ provided. (λ epoch. refl, λ epoch peers. refl)

pub returns-in-ReleaseLog-clause-acts : goal.returns-in-ReleaseLog-clause-acts
returns-in-ReleaseLog-clause-acts g c = λ disk secrets provided fixed beside of reads by provides seen.
    rw c.in-ReleaseLog.is (none_with beside _ _ _ (record beside { inclusion = (including.releases c.in-ReleaseLog.height (live_of beside c.args.fence.now c.args.life.now)).inclusion }).inclusion (c.release.ensures.released beside c.args.fence.now seen) (took_none g.R.Registrar.tells (g.R.Registrar.taken c.args.registrar.now))
    (speaks_makes {Dir = g.row.Dir.Denot} (Goes (including.releases c.in-ReleaseLog.height (live_of beside c.args.fence.now c.args.life.now))) (went (live_of (record beside { inclusion = (including.releases c.in-ReleaseLog.height (live_of beside c.args.fence.now c.args.life.now)).inclusion }) c.args.fence.now c.args.life.now)) _ _
    (goes_speaks {Dir = g.row.Dir.Denot} (Goes (including.releases c.in-ReleaseLog.height (live_of beside c.args.fence.now c.args.life.now))) (live_of (record beside { inclusion = (including.releases c.in-ReleaseLog.height (live_of beside c.args.fence.now c.args.life.now)).inclusion }) c.args.fence.now c.args.life.now) (including.releases c.in-ReleaseLog.height (live_of beside c.args.fence.now c.args.life.now)) refl (released_live c.in-ReleaseLog.height beside c.args.fence.now c.args.life.now) c.args.out.now.entries)))

pub returns-in-ReleaseLog-clause-tells : goal.returns-in-ReleaseLog-clause-tells
returns-in-ReleaseLog-clause-tells g c = λ provided fixed beside of reads by provides seen.
    rw c.in-ReleaseLog.is (none_with beside _ _ _ (record beside { inclusion = (including.releases c.in-ReleaseLog.height (live_of beside c.args.fence.now c.args.life.now)).inclusion }).inclusion (c.release.ensures.released beside c.args.fence.now seen) (took_none g.R.Registrar.tells (g.R.Registrar.taken c.args.registrar.now))
    (speaks_tells {Dir = g.row.Dir.Denot} (Goes (including.releases c.in-ReleaseLog.height (live_of beside c.args.fence.now c.args.life.now))) (went (live_of (record beside { inclusion = (including.releases c.in-ReleaseLog.height (live_of beside c.args.fence.now c.args.life.now)).inclusion }) c.args.fence.now c.args.life.now))
    (goes_speaks {Dir = g.row.Dir.Denot} (Goes (including.releases c.in-ReleaseLog.height (live_of beside c.args.fence.now c.args.life.now))) (live_of (record beside { inclusion = (including.releases c.in-ReleaseLog.height (live_of beside c.args.fence.now c.args.life.now)).inclusion }) c.args.fence.now c.args.life.now) (including.releases c.in-ReleaseLog.height (live_of beside c.args.fence.now c.args.life.now)) refl (released_live c.in-ReleaseLog.height beside c.args.fence.now c.args.life.now) c.args.out.now.entries)))

pub returns-in-ReleaseLog-clause-causes : goal.returns-in-ReleaseLog-clause-causes
returns-in-ReleaseLog-clause-causes g c = tt

pub returns-in-ReleaseLog-clause-ready : goal.returns-in-ReleaseLog-clause-ready
returns-in-ReleaseLog-clause-ready g c = c.requires.ready

pub returns-in-ReleaseLog-clause-including : goal.returns-in-ReleaseLog-clause-including
returns-in-ReleaseLog-clause-including g c =
    released_settled g.C.Ceremony.check_log_of g.C.Ceremony.dealing_of g.C.Ceremony.finish_of (non_zero_u64_get c.args.terms.now.blocks_per_epoch) c.args.life.now c.args.inclusion.now c.requires.including.ready c.release.new.inclusion c.release.ensures.rest c.release.ensures.unserved c.requires.including

pub returns-in-ReleaseLog-clause-moves : goal.returns-in-ReleaseLog-clause-moves
returns-in-ReleaseLog-clause-moves g c = record {
  word = refl;
  moved = moved_none g.D.Disk.tells g.D.Disk.made g.X.SecretStore.made g.D.Disk.faults g.X.SecretStore.faults g.met.D.Disk.made_none g.met.X.SecretStore.made_none c.args.devices.now;
  fit = λ told fit. fit;
}

pub returns-in-ReleaseLog-clause-provider : goal.returns-in-ReleaseLog-clause-provider
returns-in-ReleaseLog-clause-provider g c = λ provided. (λ epoch. refl, λ epoch peers. refl)

pub ask-requires-clause-ready : goal.ask-requires-clause-ready
ask-requires-clause-ready g c = c.requires.ready

pub ask-requires-clause-including : goal.ask-requires-clause-including
ask-requires-clause-including g c = c.requires.including

pub returns-in-EpochInfo-clause-acts : goal.returns-in-EpochInfo-clause-acts
returns-in-EpochInfo-clause-acts g c = λ disk secrets provided fixed beside of reads by provides seen.
    rw c.in-EpochInfo.is (with_as beside beside.inclusion (λ more none. on_ok c.ask.result (took_nothing g.R.Registrar.tells (g.R.Registrar.taken c.args.registrar.now) more none)) (λ now made. made) (λ i its. its)
    (c.ask.ensures.acts disk secrets provided fixed beside c.args.fence.now of.of reads by provides seen))

pub returns-in-EpochInfo-clause-tells : goal.returns-in-EpochInfo-clause-tells
returns-in-EpochInfo-clause-tells g c = λ provided fixed beside of reads by provides seen.
    rw c.in-EpochInfo.is (with_as beside beside.inclusion (λ more none. on_ok c.ask.result (took_nothing g.R.Registrar.tells (g.R.Registrar.taken c.args.registrar.now) more none)) (λ now told. told) (λ i its. its)
    (c.ask.ensures.tells provided fixed beside c.args.fence.now of.of reads by provides seen))

pub returns-in-EpochInfo-clause-causes : goal.returns-in-EpochInfo-clause-causes
returns-in-EpochInfo-clause-causes g c = result_caused g.D.Disk.tells (λ x. x) (λ x. x) (λ x. x) c.ask.result c.ask.ensures.causes

pub returns-in-EpochInfo-clause-moves : goal.returns-in-EpochInfo-clause-moves
returns-in-EpochInfo-clause-moves g c = record {
  word = ap (λ (l : Life g.row.Dir.Denot). l.word) c.ask.ensures.stays.same;
  moved = c.ask.ensures.moved;
  fit = λ told fit. rw c.ask.ensures.stays.disk fit;
}

pub returns-in-EpochInfo-clause-ready : goal.returns-in-EpochInfo-clause-ready
returns-in-EpochInfo-clause-ready g c = c.ask.ensures.ready

pub returns-in-EpochInfo-clause-including : goal.returns-in-EpochInfo-clause-including
returns-in-EpochInfo-clause-including g c = c.ask.ensures.including

pub returns-in-EpochInfo-clause-provider : goal.returns-in-EpochInfo-clause-provider
returns-in-EpochInfo-clause-provider g c = c.ask.ensures.stays.provider

pub feed-requires-clause-ready : goal.feed-requires-clause-ready
feed-requires-clause-ready g c = c.requires.ready

pub feed-requires-clause-including : goal.feed-requires-clause-including
feed-requires-clause-including g c = c.requires.including

pub returns-in-Feed-clause-acts : goal.returns-in-Feed-clause-acts
returns-in-Feed-clause-acts g c = λ disk secrets provided fixed beside of reads by provides seen.
    rw c.in-Feed.is (with_as beside beside.inclusion (λ more none. on_ok c.feed.result (took_nothing g.R.Registrar.tells (g.R.Registrar.taken c.args.registrar.now) more none)) (λ now made. made) (λ i its. its)
    (c.feed.ensures.acts disk secrets provided fixed beside c.args.fence.now of.of reads by provides seen))

pub returns-in-Feed-clause-tells : goal.returns-in-Feed-clause-tells
returns-in-Feed-clause-tells g c = λ provided fixed beside of reads by provides seen.
    rw c.in-Feed.is (with_as beside beside.inclusion (λ more none. on_ok c.feed.result (took_nothing g.R.Registrar.tells (g.R.Registrar.taken c.args.registrar.now) more none)) (λ now told. told) (λ i its. its)
    (c.feed.ensures.tells provided fixed beside c.args.fence.now of.of reads by provides seen))

pub returns-in-Feed-clause-causes : goal.returns-in-Feed-clause-causes
returns-in-Feed-clause-causes g c = result_caused g.D.Disk.tells (λ x. x) (λ x. x) (λ x. x) c.feed.result c.feed.ensures.causes

pub returns-in-Feed-clause-moves : goal.returns-in-Feed-clause-moves
returns-in-Feed-clause-moves g c = record {
  word = ap (λ (l : Life g.row.Dir.Denot). l.word) c.feed.ensures.stays.same;
  moved = c.feed.ensures.moved;
  fit = λ told fit. rw c.feed.ensures.stays.disk fit;
}

pub returns-in-Feed-clause-ready : goal.returns-in-Feed-clause-ready
returns-in-Feed-clause-ready g c = c.feed.ensures.ready

pub returns-in-Feed-clause-including : goal.returns-in-Feed-clause-including
returns-in-Feed-clause-including g c = c.feed.ensures.including

pub returns-in-Feed-clause-provider : goal.returns-in-Feed-clause-provider
returns-in-Feed-clause-provider g c = c.feed.ensures.stays.provider

pub end-requires-clause-ready : goal.end-requires-clause-ready
end-requires-clause-ready g c = c.requires.ready

pub end-requires-clause-including : goal.end-requires-clause-including
end-requires-clause-including g c = c.requires.including

pub returns-in-Over-clause-acts : goal.returns-in-Over-clause-acts
returns-in-Over-clause-acts g c = λ disk secrets provided fixed beside of reads by provides seen.
    rw c.in-Over.is (with_as beside beside.inclusion (λ more none. on_ok c.end.result (took_nothing g.R.Registrar.tells (g.R.Registrar.taken c.args.registrar.now) more none)) (λ now made. made) (λ i its. its)
    (c.end.ensures.acts disk secrets provided fixed beside c.args.fence.now of.of reads by provides seen))

pub returns-in-Over-clause-tells : goal.returns-in-Over-clause-tells
returns-in-Over-clause-tells g c = λ provided fixed beside of reads by provides seen.
    rw c.in-Over.is (with_as beside beside.inclusion (λ more none. on_ok c.end.result (took_nothing g.R.Registrar.tells (g.R.Registrar.taken c.args.registrar.now) more none)) (λ now told. told) (λ i its. its)
    (c.end.ensures.tells provided fixed beside c.args.fence.now of.of reads by provides seen))

pub returns-in-Over-clause-causes : goal.returns-in-Over-clause-causes
returns-in-Over-clause-causes g c = result_caused g.D.Disk.tells (λ x. x) (λ x. x) (λ x. x) c.end.result c.end.ensures.causes

pub returns-in-Over-clause-moves : goal.returns-in-Over-clause-moves
returns-in-Over-clause-moves g c = record {
  word = ap (λ (l : Life g.row.Dir.Denot). l.word) c.end.ensures.stays.same;
  moved = c.end.ensures.moved;
  fit = λ told fit. rw c.end.ensures.stays.disk fit;
}

pub returns-in-Over-clause-ready : goal.returns-in-Over-clause-ready
returns-in-Over-clause-ready g c = c.end.ensures.ready

pub returns-in-Over-clause-including : goal.returns-in-Over-clause-including
returns-in-Over-clause-including g c = c.end.ensures.including

pub returns-in-Over-clause-provider : goal.returns-in-Over-clause-provider
returns-in-Over-clause-provider g c = c.end.ensures.stays.provider

pub cancel-requires-clause-ready : goal.cancel-requires-clause-ready
cancel-requires-clause-ready g c = c.requires.ready

pub cancel-requires-clause-including : goal.cancel-requires-clause-including
cancel-requires-clause-including g c = c.requires.including

pub returns-in-Cancel-clause-acts : goal.returns-in-Cancel-clause-acts
returns-in-Cancel-clause-acts g c = λ disk secrets provided fixed beside of reads by provides seen.
    rw c.in-Cancel.is (with_as beside beside.inclusion (λ more none. on_ok c.cancel.result (took_nothing g.R.Registrar.tells (g.R.Registrar.taken c.args.registrar.now) more none)) (λ now made. made) (λ i its. its)
    (c.cancel.ensures.acts disk secrets provided fixed beside c.args.fence.now of.of reads by provides seen))

pub returns-in-Cancel-clause-tells : goal.returns-in-Cancel-clause-tells
returns-in-Cancel-clause-tells g c = λ provided fixed beside of reads by provides seen.
    rw c.in-Cancel.is (with_as beside beside.inclusion (λ more none. on_ok c.cancel.result (took_nothing g.R.Registrar.tells (g.R.Registrar.taken c.args.registrar.now) more none)) (λ now told. told) (λ i its. its)
    (c.cancel.ensures.tells provided fixed beside c.args.fence.now of.of reads by provides seen))

pub returns-in-Cancel-clause-causes : goal.returns-in-Cancel-clause-causes
returns-in-Cancel-clause-causes g c = result_caused g.D.Disk.tells (λ x. x) (λ x. x) (λ x. x) c.cancel.result c.cancel.ensures.causes

pub returns-in-Cancel-clause-moves : goal.returns-in-Cancel-clause-moves
returns-in-Cancel-clause-moves g c = record {
  word = ap (λ (l : Life g.row.Dir.Denot). l.word) c.cancel.ensures.stays.same;
  moved = c.cancel.ensures.moved;
  fit = λ told fit. rw c.cancel.ensures.stays.disk fit;
}

pub returns-in-Cancel-clause-ready : goal.returns-in-Cancel-clause-ready
returns-in-Cancel-clause-ready g c = c.cancel.ensures.ready

pub returns-in-Cancel-clause-including : goal.returns-in-Cancel-clause-including
returns-in-Cancel-clause-including g c = c.cancel.ensures.including

pub returns-in-Cancel-clause-provider : goal.returns-in-Cancel-clause-provider
returns-in-Cancel-clause-provider g c = c.cancel.ensures.stays.provider

pub work-requires-clause-ready : goal.work-requires-clause-ready
work-requires-clause-ready g c = c.requires.ready

pub work-requires-clause-including : goal.work-requires-clause-including
work-requires-clause-including g c = c.requires.including

pub returns-in-Work-clause-acts : goal.returns-in-Work-clause-acts
returns-in-Work-clause-acts g c = λ disk secrets provided fixed beside of reads by provides seen.
    rw c.in-Work.is (with_as beside beside.inclusion (λ more none. on_ok c.work.result (took_nothing g.R.Registrar.tells (g.R.Registrar.taken c.args.registrar.now) more none)) (λ now made. made) (λ i its. its)
    (c.work.ensures.acts disk secrets provided fixed beside c.args.fence.now of.of reads by provides seen))

pub returns-in-Work-clause-tells : goal.returns-in-Work-clause-tells
returns-in-Work-clause-tells g c = λ provided fixed beside of reads by provides seen.
    rw c.in-Work.is (with_as beside beside.inclusion (λ more none. on_ok c.work.result (took_nothing g.R.Registrar.tells (g.R.Registrar.taken c.args.registrar.now) more none)) (λ now told. told) (λ i its. its)
    (c.work.ensures.tells provided fixed beside c.args.fence.now of.of reads by provides seen))

pub returns-in-Work-clause-causes : goal.returns-in-Work-clause-causes
returns-in-Work-clause-causes g c = result_caused g.D.Disk.tells (λ x. x) (λ x. x) (λ x. x) c.work.result c.work.ensures.causes

pub returns-in-Work-clause-moves : goal.returns-in-Work-clause-moves
returns-in-Work-clause-moves g c = record {
  word = ap (λ (l : Life g.row.Dir.Denot). l.word) c.work.ensures.stays.same;
  moved = c.work.ensures.moved;
  fit = λ told fit. rw c.work.ensures.stays.disk fit;
}

pub returns-in-Work-clause-ready : goal.returns-in-Work-clause-ready
returns-in-Work-clause-ready g c = c.work.ensures.ready

pub returns-in-Work-clause-including : goal.returns-in-Work-clause-including
returns-in-Work-clause-including g c = c.work.ensures.including

pub returns-in-Work-clause-provider : goal.returns-in-Work-clause-provider
returns-in-Work-clause-provider g c = c.work.ensures.stays.provider
