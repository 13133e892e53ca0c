use Rattle.std.proofs.Common.{refl}
use Rattle.std.proofs.lemmas.Result.{err_from_is_err_and}
use Rattle.std.specs.Int.NonZero.{non_zero_u64_get}
use Rattle.dkg_store.specs.Acts.{by_want}
use Rattle.dkg_store.specs.declared.call.StoreError.TheVariants.{NoMemory as Wanting}
use Rattle.dkg_infos.specs.declared.entry.Why.TheVariants.{Following as Follows}
use Rattle.dkg_core.specs.Including as including
use Rattle.dkg_core.specs.Live.{GaveNone}
use Rattle.dkg_life.specs.LiveOf.{live_of}
use Rattle.dkg_verifying.specs.declared.told.EpochInfoResponse.TheVariants.{Unavailable}
use Rattle.dkg_verifying.specs.declared.told.Told.TheVariants.{Info}
use Rattle.dkg_inclusion.proofs.Asked.{asked_beside, asks_dealing, asks_following, asks_including, ready_including, seen_asked, seen_used, settled_dealing, used_beside}
use Rattle.dkg_inclusion.proofs.Asking.{MakesOver, TellsOver, joined_as, told_ends}
use Rattle.dkg_life.proofs.Burning.{makes_none, makes_nothing, speaks_makes}
use Rattle.dkg_life.proofs.Committing.{goes_told, in_any}
use Rattle.dkg_life.proofs.Kept.{moved_none}
use Rattle.dkg_life.proofs.Said.{said_none, speaks_tells}
use Rattle.dkg_inclusion.proofs.Staying.{settled_answered, want_blames}
use Rattle.dkg_verifying.proofs.Telling.{ends_beside, ends_with}
use Rattle.dkg_verifying.proofs.Within.{within_as, within_behind}
use Rattle.dkg_verifying.proofs.Looking.{looked}
use Rattle.dkg_inclusion.proofs.requests.ask.Goals as goal

-- NO MEMORY

pub returns-in_err-post-clause-acts : goal.returns-in_err-post-clause-acts
returns-in_err-post-clause-acts g c = λ disk secrets provider fixed beside fence of reads by includes seen.
    let p = err_from_is_err_and c.from_residual.result c.from_residual.ensures.1 in
    rw (p.1, p.2) (ends_beside beside tt refl (makes_none _ _ _ _ by_want tt refl))

pub returns-in_err-post-clause-tells : goal.returns-in_err-post-clause-tells
returns-in_err-post-clause-tells g c = λ provider fixed beside fence of reads by includes seen.
    let p = err_from_is_err_and c.from_residual.result c.from_residual.ensures.1 in
    rw (p.1, p.2) (ends_beside beside tt refl (said_none _ Wanting tt refl))

pub returns-in_err-post-clause-ready : goal.returns-in_err-post-clause-ready
returns-in_err-post-clause-ready g c =
    let p = err_from_is_err_and c.from_residual.result c.from_residual.ensures.1 in
    rw p.1 tt

pub returns-in_err-post-clause-including : goal.returns-in_err-post-clause-including
returns-in_err-post-clause-including g c =
    let p = err_from_is_err_and c.from_residual.result c.from_residual.ensures.1 in
    rw p.1 tt

pub returns-in_err-post-clause-causes : goal.returns-in_err-post-clause-causes
returns-in_err-post-clause-causes g c =
    let p = err_from_is_err_and c.from_residual.result c.from_residual.ensures.1 in
    rw (p.1, p.2) tt

pub returns-in_err-post-clause-stays : goal.returns-in_err-post-clause-stays
returns-in_err-post-clause-stays g c = looked

pub returns-in_err-post-clause-moved : goal.returns-in_err-post-clause-moved
returns-in_err-post-clause-moved g c = moved_none g.D.Disk.tells g.D.Disk.made g.X.SecretStore.made g.D.Disk.faults g.X.SecretStore.faults g.met.D.Disk.made_none g.met.X.SecretStore.made_none c.args.devices.now

-- WHILE DEALING it waits.

pub returns-in_err-queue-in-Dealing-clause-acts : goal.returns-in_err-queue-in-Dealing-clause-acts
returns-in_err-queue-in-Dealing-clause-acts g c = λ disk secrets provider fixed beside fence of reads by includes seen.
    let p = err_from_is_err_and c.from_residual-in_err-queue-in-Dealing.result c.from_residual-in_err-queue-in-Dealing.ensures.1 in
    rw (p.1, p.2) (ends_beside beside tt refl (makes_none _ _ _ _ by_want tt refl))

pub returns-in_err-queue-in-Dealing-clause-tells : goal.returns-in_err-queue-in-Dealing-clause-tells
returns-in_err-queue-in-Dealing-clause-tells g c = λ provider fixed beside fence of reads by includes seen.
    let p = err_from_is_err_and c.from_residual-in_err-queue-in-Dealing.result c.from_residual-in_err-queue-in-Dealing.ensures.1 in
    rw (p.1, p.2) (ends_beside beside tt refl (said_none _ Wanting tt refl))

pub returns-in_err-queue-in-Dealing-clause-ready : goal.returns-in_err-queue-in-Dealing-clause-ready
returns-in_err-queue-in-Dealing-clause-ready g c =
    let p = err_from_is_err_and c.from_residual-in_err-queue-in-Dealing.result c.from_residual-in_err-queue-in-Dealing.ensures.1 in
    rw p.1 tt

pub returns-in_err-queue-in-Dealing-clause-including : goal.returns-in_err-queue-in-Dealing-clause-including
returns-in_err-queue-in-Dealing-clause-including g c =
    let p = err_from_is_err_and c.from_residual-in_err-queue-in-Dealing.result c.from_residual-in_err-queue-in-Dealing.ensures.1 in
    rw p.1 tt

pub returns-in_err-queue-in-Dealing-clause-causes : goal.returns-in_err-queue-in-Dealing-clause-causes
returns-in_err-queue-in-Dealing-clause-causes g c =
    let p = err_from_is_err_and c.from_residual-in_err-queue-in-Dealing.result c.from_residual-in_err-queue-in-Dealing.ensures.1 in
    rw (p.1, p.2) tt

pub returns-in_err-queue-in-Dealing-clause-stays : goal.returns-in_err-queue-in-Dealing-clause-stays
returns-in_err-queue-in-Dealing-clause-stays g c = looked

pub returns-in_err-queue-in-Dealing-clause-moved : goal.returns-in_err-queue-in-Dealing-clause-moved
returns-in_err-queue-in-Dealing-clause-moved g c = moved_none g.D.Disk.tells g.D.Disk.made g.X.SecretStore.made g.D.Disk.faults g.X.SecretStore.faults g.met.D.Disk.made_none g.met.X.SecretStore.made_none c.args.devices.now

pub returns-in_ok-queue-in-Dealing-clause-acts : goal.returns-in_ok-queue-in-Dealing-clause-acts
returns-in_ok-queue-in-Dealing-clause-acts g c = λ disk secrets provider fixed beside fence of reads by includes seen.
    ends_with beside (asked_beside c.args.request beside).inclusion (seen_asked c.args.request beside c.args.inclusion.now seen c.post.new.told c.in_ok-post.ensures.done c.queue.new.inclusion c.in_ok-queue-in-Dealing.ensures.ok) refl
    (joined_as (MakesOver g.D.Disk.files g.D.Disk.image g.X.SecretStore.held) {x = (c.args.devices.now, c.args.out.now.entries)} {y = (c.args.devices.now, c.args.out.now.entries)} (asks_dealing c.args.request beside fixed fence c.args.life.now c.in-Dealing.is) (makes_nothing (g.D.Disk.files c.args.devices.now.disk.now) (g.D.Disk.image c.args.devices.now.disk.now) _ refl))

pub returns-in_ok-queue-in-Dealing-clause-tells : goal.returns-in_ok-queue-in-Dealing-clause-tells
returns-in_ok-queue-in-Dealing-clause-tells g c = λ provider fixed beside fence of reads by includes seen.
    ends_with beside (asked_beside c.args.request beside).inclusion (seen_asked c.args.request beside c.args.inclusion.now seen c.post.new.told c.in_ok-post.ensures.done c.queue.new.inclusion c.in_ok-queue-in-Dealing.ensures.ok) refl
    (joined_as TellsOver {x = c.args.out.now.entries} {y = c.args.out.now.entries} (asks_dealing c.args.request beside fixed fence c.args.life.now c.in-Dealing.is)
    (goes_told g.row.Dir.Denot (live_of (asked_beside c.args.request beside) fence c.args.life.now) c.args.out.now.entries))

pub returns-in_ok-queue-in-Dealing-clause-ready : goal.returns-in_ok-queue-in-Dealing-clause-ready
returns-in_ok-queue-in-Dealing-clause-ready g c = c.requires.ready

pub returns-in_ok-queue-in-Dealing-clause-including : goal.returns-in_ok-queue-in-Dealing-clause-including
returns-in_ok-queue-in-Dealing-clause-including g c = settled_dealing g.C.Ceremony.check_log_of g.C.Ceremony.dealing_of g.C.Ceremony.finish_of (non_zero_u64_get c.args.terms.now.blocks_per_epoch) c.args.life.now c.args.inclusion.now c.post.new.told _ c.queue.new.inclusion c.in_ok-queue-in-Dealing.ensures.ok c.in-Dealing.is c.requires.including.ready

pub returns-in_ok-queue-in-Dealing-clause-stays : goal.returns-in_ok-queue-in-Dealing-clause-stays
returns-in_ok-queue-in-Dealing-clause-stays g c = looked

pub returns-in_ok-queue-in-Dealing-clause-moved : goal.returns-in_ok-queue-in-Dealing-clause-moved
returns-in_ok-queue-in-Dealing-clause-moved g c = moved_none g.D.Disk.tells g.D.Disk.made g.X.SecretStore.made g.D.Disk.faults g.X.SecretStore.faults g.met.D.Disk.made_none g.met.X.SecretStore.made_none c.args.devices.now

-- WHILE INCLUDING it is read, if it is the first.

pub returns-in_err-queue-in-Including-clause-acts : goal.returns-in_err-queue-in-Including-clause-acts
returns-in_err-queue-in-Including-clause-acts g c = λ disk secrets provider fixed beside fence of reads by includes seen.
    let p = err_from_is_err_and c.from_residual-in_err-queue-in-Including.result c.from_residual-in_err-queue-in-Including.ensures.1 in
    rw (p.1, p.2) (ends_beside beside tt refl (makes_none _ _ _ _ by_want tt refl))

pub returns-in_err-queue-in-Including-clause-tells : goal.returns-in_err-queue-in-Including-clause-tells
returns-in_err-queue-in-Including-clause-tells g c = λ provider fixed beside fence of reads by includes seen.
    let p = err_from_is_err_and c.from_residual-in_err-queue-in-Including.result c.from_residual-in_err-queue-in-Including.ensures.1 in
    rw (p.1, p.2) (ends_beside beside tt refl (said_none _ Wanting tt refl))

pub returns-in_err-queue-in-Including-clause-ready : goal.returns-in_err-queue-in-Including-clause-ready
returns-in_err-queue-in-Including-clause-ready g c =
    let p = err_from_is_err_and c.from_residual-in_err-queue-in-Including.result c.from_residual-in_err-queue-in-Including.ensures.1 in
    rw p.1 tt

pub returns-in_err-queue-in-Including-clause-including : goal.returns-in_err-queue-in-Including-clause-including
returns-in_err-queue-in-Including-clause-including g c =
    let p = err_from_is_err_and c.from_residual-in_err-queue-in-Including.result c.from_residual-in_err-queue-in-Including.ensures.1 in
    rw p.1 tt

pub returns-in_err-queue-in-Including-clause-causes : goal.returns-in_err-queue-in-Including-clause-causes
returns-in_err-queue-in-Including-clause-causes g c =
    let p = err_from_is_err_and c.from_residual-in_err-queue-in-Including.result c.from_residual-in_err-queue-in-Including.ensures.1 in
    rw (p.1, p.2) tt

pub returns-in_err-queue-in-Including-clause-stays : goal.returns-in_err-queue-in-Including-clause-stays
returns-in_err-queue-in-Including-clause-stays g c = looked

pub returns-in_err-queue-in-Including-clause-moved : goal.returns-in_err-queue-in-Including-clause-moved
returns-in_err-queue-in-Including-clause-moved g c = moved_none g.D.Disk.tells g.D.Disk.made g.X.SecretStore.made g.D.Disk.faults g.X.SecretStore.faults g.met.D.Disk.made_none g.met.X.SecretStore.made_none c.args.devices.now

pub returns-in_ok-queue-in-Including-clause-acts : goal.returns-in_ok-queue-in-Including-clause-acts
returns-in_ok-queue-in-Including-clause-acts g c = λ disk secrets provider fixed beside fence of reads by includes seen.
    within_behind beside (asked_beside c.args.request beside).inclusion
    (within_as (λ i is. is) (λ now is made. joined_as (MakesOver g.D.Disk.files g.D.Disk.image g.X.SecretStore.held) {x = (c.args.devices.now, c.args.out.now.entries)} {y = (c.advance.new.devices, c.advance.new.out.entries)} (asks_including c.args.request beside fixed fence c.args.life.now c.in-Including.is) made)
    (c.advance.ensures.acts disk secrets provider fixed (asked_beside c.args.request beside) fence of reads by includes (seen_asked c.args.request beside c.args.inclusion.now seen c.post.new.told c.in_ok-post.ensures.done c.queue-in-Including.new.inclusion c.in_ok-queue-in-Including.ensures.ok)))

pub returns-in_ok-queue-in-Including-clause-tells : goal.returns-in_ok-queue-in-Including-clause-tells
returns-in_ok-queue-in-Including-clause-tells g c = λ provider fixed beside fence of reads by includes seen.
    within_behind beside (asked_beside c.args.request beside).inclusion
    (within_as (λ i is. is) (λ now is made. joined_as TellsOver {x = c.args.out.now.entries} {y = c.advance.new.out.entries} (asks_including c.args.request beside fixed fence c.args.life.now c.in-Including.is) made)
    (c.advance.ensures.tells provider fixed (asked_beside c.args.request beside) fence of reads by includes (seen_asked c.args.request beside c.args.inclusion.now seen c.post.new.told c.in_ok-post.ensures.done c.queue-in-Including.new.inclusion c.in_ok-queue-in-Including.ensures.ok)))

pub returns-in_ok-queue-in-Including-clause-ready : goal.returns-in_ok-queue-in-Including-clause-ready
returns-in_ok-queue-in-Including-clause-ready g c = c.advance.ensures.ready

pub returns-in_ok-queue-in-Including-clause-including : goal.returns-in_ok-queue-in-Including-clause-including
returns-in_ok-queue-in-Including-clause-including g c = c.advance.ensures.including

pub returns-in_ok-queue-in-Including-clause-stays : goal.returns-in_ok-queue-in-Including-clause-stays
returns-in_ok-queue-in-Including-clause-stays g c = c.advance.ensures.stays

pub returns-in_ok-queue-in-Including-clause-moved : goal.returns-in_ok-queue-in-Including-clause-moved
returns-in_ok-queue-in-Including-clause-moved g c = c.advance.ensures.moved

pub returns-in_ok-queue-in-Including-clause-causes : goal.returns-in_ok-queue-in-Including-clause-causes
returns-in_ok-queue-in-Including-clause-causes g c = c.advance.ensures.causes

pub advance-requires-clause-ready : goal.advance-requires-clause-ready
advance-requires-clause-ready g c = c.requires.ready

pub advance-requires-clause-including : goal.advance-requires-clause-including
advance-requires-clause-including g c = ready_including g.C.Ceremony.check_log_of g.C.Ceremony.dealing_of g.C.Ceremony.finish_of (non_zero_u64_get c.args.terms.now.blocks_per_epoch) c.args.life.now c.args.inclusion.now c.post.new.told _ c.queue-in-Including.new.inclusion c.in_ok-queue-in-Including.ensures.ok c.in-Including.is c.requires.including.ready

-- WHILE FOLLOWING it has no answer.

pub returns-in-Following-clause-acts : goal.returns-in-Following-clause-acts
returns-in-Following-clause-acts g c = λ disk secrets provider fixed beside fence of reads by includes seen.
    within_behind beside (used_beside c.args.request beside).inclusion
    (told_ends (MakesOver g.D.Disk.files g.D.Disk.image g.X.SecretStore.held) (used_beside c.args.request beside) fence c.args.life.now (record c.args.inclusion.now { told = c.post.new.told })
    (seen_used c.args.request beside c.args.inclusion.now seen c.post.new.told c.in_ok-post.ensures.done) c.args.request c.answer_none.result (including.asks_request fixed c.args.request (live_of beside fence c.args.life.now)) (c.args.devices.now, c.args.out.now.entries) (c.args.devices.now, c.answer_none.new.out.entries)
    (Info (Unavailable Follows)) (GaveNone Follows) refl c.answer_none.new.told c.answer_none.ensures.told
    (joined_as (MakesOver g.D.Disk.files g.D.Disk.image g.X.SecretStore.held) {x = (c.args.devices.now, c.args.out.now.entries)} {y = (c.args.devices.now, c.answer_none.new.out.entries)} (asks_following c.args.request beside fixed fence c.args.life.now c.in-Following.is)
    (speaks_makes (including.answers_none c.args.request Follows (live_of (used_beside c.args.request beside) fence c.args.life.now)) _ (g.D.Disk.files c.args.devices.now.disk.now) (g.D.Disk.image c.args.devices.now.disk.now)
    (c.answer_none.ensures.speaks (live_of (used_beside c.args.request beside) fence c.args.life.now)))))

pub returns-in-Following-clause-tells : goal.returns-in-Following-clause-tells
returns-in-Following-clause-tells g c = λ provider fixed beside fence of reads by includes seen.
    within_behind beside (used_beside c.args.request beside).inclusion
    (told_ends TellsOver (used_beside c.args.request beside) fence c.args.life.now (record c.args.inclusion.now { told = c.post.new.told })
    (seen_used c.args.request beside c.args.inclusion.now seen c.post.new.told c.in_ok-post.ensures.done) c.args.request c.answer_none.result (including.asks_request fixed c.args.request (live_of beside fence c.args.life.now)) c.args.out.now.entries c.answer_none.new.out.entries
    (Info (Unavailable Follows)) (GaveNone Follows) refl c.answer_none.new.told c.answer_none.ensures.told
    (joined_as TellsOver {x = c.args.out.now.entries} {y = c.answer_none.new.out.entries} (asks_following c.args.request beside fixed fence c.args.life.now c.in-Following.is)
    (speaks_tells (including.answers_none c.args.request Follows (live_of (used_beside c.args.request beside) fence c.args.life.now)) _ (c.answer_none.ensures.speaks (live_of (used_beside c.args.request beside) fence c.args.life.now)))))

pub returns-in-Following-clause-ready : goal.returns-in-Following-clause-ready
returns-in-Following-clause-ready g c = in_any c.answer_none.result c.requires.ready

pub returns-in-Following-clause-including : goal.returns-in-Following-clause-including
returns-in-Following-clause-including g c = in_any c.answer_none.result (settled_answered g.C.Ceremony.check_log_of g.C.Ceremony.dealing_of g.C.Ceremony.finish_of (non_zero_u64_get c.args.terms.now.blocks_per_epoch) c.args.life.now c.args.inclusion.now c.args.inclusion.now.cache c.answer_none.new.told c.requires.including)

pub returns-in-Following-clause-stays : goal.returns-in-Following-clause-stays
returns-in-Following-clause-stays g c = looked

pub returns-in-Following-clause-moved : goal.returns-in-Following-clause-moved
returns-in-Following-clause-moved g c = moved_none g.D.Disk.tells g.D.Disk.made g.X.SecretStore.made g.D.Disk.faults g.X.SecretStore.faults g.met.D.Disk.made_none g.met.X.SecretStore.made_none c.args.devices.now

pub returns-in-Following-clause-causes : goal.returns-in-Following-clause-causes
returns-in-Following-clause-causes g c = want_blames _ _ _ c.answer_none.result c.answer_none.ensures.memory
