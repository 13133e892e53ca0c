use Rattle.std.proofs.Common.{◌≡◌, refl, subst}
use Rattle.std.proofs.lemmas.Result.{err_from_is_err_and}
use Rattle.std.specs.Prelude.{map}
use Rattle.std.specs.Int.NonZero.{non_zero_u64_get}
use Rattle.dkg_store.specs.Acts.{by_want}
use Rattle.dkg_store.specs.declared.call.StoreError.TheVariants.{NoMemory as Wanting}
use Rattle.dkg_verifying.specs.Including.{feeds_hand}
use Rattle.dkg_inclusion.proofs.Asking.{MakesOver, TellsOver, joined_as}
use Rattle.dkg_life.proofs.Burning.{makes_none}
use Rattle.dkg_life.proofs.Kept.{moved_none}
use Rattle.dkg_inclusion.proofs.Requesting.{block_answers, block_goes, feeding}
use Rattle.dkg_life.proofs.Said.{said_none}
use Rattle.dkg_verifying.proofs.Telling.{ends_beside}
use Rattle.dkg_verifying.proofs.Within.{within_as, within_behind}
use Rattle.dkg_verifying.proofs.Looking.{looked}
use Rattle.dkg_inclusion.proofs.requests.feed.Goals as goal

pub returns-clause-acts : goal.returns-clause-acts
returns-clause-acts g c = λ disk secrets provider fixed beside fence of reads by includes seen.
    let so = (block_goes g.C.Ceremony.check_log_of g.C.Ceremony.dealing_of g.C.Ceremony.finish_of (non_zero_u64_get c.args.terms.now.blocks_per_epoch) c.args.life.now c.requires.ready.placed fixed of.blocks includes.check_log beside fence c.args.request c.args.inclusion.now seen c.requires.including c.args.block c.in_ok-fed.fed c.feed_hand.new.inclusion (subst (λ rs. feeds_hand g.C.Ceremony.check_log_of c.args.request c.args.block (record c.args.inclusion.now { requests = rs }) c.args.inclusion.now.hand ≡ (c.in_ok-fed.fed, c.feed_hand.new.inclusion)) c.in_ok-feed.ensures.ok c.in_ok-fed.ensures.fed)) in
    within_behind beside (record beside { inclusion = record beside.inclusion { queue = map (feeding c.args.request c.args.block) beside.inclusion.queue } }).inclusion (within_as (λ i is. is) (λ now is made. joined_as (MakesOver g.D.Disk.files g.D.Disk.image g.X.SecretStore.held) {x = (c.args.devices.now, c.args.out.now.entries)} {y = (c.go_on.new.devices, c.go_on.new.out.entries)} so.goes made)
    (c.go_on.ensures.acts disk secrets provider fixed (record beside { inclusion = record beside.inclusion { queue = map (feeding c.args.request c.args.block) beside.inclusion.queue } }) fence of reads by includes so.seen))

pub returns-clause-tells : goal.returns-clause-tells
returns-clause-tells g c = λ provider fixed beside fence of reads by includes seen.
    let so = (block_goes g.C.Ceremony.check_log_of g.C.Ceremony.dealing_of g.C.Ceremony.finish_of (non_zero_u64_get c.args.terms.now.blocks_per_epoch) c.args.life.now c.requires.ready.placed fixed of.blocks includes.check_log beside fence c.args.request c.args.inclusion.now seen c.requires.including c.args.block c.in_ok-fed.fed c.feed_hand.new.inclusion (subst (λ rs. feeds_hand g.C.Ceremony.check_log_of c.args.request c.args.block (record c.args.inclusion.now { requests = rs }) c.args.inclusion.now.hand ≡ (c.in_ok-fed.fed, c.feed_hand.new.inclusion)) c.in_ok-feed.ensures.ok c.in_ok-fed.ensures.fed)) in
    within_behind beside (record beside { inclusion = record beside.inclusion { queue = map (feeding c.args.request c.args.block) beside.inclusion.queue } }).inclusion (within_as (λ i is. is) (λ now is made. joined_as TellsOver {x = c.args.out.now.entries} {y = c.go_on.new.out.entries} so.goes made)
    (c.go_on.ensures.tells provider fixed (record beside { inclusion = record beside.inclusion { queue = map (feeding c.args.request c.args.block) beside.inclusion.queue } }) fence of reads by includes so.seen))

pub returns-clause-ready : goal.returns-clause-ready
returns-clause-ready g c = c.go_on.ensures.ready

pub returns-clause-including : goal.returns-clause-including
returns-clause-including g c = c.go_on.ensures.including

pub returns-clause-stays : goal.returns-clause-stays
returns-clause-stays g c = c.go_on.ensures.stays

pub returns-clause-moved : goal.returns-clause-moved
returns-clause-moved g c = c.go_on.ensures.moved

pub returns-clause-causes : goal.returns-clause-causes
returns-clause-causes g c = c.go_on.ensures.causes

pub go_on-requires-clause-ready : goal.go_on-requires-clause-ready
go_on-requires-clause-ready g c = c.requires.ready

pub go_on-requires-clause-needs : goal.go_on-requires-clause-needs
go_on-requires-clause-needs g c = (block_answers g.C.Ceremony.check_log_of g.C.Ceremony.dealing_of g.C.Ceremony.finish_of (non_zero_u64_get c.args.terms.now.blocks_per_epoch) c.args.life.now c.requires.ready.placed c.args.request c.args.block c.args.inclusion.now c.requires.including c.in_ok-fed.fed c.feed_hand.new.inclusion (subst (λ rs. feeds_hand g.C.Ceremony.check_log_of c.args.request c.args.block (record c.args.inclusion.now { requests = rs }) c.args.inclusion.now.hand ≡ (c.in_ok-fed.fed, c.feed_hand.new.inclusion)) c.in_ok-feed.ensures.ok c.in_ok-fed.ensures.fed)).needs

pub go_on-requires-clause-answers : goal.go_on-requires-clause-answers
go_on-requires-clause-answers g c = (block_answers g.C.Ceremony.check_log_of g.C.Ceremony.dealing_of g.C.Ceremony.finish_of (non_zero_u64_get c.args.terms.now.blocks_per_epoch) c.args.life.now c.requires.ready.placed c.args.request c.args.block c.args.inclusion.now c.requires.including c.in_ok-fed.fed c.feed_hand.new.inclusion (subst (λ rs. feeds_hand g.C.Ceremony.check_log_of c.args.request c.args.block (record c.args.inclusion.now { requests = rs }) c.args.inclusion.now.hand ≡ (c.in_ok-fed.fed, c.feed_hand.new.inclusion)) c.in_ok-feed.ensures.ok c.in_ok-fed.ensures.fed)).answers

pub go_on-requires-clause-hand : goal.go_on-requires-clause-hand
go_on-requires-clause-hand g c = (block_answers g.C.Ceremony.check_log_of g.C.Ceremony.dealing_of g.C.Ceremony.finish_of (non_zero_u64_get c.args.terms.now.blocks_per_epoch) c.args.life.now c.requires.ready.placed c.args.request c.args.block c.args.inclusion.now c.requires.including c.in_ok-fed.fed c.feed_hand.new.inclusion (subst (λ rs. feeds_hand g.C.Ceremony.check_log_of c.args.request c.args.block (record c.args.inclusion.now { requests = rs }) c.args.inclusion.now.hand ≡ (c.in_ok-fed.fed, c.feed_hand.new.inclusion)) c.in_ok-feed.ensures.ok c.in_ok-fed.ensures.fed)).hand

pub returns-in_err-feed-clause-acts : goal.returns-in_err-feed-clause-acts
returns-in_err-feed-clause-acts g c = λ disk secrets provider fixed beside fence of reads by includes seen.
    let p = err_from_is_err_and c.from_residual.result c.from_residual.ensures.1 in
    rw (p.1, p.2) (ends_beside beside tt refl (makes_none _ _ _ _ by_want tt refl))

pub returns-in_err-feed-clause-tells : goal.returns-in_err-feed-clause-tells
returns-in_err-feed-clause-tells g c = λ provider fixed beside fence of reads by includes seen.
    let p = err_from_is_err_and c.from_residual.result c.from_residual.ensures.1 in
    rw (p.1, p.2) (ends_beside beside tt refl (said_none _ Wanting tt refl))

pub returns-in_err-feed-clause-moved : goal.returns-in_err-feed-clause-moved
returns-in_err-feed-clause-moved g c = moved_none g.D.Disk.tells g.D.Disk.made g.X.SecretStore.made g.D.Disk.faults g.X.SecretStore.faults g.met.D.Disk.made_none g.met.X.SecretStore.made_none c.args.devices.now

pub returns-in_err-feed-clause-causes : goal.returns-in_err-feed-clause-causes
returns-in_err-feed-clause-causes g c =
    let p = err_from_is_err_and c.from_residual.result c.from_residual.ensures.1 in
    rw (p.1, p.2) tt

pub returns-in_err-fed-clause-acts : goal.returns-in_err-fed-clause-acts
returns-in_err-fed-clause-acts g c = λ disk secrets provider fixed beside fence of reads by includes seen.
    let p = err_from_is_err_and c.from_residual-in_err-fed.result c.from_residual-in_err-fed.ensures.1 in
    rw (p.1, p.2) (ends_beside beside tt refl (makes_none _ _ _ _ by_want tt refl))

pub returns-in_err-fed-clause-tells : goal.returns-in_err-fed-clause-tells
returns-in_err-fed-clause-tells g c = λ provider fixed beside fence of reads by includes seen.
    let p = err_from_is_err_and c.from_residual-in_err-fed.result c.from_residual-in_err-fed.ensures.1 in
    rw (p.1, p.2) (ends_beside beside tt refl (said_none _ Wanting tt refl))

pub returns-in_err-fed-clause-moved : goal.returns-in_err-fed-clause-moved
returns-in_err-fed-clause-moved g c = moved_none g.D.Disk.tells g.D.Disk.made g.X.SecretStore.made g.D.Disk.faults g.X.SecretStore.faults g.met.D.Disk.made_none g.met.X.SecretStore.made_none c.args.devices.now

pub returns-in_err-fed-clause-causes : goal.returns-in_err-fed-clause-causes
returns-in_err-fed-clause-causes g c =
    let p = err_from_is_err_and c.from_residual-in_err-fed.result c.from_residual-in_err-fed.ensures.1 in
    rw (p.1, p.2) tt

-- WHAT STAYS

pub returns-in_err-feed-clause-ready : goal.returns-in_err-feed-clause-ready
returns-in_err-feed-clause-ready g c =
    let p = err_from_is_err_and c.from_residual.result c.from_residual.ensures.1 in
    rw p.1 tt

pub returns-in_err-feed-clause-including : goal.returns-in_err-feed-clause-including
returns-in_err-feed-clause-including g c =
    let p = err_from_is_err_and c.from_residual.result c.from_residual.ensures.1 in
    rw p.1 tt

pub returns-in_err-feed-clause-stays : goal.returns-in_err-feed-clause-stays
returns-in_err-feed-clause-stays g c = looked

pub returns-in_err-fed-clause-ready : goal.returns-in_err-fed-clause-ready
returns-in_err-fed-clause-ready g c =
    let p = err_from_is_err_and c.from_residual-in_err-fed.result c.from_residual-in_err-fed.ensures.1 in
    rw p.1 tt

pub returns-in_err-fed-clause-including : goal.returns-in_err-fed-clause-including
returns-in_err-fed-clause-including g c =
    let p = err_from_is_err_and c.from_residual-in_err-fed.result c.from_residual-in_err-fed.ensures.1 in
    rw p.1 tt

pub returns-in_err-fed-clause-stays : goal.returns-in_err-fed-clause-stays
returns-in_err-fed-clause-stays g c = looked
