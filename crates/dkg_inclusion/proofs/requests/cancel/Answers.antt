use Rattle.std.proofs.Common.{true, false, refl, sym, ◌∙◌}
use Rattle.std.specs.Int.NonZero.{non_zero_u64_get}
use Rattle.dkg_life.specs.LiveOf.{live_of}
use Rattle.dkg_inclusion.proofs.Asked.{alone_beside, cancels_at, others_beside, ready_withdrawn, seen_withdrawn, settled_alone}
use Rattle.dkg_inclusion.proofs.Asking.{MakesOver, TellsOver, joined_as, seen_nobody}
use Rattle.dkg_life.proofs.Burning.{makes_nothing}
use Rattle.dkg_life.proofs.Committing.{goes_told}
use Rattle.dkg_life.proofs.Kept.{moved_none}
use Rattle.dkg_verifying.proofs.Telling.{ends_with}
use Rattle.dkg_verifying.proofs.Within.{within_as, within_behind}
use Rattle.dkg_verifying.proofs.Looking.{looked}
use Rattle.dkg_inclusion.proofs.requests.cancel.Goals as goal

-- IT WAITS FOR THE VERIFICATION, which goes on for nobody.

pub returns-then-eq-clause-acts : goal.returns-then-eq-clause-acts
returns-then-eq-clause-acts g c = λ disk secrets provider fixed beside fence of reads by includes seen.
    ends_with beside (alone_beside beside).inclusion (seen_nobody c.args.inclusion.now beside.inclusion seen) refl
    (joined_as (MakesOver g.D.Disk.files g.D.Disk.image g.X.SecretStore.held) {x = (c.args.devices.now, c.args.out.now.entries)} {y = (c.args.devices.now, c.args.out.now.entries)} (cancels_at fixed c.args.request beside fence c.args.life.now c.args.inclusion.now.waiter seen.waiter true (sym c.eq.ensures ∙ c.if-eq.true))
    (makes_nothing (g.D.Disk.files c.args.devices.now.disk.now) (g.D.Disk.image c.args.devices.now.disk.now) _ refl))

pub returns-then-eq-clause-tells : goal.returns-then-eq-clause-tells
returns-then-eq-clause-tells g c = λ provider fixed beside fence of reads by includes seen.
    ends_with beside (alone_beside beside).inclusion (seen_nobody c.args.inclusion.now beside.inclusion seen) refl
    (joined_as TellsOver {x = c.args.out.now.entries} {y = c.args.out.now.entries} (cancels_at fixed c.args.request beside fence c.args.life.now c.args.inclusion.now.waiter seen.waiter true (sym c.eq.ensures ∙ c.if-eq.true))
    (goes_told g.row.Dir.Denot (live_of (alone_beside beside) fence c.args.life.now) c.args.out.now.entries))

pub returns-then-eq-clause-ready : goal.returns-then-eq-clause-ready
returns-then-eq-clause-ready g c = c.requires.ready

pub returns-then-eq-clause-including : goal.returns-then-eq-clause-including
returns-then-eq-clause-including g c = settled_alone g.C.Ceremony.check_log_of g.C.Ceremony.dealing_of g.C.Ceremony.finish_of (non_zero_u64_get c.args.terms.now.blocks_per_epoch) c.args.life.now c.args.inclusion.now c.requires.including

pub returns-then-eq-clause-stays : goal.returns-then-eq-clause-stays
returns-then-eq-clause-stays g c = looked

pub returns-then-eq-clause-moved : goal.returns-then-eq-clause-moved
returns-then-eq-clause-moved g c = moved_none g.D.Disk.tells g.D.Disk.made g.X.SecretStore.made g.D.Disk.faults g.X.SecretStore.faults g.met.D.Disk.made_none g.met.X.SecretStore.made_none c.args.devices.now

-- OTHERS ARE READ.

pub returns-clause-acts : goal.returns-clause-acts
returns-clause-acts g c = λ disk secrets provider fixed beside fence of reads by includes seen.
    within_behind beside (others_beside c.args.request beside).inclusion
    (within_as (λ i is. is) (λ now is made. joined_as (MakesOver g.D.Disk.files g.D.Disk.image g.X.SecretStore.held) {x = (c.args.devices.now, c.args.out.now.entries)} {y = (c.advance.new.devices, c.advance.new.out.entries)} (cancels_at fixed c.args.request beside fence c.args.life.now c.args.inclusion.now.waiter seen.waiter false (sym c.eq.ensures ∙ c.if-eq.false)) made)
    (c.advance.ensures.acts disk secrets provider fixed (others_beside c.args.request beside) fence of reads by includes (seen_withdrawn g.C.Ceremony.check_log_of g.C.Ceremony.dealing_of g.C.Ceremony.finish_of (non_zero_u64_get c.args.terms.now.blocks_per_epoch) c.args.life.now c.args.inclusion.now c.args.request c.withdraw.new.inclusion c.withdraw.ensures beside.inclusion seen)))

pub returns-clause-tells : goal.returns-clause-tells
returns-clause-tells g c = λ provider fixed beside fence of reads by includes seen.
    within_behind beside (others_beside c.args.request beside).inclusion
    (within_as (λ i is. is) (λ now is made. joined_as TellsOver {x = c.args.out.now.entries} {y = c.advance.new.out.entries} (cancels_at fixed c.args.request beside fence c.args.life.now c.args.inclusion.now.waiter seen.waiter false (sym c.eq.ensures ∙ c.if-eq.false)) made)
    (c.advance.ensures.tells provider fixed (others_beside c.args.request beside) fence of reads by includes (seen_withdrawn g.C.Ceremony.check_log_of g.C.Ceremony.dealing_of g.C.Ceremony.finish_of (non_zero_u64_get c.args.terms.now.blocks_per_epoch) c.args.life.now c.args.inclusion.now c.args.request c.withdraw.new.inclusion c.withdraw.ensures beside.inclusion seen)))

pub returns-clause-ready : goal.returns-clause-ready
returns-clause-ready g c = c.advance.ensures.ready

pub returns-clause-including : goal.returns-clause-including
returns-clause-including g c = c.advance.ensures.including

pub returns-clause-stays : goal.returns-clause-stays
returns-clause-stays g c = c.advance.ensures.stays

pub returns-clause-moved : goal.returns-clause-moved
returns-clause-moved g c = c.advance.ensures.moved

pub returns-clause-causes : goal.returns-clause-causes
returns-clause-causes g c = c.advance.ensures.causes

pub advance-requires-clause-ready : goal.advance-requires-clause-ready
advance-requires-clause-ready g c = c.requires.ready

pub advance-requires-clause-including : goal.advance-requires-clause-including
advance-requires-clause-including g c = ready_withdrawn g.C.Ceremony.check_log_of g.C.Ceremony.dealing_of g.C.Ceremony.finish_of (non_zero_u64_get c.args.terms.now.blocks_per_epoch) c.args.life.now c.args.inclusion.now c.args.request c.withdraw.new.inclusion c.withdraw.ensures c.requires.including.ready
