use Rattle.std.proofs.Common.{◌≡◌, ℕ, List, ap, refl, sym, ◌∙◌, rules}
use Rattle.std.proofs.lemmas.Result.{err_from_is_err_and}
use Rattle.std.specs.Int.NonZero.{non_zero_u64_get}
use Rattle.dkg_artifact.specs.Requested as requested
use Rattle.dkg_store.specs.Acts.{by_want}
use Rattle.dkg_store.specs.declared.call.StoreError.TheVariants.{NoMemory as Wanting}
use Rattle.dkg_verifying.specs.declared.inclusion.Inclusion.{Inclusion}
use Rattle.dkg_verifying.specs.Including.{behind_first, fed_of, on_fed}
use Rattle.dkg_life.specs.LiveOf.{live_of}
use Rattle.dkg_inclusion.proofs.Advancing.{waits_next}
use Rattle.dkg_inclusion.proofs.Asking.{MakesOver, TellsOver, answered_next, behind_it, joined_as, needed_next, roundless_next, seen_held, seen_popped, seen_requests}
use Rattle.dkg_life.proofs.Burning.{makes_none, makes_nothing}
use Rattle.dkg_life.proofs.Committing.{goes_told, in_any}
use Rattle.dkg_life.proofs.Kept.{moved_none}
use Rattle.dkg_inclusion.proofs.Requesting.{settled_waits}
use Rattle.dkg_life.proofs.Said.{said_none}
use Rattle.dkg_inclusion.proofs.Scans.{needs_is}
use Rattle.dkg_inclusion.proofs.Staying.{at_none, none_of, ready_held, ready_requests, some_is, unless_none}
use Rattle.dkg_verifying.proofs.Telling.{ends_beside}
use Rattle.dkg_verifying.proofs.Within.{within_as, within_behind}
use Rattle.dkg_verifying.proofs.Looking.{looked}
use Rattle.dkg_inclusion.proofs.scanning.read_first.Goals as goal

-- THERE IS NO ROUND

pub returns-in_default-clause-acts : goal.returns-in_default-clause-acts
returns-in_default-clause-acts g c = λ disk secrets provider fixed beside fence of reads by includes seen.
    ends_beside beside seen refl (joined_as (MakesOver g.D.Disk.files g.D.Disk.image g.X.SecretStore.held) {x = (c.args.devices.now, c.args.out.now.entries)} {y = (c.args.devices.now, c.args.out.now.entries)} (roundless_next fixed (live_of beside fence c.args.life.now) (none_of c.args.life.now.round c.in_default.not-Some)) (makes_nothing (g.D.Disk.files c.args.devices.now.disk.now) (g.D.Disk.image c.args.devices.now.disk.now) _ refl))

pub returns-in_default-clause-tells : goal.returns-in_default-clause-tells
returns-in_default-clause-tells g c = λ provider fixed beside fence of reads by includes seen.
    ends_beside beside seen refl (joined_as TellsOver {x = c.args.out.now.entries} {y = c.args.out.now.entries} (roundless_next fixed (live_of beside fence c.args.life.now) (none_of c.args.life.now.round c.in_default.not-Some)) (goes_told g.row.Dir.Denot (live_of beside fence c.args.life.now) c.args.out.now.entries))

pub returns-in_default-clause-moved : goal.returns-in_default-clause-moved
returns-in_default-clause-moved g c = moved_none g.D.Disk.tells g.D.Disk.made g.X.SecretStore.made g.D.Disk.faults g.X.SecretStore.faults g.met.D.Disk.made_none g.met.X.SecretStore.made_none c.args.devices.now

pub returns-in_default-clause-left : goal.returns-in_default-clause-left
returns-in_default-clause-left g c = λ some. unless_none c.args.life.now.round (none_of c.args.life.now.round c.in_default.not-Some) some

-- NOTHING WAITS

pub returns-in_default-pop-clause-acts : goal.returns-in_default-pop-clause-acts
returns-in_default-pop-clause-acts g c = λ disk secrets provider fixed beside fence of reads by includes seen.
    ends_beside beside (seen_requests c.args.inclusion.now beside.inclusion seen c.pop.new.self ((at_none _ c.pop.result (none_of c.pop.result c.in_default-pop.not-Some) c.pop.ensures.none).1 ∙ sym (at_none _ c.pop.result (none_of c.pop.result c.in_default-pop.not-Some) c.pop.ensures.none).0)) refl (joined_as (MakesOver g.D.Disk.files g.D.Disk.image g.X.SecretStore.held) {x = (c.args.devices.now, c.args.out.now.entries)} {y = (c.args.devices.now, c.args.out.now.entries)} (waits_next fixed (live_of beside fence c.args.life.now) (settled_waits g.C.Ceremony.check_log_of g.C.Ceremony.dealing_of g.C.Ceremony.finish_of (non_zero_u64_get c.args.terms.now.blocks_per_epoch) c.args.life.now c.requires.ready.placed fixed of.blocks includes.check_log beside fence c.args.inclusion.now seen
    (record { ready = c.requires.including; settled = λ is round none free. (at_none _ c.pop.result (none_of c.pop.result c.in_default-pop.not-Some) c.pop.ensures.none).0 }))) (makes_nothing (g.D.Disk.files c.args.devices.now.disk.now) (g.D.Disk.image c.args.devices.now.disk.now) _ refl))

pub returns-in_default-pop-clause-tells : goal.returns-in_default-pop-clause-tells
returns-in_default-pop-clause-tells g c = λ provider fixed beside fence of reads by includes seen.
    ends_beside beside (seen_requests c.args.inclusion.now beside.inclusion seen c.pop.new.self ((at_none _ c.pop.result (none_of c.pop.result c.in_default-pop.not-Some) c.pop.ensures.none).1 ∙ sym (at_none _ c.pop.result (none_of c.pop.result c.in_default-pop.not-Some) c.pop.ensures.none).0)) refl (joined_as TellsOver {x = c.args.out.now.entries} {y = c.args.out.now.entries} (waits_next fixed (live_of beside fence c.args.life.now) (settled_waits g.C.Ceremony.check_log_of g.C.Ceremony.dealing_of g.C.Ceremony.finish_of (non_zero_u64_get c.args.terms.now.blocks_per_epoch) c.args.life.now c.requires.ready.placed fixed of.blocks includes.check_log beside fence c.args.inclusion.now seen
    (record { ready = c.requires.including; settled = λ is round none free. (at_none _ c.pop.result (none_of c.pop.result c.in_default-pop.not-Some) c.pop.ensures.none).0 }))) (goes_told g.row.Dir.Denot (live_of beside fence c.args.life.now) c.args.out.now.entries))

pub returns-in_default-pop-clause-moved : goal.returns-in_default-pop-clause-moved
returns-in_default-pop-clause-moved g c = moved_none g.D.Disk.tells g.D.Disk.made g.X.SecretStore.made g.D.Disk.faults g.X.SecretStore.faults g.met.D.Disk.made_none g.met.X.SecretStore.made_none c.args.devices.now

pub returns-in_default-pop-clause-including : goal.returns-in_default-pop-clause-including
returns-in_default-pop-clause-including g c = ready_requests g.C.Ceremony.check_log_of g.C.Ceremony.dealing_of g.C.Ceremony.finish_of (non_zero_u64_get c.args.terms.now.blocks_per_epoch) c.args.life.now c.args.inclusion.now c.requires.may.0 c.requires.including c.pop.new.self

pub returns-in_default-pop-clause-left : goal.returns-in_default-pop-clause-left
returns-in_default-pop-clause-left g c = λ some. (at_none _ c.pop.result (none_of c.pop.result c.in_default-pop.not-Some) c.pop.ensures.none).1 ∙ ap (λ (rs : List (requested.WaitingRequest g.row.Dir.Denot)). behind_first rs) (sym (at_none _ c.pop.result (none_of c.pop.result c.in_default-pop.not-Some) c.pop.ensures.none).0)

-- NO MEMORY

pub returns-in_err-scan-clause-acts : goal.returns-in_err-scan-clause-acts
returns-in_err-scan-clause-acts g c = λ disk secrets provider fixed beside fence of reads by includes seen.
    let p = err_from_is_err_and c.from_residual.result c.from_residual.ensures.1 in
    rw (p.1, p.2) (ends_beside beside tt refl (makes_none _ _ _ _ by_want tt refl))

pub returns-in_err-scan-clause-tells : goal.returns-in_err-scan-clause-tells
returns-in_err-scan-clause-tells g c = λ provider fixed beside fence of reads by includes seen.
    let p = err_from_is_err_and c.from_residual.result c.from_residual.ensures.1 in
    rw (p.1, p.2) (ends_beside beside tt refl (said_none _ Wanting tt refl))

pub returns-in_err-scan-clause-moved : goal.returns-in_err-scan-clause-moved
returns-in_err-scan-clause-moved g c = moved_none g.D.Disk.tells g.D.Disk.made g.X.SecretStore.made g.D.Disk.faults g.X.SecretStore.faults g.met.D.Disk.made_none g.met.X.SecretStore.made_none c.args.devices.now

pub returns-in_err-scan-clause-causes : goal.returns-in_err-scan-clause-causes
returns-in_err-scan-clause-causes g c =
    let p = err_from_is_err_and c.from_residual.result c.from_residual.ensures.1 in
    rw (p.1, p.2) tt

-- IT NEEDS MORE

pub returns-then-is_need-clause-acts : goal.returns-then-is_need-clause-acts
returns-then-is_need-clause-acts g c = λ disk secrets provider fixed beside fence of reads by includes seen.
    ends_beside beside (seen_held fixed beside fence c.args.life.now c.args.inclusion.now seen c.requires.may.0 c.requires.may.1 c.requires.may.2 c.in-Some-pop.request c.pop.new.self c.in-Some-pop.ensures.first (record { request = c.in-Some-pop.request; scan = c.in_ok-scan.scan }) refl) refl (joined_as (MakesOver g.D.Disk.files g.D.Disk.image g.X.SecretStore.held) {x = (c.args.devices.now, c.args.out.now.entries)} {y = (c.args.devices.now, c.args.out.now.entries)} (needed_next fixed beside fence c.args.life.now c.args.inclusion.now seen c.requires.may.0 c.requires.may.1 c.requires.may.2 c.in-Some-pop.request c.pop.new.self c.in-Some-pop.ensures.first c.in-Some.round c.in-Some.is c.in_ok-scan.fed (c.in_ok-scan.ensures.read fixed beside fence of.blocks includes.check_log) (sym c.is_need.ensures ∙ c.if-is_need.true)) (makes_nothing (g.D.Disk.files c.args.devices.now.disk.now) (g.D.Disk.image c.args.devices.now.disk.now) _ refl))

pub returns-then-is_need-clause-tells : goal.returns-then-is_need-clause-tells
returns-then-is_need-clause-tells g c = λ provider fixed beside fence of reads by includes seen.
    ends_beside beside (seen_held fixed beside fence c.args.life.now c.args.inclusion.now seen c.requires.may.0 c.requires.may.1 c.requires.may.2 c.in-Some-pop.request c.pop.new.self c.in-Some-pop.ensures.first (record { request = c.in-Some-pop.request; scan = c.in_ok-scan.scan }) refl) refl (joined_as TellsOver {x = c.args.out.now.entries} {y = c.args.out.now.entries} (needed_next fixed beside fence c.args.life.now c.args.inclusion.now seen c.requires.may.0 c.requires.may.1 c.requires.may.2 c.in-Some-pop.request c.pop.new.self c.in-Some-pop.ensures.first c.in-Some.round c.in-Some.is c.in_ok-scan.fed (c.in_ok-scan.ensures.read fixed beside fence of.blocks includes.check_log) (sym c.is_need.ensures ∙ c.if-is_need.true)) (goes_told g.row.Dir.Denot (live_of beside fence c.args.life.now) c.args.out.now.entries))

pub returns-then-is_need-clause-moved : goal.returns-then-is_need-clause-moved
returns-then-is_need-clause-moved g c = moved_none g.D.Disk.tells g.D.Disk.made g.X.SecretStore.made g.D.Disk.faults g.X.SecretStore.faults g.met.D.Disk.made_none g.met.X.SecretStore.made_none c.args.devices.now

pub returns-then-is_need-clause-including : goal.returns-then-is_need-clause-including
returns-then-is_need-clause-including g c =
    let stands = c.in_ok-scan.ensures.stands (needs_is c.in_ok-scan.fed (sym c.is_need.ensures ∙ c.if-is_need.true)) in
    ready_held g.C.Ceremony.check_log_of g.C.Ceremony.dealing_of g.C.Ceremony.finish_of (non_zero_u64_get c.args.terms.now.blocks_per_epoch) c.args.life.now c.args.inclusion.now c.requires.may.0 c.requires.including (record { request = c.in-Some-pop.request; scan = c.in_ok-scan.scan }) c.pop.new.self
    c.requires.may.2 stands.0 c.in-Some.round c.in-Some.is stands.1

pub returns-then-is_need-clause-left : goal.returns-then-is_need-clause-left
returns-then-is_need-clause-left g c = λ some. ap (λ (rs : List (requested.WaitingRequest g.row.Dir.Denot)). behind_first rs) (sym c.in-Some-pop.ensures.first)

-- IT IS ANSWERED

pub returns-clause-acts : goal.returns-clause-acts
returns-clause-acts g c = λ disk secrets provider fixed beside fence of reads by includes seen.
    let number : c.in-Some-pop.request.number ≡ c.request.inside.number = search rules in
    within_behind beside (behind_it fixed beside fence c.args.life.now c.args.inclusion.now seen c.requires.may.0 c.requires.may.1 c.requires.may.2 c.in-Some-pop.request c.pop.new.self c.in-Some-pop.ensures.first).inclusion (within_as (λ i is. is) (λ now is made. joined_as (MakesOver g.D.Disk.files g.D.Disk.image g.X.SecretStore.held) {x = (c.args.devices.now, c.args.out.now.entries)} {y = (c.take_answer.new.devices, c.take_answer.new.out.entries)} (answered_next fixed beside fence c.args.life.now c.args.inclusion.now seen c.requires.may.0 c.requires.may.1 c.requires.may.2 c.in-Some-pop.request c.pop.new.self c.in-Some-pop.ensures.first c.in-Some.round c.in-Some.is c.in_ok-scan.fed (c.in_ok-scan.ensures.read fixed beside fence of.blocks includes.check_log) (sym c.is_need.ensures ∙ c.if-is_need.false)
    ∙ ap (λ (k : ℕ). on_fed fixed c.in-Some.round k (fed_of c.in_ok-scan.fed) (live_of (behind_it fixed beside fence c.args.life.now c.args.inclusion.now seen c.requires.may.0 c.requires.may.1 c.requires.may.2 c.in-Some-pop.request c.pop.new.self c.in-Some-pop.ensures.first) fence c.args.life.now)) number) made)
    (c.take_answer.ensures.acts disk secrets provider fixed c.in-Some.round (behind_it fixed beside fence c.args.life.now c.args.inclusion.now seen c.requires.may.0 c.requires.may.1 c.requires.may.2 c.in-Some-pop.request c.pop.new.self c.in-Some-pop.ensures.first) fence of reads by includes c.in-Some.is (seen_popped fixed beside fence c.args.life.now c.args.inclusion.now seen c.requires.may.0 c.requires.may.1 c.requires.may.2 c.in-Some-pop.request c.pop.new.self c.in-Some-pop.ensures.first)))

pub returns-clause-tells : goal.returns-clause-tells
returns-clause-tells g c = λ provider fixed beside fence of reads by includes seen.
    let number : c.in-Some-pop.request.number ≡ c.request.inside.number = search rules in
    within_behind beside (behind_it fixed beside fence c.args.life.now c.args.inclusion.now seen c.requires.may.0 c.requires.may.1 c.requires.may.2 c.in-Some-pop.request c.pop.new.self c.in-Some-pop.ensures.first).inclusion (within_as (λ i is. is) (λ now is made. joined_as TellsOver {x = c.args.out.now.entries} {y = c.take_answer.new.out.entries} (answered_next fixed beside fence c.args.life.now c.args.inclusion.now seen c.requires.may.0 c.requires.may.1 c.requires.may.2 c.in-Some-pop.request c.pop.new.self c.in-Some-pop.ensures.first c.in-Some.round c.in-Some.is c.in_ok-scan.fed (c.in_ok-scan.ensures.read fixed beside fence of.blocks includes.check_log) (sym c.is_need.ensures ∙ c.if-is_need.false)
    ∙ ap (λ (k : ℕ). on_fed fixed c.in-Some.round k (fed_of c.in_ok-scan.fed) (live_of (behind_it fixed beside fence c.args.life.now c.args.inclusion.now seen c.requires.may.0 c.requires.may.1 c.requires.may.2 c.in-Some-pop.request c.pop.new.self c.in-Some-pop.ensures.first) fence c.args.life.now)) number) made)
    (c.take_answer.ensures.tells provider fixed c.in-Some.round (behind_it fixed beside fence c.args.life.now c.args.inclusion.now seen c.requires.may.0 c.requires.may.1 c.requires.may.2 c.in-Some-pop.request c.pop.new.self c.in-Some-pop.ensures.first) fence of reads by includes c.in-Some.is (seen_popped fixed beside fence c.args.life.now c.args.inclusion.now seen c.requires.may.0 c.requires.may.1 c.requires.may.2 c.in-Some-pop.request c.pop.new.self c.in-Some-pop.ensures.first)))

pub returns-clause-ready : goal.returns-clause-ready
returns-clause-ready g c = c.take_answer.ensures.ready

pub returns-clause-including : goal.returns-clause-including
returns-clause-including g c = c.take_answer.ensures.including

pub returns-clause-stays : goal.returns-clause-stays
returns-clause-stays g c = c.take_answer.ensures.stays

pub returns-clause-moved : goal.returns-clause-moved
returns-clause-moved g c = c.take_answer.ensures.moved

pub returns-clause-causes : goal.returns-clause-causes
returns-clause-causes g c = c.take_answer.ensures.causes

pub returns-clause-left : goal.returns-clause-left
returns-clause-left g c = in_any c.take_answer.result (λ some. ap (λ (x : Inclusion g.row.C.Denot g.row.Dir.Denot g.row.C-Signer.Denot g.row.Dir-Cfg.Denot). x.requests) c.take_answer.ensures.rest
    ∙ ap (λ (rs : List (requested.WaitingRequest g.row.Dir.Denot)). behind_first rs) (sym c.in-Some-pop.ensures.first))

pub take_answer-requires-clause-ready : goal.take_answer-requires-clause-ready
take_answer-requires-clause-ready g c = c.requires.ready

pub take_answer-requires-clause-including : goal.take_answer-requires-clause-including
take_answer-requires-clause-including g c = ready_requests g.C.Ceremony.check_log_of g.C.Ceremony.dealing_of g.C.Ceremony.finish_of (non_zero_u64_get c.args.terms.now.blocks_per_epoch) c.args.life.now c.args.inclusion.now c.requires.may.0 c.requires.including c.pop.new.self

pub take_answer-requires-clause-may : goal.take_answer-requires-clause-may
take_answer-requires-clause-may g c = c.requires.may

pub take_answer-requires-clause-round : goal.take_answer-requires-clause-round
take_answer-requires-clause-round g c = some_is c.args.life.now.round c.in-Some.round c.in-Some.is

-- WHAT STAYS

pub returns-in_default-clause-ready : goal.returns-in_default-clause-ready
returns-in_default-clause-ready g c = c.requires.ready

pub returns-in_default-clause-including : goal.returns-in_default-clause-including
returns-in_default-clause-including g c = c.requires.including

pub returns-in_default-clause-causes : goal.returns-in_default-clause-causes
returns-in_default-clause-causes g c = tt

pub returns-in_default-clause-stays : goal.returns-in_default-clause-stays
returns-in_default-clause-stays g c = looked

pub returns-in_default-pop-clause-ready : goal.returns-in_default-pop-clause-ready
returns-in_default-pop-clause-ready g c = c.requires.ready

pub returns-in_default-pop-clause-causes : goal.returns-in_default-pop-clause-causes
returns-in_default-pop-clause-causes g c = tt

pub returns-in_default-pop-clause-stays : goal.returns-in_default-pop-clause-stays
returns-in_default-pop-clause-stays g c = looked

pub returns-in_err-scan-clause-ready : goal.returns-in_err-scan-clause-ready
returns-in_err-scan-clause-ready g c =
    let p = err_from_is_err_and c.from_residual.result c.from_residual.ensures.1 in
    rw p.1 tt

pub returns-in_err-scan-clause-including : goal.returns-in_err-scan-clause-including
returns-in_err-scan-clause-including g c =
    let p = err_from_is_err_and c.from_residual.result c.from_residual.ensures.1 in
    rw p.1 tt

pub returns-in_err-scan-clause-left : goal.returns-in_err-scan-clause-left
returns-in_err-scan-clause-left g c =
    let p = err_from_is_err_and c.from_residual.result c.from_residual.ensures.1 in
    rw p.1 tt

pub returns-in_err-scan-clause-stays : goal.returns-in_err-scan-clause-stays
returns-in_err-scan-clause-stays g c = looked

pub returns-then-is_need-clause-ready : goal.returns-then-is_need-clause-ready
returns-then-is_need-clause-ready g c = c.requires.ready

pub returns-then-is_need-clause-causes : goal.returns-then-is_need-clause-causes
returns-then-is_need-clause-causes g c = tt

pub returns-then-is_need-clause-stays : goal.returns-then-is_need-clause-stays
returns-then-is_need-clause-stays g c = looked
