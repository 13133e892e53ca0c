use Rattle.std.proofs.Common.{◌≡◌, ap, refl, sym, ◌∙◌}
use Rattle.std.proofs.lemmas.Result.{err_from_is_err_and}
use Rattle.std.specs.Int.NonZero.{non_zero_u64_get}
use Rattle.dkg_ceremony.specs.Outcomes.{LogMap}
use Rattle.dkg_store.specs.Acts.{by_want}
use Rattle.dkg_store.specs.declared.call.StoreError.TheVariants.{NoMemory as Wanting}
use Rattle.dkg_artifact.specs.declared.scan.Fed as declared
use Rattle.dkg_core.specs.Including as including
use Rattle.dkg_core.specs.Live.{GaveNone}
use Rattle.dkg_core.specs.Logs.{canonical, filled_by}
use Rattle.dkg_verifying.specs.Including.{fed_of, on_fed}
use Rattle.dkg_life.specs.LiveOf.{live_of}
use Rattle.dkg_verifying.specs.declared.told.EpochInfoResponse.TheVariants.{Unavailable}
use Rattle.dkg_verifying.specs.declared.told.Told.TheVariants.{Info}
use Rattle.dkg_inclusion.proofs.Asking.{MakesOver, TellsOver, joined_as, told_ends}
use Rattle.dkg_life.proofs.Burning.{makes_none, makes_nothing, speaks_makes}
use Rattle.dkg_life.proofs.Committing.{goes_told, in_any}
use Rattle.dkg_life.proofs.Kept.{moved_none}
use Rattle.dkg_life.proofs.Said.{said_none, speaks_tells}
use Rattle.dkg_inclusion.proofs.Staying.{middle_of, ready_answered, want_blames}
use Rattle.dkg_verifying.proofs.Telling.{ends_beside}
use Rattle.dkg_verifying.proofs.Within.{within_as}
use Rattle.dkg_verifying.proofs.Looking.{looked}
use Rattle.dkg_inclusion.proofs.scanning.take_answer.Goals as goal

-- IT NEEDS MORE

pub returns-in-Need-clause-acts : goal.returns-in-Need-clause-acts
returns-in-Need-clause-acts g c = λ disk secrets provider fixed round beside fence of reads by includes has seen.
    ends_beside beside seen refl (joined_as (MakesOver g.D.Disk.files g.D.Disk.image g.X.SecretStore.held) {x = (c.args.devices.now, c.args.out.now.entries)} {y = (c.args.devices.now, c.args.out.now.entries)} (ap (λ (x : declared.Fed). on_fed fixed round c.args.request (fed_of x) (live_of beside fence c.args.life.now)) c.in-Need.is)
    (makes_nothing (g.D.Disk.files c.args.devices.now.disk.now) (g.D.Disk.image c.args.devices.now.disk.now) _ refl))

pub returns-in-Need-clause-tells : goal.returns-in-Need-clause-tells
returns-in-Need-clause-tells g c = λ provider fixed round beside fence of reads by includes has seen.
    ends_beside beside seen refl (joined_as TellsOver {x = c.args.out.now.entries} {y = c.args.out.now.entries} (ap (λ (x : declared.Fed). on_fed fixed round c.args.request (fed_of x) (live_of beside fence c.args.life.now)) c.in-Need.is)
    (goes_told g.row.Dir.Denot (live_of beside fence c.args.life.now) c.args.out.now.entries))

pub returns-in-Need-clause-moved : goal.returns-in-Need-clause-moved
returns-in-Need-clause-moved g c = moved_none g.D.Disk.tells g.D.Disk.made g.X.SecretStore.made g.D.Disk.faults g.X.SecretStore.faults g.met.D.Disk.made_none g.met.X.SecretStore.made_none c.args.devices.now

-- IT HAS NO ANSWER

pub returns-in-Unavailable-clause-acts : goal.returns-in-Unavailable-clause-acts
returns-in-Unavailable-clause-acts g c = λ disk secrets provider fixed round beside fence of reads by includes has seen.
    told_ends (MakesOver g.D.Disk.files g.D.Disk.image g.X.SecretStore.held) beside fence c.args.life.now c.args.inclusion.now seen c.args.request c.answer_none.result
    (on_fed fixed round c.args.request (fed_of c.args.fed) (live_of beside fence c.args.life.now)) (c.args.devices.now, c.args.out.now.entries) (c.args.devices.now, c.answer_none.new.out.entries)
    (Info (Unavailable c.in-Unavailable.why)) (GaveNone c.in-Unavailable.why) refl c.answer_none.new.told c.answer_none.ensures.told
    (joined_as (MakesOver g.D.Disk.files g.D.Disk.image g.X.SecretStore.held) {x = (c.args.devices.now, c.args.out.now.entries)} {y = (c.args.devices.now, c.answer_none.new.out.entries)} (ap (λ (x : declared.Fed). on_fed fixed round c.args.request (fed_of x) (live_of beside fence c.args.life.now)) c.in-Unavailable.is)
    (speaks_makes (including.answers_none c.args.request c.in-Unavailable.why (live_of beside fence c.args.life.now)) _ (g.D.Disk.files c.args.devices.now.disk.now) (g.D.Disk.image c.args.devices.now.disk.now)
    (c.answer_none.ensures.speaks (live_of beside fence c.args.life.now))))

pub returns-in-Unavailable-clause-tells : goal.returns-in-Unavailable-clause-tells
returns-in-Unavailable-clause-tells g c = λ provider fixed round beside fence of reads by includes has seen.
    told_ends TellsOver beside fence c.args.life.now c.args.inclusion.now seen c.args.request c.answer_none.result
    (on_fed fixed round c.args.request (fed_of c.args.fed) (live_of beside fence c.args.life.now)) c.args.out.now.entries c.answer_none.new.out.entries
    (Info (Unavailable c.in-Unavailable.why)) (GaveNone c.in-Unavailable.why) refl c.answer_none.new.told c.answer_none.ensures.told
    (joined_as TellsOver {x = c.args.out.now.entries} {y = c.answer_none.new.out.entries} (ap (λ (x : declared.Fed). on_fed fixed round c.args.request (fed_of x) (live_of beside fence c.args.life.now)) c.in-Unavailable.is)
    (speaks_tells (including.answers_none c.args.request c.in-Unavailable.why (live_of beside fence c.args.life.now)) _ (c.answer_none.ensures.speaks (live_of beside fence c.args.life.now))))

pub returns-in-Unavailable-clause-ready : goal.returns-in-Unavailable-clause-ready
returns-in-Unavailable-clause-ready g c = in_any c.answer_none.result c.requires.ready

pub returns-in-Unavailable-clause-including : goal.returns-in-Unavailable-clause-including
returns-in-Unavailable-clause-including g c =
    in_any c.answer_none.result (ready_answered g.C.Ceremony.check_log_of g.C.Ceremony.dealing_of g.C.Ceremony.finish_of (non_zero_u64_get c.args.terms.now.blocks_per_epoch) c.args.life.now c.args.inclusion.now c.args.inclusion.now.cache c.answer_none.new.told c.requires.including)

pub returns-in-Unavailable-clause-moved : goal.returns-in-Unavailable-clause-moved
returns-in-Unavailable-clause-moved g c = moved_none g.D.Disk.tells g.D.Disk.made g.X.SecretStore.made g.D.Disk.faults g.X.SecretStore.faults g.met.D.Disk.made_none g.met.X.SecretStore.made_none c.args.devices.now

pub returns-in-Unavailable-clause-causes : goal.returns-in-Unavailable-clause-causes
returns-in-Unavailable-clause-causes g c = want_blames _ _ _ c.answer_none.result c.answer_none.ensures.memory

-- NO MEMORY

pub returns-in_err-canonical-in-Logs-clause-acts : goal.returns-in_err-canonical-in-Logs-clause-acts
returns-in_err-canonical-in-Logs-clause-acts g c = λ disk secrets provider fixed round beside fence of reads by includes has seen.
    let p = err_from_is_err_and c.from_residual.result c.from_residual.ensures.1 in
    rw (p.1, p.2) (ends_beside beside tt refl (makes_none _ _ _ _ by_want tt refl))

pub returns-in_err-canonical-in-Logs-clause-tells : goal.returns-in_err-canonical-in-Logs-clause-tells
returns-in_err-canonical-in-Logs-clause-tells g c = λ provider fixed round beside fence of reads by includes has seen.
    let p = err_from_is_err_and c.from_residual.result c.from_residual.ensures.1 in
    rw (p.1, p.2) (ends_beside beside tt refl (said_none _ Wanting tt refl))

pub returns-in_err-canonical-in-Logs-clause-moved : goal.returns-in_err-canonical-in-Logs-clause-moved
returns-in_err-canonical-in-Logs-clause-moved g c = moved_none g.D.Disk.tells g.D.Disk.made g.X.SecretStore.made g.D.Disk.faults g.X.SecretStore.faults g.met.D.Disk.made_none g.met.X.SecretStore.made_none c.args.devices.now

pub returns-in_err-canonical-in-Logs-clause-causes : goal.returns-in_err-canonical-in-Logs-clause-causes
returns-in_err-canonical-in-Logs-clause-causes g c =
    let p = err_from_is_err_and c.from_residual.result c.from_residual.ensures.1 in
    rw (p.1, p.2) tt

pub returns-in_err-logs-in-Logs-clause-acts : goal.returns-in_err-logs-in-Logs-clause-acts
returns-in_err-logs-in-Logs-clause-acts g c = λ disk secrets provider fixed round beside fence of reads by includes has seen.
    let p = err_from_is_err_and c.from_residual-in_err-logs-in-Logs.result c.from_residual-in_err-logs-in-Logs.ensures.1 in
    rw (p.1, p.2) (ends_beside beside tt refl (makes_none _ _ _ _ by_want tt refl))

pub returns-in_err-logs-in-Logs-clause-tells : goal.returns-in_err-logs-in-Logs-clause-tells
returns-in_err-logs-in-Logs-clause-tells g c = λ provider fixed round beside fence of reads by includes has seen.
    let p = err_from_is_err_and c.from_residual-in_err-logs-in-Logs.result c.from_residual-in_err-logs-in-Logs.ensures.1 in
    rw (p.1, p.2) (ends_beside beside tt refl (said_none _ Wanting tt refl))

pub returns-in_err-logs-in-Logs-clause-moved : goal.returns-in_err-logs-in-Logs-clause-moved
returns-in_err-logs-in-Logs-clause-moved g c = moved_none g.D.Disk.tells g.D.Disk.made g.X.SecretStore.made g.D.Disk.faults g.X.SecretStore.faults g.met.D.Disk.made_none g.met.X.SecretStore.made_none c.args.devices.now

pub returns-in_err-logs-in-Logs-clause-causes : goal.returns-in_err-logs-in-Logs-clause-causes
returns-in_err-logs-in-Logs-clause-causes g c =
    let p = err_from_is_err_and c.from_residual-in_err-logs-in-Logs.result c.from_residual-in_err-logs-in-Logs.ensures.1 in
    rw (p.1, p.2) tt

-- IT IS ASKED FOR

pub returns-in_ok-logs-in-Logs-clause-acts : goal.returns-in_ok-logs-in-Logs-clause-acts
returns-in_ok-logs-in-Logs-clause-acts g c = λ disk secrets provider fixed round beside fence of reads by includes has seen.
    let of_logs : c.in_ok-logs-in-Logs.logs ≡ filled_by (canonical fixed (live_of beside fence c.args.life.now)) c.in-Logs.found =
    c.in_ok-logs-in-Logs.ensures ∙ ap (λ (l : LogMap). filled_by l c.in-Logs.found)
    (c.in_ok-canonical-in-Logs.ensures.canonical fixed beside fence (middle_of (non_zero_u64_get c.args.terms.now.blocks_per_epoch) c.args.life.now fixed of.blocks c.requires.ready.placed c.requires.may.0)) in
    within_as (λ i is. is) (λ now is made. joined_as (MakesOver g.D.Disk.files g.D.Disk.image g.X.SecretStore.held) {x = (c.args.devices.now, c.args.out.now.entries)} {y = (c.ask_for.new.devices, c.ask_for.new.out.entries)} (ap (λ (x : declared.Fed). on_fed fixed round c.args.request (fed_of x) (live_of beside fence c.args.life.now)) c.in-Logs.is
    ∙ ap (λ (l : LogMap). including.asks_logs fixed round c.args.request l (live_of beside fence c.args.life.now)) (sym of_logs)) made)
    (c.ask_for.ensures.acts disk secrets provider fixed round beside fence of reads by includes has seen)

pub returns-in_ok-logs-in-Logs-clause-tells : goal.returns-in_ok-logs-in-Logs-clause-tells
returns-in_ok-logs-in-Logs-clause-tells g c = λ provider fixed round beside fence of reads by includes has seen.
    let of_logs : c.in_ok-logs-in-Logs.logs ≡ filled_by (canonical fixed (live_of beside fence c.args.life.now)) c.in-Logs.found =
    c.in_ok-logs-in-Logs.ensures ∙ ap (λ (l : LogMap). filled_by l c.in-Logs.found)
    (c.in_ok-canonical-in-Logs.ensures.canonical fixed beside fence (middle_of (non_zero_u64_get c.args.terms.now.blocks_per_epoch) c.args.life.now fixed of.blocks c.requires.ready.placed c.requires.may.0)) in
    within_as (λ i is. is) (λ now is made. joined_as TellsOver {x = c.args.out.now.entries} {y = c.ask_for.new.out.entries} (ap (λ (x : declared.Fed). on_fed fixed round c.args.request (fed_of x) (live_of beside fence c.args.life.now)) c.in-Logs.is
    ∙ ap (λ (l : LogMap). including.asks_logs fixed round c.args.request l (live_of beside fence c.args.life.now)) (sym of_logs)) made)
    (c.ask_for.ensures.tells provider fixed round beside fence of reads by includes has seen)

pub returns-in_ok-logs-in-Logs-clause-moved : goal.returns-in_ok-logs-in-Logs-clause-moved
returns-in_ok-logs-in-Logs-clause-moved g c = c.ask_for.ensures.moved

pub returns-in_ok-logs-in-Logs-clause-causes : goal.returns-in_ok-logs-in-Logs-clause-causes
returns-in_ok-logs-in-Logs-clause-causes g c = c.ask_for.ensures.causes

pub returns-in_ok-logs-in-Logs-clause-ready : goal.returns-in_ok-logs-in-Logs-clause-ready
returns-in_ok-logs-in-Logs-clause-ready g c = c.ask_for.ensures.ready

pub returns-in_ok-logs-in-Logs-clause-including : goal.returns-in_ok-logs-in-Logs-clause-including
returns-in_ok-logs-in-Logs-clause-including g c = c.ask_for.ensures.including

pub returns-in_ok-logs-in-Logs-clause-stays : goal.returns-in_ok-logs-in-Logs-clause-stays
returns-in_ok-logs-in-Logs-clause-stays g c = c.ask_for.ensures.stays

pub returns-in_ok-logs-in-Logs-clause-rest : goal.returns-in_ok-logs-in-Logs-clause-rest
returns-in_ok-logs-in-Logs-clause-rest g c = c.ask_for.ensures.rest

pub ask_for-requires-clause-ready : goal.ask_for-requires-clause-ready
ask_for-requires-clause-ready g c = c.requires.ready

pub ask_for-requires-clause-including : goal.ask_for-requires-clause-including
ask_for-requires-clause-including g c = c.requires.including

pub ask_for-requires-clause-may : goal.ask_for-requires-clause-may
ask_for-requires-clause-may g c = c.requires.may

pub ask_for-requires-clause-round : goal.ask_for-requires-clause-round
ask_for-requires-clause-round g c = c.requires.round

-- WHAT STAYS

pub returns-in-Need-clause-ready : goal.returns-in-Need-clause-ready
returns-in-Need-clause-ready g c = c.requires.ready

pub returns-in-Need-clause-including : goal.returns-in-Need-clause-including
returns-in-Need-clause-including g c = c.requires.including

pub returns-in-Need-clause-causes : goal.returns-in-Need-clause-causes
returns-in-Need-clause-causes g c = tt

pub returns-in-Need-clause-stays : goal.returns-in-Need-clause-stays
returns-in-Need-clause-stays g c = looked

pub returns-in-Need-clause-rest : goal.returns-in-Need-clause-rest
returns-in-Need-clause-rest g c = refl

pub returns-in-Unavailable-clause-stays : goal.returns-in-Unavailable-clause-stays
returns-in-Unavailable-clause-stays g c = looked

pub returns-in-Unavailable-clause-rest : goal.returns-in-Unavailable-clause-rest
returns-in-Unavailable-clause-rest g c = refl

pub returns-in_err-canonical-in-Logs-clause-ready : goal.returns-in_err-canonical-in-Logs-clause-ready
returns-in_err-canonical-in-Logs-clause-ready g c =
    let p = err_from_is_err_and c.from_residual.result c.from_residual.ensures.1 in
    rw p.1 tt

pub returns-in_err-canonical-in-Logs-clause-including : goal.returns-in_err-canonical-in-Logs-clause-including
returns-in_err-canonical-in-Logs-clause-including g c =
    let p = err_from_is_err_and c.from_residual.result c.from_residual.ensures.1 in
    rw p.1 tt

pub returns-in_err-canonical-in-Logs-clause-stays : goal.returns-in_err-canonical-in-Logs-clause-stays
returns-in_err-canonical-in-Logs-clause-stays g c = looked

pub returns-in_err-canonical-in-Logs-clause-rest : goal.returns-in_err-canonical-in-Logs-clause-rest
returns-in_err-canonical-in-Logs-clause-rest g c = refl

pub returns-in_err-logs-in-Logs-clause-ready : goal.returns-in_err-logs-in-Logs-clause-ready
returns-in_err-logs-in-Logs-clause-ready g c =
    let p = err_from_is_err_and c.from_residual-in_err-logs-in-Logs.result c.from_residual-in_err-logs-in-Logs.ensures.1 in
    rw p.1 tt

pub returns-in_err-logs-in-Logs-clause-including : goal.returns-in_err-logs-in-Logs-clause-including
returns-in_err-logs-in-Logs-clause-including g c =
    let p = err_from_is_err_and c.from_residual-in_err-logs-in-Logs.result c.from_residual-in_err-logs-in-Logs.ensures.1 in
    rw p.1 tt

pub returns-in_err-logs-in-Logs-clause-stays : goal.returns-in_err-logs-in-Logs-clause-stays
returns-in_err-logs-in-Logs-clause-stays g c = looked

pub returns-in_err-logs-in-Logs-clause-rest : goal.returns-in_err-logs-in-Logs-clause-rest
returns-in_err-logs-in-Logs-clause-rest g c = refl
