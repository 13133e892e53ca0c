use Rattle.std.proofs.Common.{◌≡◌, refl, rules, sym, true, ◌∙◌, arith}
use Rattle.std.proofs.lemmas.Grind.{common_steps}
use Rattle.std.proofs.lemmas.Result.{err_from_is_err_and}
use Rattle.dkg_store.specs.Acts.{broken, by_want, went}
use Rattle.dkg_store.specs.declared.event.Event.TheVariants as events
use Rattle.dkg_store.proofs.Fit.{fits_event}
use Rattle.dkg_store.proofs.Left.{due_of_devices}
use Rattle.dkg_core.specs.Blocks as blocks
use Rattle.dkg_core.specs.Courses.{on_devices}
use Rattle.dkg_life.specs.LiveOf.{live_of}
use Rattle.dkg_life.proofs.Burning.{burns_counted, makes_error, makes_under, speaks_makes}
use Rattle.dkg_life.proofs.Calls.{moved_called}
use Rattle.dkg_life.proofs.Caused.{of_due}
use Rattle.dkg_life.proofs.Kept.{moved_none}
use Rattle.dkg_blocks.proofs.Logged.{known_speaks, log_made, log_said, log_short, log_stopped, log_store}
use Rattle.dkg_life.proofs.Said.{pruning_of_due, said_none, speaks_tells}
use Rattle.dkg_life.proofs.Speaking.{want_speaks}
use Rattle.dkg_blocks.proofs.logs.record.Goals as goal

-- IT WAS RECORDED BEFORE

pub returns-then-has_log-clause-acts : goal.returns-then-has_log-clause-acts
returns-then-has_log-clause-acts g c = λ disk secrets life beside fence out stored.
    speaks_makes (blocks.records_log c.args.epoch c.args.height c.args.signed.now (live_of beside fence life)) (went (live_of beside fence (record life { store = c.args.store.now }))) _ _
    (known_speaks life beside fence c.args.height c.args.signed.now c.args.store.now c.args.epoch stored (sym c.has_log.ensures ∙ c.if-has_log.true) out)

pub returns-then-has_log-clause-tells : goal.returns-then-has_log-clause-tells
returns-then-has_log-clause-tells g c = λ life beside fence out stored.
    speaks_tells (blocks.records_log c.args.epoch c.args.height c.args.signed.now (live_of beside fence life)) (went (live_of beside fence (record life { store = c.args.store.now })))
    (known_speaks life beside fence c.args.height c.args.signed.now c.args.store.now c.args.epoch stored (sym c.has_log.ensures ∙ c.if-has_log.true) out)

pub returns-then-has_log-clause-moved : goal.returns-then-has_log-clause-moved
returns-then-has_log-clause-moved g c = moved_none g.D.Disk.tells g.D.Disk.made g.X.SecretStore.made g.D.Disk.faults g.X.SecretStore.faults g.met.D.Disk.made_none g.met.X.SecretStore.made_none c.args.devices.now

pub returns-then-has_log-clause-fit : goal.returns-then-has_log-clause-fit
returns-then-has_log-clause-fit g c = λ told most fits fit. fit

-- A RECORD HAS NO ROOM FOR IT

pub returns-then-not-has_room-clause-acts : goal.returns-then-not-has_room-clause-acts
returns-then-not-has_room-clause-acts g c = λ disk secrets life beside fence out stored.
    let course = blocks.records_log c.args.epoch c.args.height c.args.signed.now (live_of beside fence life) in
    speaks_makes course (broken by_want) _ _ (want_speaks course out)

pub returns-then-not-has_room-clause-tells : goal.returns-then-not-has_room-clause-tells
returns-then-not-has_room-clause-tells g c = λ life beside fence out stored.
    let course = blocks.records_log c.args.epoch c.args.height c.args.signed.now (live_of beside fence life) in
    speaks_tells course (broken by_want) (want_speaks course out)

pub returns-then-not-has_room-clause-moved : goal.returns-then-not-has_room-clause-moved
returns-then-not-has_room-clause-moved g c = moved_none g.D.Disk.tells g.D.Disk.made g.X.SecretStore.made g.D.Disk.faults g.X.SecretStore.faults g.met.D.Disk.made_none g.met.X.SecretStore.made_none c.args.devices.now

pub returns-then-not-has_room-clause-fit : goal.returns-then-not-has_room-clause-fit
returns-then-not-has_room-clause-fit g c = λ told most fits fit. fit

-- NO COPY

pub returns-in_err-log-clause-acts : goal.returns-in_err-log-clause-acts
returns-in_err-log-clause-acts g c = λ disk secrets life beside fence out stored.
    let p = err_from_is_err_and c.from_residual.result c.from_residual.ensures.1 in
    let course = blocks.records_log c.args.epoch c.args.height c.args.signed.now (live_of beside fence life) in
    rw (p.1, p.2) (speaks_makes course (broken by_want) _ _ (want_speaks course out))

pub returns-in_err-log-clause-tells : goal.returns-in_err-log-clause-tells
returns-in_err-log-clause-tells g c = λ life beside fence out stored.
    let p = err_from_is_err_and c.from_residual.result c.from_residual.ensures.1 in
    let course = blocks.records_log c.args.epoch c.args.height c.args.signed.now (live_of beside fence life) in
    rw (p.1, p.2) (speaks_tells course (broken by_want) (want_speaks course out))

pub returns-in_err-log-clause-moved : goal.returns-in_err-log-clause-moved
returns-in_err-log-clause-moved g c = moved_none g.D.Disk.tells g.D.Disk.made g.X.SecretStore.made g.D.Disk.faults g.X.SecretStore.faults g.met.D.Disk.made_none g.met.X.SecretStore.made_none c.args.devices.now

pub returns-in_err-log-clause-fit : goal.returns-in_err-log-clause-fit
returns-in_err-log-clause-fit g c = λ told most fits fit. fit

-- THE STORE'S CALL

pub append_log-requires-clause-short : goal.append_log-requires-clause-short
append_log-requires-clause-short g c =
    let yes : c.has_room.result ≡ true = grind (arith, common_steps) in
    rw c.in_ok-log.ensures (log_short c.args.signed.now.dealer c.args.height c.args.signed.now.log (c.has_room.ensures.room yes))

pub append_log-requires-clause-open : goal.append_log-requires-clause-open
append_log-requires-clause-open g c = λ told. (c.requires.firm told).open_on

-- .. failed

pub returns-in_err-append_log-clause-rest : goal.returns-in_err-append_log-clause-rest
returns-in_err-append_log-clause-rest g c = log_store c.append_log.ensures.kept

pub returns-in_err-append_log-clause-acts : goal.returns-in_err-append_log-clause-acts
returns-in_err-append_log-clause-acts g c = λ disk secrets life beside fence out stored.
    let p = err_from_is_err_and c.from_residual-in_err-append_log.result c.from_residual-in_err-append_log.ensures.1 in
    rw (p.1, p.2) (log_stopped life beside fence c.args.height c.args.signed.now c.args.store.now c.args.epoch stored _
    (makes_error c.in_err-append_log.field-0.0 (due_of_devices c.in_err-append_log.field-0.0 _ _ _ _ c.in_err-append_log.ensures.due) (rw c.in_ok-log.ensures at (c.in_err-append_log.ensures.acts disk out))
    c.append_log.ensures.called.counts.call c.append_log.ensures.called.counts.pick))

pub returns-in_err-append_log-clause-tells : goal.returns-in_err-append_log-clause-tells
returns-in_err-append_log-clause-tells g c = λ life beside fence out stored.
    let p = err_from_is_err_and c.from_residual-in_err-append_log.result c.from_residual-in_err-append_log.ensures.1 in
    rw (p.1, p.2) (said_none (on_devices (blocks.records_log c.args.epoch c.args.height c.args.signed.now (live_of beside fence life))) c.in_err-append_log.field-0.0
    (pruning_of_due _ _ _ _ _ c.in_err-append_log.field-0.0 c.in_err-append_log.ensures.due) refl)

pub returns-in_err-append_log-clause-moved : goal.returns-in_err-append_log-clause-moved
returns-in_err-append_log-clause-moved g c = moved_called g.D.Disk.tells g.D.Disk.made g.X.SecretStore.made g.D.Disk.faults g.X.SecretStore.faults (λ told. tt) c.append_log.ensures.called

pub returns-in_err-append_log-clause-causes : goal.returns-in_err-append_log-clause-causes
returns-in_err-append_log-clause-causes g c =
    let p = err_from_is_err_and c.from_residual-in_err-append_log.result c.from_residual-in_err-append_log.ensures.1 in
    rw (p.1, p.2) ((of_due _ c.in_err-append_log.field-0.0 c.in_err-append_log.ensures.due (λ rose. rose) (λ none. absurd none) (λ at. at.0)).1)

pub returns-in_err-append_log-clause-fit : goal.returns-in_err-append_log-clause-fit
returns-in_err-append_log-clause-fit g c = λ told most fits fit.
    (rw c.in_ok-log.ensures at (c.append_log.ensures.extends told)).fit most (fits_event most (events.LogAt c.args.signed.now.dealer c.args.height c.args.signed.now.log) (record { one = c.has_room.ensures.dealer; other = record { one = search rules; other = fits } })) fit

-- .. or not

pub returns-clause-firm : goal.returns-clause-firm
returns-clause-firm g c = λ told. record { open_on = c.in_ok-append_log.ensures.open told; lands = (c.in_ok-append_log.ensures.extends told).lands (c.requires.firm told).lands }

pub returns-clause-rest : goal.returns-clause-rest
returns-clause-rest g c = log_store c.append_log.ensures.kept

pub returns-clause-acts : goal.returns-clause-acts
returns-clause-acts g c = λ disk secrets life beside fence out stored.
    let kept = rw (c.in_ok-log.ensures, c.in_ok-append_log.ensures.known) at c.in_ok-append_log.ensures.kept in
    log_made life beside fence c.args.height c.args.signed.now c.args.store.now c.args.epoch stored c.append_log.new.self (log_store c.append_log.ensures.kept) kept.logs c.in_ok-append_log.field-0
    (makes_under (went c.in_ok-append_log.field-0) (rw c.in_ok-log.ensures at (c.in_ok-append_log.ensures.acts disk out))
    (burns_counted (went c.in_ok-append_log.field-0) c.append_log.ensures.called.counts c.in_ok-append_log.ensures.called.not_cut))

pub returns-clause-tells : goal.returns-clause-tells
returns-clause-tells g c = λ life beside fence out stored.
    let kept = rw (c.in_ok-log.ensures, c.in_ok-append_log.ensures.known) at c.in_ok-append_log.ensures.kept in
    log_said life beside fence c.args.height c.args.signed.now c.args.store.now c.args.epoch stored c.append_log.new.self (log_store c.append_log.ensures.kept) kept.logs out

pub returns-clause-moved : goal.returns-clause-moved
returns-clause-moved g c = moved_called g.D.Disk.tells g.D.Disk.made g.X.SecretStore.made g.D.Disk.faults g.X.SecretStore.faults (λ told. tt) c.append_log.ensures.called

pub returns-clause-fit : goal.returns-clause-fit
returns-clause-fit g c = λ told most fits fit.
    (rw c.in_ok-log.ensures at (c.append_log.ensures.extends told)).fit most (fits_event most (events.LogAt c.args.signed.now.dealer c.args.height c.args.signed.now.log) (record { one = c.has_room.ensures.dealer; other = record { one = search rules; other = fits } })) fit
