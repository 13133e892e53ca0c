use Rattle.std.proofs.Common.{Ok, Err, Some, ap, refl, sym, ◌∙◌, rules}
use Rattle.dkg_store.specs.Acts.{went}
use Rattle.dkg_store.specs.declared.dealer.Dealer.{Dealer}
use Rattle.dkg_store.specs.declared.devices.Devices.{Devices}
use Rattle.dkg_store.specs.declared.event.Event.TheVariants as events
use Rattle.dkg_store.specs.declared.store.Store.{Store}
use Rattle.dkg_store.proofs.Fit.{fits_event}
use Rattle.dkg_store.proofs.Left.{due_of_devices}
use Rattle.dkg_dealing.proofs.Acked.{ack_made, ack_said, ack_stopped, refused_made, refused_said}
use Rattle.dkg_life.proofs.Burning.{burns_counted, burns_still, makes_error, makes_under}
use Rattle.dkg_life.proofs.Calls.{moved_called}
use Rattle.dkg_life.proofs.Caused.{of_due}
use Rattle.dkg_life.proofs.Dealt.{ack_store}
use Rattle.dkg_dealing.proofs.Handed.{firm_same}
use Rattle.dkg_life.proofs.Said.{pruning_of_due, said_none}
use Rattle.dkg_life.proofs.Seated.{on_ok}
use Rattle.dkg_dealing.proofs.dealing.take_ack.Goals as goal

-- IT PASSED

pub returns-in-Ok-clause-firm : goal.returns-in-Ok-clause-firm
returns-in-Ok-clause-firm g c = λ told. record { open_on = c.in-Ok.ensures.open told; lands = (c.in-Ok.ensures.extends told).lands (c.requires.firm told).lands }

pub returns-in-Ok-clause-dealer : goal.returns-in-Ok-clause-dealer
returns-in-Ok-clause-dealer g c = (c.handle.ensures.handled.rest, λ is. c.handle.ensures.dealer is)

pub returns-in-Ok-clause-store : goal.returns-in-Ok-clause-store
returns-in-Ok-clause-store g c = ack_store c.handle.ensures.handled.recorded

pub returns-in-Ok-clause-acts : goal.returns-in-Ok-clause-acts
returns-in-Ok-clause-acts g c = λ disk secrets life beside fence stored has number.
    let its = c.in-Ok.ensures.handled in
    ack_made c.args.dealer.now life beside fence c.args.from c.args.ack c.args.store.now c.args.epoch stored has number c.handle.new.store c.handle.new.self its.rest (ack_store its.recorded)
    (g.C.Ceremony.check_ack_of c.args.dealer.now.round c.args.dealer.now.me c.args.dealer.now.public c.args.from c.args.ack) c.in-Ok.field-0 its.counted its.recorded.acks
    (makes_under (went (Ok c.in-Ok.field-0)) (c.in-Ok.ensures.acts disk c.args.out.now.entries) (burns_counted (went (Ok c.in-Ok.field-0)) c.in-Ok.ensures.called.counts c.in-Ok.ensures.called.not_cut))

pub returns-in-Ok-clause-tells : goal.returns-in-Ok-clause-tells
returns-in-Ok-clause-tells g c = λ life beside fence stored has number.
    let its = c.in-Ok.ensures.handled in
    ack_said c.args.dealer.now life beside fence c.args.from c.args.ack c.args.store.now c.args.epoch stored has number c.handle.new.store c.handle.new.self its.rest (ack_store its.recorded)
    (g.C.Ceremony.check_ack_of c.args.dealer.now.round c.args.dealer.now.me c.args.dealer.now.public c.args.from c.args.ack) c.in-Ok.field-0 its.counted its.recorded.acks
    c.args.out.now.entries its.answers.0

pub returns-in-Ok-clause-moved : goal.returns-in-Ok-clause-moved
returns-in-Ok-clause-moved g c = moved_called g.D.Disk.tells g.D.Disk.made g.X.SecretStore.made g.D.Disk.faults g.X.SecretStore.faults (λ told. tt) c.handle.ensures.called

pub returns-in-Ok-clause-fit : goal.returns-in-Ok-clause-fit
returns-in-Ok-clause-fit g c = λ told most fit. (c.in-Ok.ensures.extends told).fit most (fits_event most (events.Ack c.args.from c.args.ack) (record { one = search rules; other = search rules })) fit

-- IT WAS REFUSED

pub returns-in-Err-Refused-clause-firm : goal.returns-in-Err-Refused-clause-firm
returns-in-Err-Refused-clause-firm g c =
    on_ok c.block.result (λ told.
    let same = (rw c.in-Err-Refused.field-0-is at c.in-Err-Refused.ensures.handled).untouched c.in-Err-Refused.why refl in
    firm_same g.D.Disk.files g.D.Disk.image _ _ _ _ (ap (λ (s : Store g.row.Dir.Denot). s.journal) same.1) (ap (λ (d : Devices g.row.D.Denot g.row.X.Denot). d.disk.now) same.2) (c.requires.firm told))

pub returns-in-Err-Refused-clause-dealer : goal.returns-in-Err-Refused-clause-dealer
returns-in-Err-Refused-clause-dealer g c = (c.handle.ensures.handled.rest, λ is. c.handle.ensures.dealer is)

pub returns-in-Err-Refused-clause-store : goal.returns-in-Err-Refused-clause-store
returns-in-Err-Refused-clause-store g c = ack_store c.handle.ensures.handled.recorded

pub returns-in-Err-Refused-clause-acts : goal.returns-in-Err-Refused-clause-acts
returns-in-Err-Refused-clause-acts g c = λ disk secrets life beside fence stored has number.
    let same = (rw c.in-Err-Refused.field-0-is at c.in-Err-Refused.ensures.handled).untouched c.in-Err-Refused.why refl in
    refused_made c.args.dealer.now life beside fence c.args.from c.args.ack c.args.store.now c.args.epoch stored has number
    (g.C.Ceremony.check_ack_of c.args.dealer.now.round c.args.dealer.now.me c.args.dealer.now.public c.args.from c.args.ack) c.in-Err-Refused.why
    (record life { store = c.handle.new.store; dealer = Some c.handle.new.self }) (λ i. record life { store = (same.1 ∙ sym stored) i; dealer = (ap (λ (d : Dealer). Some d) same.0 ∙ sym has) i })
    c.block.result (rw c.refused_by.ensures at c.block.ensures.told) c.block.ensures.untold c.block.ensures.memory
    (makes_under (went (Err c.in-Err-Refused.why)) (rw c.in-Err-Refused.field-0-is at (c.in-Err-Refused.ensures.acts disk c.args.out.now.entries))
    (burns_still (went (Err c.in-Err-Refused.why)) (ap (λ (d : Devices g.row.D.Denot g.row.X.Denot). d.fuse) same.2)))

pub returns-in-Err-Refused-clause-tells : goal.returns-in-Err-Refused-clause-tells
returns-in-Err-Refused-clause-tells g c = λ life beside fence stored has number.
    let its = rw c.in-Err-Refused.field-0-is at c.in-Err-Refused.ensures.handled in
    let same = its.untouched c.in-Err-Refused.why refl in
    refused_said c.args.dealer.now life beside fence c.args.from c.args.ack c.args.store.now c.args.epoch stored has number
    (g.C.Ceremony.check_ack_of c.args.dealer.now.round c.args.dealer.now.me c.args.dealer.now.public c.args.from c.args.ack) c.in-Err-Refused.why
    (record life { store = c.handle.new.store; dealer = Some c.handle.new.self }) (λ i. record life { store = (same.1 ∙ sym stored) i; dealer = (ap (λ (d : Dealer). Some d) same.0 ∙ sym has) i })
    c.block.result (rw c.refused_by.ensures at c.block.ensures.told) c.block.ensures.untold c.block.ensures.memory its.answers.0

pub returns-in-Err-Refused-clause-moved : goal.returns-in-Err-Refused-clause-moved
returns-in-Err-Refused-clause-moved g c = moved_called g.D.Disk.tells g.D.Disk.made g.X.SecretStore.made g.D.Disk.faults g.X.SecretStore.faults (λ told. tt) c.handle.ensures.called

pub returns-in-Err-Refused-clause-fit : goal.returns-in-Err-Refused-clause-fit
returns-in-Err-Refused-clause-fit g c = λ told most fit. (c.handle.ensures.extends told).fit most (fits_event most (events.Ack c.args.from c.args.ack) (record { one = search rules; other = search rules })) fit

-- THE STORE FAILED

pub returns-in-Err-Store-clause-dealer : goal.returns-in-Err-Store-clause-dealer
returns-in-Err-Store-clause-dealer g c = (c.handle.ensures.handled.rest, λ is. c.handle.ensures.dealer is)

pub returns-in-Err-Store-clause-store : goal.returns-in-Err-Store-clause-store
returns-in-Err-Store-clause-store g c = ack_store c.handle.ensures.handled.recorded

pub returns-in-Err-Store-clause-acts : goal.returns-in-Err-Store-clause-acts
returns-in-Err-Store-clause-acts g c = λ disk secrets life beside fence stored has number.
    let due = rw c.in-Err-Store.field-0-is at c.in-Err-Store.ensures.due in
    rw c.from.ensures (ack_stopped c.args.dealer.now life beside fence c.args.from c.args.ack c.args.store.now c.args.epoch stored has number
    (g.C.Ceremony.check_ack_of c.args.dealer.now.round c.args.dealer.now.me c.args.dealer.now.public c.args.from c.args.ack) _
    (makes_error c.in-Err-Store.error (due_of_devices c.in-Err-Store.error _ _ _ _ due) (rw c.in-Err-Store.field-0-is at (c.in-Err-Store.ensures.acts disk c.args.out.now.entries))
    c.handle.ensures.called.counts.call c.handle.ensures.called.counts.pick))

pub returns-in-Err-Store-clause-tells : goal.returns-in-Err-Store-clause-tells
returns-in-Err-Store-clause-tells g c = λ life beside fence stored has number.
    let due = rw c.in-Err-Store.field-0-is at c.in-Err-Store.ensures.due in
    rw c.from.ensures (said_none _ c.in-Err-Store.error (pruning_of_due _ _ _ _ _ c.in-Err-Store.error due) refl)

pub returns-in-Err-Store-clause-moved : goal.returns-in-Err-Store-clause-moved
returns-in-Err-Store-clause-moved g c = moved_called g.D.Disk.tells g.D.Disk.made g.X.SecretStore.made g.D.Disk.faults g.X.SecretStore.faults (λ told. tt) c.handle.ensures.called

pub returns-in-Err-Store-clause-fit : goal.returns-in-Err-Store-clause-fit
returns-in-Err-Store-clause-fit g c = λ told most fit. (c.handle.ensures.extends told).fit most (fits_event most (events.Ack c.args.from c.args.ack) (record { one = search rules; other = search rules })) fit

pub returns-in-Err-Store-clause-causes : goal.returns-in-Err-Store-clause-causes
returns-in-Err-Store-clause-causes g c =
    let due = rw c.in-Err-Store.field-0-is at c.in-Err-Store.ensures.due in
    rw c.from.ensures (of_due _ c.in-Err-Store.error due (λ rose. rose) (λ none. absurd none) (λ at. at.0)).1
