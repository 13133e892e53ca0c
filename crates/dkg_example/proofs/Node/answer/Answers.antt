use Rattle.std.proofs.Common.{List, ap, length, refl, subst, ◌≤◌, ℕ}
use Rattle.std.specs.FinMap.{get, insert}
use Rattle.dkg_store.specs.Player.{is_new}
use Rattle.dkg_store.specs.declared.call.StoreError.{StoreError}
use Rattle.dkg_store.specs.declared.devices.Devices.{Devices}
use Rattle.dkg_store.specs.declared.store.Store.{Store}
use Rattle.dkg_infos.specs.declared.directory.Unit.{Unit as Directory}
use Rattle.dkg_store.proofs.Handling.{answer_refused, handled_answer, handled_may_keep, handled_no_pair, handled_pairs, handled_passed, handled_player, handled_told, handled_untold}
use Rattle.dkg_example.proofs.Due.{node_due}
use Rattle.dkg_example.proofs.Heard.{answered_fair, records_first, records_none}
use Rattle.dkg_example.proofs.Held.{holds_made, holds_still}
use Rattle.dkg_example.proofs.Recording.{open_still, plays_on, refused_fair, sent_by}
use Rattle.dkg_example.proofs.Short.{event_short}
use Rattle.dkg_example.proofs.Node.answer.Goals as goal

pub handle-handled-requires-clause-short : goal.handle-handled-requires-clause-short
handle-handled-requires-clause-short g c = event_short c.args.from c.args.public (subst (λ (l : List ℕ). length l ≤ 65520) c.as_slice.ensures.items c.if-as_slice-gt-MOST_COEFFICIENTS.false)

pub handle-handled-requires-clause-seat : goal.handle-handled-requires-clause-seat
handle-handled-requires-clause-seat g c = (c.requires.signer, c.requires.playing.seated)

-- IT ANSWERED

pub returns-in-Ok-clause-seat : goal.returns-in-Ok-clause-seat
returns-in-Ok-clause-seat g c = record { me = c.in-Ok.ensures.handled.me; round = c.in-Ok.ensures.handled.round; epoch = refl; limit = refl }

pub returns-in-Ok-clause-playing : goal.returns-in-Ok-clause-playing
returns-in-Ok-clause-playing g c =
    let its = c.in-Ok.ensures.handled in
    plays_on g.C.Ceremony.ack_of c.args.self.now _ its.me its.round c.requires.playing (handled_player g.C.Ceremony.ack_of g.C.Ceremony.dealing_of _ _ _ _ _ _ _ _ _ _ _ its c.requires.playing.answers)

pub returns-in-Ok-clause-sound : goal.returns-in-Ok-clause-sound
returns-in-Ok-clause-sound g c =
    let its = c.in-Ok.ensures.handled in
    sent_by g.C.Ceremony.ack_of _ _ _ _ _ _ _ _ its.me its.round (handled_answer g.C.Ceremony.ack_of g.C.Ceremony.dealing_of _ _ _ _ _ _ _ _ _ _ _ its c.requires.playing.answers)

pub returns-in-Ok-clause-fair : goal.returns-in-Ok-clause-fair
returns-in-Ok-clause-fair g c =
    answered_fair _ _ (handled_passed g.C.Ceremony.ack_of g.C.Ceremony.dealing_of _ _ _ _ _ _ _ _ _ _ _ c.in-Ok.ensures.handled c.requires.playing.answers)

pub returns-in-Ok-clause-records : goal.returns-in-Ok-clause-records
returns-in-Ok-clause-records g c =
    let its = c.in-Ok.ensures.handled in
    records_first StoreError c.in-Ok.ack c.args.self.now.epoch c.args.from c.args.public c.args.private _ _ _ _ _
    (handled_pairs g.C.Ceremony.ack_of g.C.Ceremony.dealing_of _ _ _ _ _ _ _ _ _ _ _ its c.requires.playing.answers)
    (handled_told g.C.Ceremony.ack_of g.C.Ceremony.dealing_of _ _ _ _ _ _ _ _ _ _ _ its c.requires.playing.answers)

pub returns-in-Ok-clause-holds : goal.returns-in-Ok-clause-holds
returns-in-Ok-clause-holds g c = λ told tells holds.
    holds_made (is_new (get c.args.self.now.player.acks c.args.from) (get c.args.self.now.store.dealings (c.args.self.now.epoch, c.args.from)))
    (insert c.args.self.now.store.dealings (c.args.self.now.epoch, c.args.from) (c.args.public, c.args.private)) c.args.self.now.store.dealings c.handle-handled.new.store.dealings _ _
    c.in-Ok.ensures.handled.pairs ((c.in-Ok.ensures.gives told).done tells holds)

-- IT REFUSED

pub returns-in-Err-Refused-clause-seat : goal.returns-in-Err-Refused-clause-seat
returns-in-Err-Refused-clause-seat g c = record { me = c.in-Err-Refused.ensures.handled.me; round = c.in-Err-Refused.ensures.handled.round; epoch = refl; limit = refl }

pub returns-in-Err-Refused-clause-open : goal.returns-in-Err-Refused-clause-open
returns-in-Err-Refused-clause-open g c = λ told.
    let same = (rw c.in-Err-Refused.field-0-is at c.in-Err-Refused.ensures.untouched).refused c.in-Err-Refused.field-0-0 refl in
    open_still g.D.Disk.files g.D.Disk.image _ _ _ _ (ap (λ (s : Store Directory). s.journal) same.1.0) (ap (λ (d : Devices g.row.D.Denot g.row.X.Denot). d.disk.now) same.1.2) (c.requires.open told)

pub returns-in-Err-Refused-clause-playing : goal.returns-in-Err-Refused-clause-playing
returns-in-Err-Refused-clause-playing g c =
    let its = c.in-Err-Refused.ensures.handled in
    plays_on g.C.Ceremony.ack_of c.args.self.now _ its.me its.round c.requires.playing (handled_player g.C.Ceremony.ack_of g.C.Ceremony.dealing_of _ _ _ _ _ _ _ _ _ _ _ its c.requires.playing.answers)

pub returns-in-Err-Refused-clause-fair : goal.returns-in-Err-Refused-clause-fair
returns-in-Err-Refused-clause-fair g c =
    let its = rw c.in-Err-Refused.field-0-is at c.in-Err-Refused.ensures.handled in
    let refused = answer_refused _ _ _ _ _ c.in-Err-Refused.field-0-0 its.answers in
    refused_fair _ _ _ _ _ c.in-Err-Refused.field-0-0 refused.1 refused.0

pub returns-in-Err-Refused-clause-records : goal.returns-in-Err-Refused-clause-records
returns-in-Err-Refused-clause-records g c =
    let its = rw c.in-Err-Refused.field-0-is at c.in-Err-Refused.ensures.handled in
    records_none _ _ _ _ _ _ (handled_no_pair g.C.Ceremony.ack_of g.C.Ceremony.dealing_of _ _ _ _ _ _ _ _ _ _ _ its) (handled_untold g.C.Ceremony.ack_of g.C.Ceremony.dealing_of _ _ _ _ _ _ _ _ _ _ _ its)

pub returns-in-Err-Refused-clause-holds : goal.returns-in-Err-Refused-clause-holds
returns-in-Err-Refused-clause-holds g c = λ told tells holds.
    let same = (rw c.in-Err-Refused.field-0-is at c.in-Err-Refused.ensures.untouched).refused c.in-Err-Refused.field-0-0 refl in
    holds_still g.D.Disk.image g.X.SecretStore.held _ _ _ _ same.1.2 (ap (λ (s : Store Directory). s.dealings) same.1.0) holds

-- THE STORE FAILED

pub returns-in-Err-Store-clause-seat : goal.returns-in-Err-Store-clause-seat
returns-in-Err-Store-clause-seat g c = record { me = c.in-Err-Store.ensures.handled.me; round = c.in-Err-Store.ensures.handled.round; epoch = refl; limit = refl }

pub returns-in-Err-Store-clause-playing : goal.returns-in-Err-Store-clause-playing
returns-in-Err-Store-clause-playing g c =
    let its = c.in-Err-Store.ensures.handled in
    plays_on g.C.Ceremony.ack_of c.args.self.now _ its.me its.round c.requires.playing (handled_player g.C.Ceremony.ack_of g.C.Ceremony.dealing_of _ _ _ _ _ _ _ _ _ _ _ its c.requires.playing.answers)

pub returns-in-Err-Store-clause-records : goal.returns-in-Err-Store-clause-records
returns-in-Err-Store-clause-records g c =
    let its = rw c.in-Err-Store.field-0-is at c.in-Err-Store.ensures.handled in
    records_none _ _ _ _ _ _ (handled_no_pair g.C.Ceremony.ack_of g.C.Ceremony.dealing_of _ _ _ _ _ _ _ _ _ _ _ its) (handled_untold g.C.Ceremony.ack_of g.C.Ceremony.dealing_of _ _ _ _ _ _ _ _ _ _ _ its)

pub returns-in-Err-Store-clause-due : goal.returns-in-Err-Store-clause-due
returns-in-Err-Store-clause-due g c =
    node_due c.in-Err-Store.error _ _ _ _ _ c.args.self.now c.handle-handled.new.self c.handle-handled.new.store _ _ _ _ _ _
    (rw c.in-Err-Store.field-0-is at c.in-Err-Store.ensures.due)

pub returns-in-Err-Store-clause-holds : goal.returns-in-Err-Store-clause-holds
returns-in-Err-Store-clause-holds g c = λ told tells holds.
    handled_may_keep _ _ _ _ _ _ _ _ c.in-Err-Store.ensures.untouched
    (λ same. holds_still g.D.Disk.image g.X.SecretStore.held _ _ _ _ same.2 refl holds)
    ((c.in-Err-Store.ensures.gives told).either tells holds)
