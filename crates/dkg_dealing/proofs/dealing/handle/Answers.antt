use Rattle.std.proofs.Common.{ℕ, Ok, Err, ap, refl, rules, sym, subst}
use Rattle.std.specs.Prelude.{Contains}
use Rattle.dkg_ceremony.specs.Publics.{public_fits}
use Rattle.dkg_store.specs.Acts.{went}
use Rattle.dkg_store.specs.declared.devices.Devices.{Devices}
use Rattle.dkg_store.specs.declared.event.Event.TheVariants as events
use Rattle.dkg_store.specs.declared.store.Store.{Store}
use Rattle.dkg_store.proofs.Fit.{fits_event}
use Rattle.dkg_store.proofs.Handling.{answer_refused, handled_answer, handled_no_pair, handled_pairs, handled_passed, handled_player, handled_told, handled_untold}
use Rattle.dkg_store.proofs.Left.{due_of_devices}
use Rattle.dkg_life.proofs.Burning.{burns_counted, burns_still, makes_error, makes_under}
use Rattle.dkg_life.proofs.Calls.{moved_called}
use Rattle.dkg_life.proofs.Caused.{of_due}
use Rattle.dkg_dealing.proofs.Handed.{firm_same, handed_said, pairs_kept, pairs_refused, plays_there, refused_said, seat_kept}
use Rattle.dkg_life.proofs.Said.{pruning_of_due, said_none}
use Rattle.dkg_dealing.proofs.Short.{event_short}
use Rattle.dkg_dealing.proofs.dealing.handle.Goals as goal

pub handle-requires-clause-short : goal.handle-requires-clause-short
handle-requires-clause-short g c = event_short c.args.from c.args.public c.requires.in_bound

pub handle-requires-clause-seat : goal.handle-requires-clause-seat
handle-requires-clause-seat g c = (sym c.requires.sits.sits.me_is, subst (λ (k : ℕ). Contains c.args.player.now.round.players k) (sym c.requires.sits.sits.me_is) c.requires.sits.sits.plays)

-- IT ANSWERED

pub returns-in-Ok-clause-firm : goal.returns-in-Ok-clause-firm
returns-in-Ok-clause-firm g c = λ told. record { open_on = c.in-Ok.ensures.open told; lands = (c.in-Ok.ensures.extends told).lands (c.requires.firm told).lands }

pub returns-in-Ok-clause-keeps : goal.returns-in-Ok-clause-keeps
returns-in-Ok-clause-keeps g c =
    let its = c.in-Ok.ensures.handled in
    let is = plays_there g.C.Ceremony.ack_of _ _ _ _ c.requires.sits in
    record {
      round = its.round;
      sits = seat_kept g.C.Ceremony.ack_of _ _ _ _ _ _ c.requires.sits its.me its.round (handled_player g.C.Ceremony.ack_of g.C.Ceremony.dealing_of _ _ _ _ _ _ _ _ _ _ _ its is);
      rest = its.rest;
      pairs = pairs_kept _ _ _ _ _ _ (handled_pairs g.C.Ceremony.ack_of g.C.Ceremony.dealing_of _ _ _ _ _ _ _ _ _ _ _ its is) (handled_passed g.C.Ceremony.ack_of g.C.Ceremony.dealing_of _ _ _ _ _ _ _ _ _ _ _ its is);
    }

pub returns-in-Ok-clause-acts : goal.returns-in-Ok-clause-acts
returns-in-Ok-clause-acts g c = λ disk secrets. makes_under _ (c.in-Ok.ensures.acts disk secrets (plays_there g.C.Ceremony.ack_of _ _ _ _ c.requires.sits)) (burns_counted (went (Ok c.in-Ok.ack)) c.in-Ok.ensures.called.counts c.in-Ok.ensures.called.not_cut)

pub returns-in-Ok-clause-tells : goal.returns-in-Ok-clause-tells
returns-in-Ok-clause-tells g c =
    let its = c.in-Ok.ensures.handled in
    let is = plays_there g.C.Ceremony.ack_of _ _ _ _ c.requires.sits in
    handed_said g.C.Ceremony.ack_of c.args.player.now.me c.args.player.now.round c.args.epoch c.args.from c.args.public c.args.private _ c.args.store.now.dealings c.in-Ok.ack c.handle.new.store.dealings
    (handled_answer g.C.Ceremony.ack_of g.C.Ceremony.dealing_of _ _ _ _ _ _ _ _ _ _ _ its is) (handled_passed g.C.Ceremony.ack_of g.C.Ceremony.dealing_of _ _ _ _ _ _ _ _ _ _ _ its is)
    (handled_pairs g.C.Ceremony.ack_of g.C.Ceremony.dealing_of _ _ _ _ _ _ _ _ _ _ _ its is) (handled_told g.C.Ceremony.ack_of g.C.Ceremony.dealing_of _ _ _ _ _ _ _ _ _ _ _ its is)

pub returns-in-Ok-clause-moved : goal.returns-in-Ok-clause-moved
returns-in-Ok-clause-moved g c = moved_called g.D.Disk.tells g.D.Disk.made g.X.SecretStore.made g.D.Disk.faults g.X.SecretStore.faults (λ told. tt) c.handle.ensures.called

pub returns-in-Ok-clause-fit : goal.returns-in-Ok-clause-fit
returns-in-Ok-clause-fit g c = λ told most few fit. (c.handle.ensures.extends told).fit most (fits_event most (events.Dealing c.args.from c.args.public) (record { one = search rules; other = public_fits most c.args.public (search rules) few })) fit

-- IT REFUSED

pub returns-in-Err-Refused-clause-firm : goal.returns-in-Err-Refused-clause-firm
returns-in-Err-Refused-clause-firm g c = λ told.
    let same = (rw c.in-Err-Refused.field-0-is at c.in-Err-Refused.ensures.untouched).refused c.in-Err-Refused.why refl in
    firm_same g.D.Disk.files g.D.Disk.image _ _ _ _ (ap (λ (s : Store g.row.Dir.Denot). s.journal) same.1.0) (ap (λ (d : Devices g.row.D.Denot g.row.X.Denot). d.disk.now) same.1.2) (c.requires.firm told)

pub returns-in-Err-Refused-clause-keeps : goal.returns-in-Err-Refused-clause-keeps
returns-in-Err-Refused-clause-keeps g c =
    let its = rw c.in-Err-Refused.field-0-is at c.in-Err-Refused.ensures.handled in
    let is = plays_there g.C.Ceremony.ack_of _ _ _ _ c.requires.sits in
    let refused = answer_refused _ _ _ _ _ c.in-Err-Refused.why its.answers in
    record {
      round = its.round;
      sits = seat_kept g.C.Ceremony.ack_of _ _ _ _ _ _ c.requires.sits its.me its.round (handled_player g.C.Ceremony.ack_of g.C.Ceremony.dealing_of _ _ _ _ _ _ _ _ _ _ _ its is);
      rest = its.rest;
      pairs = pairs_refused _ _ _ _ _ _ c.in-Err-Refused.why (handled_no_pair g.C.Ceremony.ack_of g.C.Ceremony.dealing_of _ _ _ _ _ _ _ _ _ _ _ its) refused.0 refused.1;
    }

pub returns-in-Err-Refused-clause-acts : goal.returns-in-Err-Refused-clause-acts
returns-in-Err-Refused-clause-acts g c = λ disk secrets.
    let same = (rw c.in-Err-Refused.field-0-is at c.in-Err-Refused.ensures.untouched).refused c.in-Err-Refused.why refl in
    makes_under _ (rw c.in-Err-Refused.field-0-is at (c.in-Err-Refused.ensures.acts disk secrets (plays_there g.C.Ceremony.ack_of _ _ _ _ c.requires.sits)))
    (burns_still (went (Err c.in-Err-Refused.why)) (ap (λ (d : Devices g.row.D.Denot g.row.X.Denot). d.fuse) same.1.2))

pub returns-in-Err-Refused-clause-tells : goal.returns-in-Err-Refused-clause-tells
returns-in-Err-Refused-clause-tells g c =
    let its = rw c.in-Err-Refused.field-0-is at c.in-Err-Refused.ensures.handled in
    let refused = answer_refused _ _ _ _ _ c.in-Err-Refused.why its.answers in
    refused_said g.C.Ceremony.ack_of c.args.player.now.me c.args.player.now.round c.args.epoch c.args.from c.args.public c.args.private _ c.args.store.now.dealings c.in-Err-Refused.why refused.0 refused.1
    (handled_untold g.C.Ceremony.ack_of g.C.Ceremony.dealing_of _ _ _ _ _ _ _ _ _ _ _ its)

pub returns-in-Err-Refused-clause-moved : goal.returns-in-Err-Refused-clause-moved
returns-in-Err-Refused-clause-moved g c = moved_called g.D.Disk.tells g.D.Disk.made g.X.SecretStore.made g.D.Disk.faults g.X.SecretStore.faults (λ told. tt) c.handle.ensures.called

pub returns-in-Err-Refused-clause-fit : goal.returns-in-Err-Refused-clause-fit
returns-in-Err-Refused-clause-fit g c = λ told most few fit. (c.handle.ensures.extends told).fit most (fits_event most (events.Dealing c.args.from c.args.public) (record { one = search rules; other = public_fits most c.args.public (search rules) few })) fit

-- THE STORE FAILED

pub returns-in-Err-Store-clause-keeps : goal.returns-in-Err-Store-clause-keeps
returns-in-Err-Store-clause-keeps g c =
    let its = c.handle.ensures.handled in
    let is = plays_there g.C.Ceremony.ack_of _ _ _ _ c.requires.sits in
    record {
      round = its.round;
      sits = seat_kept g.C.Ceremony.ack_of _ _ _ _ _ _ c.requires.sits its.me its.round (handled_player g.C.Ceremony.ack_of g.C.Ceremony.dealing_of _ _ _ _ _ _ _ _ _ _ _ its is);
      rest = its.rest;
      pairs = tt;
    }

pub returns-in-Err-Store-clause-acts : goal.returns-in-Err-Store-clause-acts
returns-in-Err-Store-clause-acts g c = λ disk secrets.
    let due = rw c.in-Err-Store.field-0-is at c.in-Err-Store.ensures.due in
    rw c.from.ensures (makes_error c.in-Err-Store.error (due_of_devices c.in-Err-Store.error _ _ _ _ due) (rw c.in-Err-Store.field-0-is at (c.in-Err-Store.ensures.acts disk secrets (plays_there g.C.Ceremony.ack_of _ _ _ _ c.requires.sits)))
    c.handle.ensures.called.counts.call c.handle.ensures.called.counts.pick)

pub returns-in-Err-Store-clause-tells : goal.returns-in-Err-Store-clause-tells
returns-in-Err-Store-clause-tells g c =
    let due = rw c.in-Err-Store.field-0-is at c.in-Err-Store.ensures.due in
    let its = rw c.in-Err-Store.field-0-is at c.in-Err-Store.ensures.handled in
    rw c.from.ensures (said_none _ c.in-Err-Store.error (pruning_of_due _ _ _ _ _ c.in-Err-Store.error due) (handled_untold g.C.Ceremony.ack_of g.C.Ceremony.dealing_of _ _ _ _ _ _ _ _ _ _ _ its))

pub returns-in-Err-Store-clause-moved : goal.returns-in-Err-Store-clause-moved
returns-in-Err-Store-clause-moved g c = moved_called g.D.Disk.tells g.D.Disk.made g.X.SecretStore.made g.D.Disk.faults g.X.SecretStore.faults (λ told. tt) c.handle.ensures.called

pub returns-in-Err-Store-clause-fit : goal.returns-in-Err-Store-clause-fit
returns-in-Err-Store-clause-fit g c = λ told most few fit. (c.handle.ensures.extends told).fit most (fits_event most (events.Dealing c.args.from c.args.public) (record { one = search rules; other = public_fits most c.args.public (search rules) few })) fit

pub returns-in-Err-Store-clause-causes : goal.returns-in-Err-Store-clause-causes
returns-in-Err-Store-clause-causes g c =
    let due = rw c.in-Err-Store.field-0-is at c.in-Err-Store.ensures.due in
    rw c.from.ensures (of_due _ c.in-Err-Store.error due (λ rose. rose) (λ at. at.0) (λ at. at.0)).1
