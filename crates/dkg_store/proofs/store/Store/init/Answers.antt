use Rattle.std.proofs.Common.{true, ◌∷◌, arith, ◌≡◌, inl, ℕ, List, map, Option, Some, None, Result, Err, refl, ap, sym, subst, ◌∙◌}
use Rattle.dkg_values.specs.declared.name.Name.{Name}
use Rattle.dkg_journal.specs.Names.{Files}
use Rattle.dkg_journal.specs.Gated.{gated, gated_entries}
use Rattle.std.specs.Int.NonZero.{non_zero_u32_get}
use Rattle.dkg_journal.specs.Records.{SectionEntry, entries}
use Rattle.dkg_journal.specs.declared.opening.JournalEntry.{JournalEntry}
use Rattle.dkg_store.specs.Corrupt.{AreEvents, BeginsWithEvent, IsAlien}
use Rattle.dkg_store.specs.Events.{no_event_at}
use Rattle.std.proofs.lemmas.Result.{err_from_is_err_and}
use Rattle.dkg_journal.specs.Opening.{first_break}
use Rattle.dkg_journal.specs.Views.{views}
use Rattle.dkg_store.specs.Acts.{by_want}
use Rattle.dkg_store.specs.Calls.{cause_of, ended_as, store_reading}
use Rattle.dkg_store.specs.Errors.{IsOfDevices, IsOfOpening}
use Rattle.dkg_store.specs.Noted.{acks_in, logs_in}
use Rattle.dkg_store.specs.Pairs.{recovered}
use Rattle.dkg_store.specs.declared.call.StoreError.{StoreError}
use Rattle.dkg_store.specs.declared.call.StoreError.TheVariants.{Corrupt, NoMemory}
use Rattle.dkg_store.specs.declared.store.Store.{Store}
use Rattle.dkg_store.proofs.Acts.{made_next, made_none_held}
use Rattle.dkg_store.proofs.Acting.{then_broken, ended_broken}
use Rattle.dkg_store.proofs.Corrupt.{answered, corrupt_alike, corrupt_at, ended_by, none_corrupt, read_all, read_ends}
use Rattle.dkg_store.proofs.OpeningActs.{not_corrupt, of_restoring_too, no_place, no_other}
use Rattle.dkg_store.proofs.Recorded.{all_events}
use Rattle.dkg_store.proofs.Fit.{kept_fit}
use Rattle.dkg_journal.specs.Opening.{open_calls}
use Rattle.dkg_journal.specs.declared.disk.Op.TheVariants.{Barrier}
use Rattle.dkg_store.proofs.Left.{called_disk, due_around, due_kinds, due_record, due_restoring, due_sound, is_open_there, kept_holds, restored_holds}
use Rattle.std.specs.Prelude.{IsTrue}
use Rattle.dkg_store.proofs.store.Store.init.Goals as goal

-- what was read, and the first of it that is no event
first_there : {n limit : ℕ} {read given waiting : List JournalEntry} → n ≡ limit → read ≡ given → given ≡ waiting → no_event_at n read ≡ no_event_at limit waiting
first_there {n} {limit} {read} {given} {waiting} same was is = ap (λ (m : ℕ). no_event_at m read) same ∙ ap (no_event_at limit) (was ∙ is)

pub returns-in_err-journal-clause-acts : goal.returns-in_err-journal-clause-acts
returns-in_err-journal-clause-acts g c = λ told_disk told_secrets whole alien is_alien out.
    let p = err_from_is_err_and c.from_residual.result c.from_residual.ensures.1 in
    let of_devices : IsOfDevices c.in_err-journal.field-0.0 = due_sound c.in_err-journal.field-0.0 _ _ _ _ _ (λ name place at. no_place (first_break (g.D.Disk.files c.args.devices.now.disk.now)) (name, place) (at told_disk).0 whole) c.in_err-journal.ensures.due in
    then_broken (λ (u : Unit {0}). store_reading alien) c.in_err-journal.field-0.0 of_devices
    (ended_broken (λ (store : Store g.row.Dir.Denot). (store.dealings, store.acks, store.logs)) c.from_residual.result p.0 p.1 (subst IsOfDevices (sym p.2) of_devices) ∙ ap (λ (e : StoreError). ended_by (cause_of e)) p.2)
    (c.in_err-journal.ensures.acts told_disk whole out (g.X.SecretStore.held c.args.devices.now.secrets.now))

-- where the bodies read are events, there is no alien
events_read : (limit n : ℕ) (files : Files) (es waiting : List JournalEntry) → first_break files ≡ None → n ≡ limit → es ≡ waiting → map gated waiting ≡ gated_entries files → no_event_at n es ≡ None
    → (alien : Option (Name × ℕ)) → IsAlien limit files alien → alien ≡ None
events_read limit n files es waiting whole same was are none None is = refl
events_read limit n files es waiting whole same was are none (Some at) is =
    absurd (none_corrupt limit files waiting at.0 at.1 whole are (sym (ap (λ (m : ℕ). no_event_at m es) same ∙ ap (no_event_at limit) was) ∙ none) is)

pub returns-in_err-recorded-clause-acts : goal.returns-in_err-recorded-clause-acts
returns-in_err-recorded-clause-acts g c = λ told_disk told_secrets whole alien is_alien out.
    let p = err_from_is_err_and c.from_residual-in_err-recorded.result c.from_residual-in_err-recorded.ensures.1 in
    let ends = ap (λ (r : Result (Store g.row.Dir.Denot) StoreError). ended_as (λ (store : Store g.row.Dir.Denot). (store.dealings, store.acks, store.logs)) r) (p.1 ∙ ap (λ (e : StoreError). Err e) p.2) in
    made_next (λ (u : Unit {0}). store_reading alien) (c.in_ok-journal.ensures.acts told_disk whole out (g.X.SecretStore.held c.args.devices.now.secrets.now))
    (read_ends (non_zero_u32_get c.args.limit) (g.D.Disk.files c.args.devices.now.disk.now) alien c.in_err-recorded.field-0.0 c.in_err-recorded.ensures.error_kinds
    (λ name q is.
    let here = c.in_err-recorded.ensures.corrupt name q (ap (λ (e : StoreError). Err e) is) in
    corrupt_at (non_zero_u32_get c.args.limit) (g.D.Disk.files c.args.devices.now.disk.now) c.in_ok-journal.journal.waiting.items name q whole ((c.in_ok-journal.ensures.opens told_disk).gated)
    (sym (first_there c.get.ensures.value c.deref.ensures.value c.replay-entries.ensures.listed) ∙ here))
    (λ events name q is.
    let here = c.in_err-recorded.ensures.corrupt name q (ap (λ (e : StoreError). Err e) is) in
    no_place (no_event_at (non_zero_u32_get c.args.limit) c.in_ok-journal.journal.waiting.items) (name, q) (sym (first_there c.get.ensures.value c.deref.ensures.value c.replay-entries.ensures.listed) ∙ here)
    (no_other (non_zero_u32_get c.args.limit) c.in_ok-journal.journal.waiting.items (subst (λ (es : List SectionEntry). AreEvents (non_zero_u32_get c.args.limit) es) (sym (c.in_ok-journal.ensures.opens told_disk).listed) events)))
    is_alien ends c.restore.ensures.same)

pub returns-in_err-restored-clause-acts : goal.returns-in_err-restored-clause-acts
returns-in_err-restored-clause-acts g c = λ told_disk told_secrets whole alien is_alien out.
    let p = err_from_is_err_and c.from_residual-in_err-restored.result c.from_residual-in_err-restored.ensures.1 in
    made_next (λ (u : Unit {0}). store_reading alien) (c.in_ok-journal.ensures.acts told_disk whole out (g.X.SecretStore.held c.args.devices.now.secrets.now))
    (made_none_held _ _ _ by_want tt c.restore.ensures.same (ended_broken (λ (store : Store g.row.Dir.Denot). (store.dealings, store.acks, store.logs)) c.from_residual-in_err-restored.result p.0 p.1 (subst IsOfDevices (sym p.2) tt) ∙ ap (λ (e : StoreError). ended_by (cause_of e)) p.2))

pub returns-clause-acts : goal.returns-clause-acts
returns-clause-acts g c = λ told_disk told_secrets whole alien is_alien out.
    let none = events_read (non_zero_u32_get c.args.limit) c.get.result (g.D.Disk.files c.args.devices.now.disk.now) c.deref.result.now c.in_ok-journal.journal.waiting.items whole c.get.ensures.value (c.deref.ensures.value ∙ c.replay-entries.ensures.listed) ((c.in_ok-journal.ensures.opens told_disk).gated) c.in_ok-recorded.ensures.events alien is_alien in
    made_next (λ (u : Unit {0}). store_reading alien) (c.in_ok-journal.ensures.acts told_disk whole out (g.X.SecretStore.held c.args.devices.now.secrets.now))
    (read_all none c.restore.ensures.same (
    let read : c.deref.result.now ≡ c.in_ok-journal.journal.waiting.items = c.deref.ensures.value ∙ c.replay-entries.ensures.listed in
    let stands : views c.in_ok-journal.journal.waiting.items ≡ entries (g.D.Disk.files c.open_journal.new.disk) = (c.in_ok-journal.ensures.opens told_disk).listed ∙ sym ((c.in_ok-journal.ensures.opens told_disk).settled (g.D.Disk.files c.open_journal.new.disk) (g.met.D.Disk.reads _ told_disk)) in
    let es : views c.deref.result.now ≡ entries (g.D.Disk.files c.open_journal.new.disk) = ap views read ∙ stands in
    let dealings = c.in_ok-recorded.ensures.given told_secrets ∙ ap (λ (l : List SectionEntry). recovered l (g.X.SecretStore.held c.args.devices.now.secrets.now)) es in
    let acks = c.in_ok-recorded.ensures.acks ∙ ap acks_in es in
    let logs = c.in_ok-recorded.ensures.logs ∙ ap logs_in es in
    λ i. (dealings i, acks i, logs i)))

pub returns-in_err-journal-clause-answer : goal.returns-in_err-journal-clause-answer
returns-in_err-journal-clause-answer g c = λ name place told at.
    let p = err_from_is_err_and c.from_residual.result c.from_residual.ensures.1 in
    answered (non_zero_u32_get c.args.limit) (g.D.Disk.files c.args.devices.now.disk.now) c.from_residual.result p.0 p.1 (subst IsOfOpening (sym p.2) (due_kinds c.in_err-journal.field-0.0 _ _ _ _ _ c.in_err-journal.ensures.due))
    (λ name q is.
    record { so = inl ((due_record c.in_err-journal.field-0.0 _ _ _ _ _ name q (sym p.2 ∙ is) c.in_err-journal.ensures.due told).0) }) name place at

pub returns-in_err-recorded-clause-answer : goal.returns-in_err-recorded-clause-answer
returns-in_err-recorded-clause-answer g c = λ name place told at.
    let p = err_from_is_err_and c.from_residual-in_err-recorded.result c.from_residual-in_err-recorded.ensures.1 in
    answered (non_zero_u32_get c.args.limit) (g.D.Disk.files c.args.devices.now.disk.now) c.from_residual-in_err-recorded.result p.0 p.1
    (subst IsOfOpening (sym p.2) (of_restoring_too c.in_err-recorded.field-0.0 c.in_err-recorded.ensures.error_kinds))
    (λ name q is. let here = c.in_err-recorded.ensures.corrupt name q (ap (λ (e : StoreError). Err e) (sym p.2 ∙ is)) in
    corrupt_at (non_zero_u32_get c.args.limit) (g.D.Disk.files c.args.devices.now.disk.now) c.in_ok-journal.journal.waiting.items name q (c.in_ok-journal.ensures.opens told).whole (c.in_ok-journal.ensures.opens told).gated
    (sym (first_there c.get.ensures.value c.deref.ensures.value c.replay-entries.ensures.listed) ∙ here)) name place at

pub returns-in_err-restored-clause-answer : goal.returns-in_err-restored-clause-answer
returns-in_err-restored-clause-answer g c = λ name place told at.
    let p = err_from_is_err_and c.from_residual-in_err-restored.result c.from_residual-in_err-restored.ensures.1 in
    answered (non_zero_u32_get c.args.limit) (g.D.Disk.files c.args.devices.now.disk.now) c.from_residual-in_err-restored.result p.0 p.1 (subst IsOfOpening (sym p.2) tt)
    (λ name q is. absurd (let h : ◌≡◌ {A = StoreError} NoMemory (Corrupt name q) = sym p.2 ∙ is in cc)) name place at

pub returns-clause-answer : goal.returns-clause-answer
returns-clause-answer g c = λ name place told at.
    none_corrupt (non_zero_u32_get c.args.limit) (g.D.Disk.files c.args.devices.now.disk.now) c.in_ok-journal.journal.waiting.items name place ((c.in_ok-journal.ensures.opens told).whole) ((c.in_ok-journal.ensures.opens told).gated)
    (sym (first_there c.get.ensures.value c.deref.ensures.value c.replay-entries.ensures.listed) ∙ c.in_ok-recorded.ensures.events) at

pub returns-in_err-journal-clause-opens : goal.returns-in_err-journal-clause-opens
returns-in_err-journal-clause-opens g c = λ told fit.
    let p = err_from_is_err_and c.from_residual.result c.from_residual.ensures.1 in
    let whole = fit.whole.each (g.D.Disk.files c.args.devices.now.disk.now) (g.met.D.Disk.reads c.args.devices.now.disk.now told) in
    let of_devices : IsOfDevices c.in_err-journal.field-0.0 = due_sound c.in_err-journal.field-0.0 _ _ _ _ _ (λ name place at. no_place (first_break (g.D.Disk.files c.args.devices.now.disk.now)) (name, place) (at told).0 whole) c.in_err-journal.ensures.due in
    rw p.1 (subst IsOfDevices (sym p.2) of_devices)

pub returns-in_err-recorded-clause-opens : goal.returns-in_err-recorded-clause-opens
returns-in_err-recorded-clause-opens g c = λ told fit.
    let p = err_from_is_err_and c.from_residual-in_err-recorded.result c.from_residual-in_err-recorded.ensures.1 in
    let events = fit.events (g.D.Disk.files c.args.devices.now.disk.now) (g.met.D.Disk.reads c.args.devices.now.disk.now told) in
    let none : no_event_at c.get.result c.deref.result.now ≡ None =
    ap (λ (n : ℕ). no_event_at n c.deref.result.now) c.get.ensures.value
    ∙ ap (λ (es : List JournalEntry). no_event_at (non_zero_u32_get c.args.limit) es) (c.deref.ensures.value ∙ c.replay-entries.ensures.listed)
    ∙ no_other (non_zero_u32_get c.args.limit) c.in_ok-journal.journal.waiting.items (subst (λ (es : List SectionEntry). AreEvents (non_zero_u32_get c.args.limit) es) (sym (c.in_ok-journal.ensures.opens told).listed) events) in
    let of_devices : IsOfDevices c.in_err-recorded.field-0.0 = not_corrupt c.in_err-recorded.field-0.0 (of_restoring_too c.in_err-recorded.field-0.0 c.in_err-recorded.ensures.error_kinds)
    (λ name place is. no_place (no_event_at c.get.result c.deref.result.now) (name, place) (c.in_err-recorded.ensures.corrupt name place (ap (λ (e : StoreError). Err e) is)) none) in
    rw p.1 (subst IsOfDevices (sym p.2) of_devices)

pub returns-in_err-restored-clause-opens : goal.returns-in_err-restored-clause-opens
returns-in_err-restored-clause-opens g c = λ told fit.
    let p = err_from_is_err_and c.from_residual-in_err-restored.result c.from_residual-in_err-restored.ensures.1 in rw p.1 (subst IsOfDevices (sym p.2) tt)

pub returns-in_err-journal-clause-rereads : goal.returns-in_err-journal-clause-rereads
returns-in_err-journal-clause-rereads g c told = record {
  images = (c.open_journal.ensures.keeps told).keeps;
  fit = λ limit fit. kept_fit limit _ _ (c.open_journal.ensures.keeps told).keeps ((c.open_journal.ensures.keeps told).sound fit.whole) fit;
  holds = λ pairs holds. kept_holds pairs _ _ _ _ (c.open_journal.ensures.keeps told).keeps refl holds;
}

pub returns-in_err-recorded-clause-rereads : goal.returns-in_err-recorded-clause-rereads
returns-in_err-recorded-clause-rereads g c told = record {
  images = (c.open_journal.ensures.keeps told).keeps;
  fit = λ limit fit. kept_fit limit _ _ (c.open_journal.ensures.keeps told).keeps ((c.open_journal.ensures.keeps told).sound fit.whole) fit;
  holds = λ pairs holds. kept_holds pairs _ _ _ _ (c.open_journal.ensures.keeps told).keeps c.restore.ensures.same holds;
}

pub returns-in_err-restored-clause-rereads : goal.returns-in_err-restored-clause-rereads
returns-in_err-restored-clause-rereads g c told = record {
  images = (c.open_journal.ensures.keeps told).keeps;
  fit = λ limit fit. kept_fit limit _ _ (c.open_journal.ensures.keeps told).keeps ((c.open_journal.ensures.keeps told).sound fit.whole) fit;
  holds = λ pairs holds. kept_holds pairs _ _ _ _ (c.open_journal.ensures.keeps told).keeps c.restore.ensures.same holds;
}

pub returns-clause-rereads : goal.returns-clause-rereads
returns-clause-rereads g c told = record {
  images = (c.open_journal.ensures.keeps told).keeps;
  fit = λ limit fit. kept_fit limit _ _ (c.open_journal.ensures.keeps told).keeps ((c.open_journal.ensures.keeps told).sound fit.whole) fit;
  holds = λ pairs holds. kept_holds pairs _ _ _ _ (c.open_journal.ensures.keeps told).keeps c.restore.ensures.same holds;
}

pub returns-clause-restores : goal.returns-clause-restores
returns-clause-restores g c =
    record {
      current = refl;
      listed = c.in_ok-restored.ensures;
      opened = λ told. is_open_there c.in_ok-journal.journal c.replay-entries.new.self _ _ (c.in_ok-journal.ensures.opens told).opened c.replay-entries.ensures.places;
      dealings = λ told told_secrets. let its = c.in_ok-journal.ensures.opens told in c.in_ok-recorded.ensures.given told_secrets ∙ ap (λ (es : List SectionEntry). recovered es (g.X.SecretStore.held c.args.devices.now.secrets.now)) (ap views (c.deref.ensures.value ∙ c.replay-entries.ensures.listed) ∙ its.listed);
      acks = λ told. let its = c.in_ok-journal.ensures.opens told in c.in_ok-recorded.ensures.acks ∙ ap acks_in (ap views (c.deref.ensures.value ∙ c.replay-entries.ensures.listed) ∙ its.listed);
      logs = λ told. let its = c.in_ok-journal.ensures.opens told in c.in_ok-recorded.ensures.logs ∙ ap logs_in (ap views (c.deref.ensures.value ∙ c.replay-entries.ensures.listed) ∙ its.listed);
      holds = λ told told_secrets whole. let its = c.in_ok-journal.ensures.opens told in
          restored_holds _ (g.D.Disk.files c.args.devices.now.disk.now) _ _ _ its.settled c.restore.ensures.same (c.in_ok-recorded.ensures.given told_secrets ∙ ap (λ (es : List SectionEntry). recovered es (g.X.SecretStore.held c.args.devices.now.secrets.now)) (ap views (c.deref.ensures.value ∙ c.replay-entries.ensures.listed) ∙ its.listed)) whole;
      gives_acks = λ told. let its = c.in_ok-journal.ensures.opens told in record { each = λ m here. ap acks_in (its.settled m here) ∙ sym (c.in_ok-recorded.ensures.acks ∙ ap acks_in (ap views (c.deref.ensures.value ∙ c.replay-entries.ensures.listed) ∙ its.listed)) };
      gives_logs = λ told. let its = c.in_ok-journal.ensures.opens told in record { each = λ m here. ap logs_in (its.settled m here) ∙ sym (c.in_ok-recorded.ensures.logs ∙ ap logs_in (ap views (c.deref.ensures.value ∙ c.replay-entries.ensures.listed) ∙ its.listed)) };
      settled = λ told. (c.in_ok-journal.ensures.opens told).settled;
      names = λ told. (c.in_ok-journal.ensures.opens told).names;
      lands = λ told. (c.in_ok-journal.ensures.opens told).lands;
      sound = λ told. let none : no_event_at (non_zero_u32_get c.args.limit) c.in_ok-journal.journal.waiting.items ≡ None =
          ap (λ (n : ℕ). no_event_at n c.in_ok-journal.journal.waiting.items) (sym c.get.ensures.value)
          ∙ ap (λ (es : List JournalEntry). no_event_at c.get.result es) (sym c.replay-entries.ensures.listed ∙ sym c.deref.ensures.value)
          ∙ c.in_ok-recorded.ensures.events in (
            (c.in_ok-journal.ensures.opens told).whole,
            subst (λ (es : List SectionEntry). AreEvents (non_zero_u32_get c.args.limit) es) (c.in_ok-journal.ensures.opens told).listed (all_events (non_zero_u32_get c.args.limit) c.in_ok-journal.journal.waiting.items none),
          );
    }

pub returns-in_err-journal-clause-due : goal.returns-in_err-journal-clause-due
returns-in_err-journal-clause-due g c =
    let p = err_from_is_err_and c.from_residual.result c.from_residual.ensures.1 in
    rw (p.1, p.2) (due_around c.in_err-journal.field-0.0 c.in_err-journal.ensures.due
    (λ name place at told. (record { so = inl (at told).0 }, corrupt_alike (non_zero_u32_get c.args.limit) name place _ _ (at told).1 (record { so = inl (at told).0 }))) (λ rose. rose) (λ none. absurd none) (λ cut. cut) (λ want. want))

pub returns-in_err-recorded-clause-due : goal.returns-in_err-recorded-clause-due
returns-in_err-recorded-clause-due g c =
    let p = err_from_is_err_and c.from_residual-in_err-recorded.result c.from_residual-in_err-recorded.ensures.1 in
    rw (p.1, p.2) (due_restoring c.in_err-recorded.field-0.0 _ _ _ _ _ c.in_err-recorded.ensures.error_kinds
    (λ name q is told.
    let here = c.in_err-recorded.ensures.corrupt name q (ap (λ (e : StoreError). Err e) is) in
    let at = corrupt_at (non_zero_u32_get c.args.limit) (g.D.Disk.files c.args.devices.now.disk.now) c.in_ok-journal.journal.waiting.items name q (c.in_ok-journal.ensures.opens told).whole (c.in_ok-journal.ensures.opens told).gated
    (sym (first_there c.get.ensures.value c.deref.ensures.value c.replay-entries.ensures.listed) ∙ here) in
    (at, corrupt_alike (non_zero_u32_get c.args.limit) name q _ _ (c.in_ok-journal.ensures.opens told).alike at))
    (λ is. (
      c.in_err-recorded.ensures.secrets (ap (λ (e : StoreError). Err e) is),
      λ told.
          let begins = c.in_err-recorded.ensures.half (ap (λ (e : StoreError). Err e) is) in
          let read : views c.deref.result.now ≡ entries (g.D.Disk.files c.args.devices.now.disk.now) = ap views (c.deref.ensures.value ∙ c.replay-entries.ensures.listed) ∙ (c.in_ok-journal.ensures.opens told).listed in
          ((c.in_ok-journal.ensures.opens told).whole, subst (λ (es : List SectionEntry). BeginsWithEvent (non_zero_u32_get c.args.limit) es) read (subst (λ (n : ℕ). BeginsWithEvent n (views c.deref.result.now)) c.get.ensures.value begins)),
    ))
    tt)

pub returns-in_err-restored-clause-due : goal.returns-in_err-restored-clause-due
returns-in_err-restored-clause-due g c =
    let p = err_from_is_err_and c.from_residual-in_err-restored.result c.from_residual-in_err-restored.ensures.1 in
    rw (p.1, p.2) tt

pub returns-in_err-journal-clause-called : goal.returns-in_err-journal-clause-called
returns-in_err-journal-clause-called g c =
    let p = err_from_is_err_and c.from_residual.result c.from_residual.ensures.1 in
    rw p.1 (called_disk (IsTrue g.D.Disk.tells) g.D.Disk.made g.X.SecretStore.made g.D.Disk.faults g.X.SecretStore.faults None (Barrier ∷ open_calls (g.D.Disk.files c.args.devices.now.disk.now)) c.args.devices.now _ refl refl
    c.open_journal.ensures.later (omega arith) (g.met.X.SecretStore.made_none _) c.open_journal.ensures.counts c.open_journal.ensures.calls (λ told. tt) tt)

pub returns-in_err-recorded-clause-called : goal.returns-in_err-recorded-clause-called
returns-in_err-recorded-clause-called g c =
    let p = err_from_is_err_and c.from_residual-in_err-recorded.result c.from_residual-in_err-recorded.ensures.1 in
    rw p.1 (called_disk (IsTrue g.D.Disk.tells) g.D.Disk.made g.X.SecretStore.made g.D.Disk.faults g.X.SecretStore.faults None (Barrier ∷ open_calls (g.D.Disk.files c.args.devices.now.disk.now)) c.args.devices.now _ refl refl
    c.open_journal.ensures.later c.restore.ensures.later c.restore.ensures.calls c.open_journal.ensures.counts c.open_journal.ensures.calls (λ told. tt) tt)

pub returns-in_err-restored-clause-called : goal.returns-in_err-restored-clause-called
returns-in_err-restored-clause-called g c =
    let p = err_from_is_err_and c.from_residual-in_err-restored.result c.from_residual-in_err-restored.ensures.1 in
    rw p.1 (called_disk (IsTrue g.D.Disk.tells) g.D.Disk.made g.X.SecretStore.made g.D.Disk.faults g.X.SecretStore.faults None (Barrier ∷ open_calls (g.D.Disk.files c.args.devices.now.disk.now)) c.args.devices.now _ refl refl
    c.open_journal.ensures.later c.restore.ensures.later c.restore.ensures.calls c.open_journal.ensures.counts c.open_journal.ensures.calls (λ told. tt) tt)

pub returns-clause-called : goal.returns-clause-called
returns-clause-called g c =
    called_disk (IsTrue g.D.Disk.tells) g.D.Disk.made g.X.SecretStore.made g.D.Disk.faults g.X.SecretStore.faults (Some true) (Barrier ∷ open_calls (g.D.Disk.files c.args.devices.now.disk.now)) c.args.devices.now _ refl refl
    c.open_journal.ensures.later c.restore.ensures.later c.restore.ensures.calls c.open_journal.ensures.counts c.open_journal.ensures.calls c.in_ok-journal.ensures.all c.in_ok-journal.ensures.not_cut
