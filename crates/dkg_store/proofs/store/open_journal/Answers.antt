use Rattle.std.proofs.Common.{[], ◌∷◌, length, None, Err, refl, sym, subst, ap, ◌∙◌}
use Rattle.dkg_journal.specs.Names.{Files}
use Rattle.dkg_journal.specs.Records.{entries}
use Rattle.dkg_journal.specs.Gated.{OpensAlike, gated_entries}
use Rattle.dkg_journal.specs.Opening.{first_break, open_calls}
use Rattle.dkg_journal.specs.declared.call.JournalError.{JournalError}
use Rattle.dkg_journal.specs.Fuse.{Ran, RanAll}
use Rattle.dkg_journal.specs.declared.disk.Op.TheVariants.{Barrier}
use Rattle.dkg_journal.proofs.Fuses.{ok_unreached}
use Rattle.dkg_journal.proofs.Gates.{gated_listed}
use Rattle.dkg_journal.proofs.Journals.{unchanged_alike}
use Rattle.dkg_journal.proofs.Steps.{then_all, then_ran, ran_first}
use Rattle.dkg_store.specs.Errors.{IsOfDevices, store_error_of}
use Rattle.dkg_store.proofs.Acting.{breaks_off, of_journal_too}
use Rattle.dkg_store.specs.Acts.{EndsBy}
use Rattle.dkg_store.specs.Calls.{cause_of}
use Rattle.dkg_store.specs.declared.call.StoreError.{StoreError}
use Rattle.dkg_store.proofs.Making.{journal_end}
use Rattle.dkg_store.proofs.OpeningActs.{bar_done, bar_torn, open_torn, open_done, journal_devices, no_place}
use Rattle.dkg_store.proofs.Opened.{barred, kept_on}
use Rattle.dkg_store.proofs.Fit.{barred_unbroken}
use Rattle.dkg_store.proofs.Named.{opened_too}
use Rattle.dkg_journal.specs.Operations.{Journaled}
use Rattle.dkg_journal.proofs.Fuses.{cut_reached, ok_unreached}
use Rattle.dkg_store.proofs.Counts.{counts_fused, counts_then, reached_behind, uncut_then}
use Rattle.dkg_store.proofs.Left.{due_around, due_journal, due_opening, later_rose}
use Rattle.dkg_store.proofs.store.open_journal.Goals as goal

pub returns-in-Err-clause-acts : goal.returns-in-Err-clause-acts
returns-in-Err-clause-acts g c = λ told whole out s.
    bar_torn None (length (open_calls (g.D.Disk.files c.args.disk.now))) (cause_of c.of_journal.result)
    (breaks_off c.of_journal.result (subst IsOfDevices (sym c.of_journal.ensures) (of_journal_too c.in-Err.error c.in-Err.ensures.error_kinds))) c.perform.ensures.crash c.perform.ensures.counted
    (subst (λ (e : StoreError). EndsBy (cause_of e) c.args.fuse.now c.perform.new.fuse) (sym c.of_journal.ensures) (journal_end _ c.in-Err.error refl c.in-Err.ensures.caused.fused))

pub returns-in-Err-open-clause-acts : goal.returns-in-Err-open-clause-acts
returns-in-Err-open-clause-acts g c = λ told whole out s.
    let did = c.in_default.ensures.done told in
    let of_devices : IsOfDevices (store_error_of c.in-Err-open.error) = journal_devices c.in-Err-open.error
    (λ name place is. no_place (first_break (g.D.Disk.files c.perform.new.disk)) (name, place) ((c.in-Err-open.ensures.judges told).corrupt_there name place (ap (λ (e : JournalError). Err e) is)) (ap first_break did.reads ∙ whole))
    (λ is. c.in-Err-open.ensures.not_long (ap (λ (e : JournalError). Err e) is)) in
    bar_done None (length (open_calls (g.D.Disk.files c.args.disk.now))) did c.perform.ensures.counted (g.met.D.Disk.reads _ told)
    (open_torn did.reads (cause_of c.of_journal-in-Err-open.result)
    (breaks_off c.of_journal-in-Err-open.result (subst IsOfDevices (sym c.of_journal-in-Err-open.ensures) of_devices))
    ((c.open.ensures.does told).tried (record { only = λ f in_image. did.durable f in_image ∙ sym did.reads }))
    (subst (λ (e : StoreError). EndsBy (cause_of e) c.perform.new.fuse c.open.new.fuse) (sym c.of_journal-in-Err-open.ensures) (journal_end _ c.in-Err-open.error refl c.in-Err-open.ensures.caused.fused)))

pub returns-in-Ok-clause-acts : goal.returns-in-Ok-clause-acts
returns-in-Ok-clause-acts g c = λ told whole out s.
    let did = c.in_default.ensures.done told in
    bar_done None (length (open_calls (g.D.Disk.files c.args.disk.now))) did c.perform.ensures.counted (g.met.D.Disk.reads _ told)
    (open_done did.reads refl ((c.in-Ok.ensures.does told).done (record { only = λ f in_image. did.durable f in_image ∙ sym did.reads })) (g.met.D.Disk.reads _ told))

pub returns-in-Err-clause-calls : goal.returns-in-Err-clause-calls
returns-in-Err-clause-calls g c = λ told. ran_first g.D.Disk.made _ _ _ _ (Barrier ∷ []) (open_calls (g.D.Disk.files c.args.disk.now)) (record { each = c.perform.ensures.calls; fuse = c.perform.ensures.counted })

pub returns-in-Err-open-clause-calls : goal.returns-in-Err-open-clause-calls
returns-in-Err-open-clause-calls g c = λ told.
    let did = c.in_default.ensures.done told in
    then_ran g.D.Disk.made g.met.D.Disk.made_more _ _ _ _ _ _ (Barrier ∷ []) (open_calls (g.D.Disk.files c.args.disk.now)) (record { each = c.perform.ensures.calls; fuse = c.perform.ensures.counted })
    (subst (λ (files : Files). Ran g.D.Disk.made c.perform.new.disk c.open.new.disk c.perform.new.fuse c.open.new.fuse (open_calls files)) did.reads (c.open.ensures.calls told).ran)

pub returns-in-Ok-clause-calls : goal.returns-in-Ok-clause-calls
returns-in-Ok-clause-calls g c = λ told.
    let did = c.in_default.ensures.done told in
    then_ran g.D.Disk.made g.met.D.Disk.made_more _ _ _ _ _ _ (Barrier ∷ []) (open_calls (g.D.Disk.files c.args.disk.now)) (record { each = c.perform.ensures.calls; fuse = c.perform.ensures.counted })
    (subst (λ (files : Files). Ran g.D.Disk.made c.perform.new.disk c.open.new.disk c.perform.new.fuse c.open.new.fuse (open_calls files)) did.reads (c.open.ensures.calls told).ran)

pub returns-in-Ok-clause-all : goal.returns-in-Ok-clause-all
returns-in-Ok-clause-all g c = λ told.
    let did = c.in_default.ensures.done told in
    then_all g.D.Disk.made g.met.D.Disk.made_more _ _ _ _ _ _ (Barrier ∷ []) (open_calls (g.D.Disk.files c.args.disk.now)) (record { each = c.perform.ensures.calls; fuse = c.perform.ensures.counted })
    (subst (λ (files : Files). RanAll g.D.Disk.made c.perform.new.disk c.open.new.disk c.perform.new.fuse c.open.new.fuse (open_calls files)) did.reads (c.in-Ok.ensures.calls told).all)

pub returns-in-Err-clause-keeps : goal.returns-in-Err-clause-keeps
returns-in-Err-clause-keeps g c told = record {
  keeps = barred _ _ c.perform.ensures.crash;
  sound = λ whole. barred_unbroken _ _ c.perform.ensures.crash whole;
}

pub returns-in-Err-open-clause-keeps : goal.returns-in-Err-open-clause-keeps
returns-in-Err-open-clause-keeps g c told =
    let did = c.in_default.ensures.done told in
    record {
      keeps = kept_on _ _ _ (barred _ _ c.perform.ensures.crash) ((c.open.ensures.images told (record { only = λ f in_image. did.durable f in_image ∙ sym did.reads })).keeps);
      sound = λ whole. (c.open.ensures.images told (record { only = λ f in_image. did.durable f in_image ∙ sym did.reads })).sound (barred_unbroken _ _ c.perform.ensures.crash whole);
    }

pub returns-in-Ok-clause-keeps : goal.returns-in-Ok-clause-keeps
returns-in-Ok-clause-keeps g c told =
    let did = c.in_default.ensures.done told in
    record {
      keeps = kept_on _ _ _ (barred _ _ c.perform.ensures.crash) ((c.open.ensures.images told (record { only = λ f in_image. did.durable f in_image ∙ sym did.reads })).keeps);
      sound = λ whole. (c.open.ensures.images told (record { only = λ f in_image. did.durable f in_image ∙ sym did.reads })).sound (barred_unbroken _ _ c.perform.ensures.crash whole);
    }

pub returns-in-Ok-clause-opens : goal.returns-in-Ok-clause-opens
returns-in-Ok-clause-opens g c = λ told.
    let did = c.in_default.ensures.done told in
    let done = (c.in-Ok.ensures.does told).done (record { only = λ f in_image. did.durable f in_image ∙ sym did.reads }) in
    record {
      opened = c.in-Ok.ensures.open told (record { only = λ f in_image. did.durable f in_image ∙ sym did.reads });
      listed = gated_listed _ _ (c.in-Ok.ensures.gated told) ∙ ap entries did.reads;
      gated = c.in-Ok.ensures.gated told ∙ ap gated_entries did.reads;
      settled = λ m here. ap entries (done.settled.only m here) ∙ ap (λ (j : Journaled). j.entries) done.after ∙ ap entries did.reads;
      whole = ap first_break (sym did.reads) ∙ (c.in-Ok.ensures.judges told).whole;
      alike = subst (λ (files : Files). OpensAlike files (g.D.Disk.files c.open.new.disk)) did.reads (c.in-Ok.ensures.again.alike told);
      names = opened_too _ _ _ _ _ _ _ did.reads ((c.in-Ok.ensures.does told).done (record { only = λ f in_image. did.durable f in_image ∙ sym did.reads }));
      lands = ((c.in-Ok.ensures.does told).done (record { only = λ f in_image. did.durable f in_image ∙ sym did.reads })).settled;
    }

pub returns-in-Err-clause-counts : goal.returns-in-Err-clause-counts
returns-in-Err-clause-counts g c = counts_fused _ _ _ _ _ c.perform.ensures.caused.fused

pub returns-in-Err-open-clause-counts : goal.returns-in-Err-open-clause-counts
returns-in-Err-open-clause-counts g c = counts_then _ _ _ (counts_fused _ _ _ _ _ c.perform.ensures.caused.fused) (counts_fused _ _ _ _ _ c.open.ensures.caused.fused)

pub returns-in-Ok-clause-counts : goal.returns-in-Ok-clause-counts
returns-in-Ok-clause-counts g c = counts_then _ _ _ (counts_fused _ _ _ _ _ c.perform.ensures.caused.fused) (counts_fused _ _ _ _ _ c.open.ensures.caused.fused)

pub returns-in-Ok-clause-not_cut : goal.returns-in-Ok-clause-not_cut
returns-in-Ok-clause-not_cut g c = uncut_then _ _ _ (counts_fused _ _ _ _ _ c.open.ensures.caused.fused) (ok_unreached _ _ _ _ _ c.in_default.ensures.caused.fused) (ok_unreached _ _ _ _ _ c.in-Ok.ensures.caused.fused)

pub returns-in-Err-clause-due : goal.returns-in-Err-clause-due
returns-in-Err-clause-due g c =
    rw c.of_journal.ensures (due_around (store_error_of c.in-Err.error) (due_journal c.in-Err.error _ ⊥ _ _ c.in-Err.ensures.error_kinds (λ is. c.in-Err.ensures.caused.counts.disk is)
    (λ is. (cut_reached _ _ _ _ _ c.in-Err.ensures.caused.fused is, λ told. c.in-Err.ensures.caused.lands is told)) (λ is. tt))
    (λ name place none. absurd none) (λ rose. rose) (λ none. none) (λ cut. cut) (λ want. want))

pub returns-in-Err-open-clause-due : goal.returns-in-Err-open-clause-due
returns-in-Err-open-clause-due g c =
    rw c.of_journal-in-Err-open.ensures (due_opening c.in-Err-open.error _ _ _ _ _ c.in-Err-open.ensures.not_long
    (λ name place is told.
    let did = c.in_default.ensures.done told in (
      ap first_break (sym did.reads) ∙ (c.in-Err-open.ensures.judges told).corrupt_there name place is,
      subst (λ (files : Files). OpensAlike files (g.D.Disk.files c.open.new.disk)) did.reads (unchanged_alike g.D.Disk.files g.D.Disk.image _ _ (c.in-Err-open.ensures.again.unread name place is)),
    ))
    (λ is. later_rose _ _ _ c.perform.ensures.caused.counts.later c.open.ensures.caused.counts.later (c.in-Err-open.ensures.caused.counts.disk is))
    (λ is. (reached_behind _ _ _ (counts_fused _ _ _ _ _ c.perform.ensures.caused.fused) (cut_reached _ _ _ _ _ c.in-Err-open.ensures.caused.fused is), λ told. c.in-Err-open.ensures.caused.lands is told)) (λ is. tt))
