use Rattle.std.proofs.Common.{ℕ, Ok, Option, refl, sym, subst}
use Rattle.std.proofs.lemmas.Result.{err_from_is_err_and}
use Rattle.dkg_journal.specs.Disk.{ImagesFollow, Inside, Did}
use Rattle.dkg_journal.specs.Fuse.{HasRun}
use Rattle.dkg_journal.specs.Steps.{IsNextAppend, SegmentAt, make_calls, place_or_start}
use Rattle.dkg_journal.specs.declared.call.JournalError.{JournalError}
use Rattle.dkg_journal.specs.declared.disk.Op.{Op}
use Rattle.dkg_journal.proofs.Append.{keeps_none, made_segment, made_keeps, next_segment}
use Rattle.dkg_journal.proofs.Steps.{one_call, ran_all, run_err, run_ok}
use Rattle.dkg_journal.proofs.Unbroken.{made_unbroken}
use Rattle.dkg_journal.proofs.journal.make_file.Goals as goal

pub returns-in-Some-clause-open : goal.returns-in-Some-clause-open
returns-in-Some-clause-open g c = λ tells next.
    let at = next_segment c.args.section _ _ _ (subst (λ (p : Option ℕ). IsNextAppend c.args.section p (g.D.Disk.files c.args.disk.now) (g.D.Disk.image c.args.disk.now)) c.in-Some.is next) in
    subst (λ (p : Option ℕ). SegmentAt c.args.section (place_or_start p) (g.D.Disk.files c.args.disk.now) (g.D.Disk.image c.args.disk.now)) (sym c.in-Some.is) at

pub returns-in-Some-clause-images : goal.returns-in-Some-clause-images
returns-in-Some-clause-images g c = λ next. keeps_none _ _

pub returns-in_err-perform-in-None-clause-images : goal.returns-in_err-perform-in-None-clause-images
returns-in_err-perform-in-None-clause-images g c = λ next.
    let none = subst (λ (p : Option ℕ). IsNextAppend c.args.section p (g.D.Disk.files c.args.disk.now) (g.D.Disk.image c.args.disk.now)) c.in-None.is next in
    made_keeps c.args.section _ _ _ none (subst (λ (op : Op). ImagesFollow (Inside op) (g.D.Disk.image c.args.disk.now) (g.D.Disk.image c.perform.new.disk)) c.requires c.perform.ensures.crash)

pub returns-in_ok-perform-in-None-clause-images : goal.returns-in_ok-perform-in-None-clause-images
returns-in_ok-perform-in-None-clause-images g c = λ next.
    let none = subst (λ (p : Option ℕ). IsNextAppend c.args.section p (g.D.Disk.files c.args.disk.now) (g.D.Disk.image c.args.disk.now)) c.in-None.is next in
    made_keeps c.args.section _ _ _ none (subst (λ (op : Op). ImagesFollow (Inside op) (g.D.Disk.image c.args.disk.now) (g.D.Disk.image c.perform.new.disk)) c.requires c.perform.ensures.crash)

pub returns-in_ok-perform-in-None-clause-open : goal.returns-in_ok-perform-in-None-clause-open
returns-in_ok-perform-in-None-clause-open g c = λ tells next.
    let at = made_segment c.args.section _ _ _ (subst (λ (op : Op). Did op (g.D.Disk.files c.args.disk.now) (g.D.Disk.files c.perform.new.disk) (g.D.Disk.image c.perform.new.disk)) c.requires (c.in_ok-perform-in-None.ensures.done tells)) in
    subst (λ (p : Option ℕ). SegmentAt c.args.section (place_or_start p) (g.D.Disk.files c.perform.new.disk) (g.D.Disk.image c.perform.new.disk)) (sym c.in-None.is) at

pub returns-in_err-perform-in-None-clause-sound : goal.returns-in_err-perform-in-None-clause-sound
returns-in_err-perform-in-None-clause-sound g c = λ next sound.
    made_unbroken c.args.section _ _ next.no_flat sound (subst (λ (op : Op). ImagesFollow (Inside op) (g.D.Disk.image c.args.disk.now) (g.D.Disk.image c.perform.new.disk)) c.requires c.perform.ensures.crash)

pub returns-in_ok-perform-in-None-clause-sound : goal.returns-in_ok-perform-in-None-clause-sound
returns-in_ok-perform-in-None-clause-sound g c = λ next sound.
    made_unbroken c.args.section _ _ next.no_flat sound (subst (λ (op : Op). ImagesFollow (Inside op) (g.D.Disk.image c.args.disk.now) (g.D.Disk.image c.perform.new.disk)) c.requires c.perform.ensures.crash)

pub returns-in-Some-clause-calls : goal.returns-in-Some-clause-calls
returns-in-Some-clause-calls g c =
    subst (λ (p : Option ℕ). HasRun {E = JournalError} g.D.Disk.made (Ok tt) c.args.disk.now c.args.disk.now c.args.fuse.now c.args.fuse.now (make_calls c.args.section p)) (sym c.in-Some.is)
    (run_ok g.D.Disk.made _ _ _ _ _ tt (record { each = g.met.D.Disk.made_none _; fuse = refl }))

pub returns-in_err-perform-in-None-clause-calls : goal.returns-in_err-perform-in-None-clause-calls
returns-in_err-perform-in-None-clause-calls g c =
    let p = err_from_is_err_and c.from_residual.result c.from_residual.ensures.1 in
    subst (λ (p : Option ℕ). HasRun g.D.Disk.made c.from_residual.result c.args.disk.now c.perform.new.disk c.args.fuse.now c.perform.new.fuse (make_calls c.args.section p)) (sym c.in-None.is)
    (run_err g.D.Disk.made c.from_residual.result _ _ _ _ _ p.0 p.1 (ran_all g.D.Disk.made _ _ _ _ _ (one_call g.D.Disk.made _ _ _ _ _ _ c.requires c.perform.ensures.calls c.perform.ensures.counted)))

pub returns-in_ok-perform-in-None-clause-calls : goal.returns-in_ok-perform-in-None-clause-calls
returns-in_ok-perform-in-None-clause-calls g c =
    subst (λ (p : Option ℕ). HasRun {E = JournalError} g.D.Disk.made (Ok tt) c.args.disk.now c.perform.new.disk c.args.fuse.now c.perform.new.fuse (make_calls c.args.section p)) (sym c.in-None.is)
    (run_ok g.D.Disk.made _ _ _ _ _ tt (one_call g.D.Disk.made _ _ _ _ _ _ c.requires c.perform.ensures.calls c.perform.ensures.counted))
