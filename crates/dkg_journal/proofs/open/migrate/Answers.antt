use Rattle.std.proofs.Common.{◌≡◌, List, Result, Err, sym, ◌∙◌, ap, subst, rules}
use Rattle.std.proofs.lemmas.Option.{none-some}
use Rattle.std.specs.Prelude.{filter}
use Rattle.std.specs.FinMap as map
use Rattle.dkg_journal.specs.Found.{Takes}
use Rattle.dkg_journal.specs.Opening.{broken_rows, is_unnamed, removes}
use Rattle.dkg_journal.specs.Segments.{Segments, parted}
use Rattle.dkg_journal.specs.declared.disk.Op.{Op}
use Rattle.dkg_journal.specs.declared.call.JournalError.{JournalError}
use Rattle.dkg_journal.proofs.Fuses.{err_as}
use Rattle.dkg_journal.proofs.Finding.{finds_parted, parted_unbroken}
use Rattle.dkg_journal.proofs.open.migrate.Goals as goal

pub returns-in_err-found-clause-broken : goal.returns-in_err-found-clause-broken
returns-in_err-found-clause-broken c = λ name place is.
    let made = c.in_ok-segments.ensures.parted in
    let same : ◌≡◌ {A = Result _ JournalError} c.from_residual-in_err-found.result (Err c.in_err-found.field-0.0) = search rules in
    absurd (none-some (name, place) (sym (parted_unbroken made.0 made.1 c.args.bytes.now made.2) ∙ ap (λ (m : Segments). broken_rows (map.entries m)) (sym made.3) ∙ c.in_err-found.ensures.broken name place (err_as _ _ (sym same ∙ is))))

pub returns-clause-found : goal.returns-clause-found
returns-clause-found c = λ files are there.
    let made = c.in_ok-segments.ensures.parted in
    let takes = subst (λ (l : List Op). Takes l (map.entries (parted made.0)) c.in_ok-found.found.waiting.items c.in_ok-found.found.places c.in_ok-found.found.mending.items) (ap (λ (m : Segments). removes (filter (is_unnamed m) c.args.names.now)) made.3)
    (subst (λ (l : List Op). Takes l (map.entries (parted made.0)) c.in_ok-found.found.waiting.items c.in_ok-found.found.places c.in_ok-found.found.mending.items) c.in_ok-removed.ensures
    (subst (λ (m : Segments). Takes c.in_ok-removed.removed.items (map.entries m) c.in_ok-found.found.waiting.items c.in_ok-found.found.places c.in_ok-found.found.mending.items) made.3 c.in_ok-found.ensures.found)) in
    finds_parted files c.args.bytes.now there made.0 made.1 made.2 c.args.names.now _ _ _ _ are takes c.in_ok-push.ensures.items
