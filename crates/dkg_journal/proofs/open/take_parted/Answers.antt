use Rattle.std.proofs.Common.{◌≡◌, ◌∷◌, List, ℕ, Result, Err, refl, sym, ◌∙◌, ap, rules}
use Rattle.std.specs.FinMap as map
use Rattle.dkg_journal.specs.declared.call.JournalError.{JournalError}
use Rattle.dkg_journal.proofs.Finding.{parts_none, parts_step, parts_more, parts_broken, taken_broken, err_is}
use Rattle.dkg_journal.proofs.open.take_parted.Goals as goal

pub loop-section-init : goal.loop-section-init
loop-section-init c =
    let is : map.entries c.args.segments.now ≡ c.into_iter-section-iterator.result = search rules in
    parts_none _ _ _ _ _ _ is c.new-found.ensures.waiting c.new-found.ensures.places refl

pub loop-section-preserved : goal.loop-section-preserved
loop-section-preserved c =
    let step : c.loop-section.section-iterator ≡ (c.in-Some.section.now, c.in-Some.piece.now) ∷ c.next.new.self = search rules in
    let bytes : c.in_ok-bytes.bytes.items ≡ c.in-Some.piece.now = c.in_ok-bytes.ensures in
    parts_more _ _ c.in-Some.section.now c.in_ok-bytes.bytes.items c.next.new.self _ _ _ (parts_step _ _ _ _ _ _ _ (step ∙ ap (λ (b : List ℕ). (c.in-Some.section.now, b) ∷ c.next.new.self) (sym bytes)) c.loop-section.invariant) (map.entries_sorted c.args.segments.now) _ _ _ c.in_ok-take_in.ensures.taken

pub returns-in_err-take_in-clause-broken : goal.returns-in_err-take_in-clause-broken
returns-in_err-take_in-clause-broken c = λ name place is.
    let step : c.loop-section.section-iterator ≡ (c.in-Some.section.now, c.in-Some.piece.now) ∷ c.next.new.self = search rules in
    let bytes : c.in_ok-bytes.bytes.items ≡ c.in-Some.piece.now = c.in_ok-bytes.ensures in
    let same : ◌≡◌ {A = Result _ JournalError} c.from_residual-in_err-take_in.result (Err c.in_err-take_in.field-0.0) = search rules in
    taken_broken c.in_err-take_in.field-0.0 name place c.in-Some.section.now c.in_ok-bytes.bytes.items _ (err_is _ _ (sym same ∙ is)) c.in_err-take_in.ensures.broken (λ p broken.
    parts_broken _ _ c.in-Some.section.now c.in_ok-bytes.bytes.items c.next.new.self _ _ _ (parts_step _ _ _ _ _ _ _ (step ∙ ap (λ (b : List ℕ). (c.in-Some.section.now, b) ∷ c.next.new.self) (sym bytes)) c.loop-section.invariant) p broken)
