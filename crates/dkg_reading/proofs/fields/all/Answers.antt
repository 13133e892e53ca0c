use Rattle.std.proofs.Common.{◌∙◌, sym, ap, List, ℕ}
use Rattle.dkg_reading.specs.Rows.{all_of}
use Rattle.dkg_reading.proofs.ReadOn.{before_more, no_more, none_more, one_more}
use Rattle.dkg_reading.proofs.fields.all.Goals as goal

pub returns-in_default-2-clause-value : goal.returns-in_default-2-clause-value
returns-in_default-2-clause-value g c =
    let of = g.T.Field.of in
    let done = c.fields.values.items in
    let none = sym c.in_ok-value.ensures ∙ c.in_default-2.is in
    sym (sym c.fields.invariant ∙ (ap (λ (fs : List (List ℕ)). before_more done (all_of of fs)) c.in-Some.ensures ∙ none_more of done c.in-Some.text.now c.next.new.self none))

pub fields-preserved : goal.fields-preserved
fields-preserved g c =
    let of = g.T.Field.of in
    let done = c.fields.values.items in
    let is = sym c.in_ok-value.ensures ∙ c.in-Some-2.is in
    ap (λ xs. before_more xs (all_of of c.next.new.self)) c.in_ok-push.ensures.items
    ∙ (sym (one_more of done c.in-Some.text.now c.next.new.self c.in-Some-2.value is)
    ∙ (sym (ap (λ (fs : List (List ℕ)). before_more done (all_of of fs)) c.in-Some.ensures) ∙ c.fields.invariant))

pub returns-clause-value : goal.returns-clause-value
returns-clause-value g c =
    let of = g.T.Field.of in
    let done = c.fields.values.items in
    sym (sym c.fields.invariant ∙ (ap (λ (fs : List (List ℕ)). before_more done (all_of of fs)) c.in_default.ensures.0 ∙ no_more of done))
