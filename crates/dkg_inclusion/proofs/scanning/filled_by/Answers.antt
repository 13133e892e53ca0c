use Rattle.std.proofs.Common.{◌≡◌, ◌++◌, ◌∷◌, [], ap, refl, sym, ◌∙◌, take, append_assoc, append-nil}
use Rattle.std.proofs.lemmas.List.{take_all, take_more}
use Rattle.dkg_values.specs.RisingLaws.{map_of-map}
use Rattle.dkg_values.specs.Rising.{map_of}
use Rattle.dkg_ceremony.specs.Outcomes.{LogMap}
use Rattle.dkg_inclusion.proofs.Scans.{filled_is, if_ok}
use Rattle.dkg_inclusion.proofs.scanning.filled_by.Goals as goal

pub loop-dealer-preserved : goal.loop-dealer-preserved
loop-dealer-preserved c =
    let e = take_more c.as_slice-dealer-items.result.now c.loop-dealer.dealer-index c.loop-dealer-item.result c.loop-dealer-test.true in
    rw (c.in_ok-push.ensures.items, c.in_ok-copy.ensures, c.loop-dealer.invariant, e, sym c.loop-dealer-item.is) refl

pub loop-dealer-2-init : goal.loop-dealer-2-init
loop-dealer-2-init c = sym (append-nil _)

pub loop-dealer-2-preserved : goal.loop-dealer-2-preserved
loop-dealer-2-preserved c =
    let e = take_more c.as_slice-dealer-items-2.result.now c.loop-dealer-2.dealer-index c.loop-dealer-2-item.result c.loop-dealer-2-test.true in
    rw (c.in_ok-push-2.ensures.items, c.in_ok-copy-2.ensures, c.loop-dealer-2.invariant, e, sym c.loop-dealer-2-item.is)
    (append_assoc c.loop-dealer.pairs.items (take c.loop-dealer-2.dealer-index c.as_slice-dealer-items-2.result.now) (c.loop-dealer-2-item.result ∷ []))

pub returns : goal.returns
returns c =
    let one : c.loop-dealer.pairs.items ≡ c.args.logs = c.loop-dealer.invariant ∙ take_all c.loop-dealer.dealer-index c.as_slice-dealer-items.result.now c.loop-dealer-test.false ∙ c.as_slice-dealer-items.ensures.items in
    let two : take c.loop-dealer-2.dealer-index c.as_slice-dealer-items-2.result.now ≡ c.args.others.now =
    take_all c.loop-dealer-2.dealer-index c.as_slice-dealer-items-2.result.now c.loop-dealer-2-test.false ∙ c.as_slice-dealer-items-2.ensures.items in
    let all : c.loop-dealer-2.pairs.items ≡ c.args.logs ++ c.args.others.now = c.loop-dealer-2.invariant ∙ (λ i. one i ++ two i) in
    if_ok c.from_any.result
    (λ made is. is ∙ ap (λ (l : LogMap). map_of l) all ∙ filled_is c.args.logs c.args.others.now (map_of-map c.args.others.now c.as_slice-dealer-items-2.ensures.kept.rising))
    c.from_any.ensures.exact
