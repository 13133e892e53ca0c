use Rattle.std.proofs.Common.{◌≡◌, length, ◌-◌, ◌+◌, ◌^◌, ◌<◌, true, arith, rules, ap, sym, ◌∙◌}
use Rattle.std.specs.Prelude.{nat_eq}
use Rattle.std.specs.List.{starts_with}
use Rattle.dkg_words.proofs.BlockLines.{turned_none, turned_over}
use Rattle.dkg_words.proofs.Fronts.{front_itself, turned_line}
use Rattle.dkg_words.proofs.chain.go_on_in_turn.Goals as goal

pub returns-in_default : goal.returns-in_default
returns-in_default c = λ yes.
    let l = c.loop-done in let n = length c.args.text.now in
    l.invariant.so_far (turned_none c.args.text.now (n - l.done) l.at l.front.height l.front.parent c.in_default.ensures)

pub go_on-requires-clause-height_fits : goal.go_on-requires-clause-height_fits
go_on-requires-clause-height_fits c = omega (arith, c.loop-done.invariant.fits, c.if-front.false)

pub loop-done-preserved : goal.loop-done-preserved
loop-done-preserved c =
    let l = c.loop-done in
    let text = c.args.text.now in
    let after = c.go_on.new.self in
    let on = c.in_ok-go_on.ensures in
    let begun : starts_with nat_eq c.in-Some.line.now l.front.words.items ≡ true =
    sym (c.if-not-starts_with.ensures.value ∙ ap (starts_with nat_eq c.in-Some.line.now) c.as_slice.ensures.value) in
    let parent : l.front.parent < 2 ^ 64 = search (rules, arith, l.invariant.counted, c.loop-done-test.true) in
    record {
      fits = omega (arith, l.invariant.fits, c.if-front.false, on.height_is);
      front = front_itself (l.front.height + 1) (l.front.parent + 1) after on;
      counted = omega (arith, l.invariant.counted, on.parent_is);
      so_far = λ more. l.invariant.so_far (
          turned_line text (length text) l.done l.at c.place_behind-at.result c.in-Some.line.now l.front after l.invariant.front l.invariant.fits parent c.loop-done-test.true c.in-Some.ensures begun on
          c.place_behind-at.ensures more);
    }

pub returns : goal.returns
returns c = λ yes.
    let l = c.loop-done in let n = length c.args.text.now in
    l.invariant.so_far (turned_over c.args.text.now n l.done l.at l.front.height l.front.parent c.loop-done-test.false)
