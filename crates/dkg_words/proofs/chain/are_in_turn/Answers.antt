use Rattle.std.proofs.Common.{length, ◌∙◌, ap, ◌+◌}
use Rattle.dkg_words.proofs.BlockLines.{in_turn_none, in_turn_result}
use Rattle.dkg_words.proofs.chain.are_in_turn.Goals as goal

pub returns-in_default : goal.returns-in_default
returns-in_default c = λ yes. in_turn_none c.args.text.now (length c.args.text.now) c.args.place c.in_default.ensures

pub returns : goal.returns
returns c =
    in_turn_result c.args.text.now c.args.place c.place_behind.result c.in-Some-checked_add.height c.in-Some.line.now c.in_ok-front.front c.go_on_in_turn.result c.in-Some.ensures
    (c.in-Some-checked_add.ensures.1 ∙ ap (λ n. n + 1) c.first_number.ensures) c.in_ok-front.ensures c.place_behind.ensures c.go_on_in_turn.ensures
