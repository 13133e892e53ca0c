use Rattle.std.proofs.Common.{◌≡◌, true, false, arith}
use Rattle.std.proofs.lemmas.Grind.{common_steps}
use Rattle.dkg_blocks.proofs.Alike.{parts_apart, spellings_tell}
use Rattle.dkg_blocks.proofs.final_block.is_same_info.Goals as goal

pub returns-then-not-has_same_parts : goal.returns-then-not-has_same_parts
returns-then-not-has_same_parts g c = λ fixed spells.
    let no : c.has_same_parts.result ≡ false = grind (arith, common_steps) in
    parts_apart g.Dir.Spelled.spelling fixed.directories spells c.args.one.now c.args.other.now c.has_same_parts.result c.has_same_parts.ensures no

pub returns : goal.returns
returns g c = λ fixed spells.
    let yes : c.has_same_parts.result ≡ true = grind (arith, common_steps) in
    spellings_tell g.Dir.Spelled.spelling fixed.directories spells c.args.one.now c.args.other.now (c.has_same_parts.ensures.0 yes) c.same-same.result c.in_ok-spelled.spelled c.in_ok-twin.twin c.in_ok-spelled.ensures c.in_ok-twin.ensures c.same-same.ensures
