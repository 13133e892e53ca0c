use Rattle.std.proofs.Common.{◌≡◌, ◌++◌, take}
use Rattle.std.specs.List.{flat_map}
use Rattle.dkg_text.specs.Writing.{life_text}
use Rattle.dkg_text.proofs.write.put_lives.Given as goal

abbrev pub invariant-loop-life : goal.invariant-loop-life
invariant-loop-life l = l.text ≡ l.initial.text ++ flat_map life_text (take l.life-index l.lives)
