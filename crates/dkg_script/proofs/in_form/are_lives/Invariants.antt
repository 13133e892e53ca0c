use Rattle.std.proofs.Common.{◌≡◌, drop, length}
use Rattle.dkg_script.specs.InForm.{are_lives}
use Rattle.dkg_script.proofs.in_form.are_lives.Given as goal

abbrev pub invariant-loop-life : goal.invariant-loop-life
invariant-loop-life l = are_lives (length l.blocks) (drop l.life-index l.lives) ≡ are_lives (length l.blocks) l.lives
