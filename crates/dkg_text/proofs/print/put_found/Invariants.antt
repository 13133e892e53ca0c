use Rattle.std.proofs.Common.{◌≡◌, ◌++◌, take}
use Rattle.std.specs.List.{flat_map}
use Rattle.dkg_text.specs.Printing.{restored_line}
use Rattle.dkg_text.proofs.print.put_found.Given as goal

abbrev pub invariant-loop-dealing : goal.invariant-loop-dealing
invariant-loop-dealing l = l.text ≡ l.initial.text ++ flat_map restored_line (take l.dealing-index l.dealing-items)
