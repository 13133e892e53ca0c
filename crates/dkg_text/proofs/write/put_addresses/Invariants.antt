use Rattle.std.proofs.Common.{◌≡◌, ◌++◌, take}
use Rattle.std.specs.List.{flat_map}
use Rattle.dkg_text.specs.Writing.{address_line}
use Rattle.dkg_text.proofs.write.put_addresses.Given as goal

abbrev pub invariant-loop-line : goal.invariant-loop-line
invariant-loop-line l = l.text ≡ l.initial.text ++ flat_map address_line (take l.line-index l.lines)
