use Rattle.std.proofs.Common.{◌≡◌, ◌++◌, take}
use Rattle.dkg_text.specs.Writing.{numbers_fields}
use Rattle.dkg_text.proofs.write.put_keys.Given as goal

abbrev pub invariant-loop-key : goal.invariant-loop-key
invariant-loop-key l = l.text ≡ l.initial.text ++ numbers_fields (take l.key-index l.key-items)
