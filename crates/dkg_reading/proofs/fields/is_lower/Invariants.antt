use Rattle.std.proofs.Common.{◌≡◌, false, take, true}
use Rattle.dkg_text.specs.Fields.{IsLower}
use Rattle.dkg_reading.proofs.fields.is_lower.Given as goal

abbrev pub invariant-loop-byte : goal.invariant-loop-byte
invariant-loop-byte l = (l.others ≡ false → IsLower (take l.byte-index l.text)) × (l.others ≡ true → IsLower l.text → ⊥)
