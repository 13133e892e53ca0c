use Rattle.std.proofs.Common.{◌≡◌, drop, true}
use Rattle.dkg_words.specs.Notes.{loose}
use Rattle.dkg_words.proofs.notes.has_loose_space.Given as goal

abbrev pub invariant-loop-byte : goal.invariant-loop-byte
invariant-loop-byte l = loose true l.line ≡ loose l.was (drop l.byte-index l.line)
