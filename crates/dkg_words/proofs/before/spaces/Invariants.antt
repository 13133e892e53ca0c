use Rattle.std.proofs.Common.{◌≡◌, drop}
use Rattle.dkg_words.specs.Before.{spaces_from}
use Rattle.dkg_words.proofs.before.spaces.Given as goal

abbrev pub invariant-loop-byte : goal.invariant-loop-byte
invariant-loop-byte l = spaces_from 0 l.line ≡ spaces_from l.count (drop l.byte-index l.line)
