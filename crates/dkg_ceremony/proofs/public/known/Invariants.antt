use Rattle.std.proofs.Common.{ℕ, ◌<◌, get_or}
use Rattle.dkg_ceremony.proofs.public.known.Given as goal

abbrev pub invariant-loop-element : goal.invariant-loop-element
invariant-loop-element l = (k : ℕ) → k < l.element-index → get_or l.elements k 0 < 65521
