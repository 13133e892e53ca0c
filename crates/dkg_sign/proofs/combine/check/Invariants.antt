use Rattle.std.proofs.Common.{◌≡◌, length}
use Rattle.dkg_sign.specs.Materials.{scheme_participants}
use Rattle.dkg_sign.proofs.Signers.{IsChecked}
use Rattle.dkg_sign.proofs.combine.check.Given as goal

abbrev pub invariant-loop-partial : goal.invariant-loop-partial
invariant-loop-partial l = (l.index ≡ l.partial-index) × (length l.seen.items ≡ length (scheme_participants l.info)) × IsChecked l.info l.epoch l.hash l.partials l.seen.items l.partial-index
