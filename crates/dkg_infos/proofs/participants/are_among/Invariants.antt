use Rattle.std.proofs.Common.{◌≡◌, drop}
use Rattle.dkg_infos.specs.Validation.{are_among}
use Rattle.dkg_infos.proofs.participants.are_among.Given as goal

abbrev pub invariant-loop-key : goal.invariant-loop-key
invariant-loop-key l = are_among (drop l.key-index l.key-items) l.keys ≡ are_among l.some l.keys
