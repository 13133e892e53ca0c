-- Dealings that a player lacks.
use Rattle.std.specs.Prelude.{ℕ, Bool, not, ◌&&◌}
use Rattle.dkg_values.specs.Rising.{lookup}
use Rattle.dkg_ceremony.specs.declared.dealer_log.DealerLog.{DealerLog}
use Rattle.dkg_ceremony.specs.declared.round.RoundParts.{RoundParts as Round}
use Rattle.dkg_ceremony.specs.Finishes.{DealingMap, has_public}

-- whether a dealer's log bears the player's acknowledgement of a dealing that isn't among these
abbrev pub lacks : (bears_ack_of : Round → ℕ → DealerLog → ℕ → Bool) → Round → (me : ℕ) → DealingMap → (dealer : ℕ) → DealerLog → Bool
lacks bears_ack_of round me dealings dealer log = bears_ack_of round dealer log me && not (has_public log.public (lookup dealer dealings))
