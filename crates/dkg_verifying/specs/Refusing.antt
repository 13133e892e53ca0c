-- What a verification is begun with.
use Rattle.std.specs.Prelude.{ℕ, Option, None, if◌then◌else◌}
use Rattle.dkg_ceremony.specs.declared.round.RoundParts.{RoundParts as Round}
use Rattle.dkg_ceremony.specs.Outcomes.{LogMap}
use Rattle.dkg_core.specs.Fixed.{Fixed}
use Rattle.dkg_core.specs.Including.{can_finish}
use Rattle.dkg_core.specs.Live.{Live}
use Rattle.dkg_core.specs.Setup.{refused_in}

-- the first dealer whose recorded dealing the check refuses, where this node would be a player
abbrev pub refusal_for : {Dir : Type 0} → Fixed Dir → Round → LogMap → Live Dir → Option ℕ
refusal_for c round logs st = if can_finish c round logs st then refused_in c round st else None
