-- What is read but for a plan, and openings without material.
use Rattle.std.specs.Prelude.{◌≡◌, None}
use Rattle.dkg_store.specs.Acts.{Held}
use Rattle.dkg_core.specs.Fixed.{Fixed}
use Rattle.dkg_core.specs.Seen.{Seen, seen_in}

-- what is read, but for the plan
abbrev pub seen_planless : Held → Seen
seen_planless h = record (seen_in h) { plan = None }

-- What an opening is given: no ceremony that is held once, and no material.
pub record IsBareOpening {Dir : Type 0} (c : Fixed Dir) : Type 0 where
  pub reshare : c.oneshot ≡ None
  pub bare : c.material ≡ None
