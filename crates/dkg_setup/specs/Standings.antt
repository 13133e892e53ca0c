-- Whether a setup's info was committed before: as the code says it, and as the relation does.
use Rattle.dkg_core.specs.Setup as setup
use Rattle.dkg_setup.specs.declared.setup.Standing as declared
use Rattle.dkg_setup.specs.declared.setup.Standing.TheVariants as standing

abbrev pub standing_of : declared.Standing → setup.Standing
standing_of standing.Uncommitted = setup.Uncommitted
standing_of standing.WasCommitted = setup.WasCommitted
