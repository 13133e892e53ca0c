-- What was processed last, as the relation names it.
use Rattle.dkg_core.specs.Sources as sources
use Rattle.dkg_core.specs.Sources.{AtBlock}
use Rattle.dkg_setup.specs.declared.source.Processed as declared
use Rattle.dkg_setup.specs.declared.source.Processed.TheVariants as processed

abbrev pub processed_of : declared.Processed → sources.Processed
processed_of (processed.Block height) = AtBlock height
processed_of (processed.Absent height) = sources.Absent height
