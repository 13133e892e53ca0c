-- How a probe stops whose checkpoint can't be activated.
use Rattle.dkg_types.specs.declared.manager.TrackError.{TrackError}
use Rattle.dkg_types.specs.declared.manager.TrackError.TheVariants as track
use Rattle.dkg_probe.specs.declared.event.ProbeStop.{ProbeStop}
use Rattle.dkg_probe.specs.declared.event.ProbeStop.TheVariants.{PeerSet, NoMemory}

abbrev pub stop_for : TrackError → ProbeStop
stop_for (track.Missing peer) = PeerSet peer
stop_for track.NoMemory = NoMemory
