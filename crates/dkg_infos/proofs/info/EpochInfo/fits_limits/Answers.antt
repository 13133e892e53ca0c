use Rattle.std.proofs.Common.{rules}
use Rattle.dkg_infos.specs.InfoLimits.{info_fits}
use Rattle.dkg_infos.proofs.info.EpochInfo.fits_limits.Goals as goal

pub returns : goal.returns
returns g c = rw (← c.self.view_is) (λ most version within.
    info_fits (λ peers. g.Dir.Read.fits (g.Dir.Directory.config_of peers)) g.Dir.Directory.matches_of most version _ (search rules)
    (c.fits_limits.ensures most version within.output.mode within.output.dealers within.output.players)
    (c.fits_limits-2.ensures most within.players)
    (c.fits_limits-3.ensures most within.next_players)
    (c.fits_peers.ensures _ within.peers)
    within.peers)
