use Rattle.std.proofs.Common.{◌≡◌, ℕ, ◌<◌, ◌^◌, length, rules, arith}
use Rattle.dkg_types.specs.BlockCodes.{ContextFits, FlaggedFits}
use Rattle.dkg_types.specs.PayloadCodes.{PayloadFits}
use Rattle.dkg_types.specs.Within.{PayloadWithin, block_fits}
use Rattle.dkg_types.proofs.block.Parts.fits_limits.Goals as goal

pub returns : goal.returns
returns g c =
    let context : ContextFits c.self.inside.context = rw (← c.self-inside.view_is) c.fits_limits.ensures in
    let parent : length c.self.inside.parent ≡ 32 = rw (← c.self-inside.view_is) (omega (arith, c.size_of_digest-parent.ensures.size, c.size_of_digest-parent.ensures.bound)) in
    let height : c.self.inside.height < 2 ^ 64 = rw (← c.self-inside.view_is) (search rules) in
    let carried : (most version : ℕ) → FlaggedFits (PayloadWithin g.Dir.Directory.matches_of most version) c.self.inside.payload
    → FlaggedFits (PayloadFits (λ peers. g.Dir.Read.fits (g.Dir.Directory.config_of peers)) g.Dir.Directory.matches_of most version) c.self.inside.payload =
    rw (← c.self-inside.view_is) c.carried_fits.ensures in
    rw (← c.self.view_is) (λ most version within.
    block_fits _ _ (record { context = c.self.inside.context; parent = c.self.inside.parent; height = c.self.inside.height; payload = c.self.inside.payload; digest = c.self.inside.digest })
    context parent height (carried most version within) c.self.invariant)
