use Rattle.std.proofs.Common.{◌≡◌, ℕ, List, ◌+◌, ◌*◌, arith, ap, ◌∙◌}
use Rattle.std.specs.Int.NonZero.{non_zero_u32_get}
use Rattle.dkg_infos.specs.InfoBounds.{info_bound, longer_bound}
use Rattle.dkg_infos.specs.InfoCodes.{InfoFits, info_spelling}
use Rattle.dkg_infos.proofs.info.EpochInfo.max_encode_size.Goals as goal

pub returns-clause-enough : goal.returns-clause-enough
returns-clause-enough g c = λ version.
    let most : ℕ = non_zero_u32_get c.args.max in
    let fits = λ (peers : List ℕ). g.Dir.Read.fits (g.Dir.Directory.config_of peers) in
    let bound = g.Dir.Directory.bound_of in
    let is : c.get-most.result ≡ most = c.get-most.ensures.value in
    let same : c.max_encode_size.result ≡ bound (3 * most) = c.max_encode_size.ensures.bound ∙ ap (λ (n : ℕ). bound (3 * n)) is in
    longer_bound (InfoFits fits g.Dir.Directory.matches_of most version) (info_spelling g.Dir.Spelled.spelling) (55 + 22 * most + bound (3 * most)) (55 + 22 * c.get-most.result + c.max_encode_size.result)
    (info_bound fits g.Dir.Spelled.spelling g.Dir.Directory.matches_of bound g.met.Dir.Directory.within g.met.Dir.Directory.rising most version) (omega (arith, same, is))
