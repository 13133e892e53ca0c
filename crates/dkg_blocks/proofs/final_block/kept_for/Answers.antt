use Rattle.std.proofs.Common.{◌≡◌, Some, ap, is_some, sym, ◌∙◌, true, false}
use Rattle.std.specs.Option.{option_copied}
use Rattle.dkg_verifying.specs.InclusionOf.{artifact_of}
use Rattle.dkg_verifying.proofs.Keeping.{cached_none, cached_some}
use Rattle.dkg_blocks.proofs.final_block.kept_for.Goals as goal

pub returns-in-None : goal.returns-in-None
returns-in-None g c = cached_none c.args.logs.now c.args.cache.now (λ kept. absurd (let h : false ≡ true = sym (ap (λ o. is_some o) c.in-None.is) ∙ c.get.ensures.exactly.1 kept in cc))

pub returns-in_ok-copy-in-Some : goal.returns-in_ok-copy-in-Some
returns-in_ok-copy-in-Some g c =
    let some = ap (λ o. is_some o) c.in-Some.is in
    ap (λ a. Some (artifact_of a)) c.in_ok-copy-in-Some.ensures
    ∙ cached_some c.args.logs.now c.args.cache.now (c.get.ensures.exactly.0 some) c.in-Some.artifact.now (sym (ap option_copied c.in-Some.is) ∙ c.get.ensures.kept some)
