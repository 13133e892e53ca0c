use Rattle.std.proofs.Common.{◌≡◌, ap, sym, ◌∙◌, rules}
use Rattle.dkg_inclusion.proofs.Scans.{needs_is, open_by}
use Rattle.dkg_inclusion.proofs.Requesting.{read_by}
use Rattle.dkg_artifact.specs.declared.scan.Fed.TheVariants.{Need}
use Rattle.dkg_artifact.specs.declared.scan.Fed as declared
use Rattle.dkg_verifying.specs.Including.{fed_of}
use Rattle.dkg_inclusion.proofs.Scans.{closed_by}
use Rattle.std.specs.Int.NonZero.{non_zero_u64_get}
use Rattle.dkg_inclusion.proofs.scanning.read.Goals as goal
use Rattle.dkg_inclusion.proofs.scanning.read.Goals.{else-is_need-via-then-is_need+else-request, else-is_need-via-else-is_need}

pub returns-then-request-clause-read : goal.returns-then-request-clause-read
returns-then-request-clause-read g c = λ fixed beside fence blocks checks.
    let needs : c.in_ok-fed.fed ≡ Need = needs_is c.in_ok-fed.fed (sym c.is_need.ensures ∙ c.if-is_need.true) in
    let ended : c.args.request.now.ended ≡ c.request.inside.ended = search rules in
    read_by g.C.Ceremony.check_log_of (non_zero_u64_get c.args.terms.now.blocks_per_epoch) c.args.life.now c.requires.placed fixed blocks checks beside fence c.requires.includes c.args.round.now
    c.args.request.now.number c.args.request.now.blocks c.args.request.now.ended c.bounds_of-bounds.result c.bounds_of-bounds.ensures.are c.tip_above.result c.tip_above.ensures c.in_ok-scan.scan c.in_ok-scan.first
    c.in_ok-scan.ensures.scan c.in_ok-scan.ensures.answer c.in_ok-fed.fed _ c.in_ok-fed.ensures.fed
    ∙ (λ i. closed_by ((ended ∙ c.if-request.true) i) (needs i))
    ∙ ap (λ (x : declared.Fed). fed_of x) (sym c.end-short.ensures.answer)

pub returns-clause-read : goal.returns-clause-read
returns-clause-read g c = λ fixed beside fence blocks checks.
    read_by g.C.Ceremony.check_log_of (non_zero_u64_get c.args.terms.now.blocks_per_epoch) c.args.life.now c.requires.placed fixed blocks checks beside fence c.requires.includes c.args.round.now
    c.args.request.now.number c.args.request.now.blocks c.args.request.now.ended c.bounds_of-bounds.result c.bounds_of-bounds.ensures.are c.tip_above.result c.tip_above.ensures c.in_ok-scan.scan c.in_ok-scan.first
    c.in_ok-scan.ensures.scan c.in_ok-scan.ensures.answer c.in_ok-fed.fed _ c.in_ok-fed.ensures.fed
    ∙ elim c.else-is_need.branch [
      | else-is_need-via-then-is_need+else-request w ↦
          let ended : c.args.request.now.ended ≡ c.request.inside.ended = search rules in
          open_by c.args.request.now.ended c.in_ok-fed.fed (λ needs. ended ∙ w.if-request.false)
      | else-is_need-via-else-is_need w ↦ open_by c.args.request.now.ended c.in_ok-fed.fed (λ needs. absurd (let e = needs ∙ sym c.is_need.ensures ∙ w.if-is_need.false in cc))
    ]
