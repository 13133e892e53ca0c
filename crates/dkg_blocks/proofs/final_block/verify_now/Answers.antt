use Rattle.std.proofs.Common.{◌≡◌, inl, inr, None, Option, ap, refl, sym, subst, ◌∙◌, true, false, is_some}
use Rattle.std.specs.Prelude.{IsSome}
use Rattle.std.proofs.lemmas.Result.{err_from_is_err_and}
use Rattle.dkg_ceremony.specs.declared.round.RoundParts.{RoundParts as Round}
use Rattle.dkg_core.specs.Including as including
use Rattle.dkg_core.specs.Live as core
use Rattle.dkg_verifying.specs.Concluded.{verifies}
use Rattle.dkg_verifying.specs.InclusionOf.{IsSeen}
use Rattle.dkg_life.specs.LiveOf.{live_of}
use Rattle.dkg_blocks.proofs.Concluding.{checked_logs, found_as, found_live, some_and, unmade_speaks, verified_speaks}
use Rattle.dkg_life.proofs.Seated.{same_some}
use Rattle.dkg_life.proofs.Speaking.{want_speaks}
use Rattle.dkg_verifying.proofs.Telling.{ends_beside, ends_with}
use Rattle.dkg_blocks.proofs.final_block.verify_now.Goals as goal

none_some : (o : Option Round) → o ≡ None → IsSome o → ⊥
none_some o none some = absurd (let h : false ≡ true = sym (ap (λ (x : Option Round). is_some x) none) ∙ some in cc)

pub unreachable-requires : goal.unreachable-requires
unreachable-requires g c = none_some c.args.life.now.round c.in_default.is c.requires.round

pub verify-requires : goal.verify-requires
verify-requires g c = c.in_ok-job.ensures.runs

-- NO MEMORY

pub returns-in_err-copied-clause-speaks : goal.returns-in_err-copied-clause-speaks
returns-in_err-copied-clause-speaks g c = λ fixed round beside fence mine by middle has seen.
    let p = err_from_is_err_and c.from_residual.result c.from_residual.ensures.1 in
    rw (p.1, p.2) (ends_beside beside tt refl (λ out. want_speaks (verifies fixed round c.args.logs.now (live_of beside fence c.args.life.now)) out))

pub returns-in_err-verified-clause-speaks : goal.returns-in_err-verified-clause-speaks
returns-in_err-verified-clause-speaks g c = λ fixed round beside fence mine by middle has seen.
    let p = err_from_is_err_and c.from_residual-in_err-verified.result c.from_residual-in_err-verified.ensures.1 in
    rw (p.1, p.2) (ends_beside beside tt refl (λ out. want_speaks (verifies fixed round c.args.logs.now (live_of beside fence c.args.life.now)) out))

pub returns-in_err-retain-clause-speaks : goal.returns-in_err-retain-clause-speaks
returns-in_err-retain-clause-speaks g c = λ fixed round beside fence mine by middle has seen.
    let p = err_from_is_err_and c.from_residual-in_err-retain.result c.from_residual-in_err-retain.ensures.1 in
    rw (p.1, p.2) (ends_beside beside tt refl (λ out. want_speaks (verifies fixed round c.args.logs.now (live_of beside fence c.args.life.now)) out))

pub returns-in_err-retain-clause-rest : goal.returns-in_err-retain-clause-rest
returns-in_err-retain-clause-rest g c = c.retain.ensures.rest

-- NO JOB

pub returns-in_err-job-clause-speaks : goal.returns-in_err-job-clause-speaks
returns-in_err-job-clause-speaks g c = λ fixed round beside fence mine by middle has seen.
    let p = err_from_is_err_and c.from_residual-in_err-job.result c.from_residual-in_err-job.ensures.1 in
    let same : round ≡ c.in-Some.round = same_some round c.in-Some.round (sym has ∙ c.in-Some.is) in
    let st = live_of beside fence c.args.life.now in
    rw (p.1, p.2) (ends_beside beside tt refl (λ out. unmade_speaks fixed round c.args.logs.now st c.in_err-job.field-0.0
    (rw (same, sym c.in_ok-copied.ensures) (elim c.in_err-job.ensures.causes [ inl want ↦ inl want | inr is ↦ inr (is.0, is.1, is.2 fixed st mine by.bears by.dealing refl) ])) out))

pub returns-in_err-job-clause-causes : goal.returns-in_err-job-clause-causes
returns-in_err-job-clause-causes g c =
    let p = err_from_is_err_and c.from_residual-in_err-job.result c.from_residual-in_err-job.ensures.1 in
    rw (p.1, p.2) (elim c.in_err-job.ensures.causes [ inl want ↦ rw want tt | inr is ↦ rw is.1 tt ])

-- IT IS KEPT

pub returns-clause-rest : goal.returns-clause-rest
returns-clause-rest g c = c.retain.ensures.rest

pub returns-clause-idle : goal.returns-clause-idle
returns-clause-idle g c = c.in_ok-retain.ensures.free

pub returns-clause-ready : goal.returns-clause-ready
returns-clause-ready g c =
    let logs = checked_logs g.C.Ceremony.outcome_of g.C.Ceremony.finish_of c.in_ok-job.job c.in_ok-verified.verified c.args.logs.now c.in_ok-verified.ensures (c.in_ok-job.ensures.parts.1 ∙ c.in_ok-copied.ensures) in
    some_and c.retain.new.inclusion.verification.kept c.in_ok-verified.verified (λ r. r.logs ≡ c.args.logs.now) (c.in_ok-retain.ensures.keeps (logs ∙ c.requires.canonical)) logs

pub returns-clause-speaks : goal.returns-clause-speaks
returns-clause-speaks g c = λ fixed round beside fence mine by middle has seen.
    let same : round ≡ c.in-Some.round = same_some round c.in-Some.round (sym has ∙ c.in-Some.is) in
    let st = live_of beside fence c.args.life.now in
    let found = found_as fixed g.C.Ceremony.outcome_of g.C.Ceremony.finish_of by.outcome by.finish c.in_ok-job.job c.in_ok-verified.verified c.in_ok-verified.ensures (including.job_for fixed round c.args.logs.now st)
    (rw (same, sym c.in_ok-copied.ensures) (c.in_ok-job.ensures.made fixed st mine by.bears by.dealing refl)) in
    ends_with beside (found_live fixed round c.args.logs.now st).inclusion
    (subst (λ (r : core.VerifiedLogs). IsSeen c.retain.new.inclusion (including.retains fixed r st).inclusion) found (c.in_ok-retain.ensures.kept fixed beside fence middle seen)) refl
    (λ out. verified_speaks fixed round c.args.logs.now st (rw (same, sym c.in_ok-copied.ensures) (c.in_ok-job.ensures.passes fixed st mine by.bears by.dealing refl)) _ refl out)
