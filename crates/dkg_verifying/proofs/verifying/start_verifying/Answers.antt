use Rattle.std.proofs.Common.{inl, inr, refl}
use Rattle.std.proofs.lemmas.Result.{err_from_is_err_and}
use Rattle.dkg_life.specs.LiveOf.{live_of}
use Rattle.dkg_verifying.proofs.Completing.{started, unstarted}
use Rattle.dkg_verifying.proofs.verifying.start_verifying.Goals as goal

pub returns-in_err-job-clause-speaks : goal.returns-in_err-job-clause-speaks
returns-in_err-job-clause-speaks g c = λ fixed beside fence mine bears checks seen.
    let p = err_from_is_err_and c.from_residual.result c.from_residual.ensures.1 in
    rw (p.1, p.2) (unstarted fixed c.args.round.now c.args.logs c.args.request beside fence c.args.life.now c.in_err-job.field-0.0
    (elim c.in_err-job.ensures.causes [ inl none ↦ inl none | inr a ↦ inr (a.0, a.1, a.2 fixed (live_of beside fence c.args.life.now) mine bears checks refl) ]) tt)

pub returns-clause-speaks : goal.returns-clause-speaks
returns-clause-speaks g c = λ fixed beside fence mine bears checks seen.
    started fixed c.args.round.now c.args.logs c.args.request beside fence c.args.life.now c.args.inclusion.now seen c.in_ok-job.job c.start.new.self c.start.ensures.running c.start.ensures.kept
    (c.in_ok-job.ensures.made fixed (live_of beside fence c.args.life.now) mine bears checks refl) (c.in_ok-job.ensures.passes fixed (live_of beside fence c.args.life.now) mine bears checks refl)
