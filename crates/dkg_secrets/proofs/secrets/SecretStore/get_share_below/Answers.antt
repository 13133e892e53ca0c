use Rattle.std.proofs.Common.{◌-◌, ◌∙◌, [], None, Some, ap, arith, refl, sym}
use Rattle.std.proofs.lemmas.Result.{err_from_is_err_and}
use Rattle.std.specs.FinMap.{get}
use Rattle.dkg_secrets.specs.Secrets.{Secrets}
use Rattle.dkg_secrets.proofs.Asked.{cause_behind, cause_found, want_behind, want_found}
use Rattle.dkg_secrets.proofs.Newest.{newest_is, newest_none, none_from}
use Rattle.dkg_secrets.proofs.secrets.SecretStore.get_share_below.Goals as goal

pub loop-below-init : goal.loop-below-init
loop-below-init g c = record { same = refl; faults = omega arith; wants = omega arith; calls = g.met.Self.SecretStore.made_none c.args.self.now; none = λ told k low high. absurd (omega (arith, low, high)) }

pub loop-below-preserved : goal.loop-below-preserved
loop-below-preserved g c = record {
  same = c.get_share.ensures.same ∙ c.loop-below.invariant.same;
  faults = omega (arith, c.loop-below.invariant.faults, c.get_share.ensures.cause.later);
  wants = omega (arith, c.loop-below.invariant.wants, c.get_share.ensures.want.later);
  calls = g.met.Self.SecretStore.made_more _ _ _ [] [] c.loop-below.invariant.calls c.get_share.ensures.calls;
  none = λ told. none_from (g.Self.SecretStore.held c.args.self.now).shares c.loop-below.below c.args.epoch (omega arith) (c.loop-below.invariant.none told)
      (ap (λ (s : Secrets). get s.shares (c.loop-below.below - 1)) (sym c.loop-below.invariant.same) ∙ sym (c.in_ok-share.ensures.share told) ∙ c.in_default.is);
}

pub returns-in_err-share-clause-same : goal.returns-in_err-share-clause-same
returns-in_err-share-clause-same g c = c.get_share.ensures.same ∙ c.loop-below.invariant.same

pub returns-in_err-share-clause-cause : goal.returns-in_err-share-clause-cause
returns-in_err-share-clause-cause g c =
    let p = err_from_is_err_and c.from_residual.result c.from_residual.ensures.1 in
    rw (p.1, p.2) (cause_behind _ _ _ c.loop-below.invariant.faults c.in_err-share.field-0.0 c.in_err-share.ensures.cause)

pub returns-in_err-share-clause-want : goal.returns-in_err-share-clause-want
returns-in_err-share-clause-want g c =
    let p = err_from_is_err_and c.from_residual.result c.from_residual.ensures.1 in
    rw (p.1, p.2) (want_behind _ _ _ c.loop-below.invariant.wants c.in_err-share.field-0.0 c.in_err-share.ensures.want)

pub returns-in_err-share-clause-calls : goal.returns-in_err-share-clause-calls
returns-in_err-share-clause-calls g c = g.met.Self.SecretStore.made_more _ _ _ [] [] c.loop-below.invariant.calls c.get_share.ensures.calls

pub returns-in-Some-clause-share : goal.returns-in-Some-clause-share
returns-in-Some-clause-share g c = λ told.
    sym (newest_is (g.Self.SecretStore.held c.args.self.now).shares c.args.epoch (c.loop-below.below - 1) c.in-Some.share (omega arith)
    (ap (λ (s : Secrets). get s.shares (c.loop-below.below - 1)) (sym c.loop-below.invariant.same) ∙ sym (c.in_ok-share.ensures.share told) ∙ c.in-Some.is)
    (λ j above below. c.loop-below.invariant.none told j (omega arith) below))

pub returns-in-Some-clause-same : goal.returns-in-Some-clause-same
returns-in-Some-clause-same g c = c.get_share.ensures.same ∙ c.loop-below.invariant.same

pub returns-in-Some-clause-cause : goal.returns-in-Some-clause-cause
returns-in-Some-clause-cause g c = cause_found _ _ (Some c.in-Some.share) (omega (arith, c.loop-below.invariant.faults, c.get_share.ensures.cause.later))

pub returns-in-Some-clause-want : goal.returns-in-Some-clause-want
returns-in-Some-clause-want g c = want_found _ _ (Some c.in-Some.share) (omega (arith, c.loop-below.invariant.wants, c.get_share.ensures.want.later))

pub returns-in-Some-clause-calls : goal.returns-in-Some-clause-calls
returns-in-Some-clause-calls g c = g.met.Self.SecretStore.made_more _ _ _ [] [] c.loop-below.invariant.calls c.get_share.ensures.calls

pub returns-clause-share : goal.returns-clause-share
returns-clause-share g c = λ told.
    sym (newest_none (g.Self.SecretStore.held c.args.self.now).shares c.args.epoch (λ j below. c.loop-below.invariant.none told j (omega arith) below))

pub returns-clause-same : goal.returns-clause-same
returns-clause-same g c = c.loop-below.invariant.same

pub returns-clause-cause : goal.returns-clause-cause
returns-clause-cause g c = cause_found _ _ None c.loop-below.invariant.faults

pub returns-clause-want : goal.returns-clause-want
returns-clause-want g c = want_found _ _ None c.loop-below.invariant.wants

pub returns-clause-calls : goal.returns-clause-calls
returns-clause-calls g c = c.loop-below.invariant.calls
