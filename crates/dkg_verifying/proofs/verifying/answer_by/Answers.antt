use Rattle.std.proofs.Common.{refl, sym, ◌∙◌, ap, is_some}
use Rattle.std.specs.Option.{option_copied}
use Rattle.std.proofs.lemmas.Result.{err_from_is_err_and}
use Rattle.dkg_verifying.specs.Including.{caching}
use Rattle.dkg_verifying.specs.InclusionOf.{checked_result_of}
use Rattle.dkg_verifying.proofs.Completing.{answered_makes, answered_told, kept_here, unkept_makes, unkept_told}
use Rattle.dkg_verifying.proofs.verifying.answer_by.Goals as goal

pub returns-in_err-keep_artifact-clause-acts : goal.returns-in_err-keep_artifact-clause-acts
returns-in_err-keep_artifact-clause-acts g c = λ disk secrets provided fixed st of reads by current cached.
    let p = err_from_is_err_and c.from_residual.result c.from_residual.ensures.1 in
    rw (p.1, p.2) (unkept_makes fixed of.reshare (checked_result_of c.args.verified.now) c.args.request st g.D.Disk.files g.D.Disk.image g.X.SecretStore.held c.args.devices.now c.keep_artifact.new.devices
    c.in_err-keep_artifact.field-0.0 c.args.out.now.entries c.args.out.now.entries (c.in_err-keep_artifact.ensures.acts disk secrets provided fixed st of reads by current cached c.args.out.now.entries))

pub returns-in_err-keep_artifact-clause-tells : goal.returns-in_err-keep_artifact-clause-tells
returns-in_err-keep_artifact-clause-tells g c = λ provided fixed st of reads by current cached.
    let p = err_from_is_err_and c.from_residual.result c.from_residual.ensures.1 in
    rw (p.1, p.2) (unkept_told fixed of.reshare (checked_result_of c.args.verified.now) c.args.request st c.in_err-keep_artifact.field-0.0
    (c.in_err-keep_artifact.ensures.tells provided fixed st of reads by current cached c.args.out.now.entries))

pub returns-clause-acts : goal.returns-clause-acts
returns-clause-acts g c = λ disk secrets provided fixed st of reads by current cached.
    let its = kept_here c.keep_artifact.new.cache c.args.verified.now.logs c.in-Some.artifact.now c.in_ok-keep_artifact.ensures.kept
    (sym (ap option_copied c.in-Some.is) ∙ c.get.ensures.kept (ap is_some c.in-Some.is)) in
    answered_makes fixed of.reshare (checked_result_of c.args.verified.now) c.args.request st c.keep_artifact.new.cache (c.args.verified.now.logs, c.in-Some.artifact.now) its refl
    g.D.Disk.files g.D.Disk.image g.X.SecretStore.held c.args.devices.now c.keep_artifact.new.devices c.answer.result c.args.out.now.entries c.args.out.now.entries c.answer.new.out.entries
    (c.in_ok-keep_artifact.ensures.acts disk secrets provided fixed st of reads by current cached c.args.out.now.entries)
    (c.answer.ensures.speaks fixed (caching c.keep_artifact.new.cache st) by.spelling_is)

pub returns-clause-tells : goal.returns-clause-tells
returns-clause-tells g c = λ provided fixed st of reads by current cached.
    let its = kept_here c.keep_artifact.new.cache c.args.verified.now.logs c.in-Some.artifact.now c.in_ok-keep_artifact.ensures.kept
    (sym (ap option_copied c.in-Some.is) ∙ c.get.ensures.kept (ap is_some c.in-Some.is)) in
    answered_told fixed of.reshare (checked_result_of c.args.verified.now) c.args.request st c.keep_artifact.new.cache (c.args.verified.now.logs, c.in-Some.artifact.now) its refl
    c.answer.result c.args.out.now.entries c.args.out.now.entries c.answer.new.out.entries
    (c.in_ok-keep_artifact.ensures.tells provided fixed st of reads by current cached c.args.out.now.entries)
    (c.answer.ensures.speaks fixed (caching c.keep_artifact.new.cache st) by.spelling_is)
