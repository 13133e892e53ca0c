use Rattle.std.proofs.Common.{refl, sym, ◌∙◌, ap}
use Rattle.std.specs.Option.{option_copied}
use Rattle.std.specs.Prelude.{option_map}
use Rattle.std.proofs.lemmas.Result.{err_from_is_err_and}
use Rattle.dkg_infos.specs.declared.fault.Fault.TheVariants.{NoMemory}
use Rattle.dkg_core.specs.Including as including
use Rattle.dkg_life.specs.declared.stop.Stop.TheVariants.{Fault as Faulted}
use Rattle.dkg_life.specs.Ends.{by_stop}
use Rattle.dkg_verifying.specs.InclusionOf.{job_of, checked_result_of}
use Rattle.dkg_life.specs.LiveOf.{live_of}
use Rattle.dkg_life.proofs.Burning.{speaks_makes}
use Rattle.dkg_life.proofs.Committing.{same_made, same_told}
use Rattle.dkg_verifying.proofs.Completing.{one_ends}
use Rattle.dkg_life.proofs.Kept.{moved_none}
use Rattle.dkg_life.proofs.Said.{speaks_tells}
use Rattle.dkg_life.proofs.Speaking.{wants_speaks}
use Rattle.dkg_verifying.proofs.Telling.{ends_beside}
use Rattle.dkg_verifying.proofs.Verified.{result_is}
use Rattle.dkg_verifying.proofs.Within.{within_as}
use Rattle.dkg_verifying.proofs.Looking.{looked}
use Rattle.dkg_verifying.proofs.verifying.end_verifying.Goals as goal

pub returns-in_default-clause-moved : goal.returns-in_default-clause-moved
returns-in_default-clause-moved g c =
    moved_none g.D.Disk.tells g.D.Disk.made g.X.SecretStore.made g.D.Disk.faults g.X.SecretStore.faults g.met.D.Disk.made_none g.met.X.SecretStore.made_none c.args.devices.now

pub returns-in_default-clause-stays : goal.returns-in_default-clause-stays
returns-in_default-clause-stays g c = looked

pub returns-in_err-verified-clause-moved : goal.returns-in_err-verified-clause-moved
returns-in_err-verified-clause-moved g c =
    moved_none g.D.Disk.tells g.D.Disk.made g.X.SecretStore.made g.D.Disk.faults g.X.SecretStore.faults g.met.D.Disk.made_none g.met.X.SecretStore.made_none c.args.devices.now

pub returns-in_err-verified-clause-acts : goal.returns-in_err-verified-clause-acts
returns-in_err-verified-clause-acts g c = λ disk secrets provided fixed beside fence of reads by provides seen.
    let p = err_from_is_err_and c.from_residual.result c.from_residual.ensures.1 in
    let course = including.ends_verifying fixed (option_map checked_result_of c.args.done) (live_of beside fence c.args.life.now) in
    rw (p.1, p.2) (ends_beside beside tt refl (speaks_makes course (by_stop (Faulted NoMemory)) _ _ (wants_speaks course (Faulted NoMemory) refl _ _ refl)))

pub returns-in_err-verified-clause-tells : goal.returns-in_err-verified-clause-tells
returns-in_err-verified-clause-tells g c = λ provided fixed beside fence of reads by provides seen.
    let p = err_from_is_err_and c.from_residual.result c.from_residual.ensures.1 in
    let course = including.ends_verifying fixed (option_map checked_result_of c.args.done) (live_of beside fence c.args.life.now) in
    rw (p.1, p.2) (ends_beside beside tt refl (speaks_tells course (by_stop (Faulted NoMemory)) (wants_speaks course (Faulted NoMemory) refl _ _ refl)))

pub returns-in_err-verified-clause-stays : goal.returns-in_err-verified-clause-stays
returns-in_err-verified-clause-stays g c = looked

pub returns-clause-acts : goal.returns-clause-acts
returns-clause-acts g c = λ disk secrets provided fixed beside fence of reads by provides seen.
    let its = sym c.running.ensures ∙ ap option_copied c.in-Some.is in
    let course = one_ends fixed (option_map checked_result_of c.args.done) beside fence c.args.life.now (job_of c.in-Some.job.now) (checked_result_of c.in_ok-verified.verified) (seen.running ∙ ap (option_map job_of) its)
    (result_is fixed g.C.Ceremony.outcome_of g.C.Ceremony.finish_of provides.outcome provides.finish c.in-Some.job.now c.args.done c.in_ok-verified.verified c.in_ok-verified.ensures.handed
    c.in_ok-verified.ensures.own) in
    within_as (λ i is. is) (λ now is made. same_made course made) (c.complete.ensures.acts disk secrets provided fixed beside fence of reads by provides seen)

pub returns-clause-tells : goal.returns-clause-tells
returns-clause-tells g c = λ provided fixed beside fence of reads by provides seen.
    let its = sym c.running.ensures ∙ ap option_copied c.in-Some.is in
    let course = one_ends fixed (option_map checked_result_of c.args.done) beside fence c.args.life.now (job_of c.in-Some.job.now) (checked_result_of c.in_ok-verified.verified) (seen.running ∙ ap (option_map job_of) its)
    (result_is fixed g.C.Ceremony.outcome_of g.C.Ceremony.finish_of provides.outcome provides.finish c.in-Some.job.now c.args.done c.in_ok-verified.verified c.in_ok-verified.ensures.handed
    c.in_ok-verified.ensures.own) in
    within_as (λ i is. is) (λ now is told. same_told course told) (c.complete.ensures.tells provided fixed beside fence of reads by provides seen)

pub returns-clause-stays : goal.returns-clause-stays
returns-clause-stays g c = c.complete.ensures.stays
