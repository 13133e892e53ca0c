use Rattle.std.proofs.Common.{◌≡◌, true, false, Option, None, is_some, ap, refl, ◌∙◌, rules}
use Rattle.std.proofs.lemmas.Result.{err_from_is_err_and}
use Rattle.std.specs.Prelude.{option_map}
use Rattle.dkg_artifact.specs.declared.job.Job.{Job}
use Rattle.dkg_core.specs.Including as including
use Rattle.dkg_core.specs.Live as core
use Rattle.dkg_verifying.specs.InclusionOf.{job_of, checked_result_of}
use Rattle.dkg_life.specs.LiveOf.{live_of}
use Rattle.dkg_inclusion.proofs.Asking.{MakesOver, TellsOver, joined_as, makes_joins, tells_joins, works_by}
use Rattle.dkg_life.proofs.Blamed.{blamed_behind}
use Rattle.dkg_life.proofs.Burning.{makes_nothing}
use Rattle.dkg_life.proofs.Committing.{goes_told}
use Rattle.dkg_life.proofs.Kept.{moved_none, moved_then}
use Rattle.dkg_inclusion.proofs.Staying.{includes_on}
use Rattle.dkg_verifying.proofs.Telling.{ends_beside}
use Rattle.dkg_verifying.proofs.Within.{within_as, within_then}
use Rattle.dkg_verifying.proofs.Looking.{looked, looked_then}
use Rattle.dkg_inclusion.proofs.requests.work.Goals as goal

-- NONE RUNS

pub returns-then-is_none-clause-acts : goal.returns-then-is_none-clause-acts
returns-then-is_none-clause-acts g c = λ disk secrets provider fixed beside fence of reads by includes seen.
    let none : c.args.inclusion.now.verification.running ≡ None = search rules in
    ends_beside beside seen refl (joined_as (MakesOver g.D.Disk.files g.D.Disk.image g.X.SecretStore.held) {x = (c.args.devices.now, c.args.out.now.entries)} {y = (c.args.devices.now, c.args.out.now.entries)} (works_by fixed (option_map checked_result_of c.args.done) (live_of beside fence c.args.life.now) false (ap (λ (j : Option core.Job). is_some j) seen.running ∙ ap (λ (j : Option Job). is_some (option_map job_of j)) none)) (makes_nothing (g.D.Disk.files c.args.devices.now.disk.now) (g.D.Disk.image c.args.devices.now.disk.now) _ refl))

pub returns-then-is_none-clause-tells : goal.returns-then-is_none-clause-tells
returns-then-is_none-clause-tells g c = λ provider fixed beside fence of reads by includes seen.
    let none : c.args.inclusion.now.verification.running ≡ None = search rules in
    ends_beside beside seen refl (joined_as TellsOver {x = c.args.out.now.entries} {y = c.args.out.now.entries} (works_by fixed (option_map checked_result_of c.args.done) (live_of beside fence c.args.life.now) false (ap (λ (j : Option core.Job). is_some j) seen.running ∙ ap (λ (j : Option Job). is_some (option_map job_of j)) none)) (goes_told g.row.Dir.Denot (live_of beside fence c.args.life.now) c.args.out.now.entries))

pub returns-then-is_none-clause-moved : goal.returns-then-is_none-clause-moved
returns-then-is_none-clause-moved g c = moved_none g.D.Disk.tells g.D.Disk.made g.X.SecretStore.made g.D.Disk.faults g.X.SecretStore.faults g.met.D.Disk.made_none g.met.X.SecretStore.made_none c.args.devices.now

pub returns-then-is_none-clause-including : goal.returns-then-is_none-clause-including
returns-then-is_none-clause-including g c = c.requires.including

-- ONE ENDS, and others are read

pub returns-clause-acts : goal.returns-clause-acts
returns-clause-acts g c = λ disk secrets provider fixed beside fence of reads by includes seen.
    let some : is_some (option_map job_of c.args.inclusion.now.verification.running) ≡ true = search rules in
    within_then beside (c.in_ok-end_verifying.ensures.acts disk secrets provider fixed beside fence of reads by includes seen)
    (λ now is made. within_as (λ i was. was) (λ later was next. joined_as (MakesOver g.D.Disk.files g.D.Disk.image g.X.SecretStore.held) {x = (c.args.devices.now, c.args.out.now.entries)} {y = (c.advance.new.devices, c.advance.new.out.entries)} (works_by fixed (option_map checked_result_of c.args.done) (live_of beside fence c.args.life.now) true (ap (λ (j : Option core.Job). is_some j) seen.running ∙ some))
    ((makes_joins g.D.Disk.files g.D.Disk.image g.X.SecretStore.held).next (including.ends_verifying fixed (option_map checked_result_of c.args.done) (live_of beside fence c.args.life.now)) (λ s. including.advanced fixed s) (live_of now fence c.end_verifying.new.life) _ (c.args.devices.now, c.args.out.now.entries) (c.end_verifying.new.devices, c.end_verifying.new.out.entries) (c.advance.new.devices, c.advance.new.out.entries) made next))
    (c.advance.ensures.acts disk secrets provider fixed now fence of reads by (includes_on fixed (c.end_verifying.ensures.stays.provider provider) includes) is))

pub returns-clause-tells : goal.returns-clause-tells
returns-clause-tells g c = λ provider fixed beside fence of reads by includes seen.
    let some : is_some (option_map job_of c.args.inclusion.now.verification.running) ≡ true = search rules in
    within_then beside (c.in_ok-end_verifying.ensures.tells provider fixed beside fence of reads by includes seen)
    (λ now is made. within_as (λ i was. was) (λ later was next. joined_as TellsOver {x = c.args.out.now.entries} {y = c.advance.new.out.entries} (works_by fixed (option_map checked_result_of c.args.done) (live_of beside fence c.args.life.now) true (ap (λ (j : Option core.Job). is_some j) seen.running ∙ some))
    (tells_joins.next (including.ends_verifying fixed (option_map checked_result_of c.args.done) (live_of beside fence c.args.life.now)) (λ s. including.advanced fixed s) (live_of now fence c.end_verifying.new.life) _ c.args.out.now.entries c.end_verifying.new.out.entries c.advance.new.out.entries made next))
    (c.advance.ensures.tells provider fixed now fence of reads by (includes_on fixed (c.end_verifying.ensures.stays.provider provider) includes) is))

pub returns-clause-moved : goal.returns-clause-moved
returns-clause-moved g c = moved_then g.D.Disk.tells g.D.Disk.made g.X.SecretStore.made g.D.Disk.faults g.X.SecretStore.faults g.met.D.Disk.made_more g.met.X.SecretStore.made_more _ _ _ c.end_verifying.ensures.moved c.advance.ensures.moved

pub returns-clause-causes : goal.returns-clause-causes
returns-clause-causes g c = blamed_behind g.D.Disk.tells g.D.Disk.made g.X.SecretStore.made g.D.Disk.faults g.X.SecretStore.faults _ _ _ c.end_verifying.ensures.moved c.advance.ensures.moved c.advance.result c.advance.ensures.causes

pub returns-clause-ready : goal.returns-clause-ready
returns-clause-ready g c = c.advance.ensures.ready

pub returns-clause-including : goal.returns-clause-including
returns-clause-including g c = c.advance.ensures.including

pub returns-clause-stays : goal.returns-clause-stays
returns-clause-stays g c = looked_then c.end_verifying.ensures.stays c.advance.ensures.stays

pub end_verifying-requires-clause-ready : goal.end_verifying-requires-clause-ready
end_verifying-requires-clause-ready g c = c.requires.ready

pub end_verifying-requires-clause-including : goal.end_verifying-requires-clause-including
end_verifying-requires-clause-including g c = c.requires.including.ready

pub advance-requires-clause-ready : goal.advance-requires-clause-ready
advance-requires-clause-ready g c = c.in_ok-end_verifying.ensures.ready

pub advance-requires-clause-including : goal.advance-requires-clause-including
advance-requires-clause-including g c = c.in_ok-end_verifying.ensures.including

-- IT STOPPED

pub returns-in_err-end_verifying-clause-acts : goal.returns-in_err-end_verifying-clause-acts
returns-in_err-end_verifying-clause-acts g c = λ disk secrets provider fixed beside fence of reads by includes seen.
    let p = err_from_is_err_and c.from_residual.result c.from_residual.ensures.1 in
    let some : is_some (option_map job_of c.args.inclusion.now.verification.running) ≡ true = search rules in
    rw (p.1, p.2) (within_as (λ i was. was) (λ now was made. joined_as (MakesOver g.D.Disk.files g.D.Disk.image g.X.SecretStore.held) {x = (c.args.devices.now, c.args.out.now.entries)} {y = (c.end_verifying.new.devices, c.end_verifying.new.out.entries)} (works_by fixed (option_map checked_result_of c.args.done) (live_of beside fence c.args.life.now) true (ap (λ (j : Option core.Job). is_some j) seen.running ∙ some))
    ((makes_joins g.D.Disk.files g.D.Disk.image g.X.SecretStore.held).early (including.ends_verifying fixed (option_map checked_result_of c.args.done) (live_of beside fence c.args.life.now)) (λ s. including.advanced fixed s) c.in_err-end_verifying.field-0.0 (c.args.devices.now, c.args.out.now.entries) (c.end_verifying.new.devices, c.end_verifying.new.out.entries) made))
    (c.in_err-end_verifying.ensures.acts disk secrets provider fixed beside fence of reads by includes seen))

pub returns-in_err-end_verifying-clause-tells : goal.returns-in_err-end_verifying-clause-tells
returns-in_err-end_verifying-clause-tells g c = λ provider fixed beside fence of reads by includes seen.
    let p = err_from_is_err_and c.from_residual.result c.from_residual.ensures.1 in
    let some : is_some (option_map job_of c.args.inclusion.now.verification.running) ≡ true = search rules in
    rw (p.1, p.2) (within_as (λ i was. was) (λ now was made. joined_as TellsOver {x = c.args.out.now.entries} {y = c.end_verifying.new.out.entries} (works_by fixed (option_map checked_result_of c.args.done) (live_of beside fence c.args.life.now) true (ap (λ (j : Option core.Job). is_some j) seen.running ∙ some))
    (tells_joins.early (including.ends_verifying fixed (option_map checked_result_of c.args.done) (live_of beside fence c.args.life.now)) (λ s. including.advanced fixed s) c.in_err-end_verifying.field-0.0 c.args.out.now.entries c.end_verifying.new.out.entries made))
    (c.in_err-end_verifying.ensures.tells provider fixed beside fence of reads by includes seen))

pub returns-in_err-end_verifying-clause-ready : goal.returns-in_err-end_verifying-clause-ready
returns-in_err-end_verifying-clause-ready g c =
    let p = err_from_is_err_and c.from_residual.result c.from_residual.ensures.1 in
    rw p.1 tt

pub returns-in_err-end_verifying-clause-including : goal.returns-in_err-end_verifying-clause-including
returns-in_err-end_verifying-clause-including g c =
    let p = err_from_is_err_and c.from_residual.result c.from_residual.ensures.1 in
    rw p.1 tt

pub returns-in_err-end_verifying-clause-stays : goal.returns-in_err-end_verifying-clause-stays
returns-in_err-end_verifying-clause-stays g c = c.end_verifying.ensures.stays

pub returns-in_err-end_verifying-clause-moved : goal.returns-in_err-end_verifying-clause-moved
returns-in_err-end_verifying-clause-moved g c = c.end_verifying.ensures.moved

pub returns-in_err-end_verifying-clause-causes : goal.returns-in_err-end_verifying-clause-causes
returns-in_err-end_verifying-clause-causes g c =
    let p = err_from_is_err_and c.from_residual.result c.from_residual.ensures.1 in
    rw (p.1, p.2) c.in_err-end_verifying.ensures.causes

-- NOTHING IS DONE

pub returns-then-is_none-clause-ready : goal.returns-then-is_none-clause-ready
returns-then-is_none-clause-ready g c = c.requires.ready

pub returns-then-is_none-clause-stays : goal.returns-then-is_none-clause-stays
returns-then-is_none-clause-stays g c = looked

pub returns-then-is_none-clause-causes : goal.returns-then-is_none-clause-causes
returns-then-is_none-clause-causes g c = tt
