use Rattle.std.proofs.Common.{refl}
use Rattle.std.specs.Prelude.{option_map}
use Rattle.std.proofs.lemmas.Result.{err_from_is_err_and}
use Rattle.dkg_infos.specs.declared.fault.Fault.TheVariants.{NoMemory}
use Rattle.dkg_life.specs.Ends.{by_stop}
use Rattle.dkg_verifying.specs.Including.{derives_by}
use Rattle.dkg_verifying.specs.InclusionOf.{artifact_of}
use Rattle.dkg_life.specs.LiveOf.{live_of}
use Rattle.dkg_life.specs.declared.stop.Stop.TheVariants.{Fault as Faulted}
use Rattle.dkg_setup.proofs.OpeningCourses.{makes_as, tells_as}
use Rattle.dkg_blocks.proofs.Concluding.{by_before, by_cache, by_neither, goes_makes, goes_tells, wants_makes}
use Rattle.dkg_life.proofs.Kept.{moved_none}
use Rattle.dkg_life.proofs.Said.{speaks_tells}
use Rattle.dkg_life.proofs.Speaking.{wants_speaks}
use Rattle.dkg_verifying.proofs.Telling.{ends_beside}
use Rattle.dkg_verifying.proofs.Within.{within_as}
use Rattle.dkg_verifying.proofs.Looking.{looked}
use Rattle.dkg_blocks.proofs.final_block.artifact_by.Goals as goal

-- IT WAS CACHED BEFORE

pub returns-in-Some-clause-acts : goal.returns-in-Some-clause-acts
returns-in-Some-clause-acts g c = λ disk secrets provided fixed round beside fence out of reads by provides has seen.
    let st = live_of beside fence c.args.life.now in
    ends_beside beside seen refl (goes_makes (derives_by fixed round c.args.logs.now (option_map artifact_of c.args.before) st) (artifact_of c.in-Some.artifact, st) (by_before fixed round c.args.logs.now st c.args.before c.in-Some.artifact c.in-Some.is) _ _ _)

pub returns-in-Some-clause-tells : goal.returns-in-Some-clause-tells
returns-in-Some-clause-tells g c = λ provided fixed round beside fence out of reads by provides has seen.
    let st = live_of beside fence c.args.life.now in
    ends_beside beside seen refl (goes_tells (derives_by fixed round c.args.logs.now (option_map artifact_of c.args.before) st) (artifact_of c.in-Some.artifact, st) (by_before fixed round c.args.logs.now st c.args.before c.in-Some.artifact c.in-Some.is) out)

pub returns-in-Some-clause-moved : goal.returns-in-Some-clause-moved
returns-in-Some-clause-moved g c = moved_none g.D.Disk.tells g.D.Disk.made g.X.SecretStore.made g.D.Disk.faults g.X.SecretStore.faults g.met.D.Disk.made_none g.met.X.SecretStore.made_none c.args.devices.now

pub returns-in-Some-clause-stays : goal.returns-in-Some-clause-stays
returns-in-Some-clause-stays g c = looked

pub returns-in-Some-clause-idle : goal.returns-in-Some-clause-idle
returns-in-Some-clause-idle g c = c.requires.idle

-- NO COPY

pub returns-in_err-kept-clause-acts : goal.returns-in_err-kept-clause-acts
returns-in_err-kept-clause-acts g c = λ disk secrets provided fixed round beside fence out of reads by provides has seen.
    let p = err_from_is_err_and c.from_residual.result c.from_residual.ensures.1 in
    rw (p.1, p.2) (ends_beside beside tt refl (wants_makes (derives_by fixed round c.args.logs.now (option_map artifact_of c.args.before) (live_of beside fence c.args.life.now)) (Faulted NoMemory) refl _ _ _))

pub returns-in_err-kept-clause-tells : goal.returns-in_err-kept-clause-tells
returns-in_err-kept-clause-tells g c = λ provided fixed round beside fence out of reads by provides has seen.
    let p = err_from_is_err_and c.from_residual.result c.from_residual.ensures.1 in
    let course = derives_by fixed round c.args.logs.now (option_map artifact_of c.args.before) (live_of beside fence c.args.life.now) in
    rw (p.1, p.2) (ends_beside beside tt refl (speaks_tells course (by_stop (Faulted NoMemory)) (wants_speaks course (Faulted NoMemory) refl out out refl)))

pub returns-in_err-kept-clause-moved : goal.returns-in_err-kept-clause-moved
returns-in_err-kept-clause-moved g c = moved_none g.D.Disk.tells g.D.Disk.made g.X.SecretStore.made g.D.Disk.faults g.X.SecretStore.faults g.met.D.Disk.made_none g.met.X.SecretStore.made_none c.args.devices.now

pub returns-in_err-kept-clause-stays : goal.returns-in_err-kept-clause-stays
returns-in_err-kept-clause-stays g c = looked

-- IT IS CACHED NOW

pub returns-in-Some-kept-clause-acts : goal.returns-in-Some-kept-clause-acts
returns-in-Some-kept-clause-acts g c = λ disk secrets provided fixed round beside fence out of reads by provides has seen.
    let st = live_of beside fence c.args.life.now in
    ends_beside beside seen refl (goes_makes (derives_by fixed round c.args.logs.now (option_map artifact_of c.args.before) st) (artifact_of c.in-Some-kept.artifact, st)
    (by_cache fixed round c.args.logs.now st c.args.before c.in_default.is c.args.inclusion.now.cache seen.cached c.in_ok-kept.kept c.in_ok-kept.ensures c.in-Some-kept.artifact c.in-Some-kept.is) _ _ _)

pub returns-in-Some-kept-clause-tells : goal.returns-in-Some-kept-clause-tells
returns-in-Some-kept-clause-tells g c = λ provided fixed round beside fence out of reads by provides has seen.
    let st = live_of beside fence c.args.life.now in
    ends_beside beside seen refl (goes_tells (derives_by fixed round c.args.logs.now (option_map artifact_of c.args.before) st) (artifact_of c.in-Some-kept.artifact, st)
    (by_cache fixed round c.args.logs.now st c.args.before c.in_default.is c.args.inclusion.now.cache seen.cached c.in_ok-kept.kept c.in_ok-kept.ensures c.in-Some-kept.artifact c.in-Some-kept.is) out)

pub returns-in-Some-kept-clause-moved : goal.returns-in-Some-kept-clause-moved
returns-in-Some-kept-clause-moved g c = moved_none g.D.Disk.tells g.D.Disk.made g.X.SecretStore.made g.D.Disk.faults g.X.SecretStore.faults g.met.D.Disk.made_none g.met.X.SecretStore.made_none c.args.devices.now

pub returns-in-Some-kept-clause-stays : goal.returns-in-Some-kept-clause-stays
returns-in-Some-kept-clause-stays g c = looked

pub returns-in-Some-kept-clause-idle : goal.returns-in-Some-kept-clause-idle
returns-in-Some-kept-clause-idle g c = c.requires.idle

-- IT IS DERIVED

pub derive_now-requires : goal.derive_now-requires
derive_now-requires g c = record {
  ready = c.requires.ready;
  current = c.requires.current;
  includes = c.requires.includes;
  canonical = c.requires.canonical;
  idle = c.requires.idle;
}

pub returns-clause-acts : goal.returns-clause-acts
returns-clause-acts g c = λ disk secrets provided fixed round beside fence out of reads by provides has seen.
    within_as (λ i known. known)
    (λ now known made. makes_as (by_neither fixed round c.args.logs.now (live_of beside fence c.args.life.now) c.args.before c.in_default.is c.args.inclusion.now.cache seen.cached c.in_ok-kept.kept c.in_ok-kept.ensures c.in_default-kept.is) _ made)
    (c.derive_now.ensures.acts disk secrets provided fixed round beside fence out of reads by provides has seen)

pub returns-clause-tells : goal.returns-clause-tells
returns-clause-tells g c = λ provided fixed round beside fence out of reads by provides has seen.
    within_as (λ i known. known)
    (λ now known told. tells_as (by_neither fixed round c.args.logs.now (live_of beside fence c.args.life.now) c.args.before c.in_default.is c.args.inclusion.now.cache seen.cached c.in_ok-kept.kept c.in_ok-kept.ensures c.in_default-kept.is) _ told)
    (c.derive_now.ensures.tells provided fixed round beside fence out of reads by provides has seen)

pub returns-clause-moved : goal.returns-clause-moved
returns-clause-moved g c = c.derive_now.ensures.moved

pub returns-clause-causes : goal.returns-clause-causes
returns-clause-causes g c = c.derive_now.ensures.causes

pub returns-clause-stays : goal.returns-clause-stays
returns-clause-stays g c = c.derive_now.ensures.stays

pub returns-clause-rest : goal.returns-clause-rest
returns-clause-rest g c = c.derive_now.ensures.rest
