use Rattle.std.proofs.Common.{None, ap, refl, sym, subst, ◌∙◌}
use Rattle.std.specs.Prelude.{IsSome, option_map}
use Rattle.std.specs.Int.NonZero.{non_zero_u64_get}
use Rattle.std.proofs.lemmas.Result.{err_from_is_err_and}
use Rattle.dkg_core.specs.Including as including
use Rattle.dkg_infos.specs.declared.fault.Fault.TheVariants.{NoMemory}
use Rattle.dkg_life.specs.Ends.{by_stop}
use Rattle.dkg_life.specs.declared.stop.Stop.TheVariants.{Fault as Faulted}
use Rattle.dkg_verifying.specs.Including.{derives_by, derives_final}
use Rattle.dkg_verifying.specs.InclusionOf.{artifact_of}
use Rattle.dkg_life.specs.LiveOf.{live_of}
use Rattle.dkg_life.specs.declared.life.Life.{Life}
use Rattle.dkg_setup.proofs.OpeningCourses.{makes_as, tells_as}
use Rattle.dkg_life.proofs.Beside.{then_well, with_then}
use Rattle.dkg_life.proofs.Blamed.{blamed_behind}
use Rattle.dkg_life.proofs.Chained.{early_makes, early_told, then_makes, then_told}
use Rattle.dkg_blocks.proofs.Concluding.{derived_ready, final_as, middle_in, not_following, provides_then, wants_makes}
use Rattle.dkg_life.proofs.Kept.{moved_none, moved_then}
use Rattle.dkg_life.proofs.Said.{speaks_tells}
use Rattle.dkg_life.proofs.Speaking.{wants_speaks}
use Rattle.dkg_verifying.proofs.Telling.{ends_beside}
use Rattle.dkg_verifying.proofs.Within.{within_as}
use Rattle.dkg_verifying.proofs.Looking.{looked, looked_then}
use Rattle.dkg_blocks.proofs.final_block.derive.Goals as goal

-- NO MEMORY

pub returns-in_err-logs-clause-acts : goal.returns-in_err-logs-clause-acts
returns-in_err-logs-clause-acts g c = λ disk secrets provided fixed round beside fence of reads by provides has seen.
    let p = err_from_is_err_and c.from_residual.result c.from_residual.ensures.1 in
    rw (p.1, p.2) (ends_beside beside tt refl (wants_makes (derives_final fixed round (live_of beside fence c.args.life.now)) (Faulted NoMemory) refl _ _ _))

pub returns-in_err-logs-clause-tells : goal.returns-in_err-logs-clause-tells
returns-in_err-logs-clause-tells g c = λ provided fixed round beside fence of reads by provides has seen.
    let p = err_from_is_err_and c.from_residual.result c.from_residual.ensures.1 in
    let course = derives_final fixed round (live_of beside fence c.args.life.now) in
    rw (p.1, p.2) (ends_beside beside tt refl (speaks_tells course (by_stop (Faulted NoMemory)) (wants_speaks course (Faulted NoMemory) refl _ _ refl)))

pub returns-in_err-logs-clause-moved : goal.returns-in_err-logs-clause-moved
returns-in_err-logs-clause-moved g c = moved_none g.D.Disk.tells g.D.Disk.made g.X.SecretStore.made g.D.Disk.faults g.X.SecretStore.faults g.met.D.Disk.made_none g.met.X.SecretStore.made_none c.args.devices.now

pub returns-in_err-logs-clause-stays : goal.returns-in_err-logs-clause-stays
returns-in_err-logs-clause-stays g c = looked

pub returns-in_err-before-clause-acts : goal.returns-in_err-before-clause-acts
returns-in_err-before-clause-acts g c = λ disk secrets provided fixed round beside fence of reads by provides has seen.
    let p = err_from_is_err_and c.from_residual-in_err-before.result c.from_residual-in_err-before.ensures.1 in
    rw (p.1, p.2) (ends_beside beside tt refl (wants_makes (derives_final fixed round (live_of beside fence c.args.life.now)) (Faulted NoMemory) refl _ _ _))

pub returns-in_err-before-clause-tells : goal.returns-in_err-before-clause-tells
returns-in_err-before-clause-tells g c = λ provided fixed round beside fence of reads by provides has seen.
    let p = err_from_is_err_and c.from_residual-in_err-before.result c.from_residual-in_err-before.ensures.1 in
    let course = derives_final fixed round (live_of beside fence c.args.life.now) in
    rw (p.1, p.2) (ends_beside beside tt refl (speaks_tells course (by_stop (Faulted NoMemory)) (wants_speaks course (Faulted NoMemory) refl _ _ refl)))

pub returns-in_err-before-clause-moved : goal.returns-in_err-before-clause-moved
returns-in_err-before-clause-moved g c = moved_none g.D.Disk.tells g.D.Disk.made g.X.SecretStore.made g.D.Disk.faults g.X.SecretStore.faults g.met.D.Disk.made_none g.met.X.SecretStore.made_none c.args.devices.now

pub returns-in_err-before-clause-stays : goal.returns-in_err-before-clause-stays
returns-in_err-before-clause-stays g c = looked

-- THE VERIFICATION DOESN'T END

pub end_verifying-requires : goal.end_verifying-requires
end_verifying-requires g c = record { ready = c.requires.ready; including = c.requires.including }

pub returns-in_err-end_verifying-clause-acts : goal.returns-in_err-end_verifying-clause-acts
returns-in_err-end_verifying-clause-acts g c = λ disk secrets provided fixed round beside fence of reads by provides has seen.
    let p = err_from_is_err_and c.from_residual-in_err-end_verifying.result c.from_residual-in_err-end_verifying.ensures.1 in
    let st = live_of beside fence c.args.life.now in
    let middle = middle_in (non_zero_u64_get c.args.terms.now.blocks_per_epoch) c.args.life.now c.requires.includes c.requires.ready.placed fixed of.blocks in
    rw (p.1, p.2) (within_as (λ i known. tt)
    (λ now known made. makes_as (final_as fixed round st c.in_ok-logs.logs (c.in_ok-logs.ensures.canonical fixed beside fence middle) c.args.inclusion.now.cache seen.cached c.in_ok-before.before c.in_ok-before.ensures) _
    (early_makes (including.ends_verifying fixed None st) (λ s. derives_by fixed round c.in_ok-logs.logs (option_map artifact_of c.in_ok-before.before) s) c.in_err-end_verifying.field-0.0 made))
    (c.in_err-end_verifying.ensures.acts disk secrets provided fixed beside fence of reads by provides seen))

pub returns-in_err-end_verifying-clause-tells : goal.returns-in_err-end_verifying-clause-tells
returns-in_err-end_verifying-clause-tells g c = λ provided fixed round beside fence of reads by provides has seen.
    let p = err_from_is_err_and c.from_residual-in_err-end_verifying.result c.from_residual-in_err-end_verifying.ensures.1 in
    let st = live_of beside fence c.args.life.now in
    let middle = middle_in (non_zero_u64_get c.args.terms.now.blocks_per_epoch) c.args.life.now c.requires.includes c.requires.ready.placed fixed of.blocks in
    rw (p.1, p.2) (within_as (λ i known. tt)
    (λ now known told. tells_as (final_as fixed round st c.in_ok-logs.logs (c.in_ok-logs.ensures.canonical fixed beside fence middle) c.args.inclusion.now.cache seen.cached c.in_ok-before.before c.in_ok-before.ensures) _
    (early_told (including.ends_verifying fixed None st) (λ s. derives_by fixed round c.in_ok-logs.logs (option_map artifact_of c.in_ok-before.before) s) c.in_err-end_verifying.field-0.0 told))
    (c.in_err-end_verifying.ensures.tells provided fixed beside fence of reads by provides seen))

pub returns-in_err-end_verifying-clause-moved : goal.returns-in_err-end_verifying-clause-moved
returns-in_err-end_verifying-clause-moved g c = c.end_verifying.ensures.moved

pub returns-in_err-end_verifying-clause-causes : goal.returns-in_err-end_verifying-clause-causes
returns-in_err-end_verifying-clause-causes g c =
    let p = err_from_is_err_and c.from_residual-in_err-end_verifying.result c.from_residual-in_err-end_verifying.ensures.1 in
    rw (p.1, p.2) c.in_err-end_verifying.ensures.causes

pub returns-in_err-end_verifying-clause-stays : goal.returns-in_err-end_verifying-clause-stays
returns-in_err-end_verifying-clause-stays g c = c.end_verifying.ensures.stays

pub returns-in_err-end_verifying-clause-hand : goal.returns-in_err-end_verifying-clause-hand
returns-in_err-end_verifying-clause-hand g c = ap (λ its. its.hand) c.end_verifying.ensures.rest

-- IT ENDS, and the artifact is derived

pub artifact_by-requires : goal.artifact_by-requires
artifact_by-requires g c = record {
  ready = c.in_ok-end_verifying.ensures.ready;
  current = subst (λ (l : Life g.row.Dir.Denot). IsSome l.store.current) (sym c.end_verifying.ensures.stays.same) (c.requires.including.current (not_following (non_zero_u64_get c.args.terms.now.blocks_per_epoch) c.args.life.now c.requires.includes c.requires.ready.placed));
  includes = ap (λ (l : Life g.row.Dir.Denot). l.stage) c.end_verifying.ensures.stays.same ∙ c.requires.includes;
  canonical = rw c.end_verifying.ensures.stays.same c.in_ok-logs.ensures.logs;
  idle = c.in_ok-end_verifying.ensures.idle;
}

pub returns-clause-acts : goal.returns-clause-acts
returns-clause-acts g c = λ disk secrets provided fixed round beside fence of reads by provides has seen.
    let st = live_of beside fence c.args.life.now in
    let middle = middle_in (non_zero_u64_get c.args.terms.now.blocks_per_epoch) c.args.life.now c.requires.includes c.requires.ready.placed fixed of.blocks in
    with_then beside (c.in_ok-end_verifying.ensures.acts disk secrets provided fixed beside fence of reads by provides seen)
    (λ mid known ended. within_as (λ i seen. seen)
    (λ now then made. makes_as (final_as fixed round st c.in_ok-logs.logs (c.in_ok-logs.ensures.canonical fixed beside fence middle) c.args.inclusion.now.cache seen.cached c.in_ok-before.before c.in_ok-before.ensures) _
    (then_makes (including.ends_verifying fixed None st) (λ s. derives_by fixed round c.in_ok-logs.logs (option_map artifact_of c.in_ok-before.before) s)
    (live_of mid fence c.end_verifying.new.life) _ ended made))
    (c.artifact_by.ensures.acts disk secrets provided fixed round mid fence c.end_verifying.new.out.entries of reads by (provides_then fixed (c.end_verifying.ensures.stays.provider provided) provides)
    (ap (λ (l : Life g.row.Dir.Denot). l.round) c.end_verifying.ensures.stays.same ∙ has) known))

pub returns-clause-tells : goal.returns-clause-tells
returns-clause-tells g c = λ provided fixed round beside fence of reads by provides has seen.
    let st = live_of beside fence c.args.life.now in
    let middle = middle_in (non_zero_u64_get c.args.terms.now.blocks_per_epoch) c.args.life.now c.requires.includes c.requires.ready.placed fixed of.blocks in
    with_then beside (c.in_ok-end_verifying.ensures.tells provided fixed beside fence of reads by provides seen)
    (λ mid known ended. within_as (λ i seen. seen)
    (λ now then told. tells_as (final_as fixed round st c.in_ok-logs.logs (c.in_ok-logs.ensures.canonical fixed beside fence middle) c.args.inclusion.now.cache seen.cached c.in_ok-before.before c.in_ok-before.ensures) _
    (then_told (including.ends_verifying fixed None st) (λ s. derives_by fixed round c.in_ok-logs.logs (option_map artifact_of c.in_ok-before.before) s) (live_of mid fence c.end_verifying.new.life) _ ended told))
    (c.artifact_by.ensures.tells provided fixed round mid fence c.end_verifying.new.out.entries of reads by (provides_then fixed (c.end_verifying.ensures.stays.provider provided) provides)
    (ap (λ (l : Life g.row.Dir.Denot). l.round) c.end_verifying.ensures.stays.same ∙ has) known))

pub returns-clause-stays : goal.returns-clause-stays
returns-clause-stays g c = looked_then c.end_verifying.ensures.stays c.artifact_by.ensures.stays

pub returns-clause-hand : goal.returns-clause-hand
returns-clause-hand g c = ap (λ its. its.hand) c.artifact_by.ensures.rest ∙ ap (λ its. its.hand) c.end_verifying.ensures.rest

pub returns-clause-moved : goal.returns-clause-moved
returns-clause-moved g c =
    moved_then g.D.Disk.tells g.D.Disk.made g.X.SecretStore.made g.D.Disk.faults g.X.SecretStore.faults g.met.D.Disk.made_more g.met.X.SecretStore.made_more _ _ _ c.end_verifying.ensures.moved c.artifact_by.ensures.moved

pub returns-clause-causes : goal.returns-clause-causes
returns-clause-causes g c =
    blamed_behind g.D.Disk.tells g.D.Disk.made g.X.SecretStore.made g.D.Disk.faults g.X.SecretStore.faults c.args.devices.now c.end_verifying.new.devices c.artifact_by.new.devices
    c.end_verifying.ensures.moved c.artifact_by.ensures.moved c.artifact_by.result c.artifact_by.ensures.causes

pub returns-clause-including : goal.returns-clause-including
returns-clause-including g c =
    then_well c.artifact_by.result (λ idle. derived_ready g.C.Ceremony.check_log_of g.C.Ceremony.dealing_of g.C.Ceremony.finish_of (non_zero_u64_get c.args.terms.now.blocks_per_epoch) c.end_verifying.new.life c.artifact_by.new.life c.artifact_by.ensures.stays.same
    c.end_verifying.new.inclusion c.artifact_by.new.inclusion c.artifact_by.ensures.rest idle c.in_ok-end_verifying.ensures.including) c.artifact_by.ensures.idle
