use Rattle.std.proofs.Common.{◌≡◌, None, Some, ap, is_some, refl, sym, subst, ◌∙◌}
use Rattle.std.specs.Prelude.{option_map}
use Rattle.std.specs.Option.{option_copied}
use Rattle.std.specs.Int.NonZero.{non_zero_u64_get}
use Rattle.std.proofs.lemmas.Result.{err_from_is_err_and}
use Rattle.dkg_ceremony.specs.Outcomes.{LogMap}
use Rattle.dkg_core.specs.Including as including
use Rattle.dkg_infos.specs.declared.fault.Fault.TheVariants.{NoMemory}
use Rattle.dkg_verifying.specs.Including.{caching}
use Rattle.dkg_verifying.specs.InclusionOf.{artifact_of, cached_of, checked_result_of}
use Rattle.dkg_life.specs.LiveOf.{live_of}
use Rattle.dkg_life.specs.declared.stop.Stop.TheVariants.{Fault as Faulted}
use Rattle.dkg_life.proofs.Beside.{with_then}
use Rattle.dkg_life.proofs.Blamed.{caused_more}
use Rattle.dkg_blocks.proofs.Concluding.{and_some, canonical_is, finds_by, has_round, kept_makes, kept_told, middle_in, none_apart, uncopied_makes, uncopied_told, unkept_makes, unkept_told, unseen_makes, unseen_told}
use Rattle.dkg_life.proofs.Kept.{moved_none}
use Rattle.dkg_verifying.proofs.Keeping.{cached_there}
use Rattle.dkg_verifying.proofs.Telling.{ends_with, seen_cached}
use Rattle.dkg_verifying.proofs.Within.{within_as}
use Rattle.dkg_verifying.proofs.Looking.{looked}
use Rattle.dkg_blocks.proofs.final_block.derive_now.Goals as goal

pub see_verified-requires : goal.see_verified-requires
see_verified-requires g c = record {
  round = has_round (non_zero_u64_get c.args.terms.now.blocks_per_epoch) c.args.life.now c.requires.includes c.requires.ready.placed;
  canonical = c.requires.canonical;
  idle = c.requires.idle;
}

-- NO RESULT

pub returns-in_err-see_verified-clause-acts : goal.returns-in_err-see_verified-clause-acts
returns-in_err-see_verified-clause-acts g c = λ disk secrets provided fixed round beside fence out of reads by provides has seen.
    let p = err_from_is_err_and c.from_residual.result c.from_residual.ensures.1 in
    let middle = middle_in (non_zero_u64_get c.args.terms.now.blocks_per_epoch) c.args.life.now c.requires.includes c.requires.ready.placed fixed of.blocks in
    let same = c.requires.canonical ∙ canonical_is fixed beside fence c.args.life.now middle in
    rw (p.1, p.2) (within_as (λ i known. tt) (λ now known speaks. unseen_makes fixed round c.args.logs.now (live_of beside fence c.args.life.now) same c.in_err-see_verified.field-0.0 (speaks out) _ _ _ _)
    (c.in_err-see_verified.ensures.speaks fixed round beside fence of.me (finds_by fixed by provides) middle has seen))

pub returns-in_err-see_verified-clause-tells : goal.returns-in_err-see_verified-clause-tells
returns-in_err-see_verified-clause-tells g c = λ provided fixed round beside fence out of reads by provides has seen.
    let p = err_from_is_err_and c.from_residual.result c.from_residual.ensures.1 in
    let middle = middle_in (non_zero_u64_get c.args.terms.now.blocks_per_epoch) c.args.life.now c.requires.includes c.requires.ready.placed fixed of.blocks in
    let same = c.requires.canonical ∙ canonical_is fixed beside fence c.args.life.now middle in
    rw (p.1, p.2) (within_as (λ i known. tt) (λ now known speaks. unseen_told fixed round c.args.logs.now (live_of beside fence c.args.life.now) same c.in_err-see_verified.field-0.0 (speaks out))
    (c.in_err-see_verified.ensures.speaks fixed round beside fence of.me (finds_by fixed by provides) middle has seen))

pub returns-in_err-see_verified-clause-moved : goal.returns-in_err-see_verified-clause-moved
returns-in_err-see_verified-clause-moved g c = moved_none g.D.Disk.tells g.D.Disk.made g.X.SecretStore.made g.D.Disk.faults g.X.SecretStore.faults g.met.D.Disk.made_none g.met.X.SecretStore.made_none c.args.devices.now

pub returns-in_err-see_verified-clause-causes : goal.returns-in_err-see_verified-clause-causes
returns-in_err-see_verified-clause-causes g c =
    let p = err_from_is_err_and c.from_residual.result c.from_residual.ensures.1 in
    rw (p.1, p.2) (caused_more (λ x. absurd x) (λ x. absurd x) (λ x. absurd x) c.in_err-see_verified.field-0.0 c.in_err-see_verified.ensures.causes)

pub returns-in_err-see_verified-clause-rest : goal.returns-in_err-see_verified-clause-rest
returns-in_err-see_verified-clause-rest g c =
    c.see_verified.ensures.rest
    ∙ (λ i. record c.args.inclusion.now {
      verification = c.see_verified.new.inclusion.verification;
      waiter = c.see_verified.new.inclusion.waiter;
      cache = (sym c.see_verified.ensures.rest i).cache;
    })

pub returns-in_err-see_verified-clause-stays : goal.returns-in_err-see_verified-clause-stays
returns-in_err-see_verified-clause-stays g c = looked

pub unreachable-requires : goal.unreachable-requires
unreachable-requires g c = none_apart c.ready.result c.in_default.is (c.ready.ensures.exactly.1 c.in_ok-see_verified.ensures.ready)

pub keep_artifact-requires : goal.keep_artifact-requires
keep_artifact-requires g c = record { current = c.requires.current }

-- NO ARTIFACT

pub returns-in_err-keep_artifact-clause-acts : goal.returns-in_err-keep_artifact-clause-acts
returns-in_err-keep_artifact-clause-acts g c = λ disk secrets provided fixed round beside fence out of reads by provides has seen.
    let p = err_from_is_err_and c.from_residual-in_err-keep_artifact.result c.from_residual-in_err-keep_artifact.ensures.1 in
    let middle = middle_in (non_zero_u64_get c.args.terms.now.blocks_per_epoch) c.args.life.now c.requires.includes c.requires.ready.placed fixed of.blocks in
    let same = c.requires.canonical ∙ canonical_is fixed beside fence c.args.life.now middle in
    let kept = sym (c.ready.ensures.kept (ap (λ o. is_some o) c.in-Some.is)) ∙ ap option_copied c.in-Some.is in
    rw (p.1, p.2) (within_as (λ i known. tt) (λ now known speaks. unkept_makes fixed round c.args.logs.now (live_of beside fence c.args.life.now) same of.reshare (live_of now fence c.args.life.now) (checked_result_of c.in-Some.ready.now)
    (known.retained ∙ ap (option_map checked_result_of) kept) (speaks out) c.in_err-keep_artifact.field-0.0
    (c.in_err-keep_artifact.ensures.acts disk secrets provided fixed (live_of now fence c.args.life.now) of reads provides refl known.cached out))
    (c.in_ok-see_verified.ensures.speaks fixed round beside fence of.me (finds_by fixed by provides) middle has seen))

pub returns-in_err-keep_artifact-clause-tells : goal.returns-in_err-keep_artifact-clause-tells
returns-in_err-keep_artifact-clause-tells g c = λ provided fixed round beside fence out of reads by provides has seen.
    let p = err_from_is_err_and c.from_residual-in_err-keep_artifact.result c.from_residual-in_err-keep_artifact.ensures.1 in
    let middle = middle_in (non_zero_u64_get c.args.terms.now.blocks_per_epoch) c.args.life.now c.requires.includes c.requires.ready.placed fixed of.blocks in
    let same = c.requires.canonical ∙ canonical_is fixed beside fence c.args.life.now middle in
    let kept = sym (c.ready.ensures.kept (ap (λ o. is_some o) c.in-Some.is)) ∙ ap option_copied c.in-Some.is in
    rw (p.1, p.2) (within_as (λ i known. tt) (λ now known speaks. unkept_told fixed round c.args.logs.now (live_of beside fence c.args.life.now) same of.reshare (live_of now fence c.args.life.now) (checked_result_of c.in-Some.ready.now)
    (known.retained ∙ ap (option_map checked_result_of) kept) (speaks out) c.in_err-keep_artifact.field-0.0
    (c.in_err-keep_artifact.ensures.tells provided fixed (live_of now fence c.args.life.now) of reads provides refl known.cached out))
    (c.in_ok-see_verified.ensures.speaks fixed round beside fence of.me (finds_by fixed by provides) middle has seen))

pub returns-in_err-keep_artifact-clause-moved : goal.returns-in_err-keep_artifact-clause-moved
returns-in_err-keep_artifact-clause-moved g c = c.keep_artifact.ensures.moved

pub returns-in_err-keep_artifact-clause-causes : goal.returns-in_err-keep_artifact-clause-causes
returns-in_err-keep_artifact-clause-causes g c =
    let p = err_from_is_err_and c.from_residual-in_err-keep_artifact.result c.from_residual-in_err-keep_artifact.ensures.1 in
    rw (p.1, p.2) c.in_err-keep_artifact.ensures.causes

pub returns-in_err-keep_artifact-clause-stays : goal.returns-in_err-keep_artifact-clause-stays
returns-in_err-keep_artifact-clause-stays g c = record {
  same = λ i. record c.args.life.now { store = c.keep_artifact.ensures.store i };
  disk = c.keep_artifact.ensures.disk;
  held = c.keep_artifact.ensures.held;
  provider = c.keep_artifact.ensures.provider;
}

-- NO COPY

pub returns-in_err-kept-clause-acts : goal.returns-in_err-kept-clause-acts
returns-in_err-kept-clause-acts g c = λ disk secrets provided fixed round beside fence out of reads by provides has seen.
    let p = err_from_is_err_and c.from_residual-in_err-kept.result c.from_residual-in_err-kept.ensures.1 in
    let middle = middle_in (non_zero_u64_get c.args.terms.now.blocks_per_epoch) c.args.life.now c.requires.includes c.requires.ready.placed fixed of.blocks in
    let same = c.requires.canonical ∙ canonical_is fixed beside fence c.args.life.now middle in
    let kept = sym (c.ready.ensures.kept (ap (λ o. is_some o) c.in-Some.is)) ∙ ap option_copied c.in-Some.is in
    rw (p.1, p.2) (within_as (λ i known. tt) (λ now known speaks. uncopied_makes fixed round c.args.logs.now (live_of beside fence c.args.life.now) same of.reshare (live_of now fence c.args.life.now) (checked_result_of c.in-Some.ready.now)
    (known.retained ∙ ap (option_map checked_result_of) kept) (speaks out) (caching c.keep_artifact.new.cache (live_of now fence c.args.life.now)) (Faulted NoMemory) refl
    (c.in_ok-keep_artifact.ensures.acts disk secrets provided fixed (live_of now fence c.args.life.now) of reads provides refl known.cached out))
    (c.in_ok-see_verified.ensures.speaks fixed round beside fence of.me (finds_by fixed by provides) middle has seen))

pub returns-in_err-kept-clause-tells : goal.returns-in_err-kept-clause-tells
returns-in_err-kept-clause-tells g c = λ provided fixed round beside fence out of reads by provides has seen.
    let p = err_from_is_err_and c.from_residual-in_err-kept.result c.from_residual-in_err-kept.ensures.1 in
    let middle = middle_in (non_zero_u64_get c.args.terms.now.blocks_per_epoch) c.args.life.now c.requires.includes c.requires.ready.placed fixed of.blocks in
    let same = c.requires.canonical ∙ canonical_is fixed beside fence c.args.life.now middle in
    let kept = sym (c.ready.ensures.kept (ap (λ o. is_some o) c.in-Some.is)) ∙ ap option_copied c.in-Some.is in
    rw (p.1, p.2) (within_as (λ i known. tt) (λ now known speaks. uncopied_told fixed round c.args.logs.now (live_of beside fence c.args.life.now) same of.reshare (live_of now fence c.args.life.now) (checked_result_of c.in-Some.ready.now)
    (known.retained ∙ ap (option_map checked_result_of) kept) (speaks out) (caching c.keep_artifact.new.cache (live_of now fence c.args.life.now)) (Faulted NoMemory) refl
    (c.in_ok-keep_artifact.ensures.tells provided fixed (live_of now fence c.args.life.now) of reads provides refl known.cached out))
    (c.in_ok-see_verified.ensures.speaks fixed round beside fence of.me (finds_by fixed by provides) middle has seen))

pub returns-in_err-kept-clause-moved : goal.returns-in_err-kept-clause-moved
returns-in_err-kept-clause-moved g c = c.keep_artifact.ensures.moved

pub returns-in_err-kept-clause-stays : goal.returns-in_err-kept-clause-stays
returns-in_err-kept-clause-stays g c = record {
  same = λ i. record c.args.life.now { store = c.keep_artifact.ensures.store i };
  disk = c.keep_artifact.ensures.disk;
  held = c.keep_artifact.ensures.held;
  provider = c.keep_artifact.ensures.provider;
}

-- IT IS MADE

pub returns-clause-acts : goal.returns-clause-acts
returns-clause-acts g c = λ disk secrets provided fixed round beside fence out of reads by provides has seen.
    let middle = middle_in (non_zero_u64_get c.args.terms.now.blocks_per_epoch) c.args.life.now c.requires.includes c.requires.ready.placed fixed of.blocks in
    let same = c.requires.canonical ∙ canonical_is fixed beside fence c.args.life.now middle in
    let kept = sym (c.ready.ensures.kept (ap (λ o. is_some o) c.in-Some.is)) ∙ ap option_copied c.in-Some.is in
    let logs = and_some c.see_verified.new.inclusion.verification.kept c.in-Some.ready.now (λ r. r.logs ≡ c.args.logs.now) kept c.in_ok-see_verified.ensures.ready in
    with_then beside (c.in_ok-see_verified.ensures.speaks fixed round beside fence of.me (finds_by fixed by provides) middle has seen)
    (λ now known speaks. ends_with now (record now.inclusion { cached = option_map cached_of c.keep_artifact.new.cache }) (seen_cached c.see_verified.new.inclusion now.inclusion c.keep_artifact.new.cache known) refl
    (kept_makes fixed round c.args.logs.now (live_of beside fence c.args.life.now) same of.reshare (live_of now fence c.args.life.now) (checked_result_of c.in-Some.ready.now)
    (known.retained ∙ ap (option_map checked_result_of) kept) (speaks out) (caching c.keep_artifact.new.cache (live_of now fence c.args.life.now)) _
    (λ i. caching c.keep_artifact.new.cache (live_of now fence (record c.args.life.now { store = c.keep_artifact.ensures.store i })))
    (artifact_of c.in-Some-kept.artifact)
    (subst (λ (l : LogMap). Some (artifact_of c.in-Some-kept.artifact) ≡ including.cached_for (option_map cached_of c.keep_artifact.new.cache) l) (sym logs) (sym (ap (option_map artifact_of) c.in-Some-kept.is) ∙ c.in_ok-kept.ensures))
    (c.in_ok-keep_artifact.ensures.acts disk secrets provided fixed (live_of now fence c.args.life.now) of reads provides refl known.cached out)))

pub returns-clause-tells : goal.returns-clause-tells
returns-clause-tells g c = λ provided fixed round beside fence out of reads by provides has seen.
    let middle = middle_in (non_zero_u64_get c.args.terms.now.blocks_per_epoch) c.args.life.now c.requires.includes c.requires.ready.placed fixed of.blocks in
    let same = c.requires.canonical ∙ canonical_is fixed beside fence c.args.life.now middle in
    let kept = sym (c.ready.ensures.kept (ap (λ o. is_some o) c.in-Some.is)) ∙ ap option_copied c.in-Some.is in
    let logs = and_some c.see_verified.new.inclusion.verification.kept c.in-Some.ready.now (λ r. r.logs ≡ c.args.logs.now) kept c.in_ok-see_verified.ensures.ready in
    with_then beside (c.in_ok-see_verified.ensures.speaks fixed round beside fence of.me (finds_by fixed by provides) middle has seen)
    (λ now known speaks. ends_with now (record now.inclusion { cached = option_map cached_of c.keep_artifact.new.cache }) (seen_cached c.see_verified.new.inclusion now.inclusion c.keep_artifact.new.cache known) refl
    (kept_told fixed round c.args.logs.now (live_of beside fence c.args.life.now) same of.reshare (live_of now fence c.args.life.now) (checked_result_of c.in-Some.ready.now)
    (known.retained ∙ ap (option_map checked_result_of) kept) (speaks out) (caching c.keep_artifact.new.cache (live_of now fence c.args.life.now)) _
    (λ i. caching c.keep_artifact.new.cache (live_of now fence (record c.args.life.now { store = c.keep_artifact.ensures.store i })))
    (artifact_of c.in-Some-kept.artifact)
    (subst (λ (l : LogMap). Some (artifact_of c.in-Some-kept.artifact) ≡ including.cached_for (option_map cached_of c.keep_artifact.new.cache) l) (sym logs) (sym (ap (option_map artifact_of) c.in-Some-kept.is) ∙ c.in_ok-kept.ensures))
    (c.in_ok-keep_artifact.ensures.tells provided fixed (live_of now fence c.args.life.now) of reads provides refl known.cached out)))

pub returns-clause-moved : goal.returns-clause-moved
returns-clause-moved g c = c.keep_artifact.ensures.moved

pub returns-clause-stays : goal.returns-clause-stays
returns-clause-stays g c = record {
  same = λ i. record c.args.life.now { store = c.keep_artifact.ensures.store i };
  disk = c.keep_artifact.ensures.disk;
  held = c.keep_artifact.ensures.held;
  provider = c.keep_artifact.ensures.provider;
}

-- There is one.
pub unreachable-requires-in-None : goal.unreachable-requires-in-None
unreachable-requires-in-None g c =
    let kept = sym (c.ready.ensures.kept (ap (λ o. is_some o) c.in-Some.is)) ∙ ap option_copied c.in-Some.is in
    let logs = and_some c.see_verified.new.inclusion.verification.kept c.in-Some.ready.now (λ r. r.logs ≡ c.args.logs.now) kept c.in_ok-see_verified.ensures.ready in
    none_apart (including.cached_for (option_map cached_of c.keep_artifact.new.cache) c.in-Some.ready.now.logs)
    (subst (λ (l : LogMap). including.cached_for (option_map cached_of c.keep_artifact.new.cache) l ≡ None) (sym logs) (sym c.in_ok-kept.ensures ∙ ap (option_map artifact_of) c.in-None.is))
    (cached_there c.in-Some.ready.now.logs c.keep_artifact.new.cache c.in_ok-keep_artifact.ensures.kept)
