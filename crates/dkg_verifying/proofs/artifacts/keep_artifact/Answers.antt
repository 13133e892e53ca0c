use Rattle.std.proofs.Common.{◌≡◌, ◌∙◌, Option, Some, ap, refl, sym, subst}
use Rattle.std.specs.Prelude.{IsSomeAnd}
use Rattle.std.proofs.lemmas.Bool.{false≢true}
use Rattle.std.proofs.lemmas.Result.{err_from_is_err_and}
use Rattle.dkg_ceremony.specs.Outcomes.{LogMap}
use Rattle.dkg_artifact.specs.Results.{Checked}
use Rattle.dkg_artifact.specs.declared.artifact.Artifact.{Artifact}
use Rattle.dkg_verifying.specs.Including.{caching}
use Rattle.dkg_verifying.specs.InclusionOf.{artifact_of, checked_result_of}
use Rattle.dkg_life.specs.declared.stop.Stop.TheVariants.{Fault as Faulted}
use Rattle.dkg_infos.specs.declared.fault.Fault.TheVariants.{NoMemory}
use Rattle.dkg_verifying.proofs.Derived.{has_one, kept_made, kept_told, newly_made, newly_told, underived_made, underived_told, unkept_made, unkept_told}
use Rattle.dkg_life.proofs.Kept.{moved_none}
use Rattle.dkg_verifying.proofs.artifacts.keep_artifact.Goals as goal

pub returns-then-is_some-clause-acts : goal.returns-then-is_some-clause-acts
returns-then-is_some-clause-acts g c = λ disk secrets told fixed st of reads includes current cached out.
    let logs_are = ap (λ (x : Checked). x.logs) c.verified.view_is in
    kept_made fixed (checked_result_of c.args.verified.now) st c.args.cache.now cached (subst (λ (logs : LogMap). IsSomeAnd c.args.cache.now (λ k. k.0 ≡ logs)) logs_are (c.get.ensures.exactly.0 (sym c.is_some.ensures ∙ c.if-is_some.true))) _ _ _

pub returns-then-is_some-clause-tells : goal.returns-then-is_some-clause-tells
returns-then-is_some-clause-tells g c = λ told fixed st of reads includes current cached out.
    let logs_are = ap (λ (x : Checked). x.logs) c.verified.view_is in
    kept_told fixed (checked_result_of c.args.verified.now) st c.args.cache.now cached (subst (λ (logs : LogMap). IsSomeAnd c.args.cache.now (λ k. k.0 ≡ logs)) logs_are (c.get.ensures.exactly.0 (sym c.is_some.ensures ∙ c.if-is_some.true))) out

pub returns-then-is_some-clause-moved : goal.returns-then-is_some-clause-moved
returns-then-is_some-clause-moved g c = moved_none g.D.Disk.tells g.D.Disk.made g.X.SecretStore.made g.D.Disk.faults g.X.SecretStore.faults g.met.D.Disk.made_none g.met.X.SecretStore.made_none c.args.devices.now

pub returns-in_err-artifact-clause-acts : goal.returns-in_err-artifact-clause-acts
returns-in_err-artifact-clause-acts g c = λ disk secrets told fixed st of reads includes current cached out.
    let p = err_from_is_err_and c.from_residual.result c.from_residual.ensures.1 in
    let logs_are = ap (λ (x : Checked). x.logs) c.verified.view_is in
    let t = has_one c.args.store.now.current c.requires.current in
    rw (p.1, p.2) (underived_made fixed (checked_result_of c.args.verified.now) st c.args.cache.now cached of.reshare t.0 (current ∙ t.1)
    (λ has. false≢true (sym c.if-is_some.false ∙ c.is_some.ensures ∙ c.get.ensures.exactly.1 (subst (λ (logs : LogMap). IsSomeAnd c.args.cache.now (λ k. k.0 ≡ logs)) (sym logs_are) has)))
    c.in_err-artifact.field-0.0 (c.in_err-artifact.ensures.acts disk secrets told t.0 fixed t.1 of reads includes out))

pub returns-in_err-artifact-clause-tells : goal.returns-in_err-artifact-clause-tells
returns-in_err-artifact-clause-tells g c = λ told fixed st of reads includes current cached out.
    let p = err_from_is_err_and c.from_residual.result c.from_residual.ensures.1 in
    let logs_are = ap (λ (x : Checked). x.logs) c.verified.view_is in
    let t = has_one c.args.store.now.current c.requires.current in
    rw (p.1, p.2) (underived_told fixed (checked_result_of c.args.verified.now) st c.args.cache.now cached of.reshare t.0 (current ∙ t.1)
    (λ has. false≢true (sym c.if-is_some.false ∙ c.is_some.ensures ∙ c.get.ensures.exactly.1 (subst (λ (logs : LogMap). IsSomeAnd c.args.cache.now (λ k. k.0 ≡ logs)) (sym logs_are) has)))
    c.in_err-artifact.field-0.0 (c.in_err-artifact.ensures.tells told t.0 fixed t.1 of reads includes out))

pub returns-in_err-copy-clause-acts : goal.returns-in_err-copy-clause-acts
returns-in_err-copy-clause-acts g c = λ disk secrets told fixed st of reads includes current cached out.
    let p = err_from_is_err_and c.from_residual-in_err-copy.result c.from_residual-in_err-copy.ensures.1 in
    let logs_are = ap (λ (x : Checked). x.logs) c.verified.view_is in
    let t = has_one c.args.store.now.current c.requires.current in
    rw (p.1, p.2) (unkept_made fixed (checked_result_of c.args.verified.now) st c.args.cache.now cached of.reshare t.0 (current ∙ t.1)
    (λ has. false≢true (sym c.if-is_some.false ∙ c.is_some.ensures ∙ c.get.ensures.exactly.1 (subst (λ (logs : LogMap). IsSomeAnd c.args.cache.now (λ k. k.0 ≡ logs)) (sym logs_are) has)))
    (artifact_of c.in_ok-artifact.artifact) (Faulted NoMemory) refl (c.in_ok-artifact.ensures.acts disk secrets told t.0 fixed t.1 of reads includes out))

pub returns-in_err-copy-clause-tells : goal.returns-in_err-copy-clause-tells
returns-in_err-copy-clause-tells g c = λ told fixed st of reads includes current cached out.
    let p = err_from_is_err_and c.from_residual-in_err-copy.result c.from_residual-in_err-copy.ensures.1 in
    let logs_are = ap (λ (x : Checked). x.logs) c.verified.view_is in
    let t = has_one c.args.store.now.current c.requires.current in
    rw (p.1, p.2) (unkept_told fixed (checked_result_of c.args.verified.now) st c.args.cache.now cached of.reshare t.0 (current ∙ t.1)
    (λ has. false≢true (sym c.if-is_some.false ∙ c.is_some.ensures ∙ c.get.ensures.exactly.1 (subst (λ (logs : LogMap). IsSomeAnd c.args.cache.now (λ k. k.0 ≡ logs)) (sym logs_are) has)))
    (artifact_of c.in_ok-artifact.artifact) (Faulted NoMemory) refl (c.in_ok-artifact.ensures.tells told t.0 fixed t.1 of reads includes out))

pub returns-clause-acts : goal.returns-clause-acts
returns-clause-acts g c = λ disk secrets told fixed st of reads includes current cached out.
    let logs_are = ap (λ (x : Checked). x.logs) c.verified.view_is in
    let t = has_one c.args.store.now.current c.requires.current in
    let kept = c.keep.ensures ∙ ap (λ (logs : LogMap). Some (logs, c.in_ok-artifact.artifact)) (c.in_ok-copy.ensures ∙ logs_are) in
    newly_made fixed (checked_result_of c.args.verified.now) st c.args.cache.now cached of.reshare t.0 (current ∙ t.1)
    (λ has. false≢true (sym c.if-is_some.false ∙ c.is_some.ensures ∙ c.get.ensures.exactly.1 (subst (λ (logs : LogMap). IsSomeAnd c.args.cache.now (λ k. k.0 ≡ logs)) (sym logs_are) has)))
    (artifact_of c.in_ok-artifact.artifact) _ (ap (λ (k : Option (LogMap × Artifact g.row.Dir.Denot)). caching k st) kept) (c.in_ok-artifact.ensures.acts disk secrets told t.0 fixed t.1 of reads includes out)

pub returns-clause-tells : goal.returns-clause-tells
returns-clause-tells g c = λ told fixed st of reads includes current cached out.
    let logs_are = ap (λ (x : Checked). x.logs) c.verified.view_is in
    let t = has_one c.args.store.now.current c.requires.current in
    let kept = c.keep.ensures ∙ ap (λ (logs : LogMap). Some (logs, c.in_ok-artifact.artifact)) (c.in_ok-copy.ensures ∙ logs_are) in
    newly_told fixed (checked_result_of c.args.verified.now) st c.args.cache.now cached of.reshare t.0 (current ∙ t.1)
    (λ has. false≢true (sym c.if-is_some.false ∙ c.is_some.ensures ∙ c.get.ensures.exactly.1 (subst (λ (logs : LogMap). IsSomeAnd c.args.cache.now (λ k. k.0 ≡ logs)) (sym logs_are) has)))
    (artifact_of c.in_ok-artifact.artifact) _ (ap (λ (k : Option (LogMap × Artifact g.row.Dir.Denot)). caching k st) kept) (c.in_ok-artifact.ensures.tells told t.0 fixed t.1 of reads includes out)

pub returns-clause-kept : goal.returns-clause-kept
returns-clause-kept g c =
    let logs_are = ap (λ (x : Checked). x.logs) c.verified.view_is in
    subst (λ (k : Option (LogMap × Artifact g.row.Dir.Denot)). IsSomeAnd k (λ its. its.0 ≡ c.args.verified.now.logs)) (sym c.keep.ensures) (c.in_ok-copy.ensures ∙ logs_are)
