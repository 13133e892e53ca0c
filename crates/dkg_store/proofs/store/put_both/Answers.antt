use Rattle.std.proofs.Common.{ℕ, [], ◌∷◌, Option, subst, sym}
use Rattle.dkg_journal.specs.Fuse.{Ran, RanAll}
use Rattle.dkg_journal.proofs.Steps.{then_all, ran_all, ran_first}
use Rattle.dkg_store.specs.Commits.{commit_calls}
use Rattle.dkg_secrets.specs.declared.secrets.SecretOp.TheVariants.{PutShare, PutSeed}
use Rattle.std.proofs.lemmas.Result.{err_from_is_err_and}
use Rattle.dkg_store.specs.Acts.{EndsBy, Runs, world}
use Rattle.dkg_store.specs.Calls.{cause_of, committing, ended}
use Rattle.dkg_store.specs.declared.call.StoreError.{StoreError}
use Rattle.dkg_store.specs.Errors.{IsOfDevices}
use Rattle.dkg_store.proofs.Acting.{ended_broken}
use Rattle.dkg_store.proofs.Counts.{counts_burned, reached_behind}
use Rattle.dkg_store.proofs.Left.{due_around, due_of_devices, later_rose}
use Rattle.dkg_store.proofs.Making.{run_second}
use Rattle.dkg_store.proofs.Both.{one_call}
use Rattle.dkg_store.proofs.store.put_both.Goals as goal

pub returns-in_err-perform_secret-in-Some-2-clause-calls : goal.returns-in_err-perform_secret-in-Some-2-clause-calls
returns-in_err-perform_secret-in-Some-2-clause-calls g c =
    subst (λ (o : Option ℕ). Ran g.X.SecretStore.made c.args.secrets.now c.perform_secret-in-Some-2.new.secrets c.args.fuse.now c.perform_secret-in-Some-2.new.fuse (commit_calls c.args.epoch c.args.seed o)) (sym c.in-Some.is)
    (ran_all _ _ _ _ _ _ (then_all g.X.SecretStore.made g.met.X.SecretStore.made_more _ _ _ _ _ _ (PutShare c.args.epoch c.in-Some.share ∷ []) (PutSeed c.args.epoch c.args.seed ∷ [])
    (one_call _ _ _ _ _ _ c.perform_secret-in-Some.ensures.calls c.perform_secret-in-Some.ensures.counted)
    (one_call _ _ _ _ _ _ c.perform_secret-in-Some-2.ensures.calls c.perform_secret-in-Some-2.ensures.counted)))

pub returns-in_ok-perform_secret-in-Some-2-clause-all : goal.returns-in_ok-perform_secret-in-Some-2-clause-all
returns-in_ok-perform_secret-in-Some-2-clause-all g c =
    subst (λ (o : Option ℕ). RanAll g.X.SecretStore.made c.args.secrets.now c.perform_secret-in-Some-2.new.secrets c.args.fuse.now c.perform_secret-in-Some-2.new.fuse (commit_calls c.args.epoch c.args.seed o)) (sym c.in-Some.is)
    (then_all g.X.SecretStore.made g.met.X.SecretStore.made_more _ _ _ _ _ _ (PutShare c.args.epoch c.in-Some.share ∷ []) (PutSeed c.args.epoch c.args.seed ∷ [])
    (one_call _ _ _ _ _ _ c.perform_secret-in-Some.ensures.calls c.perform_secret-in-Some.ensures.counted)
    (one_call _ _ _ _ _ _ c.perform_secret-in-Some-2.ensures.calls c.perform_secret-in-Some-2.ensures.counted))

pub returns-in_ok-perform_secret-in-Some-2-clause-calls : goal.returns-in_ok-perform_secret-in-Some-2-clause-calls
returns-in_ok-perform_secret-in-Some-2-clause-calls g c = ran_all _ _ _ _ _ _ (returns-in_ok-perform_secret-in-Some-2-clause-all g c)

pub returns-in_err-perform_secret-in-Some-2-clause-acts : goal.returns-in_err-perform_secret-in-Some-2-clause-acts
returns-in_err-perform_secret-in-Some-2-clause-acts g c = λ told out j.
    let p = err_from_is_err_and c.from_residual-in_err-perform_secret-in-Some-2.result c.from_residual-in_err-perform_secret-in-Some-2.ensures.1 in
    subst (λ (o : Option ℕ). Runs (committing c.args.epoch c.args.seed o) (ended c.from_residual-in_err-perform_secret-in-Some-2.result) (world out j (g.X.SecretStore.held c.args.secrets.now) c.args.fuse.now) (world out j (g.X.SecretStore.held c.perform_secret-in-Some-2.new.secrets) c.perform_secret-in-Some-2.new.fuse)) (sym c.in-Some.is)
    (run_second out j (g.X.SecretStore.held c.args.secrets.now) c.args.fuse.now (PutShare c.args.epoch c.in-Some.share) (PutSeed c.args.epoch c.args.seed) tt _ (g.X.SecretStore.held c.perform_secret-in-Some.new.secrets) _ c.perform_secret-in-Some.new.fuse _ (cause_of p.0)
    (ended_broken (λ u. u) c.from_residual-in_err-perform_secret-in-Some-2.result p.0 p.1 (subst IsOfDevices (sym p.2) (due_of_devices c.in_err-perform_secret-in-Some-2.field-0.0 _ _ _ _ c.in_err-perform_secret-in-Some-2.ensures.due)))
    (c.in_ok-perform_secret-in-Some.ensures.done told) c.perform_secret-in-Some.ensures.counted c.perform_secret-in-Some-2.ensures.crash c.perform_secret-in-Some-2.ensures.counted
    (subst (λ (e : StoreError). EndsBy (cause_of e) c.perform_secret-in-Some.new.fuse c.perform_secret-in-Some-2.new.fuse) (sym p.2) c.in_err-perform_secret-in-Some-2.ensures.ends))

pub returns-in-None-clause-calls : goal.returns-in-None-clause-calls
returns-in-None-clause-calls g c =
    subst (λ (o : Option ℕ). Ran g.X.SecretStore.made c.args.secrets.now c.perform_secret.new.secrets c.args.fuse.now c.perform_secret.new.fuse (commit_calls c.args.epoch c.args.seed o)) (sym c.in-None.is)
    (ran_all _ _ _ _ _ _ (one_call _ _ _ _ _ (PutSeed c.args.epoch c.args.seed) c.perform_secret.ensures.calls c.perform_secret.ensures.counted))

pub returns-in_err-perform_secret-in-Some-clause-calls : goal.returns-in_err-perform_secret-in-Some-clause-calls
returns-in_err-perform_secret-in-Some-clause-calls g c =
    subst (λ (o : Option ℕ). Ran g.X.SecretStore.made c.args.secrets.now c.perform_secret-in-Some.new.secrets c.args.fuse.now c.perform_secret-in-Some.new.fuse (commit_calls c.args.epoch c.args.seed o)) (sym c.in-Some.is)
    (ran_first _ _ _ _ _ (PutShare c.args.epoch c.in-Some.share ∷ []) (PutSeed c.args.epoch c.args.seed ∷ [])
    (one_call _ _ _ _ _ (PutShare c.args.epoch c.in-Some.share) c.perform_secret-in-Some.ensures.calls c.perform_secret-in-Some.ensures.counted))

pub returns-in_err-perform_secret-in-Some-clause-due : goal.returns-in_err-perform_secret-in-Some-clause-due
returns-in_err-perform_secret-in-Some-clause-due g c =
    let p = err_from_is_err_and c.from_residual.result c.from_residual.ensures.1 in
    rw (p.1, p.2) (due_around c.in_err-perform_secret-in-Some.field-0.0 c.in_err-perform_secret-in-Some.ensures.due (λ name place none. none) (λ none. none) (λ rose. rose) (λ reached. reached) (λ want. want.0))

pub returns-in_err-perform_secret-in-Some-2-clause-due : goal.returns-in_err-perform_secret-in-Some-2-clause-due
returns-in_err-perform_secret-in-Some-2-clause-due g c =
    let p = err_from_is_err_and c.from_residual-in_err-perform_secret-in-Some-2.result c.from_residual-in_err-perform_secret-in-Some-2.ensures.1 in
    rw (p.1, p.2) (due_around c.in_err-perform_secret-in-Some-2.field-0.0 c.in_err-perform_secret-in-Some-2.ensures.due (λ name place none. none) (λ none. none) (λ rose. later_rose _ _ _ c.perform_secret-in-Some.ensures.later c.perform_secret-in-Some-2.ensures.later rose) (λ reached. reached_behind _ _ _ (counts_burned (PutShare c.args.epoch c.in-Some.share ∷ []) _ _ c.perform_secret-in-Some.ensures.counted) reached) (λ want. later_rose _ _ _ c.perform_secret-in-Some.ensures.later_wants c.perform_secret-in-Some-2.ensures.later_wants want.0))
