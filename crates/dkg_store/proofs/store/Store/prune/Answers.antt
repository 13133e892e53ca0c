use Rattle.std.proofs.Common.{ℕ, nat_le, inl, inr, ⊎_elim, ap, refl, ◌∙◌}
use Rattle.std.specs.FinMap as map
use Rattle.std.proofs.lemmas.Result.{err_from_is_err_and}
use Rattle.dkg_store.proofs.Left.{due_around}
use Rattle.dkg_store.proofs.store.Store.prune.Goals as goal

pub returns-in_err-prune_devices-clause-acts : goal.returns-in_err-prune_devices-clause-acts
returns-in_err-prune_devices-clause-acts g c = λ told told_secrets out.
    let p = err_from_is_err_and c.from_residual.result c.from_residual.ensures.1 in
    rw (p.1, p.2) (c.in_err-prune_devices.ensures.acts told told_secrets out)

pub returns-in_err-prune_devices-clause-kept : goal.returns-in_err-prune_devices-clause-kept
returns-in_err-prune_devices-clause-kept g c =
    let p = err_from_is_err_and c.from_residual.result c.from_residual.ensures.1 in
    rw p.1 (record { dealings = refl; acks = refl; logs = refl; restored = refl; current = refl })

pub returns-in_err-prune_devices-clause-gives : goal.returns-in_err-prune_devices-clause-gives
returns-in_err-prune_devices-clause-gives g c told =
    let p = err_from_is_err_and c.from_residual.result c.from_residual.ensures.1 in
    rw p.1 (c.in_err-prune_devices.ensures.gives told)

pub returns-in_err-prune_devices-clause-shrinks : goal.returns-in_err-prune_devices-clause-shrinks
returns-in_err-prune_devices-clause-shrinks g c told =
    let p = err_from_is_err_and c.from_residual.result c.from_residual.ensures.1 in
    rw p.1 (c.in_err-prune_devices.ensures.shrinks told)

pub returns-in_err-prune_devices-clause-called : goal.returns-in_err-prune_devices-clause-called
returns-in_err-prune_devices-clause-called g c =
    let p = err_from_is_err_and c.from_residual.result c.from_residual.ensures.1 in
    rw p.1 c.in_err-prune_devices.ensures.called

pub returns-in_err-prune_devices-clause-due : goal.returns-in_err-prune_devices-clause-due
returns-in_err-prune_devices-clause-due g c =
    let p = err_from_is_err_and c.from_residual.result c.from_residual.ensures.1 in
    rw (p.1, p.2) (due_around c.in_err-prune_devices.field-0.0 c.in_err-prune_devices.ensures.due (λ name place none. none) (λ rose. rose) (λ rose. rose) (λ cut. cut)
    (λ want. record { so = ⊎_elim (λ same. inl ((λ i. record c.args.self.now { journal = same.0 i }), same.1, same.2, same.3, same.4)) (λ wanted. inr wanted) want.so }))

pub returns-clause-kept : goal.returns-clause-kept
returns-clause-kept g c = record {
  dealings = c.prune.ensures ∙ ap (λ (n : ℕ). map.retain_keys c.args.self.now.dealings (λ key. nat_le n key.0)) c.min.view_is;
  acks = c.prune-2.ensures ∙ ap (λ (n : ℕ). map.retain_keys c.args.self.now.acks (λ key. nat_le n key.0)) c.min.view_is;
  logs = c.prune-3.ensures ∙ ap (λ (n : ℕ). map.retain_keys c.args.self.now.logs (λ key. nat_le n key.0)) c.min.view_is;
  restored = refl;
  current = refl;
}
