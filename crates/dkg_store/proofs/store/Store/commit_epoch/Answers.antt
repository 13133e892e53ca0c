use Rattle.std.proofs.Common.{ℕ, Some, None, true, ap, refl}
use Rattle.std.specs.Prelude.{⊤}
use Rattle.std.proofs.lemmas.Result.{err_from_is_err_and}
use Rattle.dkg_store.specs.Commits.{commit_calls}
use Rattle.dkg_store.proofs.Left.{called_secrets}
use Rattle.std.specs.FinMap.{FinMap, get}
use Rattle.dkg_secrets.specs.Keys.{key_cmp}
use Rattle.dkg_store.proofs.Halves.{halves_hold}
use Rattle.dkg_store.proofs.store.Store.commit_epoch.Goals as goal

pub returns-in_err-put_both-clause-holds : goal.returns-in_err-put_both-clause-holds
returns-in_err-put_both-clause-holds g c = λ pairs. halves_hold pairs _ _ _ (λ k. ap (λ (m : FinMap key_cmp ℕ). get m k) c.put_both.ensures.privates)

pub returns-clause-holds : goal.returns-clause-holds
returns-clause-holds g c = λ pairs. halves_hold pairs _ _ _ (λ k. ap (λ (m : FinMap key_cmp ℕ). get m k) c.put_both.ensures.privates)

pub returns-in_err-put_both-clause-kept : goal.returns-in_err-put_both-clause-kept
returns-in_err-put_both-clause-kept g c =
    let p = err_from_is_err_and c.from_residual.result c.from_residual.ensures.1 in
    rw p.1 refl

pub returns-in_err-put_both-clause-called : goal.returns-in_err-put_both-clause-called
returns-in_err-put_both-clause-called g c =
    let p = err_from_is_err_and c.from_residual.result c.from_residual.ensures.1 in
    rw p.1 (called_secrets ⊤ g.D.Disk.made g.X.SecretStore.made g.D.Disk.faults g.X.SecretStore.faults g.met.D.Disk.made_none None (commit_calls c.args.info.epoch c.args.seed c.args.share) c.args.devices.now _ refl refl refl c.put_both.ensures.later c.put_both.ensures.calls tt tt)

pub returns-in_err-put_both-clause-due : goal.returns-in_err-put_both-clause-due
returns-in_err-put_both-clause-due g c =
    let p = err_from_is_err_and c.from_residual.result c.from_residual.ensures.1 in
    rw (p.1, p.2) c.in_err-put_both.ensures.due

pub returns-clause-called : goal.returns-clause-called
returns-clause-called g c =
    called_secrets ⊤ g.D.Disk.made g.X.SecretStore.made g.D.Disk.faults g.X.SecretStore.faults g.met.D.Disk.made_none (Some true) (commit_calls c.args.info.epoch c.args.seed c.args.share) c.args.devices.now _ refl refl refl c.put_both.ensures.later c.put_both.ensures.calls c.in_ok-put_both.ensures.all c.in_ok-put_both.ensures.not_cut
