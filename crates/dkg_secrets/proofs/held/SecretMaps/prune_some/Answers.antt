use Rattle.std.proofs.Common.{◌∙◌}
use Rattle.dkg_secrets.specs.Cuts.{pruned_by}
use Rattle.dkg_secrets.proofs.Cuts.{pruned_is, pruned_torn}
use Rattle.dkg_secrets.proofs.held.SecretMaps.prune_some.Goals as goal

pub returns-clause-done : goal.returns-clause-done
returns-clause-done c =
    pruned_is c.min.inside.0 c.args.pick (record { shares = c.self.inside.shares; seeds = c.self.inside.seeds; privates = c.self.inside.privates }) c.deref.result.now c.deref-2.result.now c.deref-3.result.now _ _ _ _ _
    (c.deref.ensures.value ∙ c.in_ok-shares.ensures) (c.deref-2.ensures.value ∙ c.in_ok-seeds.ensures) (c.deref-3.ensures.value ∙ c.in_ok-privates.ensures)
    c.remove_some-index.ensures.cleared c.remove_some-index.ensures.behind c.remove_some-index-2.ensures.cleared c.remove_some-index-2.ensures.behind c.remove_some-index-3.ensures.cleared
    ∙ (λ i. pruned_by (c.min.view_is i) c.args.pick (c.self.view_is i))

pub returns-clause-torn : goal.returns-clause-torn
returns-clause-torn c = pruned_torn c.args.min c.args.pick c.args.self.now _ (returns-clause-done c)
