use Rattle.std.proofs.Common.{BTreeMap, ◌≡◌, ℕ, ◌≤◌, length, sym, subst, ◌∙◌, ap, vec_capacity, arith}
use Rattle.dkg_ceremony.specs.declared.dealer_log.DealerLog.{DealerLog}
use Rattle.dkg_ceremony.specs.Outcomes.{LogMap}
use Rattle.dkg_artifact.specs.Found.{with_log}
use Rattle.dkg_artifact.proofs.Putting.{log_length}
use Rattle.dkg_artifact.proofs.lowest.Lowest.finish.Goals as goal

pub pairs_of-requires-clause-enough : goal.pairs_of-requires-clause-enough
pairs_of-requires-clause-enough c =
    let long = log_length c.args.log c.args.self.now in
    let room = c.in_ok-room.ensures.enough in
    let same : c.replace-logs.result.entries ≡ with_log c.args.log c.args.self.now = ap (λ (m : BTreeMap ℕ DealerLog). m.entries) c.replace-logs.ensures.value ∙ c.self.view_is ∙ c.in_ok-add.ensures.done in
    subst (λ (l : LogMap). length l ≤ vec_capacity c.in_ok-room.room) (sym same) (omega arith)

pub in_order-requires-clause-in_bound : goal.in_order-requires-clause-in_bound
in_order-requires-clause-in_bound c =
    let long = log_length c.args.log c.args.self.now in
    let few = c.in_ok-room.ensures.in_bound in
    let same : c.replace-logs.result.entries ≡ with_log c.args.log c.args.self.now = ap (λ (m : BTreeMap ℕ DealerLog). m.entries) c.replace-logs.ensures.value ∙ c.self.view_is ∙ c.in_ok-add.ensures.done in
    let size : length c.replace-logs.result.entries ≡ length (with_log c.args.log c.args.self.now) = ap (λ (l : LogMap). length l) same in
    omega (arith, c.pairs_of.ensures.count)
