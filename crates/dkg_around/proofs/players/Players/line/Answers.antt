use Rattle.std.proofs.Common.{ltb, arith, nat_lt, refl, rules, sym, ◌∙◌}
use Rattle.std.proofs.lemmas.Bool.{ltb-true}
use Rattle.std.proofs.lemmas.List.Sorted.{IsPartitionPoint-from_clause}
use Rattle.std.proofs.lemmas.Option.{slice_get_read}
use Rattle.dkg_around.proofs.LinesFound.{found_at, none_at, none_other, none_past, parted, same_epoch}
use Rattle.dkg_around.proofs.players.Players.line.Goals.{in_default-via-in-Some+else-eq, in_default-via-in_default}
use Rattle.dkg_around.proofs.players.Players.line.Goals as goal

pub returns-in-Some : goal.returns-in-Some
returns-in-Some c =
    let lines = c.args.self.now.lines.now in
    let point = IsPartitionPoint-from_clause (λ y. ltb y.epoch c.args.epoch) _ _ c.partition_point-at.ensures.partitioned (parted c.args.epoch lines c.args.self.now.rising) (λ a r q k. search rules) in
    sym (found_at c.args.epoch lines c.partition_point-at.result point c.in-Some.line.now
    (slice_get_read lines _ c.partition_point-at.result c.in-Some.line.now refl (ltb-true _ _ (sym c.in-Some.ensures.lookup.0)) c.in-Some.ensures.lookup.1) (same_epoch c.in-Some.line.now.epoch c.args.epoch (sym c.if-eq.ensures)))

pub returns-in_default : goal.returns-in_default
returns-in_default c =
    let lines = c.args.self.now.lines.now in
    let point = IsPartitionPoint-from_clause (λ y. ltb y.epoch c.args.epoch) _ _ c.partition_point-at.ensures.partitioned (parted c.args.epoch lines c.args.self.now.rising) (λ a r q k. search rules) in
    sym (none_at c.args.epoch lines c.args.self.now.rising c.partition_point-at.result point
    (elim c.in_default.branch [
      | in_default-via-in-Some+else-eq w ↦ none_other c.args.epoch lines c.partition_point-at.result w.in-Some.line.now
          (slice_get_read lines _ c.partition_point-at.result w.in-Some.line.now refl (ltb-true _ _ (sym w.in-Some.ensures.lookup.0)) w.in-Some.ensures.lookup.1) (sym w.if-eq.ensures)
      | in_default-via-in_default w ↦ none_past c.args.epoch lines c.partition_point-at.result (sym w.in_default.ensures.lookup.0)
    ]))
