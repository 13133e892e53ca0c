use Rattle.std.proofs.Common.{◌≡◌, ℕ, List, IfOk, is_some}
use Rattle.std.specs.Prelude.{not}
use Rattle.dkg_ceremony.specs.declared.dealer_log.DealerLog.{DealerLog}
use Rattle.dkg_store.specs.Player.{has_orphan}
use Rattle.dkg_store.specs.Recorded.{at_epoch}
use Rattle.std.proofs.Common.{subst}
use Rattle.dkg_store.proofs.store.Store.create_player.Goals as goal

pub returns-clause-some : goal.returns-clause-some
returns-clause-some g c =
    subst (λ (l : List (ℕ × DealerLog)). IfOk c.create_player_with_logs.result (λ made. is_some made ≡ not (has_orphan (λ dealer log. g.C.Ceremony.bears_ack_of c.args.round.now dealer log c.args.me) (at_epoch c.args.epoch c.args.self.now.dealings) l)))
    c.in_ok-logs.ensures c.create_player_with_logs.ensures.some
