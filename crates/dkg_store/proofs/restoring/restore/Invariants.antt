use Rattle.std.proofs.Common.{◌≡◌, ◌<◌, ◌≤◌, [], take, drop, map}
use Rattle.dkg_store.specs.Corrupt.{BeginsWithEvent}
use Rattle.dkg_store.specs.Events.{no_event_at}
use Rattle.dkg_store.specs.Noted.{acks_in, logs_in}
use Rattle.dkg_store.specs.Pairs.{recovered}
use Rattle.dkg_journal.specs.Views.{view, views}
use Rattle.std.specs.Bool.{IsTrue}
use Rattle.dkg_store.proofs.restoring.restore.Given as goal

abbrev pub invariant-loop-entry : goal.invariant-loop-entry
invariant-loop-entry g l = record {
  given : IsTrue g.X.SecretStore.tells → l.recorded.dealings ≡ recovered (map view (take l.entry-index l.entries)) (g.X.SecretStore.held l.initial.secrets);
  acks : l.recorded.acks ≡ acks_in (map view (take l.entry-index l.entries));
  logs : l.recorded.logs ≡ logs_in (map view (take l.entry-index l.entries));
  same : g.X.SecretStore.held l.secrets ≡ g.X.SecretStore.held l.initial.secrets;
  later : g.X.SecretStore.faults l.initial.secrets ≤ g.X.SecretStore.faults l.secrets;
  events : no_event_at l.limit (drop l.entry-index l.entries) ≡ no_event_at l.limit l.entries;
  first : 0 < l.entry-index → BeginsWithEvent l.limit (views l.entries);
  calls : g.X.SecretStore.made l.initial.secrets l.secrets [];
}
