use Rattle.std.proofs.Common.{◌≡◌, ℕ, ◌<◌, ◌≤◌, [], None}
use Rattle.std.specs.Prelude.{IsTrue}
use Rattle.std.specs.FinMap.{get}
use Rattle.dkg_secrets.proofs.secrets.SecretStore.get_share_below.Given as goal

abbrev pub invariant-loop-below : goal.invariant-loop-below
invariant-loop-below g l = record {
  same : g.Self.SecretStore.held l.self ≡ g.Self.SecretStore.held l.initial.self;
  faults : g.Self.SecretStore.faults l.initial.self ≤ g.Self.SecretStore.faults l.self;
  wants : g.Self.SecretStore.wants l.initial.self ≤ g.Self.SecretStore.wants l.self;
  calls : g.Self.SecretStore.made l.initial.self l.self [];
  none : IsTrue g.Self.SecretStore.tells → (k : ℕ) → l.below ≤ k → k < l.fn.epoch → get (g.Self.SecretStore.held l.initial.self).shares k ≡ None;
}
