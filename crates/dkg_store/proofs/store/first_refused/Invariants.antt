use Rattle.std.proofs.Common.{◌≡◌}
use Rattle.dkg_store.specs.Recorded.{of_epoch, first_refused}
use Rattle.dkg_store.proofs.store.first_refused.Given as goal

abbrev pub invariant-loop-dealer : goal.invariant-loop-dealer
invariant-loop-dealer g l = record {
  round : l.noting ≡ l.round;
  first : first_refused (g.C.Ceremony.dealing_of l.round l.me) l.dealer-iterator ≡ first_refused (g.C.Ceremony.dealing_of l.round l.me) (of_epoch l.fn.epoch l.dealings);
}
