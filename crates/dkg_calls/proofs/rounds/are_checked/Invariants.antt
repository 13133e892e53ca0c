use Rattle.std.proofs.Common.{◌≡◌, ℕ, take, Ok}
use Rattle.std.specs.List.{AllByRecursion}
use Rattle.dkg_calls.proofs.rounds.are_checked.Given as goal

abbrev pub invariant-loop-dealer : goal.invariant-loop-dealer
invariant-loop-dealer g l = AllByRecursion (λ p. g.C.Ceremony.dealing_of l.round l.me p.0 p.1.0 p.1.1 ≡ Ok tt) (take l.dealer-index l.dealer-items)
