use Rattle.std.proofs.Common.{◌≡◌, ◌++◌, Some, length}
use Rattle.std.specs.Prelude.{IsSomeAnd, IsTrue}
use Rattle.std.specs.Int.NonZero.{non_zero_u32_get}
use Rattle.std.specs.List.{AllByRecursion}
use Rattle.std.specs.Vec.Iter.{into_iter_items, into_iter_len}
use Rattle.dkg_ceremony.specs.declared.round.RoundParts.{RoundParts as Round}
use Rattle.dkg_fence.specs.Readiness.{Readiness}
use Rattle.dkg_store.specs.Acts.{went}
use Rattle.dkg_store.specs.Corrupt.{AreFit}
use Rattle.dkg_store.specs.declared.dealer.Dealer.{Dealer}
use Rattle.dkg_core.specs.Dealing as dealing
use Rattle.dkg_core.specs.Fixed.{Fixed}
use Rattle.dkg_life.specs.Ready.{IsReadyLife}
use Rattle.dkg_life.specs.Given.{IsOf}
use Rattle.dkg_life.specs.LiveOf.{Beside, live_of}
use Rattle.dkg_life.specs.Made.{Makes, Tells}
use Rattle.dkg_life.specs.Moved.{Moved}
use Rattle.dkg_life.specs.Rules.{AnswersBy}
use Rattle.dkg_life.specs.Steps.{SameHalves, private_halves_of}
use Rattle.dkg_life.proofs.Offered.{IsHalf}
use Rattle.dkg_dealing.proofs.offers.offer_all.Given as goal

abbrev pub invariant-loop-player : goal.invariant-loop-player
invariant-loop-player g l = record {
  ready : IsReadyLife g.D.Disk.tells g.D.Disk.files g.D.Disk.image g.C.Ceremony.ack_of g.C.Ceremony.deal_of g.C.Ceremony.check_ack_of l.terms l.life l.devices;
  rest : l.life ≡ record l.initial.life { store = l.life.store; dealer = l.life.dealer; player = l.life.player };
  current : l.life.store.current ≡ l.initial.life.store.current;
  stays : SameHalves l.initial.life.dealer l.life.dealer;
  halves : IsSomeAnd l.life.dealer (λ dealer. AllByRecursion (IsHalf dealer.public dealer.privates) (into_iter_items l.player-iterator));
  are : l.yielded ++ into_iter_items l.player-iterator ≡ l.fn.unsent.items;
  count : into_iter_len l.player-iterator ≡ length (into_iter_items l.player-iterator);
  acts : IsTrue g.D.Disk.tells → IsTrue g.X.SecretStore.tells → (c : Fixed g.row.Dir.Denot) (round : Round) (dealer : Dealer) (beside : Beside g.row.Dir.Denot) (fence : Readiness)
      → IsOf l.terms c → AnswersBy g.C.Ceremony.dealing_of g.C.Ceremony.ack_of g.C.Ceremony.check_ack_of c.rules → l.initial.life.round ≡ Some round → l.initial.life.dealer ≡ Some dealer
      → Makes g.D.Disk.files g.D.Disk.image g.X.SecretStore.held (dealing.offers c round dealer.public (private_halves_of l.yielded) (live_of beside fence l.initial.life))
      (went (live_of beside fence l.life)) l.initial.devices l.devices l.initial.out.entries l.out.entries;
  tells : (c : Fixed g.row.Dir.Denot) (round : Round) (dealer : Dealer) (beside : Beside g.row.Dir.Denot) (fence : Readiness)
      → IsOf l.terms c → AnswersBy g.C.Ceremony.dealing_of g.C.Ceremony.ack_of g.C.Ceremony.check_ack_of c.rules → l.initial.life.round ≡ Some round → l.initial.life.dealer ≡ Some dealer
      → Tells (dealing.offers c round dealer.public (private_halves_of l.yielded) (live_of beside fence l.initial.life)) (went (live_of beside fence l.life)) l.initial.out.entries l.out.entries;
  moved : Moved g.D.Disk.tells g.D.Disk.made g.X.SecretStore.made g.D.Disk.faults g.X.SecretStore.faults l.initial.devices l.devices;
  fit : IsTrue g.D.Disk.tells → AreFit (non_zero_u32_get l.terms.limit) (g.D.Disk.image l.initial.devices.disk.now) → AreFit (non_zero_u32_get l.terms.limit) (g.D.Disk.image l.devices.disk.now);
}
