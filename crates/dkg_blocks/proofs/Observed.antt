-- The log that a block carries, where it counts.
use Rattle.std.proofs.Common.{◌≡◌, ℕ, Bool, true, false, List, Option, Some, None, refl, sym, ◌∙◌, ap, subst}
use Rattle.std.specs.Prelude.{◌==◌, ◌&&◌, IfSome, IsTrue, if◌then◌else◌, option_and_then, option_map}
use Rattle.dkg_ceremony.specs.declared.round.RoundParts.{RoundParts as Round}
use Rattle.dkg_ceremony.specs.declared.signed_log.SignedDealerLog.{SignedDealerLog}
use Rattle.dkg_fence.specs.Readiness.{Readiness}
use Rattle.dkg_journal.specs.Names.{Files}
use Rattle.dkg_types.specs.Blocks.{Block}
use Rattle.dkg_types.specs.PayloadCodes.{its_log}
use Rattle.dkg_infos.specs.declared.entry.Entry.{Entry}
use Rattle.dkg_infos.specs.declared.fault.Fault.{Fault}
use Rattle.dkg_store.specs.Acts.{Moment, went}
use Rattle.dkg_store.specs.declared.dealer.Dealer.{Dealer}
use Rattle.dkg_store.specs.declared.devices.Devices.{Devices}
use Rattle.dkg_store.specs.declared.store.Store.{Store}
use Rattle.dkg_core.specs.Blocks as blocks
use Rattle.dkg_core.specs.Courses.{Course, Goes, bind, on_devices}
use Rattle.dkg_core.specs.Fixed.{Fixed, has}
use Rattle.dkg_core.specs.Live as core
use Rattle.dkg_core.specs.Live.{Live}
use Rattle.dkg_core.specs.Logs as recorded
use Rattle.dkg_life.specs.Ready.{IsReadyLife}
use Rattle.dkg_blocks.specs.CarriedLogs.{cleared_of, forgotten}
use Rattle.dkg_life.specs.declared.config.Terms.{Terms}
use Rattle.dkg_life.specs.declared.life.Life.{Life}
use Rattle.dkg_life.specs.declared.stop.Stop.{Stop}
use Rattle.dkg_life.specs.Ends.{by_stop}
use Rattle.dkg_life.specs.LiveOf.{Beside, DealsIn, dealer_of, live_of}
use Rattle.dkg_life.specs.Made.{MakesAt, Speaks, Tells}
use Rattle.dkg_life.specs.Moved.{IsFirm}
use Rattle.dkg_life.specs.Rules.{AckOf, CheckAckOf, CheckLogOf, DealOf}
use Rattle.dkg_life.proofs.Burning.{makes_nothing}
use Rattle.dkg_life.proofs.Chained.{early_makes, early_told, then_makes, then_told}
use Rattle.dkg_life.proofs.Committing.{goes_told}
use Rattle.dkg_life.proofs.Dealt.{seated_beside}
use Rattle.dkg_life.proofs.Speaking.{goes_speaks}

-- THE OWN LOG, once a block carries it

module _ {Dir : Type 0} (c : Fixed Dir) (me dealer : ℕ) (mine : c.me ≡ me) (beside : Beside Dir) (fence : Readiness) (life : Life Dir) where
  abbrev its_live : Option core.Dealer → Live Dir
  its_live its = core.with_participation (record (live_of beside fence life).participation { dealer = its }) (live_of beside fence life)

  -- in memory and in the relation
  cleared_alike : (own : Bool) (its : Option Dealer)
      → its_live (option_map dealer_of (if own then option_map forgotten its else its)) ≡ (if own then its_live (option_map blocks.unoffered (option_map dealer_of its)) else its_live (option_map dealer_of its))
  cleared_alike true None = refl
  cleared_alike true (Some d) = refl
  cleared_alike false its = refl

  pub own_cleared : live_of beside fence (record life { dealer = cleared_of me dealer life.dealer }) ≡ blocks.without_own_log c dealer (live_of beside fence life)
  own_cleared =
      cleared_alike (dealer == me) life.dealer
      ∙ ap (λ (k : ℕ). if dealer == k then its_live (option_map blocks.unoffered (option_map dealer_of life.dealer)) else live_of beside fence life) (sym mine)

-- .. which is nothing where it is another's
pub cleared_other : (me dealer : ℕ) (its : Option Dealer) → (dealer == me) ≡ false → cleared_of me dealer its ≡ its
cleared_other me dealer its apart = ap (λ (own : Bool). if own then option_map forgotten its else its) apart

-- A life stays ready, where its store keeps its dealings.
module _ {Dir D X : Type 0} (tells : Bool) (files : D → Files) (image : D → Files → Type 0) (ack_of : AckOf) (deal_of : DealOf) (check_ack_of : CheckAckOf) (terms : Terms) (life : Life Dir) (devices next : Devices D X)
    (ready : IsReadyLife tells files image ack_of deal_of check_ack_of terms life devices)
  where
    pub ready_logged : (store : Store Dir) (dealer : ℕ) → store.dealings ≡ life.store.dealings → (IsTrue tells → IsFirm store.journal (files next.disk.now) (image next.disk.now))
        → IsReadyLife tells files image ack_of deal_of check_ack_of terms (record life { store = store; dealer = cleared_of terms.me dealer life.dealer }) next
    ready_logged store dealer pairs firm = record {
      seated = seated_beside ack_of terms.me life store (cleared_of terms.me dealer life.dealer) pairs ready.seated;
      dealing = deals (dealer == terms.me) life.dealer ready.dealing;
      placed = record {
        epoch_is = ready.placed.epoch_is;
        midpoint_is = ready.placed.midpoint_is;
        in_range = ready.placed.in_range;
        ended = ready.placed.ended;
        joins = ready.placed.joins;
        early = ready.placed.early;
      };
      within = ready.within;
      firm = firm;
    }
      where
        deals : (own : Bool) (its : Option Dealer) → IfSome its (DealsIn deal_of check_ack_of terms.me life)
            → IfSome (if own then option_map forgotten its else its) (DealsIn deal_of check_ack_of terms.me (record life { store = store; dealer = cleared_of terms.me dealer life.dealer }))
        deals true None is = tt
        deals false None is = tt
        deals true (Some d) is = record {
          round = is.round;
          has = is.has;
          deals = record {
            me_is = is.deals.me_is;
            round_is = is.deals.round_is;
            is = record { among = is.deals.is.among; share = is.deals.is.share; seed = is.deals.is.seed; dealt = is.deals.is.dealt; passed = is.deals.is.passed };
          };
          is_open = is.is_open;
          unsigned = λ at. refl;
        }
        deals false (Some d) is = record { round = is.round; has = is.has; deals = is.deals; is_open = is.is_open; unsigned = is.unsigned }

-- WHETHER IT COUNTS

pub counts_as : {Dir : Type 0} (c : Fixed Dir) (check_log_of : CheckLogOf) (checks : c.rules.check_log_of ≡ check_log_of) (round : Round) (signed : SignedDealerLog) (test : Bool)
    → test ≡ (has round.dealers signed.dealer && check_log_of round signed) → recorded.is_accepted c round signed ≡ test
counts_as c check_log_of checks round signed test is = ap (λ (check : CheckLogOf). has round.dealers signed.dealer && check round signed) checks ∙ sym is

module _ {Dir : Type 0} (c : Fixed Dir) (round : Round) (b : Block Dir) (st : Live Dir) where
  abbrev pub whole : Course Dir Fault (Live Dir)
  whole = blocks.observes c round b st (option_and_then its_log b.payload)

  -- no log is carried
  pub bare_speaks : (end : Live Dir) → end ≡ st → option_and_then its_log b.payload ≡ None → (out : List Entry) → Speaks whole (went end) out out
  bare_speaks end same none out = goes_speaks whole end st (ap (λ (o : Option SignedDealerLog). blocks.observes c round b st o) none) same out

  module _ (signed : SignedDealerLog) (carried : option_and_then its_log b.payload ≡ Some signed) where
    abbrev recording : Course Dir Fault (Live Dir)
    recording = blocks.records_log round.number b.height signed st

    abbrev clearing : Live Dir → Course Dir Fault (Live Dir)
    clearing mid = Goes (blocks.without_own_log c signed.dealer mid)

    observes_as : (test : Bool) → recorded.is_accepted c round signed ≡ test → whole ≡ (if test then bind recording clearing else Goes st)
    observes_as test counts = ap (λ (o : Option SignedDealerLog). blocks.observes c round b st o) carried ∙ ap (λ (t : Bool). if t then bind recording clearing else Goes st) counts

    -- it doesn't count
    pub passed_over : (end : Live Dir) → end ≡ st → recorded.is_accepted c round signed ≡ false → (out : List Entry) → Speaks whole (went end) out out
    passed_over end same counts out = goes_speaks whole end st (observes_as false counts) same out

    module _ (counts : recorded.is_accepted c round signed ≡ true) where
      pub observed_makes : (mid end : Live Dir) → end ≡ blocks.without_own_log c signed.dealer mid → {files files_now : Files} {image now : Files → Type 0} {old new : Moment}
          → MakesAt (on_devices recording) (went mid) files image files_now now old new → MakesAt (on_devices whole) (went end) files image files_now now old new
      observed_makes mid end is {files} {files_now} {image} {now} {old} {new} first =
          subst (λ (x : Course Dir Fault (Live Dir)). MakesAt (on_devices x) (went end) files image files_now now old new) (sym (observes_as true counts))
          (then_makes recording clearing mid (went end) first (makes_nothing files_now now new is))

      pub observed_told : (mid end : Live Dir) → end ≡ blocks.without_own_log c signed.dealer mid → {out now : List Entry} → Tells recording (went mid) out now → Tells whole (went end) out now
      observed_told mid end is {out} {now} first =
          subst (λ (x : Course Dir Fault (Live Dir)). Tells x (went end) out now) (sym (observes_as true counts))
          (then_told recording clearing mid (went end) first (subst (λ (e : Live Dir). Tells (clearing mid) (went e) now now) (sym is) (goes_told Dir (blocks.without_own_log c signed.dealer mid) now)))

      pub unrecorded_makes : (stop : Stop) {files files_now : Files} {image now : Files → Type 0} {old new : Moment}
          → MakesAt (on_devices recording) (by_stop stop) files image files_now now old new → MakesAt (on_devices whole) (by_stop stop) files image files_now now old new
      unrecorded_makes stop {files} {files_now} {image} {now} {old} {new} first =
          subst (λ (x : Course Dir Fault (Live Dir)). MakesAt (on_devices x) (by_stop stop) files image files_now now old new) (sym (observes_as true counts)) (early_makes recording clearing stop first)

      pub unrecorded_told : (stop : Stop) {out now : List Entry} → Tells recording (by_stop stop) out now → Tells whole (by_stop stop) out now
      unrecorded_told stop {out} {now} first =
          subst (λ (x : Course Dir Fault (Live Dir)). Tells x (by_stop stop) out now) (sym (observes_as true counts)) (early_told recording clearing stop first)
