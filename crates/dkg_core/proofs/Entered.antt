-- Which epochs are entered.
use Rattle.std.proofs.Common.{◌≡◌, ℕ, List, ◌∷◌, Bool, true, false, Option, Some, None, refl, sym, subst, arith}
use Rattle.std.specs.Prelude.{◌+◌, ◌==◌, ◌||◌, nat_lt, is_some, if◌then◌else◌}
use Rattle.std.specs.Option.{option_map_or}
use Rattle.std.proofs.lemmas.Bool.Decides.{nat_tests}
use Rattle.dkg_values.specs.Rising.{lookup}
use Rattle.dkg_ceremony.specs.Schedule.{last}
use Rattle.dkg_fence.specs.declared.fence.Waited.{Waited}
use Rattle.dkg_fence.specs.declared.fence.Waited.TheVariants.{Ready, Pending, Closed}
use Rattle.dkg_fence.specs.Fence.{waited}
use Rattle.dkg_fence.specs.Readiness.{Readiness}
use Rattle.dkg_types.specs.BlockCodes.{info_of}
use Rattle.dkg_infos.specs.declared.fault.Fault.TheVariants.{MissingEpochInfo, WrongEpoch, SkippedHeight}
use Rattle.dkg_infos.specs.declared.info.EpochInfo.{EpochInfo}
use Rattle.dkg_types.specs.declared.scheme.SchemeInfo.{SchemeInfo}
use Rattle.dkg_types.specs.Blocks.{Block}
use Rattle.dkg_infos.specs.declared.entry.Entry.TheVariants.{Entered}
use Rattle.dkg_core.specs.Courses.{Course, Say, Goes, Stops, bind, Deed, CalledOutside, Genesis, Tracks, StartsEngine}
use Rattle.dkg_core.specs.Fixed.{Fixed}
use Rattle.dkg_core.specs.Live.{Live, Orchestrator, Waiting, NodeStop, Faulted}
use Rattle.dkg_core.specs.Entering.{LifeAndAnswer, AcknowledgesBlock, Withholds, acked_late, active, delivered_in, enters, enters_at, is_ready, leaves, peers_for, starts_engine, stops_engine, tracks_peers, wait_for, waited_for, with_entered}
use Rattle.dkg_core.specs.Laws.{Law, Holds}
use Rattle.dkg_core.specs.Entered.{entering_law, EntersRegistered, LastBlocksAreEntered}
use Rattle.dkg_core.proofs.Holding.{holds_if, holds_option}

was_ready : (fence : Readiness) (epoch : ℕ) → wait_for fence epoch ≡ Ready → is_ready fence.ready epoch ≡ true
was_ready fence epoch =
    elim (is_ready fence.ready epoch) as (λ ready. (if ready then Ready else if fence.closed then Closed else Pending) ≡ Ready → ready ≡ true) [
      | true ↦ λ e. refl
      | false ↦ elim fence.closed as (λ closed. (if closed then Closed else Pending) ≡ Ready → false ≡ true) [ true ↦ λ e. absurd (let f : ◌≡◌ {A = Waited} Closed Ready = e in cc) | false ↦ λ e. absurd (let f : ◌≡◌ {A = Waited} Pending Ready = e in cc) ]
    ]

withheld : Withholds ≡ AcknowledgesBlock → ⊥
withheld e = cc

module _ {Dir : Type 0} (c : Fixed Dir) (st : Live Dir) (w : Waiting Dir) (past : List (Deed Dir)) where
  starts : (o : Orchestrator Dir) (found : Option SchemeInfo) → is_ready st.orchestrator.fence.ready w.epoch ≡ true → lookup w.epoch st.orchestrator.schemes ≡ found
      → Holds (entering_law st w.epoch) (CalledOutside (Tracks w.epoch (peers_for w) w.info.directory) ∷ past) (starts_engine o w found st)
  starts o None ready is = tt
  starts o (Some found) ready is = stopped o.entered
    where
      said : Course Dir NodeStop (LifeAndAnswer Dir)
      said = Say (Entered w.epoch) (leaves (with_entered w.epoch o) AcknowledgesBlock st)

      stopped : (old : Option ℕ) → Holds (entering_law st w.epoch) (CalledOutside (StartsEngine w.epoch w.floor found) ∷ CalledOutside (Tracks w.epoch (peers_for w) w.info.directory) ∷ past) (stops_engine old said)
      stopped None = (record { ready = ready; scheme = found; registered = is; started = (refl, refl, refl) }, λ e. refl)
      stopped (Some old) = (record { ready = ready; scheme = found; registered = is; started = (refl, refl, refl) }, λ e. refl)

  peers : (o : Orchestrator Dir) (lacking : Option ℕ) → is_ready st.orchestrator.fence.ready w.epoch ≡ true → lookup w.epoch st.orchestrator.schemes ≡ lookup w.epoch o.schemes
      → Holds (entering_law st w.epoch) past (tracks_peers o w lacking st)
  peers o (Some peer) ready is = tt
  peers o None ready is = starts o (lookup w.epoch o.schemes) ready is

  answer : (o : Orchestrator Dir) (answer : Waited) → (answer ≡ Ready → is_ready st.orchestrator.fence.ready w.epoch ≡ true) → lookup w.epoch st.orchestrator.schemes ≡ lookup w.epoch o.schemes
      → Holds (entering_law st w.epoch) past (waited_for c o w answer st)
  answer o Ready ready is = peers o (c.directories.lacking w.info.directory (peers_for w)) (ready refl) is
  answer o Pending ready is = λ e. absurd (withheld e)
  answer o Closed ready is = (tt, λ e. absurd (withheld e))

pub enters_registered : {Dir : Type 0} → EntersRegistered Dir
enters_registered c w st past =
    answer c st w past (record st.orchestrator { fence = waited w.epoch (wait_for st.orchestrator.fence w.epoch) st.orchestrator.fence }) (wait_for st.orchestrator.fence w.epoch) (was_ready st.orchestrator.fence w.epoch) refl

not_above : (a b : ℕ) → a ≡ b → nat_lt b a ≡ true → ⊥
not_above a b e above = grind (arith, nat_tests)

not_below : (a b : ℕ) → a ≡ b → nat_lt a b ≡ true → ⊥
not_below a b e below = grind (arith, nat_tests)

-- a half that is active waits for nothing
not_waiting : {Dir : Type 0} (halted : Bool) (entered : Option ℕ) (w : Waiting Dir) (epoch : ℕ) → (if halted || is_some (Some w) then None else entered) ≡ Some epoch → ⊥
not_waiting true entered w epoch e = absurd (let f : ◌≡◌ {A = Option ℕ} None (Some epoch) = e in cc)
not_waiting false entered w epoch e = absurd (let f : ◌≡◌ {A = Option ℕ} None (Some epoch) = e in cc)

module _ {Dir : Type 0} (c : Fixed Dir) (b : Block Dir) (epoch : ℕ) (past : List (Deed Dir)) (is : b.height ≡ last c.blocks_per_epoch epoch) where
  last_block : (st : Live Dir) → Holds (entering_law st (epoch + 1)) past (delivered_in c b st (Some epoch))
  last_block st =
      let law : Law Dir (LifeAndAnswer Dir) = entering_law st (epoch + 1) in
      let skips : Course Dir NodeStop (LifeAndAnswer Dir) = Stops (Faulted (SkippedHeight (last c.blocks_per_epoch epoch) b.height)) in
      let wrong : EpochInfo Dir → Course Dir NodeStop (LifeAndAnswer Dir) = λ info. Stops (Faulted (WrongEpoch (epoch + 1) info.epoch)) in
      let missing : Course Dir NodeStop (LifeAndAnswer Dir) = Stops (Faulted (MissingEpochInfo b.height)) in
      let goes : EpochInfo Dir → Course Dir NodeStop (LifeAndAnswer Dir) = λ info. enters c (record { epoch = epoch + 1; info = info; floor = Genesis b.digest; block = Some b.height }) st in
      holds_if law past (nat_lt (last c.blocks_per_epoch epoch) b.height) skips (if nat_lt b.height (last c.blocks_per_epoch epoch) then leaves st.orchestrator AcknowledgesBlock st else enters_at c b (epoch + 1) (Some b.height) st)
      (λ above. tt)
      (λ e. holds_if law past (nat_lt b.height (last c.blocks_per_epoch epoch)) (leaves st.orchestrator AcknowledgesBlock st) (enters_at c b (epoch + 1) (Some b.height) st)
      (λ below. absurd (not_below b.height (last c.blocks_per_epoch epoch) is below))
      (λ e. holds_option law past (info_of b.payload) (λ info. if info.epoch == epoch + 1 then goes info else wrong info) missing
      (λ info e. holds_if law past (info.epoch == epoch + 1) (goes info) (wrong info) (λ e. enters_registered c (record { epoch = epoch + 1; info = info; floor = Genesis b.digest; block = Some b.height }) st past) (λ e. tt)) (λ e. tt)))

  of_active : (st : Live Dir) (found : Option ℕ) → found ≡ Some epoch → Holds (entering_law st (epoch + 1)) past (delivered_in c b st found)
  of_active st found e = subst (λ (o : Option ℕ). Holds (entering_law st (epoch + 1)) past (delivered_in c b st o)) (sym e) (last_block st)

  unless_waiting : (st : Live Dir) (waiting : Option (Waiting Dir)) → st.orchestrator.waiting ≡ waiting → active st.orchestrator ≡ Some epoch
      → Holds (entering_law st (epoch + 1)) past (bind (option_map_or (λ w. bind (enters c w st) (acked_late w.block)) waiting (Goes st)) (λ st. delivered_in c b st (active st.orchestrator)))
  unless_waiting st None none e = of_active st (active st.orchestrator) e
  unless_waiting st (Some w) some e =
      absurd (not_waiting st.orchestrator.halted st.orchestrator.entered w epoch
      (subst (λ (o : Option (Waiting Dir)). (if st.orchestrator.halted || is_some o then None else st.orchestrator.entered) ≡ Some epoch) some e))

pub last_blocks_are_entered : {Dir : Type 0} → LastBlocksAreEntered Dir
last_blocks_are_entered c b st epoch past is_active is = unless_waiting c b epoch past is st st.orchestrator.waiting refl is_active
