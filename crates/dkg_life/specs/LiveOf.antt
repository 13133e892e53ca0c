-- What an actor has in memory, as the relation's Live.
use Rattle.std.specs.Prelude.{ℕ, Bool, true, false, [], ◌∷◌, ◌++◌, reverse, IsTrue, List, ◌≡◌, ◌≤◌, ◌<◌, ◌+◌, ◌^◌, Contains, Option, Some, None, option_map, IfSome, IsSome, IsSomeAnd, length}
use Rattle.std.specs.FinMap as maps
use Rattle.dkg_ceremony.specs.declared.round.RoundParts.{RoundParts as Round}
use Rattle.std.specs.Option.{option_map_or}
use Rattle.dkg_ceremony.specs.Schedule.{epoch_of, last, midpoint}
use Rattle.dkg_fence.specs.Readiness.{Readiness}
use Rattle.dkg_types.specs.Schemes.{scheme_of}
use Rattle.dkg_infos.specs.declared.info.EpochInfo.{EpochInfo}
use Rattle.dkg_types.specs.declared.scheme.SchemeInfo.{SchemeInfo}
use Rattle.dkg_store.specs.declared.store.Store.{Store}
use Rattle.dkg_store.specs.Dealer.{IsDealerOf}
use Rattle.dkg_store.specs.Player.{IsPlayerOf}
use Rattle.dkg_store.specs.declared.dealer.Dealer.{Dealer}
use Rattle.dkg_store.specs.declared.player.Player.{Player}
use Rattle.dkg_core.specs.Core.{no_inclusion, no_orchestrator, no_probe}
use Rattle.dkg_core.specs.Live.{Live, Records, Participation, Stage, Seat, Plays, Watches, Inclusion, Orchestrator, Probe}
use Rattle.dkg_core.specs.Live.{Deals, Includes, Follows}
use Rattle.dkg_core.specs.Live as live
use Rattle.dkg_life.specs.declared.life.Life.{Life}
use Rattle.dkg_life.specs.declared.life.Stage as declared
use Rattle.dkg_life.specs.declared.life.Stage.TheVariants as stage
use Rattle.dkg_life.specs.Rules.{DealOf, CheckAckOf}

-- A player is one of the round's, under this node's key, and keeps acknowledgements of recorded dealings alone.
pub record SitsIn {Dir : Type 0} (ack_of : ℕ → Round → ℕ → List ℕ → List ℕ) (me : ℕ) (store : Store Dir) (round : Round) (player : Player) : Type 0 where
  pub me_is : player.me ≡ me
  pub round_is : player.round ≡ round
  pub plays : Contains round.players me
  pub kept : IsPlayerOf ack_of me round player.acks store.dealings round.number

-- .. of its own round, which is that of this epoch
pub record SitsAt {Dir : Type 0} (ack_of : ℕ → Round → ℕ → List ℕ → List ℕ) (me epoch : ℕ) (store : Store Dir) (player : Player) : Type 0 where
  pub number : epoch ≡ player.round.number
  pub sits : SitsIn ack_of me store player.round player

-- .. of this life
pub record Sits {Dir : Type 0} (ack_of : ℕ → Round → ℕ → List ℕ → List ℕ) (me : ℕ) (l : Life Dir) (player : Player) : Type 0 where
  pub round : Round
  pub has : l.round ≡ Some round
  pub sits : SitsIn ack_of me l.store round player

-- what holds of a life between two calls
abbrev pub PlayerSits : {Dir : Type 0} → (ack_of : ℕ → Round → ℕ → List ℕ → List ℕ) → (me : ℕ) → Life Dir → Type 0
PlayerSits ack_of me l = IfSome l.player (Sits ack_of me l)

-- A dealer is this node's in the round: what some share and seed deal there, with acknowledgements that pass.
pub record DealsFor (deal_of : DealOf) (check_ack_of : CheckAckOf) (me : ℕ) (round : Round) (dealer : Dealer) : Type 0 where
  pub me_is : dealer.me ≡ me
  pub round_is : dealer.round ≡ round
  pub is : IsDealerOf deal_of check_ack_of dealer

-- .. and its log is not made yet
pub record IsToSign (deal_of : DealOf) (check_ack_of : CheckAckOf) (me : ℕ) (has : Option Round) (dealer : Dealer) : Type 0 where
  pub round : Round
  pub has_it : has ≡ Some round
  pub deals : DealsFor deal_of check_ack_of me round dealer
  pub is_open : dealer.is_open ≡ true

-- .. of this life; while dealing no log is made
pub record DealsIn {Dir : Type 0} (deal_of : DealOf) (check_ack_of : CheckAckOf) (me : ℕ) (l : Life Dir) (dealer : Dealer) : Type 0 where
  pub round : Round
  pub has : l.round ≡ Some round
  pub deals : DealsFor deal_of check_ack_of me round dealer
  pub is_open : l.stage ≡ stage.Dealing → dealer.is_open ≡ true
  pub unsigned : l.stage ≡ stage.Dealing → dealer.finalized ≡ None

-- what holds of a life's dealer between two calls
abbrev pub IsDealing : {Dir : Type 0} → DealOf → CheckAckOf → (me : ℕ) → Life Dir → Type 0
IsDealing deal_of check_ack_of me l = IfSome l.dealer (DealsIn deal_of check_ack_of me l)

-- A life's round has no more players than this.
abbrev pub IsRoundWithin : (limit : ℕ) → Option Round → Type 0
IsRoundWithin limit has = IfSome has (λ round. length round.players ≤ limit)

-- no epoch is ready
abbrev pub no_fence : Readiness
no_fence = record { ready = None; closed = false; awaited = None }

-- what of a node's memory is not the life's: what inclusion has, the orchestrator's half but the fence, and the probe
pub record Beside (Dir : Type 0) : Type 0 where
  pub inclusion : Inclusion Dir
  pub orchestrator : Orchestrator Dir
  pub probe : Probe Dir

-- at the start of a life
abbrev pub nothing_beside : {Dir : Type 0} → Beside Dir
nothing_beside = record { inclusion = no_inclusion; orchestrator = no_orchestrator; probe = no_probe }

abbrev pub records_of : {Dir : Type 0} → Store Dir → Records
records_of store = record { dealings = maps.entries store.dealings; acks = maps.entries store.acks; logs = maps.entries store.logs }

abbrev pub stage_of : declared.Stage → Stage
stage_of stage.Dealing = Deals
stage_of stage.Including = Includes
stage_of stage.Following = Follows

abbrev pub seat_of : Option Player → Seat
seat_of None = Watches
seat_of (Some player) = Plays

-- a dealer's log is signed while it is offered
abbrev pub dealer_of : Dealer → live.Dealer
dealer_of d = record { public = d.public; privates = d.privates; acks = maps.entries d.acks; log = d.finalized }

abbrev pub participation_of : {Dir : Type 0} → Life Dir → Participation Dir
participation_of l = record {
  epoch = l.epoch;
  stage = stage_of l.stage;
  round = l.round;
  dealer = option_map dealer_of l.dealer;
  seat = seat_of l.player;
  current = l.store.current;
}

-- the whole node's memory, with this fence
abbrev pub live_of : {Dir : Type 0} → Beside Dir → Readiness → Life Dir → Live Dir
live_of beside fence l = record {
  records = records_of l.store;
  tip = l.tip;
  participation = participation_of l;
  inclusion = beside.inclusion;
  orchestrator = record beside.orchestrator { fence = fence };
  probe = beside.probe;
}

-- the same node, whose registrar took this scheme last
abbrev pub with_scheme : {Dir : Type 0} → (epoch : ℕ) → SchemeInfo → Beside Dir → Beside Dir
with_scheme epoch scheme beside = record beside { orchestrator = record beside.orchestrator { schemes = (epoch, scheme) ∷ beside.orchestrator.schemes } }

-- what an info registers, with this share or without one
abbrev pub scheme_by : {Dir : Type 0} → (me : ℕ) → EpochInfo Dir → (share : Option ℕ) → ℕ × SchemeInfo
scheme_by me info share = (info.epoch, scheme_of me info.output.players info.output.sharing share)

abbrev pub with_scheme_of : {Dir : Type 0} → (me : ℕ) → EpochInfo Dir → (share : Option ℕ) → Beside Dir → Beside Dir
with_scheme_of me info share beside = with_scheme info.epoch (scheme_of me info.output.players info.output.sharing share) beside

-- Where the registrar tells, it took these schemes, of which the last to come is the first here.
abbrev pub TookSchemes : Bool → (old new schemes : List (ℕ × SchemeInfo)) → Type 0
TookSchemes tells old new schemes = IsTrue tells → new ≡ old ++ reverse schemes

-- What is not the life's is as it was, but for schemes that were registered, and the registrar took just these.
pub record EndsBeside {Dir : Type 0} (old : Beside Dir) (TookThese : List (ℕ × SchemeInfo) → Type 0) (P : Beside Dir → Type 0) : Type 0 where
  pub now : Beside Dir
  pub inclusion : now.inclusion ≡ old.inclusion
  pub more : List (ℕ × SchemeInfo)
  pub schemes : now.orchestrator.schemes ≡ more ++ old.orchestrator.schemes
  pub took : TookThese more
  pub probe : now.probe ≡ old.probe
  pub orchestrator : now.orchestrator ≡ record old.orchestrator { schemes = now.orchestrator.schemes }
  pub holds : P now

-- .. where what inclusion has became such
pub record EndsWith {Dir : Type 0} (old : Beside Dir) (IsNow : Inclusion Dir → Type 0) (TookThese : List (ℕ × SchemeInfo) → Type 0) (P : Beside Dir → Type 0) : Type 0 where
  pub now : Beside Dir
  pub inclusion : IsNow now.inclusion
  pub more : List (ℕ × SchemeInfo)
  pub schemes : now.orchestrator.schemes ≡ more ++ old.orchestrator.schemes
  pub took : TookThese more
  pub probe : now.probe ≡ old.probe
  pub orchestrator : now.orchestrator ≡ record old.orchestrator { schemes = now.orchestrator.schemes }
  pub holds : P now

-- the height above a life's position
abbrev pub awaited_of : {Dir : Type 0} → Life Dir → ℕ
awaited_of l = option_map_or (λ t. t.height + 1) l.tip 0

-- Unless it follows, a life has a round, and its epoch is that of the awaited height. It deals as long as that is below the epoch's midpoint, and includes from there on.
pub record IsPlaced {Dir : Type 0} (blocks : ℕ) (l : Life Dir) : Type 0 where
  pub epoch_is : (l.stage ≡ stage.Following → ⊥) → l.epoch ≡ epoch_of blocks (awaited_of l)
  pub midpoint_is : (l.stage ≡ stage.Following → ⊥) → l.midpoint ≡ midpoint blocks l.epoch
  pub in_range : (l.stage ≡ stage.Following → ⊥) → last blocks l.epoch < 2 ^ 64
  pub joins : (l.stage ≡ stage.Following → ⊥) → IsSome l.round
  pub early : l.stage ≡ stage.Dealing → awaited_of l < l.midpoint
  pub ended : l.stage ≡ stage.Including → IsSomeAnd l.tip (λ t. l.midpoint ≤ t.height + 1)
