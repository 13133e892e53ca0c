-- Setup of an epoch: its info, the share and the seed, commit and registration, the prune, and this node's parts in the round.
use Rattle.std.specs.Prelude.{ℕ, Bool, true, false, not, List, [], ◌∷◌, ◌-◌, ◌^◌, ◌==◌, ◌&&◌, ◌||◌, nat_lt, nat_le, length, filter, Option, Some, None, is_some, is_none, is_ok, option_map, option_and_then, Result, Ok, Err, if◌then◌else◌}
use Rattle.std.specs.Option.{option_map_or, option_or}
use Rattle.std.specs.List.{list_any}
use Rattle.dkg_values.specs.Rising.{lookup}
use Rattle.dkg_ceremony.specs.declared.deal.DealError.{DealError}
use Rattle.dkg_ceremony.specs.declared.output.Output.{Output}
use Rattle.dkg_ceremony.specs.declared.phase.Phase.{Phase}
use Rattle.dkg_ceremony.specs.declared.phase.Phase.TheVariants.{Early, Midpoint, Late}
use Rattle.dkg_ceremony.specs.declared.round.RoundParts.{RoundParts as Round}
use Rattle.dkg_ceremony.specs.declared.round.RoundError.{RoundError}
use Rattle.dkg_ceremony.specs.Deals.{fresh_seed}
use Rattle.dkg_ceremony.specs.Finishes.{has_public}
use Rattle.dkg_ceremony.specs.Outcomes.{LogMap}
use Rattle.dkg_ceremony.specs.Schedule.{epoch_of, boundary, last}
use Rattle.dkg_ceremony.specs.Thresholds.{max_faults_of}
use Rattle.dkg_fence.specs.Fence.{marked}
use Rattle.dkg_secrets.specs.Secrets.{newest_below}
use Rattle.dkg_types.specs.Blocks.{Block}
use Rattle.dkg_types.specs.BlockCodes.{info_of}
use Rattle.dkg_infos.specs.declared.entry.Entry.TheVariants.{Committed, Registered, Setup}
use Rattle.dkg_infos.specs.declared.entry.Part.{Part}
use Rattle.dkg_infos.specs.declared.entry.Part.TheVariants.{Follow, Player, Dealer as Deals_alone, Both, Observer}
use Rattle.dkg_infos.specs.declared.entry.Role.{Role}
use Rattle.dkg_infos.specs.declared.entry.Role.TheVariants.{Signer, Member, Verifier}
use Rattle.dkg_infos.specs.declared.fault.Fault.{Fault}
use Rattle.dkg_infos.specs.declared.fault.Fault.TheVariants.{HeightRange, MissingEpochInfo, WrongEpoch, InvalidParticipants, LocalState}
use Rattle.dkg_infos.specs.declared.fault.LocalCause.TheVariants.{ShareRefused, StoredDealing}
use Rattle.dkg_infos.specs.declared.fault.ParticipantsCause.TheVariants.{Refused, Round as NoRound}
use Rattle.dkg_infos.specs.declared.info.EpochInfo.{EpochInfo}
use Rattle.dkg_infos.specs.declared.outcome.EpochOutcome.{EpochOutcome}
use Rattle.dkg_infos.specs.declared.outcome.EpochOutcome.TheVariants.{Success, Failure}
use Rattle.dkg_infos.specs.declared.participants.Participants.{Participants}
use Rattle.dkg_infos.specs.declared.participants.ParticipantsError.{ParticipantsError}
use Rattle.dkg_types.specs.declared.scheme.SchemeInfo.{SchemeInfo}
use Rattle.dkg_types.specs.declared.scheme.SchemeInfo.TheVariants.{Verifier as Verifies, Member as IsMember, Signer as Signs}
use Rattle.dkg_types.specs.Schemes.{scheme_of}
use Rattle.dkg_infos.specs.Validation.{validation}
use Rattle.dkg_store.specs.Acts.{OnDisk, Changes}
use Rattle.dkg_store.specs.Dealer.{with_held, with_unsent}
use Rattle.dkg_journal.specs.Operations.{Prunes}
use Rattle.dkg_core.specs.Courses.{Course, Say, Do, CallOutside, Ask, Goes, Stops, Marks, bind}
use Rattle.dkg_store.specs.Recorded.{Pair, first_refused}
use Rattle.dkg_secrets.specs.declared.secrets.SecretOp.TheVariants.{PutShare, PutSeed, Prune}
use Rattle.dkg_core.specs.Seen.{Seen}
use Rattle.dkg_core.specs.Fixed.{Fixed, has}
use Rattle.dkg_core.specs.Live.{Live, Records, Dealer, Seat, Plays, Watches, Deals, Includes, Follows, awaited_height, phase_of, records_of_epoch, with_participation, with_inclusion, with_orchestrator}
use Rattle.dkg_core.specs.Logs.{logs_of}

-- READS

-- The devices are read.
abbrev pub looks : {Dir F S : Type 0} → Fixed Dir → (Seen → Course Dir F S) → Course Dir F S
looks c f = Ask (λ h. f (c.seen h))

-- the newest share of an epoch below this one
abbrev pub share_below : List (ℕ × ℕ) → (epoch : ℕ) → Option ℕ
share_below shares epoch = newest_below shares epoch

-- .. where it is this node's share of the output that the info carries on
abbrev pub fitting : {Dir : Type 0} → Fixed Dir → EpochInfo Dir → Option ℕ → Option ℕ
fitting c info None = None
fitting c info (Some share) =
    if option_map_or (λ p. p == c.rules.share_public_of share) (c.rules.partial_public_of info.output c.me) false then Some share else None

-- An info that carries an output on carries the share on, too.
abbrev pub carried_share : {Dir : Type 0} → Fixed Dir → Seen → EpochInfo Dir → EpochOutcome → Option ℕ
carried_share c s info Success = None
carried_share c s info Failure = fitting c info (share_below s.shares info.epoch)

-- the share of an info's epoch: the stored one, else the one that is carried on
abbrev pub recovered_share : {Dir : Type 0} → Fixed Dir → Seen → EpochInfo Dir → Option ℕ
recovered_share c s info = option_or (lookup info.epoch s.shares) (carried_share c s info info.outcome)

-- the seed of an epoch: the stored one, else a fresh one
abbrev pub seed_for : {Dir : Type 0} → Fixed Dir → (epoch : ℕ) → Option (List ℕ) → List ℕ
seed_for c epoch None = fresh_seed c.word epoch
seed_for c epoch (Some seed) = seed

-- COMMIT AND REGISTRATION

abbrev pub puts_share : {Dir S : Type 0} → (epoch : ℕ) → Option ℕ → Course Dir Fault S → Course Dir Fault S
puts_share epoch None acts = acts
puts_share epoch (Some share) acts = Do (Changes (PutShare epoch share)) acts

-- An info is committed: its share, if there is one, its seed, the line, and then it is the current one.
abbrev pub commits : {Dir : Type 0} → EpochInfo Dir → List ℕ → Option ℕ → Live Dir → Course Dir Fault (Live Dir)
commits info seed share st =
    puts_share info.epoch share (Do (Changes (PutSeed info.epoch seed)) (Say (Committed info.epoch share) (Goes (with_participation (record st.participation { current = Some info }) st))))

abbrev pub role_of : SchemeInfo → Role
role_of (Verifies participants sharing) = Verifier
role_of (IsMember participants sharing key) = Member
role_of (Signs participants sharing share) = Signer

-- this node's part in the scheme of an info
abbrev pub scheme_for : {Dir : Type 0} → Fixed Dir → EpochInfo Dir → Option ℕ → SchemeInfo
scheme_for c info share = scheme_of c.me info.output.players info.output.sharing share

abbrev pub with_registered : {Dir : Type 0} → (epoch : ℕ) → SchemeInfo → Live Dir → Live Dir
with_registered epoch scheme st =
    with_orchestrator (record st.orchestrator { fence = marked epoch st.orchestrator.fence; schemes = (epoch, scheme) ∷ st.orchestrator.schemes }) st

-- The epoch's scheme is registered, and the fence is marked.
abbrev pub registers : {Dir : Type 0} → Fixed Dir → EpochInfo Dir → Option ℕ → Live Dir → Course Dir Fault (Live Dir)
registers c info share st =
    Say (Registered info.epoch (role_of (scheme_for c info share))) (CallOutside (Marks info.epoch) (Goes (with_registered info.epoch (scheme_for c info share) st)))

-- whether a setup's info was committed before
pub data Standing : Type 0 where
  Uncommitted : Standing
  WasCommitted : Standing

-- both, where it wasn't
abbrev pub commits_new : {Dir : Type 0} → Standing → Fixed Dir → EpochInfo Dir → List ℕ → Option ℕ → Live Dir → Course Dir Fault (Live Dir)
commits_new WasCommitted c info seed share st = Goes st
commits_new Uncommitted c info seed share st = bind (commits info seed share st) (λ st. registers c info share st)

-- THE PRUNE

abbrev pub kept_from : {V : Type 0} → (min : ℕ) → List ((ℕ × ℕ) × V) → List ((ℕ × ℕ) × V)
kept_from min records = filter (λ r. nat_le min r.0.0) records

abbrev pub records_from : (min : ℕ) → Records → Records
records_from min r = record { dealings = kept_from min r.dealings; acks = kept_from min r.acks; logs = kept_from min r.logs }

-- What lies below the minimum goes: from the journal, then from the secrets.
abbrev pub prunes : {Dir : Type 0} → (min : ℕ) → Live Dir → Course Dir Fault (Live Dir)
prunes min st =
    Do (OnDisk (Prunes min)) (Do (Changes (Prune min)) (Goes (record st { records = records_from min st.records })))

-- THIS NODE'S PARTS

-- of these players those without an acknowledgement, in their order, each with its private half
abbrev pub unsent_of : (acks : List (ℕ × List ℕ)) → (privates : List (ℕ × ℕ)) → (players : List ℕ) → List (ℕ × ℕ)
unsent_of acks privates [] = []
unsent_of acks privates (player ∷ players) = with_unsent player (lookup player acks) (lookup player privates) (unsent_of acks privates players)

-- .. of the round's players
abbrev pub unsent_of_round : Round → Dealer → List (ℕ × ℕ)
unsent_of_round round d = unsent_of d.acks d.privates round.players

-- At most as many players lack as may fail.
abbrev pub has_quorum : Round → Dealer → Bool
has_quorum round d = nat_le (length (unsent_of_round round d)) (max_faults_of (length round.players))

-- A dealer without a quorum is given up after Early.
abbrev pub dealer_for : Phase → Round → Dealer → Option Dealer
dealer_for Early round d = Some d
dealer_for Midpoint round d = if has_quorum round d then Some d else None
dealer_for Late round d = if has_quorum round d then Some d else None

-- of recorded acknowledgements those that pass the check
abbrev pub passing_check : {Dir : Type 0} → Fixed Dir → Round → (public : List ℕ) → List (ℕ × List ℕ) → List (ℕ × List ℕ)
passing_check c round public acks = filter (λ a. is_ok (c.rules.check_ack_of round c.me public a.0 a.1)) acks

abbrev pub dealer_from : {Dir : Type 0} → Fixed Dir → Round → Live Dir → List ℕ × List (ℕ × ℕ) → Dealer
dealer_from c round st dealt =
    record { public = dealt.0; privates = dealt.1; acks = passing_check c round dealt.0 (records_of_epoch round.number st.records.acks); log = None }

-- A log bears this node's acknowledgement of a dealing that isn't recorded: the player can't go on.
abbrev pub is_lost : {Dir : Type 0} → Fixed Dir → Round → List (ℕ × (List ℕ × ℕ)) → LogMap → Bool
is_lost c round dealings logs = list_any (λ log. c.rules.bears_ack_of round log.0 log.1 c.me && not (has_public log.1.public (lookup log.0 dealings))) logs

-- the recorded dealings of an epoch, with their keys (which a key's 32 bits hold)
abbrev pub pairs_of : {Dir : Type 0} → Live Dir → (epoch : ℕ) → List Pair
pairs_of st epoch = filter (λ p. (p.0.0 == epoch) && nat_lt p.0.1 (2 ^ 32)) st.records.dealings

abbrev pub part_of : Option Dealer → Seat → Part
part_of (Some dealer) Plays = Both
part_of (Some dealer) Watches = Deals_alone
part_of None Plays = Player
part_of None Watches = Observer

-- of these players' acknowledgements those that are there, in the order of the players
abbrev pub acks_in_order : (acks : List (ℕ × List ℕ)) → (players : List ℕ) → List (ℕ × List ℕ)
acks_in_order acks [] = []
acks_in_order acks (player ∷ players) = with_held player (lookup player acks) (acks_in_order acks players)

-- As inclusion begins the dealer signs its log, over what came in of the round's players.
abbrev pub signed : {Dir : Type 0} → Fixed Dir → Round → Dealer → Dealer
signed c round d = record d { log = Some (c.rules.sign_log_of c.me round d.public d.privates (acks_in_order d.acks round.players)) }

abbrev pub begins_inclusion : {Dir : Type 0} → Fixed Dir → Live Dir → Live Dir
begins_inclusion c st =
    let d = st.participation in
    with_inclusion (record st.inclusion { served = None })
    (with_participation (record d { stage = Includes; dealer = option_and_then (λ round. option_map (signed c round) d.dealer) d.round }) st)

-- Early begins with dealing, and the other phases with inclusion.
abbrev pub in_stage : {Dir : Type 0} → Fixed Dir → Phase → Live Dir → Live Dir
in_stage c Early st = with_participation (record st.participation { stage = Deals }) st
in_stage c Midpoint st = begins_inclusion c st
in_stage c Late st = begins_inclusion c st

abbrev pub takes_part : {Dir : Type 0} → Fixed Dir → Round → Phase → Option Dealer → Seat → Live Dir → Course Dir Fault (Live Dir)
takes_part c round phase dealer seat st =
    Say (Setup st.participation.epoch phase (part_of dealer seat))
    (Goes (in_stage c phase (with_participation (record st.participation { round = Some round; dealer = dealer; seat = seat }) st)))

-- the first dealer whose recorded dealing of the round's epoch the check refuses
abbrev pub refused_in : {Dir : Type 0} → Fixed Dir → Round → Live Dir → Option ℕ
refused_in c round st = first_refused (λ d. c.rules.dealing_of round c.me d) (pairs_of st round.number)

abbrev pub sits_down : {Dir : Type 0} → Fixed Dir → Round → Phase → Option Dealer → (refused : Option ℕ) → Live Dir → Course Dir Fault (Live Dir)
sits_down c round phase dealer (Some refused) st = Stops (LocalState (StoredDealing round.number refused))
sits_down c round phase dealer None st = takes_part c round phase dealer Plays st

-- The player is made after the dealer: none where a dealing is lost, and a stored dealing that is refused is a fault.
abbrev pub makes_player : {Dir : Type 0} → Fixed Dir → Round → Phase → Option Dealer → Live Dir → Course Dir Fault (Live Dir)
makes_player c round phase dealer st =
    if not (has round.players c.me) || is_lost c round (records_of_epoch round.number st.records.dealings) (logs_of st round.number)
    then takes_part c round phase dealer Watches st
    else sits_down c round phase dealer (refused_in c round st) st

abbrev pub dealt_by : {Dir : Type 0} → Fixed Dir → Round → Phase → Live Dir → Result (List ℕ × List (ℕ × ℕ)) DealError → Course Dir Fault (Live Dir)
dealt_by c round phase st (Ok dealt) = makes_player c round phase (dealer_for phase round (dealer_from c round st dealt)) st
dealt_by c round phase st (Err refused) = Stops (LocalState (ShareRefused round.number))

-- A dealer of the round deals where it holds a share or none is needed, and its log isn't recorded.
abbrev pub may_deal : {Dir : Type 0} → Fixed Dir → Round → Option ℕ → Live Dir → Bool
may_deal c round share st =
    has round.dealers c.me && (is_some share || is_none round.previous) && is_none (lookup c.me (logs_of st round.number))

abbrev pub in_round : {Dir : Type 0} → Fixed Dir → Phase → Option ℕ → List ℕ → Live Dir → Result Round RoundError → Course Dir Fault (Live Dir)
in_round c phase share seed st (Err e) = Stops (InvalidParticipants (NoRound e))
in_round c phase share seed st (Ok round) =
    if may_deal c round share st then dealt_by c round phase st (c.rules.deal_of round c.me share seed) else makes_player c round phase None st

-- The round is drawn up, then the dealer and the player are made.
abbrev pub draws_up : {Dir : Type 0} → Fixed Dir → Participants → (previous : Option Output) → Option ℕ → (seed : List ℕ) → Live Dir → Course Dir Fault (Live Dir)
draws_up c p previous share seed st =
    in_round c (phase_of c (awaited_height st)) share seed st (c.rules.round_of c.namespace st.participation.epoch previous c.mode c.reveal p.dealers p.players)

-- SETUP

abbrev pub participants_of : {Dir : Type 0} → EpochInfo Dir → Participants
participants_of info = record { dealers = info.output.players; players = info.players; next_players = info.next_players }

-- A setup begins with nothing of the epoch before but its records and its current info.
abbrev pub anew : {Dir : Type 0} → Fixed Dir → Live Dir → Live Dir
anew c st =
    with_inclusion (record st.inclusion { served = None; queue = []; running = None; waiter = None; retained = None; cached = None })
    (with_participation (record { epoch = epoch_of c.blocks_per_epoch (awaited_height st); stage = Follows; round = None; dealer = None; seat = Watches; current = st.participation.current }) st)

abbrev pub follows : {Dir : Type 0} → Fixed Dir → Live Dir → Course Dir Fault (Live Dir)
follows c st = Say (Setup st.participation.epoch (phase_of c (awaited_height st)) Follow) (Goes st)

abbrev pub is_late : Phase → Bool
is_late Early = false
is_late Midpoint = false
is_late Late = true

-- floor: the height of the kept material's floor, at an opening alone
abbrev pub is_late_floor : {Dir : Type 0} → Fixed Dir → Option ℕ → Bool
is_late_floor c floor = option_map_or (λ height. is_late (phase_of c height)) floor false

-- Commit and registration, the prune below the epoch before, and then the parts: none where the floor lies late.
abbrev pub with_share_and_seed : {Dir : Type 0} → Fixed Dir → (floor : Option ℕ) → Standing → EpochInfo Dir → Option ℕ → (seed : List ℕ) → Live Dir → Course Dir Fault (Live Dir)
with_share_and_seed c floor standing info share seed st =
    bind (commits_new standing c info seed share st) (λ st. bind (prunes (st.participation.epoch - 1) st) (λ st.
    if is_late_floor c floor then follows c st else draws_up c (participants_of info) (Some info.output) share seed st))

abbrev pub info_judged : {Dir : Type 0} → Fixed Dir → (floor : Option ℕ) → Standing → EpochInfo Dir → Live Dir → Result (Unit {0}) ParticipantsError → Course Dir Fault (Live Dir)
info_judged c floor standing info st (Err e) = Stops (InvalidParticipants (Refused e))
info_judged c floor standing info st (Ok passed) =
    looks c (λ s. with_share_and_seed c floor standing info (recovered_share c s info) (seed_for c info.epoch (lookup info.epoch s.seeds)) st)

-- The info has to be that of the awaited epoch, and its participants have to be valid.
abbrev pub with_info : {Dir : Type 0} → Fixed Dir → (floor : Option ℕ) → Standing → EpochInfo Dir → Live Dir → Course Dir Fault (Live Dir)
with_info c floor standing info st =
    if info.epoch == st.participation.epoch
    then info_judged c floor standing info st (validation (participants_of info) c.limit (Some info.output) info.epoch)
    else Stops (WrongEpoch st.participation.epoch info.epoch)

-- Without its boundary block the node follows, before anything is committed or pruned.
abbrev pub from_boundary : {Dir : Type 0} → Fixed Dir → Option (Block Dir) → Live Dir → Course Dir Fault (Live Dir)
from_boundary c None st = follows c st
from_boundary c (Some b) st = option_map_or (λ info. with_info c None Uncommitted info st) (info_of b.payload) (Stops (MissingEpochInfo b.height))

-- material: the kept info and its floor's height
abbrev pub from_material : {Dir : Type 0} → Fixed Dir → Option (EpochInfo Dir × ℕ) → Live Dir → Course Dir Fault (Live Dir)
from_material c (Some m) st = with_info c (Some m.1) Uncommitted m.0 st
from_material c None st = from_boundary c (c.source.block (boundary c.blocks_per_epoch st.participation.epoch)) st

-- the current info, where it is of the awaited epoch
abbrev pub committed_info : {Dir : Type 0} → Live Dir → Option (EpochInfo Dir)
committed_info st = option_and_then (λ info. if info.epoch == st.participation.epoch then Some info else None) st.participation.current

-- The last height of the epoch of this one passes 64 bits.
abbrev pub is_past_range : {Dir : Type 0} → Fixed Dir → (height : ℕ) → Bool
is_past_range c height = nat_le (2 ^ 64) (last c.blocks_per_epoch (epoch_of c.blocks_per_epoch height))

-- The info is the committed one, else the kept material's, else that of the boundary block.
abbrev pub sets_up_by : {Dir : Type 0} → Fixed Dir → Option (EpochInfo Dir × ℕ) → (committed : Option (EpochInfo Dir)) → Live Dir → Course Dir Fault (Live Dir)
sets_up_by c material (Some info) st = with_info c (option_map (λ m. m.1) material) WasCommitted info st
sets_up_by c material None st = from_material c material st

abbrev pub sets_up : {Dir : Type 0} → Fixed Dir → Option (EpochInfo Dir × ℕ) → Live Dir → Course Dir Fault (Live Dir)
sets_up c material st = sets_up_by c material (committed_info (anew c st)) (anew c st)

-- SETUP of the awaited epoch.
abbrev pub setup : {Dir : Type 0} → Fixed Dir → Option (EpochInfo Dir × ℕ) → Live Dir → Course Dir Fault (Live Dir)
setup c material st = if is_past_range c (awaited_height st) then Stops HeightRange else sets_up c material st
