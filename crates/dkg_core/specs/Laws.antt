-- Laws of steps: what holds of each entry, each operation and the end of acts, whatever the devices hold.
use Rattle.std.specs.Prelude.{true, ℕ, List, [], ◌∷◌, ◌++◌, IsSome, ◌-◌, ◌+◌, ◌≤◌, ◌≡◌, ◌⊎◌, Option, Some, None, Ok}
use Rattle.std.specs.Option.{option_map_or}
use Rattle.dkg_types.specs.Blocks.{Block}
use Rattle.dkg_ceremony.specs.declared.mode.Mode.{Mode}
use Rattle.dkg_ceremony.specs.declared.mode.Reveal.{Reveal}
use Rattle.dkg_ceremony.specs.declared.output.Output.{Output}
use Rattle.dkg_ceremony.specs.declared.round.RoundParts.{RoundParts as Round}
use Rattle.dkg_ceremony.specs.Schedule.{epoch_of}
use Rattle.dkg_infos.specs.declared.entry.Entry.{Entry}
use Rattle.dkg_infos.specs.declared.entry.Entry.TheVariants.{Opened, Recorded, Ack, Offer, Cut, Step, Fault as AFault}
use Rattle.dkg_types.specs.declared.message.Message.TheVariants.{Dealer as ADealing}
use Rattle.dkg_types.specs.MessageCodes.{message_at}
use Rattle.dkg_values.specs.Codec.{whole}
use Rattle.dkg_values.specs.Rising.{lookup}
use Rattle.dkg_infos.specs.declared.info.EpochInfo.{EpochInfo}
use Rattle.dkg_store.specs.Acts.{Operation, OnDisk, Changes, Cause, Held, World, says, does, Tears}
use Rattle.dkg_journal.specs.Operations.{Bars, Opens, Appends, Prunes, PutsPlan, ClearsPlan}
use Rattle.dkg_core.specs.Courses.{Course, Say, Do, CallOutside, Ask, Goes, Stops, Deed, SaidEntry, DidOperation, CalledOutside, deeds_of}
use Rattle.dkg_store.specs.Events.{event_spelling}
use Rattle.dkg_store.specs.declared.event.Event.TheVariants.{Dealing}
use Rattle.dkg_secrets.specs.declared.secrets.SecretOp.TheVariants.{PutShare, PutSeed, PutDealing, Prune}
use Rattle.dkg_core.specs.Fixed.{Fixed, has, stand_in, start}
use Rattle.dkg_core.specs.Live.{Live, Dealer, Plays, Deals, Message, Mailed, Peer, Finalized, awaited_height, recorded_at}
use Rattle.dkg_core.specs.Core.{opening, step}
use Rattle.dkg_core.specs.Setup.{setup}

-- A law: what it says of an entry, of an operation and of an end, each behind what was said, done and called before it (the newest first).
pub record Law (Dir S : Type 0) : Type 1 where
  pub line : List (Deed Dir) → Entry → Type 0
  pub operation : List (Deed Dir) → Operation → Type 0
  pub end : List (Deed Dir) → S → Type 0

-- It holds of a course behind these deeds.
abbrev pub Holds : {Dir F S : Type 0} → Law Dir S → List (Deed Dir) → Course Dir F S → Type 0
Holds law past (Say line course) = law.line past line × Holds law (SaidEntry line ∷ past) course
Holds law past (Do op course) = law.operation past op × Holds law (DidOperation op ∷ past) course
Holds law past (CallOutside outer course) = Holds law (CalledOutside outer ∷ past) course
Holds law past (Ask f) = (h : Held) → Holds law past (f h)
Holds law past (Goes end) = law.end past end
Holds law past (Stops fault) = Unit {0}

-- What each entry and each operation that keeps the law leaves as it was: whether the operation is done, or torn by some cause.
pub record LawKeeps {Dir S : Type 0} (law : Law Dir S) (P : World → Type 0) : Type 0 where
  pub said : (past : List (Deed Dir)) (w : World) (line : Entry) → law.line past line → P w → P (says w line)
  pub done : (past : List (Deed Dir)) (w : World) (op : Operation) → law.operation past op → P w → P (does w op)
  pub torn : (past : List (Deed Dir)) (cause : Cause) (w new : World) (op : Operation) → law.operation past op → P w → Tears cause op w new → P new

abbrev pub Anything : {A B : Type 0} → A → B → Type 0
Anything a b = Unit {0}

-- PRUNES

-- a prune below this at most, or the put of a share or of a seed
abbrev pub PrunesAtMost : {Dir : Type 0} → (most : ℕ) → List (Deed Dir) → Operation → Type 0
PrunesAtMost most past (OnDisk (Prunes min)) = min ≤ most
PrunesAtMost most past (Changes (Prune min)) = min ≤ most
PrunesAtMost most past (Changes (PutShare epoch share)) = Unit {0}
PrunesAtMost most past (Changes (PutSeed epoch seed)) = Unit {0}
PrunesAtMost most past op = ⊥

-- an entry of the node's own: not one by which a life is opened, a step is counted or cut, or a fault is told
abbrev pub IsQuiet : Entry → Type 0
IsQuiet (Opened life restored) = ⊥
IsQuiet (Cut step call) = ⊥
IsQuiet (Step step) = ⊥
IsQuiet (AFault fault) = ⊥
IsQuiet line = Unit {0}

-- no dealing is told as recorded, none is acknowledged, and no half is offered
abbrev pub IsSilent : {Dir : Type 0} → List (Deed Dir) → Entry → Type 0
IsSilent past (Recorded epoch dealer public private) = ⊥
IsSilent past (Ack epoch dealer ack) = ⊥
IsSilent past (Offer epoch player public private) = ⊥
IsSilent past line = IsQuiet line

-- A setup says nothing of dealings, puts a share and a seed, and prunes nothing of the awaited epoch, nor of the one before.
abbrev pub prune_law : {Dir : Type 0} → (epoch : ℕ) → Law Dir (Live Dir)
prune_law epoch = record { line = IsSilent; operation = PrunesAtMost (epoch - 1); end = Anything }

abbrev pub SetupsPrune : Type 0 → Type 0
SetupsPrune Dir = (c : Fixed Dir) (material : Option (EpochInfo Dir × ℕ)) (st : Live Dir) (past : List (Deed Dir))
    → Holds (prune_law (epoch_of c.blocks_per_epoch (awaited_height st))) past (setup c material st)

-- OPENINGS

-- the barrier, the journal's opening and the plan's operations too
abbrev pub OpeningOperation : {Dir : Type 0} → (most : ℕ) → List (Deed Dir) → Operation → Type 0
OpeningOperation most past (OnDisk Bars) = Unit {0}
OpeningOperation most past (OnDisk (Opens calls)) = Unit {0}
OpeningOperation most past (OnDisk (PutsPlan bytes)) = Unit {0}
OpeningOperation most past (OnDisk ClearsPlan) = Unit {0}
OpeningOperation most past op = PrunesAtMost most past op

-- the entry with what was restored, as the first thing behind the barrier and the journal's opening
abbrev pub OpeningEntry : {Dir : Type 0} → Fixed Dir → List (Deed Dir) → Entry → Type 0
OpeningEntry c past (Opened life restored) = (life ≡ c.life) × (past ≡ DidOperation (OnDisk (Opens c.opening_calls)) ∷ DidOperation (OnDisk Bars) ∷ [])
OpeningEntry c past line = IsSilent past line

abbrev pub opening_law : {Dir : Type 0} → Fixed Dir → (most : ℕ) → Law Dir (Live Dir)
opening_law c most = record { line = OpeningEntry c; operation = OpeningOperation most; end = Anything }

-- the height above the position that the source tells
abbrev pub start_of : {Dir : Type 0} → Fixed Dir → ℕ
start_of c = option_map_or (λ t. t.height + 1) (start c) 0

-- No epoch that the life may start in lies two above this one: neither by its position, nor by a block of the source that a floor may name.
pub record StartsWithin {Dir : Type 0} (c : Fixed Dir) (most : ℕ) : Type 0 where
  pub by_anchor : epoch_of c.blocks_per_epoch (start_of c) - 1 ≤ most
  pub by_floor : (digest : List ℕ) (b : Block Dir) → c.source.by_digest digest ≡ Some b → epoch_of c.blocks_per_epoch b.height - 1 ≤ most

-- An opening prunes nothing of the epoch that it starts in, nor of the one before; it acknowledges nothing, and tells only what was restored.
abbrev pub OpeningsPrune : Type 0 → Type 0
OpeningsPrune Dir = (c : Fixed Dir) (most : ℕ) → StartsWithin c most → Holds (opening_law c most) [] (opening c)

-- MESSAGES OF PEERS

-- The dealing is recorded under its key, or its key is new and the dealing is valid in this node's round.
pub record IsAccepted {Dir : Type 0} (c : Fixed Dir) (st : Live Dir) (epoch dealer : ℕ) (public : List ℕ) (private : ℕ) : Type 0 where
  pub round : Round
  pub of_epoch : st.participation.round ≡ Some round
  pub of_round : epoch ≡ round.number
  pub new : recorded_at st.records.dealings epoch dealer ≡ None
  pub valid : c.rules.dealing_of round c.me dealer public private ≡ Ok tt

-- the private half was put, and then the record was appended
abbrev pub WasPut : {Dir : Type 0} → (epoch dealer : ℕ) → List ℕ → ℕ → List (Deed Dir) → Type 0
WasPut epoch dealer public private past =
    past ≡ DidOperation (OnDisk (Appends (epoch, event_spelling (Dealing dealer public)))) ∷ DidOperation (Changes (PutDealing epoch dealer private)) ∷ []

-- .. and that was told
abbrev pub WasRecorded : {Dir : Type 0} → (epoch dealer : ℕ) → List ℕ → ℕ → List (Deed Dir) → Type 0
WasRecorded epoch dealer public private [] = ⊥
WasRecorded epoch dealer public private (deed ∷ past) = (deed ≡ SaidEntry (Recorded epoch dealer public private)) × WasPut epoch dealer public private past

-- The acknowledgement is that of the dealing recorded for its dealer, and the first thing of the step; or of one that this step has recorded by
-- then, and nothing else. (So a step has one at most.)
pub record IsAcknowledged {Dir : Type 0} (c : Fixed Dir) (st : Live Dir) (past : List (Deed Dir)) (epoch dealer : ℕ) (ack : List ℕ) : Type 0 where
  pub round : Round
  pub of_epoch : st.participation.round ≡ Some round
  pub of_round : epoch ≡ round.number
  pub pair : List ℕ × ℕ
  pub is : ack ≡ c.rules.ack_of c.me round dealer pair.0
  pub of : ((past ≡ []) × (recorded_at st.records.dealings epoch dealer ≡ Some pair)) ⊎ (IsAccepted c st epoch dealer pair.0 pair.1 × WasRecorded epoch dealer pair.0 pair.1 past)

-- what a peer's message may say
abbrev pub PeerEntry : {Dir : Type 0} → Fixed Dir → Live Dir → (from : ℕ) → List (Deed Dir) → Entry → Type 0
PeerEntry c st from past (Recorded epoch dealer public private) = (dealer ≡ from) × IsAccepted c st epoch dealer public private × WasPut epoch dealer public private past
PeerEntry c st from past (Ack epoch dealer ack) = (dealer ≡ from) × IsAcknowledged c st past epoch dealer ack
PeerEntry c st from past (Offer epoch player public private) = ⊥
PeerEntry c st from past line = IsQuiet line

-- .. and do: it prunes nothing, leaves the plan, and puts the private half of an accepted dealing alone, before anything else
abbrev pub PeerOperation : {Dir : Type 0} → Fixed Dir → Live Dir → (from : ℕ) → List (Deed Dir) → Operation → Type 0
PeerOperation c st from past (Changes (PutDealing epoch dealer private)) = (past ≡ []) × (dealer ≡ from) × ((public : List ℕ) × IsAccepted c st epoch dealer public private)
PeerOperation c st from past (Changes (Prune min)) = ⊥
PeerOperation c st from past (OnDisk (Prunes min)) = ⊥
PeerOperation c st from past (OnDisk (PutsPlan bytes)) = ⊥
PeerOperation c st from past (OnDisk ClearsPlan) = ⊥
PeerOperation c st from past op = Unit {0}

abbrev pub peer_law : {Dir : Type 0} → Fixed Dir → Live Dir → (from : ℕ) → Law Dir (Live Dir)
peer_law c st from = record { line = PeerEntry c st from; operation = PeerOperation c st from; end = Anything }

-- A peer's message records a valid dealing of its sender under a new key alone, and acknowledges what is recorded by then alone.
abbrev pub PeersAreHeard : Type 0 → Type 0
PeersAreHeard Dir = (c : Fixed Dir) (st : Live Dir) (from : ℕ) (bytes : List ℕ) → Holds (peer_law c st from) [] (step c (Mailed (Peer from bytes)) st)

-- WHATEVER ELSE HAPPENS

-- what is said of an epoch, a public and a private half
abbrev pub OfHalves : Type 1
OfHalves = ℕ → List ℕ → ℕ → Type 0

abbrev pub IsAmong : {A : Type 0} → A → List A → Type 0
IsAmong a [] = ⊥
IsAmong a (x ∷ xs) = (x ≡ a) ⊎ IsAmong a xs

-- The dealing is what this node's dealer deals to this node itself, in the life's round.
pub record IsDealtToItself {Dir : Type 0} (c : Fixed Dir) (st : Live Dir) (epoch : ℕ) (public : List ℕ) (private : ℕ) : Type 0 where
  pub round : Round
  pub of_epoch : st.participation.round ≡ Some round
  pub of_round : epoch ≡ round.number
  pub dealer : Dealer
  pub of_dealer : st.participation.dealer ≡ Some dealer
  pub is_public : public ≡ dealer.public
  pub is_private : IsAmong (c.me, private) dealer.privates

-- what is said of an epoch, a player, a public half and its private half
abbrev pub OfOffers : Type 1
OfOffers = (epoch player : ℕ) → List ℕ → ℕ → Type 0

-- This node's dealer deals this half to another player of the life's round, whose acknowledgement doesn't count by then.
pub record IsOffered {Dir : Type 0} (c : Fixed Dir) (st : Live Dir) (epoch player : ℕ) (public : List ℕ) (private : ℕ) : Type 0 where
  pub round : Round
  pub of_epoch : st.participation.round ≡ Some round
  pub of_round : epoch ≡ round.number
  pub dealer : Dealer
  pub of_dealer : st.participation.dealer ≡ Some dealer
  pub is_public : public ≡ dealer.public
  pub is_private : lookup player dealer.privates ≡ Some private
  pub plays : IsAmong player round.players
  pub lacks : lookup player dealer.acks ≡ None
  pub other : player ≡ c.me → ⊥

-- No dealing is acknowledged, of dealings only this node's own is recorded, and such halves are offered.
abbrev pub OtherEntry : {Dir : Type 0} → Fixed Dir → OfHalves → OfOffers → List (Deed Dir) → Entry → Type 0
OtherEntry c own offered past (Recorded epoch dealer public private) = (dealer ≡ c.me) × own epoch public private
OtherEntry c own offered past (Ack epoch dealer ack) = ⊥
OtherEntry c own offered past (Offer epoch player public private) = offered epoch player public private
OtherEntry c own offered past line = IsQuiet line

abbrev pub OtherOperation : {Dir : Type 0} → Fixed Dir → OfHalves → (most : ℕ) → List (Deed Dir) → Operation → Type 0
OtherOperation c own most past (OnDisk (Prunes min)) = min ≤ most
OtherOperation c own most past (OnDisk (PutsPlan bytes)) = ⊥
OtherOperation c own most past (OnDisk ClearsPlan) = ⊥
OtherOperation c own most past (Changes (Prune min)) = min ≤ most
OtherOperation c own most past (Changes (PutDealing epoch dealer private)) = (dealer ≡ c.me) × ((public : List ℕ) × own epoch public private)
OtherOperation c own most past op = Unit {0}

abbrev pub other_law : {Dir : Type 0} → Fixed Dir → OfHalves → OfOffers → (most : ℕ) → Law Dir (Live Dir)
other_law c own offered most = record { line = OtherEntry c own offered; operation = OtherOperation c own most; end = Anything }

-- the epoch below whose predecessor a message may prune: that of the height above a delivered block, and else none
abbrev pub reach_of : {Dir : Type 0} → Fixed Dir → Message Dir → ℕ
reach_of c (Finalized b) = epoch_of c.blocks_per_epoch (b.height + 1) - 1
reach_of c message = 0

-- A message that isn't a peer's.
abbrev pub IsOther : {Dir : Type 0} → Message Dir → Type 0
IsOther (Mailed (Peer from bytes)) = ⊥
IsOther message = Unit {0}

-- Any other message acknowledges nothing, records this node's own dealing alone, offers what its dealer deals alone, and prunes nothing of the epoch of the
-- next height, nor of the one before.
abbrev pub OthersAcknowledgeNothing : Type 0 → Type 0
OthersAcknowledgeNothing Dir = (c : Fixed Dir) (st : Live Dir) (message : Message Dir) → IsOther message → Holds (other_law c (IsDealtToItself c st) (IsOffered c st) (reach_of c message)) [] (step c message st)

-- WHAT IS DUE

-- A peer's message is due: this life deals and plays in a round, the message brings a dealing, and that is valid or its sender has one recorded.
pub record IsDue {Dir : Type 0} (c : Fixed Dir) (st : Live Dir) (from : ℕ) (bytes : List ℕ) : Type 0 where
  pub deals : st.participation.stage ≡ Deals
  pub round : Round
  pub of_epoch : st.participation.round ≡ Some round
  pub plays : st.participation.seat ≡ Plays
  pub public : List ℕ
  pub private : ℕ
  pub brings : whole (message_at c.limit bytes) ≡ Ok (ADealing public private)
  pub fits : IsSome (recorded_at st.records.dealings round.number from) ⊎ (c.rules.dealing_of round c.me from public private ≡ Ok tt)

-- The last thing of these deeds is an acknowledgement to this dealer.
abbrev pub EndsInAck : {Dir : Type 0} → (epoch dealer : ℕ) → List (Deed Dir) → Type 0
EndsInAck {Dir} epoch dealer deeds = (before : List (Deed Dir)) × (ack : List ℕ) × (deeds ≡ before ++ SaidEntry (Ack epoch dealer ack) ∷ [])

-- A due message is acknowledged, whatever the devices hold.
abbrev pub DuesAreAnswered : Type 0 → Type 0
DuesAreAnswered Dir = (c : Fixed Dir) (st : Live Dir) (from : ℕ) (bytes : List ℕ) (due : IsDue c st from bytes) (h : Held)
    → EndsInAck (due.round.number) from (deeds_of (step c (Mailed (Peer from bytes)) st) h)

-- WHAT A SETUP LEAVES, under what a ceremony promises of rounds and of what this node deals to itself

pub record IsCeremony {Dir : Type 0} (c : Fixed Dir) : Type 0 where
  pub round_has : (namespace : List ℕ) (number : ℕ) (previous : Option Output) (mode : Mode) (reveal : Reveal) (dealers players : List ℕ) (round : Round)
      → c.rules.round_of namespace number previous mode reveal dealers players ≡ Ok round → round.number ≡ number
  pub deals_pass : (round : Round) (share : Option ℕ) (seed public : List ℕ) (privates : List (ℕ × ℕ)) (private : ℕ) → has round.dealers c.me ≡ true → has round.players c.me ≡ true
      → c.rules.deal_of round c.me share seed ≡ Ok (public, privates) → lookup c.me privates ≡ Some private → c.rules.dealing_of round c.me c.me public private ≡ Ok tt

-- What this node's dealer deals to itself, where it is a player of the round, is valid.
abbrev pub DealsValidly : {Dir : Type 0} → Fixed Dir → Round → Option Dealer → Type 0
DealsValidly c round o =
    (dealer : Dealer) (private : ℕ) → o ≡ Some dealer → has round.players c.me ≡ true → lookup c.me dealer.privates ≡ Some private → c.rules.dealing_of round c.me c.me dealer.public private ≡ Ok tt

-- THE STAND-IN'S RULES are those of a ceremony.
abbrev pub StandInsAreCeremonies : Type 0 → Type 0
StandInsAreCeremonies Dir = (c : Fixed Dir) → c.rules ≡ stand_in → IsCeremony c

-- The life awaits this epoch, and where it takes part in a round, that is the epoch's and its own dealing there is valid.
pub record IsSetUpFor {Dir : Type 0} (c : Fixed Dir) (epoch : ℕ) (st : Live Dir) : Type 0 where
  pub awaits : st.participation.epoch ≡ epoch
  pub round_is : (round : Round) → st.participation.round ≡ Some round → (round.number ≡ epoch) × DealsValidly c round st.participation.dealer

abbrev pub setup_law : {Dir : Type 0} → Fixed Dir → (epoch : ℕ) → Law Dir (Live Dir)
setup_law c epoch = record { line = Anything; operation = Anything; end = λ past st. IsSetUpFor c epoch st }

abbrev pub SetupsAreSound : Type 0 → Type 0
SetupsAreSound Dir = (c : Fixed Dir) (material : Option (EpochInfo Dir × ℕ)) (st : Live Dir) (past : List (Deed Dir)) → IsCeremony c
    → Holds (setup_law c (epoch_of c.blocks_per_epoch (awaited_height st))) past (setup c material st)
