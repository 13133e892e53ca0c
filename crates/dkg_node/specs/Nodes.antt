-- A node between two steps, as the relation's Live.
use Rattle.std.specs.Prelude.{ℕ, ◌≡◌, ⊤, Bool, Contains, List, Result, Ok, Err, IsSome, IsSomeAnd, slice_get}
use Rattle.std.specs.Int.NonZero.{non_zero_u64_get}
use Rattle.dkg_ceremony.specs.Acks.{ack_of, check_ack_of}
use Rattle.dkg_ceremony.specs.Dealings.{dealing_of}
use Rattle.dkg_ceremony.specs.Deals.{deal_of}
use Rattle.dkg_ceremony.specs.Finishes.{finish_of}
use Rattle.dkg_ceremony.specs.ValidLogs.{check_log_of}
use Rattle.dkg_journal.specs.Names.{Files}
use Rattle.dkg_store.specs.Acts.{Ended, went}
use Rattle.dkg_store.specs.declared.devices.Devices.{Devices}
use Rattle.dkg_text.specs.declared.script.Event.{Event}
use Rattle.dkg_text.specs.declared.script.Event.TheVariants.{Peer, Final, Next, Release, Info, Feed, Over, Cancel, Work}
use Rattle.dkg_text.specs.declared.script.Life.{Life}
use Rattle.dkg_types.specs.Blocks.{Block}
use Rattle.dkg_infos.specs.declared.directory.Unit as directory
use Rattle.dkg_core.specs.Behind.{event_of}
use Rattle.dkg_core.specs.Live as core_live
use Rattle.dkg_core.specs.Live.{Live, NodeStop}
use Rattle.dkg_reshare.specs.declared.message.Message.{Message}
use Rattle.dkg_reshare.specs.declared.message.Message.TheVariants as message
use Rattle.dkg_reshare.specs.Actors.{IfIncluding, IfLiving, IsOpenedOn, IsLiving, message_of}
use Rattle.dkg_life.specs.Given.{IsOf}
use Rattle.dkg_blocks.specs.CarriedLogs.{CarriesWithin}
use Rattle.dkg_verifying.specs.InclusionOf.{IsSeen, IsSettledInclusion}
use Rattle.dkg_life.specs.LiveOf.{Beside, live_of}
use Rattle.dkg_life.specs.declared.life.Life as reshare
use Rattle.dkg_life.specs.declared.stop.Stop.{Stop}
use Rattle.dkg_lives.specs.Ended.{by_node_stop}
use Rattle.dkg_script.specs.Players.{players_at}
use Rattle.dkg_lives.specs.Epochs.{IsAtEvent as StandsAt, IsLifeInForm, MayStep}
use Rattle.dkg_lives.specs.Given.{AreBytes, Lived, at_step, blocks_in}
use Rattle.dkg_around.specs.Orchestrator.{HasOrchestratorHalf, IsSettled}
use Rattle.dkg_around.specs.declared.half.Half.{Half}
use Rattle.dkg_around.specs.declared.held.HeldBlocks.{HeldBlocks}
use Rattle.dkg_node.specs.declared.node.Node.{Node}

-- A NODE

-- what it has in memory
pub record IsView (node : Node) (st : Live directory.Unit) : Type 0 where
  pub life : reshare.Life directory.Unit
  pub beside : Beside directory.Unit
  pub lives : IfIncluding node.actor.state (λ its inclusion. (its ≡ life) × IsSeen inclusion beside.inclusion)
  pub living : IsLiving node.actor.state
  pub is : st ≡ live_of beside node.fence life
  pub half : HasOrchestratorHalf node.half st

-- It goes on over these devices.
pub record IsReadyNode {D X : Type 0} (tells : Bool) (files : D → Files) (image : D → Files → Type 0) (node : Node) (devices : Devices D X) : Type 0 where
  pub at : IsOpenedOn tells files image ack_of deal_of check_ack_of node.actor.terms node.actor.state devices
  pub living : IsLiving node.actor.state
  pub including : IfIncluding node.actor.state (IsSettledInclusion check_log_of dealing_of finish_of (non_zero_u64_get node.actor.terms.blocks_per_epoch))
  pub blocks_are : node.blocks_per_epoch ≡ node.actor.terms.blocks_per_epoch
  pub settled : IsSettled (non_zero_u64_get node.actor.terms.blocks_per_epoch) node.half

-- Its configuration is that of the life, so is its random word, and its provider says of players what the script does.
pub record IsOfLife (g : Lived) (node : Node) : Type 0 where
  pub of : (taken : ℕ) → IsOf node.actor.terms (at_step g taken)
  pub word : IfLiving node.actor.state (λ its. its.word ≡ g.life.word)
  pub players : (epoch : ℕ) → players_at g.script.config.players epoch ≡ players_at node.actor.provider.lines.now epoch

-- There is a life that goes on in it with a step.
pub record GoesIn (node : Node) : Type 0 where
  pub g : Lived
  pub number : ℕ
  pub st : Live directory.Unit
  pub of : IsOfLife g node
  pub may : MayStep g number st
  pub view : IsView node st

-- how a call of a node ended, in a view of what it left
abbrev pub Viewed : Node → Result (Unit {0}) Stop → (Ended NodeStop (Live directory.Unit) → Type 0) → Type 0
Viewed node (Ok done) P = (st : Live directory.Unit) × IsView node st × P (went st)
Viewed node (Err stop) P = P (by_node_stop stop)

-- .. of a node that the call made
abbrev pub ViewedNew : Result Node Stop → (Ended NodeStop (Live directory.Unit) → Type 0) → Type 0
ViewedNew (Ok node) P = (st : Live directory.Unit) × IsView node st × P (went st)
ViewedNew (Err stop) P = P (by_node_stop stop)

-- .. whatever the view
abbrev pub ended_new : Result Node Stop → Ended NodeStop Node
ended_new (Ok node) = went node
ended_new (Err stop) = by_node_stop stop

-- how an opening of both halves ended, as one of the node that is made of them
abbrev pub node_of : Result Half Stop → (Half → Node) → Result Node Stop
node_of (Ok half) made = Ok (made half)
node_of (Err stop) made = Err stop

-- .. and its source has the blocks of the life's script.
pub record IsStepHere (g : Lived) (node : Node) (blocks : List (Block directory.Unit)) (life : Life) : Type 0 where
  pub of : IsOfLife g node
  pub blocks_are : blocks ≡ blocks_in g.script
  pub life_is : g.life ≡ life

-- There is a life of a script behind whose opening it goes on.
pub record HasOpened (node : Node) (blocks : List (Block directory.Unit)) (life : Life) : Type 0 where
  pub g : Lived
  pub here : IsLifeInForm g
  pub bytes : AreBytes g.script.blocks
  pub of : IsStepHere g node blocks life
  pub st : Live directory.Unit
  pub view : IsView node st
  pub at : StandsAt g 0 st

-- MESSAGES

-- what is sent to the actor: no finalized block
abbrev pub IsMail : Message directory.Unit (Unit {0}) → Type 0
IsMail (message.Finalized b) = ⊥
IsMail its = ⊤

abbrev pub sent_event : Message directory.Unit (Unit {0}) → core_live.Event directory.Unit
sent_event its = event_of (message_of its)

-- EVENTS

-- A message, or one of these blocks, whose log is within the limit where it is delivered.
abbrev pub IsEventOfBlocks : (limit : ℕ) → List (Block directory.Unit) → Event → Type 0
IsEventOfBlocks limit blocks (Peer from bytes) = ⊤
IsEventOfBlocks limit blocks (Final number) = IsSomeAnd (slice_get blocks number) (CarriesWithin limit)
IsEventOfBlocks limit blocks (Next request height) = ⊤
IsEventOfBlocks limit blocks (Release height) = ⊤
IsEventOfBlocks limit blocks (Info request) = ⊤
IsEventOfBlocks limit blocks (Feed request number) = IsSome (slice_get blocks number)
IsEventOfBlocks limit blocks (Over request) = ⊤
IsEventOfBlocks limit blocks (Cancel request) = ⊤
IsEventOfBlocks limit blocks Work = ⊤
IsEventOfBlocks limit blocks event = ⊥

-- .. which is held by then.
abbrev pub IsEventHere : (limit : ℕ) → HeldBlocks → Event → Type 0
IsEventHere limit source (Final number) = Contains source.numbers.items number × IsEventOfBlocks limit source.blocks.now (Final number)
IsEventHere limit source event = IsEventOfBlocks limit source.blocks.now event
