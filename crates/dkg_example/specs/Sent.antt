-- What a node answers, beside what it has recorded.
use Rattle.std.specs.Prelude.{⊤, ◌≡◌, ◌-◌, ◌<◌, ◌⊎◌, ℕ, nat_le, Bool, List, [], ◌∷◌, ◌++◌, length, Contains, IsErr, IsSome, Option, Some, None, Result, Ok, Err}
use Rattle.std.specs.declared.num.NonZeroU32.{NonZeroU32}
use Rattle.std.specs.FinMap.{FinMap, get, insert, retain_keys}
use Rattle.std.specs.Option.{option_map_or}
use Rattle.dkg_ceremony.specs.declared.ceremony.DealingError.{DealingError}
use Rattle.dkg_ceremony.specs.declared.dealer_log.DealerLog.{DealerLog}
use Rattle.dkg_ceremony.specs.declared.round.RoundParts.{RoundParts as Round}
use Rattle.dkg_infos.specs.declared.entry.Entry.{Entry as Line}
use Rattle.dkg_infos.specs.declared.entry.Entry.TheVariants.{Recorded}
use Rattle.dkg_infos.specs.declared.fault.LocalCause.{LocalCause}
use Rattle.dkg_infos.specs.declared.fault.LocalCause.TheVariants.{StoredDealing}
use Rattle.dkg_journal.specs.Names.{Files}
use Rattle.dkg_journal.specs.Records.{SectionEntry}
use Rattle.dkg_secrets.specs.Keys.{key_cmp}
use Rattle.dkg_secrets.specs.Secrets.{Secrets}
use Rattle.dkg_store.specs.Called.{ErrorIsDueWith}
use Rattle.dkg_store.specs.Noted.{logs_in}
use Rattle.dkg_store.specs.Pairs.{HoldsDealings, Pairs, recovered}
use Rattle.dkg_store.specs.Player.{Acknowledges, IsPlayerOf, MayKeep, has_orphan}
use Rattle.dkg_store.specs.Recorded.{at_epoch, bare_logs, first_refused, of_epoch}
use Rattle.dkg_store.specs.declared.call.StoreError.{StoreError}
use Rattle.dkg_store.specs.declared.call.StoreError.TheVariants.{LocalState}
use Rattle.dkg_values.specs.declared.name.Name.{Name}
use Rattle.dkg_types.specs.declared.message.Message.{Message}
use Rattle.dkg_types.specs.declared.message.Message.TheVariants.{Dealer, Ack}
use Rattle.dkg_example.specs.declared.Answer.{Answer}
use Rattle.dkg_example.specs.declared.Answer.TheVariants.{Send, Block}
use Rattle.dkg_example.specs.declared.Node.{Node}

-- Between two messages: the node is one of its round's players, and acknowledges what is recorded and nothing else.
pub record IsNodePlaying (ack_of : ℕ → Round → ℕ → List ℕ → List ℕ) (node : Node) : Type 0 where
  pub seated : Contains node.player.round.players node.player.me
  pub answers : IsPlayerOf ack_of node.player.me node.player.round node.player.acks node.store.dealings node.epoch

-- It is this player of this round and epoch, and reads under this limit.
pub record IsSeatOf (me : ℕ) (round : Round) (epoch : ℕ) (limit : NonZeroU32) (node : Node) : Type 0 where
  pub me_is : node.player.me ≡ me
  pub round_is : node.player.round ≡ round
  pub epoch_is : node.epoch ≡ epoch
  pub limit_is : node.limit ≡ limit

-- The same player of the same round and epoch, under the same limit.
pub record IsSameSeat (node other : Node) : Type 0 where
  pub me : other.player.me ≡ node.player.me
  pub round : other.player.round ≡ node.player.round
  pub epoch : other.epoch ≡ node.epoch
  pub limit : other.limit ≡ node.limit

-- Of dealings, or of what else is recorded by epoch, that of an epoch and of the one below.
abbrev pub since_below : {V : Type 0} → (epoch : ℕ) → FinMap key_cmp V → FinMap key_cmp V
since_below epoch m = retain_keys m (λ key. nat_le (epoch - 1) key.0)

-- A recorded log of the epoch bears this node's acknowledgement of a dealing that is not recorded.
abbrev pub lost_dealing : (bears : ℕ → DealerLog → Bool) → (epoch : ℕ) → List SectionEntry → Secrets → Bool
lost_dealing bears epoch es held = has_orphan bears (at_epoch epoch (since_below epoch (recovered es held))) (bare_logs (at_epoch epoch (since_below epoch (logs_in es))))

-- The cause names a dealer, whose is the epoch's first recorded dealing that the check refuses.
pub record NamesRefused (tells : Type 0) (check : ℕ → List ℕ → ℕ → Result (Unit {0}) DealingError) (epoch : ℕ) (es : List SectionEntry) (held : Secrets) (cause : LocalCause) : Type 0 where
  pub dealer : ℕ
  pub cause_is : cause ≡ StoredDealing epoch dealer
  pub first : tells → first_refused check (of_epoch epoch (since_below epoch (recovered es held))) ≡ Some dealer

-- What an error of an opening is due to.
abbrev pub OpensDue : (record_at : Name → ℕ → Type 0) → (refused : LocalCause → Type 0) → StoreError → (disk secrets cut : Type 0) → Type 0
OpensDue record_at refused (LocalState cause) disk secrets cut = refused cause
OpensDue record_at refused error disk secrets cut = ErrorIsDueWith record_at error disk secrets cut ⊤

-- An acknowledgement is sent of the dealing that is recorded, and of no other.
abbrev pub IsSoundAnswer : (ack_of : ℕ → Round → ℕ → List ℕ → List ℕ) (me : ℕ) (round : Round) (pairs : Pairs) (epoch dealer : ℕ) → Answer → Type 0
IsSoundAnswer ack_of me round pairs epoch dealer (Send ack) = Acknowledges ack_of me round pairs epoch dealer ack
IsSoundAnswer ack_of me round pairs epoch dealer Block = Unit {0}

-- A dealer is answered of whom a dealing is recorded, or whose dealing passes the round's check. Blocked is a dealer of whom nothing is recorded, and whose
-- dealing the round refuses; or whose polynomial is longer than any round's.
abbrev pub IsFair : (check : Result (Unit {0}) DealingError) (public : List ℕ) (pairs : Pairs) (epoch dealer : ℕ) → Answer → Type 0
IsFair check public pairs epoch dealer (Send ack) = IsSome (get pairs (epoch, dealer)) ⊎ (check ≡ Ok tt)
IsFair check public pairs epoch dealer Block = (65520 < length public) ⊎ (IsErr check × (get pairs (epoch, dealer) ≡ None))

-- Of what was heard: whoever sends no dealing is blocked.
abbrev pub IsFairTo : (check : List ℕ → ℕ → Result (Unit {0}) DealingError) (heard : Option Message) (pairs : Pairs) (epoch sender : ℕ) → Answer → Type 0
IsFairTo check (Some (Dealer public private)) pairs epoch sender answer = IsFair (check public private) public pairs epoch sender answer
IsFairTo check (Some (Ack ack)) pairs epoch sender answer = answer ≡ Block
IsFairTo check None pairs epoch sender answer = answer ≡ Block

-- The dealing that is recorded then: the one that was heard, where it is answered and is its dealer's first.
abbrev pub first_heard : {E : Type 0} → Result Answer E → (heard : Option Message) → (recorded : Option (List ℕ × ℕ)) → Option (List ℕ × ℕ)
first_heard (Err e) heard recorded = None
first_heard (Ok Block) heard recorded = None
first_heard (Ok (Send ack)) None recorded = None
first_heard (Ok (Send ack)) (Some (Ack other)) recorded = None
first_heard (Ok (Send ack)) (Some (Dealer public private)) None = Some (public, private)
first_heard (Ok (Send ack)) (Some (Dealer public private)) (Some pair) = None

-- Just this dealing of an epoch's dealer is recorded and told, if there is one.
pub record RecordsJust (dealing : Option (List ℕ × ℕ)) (epoch dealer : ℕ) (pairs later : Pairs) (out now : List Line) : Type 0 where
  pub recorded : later ≡ option_map_or (λ pair. insert pairs (epoch, dealer) pair) dealing pairs
  pub told : now ≡ option_map_or (λ pair. out ++ Recorded epoch dealer pair.0 pair.1 ∷ []) dealing out

-- What the devices give behind an error: the dealings from before; or, where a new dealing was heard that passes, these or those with it.
abbrev pub HoldsHeard : (check : List ℕ → ℕ → Result (Unit {0}) DealingError) (heard : Option Message) (pairs : Pairs) (key : ℕ × ℕ) (image : Files → Type 0) (held : Secrets) → Type 0
HoldsHeard check None pairs key image held = HoldsDealings pairs image held
HoldsHeard check (Some (Ack other)) pairs key image held = HoldsDealings pairs image held
HoldsHeard check (Some (Dealer public private)) pairs key image held = MayKeep (check public private) pairs key (public, private) image held
