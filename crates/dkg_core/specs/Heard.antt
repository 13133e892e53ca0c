-- What a peer's message leaves, at every exit: on the devices, and in the transcript.
use Rattle.std.specs.Prelude.{ℕ, List, [], ◌∷◌, ◌++◌, ◌-◌, ◌≤◌, ◌≡◌, ◌⊎◌, Option, Some, Ok}
use Rattle.dkg_ceremony.specs.Schedule.{epoch_of}
use Rattle.dkg_infos.specs.declared.info.EpochInfo.{EpochInfo}
use Rattle.std.specs.List.{AllByRecursion}
use Rattle.std.specs.FinMap as maps
use Rattle.std.specs.FinMap.{get, insert}
use Rattle.dkg_values.specs.Codec.{whole as all_of}
use Rattle.dkg_ceremony.specs.declared.round.RoundParts.{RoundParts as Round}
use Rattle.dkg_infos.specs.declared.entry.Entry.{Entry}
use Rattle.dkg_infos.specs.declared.entry.Entry.TheVariants.{Opened, Recorded, Ack}
use Rattle.dkg_types.specs.declared.message.Message.TheVariants.{Dealer as ADealing, Ack as AnAck}
use Rattle.dkg_types.specs.MessageCodes.{message_at}
use Rattle.dkg_infos.specs.declared.fault.Fault.{Fault}
use Rattle.dkg_store.specs.Acts.{Held, World, OnDisk, notes}
use Rattle.dkg_journal.specs.Operations.{Bars, Opens}
use Rattle.dkg_core.specs.Courses.{Course, Goes, bind, Deed, SaidEntry, DidOperation, deeds_of, Throughout, Finishes}
use Rattle.dkg_store.specs.Recorded.{restored_list}
use Rattle.dkg_store.specs.Events.{IsEvent}
use Rattle.dkg_store.specs.declared.event.Event.TheVariants as events
use Rattle.dkg_store.specs.Pairs.{Pairs, IsWhole, recovered}
use Rattle.dkg_core.specs.Fixed.{Fixed}
use Rattle.dkg_core.specs.Live.{Live, Mailed, Peer, awaited_height}
use Rattle.dkg_core.specs.Setup.{setup}
use Rattle.dkg_core.specs.Meant.{ReadsRecords}
use Rattle.dkg_core.specs.Core.{opening, step}
use Rattle.dkg_core.specs.Laws.{IsAccepted, StartsWithin}

-- the dealings that the devices give back
abbrev pub recovered_in : Held → Pairs
recovered_in h = recovered (notes h) h.secrets

-- An acknowledgement is that of a dealing that the devices give back, and so is a dealing that was told as recorded.
abbrev pub IsSaid : {Dir : Type 0} → Fixed Dir → Round → Held → Entry → Type 0
IsSaid c round h (Ack epoch dealer ack) = (pair : List ℕ × ℕ) × (get (recovered_in h) (epoch, dealer) ≡ Some pair) × (ack ≡ c.rules.ack_of c.me round dealer pair.0)
IsSaid c round h (Recorded epoch dealer public private) = get (recovered_in h) (epoch, dealer) ≡ Some (public, private)
IsSaid c round h line = Unit {0}

-- The dealings from before, or with them one that was accepted from the message's sender.
abbrev pub MayHave : {Dir : Type 0} → Fixed Dir → Live Dir → (from : ℕ) → Round → Pairs → Pairs → Type 0
MayHave c st from round pairs now =
    (now ≡ pairs) ⊎ ((public : List ℕ) × (private : ℕ) × IsAccepted c st round.number from public private × (now ≡ insert pairs (round.number, from) (public, private)))

-- At a moment of the step: the devices are whole and give these dealings back, and each line since its beginning is sound.
pub record IsKeptAt {Dir : Type 0} (c : Fixed Dir) (st : Live Dir) (from : ℕ) (round : Round) (base : List Entry) (pairs : Pairs) (w : World) : Type 0 where
  pub whole : IsWhole (notes w.held) w.held.secrets
  pub gives : MayHave c st from round pairs (recovered_in w.held)
  pub added : List Entry
  pub out : w.out ≡ base ++ added
  pub said : AllByRecursion (IsSaid c round w.held) added

-- Before the step, memory and devices agree, and what the message may bring fits a record.
pub record Agrees {Dir : Type 0} (c : Fixed Dir) (st : Live Dir) (from : ℕ) (bytes : List ℕ) (pairs : Pairs) (w : World) : Type 0 where
  pub records : st.records.dealings ≡ maps.entries pairs
  pub whole : IsWhole (notes w.held) w.held.secrets
  pub gives : recovered_in w.held ≡ pairs
  pub fits : (public : List ℕ) (private : ℕ) → all_of (message_at c.limit bytes) ≡ Ok (ADealing public private) → IsEvent (events.Dealing from public)
  pub fits_ack : (ack : List ℕ) → all_of (message_at c.limit bytes) ≡ Ok (AnAck ack) → IsEvent (events.Ack from ack)

-- A SETUP keeps every dealing of the awaited epoch and of the one before, at every exit.
abbrev pub KeepsFrom : (min : ℕ) → Held → World → Type 0
KeepsFrom min h w = (key : ℕ × ℕ) → min ≤ key.0 → get (recovered_in w.held) key ≡ get (recovered_in h) key

abbrev pub SetupsKeep : Type 0 → Type 0
SetupsKeep Dir = (c : Fixed Dir) (material : Option (EpochInfo Dir × ℕ)) (st : Live Dir) (w : World)
    → Throughout (KeepsFrom (epoch_of c.blocks_per_epoch (awaited_height st) - 1) w.held) (setup c material st) w

-- AN OPENING keeps every dealing of the epoch that it starts in and of the one before, at every exit.
abbrev pub OpeningsKeep : Type 0 → Type 0
OpeningsKeep Dir = (c : Fixed Dir) (most : ℕ) (w : World) → StartsWithin c most → Throughout (KeepsFrom most w.held) (opening c) w

-- .. and lists what the devices give back.
abbrev pub OpeningsRestore : Type 0 → Type 0
OpeningsRestore Dir = (c : Fixed Dir) (h : Held) → ReadsRecords c.seen
    → (rest : List (Deed Dir)) × (deeds_of (opening c) h ≡ DidOperation (OnDisk Bars) ∷ DidOperation (OnDisk (Opens c.opening_calls)) ∷ SaidEntry (Opened c.life (restored_list (recovered_in h))) ∷ rest)

-- A PEER'S MESSAGE KEEPS THE PROMISE, wherever the step ends and whatever an operation in hand leaves.
abbrev pub PeersAreKept : Type 0 → Type 0
PeersAreKept Dir = (c : Fixed Dir) (st : Live Dir) (from : ℕ) (bytes : List ℕ) (round : Round) (w : World) (pairs : Pairs)
    → st.participation.round ≡ Some round → Agrees c st from bytes pairs w → Throughout (IsKeptAt c st from round w.out pairs) (step c (Mailed (Peer from bytes)) st) w

-- A RUN OF PEERS' MESSAGES, one after another
abbrev pub hears_all : {Dir : Type 0} → Fixed Dir → List (ℕ × List ℕ) → Live Dir → Course Dir Fault (Live Dir)
hears_all c [] st = Goes st
hears_all c (m ∷ ms) st = bind (step c (Mailed (Peer m.0 m.1)) st) (λ st. hears_all c ms st)

-- Whatever they bring fits a record.
abbrev pub Fits : {Dir : Type 0} → Fixed Dir → ℕ × List ℕ → Type 0
Fits c m =
    ((public : List ℕ) (private : ℕ) → all_of (message_at c.limit m.1) ≡ Ok (ADealing public private) → IsEvent (events.Dealing m.0 public))
    × ((ack : List ℕ) → all_of (message_at c.limit m.1) ≡ Ok (AnAck ack) → IsEvent (events.Ack m.0 ack))

-- At a moment of the run: the devices are whole, and each line since its beginning is sound over what they give back.
pub record IsKeptSince {Dir : Type 0} (c : Fixed Dir) (round : Round) (base : List Entry) (w : World) : Type 0 where
  pub whole : IsWhole (notes w.held) w.held.secrets
  pub added : List Entry
  pub out : w.out ≡ base ++ added
  pub said : AllByRecursion (IsSaid c round w.held) added

-- Memory and devices agree, and the life takes part in this round.
pub record IsAgreed {Dir : Type 0} (st : Live Dir) (round : Round) (w : World) : Type 0 where
  pub of_epoch : st.participation.round ≡ Some round
  pub whole : IsWhole (notes w.held) w.held.secrets
  pub records : st.records.dealings ≡ maps.entries (recovered_in w.held)

-- .. which a completed message leaves so,
abbrev pub PeersAgree : Type 0 → Type 0
PeersAgree Dir = (c : Fixed Dir) (st end : Live Dir) (from : ℕ) (bytes : List ℕ) (round : Round) (w new : World)
    → IsAgreed st round w → Fits c (from, bytes) → Finishes (step c (Mailed (Peer from bytes)) st) end w new → IsAgreed end round new

-- .. so that every exit of the run keeps each acknowledgement and each recorded dealing of it.
abbrev pub RunsAreKept : Type 0 → Type 0
RunsAreKept Dir = (c : Fixed Dir) (ms : List (ℕ × List ℕ)) (st : Live Dir) (round : Round) (w : World)
    → IsAgreed st round w → AllByRecursion (Fits c) ms → Throughout (IsKeptSince c round w.out) (hears_all c ms st) w
