-- Memory has what the devices give back, behind every completed opening and step.
use Rattle.std.specs.Prelude.{ℕ, List, ◌≡◌, Option, Some, option_and_then}
use Rattle.std.specs.FinMap as maps
use Rattle.dkg_ceremony.specs.declared.round.RoundParts.{RoundParts as Round}
use Rattle.dkg_ceremony.specs.declared.signed_log.SignedDealerLog.{SignedDealerLog}
use Rattle.dkg_types.specs.PayloadCodes.{its_log}
use Rattle.dkg_infos.specs.declared.info.EpochInfo.{EpochInfo}
use Rattle.dkg_store.specs.Acts.{Held, World, notes}
use Rattle.dkg_store.specs.Events.{IsEvent}
use Rattle.dkg_store.specs.declared.event.Event.TheVariants as events
use Rattle.dkg_store.specs.Noted.{acks_in, logs_in}
use Rattle.dkg_store.specs.Pairs.{IsWhole}
use Rattle.dkg_core.specs.Courses.{Finishes}
use Rattle.dkg_core.specs.Fixed.{Fixed}
use Rattle.dkg_core.specs.Live.{Live, Records, Dealer, Message, Mailed, Peer, Finalized}
use Rattle.dkg_core.specs.Core.{opening, step}
use Rattle.dkg_core.specs.Setup.{setup}
use Rattle.dkg_core.specs.Heard.{recovered_in, Fits}
use Rattle.dkg_core.specs.Meant.{ReadsRecords}

-- The devices are whole, and give back what is recorded in memory.
pub record AreAgreed (r : Records) (h : Held) : Type 0 where
  pub whole : IsWhole (notes h) h.secrets
  pub dealings : r.dealings ≡ maps.entries (recovered_in h)
  pub acks : r.acks ≡ maps.entries (acks_in (notes h))
  pub logs : r.logs ≡ maps.entries (logs_in (notes h))

-- what a message may bring to be recorded fits a record
abbrev pub BringsRecords : {Dir : Type 0} → Fixed Dir → Message Dir → Type 0
BringsRecords c (Mailed (Peer from bytes)) = Fits c (from, bytes)
BringsRecords c (Finalized b) = (log : SignedDealerLog) → option_and_then its_log b.payload ≡ Some log → IsEvent (events.LogAt log.dealer b.height log.log)
BringsRecords c message = Unit {0}

-- .. and so does what this node records of its own: its acknowledgements of itself, and its dealer's public half
pub record CanRecord {Dir : Type 0} (c : Fixed Dir) (st : Live Dir) (message : Message Dir) : Type 0 where
  pub acks : (round : Round) (public : List ℕ) → IsEvent (events.Ack c.me (c.rules.ack_of c.me round c.me public))
  pub dealing : (dealer : Dealer) → st.participation.dealer ≡ Some dealer → IsEvent (events.Dealing c.me dealer.public)
  pub brings : BringsRecords c message

-- A STEP, whatever it takes
abbrev pub StepsAgree : Type 0 → Type 0
StepsAgree Dir = (c : Fixed Dir) (st end : Live Dir) (message : Message Dir) (w new : World)
    → AreAgreed st.records w.held → CanRecord c st message → Finishes (step c message st) end w new → AreAgreed end.records new.held

-- A SETUP, wherever the life stands
abbrev pub SetupsAgree : Type 0 → Type 0
SetupsAgree Dir = (c : Fixed Dir) (material : Option (EpochInfo Dir × ℕ)) (st end : Live Dir) (w new : World)
    → AreAgreed st.records w.held → Finishes (setup c material st) end w new → AreAgreed end.records new.held

-- AN OPENING, in either mode
abbrev pub OpeningsAgree : Type 0 → Type 0
OpeningsAgree Dir = (c : Fixed Dir) (end : Live Dir) (w new : World)
    → ReadsRecords c.seen → IsWhole (notes w.held) w.held.secrets → Finishes (opening c) end w new → AreAgreed end.records new.held
