-- What any step and any opening keeps, wherever it ends: the devices are whole, and what was told of dealings is given back.
use Rattle.std.specs.Prelude.{ℕ, List, ◌++◌, ◌≤◌, ◌≡◌, Some}
use Rattle.std.specs.List.{AllByRecursion}
use Rattle.std.specs.FinMap.{get}
use Rattle.dkg_ceremony.specs.declared.round.RoundParts.{RoundParts as Round}
use Rattle.dkg_infos.specs.declared.entry.Entry.{Entry}
use Rattle.dkg_infos.specs.declared.entry.Entry.TheVariants.{Recorded, Ack}
use Rattle.dkg_infos.specs.declared.fault.Fault.{Fault}
use Rattle.dkg_store.specs.Acts.{Held, World, Ended, notes}
use Rattle.dkg_store.specs.Pairs.{IsWhole}
use Rattle.dkg_core.specs.Courses.{Throughout, EndsSo}
use Rattle.dkg_core.specs.Fixed.{Fixed}
use Rattle.dkg_core.specs.Live.{Live, Message}
use Rattle.dkg_core.specs.Core.{opening, step}
use Rattle.dkg_core.specs.Heard.{recovered_in}
use Rattle.dkg_core.specs.Laws.{reach_of, StartsWithin}
use Rattle.dkg_core.specs.Agreeing.{AreAgreed, CanRecord}

-- this node's acknowledgement of a public half, by round and dealer
abbrev pub OwnAckOf : Type 0
OwnAckOf = Round → (dealer : ℕ) → List ℕ → List ℕ

-- From an epoch on: a dealing that was told as recorded is given back, and an acknowledgement is that of a dealing that is given back, in a round of its epoch.
abbrev pub IsSaidFrom : OwnAckOf → (most : ℕ) → Held → Entry → Type 0
IsSaidFrom ack_of most h (Recorded epoch dealer public private) = most ≤ epoch → get (recovered_in h) (epoch, dealer) ≡ Some (public, private)
IsSaidFrom ack_of most h (Ack epoch dealer ack) =
    most ≤ epoch → (pair : List ℕ × ℕ) × (round : Round) × (get (recovered_in h) (epoch, dealer) ≡ Some pair) × (round.number ≡ epoch) × (ack ≡ ack_of round dealer pair.0)
IsSaidFrom ack_of most h line = Unit {0}

-- At a moment: the devices are whole, and so is each line since the beginning, over what they give back.
pub record IsKeptFrom (ack_of : OwnAckOf) (most : ℕ) (base : List Entry) (w : World) : Type 0 where
  pub whole : IsWhole (notes w.held) w.held.secrets
  pub added : List Entry
  pub out : w.out ≡ base ++ added
  pub said : AllByRecursion (IsSaidFrom ack_of most w.held) added

-- ANY STEP KEEPS IT, at every exit, whatever an operation in hand leaves: of epochs from the one that it may prune below.
abbrev pub StepsKeep : Type 0 → Type 0
StepsKeep Dir = (c : Fixed Dir) (st : Live Dir) (message : Message Dir) (most : ℕ) (base : List Entry) (w : World) → reach_of c message ≤ most
    → AreAgreed st.records w.held → CanRecord c st message → IsKeptFrom (c.rules.ack_of c.me) most base w
    → Throughout (IsKeptFrom (c.rules.ack_of c.me) most base) (step c message st) w

-- .. and gives back each dealing that was given back before it, of those epochs, whether or not it was told.
abbrev pub StepsGiveBack : Type 0 → Type 0
StepsGiveBack Dir = (c : Fixed Dir) (st : Live Dir) (message : Message Dir) (ended : Ended Fault (Live Dir)) (most : ℕ) (w new : World) → reach_of c message ≤ most
    → AreAgreed st.records w.held → CanRecord c st message → EndsSo (step c message st) ended w new
    → (key : ℕ × ℕ) (pair : List ℕ × ℕ) → most ≤ key.0 → get (recovered_in w.held) key ≡ Some pair → get (recovered_in new.held) key ≡ Some pair

-- SO DOES AN OPENING, of the epoch that it starts in and of the one before on.
abbrev pub OpeningsEndure : Type 0 → Type 0
OpeningsEndure Dir = (c : Fixed Dir) (ack_of : OwnAckOf) (most : ℕ) (base : List Entry) (w : World) → StartsWithin c most
    → IsKeptFrom ack_of most base w → Throughout (IsKeptFrom ack_of most base) (opening c) w
