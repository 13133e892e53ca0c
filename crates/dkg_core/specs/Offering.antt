-- What a node offers: halves that its dealer deals, to players whose acknowledgement doesn't count by then.
use Rattle.std.specs.Prelude.{◌≡◌, ◌++◌, List}
use Rattle.std.specs.List.{AllByRecursion}
use Rattle.dkg_infos.specs.declared.entry.Entry.{Entry}
use Rattle.dkg_infos.specs.declared.entry.Entry.TheVariants.{Offer}
use Rattle.dkg_infos.specs.declared.fault.Fault.{Fault}
use Rattle.dkg_store.specs.Acts.{Ended}
use Rattle.dkg_core.specs.Courses.{on_devices}
use Rattle.dkg_core.specs.Said.{Said}
use Rattle.dkg_core.specs.Fixed.{Fixed}
use Rattle.dkg_core.specs.Live.{Live, NodeStop, Message}
use Rattle.dkg_core.specs.Core.{step}
use Rattle.dkg_core.specs.Node.{node_step}
use Rattle.dkg_core.specs.Behind.{event_of}
use Rattle.dkg_core.specs.Laws.{IsOffered}

abbrev pub IsOfferOf : {Dir : Type 0} → Fixed Dir → Live Dir → Entry → Type 0
IsOfferOf c st (Offer epoch player public private) = IsOffered c st epoch player public private
IsOfferOf c st line = Unit {0}

-- WHAT ANY STEP OFFERS its dealer deals, whatever the devices tell,
abbrev pub OffersAreDealt : Type 0 → Type 0
OffersAreDealt Dir = (c : Fixed Dir) (st : Live Dir) (message : Message Dir) (ended : Ended Fault (Live Dir)) (old new : List Entry)
    → Said (on_devices (step c message st)) ended old new → (added : List Entry) × (new ≡ old ++ added) × AllByRecursion (IsOfferOf c st) added

-- .. and what a node's step offers.
abbrev pub NodeOffersAreDealt : Type 0 → Type 0
NodeOffersAreDealt Dir = (c : Fixed Dir) (st : Live Dir) (message : Message Dir) (ended : Ended NodeStop (Live Dir)) (old new : List Entry)
    → Said (on_devices (node_step c (event_of message) st)) ended old new → (added : List Entry) × (new ≡ old ++ added) × AllByRecursion (IsOfferOf c st) added
