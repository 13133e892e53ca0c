-- What a step offers its dealer deals.
use Rattle.std.proofs.Common.{◌≡◌, ℕ, List, [], ◌∷◌, ◌++◌, ◌∙◌, ap, append_assoc}
use Rattle.std.specs.List.{AllByRecursion}
use Rattle.dkg_infos.specs.declared.entry.Entry.{Entry}
use Rattle.dkg_infos.specs.declared.entry.Entry.TheVariants.{Offer}
use Rattle.dkg_infos.specs.declared.fault.Fault.{Fault}
use Rattle.dkg_store.specs.Acts.{Ended}
use Rattle.dkg_core.specs.Courses.{Deed, on_devices}
use Rattle.dkg_core.specs.Said.{Said}
use Rattle.dkg_core.specs.Fixed.{Fixed}
use Rattle.dkg_core.specs.Live.{Live, Message, Mailed, Peer, Finalized, NextLog, ReleaseLog, EpochInfoOf, Feed, Over, Cancel, Work}
use Rattle.dkg_core.specs.Core.{step}
use Rattle.dkg_core.specs.Laws.{Law, Holds, PeerEntry, peer_law, OtherEntry, OfHalves, IsDealtToItself, IsOffered, other_law, reach_of}
use Rattle.dkg_core.specs.Behind.{IsAside}
use Rattle.dkg_core.specs.Transcripts.{deed_entries}
use Rattle.dkg_core.specs.Offering.{IsOfferOf, OffersAreDealt, NodeOffersAreDealt}
use Rattle.dkg_core.proofs.Behind.{steps_say_behind}
use Rattle.dkg_core.proofs.Hearing.{heard}
use Rattle.dkg_core.proofs.Lines.{lines_obey, all_lines}
use Rattle.dkg_core.proofs.Others.{others_acknowledge_nothing}

peer_offers : {Dir : Type 0} (c : Fixed Dir) (st : Live Dir) (from : ℕ) (past : List (Deed Dir)) (line : Entry) → PeerEntry c st from past line → IsOfferOf c st line
peer_offers c st from past (Offer epoch player public private) h = absurd h
peer_offers c st from past line h = tt

other_offers : {Dir : Type 0} (c : Fixed Dir) (own : OfHalves) (st : Live Dir) (past : List (Deed Dir)) (line : Entry) → OtherEntry c own (IsOffered c st) past line → IsOfferOf c st line
other_offers c own st past (Offer epoch player public private) h = h
other_offers c own st past line h = tt

aside_offers : {Dir : Type 0} (c : Fixed Dir) (st : Live Dir) (line : Entry) → IsAside line → IsOfferOf c st line
aside_offers c st (Offer epoch player public private) aside = absurd aside
aside_offers c st line aside = tt

module _ {Dir : Type 0} (c : Fixed Dir) (st : Live Dir) (ended : Ended Fault (Live Dir)) (old new : List Entry) where
  abbrev AddsDealt : Type 0
  AddsDealt = (added : List Entry) × (new ≡ old ++ added) × AllByRecursion (IsOfferOf c st) added

  of_law : (law : Law Dir (Live Dir)) (message : Message Dir) → ((past : List (Deed Dir)) (line : Entry) → law.line past line → IsOfferOf c st line) → Holds law [] (step c message st)
      → Said (on_devices (step c message st)) ended old new → AddsDealt
  of_law law message so holds said =
      let front = lines_obey law [] (step c message st) ended old new holds said in
      (deed_entries front.deeds, front.added, all_lines law (IsOfferOf c st) so [] front.deeds front.obeys)

  of_other : (message : Message Dir) → Holds (other_law c (IsDealtToItself c st) (IsOffered c st) (reach_of c message)) [] (step c message st) → Said (on_devices (step c message st)) ended old new → AddsDealt
  of_other message holds said = of_law (other_law c (IsDealtToItself c st) (IsOffered c st) (reach_of c message)) message (other_offers c (IsDealtToItself c st) st) holds said

  each : (message : Message Dir) → Said (on_devices (step c message st)) ended old new → AddsDealt
  each (Finalized b) said = of_other (Finalized b) (others_acknowledge_nothing c st (Finalized b) tt) said
  each (Mailed (Peer from bytes)) said = of_law (peer_law c st from) (Mailed (Peer from bytes)) (peer_offers c st from) (heard c st from bytes) said
  each (Mailed (NextLog request height)) said = of_other (Mailed (NextLog request height)) (others_acknowledge_nothing c st (Mailed (NextLog request height)) tt) said
  each (Mailed (ReleaseLog height)) said = of_other (Mailed (ReleaseLog height)) (others_acknowledge_nothing c st (Mailed (ReleaseLog height)) tt) said
  each (Mailed (EpochInfoOf request)) said = of_other (Mailed (EpochInfoOf request)) (others_acknowledge_nothing c st (Mailed (EpochInfoOf request)) tt) said
  each (Mailed (Feed request b)) said = of_other (Mailed (Feed request b)) (others_acknowledge_nothing c st (Mailed (Feed request b)) tt) said
  each (Mailed (Over request)) said = of_other (Mailed (Over request)) (others_acknowledge_nothing c st (Mailed (Over request)) tt) said
  each (Mailed (Cancel request)) said = of_other (Mailed (Cancel request)) (others_acknowledge_nothing c st (Mailed (Cancel request)) tt) said
  each (Mailed (Work handed)) said = of_other (Mailed (Work handed)) (others_acknowledge_nothing c st (Mailed (Work handed)) tt) said

pub offers_are_dealt : {Dir : Type 0} → OffersAreDealt Dir
offers_are_dealt c st message ended old new said = each c st ended old new message said

with_aside : {Dir : Type 0} (c : Fixed Dir) (st : Live Dir) (lines more : List Entry) → AllByRecursion (IsOfferOf c st) lines → AllByRecursion IsAside more → AllByRecursion (IsOfferOf c st) (lines ++ more)
with_aside c st [] [] all aside = tt
with_aside c st [] (line ∷ more) all aside = (aside_offers c st line aside.0, with_aside c st [] more tt aside.1)
with_aside c st (line ∷ lines) more all aside = (all.0, with_aside c st lines more all.1 aside)

pub node_offers_are_dealt : {Dir : Type 0} → NodeOffersAreDealt Dir
node_offers_are_dealt c st message ended old new said =
    let its = steps_say_behind c st message ended old new said in
    let first = offers_are_dealt c st message its.half old its.mid its.said in (
      first.0 ++ its.lines,
      its.out ∙ ap (λ (ls : List Entry). ls ++ its.lines) first.1 ∙ append_assoc old first.0 its.lines,
      with_aside c st first.0 its.lines first.2 its.aside,
    )
