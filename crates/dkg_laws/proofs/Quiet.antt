-- Steps and openings say lines of the node's own.
use Rattle.std.proofs.Common.{◌≡◌, inl, inr, ℕ, List, [], ◌∷◌, ◌++◌, map, Option, refl, sym, subst}
use Rattle.std.specs.List.{AllByRecursion}
use Rattle.dkg_infos.specs.declared.entry.Entry.{Entry}
use Rattle.dkg_infos.specs.declared.entry.Entry.TheVariants.{Opened, Recorded, Ack, Offer}
use Rattle.dkg_infos.specs.declared.fault.Fault.{Fault}
use Rattle.dkg_infos.specs.declared.info.EpochInfo.{EpochInfo}
use Rattle.dkg_ceremony.specs.Schedule.{epoch_of}
use Rattle.dkg_store.specs.Acts.{Ended, went, stopped, broken}
use Rattle.dkg_store.specs.Recorded.{restored_of}
use Rattle.dkg_core.specs.Courses.{Course, Say, on_devices, Deed}
use Rattle.dkg_core.specs.Said.{Said}
use Rattle.dkg_core.specs.Said as said
use Rattle.dkg_core.specs.Seen.{Seen}
use Rattle.dkg_core.specs.Fixed.{Fixed}
use Rattle.dkg_core.specs.Live.{Live, Message, Mailed, Peer, Finalized, NextLog, ReleaseLog, EpochInfoOf, Feed, Over, Cancel, Work, awaited_height}
use Rattle.dkg_core.specs.Setup.{setup}
use Rattle.dkg_core.specs.Core.{opening, step, opens_in, begun_life}
use Rattle.dkg_core.specs.Laws.{Law, Holds, Anything, IsQuiet, IsSilent, PeerEntry, peer_law, OtherEntry, OfHalves, OfOffers, IsDealtToItself, IsOffered, other_law, prune_law, reach_of}
use Rattle.dkg_core.specs.Transcripts.{deed_entries, StepsAreQuiet, BeginsOpened, OpeningsAreQuiet}
use Rattle.dkg_core.proofs.Hearing.{heard}
use Rattle.dkg_core.proofs.Holding.{holds_as}
use Rattle.dkg_core.proofs.Lines.{lines_obey, all_lines}
use Rattle.dkg_core.proofs.Opening.{Reaches, opens}
use Rattle.dkg_core.proofs.Others.{others_acknowledge_nothing}
use Rattle.dkg_core.proofs.Pruning.{setups_prune}

-- a law that says no more
abbrev quiet_law : {Dir S : Type 0} → Law Dir S
quiet_law = record { line = λ past line. IsQuiet line; operation = Anything; end = Anything }

silent_quiet : {Dir : Type 0} (past : List (Deed Dir)) (line : Entry) → IsSilent past line → IsQuiet line
silent_quiet past (Recorded epoch dealer public private) h = absurd h
silent_quiet past (Ack epoch dealer ack) h = absurd h
silent_quiet past (Offer epoch player public private) h = tt
silent_quiet past line h = h

peer_quiet : {Dir : Type 0} (c : Fixed Dir) (st : Live Dir) (from : ℕ) (past : List (Deed Dir)) (line : Entry) → PeerEntry c st from past line → IsQuiet line
peer_quiet c st from past (Recorded epoch dealer public private) h = tt
peer_quiet c st from past (Ack epoch dealer ack) h = tt
peer_quiet c st from past (Offer epoch player public private) h = tt
peer_quiet c st from past line h = h

other_quiet : {Dir : Type 0} (c : Fixed Dir) (own : OfHalves) (offered : OfOffers) (past : List (Deed Dir)) (line : Entry) → OtherEntry c own offered past line → IsQuiet line
other_quiet c own offered past (Recorded epoch dealer public private) h = tt
other_quiet c own offered past (Ack epoch dealer ack) h = absurd h
other_quiet c own offered past (Offer epoch player public private) h = tt
other_quiet c own offered past line h = h

-- A STEP

module _ {Dir : Type 0} (c : Fixed Dir) (st : Live Dir) (ended : Ended Fault (Live Dir)) (old new : List Entry) where
  abbrev AddsQuiet : Type 0
  AddsQuiet = (added : List Entry) × (new ≡ old ++ added) × AllByRecursion IsQuiet added

  of_law : (law : Law Dir (Live Dir)) (message : Message Dir) → ((past : List (Deed Dir)) (line : Entry) → law.line past line → IsQuiet line) → Holds law [] (step c message st)
      → Said (on_devices (step c message st)) ended old new → AddsQuiet
  of_law law message so holds said =
      let front = lines_obey law [] (step c message st) ended old new holds said in
      (deed_entries front.deeds, front.added, all_lines law IsQuiet so [] front.deeds front.obeys)

  of_other : (message : Message Dir) → Holds (other_law c (IsDealtToItself c st) (IsOffered c st) (reach_of c message)) [] (step c message st) → Said (on_devices (step c message st)) ended old new → AddsQuiet
  of_other message holds said = of_law (other_law c (IsDealtToItself c st) (IsOffered c st) (reach_of c message)) message (other_quiet c (IsDealtToItself c st) (IsOffered c st)) holds said

  each : (message : Message Dir) → Said (on_devices (step c message st)) ended old new → AddsQuiet
  each (Finalized b) said = of_other (Finalized b) (others_acknowledge_nothing c st (Finalized b) tt) said
  each (Mailed (Peer from bytes)) said = of_law (peer_law c st from) (Mailed (Peer from bytes)) (peer_quiet c st from) (heard c st from bytes) said
  each (Mailed (NextLog request height)) said = of_other (Mailed (NextLog request height)) (others_acknowledge_nothing c st (Mailed (NextLog request height)) tt) said
  each (Mailed (ReleaseLog height)) said = of_other (Mailed (ReleaseLog height)) (others_acknowledge_nothing c st (Mailed (ReleaseLog height)) tt) said
  each (Mailed (EpochInfoOf request)) said = of_other (Mailed (EpochInfoOf request)) (others_acknowledge_nothing c st (Mailed (EpochInfoOf request)) tt) said
  each (Mailed (Feed request b)) said = of_other (Mailed (Feed request b)) (others_acknowledge_nothing c st (Mailed (Feed request b)) tt) said
  each (Mailed (Over request)) said = of_other (Mailed (Over request)) (others_acknowledge_nothing c st (Mailed (Over request)) tt) said
  each (Mailed (Cancel request)) said = of_other (Mailed (Cancel request)) (others_acknowledge_nothing c st (Mailed (Cancel request)) tt) said
  each (Mailed (Work handed)) said = of_other (Mailed (Work handed)) (others_acknowledge_nothing c st (Mailed (Work handed)) tt) said

pub steps_are_quiet : {Dir : Type 0} → StepsAreQuiet Dir
steps_are_quiet c st message ended old new said = each c st ended old new message said

-- AN OPENING

module _ {Dir : Type 0} (c : Fixed Dir) where
  setup_quiet : (past : List (Deed Dir)) (material : Option (EpochInfo Dir × ℕ)) (st : Live Dir) → Holds quiet_law past (setup c material st)
  setup_quiet past material st =
      holds_as (prune_law (epoch_of c.blocks_per_epoch (awaited_height st))) quiet_law past (setup c material st) silent_quiet (λ past op h. tt) (λ past st h. tt) (setups_prune c material st past)

  reaching : Reaches c quiet_law (λ height. Unit {0})
  reaching = record {
    by_anchor = tt;
    by_floor = λ digest b is. tt;
    lines = silent_quiet;
    operations = λ past op h. tt;
    ends = λ past st. tt;
    sets_up = λ past material st within. setup_quiet past material st;
  }

  abbrev rest_of : Seen → Course Dir Fault (Live Dir)
  rest_of seen = opens_in c c.oneshot (begun_life seen)

  abbrev first_line : Seen → Entry
  first_line seen = Opened c.life (map restored_of seen.dealings)

  rest_quiet : (seen : Seen) (ended : Ended Fault (Live Dir)) (lines : List Entry) → said.SaysBy (on_devices (rest_of seen)) ended lines → AllByRecursion IsQuiet lines
  rest_quiet seen ended lines by =
      let front = lines_obey quiet_law [] (rest_of seen) ended [] lines (opens c quiet_law (λ height. Unit {0}) reaching [] c.oneshot (begun_life seen)) (record { lines = lines; added = refl; by = by }) in
      subst (AllByRecursion IsQuiet) (sym front.added) (all_lines {S = Live Dir} quiet_law IsQuiet (λ past line h. h) [] front.deeds front.obeys)

  begins : (seen : Seen) (ended : Ended Fault (Live Dir)) (lines rest : List Entry) → lines ≡ first_line seen ∷ rest → said.SaysBy (on_devices (rest_of seen)) ended rest → BeginsOpened c.life lines ended
  begins seen ended lines rest are by = subst (λ (ls : List Entry). BeginsOpened c.life ls ended) (sym are) (refl, rest_quiet seen ended rest by)

  none : (lines : List Entry) (ended : Ended Fault (Live Dir)) → lines ≡ [] → BeginsOpened c.life [] ended → BeginsOpened c.life lines ended
  none lines ended are so = subst (λ (ls : List Entry). BeginsOpened c.life ls ended) (sym are) so

  openings : (ended : Ended Fault (Live Dir)) (lines : List Entry) → said.SaysBy (on_devices (opening c)) ended lines → BeginsOpened c.life lines ended
  openings (went end) lines a = begins (c.seen a.0) (went end) lines a.1.0 a.1.1 a.1.2
  openings (stopped fault) lines a = begins (c.seen a.0) (stopped fault) lines a.1.0 a.1.1 a.1.2
  openings (broken cause) lines (inl is) = none lines (broken cause) is tt
  openings (broken cause) lines (inr (inl is)) = none lines (broken cause) is tt
  openings (broken cause) lines (inr (inr (inl is))) = none lines (broken cause) is tt
  openings (broken cause) lines (inr (inr (inr read))) = told read.1
    where
      told : said.SaysFirst (on_devices (Say (first_line (c.seen read.0)) (rest_of (c.seen read.0)))) lines → BeginsOpened {F = Fault} {S = Live Dir} c.life lines (broken cause)
      told (inl is) = none lines (broken cause) is tt
      told (inr a) = begins (c.seen read.0) (broken cause) lines a.0 a.1 a.2

pub openings_are_quiet : {Dir : Type 0} → OpeningsAreQuiet Dir
openings_are_quiet c ended old new said = (said.lines, said.added, openings c ended said.lines said.by)
