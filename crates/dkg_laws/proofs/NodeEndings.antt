-- What a node's opening and its steps say and answer, by their halves.
use Rattle.std.proofs.Common.{◌≡◌, inl, inr, ℕ, List, [], ◌∷◌, ◌++◌, Bool, true, false, Option, Some, None, refl, sym, ◌∙◌, ap, subst, append_assoc, append-nil}
use Rattle.std.specs.Prelude.{is_some, if◌then◌else◌, Result, Ok, Err}
use Rattle.std.specs.List.{AllByRecursion}
use Rattle.std.specs.Option.{option_map_or}
use Rattle.dkg_values.specs.Codec.{whole}
use Rattle.dkg_values.specs.Rising.{lookup}
use Rattle.dkg_values.specs.declared.codec.CodecError.{CodecError}
use Rattle.dkg_ceremony.specs.declared.ceremony.AckError.{AckError}
use Rattle.dkg_ceremony.specs.declared.ceremony.DealingError.{DealingError}
use Rattle.dkg_ceremony.specs.declared.round.RoundParts.{RoundParts as Round}
use Rattle.dkg_infos.specs.declared.entry.Entry.{Entry}
use Rattle.dkg_infos.specs.declared.entry.Entry.TheVariants.{Opened, Recorded, Ack, Offer}
use Rattle.dkg_infos.specs.declared.fault.Fault.{Fault}
use Rattle.dkg_types.specs.declared.message.Message.{Message as Channel}
use Rattle.dkg_types.specs.declared.message.Message.TheVariants.{Dealer as ADealing, Ack as AnAck}
use Rattle.dkg_types.specs.MessageCodes.{message_at}
use Rattle.dkg_store.specs.Acts.{World, Ended, went, stopped, broken}
use Rattle.dkg_store.specs.declared.event.Event.TheVariants as events
use Rattle.dkg_core.specs.Courses.{Course, Goes, bind, under, on_devices, Deed, SaidEntry, DidOperation, CalledOutside, EndsSo}
use Rattle.dkg_core.specs.Fixed.{Fixed}
use Rattle.dkg_core.specs.Live.{Live, Dealer, NodeStop, Faulted, Seat, Plays, Watches, Stage, Deals, Includes, Follows, Ends, Mailed, Peer, recorded_at}
use Rattle.dkg_core.specs.Dealing as d
use Rattle.dkg_core.specs.Core.{step}
use Rattle.dkg_core.specs.Entering as half
use Rattle.dkg_core.specs.Node.{unless_once}
use Rattle.dkg_core.specs.Laws.{IsQuiet}
use Rattle.dkg_core.specs.Transcripts.{deed_entries, BeginsOpened}
use Rattle.dkg_core.specs.Splitting.{IsEarly, fault_named}
use Rattle.dkg_core.specs.Behind.{EndsBehind, IfEarly, IsAside}
use Rattle.dkg_core.specs.Endings.{ComesTo}
use Rattle.dkg_core.specs.NodeEndings.{NodeOpeningsAreQuiet, NodeStepsAreQuiet, NodeDuesAreAnswered}
use Rattle.dkg_core.proofs.Answering.{answered}
use Rattle.dkg_core.proofs.Behind.{openings_say_behind, steps_say_behind}
use Rattle.dkg_core.proofs.Lines.{runs_add_deeds}
use Rattle.dkg_laws.proofs.Quiet.{openings_are_quiet, steps_are_quiet}
use Rattle.dkg_laws.proofs.Said.{runs_say}
use Rattle.dkg_core.proofs.Splitting.{runs_split, runs_under, came_to}

-- THE RESHARE HALF, AND WHAT COMES BEHIND IT

-- P of how a course went to its end, of how it went under other names
of_went : {S : Type 0} (P : Ended Fault S → Type 0) (end : S) (its : Ended Fault S) → went end ≡ fault_named Faulted its → P its → P (went end)
of_went P end (went other) is p = subst (λ end. P (went end)) (sym (same_end end other is)) p
  where
    same_end : {S : Type 0} (a b : S) → ◌≡◌ {A = Ended NodeStop S} (went a) (went b) → a ≡ b
    same_end a b e = cc
of_went P end (stopped fault) is p = absurd (apart end fault is)
  where
    apart : {S : Type 0} (end : S) (fault : Fault) → ◌≡◌ {A = Ended NodeStop S} (went end) (stopped (Faulted fault)) → ⊥
    apart end fault e = cc
of_went P end (broken cause) is p = absurd (apart end is)
  where
    apart : {S : Type 0} (end : S) → ◌≡◌ {A = Ended NodeStop S} (went end) (broken cause) → ⊥
    apart end e = cc

module _ {Dir : Type 0} (c : Fixed Dir) where
  -- a half that doesn't wait has nothing to ask
  asks_nothing : (st : Live Dir) → st.orchestrator.waiting ≡ None → half.asks_again c st ≡ Goes st
  asks_nothing st none = ap (λ (o : _). option_map_or (λ w. bind (half.enters c w st) (half.acked_late w.block)) o (Goes st)) none

-- WHAT THEY SAY

aside_quiet : (line : Entry) → IsAside line → IsQuiet line
aside_quiet (Recorded epoch dealer public private) aside = absurd aside
aside_quiet (Ack epoch dealer ack) aside = absurd aside
aside_quiet (Offer epoch player public private) aside = absurd aside
aside_quiet line aside = aside

-- quiet ones, and behind them lines aside
all_quiet : (lines more : List Entry) → AllByRecursion IsQuiet lines → AllByRecursion IsAside more → AllByRecursion IsQuiet (lines ++ more)
all_quiet [] [] all aside = tt
all_quiet [] (line ∷ more) all aside = (aside_quiet line aside.0, all_quiet [] more tt aside.1)
all_quiet (line ∷ lines) more all aside = (all.0, all_quiet lines more all.1 aside)

-- the line of the opening stands first, whatever comes behind: nothing, where the reshare half has said nothing
opened_first : {Dir : Type 0} (life : ℕ) (added more : List Entry) (its : Ended Fault (Live Dir)) (ended : Ended NodeStop (Live Dir)) → EndsBehind its ended → IfEarly its (more ≡ []) → BeginsOpened life added its
    → AllByRecursion IsAside more → BeginsOpened life (added ++ more) ended
opened_first life (Opened number restored ∷ lines) more its ended ends silent begins aside = (begins.0, all_quiet lines more begins.1 aside)
opened_first {Dir} life [] more (broken cause) ended ends silent begins aside =
    subst (λ (ls : List Entry). BeginsOpened life ls ended) (sym silent) (subst (λ (e : Ended NodeStop (Live Dir)). BeginsOpened life [] e) (sym ends) tt)
opened_first life added more its ended ends silent begins aside = absurd begins

-- lines, and others behind them
behind : (old mid new added more : List Entry) → mid ≡ old ++ added → new ≡ mid ++ more → new ≡ old ++ (added ++ more)
behind old mid new added more first next = next ∙ ap (λ (ls : List Entry). ls ++ more) first ∙ append_assoc old added more

pub node_openings_are_quiet : {Dir : Type 0} → NodeOpeningsAreQuiet Dir
node_openings_are_quiet c ended old new said =
    let its = openings_say_behind c ended old new said in
    let first = openings_are_quiet c its.half old its.mid its.said in
    (first.0 ++ its.lines, behind old its.mid new first.0 its.lines first.1 its.out, opened_first c.life first.0 its.lines its.half ended its.ends its.silent first.2 its.aside)

pub node_steps_are_quiet : {Dir : Type 0} → NodeStepsAreQuiet Dir
node_steps_are_quiet c st message ended old new said =
    let its = steps_say_behind c st message ended old new said in
    let first = steps_are_quiet c st message its.half old its.mid its.said in
    (first.0 ++ its.lines, behind old its.mid new first.0 its.lines first.1 its.out, all_quiet first.0 its.lines first.2 its.aside)

-- WHAT IS DUE

abbrev Always : Fault → Type 0
Always fault = Unit {0}

-- a peer's message leaves the orchestrator as it is
module _ {Dir : Type 0} (c : Fixed Dir) (from : ℕ) (bytes : List ℕ) (st : Live Dir) where
  abbrev Stays : Course Dir Fault (Live Dir) → Type 0
  Stays course = ComesTo Always (λ end. end.orchestrator ≡ st.orchestrator) course

  stays_if : (t : Bool) (x y : Course Dir Fault (Live Dir)) → Stays x → Stays y → Stays (if t then x else y)
  stays_if true x y one other = one
  stays_if false x y one other = other

  module _ (round : Round) where
    checked : (public : List ℕ) (private : ℕ) (check : Result (Unit {0}) DealingError) → Stays (d.checked_dealing c round from public private st check)
    checked public private (Ok passed) = refl
    checked public private (Err e) = refl

    recorded : (public : List ℕ) (private : ℕ) (kept : Option (List ℕ × ℕ)) → Stays (d.hears_dealing_in c round from public private st kept)
    recorded public private (Some kept) = refl
    recorded public private None = checked public private (c.rules.dealing_of round c.me from public private)

    seats : (public : List ℕ) (private : ℕ) (seat : Seat) → Stays (d.seats_dealing_in c round from public private st seat)
    seats public private Plays = recorded public private (recorded_at st.records.dealings round.number from)
    seats public private Watches = refl

    acks_checked : (dealer : Dealer) (ack : List ℕ) (check : Result (Unit {0}) AckError) → Stays (d.checked_ack round dealer from ack st check)
    acks_checked dealer ack (Err e) = refl
    acks_checked dealer ack (Ok passed) =
        let new = d.appends round.number (events.Ack from ack) (Goes (d.counts dealer from ack (d.with_ack round.number from ack st))) in
        let known = if is_some (recorded_at st.records.acks round.number from) then Goes (d.counts dealer from ack st) else new in
        stays_if (is_some (lookup from dealer.acks)) (Goes st) known refl (stays_if (is_some (recorded_at st.records.acks round.number from)) (Goes (d.counts dealer from ack st)) new refl refl)

    hears_ack : (found : Option Dealer) (ack : List ℕ) → Stays (d.hears_ack c round found from ack st)
    hears_ack None ack = refl
    hears_ack (Some dealer) ack = acks_checked dealer ack (c.rules.check_ack_of round c.me dealer.public from ack)

    reads : (read : Result Channel CodecError) → Stays (d.reads c round from st read)
    reads (Err e) = refl
    reads (Ok (ADealing public private)) = seats public private st.participation.seat
    reads (Ok (AnAck ack)) = hears_ack st.participation.dealer ack

  in_round : (found : Option Round) → Stays (option_map_or (λ round. d.reads c round from st (whole (message_at c.limit bytes))) found (Goes st))
  in_round None = refl
  in_round (Some round) = reads round (whole (message_at c.limit bytes))

  hears : (stage : Stage) → Stays (d.hears_peer_in c from bytes st stage)
  hears Deals = in_round st.participation.round
  hears Includes = refl
  hears Follows = refl
  hears Ends = refl

  pub peers_stay : (end : Live Dir) (w new : World) → EndsSo (step c (Mailed (Peer from bytes)) st) (went end) w new → end.orchestrator ≡ st.orchestrator
  peers_stay end w new run =
      came_to Always (λ end. end.orchestrator ≡ st.orchestrator) (step c (Mailed (Peer from bytes)) st) (went end) w.out new.out (hears st.participation.stage)
      (runs_say (on_devices (step c (Mailed (Peer from bytes)) st)) (went end) w new run)

  -- nothing is said behind it, where the orchestrator's half doesn't wait
  says_no_more : (end last : Live Dir) (mid new : World) → end.orchestrator.waiting ≡ None → EndsSo (unless_once c (half.asks_again c end) (Goes end)) (went last) mid new → new.out ≡ mid.out
  says_no_more end last mid new none run = either (is_some c.oneshot) run
    where
      done : EndsSo {Dir = Dir} {F = NodeStop} (Goes end) (went last) mid new → new.out ≡ mid.out
      done run = ap (λ (w : World). w.out) run.0

      either : (t : Bool) → EndsSo (if t then Goes end else half.asks_again c end) (went last) mid new → new.out ≡ mid.out
      either true run = done run
      either false run = done (subst (λ (course : Course Dir NodeStop (Live Dir)). EndsSo course (went last) mid new) (asks_nothing c end none) run)

last_line : {Dir : Type 0} (deeds : List (Deed Dir)) (line : Entry) → deed_entries (deeds ++ SaidEntry line ∷ []) ≡ deed_entries deeds ++ line ∷ []
last_line [] line = refl
last_line (SaidEntry its ∷ deeds) line = ap (λ (ls : List Entry). its ∷ ls) (last_line deeds line)
last_line (DidOperation op ∷ deeds) line = last_line deeds line
last_line (CalledOutside outer ∷ deeds) line = last_line deeds line

not_early : {F S T : Type 0} (early : Ended F S) (end : T) → IsEarly early (went end) → ⊥
not_early (went its) end is = is
not_early (stopped fault) end is = is
not_early (broken cause) end is = is

pub node_dues_are_answered : {Dir : Type 0} → NodeDuesAreAnswered Dir
node_dues_are_answered {Dir} c st end from bytes due w new none run =
    elim (runs_split (under Faulted (step c (Mailed (Peer from bytes)) st)) (λ st. unless_once c (half.asks_again c st) (Goes st)) (went end) w new run) [
      | inl both ↦ (let its = runs_under Faulted (step c (Mailed (Peer from bytes)) st) (went both.0) w both.1 both.2 in
          let first = of_went (λ its. EndsSo (step c (Mailed (Peer from bytes)) st) its w both.1) both.0 its.0 its.1 its.2 in
          let unasked = ap (λ (o : _). o.waiting) (peers_stay c from bytes st both.0 w both.1 first) ∙ none in
          let more = said both.0 both.1 first in
          (more.0, more.1, says_no_more c from bytes st both.0 end both.1 new unasked both.3 ∙ more.2))
      | inr early ↦ absurd (not_early early.0 end early.1)
    ]
  where
    said : (mid : Live Dir) (now : World) → EndsSo (step c (Mailed (Peer from bytes)) st) (went mid) w now → (before : List Entry) × (ack : List ℕ) × (now.out ≡ w.out ++ (before ++ Ack due.round.number from ack ∷ []))
    said mid now run =
        let adds = runs_add_deeds (step c (Mailed (Peer from bytes)) st) (went mid) w now run in
        let last = answered c st from bytes due w.held in
        let are = ap deed_entries last.2 ∙ last_line last.0 (Ack due.round.number from last.1) in
        let all = sym (adds.of_deeds ∙ ap (λ (ls : List Entry). adds.added ++ ls) adds.own_end.0 ∙ append-nil adds.added) in
        (deed_entries last.0, last.1, adds.out ∙ ap (λ (ls : List Entry). w.out ++ ls) (all ∙ are))
