-- Each request of a life waits until it is answered, in the order in which they were made, and no longer; and a verification that runs is of the oldest one that was open as it was read, and that isn't answered.
use Rattle.std.proofs.Common.{◌≡◌, ◌⊎◌, inl, inr, ℕ, zero, suc, ◌+◌, ◌-◌, ◌<◌, ◌≤◌, ◌==◌, ◌||◌, ◌++◌, List, [], ◌∷◌, Option, Some, None, Bool, true, false, arith, refl, sym, ◌∙◌, ap, append_assoc, subst}
use Rattle.std.specs.Prelude.{⊤, filter, fold, map, nat_lt, not, slice_get, take, IfSome, if◌then◌else◌}
use Rattle.std.specs.List.{AllByRecursion}
use Rattle.std.specs.Option.{option_map_or}
use Rattle.std.proofs.lemmas.Bool.Decides.{nat_tests}
use Rattle.std.proofs.lemmas.List.{append_cancel_left}
use Rattle.dkg_ceremony.specs.Schedule.{midpoint}
use Rattle.dkg_types.specs.Blocks.{Block}
use Rattle.dkg_infos.specs.declared.directory.Unit as directory
use Rattle.dkg_infos.specs.declared.entry.AnswerLine.{AnswerLine}
use Rattle.dkg_infos.specs.declared.entry.AnswerLine.TheVariants.{Available, Unavailable}
use Rattle.dkg_infos.specs.declared.entry.Entry.{Entry}
use Rattle.dkg_infos.specs.declared.entry.Entry.TheVariants as entry
use Rattle.dkg_infos.specs.declared.entry.Entry.TheVariants.{Answer}
use Rattle.dkg_reading.specs.Asked.{asks, is_asked}
use Rattle.dkg_text.specs.declared.script.Event.{Event}
use Rattle.dkg_text.specs.declared.script.Event.TheVariants as event
use Rattle.dkg_store.specs.Acts.{went}
use Rattle.dkg_core.specs.Asked.{InRound, IsStarted}
use Rattle.dkg_core.specs.Behind.{event_of}
use Rattle.dkg_core.specs.Courses.{on_devices}
use Rattle.dkg_core.specs.Fixed.{Fixed}
use Rattle.dkg_core.specs.Forms.{Applied, Judged, Passed, Refusal, judged_block}
use Rattle.dkg_core.specs.Including.{changed, is_served_at, releases}
use Rattle.dkg_core.specs.Laws.{IsAmong}
use Rattle.dkg_core.specs.Live as core
use Rattle.dkg_core.specs.Live.{Cancel, Deals, Ends, EpochInfoOf, Feed, Finalized, Follows, Inclusion, Includes, Job, Live, Mail, Message, NextLog, NodeStop, Over, Peer, ReleaseLog, Request, Mailed, Stage, Work, is_last_height, with_inclusion}
use Rattle.dkg_core.specs.Logs.{canonical, filled_by}
use Rattle.dkg_core.specs.Node.{node_step}
use Rattle.dkg_laws.specs.NodeSaying.{IsHalfLine}
use Rattle.dkg_laws.specs.NodeThrough.{IsNodeThrough}
use Rattle.dkg_core.specs.Said.{Said}
use Rattle.dkg_core.specs.SayingThrough.{IsBlockAnswer, IsLineThrough, IsUnasked}
use Rattle.dkg_core.specs.Setup.{begins_inclusion}
use Rattle.dkg_core.specs.Stepping.{dealt_behind, given_itself}
use Rattle.dkg_core.specs.Through.{PassesNothingOn, IsAppliedThrough, IsBlockThrough, IsEndThrough, IsFollowedThrough, IsIncludedThrough, IsLiveThrough, IsReadFrom, asked_by, cancelled, verification_ended, included, unasked, waits_for}
use Rattle.dkg_laws.proofs.NodeSaying.{node_steps_say_through}
use Rattle.dkg_core.proofs.Splitting.{came_to}
use Rattle.dkg_core.proofs.StepDealing as dealing
use Rattle.dkg_promises.specs.Answers.{IsAnsweredSo, IsAskedFor}
use Rattle.dkg_lives.specs.Asks.{RequestStanding, Unmade, Open, FullyFed, Cancelled, IsUncancelled, WereAsked, request_standing, turns}
use Rattle.dkg_lives.specs.Blamed.{tip_in}
use Rattle.dkg_lives.specs.Epochs.{IsLifeInForm, StandsInScript, any_shares, epoch_by}
use Rattle.dkg_lives.specs.Given.{Lived, at_step}
use Rattle.dkg_promises.specs.Leaves.{IsOldest, IsOpenRequest, IsSaidBy, IsVerified, Verifies}
use Rattle.dkg_lives.proofs.Accounting.{Before, IsAnsweredIn, IsKept, IsWaiting, among_both, among_last, among_left, at_first, cancelled_apart, kept_as, last_kept, none_in, step_kept}
use Rattle.dkg_promises.proofs.Answered.{IsSaidAt, answered_so}
use Rattle.dkg_lives.proofs.Apart.{IsApart, IsNewOne, LacksNumber, Reads, idle_work, queued_apart}
use Rattle.dkg_along.proofs.Asking.{dealt_same, goes, heard_same, observed_same, same_epoch}
use Rattle.dkg_along.proofs.FedRequests.{asked_anew, stands_more}
use Rattle.dkg_lives.proofs.Former.{Brings, BringsBlock, BringsMail, IsMessage, brings_so, life_in, step_taken, through_at}
use Rattle.dkg_lives.proofs.NextLives.{GoesOn, TakesOver, has_round}
use Rattle.dkg_promises.proofs.Requested.{AreHeld, AreReady, IsHeld, dealt_said, included_said, less_one, mail_said, sends_info, sent_new, stands_as, untold, were_asked}
use Rattle.dkg_lives.proofs.Unanswered.{IsUnanswered, block_lines}

abbrev U : Type 0
U = directory.Unit

same_number : (a b : ℕ) → (a == b) ≡ true → a ≡ b
same_number a b e = grind (arith, nat_tests)

the_same : {A : Type 0} {x y : A} → ◌≡◌ {A = Option A} (Some x) (Some y) → x ≡ y
the_same e = cc

none_some : {A : Type 0} {x : A} → ◌≡◌ {A = Option A} None (Some x) → ⊥
none_some e = cc

all_of : {A : Type 0} (P : A → Type 0) (xs : List A) (x : A) → IsAmong x xs → AllByRecursion P xs → P x
all_of P [] x among all = absurd among
all_of P (y ∷ xs) x (inl is) all = subst P is all.0
all_of P (y ∷ xs) x (inr among) all = all_of P xs x among all.1

among_kept : {A : Type 0} (keep : A → Bool) (xs : List A) (x : A) → IsAmong x (filter keep xs) → IsAmong x xs
among_kept keep [] x among = absurd among
among_kept keep (y ∷ xs) x among = by_test (λ rest. among_kept keep xs x rest) (keep y) among
  where
    by_test : (IsAmong x (filter keep xs) → IsAmong x xs) → (t : Bool) → IsAmong x (if t then y ∷ filter keep xs else filter keep xs) → IsAmong x (y ∷ xs)
    by_test more true (inl is) = inl is
    by_test more true (inr rest) = inr (more rest)
    by_test more false rest = inr (more rest)

-- EVENTS

-- one that was made names its number
asked_at : (events : List Event) (at i request : ℕ) → at < i → slice_get events at ≡ Some (event.Info request) → is_asked (take i events) request ≡ true
asked_at [] at i request low there = absurd (let wrong : ◌≡◌ {A = Option Event} None (Some (event.Info request)) = there in cc)
asked_at (e ∷ events) at zero request low there = absurd (omega (arith, low))
asked_at (e ∷ events) zero (suc i) request low there = subst (λ (x : Event). (asks request x || is_asked (take i events) request) ≡ true) (sym (the_same there)) (ap (λ (t : Bool). t || is_asked (take i events) request) (itself request))
  where
    itself : (a : ℕ) → (a == a) ≡ true
    itself a = grind (arith, nat_tests)
asked_at (e ∷ events) (suc at) (suc i) request low there = either (asks request e) (asked_at events at i request (omega (arith, low)) there)
  where
    either : (t : Bool) → is_asked (take i events) request ≡ true → (t || is_asked (take i events) request) ≡ true
    either true is = refl
    either false is = is

module _ (g : Lived) where
  -- THE ORDER of requests
  abbrev pub InOrder : (j low : ℕ) → List (Request U) → Type 0
  InOrder j low [] = Unit {0}
  InOrder j low (r ∷ rs) = (at : ℕ) × (low ≤ at) × (at < j) × (slice_get g.life.events at ≡ Some (event.Info r.number)) × InOrder j at rs

  order_lower : (j low high : ℕ) (rs : List (Request U)) → low ≤ high → InOrder j high rs → InOrder j low rs
  order_lower j low high [] le order = tt
  order_lower j low high (r ∷ rs) le (at, above, before, made, rest) = (at, less low high at le above, before, made, rest)
    where
      less : (a b c : ℕ) → a ≤ b → b ≤ c → a ≤ c
      less a b c one two = omega (arith, one, two)

  order_later : (j low : ℕ) (rs : List (Request U)) → InOrder j low rs → InOrder (suc j) low rs
  order_later j low [] order = tt
  order_later j low (r ∷ rs) (at, above, before, made, rest) = (at, above, more at before, made, order_later j at rs rest)
    where
      more : (a : ℕ) → a < j → a < suc j
      more a low = omega (arith, low)

  order_back : (j low : ℕ) (gone rs : List (Request U)) → InOrder j low (gone ++ rs) → InOrder j low rs
  order_back j low [] rs order = order
  order_back j low (r ∷ gone) rs (at, above, before, made, rest) = order_lower j low at rs above (order_back j at gone rs rest)

  order_mapped : (j low : ℕ) (f : Request U → Request U) (rs : List (Request U)) → ((r : Request U) → (f r).number ≡ r.number) → InOrder j low rs → InOrder j low (map f rs)
  order_mapped j low f [] same order = tt
  order_mapped j low f (r ∷ rs) same (at, above, before, made, rest) = (at, above, before, made ∙ ap (λ (k : ℕ). Some (event.Info k)) (sym (same r)), order_mapped j at f rs same rest)

  order_kept : (j low : ℕ) (keep : Request U → Bool) (rs : List (Request U)) → InOrder j low rs → InOrder j low (filter keep rs)
  order_kept j low keep [] order = tt
  order_kept j low keep (r ∷ rs) (at, above, before, made, rest) = by_test (keep r) (order_kept j at keep rs rest)
    where
      by_test : (t : Bool) → InOrder j at (filter keep rs) → InOrder j low (if t then r ∷ filter keep rs else filter keep rs)
      by_test true order = (at, above, before, made, order)
      by_test false order = order_lower j low at (filter keep rs) above order

  order_more : (j low : ℕ) (rs : List (Request U)) (r : Request U) → low ≤ j → slice_get g.life.events j ≡ Some (event.Info r.number) → InOrder j low rs → InOrder (suc j) low (rs ++ r ∷ [])
  order_more j low [] r le made order = (j, le, itself j, made, tt)
    where
      itself : (a : ℕ) → a < suc a
      itself a = omega arith
  order_more j low (x ∷ rs) r le made (at, above, before, was, rest) = (at, above, more at before, was, order_more j at rs r (below at before) made rest)
    where
      more : (a : ℕ) → a < j → a < suc j
      more a low = omega (arith, low)

      below : (a : ℕ) → a < j → a ≤ j
      below a low = omega (arith, low)

  -- the first was made no later than any of them
  pub order_first : (j low n at : ℕ) (rs : List (Request U)) → ((k : ℕ) → slice_get g.life.events k ≡ Some (event.Info n) → k ≡ at) → InOrder j low rs → (r : Request U) → IsAmong r rs → r.number ≡ n → low ≤ at
  order_first j low n at [] one order r among is = absurd among
  order_first j low n at (x ∷ rs) one (k, above, before, made, rest) r (inl same) is = subst (λ (m : ℕ). low ≤ m) (one k (made ∙ ap (λ (y : ℕ). Some (event.Info y)) (ap (λ (y : Request U). y.number) same ∙ is))) above
  order_first j low n at (x ∷ rs) one (k, above, before, made, rest) r (inr among) is = less low k at above (order_first j k n at rs one rest r among is)
    where
      less : (a b c : ℕ) → a ≤ b → b ≤ c → a ≤ c
      less a b c one two = omega (arith, one, two)

  -- one of those that are gone was made no later than all that are left
  order_behind : (j low : ℕ) (gone rs : List (Request U)) (r : Request U) → IsAmong r gone → InOrder j low (gone ++ rs) → (at : ℕ) × (slice_get g.life.events at ≡ Some (event.Info r.number)) × InOrder j at rs
  order_behind j low [] rs r among order = absurd among
  order_behind j low (x ∷ gone) rs r (inl is) (at, above, before, made, rest) = (at, made ∙ ap (λ (y : Request U). Some (event.Info y.number)) is, order_back j at gone rs rest)
  order_behind j low (x ∷ gone) rs r (inr among) (at, above, before, made, rest) = order_behind j at gone rs r among rest

  -- .. and before all of them, where none has its number
  order_above : (j at n : ℕ) (rs : List (Request U)) → slice_get g.life.events at ≡ Some (event.Info n) → LacksNumber n rs → InOrder j at rs → InOrder j (suc at) rs
  order_above j at n [] there lacks order = tt
  order_above j at n (r ∷ rs) there lacks (k, above, before, made, rest) = (k, higher at k above (λ same. lacks.0 (the_number (the_same (sym made ∙ ap (slice_get g.life.events) (sym same) ∙ there)))), before, made, rest)
    where
      the_number : {a b : ℕ} → event.Info a ≡ event.Info b → a ≡ b
      the_number e = cc

      higher : (a b : ℕ) → a ≤ b → (a ≡ b → ⊥) → suc a ≤ b
      higher a b low other = by_test (nat_lt a b) refl
        where
          by_test : (t : Bool) → nat_lt a b ≡ t → suc a ≤ b
          by_test true test = let less : a < b = grind (arith, nat_tests) in omega (arith, less)
          by_test false test = let high : b ≤ a = grind (arith, nat_tests) in absurd (other (omega (arith, low, high)))

  -- A VERIFICATION that runs behind the first j events
  pub record IsRun (e j : ℕ) (said : List Entry) (its : Inclusion U) : Type 0 where
    pub verifies : Verifies g.script g.number g.life e j said
    pub younger : InOrder j (suc (((verifies.its).oldest).its).at) its.queue
    pub waits : (its.waiter ≡ Some verifies.request) ⊎ (its.waiter ≡ None)

  -- EACH REQUEST waits, or was answered, and not both; and each that was answered was made.
  pub record AreTracked (j : ℕ) (st : Live U) (said : List Entry) : Type 0 where
    pub all : (n at : ℕ) → at < j → slice_get g.life.events at ≡ Some (event.Info n) → IsUncancelled (request_standing g.life n j) → IsWaiting n st.inclusion ⊎ IsAnsweredIn n said
    pub absent : (n : ℕ) → IsWaiting n st.inclusion → IsAnsweredIn n said → ⊥
    pub asked : (n : ℕ) → IsAnsweredIn n said → (at : ℕ) × (at < j) × (slice_get g.life.events at ≡ Some (event.Info n))
    pub order : InOrder j 0 st.inclusion.queue
    pub runs : (job : Job) → st.inclusion.running ≡ Some job → IsRun (epoch_by g j) j said st.inclusion

-- .. and so it is known from then on
abbrev IsMade : RequestStanding → Type 0
IsMade Unmade = ⊥
IsMade s = Unit {0}

turn_made : (n : ℕ) (s : RequestStanding) (x : Event) → IsMade s → IsMade (turns n s x)
turn_made n Unmade x made = absurd made
turn_made n Open (event.Over number) made = by_test (number == n)
  where
    by_test : (t : Bool) → IsMade (if t then FullyFed else Open)
    by_test true = tt
    by_test false = tt
turn_made n Open (event.Cancel number) made = by_test (number == n)
  where
    by_test : (t : Bool) → IsMade (if t then Cancelled else Open)
    by_test true = tt
    by_test false = tt
turn_made n Open x made = tt
turn_made n FullyFed (event.Cancel number) made = by_test (number == n)
  where
    by_test : (t : Bool) → IsMade (if t then Cancelled else FullyFed)
    by_test true = tt
    by_test false = tt
turn_made n FullyFed x made = tt
turn_made n Cancelled x made = tt

stays_made : (n : ℕ) (s : RequestStanding) (es : List Event) → IsMade s → IsMade (fold (turns n) s es)
stays_made n s [] made = made
stays_made n s (x ∷ es) made = stays_made n (turns n s x) es (turn_made n s x made)

info_made : (n : ℕ) (s : RequestStanding) → IsMade (turns n s (event.Info n))
info_made n Unmade = subst IsMade (sym (ap (λ (t : Bool). if t then Open else Unmade) (itself n))) tt
  where
    itself : (a : ℕ) → (a == a) ≡ true
    itself a = grind (arith, nat_tests)
info_made n Open = tt
info_made n FullyFed = tt
info_made n Cancelled = tt

stands_made : (n : ℕ) (s : RequestStanding) (events : List Event) (at i : ℕ) → at < i → slice_get events at ≡ Some (event.Info n) → IsMade (fold (turns n) s (take i events))
stands_made n s [] at i low there = absurd (let wrong : ◌≡◌ {A = Option Event} None (Some (event.Info n)) = there in cc)
stands_made n s (x ∷ events) at zero low there = absurd (omega (arith, low))
stands_made n s (x ∷ events) zero (suc i) low there = stays_made n (turns n s x) (take i events) (subst (λ (y : Event). IsMade (turns n s y)) (sym (the_same there)) (info_made n s))
stands_made n s (x ∷ events) (suc at) (suc i) low there = stands_made n (turns n s x) events at i (omega (arith, low)) there

among_right : {A : Type 0} (x : A) (xs ys : List A) → IsAmong x ys → IsAmong x (xs ++ ys)
among_right x [] ys among = among
among_right x (y ∷ xs) ys among = inr (among_right x xs ys among)

-- the event that sends a cancel
sends_cancel : (g : Lived) (x : Event) (number : ℕ) → Brings g x (Mailed (Cancel number)) → x ≡ event.Cancel number
sends_cancel g (event.Cancel request) number brings = ap event.Cancel (sym (the_number brings))
  where
    the_number : {a b : ℕ} → ◌≡◌ {A = Message U} (Mailed (Cancel a)) (Mailed (Cancel b)) → a ≡ b
    the_number e = cc
sends_cancel g (event.Info request) number brings = absurd (let no : ◌≡◌ {A = Message U} (Mailed (Cancel number)) (Mailed (EpochInfoOf request)) = brings in cc)
sends_cancel g (event.Peer from bytes) number brings = absurd (let no : ◌≡◌ {A = Message U} (Mailed (Cancel number)) (Mailed (Peer from bytes)) = brings in cc)
sends_cancel g (event.Final block) number brings = absurd (let no : ◌≡◌ {A = Message U} (Mailed (Cancel number)) (Finalized (brings.0).block) = brings.1 in cc)
sends_cancel g (event.Next request height) number brings = absurd (let no : ◌≡◌ {A = Message U} (Mailed (Cancel number)) (Mailed (NextLog request height)) = brings in cc)
sends_cancel g (event.Release height) number brings = absurd (let no : ◌≡◌ {A = Message U} (Mailed (Cancel number)) (Mailed (ReleaseLog height)) = brings in cc)
sends_cancel g (event.Feed request block) number brings = absurd (let no : ◌≡◌ {A = Message U} (Mailed (Cancel number)) (Mailed (Feed request (brings.0).block)) = brings.1 in cc)
sends_cancel g (event.Over request) number brings = absurd (let no : ◌≡◌ {A = Message U} (Mailed (Cancel number)) (Mailed (Over request)) = brings in cc)
sends_cancel g event.Work number brings = absurd (let no : ◌≡◌ {A = Message U} (Mailed (Cancel number)) (Mailed (Work None)) = brings in cc)
sends_cancel g other number brings = absurd brings

-- one event makes the request
pub made_once : (g : Lived) → IsLifeInForm g → (at other n : ℕ) → slice_get g.life.events at ≡ Some (event.Info n) → slice_get g.life.events other ≡ Some (event.Info n) → other ≡ at
made_once g here at other n there too = by_order (cases at other)
  where
    cases : (a b : ℕ) → (a < b) ⊎ ((b < a) ⊎ (b ≡ a))
    cases a b = by_tests (nat_lt a b) (nat_lt b a) refl refl
      where
        by_tests : (s t : Bool) → nat_lt a b ≡ s → nat_lt b a ≡ t → (a < b) ⊎ ((b < a) ⊎ (b ≡ a))
        by_tests true t one two = inl (grind (arith, nat_tests))
        by_tests false true one two = inr (inl (grind (arith, nat_tests)))
        by_tests false false one two = let low : a ≤ b = grind (arith, nat_tests) in let high : b ≤ a = grind (arith, nat_tests) in inr (inr (omega (arith, low, high)))

    twice : (a b : ℕ) → a < b → slice_get g.life.events a ≡ Some (event.Info n) → slice_get g.life.events b ≡ Some (event.Info n) → ⊥
    twice a b low first second =
        let asked : is_asked (take b g.life.events) n ≡ true = asked_at g.life.events a b n low first in
        let anew : is_asked (take b g.life.events) n ≡ false = asked_anew g.life b n (life_in g here).anew second in
        let no : ◌≡◌ {A = Bool} true false = sym asked ∙ anew in cc

    by_order : (at < other) ⊎ ((other < at) ⊎ (other ≡ at)) → other ≡ at
    by_order (inl low) = absurd (twice at other low there too)
    by_order (inr (inl high)) = absurd (twice other at high too there)
    by_order (inr (inr same)) = same

-- A STEP

module _ (g : Lived) (here : IsLifeInForm g) (i : ℕ) (its : Event) (is : slice_get g.life.events i ≡ Some its) (m : IsMessage g its) (st : Live U) (live : IsLiveThrough (at_step g (suc i)) any_shares st) (stands : StandsInScript g i st)
    (held : AreHeld g untold i st) (end : Live U) (node : IsNodeThrough (at_step g (suc i)) any_shares st m.message None end None) (behind : StandsInScript g (suc i) end) (tip : end.tip ≡ tip_in g.script g.life (suc i)) where
  abbrev c : Fixed U
  c = at_step g (suc i)

  abbrev mid : Live U
  mid = node.mid

  abbrev e : ℕ
  e = epoch_by g i

  mid_tip : mid.tip ≡ tip_in g.script g.life (suc i)
  mid_tip = sym (ap (λ (x : Live U). x.tip) node.same) ∙ tip

  -- as a step's messages say
  brings : (message : Message U) → m.message ≡ message → Brings g its message
  brings message is = subst (λ (x : Message U). Brings g its x) is m.brings

  -- BEFORE THE STEP

  abbrev before : Live U
  before = Before st m.message

  before_apart : (reshare : c.oneshot ≡ None) → IsApart before.inclusion
  before_apart reshare = by_message m.message refl
    where
      by_message : (message : Message U) → m.message ≡ message → IsApart (Before st message).inclusion
      by_message (Finalized b) sent = held.apart
      by_message (Mailed (Peer from bytes)) sent = held.apart
      by_message (Mailed (NextLog request height)) sent = held.apart
      by_message (Mailed (ReleaseLog height)) sent = held.apart
      by_message (Mailed (EpochInfoOf request)) sent = let new : IsNewOne c reshare st (EpochInfoOf request) = sent_new g here i its is st held m c reshare (EpochInfoOf request) sent in queued_apart c reshare st held.apart request new.0 new.1
      by_message (Mailed (Feed request b)) sent = held.apart
      by_message (Mailed (Over request)) sent = held.apart
      by_message (Mailed (Cancel request)) sent = cancelled_apart request st held.apart
      by_message (Mailed (Work handed)) sent = held.apart

  before_idle : before.inclusion.running ≡ None → before.inclusion.waiter ≡ None
  before_idle = by_message m.message
    where
      by_message : (message : Message U) → (Before st message).inclusion.running ≡ None → (Before st message).inclusion.waiter ≡ None
      by_message (Finalized b) none = live.asked.has.waits none
      by_message (Mailed (Peer from bytes)) none = live.asked.has.waits none
      by_message (Mailed (NextLog request height)) none = live.asked.has.waits none
      by_message (Mailed (ReleaseLog height)) none = live.asked.has.waits none
      by_message (Mailed (EpochInfoOf request)) none = live.asked.has.waits none
      by_message (Mailed (Feed request block)) none = live.asked.has.waits none
      by_message (Mailed (Over request)) none = live.asked.has.waits none
      by_message (Mailed (Cancel request)) none = by_test (waits_for request st) none
        where
          by_test : (t : Bool) → (if t then with_inclusion (record st.inclusion { waiter = None }) st else core.with_queue (filter (λ r. not (r.number == request)) st.inclusion.queue) st).inclusion.running ≡ None
              → (if t then with_inclusion (record st.inclusion { waiter = None }) st else core.with_queue (filter (λ r. not (r.number == request)) st.inclusion.queue) st).inclusion.waiter ≡ None
          by_test true idle = refl
          by_test false idle = live.asked.has.waits idle
      by_message (Mailed (Work handed)) none = live.asked.has.waits none

  -- one that waits then waited before, or is a new one
  waited : (n : ℕ) → IsWaiting n before.inclusion → IsWaiting n st.inclusion ⊎ (its ≡ event.Info n)
  waited n = by_message m.message refl
    where
      by_message : (message : Message U) → m.message ≡ message → IsWaiting n (Before st message).inclusion → IsWaiting n st.inclusion ⊎ (its ≡ event.Info n)
      by_message (Finalized b) sent waits = inl waits
      by_message (Mailed (Peer from bytes)) sent waits = inl waits
      by_message (Mailed (NextLog request height)) sent waits = inl waits
      by_message (Mailed (ReleaseLog height)) sent waits = inl waits
      by_message (Mailed (Feed request block)) sent waits = inl waits
      by_message (Mailed (Over request)) sent waits = inl waits
      by_message (Mailed (Work handed)) sent waits = inl waits
      by_message (Mailed (EpochInfoOf request)) sent (inr waits) = inl (inr waits)
      by_message (Mailed (EpochInfoOf request)) sent (inl (r, among, same)) = of_both (among_both r st.inclusion.queue (record { number = request; blocks = []; ended = false } ∷ []) among)
        where
          of_both : IsAmong r st.inclusion.queue ⊎ IsAmong r (record { number = request; blocks = []; ended = false } ∷ []) → IsWaiting n st.inclusion ⊎ (its ≡ event.Info n)
          of_both (inl left) = inl (inl (r, left, same))
          of_both (inr (inl new)) = inr (sends_info g its request (brings (Mailed (EpochInfoOf request)) sent) ∙ ap event.Info (ap (λ (x : Request U). x.number) new ∙ same))
          of_both (inr (inr none)) = absurd none
      by_message (Mailed (Cancel request)) sent waits = by_test (waits_for request st) waits
        where
          by_test : (t : Bool) → IsWaiting n (if t then with_inclusion (record st.inclusion { waiter = None }) st else core.with_queue (filter (λ r. not (r.number == request)) st.inclusion.queue) st).inclusion → IsWaiting n st.inclusion ⊎ (its ≡ event.Info n)
          by_test true (inl queued) = inl (inl queued)
          by_test true (inr none) = absurd (none_some none)
          by_test false (inl (r, among, same)) = inl (inl (r, among_kept (λ r. not (r.number == request)) st.inclusion.queue r among, same))
          by_test false (inr waits) = inl (inr waits)

  -- one that waited in the life waits as its event is read, where it isn't cancelled by it
  module _ (n : ℕ) (left_open : IsUncancelled (request_standing g.life n (suc i))) where
    waited_on : (message : Message U) → Brings g its message → IsWaiting n st.inclusion → IsWaiting n (Before st message).inclusion
    waited_on (Finalized b) brings waits = waits
    waited_on (Mailed (EpochInfoOf request)) brings (inl (r, among, same)) = inl (r, among_left r st.inclusion.queue (record { number = request; blocks = []; ended = false } ∷ []) among, same)
    waited_on (Mailed (EpochInfoOf request)) brings (inr waits) = inr waits
    waited_on (Mailed (Cancel request)) brings waits = by_test (waits_for request st) refl
      where
        of : its ≡ event.Cancel request
        of = sends_cancel g its request brings

        other : (request == n) ≡ true → ⊥
        other same = uncut (request_standing g.life n i) (subst (λ (x : Event). IsUncancelled (turns n (request_standing g.life n i) x)) of (subst IsUncancelled (stands_more n g.life i its is) left_open)) same
          where
            uncut : (s : RequestStanding) → IsUncancelled (turns n s (event.Cancel request)) → (request == n) ≡ true → ⊥
            uncut Unmade its_open same = its_open
            uncut Open its_open same = subst IsUncancelled (ap (λ (t : Bool). if t then Cancelled else Open) same) its_open
            uncut FullyFed its_open same = subst IsUncancelled (ap (λ (t : Bool). if t then Cancelled else FullyFed) same) its_open
            uncut Cancelled its_open same = its_open

        waiter_other : (o : Option ℕ) → st.inclusion.waiter ≡ o → option_map_or (λ k. k == request) o false ≡ true → st.inclusion.waiter ≡ Some n → ⊥
        waiter_other None there test waits = absurd (let no : ◌≡◌ {A = Bool} false true = test in cc)
        waiter_other (Some k) there test waits = other (equal request n (same_number k request test) (the_same (sym there ∙ waits)))
          where
            equal : (a b : ℕ) → k ≡ a → k ≡ b → (a == b) ≡ true
            equal a b one two = let same : a ≡ b = sym one ∙ two in grind (arith, nat_tests)

        kept_among : (rs : List (Request U)) (r : Request U) → IsAmong r rs → r.number ≡ n → IsAmong r (filter (λ r. not (r.number == request)) rs)
        kept_among [] r among same = absurd among
        kept_among (x ∷ rs) r (inl is) same = by_test (x.number == request) refl
          where
            by_test : (t : Bool) → (x.number == request) ≡ t → IsAmong r (if not t then x ∷ filter (λ r. not (r.number == request)) rs else filter (λ r. not (r.number == request)) rs)
            by_test true test = absurd (other (equal request n (same_number x.number request test) (ap (λ (y : Request U). y.number) is ∙ same)))
              where
                equal : (a b : ℕ) → x.number ≡ a → x.number ≡ b → (a == b) ≡ true
                equal a b one two = let same : a ≡ b = sym one ∙ two in grind (arith, nat_tests)
            by_test false test = inl is
        kept_among (x ∷ rs) r (inr among) same = by_test (x.number == request) (kept_among rs r among same)
          where
            by_test : (t : Bool) → IsAmong r (filter (λ r. not (r.number == request)) rs) → IsAmong r (if not t then x ∷ filter (λ r. not (r.number == request)) rs else filter (λ r. not (r.number == request)) rs)
            by_test true rest = rest
            by_test false rest = inr rest

        by_test : (t : Bool) → waits_for request st ≡ t → IsWaiting n (if t then with_inclusion (record st.inclusion { waiter = None }) st else core.with_queue (filter (λ r. not (r.number == request)) st.inclusion.queue) st).inclusion
        by_test true test = by_waiting waits
          where
            by_waiting : IsWaiting n st.inclusion → IsWaiting n (with_inclusion (record st.inclusion { waiter = None }) st).inclusion
            by_waiting (inl queued) = inl queued
            by_waiting (inr waited) = absurd (waiter_other st.inclusion.waiter refl test waited)
        by_test false test = by_waiting waits
          where
            by_waiting : IsWaiting n st.inclusion → IsWaiting n (core.with_queue (filter (λ r. not (r.number == request)) st.inclusion.queue) st).inclusion
            by_waiting (inl (r, among, same)) = inl (r, kept_among st.inclusion.queue r among same, same)
            by_waiting (inr waited) = inr waited
    waited_on (Mailed (Peer from bytes)) brings waits = waits
    waited_on (Mailed (NextLog request height)) brings waits = waits
    waited_on (Mailed (ReleaseLog height)) brings waits = waits
    waited_on (Mailed (Feed request b)) brings waits = waits
    waited_on (Mailed (Over request)) brings waits = waits
    waited_on (Mailed (Work handed)) brings waits = waits

  follows_none : st.participation.stage ≡ Follows → (n : ℕ) → IsWaiting n st.inclusion → ⊥
  follows_none stage n (inl (r, among, same)) = subst (IsAmong r) (live.asked.has.none stage) among
  follows_none stage n (inr waits) =
      none_some (sym (live.asked.has.waits (live.asked.has.early (λ includes. let no : ◌≡◌ {A = Stage} Follows Includes = sym stage ∙ includes in cc)).0) ∙ waits)

  -- a new one waits
  new_waits : (n : ℕ) → its ≡ event.Info n → IsWaiting n before.inclusion
  new_waits n of =
      subst (λ (x : Message U). IsWaiting n (Before st x).inclusion) (sym (subst (λ (x : Event). Brings g x m.message) of m.brings))
      (inl (record { number = n; blocks = []; ended = false }, among_last (record { number = n; blocks = []; ended = false }) st.inclusion.queue, refl))

  -- WHAT IT SAYS

  module _ (reshare : c.oneshot ≡ None) (out now : List Entry) (lines : Said (on_devices (node_step c (event_of m.message) st)) (went end) out now) where
    abbrev Stepped : ℕ → Type 0
    Stepped n = IsKept c reshare n (IsWaiting n before.inclusion) lines.lines end

    begun : (n : ℕ) → IsKept c reshare n (IsWaiting n before.inclusion) [] before
    begun n = at_first c reshare n before (before_apart reshare) before_idle

    -- each of its lines
    through : AllByRecursion (λ line. IsLineThrough c any_shares st m.message line ⊎ IsHalfLine line) lines.lines
    through =
        let all = node_steps_say_through c any_shares st m.message (went end) out now (through_at g here (suc i)) (λ h epoch found. tt) (step_taken g its m.message m.brings c st) live lines in
        subst (AllByRecursion (λ line. IsLineThrough c any_shares st m.message line ⊎ IsHalfLine line)) (append_cancel_left out all.0 lines.lines (sym all.1 ∙ lines.added)) all.2

    none_of : (P : Entry → Type 0) → ((line : Entry) → P line → IsUnanswered line) → (xs : List Entry) → AllByRecursion P xs → AllByRecursion IsUnanswered xs
    none_of P so [] all = tt
    none_of P so (x ∷ xs) all = (so x all.0, none_of P so xs all.1)

    half_line : (line : Entry) → IsHalfLine line → IsUnanswered line
    half_line (Answer number answer) said = absurd said
    half_line line said = tt

    -- nothing of requests changed, and none is answered
    still : (n : ℕ) → before ≡ st → mid.inclusion ≡ st.inclusion → AllByRecursion IsUnanswered lines.lines → Stepped n
    still n is same none =
        kept_as c reshare n (IsWaiting n before.inclusion) [] lines.lines (none_in n lines.lines none) before end (at_end (λ (x : Inclusion U). x.queue)) (at_end (λ (x : Inclusion U). x.waiter)) (at_end (λ (x : Inclusion U). x.running)) (begun n)
      where
        at_end : {A : Type 0} (f : Inclusion U → A) → f end.inclusion ≡ f before.inclusion
        at_end f = ap (λ (x : Live U). f x.inclusion) node.same ∙ ap f same ∙ ap (λ (x : Live U). f x.inclusion) (sym is)

    -- WHERE NO EPOCH IS PASSED ON
    module _ (on : GoesOn c st m.message mid) where
      peer_says : (from : ℕ) (bytes : List ℕ) → m.message ≡ Mailed (Peer from bytes) → AllByRecursion IsUnanswered lines.lines
      peer_says from bytes sent = none_of (λ line. IsLineThrough c any_shares st (Mailed (Peer from bytes)) line ⊎ IsHalfLine line) none lines.lines
          (subst (λ (x : Message U). AllByRecursion (λ line. IsLineThrough c any_shares st x line ⊎ IsHalfLine line) lines.lines) sent through)
        where
          none : (line : Entry) → IsUnasked line ⊎ IsHalfLine line → IsUnanswered line
          none (Answer number answer) (inl said) = absurd said
          none (Answer number answer) (inr said) = absurd said
          none line said = tt

      module _ (b : Block U) (sent : m.message ≡ Finalized b) where
        passed_says : judged_block c b st ≡ Passed → AllByRecursion IsUnanswered lines.lines
        passed_says passed = none_of (λ line. (judged_block c b st ≡ Applied) ⊎ IsHalfLine line) none lines.lines block_lines_here
          where
            none : (line : Entry) → (judged_block c b st ≡ Applied) ⊎ IsHalfLine line → IsUnanswered line
            none line (inl applied) = absurd (let no : ◌≡◌ {A = Judged} Passed Applied = sym passed ∙ applied in cc)
            none line (inr half) = half_line line half

            block_lines_here : AllByRecursion (λ line. (judged_block c b st ≡ Applied) ⊎ IsHalfLine line) lines.lines
            block_lines_here =
                let all = block_lines c b st (went end) out now (subst (λ (x : Message U). Said (on_devices (node_step c (event_of x) st)) (went end) out now) sent lines) in
                subst (AllByRecursion (λ line. (judged_block c b st ≡ Applied) ⊎ IsHalfLine line)) (append_cancel_left out all.0 lines.lines (sym all.1 ∙ lines.added)) all.2

        follows_says : st.participation.stage ≡ Follows → AllByRecursion IsUnanswered lines.lines
        follows_says stage = none_of (λ line. IsLineThrough c any_shares st (Finalized b) line ⊎ IsHalfLine line) none lines.lines
            (subst (λ (x : Message U). AllByRecursion (λ line. IsLineThrough c any_shares st x line ⊎ IsHalfLine line) lines.lines) sent through)
          where
            none : (line : Entry) → IsLineThrough c any_shares st (Finalized b) line ⊎ IsHalfLine line → IsUnanswered line
            none (Answer number answer) (inl said) = subst (λ (x : Stage). IsBlockAnswer c st b x (Answer number answer)) stage said
            none (Answer number answer) (inr said) = absurd said
            none line said = tt

      module _ (n : ℕ) where
        reads_kept : Reads c reshare st held.apart m.message → Stepped n
        reads_kept reads = step_kept c reshare n (IsWaiting n before.inclusion) st held.apart m.message end out now (begun n) lines reads

        by_mail : (message : Message U) → m.message ≡ message → Reads c reshare st held.apart message → Stepped n
        by_mail message sent reads = reads_kept (subst (λ (x : Message U). Reads c reshare st held.apart x) (sym sent) reads)

        same_before : (message : Message U) → m.message ≡ message → Before st message ≡ st → before ≡ st
        same_before message sent same = ap (Before st) sent ∙ same

        block_kept : (b : Block U) → m.message ≡ Finalized b → IsBlockThrough c any_shares b st None (judged_block c b st) mid None → Stepped n
        block_kept b sent block_end = by_judged (judged_block c b st) refl block_end
          where
            followed : (t : Bool) → is_last_height c b.height ≡ t → judged_block c b st ≡ Applied → st.participation.stage ≡ Follows → IsFollowedThrough c any_shares b st None t mid None → Stepped n
            followed true last applied stage passed = absurd (subst (PassesNothingOn c st) sent on.nothing applied last)
            followed false last applied stage same = still n (same_before (Finalized b) sent refl) (ap (λ (x : Live U). x.inclusion) same) (follows_says b sent stage)

            by_stage : judged_block c b st ≡ Applied → (stage : Stage) → st.participation.stage ≡ stage → IsAppliedThrough c any_shares b st None stage mid None → (t : Bool) → is_last_height c b.height ≡ t → Stepped n
            by_stage applied Deals stage its_end t last = by_mail (Finalized b) sent (applied, inl stage)
            by_stage applied Includes stage its_end true last = absurd (subst (PassesNothingOn c st) sent on.nothing applied last)
            by_stage applied Includes stage its_end false last = by_mail (Finalized b) sent (applied, inr (stage, last))
            by_stage applied Follows stage its_end t last = followed (is_last_height c b.height) refl applied stage its_end
            by_stage applied Ends stage none t last = absurd none

            by_judged : (j : Judged) → judged_block c b st ≡ j → IsBlockThrough c any_shares b st None j mid None → Stepped n
            by_judged (Refusal fault) is none = absurd none
            by_judged Passed is same = still n (same_before (Finalized b) sent refl) (ap (λ (x : Live U). x.inclusion) same.0) (passed_says b sent is)
            by_judged Applied is applied = by_stage is st.participation.stage refl applied (is_last_height c b.height) refl

        stepped : Stepped n
        stepped = by_message m.message refl (node.next).is
          where
            by_message : (message : Message U) → m.message ≡ message → IsEndThrough c any_shares st message None mid None → Stepped n
            by_message (Finalized b) sent its_end = block_kept b sent its_end
            by_message (Mailed (Peer from bytes)) sent its_end = still n (same_before (Mailed (Peer from bytes)) sent refl) (heard_same c st from mid its_end) (peer_says from bytes sent)
            by_message (Mailed (NextLog request height)) sent its_end = by_mail (Mailed (NextLog request height)) sent tt
            by_message (Mailed (ReleaseLog height)) sent its_end = by_mail (Mailed (ReleaseLog height)) sent tt
            by_message (Mailed (EpochInfoOf request)) sent its_end = by_mail (Mailed (EpochInfoOf request)) sent tt
            by_message (Mailed (Feed request b)) sent its_end = by_mail (Mailed (Feed request b)) sent tt
            by_message (Mailed (Over request)) sent its_end = by_mail (Mailed (Over request)) sent tt
            by_message (Mailed (Cancel request)) sent its_end = by_mail (Mailed (Cancel request)) sent tt
            by_message (Mailed (Work handed)) sent its_end = by_mail (Mailed (Work handed)) sent tt

  -- EACH REQUEST

  module _ (said : List Entry) (tracked : AreTracked g i st said) (reshare : c.oneshot ≡ None) (out now : List Entry) (lines : Said (on_devices (node_step c (event_of m.message) st)) (went end) out now) where
    -- what was said by the step's own entry
    abbrev said_now : List Entry
    said_now = (said ++ entry.Step i ∷ []) ++ lines.lines

    from_said : (n : ℕ) → IsAnsweredIn n said → IsAnsweredIn n said_now
    from_said n (answer, among) = (answer, among_left (Answer n answer) (said ++ entry.Step i ∷ []) lines.lines (among_left (Answer n answer) said (entry.Step i ∷ []) among))

    from_lines : (n : ℕ) → IsAnsweredIn n lines.lines → IsAnsweredIn n said_now
    from_lines n (answer, among) = (answer, among_right (Answer n answer) (said ++ entry.Step i ∷ []) lines.lines among)

    in_parts : (n : ℕ) → IsAnsweredIn n said_now → IsAnsweredIn n said ⊎ IsAnsweredIn n lines.lines
    in_parts n (answer, among) = of_both (among_both (Answer n answer) (said ++ entry.Step i ∷ []) lines.lines among)
      where
        of_said : IsAmong (Answer n answer) said ⊎ IsAmong (Answer n answer) (entry.Step i ∷ []) → IsAnsweredIn n said ⊎ IsAnsweredIn n lines.lines
        of_said (inl left) = inl (answer, left)
        of_said (inr (inl same)) = let no : ◌≡◌ {A = Entry} (entry.Step i) (Answer n answer) = same in cc
        of_said (inr (inr none)) = absurd none

        of_both : IsAmong (Answer n answer) (said ++ entry.Step i ∷ []) ⊎ IsAmong (Answer n answer) lines.lines → IsAnsweredIn n said ⊎ IsAnsweredIn n lines.lines
        of_both (inl left) = of_said (among_both (Answer n answer) said (entry.Step i ∷ []) left)
        of_both (inr right) = inr (answer, right)

    -- one that was made before now wasn't cancelled before
    module _ (n at : ℕ) (made : slice_get g.life.events at ≡ Some (event.Info n)) (left_open : IsUncancelled (request_standing g.life n (suc i))) where
      was_open : at < i → IsUncancelled (request_standing g.life n i)
      was_open low = before_turn (request_standing g.life n i) (stands_made n Unmade g.life.events at i low made) (subst IsUncancelled (stands_more n g.life i its is) left_open)
        where
          before_turn : (s : RequestStanding) → IsMade s → IsUncancelled (turns n s its) → IsUncancelled s
          before_turn Unmade made_so its_open = absurd made_so
          before_turn Open made_so its_open = tt
          before_turn FullyFed made_so its_open = tt
          before_turn Cancelled made_so its_open = its_open

      -- it was answered, waited, or is the event's
      so_far : at < suc i → IsAnsweredIn n said ⊎ (IsWaiting n st.inclusion ⊎ (its ≡ event.Info n))
      so_far low = by_time (latest at i low)
        where
          latest : (k n : ℕ) → k < suc n → (k < n) ⊎ (k ≡ n)
          latest k n below = by_test (nat_lt k n) refl
            where
              by_test : (t : Bool) → nat_lt k n ≡ t → (k < n) ⊎ (k ≡ n)
              by_test true test = inl (grind (arith, nat_tests))
              by_test false test = let high : n ≤ k = grind (arith, nat_tests) in inr (omega (arith, below, high))

          by_tracked : IsWaiting n st.inclusion ⊎ IsAnsweredIn n said → IsAnsweredIn n said ⊎ (IsWaiting n st.inclusion ⊎ (its ≡ event.Info n))
          by_tracked (inl waits) = inr (inl waits)
          by_tracked (inr answered) = inl answered

          by_time : (at < i) ⊎ (at ≡ i) → IsAnsweredIn n said ⊎ (IsWaiting n st.inclusion ⊎ (its ≡ event.Info n))
          by_time (inl before) = by_tracked (tracked.all n at before made (was_open before))
          by_time (inr now_at) = inr (inr (the_same (sym is ∙ ap (slice_get g.life.events) (sym now_at) ∙ made)))

    -- those that were answered were made
    asked_of : (n : ℕ) (answer : AnswerLine) → IsAnsweredSo g.script g.number g.life (epoch_by g (suc i - 1)) (suc i) n answer → IsAskedFor g.script g.number g.life (epoch_by g (suc i - 1)) (suc i) n
    asked_of n (Available payload) so = so.0
    asked_of n (Unavailable why) so = so.0

    asked_now : AllByRecursion (IsSaidAt untold g.script g.number g.life (suc i)) lines.lines → (n : ℕ) → IsAnsweredIn n said_now → (at : ℕ) × (at < suc i) × (slice_get g.life.events at ≡ Some (event.Info n))
    asked_now says n answered = by_parts (in_parts n answered)
      where
        later : (a : ℕ) → a < i → a < suc i
        later a low = omega (arith, low)

        by_parts : IsAnsweredIn n said ⊎ IsAnsweredIn n lines.lines → (at : ℕ) × (at < suc i) × (slice_get g.life.events at ≡ Some (event.Info n))
        by_parts (inl before) = let was = tracked.asked n before in (was.0, later was.0 was.1, was.2)
        by_parts (inr (answer, among)) =
            let one = asked_of n answer (answered_so untold g.script g.number g.life (epoch_by g (suc i - 1)) (suc i) n answer (all_of (IsSaidAt untold g.script g.number g.life (suc i)) lines.lines (Answer n answer) among says)) in (one.at, one.before, one.made)

    -- WHERE NO EPOCH IS PASSED ON
    module _ (on : GoesOn c st m.message mid) where
      one : (n : ℕ) → IsKept c reshare n (IsWaiting n before.inclusion) lines.lines end
      one n = stepped reshare out now lines on n

      all_on : (n at : ℕ) → at < suc i → slice_get g.life.events at ≡ Some (event.Info n) → IsUncancelled (request_standing g.life n (suc i)) → IsWaiting n end.inclusion ⊎ IsAnsweredIn n said_now
      all_on n at low made left_open = by_case (so_far n at made left_open low)
        where
          right : IsWaiting n end.inclusion ⊎ IsAnsweredIn n lines.lines → IsWaiting n end.inclusion ⊎ IsAnsweredIn n said_now
          right (inl waits) = inl waits
          right (inr answered) = inr (from_lines n answered)

          by_case : IsAnsweredIn n said ⊎ (IsWaiting n st.inclusion ⊎ (its ≡ event.Info n)) → IsWaiting n end.inclusion ⊎ IsAnsweredIn n said_now
          by_case (inl answered) = inr (from_said n answered)
          by_case (inr (inl waits)) = right ((one n).either (waited_on n left_open m.message m.brings waits))
          by_case (inr (inr new)) = right ((one n).either (new_waits n new))

      absent_on : (n : ℕ) → IsWaiting n end.inclusion → IsAnsweredIn n said_now → ⊥
      absent_on n waits answered = by_parts (in_parts n answered)
        where
          by_case : IsAnsweredIn n said → IsWaiting n st.inclusion ⊎ (its ≡ event.Info n) → ⊥
          by_case before (inl was) = tracked.absent n was before
          by_case before (inr new) =
              let asked = tracked.asked n before in
              not_same asked.0 asked.1 (made_once g here asked.0 i n asked.2 (is ∙ ap (λ (x : Event). Some x) new))
            where
              not_same : (a : ℕ) → a < i → i ≡ a → ⊥
              not_same a low same = omega (arith, low, same)

          by_parts : IsAnsweredIn n said ⊎ IsAnsweredIn n lines.lines → ⊥
          by_parts (inl before) = by_case before (waited n ((one n).only (inl waits)))
          by_parts (inr answered) = (one n).once waits answered

    -- WHERE AN EPOCH IS PASSED ON, all that waited are answered.
    module _ (over : TakesOver c any_shares st m.message None mid None) where
      all_over : (n at : ℕ) → at < suc i → slice_get g.life.events at ≡ Some (event.Info n) → IsUncancelled (request_standing g.life n (suc i)) → IsWaiting n end.inclusion ⊎ IsAnsweredIn n said_now
      all_over n at low made left_open = by_case (so_far n at made left_open low)
        where
          by_stage : IsWaiting n st.inclusion → (st.participation.stage ≡ Follows) ⊎ (st.participation.stage ≡ Includes) → IsAnsweredIn n lines.lines
          by_stage waits (inl follows) = absurd (follows_none follows n waits)
          by_stage waits (inr includes) =
              let sent : Said (on_devices (node_step c (event_of (Finalized over.block)) st)) (went end) out now = subst (λ (x : Message U). Said (on_devices (node_step c (event_of x) st)) (went end) out now) over.is lines in
              let rounds = has_round c (unasked st) live.stands (λ follows. let no : ◌≡◌ {A = Stage} Includes Follows = sym includes ∙ follows in cc) in
              let answered = last_kept c reshare n (IsWaiting n st.inclusion) st held.apart waits (at_first c reshare n st held.apart live.asked.has.waits) over.block over.applied includes over.last rounds.0 rounds.1 end out now sent in
              subst (IsAnsweredIn n) (append_cancel_left out sent.lines lines.lines (sym sent.added ∙ lines.added)) answered

          by_case : IsAnsweredIn n said ⊎ (IsWaiting n st.inclusion ⊎ (its ≡ event.Info n)) → IsWaiting n end.inclusion ⊎ IsAnsweredIn n said_now
          by_case (inl answered) = inr (from_said n answered)
          by_case (inr (inl waits)) = inr (from_lines n (by_stage waits over.stage))
          by_case (inr (inr new)) = absurd (let no : ◌≡◌ {A = Message U} (Mailed (EpochInfoOf n)) (Finalized over.block) = sym (subst (λ (x : Event). Brings g x m.message) new m.brings) ∙ over.is in cc)

    -- WHERE REQUESTS ARE READ

    -- a verification that runs in the life x runs on, where y was before the step
    record RunsOn (x y : Live U) : Type 0 where
      pub was : x.inclusion.running ≡ st.inclusion.running
      pub other : its ≡ event.Work → ⊥
      pub order : (low : ℕ) → low ≤ i → InOrder g i low st.inclusion.queue → InOrder g (suc i) low y.inclusion.queue
      pub waiter : x.inclusion.waiter ≡ y.inclusion.waiter
      pub waits : (y.inclusion.waiter ≡ st.inclusion.waiter) ⊎ (y.inclusion.waiter ≡ None)

    record IsReading (x y : Live U) : Type 0 where
      pub read : IsReadFrom c x mid
      pub ready : AreReady g untold e (suc i) st.participation.round x.inclusion
      pub order : (low : ℕ) → low ≤ i → InOrder g i low st.inclusion.queue → InOrder g (suc i) low x.inclusion.queue
      pub goes_on : (job : Job) → x.inclusion.running ≡ Some job → RunsOn x y

    -- they are read in some life, or nothing of them changed
    abbrev IsMoved : Live U → Type 0
    IsMoved y = ((x : Live U) × IsReading x y) ⊎ ((mid.inclusion ≡ st.inclusion) × (y ≡ st) × (its ≡ event.Work → ⊥))

    later_order : (low : ℕ) → low ≤ i → InOrder g i low st.inclusion.queue → InOrder g (suc i) low st.inclusion.queue
    later_order low le order = order_later g i low st.inclusion.queue order

    no_work : (message : Message U) → m.message ≡ message → (message ≡ Mailed (Work None) → ⊥) → its ≡ event.Work → ⊥
    no_work message sent other of = other (subst (λ (x : Event). Brings g x message) of (brings message sent))

    -- in a life with the same requests
    of_same : (x : Live U) → IsReadFrom c x mid → AreReady g untold e (suc i) st.participation.round x.inclusion → x.inclusion.queue ≡ st.inclusion.queue → x.inclusion.running ≡ st.inclusion.running → x.inclusion.waiter ≡ st.inclusion.waiter
        → (its ≡ event.Work → ⊥) → IsReading x st
    of_same x read ready queue running waiter other = record {
      read = read;
      ready = ready;
      order = λ low le order. subst (InOrder g (suc i) low) (sym queue) (later_order low le order);
      goes_on = λ job runs. record { was = running; other = other; order = later_order; waiter = waiter; waits = inl refl };
    }

    module _ (on : GoesOn c st m.message mid) where
      by_block : (b : Block U) → m.message ≡ Finalized b → (number : ℕ) → its ≡ event.Final number → IsBlockThrough c any_shares b st None (judged_block c b st) mid None → IsMoved st
      by_block b sent number of block_end = by_judged (judged_block c b st) refl block_end
        where
          other : its ≡ event.Work → ⊥
          other work = let no : event.Final number ≡ event.Work = sym of ∙ work in cc

          not_last : judged_block c b st ≡ Applied → is_last_height c b.height ≡ true → ⊥
          not_last = subst (PassesNothingOn c st) sent on.nothing

          followed : (t : Bool) → is_last_height c b.height ≡ t → judged_block c b st ≡ Applied → IsFollowedThrough c any_shares b st None t mid None → IsMoved st
          followed true last applied passed = absurd (not_last applied last)
          followed false last applied same = inr (ap (λ (x : Live U). x.inclusion) same, refl, other)

          includes : (t : Bool) → is_last_height c b.height ≡ t → judged_block c b st ≡ Applied → IsIncludedThrough c any_shares b st None t mid None → IsMoved st
          includes true last applied passed = absurd (not_last applied last)
          includes false last applied read =
              let same = observed_same c st read.0 b in
              inl (
                included c read.0 b st,
                of_same (included c read.0 b st) read.2 (included_said g here i its is st held number of c read.0 b) (ap (λ (x : Inclusion U). x.queue) same) (ap (λ (x : Inclusion U). x.running) same)
                    (ap (λ (x : Inclusion U). x.waiter) same) other,
              )

          deals : st.participation.stage ≡ Deals → IsReadFrom c (dealt_behind c b (given_itself c st)) mid → IsReading (dealt_behind c b (given_itself c st)) st
          deals stage read = record {
            read = read;
            ready = dealt_said g here i its is st held number of c b (live.asked.has.waits idle);
            order = λ low le order. subst (InOrder g (suc i) low) (sym ((dealt_same c st b (given_itself c st)).0 ∙ ap (λ (x : Inclusion U). x.queue) (dealing.given_same c st).inclusion)) (later_order low le order);
            goes_on = λ job runs. absurd (none_some (sym (none_runs idle) ∙ runs));
          }
            where
              idle : st.inclusion.running ≡ None
              idle = (live.asked.has.early (λ includes. let no : ◌≡◌ {A = Stage} Deals Includes = sym stage ∙ includes in cc)).0

              none_runs : st.inclusion.running ≡ None → (dealt_behind c b (given_itself c st)).inclusion.running ≡ None
              none_runs none = by_test (b.height + 1 == midpoint c.blocks_per_epoch (given_itself c st).participation.epoch)
                where
                  given : (given_itself c st).inclusion.running ≡ None
                  given = ap (λ (x : Inclusion U). x.running) (dealing.given_same c st).inclusion ∙ none

                  by_test : (t : Bool) → (if t then begins_inclusion c (core.with_tip b (given_itself c st)) else core.with_tip b (given_itself c st)).inclusion.running ≡ None
                  by_test true = given
                  by_test false = given

          by_stage : judged_block c b st ≡ Applied → (stage : Stage) → st.participation.stage ≡ stage → IsAppliedThrough c any_shares b st None stage mid None → IsMoved st
          by_stage applied Deals stage read = inl (dealt_behind c b (given_itself c st), deals stage read)
          by_stage applied Includes stage its_end = includes (is_last_height c b.height) refl applied its_end
          by_stage applied Follows stage its_end = followed (is_last_height c b.height) refl applied its_end
          by_stage applied Ends stage none = absurd none

          by_judged : (j : Judged) → judged_block c b st ≡ j → IsBlockThrough c any_shares b st None j mid None → IsMoved st
          by_judged (Refusal fault) judged none = absurd none
          by_judged Passed judged same = inr (ap (λ (x : Live U). x.inclusion) same.0, refl, other)
          by_judged Applied judged applied = by_stage judged st.participation.stage refl applied

      fed_same : (block : Block U) (r : Request U) → (if r.ended then r else record r { blocks = r.blocks ++ block ∷ [] }).number ≡ r.number
      fed_same block r = by_test r.ended
        where
          by_test : (t : Bool) → (if t then r else record r { blocks = r.blocks ++ block ∷ [] }).number ≡ r.number
          by_test true = refl
          by_test false = refl

      changed_order : (request : ℕ) (f : Request U → Request U) → ((r : Request U) → (f r).number ≡ r.number) → (low : ℕ) → low ≤ i → InOrder g i low st.inclusion.queue
          → InOrder g (suc i) low (map (λ r. if r.number == request then f r else r) st.inclusion.queue)
      changed_order request f same low le order = order_mapped g (suc i) low (λ r. if r.number == request then f r else r) st.inclusion.queue each (later_order low le order)
        where
          each : (r : Request U) → (if r.number == request then f r else r).number ≡ r.number
          each r = by_test (r.number == request)
            where
              by_test : (t : Bool) → (if t then f r else r).number ≡ r.number
              by_test true = same r
              by_test false = refl

      released : (height : ℕ) → ((releases height st).inclusion.queue ≡ st.inclusion.queue) × ((releases height st).inclusion.running ≡ st.inclusion.running) × ((releases height st).inclusion.waiter ≡ st.inclusion.waiter)
      released height = by_test (is_served_at height st)
        where
          by_test : (t : Bool) → ((if t then with_inclusion (record st.inclusion { served = None }) st else st).inclusion.queue ≡ st.inclusion.queue) × ((if t then with_inclusion (record st.inclusion { served = None }) st else st).inclusion.running ≡ st.inclusion.running) × ((if t then with_inclusion (record st.inclusion { served = None }) st else st).inclusion.waiter ≡ st.inclusion.waiter)
          by_test true = (refl, refl, refl)
          by_test false = (refl, refl, refl)

      cancelled_as : (request : ℕ) → ((low : ℕ) → low ≤ i → InOrder g i low st.inclusion.queue → InOrder g (suc i) low (cancelled request st).inclusion.queue) × ((cancelled request st).inclusion.running ≡ st.inclusion.running)
          × (((cancelled request st).inclusion.waiter ≡ st.inclusion.waiter) ⊎ ((cancelled request st).inclusion.waiter ≡ None))
      cancelled_as request = by_test (waits_for request st)
        where
          by_test : (t : Bool) → ((low : ℕ) → low ≤ i → InOrder g i low st.inclusion.queue → InOrder g (suc i) low (if t then with_inclusion (record st.inclusion { waiter = None }) st else core.with_queue (filter (λ r. not (r.number == request)) st.inclusion.queue) st).inclusion.queue) × ((if t then with_inclusion (record st.inclusion { waiter = None }) st else core.with_queue (filter (λ r. not (r.number == request)) st.inclusion.queue) st).inclusion.running ≡ st.inclusion.running)
              × (((if t then with_inclusion (record st.inclusion { waiter = None }) st else core.with_queue (filter (λ r. not (r.number == request)) st.inclusion.queue) st).inclusion.waiter ≡ st.inclusion.waiter) ⊎ ((if t then with_inclusion (record st.inclusion { waiter = None }) st else core.with_queue (filter (λ r. not (r.number == request)) st.inclusion.queue) st).inclusion.waiter ≡ None))
          by_test true = (later_order, refl, inr refl)
          by_test false = ((λ low le order. order_kept g (suc i) low (λ r. not (r.number == request)) st.inclusion.queue (later_order low le order)), refl, inl refl)

      changed_reading : (request : ℕ) (f : Request U → Request U) → IsReadFrom c (changed request f st) mid → AreReady g untold e (suc i) st.participation.round (changed request f st).inclusion
          → ((r : Request U) → (f r).number ≡ r.number) → (its ≡ event.Work → ⊥) → IsReading (changed request f st) st
      changed_reading request f read ready same other = record {
        read = read;
        ready = ready;
        order = changed_order request f same;
        goes_on = λ job runs. record { was = refl; other = other; order = later_order; waiter = refl; waits = inl refl };
      }

      moved : IsMoved before
      moved = by_message m.message refl (node.next).is
        where
          ready : (mail : Mail U) → m.message ≡ Mailed mail → AreReady g untold e (suc i) st.participation.round (asked_by mail st).inclusion
          ready mail sent = mail_said g here i its is st held mail (brings (Mailed mail) sent)

          queued_order : (request : ℕ) → its ≡ event.Info request → (low : ℕ) → low ≤ i → InOrder g i low st.inclusion.queue
              → InOrder g (suc i) low (st.inclusion.queue ++ record { number = request; blocks = []; ended = false } ∷ [])
          queued_order request of low le order =
              order_more g i low st.inclusion.queue (record { number = request; blocks = []; ended = false }) le (is ∙ ap (λ (x : Event). Some x) of) order

          of_block : (b : Block U) → m.message ≡ Finalized b → IsBlockThrough c any_shares b st None (judged_block c b st) mid None → BringsBlock g its m.message ⊎ BringsMail its m.message → IsMoved st
          of_block b sent its_end (inl (number, made, of, same)) = by_block b sent number of its_end
          of_block b sent its_end (inr (mail, same, none)) = absurd (let no : ◌≡◌ {A = Message U} (Mailed mail) (Finalized b) = sym same ∙ sent in cc)

          by_message : (message : Message U) → m.message ≡ message → IsEndThrough c any_shares st message None mid None → IsMoved (Before st message)
          by_message (Finalized b) sent its_end = of_block b sent its_end (brings_so g its m.message m.brings)
          by_message (Mailed (Peer from bytes)) sent its_end = inr (heard_same c st from mid its_end, refl, no_work (Mailed (Peer from bytes)) sent (λ e. cc))
          by_message (Mailed (NextLog request height)) sent its_end =
              inl (asked_by (NextLog request height) st, of_same (asked_by (NextLog request height) st) its_end.0 (ready (NextLog request height) sent) refl refl refl (no_work (Mailed (NextLog request height)) sent (λ e. cc)))
          by_message (Mailed (ReleaseLog height)) sent its_end =
              let same = released height in inl (releases height st, of_same (releases height st) its_end.0 (ready (ReleaseLog height) sent) same.0 same.1 same.2 (no_work (Mailed (ReleaseLog height)) sent (λ e. cc)))
          by_message (Mailed (EpochInfoOf request)) sent its_end =
              let order = queued_order request (sends_info g its request (brings (Mailed (EpochInfoOf request)) sent)) in
              inl (
                asked_by (EpochInfoOf request) st,
                record {
                  read = its_end.0;
                  ready = ready (EpochInfoOf request) sent;
                  order = order;
                  goes_on = λ job runs. record { was = refl; other = no_work (Mailed (EpochInfoOf request)) sent (λ e. cc); order = order; waiter = refl; waits = inl refl };
                },
              )
          by_message (Mailed (Feed request block)) sent its_end =
              inl (
                asked_by (Feed request block) st,
                changed_reading request (λ r. if r.ended then r else record r { blocks = r.blocks ++ block ∷ [] }) its_end.0 (ready (Feed request block) sent) (fed_same block)
                    (no_work (Mailed (Feed request block)) sent (λ e. cc)),
              )
          by_message (Mailed (Over request)) sent its_end =
              inl (asked_by (Over request) st, changed_reading request (λ r. record r { ended = true }) its_end.0 (ready (Over request) sent) (λ r. refl) (no_work (Mailed (Over request)) sent (λ e. cc)))
          by_message (Mailed (Cancel request)) sent its_end =
              let its_life = cancelled_as request in
              inl (
                cancelled request st,
                record {
                  read = its_end.0;
                  ready = ready (Cancel request) sent;
                  order = its_life.0;
                  goes_on = λ job runs. record { was = its_life.1; other = no_work (Mailed (Cancel request)) sent (λ e. cc); order = its_life.0; waiter = refl; waits = its_life.2 };
                },
              )
          by_message (Mailed (Work handed)) sent its_end =
              inl (verification_ended st, record { read = its_end.0; ready = ready (Work handed) sent; order = later_order; goes_on = λ job runs. absurd (none_some runs) })

      at_end : (P : Inclusion U → Type 0) → P mid.inclusion → P end.inclusion
      at_end P so = subst (λ (x : Live U). P x.inclusion) (sym node.same) so

      end_order : InOrder g (suc i) 0 end.inclusion.queue
      end_order = at_end (λ (x : Inclusion U). InOrder g (suc i) 0 x.queue) (by_moved moved)
        where
          by_moved : IsMoved before → InOrder g (suc i) 0 mid.inclusion.queue
          by_moved (inl (x, reading)) = order_back g (suc i) 0 (reading.read).gone mid.inclusion.queue (subst (InOrder g (suc i) 0) (reading.read).rest (reading.order 0 (least i) tracked.order))
            where
              least : (a : ℕ) → 0 ≤ a
              least a = omega arith
          by_moved (inr (same, none, other)) = subst (λ (y : Inclusion U). InOrder g (suc i) 0 y.queue) (sym same) (later_order 0 (least i) tracked.order)
            where
              least : (a : ℕ) → 0 ≤ a
              least a = omega arith

      -- A VERIFICATION THAT RUNS ON
      module _ (run : IsRun g e i said st.inclusion) where
        abbrev its_request : ℕ
        its_request = (run.verifies).request

        abbrev verified : IsVerified g.script g.number g.life e i said its_request
        verified = (run.verifies).its

        abbrev since : ℕ
        since = ((verified.oldest).its).at

        none_of_its : (queue : List (Request U)) → InOrder g (suc i) (suc since) queue → (r : Request U) → IsAmong r queue → r.number ≡ its_request → ⊥
        none_of_its queue order r among same =
            not_below since (order_first g (suc i) (suc since) its_request since queue (λ k made. made_once g here since k its_request ((verified.oldest).its).made made) order r among same)
          where
            not_below : (a : ℕ) → suc a ≤ a → ⊥
            not_below a low = omega (arith, low)

        since_low : suc since ≤ i
        since_low = low since verified.read i ((verified.oldest).its).before verified.within
          where
            low : (a b k : ℕ) → a < b → b ≤ k → suc a ≤ k
            low a b k one two = omega (arith, one, two)

        keeps_run : (its ≡ event.Work → ⊥) → InOrder g (suc i) (suc since) before.inclusion.queue → (before.inclusion.waiter ≡ st.inclusion.waiter) ⊎ (before.inclusion.waiter ≡ None)
            → InOrder g (suc i) (suc since) end.inclusion.queue → end.inclusion.waiter ≡ before.inclusion.waiter → IsRun g e (suc i) said_now end.inclusion
        keeps_run other order waits younger waiter = record {
          verifies = record {
            request = its_request;
            its = record {
              read = verified.read;
              within = later verified.read verified.within;
              began = verified.began;
              front = verified.front;
              by_then = inr (by_then_on verified.by_then);
              oldest = verified.oldest;
              round = verified.round;
              recorded = verified.recorded;
              logs = verified.logs;
              asked = verified.asked;
              unanswered = λ answer among. by_parts (in_parts its_request (answer, among));
              unended = λ k from below work. by_cases k from (latest k i below) work;
            };
            anew = (run.verifies).anew;
          };
          younger = younger;
          waits = waits_on (its_waiter waits run.waits);
        }
          where
            later : (a : ℕ) → a ≤ i → a ≤ suc i
            later a low = omega (arith, low)

            latest : (k n : ℕ) → k < suc n → (k < n) ⊎ (k ≡ n)
            latest k n below = by_test (nat_lt k n) refl
              where
                by_test : (t : Bool) → nat_lt k n ≡ t → (k < n) ⊎ (k ≡ n)
                by_test true test = inl (grind (arith, nat_tests))
                by_test false test = let high : n ≤ k = grind (arith, nat_tests) in inr (omega (arith, below, high))

            by_cases : (k : ℕ) → verified.read ≤ k → (k < i) ⊎ (k ≡ i) → slice_get g.life.events k ≡ Some event.Work → ⊥
            by_cases k from (inl below) work = verified.unended k from below work
            by_cases k from (inr last) work = other (the_same (sym is ∙ ap (slice_get g.life.events) (sym last) ∙ work))

            by_then_on : IsSaidBy i said verified.read verified.front → (rest : List Entry) × (said_now ≡ verified.front ++ (entry.Step verified.read ∷ rest))
            by_then_on (inl (same, all)) =
                (lines.lines, append_assoc said (entry.Step i ∷ []) lines.lines ∙ ap (λ (k : ℕ). said ++ (entry.Step k ∷ lines.lines)) (sym same) ∙ ap (λ (xs : List Entry). xs ++ (entry.Step verified.read ∷ lines.lines)) (sym all))
            by_then_on (inr (rest, parts)) = (
              (rest ++ entry.Step i ∷ []) ++ lines.lines,
              ap (λ (xs : List Entry). (xs ++ entry.Step i ∷ []) ++ lines.lines) parts
                  ∙ ap (λ (xs : List Entry). xs ++ lines.lines) (append_assoc verified.front (entry.Step verified.read ∷ rest) (entry.Step i ∷ []))
                  ∙ append_assoc verified.front (entry.Step verified.read ∷ (rest ++ entry.Step i ∷ [])) lines.lines,
            )

            its_waiter : (before.inclusion.waiter ≡ st.inclusion.waiter) ⊎ (before.inclusion.waiter ≡ None) → (st.inclusion.waiter ≡ Some its_request) ⊎ (st.inclusion.waiter ≡ None)
                → (before.inclusion.waiter ≡ Some its_request) ⊎ (before.inclusion.waiter ≡ None)
            its_waiter (inr none) was = inr none
            its_waiter (inl same) (inl some) = inl (same ∙ some)
            its_waiter (inl same) (inr none) = inr (same ∙ none)

            waits_on : (before.inclusion.waiter ≡ Some its_request) ⊎ (before.inclusion.waiter ≡ None) → (end.inclusion.waiter ≡ Some its_request) ⊎ (end.inclusion.waiter ≡ None)
            waits_on (inl some) = inl (waiter ∙ some)
            waits_on (inr none) = inr (waiter ∙ none)

            gone : before.inclusion.waiter ≡ None → IsWaiting its_request before.inclusion → ⊥
            gone none (inl (r, among, same)) = none_of_its before.inclusion.queue order r among same
            gone none (inr some) = none_some (sym none ∙ some)

            unanswered_here : (before.inclusion.waiter ≡ Some its_request) ⊎ (before.inclusion.waiter ≡ None) → IsAnsweredIn its_request lines.lines → ⊥
            unanswered_here (inl some) answered = (one on its_request).once (inr (waiter ∙ some)) answered
            unanswered_here (inr none) answered = gone none ((one on its_request).only (inr answered))

            by_parts : IsAnsweredIn its_request said ⊎ IsAnsweredIn its_request lines.lines → ⊥
            by_parts (inl before) = verified.unanswered before.0 before.1
            by_parts (inr answered) = unanswered_here (its_waiter waits run.waits) answered

      -- ONE THAT STARTS
      module _ (apart : mid.participation.stage ≡ Follows → ⊥) (x : Live U) (reading : IsReading x before) (idle : x.inclusion.running ≡ None) (job : Job) (running : mid.inclusion.running ≡ Some job) where
        abbrev started : InRound x (λ round. IsStarted c round x mid job)
        started = (reading.read).starts job idle running

        abbrev r : Request U
        r = (started.2).request

        its_held : IsHeld g e (suc i) r
        its_held = all_of (IsHeld g e (suc i)) x.inclusion.queue r (started.2).among (reading.ready).queue

        end_waits : end.inclusion.waiter ≡ Some r.number
        end_waits = at_end (λ (y : Inclusion U). y.waiter ≡ Some r.number) (started.2).waits

        lacks : LacksNumber r.number end.inclusion.queue
        lacks = subst (λ (o : Option ℕ). IfSome o (λ number. LacksNumber number end.inclusion.queue)) end_waits ((one on r.number).apart).waiter

        its_gone : IsAmong r (reading.read).gone
        its_gone = of_both (among_both r (reading.read).gone mid.inclusion.queue (subst (IsAmong r) (reading.read).rest (started.2).among))
          where
            of_both : IsAmong r (reading.read).gone ⊎ IsAmong r mid.inclusion.queue → IsAmong r (reading.read).gone
            of_both (inl left) = left
            of_both (inr right) = absurd (all_of (λ (y : Request U). y.number ≡ r.number → ⊥) end.inclusion.queue r (at_end (λ (y : Inclusion U). IsAmong r y.queue) right) lacks refl)

        order_behind_it : InOrder g (suc i) its_held.at end.inclusion.queue
        order_behind_it =
            let behind = order_behind g (suc i) 0 (reading.read).gone mid.inclusion.queue r its_gone (subst (InOrder g (suc i) 0) (reading.read).rest (reading.order 0 (least i) tracked.order)) in
            at_end (λ (y : Inclusion U). InOrder g (suc i) its_held.at y.queue) (subst (λ (k : ℕ). InOrder g (suc i) k mid.inclusion.queue) (made_once g here its_held.at behind.0 r.number its_held.made behind.1) behind.2)
          where
            least : (a : ℕ) → 0 ≤ a
            least a = omega arith

        oldest : IsOldest g.script g.number g.life (suc i) said_now r.number
        oldest = record {
          its = record {
            at = its_held.at;
            before = its_held.before;
            made = its_held.made;
            uncancelled = subst IsUncancelled (sym its_held.stands) (uncut r.ended);
            unanswered = λ answer among. absent_on on r.number (inr end_waits) (answer, among);
          };
          of_epoch = its_held.same ∙ sym (same_epoch g here i its is m st live stands None end None node behind on apart);
          first = λ other its_open. by_waiting other its_open (all_on on other its_open.at its_open.before its_open.made its_open.uncancelled);
        }
          where
            uncut : (ended : Bool) → IsUncancelled (stands_as ended)
            uncut true = tt
            uncut false = tt

            itself : (a b : ℕ) → b ≡ a → b ≤ a
            itself a b same = omega (arith, same)

            by_waiting : (other : ℕ) (its_open : IsOpenRequest g.life (suc i) said_now other) → IsWaiting other end.inclusion ⊎ IsAnsweredIn other said_now → its_held.at ≤ its_open.at
            by_waiting other its_open (inr (answer, among)) = absurd (its_open.unanswered answer among)
            by_waiting other its_open (inl (inl (y, among, same))) =
                order_first g (suc i) its_held.at other its_open.at end.inclusion.queue (λ k made. made_once g here its_open.at k other its_open.made made) order_behind_it y among same
            by_waiting other its_open (inl (inr waits)) =
                itself its_open.at its_held.at (made_once g here its_open.at its_held.at other its_open.made (its_held.made ∙ ap (λ (k : ℕ). Some (event.Info k)) (the_same (sym end_waits ∙ waits))))

        mid_epoch : mid.participation.epoch ≡ e
        mid_epoch = (on.same).epoch ∙ stands.epoch (λ follows. apart (on.following follows))

        its_asked : WereAsked g.script g.life e r.number (suc i) started.0 (canonical c x) (filled_by (canonical c x) (started.2).found)
        its_asked =
            were_asked g here (suc i) e x (sym (ap (λ (y : Live U). y.tip) (reading.read).same) ∙ mid_tip) (sym (ap (λ (y : Live U). y.participation.epoch) (reading.read).same) ∙ mid_epoch) started.0 r (started.2).found
            (started.2).read its_held.fed

        -- where another one ended, that was another request's
        module _ (work : slice_get g.life.events (suc i - 1) ≡ Some event.Work) where
          its_work : its ≡ event.Work
          its_work = the_same (sym is ∙ ap (slice_get g.life.events) (sym (less_one i)) ∙ work)

          other_ended : (o : Option Job) → st.inclusion.running ≡ o
              → (other : ℕ) × (front : List Entry) × IsSaidBy (suc i) said_now (suc i - 1) front × IsVerified g.script g.number g.life e (suc i - 1) front other × (other ≡ r.number → ⊥)
          other_ended None none = absurd (none_some (sym (ap (λ (y : Inclusion U). y.running) idle_end ∙ none) ∙ at_end (λ (y : Inclusion U). y.running ≡ Some job) running))
            where
              sent : m.message ≡ Mailed (Work None)
              sent = subst (λ (y : Event). Brings g y m.message) its_work m.brings

              idle_end : end.inclusion ≡ st.inclusion
              idle_end =
                  came_to (λ (stop : NodeStop). ⊤) (λ end. end.inclusion ≡ st.inclusion) (node_step c (event_of (Mailed (Work None))) st) (went end) out now (idle_work c reshare st held.apart None none)
                  (subst (λ (y : Message U). Said (on_devices (node_step c (event_of y) st)) (went end) out now) sent lines)
          other_ended (Some was) there =
              let run : IsRun g e i said st.inclusion = tracked.runs was there in (
                its_request run,
                said,
                inr (lines.lines, append_assoc said (entry.Step i ∷ []) lines.lines ∙ ap (λ (k : ℕ). said ++ (entry.Step k ∷ lines.lines)) (sym (less_one i))),
                subst (λ (k : ℕ). IsVerified g.script g.number g.life e k said (its_request run)) (sym (less_one i)) (verified run),
                (λ same. none_of_its run x.inclusion.queue (reading.order (suc (since run)) (since_low run) run.younger) r (started.2).among (sym same)),
              )

        begins_run : IsRun g e (suc i) said_now end.inclusion
        unfolding oldest its_held
        begins_run = record {
          verifies = record {
            request = r.number;
            its = record {
              read = suc i;
              within = itself (suc i);
              began = ap (epoch_by g) (less_one i);
              front = said_now;
              by_then = inl (refl, refl);
              oldest = oldest;
              round = started.0;
              recorded = canonical c x;
              logs = filled_by (canonical c x) (started.2).found;
              asked = its_asked;
              unanswered = ((oldest).its).unanswered;
              unended = λ k from below work. none k (suc i) from below;
            };
            anew = λ work. other_ended work st.inclusion.running refl;
          };
          younger = order_above g (suc i) its_held.at r.number end.inclusion.queue its_held.made lacks order_behind_it;
          waits = inl end_waits;
        }
          where
            itself : (a : ℕ) → a ≤ a
            itself a = omega arith

            none : (k n : ℕ) → n ≤ k → k < n → ⊥
            none k n from below = omega (arith, from, below)

      -- EITHER
      runs_on : (mid.participation.stage ≡ Follows → ⊥) → (job : Job) → mid.inclusion.running ≡ Some job → IsRun g e (suc i) said_now end.inclusion
      runs_on apart job running = by_moved moved
        where
          of_reading : (x : Live U) (reading : IsReading x before) → (o : Option Job) → x.inclusion.running ≡ o → IsRun g e (suc i) said_now end.inclusion
          of_reading x reading None idle = begins_run apart x reading idle job running
          of_reading x reading (Some other) there =
              let goes_on : RunsOn x before = reading.goes_on other there in
              let run : IsRun g e i said st.inclusion = tracked.runs other (sym goes_on.was ∙ there) in
              keeps_run run goes_on.other (goes_on.order (suc (since run)) (since_low run) run.younger) goes_on.waits
              (at_end (λ (y : Inclusion U). InOrder g (suc i) (suc (since run)) y.queue)
              (order_back g (suc i) (suc (since run)) (reading.read).gone mid.inclusion.queue (subst (InOrder g (suc i) (suc (since run))) (reading.read).rest (reading.order (suc (since run)) (since_low run) run.younger))))
              (at_end (λ (y : Inclusion U). y.waiter ≡ before.inclusion.waiter) (((reading.read).busy other there).1 ∙ goes_on.waiter))

          by_moved : IsMoved before → IsRun g e (suc i) said_now end.inclusion
          by_moved (inl (x, reading)) = of_reading x reading x.inclusion.running refl
          by_moved (inr (same, as_st, other)) =
              let run : IsRun g e i said st.inclusion = tracked.runs job (ap (λ (y : Inclusion U). y.running) (sym same) ∙ running) in
              keeps_run run other (subst (λ (y : Live U). InOrder g (suc i) (suc (since run)) y.inclusion.queue) (sym as_st) (later_order (suc (since run)) (since_low run) run.younger)) (inl (ap (λ (y : Live U). y.inclusion.waiter) as_st))
              (at_end (λ (y : Inclusion U). InOrder g (suc i) (suc (since run)) y.queue) (subst (λ (y : Inclusion U). InOrder g (suc i) (suc (since run)) y.queue) (sym same) (later_order (suc (since run)) (since_low run) run.younger)))
              (at_end (λ (y : Inclusion U). y.waiter ≡ before.inclusion.waiter) (ap (λ (y : Inclusion U). y.waiter) same ∙ sym (ap (λ (y : Live U). y.inclusion.waiter) as_st)))

    -- ALL OF THEM
    pub step_tracked : AllByRecursion (IsSaidAt untold g.script g.number g.life (suc i)) lines.lines → AreTracked g (suc i) end said_now
    step_tracked says = either (goes g here i its is m st live stands None end None node behind)
      where
        with_mid : (P : Inclusion U → Type 0) → P mid.inclusion → P end.inclusion
        with_mid P so = subst (λ (x : Live U). P x.inclusion) (sym node.same) so

        back_to_mid : (job : Job) → end.inclusion.running ≡ Some job → mid.inclusion.running ≡ Some job
        back_to_mid job running = subst (λ (x : Live U). x.inclusion.running ≡ Some job) node.same running

        going : (on : GoesOn c st m.message mid) → (mid.participation.stage ≡ Follows → ⊥) → (job : Job) → end.inclusion.running ≡ Some job → IsRun g (epoch_by g (suc i)) (suc i) said_now end.inclusion
        going on apart job running =
            subst (λ (k : ℕ). IsRun g k (suc i) said_now end.inclusion) (sym (same_epoch g here i its is m st live stands None end None node behind on apart)) (runs_on on apart job (back_to_mid job running))

        of_stage : (on : GoesOn c st m.message mid) → (stage : Stage) → mid.participation.stage ≡ stage → (job : Job) → end.inclusion.running ≡ Some job → IsRun g (epoch_by g (suc i)) (suc i) said_now end.inclusion
        of_stage on Follows stage job running =
            absurd (none_some (sym ((((node.next).live).asked).has.early (λ includes. let no : ◌≡◌ {A = Stage} Follows Includes = sym stage ∙ includes in cc)).0 ∙ back_to_mid job running))
        of_stage on Deals stage job running = going on (λ follows. let no : ◌≡◌ {A = Stage} Deals Follows = sym stage ∙ follows in cc) job running
        of_stage on Includes stage job running = going on (λ follows. let no : ◌≡◌ {A = Stage} Includes Follows = sym stage ∙ follows in cc) job running
        of_stage on Ends stage job running = going on (λ follows. let no : ◌≡◌ {A = Stage} Ends Follows = sym stage ∙ follows in cc) job running

        either : GoesOn c st m.message mid ⊎ TakesOver c any_shares st m.message None mid None → AreTracked g (suc i) end said_now
        either (inl on) = record { all = all_on on; absent = absent_on on; asked = asked_now says; order = end_order on; runs = of_stage on mid.participation.stage refl }
        either (inr over) = record {
          all = all_over over;
          absent = λ n waits answered. none_waits n waits;
          asked = asked_now says;
          order = with_mid (λ (x : Inclusion U). InOrder g (suc i) 0 x.queue) (subst (InOrder g (suc i) 0) (sym (over.taken).emptied.queue) tt);
          runs = λ job running. absurd (none_some (sym (over.taken).emptied.running ∙ back_to_mid job running));
        }
          where
            none_waits : (n : ℕ) → IsWaiting n end.inclusion → ⊥
            none_waits n (inl (r, among, same)) = subst (IsAmong r) ((ap (λ (x : Live U). x.inclusion.queue) node.same) ∙ (over.taken).emptied.queue) among
            none_waits n (inr waits) = none_some (sym (ap (λ (x : Live U). x.inclusion.waiter) node.same ∙ (over.taken).emptied.waiter) ∙ waits)
