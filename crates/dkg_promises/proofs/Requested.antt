-- What a life has of requests, by the events of its script: each request that waits was made in the epoch that is awaited, isn't cancelled, and has what it was fed; and the one whose
-- verification runs was read in a step that began in that epoch.
use Rattle.std.proofs.Common.{◌≡◌, ◌⊎◌, inl, inr, ℕ, suc, ◌+◌, ◌-◌, ◌*◌, ◌<◌, ◌≤◌, ◌==◌, ◌++◌, List, [], ◌∷◌, Option, Some, None, Bool, true, false, arith, refl, sym, ◌∙◌, ap, subst, append-nil}
use Rattle.std.specs.Prelude.{filter, is_some, map, not, slice_get, option_map, option_and_then, IfSome, if◌then◌else◌}
use Rattle.std.specs.List.{AllByRecursion}
use Rattle.std.specs.Option.{option_map_or}
use Rattle.std.proofs.lemmas.Bool.Decides.{nat_tests}
use Rattle.dkg_ceremony.specs.Outcomes.{LogMap}
use Rattle.dkg_ceremony.specs.Schedule.{epoch_of, first, last, midpoint}
use Rattle.dkg_ceremony.specs.ValidLogs.{check_log_of}
use Rattle.dkg_ceremony.specs.declared.round.RoundParts.{RoundParts as Round}
use Rattle.dkg_ceremony.specs.declared.signed_log.SignedDealerLog.{SignedDealerLog}
use Rattle.dkg_types.specs.Blocks.{Block}
use Rattle.dkg_types.specs.Paths.{logs_of_path}
use Rattle.dkg_types.specs.PayloadCodes.{its_log}
use Rattle.dkg_infos.specs.declared.directory.Unit as directory
use Rattle.dkg_artifact.specs.Scans.{above}
use Rattle.dkg_artifact.specs.declared.scan.Tip.{Tip}
use Rattle.dkg_verifying.specs.InclusionOf.{tip_of}
use Rattle.dkg_text.specs.declared.script.Event.{Event}
use Rattle.dkg_text.specs.declared.script.Event.TheVariants as event
use Rattle.dkg_store.specs.Acts.{Held}
use Rattle.dkg_script.specs.Asked.{AskAnew}
use Rattle.dkg_core.specs.Asked.{InRound, IsEmptied}
use Rattle.dkg_core.specs.Blocks.{unoffered, with_log_at, without_own_log}
use Rattle.dkg_core.specs.Fixed.{Fixed}
use Rattle.dkg_core.specs.Forms.{Applied, Judged, Passed, Refusal, judged_block}
use Rattle.dkg_core.specs.Including.{Found, read_of, releases, is_served_at}
use Rattle.dkg_core.specs.Laws.{IsAmong}
use Rattle.dkg_core.specs.Live as core
use Rattle.dkg_core.specs.Live.{Cancel, Deals, Ends, EpochInfoOf, Feed, Finalized, Follows, Inclusion, Includes, Job, Live, Mail, Message, NextLog, Over, Peer, ReleaseLog, Request, Mailed, Stage, VerifiedLogs, Work, is_last_height, recorded_at, with_inclusion, with_participation, with_tip}
use Rattle.dkg_core.specs.Logs.{canonical, filled_by, is_accepted}
use Rattle.dkg_laws.specs.NodeThrough.{IsNodeThrough}
use Rattle.dkg_core.specs.Setup.{begins_inclusion}
use Rattle.dkg_core.specs.Stepping.{dealt_behind, given_itself}
use Rattle.dkg_core.specs.Through.{IsAppliedThrough, IsBlockThrough, IsEndThrough, IsFollowedThrough, IsIncludedThrough, IsLiveThrough, IsReadFrom, asked_by, verification_ended, included, observed, observed_log, waits_for}
use Rattle.dkg_core.proofs.Heights.{epoch_is}
use Rattle.dkg_core.proofs.StepDealing as dealing
use Rattle.dkg_lives.specs.Asks.{RequestStanding, Unmade, Open, FullyFed, Cancelled, IsUncancelled, WereAsked, bounds_in, fed_in, scan_tip, request_standing, turns}
use Rattle.dkg_lives.specs.Blamed.{per_epoch, tip_in}
use Rattle.dkg_lives.specs.Epochs.{IsLifeInForm, StandsInScript, any_shares, epoch_by}
use Rattle.dkg_lives.specs.Given.{Lived, at_step, blocks_in, numbered}
use Rattle.dkg_promises.proofs.Ancestry.{IsCompleted, IsRead, read_so}
use Rattle.dkg_lives.proofs.Apart.{IsApart, IsNewOne, IsReadAt, LacksNumber, Reads, none_apart, as_apart}
use Rattle.dkg_along.proofs.Asking.{dealt_same, goes, heard_same, observed_same, same_epoch}
use Rattle.dkg_along.proofs.FedRequests.{adds, adds_block, becomes_open, fed_more, fed_nothing, made_anew, stands_more}
use Rattle.dkg_lives.proofs.Former.{Brings, IsMessage, life_in}
use Rattle.dkg_lives.proofs.NextLives.{GoesOn, TakesOver}

abbrev U : Type 0
U = directory.Unit

same_number : (a b : ℕ) → (a == b) ≡ true → a ≡ b
same_number a b e = grind (arith, nat_tests)

pub less_one : (n : ℕ) → suc n - 1 ≡ n
less_one n = omega arith

-- STANDINGS

-- an open request, or one whose ancestry has ended
abbrev pub stands_as : (ended : Bool) → RequestStanding
stands_as ended = if ended then FullyFed else Open

uncancelled : (ended : Bool) → IsUncancelled (stands_as ended)
uncancelled true = tt
uncancelled false = tt

-- the event says nothing of a request of this number that was made
abbrev pub Spares : Event → (number : ℕ) → Type 0
Spares its number = (ended : Bool) → (turns number (stands_as ended) its ≡ stands_as ended) × (adds number (stands_as ended) its ≡ [])

module _ (number : ℕ) where
  pub spares_peer : (from : ℕ) (bytes : List ℕ) → Spares (event.Peer from bytes) number
  spares_peer from bytes true = (refl, refl)
  spares_peer from bytes false = (refl, refl)

  pub spares_final : (block : ℕ) → Spares (event.Final block) number
  spares_final block true = (refl, refl)
  spares_final block false = (refl, refl)

  pub spares_next : (request height : ℕ) → Spares (event.Next request height) number
  spares_next request height true = (refl, refl)
  spares_next request height false = (refl, refl)

  pub spares_release : (height : ℕ) → Spares (event.Release height) number
  spares_release height true = (refl, refl)
  spares_release height false = (refl, refl)

  pub spares_work : Spares event.Work number
  spares_work true = (refl, refl)
  spares_work false = (refl, refl)

  pub spares_info : (request : ℕ) → Spares (event.Info request) number
  spares_info request true = (refl, refl)
  spares_info request false = (refl, refl)

  module _ (request : ℕ) (other : (request == number) ≡ false) where
    pub spares_feed : (block : ℕ) → Spares (event.Feed request block) number
    spares_feed block true = (refl, refl)
    spares_feed block false = (refl, ap (λ (t : Bool). if t then block ∷ [] else []) other)

    pub spares_over : Spares (event.Over request) number
    spares_over true = (refl, refl)
    spares_over false = (ap (λ (t : Bool). if t then FullyFed else Open) other, refl)

    pub spares_cancel : Spares (event.Cancel request) number
    spares_cancel true = (ap (λ (t : Bool). if t then Cancelled else FullyFed) other, refl)
    spares_cancel false = (ap (λ (t : Bool). if t then Cancelled else Open) other, refl)

other_way : (a b : ℕ) → (a ≡ b → ⊥) → (b == a) ≡ false
other_way a b apart = by_test (b == a) refl
  where
    by_test : (t : Bool) → (b == a) ≡ t → t ≡ false
    by_test true is = absurd (apart (sym (same_number b a is)))
    by_test false is = refl

-- OF ALL

all_of : {A : Type 0} (P : A → Type 0) (xs : List A) (x : A) → IsAmong x xs → AllByRecursion P xs → P x
all_of P [] x among all = absurd among
all_of P (y ∷ xs) x (inl is) all = subst P is all.0
all_of P (y ∷ xs) x (inr among) all = all_of P xs x among all.1

all_back : {A : Type 0} (P : A → Type 0) (xs ys : List A) → AllByRecursion P (xs ++ ys) → AllByRecursion P ys
all_back P [] ys all = all
all_back P (x ∷ xs) ys all = all_back P xs ys all.1

all_and_one : {A : Type 0} (P : A → Type 0) (xs : List A) (x : A) → AllByRecursion P xs → P x → AllByRecursion P (xs ++ x ∷ [])
all_and_one P [] x all one = (one, tt)
all_and_one P (y ∷ xs) x all one = (all.0, all_and_one P xs x all.1 one)

-- WHAT STAYS of a life where it is read over a new tip

module _ (c : Fixed U) where
  pub record IsSamePart (st end : Live U) : Type 0 where
    pub epoch : end.participation.epoch ≡ st.participation.epoch
    pub round : end.participation.round ≡ st.participation.round
    pub current : end.participation.current ≡ st.participation.current

  part_same : (st end : Live U) → end.participation ≡ st.participation → IsSamePart st end
  part_same st end same = record { epoch = ap (λ (p : core.Participation U). p.epoch) same; round = ap (λ (p : core.Participation U). p.round) same; current = ap (λ (p : core.Participation U). p.current) same }

  cleared_part : (dealer : ℕ) (x : Live U) → IsSamePart x (without_own_log c dealer x)
  cleared_part dealer x = by_test (dealer == c.me)
    where
      by_test : (t : Bool) → IsSamePart x (if t then with_participation (record x.participation { dealer = option_map unoffered x.participation.dealer }) x else x)
      by_test true = record { epoch = refl; round = refl; current = refl }
      by_test false = record { epoch = refl; round = refl; current = refl }

  pub observed_part : (st : Live U) (round : Round) (b : Block U) → IsSamePart st (observed c round b st)
  observed_part st round b = by_log (option_and_then its_log b.payload)
    where
      by_tests : (log : SignedDealerLog) (one two : Bool) → IsSamePart st (if one then without_own_log c log.dealer (if two then st else with_log_at round.number log.dealer b.height log.log st) else st)
      by_tests log true true = cleared_part log.dealer st
      by_tests log true false = let its = cleared_part log.dealer (with_log_at round.number log.dealer b.height log.log st) in record { epoch = its.epoch; round = its.round; current = its.current }
      by_tests log false two = record { epoch = refl; round = refl; current = refl }

      by_log : (o : Option SignedDealerLog) → IsSamePart st (observed_log c round b st o)
      by_log None = record { epoch = refl; round = refl; current = refl }
      by_log (Some log) = by_tests log (is_accepted c round log) (is_some (recorded_at st.records.logs round.number log.dealer))

  pub dealt_part : (st : Live U) (b : Block U) → IsSamePart st (dealt_behind c b (given_itself c st))
  dealt_part st b = by_test (b.height + 1 == midpoint c.blocks_per_epoch (given_itself c st).participation.epoch)
    where
      given : dealing.IsSameBut c st (given_itself c st)
      given = dealing.given_same c st

      by_test : (t : Bool) → IsSamePart st (if t then begins_inclusion c (with_tip b (given_itself c st)) else with_tip b (given_itself c st))
      by_test true = record { epoch = given.same.epoch; round = given.same.round; current = given.same.current }
      by_test false = record { epoch = given.same.epoch; round = given.same.round; current = given.same.current }

  -- its tip is the block's
  pub dealt_tip : (st : Live U) (b : Block U) → (dealt_behind c b (given_itself c st)).tip ≡ Some (record { height = b.height; digest = b.digest })
  dealt_tip st b = by_test (b.height + 1 == midpoint c.blocks_per_epoch (given_itself c st).participation.epoch)
    where
      by_test : (t : Bool) → (if t then begins_inclusion c (with_tip b (given_itself c st)) else with_tip b (given_itself c st)).tip ≡ Some (record { height = b.height; digest = b.digest })
      by_test true = refl
      by_test false = refl

  -- mail changes what there is of requests alone
  pub asked_same : (mail : Mail U) (st : Live U) → asked_by mail st ≡ with_inclusion (asked_by mail st).inclusion st
  asked_same (Peer from bytes) st = refl
  asked_same (NextLog request height) st = refl
  asked_same (ReleaseLog height) st = by_test (is_served_at height st)
    where
      by_test : (t : Bool) → (if t then with_inclusion (record st.inclusion { served = None }) st else st) ≡ with_inclusion (if t then with_inclusion (record st.inclusion { served = None }) st else st).inclusion st
      by_test true = refl
      by_test false = refl
  asked_same (EpochInfoOf request) st = refl
  asked_same (Feed request block) st = refl
  asked_same (Over request) st = refl
  asked_same (Cancel request) st = by_test (waits_for request st)
    where
      by_test : (t : Bool)
          → (if t then with_inclusion (record st.inclusion { waiter = None }) st else core.with_queue (filter (λ r. not (r.number == request)) st.inclusion.queue) st)
          ≡ with_inclusion (if t then with_inclusion (record st.inclusion { waiter = None }) st else core.with_queue (filter (λ r. not (r.number == request)) st.inclusion.queue) st).inclusion st
      by_test true = refl
      by_test false = refl
  asked_same (Work handed) st = refl

-- WHAT IS KNOWN of the recorded logs by which requests are read: by the epoch that is awaited then, the step, and the round
abbrev pub Knows : Type 1
Knows = (epoch read : ℕ) → Round → LogMap → Type 0

-- nothing
abbrev pub untold : Knows
untold epoch read round recorded = Unit {0}

-- The life in which requests are read in a step.
abbrev pub IsReadFor : Fixed U → Live U → Message U → Live U → Type 0
IsReadFor c st (Mailed mail) x = x ≡ asked_by mail st
IsReadFor c st (Finalized b) x =
    (judged_block c b st ≡ Applied)
    × (((st.participation.stage ≡ Deals) × (x ≡ dealt_behind c b (given_itself c st)))
    ⊎ ((st.participation.stage ≡ Includes) × (is_last_height c b.height ≡ false) × InRound st (λ round. x ≡ included c round b st)))

-- IN A LIFE OF A SCRIPT

module _ (g : Lived) where
  -- a request that waits, behind the first j events, while this epoch is awaited
  pub record IsHeld (e j : ℕ) (r : Request U) : Type 0 where
    pub at : ℕ
    pub before : at < j
    pub made : slice_get g.life.events at ≡ Some (event.Info r.number)
    pub same : epoch_by g at ≡ e
    pub stands : request_standing g.life r.number j ≡ stands_as r.ended
    pub fed : r.blocks ≡ fed_in g.script g.life r.number j

module _ (g : Lived) (Known : Knows) where
  -- .. and the one whose verification runs
  pub record IsAwaited (e j : ℕ) (running : Option Job) (round : Option Round) (number : ℕ) : Type 0 where
    pub at : ℕ
    pub before : at < j
    pub made : slice_get g.life.events at ≡ Some (event.Info number)
    pub same : epoch_by g at ≡ e
    pub uncancelled : IsUncancelled (request_standing g.life number j)
    pub job : Job
    pub runs : running ≡ Some job
    pub its_round : Round
    pub of_round : round ≡ Some its_round
    pub read : ℕ
    pub within : read ≤ j
    pub began : epoch_by g (read - 1) ≡ e
    pub recorded : LogMap
    pub known : Known e read its_round recorded
    pub asked : WereAsked g.script g.life e number read its_round recorded job.logs

  -- all of them
  pub record AreReady (e j : ℕ) (round : Option Round) (its : Inclusion U) : Type 0 where
    pub queue : AllByRecursion (IsHeld g e j) its.queue
    pub waiter : IfSome its.waiter (IsAwaited e j its.running round)

  pub record AreHeld (j : ℕ) (st : Live U) : Type 0 where
    pub ready : AreReady (epoch_by g j) j st.participation.round st.inclusion
    pub apart : IsApart st.inclusion

  pub none_held : (j : ℕ) (st : Live U) → st.inclusion.queue ≡ [] → st.inclusion.waiter ≡ None → AreHeld j st
  none_held j st queue waiter = record {
    ready = record {
      queue = subst (AllByRecursion (IsHeld g (epoch_by g j) j)) (sym queue) tt;
      waiter = subst (λ (o : Option ℕ). IfSome o (IsAwaited (epoch_by g j) j st.inclusion.running st.participation.round)) (sym waiter) tt;
    };
    apart = none_apart st.inclusion queue waiter;
  }

  emptied : (j : ℕ) (st : Live U) → IsEmptied st.inclusion → AreHeld j st
  emptied j st its = none_held j st its.queue its.waiter

  -- what is known where requests are read in a step
  abbrev pub KnowsRead : (i : ℕ) → Live U → Message U → Type 0
  KnowsRead i st message =
      (x : Live U) → IsReadFor (at_step g (suc i)) st message x → x.tip ≡ tip_in g.script g.life (suc i) → x.participation.epoch ≡ epoch_by g i
      → (round : Round) → x.participation.round ≡ Some round → Known (epoch_by g i) (suc i) round (canonical (at_step g (suc i)) x)

-- WHAT SENDS A MESSAGE

module _ (g : Lived) where
  -- an event's kind, by what it sends
  pub sends_info : (x : Event) (number : ℕ) → Brings g x (Mailed (EpochInfoOf number)) → x ≡ event.Info number
  sends_info (event.Info request) number brings = let same : number ≡ request = the_number brings in ap event.Info (sym same)
    where
      the_number : {a b : ℕ} → ◌≡◌ {A = Message U} (Mailed (EpochInfoOf a)) (Mailed (EpochInfoOf b)) → a ≡ b
      the_number e = cc
  sends_info (event.Peer from bytes) number brings = absurd (let no : ◌≡◌ {A = Message U} (Mailed (EpochInfoOf number)) (Mailed (Peer from bytes)) = brings in cc)
  sends_info (event.Final block) number brings = absurd (let no : ◌≡◌ {A = Message U} (Mailed (EpochInfoOf number)) (Finalized (brings.0).block) = brings.1 in cc)
  sends_info (event.Next request height) number brings = absurd (let no : ◌≡◌ {A = Message U} (Mailed (EpochInfoOf number)) (Mailed (NextLog request height)) = brings in cc)
  sends_info (event.Release height) number brings = absurd (let no : ◌≡◌ {A = Message U} (Mailed (EpochInfoOf number)) (Mailed (ReleaseLog height)) = brings in cc)
  sends_info (event.Feed request block) number brings = absurd (let no : ◌≡◌ {A = Message U} (Mailed (EpochInfoOf number)) (Mailed (Feed request (brings.0).block)) = brings.1 in cc)
  sends_info (event.Over request) number brings = absurd (let no : ◌≡◌ {A = Message U} (Mailed (EpochInfoOf number)) (Mailed (Over request)) = brings in cc)
  sends_info (event.Cancel request) number brings = absurd (let no : ◌≡◌ {A = Message U} (Mailed (EpochInfoOf number)) (Mailed (Cancel request)) = brings in cc)
  sends_info event.Work number brings = absurd (let no : ◌≡◌ {A = Message U} (Mailed (EpochInfoOf number)) (Mailed (Work None)) = brings in cc)
  sends_info other number brings = absurd brings

  pub sends_work : (x : Event) (handed : Option VerifiedLogs) → Brings g x (Mailed (Work handed)) → x ≡ event.Work
  sends_work event.Work handed brings = refl
  sends_work (event.Peer from bytes) handed brings = absurd (let no : ◌≡◌ {A = Message U} (Mailed (Work handed)) (Mailed (Peer from bytes)) = brings in cc)
  sends_work (event.Final block) handed brings = absurd (let no : ◌≡◌ {A = Message U} (Mailed (Work handed)) (Finalized (brings.0).block) = brings.1 in cc)
  sends_work (event.Next request height) handed brings = absurd (let no : ◌≡◌ {A = Message U} (Mailed (Work handed)) (Mailed (NextLog request height)) = brings in cc)
  sends_work (event.Release height) handed brings = absurd (let no : ◌≡◌ {A = Message U} (Mailed (Work handed)) (Mailed (ReleaseLog height)) = brings in cc)
  sends_work (event.Info request) handed brings = absurd (let no : ◌≡◌ {A = Message U} (Mailed (Work handed)) (Mailed (EpochInfoOf request)) = brings in cc)
  sends_work (event.Feed request block) handed brings = absurd (let no : ◌≡◌ {A = Message U} (Mailed (Work handed)) (Mailed (Feed request (brings.0).block)) = brings.1 in cc)
  sends_work (event.Over request) handed brings = absurd (let no : ◌≡◌ {A = Message U} (Mailed (Work handed)) (Mailed (Over request)) = brings in cc)
  sends_work (event.Cancel request) handed brings = absurd (let no : ◌≡◌ {A = Message U} (Mailed (Work handed)) (Mailed (Cancel request)) = brings in cc)
  sends_work other handed brings = absurd brings

-- ONE EVENT MORE

module _ (g : Lived) (here : IsLifeInForm g) (i : ℕ) (its : Event) (is : slice_get g.life.events i ≡ Some its) where
  abbrev e : ℕ
  e = epoch_by g i

  more : (a : ℕ) → a < i → a < suc i
  more a low = omega (arith, low)

  -- a request of which it says nothing
  held_on : (r : Request U) → Spares its r.number → IsHeld g e i r → IsHeld g e (suc i) r
  held_on r spares held = record {
    at = held.at;
    before = more held.at held.before;
    made = held.made;
    same = held.same;
    stands = stands_more r.number g.life i its is ∙ ap (λ (s : RequestStanding). turns r.number s its) held.stands ∙ (spares r.ended).0;
    fed = held.fed ∙ sym (
        fed_more r.number g.life i its is g.script
        ∙ ap (λ (s : RequestStanding). fed_in g.script g.life r.number i ++ numbered (blocks_in g.script) (adds r.number s its)) held.stands
        ∙ ap (λ (ns : List ℕ). fed_in g.script g.life r.number i ++ numbered (blocks_in g.script) ns) (spares r.ended).1
        ∙ append-nil (fed_in g.script g.life r.number i)
        );
  }

  all_on : (rs : List (Request U)) → ((number : ℕ) → Spares its number) → AllByRecursion (IsHeld g e i) rs → AllByRecursion (IsHeld g e (suc i)) rs
  all_on [] spares all = tt
  all_on (r ∷ rs) spares all = (held_on r (spares r.number) all.0, all_on rs spares all.1)

  -- one that is fed a block
  held_more : (r : Request U) (number : ℕ) (b : Block U) → its ≡ event.Feed r.number number → slice_get (blocks_in g.script) number ≡ Some b → IsHeld g e i r
      → IsHeld g e (suc i) (if r.ended then r else record r { blocks = r.blocks ++ b ∷ [] })
  held_more r number b of there held = by_ended r.ended refl
    where
      closed : r.ended ≡ true → IsHeld g e (suc i) r
      closed ended = record {
        at = held.at;
        before = more held.at held.before;
        made = held.made;
        same = held.same;
        stands = stands_more r.number g.life i its is ∙ ap (λ (s : RequestStanding). turns r.number s its) (held.stands ∙ ap stands_as ended) ∙ ap (turns r.number FullyFed) of ∙ sym (ap stands_as ended);
        fed = held.fed ∙ sym (
            fed_more r.number g.life i its is g.script
            ∙ ap (λ (s : RequestStanding). fed_in g.script g.life r.number i ++ numbered (blocks_in g.script) (adds r.number s its)) (held.stands ∙ ap stands_as ended)
            ∙ ap (λ (x : Event). fed_in g.script g.life r.number i ++ numbered (blocks_in g.script) (adds r.number FullyFed x)) of
            ∙ append-nil (fed_in g.script g.life r.number i)
            );
      }

      still_open : r.ended ≡ false → IsHeld g e (suc i) (record r { blocks = r.blocks ++ b ∷ [] })
      still_open ended = record {
        at = held.at;
        before = more held.at held.before;
        made = held.made;
        same = held.same;
        stands = stands_more r.number g.life i its is ∙ ap (λ (s : RequestStanding). turns r.number s its) (held.stands ∙ ap stands_as ended) ∙ ap (turns r.number Open) of ∙ sym (ap stands_as ended);
        fed = ap (λ (bs : List (Block U)). bs ++ b ∷ []) held.fed ∙ sym (
            fed_more r.number g.life i its is g.script
            ∙ ap (λ (s : RequestStanding). fed_in g.script g.life r.number i ++ numbered (blocks_in g.script) (adds r.number s its)) (held.stands ∙ ap stands_as ended)
            ∙ ap (λ (x : Event). fed_in g.script g.life r.number i ++ numbered (blocks_in g.script) (adds r.number Open x)) of
            ∙ ap (λ (bs : List (Block U)). fed_in g.script g.life r.number i ++ bs) (adds_block r.number (blocks_in g.script) number b there)
            );
      }

      by_ended : (t : Bool) → r.ended ≡ t → IsHeld g e (suc i) (if t then r else record r { blocks = r.blocks ++ b ∷ [] })
      by_ended true ended = closed ended
      by_ended false ended = still_open ended

  -- one whose ancestry ends
  held_closed : (r : Request U) → its ≡ event.Over r.number → IsHeld g e i r → IsHeld g e (suc i) (record r { ended = true })
  held_closed r of held = record {
    at = held.at;
    before = more held.at held.before;
    made = held.made;
    same = held.same;
    stands = stands_more r.number g.life i its is ∙ ap (λ (s : RequestStanding). turns r.number s its) held.stands ∙ ap (turns r.number (stands_as r.ended)) of ∙ over r.ended;
    fed = held.fed ∙ sym (
        fed_more r.number g.life i its is g.script
        ∙ ap (λ (s : RequestStanding). fed_in g.script g.life r.number i ++ numbered (blocks_in g.script) (adds r.number s its)) held.stands
        ∙ ap (λ (x : Event). fed_in g.script g.life r.number i ++ numbered (blocks_in g.script) (adds r.number (stands_as r.ended) x)) of
        ∙ ap (λ (ns : List ℕ). fed_in g.script g.life r.number i ++ numbered (blocks_in g.script) ns) (adds_none r.ended)
        ∙ append-nil (fed_in g.script g.life r.number i)
        );
  }
    where
      itself : (a : ℕ) → (a == a) ≡ true
      itself a = grind (arith, nat_tests)

      over : (ended : Bool) → turns r.number (stands_as ended) (event.Over r.number) ≡ FullyFed
      over true = refl
      over false = ap (λ (t : Bool). if t then FullyFed else Open) (itself r.number)

      adds_none : (ended : Bool) → adds r.number (stands_as ended) (event.Over r.number) ≡ []
      adds_none true = refl
      adds_none false = refl

  -- a new one
  held_new : (request : ℕ) → its ≡ event.Info request → IsHeld g e (suc i) (record { number = request; blocks = []; ended = false })
  held_new request of =
      let there : slice_get g.life.events i ≡ Some (event.Info request) = is ∙ ap (λ (x : Event). Some x) of in
      let anew : AskAnew g.life.events = (life_in g here).anew in
      record { at = i; before = itself i; made = there; same = refl; stands = becomes_open g.life i request anew there; fed = sym (fed_nothing g.script g.life i request anew there) }
    where
      itself : (a : ℕ) → a < suc a
      itself a = omega arith

  -- the one whose verification runs, where the event doesn't cancel it
  awaited_on : {Known : Knows} (running : Option Job) (round : Option Round) (number : ℕ) → ((s : RequestStanding) → IsUncancelled s → IsUncancelled (turns number s its)) → IsAwaited g Known e i running round number → IsAwaited g Known e (suc i) running round number
  awaited_on {Known} running round number spares was = record {
    at = was.at;
    before = more was.at was.before;
    made = was.made;
    same = was.same;
    uncancelled = subst IsUncancelled (sym (stands_more number g.life i its is)) (spares (request_standing g.life number i) was.uncancelled);
    job = was.job;
    runs = was.runs;
    its_round = was.its_round;
    of_round = was.of_round;
    read = was.read;
    within = later was.read was.within;
    began = was.began;
    recorded = was.recorded;
    known = was.known;
    asked = was.asked;
  }
    where
      later : (a : ℕ) → a ≤ i → a ≤ suc i
      later a low = omega (arith, low)

  waiter_on : (Known : Knows) (running : Option Job) (round : Option Round) (o : Option ℕ) → ((number : ℕ) (s : RequestStanding) → IsUncancelled s → IsUncancelled (turns number s its)) → IfSome o (IsAwaited g Known e i running round)
      → IfSome o (IsAwaited g Known e (suc i) running round)
  waiter_on Known running round None spares was = tt
  waiter_on Known running round (Some number) spares was = awaited_on running round number (spares number) was

-- WHICH EVENTS CANCEL no request of a number
module _ (number : ℕ) where
  keeps_plain : (x : Event) → ((s : RequestStanding) → IsUncancelled s → turns number s x ≡ s) → (s : RequestStanding) → IsUncancelled s → IsUncancelled (turns number s x)
  keeps_plain x same s is = subst IsUncancelled (sym (same s is)) is

  pub keeps_peer : (from : ℕ) (bytes : List ℕ) (s : RequestStanding) → IsUncancelled s → IsUncancelled (turns number s (event.Peer from bytes))
  keeps_peer from bytes Unmade is = is
  keeps_peer from bytes Open is = is
  keeps_peer from bytes FullyFed is = is
  keeps_peer from bytes Cancelled is = is

  pub keeps_final : (block : ℕ) (s : RequestStanding) → IsUncancelled s → IsUncancelled (turns number s (event.Final block))
  keeps_final block Unmade is = is
  keeps_final block Open is = is
  keeps_final block FullyFed is = is
  keeps_final block Cancelled is = is

  pub keeps_next : (request height : ℕ) (s : RequestStanding) → IsUncancelled s → IsUncancelled (turns number s (event.Next request height))
  keeps_next request height Unmade is = is
  keeps_next request height Open is = is
  keeps_next request height FullyFed is = is
  keeps_next request height Cancelled is = is

  pub keeps_release : (height : ℕ) (s : RequestStanding) → IsUncancelled s → IsUncancelled (turns number s (event.Release height))
  keeps_release height Unmade is = is
  keeps_release height Open is = is
  keeps_release height FullyFed is = is
  keeps_release height Cancelled is = is

  pub keeps_info : (request : ℕ) (s : RequestStanding) → IsUncancelled s → IsUncancelled (turns number s (event.Info request))
  keeps_info request Unmade is = absurd is
  keeps_info request Open is = is
  keeps_info request FullyFed is = is
  keeps_info request Cancelled is = is

  pub keeps_feed : (request block : ℕ) (s : RequestStanding) → IsUncancelled s → IsUncancelled (turns number s (event.Feed request block))
  keeps_feed request block Unmade is = is
  keeps_feed request block Open is = is
  keeps_feed request block FullyFed is = is
  keeps_feed request block Cancelled is = is

  pub keeps_over : (request : ℕ) (s : RequestStanding) → IsUncancelled s → IsUncancelled (turns number s (event.Over request))
  keeps_over request Unmade is = absurd is
  keeps_over request Open is = by_test (request == number)
    where
      by_test : (t : Bool) → IsUncancelled (if t then FullyFed else Open)
      by_test true = tt
      by_test false = tt
  keeps_over request FullyFed is = is
  keeps_over request Cancelled is = is

  pub keeps_cancel : (request : ℕ) → (request == number) ≡ false → (s : RequestStanding) → IsUncancelled s → IsUncancelled (turns number s (event.Cancel request))
  keeps_cancel request other Unmade is = absurd is
  keeps_cancel request other Open is = subst IsUncancelled (sym (ap (λ (t : Bool). if t then Cancelled else Open) other)) tt
  keeps_cancel request other FullyFed is = subst IsUncancelled (sym (ap (λ (t : Bool). if t then Cancelled else FullyFed) other)) tt
  keeps_cancel request other Cancelled is = is

  pub keeps_work : (s : RequestStanding) → IsUncancelled s → IsUncancelled (turns number s event.Work)
  keeps_work Unmade is = is
  keeps_work Open is = is
  keeps_work FullyFed is = is
  keeps_work Cancelled is = is

-- WHAT AN EVENT SAYS of requests

module _ {Known : Knows} (g : Lived) (here : IsLifeInForm g) (i : ℕ) (its : Event) (is : slice_get g.life.events i ≡ Some its) (st : Live U) (held : AreHeld g Known i st) where
  abbrev now : ℕ
  now = epoch_by g i

  abbrev its_round : Option Round
  its_round = st.participation.round

  abbrev Ready : Inclusion U → Type 0
  Ready x = AreReady g Known now (suc i) its_round x

  abbrev was : AreReady g Known now i its_round st.inclusion
  was = held.ready

  -- nothing
  unsaid : (x : Inclusion U) → x.queue ≡ st.inclusion.queue → x.waiter ≡ st.inclusion.waiter → x.running ≡ st.inclusion.running → ((number : ℕ) → Spares its number) → ((number : ℕ) (s : RequestStanding) → IsUncancelled s → IsUncancelled (turns number s its))
      → Ready x
  unsaid x queue waiter running spares keeps = record {
    queue = subst (AllByRecursion (IsHeld g now (suc i))) (sym queue) (all_on g here i its is st.inclusion.queue spares was.queue);
    waiter = subst (λ (o : Option ℕ). IfSome o (IsAwaited g Known now (suc i) x.running its_round)) (sym waiter)
        (subst (λ (o : Option Job). IfSome st.inclusion.waiter (IsAwaited g Known now (suc i) o its_round)) (sym running) (waiter_on g here i its is Known st.inclusion.running its_round st.inclusion.waiter keeps was.waiter));
  }

  pub said_none : (x : Event) → its ≡ x → ((number : ℕ) → Spares x number) → ((number : ℕ) (s : RequestStanding) → IsUncancelled s → IsUncancelled (turns number s x)) → (y : Inclusion U)
      → y.queue ≡ st.inclusion.queue → y.waiter ≡ st.inclusion.waiter → y.running ≡ st.inclusion.running → Ready y
  said_none x of spares keeps y queue waiter running =
      unsaid y queue waiter running (λ number. subst (λ (z : Event). Spares z number) (sym of) (spares number)) (λ number s is. subst (λ (z : Event). IsUncancelled (turns number s z)) (sym of) (keeps number s is))

  -- each of them by its number
  changed : (request : ℕ) (f : Request U → Request U) (rs : List (Request U)) → ((r : Request U) → (r.number == request) ≡ true → IsHeld g now i r → IsHeld g now (suc i) (f r))
      → ((r : Request U) → (r.number == request) ≡ false → Spares its r.number) → AllByRecursion (IsHeld g now i) rs → AllByRecursion (IsHeld g now (suc i)) (map (λ r. if r.number == request then f r else r) rs)
  changed request f [] one other all = tt
  changed request f (r ∷ rs) one other all = (by_test (r.number == request) refl, changed request f rs one other all.1)
    where
      by_test : (t : Bool) → (r.number == request) ≡ t → IsHeld g now (suc i) (if t then f r else r)
      by_test true same = one r same all.0
      by_test false apart = held_on g here i its is r (other r apart) all.0

  turned : (a b : ℕ) → (a == b) ≡ false → (b == a) ≡ false
  turned a b apart = other_way a b (λ same. let yes : (a == b) ≡ true = equal a b same in absurd (let no : ◌≡◌ {A = Bool} false true = sym apart ∙ yes in cc))
    where
      equal : (a b : ℕ) → a ≡ b → (a == b) ≡ true
      equal a b same = grind (arith, nat_tests)

  fed_one : (request number : ℕ) (b : Block U) → its ≡ event.Feed request number → slice_get (blocks_in g.script) number ≡ Some b → Ready (asked_by (Feed request b) st).inclusion
  fed_one request number b of there = record {
    queue = changed request (λ r. if r.ended then r else record r { blocks = r.blocks ++ b ∷ [] }) st.inclusion.queue
        (λ r same held. held_more g here i its is r number b (of ∙ ap (λ (n : ℕ). event.Feed n number) (sym (same_number r.number request same))) there held)
        (λ r apart. subst (λ (x : Event). Spares x r.number) (sym of) (spares_feed r.number request (turned r.number request apart) number)) was.queue;
    waiter = waiter_on g here i its is Known st.inclusion.running its_round st.inclusion.waiter (λ n s is. subst (λ (x : Event). IsUncancelled (turns n s x)) (sym of) (keeps_feed n request number s is)) was.waiter;
  }

  closed_one : (request : ℕ) → its ≡ event.Over request → Ready (asked_by (Over request) st).inclusion
  closed_one request of = record {
    queue = changed request (λ r. record r { ended = true }) st.inclusion.queue
        (λ r same held. held_closed g here i its is r (of ∙ ap event.Over (sym (same_number r.number request same))) held)
        (λ r apart. subst (λ (x : Event). Spares x r.number) (sym of) (spares_over r.number request (turned r.number request apart))) was.queue;
    waiter = waiter_on g here i its is Known st.inclusion.running its_round st.inclusion.waiter (λ n s is. subst (λ (x : Event). IsUncancelled (turns n s x)) (sym of) (keeps_over n request s is)) was.waiter;
  }

  made_one : (request : ℕ) → its ≡ event.Info request → Ready (asked_by (EpochInfoOf request) st).inclusion
  made_one request of = record {
    queue = all_and_one (IsHeld g now (suc i)) st.inclusion.queue (record { number = request; blocks = []; ended = false })
        (all_on g here i its is st.inclusion.queue (λ n. subst (λ (x : Event). Spares x n) (sym of) (spares_info n request)) was.queue) (held_new g here i its is request of);
    waiter = waiter_on g here i its is Known st.inclusion.running its_round st.inclusion.waiter (λ n s is. subst (λ (x : Event). IsUncancelled (turns n s x)) (sym of) (keeps_info n request s is)) was.waiter;
  }

  -- of others than the one that is cancelled
  module _ (request : ℕ) (of : its ≡ event.Cancel request) where
    left : (rs : List (Request U)) → LacksNumber request rs → AllByRecursion (IsHeld g now i) rs → AllByRecursion (IsHeld g now (suc i)) rs
    left [] lacks all = tt
    left (r ∷ rs) lacks all =
        (held_on g here i its is r (subst (λ (x : Event). Spares x r.number) (sym of) (spares_cancel r.number request (other_way r.number request lacks.0))) all.0, left rs lacks.1 all.1)

    kept : (rs : List (Request U)) → AllByRecursion (IsHeld g now i) rs → AllByRecursion (IsHeld g now (suc i)) (filter (λ r. not (r.number == request)) rs)
    kept [] all = tt
    kept (r ∷ rs) all = by_test (r.number == request) refl (kept rs all.1)
      where
        by_test : (t : Bool) → (r.number == request) ≡ t → AllByRecursion (IsHeld g now (suc i)) (filter (λ r. not (r.number == request)) rs)
            → AllByRecursion (IsHeld g now (suc i)) (if not t then r ∷ filter (λ r. not (r.number == request)) rs else filter (λ r. not (r.number == request)) rs)
        by_test true same rest = rest
        by_test false apart rest = (held_on g here i its is r (subst (λ (x : Event). Spares x r.number) (sym of) (spares_cancel r.number request (turned r.number request apart))) all.0, rest)

    abbrev without : Live U
    without = with_inclusion (record st.inclusion { waiter = None }) st

    abbrev others : Live U
    others = core.with_queue (filter (λ r. not (r.number == request)) st.inclusion.queue) st

    cancelled_one : Ready (asked_by (Cancel request) st).inclusion
    cancelled_one = by_waiter st.inclusion.waiter refl
      where
        waits_not : (o : Option ℕ) → st.inclusion.waiter ≡ o → option_map_or (λ n. n == request) o false ≡ false → IfSome o (IsAwaited g Known now (suc i) st.inclusion.running its_round)
        waits_not None there apart = tt
        waits_not (Some number) there apart =
            awaited_on g here i its is st.inclusion.running its_round number (λ s is. subst (λ (x : Event). IsUncancelled (turns number s x)) (sym of) (keeps_cancel number request (turned number request apart) s is))
            (subst (λ (o : Option ℕ). IfSome o (IsAwaited g Known now i st.inclusion.running its_round)) there was.waiter)

        lacks : (number : ℕ) → st.inclusion.waiter ≡ Some number → (number == request) ≡ true → LacksNumber request st.inclusion.queue
        lacks number there same =
            subst (λ (n : ℕ). LacksNumber n st.inclusion.queue) (same_number number request same) (subst (λ (o : Option ℕ). IfSome o (λ n. LacksNumber n st.inclusion.queue)) there held.apart.waiter)

        by_test : (o : Option ℕ) → st.inclusion.waiter ≡ o → (t : Bool) → option_map_or (λ n. n == request) o false ≡ t → Ready (if t then without else others).inclusion
        by_test None there true same = absurd (let no : ◌≡◌ {A = Bool} false true = same in cc)
        by_test (Some number) there true same = record { queue = left st.inclusion.queue (lacks number there same) was.queue; waiter = tt }
        by_test o there false apart = record {
          queue = kept st.inclusion.queue was.queue;
          waiter = subst (λ (x : Option ℕ). IfSome x (IsAwaited g Known now (suc i) st.inclusion.running its_round)) (sym there) (waits_not o there apart);
        }

        by_waiter : (o : Option ℕ) → st.inclusion.waiter ≡ o → Ready (if option_map_or (λ n. n == request) st.inclusion.waiter false then without else others).inclusion
        by_waiter o there = subst (λ (x : Option ℕ). Ready (if option_map_or (λ n. n == request) x false then without else others).inclusion) (sym there) (by_test o there (option_map_or (λ n. n == request) o false) refl)

  -- a verification that ends waits for nobody
  worked : its ≡ event.Work → Ready (verification_ended st).inclusion
  worked of = record { queue = all_on g here i its is st.inclusion.queue (λ n. subst (λ (x : Event). Spares x n) (sym of) (spares_work n)) was.queue; waiter = tt }

  -- a new one's number is that of none
  pub new_one : (request : ℕ) → its ≡ event.Info request → LacksNumber request st.inclusion.queue × IfSome st.inclusion.waiter (λ number. request ≡ number → ⊥)
  new_one request of = (lacks st.inclusion.queue was.queue, waits st.inclusion.waiter was.waiter)
    where
      unmade : request_standing g.life request i ≡ Unmade
      unmade = made_anew g.life i request (life_in g here).anew (is ∙ ap (λ (x : Event). Some x) of)

      apart : (number : ℕ) → number ≡ request → IsUncancelled (request_standing g.life number i) → ⊥
      apart number same its = subst IsUncancelled (ap (λ (n : ℕ). request_standing g.life n i) same ∙ unmade) its

      lacks : (rs : List (Request U)) → AllByRecursion (IsHeld g now i) rs → LacksNumber request rs
      lacks [] all = tt
      lacks (r ∷ rs) all = ((λ same. apart r.number same (subst IsUncancelled (sym all.0.stands) (uncancelled r.ended))), lacks rs all.1)

      waits : (o : Option ℕ) → IfSome o (IsAwaited g Known now i st.inclusion.running its_round) → IfSome o (λ number. request ≡ number → ⊥)
      waits None its = tt
      waits (Some number) its = λ same. apart number (sym same) its.uncancelled

  -- .. where an event sends one
  pub sent_new : (m : IsMessage g its) (c : Fixed U) (reshare : c.oneshot ≡ None) (mail : Mail U) → m.message ≡ Mailed mail → IsNewOne c reshare st mail
  sent_new m c reshare (EpochInfoOf request) sent = new_one request (sends_info g its request (subst (λ (x : Message U). Brings g its x) sent m.brings))
  sent_new m c reshare (Peer from bytes) sent = tt
  sent_new m c reshare (NextLog request height) sent = tt
  sent_new m c reshare (ReleaseLog height) sent = tt
  sent_new m c reshare (Feed request b) sent = tt
  sent_new m c reshare (Over request) sent = tt
  sent_new m c reshare (Cancel request) sent = tt
  sent_new m c reshare (Work handed) sent = tt

  -- what an event's mail says of requests
  pub mail_said : (mail : Mail U) → Brings g its (Mailed mail) → Ready (asked_by mail st).inclusion
  mail_said mail brings = by_event its refl mail brings
    where
      the_mail : {x y : Mail U} → ◌≡◌ {A = Message U} (Mailed x) (Mailed y) → y ≡ x
      the_mail e = cc

      as_mail : (mail other : Mail U) → ◌≡◌ {A = Message U} (Mailed mail) (Mailed other) → Ready (asked_by other st).inclusion → Ready (asked_by mail st).inclusion
      as_mail mail other same ready = subst (λ (x : Mail U). Ready (asked_by x st).inclusion) (the_mail same) ready

      release : (height : ℕ) → its ≡ event.Release height → Ready (releases height st).inclusion
      release height of = by_test (is_served_at height st)
        where
          by_test : (t : Bool) → Ready (if t then with_inclusion (record st.inclusion { served = None }) st else st).inclusion
          by_test true = said_none (event.Release height) of (λ n. spares_release n height) (λ n. keeps_release n height) (record st.inclusion { served = None }) refl refl refl
          by_test false = said_none (event.Release height) of (λ n. spares_release n height) (λ n. keeps_release n height) st.inclusion refl refl refl

      by_event : (x : Event) → its ≡ x → (mail : Mail U) → Brings g x (Mailed mail) → Ready (asked_by mail st).inclusion
      by_event (event.Peer from bytes) of mail brings =
          as_mail mail (Peer from bytes) brings (said_none (event.Peer from bytes) of (λ n. spares_peer n from bytes) (λ n. keeps_peer n from bytes) st.inclusion refl refl refl)
      by_event (event.Final number) of mail brings = absurd (let no : ◌≡◌ {A = Message U} (Mailed mail) (Finalized (brings.0).block) = brings.1 in cc)
      by_event (event.Next request height) of mail brings =
          as_mail mail (NextLog request height) brings (said_none (event.Next request height) of (λ n. spares_next n request height) (λ n. keeps_next n request height) (asked_by (NextLog request height) st).inclusion refl refl refl)
      by_event (event.Release height) of mail brings = as_mail mail (ReleaseLog height) brings (release height of)
      by_event (event.Info request) of mail brings = as_mail mail (EpochInfoOf request) brings (made_one request of)
      by_event (event.Feed request number) of mail brings = as_mail mail (Feed request (brings.0).block) brings.1 (fed_one request number (brings.0).block of (brings.0).is)
      by_event (event.Over request) of mail brings = as_mail mail (Over request) brings (closed_one request of)
      by_event (event.Cancel request) of mail brings = as_mail mail (Cancel request) brings (cancelled_one request of)
      by_event event.Work of mail brings = as_mail mail (Work None) brings (worked of)
      by_event other of mail brings = absurd brings

  -- a block says nothing of them
  module _ (number : ℕ) (of : its ≡ event.Final number) where
    pub block_said : (x : Inclusion U) → x.queue ≡ st.inclusion.queue → x.waiter ≡ st.inclusion.waiter → x.running ≡ st.inclusion.running → Ready x
    block_said x queue waiter running = said_none (event.Final number) of (λ n. spares_final n number) (λ n. keeps_final n number) x queue waiter running

    pub included_said : (c : Fixed U) (round : Round) (b : Block U) → Ready (included c round b st).inclusion
    included_said c round b =
        let same = observed_same c st round b in
        block_said (included c round b st).inclusion (ap (λ (x : Inclusion U). x.queue) same) (ap (λ (x : Inclusion U). x.waiter) same) (ap (λ (x : Inclusion U). x.running) same)

    -- while dealing no verification runs
    pub dealt_said : (c : Fixed U) (b : Block U) → st.inclusion.waiter ≡ None → Ready (dealt_behind c b (given_itself c st)).inclusion
    dealt_said c b none =
        let given = (dealing.given_same c st).inclusion in
        let same = dealt_same c st b (given_itself c st) in
        record {
          queue = subst (AllByRecursion (IsHeld g now (suc i))) (sym (same.0 ∙ ap (λ (x : Inclusion U). x.queue) given))
              (all_on g here i its is st.inclusion.queue (λ n. subst (λ (x : Event). Spares x n) (sym of) (spares_final n number)) was.queue);
          waiter = subst (λ (o : Option ℕ). IfSome o (IsAwaited g Known now (suc i) (dealt_behind c b (given_itself c st)).inclusion.running its_round)) (sym (same.1 ∙ ap (λ (x : Inclusion U). x.waiter) given ∙ none)) tt;
        }

-- HOW AN ANCESTRY IS READ

pub bounds_of : (g : Lived) (here : IsLifeInForm g) (e : ℕ) → ((bounds_in g.script e).last ≡ last (per_epoch g.script) e) × ((bounds_in g.script e).midpoint ≡ midpoint (per_epoch g.script) e) × (0 < (bounds_in g.script e).last)
bounds_of g here e = (ap (last (per_epoch g.script)) same, ap (midpoint (per_epoch g.script)) same, subst (λ (k : ℕ). 0 < k) (sym (ap (last (per_epoch g.script)) same)) (some (e * per_epoch g.script) (per_epoch g.script) here.long))
  where
    within : (m n : ℕ) → 2 ≤ n → m < m + n
    within m n long = omega (arith, long)

    itself : (m : ℕ) → m ≤ m
    itself m = omega arith

    some : (m n : ℕ) → 2 ≤ n → 0 < m + n - 1
    some m n long = omega (arith, long)

    same : epoch_of (per_epoch g.script) (first (per_epoch g.script) e) ≡ e
    same = epoch_is (per_epoch g.script) e (first (per_epoch g.script) e) (itself (e * per_epoch g.script)) (within (e * per_epoch g.script) (per_epoch g.script) here.long)

module _ (g : Lived) (here : IsLifeInForm g) (j e : ℕ) (x : Live U) (tip : x.tip ≡ tip_in g.script g.life j) (epoch : x.participation.epoch ≡ e) where
  checks_are : (at_step g j).rules.check_log_of ≡ check_log_of
  unfolding at_step
  checks_are = refl

  last_is : (bounds_in g.script e).last ≡ last (at_step g j).blocks_per_epoch x.participation.epoch
  unfolding at_step
  last_is = (bounds_of g here e).0 ∙ ap (last (per_epoch g.script)) (sym epoch)

  middle_is : (bounds_in g.script e).midpoint ≡ midpoint (at_step g j).blocks_per_epoch x.participation.epoch
  unfolding at_step
  middle_is = (bounds_of g here e).1 ∙ ap (midpoint (per_epoch g.script)) (sym epoch)

  tip_is : option_map tip_of x.tip ≡ scan_tip g.script g.life j
  tip_is = ap (option_map tip_of) tip

  -- .. by the tip and the bounds that the script tells
  pub read_here : (round : Round) (r : Request U) → IsRead check_log_of round (bounds_in g.script e) (scan_tip g.script g.life j) r.blocks r.ended (read_of (at_step g j) round x r)
  read_here round r =
      subst (λ (o : Option Tip). IsRead check_log_of round (bounds_in g.script e) o r.blocks r.ended (read_of (at_step g j) round x r)) tip_is
      (read_so (at_step g j) round x check_log_of checks_are (bounds_in g.script e) last_is middle_is (bounds_of g here e).2 r)

  pub were_asked : (round : Round) (r : Request U) (found : LogMap) → read_of (at_step g j) round x r ≡ Found found → r.blocks ≡ fed_in g.script g.life r.number j
      → WereAsked g.script g.life e r.number j round (canonical (at_step g j) x) (filled_by (canonical (at_step g j) x) found)
  were_asked round r found read fed =
      let its : IsCompleted check_log_of round (bounds_in g.script e) (scan_tip g.script g.life j) r.blocks found
      = subst (IsRead check_log_of round (bounds_in g.script e) (scan_tip g.script g.life j) r.blocks r.ended) read (read_here round r) in
      record {
        found = found;
        read = record {
          path = its.path;
          lowest = its.lowest;
          rest = its.rest;
          fed = sym fed ∙ its.fed;
          completes = its.completes;
          logs = its.logs ∙ ap (λ (k : ℕ). logs_of_path check_log_of k (bounds_in g.script e).last round (above (scan_tip g.script g.life j) (its.lowest ∷ its.path))) (bounds_of g here e).1
              ∙ ap (λ (k : ℕ). logs_of_path check_log_of (midpoint (per_epoch g.script) e) k round (above (scan_tip g.script g.life j) (its.lowest ∷ its.path))) (bounds_of g here e).0;
        };
        filled = refl;
      }

-- A STEP

module _ {Known : Knows} (g : Lived) (here : IsLifeInForm g) (i : ℕ) (its : Event) (is : slice_get g.life.events i ≡ Some its) (m : IsMessage g its) (st : Live U) (live : IsLiveThrough (at_step g (suc i)) any_shares st) (stands : StandsInScript g i st)
    (held : AreHeld g Known i st) (devices : Option Held) (end : Live U) (left : Option Held) (node : IsNodeThrough (at_step g (suc i)) any_shares st m.message devices end left) (behind : StandsInScript g (suc i) end)
    (tip : end.tip ≡ tip_in g.script g.life (suc i)) (known : KnowsRead g Known i st m.message) where
  abbrev c : Fixed U
  c = at_step g (suc i)

  abbrev mid : Live U
  mid = node.mid

  waits : mid.inclusion.running ≡ None → mid.inclusion.waiter ≡ None
  waits = (((node.next).live).asked).has.waits

  mid_tip : mid.tip ≡ tip_in g.script g.life (suc i)
  mid_tip = sym (ap (λ (x : Live U). x.tip) node.same) ∙ tip

  abbrev IsLeft : Type 0
  IsLeft = AreReady g Known (epoch_by g i) (suc i) mid.participation.round mid.inclusion

  module _ (on : GoesOn c st m.message mid) (apart : mid.participation.stage ≡ Follows → ⊥) where
    now_is : epoch_by g (suc i) ≡ epoch_by g i
    now_is = same_epoch g here i its is m st live stands devices end left node behind on apart

    mid_epoch : mid.participation.epoch ≡ epoch_by g i
    mid_epoch = (on.same).epoch ∙ stands.epoch (λ follows. apart (on.following follows))

    -- what is known where requests are read in a life x
    abbrev KnowsIn : Live U → Type 0
    KnowsIn x = x.tip ≡ tip_in g.script g.life (suc i) → x.participation.epoch ≡ epoch_by g i → (round : Round) → x.participation.round ≡ Some round → Known (epoch_by g i) (suc i) round (canonical c x)

    known_in : (message : Message U) → m.message ≡ message → (x : Live U) → IsReadFor c st message x → KnowsIn x
    known_in message is x in_it = known x (subst (λ (y : Message U). IsReadFor c st y x) (sym is) in_it)

    -- requests are read in it
    read_on : (x : Live U) → KnowsIn x → IsReadFrom c x mid → AreReady g Known (epoch_by g i) (suc i) st.participation.round x.inclusion → IsLeft
    read_on x knows read ready = record { queue = queue; waiter = by_running mid.inclusion.running refl }
      where
        queue : AllByRecursion (IsHeld g (epoch_by g i) (suc i)) mid.inclusion.queue
        queue = all_back (IsHeld g (epoch_by g i) (suc i)) read.gone mid.inclusion.queue (subst (AllByRecursion (IsHeld g (epoch_by g i) (suc i))) read.rest ready.queue)

        same_round : mid.participation.round ≡ st.participation.round
        same_round = (on.same).round

        -- a verification started
        began : (round : Round) → x.participation.round ≡ Some round → (job : Job) (r : Request U) (found : LogMap) → mid.inclusion.running ≡ Some job → IsAmong r x.inclusion.queue → read_of c round x r ≡ Found found
            → job.logs ≡ filled_by (canonical c x) found → IsAwaited g Known (epoch_by g i) (suc i) mid.inclusion.running mid.participation.round r.number
        began round of job r found runs among its_read logs =
            let one : IsHeld g (epoch_by g i) (suc i) r = all_of (IsHeld g (epoch_by g i) (suc i)) x.inclusion.queue r among ready.queue in
            let of_tip : x.tip ≡ tip_in g.script g.life (suc i) = sym (ap (λ (y : Live U). y.tip) read.same) ∙ mid_tip in
            let of_epoch : x.participation.epoch ≡ epoch_by g i = sym (ap (λ (y : Live U). y.participation.epoch) read.same) ∙ mid_epoch in
            record {
              at = one.at;
              before = one.before;
              made = one.made;
              same = one.same;
              uncancelled = subst IsUncancelled (sym one.stands) (uncancelled r.ended);
              job = job;
              runs = runs;
              its_round = round;
              of_round = ap (λ (y : Live U). y.participation.round) read.same ∙ of;
              read = suc i;
              within = itself (suc i);
              began = ap (epoch_by g) (less_one i);
              recorded = canonical c x;
              known = knows of_tip of_epoch round of;
              asked = subst (λ (logs : LogMap). WereAsked g.script g.life (epoch_by g i) r.number (suc i) round (canonical c x) logs) (sym logs) (were_asked g here (suc i) (epoch_by g i) x of_tip of_epoch round r found its_read one.fed);
            }
          where
            itself : (a : ℕ) → a ≤ a
            itself a = omega arith

        by_running : (o : Option Job) → mid.inclusion.running ≡ o → IfSome mid.inclusion.waiter (IsAwaited g Known (epoch_by g i) (suc i) mid.inclusion.running mid.participation.round)
        by_running None none = subst (λ (o : Option ℕ). IfSome o (IsAwaited g Known (epoch_by g i) (suc i) mid.inclusion.running mid.participation.round)) (sym (waits none)) tt
        by_running (Some job) runs = by_before x.inclusion.running refl
          where
            by_before : (o : Option Job) → x.inclusion.running ≡ o → IfSome mid.inclusion.waiter (IsAwaited g Known (epoch_by g i) (suc i) mid.inclusion.running mid.participation.round)
            by_before None none =
                let began_by = read.starts job none runs in
                subst (λ (o : Option ℕ). IfSome o (IsAwaited g Known (epoch_by g i) (suc i) mid.inclusion.running mid.participation.round)) (sym began_by.2.waits)
                (began began_by.0 began_by.1 job began_by.2.request began_by.2.found runs began_by.2.among began_by.2.read began_by.2.logs)
            by_before (Some other) ran =
                let busy = read.busy other ran in
                subst (λ (o : Option ℕ). IfSome o (IsAwaited g Known (epoch_by g i) (suc i) mid.inclusion.running mid.participation.round)) (sym busy.1)
                (subst (λ (o : Option Job). IfSome x.inclusion.waiter (IsAwaited g Known (epoch_by g i) (suc i) o mid.participation.round)) (ran ∙ sym busy.0)
                (subst (λ (o : Option Round). IfSome x.inclusion.waiter (IsAwaited g Known (epoch_by g i) (suc i) x.inclusion.running o)) (sym same_round) ready.waiter))

    -- nothing of requests changed
    unmoved : AreReady g Known (epoch_by g i) (suc i) st.participation.round mid.inclusion → IsLeft
    unmoved ready = subst (λ (o : Option Round). AreReady g Known (epoch_by g i) (suc i) o mid.inclusion) (sym (on.same).round) ready

    by_block : (b : Block U) (number : ℕ) → its ≡ event.Final number → m.message ≡ Finalized b → IsBlockThrough c any_shares b st devices (judged_block c b st) mid left → IsLeft ⊎ IsEmptied mid.inclusion
    by_block b number of sent block_end = by_judged (judged_block c b st) refl block_end
      where
        quiet : mid.inclusion ≡ st.inclusion → IsLeft
        quiet same = unmoved (block_said g here i its is st held number of mid.inclusion (ap (λ (x : Inclusion U). x.queue) same) (ap (λ (x : Inclusion U). x.waiter) same) (ap (λ (x : Inclusion U). x.running) same))

        followed : (t : Bool) → IsFollowedThrough c any_shares b st devices t mid left → IsLeft ⊎ IsEmptied mid.inclusion
        followed true passed = inr passed.emptied
        followed false same = inl (quiet (ap (λ (x : Live U). x.inclusion) same))

        includes : judged_block c b st ≡ Applied → st.participation.stage ≡ Includes → (t : Bool) → is_last_height c b.height ≡ t → IsIncludedThrough c any_shares b st devices t mid left → IsLeft ⊎ IsEmptied mid.inclusion
        includes applied stage true ends passed = inr passed.emptied
        includes applied stage false below read =
            inl (read_on (included c read.0 b st) (known_in (Finalized b) sent (included c read.0 b st) (applied, inr (stage, below, (read.0, read.1, refl)))) read.2 (included_said g here i its is st held number of c read.0 b))

        deals : judged_block c b st ≡ Applied → st.participation.stage ≡ Deals → IsReadFrom c (dealt_behind c b (given_itself c st)) mid → IsLeft
        deals applied stage read =
            let none : st.inclusion.running ≡ None = (live.asked.has.early (λ includes. let no : ◌≡◌ {A = Stage} Deals Includes = sym stage ∙ includes in cc)).0 in
            read_on (dealt_behind c b (given_itself c st)) (known_in (Finalized b) sent (dealt_behind c b (given_itself c st)) (applied, inl (stage, refl))) read (dealt_said g here i its is st held number of c b (live.asked.has.waits none))

        by_stage : judged_block c b st ≡ Applied → (stage : Stage) → st.participation.stage ≡ stage → IsAppliedThrough c any_shares b st devices stage mid left → IsLeft ⊎ IsEmptied mid.inclusion
        by_stage applied Deals stage read = inl (deals applied stage read)
        by_stage applied Includes stage its_end = includes applied stage (is_last_height c b.height) refl its_end
        by_stage applied Follows stage its_end = followed (is_last_height c b.height) its_end
        by_stage applied Ends stage none = absurd none

        by_judged : (j : Judged) → judged_block c b st ≡ j → IsBlockThrough c any_shares b st devices j mid left → IsLeft ⊎ IsEmptied mid.inclusion
        by_judged (Refusal fault) is none = absurd none
        by_judged Passed is same = inl (quiet (ap (λ (x : Live U). x.inclusion) same.0))
        by_judged Applied is applied = by_stage is st.participation.stage refl applied

    by_event : (x : Event) → its ≡ x → (message : Message U) → m.message ≡ message → Brings g x message → IsEndThrough c any_shares st message devices mid left → IsLeft ⊎ IsEmptied mid.inclusion
    by_event (event.Peer from bytes) of message sent brings next =
        let same = heard_same c st from mid (subst (λ (x : Message U). IsEndThrough c any_shares st x devices mid left) brings next) in
        inl (unmoved (said_none g here i its is st held (event.Peer from bytes) of (λ n. spares_peer n from bytes) (λ n. keeps_peer n from bytes) mid.inclusion (ap (λ (x : Inclusion U). x.queue) same)
        (ap (λ (x : Inclusion U). x.waiter) same) (ap (λ (x : Inclusion U). x.running) same)))
    by_event (event.Final number) of message sent brings next = by_block (brings.0).block number of (sent ∙ brings.1) (subst (λ (x : Message U). IsEndThrough c any_shares st x devices mid left) brings.1 next)
    by_event (event.Next request height) of message sent brings next = of_mail (NextLog request height) (sent ∙ brings) (subst (λ (x : Event). Brings g x (Mailed (NextLog request height))) (sym of) refl)
        (subst (λ (x : Message U). IsEndThrough c any_shares st x devices mid left) brings next).0
      where
        of_mail : (mail : Mail U) → m.message ≡ Mailed mail → Brings g its (Mailed mail) → IsReadFrom c (asked_by mail st) mid → IsLeft ⊎ IsEmptied mid.inclusion
        of_mail mail sent its_mail read = inl (read_on (asked_by mail st) (known_in (Mailed mail) sent (asked_by mail st) refl) read (mail_said g here i its is st held mail its_mail))
    by_event (event.Release height) of message sent brings next =
        inl (read_on (asked_by (ReleaseLog height) st) (known_in (Mailed (ReleaseLog height)) (sent ∙ brings) (asked_by (ReleaseLog height) st) refl) (subst (λ (x : Message U). IsEndThrough c any_shares st x devices mid left) brings next).0
        (mail_said g here i its is st held (ReleaseLog height) (subst (λ (x : Event). Brings g x (Mailed (ReleaseLog height))) (sym of) refl)))
    by_event (event.Info request) of message sent brings next =
        inl (read_on (asked_by (EpochInfoOf request) st) (known_in (Mailed (EpochInfoOf request)) (sent ∙ brings) (asked_by (EpochInfoOf request) st) refl) (subst (λ (x : Message U). IsEndThrough c any_shares st x devices mid left) brings next).0
        (mail_said g here i its is st held (EpochInfoOf request) (subst (λ (x : Event). Brings g x (Mailed (EpochInfoOf request))) (sym of) refl)))
    by_event (event.Feed request number) of message sent brings next =
        inl (read_on (asked_by (Feed request (brings.0).block) st) (known_in (Mailed (Feed request (brings.0).block)) (sent ∙ brings.1) (asked_by (Feed request (brings.0).block) st) refl) (subst (λ (x : Message U). IsEndThrough c any_shares st x devices mid left) brings.1 next).0
        (mail_said g here i its is st held (Feed request (brings.0).block) (subst (λ (x : Event). Brings g x (Mailed (Feed request (brings.0).block))) (sym of) (brings.0, refl))))
    by_event (event.Over request) of message sent brings next =
        inl (read_on (asked_by (Over request) st) (known_in (Mailed (Over request)) (sent ∙ brings) (asked_by (Over request) st) refl) (subst (λ (x : Message U). IsEndThrough c any_shares st x devices mid left) brings next).0
        (mail_said g here i its is st held (Over request) (subst (λ (x : Event). Brings g x (Mailed (Over request))) (sym of) refl)))
    by_event (event.Cancel request) of message sent brings next =
        inl (read_on (asked_by (Cancel request) st) (known_in (Mailed (Cancel request)) (sent ∙ brings) (asked_by (Cancel request) st) refl) (subst (λ (x : Message U). IsEndThrough c any_shares st x devices mid left) brings next).0
        (mail_said g here i its is st held (Cancel request) (subst (λ (x : Event). Brings g x (Mailed (Cancel request))) (sym of) refl)))
    by_event event.Work of message sent brings next =
        inl (read_on (asked_by (Work None) st) (known_in (Mailed (Work None)) (sent ∙ brings) (asked_by (Work None) st) refl) (subst (λ (x : Message U). IsEndThrough c any_shares st x devices mid left) brings next).0
        (mail_said g here i its is st held (Work None) (subst (λ (x : Event). Brings g x (Mailed (Work None))) (sym of) refl)))
    by_event other of message sent brings next = absurd brings

  none_now : mid.inclusion.queue ≡ [] → mid.inclusion.waiter ≡ None → AreReady g Known (epoch_by g (suc i)) (suc i) mid.participation.round mid.inclusion
  none_now queue waiter = record {
    queue = subst (AllByRecursion (IsHeld g (epoch_by g (suc i)) (suc i))) (sym queue) tt;
    waiter = subst (λ (o : Option ℕ). IfSome o (IsAwaited g Known (epoch_by g (suc i)) (suc i) mid.inclusion.running mid.participation.round)) (sym waiter) tt;
  }

  at_mid : AreReady g Known (epoch_by g (suc i)) (suc i) mid.participation.round mid.inclusion
  at_mid = either (goes g here i its is m st live stands devices end left node behind)
    where
      going : GoesOn c st m.message mid → (mid.participation.stage ≡ Follows → ⊥) → AreReady g Known (epoch_by g (suc i)) (suc i) mid.participation.round mid.inclusion
      going on apart = by_left (by_event on apart its refl m.message refl m.brings (node.next).is)
        where
          by_left : IsLeft ⊎ IsEmptied mid.inclusion → AreReady g Known (epoch_by g (suc i)) (suc i) mid.participation.round mid.inclusion
          by_left (inl ready) = subst (λ (k : ℕ). AreReady g Known k (suc i) mid.participation.round mid.inclusion) (sym (now_is on apart)) ready
          by_left (inr none) = none_now none.queue none.waiter

      of_stage : GoesOn c st m.message mid → (stage : Stage) → mid.participation.stage ≡ stage → AreReady g Known (epoch_by g (suc i)) (suc i) mid.participation.round mid.inclusion
      of_stage on Follows stage =
          let has = (((node.next).live).asked).has in
          none_now (has.none stage) (has.waits (has.early (λ includes. let no : ◌≡◌ {A = Stage} Follows Includes = sym stage ∙ includes in cc)).0)
      of_stage on Deals stage = going on (λ follows. let no : ◌≡◌ {A = Stage} Deals Follows = sym stage ∙ follows in cc)
      of_stage on Includes stage = going on (λ follows. let no : ◌≡◌ {A = Stage} Includes Follows = sym stage ∙ follows in cc)
      of_stage on Ends stage = going on (λ follows. let no : ◌≡◌ {A = Stage} Ends Follows = sym stage ∙ follows in cc)

      either : GoesOn c st m.message mid ⊎ TakesOver c any_shares st m.message devices mid left → AreReady g Known (epoch_by g (suc i)) (suc i) mid.participation.round mid.inclusion
      either (inl on) = of_stage on mid.participation.stage refl
      either (inr over) = none_now (over.taken).emptied.queue (over.taken).emptied.waiter

  -- their numbers are apart, where they are so in a step in which requests are read
  module _ (reshare : c.oneshot ≡ None) (read_apart : Reads c reshare st held.apart m.message → IsApart end.inclusion) where
    as_mid : IsApart mid.inclusion → IsApart end.inclusion
    as_mid apart = subst (λ (x : Live U). IsApart x.inclusion) (sym node.same) apart

    unread : mid.inclusion ≡ st.inclusion → IsApart end.inclusion
    unread same = as_mid (as_apart st.inclusion mid.inclusion (ap (λ (x : Inclusion U). x.queue) same) (ap (λ (x : Inclusion U). x.waiter) same) held.apart)

    none_left : IsEmptied mid.inclusion → IsApart end.inclusion
    none_left empty = as_mid (none_apart mid.inclusion empty.queue empty.waiter)

    block_apart : (b : Block U) → m.message ≡ Finalized b → IsBlockThrough c any_shares b st devices (judged_block c b st) mid left → IsApart end.inclusion
    block_apart b sent block_end = by_judged (judged_block c b st) refl block_end
      where
        reads : IsReadAt c reshare st held.apart b → IsApart end.inclusion
        reads read = read_apart (subst (λ (x : Message U). Reads c reshare st held.apart x) (sym sent) read)

        followed : (t : Bool) → IsFollowedThrough c any_shares b st devices t mid left → IsApart end.inclusion
        followed true passed = none_left passed.emptied
        followed false same = unread (ap (λ (x : Live U). x.inclusion) same)

        by_stage : judged_block c b st ≡ Applied → (stage : Stage) → st.participation.stage ≡ stage → (t : Bool) → is_last_height c b.height ≡ t → IsAppliedThrough c any_shares b st devices stage mid left → IsApart end.inclusion
        by_stage applied Deals stage t ends its_end = reads (applied, inl stage)
        by_stage applied Includes stage true ends its_end =
            none_left (subst (λ (t : Bool). IsIncludedThrough c any_shares b st devices t mid left) ends its_end).emptied
        by_stage applied Includes stage false ends its_end = reads (applied, inr (stage, ends))
        by_stage applied Follows stage t ends its_end = followed (is_last_height c b.height) its_end
        by_stage applied Ends stage t ends none = absurd none

        by_judged : (j : Judged) → judged_block c b st ≡ j → IsBlockThrough c any_shares b st devices j mid left → IsApart end.inclusion
        by_judged (Refusal fault) is none = absurd none
        by_judged Passed is same = unread (ap (λ (x : Live U). x.inclusion) same.0)
        by_judged Applied is applied = by_stage is st.participation.stage refl (is_last_height c b.height) refl applied

    pub step_apart : IsApart end.inclusion
    step_apart = by_message m.message refl (node.next).is
      where
        sent : (message : Message U) → m.message ≡ message → Reads c reshare st held.apart message → IsApart end.inclusion
        sent message is reads = read_apart (subst (λ (x : Message U). Reads c reshare st held.apart x) (sym is) reads)

        by_message : (message : Message U) → m.message ≡ message → IsEndThrough c any_shares st message devices mid left → IsApart end.inclusion
        by_message (Finalized b) is its_end = block_apart b is its_end
        by_message (Mailed (Peer from bytes)) is its_end = unread (heard_same c st from mid its_end)
        by_message (Mailed (NextLog request height)) is its_end = sent (Mailed (NextLog request height)) is tt
        by_message (Mailed (ReleaseLog height)) is its_end = sent (Mailed (ReleaseLog height)) is tt
        by_message (Mailed (EpochInfoOf request)) is its_end = sent (Mailed (EpochInfoOf request)) is tt
        by_message (Mailed (Feed request b)) is its_end = sent (Mailed (Feed request b)) is tt
        by_message (Mailed (Over request)) is its_end = sent (Mailed (Over request)) is tt
        by_message (Mailed (Cancel request)) is its_end = sent (Mailed (Cancel request)) is tt
        by_message (Mailed (Work handed)) is its_end = sent (Mailed (Work handed)) is tt

  -- the requests that are left are held so, where their numbers are apart
  pub step_held : IsApart end.inclusion → AreHeld g Known (suc i) end
  step_held apart = record {
    ready = subst (λ (x : Live U). AreReady g Known (epoch_by g (suc i)) (suc i) x.participation.round x.inclusion) (sym node.same) at_mid;
    apart = apart;
  }
