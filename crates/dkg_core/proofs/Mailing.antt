-- What an event of a request, or of the own log, leaves of a life that passes through whole epochs.
use Rattle.std.proofs.Common.{◌≡◌, ℕ, Bool, true, false, List, [], ◌∷◌, Option, Some, None, refl, sym, ◌∙◌, ap, subst}
use Rattle.std.specs.Prelude.{◌++◌, ◌==◌, if◌then◌else◌, is_some, not, filter, map}
use Rattle.dkg_ceremony.specs.declared.phase.Phase.{Phase}
use Rattle.dkg_ceremony.specs.declared.phase.Phase.TheVariants.{Early, Midpoint, Late}
use Rattle.dkg_ceremony.specs.declared.round.RoundParts.{RoundParts as Round}
use Rattle.dkg_ceremony.specs.declared.signed_log.SignedDealerLog.{SignedDealerLog}
use Rattle.dkg_infos.specs.declared.entry.Why.TheVariants.{Following}
use Rattle.dkg_infos.specs.declared.fault.Fault.{Fault}
use Rattle.dkg_types.specs.PayloadCodes.{log_payload}
use Rattle.dkg_store.specs.Acts.{Held}
use Rattle.dkg_core.specs.Courses.{Goes, bind}
use Rattle.dkg_core.specs.Fixed.{Fixed}
use Rattle.dkg_core.specs.Live.{Live, Stage, Deals, Includes, Follows, Ends, Inclusion, Request, Job, VerifiedLogs, GaveLog, GaveNone, Mail, Peer, NextLog, ReleaseLog, EpochInfoOf, Feed, Over, Cancel, Work, Mailed, awaited_height, phase_of, with_inclusion, with_queue, with_used}
use Rattle.dkg_core.specs.Including as inc
use Rattle.dkg_core.specs.Including.{advanced, changed, queued, is_of_job}
use Rattle.dkg_core.specs.Core.{step}
use Rattle.dkg_core.specs.Laws.{IsAmong}
use Rattle.dkg_core.specs.Endings.{stage_in}
use Rattle.dkg_core.specs.Forms.{IsLiveIn, ComesOver}
use Rattle.dkg_core.specs.Asked.{OfShares, ReadsShare, IsResultIn, InRound, FirstNeeds, HasAsked, IsAskStop, IsStarted, IsReadOn}
use Rattle.dkg_core.specs.Through.{IsFormThrough, IsLiveThrough, IsTakenThrough, IsReadFrom, asked_by, cancelled, verification_ended, waits_for, unasked}
use Rattle.dkg_core.proofs.Advancing.{advances_lead, included, needs_again, read_again, requeued}
use Rattle.dkg_core.proofs.Counting.{some_is}
use Rattle.dkg_core.proofs.Including.{live_read, read_from}
use Rattle.dkg_core.proofs.Setups.{over_as, over_behind}
use Rattle.dkg_core.proofs.Verifying.{IsEndedIn, IsHanded, verifying_ends}

none_apart : {A : Type 0} (a : A) → ◌≡◌ {A = Option A} None (Some a) → ⊥
none_apart a e = cc

deals_apart : ◌≡◌ {A = Stage} Deals Follows → ⊥
deals_apart e = cc

deals_early : ◌≡◌ {A = Stage} Deals Includes → ⊥
deals_early e = cc

follows_apart : ◌≡◌ {A = Stage} Follows Includes → ⊥
follows_apart e = cc

ends_apart : ◌≡◌ {A = Stage} Follows Ends → ⊥
ends_apart e = cc

no_end : (phase : Phase) → stage_in phase ≡ Ends → ⊥
no_end Early e = cc
no_end Midpoint e = cc
no_end Late e = cc

-- a life of the form hasn't ended
pub not_ended : {Dir : Type 0} (c : Fixed Dir) (st : Live Dir) → IsLiveIn c (unasked st) → st.participation.stage ≡ Ends → ⊥
not_ended c st stands ends = either st.participation.round refl
  where
    either : (found : Option Round) → st.participation.round ≡ found → ⊥
    either None is = ends_apart (sym (stands.without is).0 ∙ ends)
    either (Some round) is = no_end (phase_of c (awaited_height st)) (sym (stands.in_round round is) ∙ ends)

-- what is said of a request, or handed in
abbrev pub IsRequest : {Dir : Type 0} → Mail Dir → Type 0
IsRequest (Peer from bytes) = ⊥
IsRequest (NextLog request height) = ⊥
IsRequest (ReleaseLog height) = ⊥
IsRequest mail = Unit {0}

-- EVENTS

module _ {Dir : Type 0} (st : Live Dir) where
  -- an event changes nothing but what the life has of requests
  pub asked_beside : (its : Mail Dir) → asked_by its st ≡ with_inclusion (asked_by its st).inclusion st
  asked_beside (Peer from bytes) = refl
  asked_beside (NextLog request height) = refl
  asked_beside (ReleaseLog height) = either (inc.is_served_at height st)
    where
      either : (t : Bool) → (if t then with_inclusion (record st.inclusion { served = None }) st else st) ≡ with_inclusion (if t then with_inclusion (record st.inclusion { served = None }) st else st).inclusion st
      either true = refl
      either false = refl
  asked_beside (EpochInfoOf request) = refl
  asked_beside (Feed request block) = refl
  asked_beside (Over request) = refl
  asked_beside (Cancel request) = either (waits_for request st)
    where
      either : (t : Bool) → (if t then with_inclusion (record st.inclusion { waiter = None }) st else with_queue (filter (λ r. not (r.number == request)) st.inclusion.queue) st)
          ≡ with_inclusion (if t then with_inclusion (record st.inclusion { waiter = None }) st else with_queue (filter (λ r. not (r.number == request)) st.inclusion.queue) st).inclusion st
      either true = refl
      either false = refl
  asked_beside (Work handed) = refl

-- what is served is offered while including
served_including : {Dir : Type 0} (st : Live Dir) (stage : Stage) (served : Option ℕ) (log : SignedDealerLog) → inc.served_now_in st stage served ≡ Some log → stage ≡ Includes
served_including st Deals served log e = absurd (none_apart log e)
served_including st Includes served log e = refl
served_including st Follows served log e = absurd (none_apart log e)
served_including st Ends served log e = absurd (none_apart log e)

module _ {Dir : Type 0} (c : Fixed Dir) (st : Live Dir) where
  abbrev at : Inclusion Dir → Live Dir
  at i = with_inclusion i st

  -- no request was read
  pub unread : (before after : Inclusion Dir) → after.used ≡ before.used → after.queue ≡ before.queue → after.running ≡ before.running → after.waiter ≡ before.waiter → IsReadFrom c (at before) (at after)
  unread before after used queue running waiter = record {
    same = refl;
    used = used;
    gone = [];
    rest = sym queue;
    busy = λ job e. (running ∙ e, waiter);
    starts = λ job none e. absurd (none_apart job (sym (running ∙ none) ∙ e));
  }

module _ {Dir : Type 0} (c : Fixed Dir) (form : IsFormThrough c) (stored : OfShares) (st : Live Dir) (live : IsLiveThrough c stored st) (devices : Option Held) (reads : ReadsShare c stored devices) where
  abbrev pub AskStop : Fault → Type 0
  AskStop = IsAskStop c st

  -- what is left of a life in which requests are read
  abbrev pub ReadTo : Live Dir → Live Dir → Option Held → Type 0
  ReadTo asked end left = IsLiveThrough c stored end × IsReadFrom c asked end × (left ≡ devices)

  has : HasAsked c stored st
  has = live.asked.has

  -- another inclusion of it
  relived : (i : Inclusion Dir) → HasAsked c stored (at c st i) → (st.participation.stage ≡ Includes → i.running ≡ None → (round : Round) → st.participation.round ≡ Some round → FirstNeeds c round (at c st i) i.queue)
      → IsLiveThrough c stored (at c st i)
  relived i kept read = record { stands = live.stands; informed = live.informed; asked = record { has = kept; read = read } }

  needs_still : (i : Inclusion Dir) → i.running ≡ st.inclusion.running → i.queue ≡ st.inclusion.queue
      → st.participation.stage ≡ Includes → i.running ≡ None → (round : Round) → st.participation.round ≡ Some round → FirstNeeds c round (at c st i) i.queue
  needs_still i running queue includes none round is =
      needs_again c round st i i.queue (subst (FirstNeeds c round st) (sym queue) (live.asked.read includes (sym running ∙ none) round is))

  -- THE OWN LOG

  pub serves : (stops : Fault → Type 0) (request height : ℕ) (found : Option SignedDealerLog) → inc.served_now (with_used request st) ≡ found
      → ComesOver stops (ReadTo (with_used request st)) (inc.gives_log c request height found (with_used request st)) devices
  serves stops request height None is =
      let before : Inclusion Dir = record st.inclusion { used = request ∷ st.inclusion.used } in
      let now : Inclusion Dir = record before { told = (request, GaveLog None) ∷ st.inclusion.told } in
      (relived now (requeued c stored st st.inclusion st.inclusion.queue now.used now.told has has.none) (needs_still now refl refl), unread c st before now refl refl refl refl, refl)
  serves stops request height (Some log) is =
      let before : Inclusion Dir = record st.inclusion { used = request ∷ st.inclusion.used } in
      let now : Inclusion Dir = record before { served = Some height; told = (request, GaveLog (Some (log_payload log))) ∷ st.inclusion.told } in
      let includes = served_including (with_used request st) st.participation.stage st.inclusion.served log is in
      (relived now (included c stored st now includes has.waits has.runs has.kept has.made) (needs_still now refl refl), unread c st before now refl refl refl refl, refl)

  pub releases : (height : ℕ) → ReadTo (inc.releases height st) (inc.releases height st) devices
  releases height = either (inc.is_served_at height st)
    where
      either : (t : Bool) → ReadTo (if t then with_inclusion (record st.inclusion { served = None }) st else st) (if t then with_inclusion (record st.inclusion { served = None }) st else st) devices
      either true =
          let now : Inclusion Dir = record st.inclusion { served = None } in (
            relived now (record { served = λ apart. refl; none = has.none; early = has.early; waits = has.waits; runs = has.runs; kept = has.kept; made = has.made }) (needs_still now refl refl),
            unread c st now now refl refl refl refl,
            refl,
          )
      either false = (live, unread c st st.inclusion st.inclusion refl refl refl refl, refl)

  -- REQUESTS

  -- read over such an inclusion
  advances : (i : Inclusion Dir) → HasAsked c stored (at c st i) → ComesOver AskStop (ReadTo (at c st i)) (advanced c (at c st i)) devices
  advances i kept =
      over_as (IsAskStop c (at c st i)) AskStop (λ end left. (left ≡ devices) × IsReadOn c stored (at c st i) end) (ReadTo (at c st i)) (advanced c (at c st i)) devices (λ fault stop. stop)
      (λ end left its. (live_read c stored (at c st i) end live.stands live.informed its.1, read_from c stored (at c st i) end its.1, its.0))
      (advances_lead c stored (at c st i) devices form.form (λ r e. reads) live.informed kept)

  abbrev asking : ℕ → Inclusion Dir
  asking request = record st.inclusion { used = request ∷ st.inclusion.used; queue = st.inclusion.queue ++ record { number = request; blocks = []; ended = false } ∷ [] }

  asks : (request : ℕ) (stage : Stage) → st.participation.stage ≡ stage → ComesOver AskStop (ReadTo (asked_by (EpochInfoOf request) st)) (inc.asks_in c request (with_used request st) stage) devices
  asks request Deals is =
      let now = asking request in (
        relived now (requeued c stored st st.inclusion now.queue now.used now.told has (λ follows. absurd (deals_apart (sym is ∙ follows)))) (λ includes. absurd (deals_early (sym is ∙ includes))),
        unread c st now now refl refl refl refl,
        refl,
      )
  asks request Includes is =
      let now = asking request in
      advances now (requeued c stored st st.inclusion now.queue now.used now.told has (λ follows. absurd (follows_apart (sym follows ∙ is))))
  asks request Follows is =
      let r : Request Dir = record { number = request; blocks = []; ended = false } in
      let now : Inclusion Dir = record st.inclusion { used = request ∷ st.inclusion.used; told = (request, GaveNone Following) ∷ st.inclusion.told } in (
        relived now (requeued c stored st st.inclusion now.queue now.used now.told has has.none) (λ includes. absurd (follows_apart (sym is ∙ includes))),
        record {
          same = refl;
          used = refl;
          gone = r ∷ [];
          rest = subst (λ (q : List (Request Dir)). q ++ r ∷ [] ≡ r ∷ q) (sym (has.none is)) refl;
          busy = λ job e. (e, refl);
          starts = λ job none e. absurd (none_apart job (sym none ∙ e));
        },
        refl,
      )
  asks request Ends is = absurd (not_ended c st live.stands is)

  -- changed, each in its place
  changes : (request : ℕ) (f : Request Dir → Request Dir) → ComesOver AskStop (ReadTo (changed request f st)) (advanced c (changed request f st)) devices
  changes request f =
      let g : Request Dir → Request Dir = λ r. if r.number == request then f r else r in
      advances (record st.inclusion { queue = map g st.inclusion.queue })
      (requeued c stored st st.inclusion (map g st.inclusion.queue) st.inclusion.used st.inclusion.told has (λ follows. ap (λ (q : List (Request Dir)). map g q) (has.none follows)))

  cancels : (request : ℕ) → ComesOver AskStop (ReadTo (cancelled request st)) (inc.cancels c request st) devices
  cancels request = either (waits_for request st)
    where
      others : List (Request Dir)
      others = filter (λ r. not (r.number == request)) st.inclusion.queue

      either : (t : Bool) → ComesOver AskStop (ReadTo (if t then with_inclusion (record st.inclusion { waiter = None }) st else with_queue (filter (λ r. not (r.number == request)) st.inclusion.queue) st))
          (if t then Goes (with_inclusion (record st.inclusion { waiter = None }) st) else advanced c (with_queue (filter (λ r. not (r.number == request)) st.inclusion.queue) st)) devices
      either true =
          let now : Inclusion Dir = record st.inclusion { waiter = None } in (
            relived now (record { served = has.served; none = has.none; early = has.early; waits = λ none. refl; runs = has.runs; kept = has.kept; made = has.made }) (needs_still now refl refl),
            unread c st now now refl refl refl refl,
            refl,
          )
      either false =
          advances (record st.inclusion { queue = filter (λ r. not (r.number == request)) st.inclusion.queue })
          (requeued c stored st st.inclusion (filter (λ r. not (r.number == request)) st.inclusion.queue) st.inclusion.used st.inclusion.told has
          (λ follows. ap (λ (q : List (Request Dir)). filter (λ r. not (r.number == request)) q) (has.none follows)))

  -- A RESULT

  pub handed_of : (handed : Option VerifiedLogs) → IsTakenThrough c (Mailed (Work handed)) st → IsHanded c handed st
  handed_of None taken r e = absurd (none_apart r e)
  handed_of (Some its) taken r e = λ job runs is.
      subst (λ (x : VerifiedLogs). InRound st (λ round. IsResultIn c round st x)) (some_is its r e) (taken job runs (subst (λ (x : VerifiedLogs). is_of_job x job ≡ true) (sym (some_is its r e)) is))

  module _ (i : Inclusion Dir) (idle : i.running ≡ None) (queue : i.queue ≡ st.inclusion.queue) (used : i.used ≡ st.inclusion.used) (end : Live Dir) (its : IsReadOn c stored (at c st i) end) where
    started : (job : Job) → InRound (at c st i) (λ round. IsStarted c round (at c st i) end job) → InRound (verification_ended st) (λ round. IsStarted c round (verification_ended st) end job)
    started job by = (
      by.0,
      by.1,
      record {
        request = by.2.request;
        among = subst (IsAmong by.2.request) queue by.2.among;
        found = by.2.found;
        read = read_again c by.0 st (verification_ended st).inclusion by.2.request ∙ sym (read_again c by.0 st i by.2.request) ∙ by.2.read;
        logs = by.2.logs;
        waits = by.2.waits;
        uncached = by.2.uncached;
        unretained = by.2.unretained;
      },
    )

    worked : IsReadFrom c (verification_ended st) end
    worked = record {
      same = its.same;
      used = its.used ∙ used;
      gone = its.gone;
      rest = sym queue ∙ its.rest;
      busy = λ job e. absurd (none_apart job e);
      starts = λ job none e. started job (its.starts job idle e);
    }

  works : (handed : Option VerifiedLogs) → IsHanded c handed st → (running : Option Job) → st.inclusion.running ≡ running
      → ComesOver AskStop (ReadTo (verification_ended st)) (if is_some running then bind (inc.ends_verifying c handed st) (λ now. advanced c now) else Goes st) devices
  works handed taken None none = (live, nothing, refl)
    where
      nothing : IsReadFrom c (verification_ended st) st
      nothing = record {
        same = refl;
        used = refl;
        gone = [];
        rest = refl;
        busy = λ job e. absurd (none_apart job e);
        starts = λ job idle e. absurd (none_apart job (sym none ∙ e));
      }
  works handed taken (Some job) runs =
      over_behind AskStop (λ end left. (left ≡ devices) × IsEndedIn c stored st end) (ReadTo (verification_ended st)) (inc.ends_verifying c handed st) (λ now. advanced c now) devices
      (verifying_ends c stored st devices form.form form.finishing reads live.informed has handed taken)
      (λ end left its. subst (λ (l : Option Held). ComesOver AskStop (ReadTo (verification_ended st)) (advanced c end) l) (sym its.0) (behind end its.1))
    where
      by : (i : Inclusion Dir) → HasAsked c stored (at c st i) → i.running ≡ None → i.queue ≡ st.inclusion.queue → i.used ≡ st.inclusion.used
          → ComesOver AskStop (ReadTo (verification_ended st)) (advanced c (at c st i)) devices
      by i kept idle queue used =
          over_as (IsAskStop c (at c st i)) AskStop (λ end left. (left ≡ devices) × IsReadOn c stored (at c st i) end) (ReadTo (verification_ended st)) (advanced c (at c st i)) devices (λ fault stop. stop)
          (λ end left its. (live_read c stored (at c st i) end live.stands live.informed its.1, worked i idle queue used end its.1, its.0))
          (advances_lead c stored (at c st i) devices form.form (λ r e. reads) live.informed kept)

      behind : (end : Live Dir) → IsEndedIn c stored st end → ComesOver AskStop (ReadTo (verification_ended st)) (advanced c end) devices
      behind end its =
          subst (λ (x : Live Dir). ComesOver AskStop (ReadTo (verification_ended st)) (advanced c x) devices) (sym its.same)
          (by end.inclusion (subst (HasAsked c stored) its.same its.has) its.idle its.queue its.used)

  -- ANY OF THEM

  pub mail_comes : (mail : Mail Dir) → IsRequest mail → IsTakenThrough c (Mailed mail) st → ComesOver AskStop (ReadTo (asked_by mail st)) (step c (Mailed mail) st) devices
  mail_comes (Peer from bytes) other taken = absurd other
  mail_comes (NextLog request height) other taken = absurd other
  mail_comes (ReleaseLog height) other taken = absurd other
  mail_comes (EpochInfoOf request) other taken = asks request st.participation.stage refl
  mail_comes (Feed request block) other taken = changes request (λ r. if r.ended then r else record r { blocks = r.blocks ++ block ∷ [] })
  mail_comes (Over request) other taken = changes request (λ r. record r { ended = true })
  mail_comes (Cancel request) other taken = cancels request
  mail_comes (Work handed) other taken = works handed (handed_of handed taken) st.inclusion.running refl
