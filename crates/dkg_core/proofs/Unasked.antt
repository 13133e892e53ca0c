-- A life that has no request to read stops at none.
use Rattle.std.proofs.Common.{◌≡◌, ◌⊎◌, inl, inr, ℕ, zero, suc, Bool, true, false, List, [], ◌∷◌, Option, Some, None, refl, sym, ◌∙◌, ap, subst}
use Rattle.std.specs.Prelude.{◌++◌, ◌==◌, if◌then◌else◌, filter, is_some, length, map, not, option_and_then, option_map}
use Rattle.std.specs.Option.{option_map_or}
use Rattle.dkg_ceremony.specs.declared.round.RoundParts.{RoundParts as Round}
use Rattle.dkg_ceremony.specs.declared.signed_log.SignedDealerLog.{SignedDealerLog}
use Rattle.dkg_types.specs.Blocks.{Block}
use Rattle.dkg_types.specs.PayloadCodes.{its_log}
use Rattle.dkg_infos.specs.declared.fault.Fault.{Fault}
use Rattle.dkg_store.specs.Acts.{Held, held_after}
use Rattle.dkg_core.specs.Courses.{Course, Say, Do, CallOutside, Ask, Goes, Stops, bind}
use Rattle.dkg_core.specs.Fixed.{Fixed}
use Rattle.dkg_core.specs.Live.{Live, Stage, Deals, Includes, Follows, Ends, Request, Job, VerifiedLogs, Mail, Peer, NextLog, ReleaseLog, EpochInfoOf, Feed, Over, Cancel, Work, Mailed, recorded_at, with_inclusion, with_participation, with_queue, with_tip, with_used}
use Rattle.dkg_core.specs.Logs.{is_accepted, carried_log_event}
use Rattle.dkg_core.specs.Dealing as d
use Rattle.dkg_core.specs.Including as inc
use Rattle.dkg_core.specs.Blocks as b
use Rattle.dkg_core.specs.Core.{step}
use Rattle.dkg_core.specs.Forms.{ComesOver}
use Rattle.dkg_core.specs.Asked.{OfShares, HasAsked}
use Rattle.dkg_core.specs.Through.{WasAsked}
use Rattle.dkg_core.proofs.Mailing.{IsRequest}
use Rattle.dkg_core.proofs.Setups.{over_if, over_behind}

none_apart : {A : Type 0} (a : A) → ◌≡◌ {A = Option A} None (Some a) → ⊥
none_apart a e = cc

cons_apart : {A : Type 0} {x : A} {xs : List A} → ◌≡◌ {A = List A} (x ∷ xs) [] → ⊥
cons_apart e = cc

deals_apart : ◌≡◌ {A = Stage} Deals Includes → ⊥
deals_apart e = cc

follows_apart : ◌≡◌ {A = Stage} Follows Includes → ⊥
follows_apart e = cc

ends_apart : ◌≡◌ {A = Stage} Ends Includes → ⊥
ends_apart e = cc

-- what stops by nothing may be said to stop by anything
pub over_never : {Dir F S : Type 0} (any : S → Option Held → Type 0) (stops others : F → Type 0) (goes : S → Option Held → Type 0) (course : Course Dir F S) (devices : Option Held)
    → ComesOver (λ fault. ⊥) any course devices → ComesOver stops goes course devices → ComesOver others goes course devices
over_never any stops others goes (Say line course) devices never comes = over_never any stops others goes course devices never comes
over_never any stops others goes (Do op course) devices never comes = over_never any stops others goes course (option_map (held_after op) devices) never comes
over_never any stops others goes (CallOutside outer course) devices never comes = over_never any stops others goes course devices never comes
over_never any stops others goes (Ask f) (Some h) never comes = over_never any stops others goes (f h) (Some h) never comes
over_never any stops others goes (Ask f) None never comes = λ h. over_never any stops others goes (f h) None (never h) (comes h)
over_never any stops others goes (Goes end) devices never comes = comes
over_never any stops others goes (Stops fault) devices never comes = absurd never

module _ {Dir : Type 0} (c : Fixed Dir) where
  abbrev Never : Fault → Type 0
  Never fault = ⊥

  abbrev pub Any : Live Dir → Option Held → Type 0
  Any end left = Unit {0}

  -- READING

  -- there is no request, or none is read
  abbrev pub ReadsNothing : Live Dir → Type 0
  ReadsNothing st = (st.inclusion.queue ≡ []) ⊎ (st.participation.stage ≡ Includes → ⊥)

  reads_first : (round : Round) (next : Live Dir → Course Dir Fault (Live Dir)) (st : Live Dir) (stage : Stage) (running : Option Job) (queue : List (Request Dir)) → (stage ≡ Includes → ⊥)
      → inc.reads_first_in c round next st stage running queue ≡ Goes st
  reads_first round next st Deals running queue apart = refl
  reads_first round next st Includes running queue apart = absurd (apart refl)
  reads_first round next st Follows running queue apart = refl
  reads_first round next st Ends running queue apart = refl

  advances : (most : ℕ) (st : Live Dir) → (st.participation.stage ≡ Includes → ⊥) → inc.advances c most st ≡ Goes st
  advances zero st apart = refl
  advances (suc most) st apart = by_round st.participation.round
    where
      by_round : (found : Option Round) → option_map_or (λ round. inc.reads_first c round (λ now. inc.advances c most now) st) found (Goes st) ≡ Goes st
      by_round None = refl
      by_round (Some round) = reads_first round (λ now. inc.advances c most now) st st.participation.stage st.inclusion.running st.inclusion.queue apart

  advanced_is : (st : Live Dir) → ReadsNothing st → inc.advanced c st ≡ Goes st
  advanced_is st (inl none) = ap (λ (queue : List (Request Dir)). inc.advances c (length queue) st) none
  advanced_is st (inr apart) = advances (length st.inclusion.queue) st apart

  pub advanced_stays : (st : Live Dir) (devices : Option Held) → ReadsNothing st → ComesOver Never Any (inc.advanced c st) devices
  advanced_stays st devices nothing = subst (λ (course : Course Dir Fault (Live Dir)). ComesOver Never Any course devices) (sym (advanced_is st nothing)) tt

  -- AN EVENT

  -- .. for which nobody waits
  abbrev IsUnasked : Live Dir → Type 0
  IsUnasked st = (st.inclusion.waiter ≡ None) × ReadsNothing st

  changes : (request : ℕ) (f : Request Dir → Request Dir) (st : Live Dir) (devices : Option Held) → ReadsNothing st → ComesOver Never Any (inc.advanced c (inc.changed request f st)) devices
  changes request f st devices (inl none) =
      advanced_stays (inc.changed request f st) devices (inl (ap (λ (queue : List (Request Dir)). map (λ r. if r.number == request then f r else r) queue) none))
  changes request f st devices (inr apart) = advanced_stays (inc.changed request f st) devices (inr apart)

  left_out : (request : ℕ) (st : Live Dir) (devices : Option Held) → ReadsNothing st → ComesOver Never Any (inc.advanced c (with_queue (filter (λ r. not (r.number == request)) st.inclusion.queue) st)) devices
  left_out request st devices (inl none) =
      advanced_stays (with_queue (filter (λ r. not (r.number == request)) st.inclusion.queue) st) devices (inl (ap (λ (queue : List (Request Dir)). filter (λ r. not (r.number == request)) queue) none))
  left_out request st devices (inr apart) = advanced_stays (with_queue (filter (λ r. not (r.number == request)) st.inclusion.queue) st) devices (inr apart)

  cancels : (request : ℕ) (st : Live Dir) (devices : Option Held) → ReadsNothing st → ComesOver Never Any (inc.cancels c request st) devices
  cancels request st devices nothing =
      over_if Never Any devices (option_map_or (λ n. n == request) st.inclusion.waiter false) (Goes (with_inclusion (record st.inclusion { waiter = None }) st))
      (inc.advanced c (with_queue (filter (λ r. not (r.number == request)) st.inclusion.queue) st)) (λ e. tt) (λ e. left_out request st devices nothing)

  works : (handed : Option VerifiedLogs) (st : Live Dir) (devices : Option Held) → IsUnasked st → ComesOver Never Any (inc.works c handed st) devices
  works handed st devices unasked =
      over_if Never Any devices (is_some st.inclusion.running) (bind (inc.ends_verifying c handed st) (λ now. inc.advanced c now)) (Goes st) (λ e. by_running st.inclusion.running) (λ e. tt)
    where
      by_running : (running : Option Job) → ComesOver Never Any (bind (inc.ends_verifying_in c handed st running) (λ now. inc.advanced c now)) devices
      by_running None = advanced_stays st devices unasked.1
      by_running (Some job) =
          subst (λ (waiter : Option ℕ). ComesOver Never Any (bind (inc.completes_in c (inc.job_result_of c handed job) st waiter) (λ now. inc.advanced c now)) devices) (sym unasked.0)
          (advanced_stays (inc.retains c (inc.job_result_of c handed job) st) devices unasked.1)

  asks : (request : ℕ) (st : Live Dir) (devices : Option Held) (stage : Stage) → (stage ≡ Includes → ⊥) → ComesOver Never Any (inc.asks_in c request st stage) devices
  asks request st devices Deals apart = tt
  asks request st devices Includes apart = absurd (apart refl)
  asks request st devices Follows apart = tt
  asks request st devices Ends apart = tt

  -- it was asked, or stops at nothing
  module _ (stored : OfShares) (st : Live Dir) (has : HasAsked c stored st) (devices : Option Held) where
    included : (stage : Stage) → (stage ≡ Includes) ⊎ (stage ≡ Includes → ⊥)
    included Deals = inr deals_apart
    included Includes = inl refl
    included Follows = inr follows_apart
    included Ends = inr ends_apart

    abbrev Either : Mail Dir → Type 0
    Either mail = WasAsked mail st ⊎ ComesOver Never Any (step c (Mailed mail) st) devices

    asked_or : ((st.participation.stage ≡ Includes) × ((st.inclusion.waiter ≡ None) × (st.inclusion.queue ≡ []) → ⊥)) ⊎ IsUnasked st
    asked_or = by_stage (included st.participation.stage)
      where
        by_waiter : st.participation.stage ≡ Includes → (waiter : Option ℕ) → st.inclusion.waiter ≡ waiter → (queue : List (Request Dir)) → st.inclusion.queue ≡ queue
            → ((st.participation.stage ≡ Includes) × ((st.inclusion.waiter ≡ None) × (st.inclusion.queue ≡ []) → ⊥)) ⊎ IsUnasked st
        by_waiter is None none [] empty = inr (none, inl empty)
        by_waiter is None none (r ∷ rs) there = inl (is, λ its. cons_apart (sym there ∙ its.1))
        by_waiter is (Some n) there queue of = inl (is, λ its. none_apart n (sym its.0 ∙ there))

        by_stage : (st.participation.stage ≡ Includes) ⊎ (st.participation.stage ≡ Includes → ⊥) → ((st.participation.stage ≡ Includes) × ((st.inclusion.waiter ≡ None) × (st.inclusion.queue ≡ []) → ⊥)) ⊎ IsUnasked st
        by_stage (inl is) = by_waiter is st.inclusion.waiter refl st.inclusion.queue refl
        by_stage (inr apart) = inr (has.waits (has.early apart).0, inr apart)

    or_stays : (mail : Mail Dir) → (IsUnasked st → ComesOver Never Any (step c (Mailed mail) st) devices)
        → ((st.participation.stage ≡ Includes) × ((st.inclusion.waiter ≡ None) × (st.inclusion.queue ≡ []) → ⊥) → WasAsked mail st) → Either mail
    or_stays mail stays asked = by_asked asked_or
      where
        by_asked : ((st.participation.stage ≡ Includes) × ((st.inclusion.waiter ≡ None) × (st.inclusion.queue ≡ []) → ⊥)) ⊎ IsUnasked st → Either mail
        by_asked (inl was) = inl (asked was)
        by_asked (inr unasked) = inr (stays unasked)

    pub mail_asked : (mail : Mail Dir) → IsRequest mail → Either mail
    mail_asked (Peer from bytes) is = absurd is
    mail_asked (NextLog request height) is = absurd is
    mail_asked (ReleaseLog height) is = absurd is
    mail_asked (EpochInfoOf request) is = by_stage (included st.participation.stage)
      where
        by_stage : (st.participation.stage ≡ Includes) ⊎ (st.participation.stage ≡ Includes → ⊥) → Either (EpochInfoOf request)
        by_stage (inl is) = inl is
        by_stage (inr apart) = inr (asks request (with_used request st) devices st.participation.stage apart)
    mail_asked (Feed request block) is = or_stays (Feed request block) (λ unasked. changes request (λ r. if r.ended then r else record r { blocks = r.blocks ++ block ∷ [] }) st devices unasked.1) (λ was. was)
    mail_asked (Over request) is = or_stays (Over request) (λ unasked. changes request (λ r. record r { ended = true }) st devices unasked.1) (λ was. was)
    mail_asked (Cancel request) is = or_stays (Cancel request) (λ unasked. cancels request st devices unasked.1) (λ was. was)
    mail_asked (Work handed) is = or_stays (Work handed) (λ unasked. works handed st devices unasked) (λ was. was)

  -- A BLOCK BELOW THE LAST, while including

  module _ (round : Round) (block : Block Dir) (st : Live Dir) (none : st.inclusion.queue ≡ []) where
    abbrev Empty : Live Dir → Option Held → Type 0
    Empty end left = end.inclusion.queue ≡ []

    cleared : (dealer : ℕ) (now : Live Dir) → now.inclusion.queue ≡ [] → (b.without_own_log c dealer now).inclusion.queue ≡ []
    cleared dealer now is = by_test (dealer == c.me)
      where
        by_test : (t : Bool) → (if t then with_participation (record now.participation { dealer = option_map b.unoffered now.participation.dealer }) now else now).inclusion.queue ≡ []
        by_test true = is
        by_test false = is

    recorded : (devices : Option Held) (log : SignedDealerLog) → ComesOver Never Empty (b.records_log round.number block.height log st) devices
    recorded devices log =
        over_if Never Empty devices (is_some (recorded_at st.records.logs round.number log.dealer)) (Goes st)
        (d.appends round.number (carried_log_event log.dealer block.height log.log) (Goes (b.with_log_at round.number log.dealer block.height log.log st))) (λ e. none) (λ e. none)

    observed : (devices : Option Held) (log : Option SignedDealerLog) → ComesOver Never Empty (b.observes c round block st log) devices
    observed devices None = none
    observed devices (Some log) =
        over_if Never Empty devices (is_accepted c round log) (bind (b.records_log round.number block.height log st) (λ now. Goes (b.without_own_log c log.dealer now))) (Goes st)
        (λ e. over_behind Never Empty Empty (b.records_log round.number block.height log st) (λ now. Goes (b.without_own_log c log.dealer now)) devices (recorded devices log) (λ end left is. cleared log.dealer end is)) (λ e. none)

    pub includes_stay : (devices : Option Held) → ComesOver Never Any (b.includes c round block st) devices
    includes_stay devices =
        over_behind Never Empty Any (b.observes c round block st (option_and_then its_log block.payload)) (λ now. inc.advanced c (with_tip block (b.unserved block.height now))) devices
        (observed devices (option_and_then its_log block.payload)) (λ end left is. advanced_stays (with_tip block (b.unserved block.height end)) left (inl is))
