-- What a verification that ends leaves: its result is one, whoever found it.
use Rattle.std.proofs.Common.{◌≡◌, ℕ, Bool, true, false, List, [], ◌∷◌, Option, Some, None, refl, sym, ◌∙◌, ap, subst, arith}
use Rattle.std.specs.Prelude.{◌==◌, ◌&&◌, not, if◌then◌else◌, is_some, option_map, map, IfSome, Result, Ok, Err}
use Rattle.std.proofs.lemmas.Bool.Decides.{nat_tests}
use Rattle.dkg_values.specs.Rising.{lookup}
use Rattle.dkg_ceremony.specs.declared.ceremony.DealingError.{DealingError}
use Rattle.dkg_ceremony.specs.declared.finish.FinishError.{FinishError}
use Rattle.dkg_ceremony.specs.declared.output.Output.{Output}
use Rattle.dkg_ceremony.specs.declared.round.RoundParts.{RoundParts as Round}
use Rattle.dkg_ceremony.specs.Finishes.{DealingMap}
use Rattle.dkg_ceremony.specs.Outcomes.{LogMap}
use Rattle.dkg_infos.specs.declared.fault.Fault.{Fault}
use Rattle.dkg_infos.specs.declared.info.EpochInfo.{EpochInfo}
use Rattle.dkg_types.specs.PayloadCodes.{info_payload}
use Rattle.dkg_store.specs.Acts.{Held}
use Rattle.dkg_store.specs.Recorded.{Pair, refused_or, first_refused}
use Rattle.dkg_core.specs.Courses.{Goes, bind}
use Rattle.dkg_core.specs.Fixed.{Fixed, has}
use Rattle.dkg_core.specs.Live.{Live, Stage, Deals, Includes, Follows, Ends, Inclusion, Dealings, Job, Verified, VerifiedLogs, Artifact, RequestAnswer, GaveInfo, records_of_epoch, with_inclusion, with_told}
use Rattle.dkg_core.specs.Logs.{canonical}
use Rattle.dkg_core.specs.Same.{same_logs}
use Rattle.dkg_core.specs.Setup.{is_lost, pairs_of, refused_in}
use Rattle.dkg_core.specs.Including as inc
use Rattle.dkg_core.specs.Including.{can_finish, job_for, its_key, of_player, of_output, result_by, verified, is_of_job, job_result_of, retained_for, retains}
use Rattle.dkg_core.specs.Endings.{validity}
use Rattle.dkg_core.specs.Forms.{IsForm, ComesOver, round_for}
use Rattle.dkg_core.specs.Finishing.{IsFinishing}
use Rattle.dkg_core.specs.Asked.{OfShares, ReadsShare, IsResultOf, IsResultIn, IsJobIn, InRound, HasAsked, IsInformed, IsAskStop, IsMadeIn}
use Rattle.dkg_core.proofs.Advancing.{included, of_round, some_of}
use Rattle.dkg_core.proofs.Artifacts.{artifacts_lead}
use Rattle.dkg_core.proofs.Counting.{some_is}

none_apart : {A : Type 0} (a : A) → ◌≡◌ {A = Option A} None (Some a) → ⊥
none_apart a e = cc

both_of : (a t : Bool) → (a && t) ≡ true → (a ≡ true) × (t ≡ true)
both_of true t e = (refl, e)
both_of false t e = absurd (let no : ◌≡◌ {A = Bool} false true = e in cc)

not_so : (t : Bool) → not t ≡ true → t ≡ false
not_so true e = absurd (let no : ◌≡◌ {A = Bool} false true = e in cc)
not_so false e = refl

-- WHAT A PLAYER HOLDS IS VALID, where none of it is refused

abbrev Check : Type 0
Check = ℕ → List ℕ → ℕ → Result (Unit {0}) DealingError

abbrev Passes : Check → List (ℕ × (List ℕ × ℕ)) → ℕ → Type 0
Passes check held dealer = IfSome (lookup dealer held) (λ d. check dealer d.0 d.1 ≡ Ok tt)

same_key : (n m : ℕ) → (n == m) ≡ true → n ≡ m
same_key n m e = grind (arith, nat_tests)

module _ (check : Check) where
  one_passes : (p : Pair) (later : Option ℕ) (answer : Result (Unit {0}) DealingError) → check p.0.1 p.1.0 p.1.1 ≡ answer → refused_or answer p.0.1 later ≡ None
      → (check p.0.1 p.1.0 p.1.1 ≡ Ok tt) × (later ≡ None)
  one_passes p later (Ok passed) is none = (is, none)
  one_passes p later (Err e) is none = absurd (none_apart p.0.1 (sym none))

  by_key : (p : Pair) (dealer : ℕ) (held : List (ℕ × (List ℕ × ℕ))) (t : Bool) → (p.0.1 == dealer) ≡ t → check p.0.1 p.1.0 p.1.1 ≡ Ok tt → Passes check held dealer
      → IfSome (if t then Some p.1 else lookup dealer held) (λ d. check dealer d.0 d.1 ≡ Ok tt)
  by_key p dealer held true is passes more = subst (λ (n : ℕ). check n p.1.0 p.1.1 ≡ Ok tt) (same_key p.0.1 dealer is) passes
  by_key p dealer held false is passes more = more

  all_pass : (ps : List Pair) → first_refused check ps ≡ None → (dealer : ℕ) → Passes check (map (λ (r : Pair). (r.0.1, r.1)) ps) dealer
  all_pass [] none dealer = tt
  all_pass (p ∷ ps) none dealer =
      let both = one_passes p (first_refused check ps) (check p.0.1 p.1.0 p.1.1) refl none in
      by_key p dealer (map (λ (r : Pair). (r.0.1, r.1)) ps) (p.0.1 == dealer) refl both.0 (all_pass ps both.1 dealer)

-- WHAT THIS NODE ITSELF FINDS

output_of : (o : Option Output) → option_map (λ (v : Verified). v.output) (of_output o) ≡ o
output_of None = refl
output_of (Some output) = refl

module _ {Dir : Type 0} (c : Fixed Dir) (finishing : IsFinishing c) (round : Round) (logs : LogMap) (st : Live Dir) (passes : can_finish c round logs st ≡ true → refused_in c round st ≡ None) where
  abbrev dealings : DealingMap
  dealings = records_of_epoch round.number st.records.dealings

  abbrev player : Bool → Option Dealings
  player plays = if plays then Some (record { me = c.me; dealings = dealings }) else None

  abbrev Found : Bool → Type 0
  Found plays = IsResultOf c round plays (record { round = round; me = option_map (λ (p : Dealings). p.me) (player plays); logs = logs; result = result_by c round (player plays) logs })

  module _ (can : can_finish c round logs st ≡ true) where
    parts : (has round.players c.me ≡ true) × (is_lost c round dealings logs ≡ false)
    parts = let both = both_of (has round.players c.me) (not (is_lost c round dealings logs)) can in (both.0, not_so (is_lost c round dealings logs) both.1)

    abbrev by_player : Result (Option (Output × ℕ)) FinishError → VerifiedLogs
    by_player answer = record { round = round; me = Some c.me; logs = logs; result = of_player answer }

    of_found : (found : Option (Output × ℕ)) → c.rules.finish_of round c.me dealings logs ≡ Ok found → option_map (λ f. f.0) found ≡ c.rules.outcome_of round logs → IsResultOf c round true (by_player (Ok found))
    of_found None is agrees = record { me_is = refl; outcome = agrees; shared = λ v e. absurd (none_apart v e); fits = λ v share e at. absurd (none_apart v e) }
    of_found (Some found) is agrees = record {
      me_is = refl;
      outcome = agrees;
      shared = λ v e. subst (λ (x : Verified). is_some x.share ≡ true) (some_is its v e) refl;
      fits = λ v share e at. subst (λ (x : Verified). c.rules.partial_public_of x.output c.me ≡ Some (c.rules.share_public_of share)) (some_is its v e)
          (subst (λ (n : ℕ). c.rules.partial_public_of found.0 c.me ≡ Some (c.rules.share_public_of n)) (some_is found.1 share (subst (λ (x : Verified). x.share ≡ Some share) (sym (some_is its v e)) at))
          (finishing.fits round dealings logs found.0 found.1 parts.0 (all_pass (λ dealer public private. c.rules.dealing_of round c.me dealer public private) (pairs_of st round.number) (passes can)) is));
    }
      where
        its : Verified
        its = record { output = found.0; share = Some found.1 }

    plays : Found true
    plays =
        let found = finishing.finishes round dealings logs parts.1 in
        subst (λ (answer : Result (Option (Output × ℕ)) FinishError). IsResultOf c round true (by_player answer)) (sym found.1) (of_found found.0 found.1 found.2)

  watches : Found false
  watches = by_outcome (c.rules.outcome_of round logs) refl
    where
      by_outcome : (o : Option Output) → c.rules.outcome_of round logs ≡ o → IsResultOf c round false (record { round = round; me = None; logs = logs; result = of_output (c.rules.outcome_of round logs) })
      by_outcome o is = record {
        me_is = refl;
        outcome = output_of (c.rules.outcome_of round logs);
        shared = λ v e. ap (λ (share : Option ℕ). is_some share) (no_share o v (sym (ap of_output is) ∙ e));
        fits = λ v share e at. absurd (none_apart share (sym (no_share o v (sym (ap of_output is) ∙ e)) ∙ at));
      }
        where
          no_share : (o : Option Output) (v : Verified) → of_output o ≡ Some v → v.share ≡ None
          no_share None v e = absurd (none_apart v e)
          no_share (Some output) v e = subst (λ (x : Verified). x.share ≡ None) (some_is (record { output = output; share = None }) v e) refl

  found : Found (can_finish c round logs st)
  found = either (can_finish c round logs st) refl
    where
      either : (t : Bool) → can_finish c round logs st ≡ t → Found t
      either true is = plays is
      either false is = watches

-- .. of a job
pub verified_is : {Dir : Type 0} (c : Fixed Dir) (finishing : IsFinishing c) (round : Round) (st : Live Dir) (job : Job) → IsJobIn c round st job → IsResultIn c round st (verified c job)
verified_is c finishing round st job its = subst (λ (x : Job). IsResultIn c round st (verified c x)) (sym its.0) (found c finishing round job.logs st its.1)

-- WHOEVER FOUND IT

-- what is handed in is of a job
abbrev pub IsHanded : {Dir : Type 0} → Fixed Dir → Option VerifiedLogs → Live Dir → Type 0
IsHanded c handed st = (r : VerifiedLogs) → handed ≡ Some r → (job : Job) → st.inclusion.running ≡ Some job → is_of_job r job ≡ true → InRound st (λ round. IsResultIn c round st r)

pub result_is : {Dir : Type 0} (c : Fixed Dir) (finishing : IsFinishing c) (round : Round) (st : Live Dir) (records_of_epoch : st.participation.round ≡ Some round) (job : Job) (handed : Option VerifiedLogs)
    → IsJobIn c round st job → st.inclusion.running ≡ Some job → IsHanded c handed st → IsResultIn c round st (job_result_of c handed job)
result_is c finishing round st records_of_epoch job None its runs taken = verified_is c finishing round st job its
result_is c finishing round st records_of_epoch job (Some r) its runs taken = either (is_of_job r job) refl
  where
    either : (t : Bool) → is_of_job r job ≡ t → IsResultIn c round st (if t then r else verified c job)
    either true is = of_round st (λ x. IsResultIn c x st r) round records_of_epoch (taken r refl job runs is)
    either false is = verified_is c finishing round st job its

-- THE END OF A VERIFICATION

deals_apart : ◌≡◌ {A = Stage} Deals Includes → ⊥
deals_apart e = cc

follows_apart : ◌≡◌ {A = Stage} Follows Includes → ⊥
follows_apart e = cc

ends_apart : ◌≡◌ {A = Stage} Ends Includes → ⊥
ends_apart e = cc

-- a verification runs while including alone
pub runs_including : {Dir : Type 0} (c : Fixed Dir) (stored : OfShares) (st : Live Dir) (job : Job) → HasAsked c stored st → st.inclusion.running ≡ Some job → st.participation.stage ≡ Includes
runs_including {Dir} c stored st job has runs = either st.participation.stage refl
  where
    never : (stage : Stage) → st.participation.stage ≡ stage → (stage ≡ Includes → ⊥) → st.participation.stage ≡ Includes
    never stage is apart = absurd (none_apart job (sym (has.early (λ includes. apart (sym is ∙ includes))).0 ∙ runs))

    either : (stage : Stage) → st.participation.stage ≡ stage → st.participation.stage ≡ Includes
    either Deals is = never Deals is deals_apart
    either Includes is = is
    either Follows is = never Follows is follows_apart
    either Ends is = never Ends is ends_apart

-- No verification runs. Beside it, what was found and what is told nothing has changed.
pub record IsEndedIn {Dir : Type 0} (c : Fixed Dir) (stored : OfShares) (st end : Live Dir) : Type 0 where
  pub has : HasAsked c stored end
  pub same : end ≡ with_inclusion end.inclusion st
  pub idle : end.inclusion.running ≡ None
  pub queue : end.inclusion.queue ≡ st.inclusion.queue
  pub served : end.inclusion.served ≡ st.inclusion.served
  pub used : end.inclusion.used ≡ st.inclusion.used

module _ {Dir : Type 0} (c : Fixed Dir) (stored : OfShares) (st : Live Dir) (devices : Option Held) (form : IsForm c) (finishing : IsFinishing c) (reads : ReadsShare c stored devices)
    (informed : IsInformed c st) (has : HasAsked c stored st) where
  abbrev Stop : Fault → Type 0
  Stop = IsAskStop c st

  abbrev To : Live Dir → Option Held → Type 0
  To end left = (left ≡ devices) × IsEndedIn c stored st end

  module _ (round : Round) (records_of_epoch : st.participation.round ≡ Some round) (includes : st.participation.stage ≡ Includes) (r : VerifiedLogs) (its : IsResultIn c round st r) where
    known : (info : EpochInfo Dir) × (st.participation.current ≡ Some info)
    known =
        let its = some_of (λ (info : EpochInfo Dir). (info.epoch ≡ st.participation.epoch) × (validity c info ≡ Ok tt) × (round_for c st.participation.epoch info ≡ Ok round))
        st.participation.current (informed round records_of_epoch) in
        (its.0, its.1)

    -- retained, in a life with this inclusion
    pub retained : (i : Inclusion Dir) → HasAsked c stored (with_inclusion i st) → i.queue ≡ st.inclusion.queue → i.served ≡ st.inclusion.served → i.used ≡ st.inclusion.used
        → IsEndedIn c stored st (retains c r (with_inclusion i st))
    retained i kept queue served used = either (is_some (retained_for i.retained (canonical c st)) && not (same_logs r.logs (canonical c st)))
      where
        either : (stays : Bool) → IsEndedIn c stored st (with_inclusion (record i { running = None; waiter = None; retained = if stays then i.retained else Some r }) st)
        either true = record {
          has = included c stored st (record i { running = None; waiter = None }) includes (λ none. refl) (λ job e. absurd (none_apart job e)) kept.kept kept.made;
          same = refl;
          idle = refl;
          queue = queue;
          served = served;
          used = used;
        }
        either false = record {
          has = included c stored st (record i { running = None; waiter = None; retained = Some r }) includes (λ none. refl) (λ job e. absurd (none_apart job e))
              (λ other e. subst (λ (x : VerifiedLogs). InRound st (λ round. IsResultIn c round st x)) (some_is r other e) (round, records_of_epoch, its)) kept.made;
          same = refl;
          idle = refl;
          queue = queue;
          served = served;
          used = used;
        }

    answered : (request : ℕ) (made : Artifact Dir) (here : Live Dir) → IsMadeIn c stored round known.0 st r.logs made here → IsEndedIn c stored st (retains c r (with_told request (GaveInfo (option_map info_payload made.info)) here))
    answered request made here at =
        let answer : RequestAnswer Dir = GaveInfo (option_map info_payload made.info) in
        let now : Inclusion Dir = record st.inclusion { cached = here.inclusion.cached; told = (request, answer) ∷ st.inclusion.told } in
        subst (λ (x : Live Dir). IsEndedIn c stored st (retains c r (with_told request answer x))) (sym at.same)
        (retained now (included c stored st now includes has.waits has.runs has.kept (λ d e. (round, known.0, records_of_epoch, known.1, at.all d e))) refl refl refl)

    completed : (waiter : Option ℕ) → ComesOver Stop To (inc.completes_in c r st waiter) devices
    completed None = (refl, retained st.inclusion has refl refl refl)
    completed (Some request) =
        artifacts_lead c stored round known.0 r st (λ made here. bind (inc.answers_request c request made here) (λ now. Goes (retains c r now))) devices Stop To form reads has records_of_epoch known.1 its
        (λ fault stop. (round, known.0, records_of_epoch, known.1, stop)) (λ made here at. (refl, answered request made here at))

  ends_by : (handed : Option VerifiedLogs) → IsHanded c handed st → (running : Option Job) → st.inclusion.running ≡ running → ComesOver Stop To (inc.ends_verifying_in c handed st running) devices
  ends_by handed taken None none = (refl, record { has = has; same = refl; idle = none; queue = refl; served = refl; used = refl })
  ends_by handed taken (Some job) runs =
      let its = has.runs job runs in
      completed its.0 its.1 (runs_including c stored st job has runs) (job_result_of c handed job) (result_is c finishing its.0 st its.1 job handed its.2 runs taken) st.inclusion.waiter

  pub verifying_ends : (handed : Option VerifiedLogs) → IsHanded c handed st → ComesOver Stop To (inc.ends_verifying c handed st) devices
  verifying_ends handed taken = ends_by handed taken st.inclusion.running refl
