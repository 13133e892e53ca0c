-- What an epoch's last block leaves of a life that includes: the artifact of the canonical logs is found, and by it the carried info is taken over.
use Rattle.std.proofs.Common.{◌≡◌, ◌⊎◌, inl, inr, ℕ, Bool, true, false, Option, Some, None, refl, sym, ◌∙◌, ap, subst}
use Rattle.std.specs.Prelude.{if◌then◌else◌, Ok}
use Rattle.dkg_ceremony.specs.declared.round.RoundParts.{RoundParts as Round}
use Rattle.dkg_ceremony.specs.Outcomes.{LogMap}
use Rattle.dkg_types.specs.Blocks.{Block}
use Rattle.dkg_infos.specs.declared.fault.Fault.{Fault}
use Rattle.dkg_infos.specs.declared.info.EpochInfo.{EpochInfo}
use Rattle.dkg_store.specs.Acts.{Held}
use Rattle.dkg_core.specs.Courses.{Course, bind}
use Rattle.dkg_core.specs.Fixed.{Fixed}
use Rattle.dkg_core.specs.Live.{Live, Stage, Includes, Inclusion, Job, VerifiedLogs, Artifact, is_last_height, with_inclusion}
use Rattle.dkg_core.specs.Logs.{canonical}
use Rattle.dkg_core.specs.Same.{same_logs}
use Rattle.dkg_core.specs.Setup.{refused_in}
use Rattle.dkg_core.specs.Including as inc
use Rattle.dkg_core.specs.Including.{can_finish, job_for, verified, cached_for, retained_for, retains}
use Rattle.dkg_core.specs.Blocks as b
use Rattle.dkg_core.specs.Endings.{validity}
use Rattle.dkg_core.specs.Forms.{ComesOver, round_for}
use Rattle.dkg_core.specs.Asked.{OfShares, ReadsShare, IsArtifactIn, IsResultIn, IsJobIn, HasAsked, IsAskStop, IsMadeIn}
use Rattle.dkg_core.specs.Through.{IsFormThrough, IsLiveThrough, IsShareTaken}
use Rattle.dkg_core.proofs.Advancing.{included, of_round, some_of, retained_is, both_found, none_found}
use Rattle.dkg_core.proofs.Artifacts.{artifacts_lead, cached_is}
use Rattle.dkg_core.proofs.Counting.{some_is}
use Rattle.dkg_core.proofs.Passing as passing
use Rattle.dkg_core.proofs.Same.{one_logs}
use Rattle.dkg_core.proofs.Setups.{over_as, over_behind}
use Rattle.dkg_core.proofs.Verifying as verifying
use Rattle.dkg_core.proofs.Verifying.{IsEndedIn, verified_is, verifying_ends}

none_apart : {A : Type 0} (a : A) → ◌≡◌ {A = Option A} None (Some a) → ⊥
none_apart a e = cc

-- a result that is retained for some logs is of these
pub retained_logs : (retained : Option VerifiedLogs) (logs : LogMap) (r : VerifiedLogs) → retained_for retained logs ≡ Some r → r.logs ≡ logs
retained_logs None logs r e = absurd (none_apart r e)
retained_logs (Some its) logs r e = either (same_logs its.logs logs) refl e
  where
    either : (t : Bool) → same_logs its.logs logs ≡ t → (if t then Some its else None) ≡ Some r → r.logs ≡ logs
    either true is e = sym (ap (λ (x : VerifiedLogs). x.logs) (some_is its r e)) ∙ one_logs its.logs logs is
    either false is e = absurd (none_apart r e)

module _ {Dir : Type 0} (c : Fixed Dir) (form : IsFormThrough c) (stored : OfShares) (block : Block Dir) (last : is_last_height c block.height ≡ true) (st : Live Dir) (live : IsLiveThrough c stored st)
    (includes : st.participation.stage ≡ Includes) (round : Round) (of_epoch : st.participation.round ≡ Some round) (devices : Option Held) (reads : ReadsShare c stored devices) where
  abbrev pub FinalStop : Fault → Type 0
  FinalStop fault = IsAskStop c st fault ⊎ passing.PassingStop c form.form stored block last st devices fault

  abbrev pub FinalTo : Live Dir → Option Held → Type 0
  FinalTo = passing.PassedTo c form.form stored block last st devices

  abbrev logs : LogMap
  logs = canonical c st

  known : (info : EpochInfo Dir) × (st.participation.current ≡ Some info)
  known =
      let its = some_of (λ (info : EpochInfo Dir). (info.epoch ≡ st.participation.epoch) × (validity c info ≡ Ok tt) × (round_for c st.participation.epoch info ≡ Ok round))
      st.participation.current (live.informed round of_epoch) in
      (its.0, its.1)

  abbrev with : Inclusion Dir → Live Dir
  with i = with_inclusion i st

  abbrev IsArtifact : LogMap → Artifact Dir → Type 0
  IsArtifact of made = IsArtifactIn c stored round known.0 st of made

  -- by the artifact of the canonical logs
  concluded : (made : Artifact Dir) (i : Inclusion Dir) → i.used ≡ st.inclusion.used → i.queue ≡ st.inclusion.queue → IsArtifact logs made → ComesOver FinalStop FinalTo (b.concludes c block made (with i)) devices
  concluded made i used queue is =
      over_as (passing.PassingStop c form.form stored block last st devices) FinalStop FinalTo FinalTo (b.concludes c block made (with i)) devices (λ fault stop. inr stop) (λ end left its. its)
      (passing.concludes c form.form stored block last st devices made i used queue
      (λ info h. subst (λ (stage : Stage). IsShareTaken c stored st h info (b.share_for c info made) stage) (sym includes) (round, known.0, of_epoch, known.1, (made, is, refl))))

  -- .. of a result
  by_result : (r : VerifiedLogs) (i : Inclusion Dir) → i.used ≡ st.inclusion.used → i.queue ≡ st.inclusion.queue → HasAsked c stored (with i) → r.logs ≡ logs → IsResultIn c round st r
      → ComesOver FinalStop FinalTo (inc.artifact c r (with i) (b.concludes c block)) devices
  by_result r i used queue has are its =
      artifacts_lead c stored round known.0 r (with i) (b.concludes c block) devices FinalStop FinalTo form.form reads has of_epoch known.1 its
      (λ fault stop. inl (round, known.0, of_epoch, known.1, stop)) (λ made here at. by_made made here at)
    where
      by_made : (made : Artifact Dir) (here : Live Dir) → IsMadeIn c stored round known.0 (with i) r.logs made here → ComesOver FinalStop FinalTo (b.concludes c block made here) devices
      by_made made here at =
          subst (λ (x : Live Dir). ComesOver FinalStop FinalTo (b.concludes c block made x) devices) (sym at.same)
          (concluded made (record i { cached = here.inclusion.cached }) used queue (subst (λ (l : LogMap). IsArtifact l made) are at.artifact))

  -- a verification that starts and ends now
  verifies : (i : Inclusion Dir) → i.used ≡ st.inclusion.used → i.queue ≡ st.inclusion.queue → HasAsked c stored (with i) → (refused : Option ℕ)
      → (if can_finish c round logs (with i) then refused_in c round (with i) else None) ≡ refused
      → ComesOver FinalStop FinalTo (bind (inc.starts_unless (job_for c round logs (with i)) None refused (with i))
      (λ now. inc.artifact c (verified c (job_for c round logs (with i))) (retains c (verified c (job_for c round logs (with i))) now) (b.concludes c block))) devices
  verifies i used queue has (Some who) is =
      let both = both_found (can_finish c round logs (with i)) (refused_in c round (with i)) who is in
      inl (round, known.0, of_epoch, known.1, (refl, (logs, both.0), both.1))
  verifies i used queue has None is =
      let job : Job = job_for c round logs (with i) in
      let its : IsJobIn c round st job = (refl, none_found (can_finish c round logs (with i)) (refused_in c round (with i)) is) in
      let found = verified c job in
      let result = verified_is c form.finishing round st job its in
      let begun : Inclusion Dir = record i { running = Some job; waiter = None } in
      let started = included c stored st begun includes (λ none. refl) (λ other e. (round, of_epoch, subst (λ (x : Job). IsJobIn c round st x) (some_is job other e) its)) has.kept has.made in
      let ended = verifying.retained c stored (with begun) devices form.form form.finishing reads live.informed started round of_epoch includes found result begun started refl refl refl in
      by_result found (retains c found (with begun)).inclusion (ended.used ∙ used) (ended.queue ∙ queue) ended.has refl result

  derived : (i : Inclusion Dir) → i.used ≡ st.inclusion.used → i.queue ≡ st.inclusion.queue → HasAsked c stored (with i) → (retained : Option VerifiedLogs) → retained_for i.retained logs ≡ retained
      → ComesOver FinalStop FinalTo (b.derives_at_block c round block logs retained (with i)) devices
  derived i used queue has (Some r) is =
      by_result r i used queue has (retained_logs i.retained logs r is) (of_round st (λ x. IsResultIn c x st r) round of_epoch (has.kept r (retained_is i.retained logs r is)))
  derived i used queue has None is = verifies i used queue has (if can_finish c round logs (with i) then refused_in c round (with i) else None) refl

  -- behind the verification that ran
  concludes_by : (i : Inclusion Dir) → i.used ≡ st.inclusion.used → i.queue ≡ st.inclusion.queue → HasAsked c stored (with i) → (before now : Option (Artifact Dir)) → cached_for st.inclusion.cached logs ≡ before → cached_for i.cached logs ≡ now
      → ComesOver FinalStop FinalTo (b.concludes_by c round block logs before now (with i)) devices
  concludes_by i used queue has (Some made) now is at = concluded made i used queue (cached_is c stored round known.0 st live.asked.has of_epoch known.1 logs made is)
  concludes_by i used queue has None (Some made) is at = concluded made i used queue (cached_is c stored round known.0 (with i) has of_epoch known.1 logs made at)
  concludes_by i used queue has None None is at = derived i used queue has (retained_for i.retained logs) refl

  pub final_comes : ComesOver FinalStop FinalTo (b.final_block c round block st) devices
  final_comes =
      let next : Live Dir → Course Dir Fault (Live Dir) = λ now. b.concludes_by c round block logs (cached_for st.inclusion.cached logs) (cached_for now.inclusion.cached logs) now in
      over_behind FinalStop (λ end left. (left ≡ devices) × IsEndedIn c stored st end) FinalTo (inc.ends_verifying c None st) next devices
      (over_as (IsAskStop c st) FinalStop (λ end left. (left ≡ devices) × IsEndedIn c stored st end) (λ end left. (left ≡ devices) × IsEndedIn c stored st end) (inc.ends_verifying c None st) devices
      (λ fault stop. inl stop) (λ end left its. its)
      (verifying_ends c stored st devices form.form form.finishing reads live.informed live.asked.has None (λ r e. absurd (none_apart r e))))
      (λ end left its. subst (λ (l : Option Held). ComesOver FinalStop FinalTo (next end) l) (sym its.0) (behind end its.1))
    where
      behind : (end : Live Dir) → IsEndedIn c stored st end
          → ComesOver FinalStop FinalTo (b.concludes_by c round block logs (cached_for st.inclusion.cached logs) (cached_for end.inclusion.cached logs) end) devices
      behind end its =
          subst (λ (x : Live Dir). ComesOver FinalStop FinalTo (b.concludes_by c round block logs (cached_for st.inclusion.cached logs) (cached_for x.inclusion.cached logs) x) devices) (sym its.same)
          (concludes_by end.inclusion its.used its.queue (subst (HasAsked c stored) its.same its.has) (cached_for st.inclusion.cached logs) (cached_for end.inclusion.cached logs) refl refl)
