-- The artifact of an epoch's last block: its parts, one behind another.
use Rattle.std.proofs.Common.{◌≡◌, inl, inr, ℕ, Bool, true, false, List, Option, Some, None, refl, sym, ◌∙◌, ap, subst}
use Rattle.std.specs.Prelude.{◌⊎◌, IfSome, IsSome, IsSomeAnd, is_some, if◌then◌else◌, option_map}
use Rattle.std.specs.Option.{option_map_or}
use Rattle.dkg_ceremony.specs.Outcomes.{LogMap}
use Rattle.dkg_ceremony.specs.declared.round.RoundParts.{RoundParts as Round}
use Rattle.dkg_journal.specs.Burn.{Burn}
use Rattle.dkg_journal.specs.Names.{Files}
use Rattle.dkg_secrets.specs.Secrets.{Secrets}
use Rattle.dkg_artifact.specs.Results.{Checked, checked}
use Rattle.dkg_artifact.specs.declared.artifact.Artifact as artifact
use Rattle.dkg_artifact.specs.declared.job.Job as job
use Rattle.dkg_infos.specs.declared.entry.Entry.{Entry}
use Rattle.dkg_infos.specs.declared.fault.Fault.{Fault}
use Rattle.dkg_infos.specs.declared.fault.Fault.TheVariants.{HeightRange, LocalState, NoMemory}
use Rattle.dkg_infos.specs.declared.fault.LocalCause.TheVariants.{StoredDealing}
use Rattle.dkg_infos.specs.declared.info.EpochInfo.{EpochInfo}
use Rattle.dkg_store.specs.Acts.{Ended, Moment, by_want, moment, went}
use Rattle.dkg_store.specs.Recorded.{at_epoch, reached_logs}
use Rattle.dkg_core.specs.Courses.{Course, Goes, Stops, bind, on_devices}
use Rattle.dkg_core.specs.Fixed.{Fixed}
use Rattle.dkg_core.specs.Including as including
use Rattle.dkg_core.specs.Live as core
use Rattle.dkg_core.specs.Live.{Live}
use Rattle.dkg_core.specs.Logs.{canonical}
use Rattle.dkg_core.specs.Same.{same_logs}
use Rattle.dkg_core.proofs.Same.{logs_again}
use Rattle.dkg_fence.specs.Readiness.{Readiness}
use Rattle.dkg_ceremony.specs.Schedule.{midpoint}
use Rattle.dkg_verifying.specs.Concluded.{FindsBy, canonical_in, derives_kept, sees_verified, sees_verified_by, takes_cached, verifies}
use Rattle.dkg_life.specs.Ends.{by_stop}
use Rattle.dkg_verifying.specs.Including.{artifact_in, artifact_over, derives_by, derives_by_in, derives_final, derives_in, derives_now, derives_now_by, with_cached_in}
use Rattle.dkg_verifying.specs.InclusionOf.{IsInHand, IsReadyInclusion, IsRunnable, artifact_of, cached_of, job_of, checked_result_of}
use Rattle.dkg_life.specs.LiveOf.{Beside, IsPlaced, live_of}
use Rattle.dkg_life.specs.Made.{MakesAt, Speaks, Tells}
use Rattle.dkg_life.specs.Rules.{AckOf, BearsAckOf, CheckAckOf, CheckLogOf, DealOf, DealingOf, FinishOf, IncludesBy, IsRuledBy, OutcomeOf, PartialPublicOf, RoundOf, SameProvided, SharePublicOf, SignLogOf}
use Rattle.dkg_verifying.specs.Refusing.{refusal_for}
use Rattle.dkg_verifying.specs.declared.inclusion.Hand.{Hand}
use Rattle.dkg_verifying.specs.declared.inclusion.Inclusion.{Inclusion}
use Rattle.dkg_life.specs.declared.life.Life.{Life}
use Rattle.dkg_life.specs.declared.life.Stage.{Stage}
use Rattle.dkg_life.specs.declared.life.Stage.TheVariants.{Following, Including}
use Rattle.dkg_life.specs.declared.stop.Stop.{Stop}
use Rattle.dkg_life.specs.declared.stop.Stop.TheVariants.{Fault as Faulted}
use Rattle.dkg_setup.proofs.OpeningCourses.{makes_as, tells_as}
use Rattle.dkg_life.proofs.Burning.{makes_none, makes_nothing, speaks_makes}
use Rattle.dkg_life.proofs.Chained.{early_makes, early_told, then_makes, then_told}
use Rattle.dkg_life.proofs.Committing.{goes_told}
use Rattle.dkg_verifying.proofs.Deriving.{artifact_is}
use Rattle.dkg_verifying.proofs.Keeping.{keeps_canonical, kept_none, kept_some, verified_is}
use Rattle.dkg_life.proofs.Offered.{bind_again, bind_alike}
use Rattle.dkg_life.proofs.Said.{speaks_tells}
use Rattle.dkg_life.proofs.Speaking.{goes_speaks, gives_speaks, wants_speaks}

-- the canonical logs, in memory and in the relation
pub canonical_is : {Dir : Type 0} (c : Fixed Dir) (beside : Beside Dir) (fence : Readiness) (life : Life Dir) → midpoint c.blocks_per_epoch life.epoch ≡ life.midpoint
    → canonical_in life ≡ canonical c (live_of beside fence life)
canonical_is c beside fence life middle = ap (λ (m : ℕ). reached_logs m (option_map (λ t. t.height) life.tip) (at_epoch life.epoch life.store.logs)) (sym middle)

-- A VERIFICATION WITHIN THE STEP

module _ {Dir : Type 0} (c : Fixed Dir) (round : Round) (logs : LogMap) (st : Live Dir) where
  abbrev pub its_found : core.VerifiedLogs
  its_found = including.verified c (including.job_for c round logs st)

  abbrev pub found_live : Live Dir
  found_live = including.retains c its_found (including.verifying (including.job_for c round logs st) None st)

  pub verifies_well : refusal_for c round logs st ≡ None → verifies c round logs st ≡ Goes found_live
  verifies_well passes =
      ap (λ (o : Option ℕ). bind (including.starts_unless (including.job_for c round logs st) None o st) (λ s. Goes (including.retains c its_found s))) passes

  pub verifies_ill : (refused : ℕ) → refusal_for c round logs st ≡ Some refused → verifies c round logs st ≡ Stops (LocalState (StoredDealing round.number refused))
  verifies_ill refused is =
      ap (λ (o : Option ℕ). bind (including.starts_unless (including.job_for c round logs st) None o st) (λ s. Goes (including.retains c its_found s)))
      is

  -- what is retained for these logs then, where they are the canonical ones
  pub found_kept : logs ≡ canonical c st → found_live.inclusion.retained ≡ Some its_found
  found_kept same = keeps_canonical its_found st.inclusion.retained (canonical c st) same

  -- The artifact is derived by it.
  pub derives_as : (retained : Option core.VerifiedLogs) → including.retained_for st.inclusion.retained logs ≡ retained → logs ≡ canonical c st
      → derives_now_by c round logs retained st ≡ bind (sees_verified_by c round logs retained st) (derives_kept c)
  derives_as (Some r) is same = sym (ap (λ (o : Option core.VerifiedLogs). option_map_or (λ r. artifact_in c r st) o (Stops HeightRange)) (retained_some st.inclusion.retained r is))
    where
      by_test : (k r : core.VerifiedLogs) (b : Bool) → ◌≡◌ {A = Option core.VerifiedLogs} (if b then Some k else None) (Some r) → ◌≡◌ {A = Option core.VerifiedLogs} (Some k) (Some r)
      by_test k r true is = is
      by_test k r false is = absurd cc

      retained_some : (o : Option core.VerifiedLogs) (r : core.VerifiedLogs) → including.retained_for o logs ≡ Some r → o ≡ Some r
      retained_some None r is = absurd cc
      retained_some (Some k) r is = by_test k r (same_logs k.logs logs) is
  derives_as None is same =
      by_refusal (refusal_for c round logs st)
    where
      kept_goes : artifact_in c its_found found_live ≡ derives_kept c found_live
      kept_goes = ap (λ (o : Option core.VerifiedLogs). option_map_or (λ r. artifact_in c r found_live) o (Stops HeightRange)) (sym (found_kept same))

      by_refusal : (o : Option ℕ) → bind (including.starts_unless (including.job_for c round logs st) None o st) (λ s. artifact_in c its_found (including.retains c its_found s))
          ≡ bind (bind (including.starts_unless (including.job_for c round logs st) None o st) (λ s. Goes (including.retains c its_found s))) (derives_kept c)
      by_refusal None = kept_goes
      by_refusal (Some refused) = refl

  pub derives_now_is : logs ≡ canonical c st → derives_now c round logs st ≡ bind (sees_verified c round logs st) (derives_kept c)
  derives_now_is same = derives_as (including.retained_for st.inclusion.retained logs) refl same

-- AN ARTIFACT is seen to first, and then it is the one that is cached.

module _ {Dir : Type 0} (c : Fixed Dir) (reshare : c.oneshot ≡ None) (r : core.VerifiedLogs) (st : Live Dir) where
  abbrev pub sees_artifact : Course Dir Fault (Live Dir)
  sees_artifact = including.artifact c r st (λ made s. Goes s)

  by_made : (made : core.Artifact Dir) (s : Live Dir) → including.cached_for s.inclusion.cached r.logs ≡ Some made → ◌≡◌ {A = Course Dir Fault (core.Artifact Dir × Live Dir)} (Goes (made, s)) (takes_cached r.logs s)
  by_made made s is = ap (λ (o : Option (core.Artifact Dir)). option_map_or (λ a. Goes (a, s)) o (Stops HeightRange)) (sym is)

  cached_now : (made : core.Artifact Dir) → including.cached_for (including.with_cached r.logs made st).inclusion.cached r.logs ≡ Some made
  cached_now made = ap (λ (b : Bool). if b then Some made else None) (logs_again r.logs)

  over_kept : (cached : Option (core.Artifact Dir)) → including.cached_for st.inclusion.cached r.logs ≡ cached → (current : Option (EpochInfo Dir))
      → artifact_over c r st cached current ≡ bind (bind (artifact_over c r st cached current) (λ it. Goes it.1)) (takes_cached r.logs)
  over_kept (Some made) is current = by_made made st is
  over_kept None is None = refl
  over_kept None is (Some info) =
      bind_alike (derives_in c info r) (with_cached_in r.logs st) (λ made. takes_cached r.logs (including.with_cached r.logs made st)) (λ made. by_made made (including.with_cached r.logs made st) (cached_now made))
      ∙ sym (bind_again (derives_in c info r) (λ made. bind (with_cached_in r.logs st made) (λ it. Goes it.1)) (takes_cached r.logs))
      ∙ ap (λ (x : Course Dir Fault (Live Dir)). bind x (takes_cached r.logs)) (sym (bind_again (derives_in c info r) (with_cached_in r.logs st) (λ it. Goes it.1)))

  pub artifact_taken : artifact_in c r st ≡ bind sees_artifact (takes_cached r.logs)
  artifact_taken =
      over_kept (including.cached_for st.inclusion.cached r.logs) refl st.participation.current
      ∙ ap (λ (x : Course Dir Fault (Live Dir)). bind x (takes_cached r.logs)) (sym (artifact_is c reshare r st (λ made s. Goes s)))

-- MADE AND SAID

-- what is taken of the cache
module _ {Dir : Type 0} (logs : LogMap) (st : Live Dir) where
  pub taken_as : (made : core.Artifact Dir) → Some made ≡ including.cached_for st.inclusion.cached logs → takes_cached logs st ≡ Goes (made, st)
  taken_as made is = ap (λ (o : Option (core.Artifact Dir)). let its : Course Dir Fault (core.Artifact Dir × Live Dir) = option_map_or (λ a. Goes (a, st)) o (Stops HeightRange) in its) (sym is)

-- a course that goes on at once, or finds no memory
module _ {Dir S : Type 0} (course : Course Dir Fault S) where
  pub goes_makes : (end : S) → course ≡ Goes end → (files : Files) (image : Files → Type 0) (m : Moment) → MakesAt (on_devices course) (went end) files image files image m m
  goes_makes end is files image m = makes_as is (went end) (makes_nothing files image m refl)

  pub goes_tells : (end : S) → course ≡ Goes end → (out : List Entry) → Tells course (went end) out out
  goes_tells end is out = tells_as is (went end) (goes_told Dir end out)

  pub wants_makes : (stop : Stop) → stop ≡ Faulted NoMemory → (files : Files) (image : Files → Type 0) (m : Moment) → MakesAt (on_devices course) (by_stop stop) files image files image m m
  wants_makes stop is files image m = makes_none files image (on_devices course) m by_want tt (ap (λ (its : Stop). by_stop {S = S} its) is)

-- A RESULT IS FOUND OR KEPT

module _ {Dir : Type 0} (c : Fixed Dir) (round : Round) (logs : LogMap) (st : Live Dir) where
  -- it is found, and kept
  pub verified_speaks : refusal_for c round logs st ≡ None → (end : Live Dir) → end ≡ found_live c round logs st → (out : List Entry) → Speaks (verifies c round logs st) (went end) out out
  verified_speaks passes end is out = goes_speaks (verifies c round logs st) end (found_live c round logs st) (verifies_well c round logs st passes) is out

  -- .. or no job is made
  pub unmade_speaks : (stop : Stop) → (stop ≡ Faulted NoMemory) ⊎ ((refused : ℕ) × (stop ≡ Faulted (LocalState (StoredDealing round.number refused))) × (refusal_for c round logs st ≡ Some refused)) → (out : List Entry)
      → Speaks (verifies c round logs st) (by_stop stop) out out
  unmade_speaks stop (inl want) out = wants_speaks (verifies c round logs st) stop want out out refl
  unmade_speaks stop (inr is) out =
      gives_speaks (verifies c round logs st) stop (LocalState (StoredDealing round.number is.0)) is.1 (verifies_ill c round logs st is.0 is.2) refl out

  -- The result for these logs is kept already, ..
  pub sees_kept : (kept : Option Checked) → st.inclusion.retained ≡ option_map checked_result_of kept → IsSomeAnd kept (λ r. r.logs ≡ logs) → sees_verified c round logs st ≡ Goes st
  sees_kept None seen is = absurd is
  sees_kept (Some r) seen is =
      ap (λ (o : Option core.VerifiedLogs). sees_verified_by c round logs (including.retained_for o logs) st) seen
      ∙ ap (λ (o : Option core.VerifiedLogs). sees_verified_by c round logs o st) (kept_some logs (Some r) is)

  -- .. or it is not
  pub sees_none : (kept : Option Checked) → st.inclusion.retained ≡ option_map checked_result_of kept → (IsSomeAnd kept (λ r. r.logs ≡ logs) → ⊥) → sees_verified c round logs st ≡ verifies c round logs st
  sees_none kept seen apart =
      ap (λ (o : Option core.VerifiedLogs). sees_verified_by c round logs (including.retained_for o logs) st) seen
      ∙ ap (λ (o : Option core.VerifiedLogs). sees_verified_by c round logs o st) (kept_none logs kept apart)

pub some_and : {A : Type 0} (o : Option A) (x : A) (P : A → Type 0) → o ≡ Some x → P x → IsSomeAnd o P
some_and {A} o x P is p = subst (λ (q : Option A). IsSomeAnd q P) (sym is) p

-- what some logs have is their result's
pub checked_logs : (outcome_of : OutcomeOf) (finish_of : FinishOf) (j : job.Job) (verified : Checked) (logs : LogMap) → verified ≡ checked outcome_of finish_of j.round j.player j.logs → j.logs ≡ logs → verified.logs ≡ logs
checked_logs outcome_of finish_of j verified logs is same = ap (λ (r : Checked). r.logs) is ∙ same

-- what is found for a job is what the relation finds
pub found_as : {Dir : Type 0} (c : Fixed Dir) (outcome_of : OutcomeOf) (finish_of : FinishOf) (outcome : c.rules.outcome_of ≡ outcome_of) (finish : c.rules.finish_of ≡ finish_of) (j : job.Job) (verified : Checked)
    → verified ≡ checked outcome_of finish_of j.round j.player j.logs → (made : core.Job) → job_of j ≡ made → checked_result_of verified ≡ including.verified c made
found_as c outcome_of finish_of outcome finish j verified is made same = ap checked_result_of is ∙ verified_is c outcome_of finish_of outcome finish j ∙ ap (including.verified c) same

-- BY IT THE ARTIFACT

module _ {Dir : Type 0} (c : Fixed Dir) (round : Round) (logs : LogMap) (st : Live Dir) (same : logs ≡ canonical c st) where
  pub unseen_makes : (stop : Stop) {out : List Entry} → Speaks (sees_verified c round logs st) (by_stop stop) out out → (files : Files) (image : Files → Type 0) (s : Secrets) (f : Burn)
      → MakesAt (on_devices (derives_now c round logs st)) (by_stop stop) files image files image (moment out s f) (moment out s f)
  unseen_makes stop speaks files image s f =
      makes_as (derives_now_is c round logs st same) (by_stop stop)
      (early_makes (sees_verified c round logs st) (derives_kept c) stop (speaks_makes (sees_verified c round logs st) (by_stop stop) files image speaks))

  pub unseen_told : (stop : Stop) {out : List Entry} → Speaks (sees_verified c round logs st) (by_stop stop) out out → Tells (derives_now c round logs st) (by_stop stop) out out
  unseen_told stop speaks =
      tells_as (derives_now_is c round logs st same) (by_stop stop)
      (early_told (sees_verified c round logs st) (derives_kept c) stop (speaks_tells (sees_verified c round logs st) (by_stop stop) speaks))

  module _ (reshare : c.oneshot ≡ None) (mid : Live Dir) (r : core.VerifiedLogs) (kept : mid.inclusion.retained ≡ Some r) where
    kept_is : derives_kept c mid ≡ bind (sees_artifact c reshare r mid) (takes_cached r.logs)
    kept_is = ap (λ (o : Option core.VerifiedLogs). option_map_or (λ r. artifact_in c r mid) o (Stops HeightRange)) kept ∙ artifact_taken c reshare r mid

    module _ {out : List Entry} (sees : Speaks (sees_verified c round logs st) (went mid) out out) where
      behind_makes : (how : Ended Fault (core.Artifact Dir × Live Dir)) {files files_now : Files} {image now : Files → Type 0} {s : Secrets} {f : Burn} {new : Moment}
          → MakesAt (on_devices (bind (sees_artifact c reshare r mid) (takes_cached r.logs))) how files image files_now now (moment out s f) new → MakesAt (on_devices (derives_now c round logs st)) how files image files_now now (moment out s f) new
      behind_makes how {files} {files_now} {image} {now} {s} {f} {new} made =
          makes_as (derives_now_is c round logs st same) how
          (then_makes (sees_verified c round logs st) (derives_kept c) mid how (speaks_makes (sees_verified c round logs st) (went mid) files image sees) (makes_as kept_is how made))

      behind_told : (how : Ended Fault (core.Artifact Dir × Live Dir)) {now : List Entry} → Tells (bind (sees_artifact c reshare r mid) (takes_cached r.logs)) how out now → Tells (derives_now c round logs st) how out now
      behind_told how told =
          tells_as (derives_now_is c round logs st same) how
          (then_told (sees_verified c round logs st) (derives_kept c) mid how (speaks_tells (sees_verified c round logs st) (went mid) sees) (tells_as kept_is how told))

      -- no artifact is made
      pub unkept_makes : (stop : Stop) {files files_now : Files} {image now : Files → Type 0} {s : Secrets} {f : Burn} {new : Moment}
          → MakesAt (on_devices (sees_artifact c reshare r mid)) (by_stop stop) files image files_now now (moment out s f) new → MakesAt (on_devices (derives_now c round logs st)) (by_stop stop) files image files_now now (moment out s f) new
      unkept_makes stop made = behind_makes (by_stop stop) (early_makes (sees_artifact c reshare r mid) (takes_cached r.logs) stop made)

      pub unkept_told : (stop : Stop) {now : List Entry} → Tells (sees_artifact c reshare r mid) (by_stop stop) out now → Tells (derives_now c round logs st) (by_stop stop) out now
      unkept_told stop told = behind_told (by_stop stop) (early_told (sees_artifact c reshare r mid) (takes_cached r.logs) stop told)

      -- one is, and it is what the cache has
      module _ (last : Live Dir) where
        pub kept_makes : (end : Live Dir) → end ≡ last → (made : core.Artifact Dir) → Some made ≡ including.cached_for last.inclusion.cached r.logs → {files files_now : Files} {image now : Files → Type 0} {s : Secrets} {f : Burn} {new : Moment}
            → MakesAt (on_devices (sees_artifact c reshare r mid)) (went last) files image files_now now (moment out s f) new → MakesAt (on_devices (derives_now c round logs st)) (went (made, end)) files image files_now now (moment out s f) new
        kept_makes end at_last made is {files} {files_now} {image} {now} {s} {f} {new} first =
            subst (λ (x : Live Dir). MakesAt (on_devices (derives_now c round logs st)) (went (made, x)) files image files_now now (moment out s f) new) (sym at_last)
            (behind_makes (went (made, last)) (then_makes (sees_artifact c reshare r mid) (takes_cached r.logs) last (went (made, last)) first (goes_makes (takes_cached r.logs last) (made, last) (taken_as r.logs last made is) files_now now new)))

        pub kept_told : (end : Live Dir) → end ≡ last → (made : core.Artifact Dir) → Some made ≡ including.cached_for last.inclusion.cached r.logs → {now : List Entry}
            → Tells (sees_artifact c reshare r mid) (went last) out now → Tells (derives_now c round logs st) (went (made, end)) out now
        kept_told end at_last made is {now} first =
            subst (λ (x : Live Dir). Tells (derives_now c round logs st) (went (made, x)) out now) (sym at_last)
            (behind_told (went (made, last)) (then_told (sees_artifact c reshare r mid) (takes_cached r.logs) last (went (made, last)) first (goes_tells (takes_cached r.logs last) (made, last) (taken_as r.logs last made is) now)))

        -- .. of which no copy is made
        pub uncopied_makes : (stop : Stop) → stop ≡ Faulted NoMemory → {files files_now : Files} {image now : Files → Type 0} {s : Secrets} {f : Burn} {new : Moment}
            → MakesAt (on_devices (sees_artifact c reshare r mid)) (went last) files image files_now now (moment out s f) new → MakesAt (on_devices (derives_now c round logs st)) (by_stop stop) files image files_now now (moment out s f) new
        uncopied_makes stop want {files} {files_now} {image} {now} {s} {f} {new} first =
            behind_makes (by_stop stop) (then_makes (sees_artifact c reshare r mid) (takes_cached r.logs) last (by_stop stop) first (wants_makes (takes_cached r.logs last) stop want files_now now new))

        pub uncopied_told : (stop : Stop) → stop ≡ Faulted NoMemory → {now : List Entry} → Tells (sees_artifact c reshare r mid) (went last) out now → Tells (derives_now c round logs st) (by_stop stop) out now
        uncopied_told stop want {now} first =
            behind_told (by_stop stop) (then_told (sees_artifact c reshare r mid) (takes_cached r.logs) last (by_stop stop) first
            (speaks_tells (takes_cached r.logs last) (by_stop stop) (wants_speaks (takes_cached r.logs last) stop want now now refl)))

-- THE ONE THAT WAS CACHED BEFORE, or is now

module _ {Dir : Type 0} (c : Fixed Dir) (round : Round) (logs : LogMap) (st : Live Dir) where
  pub by_before : (before : Option (artifact.Artifact Dir)) (made : artifact.Artifact Dir) → before ≡ Some made → derives_by c round logs (option_map artifact_of before) st ≡ Goes (artifact_of made, st)
  by_before before made is = ap (λ (o : Option (artifact.Artifact Dir)). derives_by c round logs (option_map artifact_of o) st) is

  module _ (before : Option (artifact.Artifact Dir)) (none : before ≡ None) (cache : Option (LogMap × artifact.Artifact Dir)) (cached : st.inclusion.cached ≡ option_map cached_of cache) (its : Option (artifact.Artifact Dir))
      (found : option_map artifact_of its ≡ including.cached_for (option_map cached_of cache) logs)
    where
      by_its : (o : Option (artifact.Artifact Dir)) → its ≡ o → derives_by c round logs (option_map artifact_of before) st ≡ derives_by_in c round logs None (option_map artifact_of o) st
      by_its o is =
          ap (λ (b : Option (artifact.Artifact Dir)). derives_by c round logs (option_map artifact_of b) st) none
          ∙ ap (λ (d : Option (core.Cached Dir)). derives_by_in c round logs None (including.cached_for d logs) st) cached
          ∙ ap (λ (m : Option (core.Artifact Dir)). derives_by_in c round logs None m st) (sym found ∙ ap (option_map artifact_of) is)

      pub by_cache : (made : artifact.Artifact Dir) → its ≡ Some made → derives_by c round logs (option_map artifact_of before) st ≡ Goes (artifact_of made, st)
      by_cache made is = by_its (Some made) is

      pub by_neither : its ≡ None → derives_by c round logs (option_map artifact_of before) st ≡ derives_now c round logs st
      by_neither is = by_its None is

-- ALL OF IT

pub final_as : {Dir : Type 0} (c : Fixed Dir) (round : Round) (st : Live Dir) (logs : LogMap) → logs ≡ canonical c st → (cache : Option (LogMap × artifact.Artifact Dir)) → st.inclusion.cached ≡ option_map cached_of cache
    → (before : Option (artifact.Artifact Dir)) → option_map artifact_of before ≡ including.cached_for (option_map cached_of cache) logs
    → derives_final c round st ≡ bind (including.ends_verifying c None st) (λ s. derives_by c round logs (option_map artifact_of before) s)
final_as {Dir} c round st logs same cache cached before found =
    ap (λ (l : LogMap). bind (including.ends_verifying c None st) (λ s. derives_by c round l (including.cached_for st.inclusion.cached l) s)) (sym same)
    ∙ ap (λ (d : Option (core.Cached Dir)). bind (including.ends_verifying c None st) (λ s. derives_by c round logs (including.cached_for d logs) s)) cached
    ∙ ap (λ (m : Option (core.Artifact Dir)). bind (including.ends_verifying c None st) (λ s. derives_by c round logs m s)) (sym found)

-- WHAT A CALL IS GIVEN

pub finds_by : {Dir : Type 0} {round_of : RoundOf} {deal_of : DealOf} {dealing_of : DealingOf} {ack_of : AckOf} {check_ack_of : CheckAckOf} {sign_log_of : SignLogOf} {bears_ack_of : BearsAckOf} {share_public_of : SharePublicOf}
    {partial_public_of : PartialPublicOf} {check_log_of : CheckLogOf} {outcome_of : OutcomeOf} {finish_of : FinishOf} {participants : ℕ → List ℕ} {directory : ℕ → List ℕ → Dir} {spelling : Dir → List ℕ} {matches : Dir → List ℕ → Bool}
    (c : Fixed Dir) → IsRuledBy round_of deal_of dealing_of ack_of check_ack_of sign_log_of bears_ack_of share_public_of partial_public_of c.rules
    → IncludesBy check_log_of outcome_of finish_of participants directory spelling matches c → FindsBy bears_ack_of dealing_of outcome_of finish_of c
finds_by c by provides = record { bears = by.seats.bears; dealing = by.answers.dealing; outcome = provides.outcome; finish = provides.finish }

-- .. by a provider that says still what it said
pub provides_then : {Dir : Type 0} {check_log_of : CheckLogOf} {outcome_of : OutcomeOf} {finish_of : FinishOf} {old new : ℕ → List ℕ} {before now : ℕ → List ℕ → Dir} {spelling : Dir → List ℕ} {matches : Dir → List ℕ → Bool}
    (c : Fixed Dir) → SameProvided old new before now → IncludesBy check_log_of outcome_of finish_of old before spelling matches c → IncludesBy check_log_of outcome_of finish_of new now spelling matches c
provides_then c same provides = record {
  check_log = provides.check_log;
  outcome = provides.outcome;
  finish = provides.finish;
  participants_are = λ epoch. provides.participants_are epoch ∙ sym (same.0 epoch);
  directory_is = λ epoch peers. provides.directory_is epoch peers ∙ sym (same.1 epoch peers);
  spelling_is = provides.spelling_is;
  matches_are = provides.matches_are;
}

module _ {Dir : Type 0} (n : ℕ) (life : Life Dir) (includes : life.stage ≡ Including) (placed : IsPlaced n life) where
  pub not_following : life.stage ≡ Following → ⊥
  not_following follows = absurd (let h : ◌≡◌ {A = Stage} Including Following = sym includes ∙ follows in cc)

  pub middle_in : (c : Fixed Dir) → c.blocks_per_epoch ≡ n → midpoint c.blocks_per_epoch life.epoch ≡ life.midpoint
  middle_in c same = ap (λ (m : ℕ). midpoint m life.epoch) same ∙ sym (placed.midpoint_is not_following)

  pub has_round : IsSome life.round
  has_round = placed.joins not_following

pub and_some : {A : Type 0} (o : Option A) (x : A) (P : A → Type 0) → o ≡ Some x → IsSomeAnd o P → P x
and_some {A} o x P is p = let Q : Option A → Type 0 = λ q. IsSomeAnd q P in subst Q is p

pub none_apart : {A B : Type 0} (o : Option A) → o ≡ None → IsSome o → B
none_apart {A} o none some = absurd (let h : false ≡ true = sym (ap (λ (x : Option A). is_some x) none) ∙ some in cc)

-- WHAT HOLDS OF INCLUSION behind it

module _ {C Dir Signer Cfg : Type 0} (check_log_of : CheckLogOf) (dealing_of : DealingOf) (finish_of : FinishOf) (n : ℕ) where
  pub derived_ready : (old new : Life Dir) → new ≡ old → (its now : Inclusion C Dir Signer Cfg) → now ≡ record its { verification = now.verification; waiter = now.waiter; cache = now.cache } → now.verification.running ≡ None
      → IsReadyInclusion check_log_of dealing_of finish_of n old its → IsReadyInclusion check_log_of dealing_of finish_of n new now
  derived_ready old new same its now rest running ready =
      subst (λ (l : Life Dir). IsReadyInclusion check_log_of dealing_of finish_of n l now) (sym same) (record {
        hand = subst (λ (h : Option (Hand Dir Cfg)). IfSome h (IsInHand check_log_of n old)) (sym (ap (λ (x : Inclusion C Dir Signer Cfg). x.hand) rest)) ready.hand;
        free = λ some. running;
        runs = subst (λ (j : Option job.Job). IfSome j (λ its. (old.stage ≡ Including) × (old.round ≡ Some its.round) × IsRunnable dealing_of finish_of its)) (sym running) tt;
        idle = λ follows. ap (λ (x : Inclusion C Dir Signer Cfg). x.requests) rest ∙ ready.idle follows;
        current = ready.current;
        unserved = λ apart. ap (λ (x : Inclusion C Dir Signer Cfg). x.served) rest ∙ ready.unserved apart;
      })
