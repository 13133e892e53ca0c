-- The artifact of a result is that of its logs.
use Rattle.std.proofs.Common.{◌≡◌, ◌≤◌, ◌<◌, ℕ, Bool, true, false, nat_le, Option, Some, None, refl, sym, ◌∙◌, ap, subst, arith}
use Rattle.std.specs.Prelude.{◌+◌, ◌^◌, ◌==◌, nat_lt, if◌then◌else◌, length, option_map}
use Rattle.std.specs.Option.{option_map_or}
use Rattle.std.proofs.lemmas.Bool.Decides.{nat_tests}
use Rattle.dkg_values.specs.Rising.{lookup}
use Rattle.dkg_ceremony.specs.declared.output.Output.{Output}
use Rattle.dkg_ceremony.specs.declared.round.RoundParts.{RoundParts as Round}
use Rattle.dkg_ceremony.specs.Outcomes.{LogMap}
use Rattle.dkg_infos.specs.declared.fault.Fault.{Fault}
use Rattle.dkg_infos.specs.declared.fault.Fault.TheVariants.{HeightRange, InvalidParticipants, DirectoryMismatch}
use Rattle.dkg_infos.specs.declared.fault.ParticipantsCause.TheVariants.{ProviderEmpty, ProviderAbove}
use Rattle.dkg_infos.specs.declared.info.EpochInfo.{EpochInfo}
use Rattle.dkg_infos.specs.NextInfos.{info_by, next_info}
use Rattle.dkg_store.specs.Acts.{Held}
use Rattle.dkg_core.specs.Courses.{Course, Ask, Stops}
use Rattle.dkg_core.specs.Fixed.{Fixed, OneShot, has}
use Rattle.dkg_core.specs.Live.{Live, Verified, VerifiedLogs, Artifact, Cached}
use Rattle.dkg_core.specs.Same.{same_logs}
use Rattle.dkg_core.specs.Setup.{looks}
use Rattle.dkg_core.specs.Including as i
use Rattle.dkg_core.specs.Including.{Continuation, cached_for}
use Rattle.dkg_core.specs.Forms.{IsForm, ComesOver}
use Rattle.dkg_core.specs.Asked.{OfShares, IsProvided, IsArtifactIn, IsResultIn, HasAsked, IsDeriveStop, IsMadeIn, ArtifactsLead}
use Rattle.dkg_core.proofs.Counting.{some_is}
use Rattle.dkg_core.proofs.Same.{one_logs, logs_again}
use Rattle.dkg_core.proofs.Setups.{over_if, over_asks}

none_apart : {A : Type 0} (a : A) → ◌≡◌ {A = Option A} None (Some a) → ⊥
none_apart a e = cc

bool_apart : (t : Bool) → t ≡ true → t ≡ false → ⊥
bool_apart t is other = cc

at_most : (a b : ℕ) → nat_le a b ≡ true → a ≤ b
at_most a b e = grind (arith, nat_tests)

below : (a b : ℕ) → nat_lt a b ≡ true → a < b
below a b e = grind (arith, nat_tests)

not_at_most : (a b : ℕ) → nat_le a b ≡ false → b < a
not_at_most a b e = grind (arith, nat_tests)

not_below : (a b : ℕ) → nat_lt a b ≡ false → b ≤ a
not_below a b e = grind (arith, nat_tests)

some_of : (n : ℕ) → (n == 0) ≡ false → 1 ≤ n
some_of n e = grind (arith, nat_tests)

none_of : (n : ℕ) → (n == 0) ≡ true → n ≡ 0
none_of n e = grind (arith, nat_tests)

-- WHAT IS CACHED

module _ {Dir : Type 0} (c : Fixed Dir) (stored : OfShares) (round : Round) (info : EpochInfo Dir) (st : Live Dir) (asked : HasAsked c stored st) (of_epoch : st.participation.round ≡ Some round)
    (of_info : st.participation.current ≡ Some info) where
  all : (d : Cached Dir) → st.inclusion.cached ≡ Some d → IsArtifactIn c stored round info st d.logs d.artifact
  all d is =
      let its = asked.made d is in
      subst (λ (x : EpochInfo Dir). IsArtifactIn c stored round x st d.logs d.artifact) (some_is its.1 info (sym its.3 ∙ of_info))
      (subst (λ (x : Round). IsArtifactIn c stored x its.1 st d.logs d.artifact) (some_is its.0 round (sym its.2 ∙ of_epoch)) its.4)

  of_cached : (logs : LogMap) (made : Artifact Dir) (cached : Option (Cached Dir)) → st.inclusion.cached ≡ cached → cached_for cached logs ≡ Some made → IsArtifactIn c stored round info st logs made
  of_cached logs made None at e = absurd (none_apart made e)
  of_cached logs made (Some d) at e = either (same_logs d.logs logs) refl e
    where
      either : (t : Bool) → same_logs d.logs logs ≡ t → (if t then Some d.artifact else None) ≡ Some made → IsArtifactIn c stored round info st logs made
      either true is e =
          subst (IsArtifactIn c stored round info st logs) (some_is d.artifact made e)
          (subst (λ (logs : LogMap). IsArtifactIn c stored round info st logs d.artifact) (one_logs d.logs logs is) (all d at))
      either false is e = absurd (none_apart made e)

  -- what is cached for some logs is their artifact
  pub cached_is : (logs : LogMap) (made : Artifact Dir) → cached_for st.inclusion.cached logs ≡ Some made → IsArtifactIn c stored round info st logs made
  cached_is logs made is = of_cached logs made st.inclusion.cached refl is

-- THE ARTIFACT OF A RESULT

-- Whatever holds of a course by its tests, its reads and its stops holds of the artifact's, where it holds of how that goes on.
pub record IsOfCourses {Dir : Type 0} (c : Fixed Dir) (stored : OfShares) (stops : Fault → Type 0) (C : Course Dir Fault (Live Dir) → Type 0) : Type 0 where
  pub if_so : (t : Bool) (x y : Course Dir Fault (Live Dir)) → (t ≡ true → C x) → (t ≡ false → C y) → C (if t then x else y)
  pub reads : (f : Held → Course Dir Fault (Live Dir)) → ((h : Held) → ((epoch : ℕ) → stored epoch (lookup epoch (c.seen h).shares)) → C (f h)) → C (Ask f)
  pub stopped : (fault : Fault) → stops fault → C (Stops fault)

module _ {Dir : Type 0} (c : Fixed Dir) (stored : OfShares) (round : Round) (info : EpochInfo Dir) (r : VerifiedLogs) (st : Live Dir) (next : Continuation Dir) (C : Course Dir Fault (Live Dir) → Type 0)
    (courses : IsOfCourses c stored (IsDeriveStop c round info st) C) (form : IsForm c) (asked : HasAsked c stored st)
    (of_epoch : st.participation.round ≡ Some round) (of_info : st.participation.current ≡ Some info) (result : IsResultIn c round st r)
    (so : (made : Artifact Dir) (at : Live Dir) → IsMadeIn c stored round info st r.logs made at → C (next made at)) where
  abbrev OfLogs : LogMap → Artifact Dir → Type 0
  OfLogs logs made = IsArtifactIn c stored round info st logs made

  -- WHAT IS MADE NOW

  abbrev outcome : Option Output
  outcome = option_map (λ (v : Verified). v.output) r.result

  abbrev its_info : EpochInfo Dir
  its_info = info_by c.provided info outcome

  is_next : its_info ≡ next_info c.rules.outcome_of c.provided info round r.logs
  unfolding next_info
  is_next = ap (info_by c.provided info) result.outcome

  abbrev with_it : Option ℕ → Artifact Dir
  with_it share = record { info = Some its_info; share = share }

  by_outcome : (found : Option Verified) → r.result ≡ found → option_map (λ (v : Verified). v.output) found ≡ c.rules.outcome_of round r.logs
  by_outcome found is = sym (ap (λ (o : Option Verified). option_map (λ (v : Verified). v.output) o) is) ∙ result.outcome

  -- the directory of what is made is one of its peers
  abbrev IsMatched : Type 0
  IsMatched = c.directories.matches its_info.directory (i.info_peers its_info) ≡ true

  matched_of : IsMatched → (its : EpochInfo Dir) → ◌≡◌ {A = Option (EpochInfo Dir)} (Some its_info) (Some its) → c.directories.matches its.directory (i.info_peers its) ≡ true
  matched_of matched its is = subst (λ (x : EpochInfo Dir). c.directories.matches x.directory (i.info_peers x) ≡ true) (some_is its_info its is) matched

  of_verified : IsProvided c info → (found : Verified) → r.result ≡ Some found → IsMatched → OfLogs r.logs (with_it found.share)
  of_verified known found is matched = record {
    provided = known;
    info_is = ap (λ (x : EpochInfo Dir). Some x) is_next;
    matched = matched_of matched;
    success = λ output made. (
      result.shared found is,
      λ share has_it. subst (λ (o : Output). c.rules.partial_public_of o c.me ≡ Some (c.rules.share_public_of share)) (some_is found.output output (by_outcome (Some found) is ∙ made))
          (result.fits found share is has_it),
    );
    failure = λ none. absurd (none_apart found.output (sym none ∙ sym (by_outcome (Some found) is)));
  }

  of_failed : IsProvided c info → (share : Option ℕ) → r.result ≡ None → (has info.output.players c.me ≡ true → stored info.epoch share) → (has info.output.players c.me ≡ false → share ≡ None) → IsMatched
      → OfLogs r.logs (with_it share)
  of_failed known share is carried other matched = record {
    provided = known;
    info_is = ap (λ (x : EpochInfo Dir). Some x) is_next;
    matched = matched_of matched;
    success = λ output made. absurd (none_apart output (by_outcome None is ∙ made));
    failure = λ none. (carried, other);
  }

  epoch_is : (o : Option Output) → (info_by c.provided info o).epoch ≡ info.epoch + 1
  epoch_is None = refl
  epoch_is (Some output) = refl

  made_now : (share : Option ℕ) → (IsMatched → OfLogs r.logs (with_it share)) → C (i.with_directory c its_info (i.keeping_artifact r.logs next (with_it share) st))
  made_now share of =
      courses.if_so (c.directories.matches its_info.directory (i.info_peers its_info)) (i.keeping_artifact r.logs next (with_it share) st) (Stops (DirectoryMismatch its_info.epoch))
      (λ e. so (with_it share) (i.with_cached r.logs (with_it share) st) (record {
        artifact = of e;
        same = refl;
        is = ap (λ (t : Bool). if t then Some (with_it share) else None) (logs_again r.logs);
        all = λ d is. subst (λ (x : Cached Dir). OfLogs x.logs x.artifact) (some_is (record { logs = r.logs; artifact = with_it share }) d is) (of e);
      }))
      (λ e. courses.stopped (DirectoryMismatch its_info.epoch) (
        epoch_is outcome,
        (r.logs, subst (λ (x : EpochInfo Dir). c.directories.matches x.directory (i.info_peers x) ≡ false) is_next e),
      ))

  by_result : IsProvided c info → (found : Option Verified) → r.result ≡ found → C (i.share_by c info found (λ share. i.with_directory c its_info (i.keeping_artifact r.logs next (with_it share) st)))
  by_result known (Some found) is = made_now found.share (of_verified known found is)
  by_result known None is =
      courses.if_so (has info.output.players c.me) (looks c (λ s. i.with_directory c its_info (i.keeping_artifact r.logs next (with_it (lookup info.epoch s.shares)) st)))
      (i.with_directory c its_info (i.keeping_artifact r.logs next (with_it None) st))
      (λ e. courses.reads (λ h. i.with_directory c its_info (i.keeping_artifact r.logs next (with_it (lookup info.epoch (c.seen h).shares)) st))
      (λ h found. made_now (lookup info.epoch (c.seen h).shares)
      (of_failed known (lookup info.epoch (c.seen h).shares) is (λ plays. found info.epoch) (λ other. absurd (bool_apart (has info.output.players c.me) e other)))))
      (λ e. made_now None (of_failed known None is (λ plays. absurd (bool_apart (has info.output.players c.me) plays e)) (λ other. refl)))

  abbrev count : ℕ
  count = length (c.provided.participants (info.epoch + 2))

  derived : C (i.derives_next c info r st (i.keeping_artifact r.logs next))
  derived =
      let acts : Course Dir Fault (Live Dir) = i.share_by c info r.result (λ share. i.with_directory c its_info (i.keeping_artifact r.logs next (with_it share) st)) in
      let few : Course Dir Fault (Live Dir) = if nat_lt c.limit count then Stops (InvalidParticipants (ProviderAbove count c.limit)) else acts in
      let some : Course Dir Fault (Live Dir) = if count == 0 then Stops (InvalidParticipants ProviderEmpty) else few in
      courses.if_so (nat_le (2 ^ 64) (info.epoch + 2)) (Stops HeightRange) some
      (λ past. courses.stopped HeightRange (at_most (2 ^ 64) (info.epoch + 2) past))
      (λ within. courses.if_so (count == 0) (Stops (InvalidParticipants ProviderEmpty)) few
      (λ none. courses.stopped (InvalidParticipants ProviderEmpty) (none_of count none))
      (λ there. courses.if_so (nat_lt c.limit count) (Stops (InvalidParticipants (ProviderAbove count c.limit))) acts
      (λ many. courses.stopped (InvalidParticipants (ProviderAbove count c.limit)) (refl, refl, below c.limit count many))
      (λ enough. by_result (record { in_range = not_at_most (2 ^ 64) (info.epoch + 2) within; some = some_of count there; in_bound = not_below c.limit count enough }) r.result refl)))

  by_cached : (cached : Option (Artifact Dir)) → cached_for st.inclusion.cached r.logs ≡ cached → C (i.artifact_by c r cached st next)
  by_cached (Some made) is = so made st (record { artifact = cached_is c stored round info st asked of_epoch of_info r.logs made is; same = refl; is = is; all = all c stored round info st asked of_epoch of_info })
  by_cached None is =
      subst (λ (o : Option (OneShot Dir)). C (i.derives c o r st next)) (sym form.reshare)
      (subst (λ (o : Option (EpochInfo Dir)). C (option_map_or (λ x. i.derives_next c x r st (i.keeping_artifact r.logs next)) o (Stops HeightRange))) (sym of_info) derived)

  -- .. so it holds of the artifact's
  pub artifact_is : C (i.artifact c r st next)
  artifact_is = by_cached (cached_for st.inclusion.cached r.logs) refl

pub artifacts_lead : {Dir : Type 0} → ArtifactsLead Dir
artifacts_lead {Dir} c stored round info r st next devices stops goes form reads asked of_epoch of_info result stopped so =
    artifact_is c stored round info r st next (λ course. ComesOver stops goes course devices) (record {
      if_so = λ t x y one other. over_if stops goes devices t x y one other;
      reads = λ f each. over_asks stops goes devices f (λ h found. each h (λ epoch. reads h epoch found));
      stopped = stopped;
    }) form asked of_epoch of_info result so
