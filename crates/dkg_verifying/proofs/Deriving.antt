-- An artifact as a course of its own: whatever goes on by it, goes on behind that course.
use Rattle.std.proofs.Common.{◌≡◌, ℕ, Bool, true, false, Option, Some, None, refl, sym, ap, ◌∙◌}
use Rattle.std.specs.Prelude.{◌+◌, ◌^◌, ◌==◌, nat_le, nat_lt, length, option_map, if◌then◌else◌}
use Rattle.std.specs.Option.{option_map_or}
use Rattle.dkg_values.specs.Rising.{lookup}
use Rattle.dkg_ceremony.specs.declared.round.RoundParts.{RoundParts as Round}
use Rattle.dkg_ceremony.specs.Outcomes.{LogMap}
use Rattle.dkg_types.specs.Blocks.{Block}
use Rattle.dkg_infos.specs.NextInfos.{info_by}
use Rattle.dkg_infos.specs.declared.fault.Fault.{Fault}
use Rattle.dkg_infos.specs.declared.fault.Fault.TheVariants.{HeightRange, InvalidParticipants, DirectoryMismatch}
use Rattle.dkg_infos.specs.declared.fault.ParticipantsCause.TheVariants.{ProviderEmpty, ProviderAbove}
use Rattle.dkg_infos.specs.declared.info.EpochInfo.{EpochInfo}
use Rattle.dkg_core.specs.Blocks as blocks
use Rattle.dkg_core.specs.Courses.{Course, Goes, Stops, bind}
use Rattle.dkg_core.specs.Fixed.{Fixed, OneShot, has}
use Rattle.dkg_core.specs.Including as including
use Rattle.dkg_core.specs.Live.{Live, Verified, VerifiedLogs, Artifact}
use Rattle.dkg_core.specs.Logs.{canonical}
use Rattle.dkg_core.specs.Setup.{looks}
use Rattle.dkg_core.proofs.Same.{logs_again}
use Rattle.dkg_verifying.specs.Including.{stops_by, unprovided, reads_share, mismatch_of, derives_in, with_cached_in, artifact_over, artifact_in, verifies_in, derives_now_by, derives_now, derives_by_in, derives_by, derives_final}
use Rattle.dkg_life.proofs.Offered.{bind_again, bind_alike}

-- STOPS

stops_then : {Dir F S T : Type 0} (why : Option F) (acts : Course Dir F S) (next : S → Course Dir F T) → bind (stops_by why acts) next ≡ stops_by why (bind acts next)
stops_then None acts next = refl
stops_then (Some fault) acts next = refl

one_stop : {Dir F S : Type 0} (b : Bool) (fault : F) (acts : Course Dir F S) → (if b then acts else Stops fault) ≡ stops_by (if b then None else Some fault) acts
one_stop true fault acts = refl
one_stop false fault acts = refl

three_stops : {Dir F S : Type 0} (first second third : Bool) (one two three : F) (acts : Course Dir F S)
    → (if first then Stops one else if second then Stops two else if third then Stops three else acts)
    ≡ stops_by (if first then Some one else if second then Some two else if third then Some three else None) acts
three_stops true second third one two three acts = refl
three_stops false true third one two three acts = refl
three_stops false false true one two three acts = refl
three_stops false false false one two three acts = refl

module _ {Dir : Type 0} (c : Fixed Dir) where
  -- A NEW ARTIFACT

  shared_if : (b : Bool) (epoch : ℕ) (next : Option ℕ → Course Dir Fault (Live Dir))
      → (if b then looks c (λ s. next (lookup epoch s.shares)) else next None) ≡ bind (if b then looks c (λ s. Goes (lookup epoch s.shares)) else Goes None) next
  shared_if true epoch next = refl
  shared_if false epoch next = refl

  shared : (info : EpochInfo Dir) (result : Option Verified) (next : Option ℕ → Course Dir Fault (Live Dir)) → including.share_by c info result next ≡ bind (reads_share c info result) next
  shared info (Some found) next = refl
  shared info None next = shared_if (has info.output.players c.me) info.epoch next

  pub derived : (info : EpochInfo Dir) (r : VerifiedLogs) (st : Live Dir) (next : including.Continuation Dir) → including.derives_next c info r st next ≡ bind (derives_in c info r) (λ made. next made st)
  derived info r st next =
      let made = info_by c.provided info (option_map (λ found. found.output) r.result) in
      let why = unprovided c.provided.participants c.limit info.epoch in
      let its : Option ℕ → Artifact Dir = λ share. record { info = Some made; share = share } in
      let after = λ (share : Option ℕ). including.with_directory c made (next (its share) st) in
      let stops = λ (share : Option ℕ). stops_by (mismatch_of c made) (next (its share) st) in
      let goes = λ (share : Option ℕ). stops_by (mismatch_of c made) (Goes (its share)) in
      let set = c.provided.participants (info.epoch + 2) in
      three_stops (nat_le (2 ^ 64) (info.epoch + 2)) (length set == 0) (nat_lt c.limit (length set)) HeightRange (InvalidParticipants ProviderEmpty)
      (InvalidParticipants (ProviderAbove (length set) c.limit)) (including.share_by c info r.result after)
      ∙ ap (λ (x : Course Dir Fault (Live Dir)). stops_by why x)
      (shared info r.result after
      ∙ bind_alike (reads_share c info r.result) after stops (λ share. one_stop (c.directories.matches made.directory (including.info_peers made)) (DirectoryMismatch made.epoch) (next (its share) st))
      ∙ bind_alike (reads_share c info r.result) stops (λ share. bind (goes share) (λ made. next made st)) (λ share. sym (stops_then (mismatch_of c made) (Goes (its share)) (λ made. next made st)))
      ∙ sym (bind_again (reads_share c info r.result) goes (λ made. next made st)))
      ∙ sym (stops_then why (bind (reads_share c info r.result) goes) (λ made. next made st))

  -- THE CACHED ONE, OR A NEW ONE

  module _ (reshare : c.oneshot ≡ None) where
    module _ (r : VerifiedLogs) (st : Live Dir) (next : including.Continuation Dir) where
      over_current : (current : Option (EpochInfo Dir)) → option_map_or (λ info. including.derives_next c info r st (including.keeping_artifact r.logs next)) current (Stops HeightRange)
          ≡ bind (artifact_over c r st None current) (λ it. next it.0 it.1)
      over_current None = refl
      over_current (Some info) =
          derived info r st (including.keeping_artifact r.logs next) ∙ sym (bind_again (derives_in c info r) (with_cached_in r.logs st) (λ it. next it.0 it.1))

      uncached : (oneshot : Option (OneShot Dir)) → oneshot ≡ None → including.derives c oneshot r st next ≡ bind (artifact_over c r st None st.participation.current) (λ it. next it.0 it.1)
      uncached None is = over_current st.participation.current
      uncached (Some o) is = absurd (cc)

      over_cache : (cached : Option (Artifact Dir)) → including.artifact_by c r cached st next ≡ bind (artifact_over c r st cached st.participation.current) (λ it. next it.0 it.1)
      over_cache (Some made) = refl
      over_cache None = uncached c.oneshot reshare

      pub artifact_is : including.artifact c r st next ≡ bind (artifact_in c r st) (λ it. next it.0 it.1)
      artifact_is = over_cache (including.cached_for st.inclusion.cached r.logs)

    -- What is behind a course that goes on by an artifact, is behind what goes on by it.
    pub artifact_then : (r : VerifiedLogs) (st : Live Dir) (next : including.Continuation Dir) (more : Live Dir → Course Dir Fault (Live Dir))
        → including.artifact c r st (λ made s. bind (next made s) more) ≡ bind (including.artifact c r st next) more
    artifact_then r st next more =
        artifact_is r st (λ made s. bind (next made s) more)
        ∙ sym (bind_again (artifact_in c r st) (λ it. next it.0 it.1) more)
        ∙ ap (λ (x : Course Dir Fault (Live Dir)). bind x more) (sym (artifact_is r st next))

    -- THE ARTIFACT IS CACHED THEN

    -- how the artifact that is cached of some logs goes on
    abbrev pub by_cached : LogMap → including.Continuation Dir → Live Dir → Course Dir Fault (Live Dir)
    by_cached logs next st = option_map_or (λ made. next made st) (including.cached_for st.inclusion.cached logs) (Goes st)

    module _ (r : VerifiedLogs) (st : Live Dir) (next : including.Continuation Dir) where
      cached_now : (made : Artifact Dir) → including.cached_for (including.with_cached r.logs made st).inclusion.cached r.logs ≡ Some made
      cached_now made = ap (λ (b : Bool). if b then Some made else None) (logs_again r.logs)

      goes_by : (made : Artifact Dir) (s : Live Dir) → including.cached_for s.inclusion.cached r.logs ≡ Some made → next made s ≡ by_cached r.logs next s
      goes_by made s is = ap (λ (x : Option (Artifact Dir)). option_map_or (λ a. next a s) x (Goes s)) (sym is)

      over_kept : (cached : Option (Artifact Dir)) → including.cached_for st.inclusion.cached r.logs ≡ cached → (current : Option (EpochInfo Dir))
          → bind (artifact_over c r st cached current) (λ it. next it.0 it.1) ≡ bind (bind (artifact_over c r st cached current) (λ it. Goes it.1)) (by_cached r.logs next)
      over_kept (Some made) is current = goes_by made st is
      over_kept None is None = refl
      over_kept None is (Some info) =
          let makes = derives_in c info r in
          bind_again makes (with_cached_in r.logs st) (λ it. next it.0 it.1)
          ∙ bind_alike makes (λ made. next made (including.with_cached r.logs made st)) (λ made. by_cached r.logs next (including.with_cached r.logs made st))
          (λ made. goes_by made (including.with_cached r.logs made st) (cached_now made))
          ∙ sym (bind_again makes (λ made. bind (with_cached_in r.logs st made) (λ it. Goes it.1)) (by_cached r.logs next))
          ∙ ap (λ (x : Course Dir Fault (Live Dir)). bind x (by_cached r.logs next)) (sym (bind_again makes (with_cached_in r.logs st) (λ it. Goes it.1)))

      -- the artifact is seen to first, and then it is the one that is cached
      pub artifact_kept : including.artifact c r st next ≡ bind (including.artifact c r st (λ made s. Goes s)) (by_cached r.logs next)
      artifact_kept =
          artifact_is r st next
          ∙ over_kept (including.cached_for st.inclusion.cached r.logs) refl st.participation.current
          ∙ ap (λ (x : Course Dir Fault (Live Dir)). bind x (by_cached r.logs next)) (sym (artifact_is r st (λ made s. Goes s)))

    -- THE FINAL BLOCK

    module _ (round : Round) (b : Block Dir) where
      verified_now : (logs : LogMap) (st : Live Dir) → blocks.verifies_now c round b logs st ≡ bind (verifies_in c round logs st) (λ it. blocks.concludes c b it.0 it.1)
      verified_now logs st =
          let found = including.verified c (including.job_for c round logs st) in
          let starts = including.starts_verifying c round logs None st in
          bind_alike starts (λ s. including.artifact c found (including.retains c found s) (blocks.concludes c b))
          (λ s. bind (artifact_in c found (including.retains c found s)) (λ it. blocks.concludes c b it.0 it.1))
          (λ s. artifact_is found (including.retains c found s) (blocks.concludes c b))
          ∙ sym (bind_again starts (λ s. artifact_in c found (including.retains c found s)) (λ it. blocks.concludes c b it.0 it.1))

      pub derived_now : (logs : LogMap) (retained : Option VerifiedLogs) (st : Live Dir)
          → blocks.derives_at_block c round b logs retained st ≡ bind (derives_now_by c round logs retained st) (λ it. blocks.concludes c b it.0 it.1)
      derived_now logs (Some r) st = artifact_is r st (blocks.concludes c b)
      derived_now logs None st = verified_now logs st

      pub concluded_by : (logs : LogMap) (before now : Option (Artifact Dir)) (st : Live Dir)
          → blocks.concludes_by c round b logs before now st ≡ bind (derives_by_in c round logs before now st) (λ it. blocks.concludes c b it.0 it.1)
      concluded_by logs (Some made) now st = refl
      concluded_by logs None (Some made) st = refl
      concluded_by logs None None st = derived_now logs (including.retained_for st.inclusion.retained logs) st

      pub final_block_is : (st : Live Dir) → blocks.final_block c round b st ≡ bind (derives_final c round st) (λ it. blocks.concludes c b it.0 it.1)
      final_block_is st =
          let logs = canonical c st in
          let before = including.cached_for st.inclusion.cached logs in
          let ends = including.ends_verifying c None st in
          bind_alike ends (λ s. blocks.concludes_by c round b logs before (including.cached_for s.inclusion.cached logs) s)
          (λ s. bind (derives_by c round logs before s) (λ it. blocks.concludes c b it.0 it.1))
          (λ s. concluded_by logs before (including.cached_for s.inclusion.cached logs) s)
          ∙ sym (bind_again ends (λ s. derives_by c round logs before s) (λ it. blocks.concludes c b it.0 it.1))
