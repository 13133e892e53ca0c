-- The parts of a setup by an info, one behind another: made over the devices, and said.
use Rattle.std.proofs.Common.{◌≡◌, ℕ, ◌-◌, [], append-nil, inl, inr, Bool, true, false, List, Option, Some, None, Result, Ok, Err, refl, sym, ◌∙◌, ap, subst}
use Rattle.std.specs.Prelude.{if◌then◌else◌, ◌==◌}
use Rattle.dkg_fence.specs.Readiness.{Readiness}
use Rattle.dkg_journal.specs.Names.{Files}
use Rattle.dkg_infos.specs.declared.entry.Entry.{Entry}
use Rattle.dkg_infos.specs.declared.fault.Fault.{Fault}
use Rattle.dkg_infos.specs.declared.fault.Fault.TheVariants.{InvalidParticipants, WrongEpoch}
use Rattle.dkg_infos.specs.declared.fault.ParticipantsCause.TheVariants.{Refused}
use Rattle.dkg_infos.specs.declared.info.EpochInfo.{EpochInfo}
use Rattle.dkg_infos.specs.declared.participants.ParticipantsError.{ParticipantsError}
use Rattle.dkg_store.specs.Acts.{Ended, Held, Moment, went}
use Rattle.dkg_core.specs.Courses.{Course, bind, on_devices}
use Rattle.dkg_core.specs.Fixed.{Fixed}
use Rattle.dkg_core.specs.Live.{Live}
use Rattle.dkg_core.specs.Setup as setup
use Rattle.dkg_core.specs.Said.{Said}
use Rattle.dkg_life.specs.declared.stop.Stop.{Stop}
use Rattle.dkg_life.specs.Ends.{by_stop, cause_in}
use Rattle.dkg_life.specs.Given.{CanRead, GivesBoth}
use Rattle.dkg_life.specs.declared.life.Life.{Life}
use Rattle.dkg_life.specs.LiveOf.{Beside, live_of}
use Rattle.dkg_life.specs.Made.{MakesAt, Speaks, Tells}
use Rattle.dkg_life.specs.Steps.{IsFaultOrWant, reads_secrets, refusal_of, refused_by}
use Rattle.dkg_life.proofs.Chained.{early_makes, early_told, then_makes, then_told}
use Rattle.dkg_setup.proofs.Judging.{behind_secrets, judged_as, passed, refused}
use Rattle.dkg_life.proofs.Seated.{same_some}
use Rattle.dkg_life.proofs.Speaking.{gives_speaks, wants_speaks}

module _ {Dir : Type 0} (c : Fixed Dir) (standing : setup.Standing) (info : EpochInfo Dir) (share : Option ℕ) (seed : List ℕ) where
  abbrev pub committing : Live Dir → Course Dir Fault (Live Dir)
  committing st = setup.commits_new standing c info seed share st

  abbrev pub pruning_in : Live Dir → Course Dir Fault (Live Dir)
  pruning_in st = setup.prunes (st.participation.epoch - 1) st

  abbrev pub drawing : Live Dir → Course Dir Fault (Live Dir)
  drawing st = setup.draws_up c (setup.participants_of info) (Some info.output) share seed st

  abbrev pub last_parts : Live Dir → Course Dir Fault (Live Dir)
  last_parts st = bind (pruning_in st) drawing

-- THE JUDGEMENT

module _ {Dir : Type 0} (c : Fixed Dir) (standing : setup.Standing) (info : EpochInfo Dir) (st : Live Dir) where
  abbrev pub whole : Course Dir Fault (Live Dir)
  whole = setup.with_info c None standing info st

  own_in : (same : Bool) (valid : Result (Unit {0}) ParticipantsError) (its : Fault)
      → (if same then refused_by valid else Some (WrongEpoch st.participation.epoch info.epoch)) ≡ Some its → cause_in its ≡ None
  own_in true (Ok done) its is = absurd cc
  own_in true (Err e) its is = ap (λ (f : Fault). cause_in f) (sym (same_some (InvalidParticipants (Refused e)) its is))
  own_in false valid its is = ap (λ (f : Fault). cause_in f) (sym (same_some (WrongEpoch st.participation.epoch info.epoch) its is))

  not_passed : (stop : Stop) (r : Option Fault) → refusal_of st.participation.epoch c.limit info ≡ r → IsFaultOrWant r stop → (out : List Entry) → Speaks whole (by_stop stop) out out
  not_passed stop None is want out = wants_speaks whole stop want out out refl
  not_passed stop (Some its) is (inl want) out = wants_speaks whole stop want out out refl
  not_passed stop (Some its) is (inr ends) out = gives_speaks whole stop its ends (refused c standing info st its is) (own_in (info.epoch == st.participation.epoch) _ its is) out

  pub judge_failed : (limit : ℕ) → c.limit ≡ limit → (stop : Stop) → IsFaultOrWant (refusal_of st.participation.epoch limit info) stop → (out : List Entry) → Speaks whole (by_stop stop) out out
  judge_failed limit same stop ends out =
      not_passed stop (refusal_of st.participation.epoch c.limit info) refl (subst (λ (n : ℕ). IsFaultOrWant (refusal_of st.participation.epoch n info) stop) (sym same) ends) out

  pub passed_as : (limit : ℕ) → c.limit ≡ limit → refusal_of st.participation.epoch limit info ≡ None → whole ≡ bind (reads_secrets c info) (behind_secrets c standing info st)
  passed_as limit same none = passed c standing info st (ap (λ (n : ℕ). refusal_of st.participation.epoch n info) same ∙ none) ∙ judged_as c standing info st

-- .. in a life that was read in
pub passed_over : {Dir : Type 0} (c : Fixed Dir) (standing : setup.Standing) (info : EpochInfo Dir) (beside : Beside Dir) (fence : Readiness) (life now : Life Dir) → now ≡ life
    → (limit : ℕ) → c.limit ≡ limit → refusal_of life.epoch limit info ≡ None
    → setup.with_info c None standing info (live_of beside fence life) ≡ bind (reads_secrets c info) (behind_secrets c standing info (live_of beside fence now))
passed_over {Dir} c standing info beside fence life now same limit is none =
    passed_as c standing info (live_of beside fence life) limit is none
    ∙ ap (λ (l : Life Dir). bind (reads_secrets c info) (behind_secrets c standing info (live_of beside fence l))) (sym same)

-- WHAT IS READ, of devices that needn't tell

pub secrets_told : {Dir : Type 0} (c : Fixed Dir) (info : EpochInfo Dir) (share : Option ℕ) (seed : List ℕ) (h : Held) → GivesBoth c info share seed h → CanRead c h → (out : List Entry)
    → Tells (reads_secrets c info) (went (share, seed)) out out
secrets_told c info share seed h gives reads out =
    let both = gives (c.seen reads.0) reads.1 reads.2 in
    record { lines = []; added = sym (append-nil out); by = (reads.0, (refl, λ i. (sym both.0 i, sym both.1 i))) }

-- MADE, from the secrets on

module _ {Dir : Type 0} (c : Fixed Dir) (standing : setup.Standing) (info : EpochInfo Dir) (st : Live Dir) (all : Course Dir Fault (Live Dir))
    (from_secrets : all ≡ bind (reads_secrets c info) (behind_secrets c standing info st))
    {files files_now : Files} {image now : Files → Type 0} {old new : Moment}
  where
    as_made : (how : Ended Fault (Live Dir)) → MakesAt (on_devices (bind (reads_secrets c info) (behind_secrets c standing info st))) how files image files_now now old new
        → MakesAt (on_devices all) how files image files_now now old new
    as_made how made = subst (λ (x : Course Dir Fault (Live Dir)). MakesAt (on_devices x) how files image files_now now old new) (sym from_secrets) made

    pub secrets_ended : (stop : Stop) → MakesAt (on_devices (reads_secrets c info)) (by_stop stop) files image files_now now old new
        → MakesAt (on_devices all) (by_stop stop) files image files_now now old new
    secrets_ended stop made = as_made (by_stop stop) (early_makes (reads_secrets c info) (behind_secrets c standing info st) stop made)

    module _ (share : Option ℕ) (seed : List ℕ) {files1 : Files} {image1 : Files → Type 0} {m1 : Moment} (read : MakesAt (on_devices (reads_secrets c info)) (went (share, seed)) files image files1 image1 old m1) where
      past_secrets : (how : Ended Fault (Live Dir)) → MakesAt (on_devices (behind_secrets c standing info st (share, seed))) how files1 image1 files_now now m1 new
          → MakesAt (on_devices all) how files image files_now now old new
      past_secrets how made = as_made how (then_makes (reads_secrets c info) (behind_secrets c standing info st) (share, seed) how read made)

      pub commit_ended : (stop : Stop) → MakesAt (on_devices (committing c standing info share seed st)) (by_stop stop) files1 image1 files_now now m1 new
          → MakesAt (on_devices all) (by_stop stop) files image files_now now old new
      commit_ended stop made =
          past_secrets (by_stop stop) (early_makes (committing c standing info share seed st) (last_parts c standing info share seed) stop made)

      module _ (st2 : Live Dir) {files3 : Files} {image3 : Files → Type 0} {m3 : Moment} (committed : MakesAt (on_devices (committing c standing info share seed st)) (went st2) files1 image1 files3 image3 m1 m3) where
        pub prune_ended : (min : ℕ) → min ≡ st2.participation.epoch - 1 → (stop : Stop) → MakesAt (on_devices (setup.prunes min st2)) (by_stop stop) files3 image3 files_now now m3 new
            → MakesAt (on_devices all) (by_stop stop) files image files_now now old new
        prune_ended min min_is stop made =
            past_secrets (by_stop stop) (then_makes (committing c standing info share seed st) (last_parts c standing info share seed) st2 (by_stop stop) committed
            (early_makes (pruning_in c standing info share seed st2) (drawing c standing info share seed) stop (subst (λ (m : ℕ). MakesAt (on_devices (setup.prunes m st2)) (by_stop stop) files3 image3 files_now now m3 new) min_is made)))

        pub draw_ended : (min : ℕ) → min ≡ st2.participation.epoch - 1 → (st3 : Live Dir) (how : Ended Fault (Live Dir)) {files4 : Files} {image4 : Files → Type 0} {m4 : Moment}
            → MakesAt (on_devices (setup.prunes min st2)) (went st3) files3 image3 files4 image4 m3 m4 → MakesAt (on_devices (drawing c standing info share seed st3)) how files4 image4 files_now now m4 new
            → MakesAt (on_devices all) how files image files_now now old new
        draw_ended min min_is st3 how {files4} {image4} {m4} pruned drawn =
            past_secrets how (then_makes (committing c standing info share seed st) (last_parts c standing info share seed) st2 how committed
            (then_makes (pruning_in c standing info share seed st2) (drawing c standing info share seed) st3 how (subst (λ (m : ℕ). MakesAt (on_devices (setup.prunes m st2)) (went st3) files3 image3 files4 image4 m3 m4) min_is pruned) drawn))

-- SAID, from the secrets on

module _ {Dir : Type 0} (c : Fixed Dir) (standing : setup.Standing) (info : EpochInfo Dir) (st : Live Dir) (all : Course Dir Fault (Live Dir))
    (from_secrets : all ≡ bind (reads_secrets c info) (behind_secrets c standing info st)) {out now : List Entry}
  where
    as_said : (how : Ended Fault (Live Dir)) → Tells (bind (reads_secrets c info) (behind_secrets c standing info st)) how out now → Tells all how out now
    as_said how said = subst (λ (x : Course Dir Fault (Live Dir)). Said (on_devices x) how out now) (sym from_secrets) said

    pub secrets_unsaid : (stop : Stop) → Tells (reads_secrets c info) (by_stop stop) out now → Tells all (by_stop stop) out now
    secrets_unsaid stop said = as_said (by_stop stop) (early_told (reads_secrets c info) (behind_secrets c standing info st) stop said)

    module _ (share : Option ℕ) (seed : List ℕ) (read : Tells (reads_secrets c info) (went (share, seed)) out out) where
      told_past : (how : Ended Fault (Live Dir)) → Tells (behind_secrets c standing info st (share, seed)) how out now → Tells all how out now
      told_past how said = as_said how (then_told (reads_secrets c info) (behind_secrets c standing info st) (share, seed) how read said)

      pub commit_unsaid : (stop : Stop) → Tells (committing c standing info share seed st) (by_stop stop) out now → Tells all (by_stop stop) out now
      commit_unsaid stop said =
          told_past (by_stop stop) (early_told (committing c standing info share seed st) (last_parts c standing info share seed) stop said)

      module _ (st2 : Live Dir) {out2 : List Entry} (committed : Tells (committing c standing info share seed st) (went st2) out out2) where
        pub prune_unsaid : (min : ℕ) → min ≡ st2.participation.epoch - 1 → (stop : Stop) → Tells (setup.prunes min st2) (by_stop stop) out2 now → Tells all (by_stop stop) out now
        prune_unsaid min min_is stop said =
            told_past (by_stop stop) (then_told (committing c standing info share seed st) (last_parts c standing info share seed) st2 (by_stop stop) committed
            (early_told (pruning_in c standing info share seed st2) (drawing c standing info share seed) stop (subst (λ (m : ℕ). Said (on_devices (setup.prunes m st2)) (by_stop stop) out2 now) min_is said)))

        pub draw_said : (min : ℕ) → min ≡ st2.participation.epoch - 1 → (st3 : Live Dir) (how : Ended Fault (Live Dir)) {out3 : List Entry} → Tells (setup.prunes min st2) (went st3) out2 out3
            → Tells (drawing c standing info share seed st3) how out3 now → Tells all how out now
        draw_said min min_is st3 how {out3} pruned drawn =
            told_past how (then_told (committing c standing info share seed st) (last_parts c standing info share seed) st2 how committed
            (then_told (pruning_in c standing info share seed st2) (drawing c standing info share seed) st3 how (subst (λ (m : ℕ). Said (on_devices (setup.prunes m st2)) (went st3) out2 out3) min_is pruned) drawn))
