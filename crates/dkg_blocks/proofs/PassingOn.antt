-- The end of an epoch's last block: what it carries is committed and registered, the requests that are left are answered, and the next epoch is set up.
use Rattle.std.proofs.Common.{◌≡◌, ℕ, List, [], ◌∷◌, ◌++◌, Option, Some, None, refl, sym, ◌∙◌, ap, append-nil, append_assoc}
use Rattle.std.specs.Prelude.{is_some, if◌then◌else◌}
use Rattle.dkg_values.specs.Rising.{lookup}
use Rattle.dkg_fence.specs.Readiness.{Readiness}
use Rattle.dkg_journal.specs.Names.{Files}
use Rattle.dkg_types.specs.Blocks.{Block}
use Rattle.dkg_infos.specs.declared.entry.Entry.{Entry}
use Rattle.dkg_infos.specs.declared.fault.Fault.{Fault}
use Rattle.dkg_infos.specs.declared.info.EpochInfo.{EpochInfo}
use Rattle.dkg_types.specs.declared.scheme.SchemeInfo.{SchemeInfo}
use Rattle.dkg_store.specs.Acts.{Ended, Held, Moment, went}
use Rattle.dkg_core.specs.Blocks as blocks
use Rattle.dkg_core.specs.Courses.{Course, Ask, Goes, bind, on_devices}
use Rattle.dkg_core.specs.Fixed.{Fixed, OneShot}
use Rattle.dkg_core.specs.Live as core
use Rattle.dkg_core.specs.Live.{Live, with_tip}
use Rattle.dkg_core.specs.Seen.{Seen}
use Rattle.dkg_core.specs.Setup as setup
use Rattle.dkg_core.specs.Sources.{Tip}
use Rattle.dkg_life.specs.Ends.{by_stop}
use Rattle.dkg_life.specs.Given.{GivesSeed, ReadsPlanless}
use Rattle.dkg_life.specs.LiveOf.{Beside, EndsWith, live_of, scheme_by, with_scheme_of}
use Rattle.dkg_life.specs.Made.{MakesAt, Tells}
use Rattle.dkg_life.specs.Steps.{reads_seed}
use Rattle.dkg_life.specs.declared.life.Life.{Life}
use Rattle.dkg_life.specs.declared.stop.Stop.{Stop}
use Rattle.dkg_blocks.proofs.Applying.{tip_at, tipped}
use Rattle.dkg_setup.proofs.OpeningCourses.{makes_as, tells_as}
use Rattle.dkg_life.proofs.Beside.{emptied}
use Rattle.dkg_life.proofs.Chained.{early_makes, early_told, then_makes, then_told}
use Rattle.dkg_life.proofs.Offered.{bind_again}

-- WHAT IS NOT THE LIFE'S

-- an info's scheme, and then what another call came to
pub then_with : {Dir : Type 0} (beside : Beside Dir) (me : ℕ) (info : EpochInfo Dir) (share : Option ℕ) {IsNow : core.Inclusion Dir → Type 0} {T U : List (ℕ × SchemeInfo) → Type 0} {P Q : Beside Dir → Type 0}
    → ((more : List (ℕ × SchemeInfo)) → T more → U (more ++ scheme_by me info share ∷ [])) → ((now : Beside Dir) → P now → Q now) → EndsWith (with_scheme_of me info share beside) IsNow T P → EndsWith beside IsNow U Q
then_with {Dir} beside me info share took so ends = record {
  now = ends.now;
  inclusion = ends.inclusion;
  more = ends.more ++ scheme_by me info share ∷ [];
  schemes = ends.schemes ∙ sym (append_assoc ends.more (scheme_by me info share ∷ []) beside.orchestrator.schemes);
  took = took ends.more ends.took;
  probe = ends.probe;
  orchestrator = ends.orchestrator;
  holds = so ends.now ends.holds;
}

-- ON TO THE NEXT EPOCH

module _ {Dir : Type 0} (c : Fixed Dir) (b : Block Dir) (info : EpochInfo Dir) (reshare : c.oneshot ≡ None) where
  abbrev pub sets_up : Live Dir → Course Dir Fault (Live Dir)
  sets_up st = setup.setup c None st

  passes_is : (st : Live Dir) → blocks.passes_on c b (Some info) st ≡ bind (blocks.answers_all st.inclusion.queue (with_tip b st)) sets_up
  passes_is st =
      ap (λ (o : Option (OneShot Dir)). bind (blocks.answers_all st.inclusion.queue (with_tip b st)) (λ s. if is_some o then blocks.ends_once c (Some info) s else setup.setup c None s)) reshare

  module _ (beside : Beside Dir) (fence : Readiness) (life : Life Dir) (tip : Tip) (at : tip ≡ tip_at b) where
    abbrev pub answering : Course Dir Fault (Live Dir)
    answering = blocks.answers_all beside.inclusion.queue (live_of beside fence (record life { tip = Some tip }))

    pub passes_as : blocks.passes_on c b (Some info) (live_of beside fence life) ≡ bind answering sets_up
    passes_as =
        passes_is (live_of beside fence life)
        ∙ ap (λ (st : Live Dir). bind (blocks.answers_all beside.inclusion.queue st) sets_up) (sym (tipped b beside fence life tip at))

  -- of what inclusion has nothing matters to a setup
  pub sets_up_anew : (beside : Beside Dir) (fence : Readiness) (life : Life Dir) → sets_up (live_of beside fence life) ≡ sets_up (live_of (record beside { inclusion = emptied beside.inclusion }) fence life)
  sets_up_anew beside fence life = refl

  -- THE CARRIED INFO IS TAKEN OVER

  module _ (share : Option ℕ) (st : Live Dir) where
    abbrev pub commits_with : List ℕ → Course Dir Fault (Live Dir)
    commits_with seed = bind (setup.commits info seed share st) (λ s. setup.registers c info share s)

    abbrev pub then_passes : Live Dir → Course Dir Fault (Live Dir)
    then_passes s = blocks.passes_on c b (Some info) s

    abbrev behind_seed : List ℕ → Course Dir Fault (Live Dir)
    behind_seed seed = bind (commits_with seed) then_passes

    joined : (seed : List ℕ) → bind (setup.commits info seed share st) (λ s. bind (if is_some c.oneshot then Goes s else setup.registers c info share s) then_passes) ≡ behind_seed seed
    joined seed =
        ap (λ (o : Option (OneShot Dir)). bind (setup.commits info seed share st) (λ s. bind (if is_some o then Goes s else setup.registers c info share s) then_passes)) reshare
        ∙ sym (bind_again (setup.commits info seed share st) (λ s. setup.registers c info share s) then_passes)

    takes_is : blocks.takes_over c b info share st ≡ bind (reads_seed c info) behind_seed
    takes_is = λ i. Ask (λ h. joined (setup.seed_for c info.epoch (lookup info.epoch (c.seen h).seeds)) i)

    -- MADE

    pub seed_unread_makes : (stop : Stop) {files files_now : Files} {image now : Files → Type 0} {old new : Moment}
        → MakesAt (on_devices (reads_seed c info)) (by_stop stop) files image files_now now old new → MakesAt (on_devices (blocks.takes_over c b info share st)) (by_stop stop) files image files_now now old new
    seed_unread_makes stop made = makes_as takes_is (by_stop stop) (early_makes (reads_seed c info) behind_seed stop made)

    module _ (seed : List ℕ) {files files1 files_now : Files} {image image1 now : Files → Type 0} {old m1 new : Moment} (read : MakesAt (on_devices (reads_seed c info)) (went seed) files image files1 image1 old m1) where
      pub untaken_makes : (stop : Stop) → MakesAt (on_devices (commits_with seed)) (by_stop stop) files1 image1 files_now now m1 new
          → MakesAt (on_devices (blocks.takes_over c b info share st)) (by_stop stop) files image files_now now old new
      untaken_makes stop made = makes_as takes_is (by_stop stop) (then_makes (reads_seed c info) behind_seed seed (by_stop stop) read (early_makes (commits_with seed) then_passes stop made))

      pub taken_makes : (mid : Live Dir) (how : Ended Fault (Live Dir)) {files2 : Files} {image2 : Files → Type 0} {m2 : Moment}
          → MakesAt (on_devices (commits_with seed)) (went mid) files1 image1 files2 image2 m1 m2 → MakesAt (on_devices (then_passes mid)) how files2 image2 files_now now m2 new
          → MakesAt (on_devices (blocks.takes_over c b info share st)) how files image files_now now old new
      taken_makes mid how committed made = makes_as takes_is how (then_makes (reads_seed c info) behind_seed seed how read (then_makes (commits_with seed) then_passes mid how committed made))

    -- SAID

    pub seed_unread_told : (stop : Stop) {out now : List Entry} → Tells (reads_seed c info) (by_stop stop) out now → Tells (blocks.takes_over c b info share st) (by_stop stop) out now
    seed_unread_told stop told = tells_as takes_is (by_stop stop) (early_told (reads_seed c info) behind_seed stop told)

    module _ (seed : List ℕ) {out now : List Entry} (read : Tells (reads_seed c info) (went seed) out out) where
      pub untaken_told : (stop : Stop) → Tells (commits_with seed) (by_stop stop) out now → Tells (blocks.takes_over c b info share st) (by_stop stop) out now
      untaken_told stop told = tells_as takes_is (by_stop stop) (then_told (reads_seed c info) behind_seed seed (by_stop stop) read (early_told (commits_with seed) then_passes stop told))

      pub taken_told : (mid : Live Dir) (how : Ended Fault (Live Dir)) {at : List Entry} → Tells (commits_with seed) (went mid) out at → Tells (then_passes mid) how at now
          → Tells (blocks.takes_over c b info share st) how out now
      taken_told mid how committed told = tells_as takes_is how (then_told (reads_seed c info) behind_seed seed how read (then_told (commits_with seed) then_passes mid how committed told))

-- What some held seeds give, a read of today can give.
pub seed_told : {Dir : Type 0} (c : Fixed Dir) (info : EpochInfo Dir) (seed : List ℕ) (h : Held) → ReadsPlanless c → GivesSeed c info seed h → (out : List Entry) → Tells (reads_seed c info) (went seed) out out
seed_told c info seed h reads gives out =
    let given : setup.seed_for c info.epoch (lookup info.epoch (c.seen h).seeds) ≡ seed = gives (c.seen h) (ap (λ (seen : Held → Seen). (seen h).seeds) reads) in
    record { lines = []; added = sym (append-nil out); by = (h, (refl, sym given)) }

-- a life that is as it was, and this share
pub taken_with : {Dir : Type 0} (c : Fixed Dir) (b : Block Dir) (info : EpochInfo Dir) (share its : Option ℕ) → its ≡ share → (beside : Beside Dir) (fence : Readiness) (old new : Life Dir) → new ≡ old
    → blocks.takes_over c b info share (live_of beside fence old) ≡ blocks.takes_over c b info its (live_of beside fence new)
taken_with {Dir} c b info share its shares beside fence old new same = λ i. blocks.takes_over c b info (sym shares i) (live_of beside fence (sym same i))
