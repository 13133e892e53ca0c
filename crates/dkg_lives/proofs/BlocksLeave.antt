-- What a node's step for a block leaves on the devices of dealings, wherever it ends: nothing that wasn't there before but what this node deals to itself, which is told where the step
-- goes to its end.
use Rattle.std.proofs.Common.{◌≡◌, ◌⊎◌, inl, inr, ◌≤◌, ℕ, List, [], ◌∷◌, ◌++◌, Option, Some, None, refl, sym, ◌∙◌, ap, subst, arith, append_assoc, append-nil}
use Rattle.std.specs.Prelude.{◌+◌, ◌-◌, ◌==◌, ◌&&◌, is_some, nat_le, nat_lt, not, if◌then◌else◌}
use Rattle.std.specs.FinMap.{get}
use Rattle.std.specs.List.{AllByRecursion}
use Rattle.std.specs.Str.{bytes_eq}
use Rattle.dkg_values.specs.Rising.{lookup}
use Rattle.dkg_ceremony.specs.declared.signed_log.SignedDealerLog.{SignedDealerLog}
use Rattle.dkg_ceremony.specs.Schedule.{epoch_of, midpoint}
use Rattle.dkg_types.specs.Blocks.{Block}
use Rattle.dkg_infos.specs.declared.entry.Entry.{Entry}
use Rattle.dkg_infos.specs.declared.entry.Entry.TheVariants.{Recorded}
use Rattle.dkg_infos.specs.declared.fault.Fault.{Fault}
use Rattle.dkg_infos.specs.declared.fault.Fault.TheVariants.{HeightRange, ConflictingBlock, SkippedHeight, DetachedBlock, OutOfWindow}
use Rattle.dkg_infos.specs.declared.info.EpochInfo.{EpochInfo}
use Rattle.dkg_secrets.specs.declared.secrets.SecretOp.TheVariants.{PutShare, PutSeed}
use Rattle.dkg_store.specs.Acts.{World, Held, Changes, Cause, Ended, went, stopped, broken, says, does}
use Rattle.dkg_store.specs.Events.{IsEvent}
use Rattle.dkg_store.specs.Pairs.{Pairs}
use Rattle.dkg_store.specs.declared.event.Event.TheVariants as events
use Rattle.dkg_store.proofs.Acts.{along_runs}
use Rattle.dkg_core.specs.Courses.{Course, Say, Do, CallOutside, Ask, Goes, Stops, Throughout, EndsSo, on_devices}
use Rattle.dkg_core.specs.Fixed.{Fixed}
use Rattle.dkg_core.specs.Live.{Live, NodeStop, Faulted, Stage, Deals, Includes, Follows, Ends, Finalized, Delivers, recorded_at, with_tip}
use Rattle.dkg_core.specs.Sources.{Tip}
use Rattle.dkg_core.specs.Setup as s
use Rattle.dkg_core.specs.Dealing as d
use Rattle.dkg_core.specs.Including as i
use Rattle.dkg_core.specs.Blocks as b
use Rattle.dkg_core.specs.Core.{step}
use Rattle.dkg_core.specs.Node.{node_step}
use Rattle.dkg_core.specs.Behind.{EndsBehind, IsAside, RunsBehind}
use Rattle.dkg_core.specs.Agreeing.{AreAgreed, CanRecord}
use Rattle.dkg_core.specs.Heard.{recovered_in}
use Rattle.dkg_core.specs.Forms.{Applied, judged_block}
use Rattle.dkg_core.specs.Logs.{carried_log_event}
use Rattle.dkg_core.specs.Transcripts.{IfWentTo}
use Rattle.dkg_core.proofs.Behind.{steps_run_behind}
use Rattle.dkg_core.proofs.Upkeep.{along_if}
use Rattle.dkg_core.proofs.Walking as walk
use Rattle.dkg_lives.proofs.NoOthers.{AtEnd, GivesNoOther, IsNoOther, IsOwnDealt, IsToldSince, TellsAll, commits, deals, deals_end, end_if, end_is, end_next, prunes, silent_done, silent_torn, tells_line}

-- what holds throughout holds at the end
along_to_end : {Dir F S : Type 0} (G : World → Type 0) (course : Course Dir F S) (w : World) → Throughout G course w → AtEnd G course w
along_to_end G (Say line course) w a = along_to_end G course (says w line) a.1
along_to_end G (Do op course) w a = along_to_end G course (does w op) a.1
along_to_end G (CallOutside outer course) w a = along_to_end G course w a
along_to_end G (Ask f) w a = along_to_end G (f w.held) w a
along_to_end G (Goes end) w a = a
along_to_end G (Stops fault) w a = tt

went_stopped : {F S : Type 0} (end : S) (fault : F) → ◌≡◌ {A = Ended F S} (went end) (stopped fault) → ⊥
went_stopped end fault e = cc

went_broken : {F S : Type 0} (end : S) (cause : Cause) → ◌≡◌ {A = Ended F S} (went end) (broken cause) → ⊥
went_broken end cause e = cc

-- each dealing that is given back was so before, or was told
abbrev pub AreTold : (m0 : Pairs) (base : List Entry) → World → Type 0
AreTold m0 base w = (key : ℕ × ℕ) (pair : List ℕ × ℕ) → get (recovered_in w.held) key ≡ Some pair → (get m0 key ≡ Some pair) ⊎ IsToldSince base w key pair

-- a log that is recorded is silent of dealings
pub records_log : {Dir : Type 0} (m0 : Pairs) (own : ℕ × ℕ → List ℕ × ℕ → Type 0) (height : ℕ) (log : SignedDealerLog) (st : Live Dir) (w : World) → IsEvent (events.LogAt log.dealer height log.log)
    → IsNoOther m0 own w → (epoch : ℕ) → Throughout {Dir = Dir} (IsNoOther m0 own) (b.records_log epoch height log st) w
records_log m0 own height log st w is q epoch =
    along_if (IsNoOther m0 own) w (is_some (recorded_at st.records.logs epoch log.dealer)) (Goes st) (d.appends epoch (carried_log_event log.dealer height log.log) (Goes (b.with_log_at epoch log.dealer height log.log st)))
    (λ e. q)
    (λ e. (
      λ cause new tears. silent_torn m0 own epoch (carried_log_event log.dealer height log.log) is refl w new cause tears q,
      silent_done m0 own epoch (carried_log_event log.dealer height log.log) is refl w q,
    ))

module _ {Dir : Type 0} (c : Fixed Dir) (st : Live Dir) (block : Block Dir) (w : World) (agreed : AreAgreed st.records w.held) (can : CanRecord c st (Finalized block)) where
  abbrev m0 : Pairs
  m0 = recovered_in w.held

  module _ (own : ℕ × ℕ → List ℕ × ℕ → Type 0) (dealt : judged_block c block st ≡ Applied → st.participation.stage ≡ Deals → Throughout (IsNoOther m0 own) (d.deals c st) w) where
    abbrev P : World → Type 0
    P x = IsNoOther m0 own x

    told : (x : World) (line : Entry) → IsAside line → P x → P (says x line)
    told x line aside q = record { whole = q.whole; gives = q.gives }

    abbrev reach : ℕ
    reach = epoch_of c.blocks_per_epoch (block.height + 1) - 1

    commits_read : (info : EpochInfo Dir) (at : Live Dir) (x : World) → P x
        → Throughout {Dir = Dir} P (s.commits info (s.seed_for c info.epoch (lookup info.epoch (c.seen x.held).seeds)) (s.recovered_share c (c.seen x.held) info) at) x
    commits_read info at x q = commits m0 own info (s.seed_for c info.epoch (lookup info.epoch (c.seen x.held).seeds)) (s.recovered_share c (c.seen x.held) info) at x q

    prunes_low : (min : ℕ) → min ≤ reach → (at : Live Dir) (x : World) → P x → Throughout P (s.prunes min at) x
    prunes_low min low at x q = prunes m0 own min at x q

    first : P w
    first = record { whole = agreed.whole; gives = λ key pair got. inl got }

    low : reach ≤ reach
    low = omega arith

    applies : judged_block c block st ≡ Applied → (stage : Stage) → st.participation.stage ≡ stage → Throughout P (b.applies_in c block st stage) w
    applies judged Deals is = walk.ends_dealing c P told reach commits_read prunes_low block low st w first (dealt judged is)
    applies judged Includes is = walk.including c P told reach commits_read prunes_low block low
        (λ info share at x q. commits m0 own info (s.seed_for c info.epoch (lookup info.epoch (c.seen x.held).seeds)) share at x q) st w
        (λ log its epoch. records_log m0 own block.height log st w (can.brings log its) first epoch) first
    applies judged Follows is = walk.follows_at c P told reach commits_read prunes_low block low st w first
    applies judged Ends is = first

    walks : Throughout P (step c (Finalized block) st) w
    walks = walk.delivered c P told reach commits_read prunes_low block st w first (λ judged. applies judged st.participation.stage refl) st.participation.stage

  own_dealt : judged_block c block st ≡ Applied → st.participation.stage ≡ Deals → Throughout (IsNoOther m0 (IsOwnDealt c st)) (d.deals c st) w
  own_dealt judged is = deals c st w can.acks can.dealing agreed m0 (record { whole = agreed.whole; gives = λ key pair got. inl got })

  -- A BLOCK THAT ISN'T APPLIED says nothing of dealings

  abbrev A : World → Type 0
  A x = (lines : List Entry) × (x.out ≡ w.out ++ lines) × AllByRecursion IsAside lines

  aside_more : (x : World) (line : Entry) → IsAside line → A x → A (says x line)
  aside_more x line aside q = (q.0 ++ line ∷ [], ap (λ (ls : List Entry). ls ++ line ∷ []) q.1 ∙ append_assoc w.out q.0 (line ∷ []), all_and_one q.0 q.2)
    where
      all_and_one : (xs : List Entry) → AllByRecursion IsAside xs → AllByRecursion IsAside (xs ++ line ∷ [])
      all_and_one [] all = (aside, tt)
      all_and_one (y ∷ xs) all = (all.0, all_and_one xs all.1)

  aside_commits : (info : EpochInfo Dir) (seed : List ℕ) (share : Option ℕ) (at : Live Dir) (x : World) → A x → Throughout {Dir = Dir} A (s.commits info seed share at) x
  aside_commits info seed None at x q = (λ cause new tears. (q.0, tears.same ∙ q.1, q.2), (q, aside_more (does x (Changes (PutSeed info.epoch seed))) _ tt q))
  aside_commits info seed (Some share) at x q = (
    λ cause new tears. (q.0, tears.same ∙ q.1, q.2),
    (λ cause new tears. (q.0, tears.same ∙ q.1, q.2), (q, aside_more (does (does x (Changes (PutShare info.epoch share))) (Changes (PutSeed info.epoch seed))) _ tt q)),
  )

  unapplied : (judged_block c block st ≡ Applied → ⊥) → Throughout A (step c (Finalized block) st) w
  unapplied not =
      walk.delivered c A aside_more (epoch_of c.blocks_per_epoch (block.height + 1) - 1)
      (λ info at x q. aside_commits info (s.seed_for c info.epoch (lookup info.epoch (c.seen x.held).seeds)) (s.recovered_share c (c.seen x.held) info) at x q)
      (λ min under at x q. (λ cause new tears. (q.0, tears.same ∙ q.1, q.2), (λ cause new tears. (q.0, tears.same ∙ q.1, q.2), q))) block st w ([], sym (append-nil w.out), tt)
      (λ judged. absurd (not judged)) st.participation.stage

  -- WHERE IT DEALS, and goes to its end

  abbrev G : World → Type 0
  G x = TellsAll m0 w.out x

  module _ (is : st.participation.stage ≡ Deals) where
    begins : G w
    begins = ([], sym (append-nil w.out), λ key pair got. inl got)

    dealing_end : AtEnd G (b.deals_at c block st) w
    dealing_end =
        end_next G (d.deals c st) (λ st. if block.height + 1 == midpoint c.blocks_per_epoch st.participation.epoch then i.advanced c (s.begins_inclusion c (with_tip block st)) else Goes (with_tip block st)) w
        (deals_end c st w can.acks can.dealing agreed m0 w.out begins)
        (λ end mid done t. end_if G mid (block.height + 1 == midpoint c.blocks_per_epoch end.participation.epoch) (i.advanced c (s.begins_inclusion c (with_tip block end))) (Goes (with_tip block end))
        (λ e. along_to_end G (i.advanced c (s.begins_inclusion c (with_tip block end))) mid
        (walk.advanced c G (λ x line aside t. tells_line m0 w.out x line t) (s.begins_inclusion c (with_tip block end)) mid t)) (λ e. t))

    applied_end : AtEnd G (b.applies c block st) w
    applied_end = subst (λ (stage : Stage). AtEnd G (b.applies_in c block st stage) w) (sym is) dealing_end

    over_end : (tip : Option Tip) → AtEnd G (b.over_tip_in c block st tip) w
    over_end None = end_if G w (b.is_in_window c block st) (b.applies c block st) (Stops (OutOfWindow block.height)) (λ e. applied_end) (λ e. tt)
    over_end (Some t) =
        let low_one : Course Dir Fault (Live Dir) = if nat_le block.height t.height then Goes st else b.applies c block st in
        let child : Course Dir Fault (Live Dir) = if (block.height == t.height + 1) && not (bytes_eq block.parent t.digest) then Stops (DetachedBlock block.height) else low_one in
        let next : Course Dir Fault (Live Dir) = if nat_lt (t.height + 1) block.height then Stops (SkippedHeight (t.height + 1) block.height) else child in
        end_if G w ((block.height == t.height) && not (bytes_eq block.digest t.digest)) (Stops (ConflictingBlock block.height)) next (λ e. tt)
        (λ e. end_if G w (nat_lt (t.height + 1) block.height) (Stops (SkippedHeight (t.height + 1) block.height)) child (λ e. tt)
        (λ e. end_if G w ((block.height == t.height + 1) && not (bytes_eq block.parent t.digest)) (Stops (DetachedBlock block.height)) low_one (λ e. tt)
        (λ e. end_if G w (nat_le block.height t.height) (Goes st) (b.applies c block st) (λ e. begins) (λ e. applied_end))))

    step_end : AtEnd G (step c (Finalized block) st) w
    step_end = subst (λ (stage : Stage). AtEnd G (b.delivers_in c block st stage) w) (sym is)
        (end_if G w (s.is_past_range c block.height) (Stops HeightRange) (b.over_tip c block st) (λ e. tt) (λ e. over_end st.tip))

  -- A NODE'S STEP

  module _ (ended : Ended NodeStop (Live Dir)) (new : World) (run : EndsSo (node_step c (Delivers block) st) ended w new) where
    abbrev behind : RunsBehind (step c (Finalized block) st) ended w new
    behind = steps_run_behind c st (Finalized block) ended w new run

    -- nothing but its own dealing is given back that wasn't before
    pub gives_no_other : GivesNoOther m0 (IsOwnDealt c st) (recovered_in new.held)
    gives_no_other = subst (λ (h : Held). GivesNoOther m0 (IsOwnDealt c st) (recovered_in h)) (sym behind.held)
        (along_runs (IsNoOther m0 (IsOwnDealt c st)) (on_devices (step c (Finalized block) st)) behind.half w behind.mid (walks (IsOwnDealt c st) own_dealt) behind.run).gives

    told_behind : AreTold m0 w.out behind.mid → AreTold m0 w.out new
    told_behind told key pair got = elim (told key pair (subst (λ (h : Held). get (recovered_in h) key ≡ Some pair) behind.held got)) [
      | inl was ↦ inl was
      | inr its ↦ inr (record {
        front = its.front;
        back = its.back ++ behind.lines;
        out = behind.out ∙ ap (λ (ls : List Entry). ls ++ behind.lines) its.out ∙ append_assoc w.out (its.front ++ Recorded key.0 key.1 pair.0 pair.1 ∷ its.back) behind.lines
            ∙ ap (λ (ls : List Entry). w.out ++ ls) (append_assoc its.front (Recorded key.0 key.1 pair.0 pair.1 ∷ its.back) behind.lines);
      })
    ]

    -- no dealing is recorded by a block that is followed
    plain : (st.participation.stage ≡ Deals → ⊥) → AreTold m0 w.out behind.mid
    plain apart key pair got = elim ((along_runs (IsNoOther m0 (λ k v. ⊥)) (on_devices (step c (Finalized block) st)) behind.half w behind.mid (walks (λ k v. ⊥) (λ judged is. absurd (apart is))) behind.run).gives key pair got) [
      | inl was ↦ inl was
      | inr none ↦ absurd none
    ]

    half_told : (half : Ended Fault (Live Dir)) (end : Live Dir) → EndsBehind half (went end) → EndsSo (step c (Finalized block) st) half w behind.mid → AreTold m0 w.out behind.mid
    half_told (went x) end ends half_run = by_stage st.participation.stage refl
      where
        by_stage : (stage : Stage) → st.participation.stage ≡ stage → AreTold m0 w.out behind.mid
        by_stage Deals is = (end_is G (step c (Finalized block) st) w behind.mid x (step_end is) half_run).2
        by_stage Includes is = plain (λ deals. let no : ◌≡◌ {A = Stage} Includes Deals = sym is ∙ deals in cc)
        by_stage Follows is = plain (λ deals. let no : ◌≡◌ {A = Stage} Follows Deals = sym is ∙ deals in cc)
        by_stage Ends is = plain (λ deals. let no : ◌≡◌ {A = Stage} Ends Deals = sym is ∙ deals in cc)
    half_told (stopped fault) end ends half_run = absurd (went_stopped end (Faulted fault) ends)
    half_told (broken cause) end ends half_run = absurd (went_broken {F = NodeStop} end cause ends)

    -- where it isn't applied, nothing is, and nothing of dealings was said
    pub gives_before : (judged_block c block st ≡ Applied → ⊥) → (key : ℕ × ℕ) (pair : List ℕ × ℕ) → get (recovered_in new.held) key ≡ Some pair → get m0 key ≡ Some pair
    gives_before not key pair got =
        let q : IsNoOther m0 (λ k v. ⊥) behind.mid = along_runs (IsNoOther m0 (λ k v. ⊥)) (on_devices (step c (Finalized block) st)) behind.half w behind.mid (walks (λ k v. ⊥) (λ judged is. absurd (not judged))) behind.run in
        elim (q.gives key pair (subst (λ (h : Held). get (recovered_in h) key ≡ Some pair) behind.held got)) [ inl was ↦ was | inr none ↦ absurd none ]

    all_joined : (xs ys : List Entry) → AllByRecursion IsAside xs → AllByRecursion IsAside ys → AllByRecursion IsAside (xs ++ ys)
    all_joined [] ys front back = back
    all_joined (x ∷ xs) ys front back = (front.0, all_joined xs ys front.1 back)

    pub says_aside : (judged_block c block st ≡ Applied → ⊥) → (lines : List Entry) × (new.out ≡ w.out ++ lines) × AllByRecursion IsAside lines
    says_aside not =
        let front : A behind.mid = along_runs A (on_devices (step c (Finalized block) st)) behind.half w behind.mid (unapplied not) behind.run in
        (front.0 ++ behind.lines, behind.out ∙ ap (λ (ls : List Entry). ls ++ behind.lines) front.1 ∙ append_assoc w.out front.0 behind.lines, all_joined front.0 behind.lines front.2 behind.aside)

    -- .. and where the step went to its end, that was told
    pub tells_own : IfWentTo ended (λ end. AreTold m0 w.out new)
    tells_own = by_end ended refl
      where
        by_end : (its : Ended NodeStop (Live Dir)) → ended ≡ its → IfWentTo its (λ end. AreTold m0 w.out new)
        by_end (went end) is = told_behind (half_told behind.half end (subst (EndsBehind behind.half) is behind.ends) behind.run)
        by_end (stopped stop) is = tt
        by_end (broken cause) is = tt
