-- Along a step and a setup: what each line of the node's own keeps, each commit, each record and each prune, holds throughout.
use Rattle.std.proofs.Common.{◌≡◌, ◌≤◌, ℕ, zero, suc, Bool, false, nat_le, List, [], ◌∷◌, Option, Some, None, refl, sym, ◌∙◌, ap, subst}
use Rattle.std.specs.Prelude.{◌+◌, ◌-◌, ◌^◌, ◌==◌, ◌||◌, ◌&&◌, nat_lt, length, filter, if◌then◌else◌, not, Result, Ok, Err, is_some, is_none, option_and_then, option_map}
use Rattle.std.specs.Option.{option_map_or}
use Rattle.std.specs.Str.{bytes_eq}
use Rattle.dkg_values.specs.Rising.{lookup}
use Rattle.dkg_ceremony.specs.declared.deal.DealError.{DealError}
use Rattle.dkg_ceremony.specs.declared.output.Output.{Output}
use Rattle.dkg_ceremony.specs.declared.phase.Phase.{Phase}
use Rattle.dkg_ceremony.specs.declared.round.RoundParts.{RoundParts as Round}
use Rattle.dkg_ceremony.specs.declared.round.RoundError.{RoundError}
use Rattle.dkg_ceremony.specs.declared.signed_log.SignedDealerLog.{SignedDealerLog}
use Rattle.dkg_ceremony.specs.Outcomes.{LogMap}
use Rattle.dkg_ceremony.specs.Schedule.{epoch_of, midpoint, boundary}
use Rattle.dkg_types.specs.Blocks.{Block}
use Rattle.dkg_types.specs.BlockCodes.{info_of}
use Rattle.dkg_infos.specs.declared.entry.AnswerLine.TheVariants.{Unavailable}
use Rattle.dkg_infos.specs.declared.entry.Entry.{Entry}
use Rattle.dkg_infos.specs.declared.entry.Entry.TheVariants.{Answer}
use Rattle.dkg_infos.specs.declared.entry.Why.TheVariants.{Finished}
use Rattle.dkg_infos.specs.declared.fault.Fault.{Fault}
use Rattle.dkg_infos.specs.declared.fault.Fault.TheVariants.{HeightRange, InvalidParticipants, DirectoryMismatch, LocalState, ConflictingBlock, DetachedBlock, SkippedHeight, OutOfWindow, MissingEpochInfo, WrongEpoch}
use Rattle.dkg_infos.specs.declared.fault.LocalCause.TheVariants.{OutcomeOmitted}
use Rattle.dkg_infos.specs.declared.fault.ParticipantsCause.TheVariants.{ProviderEmpty, ProviderAbove}
use Rattle.dkg_infos.specs.declared.info.EpochInfo.{EpochInfo}
use Rattle.dkg_infos.specs.declared.participants.Participants.{Participants}
use Rattle.dkg_infos.specs.declared.participants.ParticipantsError.{ParticipantsError}
use Rattle.dkg_infos.specs.NextInfos.{info_by}
use Rattle.dkg_types.specs.PayloadCodes.{its_log}
use Rattle.dkg_infos.specs.Validation.{validation}
use Rattle.dkg_store.specs.Acts.{World, says}
use Rattle.dkg_core.specs.Sources.{Tip}
use Rattle.dkg_core.specs.Courses.{Course, Goes, Stops, bind, Throughout, Finishes}
use Rattle.dkg_core.specs.Fixed.{Fixed, OneShot, has}
use Rattle.dkg_core.specs.Live.{Live, Dealer, Seat, Plays, Watches, Stage, Deals, Includes, Follows, Ends, Request, Job, Verified, VerifiedLogs, Artifact, awaited_height, records_of_epoch, phase_of, with_tip, with_inclusion, with_queue, is_last_height, GaveNone, with_told}
use Rattle.dkg_core.specs.Logs.{canonical, filled_by, is_accepted, logs_of}
use Rattle.dkg_core.specs.Setup as s
use Rattle.dkg_core.specs.Dealing as d
use Rattle.dkg_core.specs.Including as i
use Rattle.dkg_core.specs.Blocks as b
use Rattle.dkg_core.specs.Behind.{IsAside}
use Rattle.dkg_core.specs.Forms.{Judged, Refusal, Passed, Applied, judged_over_tip, judged_block}
use Rattle.dkg_core.proofs.Running.{along_next, along_end}
use Rattle.dkg_core.proofs.Upkeep.{along_if, along_option}

module _ {Dir : Type 0} (c : Fixed Dir) (P : World → Type 0) (tell : (w : World) (line : Entry) → IsAside line → P w → P (says w line)) where
  pub then_next : (course : Course Dir Fault (Live Dir)) (next : Live Dir → Course Dir Fault (Live Dir)) (w : World) → Throughout P course w → ((st : Live Dir) (mid : World) → P mid → Throughout P (next st) mid)
      → Throughout P (bind course next) w
  then_next course next w t more = along_next P course next w t (λ st mid done. more st mid (along_end P course w mid st t done))

  -- REQUESTS AND ARTIFACTS

  pub rounds : (st : Live Dir) (f : Round → Course Dir Fault (Live Dir)) (w : World) → P w → ((round : Round) → Throughout P (f round) w) → Throughout P (d.with_round st f) w
  rounds st f w q each = along_option P w st.participation.round f (Goes st) (λ round e. each round) (λ e. q)

  pub gives : (request height : ℕ) (log : Option SignedDealerLog) (st : Live Dir) (w : World) → P w → Throughout P (i.gives_log c request height log st) w
  gives request height None st w q = (q, tell w _ tt q)
  gives request height (Some log) st w q = (q, tell w _ tt q)

  abbrev Each : World → i.Continuation Dir → Type 0
  Each w next = (made : Artifact Dir) (st : Live Dir) → Throughout P (next made st) w

  with_directory : (info : EpochInfo Dir) (course : Course Dir Fault (Live Dir)) (w : World) → P w → Throughout P course w → Throughout P (i.with_directory c info course) w
  with_directory info course w q l = along_if P w (c.directories.matches info.directory (i.info_peers info)) course (Stops (DirectoryMismatch info.epoch)) (λ e. l) (λ e. q)

  share_by : (info : EpochInfo Dir) (result : Option Verified) (f : Option ℕ → Course Dir Fault (Live Dir)) (w : World) → ((share : Option ℕ) → Throughout P (f share) w) → Throughout P (i.share_by c info result f) w
  share_by info (Some found) f w each = each found.share
  share_by info None f w each =
      along_if P w (has info.output.players c.me) (s.looks c (λ seen. f (lookup info.epoch seen.shares))) (f None) (λ e. each (lookup info.epoch (c.seen w.held).shares)) (λ e. each None)

  with_provided : (epoch : ℕ) (course : Course Dir Fault (Live Dir)) (w : World) → P w → Throughout P course w → Throughout P (i.with_provided c epoch course) w
  with_provided epoch course w q l =
      let n = length (c.provided.participants epoch) in
      let above : Course Dir Fault (Live Dir) = Stops (InvalidParticipants (ProviderAbove n c.limit)) in
      let none : Course Dir Fault (Live Dir) = Stops (InvalidParticipants ProviderEmpty) in
      along_if P w (nat_le (2 ^ 64) epoch) (Stops HeightRange) (if n == 0 then none else if nat_lt c.limit n then above else course) (λ e. q)
      (λ e. along_if P w (n == 0) none (if nat_lt c.limit n then above else course) (λ e. q) (λ e. along_if P w (nat_lt c.limit n) above course (λ e. q) (λ e. l)))

  derives_next : (info : EpochInfo Dir) (r : VerifiedLogs) (st : Live Dir) (next : i.Continuation Dir) (w : World) → P w → Each w next → Throughout P (i.derives_next c info r st next) w
  derives_next info r st next w q each =
      let made = info_by c.provided info (option_map (λ found. found.output) r.result) in
      with_provided (info.epoch + 2) (i.share_by c info r.result (λ share. i.with_directory c made (next (record { info = Some made; share = share }) st))) w q
      (share_by info r.result (λ share. i.with_directory c made (next (record { info = Some made; share = share }) st)) w
      (λ share. with_directory made (next (record { info = Some made; share = share }) st) w q (each (record { info = Some made; share = share }) st)))

  once_with : (once : OneShot Dir) (output : Output) (share : Option ℕ) (st : Live Dir) (next : i.Continuation Dir) (w : World) → P w → Each w next → Throughout P (i.oneshot_with c once output share st next) w
  once_with once output None st next w q each = q
  once_with once output (Some share) st next w q each =
      with_directory (i.oneshot_made once output) (next (record { info = Some (i.oneshot_made once output); share = Some share }) st) w q (each (record { info = Some (i.oneshot_made once output); share = Some share }) st)

  derives : (once : Option (OneShot Dir)) (r : VerifiedLogs) (st : Live Dir) (next : i.Continuation Dir) (w : World) → P w → Each w next → Throughout P (i.derives c once r st next) w
  derives (Some once) r st next w q each =
      along_option P w r.result (λ found. i.oneshot_with c once found.output found.share st (i.keeping_artifact r.logs next)) (i.keeping_artifact r.logs next (record { info = None; share = None }) st)
      (λ found e. once_with once found.output found.share st (i.keeping_artifact r.logs next) w q (λ made st. each made (i.with_cached r.logs made st)))
      (λ e. each (record { info = None; share = None }) (i.with_cached r.logs (record { info = None; share = None }) st))
  derives None r st next w q each =
      along_option P w st.participation.current (λ info. i.derives_next c info r st (i.keeping_artifact r.logs next)) (Stops HeightRange)
      (λ info e. derives_next info r st (i.keeping_artifact r.logs next) w q (λ made st. each made (i.with_cached r.logs made st))) (λ e. q)

  artifact_by : (r : VerifiedLogs) (cached : Option (Artifact Dir)) (st : Live Dir) (next : i.Continuation Dir) (w : World) → P w → Each w next → Throughout P (i.artifact_by c r cached st next) w
  artifact_by r (Some made) st next w q each = each made st
  artifact_by r None st next w q each = derives c.oneshot r st next w q each

  pub artifact : (r : VerifiedLogs) (st : Live Dir) (next : i.Continuation Dir) (w : World) → P w → Each w next → Throughout P (i.artifact c r st next) w
  artifact r st next w q each = artifact_by r (i.cached_for st.inclusion.cached r.logs) st next w q each

  starts_unless : (job : Job) (waiter refused : Option ℕ) (st : Live Dir) (w : World) → P w → Throughout {Dir = Dir} P (i.starts_unless job waiter refused st) w
  starts_unless job waiter (Some refused) st w q = q
  starts_unless job waiter None st w q = q

  pub starts : (round : Round) (logs : LogMap) (waiter : Option ℕ) (st : Live Dir) (w : World) → P w → Throughout P (i.starts_verifying c round logs waiter st) w
  starts round logs waiter st w q = starts_unless (i.job_for c round logs st) waiter (if i.can_finish c round logs st then s.refused_in c round st else None) st w q

  asks_for : (round : Round) (request : ℕ) (logs : LogMap) (cached : Option (Artifact Dir)) (retained : Option VerifiedLogs) (st : Live Dir) (w : World) → P w
      → Throughout P (i.asks_for_by c round request logs cached retained st) w
  asks_for round request logs (Some made) retained st w q = (q, tell w _ tt q)
  asks_for round request logs None (Some r) st w q = artifact r st (i.answers_request c request) w q (λ made st. (q, tell w _ tt q))
  asks_for round request logs None None st w q = starts round logs (Some request) st w q

  fed : (round : Round) (request : ℕ) (st : Live Dir) (f : i.Fed) (w : World) → P w → Throughout P (i.fed c round request st f) w
  fed round request st i.Need w q = q
  fed round request st (i.Lacks reason) w q = (q, tell w _ tt q)
  fed round request st (i.Found logs) w q =
      let all = filled_by (canonical c st) logs in
      asks_for round request all (i.cached_for st.inclusion.cached all) (i.retained_for st.inclusion.retained all) st w q

  reads_first : (round : Round) (next : Live Dir → Course Dir Fault (Live Dir)) (st : Live Dir) (stage : Stage) (running : Option Job) (queue : List (Request Dir)) (w : World) → P w
      → ((st : Live Dir) (w : World) → P w → Throughout P (next st) w) → Throughout P (i.reads_first_in c round next st stage running queue) w
  reads_first round next st Deals running queue w q each = q
  reads_first round next st Includes None [] w q each = q
  reads_first round next st Includes None (r ∷ rs) w q each =
      along_if P w (i.is_need (i.read_of c round st r)) (Goes st) (bind (i.fed c round r.number (with_queue rs st) (i.read_of c round st r)) next)
      (λ e. q) (λ e. then_next (i.fed c round r.number (with_queue rs st) (i.read_of c round st r)) next w (fed round r.number (with_queue rs st) (i.read_of c round st r) w q) each)
  reads_first round next st Includes (Some job) queue w q each = q
  reads_first round next st Follows running queue w q each = q
  reads_first round next st Ends running queue w q each = q

  advances : (fuel : ℕ) (st : Live Dir) (w : World) → P w → Throughout P (i.advances c fuel st) w
  advances zero st w q = q
  advances (suc fuel) st w q =
      rounds st (λ round. i.reads_first c round (λ st. i.advances c fuel st) st) w q
      (λ round. reads_first round (λ st. i.advances c fuel st) st st.participation.stage st.inclusion.running st.inclusion.queue w q (λ st w q. advances fuel st w q))

  pub advanced : (st : Live Dir) (w : World) → P w → Throughout P (i.advanced c st) w
  advanced st w q = advances (length st.inclusion.queue) st w q

  pub asks_in : (request : ℕ) (st : Live Dir) (stage : Stage) (w : World) → P w → Throughout P (i.asks_in c request st stage) w
  asks_in request st Deals w q = q
  asks_in request st Includes w q = advanced (i.queued request st) w q
  asks_in request st Follows w q = (q, tell w _ tt q)
  asks_in request st Ends w q = (q, tell w _ tt q)

  pub cancels : (request : ℕ) (st : Live Dir) (w : World) → P w → Throughout P (i.cancels c request st) w
  cancels request st w q =
      along_if P w (option_map_or (λ n. n == request) st.inclusion.waiter false) (Goes (with_inclusion (record st.inclusion { waiter = None }) st))
      (i.advanced c (with_queue (filter (λ r. not (r.number == request)) st.inclusion.queue) st)) (λ e. q) (λ e. advanced (with_queue (filter (λ r. not (r.number == request)) st.inclusion.queue) st) w q)

  completes : (r : VerifiedLogs) (st : Live Dir) (waiter : Option ℕ) (w : World) → P w → Throughout P (i.completes_in c r st waiter) w
  completes r st None w q = q
  completes r st (Some request) w q = artifact r st (λ made st. bind (i.answers_request c request made st) (λ st. Goes (i.retains c r st))) w q (λ made st. (q, tell w _ tt q))

  pub ends_verifying : (handed : Option VerifiedLogs) (st : Live Dir) (running : Option Job) (w : World) → P w → Throughout P (i.ends_verifying_in c handed st running) w
  ends_verifying handed st None w q = q
  ends_verifying handed st (Some job) w q = completes (i.job_result_of c handed job) st st.inclusion.waiter w q

  pub works : (handed : Option VerifiedLogs) (st : Live Dir) (w : World) → P w → Throughout P (i.works c handed st) w
  works handed st w q =
      along_if P w (is_some st.inclusion.running) (bind (i.ends_verifying c handed st) (λ st. i.advanced c st)) (Goes st)
      (λ e. then_next (i.ends_verifying c handed st) (λ st. i.advanced c st) w (ends_verifying handed st st.inclusion.running w q) (λ st w q. advanced st w q)) (λ e. q)

  -- A SETUP

  pub registers : (info : EpochInfo Dir) (share : Option ℕ) (st : Live Dir) (w : World) → P w → Throughout P (s.registers c info share st) w
  registers info share st w q = (q, tell w _ tt q)

  takes_part : (round : Round) (phase : Phase) (dealer : Option Dealer) (seat : Seat) (st : Live Dir) (w : World) → P w → Throughout P (s.takes_part c round phase dealer seat st) w
  takes_part round phase dealer seat st w q = (q, tell w _ tt q)

  sits_down : (round : Round) (phase : Phase) (dealer : Option Dealer) (refused : Option ℕ) (st : Live Dir) (w : World) → P w → Throughout P (s.sits_down c round phase dealer refused st) w
  sits_down round phase dealer (Some refused) st w q = q
  sits_down round phase dealer None st w q = takes_part round phase dealer Plays st w q

  makes_player : (round : Round) (phase : Phase) (dealer : Option Dealer) (st : Live Dir) (w : World) → P w → Throughout P (s.makes_player c round phase dealer st) w
  makes_player round phase dealer st w q =
      along_if P w (not (has round.players c.me) || s.is_lost c round (records_of_epoch round.number st.records.dealings) (logs_of st round.number))
      (s.takes_part c round phase dealer Watches st) (s.sits_down c round phase dealer (s.refused_in c round st) st)
      (λ e. takes_part round phase dealer Watches st w q) (λ e. sits_down round phase dealer (s.refused_in c round st) st w q)

  dealt_by : (round : Round) (phase : Phase) (st : Live Dir) (dealt : Result (List ℕ × List (ℕ × ℕ)) DealError) (w : World) → P w → Throughout P (s.dealt_by c round phase st dealt) w
  dealt_by round phase st (Ok dealt) w q = makes_player round phase (s.dealer_for phase round (s.dealer_from c round st dealt)) st w q
  dealt_by round phase st (Err refused) w q = q

  in_round : (phase : Phase) (share : Option ℕ) (seed : List ℕ) (st : Live Dir) (round : Result Round RoundError) (w : World) → P w → Throughout P (s.in_round c phase share seed st round) w
  in_round phase share seed st (Err e) w q = q
  in_round phase share seed st (Ok round) w q =
      along_if P w (s.may_deal c round share st) (s.dealt_by c round phase st (c.rules.deal_of round c.me share seed)) (s.makes_player c round phase None st)
      (λ e. dealt_by round phase st (c.rules.deal_of round c.me share seed) w q) (λ e. makes_player round phase None st w q)

  pub draws_up : (p : Participants) (previous : Option Output) (share : Option ℕ) (seed : List ℕ) (st : Live Dir) (w : World) → P w → Throughout P (s.draws_up c p previous share seed st) w
  draws_up p previous share seed st w q =
      in_round (phase_of c (awaited_height st)) share seed st (c.rules.round_of c.namespace st.participation.epoch previous c.mode c.reveal p.dealers p.players) w q

  pub behind_prune : (floor : Option ℕ) (info : EpochInfo Dir) (share : Option ℕ) (seed : List ℕ) (st : Live Dir) (w : World) → P w
      → Throughout P (if s.is_late_floor c floor then s.follows c st else s.draws_up c (s.participants_of info) (Some info.output) share seed st) w
  behind_prune floor info share seed st w q =
      along_if P w (s.is_late_floor c floor) (s.follows c st) (s.draws_up c (s.participants_of info) (Some info.output) share seed st)
      (λ e. (q, tell w _ tt q)) (λ e. draws_up (s.participants_of info) (Some info.output) share seed st w q)

  -- a commit leaves the awaited epoch
  same_epoch : (standing : s.Standing) (info : EpochInfo Dir) (seed : List ℕ) (share : Option ℕ) (st end : Live Dir) (w mid : World) → Finishes (s.commits_new standing c info seed share st) end w mid
      → end.participation.epoch ≡ st.participation.epoch
  same_epoch s.WasCommitted info seed share st end w mid done = ap (λ (x : Live Dir). x.participation.epoch) done.1
  same_epoch s.Uncommitted info seed None st end w mid done = ap (λ (x : Live Dir). x.participation.epoch) done.1
  same_epoch s.Uncommitted info seed (Some share) st end w mid done = ap (λ (x : Live Dir). x.participation.epoch) done.1

  -- what is committed where the devices were read
  abbrev CommitsRead : Type 0
  CommitsRead = (info : EpochInfo Dir) (st : Live Dir) (w : World) → P w
      → Throughout {Dir = Dir} P (s.commits info (s.seed_for c info.epoch (lookup info.epoch (c.seen w.held).seeds)) (s.recovered_share c (c.seen w.held) info) st) w

  module _ (most : ℕ) (commits : CommitsRead) (prunes : (min : ℕ) → min ≤ most → (st : Live Dir) (w : World) → P w → Throughout P (s.prunes min st) w) where
    module _ (epoch : ℕ) (low : epoch - 1 ≤ most) where
      commits_new : (standing : s.Standing) (info : EpochInfo Dir) (st : Live Dir) (w : World) → P w
          → Throughout P (s.commits_new standing c info (s.seed_for c info.epoch (lookup info.epoch (c.seen w.held).seeds)) (s.recovered_share c (c.seen w.held) info) st) w
      commits_new s.WasCommitted info st w q = q
      commits_new s.Uncommitted info st w q =
          let seed = s.seed_for c info.epoch (lookup info.epoch (c.seen w.held).seeds) in
          let share = s.recovered_share c (c.seen w.held) info in
          then_next (s.commits info seed share st) (λ st. s.registers c info share st) w (commits info st w q) (λ st w q. registers info share st w q)

      with_share_and_seed : (floor : Option ℕ) (standing : s.Standing) (info : EpochInfo Dir) (st : Live Dir) (w : World) → st.participation.epoch ≡ epoch → P w
          → Throughout P (s.with_share_and_seed c floor standing info (s.recovered_share c (c.seen w.held) info) (s.seed_for c info.epoch (lookup info.epoch (c.seen w.held).seeds)) st) w
      with_share_and_seed floor standing info st w is q =
          let seed = s.seed_for c info.epoch (lookup info.epoch (c.seen w.held).seeds) in
          let share = s.recovered_share c (c.seen w.held) info in
          let last : Live Dir → Course Dir Fault (Live Dir) = λ st. if s.is_late_floor c floor then s.follows c st else s.draws_up c (s.participants_of info) (Some info.output) share seed st in
          let first = s.commits_new standing c info seed share st in
          let goes = commits_new standing info st w q in
          along_next P first (λ st. bind (s.prunes (st.participation.epoch - 1) st) last) w goes
          (λ end mid done. then_next (s.prunes (end.participation.epoch - 1) end) last mid
          (prunes (end.participation.epoch - 1) (subst (λ (n : ℕ). n - 1 ≤ most) (sym (same_epoch standing info seed share st end w mid done ∙ is)) low) end mid (along_end P first w mid end goes done))
          (λ st w q. behind_prune floor info share seed st w q))

      judged : (floor : Option ℕ) (standing : s.Standing) (info : EpochInfo Dir) (st : Live Dir) (valid : Result (Unit {0}) ParticipantsError) (w : World) → st.participation.epoch ≡ epoch → P w
          → Throughout P (s.info_judged c floor standing info st valid) w
      judged floor standing info st (Err e) w is q = q
      judged floor standing info st (Ok passed) w is q = with_share_and_seed floor standing info st w is q

      with_info : (floor : Option ℕ) (standing : s.Standing) (info : EpochInfo Dir) (st : Live Dir) (w : World) → st.participation.epoch ≡ epoch → P w → Throughout P (s.with_info c floor standing info st) w
      with_info floor standing info st w is q =
          along_if P w (info.epoch == st.participation.epoch) (s.info_judged c floor standing info st (validation (s.participants_of info) c.limit (Some info.output) info.epoch)) (Stops (WrongEpoch st.participation.epoch info.epoch))
          (λ e. judged floor standing info st (validation (s.participants_of info) c.limit (Some info.output) info.epoch) w is q) (λ e. q)

      from_boundary : (found : Option (Block Dir)) (st : Live Dir) (w : World) → st.participation.epoch ≡ epoch → P w → Throughout P (s.from_boundary c found st) w
      from_boundary None st w is q = (q, tell w _ tt q)
      from_boundary (Some block) st w is q =
          along_option P w (info_of block.payload) (λ info. s.with_info c None s.Uncommitted info st) (Stops (MissingEpochInfo block.height)) (λ info e. with_info None s.Uncommitted info st w is q) (λ e. q)

      from_material : (m : Option (EpochInfo Dir × ℕ)) (st : Live Dir) (w : World) → st.participation.epoch ≡ epoch → P w → Throughout P (s.from_material c m st) w
      from_material (Some m) st w is q = with_info (Some m.1) s.Uncommitted m.0 st w is q
      from_material None st w is q = from_boundary (c.source.block (boundary c.blocks_per_epoch st.participation.epoch)) st w is q

      sets_up : (m : Option (EpochInfo Dir × ℕ)) (committed : Option (EpochInfo Dir)) (st : Live Dir) (w : World) → st.participation.epoch ≡ epoch → P w → Throughout P (s.sets_up_by c m committed st) w
      sets_up m (Some info) st w is q = with_info (option_map (λ m. m.1) m) s.WasCommitted info st w is q
      sets_up m None st w is q = from_material m st w is q

    pub setup : (m : Option (EpochInfo Dir × ℕ)) (st : Live Dir) (w : World) → (epoch_of c.blocks_per_epoch (awaited_height st) - 1) ≤ most → P w → Throughout P (s.setup c m st) w
    setup m st w low q =
        along_if P w (s.is_past_range c (awaited_height st)) (Stops HeightRange) (s.sets_up c m st) (λ e. q)
        (λ e. sets_up (epoch_of c.blocks_per_epoch (awaited_height st)) low m (s.committed_info (s.anew c st)) (s.anew c st) w refl q)

    -- A BLOCK, by what dealing it keeps, recording a log of it, and committing any share

    module _ (block : Block Dir) (low : (epoch_of c.blocks_per_epoch (block.height + 1) - 1) ≤ most) where
      follows_into : (info : EpochInfo Dir) (st : Live Dir) (w : World) → P w → Throughout P (b.follows_into c block info st) w
      follows_into info st w q =
          let seed = s.seed_for c info.epoch (lookup info.epoch (c.seen w.held).seeds) in
          let share = s.recovered_share c (c.seen w.held) info in
          then_next (s.commits info seed share st) (λ st. bind (s.registers c info share st) (λ st. s.setup c None (with_tip block st))) w (commits info st w q)
          (λ st w q. then_next (s.registers c info share st) (λ st. s.setup c None (with_tip block st)) w (registers info share st w q) (λ st w q. setup None (with_tip block st) w low q))

      carried : (f : EpochInfo Dir → Course Dir Fault (Live Dir)) (w : World) → P w → ((info : EpochInfo Dir) → Throughout P (f info) w) → Throughout P (b.carried c block f) w
      carried f w q each =
          along_option P w (info_of block.payload) (λ info. if info.epoch == b.expected_epoch c block.height then f info else Stops (WrongEpoch (b.expected_epoch c block.height) info.epoch)) (Stops (MissingEpochInfo block.height))
          (λ info e. along_if P w (info.epoch == b.expected_epoch c block.height) (f info) (Stops (WrongEpoch (b.expected_epoch c block.height) info.epoch)) (λ e. each info) (λ e. q)) (λ e. q)

      pub follows_at : (st : Live Dir) (w : World) → P w → Throughout P (b.follows_at c block st) w
      follows_at st w q =
          along_if P w (is_last_height c block.height) (b.carried c block (λ info. b.follows_into c block info st)) (Goes (with_tip block st))
          (λ e. carried (λ info. b.follows_into c block info st) w q (λ info. follows_into info st w q)) (λ e. q)

      unanswered : (outcome : Option (EpochInfo Dir)) (requests : List (Request Dir)) (st : Live Dir) (w : World) → awaited_height st ≡ block.height + 1 → P w
          → Throughout P (bind (b.answers_all requests st) (λ st. if is_some c.oneshot then b.ends_once c outcome st else s.setup c None st)) w
      unanswered outcome [] st w is q =
          along_if P w (is_some c.oneshot) (b.ends_once c outcome (with_queue [] st)) (s.setup c None (with_queue [] st)) (λ e. (q, tell w _ tt q))
          (λ e. setup None (with_queue [] st) w (subst (λ (height : ℕ). (epoch_of c.blocks_per_epoch height - 1) ≤ most) (sym is) low) q)
      unanswered outcome (r ∷ rs) st w is q =
          (q, unanswered outcome rs (with_told r.number (GaveNone Finished) st) (says w (Answer r.number (Unavailable Finished))) is (tell w (Answer r.number (Unavailable Finished)) tt q))

      passes_on : (outcome : Option (EpochInfo Dir)) (st : Live Dir) (w : World) → P w → Throughout P (b.passes_on c block outcome st) w
      passes_on outcome st w q = unanswered outcome st.inclusion.queue (with_tip block st) w refl q

      -- .. while including
      abbrev CommitsAny : Type 0
      CommitsAny = (info : EpochInfo Dir) (share : Option ℕ) (st : Live Dir) (w : World) → P w
          → Throughout {Dir = Dir} P (s.commits info (s.seed_for c info.epoch (lookup info.epoch (c.seen w.held).seeds)) share st) w

      -- its log is recorded
      abbrev Records : Live Dir → World → SignedDealerLog → Type 0
      Records st w log = (epoch : ℕ) → Throughout {Dir = Dir} P (b.records_log epoch block.height log st) w

      observes : (round : Round) (st : Live Dir) (log : Option SignedDealerLog) (w : World) → ((found : SignedDealerLog) → log ≡ Some found → Records st w found) → P w → Throughout P (b.observes c round block st log) w
      observes round st None w records q = q
      observes round st (Some log) w records q =
          along_if P w (is_accepted c round log) (bind (b.records_log round.number block.height log st) (λ st. Goes (b.without_own_log c log.dealer st))) (Goes st)
          (λ e. then_next (b.records_log round.number block.height log st) (λ st. Goes (b.without_own_log c log.dealer st)) w (records log refl round.number) (λ st w q. q)) (λ e. q)

      abbrev RecordsIts : Live Dir → World → Type 0
      RecordsIts st w = (found : SignedDealerLog) → option_and_then its_log block.payload ≡ Some found → Records st w found

      includes : (round : Round) (st : Live Dir) (w : World) → RecordsIts st w → P w → Throughout P (b.includes c round block st) w
      includes round st w records q =
          then_next (b.observes c round block st (option_and_then its_log block.payload)) (λ st. i.advanced c (with_tip block (b.unserved block.height st))) w
          (observes round st (option_and_then its_log block.payload) w records q) (λ st w q. advanced (with_tip block (b.unserved block.height st)) w q)

      module _ (commits_any : CommitsAny) where
        takes_over : (info : EpochInfo Dir) (share : Option ℕ) (st : Live Dir) (w : World) → P w → Throughout P (b.takes_over c block info share st) w
        takes_over info share st w q =
            let seed = s.seed_for c info.epoch (lookup info.epoch (c.seen w.held).seeds) in
            then_next (s.commits info seed share st) (λ st. bind (if is_some c.oneshot then Goes st else s.registers c info share st) (λ st. b.passes_on c block (Some info) st)) w (commits_any info share st w q)
            (λ st w q. then_next (if is_some c.oneshot then Goes st else s.registers c info share st) (λ st. b.passes_on c block (Some info) st) w
            (along_if P w (is_some c.oneshot) (Goes st) (s.registers c info share st) (λ e. q) (λ e. registers info share st w q)) (λ st w q. passes_on (Some info) st w q))

        concludes : (made : Artifact Dir) (st : Live Dir) (w : World) → P w → Throughout P (b.concludes c block made st) w
        concludes made st w q =
            let omits : Course Dir Fault (Live Dir) = Stops (LocalState OutcomeOmitted) in
            along_if P w (is_some c.oneshot && is_none block.payload) (if is_some made.info then omits else b.passes_on c block None st) (b.carried c block (λ info. b.takes_over c block info (b.share_for c info made) st))
            (λ e. along_if P w (is_some made.info) omits (b.passes_on c block None st) (λ e. q) (λ e. passes_on None st w q))
            (λ e. carried (λ info. b.takes_over c block info (b.share_for c info made) st) w q (λ info. takes_over info (b.share_for c info made) st w q))

        derives_now : (round : Round) (logs : LogMap) (r : Option VerifiedLogs) (st : Live Dir) (w : World) → P w → Throughout P (b.derives_at_block c round block logs r st) w
        derives_now round logs (Some r) st w q = artifact r st (b.concludes c block) w q (λ made st. concludes made st w q)
        derives_now round logs None st w q =
            let found = i.verified c (i.job_for c round logs st) in
            then_next (i.starts_verifying c round logs None st) (λ st. i.artifact c found (i.retains c found st) (b.concludes c block)) w (starts round logs None st w q)
            (λ st w q. artifact found (i.retains c found st) (b.concludes c block) w q (λ made st. concludes made st w q))

        concludes_by : (round : Round) (logs : LogMap) (before now : Option (Artifact Dir)) (st : Live Dir) (w : World) → P w → Throughout P (b.concludes_by c round block logs before now st) w
        concludes_by round logs (Some made) now st w q = concludes made st w q
        concludes_by round logs None (Some made) st w q = concludes made st w q
        concludes_by round logs None None st w q = derives_now round logs (i.retained_for st.inclusion.retained logs) st w q

        pub final_block : (round : Round) (st : Live Dir) (w : World) → P w → Throughout P (b.final_block c round block st) w
        final_block round st w q =
            let logs = canonical c st in
            let before = i.cached_for st.inclusion.cached logs in
            then_next (i.ends_verifying c None st) (λ st. b.concludes_by c round block logs before (i.cached_for st.inclusion.cached logs) st) w (ends_verifying None st st.inclusion.running w q)
            (λ st w q. concludes_by round logs before (i.cached_for st.inclusion.cached logs) st w q)

        -- whichever it is
        pub including : (st : Live Dir) (w : World) → RecordsIts st w → P w
            → Throughout P (d.with_round st (λ round. if is_last_height c block.height then b.final_block c round block st else b.includes c round block st)) w
        including st w records q =
            rounds st (λ round. if is_last_height c block.height then b.final_block c round block st else b.includes c round block st) w q
            (λ round. along_if P w (is_last_height c block.height) (b.final_block c round block st) (b.includes c round block st) (λ e. final_block round st w q) (λ e. includes round st w records q))

      pub ends_dealing : (st : Live Dir) (w : World) → P w → Throughout P (d.deals c st) w → Throughout P (b.deals_at c block st) w
      ends_dealing st w q dealt =
          then_next (d.deals c st) (λ st. if block.height + 1 == midpoint c.blocks_per_epoch st.participation.epoch then i.advanced c (s.begins_inclusion c (with_tip block st)) else Goes (with_tip block st)) w
          dealt (λ st w q. along_if P w (block.height + 1 == midpoint c.blocks_per_epoch st.participation.epoch) (i.advanced c (s.begins_inclusion c (with_tip block st))) (Goes (with_tip block st))
          (λ e. advanced (s.begins_inclusion c (with_tip block st)) w q) (λ e. q))

    -- A DELIVERED BLOCK, by what applying it keeps

    module _ (block : Block Dir) (st : Live Dir) (w : World) (q : P w) (applies : judged_block c block st ≡ Applied → Throughout P (b.applies c block st) w) where
      over_tip : (tip : Option Tip) → judged_block c block st ≡ judged_over_tip c block st tip → Throughout P (b.over_tip_in c block st tip) w
      over_tip None r =
          along_if P w (b.is_in_window c block st) (b.applies c block st) (Stops (OutOfWindow block.height))
          (λ e. applies (r ∙ ap (λ (t : Bool). if t then Applied else Refusal (OutOfWindow block.height)) e)) (λ e. q)
      over_tip (Some t) r =
          let conflicts = (block.height == t.height) && not (bytes_eq block.digest t.digest) in
          let skips = nat_lt (t.height + 1) block.height in
          let detached = (block.height == t.height + 1) && not (bytes_eq block.parent t.digest) in
          let low = nat_le block.height t.height in
          let third : Judged = if low then Passed else Applied in
          let second : Judged = if detached then Refusal (DetachedBlock block.height) else third in
          let first : Judged = if skips then Refusal (SkippedHeight (t.height + 1) block.height) else second in
          let low_one : Course Dir Fault (Live Dir) = if low then Goes st else b.applies c block st in
          let child : Course Dir Fault (Live Dir) = if detached then Stops (DetachedBlock block.height) else low_one in
          let next : Course Dir Fault (Live Dir) = if skips then Stops (SkippedHeight (t.height + 1) block.height) else child in
          along_if P w conflicts (Stops (ConflictingBlock block.height)) next (λ e. q)
          (λ e. along_if P w skips (Stops (SkippedHeight (t.height + 1) block.height)) child (λ e1. q)
          (λ e1. along_if P w detached (Stops (DetachedBlock block.height)) low_one (λ e2. q)
          (λ e2. along_if P w low (Goes st) (b.applies c block st) (λ e3. q)
          (λ e3. applies (r ∙ ap (λ (x : Bool). if x then Refusal (ConflictingBlock block.height) else first) e ∙ ap (λ (x : Bool). if x then Refusal (SkippedHeight (t.height + 1) block.height) else second) e1
          ∙ ap (λ (x : Bool). if x then Refusal (DetachedBlock block.height) else third) e2 ∙ ap (λ (x : Bool). if x then Passed else Applied) e3)))))

      in_reach : Throughout {Dir = Dir} P (if s.is_past_range c block.height then Stops HeightRange else b.over_tip c block st) w
      in_reach =
          along_if P w (s.is_past_range c block.height) (Stops HeightRange) (b.over_tip c block st) (λ e. q)
          (λ e. over_tip st.tip (ap (λ (x : Bool). if x then Refusal HeightRange else judged_over_tip c block st st.tip) e))

      pub delivered : (stage : Stage) → Throughout P (b.delivers_in c block st stage) w
      delivered Deals = in_reach
      delivered Includes = in_reach
      delivered Follows = in_reach
      delivered Ends = q
