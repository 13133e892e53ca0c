-- A node commits just the epochs that it comes into: by an opening that has the block which begins it, and by a step over the last block of the epoch below. Each such step tells so that is completed.
use Rattle.std.proofs.Common.{◌≡◌, ◌⊎◌, inl, inr, ℕ, zero, suc, Bool, true, false, List, [], ◌∷◌, ◌++◌, ◌+◌, ◌*◌, ◌<◌, ◌≤◌, Option, Some, None, refl, sym, ◌∙◌, ap, subst, add-one, suc-mul, arith}
use Rattle.std.specs.Prelude.{◌-◌, ◌==◌, ◌&&◌, ◌^◌, if◌then◌else◌, is_none, is_some, option_map, nat_le, nat_lt, length, not, slice_get, IsSomeAnd, Contains, Ok, Err, Result}
use Rattle.std.specs.List.{AllByRecursion}
use Rattle.std.specs.Option.{option_map_or}
use Rattle.std.proofs.lemmas.Bool.Decides.{nat_tests}
use Rattle.std.proofs.lemmas.List.Elements.{Contains-append_left, Contains-append_right, Contains-push}
use Rattle.dkg_values.specs.Rising.{lookup}
use Rattle.dkg_ceremony.specs.Outcomes.{LogMap}
use Rattle.dkg_ceremony.specs.Schedule.{epoch_of, first, last}
use Rattle.dkg_ceremony.specs.declared.round.RoundParts.{RoundParts as Round}
use Rattle.dkg_journal.specs.Names.{Files}
use Rattle.dkg_secrets.specs.Secrets.{Secrets}
use Rattle.dkg_types.specs.BlockCodes.{info_of}
use Rattle.dkg_types.specs.Blocks.{Block}
use Rattle.dkg_infos.specs.declared.directory.Unit as directory
use Rattle.dkg_infos.specs.declared.entry.Entry.TheVariants.{Acked, Answer, Committed, Log, Step}
use Rattle.dkg_infos.specs.declared.entry.AnswerLine.{AnswerLine}
use Rattle.dkg_infos.specs.declared.entry.AnswerLine.TheVariants.{Unavailable}
use Rattle.dkg_infos.specs.declared.entry.Entry.{Entry}
use Rattle.dkg_infos.specs.declared.entry.Part.{Part}
use Rattle.dkg_infos.specs.declared.entry.Why.TheVariants.{Following}
use Rattle.dkg_infos.specs.declared.fault.Fault.TheVariants.{DirectoryMismatch, HeightRange, InvalidParticipants, LocalState, MissingEpochInfo, WrongEpoch}
use Rattle.dkg_infos.specs.declared.fault.Fault.{Fault}
use Rattle.dkg_infos.specs.declared.fault.LocalCause.TheVariants.{OutcomeOmitted}
use Rattle.dkg_infos.specs.declared.fault.ParticipantsCause.TheVariants.{ProviderAbove, ProviderEmpty}
use Rattle.dkg_infos.specs.NextInfos.{info_by}
use Rattle.dkg_infos.specs.declared.info.EpochInfo.{EpochInfo}
use Rattle.dkg_infos.specs.declared.participants.ParticipantsError.{ParticipantsError}
use Rattle.dkg_text.specs.declared.script.BlockLine.{BlockLine}
use Rattle.dkg_text.specs.declared.script.Event.{Event}
use Rattle.dkg_text.specs.declared.script.Event.TheVariants as event
use Rattle.dkg_text.specs.declared.script.Life.{Life}
use Rattle.dkg_text.specs.declared.script.Script.{Script}
use Rattle.dkg_script.specs.Blocks.{ScriptBlock as Seen_block, delivered_number, used}
use Rattle.dkg_script.specs.Epochs.{alone}
use Rattle.dkg_script.specs.Position.{awaited_height_after as awaits_at, lacks_boundary}
use Rattle.dkg_script.specs.Progress.{Progress}
use Rattle.dkg_script.specs.Setting.{setting_of}
use Rattle.dkg_store.specs.Acts.{Ended, Held, went}
use Rattle.dkg_core.specs.Behind.{event_of}
use Rattle.dkg_core.specs.Blocks as b
use Rattle.dkg_core.specs.Core.{begun_life, opening, opens_in, step}
use Rattle.dkg_core.specs.Courses.{Ask, CallOutside, Course, Do, Goes, Say, Stops, bind, on_devices, under}
use Rattle.dkg_core.specs.Endings.{first_block, first_epoch, validity}
use Rattle.dkg_core.specs.Entering.{acked_at, takes_delivered}
use Rattle.dkg_core.specs.Fixed.{Fixed, Material, OneShot, has, start}
use Rattle.dkg_core.specs.Forms.{Applied, IsForm, Judged, Passed, Refusal, judged_block}
use Rattle.dkg_core.specs.Including as i
use Rattle.dkg_core.specs.Including.{Continuation, cached_for}
use Rattle.dkg_core.specs.Live.{Artifact, Cancel, Deals, Ends, EpochInfoOf, Faulted, Feed, Finalized, Follows, Includes, Live, Mail, Message, NextLog, NodeStop, Over, Peer, ReleaseLog, Mailed, Stage, Verified, VerifiedLogs, Work, awaited_height, is_last_height, with_participation, with_tip}
use Rattle.dkg_core.specs.Logs.{canonical}
use Rattle.dkg_core.specs.Node.{kept_material, node_opening, node_step, unless_once}
use Rattle.dkg_laws.specs.NodeSaying.{IsHalfLine}
use Rattle.dkg_core.specs.Plans as p
use Rattle.dkg_core.specs.Said.{Said, SaysAll}
use Rattle.dkg_core.specs.SayingThrough.{IsLineThrough, IsMailEntry, SaysSo}
use Rattle.dkg_core.specs.Setup as s
use Rattle.dkg_core.specs.Sources.{Tip, startup}
use Rattle.dkg_core.specs.Through.{IsLiveThrough, unasked}
use Rattle.dkg_core.proofs.Applied.{judged_is}
use Rattle.dkg_core.proofs.Heights.{epoch_is, next_last}
use Rattle.dkg_core.proofs.Mailing.{not_ended}
use Rattle.dkg_laws.proofs.NodeSaying.{node_steps_say_through}
use Rattle.dkg_core.proofs.SayingThrough.{said_so}
use Rattle.dkg_lives.specs.Blamed.{per_epoch, tip_in}
use Rattle.dkg_lives.specs.Epochs.{IsLifeInForm, StandsInScript, any_shares, awaited_by}
use Rattle.dkg_lives.specs.Given.{Lived, at_step, blocks_in, step_of}
use Rattle.dkg_promises.specs.SharesStand.{ComesInto, Enters, TellsCommit}
use Rattle.dkg_lives.proofs.Awaiting.{HasHeight, IsReached, has_height}
use Rattle.dkg_along.proofs.Causing.{above_by, accepted_by, stage_of}
use Rattle.dkg_lives.proofs.Former.{BringsBlock, BringsMail, IsMadeOf, IsMessage, brings_so, form_at, step_taken, through_at}
use Rattle.dkg_lives.proofs.NextLives.{applied_so, has_round, passed_so}
use Rattle.dkg_lives.proofs.Started.{first_block_is, first_epoch_is}
use Rattle.dkg_promises.proofs.SetUps.{IsPlain, IsQuiet, IsSetUpBy, LeadsTo, MaySay, Telling, after_line, after_op, block_quiet, opening_leads, taken_leads}

abbrev U : Type 0
U = directory.Unit

-- A COURSE TELLS A LINE of which P holds, on each way to its end.
abbrev pub TellsOne : {Dir F S : Type 0} → (Entry → Type 0) → Course Dir F S → Type 0
TellsOne P (Say line course) = P line ⊎ TellsOne P course
TellsOne P (Do op course) = TellsOne P course
TellsOne P (CallOutside outer course) = TellsOne P course
TellsOne P (Ask f) = (h : Held) → TellsOne P (f h)
TellsOne P (Goes end) = ⊥
TellsOne P (Stops fault) = Unit {0}

one_if : {Dir F S : Type 0} (P : Entry → Type 0) (t : Bool) (x y : Course Dir F S) → (t ≡ true → TellsOne P x) → (t ≡ false → TellsOne P y) → TellsOne P (if t then x else y)
one_if P true x y when unless = when refl
one_if P false x y when unless = unless refl

one_option : {Dir F S A : Type 0} (P : Entry → Type 0) (f : A → Course Dir F S) (o : Option A) (none : Course Dir F S) → ((a : A) → TellsOne P (f a)) → TellsOne P none → TellsOne P (option_map_or f o none)
one_option P f None none some without = without
one_option P f (Some a) none some without = some a

-- where its first part does
one_first : {Dir F S T : Type 0} (P : Entry → Type 0) (course : Course Dir F S) (next : S → Course Dir F T) → TellsOne P course → TellsOne P (bind course next)
one_first P (Say line course) next (inl is) = inl is
one_first P (Say line course) next (inr so) = inr (one_first P course next so)
one_first P (Do op course) next so = one_first P course next so
one_first P (CallOutside outer course) next so = one_first P course next so
one_first P (Ask f) next so = λ h. one_first P (f h) next (so h)
one_first P (Goes end) next so = absurd so
one_first P (Stops fault) next so = tt

-- .. or what follows it
one_behind : {Dir F S T : Type 0} (P : Entry → Type 0) (course : Course Dir F S) (next : S → Course Dir F T) → ((end : S) → TellsOne P (next end)) → TellsOne P (bind course next)
one_behind P (Say line course) next so = inr (one_behind P course next so)
one_behind P (Do op course) next so = one_behind P course next so
one_behind P (CallOutside outer course) next so = one_behind P course next so
one_behind P (Ask f) next so = λ h. one_behind P (f h) next so
one_behind P (Goes end) next so = so end
one_behind P (Stops fault) next so = tt

one_under : {Dir F G S : Type 0} (P : Entry → Type 0) (name : F → G) (course : Course Dir F S) → TellsOne P course → TellsOne P (under name course)
one_under P name (Say line course) (inl is) = inl is
one_under P name (Say line course) (inr so) = inr (one_under P name course so)
one_under P name (Do op course) so = one_under P name course so
one_under P name (CallOutside outer course) so = one_under P name course so
one_under P name (Ask f) so = λ h. one_under P name (f h) (so h)
one_under P name (Goes end) so = absurd so
one_under P name (Stops fault) so = tt

-- The law: it is among the lines that are added where the course goes to its end.
module _ (P : Entry → Type 0) where
  abbrev pub HasOne : List Entry → Type 0
  HasOne lines = (line : Entry) × Contains lines line × P line

  first_has : (line : Entry) (rest lines : List Entry) → lines ≡ line ∷ rest → P line → HasOne lines
  first_has line rest lines is so = (line, subst (λ (xs : List Entry). Contains xs line) (sym is) (Contains-append_left (line ∷ []) rest line (Contains-push [] line)), so)

  rest_has : (first : Entry) (rest lines : List Entry) → lines ≡ first ∷ rest → HasOne rest → HasOne lines
  rest_has first rest lines is its = (its.0, subst (λ (xs : List Entry). Contains xs its.0) (sym is) (Contains-append_right (first ∷ []) rest its.0 its.1), its.2)

  pub all_one : {Dir F S : Type 0} (course : Course Dir F S) (end : S) (lines : List Entry) → TellsOne P course → SaysAll (on_devices course) end lines → HasOne lines
  all_one (Say line course) end lines (inl is) by = first_has line by.0 lines by.1 is
  all_one (Say line course) end lines (inr so) by = rest_has line by.0 lines by.1 (all_one course end by.0 so by.2)
  all_one (Do op course) end lines so by = all_one course end lines so by
  all_one (CallOutside outer course) end lines so by = all_one course end lines so by
  all_one (Ask f) end lines so by = all_one (f by.0) end lines (so by.0) by.1
  all_one (Goes its) end lines so by = absurd so
  all_one (Stops fault) end lines so by = absurd by

-- that an epoch is committed
abbrev pub IsCommitOf : (epoch : ℕ) → Entry → Type 0
IsCommitOf epoch (Committed its share) = its ≡ epoch
IsCommitOf epoch line = ⊥

-- .. of an epoch that a course may lead into
abbrev pub OnCommit : (Into : ℕ → Type 0) → Entry → Type 0
OnCommit Into (Committed epoch share) = Into epoch
OnCommit Into line = Unit {0}

plain_commit : (Into : ℕ → Type 0) (line : Entry) → IsPlain line → OnCommit Into line
plain_commit Into (Committed epoch share) is = absurd is
plain_commit Into line is = tt

may_commit : (Into : ℕ → Type 0) (At : Option (ℕ × Part) → Type 0) (x : Telling) (line : Entry) → MaySay Into At x line → OnCommit Into line
may_commit Into At x (Committed epoch (Some share)) may = may.1.1
may_commit Into At x (Committed epoch None) may = may.1
may_commit Into At x line may = tt

leads_commit : {Dir F S : Type 0} (Into : ℕ → Type 0) (most : ℕ) (At : Option (ℕ × Part) → Type 0) (goes : Telling → S → Type 0) (x : Telling) (course : Course Dir F S) → LeadsTo Into most At goes x course → SaysSo (OnCommit Into) course
leads_commit Into most At goes x (Say line course) so = (may_commit Into At x line so.0, leads_commit Into most At goes (after_line x line) course so.1)
leads_commit Into most At goes x (Do op course) so = leads_commit Into most At goes (after_op x op) course so.1
leads_commit Into most At goes x (CallOutside outer course) so = leads_commit Into most At goes x course so
leads_commit Into most At goes x (Ask f) so = λ h. leads_commit Into most At goes x (f h) (so h)
leads_commit Into most At goes x (Goes end) so = tt
leads_commit Into most At goes x (Stops fault) so = tt

quiet_commit : {Dir F S : Type 0} (Into : ℕ → Type 0) (course : Course Dir F S) → IsQuiet course → SaysSo (OnCommit Into) course
quiet_commit Into (Say line course) so = (plain_commit Into line so.0, quiet_commit Into course so.1)
quiet_commit Into (Do op course) so = quiet_commit Into course so.1
quiet_commit Into (CallOutside outer course) so = quiet_commit Into course so
quiet_commit Into (Ask f) so = λ h. quiet_commit Into (f h) (so h)
quiet_commit Into (Goes end) so = tt
quiet_commit Into (Stops fault) so = tt

same_number : (n m : ℕ) → (n == m) ≡ true → n ≡ m
same_number n m e = grind (arith, nat_tests)

-- a life that takes a last block over
abbrev pub TakesLast : {Dir : Type 0} → Live Dir → Type 0
TakesLast st = (st.participation.stage ≡ Follows) ⊎ ((st.participation.stage ≡ Includes) × ((round : Round) × (st.participation.round ≡ Some round)))

module _ {Dir : Type 0} (c : Fixed Dir) where
  commits : {S : Type 0} (epoch : ℕ) (info : EpochInfo Dir) (seed : List ℕ) (put : Option ℕ) (now : Live Dir) (next : Live Dir → Course Dir Fault S) → info.epoch ≡ epoch → TellsOne (IsCommitOf epoch) (bind (s.commits info seed put now) next)
  commits epoch info seed None now next is = inl is
  commits epoch info seed (Some share) now next is = inl is

  -- A SETUP by the block that begins its epoch

  judged : (epoch : ℕ) (info : EpochInfo Dir) (now : Live Dir) (valid : Result (Unit {0}) ParticipantsError) → info.epoch ≡ epoch → TellsOne (IsCommitOf epoch) (s.info_judged c None s.Uncommitted info now valid)
  judged epoch info now (Err e) is = tt
  judged epoch info now (Ok passed) is = λ h.
      let share : Option ℕ = s.recovered_share c (c.seen h) info in
      let seed : List ℕ = s.seed_for c info.epoch (lookup info.epoch (c.seen h).seeds) in
      let last : Live Dir → Course Dir Fault (Live Dir) = λ st. bind (s.prunes (st.participation.epoch - 1) st) (λ st. if s.is_late_floor c None then s.follows c st else s.draws_up c (s.participants_of info) (Some info.output) share seed st) in
      one_first (IsCommitOf epoch) (bind (s.commits info seed share now) (λ st. s.registers c info share st)) last (commits epoch info seed share now (λ st. s.registers c info share st) is)

  with_info : (info : EpochInfo Dir) (now : Live Dir) → TellsOne (IsCommitOf now.participation.epoch) (s.with_info c None s.Uncommitted info now)
  with_info info now =
      one_if (IsCommitOf now.participation.epoch) (info.epoch == now.participation.epoch) (s.info_judged c None s.Uncommitted info now (validity c info)) (Stops (WrongEpoch now.participation.epoch info.epoch))
      (λ e. judged now.participation.epoch info now (validity c info) (same_number info.epoch now.participation.epoch e)) (λ e. tt)

  from_boundary : (found : Option (Block Dir)) (now : Live Dir) → is_some found ≡ true → TellsOne (IsCommitOf now.participation.epoch) (s.from_boundary c found now)
  from_boundary None now none = absurd (let wrong : false ≡ true = none in cc)
  from_boundary (Some block) now some =
      one_option (IsCommitOf now.participation.epoch) (λ (info : EpochInfo Dir). s.with_info c None s.Uncommitted info now) (info_of block.payload) (Stops (MissingEpochInfo block.height)) (λ info. with_info info now) tt

  -- A NODE'S OPENING that has the block
  module _ (form : IsForm c) (has_it : is_some (first_block c) ≡ true) where
    abbrev First : Entry → Type 0
    First = IsCommitOf (first_epoch c)

    sets_up : (seen : Held) → TellsOne First (s.setup c None (record (begun_life (c.seen seen)) { tip = startup c.source.anchor None }))
    sets_up h =
        let now : Live Dir = record (begun_life (c.seen h)) { tip = startup c.source.anchor None } in
        one_if First (s.is_past_range c (awaited_height now)) (Stops HeightRange) (s.sets_up c None now) (λ e. tt) (λ e. from_boundary (first_block c) (s.anew c now) has_it)

    opens : (h : Held) → TellsOne First (opens_in c c.oneshot (begun_life (c.seen h)))
    opens h =
        let now : Live Dir = begun_life (c.seen h) in
        subst (λ (o : Option (OneShot Dir)). TellsOne First (opens_in c o now)) (sym form.reshare)
        (subst (λ (m : Option (Material Dir)). TellsOne First (p.finds_material c m (λ found. p.stays_in_range c (p.resolves_plan c (p.starts_from c now) found)))) (sym form.bare)
        (λ k. subst (λ (found : Option (List ℕ)). TellsOne First (p.reads_plan c found (λ found. p.stays_in_range c (p.resolves_plan c (p.starts_from c now) found)))) (sym (form.unplanned k))
        (one_if First (option_map_or (λ t. s.is_past_range c (t.height + 1)) (start c) false) (Stops HeightRange) (p.starts_from c now None) (λ e. tt) (λ e. sets_up h))))

    pub opening_commits : TellsOne First (node_opening c)
    opening_commits = one_first First (under Faulted (opening c)) (λ st. unless_once c (kept_material c st) (Goes st)) (one_under First Faulted (opening c) (λ h. inr (opens h)))

  -- A STEP BY AN EPOCH'S LAST BLOCK
  module _ (reshare : c.oneshot ≡ None) (block : Block Dir) where
    abbrev Next_one : Entry → Type 0
    Next_one = IsCommitOf (b.expected_epoch c block.height)

    abbrev Tells : {F S : Type 0} → Course Dir F S → Type 0
    Tells course = TellsOne Next_one course

    carried : (f : EpochInfo Dir → Course Dir Fault (Live Dir)) → ((info : EpochInfo Dir) → info.epoch ≡ b.expected_epoch c block.height → Tells (f info)) → Tells (b.carried c block f)
    carried f so =
        one_option Next_one (λ (info : EpochInfo Dir). if info.epoch == b.expected_epoch c block.height then f info else Stops (WrongEpoch (b.expected_epoch c block.height) info.epoch)) (info_of block.payload) (Stops (MissingEpochInfo block.height))
        (λ info. one_if Next_one (info.epoch == b.expected_epoch c block.height) (f info) (Stops (WrongEpoch (b.expected_epoch c block.height) info.epoch)) (λ e. so info (same_number info.epoch (b.expected_epoch c block.height) e)) (λ e. tt)) tt

    takes_over : (info : EpochInfo Dir) (put : Option ℕ) (now : Live Dir) → info.epoch ≡ b.expected_epoch c block.height → Tells (b.takes_over c block info put now)
    takes_over info put now is = λ h.
        commits (b.expected_epoch c block.height) info (s.seed_for c info.epoch (lookup info.epoch (c.seen h).seeds)) put now (λ now. bind (if is_some c.oneshot then Goes now else s.registers c info put now) (λ now. b.passes_on c block (Some info) now)) is

    concludes : (made : Artifact Dir) (now : Live Dir) → Tells (b.concludes c block made now)
    concludes made now =
        subst (λ (o : Option (OneShot Dir)). Tells (if is_some o && is_none block.payload then (if is_some made.info then Stops (LocalState OutcomeOmitted) else b.passes_on c block None now)
        else b.carried c block (λ info. b.takes_over c block info (b.share_for c info made) now))) (sym reshare)
        (carried (λ info. b.takes_over c block info (b.share_for c info made) now) (λ info is. takes_over info (b.share_for c info made) now is))

    -- the artifact leads to what is done with it
    module _ (next : Continuation Dir) (so : (made : Artifact Dir) (now : Live Dir) → Tells (next made now)) where
      with_provided : (epoch : ℕ) (acts : Course Dir Fault (Live Dir)) → Tells acts → Tells (i.with_provided c epoch acts)
      with_provided epoch acts its =
          let above : Course Dir Fault (Live Dir) = Stops (InvalidParticipants (ProviderAbove (length (c.provided.participants epoch)) c.limit)) in
          let second : Course Dir Fault (Live Dir) = if nat_lt c.limit (length (c.provided.participants epoch)) then above else acts in
          let first : Course Dir Fault (Live Dir) = if length (c.provided.participants epoch) == 0 then Stops (InvalidParticipants ProviderEmpty) else second in
          one_if Next_one (nat_le (2 ^ 64) epoch) (Stops HeightRange) first (λ e. tt)
          (λ e. one_if Next_one (length (c.provided.participants epoch) == 0) (Stops (InvalidParticipants ProviderEmpty)) second (λ e. tt)
          (λ e. one_if Next_one (nat_lt c.limit (length (c.provided.participants epoch))) above acts (λ e. tt) (λ e. its)))

      share_by : (info : EpochInfo Dir) (found : Option Verified) (f : Option ℕ → Course Dir Fault (Live Dir)) → ((share : Option ℕ) → Tells (f share)) → Tells (i.share_by c info found f)
      share_by info (Some its) f each = each its.share
      share_by info None f each = one_if Next_one (has info.output.players c.me) (s.looks c (λ seen. f (lookup info.epoch seen.shares))) (f None) (λ e h. each (lookup info.epoch (c.seen h).shares)) (λ e. each None)

      derives_next : (info : EpochInfo Dir) (r : VerifiedLogs) (now : Live Dir) → Tells (i.derives_next c info r now (i.keeping_artifact r.logs next))
      derives_next info r now =
          let made : EpochInfo Dir = info_by c.provided info (option_map (λ (found : Verified). found.output) r.result) in
          let acts : Option ℕ → Course Dir Fault (Live Dir) = λ share. i.keeping_artifact r.logs next (record { info = Some made; share = share }) now in
          let goes : Option ℕ → Course Dir Fault (Live Dir) = λ share. i.with_directory c made (acts share) in
          with_provided (info.epoch + 2) (i.share_by c info r.result goes)
          (share_by info r.result goes (λ share. one_if Next_one (c.directories.matches made.directory (i.info_peers made)) (acts share) (Stops (DirectoryMismatch made.epoch))
          (λ e. so (record { info = Some made; share = share }) (i.with_cached r.logs (record { info = Some made; share = share }) now)) (λ e. tt)))

      artifact_by : (r : VerifiedLogs) (cached : Option (Artifact Dir)) (now : Live Dir) → Tells (i.artifact_by c r cached now next)
      artifact_by r (Some made) now = so made now
      artifact_by r None now =
          subst (λ (o : Option (OneShot Dir)). Tells (i.derives c o r now next)) (sym reshare)
          (one_option Next_one (λ (info : EpochInfo Dir). i.derives_next c info r now (i.keeping_artifact r.logs next)) now.participation.current (Stops HeightRange) (λ info. derives_next info r now) tt)

    by_result : (r : VerifiedLogs) (now : Live Dir) → Tells (i.artifact c r now (b.concludes c block))
    by_result r now = artifact_by (b.concludes c block) (λ made end. concludes made end) r (cached_for now.inclusion.cached r.logs) now

    module _ (round : Round) where
      derives_now : (logs : LogMap) (retained : Option VerifiedLogs) (now : Live Dir) → Tells (b.derives_at_block c round block logs retained now)
      derives_now logs (Some r) now = by_result r now
      derives_now logs None now =
          let found : VerifiedLogs = i.verified c (i.job_for c round logs now) in
          one_behind Next_one (i.starts_verifying c round logs None now) (λ now. i.artifact c found (i.retains c found now) (b.concludes c block)) (λ end. by_result found (i.retains c found end))

      concludes_by : (logs : LogMap) (before now : Option (Artifact Dir)) (life : Live Dir) → Tells (b.concludes_by c round block logs before now life)
      concludes_by logs (Some made) now life = concludes made life
      concludes_by logs None (Some made) life = concludes made life
      concludes_by logs None None life = derives_now logs (i.retained_for life.inclusion.retained logs) life

      final_block : (st : Live Dir) → Tells (b.final_block c round block st)
      final_block st =
          one_behind Next_one (i.ends_verifying c None st) (λ now. b.concludes_by c round block (canonical c st) (cached_for st.inclusion.cached (canonical c st)) (cached_for now.inclusion.cached (canonical c st)) now)
          (λ end. concludes_by (canonical c st) (cached_for st.inclusion.cached (canonical c st)) (cached_for end.inclusion.cached (canonical c st)) end)

    follows_into : (st : Live Dir) → Tells (b.carried c block (λ info. b.follows_into c block info st))
    follows_into st = carried (λ info. b.follows_into c block info st) (λ info is h.
        commits (b.expected_epoch c block.height) info (s.seed_for c info.epoch (lookup info.epoch (c.seen h).seeds)) (s.recovered_share c (c.seen h) info) st
        (λ st. bind (s.registers c info (s.recovered_share c (c.seen h) info) st) (λ st. s.setup c None (with_tip block st))) is)

    applies : (st : Live Dir) → is_last_height c block.height ≡ true → TakesLast st → Tells (b.applies c block st)
    applies st ends (inl at) =
        subst (λ (stage : Stage). Tells (b.applies_in c block st stage)) (sym at)
        (subst (λ (t : Bool). Tells (if t then b.carried c block (λ info. b.follows_into c block info st) else Goes (with_tip block st))) (sym ends) (follows_into st))
    applies st ends (inr (at, (round, there))) =
        subst (λ (stage : Stage). Tells (b.applies_in c block st stage)) (sym at)
        (subst (λ (o : Option Round). Tells (option_map_or (λ round. if is_last_height c block.height then b.final_block c round block st else b.includes c round block st) o (Goes st))) (sym there)
        (subst (λ (t : Bool). Tells (if t then b.final_block c round block st else b.includes c round block st)) (sym ends) (final_block round st)))

    pub last_commits : (st : Live Dir) → is_last_height c block.height ≡ true → (judged_block c block st ≡ Passed → ⊥) → (judged_block c block st ≡ Applied → TakesLast st) → (st.participation.stage ≡ Ends → ⊥)
        → Tells (node_step c (event_of (Finalized block)) st)
    last_commits st ends new taken goes_on =
        one_first Next_one (under Faulted (step c (Finalized block) st)) (λ now. unless_once c (bind (takes_delivered c block now) (λ left. acked_at block.height left.answer left.live)) (Say (Acked block.height) (Goes now)))
        (one_under Next_one Faulted (step c (Finalized block) st)
        (judged_is c block st (λ course. Tells course) (λ t one other when unless. one_if Next_one t one other when unless) (λ fault is. tt) (λ is. absurd (new is)) (λ is. applies st ends (taken is)) (λ is. absurd (goes_on is))))

-- IN A LIFE of the script

-- above an epoch's last height the next begins
pub first_above : (n h : ℕ) → 1 ≤ n → (h == last n (epoch_of n h)) ≡ true → h + 1 ≡ first n (epoch_of n h + 1)
first_above n h some is =
    let epoch = epoch_of n h in
    let product : (epoch + 1) * n ≡ epoch * n + n = ap (λ (x : ℕ). x * n) (add-one epoch) ∙ suc-mul epoch n in
    up ((epoch + 1) * n) (epoch * n) n h product (same h (last n epoch) is) some
  where
    same : (a b : ℕ) → (a == b) ≡ true → a ≡ b
    same a b e = grind (arith, nat_tests)

    up : (q m n h : ℕ) → q ≡ m + n → h ≡ m + n - 1 → 1 ≤ n → h + 1 ≡ q
    up q m n h product at some = omega (arith, product, at, some)

-- .. and below the first of one the epoch before it ends
above_last : (n h epoch : ℕ) → 2 ≤ n → h + 1 ≡ first n epoch → ((h == last n (epoch_of n h)) ≡ true) × (epoch_of n h + 1 ≡ epoch)
above_last n h zero long at = absurd (low n h at)
  where
    low : (n h : ℕ) → h + 1 ≡ 0 * n → ⊥
    low n h e = omega (arith, e)
above_last n h (suc below) long at = (ends h (last n (epoch_of n h)) (top (below * n) n h next long ∙ sym (ap (last n) lies)), ap (λ (k : ℕ). k + 1) lies ∙ add-one below)
  where
    next : h + 1 ≡ below * n + n
    next = at ∙ suc-mul below n

    above : (m n h : ℕ) → h + 1 ≡ m + n → 2 ≤ n → m ≤ h
    above m n h e long = omega (arith, e, long)

    under : (m n h : ℕ) → h + 1 ≡ m + n → h < m + n
    under m n h e = omega (arith, e)

    top : (m n h : ℕ) → h + 1 ≡ m + n → 2 ≤ n → h ≡ m + n - 1
    top m n h e long = omega (arith, e, long)

    lies : epoch_of n h ≡ below
    lies = epoch_is n below h (above (below * n) n h next long) (under (below * n) n h next)

    ends : (a b : ℕ) → a ≡ b → (a == b) ≡ true
    ends a b e = grind (arith, nat_tests)

committed_of : (epoch : ℕ) (lines : List Entry) → HasOne (IsCommitOf epoch) lines → (share : Option ℕ) × Contains lines (Committed epoch share)
committed_of epoch lines (line, among, is) = by_line line among is
  where
    by_line : (one : Entry) → Contains lines one → IsCommitOf epoch one → (share : Option ℕ) × Contains lines (Committed epoch share)
    by_line (Committed its share) among is = (share, subst (λ (k : ℕ). Contains lines (Committed k share)) is among)
    by_line one among is = absurd is

-- what a step that was completed has told, by these lines
abbrev pub TellsInto : Script → (l : ℕ) → Life → (step : ℕ) → List Entry → Type 0
TellsInto script l life step lines = (epoch : ℕ) → ComesInto (alone script) l life step epoch → (share : Option ℕ) × Contains lines (Committed epoch share)

-- .. and each of these lines that commits
abbrev pub CommitsInto : Script → (l : ℕ) → Life → (step : ℕ) → Entry → Type 0
CommitsInto script l life step = OnCommit (ComesInto (alone script) l life step)

-- (of what devices hold it says nothing)
into_alone : (script : Script) (files : Files) (held : Secrets) (l : ℕ) (life : Life) (step epoch : ℕ) → ComesInto (setting_of script files held) l life step epoch → ComesInto (alone script) l life step epoch
unfolding awaits_at used
into_alone script files held l life zero epoch into = into
into_alone script files held l life (suc events) epoch into =
    record { number = into.number; event = into.event; block = into.block; block_is = into.block_is; ends_below = into.ends_below; awaited = into.awaited }

alone_into : (script : Script) (files : Files) (held : Secrets) (l : ℕ) (life : Life) (step epoch : ℕ) → ComesInto (alone script) l life step epoch → ComesInto (setting_of script files held) l life step epoch
unfolding awaits_at used
alone_into script files held l life zero epoch into = into
alone_into script files held l life (suc events) epoch into =
    record { number = into.number; event = into.event; block = into.block; block_is = into.block_is; ends_below = into.ends_below; awaited = into.awaited }

pub commit_over : (script : Script) (files : Files) (held : Secrets) (p : Progress) (one : Entry) → TellsCommit (alone script) p one → TellsCommit (setting_of script files held) p one
commit_over script files held p (Step step) told = by_life (slice_get script.lives (length p.cuts)) told
  where
    by_life : (o : Option Life) → IsSomeAnd o (λ life. TellsInto script (length p.cuts) life p.step p.written)
        → IsSomeAnd o (λ life. (epoch : ℕ) → ComesInto (setting_of script files held) (length p.cuts) life p.step epoch → (share : Option ℕ) × Contains p.written (Committed epoch share))
    by_life None told = told
    by_life (Some life) told = λ epoch into. told epoch (into_alone script files held (length p.cuts) life p.step epoch into)
commit_over script files held p (Committed epoch share) told = by_life (slice_get script.lives (length p.cuts)) told
  where
    by_life : (o : Option Life) → IsSomeAnd o (λ life. ComesInto (alone script) (length p.cuts) life p.step epoch) → IsSomeAnd o (λ life. ComesInto (setting_of script files held) (length p.cuts) life p.step epoch)
    by_life None told = told
    by_life (Some life) told = alone_into script files held (length p.cuts) life p.step epoch told
commit_over script files held p one told = tt

abbrev Anywhere : Option (ℕ × Part) → Type 0
Anywhere last = Unit {0}

abbrev nothing : Telling
nothing = record { last = None; untold = None }

module _ (g : Lived) (here : IsLifeInForm g) where
  pub opening_tells : (end : Live U) (out now : List Entry) → Said (on_devices (node_opening (at_step g 0))) (went end) out now → (added : List Entry) × (now ≡ out ++ added) × TellsInto g.script g.number g.life 0 added
  opening_tells end out now said = (
    said.lines,
    said.added,
    λ epoch into.
        committed_of epoch said.lines
        (subst (λ (k : ℕ). HasOne (IsCommitOf k) said.lines) (first_epoch_is g here 0 ∙ into.0)
        (all_one (IsCommitOf (first_epoch (at_step g 0))) (node_opening (at_step g 0)) end said.lines (opening_commits (at_step g 0) (form_at g here 0) (first_block_is g here ∙ ap not into.1)) said.by)),
  )

  -- whatever ends it, it commits no other epoch
  pub opening_commits_first : (ended : Ended NodeStop (Live U)) (out now : List Entry) → Said (on_devices (node_opening (at_step g 0))) ended out now
      → (added : List Entry) × (now ≡ out ++ added) × AllByRecursion (CommitsInto g.script g.number g.life 0) added
  opening_commits_first ended out now said =
      said_so (OnCommit Into) (node_opening (at_step g 0)) ended out now
      (leads_commit Into (first_epoch (at_step g 0) - 1) Anywhere IsSetUpBy nothing (node_opening (at_step g 0))
      (opening_leads (at_step g 0) Into (first_epoch (at_step g 0) - 1) Anywhere (form_at g here 0) tt (itself (first_epoch (at_step g 0) - 1)) (λ block found. (sym (first_epoch_is g here 0), lacks_none block found)) nothing refl)) said
    where
      Into : ℕ → Type 0
      Into = ComesInto (alone g.script) g.number g.life 0

      itself : (n : ℕ) → n ≤ n
      itself n = omega arith

      lacks_none : (block : Block U) → first_block (at_step g 0) ≡ Some block → lacks_boundary (alone g.script) g.number g.life ≡ false
      lacks_none block found = none_of (lacks_boundary (alone g.script) g.number g.life) (sym (first_block_is g here) ∙ ap is_some found)
        where
          none_of : (t : Bool) → not t ≡ true → t ≡ false
          none_of true wrong = absurd (let its : false ≡ true = wrong in cc)
          none_of false its = refl

  -- A STEP, of a life with the tip that is said
  module _ (i : ℕ) (its : Event) (is : slice_get g.life.events i ≡ Some its) (reached : IsReached g.life.cut (suc i)) (m : IsMessage g its) (st : Live U) (live : IsLiveThrough (at_step g (suc i)) any_shares st)
      (stands : StandsInScript g i st) (tip : st.tip ≡ tip_in g.script g.life i) where
    abbrev c : Fixed U
    c = at_step g (suc i)

    abbrev n : ℕ
    n = per_epoch g.script

    module _ (epoch : ℕ) (into : Enters (alone g.script) g.number g.life i epoch) (block : Block U) (there : slice_get (blocks_in g.script) into.number ≡ Some block) (line : BlockLine) (line_is : slice_get g.script.blocks into.number ≡ Some line) where
      its_height : HasHeight (alone g.script) into.number block
      its_height = has_height (alone g.script) into.number block line line_is there

      same_height : block.height ≡ into.block.height
      same_height = its_height.same ∙ ap (λ (x : Seen_block). x.height) (the_same (sym its_height.there ∙ into.block_is))
        where
          the_same : {x y : Seen_block} → ◌≡◌ {A = Option Seen_block} (Some x) (Some y) → x ≡ y
          the_same e = cc

      placed : ((block.height == last n (epoch_of n block.height)) ≡ true) × (epoch_of n block.height + 1 ≡ epoch)
      placed = above_last n block.height epoch here.long (ap (λ (h : ℕ). h + 1) same_height ∙ into.ends_below)

      ends_it : is_last_height c block.height ≡ true
      unfolding at_step
      ends_it = placed.0

      is_next : b.expected_epoch c block.height ≡ epoch
      unfolding at_step
      is_next = ap (λ (o : Option (OneShot U)). if is_some o then 0 else epoch_of n block.height + 1) (form_at g here (suc i)).reshare ∙ placed.1

      awaits : awaited_height st ≤ block.height
      awaits = subst (λ (h : ℕ). awaited_height st ≤ h) (sym same_height) (subst (λ (h : ℕ). h ≤ into.block.height) (sym stands.awaits) into.awaited)

      -- it is new
      not_passed : judged_block c block st ≡ Passed → ⊥
      not_passed judged = let so = passed_so c block st judged in low block.height (so.0).height so.2 (subst (λ (h : ℕ). h ≤ block.height) (ap (λ (o : Option Tip). option_map_or (λ t. t.height + 1) o 0) so.1) awaits)
        where
          low : (h t : ℕ) → nat_le h t ≡ true → t + 1 ≤ h → ⊥
          low h t below above = grind (arith, nat_tests)

      taken : judged_block c block st ≡ Applied → TakesLast st
      taken applied = by_stage (stage_of g here i its is reached m st live stands tip block (record {
        accepted = accepted_by g here i its is reached m st live stands tip block Applied applied refl;
        above = above_by g here i its is reached m st live stands tip block applied;
        ends = placed.0;
      }))
        where
          by_stage : (st.participation.stage ≡ Follows) ⊎ (st.participation.stage ≡ Includes) → TakesLast st
          by_stage (inl at) = inl at
          by_stage (inr at) = inr (at, has_round c (unasked st) live.stands (λ follows. (let wrong : ◌≡◌ {A = Stage} Includes Follows = sym at ∙ follows in cc)))

      entered : TellsOne (IsCommitOf epoch) (node_step c (event_of (Finalized block)) st)
      entered = subst (λ (k : ℕ). TellsOne (IsCommitOf k) (node_step c (event_of (Finalized block)) st)) is_next
          (last_commits c (form_at g here (suc i)).reshare block st ends_it not_passed taken (not_ended c st live.stands))

    pub step_tells : (end : Live U) (out now : List Entry) → Said (on_devices (step_of g (suc i) its st)) (went end) out now → (added : List Entry) × (now ≡ out ++ added) × TellsInto g.script g.number g.life (suc i) added
    step_tells end out now said = (said.lines, said.added, λ epoch into. committed_of epoch said.lines (by_brought epoch into (brings_so g its m.message m.brings)))
      where
        same_event : {x y : Event} → ◌≡◌ {A = Option Event} (Some x) (Some y) → x ≡ y
        same_event e = cc

        same_number_of : {x y : ℕ} → event.Final x ≡ event.Final y → x ≡ y
        same_number_of e = cc

        delivers : (epoch : ℕ) (into : Enters (alone g.script) g.number g.life i epoch) → its ≡ event.Final into.number
        delivers epoch into = same_event (sym is ∙ into.event)

        by_brought : (epoch : ℕ) (into : Enters (alone g.script) g.number g.life i epoch) → BringsBlock g its m.message ⊎ BringsMail its m.message → HasOne (IsCommitOf epoch) said.lines
        by_brought epoch into (inr mail) = absurd (let wrong : ◌≡◌ {A = Option ℕ} (Some into.number) None = ap delivered_number (sym (delivers epoch into)) ∙ mail.2 in cc)
        by_brought epoch into (inl (number, made_it, final, sent)) =
            let same : number ≡ into.number = same_number_of (sym final ∙ delivers epoch into) in
            all_one (IsCommitOf epoch) (node_step c (event_of (Finalized made_it.block)) st) end said.lines
            (entered epoch into made_it.block (ap (slice_get (blocks_in g.script)) (sym same) ∙ made_it.is) made_it.line (ap (slice_get g.script.blocks) (sym same) ∙ made_it.line_is))
            (subst (λ (k : Course U NodeStop (Live U)). SaysAll (on_devices k) end said.lines) (m.course (suc i) st ∙ ap (λ (x : Message U). node_step c (event_of x) st) sent) said.by)

    -- whatever ends it, it commits that epoch alone
    abbrev IntoHere : ℕ → Type 0
    IntoHere = ComesInto (alone g.script) g.number g.life (suc i)

    mail_commits : (mail : Mail U) → m.message ≡ Mailed mail → (line : Entry) → IsLineThrough c any_shares st m.message line ⊎ IsHalfLine line → OnCommit IntoHere line
    mail_commits mail sent line (inr said) = half line said
      where
        half : (line : Entry) → IsHalfLine line → OnCommit IntoHere line
        half (Committed epoch share) said = absurd said
        half line said = tt
    mail_commits mail sent line (inl said) = by_mail mail line (subst (λ (x : Message U). IsLineThrough c any_shares st x line) sent said)
      where
        log_apart : (epoch number : ℕ) (share : Option ℕ) (payload : Option (List ℕ)) → Committed epoch share ≡ Log number payload → ⊥
        log_apart epoch number share payload e = cc

        answer_apart : (epoch number : ℕ) (share : Option ℕ) (answer : AnswerLine) → Committed epoch share ≡ Answer number answer → ⊥
        answer_apart epoch number share answer e = cc

        by_mail : (mail : Mail U) (line : Entry) → IsMailEntry c st mail line → OnCommit IntoHere line
        by_mail (Peer from bytes) (Committed epoch share) said = absurd said
        by_mail (NextLog number height) (Committed epoch share) said = absurd (log_apart epoch number share said.0 said.1)
        by_mail (ReleaseLog height) (Committed epoch share) said = absurd said
        by_mail (EpochInfoOf number) (Committed epoch share) (inl said) = absurd said
        by_mail (EpochInfoOf number) (Committed epoch share) (inr said) = absurd (answer_apart epoch number share (Unavailable Following) said.1)
        by_mail (Feed number block) (Committed epoch share) said = absurd said
        by_mail (Over number) (Committed epoch share) said = absurd said
        by_mail (Cancel number) (Committed epoch share) said = absurd said
        by_mail (Work handed) (Committed epoch share) (inl said) = absurd said
        by_mail (Work handed) (Committed epoch share) (inr said) = absurd said
        by_mail mail line said = tt

    module _ (number : ℕ) (made_it : IsMadeOf g.script number) (final : its ≡ event.Final number) where
      abbrev taken_block : Block U
      taken_block = made_it.block

      taken_height : HasHeight (alone g.script) number taken_block
      taken_height = has_height (alone g.script) number taken_block made_it.line made_it.line_is made_it.is

      above_tip : judged_block c taken_block st ≡ Applied → awaited_by g i ≤ taken_block.height
      above_tip applied = subst (λ (h : ℕ). h ≤ taken_block.height) stands.awaits (by_tip st.tip refl)
        where
          up : (h t : ℕ) → h ≡ t + 1 → t + 1 ≤ h
          up h t is = omega (arith, is)

          zero_low : (h : ℕ) → 0 ≤ h
          zero_low h = omega arith

          by_tip : (o : Option Tip) → st.tip ≡ o → option_map_or (λ t. t.height + 1) o 0 ≤ taken_block.height
          by_tip None is = zero_low taken_block.height
          by_tip (Some t) is = up taken_block.height t.height ((applied_so c taken_block st applied).over t is)

      ends_there : is_last_height c taken_block.height ≡ true → (taken_block.height == last n (epoch_of n taken_block.height)) ≡ true
      unfolding at_step
      ends_there last_one = last_one

      enters : judged_block c taken_block st ≡ Applied → is_last_height c taken_block.height ≡ true → IntoHere (epoch_of n taken_block.height + 1)
      enters applied last_one = record {
        number = number;
        event = is ∙ ap (λ (x : Event). Some x) final;
        block = taken_height.b;
        block_is = taken_height.there;
        ends_below = ap (λ (h : ℕ). h + 1) (sym taken_height.same) ∙ first_above n taken_block.height (some n here.long) (ends_there last_one);
        awaited = subst (λ (h : ℕ). awaited_by g i ≤ h) taken_height.same (above_tip applied);
      }
        where
          some : (n : ℕ) → 2 ≤ n → 1 ≤ n
          some n long = omega (arith, long)

      next_is : is_last_height c taken_block.height ≡ true → epoch_of n taken_block.height + 1 ≡ epoch_of c.blocks_per_epoch (taken_block.height + 1)
      unfolding at_step
      next_is last_one = sym (next_last c.blocks_per_epoch taken_block.height (form_at g here (suc i)).counted last_one)

      expected_is : epoch_of n taken_block.height + 1 ≡ b.expected_epoch c taken_block.height
      unfolding at_step
      expected_is = sym (ap (λ (o : Option (OneShot U)). if is_some o then 0 else epoch_of n taken_block.height + 1) (form_at g here (suc i)).reshare)

      block_commits : SaysSo (OnCommit IntoHere) (node_step c (event_of (Finalized taken_block)) st)
      block_commits = by_tests (judged_block c taken_block st) refl (is_last_height c taken_block.height) refl
        where
          itself : (n : ℕ) → n ≤ n
          itself n = omega arith

          other : (judged_block c taken_block st ≡ Applied → is_last_height c taken_block.height ≡ true → (st.participation.stage ≡ Deals) ⊎ (st.participation.stage ≡ Ends)) → SaysSo (OnCommit IntoHere) (node_step c (event_of (Finalized taken_block)) st)
          other apart = quiet_commit IntoHere (node_step c (event_of (Finalized taken_block)) st) (block_quiet c taken_block st apart)

          takes : judged_block c taken_block st ≡ Applied → is_last_height c taken_block.height ≡ true → TakesLast st → SaysSo (OnCommit IntoHere) (node_step c (event_of (Finalized taken_block)) st)
          takes applied last_one stage =
              let most : ℕ = epoch_of c.blocks_per_epoch (taken_block.height + 1) - 1 in
              leads_commit IntoHere most Anywhere IsSetUpBy nothing (node_step c (event_of (Finalized taken_block)) st)
              (taken_leads c IntoHere most Anywhere (form_at g here (suc i)) taken_block (itself most) (subst IntoHere (next_is last_one) (enters applied last_one)) (subst IntoHere expected_is (enters applied last_one)) st nothing refl tt applied last_one stage)

          by_stage : judged_block c taken_block st ≡ Applied → is_last_height c taken_block.height ≡ true → (stage : Stage) → st.participation.stage ≡ stage → SaysSo (OnCommit IntoHere) (node_step c (event_of (Finalized taken_block)) st)
          by_stage applied last_one Deals at = other (λ a l. inl at)
          by_stage applied last_one Ends at = other (λ a l. inr at)
          by_stage applied last_one Follows at = takes applied last_one (inl at)
          by_stage applied last_one Includes at =
              takes applied last_one (inr (at, has_round c (unasked st) live.stands (λ follows. (let wrong : ◌≡◌ {A = Stage} Includes Follows = sym at ∙ follows in cc))))

          by_tests : (j : Judged) → judged_block c taken_block st ≡ j → (t : Bool) → is_last_height c taken_block.height ≡ t → SaysSo (OnCommit IntoHere) (node_step c (event_of (Finalized taken_block)) st)
          by_tests (Refusal fault) judged t last = other (λ applied l. absurd (let wrong : ◌≡◌ {A = Judged} (Refusal fault) Applied = sym judged ∙ applied in cc))
          by_tests Passed judged t last = other (λ applied l. absurd (let wrong : ◌≡◌ {A = Judged} Passed Applied = sym judged ∙ applied in cc))
          by_tests Applied judged false below = other (λ applied l. absurd (let wrong : false ≡ true = sym below ∙ l in cc))
          by_tests Applied judged true last_one = by_stage judged last_one st.participation.stage refl

    pub step_commits : (ended : Ended NodeStop (Live U)) (out now : List Entry) → Said (on_devices (step_of g (suc i) its st)) ended out now
        → (added : List Entry) × (now ≡ out ++ added) × AllByRecursion (CommitsInto g.script g.number g.life (suc i)) added
    step_commits ended out now said = by_brought (brings_so g its m.message m.brings) (subst (λ (k : Course U NodeStop (Live U)). Said (on_devices k) ended out now) (m.course (suc i) st) said)
      where
        all_commit : {P : Entry → Type 0} → ((line : Entry) → P line → OnCommit IntoHere line) → (lines : List Entry) → AllByRecursion P lines → AllByRecursion (OnCommit IntoHere) lines
        all_commit so [] all = tt
        all_commit so (line ∷ lines) all = (so line all.0, all_commit so lines all.1)

        by_brought : BringsBlock g its m.message ⊎ BringsMail its m.message → Said (on_devices (node_step c (event_of m.message) st)) ended out now
            → (added : List Entry) × (now ≡ out ++ added) × AllByRecursion (OnCommit IntoHere) added
        by_brought (inr mail) said =
            let through = node_steps_say_through c any_shares st m.message ended out now (through_at g here (suc i)) (λ h epoch found. tt) (step_taken g its m.message m.brings c st) live said in
            (through.0, through.1, all_commit (mail_commits mail.0 mail.1) through.0 through.2)
        by_brought (inl (number, made_it, final, sent)) said =
            said_so (OnCommit IntoHere) (node_step c (event_of (Finalized made_it.block)) st) ended out now (block_commits number made_it final)
            (subst (λ (x : Message U). Said (on_devices (node_step c (event_of x) st)) ended out now) sent said)
