-- Which share is told as committed in an opening and in a step, over what the devices hold.
use Rattle.std.proofs.Common.{◌≡◌, ℕ, Bool, true, false, List, [], ◌∷◌, Option, Some, None, refl, sym, ◌∙◌, ap, subst, arith}
use Rattle.std.specs.Prelude.{◌+◌, ◌-◌, ◌==◌, ◌&&◌, ◌||◌, if◌then◌else◌, is_some, is_none, not, IsSomeAnd, Ok, Err, Result, option_and_then}
use Rattle.std.specs.Option.{option_map_or}
use Rattle.std.proofs.lemmas.Bool.Decides.{nat_tests}
use Rattle.dkg_ceremony.specs.Outcomes.{LogMap}
use Rattle.dkg_ceremony.specs.Schedule.{boundary, epoch_of, last, midpoint}
use Rattle.dkg_ceremony.specs.declared.deal.DealError.{DealError}
use Rattle.dkg_ceremony.specs.declared.output.Output.{Output}
use Rattle.dkg_ceremony.specs.declared.phase.Phase.{Phase}
use Rattle.dkg_ceremony.specs.declared.round.RoundError.{RoundError}
use Rattle.dkg_ceremony.specs.declared.round.RoundParts.{RoundParts as Round}
use Rattle.dkg_ceremony.specs.declared.signed_log.SignedDealerLog.{SignedDealerLog}
use Rattle.dkg_secrets.specs.declared.secrets.SecretOp.TheVariants.{PutSeed, PutShare}
use Rattle.dkg_store.specs.Acts.{Changes, Held, OnDisk, held_after}
use Rattle.dkg_journal.specs.Operations.{Bars, Opens}
use Rattle.dkg_types.specs.BlockCodes.{info_of}
use Rattle.dkg_types.specs.Blocks.{Block}
use Rattle.dkg_types.specs.PayloadCodes.{its_log}
use Rattle.dkg_infos.specs.declared.entry.Entry.TheVariants.{Acked, Committed}
use Rattle.dkg_infos.specs.declared.entry.Entry.{Entry}
use Rattle.dkg_infos.specs.declared.entry.Why.TheVariants.{Finished}
use Rattle.dkg_infos.specs.declared.fault.Fault.TheVariants.{HeightRange, LocalState, MissingEpochInfo, WrongEpoch}
use Rattle.dkg_infos.specs.declared.fault.Fault.{Fault}
use Rattle.dkg_infos.specs.declared.fault.LocalCause.TheVariants.{OutcomeOmitted}
use Rattle.dkg_infos.specs.declared.info.EpochInfo.{EpochInfo}
use Rattle.dkg_infos.specs.declared.participants.Participants.{Participants}
use Rattle.dkg_infos.specs.declared.participants.ParticipantsError.{ParticipantsError}
use Rattle.dkg_core.specs.Asked.{HasAsked, IsArtifactIn, IsAskStop, IsJobIn, IsResultIn, OfShares, ReadsShare}
use Rattle.dkg_core.specs.Behind.{event_of}
use Rattle.dkg_core.specs.Blocks as b
use Rattle.dkg_core.specs.Core.{begun_life, opening, opens_in, step}
use Rattle.dkg_core.specs.Courses.{Course, Goes, Say, Stops, bind, under}
use Rattle.dkg_core.specs.Dealing as d
use Rattle.dkg_core.specs.Endings.{first_epoch, validity}
use Rattle.dkg_core.specs.Entering as half
use Rattle.dkg_core.specs.Entering.{takes_delivered}
use Rattle.dkg_core.specs.Fixed.{Fixed, Material, OneShot, has, start}
use Rattle.dkg_core.specs.Forms.{IsForm, round_for, seed_read, share_read}
use Rattle.dkg_laws.specs.Idle.{IsAskedEntry}
use Rattle.dkg_core.specs.Including as i
use Rattle.dkg_core.specs.Including.{cached_for, can_finish, job_for, retained_for, retains, verified}
use Rattle.dkg_core.specs.Live.{Artifact, Deals, Dealer, Ends, Faulted, Finalized, Follows, GaveNone, Includes, Inclusion, Job, Live, Peer, Plays, Request, Seat, Mailed, Stage, VerifiedLogs, Watches, awaited_height, is_last_height, records_of_epoch, phase_of, recorded_at, with_inclusion, with_participation, with_tip, with_told}
use Rattle.dkg_core.specs.Logs.{canonical, is_accepted, carried_log_event, logs_of}
use Rattle.dkg_core.specs.Node.{kept_material, node_opening, node_step, unless_once}
use Rattle.dkg_core.specs.Plans as p
use Rattle.dkg_core.specs.SayingThrough.{IsUnasked, SaysSo}
use Rattle.dkg_core.specs.Setup as s
use Rattle.dkg_core.specs.Sources.{Tip, startup}
use Rattle.dkg_core.specs.Stepping.{next_epoch}
use Rattle.dkg_core.specs.Through.{IsFormThrough, IsLiveThrough, IsShareTaken}
use Rattle.dkg_core.proofs.Advancing.{included, none_found, of_round, retained_is, some_of}
use Rattle.dkg_core.proofs.Applied.{judged_is}
use Rattle.dkg_core.proofs.Artifacts.{artifact_is, cached_is}
use Rattle.dkg_core.proofs.Concluding.{retained_logs}
use Rattle.dkg_core.proofs.Counting.{some_is}
use Rattle.dkg_core.proofs.Heights.{next_last}
use Rattle.dkg_laws.proofs.Idle as idle
use Rattle.dkg_core.proofs.SayingThrough.{deals_so, hears_so, so_behind, so_if}
use Rattle.dkg_core.proofs.Verifying as verifying
use Rattle.dkg_core.proofs.Verifying.{IsEndedIn, verified_is, verifying_ends}
use Rattle.dkg_lives.proofs.HalfLines as halves
use Rattle.dkg_along.proofs.SaysOver.{SaysOver, anywhere, only_so, over_behind, over_if, over_only, over_option, over_under}

none_apart : {A : Type 0} (a : A) → ◌≡◌ {A = Option A} None (Some a) → ⊥
none_apart a e = cc

same_number : (n m : ℕ) → (n == m) ≡ true → n ≡ m
same_number n m e = grind (arith, nat_tests)

equal_number : (n m : ℕ) → n ≡ m → (n == m) ≡ true
equal_number n m e = grind (arith, nat_tests)

-- A commit that is told is such a one.
abbrev pub Tells : (So : ℕ → Option ℕ → Type 0) → Entry → Type 0
Tells So (Committed epoch share) = So epoch share
Tells So line = Unit {0}

module _ {Dir : Type 0} (c : Fixed Dir) (So : ℕ → Option ℕ → Type 0) where
  abbrev P : Entry → Type 0
  P = Tells So

  plain : (line : Entry) → IsUnasked line → P line
  plain (Committed epoch share) is = absurd is
  plain line is = tt

  pub asked : (line : Entry) → IsAskedEntry line → P line
  asked (Committed epoch share) is = absurd is
  asked line is = tt

  -- where requests are read
  advanced_so : (now : Live Dir) → SaysSo P (i.advanced c now)
  advanced_so now = only_so IsAskedEntry P (idle.Beside c now) (i.advanced c now) (idle.advanced c now now.inclusion) asked

  -- A SETUP that commits nothing

  takes_part : (round : Round) (phase : Phase) (dealer : Option Dealer) (seat : Seat) (now : Live Dir) → SaysSo P (s.takes_part c round phase dealer seat now)
  takes_part round phase dealer seat now = (tt, tt)

  sits_down : (round : Round) (phase : Phase) (dealer : Option Dealer) (refused : Option ℕ) (now : Live Dir) → SaysSo P (s.sits_down c round phase dealer refused now)
  sits_down round phase dealer (Some who) now = tt
  sits_down round phase dealer None now = takes_part round phase dealer Plays now

  makes_player : (round : Round) (phase : Phase) (dealer : Option Dealer) (now : Live Dir) → SaysSo P (s.makes_player c round phase dealer now)
  makes_player round phase dealer now =
      so_if P (not (has round.players c.me) || s.is_lost c round (records_of_epoch round.number now.records.dealings) (logs_of now round.number)) (s.takes_part c round phase dealer Watches now)
      (s.sits_down c round phase dealer (s.refused_in c round now) now) (λ e. takes_part round phase dealer Watches now) (λ e. sits_down round phase dealer (s.refused_in c round now) now)

  dealt_by : (round : Round) (phase : Phase) (now : Live Dir) (dealt : Result (List ℕ × List (ℕ × ℕ)) DealError) → SaysSo P (s.dealt_by c round phase now dealt)
  dealt_by round phase now (Ok dealt) = makes_player round phase (s.dealer_for phase round (s.dealer_from c round now dealt)) now
  dealt_by round phase now (Err e) = tt

  in_round : (phase : Phase) (share : Option ℕ) (seed : List ℕ) (now : Live Dir) (drawn : Result Round RoundError) → SaysSo P (s.in_round c phase share seed now drawn)
  in_round phase share seed now (Err e) = tt
  in_round phase share seed now (Ok round) =
      so_if P (s.may_deal c round share now) (s.dealt_by c round phase now (c.rules.deal_of round c.me share seed)) (s.makes_player c round phase None now)
      (λ e. dealt_by round phase now (c.rules.deal_of round c.me share seed)) (λ e. makes_player round phase None now)

  judged : (info : EpochInfo Dir) (now : Live Dir) (valid : Result (Unit {0}) ParticipantsError) → SaysSo P (s.info_judged c None s.WasCommitted info now valid)
  judged info now (Err e) = tt
  judged info now (Ok passed) = λ h. in_round (phase_of c (awaited_height now)) (share_read c info h) (seed_read c info h) (record now { records = s.records_from (now.participation.epoch - 1) now.records })
      (round_for c now.participation.epoch info)

  sets_up : (info : EpochInfo Dir) (now : Live Dir) → SaysSo P (s.with_info c None s.WasCommitted info now)
  sets_up info now =
      so_if P (info.epoch == now.participation.epoch) (s.info_judged c None s.WasCommitted info now (validity c info)) (Stops (WrongEpoch now.participation.epoch info.epoch)) (λ e. judged info now (validity c info)) (λ e. tt)

  draws_up : (its : Participants) (previous : Option Output) (share : Option ℕ) (seed : List ℕ) (now : Live Dir) → SaysSo P (s.draws_up c its previous share seed now)
  draws_up its previous share seed now =
      in_round (phase_of c (awaited_height now)) share seed now (c.rules.round_of c.namespace now.participation.epoch previous c.mode c.reveal its.dealers its.players)

  -- .. and one that commits the info of the boundary block

  -- the life behind a commit that is registered
  abbrev behind_commit : EpochInfo Dir → Option ℕ → Live Dir → Live Dir
  behind_commit info put now = s.with_registered info.epoch (s.scheme_for c info put) (with_participation (record now.participation { current = Some info }) now)

  commits_then : (info : EpochInfo Dir) (seed : List ℕ) (put : Option ℕ) (now : Live Dir) (next : Live Dir → Course Dir Fault (Live Dir)) (h : Held) → So info.epoch put → ((end : Live Dir) → SaysSo P (next end))
      → SaysOver P (bind (bind (s.commits info seed put now) (λ its. s.registers c info put its)) next) h
  commits_then info seed None now next h told so = (told, (tt, anywhere P (next (behind_commit info None now)) (held_after (Changes (PutSeed info.epoch seed)) h) (so (behind_commit info None now))))
  commits_then info seed (Some value) now next h told so =
      (told, (tt, anywhere P (next (behind_commit info (Some value) now)) (held_after (Changes (PutSeed info.epoch seed)) (held_after (Changes (PutShare info.epoch value)) h)) (so (behind_commit info (Some value) now))))

  judged_new : (info : EpochInfo Dir) (now : Live Dir) (valid : Result (Unit {0}) ParticipantsError) (h : Held) → So info.epoch (share_read c info h) → SaysOver P (s.info_judged c None s.Uncommitted info now valid) h
  judged_new info now (Err e) h so = tt
  judged_new info now (Ok passed) h so =
      commits_then info (seed_read c info h) (share_read c info h) now
      (λ st. bind (s.prunes (st.participation.epoch - 1) st) (λ st. if s.is_late_floor c None then s.follows c st else s.draws_up c (s.participants_of info) (Some info.output) (share_read c info h) (seed_read c info h) st)) h so
      (λ end. draws_up (s.participants_of info) (Some info.output) (share_read c info h) (seed_read c info h) (record end { records = s.records_from (end.participation.epoch - 1) end.records }))

  -- the info that the block at this epoch's boundary carries
  abbrev pub AtBoundary : (epoch : ℕ) → Held → Type 0
  AtBoundary epoch h = (block : Block Dir) (info : EpochInfo Dir) → c.source.block (boundary c.blocks_per_epoch epoch) ≡ Some block → info_of block.payload ≡ Some info → info.epoch ≡ epoch → So info.epoch (share_read c info h)

  from_boundary : (found : Option (Block Dir)) (now : Live Dir) (h : Held)
      → ((block : Block Dir) (info : EpochInfo Dir) → found ≡ Some block → info_of block.payload ≡ Some info → info.epoch ≡ now.participation.epoch → So info.epoch (share_read c info h)) → SaysOver P (s.from_boundary c found now) h
  from_boundary None now h so = (tt, tt)
  from_boundary (Some block) now h so =
      over_option P h (λ (info : EpochInfo Dir). s.with_info c None s.Uncommitted info now) (info_of block.payload) (Stops (MissingEpochInfo block.height))
      (λ info e. over_if P h (info.epoch == now.participation.epoch) (s.info_judged c None s.Uncommitted info now (validity c info)) (Stops (WrongEpoch now.participation.epoch info.epoch))
      (λ same. judged_new info now (validity c info) h (so block info refl e (same_number info.epoch now.participation.epoch same))) (λ apart. tt)) tt

  sets_up_over : (committed : Option (EpochInfo Dir)) (now : Live Dir) (h : Held) → AtBoundary now.participation.epoch h → SaysOver P (s.sets_up_by c None committed now) h
  sets_up_over (Some info) now h so = anywhere P (s.with_info c None s.WasCommitted info now) h (sets_up info now)
  sets_up_over None now h so = from_boundary (c.source.block (boundary c.blocks_per_epoch now.participation.epoch)) now h so

  setup_over : (now : Live Dir) (h : Held) → AtBoundary (epoch_of c.blocks_per_epoch (awaited_height now)) h → SaysOver P (s.setup c None now) h
  setup_over now h so =
      over_if P h (s.is_past_range c (awaited_height now)) (Stops HeightRange) (s.sets_up c None now) (λ e. tt) (λ e. sets_up_over (s.committed_info (s.anew c now)) (s.anew c now) h so)

  -- THE ORCHESTRATOR'S HALF commits nothing

  behind_block : (block : Block Dir) (now : Live Dir) → SaysSo P (unless_once c (bind (takes_delivered c block now) (λ left. half.acked_at block.height left.answer left.live)) (Say (Acked block.height) (Goes now)))
  behind_block = halves.behind_block c P (λ epoch. tt) tt (λ height. tt)

  -- A PEER'S MESSAGE commits nothing
  pub peer_over : (from : ℕ) (bytes : List ℕ) (now : Live Dir) (h : Held) → SaysOver P (node_step c (event_of (Mailed (Peer from bytes))) now) h
  peer_over from bytes now h =
      over_behind P (under Faulted (step c (Mailed (Peer from bytes)) now)) (λ end. unless_once c (half.asks_again c end) (Goes end)) h
      (over_under P Faulted (step c (Mailed (Peer from bytes)) now) h (anywhere P (step c (Mailed (Peer from bytes)) now) h (hears_so c P plain from bytes now now.participation.stage)))
      (halves.behind_mail c P (λ epoch. tt) tt (λ height. tt))

  -- AN OPENING of the form commits what is recovered for the info of its first epoch's boundary block, over the devices once the journal is open.

  abbrev pub opened_held : Held → Held
  opened_held h = held_after (OnDisk (Opens c.opening_calls)) (held_after (OnDisk Bars) h)

  module _ (form : IsForm c) (h : Held) (so : AtBoundary (first_epoch c) (opened_held h)) where
    abbrev next : Live Dir → Option (Material Dir) → Course Dir Fault (Live Dir)
    next now found = p.stays_in_range c (p.resolves_plan c (p.starts_from c now) found)

    goes : (now : Live Dir) → SaysOver P (next now None) (opened_held h)
    goes now = over_if P (opened_held h) (option_map_or (λ t. s.is_past_range c (t.height + 1)) (start c) false) (Stops HeightRange) (p.starts_from c now None) (λ e. tt)
        (λ e. setup_over (record now { tip = startup c.source.anchor None }) (opened_held h) so)

    opens : (now : Live Dir) → SaysOver P (opens_in c c.oneshot now) (opened_held h)
    opens now = subst (λ (o : Option (OneShot Dir)). SaysOver P (opens_in c o now) (opened_held h)) (sym form.reshare)
        (subst (λ (m : Option (Material Dir)). SaysOver P (p.finds_material c m (next now)) (opened_held h)) (sym form.bare)
        (subst (λ (found : Option (List ℕ)). SaysOver P (p.reads_plan c found (next now)) (opened_held h)) (sym (form.unplanned (opened_held h))) (goes now)))

    pub opening_over : SaysOver P (node_opening c) h
    opening_over =
        over_behind P (under Faulted (opening c)) (λ now. unless_once c (kept_material c now) (Goes now)) h
        (over_under P Faulted (opening c) h (tt, opens (begun_life (c.seen (opened_held h))))) (halves.behind_opening c P (λ epoch. tt) tt (λ height. tt))

-- A BLOCK

-- The block is its epoch's last, and the share is the one that is taken with the info that it carries.
abbrev pub IsTakenShare : {Dir : Type 0} → Fixed Dir → OfShares → Block Dir → Live Dir → Held → (epoch : ℕ) → Option ℕ → Type 0
IsTakenShare c stored block st h epoch share =
    (is_last_height c block.height ≡ true) × IsSomeAnd (info_of block.payload) (λ info. (info.epoch ≡ epoch) × (info.epoch ≡ next_epoch c block) × IsShareTaken c stored st h info share st.participation.stage)

module _ {Dir : Type 0} (c : Fixed Dir) (form : IsFormThrough c) (stored : OfShares) (block : Block Dir) (st : Live Dir) (live : IsLiveThrough c stored st) (held : Held) (reads : ReadsShare c stored (Some held)) where
  abbrev Taken : ℕ → Option ℕ → Type 0
  Taken = IsTakenShare c stored block st held

  abbrev Q : Entry → Type 0
  Q = Tells Taken

  -- what is taken at this stage
  taken_at : is_last_height c block.height ≡ true → (info : EpochInfo Dir) → info_of block.payload ≡ Some info → info.epoch ≡ next_epoch c block → (share : Option ℕ) (stage : Stage) → st.participation.stage ≡ stage
      → IsShareTaken c stored st held info share stage → Taken info.epoch share
  taken_at last info carries of_next share stage at taken = (
    last,
    subst (λ (o : Option (EpochInfo Dir)). IsSomeAnd o (λ x. (x.epoch ≡ info.epoch) × (x.epoch ≡ next_epoch c block) × IsShareTaken c stored st held x share st.participation.stage)) (sym carries)
        (refl, of_next, subst (λ (x : Stage). IsShareTaken c stored st held info share x) (sym at) taken),
  )

  expected_is : b.expected_epoch c block.height ≡ next_epoch c block
  expected_is = ap (λ (o : Option (OneShot Dir)). if is_some o then 0 else next_epoch c block) form.form.reshare

  module _ (last : is_last_height c block.height ≡ true) (info : EpochInfo Dir) (of_next : info.epoch ≡ next_epoch c block) where
    -- the setup behind: by the committed info
    setup_so : (now : Live Dir) → now.tip ≡ (with_tip block now).tip → now.participation.current ≡ Some info → SaysSo Q (s.setup c None now)
    setup_so now tip current =
        let before : Live Dir = s.anew c now in
        so_if Q (s.is_past_range c (awaited_height now)) (Stops HeightRange) (s.sets_up c None now) (λ e. tt)
        (λ e. subst (λ (o : Option (EpochInfo Dir)). SaysSo Q (s.sets_up_by c None o before)) (sym committed) (sets_up c Taken info before))
      where
        awaited : epoch_of c.blocks_per_epoch (awaited_height now) ≡ epoch_of c.blocks_per_epoch (block.height + 1)
        awaited = ap (λ (o : Option Tip). epoch_of c.blocks_per_epoch (option_map_or (λ t. t.height + 1) o 0)) tip

        committed : s.committed_info (s.anew c now) ≡ Some info
        committed =
            ap (λ (o : Option (EpochInfo Dir)). option_and_then (λ its. if its.epoch == epoch_of c.blocks_per_epoch (awaited_height now) then Some its else None) o) current
            ∙ ap (λ (t : Bool). if t then Some info else None)
            (equal_number info.epoch (epoch_of c.blocks_per_epoch (awaited_height now)) (of_next ∙ sym (next_last c.blocks_per_epoch block.height form.form.counted last) ∙ sym awaited))

    -- what is committed is told, registered, and then comes what comes behind
    commits_over : (put : Option ℕ) (seed : List ℕ) (now : Live Dir) (next : Live Dir → Course Dir Fault (Live Dir)) → Taken info.epoch put
        → SaysSo Q (next (s.with_registered info.epoch (s.scheme_for c info put) (with_participation (record now.participation { current = Some info }) now)))
        → SaysOver Q (bind (s.commits info seed put now) (λ its. bind (s.registers c info put its) next)) held
    commits_over None seed now next told so = (told, (tt, anywhere Q (next (behind_commit c Taken info None now)) (held_after (Changes (PutSeed info.epoch seed)) held) so))
    commits_over (Some value) seed now next told so =
        (told, (tt, anywhere Q (next (behind_commit c Taken info (Some value) now)) (held_after (Changes (PutSeed info.epoch seed)) (held_after (Changes (PutShare info.epoch value)) held)) so))

  -- WHILE FOLLOWING
  follows_over : st.participation.stage ≡ Follows → SaysOver Q (b.follows_at c block st) held
  follows_over at =
      over_if Q held (is_last_height c block.height) (b.carried c block (λ info. b.follows_into c block info st)) (Goes (with_tip block st)) (λ last.
      over_option Q held (λ (info : EpochInfo Dir). if info.epoch == b.expected_epoch c block.height then b.follows_into c block info st else Stops (WrongEpoch (b.expected_epoch c block.height) info.epoch)) (info_of block.payload)
      (Stops (MissingEpochInfo block.height))
      (λ info carries. over_if Q held (info.epoch == b.expected_epoch c block.height) (b.follows_into c block info st) (Stops (WrongEpoch (b.expected_epoch c block.height) info.epoch))
      (λ e. let of_next = same_number info.epoch (b.expected_epoch c block.height) e ∙ expected_is in
      commits_over last info of_next (share_read c info held) (seed_read c info held) st (λ its. s.setup c None (with_tip block its)) (taken_at last info carries of_next (share_read c info held) Follows at refl)
      (setup_so last info of_next (with_tip block (s.with_registered info.epoch (s.scheme_for c info (share_read c info held)) (with_participation (record st.participation { current = Some info }) st))) refl refl))
      (λ e. tt)) tt) (λ e. tt)

  -- WHILE INCLUDING
  module _ (includes : st.participation.stage ≡ Includes) where
    module _ (last : is_last_height c block.height ≡ true) (round : Round) (records_of_epoch : st.participation.round ≡ Some round) where
      abbrev logs : LogMap
      logs = canonical c st

      known : (info : EpochInfo Dir) × (st.participation.current ≡ Some info)
      known =
          let its = some_of (λ (info : EpochInfo Dir). (info.epoch ≡ st.participation.epoch) × (validity c info ≡ Ok tt) × (round_for c st.participation.epoch info ≡ Ok round))
          st.participation.current (live.informed round records_of_epoch) in
          (its.0, its.1)

      abbrev with : Inclusion Dir → Live Dir
      with its = with_inclusion its st

      answers_all : (info : EpochInfo Dir) → info.epoch ≡ next_epoch c block → (queue : List (Request Dir)) (now : Live Dir) → now.tip ≡ (with_tip block now).tip → now.participation.current ≡ Some info
          → SaysSo Q (bind (b.answers_all queue now) (λ its. s.setup c None its))
      answers_all info of_next [] now tip current = setup_so last info of_next (with_inclusion (record now.inclusion { queue = [] }) now) tip current
      answers_all info of_next (r ∷ rs) now tip current = (tt, answers_all info of_next rs (with_told r.number (GaveNone Finished) now) tip current)

      concludes : (made : Artifact Dir) → IsArtifactIn c stored round known.0 st logs made → (its : Inclusion Dir) → SaysOver Q (b.concludes c block made (with its)) held
      concludes made is its =
          subst (λ (o : Option (OneShot Dir)). SaysOver Q
          (if is_some o && is_none block.payload then (if is_some made.info then Stops (LocalState OutcomeOmitted) else b.passes_on c block None (with its))
          else b.carried c block (λ info. b.takes_over c block info (b.share_for c info made) (with its))) held) (sym form.form.reshare)
          (over_option Q held (λ (info : EpochInfo Dir). if info.epoch == b.expected_epoch c block.height then b.takes_over c block info (b.share_for c info made) (with its) else Stops (WrongEpoch (b.expected_epoch c block.height) info.epoch))
          (info_of block.payload) (Stops (MissingEpochInfo block.height))
          (λ info carries. over_if Q held (info.epoch == b.expected_epoch c block.height) (b.takes_over c block info (b.share_for c info made) (with its)) (Stops (WrongEpoch (b.expected_epoch c block.height) info.epoch))
          (λ e. over info carries (same_number info.epoch (b.expected_epoch c block.height) e ∙ expected_is)) (λ e. tt)) tt)
        where
          over : (info : EpochInfo Dir) → info_of block.payload ≡ Some info → info.epoch ≡ next_epoch c block → SaysOver Q (b.takes_over c block info (b.share_for c info made) (with its)) held
          over info carries of_next =
              let share = b.share_for c info made in
              let life : Live Dir = s.with_registered info.epoch (s.scheme_for c info share) (with_participation (record st.participation { current = Some info }) (with its)) in
              subst (λ (o : Option (OneShot Dir)). SaysOver Q (bind (s.commits info (seed_read c info held) share (with its))
              (λ now. bind (if is_some o then Goes now else s.registers c info share now)
              (λ now. bind (b.answers_all now.inclusion.queue (with_tip block now)) (λ now. if is_some o then b.ends_once c (Some info) now else s.setup c None now)))) held) (sym form.form.reshare)
              (commits_over last info of_next share (seed_read c info held) (with its) (λ now. bind (b.answers_all now.inclusion.queue (with_tip block now)) (λ now. s.setup c None now))
              (taken_at last info carries of_next share Includes includes (round, known.0, records_of_epoch, known.1, (made, is, refl)))
              (answers_all info of_next its.queue (with_tip block life) refl refl))

      by_result : (r : VerifiedLogs) (its : Inclusion Dir) → HasAsked c stored (with its) → r.logs ≡ logs → IsResultIn c round st r → SaysOver Q (i.artifact c r (with its) (b.concludes c block)) held
      by_result r its has are result =
          artifact_is c stored round known.0 r (with its) (b.concludes c block) (λ course. SaysOver Q course held) (record {
            if_so = λ t x y one other. over_if Q held t x y one other;
            reads = λ f each. each held (λ epoch. reads held epoch refl);
            stopped = λ fault stop. tt;
          }) form.form has records_of_epoch known.1 result (λ made at m.
          subst (λ (x : Live Dir). SaysOver Q (b.concludes c block made x) held) (sym m.same)
          (concludes made (subst (λ (l : LogMap). IsArtifactIn c stored round known.0 st l made) are m.artifact) (record its { cached = at.inclusion.cached })))

      verifies : (its : Inclusion Dir) → HasAsked c stored (with its) → (refused : Option ℕ) → (if can_finish c round logs (with its) then s.refused_in c round (with its) else None) ≡ refused
          → SaysOver Q (bind (i.starts_unless (job_for c round logs (with its)) None refused (with its))
          (λ now. i.artifact c (verified c (job_for c round logs (with its))) (retains c (verified c (job_for c round logs (with its))) now) (b.concludes c block))) held
      verifies its has (Some who) is = tt
      verifies its has None is =
          let job : Job = job_for c round logs (with its) in
          let of_job : IsJobIn c round st job = (refl, none_found (can_finish c round logs (with its)) (s.refused_in c round (with its)) is) in
          let found = verified c job in
          let result = verified_is c form.finishing round st job of_job in
          let starts : Inclusion Dir = record its { running = Some job; waiter = None } in
          let started = included c stored st starts includes (λ none. refl) (λ other e. (round, records_of_epoch, subst (λ (x : Job). IsJobIn c round st x) (some_is job other e) of_job)) has.kept has.made in
          let ended = verifying.retained c stored (with starts) (Some held) form.form form.finishing reads live.informed started round records_of_epoch includes found result starts started refl refl refl in
          by_result found (retains c found (with starts)).inclusion ended.has refl result

      derived : (its : Inclusion Dir) → HasAsked c stored (with its) → (retained : Option VerifiedLogs) → retained_for its.retained logs ≡ retained → SaysOver Q (b.derives_at_block c round block logs retained (with its)) held
      derived its has (Some r) is = by_result r its has (retained_logs its.retained logs r is) (of_round st (λ x. IsResultIn c x st r) round records_of_epoch (has.kept r (retained_is its.retained logs r is)))
      derived its has None is = verifies its has (if can_finish c round logs (with its) then s.refused_in c round (with its) else None) refl

      concludes_by : (its : Inclusion Dir) → HasAsked c stored (with its) → (before now : Option (Artifact Dir)) → cached_for st.inclusion.cached logs ≡ before → cached_for its.cached logs ≡ now
          → SaysOver Q (b.concludes_by c round block logs before now (with its)) held
      concludes_by its has (Some made) now is at = concludes made (cached_is c stored round known.0 st live.asked.has records_of_epoch known.1 logs made is) its
      concludes_by its has None (Some made) is at = concludes made (cached_is c stored round known.0 (with its) has records_of_epoch known.1 logs made at) its
      concludes_by its has None None is at = derived its has (retained_for its.retained logs) refl

      final_over : SaysOver Q (b.final_block c round block st) held
      final_over =
          over_only IsAskedEntry Q (idle.Beside c st) (IsAskStop c st) (λ end left. (left ≡ Some held) × IsEndedIn c stored st end) (i.ends_verifying c None st)
          (λ now. b.concludes_by c round block logs (cached_for st.inclusion.cached logs) (cached_for now.inclusion.cached logs) now) held (idle.ends c st None st.inclusion.running) (asked c Taken)
          (verifying_ends c stored st (Some held) form.form form.finishing reads live.informed live.asked.has None (λ r e. absurd (none_apart r e)))
          (λ end its. behind end its.1)
        where
          behind : (end : Live Dir) → IsEndedIn c stored st end → SaysOver Q (b.concludes_by c round block logs (cached_for st.inclusion.cached logs) (cached_for end.inclusion.cached logs) end) held
          behind end its =
              subst (λ (x : Live Dir). SaysOver Q (b.concludes_by c round block logs (cached_for st.inclusion.cached logs) (cached_for x.inclusion.cached logs) x) held) (sym its.same)
              (concludes_by end.inclusion (subst (HasAsked c stored) its.same its.has) (cached_for st.inclusion.cached logs) (cached_for end.inclusion.cached logs) refl refl)

    -- a block below the last
    observes_so : (round : Round) (log : Option SignedDealerLog) → SaysSo Q (b.observes c round block st log)
    observes_so round None = tt
    observes_so round (Some log) = by_tests (is_accepted c round log) (is_some (recorded_at st.records.logs round.number log.dealer))
      where
        by_tests : (accepted kept : Bool)
            → SaysSo {Dir = Dir} Q (if accepted then bind (if kept then Goes st else d.appends round.number (carried_log_event log.dealer block.height log.log) (Goes (b.with_log_at round.number log.dealer block.height log.log st)))
            (λ now. Goes (b.without_own_log c log.dealer now)) else Goes st)
        by_tests true true = tt
        by_tests true false = tt
        by_tests false kept = tt

    below_so : (round : Round) → SaysSo Q (b.includes c round block st)
    below_so round =
        so_behind Q (b.observes c round block st (option_and_then its_log block.payload)) (λ now. i.advanced c (with_tip block (b.unserved block.height now))) (observes_so round (option_and_then its_log block.payload))
        (λ end. advanced_so c Taken (with_tip block (b.unserved block.height end)))

    includes_over : SaysOver Q (b.applies_in c block st Includes) held
    includes_over =
        over_option Q held (λ (round : Round). if is_last_height c block.height then b.final_block c round block st else b.includes c round block st) st.participation.round (Goes st)
        (λ round records_of_epoch. over_if Q held (is_last_height c block.height) (b.final_block c round block st) (b.includes c round block st)
        (λ last. final_over last round records_of_epoch) (λ below. anywhere Q (b.includes c round block st) held (below_so round))) tt

  -- WHILE DEALING
  deals_over : SaysOver Q (b.deals_at c block st) held
  deals_over =
      anywhere Q (b.deals_at c block st) held
      (so_behind Q (d.deals c st) (λ now. if block.height + 1 == midpoint c.blocks_per_epoch now.participation.epoch then i.advanced c (s.begins_inclusion c (with_tip block now)) else Goes (with_tip block now))
      (deals_so c Q (plain c Taken) st)
      (λ end. so_if Q (block.height + 1 == midpoint c.blocks_per_epoch end.participation.epoch) (i.advanced c (s.begins_inclusion c (with_tip block end))) (Goes (with_tip block end))
      (λ e. advanced_so c Taken (s.begins_inclusion c (with_tip block end))) (λ e. tt)))

  applies_over : (stage : Stage) → st.participation.stage ≡ stage → SaysOver Q (b.applies_in c block st stage) held
  applies_over Deals at = deals_over
  applies_over Includes at = includes_over at
  applies_over Follows at = follows_over at
  applies_over Ends at = tt

  -- ANY
  pub block_over : SaysOver Q (node_step c (event_of (Finalized block)) st) held
  block_over =
      over_behind Q (under Faulted (step c (Finalized block) st)) (λ now. unless_once c (bind (takes_delivered c block now) (λ left. half.acked_at block.height left.answer left.live)) (Say (Acked block.height) (Goes now))) held
      (over_under Q Faulted (step c (Finalized block) st) held
      (judged_is c block st (λ course. SaysOver Q course held) (λ t x y one other. over_if Q held t x y one other) (λ fault is. tt) (λ is. tt) (λ is. applies_over st.participation.stage refl) (λ is. tt)))
      (behind_block c Taken block)
