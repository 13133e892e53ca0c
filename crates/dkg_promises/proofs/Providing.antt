-- An info is answered in an epoch alone for which the provider's set is there, whatever ends the step.
use Rattle.std.proofs.Common.{◌≡◌, ◌⊎◌, inl, inr, ℕ, zero, suc, ◌+◌, ◌==◌, ◌++◌, ◌<◌, ◌≤◌, List, [], ◌∷◌, Option, Some, None, Bool, true, false, Ok, arith, refl, sym, ◌∙◌, ap, subst, length}
use Rattle.std.specs.Prelude.{◌^◌, filter, is_some, not, nat_le, nat_lt, IsSomeAnd, if◌then◌else◌, option_and_then, option_map}
use Rattle.std.specs.List.{AllByRecursion}
use Rattle.std.specs.Option.{option_map_or}
use Rattle.std.proofs.lemmas.Bool.Decides.{nat_tests}
use Rattle.dkg_ceremony.specs.Outcomes.{LogMap}
use Rattle.dkg_ceremony.specs.Schedule.{midpoint}
use Rattle.dkg_ceremony.specs.declared.round.RoundParts.{RoundParts as Round}
use Rattle.dkg_ceremony.specs.declared.signed_log.SignedDealerLog.{SignedDealerLog}
use Rattle.dkg_types.specs.Blocks.{Block}
use Rattle.dkg_infos.specs.NextInfos.{info_by}
use Rattle.dkg_types.specs.PayloadCodes.{its_log}
use Rattle.dkg_infos.specs.declared.directory.Unit as directory
use Rattle.dkg_infos.specs.declared.entry.AnswerLine.TheVariants.{Available, Unavailable}
use Rattle.dkg_infos.specs.declared.entry.Entry.{Entry}
use Rattle.dkg_infos.specs.declared.entry.Entry.TheVariants.{Acked, Answer}
use Rattle.dkg_infos.specs.declared.entry.Why.{Why}
use Rattle.dkg_infos.specs.declared.fault.Fault.{Fault}
use Rattle.dkg_infos.specs.declared.fault.Fault.TheVariants.{HeightRange, InvalidParticipants}
use Rattle.dkg_infos.specs.declared.fault.ParticipantsCause.TheVariants.{ProviderEmpty, ProviderAbove}
use Rattle.dkg_infos.specs.declared.info.EpochInfo.{EpochInfo}
use Rattle.dkg_text.specs.declared.script.Script.{Script}
use Rattle.dkg_store.specs.Acts.{Ended}
use Rattle.dkg_core.specs.Asked.{IsInformed, OfShares, ReadsShare}
use Rattle.dkg_core.specs.Behind.{event_of}
use Rattle.dkg_core.specs.Blocks as b
use Rattle.dkg_core.specs.Core.{step}
use Rattle.dkg_core.specs.Courses.{Course, Say, Do, CallOutside, Ask, Goes, Stops, bind, on_devices, under}
use Rattle.dkg_core.specs.Dealing as d
use Rattle.dkg_core.specs.Endings.{validity}
use Rattle.dkg_core.specs.Entering as half
use Rattle.dkg_core.specs.Entering.{takes_delivered}
use Rattle.dkg_core.specs.Fixed.{Fixed, OneShot}
use Rattle.dkg_core.specs.Forms.{Applied, judged_block, round_for}
use Rattle.dkg_core.specs.Including as i
use Rattle.dkg_core.specs.Including.{Fed, Need, Found, Lacks, Continuation, can_finish, cached_for, is_need, job_for, read_of, job_result_of, retained_for}
use Rattle.dkg_core.specs.Live.{Artifact, Cached, Cancel, Deals, Ends, EpochInfoOf, Faulted, Feed, Finalized, Follows, Inclusion, Includes, Job, Live, Mail, Message, NextLog, NodeStop, Over, Participation, Peer, ReleaseLog, Request, Mailed, Stage, VerifiedLogs, Verified, Work, is_last_height, recorded_at, with_inclusion, with_participation, with_queue, with_tip, with_used}
use Rattle.dkg_core.specs.Logs.{canonical, filled_by, is_accepted, carried_log_event}
use Rattle.dkg_core.specs.Node.{node_step, unless_once}
use Rattle.dkg_laws.specs.NodeSaying.{IsHalfLine}
use Rattle.dkg_core.specs.Said.{Said}
use Rattle.dkg_core.specs.SayingThrough.{IsUnasked, SaysSo}
use Rattle.dkg_core.specs.Setup as s
use Rattle.dkg_core.specs.Stepping.{IsDealingStop, given_itself}
use Rattle.dkg_core.specs.Through.{IsFormThrough, IsLiveThrough, waits_for}
use Rattle.dkg_core.proofs.Applied.{judged_is}
use Rattle.dkg_core.proofs.SayingThrough.{deals_so, final_so, follows_so, hears_so, said_so, so_behind, so_if, so_known, so_option}
use Rattle.dkg_core.proofs.Setups.{anywhere_over}
use Rattle.dkg_core.proofs.StepDealing as dealing
use Rattle.dkg_promises.specs.Answers.{IsProvidedFor}
use Rattle.dkg_lives.specs.Blamed.{IsProviderCause}
use Rattle.dkg_lives.proofs.Unanswered.{again, behind_block}

abbrev U : Type 0
U = directory.Unit

-- what the provider names for the epoch two above serves
abbrev pub IsProvidedIn : Fixed U → (epoch : ℕ) → Type 0
IsProvidedIn c epoch = (epoch + 2 < 2 ^ 64) × (1 ≤ length (c.provided.participants (epoch + 2))) × (length (c.provided.participants (epoch + 2)) ≤ c.limit)

-- Where the line answers an info, this holds.
abbrev pub IsInfoIf : Type 0 → Entry → Type 0
IsInfoIf P (Answer number (Available payload)) = P
IsInfoIf P line = Unit {0}

-- what holds of every line, and under other names for faults
so_any : {Dir F S : Type 0} (P : Entry → Type 0) → ((line : Entry) → P line) → (course : Course Dir F S) → SaysSo P course
so_any P so (Say line course) = (so line, so_any P so course)
so_any P so (Do op course) = so_any P so course
so_any P so (CallOutside outer course) = so_any P so course
so_any P so (Ask f) = λ h. so_any P so (f h)
so_any P so (Goes end) = tt
so_any P so (Stops fault) = tt

so_under : {Dir F G S : Type 0} (P : Entry → Type 0) (name : F → G) (course : Course Dir F S) → SaysSo P course → SaysSo P (under name course)
so_under P name (Say line course) so = (so.0, so_under P name course so.1)
so_under P name (Do op course) so = so_under P name course so
so_under P name (CallOutside outer course) so = so_under P name course so
so_under P name (Ask f) so = λ h. so_under P name (f h) (so h)
so_under P name (Goes end) so = tt
so_under P name (Stops fault) so = tt

not_at_most : (a b : ℕ) → nat_le a b ≡ false → b < a
not_at_most a b e = grind (arith, nat_tests)

not_below : (a b : ℕ) → nat_lt a b ≡ false → b ≤ a
not_below a b e = grind (arith, nat_tests)

some_of : (n : ℕ) → (n == 0) ≡ false → 1 ≤ n
some_of n e = grind (arith, nat_tests)

-- of an epoch for which the provider's set is there its cause holds of no fault
pub provided_clear : (script : Script) (epoch : ℕ) (its : Fault) → IsProvidedFor script epoch → IsProviderCause script epoch its → ⊥
provided_clear script epoch (InvalidParticipants ProviderEmpty) provided why = none _ provided.some why
  where
    none : (k : ℕ) → 1 ≤ k → k ≡ 0 → ⊥
    none k some is = omega (arith, some, is)
provided_clear script epoch (InvalidParticipants (ProviderAbove count most)) provided why = over count most _ _ provided.in_bound why.0 why.1 why.2
  where
    over : (count most k limit : ℕ) → k ≤ limit → count ≡ k → most ≡ limit → most < count → ⊥
    over count most k limit few one two high = omega (arith, few, one, two, high)
provided_clear script epoch its provided why = absurd why

module _ (c : Fixed U) (epoch : ℕ) where
  abbrev Its : Type 0
  Its = Course U Fault (Live U)

  abbrev StopsAt : Its → Type 0
  StopsAt course = (fault : Fault) × (course ≡ Stops fault)

  abbrev IsStuck : Type 0
  IsStuck = (acts : Its) → StopsAt (i.with_provided c (epoch + 2) acts)

  -- It serves, or every artifact's course stops.
  provided_or : IsProvidedIn c epoch ⊎ IsStuck
  provided_or = by_tests (nat_le (2 ^ 64) (epoch + 2)) (count == 0) (nat_lt c.limit count) refl refl refl
    where
      count : ℕ
      count = length (c.provided.participants (epoch + 2))

      by_tests : (past none many : Bool) → nat_le (2 ^ 64) (epoch + 2) ≡ past → (count == 0) ≡ none → nat_lt c.limit count ≡ many
          → IsProvidedIn c epoch ⊎ ((acts : Its) → StopsAt (if past then Stops HeightRange else if none then Stops (InvalidParticipants ProviderEmpty) else if many then Stops (InvalidParticipants (ProviderAbove count c.limit)) else acts))
      by_tests true none many a b d = inr (λ acts. (HeightRange, refl))
      by_tests false true many a b d = inr (λ acts. (InvalidParticipants ProviderEmpty, refl))
      by_tests false false true a b d = inr (λ acts. (InvalidParticipants (ProviderAbove count c.limit), refl))
      by_tests false false false a b d = inl (not_at_most (2 ^ 64) (epoch + 2) a, some_of count b, not_below c.limit count d)

  -- WHERE EVERY ARTIFACT'S COURSE STOPS, and none is cached

  -- no artifact is cached, and what would follow is the info of this epoch's
  record IsBare (st : Live U) : Type 0 where
    pub cached : st.inclusion.cached ≡ None
    pub info : (round : Round) → st.participation.round ≡ Some round → IsSomeAnd st.participation.current (λ x. x.epoch ≡ epoch)

  module _ (reshare : c.oneshot ≡ None) (stuck : IsStuck) where
    none_made : (st : Live U) → IsBare st → (round : Round) → st.participation.round ≡ Some round → (r : VerifiedLogs) (next : Continuation U) → StopsAt (i.artifact c r st next)
    none_made st bare round is r next = by_current st.participation.current refl (bare.info round is)
      where
        by_current : (o : Option (EpochInfo U)) → st.participation.current ≡ o → IsSomeAnd o (λ x. x.epoch ≡ epoch) → StopsAt (i.artifact c r st next)
        by_current None e none = absurd none
        by_current (Some info) e same =
            let onward : Continuation U = i.keeping_artifact r.logs next in
            let made : EpochInfo U = info_by c.provided info (option_map (λ (found : Verified). found.output) r.result) in
            let acts : Its = i.share_by c info r.result (λ share. i.with_directory c made (onward (record { info = Some made; share = share }) st)) in
            let it = stuck acts in (
              it.0,
              ap (λ (o : Option (Cached U)). i.artifact_by c r (cached_for o r.logs) st next) bare.cached
                  ∙ ap (λ (o : Option (OneShot U)). i.derives c o r st next) reshare
                  ∙ ap (λ (o : Option (EpochInfo U)). option_map_or (λ x. i.derives_next c x r st onward) o (Stops HeightRange)) e
                  ∙ ap (λ (k : ℕ). i.with_provided c (k + 2) acts) same
                  ∙ it.1,
            )

    -- what holds of every stop, and of each course that goes on as such a life
    module _ (C : Its → Type 0) (stops : (fault : Fault) → C (Stops fault)) (goes : (end : Live U) → IsBare end → C (Goes end)) (st : Live U) (bare : IsBare st) (round : Round) (is : st.participation.round ≡ Some round) where
      stops_there : (course : Its) → StopsAt course → C course
      stops_there course (fault, at) = subst C (sym at) (stops fault)

      completes : (r : VerifiedLogs) (waiter : Option ℕ) → C (i.completes_in c r st waiter)
      completes r None = goes (i.retains c r st) (record { cached = bare.cached; info = bare.info })
      completes r (Some number) =
          let next : Continuation U = λ made now. bind (i.answers_request c number made now) (λ now. Goes (i.retains c r now)) in stops_there (i.artifact c r st next) (none_made st bare round is r next)

      module _ (lacks : (number : ℕ) (why : Why) (end : Live U) → IsBare end → C (Say (Answer number (Unavailable why)) (Goes end))) (number : ℕ) where
        starts : (job : Job) (refused : Option ℕ) → C (i.starts_unless job (Some number) refused st)
        starts job (Some who) = stops _
        starts job None = goes (i.verifying job (Some number) st) (record { cached = bare.cached; info = bare.info })

        asks : (logs : LogMap) (retained : Option VerifiedLogs) → C (i.asks_for_by c round number logs None retained st)
        asks logs (Some r) = stops_there (i.artifact c r st (i.answers_request c number)) (none_made st bare round is r (i.answers_request c number))
        asks logs None = starts (job_for c round logs st) (if can_finish c round logs st then s.refused_in c round st else None)

        fed : (f : Fed) → C (i.fed c round number st f)
        fed Need = goes st bare
        fed (Lacks why) = lacks number why _ (record { cached = bare.cached; info = bare.info })
        fed (Found found) =
            let logs : LogMap = filled_by (canonical c st) found in
            subst (λ (o : Option (Cached U)). C (i.asks_for_by c round number logs (cached_for o logs) (retained_for st.inclusion.retained logs) st)) (sym bare.cached) (asks logs (retained_for st.inclusion.retained logs))

    module _ (E : Type 0) where
      abbrev P : Entry → Type 0
      P = IsInfoIf E

      plain : (line : Entry) → IsUnasked line → P line
      plain (Answer number answer) is = absurd is
      plain line is = tt

      -- READING

      advances_so : (most : ℕ) (st : Live U) → IsBare st → SaysSo P (i.advances c most st)
      advances_so zero st bare = tt
      advances_so (suc most) st bare =
          so_option P (λ (round : Round). i.reads_first c round (λ now. i.advances c most now) st) st.participation.round (Goes st)
          (λ round is. by_stage (λ end its. advances_so most end its) round is st.participation.stage st.inclusion.running st.inclusion.queue) tt
        where
          next : Live U → Its
          next now = i.advances c most now

          by_stage : ((end : Live U) → IsBare end → SaysSo P (i.advances c most end)) → (round : Round) → st.participation.round ≡ Some round → (stage : Stage) (running : Option Job) (queue : List (Request U))
              → SaysSo P (i.reads_first_in c round next st stage running queue)
          by_stage more round is Includes None (r ∷ rs) =
              so_if P (is_need (read_of c round st r)) (Goes st) (bind (i.fed c round r.number (with_queue rs st) (read_of c round st r)) next) (λ e. tt)
              (λ e. fed (λ course. SaysSo P (bind course next)) (λ fault. tt) (λ end its. more end its) (with_queue rs st) (record { cached = bare.cached; info = bare.info }) round is
              (λ number why end its. (tt, more end its)) r.number (read_of c round st r))
          by_stage more round is Includes None [] = tt
          by_stage more round is Includes (Some job) queue = tt
          by_stage more round is Deals running queue = tt
          by_stage more round is Follows running queue = tt
          by_stage more round is Ends running queue = tt

      module _ (st : Live U) (bare : IsBare st) where
        -- a life with the same artifacts and info
        advanced_so : (now : Live U) → now.inclusion.cached ≡ st.inclusion.cached → now.participation.round ≡ st.participation.round → now.participation.current ≡ st.participation.current → SaysSo P (i.advanced c now)
        advanced_so now cached round current = advances_so (length now.inclusion.queue) now (record {
          cached = cached ∙ bare.cached;
          info = λ its is. subst (λ (o : Option (EpochInfo U)). IsSomeAnd o (λ x. x.epoch ≡ epoch)) (sym current) (bare.info its (sym round ∙ is));
        })

        -- THE END OF A VERIFICATION

        module _ (runs : (job : Job) → st.inclusion.running ≡ Some job → (round : Round) × (st.participation.round ≡ Some round)) where
          module _ (C : Its → Type 0) (stops : (fault : Fault) → C (Stops fault)) (goes : (end : Live U) → IsBare end → C (Goes end)) (handed : Option VerifiedLogs) where
            ends_so : C (i.ends_verifying c handed st)
            ends_so = by_running st.inclusion.running refl
              where
                by_running : (running : Option Job) → st.inclusion.running ≡ running → C (i.ends_verifying_in c handed st running)
                by_running None is = goes st bare
                by_running (Some job) is = let its = runs job is in completes C stops goes st bare its.0 its.1 (job_result_of c handed job) st.inclusion.waiter

          -- MAIL

          given : (number height : ℕ) (found : Option SignedDealerLog) → SaysSo P (i.gives_log c number height found (with_used number st))
          given number height None = (tt, tt)
          given number height (Some log) = (tt, tt)

          asked : (number : ℕ) (stage : Stage) → SaysSo P (i.asks_in c number (with_used number st) stage)
          asked number Deals = tt
          asked number Includes = advanced_so (i.queued number (with_used number st)) refl refl refl
          asked number Follows = (tt, tt)
          asked number Ends = (tt, tt)

          changed : (number : ℕ) (f : Request U → Request U) → SaysSo P (i.advanced c (i.changed number f st))
          changed number f = advanced_so (i.changed number f st) refl refl refl

          mail_so : (mail : Mail U) → SaysSo P (step c (Mailed mail) st)
          mail_so (Peer from bytes) = hears_so c P plain from bytes st st.participation.stage
          mail_so (NextLog number height) = given number height (i.served_now (with_used number st))
          mail_so (ReleaseLog height) = tt
          mail_so (EpochInfoOf number) = asked number st.participation.stage
          mail_so (Feed number block) = changed number (λ r. if r.ended then r else record r { blocks = r.blocks ++ block ∷ [] })
          mail_so (Over number) = changed number (λ r. record r { ended = true })
          mail_so (Cancel number) =
              let kept : Live U = with_queue (filter (λ r. not (r.number == number)) st.inclusion.queue) st in
              so_if P (waits_for number st) (Goes (with_inclusion (record st.inclusion { waiter = None }) st)) (i.advanced c kept) (λ e. tt) (λ e. advanced_so kept refl refl refl)
          mail_so (Work handed) =
              let next : Live U → Its = λ now. i.advanced c now in
              so_if P (is_some st.inclusion.running) (bind (i.ends_verifying c handed st) next) (Goes st)
              (λ e. ends_so (λ course. SaysSo P (bind course next)) (λ fault. tt) (λ end its. advances_so (length end.inclusion.queue) end its) handed) (λ e. tt)

          -- A BLOCK

          module _ (stored : OfShares) (form : IsFormThrough c) (reads : ReadsShare c stored None) (live : IsLiveThrough c stored st) (block : Block U) where
            deals : SaysSo P (b.deals_at c block st)
            deals =
                let mid : Live U = given_itself c st in
                let begun : Live U = s.begins_inclusion c (with_tip block mid) in
                let next : Live U → Its = λ now. if block.height + 1 == midpoint c.blocks_per_epoch now.participation.epoch then i.advanced c (s.begins_inclusion c (with_tip block now)) else Goes (with_tip block now) in
                let same = dealing.given_same c st in
                so_known P (IsDealingStop c st) (λ end left. end ≡ mid) (d.deals c st) next (deals_so c P plain st) (anywhere_over (IsDealingStop c st) (λ end. end ≡ mid) (d.deals c st) None (dealing.deals c st))
                (λ end its. subst (λ (x : Live U). SaysSo P (next x)) (sym its)
                (so_if P (block.height + 1 == midpoint c.blocks_per_epoch mid.participation.epoch) (i.advanced c begun) (Goes (with_tip block mid))
                (λ e. advanced_so begun (ap (λ (x : Inclusion U). x.cached) same.inclusion) same.same.round same.same.current) (λ e. tt)))

            module _ (round : Round) where
              abbrev read_on : Live U → Its
              read_on now = i.advanced c (with_tip block (b.unserved block.height now))

              cleared : (dealer : ℕ) (now : Live U) → now.inclusion ≡ st.inclusion → now.participation ≡ st.participation → SaysSo P (read_on (b.without_own_log c dealer now))
              cleared dealer now inclusion participation = by_test (dealer == c.me)
                where
                  by_test : (t : Bool) → SaysSo P (read_on (if t then with_participation (record now.participation { dealer = option_map b.unoffered now.participation.dealer }) now else now))
                  by_test true = advanced_so _ (ap (λ (x : Inclusion U). x.cached) inclusion) (ap (λ (x : Participation U). x.round) participation) (ap (λ (x : Participation U). x.current) participation)
                  by_test false = advanced_so _ (ap (λ (x : Inclusion U). x.cached) inclusion) (ap (λ (x : Participation U). x.round) participation) (ap (λ (x : Participation U). x.current) participation)

              observed : (log : Option SignedDealerLog) → SaysSo P (bind (b.observes c round block st log) read_on)
              observed None = advanced_so (with_tip block (b.unserved block.height st)) refl refl refl
              observed (Some log) = by_tests (is_accepted c round log) (is_some (recorded_at st.records.logs round.number log.dealer))
                where
                  by_tests : (one two : Bool) → SaysSo P (bind (if one then bind (if two then Goes st else d.appends round.number (carried_log_event log.dealer block.height log.log) (Goes (b.with_log_at round.number log.dealer block.height log.log st)))
                      (λ now. Goes (b.without_own_log c log.dealer now)) else Goes st) read_on)
                  by_tests true true = cleared log.dealer st refl refl
                  by_tests true false = cleared log.dealer (b.with_log_at round.number log.dealer block.height log.log st) refl refl
                  by_tests false two = advanced_so (with_tip block (b.unserved block.height st)) refl refl refl

            applied : (stage : Stage) → st.participation.stage ≡ stage → SaysSo P (b.applies_in c block st stage)
            applied Deals is = deals
            applied Includes is =
                so_option P (λ (round : Round). if is_last_height c block.height then b.final_block c round block st else b.includes c round block st) st.participation.round (Goes st)
                (λ round of_round. so_if P (is_last_height c block.height) (b.final_block c round block st) (b.includes c round block st)
                (λ last. final_so c form stored reads st live P block last plain is round of_round (λ r among. tt) (λ info current made carries of_info of_logs. tt) (ends_so (λ course. SaysSo P course) (λ fault. tt) (λ end its. tt) None))
                (λ e. observed round (option_and_then its_log block.payload))) tt
            applied Follows is =
                so_if P (is_last_height c block.height) (b.carried c block (λ info. b.follows_into c block info st)) (Goes (with_tip block st))
                (λ last. follows_so c form stored reads st live P block last plain (λ info h carries. tt)) (λ e. tt)
            applied Ends is = tt

            block_so : SaysSo P (step c (Finalized block) st)
            block_so =
                judged_is c block st (λ course. SaysSo P course) (λ t x y one other. so_if P t x y one other) (λ fault is. tt) (λ is. tt) (λ is. applied st.participation.stage refl) (λ is. tt)

-- A NODE'S STEP answers an info only where the provider's set is there.
module _ (c : Fixed U) (stored : OfShares) (form : IsFormThrough c) (reads : ReadsShare c stored None) (st : Live U) (live : IsLiveThrough c stored st) where
  abbrev here : ℕ
  here = st.participation.epoch

  abbrev Q : Entry → Type 0
  Q = IsInfoIf (IsProvidedIn c here)

  any_line : IsProvidedIn c here → (line : Entry) → Q line
  any_line provided (Answer number (Available payload)) = provided
  any_line provided line = tt

  half_says : (line : Entry) → IsHalfLine line → Q line
  half_says (Answer number answer) is = absurd is
  half_says line is = tt

  current_here : (round : Round) → st.participation.round ≡ Some round → IsSomeAnd st.participation.current (λ x. x.epoch ≡ here)
  current_here round is = by_current st.participation.current (live.informed round is)
    where
      by_current : (o : Option (EpochInfo U)) → IsSomeAnd o (λ x. (x.epoch ≡ here) × (validity c x ≡ Ok tt) × (round_for c here x ≡ Ok round)) → IsSomeAnd o (λ x. x.epoch ≡ here)
      by_current None none = none
      by_current (Some info) its = its.0

  runs : (job : Job) → st.inclusion.running ≡ Some job → (round : Round) × (st.participation.round ≡ Some round)
  runs job is = let its = live.asked.has.runs job is in (its.0, its.1)

  -- an artifact that is cached was made of the provider's set
  of_cached : (made : Cached U) → st.inclusion.cached ≡ Some made → IsProvidedIn c here
  of_cached made is =
      let its = live.asked.has.made made is in
      let known = its.4.provided in
      let same : (its.1).epoch ≡ here = subst (λ (o : Option (EpochInfo U)). IsSomeAnd o (λ x. x.epoch ≡ here)) its.3 (current_here its.0 its.2) in
      subst (IsProvidedIn c) same (known.in_range, known.some, known.in_bound)

  step_so : (message : Message U) → SaysSo Q (step c message st)
  step_so message = by_cached st.inclusion.cached refl
    where
      by_message : IsStuck c here → IsBare c here st → (m : Message U) → SaysSo Q (step c m st)
      by_message stuck bare (Finalized block) = block_so c here form.form.reshare stuck (IsProvidedIn c here) st bare runs stored form reads live block
      by_message stuck bare (Mailed mail) = mail_so c here form.form.reshare stuck (IsProvidedIn c here) st bare runs mail

      by_provider : st.inclusion.cached ≡ None → IsProvidedIn c here ⊎ IsStuck c here → SaysSo Q (step c message st)
      by_provider none (inl provided) = so_any Q (any_line provided) (step c message st)
      by_provider none (inr stuck) = by_message stuck (record { cached = none; info = current_here }) message

      by_cached : (cached : Option (Cached U)) → st.inclusion.cached ≡ cached → SaysSo Q (step c message st)
      by_cached None is = by_provider is (provided_or c here)
      by_cached (Some made) is = so_any Q (any_line (of_cached made is)) (step c message st)

  node_so : (message : Message U) → SaysSo Q (node_step c (event_of message) st)
  node_so (Finalized block) =
      so_behind Q (under Faulted (step c (Finalized block) st))
      (λ now. unless_once c (bind (takes_delivered c block now) (λ left. half.acked_at block.height left.answer left.live)) (Say (Acked block.height) (Goes now)))
      (so_under Q Faulted (step c (Finalized block) st) (step_so (Finalized block))) (λ now. behind_block c Q half_says block now)
  node_so (Mailed mail) =
      so_behind Q (under Faulted (step c (Mailed mail) st)) (λ now. unless_once c (half.asks_again c now) (Goes now)) (so_under Q Faulted (step c (Mailed mail) st) (step_so (Mailed mail)))
      (λ now. so_if Q (is_some c.oneshot) (Goes now) (half.asks_again c now) (λ e. tt) (λ e. again c Q half_says now))

  pub info_lines : (message : Message U) (ended : Ended NodeStop (Live U)) (old new : List Entry) → Said (on_devices (node_step c (event_of message) st)) ended old new
      → (added : List Entry) × (new ≡ old ++ added) × AllByRecursion Q added
  info_lines message ended old new said = said_so Q (node_step c (event_of message) st) ended old new (node_so message) said
