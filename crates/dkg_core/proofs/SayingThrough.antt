-- What is said in a life that passes through whole epochs.
use Rattle.std.proofs.Common.{◌≡◌, ◌≤◌, inl, inr, ℕ, zero, suc, Bool, true, false, List, [], ◌∷◌, Option, Some, None, refl, sym, ◌∙◌, ap, subst, arith}
use Rattle.std.specs.Prelude.{◌+◌, ◌-◌, ◌==◌, ◌++◌, ◌&&◌, ◌||◌, if◌then◌else◌, length, is_some, is_none, IsSomeAnd, Ok, Err, Result, option_and_then, option_map, map, filter, not}
use Rattle.std.specs.List.{AllByRecursion}
use Rattle.std.specs.Option.{option_map_or}
use Rattle.std.specs.Str.{bytes_eq}
use Rattle.std.proofs.lemmas.Bool.Decides.{nat_tests}
use Rattle.dkg_values.specs.Codec.{whole as all_of}
use Rattle.dkg_values.specs.Rising.{lookup}
use Rattle.dkg_values.specs.declared.codec.CodecError.{CodecError}
use Rattle.dkg_ceremony.specs.declared.ceremony.AckError.{AckError}
use Rattle.dkg_ceremony.specs.declared.ceremony.DealingError.{DealingError}
use Rattle.dkg_ceremony.specs.declared.deal.DealError.{DealError}
use Rattle.dkg_ceremony.specs.declared.phase.Phase.{Phase}
use Rattle.dkg_ceremony.specs.declared.round.RoundError.{RoundError}
use Rattle.dkg_ceremony.specs.declared.round.RoundParts.{RoundParts as Round}
use Rattle.dkg_ceremony.specs.declared.signed_log.SignedDealerLog.{SignedDealerLog}
use Rattle.dkg_ceremony.specs.Outcomes.{LogMap}
use Rattle.dkg_ceremony.specs.Schedule.{epoch_of, midpoint}
use Rattle.dkg_types.specs.Blocks.{Block}
use Rattle.dkg_types.specs.BlockCodes.{info_of}
use Rattle.dkg_infos.specs.declared.entry.Entry.{Entry}
use Rattle.dkg_infos.specs.declared.entry.Entry.TheVariants.{Answer, Committed, Setup, Offer}
use Rattle.dkg_infos.specs.declared.entry.AnswerLine.TheVariants.{Available, Unavailable}
use Rattle.dkg_infos.specs.declared.entry.Why.{Why}
use Rattle.dkg_infos.specs.declared.entry.Why.TheVariants.{Finished}
use Rattle.dkg_infos.specs.declared.fault.Fault.{Fault}
use Rattle.dkg_infos.specs.declared.fault.Fault.TheVariants.{HeightRange, MissingEpochInfo, WrongEpoch, LocalState}
use Rattle.dkg_infos.specs.declared.fault.LocalCause.TheVariants.{OutcomeOmitted, OwnDealing}
use Rattle.dkg_infos.specs.declared.info.EpochInfo.{EpochInfo}
use Rattle.dkg_types.specs.declared.message.Message.{Message as Channel}
use Rattle.dkg_types.specs.declared.message.Message.TheVariants.{Dealer as ADealing, Ack as AnAck}
use Rattle.dkg_infos.specs.declared.participants.ParticipantsError.{ParticipantsError}
use Rattle.dkg_types.specs.MessageCodes.{message_at}
use Rattle.dkg_types.specs.PayloadCodes.{its_log, info_payload, log_payload}
use Rattle.dkg_store.specs.declared.event.Event.TheVariants as events
use Rattle.dkg_store.specs.Acts.{Held, Ended, went, stopped, broken}
use Rattle.dkg_core.specs.Courses.{Course, Say, Do, CallOutside, Ask, Goes, Stops, bind, on_devices}
use Rattle.dkg_core.specs.Said.{Said, SaysAll, SaysUpTo, SaysFirst}
use Rattle.dkg_core.specs.Sources.{Tip}
use Rattle.dkg_core.specs.Fixed.{Fixed, OneShot, has}
use Rattle.dkg_core.specs.Live.{Live, Dealer, Seat, Plays, Watches, Stage, Deals, Includes, Follows, Ends, Inclusion, Request, Job, VerifiedLogs, Artifact, Mail, Peer, NextLog, ReleaseLog, EpochInfoOf, Feed, Over, Cancel, Work, Mailed, Finalized, GaveNone, awaited_height, phase_of, is_last_height, records_of_epoch, recorded_at, with_tip, with_participation, with_inclusion, with_queue, with_told, with_used}
use Rattle.dkg_core.specs.Logs.{canonical, filled_by, is_accepted, carried_log_event, logs_of}
use Rattle.dkg_core.specs.Same.{same_logs, same_round}
use Rattle.dkg_core.specs.Setup as s
use Rattle.dkg_core.specs.Dealing as d
use Rattle.dkg_core.specs.Including as i
use Rattle.dkg_core.specs.Including.{Fed, Need, Found, Lacks, can_finish, cached_for, is_of_job, job_for, payload_bytes, read_of, job_result_of, retained_for, retains, verified}
use Rattle.dkg_core.specs.Blocks as b
use Rattle.dkg_core.specs.Core.{step}
use Rattle.dkg_core.specs.Laws.{IsAmong}
use Rattle.dkg_core.specs.Endings.{validity}
use Rattle.dkg_core.specs.Forms.{IsForm, Applied, judged_block, ComesOver, round_for, share_read, seed_read}
use Rattle.dkg_core.specs.Stepping.{IsDealingStop, given_itself, next_epoch}
use Rattle.dkg_core.specs.Asked.{OfShares, ReadsShare, IsArtifactIn, IsResultIn, IsJobIn, HasAsked, IsInformed, IsAskStop, IsMadeIn}
use Rattle.dkg_core.specs.Through.{IsFormThrough, IsLiveThrough, IsTakenThrough, IsShareTaken, cancelled, verification_ended, included as included_life, observed, waits_for}
use Rattle.dkg_core.specs.SayingThrough.{SaysSo, payload_by, IsAskedAnswer, IsReadAnswer, IsUnasked, IsMailEntry, IsFinalAnswer, IsBlockAnswer, IsBlockLineThrough, StepsSayThrough}
use Rattle.dkg_core.proofs.Advancing as adv
use Rattle.dkg_core.proofs.Advancing.{included, none_found, of_round, read_again, requeued, retained_is, some_of}
use Rattle.dkg_core.proofs.Applied.{includes_above, judged_is}
use Rattle.dkg_core.proofs.Artifacts.{artifact_is, cached_is}
use Rattle.dkg_core.proofs.Concluding.{retained_logs}
use Rattle.dkg_core.proofs.Counting.{some_is}
use Rattle.dkg_core.proofs.Heights.{next_last}
use Rattle.dkg_core.proofs.Including as including
use Rattle.dkg_core.proofs.Including.{informed_as}
use Rattle.dkg_core.proofs.Mailing.{handed_of, not_ended}
use Rattle.dkg_core.proofs.Same.{one_logs}
use Rattle.dkg_core.proofs.Setups.{anywhere_over, no_held}
use Rattle.dkg_core.proofs.StepDealing as dealing
use Rattle.dkg_core.proofs.StepThrough.{early_has, still_has}
use Rattle.dkg_core.proofs.Verifying as verifying
use Rattle.dkg_core.proofs.Verifying.{IsEndedIn, IsHanded, verified_is, verifying_ends}

none_apart : {A : Type 0} (a : A) → ◌≡◌ {A = Option A} None (Some a) → ⊥
none_apart a e = cc

same_number : (n m : ℕ) → (n == m) ≡ true → n ≡ m
same_number n m e = grind (arith, nat_tests)

equal_number : (n m : ℕ) → n ≡ m → (n == m) ≡ true
equal_number n m e = grind (arith, nat_tests)

-- COURSES WHOSE LINES ARE SUCH

module _ {Dir F S : Type 0} (P : Entry → Type 0) where
  pub so_if : (t : Bool) (x y : Course Dir F S) → (t ≡ true → SaysSo P x) → (t ≡ false → SaysSo P y) → SaysSo P (if t then x else y)
  so_if true x y one other = one refl
  so_if false x y one other = other refl

  pub so_option : {A : Type 0} (f : A → Course Dir F S) (o : Option A) (none : Course Dir F S) → ((a : A) → o ≡ Some a → SaysSo P (f a)) → SaysSo P none → SaysSo P (option_map_or f o none)
  so_option f None none some without = without
  so_option f (Some a) none some without = some a refl

-- one behind another
pub so_behind : {Dir F S T : Type 0} (P : Entry → Type 0) (course : Course Dir F S) (next : S → Course Dir F T) → SaysSo P course → ((end : S) → SaysSo P (next end)) → SaysSo P (bind course next)
so_behind P (Say line course) next so more = (so.0, so_behind P course next so.1 more)
so_behind P (Do op course) next so more = so_behind P course next so more
so_behind P (CallOutside outer course) next so more = so_behind P course next so more
so_behind P (Ask f) next so more = λ h. so_behind P (f h) next (so h) more
so_behind P (Goes end) next so more = more end
so_behind P (Stops fault) next so more = tt

-- .. by where the first comes to
pub so_known : {Dir F S T : Type 0} (P : Entry → Type 0) (stops : F → Type 0) (first : S → Option Held → Type 0) (course : Course Dir F S) (next : S → Course Dir F T)
    → SaysSo P course → ComesOver stops first course None → ((end : S) → first end None → SaysSo P (next end)) → SaysSo P (bind course next)
so_known P stops first (Say line course) next so comes more = (so.0, so_known P stops first course next so.1 comes more)
so_known P stops first (Do op course) next so comes more = so_known P stops first course next so comes more
so_known P stops first (CallOutside outer course) next so comes more = so_known P stops first course next so comes more
so_known P stops first (Ask f) next so comes more = λ h. so_known P stops first (f h) next (so h) (comes h) more
so_known P stops first (Goes end) next so comes more = more end comes
so_known P stops first (Stops fault) next so comes more = tt

-- WHAT SUCH A COURSE SAYS

such : (P : Entry → Type 0) (line : Entry) (lines rest : List Entry) → lines ≡ line ∷ rest → P line → AllByRecursion P rest → AllByRecursion P lines
such P line lines rest are is all = subst (λ (ls : List Entry). AllByRecursion P ls) (sym are) (is, all)

no_such : (P : Entry → Type 0) (lines : List Entry) → lines ≡ [] → AllByRecursion P lines
no_such P lines are = subst (λ (ls : List Entry). AllByRecursion P ls) (sym are) tt

module _ {Dir F S : Type 0} (P : Entry → Type 0) where
  all_so : (course : Course Dir F S) (end : S) (lines : List Entry) → SaysSo P course → SaysAll (on_devices course) end lines → AllByRecursion P lines
  all_so (Say line course) end lines so by = such P line lines by.0 by.1 so.0 (all_so course end by.0 so.1 by.2)
  all_so (Do op course) end lines so by = all_so course end lines so by
  all_so (CallOutside outer course) end lines so by = all_so course end lines so by
  all_so (Ask f) end lines so by = all_so (f by.0) end lines (so by.0) by.1
  all_so (Goes its) end lines so by = no_such P lines by.0
  all_so (Stops fault) end lines so by = absurd by

  up_to_so : (course : Course Dir F S) (fault : F) (lines : List Entry) → SaysSo P course → SaysUpTo (on_devices course) fault lines → AllByRecursion P lines
  up_to_so (Say line course) fault lines so by = such P line lines by.0 by.1 so.0 (up_to_so course fault by.0 so.1 by.2)
  up_to_so (Do op course) fault lines so by = up_to_so course fault lines so by
  up_to_so (CallOutside outer course) fault lines so by = up_to_so course fault lines so by
  up_to_so (Ask f) fault lines so by = up_to_so (f by.0) fault lines (so by.0) by.1
  up_to_so (Goes its) fault lines so by = absurd by
  up_to_so (Stops its) fault lines so by = no_such P lines by.0

  first_so : (course : Course Dir F S) (lines : List Entry) → SaysSo P course → SaysFirst (on_devices course) lines → AllByRecursion P lines
  first_so (Say line course) lines so (inl none) = no_such P lines none
  first_so (Say line course) lines so (inr by) = such P line lines by.0 by.1 so.0 (first_so course by.0 so.1 by.2)
  first_so (Do op course) lines so (inl none) = no_such P lines none
  first_so (Do op course) lines so (inr by) = first_so course lines so by
  first_so (CallOutside outer course) lines so by = first_so course lines so by
  first_so (Ask f) lines so (inl none) = no_such P lines none
  first_so (Ask f) lines so (inr by) = first_so (f by.0) lines (so by.0) by.1
  first_so (Goes its) lines so by = no_such P lines by
  first_so (Stops fault) lines so by = no_such P lines by

  pub said_so : (course : Course Dir F S) (ended : Ended F S) (old new : List Entry) → SaysSo P course → Said (on_devices course) ended old new → (added : List Entry) × (new ≡ old ++ added) × AllByRecursion P added
  said_so course (went end) old new so said = (said.lines, said.added, all_so course end said.lines so said.by)
  said_so course (stopped fault) old new so said = (said.lines, said.added, up_to_so course fault said.lines so said.by)
  said_so course (broken cause) old new so said = (said.lines, said.added, first_so course said.lines so said.by)

-- WHERE REQUESTS ARE READ

module _ {Dir : Type 0} (c : Fixed Dir) (form : IsForm c) (stored : OfShares) (reads : ReadsShare c stored None) (st : Live Dir) (informed : IsInformed c st) (P : Entry → Type 0) where
  abbrev with : Inclusion Dir → Live Dir
  with its = with_inclusion its st

  abbrev says_next : (Artifact Dir → Live Dir → Course Dir Fault (Live Dir)) → Type 0
  says_next next = (made : Artifact Dir) (at : Live Dir) → SaysSo P (next made at)

  -- the artifact's course says nothing, but how it goes on
  pub artifact_so : (round : Round) (info : EpochInfo Dir) (r : VerifiedLogs) (its : Inclusion Dir) (next : Artifact Dir → Live Dir → Course Dir Fault (Live Dir)) → HasAsked c stored (with its)
      → st.participation.round ≡ Some round → st.participation.current ≡ Some info → IsResultIn c round st r
      → ((made : Artifact Dir) (at : Live Dir) → IsMadeIn c stored round info (with its) r.logs made at → SaysSo P (next made at)) → SaysSo P (i.artifact c r (with its) next)
  artifact_so round info r its next has records_of_epoch of_info result so =
      artifact_is c stored round info r (with its) next (λ course. SaysSo P course) (record {
        if_so = λ t x y one other. so_if P t x y one other;
        reads = λ f each. λ h. each h (λ epoch. reads h epoch tt);
        stopped = λ fault stop. tt;
      }) form has records_of_epoch of_info result so

  -- what an artifact of some logs is answered by
  pub payload_is : (round : Round) (info : EpochInfo Dir) (now : Live Dir) (logs : LogMap) (made : Artifact Dir) → IsArtifactIn c stored round info now logs made
      → option_map (λ (x : EpochInfo Dir). payload_bytes c (info_payload x)) made.info ≡ payload_by c round info logs
  payload_is round info now logs made is = ap (λ (o : Option (EpochInfo Dir)). option_map (λ (x : EpochInfo Dir). payload_bytes c (info_payload x)) o) is.info_is

  module _ (base : Inclusion Dir)
      (found_so : (round : Round) (info : EpochInfo Dir) (r : Request Dir) (found : LogMap) → st.participation.round ≡ Some round → st.participation.current ≡ Some info → IsAmong r base.queue
      → read_of c round (with base) r ≡ Found found → P (Answer r.number (Available (payload_by c round info (filled_by (canonical c (with base)) found)))))
      (lacks_so : (round : Round) (r : Request Dir) (reason : Why) → st.participation.round ≡ Some round → IsAmong r base.queue → read_of c round (with base) r ≡ Lacks reason → P (Answer r.number (Unavailable reason))) where
    module _ (round : Round) (records_of_epoch : st.participation.round ≡ Some round) (r : Request Dir) (among : IsAmong r base.queue) (its : Inclusion Dir) (has : HasAsked c stored (with its)) where
      known : (info : EpochInfo Dir) × (st.participation.current ≡ Some info)
      known =
          let found = some_of (λ (info : EpochInfo Dir). (info.epoch ≡ st.participation.epoch) × (validity c info ≡ Ok tt) × (round_for c st.participation.epoch info ≡ Ok round))
          st.participation.current (informed round records_of_epoch) in
          (found.0, found.1)

      same_read : read_of c round (with base) r ≡ read_of c round (with its) r
      same_read = read_again c round st base r ∙ sym (read_again c round st its r)

      module _ (found : LogMap) (read : read_of c round (with its) r ≡ Found found) where
        abbrev logs : LogMap
        logs = filled_by (canonical c (with its)) found

        answered : (made : Artifact Dir) (now : Live Dir) → IsArtifactIn c stored round known.0 (with its) logs made → SaysSo P (i.answers_request c r.number made now)
        answered made now is = (
          subst (λ (payload : Option (List ℕ)). P (Answer r.number (Available payload))) (sym (payload_is round known.0 (with its) logs made is))
              (found_so round known.0 r found records_of_epoch known.1 among (same_read ∙ read)),
          tt,
        )

        asks : (cached : Option (Artifact Dir)) (retained : Option VerifiedLogs) → cached_for its.cached logs ≡ cached → retained_for its.retained logs ≡ retained
            → SaysSo P (i.asks_for_by c round r.number logs cached retained (with its))
        asks (Some made) retained is at = answered made (with its) (cached_is c stored round known.0 (with its) has records_of_epoch known.1 logs made is)
        asks None (Some result) is at =
            artifact_so round known.0 result its (i.answers_request c r.number) has records_of_epoch known.1 (of_round st (λ x. IsResultIn c x st result) round records_of_epoch (has.kept result (retained_is its.retained logs result at)))
            (λ made now m. answered made now (subst (λ (l : LogMap). IsArtifactIn c stored round known.0 (with its) l made) (retained_logs its.retained logs result at) m.artifact))
        asks None None is at = starts (if can_finish c round logs (with its) then s.refused_in c round (with its) else None)
          where
            starts : (refused : Option ℕ) → SaysSo P (i.starts_unless (job_for c round (filled_by (canonical c (with its)) found) (with its)) (Some r.number) refused (with its))
            starts (Some who) = tt
            starts None = tt

      fed : (f : Fed) → read_of c round (with its) r ≡ f → SaysSo P (i.fed c round r.number (with its) f)
      fed Need read = tt
      fed (Lacks reason) read = (lacks_so round r reason records_of_epoch among (same_read ∙ read), tt)
      fed (Found found) read =
          let logs = filled_by (canonical c (with its)) found in asks found read (cached_for its.cached logs) (retained_for its.retained logs) refl refl

    abbrev Within : Inclusion Dir → Type 0
    Within its = (r : Request Dir) → IsAmong r its.queue → IsAmong r base.queue

    abbrev SaysMost : ℕ → Type 0
    SaysMost most = (its : Inclusion Dir) → HasAsked c stored (with its) → its.retained ≡ base.retained → Within its → SaysSo P (i.advances c most (with its))

    one_more : (most : ℕ) → SaysMost most → SaysMost (suc most)
    one_more most again its has still within =
        so_option P (λ (round : Round). i.reads_first c round next (with its)) st.participation.round (Goes (with its)) (λ round records_of_epoch. by_stage round records_of_epoch st.participation.stage its.running its.queue refl refl refl) tt
      where
        next : Live Dir → Course Dir Fault (Live Dir)
        next now = i.advances c most now

        reads_one : (round : Round) → st.participation.round ≡ Some round → st.participation.stage ≡ Includes → its.running ≡ None → (r : Request Dir) (rs : List (Request Dir)) → its.queue ≡ r ∷ rs
            → SaysSo P (bind (i.fed c round r.number (with_queue rs (with its)) (read_of c round (with its) r)) next)
        reads_one round records_of_epoch includes idle r rs queue_is =
            let others : Inclusion Dir = record its { queue = rs } in
            let has_others = requeued c stored st its rs its.used its.told has (λ follows. absurd (let no : ◌≡◌ {A = Stage} Includes Follows = sym includes ∙ follows in cc)) in
            let same_read = read_again c round st others r ∙ sym (read_again c round st its r) in
            so_known P (IsAskStop c (with base)) (adv.IsOn c stored (with base) None form (λ x e. reads) informed round r others) (i.fed c round r.number (with others) (read_of c round (with its) r)) next
            (fed round records_of_epoch r (within r (subst (IsAmong r) (sym queue_is) (inl refl))) others has_others (read_of c round (with its) r) same_read)
            (adv.fed c stored (with base) None form (λ x e. reads) informed round records_of_epoch includes r others has_others idle still (read_of c round (with its) r) same_read)
            (λ end on. subst (λ (x : Live Dir). SaysSo P (next x)) (sym on.is) (again on.now on.has (on.retained ∙ still)
            (λ other is. within other (subst (IsAmong other) (sym queue_is) (inr (subst (IsAmong other) on.queue_is is))))))

        by_stage : (round : Round) → st.participation.round ≡ Some round → (stage : Stage) (running : Option Job) (queue : List (Request Dir)) → st.participation.stage ≡ stage → its.running ≡ running → its.queue ≡ queue
            → SaysSo P (i.reads_first_in c round next (with its) stage running queue)
        by_stage round records_of_epoch Deals running queue is at queue_is = tt
        by_stage round records_of_epoch Includes None [] is at queue_is = tt
        by_stage round records_of_epoch Includes None (r ∷ rs) is at queue_is =
            so_if P (i.is_need (read_of c round (with its) r)) (Goes (with its)) (bind (i.fed c round r.number (with_queue rs (with its)) (read_of c round (with its) r)) next)
            (λ e. tt) (λ e. reads_one round records_of_epoch is at r rs queue_is)
        by_stage round records_of_epoch Includes (Some job) queue is at queue_is = tt
        by_stage round records_of_epoch Follows running queue is at queue_is = tt
        by_stage round records_of_epoch Ends running queue is at queue_is = tt

    advances : (most : ℕ) → SaysMost most
    advances zero its has still within = tt
    advances (suc most) its has still within = one_more most (advances most) its has still within

    pub advanced_so : HasAsked c stored (with base) → SaysSo P (i.advanced c (with base))
    advanced_so has = advances (length base.queue) base has refl (λ r among. among)

-- LINES THAT ANSWER AND COMMIT NOTHING

module _ {Dir : Type 0} (c : Fixed Dir) (P : Entry → Type 0) (plain : (line : Entry) → IsUnasked line → P line) where
  -- A setup by the committed info

  takes_part : (round : Round) (phase : Phase) (dealer : Option Dealer) (seat : Seat) (now : Live Dir) → SaysSo P (s.takes_part c round phase dealer seat now)
  takes_part round phase dealer seat now = (plain (Setup now.participation.epoch phase (s.part_of dealer seat)) tt, tt)

  sits_down : (round : Round) (phase : Phase) (dealer : Option Dealer) (refused : Option ℕ) (now : Live Dir) → SaysSo P (s.sits_down c round phase dealer refused now)
  sits_down round phase dealer (Some who) now = tt
  sits_down round phase dealer None now = takes_part round phase dealer Plays now

  makes_player : (round : Round) (phase : Phase) (dealer : Option Dealer) (now : Live Dir) → SaysSo P (s.makes_player c round phase dealer now)
  makes_player round phase dealer now =
      so_if P (not (has round.players c.me) || s.is_lost c round (records_of_epoch round.number now.records.dealings) (logs_of now round.number)) (s.takes_part c round phase dealer Watches now)
      (s.sits_down c round phase dealer (s.refused_in c round now) now) (λ e. takes_part round phase dealer Watches now) (λ e. sits_down round phase dealer (s.refused_in c round now) now)

  dealt_by : (round : Round) (phase : Phase) (now : Live Dir) (dealt : Result (List ℕ × List (ℕ × ℕ)) DealError) → SaysSo P (s.dealt_by c round phase now dealt)
  dealt_by round phase now (Ok dealt) = makes_player round phase (s.dealer_for phase round (s.dealer_from c round now dealt)) now
  dealt_by round phase now (Err e) = tt

  in_round : (phase : Phase) (share : Option ℕ) (seed : List ℕ) (now : Live Dir) (drawn : Result Round RoundError) → SaysSo P (s.in_round c phase share seed now drawn)
  in_round phase share seed now (Err e) = tt
  in_round phase share seed now (Ok round) =
      so_if P (s.may_deal c round share now) (s.dealt_by c round phase now (c.rules.deal_of round c.me share seed)) (s.makes_player c round phase None now)
      (λ e. dealt_by round phase now (c.rules.deal_of round c.me share seed)) (λ e. makes_player round phase None now)

  judged : (info : EpochInfo Dir) (now : Live Dir) (valid : Result (Unit {0}) ParticipantsError) → SaysSo P (s.info_judged c None s.WasCommitted info now valid)
  judged info now (Err e) = tt
  judged info now (Ok passed) = λ h. in_round (phase_of c (awaited_height now)) (share_read c info h) (seed_read c info h) (record now { records = s.records_from (now.participation.epoch - 1) now.records })
      (round_for c now.participation.epoch info)

  sets_up : (info : EpochInfo Dir) (now : Live Dir) → SaysSo P (s.with_info c None s.WasCommitted info now)
  sets_up info now =
      so_if P (info.epoch == now.participation.epoch) (s.info_judged c None s.WasCommitted info now (validity c info)) (Stops (WrongEpoch now.participation.epoch info.epoch)) (λ e. judged info now (validity c info)) (λ e. tt)

  -- Its own dealing

  takes_ack : (epoch : ℕ) (dealer : Dealer) (player : ℕ) (ack : List ℕ) (now : Live Dir) → SaysSo P (d.takes_ack epoch dealer player ack now)
  takes_ack epoch dealer player ack now =
      let recorded : Course Dir Fault (Live Dir) = d.appends epoch (events.Ack player ack) (Goes (d.counts dealer player ack (d.with_ack epoch player ack now))) in
      so_if P (is_some (lookup player dealer.acks)) (Goes now) (if is_some (recorded_at now.records.acks epoch player) then Goes (d.counts dealer player ack now) else recorded) (λ e. tt)
      (λ e. so_if P (is_some (recorded_at now.records.acks epoch player)) (Goes (d.counts dealer player ack now)) recorded (λ e. tt) (λ e. tt))

  checked_ack : (round : Round) (dealer : Dealer) (from : ℕ) (ack : List ℕ) (now : Live Dir) (check : Result (Unit {0}) AckError) → SaysSo P (d.checked_ack round dealer from ack now check)
  checked_ack round dealer from ack now (Err e) = (plain _ tt, tt)
  checked_ack round dealer from ack now (Ok passed) = takes_ack round.number dealer from ack now

  own_ack : (round : Round) (public : List ℕ) (now : Live Dir) → SaysSo P (d.own_ack c round public now)
  own_ack round public now =
      let ack = c.rules.ack_of c.me round c.me public in
      so_option P (λ (dealer : Dealer). d.checked_ack round dealer c.me ack now (c.rules.check_ack_of round c.me dealer.public c.me ack)) now.participation.dealer (Goes now)
      (λ dealer e. checked_ack round dealer c.me ack now (c.rules.check_ack_of round c.me dealer.public c.me ack)) tt

  to_itself : (round : Round) (public : List ℕ) (private : ℕ) (now : Live Dir) (found : Option (List ℕ × ℕ)) → SaysSo P (d.deals_to_itself_in c round public private now found)
  to_itself round public private now (Some kept) =
      so_if P (bytes_eq kept.0 public) (d.own_ack c round public now) (Stops (LocalState (OwnDealing round.number kept.0 public))) (λ e. own_ack round public now) (λ e. tt)
  to_itself round public private now None = (plain _ tt, own_ack round public (d.with_dealing_of round.number c.me public private now))

  in_seat : (round : Round) (public : List ℕ) (private : ℕ) (now : Live Dir) (seat : Seat) → SaysSo P (d.offers_to_itself_in c round public private now seat)
  in_seat round public private now Plays = to_itself round public private now (recorded_at now.records.dealings round.number c.me)
  in_seat round public private now Watches = tt

  offers : (round : Round) (public : List ℕ) (ps : List (ℕ × ℕ)) (now : Live Dir) → SaysSo P (d.offers c round public ps now)
  offers round public [] now = tt
  offers round public (p ∷ ps) now =
      so_if P (p.0 == c.me) (bind (d.offers_to_itself c round public p.1 now) (λ now. d.offers c round public ps now)) (Say (Offer round.number p.0 public p.1) (d.offers c round public ps now))
      (λ e. so_behind P (d.offers_to_itself c round public p.1 now) (λ now. d.offers c round public ps now) (in_seat round public p.1 now now.participation.seat) (λ end. offers round public ps end))
      (λ e. (plain (Offer round.number p.0 public p.1) tt, offers round public ps now))

  pub deals_so : (now : Live Dir) → SaysSo P (d.deals c now)
  deals_so now =
      so_option P (λ (round : Round). option_map_or (λ its. d.offers c round its.public (s.unsent_of_round round its) now) now.participation.dealer (Goes now)) now.participation.round (Goes now)
      (λ round e. so_option P (λ (its : Dealer). d.offers c round its.public (s.unsent_of_round round its) now) now.participation.dealer (Goes now) (λ its e. offers round its.public (s.unsent_of_round round its) now) tt) tt

  -- A peer's message

  checked_dealing : (round : Round) (from : ℕ) (public : List ℕ) (private : ℕ) (now : Live Dir) (check : Result (Unit {0}) DealingError) → SaysSo P (d.checked_dealing c round from public private now check)
  checked_dealing round from public private now (Err e) = (plain _ tt, tt)
  checked_dealing round from public private now (Ok passed) = (plain _ tt, (plain _ tt, tt))

  of_recorded : (round : Round) (from : ℕ) (public : List ℕ) (private : ℕ) (now : Live Dir) (found : Option (List ℕ × ℕ)) → SaysSo P (d.hears_dealing_in c round from public private now found)
  of_recorded round from public private now (Some kept) = (plain _ tt, tt)
  of_recorded round from public private now None = checked_dealing round from public private now (c.rules.dealing_of round c.me from public private)

  a_dealing : (round : Round) (from : ℕ) (public : List ℕ) (private : ℕ) (now : Live Dir) (seat : Seat) → SaysSo P (d.seats_dealing_in c round from public private now seat)
  a_dealing round from public private now Plays = of_recorded round from public private now (recorded_at now.records.dealings round.number from)
  a_dealing round from public private now Watches = (plain _ tt, tt)

  an_ack : (round : Round) (found : Option Dealer) (from : ℕ) (ack : List ℕ) (now : Live Dir) → SaysSo P (d.hears_ack c round found from ack now)
  an_ack round None from ack now = (plain _ tt, tt)
  an_ack round (Some dealer) from ack now = checked_ack round dealer from ack now (c.rules.check_ack_of round c.me dealer.public from ack)

  message : (round : Round) (from : ℕ) (now : Live Dir) (read : Result Channel CodecError) → SaysSo P (d.reads c round from now read)
  message round from now (Err e) = (plain _ tt, tt)
  message round from now (Ok (ADealing public private)) = a_dealing round from public private now now.participation.seat
  message round from now (Ok (AnAck ack)) = an_ack round now.participation.dealer from ack now

  pub hears_so : (from : ℕ) (bytes : List ℕ) (now : Live Dir) (stage : Stage) → SaysSo P (d.hears_peer_in c from bytes now stage)
  hears_so from bytes now Deals =
      so_option P (λ (round : Round). d.reads c round from now (all_of (message_at c.limit bytes))) now.participation.round (Goes now) (λ round e. message round from now (all_of (message_at c.limit bytes))) tt
  hears_so from bytes now Includes = tt
  hears_so from bytes now Follows = tt
  hears_so from bytes now Ends = tt

-- WHERE A VERIFICATION ENDS

last_of : (a t u : Bool) → (a && t && u) ≡ true → u ≡ true
last_of true true u e = e
last_of true false u e = absurd (let no : ◌≡◌ {A = Bool} false true = e in cc)
last_of false t u e = absurd (let no : ◌≡◌ {A = Bool} false true = e in cc)

logs_of_result : {Dir : Type 0} (c : Fixed Dir) (handed : Option VerifiedLogs) (job : Job) → (job_result_of c handed job).logs ≡ job.logs
logs_of_result c None job = refl
logs_of_result c (Some r) job = either (is_of_job r job) refl
  where
    either : (t : Bool) → is_of_job r job ≡ t → (if t then r else verified c job).logs ≡ job.logs
    either true is = one_logs r.logs job.logs (last_of (same_round r.round job.round) (i.same_key r.me (i.its_key job)) (same_logs r.logs job.logs) is)
    either false is = refl

module _ {Dir : Type 0} (c : Fixed Dir) (form : IsFormThrough c) (stored : OfShares) (reads : ReadsShare c stored None) (st : Live Dir) (live : IsLiveThrough c stored st) (P : Entry → Type 0) where
  abbrev its_life : Inclusion Dir → Live Dir
  its_life its = with_inclusion its st

  epoch_info : (round : Round) → st.participation.round ≡ Some round → (info : EpochInfo Dir) × (st.participation.current ≡ Some info)
  epoch_info round is =
      let found = some_of (λ (info : EpochInfo Dir). (info.epoch ≡ st.participation.epoch) × (validity c info ≡ Ok tt) × (round_for c st.participation.epoch info ≡ Ok round))
      st.participation.current (live.informed round is) in
      (found.0, found.1)

  module _ (waited_so : (round : Round) (info : EpochInfo Dir) (job : Job) (number : ℕ) → st.participation.round ≡ Some round → st.participation.current ≡ Some info → st.inclusion.running ≡ Some job
      → st.inclusion.waiter ≡ Some number → P (Answer number (Available (payload_by c round info job.logs)))) where
    completes : (round : Round) → st.participation.round ≡ Some round → (job : Job) → st.inclusion.running ≡ Some job → (r : VerifiedLogs) → r.logs ≡ job.logs → IsResultIn c round st r → (waiter : Option ℕ) → st.inclusion.waiter ≡ waiter
        → SaysSo P (i.completes_in c r st waiter)
    completes round is job runs r are result None waits = tt
    completes round is job runs r are result (Some number) waits =
        let info = epoch_info round is in
        artifact_so c form.form stored reads st live.informed P round info.0 r st.inclusion (λ made now. bind (i.answers_request c number made now) (λ now. Goes (retains c r now))) live.asked.has is info.1 result
        (λ made at m. (
          subst (λ (payload : Option (List ℕ)). P (Answer number (Available payload)))
              (sym (payload_is c form.form stored reads st live.informed P round info.0 st r.logs made m.artifact ∙ ap (payload_by c round info.0) are)) (waited_so round info.0 job number is info.1 runs waits),
          tt,
        ))

    ends_in : (handed : Option VerifiedLogs) → IsHanded c handed st → (running : Option Job) → st.inclusion.running ≡ running → SaysSo P (i.ends_verifying_in c handed st running)
    ends_in handed taken None runs = tt
    ends_in handed taken (Some job) runs =
        let its = live.asked.has.runs job runs in
        completes its.0 its.1 job runs (job_result_of c handed job) (logs_of_result c handed job) (verifying.result_is c form.finishing its.0 st its.1 job handed its.2 runs taken) st.inclusion.waiter refl

    pub ends_so : (handed : Option VerifiedLogs) → IsHanded c handed st → SaysSo P (i.ends_verifying c handed st)
    ends_so handed taken = ends_in handed taken st.inclusion.running refl

  -- A LAST BLOCK

  module _ (block : Block Dir) (last : is_last_height c block.height ≡ true) (plain : (line : Entry) → IsUnasked line → P line) where
    -- by the carried info, which is committed
    module _ (info : EpochInfo Dir) (of_next : info.epoch ≡ next_epoch c block) where
      setup_so : (now : Live Dir) → now.tip ≡ (with_tip block now).tip → now.participation.current ≡ Some info → SaysSo P (s.setup c None now)
      setup_so now tip current =
          let before : Live Dir = s.anew c now in
          so_if P (s.is_past_range c (awaited_height now)) (Stops HeightRange) (s.sets_up c None now) (λ e. tt)
          (λ e. subst (λ (o : Option (EpochInfo Dir)). SaysSo P (s.sets_up_by c None o before)) (sym committed) (sets_up c P plain info before))
        where
          awaited : epoch_of c.blocks_per_epoch (awaited_height now) ≡ epoch_of c.blocks_per_epoch (block.height + 1)
          awaited = ap (λ (o : Option Tip). epoch_of c.blocks_per_epoch (option_map_or (λ t. t.height + 1) o 0)) tip

          committed : s.committed_info (s.anew c now) ≡ Some info
          committed =
              ap (λ (o : Option (EpochInfo Dir)). option_and_then (λ its. if its.epoch == epoch_of c.blocks_per_epoch (awaited_height now) then Some its else None) o) current
              ∙ ap (λ (t : Bool). if t then Some info else None)
              (equal_number info.epoch (epoch_of c.blocks_per_epoch (awaited_height now)) (of_next ∙ sym (next_last c.blocks_per_epoch block.height form.form.counted last) ∙ sym awaited))

      -- what is committed is told, registered, and then comes what comes behind
      commits_so : (put : Option ℕ) (seed : List ℕ) (now : Live Dir) (next : Live Dir → Course Dir Fault (Live Dir)) → P (Committed info.epoch put)
          → SaysSo P (next (s.with_registered info.epoch (s.scheme_for c info put) (with_participation (record now.participation { current = Some info }) now)))
          → SaysSo P (bind (s.commits info seed put now) (λ its. bind (s.registers c info put its) next))
      commits_so None seed now next told so = (told, (plain _ tt, so))
      commits_so (Some value) seed now next told so = (told, (plain _ tt, so))

    -- WHILE FOLLOWING
    pub follows_so : ((info : EpochInfo Dir) (h : Held) → info_of block.payload ≡ Some info → P (Committed info.epoch (share_read c info h))) → SaysSo P (b.carried c block (λ info. b.follows_into c block info st))
    follows_so commit_so =
        so_option P (λ (info : EpochInfo Dir). if info.epoch == b.expected_epoch c block.height then b.follows_into c block info st else Stops (WrongEpoch (b.expected_epoch c block.height) info.epoch)) (info_of block.payload)
        (Stops (MissingEpochInfo block.height))
        (λ info carries. so_if P (info.epoch == b.expected_epoch c block.height) (b.follows_into c block info st) (Stops (WrongEpoch (b.expected_epoch c block.height) info.epoch))
        (λ e. let of_next = same_number info.epoch (b.expected_epoch c block.height) e ∙ ap (λ (o : Option (OneShot Dir)). if is_some o then 0 else next_epoch c block) form.form.reshare in
        λ h. commits_so info of_next (share_read c info h) (seed_read c info h) st (λ its. s.setup c None (with_tip block its)) (commit_so info h carries)
        (setup_so info of_next (with_tip block (s.with_registered info.epoch (s.scheme_for c info (share_read c info h)) (with_participation (record st.participation { current = Some info }) st))) refl refl))
        (λ e. tt)) tt

    -- WHILE INCLUDING
    module _ (includes : st.participation.stage ≡ Includes) (round : Round) (is : st.participation.round ≡ Some round)
        (finished_so : (r : Request Dir) → IsAmong r st.inclusion.queue → P (Answer r.number (Unavailable Finished)))
        (commit_so : (info current : EpochInfo Dir) (made : Artifact Dir) → info_of block.payload ≡ Some info → st.participation.current ≡ Some current → IsArtifactIn c stored round current st (canonical c st) made
        → P (Committed info.epoch (b.share_for c info made))) where
      abbrev all_logs : LogMap
      all_logs = canonical c st

      answers_all : (info : EpochInfo Dir) → info.epoch ≡ next_epoch c block → (queue : List (Request Dir)) → ((r : Request Dir) → IsAmong r queue → IsAmong r st.inclusion.queue) → (now : Live Dir)
          → now.tip ≡ (with_tip block now).tip → now.participation.current ≡ Some info → SaysSo P (bind (b.answers_all queue now) (λ its. s.setup c None its))
      answers_all info of_next [] within now tip current = setup_so info of_next (with_inclusion (record now.inclusion { queue = [] }) now) tip current
      answers_all info of_next (r ∷ rs) within now tip current =
          (finished_so r (within r (inl refl)), answers_all info of_next rs (λ other among. within other (inr among)) (with_told r.number (GaveNone Finished) now) tip current)

      concludes : (made : Artifact Dir) (its : Inclusion Dir) → its.queue ≡ st.inclusion.queue → IsArtifactIn c stored round (epoch_info round is).0 st all_logs made → SaysSo P (b.concludes c block made (its_life its))
      concludes made its queue_is of_logs =
          subst (λ (o : Option (OneShot Dir)). SaysSo P
          (if is_some o && is_none block.payload then (if is_some made.info then Stops (LocalState OutcomeOmitted) else b.passes_on c block None (its_life its))
          else b.carried c block (λ info. b.takes_over c block info (b.share_for c info made) (its_life its)))) (sym form.form.reshare)
          (so_option P (λ (info : EpochInfo Dir). if info.epoch == b.expected_epoch c block.height then b.takes_over c block info (b.share_for c info made) (its_life its) else Stops (WrongEpoch (b.expected_epoch c block.height) info.epoch))
          (info_of block.payload) (Stops (MissingEpochInfo block.height))
          (λ info carries. so_if P (info.epoch == b.expected_epoch c block.height) (b.takes_over c block info (b.share_for c info made) (its_life its)) (Stops (WrongEpoch (b.expected_epoch c block.height) info.epoch))
          (λ e. over info carries (same_number info.epoch (b.expected_epoch c block.height) e ∙ ap (λ (o : Option (OneShot Dir)). if is_some o then 0 else next_epoch c block) form.form.reshare)) (λ e. tt)) tt)
        where
          over : (info : EpochInfo Dir) → info_of block.payload ≡ Some info → info.epoch ≡ next_epoch c block → SaysSo P (b.takes_over c block info (b.share_for c info made) (its_life its))
          over info carries of_next = λ h.
              let share = b.share_for c info made in
              let life : Live Dir = s.with_registered info.epoch (s.scheme_for c info share) (with_participation (record st.participation { current = Some info }) (its_life its)) in
              subst (λ (o : Option (OneShot Dir)). SaysSo P (bind (s.commits info (seed_read c info h) share (its_life its))
              (λ now. bind (if is_some o then Goes now else s.registers c info share now)
              (λ now. bind (b.answers_all now.inclusion.queue (with_tip block now)) (λ now. if is_some o then b.ends_once c (Some info) now else s.setup c None now))))) (sym form.form.reshare)
              (commits_so info of_next share (seed_read c info h) (its_life its) (λ now. bind (b.answers_all now.inclusion.queue (with_tip block now)) (λ now. s.setup c None now))
              (commit_so info (epoch_info round is).0 made carries (epoch_info round is).1 of_logs)
              (answers_all info of_next its.queue (λ r among. subst (IsAmong r) queue_is among) (with_tip block life) refl refl))

      by_result : (r : VerifiedLogs) (its : Inclusion Dir) → its.queue ≡ st.inclusion.queue → HasAsked c stored (its_life its) → r.logs ≡ all_logs → IsResultIn c round st r
          → SaysSo P (i.artifact c r (its_life its) (b.concludes c block))
      by_result r its queue_is has are result =
          artifact_so c form.form stored reads st live.informed P round (epoch_info round is).0 r its (b.concludes c block) has is (epoch_info round is).1 result
          (λ made at m. subst (λ (x : Live Dir). SaysSo P (b.concludes c block made x)) (sym m.same)
          (concludes made (record its { cached = at.inclusion.cached }) queue_is (subst (λ (l : LogMap). IsArtifactIn c stored round (epoch_info round is).0 st l made) are m.artifact)))

      verifies : (its : Inclusion Dir) → its.queue ≡ st.inclusion.queue → HasAsked c stored (its_life its) → (refused : Option ℕ)
          → (if can_finish c round all_logs (its_life its) then s.refused_in c round (its_life its) else None) ≡ refused
          → SaysSo P (bind (i.starts_unless (job_for c round all_logs (its_life its)) None refused (its_life its))
          (λ now. i.artifact c (verified c (job_for c round all_logs (its_life its))) (retains c (verified c (job_for c round all_logs (its_life its))) now) (b.concludes c block)))
      verifies its queue_is has (Some who) none = tt
      verifies its queue_is has None none =
          let job : Job = job_for c round all_logs (its_life its) in
          let of_job : IsJobIn c round st job = (refl, none_found (can_finish c round all_logs (its_life its)) (s.refused_in c round (its_life its)) none) in
          let found = verified c job in
          let result = verified_is c form.finishing round st job of_job in
          let starts : Inclusion Dir = record its { running = Some job; waiter = None } in
          let started = included c stored st starts includes (λ none. refl) (λ other e. (round, is, subst (λ (x : Job). IsJobIn c round st x) (some_is job other e) of_job)) has.kept has.made in
          let ended = verifying.retained c stored (its_life starts) None form.form form.finishing reads live.informed started round is includes found result starts started refl refl refl in
          by_result found (retains c found (its_life starts)).inclusion (ended.queue ∙ queue_is) ended.has refl result

      derived : (its : Inclusion Dir) → its.queue ≡ st.inclusion.queue → HasAsked c stored (its_life its) → (retained : Option VerifiedLogs) → retained_for its.retained all_logs ≡ retained
          → SaysSo P (b.derives_at_block c round block all_logs retained (its_life its))
      derived its queue_is has (Some r) found =
          by_result r its queue_is has (retained_logs its.retained all_logs r found) (of_round st (λ x. IsResultIn c x st r) round is (has.kept r (retained_is its.retained all_logs r found)))
      derived its queue_is has None found = verifies its queue_is has (if can_finish c round all_logs (its_life its) then s.refused_in c round (its_life its) else None) refl

      concludes_by : (its : Inclusion Dir) → its.queue ≡ st.inclusion.queue → HasAsked c stored (its_life its) → (before now : Option (Artifact Dir)) → cached_for st.inclusion.cached all_logs ≡ before
          → cached_for its.cached all_logs ≡ now → SaysSo P (b.concludes_by c round block all_logs before now (its_life its))
      concludes_by its queue_is has (Some made) now found at = concludes made its queue_is (cached_is c stored round (epoch_info round is).0 st live.asked.has is (epoch_info round is).1 all_logs made found)
      concludes_by its queue_is has None (Some made) found at = concludes made its queue_is (cached_is c stored round (epoch_info round is).0 (its_life its) has is (epoch_info round is).1 all_logs made at)
      concludes_by its queue_is has None None found at = derived its queue_is has (retained_for its.retained all_logs) refl

      pub final_so : SaysSo P (i.ends_verifying c None st) → SaysSo P (b.final_block c round block st)
      final_so ends =
          so_known P (IsAskStop c st) (λ end left. (left ≡ None) × IsEndedIn c stored st end) (i.ends_verifying c None st)
          (λ now. b.concludes_by c round block all_logs (cached_for st.inclusion.cached all_logs) (cached_for now.inclusion.cached all_logs) now) ends
          (verifying_ends c stored st None form.form form.finishing reads live.informed live.asked.has None (λ r e. absurd (none_apart r e)))
          (λ end its. behind end its.1)
        where
          behind : (end : Live Dir) → IsEndedIn c stored st end → SaysSo P (b.concludes_by c round block all_logs (cached_for st.inclusion.cached all_logs) (cached_for end.inclusion.cached all_logs) end)
          behind end its =
              subst (λ (x : Live Dir). SaysSo P (b.concludes_by c round block all_logs (cached_for st.inclusion.cached all_logs) (cached_for x.inclusion.cached all_logs) x)) (sym its.same)
              (concludes_by end.inclusion its.queue (subst (HasAsked c stored) its.same its.has) (cached_for st.inclusion.cached all_logs) (cached_for end.inclusion.cached all_logs) refl refl)

-- A LIFE READS ITS REQUESTS

module _ {Dir : Type 0} (c : Fixed Dir) (form : IsForm c) (stored : OfShares) (reads : ReadsShare c stored None) (at : Live Dir) (informed : IsInformed c at) (has : HasAsked c stored at) (P : Entry → Type 0)
    (so : (line : Entry) → IsReadAnswer c at line → P line) where
  -- each answer is one of those
  pub reads_so : SaysSo P (i.advanced c at)
  reads_so =
      advanced_so c form stored reads at informed P at.inclusion
      (λ round info r found records_of_epoch of_info among read.
      so (Answer r.number (Available (payload_by c round info (filled_by (canonical c at) found)))) (round, info, records_of_epoch, of_info, (r, among, refl, (found, read, refl))))
      (λ round r reason records_of_epoch among lacks. so (Answer r.number (Unavailable reason)) (round, records_of_epoch, (r, among, refl, lacks))) has

-- MAIL

module _ {Dir : Type 0} (c : Fixed Dir) (form : IsFormThrough c) (stored : OfShares) (reads : ReadsShare c stored None) (st : Live Dir) (live : IsLiveThrough c stored st) where
  has_now : HasAsked c stored st
  has_now = live.asked.has

  gives : (number height : ℕ) (found : Option SignedDealerLog) → SaysSo (IsMailEntry c st (NextLog number height)) (i.gives_log c number height found (with_used number st))
  gives number height None = ((None, refl), tt)
  gives number height (Some log) = ((Some (payload_bytes c (log_payload log)), refl), tt)

  asks_so : (number : ℕ) (stage : Stage) → st.participation.stage ≡ stage → SaysSo (IsMailEntry c st (EpochInfoOf number)) (i.asks_in c number (with_used number st) stage)
  asks_so number Deals is = tt
  asks_so number Includes is =
      let now : Live Dir = i.queued number (with_used number st) in
      reads_so c form.form stored reads now live.informed
      (requeued c stored st st.inclusion now.inclusion.queue now.inclusion.used now.inclusion.told has_now (λ follows. absurd (let no : ◌≡◌ {A = Stage} Follows Includes = sym follows ∙ is in cc)))
      (IsMailEntry c st (EpochInfoOf number)) (λ line its. inl its)
  asks_so number Follows is = (inr (is, refl), tt)
  asks_so number Ends is = absurd (not_ended c st live.stands is)

  changes : (its : Mail Dir) (number : ℕ) (f : Request Dir → Request Dir) → ((line : Entry) → IsReadAnswer c (i.changed number f st) line → IsMailEntry c st its line)
      → SaysSo (IsMailEntry c st its) (i.advanced c (i.changed number f st))
  changes its number f so =
      let g : Request Dir → Request Dir = λ r. if r.number == number then f r else r in
      reads_so c form.form stored reads (i.changed number f st) live.informed
      (requeued c stored st st.inclusion (map g st.inclusion.queue) st.inclusion.used st.inclusion.told has_now (λ follows. ap (λ (q : List (Request Dir)). map g q) (has_now.none follows))) (IsMailEntry c st its) so

  cancels : (number : ℕ) → SaysSo (λ line. IsReadAnswer c (cancelled number st) line) (i.cancels c number st)
  cancels number = either (waits_for number st)
    where
      either : (t : Bool) → SaysSo (λ line. IsReadAnswer c (if t then with_inclusion (record st.inclusion { waiter = None }) st else with_queue (filter (λ r. not (r.number == number)) st.inclusion.queue) st) line)
          (if t then Goes (with_inclusion (record st.inclusion { waiter = None }) st) else i.advanced c (with_queue (filter (λ r. not (r.number == number)) st.inclusion.queue) st))
      either true = tt
      either false =
          let now : Live Dir = with_queue (filter (λ r. not (r.number == number)) st.inclusion.queue) st in
          reads_so c form.form stored reads now live.informed
          (requeued c stored st st.inclusion (filter (λ r. not (r.number == number)) st.inclusion.queue) st.inclusion.used st.inclusion.told has_now
          (λ follows. ap (λ (q : List (Request Dir)). filter (λ r. not (r.number == number)) q) (has_now.none follows))) (λ line. IsReadAnswer c now line) (λ line its. its)

  -- what is read behind a verification that ended is read in the life without it
  as_finished : (its : Inclusion Dir) → its.queue ≡ st.inclusion.queue → (line : Entry) → IsReadAnswer c (with_inclusion its st) line → IsReadAnswer c (verification_ended st) line
  as_finished its queue_is (Answer number (Available payload)) read =
      let r = read.4.0 in (
        read.0,
        read.1,
        read.2,
        read.3,
        (
          r,
          subst (IsAmong r) queue_is read.4.1,
          read.4.2,
          (read.4.3.0, read_again c read.0 st (verification_ended st).inclusion r ∙ sym (read_again c read.0 st its r) ∙ read.4.3.1, read.4.3.2),
        ),
      )
  as_finished its queue_is (Answer number (Unavailable reason)) read =
      let r = read.2.0 in
      (read.0, read.1, (r, subst (IsAmong r) queue_is read.2.1, read.2.2, read_again c read.0 st (verification_ended st).inclusion r ∙ sym (read_again c read.0 st its r) ∙ read.2.3))
  as_finished its queue_is line read = absurd read

  works : (handed : Option VerifiedLogs) → IsHanded c handed st → SaysSo (IsMailEntry c st (Work handed)) (i.works c handed st)
  works handed taken =
      so_if (IsMailEntry c st (Work handed)) (is_some st.inclusion.running) (bind (i.ends_verifying c handed st) (λ now. i.advanced c now)) (Goes st)
      (λ e. so_known (IsMailEntry c st (Work handed)) (IsAskStop c st) (λ end left. (left ≡ None) × IsEndedIn c stored st end) (i.ends_verifying c handed st) (λ now. i.advanced c now)
      (ends_so c form stored reads st live (IsMailEntry c st (Work handed)) (λ round info job number records_of_epoch of_info runs waits. inl (round, info, records_of_epoch, of_info, (job, runs, waits, refl))) handed taken)
      (verifying_ends c stored st None form.form form.finishing reads live.informed has_now handed taken)
      (λ end its. subst (λ (x : Live Dir). SaysSo (IsMailEntry c st (Work handed)) (i.advanced c x)) (sym its.1.same)
      (reads_so c form.form stored reads (with_inclusion end.inclusion st) live.informed (subst (HasAsked c stored) its.1.same its.1.has) (IsMailEntry c st (Work handed))
      (λ line read. inr (as_finished end.inclusion its.1.queue line read))))) (λ e. tt)

  pub mail_so : (its : Mail Dir) → IsTakenThrough c (Mailed its) st → SaysSo (IsMailEntry c st its) (step c (Mailed its) st)
  mail_so (Peer from bytes) taken = hears_so c (IsMailEntry c st (Peer from bytes)) (λ line is. is) from bytes st st.participation.stage
  mail_so (NextLog number height) taken = gives number height (i.served_now (with_used number st))
  mail_so (ReleaseLog height) taken = tt
  mail_so (EpochInfoOf number) taken = asks_so number st.participation.stage refl
  mail_so (Feed number block) taken = changes (Feed number block) number (λ r. if r.ended then r else record r { blocks = r.blocks ++ block ∷ [] }) (λ line its. its)
  mail_so (Over number) taken = changes (Over number) number (λ r. record r { ended = true }) (λ line its. its)
  mail_so (Cancel number) taken = cancels number
  mail_so (Work handed) taken = works handed (handed_of c form stored st live None reads handed taken)

-- A BLOCK

module _ {Dir : Type 0} (c : Fixed Dir) (form : IsFormThrough c) (stored : OfShares) (reads : ReadsShare c stored None) (st : Live Dir) (live : IsLiveThrough c stored st) (block : Block Dir) where
  abbrev P : Entry → Type 0
  P = IsBlockLineThrough c stored st block

  plain : (line : Entry) → IsUnasked line → P line
  plain (Answer number answer) is = absurd is
  plain (Committed epoch share) is = absurd is
  plain line is = tt

  -- an answer at this stage
  at_stage : (stage : Stage) → st.participation.stage ≡ stage → (line : Entry) → IsAskedAnswer line → IsBlockAnswer c st block stage line → P line
  at_stage stage is (Answer number answer) asked its = subst (λ (x : Stage). IsBlockAnswer c st block x (Answer number answer)) (sym is) its
  at_stage stage is line asked its = absurd asked

  -- a commit of the carried info
  committed_so : (info : EpochInfo Dir) (h : Held) (share : Option ℕ) → info_of block.payload ≡ Some info → IsShareTaken c stored st h info share st.participation.stage → P (Committed info.epoch share)
  committed_so info h share carries taken =
      subst (λ (o : Option (EpochInfo Dir)). IsSomeAnd o (λ x. (x.epoch ≡ info.epoch) × ((k : Held) × IsShareTaken c stored st k x share st.participation.stage))) (sym carries) (refl, (h, taken))

  read_is_answer : (asked : Live Dir) (line : Entry) → IsReadAnswer c asked line → IsAskedAnswer line
  read_is_answer asked (Answer number answer) its = tt
  read_is_answer asked line its = absurd its

  module _ (accepted : judged_block c block st ≡ Applied) where
    deals_say : st.participation.stage ≡ Deals → SaysSo P (b.deals_at c block st)
    deals_say is =
        let mid : Live Dir = given_itself c st in
        let next : Live Dir → Course Dir Fault (Live Dir) =
        λ now. if block.height + 1 == midpoint c.blocks_per_epoch now.participation.epoch then i.advanced c (s.begins_inclusion c (with_tip block now)) else Goes (with_tip block now) in
        so_known P (IsDealingStop c st) (λ end left. end ≡ mid) (d.deals c st) next (deals_so c P plain st) (anywhere_over (IsDealingStop c st) (λ end. end ≡ mid) (d.deals c st) None (dealing.deals c st))
        (λ end its. subst (λ (x : Live Dir). SaysSo P (next x)) (sym its)
        (so_if P (block.height + 1 == midpoint c.blocks_per_epoch mid.participation.epoch) (i.advanced c (s.begins_inclusion c (with_tip block mid))) (Goes (with_tip block mid)) begins (λ e. tt)))
      where
        same : dealing.IsSameBut c st (given_itself c st)
        same = dealing.given_same c st

        apart : st.participation.stage ≡ Includes → ⊥
        apart includes = let no : ◌≡◌ {A = Stage} Deals Includes = sym is ∙ includes in cc

        has : HasAsked c stored (given_itself c st)
        has = still_has c stored st (given_itself c st) live.asked.has apart same.inclusion same.stage

        begins : (block.height + 1 == midpoint c.blocks_per_epoch (given_itself c st).participation.epoch) ≡ true → SaysSo P (i.advanced c (s.begins_inclusion c (with_tip block (given_itself c st))))
        begins e =
            let begun : Live Dir = s.begins_inclusion c (with_tip block (given_itself c st)) in
            let early = has.early (λ includes. apart (sym same.stage ∙ includes)) in
            reads_so c form.form stored reads begun (informed_as c st (given_itself c st) same.same.round same.same.current same.same.epoch live.informed)
            (early_has c stored begun early.0 early.1 early.2 (has.waits early.0) (λ other. refl) (λ follows. absurd (let no : ◌≡◌ {A = Stage} Includes Follows = follows in cc))) P
            (λ line its. at_stage Deals is line (read_is_answer begun line its)
            (subst (λ (t : Bool). IsReadAnswer c (if t then s.begins_inclusion c (with_tip block (given_itself c st)) else with_tip block (given_itself c st)) line) (sym e) its))

    module _ (is : st.participation.stage ≡ Includes) (round : Round) (of_round : st.participation.round ≡ Some round) where
      located : (st.participation.epoch ≡ epoch_of c.blocks_per_epoch block.height) × (midpoint c.blocks_per_epoch (epoch_of c.blocks_per_epoch block.height) ≤ block.height)
      located = includes_above c block st live.stands accepted is

      log_says : (log : SignedDealerLog) (accepted kept : Bool)
          → SaysSo {Dir = Dir} P (if accepted then bind (if kept then Goes st else d.appends round.number (carried_log_event log.dealer block.height log.log) (Goes (b.with_log_at round.number log.dealer block.height log.log st)))
          (λ now. Goes (b.without_own_log c log.dealer now)) else Goes st)
      log_says log true true = tt
      log_says log true false = tt
      log_says log false kept = tt

      observes_say : (log : Option SignedDealerLog) → SaysSo P (b.observes c round block st log)
      observes_say None = tt
      observes_say (Some log) = log_says log (is_accepted c round log) (is_some (recorded_at st.records.logs round.number log.dealer))

      below_says : is_last_height c block.height ≡ false → SaysSo P (b.includes c round block st)
      below_says below =
          let at : Live Dir = included_life c round block st in
          let next : Live Dir → Course Dir Fault (Live Dir) = λ now. i.advanced c (with_tip block (b.unserved block.height now)) in
          so_known P (including.Never c round block st) (λ end left. (end ≡ observed c round block st) × including.Few c round block st None left) (b.observes c round block st (option_and_then its_log block.payload)) next
          (observes_say (option_and_then its_log block.payload)) (including.observes_comes c round block st None (option_and_then its_log block.payload))
          (λ end its. subst (λ (x : Live Dir). SaysSo P (next x)) (sym its.0)
          (reads_so c form.form stored reads at (including.informed c form.form stored block st live is located.0 located.1 below round of_round)
          (including.asked c form.form stored block st live is located.0 located.1 below round of_round at.inclusion.served) P
          (λ line read. at_stage Includes is line (read_is_answer at line read) (subst (λ (t : Bool). IsFinalAnswer c st t block line) (sym below) (round, of_round, read)))))

      last_says : is_last_height c block.height ≡ true → SaysSo P (b.final_block c round block st)
      last_says last =
          final_so c form stored reads st live P block last plain is round of_round
          (λ r among. final_answer (Answer r.number (Unavailable Finished)) tt (inr (r.number, (r, among, refl, refl))))
          (λ info current made carries of_info of_logs. committed_so info no_held (b.share_for c info made) carries
          (subst (λ (stage : Stage). IsShareTaken c stored st no_held info (b.share_for c info made) stage) (sym is) (round, current, of_round, of_info, (made, of_logs, refl))))
          (ends_so c form stored reads st live P (λ its info job number records_of_epoch of_info runs waits. final_answer (Answer number (Available (payload_by c its info job.logs))) tt
          (inl (its, info, records_of_epoch, of_info, (job, runs, waits, refl)))) None (λ r e. absurd (none_apart r e)))
        where
          final_answer : (line : Entry) → IsAskedAnswer line → IsFinalAnswer c st true block line → P line
          final_answer line asked its = at_stage Includes is line asked (subst (λ (t : Bool). IsFinalAnswer c st t block line) (sym last) its)

      includes_say : SaysSo P (if is_last_height c block.height then b.final_block c round block st else b.includes c round block st)
      includes_say = so_if P (is_last_height c block.height) (b.final_block c round block st) (b.includes c round block st) last_says below_says

    follows_say : st.participation.stage ≡ Follows → SaysSo P (b.follows_at c block st)
    follows_say is =
        so_if P (is_last_height c block.height) (b.carried c block (λ info. b.follows_into c block info st)) (Goes (with_tip block st))
        (λ last. follows_so c form stored reads st live P block last plain
        (λ info h carries. committed_so info h (share_read c info h) carries (subst (λ (stage : Stage). IsShareTaken c stored st h info (share_read c info h) stage) (sym is) refl))) (λ e. tt)

    applies_say : (stage : Stage) → st.participation.stage ≡ stage → SaysSo P (b.applies_in c block st stage)
    applies_say Deals is = deals_say is
    applies_say Includes is =
        so_option P (λ (round : Round). if is_last_height c block.height then b.final_block c round block st else b.includes c round block st) st.participation.round (Goes st) (λ round at. includes_say is round at) tt
    applies_say Follows is = follows_say is
    applies_say Ends is = tt

  pub block_so : SaysSo P (step c (Finalized block) st)
  block_so =
      judged_is c block st (λ course. SaysSo P course) (λ t x y one other. so_if P t x y one other) (λ fault is. tt) (λ is. tt) (λ is. applies_say is st.participation.stage refl) (λ is. tt)

pub steps_say_through : {Dir : Type 0} → StepsSayThrough Dir
steps_say_through c stored st (Finalized block) ended old new form reads taken live said =
    said_so (IsBlockLineThrough c stored st block) (step c (Finalized block) st) ended old new (block_so c form stored reads st live block) said
steps_say_through c stored st (Mailed mail) ended old new form reads taken live said =
    said_so (IsMailEntry c st mail) (step c (Mailed mail) st) ended old new (mail_so c form stored reads st live mail taken) said
