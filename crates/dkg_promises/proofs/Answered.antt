-- What the answers of a step say, by the events of the script: of which request each is, and what it is made of or why there is none.
use Rattle.std.proofs.Common.{◌≡◌, ◌⊎◌, inl, inr, ℕ, suc, ◌-◌, ◌<◌, ◌≤◌, ◌++◌, List, [], ◌∷◌, Option, Some, None, Bool, true, false, Ok, arith, refl, sym, ◌∙◌, ap, subst}
use Rattle.std.specs.Prelude.{nat_le, slice_get, IfSome, IsSomeAnd, if◌then◌else◌}
use Rattle.std.specs.List.{AllByRecursion}
use Rattle.std.specs.Option.{option_map_or}
use Rattle.std.proofs.lemmas.List.{append_cancel_left}
use Rattle.dkg_ceremony.specs.Outcomes.{LogMap}
use Rattle.dkg_ceremony.specs.ValidLogs.{check_log_of}
use Rattle.dkg_ceremony.specs.declared.phase.Phase.{Phase}
use Rattle.dkg_ceremony.specs.declared.phase.Phase.TheVariants.{Early, Midpoint, Late}
use Rattle.dkg_ceremony.specs.declared.round.RoundParts.{RoundParts as Round}
use Rattle.dkg_types.specs.Blocks.{Block}
use Rattle.dkg_infos.specs.declared.directory.Unit as directory
use Rattle.dkg_infos.specs.declared.entry.AnswerLine.{AnswerLine}
use Rattle.dkg_infos.specs.declared.entry.AnswerLine.TheVariants.{Available, Unavailable}
use Rattle.dkg_infos.specs.declared.entry.Entry.{Entry}
use Rattle.dkg_infos.specs.declared.entry.Entry.TheVariants.{Answer}
use Rattle.dkg_infos.specs.declared.entry.Why.{Why}
use Rattle.dkg_infos.specs.declared.entry.Why.TheVariants.{Short, WrongHeight, Unlinked, Detached, Following, Terminal, Finished, Held}
use Rattle.dkg_infos.specs.declared.info.EpochInfo.{EpochInfo}
use Rattle.dkg_text.specs.declared.script.Event.{Event}
use Rattle.dkg_text.specs.declared.script.Event.TheVariants as event
use Rattle.dkg_text.specs.declared.script.Life.{Life}
use Rattle.dkg_text.specs.declared.script.Script.{Script}
use Rattle.dkg_store.specs.Acts.{Ended}
use Rattle.dkg_script.specs.Blocks.{round_by}
use Rattle.dkg_script.specs.Epochs.{alone}
use Rattle.dkg_script.specs.Position.{awaited_epoch, life_follows}
use Rattle.dkg_core.specs.Behind.{event_of}
use Rattle.dkg_core.specs.Courses.{on_devices}
use Rattle.dkg_core.specs.Endings.{stage_in, tip_behind, validity}
use Rattle.dkg_core.specs.Fixed.{Fixed}
use Rattle.dkg_core.specs.Forms.{Applied, judged_block, round_for}
use Rattle.dkg_core.specs.Including.{Lacks}
use Rattle.dkg_core.specs.Laws.{IsAmong}
use Rattle.dkg_core.specs.Live as core
use Rattle.dkg_core.specs.Live.{Cancel, Deals, Ends, EpochInfoOf, Feed, Finalized, Follows, Includes, Job, Live, Mail, Message, NextLog, NodeStop, Over, Peer, ReleaseLog, Request, Mailed, Stage, Work, is_last_height, phase_of}
use Rattle.dkg_core.specs.Logs.{canonical, filled_by}
use Rattle.dkg_core.specs.Node.{node_step}
use Rattle.dkg_laws.specs.NodeSaying.{IsHalfLine}
use Rattle.dkg_core.specs.Said.{Said}
use Rattle.dkg_core.specs.SayingThrough.{IsBlockAnswer, IsFinalAnswer, IsLineThrough, IsMailEntry, IsReadAnswer, IsUnasked, IsWaitedAnswer, OfRequest, payload_by}
use Rattle.dkg_core.specs.Sources.{Tip}
use Rattle.dkg_core.specs.Stepping.{dealt_behind, given_itself}
use Rattle.dkg_core.specs.Through.{IsLiveThrough, asked_by, included}
use Rattle.dkg_laws.proofs.NodeSaying.{node_steps_say_through}
use Rattle.dkg_promises.specs.Answers.{IsAnsweredSo, IsAskedFor, IsMadeOf, IsProvidedFor, IsUnavailable}
use Rattle.dkg_lives.specs.Asks.{IsRefusedAt, IsUncancelled, RequestStanding, WereAsked, bounds_in, fed_in, next_bytes, scan_tip, request_standing, turns}
use Rattle.dkg_lives.specs.Blamed.{IsInfoOf, IsTakenLast, tip_in}
use Rattle.dkg_lives.specs.Epochs.{IsLifeInForm, StandsInScript, any_shares, epoch_by}
use Rattle.dkg_lives.specs.Given.{Lived, at_step, blocks_in}
use Rattle.dkg_promises.proofs.Ancestry.{IsRead}
use Rattle.dkg_along.proofs.Asking.{IsCarried, info_later}
use Rattle.dkg_lives.proofs.Awaiting.{IsReached}
use Rattle.dkg_along.proofs.Causing.{above_by, taken}
use Rattle.dkg_along.proofs.FedRequests.{becomes_open, stands_more}
use Rattle.dkg_lives.proofs.Former.{Brings, BringsBlock, BringsMail, IsMessage, brings_so, life_in, step_taken, through_at}
use Rattle.dkg_promises.proofs.Providing.{IsInfoIf, IsProvidedIn, info_lines}
use Rattle.dkg_promises.proofs.Requested.{AreHeld, AreReady, IsAwaited, IsHeld, IsReadFor, IsSamePart, Knows, KnowsRead, asked_same, block_said, dealt_part, dealt_said, dealt_tip, included_said, keeps_final, keeps_work, less_one, mail_said, observed_part, read_here, sends_info, sends_work, stands_as, were_asked}
use Rattle.dkg_lives.proofs.Unanswered.{IsUnanswered, block_lines}

abbrev U : Type 0
U = directory.Unit

all_of : {A : Type 0} (P : A → Type 0) (xs : List A) (x : A) → IsAmong x xs → AllByRecursion P xs → P x
all_of P [] x among all = absurd among
all_of P (y ∷ xs) x (inl is) all = subst P is all.0
all_of P (y ∷ xs) x (inr among) all = all_of P xs x among all.1

-- what is said in a step of a life, where this is known of the recorded logs by which requests are read
module _ (Known : Knows) where
  abbrev pub IsSaidIn : Script → (l : ℕ) → Life → (epoch j : ℕ) → Entry → Type 0
  IsSaidIn script l life epoch j (Answer request (Available payload)) =
      IsAskedFor script l life epoch j request × ((made : IsMadeOf script l life epoch j request payload) × Known epoch made.at made.round made.recorded)
  IsSaidIn script l life epoch j (Answer request (Unavailable why)) = IsAskedFor script l life epoch j request × IsUnavailable script l life epoch j request why
  IsSaidIn script l life epoch j line = Unit {0}

  abbrev pub IsSaidAt : Script → (l : ℕ) → Life → (j : ℕ) → Entry → Type 0
  IsSaidAt script l life j line = IsSaidIn script l life (awaited_epoch (alone script) l life (j - 1)) j line

  pub unanswered_so : (g : Lived) (j : ℕ) (line : Entry) → IsUnanswered line → IsSaidAt g.script g.number g.life j line
  unanswered_so g j (Answer request answer) none = absurd none
  unanswered_so g j line none = tt

  -- each answer is of a request, by what it is made of or why there is none
  pub answered_so : (script : Script) (l : ℕ) (life : Life) (epoch j request : ℕ) (answer : AnswerLine) → IsSaidIn script l life epoch j (Answer request answer) → IsAnsweredSo script l life epoch j request answer
  answered_so script l life epoch j request (Available payload) said = (said.0, said.1.0)
  answered_so script l life epoch j request (Unavailable why) said = said

module _ {Known : Knows} (g : Lived) (here : IsLifeInForm g) (i : ℕ) (its : Event) (is : slice_get g.life.events i ≡ Some its) (reached : IsReached g.life.cut (suc i)) (m : IsMessage g its) (st : Live U)
    (live : IsLiveThrough (at_step g (suc i)) any_shares st) (stands : StandsInScript g i st) (tip : st.tip ≡ tip_in g.script g.life i) (carried : IsCarried g i st) (held : AreHeld g Known i st)
    (tip_next : tip_behind m.message st.tip ≡ tip_in g.script g.life (suc i)) (known : KnowsRead g Known i st m.message) where
  abbrev c : Fixed U
  c = at_step g (suc i)

  abbrev e : ℕ
  e = epoch_by g i

  -- what the provider names serves
  abbrev IsProvidedNow : Type 0
  IsProvidedNow = IsProvidedIn c st.participation.epoch

  -- what is said here; an info where that holds
  abbrev IsSaidHere : Entry → Type 0
  IsSaidHere (Answer request (Available payload)) = IsProvidedNow → IsSaidIn Known g.script g.number g.life e (suc i) (Answer request (Available payload))
  IsSaidHere line = IsSaidIn Known g.script g.number g.life e (suc i) line

  itself : (a : ℕ) → a ≤ a
  itself a = omega arith

  -- OF WHICH REQUEST
  of_held : (r : Request U) → IsHeld g e (suc i) r → IsAskedFor g.script g.number g.life e (suc i) r.number
  of_held r one = record { at = one.at; before = one.before; made = one.made; same = one.same; uncancelled = subst IsUncancelled (sym one.stands) (uncut r.ended) }
    where
      uncut : (ended : Bool) → IsUncancelled (stands_as ended)
      uncut true = tt
      uncut false = tt

  -- A LIFE THAT TAKES PART
  module _ (apart : st.participation.stage ≡ Follows → ⊥) where
    takes_part : life_follows (alone g.script) g.number g.life e ≡ false
    takes_part = stands.parts apart

    its_epoch : st.participation.epoch ≡ e
    its_epoch = stands.epoch apart

    its_provided : IsProvidedNow → IsProvidedFor g.script e
    unfolding at_step
    its_provided named = let its = subst (IsProvidedIn c) its_epoch named in record { in_range = its.0; some = its.1; in_bound = its.2 }

    module _ (round : Round) (info : EpochInfo U) (of_round : st.participation.round ≡ Some round) (of_info : st.participation.current ≡ Some info) where
      info_is : IsInfoOf g.script g.life (suc i) e info
      info_is = info_later g i e info
          (subst (λ (k : ℕ). IsInfoOf g.script g.life i k info) its_epoch (subst (λ (o : Option (EpochInfo U)). IsSomeAnd o (λ x. IsInfoOf g.script g.life i st.participation.epoch x)) of_info (carried round of_round)))

      round_is : round_by g.script e info ≡ Ok round
      unfolding at_step
      round_is = ap (λ (k : ℕ). round_by g.script k info) (sym its_epoch)
          ∙ (subst (λ (o : Option (EpochInfo U)). IsSomeAnd o (λ x. (x.epoch ≡ st.participation.epoch) × (validity c x ≡ Ok tt) × (round_for c st.participation.epoch x ≡ Ok round))) of_info (live.informed round of_round)).2

      bytes_are : (logs : LogMap) → payload_by c round info logs ≡ Some (next_bytes g.script info round logs)
      unfolding at_step
      bytes_are logs = refl

      -- made of these logs
      made_of : (request read : ℕ) (recorded logs : LogMap) (payload : Option (List ℕ)) → read ≤ suc i → epoch_by g (read - 1) ≡ e → WereAsked g.script g.life e request read round recorded logs → payload ≡ payload_by c round info logs
          → Known e read round recorded → IsProvidedNow → (made : IsMadeOf g.script g.number g.life e (suc i) request payload) × Known e made.at made.round made.recorded
      made_of request read recorded logs payload within same asked is its_known named = (
        record {
          takes_part = takes_part;
          provided = its_provided named;
          info = info;
          info_is = info_is;
          round = round;
          round_is = round_is;
          at = read;
          within = within;
          same = same;
          recorded = recorded;
          logs = logs;
          asked = asked;
          bytes = is ∙ bytes_are logs;
        },
        its_known,
      )

    -- REQUESTS ARE READ in a life x
    module _ (x : Live U) (same : IsSamePart c st x) (x_tip : x.tip ≡ tip_in g.script g.life (suc i)) (ready : AreReady g Known e (suc i) st.participation.round x.inclusion)
        (knows : (round : Round) → x.participation.round ≡ Some round → Known e (suc i) round (canonical c x)) where
      x_epoch : x.participation.epoch ≡ e
      x_epoch = same.epoch ∙ its_epoch

      lacking : (round : Round) (r : Request U) (why : Why) → r.blocks ≡ fed_in g.script g.life r.number (suc i) → request_standing g.life r.number (suc i) ≡ stands_as r.ended
          → IsRead check_log_of round (bounds_in g.script e) (scan_tip g.script g.life (suc i)) r.blocks r.ended (Lacks why) → IsUnavailable g.script g.number g.life e (suc i) r.number why
      lacking round r why fed standing (inl (short, ended, on)) =
          subst (λ (w : Why). IsUnavailable g.script g.number g.life e (suc i) r.number w) (sym short)
          (record { closed = standing ∙ ap stands_as ended; path = on.path; fed = sym fed ∙ on.fed; under_way = on.under_way })
      lacking round r why fed standing (inr refused) = by_why why (record { path = refused.path; next = refused.next; rest = refused.rest; fed = sym fed ∙ refused.fed; under_way = refused.under_way; so = refused.so })
        where
          by_why : (w : Why) → IsRefusedAt g.script g.life e r.number (suc i) w → IsUnavailable g.script g.number g.life e (suc i) r.number w
          by_why (WrongHeight wanted got) its = its
          by_why (Unlinked height) its = its
          by_why (Detached height) its = its
          by_why Short its = absurd its.so
          by_why Following its = absurd its.so
          by_why Terminal its = absurd its.so
          by_why Finished its = absurd its.so
          by_why Held its = absurd its.so

      found_for : (number : ℕ) (answer : AnswerLine) → IsReadAnswer c x (Answer number answer) → IsSaidHere (Answer number answer)
      found_for number (Available payload) (round, info, of_round, of_info, (r, among, numbered, (found, read, is))) =
          let one : IsHeld g e (suc i) r = all_of (IsHeld g e (suc i)) x.inclusion.queue r among ready.queue in
          subst (λ (n : ℕ). IsSaidHere (Answer n (Available payload))) numbered (λ named. (
            of_held r one,
            made_of round info (sym same.round ∙ of_round) (sym same.current ∙ of_info) r.number (suc i) (canonical c x) (filled_by (canonical c x) found) payload (itself (suc i)) (ap (epoch_by g) (less_one i))
                (were_asked g here (suc i) e x x_tip x_epoch round r found read one.fed) is (knows round of_round) named,
          ))
      found_for number (Unavailable why) (round, of_round, (r, among, numbered, lacks)) =
          let one : IsHeld g e (suc i) r = all_of (IsHeld g e (suc i)) x.inclusion.queue r among ready.queue in
          subst (λ (n : ℕ). IsAskedFor g.script g.number g.life e (suc i) n × IsUnavailable g.script g.number g.life e (suc i) n why) numbered (
            of_held r one,
            lacking round r why one.fed one.stands (subst (IsRead check_log_of round (bounds_in g.script e) (scan_tip g.script g.life (suc i)) r.blocks r.ended) lacks (read_here g here (suc i) e x x_tip x_epoch round r)),
          )

      found_so : (line : Entry) → IsReadAnswer c x line → IsSaidHere line
      found_so (Answer number answer) read = found_for number answer read
      found_so line read = absurd read

    -- A VERIFICATION ENDS
    waited_for : (number : ℕ) (payload : Option (List ℕ)) → IsWaitedAnswer c st (Answer number (Available payload)) → ((awaited : IsAwaited g Known e i st.inclusion.running st.participation.round number) → IsUncancelled (request_standing g.life number (suc i)))
        → IsSaidHere (Answer number (Available payload))
    waited_for number payload (round, info, of_round, of_info, (job, runs, waits, is)) keeps =
        let one : IsAwaited g Known e i st.inclusion.running st.participation.round number = subst (λ (o : Option ℕ). IfSome o (IsAwaited g Known e i st.inclusion.running st.participation.round)) waits held.ready.waiter in
        let of_job : one.job ≡ job = the_same (sym one.runs ∙ runs) in
        let of_its : one.its_round ≡ round = the_same (sym one.of_round ∙ of_round) in λ named. (
          record { at = one.at; before = more one.at one.before; made = one.made; same = one.same; uncancelled = keeps one },
          made_of round info of_round of_info number one.read one.recorded job.logs payload (upto one.read one.within) one.began
              (subst (λ (x : Job). WereAsked g.script g.life e number one.read round one.recorded x.logs) of_job (subst (λ (x : Round). WereAsked g.script g.life e number one.read x one.recorded (one.job).logs) of_its one.asked)) is
              (subst (λ (x : Round). Known e one.read x one.recorded) of_its one.known) named,
        )
      where
        the_same : {A : Type 0} {x y : A} → ◌≡◌ {A = Option A} (Some x) (Some y) → x ≡ y
        the_same e = cc

        more : (a : ℕ) → a < i → a < suc i
        more a low = omega (arith, low)

        upto : (a : ℕ) → a ≤ i → a ≤ suc i
        upto a low = omega (arith, low)

    waited_so : (line : Entry) → IsWaitedAnswer c st line → ((number : ℕ) → IsAwaited g Known e i st.inclusion.running st.participation.round number → IsUncancelled (request_standing g.life number (suc i))) → IsSaidHere line
    waited_so (Answer number (Available payload)) waited keeps = waited_for number payload waited (keeps number)
    waited_so (Answer number (Unavailable why)) waited keeps = absurd waited
    waited_so line waited keeps = absurd waited

  -- a life with a round takes part
  apart_by : (round : Round) → st.participation.round ≡ Some round → st.participation.stage ≡ Follows → ⊥
  apart_by round there life_follows = of_phase (phase_of c (core.awaited_height st)) (sym ((live.stands).in_round round there) ∙ life_follows)
    where
      of_phase : (phase : Phase) → stage_in phase ≡ Follows → ⊥
      of_phase Early same = let no : ◌≡◌ {A = Stage} Deals Follows = same in cc
      of_phase Midpoint same = let no : ◌≡◌ {A = Stage} Includes Follows = same in cc
      of_phase Late same = let no : ◌≡◌ {A = Stage} Includes Follows = same in cc

  -- as requests are read in a life there is a round
  round_of : (x : Live U) (line : Entry) → IsReadAnswer c x line → (round : Round) × (x.participation.round ≡ Some round)
  round_of x (Answer number (Available payload)) read = (read.0, read.2)
  round_of x (Answer number (Unavailable why)) read = (read.0, read.1)
  round_of x line read = absurd read

  waited_round : (line : Entry) → IsWaitedAnswer c st line → (round : Round) × (st.participation.round ≡ Some round)
  waited_round (Answer number (Available payload)) waited = (waited.0, waited.2)
  waited_round (Answer number (Unavailable why)) waited = absurd waited
  waited_round line waited = absurd waited

  read_in : (x : Live U) → IsReadFor c st m.message x → IsSamePart c st x → x.tip ≡ tip_in g.script g.life (suc i) → AreReady g Known e (suc i) st.participation.round x.inclusion → (line : Entry) → IsReadAnswer c x line → IsSaidHere line
  read_in x in_it same x_tip ready line read =
      let its_round = round_of x line read in
      let apart : st.participation.stage ≡ Follows → ⊥ = apart_by its_round.0 (sym same.round ∙ its_round.1) in
      found_so apart x same x_tip ready (known x in_it x_tip (same.epoch ∙ stands.epoch apart)) line read

  unasked_so : (line : Entry) → IsUnasked line → IsSaidHere line
  unasked_so (Answer number answer) none = absurd none
  unasked_so line none = tt

  -- MAIL

  module _ (mail : Mail U) (sent : m.message ≡ Mailed mail) where
    its_brings : Brings g its (Mailed mail)
    its_brings = subst (λ (x : Message U). Brings g its x) sent m.brings

    part : IsSamePart c st (asked_by mail st)
    part = let same = asked_same c mail st in record {
      epoch = ap (λ (x : Live U). x.participation.epoch) same;
      round = ap (λ (x : Live U). x.participation.round) same;
      current = ap (λ (x : Live U). x.participation.current) same;
    }

    mail_tip : (asked_by mail st).tip ≡ tip_in g.script g.life (suc i)
    mail_tip = ap (λ (x : Live U). x.tip) (asked_same c mail st) ∙ ap (λ (x : Message U). tip_behind x st.tip) (sym sent) ∙ tip_next

    asked_so : (line : Entry) → IsReadAnswer c (asked_by mail st) line → IsSaidHere line
    asked_so line read = read_in (asked_by mail st) (subst (λ (y : Message U). IsReadFor c st y (asked_by mail st)) (sym sent) refl) part mail_tip (mail_said g here i its is st held mail its_brings) line read

  following : (number : ℕ) → its ≡ event.Info number → st.participation.stage ≡ Follows → IsSaidHere (Answer number (Unavailable Following))
  following number of life_follows =
      let there : slice_get g.life.events i ≡ Some (event.Info number) = is ∙ ap (λ (x : Event). Some x) of in (
        record { at = i; before = next i; made = there; same = refl; uncancelled = subst IsUncancelled (sym (becomes_open g.life i number (life_in g here).anew there)) tt },
        stands.blind life_follows,
      )
    where
      next : (a : ℕ) → a < suc a
      next a = omega arith

  -- the one that waits stays, where the event doesn't cancel it
  waits_on : (number : ℕ) → ((s : RequestStanding) → IsUncancelled s → IsUncancelled (turns number s its)) → IsAwaited g Known e i st.inclusion.running st.participation.round number → IsUncancelled (request_standing g.life number (suc i))
  waits_on number keeps one = subst IsUncancelled (sym (stands_more number g.life i its is)) (keeps (request_standing g.life number i) one.uncancelled)

  mail_answers : (mail : Mail U) → m.message ≡ Mailed mail → (line : Entry) → IsMailEntry c st mail line → IsSaidHere line
  mail_answers (Peer from bytes) sent line said = unasked_so line said
  mail_answers (NextLog number height) sent line said = subst (λ (x : Entry). IsSaidHere x) (sym said.1) tt
  mail_answers (ReleaseLog height) sent line said = absurd said
  mail_answers (EpochInfoOf number) sent line (inl read) = asked_so (EpochInfoOf number) sent line read
  mail_answers (EpochInfoOf number) sent line (inr (life_follows, same)) =
      subst (λ (x : Entry). IsSaidHere x) (sym same) (following number (sends_info g its number (its_brings (EpochInfoOf number) sent)) life_follows)
  mail_answers (Feed number block) sent line said = asked_so (Feed number block) sent line said
  mail_answers (Over number) sent line said = asked_so (Over number) sent line said
  mail_answers (Cancel number) sent line said = asked_so (Cancel number) sent line said
  mail_answers (Work handed) sent line (inl waited) =
      let its_round = waited_round line waited in
      let of : its ≡ event.Work = sends_work g its handed (its_brings (Work handed) sent) in
      waited_so (apart_by its_round.0 its_round.1) line waited (λ number one. waits_on number (λ s uncancelled. subst (λ (x : Event). IsUncancelled (turns number s x)) (sym of) (keeps_work number s uncancelled)) one)
  mail_answers (Work handed) sent line (inr read) = asked_so (Work handed) sent line read

  -- A BLOCK

  module _ (number : ℕ) (of : its ≡ event.Final number) (b : Block U) (there : slice_get (blocks_in g.script) number ≡ Some b) (sent : m.message ≡ Finalized b) (applied : judged_block c b st ≡ Applied) where
    block_read : (x : Live U) → IsReadFor c st (Finalized b) x → IsReadFor c st m.message x
    block_read x in_it = subst (λ (y : Message U). IsReadFor c st y x) (sym sent) in_it

    abbrev its_tip : Option Tip
    its_tip = Some (record { height = b.height; digest = b.digest })

    block_tip : its_tip ≡ tip_in g.script g.life (suc i)
    block_tip =
        sym (ap (λ (t : Bool). if t then st.tip else its_tip) (ap (λ (o : Option Tip). option_map_or (λ t. nat_le b.height t.height) o false) tip ∙ above_by g here i its is reached m st live stands tip b applied))
        ∙ ap (λ (x : Message U). tip_behind x st.tip) (sym sent) ∙ tip_next

    keeps : (n : ℕ) (s : RequestStanding) → IsUncancelled s → IsUncancelled (turns n s its)
    keeps n s its_open = subst (λ (x : Event). IsUncancelled (turns n s x)) (sym of) (keeps_final n number s its_open)

    final_so : st.participation.stage ≡ Includes → is_last_height c b.height ≡ true → (n : ℕ) (line : Entry) → OfRequest st n (λ r. line ≡ Answer n (Unavailable Finished)) → IsSaidHere line
    final_so stage last_one n line (r, among, numbered, same) =
        let apart : st.participation.stage ≡ Follows → ⊥ = λ life_follows. let no : ◌≡◌ {A = Stage} Includes Follows = sym stage ∙ life_follows in cc in
        let ready = block_said g here i its is st held number of st.inclusion refl refl refl in
        subst (λ (x : Entry). IsSaidHere x) (sym same) (
          subst (λ (k : ℕ). IsAskedFor g.script g.number g.life e (suc i) k) numbered (of_held r (all_of (IsHeld g e (suc i)) st.inclusion.queue r among ready.queue)),
          (
            stands.parts apart,
            subst (λ (o : Option Event). IsSomeAnd o (λ x. (k : ℕ) × (y : Block U) × (x ≡ event.Final k) × (slice_get (blocks_in g.script) k ≡ Some y) × IsTakenLast g.script g.number g.life (suc i - 1) y)) (sym is)
                (number, b, of, there, subst (λ (k : ℕ). IsTakenLast g.script g.number g.life k b) (sym (less_one i)) (taken g here i its is reached m st live stands tip carried number of b there applied last_one)),
          ),
        )

    includes_so : (last_one : Bool) → is_last_height c b.height ≡ last_one → st.participation.stage ≡ Includes → (line : Entry) → IsFinalAnswer c st last_one b line → IsSaidHere line
    includes_so true last_is stage line (inl waited) =
        let its_round = waited_round line waited in waited_so (apart_by its_round.0 its_round.1) line waited (λ n one. waits_on n (keeps n) one)
    includes_so true last_is stage line (inr (n, left)) = final_so stage last_is n line left
    includes_so false last_is stage line (round, of_round, read) =
        let same = observed_part c st round b in
        read_in (included c round b st) (block_read (included c round b st) (applied, inr (stage, last_is, (round, of_round, refl)))) (record { epoch = same.epoch; round = same.round; current = same.current }) block_tip (included_said g here i its is st held number of c round b) line read

    deals_so : st.participation.stage ≡ Deals → (line : Entry) → IsReadAnswer c (dealt_behind c b (given_itself c st)) line → IsSaidHere line
    deals_so stage line read =
        let none : st.inclusion.running ≡ None = (live.asked.has.early (λ includes. let no : ◌≡◌ {A = Stage} Deals Includes = sym stage ∙ includes in cc)).0 in
        read_in (dealt_behind c b (given_itself c st)) (block_read (dealt_behind c b (given_itself c st)) (applied, inl (stage, refl))) (dealt_part c st b) (dealt_tip c st b ∙ block_tip) (dealt_said g here i its is st held number of c b (live.asked.has.waits none)) line read

    by_stage : (stage : Stage) → st.participation.stage ≡ stage → (line : Entry) → IsBlockAnswer c st b stage line → IsSaidHere line
    by_stage Deals stage line said = deals_so stage line said
    by_stage Includes stage line said = includes_so (is_last_height c b.height) refl stage line said
    by_stage Follows stage line said = absurd said
    by_stage Ends stage line said = absurd said

    block_answers : (line : Entry) → IsLineThrough c any_shares st (Finalized b) line → IsSaidHere line
    block_answers (Answer n answer) said = by_stage st.participation.stage refl (Answer n answer) said
    block_answers line said = tt

  -- A STEP

  half_so : (line : Entry) → IsHalfLine line → IsSaidHere line
  half_so (Answer n answer) said = absurd said
  half_so line said = tt

  all_said : {P : Entry → Type 0} → ((line : Entry) → P line → IsSaidHere line) → (lines : List Entry) → AllByRecursion P lines → AllByRecursion IsSaidHere lines
  all_said so [] all = tt
  all_said so (line ∷ lines) all = (so line all.0, all_said so lines all.1)

  both_said : {P Q R : Entry → Type 0} → ((line : Entry) → P line → Q line → R line) → (lines : List Entry) → AllByRecursion P lines → AllByRecursion Q lines → AllByRecursion R lines
  both_said so [] one other = tt
  both_said so (line ∷ lines) one other = (so line one.0 other.0, both_said so lines one.1 other.1)

  abbrev Through : Entry → Type 0
  Through line = IsLineThrough c any_shares st m.message line ⊎ IsHalfLine line

  through_so : (ended : Ended NodeStop (Live U)) (old new : List Entry) → Said (on_devices (node_step c (event_of m.message) st)) ended old new → (added : List Entry) × (new ≡ old ++ added) × AllByRecursion Through added
  through_so ended old new said = node_steps_say_through c any_shares st m.message ended old new (through_at g here (suc i)) (λ h epoch found. tt) (step_taken g its m.message m.brings c st) live said

  -- each of its lines is said so
  step_said : (ended : Ended NodeStop (Live U)) (old new : List Entry) → Said (on_devices (node_step c (event_of m.message) st)) ended old new
      → (added : List Entry) × (new ≡ old ++ added) × AllByRecursion IsSaidHere added
  step_said ended old new said = by_brought (brings_so g its m.message m.brings)
    where
      through : (added : List Entry) × (new ≡ old ++ added) × AllByRecursion Through added
      through = through_so ended old new said

      by_brought : BringsBlock g its m.message ⊎ BringsMail its m.message → (added : List Entry) × (new ≡ old ++ added) × AllByRecursion IsSaidHere added
      by_brought (inr (mail, sent, none)) = (through.0, through.1, all_said of_mail through.0 through.2)
        where
          of_mail : (line : Entry) → Through line → IsSaidHere line
          of_mail line (inl said) = mail_answers mail sent line (subst (λ (x : Message U). IsLineThrough c any_shares st x line) sent said)
          of_mail line (inr said) = half_so line said
      by_brought (inl (number, made, of, sent)) = (through.0, through.1, both_said of_block through.0 through.2 lines)
        where
          b : Block U
          b = made.block

          applied_or : (added : List Entry) × (new ≡ old ++ added) × AllByRecursion (λ line. (judged_block c b st ≡ Applied) ⊎ IsHalfLine line) added
          applied_or = block_lines c b st ended old new (subst (λ (x : Message U). Said (on_devices (node_step c (event_of x) st)) ended old new) sent said)

          lines : AllByRecursion (λ line. (judged_block c b st ≡ Applied) ⊎ IsHalfLine line) through.0
          lines = subst (λ (xs : List Entry). AllByRecursion (λ line. (judged_block c b st ≡ Applied) ⊎ IsHalfLine line) xs) (append_cancel_left old applied_or.0 through.0 (sym applied_or.1 ∙ through.1)) applied_or.2

          of_block : (line : Entry) → Through line → (judged_block c b st ≡ Applied) ⊎ IsHalfLine line → IsSaidHere line
          of_block line (inr said) applied = half_so line said
          of_block line (inl said) (inr half) = half_so line half
          of_block line (inl said) (inl applied) = block_answers number of b made.is sent applied line (subst (λ (x : Message U). IsLineThrough c any_shares st x line) sent said)

  pub step_answers : (ended : Ended NodeStop (Live U)) (old new : List Entry) → Said (on_devices (node_step c (event_of m.message) st)) ended old new
      → (added : List Entry) × (new ≡ old ++ added) × AllByRecursion (IsSaidAt Known g.script g.number g.life (suc i)) added
  step_answers ended old new said =
      let its_lines = step_said ended old new said in
      let named = info_lines c any_shares (through_at g here (suc i)) (λ h epoch found. tt) st live m.message ended old new said in
      let all : AllByRecursion (IsSaidIn Known g.script g.number g.life e (suc i)) its_lines.0 =
      both_said said_where its_lines.0 its_lines.2 (subst (AllByRecursion (IsInfoIf IsProvidedNow)) (append_cancel_left old named.0 its_lines.0 (sym named.1 ∙ its_lines.1)) named.2) in
      (its_lines.0, its_lines.1, subst (λ (k : ℕ). AllByRecursion (IsSaidIn Known g.script g.number g.life k (suc i)) its_lines.0) (sym (ap (epoch_by g) (less_one i))) all)
    where
      said_where : (line : Entry) → IsSaidHere line → IsInfoIf IsProvidedNow line → IsSaidIn Known g.script g.number g.life e (suc i) line
      said_where (Answer request (Available payload)) said named = said named
      said_where (Answer request (Unavailable why)) said named = said
      said_where line said named = tt
