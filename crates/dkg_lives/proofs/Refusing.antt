-- Where a share is refused, the devices hold what its setup left, by whichever course it came to it.
use Rattle.std.proofs.Common.{◌≡◌, ◌⊎◌, inl, inr, ℕ, Bool, true, false, List, [], ◌∷◌, Option, Some, None, refl, sym, ◌∙◌, ap, subst, arith}
use Rattle.std.specs.Prelude.{◌+◌, ◌-◌, ◌^◌, ◌==◌, ◌&&◌, ◌||◌, nat_le, nat_lt, not, ⊤, if◌then◌else◌, is_none, is_some, length, option_map, Result, Ok, Err}
use Rattle.std.specs.Option.{option_map_or}
use Rattle.std.specs.Str.{bytes_eq}
use Rattle.std.proofs.lemmas.Bool.Decides.{nat_tests}
use Rattle.dkg_values.specs.Rising.{lookup}
use Rattle.dkg_ceremony.specs.Outcomes.{LogMap}
use Rattle.dkg_ceremony.specs.declared.deal.DealError.{DealError}
use Rattle.dkg_ceremony.specs.declared.output.Output.{Output}
use Rattle.dkg_ceremony.specs.declared.phase.Phase.{Phase}
use Rattle.dkg_ceremony.specs.declared.round.RoundParts.{RoundParts as Round}
use Rattle.dkg_ceremony.specs.declared.round.RoundError.{RoundError}
use Rattle.dkg_types.specs.Blocks.{Block}
use Rattle.dkg_types.specs.BlockCodes.{info_of}
use Rattle.dkg_infos.specs.NextInfos.{info_by}
use Rattle.dkg_infos.specs.declared.entry.Entry.TheVariants as lines
use Rattle.dkg_infos.specs.declared.entry.Why.TheVariants.{Finished}
use Rattle.dkg_infos.specs.declared.fault.Fault.{Fault}
use Rattle.dkg_infos.specs.declared.fault.Fault.TheVariants as fault
use Rattle.dkg_infos.specs.declared.fault.LocalCause.TheVariants as local
use Rattle.dkg_infos.specs.declared.info.EpochInfo.{EpochInfo}
use Rattle.dkg_infos.specs.declared.fault.ParticipantsCause.TheVariants.{ProviderAbove, ProviderEmpty}
use Rattle.dkg_infos.specs.declared.participants.ParticipantsError.{ParticipantsError}
use Rattle.dkg_store.specs.Acts.{Held, World, held_after, does, says, stopped}
use Rattle.dkg_core.specs.Blocks as b
use Rattle.dkg_core.specs.Core.{begun_life, opening, opens_in}
use Rattle.dkg_core.specs.Courses.{Ask, CallOutside, Course, Do, EndsSo, Goes, Say, Stops, bind}
use Rattle.dkg_ceremony.specs.Schedule.{epoch_of}
use Rattle.dkg_core.specs.Fixed.{Fixed, Material, OneShot, has, start}
use Rattle.dkg_core.specs.Forms.{IsForm, committed_by, current_by, held_behind, orchestrator_by, round_for, seed_read, set_up_by, share_read, started}
use Rattle.dkg_core.specs.Including as inc
use Rattle.dkg_core.specs.Laws.{start_of}
use Rattle.dkg_core.specs.Live.{Artifact, Dealer, Deals, Ends, Follows, GaveNone, Includes, Inclusion, Job, Live, Request, Stage, Verified, VerifiedLogs, Watches, awaited_height, is_last_height, records_of_epoch, phase_of, with_inclusion, with_participation, with_tip, with_told}
use Rattle.dkg_core.specs.Logs.{canonical, logs_of}
use Rattle.dkg_core.specs.Plans as p
use Rattle.dkg_core.specs.Setup as s
use Rattle.dkg_core.specs.Setup.{Standing, Uncommitted, WasCommitted}
use Rattle.dkg_core.specs.Sources.{Tip, startup}
use Rattle.dkg_core.specs.Stepping.{next_epoch}
use Rattle.dkg_core.specs.Through.{held_with}
use Rattle.dkg_core.specs.Endings.{first_block, first_epoch, validity}
use Rattle.dkg_core.proofs.Heights.{next_last}

-- X where a share is refused
abbrev pub IfRefused : Fault → Type 0 → Type 0
IfRefused (fault.LocalState (local.ShareRefused epoch)) X = X
IfRefused its X = ⊤

-- WHERE A COURSE HALTS by a share's refusal, over what the devices hold
module _ (X : Held → Type 0) where
  -- .. and what it comes to, if it goes to its end
  abbrev pub Leads : {Dir : Type 0} → (Live Dir → Held → Type 0) → Course Dir Fault (Live Dir) → Held → Type 0
  Leads Q (Say line course) h = Leads Q course h
  Leads Q (Do op course) h = Leads Q course (held_after op h)
  Leads Q (CallOutside outer course) h = Leads Q course h
  Leads Q (Ask f) h = Leads Q (f h) h
  Leads Q (Goes st) h = Q st h
  Leads Q (Stops its) h = IfRefused its (X h)

  abbrev pub Halts : {Dir : Type 0} → Course Dir Fault (Live Dir) → Held → Type 0
  Halts course h = Leads (λ st h. ⊤) course h

  leads_if : {Dir : Type 0} (Q : Live Dir → Held → Type 0) (t : Bool) (x y : Course Dir Fault (Live Dir)) (h : Held) → (t ≡ true → Leads Q x h) → (t ≡ false → Leads Q y h) → Leads Q (if t then x else y) h
  leads_if Q true x y h one other = one refl
  leads_if Q false x y h one other = other refl

  halts_if : {Dir : Type 0} (t : Bool) (x y : Course Dir Fault (Live Dir)) (h : Held) → (t ≡ true → Halts x h) → (t ≡ false → Halts y h) → Halts (if t then x else y) h
  halts_if t x y h one other = leads_if (λ st h. ⊤) t x y h one other

  leads_on : {Dir : Type 0} (Q : Live Dir → Held → Type 0) (course : Course Dir Fault (Live Dir)) (next : Live Dir → Course Dir Fault (Live Dir)) (h : Held) → Leads Q course h
      → ((st : Live Dir) (h : Held) → Q st h → Halts (next st) h) → Halts (bind course next) h
  leads_on Q (Say line course) next h l more = leads_on Q course next h l more
  leads_on Q (Do op course) next h l more = leads_on Q course next (held_after op h) l more
  leads_on Q (CallOutside outer course) next h l more = leads_on Q course next h l more
  leads_on Q (Ask f) next h l more = leads_on Q (f h) next h l more
  leads_on Q (Goes st) next h l more = more st h l
  leads_on Q (Stops its) next h l more = l

  pub halted : {Dir : Type 0} (course : Course Dir Fault (Live Dir)) (w new : World) (its : Fault) → Halts course w.held → EndsSo course (stopped its) w new → IfRefused its (X new.held)
  halted (Say line course) w new its l done = halted course (says w line) new its l done
  halted (Do op course) w new its l done = halted course (does w op) new its l done
  halted (CallOutside outer course) w new its l done = halted course w new its l done
  halted (Ask f) w new its l done = halted (f w.held) w new its l done
  halted (Goes st) w new its l done = absurd done
  halted (Stops own) w new its l done = subst (λ (x : World). IfRefused its (X x.held)) (sym done.0) (subst (λ (y : Fault). IfRefused y (X w.held)) (sym done.1) l)

  -- A SETUP

  module _ {Dir : Type 0} (c : Fixed Dir) where
    -- X behind a setup by this info, whose share is refused
    abbrev pub Refuses : EpochInfo Dir → (epoch : ℕ) → (share : Option ℕ) → (seed : List ℕ) → Held → Type 0
    Refuses info epoch share seed h =
        (round : Round) (why : DealError) (at : Live Dir) → validity c info ≡ Ok tt → round_for c epoch info ≡ Ok round → s.may_deal c round share at ≡ true → c.rules.deal_of round c.me share seed ≡ Err why → X h

    sits : (round : Round) (phase : Phase) (dealer : Option Dealer) (refused : Option ℕ) (st : Live Dir) (h : Held) → Halts (s.sits_down c round phase dealer refused st) h
    sits round phase dealer (Some who) st h = tt
    sits round phase dealer None st h = tt

    player : (round : Round) (phase : Phase) (dealer : Option Dealer) (st : Live Dir) (h : Held) → Halts (s.makes_player c round phase dealer st) h
    player round phase dealer st h =
        halts_if (not (has round.players c.me) || s.is_lost c round (records_of_epoch round.number st.records.dealings) (logs_of st round.number)) (s.takes_part c round phase dealer Watches st)
        (s.sits_down c round phase dealer (s.refused_in c round st) st) h (λ e. tt) (λ e. sits round phase dealer (s.refused_in c round st) st h)

    dealt : (round : Round) (phase : Phase) (st : Live Dir) (deals : Result (List ℕ × List (ℕ × ℕ)) DealError) (h : Held) → ((why : DealError) → deals ≡ Err why → X h) → Halts (s.dealt_by c round phase st deals) h
    dealt round phase st (Ok halves) h x = player round phase (s.dealer_for phase round (s.dealer_from c round st halves)) st h
    dealt round phase st (Err e) h x = x e refl

    rounds : (phase : Phase) (share : Option ℕ) (seed : List ℕ) (st : Live Dir) (drawn : Result Round RoundError) (h : Held)
        → ((round : Round) (why : DealError) → drawn ≡ Ok round → s.may_deal c round share st ≡ true → c.rules.deal_of round c.me share seed ≡ Err why → X h) → Halts (s.in_round c phase share seed st drawn) h
    rounds phase share seed st (Err e) h x = tt
    rounds phase share seed st (Ok round) h x =
        halts_if (s.may_deal c round share st) (s.dealt_by c round phase st (c.rules.deal_of round c.me share seed)) (s.makes_player c round phase None st) h
        (λ e. dealt round phase st (c.rules.deal_of round c.me share seed) h (λ why is. x round why refl e is)) (λ e. player round phase None st h)

    -- the life behind the commit and the prune
    abbrev ready : Standing → EpochInfo Dir → Option ℕ → Live Dir → Live Dir
    ready standing info share st = record st {
      records = s.records_from (st.participation.epoch - 1) st.records;
      participation = record st.participation { current = current_by standing info st.participation.current };
      orchestrator = orchestrator_by standing c info share st.orchestrator;
    }

    draws : (standing : Standing) (info : EpochInfo Dir) (share : Option ℕ) (seed : List ℕ) (st : Live Dir) (h : Held) → validity c info ≡ Ok tt → Refuses info st.participation.epoch share seed h
        → Halts (s.draws_up c (s.participants_of info) (Some info.output) share seed (ready standing info share st)) h
    draws standing info share seed st h valid x =
        rounds (phase_of c (awaited_height st)) share seed (ready standing info share st) (c.rules.round_of c.namespace st.participation.epoch (Some info.output) c.mode c.reveal info.output.players info.players) h
        (λ round why drawn may deals. x round why (ready standing info share st) valid drawn may deals)

    behind : (standing : Standing) (info : EpochInfo Dir) (share : Option ℕ) (seed : List ℕ) (st : Live Dir) (h : Held) → validity c info ≡ Ok tt
        → Refuses info st.participation.epoch share seed (set_up_by standing st.participation.epoch info share seed h) → Halts (s.with_share_and_seed c None standing info share seed st) h
    behind WasCommitted info share seed st h valid x = draws WasCommitted info share seed st (set_up_by WasCommitted st.participation.epoch info share seed h) valid x
    behind Uncommitted info None seed st h valid x = draws Uncommitted info None seed st (set_up_by Uncommitted st.participation.epoch info None seed h) valid x
    behind Uncommitted info (Some share) seed st h valid x = draws Uncommitted info (Some share) seed st (set_up_by Uncommitted st.participation.epoch info (Some share) seed h) valid x

    judged : (standing : Standing) (info : EpochInfo Dir) (st : Live Dir) (valid : Result (Unit {0}) ParticipantsError) (h : Held) → validity c info ≡ valid
        → Refuses info st.participation.epoch (share_read c info h) (seed_read c info h) (set_up_by standing st.participation.epoch info (share_read c info h) (seed_read c info h) h)
        → Halts (s.info_judged c None standing info st valid) h
    judged standing info st (Err e) h is x = tt
    judged standing info st (Ok passed) h is x = behind standing info (share_read c info h) (seed_read c info h) st h is x

    same_number : (n m : ℕ) → (n == m) ≡ true → n ≡ m
    same_number n m e = grind (arith, nat_tests)

    pub by_info : (standing : Standing) (info : EpochInfo Dir) (st : Live Dir) (h : Held)
        → (info.epoch ≡ st.participation.epoch
        → Refuses info st.participation.epoch (share_read c info h) (seed_read c info h) (set_up_by standing st.participation.epoch info (share_read c info h) (seed_read c info h) h))
        → Halts (s.with_info c None standing info st) h
    by_info standing info st h x =
        halts_if (info.epoch == st.participation.epoch) (s.info_judged c None standing info st (validity c info)) (Stops (fault.WrongEpoch st.participation.epoch info.epoch)) h
        (λ e. judged standing info st (validity c info) h refl (x (same_number info.epoch st.participation.epoch e))) (λ e. tt)

    -- AN OPENING, whose epoch a block begins that carries an info

    module _ (form : IsForm c) (w : World) (block : Block Dir) (there : first_block c ≡ Some block) (info : EpochInfo Dir) (carries : info_of block.payload ≡ Some info) where
      abbrev k : Held
      k = held_behind c w.held

      module _ (x : info.epoch ≡ first_epoch c → Refuses info (first_epoch c) (share_read c info k) (seed_read c info k) (set_up_by Uncommitted (first_epoch c) info (share_read c info k) (seed_read c info k) k)) where
        abbrev fresh : Live Dir
        fresh = started c (c.seen k)

        abbrev start_of_life : Live Dir
        start_of_life = begun_life (c.seen k)

        from_boundary : Halts (s.from_boundary c (first_block c) fresh) k
        from_boundary = subst (λ (o : Option (Block Dir)). Halts (s.from_boundary c o fresh) k) (sym there)
            (subst (λ (o : Option (EpochInfo Dir)). Halts (option_map_or (λ i. s.with_info c None Uncommitted i fresh) o (Stops (fault.MissingEpochInfo block.height))) k) (sym carries)
            (by_info Uncommitted info fresh k x))

        abbrev next : Option (Material Dir) → Course Dir Fault (Live Dir)
        next kept = p.stays_in_range c (p.resolves_plan c (p.starts_from c start_of_life) kept)

        starts : Halts (p.starts_from c start_of_life None) k
        starts = halts_if (s.is_past_range c (start_of c)) (Stops fault.HeightRange) (s.sets_up c None (record start_of_life { tip = startup c.source.anchor None })) k (λ e. tt) (λ e. from_boundary)

        goes : Halts (next None) k
        goes = halts_if (option_map_or (λ t. s.is_past_range c (t.height + 1)) (start c) false) (Stops fault.HeightRange) (p.starts_from c start_of_life None) k (λ e. tt) (λ e. starts)

        pub opening_halts : Halts (opening c) w.held
        opening_halts = subst (λ (o : Option (OneShot Dir)). Halts (opens_in c o start_of_life) k) (sym form.reshare)
            (subst (λ (m : Option (Material Dir)). Halts (p.finds_material c m next) k) (sym form.bare)
            (subst (λ (plan : Option (List ℕ)). Halts (p.reads_plan c plan next) k) (sym (form.unplanned k)) goes))

    -- WHAT A RESULT MAKES: a course that goes on by any artifact, in a life whose requests may be others

    module _ (Q : Live Dir → Held → Type 0) (st : Live Dir) (h : Held) where
      abbrev with : Inclusion Dir → Live Dir
      with i = with_inclusion i st

      abbrev GoesOn : inc.Continuation Dir → Type 0
      GoesOn next = (made : Artifact Dir) (i : Inclusion Dir) → Leads Q (next made (with i)) h

      leads_option : {A : Type 0} (f : A → Course Dir Fault (Live Dir)) (o : Option A) (none : Course Dir Fault (Live Dir)) → ((a : A) → Leads Q (f a) h) → Leads Q none h → Leads Q (option_map_or f o none) h
      leads_option f None none some without = without
      leads_option f (Some a) none some without = some a

      in_directory : (info : EpochInfo Dir) (acts : Course Dir Fault (Live Dir)) → Leads Q acts h → Leads Q (inc.with_directory c info acts) h
      in_directory info acts a = leads_if Q (c.directories.matches info.directory (inc.info_peers info)) acts (Stops (fault.DirectoryMismatch info.epoch)) h (λ e. a) (λ e. tt)

      shared : (info : EpochInfo Dir) (found : Option Verified) (f : Option ℕ → Course Dir Fault (Live Dir)) → ((share : Option ℕ) → Leads Q (f share) h) → Leads Q (inc.share_by c info found f) h
      shared info (Some found) f each = each found.share
      shared info None f each = leads_if Q (has info.output.players c.me) (s.looks c (λ seen. f (lookup info.epoch seen.shares))) (f None) h (λ e. each (lookup info.epoch (c.seen h).shares)) (λ e. each None)

      provided : (epoch : ℕ) (acts : Course Dir Fault (Live Dir)) → Leads Q acts h → Leads Q (inc.with_provided c epoch acts) h
      provided epoch acts a =
          let count = length (c.provided.participants epoch) in
          let few : Course Dir Fault (Live Dir) = if nat_lt c.limit count then Stops (fault.InvalidParticipants (ProviderAbove count c.limit)) else acts in
          let some : Course Dir Fault (Live Dir) = if count == 0 then Stops (fault.InvalidParticipants ProviderEmpty) else few in
          leads_if Q (nat_le (2 ^ 64) epoch) (Stops fault.HeightRange) some h (λ e. tt)
          (λ e. leads_if Q (count == 0) (Stops (fault.InvalidParticipants ProviderEmpty)) few h (λ e. tt)
          (λ e. leads_if Q (nat_lt c.limit count) (Stops (fault.InvalidParticipants (ProviderAbove count c.limit))) acts h (λ e. tt) (λ e. a)))

      once : (o : OneShot Dir) (output : Output) (share : Option ℕ) (i : Inclusion Dir) (next : inc.Continuation Dir) → GoesOn next → Leads Q (inc.oneshot_with c o output share (with i) next) h
      once o output None i next so = tt
      once o output (Some share) i next so =
          in_directory (inc.oneshot_made o output) (next (record { info = Some (inc.oneshot_made o output); share = Some share }) (with i)) (so (record { info = Some (inc.oneshot_made o output); share = Some share }) i)

      keeps : (logs : LogMap) (next : inc.Continuation Dir) → GoesOn next → GoesOn (inc.keeping_artifact logs next)
      keeps logs next so made i = so made (inc.with_cached logs made (with i)).inclusion

      derived : (o : Option (OneShot Dir)) (r : VerifiedLogs) (i : Inclusion Dir) (next : inc.Continuation Dir) → GoesOn next → Leads Q (inc.derives c o r (with i) next) h
      derived (Some o) r i next so =
          leads_option (λ (found : Verified). inc.oneshot_with c o found.output found.share (with i) (inc.keeping_artifact r.logs next)) r.result (inc.keeping_artifact r.logs next (record { info = None; share = None }) (with i))
          (λ found. once o found.output found.share i (inc.keeping_artifact r.logs next) (keeps r.logs next so)) (keeps r.logs next so (record { info = None; share = None }) i)
      derived None r i next so =
          leads_option (λ (info : EpochInfo Dir). inc.derives_next c info r (with i) (inc.keeping_artifact r.logs next)) st.participation.current (Stops fault.HeightRange)
          (λ info. let made : EpochInfo Dir = info_by c.provided info (option_map (λ (found : Verified). found.output) r.result) in
          provided (info.epoch + 2) (inc.share_by c info r.result (λ share. inc.with_directory c made (inc.keeping_artifact r.logs next (record { info = Some made; share = share }) (with i))))
          (shared info r.result (λ share. inc.with_directory c made (inc.keeping_artifact r.logs next (record { info = Some made; share = share }) (with i)))
          (λ share. in_directory made (inc.keeping_artifact r.logs next (record { info = Some made; share = share }) (with i)) (keeps r.logs next so (record { info = Some made; share = share }) i)))) tt

      by_artifact : (r : VerifiedLogs) (cached : Option (Artifact Dir)) (i : Inclusion Dir) (next : inc.Continuation Dir) → GoesOn next → Leads Q (inc.artifact_by c r cached (with i) next) h
      by_artifact r (Some made) i next so = so made i
      by_artifact r None i next so = derived c.oneshot r i next so

      artifact : (r : VerifiedLogs) (i : Inclusion Dir) (next : inc.Continuation Dir) → GoesOn next → Leads Q (inc.artifact c r (with i) next) h
      artifact r i next so = by_artifact r (inc.cached_for i.cached r.logs) i next so

    -- A LAST BLOCK that carries an info of the next epoch

    module _ (form : IsForm c) (block : Block Dir) (st : Live Dir) (h : Held) (last : is_last_height c block.height ≡ true) (info : EpochInfo Dir) (carries : info_of block.payload ≡ Some info)
        (of_next : info.epoch ≡ next_epoch c block) where
      -- the devices behind the commit, with this share
      abbrev at_setup : Option ℕ → Held
      at_setup share = held_with c info share h

      module _ (x : (share : Option ℕ) → Refuses info (next_epoch c block) (share_read c info (at_setup share)) (seed_read c info (at_setup share))
          (set_up_by WasCommitted (next_epoch c block) info (share_read c info (at_setup share)) (seed_read c info (at_setup share)) (at_setup share))) where
        -- the life behind the commit, whatever it has of requests
        abbrev unset : Option ℕ → Inclusion Dir → Live Dir
        unset share i = with_inclusion i (with_tip block (s.with_registered info.epoch (s.scheme_for c info share) (with_participation (record st.participation { current = Some info }) st)))

        awaited : epoch_of c.blocks_per_epoch (block.height + 1) ≡ next_epoch c block
        awaited = next_last c.blocks_per_epoch block.height form.counted last

        equal_number : (n m : ℕ) → n ≡ m → (n == m) ≡ true
        equal_number n m e = grind (arith, nat_tests)

        committed : (share : Option ℕ) (i : Inclusion Dir) → s.committed_info (s.anew c (unset share i)) ≡ Some info
        committed share i = ap (λ (t : Bool). if t then Some info else None) (equal_number info.epoch (epoch_of c.blocks_per_epoch (block.height + 1)) (of_next ∙ sym awaited))

        sets_up : (share : Option ℕ) (i : Inclusion Dir) → Halts (s.sets_up c None (unset share i)) (at_setup share)
        sets_up share i = subst (λ (o : Option (EpochInfo Dir)). Halts (s.sets_up_by c None o (s.anew c (unset share i))) (at_setup share)) (sym (committed share i))
            (by_info WasCommitted info (s.anew c (unset share i)) (at_setup share)
            (λ e. subst (λ (epoch : ℕ). Refuses info epoch (share_read c info (at_setup share)) (seed_read c info (at_setup share))
            (set_up_by WasCommitted epoch info (share_read c info (at_setup share)) (seed_read c info (at_setup share)) (at_setup share))) (sym awaited) (x share)))

        setup : (share : Option ℕ) (i : Inclusion Dir) → Halts (s.setup c None (unset share i)) (at_setup share)
        setup share i = halts_if (s.is_past_range c (block.height + 1)) (Stops fault.HeightRange) (s.sets_up c None (unset share i)) (at_setup share) (λ e. tt) (λ e. sets_up share i)

        -- WHILE FOLLOWING

        commits : (share : Option ℕ) (seed : List ℕ) → seed ≡ seed_read c info h → Halts (bind (s.commits info seed share st) (λ st. bind (s.registers c info share st) (λ st. s.setup c None (with_tip block st)))) h
        commits None seed is = subst (λ (x : List ℕ). Halts (s.setup c None (unset None st.inclusion)) (committed_by Uncommitted info None x h)) (sym is) (setup None st.inclusion)
        commits (Some value) seed is = subst (λ (x : List ℕ). Halts (s.setup c None (unset (Some value) st.inclusion)) (committed_by Uncommitted info (Some value) x h)) (sym is) (setup (Some value) st.inclusion)

        into : Halts (b.follows_into c block info st) h
        into = commits (share_read c info h) (seed_read c info h) refl

        carried : (f : EpochInfo Dir → Course Dir Fault (Live Dir)) → Halts (f info) h → Halts (b.carried c block f) h
        carried f one = subst (λ (o : Option (EpochInfo Dir)). Halts (option_map_or (λ i. if i.epoch == b.expected_epoch c block.height then f i else Stops (fault.WrongEpoch (b.expected_epoch c block.height) i.epoch)) o
            (Stops (fault.MissingEpochInfo block.height))) h) (sym carries)
            (halts_if (info.epoch == b.expected_epoch c block.height) (f info) (Stops (fault.WrongEpoch (b.expected_epoch c block.height) info.epoch)) h (λ e. one) (λ e. tt))

        -- WHILE INCLUDING

        -- the requests that are left are answered
        abbrev rests : Live Dir → Course Dir Fault (Live Dir)
        rests now = if is_some c.oneshot then b.ends_once c (Some info) now else s.setup c None now

        rest_sets_up : (share : Option ℕ) (i : Inclusion Dir) → Halts (rests (unset share i)) (at_setup share)
        rest_sets_up share i = halts_if (is_some c.oneshot) (b.ends_once c (Some info) (unset share i)) (s.setup c None (unset share i)) (at_setup share) (λ e. tt) (λ e. setup share i)

        answered : (share : Option ℕ) (rs : List (Request Dir)) (i : Inclusion Dir) → Halts (bind (b.answers_all rs (unset share i)) (λ now. rests now)) (at_setup share)
        answered share [] i = rest_sets_up share (record i { queue = [] })
        answered share (r ∷ rs) i = answered share rs (with_told r.number (GaveNone Finished) (unset share i)).inclusion

        registered : (share : Option ℕ) (i : Inclusion Dir)
            → Halts (bind (if is_some c.oneshot then Goes (with_inclusion i (with_participation (record st.participation { current = Some info }) st))
            else s.registers c info share (with_inclusion i (with_participation (record st.participation { current = Some info }) st))) (λ now. b.passes_on c block (Some info) now)) (at_setup share)
        registered share i =
            subst (λ (o : Option (OneShot Dir)). Halts (bind (if is_some o then Goes (with_inclusion i (with_participation (record st.participation { current = Some info }) st))
            else s.registers c info share (with_inclusion i (with_participation (record st.participation { current = Some info }) st))) (λ now. b.passes_on c block (Some info) now)) (at_setup share)) (sym form.reshare)
            (answered share i.queue i)

        taken : (share : Option ℕ) (i : Inclusion Dir) → Halts (b.takes_over c block info share (with_inclusion i st)) h
        taken None i = registered None i
        taken (Some value) i = registered (Some value) i

        concludes : (made : Artifact Dir) (i : Inclusion Dir) → Halts (b.concludes c block made (with_inclusion i st)) h
        concludes made i =
            subst (λ (o : Option (OneShot Dir)). Halts (if is_some o && is_none block.payload then (if is_some made.info then Stops (fault.LocalState local.OutcomeOmitted) else b.passes_on c block None (with_inclusion i st))
            else b.carried c block (λ its. b.takes_over c block its (b.share_for c its made) (with_inclusion i st))) h) (sym form.reshare)
            (carried (λ its. b.takes_over c block its (b.share_for c its made) (with_inclusion i st)) (taken (b.share_for c info made) i))

        abbrev Beside : Live Dir → Held → Type 0
        Beside now k = (k ≡ h) × (now ≡ with_inclusion now.inclusion st)

        verifies : (round : Round) (logs : LogMap) (job : Job) (refused : Option ℕ) (i : Inclusion Dir)
            → Halts (bind (inc.starts_unless job None refused (with_inclusion i st)) (λ now. inc.artifact c (inc.verified c job) (inc.retains c (inc.verified c job) now) (b.concludes c block))) h
        verifies round logs job (Some who) i = tt
        verifies round logs job None i = artifact (λ st h. ⊤) st h (inc.verified c job) (inc.retains c (inc.verified c job) (inc.verifying job None (with_inclusion i st))).inclusion (b.concludes c block) concludes

        derives_now : (round : Round) (logs : LogMap) (retained : Option VerifiedLogs) (i : Inclusion Dir) → Halts (b.derives_at_block c round block logs retained (with_inclusion i st)) h
        derives_now round logs (Some r) i = artifact (λ st h. ⊤) st h r i (b.concludes c block) concludes
        derives_now round logs None i =
            verifies round logs (inc.job_for c round logs (with_inclusion i st)) (if inc.can_finish c round logs (with_inclusion i st) then s.refused_in c round (with_inclusion i st) else None) i

        concludes_by : (round : Round) (logs : LogMap) (before now : Option (Artifact Dir)) (i : Inclusion Dir) → Halts (b.concludes_by c round block logs before now (with_inclusion i st)) h
        concludes_by round logs (Some made) now i = concludes made i
        concludes_by round logs None (Some made) i = concludes made i
        concludes_by round logs None None i = derives_now round logs (inc.retained_for i.retained logs) i

        completes : (r : VerifiedLogs) (waiter : Option ℕ) → Leads Beside (inc.completes_in c r st waiter) h
        completes r None = (refl, refl)
        completes r (Some request) = artifact Beside st h r st.inclusion (λ made now. bind (inc.answers_request c request made now) (λ now. Goes (inc.retains c r now))) (λ made i. (refl, refl))

        ends : (running : Option Job) → Leads Beside (inc.ends_verifying_in c None st running) h
        ends None = (refl, refl)
        ends (Some job) = completes (inc.job_result_of c None job) st.inclusion.waiter

        final : (round : Round) → Halts (b.final_block c round block st) h
        final round =
            let logs : LogMap = canonical c st in
            let before : Option (Artifact Dir) = inc.cached_for st.inclusion.cached logs in
            leads_on Beside (inc.ends_verifying c None st) (λ now. b.concludes_by c round block logs before (inc.cached_for now.inclusion.cached logs) now) h (ends st.inclusion.running)
            (λ now k beside. subst (λ (x : Held). Halts (b.concludes_by c round block logs before (inc.cached_for now.inclusion.cached logs) now) x) (sym beside.0)
            (subst (λ (x : Live Dir). Halts (b.concludes_by c round block logs before (inc.cached_for now.inclusion.cached logs) x) h) (sym beside.1)
            (concludes_by round logs before (inc.cached_for now.inclusion.cached logs) now.inclusion)))

        -- BOTH

        follows : st.participation.stage ≡ Follows → Halts (b.applies c block st) h
        follows is = subst (λ (stage : Stage). Halts (b.applies_in c block st stage) h) (sym is)
            (halts_if (is_last_height c block.height) (b.carried c block (λ i. b.follows_into c block i st)) (Goes (with_tip block st)) h (λ e. carried (λ i. b.follows_into c block i st) into) (λ e. tt))

        of_round : (o : Option Round) → Halts (option_map_or (λ round. if is_last_height c block.height then b.final_block c round block st else b.includes c round block st) o (Goes st)) h
        of_round None = tt
        of_round (Some round) = subst (λ (t : Bool). Halts (if t then b.final_block c round block st else b.includes c round block st) h) (sym last) (final round)

        includes : st.participation.stage ≡ Includes → Halts (b.applies c block st) h
        includes is = subst (λ (stage : Stage). Halts (b.applies_in c block st stage) h) (sym is) (of_round st.participation.round)

        module _ (stage : (st.participation.stage ≡ Follows) ⊎ (st.participation.stage ≡ Includes)) where
          applies : Halts (b.applies c block st) h
          applies = elim stage [ inl is ↦ follows is | inr is ↦ includes is ]

          over_tip : (tip : Option Tip) → Halts (b.over_tip_in c block st tip) h
          over_tip None = halts_if (b.is_in_window c block st) (b.applies c block st) (Stops (fault.OutOfWindow block.height)) h (λ e. applies) (λ e. tt)
          over_tip (Some t) =
              let low_one : Course Dir Fault (Live Dir) = if nat_le block.height t.height then Goes st else b.applies c block st in
              let child : Course Dir Fault (Live Dir) = if (block.height == t.height + 1) && not (bytes_eq block.parent t.digest) then Stops (fault.DetachedBlock block.height) else low_one in
              let next : Course Dir Fault (Live Dir) = if nat_lt (t.height + 1) block.height then Stops (fault.SkippedHeight (t.height + 1) block.height) else child in
              halts_if ((block.height == t.height) && not (bytes_eq block.digest t.digest)) (Stops (fault.ConflictingBlock block.height)) next h (λ e. tt)
              (λ e. halts_if (nat_lt (t.height + 1) block.height) (Stops (fault.SkippedHeight (t.height + 1) block.height)) child h (λ e. tt)
              (λ e. halts_if ((block.height == t.height + 1) && not (bytes_eq block.parent t.digest)) (Stops (fault.DetachedBlock block.height)) low_one h (λ e. tt)
              (λ e. halts_if (nat_le block.height t.height) (Goes st) (b.applies c block st) h (λ e. tt) (λ e. applies))))

          in_reach : Halts (if s.is_past_range c block.height then Stops fault.HeightRange else b.over_tip c block st) h
          in_reach = halts_if (s.is_past_range c block.height) (Stops fault.HeightRange) (b.over_tip c block st) h (λ e. tt) (λ e. over_tip st.tip)

          delivers : (stage : Stage) → Halts (b.delivers_in c block st stage) h
          delivers Deals = in_reach
          delivers Includes = in_reach
          delivers Follows = in_reach
          delivers Ends = tt

          pub block_halts : Halts (b.delivers c block st) h
          block_halts = delivers st.participation.stage
