-- Where a fault of a run blames what is recorded, the devices that the call leaves show it.
use Rattle.std.proofs.Common.{◌≡◌, ◌⊎◌, inl, inr, ℕ, suc, ◌+◌, ◌++◌, true, false, List, [], ◌∷◌, drop, Option, Some, None, Result, Ok, Err, refl, sym, ◌∙◌, ap, subst, add-one}
use Rattle.std.specs.Prelude.{IfErr, IsSomeAnd, slice_get}
use Rattle.std.specs.FinMap as maps
use Rattle.std.specs.List.{AllByRecursion}
use Rattle.dkg_journal.specs.Burn.{Burn}
use Rattle.dkg_journal.specs.Names.{Files}
use Rattle.dkg_journal.specs.Operations.{Journaled}
use Rattle.dkg_journal.specs.Records.{SectionEntry as Noted}
use Rattle.dkg_journal.proofs.Order.{Above}
use Rattle.dkg_secrets.specs.Secrets.{Secrets}
use Rattle.dkg_infos.specs.declared.directory.Unit as directory
use Rattle.dkg_infos.specs.declared.entry.Entry.{Entry}
use Rattle.dkg_infos.specs.declared.entry.Entry.TheVariants as entry
use Rattle.dkg_infos.specs.declared.fault.Fault.{Fault}
use Rattle.dkg_infos.specs.declared.fault.Fault.TheVariants as fault
use Rattle.dkg_infos.specs.declared.fault.LocalCause.TheVariants as local
use Rattle.dkg_text.specs.declared.script.Cut as cut
use Rattle.dkg_text.specs.declared.script.Event.{Event}
use Rattle.dkg_text.specs.declared.script.Life.{Life}
use Rattle.dkg_text.specs.declared.script.Script.{Script}
use Rattle.dkg_script.specs.Ends.{EndsInFault, EndsWell}
use Rattle.dkg_script.specs.Inclusion.{IsFormOfInclusion}
use Rattle.dkg_script.specs.Setting.{recovered_from}
use Rattle.dkg_store.specs.Acts.{Cause, Ended, Held, World, at, broken, moment, notes, stopped, went}
use Rattle.dkg_core.specs.Courses.{Course, EndsSo}
use Rattle.dkg_core.specs.Heard.{recovered_in}
use Rattle.dkg_core.specs.Live.{Faulted, Live, NodeStop}
use Rattle.dkg_core.specs.Node.{node_opening}
use Rattle.dkg_core.specs.Splitting.{fault_named}
use Rattle.dkg_life.specs.Ends.{by_fault}
use Rattle.dkg_life.specs.declared.stop.Stop.{Stop}
use Rattle.dkg_life.specs.declared.stop.Stop.TheVariants.{Cut, Failed, Fault as FaultOf}
use Rattle.dkg_lives.specs.Blamed.{IsFromOutside}
use Rattle.dkg_lives.specs.Causes.{IfFault}
use Rattle.dkg_lives.specs.Ended.{by_node_stop}
use Rattle.dkg_script.specs.Ends.{EndsFaulted, EndsRun}
use Rattle.dkg_lives.specs.Epochs.{IsAtEvent, IsChecked, IsLifeInForm}
use Rattle.dkg_promises.specs.Found.{EachFault, OfFault, ShowsCause}
use Rattle.dkg_lives.specs.Given.{AreBytes, Lived, at_step, lived, step_of}
use Rattle.dkg_lives.specs.Lives.{AnyFiles, EndsLife, LivesFrom, LivesSo, RunsAllSo, RunsOver, RunsSo, Steps, TakesAll, TellsEnd, fuse_for, never}
use Rattle.dkg_lives.specs.Ways.{by_worlds}
use Rattle.dkg_lives.proofs.Awaiting.{IsBefore, IsReached, before_all, reached_lit}
use Rattle.dkg_promises.proofs.BegunRounds.{HasDrawn, opening_deals, step_deals}
use Rattle.dkg_lives.proofs.Checked.{life_in_form}
use Rattle.dkg_along.proofs.Drawn.{all_join}
use Rattle.dkg_along.proofs.FewPlayers.{HasFew, begun_few, next_few}
use Rattle.dkg_along.proofs.Following.{item_at, rest_at}
use Rattle.dkg_promises.proofs.FoundSteps.{ShowsIn, opening_knows, opening_shows, step_knows, step_shows}
use Rattle.dkg_lives.proofs.Knowing.{Knows}
use Rattle.dkg_lives.proofs.LaterRecords.{entries_above}
use Rattle.dkg_lives.proofs.LivesStand.{before_suc, live_here, opened_at, stepped_at, worlds_lead}
use Rattle.dkg_promises.proofs.StoredDealers.{DealsStored}
use Rattle.dkg_lives.proofs.PlanlessReads.{planless, planless_records}

-- a fault that doesn't come from outside is the course's own
outside_or_own : {S : Type 0} (its : Fault) → IsFromOutside its ⊎ (fault_named {S = S} Faulted (by_fault its) ≡ stopped (Faulted its))
outside_or_own fault.NoMemory = inl tt
outside_or_own fault.Disk = inl tt
outside_or_own fault.Secrets = inl tt
outside_or_own (fault.Corrupt name place) = inl tt
outside_or_own its = inr refl

module _ (script : Script) where
  -- what these devices show
  abbrev Shows : Held → Fault → Type 0
  Shows h its = ShowsIn script (recovered_in h) h.secrets its

  outside_shows : (h : Held) (its : Fault) → IsFromOutside its → Shows h its
  outside_shows h fault.NoMemory is = tt
  outside_shows h fault.Disk is = tt
  outside_shows h fault.Secrets is = tt
  outside_shows h (fault.Corrupt name place) is = tt
  outside_shows h its is = absurd is

  abbrev ShowsStop : Result (Unit {0}) Stop → Held → Type 0
  ShowsStop how h = IfErr how (λ stop. IfFault stop (Shows h))

  -- A STEP
  module _ (course : Course directory.Unit NodeStop (Live directory.Unit)) where
    stop_shows : (w new : World) → ((own : Fault) → EndsSo course (stopped (Faulted own)) w new → Shows new.held own) → (stop : Stop) → EndsSo course (by_node_stop stop) w new → IfFault stop (Shows new.held)
    stop_shows w new shows Cut run = tt
    stop_shows w new shows Failed run = tt
    stop_shows w new shows (FaultOf its) run = by_kind (outside_or_own its)
      where
        by_kind : IsFromOutside its ⊎ (by_node_stop {S = Live directory.Unit} (FaultOf its) ≡ stopped (Faulted its)) → Shows new.held its
        by_kind (inl out) = outside_shows new.held its out
        by_kind (inr own) = shows its (subst (λ (ended : Ended NodeStop (Live directory.Unit)). EndsSo course ended w new) own run)

    steps_show : (line : Entry) (fuse : Option Burn) (w new : World) (how : Result (Unit {0}) Stop) (next : Live directory.Unit → World → Type 0)
        → ((f : Burn) → fuse ≡ Some f → (own : Fault) → EndsSo course (stopped (Faulted own)) (record w { fuse = f }) new → Shows new.held own)
        → ((f : Burn) → fuse ≡ Some f → (end : Live directory.Unit) (mid : World) → by_worlds.goes course (went end) f w mid → next end (by_worlds.says mid line) → ShowsStop how new.held)
        → Steps by_worlds line fuse course w how new next → ShowsStop how new.held
    steps_show line None w new how next shows then steps = subst (λ (r : Result (Unit {0}) Stop). ShowsStop r new.held) (sym steps.0) tt
    steps_show line (Some f) w new how next shows then (inl wants) = subst (λ (r : Result (Unit {0}) Stop). ShowsStop r new.held) (sym wants.0) tt
    steps_show line (Some f) w new how next shows then (inr (inl (stop, is, goes))) =
        subst (λ (r : Result (Unit {0}) Stop). ShowsStop r new.held) (sym is) (stop_shows (record w { fuse = f }) new (shows f refl) stop goes.0)
    steps_show line (Some f) w new how next shows then (inr (inr (end, mid, goes, inl wants))) = subst (λ (r : Result (Unit {0}) Stop). ShowsStop r new.held) (sym wants.0) tt
    steps_show line (Some f) w new how next shows then (inr (inr (end, mid, goes, inr more))) = then f refl end mid goes more

-- A LIFE

module _ (g : Lived) (here : IsLifeInForm g) (bytes : AreBytes g.script.blocks) where
  -- where a step begins
  record Stands (i : ℕ) (st : Live directory.Unit) (h : Held) : Type 0 where
    at : IsAtEvent g i st
    in_bound : HasFew st
    knows : Knows st.records h
    drawn : HasDrawn g.script st
    deals : DealsStored g.script.config.me st h

  step_stands : (i : ℕ) (its : Event) (is : slice_get g.life.events i ≡ Some its) (reached : IsReached g.life.cut (suc i)) (st end : Live directory.Unit) (w new : World) → Stands i st w.held → (f : Burn)
      → by_worlds.goes (step_of g (suc i) its st) (went end) f w new → Stands (suc i) end new.held
  step_stands i its is reached st end w new stands f goes =
      let led = stepped_at by_worlds worlds_lead g here i its is st stands.at reached end f w new goes in
      let dealt = step_deals g here i its is reached st stands.at end (record w { fuse = f }) new goes.0 stands.drawn stands.deals in
      record {
        at = led.1;
        in_bound = next_few g here (suc i) st end _ (led.0).0 (led.0).1 (live_here by_worlds worlds_lead g here i its is st stands.at) (led.0).2 stands.in_bound;
        knows = step_knows g here bytes i its is reached st stands.at stands.in_bound (record w { fuse = f }) new stands.knows stands.drawn stands.deals end goes.0;
        drawn = dealt.0;
        deals = dealt.1;
      }

  takes_show : (events : List Event) (i : ℕ) → events ≡ drop i g.life.events → IsBefore g.life.cut (suc i) → (st : Live directory.Unit) (w new : World) (how : Result (Unit {0}) Stop) → Stands i st w.held
      → TakesAll by_worlds g (suc i) events st w how new → ShowsStop g.script how new.held
  takes_show [] i rest before st w new how stands takes = subst (λ (r : Result (Unit {0}) Stop). ShowsStop g.script r new.held) (sym takes.0) tt
  takes_show (its ∷ events) i rest before st w new how stands takes =
      steps_show g.script (step_of g (suc i) its st) (entry.Step (suc i)) (fuse_for g.life.cut (suc i)) w new how (λ end mid. TakesAll by_worlds g (suc i + 1) events end mid how new)
      (λ f lit own run. step_shows g here bytes i its is (reached_lit g.life.cut (suc i) f lit before) st stands.at stands.in_bound (record w { fuse = f }) new stands.knows stands.drawn stands.deals own run)
      (λ f lit end mid goes more. takes_show events (suc i) (rest_at g.life.events i its events rest) (before_suc g.life.cut (suc i) (reached_lit g.life.cut (suc i) f lit before)) end (by_worlds.says mid (entry.Step (suc i))) new how
      (step_stands i its is (reached_lit g.life.cut (suc i) f lit before) st end w mid stands f goes)
      (subst (λ (j : ℕ). TakesAll by_worlds g j events end (by_worlds.says mid (entry.Step (suc i))) how new) (add-one (suc i)) more)) takes
    where
      is : slice_get g.life.events i ≡ Some its
      is = item_at g.life.events i its events rest

  -- .. over a journal whose sections rise
  module _ (reads : (h : Held) → (g.seen h).dealings ≡ maps.entries (recovered_in h)) (w : World) (rising : Above 0 (notes w.held)) where
    opening_stands : (st : Live directory.Unit) (mid : World) (f : Burn) → by_worlds.goes (node_opening (at_step g 0)) (went st) f w mid → Stands 0 st mid.held
    opening_stands st mid f goes =
        let led = opened_at by_worlds worlds_lead g here st f w mid goes in
        let dealt = opening_deals g here st (record w { fuse = f }) mid goes.0 in
        record { at = led.3; in_bound = begun_few g here led.0 led.1 st led.2; knows = opening_knows g here bytes reads (record w { fuse = f }) mid rising st goes.0; drawn = dealt.0; deals = dealt.1 }

    life_shows : (files : Files) (new : World) (how : Result (Unit {0}) Stop) → LivesSo by_worlds g files w how new → ShowsStop g.script how new.held
    life_shows files new how (inl steps) =
        steps_show g.script (node_opening (at_step g 0)) (entry.Step 0) (fuse_for g.life.cut 0) w new how (λ end mid. TakesAll by_worlds g 1 g.life.events end mid how new)
        (λ f lit own run. opening_shows g here bytes reads (record w { fuse = f }) new own run)
        (λ f lit end mid goes more. takes_show g.life.events 0 refl (before_suc g.life.cut 0 (reached_lit g.life.cut 0 f lit (before_all g.life.cut))) end (by_worlds.says mid (entry.Step 0)) new how (opening_stands end mid f goes) more) steps
    life_shows files new how (inr (out, (stop, is, its))) = subst (λ (r : Result (Unit {0}) Stop). ShowsStop g.script r new.held) (sym is) (by_stop stop its.0.by)
      where
        by_stop : (stop : Stop) {cause : Cause} → by_node_stop {S = Live directory.Unit} stop ≡ broken cause → IfFault stop (Shows g.script new.held)
        by_stop Cut by = tt
        by_stop Failed by = tt
        by_stop (FaultOf its) {cause} by = by_kind (outside_or_own its)
          where
            by_kind : IsFromOutside its ⊎ (by_node_stop {S = Live directory.Unit} (FaultOf its) ≡ stopped (Faulted its)) → Shows g.script new.held its
            by_kind (inl out) = outside_shows g.script new.held its out
            by_kind (inr own) = absurd (let no : ◌≡◌ {A = Ended NodeStop (Live directory.Unit)} (stopped (Faulted its)) (broken cause) = sym own ∙ by in cc)

-- ALL LIVES

module _ (script : Script) (form : IsFormOfInclusion script) (bytes : AreBytes script.blocks) (checked : IsChecked script) where
  abbrev ShowsEnd : Result (Unit {0}) Fault → Held → Type 0
  ShowsEnd result h = IfErr result (Shows script h)

  ends_show : (life : Life) (how : Result (Unit {0}) Stop) (mid new : World) (result : Result (Unit {0}) Fault) (next : World → Type 0) → ShowsStop script how mid.held → ((w : World) → next w → ShowsEnd result new.held)
      → EndsLife by_worlds life how mid result new next → ShowsEnd result new.held
  ends_show life (Ok done) mid new result next here then ends = then mid ends
  ends_show life (Err Cut) mid new result next here then ends = by_cut life.cut ends
    where
      by_cut : (o : Option cut.Cut) → IsSomeAnd o (λ c. ((result ≡ Err fault.NoMemory) × (new ≡ mid)) ⊎ next (by_worlds.says mid (entry.Cut c.step c.call))) → ShowsEnd result new.held
      by_cut None ends = absurd ends
      by_cut (Some c) (inl wants) = subst (λ (r : Result (Unit {0}) Fault). ShowsEnd r new.held) (sym wants.0) tt
      by_cut (Some c) (inr more) = then (by_worlds.says mid (entry.Cut c.step c.call)) more
  ends_show life (Err (FaultOf its)) mid new result next here then ends =
      subst (λ (r : Result (Unit {0}) Fault). ShowsEnd r new.held) (sym ends.0) (subst (λ (x : World). Shows script x.held its) (sym ends.1) here)
  ends_show life (Err Failed) mid new result next here then ends = absurd ends

  from_shows : (first : Files → Type 0) (l : ℕ) (rest : List Life) → rest ≡ drop l script.lives → (w new : World) (result : Result (Unit {0}) Fault) → LivesFrom by_worlds script first l rest w result new → ShowsEnd result new.held
  from_shows first l [] is w new result run = subst (λ (r : Result (Unit {0}) Fault). ShowsEnd r new.held) (sym run.0) tt
  from_shows first l (life ∷ rest) is w new result (seen, files, how, mid, reads, known, begins, so, ends) =
      ends_show life how mid new result (λ w. LivesFrom by_worlds script AnyFiles (l + 1) rest w result new)
      (life_shows (lived script l life seen files) (life_in_form script l life seen files form checked (item_at script.lives l life rest is) (planless seen reads)) bytes (planless_records seen reads).dealings w
      (subst (λ (es : List Noted). Above 0 es) (ap (λ (j : Journaled). j.entries) begins) (entries_above files)) files mid how so)
      (λ w more. from_shows AnyFiles (l + 1) rest (subst (λ (k : ℕ). rest ≡ drop k script.lives) (sym (add-one l)) (rest_at script.lives l life rest is)) w new result more)
      ends

  all_show : (first : Files → Type 0) (w new : World) (result : Result (Unit {0}) Fault) → RunsAllSo by_worlds script first w result new → ShowsEnd result new.held
  all_show first w new result (inl refused) = absurd (none_some (sym checked ∙ refused.1))
    where
      none_some : {x : Fault} → ◌≡◌ {A = Option Fault} None (Some x) → ⊥
      none_some e = cc
  all_show first w new result (inr (so, inl wants)) = subst (λ (r : Result (Unit {0}) Fault). ShowsEnd r new.held) (sym wants.0) tt
  all_show first w new result (inr (so, inr run)) = from_shows first 0 script.lives refl w new result run

  -- THE RUN
  run_shows : (first : Files → Type 0) (w new : World) (answered : Result (Unit {0}) Fault) → RunsSo by_worlds script first w answered new → ShowsEnd answered new.held
  run_shows first w new answered run = by_told run.result run.told (all_show first w run.mid run.result run.lives)
    where
      by_told : (result : Result (Unit {0}) Fault) → TellsEnd by_worlds result answered run.mid new → ShowsEnd result run.mid.held → ShowsEnd answered new.held
      by_told (Ok done) told here = subst (λ (r : Result (Unit {0}) Fault). ShowsEnd r new.held) (sym told.0) tt
      by_told (Err its) (inl wants) here = subst (λ (r : Result (Unit {0}) Fault). ShowsEnd r new.held) (sym wants.0) tt
      by_told (Err its) (inr told) here = subst (λ (r : Result (Unit {0}) Fault). ShowsEnd r new.held) (sym told.0) (subst (λ (x : World). Shows script x.held its) (sym told.2) here)

  -- THE CLAUSE: each fault that its entries tell is the one that ended it

  shows_cause : (files : Files) (held : Secrets) (its : Fault) → ShowsIn script (recovered_from files held) held its → ShowsCause script files held its
  shows_cause files held (fault.LocalState (local.ShareRefused epoch)) so = so
  shows_cause files held (fault.LocalState (local.StoredDealing epoch dealer)) so = so
  shows_cause files held (fault.LocalState (local.OwnDealing epoch kept dealt)) so = so
  shows_cause files held its so = tt

  module _ (P : Fault → Type 0) where
    none_told : (es : List Entry) → EndsWell es → AllByRecursion (OfFault P) es
    none_told [] well = tt
    none_told (entry.Fault its ∷ es) well = absurd (let wrong : true ≡ false = well in cc)
    none_told (one ∷ es) well = (tt, none_told es well)

    last_told : (its : Fault) (es : List Entry) → EndsInFault es its → P its → AllByRecursion (OfFault P) es
    last_told its es ends so = subst (AllByRecursion (OfFault P)) (sym ends.last) (all_join (OfFault P) ends.before (entry.Fault its ∷ []) (none_told ends.before ends.only) (so, tt))

    ended_told : (its : Fault) (es : List Entry) (disk_rose secrets_rose : Type 0) → EndsFaulted its es disk_rose secrets_rose → P its → AllByRecursion (OfFault P) es
    ended_told fault.NoMemory es disk_rose secrets_rose ends so = none_told es ends
    ended_told its es disk_rose secrets_rose ends so = last_told its es ends.0 so

    all_told : (answered : Result (Unit {0}) Fault) (es : List Entry) (disk_rose secrets_rose : Type 0) → EndsRun answered es disk_rose secrets_rose → IfErr answered P → AllByRecursion (OfFault P) es
    all_told (Ok done) es disk_rose secrets_rose ends so = none_told es ends
    all_told (Err its) es disk_rose secrets_rose ends so = ended_told its es disk_rose secrets_rose ends so

  if_err : (answered : Result (Unit {0}) Fault) (P Q : Fault → Type 0) → ((its : Fault) → P its → Q its) → IfErr answered P → IfErr answered Q
  if_err (Ok done) P Q so is = tt
  if_err (Err its) P Q so is = so its is

  -- (`c` is what a read gives of the devices as the call leaves them.)
  pub run_found : (answered : Result (Unit {0}) Fault) (files c : Files) (held held_now : Secrets) (out new added : List Entry) (disk_rose secrets_rose : Type 0) → new ≡ out ++ added → EndsRun answered added disk_rose secrets_rose
      → RunsOver script answered files (at (moment out held never) files) (λ f. at (moment new held_now f) c) → EachFault (ShowsCause script c held_now) added
  run_found answered files c held held_now out new added disk_rose secrets_rose is ends run = record {
    each = all_told (ShowsCause script c held_now) answered added disk_rose secrets_rose ends
        (if_err answered (ShowsIn script (recovered_from c held_now) held_now) (ShowsCause script c held_now) (shows_cause c held_now) (run_shows (λ its. its ≡ files) (at (moment out held never) files) (at (moment new held_now run.fuse) c) answered run.so));
  }
