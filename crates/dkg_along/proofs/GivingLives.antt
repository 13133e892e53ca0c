-- What holds of the devices from step to step and from life to life over many epochs, over worlds; and a run leaves the plan as it was.
use Rattle.std.proofs.Common.{◌≡◌, ◌⊎◌, inl, inr, ℕ, zero, suc, ◌+◌, ◌<◌, List, [], ◌∷◌, drop, Option, Some, None, Result, Ok, Err, refl, sym, ◌∙◌, ap, subst, arith, add-one}
use Rattle.std.specs.Prelude.{IsSomeAnd, slice_get}
use Rattle.dkg_journal.specs.Burn.{Burn}
use Rattle.dkg_journal.specs.Names.{Files}
use Rattle.dkg_infos.specs.declared.directory.Unit as directory
use Rattle.dkg_infos.specs.declared.entry.Entry.{Entry}
use Rattle.dkg_infos.specs.declared.entry.Entry.TheVariants as entry
use Rattle.dkg_infos.specs.declared.fault.Fault.{Fault}
use Rattle.dkg_infos.specs.declared.fault.Fault.TheVariants as fault
use Rattle.dkg_text.specs.declared.script.Cut as cut
use Rattle.dkg_text.specs.declared.script.Event.{Event}
use Rattle.dkg_text.specs.declared.script.Life.{Life}
use Rattle.dkg_text.specs.declared.script.Script.{Script}
use Rattle.dkg_store.specs.Acts.{Ended, Held, World, broken, plan, stopped, went}
use Rattle.dkg_core.specs.Courses.{Course, EndsSo}
use Rattle.dkg_core.specs.Live.{Live, NodeStop}
use Rattle.dkg_core.specs.Node.{node_opening}
use Rattle.dkg_core.specs.Seen.{Seen}
use Rattle.dkg_laws.proofs.BlocksKept.{node_steps_keep_plans}
use Rattle.dkg_laws.proofs.Spared.{node_openings_keep_plans}
use Rattle.dkg_life.specs.declared.stop.Stop.{Stop}
use Rattle.dkg_life.specs.declared.stop.Stop.TheVariants.{Cut, Failed, Fault as FaultOf}
use Rattle.dkg_lives.specs.Epochs.{IsLifeInForm}
use Rattle.dkg_lives.specs.Given.{Lived, at_step, lived, step_of}
use Rattle.dkg_lives.specs.Lives.{AnyFiles, EndsLife, LivesFrom, LivesSo, RunsAllSo, RunsSo, Steps, TakesAll, TellsEnd, fuse_for}
use Rattle.dkg_lives.specs.Ways.{by_worlds}
use Rattle.dkg_lives.proofs.Awaiting.{IsBefore, IsReached, before_all, reached_lit}
use Rattle.dkg_lives.proofs.Former.{IsMessage, event_in_form, form_at, message_in}

pub rest_at : {A : Type 0} (all : List A) (i : ℕ) (its : A) (more : List A) → its ∷ more ≡ drop i all → more ≡ drop (suc i) all
rest_at [] zero its more is = absurd (let wrong : its ∷ more ≡ [] = is in cc)
rest_at [] (suc i) its more is = absurd (let wrong : its ∷ more ≡ [] = is in cc)
rest_at (x ∷ all) zero its more is = let so : its ∷ more ≡ x ∷ all = is in cc
rest_at (x ∷ all) (suc i) its more is = rest_at all i its more is

pub item_at : {A : Type 0} (all : List A) (i : ℕ) (its : A) (more : List A) → its ∷ more ≡ drop i all → slice_get all i ≡ Some its
item_at [] zero its more is = absurd (let wrong : its ∷ more ≡ [] = is in cc)
item_at [] (suc i) its more is = absurd (let wrong : its ∷ more ≡ [] = is in cc)
item_at (x ∷ all) zero its more is = let so : its ∷ more ≡ x ∷ all = is in cc
item_at (x ∷ all) (suc i) its more is = item_at all i its more is

pub before_suc : (its : Option cut.Cut) (j : ℕ) → IsReached its j → IsBefore its (suc j)
before_suc None j reached = tt
before_suc (Some its) j reached = λ none. let low : j < its.step = reached none in omega (arith, low)

-- A STEP

-- At its end the life and the devices are so; and wherever else it ends the devices are.
abbrev pub LeavesSo : (P : Held → Type 0) (Here : Live directory.Unit → Held → Type 0) → Ended NodeStop (Live directory.Unit) → Held → Type 0
LeavesSo P Here (went end) h = Here end h
LeavesSo P Here (stopped stop) h = P h
LeavesSo P Here (broken cause) h = P h

-- .. wherever a course ends that began over this
abbrev pub KeepsSo : (P : Held → Type 0) (Here : Live directory.Unit → Held → Type 0) → Course directory.Unit NodeStop (Live directory.Unit) → Held → Type 0
KeepsSo P Here course h = (ended : Ended NodeStop (Live directory.Unit)) (w new : World) → w.held ≡ h → EndsSo course ended w new → LeavesSo P Here ended new.held

module _ (P : Held → Type 0) (Here : ℕ → Live directory.Unit → Held → Type 0) (so : (j : ℕ) (st : Live directory.Unit) (h : Held) → Here j st h → P h) where
  left : (j : ℕ) (ended : Ended NodeStop (Live directory.Unit)) (h : Held) → LeavesSo P (Here j) ended h → P h
  left j (went end) h its = so j end h its
  left j (stopped stop) h its = its
  left j (broken cause) h its = its

  step_holds : (j : ℕ) (line : Entry) (fuse : Option Burn) (course : Course directory.Unit NodeStop (Live directory.Unit)) (w new : World) (how : Result (Unit {0}) Stop) (next : Live directory.Unit → World → Type 0)
      → P w.held → ((f : Burn) → fuse ≡ Some f → KeepsSo P (Here j) course w.held) → ((f : Burn) → fuse ≡ Some f → (end : Live directory.Unit) (mid : World) → Here j end mid.held → next end mid → P new.held)
      → Steps by_worlds line fuse course w how new next → P new.held
  step_holds j line None course w new how next here keeps then steps = subst (λ (x : World). P x.held) (sym steps.1) here
  step_holds j line (Some f) course w new how next here keeps then (inl wants) = subst (λ (x : World). P x.held) (sym wants.1) here
  step_holds j line (Some f) course w new how next here keeps then (inr (inl (stop, is, goes))) = left j _ new.held (keeps f refl _ (record w { fuse = f }) new refl goes.0)
  step_holds j line (Some f) course w new how next here keeps then (inr (inr (end, mid, goes, inl wants))) =
      subst (λ (x : World). P x.held) (sym wants.1) (so j end mid.held (keeps f refl (went end) (record w { fuse = f }) mid refl goes.0))
  step_holds j line (Some f) course w new how next here keeps then (inr (inr (end, mid, goes, inr more))) =
      then f refl end (by_worlds.says mid line) (keeps f refl (went end) (record w { fuse = f }) mid refl goes.0) more

  -- A LIFE'S EVENTS
  module _ (g : Lived)
      (step : (i : ℕ) (its : Event) (st : Live directory.Unit) (h : Held) → slice_get g.life.events i ≡ Some its → IsReached g.life.cut (suc i) → Here i st h → KeepsSo P (Here (suc i)) (step_of g (suc i) its st) h) where
    pub takes_hold : (events : List Event) (i : ℕ) → events ≡ drop i g.life.events → IsBefore g.life.cut (suc i) → (st : Live directory.Unit) (w new : World) (how : Result (Unit {0}) Stop) → Here i st w.held
        → TakesAll by_worlds g (suc i) events st w how new → P new.held
    takes_hold [] i rest before st w new how here takes = subst (λ (x : World). P x.held) (sym takes.1) (so i st w.held here)
    takes_hold (its ∷ events) i rest before st w new how here takes =
        step_holds (suc i) (entry.Step (suc i)) (fuse_for g.life.cut (suc i)) (step_of g (suc i) its st) w new how (λ end mid. TakesAll by_worlds g (suc i + 1) events end mid how new) (so i st w.held here)
        (λ f lit. step i its st w.held (item_at g.life.events i its events rest) (reached_lit g.life.cut (suc i) f lit before) here)
        (λ f lit end mid here more. takes_hold events (suc i) (rest_at g.life.events i its events rest) (before_suc g.life.cut (suc i) (reached_lit g.life.cut (suc i) f lit before)) end mid new how here
        (subst (λ (j : ℕ). TakesAll by_worlds g j events end mid how new) (add-one (suc i)) more)) takes

    pub life_holds : (files : Files) (w new : World) (how : Result (Unit {0}) Stop) → P w.held → KeepsSo P (Here 0) (node_opening (at_step g 0)) w.held
        → ((stop : Stop) (new : World) → by_worlds.refuses stop w new → P new.held) → LivesSo by_worlds g files w how new → P new.held
    life_holds files w new how here opens refused (inl steps) =
        step_holds 0 (entry.Step 0) (fuse_for g.life.cut 0) (node_opening (at_step g 0)) w new how (λ end mid. TakesAll by_worlds g 1 g.life.events end mid how new) here (λ f lit. opens)
        (λ f lit end mid here more. takes_hold g.life.events 0 refl (before_suc g.life.cut 0 (reached_lit g.life.cut 0 f lit (before_all g.life.cut))) end mid new how here more) steps
    life_holds files w new how here opens refused (inr (out, (stop, is, its))) = refused stop new its

-- ALL LIVES

module _ (P : Held → Type 0) (script : Script) (over : (l : ℕ) (life : Life) (seen : Held → Seen) (files : Files) → slice_get script.lives l ≡ Some life → by_worlds.reads seen → IsLifeInForm (lived script l life seen files))
    (lives : (l : ℕ) (life : Life) (seen : Held → Seen) (files : Files) → slice_get script.lives l ≡ Some life → by_worlds.reads seen → IsLifeInForm (lived script l life seen files) → (w new : World) (how : Result (Unit {0}) Stop) → P w.held
    → LivesSo by_worlds (lived script l life seen files) files w how new → P new.held) where
  ends_hold : (life : Life) (how : Result (Unit {0}) Stop) (mid new : World) (result : Result (Unit {0}) Fault) (next : World → Type 0) → P mid.held → ((w : World) → P w.held → next w → P new.held)
      → EndsLife by_worlds life how mid result new next → P new.held
  ends_hold life (Ok done) mid new result next here then ends = then mid here ends
  ends_hold life (Err Cut) mid new result next here then ends = by_cut life.cut ends
    where
      by_cut : (o : Option cut.Cut) → IsSomeAnd o (λ c. ((result ≡ Err fault.NoMemory) × (new ≡ mid)) ⊎ next (by_worlds.says mid (entry.Cut c.step c.call))) → P new.held
      by_cut None ends = absurd ends
      by_cut (Some c) (inl wants) = subst (λ (x : World). P x.held) (sym wants.1) here
      by_cut (Some c) (inr more) = then (by_worlds.says mid (entry.Cut c.step c.call)) here more
  ends_hold life (Err (FaultOf its)) mid new result next here then ends = subst (λ (x : World). P x.held) (sym ends.1) here
  ends_hold life (Err Failed) mid new result next here then ends = absurd ends

  from_holds : (first : Files → Type 0) (l : ℕ) (rest : List Life) → rest ≡ drop l script.lives → (w new : World) (result : Result (Unit {0}) Fault) → P w.held → LivesFrom by_worlds script first l rest w result new → P new.held
  from_holds first l [] is w new result here run = subst (λ (x : World). P x.held) (sym run.1) here
  from_holds first l (life ∷ rest) is w new result here (seen, files, how, mid, reads, known, begins, so, ends) =
      let there : slice_get script.lives l ≡ Some life = item_at script.lives l life rest is in
      ends_hold life how mid new result (λ w. LivesFrom by_worlds script AnyFiles (l + 1) rest w result new)
      (lives l life seen files there reads (over l life seen files there reads) w mid how here so)
      (λ w here more. from_holds AnyFiles (l + 1) rest (subst (λ (k : ℕ). rest ≡ drop k script.lives) (sym (add-one l)) (rest_at script.lives l life rest is)) w new result here more)
      ends

  pub all_hold : (first : Files → Type 0) (w new : World) (result : Result (Unit {0}) Fault) → P w.held → RunsAllSo by_worlds script first w result new → P new.held
  all_hold first w new result here (inl (fault, refused, is, same)) = subst (λ (x : World). P x.held) (sym same) here
  all_hold first w new result here (inr (checked, inl wants)) = subst (λ (x : World). P x.held) (sym wants.1) here
  all_hold first w new result here (inr (checked, inr run)) = from_holds first 0 script.lives refl w new result here run

  -- THE RUN
  pub run_holds : (first : Files → Type 0) (w new : World) (answered : Result (Unit {0}) Fault) → P w.held → RunsSo by_worlds script first w answered new → P new.held
  run_holds first w new answered here run = by_told run.result run.told (all_hold first w run.mid run.result here run.lives)
    where
      by_told : (result : Result (Unit {0}) Fault) → TellsEnd by_worlds result answered run.mid new → P run.mid.held → P new.held
      by_told (Ok done) told here = subst (λ (x : World). P x.held) (sym told.1) here
      by_told (Err its) (inl wants) here = subst (λ (x : World). P x.held) (sym wants.1) here
      by_told (Err its) (inr told) here = subst (λ (x : World). P x.held) (sym told.2) here

-- THE PLAN is as it was

module _ (before : Option (List ℕ)) where
  abbrev SamePlan : Held → Type 0
  SamePlan h = plan h ≡ before

  leaves_plan : (ended : Ended NodeStop (Live directory.Unit)) (h : Held) → SamePlan h → LeavesSo SamePlan (λ st h. SamePlan h) ended h
  leaves_plan (went end) h same = same
  leaves_plan (stopped stop) h same = same
  leaves_plan (broken cause) h same = same

  life_keeps_plan : (script : Script) (l : ℕ) (life : Life) (seen : Held → Seen) (files : Files) → slice_get script.lives l ≡ Some life → by_worlds.reads seen → IsLifeInForm (lived script l life seen files) → (w new : World)
      (how : Result (Unit {0}) Stop) → SamePlan w.held → LivesSo by_worlds (lived script l life seen files) files w how new → SamePlan new.held
  life_keeps_plan script l life seen files there reads here w new how same lives =
      life_holds SamePlan (λ j st h. SamePlan h) (λ j st h its. its) g step files w new how same
      (λ ended old now at run. leaves_plan ended now.held (node_openings_keep_plans (at_step g 0) ended old now (form_at g here 0) run ∙ ap (λ (h : Held). plan h) at ∙ same))
      (λ stop now its. (its.2).plan ∙ same) lives
    where
      g : Lived
      g = lived script l life seen files

      step : (i : ℕ) (its : Event) (st : Live directory.Unit) (h : Held) → slice_get life.events i ≡ Some its → IsReached life.cut (suc i) → SamePlan h → KeepsSo SamePlan (λ st h. SamePlan h) (step_of g (suc i) its st) h
      step i its st h is reached same ended old now at run =
          let m : IsMessage g its = message_in g its (event_in_form g here i its is) in
          leaves_plan ended now.held
          (node_steps_keep_plans (at_step g (suc i)) st m.message ended old now (subst (λ (course : Course directory.Unit NodeStop (Live directory.Unit)). EndsSo course ended old now) (m.course (suc i) st) run)
          ∙ ap (λ (h : Held). plan h) at ∙ same)

pub run_keeps_plan : (script : Script) → ((l : ℕ) (life : Life) (seen : Held → Seen) (files : Files) → slice_get script.lives l ≡ Some life → by_worlds.reads seen → IsLifeInForm (lived script l life seen files)) → (first : Files → Type 0) (w new : World)
    (answered : Result (Unit {0}) Fault) → RunsSo by_worlds script first w answered new → plan new.held ≡ plan w.held
run_keeps_plan script over first w new answered run =
    run_holds (SamePlan (plan w.held)) script over (λ l life seen files there reads here old now how same lives. life_keeps_plan (plan w.held) script l life seen files there reads here old now how same lives) first w new answered refl run
