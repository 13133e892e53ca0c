-- What holds of the devices and of the entries from step to step and from life to life, over worlds.
use Rattle.std.proofs.Common.{◌≡◌, ◌⊎◌, inl, inr, ℕ, suc, ◌+◌, List, [], ◌∷◌, drop, Option, Some, None, Result, Ok, Err, refl, sym, subst, add-one}
use Rattle.std.specs.Prelude.{IsSomeAnd, slice_get}
use Rattle.dkg_journal.specs.Burn.{Burn}
use Rattle.dkg_journal.specs.Names.{Files}
use Rattle.dkg_infos.specs.declared.directory.Unit as directory
use Rattle.dkg_infos.specs.declared.entry.Entry.TheVariants as entry
use Rattle.dkg_infos.specs.declared.entry.Entry.{Entry}
use Rattle.dkg_infos.specs.declared.fault.Fault.TheVariants as fault
use Rattle.dkg_infos.specs.declared.fault.Fault.{Fault}
use Rattle.dkg_text.specs.declared.script.Cut as cut
use Rattle.dkg_text.specs.declared.script.Event.{Event}
use Rattle.dkg_text.specs.declared.script.Life.{Life}
use Rattle.dkg_text.specs.declared.script.Script.{Script}
use Rattle.dkg_store.specs.Acts.{Ended, Held, World, broken, says, stopped, went}
use Rattle.dkg_core.specs.Courses.{Course, EndsSo}
use Rattle.dkg_core.specs.Live.{Live, NodeStop}
use Rattle.dkg_core.specs.Node.{node_opening}
use Rattle.dkg_core.specs.Seen.{Seen}
use Rattle.dkg_life.specs.declared.stop.Stop.TheVariants.{Cut, Failed, Fault as FaultOf}
use Rattle.dkg_life.specs.declared.stop.Stop.{Stop}
use Rattle.dkg_lives.specs.Epochs.{IsLifeInForm}
use Rattle.dkg_lives.specs.Given.{Lived, at_step, lived, step_of}
use Rattle.dkg_lives.specs.Lives.{AnyFiles, EndsLife, LivesFrom, LivesSo, RunsAllSo, RunsSo, Steps, TakesAll, TellsEnd, fuse_for}
use Rattle.dkg_lives.specs.Ways.{by_worlds}
use Rattle.dkg_lives.proofs.Awaiting.{IsBefore, IsReached, before_all, reached_lit}
use Rattle.dkg_along.proofs.GivingLives.{before_suc, item_at, rest_at}

-- a line by which a step is counted, a life is cut, or a fault is told
abbrev pub IsCounted : Entry → Type 0
IsCounted (entry.Step step) = Unit {0}
IsCounted (entry.Cut step call) = Unit {0}
IsCounted (entry.Fault its) = Unit {0}
IsCounted line = ⊥

-- A STEP

-- At its end the life and the world are so; and wherever else it ends the world is.
abbrev pub Leaves : (P : World → Type 0) (Here : Live directory.Unit → World → Type 0) → Ended NodeStop (Live directory.Unit) → World → Type 0
Leaves P Here (went end) w = Here end w
Leaves P Here (stopped stop) w = P w
Leaves P Here (broken cause) w = P w

-- .. wherever a course ends that began here, with any fuse
abbrev pub Keeps : (P : World → Type 0) (Here : Live directory.Unit → World → Type 0) → Course directory.Unit NodeStop (Live directory.Unit) → World → Type 0
Keeps P Here course w = (f : Burn) (ended : Ended NodeStop (Live directory.Unit)) (new : World) → EndsSo course ended (record w { fuse = f }) new → Leaves P Here ended new

module _ (P : World → Type 0) (tells : (w : World) (line : Entry) → IsCounted line → P w → P (says w line)) where
  module _ (Here : ℕ → Live directory.Unit → World → Type 0) (so : (j : ℕ) (st : Live directory.Unit) (w : World) → Here j st w → P w)
      (told : (j : ℕ) (st : Live directory.Unit) (w : World) → Here j st w → Here j st (says w (entry.Step j))) where
    left : (j : ℕ) (ended : Ended NodeStop (Live directory.Unit)) (w : World) → Leaves P (Here j) ended w → P w
    left j (went end) w its = so j end w its
    left j (stopped stop) w its = its
    left j (broken cause) w its = its

    step_holds : (j : ℕ) (fuse : Option Burn) (course : Course directory.Unit NodeStop (Live directory.Unit)) (w new : World) (how : Result (Unit {0}) Stop) (next : Live directory.Unit → World → Type 0)
        → P w → ((f : Burn) → fuse ≡ Some f → Keeps P (Here j) course w) → ((f : Burn) → fuse ≡ Some f → (end : Live directory.Unit) (mid : World) → Here j end mid → next end mid → P new)
        → Steps by_worlds (entry.Step j) fuse course w how new next → P new
    step_holds j None course w new how next here keeps then steps = subst P (sym steps.1) here
    step_holds j (Some f) course w new how next here keeps then (inl wants) = subst P (sym wants.1) here
    step_holds j (Some f) course w new how next here keeps then (inr (inl (stop, is, goes))) = left j _ new (keeps f refl f _ new goes.0)
    step_holds j (Some f) course w new how next here keeps then (inr (inr (end, mid, goes, inl wants))) = subst P (sym wants.1) (so j end mid (keeps f refl f (went end) mid goes.0))
    step_holds j (Some f) course w new how next here keeps then (inr (inr (end, mid, goes, inr more))) =
        then f refl end (says mid (entry.Step j)) (told j end mid (keeps f refl f (went end) mid goes.0)) more

    -- A LIFE
    module _ (g : Lived) (step : (i : ℕ) (its : Event) (st : Live directory.Unit) (w : World) → slice_get g.life.events i ≡ Some its → IsReached g.life.cut (suc i) → Here i st w → Keeps P (Here (suc i)) (step_of g (suc i) its st) w) where
      takes_hold : (events : List Event) (i : ℕ) → events ≡ drop i g.life.events → IsBefore g.life.cut (suc i) → (st : Live directory.Unit) (w new : World) (how : Result (Unit {0}) Stop) → Here i st w
          → TakesAll by_worlds g (suc i) events st w how new → P new
      takes_hold [] i rest before st w new how here takes = subst P (sym takes.1) (so i st w here)
      takes_hold (its ∷ events) i rest before st w new how here takes =
          step_holds (suc i) (fuse_for g.life.cut (suc i)) (step_of g (suc i) its st) w new how (λ end mid. TakesAll by_worlds g (suc i + 1) events end mid how new) (so i st w here)
          (λ f lit. step i its st w (item_at g.life.events i its events rest) (reached_lit g.life.cut (suc i) f lit before) here)
          (λ f lit end mid here more. takes_hold events (suc i) (rest_at g.life.events i its events rest) (before_suc g.life.cut (suc i) (reached_lit g.life.cut (suc i) f lit before)) end mid new how here
          (subst (λ (j : ℕ). TakesAll by_worlds g j events end mid how new) (add-one (suc i)) more)) takes

      pub life_holds : (files : Files) (w new : World) (how : Result (Unit {0}) Stop) → P w → Keeps P (Here 0) (node_opening (at_step g 0)) w
          → ((stop : Stop) (new : World) → by_worlds.refuses stop w new → P new) → LivesSo by_worlds g files w how new → P new
      life_holds files w new how here opens refused (inl steps) =
          step_holds 0 (fuse_for g.life.cut 0) (node_opening (at_step g 0)) w new how (λ end mid. TakesAll by_worlds g 1 g.life.events end mid how new) here (λ f lit. opens)
          (λ f lit end mid here more. takes_hold g.life.events 0 refl (before_suc g.life.cut 0 (reached_lit g.life.cut 0 f lit (before_all g.life.cut))) end mid new how here more) steps
      life_holds files w new how here opens refused (inr (out, (stop, is, its))) = refused stop new its

  -- ALL LIVES

  module _ (script : Script) (over : (l : ℕ) (life : Life) (seen : Held → Seen) (files : Files) → slice_get script.lives l ≡ Some life → by_worlds.reads seen → IsLifeInForm (lived script l life seen files))
      (lives : (l : ℕ) (life : Life) (seen : Held → Seen) (files : Files) → slice_get script.lives l ≡ Some life → by_worlds.reads seen → IsLifeInForm (lived script l life seen files) → (w new : World) (how : Result (Unit {0}) Stop) → P w
      → LivesSo by_worlds (lived script l life seen files) files w how new → P new) where
    ends_hold : (life : Life) (how : Result (Unit {0}) Stop) (mid new : World) (result : Result (Unit {0}) Fault) (next : World → Type 0) → P mid → ((w : World) → P w → next w → P new)
        → EndsLife by_worlds life how mid result new next → P new
    ends_hold life (Ok done) mid new result next here then ends = then mid here ends
    ends_hold life (Err Cut) mid new result next here then ends = by_cut life.cut ends
      where
        by_cut : (o : Option cut.Cut) → IsSomeAnd o (λ c. ((result ≡ Err fault.NoMemory) × (new ≡ mid)) ⊎ next (by_worlds.says mid (entry.Cut c.step c.call))) → P new
        by_cut None ends = absurd ends
        by_cut (Some c) (inl wants) = subst P (sym wants.1) here
        by_cut (Some c) (inr more) = then (says mid (entry.Cut c.step c.call)) (tells mid (entry.Cut c.step c.call) tt here) more
    ends_hold life (Err (FaultOf its)) mid new result next here then ends = subst P (sym ends.1) here
    ends_hold life (Err Failed) mid new result next here then ends = absurd ends

    from_holds : (first : Files → Type 0) (l : ℕ) (rest : List Life) → rest ≡ drop l script.lives → (w new : World) (result : Result (Unit {0}) Fault) → P w → LivesFrom by_worlds script first l rest w result new → P new
    from_holds first l [] is w new result here run = subst P (sym run.1) here
    from_holds first l (life ∷ rest) is w new result here (seen, files, how, mid, reads, known, begins, so, ends) =
        let there : slice_get script.lives l ≡ Some life = item_at script.lives l life rest is in
        ends_hold life how mid new result (λ w. LivesFrom by_worlds script AnyFiles (l + 1) rest w result new)
        (lives l life seen files there reads (over l life seen files there reads) w mid how here so)
        (λ w here more. from_holds AnyFiles (l + 1) rest (subst (λ (k : ℕ). rest ≡ drop k script.lives) (sym (add-one l)) (rest_at script.lives l life rest is)) w new result here more)
        ends

    all_hold : (first : Files → Type 0) (w new : World) (result : Result (Unit {0}) Fault) → P w → RunsAllSo by_worlds script first w result new → P new
    all_hold first w new result here (inl (fault, refused, is, same)) = subst P (sym same) here
    all_hold first w new result here (inr (checked, inl wants)) = subst P (sym wants.1) here
    all_hold first w new result here (inr (checked, inr run)) = from_holds first 0 script.lives refl w new result here run

    -- THE RUN
    pub run_holds : (first : Files → Type 0) (w new : World) (answered : Result (Unit {0}) Fault) → P w → RunsSo by_worlds script first w answered new → P new
    run_holds first w new answered here run = by_told run.result run.told (all_hold first w run.mid run.result here run.lives)
      where
        by_told : (result : Result (Unit {0}) Fault) → TellsEnd by_worlds result answered run.mid new → P run.mid → P new
        by_told (Ok done) told here = subst P (sym told.1) here
        by_told (Err its) (inl wants) here = subst P (sym wants.1) here
        by_told (Err its) (inr told) here = subst P (sym told.2) (tells run.mid (entry.Fault its) tt here)
