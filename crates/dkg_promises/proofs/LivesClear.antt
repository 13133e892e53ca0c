-- What can end a run over worlds whose courses stop by no fault but such as come from outside.
use Rattle.std.proofs.Common.{◌≡◌, ◌⊎◌, inl, inr, ℕ, zero, suc, ◌+◌, ◌<◌, ◌≤◌, List, [], ◌∷◌, ◌++◌, drop, Option, Some, None, Result, Ok, Err, refl, sym, ◌∙◌, ap, subst, length, arith, add-one, append_assoc, length-append}
use Rattle.std.specs.Prelude.{IfErr, IsSomeAnd, slice_get}
use Rattle.dkg_journal.specs.Burn.{Burn}
use Rattle.dkg_journal.specs.Names.{Files}
use Rattle.dkg_infos.specs.declared.directory.Unit as directory
use Rattle.dkg_infos.specs.declared.entry.Entry.{Entry}
use Rattle.dkg_infos.specs.declared.entry.Entry.TheVariants as entry
use Rattle.dkg_infos.specs.declared.fault.Fault.{Fault}
use Rattle.dkg_infos.specs.declared.fault.Fault.TheVariants as fault
use Rattle.dkg_text.specs.declared.script.Cut as cut
use Rattle.dkg_text.specs.declared.script.Event.{Event}
use Rattle.dkg_text.specs.declared.script.Life.{Life}
use Rattle.dkg_script.specs.Setting.{CutAt, Setting, life_at}
use Rattle.dkg_store.specs.Acts.{Cause, Ended, Held, World, broken, says, stopped, went}
use Rattle.dkg_core.specs.Courses.{Course, EndsSo}
use Rattle.dkg_core.specs.Live.{Faulted, Live, NodeStop}
use Rattle.dkg_core.specs.Node.{node_opening}
use Rattle.dkg_core.specs.Seen.{Seen}
use Rattle.dkg_life.specs.declared.stop.Stop.{Stop}
use Rattle.dkg_life.specs.declared.stop.Stop.TheVariants.{Cut, Failed, Fault as FaultOf}
use Rattle.dkg_lives.specs.Blamed.{IsFromOutside}
use Rattle.dkg_lives.specs.Ended.{by_node_stop}
use Rattle.dkg_lives.specs.Epochs.{IsChecked}
use Rattle.dkg_lives.specs.Given.{Lived, at_step, lived, step_of}
use Rattle.dkg_lives.specs.Lives.{AnyFiles, EndsLife, LivesFrom, LivesSo, RunsAllSo, RunsSo, Steps, TakesAll, TellsEnd, fuse_for}
use Rattle.dkg_lives.specs.Ways.{IsBroken, by_worlds}
use Rattle.dkg_lives.proofs.Awaiting.{IsBefore, IsReached, before_all, reached_lit}
use Rattle.dkg_promises.proofs.OfferingRuns.{AreLivesFrom, ends_by, ends_cut, ends_of, run_ends, script_lives}

rest_at : {A : Type 0} (all : List A) (i : ℕ) (its : A) (more : List A) → its ∷ more ≡ drop i all → more ≡ drop (suc i) all
rest_at [] zero its more is = absurd (let wrong : its ∷ more ≡ [] = is in cc)
rest_at [] (suc i) its more is = absurd (let wrong : its ∷ more ≡ [] = is in cc)
rest_at (x ∷ all) zero its more is = let so : its ∷ more ≡ x ∷ all = is in cc
rest_at (x ∷ all) (suc i) its more is = rest_at all i its more is

item_at : {A : Type 0} (all : List A) (i : ℕ) (its : A) (more : List A) → its ∷ more ≡ drop i all → slice_get all i ≡ Some its
item_at [] zero its more is = absurd (let wrong : its ∷ more ≡ [] = is in cc)
item_at [] (suc i) its more is = absurd (let wrong : its ∷ more ≡ [] = is in cc)
item_at (x ∷ all) zero its more is = let so : its ∷ more ≡ x ∷ all = is in cc
item_at (x ∷ all) (suc i) its more is = item_at all i its more is

before_suc : (its : Option cut.Cut) (j : ℕ) → IsReached its j → IsBefore its (suc j)
before_suc None j reached = tt
before_suc (Some its) j reached = λ none. let low : j < its.step = reached none in omega (arith, low)

not_stopped : {stop : NodeStop} {cause : Cause} → ◌≡◌ {A = Ended NodeStop (Live directory.Unit)} (stopped stop) (broken cause) → ⊥
not_stopped e = cc

-- WHAT ENDS A LIFE

-- A fault that ends it comes from outside. (A cut is the script's.)
abbrev pub ComesOutside : Stop → Type 0
ComesOutside (FaultOf its) = IsFromOutside its
ComesOutside stop = Unit {0}

abbrev pub EndsOutside : Result (Unit {0}) Stop → Type 0
EndsOutside (Ok done) = Unit {0}
EndsOutside (Err stop) = ComesOutside stop

-- .. and what ends a run
abbrev pub AnswersOutside : Result (Unit {0}) Fault → Type 0
AnswersOutside answered = IfErr answered IsFromOutside

-- At its end the life and the devices are so, and wherever else it ends the devices are; and it stops by such a fault alone.
abbrev pub LeavesClear : (P : Held → Type 0) (Here : Live directory.Unit → Held → Type 0) → Ended NodeStop (Live directory.Unit) → Held → Type 0
LeavesClear P Here (went end) h = Here end h
LeavesClear P Here (stopped stop) h = P h × ((own : Fault) → stop ≡ Faulted own → IsFromOutside own)
LeavesClear P Here (broken cause) h = P h

abbrev pub KeepsClear : (P : Held → Type 0) (Here : Live directory.Unit → Held → Type 0) → Course directory.Unit NodeStop (Live directory.Unit) → Held → Type 0
KeepsClear P Here course h = (ended : Ended NodeStop (Live directory.Unit)) (w new : World) → w.held ≡ h → EndsSo course ended w new → LeavesClear P Here ended new.held

-- A journal that isn't in its grammar is refused from outside.
broken_outside : (stop : Stop) → IsBroken stop → ComesOutside stop
broken_outside Cut its = tt
broken_outside Failed its = tt
broken_outside (FaultOf fault.NoMemory) its = tt
broken_outside (FaultOf fault.Disk) its = tt
broken_outside (FaultOf fault.Secrets) its = tt
broken_outside (FaultOf (fault.Corrupt name place)) its = tt
broken_outside (FaultOf own) its = absurd (not_stopped its.by)

module _ (P : Held → Type 0) (Here : ℕ → Live directory.Unit → Held → Type 0) (so : (j : ℕ) (st : Live directory.Unit) (h : Held) → Here j st h → P h) where
  -- what holds behind a life, and how it ended
  pub record IsClear (how : Result (Unit {0}) Stop) (new : World) : Type 0 where
    pub holds : P new.held
    pub outside : EndsOutside how

  clear_as : (how its : Result (Unit {0}) Stop) (new w : World) → how ≡ its → new ≡ w → P w.held → EndsOutside its → IsClear how new
  clear_as how its new w is same holds outside = record { holds = subst (λ (x : World). P x.held) (sym same) holds; outside = subst EndsOutside (sym is) outside }

  by_stop : (j : ℕ) (stop : Stop) (new : World) → LeavesClear P (Here j) (by_node_stop stop) new.held → IsClear (Err stop) new
  by_stop j Cut new left = record { holds = left; outside = tt }
  by_stop j Failed new left = record { holds = left; outside = tt }
  by_stop j (FaultOf fault.NoMemory) new left = record { holds = left; outside = tt }
  by_stop j (FaultOf fault.Disk) new left = record { holds = left; outside = tt }
  by_stop j (FaultOf fault.Secrets) new left = record { holds = left; outside = tt }
  by_stop j (FaultOf (fault.Corrupt name place)) new left = record { holds = left; outside = tt }
  by_stop j (FaultOf own) new left = record { holds = left.0; outside = left.1 own refl }

  step_clear : (j : ℕ) (line : Entry) (fuse : Option Burn) (course : Course directory.Unit NodeStop (Live directory.Unit)) (w new : World) (how : Result (Unit {0}) Stop) (next : Live directory.Unit → World → Type 0)
      → P w.held → ((f : Burn) → fuse ≡ Some f → KeepsClear P (Here j) course w.held) → ((f : Burn) → fuse ≡ Some f → (end : Live directory.Unit) (mid : World) → Here j end mid.held → next end mid → IsClear how new)
      → Steps by_worlds line fuse course w how new next → IsClear how new
  step_clear j line None course w new how next here keeps then steps = clear_as how (Err Cut) new w steps.0 steps.1 here tt
  step_clear j line (Some f) course w new how next here keeps then (inl wants) = clear_as how (Err (FaultOf fault.NoMemory)) new w wants.0 wants.1 here tt
  step_clear j line (Some f) course w new how next here keeps then (inr (inl (stop, is, goes))) =
      let its : IsClear (Err stop) new = by_stop j stop new (keeps f refl (by_node_stop stop) (record w { fuse = f }) new refl goes.0) in
      clear_as how (Err stop) new new is refl its.holds its.outside
  step_clear j line (Some f) course w new how next here keeps then (inr (inr (end, mid, goes, inl wants))) =
      clear_as how (Err (FaultOf fault.NoMemory)) new mid wants.0 wants.1 (so j end mid.held (keeps f refl (went end) (record w { fuse = f }) mid refl goes.0)) tt
  step_clear j line (Some f) course w new how next here keeps then (inr (inr (end, mid, goes, inr more))) =
      then f refl end (by_worlds.says mid line) (keeps f refl (went end) (record w { fuse = f }) mid refl goes.0) more

  -- A LIFE
  module _ (g : Lived) (step : (i : ℕ) (its : Event) (st : Live directory.Unit) (h : Held) → slice_get g.life.events i ≡ Some its → IsReached g.life.cut (suc i) → Here i st h → KeepsClear P (Here (suc i)) (step_of g (suc i) its st) h) where
    takes_clear : (events : List Event) (i : ℕ) → events ≡ drop i g.life.events → IsBefore g.life.cut (suc i) → (st : Live directory.Unit) (w new : World) (how : Result (Unit {0}) Stop) → Here i st w.held
        → TakesAll by_worlds g (suc i) events st w how new → IsClear how new
    takes_clear [] i rest before st w new how here takes = clear_as how (Ok tt) new w takes.0 takes.1 (so i st w.held here) tt
    takes_clear (its ∷ events) i rest before st w new how here takes =
        step_clear (suc i) (entry.Step (suc i)) (fuse_for g.life.cut (suc i)) (step_of g (suc i) its st) w new how (λ end mid. TakesAll by_worlds g (suc i + 1) events end mid how new) (so i st w.held here)
        (λ f lit. step i its st w.held (item_at g.life.events i its events rest) (reached_lit g.life.cut (suc i) f lit before) here)
        (λ f lit end mid here more. takes_clear events (suc i) (rest_at g.life.events i its events rest) (before_suc g.life.cut (suc i) (reached_lit g.life.cut (suc i) f lit before)) end mid new how here
        (subst (λ (j : ℕ). TakesAll by_worlds g j events end mid how new) (add-one (suc i)) more)) takes

    pub life_clear : (files : Files) (w new : World) (how : Result (Unit {0}) Stop) → P w.held → (IsReached g.life.cut 0 → KeepsClear P (Here 0) (node_opening (at_step g 0)) w.held)
        → ((stop : Stop) (new : World) → by_worlds.refuses stop w new → P new.held) → LivesSo by_worlds g files w how new → IsClear how new
    life_clear files w new how here opens refused (inl steps) =
        step_clear 0 (entry.Step 0) (fuse_for g.life.cut 0) (node_opening (at_step g 0)) w new how (λ end mid. TakesAll by_worlds g 1 g.life.events end mid how new) here
        (λ f lit. opens (reached_lit g.life.cut 0 f lit (before_all g.life.cut)))
        (λ f lit end mid here more. takes_clear g.life.events 0 refl (before_suc g.life.cut 0 (reached_lit g.life.cut 0 f lit (before_all g.life.cut))) end mid new how here more) steps
    life_clear files w new how here opens refused (inr (out, (stop, is, its))) = clear_as how (Err stop) new new is refl (refused stop new its) (broken_outside stop its.0)

-- ALL LIVES, of which so many began

module _ (P : Held → Type 0) (s : Setting) (ends : List (Option CutAt))
    (lives : (l : ℕ) (life : Life) (seen : Held → Seen) (files : Files) → life_at s l ≡ Some life → by_worlds.reads seen → l ≤ length ends → (w new : World) (how : Result (Unit {0}) Stop) → P w.held
    → LivesSo by_worlds (lived s.script l life seen files) files w how new → P new.held × EndsOutside how) where
  from_clear : (rest : List Life) (first : Files → Type 0) (l : ℕ) (w : World) (result : Result (Unit {0}) Fault) (new : World) (cs : List (Option CutAt)) → AreLivesFrom s l rest → length cs ≡ l → P w.held
      → (run : LivesFrom by_worlds s.script first l rest w result new) → ends ≡ cs ++ ends_of s.script rest first l w result new run → AnswersOutside result
  from_clear [] first l w result new cs are count here run is = subst AnswersOutside (sym run.0) tt
  from_clear (life ∷ rest) first l w result new cs are count here run is =
      by_how run.2 behind.1 run.8 is (λ mid cs are count here more is. from_clear rest AnyFiles (l + 1) mid result new cs are count here more is)
    where
      mid : World
      mid = run.3

      Rests : World → Type 0
      Rests mid = LivesFrom by_worlds s.script AnyFiles (l + 1) rest mid result new

      on : (mid : World) → Rests mid → List (Option CutAt)
      on mid more = ends_of s.script rest AnyFiles (l + 1) mid result new more

      On : Type 0
      On = (mid : World) (cs : List (Option CutAt)) → AreLivesFrom s (l + 1) rest → length cs ≡ l + 1 → P mid.held → (more : Rests mid) → ends ≡ cs ++ on mid more → AnswersOutside result

      began : (more : List (Option CutAt)) → ends ≡ cs ++ more → l ≤ length ends
      began more is = at_least l (length cs) (length more) (length ends) count (ap length is ∙ length-append cs more)
        where
          at_least : (a b c d : ℕ) → b ≡ a → d ≡ b + c → a ≤ d
          at_least a b c d one two = omega (arith, one, two)

      behind : P mid.held × EndsOutside run.2
      behind = lives l life run.0 run.1 are.0 run.4 (began (ends_by life mid result new Rests on run.2 run.8) is) w mid run.2 here run.7

      longer : (end : Option CutAt) → length (cs ++ end ∷ []) ≡ l + 1
      longer end = length-append cs (end ∷ []) ∙ ap (λ (n : ℕ). n + 1) count

      by_cut : (o : Option cut.Cut) (its : IsSomeAnd o (λ c. ((result ≡ Err fault.NoMemory) × (new ≡ mid)) ⊎ Rests (says mid (entry.Cut c.step c.call)))) → ends ≡ cs ++ ends_cut life mid result new Rests on o its → On → AnswersOutside result
      by_cut None its is next = absurd its
      by_cut (Some at) (inl wants) is next = subst AnswersOutside (sym wants.0) tt
      by_cut (Some at) (inr more) is next =
          let end : Option CutAt = Some (record { step = at.step; call = at.call }) in
          next (says mid (entry.Cut at.step at.call)) (cs ++ end ∷ []) are.1 (longer end) behind.0 more (is ∙ sym (append_assoc cs (end ∷ []) (on (says mid (entry.Cut at.step at.call)) more)))

      by_how : (how : Result (Unit {0}) Stop) → EndsOutside how → (its : EndsLife by_worlds life how mid result new Rests) → ends ≡ cs ++ ends_by life mid result new Rests on how its → On → AnswersOutside result
      by_how (Ok done) outside its is next = next mid (cs ++ None ∷ []) are.1 (longer None) behind.0 its (is ∙ sym (append_assoc cs (None ∷ []) (on mid its)))
      by_how (Err Cut) outside its is next = by_cut life.cut its is next
      by_how (Err (FaultOf own)) outside its is next = subst AnswersOutside (sym its.0) outside
      by_how (Err Failed) outside its is next = absurd its

  -- THE RUN
  pub run_clear : IsChecked s.script → (first : Files → Type 0) (w : World) (answered : Result (Unit {0}) Fault) (new : World) → P w.held → (run : RunsSo by_worlds s.script first w answered new)
      → ends ≡ run_ends s.script first w run.result run.mid run.lives → AnswersOutside answered
  run_clear checked first w answered new here run is = by_told run.result run.told (by_lives run.lives is)
    where
      none_some : {x : Fault} → ◌≡◌ {A = Option Fault} None (Some x) → ⊥
      none_some e = cc

      by_lives : (its : RunsAllSo by_worlds s.script first w run.result run.mid) → ends ≡ run_ends s.script first w run.result run.mid its → AnswersOutside run.result
      by_lives (inl refused) is = absurd (none_some (sym checked ∙ refused.1))
      by_lives (inr (known, inl wants)) is = subst AnswersOutside (sym wants.0) tt
      by_lives (inr (known, inr more)) is = from_clear s.script.lives first 0 w run.result run.mid [] (script_lives s [] s.script.lives refl) refl here more is

      by_told : (result : Result (Unit {0}) Fault) → TellsEnd by_worlds result answered run.mid new → AnswersOutside result → AnswersOutside answered
      by_told (Ok done) told outside = subst AnswersOutside (sym told.0) tt
      by_told (Err own) (inl wants) outside = subst AnswersOutside (sym wants.0) tt
      by_told (Err own) (inr told) outside = subst AnswersOutside (sym told.0) outside
