-- ENTRIES ARE A NODE RUN: what the lives of a script leave is what its node's courses do, each with the script's fuse, in one of the ways of Ways.
use Rattle.std.specs.Prelude.{ℕ, ◌+◌, ◌==◌, ◌≡◌, ◌⊎◌, ◌∷◌, [], List, Option, None, Some, Result, Ok, Err, IsSomeAnd, if◌then◌else◌}
use Rattle.dkg_journal.specs.Burn.{Burn}
use Rattle.dkg_journal.specs.Names.{Files}
use Rattle.dkg_infos.specs.declared.directory.Unit as directory
use Rattle.dkg_infos.specs.declared.entry.Entry.{Entry}
use Rattle.dkg_infos.specs.declared.entry.Entry.TheVariants as entry
use Rattle.dkg_infos.specs.declared.fault.Fault.{Fault}
use Rattle.dkg_infos.specs.declared.fault.Fault.TheVariants.{NoMemory}
use Rattle.dkg_store.specs.Acts.{Held, World, went}
use Rattle.dkg_text.specs.declared.script.Cut as cut
use Rattle.dkg_text.specs.declared.script.Event.{Event}
use Rattle.dkg_text.specs.declared.script.Life.{Life}
use Rattle.dkg_text.specs.declared.script.Script.{Script}
use Rattle.dkg_core.specs.Courses.{Course}
use Rattle.dkg_core.specs.Live.{Live, NodeStop}
use Rattle.dkg_core.specs.Node.{node_opening}
use Rattle.dkg_core.specs.Seen.{Seen}
use Rattle.dkg_life.specs.Opened.{IsInGrammar}
use Rattle.dkg_life.specs.declared.stop.Stop.{Stop}
use Rattle.dkg_life.specs.declared.stop.Stop.TheVariants.{Cut, Failed, Fault as FaultOf}
use Rattle.dkg_lives.specs.Ended.{by_node_stop}
use Rattle.dkg_lives.specs.Epochs.{IsChecked, refused_config}
use Rattle.dkg_lives.specs.Given.{Lived, at_step, limits_of, lived, step_of}
use Rattle.dkg_lives.specs.Ways.{Way, by_worlds}

-- FUSES

-- the fuse that cuts no call
abbrev pub never : Burn
never = record { call = 0; pick = 0; spent = 0 }

abbrev pub fuse_within : cut.Cut → Option Burn
fuse_within its = if its.call == 0 then None else Some (record { call = its.call; pick = its.pick; spent = 0 })

-- the fuse of a step, unless the script ends the life before it
abbrev pub fuse_for : Option cut.Cut → (step : ℕ) → Option Burn
fuse_for None step = Some never
fuse_for (Some its) step = if its.step == step then fuse_within its else Some never

-- A STEP

-- Memory is wanting here.
abbrev pub Wants : {W : Type 0} → Result (Unit {0}) Stop → W → W → Type 0
Wants how w new = (how ≡ Err (FaultOf NoMemory)) × (new ≡ w)

-- ONE STEP with its fuse, where the script lets it begin. It is told once it is complete; `next` is what comes then.
abbrev pub Steps : {W : Type 0} → Way W → Entry → Option Burn → Course directory.Unit NodeStop (Live directory.Unit) → W → Result (Unit {0}) Stop → W
    → (next : Live directory.Unit → W → Type 0) → Type 0
Steps way line None course w how new next = (how ≡ Err Cut) × (new ≡ w)
Steps {W} way line (Some f) course w how new next =
    Wants how w new
    ⊎ (((stop : Stop) × (how ≡ Err stop) × way.goes course (by_node_stop stop) f w new)
    ⊎ ((end : Live directory.Unit) × (mid : W) × way.goes course (went end) f w mid × (Wants how mid new ⊎ next end (way.says mid line))))

-- these events, the first of which is step j
abbrev pub TakesAll : {W : Type 0} → Way W → Lived → (j : ℕ) → List Event → Live directory.Unit → W → Result (Unit {0}) Stop → W → Type 0
TakesAll way g j [] st w how new = (how ≡ Ok tt) × (new ≡ w)
TakesAll way g j (event ∷ events) st w how new =
    Steps way (entry.Step j) (fuse_for g.life.cut j) (step_of g j event st) w how new (λ end mid. TakesAll way g (j + 1) events end mid how new)

-- A LIFE

-- A journal that is not in its grammar is not opened.
abbrev pub IsRefused : {W : Type 0} → Way W → (limit : ℕ) → Files → W → Result (Unit {0}) Stop → W → Type 0
IsRefused way limit files w how new = (IsInGrammar limit files → ⊥) × ((stop : Stop) × (how ≡ Err stop) × way.refuses stop w new)

-- A LIFE over the files that it begins with
abbrev pub LivesSo : {W : Type 0} → Way W → Lived → Files → W → Result (Unit {0}) Stop → W → Type 0
LivesSo way g files w how new =
    Steps way (entry.Step 0) (fuse_for g.life.cut 0) (node_opening (at_step g 0)) w how new (λ end mid. TakesAll way g 1 g.life.events end mid how new)
    ⊎ IsRefused way (limits_of g.script).limit files w how new

-- How it ends: both devices stop, with its pick or with its cut's, and a cut is told then. A fault ends the run, and stops nothing. `next` is what comes else.
abbrev pub EndsLife : {W : Type 0} → Way W → Life → Result (Unit {0}) Stop → W → Result (Unit {0}) Fault → W → (next : W → Type 0) → Type 0
EndsLife way life (Ok done) mid result new next = next (way.stops mid life.pick)
EndsLife way life (Err Cut) mid result new next =
    IsSomeAnd life.cut (λ its. ((result ≡ Err NoMemory) × (new ≡ way.stops mid its.pick)) ⊎ next (way.says (way.stops mid its.pick) (entry.Cut its.step its.call)))
EndsLife way life (Err (FaultOf fault)) mid result new next = (result ≡ Err fault) × (new ≡ mid)
EndsLife way life (Err Failed) mid result new next = ⊥

-- THE RUN

-- What a life does that begins here: something is read over some files, it lives so, and it ends so.
abbrev pub LivesHere : {W : Type 0} → Way W → Script → (first : Files → Type 0) → (l : ℕ) → Life → W → Result (Unit {0}) Fault → W → (next : W → Type 0) → Type 0
LivesHere {W} way script first l life w result new next =
    (seen : Held → Seen) × (files : Files) × (how : Result (Unit {0}) Stop) × (mid : W) × way.reads seen × first files × way.begins files w
    × LivesSo way (lived script l life seen files) files w how mid × EndsLife way life how mid result new next

abbrev pub AnyFiles : Files → Type 0
AnyFiles files = Unit {0}

-- THESE LIVES, the first of which has the number l: each begins with what the one before left. `first` is what is known of the files that the first begins with.
abbrev pub LivesFrom : {W : Type 0} → Way W → Script → (first : Files → Type 0) → (l : ℕ) → List Life → W → Result (Unit {0}) Fault → W → Type 0
LivesFrom way script first l [] w result new = (result ≡ Ok tt) × (new ≡ w)
LivesFrom way script first l (life ∷ lives) w result new =
    LivesHere way script first l life w result new (λ mid. LivesFrom way script AnyFiles (l + 1) lives mid result new)

-- .. or memory is wanting before the first
abbrev pub LivesAllSo : {W : Type 0} → Way W → Script → (first : Files → Type 0) → W → Result (Unit {0}) Fault → W → Type 0
LivesAllSo way script first w result new = ((result ≡ Err NoMemory) × (new ≡ w)) ⊎ LivesFrom way script first 0 script.lives w result new

-- A configuration that is refused ends the run before its lives, by the fault that says why.
abbrev pub RunsAllSo : {W : Type 0} → Way W → Script → (first : Files → Type 0) → W → Result (Unit {0}) Fault → W → Type 0
RunsAllSo way script first w result new =
    ((fault : Fault) × (refused_config script ≡ Some fault) × (result ≡ Err fault) × (new ≡ w)) ⊎ (IsChecked script × LivesAllSo way script first w result new)

-- NO LIFE BEGAN: memory ran out before the first, or the configuration is refused; and all is as it was.
pub record BeganNone (script : Script) (result : Result (Unit {0}) Fault) (Same : Type 0) : Type 0 where
  pub why : (result ≡ Err NoMemory) ⊎ ((fault : Fault) × (refused_config script ≡ Some fault) × (result ≡ Err fault))
  pub same : Same

-- the entry of the fault that ended the lives, which want of memory has not
abbrev pub TellsEnd : {W : Type 0} → Way W → (its answered : Result (Unit {0}) Fault) → W → W → Type 0
TellsEnd way (Ok done) answered mid new = (answered ≡ Ok tt) × (new ≡ mid)
TellsEnd way (Err fault) answered mid new =
    ((answered ≡ Err NoMemory) × (new ≡ mid)) ⊎ ((answered ≡ Err fault) × (fault ≡ NoMemory → ⊥) × (new ≡ way.says mid (entry.Fault fault)))

-- THE RUN of a script, and what it answered
pub record RunsSo {W : Type 0} (way : Way W) (script : Script) (first : Files → Type 0) (w : W) (answered : Result (Unit {0}) Fault) (new : W) : Type 0 where
  pub result : Result (Unit {0}) Fault
  pub mid : W
  pub lives : RunsAllSo way script first w result mid
  pub told : TellsEnd way result answered mid new

-- THE SAME OVER WORLDS, whatever the fuse has counted in the end
pub record RunsOver (script : Script) (answered : Result (Unit {0}) Fault) (files : Files) (w : World) (new : Burn → World) : Type 0 where
  pub fuse : Burn
  pub so : RunsSo by_worlds script (λ its. its ≡ files) w answered (new fuse)
