-- How a step of a life went, by what its parts answered; in either way.
use Rattle.std.proofs.Common.{◌≡◌, inl, inr, ℕ, zero, suc, ◌+◌, ◌<◌, ◌≤◌, List, [], ◌∷◌, drop, length, Option, Some, None, Result, Ok, Err, refl, sym, ap, subst, add-one}
use Rattle.std.specs.Prelude.{slice_get}
use Rattle.std.proofs.Math.ListN.{drop_of_length-le}
use Rattle.dkg_journal.specs.Burn.{Burn}
use Rattle.dkg_journal.specs.Names.{Files}
use Rattle.dkg_infos.specs.declared.directory.Unit as directory
use Rattle.dkg_infos.specs.declared.entry.Entry.{Entry}
use Rattle.dkg_infos.specs.declared.entry.Entry.TheVariants as entry
use Rattle.dkg_infos.specs.declared.fault.Fault.{Fault}
use Rattle.dkg_infos.specs.declared.fault.Fault.TheVariants as fault
use Rattle.dkg_infos.specs.declared.fault.Fault.TheVariants.{NoMemory}
use Rattle.dkg_store.specs.Acts.{Ended, Moment, Stands, at, by_cut, by_want, broken, went}
use Rattle.dkg_core.specs.Courses.{Course, on_devices}
use Rattle.dkg_core.specs.Live.{Faulted, Live, NodeStop}
use Rattle.dkg_core.specs.Splitting.{fault_named}
use Rattle.dkg_life.specs.Ends.{by_fault}
use Rattle.dkg_life.specs.Made.{MakesAt, Tells}
use Rattle.dkg_life.specs.declared.stop.Stop.{Stop}
use Rattle.dkg_life.specs.declared.stop.Stop.TheVariants.{Cut, Failed, Fault as FaultOf}
use Rattle.dkg_text.specs.declared.script.Event.{Event}
use Rattle.dkg_lives.specs.Ended.{by_node_stop}
use Rattle.dkg_lives.specs.Given.{Lived, step_of}
use Rattle.dkg_lives.specs.Lives.{Steps, TakesAll, fuse_for}
use Rattle.dkg_lives.specs.Ways.{Way, by_entries, by_worlds, trace}

-- it was answered Ok
abbrev pub IsDone : Result (Unit {0}) Stop → Type 0
IsDone how = how ≡ Ok tt

module _ {W : Type 0} (way : Way W) (line : Entry) (fuse : Option Burn) (course : Course directory.Unit NodeStop (Live directory.Unit)) (w : W) (next : Live directory.Unit → W → Type 0) where
  pub step_cut : fuse ≡ None → Steps way line fuse course w (Err Cut) w next
  step_cut none = subst (λ (o : Option Burn). Steps way line o course w (Err Cut) w next) (sym none) (refl, refl)

  pub step_wants : (f : Burn) → fuse ≡ Some f → Steps way line fuse course w (Err (FaultOf NoMemory)) w next
  step_wants f lit = subst (λ (o : Option Burn). Steps way line o course w (Err (FaultOf NoMemory)) w next) (sym lit) (inl (refl, refl))

  pub step_stops : (f : Burn) → fuse ≡ Some f → (stop : Stop) (new : W) → way.goes course (by_node_stop stop) f w new → Steps way line fuse course w (Err stop) new next
  step_stops f lit stop new goes = subst (λ (o : Option Burn). Steps way line o course w (Err stop) new next) (sym lit) (inr (inl (stop, refl, goes)))

  pub step_untold : (f : Burn) → fuse ≡ Some f → (end : Live directory.Unit) (mid : W) → way.goes course (went end) f w mid → Steps way line fuse course w (Err (FaultOf NoMemory)) mid next
  step_untold f lit end mid goes = subst (λ (o : Option Burn). Steps way line o course w (Err (FaultOf NoMemory)) mid next) (sym lit) (inr (inr (end, mid, goes, inl (refl, refl))))

  pub step_told : (f : Burn) → fuse ≡ Some f → (end : Live directory.Unit) (mid : W) → way.goes course (went end) f w mid → (how : Result (Unit {0}) Stop) (new : W) → next end (way.says mid line)
      → Steps way line fuse course w how new next
  step_told f lit end mid goes how new after = subst (λ (o : Option Burn). Steps way line o course w how new next) (sym lit) (inr (inr (end, mid, goes, inr after)))

  -- a step that was answered so, whatever was to come
  pub step_ends : (stop : Stop) (new : W) (V : Live directory.Unit → W → Type 0) → Steps way line fuse course w (Err stop) new (λ end mid. IsDone (Err stop) × V end mid)
      → Steps way line fuse course w (Err stop) new next
  step_ends stop new V steps = in_fuse fuse steps
    where
      in_fuse : (fuse : Option Burn) → Steps way line fuse course w (Err stop) new (λ end mid. IsDone (Err stop) × V end mid) → Steps way line fuse course w (Err stop) new next
      in_fuse None its = its
      in_fuse (Some f) (inl wants) = inl wants
      in_fuse (Some f) (inr (inl stops)) = inr (inl stops)
      in_fuse (Some f) (inr (inr (end, mid, goes, inl wants))) = inr (inr (end, mid, goes, inl wants))
      in_fuse (Some f) (inr (inr (end, mid, goes, inr after))) = absurd (not_ok after.0)
        where
          not_ok : IsDone (Err stop) → ⊥
          not_ok e = cc

-- A step that was answered Ok ended so, and what comes then is what comes behind it.
pub record GoneOn {W : Type 0} (way : Way W) (line : Entry) (fuse : Option Burn) (course : Course directory.Unit NodeStop (Live directory.Unit)) (w mid : W) (V : Live directory.Unit → Type 0) : Type 1 where
  pub end : Live directory.Unit
  pub so : V end
  pub on : (how : Result (Unit {0}) Stop) (new : W) (next : Live directory.Unit → W → Type 0) → next end mid → Steps way line fuse course w how new next

pub step_goes_on : {W : Type 0} (way : Way W) (line : Entry) (fuse : Option Burn) (course : Course directory.Unit NodeStop (Live directory.Unit)) (w mid : W) (V : Live directory.Unit → Type 0)
    → Steps way line fuse course w (Ok tt) mid (λ end m. IsDone (Ok tt) × V end × (m ≡ mid)) → GoneOn way line fuse course w mid V
step_goes_on {W} way line fuse course w mid V steps = in_fuse fuse steps
  where
    not_err : (stop : Stop) → ◌≡◌ {A = Result (Unit {0}) Stop} (Ok tt) (Err stop) → ⊥
    not_err stop e = cc

    in_fuse : (fuse : Option Burn) → Steps way line fuse course w (Ok tt) mid (λ end m. IsDone (Ok tt) × V end × (m ≡ mid)) → GoneOn way line fuse course w mid V
    in_fuse None its = absurd (not_err Cut its.0)
    in_fuse (Some f) (inl wants) = absurd (not_err (FaultOf NoMemory) wants.0)
    in_fuse (Some f) (inr (inl (stop, is, goes))) = absurd (not_err stop is)
    in_fuse (Some f) (inr (inr (end, here, goes, inl wants))) = absurd (not_err (FaultOf NoMemory) wants.0)
    in_fuse (Some f) (inr (inr (end, here, goes, inr after))) = record {
      end = end;
      so = after.1;
      on = λ how new next its. inr (inr (end, here, goes, inr (subst (λ (m : W). next end m) (sym after.2) its)));
    }

-- ONE STEP AFTER ANOTHER

some_is : {A : Type 0} {x y : A} → Some x ≡ Some y → x ≡ y
some_is e = cc

pub drop_item : {A : Type 0} (xs : List A) (i : ℕ) (x : A) → slice_get xs i ≡ Some x → drop i xs ≡ x ∷ drop (suc i) xs
drop_item {A} [] i x is = absurd (let wrong : ◌≡◌ {A = Option A} None (Some x) = is in cc)
drop_item {A} (y ∷ ys) zero x is = ap (λ (o : A). o ∷ ys) (some_is is)
drop_item (y ∷ ys) (suc i) x is = drop_item ys i x is

module _ {W : Type 0} (way : Way W) (g : Lived) (events : List Event) (st : Live directory.Unit) (w : W) where
  -- to take the rest from here is to take all
  abbrev pub TakesOn : (i : ℕ) (now : Live directory.Unit) (here : W) → Type 0
  TakesOn i now here = (how : Result (Unit {0}) Stop) (new : W) → TakesAll way g (i + 1) (drop i events) now here how new → TakesAll way g 1 events st w how new

  pub takes_first : TakesOn 0 st w
  takes_first how new takes = takes

  pub record TakenOn (i : ℕ) (V : Live directory.Unit → Type 0) (here : W) : Type 0 where
    pub now : Live directory.Unit
    pub so : V now
    pub on : TakesOn i now here

  module _ (i : ℕ) (event : Event) (at_event : slice_get events i ≡ Some event) (now : Live directory.Unit) (here : W) (on : TakesOn i now here) where
    -- the rest, from its first event on
    rest : (how : Result (Unit {0}) Stop) (new : W) → TakesAll way g (i + 1) (event ∷ drop (suc i) events) now here how new → TakesAll way g 1 events st w how new
    rest how new takes = on how new (subst (λ (es : List Event). TakesAll way g (i + 1) es now here how new) (sym (drop_item events i event at_event)) takes)

    pub takes_next : (mid : W) (V : Live directory.Unit → Type 0)
        → Steps way (entry.Step (i + 1)) (fuse_for g.life.cut (i + 1)) (step_of g (i + 1) event now) here (Ok tt) mid (λ end m. IsDone (Ok tt) × V end × (m ≡ mid)) → TakenOn (i + 1) V mid
    takes_next mid V steps =
        let gone = step_goes_on way (entry.Step (i + 1)) (fuse_for g.life.cut (i + 1)) (step_of g (i + 1) event now) here mid V steps in
        record {
          now = gone.end;
          so = gone.so;
          on = λ how new takes. rest how new (gone.on how new (λ end m. TakesAll way g (i + 1 + 1) (drop (suc i) events) end m how new)
              (subst (λ (k : ℕ). TakesAll way g (i + 1 + 1) (drop k events) gone.end mid how new) (add-one i) takes));
        }

    pub takes_stop : (stop : Stop) (new : W) (V : Live directory.Unit → W → Type 0)
        → Steps way (entry.Step (i + 1)) (fuse_for g.life.cut (i + 1)) (step_of g (i + 1) event now) here (Err stop) new (λ end m. IsDone (Err stop) × V end m) → TakesAll way g 1 events st w (Err stop) new
    takes_stop stop new V steps = rest (Err stop) new
        (step_ends way (entry.Step (i + 1)) (fuse_for g.life.cut (i + 1)) (step_of g (i + 1) event now) here (λ end m. TakesAll way g (i + 1 + 1) (drop (suc i) events) end m (Err stop) new) stop new V steps)

  pub takes_end : (i : ℕ) (now : Live directory.Unit) (here : W) → length events ≤ i → TakesOn i now here → TakesAll way g 1 events st w (Ok tt) here
  takes_end i now here all on = on (Ok tt) here (subst (λ (es : List Event). TakesAll way g (i + 1) es now here (Ok tt) here) (sym (drop_of_length-le events all)) (refl, refl))

-- OVER LINES

-- no other fault is a cut
fault_uncut : (its : Fault) → ◌≡◌ {A = Ended NodeStop (Live directory.Unit)} (fault_named Faulted (by_fault its)) (broken by_cut) → ⊥
fault_uncut fault.NoMemory is = cc
fault_uncut fault.Disk is = cc
fault_uncut fault.Secrets is = cc
fault_uncut (fault.Corrupt name place) is = cc
fault_uncut its is = cc

pub uncut : (stop : Stop) → by_node_stop {S = Live directory.Unit} stop ≡ broken by_cut → stop ≡ Cut
uncut Cut is = refl
uncut Failed is = absurd (let wrong : ◌≡◌ {A = Ended NodeStop (Live directory.Unit)} (broken by_want) (broken by_cut) = is in cc)
uncut (FaultOf its) is = absurd (fault_uncut its is)

pub lines_go : (course : Course directory.Unit NodeStop (Live directory.Unit)) (ended : Ended NodeStop (Live directory.Unit)) (f : Burn) (out now : List Entry) (picks : List ℕ) → Tells course ended out now
    → (ended ≡ broken by_cut → 0 < f.call) → by_entries.goes course ended f (trace out picks) (trace now picks)
lines_go course ended f out now picks told cut = (told, refl, cut)

-- OVER WORLDS

pub worlds_go : (course : Course directory.Unit NodeStop (Live directory.Unit)) (ended : Ended NodeStop (Live directory.Unit)) (files files_now : Files) (image now : Files → Type 0) (old new : Moment)
    → MakesAt (on_devices course) ended files image files_now now old new → Stands files image → (c : Files) → now c → (burn : Burn)
    → by_worlds.goes course ended old.fuse (record (at old files) { fuse = burn }) (at new c)
worlds_go course ended files files_now image now old new made stands c here burn = (made.made.made stands c here, made.burns)
