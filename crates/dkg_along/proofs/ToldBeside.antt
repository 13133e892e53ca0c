-- A clause of lines over worlds beside what holds already: it is shown from both.
use Rattle.std.proofs.Common.{◌≡◌, ℕ, true, false, suc, ◌+◌, ◌≤◌, List, [], ◌∷◌, ◌++◌, Option, Some, None, length}
use Rattle.std.specs.Prelude.{slice_get, ◌==◌}
use Rattle.dkg_journal.specs.Burn.{Burn}
use Rattle.dkg_journal.specs.Names.{Files}
use Rattle.dkg_infos.specs.declared.directory.Unit as directory
use Rattle.dkg_infos.specs.declared.entry.Entry.{Entry}
use Rattle.dkg_text.specs.declared.script.Cut as cut
use Rattle.dkg_text.specs.declared.script.Event as script
use Rattle.dkg_text.specs.declared.script.Life.{Life}
use Rattle.dkg_script.specs.Consistent.{IsConsistentScript}
use Rattle.dkg_script.specs.Position.{awaited_before, awaited_epoch}
use Rattle.dkg_script.specs.Setting.{CutAt, Setting, is_oneshot, life_at}
use Rattle.dkg_store.specs.Acts.{Ended, Held, World, broken, stopped, went}
use Rattle.dkg_core.specs.Courses.{EndsSo}
use Rattle.dkg_core.specs.Live.{Live, NodeStop}
use Rattle.dkg_core.specs.Node.{node_opening}
use Rattle.dkg_core.specs.Seen.{Seen}
use Rattle.dkg_lives.specs.Epochs.{IsLifeInForm}
use Rattle.dkg_lives.specs.Given.{Lived, at_step, lived, step_of}
use Rattle.dkg_lives.specs.Ways.{StaysHeld, by_worlds}
use Rattle.dkg_lives.proofs.Awaiting.{IsReached}
use Rattle.dkg_along.proofs.KeptSteps.{IsAtStep}
use Rattle.dkg_along.proofs.LifeSteps.{IsLifeOfSetting}
use Rattle.dkg_along.proofs.EntryLives.{After, CutThen, EachTold, KnownAfter, LeadsOn, Left, Told, come}
use Rattle.dkg_along.proofs.LivesKept.{IsBetween}

abbrev U : Type 0
U = directory.Unit

-- what is said of a line, what holds between lives, and what holds within one
abbrev pub OfLines : Type 1
OfLines = Type 0 → List Entry → Entry → Type 0

abbrev pub OfRests : Type 1
OfRests = Type 0 → ℕ → World → List Entry → Type 0

abbrev pub OfSteps : Setting → Type 1
OfSteps s = (l : ℕ) (life : Life) (seen : Held → Seen) (files : Files) → life_at s l ≡ Some life → by_worlds.reads seen → (cuts : List (Option CutAt)) → awaited_before s cuts l ≤ awaited_epoch s l life 0 + 1 → Type 0 → ℕ → Live U → World
    → List Entry → Type 0

module _ (s : Setting) (ends : List (Option CutAt)) (reshares : is_oneshot s ≡ false) (consistent : IsConsistentScript s ends)
    (meant : (l : ℕ) (life : Life) (seen : Held → Seen) (files : Files) → life_at s l ≡ Some life → by_worlds.reads seen → IsLifeInForm (lived s.script l life seen files) × IsLifeOfSetting s ends (lived s.script l life seen files))
    (First : OfLines) (Between : OfRests) (Here : OfSteps s) (E : OfLines) (AlsoBetween : OfRests) (Also : OfSteps s) where
  abbrev pub BothBetween : OfRests
  BothBetween marks l w b = Between marks l w b × AlsoBetween marks l w b

  abbrev pub BothHere : OfSteps s
  BothHere l life seen files life_is reads cuts back marks i st w b = Here l life seen files life_is reads cuts back marks i st w b × Also l life seen files life_is reads cuts back marks i st w b

  module _ (l : ℕ) (life : Life) (seen : Held → Seen) (files : Files) (life_is : life_at s l ≡ Some life) (reads : by_worlds.reads seen) (cuts : List (Option CutAt)) (back : awaited_before s cuts l ≤ awaited_epoch s l life 0 + 1) where
    abbrev g : Lived
    g = lived s.script l life seen files

    abbrev HereIt : Type 0 → ℕ → Live U → World → List Entry → Type 0
    HereIt = Here l life seen files life_is reads cuts back

    abbrev AlsoIt : Type 0 → ℕ → Live U → World → List Entry → Type 0
    AlsoIt = Also l life seen files life_is reads cuts back

    abbrev LeftIt : (before : List Entry) → ℕ → Ended NodeStop (Live U) → World → Type 0 → List Entry → Type 0
    LeftIt = Left s First ends reshares consistent meant Between Here l life seen files life_is reads cuts back

    abbrev AlsoAfter : ℕ → Ended NodeStop (Live U) → World → Type 0 → List Entry → Type 0
    AlsoAfter = After s E ends reshares consistent meant AlsoBetween Also l life seen files life_is reads cuts back

    abbrev AlsoCut : Type 0 → World → List Entry → cut.Cut → Type 0
    AlsoCut = CutThen s E ends reshares consistent meant AlsoBetween Also l

    -- what has to be shown of the clause, where these lines were added and the rest is left so
    pub record Adds : Type 1 where
      pub opening : (marks : Type 0) (w : World) (before : List Entry) → IsAtStep l life 0 s (come s before) → (come s before).cuts ≡ cuts → Between marks l w before → AlsoBetween marks l w before → IsReached life.cut 0
          → (f : Burn) (ended : Ended NodeStop (Live U)) (new : World) → EndsSo (node_opening (at_step g 0)) ended (record w { fuse = f }) new → (added : List Entry) → new.out ≡ w.out ++ added
          → LeftIt before 0 ended new (KnownAfter s marks before added) (before ++ added) → EachTold s E marks before added × AlsoAfter 0 ended new (KnownAfter s marks before added) (before ++ added)
      pub step : (marks : Type 0) (i : ℕ) (its : script.Event) → slice_get life.events i ≡ Some its → IsReached life.cut (suc i) → (st : Live U) (w : World) (before : List Entry) → IsAtStep l life (suc i) s (come s before)
          → (come s before).cuts ≡ cuts → HereIt marks i st w before → AlsoIt marks i st w before
          → (f : Burn) (ended : Ended NodeStop (Live U)) (new : World) → EndsSo (step_of g (suc i) its st) ended (record w { fuse = f }) new → (added : List Entry) → new.out ≡ w.out ++ added
          → LeftIt before (suc i) ended new (KnownAfter s marks before added) (before ++ added) → EachTold s E marks before added × AlsoAfter (suc i) ended new (KnownAfter s marks before added) (before ++ added)
      pub over : (marks : Type 0) (st : Live U) (w : World) (b : List Entry) → IsBetween (l + 1) s (come s b) → (come s b).cuts ≡ cuts ++ None ∷ [] → HereIt marks (length life.events) st w b → AlsoIt marks (length life.events) st w b
          → AlsoBetween marks (l + 1) w b
      pub unstepped : (marks : Type 0) (i : ℕ) (st : Live U) (w : World) (b : List Entry) → IsAtStep l life (suc i) s (come s b) → (come s b).cuts ≡ cuts → HereIt marks i st w b → AlsoIt marks i st w b
          → (its : cut.Cut) → life.cut ≡ Some its → its.step ≡ suc i → (its.call == 0) ≡ true → AlsoCut marks w b its
      pub unopened : (marks : Type 0) (w new : World) (b : List Entry) → IsAtStep l life 0 s (come s b) → (come s b).cuts ≡ cuts → Between marks l w b → AlsoBetween marks l w b → new.out ≡ w.out → StaysHeld w.held new.held
          → (its : cut.Cut) → life.cut ≡ Some its → AlsoCut marks new b its

    pub both_leads : LeadsOn s First ends reshares consistent meant Between Here l life seen files life_is reads cuts back → Adds → LeadsOn s E ends reshares consistent meant BothBetween BothHere l life seen files life_is reads cuts back
    both_leads first adds = record {
      opening = λ marks w before at are both reached f ended new run.
          joined marks before 0 ended w new (first.opening marks w before at are both.0 reached f ended new run) (λ added out left. adds.opening marks w before at are both.0 both.1 reached f ended new run added out left);
      step = λ marks i its is reached st w before at are both f ended new run.
          joined marks before (suc i) ended w new (first.step marks i its is reached st w before at are both.0 f ended new run) (λ added out left. adds.step marks i its is reached st w before at are both.0 both.1 f ended new run added out left);
      over = λ marks st w b between are both. (first.over marks st w b between are both.0, adds.over marks st w b between are both.0 both.1);
      unstepped = λ marks i st w b at are both its is there none. (first.unstepped marks i st w b at are both.0 its is there none, adds.unstepped marks i st w b at are both.0 both.1 its is there none);
      unopened = λ marks w new b at are both same stays its is. (first.unopened marks w new b at are both.0 same stays its is, adds.unopened marks w new b at are both.0 both.1 same stays its is);
    }
      where
        BothAfter : ℕ → Ended NodeStop (Live U) → World → Type 0 → List Entry → Type 0
        BothAfter = After s E ends reshares consistent meant BothBetween BothHere l life seen files life_is reads cuts back

        after : (j : ℕ) (ended : Ended NodeStop (Live U)) (new : World) (later : Type 0) (b : List Entry) → After s First ends reshares consistent meant Between Here l life seen files life_is reads cuts back j ended new later b
            → AlsoAfter j ended new later b → BothAfter j ended new later b
        after j (went end) new later b one other = (one, other)
        after j (stopped stop) new later b one other = tt
        after j (broken cause) new later b one other = λ its is there within. (one its is there within, other its is there within)

        joined : (marks : Type 0) (before : List Entry) (j : ℕ) (ended : Ended NodeStop (Live U)) (w new : World) (told : Told s First marks before w.out new.out (LeftIt before j ended new))
            → ((added : List Entry) → new.out ≡ w.out ++ added → LeftIt before j ended new (KnownAfter s marks before added) (before ++ added)
            → EachTold s E marks before added × AlsoAfter j ended new (KnownAfter s marks before added) (before ++ added))
            → Told s E marks before w.out new.out (Left s E ends reshares consistent meant BothBetween BothHere l life seen files life_is reads cuts back before j ended new)
        joined marks before j ended w new told more =
            let its = more told.added told.out told.to in
            record {
              added = told.added;
              out = told.out;
              each = its.0;
              to = (told.to.0, told.to.1, after j ended new (KnownAfter s marks before told.added) (before ++ told.added) told.to.2 its.1);
            }
