-- What each line of a run says, over worlds: a clause of a line over the lines before it, from what holds of the life, the devices and the lines at each step.
use Rattle.std.proofs.Common.{◌≡◌, ◌⊎◌, inl, inr, ℕ, true, false, suc, ◌+◌, ◌<◌, ◌≤◌, List, [], ◌∷◌, ◌++◌, Option, Some, None, refl, sym, ◌∙◌, ap, subst, length, arith, add-one, append_assoc, append-nil, length-append}
use Rattle.std.specs.Prelude.{fold, slice_get, Result, Ok, Err, IsSomeAnd, ◌==◌}
use Rattle.std.proofs.lemmas.List.Sums.{fold-append}
use Rattle.dkg_journal.specs.Burn.{Burn}
use Rattle.dkg_journal.specs.Names.{Files}
use Rattle.dkg_infos.specs.declared.directory.Unit as directory
use Rattle.dkg_infos.specs.declared.entry.Entry.{Entry}
use Rattle.dkg_infos.specs.declared.entry.Entry.TheVariants as entry
use Rattle.dkg_infos.specs.declared.fault.Fault.{Fault}
use Rattle.dkg_infos.specs.declared.fault.Fault.TheVariants.{NoMemory}
use Rattle.dkg_text.specs.declared.script.Cut as cut
use Rattle.dkg_text.specs.declared.script.Event as script
use Rattle.dkg_text.specs.declared.script.Life.{Life}
use Rattle.dkg_script.specs.Consistent.{IsConsistentScript}
use Rattle.dkg_script.specs.OwnMarks.{IsKnownAt}
use Rattle.dkg_script.specs.Position.{awaited_before, awaited_epoch}
use Rattle.dkg_script.specs.Progress.{Progress, at_start, read}
use Rattle.dkg_script.specs.Setting.{CutAt, Setting, is_oneshot, life_at}
use Rattle.dkg_store.specs.Acts.{Ended, Held, World, broken, by_cut, says, stopped, went}
use Rattle.dkg_core.specs.Courses.{Course, EndsSo}
use Rattle.dkg_core.specs.Live.{Live, NodeStop}
use Rattle.dkg_core.specs.Node.{node_opening}
use Rattle.dkg_core.specs.Seen.{Seen}
use Rattle.dkg_core.proofs.Counted.{cuts_fall}
use Rattle.dkg_life.specs.declared.stop.Stop.{Stop}
use Rattle.dkg_life.specs.declared.stop.Stop.TheVariants.{Cut, Failed, Fault as FaultOf}
use Rattle.dkg_lives.specs.Ended.{by_node_stop}
use Rattle.dkg_lives.specs.Epochs.{IsLifeInForm}
use Rattle.dkg_lives.specs.Given.{Lived, at_step, lived, step_of}
use Rattle.dkg_lives.specs.Lives.{AnyFiles, EndsLife, LivesFrom, LivesSo, RunsAllSo, RunsSo, Steps, TakesAll, TellsEnd, Wants, fuse_for}
use Rattle.dkg_lives.specs.Ways.{StaysHeld, by_worlds}
use Rattle.dkg_lives.proofs.Awaiting.{IsBefore as IsUncut, IsReached, before_all, before_next, reached_lit}
use Rattle.dkg_along.proofs.KeptSteps.{IsAtStep}
use Rattle.dkg_along.proofs.LifeSteps.{IsLifeOfSetting}
use Rattle.dkg_along.proofs.LivesKept.{IsBetween, Rest, StandsAt, all_rest, behind, cut_before, cut_within}
use Rattle.dkg_along.proofs.RunKept.{AreLives, EndSo as EndsFrom, Grows, end_then, from_grow, front, never_back_at, run_mid}
use Rattle.dkg_along.proofs.WorldLives.{IsCounted}

abbrev U : Type 0
U = directory.Unit

module _ (s : Setting) where
  -- how far a run has come that added these
  abbrev pub come : List Entry → Progress
  come before = fold (read s) (at_start s) before

  pub come_more : (before : List Entry) (one : Entry) → come (before ++ one ∷ []) ≡ read s (come before) one
  come_more before one = fold-append (read s) (at_start s) before (one ∷ [])

  -- WHAT IS KNOWN of logs behind these lines, where this was known before them
  abbrev pub KnownAfter : (marks : Type 0) → (before : List Entry) → List Entry → Type 0
  KnownAfter marks before [] = marks
  KnownAfter marks before (one ∷ more) = KnownAfter (marks × IsKnownAt s (come before) one) (before ++ one ∷ []) more

  pub known_before : (more : List Entry) (marks : Type 0) (before : List Entry) → KnownAfter marks before more → marks
  known_before [] marks before known = known
  known_before (one ∷ more) marks before known = (known_before more (marks × IsKnownAt s (come before) one) (before ++ one ∷ []) known).0

  known_joined : (xs ys : List Entry) (marks : Type 0) (before : List Entry) → KnownAfter marks before (xs ++ ys) ≡ KnownAfter (KnownAfter marks before xs) (before ++ xs) ys
  known_joined [] ys marks before = ap (λ (b : List Entry). KnownAfter marks b ys) (sym (append-nil before))
  known_joined (one ∷ xs) ys marks before =
      known_joined xs ys (marks × IsKnownAt s (come before) one) (before ++ one ∷ [])
      ∙ ap (λ (b : List Entry). KnownAfter (KnownAfter marks before (one ∷ xs)) b ys) (append_assoc before (one ∷ []) xs)

  pub known_of : (more : List Entry) (marks : Type 0) (earlier : List Entry) → marks
      → ((before : List Entry) (one : Entry) (after : List Entry) → more ≡ before ++ one ∷ after → IsKnownAt s (come (earlier ++ before)) one) → KnownAfter marks earlier more
  known_of [] marks earlier known at = known
  known_of (one ∷ more) marks earlier known at =
      known_of more (marks × IsKnownAt s (come earlier) one) (earlier ++ one ∷ []) (known, subst (λ (b : List Entry). IsKnownAt s (come b) one) (append-nil earlier) (at [] one more refl))
      (λ before other after is. subst (λ (b : List Entry). IsKnownAt s (come b) other) (sym (append_assoc earlier (one ∷ []) before)) (at (one ∷ before) other after (ap (λ (xs : List Entry). one ∷ xs) is)))

module _ (s : Setting) (E : Type 0 → List Entry → Entry → Type 0) where
  -- E of each of these lines, where this is known of the logs delivered before
  abbrev pub EachTold : (marks : Type 0) → (before : List Entry) → List Entry → Type 0
  EachTold marks before [] = Unit {0}
  EachTold marks before (one ∷ more) = E marks before one × EachTold (marks × IsKnownAt s (come s before) one) (before ++ one ∷ []) more

  each_joined : (xs ys : List Entry) (marks : Type 0) (before : List Entry) → EachTold marks before xs → EachTold (KnownAfter s marks before xs) (before ++ xs) ys → EachTold marks before (xs ++ ys)
  each_joined [] ys marks before each more = subst (λ (b : List Entry). EachTold marks b ys) (append-nil before) more
  each_joined (one ∷ xs) ys marks before each more = (
    each.0,
    each_joined xs ys (marks × IsKnownAt s (come s before) one) (before ++ one ∷ []) each.1
        (subst (λ (b : List Entry). EachTold (KnownAfter s marks before (one ∷ xs)) b ys) (sym (append_assoc before (one ∷ []) xs)) more),
  )

  -- a line of a transcript that is told so
  pub told_at : (before : List Entry) (one : Entry) (after : List Entry) (marks : Type 0) (earlier : List Entry) → EachTold marks earlier (before ++ one ∷ after) → E (KnownAfter s marks earlier before) (earlier ++ before) one
  told_at [] one after marks earlier each = subst (λ (b : List Entry). E marks b one) (sym (append-nil earlier)) each.0
  told_at (first ∷ before) one after marks earlier each =
      subst (λ (b : List Entry). E (KnownAfter s marks earlier (first ∷ before)) b one) (append_assoc earlier (first ∷ []) before)
      (told_at before one after (marks × IsKnownAt s (come s earlier) first) (earlier ++ first ∷ []) each.1)

  -- LINES THAT ARE ADDED behind others: each is told so, and Q holds then
  pub record Told (marks : Type 0) (before old new : List Entry) (Q : Type 0 → List Entry → Type 0) : Type 0 where
    pub added : List Entry
    pub out : new ≡ old ++ added
    pub each : EachTold marks before added
    pub to : Q (KnownAfter s marks before added) (before ++ added)

  pub told_none : (marks : Type 0) (before old new : List Entry) (Q : Type 0 → List Entry → Type 0) → new ≡ old → Q marks before → Told marks before old new Q
  told_none marks before old new Q same to = record { added = []; out = same ∙ sym (append-nil old); each = tt; to = subst (Q marks) (sym (append-nil before)) to }

  pub told_first : (marks : Type 0) (before old new : List Entry) (Q : Type 0 → List Entry → Type 0) (one : Entry) → E marks before one
      → Told (marks × IsKnownAt s (come s before) one) (before ++ one ∷ []) (old ++ one ∷ []) new Q → Told marks before old new Q
  told_first marks before old new Q one so b = record {
    added = one ∷ b.added;
    out = b.out ∙ append_assoc old (one ∷ []) b.added;
    each = (so, b.each);
    to = subst (Q (KnownAfter s marks before (one ∷ b.added))) (append_assoc before (one ∷ []) b.added) b.to;
  }

  told_both : (marks : Type 0) (before old mid new : List Entry) (P Q : Type 0 → List Entry → Type 0) (a : Told marks before old mid P) → Told (KnownAfter s marks before a.added) (before ++ a.added) mid new Q → Told marks before old new Q
  told_both marks before old mid new P Q a b = record {
    added = a.added ++ b.added;
    out = b.out ∙ ap (λ (xs : List Entry). xs ++ b.added) a.out ∙ append_assoc old a.added b.added;
    each = each_joined a.added b.added marks before a.each b.each;
    to = subst (λ (known : Type 0). Q known (before ++ (a.added ++ b.added))) (sym (known_joined s a.added b.added marks before))
        (subst (Q (KnownAfter s (KnownAfter s marks before a.added) (before ++ a.added) b.added)) (append_assoc before a.added b.added) b.to);
  }

  pub told_then : (marks : Type 0) (before old mid new : List Entry) (P Q : Type 0 → List Entry → Type 0) (a : Told marks before old mid P)
      → ((later : Type 0) (b : List Entry) (added : List Entry) → (later → marks) → b ≡ before ++ added → mid ≡ old ++ added → P later b → Told later b mid new Q) → Told marks before old new Q
  told_then marks before old mid new P Q a next =
      told_both marks before old mid new P Q a (next (KnownAfter s marks before a.added) (before ++ a.added) a.added (known_before s a.added marks before) refl a.out a.to)

  module _ (ends : List (Option CutAt)) (reshares : is_oneshot s ≡ false) (consistent : IsConsistentScript s ends)
      (meant : (l : ℕ) (life : Life) (seen : Held → Seen) (files : Files) → life_at s l ≡ Some life → by_worlds.reads seen → IsLifeInForm (lived s.script l life seen files) × IsLifeOfSetting s ends (lived s.script l life seen files))
      (Between : Type 0 → ℕ → World → List Entry → Type 0)
      (Here : (l : ℕ) (life : Life) (seen : Held → Seen) (files : Files) → life_at s l ≡ Some life → by_worlds.reads seen → (cuts : List (Option CutAt)) → awaited_before s cuts l ≤ awaited_epoch s l life 0 + 1 → Type 0 → ℕ → Live U → World
      → List Entry → Type 0) where
    -- behind the line of a cut
    abbrev pub CutThen : (l : ℕ) → Type 0 → World → List Entry → cut.Cut → Type 0
    CutThen l marks w before its = Between (marks × IsKnownAt s (come s before) (entry.Cut its.step its.call)) (l + 1) (says w (entry.Cut its.step its.call)) (before ++ entry.Cut its.step its.call ∷ [])

    -- A LIFE
    module _ (l : ℕ) (life : Life) (seen : Held → Seen) (files : Files) (life_is : life_at s l ≡ Some life) (reads : by_worlds.reads seen) (cuts : List (Option CutAt)) (never_back : awaited_before s cuts l ≤ awaited_epoch s l life 0 + 1) where
      abbrev g : Lived
      g = lived s.script l life seen files

      abbrev HereIn : Type 0 → ℕ → Live U → World → List Entry → Type 0
      HereIn = Here l life seen files life_is reads cuts never_back

      -- what an opening or a step leaves (behind the line that tells it, where it went to its end)
      abbrev pub After : ℕ → Ended NodeStop (Live U) → World → Type 0 → List Entry → Type 0
      After j (went end) new later b = HereIn (later × IsKnownAt s (come s b) (entry.Step j)) j end (says new (entry.Step j)) (b ++ entry.Step j ∷ [])
      After j (stopped stop) new later b = Unit {0}
      After j (broken cause) new later b = (its : cut.Cut) → life.cut ≡ Some its → its.step ≡ j → 0 < its.call → CutThen l later new b its

      abbrev pub Left : (before : List Entry) → ℕ → Ended NodeStop (Live U) → World → Type 0 → List Entry → Type 0
      Left before j ended new later b = ((come s b).cuts ≡ (come s before).cuts) × ((come s b).step ≡ (come s before).step) × After j ended new later b

      -- what has to be shown of it
      pub record LeadsOn : Type 1 where
        pub opening : (marks : Type 0) (w : World) (before : List Entry) → IsAtStep l life 0 s (come s before) → (come s before).cuts ≡ cuts → Between marks l w before → IsReached life.cut 0
            → (f : Burn) (ended : Ended NodeStop (Live U)) (new : World) → EndsSo (node_opening (at_step g 0)) ended (record w { fuse = f }) new → Told marks before w.out new.out (Left before 0 ended new)
        pub step : (marks : Type 0) (i : ℕ) (its : script.Event) → slice_get life.events i ≡ Some its → IsReached life.cut (suc i) → (st : Live U) (w : World) (before : List Entry) → IsAtStep l life (suc i) s (come s before)
            → (come s before).cuts ≡ cuts → HereIn marks i st w before
            → (f : Burn) (ended : Ended NodeStop (Live U)) (new : World) → EndsSo (step_of g (suc i) its st) ended (record w { fuse = f }) new → Told marks before w.out new.out (Left before (suc i) ended new)
        -- behind the life, and where it is cut before a step, or before it opened
        pub over : (marks : Type 0) (st : Live U) (w : World) (b : List Entry) → IsBetween (l + 1) s (come s b) → (come s b).cuts ≡ cuts ++ None ∷ [] → HereIn marks (length life.events) st w b → Between marks (l + 1) w b
        pub unstepped : (marks : Type 0) (i : ℕ) (st : Live U) (w : World) (b : List Entry) → IsAtStep l life (suc i) s (come s b) → (come s b).cuts ≡ cuts → HereIn marks i st w b
            → (its : cut.Cut) → life.cut ≡ Some its → its.step ≡ suc i → (its.call == 0) ≡ true → CutThen l marks w b its
        pub unopened : (marks : Type 0) (w new : World) (b : List Entry) → IsAtStep l life 0 s (come s b) → (come s b).cuts ≡ cuts → Between marks l w b → new.out ≡ w.out → StaysHeld w.held new.held → (its : cut.Cut) → life.cut ≡ Some its → CutThen l marks new b its

      -- how it ended
      abbrev Ends : Result (Unit {0}) Stop → World → Type 0 → List Entry → Type 0
      Ends (Ok done) new later b = IsBetween (l + 1) s (come s b) × Between later (l + 1) new b
      Ends (Err Cut) new later b = (length (come s b).cuts ≡ l) × ((its : cut.Cut) → life.cut ≡ Some its → CutThen l later new b its)
      Ends (Err stop) new later b = Unit {0}

      module _ (plain : (marks : Type 0) (before : List Entry) (line : Entry) → IsCounted line → E marks before line) (leads : LeadsOn) where
        ends_stop : (j : ℕ) (stop : Stop) (new : World) (later : Type 0) (b : List Entry) → length (come s b).cuts ≡ l → (stop ≡ Cut → (its : cut.Cut) → life.cut ≡ Some its → (its.step ≡ j) × (0 < its.call)) → After j (by_node_stop stop) new later b
            → Ends (Err stop) new later b
        ends_stop j Cut new later b lives facts after = (lives, λ its is. let there = facts refl its is in after its is there.0 there.1)
        ends_stop j Failed new later b lives facts after = tt
        ends_stop j (FaultOf fault) new later b lives facts after = tt

        -- the cut of a course is the fuse's
        burns : {S : Type 0} (course : Course U NodeStop S) (f : Burn) (w new : World) (stop : Stop) → EndsSo course (by_node_stop stop) (record w { fuse = f }) new → stop ≡ Cut → f.spent < f.call
        burns {S} course f w new stop run is = (cuts_fall course (broken by_cut) (record w { fuse = f }) new (subst (λ (x : Stop). EndsSo course (by_node_stop {S = S} x) (record w { fuse = f }) new) is run)).0

        memory : (how : Result (Unit {0}) Stop) (new : World) (later : Type 0) (b : List Entry) → how ≡ Err (FaultOf NoMemory) → Ends how new later b
        memory how new later b is = subst (λ (h : Result (Unit {0}) Stop). Ends h new later b) (sym is) tt

        takes_told : (events : List script.Event) (marks : Type 0) (i : ℕ) (st : Live U) (w : World) (how : Result (Unit {0}) Stop) (new : World) (before : List Entry) → Rest life (suc i) events
            → StandsAt l life cuts (suc i) events s (come s before) → HereIn marks i st w before → IsUncut life.cut (suc i) → TakesAll by_worlds g (suc i) events st w how new → Told marks before w.out new.out (Ends how new)
        takes_told [] marks i st w how new before rest stands here uncut takes =
            told_none marks before w.out new.out (Ends how new) (ap (λ (x : World). x.out) takes.1)
            (subst (λ (h : Result (Unit {0}) Stop). Ends h new marks before) (sym takes.0) (
              stands.0,
              subst (λ (x : World). Between marks (l + 1) x before) (sym takes.1)
                  (leads.over marks st w before stands.0 stands.1 (subst (λ (n : ℕ). HereIn marks n st w before) (omega (arith, rest)) here)),
            ))
        takes_told (event ∷ events) marks i st w how new before rest stands here uncut takes =
            by_fuse (λ later end mid b stands here uncut more. takes_told events later (suc i) end mid how new b (subst (λ (n : ℕ). Rest life n events) (add-one (suc i)) rest.2) stands here uncut
            (subst (λ (n : ℕ). TakesAll by_worlds g n events end mid how new) (add-one (suc i)) more)) (fuse_for life.cut (suc i)) refl takes
          where
            at : IsAtStep l life (suc i) s (come s before)
            at = stands.0

            Next : Live U → World → Type 0
            Next end mid = TakesAll by_worlds g (suc i + 1) events end mid how new

            Again : Type 1
            Again = (later : Type 0) (end : Live U) (mid : World) (b : List Entry) → StandsAt l life cuts (suc (suc i)) events s (come s b) → HereIn later (suc i) end mid b → IsUncut life.cut (suc (suc i))
                → TakesAll by_worlds g (suc i + 1) events end mid how new → Told later b mid.out new.out (Ends how new)

            stepped : (f : Burn) → fuse_for life.cut (suc i) ≡ Some f → (ended : Ended NodeStop (Live U)) (mid : World) → EndsSo (step_of g (suc i) event st) ended (record w { fuse = f }) mid
                → Told marks before w.out mid.out (Left before (suc i) ended mid)
            stepped f fuse ended mid run = leads.step marks i event rest.0 (reached_lit life.cut (suc i) f fuse uncut) st w before at stands.1 here f ended mid run

            by_fuse : Again → (o : Option Burn) → fuse_for life.cut (suc i) ≡ o → Steps by_worlds (entry.Step (suc i)) o (step_of g (suc i) event st) w how new Next → Told marks before w.out new.out (Ends how new)
            by_fuse again None fuse steps =
                told_none marks before w.out new.out (Ends how new) (ap (λ (x : World). x.out) steps.1)
                (subst (λ (h : Result (Unit {0}) Stop). Ends h new marks before) (sym steps.0) (subst (λ (x : World). Ends (Err Cut) x marks before) (sym steps.1)
                (at.lives, λ its is. let there = cut_before life.cut (suc i) fuse its is in leads.unstepped marks i st w before at stands.1 here its is there.0 there.1)))
            by_fuse again (Some f) fuse (inl wants) = told_none marks before w.out new.out (Ends how new) (ap (λ (x : World). x.out) wants.1) (memory how new marks before wants.0)
            by_fuse again (Some f) fuse (inr (inl stops)) =
                told_then marks before w.out new.out new.out (Left before (suc i) (by_node_stop stops.0) new) (Ends how new) (stepped f fuse (by_node_stop stops.0) new stops.2.0)
                (λ later b added earlier b_is out left. told_none later b new.out new.out (Ends how new) refl (subst (λ (h : Result (Unit {0}) Stop). Ends h new later b) (sym stops.1)
                (ends_stop (suc i) stops.0 new later b (ap length left.0 ∙ at.lives)
                (λ is its there. cut_within life.cut (suc i) f fuse (burns (step_of g (suc i) event st) f w new stops.0 stops.2.0 is) its there) left.2)))
            by_fuse again (Some f) fuse (inr (inr done)) =
                told_then marks before w.out done.1.out new.out (Left before (suc i) (went done.0) done.1) (Ends how new) (stepped f fuse (went done.0) done.1 done.2.0)
                (λ later b added earlier b_is out left. by_next later b left done.3)
              where
                by_next : (later : Type 0) (b : List Entry) → Left before (suc i) (went done.0) done.1 later b → Wants how done.1 new ⊎ Next done.0 (says done.1 (entry.Step (suc i))) → Told later b done.1.out new.out (Ends how new)
                by_next later b left (inl wants) = told_none later b done.1.out new.out (Ends how new) (ap (λ (x : World). x.out) wants.1) (memory how new later b wants.0)
                by_next later b left (inr more) =
                    let lives : length (come s b).cuts ≡ l = ap length left.0 ∙ at.lives in
                    let step : (come s b).step ≡ suc i = left.1 ∙ at.step in
                    let are : (come s b).cuts ≡ cuts = left.0 ∙ stands.1 in
                    told_first later b done.1.out new.out (Ends how new) (entry.Step (suc i)) (plain later b (entry.Step (suc i)) tt)
                    (again (later × IsKnownAt s (come s b) (entry.Step (suc i))) done.0 (says done.1 (entry.Step (suc i))) (b ++ entry.Step (suc i) ∷ [])
                    (subst (StandsAt l life cuts (suc (suc i)) events s) (sym (come_more s b (entry.Step (suc i))))
                    (subst (λ (n : ℕ). StandsAt l life cuts n events s (read s (come s b) (entry.Step (suc i)))) (add-one (suc i)) (behind s l life cuts (suc i) (come s b) life_is lives step are events rest.2)))
                    left.2
                    (subst (λ (n : ℕ). IsUncut life.cut n) (add-one (suc i)) (before_next life.cut (suc i) (reached_lit life.cut (suc i) f fuse uncut))) more)

        -- from its opening on
        pub life_told : (its_files : Files) (marks : Type 0) (w : World) (how : Result (Unit {0}) Stop) (new : World) (before : List Entry) → IsAtStep l life 0 s (come s before) → (come s before).cuts ≡ cuts → Between marks l w before
            → LivesSo by_worlds g its_files w how new → Told marks before w.out new.out (Ends how new)
        life_told its_files marks w how new before at are here (inr refused) =
            told_none marks before w.out new.out (Ends how new) refused.1.2.1
            (subst (λ (h : Result (Unit {0}) Stop). Ends h new marks before) (sym refused.1.1) (ends_refused refused.1.0))
          where
            ends_refused : (stop : Stop) → Ends (Err stop) new marks before
            ends_refused Cut = (at.lives, λ its is. leads.unopened marks w new before at are here refused.1.2.1 refused.1.2.2 its is)
            ends_refused Failed = tt
            ends_refused (FaultOf fault) = tt
        life_told its_files marks w how new before at are here (inl lives) = by_fuse (fuse_for life.cut 0) refl lives
          where
            Next : Live U → World → Type 0
            Next end mid = TakesAll by_worlds g 1 life.events end mid how new

            stays : StaysHeld w.held w.held
            stays = record { entries = refl; plan = refl; secrets = refl }

            opened : (f : Burn) → fuse_for life.cut 0 ≡ Some f → (ended : Ended NodeStop (Live U)) (mid : World) → EndsSo (node_opening (at_step g 0)) ended (record w { fuse = f }) mid
                → Told marks before w.out mid.out (Left before 0 ended mid)
            opened f fuse ended mid run = leads.opening marks w before at are here (reached_lit life.cut 0 f fuse (before_all life.cut)) f ended mid run

            by_fuse : (o : Option Burn) → fuse_for life.cut 0 ≡ o → Steps by_worlds (entry.Step 0) o (node_opening (at_step g 0)) w how new Next → Told marks before w.out new.out (Ends how new)
            by_fuse None fuse steps =
                told_none marks before w.out new.out (Ends how new) (ap (λ (x : World). x.out) steps.1)
                (subst (λ (h : Result (Unit {0}) Stop). Ends h new marks before) (sym steps.0) (subst (λ (x : World). Ends (Err Cut) x marks before) (sym steps.1)
                (at.lives, λ its is. leads.unopened marks w w before at are here refl stays its is)))
            by_fuse (Some f) fuse (inl wants) = told_none marks before w.out new.out (Ends how new) (ap (λ (x : World). x.out) wants.1) (memory how new marks before wants.0)
            by_fuse (Some f) fuse (inr (inl stops)) =
                told_then marks before w.out new.out new.out (Left before 0 (by_node_stop stops.0) new) (Ends how new) (opened f fuse (by_node_stop stops.0) new stops.2.0)
                (λ later b added earlier b_is out left. told_none later b new.out new.out (Ends how new) refl (subst (λ (h : Result (Unit {0}) Stop). Ends h new later b) (sym stops.1)
                (ends_stop 0 stops.0 new later b (ap length left.0 ∙ at.lives)
                (λ is its there. cut_within life.cut 0 f fuse (burns (node_opening (at_step g 0)) f w new stops.0 stops.2.0 is) its there) left.2)))
            by_fuse (Some f) fuse (inr (inr done)) =
                told_then marks before w.out done.1.out new.out (Left before 0 (went done.0) done.1) (Ends how new) (opened f fuse (went done.0) done.1 done.2.0)
                (λ later b added earlier b_is out left. by_next later b left done.3)
              where
                by_next : (later : Type 0) (b : List Entry) → Left before 0 (went done.0) done.1 later b → Wants how done.1 new ⊎ Next done.0 (says done.1 (entry.Step 0)) → Told later b done.1.out new.out (Ends how new)
                by_next later b left (inl wants) = told_none later b done.1.out new.out (Ends how new) (ap (λ (x : World). x.out) wants.1) (memory how new later b wants.0)
                by_next later b left (inr more) =
                    let lives : length (come s b).cuts ≡ l = ap length left.0 ∙ at.lives in
                    let step : (come s b).step ≡ 0 = left.1 ∙ at.step in
                    let its_are : (come s b).cuts ≡ cuts = left.0 ∙ are in
                    told_first later b done.1.out new.out (Ends how new) (entry.Step 0) (plain later b (entry.Step 0) tt)
                    (takes_told life.events (later × IsKnownAt s (come s b) (entry.Step 0)) 0 done.0 (says done.1 (entry.Step 0)) how new (b ++ entry.Step 0 ∷ []) (all_rest life)
                    (subst (StandsAt l life cuts 1 life.events s) (sym (come_more s b (entry.Step 0))) (behind s l life cuts 0 (come s b) life_is lives step its_are life.events (all_rest life)))
                    left.2
                    (before_next life.cut 0 (reached_lit life.cut 0 f fuse (before_all life.cut))) more)

    -- ALL LIVES
    module _ (plain : (marks : Type 0) (before : List Entry) (line : Entry) → IsCounted line → E marks before line)
        (leads : (l : ℕ) (life : Life) (seen : Held → Seen) (files : Files) (life_is : life_at s l ≡ Some life) (reads : by_worlds.reads seen) (cuts : List (Option CutAt))
        (never_back : awaited_before s cuts l ≤ awaited_epoch s l life 0 + 1) (began : (more : List (Option CutAt)) × (ends ≡ cuts ++ more)) → LeadsOn l life seen files life_is reads cuts never_back) where
      abbrev pub Any : Type 0 → List Entry → Type 0
      Any marks b = Unit {0}

      abbrev EndSo : World → World → Progress → Type 0
      EndSo = EndsFrom s ends reshares consistent meant

      between_cut : (l : ℕ) (b : List Entry) (its : cut.Cut) → length (come s b).cuts ≡ l → IsBetween (l + 1) s (come s (b ++ entry.Cut its.step its.call ∷ []))
      between_cut l b its lives =
          subst (IsBetween (l + 1) s) (sym (come_more s b (entry.Cut its.step its.call)))
          (record { lives = length-append (come s b).cuts (Some (record { step = its.step; call = its.call }) ∷ []) ∙ ap (λ (n : ℕ). n + 1) lives; step = refl; nothing = refl })

      come_joined : (b added : List Entry) → come s (b ++ added) ≡ fold (read s) (come s b) added
      come_joined b added = fold-append (read s) (at_start s) b added

      pub from_told : (lives : List Life) (first : Files → Type 0) (l : ℕ) (marks : Type 0) (w : World) (result : Result (Unit {0}) Fault) (new : World) (before : List Entry) → AreLives s l lives → IsBetween l s (come s before) → Between marks l w before
          → EndSo w new (come s before) → LivesFrom by_worlds s.script first l lives w result new → Told marks before w.out new.out Any
      from_told [] first l marks w result new before are between here fin run = told_none marks before w.out new.out Any (ap (λ (x : World). x.out) run.1) tt
      from_told (life ∷ lives) first l marks w result new before are between here fin run =
          told_then marks before w.out run.3.out new.out (Ends l life run.0 run.1 are.0 run.4 (come s before).cuts back run.2 run.3) Any
          (life_told l life run.0 run.1 are.0 run.4 (come s before).cuts back plain (leads l life run.0 run.1 are.0 run.4 (come s before).cuts back began) run.1 marks w run.2 run.3 before
          (record { life_is = are.0; lives = between.lives; step = between.step; nothing = between.nothing }) refl here run.7)
          (λ later b added earlier b_is out ended. by_how (λ later mid c between here fin more. from_told lives AnyFiles (l + 1) later mid result new c are.1 between here fin more) run.2 later b
          (subst (EndSo run.3 new) (sym (ap (come s) b_is ∙ come_joined before added)) (end_then s ends reshares consistent meant w run.3 new (come s before) added out fin)) ended run.8)
        where
          grows : Grows w new
          grows = from_grow s.script first l (life ∷ lives) w result new run

          began : (more : List (Option CutAt)) × (ends ≡ (come s before).cuts ++ more)
          began = front s ends reshares consistent meant w new (come s before) grows fin

          back : awaited_before s (come s before).cuts l ≤ awaited_epoch s l life 0 + 1
          back = never_back_at s ends reshares consistent meant (come s before) l life are.0 between.lives began

          Rests : World → Type 0
          Rests mid = LivesFrom by_worlds s.script AnyFiles (l + 1) lives mid result new

          On : Type 1
          On = (later : Type 0) (mid : World) (c : List Entry) → IsBetween (l + 1) s (come s c) → Between later (l + 1) mid c → EndSo mid new (come s c) → Rests mid → Told later c mid.out new.out Any

          Ended_so : Result (Unit {0}) Stop → Type 0 → List Entry → Type 0
          Ended_so how = Ends l life run.0 run.1 are.0 run.4 (come s before).cuts back how run.3

          by_cut : On → (o : Option cut.Cut) → life.cut ≡ o → (later : Type 0) (b : List Entry) → EndSo run.3 new (come s b) → Ended_so (Err Cut) later b
              → IsSomeAnd o (λ its. ((result ≡ Err NoMemory) × (new ≡ run.3)) ⊎ Rests (says run.3 (entry.Cut its.step its.call))) → Told later b run.3.out new.out Any
          by_cut on None is later b fin ended ends_so = absurd ends_so
          by_cut on (Some its) is later b fin ended (inl wants) = told_none later b run.3.out new.out Any (ap (λ (x : World). x.out) wants.1) tt
          by_cut on (Some its) is later b fin ended (inr more) =
              told_first later b run.3.out new.out Any (entry.Cut its.step its.call) (plain later b (entry.Cut its.step its.call) tt)
              (on (later × IsKnownAt s (come s b) (entry.Cut its.step its.call)) (says run.3 (entry.Cut its.step its.call)) (b ++ entry.Cut its.step its.call ∷ []) (between_cut l b its ended.0) (ended.1 its is)
              (λ rest out. ap (λ (p : Progress). (fold (read s) p rest).cuts) (come_more s b (entry.Cut its.step its.call))
              ∙ fin (entry.Cut its.step its.call ∷ rest) (out ∙ append_assoc run.3.out (entry.Cut its.step its.call ∷ []) rest)) more)

          by_how : On → (how : Result (Unit {0}) Stop) (later : Type 0) (b : List Entry) → EndSo run.3 new (come s b) → Ended_so how later b → EndsLife by_worlds life how run.3 result new Rests → Told later b run.3.out new.out Any
          by_how on (Ok done) later b fin ended ends_so = on later run.3 b ended.0 ended.1 fin ends_so
          by_how on (Err Cut) later b fin ended ends_so = by_cut on life.cut refl later b fin ended ends_so
          by_how on (Err (FaultOf fault)) later b fin ended ends_so = told_none later b run.3.out new.out Any (ap (λ (x : World). x.out) ends_so.1) tt
          by_how on (Err Failed) later b fin ended ends_so = absurd ends_so

      -- THE RUN
      pub run_told : (first : Files → Type 0) (marks : Type 0) (w : World) (answered : Result (Unit {0}) Fault) (new : World) → AreLives s 0 s.script.lives → Between marks 0 w [] → EndSo w new (at_start s)
          → RunsSo by_worlds s.script first w answered new → Told marks [] w.out new.out Any
      run_told first marks w answered new are here fin run = by_lives run.lives
        where
          mid_fin : EndSo w run.mid (at_start s)
          mid_fin = run_mid s ends reshares consistent meant run.result answered w run.mid new (at_start s) run.told fin

          lives : Told marks [] w.out run.mid.out Any → Told marks [] w.out new.out Any
          lives a = told_then marks [] w.out run.mid.out new.out Any Any a (λ later b added earlier b_is out any. by_end run.result run.told later b)
            where
              by_end : (result : Result (Unit {0}) Fault) → TellsEnd by_worlds result answered run.mid new → (later : Type 0) (b : List Entry) → Told later b run.mid.out new.out Any
              by_end (Ok done) told later b = told_none later b run.mid.out new.out Any (ap (λ (x : World). x.out) told.1) tt
              by_end (Err fault) (inl wants) later b = told_none later b run.mid.out new.out Any (ap (λ (x : World). x.out) wants.1) tt
              by_end (Err fault) (inr told) later b =
                  told_first later b run.mid.out new.out Any (entry.Fault fault) (plain later b (entry.Fault fault) tt)
                  (told_none (later × IsKnownAt s (come s b) (entry.Fault fault)) (b ++ entry.Fault fault ∷ []) (run.mid.out ++ entry.Fault fault ∷ []) new.out Any (ap (λ (x : World). x.out) told.2) tt)

          -- no life began
          untouched : run.mid ≡ w → Told marks [] w.out new.out Any
          untouched same = lives (told_none marks [] w.out run.mid.out Any (ap (λ (x : World). x.out) same) tt)

          by_lives : RunsAllSo by_worlds s.script first w run.result run.mid → Told marks [] w.out new.out Any
          by_lives (inl (fault, refused, is, same)) = untouched same
          by_lives (inr (checked, inl wants)) = untouched wants.1
          by_lives (inr (checked, inr more)) = lives (from_told s.script.lives first 0 marks w run.result run.mid [] are (record { lives = refl; step = refl; nothing = refl }) here mid_fin more)
