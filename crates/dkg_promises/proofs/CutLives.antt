-- A run over a script is one over the script as it was cut, with the same lines: what lies behind a cut step was never taken.
use Rattle.std.proofs.Common.{◌≡◌, ◌≢◌, ◌⊎◌, inl, inr, ℕ, zero, suc, ◌+◌, ◌<◌, List, [], ◌∷◌, ◌++◌, Option, Some, None, Bool, true, false, refl, sym, ◌∙◌, ap, subst, length, take, arith, append_assoc, append-nil}
use Rattle.std.specs.Prelude.{fold, Result, Ok, Err, IsSomeAnd, ◌==◌, if◌then◌else◌}
use Rattle.std.specs.Option.{option_map_or}
use Rattle.std.proofs.lemmas.List.{take-take}
use Rattle.std.proofs.lemmas.List.Sums.{fold-append}
use Rattle.dkg_journal.specs.Burn.{Burn}
use Rattle.dkg_journal.specs.Names.{Files}
use Rattle.dkg_types.specs.Blocks.{Block}
use Rattle.dkg_infos.specs.declared.directory.Unit as directory
use Rattle.dkg_infos.specs.declared.entry.Entry.{Entry}
use Rattle.dkg_infos.specs.declared.entry.Entry.TheVariants as entry
use Rattle.dkg_infos.specs.declared.fault.Fault.{Fault}
use Rattle.dkg_infos.specs.declared.fault.Fault.TheVariants.{NoMemory}
use Rattle.dkg_text.specs.declared.script.Cut as cut
use Rattle.dkg_text.specs.declared.script.Event.{Event}
use Rattle.dkg_text.specs.declared.script.Life.{Life}
use Rattle.dkg_text.specs.declared.script.Script.{Script}
use Rattle.dkg_store.specs.Acts.{Held, at, moment, went}
use Rattle.dkg_secrets.specs.Secrets.{Secrets}
use Rattle.dkg_script.specs.AsCut.{as_cut, life_as_cut, lives_as_cut}
use Rattle.dkg_script.specs.Progress.{Progress, at_start, progress, read}
use Rattle.dkg_script.specs.Setting.{CutAt, Setting, life_at, setting_of}
use Rattle.dkg_core.specs.Courses.{Course, Goes}
use Rattle.dkg_core.specs.Fixed.{Fixed}
use Rattle.dkg_core.specs.Live.{Live, NodeStop}
use Rattle.dkg_core.specs.Node.{node_opening, node_step}
use Rattle.dkg_core.specs.Seen.{Seen}
use Rattle.dkg_core.specs.Sources.{source_of}
use Rattle.dkg_life.specs.declared.stop.Stop.{Stop}
use Rattle.dkg_life.specs.declared.stop.Stop.TheVariants.{Cut, Failed, Fault as FaultOf}
use Rattle.dkg_lives.specs.Ended.{by_node_stop}
use Rattle.dkg_lives.specs.Given.{Lived, anchor_in, at_step, blocks_in, delivered_by, node_event_in, lived, numbered, step_of, unsealed}
use Rattle.dkg_lives.specs.Lives.{AnyFiles, EndsLife, LivesFrom, LivesSo, RunsAllSo, RunsOver, RunsSo, Steps, TakesAll, TellsEnd, fuse_for, never}
use Rattle.dkg_lives.specs.Ways.{Way, by_entries, by_worlds, trace}
use Rattle.dkg_along.proofs.Ordered.{lit_within, unlit}
use Rattle.dkg_promises.proofs.Keeping.{lives_of, same_behind}
use Rattle.dkg_along.proofs.Leading.{After, IsInStep, Leads, TellsLines, leads_none, leads_then, life_leads, lines_tell, worlds_tell}
use Rattle.dkg_along.proofs.RunKept.{AreLives}

abbrev U : Type 0
U = directory.Unit

-- A LIFE OF THE SCRIPT WITH OTHER LIVES, and with these events alone

-- a step, where another course is the same and what comes then follows
steps_as : {W : Type 0} (way : Way W) (line : Entry) (o : Option Burn) (course other : Course U NodeStop (Live U)) (w : W) (how : Result (Unit {0}) Stop) (new : W) (next next_other : Live U → W → Type 0)
    → course ≡ other → ((f : Burn) → o ≡ Some f → (end : Live U) (mid : W) → next end mid → next_other end mid) → Steps way line o course w how new next → Steps way line o other w how new next_other
steps_as {W} way line o course other w how new next next_other same on its = subst (λ (c : Course U NodeStop (Live U)). Steps way line o c w how new next_other) same (by_fuse o refl its)
  where
    by_fuse : (its : Option Burn) → o ≡ its → Steps way line its course w how new next → Steps way line its course w how new next_other
    by_fuse None lit steps = steps
    by_fuse (Some f) lit (inl wants) = inl wants
    by_fuse (Some f) lit (inr (inl stops)) = inr (inl stops)
    by_fuse (Some f) lit (inr (inr (end, mid, goes, inl wants))) = inr (inr (end, mid, goes, inl wants))
    by_fuse (Some f) lit (inr (inr (end, mid, goes, inr so))) = inr (inr (end, mid, goes, inr (on f lit end (way.says mid line) so)))

err_ok : {x : Stop} → ◌≡◌ {A = Result (Unit {0}) Stop} (Err x) (Ok tt) → ⊥
err_ok e = cc

cut_fault : {x : Fault} → ◌≡◌ {A = Result (Unit {0}) Stop} (Err Cut) (Err (FaultOf x)) → ⊥
cut_fault e = cc

same_stop : {x y : Stop} → ◌≡◌ {A = Result (Unit {0}) Stop} (Err x) (Err y) → x ≡ y
same_stop e = cc

some_of : (P : cut.Cut → Type 0) (o : Option cut.Cut) (its : cut.Cut) → o ≡ Some its → IsSomeAnd o P → P its
some_of P o its is so = subst (λ (x : Option cut.Cut). IsSomeAnd x P) is so

module _ (script : Script) (lives : List Life) (l : ℕ) (life : Life) (seen : Held → Seen) (files : Files) where
  abbrev g : Lived
  g = lived script l life seen files

  abbrev with_events : List Event → Lived
  with_events events = lived (record script { lives = lives }) l (record life { events = events }) seen files

  same_blocks : blocks_in (record script { lives = lives }) ≡ blocks_in script
  unfolding blocks_in
  same_blocks = refl

  same_at : (events : List Event) (j : ℕ) → take j events ≡ take j life.events → at_step (with_events events) j ≡ at_step g j
  unfolding at_step blocks_in
  same_at events j e = subst (λ (es : List Event). at_step (with_events events) j
      ≡ record (at_step g j) { source = source_of unsealed (anchor_in (blocks_in script) life.anchor) (numbered (blocks_in script) life.held) (delivered_by (blocks_in script) es) }) e refl

  same_step : (events : List Event) (j : ℕ) → take j events ≡ take j life.events → (event : Event) (st : Live U) → step_of g j event st ≡ step_of (with_events events) j event st
  same_step events j e event st = sym
      (ap (λ (c : Fixed U). option_map_or (λ its. node_step c its st) (node_event_in (blocks_in (record script { lives = lives })) event) (Goes st)) (same_at events j e)
      ∙ ap (λ (bs : List (Block U)). option_map_or (λ its. node_step (at_step g j) its st) (node_event_in bs event) (Goes st)) same_blocks)

  module _ {W : Type 0} (way : Way W) where
    -- with all its events
    takes_as : (events : List Event) (j : ℕ) (st : Live U) (w : W) (how : Result (Unit {0}) Stop) (new : W) → TakesAll way g j events st w how new → TakesAll way (with_events life.events) j events st w how new
    takes_as [] j st w how new takes = takes
    takes_as (event ∷ events) j st w how new takes =
        steps_as way (entry.Step j) (fuse_for life.cut j) (step_of g j event st) (step_of (with_events life.events) j event st) w how new
        (λ end mid. TakesAll way g (j + 1) events end mid how new) (λ end mid. TakesAll way (with_events life.events) (j + 1) events end mid how new)
        (same_step life.events j refl event st) (λ f lit end mid so. takes_as events (j + 1) end mid how new so) takes

    lives_as : (w : W) (how : Result (Unit {0}) Stop) (new : W) → LivesSo way g files w how new → LivesSo way (with_events life.events) files w how new
    lives_as w how new (inr refused) = inr refused
    lives_as w how new (inl steps) = inl (steps_as way (entry.Step 0) (fuse_for life.cut 0) (node_opening (at_step g 0)) (node_opening (at_step (with_events life.events) 0)) w how new
        (λ end mid. TakesAll way g 1 life.events end mid how new) (λ end mid. TakesAll way (with_events life.events) 1 life.events end mid how new)
        (ap node_opening (sym (same_at life.events 0 refl))) (λ f lit end mid so. takes_as life.events 1 end mid how new so) steps)

    -- cut within a step: with the events up to it
    module _ (tells : TellsLines way) (its : cut.Cut) (its_is : life.cut ≡ Some its) (some : 0 < its.call) where
      abbrev front : Lived
      front = with_events (take its.step life.events)

      not_before : (j : ℕ) → fuse_for life.cut j ≡ None → ⊥
      not_before j none = let at = some_of (λ (c : cut.Cut). (c.step ≡ j) × (c.call ≡ 0)) life.cut its its_is (unlit life.cut j none) in let zero_call : its.call ≡ 0 = at.1 in omega (arith, some, zero_call)

      -- the step whose fuse burns is the cut's
      at_cut : (j : ℕ) (course : Course U NodeStop (Live U)) (f : Burn) (stop : Stop) (w new : W) → fuse_for life.cut j ≡ Some f → stop ≡ Cut → way.goes course (by_node_stop stop) f w new → its.step ≡ j
      at_cut j course f stop w new lit is goes =
          (some_of (λ (c : cut.Cut). (c.step ≡ j) × (c.call ≢ 0)) life.cut its its_is (lit_within life.cut j f lit (tells.burns course f w new (subst (λ (x : Stop). way.goes course (by_node_stop x) f w new) is goes)))).0

      -- with so many events behind this one, up to the cut's step
      abbrev Takes : List Event → ℕ → Live U → W → W → Type 0
      Takes events j st w new = (k : ℕ) × (j + k ≡ its.step) × TakesAll way front j (take (suc k) events) st w (Err Cut) new

      course_up : (j k : ℕ) → j + k ≡ its.step → (event : Event) (st : Live U) → step_of g j event st ≡ step_of front j event st
      course_up j k is event st = same_step (take its.step life.events) j (take-take j its.step life.events (omega (arith, is))) event st

      takes_front : (events : List Event) (j : ℕ) (st : Live U) (w new : W) → TakesAll way g j events st w (Err Cut) new → Takes events j st w new
      takes_front [] j st w new takes = absurd (err_ok takes.0)
      takes_front (event ∷ events) j st w new takes = by_fuse (λ end mid so. takes_front events (j + 1) end mid new so) (fuse_for life.cut j) refl takes
        where
          by_fuse : ((end : Live U) (mid : W) → TakesAll way g (j + 1) events end mid (Err Cut) new → Takes events (j + 1) end mid new) → (o : Option Burn) → fuse_for life.cut j ≡ o
              → Steps way (entry.Step j) o (step_of g j event st) w (Err Cut) new (λ end mid. TakesAll way g (j + 1) events end mid (Err Cut) new) → Takes (event ∷ events) j st w new
          by_fuse on None lit steps = absurd (not_before j lit)
          by_fuse on (Some f) lit (inl wants) = absurd (cut_fault wants.0)
          by_fuse on (Some f) lit (inr (inl (stop, is, goes))) =
              let there : its.step ≡ j = at_cut j (step_of g j event st) f stop w new lit (sym (same_stop is)) goes in
              let up : j + 0 ≡ its.step = omega (arith, there) in (
                0,
                up,
                subst (λ (o : Option Burn). Steps way (entry.Step j) o (step_of front j event st) w (Err Cut) new (λ end mid. TakesAll way front (j + 1) [] end mid (Err Cut) new)) (sym lit)
                    (inr (inl (stop, is, subst (λ (c : Course U NodeStop (Live U)). way.goes c (by_node_stop stop) f w new) (course_up j 0 up event st) goes))),
              )
          by_fuse on (Some f) lit (inr (inr (end, mid, goes, inl wants))) = absurd (cut_fault wants.0)
          by_fuse on (Some f) lit (inr (inr (end, mid, goes, inr so))) =
              let more : Takes events (j + 1) end (way.says mid (entry.Step j)) new = on end (way.says mid (entry.Step j)) so in
              let up : j + suc more.0 ≡ its.step = let is : j + 1 + more.0 ≡ its.step = more.1 in omega (arith, is) in (
                suc more.0,
                up,
                subst (λ (o : Option Burn). Steps way (entry.Step j) o (step_of front j event st) w (Err Cut) new (λ end mid. TakesAll way front (j + 1) (take (suc more.0) events) end mid (Err Cut) new)) (sym lit)
                    (inr (inr (end, mid, subst (λ (c : Course U NodeStop (Live U)). way.goes c (went end) f w mid) (course_up j (suc more.0) up event st) goes, inr more.2))),
              )

      lives_front : (w new : W) → LivesSo way g files w (Err Cut) new → LivesSo way front files w (Err Cut) new
      lives_front w new (inr refused) = inr refused
      lives_front w new (inl steps) = inl (steps_as way (entry.Step 0) (fuse_for life.cut 0) (node_opening (at_step g 0)) (node_opening (at_step front 0)) w (Err Cut) new
          (λ end mid. TakesAll way g 1 life.events end mid (Err Cut) new) (λ end mid. TakesAll way front 1 (take its.step life.events) end mid (Err Cut) new)
          (ap node_opening (sym (same_at (take its.step life.events) 0 refl)))
          (λ f lit end mid so. all_front end mid new (takes_front life.events 1 end mid new so)) steps)
        where
          all_front : (end : Live U) (mid new : W) → Takes life.events 1 end mid new → TakesAll way front 1 (take its.step life.events) end mid (Err Cut) new
          all_front end mid new (k, is, takes) =
              let up : suc k ≡ its.step = omega (arith, is) in subst (λ (n : ℕ). TakesAll way front 1 (take n life.events) end mid (Err Cut) new) up takes

    -- cut anyhow
    lives_cut : (tells : TellsLines way) (its : cut.Cut) → life.cut ≡ Some its → (w new : W) → LivesSo way g files w (Err Cut) new
        → LivesSo way (lived (record script { lives = lives }) l (life_as_cut (Some (record { step = its.step; call = its.call })) life) seen files) files w (Err Cut) new
    lives_cut tells its is w new so = by_call (its.call == 0) refl
      where
        some : (its.call == 0) ≡ false → 0 < its.call
        some e = by_number its.call e
          where
            by_number : (n : ℕ) → (n == 0) ≡ false → 0 < n
            by_number zero e = absurd (let wrong : true ≡ false = e in cc)
            by_number (suc n) e = omega arith

        by_call : (b : Bool) → (its.call == 0) ≡ b → LivesSo way (with_events (if b then life.events else take its.step life.events)) files w (Err Cut) new
        by_call true e = lives_as w (Err Cut) new so
        by_call false e = lives_front tells its is (some e) w new so

-- THE LIVES OF A RUN

module _ {W : Type 0} (way : Way W) (tells : TellsLines way) (script : Script) (s : Setting) where
  abbrev over : List Life → Script
  over lives = record script { lives = lives }

  -- these lives were cut so
  record CutSo (first : Files → Type 0) (l : ℕ) (lives : List Life) (w : W) (result : Result (Unit {0}) Fault) (new : W) (cs : List (Option CutAt)) (p : Progress) : Type 0 where
    pub added : List Entry
    pub out : tells.out new ≡ tells.out w ++ added
    pub ends : List (Option CutAt)
    pub cuts : (fold (read s) p added).cuts ≡ cs ++ ends
    pub so : (all : List Life) → LivesFrom way (over all) first l (lives_as_cut ends lives) w result new

  -- no life ended
  cut_none : (first : Files → Type 0) (l : ℕ) (lives : List Life) (w : W) (result : Result (Unit {0}) Fault) (new : W) (cs : List (Option CutAt)) (p : Progress)
      → Leads s p (tells.out w) (tells.out new) (λ q. q.cuts ≡ cs) → ((all : List Life) → LivesFrom way (over all) first l lives w result new) → CutSo first l lives w result new cs p
  cut_none first l lives w result new cs p leads so = record {
    added = leads.added;
    out = leads.out;
    ends = [];
    cuts = leads.to ∙ sym (append-nil cs);
    so = so;
  }

  -- one ended so, and the others behind it
  cut_more : (first : Files → Type 0) (l : ℕ) (life : Life) (lives : List Life) (w mid : W) (result : Result (Unit {0}) Fault) (new : W) (cs : List (Option CutAt)) (end : Option CutAt) (p : Progress)
      (leads : Leads s p (tells.out w) (tells.out mid) (IsInStep (cs ++ end ∷ []) 0)) → CutSo AnyFiles (l + 1) lives mid result new (cs ++ end ∷ []) (fold (read s) p leads.added)
      → ((all more : List Life) → LivesFrom way (over all) AnyFiles (l + 1) more mid result new → LivesFrom way (over all) first l (life_as_cut end life ∷ more) w result new) → CutSo first l (life ∷ lives) w result new cs p
  cut_more first l life lives w mid result new cs end p leads rest one = record {
    added = leads.added ++ rest.added;
    out = rest.out ∙ ap (λ (xs : List Entry). xs ++ rest.added) leads.out ∙ append_assoc (tells.out w) leads.added rest.added;
    ends = end ∷ rest.ends;
    cuts = ap (λ (q : Progress). q.cuts) (fold-append (read s) p leads.added rest.added) ∙ rest.cuts ∙ append_assoc cs (end ∷ []) rest.ends;
    so = λ all. one all (lives_as_cut rest.ends lives) (rest.so all);
  }

  longer : (cs : List (Option CutAt)) (end : Option CutAt) (l : ℕ) → length cs ≡ l → length (cs ++ end ∷ []) ≡ l + 1
  longer [] end l is = let none : 0 ≡ l = is in omega (arith, none)
  longer (c ∷ cs) end l is = let rest : length (cs ++ end ∷ []) ≡ length cs + 1 = longer cs end (length cs) refl in let here : length (c ∷ cs) ≡ l = is in omega (arith, rest, here)

  from_cut : (lives : List Life) (first : Files → Type 0) (l : ℕ) (w : W) (result : Result (Unit {0}) Fault) (new : W) (cs : List (Option CutAt)) (p : Progress) → AreLives s l lives → length cs ≡ l → IsInStep cs 0 p
      → LivesFrom way script first l lives w result new → CutSo first l lives w result new cs p
  from_cut [] first l w result new cs p are lives at ends =
      cut_none first l [] w result new cs p (leads_none s p (tells.out w) (tells.out new) (λ q. q.cuts ≡ cs) (ap tells.out ends.1) at.cuts) (λ all. ends)
  from_cut (life ∷ lives) first l w result new cs p are count at (seen, files, how, mid, reads, known, begins, so, ends) =
      by_how (λ mid cs q count at more. from_cut lives AnyFiles (l + 1) mid result new cs q are.1 count at more) how so
      (life_leads s life cs life_is way tells (lived script l life seen files) refl files w how mid p at so) ends
    where
      life_is : life_at s (length cs) ≡ Some life
      life_is = ap (life_at s) count ∙ are.0

      Rests : W → Type 0
      Rests mid = LivesFrom way script AnyFiles (l + 1) lives mid result new

      On : Type 0
      On = (mid : W) (cs : List (Option CutAt)) (q : Progress) → length cs ≡ l + 1 → IsInStep cs 0 q → Rests mid → CutSo AnyFiles (l + 1) lives mid result new cs q

      -- the life as it is, which ends the run
      ends_here : (how : Result (Unit {0}) Stop) → LivesSo way (lived script l life seen files) files w how mid → ((next : W → Type 0) → EndsLife way life how mid result new next)
          → (all : List Life) → LivesFrom way (over all) first l (life ∷ lives) w result new
      ends_here how so ends all = (seen, files, how, mid, reads, known, begins, lives_as script all l life seen files way w how mid so, ends (λ mid. LivesFrom way (over all) AnyFiles (l + 1) lives mid result new))

      wants_cut : (o : Option cut.Cut) (its : cut.Cut) → o ≡ Some its → ((result ≡ Err NoMemory) × (new ≡ way.stops mid its.pick)) → (next : W → Type 0)
          → IsSomeAnd o (λ its. ((result ≡ Err NoMemory) × (new ≡ way.stops mid its.pick)) ⊎ next (way.says (way.stops mid its.pick) (entry.Cut its.step its.call)))
      wants_cut o its is wants next = subst (λ (x : Option cut.Cut). IsSomeAnd x (λ its. ((result ≡ Err NoMemory) × (new ≡ way.stops mid its.pick)) ⊎ next (way.says (way.stops mid its.pick) (entry.Cut its.step its.call)))) (sym is) (inl wants)

      says_cut : (o : Option cut.Cut) (its : cut.Cut) → o ≡ Some its → (next : W → Type 0) → next (way.says (way.stops mid its.pick) (entry.Cut its.step its.call))
          → IsSomeAnd o (λ its. ((result ≡ Err NoMemory) × (new ≡ way.stops mid its.pick)) ⊎ next (way.says (way.stops mid its.pick) (entry.Cut its.step its.call)))
      says_cut o its is next more = subst (λ (x : Option cut.Cut). IsSomeAnd x (λ its. ((result ≡ Err NoMemory) × (new ≡ way.stops mid its.pick)) ⊎ next (way.says (way.stops mid its.pick) (entry.Cut its.step its.call)))) (sym is) (inr more)

      by_cut : On → (o : Option cut.Cut) → life.cut ≡ o → LivesSo way (lived script l life seen files) files w (Err Cut) mid → Leads s p (tells.out w) (tells.out mid) (λ q. q.cuts ≡ cs)
          → IsSomeAnd o (λ its. ((result ≡ Err NoMemory) × (new ≡ way.stops mid its.pick)) ⊎ Rests (way.says (way.stops mid its.pick) (entry.Cut its.step its.call))) → CutSo first l (life ∷ lives) w result new cs p
      by_cut on None is so leads ends = absurd ends
      by_cut on (Some its) is so leads (inl wants) =
          cut_none first l (life ∷ lives) w result new cs p (record { added = leads.added; out = ap tells.out wants.1 ∙ tells.stops mid its.pick ∙ leads.out; to = leads.to })
          (ends_here (Err Cut) so (wants_cut life.cut its is wants))
      by_cut on (Some its) is so leads (inr more) =
          let end : Option CutAt = Some (record { step = its.step; call = its.call }) in
          let here : W = way.says (way.stops mid its.pick) (entry.Cut its.step its.call) in
          let cut_leads : Leads s p (tells.out w) (tells.out here) (IsInStep (cs ++ end ∷ []) 0) =
          leads_then s p (tells.out w) (tells.out mid) (tells.out here) (λ q. q.cuts ≡ cs) (IsInStep (cs ++ end ∷ []) 0) leads
          (λ q cuts. record {
            added = entry.Cut its.step its.call ∷ [];
            out = tells.says (way.stops mid its.pick) (entry.Cut its.step its.call) ∙ ap (λ (xs : List Entry). xs ++ entry.Cut its.step its.call ∷ []) (tells.stops mid its.pick);
            to = record { cuts = ap (λ (xs : List (Option CutAt)). xs ++ end ∷ []) cuts; step = refl };
          }) in
          cut_more first l life lives w here result new cs end p cut_leads
          (on here (cs ++ end ∷ []) (fold (read s) p cut_leads.added) (longer cs end l count) cut_leads.to more)
          (λ all others rest. (
            seen,
            files,
            Err Cut,
            mid,
            reads,
            known,
            begins,
            lives_cut script all l life seen files way tells its is w mid so,
            says_cut life.cut its is (λ mid. LivesFrom way (over all) AnyFiles (l + 1) others mid result new) rest,
          ))

      by_how : On → (how : Result (Unit {0}) Stop) → LivesSo way (lived script l life seen files) files w how mid → Leads s p (tells.out w) (tells.out mid) (After s life cs life_is how)
          → EndsLife way life how mid result new Rests → CutSo first l (life ∷ lives) w result new cs p
      by_how on (Ok done) so leads ends =
          let end_leads : Leads s p (tells.out w) (tells.out (way.stops mid life.pick)) (IsInStep (cs ++ None ∷ []) 0) = record { added = leads.added; out = tells.stops mid life.pick ∙ leads.out; to = leads.to } in
          cut_more first l life lives w (way.stops mid life.pick) result new cs None p end_leads
          (on (way.stops mid life.pick) (cs ++ None ∷ []) (fold (read s) p end_leads.added) (longer cs None l count) end_leads.to ends)
          (λ all others rest. (seen, files, Ok done, mid, reads, known, begins, lives_as script all l life seen files way w (Ok done) mid so, rest))
      by_how on (Err Cut) so leads ends = by_cut on life.cut refl so leads ends
      by_how on (Err (FaultOf fault)) so leads ends =
          cut_none first l (life ∷ lives) w result new cs p (record { added = leads.added; out = ap tells.out ends.1 ∙ leads.out; to = leads.to }) (ends_here (Err (FaultOf fault)) so (λ next. ends))
      by_how on (Err Failed) so leads ends = absurd ends

-- THE RUN

-- the run over the script as it was cut
pub record RunsCut {W : Type 0} (way : Way W) (tells : TellsLines way) (script : Script) (files : Files) (held : Secrets) (first : Files → Type 0) (w : W) (answered : Result (Unit {0}) Fault) (new : W) : Type 0 where
  pub added : List Entry
  pub out : tells.out new ≡ tells.out w ++ added
  pub so : RunsSo way (as_cut (progress (setting_of script files held) added).cuts script) first w answered new

module _ {W : Type 0} (way : Way W) (tells : TellsLines way) (script : Script) (files : Files) (held : Secrets) (first : Files → Type 0) (w : W) (answered : Result (Unit {0}) Fault) (new : W)
    (run : RunsSo way script first w answered new) where
  abbrev s : Setting
  s = setting_of script files held

  finish : (added : List Entry) → tells.out new ≡ tells.out w ++ added → (ends : List (Option CutAt)) → (fold (read s) (at_start s) added).cuts ≡ ends → RunsSo way (as_cut ends script) first w answered new
      → RunsCut way tells script files held first w answered new
  unfolding progress
  finish added out ends cuts so = record { added = added; out = out; so = subst (λ (ends : List (Option CutAt)). RunsSo way (as_cut ends script) first w answered new) (sym cuts) so }

  by_told : (added : List Entry) → tells.out run.mid ≡ tells.out w ++ added → (ends : List (Option CutAt)) → (fold (read s) (at_start s) added).cuts ≡ ends → RunsAllSo way (as_cut ends script) first w run.result run.mid
      → (result : Result (Unit {0}) Fault) → TellsEnd way result answered run.mid new → RunsCut way tells script files held first w answered new
  by_told added out ends cuts lives (Ok done) told = finish added (ap tells.out told.1 ∙ out) ends cuts (record { result = run.result; mid = run.mid; lives = lives; told = run.told })
  by_told added out ends cuts lives (Err own) (inl wants) = finish added (ap tells.out wants.1 ∙ out) ends cuts (record { result = run.result; mid = run.mid; lives = lives; told = run.told })
  by_told added out ends cuts lives (Err own) (inr told) = finish (added ++ entry.Fault own ∷ [])
      (ap tells.out told.2 ∙ tells.says run.mid (entry.Fault own) ∙ ap (λ (xs : List Entry). xs ++ entry.Fault own ∷ []) out ∙ append_assoc (tells.out w) added (entry.Fault own ∷ []))
      ends (ap (λ (q : Progress). q.cuts) (fold-append (read s) (at_start s) added (entry.Fault own ∷ [])) ∙ cuts) (record { result = run.result; mid = run.mid; lives = lives; told = run.told })

  none_ended : run.mid ≡ w → RunsAllSo way script first w run.result run.mid → RunsCut way tells script files held first w answered new
  none_ended same lives = by_told [] (ap tells.out same ∙ sym (append-nil (tells.out w))) [] refl lives run.result run.told

  pub runs_cut : RunsCut way tells script files held first w answered new
  runs_cut = by_lives run.lives
    where
      by_lives : RunsAllSo way script first w run.result run.mid → RunsCut way tells script files held first w answered new
      by_lives (inl (fault, refused, is, same)) = none_ended same (inl (fault, refused, is, same))
      by_lives (inr (checked, inl wants)) = none_ended wants.1 (inr (checked, inl wants))
      by_lives (inr (checked, inr lives)) =
          let its : CutSo way tells script s first 0 script.lives w run.result run.mid [] (at_start s) =
          from_cut way tells script s script.lives first 0 w run.result run.mid [] (at_start s) (lives_of s [] script.lives refl) refl (record { cuts = refl; step = refl }) lives in
          by_told its.added its.out its.ends its.cuts (inr (checked, inr (its.so (lives_as_cut its.ends script.lives)))) run.result run.told

-- OVER BOTH WAYS, of the lines that were added

module _ (script : Script) (files : Files) (held : Secrets) (answered : Result (Unit {0}) Fault) (old new added : List Entry) (is : new ≡ old ++ added) where
  abbrev its_ends : List Entry → List (Option CutAt)
  its_ends lines = (progress (setting_of script files held) lines).cuts

  pub worlds_cut : (held_now : Secrets) (c : Files) → RunsOver script answered files (at (moment old held never) files) (λ f. at (moment new held_now f) c)
      → RunsOver (as_cut (its_ends added) script) answered files (at (moment old held never) files) (λ f. at (moment new held_now f) c)
  unfolding worlds_tell
  worlds_cut held_now c run =
      let its = runs_cut by_worlds worlds_tell script files held (λ its. its ≡ files) (at (moment old held never) files) answered (at (moment new held_now run.fuse) c) run.so in
      record {
        fuse = run.fuse;
        so = subst (λ (lines : List Entry). RunsSo by_worlds (as_cut (its_ends lines) script) (λ its. its ≡ files) (at (moment old held never) files) answered (at (moment new held_now run.fuse) c))
            (same_behind old its.added added (sym its.out ∙ is)) its.so;
      }

  pub lines_cut : (first : Files → Type 0) (picks : List ℕ) → RunsSo by_entries script first (trace old []) answered (trace new picks)
      → RunsSo by_entries (as_cut (its_ends added) script) first (trace old []) answered (trace new picks)
  unfolding lines_tell
  lines_cut first picks run =
      let its = runs_cut by_entries lines_tell script files held first (trace old []) answered (trace new picks) run in
      subst (λ (lines : List Entry). RunsSo by_entries (as_cut (its_ends lines) script) first (trace old []) answered (trace new picks)) (same_behind old its.added added (sym its.out ∙ is)) its.so
