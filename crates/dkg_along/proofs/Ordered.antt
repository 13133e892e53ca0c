-- Entries that are a node run stand in their order, whatever the devices tell.
use Rattle.std.proofs.Common.{◌≡◌, inl, inr, ℕ, suc, ◌+◌, ◌++◌, ◌∷◌, [], ◌<◌, ◌≤◌, Bool, true, false, List, Option, Some, None, Result, Ok, Err, refl, sym, ◌∙◌, ap, subst, length, drop, arith, add-one, append-nil}
use Rattle.std.specs.Option.{option_map_or}
use Rattle.std.specs.Prelude.{◌==◌, ◌-◌, if◌then◌else◌, option_map, slice_get}
use Rattle.std.specs.List.{AllByRecursion}
use Rattle.std.proofs.lemmas.Bool.Decides.{nat_tests}
use Rattle.std.proofs.lemmas.List.{length-drop}
use Rattle.dkg_journal.specs.Burn.{Burn}
use Rattle.dkg_journal.specs.Names.{Files}
use Rattle.dkg_types.specs.Blocks.{Block}
use Rattle.dkg_infos.specs.declared.directory.Unit as directory
use Rattle.dkg_infos.specs.declared.entry.Entry.{Entry}
use Rattle.dkg_infos.specs.declared.entry.Entry.TheVariants as entry
use Rattle.dkg_infos.specs.declared.fault.Fault.{Fault}
use Rattle.dkg_infos.specs.declared.fault.Fault.TheVariants.{NoMemory}
use Rattle.dkg_text.specs.declared.script.Cut as cut
use Rattle.dkg_text.specs.declared.script.Event.{Event}
use Rattle.dkg_text.specs.declared.script.Event.TheVariants as event
use Rattle.dkg_text.specs.declared.script.Life.{Life}
use Rattle.dkg_text.specs.declared.script.Script.{Script}
use Rattle.dkg_script.specs.Order.{IsInOrder}
use Rattle.dkg_script.specs.Progress.{Progress}
use Rattle.dkg_script.specs.Promise.{Adds, RunsAll, RunsInOrder}
use Rattle.dkg_script.specs.Setting.{CutAt, Setting}
use Rattle.dkg_store.specs.Acts.{Ended, Held, broken, by_cut, stopped, went}
use Rattle.dkg_core.specs.Courses.{Course, Goes, on_devices}
use Rattle.dkg_core.specs.Laws.{IsQuiet}
use Rattle.dkg_core.specs.Live.{Cancel, Delivers, EpochInfoOf, Feed, Finalized, Live, NextLog, NodeStop, Over, Peer, ReleaseLog, Reshare, Mailed, Work}
use Rattle.dkg_core.specs.Node.{node_opening, node_step}
use Rattle.dkg_core.specs.Said.{Said}
use Rattle.dkg_core.specs.Seen.{Seen}
use Rattle.dkg_core.specs.Transcripts.{BeginsOpened}
use Rattle.dkg_life.specs.declared.stop.Stop.{Stop}
use Rattle.dkg_life.specs.declared.stop.Stop.TheVariants.{Cut, Failed, Fault as FaultOf}
use Rattle.dkg_lives.specs.Ended.{by_node_stop}
use Rattle.dkg_lives.specs.Given.{Lived, at_step, blocks_in, lived, step_of}
use Rattle.dkg_lives.specs.Lives.{LivesSo, RunsAllSo, RunsSo, Steps, TakesAll, TellsEnd, fuse_for, fuse_within, never}
use Rattle.dkg_lives.specs.Ways.{Trace, by_entries}
use Rattle.dkg_along.proofs.Ended.{told_in_order}
use Rattle.dkg_along.proofs.Following.{EndsBy, RunEndsBy, all_move, rest_at}
use Rattle.dkg_along.proofs.InOrder.{moves_cut}
use Rattle.dkg_laws.proofs.NodeEndings.{node_openings_are_quiet, node_steps_are_quiet}
use Rattle.dkg_lives.proofs.Moving.{moves_none, moves_then, moves_within, quiet_none}
use Rattle.dkg_along.proofs.Runs.{runs_all, runs_in_order}
use Rattle.dkg_lives.proofs.Standing.{AddsOpening, AddsQuiet, IsBefore, IsBehind, IsBetween, IsBetweenOf, IsCutBefore, IsStopped, IsWithin, MayTell, Moves, TellsFault, IsCutWithin}
use Rattle.dkg_along.proofs.Steps.{Opening, opened_so_far, opening_step, opening_stops, quiet_so_far, quiet_step, quiet_stops, stops_before}

-- FUSES AND CUTS

fuse_at : (its : cut.Cut) (step : ℕ) (t : Bool) → (its.step == step) ≡ t → fuse_for (Some its) step ≡ (if t then fuse_within its else Some never)
fuse_at its step t is = ap (λ (b : Bool). if b then fuse_within its else Some never) is

same : (n m : ℕ) → (n == m) ≡ true → n ≡ m
same n m e = grind (arith, nat_tests)

equal : (n m : ℕ) → n ≡ m → (n == m) ≡ true
equal n m e = grind (arith, nat_tests)

none_some : {A : Type 0} {x : A} → ◌≡◌ {A = Option A} None (Some x) → ⊥
none_some e = cc

some_same : {A : Type 0} {x y : A} → Some x ≡ Some y → x ≡ y
some_same e = cc

-- the fuse of the step that a cut names, by whether the cut is before it
abbrev lit_by : Bool → cut.Cut → Option Burn
lit_by u its = if u then None else Some (record { call = its.call; pick = its.pick; spent = 0 })

-- no fuse is where the life is cut before the step
pub unlit : (its : Option cut.Cut) (step : ℕ) → fuse_for its step ≡ None → IsCutBefore its step
unlit None step none = absurd (none_some (sym none))
unlit (Some its) step none = by_step (its.step == step) refl
  where
    by_call : (u : Bool) → (its.call == 0) ≡ u → lit_by u its ≡ None → its.call ≡ 0
    by_call true e is = same its.call 0 e
    by_call false e is = absurd (none_some (sym is))

    by_step : (t : Bool) → (its.step == step) ≡ t → IsCutBefore (Some its) step
    by_step true e = (same its.step step e, by_call (its.call == 0) refl (sym (fuse_at its step true e) ∙ none))
    by_step false e = absurd (none_some (sym (sym (fuse_at its step false e) ∙ none)))

pub lit_begins : (its : Option cut.Cut) (step : ℕ) (f : Burn) → fuse_for its step ≡ Some f → IsCutBefore its step → ⊥
lit_begins None step f lit before = before
lit_begins (Some its) step f lit before =
    none_some (ap (λ (b : Bool). lit_by b its) (sym (equal its.call 0 before.1)) ∙ sym (fuse_at its step true (equal its.step step before.0)) ∙ lit)

-- a fuse that cuts a call is the script's
pub lit_within : (its : Option cut.Cut) (step : ℕ) (f : Burn) → fuse_for its step ≡ Some f → 0 < f.call → IsCutWithin its step
lit_within None step f lit some = absurd (not_never f (some_same lit) some)
  where
    not_never : (f : Burn) → never ≡ f → 0 < f.call → ⊥
    not_never f is some = let none : 0 ≡ f.call = ap (λ (b : Burn). b.call) is in omega arith
lit_within (Some its) step f lit some = by_step (its.step == step) refl
  where
    by_step : (t : Bool) → (its.step == step) ≡ t → IsCutWithin (Some its) step
    by_step true e = (
      same its.step step e,
      λ zero_call. none_some
          (ap (λ (b : Bool). lit_by b its) (sym (equal its.call 0 zero_call)) ∙ sym (fuse_at its step true e) ∙ lit),
    )
    by_step false e = absurd (let none : 0 ≡ f.call = ap (λ (b : Burn). b.call) (some_same (sym (fuse_at its step false e) ∙ lit)) in omega arith)

-- STEPS

-- where a life stands that ended so
abbrev pub EndsIn : Life → (l : ℕ) → Result (Unit {0}) Stop → Setting → Progress → Type 0
EndsIn life l (Ok done) s p = IsBetween (l + 1) s p
EndsIn life l (Err stop) s p = IsStopped life l stop s p

module _ (life : Life) (l j : ℕ) (course : Course directory.Unit NodeStop (Live directory.Unit)) where
  -- memory was wanting
  wanted : (P : Setting → Progress → Type 0) (t new : Trace) → new ≡ t → Moves IsInOrder P (EndsIn life l (Err (FaultOf NoMemory))) t.out new.out
  wanted P t new is = moves_none IsInOrder P (MayTell NoMemory) t.out new.out (ap (λ (x : Trace). x.out) is) (λ s p at. inl refl)

  module _ (later : 0 < j) (quiet : (ended : Ended NodeStop (Live directory.Unit)) (out now : List Entry) → Said (on_devices course) ended out now → AddsQuiet out now) where
    pub steps_in_order : (fuse : Option Burn) → fuse_for life.cut j ≡ fuse → (t new : Trace) (how : Result (Unit {0}) Stop) (next : Live directory.Unit → Trace → Type 0)
        → ((end : Live directory.Unit) (mid : Trace) → next end mid → Moves IsInOrder (IsBehind life l j) (EndsIn life l how) mid.out new.out)
        → Steps by_entries (entry.Step j) fuse course t how new next → Moves IsInOrder (IsBefore life l j) (EndsIn life l how) t.out new.out
    steps_in_order None none t new how next after its = subst (λ (r : Result (Unit {0}) Stop). Moves IsInOrder (IsBefore life l j) (EndsIn life l r) t.out new.out) (sym its.0)
        (stops_before life l j Cut t.out new.out (ap (λ (x : Trace). x.out) its.1) (refl, unlit life.cut j none))
    steps_in_order (Some f) lit t new how next after (inl wants) = subst (λ (r : Result (Unit {0}) Stop). Moves IsInOrder (IsBefore life l j) (EndsIn life l r) t.out new.out) (sym wants.0)
        (wanted (IsBefore life l j) t new wants.1)
    steps_in_order (Some f) lit t new how next after (inr (inl (stop, is, goes))) = subst (λ (r : Result (Unit {0}) Stop). Moves IsInOrder (IsBefore life l j) (EndsIn life l r) t.out new.out) (sym is)
        (quiet_stops life l j stop t.out new.out (lit_begins life.cut j f lit) (quiet _ t.out new.out goes.0) (cut_is stop goes.2))
      where
        cut_is : (stop : Stop) → (by_node_stop {S = Live directory.Unit} stop ≡ broken by_cut → 0 < f.call) → stop ≡ Cut → IsCutWithin life.cut j
        cut_is stop so is_cut = lit_within life.cut j f lit (so (ap (λ (x : Stop). by_node_stop {S = Live directory.Unit} x) is_cut))
    steps_in_order (Some f) lit t new how next after (inr (inr (end, mid, goes, inl wants))) = subst (λ (r : Result (Unit {0}) Stop). Moves IsInOrder (IsBefore life l j) (EndsIn life l r) t.out new.out) (sym wants.0)
        (moves_then IsInOrder (IsBefore life l j) (IsWithin life l j false) (MayTell NoMemory) t.out mid.out new.out
        (quiet_so_far life l j t.out mid.out (lit_begins life.cut j f lit) (quiet _ t.out mid.out goes.0)) (wanted (IsWithin life l j false) mid new wants.1))
    steps_in_order (Some f) lit t new how next after (inr (inr (end, mid, goes, inr so))) =
        moves_then IsInOrder (IsBefore life l j) (IsBehind life l j) (EndsIn life l how) t.out (mid.out ++ entry.Step j ∷ []) new.out
        (quiet_step life l j t.out mid.out (mid.out ++ entry.Step j ∷ []) later (lit_begins life.cut j f lit) (quiet _ t.out mid.out goes.0) refl) (after end (by_entries.says mid (entry.Step j)) so)

-- a step says quiet lines alone
said_none : {S : Type 0} (st : S) (ended : Ended NodeStop S) (out now : List Entry) → Said (on_devices {Dir = directory.Unit} {F = NodeStop} (Goes st)) ended out now → AddsQuiet out now
said_none st (went end) out now said = quiet_none out now (said.added ∙ ap (λ (l : List Entry). out ++ l) (said.by).0 ∙ append-nil out)
said_none st (stopped fault) out now said = absurd said.by
said_none st (broken cause) out now said = quiet_none out now (said.added ∙ ap (λ (l : List Entry). out ++ l) said.by ∙ append-nil out)

adds_quiet : (out now : List Entry) → (added : List Entry) × (now ≡ out ++ added) × AllByRecursion IsQuiet added → AddsQuiet out now
adds_quiet out now its = record { added = its.0; parts = its.1; quiet = its.2 }

pub step_is_quiet : (g : Lived) (j : ℕ) (its : Event) (st : Live directory.Unit) (ended : Ended NodeStop (Live directory.Unit)) (out now : List Entry)
    → Said (on_devices (step_of g j its st)) ended out now → AddsQuiet out now
step_is_quiet g j (event.Peer from bytes) st ended out now said =
    adds_quiet out now (node_steps_are_quiet (at_step g j) st (Mailed (Peer from bytes)) ended out now said)
step_is_quiet g j (event.Final number) st ended out now said = of_block (slice_get (blocks_in g.script) number) said
  where
    of_block : (o : Option (Block directory.Unit))
        → Said (on_devices (option_map_or (λ its. node_step (at_step g j) its st) (option_map Delivers o) (Goes st))) ended out now → AddsQuiet out now
    of_block None said = said_none st ended out now said
    of_block (Some b) said = adds_quiet out now (node_steps_are_quiet (at_step g j) st (Finalized b) ended out now said)
step_is_quiet g j (event.Next request height) st ended out now said =
    adds_quiet out now (node_steps_are_quiet (at_step g j) st (Mailed (NextLog request height)) ended out now said)
step_is_quiet g j (event.Release height) st ended out now said =
    adds_quiet out now (node_steps_are_quiet (at_step g j) st (Mailed (ReleaseLog height)) ended out now said)
step_is_quiet g j (event.Info request) st ended out now said =
    adds_quiet out now (node_steps_are_quiet (at_step g j) st (Mailed (EpochInfoOf request)) ended out now said)
step_is_quiet g j (event.Feed request number) st ended out now said = of_fed (slice_get (blocks_in g.script) number) said
  where
    of_fed : (o : Option (Block directory.Unit))
        → Said (on_devices (option_map_or (λ its. node_step (at_step g j) its st) (option_map (λ b. Reshare (Feed request b)) o) (Goes st))) ended out now → AddsQuiet out now
    of_fed None said = said_none st ended out now said
    of_fed (Some b) said = adds_quiet out now (node_steps_are_quiet (at_step g j) st (Mailed (Feed request b)) ended out now said)
step_is_quiet g j (event.Over request) st ended out now said = adds_quiet out now (node_steps_are_quiet (at_step g j) st (Mailed (Over request)) ended out now said)
step_is_quiet g j (event.Cancel request) st ended out now said =
    adds_quiet out now (node_steps_are_quiet (at_step g j) st (Mailed (Cancel request)) ended out now said)
step_is_quiet g j event.Work st ended out now said = adds_quiet out now (node_steps_are_quiet (at_step g j) st (Mailed (Work None)) ended out now said)
step_is_quiet g j other st ended out now said = said_none st ended out now said

-- EVENTS, those from number i on

pub takes_in_order : (g : Lived) (i : ℕ) (events : List Event) (st : Live directory.Unit) (t new : Trace) (how : Result (Unit {0}) Stop) → i ≤ length g.life.events → events ≡ drop i g.life.events
    → TakesAll by_entries g (i + 1) events st t how new → Moves IsInOrder (IsBehind g.life g.number i) (EndsIn g.life g.number how) t.out new.out
takes_in_order g i [] st t new how within rest its =
    subst (λ (r : Result (Unit {0}) Stop). Moves IsInOrder (IsBehind g.life g.number i) (EndsIn g.life g.number r) t.out new.out) (sym its.0)
    (moves_none IsInOrder (IsBehind g.life g.number i) (IsBetween (g.number + 1)) t.out new.out (ap (λ (x : Trace). x.out) its.1) (λ s p at. at.last all))
  where
    all : i ≡ length g.life.events
    all = let none : 0 ≡ length g.life.events - i = ap length rest ∙ length-drop i g.life.events in omega (arith, within, none)
takes_in_order g i (its ∷ events) st t new how within rest takes =
    moves_then IsInOrder (IsBehind g.life g.number i) (IsBefore g.life g.number (i + 1)) (EndsIn g.life g.number how) t.out t.out new.out
    (moves_none IsInOrder (IsBehind g.life g.number i) (IsBefore g.life g.number (i + 1)) t.out t.out refl (λ s p at. at.next below))
    (steps_in_order g.life g.number (i + 1) (step_of g (i + 1) its st) (omega arith) (step_is_quiet g (i + 1) its st) (fuse_for g.life.cut (i + 1)) refl t new how
    (λ end mid. TakesAll by_entries g (i + 1 + 1) events end mid how new)
    (λ end mid so. takes_in_order g (i + 1) events end mid new how (omega (arith, below)) (subst (λ (k : ℕ). events ≡ drop k g.life.events) (sym (add-one i)) (rest_at g.life.events i its events rest)) so) takes)
  where
    below : i < length g.life.events
    below = let some : suc (length events) ≡ length g.life.events - i = ap length rest ∙ length-drop i g.life.events in omega (arith, some)

-- AN OPENING: its line stands first, or it was broken off before

pub opening_added : (l : ℕ) (out now : List Entry) (ended : Ended NodeStop (Live directory.Unit)) → (added : List Entry) × (now ≡ out ++ added) × BeginsOpened l added ended → Opening l out now
opening_added l out now ended ([], is, at) = inl (is ∙ append-nil out)
opening_added l out now ended (entry.Opened its restored ∷ more, is, at) =
    inr (record { restored = restored; more = more; parts = subst (λ (n : ℕ). now ≡ out ++ entry.Opened n restored ∷ more) at.0 is; quiet = at.1 })
opening_added l out now ended (other ∷ more, is, at) = absurd at

abbrev went_node : Live directory.Unit → Ended NodeStop (Live directory.Unit)
went_node end = went end

pub went_opened : (l : ℕ) (out now : List Entry) (end : Live directory.Unit) → (added : List Entry) × (now ≡ out ++ added) × BeginsOpened l added (went_node end) → AddsOpening l out now
went_opened l out now end ([], is, at) = absurd at
went_opened l out now end (entry.Opened its restored ∷ more, is, at) =
    record { restored = restored; more = more; parts = subst (λ (n : ℕ). now ≡ out ++ entry.Opened n restored ∷ more) at.0 is; quiet = at.1 }
went_opened l out now end (other ∷ more, is, at) = absurd at

at_number : (g : Lived) (taken : ℕ) → (at_step g taken).life ≡ g.number
unfolding at_step
at_number g taken = refl

module _ (g : Lived) where
  pub opened_in : (ended : Ended NodeStop (Live directory.Unit)) (out now : List Entry) → Said (on_devices (node_opening (at_step g 0))) ended out now
      → (added : List Entry) × (now ≡ out ++ added) × BeginsOpened g.number added ended
  opened_in ended out now said =
      let its = node_openings_are_quiet (at_step g 0) ended out now said in
      (its.0, its.1, subst (λ (n : ℕ). BeginsOpened n its.0 ended) (at_number g 0) its.2)

  opening_in_order : (fuse : Option Burn) → fuse_for g.life.cut 0 ≡ fuse → (t new : Trace) (how : Result (Unit {0}) Stop) (next : Live directory.Unit → Trace → Type 0)
      → ((end : Live directory.Unit) (mid : Trace) → next end mid → Moves IsInOrder (IsBehind g.life g.number 0) (EndsIn g.life g.number how) mid.out new.out)
      → Steps by_entries (entry.Step 0) fuse (node_opening (at_step g 0)) t how new next → Moves IsInOrder (IsBefore g.life g.number 0) (EndsIn g.life g.number how) t.out new.out
  opening_in_order None none t new how next after its = subst (λ (r : Result (Unit {0}) Stop). Moves IsInOrder (IsBefore g.life g.number 0) (EndsIn g.life g.number r) t.out new.out) (sym its.0)
      (stops_before g.life g.number 0 Cut t.out new.out (ap (λ (x : Trace). x.out) its.1) (refl, unlit g.life.cut 0 none))
  opening_in_order (Some f) lit t new how next after (inl wants) = subst (λ (r : Result (Unit {0}) Stop). Moves IsInOrder (IsBefore g.life g.number 0) (EndsIn g.life g.number r) t.out new.out) (sym wants.0)
      (wanted g.life g.number 0 (node_opening (at_step g 0)) (IsBefore g.life g.number 0) t new wants.1)
  opening_in_order (Some f) lit t new how next after (inr (inl (stop, is, goes))) = subst (λ (r : Result (Unit {0}) Stop). Moves IsInOrder (IsBefore g.life g.number 0) (EndsIn g.life g.number r) t.out new.out) (sym is)
      (opening_stops g.life g.number stop t.out new.out (lit_begins g.life.cut 0 f lit) (opening_added g.number t.out new.out (by_node_stop stop) (opened_in (by_node_stop stop) t.out new.out goes.0)) (cut_is stop goes.2))
    where
      cut_is : (stop : Stop) → (by_node_stop {S = Live directory.Unit} stop ≡ broken by_cut → 0 < f.call) → stop ≡ Cut → IsCutWithin g.life.cut 0
      cut_is stop so is_cut = lit_within g.life.cut 0 f lit (so (ap (λ (x : Stop). by_node_stop {S = Live directory.Unit} x) is_cut))
  opening_in_order (Some f) lit t new how next after (inr (inr (end, mid, goes, inl wants))) = subst (λ (r : Result (Unit {0}) Stop). Moves IsInOrder (IsBefore g.life g.number 0) (EndsIn g.life g.number r) t.out new.out) (sym wants.0)
      (moves_then IsInOrder (IsBefore g.life g.number 0) (IsWithin g.life g.number 0 true) (MayTell NoMemory) t.out mid.out new.out
      (opened_so_far g.life g.number t.out mid.out (lit_begins g.life.cut 0 f lit) (went_opened g.number t.out mid.out end (opened_in (went end) t.out mid.out goes.0)))
      (wanted g.life g.number 0 (node_opening (at_step g 0)) (IsWithin g.life g.number 0 true) mid new wants.1))
  opening_in_order (Some f) lit t new how next after (inr (inr (end, mid, goes, inr so))) =
      moves_then IsInOrder (IsBefore g.life g.number 0) (IsBehind g.life g.number 0) (EndsIn g.life g.number how) t.out (mid.out ++ entry.Step 0 ∷ []) new.out
      (opening_step g.life g.number t.out mid.out (mid.out ++ entry.Step 0 ∷ []) (lit_begins g.life.cut 0 f lit) (went_opened g.number t.out mid.out end (opened_in (went end) t.out mid.out goes.0)) refl)
      (after end (by_entries.says mid (entry.Step 0)) so)

  -- A LIFE
  pub lives_in_order : (files : Files) (t new : Trace) (how : Result (Unit {0}) Stop) → LivesSo by_entries g files t how new → Moves IsInOrder (IsBefore g.life g.number 0) (EndsIn g.life g.number how) t.out new.out
  lives_in_order files t new how (inl steps) = opening_in_order (fuse_for g.life.cut 0) refl t new how (λ end mid. TakesAll by_entries g 1 g.life.events end mid how new)
      (λ end mid so. takes_in_order g 0 g.life.events end mid new how (omega arith) refl so) steps
  lives_in_order files t new how (inr refused) = absurd refused.1.2

-- ALL LIVES

-- where a run stands that was answered so
abbrev pub RunEndsIn : Script → Result (Unit {0}) Fault → Setting → Progress → Type 0
RunEndsIn script result s p = RunEndsBy MayTell script result s p

module _ (script : Script) where
  life_in_order : (l : ℕ) (life : Life) (seen : Held → Seen) (files : Files) (t mid : Trace) (how : Result (Unit {0}) Stop) → LivesSo by_entries (lived script l life seen files) files t how mid
      → Moves IsInOrder (IsBefore life l 0) (EndsBy MayTell life l how) t.out mid.out
  life_in_order l life seen files t mid how so = moves_within IsInOrder (IsBefore life l 0) (IsBefore life l 0) (EndsIn life l how) (EndsBy MayTell life l how) t.out mid.out (λ s p at. at) (by_end how)
      (lives_in_order (lived script l life seen files) files t mid how so)
    where
      by_end : (how : Result (Unit {0}) Stop) (s : Setting) (p : Progress) → EndsIn life l how s p → EndsBy MayTell life l how s p
      by_end (Ok done) s p at = at
      by_end (Err Cut) s p at = at
      by_end (Err (FaultOf its)) s p at = at
      by_end (Err Failed) s p at = at

  pub all_in_order : (first : Files → Type 0) (t new : Trace) (result : Result (Unit {0}) Fault) → RunsAllSo by_entries script first t result new
      → Moves IsInOrder (IsBetweenOf script 0) (RunEndsIn script result) t.out new.out
  all_in_order first t new result runs = all_move IsInOrder MayTell (λ s p. inl refl) moves_cut script (λ l life seen files at reads. life_in_order l life seen files)
      (λ its refused s p is. inr (inl (none_ended p.cuts is.between.lives, is.between.step, is.between.nothing))) first t new result runs
    where
      none_ended : (cuts : List (Option CutAt)) → length cuts ≡ 0 → cuts ≡ []
      none_ended [] none = refl
      none_ended (c ∷ cuts) none = absurd (omega (arith, none))

-- THE CLAUSES of order

pub tells_fault : (its answered : Fault) (mid new : Trace) → TellsEnd by_entries (Err its) (Err answered) mid new → TellsFault its answered mid.out new.out
tells_fault its answered mid new (inl wants) = inl (the_fault wants.0, ap (λ (x : Trace). x.out) wants.1)
  where
    the_fault : {a b : Fault} → ◌≡◌ {A = Result (Unit {0}) Fault} (Err a) (Err b) → a ≡ b
    the_fault e = cc
tells_fault its answered mid new (inr told) = inr (the_fault told.0, told.1, ap (λ (x : Trace). x.out) told.2)
  where
    the_fault : {a b : Fault} → ◌≡◌ {A = Result (Unit {0}) Fault} (Err a) (Err b) → a ≡ b
    the_fault e = cc

pub run_in_order : (script : Script) (first : Files → Type 0) (t new : Trace) (answered : Result (Unit {0}) Fault) → RunsSo by_entries script first t answered new → Adds t.out new.out (RunsInOrder script)
run_in_order script first t new answered run = by_result run.result (all_in_order script first t run.mid run.result run.lives) run.told
  where
    not_ok : (its : Fault) → TellsEnd by_entries (Err its) (Ok tt) run.mid new → ⊥
    not_ok its (inl wants) = let wrong : ◌≡◌ {A = Result (Unit {0}) Fault} (Ok tt) (Err NoMemory) = wants.0 in cc
    not_ok its (inr told) = let wrong : ◌≡◌ {A = Result (Unit {0}) Fault} (Ok tt) (Err its) = told.0 in cc

    faulted : (its : Fault) → Moves IsInOrder (IsBetweenOf script 0) (MayTell its) t.out run.mid.out → (answered : Result (Unit {0}) Fault) → TellsEnd by_entries (Err its) answered run.mid new
        → Adds t.out new.out (RunsInOrder script)
    faulted its moves (Ok done) told = absurd (not_ok its told)
    faulted its moves (Err answered) told = told_in_order script its answered t.out run.mid.out new.out moves (tells_fault its answered run.mid new told)

    by_result : (result : Result (Unit {0}) Fault) → Moves IsInOrder (IsBetweenOf script 0) (RunEndsIn script result) t.out run.mid.out → TellsEnd by_entries result answered run.mid new
        → Adds t.out new.out (RunsInOrder script)
    by_result (Ok done) moves told = runs_in_order script (IsBetweenOf script (length script.lives)) t.out new.out
        (subst (λ (x : Trace). Moves IsInOrder (IsBetweenOf script 0) (IsBetweenOf script (length script.lives)) t.out x.out) (sym told.1) moves)
    by_result (Err its) moves told = faulted its moves answered told

pub run_all_lives : (script : Script) (first : Files → Type 0) (t new : Trace) → RunsSo by_entries script first t (Ok tt) new → Adds t.out new.out (RunsAll script)
run_all_lives script first t new run = by_result run.result (all_in_order script first t run.mid run.result run.lives) run.told
  where
    by_result : (result : Result (Unit {0}) Fault) → Moves IsInOrder (IsBetweenOf script 0) (RunEndsIn script result) t.out run.mid.out → TellsEnd by_entries result (Ok tt) run.mid new
        → Adds t.out new.out (RunsAll script)
    by_result (Ok done) moves told = runs_all script t.out new.out
        (subst (λ (x : Trace). Moves IsInOrder (IsBetweenOf script 0) (IsBetweenOf script (length script.lives)) t.out x.out) (sym told.1) moves)
    by_result (Err its) moves (inl wants) = absurd (let wrong : ◌≡◌ {A = Result (Unit {0}) Fault} (Ok tt) (Err NoMemory) = wants.0 in cc)
    by_result (Err its) moves (inr told) = absurd (let wrong : ◌≡◌ {A = Result (Unit {0}) Fault} (Ok tt) (Err its) = told.0 in cc)
