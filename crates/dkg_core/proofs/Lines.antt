-- The lines that courses add: those of their deeds, which keep their laws.
use Rattle.std.proofs.Common.{◌≡◌, inl, inr, List, [], ◌∷◌, ◌++◌, Option, Some, refl, sym, ◌∙◌, ap, subst, append_assoc, append-nil}
use Rattle.std.specs.List.{AllByRecursion}
use Rattle.dkg_infos.specs.declared.entry.Entry.{Entry}
use Rattle.dkg_store.specs.Acts.{Held, World, says, does, Completes, Faults, Breaks, Cause, Ended, went, stopped, broken}
use Rattle.dkg_core.specs.Courses.{Course, Say, Do, CallOutside, Ask, Goes, Stops, on_devices, Deed, SaidEntry, DidOperation, CalledOutside, deeds_of}
use Rattle.dkg_core.specs.Said.{SaysAll, SaysUpTo, SaysFirst, SaysBy}
use Rattle.dkg_core.specs.Laws.{Law, Holds}
use Rattle.dkg_core.specs.Transcripts.{deed_entries, IsOwnEnd, AddsDeeds, RunsAddDeeds, Obeys, deeds_behind, IfWentTo, LinesObey}

-- THE LINES OF DEEDS

module _ {Dir F S : Type 0} where
  one_said : (line : Entry) (course : Course Dir F S) (ended : Ended F S) (w new : World) → ((rest : List Entry) → IsOwnEnd course ended w.held new.held rest → IsOwnEnd (Say line course) ended w.held new.held rest)
      → AddsDeeds course ended (says w line) new → AddsDeeds (Say line course) ended w new
  one_said line course ended w new so adds = record {
    added = line ∷ adds.added;
    rest = adds.rest;
    out = adds.out ∙ append_assoc w.out (line ∷ []) adds.added;
    of_deeds = ap (λ (ls : List Entry). line ∷ ls) adds.of_deeds;
    own_end = so adds.rest adds.own_end;
  }

  -- nothing was said
  none_said : (course : Course Dir F S) (ended : Ended F S) (w new : World) (rest : List Entry) → new.out ≡ w.out → deed_entries (deeds_of course w.held) ≡ rest → IsOwnEnd course ended w.held new.held rest → AddsDeeds course ended w new
  none_said course ended w new rest same are own = record { added = []; rest = rest; out = same ∙ sym (append-nil w.out); of_deeds = are; own_end = own }

  -- .. by what is no line
  as_said : (course next : Course Dir F S) (ended : Ended F S) (w mid new : World) → mid.out ≡ w.out → deed_entries (deeds_of course w.held) ≡ deed_entries (deeds_of next mid.held)
      → ((rest : List Entry) → IsOwnEnd next ended mid.held new.held rest → IsOwnEnd course ended w.held new.held rest) → AddsDeeds next ended mid new → AddsDeeds course ended w new
  as_said course next ended w mid new same are so adds = record {
    added = adds.added;
    rest = adds.rest;
    out = adds.out ∙ ap (λ (ls : List Entry). ls ++ adds.added) same;
    of_deeds = are ∙ adds.of_deeds;
    own_end = so adds.rest adds.own_end;
  }

  goes : (course : Course Dir F S) (end : S) (w new : World) → Completes (on_devices course) end w new → AddsDeeds course (went end) w new
  goes (Say line course) end w new run = one_said line course (went end) w new (λ rest own. own) (goes course end (says w line) new run)
  goes (Do op course) end w new run = as_said (Do op course) course (went end) w (does w op) new refl refl (λ rest own. own) (goes course end (does w op) new run)
  goes (CallOutside outer course) end w new run = as_said (CallOutside outer course) course (went end) w w new refl refl (λ rest own. own) (goes course end w new run)
  goes (Ask f) end w new run = as_said (Ask f) (f w.held) (went end) w w new refl refl (λ rest own. own) (goes (f w.held) end w new run)
  goes (Goes its) end w new run =
      none_said (Goes its) (went end) w new [] (ap (λ (x : World). x.out) run.0) refl
      (refl, ended_in (ap (λ (x : World). x.held) run.0) run.1)
    where
      ended_in : {h : Held} {s : S} → h ≡ w.held → s ≡ its → ◌≡◌ {A = Option (S × Held)} (Some (its, w.held)) (Some (s, h))
      ended_in same is = cc
  goes (Stops fault) end w new run = absurd run

  stops : (course : Course Dir F S) (fault : F) (w new : World) → Faults (on_devices course) fault w new → AddsDeeds course (stopped fault) w new
  stops (Say line course) fault w new run = one_said line course (stopped fault) w new (λ rest own. own) (stops course fault (says w line) new run)
  stops (Do op course) fault w new run = as_said (Do op course) course (stopped fault) w (does w op) new refl refl (λ rest own. own) (stops course fault (does w op) new run)
  stops (CallOutside outer course) fault w new run = as_said (CallOutside outer course) course (stopped fault) w w new refl refl (λ rest own. own) (stops course fault w new run)
  stops (Ask f) fault w new run = as_said (Ask f) (f w.held) (stopped fault) w w new refl refl (λ rest own. own) (stops (f w.held) fault w new run)
  stops (Goes its) fault w new run = absurd run
  stops (Stops its) fault w new run = none_said (Stops its) (stopped fault) w new [] (ap (λ (x : World). x.out) run.0) refl (refl, ap Some (sym run.1))

  breaks : (cause : Cause) (course : Course Dir F S) (w new : World) → Breaks cause (on_devices course) w new → AddsDeeds course (broken cause) w new
  breaks cause (Say line course) w new (inl none) = none_said (Say line course) (broken cause) w new _ (ap (λ (x : World). x.out) none.1) refl tt
  breaks cause (Say line course) w new (inr run) = one_said line course (broken cause) w new (λ rest own. tt) (breaks cause course (says w line) new run)
  breaks cause (Do op course) w new (inl tears) = none_said (Do op course) (broken cause) w new _ tears.same refl tt
  breaks cause (Do op course) w new (inr run) = as_said (Do op course) course (broken cause) w (does w op) new refl refl (λ rest own. tt) (breaks cause course (does w op) new run)
  breaks cause (CallOutside outer course) w new run = as_said (CallOutside outer course) course (broken cause) w w new refl refl (λ rest own. tt) (breaks cause course w new run)
  breaks cause (Ask f) w new run = as_said (Ask f) (f w.held) (broken cause) w w new refl refl (λ rest own. tt) (breaks cause (f w.held) w new run)
  breaks cause (Goes its) w new none = none_said (Goes its) (broken cause) w new [] (ap (λ (x : World). x.out) none.1) refl tt
  breaks cause (Stops its) w new none = none_said (Stops its) (broken cause) w new [] (ap (λ (x : World). x.out) none.1) refl tt

pub runs_add_deeds : {Dir F S : Type 0} → RunsAddDeeds Dir F S
runs_add_deeds course (went end) w new run = goes course end w new run
runs_add_deeds course (stopped fault) w new run = stops course fault w new run
runs_add_deeds course (broken cause) w new run = breaks cause course w new run

-- LAWS AND LINES

module _ {Dir F S : Type 0} (law : Law Dir S) where
  abbrev Way : (past : List (Deed Dir)) → Ended F S → List Entry → Type 0
  Way past ended lines = (deeds : List (Deed Dir)) × Obeys law past deeds × (lines ≡ deed_entries deeds) × IfWentTo ended (law.end (deeds_behind past deeds))

  all : (past : List (Deed Dir)) (course : Course Dir F S) (end : S) (lines : List Entry) → Holds law past course → SaysAll (on_devices course) end lines → Way past (went end) lines
  all past (Say line course) end lines h a = let more = all (SaidEntry line ∷ past) course end a.0 h.1 a.2 in (SaidEntry line ∷ more.0, (h.0, more.1), a.1 ∙ ap (λ (ls : List Entry). line ∷ ls) more.2, more.3)
  all past (Do op course) end lines h a = let more = all (DidOperation op ∷ past) course end lines h.1 a in (DidOperation op ∷ more.0, (h.0, more.1), more.2, more.3)
  all past (CallOutside outer course) end lines h a = let more = all (CalledOutside outer ∷ past) course end lines h a in (CalledOutside outer ∷ more.0, more.1, more.2, more.3)
  all past (Ask f) end lines h a = all past (f a.0) end lines (h a.0) a.1
  all past (Goes its) end lines h a = ([], tt, a.0, subst (law.end past) (sym a.1) h)
  all past (Stops fault) end lines h a = absurd a

  up_to : (past : List (Deed Dir)) (course : Course Dir F S) (fault : F) (lines : List Entry) → Holds law past course → SaysUpTo (on_devices course) fault lines → Way past (stopped fault) lines
  up_to past (Say line course) fault lines h a = let more = up_to (SaidEntry line ∷ past) course fault a.0 h.1 a.2 in (SaidEntry line ∷ more.0, (h.0, more.1), a.1 ∙ ap (λ (ls : List Entry). line ∷ ls) more.2, tt)
  up_to past (Do op course) fault lines h a = let more = up_to (DidOperation op ∷ past) course fault lines h.1 a in (DidOperation op ∷ more.0, (h.0, more.1), more.2, tt)
  up_to past (CallOutside outer course) fault lines h a = let more = up_to (CalledOutside outer ∷ past) course fault lines h a in (CalledOutside outer ∷ more.0, more.1, more.2, tt)
  up_to past (Ask f) fault lines h a = up_to past (f a.0) fault lines (h a.0) a.1
  up_to past (Goes its) fault lines h a = absurd a
  up_to past (Stops its) fault lines h a = ([], tt, a.0, tt)

  first : (past : List (Deed Dir)) (course : Course Dir F S) (cause : Cause) (lines : List Entry) → Holds law past course → SaysFirst (on_devices course) lines → Way past (broken cause) lines
  first past (Say line course) cause lines h (inl none) = ([], tt, none, tt)
  first past (Say line course) cause lines h (inr a) = let more = first (SaidEntry line ∷ past) course cause a.0 h.1 a.2 in (SaidEntry line ∷ more.0, (h.0, more.1), a.1 ∙ ap (λ (ls : List Entry). line ∷ ls) more.2, tt)
  first past (Do op course) cause lines h (inl none) = ([], tt, none, tt)
  first past (Do op course) cause lines h (inr a) = let more = first (DidOperation op ∷ past) course cause lines h.1 a in (DidOperation op ∷ more.0, (h.0, more.1), more.2, tt)
  first past (CallOutside outer course) cause lines h a = let more = first (CalledOutside outer ∷ past) course cause lines h a in (CalledOutside outer ∷ more.0, more.1, more.2, tt)
  first past (Ask f) cause lines h (inl none) = ([], tt, none, tt)
  first past (Ask f) cause lines h (inr a) = first past (f a.0) cause lines (h a.0) a.1
  first past (Goes its) cause lines h none = ([], tt, none, tt)
  first past (Stops its) cause lines h none = ([], tt, none, tt)

  by : (past : List (Deed Dir)) (course : Course Dir F S) (ended : Ended F S) (lines : List Entry) → Holds law past course → SaysBy (on_devices course) ended lines → Way past ended lines
  by past course (went end) lines h a = all past course end lines h a
  by past course (stopped fault) lines h a = up_to past course fault lines h a
  by past course (broken cause) lines h a = first past course cause lines h a

pub lines_obey : {Dir F S : Type 0} → LinesObey Dir F S
lines_obey law past course ended old new holds said =
    let way = by law past course ended said.lines holds said.by in
    record { deeds = way.0; obeys = way.1; added = said.added ∙ ap (λ (ls : List Entry). old ++ ls) way.2; end = way.3 }

-- what a law has of each line, the lines have
pub all_lines : {Dir S : Type 0} (law : Law Dir S) (P : Entry → Type 0) → ((past : List (Deed Dir)) (line : Entry) → law.line past line → P line) → (past deeds : List (Deed Dir)) → Obeys law past deeds
    → AllByRecursion P (deed_entries deeds)
all_lines law P so past [] obeys = tt
all_lines law P so past (SaidEntry line ∷ deeds) obeys = (so past line obeys.0, all_lines law P so (SaidEntry line ∷ past) deeds obeys.1)
all_lines law P so past (DidOperation op ∷ deeds) obeys = all_lines law P so (DidOperation op ∷ past) deeds obeys.1
all_lines law P so past (CalledOutside outer ∷ deeds) obeys = all_lines law P so (CalledOutside outer ∷ past) deeds obeys
