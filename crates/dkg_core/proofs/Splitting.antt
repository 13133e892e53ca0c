-- Courses one behind another, taken apart.
use Rattle.std.proofs.Common.{◌≡◌, ◌⊎◌, inl, inr, List, [], ◌∷◌, ◌++◌, refl, sym, ◌∙◌, ap, subst, append_assoc}
use Rattle.dkg_infos.specs.declared.entry.Entry.{Entry}
use Rattle.dkg_store.specs.Acts.{World, says, does, Cause, Ended, went, stopped, broken, Completes, Faults, Breaks}
use Rattle.dkg_core.specs.Courses.{Course, Say, Do, CallOutside, Ask, Goes, Stops, bind, under, on_devices}
use Rattle.dkg_core.specs.Said.{Said, SaysAll, SaysUpTo, SaysFirst}
use Rattle.dkg_core.specs.Splitting.{IsEarly, RunsSplit, RunsUnder, SaidSplit, SaidUnder}
use Rattle.dkg_core.specs.Endings.{CameTo, ComesTo}

-- RUNS

module _ {Dir F S T : Type 0} (next : S → Course Dir F T) where
  completes_apart : (course : Course Dir F S) (end : T) (w new : World) → Completes (on_devices (bind course next)) end w new
      → (its : S) × (mid : World) × Completes (on_devices course) its w mid × Completes (on_devices (next its)) end mid new
  completes_apart (Say line course) end w new run = completes_apart course end (says w line) new run
  completes_apart (Do op course) end w new run = completes_apart course end (does w op) new run
  completes_apart (CallOutside outer course) end w new run = completes_apart course end w new run
  completes_apart (Ask f) end w new run = completes_apart (f w.held) end w new run
  completes_apart (Goes its) end w new run = (its, w, (refl, refl), run)
  completes_apart (Stops fault) end w new run = absurd run

  faults_apart : (course : Course Dir F S) (fault : F) (w new : World) → Faults (on_devices (bind course next)) fault w new
      → ((its : S) × (mid : World) × Completes (on_devices course) its w mid × Faults (on_devices (next its)) fault mid new) ⊎ Faults (on_devices course) fault w new
  faults_apart (Say line course) fault w new run = faults_apart course fault (says w line) new run
  faults_apart (Do op course) fault w new run = faults_apart course fault (does w op) new run
  faults_apart (CallOutside outer course) fault w new run = faults_apart course fault w new run
  faults_apart (Ask f) fault w new run = faults_apart (f w.held) fault w new run
  faults_apart (Goes its) fault w new run = inl (its, w, (refl, refl), run)
  faults_apart (Stops its) fault w new run = inr run

  breaks_apart : (cause : Cause) (course : Course Dir F S) (w new : World) → Breaks cause (on_devices (bind course next)) w new
      → ((its : S) × (mid : World) × Completes (on_devices course) its w mid × Breaks cause (on_devices (next its)) mid new) ⊎ Breaks cause (on_devices course) w new
  breaks_apart cause (Say line course) w new (inl none) = inr (inl none)
  breaks_apart cause (Say line course) w new (inr run) = elim (breaks_apart cause course (says w line) new run) [ inl both ↦ inl both | inr first ↦ inr (inr first) ]
  breaks_apart cause (Do op course) w new (inl torn) = inr (inl torn)
  breaks_apart cause (Do op course) w new (inr run) = elim (breaks_apart cause course (does w op) new run) [ inl both ↦ inl both | inr first ↦ inr (inr first) ]
  breaks_apart cause (CallOutside outer course) w new run = breaks_apart cause course w new run
  breaks_apart cause (Ask f) w new run = breaks_apart cause (f w.held) w new run
  breaks_apart cause (Goes its) w new run = inl (its, w, (refl, refl), run)
  breaks_apart cause (Stops fault) w new run = inr run

pub runs_split : {Dir F S T : Type 0} → RunsSplit Dir F S T
runs_split course next (went end) w new run = inl (completes_apart next course end w new run)
runs_split course next (stopped fault) w new run = elim (faults_apart next course fault w new run) [ inl both ↦ inl both | inr first ↦ inr (stopped fault, refl, first) ]
runs_split course next (broken cause) w new run = elim (breaks_apart next cause course w new run) [ inl both ↦ inl both | inr first ↦ inr (broken cause, refl, first) ]

-- LINES

module _ {Dir F S T : Type 0} (next : S → Course Dir F T) where
  -- these lines are the first's, up to its end, and then the second's
  abbrev Both : Course Dir F S → (S → List Entry → Type 0) → List Entry → Type 0
  Both course P lines = (its : S) × (first : List Entry) × (rest : List Entry) × (lines ≡ first ++ rest) × SaysAll (on_devices course) its first × P its rest

  both_more : (line : Entry) (course : Course Dir F S) (P : S → List Entry → Type 0) (lines rest : List Entry) → lines ≡ line ∷ rest → Both course P rest → Both (Say line course) P lines
  both_more line course P lines rest is both = (both.0, line ∷ both.1, both.2, is ∙ ap (λ (ls : List Entry). line ∷ ls) both.3, (both.1, refl, both.4), both.5)

  all_apart : (course : Course Dir F S) (end : T) (lines : List Entry) → SaysAll (on_devices (bind course next)) end lines → Both course (λ its rest. SaysAll (on_devices (next its)) end rest) lines
  all_apart (Say line course) end lines said = both_more line course (λ its rest. SaysAll (on_devices (next its)) end rest) lines said.0 said.1 (all_apart course end said.0 said.2)
  all_apart (Do op course) end lines said = all_apart course end lines said
  all_apart (CallOutside outer course) end lines said = all_apart course end lines said
  all_apart (Ask f) end lines said = let both = all_apart (f said.0) end lines said.1 in (both.0, both.1, both.2, both.3, (said.0, both.4), both.5)
  all_apart (Goes its) end lines said = (its, [], lines, refl, (refl, refl), said)
  all_apart (Stops fault) end lines said = absurd said

  up_to_apart : (course : Course Dir F S) (fault : F) (lines : List Entry) → SaysUpTo (on_devices (bind course next)) fault lines
      → Both course (λ its rest. SaysUpTo (on_devices (next its)) fault rest) lines ⊎ SaysUpTo (on_devices course) fault lines
  up_to_apart (Say line course) fault lines said = elim (up_to_apart course fault said.0 said.2) [
    | inl both ↦ inl (both_more line course (λ its rest. SaysUpTo (on_devices (next its)) fault rest) lines said.0 said.1 both)
    | inr first ↦ inr (said.0, said.1, first)
  ]
  up_to_apart (Do op course) fault lines said = up_to_apart course fault lines said
  up_to_apart (CallOutside outer course) fault lines said = up_to_apart course fault lines said
  up_to_apart (Ask f) fault lines said = elim (up_to_apart (f said.0) fault lines said.1) [
    | inl both ↦ inl (both.0, both.1, both.2, both.3, (said.0, both.4), both.5)
    | inr first ↦ inr (said.0, first)
  ]
  up_to_apart (Goes its) fault lines said = inl (its, [], lines, refl, (refl, refl), said)
  up_to_apart (Stops its) fault lines said = inr said

  first_apart : (course : Course Dir F S) (lines : List Entry) → SaysFirst (on_devices (bind course next)) lines
      → Both course (λ its rest. SaysFirst (on_devices (next its)) rest) lines ⊎ SaysFirst (on_devices course) lines
  first_apart (Say line course) lines (inl none) = inr (inl none)
  first_apart (Say line course) lines (inr said) = elim (first_apart course said.0 said.2) [
    | inl both ↦ inl (both_more line course (λ its rest. SaysFirst (on_devices (next its)) rest) lines said.0 said.1 both)
    | inr first ↦ inr (inr (said.0, said.1, first))
  ]
  first_apart (Do op course) lines (inl none) = inr (inl none)
  first_apart (Do op course) lines (inr said) = elim (first_apart course lines said) [ inl both ↦ inl both | inr first ↦ inr (inr first) ]
  first_apart (CallOutside outer course) lines said = first_apart course lines said
  first_apart (Ask f) lines (inl none) = inr (inl none)
  first_apart (Ask f) lines (inr said) = elim (first_apart (f said.0) lines said.1) [
    | inl both ↦ inl (both.0, both.1, both.2, both.3, (said.0, both.4), both.5)
    | inr first ↦ inr (inr (said.0, first))
  ]
  first_apart (Goes its) lines said = inl (its, [], lines, refl, (refl, refl), said)
  first_apart (Stops fault) lines said = inr said

pub said_split : {Dir F S T : Type 0} → SaidSplit Dir F S T
said_split {Dir} {F} {S} {T} course next (went end) old new said = both (all_apart next course end said.lines said.by)
  where
    both : Both next course (λ its rest. SaysAll (on_devices (next its)) end rest) said.lines
        → ((its : S) × (mid : List Entry) × Said (on_devices course) (went its) old mid × Said (on_devices (next its)) (went end) mid new)
        ⊎ ((early : Ended F S) × IsEarly {T = T} early (went end) × Said (on_devices course) early old new)
    both b = inl (
      b.0,
      old ++ b.1,
      record { lines = b.1; added = refl; by = b.4 },
      record { lines = b.2; added = said.added ∙ ap (λ (ls : List Entry). old ++ ls) b.3 ∙ sym (append_assoc old b.1 b.2); by = b.5 },
    )
said_split {Dir} {F} {S} {T} course next (stopped fault) old new said = either (up_to_apart next course fault said.lines said.by)
  where
    either : Both next course (λ its rest. SaysUpTo (on_devices (next its)) fault rest) said.lines ⊎ SaysUpTo (on_devices course) fault said.lines
        → ((its : S) × (mid : List Entry) × Said (on_devices course) (went its) old mid × Said (on_devices (next its)) (stopped fault) mid new)
        ⊎ ((early : Ended F S) × IsEarly {T = T} early (stopped fault) × Said (on_devices course) early old new)
    either (inl b) = inl (
      b.0,
      old ++ b.1,
      record { lines = b.1; added = refl; by = b.4 },
      record { lines = b.2; added = said.added ∙ ap (λ (ls : List Entry). old ++ ls) b.3 ∙ sym (append_assoc old b.1 b.2); by = b.5 },
    )
    either (inr first) = inr (stopped fault, refl, record { lines = said.lines; added = said.added; by = first })
said_split {Dir} {F} {S} {T} course next (broken cause) old new said = either (first_apart next course said.lines said.by)
  where
    either : Both next course (λ its rest. SaysFirst (on_devices (next its)) rest) said.lines ⊎ SaysFirst (on_devices course) said.lines
        → ((its : S) × (mid : List Entry) × Said (on_devices course) (went its) old mid × Said (on_devices (next its)) (broken cause) mid new)
        ⊎ ((early : Ended F S) × IsEarly {T = T} early (broken cause) × Said (on_devices course) early old new)
    either (inl b) = inl (
      b.0,
      old ++ b.1,
      record { lines = b.1; added = refl; by = b.4 },
      record { lines = b.2; added = said.added ∙ ap (λ (ls : List Entry). old ++ ls) b.3 ∙ sym (append_assoc old b.1 b.2); by = b.5 },
    )
    either (inr first) = inr (broken cause, refl, record { lines = said.lines; added = said.added; by = first })

-- OTHER NAMES

module _ {Dir F G S : Type 0} (name : F → G) where
  completes_under : (course : Course Dir F S) (end : S) (w new : World) → Completes (on_devices (under name course)) end w new → Completes (on_devices course) end w new
  completes_under (Say line course) end w new run = completes_under course end (says w line) new run
  completes_under (Do op course) end w new run = completes_under course end (does w op) new run
  completes_under (CallOutside outer course) end w new run = completes_under course end w new run
  completes_under (Ask f) end w new run = completes_under (f w.held) end w new run
  completes_under (Goes its) end w new run = run
  completes_under (Stops fault) end w new run = absurd run

  faults_under : (course : Course Dir F S) (fault : G) (w new : World) → Faults (on_devices (under name course)) fault w new → (its : F) × (fault ≡ name its) × Faults (on_devices course) its w new
  faults_under (Say line course) fault w new run = faults_under course fault (says w line) new run
  faults_under (Do op course) fault w new run = faults_under course fault (does w op) new run
  faults_under (CallOutside outer course) fault w new run = faults_under course fault w new run
  faults_under (Ask f) fault w new run = faults_under (f w.held) fault w new run
  faults_under (Goes end) fault w new run = absurd run
  faults_under (Stops its) fault w new run = (its, run.1, (run.0, refl))

  breaks_under : (cause : Cause) (course : Course Dir F S) (w new : World) → Breaks cause (on_devices (under name course)) w new → Breaks cause (on_devices course) w new
  breaks_under cause (Say line course) w new (inl none) = inl none
  breaks_under cause (Say line course) w new (inr run) = inr (breaks_under cause course (says w line) new run)
  breaks_under cause (Do op course) w new (inl torn) = inl torn
  breaks_under cause (Do op course) w new (inr run) = inr (breaks_under cause course (does w op) new run)
  breaks_under cause (CallOutside outer course) w new run = breaks_under cause course w new run
  breaks_under cause (Ask f) w new run = breaks_under cause (f w.held) w new run
  breaks_under cause (Goes end) w new run = run
  breaks_under cause (Stops fault) w new run = run

  all_under : (course : Course Dir F S) (end : S) (lines : List Entry) → SaysAll (on_devices (under name course)) end lines → SaysAll (on_devices course) end lines
  all_under (Say line course) end lines said = (said.0, said.1, all_under course end said.0 said.2)
  all_under (Do op course) end lines said = all_under course end lines said
  all_under (CallOutside outer course) end lines said = all_under course end lines said
  all_under (Ask f) end lines said = (said.0, all_under (f said.0) end lines said.1)
  all_under (Goes its) end lines said = said
  all_under (Stops fault) end lines said = absurd said

  up_to_under : (course : Course Dir F S) (fault : G) (lines : List Entry) → SaysUpTo (on_devices (under name course)) fault lines
      → (its : F) × (fault ≡ name its) × SaysUpTo (on_devices course) its lines
  up_to_under (Say line course) fault lines said = let rest = up_to_under course fault said.0 said.2 in (rest.0, rest.1, (said.0, said.1, rest.2))
  up_to_under (Do op course) fault lines said = up_to_under course fault lines said
  up_to_under (CallOutside outer course) fault lines said = up_to_under course fault lines said
  up_to_under (Ask f) fault lines said = let rest = up_to_under (f said.0) fault lines said.1 in (rest.0, rest.1, (said.0, rest.2))
  up_to_under (Goes end) fault lines said = absurd said
  up_to_under (Stops its) fault lines said = (its, said.1, (said.0, refl))

  first_under : (course : Course Dir F S) (lines : List Entry) → SaysFirst (on_devices (under name course)) lines → SaysFirst (on_devices course) lines
  first_under (Say line course) lines (inl none) = inl none
  first_under (Say line course) lines (inr said) = inr (said.0, said.1, first_under course said.0 said.2)
  first_under (Do op course) lines (inl none) = inl none
  first_under (Do op course) lines (inr said) = inr (first_under course lines said)
  first_under (CallOutside outer course) lines said = first_under course lines said
  first_under (Ask f) lines (inl none) = inl none
  first_under (Ask f) lines (inr said) = inr (said.0, first_under (f said.0) lines said.1)
  first_under (Goes end) lines said = said
  first_under (Stops fault) lines said = said

pub runs_under : {Dir F G S : Type 0} → RunsUnder Dir F G S
runs_under name course (went end) w new run = (went end, refl, completes_under name course end w new run)
runs_under name course (stopped fault) w new run = let its = faults_under name course fault w new run in (stopped its.0, ap stopped its.1, its.2)
runs_under name course (broken cause) w new run = (broken cause, refl, breaks_under name cause course w new run)

pub said_under : {Dir F G S : Type 0} → SaidUnder Dir F G S
said_under name course (went end) old new said = (went end, refl, record { lines = said.lines; added = said.added; by = all_under name course end said.lines said.by })
said_under name course (stopped fault) old new said =
    let its = up_to_under name course fault said.lines said.by in (stopped its.0, ap stopped its.1, record { lines = said.lines; added = said.added; by = its.2 })
said_under name course (broken cause) old new said = (broken cause, refl, record { lines = said.lines; added = said.added; by = first_under name course said.lines said.by })

-- WHERE COURSES COME TO

module _ {Dir F S : Type 0} (stops : F → Type 0) (goes : S → Type 0) where
  came_all : (course : Course Dir F S) (end : S) (lines : List Entry) → ComesTo stops goes course → SaysAll (on_devices course) end lines → goes end
  came_all (Say line course) end lines comes a = came_all course end a.0 comes a.2
  came_all (Do op course) end lines comes a = came_all course end lines comes a
  came_all (CallOutside outer course) end lines comes a = came_all course end lines comes a
  came_all (Ask f) end lines comes a = came_all (f a.0) end lines (comes a.0) a.1
  came_all (Goes its) end lines comes a = subst goes (sym a.1) comes
  came_all (Stops fault) end lines comes a = absurd a

  came_up_to : (course : Course Dir F S) (fault : F) (lines : List Entry) → ComesTo stops goes course → SaysUpTo (on_devices course) fault lines → stops fault
  came_up_to (Say line course) fault lines comes a = came_up_to course fault a.0 comes a.2
  came_up_to (Do op course) fault lines comes a = came_up_to course fault lines comes a
  came_up_to (CallOutside outer course) fault lines comes a = came_up_to course fault lines comes a
  came_up_to (Ask f) fault lines comes a = came_up_to (f a.0) fault lines (comes a.0) a.1
  came_up_to (Goes end) fault lines comes a = absurd a
  came_up_to (Stops its) fault lines comes a = subst stops (sym a.1) comes

  pub came_to : (course : Course Dir F S) (ended : Ended F S) (old new : List Entry) → ComesTo stops goes course → Said (on_devices course) ended old new → CameTo stops goes ended
  came_to course (went end) old new comes said = came_all course end said.lines comes said.by
  came_to course (stopped fault) old new comes said = came_up_to course fault said.lines comes said.by
  came_to course (broken cause) old new comes said = tt

-- one behind another
pub comes_behind : {Dir F S T : Type 0} (stops : F → Type 0) (first : S → Type 0) (goes : T → Type 0) (course : Course Dir F S) (next : S → Course Dir F T)
    → ComesTo stops first course → ((end : S) → first end → ComesTo stops goes (next end)) → ComesTo stops goes (bind course next)
comes_behind stops first goes (Say line course) next comes so = comes_behind stops first goes course next comes so
comes_behind stops first goes (Do op course) next comes so = comes_behind stops first goes course next comes so
comes_behind stops first goes (CallOutside outer course) next comes so = comes_behind stops first goes course next comes so
comes_behind stops first goes (Ask f) next comes so = λ h. comes_behind stops first goes (f h) next (comes h) so
comes_behind stops first goes (Goes end) next comes so = so end comes
comes_behind stops first goes (Stops fault) next comes so = comes

-- from both: each of two facts of every stop and every end
pub comes_both : {Dir F S : Type 0} (stops others : F → Type 0) (goes ends : S → Type 0) (course : Course Dir F S) → ComesTo stops goes course → ComesTo others ends course
    → ComesTo (λ fault. stops fault × others fault) (λ end. goes end × ends end) course
comes_both stops others goes ends (Say line course) one other = comes_both stops others goes ends course one other
comes_both stops others goes ends (Do op course) one other = comes_both stops others goes ends course one other
comes_both stops others goes ends (CallOutside outer course) one other = comes_both stops others goes ends course one other
comes_both stops others goes ends (Ask f) one other = λ h. comes_both stops others goes ends (f h) (one h) (other h)
comes_both stops others goes ends (Goes end) one other = (one, other)
comes_both stops others goes ends (Stops fault) one other = (one, other)
