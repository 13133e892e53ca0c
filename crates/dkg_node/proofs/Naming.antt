-- The reshare half's course as a part of the node's: under the node's name for its faults, with the orchestrator's half behind it.
use Rattle.std.proofs.Common.{◌≡◌, inl, inr, List, Option, Some, None, refl, sym, ◌∙◌, ap, subst}
use Rattle.dkg_journal.specs.Burn.{Burn}
use Rattle.dkg_journal.specs.Names.{Files}
use Rattle.dkg_infos.specs.declared.entry.Entry.{Entry}
use Rattle.dkg_infos.specs.declared.fault.Fault.{Fault}
use Rattle.dkg_store.specs.Acts as acts_of
use Rattle.dkg_store.specs.Acts.{Acts, World, says, does, at, Moment, Stands, MadeAt, Runs, Completes, Faults, Breaks, Cause, Ended, went, stopped, broken, IfWent}
use Rattle.dkg_store.proofs.Acts.{made_broken, made_next, made_stopped}
use Rattle.dkg_core.specs.Courses.{Course, Say, Do, CallOutside, Ask, Goes, Stops, bind, on_devices, under}
use Rattle.dkg_core.specs.Live.{NodeStop, Faulted}
use Rattle.dkg_core.specs.Said.{Said, SaysAll, SaysFirst, SaysUpTo}
use Rattle.dkg_core.specs.Splitting.{fault_named}
use Rattle.dkg_life.specs.Ends.{by_cause, by_stop, cause_in}
use Rattle.dkg_life.specs.Made.{Burns, MakesAt}
use Rattle.dkg_life.specs.declared.stop.Stop.{Stop}
use Rattle.dkg_life.specs.declared.stop.Stop.TheVariants as stop
use Rattle.dkg_life.proofs.Burning.{burns_next}
use Rattle.dkg_life.proofs.Said.{none_first, said_next}
use Rattle.dkg_life.proofs.Under.{on_bind}
use Rattle.dkg_lives.specs.Ended.{by_node_stop}

-- over the devices, a course with the node's names is its acts with these
on_under : {Dir S : Type 0} (course : Course Dir Fault S) → on_devices (under Faulted course) ≡ acts_of.under Faulted (on_devices course)
on_under (Say line course) = ap (acts_of.Say line) (on_under course)
on_under (Do op course) = ap (acts_of.Do op) (on_under course)
on_under (CallOutside outer course) = on_under course
on_under (Ask f) = λ i. acts_of.Ask (λ h. on_under (f h) i)
on_under (Goes end) = refl
on_under (Stops fault) = refl

-- .. and those of what stands behind them
behind : {Dir S T : Type 0} (course : Course Dir Fault S) (next : S → Course Dir NodeStop T)
    → acts_of.bind (acts_of.under Faulted (on_devices course)) (λ s. on_devices (next s)) ≡ on_devices (bind (under Faulted course) next)
behind course next = sym (on_bind (under Faulted course) next ∙ ap (λ (a : Acts NodeStop _). acts_of.bind a (λ s. on_devices (next s))) (on_under course))

-- NAMES

module _ {S : Type 0} where
  completes_named : (acts : Acts Fault S) (end : S) (w new : World) → Completes acts end w new → Completes (acts_of.under Faulted acts) end w new
  completes_named (acts_of.Say line acts) end w new a = completes_named acts end (says w line) new a
  completes_named (acts_of.Do op acts) end w new a = completes_named acts end (does w op) new a
  completes_named (acts_of.Ask f) end w new a = completes_named (f w.held) end w new a
  completes_named (acts_of.Goes its) end w new a = a
  completes_named (acts_of.Stops fault) end w new a = absurd a

  faults_named : (acts : Acts Fault S) (fault : Fault) (w new : World) → Faults acts fault w new → Faults (acts_of.under Faulted acts) (Faulted fault) w new
  faults_named (acts_of.Say line acts) fault w new a = faults_named acts fault (says w line) new a
  faults_named (acts_of.Do op acts) fault w new a = faults_named acts fault (does w op) new a
  faults_named (acts_of.Ask f) fault w new a = faults_named (f w.held) fault w new a
  faults_named (acts_of.Goes its) fault w new a = absurd a
  faults_named (acts_of.Stops its) fault w new a = (a.0, ap Faulted a.1)

  breaks_named : (cause : Cause) (acts : Acts Fault S) (w new : World) → Breaks cause acts w new → Breaks cause (acts_of.under Faulted acts) w new
  breaks_named cause (acts_of.Say line acts) w new (inl none) = inl none
  breaks_named cause (acts_of.Say line acts) w new (inr more) = inr (breaks_named cause acts (says w line) new more)
  breaks_named cause (acts_of.Do op acts) w new (inl tears) = inl tears
  breaks_named cause (acts_of.Do op acts) w new (inr more) = inr (breaks_named cause acts (does w op) new more)
  breaks_named cause (acts_of.Ask f) w new a = breaks_named cause (f w.held) w new a
  breaks_named cause (acts_of.Goes its) w new a = a
  breaks_named cause (acts_of.Stops its) w new a = a

  runs_named : (acts : Acts Fault S) (how : Ended Fault S) (w new : World) → Runs acts how w new → Runs (acts_of.under Faulted acts) (fault_named Faulted how) w new
  runs_named acts (went end) w new a = completes_named acts end w new a
  runs_named acts (stopped fault) w new a = faults_named acts fault w new a
  runs_named acts (broken cause) w new a = breaks_named cause acts w new a

  if_went_named : (how : Ended Fault S) (P : Type 0) → IfWent how P → IfWent (fault_named Faulted how) P
  if_went_named (went end) P a = a
  if_went_named (stopped fault) P a = tt
  if_went_named (broken cause) P a = tt

  burns_named : (how : Ended Fault S) {f g : Burn} → Burns how f g → Burns (fault_named Faulted how) f g
  burns_named (went end) burns = record { call = burns.call; pick = burns.pick; uncut = burns.uncut }
  burns_named (stopped fault) burns = record { call = burns.call; pick = burns.pick; uncut = burns.uncut }
  burns_named (broken cause) burns = record { call = burns.call; pick = burns.pick; uncut = tt }

  makes_named : (acts : Acts Fault S) (how : Ended Fault S) {files files_now : Files} {image now : Files → Type 0} {old new : Moment}
      → MakesAt acts how files image files_now now old new → MakesAt (acts_of.under Faulted acts) (fault_named Faulted how) files image files_now now old new
  makes_named acts how {files} {files_now} {image} {now} {old} {new} its = record {
    made = record {
      made = λ stands c here. runs_named acts how (at old files) (at new c) (its.made.made stands c here);
      stands = if_went_named how (Stands files image → Stands files_now now) its.made.stands;
    };
    burns = burns_named how its.burns;
  }

  says_all_named : (acts : Acts Fault S) (end : S) (lines : List Entry) → SaysAll acts end lines → SaysAll (acts_of.under Faulted acts) end lines
  says_all_named (acts_of.Say line acts) end lines a = (a.0, a.1, says_all_named acts end a.0 a.2)
  says_all_named (acts_of.Do op acts) end lines a = says_all_named acts end lines a
  says_all_named (acts_of.Ask f) end lines a = (a.0, says_all_named (f a.0) end lines a.1)
  says_all_named (acts_of.Goes its) end lines a = a
  says_all_named (acts_of.Stops fault) end lines a = absurd a

  says_up_to_named : (acts : Acts Fault S) (fault : Fault) (lines : List Entry) → SaysUpTo acts fault lines → SaysUpTo (acts_of.under Faulted acts) (Faulted fault) lines
  says_up_to_named (acts_of.Say line acts) fault lines a = (a.0, a.1, says_up_to_named acts fault a.0 a.2)
  says_up_to_named (acts_of.Do op acts) fault lines a = says_up_to_named acts fault lines a
  says_up_to_named (acts_of.Ask f) fault lines a = (a.0, says_up_to_named (f a.0) fault lines a.1)
  says_up_to_named (acts_of.Goes end) fault lines a = absurd a
  says_up_to_named (acts_of.Stops its) fault lines a = (a.0, ap Faulted a.1)

  says_first_named : (acts : Acts Fault S) (lines : List Entry) → SaysFirst acts lines → SaysFirst (acts_of.under Faulted acts) lines
  says_first_named (acts_of.Say line acts) lines (inl none) = inl none
  says_first_named (acts_of.Say line acts) lines (inr a) = inr (a.0, a.1, says_first_named acts a.0 a.2)
  says_first_named (acts_of.Do op acts) lines (inl none) = inl none
  says_first_named (acts_of.Do op acts) lines (inr a) = inr (says_first_named acts lines a)
  says_first_named (acts_of.Ask f) lines (inl none) = inl none
  says_first_named (acts_of.Ask f) lines (inr a) = inr (a.0, says_first_named (f a.0) lines a.1)
  says_first_named (acts_of.Goes end) lines a = a
  says_first_named (acts_of.Stops fault) lines a = a

  said_named : (acts : Acts Fault S) (how : Ended Fault S) {out now : List Entry} → Said acts how out now → Said (acts_of.under Faulted acts) (fault_named Faulted how) out now
  said_named acts (went end) its = record { lines = its.lines; added = its.added; by = says_all_named acts end its.lines its.by }
  said_named acts (stopped fault) its = record { lines = its.lines; added = its.added; by = says_up_to_named acts fault its.lines its.by }
  said_named acts (broken cause) its = record { lines = its.lines; added = its.added; by = says_first_named acts its.lines its.by }

-- A CALL THAT ENDS BY A STOP ends all that stands behind it, by the same

module _ {S T : Type 0} {before after : Burn} where
  stop_burns : (its : Stop) → Burns (by_node_stop {S = S} its) before after → Burns (by_node_stop {S = T} its) before after
  stop_burns (stop.Fault its) burns = in_cause (cause_in its) its burns
    where
      in_cause : (cause : Option Cause) (its : Fault) → Burns (fault_named {S = S} Faulted (by_cause cause its)) before after → Burns (fault_named {S = T} Faulted (by_cause cause its)) before after
      in_cause (Some cause) its burns = record { call = burns.call; pick = burns.pick; uncut = tt }
      in_cause None its burns = record { call = burns.call; pick = burns.pick; uncut = burns.uncut }
  stop_burns stop.Cut burns = record { call = burns.call; pick = burns.pick; uncut = tt }
  stop_burns stop.Failed burns = record { call = burns.call; pick = burns.pick; uncut = tt }

module _ {S T : Type 0} {acts : Acts NodeStop S} (next : S → Acts NodeStop T) {files files_now : Files} {image now : Files → Type 0} {old new : Moment} where
  stop_made : (its : Stop) → MadeAt acts (by_node_stop its) files image files_now now old new → MadeAt (acts_of.bind acts next) (by_node_stop its) files image files_now now old new
  stop_made (stop.Fault its) made = in_cause (cause_in its) its made
    where
      in_cause : (cause : Option Cause) (its : Fault) → MadeAt acts (fault_named Faulted (by_cause cause its)) files image files_now now old new
          → MadeAt (acts_of.bind acts next) (fault_named Faulted (by_cause cause its)) files image files_now now old new
      in_cause (Some cause) its made = made_broken next made
      in_cause None its made = made_stopped next made
  stop_made stop.Cut made = made_broken next made
  stop_made stop.Failed made = made_broken next made

  makes_early : (its : Stop) → MakesAt acts (by_node_stop its) files image files_now now old new → MakesAt (acts_of.bind acts next) (by_node_stop its) files image files_now now old new
  makes_early its first = record { made = stop_made its first.made; burns = stop_burns its first.burns }

module _ {S T : Type 0} (next : S → Acts NodeStop T) where
  first_behind : (acts : Acts NodeStop S) (lines : List Entry) → SaysFirst acts lines → SaysFirst (acts_of.bind acts next) lines
  first_behind (acts_of.Say line acts) lines (inl none) = inl none
  first_behind (acts_of.Say line acts) lines (inr a) = inr (a.0, a.1, first_behind acts a.0 a.2)
  first_behind (acts_of.Do op acts) lines (inl none) = inl none
  first_behind (acts_of.Do op acts) lines (inr a) = inr (first_behind acts lines a)
  first_behind (acts_of.Ask f) lines (inl none) = inl none
  first_behind (acts_of.Ask f) lines (inr a) = inr (a.0, first_behind (f a.0) lines a.1)
  first_behind (acts_of.Goes end) lines a = subst (SaysFirst (next end)) (sym a) (none_first (next end))
  first_behind (acts_of.Stops fault) lines a = a

  up_to_behind : (acts : Acts NodeStop S) (its : NodeStop) (lines : List Entry) → SaysUpTo acts its lines → SaysUpTo (acts_of.bind acts next) its lines
  up_to_behind (acts_of.Say line acts) its lines a = (a.0, a.1, up_to_behind acts its a.0 a.2)
  up_to_behind (acts_of.Do op acts) its lines a = up_to_behind acts its lines a
  up_to_behind (acts_of.Ask f) its lines a = (a.0, up_to_behind (f a.0) its lines a.1)
  up_to_behind (acts_of.Goes end) its lines a = absurd a
  up_to_behind (acts_of.Stops fault) its lines a = a

  said_early : {acts : Acts NodeStop S} {out now : List Entry} (its : Stop) → Said acts (by_node_stop its) out now → Said (acts_of.bind acts next) (by_node_stop its) out now
  said_early {acts} {out} {now} (stop.Fault its) said = in_cause (cause_in its) its said
    where
      in_cause : (cause : Option Cause) (its : Fault) → Said acts (fault_named Faulted (by_cause cause its)) out now → Said (acts_of.bind acts next) (fault_named Faulted (by_cause cause its)) out now
      in_cause (Some cause) its said = record { lines = said.lines; added = said.added; by = first_behind acts said.lines said.by }
      in_cause None its said = record { lines = said.lines; added = said.added; by = up_to_behind acts (Faulted its) said.lines said.by }
  said_early {acts} stop.Cut said = record { lines = said.lines; added = said.added; by = first_behind acts said.lines said.by }
  said_early {acts} stop.Failed said = record { lines = said.lines; added = said.added; by = first_behind acts said.lines said.by }

-- THE NODE'S COURSE: the reshare half's went, and then what stands behind it; or it ended both.

module _ {Dir S T : Type 0} (course : Course Dir Fault S) (next : S → Course Dir NodeStop T) {files files_mid files_now : Files} {image between now : Files → Type 0} {old mid new : Moment} where
  pub node_goes : {end : S} {how : Ended NodeStop T} → MakesAt (on_devices course) (went end) files image files_mid between old mid → MakesAt (on_devices (next end)) how files_mid between files_now now mid new
      → MakesAt (on_devices (bind (under Faulted course) next)) how files image files_now now old new
  node_goes {end} {how} first second = subst (λ (a : Acts NodeStop T). MakesAt a how files image files_now now old new) (behind course next) (record {
    made = made_next (λ s. on_devices (next s)) (makes_named (on_devices course) (went end) first).made second.made;
    burns = burns_next how (makes_named (on_devices course) (went end) first).burns second.burns;
  })

module _ {Dir S T : Type 0} (course : Course Dir Fault S) (next : S → Course Dir NodeStop T) {files files_now : Files} {image now : Files → Type 0} {old new : Moment} where
  pub node_ends : (its : Stop) → MakesAt (on_devices course) (by_stop its) files image files_now now old new
      → MakesAt (on_devices (bind (under Faulted course) next)) (by_node_stop its) files image files_now now old new
  node_ends its first = subst (λ (a : Acts NodeStop T). MakesAt a (by_node_stop its) files image files_now now old new) (behind course next)
      (makes_early (λ s. on_devices (next s)) its (makes_named (on_devices course) (by_stop its) first))

module _ {Dir S T : Type 0} (course : Course Dir Fault S) (next : S → Course Dir NodeStop T) {out mid now : List Entry} where
  pub node_says : {end : S} {how : Ended NodeStop T} → Said (on_devices course) (went end) out mid → Said (on_devices (next end)) how mid now
      → Said (on_devices (bind (under Faulted course) next)) how out now
  node_says {end} {how} first second = subst (λ (a : Acts NodeStop T). Said a how out now) (behind course next) (said_next (λ s. on_devices (next s)) (said_named (on_devices course) (went end) first) second)

module _ {Dir S T : Type 0} (course : Course Dir Fault S) (next : S → Course Dir NodeStop T) {out now : List Entry} where
  pub node_says_early : (its : Stop) → Said (on_devices course) (by_stop its) out now → Said (on_devices (bind (under Faulted course) next)) (by_node_stop its) out now
  node_says_early its first = subst (λ (a : Acts NodeStop T). Said a (by_node_stop its) out now) (behind course next)
      (said_early (λ s. on_devices (next s)) its (said_named (on_devices course) (by_stop its) first))
