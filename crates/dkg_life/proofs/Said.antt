-- Lines of acts, one after another, whatever the devices tell.
use Rattle.std.proofs.Common.{◌≡◌, inl, inr, ℕ, List, [], ◌∷◌, ◌++◌, Option, Some, None, refl, sym, ◌∙◌, ap, subst, append_assoc, append-nil}
use Rattle.std.specs.FinMap.{empty}
use Rattle.dkg_journal.specs.Burn.{Burn}
use Rattle.dkg_infos.specs.declared.entry.Entry.{Entry}
use Rattle.dkg_store.specs.Acts as acts_of
use Rattle.dkg_infos.specs.declared.fault.Fault.{Fault}
use Rattle.dkg_store.specs.Acts.{Acts, Held, held_in, World, says, does, Completes, Faults, Breaks, Runs, Cause, Ended, went, stopped, broken, bind}
use Rattle.dkg_core.specs.Courses.{Course, on_devices}
use Rattle.dkg_store.specs.Acts.{by_cut, by_want}
use Rattle.dkg_values.specs.declared.name.Name.{Name}
use Rattle.dkg_store.specs.Called.{ErrorIsDueWith}
use Rattle.dkg_store.specs.Errors.{IsOfDevices, IsOfPruning}
use Rattle.dkg_store.specs.declared.call.StoreError.{StoreError}
use Rattle.dkg_store.specs.declared.call.StoreError.TheVariants.{Disk, Secrets as SecretsFailed, Corrupt, LocalState, StateSyncEpochs, StateSyncMaterial, Cut, NoMemory}
use Rattle.dkg_life.specs.declared.stop.Stop.{Stop}
use Rattle.dkg_life.specs.declared.stop.Stop.TheVariants as stop
use Rattle.dkg_life.specs.Ends.{stop_of, cause_in, by_cause, by_stop}
use Rattle.dkg_life.specs.Made.{Speaks, Tells}
use Rattle.dkg_core.specs.Said.{SaysAll, SaysUpTo, SaysFirst, SaysBy, Said}

module _ {F S T : Type 0} (next : S → Acts F T) where
  -- all lines of the first, and then those of the next
  says_next : (how : Ended F T) (acts : Acts F S) (end : S) (lines more : List Entry) → SaysAll acts end lines → SaysBy (next end) how more → SaysBy (bind acts next) how (lines ++ more)
  says_next (went last) (acts_of.Say line acts) end lines more a b = (a.0 ++ more, ap (λ (l : List Entry). l ++ more) a.1, says_next (went last) acts end a.0 more a.2 b)
  says_next (went last) (acts_of.Do op acts) end lines more a b = says_next (went last) acts end lines more a b
  says_next (went last) (acts_of.Ask f) end lines more a b = (a.0, says_next (went last) (f a.0) end lines more a.1 b)
  says_next (went last) (acts_of.Goes its) end lines more a b =
      subst (λ (l : List Entry). SaysAll (next its) last (l ++ more)) (sym a.0) (subst (λ (s : S). SaysAll (next s) last more) a.1 b)
  says_next (went last) (acts_of.Stops fault) end lines more a b = absurd a
  says_next (stopped its) (acts_of.Say line acts) end lines more a b = (a.0 ++ more, ap (λ (l : List Entry). l ++ more) a.1, says_next (stopped its) acts end a.0 more a.2 b)
  says_next (stopped its) (acts_of.Do op acts) end lines more a b = says_next (stopped its) acts end lines more a b
  says_next (stopped its) (acts_of.Ask f) end lines more a b = (a.0, says_next (stopped its) (f a.0) end lines more a.1 b)
  says_next (stopped its) (acts_of.Goes e) end lines more a b =
      subst (λ (l : List Entry). SaysUpTo (next e) its (l ++ more)) (sym a.0) (subst (λ (s : S). SaysUpTo (next s) its more) a.1 b)
  says_next (stopped its) (acts_of.Stops fault) end lines more a b = absurd a
  says_next (broken cause) (acts_of.Say line acts) end lines more a b =
      inr (a.0 ++ more, ap (λ (l : List Entry). l ++ more) a.1, says_next (broken cause) acts end a.0 more a.2 b)
  says_next (broken cause) (acts_of.Do op acts) end lines more a b = inr (says_next (broken cause) acts end lines more a b)
  says_next (broken cause) (acts_of.Ask f) end lines more a b = inr (a.0, says_next (broken cause) (f a.0) end lines more a.1 b)
  says_next (broken cause) (acts_of.Goes e) end lines more a b =
      subst (λ (l : List Entry). SaysFirst (next e) (l ++ more)) (sym a.0) (subst (λ (s : S). SaysFirst (next s) more) a.1 b)
  says_next (broken cause) (acts_of.Stops fault) end lines more a b = absurd a

  -- the first lines of the first
  says_first : (acts : Acts F S) (lines : List Entry) → SaysFirst acts lines → SaysFirst (bind acts next) lines
  says_first (acts_of.Say line acts) lines (inl none) = inl none
  says_first (acts_of.Say line acts) lines (inr more) = inr (more.0, more.1, says_first acts more.0 more.2)
  says_first (acts_of.Do op acts) lines (inl none) = inl none
  says_first (acts_of.Do op acts) lines (inr more) = inr (says_first acts lines more)
  says_first (acts_of.Ask f) lines (inl none) = inl none
  says_first (acts_of.Ask f) lines (inr more) = inr (more.0, says_first (f more.0) lines more.1)
  says_first (acts_of.Goes end) lines a = subst (SaysFirst (next end)) (sym a) (none_first (next end))
    where
      none_first : (acts : Acts F T) → SaysFirst acts []
      none_first (acts_of.Say line acts) = inl refl
      none_first (acts_of.Do op acts) = inl refl
      none_first (acts_of.Ask f) = inl refl
      none_first (acts_of.Goes its) = refl
      none_first (acts_of.Stops fault) = refl
  says_first (acts_of.Stops fault) lines a = a

  pub said_next : {acts : Acts F S} {how : Ended F T} {end : S} {out mid now : List Entry} → Said acts (went end) out mid → Said (next end) how mid now → Said (bind acts next) how out now
  said_next {acts = acts} {how = how} {end = end} {out = out} first second = record {
    lines = first.lines ++ second.lines;
    added = second.added ∙ ap (λ (l : List Entry). l ++ second.lines) first.added ∙ append_assoc out first.lines second.lines;
    by = says_next how acts end first.lines second.lines first.by second.by;
  }

-- nothing is the first of any
pub none_first : {F S : Type 0} (acts : Acts F S) → SaysFirst acts []
none_first (acts_of.Say line acts) = inl refl
none_first (acts_of.Do op acts) = inl refl
none_first (acts_of.Ask f) = inl refl
none_first (acts_of.Goes its) = refl
none_first (acts_of.Stops fault) = refl

-- An error from outside at which nothing was said.
pub said_none : {S : Type 0} (acts : Acts Fault S) (e : StoreError) → IsOfPruning e → {out now : List Entry} → now ≡ out → Said acts (by_stop (stop_of e)) out now
said_none acts Disk is {out} same = record { lines = []; added = same ∙ sym (append-nil out); by = none_first acts }
said_none acts SecretsFailed is {out} same = record { lines = []; added = same ∙ sym (append-nil out); by = none_first acts }
said_none acts (Corrupt name place) is {out} same = record { lines = []; added = same ∙ sym (append-nil out); by = none_first acts }
said_none acts (LocalState cause) is same = absurd is
said_none acts (StateSyncEpochs info floor) is same = absurd is
said_none acts StateSyncMaterial is same = absurd is
said_none acts Cut is {out} same = record { lines = []; added = same ∙ sym (append-nil out); by = none_first acts }
said_none acts NoMemory is {out} same = record { lines = []; added = same ∙ sym (append-nil out); by = none_first acts }

pub devices_of_pruning : (e : StoreError) → IsOfDevices e → IsOfPruning e
devices_of_pruning Disk is = tt
devices_of_pruning SecretsFailed is = tt
devices_of_pruning (Corrupt name place) is = tt
devices_of_pruning (LocalState cause) is = absurd is
devices_of_pruning (StateSyncEpochs info floor) is = absurd is
devices_of_pruning StateSyncMaterial is = absurd is
devices_of_pruning Cut is = tt
devices_of_pruning NoMemory is = tt

pub pruning_of_due : (record_at : Name → ℕ → Type 0) (disk secrets cut want : Type 0) (e : StoreError) → ErrorIsDueWith record_at e disk secrets cut want → IsOfPruning e
pruning_of_due record_at disk secrets cut want Disk due = tt
pruning_of_due record_at disk secrets cut want SecretsFailed due = tt
pruning_of_due record_at disk secrets cut want (Corrupt name place) due = tt
pruning_of_due record_at disk secrets cut want (LocalState cause) due = absurd due
pruning_of_due record_at disk secrets cut want (StateSyncEpochs info floor) due = absurd due
pruning_of_due record_at disk secrets cut want StateSyncMaterial due = absurd due
pruning_of_due record_at disk secrets cut want Cut due = tt
pruning_of_due record_at disk secrets cut want NoMemory due = tt

-- A stop ends all that stands behind it.
module _ {S T : Type 0} {acts : Acts Fault S} (next : S → Acts Fault T) {out now : List Entry} where
  stopped_early : (its : Fault) → Said acts (stopped its) out now → Said (bind acts next) (stopped its) out now
  stopped_early its said = record { lines = said.lines; added = said.added; by = says_up_to acts said.lines said.by }
    where
      says_up_to : (acts : Acts Fault S) (lines : List Entry) → SaysUpTo acts its lines → SaysUpTo (bind acts next) its lines
      says_up_to (acts_of.Say line acts) lines a = (a.0, a.1, says_up_to acts a.0 a.2)
      says_up_to (acts_of.Do op acts) lines a = says_up_to acts lines a
      says_up_to (acts_of.Ask f) lines a = (a.0, says_up_to (f a.0) lines a.1)
      says_up_to (acts_of.Goes end) lines a = absurd a
      says_up_to (acts_of.Stops fault) lines a = a

  broken_early : (cause : Cause) → Said acts (broken cause) out now → Said (bind acts next) (broken cause) out now
  broken_early cause said = record { lines = said.lines; added = said.added; by = says_first next acts said.lines said.by }

  by_cause_early : (cause : Option Cause) (its : Fault) → Said acts (by_cause cause its) out now → Said (bind acts next) (by_cause cause its) out now
  by_cause_early (Some cause) its said = broken_early cause said
  by_cause_early None its said = stopped_early its said

  pub said_early : (its : Stop) → Said acts (by_stop its) out now → Said (bind acts next) (by_stop its) out now
  said_early (stop.Fault its) said = by_cause_early (cause_in its) its said
  said_early stop.Cut said = broken_early by_cut said
  said_early stop.Failed said = broken_early by_want said

-- WHAT RAN, SAID ITS LINES

-- these lines came to a transcript, and they are so
pub record Came (out now : List Entry) (P : List Entry → Type 0) : Type 0 where
  pub lines : List Entry
  pub added : now ≡ out ++ lines
  pub are : P lines

none_came : {out now : List Entry} {P : List Entry → Type 0} → now ≡ out → P [] → Came out now P
none_came {out} is p = record { lines = []; added = is ∙ sym (append-nil out); are = p }

one_more : (line : Entry) {out now : List Entry} {P Q : List Entry → Type 0} → Came (out ++ line ∷ []) now P → ((lines : List Entry) → P lines → Q (line ∷ lines)) → Came out now Q
one_more line {out} came so = record { lines = line ∷ came.lines; added = came.added ∙ append_assoc out (line ∷ []) came.lines; are = so came.lines came.are }

as_lines : {out now : List Entry} {P Q : List Entry → Type 0} → Came out now P → ((lines : List Entry) → P lines → Q lines) → Came out now Q
as_lines came so = record { lines = came.lines; added = came.added; are = so came.lines came.are }

module _ {F S : Type 0} where
  all_came : (acts : Acts F S) (end : S) (w new : World) → Completes acts end w new → Came w.out new.out (SaysAll acts end)
  all_came (acts_of.Say line acts) end w new a = one_more line (all_came acts end (says w line) new a) (λ lines p. (lines, refl, p))
  all_came (acts_of.Do op acts) end w new a = all_came acts end (does w op) new a
  all_came (acts_of.Ask f) end w new a = as_lines (all_came (f w.held) end w new a) (λ lines p. (w.held, p))
  all_came (acts_of.Goes its) end w new a = none_came (ap (λ (x : World). x.out) a.0) (refl, a.1)
  all_came (acts_of.Stops fault) end w new a = absurd a

  up_to_came : (acts : Acts F S) (fault : F) (w new : World) → Faults acts fault w new → Came w.out new.out (SaysUpTo acts fault)
  up_to_came (acts_of.Say line acts) fault w new a = one_more line (up_to_came acts fault (says w line) new a) (λ lines p. (lines, refl, p))
  up_to_came (acts_of.Do op acts) fault w new a = up_to_came acts fault (does w op) new a
  up_to_came (acts_of.Ask f) fault w new a = as_lines (up_to_came (f w.held) fault w new a) (λ lines p. (w.held, p))
  up_to_came (acts_of.Goes end) fault w new a = absurd a
  up_to_came (acts_of.Stops its) fault w new a = none_came (ap (λ (x : World). x.out) a.0) (refl, a.1)

  first_came : (cause : Cause) (acts : Acts F S) (w new : World) → Breaks cause acts w new → Came w.out new.out (SaysFirst acts)
  first_came cause (acts_of.Say line acts) w new (inl none) = none_came (ap (λ (x : World). x.out) none.1) (inl refl)
  first_came cause (acts_of.Say line acts) w new (inr more) = one_more line (first_came cause acts (says w line) new more) (λ lines p. inr (lines, refl, p))
  first_came cause (acts_of.Do op acts) w new (inl tears) = none_came tears.same (inl refl)
  first_came cause (acts_of.Do op acts) w new (inr more) = as_lines (first_came cause acts (does w op) new more) (λ lines p. inr p)
  first_came cause (acts_of.Ask f) w new a = as_lines (first_came cause (f w.held) w new a) (λ lines p. inr (w.held, p))
  first_came cause (acts_of.Goes end) w new a = none_came (ap (λ (x : World). x.out) a.1) refl
  first_came cause (acts_of.Stops fault) w new a = none_came (ap (λ (x : World). x.out) a.1) refl

  pub said_of_runs : (acts : Acts F S) (how : Ended F S) (w new : World) → Runs acts how w new → Said acts how w.out new.out
  said_of_runs acts (went end) w new a = let came = all_came acts end w new a in record { lines = came.lines; added = came.added; by = came.are }
  said_of_runs acts (stopped fault) w new a = let came = up_to_came acts fault w new a in record { lines = came.lines; added = came.added; by = came.are }
  said_of_runs acts (broken cause) w new a = let came = first_came cause acts w new a in record { lines = came.lines; added = came.added; by = came.are }

-- devices that hold nothing
pub nothing_held : Held
nothing_held = held_in empty (record { shares = empty; seeds = empty; privates = empty })

-- .. and so did a course that touches no device.
pub speaks_tells : {Dir S : Type 0} (course : Course Dir Fault S) (how : Ended Fault S) {out now : List Entry} → Speaks course how out now → Tells course how out now
speaks_tells course how {out} {now} speaks =
    let f : Burn = record { call = 0; pick = 0; spent = 0 } in
    said_of_runs (on_devices course) how (record { out = out; held = nothing_held; fuse = f }) (record { out = now; held = nothing_held; fuse = f }) (speaks nothing_held f)
