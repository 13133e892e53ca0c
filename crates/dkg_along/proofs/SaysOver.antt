-- What a course says over these devices, where each read finds what they hold then.
use Rattle.std.proofs.Common.{◌≡◌, Bool, true, false, List, ◌++◌, Option, Some, None, refl, subst}
use Rattle.std.specs.Prelude.{if◌then◌else◌}
use Rattle.std.specs.List.{AllByRecursion}
use Rattle.std.specs.Option.{option_map_or}
use Rattle.dkg_infos.specs.declared.entry.Entry.{Entry}
use Rattle.dkg_store.specs.Acts.{Ended, Held, World, held_after}
use Rattle.dkg_core.specs.Behind.{OnlySays}
use Rattle.dkg_core.specs.Courses.{Ask, CallOutside, Course, Do, EndsSo, Goes, Say, Stops, bind, deeds_of, under}
use Rattle.dkg_core.specs.Forms.{ComesOver}
use Rattle.dkg_core.specs.SayingThrough.{SaysSo}
use Rattle.dkg_core.specs.Transcripts.{AddsDeeds, deed_entries}
use Rattle.dkg_core.proofs.Lines.{runs_add_deeds}
use Rattle.dkg_along.proofs.Used.{all_front}

-- Each line of the course is such a one.
abbrev pub SaysOver : {Dir F S : Type 0} → (Entry → Type 0) → Course Dir F S → Held → Type 0
SaysOver P (Say line course) h = P line × SaysOver P course h
SaysOver P (Do op course) h = SaysOver P course (held_after op h)
SaysOver P (CallOutside outer course) h = SaysOver P course h
SaysOver P (Ask f) h = SaysOver P (f h) h
SaysOver P (Goes end) h = Unit {0}
SaysOver P (Stops fault) h = Unit {0}

-- so it is where it is whatever is read
pub anywhere : {Dir F S : Type 0} (P : Entry → Type 0) (course : Course Dir F S) (h : Held) → SaysSo P course → SaysOver P course h
anywhere P (Say line course) h so = (so.0, anywhere P course h so.1)
anywhere P (Do op course) h so = anywhere P course (held_after op h) so
anywhere P (CallOutside outer course) h so = anywhere P course h so
anywhere P (Ask f) h so = anywhere P (f h) h (so h)
anywhere P (Goes end) h so = tt
anywhere P (Stops fault) h so = tt

-- what only says such lines
pub only_so : {Dir F S : Type 0} (L P : Entry → Type 0) (Q : S → Type 0) (course : Course Dir F S) → OnlySays L Q course → ((line : Entry) → L line → P line) → SaysSo P course
only_so L P Q (Say line course) only so = (so line only.0, only_so L P Q course only.1 so)
only_so L P Q (Do op course) only so = absurd only
only_so L P Q (CallOutside outer course) only so = only_so L P Q course only so
only_so L P Q (Ask f) only so = λ h. only_so L P Q (f h) (only h) so
only_so L P Q (Goes end) only so = tt
only_so L P Q (Stops fault) only so = tt

module _ {Dir F S : Type 0} (P : Entry → Type 0) (h : Held) where
  pub over_if : (t : Bool) (x y : Course Dir F S) → (t ≡ true → SaysOver P x h) → (t ≡ false → SaysOver P y h) → SaysOver P (if t then x else y) h
  over_if true x y one other = one refl
  over_if false x y one other = other refl

  pub over_option : {A : Type 0} (f : A → Course Dir F S) (o : Option A) (none : Course Dir F S) → ((a : A) → o ≡ Some a → SaysOver P (f a) h) → SaysOver P none h → SaysOver P (option_map_or f o none) h
  over_option f None none some without = without
  over_option f (Some a) none some without = some a refl

-- one behind another
pub over_behind : {Dir F S T : Type 0} (P : Entry → Type 0) (course : Course Dir F S) (next : S → Course Dir F T) (h : Held) → SaysOver P course h → ((end : S) → SaysSo P (next end)) → SaysOver P (bind course next) h
over_behind P (Say line course) next h so more = (so.0, over_behind P course next h so.1 more)
over_behind P (Do op course) next h so more = over_behind P course next (held_after op h) so more
over_behind P (CallOutside outer course) next h so more = over_behind P course next h so more
over_behind P (Ask f) next h so more = over_behind P (f h) next h so more
over_behind P (Goes end) next h so more = anywhere P (next end) h (more end)
over_behind P (Stops fault) next h so more = tt

-- .. behind what only says such lines, by where that comes to
pub over_only : {Dir F S T : Type 0} (L P : Entry → Type 0) (Q : S → Type 0) (stops : F → Type 0) (first : S → Option Held → Type 0) (course : Course Dir F S) (next : S → Course Dir F T) (h : Held)
    → OnlySays L Q course → ((line : Entry) → L line → P line) → ComesOver stops first course (Some h) → ((end : S) → first end (Some h) → SaysOver P (next end) h) → SaysOver P (bind course next) h
over_only L P Q stops first (Say line course) next h only so comes more = (so line only.0, over_only L P Q stops first course next h only.1 so comes more)
over_only L P Q stops first (Do op course) next h only so comes more = absurd only
over_only L P Q stops first (CallOutside outer course) next h only so comes more = over_only L P Q stops first course next h only so comes more
over_only L P Q stops first (Ask f) next h only so comes more = over_only L P Q stops first (f h) next h (only h) so comes more
over_only L P Q stops first (Goes end) next h only so comes more = more end comes
over_only L P Q stops first (Stops fault) next h only so comes more = tt

-- .. under other names for its faults
pub over_under : {Dir F G S : Type 0} (P : Entry → Type 0) (name : F → G) (course : Course Dir F S) (h : Held) → SaysOver P course h → SaysOver P (under name course) h
over_under P name (Say line course) h so = (so.0, over_under P name course h so.1)
over_under P name (Do op course) h so = over_under P name course (held_after op h) so
over_under P name (CallOutside outer course) h so = over_under P name course h so
over_under P name (Ask f) h so = over_under P name (f h) h so
over_under P name (Goes end) h so = tt
over_under P name (Stops fault) h so = tt

-- A RUN of it adds such lines, wherever it ends.

deeds_say : {Dir F S : Type 0} (P : Entry → Type 0) (course : Course Dir F S) (h : Held) → SaysOver P course h → AllByRecursion P (deed_entries (deeds_of course h))
deeds_say P (Say line course) h so = (so.0, deeds_say P course h so.1)
deeds_say P (Do op course) h so = deeds_say P course (held_after op h) so
deeds_say P (CallOutside outer course) h so = deeds_say P course h so
deeds_say P (Ask f) h so = deeds_say P (f h) h so
deeds_say P (Goes end) h so = tt
deeds_say P (Stops fault) h so = tt

pub said_over : {Dir F S : Type 0} (P : Entry → Type 0) (course : Course Dir F S) (ended : Ended F S) (w new : World) → SaysOver P course w.held → EndsSo course ended w new
    → (added : List Entry) × (new.out ≡ w.out ++ added) × AllByRecursion P added
said_over P course ended w new so run =
    let adds : AddsDeeds course ended w new = runs_add_deeds course ended w new run in
    (adds.added, adds.out, all_front P adds.added adds.rest (subst (AllByRecursion P) adds.of_deeds (deeds_say P course w.held so)))
