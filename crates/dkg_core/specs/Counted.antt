-- How many changing calls of the devices a course makes, and which of them its fuse cuts.
use Rattle.std.specs.Prelude.{◌≡◌, ◌≤◌, ◌<◌, ◌+◌, ◌^◌, ℕ}
use Rattle.dkg_journal.specs.Fuse.{burnt, Reached}
use Rattle.dkg_store.specs.Acts.{Held, World, Ended, went, stopped, broken, by_cut, device_calls, held_after}
use Rattle.dkg_core.specs.Courses.{Course, Say, Do, CallOutside, Ask, Goes, Stops, EndsSo}

-- over what the devices hold
abbrev pub course_calls : {Dir F S : Type 0} → Course Dir F S → Held → ℕ
course_calls (Say line course) h = course_calls course h
course_calls (Do op course) h = device_calls op h + course_calls course (held_after op h)
course_calls (CallOutside outer course) h = course_calls course h
course_calls (Ask f) h = course_calls (f h) h
course_calls (Goes end) h = 0
course_calls (Stops fault) h = 0

-- All of them are made but where it is broken off.
abbrev pub HasMade : {F S : Type 0} → Ended F S → (made all : ℕ) → Type 0
HasMade (went end) made all = made ≡ all
HasMade (stopped fault) made all = made ≡ all
HasMade (broken cause) made all = made ≤ all

-- Just these calls were counted.
pub record CountsCalls {Dir F S : Type 0} (course : Course Dir F S) (ended : Ended F S) (w new : World) : Type 0 where
  pub made : ℕ
  pub fuse : new.fuse ≡ burnt made w.fuse
  pub of_course : HasMade ended made (course_calls course w.held)

-- A RUN COUNTS the calls of its course.
abbrev pub RunsCount : (Dir F S : Type 0) → Type 0
RunsCount Dir F S = (course : Course Dir F S) (ended : Ended F S) (w new : World) → EndsSo course ended w new → CountsCalls course ended w new

-- Where a cut broke it off, the call that is cut is one of the course's. Where it ended by itself and that call was not passed over, it is none of them.
abbrev pub FallsIn : {F S : Type 0} → Ended F S → (calls : ℕ) → (w new : World) → Type 0
FallsIn (broken by_cut) calls w new = (w.fuse.spent < w.fuse.call) × (w.fuse.call ≤ w.fuse.spent + calls)
FallsIn (broken cause) calls w new = Unit {0}
FallsIn (went end) calls w new = w.fuse.spent < w.fuse.call → w.fuse.call < 2 ^ 64 → (Reached w.fuse new.fuse → ⊥) → w.fuse.spent + calls < w.fuse.call
FallsIn (stopped fault) calls w new = w.fuse.spent < w.fuse.call → w.fuse.call < 2 ^ 64 → (Reached w.fuse new.fuse → ⊥) → w.fuse.spent + calls < w.fuse.call

-- A CUT FALLS exactly where the course makes so many calls.
abbrev pub CutsFall : (Dir F S : Type 0) → Type 0
CutsFall Dir F S = (course : Course Dir F S) (ended : Ended F S) (w new : World) → EndsSo course ended w new → FallsIn ended (course_calls course w.held) w new
