-- How many calls a course makes, and which of them its fuse cuts.
use Rattle.std.proofs.Common.{◌≡◌, ◌⊎◌, inl, inr, ℕ, zero, suc, ◌+◌, ◌<◌, ◌≤◌, ◌^◌, refl, ◌∙◌, ap, arith}
use Rattle.std.proofs.lemmas.Bool.{cases_lt}
use Rattle.std.proofs.lemmas.Bool.Decides.{nat_tests}
use Rattle.dkg_journal.specs.Burn.{Burn}
use Rattle.dkg_journal.specs.Fuse.{counted, spent_once, burnt, Reached}
use Rattle.dkg_journal.proofs.Fuses.{burnt_call}
use Rattle.dkg_store.specs.Acts.{Operation, World, says, does, device_calls, Completes, Faults, Breaks, Cause, by_cut, by_disk, by_secrets, by_want, Ended, went, stopped, broken}
use Rattle.dkg_core.specs.Courses.{Course, Say, Do, CallOutside, Ask, Goes, Stops, on_devices}
use Rattle.dkg_core.specs.Counted.{course_calls, HasMade, CountsCalls, RunsCount, CutsFall}

-- CALLS, ONE AFTER ANOTHER

burnt_both : (n m : ℕ) (f : Burn) → burnt m (burnt n f) ≡ burnt (n + m) f
burnt_both zero m f = ap (λ (k : ℕ). burnt k f) (let same : m ≡ 0 + m = omega arith in same)
burnt_both (suc n) m f = burnt_both n m (spent_once f) ∙ ap (λ (k : ℕ). burnt k f) (let more : suc (n + m) ≡ suc n + m = omega arith in more)

pub burnt_later : (n : ℕ) (f : Burn) → f.spent ≤ (burnt n f).spent
burnt_later zero f = omega arith
burnt_later (suc n) f = let one = counted_low f.spent in let more = burnt_later n (spent_once f) in omega (arith, one, more)
  where
    counted_low : (m : ℕ) → m ≤ counted m
    counted_low m = grind (arith, nat_tests)

pub burnt_high : (n : ℕ) (f : Burn) → (burnt n f).spent ≤ f.spent + n
burnt_high zero f = omega arith
burnt_high (suc n) f = let one = counted_high f.spent in let more = burnt_high n (spent_once f) in omega (arith, one, more)
  where
    counted_high : (m : ℕ) → counted m ≤ m + 1
    counted_high m = grind (arith, nat_tests)

counted_once : (m call : ℕ) → m < call → call < 2 ^ 64 → counted m ≡ m + 1
counted_once m call lt low = grind (arith, nat_tests, lt, low)

-- a call that lies among them is counted
pub burnt_reaches : (n : ℕ) (f : Burn) (call : ℕ) → f.spent < call → call < 2 ^ 64 → call ≤ f.spent + n → call ≤ (burnt n f).spent
burnt_reaches zero f call before low among = absurd (omega (arith, before, among))
burnt_reaches (suc n) f call before low among =
    let is = counted_once f.spent call before low in
    elim (cases_lt (f.spent + 1) call) [
      | inl under ↦ burnt_reaches n (spent_once f) call (omega (arith, is, under)) low (omega (arith, is, among))
      | inr here ↦ let later = burnt_later n (spent_once f) in omega (arith, is, here, later)
    ]

-- WHAT A RUN COUNTS

module _ {Dir F S : Type 0} where
  none_made : (course : Course Dir F S) (ended : Ended F S) (w new : World) → new.fuse ≡ w.fuse → HasMade ended 0 (course_calls course w.held) → CountsCalls course ended w new
  none_made course ended w new same made = record { made = 0; fuse = same; of_course = made }

  as_made : (course next : Course Dir F S) (ended : Ended F S) (w mid new : World) → mid.fuse ≡ w.fuse → ((made : ℕ) → HasMade ended made (course_calls next mid.held) → HasMade ended made (course_calls course w.held))
      → CountsCalls next ended mid new → CountsCalls course ended w new
  as_made course next ended w mid new same so counts = record { made = counts.made; fuse = counts.fuse ∙ ap (burnt counts.made) same; of_course = so counts.made counts.of_course }

  more_made : (op : Operation) (course : Course Dir F S) (ended : Ended F S) (w new : World)
      → ((made : ℕ) → HasMade ended made (course_calls course (does w op).held) → HasMade ended (device_calls op w.held + made) (course_calls (Do op course) w.held))
      → CountsCalls course ended (does w op) new → CountsCalls (Do op course) ended w new
  more_made op course ended w new so counts = record {
    made = device_calls op w.held + counts.made;
    fuse = counts.fuse ∙ burnt_both (device_calls op w.held) counts.made w.fuse;
    of_course = so counts.made counts.of_course;
  }

  goes : (course : Course Dir F S) (end : S) (w new : World) → Completes (on_devices course) end w new → CountsCalls course (went end) w new
  goes (Say line course) end w new run = as_made (Say line course) course (went end) w (says w line) new refl (λ made h. h) (goes course end (says w line) new run)
  goes (Do op course) end w new run = more_made op course (went end) w new (λ made h. ap (λ (n : ℕ). device_calls op w.held + n) h) (goes course end (does w op) new run)
  goes (CallOutside outer course) end w new run = as_made (CallOutside outer course) course (went end) w w new refl (λ made h. h) (goes course end w new run)
  goes (Ask f) end w new run = as_made (Ask f) (f w.held) (went end) w w new refl (λ made h. h) (goes (f w.held) end w new run)
  goes (Goes its) end w new run = none_made (Goes its) (went end) w new (ap (λ (x : World). x.fuse) run.0) refl
  goes (Stops fault) end w new run = absurd run

  stops : (course : Course Dir F S) (fault : F) (w new : World) → Faults (on_devices course) fault w new → CountsCalls course (stopped fault) w new
  stops (Say line course) fault w new run = as_made (Say line course) course (stopped fault) w (says w line) new refl (λ made h. h) (stops course fault (says w line) new run)
  stops (Do op course) fault w new run = more_made op course (stopped fault) w new (λ made h. ap (λ (n : ℕ). device_calls op w.held + n) h) (stops course fault (does w op) new run)
  stops (CallOutside outer course) fault w new run = as_made (CallOutside outer course) course (stopped fault) w w new refl (λ made h. h) (stops course fault w new run)
  stops (Ask f) fault w new run = as_made (Ask f) (f w.held) (stopped fault) w w new refl (λ made h. h) (stops (f w.held) fault w new run)
  stops (Goes its) fault w new run = absurd run
  stops (Stops its) fault w new run = none_made (Stops its) (stopped fault) w new (ap (λ (x : World). x.fuse) run.0) refl

  breaks : (cause : Cause) (course : Course Dir F S) (w new : World) → Breaks cause (on_devices course) w new → CountsCalls course (broken cause) w new
  breaks cause (Say line course) w new (inl none) = none_made (Say line course) (broken cause) w new (ap (λ (x : World). x.fuse) none.1) (omega arith)
  breaks cause (Say line course) w new (inr run) = as_made (Say line course) course (broken cause) w (says w line) new refl (λ made h. h) (breaks cause course (says w line) new run)
  breaks cause (Do op course) w new (inl tears) =
      record { made = tears.calls; fuse = tears.fuse; of_course = let few : tears.calls ≤ device_calls op w.held = tears.most in let all = course_calls course (does w op).held in omega (arith, few) }
  breaks cause (Do op course) w new (inr run) = more_made op course (broken cause) w new (λ made h. omega (arith, h)) (breaks cause course (does w op) new run)
  breaks cause (CallOutside outer course) w new run = as_made (CallOutside outer course) course (broken cause) w w new refl (λ made h. h) (breaks cause course w new run)
  breaks cause (Ask f) w new run = as_made (Ask f) (f w.held) (broken cause) w w new refl (λ made h. h) (breaks cause (f w.held) w new run)
  breaks cause (Goes its) w new none = none_made (Goes its) (broken cause) w new (ap (λ (x : World). x.fuse) none.1) (omega arith)
  breaks cause (Stops its) w new none = none_made (Stops its) (broken cause) w new (ap (λ (x : World). x.fuse) none.1) (omega arith)

pub runs_count : {Dir F S : Type 0} → RunsCount Dir F S
runs_count course (went end) w new run = goes course end w new run
runs_count course (stopped fault) w new run = stops course fault w new run
runs_count course (broken cause) w new run = breaks cause course w new run

-- WHERE A CUT FALLS

-- the call that is cut was not reached before a course that a cut broke off, and is one of those that it made
cut_later : (w mid new : World) → w.fuse.spent ≤ mid.fuse.spent → Reached mid.fuse new.fuse → Reached w.fuse new.fuse
cut_later w mid new later reached = record { not_yet = let yet = reached.not_yet in omega (arith, later, yet); by_now = reached.by_now }

module _ {Dir F S : Type 0} where
  cut_in : (course : Course Dir F S) (w new : World) → Breaks by_cut (on_devices course) w new → Reached w.fuse new.fuse
  cut_in (Say line course) w new (inl none) = absurd none.0
  cut_in (Say line course) w new (inr run) = cut_in course (says w line) new run
  cut_in (Do op course) w new (inl tears) = tears.ends
  cut_in (Do op course) w new (inr run) = cut_later w (does w op) new (burnt_later (device_calls op w.held) w.fuse) (cut_in course (does w op) new run)
  cut_in (CallOutside outer course) w new run = cut_in course w new run
  cut_in (Ask f) w new run = cut_in (f w.held) w new run
  cut_in (Goes its) w new none = absurd none.0
  cut_in (Stops its) w new none = absurd none.0

module _ (w new : World) (made all : ℕ) (fuse : new.fuse ≡ burnt made w.fuse) where
  same_call : new.fuse.call ≡ w.fuse.call
  same_call = ap (λ (f : Burn). f.call) fuse ∙ burnt_call made w.fuse

  spent_is : new.fuse.spent ≡ (burnt made w.fuse).spent
  spent_is = ap (λ (f : Burn). f.spent) fuse

  is_cut : made ≤ all → Reached w.fuse new.fuse → (w.fuse.spent < w.fuse.call) × (w.fuse.call ≤ w.fuse.spent + all)
  is_cut few reached =
      let yet = reached.not_yet in
      let now = reached.by_now in
      let high = burnt_high made w.fuse in
      (omega (arith, yet, same_call), omega (arith, now, same_call, spent_is, high, few))

  is_uncut : made ≡ all → w.fuse.spent < w.fuse.call → w.fuse.call < 2 ^ 64 → (Reached w.fuse new.fuse → ⊥) → w.fuse.spent + all < w.fuse.call
  is_uncut is before low passed = next (cases_lt (w.fuse.spent + all) w.fuse.call)
    where
      next : (w.fuse.spent + all < w.fuse.call) ⊎ (w.fuse.call ≤ w.fuse.spent + all) → w.fuse.spent + all < w.fuse.call
      next (inl under) = under
      next (inr among) =
          let there = burnt_reaches made w.fuse w.fuse.call before low (omega (arith, is, among)) in
          absurd (passed (record { not_yet = omega (arith, same_call, before); by_now = omega (arith, same_call, spent_is, there) }))

pub cuts_fall : {Dir F S : Type 0} → CutsFall Dir F S
cuts_fall course (went end) w new run = let counts = goes course end w new run in is_uncut w new counts.made (course_calls course w.held) counts.fuse counts.of_course
cuts_fall course (stopped fault) w new run = let counts = stops course fault w new run in is_uncut w new counts.made (course_calls course w.held) counts.fuse counts.of_course
cuts_fall course (broken by_cut) w new run =
    let counts = breaks by_cut course w new run in is_cut w new counts.made (course_calls course w.held) counts.fuse counts.of_course (cut_in course w new run)
cuts_fall course (broken by_disk) w new run = tt
cuts_fall course (broken by_secrets) w new run = tt
cuts_fall course (broken by_want) w new run = tt
