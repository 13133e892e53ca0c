-- A body that runs past a cut at call 0: it is refused, and what is presumed of the script doesn't depend on it. And the run that
-- heeds the cut.
use Rattle.std.proofs.Common.{ℕ, ◌+◌, ◌<◌, ◌≤◌, List, [], ◌∷◌, ◌++◌, ◌≡◌, refl, Option, Some, None, inl, inr, lit<, lit≤, arith, subst, ap, length}
use Rattle.std.specs.Prelude.{fold}
use Rattle.dkg_infos.specs.declared.entry.Entry.{Entry}
use Rattle.dkg_infos.specs.declared.entry.Entry.TheVariants.{Opened, Committed, Registered, Setup, Entered, Acked, Ack, Cut, Step, Fault}
use Rattle.dkg_infos.specs.declared.fault.Fault as fault
use Rattle.dkg_infos.specs.declared.entry.Part.TheVariants.{Player}
use Rattle.dkg_infos.specs.declared.entry.Role.TheVariants.{Member}
use Rattle.dkg_ceremony.specs.declared.phase.Phase.TheVariants.{Early}
use Rattle.dkg_text.specs.declared.script.BlockLine.{BlockLine}
use Rattle.dkg_text.specs.declared.script.Event.TheVariants.{Peer, Final}
use Rattle.dkg_text.specs.declared.script.Life.{Life}
use Rattle.dkg_text.specs.declared.script.Script.{Script}
use Rattle.dkg_script.specs.Blocks.{used}
use Rattle.dkg_script.specs.Position.{awaited_height_after, awaited_before}
use Rattle.dkg_script.specs.Progress.{Progress, progress, read}
use Rattle.dkg_script.specs.Order.{IsInOrder, InOrder}
use Rattle.dkg_script.specs.AsCut.{with_cuts}
use Rattle.dkg_script.specs.Promise.{IsHonestRun, cuts_in}
use Rattle.dkg_script.specs.Setting.{CutAt}
use Rattle.dkg_script.specs.Consistent.{IsConsistentScript}
use Rattle.dkg_journal.specs.Names.{Files}
use Rattle.dkg_script.proofs.OneDealing.{recorded}
use Rattle.dkg_script.proofs.Trials.{from_start, progress_is, no_plan}
use Rattle.dkg_script.proofs.Worked.{script_of, setting, genesis, line, payload, life_of, cut_at, dealt, ack_of_dealt, start}

abbrev first : Life
first = life_of (Final 0 ∷ Final 1 ∷ Final 2 ∷ Final 3 ∷ []) (cut_at 1 0 0)

abbrev second : Life
second = life_of (Peer 2 dealt ∷ []) None

abbrev blocks : List BlockLine
blocks = genesis ∷ line 1 (Some 0) (Some (payload 1 1)) ∷ line 2 (Some 1) None ∷ line 3 (Some 2) (Some (payload 1 2)) ∷ []

abbrev pub script : Script
script = script_of 2 (lit< tt) blocks (first ∷ second ∷ [])

abbrev enters : ℕ → List Entry
enters epoch = Committed epoch None ∷ Registered epoch Member ∷ Setup epoch Early Player ∷ Entered epoch ∷ []

-- THE CHEAT goes on to the last event, and begins three epochs
abbrev pub cheat : List Entry
cheat = Opened 0 [] ∷ enters 0 ++ Step 0 ∷ Acked 0 ∷ Step 1 ∷ []
    ++ enters 1 ++ Acked 1 ∷ Step 2 ∷ Acked 2 ∷ Step 3 ∷ []
    ++ enters 2 ++ Acked 3 ∷ Step 4 ∷ Opened 1 [] ∷ []
    ++ enters 0 ++ Step 0 ∷ Step 1 ∷ []

one_not_zero : ◌≡◌ {A = ℕ} 1 0 → ⊥
one_not_zero e = omega arith

not_below : 1 < 1 → ⊥
not_below below = omega arith

abbrev before_step : List Entry
before_step = Opened 0 [] ∷ enters 0 ++ Step 0 ∷ Acked 0 ∷ []

abbrev after_step : List Entry
after_step = enters 1 ++ Acked 1 ∷ Step 2 ∷ Acked 2 ∷ Step 3 ∷ [] ++ enters 2 ++ Acked 3 ∷ Step 4 ∷ Opened 1 [] ∷ [] ++ enters 0 ++ Step 0 ∷ Step 1 ∷ []

-- its step 1 is refused
pub cheat_is_not_in_order : InOrder (setting script) cheat → ⊥
unfolding InOrder
cheat_is_not_in_order ordered = not_below ((subst (λ p. IsInOrder (setting script) p (Step 1)) (progress_is script before_step) (ordered before_step (Step 1) after_step refl)).begins refl)

-- and so is what it writes before
abbrev before_line : List Entry
before_line = Opened 0 [] ∷ enters 0 ++ Step 0 ∷ []

pub cheat_writes_too_much : InOrder (setting script) before_step → ⊥
unfolding InOrder
cheat_writes_too_much ordered = not_below (subst (λ p. IsInOrder (setting script) p (Acked 0)) (progress_is script before_line) (ordered before_line (Acked 0) [] refl) refl)

-- nor may a fault end the run there
pub cheat_ends_in_no_fault : (why : fault.Fault) → IsInOrder (setting script) (progress (setting script) before_line) (Fault why) → ⊥
cheat_ends_in_no_fault why ordered =
    by_case (subst (λ p. IsInOrder (setting script) p (Fault why)) (progress_is script before_line) ordered)
  where
    by_case : IsInOrder (setting script) (fold (read (setting script)) start before_line) (Fault why) → ⊥
    by_case (inl at_start) = one_not_zero at_start.1
    by_case (inr begins) = not_below (begins refl)

-- What is presumed of scripts is judged without it: from the step of the cut on nothing is delivered, so that life 1 starts no
-- epoch below one that was awaited.
pub awaits_no_more : awaited_before (setting script) (None ∷ []) 1 ≡ 0
unfolding awaited_height_after
awaits_no_more = refl

-- Of a cut at call 1 the call may never come, and life 1 starts two epochs below then: so nothing is presumed of the runs in which it doesn't come.
abbrev may_miss : Script
may_miss = script_of 2 (lit< tt) blocks (record first { cut = cut_at 1 1 0 } ∷ second ∷ [])

too_far_back : 2 ≤ 0 + 1 → ⊥
too_far_back h = omega arith

missed_falls_back : IsConsistentScript (setting may_miss) (None ∷ []) → ⊥
unfolding awaited_height_after
missed_falls_back consistent = too_far_back (consistent.never_back 1 (lit< tt) (lit≤ tt))

pub missed_is_not_presumed : (image : Files → Type 0) → IsHonestRun (with_cuts (None ∷ []) (setting may_miss)) image (None ∷ []) → ⊥
missed_is_not_presumed image honest = missed_falls_back (honest.source [] (no_plan may_miss (None ∷ []) refl (refl, (refl, tt))))

-- Where it came, life 0 ends within its step 1 and awaits the first epoch still: so of these runs all is promised.
abbrev fell : List (Option CutAt)
fell = Some (record { step = 1; call = 1 }) ∷ []

pub awaits_no_more_cut : awaited_before (with_cuts fell (setting may_miss)) fell 1 ≡ 0
unfolding awaited_height_after
awaits_no_more_cut = refl

pub uses_no_more_cut : length (used (with_cuts fell (setting may_miss))) ≡ 3
unfolding used
uses_no_more_cut = refl

-- THE HONEST RUN ends life 0 before its step 1
abbrev pub honest : List Entry
honest = Opened 0 [] ∷ enters 0 ++ Step 0 ∷ Cut 1 0 ∷ Opened 1 [] ∷ enters 0 ++ Step 0 ∷ recorded ∷ Ack 0 2 ack_of_dealt ∷ Step 1 ∷ []

pub honest_is_in_order : InOrder (setting script) honest
unfolding InOrder
honest_is_in_order = from_start script (IsInOrder (setting script)) honest (
  record { in_life = (refl, λ is. lit< tt); at_opening = refl; once = refl },
  (
    (λ is. lit< tt),
    (
      (λ is. lit< tt),
      (
        (λ is. lit< tt),
        (
          (λ is. lit< tt),
          (
            record { in_hand = refl; begins = λ is. lit< tt; has_opened = λ is. refl },
            (
              record { in_hand = refl; of_script = (refl, refl); before_step = λ is. refl },
              (
                record { in_life = (refl, tt); at_opening = refl; once = refl },
                (
                  tt,
                  (
                    tt,
                    (
                      tt,
                      (
                        tt,
                        (
                          record { in_hand = refl; begins = tt; has_opened = λ is. refl },
                          (
                            tt,
                            (
                              tt,
                              (record { in_hand = refl; begins = tt; has_opened = λ is. absurd (one_not_zero is) }, tt),
                            ),
                          ),
                        ),
                      ),
                    ),
                  ),
                ),
              ),
            ),
          ),
        ),
      ),
    ),
  ),
)

pub honest_is_all_run : length (cuts_in (setting script) honest) ≡ 2
honest_is_all_run = ap (λ (p : Progress). length p.cuts) (progress_is script honest)

-- whose blocks are block 0 in both lives, and no other
pub uses_no_more : length (used (setting script)) ≡ 2
unfolding used
uses_no_more = refl
