-- One dealing, recorded, acknowledged and, in a second life, restored: the program's stored run, and its first life alone.
use Rattle.std.proofs.Common.{ℕ, zero, suc, ◌+◌, ◌<◌, ◌≤◌, List, [], ◌∷◌, ◌++◌, ◌≡◌, refl, Some, None, lit<, lit≤, arith, ap, subst, length}
use Rattle.std.specs.FinMap.{get-empty}
use Rattle.dkg_values.specs.Bytes.{byte_at}
use Rattle.dkg_values.specs.Codec.{many_at}
use Rattle.dkg_values.specs.Lists.{keys_at}
use Rattle.dkg_values.specs.Uint.{groups_at}
use Rattle.dkg_values.specs.declared.name.Name.TheVariants.{Plan}
use Rattle.dkg_ceremony.specs.Modes.{mode_at}
use Rattle.dkg_journal.specs.Names.{name_cmp}
use Rattle.dkg_infos.specs.InfoCodes.{info_output_at, parts_at}
use Rattle.dkg_infos.specs.OutcomeCodes.{outcome_after}
use Rattle.dkg_types.specs.PayloadCodes.{payload_info_at, payload_after}
use Rattle.dkg_infos.specs.declared.entry.Entry.{Entry}
use Rattle.dkg_infos.specs.declared.entry.Entry.TheVariants.{Opened, Ack, Step}
use Rattle.dkg_infos.specs.declared.entry.Restored.{Restored}
use Rattle.dkg_text.specs.declared.script.Event.TheVariants.{Peer}
use Rattle.dkg_text.specs.declared.script.Life.{Life}
use Rattle.dkg_text.specs.declared.script.Script.{Script}
use Rattle.dkg_script.specs.Readings.{info_in}
use Rattle.dkg_script.specs.Blocks.{used}
use Rattle.dkg_script.specs.Position.{awaited_before, awaited_epoch_in, awaited_height_after}
use Rattle.dkg_script.specs.Progress.{Progress}
use Rattle.dkg_script.specs.Consistent.{IsConsistentScript}
use Rattle.dkg_script.specs.Kept.{IsSound, IsSoundOpening, Kept}
use Rattle.dkg_script.specs.Order.{IsInOrder, InOrder}
use Rattle.dkg_script.specs.Promise.{IsComplete}
use Rattle.dkg_script.proofs.EachEntry.{EachAfter}
use Rattle.dkg_script.proofs.Rounds.{round, accepts, acknowledges, brings_seven}
use Rattle.dkg_script.proofs.Steps as steps
use Rattle.dkg_script.proofs.Steps.{InDealingStep}
use Rattle.dkg_script.proofs.Stores.{pair_in, stored_seven, is_durable, is_given}
use Rattle.dkg_script.proofs.Trials.{opening, opens, from_start, progress_is, round_zero, all_answered, no_plan}
use Rattle.dkg_script.proofs.Worked.{script_of, setting, genesis, life_of, start, dealt, ack_of_dealt, files_of, secrets_of, flat, OnlyThese}

abbrev pub first_life : Life
first_life = life_of (Peer 2 dealt ∷ []) None

abbrev pub second_life : Life
second_life = life_of [] None

abbrev pub one : Script
one = script_of 8 (lit< tt) (genesis ∷ []) (first_life ∷ [])

abbrev pub two : Script
two = script_of 8 (lit< tt) (genesis ∷ []) (first_life ∷ second_life ∷ [])

abbrev pub pair : Restored
pair = pair_in 0 7 23

abbrev pub recorded : Entry
recorded = steps.recorded_entry pair

abbrev pub out_one : List Entry
out_one = Opened 0 [] ∷ opening ++ recorded ∷ Ack 0 2 ack_of_dealt ∷ Step 1 ∷ []

abbrev pub out_two : List Entry
out_two = out_one ++ Opened 1 (pair ∷ []) ∷ opening

-- the progress in the first life's step 1
abbrev pub at_one : List Entry → List Restored → Progress
at_one written pairs = record { cuts = []; step = 1; written = written; recorded = pairs; opened = Some 0 }

abbrev pub after_opening : Progress
after_opening = at_one [] []

abbrev pub after_record : Progress
after_record = at_one (recorded ∷ []) (pair ∷ [])

-- the one step, in any script that begins with this life
module _ (lives : List Life) where
  abbrev its : Script
  its = script_of 8 (lit< tt) (genesis ∷ []) (first_life ∷ lives)

  in_step : (written : List Entry) (pairs : List Restored) → InDealingStep (setting its) (at_one written pairs) first_life (round 0) pair dealt
  unfolding awaited_height_after
  in_step written pairs = record { life_is = refl; event_is = refl; awaited = refl; round_is = round_zero 8 (lit< tt) (Peer 2 dealt ∷ []) None lives; valid = accepts }

  pub is_recorded : IsSound (setting its) after_opening recorded
  is_recorded = steps.records (setting its) after_opening first_life (round 0) pair dealt (in_step [] []) refl brings_seven

  pub is_acknowledged : IsSound (setting its) after_record (Ack 0 2 ack_of_dealt)
  is_acknowledged = subst (λ (ack : List ℕ). IsSound (setting its) after_record (Ack 0 2 ack)) acknowledges
      (steps.acknowledges (setting its) after_record first_life (round 0) pair dealt (in_step (recorded ∷ []) (pair ∷ [])) (record { public = 15 ∷ 7 ∷ 1 ∷ []; private = 23 }) brings_seven refl refl)

-- KEPT

abbrev pub before_restart : Progress
before_restart = record { cuts = None ∷ []; step = 0; written = []; recorded = pair ∷ []; opened = Some 0 }

not_new : Some pair ≡ None → ⊥
not_new e = cc

reopens : IsSoundOpening (setting two) before_restart (pair ∷ [])
reopens = record {
  lists = ((λ current. (0, lit< tt, refl)), tt);
  rising = tt;
  sound = (record { first = λ new. absurd (not_new new); stays = refl }, tt);
}

each_one : EachAfter (setting one) (IsSound (setting one)) start out_one
each_one = (opens one, (tt, (tt, (tt, (tt, (tt, (is_recorded [], (is_acknowledged [], (tt, tt)))))))))

each_two : EachAfter (setting two) (IsSound (setting two)) start out_two
each_two = (opens two, (tt, (tt, (tt, (tt, (tt, (is_recorded (second_life ∷ []), (is_acknowledged (second_life ∷ []), (tt, (reopens, (tt, (tt, (tt, (tt, (tt, tt)))))))))))))))

pub one_is_kept : Kept (setting one) out_one (OnlyThese (files_of (Some (flat 1 0 7)))) (secrets_of (((0, 2), 23) ∷ []))
one_is_kept = record {
  each = from_start one (IsSound (setting one)) out_one each_one;
  durable = rw (progress_is one out_one) (is_durable (files_of (Some (flat 1 0 7))) (secrets_of (((0, 2), 23) ∷ [])) pair stored_seven (setting one) before_restart
      ((λ current. is_given (files_of (Some (flat 1 0 7))) (secrets_of (((0, 2), 23) ∷ [])) pair stored_seven), tt));
}

pub two_is_kept : Kept (setting two) out_two (OnlyThese (files_of (Some (flat 1 0 7)))) (secrets_of (((0, 2), 23) ∷ []))
two_is_kept = record {
  each = from_start two (IsSound (setting two)) out_two each_two;
  durable = rw (progress_is two out_two) (is_durable (files_of (Some (flat 1 0 7))) (secrets_of (((0, 2), 23) ∷ [])) pair stored_seven (setting two)
      (record { cuts = None ∷ None ∷ []; step = 0; written = []; recorded = pair ∷ []; opened = Some 1 })
      ((λ current. is_given (files_of (Some (flat 1 0 7))) (secrets_of (((0, 2), 23) ∷ [])) pair stored_seven), tt));
}

-- IN ORDER

pub one_not_zero : ◌≡◌ {A = ℕ} 1 0 → ⊥
one_not_zero e = omega arith

pub one_is_in_order : InOrder (setting one) out_one
unfolding InOrder
one_is_in_order = from_start one (IsInOrder (setting one)) out_one (
  record { in_life = (refl, tt); at_opening = refl; once = refl },
  (
    tt,
    (
      tt,
      (
        tt,
        (
          tt,
          (
            record { in_hand = refl; begins = tt; has_opened = λ is. refl },
            (
              tt,
              (
                tt,
                (record { in_hand = refl; begins = tt; has_opened = λ is. absurd (one_not_zero is) }, tt),
              ),
            ),
          ),
        ),
      ),
    ),
  ),
)

pub two_is_in_order : InOrder (setting two) out_two
unfolding InOrder
two_is_in_order = from_start two (IsInOrder (setting two)) out_two (
  record { in_life = (refl, tt); at_opening = refl; once = refl },
  (
    tt,
    (
      tt,
      (
        tt,
        (
          tt,
          (
            record { in_hand = refl; begins = tt; has_opened = λ is. refl },
            (
              tt,
              (
                tt,
                (
                  record { in_hand = refl; begins = tt; has_opened = λ is. absurd (one_not_zero is) },
                  (
                    record { in_life = (refl, tt); at_opening = refl; once = refl },
                    (
                      tt,
                      (
                        tt,
                        (
                          tt,
                          (
                            tt,
                            (record { in_hand = refl; begins = tt; has_opened = λ is. refl }, tt),
                          ),
                        ),
                      ),
                    ),
                  ),
                ),
              ),
            ),
          ),
        ),
      ),
    ),
  ),
)

-- COMPLETE

pub one_is_complete : IsComplete (setting one) out_one
one_is_complete = record {
  all_run = ap (λ (p : Progress). length p.cuts) (progress_is one out_one);
  answered = all_answered one out_one (
    tt,
    (
      tt,
      (
        tt,
        (
          tt,
          (
            tt,
            ((λ due. absurd (due [] (no_plan one [] refl (refl, tt))).dealing), (tt, (tt, ((λ due. refl), tt)))),
          ),
        ),
      ),
    ),
  );
}

pub two_is_complete : IsComplete (setting two) out_two
two_is_complete = record {
  all_run = ap (λ (p : Progress). length p.cuts) (progress_is two out_two);
  answered = all_answered two out_two (
    tt,
    (
      tt,
      (
        tt,
        (
          tt,
          (
            tt,
            (
              (λ due. absurd (due [] (no_plan two [] refl (refl, (refl, tt)))).dealing),
              (
                tt,
                (
                  tt,
                  (
                    (λ due. refl),
                    (
                      tt,
                      (
                        tt,
                        (
                          tt,
                          (
                            tt,
                            (
                              tt,
                              ((λ due. absurd (due [] (no_plan two (None ∷ []) refl (refl, (refl, tt)))).dealing), tt),
                            ),
                          ),
                        ),
                      ),
                    ),
                  ),
                ),
              ),
            ),
          ),
        ),
      ),
    ),
  );
}

-- CONSISTENT

not_below : (l : ℕ) → suc (suc l) < 2 → ⊥
not_below l below = omega arith

pub other_key : ◌≡◌ {A = ℕ} 2 1 → ⊥
other_key e = omega arith

never_back : (l : ℕ) → l < 2 → l ≤ 2 → awaited_before (setting two) (None ∷ None ∷ []) l ≤ awaited_epoch_in (setting two) l 0 + 1
unfolding awaited_height_after
never_back zero below began = lit≤ tt
never_back (suc zero) below began = lit≤ tt
never_back (suc (suc l)) below began = absurd (not_below l below)

pub two_is_consistent : IsConsistentScript (setting two) (None ∷ None ∷ [])
unfolding used info_in payload_after payload_info_at parts_at info_output_at outcome_after mode_at byte_at many_at keys_at groups_at
two_is_consistent = record {
  one_chain = (refl, (refl, tt));
  linked = (tt, (tt, tt));
  one_info = rw (get-empty name_cmp Plan) (refl, (refl, tt));
  never_back = never_back;
  others = ((other_key, tt), (tt, tt));
}

no_life : (l : ℕ) → suc l < 1 → ⊥
no_life l below = omega arith

first_alone : (l : ℕ) → l < 1 → awaited_before (setting one) (None ∷ []) l ≤ awaited_epoch_in (setting one) l 0 + 1
first_alone zero below = omega arith
first_alone (suc l) below = absurd (no_life l below)

pub one_is_consistent : IsConsistentScript (setting one) (None ∷ [])
unfolding used info_in payload_after payload_info_at parts_at info_output_at outcome_after mode_at byte_at many_at keys_at groups_at
one_is_consistent = record {
  one_chain = (refl, tt);
  linked = (tt, tt);
  one_info = rw (get-empty name_cmp Plan) (refl, tt);
  never_back = λ l below began. first_alone l below;
  others = ((other_key, tt), tt);
}
