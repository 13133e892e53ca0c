-- A dealer that sends its dealing again, another valid one, bytes that are none, or another player's value: once its dealing is
-- recorded, each dealing of it is answered by the one acknowledgement.
use Rattle.std.proofs.Common.{ℕ, zero, suc, ◌+◌, ◌<◌, ◌≤◌, List, [], ◌∷◌, ◌++◌, ◌≡◌, refl, Some, None, lit<, arith, ap, subst, length}
use Rattle.std.specs.FinMap.{get-empty}
use Rattle.dkg_values.specs.Bytes.{byte_at}
use Rattle.dkg_values.specs.Codec.{many_at}
use Rattle.dkg_values.specs.Lists.{keys_at}
use Rattle.dkg_values.specs.Uint.{groups_at}
use Rattle.dkg_values.specs.declared.name.Name.TheVariants.{Plan}
use Rattle.dkg_ceremony.specs.Modes.{mode_at}
use Rattle.dkg_journal.specs.Names.{name_cmp}
use Rattle.dkg_infos.specs.InfoCodes.{info_output_at, parts_at}
use Rattle.dkg_infos.specs.OutcomeCodes.{outcome_after}
use Rattle.dkg_types.specs.PayloadCodes.{payload_info_at, payload_after}
use Rattle.dkg_infos.specs.declared.entry.Entry.{Entry}
use Rattle.dkg_infos.specs.declared.entry.Entry.TheVariants.{Opened, Ack, Blocked, Step}
use Rattle.dkg_infos.specs.declared.entry.BlockedWhy.TheVariants.{Decode}
use Rattle.dkg_infos.specs.declared.entry.Restored.{Restored}
use Rattle.dkg_text.specs.declared.script.Event.TheVariants.{Peer}
use Rattle.dkg_text.specs.declared.script.Life.{Life}
use Rattle.dkg_text.specs.declared.script.Script.{Script}
use Rattle.dkg_script.specs.Readings.{BothHalves, info_in}
use Rattle.dkg_script.specs.Blocks.{used, round_at}
use Rattle.dkg_script.specs.Position.{awaited_before, awaited_epoch_in, awaited_height_after}
use Rattle.dkg_script.specs.Progress.{Progress}
use Rattle.dkg_script.specs.Consistent.{IsConsistentScript}
use Rattle.dkg_script.specs.Kept.{IsSound, IsDurable, Kept}
use Rattle.dkg_script.specs.Order.{IsInOrder, InOrder}
use Rattle.dkg_script.specs.Promise.{IsComplete}
use Rattle.dkg_script.proofs.EachEntry.{EachAfter}
use Rattle.dkg_script.proofs.OneDealing.{pair, recorded, other_key}
use Rattle.dkg_script.proofs.Rounds.{round, accepts, acknowledges, brings_seven, brings_nine, brings_another's, brings_none}
use Rattle.dkg_script.proofs.Steps as steps
use Rattle.dkg_script.proofs.Steps.{InDealingStep}
use Rattle.dkg_script.proofs.Stores.{stored_seven, is_durable, is_given}
use Rattle.dkg_script.proofs.Trials.{opening, opens, from_start, progress_is, round_zero, IsAnsweredAt, all_answered, no_plan}
use Rattle.dkg_script.proofs.Worked.{script_of, setting, genesis, life_of, start, dealt, dealt_again, ack_of_dealt, files_of, secrets_of, flat, OnlyThese}
use Rattle.dkg_ceremony.specs.Acks.{ack_of}

abbrev halves : ℕ → ℕ → BothHalves
halves middle private = record { public = 15 ∷ middle ∷ 1 ∷ []; private = private }

abbrev anothers : List ℕ
anothers = 0 ∷ 3 ∷ 0 ∷ 15 ∷ 0 ∷ 7 ∷ 0 ∷ 1 ∷ 0 ∷ 45 ∷ []

abbrev again_life : Life
again_life = life_of (Peer 2 dealt ∷ Peer 2 dealt ∷ Peer 2 dealt_again ∷ []) None

abbrev bad_life : Life
bad_life = life_of (Peer 2 dealt ∷ Peer 2 (255 ∷ []) ∷ Peer 2 anothers ∷ []) None

abbrev pub again : Script
again = script_of 8 (lit< tt) (genesis ∷ []) (again_life ∷ [])

abbrev pub bad : Script
bad = script_of 8 (lit< tt) (genesis ∷ []) (bad_life ∷ [])

abbrev acked : Entry
acked = Ack 0 2 ack_of_dealt

abbrev pub out_again : List Entry
out_again = Opened 0 [] ∷ opening ++ recorded ∷ acked ∷ Step 1 ∷ acked ∷ Step 2 ∷ acked ∷ Step 3 ∷ []

abbrev pub out_bad : List Entry
out_bad = Opened 0 [] ∷ opening ++ recorded ∷ acked ∷ Step 1 ∷ Blocked 2 Decode ∷ Step 2 ∷ acked ∷ Step 3 ∷ []

abbrev at_step : ℕ → List Entry → List Restored → Progress
at_step step written pairs = record { cuts = []; step = step; written = written; recorded = pairs; opened = Some 0 }

abbrev InStep : Script → Life → ℕ → List Entry → List Restored → List ℕ → Type 0
InStep script life step written pairs bytes = InDealingStep (setting script) (at_step step written pairs) life (round 0) pair bytes

in_again : (written : List Entry) (pairs : List Restored) → InStep again again_life 1 written pairs dealt × InStep again again_life 2 written pairs dealt × InStep again again_life 3 written pairs dealt_again
unfolding awaited_height_after
in_again written pairs = (
  record { life_is = refl; event_is = refl; awaited = refl; round_is = is; valid = accepts },
  record { life_is = refl; event_is = refl; awaited = refl; round_is = is; valid = accepts },
  record { life_is = refl; event_is = refl; awaited = refl; round_is = is; valid = accepts },
)
  where
    is : round_at (setting again) 0 ≡ Some (round 0)
    is = round_zero 8 (lit< tt) (Peer 2 dealt ∷ Peer 2 dealt ∷ Peer 2 dealt_again ∷ []) None []

in_bad : (written : List Entry) (pairs : List Restored) → InStep bad bad_life 1 written pairs dealt × InStep bad bad_life 3 written pairs anothers
unfolding awaited_height_after
in_bad written pairs = (
  record { life_is = refl; event_is = refl; awaited = refl; round_is = is; valid = accepts },
  record { life_is = refl; event_is = refl; awaited = refl; round_is = is; valid = accepts },
)
  where
    is : round_at (setting bad) 0 ≡ Some (round 0)
    is = round_zero 8 (lit< tt) (Peer 2 dealt ∷ Peer 2 (255 ∷ []) ∷ Peer 2 anothers ∷ []) None []

-- the mark that an acknowledgement of the recorded dealing is
marked : (script : Script) (p : Progress) → IsSound (setting script) p (Ack 0 2 (ack_of 1 (round 0) 2 (15 ∷ 7 ∷ 1 ∷ []))) → IsSound (setting script) p acked
marked script p sound = subst (λ (ack : List ℕ). IsSound (setting script) p (Ack 0 2 ack)) acknowledges sound

-- KEPT
each_again : EachAfter (setting again) (IsSound (setting again)) start out_again
each_again = (
  opens again,
  (
    tt,
    (
      tt,
      (
        tt,
        (
          tt,
          (
            tt,
            (
              steps.records (setting again) (at_step 1 [] []) again_life (round 0) pair dealt (in_again [] []).0 refl brings_seven,
              (
                marked again (at_step 1 (recorded ∷ []) (pair ∷ [])) (steps.acknowledges (setting again) (at_step 1 (recorded ∷ []) (pair ∷ [])) again_life (round 0) pair dealt (in_again (recorded ∷ []) (pair ∷ [])).0 (halves 7 23) brings_seven refl refl),
                (
                  tt,
                  (
                    marked again (at_step 2 [] (pair ∷ [])) (steps.acknowledges (setting again) (at_step 2 [] (pair ∷ [])) again_life (round 0) pair dealt (in_again [] (pair ∷ [])).1 (halves 7 23) brings_seven refl refl),
                    (
                      tt,
                      (marked again (at_step 3 [] (pair ∷ [])) (steps.acknowledges (setting again) (at_step 3 [] (pair ∷ [])) again_life (round 0) pair dealt_again (in_again [] (pair ∷ [])).2 (halves 9 25) brings_nine refl refl), (tt, tt)),
                    ),
                  ),
                ),
              ),
            ),
          ),
        ),
      ),
    ),
  ),
)

each_bad : EachAfter (setting bad) (IsSound (setting bad)) start out_bad
each_bad = (
  opens bad,
  (
    tt,
    (
      tt,
      (
        tt,
        (
          tt,
          (
            tt,
            (
              steps.records (setting bad) (at_step 1 [] []) bad_life (round 0) pair dealt (in_bad [] []).0 refl brings_seven,
              (
                marked bad (at_step 1 (recorded ∷ []) (pair ∷ [])) (steps.acknowledges (setting bad) (at_step 1 (recorded ∷ []) (pair ∷ [])) bad_life (round 0) pair dealt (in_bad (recorded ∷ []) (pair ∷ [])).0 (halves 7 23) brings_seven refl refl),
                (
                  tt,
                  (
                    tt,
                    (
                      tt,
                      (marked bad (at_step 3 [] (pair ∷ [])) (steps.acknowledges (setting bad) (at_step 3 [] (pair ∷ [])) bad_life (round 0) pair anothers (in_bad [] (pair ∷ [])).1 (halves 7 45) brings_another's refl refl), (tt, tt)),
                    ),
                  ),
                ),
              ),
            ),
          ),
        ),
      ),
    ),
  ),
)

abbrev at_end : Progress
at_end = record { cuts = None ∷ []; step = 0; written = []; recorded = pair ∷ []; opened = Some 0 }

durable : (script : Script) → IsDurable (setting script) at_end (OnlyThese (files_of (Some (flat 1 0 7)))) (secrets_of (((0, 2), 23) ∷ []))
durable script = is_durable (files_of (Some (flat 1 0 7))) (secrets_of (((0, 2), 23) ∷ [])) pair stored_seven (setting script) at_end
    ((λ current. is_given (files_of (Some (flat 1 0 7))) (secrets_of (((0, 2), 23) ∷ [])) pair stored_seven), tt)

pub again_is_kept : Kept (setting again) out_again (OnlyThese (files_of (Some (flat 1 0 7)))) (secrets_of (((0, 2), 23) ∷ []))
again_is_kept = record { each = from_start again (IsSound (setting again)) out_again each_again; durable = rw (progress_is again out_again) (durable again) }

pub bad_is_kept : Kept (setting bad) out_bad (OnlyThese (files_of (Some (flat 1 0 7)))) (secrets_of (((0, 2), 23) ∷ []))
bad_is_kept = record { each = from_start bad (IsSound (setting bad)) out_bad each_bad; durable = rw (progress_is bad out_bad) (durable bad) }

-- IN ORDER
no_opening : (n : ℕ) → suc n ≡ 0 → ⊥
no_opening n e = omega arith

pub again_is_in_order : InOrder (setting again) out_again
unfolding InOrder
again_is_in_order = from_start again (IsInOrder (setting again)) out_again (
  record { in_life = (refl, tt); at_opening = refl; once = refl },
  (
    tt,
    (
      tt,
      (
        tt,
        (
          tt,
          (
            record { in_hand = refl; begins = tt; has_opened = λ is. refl },
            (
              tt,
              (
                tt,
                (
                  record { in_hand = refl; begins = tt; has_opened = λ is. absurd (no_opening 0 is) },
                  (
                    tt,
                    (
                      record { in_hand = refl; begins = tt; has_opened = λ is. absurd (no_opening 1 is) },
                      (
                        tt,
                        (record { in_hand = refl; begins = tt; has_opened = λ is. absurd (no_opening 2 is) }, tt),
                      ),
                    ),
                  ),
                ),
              ),
            ),
          ),
        ),
      ),
    ),
  ),
)

pub bad_is_in_order : InOrder (setting bad) out_bad
unfolding InOrder
bad_is_in_order = from_start bad (IsInOrder (setting bad)) out_bad (
  record { in_life = (refl, tt); at_opening = refl; once = refl },
  (
    tt,
    (
      tt,
      (
        tt,
        (
          tt,
          (
            record { in_hand = refl; begins = tt; has_opened = λ is. refl },
            (
              tt,
              (
                tt,
                (
                  record { in_hand = refl; begins = tt; has_opened = λ is. absurd (no_opening 0 is) },
                  (
                    tt,
                    (
                      record { in_hand = refl; begins = tt; has_opened = λ is. absurd (no_opening 1 is) },
                      (
                        tt,
                        (record { in_hand = refl; begins = tt; has_opened = λ is. absurd (no_opening 2 is) }, tt),
                      ),
                    ),
                  ),
                ),
              ),
            ),
          ),
        ),
      ),
    ),
  ),
)

-- COMPLETE: bytes that are no dealing owe nothing
pub again_is_complete : IsComplete (setting again) out_again
again_is_complete = record {
  all_run = ap (λ (p : Progress). length p.cuts) (progress_is again out_again);
  answered = all_answered again out_again (tt, (tt, (tt, (tt, (tt, ((λ due. absurd (due [] (no_plan again [] refl (refl, tt))).dealing), (tt, (tt, ((λ due. refl), (tt, ((λ due. refl), (tt, ((λ due. refl), tt)))))))))))));
}

nothing_due : IsAnsweredAt (setting bad) (at_step 2 (Blocked 2 Decode ∷ []) (pair ∷ [])) (Step 2)
unfolding awaited_height_after
nothing_due due = absurd (rw (round_zero 8 (lit< tt) (Peer 2 dealt ∷ Peer 2 (255 ∷ []) ∷ Peer 2 anothers ∷ []) None [], brings_none) at (due [] (no_plan bad [] refl (refl, tt))).dealing)

pub bad_is_complete : IsComplete (setting bad) out_bad
bad_is_complete = record {
  all_run = ap (λ (p : Progress). length p.cuts) (progress_is bad out_bad);
  answered = all_answered bad out_bad (tt, (tt, (tt, (tt, (tt, ((λ due. absurd (due [] (no_plan bad [] refl (refl, tt))).dealing), (tt, (tt, ((λ due. refl), (tt, (nothing_due, (tt, ((λ due. refl), tt)))))))))))));
}

-- CONSISTENT
no_life : (l : ℕ) → suc l < 1 → ⊥
no_life l below = omega arith

never_back : (script : Script) → (l : ℕ) → l < 1 → awaited_before (setting script) (None ∷ []) l ≤ awaited_epoch_in (setting script) l 0 + 1
never_back script zero below = omega arith
never_back script (suc l) below = absurd (no_life l below)

pub again_is_consistent : IsConsistentScript (setting again) (None ∷ [])
unfolding used info_in payload_after payload_info_at parts_at info_output_at outcome_after mode_at byte_at many_at keys_at groups_at
again_is_consistent = record {
  one_chain = (refl, tt);
  linked = (tt, tt);
  one_info = rw (get-empty name_cmp Plan) (refl, tt);
  never_back = λ l below began. never_back again l below;
  others = ((other_key, (other_key, (other_key, tt))), tt);
}

pub bad_is_consistent : IsConsistentScript (setting bad) (None ∷ [])
unfolding used info_in payload_after payload_info_at parts_at info_output_at outcome_after mode_at byte_at many_at keys_at groups_at
bad_is_consistent = record {
  one_chain = (refl, tt);
  linked = (tt, tt);
  one_info = rw (get-empty name_cmp Plan) (refl, tt);
  never_back = λ l below began. never_back bad l below;
  others = ((other_key, (other_key, (other_key, tt))), tt);
}
