-- Two epochs in one life and a third begun, and a second life that starts from the last block: the dealing of the epoch below
-- the last one is restored, that of two below is given up.
use Rattle.std.proofs.Common.{ℕ, zero, suc, ◌+◌, ◌<◌, ◌≤◌, List, [], ◌∷◌, ◌++◌, ◌≡◌, refl, Some, None, lit<, lit≤, arith, ap, subst, length}
use Rattle.std.specs.FinMap.{get-empty}
use Rattle.dkg_values.specs.Bytes.{byte_at}
use Rattle.dkg_values.specs.Codec.{many_at}
use Rattle.dkg_values.specs.Lists.{keys_at}
use Rattle.dkg_values.specs.Uint.{groups_at}
use Rattle.dkg_values.specs.declared.name.Name.TheVariants.{Plan}
use Rattle.dkg_ceremony.specs.Modes.{mode_at}
use Rattle.dkg_ceremony.specs.Rounds.{round_of}
use Rattle.dkg_journal.specs.Names.{name_cmp}
use Rattle.dkg_infos.specs.InfoCodes.{info_output_at, parts_at}
use Rattle.dkg_infos.specs.OutcomeCodes.{outcome_after}
use Rattle.dkg_types.specs.PayloadCodes.{payload_info_at, payload_after}
use Rattle.dkg_infos.specs.declared.entry.Entry.{Entry}
use Rattle.dkg_infos.specs.declared.entry.Entry.TheVariants.{Opened, Ack, Step, Committed, Registered, Setup, Entered, Acked}
use Rattle.dkg_infos.specs.declared.entry.Part.TheVariants.{Player}
use Rattle.dkg_infos.specs.declared.entry.Role.TheVariants.{Member}
use Rattle.dkg_infos.specs.declared.entry.Restored.{Restored}
use Rattle.dkg_ceremony.specs.declared.phase.Phase.TheVariants.{Early}
use Rattle.dkg_text.specs.declared.script.Anchor.TheVariants.{Processed}
use Rattle.dkg_text.specs.declared.script.Event.TheVariants.{Peer, Final}
use Rattle.dkg_text.specs.declared.script.BlockLine.{BlockLine}
use Rattle.dkg_text.specs.declared.script.Life.{Life}
use Rattle.dkg_text.specs.declared.script.Script.{Script}
use Rattle.dkg_script.specs.Readings.{info_in}
use Rattle.dkg_script.specs.Blocks.{used, round_at}
use Rattle.dkg_script.specs.Position.{awaited_before, awaited_epoch_in, awaited_height_after}
use Rattle.dkg_script.specs.Progress.{Progress}
use Rattle.dkg_script.specs.Consistent.{IsConsistentScript}
use Rattle.dkg_script.specs.Kept.{IsSound, IsSoundOpening, IsDurable, Kept}
use Rattle.dkg_script.specs.Order.{IsInOrder, InOrder}
use Rattle.dkg_script.specs.Promise.{IsComplete}
use Rattle.dkg_script.proofs.EachEntry.{EachAfter}
use Rattle.dkg_script.proofs.OneDealing.{pair, recorded, other_key}
use Rattle.dkg_script.proofs.Rounds.{keys, round, accepts, accepts_next, acknowledges, acknowledges_next, brings_seven}
use Rattle.dkg_script.proofs.Steps as steps
use Rattle.dkg_script.proofs.Steps.{InDealingStep}
use Rattle.dkg_script.proofs.Stores.{pair_in, stored_next, is_durable, is_given}
use Rattle.dkg_script.proofs.Trials.{opens, from_start, progress_is, all_answered, no_plan}
use Rattle.dkg_script.proofs.Worked.{script_of, setting, genesis, line, payload, life_of, start, dealt, ack_of_dealt, ack_of_next, files_of, secrets_of, flat, OnlyThese}

abbrev pub first : Life
first = life_of (Peer 2 dealt ∷ Final 0 ∷ Final 1 ∷ Peer 2 dealt ∷ Final 2 ∷ Final 3 ∷ []) None

abbrev second : Life
second = record (life_of [] None) { anchor = Some (Processed 3); held = 3 ∷ [] }

abbrev blocks : List BlockLine
blocks = genesis ∷ line 1 (Some 0) (Some (payload 1 1)) ∷ line 2 (Some 1) None ∷ line 3 (Some 2) (Some (payload 1 2)) ∷ []

abbrev plain : Script
plain = script_of 2 (lit< tt) blocks (first ∷ second ∷ [])

abbrev pub chain : Script
chain = record plain { config = record plain.config { players = record { epoch = 2; players = keys } ∷ record { epoch = 3; players = keys } ∷ [] } }

abbrev pub second_pair : Restored
second_pair = pair_in 1 7 23

abbrev enters : ℕ → List Entry
enters epoch = Committed epoch None ∷ Registered epoch Member ∷ Setup epoch Early Player ∷ Entered epoch ∷ []

abbrev second_recorded : Entry
second_recorded = steps.recorded_entry second_pair

abbrev pub out : List Entry
out = Opened 0 [] ∷ enters 0 ++ Step 0 ∷ recorded ∷ Ack 0 2 ack_of_dealt ∷ Step 1 ∷ Acked 0 ∷ Step 2 ∷ []
    ++ enters 1 ++ Acked 1 ∷ Step 3 ∷ second_recorded ∷ Ack 1 2 ack_of_next ∷ Step 4 ∷ Acked 2 ∷ Step 5 ∷ []
    ++ enters 2 ++ Acked 3 ∷ Step 6 ∷ Opened 1 (second_pair ∷ []) ∷ []
    ++ enters 2 ++ Step 0 ∷ []

-- THE ROUNDS of epochs 0 and 1, from the blocks
round_at_zero : round_at (setting chain) 0 ≡ Some (round 0)
unfolding round_at used info_in payload_after payload_info_at parts_at info_output_at outcome_after mode_at byte_at many_at keys_at groups_at round_of
round_at_zero = refl

round_at_one : round_at (setting chain) 1 ≡ Some (round 1)
unfolding round_at used info_in payload_after payload_info_at parts_at info_output_at outcome_after mode_at byte_at many_at keys_at groups_at round_of
round_at_one = refl

-- KEPT
abbrev at_step : ℕ → List Entry → List Restored → Progress
at_step step written pairs = record { cuts = []; step = step; written = written; recorded = pairs; opened = Some 0 }

in_first : (written : List Entry) (pairs : List Restored) → InDealingStep (setting chain) (at_step 1 written pairs) first (round 0) pair dealt
unfolding awaited_height_after
in_first written pairs = record { life_is = refl; event_is = refl; awaited = refl; round_is = round_at_zero; valid = accepts }

in_second : (written : List Entry) (pairs : List Restored) → InDealingStep (setting chain) (at_step 4 written pairs) first (round 1) second_pair dealt
unfolding awaited_height_after
in_second written pairs = record { life_is = refl; event_is = refl; awaited = refl; round_is = round_at_one; valid = accepts_next }

first_record : IsSound (setting chain) (at_step 1 [] []) recorded
first_record = steps.records (setting chain) (at_step 1 [] []) first (round 0) pair dealt (in_first [] []) refl brings_seven

first_ack : IsSound (setting chain) (at_step 1 (recorded ∷ []) (pair ∷ [])) (Ack 0 2 ack_of_dealt)
first_ack = subst (λ (ack : List ℕ). IsSound (setting chain) (at_step 1 (recorded ∷ []) (pair ∷ [])) (Ack 0 2 ack)) acknowledges
    (steps.acknowledges (setting chain) (at_step 1 (recorded ∷ []) (pair ∷ [])) first (round 0) pair dealt (in_first (recorded ∷ []) (pair ∷ [])) (record { public = 15 ∷ 7 ∷ 1 ∷ []; private = 23 }) brings_seven refl refl)

second_record : IsSound (setting chain) (at_step 4 [] (pair ∷ [])) second_recorded
second_record = steps.records (setting chain) (at_step 4 [] (pair ∷ [])) first (round 1) second_pair dealt (in_second [] (pair ∷ [])) refl brings_seven

second_ack : IsSound (setting chain) (at_step 4 (second_recorded ∷ []) (pair ∷ second_pair ∷ [])) (Ack 1 2 ack_of_next)
second_ack = subst (λ (ack : List ℕ). IsSound (setting chain) (at_step 4 (second_recorded ∷ []) (pair ∷ second_pair ∷ [])) (Ack 1 2 ack)) acknowledges_next
    (steps.acknowledges (setting chain) (at_step 4 (second_recorded ∷ []) (pair ∷ second_pair ∷ [])) first (round 1) second_pair dealt (in_second (second_recorded ∷ []) (pair ∷ second_pair ∷ [])) (record { public = 15 ∷ 7 ∷ 1 ∷ []; private = 23 }) brings_seven refl refl)

past : 2 < 0 + 2 → ⊥
past current = omega arith

not_new : Some second_pair ≡ None → ⊥
not_new e = cc

abbrev before_restart : Progress
before_restart = record { cuts = None ∷ []; step = 0; written = []; recorded = pair ∷ second_pair ∷ []; opened = Some 0 }

reopens : IsSoundOpening (setting chain) before_restart (second_pair ∷ [])
unfolding awaited_height_after
reopens = record {
  lists = ((λ current. absurd (past current)), ((λ current. (0, lit< tt, refl)), tt));
  rising = tt;
  sound = (record { first = λ new. absurd (not_new new); stays = refl }, tt);
}

each : EachAfter (setting chain) (IsSound (setting chain)) start out
each = (opens chain, (tt, (tt, (tt, (tt, (tt, (first_record, (first_ack, (tt, (tt, (tt, (tt, (tt, (tt, (tt, (tt, (tt, (second_record, (second_ack, (tt, (tt, (tt, (tt, (tt, (tt, (tt, (tt, (tt, (reopens, (tt, (tt, (tt, (tt, (tt, tt))))))))))))))))))))))))))))))))))

-- the devices at the end, without what is two epochs below
abbrev at_end : Progress
at_end = record { cuts = None ∷ None ∷ []; step = 0; written = []; recorded = pair ∷ second_pair ∷ []; opened = Some 1 }

durable : IsDurable (setting chain) at_end (OnlyThese (files_of (Some (flat 1 1 7)))) (secrets_of (((1, 2), 23) ∷ []))
unfolding awaited_height_after
durable = is_durable (files_of (Some (flat 1 1 7))) (secrets_of (((1, 2), 23) ∷ [])) second_pair stored_next (setting chain) at_end
    ((λ current. absurd (past current)), ((λ current. is_given (files_of (Some (flat 1 1 7))) (secrets_of (((1, 2), 23) ∷ [])) second_pair stored_next), tt))

pub chain_is_kept : Kept (setting chain) out (OnlyThese (files_of (Some (flat 1 1 7)))) (secrets_of (((1, 2), 23) ∷ []))
chain_is_kept = record { each = from_start chain (IsSound (setting chain)) out each; durable = rw (progress_is chain out) durable }

-- IN ORDER
no_number : (n : ℕ) → suc n ≡ 0 → ⊥
no_number n e = omega arith

pub chain_is_in_order : InOrder (setting chain) out
unfolding InOrder
chain_is_in_order = from_start chain (IsInOrder (setting chain)) out (record { in_life = (refl, tt); at_opening = refl; once = refl }, (tt, (tt, (tt, (tt, (record { in_hand = refl; begins = tt; has_opened = λ is. refl }, (tt, (tt, (record { in_hand = refl; begins = tt; has_opened = λ is. absurd (no_number 0 is) }, (tt, (record { in_hand = refl; begins = tt; has_opened = λ is. absurd (no_number 1 is) }, (tt, (tt, (tt, (tt, (tt, (record { in_hand = refl; begins = tt; has_opened = λ is. absurd (no_number 2 is) }, (tt, (tt, (record { in_hand = refl; begins = tt; has_opened = λ is. absurd (no_number 3 is) }, (tt, (record { in_hand = refl; begins = tt; has_opened = λ is. absurd (no_number 4 is) }, (tt, (tt, (tt, (tt, (tt, (record { in_hand = refl; begins = tt; has_opened = λ is. absurd (no_number 5 is) }, (record { in_life = (refl, tt); at_opening = refl; once = refl }, (tt, (tt, (tt, (tt, (record { in_hand = refl; begins = tt; has_opened = λ is. refl }, tt))))))))))))))))))))))))))))))))))

-- COMPLETE
pub chain_is_complete : IsComplete (setting chain) out
chain_is_complete = record {
  all_run = ap (λ (p : Progress). length p.cuts) (progress_is chain out);
  answered = all_answered chain out (tt, (tt, (tt, (tt, (tt, ((λ due. absurd (due [] (no_plan chain [] refl (refl, (refl, tt)))).dealing), (tt, (tt, ((λ due. refl), (tt, ((λ due. absurd (due [] (no_plan chain [] refl (refl, (refl, tt)))).dealing), (tt, (tt, (tt, (tt, (tt, ((λ due. absurd (due [] (no_plan chain [] refl (refl, (refl, tt)))).dealing), (tt, (tt, ((λ due. refl), (tt, ((λ due. absurd (due [] (no_plan chain [] refl (refl, (refl, tt)))).dealing), (tt, (tt, (tt, (tt, (tt, ((λ due. absurd (due [] (no_plan chain [] refl (refl, (refl, tt)))).dealing), (tt, (tt, (tt, (tt, (tt, ((λ due. absurd (due [] (no_plan chain (None ∷ []) refl (refl, (refl, tt)))).dealing), tt))))))))))))))))))))))))))))))))));
}

-- CONSISTENT
not_below : (l : ℕ) → suc (suc l) < 2 → ⊥
not_below l below = omega arith

never_back : (l : ℕ) → l < 2 → awaited_before (setting chain) (None ∷ None ∷ []) l ≤ awaited_epoch_in (setting chain) l 0 + 1
unfolding awaited_height_after
never_back zero below = lit≤ tt
never_back (suc zero) below = lit≤ tt
never_back (suc (suc l)) below = absurd (not_below l below)

pub chain_is_consistent : IsConsistentScript (setting chain) (None ∷ None ∷ [])
unfolding used info_in payload_after payload_info_at parts_at info_output_at outcome_after mode_at byte_at many_at keys_at groups_at
chain_is_consistent = record {
  one_chain = (refl, (refl, (refl, (refl, (refl, (refl, (refl, tt)))))));
  linked = (tt, (tt, (refl, (refl, (refl, (refl, (refl, tt)))))));
  one_info = rw (get-empty name_cmp Plan) (refl, (refl, (refl, (refl, (refl, (refl, tt))))));
  never_back = λ l below began. never_back l below;
  others = ((other_key, (tt, (tt, (other_key, (tt, (tt, tt)))))), (tt, tt));
}
