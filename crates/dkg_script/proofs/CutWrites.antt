-- A first install that is cut, another dealing of the same dealer afterwards, and a third opening; and a gate's write that is
-- cut, after which an opening finds the dealing or doesn't.
use Rattle.std.proofs.Common.{ℕ, zero, suc, ◌+◌, ◌<◌, ◌≤◌, List, [], ◌∷◌, ◌++◌, ◌≡◌, refl, Option, Some, None, lit<, lit≤, arith, ap, subst, sym, length}
use Rattle.std.specs.FinMap.{get-empty}
use Rattle.dkg_values.specs.Bytes.{byte_at}
use Rattle.dkg_values.specs.Codec.{many_at}
use Rattle.dkg_values.specs.Lists.{keys_at}
use Rattle.dkg_values.specs.Uint.{groups_at}
use Rattle.dkg_values.specs.declared.name.Name.TheVariants.{Plan}
use Rattle.dkg_ceremony.specs.Modes.{mode_at}
use Rattle.dkg_journal.specs.Names.{Files, name_cmp}
use Rattle.dkg_journal.specs.Records.{entries, read32, read64}
use Rattle.dkg_store.specs.Pairs.{IsWhole}
use Rattle.dkg_secrets.specs.Secrets.{Secrets}
use Rattle.dkg_infos.specs.InfoCodes.{info_output_at, parts_at}
use Rattle.dkg_infos.specs.OutcomeCodes.{outcome_after}
use Rattle.dkg_types.specs.PayloadCodes.{payload_info_at, payload_after}
use Rattle.dkg_infos.specs.declared.entry.Entry.{Entry}
use Rattle.dkg_infos.specs.declared.entry.Entry.TheVariants.{Opened, Ack, Cut, Step}
use Rattle.dkg_infos.specs.declared.entry.Restored.{Restored}
use Rattle.dkg_text.specs.declared.script.Event.TheVariants.{Peer}
use Rattle.dkg_text.specs.declared.script.Life.{Life}
use Rattle.dkg_text.specs.declared.script.Script.{Script}
use Rattle.dkg_script.specs.Readings.{info_in}
use Rattle.dkg_script.specs.Setting.{CutAt}
use Rattle.dkg_script.specs.Blocks.{used}
use Rattle.dkg_script.specs.Position.{awaited_before, awaited_epoch_in, awaited_height_after}
use Rattle.dkg_script.specs.Progress.{Progress, IsValid}
use Rattle.dkg_script.specs.Consistent.{IsConsistentScript}
use Rattle.dkg_script.specs.Kept.{IsSound, IsSoundOpening, IsBroughtAtCut, Kept}
use Rattle.dkg_script.specs.Order.{IsInOrder, InOrder}
use Rattle.dkg_script.specs.Promise.{IsComplete}
use Rattle.dkg_script.proofs.EachEntry.{EachAfter}
use Rattle.dkg_script.proofs.OneDealing.{pair, other_key, second_life}
use Rattle.dkg_script.proofs.Rounds.{round, accepts, accepts_again, acknowledges_again, brings_seven, brings_nine}
use Rattle.dkg_script.proofs.Steps as steps
use Rattle.dkg_script.proofs.Steps.{InDealingStep}
use Rattle.dkg_script.proofs.Stores.{pair_in, stored_seven, stored_nine, is_durable, is_given}
use Rattle.dkg_script.proofs.Trials.{opening, opens, from_start, progress_is, round_zero, all_answered, no_plan}
use Rattle.dkg_script.proofs.Worked.{script_of, setting, genesis, life_of, cut_at, start, dealt, dealt_again, ack_of_again, files_of, secrets_of, flat, OnlyThese, entries_are}

-- THE INSTALL
abbrev cut_life : Life
cut_life = life_of (Peer 2 dealt ∷ []) (cut_at 1 2 1)

abbrev next_life : Life
next_life = life_of (Peer 2 dealt_again ∷ []) None

abbrev pub at_install : Script
at_install = script_of 8 (lit< tt) (genesis ∷ []) (cut_life ∷ next_life ∷ second_life ∷ [])

abbrev pub other_pair : Restored
other_pair = pair_in 0 9 25

abbrev pub other_recorded : Entry
other_recorded = steps.recorded_entry other_pair

-- up to the third opening, which lists these
abbrev pub out_listing : List Restored → List Entry
out_listing restored = Opened 0 [] ∷ opening ++ Cut 1 2 ∷ Opened 1 [] ∷ opening
    ++ other_recorded ∷ Ack 0 2 ack_of_again ∷ Step 1 ∷ Opened 2 restored ∷ []

abbrev pub out_install : List Entry
out_install = out_listing (other_pair ∷ []) ++ opening

abbrev cut_there : Option CutAt
cut_there = Some (record { step = 1; call = 2 })

abbrev after_cut : Progress
after_cut = record { cuts = cut_there ∷ []; step = 0; written = []; recorded = []; opened = Some 0 }

abbrev in_second : List Entry → List Restored → Progress
in_second written pairs = record { cuts = cut_there ∷ []; step = 1; written = written; recorded = pairs; opened = Some 1 }

abbrev before_third : Progress
before_third = record { cuts = cut_there ∷ None ∷ []; step = 0; written = []; recorded = other_pair ∷ []; opened = Some 1 }

in_step : (written : List Entry) (pairs : List Restored) → InDealingStep (setting at_install) (in_second written pairs) next_life (round 0) other_pair dealt_again
unfolding awaited_height_after
in_step written pairs = record {
  life_is = refl;
  event_is = refl;
  awaited = refl;
  round_is = round_zero 8 (lit< tt) (Peer 2 dealt ∷ []) (cut_at 1 2 1) (next_life ∷ second_life ∷ []);
  valid = accepts_again;
}

reopens : IsSoundOpening (setting at_install) after_cut []
reopens = record { lists = tt; rising = tt; sound = tt }

not_new : (x : Restored) → Some x ≡ None → ⊥
not_new x e = cc

opens_again : IsSoundOpening (setting at_install) before_third (other_pair ∷ [])
opens_again = record {
  lists = ((λ current. (0, lit< tt, refl)), tt);
  rising = tt;
  sound = (record { first = λ new. absurd (not_new other_pair new); stays = refl }, tt);
}

is_acknowledged : IsSound (setting at_install) (in_second (other_recorded ∷ []) (other_pair ∷ [])) (Ack 0 2 ack_of_again)
is_acknowledged = subst (λ (ack : List ℕ). IsSound (setting at_install) (in_second (other_recorded ∷ []) (other_pair ∷ [])) (Ack 0 2 ack)) acknowledges_again
    (steps.acknowledges (setting at_install) (in_second (other_recorded ∷ []) (other_pair ∷ [])) next_life (round 0) other_pair dealt_again (in_step (other_recorded ∷ []) (other_pair ∷ []))
    (record { public = 15 ∷ 9 ∷ 1 ∷ []; private = 25 }) brings_nine refl refl)

each : EachAfter (setting at_install) (IsSound (setting at_install)) start out_install
each = (
  opens at_install,
  (
    tt,
    (
      tt,
      (
        tt,
        (
          tt,
          (
            tt,
            (
              tt,
              (
                reopens,
                (
                  tt,
                  (
                    tt,
                    (
                      tt,
                      (
                        tt,
                        (
                          tt,
                          (
                            steps.records (setting at_install) (in_second [] []) next_life (round 0) other_pair dealt_again (in_step [] []) refl brings_nine,
                            (is_acknowledged, (tt, (opens_again, (tt, (tt, (tt, (tt, (tt, tt)))))))),
                          ),
                        ),
                      ),
                    ),
                  ),
                ),
              ),
            ),
          ),
        ),
      ),
    ),
  ),
)

pub install_is_kept : Kept (setting at_install) out_install (OnlyThese (files_of (Some (flat 1 0 9)))) (secrets_of (((0, 2), 25) ∷ []))
install_is_kept = record {
  each = from_start at_install (IsSound (setting at_install)) out_install each;
  durable = rw (progress_is at_install out_install) (is_durable (files_of (Some (flat 1 0 9))) (secrets_of (((0, 2), 25) ∷ [])) other_pair stored_nine (setting at_install)
      (record { cuts = cut_there ∷ None ∷ None ∷ []; step = 0; written = []; recorded = other_pair ∷ []; opened = Some 2 })
      ((λ current. is_given (files_of (Some (flat 1 0 9))) (secrets_of (((0, 2), 25) ∷ [])) other_pair stored_nine), tt));
}

-- in order
no_number : (n : ℕ) → suc n ≡ 0 → ⊥
no_number n e = omega arith

pub install_is_in_order : InOrder (setting at_install) out_install
unfolding InOrder
install_is_in_order = from_start at_install (IsInOrder (setting at_install)) out_install (
  record { in_life = (refl, (λ is. absurd (no_number 1 is))); at_opening = refl; once = refl },
  (
    (λ is. absurd (no_number 1 is)),
    (
      (λ is. absurd (no_number 1 is)),
      (
        (λ is. absurd (no_number 1 is)),
        (
          (λ is. absurd (no_number 1 is)),
          (
            record { in_hand = refl; begins = λ is. absurd (no_number 1 is); has_opened = λ is. refl },
            (
              record { in_hand = refl; of_script = (refl, refl); before_step = λ is. absurd (no_number 1 is) },
              (
                record { in_life = (refl, tt); at_opening = refl; once = refl },
                (
                  tt,
                  (
                    tt,
                    (
                      tt,
                      (
                        tt,
                        (
                          record { in_hand = refl; begins = tt; has_opened = λ is. refl },
                          (
                            tt,
                            (
                              tt,
                              (
                                record { in_hand = refl; begins = tt; has_opened = λ is. absurd (no_number 0 is) },
                                (
                                  record { in_life = (refl, tt); at_opening = refl; once = refl },
                                  (
                                    tt,
                                    (
                                      tt,
                                      (
                                        tt,
                                        (
                                          tt,
                                          (record { in_hand = refl; begins = tt; has_opened = λ is. refl }, tt),
                                        ),
                                      ),
                                    ),
                                  ),
                                ),
                              ),
                            ),
                          ),
                        ),
                      ),
                    ),
                  ),
                ),
              ),
            ),
          ),
        ),
      ),
    ),
  ),
)

-- complete
pub install_is_complete : IsComplete (setting at_install) out_install
install_is_complete = record {
  all_run = ap (λ (p : Progress). length p.cuts) (progress_is at_install out_install);
  answered = all_answered at_install out_install (
    tt,
    (
      tt,
      (
        tt,
        (
          tt,
          (
            tt,
            (
              (λ due. absurd (due [] (no_plan at_install [] refl (refl, (refl, (refl, tt))))).dealing),
              (
                tt,
                (
                  tt,
                  (
                    tt,
                    (
                      tt,
                      (
                        tt,
                        (
                          tt,
                          (
                            (λ due. absurd (due [] (no_plan at_install (cut_there ∷ []) refl (refl, (refl, (refl, tt))))).dealing),
                            (
                              tt,
                              (
                                tt,
                                (
                                  (λ due. refl),
                                  (
                                    tt,
                                    (
                                      tt,
                                      (
                                        tt,
                                        (
                                          tt,
                                          (
                                            tt,
                                            ((λ due. absurd (due [] (no_plan at_install (cut_there ∷ None ∷ []) refl (refl, (refl, (refl, tt))))).dealing), tt),
                                          ),
                                        ),
                                      ),
                                    ),
                                  ),
                                ),
                              ),
                            ),
                          ),
                        ),
                      ),
                    ),
                  ),
                ),
              ),
            ),
          ),
        ),
      ),
    ),
  );
}

-- consistent
not_below : (l : ℕ) → suc (suc (suc l)) < 3 → ⊥
not_below l below = omega arith

never_back : (l : ℕ) → l < 3 → awaited_before (setting at_install) (cut_there ∷ None ∷ None ∷ []) l ≤ awaited_epoch_in (setting at_install) l 0 + 1
unfolding awaited_height_after
never_back zero below = lit≤ tt
never_back (suc zero) below = lit≤ tt
never_back (suc (suc zero)) below = lit≤ tt
never_back (suc (suc (suc l))) below = absurd (not_below l below)

pub install_is_consistent : IsConsistentScript (setting at_install) (cut_there ∷ None ∷ None ∷ [])
unfolding used info_in payload_after payload_info_at parts_at info_output_at outcome_after mode_at byte_at many_at keys_at groups_at
install_is_consistent = record {
  one_chain = (refl, (refl, (refl, tt)));
  linked = (tt, (tt, (tt, tt)));
  one_info = rw (get-empty name_cmp Plan) (refl, (refl, (refl, tt)));
  never_back = λ l below began. never_back l below;
  others = ((other_key, tt), ((other_key, tt), (tt, tt)));
}

-- THE OTHER ATTEMPT'S PRIVATE HALF: a third opening that pairs the public half with it is not kept
abbrev pub mixed_pair : Restored
mixed_pair = pair_in 0 9 23

abbrev private_in : Option Restored → ℕ
private_in None = 0
private_in (Some found) = found.private

not_mixed : ◌≡◌ {A = ℕ} 25 23 → ⊥
not_mixed e = omega arith

abbrev pub before_listing : List Entry
before_listing = Opened 0 [] ∷ opening ++ Cut 1 2 ∷ Opened 1 [] ∷ opening ++ other_recorded ∷ Ack 0 2 ack_of_again ∷ Step 1 ∷ []

pub mixed_is_not_kept : (image : Files → Type 0) (secrets : Secrets)
    → Kept (setting at_install) (out_listing (mixed_pair ∷ [])) image secrets → ⊥
mixed_is_not_kept image secrets kept =
    not_mixed (ap private_in (subst (λ p. IsSound (setting at_install) p (Opened 2 (mixed_pair ∷ []))) (progress_is at_install before_listing)
    (kept.each before_listing (Opened 2 (mixed_pair ∷ [])) [] refl)).sound.0.stays)

-- THE GATE: all is written but the gate's byte, which a crash leaves open, closed or as neither
abbrev pub at_gate : Script
at_gate = script_of 8 (lit< tt) (genesis ∷ []) (life_of (Peer 2 dealt ∷ []) (cut_at 1 5 0) ∷ second_life ∷ [])

abbrev pub out_gate : List Restored → List Entry
out_gate restored = Opened 0 [] ∷ opening ++ Cut 1 5 ∷ Opened 1 restored ∷ opening

abbrev gate_cut : Option CutAt
gate_cut = Some (record { step = 1; call = 5 })

abbrev after_gate : Progress
after_gate = record { cuts = gate_cut ∷ []; step = 0; written = []; recorded = []; opened = Some 0 }

valid_at_gate : IsValid (setting at_gate) pair
valid_at_gate = rw (round_zero 8 (lit< tt) (Peer 2 dealt ∷ []) (cut_at 1 5 0) (second_life ∷ [])) accepts

brought_at_cut : IsBroughtAtCut (setting at_gate) after_gate pair
unfolding awaited_height_after
brought_at_cut = (lit< tt, record { epoch = refl; event = (refl, brings_seven); valid = valid_at_gate })

-- an opening that finds it, and one that doesn't
finds_it : IsSoundOpening (setting at_gate) after_gate (pair ∷ [])
finds_it = record { lists = tt; rising = tt; sound = (record { first = λ new. brought_at_cut; stays = refl }, tt) }

finds_nothing : IsSoundOpening (setting at_gate) after_gate []
finds_nothing = record { lists = tt; rising = tt; sound = tt }

pub found_is_kept : Kept (setting at_gate) (out_gate (pair ∷ [])) (OnlyThese (files_of (Some (flat 1 0 7)))) (secrets_of (((0, 2), 23) ∷ []))
found_is_kept = record {
  each = from_start at_gate (IsSound (setting at_gate)) (out_gate (pair ∷ [])) (opens at_gate, (tt, (tt, (tt, (tt, (tt, (tt, (finds_it, (tt, (tt, (tt, (tt, (tt, tt)))))))))))));
  durable = rw (progress_is at_gate (out_gate (pair ∷ []))) (is_durable (files_of (Some (flat 1 0 7))) (secrets_of (((0, 2), 23) ∷ [])) pair stored_seven (setting at_gate)
      (record { cuts = gate_cut ∷ None ∷ []; step = 0; written = []; recorded = pair ∷ []; opened = Some 1 })
      ((λ current. is_given (files_of (Some (flat 1 0 7))) (secrets_of (((0, 2), 23) ∷ [])) pair stored_seven), tt));
}

-- the gate as it was, and as neither
closed : entries (files_of (Some (flat 0 0 7))) ≡ []
unfolding read32 read64
closed = entries_are (flat 0 0 7)

torn : entries (files_of (Some (flat 7 0 7))) ≡ []
unfolding read32 read64
torn = entries_are (flat 7 0 7)

without_records : (file : List ℕ) → entries (files_of (Some file)) ≡ []
    → Kept (setting at_gate) (out_gate []) (OnlyThese (files_of (Some file))) (secrets_of (((0, 2), 23) ∷ []))
without_records file none = record {
  each = from_start at_gate (IsSound (setting at_gate)) (out_gate []) (opens at_gate, (tt, (tt, (tt, (tt, (tt, (tt, (finds_nothing, (tt, (tt, (tt, (tt, (tt, tt)))))))))))));
  durable = rw (progress_is at_gate (out_gate [])) (record {
    whole = λ c is. subst (λ f. IsWhole (entries f) (secrets_of (((0, 2), 23) ∷ []))) (sym is) (rw none tt);
    gives = λ c is. tt;
  });
}

pub closed_is_kept : Kept (setting at_gate) (out_gate []) (OnlyThese (files_of (Some (flat 0 0 7)))) (secrets_of (((0, 2), 23) ∷ []))
closed_is_kept = without_records (flat 0 0 7) closed

pub torn_is_kept : Kept (setting at_gate) (out_gate []) (OnlyThese (files_of (Some (flat 7 0 7)))) (secrets_of (((0, 2), 23) ∷ []))
torn_is_kept = without_records (flat 7 0 7) torn

pub gate_is_in_order : (restored : List Restored) → InOrder (setting at_gate) (out_gate restored)
unfolding InOrder
gate_is_in_order restored = from_start at_gate (IsInOrder (setting at_gate)) (out_gate restored) (
  record { in_life = (refl, (λ is. absurd (no_number 4 is))); at_opening = refl; once = refl },
  (
    (λ is. absurd (no_number 4 is)),
    (
      (λ is. absurd (no_number 4 is)),
      (
        (λ is. absurd (no_number 4 is)),
        (
          (λ is. absurd (no_number 4 is)),
          (
            record { in_hand = refl; begins = λ is. absurd (no_number 4 is); has_opened = λ is. refl },
            (
              record { in_hand = refl; of_script = (refl, refl); before_step = λ is. absurd (no_number 4 is) },
              (
                record { in_life = (refl, tt); at_opening = refl; once = refl },
                (
                  tt,
                  (
                    tt,
                    (
                      tt,
                      (
                        tt,
                        (record { in_hand = refl; begins = tt; has_opened = λ is. refl }, tt),
                      ),
                    ),
                  ),
                ),
              ),
            ),
          ),
        ),
      ),
    ),
  ),
)

pub gate_is_complete : (restored : List Restored) → IsComplete (setting at_gate) (out_gate restored)
gate_is_complete restored = record {
  all_run = ap (λ (p : Progress). length p.cuts) (progress_is at_gate (out_gate restored));
  answered = all_answered at_gate (out_gate restored) (
    tt,
    (
      tt,
      (
        tt,
        (
          tt,
          (
            tt,
            (
              (λ due. absurd (due [] (no_plan at_gate [] refl (refl, (refl, tt)))).dealing),
              (
                tt,
                (
                  tt,
                  (
                    tt,
                    (
                      tt,
                      (
                        tt,
                        (
                          tt,
                          ((λ due. absurd (due [] (no_plan at_gate (gate_cut ∷ []) refl (refl, (refl, tt)))).dealing), tt),
                        ),
                      ),
                    ),
                  ),
                ),
              ),
            ),
          ),
        ),
      ),
    ),
  );
}

no_third : (l : ℕ) → suc (suc l) < 2 → ⊥
no_third l below = omega arith

gate_never_back : (l : ℕ) → l < 2 → awaited_before (setting at_gate) (gate_cut ∷ None ∷ []) l ≤ awaited_epoch_in (setting at_gate) l 0 + 1
unfolding awaited_height_after
gate_never_back zero below = lit≤ tt
gate_never_back (suc zero) below = lit≤ tt
gate_never_back (suc (suc l)) below = absurd (no_third l below)

pub gate_is_consistent : IsConsistentScript (setting at_gate) (gate_cut ∷ None ∷ [])
unfolding used info_in payload_after payload_info_at parts_at info_output_at outcome_after mode_at byte_at many_at keys_at groups_at
gate_is_consistent = record {
  one_chain = (refl, (refl, tt));
  linked = (tt, (tt, tt));
  one_info = rw (get-empty name_cmp Plan) (refl, (refl, tt));
  never_back = λ l below began. gate_never_back l below;
  others = ((other_key, tt), (tt, tt));
}
