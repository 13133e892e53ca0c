-- A second run over what the first one left: it gives the dealing back and acknowledges it again, and with another acknowledgement it keeps nothing.
use Rattle.std.proofs.Common.{ℕ, ◌<◌, List, [], ◌∷◌, ◌++◌, ◌≡◌, ◌≢◌, refl, sym, ◌∙◌, ap, subst, Bool, true, false, Option, Some, None, lit<, length}
use Rattle.std.specs.Prelude.{fold, map}
use Rattle.std.specs.FinMap.{empty, entries-insert, insert, put}
use Rattle.dkg_ceremony.specs.declared.round.RoundParts.{RoundParts as Round}
use Rattle.dkg_ceremony.specs.Modes.{mode_at}
use Rattle.dkg_ceremony.specs.Rounds.{round_of}
use Rattle.dkg_values.specs.Bytes.{byte_at}
use Rattle.dkg_values.specs.Codec.{many_at}
use Rattle.dkg_values.specs.Lists.{keys_at}
use Rattle.dkg_values.specs.Uint.{groups_at}
use Rattle.dkg_journal.specs.Names.{Files}
use Rattle.dkg_secrets.specs.Keys.{key_cmp}
use Rattle.dkg_store.specs.Pairs.{Pairs}
use Rattle.dkg_store.specs.Recorded.{restored_list, restored_of}
use Rattle.dkg_secrets.specs.Secrets.{Secrets}
use Rattle.dkg_secrets.proofs.Map.{keys_total}
use Rattle.dkg_infos.specs.InfoCodes.{info_output_at, parts_at}
use Rattle.dkg_infos.specs.OutcomeCodes.{outcome_after}
use Rattle.dkg_types.specs.PayloadCodes.{payload_info_at, payload_after}
use Rattle.dkg_infos.specs.declared.entry.Entry.{Entry}
use Rattle.dkg_infos.specs.declared.entry.Entry.TheVariants.{Opened, Ack, Step}
use Rattle.dkg_infos.specs.declared.entry.Restored.{Restored}
use Rattle.dkg_text.specs.declared.script.Event.TheVariants.{Peer}
use Rattle.dkg_script.specs.Readings.{info_in}
use Rattle.dkg_script.specs.Blocks.{round_at, used}
use Rattle.dkg_script.specs.Kept.{IsSound, Kept}
use Rattle.dkg_script.specs.Laws.{GoesOn}
use Rattle.dkg_script.specs.Position.{awaited_height_after, begun}
use Rattle.dkg_script.specs.Progress.{Progress, at_start, progress, read}
use Rattle.dkg_script.specs.Setting.{Setting, recovered_from, setting_of}
use Rattle.dkg_script.proofs.EachEntry.{EachAfter, at_each}
use Rattle.dkg_script.proofs.OneAckAgain.{one_ack_again}
use Rattle.dkg_script.proofs.OneDealing.{first_life, one, one_is_kept, out_one, pair, recorded}
use Rattle.dkg_script.proofs.Rounds.{round, accepts, acknowledges, brings_seven}
use Rattle.dkg_script.proofs.Steps as steps
use Rattle.dkg_script.proofs.Steps.{InDealingStep}
use Rattle.dkg_script.proofs.Stores.{Stored, is_durable, is_given, stored_seven}
use Rattle.dkg_script.proofs.Trials.{opening, progress_is, round_zero}
use Rattle.dkg_script.proofs.Worked.{setting, dealt, ack_of_dealt, files_of, secrets_of, flat, no_pairs, start, OnlyThese}

-- WHAT THE FIRST RUN LEFT

abbrev left : Files
left = files_of (Some (flat 1 0 7))

abbrev held : Secrets
held = secrets_of (((0, 2), 23) ∷ [])

-- the same script over it
abbrev later : Setting
later = setting_of one left held

-- devices of one dealing list it alone
lists_it : (files : Files) (secrets : Secrets) (its : Restored) → Stored files secrets its → restored_list (recovered_from files secrets) ≡ its ∷ []
lists_it files secrets its h =
    let m : Pairs = insert empty (its.epoch, its.dealer) (its.public, its.private) in
    let is : recovered_from files secrets ≡ m = rw (h.entry, h.dealing, h.half) refl in
    ap restored_list is ∙ ap (map restored_of) (entries-insert keys_total empty (its.epoch, its.dealer) (its.public, its.private) ∙ ap (put key_cmp (its.epoch, its.dealer) (its.public, its.private)) (no_pairs key_cmp))

begins : at_start later ≡ record start { recorded = pair ∷ [] }
begins = ap (λ pairs. record start { recorded = pairs }) (lists_it left held pair stored_seven)

round_there : round_at later 0 ≡ Some (round 0)
unfolding round_at used info_in payload_after payload_info_at parts_at info_output_at outcome_after mode_at byte_at many_at keys_at groups_at round_of
round_there = refl

-- it is one that goes on from there
pub goes_on : GoesOn (setting one) later (OnlyThese left) held 0
goes_on = record {
  files = refl;
  secrets_are = refl;
  node = refl;
  one_round = λ r q r_is q_is. same (sym (round_zero 8 (lit< tt) (Peer 2 dealt ∷ []) None []) ∙ r_is) ∙ sym (same (sym round_there ∙ q_is));
}
  where
    same : {x : Round} → ◌≡◌ {A = Option Round} (Some (round 0)) (Some x) → x ≡ round 0
    same e = cc

-- WHAT IT TELLS

abbrev pub out_later : List Entry
out_later = Opened 0 (pair ∷ []) ∷ opening ++ Ack 0 2 ack_of_dealt ∷ Step 1 ∷ []

abbrev in_message : Progress
in_message = record { cuts = []; step = 1; written = []; recorded = pair ∷ []; opened = Some 0 }

in_step : InDealingStep later in_message first_life (round 0) pair dealt
unfolding awaited_height_after
in_step = record { life_is = refl; event_is = refl; awaited = refl; round_is = round_there; valid = accepts }

acked_again : IsSound later in_message (Ack 0 2 ack_of_dealt)
acked_again = subst (λ (ack : List ℕ). IsSound later in_message (Ack 0 2 ack)) acknowledges (steps.acknowledges later in_message first_life (round 0) pair dealt in_step (record { public = 15 ∷ 7 ∷ 1 ∷ []; private = 23 }) brings_seven refl refl)

each_later : EachAfter later (IsSound later) (record start { recorded = pair ∷ [] }) out_later
each_later = (sym (lists_it left held pair stored_seven), (tt, (tt, (tt, (tt, (tt, (acked_again, (tt, tt))))))))

its_progress : progress later out_later ≡ fold (read later) (record start { recorded = pair ∷ [] }) out_later
unfolding progress
its_progress = ap (λ p. fold (read later) p out_later) begins

pub later_is_kept : Kept later out_later (OnlyThese left) held
later_is_kept = record {
  each = at_each later (IsSound later) out_later (subst (λ (p : Progress). EachAfter later (IsSound later) p out_later) (sym begins) each_later);
  durable = rw its_progress (is_durable left held pair stored_seven later (record { cuts = None ∷ []; step = 0; written = []; recorded = pair ∷ []; opened = Some 0 })
      ((λ current. is_given left held pair stored_seven), tt));
}

-- ANOTHER ACKNOWLEDGEMENT of that dealer, whatever it stands for and wherever it is, is none of a run that keeps the dealings

abbrev either : (Files → Type 0) → Bool → Files → Type 0
either image true = OnlyThese left
either image false = image

none_begun : begun (setting one) (progress (setting one) out_one).cuts (length (progress (setting one) out_one).cuts) (progress (setting one) out_one).step ≡ 0
unfolding awaited_height_after
none_begun = rw (progress_is one out_one) refl

pub other_ack_is_not_kept_later : (ack : List ℕ) → ack ≢ ack_of_dealt → (first rest : List Entry) (image : Files → Type 0) (secrets : Secrets) → Kept later (first ++ Ack 0 2 ack ∷ rest) image secrets → ⊥
other_ack_is_not_kept_later ack other first rest image secrets kept =
    other (sym (one_ack_again (either image) (setting one) later out_one (first ++ Ack 0 2 ack ∷ rest) true false held secrets one_is_kept kept 0 2 goes_on (subst (λ (n : ℕ). n < 2) (sym none_begun) (lit< tt))
    (Opened 0 [] ∷ opening ++ recorded ∷ []) (Step 1 ∷ []) first rest ack_of_dealt ack refl refl))
