-- Whoever takes part holds a share in each epoch, and each epoch follows the one before.
use Rattle.std.proofs.Common.{◌≡◌, ℕ, zero, suc, ◌+◌, ◌<◌, ◌≤◌, Bool, true, false, List, Option, Some, None, Ok, Err, Result, refl, sym, ap, ◌∙◌, add-one, arith}
use Rattle.std.specs.Prelude.{Contains, option_and_then, if◌then◌else◌}
use Rattle.std.specs.List.{range_with_len}
use Rattle.std.specs.Result.{result_ok}
use Rattle.std.proofs.lemmas.List.FromFn.{get_or-range_with_len, length-range_with_len}
use Rattle.dkg_values.specs.declared.codec.CodecError.{CodecError}
use Rattle.dkg_ceremony.specs.declared.output.Output.{Output}
use Rattle.dkg_ceremony.specs.declared.round.RoundParts.{RoundParts as Round}
use Rattle.dkg_ceremony.specs.OutputGrammar.{parts_of_output}
use Rattle.dkg_ceremony.specs.Outcomes.{LogMap, combined_of, keeps_key, outcome_of, outcome_parts, output_with, revealed_of, selected_of, sum_of}
use Rattle.dkg_ceremony.specs.Outputs.{OutputParts, do_parts_agree, output_from}
use Rattle.dkg_infos.specs.NextInfos.{info_by, next_info}
use Rattle.dkg_generator.specs.Chain.{by_dealer, everybody, genesis, genesis_output, info_made_after, made_info_at, logs_made, provided, round_after}
use Rattle.dkg_generator.specs.Made.{Shown}

-- each key from 1 to 7 is one of all
pub is_one_of : (key : ℕ) → 1 ≤ key → key < 8 → Contains everybody key
is_one_of zero least most = absurd (omega arith)
is_one_of (suc k) least most = (k, omega (arith, length-range_with_len 1 7), get_or-range_with_len 1 7 k (suc k) (omega arith) ∙ (let same : 1 + k ≡ suc k = omega arith in same))

-- AN OUTCOME'S PLAYERS

made_ok : (r : Result Output CodecError) (o : Output) → result_ok r ≡ Some o → r ≡ Ok o
made_ok (Ok x) o e = ap (λ (y : Output). Ok y) (let same : x ≡ o = cc in same)
made_ok (Err f) o e = absurd cc

with_players : (round : Round) (poly revealed : List ℕ) (o : Output) → output_with round poly revealed ≡ Some o → o.players ≡ round.players
unfolding output_with
with_players round poly revealed o e =
    let p = outcome_parts round poly revealed in
    ap (λ (q : OutputParts). q.1.1.1.0) (parts_of_output p (do_parts_agree p) refl o (made_ok (output_from p) o e))

kept_players : (keeps : Bool) (round : Round) (poly revealed : List ℕ) (o : Output) → (if keeps then output_with round poly revealed else None) ≡ Some o → o.players ≡ round.players
kept_players true round poly revealed o e = with_players round poly revealed o e
kept_players false round poly revealed o e = absurd cc

combined_players : (round : Round) (logs : LogMap) (selected : List ℕ) (o : Output) → combined_of round logs selected ≡ Some o → o.players ≡ round.players
unfolding combined_of
combined_players round logs selected o e = kept_players (keeps_key round.previous (sum_of round logs selected)) round (sum_of round logs selected) (revealed_of round logs selected) o e

chosen_players : (round : Round) (logs : LogMap) (selected : Option (List ℕ)) (o : Output) → option_and_then (combined_of round logs) selected ≡ Some o → o.players ≡ round.players
chosen_players round logs None o e = absurd cc
chosen_players round logs (Some selected) o e = combined_players round logs selected o e

pub outcome_players : (round : Round) (logs : LogMap) (o : Output) → outcome_of round logs ≡ Some o → o.players ≡ round.players
unfolding outcome_of
outcome_players round logs o e = chosen_players round logs (selected_of round logs) o e

-- THE INFOS

by_holders : (shown : Shown) (round : Round) (logs : LogMap) (made : Option Output) → outcome_of round logs ≡ made → round.players ≡ everybody → shown.output.players ≡ everybody → (info_by provided shown made).output.players ≡ everybody
by_holders shown round logs None e players before = before
by_holders shown round logs (Some o) e players before = outcome_players round logs o e ∙ players

after_holders : (number : ℕ) (shown : Shown) → shown.output.players ≡ everybody → (info_made_after number shown).output.players ≡ everybody
unfolding info_made_after next_info
after_holders number shown before =
    let logs = by_dealer (logs_made number shown) in
    by_holders shown (round_after shown) logs (outcome_of (round_after shown) logs) refl refl before

by_epoch : (shown : Shown) (made : Option Output) → (info_by provided shown made).epoch ≡ shown.epoch + 1
by_epoch shown None = refl
by_epoch shown (Some o) = refl

after_epoch : (number : ℕ) (shown : Shown) → (info_made_after number shown).epoch ≡ shown.epoch + 1
unfolding info_made_after next_info
after_epoch number shown = by_epoch shown (outcome_of (round_after shown) (by_dealer (logs_made number shown)))

pub holders : (number epoch : ℕ) → (made_info_at number epoch).output.players ≡ everybody
unfolding made_info_at genesis genesis_output
holders number zero = refl
holders number (suc epoch) = after_holders number (made_info_at number epoch) (holders number epoch)

pub epoch_is : (number epoch : ℕ) → (made_info_at number epoch).epoch ≡ epoch
unfolding made_info_at genesis
epoch_is number zero = refl
epoch_is number (suc epoch) = let one = after_epoch number (made_info_at number epoch) in let before = epoch_is number epoch in omega (arith, one, before)
