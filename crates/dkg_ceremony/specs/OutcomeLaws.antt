-- How an outcome is put together, and when there is one.
use Rattle.std.proofs.Common.{◌≡◌, ℕ, zero, suc, ◌+◌, ◌<◌, ◌≤◌, ◌++◌, Bool, true, false, cond, List, [], ◌∷◌, length, get_or, take, Option, Some, None, Ok, refl, sym, ap, ◌∙◌, add-one, arith}
use Rattle.std.specs.Prelude.{◌==◌, ◌&&◌}
use Rattle.std.specs.List.{list_any}
use Rattle.std.specs.Result.{result_ok}
use Rattle.std.proofs.lemmas.List.{append-nil}
use Rattle.dkg_ceremony.specs.declared.round.RoundParts.{RoundParts as Round}
use Rattle.dkg_ceremony.specs.declared.output.Output.{Output}
use Rattle.dkg_ceremony.specs.Agreement.{parts_agree}
use Rattle.dkg_ceremony.specs.Outputs.{OutputParts, output_parts, do_parts_agree, output_where, output_from}
use Rattle.dkg_ceremony.specs.OutputGrammar.{output_of_parts}
use Rattle.dkg_ceremony.specs.Outcomes.{LogMap, keeps_key, output_for, output_with, round_summary, sharing_for, outcome_parts, reveals_at, revealed_from}

-- ---- the loop that lists revealed players

abbrev pub kept_if : Bool → ℕ → List ℕ
kept_if true player = player ∷ []
kept_if false player = []

one : (b : Bool) (p : ℕ) → cond b (p ∷ []) [] ≡ kept_if b p
one true p = refl
one false p = refl

under : (b : Bool) (p : ℕ) (xs ys : List ℕ) → cond b (p ∷ xs) xs ++ ys ≡ cond b (p ∷ (xs ++ ys)) (xs ++ ys)
under true p xs ys = refl
under false p xs ys = refl

revealed_turn : (logs : LogMap) (selected : List ℕ) (index : ℕ) (players : List ℕ) (i d : ℕ) → i < length players
    → revealed_from logs selected index (take (suc i) players) ≡ revealed_from logs selected index (take i players) ++ kept_if (list_any (reveals_at logs (index + i)) selected) (get_or players i d)
revealed_turn logs selected index [] i d lt = absurd (omega arith)
revealed_turn logs selected index (p ∷ ps) zero d lt =
    ap (λ (n : ℕ). cond (list_any (reveals_at logs n) selected) (p ∷ []) []) (omega arith) ∙ one (list_any (reveals_at logs (index + 0)) selected) p
revealed_turn logs selected index (p ∷ ps) (suc i) d lt =
    let next : index + 1 + i ≡ index + suc i = omega arith in
    let h = revealed_turn logs selected (index + 1) ps i d (omega arith) ∙ ap (λ (n : ℕ). revealed_from logs selected (index + 1) (take i ps) ++ kept_if (list_any (reveals_at logs n) selected) (get_or ps i d)) next in
    ap (λ (xs : List ℕ). cond (list_any (reveals_at logs index) selected) (p ∷ xs) xs) h ∙ sym (under (list_any (reveals_at logs index) selected) p (revealed_from logs selected (index + 1) (take i ps)) (kept_if (list_any (reveals_at logs (index + suc i)) selected) (get_or ps i d)))

revealed_more : (logs : LogMap) (selected players : List ℕ) (i d : ℕ) → i < length players
    → revealed_from logs selected 0 (take (i + 1) players) ≡ revealed_from logs selected 0 (take i players) ++ kept_if (list_any (reveals_at logs i) selected) (get_or players i d)
revealed_more logs selected players i d lt =
    let same : 0 + i ≡ i = omega arith in
    rw add-one (revealed_turn logs selected 0 players i d lt ∙ ap (λ (n : ℕ). revealed_from logs selected 0 (take i players) ++ kept_if (list_any (reveals_at logs n) selected) (get_or players i d)) same)

pub revealed_yes : (logs : LogMap) (selected players : List ℕ) (i player : ℕ) → i < length players → list_any (reveals_at logs i) selected ≡ true → player ≡ get_or players i player
    → revealed_from logs selected 0 (take (i + 1) players) ≡ revealed_from logs selected 0 (take i players) ++ player ∷ []
revealed_yes logs selected players i player lt e is =
    revealed_more logs selected players i player lt ∙ ap (λ (b : Bool). revealed_from logs selected 0 (take i players) ++ kept_if b (get_or players i player)) e ∙ ap (λ (k : ℕ). revealed_from logs selected 0 (take i players) ++ k ∷ []) (sym is)

pub revealed_no : (logs : LogMap) (selected players : List ℕ) (i : ℕ) → i < length players → list_any (reveals_at logs i) selected ≡ false → revealed_from logs selected 0 (take (i + 1) players) ≡ revealed_from logs selected 0 (take i players)
revealed_no logs selected players i lt e =
    revealed_more logs selected players i 0 lt ∙ ap (λ (b : Bool). revealed_from logs selected 0 (take i players) ++ kept_if b (get_or players i 0)) e ∙ append-nil (revealed_from logs selected 0 (take i players))

pub revealed_few : (logs : LogMap) (selected : List ℕ) (index : ℕ) (players : List ℕ) → length (revealed_from logs selected index players) ≤ length players
revealed_few logs selected index [] = omega arith
revealed_few logs selected index (p ∷ ps) =
    let h = revealed_few logs selected (index + 1) ps in
    elim (list_any (reveals_at logs index) selected) as (λ b. length (cond b (p ∷ revealed_from logs selected (index + 1) ps) (revealed_from logs selected (index + 1) ps)) ≤ suc (length ps)) [ true ↦ omega arith | false ↦ omega arith ]

-- ---- the output of parts

none_where : (p : OutputParts) (b : Bool) (e : do_parts_agree p ≡ b) → b ≡ false → result_ok (output_where p b e) ≡ None
none_where p true e is = absurd cc
none_where p false e is = refl

pub no_output : (p : OutputParts) → do_parts_agree p ≡ false → result_ok (output_from p) ≡ None
no_output p e = none_where p (do_parts_agree p) refl e

-- an output with these parts is the output of them
pub output_made : (round : Round) (poly revealed : List ℕ) (o : Output) → o.summary ≡ round_summary round → o.sharing ≡ sharing_for round poly → o.dealers ≡ round.dealers → o.players ≡ round.players → o.revealed ≡ revealed
    → Some o ≡ result_ok (output_from (outcome_parts round poly revealed))
output_made round poly revealed o summary sharing dealers players shown =
    let parts : output_parts o ≡ outcome_parts round poly revealed = cc in
    let one : output_from (output_parts o) ≡ Ok o = output_of_parts (output_parts o) o.agree (do_parts_agree (output_parts o)) refl in
    sym (ap result_ok one) ∙ ap (λ (p : OutputParts). result_ok (output_from p)) parts

and_no : (b : Bool) → (b && false) ≡ false
and_no true = refl
and_no false = refl

none_agree : (total : ℕ) (poly players revealed : List ℕ) → length players ≡ 0 → parts_agree total poly players revealed ≡ false
none_agree total poly [] revealed e = rw (and_no (total == 0)) refl
none_agree total poly (p ∷ ps) revealed e = absurd (omega arith)

either_none : (b : Bool) (o : Option Output) → o ≡ None → cond b o None ≡ None
either_none true o e = e
either_none false o e = refl

-- without players there is no output
pub no_players : (round : Round) (poly revealed : List ℕ) → length round.players ≡ 0 → output_for round poly revealed ≡ None
unfolding output_with
no_players round poly revealed e = either_none (keeps_key round.previous poly) (output_with round poly revealed) (no_output (outcome_parts round poly revealed) (none_agree (length round.players) poly round.players revealed e))
