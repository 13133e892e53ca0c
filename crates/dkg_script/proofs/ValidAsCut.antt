-- A valid script is valid as it was cut: up to there each life is brought the same blocks and asked the same, and each block that is used then is used anyhow.
use Rattle.std.proofs.Common.{ℕ, zero, suc, ◌+◌, ◌≤◌, inl, inr, List, ◌≡◌, refl, sym, ap, subst, ◌∙◌, Option, Some, None, false, arith, length}
use Rattle.std.specs.Prelude.{option_map, IfSome, IsSomeAnd, ◌/◌}
use Rattle.std.proofs.Math.Nat.{div-eq_of_lt, div-zero}
use Rattle.dkg_text.specs.declared.script.Event.{Event}
use Rattle.dkg_text.specs.declared.script.Event.TheVariants as kind
use Rattle.dkg_text.specs.declared.script.Life.{Life}
use Rattle.dkg_script.specs.AsCut.{life_as_cut, with_cuts}
use Rattle.dkg_script.specs.AsCutLaws.{ValidAnyhow}
use Rattle.dkg_script.specs.Blocks.{ScriptBlock, used}
use Rattle.dkg_script.specs.Position.{IsPlanHistory, awaited_epoch, awaited_height_after, cut_of, life_follows}
use Rattle.dkg_script.specs.Progress.{progress}
use Rattle.dkg_script.specs.Promise.{with_plans}
use Rattle.dkg_script.specs.Readings.{Info}
use Rattle.dkg_script.specs.Schedule.{epoch_of}
use Rattle.dkg_script.specs.Setting.{Setting, CutAt, blocks_per_epoch, found, life_at, setting_of}
use Rattle.dkg_script.specs.Valid.{BeginsWell, ComesInTurn, MayEndEpoch, HasPlayers, IsValidCase, IsValidScript, LiesInRange, ProvidesNext, ServesIn}
use Rattle.dkg_script.proofs.AsCut.{its_life}
use Rattle.dkg_script.proofs.ConsistentAsCut.{before_it, consistent_as_cut, height_as_cut, history_of, is_plain, plain_case, same_ends, step_of_life, used_within}
use Rattle.dkg_script.proofs.EarlyScripts.{plain_of}
use Rattle.dkg_script.proofs.FollowsAsCut.{epoch_as_cut, follows_as_cut}
use Rattle.dkg_script.proofs.Members.{all_of, of_all}
use Rattle.dkg_script.proofs.Plain.{IsPlain}
use Rattle.dkg_script.proofs.ScriptedCuts.{ends_as_scripted}

zero_over : (n : ℕ) → 0 / n ≡ 0
zero_over zero = div-zero 0
zero_over (suc n) = div-eq_of_lt (omega arith)

-- the same event ends an epoch
same_end : (s : Setting) (ends : List (Option CutAt)) (epoch : ℕ) (event : Event) → MayEndEpoch (with_cuts ends s) epoch event → MayEndEpoch s epoch event
same_end s ends epoch (kind.Final number) its = its
same_end s ends epoch (kind.Info request) its = tt
same_end s ends epoch _ its = absurd its

module _ (s : Setting) (ends : List (Option CutAt)) (l : ℕ) (life : Life) (no_sync : life.sync ≡ None) (none : found s l ≡ None) (end : Option CutAt) where
  abbrev t : Setting
  t = with_cuts ends s

  abbrev shorter : Life
  shorter = life_as_cut end life

  -- THE DELIVERIES come in turn there
  pub turn_as_cut : ComesInTurn s l life → ComesInTurn (with_cuts ends s) l (life_as_cut end life)
  turn_as_cut turn j number b event comes there =
      let its = step_of_life end life (suc j) (kind.Final number) event in
      let before = before_it j end its.1 in
      let same : awaited_height_after t l shorter j ≡ awaited_height_after s l life j = height_as_cut s ends l life no_sync none end j before in
      elim (turn j number b its.0 comes there) [
        | inl low ↦ inl (subst (λ (n : ℕ). b.height ≤ n) (sym same) low)
        | inr first ↦
            let zeroth : awaited_epoch s l life j ≡ 0 = ap (λ (h : ℕ). epoch_of (blocks_per_epoch s) h) first.0 ∙ zero_over (blocks_per_epoch s) in
            inr (same ∙ first.0, subst (λ (epoch : ℕ). life_follows t l shorter epoch ≡ life_follows s l life epoch) zeroth (follows_as_cut s ends l life no_sync none end j before) ∙ first.1)
      ]

  -- AND THE PROVIDER says as much
  pub provides_as_cut : ProvidesNext s l life → ProvidesNext (with_cuts ends s) l (life_as_cut end life)
  provides_as_cut provides j event is comes ends_epoch takes_part =
      let its = step_of_life end life (suc j) event is in
      let before = before_it j end its.1 in
      let same : awaited_epoch t l shorter j ≡ awaited_epoch s l life j = epoch_as_cut s ends l life no_sync none end j before in
      let ended : MayEndEpoch s (awaited_epoch s l life j) event = same_end s ends (awaited_epoch s l life j) event (subst (λ (epoch : ℕ). MayEndEpoch t epoch event) same ends_epoch) in
      let part : life_follows t l shorter (awaited_epoch s l life j) ≡ false = subst (λ (epoch : ℕ). life_follows t l shorter epoch ≡ false) same takes_part in
      subst (λ (epoch : ℕ). HasPlayers s (epoch + 2)) (sym same)
      (provides j event its.0 comes ended (sym (follows_as_cut s ends l life no_sync none end j before) ∙ part))

module _ (s : Setting) (ends cuts : List (Option CutAt)) (plain : IsPlain s) (history : IsPlanHistory (with_cuts ends s) cuts) (l : ℕ) (begun : l ≤ length cuts)
    (P : Setting → (l : ℕ) → Life → Type 0)
    (stays : (life : Life) (end : Option CutAt) → life.sync ≡ None → found s l ≡ None → P s l life → P (with_cuts ends s) l (life_as_cut end life)) where
  -- what holds of the life in hand holds of it as it was cut
  in_hand_as_cut : IfSome (life_at s l) (P s l) → IfSome (life_at (with_cuts ends s) l) (P (with_cuts ends s) l)
  in_hand_as_cut holds = subst (λ (o : Option Life). IfSome o (P (with_cuts ends s) l)) (sym (its_life ends s.script.lives l)) (by_life (life_at s l) refl holds)
    where
      by_life : (o : Option Life) → life_at s l ≡ o → IfSome o (P s l) → IfSome (option_map (life_as_cut (cut_of ends l)) o) (P (with_cuts ends s) l)
      by_life None is holds = tt
      by_life (Some life) is holds = let its = is_plain s ends cuts plain history l begun life is in stays life (cut_of ends l) its.0 its.1 holds

-- THE SCRIPT

module _ (s : Setting) (ends : List (Option CutAt)) where
  serves_as_cut : (epoch : ℕ) (info : Option Info) → IsSomeAnd info (ServesIn s epoch) → IsSomeAnd info (ServesIn (with_cuts ends s) epoch)
  serves_as_cut epoch None none = absurd none
  serves_as_cut epoch (Some info) its = record { of_epoch = its.of_epoch; accepted = its.accepted; round = its.round }

  begins_as_cut : (b : ScriptBlock) → BeginsWell s b → BeginsWell (with_cuts ends s) b
  begins_as_cut b begins epoch is = serves_as_cut epoch b.info (begins epoch is)

  pub valid_case_as_cut : IsPlain s → IsPlanHistory (with_cuts ends s) ends → IsValidCase s ends → IsValidCase (with_cuts ends s) ends
  valid_case_as_cut plain history valid = record {
    consistent = consistent_as_cut s ends plain history valid.consistent;
    in_turn = λ l began. in_hand_as_cut s ends ends plain history l began ComesInTurn (λ life end no_sync none. turn_as_cut s ends l life no_sync none end) (valid.in_turn l began);
    provided = λ l began. in_hand_as_cut s ends ends plain history l began ProvidesNext (λ life end no_sync none. provides_as_cut s ends l life no_sync none end) (valid.provided l began);
    in_range = all_of (λ b. LiesInRange s b.height × LiesInRange s (b.height + 1)) (used (with_cuts ends s))
        (λ b is. of_all (λ b. LiesInRange s b.height × LiesInRange s (b.height + 1)) (used s) b valid.in_range (used_within s ends b is));
    begins = all_of (BeginsWell (with_cuts ends s)) (used (with_cuts ends s)) (λ b is. begins_as_cut b (of_all (BeginsWell s) (used s) b valid.begins (used_within s ends b is)));
  }

pub valid_as_cut : (s : Setting) (ends : List (Option CutAt)) → IsPlain s → IsValidScript s ends → IsValidScript (with_cuts ends s) ends
valid_as_cut s ends plain valid = record {
  source = λ plans history. valid_case_as_cut (with_plans s plans) ends (plain_case s plans plain) history (valid.source plans (history_of (with_plans s plans) ends ends history));
}

pub valid_anyhow : ValidAnyhow
valid_anyhow script files secrets out built each ordered =
    let s : Setting = setting_of script files secrets in
    let ends = (progress s out).cuts in
    subst (λ (cs : List (Option CutAt)). IsValidScript (with_cuts ends s) cs) (sym (same_ends s out ordered)) (valid_as_cut s ends (plain_of s built) (each ends (ends_as_scripted s out ordered)))
