-- Up to where it was cut, a life follows the epoch that it awaits just where it does as it was cut.
use Rattle.std.proofs.Common.{ℕ, zero, suc, ◌-◌, ◌≤◌, List, [], ◌∷◌, ◌++◌, ◌≡◌, refl, sym, ap, ◌∙◌, Option, Some, None, Bool, true, false, cond, arith, take, drop, length, length-take}
use Rattle.std.specs.Prelude.{filter_map, fold, is_none, max, not, option_and_then, slice_get, ◌==◌, ◌&&◌, ◌||◌, nat_lt}
use Rattle.std.specs.List.{list_any}
use Rattle.std.specs.Option.{option_map_or}
use Rattle.std.proofs.lemmas.Bool.{eq-eqb}
use Rattle.std.proofs.lemmas.List.{take-append-drop, take_all}
use Rattle.std.proofs.lemmas.List.Elements.{filter_map-append}
use Rattle.dkg_text.specs.declared.script.Cut.{Cut}
use Rattle.dkg_text.specs.declared.script.Event.{Event}
use Rattle.dkg_text.specs.declared.script.Life.{Life}
use Rattle.dkg_script.specs.AsCut.{life_as_cut, with_cuts}
use Rattle.dkg_script.specs.Blocks.{ScriptBlock, numbered_block, delivered_number, events_come_to, held_at_opening}
use Rattle.dkg_script.specs.Position.{awaited_epoch, awaited_height_after, delivered, enters_blind_at, floor_block, life_follows, lacks_boundary, first_height, starts_blind, starts_late}
use Rattle.dkg_script.specs.Readings.{SyncMaterial}
use Rattle.dkg_script.specs.Schedule.{boundary, epoch_of, midpoint}
use Rattle.dkg_script.specs.Setting.{Setting, CutAt, blocks_per_epoch, found, is_oneshot}
use Rattle.dkg_script.proofs.ConsistentAsCut.{IsBefore, before_all, height_as_cut, same_comes, start_as_cut}
use Rattle.dkg_script.proofs.EarlyScripts.{no_material}

no_events : {A : Type 0} (xs : List A) → take zero xs ≡ []
no_events [] = refl
no_events (x ∷ xs) = refl

none_there : {A : Type 0} (x : A) → ◌≡◌ {A = Option A} None (Some x) → ⊥
none_there x e = cc

first_stays : {A : Type 0} (xs ys : List A) (x : A) → slice_get xs 0 ≡ Some x → slice_get (xs ++ ys) 0 ≡ Some x
first_stays [] ys x is = absurd (none_there x is)
first_stays (z ∷ zs) ys x is = is

few_come_to : (cut : Option Cut) (events : List Event) → length (events_come_to cut events) ≤ length events
few_come_to None events = omega arith
few_come_to (Some cut) events = by_call (cut.call == 0)
  where
    by_call : (b : Bool) → length (cond b (take (cut.step - 1) events) events) ≤ length events
    by_call true = omega (arith, length-take (cut.step - 1) events)
    by_call false = omega arith

-- whether a life follows an epoch, by its parts
abbrev pub follows_by : (oneshot first late blind enters : Bool) → Bool
follows_by oneshot first late blind enters = not oneshot && ((first && (late || blind)) || (blind && enters))

-- its first epoch it follows whatever it enters
first_alone : (oneshot blind one other : Bool) → follows_by oneshot true false blind one ≡ follows_by oneshot true false blind other
first_alone true blind one other = refl
first_alone false true one other = refl
first_alone false false one other = refl

module _ (s : Setting) (l : ℕ) (life : Life) where
  abbrev blocks_in : List Event → List ScriptBlock
  blocks_in some = filter_map (numbered_block s) (filter_map delivered_number some)

  abbrev come_to : List Event
  come_to = events_come_to life.cut life.events

  -- the first block that is delivered stays the first
  first_of_all : (j : ℕ) (b : ScriptBlock) → slice_get (delivered s life j) 0 ≡ Some b → slice_get (delivered s life (length life.events)) 0 ≡ Some b
  first_of_all j b is =
      let all : take (length life.events) come_to ≡ take j come_to ++ drop j come_to =
      take_all (length life.events) come_to (few_come_to life.cut life.events) ∙ sym (take-append-drop j come_to) in
      let split : delivered s life (length life.events) ≡ delivered s life j ++ blocks_in (drop j come_to) =
      ap blocks_in all
      ∙ ap (filter_map (numbered_block s)) (filter_map-append delivered_number (take j come_to) (drop j come_to))
      ∙ filter_map-append (numbered_block s) (filter_map delivered_number (take j come_to)) (filter_map delivered_number (drop j come_to)) in
      ap (λ (bs : List ScriptBlock). slice_get bs 0) split ∙ first_stays (delivered s life j) (blocks_in (drop j come_to)) b is

  pub first_awaited : awaited_height_after s l life 0 ≡ first_height s l life
  unfolding awaited_height_after
  first_awaited = ap (λ (events : List Event). fold (λ height b. max height (suc b.height)) (first_height s l life) (blocks_in events)) (no_events come_to)

  -- where no block was delivered, it awaits what it did first
  still_first : (j : ℕ) → delivered s life j ≡ [] → awaited_height_after s l life j ≡ awaited_height_after s l life 0
  unfolding awaited_height_after
  still_first j none = ap (λ (bs : List ScriptBlock). fold (λ height b. max height (suc b.height)) (first_height s l life) bs) none ∙ sym first_awaited

  -- A LIFE WITHOUT MATERIAL follows by its boundary block alone
  module _ (no_sync : life.sync ≡ None) (none : found s l ≡ None) where
    not_late : starts_late s l life ≡ false
    not_late =
        ap (λ (m : Option SyncMaterial). option_map_or (λ b. nat_lt (midpoint (blocks_per_epoch s) (epoch_of (blocks_per_epoch s) b.height)) b.height) (option_and_then (floor_block s life) m) false)
        (no_material s l life no_sync none)

    blind_is : starts_blind s l life ≡ lacks_boundary s l life
    blind_is = ap (λ (m : Option SyncMaterial). is_none m && lacks_boundary s l life) (no_material s l life no_sync none)

    follows_is : (epoch : ℕ) → life_follows s l life epoch ≡ follows_by (is_oneshot s) (epoch == awaited_epoch s l life 0) false (lacks_boundary s l life) (enters_blind_at s l life epoch)
    follows_is epoch =
        ap (λ (late : Bool). follows_by (is_oneshot s) (epoch == awaited_epoch s l life 0) late (starts_blind s l life) (enters_blind_at s l life epoch)) not_late
        ∙ ap (λ (blind : Bool). follows_by (is_oneshot s) (epoch == awaited_epoch s l life 0) false blind (enters_blind_at s l life epoch)) blind_is

module _ (s : Setting) (ends : List (Option CutAt)) (l : ℕ) (life : Life) (no_sync : life.sync ≡ None) (none : found s l ≡ None) (end : Option CutAt) where
  abbrev t : Setting
  t = with_cuts ends s

  abbrev shorter : Life
  shorter = life_as_cut end life

  pub epoch_as_cut : (j : ℕ) → IsBefore j end → awaited_epoch (with_cuts ends s) l (life_as_cut end life) j ≡ awaited_epoch s l life j
  epoch_as_cut j before = ap (λ (height : ℕ). epoch_of (blocks_per_epoch s) height) (height_as_cut s ends l life no_sync none end j before)

  begins_same : awaited_epoch t l shorter 0 ≡ awaited_epoch s l life 0
  begins_same = epoch_as_cut 0 (before_all end)

  lacks_same : lacks_boundary t l shorter ≡ lacks_boundary s l life
  lacks_same = ap (λ (e : ℕ). not (list_any (λ b. b.height == boundary (blocks_per_epoch s) e) (held_at_opening s life))) begins_same

  pub follows_as_cut : (j : ℕ) → IsBefore j end → life_follows (with_cuts ends s) l (life_as_cut end life) (awaited_epoch s l life j) ≡ life_follows s l life (awaited_epoch s l life j)
  follows_as_cut j before =
      follows_is t l shorter no_sync none (awaited_epoch s l life j)
      ∙ ap (λ (first : ℕ). follows_by (is_oneshot s) (awaited_epoch s l life j == first) false (lacks_boundary t l shorter) (enters_blind_at t l shorter (awaited_epoch s l life j))) begins_same
      ∙ ap (λ (lacks : Bool). follows_by (is_oneshot s) (awaited_epoch s l life j == awaited_epoch s l life 0) false lacks (enters_blind_at t l shorter (awaited_epoch s l life j))) lacks_same
      ∙ by_list (delivered s life j) refl
      ∙ sym (follows_is s l life no_sync none (awaited_epoch s l life j))
    where
      by_list : (bs : List ScriptBlock) → delivered s life j ≡ bs
          → follows_by (is_oneshot s) (awaited_epoch s l life j == awaited_epoch s l life 0) false (lacks_boundary s l life) (enters_blind_at t l shorter (awaited_epoch s l life j))
          ≡ follows_by (is_oneshot s) (awaited_epoch s l life j == awaited_epoch s l life 0) false (lacks_boundary s l life) (enters_blind_at s l life (awaited_epoch s l life j))
      by_list [] is =
          let same : awaited_epoch s l life j ≡ awaited_epoch s l life 0 = ap (λ (height : ℕ). epoch_of (blocks_per_epoch s) height) (still_first s l life j is) in
          let first : (awaited_epoch s l life j == awaited_epoch s l life 0) ≡ true = eq-eqb (awaited_epoch s l life j) (awaited_epoch s l life 0) same in
          ap (λ (b : Bool). follows_by (is_oneshot s) b false (lacks_boundary s l life) (enters_blind_at t l shorter (awaited_epoch s l life j))) first
          ∙ first_alone (is_oneshot s) (lacks_boundary s l life) (enters_blind_at t l shorter (awaited_epoch s l life j)) (enters_blind_at s l life (awaited_epoch s l life j))
          ∙ ap (λ (b : Bool). follows_by (is_oneshot s) b false (lacks_boundary s l life) (enters_blind_at s l life (awaited_epoch s l life j))) (sym first)
      by_list (b ∷ bs) is =
          let here : slice_get (delivered s life j) 0 ≡ Some b = ap (λ (its : List ScriptBlock). slice_get its 0) is in
          let there : slice_get (delivered t shorter j) 0 ≡ Some b =
          ap (λ (events : List Event). slice_get (filter_map (numbered_block s) (filter_map delivered_number events)) 0) (same_comes j life.cut end life.events before) ∙ here in
          let one : slice_get (delivered t shorter (length shorter.events)) 0 ≡ slice_get (delivered s life (length life.events)) 0 =
          first_of_all t l shorter j b there ∙ sym (first_of_all s l life j b here) in
          let enters : enters_blind_at t l shorter (awaited_epoch s l life j) ≡ enters_blind_at s l life (awaited_epoch s l life j) =
          ap (λ (height : ℕ). (height == 0) && option_map_or (λ (x : ScriptBlock). epoch_of (blocks_per_epoch s) x.height == awaited_epoch s l life j) (slice_get (delivered t shorter (length shorter.events)) 0) false)
          (start_as_cut s ends l life no_sync none end)
          ∙ ap (λ (o : Option ScriptBlock). (first_height s l life == 0) && option_map_or (λ (x : ScriptBlock). epoch_of (blocks_per_epoch s) x.height == awaited_epoch s l life j) o false) one in
          ap (λ (b : Bool). follows_by (is_oneshot s) (awaited_epoch s l life j == awaited_epoch s l life 0) false (lacks_boundary s l life) b) enters
